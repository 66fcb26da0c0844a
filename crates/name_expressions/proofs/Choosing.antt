-- The type that the values of a conditional expression have together, found from the last value on.
use Rattle.std.proofs.Common.{◌≡◌, refl, ap, ◌∙◌, sym, ℕ, ◌-◌, ◌<◌, List, ◌∷◌, Option, Some, take, reverse}
use Rattle.std.specs.Prelude.{slice_get}
use Rattle.name_rules.specs.Values.{kind_of}
use Rattle.name_rules.specs.Primaries as spec
use Rattle.name_rules.specs.declared.found.Found.{Found}
use Rattle.name_rules.specs.declared.types.Kind.{Kind}
use Rattle.name_expressions.proofs.Backward.{back_step}

pub common_step : (xs : List Found) (i : ℕ) (x : Found) (first next wanted : Option Kind × Option ℕ) (kind : Option Kind) (number : Option ℕ) → 0 < i → slice_get xs (i - 1) ≡ Some x
    → kind ≡ kind_of x → number ≡ spec.composite_in x → next ≡ spec.type_or first kind number
    → spec.common (reverse (take i xs)) first ≡ wanted → spec.common (reverse (take (i - 1) xs)) next ≡ wanted
common_step xs i x first next wanted kind number h e k n is before =
    ap (λ t. spec.common (reverse (take (i - 1) xs)) t) (is ∙ ap (λ a. spec.type_or first a number) k ∙ ap (λ b. spec.type_or first (kind_of x) b) n)
    ∙ sym (ap (λ zs. spec.common zs first) (back_step xs i x h e))
    ∙ before
