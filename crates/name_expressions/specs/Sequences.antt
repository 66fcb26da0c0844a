-- What a value sequence is folded to, as it is held.
use Rattle.std.specs.Prelude.{◌≡◌, ℕ, List, Option, Some, None, Result, Ok, Err}
use Rattle.syntax_tree.specs.Syntax.{Expr, Iter, OptionalParallel}
use Rattle.typed_tree.specs.Decoded.{TypedPart}
use Rattle.typed_tree.specs.Latest.{top, second, third, fourth, pop}
use Rattle.name_rules.specs.Found.{Found}
use Rattle.name_rules.specs.Judges.{found_of, part_if}
use Rattle.name_rules.specs.Expressions.{Inside, expr}
use Rattle.name_rules.specs.Iterations.{entered, sequence_given}
use Rattle.name_rules.specs.Judging.{Judging, both, given, pure, ◌>>=◌}
use Rattle.name_rules.specs.Reducers.{folded_by}
use Rattle.name_rules.specs.declared.found.Folding.{Folding}
use Rattle.name_rules.specs.declared.found.Found.{Found as Known}
use Rattle.name_rules.specs.declared.log.Log.{Log}
use Rattle.name_rules.specs.declared.scope.Context.{Context}
use Rattle.name_rules.specs.declared.scope.Names.{Names}
use Rattle.name_rules.specs.declared.types.Wanted.TheVariants as wanted
use Rattle.typed_tree.specs.declared.program.SiteKind.TheVariants as site
use Rattle.name_expressions.specs.declared.iterations.Folded.{Folded}
use Rattle.name_values.specs.declared.walks.Entering.{Entering}

-- it judges a sequence so, and leaves what it is folded to
abbrev pub Folds : {E : Type 0} → (Option ℕ × Option Found) × Log → List TypedPart → Result Folded E → Log → List TypedPart → Type 0
Folds outcome rest (Ok f) log now = (outcome ≡ ((f.reverse, found_of f.found (top now)), log)) × (pop now ≡ rest)
Folds outcome rest (Err e) log now = Unit {0}

-- a chunk specification, an iteration, a value and an initial value, which are the latest parts
abbrev pub folded_where : ℕ → ℕ → Entering → Option Folding → Option Known → Option Known → List TypedPart → Judging (Option Found)
folded_where bracket attribute e f x v now = given f (λ g. both (found_of x (second now)) (found_of v (top now)) (λ a b.
    both (part_if e.chunk (fourth now)) (part_if e.iteration (third now)) (λ c i. folded_by (record { at = bracket; attribute = attribute; site = e.construct }) c i g a b)))

-- a value sequence that this reducer folds, whose iteration is declared in an inner scope
abbrev pub folded_within : Names → Inside → Context → Context → ℕ → OptionalParallel → Iter → Expr → ℕ → Option Folding → Expr → Judging (Option ℕ × Option Found)
folded_within names level inner here bracket p i value attribute f initial = do
  e ← entered names level level inner site.Reduction p i
  x ← expr names level e.here wanted.Other value
  v ← expr names level here wanted.Other initial
  z ← given f (λ g. both x v (sequence_given bracket attribute e g))
  pure (e.reverse, z)
