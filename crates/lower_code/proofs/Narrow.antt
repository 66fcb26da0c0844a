-- Flags that are lost where a number has no room.
use Rattle.std.proofs.Common.{◌≡◌, refl, sym, ap, ◌∙◌, Bool, true, false}
use Rattle.std.specs.Prelude.{◌&&◌}

and_true : (w : Bool) → w ≡ (w && true)
and_true true = refl
and_true false = refl

and_false : (w : Bool) → false ≡ (w && false)
and_false true = refl
and_false false = refl

pub flag_kept : (w b : Bool) → b ≡ true → w ≡ (w && b)
flag_kept w b e = and_true w ∙ ap (λ c. w && c) (sym e)

pub flag_lost : (w b : Bool) → b ≡ false → false ≡ (w && b)
flag_lost w b e = and_false w ∙ ap (λ c. w && c) (sym e)
