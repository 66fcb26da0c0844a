-- Numbers of 32 bits, and of 64.
use Rattle.std.proofs.Common.{◌≡◌, zero, suc, ℤ, pos, negsuc, ◌+ℤ◌, ◌-ℤ◌, ◌*ℤ◌, ◌≤◌, Option, Some, None, SomeIff, if◌then◌else◌, Bool, true, false, true≢false, refl, sym, ap, ◌∙◌, arith, w64, FitsSigned}
use Rattle.std.proofs.lemmas.Bool.Decides.{nat_tests}
use Rattle.std.proofs.lemmas.Int.{ints, fits_signed_mul}
use Rattle.std.specs.Prelude.{int_lt, unsigned_abs}
use Rattle.ada_base.proofs.Turning.{not-kept}
use Rattle.ada_base.specs.declared.operation.Base.{Base}
use Rattle.ada_base.specs.declared.operation.Base.TheVariants.{Narrow, Wide, Modulo}
use Rattle.ada_base.specs.Operation.{is_in_base, within}

narrow_abs : (z : ℤ) → is_in_base Narrow z ≡ true → unsigned_abs z ≤ 2147483648
narrow_abs (pos n) e = grind (arith, ints, nat_tests)
narrow_abs (negsuc n) e = grind (arith, ints, nat_tests)

pub narrow_product : (x y : ℤ) → is_in_base Narrow x ≡ true → is_in_base Narrow y ≡ true → FitsSigned w64 (x *ℤ y)
narrow_product x y e f = fits_signed_mul w64 x y 2147483648 2147483648 (narrow_abs x e) (narrow_abs y f) (omega arith)

-- a number of a base range is one of 64 bits
wide_fits : (z : ℤ) → is_in_base Wide z ≡ true → FitsSigned w64 z
wide_fits (pos n) e = record { sfits = grind (arith, ints, nat_tests) }
wide_fits (negsuc n) e = record { sfits = grind (arith, ints, nat_tests) }

in_fits : (base : Base) (z : ℤ) → is_in_base base z ≡ true → FitsSigned w64 z
in_fits Narrow (pos n) e = record { sfits = grind (arith, ints, nat_tests) }
in_fits Narrow (negsuc n) e = record { sfits = grind (arith, ints, nat_tests) }
in_fits Wide z e = wide_fits z e
in_fits (Modulo k) z e = go (is_in_base Wide z) refl
  where
    go : (b : Bool) → is_in_base Wide z ≡ b → FitsSigned w64 z
    go true f = wide_fits z f
    go false f = absurd (true≢false (sym e ∙ not-kept k z f))

pub product_within : (base : Base) (z : ℤ) (r : Option ℤ) → SomeIff r (FitsSigned w64 z) z → within base r ≡ within base (Some z)
product_within base z (Some v) h = ap (λ w. within base (Some w)) h.1
product_within base z None h = none (is_in_base base z) refl
  where
    none : (b : Bool) → is_in_base base z ≡ b → ◌≡◌ {A = Option ℤ} None (if b then Some z else None)
    none true e = absurd (h (in_fits base z e))
    none false e = refl

-- what is below another of 64 bits has a next one of 64 bits
pub above_fits : (x y : ℤ) → FitsSigned w64 x → FitsSigned w64 y → int_lt x y ≡ true → FitsSigned w64 (x +ℤ pos 1)
above_fits (pos n) (pos k) f g e = record { sfits = grind (arith, ints, nat_tests, g.sfits) }
above_fits (pos n) (negsuc k) f g e = cc
above_fits (negsuc zero) y f g e = record { sfits = omega arith }
above_fits (negsuc (suc n)) y f g e = record { sfits = grind (arith, ints, f.sfits) }

-- and what is above another of 64 bits a last one
pub below_fits : (x y : ℤ) → FitsSigned w64 x → FitsSigned w64 y → int_lt y x ≡ true → FitsSigned w64 (x -ℤ pos 1)
below_fits (pos n) y f g e = record { sfits = grind (arith, ints, f.sfits) }
below_fits (negsuc n) (pos k) f g e = cc
below_fits (negsuc n) (negsuc k) f g e = record { sfits = grind (arith, ints, nat_tests, g.sfits) }
