-- Powers with a large exponent: 0, 1 and -1, or a number that 128 bits don't hold.
use Rattle.std.proofs.Common.{◌≡◌, refl, sym, ◌∙◌, ◌≤◌, ◌^◌, ◌%◌, ◌==◌, ◌+◌, nat_lt, int_lt, unsigned_abs, FitsSigned, ℕ, zero, suc, Bool, true, false, ℤ, pos, negsuc, neg_ℤ, Option, Some, None, if◌then◌else◌, arith, le_trans, pow_mono, pow-suc, mul-zero}
use Rattle.std.proofs.Math.Nat.{pow-le-pow_left}
use Rattle.std.proofs.lemmas.Int.{ints}
use Rattle.std.proofs.lemmas.Bool.Decides.{nat_tests}
use Rattle.std.specs.Int.{int_pow, w128}
use Rattle.std.specs.Option.{SomeIff}
use Rattle.ada_base.specs.Operation.{power}
use Rattle.name_rules.specs.Values.{bounded}

-- m, or -m where the exponent is odd
abbrev signed : Bool → ℕ → ℤ
signed is_even m = if is_even then pos m else neg_ℤ (pos m)

power-of_zero : (e : ℕ) → 128 ≤ e → 0 ^ e ≡ 0
power-of_zero zero h = absurd (omega arith)
power-of_zero (suc e) h = rw pow-suc (mul-zero (0 ^ e))

power-of_one : (e : ℕ) → 1 ^ e ≡ 1
power-of_one zero = refl
power-of_one (suc e) = rw (pow-suc, power-of_one e) refl

large : (n e : ℕ) → 128 ≤ e → 2 ^ 128 ≤ suc (suc n) ^ e
large n e h = let two : 2 ≤ suc (suc n) = omega arith in le_trans (pow_mono h) (pow-le-pow_left two e)

outside : (is_even : Bool) (m : ℕ) → 2 ^ 128 ≤ m → bounded (Some (signed is_even m)) ≡ None
outside true m h = grind (arith, nat_tests)
outside false zero h = absurd (omega arith)
outside false (suc m) h = grind (arith, nat_tests)

-- of two large exponents, both even or both odd, the results are the same
same_power : (is_even : Bool) (a e k : ℕ) → 128 ≤ e → 128 ≤ k
    → bounded (Some (signed is_even (a ^ e))) ≡ bounded (Some (signed is_even (a ^ k)))
same_power b zero e k h i = rw (power-of_zero e h, power-of_zero k i) refl
same_power b (suc zero) e k h i = rw (power-of_one e, power-of_one k) refl
same_power b (suc (suc n)) e k h i =
    outside b (suc (suc n) ^ e) (large n e h) ∙ sym (outside b (suc (suc n) ^ k) (large n k i))

pub bounded-int_pow : (a : ℤ) (e k : ℕ) → 128 ≤ e → 128 ≤ k → e % 2 ≡ k % 2
    → bounded (Some (int_pow a e)) ≡ bounded (Some (int_pow a k))
bounded-int_pow (pos a) e k h i p = same_power true a e k h i
bounded-int_pow (negsuc a) e k h i p = rw p (same_power (k % 2 == 0) (suc a) e k h i)

-- what a checked operation on 128 bits answers
checked-bounded : (r : Option ℤ) (z : ℤ) → SomeIff r (FitsSigned w128 z) z → r ≡ bounded (Some z)
checked-bounded None z s = grind (arith, ints, nat_tests)
checked-bounded (Some y) z s = grind (arith, ints, nat_tests)

-- so a checked power with a short exponent answers for the exponent itself
pub checked-power : (r : Option ℤ) (a b : ℤ) (k : ℕ) → int_lt b (pos 0) ≡ false
    → k ≡ (if nat_lt (unsigned_abs b) 128 then unsigned_abs b else 128 + unsigned_abs b % 2)
    → SomeIff r (FitsSigned w128 (int_pow a k)) (int_pow a k) → r ≡ bounded (power a b)
checked-power r a (negsuc n) k h e s = cc
checked-power r a (pos n) k h e s = checked-bounded r (int_pow a k) s ∙ go (nat_lt n 128) refl (sym e)
  where
    go : (b : Bool) → nat_lt n 128 ≡ b → (if b then n else 128 + n % 2) ≡ k
        → bounded (Some (int_pow a k)) ≡ bounded (Some (int_pow a n))
    go true t e = rw e refl
    go false t e = sym (bounded-int_pow a n k (grind (arith, nat_tests)) (omega arith) (omega arith))
