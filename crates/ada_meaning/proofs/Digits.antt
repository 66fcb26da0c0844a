-- Folds of numbers of modular types.
use Rattle.std.proofs.Common.{◌≡◌, ℕ, ◌+◌, ◌-◌, ◌*◌, ◌%◌, ◌/◌, ◌<◌, ◌^◌, min, ℤ, pos, negsuc, int_le, Bool, true, false, ◌&&◌, sym, ap, ◌∙◌, refl, true≢false, arith}
use Rattle.std.proofs.Math.Nat.{add-mod, mod-mod, mul_comm, mul_assoc}
use Rattle.std.proofs.lemmas.Nat.{mul-mod_first, mul-mod_second}
use lib.Arith.{bin_ind}
use lib.Bits.{or_step}
use Rattle.std.proofs.lemmas.Nat.{or_comm, or_shr}
use Rattle.std.specs.Int.RustNames.{bit_or, unsigned_abs}
use Rattle.ada_base.specs.declared.operation.Base.TheVariants.{Modulo}
use Rattle.ada_base.specs.Operation.{turned, digits, modulus, is_in_base}
use Rattle.ada_base.proofs.Turning.{turned_twice}

pub or_assoc : (c a b : ℕ) → bit_or (bit_or a b) c ≡ bit_or a (bit_or b c)
or_assoc =
    bin_ind (λ (c : ℕ). (a b : ℕ) → bit_or (bit_or a b) c ≡ bit_or a (bit_or b c)) (λ a b. or_comm (bit_or a b) 0 ∙ sym (ap (bit_or a) (or_comm b 0)))
    (λ c ih a b.
    let p : bit_or (bit_or a b / 2) (c / 2) ≡ bit_or (a / 2) (bit_or b c / 2) = ap (λ x. bit_or x (c / 2)) (or_shr a b 1) ∙ ih (a / 2) (b / 2) ∙ sym (ap (bit_or (a / 2)) (or_shr b c 1)) in
    omega (arith, or_step (bit_or a b) c, or_step a (bit_or b c), or_step a b, or_step b c))

pub sum_assoc : (m a b c : ℕ) → ((a + b) % m + c) % m ≡ (a + (b + c) % m) % m
sum_assoc m a b c =
    add-mod ((a + b) % m) c m ∙ ap (λ x. (x + c % m) % m) (mod-mod (a + b) m) ∙ sym (add-mod (a + b) c m)
    ∙ ap (λ x. x % m) (omega arith)
    ∙ add-mod a (b + c) m ∙ ap (λ x. (a % m + x) % m) (sym (mod-mod (b + c) m)) ∙ sym (add-mod a ((b + c) % m) m)

pub product_assoc : (m a b c : ℕ) → ((a * b) % m * c) % m ≡ (a * ((b * c) % m)) % m
product_assoc m a b c = mul-mod_first (a * b) c m ∙ ap (λ x. x % m) (mul_assoc a b c) ∙ sym (mul-mod_second a (b * c) m)

-- a value of the type is what is kept of its number
pub kept_again : (k : ℕ) (z : ℤ) → is_in_base (Modulo k) z ≡ true → turned (pos (digits z)) ≡ z
kept_again k z h = go (turned z) refl h
  where
    go : (x : ℤ) → turned z ≡ x → (int_le (pos 0) x && int_le x (pos (modulus k - 1))) ≡ true → turned (pos (unsigned_abs x)) ≡ z
    go (pos n) e g = ap turned (sym e) ∙ turned_twice z
    go (negsuc n) e g = absurd (true≢false (sym g))

pub digits_kept : (n : ℕ) → digits (turned (pos n)) ≡ n
digits_kept n = ap unsigned_abs (turned_twice (pos n))
