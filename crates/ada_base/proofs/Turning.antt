-- Numbers of modular types, and the words of 64 binary digits that keep them.
use Rattle.std.proofs.Common.{◌≡◌, refl, sym, ap, subst, ◌∙◌, ◌≤◌, ◌<◌, ◌^◌, ◌%◌, ◌/◌, ◌*◌, ◌+◌, ◌-◌, min, nat_lt, FitsSigned, w64, ℕ, zero, suc, Bool, true, false, ◌⊎◌, inl, inr, ℤ, pos, negsuc, neg_ℤ, ◌+ℤ◌, ◌-ℤ◌, if◌then◌else◌, int_lt, int_le, ◌&&◌, unsigned_abs, pow_mono, Some, None, option_map, true≢false, arith}
use Rattle.std.proofs.Math.Nat.{mod-mod, mul-add-mod_self_right, suc-mul}
use Rattle.std.proofs.Math.IntN.{+ℤ_idl}
use Rattle.std.proofs.lemmas.Nat.{pow_pos, pow-add, mod-pow-add, one_shl, and_mask, mod_low}
use Rattle.std.proofs.lemmas.Bool.{lt-ltb, le-ltb, ltb-true, ltb-false}
use Rattle.std.proofs.lemmas.Bool.Decides.{nat_tests}
use Rattle.std.proofs.lemmas.Int.{ints, int_rem_euclid_is}
use Rattle.std.specs.Int.{cast_unsigned, int_pow}
use Rattle.std.specs.Int.RustNames.{bit_and}
use Rattle.ada_base.specs.Operation.{turned, digits, modulus, reduced, power, is_in_base}
use Rattle.ada_base.specs.declared.operation.Base.TheVariants.{Narrow, Wide, Modulo}

pub split : (n m : ℕ) → (n < m) ⊎ (m ≤ n)
split n m = go (nat_lt n m) refl
  where
    go : (b : Bool) → nat_lt n m ≡ b → (n < m) ⊎ (m ≤ n)
    go true e = inl (ltb-true n m e)
    go false e = inr (ltb-false n m e)

chosen : {A : Type 0} (b c : Bool) (x y : A) → b ≡ c → (if b then x else y) ≡ (if c then x else y)
chosen b c x y e = ap (λ z. if z then x else y) e

-- where a number turns

low : (n : ℕ) → n < 2 ^ 63 → turned (pos n) ≡ pos n
low n h = chosen (nat_lt n (2 ^ 63)) true (pos n) (if nat_lt n (2 ^ 64) then negsuc (2 ^ 64 - suc n) else pos n) (lt-ltb n (2 ^ 63) h)

high : (n : ℕ) → 2 ^ 63 ≤ n → n < 2 ^ 64 → turned (pos n) ≡ negsuc (2 ^ 64 - suc n)
high n g h = chosen (nat_lt n (2 ^ 63)) false (pos n) (if nat_lt n (2 ^ 64) then negsuc (2 ^ 64 - suc n) else pos n) (le-ltb n (2 ^ 63) g)
    ∙ chosen (nat_lt n (2 ^ 64)) true (negsuc (2 ^ 64 - suc n)) (pos n) (lt-ltb n (2 ^ 64) h)

beyond : (n : ℕ) → 2 ^ 64 ≤ n → turned (pos n) ≡ pos n
beyond n h = chosen (nat_lt n (2 ^ 63)) false (pos n) (if nat_lt n (2 ^ 64) then negsuc (2 ^ 64 - suc n) else pos n) (le-ltb n (2 ^ 63) (omega arith))
    ∙ chosen (nat_lt n (2 ^ 64)) false (negsuc (2 ^ 64 - suc n)) (pos n) (le-ltb n (2 ^ 64) h)

negative : (n : ℕ) → n < 2 ^ 63 → turned (negsuc n) ≡ pos (2 ^ 64 - suc n)
negative n h = chosen (nat_lt n (2 ^ 63)) true (pos (2 ^ 64 - suc n)) (negsuc n) (lt-ltb n (2 ^ 63) h)

below : (n : ℕ) → 2 ^ 63 ≤ n → turned (negsuc n) ≡ negsuc n
below n h = chosen (nat_lt n (2 ^ 63)) false (pos (2 ^ 64 - suc n)) (negsuc n) (le-ltb n (2 ^ 63) h)

-- turned twice, a number is there again
pub turned_twice : (z : ℤ) → turned (turned z) ≡ z
turned_twice (pos n) = go (split n (2 ^ 63)) (split n (2 ^ 64))
  where
    go : (n < 2 ^ 63) ⊎ (2 ^ 63 ≤ n) → (n < 2 ^ 64) ⊎ (2 ^ 64 ≤ n) → turned (turned (pos n)) ≡ pos n
    go (inl h) k = ap turned (low n h) ∙ low n h
    go (inr h) (inl k) = ap turned (high n h k) ∙ negative (2 ^ 64 - suc n) (omega arith) ∙ ap pos (omega arith)
    go (inr h) (inr k) = ap turned (beyond n k) ∙ beyond n k
turned_twice (negsuc n) = go (split n (2 ^ 63))
  where
    go : (n < 2 ^ 63) ⊎ (2 ^ 63 ≤ n) → turned (turned (negsuc n)) ≡ negsuc n
    go (inl h) = ap turned (negative n h) ∙ high (2 ^ 64 - suc n) (omega arith) (omega arith) ∙ ap negsuc (omega arith)
    go (inr h) = ap turned (below n h) ∙ below n h

-- the words
pub word_of : (z : ℤ) → FitsSigned w64 z → pos (cast_unsigned w64 z) ≡ turned z
word_of (pos n) f = sym (low n (f.sfits))
word_of (negsuc n) f = sym (negative n (f.sfits))

pub digits_of : (z : ℤ) → FitsSigned w64 z → cast_unsigned w64 z ≡ digits z
digits_of z f = ap unsigned_abs (word_of z f)

pub number_of : (z : ℤ) → FitsSigned w64 z → pos (digits z) ≡ turned z
number_of z f = ap pos (sym (digits_of z f)) ∙ word_of z f

-- remainders

-- 64 binary digits have all that k of them have
pub of_word : (n k : ℕ) → n % 2 ^ 64 % modulus k ≡ n % modulus k
of_word n k =
    let i : ℕ = min k 64 in
    let e : 64 ≡ (64 - i) + i = omega arith in
    ap (λ w. n % 2 ^ w % 2 ^ i) e
    ∙ ap (λ m. m % 2 ^ i) (mod-pow-add n (64 - i) i)
    ∙ mul-add-mod_self_right (n / 2 ^ i % 2 ^ (64 - i)) (2 ^ i) (n % 2 ^ i)
    ∙ mod-mod n (2 ^ i)

pub masked : (n k : ℕ) → k < 64 → bit_and n (1 * 2 ^ k % 2 ^ 64 - 1) ≡ n % modulus k
masked n k h = ap (λ m. bit_and n (m - 1)) (one_shl k 64 h) ∙ and_mask n k ∙ ap (λ i. n % 2 ^ i) (omega arith)

pub less_is : (a b k : ℕ) → b < 2 ^ 64 → pos ((a + (2 ^ 64 - b)) % 2 ^ 64 % modulus k) ≡ reduced k (pos a -ℤ pos b)
less_is a b k h = ap pos (of_word (a + (2 ^ 64 - b)) k)
    ∙ sym (int_rem_euclid_is (pos a -ℤ pos b) (pos (modulus k)) (modulus k) (2 ^ (64 - min k 64)) (a + (2 ^ 64 - b)) (pow_pos (min k 64)) refl there)
  where
    sizes : (64 - min k 64) + min k 64 ≡ 64
    sizes = omega arith

    whole : 2 ^ (64 - min k 64) * 2 ^ min k 64 ≡ 2 ^ 64
    whole = sym (pow-add 2 (64 - min k 64) (min k 64)) ∙ ap (λ i. 2 ^ i) sizes

    there : (pos a -ℤ pos b) +ℤ pos (2 ^ (64 - min k 64) * 2 ^ min k 64) ≡ pos (a + (2 ^ 64 - b))
    there = let w = whole in omega (arith, ints)

pub power_is : (k a : ℕ) (b : ℤ) (r w : ℕ) → is_in_base Narrow b ≡ true → int_lt b (pos 0) ≡ false → w ≡ a ^ unsigned_abs b % 2 ^ 64 → r ≡ w % modulus k
    → Some (pos r) ≡ (if is_in_base Narrow b then option_map (reduced k) (power (pos a) b) else None)
power_is k a (negsuc n) r w t h e f = absurd (true≢false h)
power_is k a (pos n) r w t h e f =
    ap (λ (m : ℕ). Some (pos m)) (f ∙ ap (λ m. m % modulus k) e ∙ of_word (a ^ n) k)
    ∙ chosen true (is_in_base Narrow (pos n)) (Some (reduced k (int_pow (pos a) n))) None (sym t)

split_one : (a b : ℕ) → 0 < a → 0 < b → a * b ≡ 2 ^ 64 → 2 ^ 64 - 1 ≡ (a - 1) * b + (b - 1)
split_one zero b p q e = absurd (omega arith)
split_one (suc a) b p q e = let f : suc a * b ≡ a * b + b = suc-mul a b in let g : suc a - 1 ≡ a = omega arith in ap (λ n. n - 1) (sym e ∙ f) ∙ add_less (a * b) b q ∙ ap (λ n. n * b + (b - 1)) (sym g)
  where
    add_less : (m n : ℕ) → 0 < n → m + n - 1 ≡ m + (n - 1)
    add_less m n h = omega arith

-- the greatest number
pub greatest_is : (k : ℕ) → (2 ^ 64 - 1) % modulus k ≡ modulus k - 1
greatest_is k = ap (λ n. n % 2 ^ i) parts ∙ mod_low (2 ^ (64 - i) - 1) i (2 ^ i - 1) fewer
  where
    i : ℕ
    i = min k 64

    sizes : (64 - i) + i ≡ 64
    sizes = omega arith

    whole : 2 ^ (64 - i) * 2 ^ i ≡ 2 ^ 64
    whole = sym (pow-add 2 (64 - i) i) ∙ ap (λ n. 2 ^ n) sizes

    fewer : 2 ^ i - 1 < 2 ^ i
    fewer = let p = pow_pos i in omega arith

    parts : 2 ^ 64 - 1 ≡ (2 ^ (64 - i) - 1) * 2 ^ i + (2 ^ i - 1)
    parts = let p = pow_pos i in let q = pow_pos (64 - i) in split_one (2 ^ (64 - i)) (2 ^ i) q p whole

-- what 64 bits don't hold is no number of a modular type
too-great : (k n : ℕ) → 2 ^ 64 ≤ n → int_le (pos n) (pos (modulus k - 1)) ≡ false
too-great k n h = le_false n (modulus k - 1) less
  where
    le_false : (a b : ℕ) → b < a → int_le (pos a) (pos b) ≡ false
    le_false a b l = grind (arith, nat_tests)

    small : modulus k ≤ 2 ^ 64
    small = let few : min k 64 ≤ 64 = omega arith in pow_mono few

    less : modulus k - 1 < n
    less = let s = small in let p = pow_pos (min k 64) in omega arith

held-pos : (n : ℕ) → n < 2 ^ 63 → is_in_base Wide (pos n) ≡ true
held-pos n h = grind (arith, nat_tests)

held-neg : (n : ℕ) → n < 2 ^ 63 → is_in_base Wide (negsuc n) ≡ true
held-neg n h = grind (arith, nat_tests)

never : (b : Bool) → (b && false) ≡ false
never true = refl
never false = refl

pub not-kept : (k : ℕ) (z : ℤ) → is_in_base Wide z ≡ false → is_in_base (Modulo k) z ≡ false
not-kept k (pos n) e = go (split n (2 ^ 63)) (split n (2 ^ 64))
  where
    go : (n < 2 ^ 63) ⊎ (2 ^ 63 ≤ n) → (n < 2 ^ 64) ⊎ (2 ^ 64 ≤ n) → is_in_base (Modulo k) (pos n) ≡ false
    go (inl h) l = absurd (true≢false (sym (held-pos n h) ∙ e))
    go (inr h) (inl l) = ap (λ w. int_le (pos 0) w && int_le w (pos (modulus k - 1))) (high n h l)
    go (inr h) (inr l) = ap (λ w. int_le (pos 0) w && int_le w (pos (modulus k - 1))) (beyond n l) ∙ ap (λ w. int_le (pos 0) (pos n) && w) (too-great k n l) ∙ never (int_le (pos 0) (pos n))
not-kept k (negsuc n) e = go (split n (2 ^ 63))
  where
    go : (n < 2 ^ 63) ⊎ (2 ^ 63 ≤ n) → is_in_base (Modulo k) (negsuc n) ≡ false
    go (inl h) = absurd (true≢false (sym (held-neg n h) ∙ e))
    go (inr h) = ap (λ w. int_le (pos 0) w && int_le w (pos (modulus k - 1))) (below n h)
