-- Products of integers.
use Rattle.std.proofs.Common.{◌≡◌, ℕ, zero, suc, ◌*◌, ℤ, pos, negsuc, neg_ℤ, ◌*ℤ◌, Bool, true, false, refl, sym, subst, ap, ap₂, ◌∙◌, mul-zero}
use Rattle.std.proofs.Math.Nat.{mul_assoc, mul_comm}

abbrev signed : Bool → ℕ → ℤ
signed true m = pos m
signed false m = neg_ℤ (pos m)

abbrev same : Bool → Bool → Bool
same true b = b
same false true = false
same false false = true

neg_zero : (k : ℕ) → k ≡ 0 → pos k ≡ neg_ℤ (pos k)
neg_zero k e = subst (λ z. pos z ≡ neg_ℤ (pos z)) (sym e) refl

zero_times : (n : ℕ) → 0 * n ≡ 0
zero_times n = mul_comm 0 n ∙ mul-zero n

signed_mul : (s t : Bool) (m n : ℕ) → signed s m *ℤ signed t n ≡ signed (same s t) (m * n)
signed_mul true true m n = refl
signed_mul true false m zero = neg_zero (m * 0) (mul-zero m)
signed_mul true false m (suc n) = refl
signed_mul false true zero n = neg_zero (0 * n) (zero_times n)
signed_mul false true (suc m) n = refl
signed_mul false false zero zero = refl
signed_mul false false zero (suc n) = ap neg_ℤ (ap pos (zero_times (suc n))) ∙ ap pos (sym (zero_times (suc n)))
signed_mul false false (suc m) zero = sym (neg_zero (suc m * 0) (mul-zero (suc m)))
signed_mul false false (suc m) (suc n) = refl

same_assoc : (s t u : Bool) → same (same s t) u ≡ same s (same t u)
same_assoc true t u = refl
same_assoc false true u = refl
same_assoc false false true = refl
same_assoc false false false = refl

parts_of : (z : ℤ) → (s : Bool) × (m : ℕ) × (z ≡ signed s m)
parts_of (pos m) = (true, m, refl)
parts_of (negsuc m) = (false, suc m, refl)

signed_assoc : (s t u : Bool) (a b c : ℕ) → (signed s a *ℤ signed t b) *ℤ signed u c ≡ signed s a *ℤ (signed t b *ℤ signed u c)
signed_assoc s t u a b c =
    ap (λ z. z *ℤ signed u c) (signed_mul s t a b) ∙ signed_mul (same s t) u (a * b) c
    ∙ ap₂ signed (same_assoc s t u) (mul_assoc a b c)
    ∙ sym (signed_mul s (same t u) a (b * c)) ∙ ap (λ z. signed s a *ℤ z) (sym (signed_mul t u b c))

pub times_assoc : (a b c : ℤ) → (a *ℤ b) *ℤ c ≡ a *ℤ (b *ℤ c)
times_assoc a b c =
    let x = parts_of a in let y = parts_of b in let z = parts_of c in
    ap (λ k. (k *ℤ b) *ℤ c) x.2 ∙ ap (λ k. (signed x.0 x.1 *ℤ k) *ℤ c) y.2 ∙ ap (λ k. (signed x.0 x.1 *ℤ signed y.0 y.1) *ℤ k) z.2
    ∙ signed_assoc x.0 y.0 z.0 x.1 y.1 z.1
    ∙ ap (λ k. signed x.0 x.1 *ℤ (signed y.0 y.1 *ℤ k)) (sym z.2) ∙ ap (λ k. signed x.0 x.1 *ℤ (k *ℤ c)) (sym y.2) ∙ ap (λ k. k *ℤ (b *ℤ c)) (sym x.2)
