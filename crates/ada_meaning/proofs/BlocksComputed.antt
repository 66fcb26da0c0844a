-- The rows of calls that break the rule on nonblocking text.
use Rattle.std.proofs.Common.{◌≡◌, ℕ, inl, inr, ⊎_elim, refl, true, false}
use Rattle.ada_meaning.specs.Nonblocking.{KeepsRule}
use Rattle.ada_meaning.specs.Blocked.{Blocked}
use Rattle.ada_meaning.specs.BlockedRows.{BlockedRows, puts, calls, claims}

none : {C : Type 0} → ⊥ → C
none h = absurd h

-- the reduction's parts before its value: reducer, initial value, chunk, range
only_puts : (t l : ℕ) → Blocked puts t l → (t ≡ 31) × (l ≡ 31)
only_puts t l =
    ⊎_elim (⊎_elim none (⊎_elim (⊎_elim (⊎_elim none (⊎_elim (⊎_elim none (⊎_elim none none)) (⊎_elim (⊎_elim none (λ h. (h.1, h.2))) none))) none) none)) none

only_calls : (t l : ℕ) → Blocked (calls false) t l → (t ≡ 55) × (l ≡ 55)
only_calls t l = ⊎_elim
    (⊎_elim none (⊎_elim (⊎_elim (⊎_elim
    (⊎_elim (⊎_elim none (⊎_elim none (⊎_elim none (⊎_elim none (⊎_elim (⊎_elim none (⊎_elim none none)) (⊎_elim (λ h. (h.2, h.3)) (⊎_elim none none))))))) none)
    (λ h. none (absurd (cc)))) none) none))
    (⊎_elim (⊎_elim none (⊎_elim (⊎_elim (⊎_elim none none) none) none)) none)

kept : KeepsRule (calls true)
kept = record {
  body = record { decls = tt; stmts = (((((tt, tt, tt, tt, (tt, tt, tt), (λ e. refl, (tt, tt))), tt), refl)), tt); handlers = tt };
  subs = (record { decls = tt; stmts = ((tt, tt), tt); handlers = tt }, tt);
}

only_claims : (t l : ℕ) → Blocked claims t l → (t ≡ 57) × (l ≡ 57)
only_claims t l = ⊎_elim (⊎_elim none (⊎_elim (⊎_elim none none) none)) (⊎_elim (⊎_elim none (⊎_elim (⊎_elim (⊎_elim none (λ h. (h.1, h.2))) none) none)) none)

pub blocked_rows : BlockedRows
blocked_rows = (
  (inl (inr (inl (inl (inr (inr (inl (inr (refl, refl, refl)))))))), only_puts),
  (inl (inr (inl (inl (inl (inl (inr (inr (inr (inr (inr (inl (refl, refl, refl, refl)))))))))))), only_calls),
  kept,
  (inr (inl (inr (inl (inl (inr (refl, refl, refl)))))), only_claims),
)
