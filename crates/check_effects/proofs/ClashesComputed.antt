-- The rows of broken rules, computed.
use Rattle.std.proofs.Common.{◌≡◌, pos, neg_ℤ, inl, inr, ⊎_elim, refl, arith}
use Rattle.check_effects.specs.ClashRows.{ClashRows, TouchedRows}

none : {C : Type 0} → ⊥ → C
none h = absurd h

one_zero : pos 1 ≡ pos 0 → ⊥
one_zero e = cc

less_zero : neg_ℤ (pos 1) ≡ pos 0 → ⊥
less_zero e = cc

pub clash_rows : ClashRows
clash_rows = (
  (
    _,
    (inl (inr (inl (inl (inl refl)), tt))),
    (
      omega arith,
      inl (record {
        arm = 0;
        other_arm = 0;
        compared = tt;
        access = _;
        other_access = _;
        effect = inl (inr (inl (inr (inr (inl (inl refl))))));
        other_effect = inl (inr (inl (inr (inr (inl (inr (inr (inl refl))))))));
        writes = refl;
        together = ⊎_elim (λ unlike. unlike refl) (⊎_elim none (⊎_elim none none));
      }),
    ),
  ),
  (
    _,
    (inl (inr ((inr (inl (inl (inl refl)), tt)), tt))),
    (
      omega arith,
      inl (record {
        arm = 0;
        other_arm = 0;
        compared = tt;
        access = _;
        other_access = _;
        effect = inl (inr (inl (inl refl)));
        other_effect = inl (inr (inl (inl refl)));
        writes = refl;
        together = ⊎_elim (λ unlike. unlike refl) none;
      }),
    ),
  ),
  (
    _,
    (inl (inr ((inr (inl (inl (inl refl)), tt)), tt))),
    (
      omega arith,
      inl (record {
        arm = 0;
        other_arm = 0;
        compared = tt;
        access = _;
        other_access = _;
        effect = inl (inr (inl (inl refl)));
        other_effect = inl (inr (inl (inr (inr (inl refl)))));
        writes = refl;
        together = ⊎_elim (λ unlike. unlike refl) (⊎_elim one_zero none);
      }),
    ),
  ),
  (
    _,
    (inl (inr ((inr (inl (inl (inl refl)), tt)), tt))),
    (
      omega arith,
      inl (record {
        arm = 0;
        other_arm = 0;
        compared = tt;
        access = _;
        other_access = _;
        effect = inl (inr (inl (inl refl)));
        other_effect = inl (inr (inl (inl refl)));
        writes = refl;
        together = ⊎_elim (λ unlike. unlike refl) (⊎_elim none none);
      }),
    ),
  ),
)

pub touched_rows : TouchedRows
touched_rows = (
  (_, (inl (inr ((inr (inl (inl (inl refl)), tt)), tt))), (_, refl, inr (0, inl (inr (inl (inl refl)))), none)),
  (_, (inl (inr ((inr (inl (inl (inl refl)), tt)), tt))), (_, refl, inr (0, inl (inl (inl refl))), none)),
  (_, (inl (inr (inl (inl (inl refl)), tt))), (_, refl, inl (inl (inr (inr (inl refl)))), none)),
  (_, (inl (inr ((inr (inl (inl (inl refl)), tt)), tt))), (_, refl, inr (0, inl (inr (inl (inr (inr (inl refl)))))), ⊎_elim none none)),
  (_, (inl (inr ((inr (inl (inl (inl refl)), tt)), tt))), (_, refl, inr (0, inl (inr (inl (inl refl)))), ⊎_elim one_zero none)),
  (_, (inl (inr ((inr (inl (inl (inl refl)), tt)), tt))), (_, refl, inr (0, inl (inr (inl (inr (inr (inl (inl refl))))))), ⊎_elim less_zero none)),
)
