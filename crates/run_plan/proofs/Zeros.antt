-- Whether a list has a zero.
use Rattle.std.proofs.Common.{◌≡◌, ◌↔◌, ℕ, zero, suc, ◌<◌, nat_eq, List, [], ◌∷◌, All, Bool, false, not, IsTrue, refl, arith}
use Rattle.std.proofs.lemmas.Bool.{ne_eqb}
use Rattle.std.proofs.lemmas.List.Elements.{All-nil, All-cons, All-head, All-tail}
use Rattle.std.specs.List.{list_any}
use Rattle.run_plan.specs.Plans.{HasNoZero}
use Rattle.run_plan.specs.declared.plan.Plan.{Plan}
use Rattle.run_plan.specs.declared.plan.Plan.TheVariants.{Listed}

no_zero : (n : ℕ) → nat_eq (suc n) 0 ≡ false
no_zero n = ne_eqb (suc n) 0 (λ e. omega (arith, e))

all_positive : (sizes : List ℕ) → IsTrue (not (list_any (λ x. nat_eq x 0) sizes)) → All (λ size. 0 < size) sizes
all_positive [] e = All-nil (λ size. 0 < size)
all_positive (zero ∷ sizes) e = cc
all_positive (suc n ∷ sizes) e = All-cons (λ size. 0 < size) (suc n) sizes (omega arith) (all_positive sizes (rw (no_zero n) at e))

none_zero : (sizes : List ℕ) → All (λ size. 0 < size) sizes → IsTrue (not (list_any (λ x. nat_eq x 0) sizes))
none_zero [] a = refl
none_zero (zero ∷ sizes) a = let some : 0 < 0 = All-head (λ size. 0 < size) zero sizes a in absurd (omega arith)
none_zero (suc n ∷ sizes) a = rw (no_zero n) (none_zero sizes (All-tail (λ size. 0 < size) (suc n) sizes a))

pub no_zero-listed : (plan : Plan) (sizes slice : List ℕ) (found : Bool) → plan ≡ Listed sizes → slice ≡ sizes → found ≡ list_any (λ x. nat_eq x 0) slice → IsTrue (not found) ↔ HasNoZero plan
no_zero-listed plan sizes slice found is same f = rw (is, f, same) (all_positive sizes, none_zero sizes)
