-- Accumulators, one after the other.
use Rattle.std.proofs.Common.{◌≡◌, ℕ, suc, ◌+◌, ◌<◌, ℤ, List, [], ◌∷◌, length, get_or, drop, Option, Some, None, Result, Ok, Err, arith, sym, ◌∙◌, ap}
use Rattle.std.specs.Prelude.{IfOk}
use Rattle.std.proofs.Math.Seq.{drop-cons}
use Rattle.stack_code.specs.declared.code.Code.{Code}
use Rattle.stack_code.specs.declared.code.Reducer.{Reducer}
use Rattle.stack_code.specs.declared.path.Gave.{Gave}
use Rattle.stack_code.specs.declared.path.Gave.TheVariants as gave
use Rattle.ada_lower.specs.Driven.{combine_by, combined_by, onto_by, raised_or}

module _ (c : Code) (by : Reducer) (a : ℤ) (vs : List ℤ) (i : ℕ) (d : ℤ) (lt : i < length vs) where
  here : onto_by c by a (drop i vs) ≡ raised_or c (combine_by c by a (get_or vs i d)) (λ v. onto_by c by v (drop (suc i) vs))
  here = ap (λ l. onto_by c by a l) (drop-cons vs i d lt)

  pub onto_on : (w : ℤ) → Some w ≡ combine_by c by a (get_or vs i d) → onto_by c by a (drop i vs) ≡ onto_by c by w (drop (i + 1) vs)
  onto_on w e =
      let next : suc i ≡ i + 1 = omega arith in
      here ∙ ap (λ o. raised_or c o (λ v. onto_by c by v (drop (suc i) vs))) (sym e) ∙ ap (λ k. onto_by c by w (drop k vs)) next

  pub onto_off : None ≡ combine_by c by a (get_or vs i d) → onto_by c by a (drop i vs) ≡ raised_or c None (λ v. gave.Numbers (v ∷ []))
  onto_off e = here ∙ ap (λ o. raised_or c o (λ v. onto_by c by v (drop (suc i) vs))) (sym e)

pub combined_is : (c : Code) (by : Reducer) (first initial : ℤ) (rest parts : List ℤ) (value : Option ℤ) → parts ≡ first ∷ rest → onto_by c by first rest ≡ raised_or c value (λ v. gave.Numbers (v ∷ []))
    → raised_or c value (λ v. gave.Numbers (v ∷ [])) ≡ combined_by c (Some by) initial parts
combined_is c by first initial rest parts value p o = sym o ∙ ap (combined_by c (Some by) initial) (sym p)

-- the accumulators of a reduction that an operator combines
pub combined_ok : {E : Type 0} (o : Result Gave E) (by : Reducer) (kind : Option Reducer) (first initial : ℤ) (rest parts : List ℤ) (value : Option ℤ) → kind ≡ Some by → parts ≡ first ∷ rest
    → ((c : Code) → onto_by c by first rest ≡ raised_or c value (λ v. gave.Numbers (v ∷ []))) → IfOk o (λ g. (c : Code) → g ≡ raised_or c value (λ v. gave.Numbers (v ∷ [])))
    → IfOk o (λ g. (c : Code) → g ≡ combined_by c kind initial parts)
combined_ok (Ok g) by kind first initial rest parts value k p onto h = λ c. h c ∙ combined_is c by first initial rest parts value p (onto c) ∙ ap (λ b. combined_by c b initial parts) (sym k)
combined_ok (Err e) by kind first initial rest parts value k p onto h = tt
