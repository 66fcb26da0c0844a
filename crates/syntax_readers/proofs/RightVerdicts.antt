-- From a reader's verdict to the answer for a whole list.
use Rattle.std.proofs.Common.{◌≡◌, ℕ, suc, ◌-◌, ◌<◌, List, [], ◌∷◌, Result, Ok, Err, subst, ap, arith}
use Rattle.ada_base.specs.Symbols.{Symbol}
use Rattle.syntax_readers.specs.Readers.{Answer}
use Rattle.ada_base.specs.Languages.{Language}
use Rattle.syntax_readers.specs.Verdicts.{RightAnswer}
use Rattle.syntax_readers.specs.Computes.{Computes}
use Rattle.syntax_readers.specs.Verdicts.{verdict_of, RightVerdict}
use Rattle.syntax_readers.specs.declared.failure.Failure.{Failure}
use Rattle.syntax_readers.specs.declared.failure.Failure.TheVariants as failure

-- a function that gives what a reader with a right verdict gives leads to a right answer
pub judged : {A : Type 0} (limit : ℕ) (L : A → Language) (ks : List ℕ) (answer : Answer A × List Symbol) (given : Result A Failure) (new : List Symbol)
    → RightAnswer limit L ks answer → Computes answer given new → RightVerdict limit L ks (verdict_of ks given new)
judged limit L ks answer (Ok a) [] right e = subst (RightAnswer limit L ks) e right
judged limit L ks answer (Ok a) (t ∷ new) right e = subst (RightAnswer limit L ks) e right
judged limit L ks answer (Err failure.Unexpected) [] right e = subst (RightAnswer limit L ks) e right
judged limit L ks answer (Err failure.Unexpected) (t ∷ new) right e = subst (RightAnswer limit L ks) e right
judged limit L ks answer (Err failure.TooDeep) [] right e = absurd (subst (RightAnswer limit L ks) e right)
judged limit L ks answer (Err failure.TooDeep) (t ∷ new) right e = subst (RightAnswer limit L ks) e right
judged limit L ks answer (Err failure.OutOfMemory) new right e = tt

-- a level further down
pub level_below : {X : Type 0} (f : ℕ → X) (n : ℕ) → 0 < n → f n ≡ f (suc (n - 1))
level_below f n some = let e : n ≡ suc (n - 1) = omega (arith, some) in ap f e
