-- The answer for a whole list.
use Rattle.std.specs.Prelude.{ℕ, List, [], ◌∷◌, length, Result, Ok, Err}
use Rattle.ada_base.specs.Symbols.{Symbol}
use Rattle.syntax_readers.specs.Readers.{Answer, Found, Refused, TooDeep}
use Rattle.ada_base.specs.Languages.{Language}
use Rattle.ada_base.specs.Derivations.{DerivesWithin, IsUnexpected, IsFirstTooDeep}
use Rattle.syntax_readers.specs.declared.failure.Failure.{Failure}
use Rattle.syntax_readers.specs.declared.failure.Failure.TheVariants as failure
use Rattle.syntax_readers.specs.declared.failure.Refusal.{Refusal}
use Rattle.syntax_readers.specs.declared.failure.Refusal.TheVariants as refusal

-- the number of the next symbol, and at the end how many kinds there are
abbrev pub place_in : List ℕ → List Symbol → ℕ
place_in ks [] = length ks
place_in ks (t ∷ ts) = t.number

-- what a reader's answer and the symbols that it left say of the whole list
abbrev pub verdict_of : {A : Type 0} → List ℕ → Result A Failure → List Symbol → Result A Refusal
verdict_of ks (Ok a) [] = Ok a
verdict_of ks (Ok a) (t ∷ ts) = Err (refusal.Unexpected t.number)
verdict_of ks (Err failure.Unexpected) ts = Err (refusal.Unexpected (place_in ks ts))
verdict_of ks (Err failure.TooDeep) ts = Err (refusal.TooDeep (place_in ks ts))
verdict_of ks (Err failure.OutOfMemory) ts = Err refusal.OutOfMemory

-- an answer for a whole list is right: a tree within the limit exactly where there is one, and else the place of
-- the first fault or of the first token that is too deep, whichever comes first
abbrev pub RightVerdict : ℕ → {A : Type 0} → (A → Language) → List ℕ → Result A Refusal → Type 0
RightVerdict limit L ks (Ok a) = DerivesWithin limit L ks a
RightVerdict limit L ks (Err (refusal.Unexpected place)) = IsUnexpected limit L ks place
RightVerdict limit L ks (Err (refusal.TooDeep place)) = IsFirstTooDeep limit L ks place
RightVerdict limit L ks (Err refusal.OutOfMemory) = Unit {0}

-- what a reader's answer to a list has to say
abbrev pub RightAnswer : ℕ → {A : Type 0} → (A → Language) → List ℕ → Answer A × List Symbol → Type 0
RightAnswer limit L ks (Found a, []) = DerivesWithin limit L ks a
RightAnswer limit L ks (Found a, t ∷ back) = IsUnexpected limit L ks t.number
RightAnswer limit L ks (Refused, []) = IsUnexpected limit L ks (length ks)
RightAnswer limit L ks (Refused, t ∷ back) = IsUnexpected limit L ks t.number
RightAnswer limit L ks (TooDeep, []) = ⊥
RightAnswer limit L ks (TooDeep, t ∷ back) = IsFirstTooDeep limit L ks t.number
