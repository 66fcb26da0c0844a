-- From what the parser of programs read to the answer for a whole list.
use Rattle.std.proofs.Common.{◌≡◌, ℕ, List, [], ◌∷◌, Result, Ok, Err, subst}
use Rattle.ada_base.specs.Symbols.{Symbol}
use Rattle.ada_base.specs.Languages.{Language}
use Rattle.syntax_readers.specs.Readers.{Answer}
use Rattle.syntax_readers.specs.Verdicts.{RightAnswer, verdict_of, RightVerdict}
use Rattle.syntax_readers.specs.declared.failure.Failure.{Failure}
use Rattle.syntax_readers.specs.declared.failure.Failure.TheVariants as failure
use Rattle.syntax_readers.specs.declared.failure.Refusal.{Refusal}
use Rattle.syntax_nodes.specs.Parts.{TreePart}
use Rattle.syntax_nodes.specs.Rooted.{top}
use Rattle.syntax_expressions.specs.Reading.{Reads}

-- an answer with what the latest part is
abbrev pub told_of : {A U : Type 0} → A → Result U Refusal → Result A Refusal
told_of a (Ok u) = Ok a
told_of a (Err refusal) = Err refusal

pub judged : {A U : Type 0} (limit : ℕ) (L : A → Language) (ks : List ℕ) (the : TreePart → A) (Is : TreePart → Type 0) (back : List TreePart)
    (answer : Answer A × List Symbol) (given : Result U Failure) (new : List Symbol) (parts : List TreePart)
    → RightAnswer limit L ks answer → Reads the Is back answer given new parts → RightVerdict limit L ks (told_of (the (top parts)) (verdict_of ks given new))
judged limit L ks the Is back answer (Ok u) [] parts right e = subst (RightAnswer limit L ks) e.0 right
judged limit L ks the Is back answer (Ok u) (t ∷ new) parts right e = subst (RightAnswer limit L ks) e.0 right
judged limit L ks the Is back answer (Err failure.Unexpected) [] parts right e = subst (RightAnswer limit L ks) e right
judged limit L ks the Is back answer (Err failure.Unexpected) (t ∷ new) parts right e = subst (RightAnswer limit L ks) e right
judged limit L ks the Is back answer (Err failure.TooDeep) [] parts right e = absurd (subst (RightAnswer limit L ks) e right)
judged limit L ks the Is back answer (Err failure.TooDeep) (t ∷ new) parts right e = subst (RightAnswer limit L ks) e right
judged limit L ks the Is back answer (Err failure.OutOfMemory) new parts right e = tt
