-- What was read as a part of one rule.
use Rattle.std.proofs.Common.{List, Result, Ok, Err}
use Rattle.ada_base.specs.Symbols.{Symbol}
use Rattle.syntax_readers.specs.Readers.{Answer}
use Rattle.syntax_readers.specs.declared.failure.Failure.{Failure}
use Rattle.syntax_readers.specs.declared.failure.Failure.TheVariants as failure
use Rattle.syntax_nodes.specs.Parts.{TreePart, IsPart}
use Rattle.syntax_expressions.specs.Reading.{Reads}

-- that it stands for one by each rule above may be left out
pub reads_part : {A U : Type 0} (the : TreePart → A) (Is : TreePart → Type 0) (b : List TreePart) (x : Answer A × List Symbol) (r : Result U Failure) (ts : List Symbol) (ps : List TreePart) → Reads the Is b x r ts ps → Reads the IsPart b x r ts ps
reads_part the Is b x (Ok u) ts ps h = (h.0, h.1, tt)
reads_part the Is b x (Err failure.Unexpected) ts ps h = h
reads_part the Is b x (Err failure.TooDeep) ts ps h = h
reads_part the Is b x (Err failure.OutOfMemory) ts ps h = tt
