-- What functions ensure that read parts of declarations, statements and programs.
use Rattle.std.specs.Prelude.{◌≡◌, ℕ, Bool, Option, Some, None, List, Result, Ok, Err}
use Rattle.syntax_readers.specs.declared.failure.Failure.{Failure}
use Rattle.syntax_readers.specs.declared.failure.Failure.TheVariants as failure
use Rattle.syntax_grammar.specs.Read.{Indexes, Ended, Valued}
use Rattle.syntax_nodes.specs.Parts.{TreePart, the_range, the_ranges, the_body, the_bracketed, maybe_token, maybe_parallel}
use Rattle.syntax_nodes.specs.Rooted.{top, second, pop}
use Rattle.syntax_expressions.specs.Reading.{chunk_form}

-- an identifier or nothing is the latest part, unless memory failed
abbrev pub JoinsToken : {U : Type 0} → Option ℕ → Result U Failure → List TreePart → List TreePart → Type 0
JoinsToken name (Ok _) now before = (maybe_token (top now) ≡ name) × (pop now ≡ before)
JoinsToken name (Err failure.OutOfMemory) now before = Unit {0}
JoinsToken name (Err _) now before = ⊥

-- the index ranges of an array: the first, and the list of the others
abbrev pub indexes_of : TreePart → TreePart → Indexes
indexes_of first more = record { first = the_range first; more = the_ranges more }

-- the end of a loop: the token of `end`, and an identifier or nothing
abbrev pub loop_ended : ℕ → TreePart → ℕ × Option ℕ
loop_ended last p = (last, maybe_token p)

abbrev pub AnyToken : ℕ → TreePart → Type 0
AnyToken _ _ = Unit {0}

-- a subprogram from `begin` on
abbrev pub ended_of : Option ℕ → TreePart → Ended
ended_of last_name p = record { body = the_body p; last_name = last_name }

abbrev pub AnyName : Option ℕ → TreePart → Type 0
AnyName _ _ = Unit {0}

-- the expression of an expression function in its brackets
abbrev pub valued_of : TreePart → Valued
valued_of p = record { bracket = (the_bracketed p).bracket; value = (the_bracketed p).value }

-- a loop has no label, and this chunk specification, unless memory failed
abbrev pub JoinsParallel : {U : Type 0} → ℕ → Bool → Result U Failure → List TreePart → List TreePart → Type 0
JoinsParallel at counted (Ok _) now before = (maybe_parallel (top now) ≡ Some (chunk_form at counted (top before))) × (maybe_token (second now) ≡ None) × (pop (pop now) ≡ pop before)
JoinsParallel at counted (Err failure.OutOfMemory) now before = Unit {0}
JoinsParallel at counted (Err _) now before = ⊥
