-- The parts that are being joined, and what a function that joins parts ensures.
use Rattle.std.specs.Prelude.{◌≡◌, List, Result, Ok, Err}
use Rattle.syntax_readers.specs.declared.failure.Failure.{Failure}
use Rattle.syntax_readers.specs.declared.failure.Failure.TheVariants as failure
use Rattle.syntax_nodes.specs.Parts.{TreePart, IsClosed}
use Rattle.syntax_nodes.specs.Rooted.{stack, top, pop}
use Rattle.syntax_nodes.specs.declared.lists.ListKind.{ListKind}
use Rattle.syntax_nodes.specs.declared.parts.Parts.{Parts}

-- the parts that are being joined, the latest first
unfoldable pub parts : Parts → List TreePart
parts p = stack p.nodes p.roots

-- these parts are there, unless memory failed
abbrev pub Joins : {U : Type 0} → Result U Failure → List TreePart → List TreePart → Type 0
Joins (Ok _) now new = now ≡ new
Joins (Err failure.OutOfMemory) now new = Unit {0}
Joins (Err _) now new = ⊥

-- the latest part is the list that grew there, unless memory failed
abbrev pub Closes : {U : Type 0} → Result U Failure → ListKind → List TreePart → List TreePart → Type 0
Closes (Ok _) k now before = (pop now ≡ pop before) × IsClosed k (top now) (top before)
Closes (Err failure.OutOfMemory) k now before = Unit {0}
Closes (Err _) k now before = ⊥
