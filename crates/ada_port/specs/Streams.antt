-- What is written to a writer.
use Rattle.std.specs.Prelude.{ℕ, List, Option, Result, Ok, Err}
use Rattle.std.specs.Io.KnownBytes.{Appends}
use Rattle.ada_port.specs.Ports.{AppendsPrefix}
use Rattle.ada_port.specs.declared.ports.Failed.{Failed}

-- all of a piece was written, or a prefix of it
abbrev pub Writes : Option (List ℕ) → Option (List ℕ) → List ℕ → Result (Unit {0}) Failed → Type 0
Writes old new piece (Ok _) = Appends old new piece
Writes old new piece (Err _) = AppendsPrefix old new piece
