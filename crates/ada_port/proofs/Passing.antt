-- What passes of a piece is a front of it.
use Rattle.std.proofs.Common.{◌≡◌, ℕ, List, [], ◌++◌, drop, Option, Some, None, sym, take-append-drop}
use Rattle.std.proofs.lemmas.List.{append-nil}
use Rattle.ada_port.specs.Sinks.{passing_part}
use Rattle.ada_port.specs.declared.sinks.SinkFail.{SinkFail}

-- what doesn't pass
pub held_back : Option SinkFail → List ℕ → List ℕ
held_back None piece = []
held_back (Some fail) piece = drop fail.pass piece

pub passing_part-append : (entry : Option SinkFail) (piece : List ℕ) → piece ≡ passing_part entry piece ++ held_back entry piece
unfolding held_back
passing_part-append None piece = sym (append-nil piece)
passing_part-append (Some fail) piece = sym (take-append-drop fail.pass piece)
