-- Sinks in memory.
use Rattle.std.specs.Prelude.{ℕ, ◌+◌, Bool, ◌||◌, ◌==◌, List, [], ◌++◌, length, take, Option, Some, None, is_some, find, Result, Ok, Err, nat_lt, if◌then◌else◌}
use Rattle.ada_port.specs.Counts.{next_count}
use Rattle.ada_port.specs.Ports.{Stream}
use Rattle.ada_port.specs.declared.ports.Failed.{Failed}
use Rattle.ada_port.specs.declared.sinks.SinkFail.{SinkFail}

-- the bytes that a sink holds and those it has room for, its failing calls, and how many calls were made and failed so far
pub record SinkState : Type 0 where
  pub held : List ℕ
  pub room : ℕ
  pub fails : List SinkFail
  pub calls : ℕ
  pub faults : ℕ

-- what is told of a sink
abbrev pub held_of : SinkState → Stream
held_of s = record { told = Some s.held; faults = s.faults }

-- the entry of the next call: of two entries for one call the first counts
abbrev pub entry_of : SinkState → Option SinkFail
entry_of s = find (λ f. f.call == s.calls) s.fails

-- whether a piece is longer than the room that is left
abbrev pub is_too_long : SinkState → List ℕ → Bool
is_too_long s piece = nat_lt s.room (length s.held + length piece)

-- whether a put fails: its call is listed, or the piece doesn't fit
abbrev pub put_fails : SinkState → List ℕ → Bool
put_fails s piece = is_some (entry_of s) || is_too_long s piece

-- what the entry of a call lets pass: all of the piece, or so many of its bytes
abbrev pub passing_part : Option SinkFail → List ℕ → List ℕ
passing_part None piece = piece
passing_part (Some fail) piece = take fail.pass piece

-- the part of a piece that is appended: none of one that doesn't fit, whether or not its call is listed
abbrev pub appended_part : SinkState → List ℕ → List ℕ
appended_part s piece = if is_too_long s piece then [] else passing_part (entry_of s) piece

-- after a put: every call counts, and a failed one is a fault
abbrev pub after_put : SinkState → List ℕ → Result (Unit {0}) Failed → SinkState
after_put s piece (Ok _) = record s { held = s.held ++ appended_part s piece; calls = next_count s.calls }
after_put s piece (Err _) = record s { held = s.held ++ appended_part s piece; calls = next_count s.calls; faults = next_count s.faults }

-- the bytes that a sink holds, and how many puts failed so far
pub record GrownState : Type 0 where
  pub held : List ℕ
  pub faults : ℕ

abbrev pub grown_of : GrownState → Stream
grown_of s = record { told = Some s.held; faults = s.faults }

-- after a put: the piece is appended, or there was no room for it and it is a fault
abbrev pub after_growth : GrownState → List ℕ → Result (Unit {0}) Failed → GrownState
after_growth s piece (Ok _) = record s { held = s.held ++ piece }
after_growth s piece (Err _) = record s { faults = next_count s.faults }

-- a sink that never fails and tells nothing
abbrev pub sure_sink : Stream
sure_sink = record { told = None; faults = 0 }
