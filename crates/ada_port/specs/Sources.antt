-- Sources in memory.
use Rattle.std.specs.Prelude.{ℕ, Bool, List, [], ◌∷◌, Some, Result, Ok, Err, ◌==◌}
use Rattle.std.specs.List.{list_any}
use Rattle.ada_port.specs.Counts.{next_count}
use Rattle.ada_port.specs.Ports.{Stream}
use Rattle.ada_port.specs.declared.ports.Failed.{Failed}

-- the bytes that a source has left, the numbers of the calls that fail, and how many calls were made and failed so far
pub record SourceState : Type 0 where
  pub left : List ℕ
  pub fails : List ℕ
  pub calls : ℕ
  pub faults : ℕ

-- what is told of a source
abbrev pub left_of : SourceState → Stream
left_of s = record { told = Some s.left; faults = s.faults }

-- a source that has these bytes left, and never fails
abbrev pub sure_left : List ℕ → Stream
sure_left bytes = record { told = Some bytes; faults = 0 }

-- whether the next call fails: it is listed
abbrev pub next_fails : SourceState → Bool
next_fails s = list_any (λ call. call == s.calls) s.fails

abbrev pub without_first : List ℕ → List ℕ
without_first [] = []
without_first (byte ∷ rest) = rest

-- after a call: every call counts, and a failed one is a fault and takes nothing
abbrev pub after_next : {T : Type 0} → SourceState → Result T Failed → SourceState
after_next s (Ok _) = record s { left = without_first s.left; calls = next_count s.calls }
after_next s (Err _) = record s { calls = next_count s.calls; faults = next_count s.faults }
