use Rattle.std.proofs.Common.{◌≡◌, ◌==◌, find, length}
use Rattle.ada_port.specs.Sinks.{entry_of}
use Rattle.ada_port.proofs.sinks.MemSink.entry.Given as goal

abbrev pub invariant-loop-fail : goal.invariant-loop-fail
invariant-loop-fail l = find (λ f. f.call == l.self.calls) l.rest ≡ entry_of l.self

abbrev pub decreases-loop-fail : goal.decreases-loop-fail
decreases-loop-fail l = length l.rest
