use Rattle.std.proofs.Common.{length}
use Rattle.ada_port.proofs.Transfers.{Written}
use Rattle.ada_port.proofs.streams.write_through.Given as goal

abbrev pub invariant-loop-rest : goal.invariant-loop-rest
invariant-loop-rest g l = Written (g.W.Write.contents l.initial.to) (g.W.Write.contents l.to) l.piece l.rest

abbrev pub decreases-loop-rest : goal.decreases-loop-rest
decreases-loop-rest g l = length l.rest
