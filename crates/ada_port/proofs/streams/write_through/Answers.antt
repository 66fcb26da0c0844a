use Rattle.ada_port.proofs.Transfers.{Written-none, Written-prefix, Written-range}
use Rattle.ada_port.proofs.streams.write_through.Goals as goal

pub loop-rest-init : goal.loop-rest-init
loop-rest-init g c = Written-none

pub loop-rest-preserved : goal.loop-rest-preserved
loop-rest-preserved g c = Written-range c.in-Ok.written c.loop-rest.invariant c.in-Ok.ensures.bytes

pub returns-in-Err : goal.returns-in-Err
returns-in-Err g c = Written-prefix _ _ _ _ _ c.loop-rest.invariant c.in-Err.ensures.bytes
