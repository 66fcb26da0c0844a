use Rattle.std.proofs.Common.{rules}
use Rattle.ada_port.proofs.sinks.HeldSinkSink.put.Goals as goal

pub returns-in-Ok-clause-puts : goal.returns-in-Ok-clause-puts
returns-in-Ok-clause-puts c = search rules
