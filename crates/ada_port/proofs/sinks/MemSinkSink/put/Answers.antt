use Rattle.std.proofs.Common.{rules, refl, []}
use Rattle.ada_port.proofs.Passing.{passing_part-append, held_back}
use Rattle.ada_port.proofs.sinks.MemSinkSink.put.Goals as goal
use Rattle.ada_port.proofs.sinks.MemSinkSink.put.Goals.{then-fits+else-is_none, else-fits}

pub returns-clause-puts : goal.returns-clause-puts
returns-clause-puts c =
    elim c.if-fits.branch [
      | then-fits+else-is_none w ↦ record { told = (w.passing_part.result.now, held_back c.entry-entry.result c.args.piece.now, search (rules, passing_part-append), search rules); rose = search rules }
      | else-fits w ↦ record { told = ([], c.args.piece.now, refl, search rules); rose = search rules }
    ]
