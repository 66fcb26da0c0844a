use Rattle.std.proofs.Common.{length}
use Rattle.ada_workers.proofs.Sharing.{all_dealt, some_left}
use Rattle.ada_workers.proofs.dealing.run_duties.Goals as goal

pub run_dealt-requires-clause-dealt : goal.run_dealt-requires-clause-dealt
run_dealt-requires-clause-dealt g c κs within =
    all_dealt g.T.Duty.number c.args.tasks.now c.from.result c.min-workers.result c.requires.numbered
    (some_left c.args.workers (length c.args.tasks.now) c.min-workers.result c.requires.some c.if-duties-eq0.false c.min-workers.ensures) c.from.ensures
