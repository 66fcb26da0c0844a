use Rattle.std.proofs.Common.{length, refl, arith}
use Rattle.ada_workers.proofs.Lending.{length-all_out}
use Rattle.ada_workers.proofs.Ordering.{main_mine}
use Rattle.ada_workers.specs.Threads.{areas_of}
use Rattle.tests_workers.proofs.Working.{all_fine, all_inside, all_fit}
use Rattle.tests_workers.proofs.programs.on_view.Goals as goal

pub run_threads-requires-clause-fits : goal.run_threads-requires-clause-fits
run_threads-requires-clause-fits g c _ _ = all_fit (length c.args.view.now.cells) 0 c.args.threads.items c.requires.threads.0

pub run_threads-requires-clause-within : goal.run_threads-requires-clause-within
run_threads-requires-clause-within g c _ _ = all_inside (length c.args.view.now.cells) 0 c.args.threads.items c.requires.threads.0 (omega (arith, c.requires.threads.1))

pub run_threads-requires-clause-fine : goal.run_threads-requires-clause-fine
run_threads-requires-clause-fine g c _ _ =
    let s = c.args.view.now in let ts = c.args.threads.items in
    let m = c.len-many.ensures in
    all_fine (length s.cells) 0 _ s.cells ts c.requires.threads.0 (length-all_out s.cells (areas_of ts)) refl (omega (arith, c.requires.threads.1))
    (λ x le lt. main_mine s c.requires.view.1 (m.flat c.requires.view.0) (m.main c.requires.view.0) x lt)
