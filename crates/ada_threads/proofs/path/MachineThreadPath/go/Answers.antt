use Rattle.ada_threads.proofs.Bodies.{place_of}
use Rattle.ada_threads.proofs.Going.{fine_body, went_so, paused_way}
use Rattle.ada_threads.proofs.path.MachineThreadPath.go.Goals as goal

pub run_body-ran-requires-clause-fine : goal.run_body-ran-requires-clause-fine
run_body-ran-requires-clause-fine g c = fine_body c.args.self.now c.args.view.now.cells c.requires.fine

pub returns-clause-went : goal.returns-clause-went
returns-clause-went g c =
    went_so c.args.self.now c.args.view.now.cells c.run_body-ran.new.view.cells c.requires.fine c.run_body-ran.result c.run_body-ran.ensures.ran c.came.result c.came.ensures.told c.came.new.self c.came.ensures.path

pub returns-clause-place : goal.returns-clause-place
returns-clause-place g c = place_of c.args.view.now c.run_body-ran.new.view c.requires.there c.run_body-ran.ensures.stays c.run_body-ran.ensures.ran.long

pub returns-clause-paused : goal.returns-clause-paused
returns-clause-paused g c = λ looks is. c.run_body-ran.ensures.paused (paused_way c.run_body-ran.result.way c.run_body-ran.result.looks looks c.came.result c.came.ensures.told is)
