use Rattle.ada_threads.proofs.Lending.{fine_law}
use Rattle.ada_threads.proofs.views.laws.Goals as goal

pub returns : goal.returns
returns c = fine_law
