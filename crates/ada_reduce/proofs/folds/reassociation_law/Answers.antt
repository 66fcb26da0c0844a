use Rattle.ada_reduce.proofs.Reassociation.{reassociation_law}
use Rattle.ada_reduce.proofs.folds.reassociation_law.Goals as goal

pub returns : goal.returns
returns c = reassociation_law
