use Rattle.behaviours.proofs.Shuffle as shuffles
use Rattle.behaviours.proofs.shuffle_law.Goals as goal

pub returns : goal.returns
returns c = shuffles.shuffle_law
