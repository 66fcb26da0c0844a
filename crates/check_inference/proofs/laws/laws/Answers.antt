use Rattle.check_inference.proofs.laws.laws.Goals as goal
use Rattle.check_inference.proofs.Whole.{effects_law}

pub returns : goal.returns
returns c = record { exact = effects_law }
