use Rattle.stack_code.proofs.Looks.{step_counts}
use Rattle.stack_code.proofs.laws.look_law.Goals as goal

pub returns : goal.returns
returns c = λ limit code s e. step_counts limit code s e
