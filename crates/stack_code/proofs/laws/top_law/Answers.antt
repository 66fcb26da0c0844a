use Rattle.stack_code.proofs.Topping.{run_tops}
use Rattle.stack_code.proofs.laws.top_law.Goals as goal

pub returns : goal.returns
returns c = λ low limit code n s h. run_tops low limit code n s h
