use Rattle.ada_meaning.proofs.call_rows.Goals as goal
use Rattle.ada_meaning.proofs.CallsComputed

pub returns-clause-downs : goal.returns-clause-downs
returns-clause-downs c = CallsComputed.downs

pub returns-clause-begins : goal.returns-clause-begins
returns-clause-begins c = CallsComputed.begins

pub returns-clause-not_copied : goal.returns-clause-not_copied
returns-clause-not_copied c = CallsComputed.not_copied

pub returns-clause-no_return : goal.returns-clause-no_return
returns-clause-no_return c = CallsComputed.no_return

pub returns-clause-reraised : goal.returns-clause-reraised
returns-clause-reraised c = CallsComputed.reraised

pub returns-clause-elaborated : goal.returns-clause-elaborated
returns-clause-elaborated c = CallsComputed.elaborated

pub returns-clause-combines : goal.returns-clause-combines
returns-clause-combines c = CallsComputed.combines
