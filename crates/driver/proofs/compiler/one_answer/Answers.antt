use Rattle.driver.proofs.Exact.{compiling_exact}
use Rattle.driver.proofs.compiler.one_answer.Goals as goal

pub returns-clause-unit : goal.returns-clause-unit
returns-clause-unit c = compiling_exact.one_result

pub returns-clause-fault : goal.returns-clause-fault
returns-clause-fault c = compiling_exact.one_fault

pub returns-clause-not_both : goal.returns-clause-not_both
returns-clause-not_both c = compiling_exact.apart
