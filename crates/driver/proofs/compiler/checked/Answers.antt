use Rattle.typed_tree.specs.Programs.{program}
use Rattle.driver.specs.Compile.{blocking, from_unblocked}
use Rattle.driver.proofs.Steps.{refuses_first}
use Rattle.driver.proofs.compiler.checked.Goals as goal

pub returns-in-Err-clause-unit : goal.returns-in-Err-clause-unit
returns-in-Err-clause-unit c = refuses_first (blocking c.args.tokens.now) (λ p. from_unblocked c.args.tokens.now) (program c.args.typed) c.in-Err.refusal c.in-Err.ensures
