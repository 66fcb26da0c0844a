use Rattle.driver.specs.Compile.{parsing, from_tree}
use Rattle.driver.proofs.Steps.{refuses_first, refuses_next}
use Rattle.driver.proofs.compiler.unit_of.Goals as goal

pub returns-in-Err-clause-unit : goal.returns-in-Err-clause-unit
returns-in-Err-clause-unit c = refuses_first parsing from_tree c.args.tokens.now c.in-Err.refusal c.in-Err.ensures

pub returns-clause-unit : goal.returns-clause-unit
returns-clause-unit c = refuses_next parsing from_tree c.args.tokens.now _ c.in-Err-whole_of.refusal c.in-Ok.ensures c.in-Err-whole_of.ensures.unit
