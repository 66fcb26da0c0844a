use Rattle.syntax_nodes.specs.Trees.{program_of}
use Rattle.driver.proofs.Steps.{refuses_names}
use Rattle.driver.proofs.naming.typed_of.Goals as goal

pub returns-in-Err : goal.returns-in-Err
unfolding program_of
returns-in-Err c = refuses_names c.args.tokens.now (program_of c.args.tree.now) c.in-Err.fault c.name_refusal.result c.in-Err.ensures c.name_refusal.ensures
