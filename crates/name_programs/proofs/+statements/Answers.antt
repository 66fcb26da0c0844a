use Rattle.std.proofs.Common.{arith}
use Rattle.syntax_nodes.specs.Parts.{the_stmt}
use Rattle.syntax_nodes.specs.Tables.{part_at}
use Rattle.name_programs.proofs.StatementLevels.{stmt_below}
use Rattle.name_programs.proofs.+statements.Goals as goal

pub statements::stmt-returns : goal.statements::stmt-returns
statements::stmt-returns t c =
    rw (stmt_below c.args.text.names.now c.args.text.levels c.args.here.now (the_stmt (part_at c.args.text.tree.now.nodes c.args.id)) c.args.judge.now.log (omega arith))
    c.stmt_form.ensures
