use Rattle.syntax_parse.proofs.ReadAgain.{read_again}
use Rattle.syntax_parse.proofs.printer.print.Goals as goal

pub returns-clause-again : goal.returns-clause-again
returns-clause-again c = read_again _ _ c.requires
