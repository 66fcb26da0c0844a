use Rattle.ada_base.specs.TokenKinds.{kinds_of}
use Rattle.syntax_laws.proofs.Units.{one_program}
use Rattle.syntax_laws.proofs.one_tree.Goals as goal

pub returns-clause-kinds : goal.returns-clause-kinds
returns-clause-kinds c = one_program

pub returns-clause-tokens : goal.returns-clause-tokens
returns-clause-tokens c tokens = one_program (kinds_of tokens)
