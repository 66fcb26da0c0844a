use Rattle.syntax_lexer.proofs.Answered.{gives_tokens, gives_fault}
use Rattle.syntax_lexer.proofs.text.lex.Goals as goal

pub returns-clause-all_tokens : goal.returns-clause-all_tokens
returns-clause-all_tokens c = gives_tokens _ _ c.judge.ensures

pub returns-clause-all_faults : goal.returns-clause-all_faults
returns-clause-all_faults c = gives_fault _ _ c.judge.ensures
