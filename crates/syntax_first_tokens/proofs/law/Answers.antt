use Rattle.syntax_first_tokens.proofs.SpelledFirst.{first_token_law}
use Rattle.syntax_first_tokens.proofs.law.Goals as goal

pub returns : goal.returns
returns c = first_token_law
