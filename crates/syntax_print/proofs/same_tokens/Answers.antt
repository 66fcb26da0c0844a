use Rattle.syntax_print.proofs.SameTokens.{tokenized_again}
use Rattle.syntax_print.proofs.same_tokens.Goals as goal

pub returns : goal.returns
returns c = tokenized_again
