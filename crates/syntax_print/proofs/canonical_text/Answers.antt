use Rattle.syntax_print.proofs.Listed.{all_listed}
use Rattle.syntax_print.proofs.canonical_text.Goals as goal

pub joined-requires : goal.joined-requires
joined-requires c = all_listed _ c.args.tokens.now.items c.requires
