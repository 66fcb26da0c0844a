use Rattle.std.proofs.Common.{sym, ap, ◌∙◌, subst}
use Rattle.driver.specs.Lines.{IsWordOf, left_out_text}
use Rattle.driver.proofs.Places.{stand_in_order}
use Rattle.driver.proofs.Words.{word_is}
use Rattle.driver.proofs.refusal.left_out_word.Goals as goal

pub token_at-token-requires : goal.token_at-token-requires
token_at-token-requires c = stand_in_order c.args.text.now c.in-Ok.tokens c.in-Ok.ensures.tokens

pub returns-in-Ok : goal.returns-in-Ok
returns-in-Ok c =
    subst (IsWordOf c.args.text.now) (sym (c.text_of_left_out.ensures ∙ ap left_out_text c.kind.ensures))
    (word_is c.args.text.now c.args.at c.in-Ok.tokens c.token_at-token.result c.requires c.in-Ok.ensures.tokens c.token_at-token.ensures)
