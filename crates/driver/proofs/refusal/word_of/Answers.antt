use Rattle.std.proofs.Common.{sym, ◌∙◌, true≢false}
use Rattle.driver.proofs.Words.{no_word_of}
use Rattle.driver.proofs.refusal.word_of.Goals as goal

pub returns-else-is_left_out : goal.returns-else-is_left_out
returns-else-is_left_out c =
    no_word_of c.args.text.now c.args.at c.args.note c.requires (λ left. true≢false (sym (c.is_left_out.ensures.1 left) ∙ c.if-is_left_out.false))
