use Rattle.top_call.proofs.Headline.{headline}
use Rattle.top_call.proofs.top.run_words.Goals as goal

pub returns : goal.returns
returns g c = rw c.number.ensures (headline _ _ _ _ c.answer_words-status.ensures)
