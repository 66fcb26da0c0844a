use Rattle.std.proofs.Common.{◌∙◌}
use Rattle.top_call.proofs.Soaking.{same_text}
use Rattle.top_call.proofs.run.answer_soak.Goals as goal

pub returns-in-Ok : goal.returns-in-Ok
returns-in-Ok g c = same_text _ _ _ c.answer_text.result.status _ _ (c.as_bytes.ensures.value ∙ c.in-Ok.ensures) c.answer_text.ensures
