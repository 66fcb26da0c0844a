use Rattle.std.proofs.Common.{◌∙◌}
use Rattle.top_call.proofs.Soaking.{same_lines}
use Rattle.top_call.proofs.run.put_soak.Goals as goal

pub returns-in-Ok : goal.returns-in-Ok
returns-in-Ok g c = same_lines _ _ c.put_all.result _ _ _ _ (c.as_slice.ensures ∙ c.in-Ok.ensures) c.put_all.ensures
