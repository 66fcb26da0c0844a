use Rattle.std.proofs.Common.{min, ap, ◌∙◌}
use Rattle.run_plan.proofs.plan_cuts.even_chunks.Goals as goal

pub returns : goal.returns
returns c = c.min-2.ensures ∙ ap (min c.args.chunks) (c.min.ensures ∙ ap (min c.args.n) c.from.ensures)
