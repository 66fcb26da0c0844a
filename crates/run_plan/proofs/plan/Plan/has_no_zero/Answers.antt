use Rattle.run_plan.proofs.Zeros.{no_zero-listed}
use Rattle.run_plan.proofs.plan.Plan.has_no_zero.Goals as goal

pub returns-in-Listed : goal.returns-in-Listed
returns-in-Listed c =
    no_zero-listed c.args.self.now c.in-Listed.sizes c.as_slice.result.now c.contains.result c.in-Listed.is c.as_slice.ensures c.contains.ensures.value
