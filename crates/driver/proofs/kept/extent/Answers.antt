use Rattle.driver.proofs.Reading.{within_all, within_more}
use Rattle.driver.proofs.kept.extent.Goals as goal

pub loop-variable-preserved : goal.loop-variable-preserved
loop-variable-preserved c =
    within_more c.loop-variable.size c.max-size.result c.in_ok-behind.field-0 c.args.variables.now c.loop-variable.variable-index _ c.loop-variable-test.true c.loop-variable.invariant c.in_ok-behind.ensures c.max-size.ensures

pub returns : goal.returns
returns c = within_all c.loop-variable.size c.args.variables.now c.loop-variable.variable-index c.loop-variable-test.false c.loop-variable.invariant
