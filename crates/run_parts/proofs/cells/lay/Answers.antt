use Rattle.std.proofs.Common.{rules, sym}
use Rattle.run_parts.proofs.Stepping.{laid_step, laid_all, laid_none}
use Rattle.run_parts.proofs.cells.lay.Goals as goal

pub loop-value-preserved : goal.loop-value-preserved
loop-value-preserved c =
    laid_step c.loop-value.out c.put_value.new.out c.args.out.now c.args.first c.loop-value.k c.args.values.now c.in-Some.value (search rules) c.loop-value.invariant (search rules)

pub returns : goal.returns
returns c = laid_all c.loop-value.out c.args.out.now c.args.first c.loop-value.k c.args.values.now (search rules) c.loop-value.invariant

pub loop-value-init : goal.loop-value-init
loop-value-init c = sym (laid_none c.args.out.now c.args.first)
