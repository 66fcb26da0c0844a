use Rattle.std.proofs.Common.{arith, refl, ap, length, true≢false, sym, ◌∙◌}
use Rattle.stack_code.specs.Valid.{GuardsIn}
use Rattle.stack_code.proofs.Lists.{there_in, each_more, each_all}
use Rattle.code_validity.proofs.slack.block_guards.Goals as goal

pub returns-then-not-guards : goal.returns-then-not-guards
returns-then-not-guards c = (
  λ h. absurd (true≢false (sym h)),
  λ h. sym c.if-not-guards.true ∙ c.guards.ensures.1 (h c.loop-number.number _ (there_in c.args.code.now.unwind c.as_slice-entries.result.now c.loop-number.number _ c.as_slice-entries.ensures (omega (arith, ap length c.as_slice-entries.ensures)))),
)

pub loop-number-preserved : goal.loop-number-preserved
loop-number-preserved c = each_more c.args.code.now.unwind (GuardsIn c.args.code.now c.args.from c.args.to) c.loop-number.number _
    (there_in c.args.code.now.unwind c.as_slice-entries.result.now c.loop-number.number _ c.as_slice-entries.ensures (omega (arith, ap length c.as_slice-entries.ensures))) c.loop-number.invariant (c.guards.ensures.0 c.if-not-guards.false)

pub returns : goal.returns
returns c = (λ t. each_all c.args.code.now.unwind (GuardsIn c.args.code.now c.args.from c.args.to) c.loop-number.number (omega (arith, ap length c.as_slice-entries.ensures)) c.loop-number.invariant, λ h. refl)
