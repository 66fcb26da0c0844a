use Rattle.std.proofs.Common.{◌≡◌, ◌≤◌, arith, refl, length, true≢false, sym, ◌∙◌, subst}
use Rattle.stack_code.specs.Valid.{Each, GuardsIn}
use Rattle.code_validity.proofs.Slacks.{each_guards_more, each_guards_part}
use Rattle.code_validity.proofs.slack.guards_fit.Goals as goal
use Rattle.code_validity.proofs.slack.guards_fit.Goals.{then-size-long, else-size-long}

pub returns-then-not-block_guards : goal.returns-then-not-block_guards
returns-then-not-block_guards c =
    let within : c.if-size-long.to ≤ length c.args.code.now.instrs = elim c.if-size-long.branch [ then-size-long w ↦ omega arith | else-size-long w ↦ omega arith ] in (
      λ h. absurd (true≢false (sym h)),
      λ h. sym c.if-not-block_guards.true ∙ c.block_guards.ensures.1 (each_guards_part c.args.code.now (length c.args.code.now.instrs) c.loop-from.from c.if-size-long.to within h),
    )

pub loop-from-preserved : goal.loop-from-preserved
loop-from-preserved c =
    let within : c.if-size-long.to ≤ c.len-long.result = elim c.if-size-long.branch [ then-size-long w ↦ omega arith | else-size-long w ↦ omega arith ] in
    (each_guards_more c.args.code.now c.loop-from.from c.if-size-long.to c.loop-from.invariant.0 (c.block_guards.ensures.0 c.if-not-block_guards.false), within)

pub returns : goal.returns
returns c =
    let same : c.loop-from.from ≡ length c.args.code.now.instrs = omega (arith, c.loop-from.invariant.1) in
    (λ t. subst (λ n. Each c.args.code.now.unwind (GuardsIn c.args.code.now 0 n)) same c.loop-from.invariant.0, λ h. refl)
