use Rattle.std.proofs.Common.{◌+◌, arith, true≢false, sym, ◌∙◌}
use Rattle.code_validity.proofs.Slacks.{guards_more, guards_part}
use Rattle.code_validity.proofs.slack.guards_each.Goals as goal

pub returns-then-not-admits : goal.returns-then-not-admits
returns-then-not-admits c = (
  λ h. absurd (true≢false (sym h)),
  λ h. sym c.if-not-admits.true ∙ c.admits.ensures.1 ((c.slack_at-slack.ensures.admits c.args.number c.args.entry).1 (guards_part c.args.code.now c.args.from c.args.to c.loop-at.at (c.loop-at.at + 1) c.args.number c.args.entry h (omega arith) (omega arith))),
)

pub loop-at-preserved : goal.loop-at-preserved
loop-at-preserved c = guards_more c.args.code.now c.args.from c.loop-at.at c.args.number c.args.entry c.loop-at.invariant ((c.slack_at-slack.ensures.admits c.args.number c.args.entry).0 (c.admits.ensures.0 c.if-not-admits.false))
