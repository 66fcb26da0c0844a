use Rattle.std.proofs.Common.{◌≡◌, arith, subst}
use Rattle.code_validity.specs.Slack.{IsSlackOf}
use Rattle.code_validity.proofs.Slacks.{slack_more}
use Rattle.code_validity.proofs.slack.slack_from.Goals as goal

pub loop-at-preserved : goal.loop-at-preserved
loop-at-preserved c = slack_more c.args.code.now c.args.from c.loop-at.at _ _ _ (omega arith) c.loop-at.invariant c.slack_at-one.ensures c.joined-all.ensures

pub returns : goal.returns
returns c =
    let same : c.loop-at.at ≡ c.args.to = omega arith in
    subst (λ n. IsSlackOf c.args.code.now c.args.from n c.loop-at.all) same c.loop-at.invariant
