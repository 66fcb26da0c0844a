use Rattle.code_validity.specs.Slack.{IsSlackOf}
use Rattle.code_validity.proofs.slack.slack_from.Given as goal

abbrev pub invariant-loop-at : goal.invariant-loop-at
invariant-loop-at l = IsSlackOf l.code l.from l.at l.all
