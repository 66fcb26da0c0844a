use Rattle.code_validity.specs.Slack.{AllGuarded}
use Rattle.code_validity.proofs.slack.guards_each.Given as goal

abbrev pub invariant-loop-at : goal.invariant-loop-at
invariant-loop-at l = AllGuarded l.code l.from l.at l.number l.entry
