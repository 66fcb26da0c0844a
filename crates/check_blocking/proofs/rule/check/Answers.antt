use Rattle.typed_tree.specs.Programs.{program}
use Rattle.check_blocking.proofs.Least.{keeps_rule, is_first, not_kept}
use Rattle.check_blocking.proofs.rule.check.Goals as goal

pub returns-in-None : goal.returns-in-None
returns-in-None c = keeps_rule (program c.args.typed.now) (cc)

pub returns-in-Some : goal.returns-in-Some
returns-in-Some c = (is_first (program c.args.typed.now) c.in-Some.field-0 cc, not_kept (program c.args.typed.now) c.in-Some.field-0 cc)
