use Rattle.std.proofs.Common.{◌≡◌, map, length}
use Rattle.typed_tree.specs.Programs.{sub_of}
use Rattle.check_calls.specs.First.{first_subs}
use Rattle.check_calls.specs.Words.{rule_of}
use Rattle.check_blocking.proofs.rule.subs.Given as goal

abbrev pub invariant-loop-sub : goal.invariant-loop-sub
invariant-loop-sub l = first_subs (rule_of l.typed) l.typed.nonblocking (map (sub_of l.typed.nodes) l.rest) l.all ≡ first_subs (rule_of l.typed) l.typed.nonblocking (map (sub_of l.typed.nodes) l.from) l.fn.found

abbrev pub decreases-loop-sub : goal.decreases-loop-sub
decreases-loop-sub l = length l.rest
