use Rattle.std.proofs.Common.{◌≡◌}
use Rattle.name_rules.specs.Cases as spec
use Rattle.name_values.specs.Coverage.{as_naming}
use Rattle.syntax_nodes.specs.Parts.{the_packs}
use Rattle.syntax_nodes.specs.Tables.{part_at}
use Rattle.typed_parts.specs.Stack.{parts}
use Rattle.name_values.proofs.handled.named_reasons.Given as goal

abbrev pub invariant-packs : goal.invariant-packs
invariant-packs l = (spec.named_reasons l.names l.here (as_naming l.fn.seen l.fn.whole l.fn.named) (the_packs (part_at l.tree.nodes l.fn.more)) l.fn.judge.log ≡ spec.named_reasons l.names l.here (as_naming l.seen l.all l.named) (the_packs (part_at l.tree.nodes l.next)) l.judge.log) × (parts l.judge.out ≡ parts l.fn.judge.out)

abbrev pub decreases-packs : goal.decreases-packs
decreases-packs l = l.next
