use Rattle.std.proofs.Common.{◌≡◌, ◌+◌}
use Rattle.name_rules.specs.Statements as spec
use Rattle.syntax_nodes.specs.Parts.{the_branches}
use Rattle.syntax_nodes.specs.Tables.{part_at}
use Rattle.name_programs.proofs.parallels.arm_count.Given as goal

abbrev pub invariant-arms : goal.invariant-arms
invariant-arms l = l.n + spec.branch_count (the_branches (part_at l.tree.nodes l.next)) ≡ 2 + spec.branch_count (the_branches (part_at l.tree.nodes l.fn.more))

abbrev pub decreases-arms : goal.decreases-arms
decreases-arms l = l.next
