use Rattle.std.proofs.Common.{◌≡◌, ◌+◌, ◌*◌, Some, [], reverse}
use Rattle.syntax_tree.specs.Syntax as syntax
use Rattle.typed_tree.specs.Decoded as part
use Rattle.typed_tree.specs.Latest.{pop, top}
use Rattle.name_rules.specs.Judges.{part_if}
use Rattle.name_rules.specs.Statements as spec
use Rattle.name_programs.specs.Around.{in_levels}
use Rattle.name_values.specs.Coverage.{as_covering}
use Rattle.syntax_nodes.specs.Parts.{the_alt, the_alts, the_arms, the_branches, the_handlers, the_more_stmts, the_stmt, the_stmts}
use Rattle.syntax_nodes.specs.Tables.{part_at}
use Rattle.typed_parts.specs.Stack.{parts}
use Rattle.name_programs.proofs.+statements.Given as goal

-- A statement is judged in one level less than what it stands in.

abbrev pub decreases-statements::stmt : goal.decreases-statements::stmt
decreases-statements::stmt l = 20 * l.text.levels

abbrev pub decreases-statements::stmt_form : goal.decreases-statements::stmt_form
decreases-statements::stmt_form l = 20 * l.below + 19

abbrev pub decreases-statements::if_stmt : goal.decreases-statements::if_stmt
decreases-statements::if_stmt l = 20 * l.below + 12

abbrev pub decreases-statements::stmts : goal.decreases-statements::stmts
decreases-statements::stmts l = 20 * l.below + 2

abbrev pub decreases-statements::stmts_from : goal.decreases-statements::stmts_from
decreases-statements::stmts_from l = 20 * l.below + 1

abbrev pub decreases-statements::elsifs : goal.decreases-statements::elsifs
decreases-statements::elsifs l = 20 * l.below + 3

abbrev pub decreases-statements::otherwise_where : goal.decreases-statements::otherwise_where
decreases-statements::otherwise_where l = 20 * l.below + 3

abbrev pub decreases-cases::alternative : goal.decreases-cases::alternative
decreases-cases::alternative l = 20 * l.below + 3

abbrev pub decreases-cases::alts : goal.decreases-cases::alts
decreases-cases::alts l = 20 * l.below + 4

abbrev pub decreases-cases::case_stmt : goal.decreases-cases::case_stmt
decreases-cases::case_stmt l = 20 * l.below + 12

abbrev pub decreases-loops::repeated : goal.decreases-loops::repeated
decreases-loops::repeated l = 20 * l.below + 3

abbrev pub decreases-loops::for_loop : goal.decreases-loops::for_loop
decreases-loops::for_loop l = 20 * l.below + 4

abbrev pub decreases-loops::loop_with : goal.decreases-loops::loop_with
decreases-loops::loop_with l = 20 * l.below + 5

abbrev pub decreases-loops::loop_by : goal.decreases-loops::loop_by
decreases-loops::loop_by l = 20 * l.below + 6

abbrev pub decreases-loops::loop_stmt : goal.decreases-loops::loop_stmt
decreases-loops::loop_stmt l = 20 * l.below + 12

abbrev pub decreases-bodies::handled : goal.decreases-bodies::handled
decreases-bodies::handled l = 20 * l.below + 3

abbrev pub decreases-bodies::handler : goal.decreases-bodies::handler
decreases-bodies::handler l = 20 * l.below + 4

abbrev pub decreases-bodies::handlers : goal.decreases-bodies::handlers
decreases-bodies::handlers l = 20 * l.below + 5

abbrev pub decreases-bodies::held : goal.decreases-bodies::held
decreases-bodies::held l = 20 * l.below + 6

abbrev pub decreases-bodies::block_of : goal.decreases-bodies::block_of
decreases-bodies::block_of l = 20 * l.below + 7

abbrev pub decreases-bodies::block : goal.decreases-bodies::block
decreases-bodies::block l = 20 * l.below + 12

abbrev pub decreases-parallels::branches : goal.decreases-parallels::branches
decreases-parallels::branches l = 20 * l.below + 3

abbrev pub decreases-parallels::threads : goal.decreases-parallels::threads
decreases-parallels::threads l = 20 * l.below + 4

abbrev pub decreases-parallels::parallel : goal.decreases-parallels::parallel
decreases-parallels::parallel l = 20 * l.below + 12

abbrev pub decreases-statements::stmts_from-more : goal.decreases-statements::stmts_from-more
decreases-statements::stmts_from-more l = l.next

abbrev pub invariant-statements::stmts_from-more : goal.invariant-statements::stmts_from-more
invariant-statements::stmts_from-more l = (spec.stmts_from (in_levels l.text.names.now l.text.levels l.below) l.fn.here (Some part.Nothing) (syntax.AlsoStmt (the_stmt (part_at l.text.tree.now.nodes l.first)) (the_more_stmts (part_at l.text.tree.now.nodes l.fn.more))) l.fn.judge.log ≡ spec.stmts_from (in_levels l.text.names.now l.text.levels l.below) l.fn.here (part_if l.done (top (parts l.judge.out))) (the_more_stmts (part_at l.text.tree.now.nodes l.next)) l.judge.log) × (pop (parts l.judge.out) ≡ parts l.fn.judge.out) × (l.here ≡ l.fn.here)

abbrev pub decreases-statements::elsifs-arms : goal.decreases-statements::elsifs-arms
decreases-statements::elsifs-arms l = l.next

abbrev pub invariant-statements::elsifs-arms : goal.invariant-statements::elsifs-arms
invariant-statements::elsifs-arms l = (spec.elsifs (in_levels l.text.names.now l.text.levels l.below) l.fn.here (Some part.Nothing) (the_arms (part_at l.text.tree.now.nodes l.fn.more)) l.fn.judge.log ≡ spec.elsifs (in_levels l.text.names.now l.text.levels l.below) l.fn.here (part_if l.done (top (parts l.judge.out))) (the_arms (part_at l.text.tree.now.nodes l.next)) l.judge.log) × (pop (parts l.judge.out) ≡ parts l.fn.judge.out) × (l.here ≡ l.fn.here)

abbrev pub decreases-cases::alts-alts : goal.decreases-cases::alts-alts
decreases-cases::alts-alts l = l.next

abbrev pub invariant-cases::alts-alts : goal.invariant-cases::alts-alts
invariant-cases::alts-alts l = (spec.alts (in_levels l.text.names.now l.text.levels l.below) l.fn.here l.kind (as_covering l.fn.covering) (Some part.Nothing) (syntax.AlsoAlt (the_alt (part_at l.text.tree.now.nodes l.first)) (the_alts (part_at l.text.tree.now.nodes l.fn.more))) l.fn.judge.log ≡ spec.alts (in_levels l.text.names.now l.text.levels l.below) l.fn.here l.kind (as_covering l.covering) (part_if l.done (top (parts l.judge.out))) (the_alts (part_at l.text.tree.now.nodes l.next)) l.judge.log) × (pop (parts l.judge.out) ≡ parts l.fn.judge.out) × (l.here ≡ l.fn.here)

abbrev pub decreases-bodies::handlers-handlers : goal.decreases-bodies::handlers-handlers
decreases-bodies::handlers-handlers l = l.next

abbrev pub invariant-bodies::handlers-handlers : goal.invariant-bodies::handlers-handlers
invariant-bodies::handlers-handlers l = (spec.handlers (in_levels l.text.names.now l.text.levels l.below) l.fn.here [] (Some part.Nothing) (the_handlers (part_at l.text.tree.now.nodes l.fn.more)) l.fn.judge.log ≡ spec.handlers (in_levels l.text.names.now l.text.levels l.below) l.fn.here (reverse l.seen) (part_if l.done (top (parts l.judge.out))) (the_handlers (part_at l.text.tree.now.nodes l.next)) l.judge.log) × (pop (parts l.judge.out) ≡ parts l.fn.judge.out) × (l.here ≡ l.fn.here)

abbrev pub decreases-parallels::branches-arms : goal.decreases-parallels::branches-arms
decreases-parallels::branches-arms l = l.next

abbrev pub invariant-parallels::branches-arms : goal.invariant-parallels::branches-arms
invariant-parallels::branches-arms l = (spec.branches (in_levels l.text.names.now l.text.levels l.below) l.fn.here (Some part.Nothing) (syntax.AlsoBranch (the_stmts (part_at l.text.tree.now.nodes l.first)) (syntax.AlsoBranch (the_stmts (part_at l.text.tree.now.nodes l.second)) (the_branches (part_at l.text.tree.now.nodes l.fn.more)))) l.fn.judge.log ≡ spec.branches (in_levels l.text.names.now l.text.levels l.below) l.fn.here (part_if l.done (top (parts l.judge.out))) (the_branches (part_at l.text.tree.now.nodes l.next)) l.judge.log) × (pop (parts l.judge.out) ≡ parts l.fn.judge.out) × (l.here ≡ l.fn.here)
