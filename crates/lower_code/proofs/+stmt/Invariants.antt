use Rattle.std.proofs.Common.{◌+◌, ◌*◌, max}
use Rattle.lower_code.proofs.+stmt.Given as goal

-- Numbers of nodes, then numbers of declarations, then the order in which functions that go by one node call each other.

abbrev pub decreases-stmts::stmt : goal.decreases-stmts::stmt
decreases-stmts::stmt l = 17179869184 * l.id + 90

abbrev pub decreases-stmts::case : goal.decreases-stmts::case
decreases-stmts::case l = 17179869184 * l.alternatives + 95

abbrev pub decreases-stmts::all : goal.decreases-stmts::all
decreases-stmts::all l = 17179869184 * l.id + 1

abbrev pub decreases-stmts::if_then : goal.decreases-stmts::if_then
decreases-stmts::if_then l = 17179869184 * max l.stmts l.otherwise + 95

abbrev pub decreases-stmts::repeat : goal.decreases-stmts::repeat
decreases-stmts::repeat l = 17179869184 * l.stmts + 95

abbrev pub decreases-loops::turn : goal.decreases-loops::turn
decreases-loops::turn l = 17179869184 * l.turns.stmts + 10

abbrev pub decreases-loops::for_loop : goal.decreases-loops::for_loop
decreases-loops::for_loop l = 17179869184 * l.stmts + 40

abbrev pub decreases-loops::range_turns : goal.decreases-loops::range_turns
decreases-loops::range_turns l = 17179869184 * l.turns.stmts + 20

abbrev pub decreases-loops::item_turns : goal.decreases-loops::item_turns
decreases-loops::item_turns l = 17179869184 * l.turns.stmts + 20

abbrev pub decreases-blocks::block : goal.decreases-blocks::block
decreases-blocks::block l = 17179869184 * max l.stmts l.handlers + (2 * l.decls + 100)

abbrev pub decreases-blocks::declare : goal.decreases-blocks::declare
decreases-blocks::declare l = 17179869184 * max l.rest.stmts l.rest.handlers + (2 * l.rest.decls + 101)

abbrev pub decreases-blocks::declare_default : goal.decreases-blocks::declare_default
decreases-blocks::declare_default l = 17179869184 * max l.rest.stmts l.rest.handlers + (2 * l.rest.decls + 101)

abbrev pub decreases-blocks::body : goal.decreases-blocks::body
decreases-blocks::body l = 17179869184 * max l.stmts l.handlers + 95

abbrev pub decreases-blocks::handlers_of : goal.decreases-blocks::handlers_of
decreases-blocks::handlers_of l = 17179869184 * l.id + 10

abbrev pub decreases-blocks::handling : goal.decreases-blocks::handling
decreases-blocks::handling l = 17179869184 * l.id + 1

abbrev pub decreases-blocks::cases : goal.decreases-blocks::cases
decreases-blocks::cases l = 17179869184 * l.id + 1

abbrev pub decreases-parallel::parallel_for : goal.decreases-parallel::parallel_for
decreases-parallel::parallel_for l = 17179869184 * l.stmts + 95

abbrev pub decreases-parallel::thread : goal.decreases-parallel::thread
decreases-parallel::thread l = 17179869184 * l.stmts + 50

abbrev pub decreases-parallel::range_thread : goal.decreases-parallel::range_thread
decreases-parallel::range_thread l = 17179869184 * l.turns.stmts + 30

abbrev pub decreases-parallel::item_thread : goal.decreases-parallel::item_thread
decreases-parallel::item_thread l = 17179869184 * l.turns.stmts + 30

abbrev pub decreases-parallel::item_turns : goal.decreases-parallel::item_turns
decreases-parallel::item_turns l = 17179869184 * l.turns.stmts + 20

abbrev pub decreases-parallel::parallel_block : goal.decreases-parallel::parallel_block
decreases-parallel::parallel_block l = 17179869184 * l.arms + 95

abbrev pub decreases-parallel::arms_from : goal.decreases-parallel::arms_from
decreases-parallel::arms_from l = 17179869184 * l.id + 1

abbrev pub decreases-stmts::forever : goal.decreases-stmts::forever
decreases-stmts::forever l = 17179869184 * l.stmts + 94

abbrev pub decreases-stmts::while_loop : goal.decreases-stmts::while_loop
decreases-stmts::while_loop l = 17179869184 * l.stmts + 94

abbrev pub decreases-blocks::guarded : goal.decreases-blocks::guarded
decreases-blocks::guarded l = 17179869184 * max l.stmts l.handlers + 94

abbrev pub decreases-parallel::forked_loop : goal.decreases-parallel::forked_loop
decreases-parallel::forked_loop l = 17179869184 * l.stmts + 94

abbrev pub decreases-parallel::forked_block : goal.decreases-parallel::forked_block
decreases-parallel::forked_block l = 17179869184 * l.arms + 94
