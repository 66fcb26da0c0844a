use Rattle.std.proofs.Common.{◌≡◌, ◌-◌, ◌+◌, ◌*◌}
use Rattle.syntax_readers.specs.Loops.{turns, chain}
use Rattle.syntax_statements.specs.Chains as chains
use Rattle.syntax_nodes.specs.Stack.{parts}
use Rattle.syntax_nodes.specs.Rooted.{top, pop}
use Rattle.syntax_statements.proofs.+list.Given as goal

abbrev pub decreases-bodies::and_stmts : goal.decreases-bodies::and_stmts
decreases-bodies::and_stmts l = 128 * l.levels + 6

abbrev pub decreases-bodies::arrow_stmts : goal.decreases-bodies::arrow_stmts
decreases-bodies::arrow_stmts l = 128 * l.levels + 6

abbrev pub decreases-bodies::body : goal.decreases-bodies::body
decreases-bodies::body l = 128 * l.levels + 18

abbrev pub decreases-bodies::handled : goal.decreases-bodies::handled
decreases-bodies::handled l = 128 * l.levels + 11

abbrev pub decreases-bodies::handler : goal.decreases-bodies::handler
decreases-bodies::handler l = 128 * l.levels + 12

abbrev pub decreases-bodies::handlers : goal.decreases-bodies::handlers
decreases-bodies::handlers l = 128 * l.levels + 17

abbrev pub decreases-bodies::next_exception : goal.decreases-bodies::next_exception
decreases-bodies::next_exception l = 128 * l.levels + 6

abbrev pub decreases-bodies::stmts : goal.decreases-bodies::stmts
decreases-bodies::stmts l = 128 * l.levels + 5

abbrev pub decreases-bodies::then_stmts : goal.decreases-bodies::then_stmts
decreases-bodies::then_stmts l = 128 * l.levels + 6

abbrev pub decreases-chains::follow : goal.decreases-chains::follow
decreases-chains::follow l = 128 * l.levels + (chains.rank l.chain + 2)

abbrev pub decreases-chains::item : goal.decreases-chains::item
decreases-chains::item l = 128 * l.levels + chains.rank l.chain

abbrev pub decreases-chains::link : goal.decreases-chains::link
decreases-chains::link l = 128 * l.levels + (chains.rank l.chain + 1)

abbrev pub decreases-chains::list : goal.decreases-chains::list
decreases-chains::list l = 128 * l.levels + (chains.rank l.chain + 3)

abbrev pub decreases-compounds::alt : goal.decreases-compounds::alt
decreases-compounds::alt l = 128 * l.levels + 7

abbrev pub decreases-compounds::arm : goal.decreases-compounds::arm
decreases-compounds::arm l = 128 * l.levels + 7

abbrev pub decreases-compounds::compound : goal.decreases-compounds::compound
decreases-compounds::compound l = 128 * l.levels + 21

abbrev pub decreases-compounds::conditional : goal.decreases-compounds::conditional
decreases-compounds::conditional l = 128 * l.levels + 12

abbrev pub decreases-compounds::named : goal.decreases-compounds::named
decreases-compounds::named l = 128 * l.levels + 10

abbrev pub decreases-compounds::named_from : goal.decreases-compounds::named_from
decreases-compounds::named_from l = 128 * l.levels + 9

abbrev pub decreases-compounds::otherwise : goal.decreases-compounds::otherwise
decreases-compounds::otherwise l = 128 * l.levels + 6

abbrev pub decreases-compounds::selection : goal.decreases-compounds::selection
decreases-compounds::selection l = 128 * l.levels + 12

abbrev pub decreases-compounds::stmt : goal.decreases-compounds::stmt
decreases-compounds::stmt l = 128 * l.levels + 0

abbrev pub decreases-compounds::stmt_opened : goal.decreases-compounds::stmt_opened
decreases-compounds::stmt_opened l = 128 * l.levels + 22

abbrev pub decreases-declarations::constant : goal.decreases-declarations::constant
decreases-declarations::constant l = 128 * l.levels + 4

abbrev pub decreases-declarations::decl : goal.decreases-declarations::decl
decreases-declarations::decl l = 128 * l.levels + 14

abbrev pub decreases-declarations::formal : goal.decreases-declarations::formal
decreases-declarations::formal l = 128 * l.levels + 6

abbrev pub decreases-declarations::formals : goal.decreases-declarations::formals
decreases-declarations::formals l = 128 * l.levels + 0

abbrev pub decreases-declarations::formals_opened : goal.decreases-declarations::formals_opened
decreases-declarations::formals_opened l = 128 * l.levels + 12

abbrev pub decreases-declarations::named_decl : goal.decreases-declarations::named_decl
decreases-declarations::named_decl l = 128 * l.levels + 5

abbrev pub decreases-declarations::names_decl : goal.decreases-declarations::names_decl
decreases-declarations::names_decl l = 128 * l.levels + 6

abbrev pub decreases-declarations::next_formal : goal.decreases-declarations::next_formal
decreases-declarations::next_formal l = 128 * l.levels + 7

abbrev pub decreases-declarations::object : goal.decreases-declarations::object
decreases-declarations::object l = 128 * l.levels + 3

abbrev pub decreases-declarations::object_type : goal.decreases-declarations::object_type
decreases-declarations::object_type l = 128 * l.levels + 2

abbrev pub decreases-declarations::optional_formals : goal.decreases-declarations::optional_formals
decreases-declarations::optional_formals l = 128 * l.levels + 1

abbrev pub decreases-loops::for_from : goal.decreases-loops::for_from
decreases-loops::for_from l = 128 * l.levels + 7

abbrev pub decreases-loops::labelled : goal.decreases-loops::labelled
decreases-loops::labelled l = 128 * l.levels + 8

abbrev pub decreases-loops::loop_from : goal.decreases-loops::loop_from
decreases-loops::loop_from l = 128 * l.levels + 6

abbrev pub decreases-loops::while_from : goal.decreases-loops::while_from
decreases-loops::while_from l = 128 * l.levels + 7

abbrev pub decreases-names::ids : goal.decreases-names::ids
decreases-names::ids l = 128 * l.levels + 5

abbrev pub decreases-names::pack : goal.decreases-names::pack
decreases-names::pack l = 128 * l.levels + 5

abbrev pub decreases-parallels::block_from : goal.decreases-parallels::block_from
decreases-parallels::block_from l = 128 * l.levels + 19

abbrev pub decreases-parallels::chunked_from : goal.decreases-parallels::chunked_from
decreases-parallels::chunked_from l = 128 * l.levels + 12

abbrev pub decreases-parallels::declaring : goal.decreases-parallels::declaring
decreases-parallels::declaring l = 128 * l.levels + 20

abbrev pub decreases-parallels::do_from : goal.decreases-parallels::do_from
decreases-parallels::do_from l = 128 * l.levels + 11

abbrev pub decreases-parallels::parallel_from : goal.decreases-parallels::parallel_from
decreases-parallels::parallel_from l = 128 * l.levels + 13

abbrev pub decreases-parallels::parallel_stmt : goal.decreases-parallels::parallel_stmt
decreases-parallels::parallel_stmt l = 128 * l.levels + 14

abbrev pub decreases-statements::raise : goal.decreases-statements::raise
decreases-statements::raise l = 128 * l.levels + 7

abbrev pub decreases-statements::raise_from : goal.decreases-statements::raise_from
decreases-statements::raise_from l = 128 * l.levels + 6

abbrev pub decreases-subprograms::ended : goal.decreases-subprograms::ended
decreases-subprograms::ended l = 128 * l.levels + 19

abbrev pub decreases-subprograms::function : goal.decreases-subprograms::function
decreases-subprograms::function l = 128 * l.levels + 22

abbrev pub decreases-subprograms::function_body : goal.decreases-subprograms::function_body
decreases-subprograms::function_body l = 128 * l.levels + 20

abbrev pub decreases-subprograms::function_from : goal.decreases-subprograms::function_from
decreases-subprograms::function_from l = 128 * l.levels + 21

abbrev pub decreases-subprograms::procedure : goal.decreases-subprograms::procedure
decreases-subprograms::procedure l = 128 * l.levels + 21

abbrev pub decreases-subprograms::procedure_is : goal.decreases-subprograms::procedure_is
decreases-subprograms::procedure_is l = 128 * l.levels + 20

abbrev pub decreases-subprograms::sub : goal.decreases-subprograms::sub
decreases-subprograms::sub l = 128 * l.levels + 0

abbrev pub decreases-subprograms::sub_opened : goal.decreases-subprograms::sub_opened
decreases-subprograms::sub_opened l = 128 * l.levels + 23

abbrev pub decreases-types::array : goal.decreases-types::array
decreases-types::array l = 128 * l.levels + 1

abbrev pub decreases-types::comp : goal.decreases-types::comp
decreases-types::comp l = 128 * l.levels + 6

abbrev pub decreases-types::definition : goal.decreases-types::definition
decreases-types::definition l = 128 * l.levels + 12

abbrev pub decreases-types::indexes : goal.decreases-types::indexes
decreases-types::indexes l = 128 * l.levels + 0

abbrev pub decreases-types::indexes_opened : goal.decreases-types::indexes_opened
decreases-types::indexes_opened l = 128 * l.levels + 5

abbrev pub decreases-types::record_type : goal.decreases-types::record_type
decreases-types::record_type l = 128 * l.levels + 11

abbrev pub decreases-types::type_decl : goal.decreases-types::type_decl
decreases-types::type_decl l = 128 * l.levels + 13

abbrev pub decreases-units::clause : goal.decreases-units::clause
decreases-units::clause l = 128 * l.levels + 11

abbrev pub decreases-units::next_pack : goal.decreases-units::next_pack
decreases-units::next_pack l = 128 * l.levels + 6

abbrev pub decreases-units::unit : goal.decreases-units::unit
decreases-units::unit l = 128 * l.levels + 15

abbrev pub invariant-chains::follow-loop-turn : goal.invariant-chains::follow-loop-turn
invariant-chains::follow-loop-turn l =
    (turns (l._turn-end - l._turn) (chains.goes l.fn.chain) (chains.link l.fn.levels l.fn.chain) (chains.so_far l.fn.chain (top (parts l.parser.out))) l.parser.tokens ≡
    chain (chains.goes l.fn.chain) (chains.link l.fn.levels l.fn.chain) (chains.so_far l.fn.chain (top (parts l.fn.parser.out))) l.fn.parser.tokens)
    × (pop (parts l.parser.out) ≡ pop (parts l.fn.parser.out))
