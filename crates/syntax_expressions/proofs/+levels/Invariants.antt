use Rattle.std.proofs.Common.{◌≡◌, ◌-◌, ◌+◌, ◌*◌, length}
use Rattle.syntax_readers.specs.Loops.{turns, chain}
use Rattle.syntax_grammar.specs.Brackets.{positions_for}
use Rattle.syntax_grammar.specs.Levels as level
use Rattle.syntax_expressions.specs.Chains as chains
use Rattle.syntax_nodes.specs.Stack.{parts}
use Rattle.syntax_nodes.specs.Rooted.{top, pop, second, third}
use Rattle.syntax_nodes.specs.Parts.{the_expr, open_exprs}
use Rattle.syntax_expressions.proofs.+levels.Given as goal

abbrev pub decreases-aggregates::assoc : goal.decreases-aggregates::assoc
decreases-aggregates::assoc l = 128 * l.levels + 39

abbrev pub decreases-aggregates::assocs_from : goal.decreases-aggregates::assocs_from
decreases-aggregates::assocs_from l = 128 * l.levels + 45

abbrev pub decreases-aggregates::choice : goal.decreases-aggregates::choice
decreases-aggregates::choice l = 128 * l.levels + 24

abbrev pub decreases-aggregates::choice_from : goal.decreases-aggregates::choice_from
decreases-aggregates::choice_from l = 128 * l.levels + 23

abbrev pub decreases-aggregates::chosen : goal.decreases-aggregates::chosen
decreases-aggregates::chosen l = 128 * l.levels + 38

abbrev pub decreases-aggregates::each : goal.decreases-aggregates::each
decreases-aggregates::each l = 128 * l.levels + 38

abbrev pub decreases-aggregates::each_and_more : goal.decreases-aggregates::each_and_more
decreases-aggregates::each_and_more l = 128 * l.levels + 46

abbrev pub decreases-aggregates::first_others : goal.decreases-aggregates::first_others
decreases-aggregates::first_others l = 128 * l.levels + 38

abbrev pub decreases-aggregates::inside : goal.decreases-aggregates::inside
decreases-aggregates::inside l = 128 * l.levels + 48

abbrev pub decreases-aggregates::inside_choice : goal.decreases-aggregates::inside_choice
decreases-aggregates::inside_choice l = 128 * l.levels + 46

abbrev pub decreases-aggregates::inside_expr : goal.decreases-aggregates::inside_expr
decreases-aggregates::inside_expr l = 128 * l.levels + 41

abbrev pub decreases-aggregates::inside_simple : goal.decreases-aggregates::inside_simple
decreases-aggregates::inside_simple l = 128 * l.levels + 47

abbrev pub decreases-aggregates::next_assoc : goal.decreases-aggregates::next_assoc
decreases-aggregates::next_assoc l = 128 * l.levels + 40

abbrev pub decreases-aggregates::next_choice : goal.decreases-aggregates::next_choice
decreases-aggregates::next_choice l = 128 * l.levels + 25

abbrev pub decreases-aggregates::position_others : goal.decreases-aggregates::position_others
decreases-aggregates::position_others l = 128 * l.levels + 38

abbrev pub decreases-aggregates::positions : goal.decreases-aggregates::positions
decreases-aggregates::positions l = 128 * l.levels + 39

abbrev pub decreases-aggregates::positions_from : goal.decreases-aggregates::positions_from
decreases-aggregates::positions_from l = 128 * l.levels + 40

abbrev pub decreases-brackets::else_value : goal.decreases-brackets::else_value
decreases-brackets::else_value l = 128 * l.levels + 37

abbrev pub decreases-brackets::if_expr : goal.decreases-brackets::if_expr
decreases-brackets::if_expr l = 128 * l.levels + 43

abbrev pub decreases-brackets::next_elsif : goal.decreases-brackets::next_elsif
decreases-brackets::next_elsif l = 128 * l.levels + 38

abbrev pub decreases-brackets::round_inside : goal.decreases-brackets::round_inside
decreases-brackets::round_inside l = 128 * l.levels + 49

abbrev pub decreases-brackets::round_opened : goal.decreases-brackets::round_opened
decreases-brackets::round_opened l = 128 * l.levels + 50

abbrev pub decreases-brackets::then_value : goal.decreases-brackets::then_value
decreases-brackets::then_value l = 128 * l.levels + 37

abbrev pub decreases-chains::follow : goal.decreases-chains::follow
decreases-chains::follow l = 128 * l.levels + (chains.rank l.chain + 2)

abbrev pub decreases-chains::item : goal.decreases-chains::item
decreases-chains::item l = 128 * l.levels + chains.rank l.chain

abbrev pub decreases-chains::joined_item : goal.decreases-chains::joined_item
decreases-chains::joined_item l = 128 * l.levels + 28

abbrev pub decreases-chains::link : goal.decreases-chains::link
decreases-chains::link l = 128 * l.levels + (chains.rank l.chain + 1)

abbrev pub decreases-chains::list : goal.decreases-chains::list
decreases-chains::list l = 128 * l.levels + (chains.rank l.chain + 3)

abbrev pub decreases-expressions::added : goal.decreases-expressions::added
decreases-expressions::added l = 128 * l.levels + 15

abbrev pub decreases-expressions::after_and : goal.decreases-expressions::after_and
decreases-expressions::after_and l = 128 * l.levels + 34

abbrev pub decreases-expressions::after_or : goal.decreases-expressions::after_or
decreases-expressions::after_or l = 128 * l.levels + 34

abbrev pub decreases-expressions::conjoined : goal.decreases-expressions::conjoined
decreases-expressions::conjoined l = 128 * l.levels + 26

abbrev pub decreases-expressions::conjunct : goal.decreases-expressions::conjunct
decreases-expressions::conjunct l = 128 * l.levels + 27

abbrev pub decreases-expressions::expr : goal.decreases-expressions::expr
decreases-expressions::expr l = 128 * l.levels + 36

abbrev pub decreases-expressions::expr_from : goal.decreases-expressions::expr_from
decreases-expressions::expr_from l = 128 * l.levels + 35

abbrev pub decreases-expressions::factor : goal.decreases-expressions::factor
decreases-expressions::factor l = 128 * l.levels + 8

abbrev pub decreases-expressions::joined : goal.decreases-expressions::joined
decreases-expressions::joined l = 128 * l.levels + 33

abbrev pub decreases-expressions::multiplied : goal.decreases-expressions::multiplied
decreases-expressions::multiplied l = 128 * l.levels + 9

abbrev pub decreases-expressions::name : goal.decreases-expressions::name
decreases-expressions::name l = 128 * l.levels + 6

abbrev pub decreases-expressions::part : goal.decreases-expressions::part
decreases-expressions::part l = 128 * l.levels + 1

abbrev pub decreases-expressions::primary : goal.decreases-expressions::primary
decreases-expressions::primary l = 128 * l.levels + 7

abbrev pub decreases-expressions::rel : goal.decreases-expressions::rel
decreases-expressions::rel l = 128 * l.levels + 25

abbrev pub decreases-expressions::rel_from : goal.decreases-expressions::rel_from
decreases-expressions::rel_from l = 128 * l.levels + 24

abbrev pub decreases-expressions::short_conjunct : goal.decreases-expressions::short_conjunct
decreases-expressions::short_conjunct l = 128 * l.levels + 27

abbrev pub decreases-expressions::signed : goal.decreases-expressions::signed
decreases-expressions::signed l = 128 * l.levels + 20

abbrev pub decreases-expressions::simple : goal.decreases-expressions::simple
decreases-expressions::simple l = 128 * l.levels + 21

abbrev pub decreases-expressions::term : goal.decreases-expressions::term
decreases-expressions::term l = 128 * l.levels + 14

abbrev pub decreases-expressions::upper_bound : goal.decreases-expressions::upper_bound
decreases-expressions::upper_bound l = 128 * l.levels + 22

abbrev pub decreases-expressions::within : goal.decreases-expressions::within
decreases-expressions::within l = 128 * l.levels + 23

abbrev pub decreases-iterations::chunk_from : goal.decreases-iterations::chunk_from
decreases-iterations::chunk_from l = 128 * l.levels + 28

abbrev pub decreases-iterations::chunk_in : goal.decreases-iterations::chunk_in
decreases-iterations::chunk_in l = 128 * l.levels + 27

abbrev pub decreases-iterations::chunk_opened : goal.decreases-iterations::chunk_opened
decreases-iterations::chunk_opened l = 128 * l.levels + 29

abbrev pub decreases-iterations::filter : goal.decreases-iterations::filter
decreases-iterations::filter l = 128 * l.levels + 37

abbrev pub decreases-iterations::iter_begun : goal.decreases-iterations::iter_begun
decreases-iterations::iter_begun l = 128 * l.levels + 39

abbrev pub decreases-iterations::iter_in : goal.decreases-iterations::iter_in
decreases-iterations::iter_in l = 128 * l.levels + 38

abbrev pub decreases-iterations::iter_of : goal.decreases-iterations::iter_of
decreases-iterations::iter_of l = 128 * l.levels + 38

abbrev pub decreases-iterations::parallel : goal.decreases-iterations::parallel
decreases-iterations::parallel l = 128 * l.levels + 1

abbrev pub decreases-levels::call : goal.decreases-levels::call
decreases-levels::call l = 128 * l.levels + 0

abbrev pub decreases-levels::chunk : goal.decreases-levels::chunk
decreases-levels::chunk l = 128 * l.levels + 0

abbrev pub decreases-levels::round : goal.decreases-levels::round
decreases-levels::round l = 128 * l.levels + 0

abbrev pub decreases-levels::square : goal.decreases-levels::square
decreases-levels::square l = 128 * l.levels + 0

abbrev pub decreases-ranges::arg : goal.decreases-ranges::arg
decreases-ranges::arg l = 128 * l.levels + 39

abbrev pub decreases-ranges::arrow_value : goal.decreases-ranges::arrow_value
decreases-ranges::arrow_value l = 128 * l.levels + 37

abbrev pub decreases-ranges::call_opened : goal.decreases-ranges::call_opened
decreases-ranges::call_opened l = 128 * l.levels + 45

abbrev pub decreases-ranges::constraint : goal.decreases-ranges::constraint
decreases-ranges::constraint l = 128 * l.levels + 23

abbrev pub decreases-ranges::named_arg : goal.decreases-ranges::named_arg
decreases-ranges::named_arg l = 128 * l.levels + 38

abbrev pub decreases-ranges::named_range : goal.decreases-ranges::named_range
decreases-ranges::named_range l = 128 * l.levels + 24

abbrev pub decreases-ranges::next_arg : goal.decreases-ranges::next_arg
decreases-ranges::next_arg l = 128 * l.levels + 40

abbrev pub decreases-ranges::range : goal.decreases-ranges::range
decreases-ranges::range l = 128 * l.levels + 26

abbrev pub decreases-ranges::range_from : goal.decreases-ranges::range_from
decreases-ranges::range_from l = 128 * l.levels + 25

abbrev pub decreases-squares::each_end : goal.decreases-squares::each_end
decreases-squares::each_end l = 128 * l.levels + 46

abbrev pub decreases-squares::reduction : goal.decreases-squares::reduction
decreases-squares::reduction l = 128 * l.levels + 37

abbrev pub decreases-squares::square_inside : goal.decreases-squares::square_inside
decreases-squares::square_inside l = 128 * l.levels + 49

abbrev pub decreases-squares::square_opened : goal.decreases-squares::square_opened
decreases-squares::square_opened l = 128 * l.levels + 50

abbrev pub decreases-squares::values : goal.decreases-squares::values
decreases-squares::values l = 128 * l.levels + 48

abbrev pub decreases-squares::values_end : goal.decreases-squares::values_end
decreases-squares::values_end l = 128 * l.levels + 38

abbrev pub decreases-squares::values_from : goal.decreases-squares::values_from
decreases-squares::values_from l = 128 * l.levels + 47

abbrev pub invariant-chains::follow-loop-turn : goal.invariant-chains::follow-loop-turn
invariant-chains::follow-loop-turn l =
    (turns (l._turn-end - l._turn) (chains.goes l.fn.chain) (chains.link (level.levels l.fn.levels) l.fn.chain) (chains.so_far l.fn.chain (top (parts l.parser.out))) l.parser.tokens ≡
    chain (chains.goes l.fn.chain) (chains.link (level.levels l.fn.levels) l.fn.chain) (chains.so_far l.fn.chain (top (parts l.fn.parser.out))) l.fn.parser.tokens)
    × (pop (parts l.parser.out) ≡ pop (parts l.fn.parser.out))

abbrev pub invariant-aggregates::positions-loop-turn : goal.invariant-aggregates::positions-loop-turn
invariant-aggregates::positions-loop-turn l =
    (positions_for (level.levels l.fn.levels) (l._turn-end - l._turn) (the_expr (third (parts l.parser.out))) (the_expr (second (parts l.parser.out))) (open_exprs (top (parts l.parser.out))) l.parser.tokens ≡
    positions_for (level.levels l.fn.levels) (length l.fn.parser.tokens) (the_expr (third (parts l.fn.parser.out))) (the_expr (second (parts l.fn.parser.out))) (open_exprs (top (parts l.fn.parser.out))) l.fn.parser.tokens)
    × (pop (pop (pop (parts l.parser.out))) ≡ pop (pop (pop (parts l.fn.parser.out))))
