use Rattle.std.proofs.Common.{◌≡◌, ◌+◌, ◌*◌, max}
use Rattle.std.specs.Prelude.{IsTrue}
use Rattle.typed_tree.specs.Decoded.{value_at}
use Rattle.lower_emission.specs.Emits.{written}
use Rattle.lower_emission.specs.Emission.{filling, put_into}
use Rattle.lower_values.specs.Words.{env_of, nodes, tables}
use Rattle.lower_values.proofs.+emit.Given as goal

-- Numbers of nodes, then the order in which functions that go by one node call each other.

abbrev pub decreases-exprs::emit : goal.decreases-exprs::emit
decreases-exprs::emit l = 17179869184 * l.id + 10

abbrev pub decreases-reductions::reduction : goal.decreases-reductions::reduction
decreases-reductions::reduction l = 17179869184 * l.id + 5

abbrev pub decreases-exprs::named : goal.decreases-exprs::named
decreases-exprs::named l = 17179869184 * l.id + 1

abbrev pub decreases-exprs::component_address : goal.decreases-exprs::component_address
decreases-exprs::component_address l = 17179869184 * l.by.index + 25

abbrev pub decreases-exprs::component_value : goal.decreases-exprs::component_value
decreases-exprs::component_value l = 17179869184 * l.by.index + 25

abbrev pub decreases-exprs::indexed : goal.decreases-exprs::indexed
decreases-exprs::indexed l = 17179869184 * l.index + 20

abbrev pub decreases-exprs::item : goal.decreases-exprs::item
decreases-exprs::item l = 17179869184 * l.index + 20

abbrev pub decreases-exprs::selected : goal.decreases-exprs::selected
decreases-exprs::selected l = 17179869184 * l.id + 1

abbrev pub decreases-exprs::read : goal.decreases-exprs::read
decreases-exprs::read l = 17179869184 * l.id + 1

abbrev pub decreases-exprs::applied : goal.decreases-exprs::applied
decreases-exprs::applied l = 17179869184 * l.operand + 20

abbrev pub decreases-exprs::two : goal.decreases-exprs::two
decreases-exprs::two l = 17179869184 * max l.left l.right + 20

abbrev pub decreases-exprs::and_then : goal.decreases-exprs::and_then
decreases-exprs::and_then l = 17179869184 * max l.left l.right + 20

abbrev pub decreases-exprs::or_else : goal.decreases-exprs::or_else
decreases-exprs::or_else l = 17179869184 * max l.left l.right + 20

abbrev pub decreases-exprs::conditional : goal.decreases-exprs::conditional
decreases-exprs::conditional l = 17179869184 * max l.condition (max l.value l.otherwise) + 20

abbrev pub decreases-exprs::between : goal.decreases-exprs::between
decreases-exprs::between l = 17179869184 * max l.value (max l.low l.high) + 20

abbrev pub decreases-exprs::put_into : goal.decreases-exprs::put_into
decreases-exprs::put_into l = 17179869184 * l.id + 20

abbrev pub decreases-calls::call : goal.decreases-calls::call
decreases-calls::call l = 17179869184 * l.actuals + 5

abbrev pub decreases-calls::passed : goal.decreases-calls::passed
decreases-calls::passed l = 17179869184 * l.id + 1

abbrev pub decreases-calls::number_in : goal.decreases-calls::number_in
decreases-calls::number_in l = 17179869184 * l.target.selections + 20

abbrev pub decreases-calls::number_out : goal.decreases-calls::number_out
decreases-calls::number_out l = 17179869184 * l.target.selections + 20

abbrev pub decreases-calls::cells_in : goal.decreases-calls::cells_in
decreases-calls::cells_in l = 17179869184 * l.target.selections + 20

abbrev pub decreases-aggregates::composed : goal.decreases-aggregates::composed
decreases-aggregates::composed l = 17179869184 * l.id + 5

abbrev pub decreases-aggregates::copied : goal.decreases-aggregates::copied
decreases-aggregates::copied l = 17179869184 * l.from.selections + 20

abbrev pub decreases-aggregates::associated : goal.decreases-aggregates::associated
decreases-aggregates::associated l = 17179869184 * l.id + 1

abbrev pub decreases-aggregates::fillings : goal.decreases-aggregates::fillings
decreases-aggregates::fillings l = 17179869184 * l.value + (l.runs + 30)

abbrev pub decreases-aggregates::filling : goal.decreases-aggregates::filling
decreases-aggregates::filling l = 17179869184 * l.value + 25

abbrev pub decreases-runs::turnings : goal.decreases-runs::turnings
decreases-runs::turnings l = 17179869184 * l.turned.value + (l.runs + 30)

abbrev pub decreases-runs::run_turnings : goal.decreases-runs::run_turnings
decreases-runs::run_turnings l = 17179869184 * l.turned.value + (l.left.runs + 27)

abbrev pub decreases-runs::run_loop : goal.decreases-runs::run_loop
decreases-runs::run_loop l = 17179869184 * l.turned.value + 25

abbrev pub decreases-aggregates::turning : goal.decreases-aggregates::turning
decreases-aggregates::turning l = 17179869184 * l.turned.value + 26

abbrev pub decreases-aggregates::turned_component : goal.decreases-aggregates::turned_component
decreases-aggregates::turned_component l = 17179869184 * l.turned.value + 22

abbrev pub decreases-aggregates::given : goal.decreases-aggregates::given
decreases-aggregates::given l = 17179869184 * l.value + (l.runs + 31)

abbrev pub decreases-rounds::repeating : goal.decreases-rounds::repeating
decreases-rounds::repeating l = 17179869184 * l.value + 30

abbrev pub decreases-aggregates::turns : goal.decreases-aggregates::turns
decreases-aggregates::turns l = 17179869184 * l.turned.value + 25

abbrev pub decreases-aggregates::component_cells : goal.decreases-aggregates::component_cells
decreases-aggregates::component_cells l = 17179869184 * l.id + 10

abbrev pub decreases-aggregates::component : goal.decreases-aggregates::component
decreases-aggregates::component l = 17179869184 * l.id + 20

abbrev pub decreases-iterations::bounds : goal.decreases-iterations::bounds
decreases-iterations::bounds l = 17179869184 * max l.low l.high + 20

abbrev pub decreases-iterations::array_address : goal.decreases-iterations::array_address
decreases-iterations::array_address l = 17179869184 * l.array.selections + 20

abbrev pub decreases-iterations::thread_numbers : goal.decreases-iterations::thread_numbers
decreases-iterations::thread_numbers l = 17179869184 * l.count + 20

abbrev pub decreases-iterations::chunk_code : goal.decreases-iterations::chunk_code
decreases-iterations::chunk_code l = 17179869184 * l.chunk + 1

abbrev pub decreases-iterations::course_code : goal.decreases-iterations::course_code
decreases-iterations::course_code l = 17179869184 * l.iteration + 1

abbrev pub decreases-reductions::fold_turn : goal.decreases-reductions::fold_turn
decreases-reductions::fold_turn l = 17179869184 * max l.filter l.fold.value + 20

abbrev pub decreases-reductions::folded : goal.decreases-reductions::folded
decreases-reductions::folded l = 17179869184 * max l.iteration l.fold.value + 60

abbrev pub decreases-reductions::range_folds : goal.decreases-reductions::range_folds
decreases-reductions::range_folds l = 17179869184 * max l.turns.filter l.turns.fold.value + 30

abbrev pub decreases-reductions::item_folds : goal.decreases-reductions::item_folds
decreases-reductions::item_folds l = 17179869184 * max l.turns.filter l.turns.fold.value + 30

abbrev pub decreases-reductions::fork : goal.decreases-reductions::fork
decreases-reductions::fork l = 17179869184 * max l.parallel.initial (max l.forked.chunk (max l.forked.iteration l.fold.value)) + 90

abbrev pub decreases-reductions::opened : goal.decreases-reductions::opened
decreases-reductions::opened l = 17179869184 * l.initial + 30

abbrev pub decreases-reductions::ordered : goal.decreases-reductions::ordered
decreases-reductions::ordered l = 17179869184 * max l.initial (max l.forked.iteration l.fold.value) + 90

abbrev pub decreases-reductions::forking : goal.decreases-reductions::forking
decreases-reductions::forking l = 17179869184 * max l.chunk l.iteration + 20

abbrev pub decreases-reductions::thread : goal.decreases-reductions::thread
decreases-reductions::thread l = 17179869184 * max l.forked.iteration l.fold.value + 70

abbrev pub decreases-reductions::range_thread : goal.decreases-reductions::range_thread
decreases-reductions::range_thread l = 17179869184 * max l.turns.filter l.turns.fold.value + 40

abbrev pub decreases-reductions::item_thread : goal.decreases-reductions::item_thread
decreases-reductions::item_thread l = 17179869184 * max l.turns.filter l.turns.fold.value + 40

abbrev pub invariant-aggregates::filling-loop-left : goal.invariant-aggregates::filling-loop-left
invariant-aggregates::filling-loop-left l =
    IsTrue l.out.whole → IsTrue l.fn.out.whole
    × (written (filling (λ n. put_into (tables l.env) (env_of l.env) l.h (l.to + n) (value_at (nodes l.env) l.value)) l.left l.at l.run.stride) l.out.code
    ≡ written (filling (λ n. put_into (tables l.env) (env_of l.env) l.h (l.to + n) (value_at (nodes l.env) l.value)) l.run.count l.run.first l.run.stride) l.fn.out.code)

abbrev pub decreases-aggregates::filling-loop-left : goal.decreases-aggregates::filling-loop-left
decreases-aggregates::filling-loop-left l = l.left
