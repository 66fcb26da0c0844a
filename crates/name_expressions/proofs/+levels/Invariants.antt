use Rattle.std.proofs.Common.{◌≡◌, ◌+◌, ◌-◌, ◌*◌, drop, length, max}
use Rattle.name_expressions.specs.Filled.{counted, filled}
use Rattle.name_expressions.specs.Placed.{chosen, placed}
use Rattle.name_expressions.specs.Rows as rows
use Rattle.name_rules.specs.Aggregates as aggregates
use Rattle.name_rules.specs.Expressions as spec
use Rattle.name_rules.specs.Judges.{found_of, part_if}
use Rattle.name_rules.specs.Names as names
use Rattle.name_rules.specs.Parts as whole
use Rattle.name_rules.specs.Primaries as primaries
use Rattle.name_rules.specs.Primaries.{inside}
use Rattle.name_expressions.specs.Conditionals.{waiting_if}
use Rattle.syntax_nodes.specs.Parts.{the_addings, the_args, the_assocs, the_choices, the_conjuncts, the_elsifs, the_expr, the_exprs, the_multiplyings, the_parts}
use Rattle.syntax_nodes.specs.Tables.{part_at}
use Rattle.typed_tree.specs.Latest.{pop, second, top}
use Rattle.typed_parts.specs.Stack.{parts}
use Rattle.name_rules.specs.Calls as calls
use Rattle.name_rules.specs.Output as output
use Rattle.name_values.specs.Calling.{calling_of}
use Rattle.name_values.specs.Operands.{operands_of}
use Rattle.name_values.specs.Putting.{putting_of}
use Rattle.name_expressions.proofs.+levels.Given as goal

-- A function judges in as many brackets as its caller, or in one less behind a bracket.

-- ---- primaries

abbrev pub decreases-primaries::inside : goal.decreases-primaries::inside
decreases-primaries::inside l = 100 * l.scene.levels + 0

abbrev pub decreases-primaries::name_inside : goal.decreases-primaries::name_inside
decreases-primaries::name_inside l = 100 * l.scene.levels + 0

abbrev pub decreases-primaries::alternative : goal.decreases-primaries::alternative
decreases-primaries::alternative l = 100 * l.scene.levels + 86

abbrev pub decreases-primaries::alternatives : goal.decreases-primaries::alternatives
decreases-primaries::alternatives l = 100 * l.scene.levels + 87

abbrev pub decreases-primaries::if_expr : goal.decreases-primaries::if_expr
decreases-primaries::if_expr l = 100 * l.scene.levels + 88

abbrev pub decreases-primaries::named : goal.decreases-primaries::named
decreases-primaries::named l = 100 * l.scene.levels + 98

abbrev pub decreases-primaries::primary : goal.decreases-primaries::primary
decreases-primaries::primary l = 100 * l.scene.levels + 99

abbrev pub decreases-primaries::alternatives-alternatives : goal.decreases-primaries::alternatives-alternatives
decreases-primaries::alternatives-alternatives l = l.next

abbrev pub invariant-primaries::alternatives-alternatives : goal.invariant-primaries::alternatives-alternatives
invariant-primaries::alternatives-alternatives l = (primaries.alternatives l.scene.names.now (inside l.scene.names.now l.scene.levels) l.scene.here.now l.want (waiting_if l.fn.done l.fn.values (top (parts l.fn.judge.out))) (the_elsifs (part_at l.scene.tree.now.nodes l.fn.more)) l.fn.judge.log ≡ primaries.alternatives l.scene.names.now (inside l.scene.names.now l.scene.levels) l.scene.here.now l.want (waiting_if l.all l.values (top (parts l.judge.out))) (the_elsifs (part_at l.scene.tree.now.nodes l.next)) l.judge.log) × (pop (parts l.judge.out) ≡ pop (parts l.fn.judge.out))

-- ---- whole names

abbrev pub decreases-whole_names::array_reduction : goal.decreases-whole_names::array_reduction
decreases-whole_names::array_reduction l = 100 * l.scene.levels + 86

abbrev pub decreases-whole_names::wrong_arguments : goal.decreases-whole_names::wrong_arguments
decreases-whole_names::wrong_arguments l = 100 * l.scene.levels + 86

abbrev pub decreases-whole_names::array_reduced : goal.decreases-whole_names::array_reduced
decreases-whole_names::array_reduced l = 100 * l.scene.levels + 87

abbrev pub decreases-whole_names::reduced_with : goal.decreases-whole_names::reduced_with
decreases-whole_names::reduced_with l = 100 * l.scene.levels + 88

abbrev pub decreases-whole_names::of_array : goal.decreases-whole_names::of_array
decreases-whole_names::of_array l = 100 * l.scene.levels + 87

abbrev pub decreases-whole_names::other_with : goal.decreases-whole_names::other_with
decreases-whole_names::other_with l = 100 * l.scene.levels + 88

abbrev pub decreases-whole_names::attribute_with : goal.decreases-whole_names::attribute_with
decreases-whole_names::attribute_with l = 100 * l.scene.levels + 89

abbrev pub decreases-whole_names::call : goal.decreases-whole_names::call
decreases-whole_names::call l = 100 * l.scene.levels + 90

abbrev pub decreases-whole_names::part_of : goal.decreases-whole_names::part_of
decreases-whole_names::part_of l = 100 * l.scene.levels + 91

abbrev pub decreases-whole_names::part_alone : goal.decreases-whole_names::part_alone
decreases-whole_names::part_alone l = 100 * l.scene.levels + 86

abbrev pub decreases-whole_names::next_part : goal.decreases-whole_names::next_part
decreases-whole_names::next_part l = 100 * l.scene.levels + 92

abbrev pub decreases-whole_names::parts : goal.decreases-whole_names::parts
decreases-whole_names::parts l = 100 * l.scene.levels + 93

abbrev pub decreases-whole_names::name : goal.decreases-whole_names::name
decreases-whole_names::name l = 100 * l.scene.levels + 94

abbrev pub decreases-whole_names::valued_by : goal.decreases-whole_names::valued_by
decreases-whole_names::valued_by l = 100 * l.scene.levels + 95

abbrev pub decreases-whole_names::value_named : goal.decreases-whole_names::value_named
decreases-whole_names::value_named l = 100 * l.scene.levels + 96

abbrev pub decreases-whole_names::parts-parts : goal.decreases-whole_names::parts-parts
decreases-whole_names::parts-parts l = l.next

abbrev pub invariant-whole_names::parts-parts : goal.invariant-whole_names::parts-parts
invariant-whole_names::parts-parts l = (whole.parts l.scene.names.now (inside l.scene.names.now l.scene.levels) l.scene.here.now (found_of l.fn.before (top (parts l.fn.judge.out))) (the_parts (part_at l.scene.tree.now.nodes l.fn.more)) l.fn.judge.log ≡ whole.parts l.scene.names.now (inside l.scene.names.now l.scene.levels) l.scene.here.now (found_of l.d (top (parts l.judge.out))) (the_parts (part_at l.scene.tree.now.nodes l.next)) l.judge.log) × (pop (parts l.judge.out) ≡ pop (parts l.fn.judge.out))

-- ---- attributes

abbrev pub decreases-attributes::bound_with : goal.decreases-attributes::bound_with
decreases-attributes::bound_with l = 100 * l.scene.levels + 57

abbrev pub decreases-attributes::one_argument : goal.decreases-attributes::one_argument
decreases-attributes::one_argument l = 100 * l.scene.levels + 57

abbrev pub decreases-attributes::two_arguments : goal.decreases-attributes::two_arguments
decreases-attributes::two_arguments l = 100 * l.scene.levels + 57

abbrev pub decreases-attributes::stepped : goal.decreases-attributes::stepped
decreases-attributes::stepped l = 100 * l.scene.levels + 58

abbrev pub decreases-attributes::scalar_with : goal.decreases-attributes::scalar_with
decreases-attributes::scalar_with l = 100 * l.scene.levels + 59

-- ---- expressions

abbrev pub decreases-expressions::factor : goal.decreases-expressions::factor
decreases-expressions::factor l = 100 * l.scene.levels + 1

abbrev pub decreases-expressions::multiplying : goal.decreases-expressions::multiplying
decreases-expressions::multiplying l = 100 * l.scene.levels + 2

abbrev pub decreases-expressions::multiplied : goal.decreases-expressions::multiplied
decreases-expressions::multiplied l = 100 * l.scene.levels + 3

abbrev pub decreases-expressions::term : goal.decreases-expressions::term
decreases-expressions::term l = 100 * l.scene.levels + 4

abbrev pub decreases-expressions::adding : goal.decreases-expressions::adding
decreases-expressions::adding l = 100 * l.scene.levels + 5

abbrev pub decreases-expressions::added : goal.decreases-expressions::added
decreases-expressions::added l = 100 * l.scene.levels + 6

abbrev pub decreases-expressions::first_term : goal.decreases-expressions::first_term
decreases-expressions::first_term l = 100 * l.scene.levels + 7

abbrev pub decreases-expressions::simple : goal.decreases-expressions::simple
decreases-expressions::simple l = 100 * l.scene.levels + 8

abbrev pub decreases-expressions::rel : goal.decreases-expressions::rel
decreases-expressions::rel l = 100 * l.scene.levels + 9

abbrev pub decreases-expressions::conjoined : goal.decreases-expressions::conjoined
decreases-expressions::conjoined l = 100 * l.scene.levels + 10

abbrev pub decreases-expressions::joined_rels : goal.decreases-expressions::joined_rels
decreases-expressions::joined_rels l = 100 * l.scene.levels + 11

abbrev pub decreases-expressions::short_operand : goal.decreases-expressions::short_operand
decreases-expressions::short_operand l = 100 * l.scene.levels + 10

abbrev pub decreases-expressions::short_operands : goal.decreases-expressions::short_operands
decreases-expressions::short_operands l = 100 * l.scene.levels + 11

abbrev pub decreases-expressions::short_form : goal.decreases-expressions::short_form
decreases-expressions::short_form l = 100 * l.scene.levels + 12

abbrev pub decreases-expressions::expr : goal.decreases-expressions::expr
decreases-expressions::expr l = 100 * l.scene.levels + 13

abbrev pub decreases-expressions::condition : goal.decreases-expressions::condition
decreases-expressions::condition l = 100 * l.scene.levels + 14

abbrev pub decreases-expressions::value_for : goal.decreases-expressions::value_for
decreases-expressions::value_for l = 100 * l.scene.levels + 14

abbrev pub decreases-expressions::judged_alone : goal.decreases-expressions::judged_alone
decreases-expressions::judged_alone l = 100 * l.scene.levels + 14

abbrev pub decreases-expressions::multiplied-links : goal.decreases-expressions::multiplied-links
decreases-expressions::multiplied-links l = l.next

abbrev pub decreases-expressions::added-links : goal.decreases-expressions::added-links
decreases-expressions::added-links l = l.next

abbrev pub decreases-expressions::conjoined-links : goal.decreases-expressions::conjoined-links
decreases-expressions::conjoined-links l = l.next

abbrev pub decreases-expressions::short_operands-links : goal.decreases-expressions::short_operands-links
decreases-expressions::short_operands-links l = l.next

abbrev pub invariant-expressions::multiplied-links : goal.invariant-expressions::multiplied-links
invariant-expressions::multiplied-links l = (spec.multiplied (inside l.scene.names.now l.scene.levels) l.scene.here.now (found_of l.fn.left (top (parts l.fn.judge.out))) (the_multiplyings (part_at l.scene.tree.now.nodes l.fn.more)) l.fn.judge.log ≡ spec.multiplied (inside l.scene.names.now l.scene.levels) l.scene.here.now (found_of l.x (top (parts l.judge.out))) (the_multiplyings (part_at l.scene.tree.now.nodes l.next)) l.judge.log) × (pop (parts l.judge.out) ≡ pop (parts l.fn.judge.out))

abbrev pub invariant-expressions::added-links : goal.invariant-expressions::added-links
invariant-expressions::added-links l = (spec.added (inside l.scene.names.now l.scene.levels) l.scene.here.now (found_of l.fn.left (top (parts l.fn.judge.out))) (the_addings (part_at l.scene.tree.now.nodes l.fn.more)) l.fn.judge.log ≡ spec.added (inside l.scene.names.now l.scene.levels) l.scene.here.now (found_of l.x (top (parts l.judge.out))) (the_addings (part_at l.scene.tree.now.nodes l.next)) l.judge.log) × (pop (parts l.judge.out) ≡ pop (parts l.fn.judge.out))

abbrev pub invariant-expressions::conjoined-links : goal.invariant-expressions::conjoined-links
invariant-expressions::conjoined-links l = (spec.conjoined l.scene.names.now (inside l.scene.names.now l.scene.levels) l.scene.here.now l.op (found_of l.fn.left (top (parts l.fn.judge.out))) (the_conjuncts (part_at l.scene.tree.now.nodes l.fn.more)) l.fn.judge.log ≡ spec.conjoined l.scene.names.now (inside l.scene.names.now l.scene.levels) l.scene.here.now l.op (found_of l.x (top (parts l.judge.out))) (the_conjuncts (part_at l.scene.tree.now.nodes l.next)) l.judge.log) × (pop (parts l.judge.out) ≡ pop (parts l.fn.judge.out))

abbrev pub invariant-expressions::short_operands-links : goal.invariant-expressions::short_operands-links
invariant-expressions::short_operands-links l = (spec.short_operands l.scene.names.now (inside l.scene.names.now l.scene.levels) l.scene.here.now l.all (part_if l.fn.left (top (parts l.fn.judge.out))) (the_conjuncts (part_at l.scene.tree.now.nodes l.fn.more)) l.fn.judge.log ≡ spec.short_operands l.scene.names.now (inside l.scene.names.now l.scene.levels) l.scene.here.now l.all (part_if l.x (top (parts l.judge.out))) (the_conjuncts (part_at l.scene.tree.now.nodes l.next)) l.judge.log) × (pop (parts l.judge.out) ≡ pop (parts l.fn.judge.out))

-- ---- ranges

abbrev pub decreases-ranges::range : goal.decreases-ranges::range
decreases-ranges::range l = 100 * l.scene.levels + 20

-- ---- indexes

abbrev pub decreases-indexes::arg_alone : goal.decreases-indexes::arg_alone
decreases-indexes::arg_alone l = 100 * l.scene.levels + 31

abbrev pub decreases-indexes::args_alone : goal.decreases-indexes::args_alone
decreases-indexes::args_alone l = 100 * l.scene.levels + 32

abbrev pub decreases-indexes::wrong_call : goal.decreases-indexes::wrong_call
decreases-indexes::wrong_call l = 100 * l.scene.levels + 33

abbrev pub decreases-indexes::index : goal.decreases-indexes::index
decreases-indexes::index l = 100 * l.scene.levels + 34

abbrev pub decreases-indexes::indexes : goal.decreases-indexes::indexes
decreases-indexes::indexes l = 100 * l.scene.levels + 35

abbrev pub decreases-indexes::index_shape : goal.decreases-indexes::index_shape
decreases-indexes::index_shape l = 100 * l.scene.levels + 36

abbrev pub decreases-indexes::object_call : goal.decreases-indexes::object_call
decreases-indexes::object_call l = 100 * l.scene.levels + 37

abbrev pub decreases-indexes::args_alone-each : goal.decreases-indexes::args_alone-each
decreases-indexes::args_alone-each l = l.next

abbrev pub decreases-indexes::indexes-indexes : goal.decreases-indexes::indexes-indexes
decreases-indexes::indexes-indexes l = l.next

abbrev pub invariant-indexes::args_alone-each : goal.invariant-indexes::args_alone-each
invariant-indexes::args_alone-each l = (names.args_alone l.scene.names.now (inside l.scene.names.now l.scene.levels) l.scene.here.now (the_args (part_at l.scene.tree.now.nodes l.fn.more)) l.fn.judge.log ≡ names.args_alone l.scene.names.now (inside l.scene.names.now l.scene.levels) l.scene.here.now (the_args (part_at l.scene.tree.now.nodes l.next)) l.judge.log) × (parts l.judge.out ≡ parts l.fn.judge.out)

abbrev pub invariant-indexes::indexes-indexes : goal.invariant-indexes::indexes-indexes
invariant-indexes::indexes-indexes l = (names.indexes l.scene.names.now (inside l.scene.names.now l.scene.levels) l.scene.here.now (drop l.fn.place l.dimensions) l.cells (part_if l.fn.done (top (parts l.fn.judge.out))) (the_args (part_at l.scene.tree.now.nodes l.fn.more)) l.fn.judge.log ≡ names.indexes l.scene.names.now (inside l.scene.names.now l.scene.levels) l.scene.here.now (drop l.i l.dimensions) l.cells (part_if l.s (top (parts l.judge.out))) (the_args (part_at l.scene.tree.now.nodes l.next)) l.judge.log) × (pop (parts l.judge.out) ≡ pop (parts l.fn.judge.out))

-- ---- calls

abbrev pub decreases-calls::actual_by : goal.decreases-calls::actual_by
decreases-calls::actual_by l = 100 * l.scene.levels + 46

abbrev pub decreases-calls::actual_for : goal.decreases-calls::actual_for
decreases-calls::actual_for l = 100 * l.scene.levels + 47

abbrev pub decreases-calls::argument : goal.decreases-calls::argument
decreases-calls::argument l = 100 * l.scene.levels + 48

abbrev pub decreases-calls::arguments : goal.decreases-calls::arguments
decreases-calls::arguments l = 100 * l.scene.levels + 49

abbrev pub decreases-calls::given_arguments : goal.decreases-calls::given_arguments
decreases-calls::given_arguments l = 100 * l.scene.levels + 50

abbrev pub decreases-calls::sub_call : goal.decreases-calls::sub_call
decreases-calls::sub_call l = 100 * l.scene.levels + 51

abbrev pub decreases-calls::operand : goal.decreases-calls::operand
decreases-calls::operand l = 100 * l.scene.levels + 46

abbrev pub decreases-calls::operands : goal.decreases-calls::operands
decreases-calls::operands l = 100 * l.scene.levels + 47

abbrev pub decreases-calls::all_operands : goal.decreases-calls::all_operands
decreases-calls::all_operands l = 100 * l.scene.levels + 48

abbrev pub decreases-calls::scalar_conversion : goal.decreases-calls::scalar_conversion
decreases-calls::scalar_conversion l = 100 * l.scene.levels + 49

abbrev pub decreases-calls::conversion : goal.decreases-calls::conversion
decreases-calls::conversion l = 100 * l.scene.levels + 50

abbrev pub decreases-calls::arguments-each : goal.decreases-calls::arguments-each
decreases-calls::arguments-each l = l.next

abbrev pub decreases-calls::operands-each : goal.decreases-calls::operands-each
decreases-calls::operands-each l = l.next

abbrev pub invariant-calls::arguments-each : goal.invariant-calls::arguments-each
invariant-calls::arguments-each l = (calls.arguments l.scene.names.now (inside l.scene.names.now l.scene.levels) l.scene.here.now l.taken (calling_of l.fn.calling (top (parts l.fn.judge.out))) (the_args (part_at l.scene.tree.now.nodes l.fn.more)) l.fn.judge.log ≡ calls.arguments l.scene.names.now (inside l.scene.names.now l.scene.levels) l.scene.here.now l.taken (calling_of l.calling (top (parts l.judge.out))) (the_args (part_at l.scene.tree.now.nodes l.next)) l.judge.log) × (pop (parts l.judge.out) ≡ pop (parts l.fn.judge.out))

abbrev pub invariant-calls::operands-each : goal.invariant-calls::operands-each
invariant-calls::operands-each l = (calls.operands l.scene.names.now (inside l.scene.names.now l.scene.levels) l.scene.here.now (operands_of l.fn.good l.fn.found (top (parts l.fn.judge.out))) (the_args (part_at l.scene.tree.now.nodes l.fn.more)) l.fn.judge.log ≡ calls.operands l.scene.names.now (inside l.scene.names.now l.scene.levels) l.scene.here.now (operands_of l.all l.found (top (parts l.judge.out))) (the_args (part_at l.scene.tree.now.nodes l.next)) l.judge.log) × (pop (parts l.judge.out) ≡ pop (parts l.fn.judge.out))

-- ---- output

abbrev pub decreases-output::other_alone : goal.decreases-output::other_alone
decreases-output::other_alone l = 100 * l.scene.levels + 46

abbrev pub decreases-output::others_alone : goal.decreases-output::others_alone
decreases-output::others_alone l = 100 * l.scene.levels + 47

abbrev pub decreases-output::width_argument : goal.decreases-output::width_argument
decreases-output::width_argument l = 100 * l.scene.levels + 46

abbrev pub decreases-output::counted_alone : goal.decreases-output::counted_alone
decreases-output::counted_alone l = 100 * l.scene.levels + 46

abbrev pub decreases-output::put_argument : goal.decreases-output::put_argument
decreases-output::put_argument l = 100 * l.scene.levels + 47

abbrev pub decreases-output::put_arguments : goal.decreases-output::put_arguments
decreases-output::put_arguments l = 100 * l.scene.levels + 48

abbrev pub decreases-output::number_put : goal.decreases-output::number_put
decreases-output::number_put l = 100 * l.scene.levels + 49

abbrev pub decreases-output::io_given : goal.decreases-output::io_given
decreases-output::io_given l = 100 * l.scene.levels + 50

abbrev pub decreases-output::io_call : goal.decreases-output::io_call
decreases-output::io_call l = 100 * l.scene.levels + 51

abbrev pub decreases-output::others_alone-each : goal.decreases-output::others_alone-each
decreases-output::others_alone-each l = l.next

abbrev pub decreases-output::put_arguments-each : goal.decreases-output::put_arguments-each
decreases-output::put_arguments-each l = l.next

abbrev pub invariant-output::others_alone-each : goal.invariant-output::others_alone-each
invariant-output::others_alone-each l = (output.others_alone l.scene.names.now (inside l.scene.names.now l.scene.levels) l.scene.here.now (the_args (part_at l.scene.tree.now.nodes l.fn.more)) l.fn.judge.log ≡ output.others_alone l.scene.names.now (inside l.scene.names.now l.scene.levels) l.scene.here.now (the_args (part_at l.scene.tree.now.nodes l.next)) l.judge.log) × (parts l.judge.out ≡ parts l.fn.judge.out)

abbrev pub invariant-output::put_arguments-each : goal.invariant-output::put_arguments-each
invariant-output::put_arguments-each l = (output.put_arguments l.scene.names.now (inside l.scene.names.now l.scene.levels) l.scene.here.now (putting_of l.fn.putting (second (parts l.fn.judge.out)) (top (parts l.fn.judge.out))) (the_args (part_at l.scene.tree.now.nodes l.fn.more)) l.fn.judge.log ≡ output.put_arguments l.scene.names.now (inside l.scene.names.now l.scene.levels) l.scene.here.now (putting_of l.putting (second (parts l.judge.out)) (top (parts l.judge.out))) (the_args (part_at l.scene.tree.now.nodes l.next)) l.judge.log) × (pop (pop (parts l.judge.out)) ≡ pop (pop (parts l.fn.judge.out)))

-- ---- reducers

abbrev pub decreases-reducers::no_reducer : goal.decreases-reducers::no_reducer
decreases-reducers::no_reducer l = 100 * l.scene.levels + 73

abbrev pub decreases-reducers::attribute_reducer : goal.decreases-reducers::attribute_reducer
decreases-reducers::attribute_reducer l = 100 * l.scene.levels + 74

abbrev pub decreases-reducers::name_reducer : goal.decreases-reducers::name_reducer
decreases-reducers::name_reducer l = 100 * l.scene.levels + 75

abbrev pub decreases-reducers::reducer_of : goal.decreases-reducers::reducer_of
decreases-reducers::reducer_of l = 100 * l.scene.levels + 76

-- ---- choices

abbrev pub decreases-choices::static_constrained : goal.decreases-choices::static_constrained
decreases-choices::static_constrained l = 100 * l.scene.levels + 21

abbrev pub decreases-choices::static_bounded : goal.decreases-choices::static_bounded
decreases-choices::static_bounded l = 100 * l.scene.levels + 21

abbrev pub decreases-choices::static_range : goal.decreases-choices::static_range
decreases-choices::static_range l = 100 * l.scene.levels + 22

abbrev pub decreases-choices::chosen_value : goal.decreases-choices::chosen_value
decreases-choices::chosen_value l = 100 * l.scene.levels + 23

abbrev pub decreases-choices::chosen_span : goal.decreases-choices::chosen_span
decreases-choices::chosen_span l = 100 * l.scene.levels + 23

-- ---- iterations

abbrev pub decreases-iterations::chunk_count : goal.decreases-iterations::chunk_count
decreases-iterations::chunk_count l = 100 * l.scene.levels + 63

abbrev pub decreases-iterations::chunked_by : goal.decreases-iterations::chunked_by
decreases-iterations::chunked_by l = 100 * l.scene.levels + 64

abbrev pub decreases-iterations::walked : goal.decreases-iterations::walked
decreases-iterations::walked l = 100 * l.scene.levels + 65

abbrev pub decreases-iterations::filter_where : goal.decreases-iterations::filter_where
decreases-iterations::filter_where l = 100 * l.scene.levels + 65

abbrev pub decreases-iterations::entered_with : goal.decreases-iterations::entered_with
decreases-iterations::entered_with l = 100 * l.levels + 66

-- the brackets of a loop's chunk specification have a level of their own
abbrev pub decreases-iterations::entered : goal.decreases-iterations::entered
decreases-iterations::entered l = 100 * max l.levels l.inner + 67

abbrev pub decreases-iterations::folded_within : goal.decreases-iterations::folded_within
decreases-iterations::folded_within l = 100 * l.scene.levels + 85

abbrev pub decreases-iterations::sequence_folded : goal.decreases-iterations::sequence_folded
decreases-iterations::sequence_folded l = 100 * l.scene.levels + 86

abbrev pub decreases-iterations::sequence : goal.decreases-iterations::sequence
decreases-iterations::sequence l = 100 * l.scene.levels + 87

-- aggregates.rt, array_aggregates.rt, record_aggregates.rt

abbrev pub decreases-record_aggregates::field_value : goal.decreases-record_aggregates::field_value
decreases-record_aggregates::field_value l = 100 * l.scene.levels + 46

abbrev pub decreases-record_aggregates::fields_value : goal.decreases-record_aggregates::fields_value
decreases-record_aggregates::fields_value l = 100 * l.scene.levels + 47

abbrev pub decreases-record_aggregates::some_fields : goal.decreases-record_aggregates::some_fields
decreases-record_aggregates::some_fields l = 100 * l.scene.levels + 48

abbrev pub decreases-record_aggregates::by_position : goal.decreases-record_aggregates::by_position
decreases-record_aggregates::by_position l = 100 * l.scene.levels + 47

abbrev pub decreases-record_aggregates::record_values : goal.decreases-record_aggregates::record_values
decreases-record_aggregates::record_values l = 100 * l.scene.levels + 48

abbrev pub decreases-record_aggregates::record_positions : goal.decreases-record_aggregates::record_positions
decreases-record_aggregates::record_positions l = 100 * l.scene.levels + 49

abbrev pub decreases-record_aggregates::record_rest : goal.decreases-record_aggregates::record_rest
decreases-record_aggregates::record_rest l = 100 * l.scene.levels + 49

abbrev pub decreases-record_aggregates::record_assoc : goal.decreases-record_aggregates::record_assoc
decreases-record_aggregates::record_assoc l = 100 * l.scene.levels + 49

abbrev pub decreases-record_aggregates::record_assocs : goal.decreases-record_aggregates::record_assocs
decreases-record_aggregates::record_assocs l = 100 * l.scene.levels + 50

abbrev pub decreases-record_aggregates::positional_record : goal.decreases-record_aggregates::positional_record
decreases-record_aggregates::positional_record l = 100 * l.scene.levels + 51

abbrev pub decreases-record_aggregates::named_record : goal.decreases-record_aggregates::named_record
decreases-record_aggregates::named_record l = 100 * l.scene.levels + 51

abbrev pub decreases-record_aggregates::record_aggregate : goal.decreases-record_aggregates::record_aggregate
decreases-record_aggregates::record_aggregate l = 100 * l.scene.levels + 52

abbrev pub decreases-array_aggregates::no_aggregate : goal.decreases-array_aggregates::no_aggregate
decreases-array_aggregates::no_aggregate l = 100 * l.scene.levels + 45

abbrev pub decreases-array_aggregates::inner_aggregate : goal.decreases-array_aggregates::inner_aggregate
decreases-array_aggregates::inner_aggregate l = 100 * l.scene.levels + 46

abbrev pub decreases-array_aggregates::component : goal.decreases-array_aggregates::component
decreases-array_aggregates::component l = 100 * l.scene.levels + 47

abbrev pub decreases-array_aggregates::array_choice : goal.decreases-array_aggregates::array_choice
decreases-array_aggregates::array_choice l = 100 * l.scene.levels + 46

abbrev pub decreases-array_aggregates::array_choices : goal.decreases-array_aggregates::array_choices
decreases-array_aggregates::array_choices l = 100 * l.scene.levels + 47

abbrev pub decreases-array_aggregates::chosen_assoc : goal.decreases-array_aggregates::chosen_assoc
decreases-array_aggregates::chosen_assoc l = 100 * l.scene.levels + 49

abbrev pub decreases-array_aggregates::component_where : goal.decreases-array_aggregates::component_where
decreases-array_aggregates::component_where l = 100 * l.scene.levels + 48

abbrev pub decreases-array_aggregates::each_assoc : goal.decreases-array_aggregates::each_assoc
decreases-array_aggregates::each_assoc l = 100 * l.scene.levels + 49

abbrev pub decreases-array_aggregates::array_assoc : goal.decreases-array_aggregates::array_assoc
decreases-array_aggregates::array_assoc l = 100 * l.scene.levels + 50

abbrev pub decreases-array_aggregates::array_assocs : goal.decreases-array_aggregates::array_assocs
decreases-array_aggregates::array_assocs l = 100 * l.scene.levels + 51

abbrev pub decreases-array_aggregates::array_values : goal.decreases-array_aggregates::array_values
decreases-array_aggregates::array_values l = 100 * l.scene.levels + 49

abbrev pub decreases-array_aggregates::array_positions : goal.decreases-array_aggregates::array_positions
decreases-array_aggregates::array_positions l = 100 * l.scene.levels + 50

abbrev pub decreases-array_aggregates::array_rest : goal.decreases-array_aggregates::array_rest
decreases-array_aggregates::array_rest l = 100 * l.scene.levels + 49

abbrev pub decreases-array_aggregates::positional_array : goal.decreases-array_aggregates::positional_array
decreases-array_aggregates::positional_array l = 100 * l.scene.levels + 52

abbrev pub decreases-array_aggregates::named_array : goal.decreases-array_aggregates::named_array
decreases-array_aggregates::named_array l = 100 * l.scene.levels + 52

abbrev pub decreases-array_aggregates::dimension_aggregate : goal.decreases-array_aggregates::dimension_aggregate
decreases-array_aggregates::dimension_aggregate l = 100 * l.scene.levels + 53

abbrev pub decreases-array_aggregates::array_at : goal.decreases-array_aggregates::array_at
decreases-array_aggregates::array_at l = 100 * l.scene.levels + 54

abbrev pub decreases-aggregates::composite_at : goal.decreases-aggregates::composite_at
decreases-aggregates::composite_at l = 100 * l.scene.levels + 55

abbrev pub decreases-aggregates::exprs_alone : goal.decreases-aggregates::exprs_alone
decreases-aggregates::exprs_alone l = 100 * l.scene.levels + 46

abbrev pub decreases-aggregates::optional_alone : goal.decreases-aggregates::optional_alone
decreases-aggregates::optional_alone l = 100 * l.scene.levels + 46

abbrev pub decreases-aggregates::assocs_alone : goal.decreases-aggregates::assocs_alone
decreases-aggregates::assocs_alone l = 100 * l.scene.levels + 46

abbrev pub decreases-aggregates::contents_alone : goal.decreases-aggregates::contents_alone
decreases-aggregates::contents_alone l = 100 * l.scene.levels + 47

abbrev pub decreases-aggregates::misplaced : goal.decreases-aggregates::misplaced
decreases-aggregates::misplaced l = 100 * l.scene.levels + 48

abbrev pub decreases-aggregates::aggregate_of : goal.decreases-aggregates::aggregate_of
decreases-aggregates::aggregate_of l = 100 * l.scene.levels + 56

abbrev pub decreases-aggregates::aggregate : goal.decreases-aggregates::aggregate
decreases-aggregates::aggregate l = 100 * l.scene.levels + 57

abbrev pub decreases-aggregates::one_value : goal.decreases-aggregates::one_value
decreases-aggregates::one_value l = 100 * l.scene.levels + 57

abbrev pub decreases-record_aggregates::fields_value-each : goal.decreases-record_aggregates::fields_value-each
decreases-record_aggregates::fields_value-each l = length l.fields - l.i

abbrev pub decreases-record_aggregates::record_values-values : goal.decreases-record_aggregates::record_values-values
decreases-record_aggregates::record_values-values l = l.next

abbrev pub decreases-record_aggregates::record_assocs-assocs : goal.decreases-record_aggregates::record_assocs-assocs
decreases-record_aggregates::record_assocs-assocs l = l.next

abbrev pub decreases-array_aggregates::array_choices-choices : goal.decreases-array_aggregates::array_choices-choices
decreases-array_aggregates::array_choices-choices l = l.next

abbrev pub decreases-array_aggregates::array_assocs-assocs : goal.decreases-array_aggregates::array_assocs-assocs
decreases-array_aggregates::array_assocs-assocs l = l.next

abbrev pub decreases-array_aggregates::array_values-values : goal.decreases-array_aggregates::array_values-values
decreases-array_aggregates::array_values-values l = l.next

abbrev pub decreases-aggregates::exprs_alone-exprs : goal.decreases-aggregates::exprs_alone-exprs
decreases-aggregates::exprs_alone-exprs l = l.next

abbrev pub decreases-aggregates::assocs_alone-assocs : goal.decreases-aggregates::assocs_alone-assocs
decreases-aggregates::assocs_alone-assocs l = l.next

abbrev pub invariant-record_aggregates::fields_value-each : goal.invariant-record_aggregates::fields_value-each
invariant-record_aggregates::fields_value-each l = (aggregates.fields_value l.scene.names.now (inside l.scene.names.now l.scene.levels) l.scene.here.now (part_if l.fn.done (top (parts l.fn.judge.out))) (drop l.fn.place l.fields) (the_expr (part_at l.scene.tree.now.nodes l.id)) l.fn.judge.log ≡ aggregates.fields_value l.scene.names.now (inside l.scene.names.now l.scene.levels) l.scene.here.now (part_if l.whole (top (parts l.judge.out))) (drop l.i l.fields) (the_expr (part_at l.scene.tree.now.nodes l.id)) l.judge.log) × (pop (parts l.judge.out) ≡ pop (parts l.fn.judge.out))

abbrev pub invariant-record_aggregates::record_values-values : goal.invariant-record_aggregates::record_values-values
invariant-record_aggregates::record_values-values l = (aggregates.record_values l.scene.names.now (inside l.scene.names.now l.scene.levels) l.scene.here.now (counted l.fn.positions l.fields (parts l.fn.judge.out)) (the_exprs (part_at l.scene.tree.now.nodes l.fn.more)) l.fn.judge.log ≡ aggregates.record_values l.scene.names.now (inside l.scene.names.now l.scene.levels) l.scene.here.now (counted l.all l.fields (parts l.judge.out)) (the_exprs (part_at l.scene.tree.now.nodes l.next)) l.judge.log) × (pop (parts l.judge.out) ≡ pop (parts l.fn.judge.out))

abbrev pub invariant-record_aggregates::record_assocs-assocs : goal.invariant-record_aggregates::record_assocs-assocs
invariant-record_aggregates::record_assocs-assocs l = (aggregates.record_assocs l.scene.names.now (inside l.scene.names.now l.scene.levels) l.scene.here.now l.all (filled l.fn.filling (parts l.fn.judge.out)) (the_assocs (part_at l.scene.tree.now.nodes l.fn.more)) l.fn.judge.log ≡ aggregates.record_assocs l.scene.names.now (inside l.scene.names.now l.scene.levels) l.scene.here.now l.all (filled l.whole (parts l.judge.out)) (the_assocs (part_at l.scene.tree.now.nodes l.next)) l.judge.log) × (pop (parts l.judge.out) ≡ pop (parts l.fn.judge.out))

abbrev pub invariant-array_aggregates::array_choices-choices : goal.invariant-array_aggregates::array_choices-choices
invariant-array_aggregates::array_choices-choices l = (aggregates.array_choices (inside l.scene.names.now l.scene.levels) l.scene.here.now l.kind l.alone l.last (chosen l.fn.choosing (parts l.fn.judge.out)) (the_choices (part_at l.scene.tree.now.nodes l.fn.more)) l.fn.judge.log ≡ aggregates.array_choices (inside l.scene.names.now l.scene.levels) l.scene.here.now l.kind l.alone l.last (chosen l.choosing (parts l.judge.out)) (the_choices (part_at l.scene.tree.now.nodes l.next)) l.judge.log) × (pop (parts l.judge.out) ≡ pop (parts l.fn.judge.out))

abbrev pub invariant-array_aggregates::array_assocs-assocs : goal.invariant-array_aggregates::array_assocs-assocs
invariant-array_aggregates::array_assocs-assocs l = (aggregates.array_assocs l.scene.names.now (inside l.scene.names.now l.scene.levels) l.scene.here.now (rows.component l.scene.names.now (inside l.scene.names.now l.scene.levels) l.row) l.row.dimension l.row.apart (placed l.fn.placing (parts l.fn.judge.out)) (the_assocs (part_at l.scene.tree.now.nodes l.fn.more)) l.fn.judge.log ≡ aggregates.array_assocs l.scene.names.now (inside l.scene.names.now l.scene.levels) l.scene.here.now (rows.component l.scene.names.now (inside l.scene.names.now l.scene.levels) l.row) l.row.dimension l.row.apart (placed l.placing (parts l.judge.out)) (the_assocs (part_at l.scene.tree.now.nodes l.next)) l.judge.log) × (pop (pop (parts l.judge.out)) ≡ pop (pop (parts l.fn.judge.out)))

abbrev pub invariant-array_aggregates::array_values-values : goal.invariant-array_aggregates::array_values-values
invariant-array_aggregates::array_values-values l = (aggregates.array_values l.scene.here.now (rows.component l.scene.names.now (inside l.scene.names.now l.scene.levels) l.row) l.row.dimension l.row.apart l.fn.place (placed l.fn.placing (parts l.fn.judge.out)) (the_exprs (part_at l.scene.tree.now.nodes l.fn.more)) l.fn.judge.log ≡ aggregates.array_values l.scene.here.now (rows.component l.scene.names.now (inside l.scene.names.now l.scene.levels) l.row) l.row.dimension l.row.apart l.index (placed l.placing (parts l.judge.out)) (the_exprs (part_at l.scene.tree.now.nodes l.next)) l.judge.log) × (pop (pop (parts l.judge.out)) ≡ pop (pop (parts l.fn.judge.out)))

abbrev pub invariant-aggregates::exprs_alone-exprs : goal.invariant-aggregates::exprs_alone-exprs
invariant-aggregates::exprs_alone-exprs l = (aggregates.exprs_alone l.scene.names.now (inside l.scene.names.now l.scene.levels) l.scene.here.now (the_exprs (part_at l.scene.tree.now.nodes l.fn.more)) l.fn.judge.log ≡ aggregates.exprs_alone l.scene.names.now (inside l.scene.names.now l.scene.levels) l.scene.here.now (the_exprs (part_at l.scene.tree.now.nodes l.next)) l.judge.log) × (parts l.judge.out ≡ parts l.fn.judge.out)

abbrev pub invariant-aggregates::assocs_alone-assocs : goal.invariant-aggregates::assocs_alone-assocs
invariant-aggregates::assocs_alone-assocs l = (aggregates.assocs_alone l.scene.names.now (inside l.scene.names.now l.scene.levels) l.scene.here.now (the_assocs (part_at l.scene.tree.now.nodes l.fn.more)) l.fn.judge.log ≡ aggregates.assocs_alone l.scene.names.now (inside l.scene.names.now l.scene.levels) l.scene.here.now (the_assocs (part_at l.scene.tree.now.nodes l.next)) l.judge.log) × (parts l.judge.out ≡ parts l.fn.judge.out)

-- end of aggregates.rt, array_aggregates.rt, record_aggregates.rt
