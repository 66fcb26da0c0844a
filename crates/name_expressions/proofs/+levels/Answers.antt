use Rattle.std.proofs.Common.{◌≡◌, refl, sym, ap, ◌∙◌, List, Option, None, true, false, SFits, w64, rules, arith}
use Rattle.std.specs.Int.{w128}
use Rattle.syntax_tree.specs.Syntax as syntax
use Rattle.syntax_tree.specs.Syntax.{Expr}
use Rattle.typed_tree.specs.Decoded.{TypedPart}
use Rattle.typed_tree.specs.Latest.{pop, top}
use Rattle.name_expressions.specs.Filled.{counted}
use Rattle.name_expressions.specs.Placed.{placed}
use Rattle.name_rules.specs.Aggregates as aggregates
use Rattle.name_rules.specs.Judges.{found_of}
use Rattle.name_rules.specs.Names.{component_cells}
use Rattle.name_rules.specs.Output.{by_procedure, nothing_put}
use Rattle.name_rules.specs.Primaries.{inside, primary}
use Rattle.name_rules.specs.TypedParts.{selections_of}
use Rattle.name_rules.specs.Types.{component_of, shape_in}
use Rattle.name_values.proofs.Open.{wide, wide_next}
use Rattle.syntax_nodes.specs.Parts.{the_arg, the_args, the_assoc, the_assocs, the_name, the_primary}
use Rattle.syntax_nodes.specs.Tables.{part_at}
use Rattle.syntax_nodes.specs.Views.{optional_expr}
use Rattle.typed_parts.specs.Stack.{parts}
use Rattle.name_expressions.specs.Contents.{contents_in, exprs_in}
use Rattle.name_expressions.specs.Reducing.{reduced_two}
use Rattle.name_expressions.specs.Rows as rows
use Rattle.name_expressions.proofs.AggregateWholes.{all_alone, assocs_filled, assocs_placed, dimension_gone, dimension_whole, record_gone, record_whole, two_placed, values_filled, values_placed}
use Rattle.name_expressions.proofs.CallWholes.{call_gone, call_whole, call_wrong}
use Rattle.name_expressions.proofs.Levels.{level_below, level_none}
use Rattle.name_expressions.proofs.NameWholes.{call_alone, shape_gone}
use Rattle.name_expressions.proofs.OperandWholes.{bound_gone, bound_kept, conversion_gone, conversion_whole, conversion_wrong, one_gone, one_kept, two_gone, two_kept}
use Rattle.name_expressions.proofs.OutputWholes.{number_whole, procedure_gone, procedure_whole}
use Rattle.name_expressions.proofs.Reducing.{reduced_same}
use Rattle.name_expressions.proofs.SequenceWholes.{sequence_whole}
use Rattle.name_expressions.proofs.Wholes.{gives_so, judges_so, ok_so}
use Rattle.name_expressions.proofs.WideNumbers.{wide_second}
use Rattle.name_expressions.proofs.+levels.Goals as goal

pub primaries::inside-returns : goal.primaries::inside-returns
unfolding inside
primaries::inside-returns t c =
    rw (level_below (λ n. (inside c.args.scene.names.now n).primary c.args.scene.here.now (the_primary (part_at c.args.scene.tree.now.nodes c.args.id)) c.args.want c.args.judge.now.log) c.args.scene.levels (omega arith))
    c.primary.ensures

pub primaries::name_inside-returns : goal.primaries::name_inside-returns
unfolding inside
primaries::name_inside-returns t c =
    rw (level_below (λ n. (inside c.args.scene.names.now n).name c.args.scene.here.now (the_name (part_at c.args.scene.tree.now.nodes c.args.id)) c.args.judge.now.log) c.args.scene.levels (omega arith))
    c.name.ensures

pub aggregates::contents_alone-returns-in_ok-exprs_alone-in-Positions : goal.aggregates::contents_alone-returns-in_ok-exprs_alone-in-Positions
aggregates::contents_alone-returns-in_ok-exprs_alone-in-Positions t c = rw c.in-Positions.is (ok_so _ _ _ (tt, c.optional_alone-in-Positions.new.judge.log) (parts c.optional_alone-in-Positions.new.judge.out) _ _
    (all_alone c.args.scene.names.now (inside c.args.scene.names.now c.args.scene.levels) c.args.scene.here.now (part_at c.args.scene.tree.now.nodes) c.in-Positions.first c.in-Positions.second c.in-Positions.more c.in-Positions.others c.args.judge.now.log c.judged_alone.new.judge.log c.optional_alone.new.judge.log c.exprs_alone.new.judge.log c.in_ok-judged_alone-in-Positions.ensures.0 c.in_ok-optional_alone-in-Positions.ensures.0 c.in_ok-exprs_alone-in-Positions.ensures.0)
    (sym (c.in_ok-exprs_alone-in-Positions.ensures.1 ∙ (c.in_ok-optional_alone-in-Positions.ensures.1 ∙ c.in_ok-judged_alone-in-Positions.ensures.1)))
    c.optional_alone-in-Positions.ensures)

pub array_aggregates::array_positions-returns-in_ok-position_given-in-Some : goal.array_aggregates::array_positions-returns-in_ok-position_given-in-Some
array_aggregates::array_positions-returns-in_ok-position_given-in-Some t c =
    let low = c.args.row.dimension.low in
    let f = c.from-low.result in
    let a : SFits w64 low = search rules in
    let b : SFits w128 f = search rules in
    rw c.in-Some.is (ok_so _ _ _ (placed c.array_values-in-Some.new.placing (parts c.array_values-in-Some.new.judge.out), c.array_values-in-Some.new.judge.log) (pop (pop (parts c.array_values-in-Some.new.judge.out))) _ _
    (two_placed c.args.scene.here.now (rows.component c.args.scene.names.now (inside c.args.scene.names.now c.args.scene.levels) c.args.row) c.args.row.dimension c.args.row.apart (part_at c.args.scene.tree.now.nodes) c.args.first c.in-Some.second c.args.more c.args.judge.now.log c.component.new.judge.log c.component-in-Some.new.judge.log c.args.placing.now c.position_given.new.placing c.position_given-in-Some.new.placing (parts c.args.judge.now.out) (parts c.component.new.judge.out) (parts c.position_given.new.out) (parts c.component-in-Some.new.judge.out) (parts c.position_given-in-Some.new.out) _ _ _ c.in_ok-given.given c.in_ok-given-in-Some.given
    (wide low f a b c.from-low.ensures) (wide_next low f a b c.from-low.ensures) (wide_second low f a b c.from-low.ensures)
    c.in_ok-given.ensures.0 c.in_ok-given.ensures.1 c.in_ok-position_given.ensures.0 c.in_ok-given-in-Some.ensures.0 c.in_ok-given-in-Some.ensures.1 c.in_ok-position_given-in-Some.ensures.0)
    (sym (c.in_ok-position_given-in-Some.ensures.1 ∙ (ap (λ (s : List TypedPart). pop (pop s)) c.in_ok-given-in-Some.ensures.1 ∙ (c.in_ok-position_given.ensures.1 ∙ ap (λ (s : List TypedPart). pop (pop s)) c.in_ok-given.ensures.1))))
    c.array_values-in-Some.ensures)

pub array_aggregates::named_array-returns-then-len-before : goal.array_aggregates::named_array-returns-then-len-before
array_aggregates::named_array-returns-then-len-before t c = (
  dimension_gone _ _ _ _ _ _ _ _ _ _ _ _ _ (assocs_placed _ _ _ _ _ _ _ _ _ _ _ _ _ _ _ c.in_ok-placing.ensures.0 c.is_final-last.ensures c.in_ok-array_assoc.ensures.0 c.in_ok-array_assocs.ensures.0) c.len-before.ensures c.len.ensures c.if-len-before.true,
  ap pop c.leave_out.ensures ∙ (c.in_ok-array_assocs.ensures.1 ∙ (c.in_ok-array_assoc.ensures.1 ∙ c.in_ok-placing.ensures.1)),
)

pub array_aggregates::named_array-returns : goal.array_aggregates::named_array-returns
array_aggregates::named_array-returns t c = gives_so _ _ _ _ _ _ _
    (dimension_whole _ _ _ _ _ _ _ _ _ _ _ _ _ (assocs_placed _ _ _ _ _ _ _ _ _ _ _ _ _ _ _ c.in_ok-placing.ensures.0 c.is_final-last.ensures c.in_ok-array_assoc.ensures.0 c.in_ok-array_assocs.ensures.0) c.len-before.ensures c.len.ensures c.if-len-before.false)
    (sym (c.in_ok-array_assocs.ensures.1 ∙ (c.in_ok-array_assoc.ensures.1 ∙ c.in_ok-placing.ensures.1))) c.covered.ensures

pub array_aggregates::positional_array-returns-then-len-before : goal.array_aggregates::positional_array-returns-then-len-before
array_aggregates::positional_array-returns-then-len-before t c = (
  dimension_gone _ _ _ _ _ _ _ _ _ _ _ _ _ (values_placed c.args.scene.names.now (inside c.args.scene.names.now c.args.scene.levels) c.args.scene.here.now (rows.component c.args.scene.names.now (inside c.args.scene.names.now c.args.scene.levels) c.args.row) c.args.row.dimension c.args.row.apart (exprs_in (part_at c.args.scene.tree.now.nodes) c.args.first c.args.second c.args.more) (optional_expr (part_at c.args.scene.tree.now.nodes) c.args.others) c.args.judge.now.log c.array_positions.new.judge.log c.array_rest.new.judge.log (placed c.in_ok-placing.placing (parts c.nothing_placed.new.out)) (placed c.array_positions.new.placing (parts c.array_positions.new.judge.out)) (placed c.array_rest.new.placing (parts c.array_rest.new.judge.out)) c.in_ok-placing.ensures.0 c.in_ok-array_positions.ensures.0 c.in_ok-array_rest.ensures.0) c.len-before.ensures c.len.ensures c.if-len-before.true,
  ap pop c.leave_out.ensures ∙ (c.in_ok-array_rest.ensures.1 ∙ (c.in_ok-array_positions.ensures.1 ∙ c.in_ok-placing.ensures.1)),
)

pub array_aggregates::positional_array-returns : goal.array_aggregates::positional_array-returns
array_aggregates::positional_array-returns t c = gives_so _ _ _ _ _ _ _
    (dimension_whole _ _ _ _ _ _ _ _ _ _ _ _ _ (values_placed c.args.scene.names.now (inside c.args.scene.names.now c.args.scene.levels) c.args.scene.here.now (rows.component c.args.scene.names.now (inside c.args.scene.names.now c.args.scene.levels) c.args.row) c.args.row.dimension c.args.row.apart (exprs_in (part_at c.args.scene.tree.now.nodes) c.args.first c.args.second c.args.more) (optional_expr (part_at c.args.scene.tree.now.nodes) c.args.others) c.args.judge.now.log c.array_positions.new.judge.log c.array_rest.new.judge.log (placed c.in_ok-placing.placing (parts c.nothing_placed.new.out)) (placed c.array_positions.new.placing (parts c.array_positions.new.judge.out)) (placed c.array_rest.new.placing (parts c.array_rest.new.judge.out)) c.in_ok-placing.ensures.0 c.in_ok-array_positions.ensures.0 c.in_ok-array_rest.ensures.0) c.len-before.ensures c.len.ensures c.if-len-before.false)
    (sym (c.in_ok-array_rest.ensures.1 ∙ (c.in_ok-array_positions.ensures.1 ∙ c.in_ok-placing.ensures.1))) c.covered.ensures

pub attributes::bound_with-returns-then-len-before : goal.attributes::bound_with-returns-then-len-before
attributes::bound_with-returns-then-len-before t c = (
  bound_gone c.args.scene.names.now (inside c.args.scene.names.now c.args.scene.levels) c.args.scene.here.now c.args.first (top (parts c.args.judge.now.out)) c.args.attribute c.args.bracket (syntax.AlsoArg (the_arg (part_at c.args.scene.tree.now.nodes c.args.arg)) (the_args (part_at c.args.scene.tree.now.nodes c.args.more))) c.args.dimensions.now c.args.judge.now.log c.all_operands.new.judge.log c.new-found.result c.all_operands.new.found (top (parts c.nothing.new.self)) (top (parts c.all_operands.new.judge.out)) c.in_ok-all.all c.len-before.result c.len.result
      (search rules) c.new-found.ensures c.in_ok-all.ensures.0 c.len-before.ensures c.len.ensures c.then-len-before.either,
  ap pop c.leave_out.ensures ∙ (ap pop c.in_ok-all.ensures.1 ∙ ap (λ (s : List TypedPart). pop (pop s)) c.in_ok-nothing.ensures),
)

pub attributes::bound_with-returns : goal.attributes::bound_with-returns
attributes::bound_with-returns t c =
    bound_kept c.args.scene.names.now (inside c.args.scene.names.now c.args.scene.levels) c.args.scene.here.now c.args.first c.args.attribute c.args.bracket (syntax.AlsoArg (the_arg (part_at c.args.scene.tree.now.nodes c.args.arg)) (the_args (part_at c.args.scene.tree.now.nodes c.args.more))) c.args.dimensions.now c.args.judge.now.log c.all_operands.new.judge.log c.new-found.result c.all_operands.new.found (top (parts c.nothing.new.self)) c.in_ok-all.all c.len-before.result c.len.result (parts c.args.judge.now.out) (parts c.all_operands.new.judge.out) c.dimension_operand.result c.dimension_operand.new.judge.log (parts c.dimension_operand.new.judge.out)
    (search rules) c.new-found.ensures c.in_ok-all.ensures.0 c.len-before.ensures c.len.ensures c.if-len-before.false c.if-not-all.false
    (c.in_ok-all.ensures.1 ∙ ap pop c.in_ok-nothing.ensures) c.dimension_operand.ensures

pub attributes::one_argument-returns-then-len-before : goal.attributes::one_argument-returns-then-len-before
attributes::one_argument-returns-then-len-before t c = (
  one_gone _ _ _ _ _ _ _ _ _ _ _ _ _ _ _ _ c.new-found.ensures c.in_ok-all.ensures.0 c.len-before.ensures c.len.ensures c.then-len-before.either,
  c.in_ok-all.ensures.1 ∙ ap pop c.in_ok-cleared.ensures,
)

pub attributes::one_argument-returns : goal.attributes::one_argument-returns
attributes::one_argument-returns t c = judges_so _ _ _ _ _ _ _
    (one_kept _ _ _ _ _ _ _ _ _ _ _ _ _ _ _ _ _ c.new-found.ensures c.in_ok-all.ensures.0 c.len-before.ensures c.len.ensures c.if-len-before.false c.if-not-all.false c.first_named-name.ensures)
    (sym (c.in_ok-all.ensures.1 ∙ ap pop c.in_ok-cleared.ensures)) c.one_named.ensures

pub attributes::two_arguments-returns-then-len-before : goal.attributes::two_arguments-returns-then-len-before
attributes::two_arguments-returns-then-len-before t c = (
  two_gone _ _ _ _ _ _ _ _ _ _ _ _ _ _ _ _ c.new-found.ensures c.in_ok-all.ensures.0 c.len-before.ensures c.len.ensures c.then-len-before.either,
  c.in_ok-all.ensures.1 ∙ ap pop c.in_ok-cleared.ensures,
)

pub attributes::two_arguments-returns : goal.attributes::two_arguments-returns
attributes::two_arguments-returns t c = judges_so _ _ _ _ _ _ _
    (two_kept _ _ _ _ _ _ _ _ _ _ _ _ _ _ _ _ _ c.new-found.ensures c.in_ok-all.ensures.0 c.len-before.ensures c.len.ensures c.if-len-before.false c.if-not-all.false c.first_named-name.ensures)
    (sym (c.in_ok-all.ensures.1 ∙ ap pop c.in_ok-cleared.ensures)) c.two_named.ensures

pub calls::scalar_conversion-returns-then-len-before : goal.calls::scalar_conversion-returns-then-len-before
calls::scalar_conversion-returns-then-len-before t c = (
  conversion_gone c.args.scene.names.now (inside c.args.scene.names.now c.args.scene.levels) c.args.scene.here.now c.args.bracket c.args.first c.args.scalar (syntax.AlsoArg (the_arg (part_at c.args.scene.tree.now.nodes c.args.arg)) (the_args (part_at c.args.scene.tree.now.nodes c.args.more))) c.args.judge.now.log c.all_operands.new.judge.log c.new-found.result c.all_operands.new.found (top (parts c.cleared.new.out)) (top (parts c.all_operands.new.judge.out)) c.in_ok-all.all c.len-before.result c.len.result c.new-found.ensures c.in_ok-all.ensures.0 c.len-before.ensures c.len.ensures c.then-len-before.either,
  c.in_ok-all.ensures.1 ∙ ap pop c.in_ok-cleared.ensures,
)

pub calls::scalar_conversion-returns-then-is_integer : goal.calls::scalar_conversion-returns-then-is_integer
calls::scalar_conversion-returns-then-is_integer t c = judges_so _ _ _ _ c.operand_converted.result c.operand_converted.new.judge.log (parts c.operand_converted.new.judge.out)
    (conversion_whole c.args.scene.names.now (inside c.args.scene.names.now c.args.scene.levels) c.args.scene.here.now c.args.bracket c.args.first c.args.scalar (syntax.AlsoArg (the_arg (part_at c.args.scene.tree.now.nodes c.args.arg)) (the_args (part_at c.args.scene.tree.now.nodes c.args.more))) c.args.judge.now.log c.all_operands.new.judge.log c.new-found.result c.all_operands.new.found (top (parts c.cleared.new.out)) (top (parts c.all_operands.new.judge.out)) c.in_ok-all.all c.len-before.result c.len.result c.is_integer.result c.new-found.ensures c.in_ok-all.ensures.0 c.len-before.ensures c.len.ensures c.if-len-before.false c.if-not-all.false c.is_integer.ensures c.if-is_integer.true)
    (sym (c.in_ok-all.ensures.1 ∙ ap pop c.in_ok-cleared.ensures)) c.operand_converted.ensures

pub calls::scalar_conversion-returns : goal.calls::scalar_conversion-returns
calls::scalar_conversion-returns t c = judges_so _ _ _ _ c.wrong_name.result c.wrong_name.new.judge.log (parts c.wrong_name.new.judge.out)
    (conversion_wrong c.args.scene.names.now (inside c.args.scene.names.now c.args.scene.levels) c.args.scene.here.now c.args.bracket c.args.first c.args.scalar (syntax.AlsoArg (the_arg (part_at c.args.scene.tree.now.nodes c.args.arg)) (the_args (part_at c.args.scene.tree.now.nodes c.args.more))) c.args.judge.now.log c.all_operands.new.judge.log c.new-found.result c.all_operands.new.found (top (parts c.cleared.new.out)) (top (parts c.all_operands.new.judge.out)) c.in_ok-all.all c.len-before.result c.len.result c.is_integer.result c.new-found.ensures c.in_ok-all.ensures.0 c.len-before.ensures c.len.ensures c.if-len-before.false c.if-not-all.false c.is_integer.ensures c.if-is_integer.false)
    (sym (c.in_ok-all.ensures.1 ∙ ap pop c.in_ok-cleared.ensures)) c.wrong_name.ensures

pub calls::sub_call-returns-then-len-before : goal.calls::sub_call-returns-then-len-before
calls::sub_call-returns-then-len-before t c = (
  call_gone _ _ _ _ _ _ _ _ _ _ _ _ c.begun_call-calling.result c.given_arguments.new.calling _ _ _ _ c.in_ok-takes.ensures c.as_slice.ensures c.begun_call-calling.ensures (ap top c.in_ok-cleared.ensures) c.in_ok-given_arguments.ensures.0 c.len-before.ensures c.len.ensures c.if-len-before.true,
  c.in_ok-given_arguments.ensures.1 ∙ ap pop c.in_ok-cleared.ensures,
)

pub calls::sub_call-returns : goal.calls::sub_call-returns
calls::sub_call-returns t c = (
  call_wrong _ _ _ _ _ _ _ _ _ _ _ _ _ _ c.begun_call-calling.result c.given_arguments.new.calling _ _ _ _ _ _ c.in_ok-takes.ensures c.as_slice.ensures c.begun_call-calling.ensures (ap top c.in_ok-cleared.ensures) c.in_ok-given_arguments.ensures.0 c.len-before.ensures c.len.ensures c.if-len-before.false c.len-2.ensures c.in_ok-complete.ensures.0 c.if-branch.false,
  c.in_ok-complete.ensures.1 ∙ (c.in_ok-given_arguments.ensures.1 ∙ ap pop c.in_ok-cleared.ensures),
)

pub calls::sub_call-returns-then-branch : goal.calls::sub_call-returns-then-branch
calls::sub_call-returns-then-branch t c = judges_so _ _ _ _ _ _ _
    (call_whole _ _ _ _ _ _ _ _ _ _ _ _ _ _ c.begun_call-calling.result c.given_arguments.new.calling _ _ _ _ _ _ _ c.in_ok-takes.ensures c.as_slice.ensures c.begun_call-calling.ensures (ap top c.in_ok-cleared.ensures) c.in_ok-given_arguments.ensures.0 c.len-before.ensures c.len.ensures c.if-len-before.false c.len-2.ensures c.in_ok-complete.ensures.0 c.if-branch.true c.gives_in-gives.ensures)
    (sym (c.in_ok-complete.ensures.1 ∙ (c.in_ok-given_arguments.ensures.1 ∙ ap pop c.in_ok-cleared.ensures))) c.call_given.ensures

pub indexes::index_shape-returns-then-len-before : goal.indexes::index_shape-returns-then-len-before
indexes::index_shape-returns-then-len-before t c = (
  shape_gone c.args.scene.names.now (inside c.args.scene.names.now c.args.scene.levels) c.args.scene.here.now c.args.place (top (parts c.args.judge.now.out)) c.args.bracket (the_arg (part_at c.args.scene.tree.now.nodes c.args.arg)) (the_args (part_at c.args.scene.tree.now.nodes c.args.more)) (shape_in c.args.judge.now.log c.args.number) (component_cells c.args.judge.now.log (component_of (shape_in c.args.judge.now.log c.args.number))) c.component_cells-cells.result c.in_ok-dimensions.dimensions c.args.judge.now.log c.index.new.judge.log c.indexes.new.judge.log _ c.in_ok-r.r (top (parts c.indexes.new.judge.out)) c.len-before.result c.len.result
      c.in_ok-dimensions.ensures (c.component_cells-cells.ensures ∙ ap (component_cells c.args.judge.now.log) c.component_of-component.ensures)
      c.in_ok-s.ensures.0 c.in_ok-r.ensures.0 c.len-before.ensures c.len.ensures c.then-len-before.either,
  c.in_ok-r.ensures.1 ∙ c.in_ok-s.ensures.1,
)

pub iterations::sequence-returns : goal.iterations::sequence-returns
iterations::sequence-returns t c = judges_so _ _ _ _ _ _ _
    (sequence_whole _ _ _ _ _ _ _ _ _ _ _ _ _ _ _ _ _ _ c.attribute_at-which.ensures c.symbol.ensures c.in_ok-known_attribute.ensures c.in_ok-folded.ensures.0 c.len-before.ensures c.only_reduce_rules-clean.ensures)
    (sym c.in_ok-folded.ensures.1) c.sequence_rules.ensures

pub output::io_given-returns-then-is_number_put : goal.output::io_given-returns-then-is_number_put
output::io_given-returns-then-is_number_put t c = rw c.arg-given.ensures.is (judges_so _ _ _ _ _ _ _
    (number_whole _ _ _ _ _ _ _ _ _ _ _ _ _ _ _ _ c.in_ok-no_formal.ensures c.in_ok-x.ensures.0 (sym c.is_number_put.ensures ∙ c.if-is_number_put.true) c.len-before.ensures)
    (sym c.in_ok-x.ensures.1) c.number_put.ensures)

pub output::io_given-returns-then-len-before : goal.output::io_given-returns-then-len-before
output::io_given-returns-then-len-before t c = rw c.arg-given.ensures.is (
  procedure_gone _ _ _ _ _ _ _ _ _ _ _ _ _ _ _ _ _ _ c.in_ok-no_formal.ensures c.in_ok-x.ensures.0 (sym c.is_number_put.ensures ∙ c.if-is_number_put.false) c.in_ok-others_alone.ensures.0 c.len-before.ensures c.len.ensures c.if-len-before.true,
  ap pop c.in_ok-others_alone.ensures.1 ∙ c.in_ok-x.ensures.1,
)

pub output::io_given-returns : goal.output::io_given-returns
output::io_given-returns t c = rw c.arg-given.ensures.is (judges_so _ _ _ _ _ _ _
    (procedure_whole _ _ _ _ _ _ _ _ _ _ _ _ _ _ _ _ _ _ c.in_ok-no_formal.ensures c.in_ok-x.ensures.0 (sym c.is_number_put.ensures ∙ c.if-is_number_put.false) c.in_ok-others_alone.ensures.0 c.len-before.ensures c.len.ensures c.if-len-before.false ∙ ap (λ (s : List TypedPart). by_procedure c.args.at c.args.first c.args.last c.args.reach (the_args (part_at c.args.scene.tree.now.nodes c.args.more)) c.args.put (found_of c.in_ok-x.x (top s), nothing_put 1 None) c.others_alone.new.judge.log) (sym c.in_ok-others_alone.ensures.1))
    (sym (ap pop c.in_ok-others_alone.ensures.1 ∙ c.in_ok-x.ensures.1)) c.by_procedure.ensures)

pub primaries::inside-returns-then-scene-eq0 : goal.primaries::inside-returns-then-scene-eq0
unfolding inside
primaries::inside-returns-then-scene-eq0 t c =
    rw (level_none (λ n. (inside c.args.scene.names.now n).primary c.args.scene.here.now (the_primary (part_at c.args.scene.tree.now.nodes c.args.id)) c.args.want c.args.judge.now.log) c.args.scene.levels c.if-scene-eq0.true)
    (rw (sym c.of_primary-first.ensures) c.no_expression.ensures)

pub primaries::name_inside-returns-then-scene-eq0 : goal.primaries::name_inside-returns-then-scene-eq0
unfolding inside
primaries::name_inside-returns-then-scene-eq0 t c =
    rw (level_none (λ n. (inside c.args.scene.names.now n).name c.args.scene.here.now (the_name (part_at c.args.scene.tree.now.nodes c.args.id)) c.args.judge.now.log) c.args.scene.levels c.if-scene-eq0.true)
    (rw (sym c.of_name-first.ensures) c.no_name.ensures)

pub record_aggregates::named_record-returns-then-len-before : goal.record_aggregates::named_record-returns-then-len-before
record_aggregates::named_record-returns-then-len-before t c = (
  record_gone c.args.scene.names.now (inside c.args.scene.names.now c.args.scene.levels) c.args.scene.here.now c.args.fields.now c.args.bracket c.args.cells (aggregates.ByAssociation (syntax.AlsoAssoc (the_assoc (part_at c.args.scene.tree.now.nodes c.args.first)) (the_assocs (part_at c.args.scene.tree.now.nodes c.args.more)))) c.args.judge.now.log c.record_assocs.new.judge.log _ c.len-before.result c.len.result
      (assocs_filled c.args.scene.names.now (inside c.args.scene.names.now c.args.scene.levels) c.args.scene.here.now c.args.fields.now (the_assoc (part_at c.args.scene.tree.now.nodes c.args.first)) (the_assocs (part_at c.args.scene.tree.now.nodes c.args.more)) c.args.judge.now.log c.record_assoc.new.judge.log c.record_assocs.new.judge.log _ _ _ _ c.in_ok-none.ensures.0 c.is_final-last.ensures c.in_ok-all.ensures.0 c.in_ok-all-2.ensures.0) c.len-before.ensures c.len.ensures c.if-len-before.true,
  c.in_ok-all-2.ensures.1 ∙ (c.in_ok-all.ensures.1 ∙ c.in_ok-none.ensures.1),
)

pub record_aggregates::named_record-returns : goal.record_aggregates::named_record-returns
record_aggregates::named_record-returns t c = gives_so _ _ _ _ c.whole_record.result c.whole_record.new.judge.log (parts c.whole_record.new.judge.out)
    (record_whole c.args.scene.names.now (inside c.args.scene.names.now c.args.scene.levels) c.args.scene.here.now c.args.fields.now c.args.bracket c.args.cells (aggregates.ByAssociation (syntax.AlsoAssoc (the_assoc (part_at c.args.scene.tree.now.nodes c.args.first)) (the_assocs (part_at c.args.scene.tree.now.nodes c.args.more)))) c.args.judge.now.log c.record_assocs.new.judge.log _ _ _ _ c.len-before.result c.len.result
    (assocs_filled c.args.scene.names.now (inside c.args.scene.names.now c.args.scene.levels) c.args.scene.here.now c.args.fields.now (the_assoc (part_at c.args.scene.tree.now.nodes c.args.first)) (the_assocs (part_at c.args.scene.tree.now.nodes c.args.more)) c.args.judge.now.log c.record_assoc.new.judge.log c.record_assocs.new.judge.log _ _ _ _ c.in_ok-none.ensures.0 c.is_final-last.ensures c.in_ok-all.ensures.0 c.in_ok-all-2.ensures.0) c.len-before.ensures c.len.ensures c.if-len-before.false c.is_incomplete.ensures)
    (sym (c.in_ok-all-2.ensures.1 ∙ (c.in_ok-all.ensures.1 ∙ c.in_ok-none.ensures.1))) c.whole_record.ensures

pub record_aggregates::positional_record-returns : goal.record_aggregates::positional_record-returns
record_aggregates::positional_record-returns t c = gives_so _ _ _ _ c.whole_record.result c.whole_record.new.judge.log (parts c.whole_record.new.judge.out)
    (record_whole c.args.scene.names.now (inside c.args.scene.names.now c.args.scene.levels) c.args.scene.here.now c.args.fields.now c.args.bracket c.args.cells (contents_in (part_at c.args.scene.tree.now.nodes) c.args.first c.args.second c.args.more c.args.others) c.args.judge.now.log c.record_rest.new.judge.log _ _ _ _ c.len-before.result c.len.result
    (values_filled c.args.scene.names.now (inside c.args.scene.names.now c.args.scene.levels) c.args.scene.here.now c.args.fields.now (exprs_in (part_at c.args.scene.tree.now.nodes) c.args.first c.args.second c.args.more) (optional_expr (part_at c.args.scene.tree.now.nodes) c.args.others) c.args.judge.now.log c.record_positions.new.judge.log c.record_rest.new.judge.log _ _ _ (ap (counted (record { done = true; place = 0; over = false }) c.args.fields.now) (sym c.in_ok-nothing.ensures)) c.in_ok-all.ensures.0 c.in_ok-all-2.ensures.0) c.len-before.ensures c.len.ensures c.if-len-before.false c.is_incomplete_at.ensures)
    (sym (c.in_ok-all-2.ensures.1 ∙ (c.in_ok-all.ensures.1 ∙ ap pop c.in_ok-nothing.ensures))) c.whole_record.ensures

pub whole_names::array_reduced-returns-in-Some : goal.whole_names::array_reduced-returns-in-Some
whole_names::array_reduced-returns-in-Some t c = judges_so _ _ _ _ _ _ _
    (reduced_same c.args.scene.names.now (inside c.args.scene.names.now c.args.scene.levels) c.args.scene.here.now c.args.place (selections_of (top (parts c.args.judge.now.out))) c.args.at c.args.attribute c.args.bracket (syntax.AlsoArg (the_arg (part_at c.args.scene.tree.now.nodes c.args.arg)) (the_args (part_at c.args.scene.tree.now.nodes c.args.more))) c.args.judge.now.log ∙ ap (λ (e : Option (Expr × Expr)). reduced_two c.args.scene.names.now (inside c.args.scene.names.now c.args.scene.levels) c.args.scene.here.now c.args.place (selections_of (top (parts c.args.judge.now.out))) c.args.at c.args.attribute c.args.bracket (syntax.AlsoArg (the_arg (part_at c.args.scene.tree.now.nodes c.args.arg)) (the_args (part_at c.args.scene.tree.now.nodes c.args.more))) e c.args.judge.now.log) c.in-Some.ensures)
    refl c.array_reduction.ensures

pub whole_names::part_alone-returns-in_ok-args_alone-in-Call : goal.whole_names::part_alone-returns-in_ok-args_alone-in-Call
whole_names::part_alone-returns-in_ok-args_alone-in-Call t c = rw c.in-Call.ensures.is (
  call_alone c.args.scene.names.now (inside c.args.scene.names.now c.args.scene.levels) c.args.scene.here.now c.in-Call.bracket (the_arg (part_at c.args.scene.tree.now.nodes c.in-Call.first)) (the_args (part_at c.args.scene.tree.now.nodes c.in-Call.more)) c.args.judge.now.log c.arg_alone.new.judge.log c.args_alone.new.judge.log c.in_ok-arg_alone-in-Call.ensures.0 c.in_ok-args_alone-in-Call.ensures.0,
  ap pop (c.in_ok-args_alone-in-Call.ensures.1 ∙ c.in_ok-arg_alone-in-Call.ensures.1),
)
