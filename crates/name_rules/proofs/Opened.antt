-- The rules, opened, so that what they say of a program is computed.
use Rattle.typed_tree.specs.Indexes as u_Indexes
use Rattle.typed_tree.specs.Latest as u_Stack
use Rattle.name_rules.specs.Aggregates as u_Aggregates
use Rattle.name_rules.specs.Attributes as u_Attributes
use Rattle.name_rules.specs.Calls as u_Calls
use Rattle.name_rules.specs.Cases as u_Cases
use Rattle.name_rules.specs.Declarations as u_Declarations
use Rattle.name_rules.specs.Expressions as u_Expressions
use Rattle.name_rules.specs.Iterations as u_Iterations
use Rattle.name_rules.specs.Names as u_Names
use Rattle.name_rules.specs.Operators as u_Operators
use Rattle.name_rules.specs.Output as u_Output
use Rattle.name_rules.specs.Parts as u_Parts
use Rattle.name_rules.specs.Primaries as u_Primaries
use Rattle.name_rules.specs.Programs as u_Programs
use Rattle.name_rules.specs.Ranges as u_Ranges
use Rattle.name_rules.specs.Reducers as u_Reducers
use Rattle.name_rules.specs.Resolved as u_Resolved
use Rattle.name_rules.specs.Scope as u_Scope
use Rattle.name_rules.specs.Shapes as u_Shapes
use Rattle.name_rules.specs.Statements as u_Statements
use Rattle.name_rules.specs.Types as u_Types
use Rattle.name_rules.specs.Values as u_Values
use Rattle.name_rules.specs.TypedParts as u_TypedParts

unfoldable pub all_rules : Unit {0}
unfolding u_Aggregates.field_value u_Aggregates.array_assoc u_Aggregates.dimension_of u_Aggregates.aggregate u_Attributes.one_argument u_Attributes.two_arguments_of u_Attributes.settled_attribute u_Calls.variable_given u_Calls.actual_for u_Calls.argument u_Calls.sub_call u_Calls.conversion u_Cases.case_choice u_Cases.closed u_Cases.handled_by u_Declarations.indic u_Declarations.array u_Declarations.record_of u_Declarations.defined u_Declarations.new_object u_Declarations.initial u_Declarations.objects u_Declarations.numbers u_Declarations.declaration u_Expressions.factor u_Expressions.multiplying u_Expressions.term u_Expressions.adding u_Expressions.simple u_Expressions.rel u_Expressions.expr u_Expressions.condition u_Expressions.value_for u_Expressions.judged_alone u_Iterations.chunk_count u_Iterations.chunked_by u_Iterations.walked u_Iterations.entered_with u_Iterations.entered u_Iterations.sequence u_Names.field u_Names.wrong_call u_Names.index u_Names.object_call u_Names.exception u_Operators.static_of u_Operators.static_universal u_Operators.static_operation u_Operators.operation_on u_Operators.typed_operation u_Operators.open_of u_Operators.open_binary u_Operators.universal_operation u_Operators.operation u_Operators.binary u_Operators.universal_power u_Operators.static_power u_Operators.power u_Operators.signed u_Operators.unary u_Operators.plain u_Operators.not_of u_Operators.joined_text u_Operators.logical u_Operators.compared_at u_Operators.compared u_Operators.membership u_Operators.of_subtype u_Output.width_of u_Output.io_call u_Parts.call u_Parts.part_of u_Parts.name u_Parts.valued_by u_Parts.value_named u_Primaries.alternative u_Primaries.scalar_if u_Primaries.composite_if u_Primaries.if_expr u_Primaries.grouped u_Primaries.primary u_Primaries.inside u_Programs.profile u_Programs.with_body u_Programs.with_value_of u_Programs.subprogram u_Programs.main u_Programs.program u_Ranges.two_bounds u_Ranges.bounds_of u_Ranges.own_bounds u_Ranges.checked_range u_Ranges.range u_Ranges.static_bounds u_Ranges.static_checked u_Ranges.static_range u_Ranges.chosen_value u_Ranges.chosen_span u_Reducers.reducer_of u_Reducers.reduced u_Reducers.folded_by u_Resolved.judged u_Scope.free u_Scope.stands_for u_Scope.selected u_Scope.subtype_named u_Scope.scalar_named u_Shapes.primary_of_simple u_Shapes.primary_of_expr u_Shapes.identifier_of_choice u_Statements.stmts u_Statements.alternative u_Statements.assign_place u_Statements.call_stmt u_Statements.exit_from u_Statements.if_stmt u_Statements.case_stmt u_Statements.for_loop u_Statements.loop_stmt u_Statements.loop_entered u_Statements.body u_Statements.block u_Statements.parallel u_Statements.stmt u_Types.number_of u_Values.exact u_Values.valued u_Values.fitting u_Values.settled u_Values.asked u_Values.settled_found u_Values.any_integer u_Values.any_scalar u_Values.static_of_kind u_Values.static_integer u_Values.composite_asked u_Values.stored u_Indexes.indexes_in u_TypedParts.nested_stmts u_TypedParts.also_all u_Stack.turned
all_rules = tt
