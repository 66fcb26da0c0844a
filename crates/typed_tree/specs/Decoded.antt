-- What the nodes of a table stand for: the abstract syntax, from left to right. A part that isn't there, or is of
-- another kind, stands for what is dullest of its kind.
use Rattle.std.specs.Prelude.{ℕ, true, pos, List, [], ◌∷◌, ◌++◌, Option, Some, None}
use Rattle.std.proofs.Math.ListN.{get_or}
use Rattle.ada_base.specs.declared.operation.Op.TheVariants as op
use Rattle.ada_base.specs.declared.reason.Reason.{Reason}
use Rattle.typed_tree.specs.declared.scalars.Check.{Check}
use Rattle.typed_tree.specs.declared.scalars.Class.TheVariants as class
use Rattle.typed_tree.specs.declared.scalars.Scalar.{Scalar}
use Rattle.typed_tree.specs.declared.expressions.Expr as tree
use Rattle.typed_tree.specs.declared.expressions.Expr.TheVariants as expr
use Rattle.typed_tree.specs.declared.expressions.Selection as tree-selection
use Rattle.typed_tree.specs.declared.expressions.Selection.TheVariants as selection
use Rattle.typed_tree.specs.declared.expressions.Actual as tree-actual
use Rattle.typed_tree.specs.declared.expressions.Actual.TheVariants as actual
use Rattle.typed_tree.specs.declared.expressions.Value as tree-value
use Rattle.typed_tree.specs.declared.expressions.Value.TheVariants as value
use Rattle.typed_tree.specs.declared.expressions.Composite as tree-composite
use Rattle.typed_tree.specs.declared.expressions.Composite.TheVariants as composite
use Rattle.typed_tree.specs.declared.expressions.Association as tree-association
use Rattle.typed_tree.specs.declared.expressions.Iteration as tree-iteration
use Rattle.typed_tree.specs.declared.expressions.Iteration.TheVariants as iteration
use Rattle.typed_tree.specs.declared.expressions.Chunk as tree-chunk
use Rattle.typed_tree.specs.declared.expressions.Chunk.TheVariants as chunk
use Rattle.typed_tree.specs.declared.expressions.Root.TheVariants as root
use Rattle.typed_tree.specs.declared.expressions.Run.{Run}
use Rattle.typed_tree.specs.declared.expressions.Reducer.{Reducer}
use Rattle.typed_tree.specs.declared.expressions.Reducer.TheVariants as reducer
use Rattle.typed_tree.specs.declared.statements.Stmt as tree-stmt
use Rattle.typed_tree.specs.declared.statements.Stmt.TheVariants as stmt
use Rattle.typed_tree.specs.declared.statements.Alternative as tree-alternative
use Rattle.typed_tree.specs.declared.statements.Span.{Span}
use Rattle.typed_tree.specs.declared.statements.Body as tree-body
use Rattle.typed_tree.specs.declared.statements.Handler as tree-handler
use Rattle.typed_tree.specs.declared.statements.Handler.TheVariants as handler
use Rattle.typed_tree.specs.declared.statements.Decl as tree-decl
use Rattle.typed_tree.specs.declared.statements.Decl.TheVariants as decl
use Rattle.typed_tree.specs.declared.statements.Piece as tree-piece
use Rattle.typed_tree.specs.declared.statements.Piece.TheVariants as piece
use Rattle.typed_tree.specs.declared.program.Bounds.{Bounds}
use Rattle.typed_tree.specs.declared.program.Field as tree-field
use Rattle.typed_tree.specs.declared.program.Formal.{Formal}
use Rattle.typed_tree.specs.declared.node.Fold as tree-fold
use Rattle.typed_tree.specs.declared.node.Fold.TheVariants as fold
use Rattle.typed_tree.specs.declared.node.Leaf.{Leaf}
use Rattle.typed_tree.specs.declared.node.Leaf.TheVariants as leaf
use Rattle.typed_tree.specs.declared.node.Node.{Node}
use Rattle.typed_tree.specs.declared.node.Node.TheVariants as node
use Rattle.typed_tree.specs.Syntax.{Expr, Static, Variable, Constant, Parameter, Target, Group, Unary, Binary, AndThen, OrElse, Relation, Membership, If, Call, Convert, Reduction, Exprs, NoExpr, AlsoExpr, Optional, Absent, Present, Selections, Whole, Field, Index, Actuals, NoActual, In, InOut, Out, CompositeInOut, CompositeOut, Value, Number, Cells, Composite, WholeVariable, WholeConstant, WholeTarget, CompositeIf, Aggregate, Associations, NoAssociation, Association, Iteration, Range, Components, Chunk, NoChunk, Count, Each, Pieces, NoPiece, Text, Image, Padded, Others, Reasons, Decls, NoDecl, DeclareDefault, DeclareVariable, DeclareConstant, Mentions, Stmt, Null, Assign, CallProcedure, Exit, Return, ReturnValue, Raise, Reraise, IfThen, Case, Loop, For, ParallelFor, Parallel, Block, Put, Get, Stmts, End, Then, Alternatives, NoAlternative, Alternative, Arms, NoArm, Arm, Handlers, NoHandler, Handler, Body}

-- what a node stands for
pub data TypedPart : Type 0 where
  Nothing : TypedPart
  Cons : TypedPart → TypedPart → TypedPart
  LeafCons : Leaf → TypedPart → TypedPart
  AnExpr : Expr → TypedPart
  ASelection : (Selections → Selections) → TypedPart
  AnActual : (Actuals → Actuals) → TypedPart
  AValue : Value → TypedPart
  AComposite : Composite → TypedPart
  AnAssociation : (Associations → Associations) → TypedPart
  AnIteration : Iteration → TypedPart
  AChunk : Chunk → TypedPart
  AReducer : Reducer → TypedPart
  ACheck : Check → TypedPart
  AScalar : Scalar → TypedPart
  APiece : (Pieces → Pieces) → TypedPart
  ADecl : (Decls → Decls) → TypedPart
  AStmt : Stmt → TypedPart
  AnAlternative : (Alternatives → Alternatives) → TypedPart
  AHandler : (Handlers → Handlers) → TypedPart
  ABody : Body → TypedPart

-- parts as what they are taken for

abbrev pub as_expr : TypedPart → Expr
as_expr (AnExpr e) = e
as_expr p = Parameter 0 0

abbrev pub as_optional : TypedPart → Optional
as_optional (AnExpr e) = Present e
as_optional p = Absent

abbrev pub as_exprs : TypedPart → Exprs
as_exprs (Cons p q) = AlsoExpr (as_expr p) (as_exprs q)
as_exprs p = NoExpr

abbrev pub as_selection : TypedPart → Selections → Selections
as_selection (ASelection f) = f
as_selection p = λ rest. rest

abbrev pub as_selections : TypedPart → Selections
as_selections (Cons p q) = as_selection p (as_selections q)
as_selections p = Whole

abbrev pub as_actual : TypedPart → Actuals → Actuals
as_actual (AnActual f) = f
as_actual p = λ rest. rest

abbrev pub as_actuals : TypedPart → Actuals
as_actuals (Cons p q) = as_actual p (as_actuals q)
as_actuals p = NoActual

abbrev pub as_composite : TypedPart → Composite
as_composite (AComposite c) = c
as_composite p = WholeTarget 0 0

abbrev pub as_value : TypedPart → Value
as_value (AValue v) = v
as_value p = Cells (Aggregate 0 0 NoAssociation)

abbrev pub as_association : TypedPart → Associations → Associations
as_association (AnAssociation f) = f
as_association p = λ rest. rest

abbrev pub as_associations : TypedPart → Associations
as_associations (Cons p q) = as_association p (as_associations q)
as_associations p = NoAssociation

abbrev pub as_iteration : TypedPart → Iteration
as_iteration (AnIteration i) = i
as_iteration p = Components 0 true 0 (root.Object 0) Whole 0 0 0 Absent

abbrev pub as_chunk : TypedPart → Chunk
as_chunk (AChunk c) = c
as_chunk p = NoChunk

abbrev pub as_reducer : TypedPart → Reducer
as_reducer (AReducer r) = r
as_reducer p = reducer.Operator 0 op.Add class.Boolean

abbrev pub as_check : TypedPart → Option Check
as_check (ACheck c) = Some c
as_check p = None

abbrev pub as_scalar : TypedPart → Scalar
as_scalar (AScalar s) = s
as_scalar p = record { class = class.Boolean; low = pos 0; high = pos 1 }

abbrev pub as_piece : TypedPart → Pieces → Pieces
as_piece (APiece f) = f
as_piece p = λ rest. rest

abbrev pub as_pieces : TypedPart → Pieces
as_pieces (Cons p q) = as_piece p (as_pieces q)
as_pieces p = NoPiece

abbrev pub as_decl : TypedPart → Decls → Decls
as_decl (ADecl f) = f
as_decl p = λ rest. rest

abbrev pub as_decls : TypedPart → Decls
as_decls (Cons p q) = as_decl p (as_decls q)
as_decls p = NoDecl

abbrev pub as_stmt : TypedPart → Stmt
as_stmt (AStmt s) = s
as_stmt p = Null

abbrev pub as_stmts : TypedPart → Stmts
as_stmts (Cons p q) = Then (as_stmt p) (as_stmts q)
as_stmts p = End

abbrev pub as_alternative : TypedPart → Alternatives → Alternatives
as_alternative (AnAlternative f) = f
as_alternative p = λ rest. rest

abbrev pub as_alternatives : TypedPart → Alternatives
as_alternatives (Cons p q) = as_alternative p (as_alternatives q)
as_alternatives p = NoAlternative

abbrev pub as_arms : TypedPart → Arms
as_arms (Cons p q) = Arm (as_stmts p) (as_arms q)
as_arms p = NoArm

abbrev pub as_handler : TypedPart → Handlers → Handlers
as_handler (AHandler f) = f
as_handler p = λ rest. rest

abbrev pub as_handlers : TypedPart → Handlers
as_handlers (Cons p q) = as_handler p (as_handlers q)
as_handlers p = NoHandler

abbrev pub as_body : TypedPart → Body
as_body (ABody b) = b
as_body p = record { decls = NoDecl; stmts = End; handlers = NoHandler }

-- lists of items that have no parts; one of another kind is passed over

abbrev pub as_leaves : TypedPart → List Leaf
as_leaves (LeafCons l p) = l ∷ as_leaves p
as_leaves p = []

abbrev pub bytes_in : List Leaf → List ℕ
bytes_in [] = []
bytes_in (leaf.Byte x ∷ ls) = x ∷ bytes_in ls
bytes_in (l ∷ ls) = bytes_in ls

abbrev pub as_bytes : TypedPart → List ℕ
as_bytes p = bytes_in (as_leaves p)

abbrev pub runs_in : List Leaf → List Run
runs_in [] = []
runs_in (leaf.Run x ∷ ls) = x ∷ runs_in ls
runs_in (l ∷ ls) = runs_in ls

abbrev pub as_runs : TypedPart → List Run
as_runs p = runs_in (as_leaves p)

abbrev pub spans_in : List Leaf → List Span
spans_in [] = []
spans_in (leaf.Span x ∷ ls) = x ∷ spans_in ls
spans_in (l ∷ ls) = spans_in ls

abbrev pub as_spans : TypedPart → List Span
as_spans p = spans_in (as_leaves p)

abbrev pub reasons_in : List Leaf → List Reason
reasons_in [] = []
reasons_in (leaf.Reason x ∷ ls) = x ∷ reasons_in ls
reasons_in (l ∷ ls) = reasons_in ls

abbrev pub as_reasons : TypedPart → List Reason
as_reasons p = reasons_in (as_leaves p)

abbrev pub bounds_in : List Leaf → List Bounds
bounds_in [] = []
bounds_in (leaf.Bounds x ∷ ls) = x ∷ bounds_in ls
bounds_in (l ∷ ls) = bounds_in ls

abbrev pub as_bounds : TypedPart → List Bounds
as_bounds p = bounds_in (as_leaves p)

abbrev pub fields_in : List Leaf → List tree-field.Field
fields_in [] = []
fields_in (leaf.Field x ∷ ls) = x ∷ fields_in ls
fields_in (l ∷ ls) = fields_in ls

abbrev pub as_fields : TypedPart → List tree-field.Field
as_fields p = fields_in (as_leaves p)

abbrev pub formals_in : List Leaf → List Formal
formals_in [] = []
formals_in (leaf.Formal x ∷ ls) = x ∷ formals_in ls
formals_in (l ∷ ls) = formals_in ls

abbrev pub as_formals : TypedPart → List Formal
as_formals p = formals_in (as_leaves p)

-- what a node stands for, where `at` is what the nodes before it stand for

abbrev pub of_expr : (ℕ → TypedPart) → tree.Expr → Expr
of_expr at (expr.Static n z literal mentions) = Static n z literal (as_exprs (at mentions))
of_expr at (expr.Variable n root selections scalar) = Variable n root (as_selections (at selections)) scalar
of_expr at (expr.Constant n root selections scalar) = Constant n root (as_selections (at selections)) scalar
of_expr at (expr.Parameter n parameter) = Parameter n parameter
of_expr at (expr.Target n scalar) = Target n scalar
of_expr at (expr.Group e) = Group (as_expr (at e))
of_expr at (expr.Unary n sign class e) = Unary n sign class (as_expr (at e))
of_expr at (expr.Binary n op class e f) = Binary n op class (as_expr (at e)) (as_expr (at f))
of_expr at (expr.AndThen e f) = AndThen (as_expr (at e)) (as_expr (at f))
of_expr at (expr.OrElse e f) = OrElse (as_expr (at e)) (as_expr (at f))
of_expr at (expr.Relation class comparison e f) = Relation class comparison (as_expr (at e)) (as_expr (at f))
of_expr at (expr.Membership class negated e low high) = Membership class negated (as_expr (at e)) (as_expr (at low)) (as_expr (at high))
of_expr at (expr.If c e f) = If (as_expr (at c)) (as_expr (at e)) (as_expr (at f))
of_expr at (expr.Call n callee sub actuals) = Call n callee sub (as_actuals (at actuals))
of_expr at (expr.Convert check e) = Convert check (as_expr (at e))
of_expr at (expr.Reduction n attribute by initial site chunk iteration e) = Reduction n attribute (as_reducer (at by)) (as_expr (at initial)) site (as_chunk (at chunk)) (as_iteration (at iteration)) (as_expr (at e))

abbrev pub of_selection : (ℕ → TypedPart) → tree-selection.Selection → Selections → Selections
of_selection at (selection.Field number offset) = Field number offset
of_selection at (selection.Index n e low high stride) = Index n (as_expr (at e)) low high stride

abbrev pub of_actual : (ℕ → TypedPart) → tree-actual.Actual → Actuals → Actuals
of_actual at (actual.In formal v) = In formal (as_value (at v))
of_actual at (actual.InOut formal n root selections inner outer) = InOut formal n root (as_selections (at selections)) (as_scalar (at inner)) (as_scalar (at outer))
of_actual at (actual.Out formal n root selections inner outer) = Out formal n root (as_selections (at selections)) (as_scalar (at inner)) (as_scalar (at outer))
of_actual at (actual.CompositeInOut formal n root selections subtype) = CompositeInOut formal n root (as_selections (at selections)) subtype
of_actual at (actual.CompositeOut formal n root selections subtype) = CompositeOut formal n root (as_selections (at selections)) subtype

abbrev pub of_value : (ℕ → TypedPart) → tree-value.Value → Value
of_value at (value.Number check e) = Number check (as_expr (at e))
of_value at (value.Cells c) = Cells (as_composite (at c))

abbrev pub of_composite : (ℕ → TypedPart) → tree-composite.Composite → Composite
of_composite at (composite.WholeVariable n root selections subtype) = WholeVariable n root (as_selections (at selections)) subtype
of_composite at (composite.WholeConstant n root selections subtype) = WholeConstant n root (as_selections (at selections)) subtype
of_composite at (composite.WholeTarget n subtype) = WholeTarget n subtype
of_composite at (composite.If c v w) = CompositeIf (as_expr (at c)) (as_composite (at v)) (as_composite (at w))
of_composite at (composite.Aggregate n cells associations) = Aggregate n cells (as_associations (at associations))

abbrev pub of_association : (ℕ → TypedPart) → tree-association.Association → Associations → Associations
of_association at a = Association (as_runs (at a.runs)) a.iterated (as_exprs (at a.mentions)) (as_value (at a.value))

abbrev pub of_iteration : (ℕ → TypedPart) → tree-iteration.Iteration → Iteration
of_iteration at (iteration.Range k reverse low high check filter) = Range k reverse (as_expr (at low)) (as_expr (at high)) (as_check (at check)) (as_optional (at filter))
of_iteration at (iteration.Components item constant n root selections count stride dimensions filter) = Components item constant n root (as_selections (at selections)) count stride dimensions (as_optional (at filter))

abbrev pub of_chunk : (ℕ → TypedPart) → tree-chunk.Chunk → Chunk
of_chunk at (chunk.Count e) = Count (as_expr (at e))
of_chunk at (chunk.Each k low high check) = Each k (as_expr (at low)) (as_expr (at high)) (as_check (at check))

abbrev pub of_fold : (ℕ → TypedPart) → tree-fold.Fold → Reducer
of_fold at (fold.Operator n op class) = reducer.Operator n op class
of_fold at (fold.Function n sub accumulator v) = reducer.Function n sub (as_scalar (at accumulator)) (as_scalar (at v))

abbrev pub of_piece : (ℕ → TypedPart) → tree-piece.Piece → Pieces → Pieces
of_piece at (piece.Text bytes) = Text (as_bytes (at bytes))
of_piece at (piece.Image class e) = Image class (as_expr (at e))
of_piece at (piece.Padded class e width) = Padded class (as_expr (at e)) (as_expr (at width))

abbrev pub of_decl : (ℕ → TypedPart) → tree-decl.Decl → Decls → Decls
of_decl at (decl.Default object) = DeclareDefault object
of_decl at (decl.Variable object initial) = DeclareVariable object (as_value (at initial))
of_decl at (decl.Constant object initial) = DeclareConstant object (as_value (at initial))
of_decl at (decl.Mentions es) = Mentions (as_exprs (at es))

abbrev pub of_stmt : (ℕ → TypedPart) → tree-stmt.Stmt → Stmt
of_stmt at stmt.Null = Null
of_stmt at (stmt.Assign n root selections v) = Assign n root (as_selections (at selections)) (as_value (at v))
of_stmt at (stmt.Call n callee sub actuals) = CallProcedure n callee sub (as_actuals (at actuals))
of_stmt at (stmt.Exit from condition) = Exit from (as_optional (at condition))
of_stmt at stmt.Return = Return
of_stmt at (stmt.ReturnValue v) = ReturnValue (as_value (at v))
of_stmt at (stmt.Raise reason) = Raise reason
of_stmt at stmt.Reraise = Reraise
of_stmt at (stmt.If condition stmts otherwise) = IfThen (as_expr (at condition)) (as_stmts (at stmts)) (as_stmts (at otherwise))
of_stmt at (stmt.Case e alternatives) = Case (as_expr (at e)) (as_alternatives (at alternatives))
of_stmt at (stmt.Loop number condition stmts) = Loop number (as_optional (at condition)) (as_stmts (at stmts))
of_stmt at (stmt.For number iteration stmts) = For number (as_iteration (at iteration)) (as_stmts (at stmts))
of_stmt at (stmt.ParallelFor number site chunk iteration stmts) = ParallelFor number site (as_chunk (at chunk)) (as_iteration (at iteration)) (as_stmts (at stmts))
of_stmt at (stmt.Parallel site count arms) = Parallel site (as_optional (at count)) (as_arms (at arms))
of_stmt at (stmt.Block decls stmts handlers) = Block (as_decls (at decls)) (as_stmts (at stmts)) (as_handlers (at handlers))
of_stmt at (stmt.Put n callee pieces line) = Put n callee (as_pieces (at pieces)) line
of_stmt at (stmt.Get n callee first root selections scalar) = Get n callee first root (as_selections (at selections)) scalar

abbrev pub of_alternative : (ℕ → TypedPart) → tree-alternative.Alternative → Alternatives → Alternatives
of_alternative at a = Alternative a.others (as_spans (at a.choices)) (as_exprs (at a.mentions)) (as_stmts (at a.stmts))

abbrev pub of_handler : (ℕ → TypedPart) → tree-handler.Handler → Handlers → Handlers
of_handler at (handler.Others stmts) = Handler Others (as_stmts (at stmts))
of_handler at (handler.Reasons reasons stmts) = Handler (Reasons (as_reasons (at reasons))) (as_stmts (at stmts))

abbrev pub of_body : (ℕ → TypedPart) → tree-body.Body → Body
of_body at b = record { decls = as_decls (at b.decls); stmts = as_stmts (at b.stmts); handlers = as_handlers (at b.handlers) }

abbrev pub of_node : (ℕ → TypedPart) → Node → TypedPart
of_node at node.End = Nothing
of_node at (node.Cell first rest) = Cons (at first) (at rest)
of_node at (node.Leaf leaf rest) = LeafCons leaf (at rest)
of_node at (node.Expr e) = AnExpr (of_expr at e)
of_node at (node.Selection s) = ASelection (of_selection at s)
of_node at (node.Actual a) = AnActual (of_actual at a)
of_node at (node.Value v) = AValue (of_value at v)
of_node at (node.Composite c) = AComposite (of_composite at c)
of_node at (node.Association a) = AnAssociation (of_association at a)
of_node at (node.Iteration i) = AnIteration (of_iteration at i)
of_node at (node.Chunk c) = AChunk (of_chunk at c)
of_node at (node.Fold f) = AReducer (of_fold at f)
of_node at (node.Check c) = ACheck c
of_node at (node.Scalar s) = AScalar s
of_node at (node.Piece p) = APiece (of_piece at p)
of_node at (node.Decl d) = ADecl (of_decl at d)
of_node at (node.Stmt s) = AStmt (of_stmt at s)
of_node at (node.Alternative a) = AnAlternative (of_alternative at a)
of_node at (node.Handler h) = AHandler (of_handler at h)
of_node at (node.Body b) = ABody (of_body at b)

-- what the numbers of a table stand for

-- the part of a number among parts
abbrev pub among : List TypedPart → ℕ → TypedPart
among parts k = get_or parts k Nothing

abbrev pub parts_from : List TypedPart → List Node → List TypedPart
parts_from parts [] = parts
parts_from parts (n ∷ ns) = parts_from (parts ++ of_node (among parts) n ∷ []) ns

unfoldable pub part_at : List Node → ℕ → TypedPart
part_at nodes k = among (parts_from [] nodes) k

abbrev pub expr_at : List Node → ℕ → Expr
expr_at nodes k = as_expr (part_at nodes k)

abbrev pub optional_at : List Node → ℕ → Optional
optional_at nodes k = as_optional (part_at nodes k)

abbrev pub exprs_at : List Node → ℕ → Exprs
exprs_at nodes k = as_exprs (part_at nodes k)

abbrev pub selections_at : List Node → ℕ → Selections
selections_at nodes k = as_selections (part_at nodes k)

abbrev pub actuals_at : List Node → ℕ → Actuals
actuals_at nodes k = as_actuals (part_at nodes k)

abbrev pub composite_at : List Node → ℕ → Composite
composite_at nodes k = as_composite (part_at nodes k)

abbrev pub value_at : List Node → ℕ → Value
value_at nodes k = as_value (part_at nodes k)

abbrev pub associations_at : List Node → ℕ → Associations
associations_at nodes k = as_associations (part_at nodes k)

abbrev pub iteration_at : List Node → ℕ → Iteration
iteration_at nodes k = as_iteration (part_at nodes k)

abbrev pub chunk_at : List Node → ℕ → Chunk
chunk_at nodes k = as_chunk (part_at nodes k)

abbrev pub reducer_at : List Node → ℕ → Reducer
reducer_at nodes k = as_reducer (part_at nodes k)

abbrev pub check_at : List Node → ℕ → Option Check
check_at nodes k = as_check (part_at nodes k)

abbrev pub scalar_at : List Node → ℕ → Scalar
scalar_at nodes k = as_scalar (part_at nodes k)

abbrev pub pieces_at : List Node → ℕ → Pieces
pieces_at nodes k = as_pieces (part_at nodes k)

abbrev pub decls_at : List Node → ℕ → Decls
decls_at nodes k = as_decls (part_at nodes k)

abbrev pub stmt_at : List Node → ℕ → Stmt
stmt_at nodes k = as_stmt (part_at nodes k)

abbrev pub stmts_at : List Node → ℕ → Stmts
stmts_at nodes k = as_stmts (part_at nodes k)

abbrev pub alternatives_at : List Node → ℕ → Alternatives
alternatives_at nodes k = as_alternatives (part_at nodes k)

abbrev pub arms_at : List Node → ℕ → Arms
arms_at nodes k = as_arms (part_at nodes k)

abbrev pub handlers_at : List Node → ℕ → Handlers
handlers_at nodes k = as_handlers (part_at nodes k)

abbrev pub body_at : List Node → ℕ → Body
body_at nodes k = as_body (part_at nodes k)

abbrev pub leaves_at : List Node → ℕ → List Leaf
leaves_at nodes k = as_leaves (part_at nodes k)
