-- How the parts of a program are written into a table: a part before what it is a part of, so that a part's own node is
-- the last of those that are written for it. Each definition takes the table before to the table after.
use Rattle.std.specs.Prelude.{ℕ, ◌-◌, List, [], ◌∷◌, ◌++◌, length, map, Option, Some, None}
use Rattle.ada_base.specs.declared.reason.Reason.{Reason}
use Rattle.typed_tree.specs.declared.scalars.Check.{Check}
use Rattle.typed_tree.specs.declared.scalars.Scalar.{Scalar}
use Rattle.typed_tree.specs.declared.expressions.Expr.TheVariants as expr-node
use Rattle.typed_tree.specs.declared.expressions.Selection.TheVariants as selection-node
use Rattle.typed_tree.specs.declared.expressions.Actual.TheVariants as actual-node
use Rattle.typed_tree.specs.declared.expressions.Value.TheVariants as value-node
use Rattle.typed_tree.specs.declared.expressions.Composite.TheVariants as composite-node
use Rattle.typed_tree.specs.declared.expressions.Iteration.TheVariants as iteration-node
use Rattle.typed_tree.specs.declared.expressions.Chunk.TheVariants as chunk-node
use Rattle.typed_tree.specs.declared.expressions.Run.{Run}
use Rattle.typed_tree.specs.declared.expressions.Reducer.{Reducer}
use Rattle.typed_tree.specs.declared.expressions.Reducer.TheVariants.{Operator, Function}
use Rattle.typed_tree.specs.declared.statements.Stmt.TheVariants as stmt-node
use Rattle.typed_tree.specs.declared.statements.Span.{Span}
use Rattle.typed_tree.specs.declared.statements.Handler.TheVariants as handler-node
use Rattle.typed_tree.specs.declared.statements.Decl.TheVariants as decl-node
use Rattle.typed_tree.specs.declared.statements.Piece.TheVariants as piece-node
use Rattle.typed_tree.specs.declared.program.Bounds.{Bounds}
use Rattle.typed_tree.specs.declared.program.Field as tree-field
use Rattle.typed_tree.specs.declared.program.Formal.{Formal}
use Rattle.typed_tree.specs.declared.node.Fold.TheVariants as fold-node
use Rattle.typed_tree.specs.declared.node.Leaf.{Leaf}
use Rattle.typed_tree.specs.declared.node.Leaf.TheVariants as leaf
use Rattle.typed_tree.specs.declared.node.Node.{Node}
use Rattle.typed_tree.specs.declared.node.Node.TheVariants as node
use Rattle.typed_tree.specs.Syntax.{Expr, Static, Variable, Constant, Parameter, Target, Group, Unary, Binary, AndThen, OrElse, Relation, Membership, If, Call, Convert, Reduction, Exprs, NoExpr, AlsoExpr, Optional, Absent, Present, Selections, Whole, Field, Index, Actuals, NoActual, In, InOut, Out, CompositeInOut, CompositeOut, Value, Number, Cells, Composite, WholeVariable, WholeConstant, WholeTarget, CompositeIf, Aggregate, Associations, NoAssociation, Association, Iteration, Range, Components, Chunk, NoChunk, Count, Each, Pieces, NoPiece, Text, Image, Padded, Others, Reasons, Decls, NoDecl, DeclareDefault, DeclareVariable, DeclareConstant, Mentions, Stmt, Null, Assign, CallProcedure, Exit, Return, ReturnValue, Raise, Reraise, IfThen, Case, Loop, For, ParallelFor, Parallel, Block, Put, Get, Stmts, End, Then, Alternatives, NoAlternative, Alternative, Arms, NoArm, Arm, Handlers, NoHandler, Handler, Body}

-- one more node
unfoldable pub put : Node → List Node → List Node
put n ns = ns ++ n ∷ []

-- the number of the last node
unfoldable pub last : List Node → ℕ
last ns = length ns - 1

-- lists of items that have no parts

abbrev pub leaves : List Leaf → List Node → List Node
leaves [] ns = put node.End ns
leaves (l ∷ ls) ns = let a = leaves ls ns in put (node.Leaf l (last a)) a

abbrev pub bytes : List ℕ → List Node → List Node
bytes bs ns = leaves (map leaf.Byte bs) ns

abbrev pub runs : List Run → List Node → List Node
runs rs ns = leaves (map leaf.Run rs) ns

abbrev pub spans : List Span → List Node → List Node
spans ss ns = leaves (map leaf.Span ss) ns

abbrev pub reasons : List Reason → List Node → List Node
reasons rs ns = leaves (map leaf.Reason rs) ns

abbrev pub bounds : List Bounds → List Node → List Node
bounds bs ns = leaves (map leaf.Bounds bs) ns

abbrev pub fields : List tree-field.Field → List Node → List Node
fields fs ns = leaves (map leaf.Field fs) ns

abbrev pub formals : List Formal → List Node → List Node
formals fs ns = leaves (map leaf.Formal fs) ns

-- parts without parts of their own kind

abbrev pub scalar : Scalar → List Node → List Node
scalar s ns = put (node.Scalar s) ns

abbrev pub check : Option Check → List Node → List Node
check None ns = put node.End ns
check (Some c) ns = put (node.Check c) ns

abbrev pub reducer : Reducer → List Node → List Node
reducer (Operator at op class) ns = put (node.Fold (fold-node.Operator at op class)) ns
reducer (Function at sub accumulator v) ns =
    let a = scalar accumulator ns in
    let b = scalar v a in
    put (node.Fold (fold-node.Function at sub (last a) (last b))) b

-- expressions, statements and what they are made of

abbrev mutual
  pub expr : Expr → List Node → List Node
  expr (Static at z literal mentions) ns =
      let a = exprs mentions ns in
      put (node.Expr (expr-node.Static at z literal (last a))) a
  expr (Variable at root s scalar) ns =
      let a = selections s ns in
      put (node.Expr (expr-node.Variable at root (last a) scalar)) a
  expr (Constant at root s scalar) ns =
      let a = selections s ns in
      put (node.Expr (expr-node.Constant at root (last a) scalar)) a
  expr (Parameter at parameter) ns = put (node.Expr (expr-node.Parameter at parameter)) ns
  expr (Target at scalar) ns = put (node.Expr (expr-node.Target at scalar)) ns
  expr (Group e) ns = let a = expr e ns in put (node.Expr (expr-node.Group (last a))) a
  expr (Unary at sign class e) ns = let a = expr e ns in put (node.Expr (expr-node.Unary at sign class (last a))) a
  expr (Binary at op class e f) ns =
      let a = expr e ns in
      let b = expr f a in
      put (node.Expr (expr-node.Binary at op class (last a) (last b))) b
  expr (AndThen e f) ns =
      let a = expr e ns in
      let b = expr f a in
      put (node.Expr (expr-node.AndThen (last a) (last b))) b
  expr (OrElse e f) ns = let a = expr e ns in let b = expr f a in put (node.Expr (expr-node.OrElse (last a) (last b))) b
  expr (Relation class comparison e f) ns =
      let a = expr e ns in
      let b = expr f a in
      put (node.Expr (expr-node.Relation class comparison (last a) (last b))) b
  expr (Membership class negated e low high) ns =
      let a = expr e ns in
      let b = expr low a in
      let c = expr high b in
      put (node.Expr (expr-node.Membership class negated (last a) (last b) (last c))) c
  expr (If condition e f) ns =
      let a = expr condition ns in
      let b = expr e a in
      let c = expr f b in
      put (node.Expr (expr-node.If (last a) (last b) (last c))) c
  expr (Call at callee sub actuals') ns =
      let a = actuals actuals' ns in
      put (node.Expr (expr-node.Call at callee sub (last a))) a
  expr (Convert check e) ns = let a = expr e ns in put (node.Expr (expr-node.Convert check (last a))) a
  expr (Reduction at attribute by initial site chunk' iteration' e) ns =
      let a = chunk chunk' ns in
      let b = iteration iteration' a in
      let c = expr e b in
      let d = reducer by c in
      let g = expr initial d in
      put (node.Expr (expr-node.Reduction at attribute (last d) (last g) site (last a) (last b) (last c))) g

  pub exprs : Exprs → List Node → List Node
  exprs NoExpr ns = put node.End ns
  exprs (AlsoExpr e rest) ns = let a = expr e ns in let b = exprs rest a in put (node.Cell (last a) (last b)) b

  pub optional : Optional → List Node → List Node
  optional Absent ns = put node.End ns
  optional (Present e) ns = expr e ns

  pub selections : Selections → List Node → List Node
  selections Whole ns = put node.End ns
  selections (Field number offset rest) ns =
      let a = put (node.Selection (selection-node.Field number offset)) ns in
      let b = selections rest a in
      put (node.Cell (last a) (last b)) b
  selections (Index at e low high stride rest) ns =
      let a = expr e ns in
      let b = put (node.Selection (selection-node.Index at (last a) low high stride)) a in
      let c = selections rest b in
      put (node.Cell (last b) (last c)) c

  pub actuals : Actuals → List Node → List Node
  actuals NoActual ns = put node.End ns
  actuals (In formal v rest) ns =
      let a = value v ns in
      let b = put (node.Actual (actual-node.In formal (last a))) a in
      let c = actuals rest b in
      put (node.Cell (last b) (last c)) c
  actuals (InOut formal at root s inner outer rest) ns =
      let a = selections s ns in
      let b = scalar inner a in
      let c = scalar outer b in
      let d = put (node.Actual (actual-node.InOut formal at root (last a) (last b) (last c))) c in
      let g = actuals rest d in
      put (node.Cell (last d) (last g)) g
  actuals (Out formal at root s inner outer rest) ns =
      let a = selections s ns in
      let b = scalar inner a in
      let c = scalar outer b in
      let d = put (node.Actual (actual-node.Out formal at root (last a) (last b) (last c))) c in
      let g = actuals rest d in
      put (node.Cell (last d) (last g)) g
  actuals (CompositeInOut formal at root s subtype rest) ns =
      let a = selections s ns in
      let b = put (node.Actual (actual-node.CompositeInOut formal at root (last a) subtype)) a in
      let c = actuals rest b in
      put (node.Cell (last b) (last c)) c
  actuals (CompositeOut formal at root s subtype rest) ns =
      let a = selections s ns in
      let b = put (node.Actual (actual-node.CompositeOut formal at root (last a) subtype)) a in
      let c = actuals rest b in
      put (node.Cell (last b) (last c)) c

  pub value : Value → List Node → List Node
  value (Number check e) ns = let a = expr e ns in put (node.Value (value-node.Number check (last a))) a
  value (Cells c) ns = let a = composite c ns in put (node.Value (value-node.Cells (last a))) a

  pub composite : Composite → List Node → List Node
  composite (WholeVariable at root s subtype) ns =
      let a = selections s ns in
      put (node.Composite (composite-node.WholeVariable at root (last a) subtype)) a
  composite (WholeConstant at root s subtype) ns =
      let a = selections s ns in
      put (node.Composite (composite-node.WholeConstant at root (last a) subtype)) a
  composite (WholeTarget at subtype) ns = put (node.Composite (composite-node.WholeTarget at subtype)) ns
  composite (CompositeIf condition v w) ns =
      let a = expr condition ns in
      let b = composite v a in
      let c = composite w b in
      put (node.Composite (composite-node.If (last a) (last b) (last c))) c
  composite (Aggregate at cells associations') ns =
      let a = associations associations' ns in
      put (node.Composite (composite-node.Aggregate at cells (last a))) a

  pub associations : Associations → List Node → List Node
  associations NoAssociation ns = put node.End ns
  associations (Association rs iterated mentions v rest) ns =
      let a = runs rs ns in
      let b = exprs mentions a in
      let c = value v b in
      let d = put (node.Association (record { runs = last a; iterated = iterated; mentions = last b; value = last c })) c in
      let g = associations rest d in
      put (node.Cell (last d) (last g)) g

  pub iteration : Iteration → List Node → List Node
  iteration (Range parameter reverse low high check' filter) ns =
      let a = expr low ns in
      let b = expr high a in
      let c = check check' b in
      let d = optional filter c in
      put (node.Iteration (iteration-node.Range parameter reverse (last a) (last b) (last c) (last d))) d
  iteration (Components item constant at root s count stride dimensions filter) ns =
      let a = selections s ns in
      let b = optional filter a in
      put (node.Iteration (iteration-node.Components item constant at root (last a) count stride dimensions (last b))) b

  pub chunk : Chunk → List Node → List Node
  chunk NoChunk ns = put node.End ns
  chunk (Count e) ns = let a = expr e ns in put (node.Chunk (chunk-node.Count (last a))) a
  chunk (Each parameter low high check') ns =
      let a = expr low ns in
      let b = expr high a in
      let c = check check' b in
      put (node.Chunk (chunk-node.Each parameter (last a) (last b) (last c))) c

abbrev pub pieces : Pieces → List Node → List Node
pieces NoPiece ns = put node.End ns
pieces (Text bs rest) ns =
    let a = bytes bs ns in
    let b = put (node.Piece (piece-node.Text (last a))) a in
    let c = pieces rest b in
    put (node.Cell (last b) (last c)) c
pieces (Image class e rest) ns =
    let a = expr e ns in
    let b = put (node.Piece (piece-node.Image class (last a))) a in
    let c = pieces rest b in
    put (node.Cell (last b) (last c)) c
pieces (Padded class e width rest) ns =
    let a = expr e ns in
    let b = expr width a in
    let c = put (node.Piece (piece-node.Padded class (last a) (last b))) b in
    let d = pieces rest c in
    put (node.Cell (last c) (last d)) d

abbrev pub decls : Decls → List Node → List Node
decls NoDecl ns = put node.End ns
decls (DeclareDefault object rest) ns =
    let a = put (node.Decl (decl-node.Default object)) ns in
    let b = decls rest a in
    put (node.Cell (last a) (last b)) b
decls (DeclareVariable object v rest) ns =
    let a = value v ns in
    let b = put (node.Decl (decl-node.Variable object (last a))) a in
    let c = decls rest b in
    put (node.Cell (last b) (last c)) c
decls (DeclareConstant object v rest) ns =
    let a = value v ns in
    let b = put (node.Decl (decl-node.Constant object (last a))) a in
    let c = decls rest b in
    put (node.Cell (last b) (last c)) c
decls (Mentions es rest) ns =
    let a = exprs es ns in
    let b = put (node.Decl (decl-node.Mentions (last a))) a in
    let c = decls rest b in
    put (node.Cell (last b) (last c)) c

abbrev mutual
  pub stmt : Stmt → List Node → List Node
  stmt Null ns = put (node.Stmt stmt-node.Null) ns
  stmt (Assign at root s v) ns =
      let a = selections s ns in
      let b = value v a in
      put (node.Stmt (stmt-node.Assign at root (last a) (last b))) b
  stmt (CallProcedure at callee sub actuals') ns =
      let a = actuals actuals' ns in
      put (node.Stmt (stmt-node.Call at callee sub (last a))) a
  stmt (Exit from condition) ns = let a = optional condition ns in put (node.Stmt (stmt-node.Exit from (last a))) a
  stmt Return ns = put (node.Stmt stmt-node.Return) ns
  stmt (ReturnValue v) ns = let a = value v ns in put (node.Stmt (stmt-node.ReturnValue (last a))) a
  stmt (Raise reason) ns = put (node.Stmt (stmt-node.Raise reason)) ns
  stmt Reraise ns = put (node.Stmt stmt-node.Reraise) ns
  stmt (IfThen condition ss otherwise) ns =
      let a = expr condition ns in
      let b = stmts ss a in
      let c = stmts otherwise b in
      put (node.Stmt (stmt-node.If (last a) (last b) (last c))) c
  stmt (Case e alternatives') ns =
      let a = expr e ns in
      let b = alternatives alternatives' a in
      put (node.Stmt (stmt-node.Case (last a) (last b))) b
  stmt (Loop number condition ss) ns =
      let a = optional condition ns in
      let b = stmts ss a in
      put (node.Stmt (stmt-node.Loop number (last a) (last b))) b
  stmt (For number iteration' ss) ns =
      let a = iteration iteration' ns in
      let b = stmts ss a in
      put (node.Stmt (stmt-node.For number (last a) (last b))) b
  stmt (ParallelFor number site chunk' iteration' ss) ns =
      let a = chunk chunk' ns in
      let b = iteration iteration' a in
      let c = stmts ss b in
      put (node.Stmt (stmt-node.ParallelFor number site (last a) (last b) (last c))) c
  stmt (Parallel site count arms') ns =
      let a = optional count ns in
      let b = arms arms' a in
      put (node.Stmt (stmt-node.Parallel site (last a) (last b))) b
  stmt (Block decls' ss handlers') ns =
      let a = decls decls' ns in
      let b = stmts ss a in
      let c = handlers handlers' b in
      put (node.Stmt (stmt-node.Block (last a) (last b) (last c))) c
  stmt (Put at callee pieces' line) ns =
      let a = pieces pieces' ns in
      put (node.Stmt (stmt-node.Put at callee (last a) line)) a
  stmt (Get at callee first root s scalar) ns =
      let a = selections s ns in
      put (node.Stmt (stmt-node.Get at callee first root (last a) scalar)) a

  pub stmts : Stmts → List Node → List Node
  stmts End ns = put node.End ns
  stmts (Then s rest) ns = let a = stmt s ns in let b = stmts rest a in put (node.Cell (last a) (last b)) b

  pub alternatives : Alternatives → List Node → List Node
  alternatives NoAlternative ns = put node.End ns
  alternatives (Alternative others choices mentions ss rest) ns =
      let a = spans choices ns in
      let b = exprs mentions a in
      let c = stmts ss b in
      let d = put (node.Alternative (record { others = others; choices = last a; mentions = last b; stmts = last c })) c in
      let g = alternatives rest d in
      put (node.Cell (last d) (last g)) g

  pub arms : Arms → List Node → List Node
  arms NoArm ns = put node.End ns
  arms (Arm ss rest) ns = let a = stmts ss ns in let b = arms rest a in put (node.Cell (last a) (last b)) b

  pub handlers : Handlers → List Node → List Node
  handlers NoHandler ns = put node.End ns
  handlers (Handler Others ss rest) ns =
      let a = stmts ss ns in
      let b = put (node.Handler (handler-node.Others (last a))) a in
      let c = handlers rest b in
      put (node.Cell (last b) (last c)) c
  handlers (Handler (Reasons rs) ss rest) ns =
      let a = reasons rs ns in
      let b = stmts ss a in
      let c = put (node.Handler (handler-node.Reasons (last a) (last b))) b in
      let d = handlers rest c in
      put (node.Cell (last c) (last d)) d

abbrev pub body : Body → List Node → List Node
body x ns =
    let a = decls x.decls ns in
    let b = stmts x.stmts a in
    let c = handlers x.handlers b in
    put (node.Body (record { decls = last a; stmts = last b; handlers = last c })) c
