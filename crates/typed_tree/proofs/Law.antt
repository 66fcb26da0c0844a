-- The law of tables: what was written is read.
use Rattle.std.specs.Prelude.{◌≡◌, ℕ, List, [], ◌∷◌, map, Option, Some, None}
use Rattle.std.proofs.Common.{refl, ap, ◌∙◌}
use Rattle.ada_base.specs.declared.reason.Reason.{Reason}
use Rattle.typed_tree.specs.declared.scalars.Check.{Check}
use Rattle.typed_tree.specs.declared.scalars.Scalar.{Scalar}
use Rattle.typed_tree.specs.declared.expressions.Run.{Run}
use Rattle.typed_tree.specs.declared.expressions.Reducer.{Reducer}
use Rattle.typed_tree.specs.declared.expressions.Reducer.TheVariants.{Operator, Function}
use Rattle.typed_tree.specs.declared.statements.Span.{Span}
use Rattle.typed_tree.specs.declared.node.Leaf.{Leaf}
use Rattle.typed_tree.specs.declared.node.Leaf.TheVariants as leaf
use Rattle.typed_tree.specs.declared.node.Node.{Node}
use Rattle.typed_tree.specs.declared.expressions.Selection.TheVariants as selection-node
use Rattle.typed_tree.specs.declared.expressions.Actual.TheVariants as actual-node
use Rattle.typed_tree.specs.declared.statements.Handler.TheVariants as handler-node
use Rattle.typed_tree.specs.declared.statements.Decl.TheVariants as decl-node
use Rattle.typed_tree.specs.declared.statements.Piece.TheVariants as piece-node
use Rattle.typed_tree.specs.declared.node.Node.TheVariants as node
use Rattle.typed_tree.specs.declared.program.Bounds.{Bounds}
use Rattle.typed_tree.specs.declared.program.Field as tree-field
use Rattle.typed_tree.specs.declared.program.Formal.{Formal}
use Rattle.typed_tree.specs.Syntax.{Expr, Static, Variable, Constant, Parameter, Target, Group, Unary, Binary, AndThen, OrElse, Relation, Membership, If, Call, Convert, Reduction, Exprs, NoExpr, AlsoExpr, Optional, Absent, Present, Selections, Whole, Field, Index, Actuals, NoActual, In, InOut, Out, CompositeInOut, CompositeOut, Value, Number, Cells, Composite, WholeVariable, WholeConstant, WholeTarget, CompositeIf, Aggregate, Associations, NoAssociation, Association, Iteration, Range, Components, Chunk, NoChunk, Count, Each, Pieces, NoPiece, Text, Image, Padded, Others, Reasons, Decls, NoDecl, DeclareDefault, DeclareVariable, DeclareConstant, Mentions, Stmt, Null, Assign, CallProcedure, Exit, Return, ReturnValue, Raise, Reraise, IfThen, Case, Loop, For, ParallelFor, Parallel, Block, Put, Get, Stmts, End, Then, Alternatives, NoAlternative, Alternative, Arms, NoArm, Arm, Handlers, NoHandler, Handler, Body}
use Rattle.typed_tree.specs.Decoded.{part_at, AnExpr, optional_at, exprs_at, selections_at, actuals_at, composite_at, value_at, associations_at, iteration_at, chunk_at, reducer_at, check_at, scalar_at, pieces_at, decls_at, stmt_at, stmts_at, alternatives_at, arms_at, handlers_at, body_at, leaves_at, bytes_in, runs_in, spans_in, reasons_in, bounds_in, fields_in, formals_in, as_bytes, as_runs, as_spans, as_reasons, as_bounds, as_fields, as_formals}
use Rattle.typed_tree.specs.Written as written
use Rattle.typed_tree.specs.Written.{put, last, leaves}
use Rattle.typed_tree.proofs.Growing.{grow, ◌then◌, kept, part_end, grown_runs, grown_spans, grown_reasons, grown_scalar, grown_check, grown_reducer, grown_expr, grown_exprs, grown_optional, grown_selections, grown_actuals, grown_value, grown_composite, grown_associations, grown_iteration, grown_chunk, grown_pieces, grown_decls, grown_stmt, grown_stmts, grown_alternatives, grown_arms, grown_handlers}

pub read_leaves : (ls : List Leaf) (ns : List Node) → leaves_at (leaves ls ns) (last (leaves ls ns)) ≡ ls
read_leaves [] ns = rw part_end
read_leaves (l ∷ ls) ns = rw (part_end, read_leaves ls ns)

bytes_back : (xs : List ℕ) → bytes_in (map leaf.Byte xs) ≡ xs
bytes_back [] = refl
bytes_back (x ∷ xs) = ap (λ ys. x ∷ ys) (bytes_back xs)

pub read_bytes : (xs : List ℕ) (ns : List Node) → as_bytes (part_at (written.bytes xs ns) (last (written.bytes xs ns))) ≡ xs
read_bytes xs ns = ap bytes_in (read_leaves (map leaf.Byte xs) ns) ∙ bytes_back xs

runs_back : (xs : List Run) → runs_in (map leaf.Run xs) ≡ xs
runs_back [] = refl
runs_back (x ∷ xs) = ap (λ ys. x ∷ ys) (runs_back xs)

pub read_runs : (xs : List Run) (ns : List Node) → as_runs (part_at (written.runs xs ns) (last (written.runs xs ns))) ≡ xs
read_runs xs ns = ap runs_in (read_leaves (map leaf.Run xs) ns) ∙ runs_back xs

spans_back : (xs : List Span) → spans_in (map leaf.Span xs) ≡ xs
spans_back [] = refl
spans_back (x ∷ xs) = ap (λ ys. x ∷ ys) (spans_back xs)

pub read_spans : (xs : List Span) (ns : List Node) → as_spans (part_at (written.spans xs ns) (last (written.spans xs ns))) ≡ xs
read_spans xs ns = ap spans_in (read_leaves (map leaf.Span xs) ns) ∙ spans_back xs

reasons_back : (xs : List Reason) → reasons_in (map leaf.Reason xs) ≡ xs
reasons_back [] = refl
reasons_back (x ∷ xs) = ap (λ ys. x ∷ ys) (reasons_back xs)

pub read_reasons : (xs : List Reason) (ns : List Node) → as_reasons (part_at (written.reasons xs ns) (last (written.reasons xs ns))) ≡ xs
read_reasons xs ns = ap reasons_in (read_leaves (map leaf.Reason xs) ns) ∙ reasons_back xs

bounds_back : (xs : List Bounds) → bounds_in (map leaf.Bounds xs) ≡ xs
bounds_back [] = refl
bounds_back (x ∷ xs) = ap (λ ys. x ∷ ys) (bounds_back xs)

pub read_bounds : (xs : List Bounds) (ns : List Node) → as_bounds (part_at (written.bounds xs ns) (last (written.bounds xs ns))) ≡ xs
read_bounds xs ns = ap bounds_in (read_leaves (map leaf.Bounds xs) ns) ∙ bounds_back xs

fields_back : (xs : List tree-field.Field) → fields_in (map leaf.Field xs) ≡ xs
fields_back [] = refl
fields_back (x ∷ xs) = ap (λ ys. x ∷ ys) (fields_back xs)

pub read_fields : (xs : List tree-field.Field) (ns : List Node) → as_fields (part_at (written.fields xs ns) (last (written.fields xs ns))) ≡ xs
read_fields xs ns = ap fields_in (read_leaves (map leaf.Field xs) ns) ∙ fields_back xs

formals_back : (xs : List Formal) → formals_in (map leaf.Formal xs) ≡ xs
formals_back [] = refl
formals_back (x ∷ xs) = ap (λ ys. x ∷ ys) (formals_back xs)

pub read_formals : (xs : List Formal) (ns : List Node) → as_formals (part_at (written.formals xs ns) (last (written.formals xs ns))) ≡ xs
read_formals xs ns = ap formals_in (read_leaves (map leaf.Formal xs) ns) ∙ formals_back xs

pub read_scalar : (s : Scalar) (ns : List Node) → scalar_at (written.scalar s ns) (last (written.scalar s ns)) ≡ s
read_scalar s ns = rw part_end

pub read_check : (c : Option Check) (ns : List Node) → check_at (written.check c ns) (last (written.check c ns)) ≡ c
read_check None ns = rw part_end
read_check (Some c) ns = rw part_end

pub read_reducer : (r : Reducer) (ns : List Node) → reducer_at (written.reducer r ns) (last (written.reducer r ns)) ≡ r
read_reducer (Operator at op class) ns = rw part_end
read_reducer (Function at sub x y) ns =
    let a = written.scalar x ns in
    rw (part_end, kept (grow (node.Scalar x) ns) (grow (node.Scalar y) a), part_end, part_end)

mutual
  pub read_expr : (x : Expr) (ns : List Node) → part_at (written.expr x ns) (last (written.expr x ns)) ≡ AnExpr x
  read_expr (Static at z literal mentions) ns =
      let a = written.exprs mentions ns in
      rw (part_end, read_exprs mentions ns)
  read_expr (Variable at root s scalar) ns = let a = written.selections s ns in rw (part_end, read_selections s ns)
  read_expr (Constant at root s scalar) ns = let a = written.selections s ns in rw (part_end, read_selections s ns)
  read_expr (Parameter at parameter) ns = rw part_end
  read_expr (Target at scalar) ns = rw part_end
  read_expr (Group e) ns = let a = written.expr e ns in rw (part_end, read_expr e ns)
  read_expr (Unary at sign class e) ns = let a = written.expr e ns in rw (part_end, read_expr e ns)
  read_expr (Binary at op class e f) ns =
      let a = written.expr e ns in
      let b = written.expr f a in
      rw (part_end, kept (grown_expr e ns) (grown_expr f a), read_expr e ns, read_expr f a)
  read_expr (AndThen e f) ns =
      let a = written.expr e ns in
      let b = written.expr f a in
      rw (part_end, kept (grown_expr e ns) (grown_expr f a), read_expr e ns, read_expr f a)
  read_expr (OrElse e f) ns =
      let a = written.expr e ns in
      let b = written.expr f a in
      rw (part_end, kept (grown_expr e ns) (grown_expr f a), read_expr e ns, read_expr f a)
  read_expr (Relation class comparison e f) ns =
      let a = written.expr e ns in
      let b = written.expr f a in
      rw (part_end, kept (grown_expr e ns) (grown_expr f a), read_expr e ns, read_expr f a)
  read_expr (Membership class negated e low high) ns =
      let a = written.expr e ns in
      let b = written.expr low a in
      let c = written.expr high b in
      rw (part_end, kept (grown_expr e ns) (grown_expr low a then grown_expr high b), kept (grown_expr low a) (grown_expr high b), read_expr e ns, read_expr low a, read_expr high b)
  read_expr (If condition e f) ns =
      let a = written.expr condition ns in
      let b = written.expr e a in
      let c = written.expr f b in
      rw (part_end, kept (grown_expr condition ns) (grown_expr e a then grown_expr f b), kept (grown_expr e a) (grown_expr f b), read_expr condition ns, read_expr e a, read_expr f b)
  read_expr (Call at callee sub actuals') ns =
      let a = written.actuals actuals' ns in
      rw (part_end, read_actuals actuals' ns)
  read_expr (Convert check e) ns = let a = written.expr e ns in rw (part_end, read_expr e ns)
  read_expr (Reduction at attribute by initial site chunk' iteration' e) ns =
      let a = written.chunk chunk' ns in
      let b = written.iteration iteration' a in
      let c = written.expr e b in
      let d = written.reducer by c in
      let g = written.expr initial d in
      rw (part_end, kept (grown_chunk chunk' ns) (grown_iteration iteration' a then grown_expr e b then grown_reducer by c then grown_expr initial d), kept (grown_iteration iteration' a) (grown_expr e b then grown_reducer by c then grown_expr initial d), kept (grown_expr e b) (grown_reducer by c then grown_expr initial d), kept (grown_reducer by c) (grown_expr initial d), read_chunk chunk' ns, read_iteration iteration' a, read_expr e b, read_reducer by c, read_expr initial d)

  pub read_exprs : (x : Exprs) (ns : List Node) → exprs_at (written.exprs x ns) (last (written.exprs x ns)) ≡ x
  read_exprs NoExpr ns = rw part_end
  read_exprs (AlsoExpr e rest) ns =
      let a = written.expr e ns in
      rw (part_end, kept (grown_expr e ns) (grown_exprs rest a), read_expr e ns, read_exprs rest a)

  pub read_optional : (x : Optional) (ns : List Node) → optional_at (written.optional x ns) (last (written.optional x ns)) ≡ x
  read_optional Absent ns = rw part_end
  read_optional (Present e) ns = rw (read_expr e ns)

  pub read_selections : (x : Selections) (ns : List Node) → selections_at (written.selections x ns) (last (written.selections x ns)) ≡ x
  read_selections Whole ns = rw part_end
  read_selections (Field number offset rest) ns =
      let a = put (node.Selection (selection-node.Field number offset)) ns in
      rw (part_end, kept (grow (node.Selection (selection-node.Field number offset)) ns) (grown_selections rest a), part_end, read_selections rest a)
  read_selections (Index at e low high stride rest) ns =
      let a = written.expr e ns in
      let b = put (node.Selection (selection-node.Index at (last a) low high stride)) a in
      rw (part_end, kept (grow (node.Selection (selection-node.Index at (last a) low high stride)) a) (grown_selections rest b), part_end, read_expr e ns, read_selections rest b)

  pub read_actuals : (x : Actuals) (ns : List Node) → actuals_at (written.actuals x ns) (last (written.actuals x ns)) ≡ x
  read_actuals NoActual ns = rw part_end
  read_actuals (In formal v rest) ns =
      let a = written.value v ns in
      let b = put (node.Actual (actual-node.In formal (last a))) a in
      rw (part_end, kept (grow (node.Actual (actual-node.In formal (last a))) a) (grown_actuals rest b), part_end, read_value v ns, read_actuals rest b)
  read_actuals (InOut formal at root s inner outer rest) ns =
      let a = written.selections s ns in
      let b = written.scalar inner a in
      let c = written.scalar outer b in
      let d = put (node.Actual (actual-node.InOut formal at root (last a) (last b) (last c))) c in
      rw (part_end, kept (grow (node.Actual (actual-node.InOut formal at root (last a) (last b) (last c))) c) (grown_actuals rest d), part_end, kept (grown_selections s ns) (grown_scalar inner a then grown_scalar outer b), kept (grown_scalar inner a) (grown_scalar outer b), read_selections s ns, read_scalar inner a, read_scalar outer b, read_actuals rest d)
  read_actuals (Out formal at root s inner outer rest) ns =
      let a = written.selections s ns in
      let b = written.scalar inner a in
      let c = written.scalar outer b in
      let d = put (node.Actual (actual-node.Out formal at root (last a) (last b) (last c))) c in
      rw (part_end, kept (grow (node.Actual (actual-node.Out formal at root (last a) (last b) (last c))) c) (grown_actuals rest d), part_end, kept (grown_selections s ns) (grown_scalar inner a then grown_scalar outer b), kept (grown_scalar inner a) (grown_scalar outer b), read_selections s ns, read_scalar inner a, read_scalar outer b, read_actuals rest d)
  read_actuals (CompositeInOut formal at root s subtype rest) ns =
      let a = written.selections s ns in
      let b = put (node.Actual (actual-node.CompositeInOut formal at root (last a) subtype)) a in
      rw (part_end, kept (grow (node.Actual (actual-node.CompositeInOut formal at root (last a) subtype)) a) (grown_actuals rest b), part_end, read_selections s ns, read_actuals rest b)
  read_actuals (CompositeOut formal at root s subtype rest) ns =
      let a = written.selections s ns in
      let b = put (node.Actual (actual-node.CompositeOut formal at root (last a) subtype)) a in
      rw (part_end, kept (grow (node.Actual (actual-node.CompositeOut formal at root (last a) subtype)) a) (grown_actuals rest b), part_end, read_selections s ns, read_actuals rest b)

  pub read_value : (x : Value) (ns : List Node) → value_at (written.value x ns) (last (written.value x ns)) ≡ x
  read_value (Number check e) ns = let a = written.expr e ns in rw (part_end, read_expr e ns)
  read_value (Cells c) ns = let a = written.composite c ns in rw (part_end, read_composite c ns)

  pub read_composite : (x : Composite) (ns : List Node) → composite_at (written.composite x ns) (last (written.composite x ns)) ≡ x
  read_composite (WholeVariable at root s subtype) ns =
      let a = written.selections s ns in
      rw (part_end, read_selections s ns)
  read_composite (WholeConstant at root s subtype) ns =
      let a = written.selections s ns in
      rw (part_end, read_selections s ns)
  read_composite (WholeTarget at subtype) ns = rw part_end
  read_composite (CompositeIf condition v w) ns =
      let a = written.expr condition ns in
      let b = written.composite v a in
      let c = written.composite w b in
      rw (part_end, kept (grown_expr condition ns) (grown_composite v a then grown_composite w b), kept (grown_composite v a) (grown_composite w b), read_expr condition ns, read_composite v a, read_composite w b)
  read_composite (Aggregate at cells associations') ns =
      let a = written.associations associations' ns in
      rw (part_end, read_associations associations' ns)

  pub read_associations : (x : Associations) (ns : List Node) → associations_at (written.associations x ns) (last (written.associations x ns)) ≡ x
  read_associations NoAssociation ns = rw part_end
  read_associations (Association rs iterated mentions v rest) ns =
      let a = written.runs rs ns in
      let b = written.exprs mentions a in
      let c = written.value v b in
      let d = put (node.Association (record { runs = last a; iterated = iterated; mentions = last b; value = last c })) c in
      rw (part_end, kept (grow (node.Association (record { runs = last a; iterated = iterated; mentions = last b; value = last c })) c) (grown_associations rest d), part_end, kept (grown_runs rs ns) (grown_exprs mentions a then grown_value v b), kept (grown_exprs mentions a) (grown_value v b), read_runs rs ns, read_exprs mentions a, read_value v b, read_associations rest d)

  pub read_iteration : (x : Iteration) (ns : List Node) → iteration_at (written.iteration x ns) (last (written.iteration x ns)) ≡ x
  read_iteration (Range parameter reverse low high check' filter) ns =
      let a = written.expr low ns in
      let b = written.expr high a in
      let c = written.check check' b in
      let d = written.optional filter c in
      rw (part_end, kept (grown_expr low ns) (grown_expr high a then grown_check check' b then grown_optional filter c), kept (grown_expr high a) (grown_check check' b then grown_optional filter c), kept (grown_check check' b) (grown_optional filter c), read_expr low ns, read_expr high a, read_check check' b, read_optional filter c)
  read_iteration (Components item constant at root s count stride dimensions filter) ns =
      let a = written.selections s ns in
      let b = written.optional filter a in
      rw (part_end, kept (grown_selections s ns) (grown_optional filter a), read_selections s ns, read_optional filter a)

  pub read_chunk : (x : Chunk) (ns : List Node) → chunk_at (written.chunk x ns) (last (written.chunk x ns)) ≡ x
  read_chunk NoChunk ns = rw part_end
  read_chunk (Count e) ns = let a = written.expr e ns in rw (part_end, read_expr e ns)
  read_chunk (Each parameter low high check') ns =
      let a = written.expr low ns in
      let b = written.expr high a in
      let c = written.check check' b in
      rw (part_end, kept (grown_expr low ns) (grown_expr high a then grown_check check' b), kept (grown_expr high a) (grown_check check' b), read_expr low ns, read_expr high a, read_check check' b)

pub read_pieces : (x : Pieces) (ns : List Node) → pieces_at (written.pieces x ns) (last (written.pieces x ns)) ≡ x
read_pieces NoPiece ns = rw part_end
read_pieces (Text bs rest) ns =
    let a = written.bytes bs ns in
    let b = put (node.Piece (piece-node.Text (last a))) a in
    rw (part_end, kept (grow (node.Piece (piece-node.Text (last a))) a) (grown_pieces rest b), part_end, read_bytes bs ns, read_pieces rest b)
read_pieces (Image class e rest) ns =
    let a = written.expr e ns in
    let b = put (node.Piece (piece-node.Image class (last a))) a in
    rw (part_end, kept (grow (node.Piece (piece-node.Image class (last a))) a) (grown_pieces rest b), part_end, read_expr e ns, read_pieces rest b)
read_pieces (Padded class e width rest) ns =
    let a = written.expr e ns in
    let b = written.expr width a in
    let c = put (node.Piece (piece-node.Padded class (last a) (last b))) b in
    rw (part_end, kept (grow (node.Piece (piece-node.Padded class (last a) (last b))) b) (grown_pieces rest c), part_end, kept (grown_expr e ns) (grown_expr width a), read_expr e ns, read_expr width a, read_pieces rest c)

pub read_decls : (x : Decls) (ns : List Node) → decls_at (written.decls x ns) (last (written.decls x ns)) ≡ x
read_decls NoDecl ns = rw part_end
read_decls (DeclareDefault object rest) ns =
    let a = put (node.Decl (decl-node.Default object)) ns in
    rw (part_end, kept (grow (node.Decl (decl-node.Default object)) ns) (grown_decls rest a), part_end, read_decls rest a)
read_decls (DeclareVariable object v rest) ns =
    let a = written.value v ns in
    let b = put (node.Decl (decl-node.Variable object (last a))) a in
    rw (part_end, kept (grow (node.Decl (decl-node.Variable object (last a))) a) (grown_decls rest b), part_end, read_value v ns, read_decls rest b)
read_decls (DeclareConstant object v rest) ns =
    let a = written.value v ns in
    let b = put (node.Decl (decl-node.Constant object (last a))) a in
    rw (part_end, kept (grow (node.Decl (decl-node.Constant object (last a))) a) (grown_decls rest b), part_end, read_value v ns, read_decls rest b)
read_decls (Mentions es rest) ns =
    let a = written.exprs es ns in
    let b = put (node.Decl (decl-node.Mentions (last a))) a in
    rw (part_end, kept (grow (node.Decl (decl-node.Mentions (last a))) a) (grown_decls rest b), part_end, read_exprs es ns, read_decls rest b)

mutual
  pub read_stmt : (x : Stmt) (ns : List Node) → stmt_at (written.stmt x ns) (last (written.stmt x ns)) ≡ x
  read_stmt Null ns = rw part_end
  read_stmt (Assign at root s v) ns =
      let a = written.selections s ns in
      let b = written.value v a in
      rw (part_end, kept (grown_selections s ns) (grown_value v a), read_selections s ns, read_value v a)
  read_stmt (CallProcedure at callee sub actuals') ns =
      let a = written.actuals actuals' ns in
      rw (part_end, read_actuals actuals' ns)
  read_stmt (Exit from condition) ns =
      let a = written.optional condition ns in
      rw (part_end, read_optional condition ns)
  read_stmt Return ns = rw part_end
  read_stmt (ReturnValue v) ns = let a = written.value v ns in rw (part_end, read_value v ns)
  read_stmt (Raise reason) ns = rw part_end
  read_stmt Reraise ns = rw part_end
  read_stmt (IfThen condition ss otherwise) ns =
      let a = written.expr condition ns in
      let b = written.stmts ss a in
      let c = written.stmts otherwise b in
      rw (part_end, kept (grown_expr condition ns) (grown_stmts ss a then grown_stmts otherwise b), kept (grown_stmts ss a) (grown_stmts otherwise b), read_expr condition ns, read_stmts ss a, read_stmts otherwise b)
  read_stmt (Case e alternatives') ns =
      let a = written.expr e ns in
      let b = written.alternatives alternatives' a in
      rw (part_end, kept (grown_expr e ns) (grown_alternatives alternatives' a), read_expr e ns, read_alternatives alternatives' a)
  read_stmt (Loop number condition ss) ns =
      let a = written.optional condition ns in
      let b = written.stmts ss a in
      rw (part_end, kept (grown_optional condition ns) (grown_stmts ss a), read_optional condition ns, read_stmts ss a)
  read_stmt (For number iteration' ss) ns =
      let a = written.iteration iteration' ns in
      let b = written.stmts ss a in
      rw (part_end, kept (grown_iteration iteration' ns) (grown_stmts ss a), read_iteration iteration' ns, read_stmts ss a)
  read_stmt (ParallelFor number site chunk' iteration' ss) ns =
      let a = written.chunk chunk' ns in
      let b = written.iteration iteration' a in
      let c = written.stmts ss b in
      rw (part_end, kept (grown_chunk chunk' ns) (grown_iteration iteration' a then grown_stmts ss b), kept (grown_iteration iteration' a) (grown_stmts ss b), read_chunk chunk' ns, read_iteration iteration' a, read_stmts ss b)
  read_stmt (Parallel site count arms') ns =
      let a = written.optional count ns in
      let b = written.arms arms' a in
      rw (part_end, kept (grown_optional count ns) (grown_arms arms' a), read_optional count ns, read_arms arms' a)
  read_stmt (Block decls' ss handlers') ns =
      let a = written.decls decls' ns in
      let b = written.stmts ss a in
      let c = written.handlers handlers' b in
      rw (part_end, kept (grown_decls decls' ns) (grown_stmts ss a then grown_handlers handlers' b), kept (grown_stmts ss a) (grown_handlers handlers' b), read_decls decls' ns, read_stmts ss a, read_handlers handlers' b)
  read_stmt (Put at callee pieces' line) ns = let a = written.pieces pieces' ns in rw (part_end, read_pieces pieces' ns)
  read_stmt (Get at callee first root s scalar) ns =
      let a = written.selections s ns in
      rw (part_end, read_selections s ns)

  pub read_stmts : (x : Stmts) (ns : List Node) → stmts_at (written.stmts x ns) (last (written.stmts x ns)) ≡ x
  read_stmts End ns = rw part_end
  read_stmts (Then s rest) ns =
      let a = written.stmt s ns in
      rw (part_end, kept (grown_stmt s ns) (grown_stmts rest a), read_stmt s ns, read_stmts rest a)

  pub read_alternatives : (x : Alternatives) (ns : List Node) → alternatives_at (written.alternatives x ns) (last (written.alternatives x ns)) ≡ x
  read_alternatives NoAlternative ns = rw part_end
  read_alternatives (Alternative others choices mentions ss rest) ns =
      let a = written.spans choices ns in
      let b = written.exprs mentions a in
      let c = written.stmts ss b in
      let d = put (node.Alternative (record { others = others; choices = last a; mentions = last b; stmts = last c })) c in
      rw (part_end, kept (grow (node.Alternative (record { others = others; choices = last a; mentions = last b; stmts = last c })) c) (grown_alternatives rest d), part_end, kept (grown_spans choices ns) (grown_exprs mentions a then grown_stmts ss b), kept (grown_exprs mentions a) (grown_stmts ss b), read_spans choices ns, read_exprs mentions a, read_stmts ss b, read_alternatives rest d)

  pub read_arms : (x : Arms) (ns : List Node) → arms_at (written.arms x ns) (last (written.arms x ns)) ≡ x
  read_arms NoArm ns = rw part_end
  read_arms (Arm ss rest) ns =
      let a = written.stmts ss ns in
      rw (part_end, kept (grown_stmts ss ns) (grown_arms rest a), read_stmts ss ns, read_arms rest a)

  pub read_handlers : (x : Handlers) (ns : List Node) → handlers_at (written.handlers x ns) (last (written.handlers x ns)) ≡ x
  read_handlers NoHandler ns = rw part_end
  read_handlers (Handler Others ss rest) ns =
      let a = written.stmts ss ns in
      let b = put (node.Handler (handler-node.Others (last a))) a in
      rw (part_end, kept (grow (node.Handler (handler-node.Others (last a))) a) (grown_handlers rest b), part_end, read_stmts ss ns, read_handlers rest b)
  read_handlers (Handler (Reasons rs) ss rest) ns =
      let a = written.reasons rs ns in
      let b = written.stmts ss a in
      let c = put (node.Handler (handler-node.Reasons (last a) (last b))) b in
      rw (part_end, kept (grow (node.Handler (handler-node.Reasons (last a) (last b))) b) (grown_handlers rest c), part_end, kept (grown_reasons rs ns) (grown_stmts ss a), read_reasons rs ns, read_stmts ss a, read_handlers rest c)

pub read_body : (x : Body) (ns : List Node) → body_at (written.body x ns) (last (written.body x ns)) ≡ x
read_body x ns =
    let a = written.decls x.decls ns in let b = written.stmts x.stmts a in
    rw (part_end, kept (grown_decls x.decls ns) (grown_stmts x.stmts a then grown_handlers x.handlers b), kept (grown_stmts x.stmts a) (grown_handlers x.handlers b), read_decls x.decls ns, read_stmts x.stmts a, read_handlers x.handlers b)
