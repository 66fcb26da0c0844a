-- What is written keeps the order of a table.
use Rattle.std.specs.Prelude.{◌≡◌, ℕ, ◌+◌, List, [], ◌∷◌, ◌++◌, length, map, Option, Some, None}
use Rattle.std.proofs.Common.{subst, arith}
use Rattle.ada_base.specs.declared.reason.Reason.{Reason}
use Rattle.typed_tree.specs.declared.scalars.Check.{Check}
use Rattle.typed_tree.specs.declared.scalars.Scalar.{Scalar}
use Rattle.typed_tree.specs.declared.expressions.Run.{Run}
use Rattle.typed_tree.specs.declared.expressions.Reducer.{Reducer}
use Rattle.typed_tree.specs.declared.expressions.Reducer.TheVariants.{Operator, Function}
use Rattle.typed_tree.specs.declared.statements.Span.{Span}
use Rattle.typed_tree.specs.declared.node.Fold.TheVariants as fold-node
use Rattle.typed_tree.specs.declared.node.Leaf.{Leaf}
use Rattle.typed_tree.specs.declared.node.Leaf.TheVariants as leaf
use Rattle.typed_tree.specs.declared.node.Node.{Node}
use Rattle.typed_tree.specs.declared.expressions.Expr.TheVariants as expr-node
use Rattle.typed_tree.specs.declared.expressions.Selection.TheVariants as selection-node
use Rattle.typed_tree.specs.declared.expressions.Actual.TheVariants as actual-node
use Rattle.typed_tree.specs.declared.expressions.Value.TheVariants as value-node
use Rattle.typed_tree.specs.declared.expressions.Composite.TheVariants as composite-node
use Rattle.typed_tree.specs.declared.expressions.Iteration.TheVariants as iteration-node
use Rattle.typed_tree.specs.declared.expressions.Chunk.TheVariants as chunk-node
use Rattle.typed_tree.specs.declared.statements.Stmt.TheVariants as stmt-node
use Rattle.typed_tree.specs.declared.statements.Handler.TheVariants as handler-node
use Rattle.typed_tree.specs.declared.statements.Decl.TheVariants as decl-node
use Rattle.typed_tree.specs.declared.statements.Piece.TheVariants as piece-node
use Rattle.typed_tree.specs.declared.node.Node.TheVariants as node
use Rattle.typed_tree.specs.Syntax.{Expr, Static, Variable, Constant, Parameter, Target, Group, Unary, Binary, AndThen, OrElse, Relation, Membership, If, Call, Convert, Reduction, Exprs, NoExpr, AlsoExpr, Optional, Absent, Present, Selections, Whole, Field, Index, Actuals, NoActual, In, InOut, Out, CompositeInOut, CompositeOut, Value, Number, Cells, Composite, WholeVariable, WholeConstant, WholeTarget, CompositeIf, Aggregate, Associations, NoAssociation, Association, Iteration, Range, Components, Chunk, NoChunk, Count, Each, Pieces, NoPiece, Text, Image, Padded, Others, Reasons, Decls, NoDecl, DeclareDefault, DeclareVariable, DeclareConstant, Mentions, Stmt, Null, Assign, CallProcedure, Exit, Return, ReturnValue, Raise, Reraise, IfThen, Case, Loop, For, ParallelFor, Parallel, Block, Put, Get, Stmts, End, Then, Alternatives, NoAlternative, Alternative, Arms, NoArm, Arm, Handlers, NoHandler, Handler, Body}
use Rattle.typed_tree.specs.Ordered.{IsOrdered, OrderedFrom, NodeBelow}
use Rattle.typed_tree.specs.Written as written
use Rattle.typed_tree.specs.Written.{put, last, leaves}
use Rattle.typed_tree.proofs.Growing.{grow, ◌then◌, under, under_last, grown_leaves, grown_bytes, grown_runs, grown_spans, grown_reasons, grown_scalar, grown_check, grown_reducer, grown_expr, grown_exprs, grown_optional, grown_selections, grown_actuals, grown_value, grown_composite, grown_associations, grown_iteration, grown_chunk, grown_pieces, grown_decls, grown_stmt, grown_stmts, grown_alternatives, grown_arms, grown_handlers}

ordered_append : (ns : List Node) (b : ℕ) (n : Node) → OrderedFrom b ns → NodeBelow (b + length ns) n → OrderedFrom b (ns ++ n ∷ [])
ordered_append [] b n o h = let z : b + 0 ≡ b = omega arith in (subst (λ x. NodeBelow x n) z h, tt)
ordered_append (m ∷ ns) b n o h =
    let z : b + length (m ∷ ns) ≡ (b + 1) + length ns = omega arith in
    (o.0, ordered_append ns (b + 1) n o.1 (subst (λ x. NodeBelow x n) z h))

pub ordered_put : (n : Node) (ns : List Node) → IsOrdered ns → NodeBelow (length ns) n → IsOrdered (put n ns)
unfolding put IsOrdered
ordered_put n ns o h =
    let z : length ns ≡ 0 + length ns = omega arith in
    ordered_append ns 0 n o (subst (λ x. NodeBelow x n) z h)

pub ordered_none : IsOrdered []
unfolding IsOrdered
ordered_none = tt

pub ordered_leaves : (ls : List Leaf) (ns : List Node) → IsOrdered ns → IsOrdered (leaves ls ns)
ordered_leaves [] ns o = ordered_put _ ns o tt
ordered_leaves (l ∷ ls) ns o =
    let a = leaves ls ns in
    ordered_put (node.Leaf l (last a)) a (ordered_leaves ls ns o) (under_last (grown_leaves ls ns))

pub ordered_bytes : (xs : List ℕ) (ns : List Node) → IsOrdered ns → IsOrdered (written.bytes xs ns)
ordered_bytes xs ns o = ordered_leaves (map leaf.Byte xs) ns o

pub ordered_runs : (xs : List Run) (ns : List Node) → IsOrdered ns → IsOrdered (written.runs xs ns)
ordered_runs xs ns o = ordered_leaves (map leaf.Run xs) ns o

pub ordered_spans : (xs : List Span) (ns : List Node) → IsOrdered ns → IsOrdered (written.spans xs ns)
ordered_spans xs ns o = ordered_leaves (map leaf.Span xs) ns o

pub ordered_reasons : (xs : List Reason) (ns : List Node) → IsOrdered ns → IsOrdered (written.reasons xs ns)
ordered_reasons xs ns o = ordered_leaves (map leaf.Reason xs) ns o

pub ordered_scalar : (s : Scalar) (ns : List Node) → IsOrdered ns → IsOrdered (written.scalar s ns)
ordered_scalar s ns o = ordered_put _ ns o tt

pub ordered_check : (c : Option Check) (ns : List Node) → IsOrdered ns → IsOrdered (written.check c ns)
ordered_check None ns o = ordered_put _ ns o tt
ordered_check (Some c) ns o = ordered_put _ ns o tt

pub ordered_reducer : (r : Reducer) (ns : List Node) → IsOrdered ns → IsOrdered (written.reducer r ns)
ordered_reducer (Operator at op class) ns o = ordered_put _ ns o tt
ordered_reducer (Function at sub x y) ns o =
    let a = written.scalar x ns in
    let b = written.scalar y a in
    ordered_put (node.Fold (fold-node.Function at sub (last a) (last b))) b (ordered_scalar y a (ordered_scalar x ns o)) (under (grown_scalar x ns) (grown_scalar y a), under_last (grown_scalar y a))

mutual
  pub ordered_expr : (x : Expr) (ns : List Node) → IsOrdered ns → IsOrdered (written.expr x ns)
  ordered_expr (Static at z literal mentions) ns o =
      let a = written.exprs mentions ns in
      ordered_put (node.Expr (expr-node.Static at z literal (last a))) a (ordered_exprs mentions ns o) (under_last (grown_exprs mentions ns))
  ordered_expr (Variable at root s scalar) ns o =
      let a = written.selections s ns in
      ordered_put (node.Expr (expr-node.Variable at root (last a) scalar)) a (ordered_selections s ns o) (under_last (grown_selections s ns))
  ordered_expr (Constant at root s scalar) ns o =
      let a = written.selections s ns in
      ordered_put (node.Expr (expr-node.Constant at root (last a) scalar)) a (ordered_selections s ns o) (under_last (grown_selections s ns))
  ordered_expr (Parameter at parameter) ns o = ordered_put _ ns o tt
  ordered_expr (Target at scalar) ns o = ordered_put _ ns o tt
  ordered_expr (Group e) ns o =
      let a = written.expr e ns in
      ordered_put (node.Expr (expr-node.Group (last a))) a (ordered_expr e ns o) (under_last (grown_expr e ns))
  ordered_expr (Unary at sign class e) ns o =
      let a = written.expr e ns in
      ordered_put (node.Expr (expr-node.Unary at sign class (last a))) a (ordered_expr e ns o) (under_last (grown_expr e ns))
  ordered_expr (Binary at op class e f) ns o =
      let a = written.expr e ns in
      let b = written.expr f a in
      ordered_put (node.Expr (expr-node.Binary at op class (last a) (last b))) b (ordered_expr f a (ordered_expr e ns o)) (under (grown_expr e ns) (grown_expr f a), under_last (grown_expr f a))
  ordered_expr (AndThen e f) ns o =
      let a = written.expr e ns in
      let b = written.expr f a in
      ordered_put (node.Expr (expr-node.AndThen (last a) (last b))) b (ordered_expr f a (ordered_expr e ns o)) (under (grown_expr e ns) (grown_expr f a), under_last (grown_expr f a))
  ordered_expr (OrElse e f) ns o =
      let a = written.expr e ns in
      let b = written.expr f a in
      ordered_put (node.Expr (expr-node.OrElse (last a) (last b))) b (ordered_expr f a (ordered_expr e ns o)) (under (grown_expr e ns) (grown_expr f a), under_last (grown_expr f a))
  ordered_expr (Relation class comparison e f) ns o =
      let a = written.expr e ns in
      let b = written.expr f a in
      ordered_put (node.Expr (expr-node.Relation class comparison (last a) (last b))) b (ordered_expr f a (ordered_expr e ns o)) (under (grown_expr e ns) (grown_expr f a), under_last (grown_expr f a))
  ordered_expr (Membership class negated e low high) ns o =
      let a = written.expr e ns in
      let b = written.expr low a in
      let c = written.expr high b in
      ordered_put (node.Expr (expr-node.Membership class negated (last a) (last b) (last c))) c (ordered_expr high b (ordered_expr low a (ordered_expr e ns o))) (under (grown_expr e ns) (grown_expr low a then grown_expr high b), under (grown_expr low a) (grown_expr high b), under_last (grown_expr high b))
  ordered_expr (If condition e f) ns o =
      let a = written.expr condition ns in
      let b = written.expr e a in
      let c = written.expr f b in
      ordered_put (node.Expr (expr-node.If (last a) (last b) (last c))) c (ordered_expr f b (ordered_expr e a (ordered_expr condition ns o))) (under (grown_expr condition ns) (grown_expr e a then grown_expr f b), under (grown_expr e a) (grown_expr f b), under_last (grown_expr f b))
  ordered_expr (Call at callee sub actuals') ns o =
      let a = written.actuals actuals' ns in
      ordered_put (node.Expr (expr-node.Call at callee sub (last a))) a (ordered_actuals actuals' ns o) (under_last (grown_actuals actuals' ns))
  ordered_expr (Convert check e) ns o =
      let a = written.expr e ns in
      ordered_put (node.Expr (expr-node.Convert check (last a))) a (ordered_expr e ns o) (under_last (grown_expr e ns))
  ordered_expr (Reduction at attribute by initial site chunk' iteration' e) ns o =
      let a = written.chunk chunk' ns in
      let b = written.iteration iteration' a in
      let c = written.expr e b in
      let d = written.reducer by c in
      let g = written.expr initial d in
      ordered_put (node.Expr (expr-node.Reduction at attribute (last d) (last g) site (last a) (last b) (last c))) g (ordered_expr initial d (ordered_reducer by c (ordered_expr e b (ordered_iteration iteration' a (ordered_chunk chunk' ns o))))) (under (grown_reducer by c) (grown_expr initial d), under_last (grown_expr initial d), under (grown_chunk chunk' ns) (grown_iteration iteration' a then grown_expr e b then grown_reducer by c then grown_expr initial d), under (grown_iteration iteration' a) (grown_expr e b then grown_reducer by c then grown_expr initial d), under (grown_expr e b) (grown_reducer by c then grown_expr initial d))

  pub ordered_exprs : (x : Exprs) (ns : List Node) → IsOrdered ns → IsOrdered (written.exprs x ns)
  ordered_exprs NoExpr ns o = ordered_put _ ns o tt
  ordered_exprs (AlsoExpr e rest) ns o =
      let a = written.expr e ns in
      let b = written.exprs rest a in
      ordered_put (node.Cell (last a) (last b)) b (ordered_exprs rest a (ordered_expr e ns o)) (under (grown_expr e ns) (grown_exprs rest a), under_last (grown_exprs rest a))

  pub ordered_optional : (x : Optional) (ns : List Node) → IsOrdered ns → IsOrdered (written.optional x ns)
  ordered_optional Absent ns o = ordered_put _ ns o tt
  ordered_optional (Present e) ns o = ordered_expr e ns o

  pub ordered_selections : (x : Selections) (ns : List Node) → IsOrdered ns → IsOrdered (written.selections x ns)
  ordered_selections Whole ns o = ordered_put _ ns o tt
  ordered_selections (Field number offset rest) ns o =
      let a = put (node.Selection (selection-node.Field number offset)) ns in
      let b = written.selections rest a in
      ordered_put (node.Cell (last a) (last b)) b (ordered_selections rest a (ordered_put (node.Selection (selection-node.Field number offset)) ns o tt)) (under (grow (node.Selection (selection-node.Field number offset)) ns) (grown_selections rest a), under_last (grown_selections rest a))
  ordered_selections (Index at e low high stride rest) ns o =
      let a = written.expr e ns in
      let b = put (node.Selection (selection-node.Index at (last a) low high stride)) a in
      let c = written.selections rest b in
      ordered_put (node.Cell (last b) (last c)) c (ordered_selections rest b (ordered_put (node.Selection (selection-node.Index at (last a) low high stride)) a (ordered_expr e ns o) (under_last (grown_expr e ns)))) (under (grow (node.Selection (selection-node.Index at (last a) low high stride)) a) (grown_selections rest b), under_last (grown_selections rest b))

  pub ordered_actuals : (x : Actuals) (ns : List Node) → IsOrdered ns → IsOrdered (written.actuals x ns)
  ordered_actuals NoActual ns o = ordered_put _ ns o tt
  ordered_actuals (In formal v rest) ns o =
      let a = written.value v ns in
      let b = put (node.Actual (actual-node.In formal (last a))) a in
      let c = written.actuals rest b in
      ordered_put (node.Cell (last b) (last c)) c (ordered_actuals rest b (ordered_put (node.Actual (actual-node.In formal (last a))) a (ordered_value v ns o) (under_last (grown_value v ns)))) (under (grow (node.Actual (actual-node.In formal (last a))) a) (grown_actuals rest b), under_last (grown_actuals rest b))
  ordered_actuals (InOut formal at root s inner outer rest) ns o =
      let a = written.selections s ns in
      let b = written.scalar inner a in
      let c = written.scalar outer b in
      let d = put (node.Actual (actual-node.InOut formal at root (last a) (last b) (last c))) c in
      let g = written.actuals rest d in
      ordered_put (node.Cell (last d) (last g)) g (ordered_actuals rest d (ordered_put (node.Actual (actual-node.InOut formal at root (last a) (last b) (last c))) c (ordered_scalar outer b (ordered_scalar inner a (ordered_selections s ns o))) (under (grown_selections s ns) (grown_scalar inner a then grown_scalar outer b), under (grown_scalar inner a) (grown_scalar outer b), under_last (grown_scalar outer b)))) (under (grow (node.Actual (actual-node.InOut formal at root (last a) (last b) (last c))) c) (grown_actuals rest d), under_last (grown_actuals rest d))
  ordered_actuals (Out formal at root s inner outer rest) ns o =
      let a = written.selections s ns in
      let b = written.scalar inner a in
      let c = written.scalar outer b in
      let d = put (node.Actual (actual-node.Out formal at root (last a) (last b) (last c))) c in
      let g = written.actuals rest d in
      ordered_put (node.Cell (last d) (last g)) g (ordered_actuals rest d (ordered_put (node.Actual (actual-node.Out formal at root (last a) (last b) (last c))) c (ordered_scalar outer b (ordered_scalar inner a (ordered_selections s ns o))) (under (grown_selections s ns) (grown_scalar inner a then grown_scalar outer b), under (grown_scalar inner a) (grown_scalar outer b), under_last (grown_scalar outer b)))) (under (grow (node.Actual (actual-node.Out formal at root (last a) (last b) (last c))) c) (grown_actuals rest d), under_last (grown_actuals rest d))
  ordered_actuals (CompositeInOut formal at root s subtype rest) ns o =
      let a = written.selections s ns in
      let b = put (node.Actual (actual-node.CompositeInOut formal at root (last a) subtype)) a in
      let c = written.actuals rest b in
      ordered_put (node.Cell (last b) (last c)) c (ordered_actuals rest b (ordered_put (node.Actual (actual-node.CompositeInOut formal at root (last a) subtype)) a (ordered_selections s ns o) (under_last (grown_selections s ns)))) (under (grow (node.Actual (actual-node.CompositeInOut formal at root (last a) subtype)) a) (grown_actuals rest b), under_last (grown_actuals rest b))
  ordered_actuals (CompositeOut formal at root s subtype rest) ns o =
      let a = written.selections s ns in
      let b = put (node.Actual (actual-node.CompositeOut formal at root (last a) subtype)) a in
      let c = written.actuals rest b in
      ordered_put (node.Cell (last b) (last c)) c (ordered_actuals rest b (ordered_put (node.Actual (actual-node.CompositeOut formal at root (last a) subtype)) a (ordered_selections s ns o) (under_last (grown_selections s ns)))) (under (grow (node.Actual (actual-node.CompositeOut formal at root (last a) subtype)) a) (grown_actuals rest b), under_last (grown_actuals rest b))

  pub ordered_value : (x : Value) (ns : List Node) → IsOrdered ns → IsOrdered (written.value x ns)
  ordered_value (Number check e) ns o =
      let a = written.expr e ns in
      ordered_put (node.Value (value-node.Number check (last a))) a (ordered_expr e ns o) (under_last (grown_expr e ns))
  ordered_value (Cells c) ns o =
      let a = written.composite c ns in
      ordered_put (node.Value (value-node.Cells (last a))) a (ordered_composite c ns o) (under_last (grown_composite c ns))

  pub ordered_composite : (x : Composite) (ns : List Node) → IsOrdered ns → IsOrdered (written.composite x ns)
  ordered_composite (WholeVariable at root s subtype) ns o =
      let a = written.selections s ns in
      ordered_put (node.Composite (composite-node.WholeVariable at root (last a) subtype)) a (ordered_selections s ns o) (under_last (grown_selections s ns))
  ordered_composite (WholeConstant at root s subtype) ns o =
      let a = written.selections s ns in
      ordered_put (node.Composite (composite-node.WholeConstant at root (last a) subtype)) a (ordered_selections s ns o) (under_last (grown_selections s ns))
  ordered_composite (WholeTarget at subtype) ns o = ordered_put _ ns o tt
  ordered_composite (CompositeIf condition v w) ns o =
      let a = written.expr condition ns in
      let b = written.composite v a in
      let c = written.composite w b in
      ordered_put (node.Composite (composite-node.If (last a) (last b) (last c))) c (ordered_composite w b (ordered_composite v a (ordered_expr condition ns o))) (under (grown_expr condition ns) (grown_composite v a then grown_composite w b), under (grown_composite v a) (grown_composite w b), under_last (grown_composite w b))
  ordered_composite (Aggregate at cells associations') ns o =
      let a = written.associations associations' ns in
      ordered_put (node.Composite (composite-node.Aggregate at cells (last a))) a (ordered_associations associations' ns o) (under_last (grown_associations associations' ns))

  pub ordered_associations : (x : Associations) (ns : List Node) → IsOrdered ns → IsOrdered (written.associations x ns)
  ordered_associations NoAssociation ns o = ordered_put _ ns o tt
  ordered_associations (Association rs iterated mentions v rest) ns o =
      let a = written.runs rs ns in
      let b = written.exprs mentions a in
      let c = written.value v b in
      let d = put (node.Association (record { runs = last a; iterated = iterated; mentions = last b; value = last c })) c in
      let g = written.associations rest d in
      ordered_put (node.Cell (last d) (last g)) g (ordered_associations rest d (ordered_put (node.Association (record { runs = last a; iterated = iterated; mentions = last b; value = last c })) c (ordered_value v b (ordered_exprs mentions a (ordered_runs rs ns o))) (under (grown_runs rs ns) (grown_exprs mentions a then grown_value v b), under (grown_exprs mentions a) (grown_value v b), under_last (grown_value v b)))) (under (grow (node.Association (record { runs = last a; iterated = iterated; mentions = last b; value = last c })) c) (grown_associations rest d), under_last (grown_associations rest d))

  pub ordered_iteration : (x : Iteration) (ns : List Node) → IsOrdered ns → IsOrdered (written.iteration x ns)
  ordered_iteration (Range parameter reverse low high check' filter) ns o =
      let a = written.expr low ns in
      let b = written.expr high a in
      let c = written.check check' b in
      let d = written.optional filter c in
      ordered_put (node.Iteration (iteration-node.Range parameter reverse (last a) (last b) (last c) (last d))) d (ordered_optional filter c (ordered_check check' b (ordered_expr high a (ordered_expr low ns o)))) (under (grown_expr low ns) (grown_expr high a then grown_check check' b then grown_optional filter c), under (grown_expr high a) (grown_check check' b then grown_optional filter c), under (grown_check check' b) (grown_optional filter c), under_last (grown_optional filter c))
  ordered_iteration (Components item constant at root s count stride dimensions filter) ns o =
      let a = written.selections s ns in
      let b = written.optional filter a in
      ordered_put (node.Iteration (iteration-node.Components item constant at root (last a) count stride dimensions (last b))) b (ordered_optional filter a (ordered_selections s ns o)) (under (grown_selections s ns) (grown_optional filter a), under_last (grown_optional filter a))

  pub ordered_chunk : (x : Chunk) (ns : List Node) → IsOrdered ns → IsOrdered (written.chunk x ns)
  ordered_chunk NoChunk ns o = ordered_put _ ns o tt
  ordered_chunk (Count e) ns o =
      let a = written.expr e ns in
      ordered_put (node.Chunk (chunk-node.Count (last a))) a (ordered_expr e ns o) (under_last (grown_expr e ns))
  ordered_chunk (Each parameter low high check') ns o =
      let a = written.expr low ns in
      let b = written.expr high a in
      let c = written.check check' b in
      ordered_put (node.Chunk (chunk-node.Each parameter (last a) (last b) (last c))) c (ordered_check check' b (ordered_expr high a (ordered_expr low ns o))) (under (grown_expr low ns) (grown_expr high a then grown_check check' b), under (grown_expr high a) (grown_check check' b), under_last (grown_check check' b))

pub ordered_pieces : (x : Pieces) (ns : List Node) → IsOrdered ns → IsOrdered (written.pieces x ns)
ordered_pieces NoPiece ns o = ordered_put _ ns o tt
ordered_pieces (Text bs rest) ns o =
    let a = written.bytes bs ns in
    let b = put (node.Piece (piece-node.Text (last a))) a in
    let c = written.pieces rest b in
    ordered_put (node.Cell (last b) (last c)) c (ordered_pieces rest b (ordered_put (node.Piece (piece-node.Text (last a))) a (ordered_bytes bs ns o) (under_last (grown_bytes bs ns)))) (under (grow (node.Piece (piece-node.Text (last a))) a) (grown_pieces rest b), under_last (grown_pieces rest b))
ordered_pieces (Image class e rest) ns o =
    let a = written.expr e ns in
    let b = put (node.Piece (piece-node.Image class (last a))) a in
    let c = written.pieces rest b in
    ordered_put (node.Cell (last b) (last c)) c (ordered_pieces rest b (ordered_put (node.Piece (piece-node.Image class (last a))) a (ordered_expr e ns o) (under_last (grown_expr e ns)))) (under (grow (node.Piece (piece-node.Image class (last a))) a) (grown_pieces rest b), under_last (grown_pieces rest b))
ordered_pieces (Padded class e width rest) ns o =
    let a = written.expr e ns in
    let b = written.expr width a in
    let c = put (node.Piece (piece-node.Padded class (last a) (last b))) b in
    let d = written.pieces rest c in
    ordered_put (node.Cell (last c) (last d)) d (ordered_pieces rest c (ordered_put (node.Piece (piece-node.Padded class (last a) (last b))) b (ordered_expr width a (ordered_expr e ns o)) (under (grown_expr e ns) (grown_expr width a), under_last (grown_expr width a)))) (under (grow (node.Piece (piece-node.Padded class (last a) (last b))) b) (grown_pieces rest c), under_last (grown_pieces rest c))

pub ordered_decls : (x : Decls) (ns : List Node) → IsOrdered ns → IsOrdered (written.decls x ns)
ordered_decls NoDecl ns o = ordered_put _ ns o tt
ordered_decls (DeclareDefault object rest) ns o =
    let a = put (node.Decl (decl-node.Default object)) ns in
    let b = written.decls rest a in
    ordered_put (node.Cell (last a) (last b)) b (ordered_decls rest a (ordered_put (node.Decl (decl-node.Default object)) ns o tt)) (under (grow (node.Decl (decl-node.Default object)) ns) (grown_decls rest a), under_last (grown_decls rest a))
ordered_decls (DeclareVariable object v rest) ns o =
    let a = written.value v ns in
    let b = put (node.Decl (decl-node.Variable object (last a))) a in
    let c = written.decls rest b in
    ordered_put (node.Cell (last b) (last c)) c (ordered_decls rest b (ordered_put (node.Decl (decl-node.Variable object (last a))) a (ordered_value v ns o) (under_last (grown_value v ns)))) (under (grow (node.Decl (decl-node.Variable object (last a))) a) (grown_decls rest b), under_last (grown_decls rest b))
ordered_decls (DeclareConstant object v rest) ns o =
    let a = written.value v ns in
    let b = put (node.Decl (decl-node.Constant object (last a))) a in
    let c = written.decls rest b in
    ordered_put (node.Cell (last b) (last c)) c (ordered_decls rest b (ordered_put (node.Decl (decl-node.Constant object (last a))) a (ordered_value v ns o) (under_last (grown_value v ns)))) (under (grow (node.Decl (decl-node.Constant object (last a))) a) (grown_decls rest b), under_last (grown_decls rest b))
ordered_decls (Mentions es rest) ns o =
    let a = written.exprs es ns in
    let b = put (node.Decl (decl-node.Mentions (last a))) a in
    let c = written.decls rest b in
    ordered_put (node.Cell (last b) (last c)) c (ordered_decls rest b (ordered_put (node.Decl (decl-node.Mentions (last a))) a (ordered_exprs es ns o) (under_last (grown_exprs es ns)))) (under (grow (node.Decl (decl-node.Mentions (last a))) a) (grown_decls rest b), under_last (grown_decls rest b))

mutual
  pub ordered_stmt : (x : Stmt) (ns : List Node) → IsOrdered ns → IsOrdered (written.stmt x ns)
  ordered_stmt Null ns o = ordered_put _ ns o tt
  ordered_stmt (Assign at root s v) ns o =
      let a = written.selections s ns in
      let b = written.value v a in
      ordered_put (node.Stmt (stmt-node.Assign at root (last a) (last b))) b (ordered_value v a (ordered_selections s ns o)) (under (grown_selections s ns) (grown_value v a), under_last (grown_value v a))
  ordered_stmt (CallProcedure at callee sub actuals') ns o =
      let a = written.actuals actuals' ns in
      ordered_put (node.Stmt (stmt-node.Call at callee sub (last a))) a (ordered_actuals actuals' ns o) (under_last (grown_actuals actuals' ns))
  ordered_stmt (Exit from condition) ns o =
      let a = written.optional condition ns in
      ordered_put (node.Stmt (stmt-node.Exit from (last a))) a (ordered_optional condition ns o) (under_last (grown_optional condition ns))
  ordered_stmt Return ns o = ordered_put _ ns o tt
  ordered_stmt (ReturnValue v) ns o =
      let a = written.value v ns in
      ordered_put (node.Stmt (stmt-node.ReturnValue (last a))) a (ordered_value v ns o) (under_last (grown_value v ns))
  ordered_stmt (Raise reason) ns o = ordered_put _ ns o tt
  ordered_stmt Reraise ns o = ordered_put _ ns o tt
  ordered_stmt (IfThen condition ss otherwise) ns o =
      let a = written.expr condition ns in
      let b = written.stmts ss a in
      let c = written.stmts otherwise b in
      ordered_put (node.Stmt (stmt-node.If (last a) (last b) (last c))) c (ordered_stmts otherwise b (ordered_stmts ss a (ordered_expr condition ns o))) (under (grown_expr condition ns) (grown_stmts ss a then grown_stmts otherwise b), under (grown_stmts ss a) (grown_stmts otherwise b), under_last (grown_stmts otherwise b))
  ordered_stmt (Case e alternatives') ns o =
      let a = written.expr e ns in
      let b = written.alternatives alternatives' a in
      ordered_put (node.Stmt (stmt-node.Case (last a) (last b))) b (ordered_alternatives alternatives' a (ordered_expr e ns o)) (under (grown_expr e ns) (grown_alternatives alternatives' a), under_last (grown_alternatives alternatives' a))
  ordered_stmt (Loop number condition ss) ns o =
      let a = written.optional condition ns in
      let b = written.stmts ss a in
      ordered_put (node.Stmt (stmt-node.Loop number (last a) (last b))) b (ordered_stmts ss a (ordered_optional condition ns o)) (under (grown_optional condition ns) (grown_stmts ss a), under_last (grown_stmts ss a))
  ordered_stmt (For number iteration' ss) ns o =
      let a = written.iteration iteration' ns in
      let b = written.stmts ss a in
      ordered_put (node.Stmt (stmt-node.For number (last a) (last b))) b (ordered_stmts ss a (ordered_iteration iteration' ns o)) (under (grown_iteration iteration' ns) (grown_stmts ss a), under_last (grown_stmts ss a))
  ordered_stmt (ParallelFor number site chunk' iteration' ss) ns o =
      let a = written.chunk chunk' ns in
      let b = written.iteration iteration' a in
      let c = written.stmts ss b in
      ordered_put (node.Stmt (stmt-node.ParallelFor number site (last a) (last b) (last c))) c (ordered_stmts ss b (ordered_iteration iteration' a (ordered_chunk chunk' ns o))) (under (grown_chunk chunk' ns) (grown_iteration iteration' a then grown_stmts ss b), under (grown_iteration iteration' a) (grown_stmts ss b), under_last (grown_stmts ss b))
  ordered_stmt (Parallel site count arms') ns o =
      let a = written.optional count ns in
      let b = written.arms arms' a in
      ordered_put (node.Stmt (stmt-node.Parallel site (last a) (last b))) b (ordered_arms arms' a (ordered_optional count ns o)) (under (grown_optional count ns) (grown_arms arms' a), under_last (grown_arms arms' a))
  ordered_stmt (Block decls' ss handlers') ns o =
      let a = written.decls decls' ns in
      let b = written.stmts ss a in
      let c = written.handlers handlers' b in
      ordered_put (node.Stmt (stmt-node.Block (last a) (last b) (last c))) c (ordered_handlers handlers' b (ordered_stmts ss a (ordered_decls decls' ns o))) (under (grown_decls decls' ns) (grown_stmts ss a then grown_handlers handlers' b), under (grown_stmts ss a) (grown_handlers handlers' b), under_last (grown_handlers handlers' b))
  ordered_stmt (Put at callee pieces' line) ns o =
      let a = written.pieces pieces' ns in
      ordered_put (node.Stmt (stmt-node.Put at callee (last a) line)) a (ordered_pieces pieces' ns o) (under_last (grown_pieces pieces' ns))
  ordered_stmt (Get at callee first root s scalar) ns o =
      let a = written.selections s ns in
      ordered_put (node.Stmt (stmt-node.Get at callee first root (last a) scalar)) a (ordered_selections s ns o) (under_last (grown_selections s ns))

  pub ordered_stmts : (x : Stmts) (ns : List Node) → IsOrdered ns → IsOrdered (written.stmts x ns)
  ordered_stmts End ns o = ordered_put _ ns o tt
  ordered_stmts (Then s rest) ns o =
      let a = written.stmt s ns in
      let b = written.stmts rest a in
      ordered_put (node.Cell (last a) (last b)) b (ordered_stmts rest a (ordered_stmt s ns o)) (under (grown_stmt s ns) (grown_stmts rest a), under_last (grown_stmts rest a))

  pub ordered_alternatives : (x : Alternatives) (ns : List Node) → IsOrdered ns → IsOrdered (written.alternatives x ns)
  ordered_alternatives NoAlternative ns o = ordered_put _ ns o tt
  ordered_alternatives (Alternative others choices mentions ss rest) ns o =
      let a = written.spans choices ns in
      let b = written.exprs mentions a in
      let c = written.stmts ss b in
      let d = put (node.Alternative (record { others = others; choices = last a; mentions = last b; stmts = last c })) c in
      let g = written.alternatives rest d in
      ordered_put (node.Cell (last d) (last g)) g (ordered_alternatives rest d (ordered_put (node.Alternative (record { others = others; choices = last a; mentions = last b; stmts = last c })) c (ordered_stmts ss b (ordered_exprs mentions a (ordered_spans choices ns o))) (under (grown_spans choices ns) (grown_exprs mentions a then grown_stmts ss b), under (grown_exprs mentions a) (grown_stmts ss b), under_last (grown_stmts ss b)))) (under (grow (node.Alternative (record { others = others; choices = last a; mentions = last b; stmts = last c })) c) (grown_alternatives rest d), under_last (grown_alternatives rest d))

  pub ordered_arms : (x : Arms) (ns : List Node) → IsOrdered ns → IsOrdered (written.arms x ns)
  ordered_arms NoArm ns o = ordered_put _ ns o tt
  ordered_arms (Arm ss rest) ns o =
      let a = written.stmts ss ns in
      let b = written.arms rest a in
      ordered_put (node.Cell (last a) (last b)) b (ordered_arms rest a (ordered_stmts ss ns o)) (under (grown_stmts ss ns) (grown_arms rest a), under_last (grown_arms rest a))

  pub ordered_handlers : (x : Handlers) (ns : List Node) → IsOrdered ns → IsOrdered (written.handlers x ns)
  ordered_handlers NoHandler ns o = ordered_put _ ns o tt
  ordered_handlers (Handler Others ss rest) ns o =
      let a = written.stmts ss ns in
      let b = put (node.Handler (handler-node.Others (last a))) a in
      let c = written.handlers rest b in
      ordered_put (node.Cell (last b) (last c)) c (ordered_handlers rest b (ordered_put (node.Handler (handler-node.Others (last a))) a (ordered_stmts ss ns o) (under_last (grown_stmts ss ns)))) (under (grow (node.Handler (handler-node.Others (last a))) a) (grown_handlers rest b), under_last (grown_handlers rest b))
  ordered_handlers (Handler (Reasons rs) ss rest) ns o =
      let a = written.reasons rs ns in
      let b = written.stmts ss a in
      let c = put (node.Handler (handler-node.Reasons (last a) (last b))) b in
      let d = written.handlers rest c in
      ordered_put (node.Cell (last c) (last d)) d (ordered_handlers rest c (ordered_put (node.Handler (handler-node.Reasons (last a) (last b))) b (ordered_stmts ss a (ordered_reasons rs ns o)) (under (grown_reasons rs ns) (grown_stmts ss a), under_last (grown_stmts ss a)))) (under (grow (node.Handler (handler-node.Reasons (last a) (last b))) b) (grown_handlers rest c), under_last (grown_handlers rest c))

pub ordered_body : (x : Body) (ns : List Node) → IsOrdered ns → IsOrdered (written.body x ns)
ordered_body x ns o =
    let a = written.decls x.decls ns in let b = written.stmts x.stmts a in let c = written.handlers x.handlers b in
    ordered_put _ c (ordered_handlers x.handlers b (ordered_stmts x.stmts a (ordered_decls x.decls ns o))) (under (grown_decls x.decls ns) (grown_stmts x.stmts a then grown_handlers x.handlers b), under (grown_stmts x.stmts a) (grown_handlers x.handlers b), under_last (grown_handlers x.handlers b))
