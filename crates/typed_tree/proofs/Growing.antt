-- What is written comes after what was there.
use Rattle.std.specs.Prelude.{◌≡◌, ℕ, ◌<◌, ◌-◌, List, [], ◌∷◌, ◌++◌, length, map, Option, Some, None}
use Rattle.std.proofs.Common.{refl, ap, ◌∙◌, arith}
use Rattle.std.proofs.lemmas.List.{length-append, append_assoc}
use Rattle.ada_base.specs.declared.reason.Reason.{Reason}
use Rattle.typed_tree.specs.declared.scalars.Check.{Check}
use Rattle.typed_tree.specs.declared.scalars.Scalar.{Scalar}
use Rattle.typed_tree.specs.declared.expressions.Run.{Run}
use Rattle.typed_tree.specs.declared.expressions.Reducer.{Reducer}
use Rattle.typed_tree.specs.declared.expressions.Reducer.TheVariants.{Operator, Function}
use Rattle.typed_tree.specs.declared.statements.Span.{Span}
use Rattle.typed_tree.specs.declared.node.Leaf.{Leaf}
use Rattle.typed_tree.specs.declared.node.Leaf.TheVariants as leaf
use Rattle.typed_tree.specs.declared.node.Node.{Node}
use Rattle.typed_tree.specs.Syntax.{Expr, Static, Variable, Constant, Parameter, Target, Group, Unary, Binary, AndThen, OrElse, Relation, Membership, If, Call, Convert, Reduction, Exprs, NoExpr, AlsoExpr, Optional, Absent, Present, Selections, Whole, Field, Index, Actuals, NoActual, In, InOut, Out, CompositeInOut, CompositeOut, Value, Number, Cells, Composite, WholeVariable, WholeConstant, WholeTarget, CompositeIf, Aggregate, Associations, NoAssociation, Association, Iteration, Range, Components, Chunk, NoChunk, Count, Each, Pieces, NoPiece, Text, Image, Padded, Others, Reasons, Decls, NoDecl, DeclareDefault, DeclareVariable, DeclareConstant, Mentions, Stmt, Null, Assign, CallProcedure, Exit, Return, ReturnValue, Raise, Reraise, IfThen, Case, Loop, For, ParallelFor, Parallel, Block, Put, Get, Stmts, End, Then, Alternatives, NoAlternative, Alternative, Arms, NoArm, Arm, Handlers, NoHandler, Handler, Body}
use Rattle.typed_tree.specs.Decoded.{of_node, part_at}
use Rattle.typed_tree.specs.Written as written
use Rattle.typed_tree.specs.Written.{put, last, leaves}
use Rattle.typed_tree.proofs.Reading.{part_stable, part_last}

-- the second table is the first and more
pub record Grown (ns ms : List Node) : Type 0 where
  pub more : List Node
  pub is : ms ≡ ns ++ more
  pub longer : length ns < length ms

pub grow : (n : Node) (ns : List Node) → Grown ns (put n ns)
unfolding put
grow n ns = record { more = n ∷ []; is = refl; longer = omega (arith, length-append ns (n ∷ [])) }

infixl 10 ◌then◌
pub ◌then◌ : {as' bs cs : List Node} → Grown as' bs → Grown bs cs → Grown as' cs
◌then◌ {as'} {bs} {cs} g h = record {
  more = g.more ++ h.more;
  is = h.is ∙ (ap (λ x. x ++ h.more) g.is ∙ append_assoc as' g.more h.more);
  longer = omega (arith, g.longer, h.longer);
}

-- the number of what was written last, in a table that has grown since
pub under : {as' bs cs : List Node} → Grown as' bs → Grown bs cs → last bs < length cs
unfolding last
under g h = omega (arith, g.longer, h.longer)

pub under_last : {as' bs : List Node} → Grown as' bs → last bs < length bs
unfolding last
under_last g = omega (arith, g.longer)

pub kept : {as' bs cs : List Node} → Grown as' bs → Grown bs cs → part_at cs (last bs) ≡ part_at bs (last bs)
kept {as'} {bs} {cs} g h = rw h.is (part_stable bs h.more (last bs) (under_last g))

pub part_end : (n : Node) (ns : List Node) → part_at (put n ns) (last (put n ns)) ≡ of_node (part_at ns) n
unfolding put last
part_end n ns =
    let e : length (ns ++ n ∷ []) - 1 ≡ length ns = omega (arith, length-append ns (n ∷ [])) in
    rw e (part_last ns n)

-- each part grows the table

pub grown_leaves : (ls : List Leaf) (ns : List Node) → Grown ns (leaves ls ns)
grown_leaves [] ns = grow _ ns
grown_leaves (l ∷ ls) ns = grown_leaves ls ns then grow _ _

pub grown_bytes : (bs : List ℕ) (ns : List Node) → Grown ns (written.bytes bs ns)
grown_bytes bs ns = grown_leaves (map leaf.Byte bs) ns

pub grown_runs : (rs : List Run) (ns : List Node) → Grown ns (written.runs rs ns)
grown_runs rs ns = grown_leaves (map leaf.Run rs) ns

pub grown_spans : (ss : List Span) (ns : List Node) → Grown ns (written.spans ss ns)
grown_spans ss ns = grown_leaves (map leaf.Span ss) ns

pub grown_reasons : (rs : List Reason) (ns : List Node) → Grown ns (written.reasons rs ns)
grown_reasons rs ns = grown_leaves (map leaf.Reason rs) ns

pub grown_scalar : (s : Scalar) (ns : List Node) → Grown ns (written.scalar s ns)
grown_scalar s ns = grow _ ns

pub grown_check : (c : Option Check) (ns : List Node) → Grown ns (written.check c ns)
grown_check None ns = grow _ ns
grown_check (Some c) ns = grow _ ns

pub grown_reducer : (r : Reducer) (ns : List Node) → Grown ns (written.reducer r ns)
grown_reducer (Operator at op class) ns = grow _ ns
grown_reducer (Function at sub x y) ns = grow _ ns then grow _ _ then grow _ _

mutual
  pub grown_expr : (x : Expr) (ns : List Node) → Grown ns (written.expr x ns)
  grown_expr (Static at z literal mentions) ns = grown_exprs mentions _ then grow _ _
  grown_expr (Variable at root s scalar) ns = grown_selections s _ then grow _ _
  grown_expr (Constant at root s scalar) ns = grown_selections s _ then grow _ _
  grown_expr (Parameter at parameter) ns = grow _ _
  grown_expr (Target at scalar) ns = grow _ _
  grown_expr (Group e) ns = grown_expr e _ then grow _ _
  grown_expr (Unary at sign class e) ns = grown_expr e _ then grow _ _
  grown_expr (Binary at op class e f) ns = grown_expr e _ then grown_expr f _ then grow _ _
  grown_expr (AndThen e f) ns = grown_expr e _ then grown_expr f _ then grow _ _
  grown_expr (OrElse e f) ns = grown_expr e _ then grown_expr f _ then grow _ _
  grown_expr (Relation class comparison e f) ns = grown_expr e _ then grown_expr f _ then grow _ _
  grown_expr (Membership class negated e low high) ns = grown_expr e _ then grown_expr low _ then grown_expr high _ then grow _ _
  grown_expr (If condition e f) ns = grown_expr condition _ then grown_expr e _ then grown_expr f _ then grow _ _
  grown_expr (Call at callee sub actuals') ns = grown_actuals actuals' _ then grow _ _
  grown_expr (Convert check e) ns = grown_expr e _ then grow _ _
  grown_expr (Reduction at attribute by initial site chunk' iteration' e) ns = grown_chunk chunk' _ then grown_iteration iteration' _ then grown_expr e _ then grown_reducer by _ then grown_expr initial _ then grow _ _

  pub grown_exprs : (x : Exprs) (ns : List Node) → Grown ns (written.exprs x ns)
  grown_exprs NoExpr ns = grow _ ns
  grown_exprs (AlsoExpr e rest) ns = grown_expr e _ then grown_exprs rest _ then grow _ _

  pub grown_optional : (x : Optional) (ns : List Node) → Grown ns (written.optional x ns)
  grown_optional Absent ns = grow _ ns
  grown_optional (Present e) ns = grown_expr e ns

  pub grown_selections : (x : Selections) (ns : List Node) → Grown ns (written.selections x ns)
  grown_selections Whole ns = grow _ ns
  grown_selections (Field number offset rest) ns = grow _ _ then grown_selections rest _ then grow _ _
  grown_selections (Index at e low high stride rest) ns = grown_expr e _ then grow _ _ then grown_selections rest _ then grow _ _

  pub grown_actuals : (x : Actuals) (ns : List Node) → Grown ns (written.actuals x ns)
  grown_actuals NoActual ns = grow _ ns
  grown_actuals (In formal v rest) ns = grown_value v _ then grow _ _ then grown_actuals rest _ then grow _ _
  grown_actuals (InOut formal at root s inner outer rest) ns = grown_selections s _ then grown_scalar inner _ then grown_scalar outer _ then grow _ _ then grown_actuals rest _ then grow _ _
  grown_actuals (Out formal at root s inner outer rest) ns = grown_selections s _ then grown_scalar inner _ then grown_scalar outer _ then grow _ _ then grown_actuals rest _ then grow _ _
  grown_actuals (CompositeInOut formal at root s subtype rest) ns = grown_selections s _ then grow _ _ then grown_actuals rest _ then grow _ _
  grown_actuals (CompositeOut formal at root s subtype rest) ns = grown_selections s _ then grow _ _ then grown_actuals rest _ then grow _ _

  pub grown_value : (x : Value) (ns : List Node) → Grown ns (written.value x ns)
  grown_value (Number check e) ns = grown_expr e _ then grow _ _
  grown_value (Cells c) ns = grown_composite c _ then grow _ _

  pub grown_composite : (x : Composite) (ns : List Node) → Grown ns (written.composite x ns)
  grown_composite (WholeVariable at root s subtype) ns = grown_selections s _ then grow _ _
  grown_composite (WholeConstant at root s subtype) ns = grown_selections s _ then grow _ _
  grown_composite (WholeTarget at subtype) ns = grow _ _
  grown_composite (CompositeIf condition v w) ns = grown_expr condition _ then grown_composite v _ then grown_composite w _ then grow _ _
  grown_composite (Aggregate at cells associations') ns = grown_associations associations' _ then grow _ _

  pub grown_associations : (x : Associations) (ns : List Node) → Grown ns (written.associations x ns)
  grown_associations NoAssociation ns = grow _ ns
  grown_associations (Association rs iterated mentions v rest) ns = grown_runs rs _ then grown_exprs mentions _ then grown_value v _ then grow _ _ then grown_associations rest _ then grow _ _

  pub grown_iteration : (x : Iteration) (ns : List Node) → Grown ns (written.iteration x ns)
  grown_iteration (Range parameter reverse low high check' filter) ns = grown_expr low _ then grown_expr high _ then grown_check check' _ then grown_optional filter _ then grow _ _
  grown_iteration (Components item constant at root s count stride dimensions filter) ns = grown_selections s _ then grown_optional filter _ then grow _ _

  pub grown_chunk : (x : Chunk) (ns : List Node) → Grown ns (written.chunk x ns)
  grown_chunk NoChunk ns = grow _ ns
  grown_chunk (Count e) ns = grown_expr e _ then grow _ _
  grown_chunk (Each parameter low high check') ns = grown_expr low _ then grown_expr high _ then grown_check check' _ then grow _ _

pub grown_pieces : (x : Pieces) (ns : List Node) → Grown ns (written.pieces x ns)
grown_pieces NoPiece ns = grow _ ns
grown_pieces (Text bs rest) ns = grown_bytes bs _ then grow _ _ then grown_pieces rest _ then grow _ _
grown_pieces (Image class e rest) ns = grown_expr e _ then grow _ _ then grown_pieces rest _ then grow _ _
grown_pieces (Padded class e width rest) ns = grown_expr e _ then grown_expr width _ then grow _ _ then grown_pieces rest _ then grow _ _

pub grown_decls : (x : Decls) (ns : List Node) → Grown ns (written.decls x ns)
grown_decls NoDecl ns = grow _ ns
grown_decls (DeclareDefault object rest) ns = grow _ _ then grown_decls rest _ then grow _ _
grown_decls (DeclareVariable object v rest) ns = grown_value v _ then grow _ _ then grown_decls rest _ then grow _ _
grown_decls (DeclareConstant object v rest) ns = grown_value v _ then grow _ _ then grown_decls rest _ then grow _ _
grown_decls (Mentions es rest) ns = grown_exprs es _ then grow _ _ then grown_decls rest _ then grow _ _

mutual
  pub grown_stmt : (x : Stmt) (ns : List Node) → Grown ns (written.stmt x ns)
  grown_stmt Null ns = grow _ _
  grown_stmt (Assign at root s v) ns = grown_selections s _ then grown_value v _ then grow _ _
  grown_stmt (CallProcedure at callee sub actuals') ns = grown_actuals actuals' _ then grow _ _
  grown_stmt (Exit from condition) ns = grown_optional condition _ then grow _ _
  grown_stmt Return ns = grow _ _
  grown_stmt (ReturnValue v) ns = grown_value v _ then grow _ _
  grown_stmt (Raise reason) ns = grow _ _
  grown_stmt Reraise ns = grow _ _
  grown_stmt (IfThen condition ss otherwise) ns = grown_expr condition _ then grown_stmts ss _ then grown_stmts otherwise _ then grow _ _
  grown_stmt (Case e alternatives') ns = grown_expr e _ then grown_alternatives alternatives' _ then grow _ _
  grown_stmt (Loop number condition ss) ns = grown_optional condition _ then grown_stmts ss _ then grow _ _
  grown_stmt (For number iteration' ss) ns = grown_iteration iteration' _ then grown_stmts ss _ then grow _ _
  grown_stmt (ParallelFor number site chunk' iteration' ss) ns = grown_chunk chunk' _ then grown_iteration iteration' _ then grown_stmts ss _ then grow _ _
  grown_stmt (Parallel site count arms') ns = grown_optional count _ then grown_arms arms' _ then grow _ _
  grown_stmt (Block decls' ss handlers') ns = grown_decls decls' _ then grown_stmts ss _ then grown_handlers handlers' _ then grow _ _
  grown_stmt (Put at callee pieces' line) ns = grown_pieces pieces' _ then grow _ _
  grown_stmt (Get at callee first root s scalar) ns = grown_selections s _ then grow _ _

  pub grown_stmts : (x : Stmts) (ns : List Node) → Grown ns (written.stmts x ns)
  grown_stmts End ns = grow _ ns
  grown_stmts (Then s rest) ns = grown_stmt s _ then grown_stmts rest _ then grow _ _

  pub grown_alternatives : (x : Alternatives) (ns : List Node) → Grown ns (written.alternatives x ns)
  grown_alternatives NoAlternative ns = grow _ ns
  grown_alternatives (Alternative others choices mentions ss rest) ns = grown_spans choices _ then grown_exprs mentions _ then grown_stmts ss _ then grow _ _ then grown_alternatives rest _ then grow _ _

  pub grown_arms : (x : Arms) (ns : List Node) → Grown ns (written.arms x ns)
  grown_arms NoArm ns = grow _ ns
  grown_arms (Arm ss rest) ns = grown_stmts ss _ then grown_arms rest _ then grow _ _

  pub grown_handlers : (x : Handlers) (ns : List Node) → Grown ns (written.handlers x ns)
  grown_handlers NoHandler ns = grow _ ns
  grown_handlers (Handler Others ss rest) ns = grown_stmts ss _ then grow _ _ then grown_handlers rest _ then grow _ _
  grown_handlers (Handler (Reasons rs) ss rest) ns = grown_reasons rs _ then grown_stmts ss _ then grow _ _ then grown_handlers rest _ then grow _ _

pub grown_body : (x : Body) (ns : List Node) → Grown ns (written.body x ns)
grown_body x ns = grown_decls x.decls ns then grown_stmts x.stmts _ then grown_handlers x.handlers _ then grow _ _
