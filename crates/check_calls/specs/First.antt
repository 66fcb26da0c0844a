-- The least call that breaks the rule on nonblocking text (9.5): the one whose name begins first in the text, among those
-- that were found before and those of a part. `b` tells of a place in the text whether calls that may block are allowed
-- there.
use Rattle.std.specs.Prelude.{ℕ, List, [], ◌∷◌, Option, Some, None, Bool, false, not, ◌&&◌, ◌||◌, cond, nat_lt, nat_eq}
use Rattle.typed_tree.specs.declared.expressions.Reducer.{Reducer}
use Rattle.typed_tree.specs.declared.expressions.Reducer.TheVariants.{Operator, Function}
use Rattle.typed_tree.specs.Syntax.{Expr, Static, Variable, Constant, Parameter, Target, Group, Unary, Binary, AndThen, OrElse, Relation, Membership, If, Call, Convert, Reduction, Exprs, NoExpr, AlsoExpr, Optional, Absent, Present, Selections, Whole, Field, Index, Actuals, NoActual, In, InOut, Out, CompositeInOut, CompositeOut, Value, Number, Cells, Composite, WholeVariable, WholeConstant, WholeTarget, CompositeIf, Aggregate, Associations, NoAssociation, Association, Iteration, Range, Components, Chunk, NoChunk, Count, Each, Pieces, NoPiece, Text, Image, Padded, Decls, NoDecl, DeclareDefault, DeclareVariable, DeclareConstant, Mentions, Stmt, Null, Assign, CallProcedure, Exit, Return, ReturnValue, Raise, Reraise, IfThen, Case, Loop, For, ParallelFor, Parallel, Block, Put, Get, Stmts, End, Then, Alternatives, NoAlternative, Alternative, Arms, NoArm, Arm, Handlers, NoHandler, Handler, Body, Sub, Program}
use Rattle.ada_meaning.specs.Nonblocking.{InSite, nonblocking_of}
use Rattle.check_calls.specs.declared.calls.Breach.{Breach}

-- whether one call stands before another: by the first tokens of their names, then by the last ones
abbrev pub is_before : Breach → Breach → Bool
is_before c d = nat_lt c.at d.at || (nat_eq c.at d.at && nat_lt c.callee d.callee)

abbrev pub least : Breach → Option Breach → Option Breach
least c None = Some c
least c (Some d) = cond (is_before c d) (Some c) (Some d)

-- a call of what may block
abbrev pub first_port : Bool → ℕ → ℕ → Option Breach → Option Breach
first_port b at callee found = cond b found (least (record { at = at; callee = callee }) found)

module _ (nonblocking : ℕ → Bool) where
  -- a call of a subprogram
  abbrev pub first_call : Bool → ℕ → ℕ → ℕ → Option Breach → Option Breach
  first_call b s at callee found = first_port (b || nonblocking s) at callee found

  abbrev pub first_reducer : Bool → Reducer → Option Breach → Option Breach
  first_reducer b (Operator at op class) found = found
  first_reducer b (Function at s accumulator value) found = first_call b s at at found

  unfoldable mutual
    pub first_expr : Expr → Bool → Option Breach → Option Breach
    first_expr (Static at value literal mentions) b found = first_exprs mentions b found
    first_expr (Variable at r selections scalar) b found = first_selections selections b found
    first_expr (Constant at r selections scalar) b found = first_selections selections b found
    first_expr (Parameter at k) b found = found
    first_expr (Target at scalar) b found = found
    first_expr (Group e) b found = first_expr e b found
    first_expr (Unary at s class e) b found = first_expr e b found
    first_expr (Binary at op class e f) b found = first_expr e b (first_expr f b found)
    first_expr (AndThen e f) b found = first_expr e b (first_expr f b found)
    first_expr (OrElse e f) b found = first_expr e b (first_expr f b found)
    first_expr (Relation class comparison e f) b found = first_expr e b (first_expr f b found)
    first_expr (Membership class negated e low high) b found = first_expr high b (first_expr low b (first_expr e b found))
    first_expr (If condition value otherwise) b found = first_expr otherwise b (first_expr value b (first_expr condition b found))
    first_expr (Call at callee s actuals) b found = first_actuals actuals b (first_call b s at callee found)
    first_expr (Convert check e) b found = first_expr e b found
    first_expr (Reduction at attribute by initial site chunk iteration value) b found = first_expr value (InSite nonblocking b site) (first_iteration iteration (InSite nonblocking b site) (first_chunk chunk (InSite nonblocking b site) (first_expr initial b (first_reducer (InSite nonblocking b site) by (first_reducer b by found)))))

    pub first_exprs : Exprs → Bool → Option Breach → Option Breach
    first_exprs NoExpr b found = found
    first_exprs (AlsoExpr e es) b found = first_exprs es b (first_expr e b found)

    pub first_optional : Optional → Bool → Option Breach → Option Breach
    first_optional Absent b found = found
    first_optional (Present e) b found = first_expr e b found

    pub first_selections : Selections → Bool → Option Breach → Option Breach
    first_selections Whole b found = found
    first_selections (Field number offset rest) b found = first_selections rest b found
    first_selections (Index at e low high stride rest) b found = first_selections rest b (first_expr e b found)

    pub first_actuals : Actuals → Bool → Option Breach → Option Breach
    first_actuals NoActual b found = found
    first_actuals (In formal value rest) b found = first_actuals rest b (first_value value b found)
    first_actuals (InOut formal at r selections inner outer rest) b found = first_actuals rest b (first_selections selections b found)
    first_actuals (Out formal at r selections inner outer rest) b found = first_actuals rest b (first_selections selections b found)
    first_actuals (CompositeInOut formal at r selections subtype rest) b found = first_actuals rest b (first_selections selections b found)
    first_actuals (CompositeOut formal at r selections subtype rest) b found = first_actuals rest b (first_selections selections b found)

    pub first_value : Value → Bool → Option Breach → Option Breach
    first_value (Number check e) b found = first_expr e b found
    first_value (Cells c) b found = first_composite c b found

    pub first_composite : Composite → Bool → Option Breach → Option Breach
    first_composite (WholeVariable at r selections subtype) b found = first_selections selections b found
    first_composite (WholeConstant at r selections subtype) b found = first_selections selections b found
    first_composite (WholeTarget at subtype) b found = found
    first_composite (CompositeIf condition value otherwise) b found = first_composite otherwise b (first_composite value b (first_expr condition b found))
    first_composite (Aggregate at size associations) b found = first_associations associations b found

    pub first_associations : Associations → Bool → Option Breach → Option Breach
    first_associations NoAssociation b found = found
    first_associations (Association runs iterated mentions value rest) b found = first_associations rest b (first_value value b (first_exprs mentions b found))

    pub first_iteration : Iteration → Bool → Option Breach → Option Breach
    first_iteration (Range k reverse low high check filter) b found = first_optional filter b (first_expr high b (first_expr low b found))
    first_iteration (Components k constant at r selections number stride dimensions filter) b found = first_optional filter b (first_selections selections b found)

    pub first_chunk : Chunk → Bool → Option Breach → Option Breach
    first_chunk NoChunk b found = found
    first_chunk (Count e) b found = first_expr e b found
    first_chunk (Each k low high check) b found = first_expr high b (first_expr low b found)

  unfoldable pub first_pieces : Pieces → Bool → Option Breach → Option Breach
  first_pieces NoPiece b found = found
  first_pieces (Text bytes rest) b found = first_pieces rest b found
  first_pieces (Image class e rest) b found = first_pieces rest b (first_expr e b found)
  first_pieces (Padded class e width rest) b found = first_pieces rest b (first_expr width b (first_expr e b found))

  unfoldable pub first_decls : Decls → Bool → Option Breach → Option Breach
  first_decls NoDecl b found = found
  first_decls (DeclareDefault x more) b found = first_decls more b found
  first_decls (DeclareVariable x initial more) b found = first_decls more b (first_value initial b found)
  first_decls (DeclareConstant x initial more) b found = first_decls more b (first_value initial b found)
  first_decls (Mentions es more) b found = first_decls more b (first_exprs es b found)

  unfoldable mutual
    pub first_stmt : Stmt → Bool → Option Breach → Option Breach
    first_stmt Null b found = found
    first_stmt (Assign at r selections value) b found = first_value value b (first_selections selections b found)
    first_stmt (CallProcedure at callee s actuals) b found = first_actuals actuals b (first_call b s at callee found)
    first_stmt (Exit loop condition) b found = first_optional condition b found
    first_stmt Return b found = found
    first_stmt (ReturnValue value) b found = first_value value b found
    first_stmt (Raise r) b found = found
    first_stmt Reraise b found = found
    first_stmt (IfThen condition stmts otherwise) b found = first_stmts otherwise b (first_stmts stmts b (first_expr condition b found))
    first_stmt (Case e alternatives) b found = first_alternatives alternatives b (first_expr e b found)
    first_stmt (Loop number condition stmts) b found = first_stmts stmts b (first_optional condition b found)
    first_stmt (For number iteration stmts) b found = first_stmts stmts b (first_iteration iteration b found)
    first_stmt (ParallelFor number site chunk iteration stmts) b found = first_stmts stmts false (first_iteration iteration false (first_chunk chunk false found))
    first_stmt (Parallel site count arms) b found = first_arms arms false (first_optional count false found)
    first_stmt (Block decls stmts handlers) b found = first_handlers handlers b (first_stmts stmts b (first_decls decls b found))
    first_stmt (Put at callee pieces line) b found = first_port b at callee (first_pieces pieces b found)
    first_stmt (Get at callee first r selections scalar) b found = first_port b at callee (first_selections selections b found)

    pub first_stmts : Stmts → Bool → Option Breach → Option Breach
    first_stmts End b found = found
    first_stmts (Then s ss) b found = first_stmts ss b (first_stmt s b found)

    pub first_alternatives : Alternatives → Bool → Option Breach → Option Breach
    first_alternatives NoAlternative b found = found
    first_alternatives (Alternative others choices mentions stmts rest) b found = first_alternatives rest b (first_stmts stmts b (first_exprs mentions b found))

    pub first_arms : Arms → Bool → Option Breach → Option Breach
    first_arms NoArm b found = found
    first_arms (Arm stmts rest) b found = first_arms rest b (first_stmts stmts b found)

    pub first_handlers : Handlers → Bool → Option Breach → Option Breach
    first_handlers NoHandler b found = found
    first_handlers (Handler handled stmts rest) b found = first_handlers rest b (first_stmts stmts b found)

  unfoldable pub first_body : Body → Bool → Option Breach → Option Breach
  first_body body b found = first_handlers body.handlers b (first_stmts body.stmts b (first_decls body.decls b found))

  unfoldable pub first_subs : Bool → List Sub → Option Breach → Option Breach
  first_subs main [] found = found
  first_subs main (sub ∷ subs) found = first_subs main subs (first_body sub.body (not sub.nonblocking && not main) found)

unfoldable pub first_of : Program → Option Breach
first_of program = first_subs (nonblocking_of program.subs) program.nonblocking program.subs (first_body (nonblocking_of program.subs) program.body (not program.nonblocking) None)
