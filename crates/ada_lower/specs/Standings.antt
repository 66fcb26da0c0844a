-- Where the parallel constructs of a program stand (5.5, 5.6.1, 4.5.10): within the threads of how many others, in what is
-- evaluated of its text. What is found of a part stands behind what was found before.
use Rattle.std.specs.Prelude.{ℕ, ◌+◌, List, [], ◌∷◌, ◌++◌, Option, Some, None, Bool, true, false, cond}
use Rattle.typed_tree.specs.Syntax.{Expr, Static, Variable, Constant, Parameter, Target, Group, Unary, Binary, AndThen, OrElse, Relation, Membership, If, Call, Convert, Reduction, Optional, Absent, Present, Selections, Whole, Field, Index, Actuals, NoActual, In, InOut, Out, CompositeInOut, CompositeOut, Value, Number, Cells, Composite, WholeVariable, WholeConstant, WholeTarget, CompositeIf, Aggregate, Associations, NoAssociation, Association, Iteration, Range, Components, Chunk, NoChunk, Count, Each, Pieces, NoPiece, Text, Image, Padded, Decls, NoDecl, DeclareDefault, DeclareVariable, DeclareConstant, Mentions, Stmt, Null, Assign, CallProcedure, Exit, Return, ReturnValue, Raise, Reraise, IfThen, Case, Loop, For, ParallelFor, Parallel, Block, Put, Get, Stmts, End, Then, Alternatives, NoAlternative, Alternative, Arms, NoArm, Arm, Handlers, NoHandler, Handler, Body, Sub, Program}
use Rattle.lower_emission.specs.Repeats.{some_run}
use Rattle.ada_lower.specs.declared.types.Standing.{Standing}

abbrev pub with_standing : ℕ → ℕ → Bool → List Standing → List Standing
with_standing d site ranges found = found ++ record { site = site; depth = d; ranges = ranges } ∷ []

abbrev pub goes_through_range : Iteration → Bool
goes_through_range (Range k reverse low high check filter) = true
goes_through_range (Components k constant at from selections count stride dimensions filter) = false

-- a reduction that isn't parallel has no number
abbrev pub with_site : ℕ → Option ℕ → Bool → List Standing → List Standing
with_site d None ranges found = found
with_site d (Some site) ranges found = with_standing d site ranges found

abbrev pub depth_in : ℕ → Option ℕ → ℕ
depth_in d None = d
depth_in d (Some site) = d + 1

unfoldable mutual
  pub expr_standings : ℕ → Expr → List Standing → List Standing
  expr_standings d (Static at value literal mentions) found = found
  expr_standings d (Variable at from selections scalar) found = selections_standings d selections found
  expr_standings d (Constant at from selections scalar) found = selections_standings d selections found
  expr_standings d (Parameter at k) found = found
  expr_standings d (Target at scalar) found = found
  expr_standings d (Group e) found = expr_standings d e found
  expr_standings d (Unary at s class e) found = expr_standings d e found
  expr_standings d (Binary at op class e f) found = expr_standings d e (expr_standings d f found)
  expr_standings d (AndThen e f) found = expr_standings d e (expr_standings d f found)
  expr_standings d (OrElse e f) found = expr_standings d e (expr_standings d f found)
  expr_standings d (Relation class comparison e f) found = expr_standings d e (expr_standings d f found)
  expr_standings d (Membership class negated e low high) found = expr_standings d high (expr_standings d low (expr_standings d e found))
  expr_standings d (If condition value otherwise) found = expr_standings d otherwise (expr_standings d value (expr_standings d condition found))
  expr_standings d (Call at callee s actuals) found = actuals_standings d actuals found
  expr_standings d (Convert check e) found = expr_standings d e found
  expr_standings d (Reduction at attribute by initial site chunk iteration value) found =
      expr_standings (depth_in d site) value (iteration_standings d (depth_in d site) iteration (chunk_standings d chunk (expr_standings d initial (with_site d site (goes_through_range iteration) found))))

  pub optional_standings : ℕ → Optional → List Standing → List Standing
  optional_standings d Absent found = found
  optional_standings d (Present e) found = expr_standings d e found

  pub selections_standings : ℕ → Selections → List Standing → List Standing
  selections_standings d Whole found = found
  selections_standings d (Field number offset rest) found = selections_standings d rest found
  selections_standings d (Index at e low high stride rest) found = selections_standings d rest (expr_standings d e found)

  pub actuals_standings : ℕ → Actuals → List Standing → List Standing
  actuals_standings d NoActual found = found
  actuals_standings d (In formal value rest) found = actuals_standings d rest (value_standings d value found)
  actuals_standings d (InOut formal at from selections inner outer rest) found = actuals_standings d rest (selections_standings d selections found)
  actuals_standings d (Out formal at from selections inner outer rest) found = actuals_standings d rest (selections_standings d selections found)
  actuals_standings d (CompositeInOut formal at from selections subtype rest) found = actuals_standings d rest (selections_standings d selections found)
  actuals_standings d (CompositeOut formal at from selections subtype rest) found = actuals_standings d rest (selections_standings d selections found)

  pub value_standings : ℕ → Value → List Standing → List Standing
  value_standings d (Number check e) found = expr_standings d e found
  value_standings d (Cells c) found = composite_standings d c found

  pub composite_standings : ℕ → Composite → List Standing → List Standing
  composite_standings d (WholeVariable at from selections subtype) found = selections_standings d selections found
  composite_standings d (WholeConstant at from selections subtype) found = selections_standings d selections found
  composite_standings d (WholeTarget at subtype) found = found
  composite_standings d (CompositeIf condition value otherwise) found = composite_standings d otherwise (composite_standings d value (expr_standings d condition found))
  composite_standings d (Aggregate at size associations) found = associations_standings d associations found

  -- the value of no component isn't evaluated (4.3.3)
  pub associations_standings : ℕ → Associations → List Standing → List Standing
  associations_standings d NoAssociation found = found
  associations_standings d (Association runs iterated mentions value rest) found = associations_standings d rest (cond (some_run runs) (value_standings d value found) found)

  -- what is evaluated once stands around the turns, the filter within
  pub iteration_standings : (around within : ℕ) → Iteration → List Standing → List Standing
  iteration_standings d i (Range k reverse low high check filter) found = optional_standings i filter (expr_standings d high (expr_standings d low found))
  iteration_standings d i (Components k constant at from selections count stride dimensions filter) found = optional_standings i filter (selections_standings d selections found)

  pub chunk_standings : ℕ → Chunk → List Standing → List Standing
  chunk_standings d NoChunk found = found
  chunk_standings d (Count e) found = expr_standings d e found
  chunk_standings d (Each k low high check) found = expr_standings d high (expr_standings d low found)

unfoldable pub pieces_standings : ℕ → Pieces → List Standing → List Standing
pieces_standings d NoPiece found = found
pieces_standings d (Text bytes rest) found = pieces_standings d rest found
pieces_standings d (Image class e rest) found = pieces_standings d rest (expr_standings d e found)
pieces_standings d (Padded class e width rest) found = pieces_standings d rest (expr_standings d e found)

unfoldable pub decls_standings : ℕ → Decls → List Standing → List Standing
decls_standings d NoDecl found = found
decls_standings d (DeclareDefault x more) found = decls_standings d more found
decls_standings d (DeclareVariable x initial more) found = decls_standings d more (value_standings d initial found)
decls_standings d (DeclareConstant x initial more) found = decls_standings d more (value_standings d initial found)
decls_standings d (Mentions es more) found = decls_standings d more found

unfoldable mutual
  pub stmt_standings : ℕ → Stmt → List Standing → List Standing
  stmt_standings d Null found = found
  stmt_standings d (Assign at from selections value) found = value_standings d value (selections_standings d selections found)
  stmt_standings d (CallProcedure at callee s actuals) found = actuals_standings d actuals found
  stmt_standings d (Exit loop condition) found = optional_standings d condition found
  stmt_standings d Return found = found
  stmt_standings d (ReturnValue value) found = value_standings d value found
  stmt_standings d (Raise r) found = found
  stmt_standings d Reraise found = found
  stmt_standings d (IfThen condition stmts otherwise) found = stmts_standings d otherwise (stmts_standings d stmts (expr_standings d condition found))
  stmt_standings d (Case e alternatives) found = case_standings d alternatives (expr_standings d e found)
  stmt_standings d (Loop number condition stmts) found = stmts_standings d stmts (optional_standings d condition found)
  stmt_standings d (For number iteration stmts) found = stmts_standings d stmts (iteration_standings d d iteration found)
  stmt_standings d (ParallelFor number site chunk iteration stmts) found =
      stmts_standings (d + 1) stmts (iteration_standings d (d + 1) iteration (chunk_standings d chunk (with_standing d site (goes_through_range iteration) found)))
  stmt_standings d (Parallel site count arms) found = arm_standings (d + 1) arms (optional_standings d count (with_standing d site true found))
  stmt_standings d (Block decls stmts handlers) found = handler_standings d handlers (stmts_standings d stmts (decls_standings d decls found))
  stmt_standings d (Put at callee pieces line) found = pieces_standings d pieces found
  stmt_standings d (Get at callee first from selections scalar) found = selections_standings d selections found

  pub stmts_standings : ℕ → Stmts → List Standing → List Standing
  stmts_standings d End found = found
  stmts_standings d (Then first more) found = stmts_standings d more (stmt_standings d first found)

  pub case_standings : ℕ → Alternatives → List Standing → List Standing
  case_standings d NoAlternative found = found
  case_standings d (Alternative others choices mentions stmts rest) found = case_standings d rest (stmts_standings d stmts found)

  pub arm_standings : ℕ → Arms → List Standing → List Standing
  arm_standings d NoArm found = found
  arm_standings d (Arm stmts rest) found = arm_standings d rest (stmts_standings d stmts found)

  pub handler_standings : ℕ → Handlers → List Standing → List Standing
  handler_standings d NoHandler found = found
  handler_standings d (Handler handled stmts rest) found = handler_standings d rest (stmts_standings d stmts found)

abbrev pub body_standings : Body → List Standing → List Standing
body_standings b found = handler_standings 0 b.handlers (stmts_standings 0 b.stmts (decls_standings 0 b.decls found))

abbrev pub subs_standings : List Sub → List Standing → List Standing
subs_standings [] found = found
subs_standings (unit ∷ more) found = subs_standings more (body_standings unit.body found)

-- all of them
abbrev pub standings_of : Program → List Standing
standings_of program = subs_standings program.subs (body_standings program.body [])
