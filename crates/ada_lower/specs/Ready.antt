-- Texts that are ready for their code: each call names a subprogram that is there (6.4), and the components of an aggregate
-- have their cells among those of what it goes to (4.3).
use Rattle.std.specs.Prelude.{◌≡◌, ℕ, ◌+◌, ◌*◌, ◌<◌, ◌≤◌, List, [], ◌∷◌, Some, Bool, true, false}
use Rattle.behaviours.specs.Paths.{ConstantOf}
use Rattle.typed_tree.specs.declared.expressions.Run.{Run}
use Rattle.typed_tree.specs.declared.expressions.Reducer.{Reducer}
use Rattle.typed_tree.specs.declared.expressions.Reducer.TheVariants.{Operator, Function}
use Rattle.typed_tree.specs.Syntax.{Expr, Static, Variable, Constant, Parameter, Target, Group, Unary, Binary, AndThen, OrElse, Relation, Membership, If, Call, Convert, Reduction, Optional, Absent, Present, Selections, Whole, Field, Index, Actuals, NoActual, In, InOut, Out, CompositeInOut, CompositeOut, Value, Number, Cells, Composite, WholeVariable, WholeConstant, WholeTarget, CompositeIf, Aggregate, Associations, NoAssociation, Association, Iteration, Range, Components, Chunk, NoChunk, Count, Each, Pieces, NoPiece, Text, Image, Padded, Decls, NoDecl, DeclareDefault, DeclareVariable, DeclareConstant, Mentions, Stmt, Assign, CallProcedure, Exit, ReturnValue, IfThen, Case, Loop, For, ParallelFor, Parallel, Block, Put, Get, Stmts, End, Then, Alternatives, NoAlternative, Alternative, Arms, NoArm, Arm, Handlers, NoHandler, Handler, Body, Sub, Program}
use Rattle.ada_meaning.specs.Meaning.{sub_at}
use Rattle.lower_emission.specs.Emission.{shapes, shapes_cells, formals_in, formal_of, composite_width, width}
use Rattle.lower_emission.specs.Programs.{has_result}

-- values of so many cells among so many
abbrev pub RunsIn : (cells size : ℕ) → List Run → Type 0
RunsIn n m [] = Unit {0}
RunsIn n m (r ∷ rs) = ((k : ℕ) → k < r.count → r.first + k * r.stride + m ≤ n) × RunsIn n m rs

module _ (program : Program) where
  -- a subprogram that is there, and gives a value or doesn't
  abbrev pub Calls : ℕ → Bool → Type 0
  Calls sub gives = (unit : Sub) × (sub_at program.subs sub ≡ Some unit) × (has_result unit.result ≡ gives)

  abbrev pub ReadyReducer : Reducer → Type 0
  ReadyReducer (Operator at op class) = Unit {0}
  ReadyReducer (Function at sub accumulator value) = Calls sub true

  abbrev mutual
    pub ReadyExpr : Expr → Type 0
    ReadyExpr (Static at value literal mentions) = Unit {0}
    ReadyExpr (Variable at r selections scalar) = ReadySelections selections
    ReadyExpr (Constant at r selections scalar) = ReadySelections selections
    ReadyExpr (Parameter at k) = Unit {0}
    ReadyExpr (Target at scalar) = Unit {0}
    ReadyExpr (Group e) = ReadyExpr e
    ReadyExpr (Unary at sign class e) = ReadyExpr e
    ReadyExpr (Binary at op class e f) = ReadyExpr e × ReadyExpr f
    ReadyExpr (AndThen e f) = ReadyExpr e × ReadyExpr f
    ReadyExpr (OrElse e f) = ReadyExpr e × ReadyExpr f
    ReadyExpr (Relation class comparison e f) = ReadyExpr e × ReadyExpr f
    ReadyExpr (Membership class negated e low high) = ReadyExpr e × ReadyExpr low × ReadyExpr high
    ReadyExpr (If condition value otherwise) = ReadyExpr condition × ReadyExpr value × ReadyExpr otherwise
    ReadyExpr (Call at callee sub actuals) = Calls sub true × ReadyActuals sub actuals
    ReadyExpr (Convert check e) = ReadyExpr e
    ReadyExpr (Reduction at attribute by initial site chunk iteration value) = ReadyReducer by × ReadyExpr initial × ReadyChunk chunk × ReadyIteration iteration × ReadyExpr value

    pub ReadyOptional : Optional → Type 0
    ReadyOptional Absent = Unit {0}
    ReadyOptional (Present e) = ReadyExpr e

    pub ReadySelections : Selections → Type 0
    ReadySelections Whole = Unit {0}
    ReadySelections (Field number offset rest) = ReadySelections rest
    ReadySelections (Index at e low high stride rest) = ReadyExpr e × ReadySelections rest

    -- the cells of an array or record are among those of the formals
    pub ReadyActuals : ℕ → Actuals → Type 0
    ReadyActuals sub NoActual = Unit {0}
    ReadyActuals sub (In formal (Number check e) rest) = ReadyExpr e × ReadyActuals sub rest
    ReadyActuals sub (In formal (Cells c) rest) = (formal_of program sub 0 (ConstantOf formal) + composite_width program c ≤ shapes_cells (shapes program (formals_in program sub))) × ReadyComposite (composite_width program c) c × ReadyActuals sub rest
    ReadyActuals sub (InOut formal at r selections inner outer rest) = ReadySelections selections × ReadyActuals sub rest
    ReadyActuals sub (Out formal at r selections inner outer rest) = ReadySelections selections × ReadyActuals sub rest
    ReadyActuals sub (CompositeInOut formal at r selections subtype rest) = ReadySelections selections × ReadyActuals sub rest
    ReadyActuals sub (CompositeOut formal at r selections subtype rest) = ReadySelections selections × ReadyActuals sub rest

    -- with the cells of what it goes to
    pub ReadyValue : ℕ → Value → Type 0
    ReadyValue n (Number check e) = ReadyExpr e
    ReadyValue n (Cells c) = ReadyComposite n c

    pub ReadyComposite : ℕ → Composite → Type 0
    ReadyComposite n (WholeVariable at r selections subtype) = ReadySelections selections
    ReadyComposite n (WholeConstant at r selections subtype) = ReadySelections selections
    ReadyComposite n (WholeTarget at subtype) = Unit {0}
    ReadyComposite n (CompositeIf condition value otherwise) = ReadyExpr condition × ReadyComposite n value × ReadyComposite n otherwise
    ReadyComposite n (Aggregate at size associations) = ReadyAssociations n associations

    pub ReadyAssociations : ℕ → Associations → Type 0
    ReadyAssociations n NoAssociation = Unit {0}
    ReadyAssociations n (Association runs iterated mentions value rest) = RunsIn n (width program value) runs × ReadyValue (width program value) value × ReadyAssociations n rest

    pub ReadyIteration : Iteration → Type 0
    ReadyIteration (Range k reverse low high check filter) = ReadyExpr low × ReadyExpr high × ReadyOptional filter
    ReadyIteration (Components k constant at r selections count stride dimensions filter) = ReadySelections selections × ReadyOptional filter

    pub ReadyChunk : Chunk → Type 0
    ReadyChunk NoChunk = Unit {0}
    ReadyChunk (Count e) = ReadyExpr e
    ReadyChunk (Each k low high check) = ReadyExpr low × ReadyExpr high

  abbrev pub ReadyPieces : Pieces → Type 0
  ReadyPieces NoPiece = Unit {0}
  ReadyPieces (Text bytes rest) = ReadyPieces rest
  ReadyPieces (Image class e rest) = ReadyExpr e × ReadyPieces rest
  ReadyPieces (Padded class e width rest) = ReadyExpr e × ReadyPieces rest

  abbrev pub ReadyDecls : Decls → Type 0
  ReadyDecls NoDecl = Unit {0}
  ReadyDecls (DeclareDefault x more) = ReadyDecls more
  ReadyDecls (DeclareVariable x initial more) = ReadyValue (width program initial) initial × ReadyDecls more
  ReadyDecls (DeclareConstant x initial more) = ReadyValue (width program initial) initial × ReadyDecls more
  ReadyDecls (Mentions es more) = ReadyDecls more

  abbrev mutual
    pub ReadyStmt : Stmt → Type 0
    ReadyStmt (Assign at r selections value) = ReadySelections selections × ReadyValue (width program value) value
    ReadyStmt (CallProcedure at callee sub actuals) = Calls sub false × ReadyActuals sub actuals
    ReadyStmt (Exit loop condition) = ReadyOptional condition
    ReadyStmt (ReturnValue value) = ReadyValue (width program value) value
    ReadyStmt (IfThen condition stmts otherwise) = ReadyExpr condition × ReadyAll stmts × ReadyAll otherwise
    ReadyStmt (Case e alternatives) = ReadyExpr e × ReadyAlternatives alternatives
    ReadyStmt (Loop number condition stmts) = ReadyOptional condition × ReadyAll stmts
    ReadyStmt (For number iteration stmts) = ReadyIteration iteration × ReadyAll stmts
    ReadyStmt (ParallelFor number site chunk iteration stmts) = ReadyChunk chunk × ReadyIteration iteration × ReadyAll stmts
    ReadyStmt (Parallel site count arms) = ReadyOptional count × ReadyArms arms
    ReadyStmt (Block decls stmts handlers) = ReadyDecls decls × ReadyAll stmts × ReadyHandlers handlers
    ReadyStmt (Put at callee pieces line) = ReadyPieces pieces
    ReadyStmt (Get at callee first r selections scalar) = ReadySelections selections
    ReadyStmt _ = Unit {0}

    pub ReadyAll : Stmts → Type 0
    ReadyAll End = Unit {0}
    ReadyAll (Then first more) = ReadyStmt first × ReadyAll more

    pub ReadyAlternatives : Alternatives → Type 0
    ReadyAlternatives NoAlternative = Unit {0}
    ReadyAlternatives (Alternative others choices mentions stmts rest) = ReadyAll stmts × ReadyAlternatives rest

    pub ReadyArms : Arms → Type 0
    ReadyArms NoArm = Unit {0}
    ReadyArms (Arm stmts rest) = ReadyAll stmts × ReadyArms rest

    pub ReadyHandlers : Handlers → Type 0
    ReadyHandlers NoHandler = Unit {0}
    ReadyHandlers (Handler handled stmts rest) = ReadyAll stmts × ReadyHandlers rest

  abbrev pub ReadyBody : Body → Type 0
  ReadyBody body = ReadyDecls body.decls × ReadyAll body.stmts × ReadyHandlers body.handlers

  abbrev pub ReadySubs : List Sub → Type 0
  ReadySubs [] = Unit {0}
  ReadySubs (unit ∷ more) = ReadyBody unit.body × ReadySubs more

  -- a program's texts
  abbrev pub IsReady : Type 0
  IsReady = ReadyBody program.body × ReadySubs program.subs
