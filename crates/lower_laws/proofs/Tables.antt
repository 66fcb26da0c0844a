-- What the tables of a program's code have of its text: its strings, and the rows of parallel constructs. These stand in one
-- another so many levels deep.
use Rattle.std.specs.Prelude.{◌≡◌, ℕ, zero, suc, ◌+◌, ◌≤◌, List, slice_get, Some, None}
use Rattle.typed_tree.specs.Syntax.{Expr, Static, Variable, Constant, Parameter, Target, Group, Unary, Binary, AndThen, OrElse, Relation, Membership, If, Call, Convert, Reduction, Optional, Absent, Present, Selections, Whole, Field, Index, Actuals, NoActual, In, InOut, Out, CompositeInOut, CompositeOut, Value, Number, Cells, Composite, WholeVariable, WholeConstant, WholeTarget, CompositeIf, Aggregate, Associations, NoAssociation, Association, Iteration, Range, Components, Chunk, NoChunk, Count, Each, Pieces, NoPiece, Text, Image, Padded, Decls, NoDecl, DeclareDefault, DeclareVariable, DeclareConstant, Mentions, Stmt, Null, Assign, CallProcedure, Exit, Return, ReturnValue, Raise, Reraise, IfThen, Case, Loop, For, ParallelFor, Parallel, Block, Put, Get, Stmts, End, Then, Alternatives, NoAlternative, Alternative, Arms, NoArm, Arm, Handlers, NoHandler, Handler, Sub, Program}
use Rattle.ada_meaning.specs.Meaning.{sub_at}
use Rattle.stack_code.specs.declared.code.Around.{Around}
use Rattle.stack_code.specs.declared.code.Code.{Code}
use Rattle.stack_code.specs.declared.code.CodeSite.{CodeSite}
use Rattle.stack_code.specs.declared.code.SiteKind.{SiteKind}
use Rattle.stack_code.specs.declared.instr.Instr.TheVariants as i

-- A construct has its row in the table, with its kind; its threads' code stands two behind the forks that name it, and their
-- frame has at least five cells: cells 0 to 3 are the thread's, and cell 4 is a component's address.
pub record HasSite (c : Code) (frames : ℕ → ℕ) (site : ℕ) (of : SiteKind) (body : Around) : Type 0 where
  pub row : CodeSite
  pub is : slice_get c.sites site ≡ Some row
  pub frame : frames site ≡ row.frame
  pub enough : 5 ≤ row.frame
  pub kind : row.kind ≡ of
  pub around : row.around ≡ body
  pub entry : (q : ℕ) → slice_get c.instrs q ≡ Some (i.Fork site) → row.entry ≡ q + 1 + 1

module _ (T : List ℕ → Type 0) where
  abbrev mutual
    pub TabledExpr : ℕ → Expr → Type 0
    TabledExpr n (Static at value literal mentions) = Unit {0}
    TabledExpr n (Variable at from selections scalar) = TabledSelections n selections
    TabledExpr n (Constant at from selections scalar) = TabledSelections n selections
    TabledExpr n (Parameter at k) = Unit {0}
    TabledExpr n (Target at scalar) = Unit {0}
    TabledExpr n (Group e) = TabledExpr n e
    TabledExpr n (Unary at sign class e) = TabledExpr n e
    TabledExpr n (Binary at op class e f) = TabledExpr n e × TabledExpr n f
    TabledExpr n (AndThen e f) = TabledExpr n e × TabledExpr n f
    TabledExpr n (OrElse e f) = TabledExpr n e × TabledExpr n f
    TabledExpr n (Relation class comparison e f) = TabledExpr n e × TabledExpr n f
    TabledExpr n (Membership class negated e low high) = TabledExpr n e × TabledExpr n low × TabledExpr n high
    TabledExpr n (If condition value otherwise) = TabledExpr n condition × TabledExpr n value × TabledExpr n otherwise
    TabledExpr n (Call at callee sub actuals) = TabledActuals n actuals
    TabledExpr n (Convert check e) = TabledExpr n e
    TabledExpr n (Reduction at attribute by initial None chunk iteration value) = TabledExpr n initial × TabledIteration n iteration × TabledExpr n value
    TabledExpr zero (Reduction at attribute by initial (Some site) chunk iteration value) = ⊥
    TabledExpr (suc n) (Reduction at attribute by initial (Some site) chunk iteration value) =
        TabledExpr n initial × TabledChunk n chunk × TabledIteration n iteration × TabledExpr n value

    pub TabledOptional : ℕ → Optional → Type 0
    TabledOptional n Absent = Unit {0}
    TabledOptional n (Present e) = TabledExpr n e

    pub TabledSelections : ℕ → Selections → Type 0
    TabledSelections n Whole = Unit {0}
    TabledSelections n (Field number offset rest) = TabledSelections n rest
    TabledSelections n (Index at e low high stride rest) = TabledExpr n e × TabledSelections n rest

    pub TabledActuals : ℕ → Actuals → Type 0
    TabledActuals n NoActual = Unit {0}
    TabledActuals n (In x value rest) = TabledValue n value × TabledActuals n rest
    TabledActuals n (InOut x at from selections inner outer rest) = TabledSelections n selections × TabledActuals n rest
    TabledActuals n (Out x at from selections inner outer rest) = TabledSelections n selections × TabledActuals n rest
    TabledActuals n (CompositeInOut x at from selections subtype rest) = TabledSelections n selections × TabledActuals n rest
    TabledActuals n (CompositeOut x at from selections subtype rest) = TabledSelections n selections × TabledActuals n rest

    pub TabledValue : ℕ → Value → Type 0
    TabledValue n (Number check e) = TabledExpr n e
    TabledValue n (Cells c) = TabledComposite n c

    pub TabledComposite : ℕ → Composite → Type 0
    TabledComposite n (WholeVariable at from selections subtype) = TabledSelections n selections
    TabledComposite n (WholeConstant at from selections subtype) = TabledSelections n selections
    TabledComposite n (WholeTarget at subtype) = Unit {0}
    TabledComposite n (CompositeIf condition value otherwise) = TabledExpr n condition × TabledComposite n value × TabledComposite n otherwise
    TabledComposite n (Aggregate at size associations) = TabledAssociations n associations

    pub TabledAssociations : ℕ → Associations → Type 0
    TabledAssociations n NoAssociation = Unit {0}
    TabledAssociations n (Association runs iterated mentions value rest) = TabledValue n value × TabledAssociations n rest

    pub TabledIteration : ℕ → Iteration → Type 0
    TabledIteration n (Range k reverse low high check filter) = TabledExpr n low × TabledExpr n high × TabledOptional n filter
    TabledIteration n (Components k constant at from selections number stride dimensions filter) = TabledSelections n selections × TabledOptional n filter

    pub TabledChunk : ℕ → Chunk → Type 0
    TabledChunk n NoChunk = Unit {0}
    TabledChunk n (Count e) = TabledExpr n e
    TabledChunk n (Each k low high check) = TabledExpr n low × TabledExpr n high

  abbrev pub TabledPieces : ℕ → Pieces → Type 0
  TabledPieces n NoPiece = Unit {0}
  TabledPieces n (Text bytes rest) = T bytes × TabledPieces n rest
  TabledPieces n (Image class e rest) = TabledExpr n e × TabledPieces n rest
  TabledPieces n (Padded class e most rest) = TabledExpr n e × TabledPieces n rest

  abbrev pub TabledDecls : ℕ → Decls → Type 0
  TabledDecls n NoDecl = Unit {0}
  TabledDecls n (DeclareDefault x more) = TabledDecls n more
  TabledDecls n (DeclareVariable x initial more) = TabledValue n initial × TabledDecls n more
  TabledDecls n (DeclareConstant x initial more) = TabledValue n initial × TabledDecls n more
  TabledDecls n (Mentions es more) = TabledDecls n more

  abbrev mutual
    pub TabledStmt : ℕ → Stmt → Type 0
    TabledStmt n Null = Unit {0}
    TabledStmt n (Assign at from selections value) = TabledSelections n selections × TabledValue n value
    TabledStmt n (CallProcedure at callee sub actuals) = TabledActuals n actuals
    TabledStmt n (Exit loop condition) = TabledOptional n condition
    TabledStmt n Return = Unit {0}
    TabledStmt n (ReturnValue value) = TabledValue n value
    TabledStmt n (Raise reason) = Unit {0}
    TabledStmt n Reraise = Unit {0}
    TabledStmt n (IfThen condition stmts otherwise) = TabledExpr n condition × TabledAll n stmts × TabledAll n otherwise
    TabledStmt n (Case e alternatives) = TabledExpr n e × TabledAlternatives n alternatives
    TabledStmt n (Loop number condition stmts) = TabledOptional n condition × TabledAll n stmts
    TabledStmt n (For number iteration stmts) = TabledIteration n iteration × TabledAll n stmts
    TabledStmt zero (ParallelFor number site chunk iteration stmts) = ⊥
    TabledStmt (suc n) (ParallelFor number site chunk iteration stmts) = TabledChunk n chunk × TabledIteration n iteration × TabledAll n stmts
    TabledStmt zero (Parallel site count arms) = ⊥
    TabledStmt (suc n) (Parallel site count arms) = TabledOptional n count × TabledArms n arms
    TabledStmt n (Block decls stmts handlers) = TabledDecls n decls × TabledAll n stmts × TabledHandlers n handlers
    TabledStmt n (Put at callee pieces line) = TabledPieces n pieces
    TabledStmt n (Get at callee first from selections scalar) = TabledSelections n selections

    pub TabledAll : ℕ → Stmts → Type 0
    TabledAll n End = Unit {0}
    TabledAll n (Then s ss) = TabledStmt n s × TabledAll n ss

    pub TabledAlternatives : ℕ → Alternatives → Type 0
    TabledAlternatives n NoAlternative = Unit {0}
    TabledAlternatives n (Alternative others choices mentions stmts rest) = TabledAll n stmts × TabledAlternatives n rest

    pub TabledArms : ℕ → Arms → Type 0
    TabledArms n NoArm = Unit {0}
    TabledArms n (Arm stmts rest) = TabledAll n stmts × TabledArms n rest

    pub TabledHandlers : ℕ → Handlers → Type 0
    TabledHandlers n NoHandler = Unit {0}
    TabledHandlers n (Handler handled stmts rest) = TabledAll n stmts × TabledHandlers n rest

-- the strings of a program are in the table, at the numbers that the emission gives them, and constructs stand in one another
-- so many levels deep
pub record IsTabled (program : Program) (text : List ℕ → ℕ) (c : Code) (depth : ℕ) : Type 0 where
  pub main : TabledStmt (λ bytes. slice_get c.texts (text bytes) ≡ Some bytes) depth (Block program.body.decls program.body.stmts program.body.handlers)
  pub subs : (k : ℕ) (unit : Sub) → sub_at program.subs k ≡ Some unit
      → TabledStmt (λ bytes. slice_get c.texts (text bytes) ≡ Some bytes) depth (Block unit.body.decls unit.body.stmts unit.body.handlers)
