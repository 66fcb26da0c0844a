-- Where parallel constructs stand in one another (5.5, 5.6.1, 4.5.10), and that a program's texts are in its table (A.10.7).
use Rattle.std.specs.Prelude.{ℕ, ◌<◌, List, [], ◌∷◌, length, Option, Some, None}
use Rattle.typed_tree.specs.Syntax.{Expr, Static, Variable, Constant, Parameter, Target, Group, Unary, Binary, AndThen, OrElse, Relation, Membership, If, Call, Convert, Reduction, Optional, Absent, Present, Selections, Whole, Field, Index, Actuals, NoActual, In, InOut, Out, CompositeInOut, CompositeOut, Value, Number, Cells, Composite, WholeVariable, WholeConstant, WholeTarget, CompositeIf, Aggregate, Associations, NoAssociation, Association, Iteration, Range, Components, Chunk, NoChunk, Count, Each, Pieces, NoPiece, Text, Image, Padded, Decls, NoDecl, DeclareDefault, DeclareVariable, DeclareConstant, Mentions, Stmt, Assign, CallProcedure, Exit, ReturnValue, IfThen, Case, Loop, For, ParallelFor, Parallel, Block, Put, Get, Stmts, End, Then, Alternatives, NoAlternative, Alternative, Arms, NoArm, Arm, Handlers, NoHandler, Handler, Body, Sub, Program}
use Rattle.lower_emission.specs.Programs.{text_in}
use Rattle.lower_emission.specs.Texts.{texts_of}

module _ (program : Program) where
  -- a construct is in the program's table, behind the one in whose threads it stands
  abbrev pub Inner : Option ℕ → ℕ → Type 0
  Inner None site = site < length program.sites
  Inner (Some outer) site = (outer < site) × (site < length program.sites)

  -- with the construct in whose threads a text stands
  abbrev mutual
    pub SitedExpr : Option ℕ → Expr → Type 0
    SitedExpr o (Static at value literal mentions) = Unit {0}
    SitedExpr o (Variable at r selections scalar) = SitedSelections o selections
    SitedExpr o (Constant at r selections scalar) = SitedSelections o selections
    SitedExpr o (Parameter at k) = Unit {0}
    SitedExpr o (Target at scalar) = Unit {0}
    SitedExpr o (Group e) = SitedExpr o e
    SitedExpr o (Unary at sign class e) = SitedExpr o e
    SitedExpr o (Binary at op class e f) = SitedExpr o e × SitedExpr o f
    SitedExpr o (AndThen e f) = SitedExpr o e × SitedExpr o f
    SitedExpr o (OrElse e f) = SitedExpr o e × SitedExpr o f
    SitedExpr o (Relation class comparison e f) = SitedExpr o e × SitedExpr o f
    SitedExpr o (Membership class negated e low high) = SitedExpr o e × SitedExpr o low × SitedExpr o high
    SitedExpr o (If condition value otherwise) = SitedExpr o condition × SitedExpr o value × SitedExpr o otherwise
    SitedExpr o (Call at callee sub actuals) = SitedActuals o actuals
    SitedExpr o (Convert check e) = SitedExpr o e
    SitedExpr o (Reduction at attribute by initial None chunk iteration value) = SitedExpr o initial × SitedIteration o o iteration × SitedExpr o value
    SitedExpr o (Reduction at attribute by initial (Some site) chunk iteration value) = Inner o site × SitedExpr o initial × SitedChunk o chunk × SitedIteration o (Some site) iteration × SitedExpr (Some site) value

    pub SitedOptional : Option ℕ → Optional → Type 0
    SitedOptional o Absent = Unit {0}
    SitedOptional o (Present e) = SitedExpr o e

    pub SitedSelections : Option ℕ → Selections → Type 0
    SitedSelections o Whole = Unit {0}
    SitedSelections o (Field number offset rest) = SitedSelections o rest
    SitedSelections o (Index at e low high stride rest) = SitedExpr o e × SitedSelections o rest

    pub SitedActuals : Option ℕ → Actuals → Type 0
    SitedActuals o NoActual = Unit {0}
    SitedActuals o (In formal value rest) = SitedValue o value × SitedActuals o rest
    SitedActuals o (InOut formal at r selections inner outer rest) = SitedSelections o selections × SitedActuals o rest
    SitedActuals o (Out formal at r selections inner outer rest) = SitedSelections o selections × SitedActuals o rest
    SitedActuals o (CompositeInOut formal at r selections subtype rest) = SitedSelections o selections × SitedActuals o rest
    SitedActuals o (CompositeOut formal at r selections subtype rest) = SitedSelections o selections × SitedActuals o rest

    pub SitedValue : Option ℕ → Value → Type 0
    SitedValue o (Number check e) = SitedExpr o e
    SitedValue o (Cells c) = SitedComposite o c

    pub SitedComposite : Option ℕ → Composite → Type 0
    SitedComposite o (WholeVariable at r selections subtype) = SitedSelections o selections
    SitedComposite o (WholeConstant at r selections subtype) = SitedSelections o selections
    SitedComposite o (WholeTarget at subtype) = Unit {0}
    SitedComposite o (CompositeIf condition value otherwise) = SitedExpr o condition × SitedComposite o value × SitedComposite o otherwise
    SitedComposite o (Aggregate at size associations) = SitedAssociations o associations

    pub SitedAssociations : Option ℕ → Associations → Type 0
    SitedAssociations o NoAssociation = Unit {0}
    SitedAssociations o (Association runs iterated mentions value rest) = SitedValue o value × SitedAssociations o rest

    -- the filter stands in the threads of a parallel construct, what is gone through around it
    pub SitedIteration : (around inside : Option ℕ) → Iteration → Type 0
    SitedIteration o i (Range k reverse low high check filter) = SitedExpr o low × SitedExpr o high × SitedOptional i filter
    SitedIteration o i (Components k constant at r selections count stride dimensions filter) = SitedSelections o selections × SitedOptional i filter

    pub SitedChunk : Option ℕ → Chunk → Type 0
    SitedChunk o NoChunk = Unit {0}
    SitedChunk o (Count e) = SitedExpr o e
    SitedChunk o (Each k low high check) = SitedExpr o low × SitedExpr o high

  abbrev pub SitedPieces : Option ℕ → Pieces → Type 0
  SitedPieces o NoPiece = Unit {0}
  SitedPieces o (Text bytes rest) = (text_in program bytes < length (texts_of program)) × SitedPieces o rest
  SitedPieces o (Image class e rest) = SitedExpr o e × SitedPieces o rest
  SitedPieces o (Padded class e width rest) = SitedExpr o e × SitedPieces o rest

  abbrev pub SitedDecls : Option ℕ → Decls → Type 0
  SitedDecls o NoDecl = Unit {0}
  SitedDecls o (DeclareDefault x more) = SitedDecls o more
  SitedDecls o (DeclareVariable x initial more) = SitedValue o initial × SitedDecls o more
  SitedDecls o (DeclareConstant x initial more) = SitedValue o initial × SitedDecls o more
  SitedDecls o (Mentions es more) = SitedDecls o more

  abbrev mutual
    pub SitedStmt : Option ℕ → Stmt → Type 0
    SitedStmt o (Assign at r selections value) = SitedSelections o selections × SitedValue o value
    SitedStmt o (CallProcedure at callee sub actuals) = SitedActuals o actuals
    SitedStmt o (Exit loop condition) = SitedOptional o condition
    SitedStmt o (ReturnValue value) = SitedValue o value
    SitedStmt o (IfThen condition stmts otherwise) = SitedExpr o condition × SitedAll o stmts × SitedAll o otherwise
    SitedStmt o (Case e alternatives) = SitedExpr o e × SitedAlternatives o alternatives
    SitedStmt o (Loop number condition stmts) = SitedOptional o condition × SitedAll o stmts
    SitedStmt o (For number iteration stmts) = SitedIteration o o iteration × SitedAll o stmts
    SitedStmt o (ParallelFor number site chunk iteration stmts) = Inner o site × SitedChunk o chunk × SitedIteration o (Some site) iteration × SitedAll (Some site) stmts
    SitedStmt o (Parallel site count arms) = Inner o site × SitedOptional o count × SitedArms (Some site) arms
    SitedStmt o (Block decls stmts handlers) = SitedDecls o decls × SitedAll o stmts × SitedHandlers o handlers
    SitedStmt o (Put at callee pieces line) = SitedPieces o pieces
    SitedStmt o (Get at callee first r selections scalar) = SitedSelections o selections
    SitedStmt o _ = Unit {0}

    pub SitedAll : Option ℕ → Stmts → Type 0
    SitedAll o End = Unit {0}
    SitedAll o (Then first more) = SitedStmt o first × SitedAll o more

    pub SitedAlternatives : Option ℕ → Alternatives → Type 0
    SitedAlternatives o NoAlternative = Unit {0}
    SitedAlternatives o (Alternative others choices mentions stmts rest) = SitedAll o stmts × SitedAlternatives o rest

    pub SitedArms : Option ℕ → Arms → Type 0
    SitedArms o NoArm = Unit {0}
    SitedArms o (Arm stmts rest) = SitedAll o stmts × SitedArms o rest

    pub SitedHandlers : Option ℕ → Handlers → Type 0
    SitedHandlers o NoHandler = Unit {0}
    SitedHandlers o (Handler handled stmts rest) = SitedAll o stmts × SitedHandlers o rest

  abbrev pub SitedBody : Body → Type 0
  SitedBody body = SitedDecls None body.decls × SitedAll None body.stmts × SitedHandlers None body.handlers

  abbrev pub SitedSubs : List Sub → Type 0
  SitedSubs [] = Unit {0}
  SitedSubs (unit ∷ more) = SitedBody unit.body × SitedSubs more

  abbrev pub IsSited : Type 0
  IsSited = SitedBody program.body × SitedSubs program.subs
