-- Constructs are numbered from the outside in: what stands in the threads of a construct has greater numbers (5.5, 5.6.1,
-- 4.5.10).
use Rattle.std.specs.Prelude.{ℕ, ◌<◌, List, [], ◌∷◌, Option, Some, None}
use Rattle.typed_tree.specs.Syntax.{Expr, Static, Variable, Constant, Parameter, Target, Group, Unary, Binary, AndThen, OrElse, Relation, Membership, If, Call, Convert, Reduction, Optional, Absent, Present, Selections, Whole, Field, Index, Actuals, NoActual, In, InOut, Out, CompositeInOut, CompositeOut, Value, Number, Cells, Composite, WholeVariable, WholeConstant, WholeTarget, CompositeIf, Aggregate, Associations, NoAssociation, Association, Iteration, Range, Components, Chunk, NoChunk, Count, Each, Pieces, NoPiece, Text, Image, Padded, Decls, NoDecl, DeclareDefault, DeclareVariable, DeclareConstant, Mentions, Stmt, Assign, CallProcedure, Exit, ReturnValue, IfThen, Case, Loop, For, ParallelFor, Parallel, Block, Put, Get, Stmts, End, Then, Alternatives, NoAlternative, Alternative, Arms, NoArm, Arm, Handlers, NoHandler, Handler, Body, Sub, Program}

-- a construct stands outside threads, or has a greater number than the one in whose threads it stands
abbrev pub Follows : Option ℕ → ℕ → Type 0
Follows None site = Unit {0}
Follows (Some outer) site = outer < site

-- with the construct in whose threads a text stands
abbrev mutual
  pub NestedExpr : Option ℕ → Expr → Type 0
  NestedExpr o (Static at value literal mentions) = Unit {0}
  NestedExpr o (Variable at r selections scalar) = NestedSelections o selections
  NestedExpr o (Constant at r selections scalar) = NestedSelections o selections
  NestedExpr o (Parameter at k) = Unit {0}
  NestedExpr o (Target at scalar) = Unit {0}
  NestedExpr o (Group e) = NestedExpr o e
  NestedExpr o (Unary at sign class e) = NestedExpr o e
  NestedExpr o (Binary at op class e f) = NestedExpr o e × NestedExpr o f
  NestedExpr o (AndThen e f) = NestedExpr o e × NestedExpr o f
  NestedExpr o (OrElse e f) = NestedExpr o e × NestedExpr o f
  NestedExpr o (Relation class comparison e f) = NestedExpr o e × NestedExpr o f
  NestedExpr o (Membership class negated e low high) = NestedExpr o e × NestedExpr o low × NestedExpr o high
  NestedExpr o (If condition value otherwise) = NestedExpr o condition × NestedExpr o value × NestedExpr o otherwise
  NestedExpr o (Call at callee sub actuals) = NestedActuals o actuals
  NestedExpr o (Convert check e) = NestedExpr o e
  NestedExpr o (Reduction at attribute by initial None chunk iteration value) = NestedExpr o initial × NestedIteration o o iteration × NestedExpr o value
  NestedExpr o (Reduction at attribute by initial (Some site) chunk iteration value) = Follows o site × NestedExpr o initial × NestedChunk o chunk × NestedIteration o (Some site) iteration × NestedExpr (Some site) value

  pub NestedOptional : Option ℕ → Optional → Type 0
  NestedOptional o Absent = Unit {0}
  NestedOptional o (Present e) = NestedExpr o e

  pub NestedSelections : Option ℕ → Selections → Type 0
  NestedSelections o Whole = Unit {0}
  NestedSelections o (Field number offset rest) = NestedSelections o rest
  NestedSelections o (Index at e low high stride rest) = NestedExpr o e × NestedSelections o rest

  pub NestedActuals : Option ℕ → Actuals → Type 0
  NestedActuals o NoActual = Unit {0}
  NestedActuals o (In formal value rest) = NestedValue o value × NestedActuals o rest
  NestedActuals o (InOut formal at r selections inner outer rest) = NestedSelections o selections × NestedActuals o rest
  NestedActuals o (Out formal at r selections inner outer rest) = NestedSelections o selections × NestedActuals o rest
  NestedActuals o (CompositeInOut formal at r selections subtype rest) = NestedSelections o selections × NestedActuals o rest
  NestedActuals o (CompositeOut formal at r selections subtype rest) = NestedSelections o selections × NestedActuals o rest

  pub NestedValue : Option ℕ → Value → Type 0
  NestedValue o (Number check e) = NestedExpr o e
  NestedValue o (Cells c) = NestedComposite o c

  pub NestedComposite : Option ℕ → Composite → Type 0
  NestedComposite o (WholeVariable at r selections subtype) = NestedSelections o selections
  NestedComposite o (WholeConstant at r selections subtype) = NestedSelections o selections
  NestedComposite o (WholeTarget at subtype) = Unit {0}
  NestedComposite o (CompositeIf condition value otherwise) = NestedExpr o condition × NestedComposite o value × NestedComposite o otherwise
  NestedComposite o (Aggregate at size associations) = NestedAssociations o associations

  pub NestedAssociations : Option ℕ → Associations → Type 0
  NestedAssociations o NoAssociation = Unit {0}
  NestedAssociations o (Association runs iterated mentions value rest) = NestedValue o value × NestedAssociations o rest

  -- the filter stands in the threads of a parallel construct, what is gone through around it
  pub NestedIteration : (around inside : Option ℕ) → Iteration → Type 0
  NestedIteration o i (Range k reverse low high check filter) = NestedExpr o low × NestedExpr o high × NestedOptional i filter
  NestedIteration o i (Components k constant at r selections count stride dimensions filter) = NestedSelections o selections × NestedOptional i filter

  pub NestedChunk : Option ℕ → Chunk → Type 0
  NestedChunk o NoChunk = Unit {0}
  NestedChunk o (Count e) = NestedExpr o e
  NestedChunk o (Each k low high check) = NestedExpr o low × NestedExpr o high

abbrev pub NestedPieces : Option ℕ → Pieces → Type 0
NestedPieces o NoPiece = Unit {0}
NestedPieces o (Text bytes rest) = NestedPieces o rest
NestedPieces o (Image class e rest) = NestedExpr o e × NestedPieces o rest
NestedPieces o (Padded class e width rest) = NestedExpr o e × NestedPieces o rest

abbrev pub NestedDecls : Option ℕ → Decls → Type 0
NestedDecls o NoDecl = Unit {0}
NestedDecls o (DeclareDefault x more) = NestedDecls o more
NestedDecls o (DeclareVariable x initial more) = NestedValue o initial × NestedDecls o more
NestedDecls o (DeclareConstant x initial more) = NestedValue o initial × NestedDecls o more
NestedDecls o (Mentions es more) = NestedDecls o more

abbrev mutual
  pub NestedStmt : Option ℕ → Stmt → Type 0
  NestedStmt o (Assign at r selections value) = NestedSelections o selections × NestedValue o value
  NestedStmt o (CallProcedure at callee sub actuals) = NestedActuals o actuals
  NestedStmt o (Exit loop condition) = NestedOptional o condition
  NestedStmt o (ReturnValue value) = NestedValue o value
  NestedStmt o (IfThen condition stmts otherwise) = NestedExpr o condition × NestedAll o stmts × NestedAll o otherwise
  NestedStmt o (Case e alternatives) = NestedExpr o e × NestedAlternatives o alternatives
  NestedStmt o (Loop number condition stmts) = NestedOptional o condition × NestedAll o stmts
  NestedStmt o (For number iteration stmts) = NestedIteration o o iteration × NestedAll o stmts
  NestedStmt o (ParallelFor number site chunk iteration stmts) = Follows o site × NestedChunk o chunk × NestedIteration o (Some site) iteration × NestedAll (Some site) stmts
  NestedStmt o (Parallel site count arms) = Follows o site × NestedOptional o count × NestedArms (Some site) arms
  NestedStmt o (Block decls stmts handlers) = NestedDecls o decls × NestedAll o stmts × NestedHandlers o handlers
  NestedStmt o (Put at callee pieces line) = NestedPieces o pieces
  NestedStmt o (Get at callee first r selections scalar) = NestedSelections o selections
  NestedStmt o _ = Unit {0}

  pub NestedAll : Option ℕ → Stmts → Type 0
  NestedAll o End = Unit {0}
  NestedAll o (Then first more) = NestedStmt o first × NestedAll o more

  pub NestedAlternatives : Option ℕ → Alternatives → Type 0
  NestedAlternatives o NoAlternative = Unit {0}
  NestedAlternatives o (Alternative others choices mentions stmts rest) = NestedAll o stmts × NestedAlternatives o rest

  pub NestedArms : Option ℕ → Arms → Type 0
  NestedArms o NoArm = Unit {0}
  NestedArms o (Arm stmts rest) = NestedAll o stmts × NestedArms o rest

  pub NestedHandlers : Option ℕ → Handlers → Type 0
  NestedHandlers o NoHandler = Unit {0}
  NestedHandlers o (Handler handled stmts rest) = NestedAll o stmts × NestedHandlers o rest

abbrev pub NestedBody : Body → Type 0
NestedBody body = NestedDecls None body.decls × NestedAll None body.stmts × NestedHandlers None body.handlers

abbrev pub NestedSubs : List Sub → Type 0
NestedSubs [] = Unit {0}
NestedSubs (unit ∷ more) = NestedBody unit.body × NestedSubs more

-- so it is in a program
abbrev pub SitesAreNested : Program → Type 0
SitesAreNested p = NestedBody p.body × NestedSubs p.subs
