-- What names give of where expressions and statements stand, apart from which way threads go, from the order of statements and
-- from what is new.
use Rattle.std.specs.Prelude.{◌≡◌, ℕ, ◌≤◌, List, [], Option, Some, None, Bool, true, false}
use Rattle.behaviours.specs.Paths.{Entity, VariableOf, ConstantOf}
use Rattle.typed_tree.specs.declared.scalars.Scalar.{Scalar}
use Rattle.typed_tree.specs.declared.program.Formal.{Formal}
use Rattle.typed_tree.specs.declared.program.Mode.TheVariants as mode
use Rattle.typed_tree.specs.Syntax.{Expr, Static, Variable, Constant, Parameter, Target, Group, Unary, Binary, AndThen, OrElse, Relation, Membership, If, Call, Convert, Reduction, Exprs, NoExpr, AlsoExpr, Optional, Absent, Present, Selections, Whole, Field, Index, Actuals, NoActual, In, InOut, Out, CompositeInOut, CompositeOut, Value, Number, Cells, Composite, WholeVariable, WholeConstant, WholeTarget, CompositeIf, Aggregate, Associations, NoAssociation, Association, Iteration, Range, Components, Chunk, NoChunk, Count, Each, Pieces, NoPiece, Text, Image, Padded, Decls, NoDecl, DeclareDefault, DeclareVariable, DeclareConstant, Mentions, Stmt, Null, Assign, CallProcedure, Exit, Return, ReturnValue, Raise, Reraise, IfThen, Case, Loop, For, ParallelFor, Parallel, Block, Put, Get, Stmts, End, Then, Alternatives, NoAlternative, Alternative, Arms, NoArm, Arm, Handlers, NoHandler, Handler, Program}
use Rattle.ada_meaning.specs.Shapes.{cells_of}
use Rattle.typed_scopes.specs.Scopes.{Around, ArraySeen, Called, ConstantSeen, IsGiven, LieWithin, ScopedReducer, VariableSeen, Without, formal_of, handling, object_cells, with_chunk, with_index, with_object, with_outer, with_parameter, with_target}

-- only a construct with threads has chunks
abbrev pub IsChunked : Option ℕ → Chunk → Type 0
IsChunked None chunk = chunk ≡ NoChunk
IsChunked (Some site) chunk = Unit {0}

-- one object more: of the main procedure, or of a text in it
abbrev pub grown : Bool → Entity → Around → Around
grown true y v = with_outer y v
grown false y v = with_object y v

-- what is in scope behind declarations
abbrev pub past : Bool → Around → Decls → Around
past main v NoDecl = v
past main v (DeclareDefault x more) = past main (grown main (VariableOf x) v) more
past main v (DeclareVariable x initial more) = past main (grown main (VariableOf x) v) more
past main v (DeclareConstant x initial more) = past main (grown main (ConstantOf x) v) more
past main v (Mentions es more) = past main v more

module _ (program : Program) (shown : ℕ → Entity → Bool) where
  abbrev mutual
    pub SeenExpr : Around → Expr → Type 0
    SeenExpr v (Static at value literal mentions) = SeenExprs v mentions
    SeenExpr v (Variable at from selections scalar) = VariableSeen v from × SeenSelections v selections
    SeenExpr v (Constant at from selections scalar) = ConstantSeen v from × SeenSelections v selections
    SeenExpr v (Parameter at k) = v.parameter k ≡ true
    SeenExpr v (Target at scalar) = (n : ℕ) × (v.target ≡ Some n) × (1 ≤ n)
    SeenExpr v (Group e) = SeenExpr v e
    SeenExpr v (Unary at sign class e) = SeenExpr v e
    SeenExpr v (Binary at op class e f) = SeenExpr v e × SeenExpr v f
    SeenExpr v (AndThen e f) = SeenExpr v e × SeenExpr v f
    SeenExpr v (OrElse e f) = SeenExpr v e × SeenExpr v f
    SeenExpr v (Relation class comparison e f) = SeenExpr v e × SeenExpr v f
    SeenExpr v (Membership class negated e low high) = SeenExpr v e × SeenExpr v low × SeenExpr v high
    SeenExpr v (If condition value otherwise) = SeenExpr v condition × SeenExpr v value × SeenExpr v otherwise
    SeenExpr v (Call at callee sub actuals) = (u : Called program shown v sub) × ((k : Scalar) × (u.unit.result ≡ Some k)) × SeenIn v u.unit.formals actuals
    SeenExpr v (Convert check e) = SeenExpr v e
    SeenExpr v (Reduction at attribute by initial site chunk iteration value) =
        SeenExpr v initial × SeenChunk v chunk × ScopedReducer program shown v by × IsChunked site chunk
        × SeenIteration v (with_chunk chunk v) iteration (λ u. SeenExpr u value)

    pub SeenExprs : Around → Exprs → Type 0
    SeenExprs v NoExpr = Unit {0}
    SeenExprs v (AlsoExpr e es) = SeenExpr v e × SeenExprs v es

    pub SeenOptional : Around → Optional → Type 0
    SeenOptional v Absent = Unit {0}
    SeenOptional v (Present e) = SeenExpr v e

    pub SeenSelections : Around → Selections → Type 0
    SeenSelections v Whole = Unit {0}
    SeenSelections v (Field number offset rest) = SeenSelections v rest
    SeenSelections v (Index at e low high stride rest) = SeenExpr v e × SeenSelections v rest

    -- actual parameters of a function, one for each formal, in the order of the text (6.4.1)
    pub SeenIn : Around → List Formal → Actuals → Type 0
    SeenIn v fs NoActual = fs ≡ []
    SeenIn v fs (In x value rest) = (gs : List Formal) × Without (formal_of x mode.In) fs gs × SeenValue v (object_cells program x) value × SeenIn v gs rest
    SeenIn v fs (InOut x at from selections inner outer rest) = ⊥
    SeenIn v fs (Out x at from selections inner outer rest) = ⊥
    SeenIn v fs (CompositeInOut x at from selections subtype rest) = ⊥
    SeenIn v fs (CompositeOut x at from selections subtype rest) = ⊥

    -- a value of so many cells
    pub SeenValue : Around → ℕ → Value → Type 0
    SeenValue v n (Number check e) = (n ≡ 1) × SeenExpr v e
    SeenValue v n (Cells c) = SeenComposite v n c

    pub SeenComposite : Around → ℕ → Composite → Type 0
    SeenComposite v n (WholeVariable at from selections subtype) = (cells_of program.subtypes subtype ≡ n) × VariableSeen v from × SeenSelections v selections
    SeenComposite v n (WholeConstant at from selections subtype) = (cells_of program.subtypes subtype ≡ n) × ConstantSeen v from × SeenSelections v selections
    SeenComposite v n (WholeTarget at subtype) = (cells_of program.subtypes subtype ≡ n) × (v.target ≡ Some n)
    SeenComposite v n (CompositeIf condition value otherwise) = SeenExpr v condition × SeenComposite v n value × SeenComposite v n otherwise
    SeenComposite v n (Aggregate at size associations) = (size ≡ n) × SeenAssociations v n associations

    -- associations of an aggregate of so many cells
    pub SeenAssociations : Around → ℕ → Associations → Type 0
    SeenAssociations v n NoAssociation = Unit {0}
    SeenAssociations v n (Association runs iterated mentions value rest) =
        IsGiven iterated runs × SeenExprs v mentions × ((m : ℕ) × LieWithin n m runs × SeenValue (with_index iterated v) m value) × SeenAssociations v n rest

    -- an iteration, with its body; the filter and the body have its parameter, and that of the chunks
    pub SeenIteration : Around → Around → Iteration → (Around → Type 0) → Type 0
    SeenIteration v u (Range k reverse low high check filter) body = SeenExpr v low × SeenExpr v high × SeenOptional (with_parameter k u) filter × body (with_parameter k u)
    SeenIteration v u (Components k constant at from selections number stride dimensions filter) body =
        (1 ≤ number) × ArraySeen constant v from × SeenSelections v selections × SeenOptional u filter × body u

    pub SeenChunk : Around → Chunk → Type 0
    SeenChunk v NoChunk = Unit {0}
    SeenChunk v (Count e) = SeenExpr v e
    SeenChunk v (Each k low high check) = SeenExpr v low × SeenExpr v high

  -- actual parameters of a procedure, one for each formal, in the order of the text (6.4.1)
  abbrev pub SeenActuals : Around → List Formal → Actuals → Type 0
  SeenActuals v fs NoActual = fs ≡ []
  SeenActuals v fs (In x value rest) = (gs : List Formal) × Without (formal_of x mode.In) fs gs × SeenValue v (object_cells program x) value × SeenActuals v gs rest
  SeenActuals v fs (InOut x at from selections inner outer rest) =
      (gs : List Formal) × Without (formal_of x mode.InOut) fs gs × (object_cells program x ≡ 1) × VariableSeen v from × SeenSelections v selections × SeenActuals v gs rest
  SeenActuals v fs (Out x at from selections inner outer rest) =
      (gs : List Formal) × Without (formal_of x mode.Out) fs gs × (object_cells program x ≡ 1) × VariableSeen v from × SeenSelections v selections × SeenActuals v gs rest
  SeenActuals v fs (CompositeInOut x at from selections subtype rest) =
      (gs : List Formal) × Without (formal_of x mode.InOut) fs gs × (object_cells program x ≡ cells_of program.subtypes subtype) × VariableSeen v from × SeenSelections v selections × SeenActuals v gs rest
  SeenActuals v fs (CompositeOut x at from selections subtype rest) =
      (gs : List Formal) × Without (formal_of x mode.Out) fs gs × (object_cells program x ≡ cells_of program.subtypes subtype) × VariableSeen v from × SeenSelections v selections × SeenActuals v gs rest

  -- the width of a field is static (A.10.8)
  abbrev pub SeenPieces : Around → Pieces → Type 0
  SeenPieces v NoPiece = Unit {0}
  SeenPieces v (Text bytes rest) = SeenPieces v rest
  SeenPieces v (Image class e rest) = SeenExpr v e × SeenPieces v rest
  SeenPieces v (Padded class e (Static at value literal mentions) rest) = SeenExpr v e × SeenExprs v mentions × SeenPieces v rest
  SeenPieces v (Padded class e most rest) = ⊥

  abbrev pub SeenDecls : Bool → Around → Decls → Type 0
  SeenDecls main v NoDecl = Unit {0}
  SeenDecls main v (DeclareDefault x more) = SeenDecls main (grown main (VariableOf x) v) more
  SeenDecls main v (DeclareVariable x initial more) = SeenValue v (object_cells program x) initial × SeenDecls main (grown main (VariableOf x) v) more
  SeenDecls main v (DeclareConstant x initial more) = SeenValue v (object_cells program x) initial × SeenDecls main (grown main (ConstantOf x) v) more
  SeenDecls main v (Mentions es more) = SeenExprs v es × SeenDecls main v more

  abbrev pub SeenNumber : Around → Value → Type 0
  SeenNumber v (Number check e) = SeenExpr v e
  SeenNumber v (Cells c) = Unit {0}

  abbrev mutual
    pub SeenStmt : Around → Stmt → Type 0
    SeenStmt v Null = Unit {0}
    SeenStmt v (Assign at from selections value) = VariableSeen v from × SeenSelections v selections × ((n : ℕ) × SeenValue (with_target n v) n value)
    SeenStmt v (CallProcedure at callee sub actuals) = (u : Called program shown v sub) × (u.unit.result ≡ None) × SeenActuals v u.unit.formals actuals
    SeenStmt v (Exit loop condition) = SeenOptional v condition
    SeenStmt v Return = Unit {0}
    SeenStmt v (ReturnValue value) = SeenNumber v value
    SeenStmt v (Raise reason) = Unit {0}
    SeenStmt v Reraise = Unit {0}
    SeenStmt v (IfThen condition stmts otherwise) = SeenExpr v condition × SeenAll v stmts × SeenAll v otherwise
    SeenStmt v (Case e alternatives) = SeenExpr v e × SeenAlternatives v alternatives
    SeenStmt v (Loop number condition stmts) = SeenOptional v condition × SeenAll v stmts
    SeenStmt v (For number iteration stmts) = SeenIteration v v iteration (λ u. SeenAll u stmts)
    SeenStmt v (ParallelFor number site chunk iteration stmts) = SeenChunk v chunk × SeenIteration v (with_chunk chunk v) iteration (λ u. SeenAll u stmts)
    SeenStmt v (Parallel site count arms) = SeenOptional v count × SeenArms v arms
    SeenStmt v (Block decls stmts handlers) = SeenDecls false v decls × SeenAll (past false v decls) stmts × SeenHandlers (handling (past false v decls)) handlers
    SeenStmt v (Put at callee pieces line) = SeenPieces v pieces
    SeenStmt v (Get at callee first from selections scalar) = VariableSeen v from × SeenSelections v selections

    pub SeenAll : Around → Stmts → Type 0
    SeenAll v End = Unit {0}
    SeenAll v (Then s ss) = SeenStmt v s × SeenAll v ss

    pub SeenAlternatives : Around → Alternatives → Type 0
    SeenAlternatives v NoAlternative = Unit {0}
    SeenAlternatives v (Alternative others choices mentions stmts rest) = SeenExprs v mentions × SeenAll v stmts × SeenAlternatives v rest

    pub SeenArms : Around → Arms → Type 0
    SeenArms v NoArm = Unit {0}
    SeenArms v (Arm stmts rest) = SeenAll v stmts × SeenArms v rest

    pub SeenHandlers : Around → Handlers → Type 0
    SeenHandlers v NoHandler = Unit {0}
    SeenHandlers v (Handler handled stmts rest) = SeenAll v stmts × SeenHandlers v rest
