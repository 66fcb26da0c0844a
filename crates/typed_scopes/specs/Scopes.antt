-- What is in scope where a part of a typed program stands (8.2, 8.3), and that values have as many cells as what they go to
-- (3.6, 3.8, 5.2, 6.4.1).
use Rattle.std.specs.Prelude.{◌≡◌, ◌⊎◌, ℕ, ◌+◌, ◌*◌, ◌<◌, ◌≤◌, nat_eq, List, [], ◌∷◌, length, Option, Some, None, Bool, true, false, cond}
use Rattle.behaviours.specs.Paths.{Entity, VariableOf, ConstantOf, entity_eq}
use Rattle.typed_tree.specs.declared.scalars.Scalar.{Scalar}
use Rattle.typed_tree.specs.declared.expressions.Root.{Root}
use Rattle.typed_tree.specs.declared.expressions.Root.TheVariants as root
use Rattle.typed_tree.specs.declared.expressions.Run.{Run}
use Rattle.typed_tree.specs.declared.expressions.Iterated.{Iterated}
use Rattle.typed_tree.specs.declared.expressions.Reducer.{Reducer}
use Rattle.typed_tree.specs.declared.expressions.Reducer.TheVariants.{Operator, Function}
use Rattle.typed_tree.specs.declared.program.Formal.{Formal}
use Rattle.typed_tree.specs.declared.program.Mode.{Mode}
use Rattle.typed_tree.specs.declared.program.Mode.TheVariants as mode
use Rattle.typed_tree.specs.Syntax.{Expr, Static, Variable, Constant, Parameter, Target, Group, Unary, Binary, AndThen, OrElse, Relation, Membership, If, Call, Convert, Reduction, Exprs, NoExpr, AlsoExpr, Optional, Absent, Present, Selections, Whole, Field, Index, Actuals, NoActual, In, InOut, Out, CompositeInOut, CompositeOut, Value, Number, Cells, Composite, WholeVariable, WholeConstant, WholeTarget, CompositeIf, Aggregate, Associations, NoAssociation, Association, Iteration, Range, Components, Chunk, NoChunk, Count, Each, Pieces, NoPiece, Text, Image, Padded, Decls, NoDecl, DeclareDefault, DeclareVariable, DeclareConstant, Mentions, Stmt, Null, Assign, CallProcedure, Exit, Return, ReturnValue, Raise, Reraise, IfThen, Case, Loop, For, ParallelFor, Parallel, Block, Put, Get, Stmts, End, Then, Alternatives, NoAlternative, Alternative, Arms, NoArm, Arm, Handled, Others, Handlers, NoHandler, Handler, Sub, Program}
use Rattle.ada_meaning.specs.Meaning.{sub_at, object_layout, arms_of, most_threads}
use Rattle.ada_meaning.specs.Shapes.{cells_of}

-- what is in scope: objects; those that may not be declared again; the main procedure's objects that are there; parameters;
-- how many cells the target of the assignment has; whether a handler is around
pub record Around : Type 0 where
  pub object : Entity → Bool
  pub taken : Entity → Bool
  pub outer : Entity → Bool
  pub parameter : ℕ → Bool
  pub target : Option ℕ
  pub handled : Bool

abbrev pub with_object : Entity → Around → Around
with_object y v = record v { object = λ z. cond (entity_eq y z) true (v.object z); taken = λ z. cond (entity_eq y z) true (v.taken z) }

-- an object of the main procedure
abbrev pub with_outer : Entity → Around → Around
with_outer y v = record (with_object y v) { outer = λ z. cond (entity_eq y z) true (v.outer z) }

abbrev pub with_parameter : ℕ → Around → Around
with_parameter k v = record v { parameter = λ j. cond (nat_eq j k) true (v.parameter j) }

abbrev pub with_target : ℕ → Around → Around
with_target n v = record v { target = Some n }

abbrev pub handling : Around → Around
handling v = record v { handled = true }

abbrev pub with_chunk : Chunk → Around → Around
with_chunk NoChunk v = v
with_chunk (Count e) v = v
with_chunk (Each k low high check) v = with_parameter k v

abbrev pub with_index : Option Iterated → Around → Around
with_index None v = v
with_index (Some i) v = with_parameter i.parameter v

-- the object that a name begins with is in scope; items are where they are known
abbrev pub VariableSeen : Around → Root → Type 0
VariableSeen v (root.Object x) = v.object (VariableOf x) ≡ true
VariableSeen v (root.Item k) = Unit {0}

abbrev pub ConstantSeen : Around → Root → Type 0
ConstantSeen v (root.Object x) = v.object (ConstantOf x) ≡ true
ConstantSeen v (root.Item k) = Unit {0}

abbrev pub ArraySeen : Bool → Around → Root → Type 0
ArraySeen true v r = ConstantSeen v r
ArraySeen false v r = VariableSeen v r

-- others stands last (5.4, 11.2)
abbrev pub IsLast : Bool → Alternatives → Type 0
IsLast true (Alternative others choices mentions stmts rest) = ⊥
IsLast o rest = Unit {0}

abbrev pub IsLastHandler : Handled → Handlers → Type 0
IsLastHandler Others (Handler handled stmts rest) = ⊥
IsLastHandler o rest = Unit {0}

-- an iterated association gives a component at least
abbrev pub IsGiven : Option Iterated → List Run → Type 0
IsGiven (Some i) [] = ⊥
IsGiven i rs = Unit {0}

-- runs of components of so many cells lie among so many, and each gives one at least
abbrev pub LieWithin : ℕ → ℕ → List Run → Type 0
LieWithin n m [] = Unit {0}
LieWithin n m (r ∷ rs) = (1 ≤ r.count) × ((k : ℕ) → k < r.count → r.first + k * r.stride + m ≤ n) × LieWithin n m rs

-- one of a list, and the others in order
abbrev pub Without : {A : Type 0} → A → List A → List A → Type 0
Without x [] zs = ⊥
Without {A} x (y ∷ ys) zs = ((y ≡ x) × (zs ≡ ys)) ⊎ ((ws : List A) × (zs ≡ y ∷ ws) × Without x ys ws)

abbrev pub formal_of : ℕ → Mode → Formal
formal_of x m = record { object = x; mode = m }

abbrev pub entity_of : Formal → Entity
entity_of f = go f.mode
  where
    go : Mode → Entity
    go mode.In = ConstantOf f.object
    go mode.InOut = VariableOf f.object
    go mode.Out = VariableOf f.object

-- threads take the iterations of a construct forward
abbrev pub IsForward : Iteration → Type 0
IsForward (Range k reverse low high check filter) = reverse ≡ false
IsForward (Components k constant at from selections number stride dimensions filter) = Unit {0}

-- only a construct with threads has chunks
abbrev pub IsFolded : Option ℕ → Chunk → Iteration → Type 0
IsFolded None chunk iteration = chunk ≡ NoChunk
IsFolded (Some site) chunk iteration = IsForward iteration

abbrev pub object_cells : Program → ℕ → ℕ
object_cells program x = length (object_layout program x)

-- with the objects of the main procedure that each subprogram sees
module _ (program : Program) (shown : ℕ → Entity → Bool) where
  -- a subprogram that may be called there: the main procedure's objects that it sees are there
  pub record Called (v : Around) (sub : ℕ) : Type 0 where
    pub unit : Sub
    pub is : sub_at program.subs sub ≡ Some unit
    pub may : (y : Entity) → shown sub y ≡ true → v.outer y ≡ true

  abbrev pub ScopedReducer : Around → Reducer → Type 0
  ScopedReducer v (Operator at op class) = Unit {0}
  ScopedReducer v (Function at sub accumulator value) =
      (u : Called v sub) × ((k : Scalar) × (u.unit.result ≡ Some k))
      × ((x y : ℕ) × (u.unit.formals ≡ formal_of x mode.In ∷ formal_of y mode.In ∷ []) × (object_cells program x ≡ 1) × (object_cells program y ≡ 1))

  abbrev mutual
    pub ScopedExpr : Around → Expr → Type 0
    ScopedExpr v (Static at value literal mentions) = ScopedExprs v mentions
    ScopedExpr v (Variable at from selections scalar) = VariableSeen v from × ScopedSelections v selections
    ScopedExpr v (Constant at from selections scalar) = ConstantSeen v from × ScopedSelections v selections
    ScopedExpr v (Parameter at k) = v.parameter k ≡ true
    ScopedExpr v (Target at scalar) = (n : ℕ) × (v.target ≡ Some n) × (1 ≤ n)
    ScopedExpr v (Group e) = ScopedExpr v e
    ScopedExpr v (Unary at sign class e) = ScopedExpr v e
    ScopedExpr v (Binary at op class e f) = ScopedExpr v e × ScopedExpr v f
    ScopedExpr v (AndThen e f) = ScopedExpr v e × ScopedExpr v f
    ScopedExpr v (OrElse e f) = ScopedExpr v e × ScopedExpr v f
    ScopedExpr v (Relation class comparison e f) = ScopedExpr v e × ScopedExpr v f
    ScopedExpr v (Membership class negated e low high) = ScopedExpr v e × ScopedExpr v low × ScopedExpr v high
    ScopedExpr v (If condition value otherwise) = ScopedExpr v condition × ScopedExpr v value × ScopedExpr v otherwise
    ScopedExpr v (Call at callee sub actuals) = (u : Called v sub) × ((k : Scalar) × (u.unit.result ≡ Some k)) × ScopedIn v u.unit.formals actuals
    ScopedExpr v (Convert check e) = ScopedExpr v e
    ScopedExpr v (Reduction at attribute by initial site chunk iteration value) =
        ScopedExpr v initial × ScopedChunk v chunk × ScopedReducer v by × IsFolded site chunk iteration
        × ScopedIteration v (with_chunk chunk v) iteration (λ u. ScopedExpr u value)

    -- text that is mentioned and isn't evaluated is in scope, too (4.1.4, 8.2)
    pub ScopedExprs : Around → Exprs → Type 0
    ScopedExprs v NoExpr = Unit {0}
    ScopedExprs v (AlsoExpr e es) = ScopedExpr v e × ScopedExprs v es

    pub ScopedOptional : Around → Optional → Type 0
    ScopedOptional v Absent = Unit {0}
    ScopedOptional v (Present e) = ScopedExpr v e

    pub ScopedSelections : Around → Selections → Type 0
    ScopedSelections v Whole = Unit {0}
    ScopedSelections v (Field number offset rest) = ScopedSelections v rest
    ScopedSelections v (Index at e low high stride rest) = ScopedExpr v e × ScopedSelections v rest

    -- actual parameters of a function, one for each formal, in the order of the text (6.4.1)
    pub ScopedIn : Around → List Formal → Actuals → Type 0
    ScopedIn v fs NoActual = fs ≡ []
    ScopedIn v fs (In x value rest) = (gs : List Formal) × Without (formal_of x mode.In) fs gs × ScopedValue v (object_cells program x) value × ScopedIn v gs rest
    ScopedIn v fs (InOut x at from selections inner outer rest) = ⊥
    ScopedIn v fs (Out x at from selections inner outer rest) = ⊥
    ScopedIn v fs (CompositeInOut x at from selections subtype rest) = ⊥
    ScopedIn v fs (CompositeOut x at from selections subtype rest) = ⊥

    -- a value of so many cells
    pub ScopedValue : Around → ℕ → Value → Type 0
    ScopedValue v n (Number check e) = (n ≡ 1) × ScopedExpr v e
    ScopedValue v n (Cells c) = ScopedComposite v n c

    pub ScopedComposite : Around → ℕ → Composite → Type 0
    ScopedComposite v n (WholeVariable at from selections subtype) = (cells_of program.subtypes subtype ≡ n) × VariableSeen v from × ScopedSelections v selections
    ScopedComposite v n (WholeConstant at from selections subtype) = (cells_of program.subtypes subtype ≡ n) × ConstantSeen v from × ScopedSelections v selections
    ScopedComposite v n (WholeTarget at subtype) = (cells_of program.subtypes subtype ≡ n) × (v.target ≡ Some n)
    ScopedComposite v n (CompositeIf condition value otherwise) = ScopedExpr v condition × ScopedComposite v n value × ScopedComposite v n otherwise
    ScopedComposite v n (Aggregate at size associations) = (size ≡ n) × ScopedAssociations v n associations

    -- associations of an aggregate of so many cells
    pub ScopedAssociations : Around → ℕ → Associations → Type 0
    ScopedAssociations v n NoAssociation = Unit {0}
    ScopedAssociations v n (Association runs iterated mentions value rest) =
        IsGiven iterated runs × ScopedExprs v mentions × ((m : ℕ) × LieWithin n m runs × ScopedValue (with_index iterated v) m value) × ScopedAssociations v n rest

    -- an iteration, with its body; the filter and the body have its parameter, and that of the chunks
    pub ScopedIteration : Around → Around → Iteration → (Around → Type 0) → Type 0
    ScopedIteration v u (Range k reverse low high check filter) body = ScopedExpr v low × ScopedExpr v high × ScopedOptional (with_parameter k u) filter × body (with_parameter k u)
    ScopedIteration v u (Components k constant at from selections number stride dimensions filter) body =
        (1 ≤ number) × ArraySeen constant v from × ScopedSelections v selections × ScopedOptional u filter × body u

    pub ScopedChunk : Around → Chunk → Type 0
    ScopedChunk v NoChunk = Unit {0}
    ScopedChunk v (Count e) = ScopedExpr v e
    ScopedChunk v (Each k low high check) = ScopedExpr v low × ScopedExpr v high

  -- actual parameters of a procedure, one for each formal, in the order of the text (6.4.1)
  abbrev pub ScopedActuals : Around → List Formal → Actuals → Type 0
  ScopedActuals v fs NoActual = fs ≡ []
  ScopedActuals v fs (In x value rest) = (gs : List Formal) × Without (formal_of x mode.In) fs gs × ScopedValue v (object_cells program x) value × ScopedActuals v gs rest
  ScopedActuals v fs (InOut x at from selections inner outer rest) =
      (gs : List Formal) × Without (formal_of x mode.InOut) fs gs × (object_cells program x ≡ 1) × VariableSeen v from × ScopedSelections v selections × ScopedActuals v gs rest
  ScopedActuals v fs (Out x at from selections inner outer rest) =
      (gs : List Formal) × Without (formal_of x mode.Out) fs gs × (object_cells program x ≡ 1) × VariableSeen v from × ScopedSelections v selections × ScopedActuals v gs rest
  ScopedActuals v fs (CompositeInOut x at from selections subtype rest) =
      (gs : List Formal) × Without (formal_of x mode.InOut) fs gs × (object_cells program x ≡ cells_of program.subtypes subtype) × VariableSeen v from × ScopedSelections v selections × ScopedActuals v gs rest
  ScopedActuals v fs (CompositeOut x at from selections subtype rest) =
      (gs : List Formal) × Without (formal_of x mode.Out) fs gs × (object_cells program x ≡ cells_of program.subtypes subtype) × VariableSeen v from × ScopedSelections v selections × ScopedActuals v gs rest

  -- the width of a field is static (A.10.8)
  abbrev pub ScopedPieces : Around → Pieces → Type 0
  ScopedPieces v NoPiece = Unit {0}
  ScopedPieces v (Text bytes rest) = ScopedPieces v rest
  ScopedPieces v (Image class e rest) = ScopedExpr v e × ScopedPieces v rest
  ScopedPieces v (Padded class e (Static at value literal mentions) rest) = ScopedExpr v e × ScopedExprs v mentions × ScopedPieces v rest
  ScopedPieces v (Padded class e most rest) = ⊥

  -- declarations, with what is in their scope (3.1); none is of an object that is in scope already
  abbrev pub ScopedDecls : Around → Decls → (Around → Type 0) → Type 0
  ScopedDecls v NoDecl body = body v
  ScopedDecls v (DeclareDefault x more) body = (v.taken (VariableOf x) ≡ false) × ScopedDecls (with_object (VariableOf x) v) more body
  ScopedDecls v (DeclareVariable x initial more) body = (v.taken (VariableOf x) ≡ false) × ScopedValue v (object_cells program x) initial × ScopedDecls (with_object (VariableOf x) v) more body
  ScopedDecls v (DeclareConstant x initial more) body = (v.taken (ConstantOf x) ≡ false) × ScopedValue v (object_cells program x) initial × ScopedDecls (with_object (ConstantOf x) v) more body
  ScopedDecls v (Mentions es more) body = ScopedExprs v es × ScopedDecls v more body

  -- those of the main procedure
  abbrev pub ScopedMain : Around → Decls → (Around → Type 0) → Type 0
  ScopedMain v NoDecl body = body v
  ScopedMain v (DeclareDefault x more) body = (v.taken (VariableOf x) ≡ false) × ScopedMain (with_outer (VariableOf x) v) more body
  ScopedMain v (DeclareVariable x initial more) body = (v.taken (VariableOf x) ≡ false) × ScopedValue v (object_cells program x) initial × ScopedMain (with_outer (VariableOf x) v) more body
  ScopedMain v (DeclareConstant x initial more) body = (v.taken (ConstantOf x) ≡ false) × ScopedValue v (object_cells program x) initial × ScopedMain (with_outer (ConstantOf x) v) more body
  ScopedMain v (Mentions es more) body = ScopedExprs v es × ScopedMain v more body

  abbrev mutual
    pub ScopedStmt : Around → Stmt → Type 0
    ScopedStmt v Null = Unit {0}
    ScopedStmt v (Assign at from selections value) = VariableSeen v from × ScopedSelections v selections × ((n : ℕ) × ScopedValue (with_target n v) n value)
    ScopedStmt v (CallProcedure at callee sub actuals) = (u : Called v sub) × (u.unit.result ≡ None) × ScopedActuals v u.unit.formals actuals
    ScopedStmt v (Exit loop condition) = ScopedOptional v condition
    ScopedStmt v Return = Unit {0}
    ScopedStmt v (ReturnValue (Number check e)) = ScopedExpr v e
    ScopedStmt v (ReturnValue (Cells c)) = ⊥
    ScopedStmt v (Raise reason) = Unit {0}
    ScopedStmt v Reraise = v.handled ≡ true
    ScopedStmt v (IfThen condition stmts otherwise) = ScopedExpr v condition × ScopedAll v stmts × ScopedAll v otherwise
    ScopedStmt v (Case e alternatives) = ScopedExpr v e × ScopedAlternatives v alternatives
    ScopedStmt v (Loop number condition stmts) = ScopedOptional v condition × ScopedAll v stmts
    ScopedStmt v (For number iteration stmts) = ScopedIteration v v iteration (λ u. ScopedAll u stmts)
    ScopedStmt v (ParallelFor number site chunk iteration stmts) = ScopedChunk v chunk × IsForward iteration × ScopedIteration v (with_chunk chunk v) iteration (λ u. ScopedAll u stmts)
    ScopedStmt v (Parallel site count arms) = ScopedOptional v count × (1 ≤ arms_of arms) × (arms_of arms ≤ most_threads) × ScopedArms v arms
    ScopedStmt v (Block decls stmts handlers) = ScopedDecls v decls (λ u. ScopedAll u stmts × ScopedHandlers (handling u) handlers)
    ScopedStmt v (Put at callee pieces line) = ScopedPieces v pieces
    ScopedStmt v (Get at callee first from selections scalar) = VariableSeen v from × ScopedSelections v selections

    pub ScopedAll : Around → Stmts → Type 0
    ScopedAll v End = Unit {0}
    ScopedAll v (Then s ss) = ScopedStmt v s × ScopedAll v ss

    pub ScopedAlternatives : Around → Alternatives → Type 0
    ScopedAlternatives v NoAlternative = Unit {0}
    ScopedAlternatives v (Alternative others choices mentions stmts rest) = IsLast others rest × ScopedExprs v mentions × ScopedAll v stmts × ScopedAlternatives v rest

    pub ScopedArms : Around → Arms → Type 0
    ScopedArms v NoArm = Unit {0}
    ScopedArms v (Arm stmts rest) = ScopedAll v stmts × ScopedArms v rest

    pub ScopedHandlers : Around → Handlers → Type 0
    ScopedHandlers v NoHandler = Unit {0}
    ScopedHandlers v (Handler handled stmts rest) = IsLastHandler handled rest × ScopedAll v stmts × ScopedHandlers v rest

-- ---- bodies

-- the formal parameters, in order, and what is in their scope
abbrev pub FreshFormals : Around → List Formal → Type 0
FreshFormals v [] = Unit {0}
FreshFormals v (f ∷ fs) = (v.taken (entity_of f) ≡ false) × FreshFormals (with_object (entity_of f) v) fs

abbrev pub with_formals : Around → List Formal → Around
with_formals v [] = v
with_formals v (f ∷ fs) = with_formals (with_object (entity_of f) v) fs

-- the main procedure, before its declarations and behind them
abbrev pub outset : Around
outset = record { object = λ y. false; taken = λ y. false; outer = λ y. false; parameter = λ k. false; target = None; handled = false }

abbrev pub behind : Around → Decls → Around
behind v NoDecl = v
behind v (DeclareDefault x more) = behind (with_outer (VariableOf x) v) more
behind v (DeclareVariable x initial more) = behind (with_outer (VariableOf x) v) more
behind v (DeclareConstant x initial more) = behind (with_outer (ConstantOf x) v) more
behind v (Mentions es more) = behind v more

-- around a subprogram, which sees these of the main procedure's objects
abbrev pub sub_around : Program → (Entity → Bool) → Around
sub_around program shown = record { object = shown; taken = (behind outset program.body.decls).taken; outer = shown; parameter = λ k. false; target = None; handled = false }

-- what names give of where names stand, where each subprogram sees these of the main procedure's objects (8.2, 8.3)
pub record IsScoped (program : Program) (shown : ℕ → Entity → Bool) : Type 0 where
  pub main : ScopedMain program shown outset program.body.decls (λ v. ScopedAll program shown v program.body.stmts × ScopedHandlers program shown (handling v) program.body.handlers)
  pub objects : (k : ℕ) (y : Entity) → shown k y ≡ true → (behind outset program.body.decls).object y ≡ true
  pub fresh : (k : ℕ) (unit : Sub) → sub_at program.subs k ≡ Some unit → FreshFormals (sub_around program (shown k)) unit.formals
  pub subs : (k : ℕ) (unit : Sub) → sub_at program.subs k ≡ Some unit
      → ScopedStmt program shown (with_formals (sub_around program (shown k)) unit.formals) (Block unit.body.decls unit.body.stmts unit.body.handlers)
