-- What stands in a typed program (4.9, 4.5): each static expression that is evaluated is a value of the base range of the
-- class that its place or its operator has, and no operator is universal any more.
use Rattle.syntax_tree.specs.Syntax as syntax
use Rattle.ada_base.specs.Operation.{is_in_base}
use Rattle.ada_base.specs.declared.operation.Base.TheVariants.{Narrow, Wide}
use Rattle.ada_base.specs.declared.operation.Op.TheVariants as op
use Rattle.typed_tree.specs.Syntax.{Actuals, Aggregate, AndThen, Association, Associations, Binary, Call, Cells, Chunk, Components, Composite, CompositeIf, CompositeInOut, CompositeOut, Constant, Convert, Count, Each, Expr, Field, Group, If, In, InOut, Index, Iteration, Membership, NoActual, NoAssociation, NoChunk, Number, Optional, Absent, Present, OrElse, Out, Parameter, Range, Reduction, Relation, Selections, Static, Target, Unary, Value, Variable, Whole, WholeConstant, WholeTarget, WholeVariable}
use Rattle.typed_tree.specs.Syntax.{Alternative, Alternatives, Arm, Arms, Array, Assign, Block, Body, CallProcedure, Case, DeclareConstant, DeclareDefault, DeclareVariable, Decls, End, Exit, For, Get, Handler, Handlers, IfThen, Image, Loop, Mentions, NoAlternative, NoArm, NoDecl, NoHandler, NoPiece, Null, Padded, Parallel, ParallelFor, Pieces, Program, Put, Raise, Reraise, Return, ReturnValue, Stmt, Stmts, Sub, Text, Then}
use Rattle.typed_tree.specs.declared.expressions.Reducer.{Reducer}
use Rattle.typed_tree.specs.declared.expressions.Reducer.TheVariants.{Operator, Function}
use Rattle.typed_tree.specs.declared.program.Bounds.{Bounds}
use Rattle.typed_tree.specs.declared.scalars.Class.{Class}
use Rattle.typed_tree.specs.declared.scalars.Class.TheVariants as class
use Rattle.name_rules.specs.Resolved.{TypedOf}
use Rattle.name_rules.specs.declared.scope.Names.{Names}
use Rattle.std.specs.Prelude.{List, Some, [], ◌∷◌, int_le, pos, slice_get, true, ℕ, ℤ, ◌&&◌, ◌≡◌, ◌⊎◌}

abbrev pub HasValue : Class → ℤ → Type 0
HasValue class.Boolean z = (int_le (pos 0) z && int_le z (pos 1)) ≡ true
HasValue (class.Integer b) z = is_in_base b z ≡ true
HasValue class.Universal z = ⊥

abbrev pub IsTyped : Class → Type 0
IsTyped class.Universal = ⊥
IsTyped c = Unit {0}

-- the classes of the value and of the initial value that a reducer takes (4.5.10)
abbrev pub value_class : Reducer → Class
value_class (Operator at o c) = c
value_class (Function at n a b) = b.class

abbrev pub initial_class : Reducer → Class
initial_class (Operator at o c) = c
initial_class (Function at n a b) = a.class

-- the exponent of a power is an Integer (4.5.6)
abbrev pub exponent : Class
exponent = class.Integer Narrow

abbrev mutual
  -- an expression of a class; what is converted, an index, a bound and a number of chunks have one that isn't written down
  pub ExprFits : Class → Expr → Type 0
  ExprFits c (Static at z alone mentions) = HasValue c z
  ExprFits c (Variable at root ss s) = SelectionsFit ss
  ExprFits c (Constant at root ss s) = SelectionsFit ss
  ExprFits c (Parameter at n) = Unit {0}
  ExprFits c (Target at s) = Unit {0}
  ExprFits c (Group e) = ExprFits c e
  ExprFits c (Unary at s d e) = IsTyped d × ExprFits d e
  ExprFits c (Binary at o d l r) = IsTyped d × ExprFits d l × (ExprFits d r ⊎ ((o ≡ op.Pow) × ExprFits exponent r))
  ExprFits c (AndThen x y) = ExprFits class.Boolean x × ExprFits class.Boolean y
  ExprFits c (OrElse x y) = ExprFits class.Boolean x × ExprFits class.Boolean y
  ExprFits c (Relation d by x y) = IsTyped d × ExprFits d x × ExprFits d y
  ExprFits c (Membership d negated x low high) = IsTyped d × ExprFits d x × ExprFits d low × ExprFits d high
  ExprFits c (If x v o) = ExprFits class.Boolean x × ExprFits c v × ExprFits c o
  ExprFits c (Call at callee n as') = ActualsFit as'
  ExprFits c (Convert check e) = (d : Class) × ExprFits d e
  ExprFits c (Reduction at a r initial site chunk iteration v) = IsTyped (value_class r) × ExprFits (initial_class r) initial × ChunkFits chunk × IterationFits iteration × ExprFits (value_class r) v

  pub OptionalFits : Class → Optional → Type 0
  OptionalFits c Absent = Unit {0}
  OptionalFits c (Present e) = ExprFits c e

  pub SelectionsFit : Selections → Type 0
  SelectionsFit Whole = Unit {0}
  SelectionsFit (Field n offset ss) = SelectionsFit ss
  SelectionsFit (Index at e low high stride ss) = ((d : Class) × ExprFits d e) × SelectionsFit ss

  pub ActualsFit : Actuals → Type 0
  ActualsFit NoActual = Unit {0}
  ActualsFit (In formal v as') = ValueFits v × ActualsFit as'
  ActualsFit (InOut formal at root ss s t as') = SelectionsFit ss × ActualsFit as'
  ActualsFit (Out formal at root ss s t as') = SelectionsFit ss × ActualsFit as'
  ActualsFit (CompositeInOut formal at root ss n as') = SelectionsFit ss × ActualsFit as'
  ActualsFit (CompositeOut formal at root ss n as') = SelectionsFit ss × ActualsFit as'

  -- what is stored is of the class of the check before it
  pub ValueFits : Value → Type 0
  ValueFits (Number check e) = ExprFits check.scalar.class e
  ValueFits (Cells c) = CompositeFits c

  pub CompositeFits : Composite → Type 0
  CompositeFits (WholeVariable at root ss n) = SelectionsFit ss
  CompositeFits (WholeConstant at root ss n) = SelectionsFit ss
  CompositeFits (WholeTarget at n) = Unit {0}
  CompositeFits (CompositeIf x v o) = ExprFits class.Boolean x × CompositeFits v × CompositeFits o
  CompositeFits (Aggregate at cells as') = AssociationsFit as'

  pub AssociationsFit : Associations → Type 0
  AssociationsFit NoAssociation = Unit {0}
  AssociationsFit (Association runs iterated mentions v as') = ValueFits v × AssociationsFit as'

  pub IterationFits : Iteration → Type 0
  IterationFits (Range n backwards low high check filter) = ((d : Class) × ExprFits d low × ExprFits d high) × OptionalFits class.Boolean filter
  IterationFits (Components item constant at root ss count stride dimensions filter) = SelectionsFit ss × OptionalFits class.Boolean filter

  pub ChunkFits : Chunk → Type 0
  ChunkFits NoChunk = Unit {0}
  ChunkFits (Count e) = (d : Class) × ExprFits d e
  ChunkFits (Each n low high check) = (d : Class) × ExprFits d low × ExprFits d high

abbrev pub PiecesFit : Pieces → Type 0
PiecesFit NoPiece = Unit {0}
PiecesFit (Text bytes ps) = PiecesFit ps
PiecesFit (Image c e ps) = IsTyped c × ExprFits c e × PiecesFit ps
PiecesFit (Padded c e width ps) = IsTyped c × ExprFits c e × ExprFits (class.Integer Narrow) width × PiecesFit ps

abbrev pub DeclsFit : Decls → Type 0
DeclsFit NoDecl = Unit {0}
DeclsFit (DeclareDefault n ds) = DeclsFit ds
DeclsFit (DeclareVariable n v ds) = ValueFits v × DeclsFit ds
DeclsFit (DeclareConstant n v ds) = ValueFits v × DeclsFit ds
DeclsFit (Mentions es ds) = DeclsFit ds

abbrev mutual
  pub StmtFits : Stmt → Type 0
  StmtFits Null = Unit {0}
  StmtFits (Assign at root ss v) = SelectionsFit ss × ValueFits v
  StmtFits (CallProcedure at callee n as') = ActualsFit as'
  StmtFits (Exit n condition) = OptionalFits class.Boolean condition
  StmtFits Return = Unit {0}
  StmtFits (ReturnValue v) = ValueFits v
  StmtFits (Raise r) = Unit {0}
  StmtFits Reraise = Unit {0}
  StmtFits (IfThen condition ss otherwise) = ExprFits class.Boolean condition × StmtsFit ss × StmtsFit otherwise
  StmtFits (Case e as') = ((d : Class) × ExprFits d e) × AlternativesFit as'
  StmtFits (Loop n condition ss) = OptionalFits class.Boolean condition × StmtsFit ss
  StmtFits (For n iteration ss) = IterationFits iteration × StmtsFit ss
  StmtFits (ParallelFor n site chunk iteration ss) = ChunkFits chunk × IterationFits iteration × StmtsFit ss
  StmtFits (Parallel site count arms) = ((d : Class) × OptionalFits d count) × ArmsFit arms
  StmtFits (Block ds ss hs) = DeclsFit ds × StmtsFit ss × HandlersFit hs
  StmtFits (Put at callee ps line) = PiecesFit ps
  StmtFits (Get at callee first root ss s) = SelectionsFit ss

  pub StmtsFit : Stmts → Type 0
  StmtsFit End = Unit {0}
  StmtsFit (Then s ss) = StmtFits s × StmtsFit ss

  pub AlternativesFit : Alternatives → Type 0
  AlternativesFit NoAlternative = Unit {0}
  AlternativesFit (Alternative others spans mentions ss as') = StmtsFit ss × AlternativesFit as'

  pub ArmsFit : Arms → Type 0
  ArmsFit NoArm = Unit {0}
  ArmsFit (Arm ss as') = StmtsFit ss × ArmsFit as'

  pub HandlersFit : Handlers → Type 0
  HandlersFit NoHandler = Unit {0}
  HandlersFit (Handler handled ss hs) = StmtsFit ss × HandlersFit hs

abbrev pub BodyFits : Body → Type 0
BodyFits b = DeclsFit b.decls × StmtsFit b.stmts × HandlersFit b.handlers

abbrev pub SubsFit : List Sub → Type 0
SubsFit [] = Unit {0}
SubsFit (s ∷ ss) = BodyFits s.body × SubsFit ss

abbrev pub ProgramFits : Program → Type 0
ProgramFits p = SubsFit p.subs × BodyFits p.body

-- the bounds of an array type's dimensions
abbrev pub BoundsFit : List Bounds → Type 0
BoundsFit [] = Unit {0}
BoundsFit (b ∷ bs) = (is_in_base Wide b.low ≡ true) × (is_in_base Wide b.high ≡ true) × BoundsFit bs

-- Every static expression that a text's typed program evaluates is a value of the base range of its class, whatever it
-- stands in: under an operator, in a place with a subtype, as an index, a bound, an actual parameter or a condition. The
-- bounds of its array types are values of 64 bits.
pub record ClassesLaw : Type 0 where
  pub expressions : (names : Names) (text : syntax.Program) (program : Program) → TypedOf names text ≡ Some program → ProgramFits program
  pub bounds : (names : Names) (text : syntax.Program) (program : Program) → TypedOf names text ≡ Some program
      → (n : ℕ) (bs : List Bounds) (component : ℕ) → slice_get program.subtypes n ≡ Some (Array bs component) → BoundsFit bs
