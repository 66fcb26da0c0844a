-- The abstract syntax of typed programs: what name resolution leaves of a program. All definitions of what programs do
-- are over these types; code holds them as tables of nodes (Decoded).
--
-- `at` is the number of the token at which something is blamed or a check stands. Objects, subprograms (`sub`), parallel
-- constructs (`site`) and subtypes are given by their numbers in the tables of a program; loops (`number`), parameters
-- and items have numbers of their own. Offsets, strides and sizes count cells.
use Rattle.std.specs.Prelude.{ℕ, ℤ, List, Option, Bool}
use Rattle.ada_base.specs.declared.operation.Op.{Op}
use Rattle.ada_base.specs.declared.reason.Reason.{Reason}
use Rattle.typed_tree.specs.declared.scalars.Class.{Class}
use Rattle.typed_tree.specs.declared.scalars.Scalar.{Scalar}
use Rattle.typed_tree.specs.declared.scalars.Check.{Check}
use Rattle.ada_base.specs.declared.operation.Comparison.{Comparison}
use Rattle.typed_tree.specs.declared.expressions.Sign.{Sign}
use Rattle.typed_tree.specs.declared.expressions.Root.{Root}
use Rattle.typed_tree.specs.declared.expressions.Run.{Run}
use Rattle.typed_tree.specs.declared.expressions.Iterated.{Iterated}
use Rattle.typed_tree.specs.declared.expressions.Reducer.{Reducer}
use Rattle.typed_tree.specs.declared.statements.Span.{Span}
use Rattle.typed_tree.specs.declared.program.Bounds.{Bounds}
use Rattle.typed_tree.specs.declared.program.Declared.{Declared}
use Rattle.typed_tree.specs.declared.program.Field as tree-field
use Rattle.typed_tree.specs.declared.program.Formal.{Formal}
use Rattle.typed_tree.specs.declared.program.Object.{Object}
use Rattle.typed_tree.specs.declared.program.Site.{Site}

mutual
  -- an expression of a scalar type (4.4). A static one (4.9) is its value; `literal` says whether it is one number
  -- literal without brackets. Operators of one level are nested to the left. `S'Max` and `S'Min` are operators,
  -- `S'Succ (X)` and `S'Pred (X)` are additions of 1 and subtractions (3.5), and a subtype after `in` is its two bounds
  -- (4.5.2). A group is an expression in brackets that isn't static.
  pub data Expr : Type 0 where
    Static : (at : ℕ) (value : ℤ) (literal : Bool) (mentions : Exprs) → Expr
    Variable : (at : ℕ) (root : Root) → Selections → Scalar → Expr
    Constant : (at : ℕ) (root : Root) → Selections → Scalar → Expr
    Parameter : (at parameter : ℕ) → Expr
    Target : (at : ℕ) → Scalar → Expr
    Group : Expr → Expr
    Unary : (at : ℕ) → Sign → Class → Expr → Expr
    Binary : (at : ℕ) → Op → Class → Expr → Expr → Expr
    AndThen : Expr → Expr → Expr
    OrElse : Expr → Expr → Expr
    Relation : Class → Comparison → Expr → Expr → Expr
    Membership : Class → (negated : Bool) → (value low high : Expr) → Expr
    If : (condition value otherwise : Expr) → Expr
    Call : (at callee sub : ℕ) → Actuals → Expr
    Convert : Check → Expr → Expr
    Reduction : (at attribute : ℕ) → Reducer → (initial : Expr) (site : Option ℕ) → Chunk → Iteration → (value : Expr) → Expr

  -- expressions that are text and aren't evaluated: indexes in prefixes of attributes in static expressions
  pub data Exprs : Type 0 where
    NoExpr : Exprs
    AlsoExpr : Expr → Exprs → Exprs

  -- an expression that may be left out
  pub data Optional : Type 0 where
    Absent : Optional
    Present : Expr → Optional

  -- what follows the first part of a name: a component of a record at an offset (4.1.3), or one index of an array
  -- between its bounds, the neighbours of which are a stride apart (4.1.1)
  pub data Selections : Type 0 where
    Whole : Selections
    Field : (number offset : ℕ) → Selections → Selections
    Index : (at : ℕ) → Expr → (low high : ℤ) (stride : ℕ) → Selections → Selections

  -- actual parameters in the order of the text (6.4.1), with the objects of their formals; a scalar that is copied back
  -- has the subtypes of its formal and of itself
  pub data Actuals : Type 0 where
    NoActual : Actuals
    In : (formal : ℕ) → Value → Actuals → Actuals
    InOut : (formal at : ℕ) (root : Root) → Selections → (inside outside : Scalar) → Actuals → Actuals
    Out : (formal at : ℕ) (root : Root) → Selections → (inside outside : Scalar) → Actuals → Actuals
    CompositeInOut : (formal at : ℕ) (root : Root) → Selections → (subtype : ℕ) → Actuals → Actuals
    CompositeOut : (formal at : ℕ) (root : Root) → Selections → (subtype : ℕ) → Actuals → Actuals

  -- what is stored: a number that is checked, or the cells of an array or record
  pub data Value : Type 0 where
    Number : Check → Expr → Value
    Cells : Composite → Value

  -- an expression of an array or record type
  pub data Composite : Type 0 where
    WholeVariable : (at : ℕ) (root : Root) → Selections → (subtype : ℕ) → Composite
    WholeConstant : (at : ℕ) (root : Root) → Selections → (subtype : ℕ) → Composite
    WholeTarget : (at subtype : ℕ) → Composite
    CompositeIf : (condition : Expr) (value otherwise : Composite) → Composite
    Aggregate : (at cells : ℕ) → Associations → Composite

  -- associations of an aggregate, with the runs of cells that each gives (4.3)
  pub data Associations : Type 0 where
    NoAssociation : Associations
    Association : List Run → Option Iterated → (mentions : Exprs) → Value → Associations → Associations

  -- what an iteration goes through, and its filter (5.5, 5.5.2); the bounds of a range that isn't empty are checked where
  -- it has a subtype
  pub data Iteration : Type 0 where
    Range : (parameter : ℕ) (reverse : Bool) (low high : Expr) → Option Check → (filter : Optional) → Iteration
    Components : (item : ℕ) (constant : Bool) (at : ℕ) (root : Root) → Selections → (count stride dimensions : ℕ) → (filter : Optional) → Iteration

  -- a chunk specification (5.5)
  pub data Chunk : Type 0 where
    NoChunk : Chunk
    Count : Expr → Chunk
    Each : (parameter : ℕ) (low high : Expr) → Option Check → Chunk

-- pieces of output: bytes, the image of a value (4.10), a number in a field of places (A.10.8)
pub data Pieces : Type 0 where
  NoPiece : Pieces
  Text : List ℕ → Pieces → Pieces
  Image : Class → Expr → Pieces → Pieces
  Padded : Class → (value width : Expr) → Pieces → Pieces

-- what a handler handles (11.2)
pub data Handled : Type 0 where
  Others : Handled
  Reasons : List Reason → Handled

-- a subtype (3.2.2); an array has bounds for each dimension, the last of which varies fastest
pub data Subtype : Type 0 where
  OfScalar : Scalar → Subtype
  Array : (dimensions : List Bounds) (component : ℕ) → Subtype
  Record : List tree-field.Field → Subtype

-- declarations, as they are elaborated (3.11)
pub data Decls : Type 0 where
  NoDecl : Decls
  DeclareDefault : (object : ℕ) → Decls → Decls
  DeclareVariable : (object : ℕ) (initial : Value) → Decls → Decls
  DeclareConstant : (object : ℕ) (initial : Value) → Decls → Decls
  Mentions : Exprs → Decls → Decls

mutual
  -- a statement (5.1); an `elsif` is an if statement after `else` (5.3)
  pub data Stmt : Type 0 where
    Null : Stmt
    Assign : (at : ℕ) (root : Root) → Selections → Value → Stmt
    CallProcedure : (at callee sub : ℕ) → Actuals → Stmt
    Exit : (from : ℕ) (condition : Optional) → Stmt
    Return : Stmt
    ReturnValue : Value → Stmt
    Raise : Reason → Stmt
    Reraise : Stmt
    IfThen : (condition : Expr) (stmts otherwise : Stmts) → Stmt
    Case : Expr → Alternatives → Stmt
    Loop : (number : ℕ) (condition : Optional) → Stmts → Stmt
    For : (number : ℕ) → Iteration → Stmts → Stmt
    ParallelFor : (number site : ℕ) → Chunk → Iteration → Stmts → Stmt
    Parallel : (site : ℕ) (count : Optional) → Arms → Stmt
    Block : Decls → Stmts → Handlers → Stmt
    Put : (at callee : ℕ) → Pieces → (line : Bool) → Stmt
    Get : (at callee first : ℕ) (root : Root) → Selections → Scalar → Stmt

  pub data Stmts : Type 0 where
    End : Stmts
    Then : Stmt → Stmts → Stmts

  -- alternatives of a case statement (5.4); one with `others` takes what is left
  pub data Alternatives : Type 0 where
    NoAlternative : Alternatives
    Alternative : (others : Bool) → List Span → (mentions : Exprs) → Stmts → Alternatives → Alternatives

  -- arms of a parallel block (5.6.1)
  pub data Arms : Type 0 where
    NoArm : Arms
    Arm : Stmts → Arms → Arms

  -- handlers of a body (11.2)
  pub data Handlers : Type 0 where
    NoHandler : Handlers
    Handler : Handled → Stmts → Handlers → Handlers

-- a body: declarations, statements and handlers
pub record Body : Type 0 where
  pub decls : Decls
  pub stmts : Stmts
  pub handlers : Handlers

-- a subprogram (6.1)
pub record Sub : Type 0 where
  pub formals : List Formal
  pub result : Option Scalar
  pub nonblocking : Bool
  pub body : Body

-- a program with its tables
pub record Program : Type 0 where
  pub subtypes : List Subtype
  pub objects : List Object
  pub subs : List Sub
  pub sites : List Site
  pub exceptions : List Declared
  pub body : Body
  pub nonblocking : Bool
  pub strict : Bool
