-- What stands in a text and matters to the texts beside it: the names that it reads and writes, its calls, and the
-- parallel constructs in it (9.10.1). Paths are those of a construct that is judged.
use Rattle.std.specs.Prelude.{◌≡◌, ℕ, zero, suc, ℤ, pos, neg_ℤ, int_le, nat_eq, List, [], ◌∷◌, ◌++◌, Option, Some, None, is_some, ◌⊎◌, Bool, true, false, ◌&&◌, cond}
use Rattle.ada_base.specs.declared.operation.Op.{Op}
use Rattle.ada_base.specs.declared.operation.Op.TheVariants as op
use Rattle.typed_tree.specs.declared.scalars.Class.{Class}
use Rattle.ada_meaning.specs.Values.{is_modular}
use Rattle.typed_tree.specs.declared.expressions.Root.{Root}
use Rattle.typed_tree.specs.declared.expressions.Root.TheVariants as root
use Rattle.typed_tree.specs.declared.expressions.Iterated.{Iterated}
use Rattle.typed_tree.specs.declared.expressions.Reducer.{Reducer}
use Rattle.typed_tree.specs.declared.expressions.Reducer.TheVariants.{Operator, Function}
use Rattle.ada_meaning.specs.Meaning.{sub_at}
use Rattle.ada_meaning.specs.Shapes.{cells_of}
use Rattle.ada_meaning.specs.Formed.{width}
use Rattle.typed_tree.specs.Syntax.{Expr, Static, Variable, Constant, Parameter, Target, Group, Unary, Binary, AndThen, OrElse, Relation, Membership, If, Call, Convert, Reduction, Exprs, NoExpr, AlsoExpr, Optional, Absent, Present, Selections, Whole, Field, Index, Actuals, NoActual, In, InOut, Out, CompositeInOut, CompositeOut, Value, Number, Cells, Composite, WholeVariable, WholeConstant, WholeTarget, CompositeIf, Aggregate, Associations, NoAssociation, Association, Iteration, Range, Components, Chunk, NoChunk, Count, Each, Pieces, NoPiece, Text, Image, Padded, Decls, NoDecl, DeclareDefault, DeclareVariable, DeclareConstant, Mentions, Stmt, Null, Assign, CallProcedure, Exit, Return, ReturnValue, Raise, Reraise, IfThen, Case, Loop, For, ParallelFor, Parallel, Block, Put, Get, Stmts, End, Then, Alternatives, NoAlternative, Alternative, Arms, NoArm, Arm, Handlers, NoHandler, Handler, Body, Sub, Subtype, Program}

-- paths

-- what a path goes on by: a field, a static index, a parameter of the construct that is judged and how far from it, or
-- any index
pub data Selector : Type 0 where
  At : (field : ℕ) → Selector
  Fixed : (index : ℤ) → Selector
  LoopIndex : (distance : ℤ) → Selector
  ChunkIndex : (distance : ℤ) → Selector
  Any : Selector

-- a step down in an object, and where it leads: a field; an index; or a component that an iteration over an array has
-- reached, which is that of the thread where the construct is judged
pub data Step : Type 0 where
  FieldStep : (number offset : ℕ) → Step
  IndexStep : Selector → (low high : ℤ) (stride : ℕ) → Step
  ItemStep : (judged : Bool) (count stride dimensions : ℕ) → Step

-- an object and the steps to a part of it
pub record Named : Type 0 where
  pub object : ℕ
  pub steps : List Step

-- a read or a write of so many cells there
pub record Access : Type 0 where
  pub writes : Bool
  pub object : ℕ
  pub steps : List Step
  pub cells : ℕ

-- what names stand for in a text: the parameters of the construct that is judged, the components that items name, and
-- the target of the assignment
pub record Roles : Type 0 where
  pub loop : Option ℕ
  pub chunk : Option ℕ
  pub item : ℕ → Named
  pub target : Named

abbrev pub no_name : Named
no_name = record { object = 0; steps = [] }

-- where a body begins, for no construct
abbrev pub unknown : Roles
unknown = record { loop = None; chunk = None; item = λ k. no_name; target = no_name }

abbrev pub other : ℕ → Option ℕ → Option ℕ
other k None = None
other k (Some j) = cond (nat_eq j k) None (Some j)

-- where a parameter of that number is another's
abbrev pub hide : ℕ → Roles → Roles
hide k r = record r { loop = other k r.loop; chunk = other k r.chunk }

abbrev pub with_item : ℕ → Named → Roles → Roles
with_item k n r = record r { item = λ j. cond (nat_eq j k) n (r.item j) }

abbrev pub is_one : Option ℕ → ℕ → Bool
is_one None k = false
is_one (Some j) k = nat_eq k j

-- what a parameter and a distance are as an index
abbrev pub role : Roles → ℕ → ℤ → Selector
role r k distance = cond (is_one r.chunk k) (ChunkIndex distance) (cond (is_one r.loop k) (LoopIndex distance) Any)

-- a distance is one number literal without brackets, from 1 to 2147483647
abbrev pub is_distance : ℤ → Bool
is_distance n = int_le (pos 1) n && int_le n (pos 2147483647)

abbrev pub a_distance : Expr → Option ℤ
a_distance (Static at value true mentions) = cond (is_distance value) (Some value) None
a_distance e = None

abbrev pub a_parameter : Expr → Option ℕ
a_parameter (Parameter at k) = Some k
a_parameter e = None

abbrev pub opposite : Option ℤ → Option ℤ
opposite None = None
opposite (Some n) = Some (neg_ℤ n)

-- what an index that is a sum or a difference is: `p + n` and `n + p` lie n behind the parameter, `p - n` before it
module _ {S : Type 0} (any : S) (by : ℕ → ℤ → S) where
  abbrev pub shifted : Option ℕ → Option ℤ → S
  shifted None n = any
  shifted (Some k) None = any
  shifted (Some k) (Some n) = by k n

  abbrev pub added : Op → Expr → Expr → S
  added op.Add e f = cond (is_some (a_parameter e)) (shifted (a_parameter e) (a_distance f)) (shifted (a_parameter f) (a_distance e))
  added op.Sub e f = shifted (a_parameter e) (opposite (a_distance f))
  added o e f = any

  -- numbers of a modular type lie on a circle
  abbrev pub by_distance : Op → Class → Expr → Expr → S
  by_distance o class e f = cond (is_modular class) any (added o e f)

abbrev pub selector : Roles → Expr → Selector
selector r (Static at value literal mentions) = Fixed value
selector r (Parameter at k) = role r k (pos 0)
selector r (Binary at o class e f) = by_distance Any (role r) o class e f
selector r e = Any

abbrev pub steps_of : Roles → Selections → List Step
steps_of r Whole = []
steps_of r (Field number offset rest) = FieldStep number offset ∷ steps_of r rest
steps_of r (Index at e low high stride rest) = IndexStep (selector r e) low high stride ∷ steps_of r rest

abbrev pub root_name : Roles → Root → Named
root_name r (root.Object x) = record { object = x; steps = [] }
root_name r (root.Item k) = r.item k

abbrev pub name : Roles → Root → Selections → Named
name r at rest = record { object = (root_name r at).object; steps = (root_name r at).steps ++ steps_of r rest }

-- the same for another construct: parameters are unknown there
abbrev pub forgotten : Selector → Selector
forgotten (LoopIndex distance) = Any
forgotten (ChunkIndex distance) = Any
forgotten s = s

abbrev pub forgotten_step : Step → Step
forgotten_step (FieldStep number offset) = FieldStep number offset
forgotten_step (IndexStep s low high stride) = IndexStep (forgotten s) low high stride
forgotten_step (ItemStep judged count stride dimensions) = ItemStep false count stride dimensions

abbrev pub forgotten_steps : List Step → List Step
forgotten_steps [] = []
forgotten_steps (s ∷ ss) = forgotten_step s ∷ forgotten_steps ss

abbrev pub forgotten_name : Named → Named
forgotten_name n = record { object = n.object; steps = forgotten_steps n.steps }

abbrev pub forget : Roles → Roles
forget r = record { loop = None; chunk = None; item = λ k. forgotten_name (r.item k); target = forgotten_name r.target }

abbrev pub reading : Named → ℕ → Access
reading n cells = record { writes = false; object = n.object; steps = n.steps; cells = cells }

abbrev pub writing : Named → ℕ → Access
writing n cells = record { writes = true; object = n.object; steps = n.steps; cells = cells }

-- parallel constructs, and what stands in a text

-- a parallel loop, block or reduction, with what names stand for around it
pub data Construct : Type 0 where
  LoopOf : (site : ℕ) → Roles → Chunk → Iteration → Stmts → Construct
  BlockOf : (site : ℕ) → Roles → Optional → Arms → Construct
  ReductionOf : (site : ℕ) → Roles → Reducer → Chunk → Iteration → (value : Expr) → Construct

-- a name, at its first token, or a call, at the first token of the callee's name and the last of it; a call of what
-- always may block; a parallel construct
pub data Item : Type 0 where
  Touches : (at : ℕ) → Access → Item
  Calls : (at callee sub : ℕ) → Item
  Blocks : (at callee : ℕ) → Item
  Holds : Construct → Item

-- not on that object
abbrev pub Outside : ℕ → Item → Type 0
Outside x (Touches at a) = a.object ≡ x → ⊥
Outside x i = Unit {0}

-- below an iteration or a chunk specification that isn't judged
abbrev pub chunk_hidden : Chunk → Roles → Roles
chunk_hidden NoChunk r = r
chunk_hidden (Count e) r = r
chunk_hidden (Each k low high check) r = hide k r

abbrev pub item_bound : Bool → (judged : Bool) → ℕ → Named → ℕ → ℕ → ℕ → Roles → Roles
item_bound true judged k n count stride dimensions r = r
item_bound false judged k n count stride dimensions r = with_item k (record { object = n.object; steps = n.steps ++ (ItemStep judged count stride dimensions ∷ []) }) r

abbrev pub course_hidden : Roles → Iteration → Roles → Roles
course_hidden around (Range k reverse low high check filter) r = hide k r
course_hidden around (Components k constant at from selections count stride dimensions filter) r = item_bound constant false k (name around from selections) count stride dimensions r

-- below those that are judged
abbrev pub chunk_parameter : Chunk → Option ℕ
chunk_parameter NoChunk = None
chunk_parameter (Count e) = None
chunk_parameter (Each k low high check) = Some k

abbrev pub judging : Chunk → Iteration → Roles → Roles
judging chunk (Range k reverse low high check filter) r = record r { loop = Some k; chunk = other k (chunk_parameter chunk) }
judging chunk (Components k constant at from selections count stride dimensions filter) r =
    item_bound constant true k (name r from selections) count stride dimensions (record r { chunk = chunk_parameter chunk })

abbrev pub iterated_hidden : Option Iterated → Roles → Roles
iterated_hidden None r = r
iterated_hidden (Some i) r = hide i.parameter r

-- a declared function that reduces is called
abbrev pub InReducer : Reducer → Item → Type 0
InReducer (Operator at op class) i = ⊥
InReducer (Function at s accumulator value) i = i ≡ Calls at at s

module _ (subtypes : List Subtype) where
  abbrev mutual
    pub InExpr : Roles → Expr → Item → Type 0
    InExpr r (Static at value literal mentions) i = InExprs r mentions i
    InExpr r (Variable at from selections scalar) i = (i ≡ Touches at (reading (name r from selections) 1)) ⊎ InSelections r selections i
    InExpr r (Constant at from selections scalar) i = InSelections r selections i
    InExpr r (Parameter at k) i = ⊥
    InExpr r (Target at scalar) i = i ≡ Touches at (reading r.target 1)
    InExpr r (Group e) i = InExpr r e i
    InExpr r (Unary at s class e) i = InExpr r e i
    InExpr r (Binary at op class e f) i = InExpr r e i ⊎ InExpr r f i
    InExpr r (AndThen e f) i = InExpr r e i ⊎ InExpr r f i
    InExpr r (OrElse e f) i = InExpr r e i ⊎ InExpr r f i
    InExpr r (Relation class comparison e f) i = InExpr r e i ⊎ InExpr r f i
    InExpr r (Membership class negated e low high) i = InExpr r e i ⊎ InExpr r low i ⊎ InExpr r high i
    InExpr r (If condition value otherwise) i = InExpr r condition i ⊎ InExpr r value i ⊎ InExpr r otherwise i
    InExpr r (Call at callee s actuals) i = (i ≡ Calls at callee s) ⊎ InActuals r actuals i
    InExpr r (Convert check e) i = InExpr r e i
    InExpr r (Reduction at attribute by initial None chunk iteration value) i =
        InReducer by i ⊎ InExpr r initial i ⊎ InCourse r iteration i ⊎ InFilter (course_hidden r iteration r) iteration i ⊎ InExpr (course_hidden r iteration r) value i
    InExpr r (Reduction at attribute by initial (Some site) chunk iteration value) i =
        (i ≡ Holds (ReductionOf site (forget r) by chunk iteration value)) ⊎ InReducer by i ⊎ InExpr r initial i ⊎ InChunk r chunk i ⊎ InCourse r iteration i
        ⊎ InFilter (course_hidden r iteration (chunk_hidden chunk r)) iteration i ⊎ InExpr (course_hidden r iteration (chunk_hidden chunk r)) value i

    pub InExprs : Roles → Exprs → Item → Type 0
    InExprs r NoExpr i = ⊥
    InExprs r (AlsoExpr e es) i = InExpr r e i ⊎ InExprs r es i

    pub InOptional : Roles → Optional → Item → Type 0
    InOptional r Absent i = ⊥
    InOptional r (Present e) i = InExpr r e i

    pub InSelections : Roles → Selections → Item → Type 0
    InSelections r Whole i = ⊥
    InSelections r (Field number offset rest) i = InSelections r rest i
    InSelections r (Index at e low high stride rest) i = InExpr r e i ⊎ InSelections r rest i

    pub InActuals : Roles → Actuals → Item → Type 0
    InActuals r NoActual i = ⊥
    InActuals r (In formal value rest) i = InValue r value i ⊎ InActuals r rest i
    InActuals r (InOut formal at from selections inner outer rest) i =
        (i ≡ Touches at (reading (name r from selections) 1)) ⊎ (i ≡ Touches at (writing (name r from selections) 1)) ⊎ InSelections r selections i ⊎ InActuals r rest i
    InActuals r (Out formal at from selections inner outer rest) i = (i ≡ Touches at (writing (name r from selections) 1)) ⊎ InSelections r selections i ⊎ InActuals r rest i
    InActuals r (CompositeInOut formal at from selections subtype rest) i =
        (i ≡ Touches at (reading (name r from selections) (cells_of subtypes subtype))) ⊎ (i ≡ Touches at (writing (name r from selections) (cells_of subtypes subtype))) ⊎ InSelections r selections i ⊎ InActuals r rest i
    InActuals r (CompositeOut formal at from selections subtype rest) i =
        (i ≡ Touches at (reading (name r from selections) (cells_of subtypes subtype))) ⊎ (i ≡ Touches at (writing (name r from selections) (cells_of subtypes subtype))) ⊎ InSelections r selections i ⊎ InActuals r rest i

    pub InValue : Roles → Value → Item → Type 0
    InValue r (Number check e) i = InExpr r e i
    InValue r (Cells c) i = InComposite r c i

    pub InComposite : Roles → Composite → Item → Type 0
    InComposite r (WholeVariable at from selections subtype) i = (i ≡ Touches at (reading (name r from selections) (cells_of subtypes subtype))) ⊎ InSelections r selections i
    InComposite r (WholeConstant at from selections subtype) i = InSelections r selections i
    InComposite r (WholeTarget at subtype) i = i ≡ Touches at (reading r.target (cells_of subtypes subtype))
    InComposite r (CompositeIf condition value otherwise) i = InExpr r condition i ⊎ InComposite r value i ⊎ InComposite r otherwise i
    InComposite r (Aggregate at size associations) i = InAssociations r associations i

    pub InAssociations : Roles → Associations → Item → Type 0
    InAssociations r NoAssociation i = ⊥
    InAssociations r (Association runs iterated mentions value rest) i = InExprs r mentions i ⊎ InValue (iterated_hidden iterated r) value i ⊎ InAssociations r rest i

    -- what is evaluated once, before the first iteration
    pub InCourse : Roles → Iteration → Item → Type 0
    InCourse r (Range k reverse low high check filter) i = InExpr r low i ⊎ InExpr r high i
    InCourse r (Components k constant at from selections count stride dimensions filter) i = InSelections r selections i

    -- what is evaluated in each iteration
    pub InFilter : Roles → Iteration → Item → Type 0
    InFilter r (Range k reverse low high check filter) i = InOptional r filter i
    InFilter r (Components k constant at from selections count stride dimensions filter) i = InOptional r filter i

    pub InChunk : Roles → Chunk → Item → Type 0
    InChunk r NoChunk i = ⊥
    InChunk r (Count e) i = InExpr r e i
    InChunk r (Each k low high check) i = InExpr r low i ⊎ InExpr r high i

  abbrev pub InPieces : Roles → Pieces → Item → Type 0
  InPieces r NoPiece i = ⊥
  InPieces r (Text bytes rest) i = InPieces r rest i
  InPieces r (Image class e rest) i = InExpr r e i ⊎ InPieces r rest i
  InPieces r (Padded class e width rest) i = InExpr r e i ⊎ InExpr r width i ⊎ InPieces r rest i

  -- declarations and the text that sees their objects
  abbrev pub InDecls : Roles → Decls → (Item → Type 0) → Item → Type 0
  InDecls r NoDecl rest i = rest i
  InDecls r (DeclareDefault x more) rest i = InDecls r more rest i × Outside x i
  InDecls r (DeclareVariable x initial more) rest i = InValue r initial i ⊎ (InDecls r more rest i × Outside x i)
  InDecls r (DeclareConstant x initial more) rest i = InValue r initial i ⊎ InDecls r more rest i
  InDecls r (Mentions es more) rest i = InExprs r es i ⊎ InDecls r more rest i

  abbrev mutual
    pub InStmt : Roles → Stmt → Item → Type 0
    InStmt r Null i = ⊥
    InStmt r (Assign at from selections value) i =
        (i ≡ Touches at (writing (name r from selections) (width subtypes value))) ⊎ InSelections r selections i ⊎ InValue (record r { target = name r from selections }) value i
    InStmt r (CallProcedure at callee s actuals) i = (i ≡ Calls at callee s) ⊎ InActuals r actuals i
    InStmt r (Exit loop condition) i = InOptional r condition i
    InStmt r Return i = ⊥
    InStmt r (ReturnValue value) i = InValue r value i
    InStmt r (Raise reason) i = ⊥
    InStmt r Reraise i = ⊥
    InStmt r (IfThen condition stmts otherwise) i = InExpr r condition i ⊎ InAll r stmts i ⊎ InAll r otherwise i
    InStmt r (Case e alternatives) i = InExpr r e i ⊎ InAlternatives r alternatives i
    InStmt r (Loop number condition stmts) i = InOptional r condition i ⊎ InAll r stmts i
    InStmt r (For number iteration stmts) i = InCourse r iteration i ⊎ InFilter (course_hidden r iteration r) iteration i ⊎ InAll (course_hidden r iteration r) stmts i
    InStmt r (ParallelFor number site chunk iteration stmts) i =
        (i ≡ Holds (LoopOf site (forget r) chunk iteration stmts)) ⊎ InChunk r chunk i ⊎ InCourse r iteration i
        ⊎ InFilter (course_hidden r iteration (chunk_hidden chunk r)) iteration i ⊎ InAll (course_hidden r iteration (chunk_hidden chunk r)) stmts i
    InStmt r (Parallel site count arms) i = (i ≡ Holds (BlockOf site (forget r) count arms)) ⊎ InOptional r count i ⊎ ((k : ℕ) × InArm r arms k i)
    InStmt r (Block decls stmts handlers) i = InDecls r decls (λ j. InAll r stmts j ⊎ InHandlers r handlers j) i
    InStmt r (Put at callee pieces line) i = (i ≡ Blocks at callee) ⊎ InPieces r pieces i
    InStmt r (Get at callee first from selections scalar) i = (i ≡ Blocks at callee) ⊎ (i ≡ Touches first (writing (name r from selections) 1)) ⊎ InSelections r selections i

    pub InAll : Roles → Stmts → Item → Type 0
    InAll r End i = ⊥
    InAll r (Then s ss) i = InStmt r s i ⊎ InAll r ss i

    pub InAlternatives : Roles → Alternatives → Item → Type 0
    InAlternatives r NoAlternative i = ⊥
    InAlternatives r (Alternative others choices mentions stmts rest) i = InExprs r mentions i ⊎ InAll r stmts i ⊎ InAlternatives r rest i

    -- in the arm of that number
    pub InArm : Roles → Arms → ℕ → Item → Type 0
    InArm r NoArm k i = ⊥
    InArm r (Arm stmts rest) zero i = InAll r stmts i
    InArm r (Arm stmts rest) (suc k) i = InArm r rest k i

    pub InHandlers : Roles → Handlers → Item → Type 0
    InHandlers r NoHandler i = ⊥
    InHandlers r (Handler handled stmts rest) i = InAll r stmts i ⊎ InHandlers r rest i

  abbrev pub InBody : Body → Item → Type 0
  InBody b i = InDecls unknown b.decls (λ j. InAll unknown b.stmts j ⊎ InHandlers unknown b.handlers j) i

  -- the text of the threads of a construct; in a block by the arm's number
  abbrev pub InThread : Construct → ℕ → Item → Type 0
  InThread (LoopOf site r chunk iteration stmts) k i = InFilter (judging chunk iteration r) iteration i ⊎ InAll (judging chunk iteration r) stmts i
  InThread (BlockOf site r count arms) k i = InArm r arms k i
  InThread (ReductionOf site r by chunk iteration value) k i = InReducer by i ⊎ InFilter (judging chunk iteration r) iteration i ⊎ InExpr (judging chunk iteration r) value i

  -- its chunk specification and range
  abbrev pub InFront : Construct → Item → Type 0
  InFront (LoopOf site r chunk iteration stmts) i = InChunk r chunk i ⊎ InCourse r iteration i
  InFront (BlockOf site r count arms) i = InOptional r count i
  InFront (ReductionOf site r by chunk iteration value) i = InChunk r chunk i ⊎ InCourse r iteration i

-- effects of texts, with those of calls

module _ (program : Program) where
  -- one of the main procedure's variables
  abbrev pub IsDeclared : Decls → ℕ → Type 0
  IsDeclared NoDecl x = ⊥
  IsDeclared (DeclareDefault y more) x = (x ≡ y) ⊎ IsDeclared more x
  IsDeclared (DeclareVariable y initial more) x = (x ≡ y) ⊎ IsDeclared more x
  IsDeclared (DeclareConstant y initial more) x = (x ≡ y) ⊎ IsDeclared more x
  IsDeclared (Mentions es more) x = IsDeclared more x

  abbrev pub IsGlobal : ℕ → Type 0
  IsGlobal x = IsDeclared program.body.decls x

  abbrev pub InCallee : Option Sub → Item → Type 0
  InCallee None i = ⊥
  InCallee (Some sub) i = InBody program.subtypes sub.body i

  -- in the text of that subprogram
  abbrev pub InSub : ℕ → Item → Type 0
  InSub s i = InCallee (sub_at program.subs s) i

  -- so many calls lead from one subprogram to another
  abbrev pub Chain : ℕ → ℕ → ℕ → Type 0
  Chain zero s t = s ≡ t
  Chain (suc n) s t = (u : ℕ) × (at : ℕ) × (callee : ℕ) × InSub s (Calls at callee u) × Chain n u t

  -- in a text that a chain of calls from a subprogram reaches
  abbrev pub Reached : ℕ → Item → Type 0
  Reached s i = (t : ℕ) × (n : ℕ) × Chain n s t × InSub t i

  -- the effects of a text: those of its own names, and at each call's token those of what it calls on the main
  -- procedure's variables
  abbrev pub IsEffect : (Item → Type 0) → ℕ → Access → Type 0
  IsEffect items at a =
      items (Touches at a) ⊎ ((callee : ℕ) × (s : ℕ) × items (Calls at callee s) × (there : ℕ) × Reached s (Touches there a) × IsGlobal a.object)
