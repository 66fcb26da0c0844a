-- The order of statements: threads go forward, others stands last, a parallel block has some arms and not too many, what is
-- returned is a number, and an exception is raised again in handlers alone.
use Rattle.std.specs.Prelude.{◌≡◌, ℕ, ◌≤◌, List, [], ◌∷◌, Option, Some, None, Bool, true, false}
use Rattle.typed_tree.specs.declared.program.Formal.{Formal}
use Rattle.typed_tree.specs.declared.program.Mode.TheVariants as mode
use Rattle.typed_tree.specs.declared.scalars.Scalar.{Scalar}
use Rattle.typed_tree.specs.Syntax.{Value, Number, Cells, Stmt, ReturnValue, Reraise, IfThen, Case, Loop, For, ParallelFor, Parallel, Block, Stmts, End, Then, Alternatives, NoAlternative, Alternative, Arms, NoArm, Arm, Handlers, NoHandler, Handler, Sub, Program}
use Rattle.ada_meaning.specs.Meaning.{arms_of, sub_at, most_threads}
use Rattle.typed_scopes.specs.Scopes.{IsForward, IsLast, IsLastHandler}

-- functions give scalars (6.5)
abbrev pub IsNumber : Value → Type 0
IsNumber (Number check e) = Unit {0}
IsNumber (Cells c) = ⊥

-- where a handler is around, and where none is
abbrev mutual
  pub OrderedStmt : Bool → Stmt → Type 0
  OrderedStmt h (ReturnValue value) = IsNumber value
  OrderedStmt h Reraise = h ≡ true
  OrderedStmt h (IfThen condition stmts otherwise) = OrderedAll h stmts × OrderedAll h otherwise
  OrderedStmt h (Case e alternatives) = OrderedCases h alternatives
  OrderedStmt h (Loop number condition stmts) = OrderedAll h stmts
  OrderedStmt h (For number iteration stmts) = OrderedAll h stmts
  OrderedStmt h (ParallelFor number site chunk iteration stmts) = IsForward iteration × OrderedAll h stmts
  OrderedStmt h (Parallel site count arms) = (1 ≤ arms_of arms) × (arms_of arms ≤ most_threads) × OrderedArms h arms
  OrderedStmt h (Block decls stmts handlers) = OrderedAll h stmts × OrderedHandlers handlers
  OrderedStmt h _ = Unit {0}

  pub OrderedAll : Bool → Stmts → Type 0
  OrderedAll h End = Unit {0}
  OrderedAll h (Then first more) = OrderedStmt h first × OrderedAll h more

  pub OrderedCases : Bool → Alternatives → Type 0
  OrderedCases h NoAlternative = Unit {0}
  OrderedCases h (Alternative others choices mentions stmts rest) = IsLast others rest × OrderedAll h stmts × OrderedCases h rest

  pub OrderedArms : Bool → Arms → Type 0
  OrderedArms h NoArm = Unit {0}
  OrderedArms h (Arm stmts rest) = OrderedAll h stmts × OrderedArms h rest

  pub OrderedHandlers : Handlers → Type 0
  OrderedHandlers NoHandler = Unit {0}
  OrderedHandlers (Handler handled stmts rest) = IsLastHandler handled rest × OrderedAll true stmts × OrderedHandlers rest

-- the formal parameters of a function are of mode `in` (6.1)
abbrev pub AllIn : List Formal → Type 0
AllIn [] = Unit {0}
AllIn (f ∷ fs) = (f.mode ≡ mode.In) × AllIn fs

abbrev pub AreIn : Option Scalar → List Formal → Type 0
AreIn None fs = Unit {0}
AreIn (Some result) fs = AllIn fs

pub record OrderedSub (unit : Sub) : Type 0 where
  pub formals : AreIn unit.result unit.formals
  pub stmts : OrderedAll false unit.body.stmts
  pub handlers : OrderedHandlers unit.body.handlers

pub record IsOrdered (program : Program) : Type 0 where
  pub stmts : OrderedAll false program.body.stmts
  pub handlers : OrderedHandlers program.body.handlers
  pub subs : (k : ℕ) (unit : Sub) → sub_at program.subs k ≡ Some unit → OrderedSub unit
