-- What statements and expressions are made of.
use Rattle.std.specs.Prelude.{ℕ, ℤ, List, Option, Bool, not, cond, is_some}
use Rattle.ada_base.specs.declared.operation.Op.{Op}
use Rattle.ada_base.specs.Input.{Held}
use Rattle.behaviours.specs.Doings.{Doings}
use Rattle.behaviours.specs.Joins.{Site}
use Rattle.behaviours.specs.Paths.{Leave, Entity, Region}
use Rattle.typed_tree.specs.declared.scalars.Class.{Class}
use Rattle.typed_tree.specs.declared.scalars.Scalar.{Scalar}
use Rattle.typed_tree.specs.declared.expressions.Reducer.{Reducer}
use Rattle.typed_tree.specs.declared.expressions.Reducer.TheVariants.{Operator, Function}
use Rattle.ada_meaning.specs.Values.{result, value_or_zero, divides, overflows, is_zero}

-- what a check is of (11.5): a value's range, an index, the base range of a result, a divisor
pub data CheckKind : Type 0 where
  RangeCheck : CheckKind
  IndexCheck : CheckKind
  OverflowCheck : CheckKind
  ZeroCheck : CheckKind

-- how iterations are dealt to threads (5.5): by the run's plan, to no more than so many; or with these sizes
pub data Cut : Type 0 where
  ByPlan : (most iterations : ℕ) → Cut
  Sized : (sizes : List ℕ) → Cut

-- the number that a thread has for what it does: chunks by a plan are all alike
abbrev pub chunk_of : Cut → ℕ → ℕ
chunk_of (ByPlan most n) j = 0
chunk_of (Sized sizes) j = j

module _ {ℓ} (d : Doings {ℓ}) where
  open d use {Doing, ret, ◌>>=◌}

  infixl 10 ◌>>=◌
  module _ (checks : CheckKind → ℕ → Bool → Doing (Unit {0})) where
    abbrev pub zero_checked : Op → ℕ → ℤ → Doing (Unit {0})
    zero_checked op at y = cond (divides op) (checks ZeroCheck at (not (is_zero y))) (ret tt)

    abbrev pub overflow_checked : Op → ℕ → Option ℤ → Doing (Unit {0})
    overflow_checked op at z = cond (overflows op) (checks OverflowCheck at (is_some z)) (ret tt)

    -- an operation on two values (4.5), with its checks
    abbrev pub operate : Op → ℕ → Class → ℤ → ℤ → Doing ℤ
    operate op at class x y = do
      _ ← zero_checked op at y
      _ ← overflow_checked op at (result op class x y)
      ret (value_or_zero (result op class x y))

    -- one step of a fold by a reducer (4.5.10): by an operator, or by a call of a function, which is given
    abbrev pub reduce : Reducer → ℕ → (ℤ → ℤ → Doing ℤ) → ℤ → ℤ → Doing ℤ
    reduce (Operator at op class) attribute call a b = operate op attribute class a b
    reduce (Function at sub accumulator value) attribute call a b = call a b

-- everything that a construct of the language does
pub record Operations {ℓ} : Type (ℓ + 1) where
  pub doings : Doings {ℓ}
  pub open doings use *
  -- a cell of an object, whose values are those of a subtype
  pub reads : Entity → (offset : ℕ) → Scalar → Doing ℤ
  pub writes : (object offset : ℕ) → ℤ → Doing (Unit {0})
  -- a new instance of an object with these cells, for as long as a part goes on (3.11)
  pub elaborates : {A : Type 0} → Region → Entity → List ℤ → Doing A → Doing A
  -- a part that sees no objects but those that are visible everywhere
  pub apart : {A : Type 0} → Doing A → Doing A
  -- an iteration or a call begins; here a cancel is looked for
  pub turn : Doing (Unit {0})
  pub look : Doing (Unit {0})
  -- raises Constraint_Error where the check at this token doesn't hold (11.5)
  pub checks : CheckKind → (at : ℕ) → (holds : Bool) → Doing (Unit {0})
  pub leaves : {A : Type 0} → Leave → Doing A
  -- the turns are spent
  pub spent : {A : Type 0} → Doing A
  -- a part that is left in such a way goes on so: handlers (11.4), exits of loops, returns
  pub handles : {A : Type 0} → Doing A → (Leave → Bool) → (Leave → Doing A) → Doing A
  -- a piece of output, and the bytes of input with what is held of them (A.10)
  pub puts : List ℕ → Doing (Unit {0})
  pub recalls : Doing Held
  pub keeps : Held → Doing (Unit {0})
  pub takes : Doing (Option ℕ)
  -- the threads of a parallel construct (5.5, 5.6.1); a thread's number and that of an iteration give its body. What the
  -- parameters are is told beside it
  pub loops : (site : Site) → Cut → (ℕ → ℕ → Doing (Unit {0})) → Doing (Unit {0})
  -- a parallel reduction (4.5.10): the reducer and the token of its checks, the initial value, each value that passes
  -- the filter, and for a declared function its call in a thread and where accumulators are combined
  pub reduces : (site : Site) → Cut → Reducer → (at : ℕ) → ℤ → (ℕ → ℕ → Doing (Option ℤ)) → (ℤ → ℤ → Doing ℤ) → (ℤ → ℤ → Doing ℤ) → Doing ℤ
