-- Programs as wholes: their runs by each reading, and what they come to.
use Rattle.std.specs.Prelude.{ℕ, zero, suc, ℤ, length, List, [], ◌∷◌, Option, Some, None, Bool, true}
use Rattle.typed_tree.specs.declared.scalars.Scalar.{Scalar}
use Rattle.typed_tree.specs.Syntax.{Program}
use Rattle.ada_base.specs.Cuts.{Plan, cuts_of}
use Rattle.behaviours.specs.Paths.{Entity, VariableOf, ConstantOf, Instance, End, start, nothing_visible}
use Rattle.behaviours.specs.Memory.{Memory, empty}
use Rattle.behaviours.specs.Behaviours.{Behaviour, Asks}
use Rattle.ada_meaning.specs.Meaning.{main, object_layout}
use Rattle.ada_meaning.specs.Runs
use Rattle.ada_meaning.specs.Planned
use Rattle.ada_meaning.specs.Planned.{Result}
use Rattle.ada_meaning.specs.Sequential

-- how a run is set: its plan, whether there is one worker, and the limit of turns
pub record Setting : Type 0 where
  pub plan : Plan
  pub one : Bool
  pub limit : ℕ

-- one worker carries out the threads of a construct, in order
abbrev pub by_one_worker : Plan → ℕ → Setting
by_one_worker plan limit = record { plan = plan; one = true; limit = limit }

-- the bytes of an input, and then its end
abbrev pub input_of : List ℕ → ℕ → Option ℕ
input_of [] n = None
input_of (b ∷ bs) zero = Some b
input_of (b ∷ bs) (suc n) = input_of bs n

abbrev pub this : Instance → Instance
this x = x

-- the runs of a program, in which such values are read and so much is asked of the threads of constructs
abbrev pub runs_of : (Scalar → ℤ → Type 0) → Asks Instance → Program → Setting → Behaviour Instance (Unit {0})
runs_of admits asks program set = main (Runs.operations Instance this admits asks set.limit (cuts_of set.plan) set.one) set.limit program

-- the run under a plan that takes threads in order
abbrev pub planned : Program → Plan → ℕ → (ℕ → Option ℕ) → Result (Unit {0})
planned program plan limit input = main (Planned.operations limit (cuts_of plan)) limit program nothing_visible start (empty input)

-- the sequential run
abbrev pub sequential : Program → ℕ → (ℕ → Option ℕ) → Result (Unit {0})
sequential program limit input = main (Sequential.operations limit) limit program nothing_visible start (empty input)

-- the cells of an instance
abbrev pub values : Memory → Instance → ℕ → ℕ → List ℤ
values m x i zero = []
values m x i (suc n) = m.cells x i ∷ values m x (suc i) n

-- the values of the main procedure's variables, in order of declaration
abbrev pub with_final : Program → Memory → Instance → Entity → List (List ℤ) → List (List ℤ)
with_final program m x (VariableOf k) more = values m x 0 (length (object_layout program k)) ∷ more
with_final program m x (ConstantOf k) more = more

abbrev pub finals : Program → Memory → List Instance → List (List ℤ)
finals program m [] = []
finals program m (x ∷ xs) = with_final program m x x.object (finals program m xs)

-- what a run comes to: its output, how it ends, and the values of the main procedure's variables
pub record Answer : Type 0 where
  pub output : List ℕ
  pub end : End (Unit {0})
  pub finals : List (List ℤ)

abbrev pub answer_of : Program → Result (Unit {0}) → Answer
answer_of program r = record { output = r.output; end = r.end; finals = finals program r.memory r.path.globals }
