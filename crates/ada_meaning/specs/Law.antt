-- Permitted runs, and the laws of runs.
use Rattle.std.specs.Prelude.{◌≡◌, ℕ, ◌<◌, min, ℤ, length, List, [], ◌∷◌, ◌++◌, Option, Bool, true, false}
use Rattle.ada_base.specs.declared.reason.Reason.{Reason}
use Rattle.ada_base.specs.declared.operation.Op.{Op}
use Rattle.ada_base.specs.Operation.{CanApply, result_of}
use Rattle.typed_tree.specs.declared.scalars.Class.{Class}
use Rattle.ada_base.specs.Cuts.{Plan, One, Even, Chunked, Listed}
use Rattle.behaviours.specs.Paths.{Exits, Returns, Raises, Instance, End, Gives, Leaves, Spent, Stopped, Path, start, nothing_visible}
use Rattle.behaviours.specs.Events.{Takes, Puts, Trace, output_of}
use Rattle.behaviours.specs.Memory.{Fits, empty, after}
use Rattle.behaviours.specs.Behaviours.{Behaviour, asks_apart, asks_at_once, asks_silent}
use Rattle.ada_meaning.specs.Values.{base_of, result}
use Rattle.typed_tree.specs.Syntax.{Program}
use Rattle.ada_meaning.specs.Nonblocking.{KeepsRule}
use Rattle.ada_meaning.specs.Runs.{anything, of_subtype}
use Rattle.ada_meaning.specs.Planned.{Result}
use Rattle.ada_meaning.specs.Sequential.{IsCalm}
use Rattle.ada_meaning.specs.Programs.{Setting, input_of, runs_of, sequential, finals}

-- how a run ends: by itself in one of three ways, or by a fault of the input or output, or for want of memory
pub data Ending : Type 0 where
  Ended : Ending
  Raised : Reason → Ending
  TurnsSpent : Ending
  ReadFault : Ending
  WriteFault : Ending
  NoMemory : Ending

-- what comes of a run: the bytes put out, how many bytes of the input were taken, and the values of the main
-- procedure's variables that were elaborated
pub record Outcome : Type 0 where
  pub output : List ℕ
  pub taken : ℕ
  pub finals : List (List ℤ)
  pub ending : Ending

-- the runs of a program, where no two threads that may run at once have a race if `safe` holds; a read gives anything,
-- which only adds runs that aren't consistent
abbrev pub behaviour : Program → Setting → Behaviour Instance (Unit {0})
behaviour program set = runs_of anything asks_at_once program set

-- the program has a run whose trace begins so
pub record BeginsRun (program : Program) (set : Setting) (front : Trace Instance) : Type 0 where
  pub rest : Trace Instance
  pub early : Bool
  pub path : Path Instance
  pub end : End (Unit {0})
  pub run : (behaviour program set).runs nothing_visible start (front ++ rest) early path end

-- how an ending comes from the end of a run with this trace, and what was put out
abbrev pub EndsAs : Program → Setting → Trace Instance → Path Instance → End (Unit {0}) → List ℕ → Ending → Type 0
EndsAs program set tr path end output Ended = (end ≡ Gives tt) × (output ≡ output_of tr)
EndsAs program set tr path end output (Raised r) = (end ≡ Leaves (Raises r)) × (output ≡ output_of tr)
EndsAs program set tr path end output TurnsSpent = (end ≡ Spent) × (output ≡ output_of tr)
EndsAs program set tr path end output ReadFault = (end ≡ Stopped) × (output ≡ output_of tr) × ((b : Option ℕ) × BeginsRun program set (tr ++ (Takes path.taken b ∷ [])))
EndsAs program set tr path end output WriteFault =
    (end ≡ Stopped) × ((passed : List ℕ) × (rest : List ℕ) × (output ≡ output_of tr ++ passed) × BeginsRun program set (tr ++ (Puts (passed ++ rest) ∷ [])))
EndsAs program set tr path end output NoMemory = (end ≡ Stopped) × (output ≡ output_of tr)

-- a run that the manual permits under a setting and on an input; `early` tells whether a construct was left early
pub record IsPermitted (program : Program) (set : Setting) (input : List ℕ) (early : Bool) (o : Outcome) : Type 0 where
  pub trace : Trace Instance
  pub path : Path Instance
  pub end : End (Unit {0})
  pub run : (behaviour program set).runs nothing_visible start trace early path end
  pub fits : Fits (empty (input_of input)) trace
  pub ends : EndsAs program set trace path end o.output o.ending
  pub taken : o.taken ≡ min path.taken (length input)
  pub finals : o.finals ≡ finals program (after (empty (input_of input)) trace) path.globals

-- no two threads of a construct that some run comes to have a race, consistent or not; where they are taken in order too
abbrev pub IsRaceFree : Program → Type 0
IsRaceFree program = (set : Setting) → (runs_of anything asks_apart program set).safe nothing_visible start

-- it ended by itself
abbrev pub EndsItself : Ending → Type 0
EndsItself Ended = Unit {0}
EndsItself (Raised r) = Unit {0}
EndsItself TurnsSpent = Unit {0}
EndsItself ReadFault = ⊥
EndsItself WriteFault = ⊥
EndsItself NoMemory = ⊥

-- the ending of a run that wasn't stopped; a main procedure isn't left by an exit or a return
abbrev pub ending_of : End (Unit {0}) → Ending
ending_of (Gives u) = Ended
ending_of (Leaves (Raises r)) = Raised r
ending_of (Leaves (Exits n)) = Ended
ending_of (Leaves (Returns v)) = Ended
ending_of Spent = TurnsSpent
ending_of Stopped = NoMemory

abbrev pub outcome_of : Program → List ℕ → Result (Unit {0}) → Outcome
outcome_of program input r = record { output = r.output; taken = min r.path.taken (length input); finals = finals program r.memory r.path.globals; ending = ending_of r.end }

-- the numbers of a plan are at least 1
abbrev pub EachPositive : List ℕ → Type 0
EachPositive [] = Unit {0}
EachPositive (n ∷ ns) = (0 < n) × EachPositive ns

abbrev pub IsPlan : Plan → Type 0
IsPlan One = Unit {0}
IsPlan (Even k) = 0 < k
IsPlan (Chunked s) = 0 < s
IsPlan (Listed ss) = EachPositive ss

abbrev pub IsPrefix : List ℕ → List ℕ → Type 0
IsPrefix part whole = (rest : List ℕ) × (whole ≡ part ++ rest)

-- Each permitted run that ends by itself comes to what the sequential run comes to, and there is such a run. However a
-- permitted run ends, and wherever it is stopped, its output is a prefix of the sequential run's.
abbrev pub IsSequential : Program → Setting → List ℕ → Type 0
IsSequential program set input =
    ((early : Bool) (o : Outcome) → IsPermitted program set input early o → EndsItself o.ending → o ≡ outcome_of program input (sequential program set.limit (input_of input)))
    × IsPermitted program set input false (outcome_of program input (sequential program set.limit (input_of input)))
    × ((early : Bool) (o : Outcome) → IsPermitted program set input early o → IsPrefix o.output (sequential program set.limit (input_of input)).output)

-- Let a program keep the rule on blocking calls, be free of races, and its sequential run be calm. Then its runs come to
-- what the sequential run comes to.
abbrev pub ComesToSequential : Program → Type 0
ComesToSequential program = (set : Setting) (input : List ℕ) → KeepsRule program → IsPlan set.plan → IsRaceFree program
    → IsCalm (sequential program set.limit (input_of input)) → IsSequential program set input

abbrev pub SequentialLaw : Type 0
SequentialLaw = (program : Program) → ComesToSequential program

-- With one worker that is so whether it is free of races or not.
abbrev pub OneSequentialLaw : Type 0
OneSequentialLaw = (program : Program) (set : Setting) (input : List ℕ) → KeepsRule program → IsPlan set.plan → set.one ≡ true
    → IsCalm (sequential program set.limit (input_of input)) → IsSequential program set input

-- Where a permitted run left no construct early, no other one that ends by itself comes to anything else.
abbrev pub OnlyLaw : Type 0
OnlyLaw = (program : Program) (set : Setting) (input : List ℕ) (o o' : Outcome) (early : Bool) → KeepsRule program → IsRaceFree program
    → IsPermitted program set input false o → EndsItself o.ending → IsPermitted program set input early o' → EndsItself o'.ending → o' ≡ o

-- With one worker all permitted runs that end by themselves come to one thing.
abbrev pub OneLaw : Type 0
OneLaw = (program : Program) (set : Setting) (input : List ℕ) (o o' : Outcome) (early early' : Bool) → KeepsRule program → set.one ≡ true
    → IsPermitted program set input early o → EndsItself o.ending → IsPermitted program set input early' o' → EndsItself o'.ending → o' ≡ o

-- the same with one worker, which takes the threads of each construct in order
abbrev pub with_one_worker : Setting → Setting
with_one_worker set = record set { one = true }

-- A run that is permitted with one worker is permitted with any number of them.
abbrev pub MoreWorkersLaw : Type 0
MoreWorkersLaw = (program : Program) (set : Setting) (input : List ℕ) (early : Bool) (o : Outcome) → KeepsRule program → IsPermitted program (with_one_worker set) input early o → IsPermitted program set input early o

-- Whatever a program does, it may be stopped before it begins.
abbrev pub StopsLaw : Type 0
StopsLaw = (program : Program) (set : Setting) → KeepsRule program → (behaviour program set).runs nothing_visible start [] false start Stopped

-- With one worker no two threads run at once, in whatever program.
abbrev pub AloneLaw : Type 0
AloneLaw = (program : Program) (plan : Plan) (limit : ℕ) → KeepsRule program → (behaviour program (record { plan = plan; one = true; limit = limit })).safe nothing_visible start

-- Where the rule on blocking calls is kept no thread of a construct takes input or puts output.
abbrev pub SilentLaw : Type 0
SilentLaw = (program : Program) (set : Setting) → KeepsRule program → (runs_of anything asks_silent program set).safe nothing_visible start

-- What has no races has none between threads that may run at once.
abbrev pub AtOnceLaw : Type 0
AtOnceLaw = (program : Program) → KeepsRule program → IsRaceFree program → (set : Setting) → (behaviour program set).safe nothing_visible start

-- For operands of its type an operator has the result of the operation on the base range.
abbrev pub OperatorLaw : Type 0
OperatorLaw = (op : Op) (class : Class) (x y : ℤ) → CanApply op (base_of class) x y → result op class x y ≡ result_of op (base_of class) x y

-- A run in which each read gives a value of its cell's subtype is a run, and what has no races has none in these runs.
abbrev pub SubtypeLaw : Type 0
SubtypeLaw = (program : Program) (set : Setting) → KeepsRule program
    → ((tr : Trace Instance) (early : Bool) (path : Path Instance) (end : End (Unit {0})) → (runs_of of_subtype asks_at_once program set).runs nothing_visible start tr early path end → (behaviour program set).runs nothing_visible start tr early path end)
    × (IsRaceFree program → (runs_of of_subtype asks_apart program set).safe nothing_visible start)
