-- How a unit ran: which run an answer tells of, and which devices failed.
use Rattle.std.specs.Prelude.{◌≡◌, ◌⊎◌, ℕ, nat_eq, List, ◌++◌, drop, Bool, true, false}
use Rattle.ada_base.specs.Cuts.{Plan}
use Rattle.ada_meaning.specs.Law as law
use Rattle.ada_meaning.specs.Law.{EndsItself, IsPermitted, IsPrefix, Outcome}
use Rattle.ada_meaning.specs.Programs.{Setting, input_of, sequential}
use Rattle.ada_meaning.specs.Sequential.{IsCalm}
use Rattle.ada_port.specs.Ports.{Stream, Rose, bytes_of}
use Rattle.typed_tree.specs.Syntax.{Program}
use Rattle.run_plan.specs.Plans.{plan_of}
use Rattle.run_plan.specs.declared.plan.Setting as plan
use Rattle.run_machine.specs.declared.ends.How.{How}
use Rattle.run_machine.specs.declared.ends.How.TheVariants as how
use Rattle.run_reports.specs.Ends.{values_of}
use Rattle.run_reports.specs.declared.ends.Finals.{Finals}
use Rattle.run_reports.specs.declared.ends.RunEnd.{RunEnd}
use Rattle.run_reports.specs.declared.ends.RunEnd.TheVariants as run_end

-- so many workers carry out the threads of a construct, which with one are taken in order
abbrev pub by_workers : Plan → (workers limit : ℕ) → Setting
by_workers plan workers limit = record { plan = plan; one = nat_eq workers 1; limit = limit }

abbrev pub setting_of : plan.Setting → Setting
setting_of s = by_workers (plan_of s.plan) s.workers s.turns

-- the answer tells how the run ended, and what its variables were where it ended normally
abbrev pub EndsAs : Program → ℕ → RunEnd → Outcome → Type 0
EndsAs p limit (run_end.Ended finals) o = (o.ending ≡ law.Ended) × (o.finals ≡ values_of p finals)
EndsAs p limit (run_end.Raised reason) o = o.ending ≡ law.Raised reason
EndsAs p limit (run_end.TurnsSpent turns) o = (o.ending ≡ law.TurnsSpent) × (turns ≡ limit)
EndsAs p limit run_end.ReadFault o = o.ending ≡ law.ReadFault
EndsAs p limit run_end.WriteFault o = o.ending ≡ law.WriteFault
EndsAs p limit run_end.NoMemory o = o.ending ≡ law.NoMemory

-- a run that left no parallel construct early, or one with one worker
abbrev pub IsSettled : Setting → (early : Bool) → Type 0
IsSettled set early = (early ≡ false) ⊎ (set.one ≡ true)

-- each run that is permitted on this input, and ends by itself, comes to this
abbrev pub IsOnly : Program → Setting → (input : List ℕ) → Outcome → Type 0
IsOnly p set input o = (early : Bool) (other : Outcome) → IsPermitted p set input early other → EndsItself other.ending → other ≡ o

-- The answer tells of a run that is permitted under the setting on these bytes of input. Where the input tells, what is left
-- of it is what that run didn't take; where the output tells, what was put before is followed by that run's output. Where it
-- ended by itself, and left no parallel construct early or had one worker, no other permitted run that ends by itself comes to
-- another output, count of bytes taken, list of variables or ending. Let the sequential run be calm: it ends within the limit,
-- normally or by an exception, leaves no parallel construct early, and its parallel reductions are listed ones without partial
-- overflow. Then a run that ended by itself is that run; and however the run ended, also where a fault or want of memory stopped
-- it, its output is a prefix of that run's.
pub record TellsOf (InTells OutTells : Type 0) (p : Program) (set : Setting) (end : RunEnd) (input rest before now : List ℕ) : Type 0 where
  pub outcome : Outcome
  pub early : Bool
  pub permitted : IsPermitted p set input early outcome
  pub ends : EndsAs p set.limit end outcome
  pub left : InTells → rest ≡ drop outcome.taken input
  pub output : OutTells → now ≡ before ++ outcome.output
  pub only : IsSettled set early → EndsItself outcome.ending → IsOnly p set input outcome
  pub calm : IsCalm (sequential p set.limit (input_of input)) → EndsItself outcome.ending → outcome ≡ law.outcome_of p input (sequential p set.limit (input_of input))
  pub prefix : IsCalm (sequential p set.limit (input_of input)) → IsPrefix outcome.output (sequential p set.limit (input_of input)).output

-- a fault of a device is answered where its count rose, and nowhere else
abbrev pub Causes : RunEnd → Stream → Stream → Stream → Stream → Type 0
Causes run_end.ReadFault input input' out out' = Rose input input' × (out'.faults ≡ out.faults)
Causes run_end.WriteFault input input' out out' = (input'.faults ≡ input.faults) × Rose out out'
Causes _ input input' out out' = (input'.faults ≡ input.faults) × (out'.faults ≡ out.faults)

-- A run: the answer tells of one that is permitted on some input, which is what the input tells, where it tells.
pub record Runs (InTells OutTells : Type 0) (p : Program) (set : Setting) (end : RunEnd) (input input' out out' : Stream) : Type 0 where
  pub causes : Causes end input input' out out'
  pub on : List ℕ
  pub told : InTells → on ≡ bytes_of input
  pub run : TellsOf InTells OutTells p set end on (bytes_of input') (bytes_of out) (bytes_of out')

-- the answer that an end of the machine's run is, under a limit of turns, with what the variables were then
abbrev pub end_by : How → ℕ → Finals → RunEnd
end_by how.Ended limit finals = run_end.Ended finals
end_by (how.Raised reason) limit finals = run_end.Raised reason
end_by how.TurnsSpent limit finals = run_end.TurnsSpent limit
end_by how.ReadFault limit finals = run_end.ReadFault
end_by how.WriteFault limit finals = run_end.WriteFault
end_by how.NoMemory limit finals = run_end.NoMemory
