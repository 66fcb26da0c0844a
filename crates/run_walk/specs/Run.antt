-- What a whole run shows.
use Rattle.std.specs.Prelude.{◌≡◌, ℕ, List, [], ◌++◌, Bool, Result, Ok, Err}
use Rattle.typed_tree.specs.Programs.{program}
use Rattle.ada_meaning.specs.Nonblocking.{KeepsRule}
use Rattle.ada_meaning.specs.Programs.{by_one_worker}
use Rattle.ada_meaning.specs.Law.{IsPermitted}
use Rattle.ada_meaning.specs.Meaning as meaning
use Rattle.ada_meaning.specs.Stored.{Stored, Stop, Goes, Fails, Left, OutOfTurns, MemoryFault, InputFault, OutputFault, outset, put_out, outcome_of}
use Rattle.run_outside.specs.Outside.{Outside}
use Rattle.run_store.specs.Shows.{Image, outside_of, Causes, leave_of}
use Rattle.run_values.specs.declared.ends.End.{End}
use Rattle.run_values.specs.declared.ends.End.TheVariants as end
use Rattle.run_values.specs.declared.ends.Leave.TheVariants as leave
use Rattle.run_parts.specs.declared.work.Work.{Work}
use Rattle.run_parts.specs.Words.{ops}

abbrev pub main : Work → Stored (Unit {0})
main w = meaning.main (ops w) w.limit (program w.typed.now)

-- an exit or a return ends the main procedure
abbrev pub main_ended : Result (Unit {0}) End → Result (Unit {0}) End
main_ended (Ok v) = Ok v
main_ended (Err (end.Left (leave.Exits n))) = Ok tt
main_ended (Err (end.Left (leave.Returns v))) = Ok tt
main_ended (Err e) = Err e

abbrev pub stop_of : End → Stop
stop_of (end.Left x) = Goes (Left (leave_of x))
stop_of end.Spent = Goes OutOfTurns
stop_of end.NoMemory = Fails MemoryFault
stop_of end.ReadFault = Fails InputFault
stop_of end.WriteFault = Fails OutputFault

abbrev pub answer_of : Result (Unit {0}) End → Result (Unit {0}) Stop
answer_of (Ok u) = Ok u
answer_of (Err e) = Err (stop_of e)

-- A run: a fault of a device is answered where its count rose and nowhere else; and an input that may be the whole one after
-- it may have been it before. On each such input, where the program keeps the rule on blocking calls, no run had
-- begun, and nothing had come, the output that was there is followed by what the run put out, and what the run comes to is
-- permitted.
pub record IsRun (Tells : List ℕ → Outside → Type 0) (w : Work) (r : Result (Unit {0}) End) (s t : Image) : Type 0 where
  pub cause : Causes r s.faults t.faults
  pub back : (input : List ℕ) → Tells input (outside_of t) → Tells input (outside_of s)
  pub permitted : (input : List ℕ) → Tells input (outside_of t) → KeepsRule (program w.typed.now) → (slots : ℕ) → s.state ≡ outset slots [] s.state.output
      → (t.state.output ≡ s.state.output ++ put_out s.state.output t.state) × ((early : Bool) × IsPermitted (program w.typed.now) (by_one_worker w.plan.now w.limit) input early (outcome_of (program w.typed.now) s.state.output (answer_of r) t.state))
