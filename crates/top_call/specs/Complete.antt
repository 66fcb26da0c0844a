-- What comes of an accepted text where no device fails.
use Rattle.std.specs.Prelude.{◌≡◌, ◌⊎◌, ◌++◌, ℕ, List, [], Bool, true, length, drop}
use Rattle.ada_meaning.specs.Law.{Ending, Ended, Raised, TurnsSpent, ReadFault, WriteFault, NoMemory, EndsItself, IsPermitted, Outcome}
use Rattle.ada_meaning.specs.Programs.{input_of, sequential}
use Rattle.ada_meaning.specs.Sequential.{IsCalm}
use Rattle.ada_port.specs.Ports.{Rose, bytes_of}
use Rattle.command_words.specs.Words.{Asked}
use Rattle.command_words.specs.declared.request.Mode.{Mode}
use Rattle.command_words.specs.declared.request.Mode.TheVariants as mode
use Rattle.driver.specs.Compiled.{Compiled}
use Rattle.driver.specs.Running.{IsSettled}
use Rattle.run_reports.specs.Says.{number_of}
use Rattle.run_reports.specs.declared.status.Status.{Status}
use Rattle.run_reports.specs.declared.status.Status.TheVariants as status
use Rattle.top_call.specs.Answer.{Devices, Outside, setting_for}
use Rattle.top_call.specs.Causes.{Executes, sequential_of, with_vars}
use Rattle.top_call.specs.Soak.{soak_lines}

-- no count of faults rose
pub record NoneRose (before now : Outside) : Type 0 where
  pub shelf : Rose before.shelf now.shelf → ⊥
  pub input : Rose before.devices.input now.devices.input → ⊥
  pub out : Rose before.devices.out now.devices.out → ⊥
  pub err : Rose before.devices.err now.devices.err → ⊥

-- the status of a run that ends so
abbrev pub status_of : Ending → Status
status_of Ended = status.Done
status_of (Raised why) = status.Raised
status_of TurnsSpent = status.Spent
status_of ReadFault = status.ReadFault
status_of WriteFault = status.WriteFault
status_of NoMemory = status.OutOfMemory

-- the status comes, or memory runs out
abbrev pub IsOrLacks : ℕ → Status → Type 0
IsOrLacks number due = (number ≡ number_of due) ⊎ (number ≡ number_of status.OutOfMemory)

-- the statuses of an accepted text where no device fails: 0 where it is checked or listed; 0, 4 or 5 where it is run; and 8
abbrev pub Completes : Mode → ℕ → Type 0
Completes mode.Check number = IsOrLacks number status.Done
Completes mode.List number = IsOrLacks number status.Done
Completes m number = (number ≡ number_of status.Done) ⊎ (number ≡ number_of status.Raised) ⊎ IsOrLacks number status.Spent

-- What is put out of a run that came to this: its output, and behind a normal end the lines of its variables, where they are
-- asked for.
abbrev pub put_by_run : Ending → (vars : Bool) → Compiled → Outcome → List ℕ
put_by_run Ended true c o = with_vars c o
put_by_run ending vars c o = o.output

-- in a soak the lines on that run, behind a normal end alone
abbrev pub put_by_soak : Ending → (statements : ℕ) → (text : List ℕ) → Outcome → List ℕ
put_by_soak Ended n text o = soak_lines n (length text) o.output
put_by_soak ending n text o = []

abbrev pub put_of : Mode → (vars : Bool) → Compiled → (text : List ℕ) → Outcome → List ℕ
put_of (mode.Soak n) vars c text o = put_by_soak o.ending n text o
put_of m vars c text o = put_by_run o.ending vars c o

-- The call came to what this run comes to: its status, what it puts out, and what it leaves of the input; or memory ran out.
pub record ComesTo (OutTells : Type 0) (q : Asked) (c : Compiled) (text : List ℕ) (o : Outcome) (number : ℕ) (before now : Devices) : Type 0 where
  pub status : number ≡ number_of (status_of o.ending)
  pub put : OutTells → bytes_of now.out ≡ bytes_of before.out ++ put_of q.mode q.vars c text o
  pub rest : bytes_of now.input ≡ drop o.taken (bytes_of before.input)

abbrev pub ComesToOrLacks : Type 0 → Asked → Compiled → List ℕ → Outcome → ℕ → Devices → Devices → Type 0
ComesToOrLacks OutTells q c text o number before now = ComesTo OutTells q c text o number before now ⊎ (number ≡ number_of status.OutOfMemory)

-- Let no device fail, and the text be run, in a soak too, on an input that tells. Then the call comes to what any permitted run
-- comes to that ends by itself, and left no parallel construct early or had one worker.
abbrev pub ComesToOnly : (InTells OutTells : Type 0) → Asked → Compiled → List ℕ → ℕ → Outside → Outside → Type 0
ComesToOnly InTells OutTells q c text number before now =
    NoneRose before now → Executes q.mode → InTells → (o : Outcome) (early : Bool)
    → IsPermitted c.program (setting_for q.settings) (bytes_of before.devices.input) early o → EndsItself o.ending → IsSettled (setting_for q.settings) early
    → ComesToOrLacks OutTells q c text o number before.devices now.devices

-- And it comes to what the sequential run comes to, where that is calm.
abbrev pub ComesToCalm : (InTells OutTells : Type 0) → Asked → Compiled → List ℕ → ℕ → Outside → Outside → Type 0
ComesToCalm InTells OutTells q c text number before now =
    NoneRose before now → Executes q.mode → InTells → IsCalm (sequential c.program q.settings.turns (input_of (bytes_of before.devices.input)))
    → ComesToOrLacks OutTells q c text (sequential_of q c (bytes_of before.devices.input)) number before.devices now.devices
