-- Why each status comes, and what comes where something is due.
use Rattle.std.specs.Prelude.{◌≡◌, ◌⊎◌, ◌<◌, ◌++◌, ⊤, ℕ, List, Some, None, Bool, true, IfSome}
use Rattle.ada_base.specs.declared.reason.Reason.{Reason}
use Rattle.ada_meaning.specs.Law.{Ending, Ended, Raised, TurnsSpent, ReadFault, WriteFault, IsPermitted, IsPrefix, Outcome, outcome_of}
use Rattle.ada_meaning.specs.Programs.{input_of, sequential}
use Rattle.ada_meaning.specs.Sequential.{IsCalm}
use Rattle.ada_port.specs.Ports.{Texts, Rose, bytes_of}
use Rattle.driver.specs.Running.{IsOnly, IsSettled}
use Rattle.driver.specs.Compile.{IsAccepted}
use Rattle.driver.specs.Compiled.{Compiled}
use Rattle.command_words.specs.Words.{Asked, asked}
use Rattle.command_words.specs.declared.request.Mode.{Mode}
use Rattle.command_words.specs.declared.request.Mode.TheVariants as mode
use Rattle.top_call.specs.Answer.{Answers, Devices, Outside, Untouched, setting_for, text_of}
use Rattle.run_reports.specs.Says.{number_of}
use Rattle.run_reports.specs.Vars.{vars_lines}
use Rattle.run_reports.specs.declared.status.Status.{Status}
use Rattle.run_reports.specs.declared.status.Status.TheVariants as status

-- the number of a status, with what became of the words
abbrev pub Answered : Type 0 → Type 0 → List (List ℕ) → ℕ → Outside → Outside → Type 0
Answered InTells OutTells words number before now = (given : Status) × (number ≡ number_of given) × Answers InTells OutTells words given before now

-- the words ask so for a text, which is told and accepted
pub record IsDue (words : List (List ℕ)) (shelf : Texts) (q : Asked) (text : List ℕ) (c : Compiled) : Type 0 where
  pub asks : asked words ≡ Some q
  pub told : text_of q shelf ≡ Some text
  pub accepted : IsAccepted text c

-- it is so of each
abbrev pub OfDue : List (List ℕ) → Outside → (Asked → List ℕ → Compiled → Type 0) → Type 0
OfDue words before P = (q : Asked) (text : List ℕ) (c : Compiled) → IsDue words before.shelf q text c → P q text c

-- the words ask for a text that is accepted
pub record Asks (words : List (List ℕ)) (shelf : Texts) (q : Asked) (c : Compiled) : Type 0 where
  pub asks : asked words ≡ Some q
  pub text : List ℕ
  pub has : IfSome (text_of q shelf) (λ told. text ≡ told)
  pub accepted : IsAccepted text c

-- On some input a run that is permitted under what is asked for ends so; where the input tells, that is what it tells.
abbrev pub MayEnd : Type 0 → Asked → Compiled → Devices → Ending → Type 0
MayEnd InTells q c before ending =
    (on : List ℕ) × ((InTells → on ≡ bytes_of before.input) × ((o : Outcome) × ((early : Bool) × IsPermitted c.program (setting_for q.settings) on early o × (o.ending ≡ ending))))

-- the words ask so for an accepted text, and on some input a permitted run of it ends so
abbrev pub HasRun : (Asked → Type 0) → Type 0 → List (List ℕ) → Outside → Ending → Type 0
HasRun So InTells words before ending = (q : Asked) × (c : Compiled) × Asks words before.shelf q c × So q × MayEnd InTells q c before.devices ending

-- the text is run, in a soak too
abbrev pub Executes : Mode → Type 0
Executes mode.Run = ⊤
Executes (mode.Soak n) = ⊤
Executes m = ⊥

abbrev pub HasEnding : Type 0 → List (List ℕ) → Outside → Ending → Type 0
HasEnding InTells words before ending = HasRun (λ q. Executes q.mode) InTells words before ending

-- behind a normal end lines are put out: of variables that are asked for, or of a soak
abbrev pub PutsLines : Asked → Type 0
PutsLines q = ((q.mode ≡ mode.Run) × (q.vars ≡ true)) ⊎ ((n : ℕ) × (q.mode ≡ mode.Soak n))

-- the words ask whether an accepted text is accepted, or for its code
abbrev pub HasCheck : List (List ℕ) → Outside → Type 0
HasCheck words before = (q : Asked) × (c : Compiled) × Asks words before.shelf q c × ((q.mode ≡ mode.Check) ⊎ (q.mode ≡ mode.List))

-- the words ask for a text, which isn't accepted where it is told
abbrev pub IsNotAccepted : List (List ℕ) → Outside → Type 0
IsNotAccepted words before =
    (q : Asked) × (asked words ≡ Some q) × ((text : List ℕ) (c : Compiled) → text_of q before.shelf ≡ Some text → IsAccepted text c → ⊥)

-- Out failed; and a permitted run that puts to it ends by a write fault, or one ends normally behind which lines are put out,
-- or it is asked whether an accepted text is accepted.
abbrev pub OutFails : Type 0 → List (List ℕ) → Outside → Outside → Type 0
OutFails InTells words before now =
    (HasRun (λ q. q.mode ≡ mode.Run) InTells words before WriteFault ⊎ HasRun PutsLines InTells words before Ended ⊎ HasCheck words before)
    × Rose before.devices.out now.devices.out

-- why a status is given
abbrev pub Cause : Type 0 → List (List ℕ) → Outside → Outside → Status → Type 0
Cause InTells words before now status.Done = HasCheck words before ⊎ HasEnding InTells words before Ended
Cause InTells words before now status.Refused = IsNotAccepted words before
Cause InTells words before now status.Usage = asked words ≡ None
Cause InTells words before now status.ShelfFault = Rose before.shelf now.shelf
Cause InTells words before now status.Raised = (why : Reason) × HasEnding InTells words before (Raised why)
Cause InTells words before now status.Spent = HasEnding InTells words before TurnsSpent
Cause InTells words before now status.ReadFault = HasEnding InTells words before ReadFault × Rose before.devices.input now.devices.input
Cause InTells words before now status.WriteFault = OutFails InTells words before now ⊎ Rose before.devices.err now.devices.err
Cause InTells words before now status.OutOfMemory = ⊤

-- Where input and out tell, and the sequential run on that input is calm, a prefix of that run's output was put out.
abbrev pub PutsPrefix : Type 0 → Type 0 → Asked → Compiled → Devices → Devices → Type 0
PutsPrefix InTells OutTells q c before now =
    InTells → OutTells → IsCalm (sequential c.program q.settings.turns (input_of (bytes_of before.input)))
    → (part : List ℕ) × (bytes_of now.out ≡ bytes_of before.out ++ part) × IsPrefix part (sequential c.program q.settings.turns (input_of (bytes_of before.input))).output

-- what the sequential run under the limit that is asked for comes to on these bytes of input
abbrev pub sequential_of : Asked → Compiled → List ℕ → Outcome
sequential_of q c input = outcome_of c.program input (sequential c.program q.settings.turns (input_of input))

-- what a run puts out that ends normally, and then the lines of its variables
abbrev pub with_vars : Compiled → Outcome → List ℕ
with_vars c o = o.output ++ vars_lines c.finals o.finals

-- On some input, which is what the input tells where it tells, a permitted run ended normally. Where out tells, that run's
-- output was put out, and then the lines of its variables. Where it left no parallel construct early or had one worker, it is the
-- only one that ends by itself; and where the sequential run on that input is calm, it is that run.
pub record PutsVars (InTells OutTells : Type 0) (q : Asked) (c : Compiled) (before now : Devices) : Type 0 where
  pub on : List ℕ
  pub told : InTells → on ≡ bytes_of before.input
  pub outcome : Outcome
  pub early : Bool
  pub permitted : IsPermitted c.program (setting_for q.settings) on early outcome
  pub ended : outcome.ending ≡ Ended
  pub written : OutTells → bytes_of now.out ≡ bytes_of before.out ++ with_vars c outcome
  pub only : IsSettled (setting_for q.settings) early → IsOnly c.program (setting_for q.settings) on outcome
  pub calm : IsCalm (sequential c.program q.settings.turns (input_of on)) → outcome ≡ sequential_of q c on

-- The same as a prefix of that run's output where the lines of variables follow it.
abbrev pub PutsVarsPrefix : Type 0 → Type 0 → Asked → Compiled → Devices → Devices → Type 0
PutsVarsPrefix InTells OutTells q c before now =
    InTells → OutTells → IsCalm (sequential c.program q.settings.turns (input_of (bytes_of before.input)))
    → (part : List ℕ) × (bytes_of now.out ≡ bytes_of before.out ++ part) × IsPrefix part (with_vars c (sequential_of q c (bytes_of before.input)))

-- Nothing is asked of the input and nothing put to out, since the shelf or err failed or memory ran out.
pub data Fails (number : ℕ) (before now : Outside) : Type 0 where
  ShelfFails : number ≡ 3 → Rose before.shelf now.shelf → Untouched before.devices now.devices → Fails number before now
  ErrFails : number ≡ 7 → Rose before.devices.err now.devices.err → Untouched before.devices now.devices → Fails number before now
  MemoryFails : number ≡ 8 → Untouched before.devices now.devices → Fails number before now

-- this was done with the devices, with the status, or something failed before it
abbrev pub Meets : (Devices → Devices → Status → Type 0) → ℕ → Outside → Outside → Type 0
Meets P number before now = ((given : Status) × (number ≡ number_of given) × P before.devices now.devices given) ⊎ Fails number before now

-- A call that failed is not made good: a count that is greater than before gives its status.
pub record IsNotMadeGood (number : ℕ) (before now : Outside) : Type 0 where
  pub out : before.devices.out.faults < now.devices.out.faults → number ≡ 7
  pub err : before.devices.err.faults < now.devices.err.faults → number ≡ 7
  pub input : before.devices.input.faults < now.devices.input.faults → (number ≡ 6) ⊎ (number ≡ 7)
  pub shelf : before.shelf.faults < now.shelf.faults → (number ≡ 3) ⊎ (number ≡ 7) ⊎ (number ≡ 8)
