-- What a run of the machine on a program's code tells of the program's runs.
use Rattle.std.specs.Prelude.{◌≡◌, ℕ, ◌+◌, length, drop, List, ◌++◌, Option, Some, None, Bool, false}
use Rattle.ada_base.specs.Cuts.{cuts_of}
use Rattle.ada_base.specs.Notes.{ConstructNote}
use Rattle.typed_tree.specs.Syntax.{Program}
use Rattle.ada_meaning.specs.Deeds.{Deed, StopsBetween}
use Rattle.ada_meaning.specs.Law.{Ending, Ended, Raised, TurnsSpent, EndsItself, IsPermitted, IsPlan, IsPrefix, Outcome, outcome_of}
use Rattle.ada_meaning.specs.Programs.{Setting, input_of, sequential}
use Rattle.ada_meaning.specs.Sequential.{IsCalm}
use Rattle.ada_meaning.specs.Stored as stored
use Rattle.ada_meaning.specs.Stored.{noted, noted_outset}
use Rattle.check_effects.specs.Accepted.{IsAccepted}
use Rattle.stack_code.specs.declared.code.Code.{Code}
use Rattle.stack_code.specs.declared.path.Asked.{Asked}
use Rattle.stack_code.specs.declared.path.Leave.TheVariants.{Raise}
use Rattle.stack_code.specs.Machine.{State, Stop, Done, Left, Spent, Comes, Comes_to}
use Rattle.ada_io.specs.declared.input.Got.{Got}
use Rattle.ada_io.specs.Gets.{Gets, ReaderState, last_of}
use Rattle.ada_port.specs.Ports.{Stream}
use Rattle.ada_lower.specs.Asking.{Reads, got}
use Rattle.ada_lower.specs.Homes.{main_variables}
use Rattle.ada_lower.specs.Driven.{World, Path, Final, Step, On, Off, Forks, Forked, answered, fork_ended}
use Rattle.ada_lower.specs.Law.{AreFinals}
use Rattle.machine_paths.specs.Constructing.{ForksTo}
use Rattle.run_machine_laws.specs.Standing.{SameEnds, done_by, first, schedule}
use Rattle.run_machine_laws.specs.Reading.{IsRest, ReadsTo, askings, longer}
use Rattle.run_machine_laws.specs.Programs.{IsLoaded}

-- ---- steps that come to the same ends: where the machine moves and stops, and where the threads of a fork came to something
abbrev pub MoveLaw : Type 0
MoveLaw = (limit : ℕ) (c : Code) (p q : State) (w : World) → Comes limit c p q → SameEnds limit c (On (record { state = p; world = w })) (On (record { state = q; world = w }))

abbrev pub StopLaw : Type 0
StopLaw = (limit : ℕ) (c : Code) (p : State) (x : Stop) (q : State) (w : World) → Comes_to limit c p x q → SameEnds limit c (On (record { state = p; world = w })) (answered limit c x q w)

abbrev pub ForkLaw : Type 0
ForkLaw = (limit : ℕ) (c : Code) (q : Asked) (p : Path) (r : Forked) → ForksTo limit c q p r → SameEnds limit c (Forks q p) (fork_ended c r p)

-- there is one end
abbrev pub OneEndLaw : Type 0
OneEndLaw = (limit : ℕ) (c : Code) (e f : Final) → SameEnds limit c (Off e) (Off f) → e ≡ f

-- ---- a Get of the code is the one that the machine's path is given
abbrev pub GetLaw : Type 0
GetLaw = (limit : ℕ) (old new : Stream) (before after : ReaderState) (turns : ℕ) (result : Got) (g : Gets old new before after turns result) (s : Reads) (later : List ℕ) → s.held ≡ before.held → s.turns + turns ≡ limit
    → s.input ≡ g.bytes ++ later → IsRest (last_of result.end g.ended) later
    → ReadsTo (got limit s) result.end (record { turns = s.turns + result.took; taken = s.taken + result.came; held = after.held; input = later; done = longer s.done (askings result.took) })

-- ---- runs of whole programs

-- a run by these notes, on this input and with this output before it, comes to the same ends as a step
abbrev pub Leads : Setting → Code → (frame : ℕ) → (input before : List ℕ) → List ConstructNote → Step → Type 0
Leads set c frame input before told x = SameEnds set.limit c (first (schedule set.one told) (cuts_of set.plan) frame input before) x

-- What was done outside up to a step is a front of what the program's run by these notes does. So a permitted run may have
-- been stopped anywhere in it: for want of memory, by a fault of the input where that was asked, by one of the output within
-- a piece.
abbrev pub FrontLaw : Type 0
FrontLaw = (program : Program) (set : Setting) (c : Code) (frame slots : ℕ) → IsLoaded program c frame slots → (input before : List ℕ) (told : List ConstructNote) (x : Step) (front back : List Deed)
    → Leads set c frame input before told x → done_by x ≡ Some (front ++ back)
    → (more : List Deed) × ((noted program set).deeds (noted_outset slots input before (schedule set.one told)) ≡ front ++ (back ++ more)) × StopsBetween program set input front (back ++ more)

-- how a run ends whose machine stops so; None is an end of which nothing is said
abbrev pub ending_by : Stop → Option Ending
ending_by (Done None) = Some Ended
ending_by (Left (Raise r)) = Some (Raised r)
ending_by Spent = Some TurnsSpent
ending_by x = None

-- Where the machine stops by itself a permitted run ends so, with that output, with so many bytes taken, and with these
-- finals: behind a normal end they stand in the machine's cells, in order of declaration.
abbrev pub EndLaw : Type 0
EndLaw = (program : Program) (set : Setting) (c : Code) (frame slots : ℕ) (is : IsLoaded program c frame slots) (input before : List ℕ) (told : List ConstructNote) (e : Final) (ending : Ending)
    → Leads set c frame input before told (Off e) → ending_by e.how ≡ Some ending
    → (t : stored.State) × (early : Bool)
    × IsPermitted program set input early (record { output = drop (length before) e.dyn.world.output; taken = e.dyn.world.taken; finals = stored.finals_of program t.kept t.declared; ending = ending })
    × (e.dyn.world.output ≡ before ++ drop (length before) e.dyn.world.output)
    × (ending ≡ Ended → AreFinals (main_variables program 0 program.body.decls) t e.dyn)

-- What is permitted of an accepted program whose sequential run is calm: with any number of workers, a run that ended by
-- itself is that one, and the output of each is a prefix of its output.
abbrev pub CalmLaw : Type 0
CalmLaw = (program : Program) (set : Setting) (input : List ℕ) (early : Bool) (o : Outcome) → IsAccepted program → IsPlan set.plan → IsPermitted program set input early o → IsCalm (sequential program set.limit (input_of input))
    → (EndsItself o.ending → o ≡ outcome_of program input (sequential program set.limit (input_of input))) × IsPrefix o.output (sequential program set.limit (input_of input)).output

-- where one left no construct early, each other that ended by itself is the same
abbrev pub OnlyLaw : Type 0
OnlyLaw = (program : Program) (set : Setting) (input : List ℕ) (o o' : Outcome) (early : Bool) → IsAccepted program → IsPermitted program set input false o → EndsItself o.ending → IsPermitted program set input early o' → EndsItself o'.ending → o' ≡ o
