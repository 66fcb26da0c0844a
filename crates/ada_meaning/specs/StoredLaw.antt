-- What is said of stored runs.
use Rattle.std.specs.Prelude.{◌≡◌, ◌++◌, ℕ, List, [], None, Some, Result, Bool, true, false}
use Rattle.typed_tree.specs.Syntax.{Program}
use Rattle.ada_meaning.specs.Nonblocking.{KeepsRule}
use Rattle.ada_meaning.specs.Sequential.{IsCalm}
use Rattle.ada_meaning.specs.Programs.{Setting, input_of, sequential}
use Rattle.ada_meaning.specs.Deeds.{Deed, StopsBetween}
use Rattle.ada_meaning.specs.Law
use Rattle.ada_meaning.specs.Law.{Outcome, IsPermitted, IsPlan, EndsItself}
use Rattle.ada_base.specs.Notes.{ConstructNote, ByNotes, Schedule, InOrder}
use Rattle.ada_meaning.specs.Stored.{State, Stop, Outage, answered, Computes, stored, outset, noted, noted_outset, put_out, outcome_of, ending_of, comes_to}

-- Let a stored run come to an answer and a state, by itself or by a fault of input, output or memory. Then the output that
-- was there is followed by what it put out, and what it comes to is permitted, with one worker and with more.
abbrev pub StoredLaw : Type 0
StoredLaw = (program : Program) (set : Setting) (slots : ℕ) (input before : List ℕ) (answer : Result (Unit {0}) Stop) (t : State) → KeepsRule program
    → Computes (stored program set) (outset slots input before) answer t
    → (t.output ≡ before ++ put_out before t) × ((early : Bool) × IsPermitted program set input early (outcome_of program before answer t))

-- The same of a run by notes, whatever they say and however many of them are used: what it comes to is permitted, with more
-- workers than one, or with one if the notes are in order. A run that is cut or doesn't fit its notes is one that was
-- stopped.
abbrev pub NotedLaw : Type 0
NotedLaw = (program : Program) (set : Setting) (slots : ℕ) (input before : List ℕ) (notes : Schedule) (answer : Result (Unit {0}) Stop) (t : State) → KeepsRule program
    → (set.one ≡ true → notes ≡ InOrder) → Computes (noted program set) (noted_outset slots input before notes) answer t
    → (t.output ≡ before ++ put_out before t) × ((early : Bool) × IsPermitted program set input early (outcome_of program before answer t))

-- Let a stored run ask for bytes and put out pieces, however it ends. Between any two of these a permitted run may have been
-- stopped: for want of memory, where a byte was to be asked for by a fault of the input, and within a piece by one of the
-- output. So a device that fails and memory that is wanting need no place in what is said of code: where its deeds so far
-- are a beginning of those of a stored run, what it leaves is permitted.
abbrev pub StoppedLaw : Type 0
StoppedLaw = (program : Program) (set : Setting) (slots : ℕ) (input before : List ℕ) → KeepsRule program
    → (front back : List Deed) → (stored program set).deeds (outset slots input before) ≡ front ++ back → StopsBetween program set input front back

abbrev pub NotedStoppedLaw : Type 0
NotedStoppedLaw = (program : Program) (set : Setting) (slots : ℕ) (input before : List ℕ) (notes : Schedule) → KeepsRule program → (set.one ≡ true → notes ≡ InOrder)
    → (front back : List Deed) → (noted program set).deeds (noted_outset slots input before notes) ≡ front ++ back → StopsBetween program set input front back

-- From a state with notes in order and no bound of looks the run by notes is the stored run.
abbrev pub PlainLaw : Type 0
PlainLaw = (program : Program) (set : Setting) (s : State) → KeepsRule program → s.left ≡ None → s.notes ≡ InOrder
    → ((stored program set).does s ≡ (noted program set).does s)
    × ((f : Outage) (t : State) → (stored program set).halts s f t → (noted program set).halts s f t)
    × ((f : Outage) (t : State) → (noted program set).halts s f t → (stored program set).halts s f t)
    × ((stored program set).touches s ≡ (noted program set).touches s)
    × ((stored program set).deeds s ≡ (noted program set).deeds s)

-- Where a run by notes keeps what it does outside, it keeps all of that, in order.
abbrev pub DoneLaw : Type 0
DoneLaw = (program : Program) (set : Setting) (s : State) (ds : List Deed) → KeepsRule program → s.done ≡ Some ds
    → ((noted program set).does s).state.done ≡ Some (ds ++ (noted program set).deeds s)

-- a run by these notes that ended by itself, in which each note was used, and what it came to
abbrev pub IsNoted : Program → Setting → ℕ → List ℕ → List ConstructNote → Outcome → Type 0
IsNoted program set slots input notes o =
    let r = (noted program set).does (noted_outset slots input [] (ByNotes notes)) in
    (r.state.notes ≡ ByNotes []) × (o ≡ outcome_of program [] (answered r.end) r.state) × EndsItself o.ending

-- With more workers than one what such a run comes to is permitted.
abbrev pub JournalLaw : Type 0
JournalLaw = (program : Program) (set : Setting) (slots : ℕ) (input : List ℕ) (notes : List ConstructNote) (o : Outcome) → KeepsRule program → set.one ≡ false
    → IsNoted program set slots input notes o → (early : Bool) × IsPermitted program set input early o

-- What the stored run comes to where nothing fails is permitted.
abbrev pub SomeLaw : Type 0
SomeLaw = (program : Program) (set : Setting) (slots : ℕ) (input : List ℕ) → KeepsRule program
    → (early : Bool) × IsPermitted program set input early (comes_to program set slots input)

-- Let the sequential run of a program be calm. Then a stored run that ends by itself comes to the same.
abbrev pub StoredSequentialLaw : Type 0
StoredSequentialLaw = (program : Program) (set : Setting) (slots : ℕ) (input before : List ℕ) (answer : Result (Unit {0}) Stop) (t : State) → KeepsRule program → IsPlan set.plan
    → IsCalm (sequential program set.limit (input_of input)) → Computes (stored program set) (outset slots input before) answer t → EndsItself (ending_of answer)
    → outcome_of program before answer t ≡ Law.outcome_of program input (sequential program set.limit (input_of input))
