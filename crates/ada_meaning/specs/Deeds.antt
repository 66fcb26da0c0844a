-- What a run asks of the input and puts out, in order; and beginnings of runs.
use Rattle.std.specs.Prelude.{◌≡◌, ℕ, suc, min, ℤ, length, List, [], ◌∷◌, ◌++◌, Bool}
use Rattle.typed_tree.specs.Syntax.{Program}
use Rattle.behaviours.specs.Paths.{Instance, End, Stopped, Path, start, nothing_visible}
use Rattle.behaviours.specs.Events.{Event, Reads, Writes, Recalls, Keeps, Takes, Puts, Looks, Trace}
use Rattle.ada_meaning.specs.Nonblocking.{KeepsRule}
use Rattle.ada_meaning.specs.Programs.{Setting}
use Rattle.ada_meaning.specs.Law.{Ending, NoMemory, ReadFault, WriteFault, IsPermitted, behaviour}

-- the next byte of the input is asked for, or a piece is put out
pub data Deed : Type 0 where
  Asked : Deed
  PutOut : (piece : List ℕ) → Deed

abbrev pub takes_in : List Deed → ℕ
takes_in [] = 0
takes_in (Asked ∷ ds) = suc (takes_in ds)
takes_in (PutOut piece ∷ ds) = takes_in ds

abbrev pub output_in : List Deed → List ℕ
output_in [] = []
output_in (Asked ∷ ds) = output_in ds
output_in (PutOut piece ∷ ds) = piece ++ output_in ds

module _ {P : Type 0} where
  abbrev pub deed_of : Event P → List Deed
  deed_of (Reads x i v) = []
  deed_of (Writes x i v) = []
  deed_of (Recalls h) = []
  deed_of (Keeps h) = []
  deed_of (Takes n b) = Asked ∷ []
  deed_of (Puts piece) = PutOut piece ∷ []
  deed_of Looks = []

  abbrev pub deeds_of : Trace P → List Deed
  deeds_of [] = []
  deeds_of (e ∷ tr) = deed_of e ++ deeds_of tr

-- Wherever the trace of a run is parted, there is a run that was stopped there; it has asked for as many bytes as its trace
-- says.
abbrev pub PrefixLaw : Type 0
PrefixLaw = (program : Program) (set : Setting) → KeepsRule program
    → (front back : Trace Instance) (early : Bool) (path : Path Instance) (end : End (Unit {0})) → (behaviour program set).runs nothing_visible start (front ++ back) early path end
    → (sooner : Bool) × (there : Path Instance) × (behaviour program set).runs nothing_visible start front sooner there Stopped × (there.taken ≡ takes_in (deeds_of front))

-- a permitted run with this output, so many bytes taken of those asked for, and this ending
abbrev pub Permits : Program → Setting → (input : List ℕ) → (output : List ℕ) → (asked : ℕ) → Ending → Type 0
Permits program set input output asked ending =
    (early : Bool) × (finals : List (List ℤ)) × IsPermitted program set input early (record { output = output; taken = min asked (length input); finals = finals; ending = ending })

-- where a run that is permitted did these things and then those, another one is permitted that was stopped between them:
-- for want of memory, by a fault of the input where that was to be asked, by one of the output within the next piece
abbrev pub StopsBetween : Program → Setting → (input : List ℕ) → List Deed → List Deed → Type 0
StopsBetween program set input front [] = Permits program set input (output_in front) (takes_in front) NoMemory
StopsBetween program set input front (Asked ∷ back) = Permits program set input (output_in front) (takes_in front) NoMemory × Permits program set input (output_in front) (takes_in front) ReadFault
StopsBetween program set input front (PutOut piece ∷ back) =
    Permits program set input (output_in front) (takes_in front) NoMemory
    × ((passed rest : List ℕ) → piece ≡ passed ++ rest → Permits program set input (output_in front ++ passed) (takes_in front) WriteFault)
