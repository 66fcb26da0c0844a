-- How a run of the machine ended, and what that tells of the program's runs.
use Rattle.std.specs.Prelude.{◌≡◌, ℕ, ℤ, pos, min, map, length, List, [], ◌∷◌, ◌++◌, Some, Bool}
use Rattle.ada_base.specs.Notes.{ConstructNote}
use Rattle.typed_tree.specs.Syntax.{Program}
use Rattle.ada_meaning.specs.Deeds.{Deed, Asked, PutOut, takes_in, output_in}
use Rattle.ada_meaning.specs.Law.{Ending, Ended, ReadFault, WriteFault, NoMemory, EndsItself, IsPermitted, IsPlan, IsPrefix, outcome_of}
use Rattle.ada_meaning.specs.Programs.{Setting, input_of, sequential}
use Rattle.ada_meaning.specs.Sequential.{IsCalm}
use Rattle.ada_meaning.specs.Stored as stored
use Rattle.stack_code.specs.declared.code.Code.{Code}
use Rattle.ada_base.specs.Cells.{Cell, Seen, Mine}
use Rattle.ada_lower.specs.Homes.{main_variables}
use Rattle.ada_lower.specs.Driven.{Final, Step, Off}
use Rattle.run_machine_laws.specs.Standing.{done_by}
use Rattle.run_machine_laws.specs.Programs.{IsLoaded}
use Rattle.run_machine_laws.specs.Law.{Leads, ending_by}

module _ (set : Setting) (c : Code) (frame : ℕ) (input before : List ℕ) (told : List ConstructNote) where
  -- it did these deeds, and was to do those
  pub record Stopped (front due : List Deed) (taken : ℕ) : Type 0 where
    pub step : Step
    pub leads : Leads set c frame input before told step
    pub done : done_by step ≡ Some (front ++ due)
    pub took : taken ≡ min (takes_in front) (length input)

  -- The run ended so, having put out these bytes and taken so many. By itself, as the machine stopped; by want of memory, where
  -- it stood; by a fault of the input, where that was asked for a byte; by one of the output, within a piece. Where it ended
  -- normally it left these cells, the main frame's first.
  abbrev pub EndsBy : Ending → (output : List ℕ) → (taken : ℕ) → (cells : List Cell) → Type 0
  EndsBy NoMemory output taken cells = (front : List Deed) × Stopped front [] taken × (output ≡ output_in front)
  EndsBy ReadFault output taken cells = (front more : List Deed) × Stopped front (Asked ∷ more) taken × (output ≡ output_in front)
  EndsBy WriteFault output taken cells = (front more : List Deed) × (passed rest : List ℕ) × Stopped front (PutOut (passed ++ rest) ∷ more) taken × (output ≡ output_in front ++ passed)
  EndsBy ending output taken cells = (e : Final) × Leads set c frame input before told (Off e) × (ending_by e.how ≡ Some ending) × (e.dyn.world.output ≡ before ++ output) × (taken ≡ e.dyn.world.taken)
      × (ending ≡ Ended → (rest : List Cell) × (cells ≡ e.dyn.cells ++ rest))

abbrev pub number : Cell → ℤ
number (Seen v) = v
number (Mine v) = v
number _ = pos 0

abbrev pub numbers : List Cell → List ℤ
numbers cells = map number cells

-- A run is permitted under the setting on the input that ends so, with that output and so many bytes taken. Where the
-- sequential run is calm, and this one ended by itself, it is that one; however it ended, its output is a prefix of that one's.
-- Behind a normal end its finals are what the variables have in the cells.
pub record Tells (program : Program) (set : Setting) (input : List ℕ) (ending : Ending) (output : List ℕ) (taken : ℕ) (cells : List Cell) : Type 0 where
  pub finals : List (List ℤ)
  pub early : Bool
  pub left : ending ≡ Ended → finals ≡ stored.finals_of program (numbers cells) (main_variables program 0 program.body.decls)
  pub permitted : IsPermitted program set input early (record { output = output; taken = taken; finals = finals; ending = ending })
  pub calm : IsCalm (sequential program set.limit (input_of input)) → EndsItself ending → record { output = output; taken = taken; finals = finals; ending = ending } ≡ outcome_of program input (sequential program set.limit (input_of input))
  pub prefix : IsCalm (sequential program set.limit (input_of input)) → IsPrefix output (sequential program set.limit (input_of input)).output

-- So is each run of the machine on code that was loaded, by whatever number of workers.
abbrev pub TellLaw : Type 0
TellLaw = (program : Program) (set : Setting) (c : Code) (frame slots : ℕ) → IsLoaded program c frame slots → IsPlan set.plan → (input before : List ℕ) (told : List ConstructNote) (ending : Ending) (output : List ℕ) (taken : ℕ) (cells : List Cell)
    → EndsBy set c frame input before told ending output taken cells → Tells program set input ending output taken cells
