-- The loop that runs the machine on a program's code: what each of its steps leads to.
use Rattle.std.specs.Prelude.{◌≡◌, ℕ, ◌+◌, List, [], ◌∷◌, ◌++◌, Some, None, Result, Ok, Err}
use Rattle.ada_base.specs.Cells.{Cell}
use Rattle.ada_base.specs.Cuts.{cuts_of}
use Rattle.ada_base.specs.Notes.{ConstructNote}
use Rattle.ada_io.specs.declared.input.GetEnd.{GetEnd}
use Rattle.ada_io.specs.declared.input.GetEnd.TheVariants.{Number, Raise, ReadFault, Spent as TurnsOver}
use Rattle.ada_io.specs.declared.input.Got.{Got}
use Rattle.ada_io.specs.Gets.{Gets, ReaderState, last_of}
use Rattle.ada_port.specs.Ports.{Stream}
use Rattle.ada_meaning.specs.Deeds.{Deed, PutOut, output_in}
use Rattle.ada_meaning.specs.Law as law
use Rattle.ada_meaning.specs.Law.{Ending}
use Rattle.ada_meaning.specs.Programs.{Setting}
use Rattle.stack_code.specs.declared.code.Code.{Code}
use Rattle.stack_code.specs.declared.path.Asked.{Asked}
use Rattle.stack_code.specs.declared.path.Gave.{Gave}
use Rattle.stack_code.specs.declared.path.Gave.TheVariants as gave
use Rattle.stack_code.specs.declared.path.Io.TheVariants as io
use Rattle.stack_code.specs.declared.path.Leave.TheVariants as leave
use Rattle.stack_code.specs.Machine.{State, Stop, Spent, Asks, Constructs, Comes, Comes_to, resumed}
use Rattle.ada_lower.specs.Driven.{World, Forked}
use Rattle.machine_paths.specs.Constructing.{ForksTo, with_schedule}
use Rattle.run_machine_laws.specs.Standing.{Stands, schedule, first_path}
use Rattle.run_machine_laws.specs.Reading.{IsRest, askings}
use Rattle.run_machine_laws.specs.Law.{ending_by}
use Rattle.run_machine_laws.specs.Telling.{EndsBy}

module _ (set : Setting) (c : Code) (frame : ℕ) (input before : List ℕ) where
  -- the run stands there, by the notes told, and did these deeds
  abbrev pub At : List ConstructNote → List Deed → State → World → Type 0
  At told front s w = Stands set.limit c (cuts_of set.plan) frame input before set.one told front (record { state = s; world = w })

  abbrev pub Over : List ConstructNote → Ending → List ℕ → ℕ → List Cell → Type 0
  Over told ending output taken cells = EndsBy set c frame input before told ending output taken cells

  -- from zeroed memory
  abbrev pub Begins : Type 0
  Begins = Stands set.limit c (cuts_of set.plan) frame input before set.one [] [] (first_path (schedule set.one []) (cuts_of set.plan) frame input before)

  -- the machine moves; stops by itself; and where it stands memory may be wanting
  abbrev pub Moves : Type 0
  Moves = (told : List ConstructNote) (front : List Deed) (s q : State) (w : World) → At told front s w → Comes set.limit c s q → At told front q w

  abbrev pub Ends : Type 0
  Ends = (told : List ConstructNote) (front : List Deed) (s q : State) (w : World) (x : Stop) (ending : Ending) → At told front s w → Comes_to set.limit c s x q → ending_by x ≡ Some ending → Over told ending (output_in front) w.taken q.cells

  abbrev pub Wants : Type 0
  Wants = (told : List ConstructNote) (front : List Deed) (s : State) (w : World) (cells : List Cell) → At told front s w → Over told law.NoMemory (output_in front) w.taken cells

  -- a piece is put out, or a part of it
  abbrev pub PutsOut : Type 0
  PutsOut = (told : List ConstructNote) (front : List Deed) (s q : State) (w : World) (piece : List ℕ) → At told front s w → Comes_to set.limit c s (Asks (io.Write piece)) q
      → At told (front ++ (PutOut piece ∷ [])) (resumed c gave.Nothing q) (record w { output = w.output ++ piece; done = Some (front ++ (PutOut piece ∷ [])) })
      × ((passed rest : List ℕ) (cells : List Cell) → piece ≡ passed ++ rest → Over told law.WriteFault (output_in front ++ passed) w.taken cells)

  -- a number is read, or an exception raised, or turns are over, or the source failed
  abbrev pub ReadsSo : List ConstructNote → List Deed → State → World → Got → ReaderState → List ℕ → GetEnd → Type 0
  ReadsSo told front q w got after later (Number v) =
      At told (front ++ askings got.took) (resumed c (gave.Numbers (v ∷ [])) (record q { turns = q.turns + got.took })) (record w { taken = w.taken + got.came; held = after.held; input = later; done = Some (front ++ askings got.took) })
  ReadsSo told front q w got after later (Raise r) =
      At told (front ++ askings got.took) (resumed c (gave.Left (leave.Raise r)) (record q { turns = q.turns + got.took })) (record w { taken = w.taken + got.came; held = after.held; input = later; done = Some (front ++ askings got.took) })
  ReadsSo told front q w got after later TurnsOver = (cells : List Cell) → Over told law.TurnsSpent (output_in front) (w.taken + got.came) cells
  ReadsSo told front q w got after later ReadFault = (cells : List Cell) → Over told law.ReadFault (output_in front) (w.taken + got.came) cells

  abbrev pub Reads : Type 0
  Reads = (told : List ConstructNote) (front : List Deed) (s q : State) (w : World) → At told front s w → Comes_to set.limit c s (Asks io.Take) q
      → (old new : Stream) (held after : ReaderState) (turns : ℕ) (got : Got) (g : Gets old new held after turns got) (later : List ℕ) → w.held ≡ held.held → q.turns + turns ≡ set.limit
      → w.input ≡ g.bytes ++ later → IsRest (last_of got.end g.ended) later → ReadsSo told front q w got after later got.end

  -- the threads of a construct came to that, which the note tells: the path goes on with the answer, or turns are over
  abbrev pub came : World → List Cell → ℕ → Result Gave Stop → List ConstructNote → Forked
  came w cells turns how ns = record { dyn = record { cells = cells; turns = turns; left = None; world = record w { notes = schedule set.one ns } }; how = how }

  abbrev pub Constructed : Type 0
  Constructed = (told : List ConstructNote) (front : List Deed) (s q : State) (w : World) (asked : Asked) → At told front s w → Comes_to set.limit c s (Constructs asked) q
      → (note : ConstructNote) (cells : List Cell) (turns : ℕ) (how : Result Gave Stop)
      → ((ns : List ConstructNote) → ForksTo set.limit c asked (with_schedule (schedule set.one (note ∷ ns)) (record { state = q; world = w })) (came w cells turns how ns))
      → ((g : Gave) → how ≡ Ok g → At (told ++ (note ∷ [])) front (resumed c g (record q { turns = turns; left = None; cells = cells })) w)
      × (how ≡ Err Spent → (left : List Cell) → Over (told ++ (note ∷ [])) law.TurnsSpent (output_in front) w.taken left)

-- the steps of the loop lead on so
abbrev pub LoopLaw : Type 0
LoopLaw = (set : Setting) (c : Code) (frame : ℕ) (input before : List ℕ) → Begins set c frame input before × Moves set c frame input before × Ends set c frame input before × Wants set c frame input before
    × PutsOut set c frame input before × Reads set c frame input before × Constructed set c frame input before
