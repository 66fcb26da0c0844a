-- Which cells a machine reads and writes.
use Rattle.std.specs.Prelude.{◌≡◌, ℕ, zero, suc, ◌<◌, ◌≤◌, ℤ, pos, negsuc, true, false, List, [], ◌∷◌, ◌++◌, length, Option, Some, None, slice_get}
use Rattle.ada_base.specs.declared.reason.Reason.{Reason}
use Rattle.stack_code.specs.declared.instr.Instr.{Instr}
use Rattle.stack_code.specs.declared.code.Code.{Code}
use Rattle.ada_base.specs.Cells.{Cell, seen, written}
use Rattle.stack_code.specs.Deeds.{Deed, Lacks, GoesOn, Fails, Loads, Stores, Points, Turns, Calls, CallsAt, Combines, Draws, Repeats, Rounds, Ends, Leaves, Forks, Nests, Unnests, Writes, Sends, Gets, Gives, deed_of}
use Rattle.stack_code.specs.Machine.{State, Went, Goes, Stops, step}
use Rattle.cell_memory.specs.Sight.{is_mine, is_gone}
use Rattle.machine_paths.specs.Alike.{at, NotStuck}

pub data Touch : Type 0 where
  Reads : ℤ → Touch
  Sets : ℤ → Touch

-- among the first b cells the view vs lets it
abbrev pub Allowed : ℕ → List Cell → Touch → Type 0
Allowed b vs (Reads (pos n)) = n < b → is_gone (at vs n) ≡ false
Allowed b vs (Reads (negsuc n)) = Unit {0}
Allowed b vs (Sets (pos n)) = n < b → is_mine (at vs n) ≡ true
Allowed b vs (Sets (negsuc n)) = Unit {0}

abbrev pub AllAllowed : ℕ → List Cell → List Touch → Type 0
AllAllowed b vs [] = Unit {0}
AllAllowed b vs (t ∷ ts) = Allowed b vs t × AllAllowed b vs ts

abbrev pub touches_of : Deed → List Cell → List Touch
touches_of (Loads a h) cs = Reads a ∷ elim (seen cs a) [ Some v ↦ touches_of (h v) cs | None ↦ [] ]
touches_of (Stores a v d) cs = Sets a ∷ elim (written cs a v) [ Some ds ↦ touches_of d ds | None ↦ [] ]
touches_of (Points a d) cs = touches_of d cs
touches_of Lacks cs = []
touches_of (GoesOn to st) cs = []
touches_of (Fails r st) cs = []
touches_of Turns cs = []
touches_of (Calls f) cs = []
touches_of (CallsAt f n to fit st) cs = []
touches_of (Combines f acc st) cs = []
touches_of Draws cs = []
touches_of (Repeats n) cs = []
touches_of (Rounds head) cs = []
touches_of (Ends v st) cs = []
touches_of (Leaves l st) cs = []
touches_of (Forks q st) cs = []
touches_of Nests cs = []
touches_of Unnests cs = []
touches_of (Writes text st) cs = []
touches_of (Sends feed) cs = []
touches_of Gets cs = []
touches_of (Gives v st) cs = []

module _ (limit : ℕ) (c : Code) where
  abbrev pub instr_touches : Option Instr → State → List Touch
  instr_touches None s = []
  instr_touches (Some i) s = touches_of (deed_of c s.pc s.stack s.base s.outward i) s.cells

  abbrev pub raise_touches : Option Reason → State → List Touch
  raise_touches None s = instr_touches (slice_get c.instrs s.pc) s
  raise_touches (Some r) s = []

  abbrev pub step_touches : State → List Touch
  step_touches s = raise_touches s.raising s

  abbrev pub run_touches : ℕ → State → List Touch
  run_touches zero s = []
  run_touches (suc n) s = step_touches s ++ elim (step limit c s) [ Goes t ↦ run_touches n t | Stops x t ↦ [] ]

-- the cells from b on are to write
abbrev pub Own : ℕ → List Cell → Type 0
Own b cs = (x : ℕ) → b ≤ x → x < length cs → is_mine (at cs x) ≡ true

abbrev pub GoesWell : Went → Type 0
GoesWell (Goes t) = Unit {0}
GoesWell (Stops x t) = NotStuck x

abbrev pub OwnAfter : ℕ → Went → Type 0
OwnAfter b (Goes t) = Own b t.cells
OwnAfter b (Stops x t) = Own b t.cells
