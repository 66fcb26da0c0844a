-- Tables with room for every object of a program.
use Rattle.std.specs.Prelude.{◌≡◌, ℕ, List, Err}
use Rattle.ada_base.specs.Notes.{Schedule}
use Rattle.typed_tree.specs.Syntax.{Program}
use Rattle.ada_meaning.specs.Programs.{Setting}
use Rattle.ada_meaning.specs.Stored.{NoRoom, noted, noted_outset}

-- with so many slots in its tables no run of the program by notes lacks one
abbrev pub HasRoom : Program → ℕ → Type 0
HasRoom program slots = (set : Setting) (input before : List ℕ) (notes : Schedule) → ((noted program set).does (noted_outset slots input before notes)).end ≡ Err NoRoom → ⊥

-- there are so many of each program
abbrev pub RoomLaw : Type 0
RoomLaw = (program : Program) → (slots : ℕ) × HasRoom program slots
