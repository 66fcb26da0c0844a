-- Each variable lies in one place, and formal parameters are apart from what the main procedure declares.
use Rattle.std.specs.Prelude.{◌≡◌, ℕ, Some}
use Rattle.typed_tree.specs.Syntax.{Program, Sub}
use Rattle.typed_tree.specs.declared.program.Formal.{Formal}
use Rattle.typed_objects.specs.Objects.{ObjectsAreDistinct}
use Rattle.ada_meaning.specs.Meaning.{sub_at}
use Rattle.check_effects.specs.Effects.{IsGlobal}
use Rattle.ada_lower.specs.declared.types.Home.{Home}
use Rattle.ada_lower.specs.Homes.{homes_of}
use Rattle.ada_lower.specs.Lending.{Among}

-- a variable is declared once (3.3)
abbrev pub HomesAreDistinct : Program → Type 0
HomesAreDistinct program = (h j : Home) → Among h (homes_of program) → Among j (homes_of program) → h.object ≡ j.object → h ≡ j

-- no formal parameter has the number of an object that the main procedure declares (6.1)
abbrev pub FormalsAreLocal : Program → Type 0
FormalsAreLocal program = (k : ℕ) (unit : Sub) → sub_at program.subs k ≡ Some unit → (f : Formal) → Among f unit.formals → IsGlobal program f.object → ⊥

-- Both are so where no two declarations of a program are of one object, as names give it (3.1).
abbrev pub HomesLaw : Type 0
HomesLaw = (program : Program) → ObjectsAreDistinct program → HomesAreDistinct program

abbrev pub LocalLaw : Type 0
LocalLaw = (program : Program) → ObjectsAreDistinct program → FormalsAreLocal program
