-- What the threads of a run by notes touch lies under the effects of their texts.
use Rattle.std.specs.Prelude.{◌≡◌, ℕ, List, [], ◌∷◌, Some, ◌⊎◌, true}
use Rattle.typed_tree.specs.Syntax.{Program}
use Rattle.behaviours.specs.Paths.{Entity}
use Rattle.behaviours.specs.Joins.{Share}
use Rattle.ada_meaning.specs.Nonblocking.{KeepsRule}
use Rattle.ada_meaning.specs.Programs.{Setting}
use Rattle.ada_base.specs.Notes.{Schedule, InOrder}
use Rattle.ada_meaning.specs.Stored.{State, Address, Kept, Touch, Thread, Team, key, slot_at, within, place_of, noted, noted_outset}
use Rattle.ada_meaning.specs.Touched.{Before, EachTeam}
use Rattle.check_effects.specs.Effects.{Construct, Holds}
use Rattle.check_effects.specs.Conflicts.{InProgram}
use Rattle.check_effects.specs.Covered.{site_of, AreDistinct, IsTouched, ItemsLie, items_of}

-- the place of a cell of an object that is visible in a state, or everywhere
abbrev pub LiesAt : State → Entity → ℕ → Address → Type 0
LiesAt s x n a = (place_of s x n ≡ Some a) ⊎ (((slot_at s.everywhere (key x)).frame ≡ 1) × (within Kept (slot_at s.everywhere (key x)) n ≡ Some a))

-- a cell that was there when the construct was come to lies under an effect of an iteration of the thread, a write under
-- a write, by what the construct's parameters are in it
abbrev pub IsTouchCovered : Program → Construct → Team → Share → Touch → Type 0
IsTouchCovered program k t j a = Before t.begun a.place → (x : Entity) × (n : ℕ) × LiesAt t.begun x n a.place × IsTouched program k t.site.now j a.writes x n

abbrev pub AllTouchesCovered : Program → Construct → Team → Share → List Touch → Type 0
AllTouchesCovered program k t j [] = Unit {0}
AllTouchesCovered program k t j (a ∷ more) = IsTouchCovered program k t j a × AllTouchesCovered program k t j more

abbrev pub AllThreadsCovered : Program → Construct → Team → List Thread → Type 0
AllThreadsCovered program k t [] = Unit {0}
AllThreadsCovered program k t (b ∷ bs) = AllTouchesCovered program k t b.share b.touches × ItemsLie (items_of k) t.site.now b.share × AllThreadsCovered program k t bs

-- one construct of that site covers all threads of a team, by items of an array that is named, and no two iterations of two
-- threads have a parameter alike
abbrev pub IsTeamCovered : Program → Team → Type 0
IsTeamCovered program t = (k : Construct) × InProgram program (Holds k) × (site_of k ≡ t.site.number) × AreDistinct t.site.now × AllThreadsCovered program k t t.threads

-- So are all teams that a run by notes begins, however it ends.
abbrev pub TouchLaw : Type 0
TouchLaw = (program : Program) (set : Setting) (slots : ℕ) (input before : List ℕ) (notes : Schedule) → KeepsRule program → (set.one ≡ true → notes ≡ InOrder)
    → EachTeam (IsTeamCovered program) ((noted program set).visits (noted_outset slots input before notes))
