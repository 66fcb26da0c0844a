-- Leases: which cells of an object a thread has, by the steps of a granted access.
use Rattle.std.specs.Prelude.{◌≡◌, ℕ, zero, suc, ◌+◌, ◌-◌, ◌*◌, ◌<◌, nat_eq, ℤ, pos, ◌+ℤ◌, ◌-ℤ◌, List, [], ◌∷◌, Option, Some, None, Bool, true, false, ◌&&◌, cond}
use Rattle.behaviours.specs.Paths.{Entity, VariableOf}
use Rattle.typed_tree.specs.Syntax.{Program}
use Rattle.ada_meaning.specs.Values.{between, to_nat, count}
use Rattle.ada_meaning.specs.Shapes.{Shape, Shapes, Record, Dimension, NoShape, AlsoShape, size, object_shape}
use Rattle.check_effects.specs.Effects.{Selector, At, Fixed, LoopIndex, ChunkIndex, Any}
use Rattle.check_effects.specs.Conflicts.{EffectPath}
use Rattle.stack_code.specs.declared.code.Lease as code
use Rattle.stack_code.specs.declared.code.Step as code_step
use Rattle.stack_code.specs.declared.code.Step.TheVariants as step
use Rattle.lower_emission.specs.declared.types.Level.{Level}
use Rattle.lower_emission.specs.declared.types.Level.TheVariants.{Own, Around, Main}
use Rattle.lower_emission.specs.declared.types.Named.{Named}

-- A place among so many times a size: each, or that of the loop value or position, or of the chunk value, so far above the
-- lowest. In a path by an item of a loop over an array what comes before the item is left out, since the array's address
-- is known where the construct stands.
pub data Place : Type 0 where
  All : (count size : ℕ) → Place
  Loop : (low : ℤ) (count size : ℕ) → Place
  ByChunk : (low : ℤ) (count size : ℕ) → Place

-- a cell that the places lead to, by the loop value or position and the chunk value
abbrev pub InPlaces : (value chunk : ℤ) → List Place → ℕ → ℕ → Type 0
InPlaces v ch [] n o = o ≡ n
InPlaces v ch (All count size ∷ ps) n o = (i : ℕ) × (i < count) × InPlaces v ch ps (n + i * size) o
InPlaces v ch (Loop low count size ∷ ps) n o = (i : ℕ) × (i < count) × (v ≡ low +ℤ pos i) × InPlaces v ch ps (n + i * size) o
InPlaces v ch (ByChunk low count size ∷ ps) n o = (i : ℕ) × (i < count) × (ch ≡ low +ℤ pos i) × InPlaces v ch ps (n + i * size) o

-- ---- leases of granted paths, for the tables of code

-- the cells before the field of that number, and what it is
abbrev pub field_from : ℕ → Shapes → ℕ → Option (ℕ × Shape)
field_from n NoShape k = None
field_from n (AlsoShape u us) zero = Some (n, u)
field_from n (AlsoShape u us) (suc k) = field_from (n + size u) us k

-- the places of a path through an object of that shape, and the cells of the part that it leads to
pub record Way : Type 0 where
  pub base : ℕ
  pub places : List Place
  pub run : ℕ

abbrev pub also : Place → Option Way → Option Way
also p None = None
also p (Some w) = Some (record { base = w.base; places = p ∷ w.places; run = w.run })

abbrev pub is_last : List Place → Bool
is_last [] = true
is_last (p ∷ ps) = false

-- the way ends at so many cells side by side
abbrev pub is_row : ℕ → Way → Bool
is_row size w = is_last w.places && nat_eq w.run size

-- Any of so many places of that size. Where the way behind has all cells of a place, those of all places lie side by side.
abbrev pub at_any : (count size : ℕ) → Option Way → Option Way
at_any count size None = None
at_any count size (Some w) = cond (is_row size w) (Some (record { base = w.base; places = []; run = count * size })) (also (All count size) (Some w))

-- the item of a construct over an array lies at a position from 1 on, through so many dimensions together
abbrev pub at_item : Option ℕ → Shape → Option Way → Option Way
at_item None t w = w
at_item (Some places) t w = also (Loop (pos 1) places (size t)) w

abbrev pub in_field : Option (ℕ × Shape) → (ℕ → Shape → Option Way) → Option Way
in_field None k = None
in_field (Some (n, u)) k = k n u

abbrev pub times : Option ℕ → ℕ → Option ℕ
times None n = Some n
times (Some m) n = Some (m * n)

-- `loops` says whether the construct goes through a range; `items` are the places of its item's dimensions so far
abbrev pub way_of : (loops : Bool) → (items : Option ℕ) → Shape → List Selector → ℕ → Option Way
way_of loops items t [] n = at_item items t (Some (record { base = n; places = []; run = size t }))
way_of loops items (Dimension low high u) (LoopIndex d ∷ ss) n =
    cond loops (also (Loop (low -ℤ d) (count low high) (size u)) (way_of loops None u ss n)) (way_of loops (times items (count low high)) u ss n)
way_of loops items (Dimension low high u) (Fixed v ∷ ss) n =
    at_item items (Dimension low high u) (cond (between low v high) (way_of loops None u ss (n + to_nat (v -ℤ low) * size u)) None)
way_of loops items (Dimension low high u) (ChunkIndex d ∷ ss) n = at_item items (Dimension low high u) (also (ByChunk (low -ℤ d) (count low high) (size u)) (way_of loops None u ss n))
way_of loops items (Dimension low high u) (Any ∷ ss) n = at_item items (Dimension low high u) (at_any (count low high) (size u) (way_of loops None u ss n))
way_of loops items (Record us) (At k ∷ ss) n = at_item items (Record us) (in_field (field_from n us k) (λ m u. way_of loops None u ss m))
way_of loops items t ss n = None

abbrev pub step_of : Place → code_step.Step
step_of (All count size) = step.All count size
step_of (Loop low count size) = step.Loop low count size
step_of (ByChunk low count size) = step.Chunk low count size

abbrev pub steps_of : List Place → List code_step.Step
steps_of [] = []
steps_of (p ∷ ps) = step_of p ∷ steps_of ps

-- the main frame, or one of those that the forking path sees, from 0
abbrev pub frame_of : Level → Option ℕ
frame_of Own = Some 0
frame_of (Around k) = Some (suc (k - 1))
frame_of Main = None

-- of a path that the threads of an arm may write
abbrev pub leased : ℕ → Option Named → Option Way → List code.Lease → List code.Lease
leased arm (Some m) (Some w) more = record { arm = arm; frame = frame_of m.place.level; base = m.place.cell + w.base; steps = steps_of w.places; run = w.run } ∷ more
leased arm m w more = more

-- `names` says where objects are at a site, `ranges` whether its construct goes through a range, and `granted` which paths
-- the threads of its arms may write
abbrev pub all_leased : Program → (Entity → Option Named) → (loops : Bool) → List (ℕ × EffectPath) → List code.Lease
all_leased program names loops [] = []
all_leased program names loops ((arm, p) ∷ more) = leased arm (names (VariableOf p.object)) (way_of loops None (object_shape program p.object) p.selectors 0) (all_leased program names loops more)

abbrev pub leases_of : Program → (names : ℕ → Entity → Option Named) → (ranges : ℕ → Bool) → (granted : ℕ → List (ℕ × EffectPath)) → ℕ → List code.Lease
leases_of program names ranges granted site = all_leased program (names site) (ranges site) (granted site)
