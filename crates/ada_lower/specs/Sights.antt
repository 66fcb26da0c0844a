-- What the law knows where code stands: the scope of what is emitted, and what the frame and the program have.
use Rattle.std.specs.Prelude.{◌≡◌, ℕ, ◌+◌, List, [], ◌∷◌, Option, Some, None, ◌⊎◌, Bool, true, cond}
use Rattle.behaviours.specs.Paths.{Entity, entity_eq}
use Rattle.typed_tree.specs.Syntax.{Chunk, Iteration, Program}
use Rattle.typed_tree.specs.Syntax.{Range, Components}
use Rattle.stack_code.specs.declared.code.Code.{Code}
pub use Rattle.lower_emission.specs.declared.types.Level.{Level}
pub use Rattle.lower_emission.specs.declared.types.Level.TheVariants.{Own, Around, Main}
pub use Rattle.lower_emission.specs.declared.types.Where.{Where}
pub use Rattle.lower_emission.specs.declared.types.Named.{Named}
pub use Rattle.lower_emission.specs.declared.types.Leaving.{Leaving}
pub use Rattle.lower_emission.specs.declared.types.Leaving.TheVariants.{ByReturn, ByValue, ByEnd, ByLeave}
pub use Rattle.lower_emission.specs.declared.types.Mark.{Mark}
pub use Rattle.lower_emission.specs.declared.types.Placed.{Placed}
pub use Rattle.lower_emission.specs.Emits.{Emit, listed}
pub use Rattle.lower_emission.specs.Scope.{Scope, own, mark, none, one, keep, ◌⨟◌, choose, when_, looped, guarded, aside, root_of, constant_root_of, array_root_of, load_at, address_at, store_at, load_of, address_of, outer_level, outer_where, outer_named, moved_where, moved_named}
use Rattle.lower_emission.specs.Scope as scope
use Rattle.ada_lower.specs.Emission as emission
use Rattle.ada_lower.specs.Driven.{At}

abbrev pub Amid : ℕ → List ℕ → Type 0
Amid n [] = ⊥
Amid n (m ∷ ms) = (n ≡ m) ⊎ Amid n ms

pub record Sight : Type 0 where
  pub scope : Scope
  -- what may be visible
  pub seen : Entity → Bool
  -- the main procedure's objects, and those among them that are there
  pub main : Entity → Bool
  pub global : Entity → Option Named
  -- how many cells the frame has, and the frames of sites' threads
  pub cells : ℕ
  pub frames : ℕ → ℕ
  -- the loops around the own thread
  pub outside : List ℕ
  -- the texts of the code
  pub texts : List (List ℕ)

abbrev pub taking : ℕ → Sight → Sight
taking n s = record s { scope = scope.taking n s.scope }

abbrev pub with_object : Entity → Named → Sight → Sight
with_object x n s = record s { scope = scope.with_object x n s.scope; seen = λ y. cond (entity_eq x y) true (s.seen y) }

abbrev pub with_parameter : ℕ → Where → Sight → Sight
with_parameter k w s = record s { scope = scope.with_parameter k w s.scope }

abbrev pub with_item : Bool → ℕ → Named → Sight → Sight
with_item constant k n s = record s { scope = scope.with_item constant k n s.scope }

abbrev pub with_target : Named → Sight → Sight
with_target n s = record s { scope = scope.with_target n s.scope }

abbrev pub with_handled : Where → Sight → Sight
with_handled w s = record s { scope = scope.with_handled w s.scope }

abbrev pub with_exit : ℕ → ℕ → Sight → Sight
with_exit loop to s = record s { scope = scope.with_exit loop to s.scope }

abbrev pub with_entry : ℕ → Sight → Sight
with_entry h s = record s { scope = scope.with_entry h s.scope }

abbrev pub with_outside : List ℕ → Sight → Sight
with_outside ns s = record s { outside = ns }

-- the loops that may be exited
abbrev pub Known : Sight → ℕ → Type 0
Known s n = ((to : ℕ) × (s.scope.exits n ≡ Some to)) ⊎ ((s.scope.exits n ≡ None) × Amid n s.outside)

abbrev pub AllKnown : Sight → List ℕ → Type 0
AllKnown s [] = Unit {0}
AllKnown s (n ∷ ns) = Known s n × AllKnown s ns

-- ---- the sights of parts

abbrev pub object_here : Sight → Entity → ℕ → Sight
object_here s x n = record s { scope = emission.object_here s.scope x n; seen = λ y. cond (entity_eq x y) true (s.seen y) }

abbrev pub passing : Program → ℕ → Sight → Sight
passing program sub s = record s { scope = emission.passing program sub s.scope }

abbrev pub range_sight : Sight → Option ℕ → ℕ → Bool → ℕ → Sight
range_sight s number k reverse exit = record s { scope = emission.range_scope s.scope number k reverse exit }

abbrev pub item_sight : Sight → Option ℕ → Bool → ℕ → ℕ → ℕ → Sight
item_sight s number constant k stride exit = record s { scope = emission.item_scope s.scope number constant k stride exit }

-- that of the value of an iterated association
abbrev pub iterated_sight : Sight → ℕ → Sight
iterated_sight s k = record s { scope = emission.iterated_scope s.scope k }

-- that of the threads of a site, with so many cells in a frame
abbrev pub thread_sight : (site cells : ℕ) → Sight → Sight
thread_sight site cells s = record s { scope = scope.thread_scope site s.scope; cells = cells }

abbrev pub chunk_sight : Chunk → Sight → Sight
chunk_sight chunk s = record s { scope = emission.chunk_scope chunk s.scope }

abbrev pub turn_sight : Sight → Chunk → Iteration → Sight
turn_sight s chunk (Range k reverse low high check filter) = record s { scope = emission.turn_range s.scope chunk k }
turn_sight s chunk (Components k constant at r selections count stride dimensions filter) = record s { scope = emission.turn_component s.scope chunk constant k stride }

-- within a construct that is begun
abbrev pub nested_sight : Sight → Sight
nested_sight s = record s { scope = scope.nested s.scope }

-- ---- code that lies in a program's code

abbrev pub Lies : Code → ℕ → List Placed → ℕ → Type 0
Lies c from [] to = to ≡ from
Lies c from (p ∷ ps) to = At c from p.instr p.entry × Lies c (from + 1) ps to

abbrev pub Stands : Code → Emit → ℕ → ℕ → Type 0
Stands c a from to = Lies c from (listed a from) to
