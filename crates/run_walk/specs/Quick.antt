-- Places of names, as the functions that find them without a change of the state have them.
use Rattle.std.specs.Prelude.{◌≡◌, ℕ, List}
use Rattle.ada_meaning.specs.Meaning as meaning
use Rattle.ada_meaning.specs.Stored.{Stored}
use Rattle.run_outside.specs.Outside.{Outside}
use Rattle.run_store.specs.Shows.{Image, outside_of, facing}
pub use Rattle.run_store.specs.Shows.{Gives, GivesAs}

-- two parts do the same on each input that may be the whole one
abbrev pub SameAs : {A : Type 0} → (List ℕ → Outside → Type 0) → Stored A → Stored A → Image → Type 0
SameAs Tells m n s = (w : List ℕ) → Tells w (outside_of s) → m.does (facing w s.state) ≡ n.does (facing w s.state)

-- the part of an object before which there are so many cells
abbrev pub at_offset : ℕ → ℕ → meaning.ObjectPart
at_offset object offset = record { object = object; offset = offset }
