-- When the leases of a site are those of what its threads may write.
use Rattle.std.specs.Prelude.{◌≡◌, ℕ, ◌+◌, ◌*◌, ◌<◌, ◌≤◌, ◌⊎◌, ℤ, pos, ◌+ℤ◌, ◌-ℤ◌, List, [], ◌∷◌, Option, Some, None, Bool, true, false}
use Rattle.behaviours.specs.Paths.{Entity, VariableOf}
use Rattle.typed_tree.specs.Syntax.{Program}
use Rattle.ada_meaning.specs.Values.{between, to_nat, count}
use Rattle.ada_meaning.specs.Shapes.{Shape, Single, Record, Dimension, size, object_shape, FieldAt}
use Rattle.check_effects.specs.Effects.{Selector, At, Fixed, LoopIndex, ChunkIndex, Any, Access, Construct, Holds}
use Rattle.check_effects.specs.Conflicts.{EffectPath, path_of, InProgram, IsThreadEffect}
use Rattle.check_effects.specs.Covered.{arm_of, site_of, has_items}
use Rattle.stack_code.specs.declared.code.CodeSite.{CodeSite}
use Rattle.stack_code.specs.declared.code.Lease as code
use Rattle.lower_emission.specs.declared.types.Named.{Named}
use Rattle.ada_lower.specs.Leases.{frame_of}
use Rattle.ada_lower.specs.Sights.{Sight}
use Rattle.ada_lower.specs.Lending.{Among, IsOfArm, StepsTo}

-- ---- the cells of a path, by the loop value or the item's position, and by the chunk value

abbrev pub IndexIs : (value chunk : ℤ) → Selector → ℤ → Type 0
IndexIs v ch (At k) w = ⊥
IndexIs v ch (Fixed i) w = w ≡ i
IndexIs v ch (LoopIndex distance) w = w ≡ v +ℤ distance
IndexIs v ch (ChunkIndex distance) w = w ≡ ch +ℤ distance
IndexIs v ch Any w = Unit {0}

-- the component at a position, in the order of the array's dimensions, which counts from 1 (5.5.2)
abbrev pub IsPosition : Option ℕ → ℤ → Type 0
IsPosition None v = Unit {0}
IsPosition (Some i) v = v ≡ pos 1 +ℤ pos i

abbrev pub inner : Option ℕ → ℕ → ℕ → ℕ
inner None places i = i
inner (Some k) places i = k * places + i

-- A cell of an object of that shape lies under the path. `items` says whether the construct goes through an array: then its
-- loop has no value, and indexes by its parameter are together the item's position, which is so far along.
abbrev pub LiesBy : (items : Bool) (value chunk : ℤ) → (along : Option ℕ) → Shape → List Selector → ℕ → Type 0
LiesBy items v ch along t [] n = IsPosition along v × (n < size t)
LiesBy items v ch along Single (s ∷ ss) n = ⊥
LiesBy items v ch along (Record us) (At k ∷ ss) n = IsPosition along v × ((offset : ℕ) × (m : ℕ) × (u : Shape) × FieldAt us k offset u × (n ≡ offset + m) × LiesBy items v ch None u ss m)
LiesBy items v ch along (Record us) (Fixed i ∷ ss) n = ⊥
LiesBy items v ch along (Record us) (LoopIndex d ∷ ss) n = ⊥
LiesBy items v ch along (Record us) (ChunkIndex d ∷ ss) n = ⊥
LiesBy items v ch along (Record us) (Any ∷ ss) n = ⊥
LiesBy true v ch along (Dimension low high u) (LoopIndex d ∷ ss) n =
    (w : ℤ) × (m : ℕ) × (between low w high ≡ true) × (n ≡ to_nat (w -ℤ low) * size u + m) × LiesBy true v ch (Some (inner along (count low high) (to_nat (w -ℤ low)))) u ss m
LiesBy false v ch along (Dimension low high u) (LoopIndex d ∷ ss) n =
    IsPosition along v × ((w : ℤ) × (m : ℕ) × (between low w high ≡ true) × IndexIs v ch (LoopIndex d) w × (n ≡ to_nat (w -ℤ low) * size u + m) × LiesBy false v ch None u ss m)
LiesBy items v ch along (Dimension low high u) (At k ∷ ss) n = ⊥
LiesBy items v ch along (Dimension low high u) (Fixed i ∷ ss) n =
    IsPosition along v × ((w : ℤ) × (m : ℕ) × (between low w high ≡ true) × IndexIs v ch (Fixed i) w × (n ≡ to_nat (w -ℤ low) * size u + m) × LiesBy items v ch None u ss m)
LiesBy items v ch along (Dimension low high u) (ChunkIndex d ∷ ss) n =
    IsPosition along v × ((w : ℤ) × (m : ℕ) × (between low w high ≡ true) × IndexIs v ch (ChunkIndex d) w × (n ≡ to_nat (w -ℤ low) * size u + m) × LiesBy items v ch None u ss m)
LiesBy items v ch along (Dimension low high u) (Any ∷ ss) n =
    IsPosition along v × ((w : ℤ) × (m : ℕ) × (between low w high ≡ true) × IndexIs v ch Any w × (n ≡ to_nat (w -ℤ low) * size u + m) × LiesBy items v ch None u ss m)

-- a cell of a frame is one of a lease
abbrev pub InLease : (value chunk : ℤ) → code.Lease → ℕ → Type 0
InLease v ch l c = (o : ℕ) × (m : ℕ) × StepsTo v ch l.steps l.base o × (m < l.run) × (c ≡ o + m)

module _ (program : Program) where
  abbrev pub LiesUnderPath : (items : Bool) (value chunk : ℤ) → EffectPath → ℕ → Type 0
  LiesUnderPath items v ch p n = LiesBy items v ch None (object_shape program p.object) p.selectors n

  -- where objects are where the construct stands, which of them are the main procedure's, and where those are; and which may
  -- be visible
  module _ (object global : Entity → Option Named) (main seen : Entity → Bool) (items : Bool) where
    -- a lease has the cells of a path, each within the object
    pub record IsLease (p : EffectPath) (l : code.Lease) : Type 0 where
      pub named : Named
      pub here : object (VariableOf p.object) ≡ Some named
      pub direct : named.through ≡ false
      pub everywhere : main (VariableOf p.object) ≡ true → global (VariableOf p.object) ≡ Some named
      pub frame : l.frame ≡ frame_of named.place.level
      pub enough : size (object_shape program p.object) ≤ named.cells
      pub under : (v ch : ℤ) (c : ℕ) → InLease v ch l c → (n : ℕ) × (c ≡ named.place.cell + n) × LiesUnderPath items v ch p n
      pub all : (v ch : ℤ) (n : ℕ) → LiesUnderPath items v ch p n → InLease v ch l (named.place.cell + n)

    -- it may be there
    abbrev pub MayBe : ℕ → Type 0
    MayBe x = (seen (VariableOf x) ≡ true) ⊎ (main (VariableOf x) ≡ true)

    -- the leases of a site are of the paths that the threads of its construct may write, each within an object; of a path
    -- that has no cell, or is of an object that isn't there, none is needed
    pub record AreLeased (site : ℕ) (cs : CodeSite) : Type 0 where
      pub goes : (k : Construct) → InProgram program (Holds k) → site_of k ≡ site → has_items k ≡ items
      pub granted : (k : Construct) → InProgram program (Holds k) → site_of k ≡ site → (j i at : ℕ) (a : Access) → IsThreadEffect program k (arm_of k j i) at a → a.writes ≡ true → MayBe a.object
          → (v ch : ℤ) (n : ℕ) → LiesUnderPath items v ch (path_of a) n → (l : code.Lease) × Among l cs.leases × IsOfArm cs.kind i l.arm × IsLease (path_of a) l
      pub leased : (k : Construct) → InProgram program (Holds k) → site_of k ≡ site → (l : code.Lease) → Among l cs.leases → (j i : ℕ) → IsOfArm cs.kind i l.arm
          → (at : ℕ) × (a : Access) × IsThreadEffect program k (arm_of k j i) at a × (a.writes ≡ true) × IsLease (path_of a) l
      pub inside : (l : code.Lease) → Among l cs.leases → (p : EffectPath) × IsLease p l

-- what leases are
abbrev pub leased : Program → (items : Bool) → Sight → ℕ → CodeSite → Type 0
leased program items s site cs = AreLeased program s.scope.object s.global s.main s.seen items site cs
