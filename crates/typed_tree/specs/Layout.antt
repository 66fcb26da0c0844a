-- How subtypes and objects lie in cells. A cell holds one scalar (3.2).
use Rattle.std.specs.Prelude.{◌≡◌, ℕ, ◌+◌, ◌*◌, ◌<◌, ◌≤◌, nat_eq, nat_le, ℤ, pos, negsuc, ◌+ℤ◌, ◌-ℤ◌, ◌<ℤ◌, ◌≤ℤ◌, List, [], ◌∷◌, ◌++◌, length, cond, ◌⊎◌}
use Rattle.std.proofs.Math.ListN.{get_or}
use Rattle.typed_tree.specs.declared.program.Bounds.{Bounds}
use Rattle.typed_tree.specs.declared.program.Field as field
use Rattle.typed_tree.specs.declared.program.Object.{Object}
use Rattle.typed_tree.specs.Syntax.{Subtype, OfScalar, Array, Record, Program}

-- a number that isn't negative, else 0
abbrev pub to_nat : ℤ → ℕ
to_nat (pos n) = n
to_nat (negsuc n) = 0

-- how many values an index has (3.6.1)
abbrev pub count : Bounds → ℕ
count b = to_nat (b.high +ℤ pos 1 -ℤ b.low)

-- how many components an array has (3.6)
abbrev pub components : List Bounds → ℕ
components [] = 1
components (b ∷ bs) = count b * components bs

-- cells of a subtype

abbrev pub fields_cells : (ℕ → ℕ) → List field.Field → ℕ
fields_cells cells [] = 0
fields_cells cells (f ∷ fs) = cells f.subtype + fields_cells cells fs

-- how many cells a subtype takes, where `cells` says it of those before it: a scalar one, an array those of its
-- components (3.6), a record those of its components in order (3.8)
abbrev pub subtype_cells : (ℕ → ℕ) → Subtype → ℕ
subtype_cells cells (OfScalar s) = 1
subtype_cells cells (Array dimensions component) = components dimensions * cells component
subtype_cells cells (Record fs) = fields_cells cells fs

abbrev pub sizes_from : List ℕ → List Subtype → List ℕ
sizes_from sizes [] = sizes
sizes_from sizes (t ∷ ts) = sizes_from (sizes ++ subtype_cells (λ k. get_or sizes k 0) t ∷ []) ts

-- how many cells the subtype of a number takes; its components' subtypes have lower numbers
unfoldable pub cells_of : List Subtype → ℕ → ℕ
cells_of subtypes k = get_or (sizes_from [] subtypes) k 0

-- components of an array: the last index varies fastest (3.6.2)

-- indexes, one for each dimension, inside the bounds
abbrev pub AreIndexes : List Bounds → List ℤ → Type 0
AreIndexes [] [] = Unit {0}
AreIndexes [] (i ∷ is) = ⊥
AreIndexes (b ∷ bs) [] = ⊥
AreIndexes (b ∷ bs) (i ∷ is) = (b.low ≤ℤ i) × (i ≤ℤ b.high) × AreIndexes bs is

-- how many components stand before the one of these indexes
abbrev pub place : List Bounds → List ℤ → ℕ
place [] is = 0
place (b ∷ bs) [] = 0
place (b ∷ bs) (i ∷ is) = to_nat (i -ℤ b.low) * components bs + place bs is

-- indexes that come before others: the first that differs is less
abbrev pub Precede : List ℤ → List ℤ → Type 0
Precede [] js = ⊥
Precede (i ∷ is) [] = ⊥
Precede (i ∷ is) (j ∷ js) = (i <ℤ j) ⊎ ((i ≡ j) × Precede is js)

-- objects among the cells of their owner

-- the first cells of a thread body are its own: its frame begins with what the construct hands it
abbrev pub first_cell : ℕ → ℕ → ℕ
first_cell subs owner = cond (nat_le owner subs) 0 4

-- the next free cell of each owner, once an object has its cells
abbrev pub after : Object → (ℕ → ℕ) → ℕ → ℕ
after o free owner = cond (nat_eq owner o.owner) (o.offset + o.cells) (free owner)

-- each object begins at the next free cell of its owner
abbrev pub LieFrom : (ℕ → ℕ) → List Object → Type 0
LieFrom free [] = Unit {0}
LieFrom free (o ∷ os) = (o.offset ≡ free o.owner) × LieFrom (after o free) os

-- each object has the cells of its subtype
abbrev pub HaveCells : List Subtype → List Object → Type 0
HaveCells subtypes [] = Unit {0}
HaveCells subtypes (o ∷ os) = (o.cells ≡ cells_of subtypes o.subtype) × HaveCells subtypes os

-- the objects of a program lie side by side, in the order of the table
pub record IsLaidOut (program : Program) : Type 0 where
  pub lie : LieFrom (first_cell (length program.subs)) program.objects
  pub cells : HaveCells program.subtypes program.objects

-- a cell of an object, counted among those of its owner
abbrev pub HasCell : Object → ℕ → Type 0
HasCell o cell = (o.offset ≤ cell) × (cell < o.offset + o.cells)
