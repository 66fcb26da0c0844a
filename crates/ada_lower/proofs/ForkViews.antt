-- What a thread has on its view: the cells that are leased to it, those that are to read, and not those of other threads.
use Rattle.std.specs.Prelude.{◌≡◌, ℕ, ℤ, List, [], ◌∷◌, Option, Some, None, Bool, true, false}
use Rattle.behaviours.specs.Paths.{Entity, VariableOf, ConstantOf}
use Rattle.ada_meaning.specs.Stored.{State, Touch, Address, cell_at}
pub use Rattle.ada_lower.specs.Views.{access_by, view_cell, viewed}
use Rattle.ada_lower.specs.Driven.{Dyn}
use Rattle.lower_emission.specs.Scope.{at_free}
use Rattle.ada_lower.specs.Sights.{Sight}
use Rattle.ada_lower.specs.Fits.{What, Other, Free, Keeps, Shows, Stands, Access, Barred, Readable, Full, Ghost}

-- the view has no more than the memory
abbrev pub lesser : Access → Access → Access
lesser Barred y = Barred
lesser Readable Barred = Barred
lesser Readable y = Readable
lesser Full y = y

abbrev pub view_what : Access → What → What
view_what y Other = Other
view_what y Free = Other
view_what Barred (Keeps v) = Other
view_what Readable (Keeps v) = Shows v
view_what Full (Keeps v) = Shows v
view_what Barred (Shows v) = Other
view_what Readable (Shows v) = Shows v
view_what Full (Shows v) = Shows v
view_what y (Stands x p) = Stands (lesser x y) p

-- by who has each cell, the view of a thread
module _ (owner : ℕ → Option ℕ) (j : ℕ) where
  abbrev pub view_of : Dyn → Dyn
  view_of d = record d { cells = viewed (λ a. access_by (owner a) j) 0 d.cells }

  abbrev pub view_ghost : Ghost → Ghost
  view_ghost g = record g { what = λ a. view_what (access_by (owner a) j) (g.what a) }

-- no cell is free
abbrev pub no_free : Sight → Sight
no_free s = record s { scope = at_free s.cells s.scope }

-- the cells that a thread touches are its own, or no other's where they are read
abbrev pub TouchFits : Ghost → (owner : ℕ → Option ℕ) → ℕ → Touch → Type 0
TouchFits g owner j t = (a : ℕ) (x : Access) → g.what a ≡ Stands x t.place → (t.writes ≡ true → owner a ≡ Some j) × (t.writes ≡ false → (l : ℕ) → owner a ≡ Some l → l ≡ j)

abbrev pub TouchesFit : Ghost → (owner : ℕ → Option ℕ) → ℕ → List Touch → Type 0
TouchesFit g owner j [] = Unit {0}
TouchesFit g owner j (t ∷ ts) = TouchFits g owner j t × TouchesFit g owner j ts

-- numbers that are kept, and what isn't of the stored run, are leased to none
pub record Apart (g : Ghost) (owner : ℕ → Option ℕ) : Type 0 where
  pub keeps : (a : ℕ) (v : ℤ) → g.what a ≡ Keeps v → owner a ≡ None
  pub shows : (a : ℕ) (v : ℤ) → g.what a ≡ Shows v → owner a ≡ None

-- ---- who has a cell, by what threads are granted

-- a cell is there
abbrev pub There : State → Address → Type 0
There s p = (v : ℤ) × (cell_at s p ≡ Some v)

-- Lies: where the cells of objects lie; Has: the cells of a variable that a thread is granted, in some iteration of its own;
-- Under: those that lie under its effects, of reads or of writes
module _ (g : Ghost) (owner : ℕ → Option ℕ) (Lies : Entity → ℕ → Address → Type 0) (Has : (thread object offset : ℕ) → Type 0) (Under : (thread : ℕ) → (writes : Bool) → (object offset : ℕ) → Type 0) where
  pub record Owned : Type 0 where
    -- a cell is had by a thread just where it is granted
    pub granted : (a l : ℕ) → owner a ≡ Some l → (x n : ℕ) × (y : Access) × (p : Address) × (g.what a ≡ Stands y p) × Lies (VariableOf x) n p × Has l x n
    pub owned : (a l x n : ℕ) (y : Access) (p : Address) → g.what a ≡ Stands y p → Lies (VariableOf x) n p → Has l x n → owner a ≡ Some l
    -- a place is of one cell of one object
    pub one : (x y : Entity) (m n : ℕ) (p : Address) → Lies x m p → Lies y n p → (x ≡ y) × (m ≡ n)
    -- what is written is granted, and what one thread is granted lies under no effect of another
    pub writes : (j x n : ℕ) → Under j true x n → Has j x n
    pub apart : (l j : ℕ) → (l ≡ j → ⊥) → (b : Bool) (x n : ℕ) → Has l x n → Under j b x n → ⊥

  abbrev pub TouchedAs : ℕ → Bool → Entity → ℕ → Type 0
  TouchedAs j writes (VariableOf x) n = Under j writes x n
  TouchedAs j writes (ConstantOf x) n = writes ≡ false

  abbrev pub Covered : State → ℕ → Touch → Type 0
  Covered s j t = There s t.place → (x : Entity) × (n : ℕ) × Lies x n t.place × TouchedAs j t.writes x n

  abbrev pub AllCovered : State → ℕ → List Touch → Type 0
  AllCovered s j [] = Unit {0}
  AllCovered s j (t ∷ ts) = Covered s j t × AllCovered s j ts
