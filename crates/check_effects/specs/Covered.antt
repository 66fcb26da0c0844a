-- What the threads of parallel constructs touch lies under the effects of their texts.
use Rattle.std.specs.Prelude.{◌≡◌, ℕ, ◌+◌, ◌*◌, ◌<◌, ◌≤◌, List, [], ◌∷◌, ◌++◌, ◌⊎◌, Option, Some, None, Bool, true, false}
use Rattle.typed_tree.specs.Syntax.{Iteration, Range, Components, Program}
use Rattle.behaviours.specs.Paths.{Entity, VariableOf, ConstantOf, ThreadName, Instance, Scope, find, within_extent, start, nothing_visible}
use Rattle.behaviours.specs.Events.{Event, Reads, Writes, Trace}
use Rattle.behaviours.specs.Joins.{Now, Share}
use Rattle.behaviours.specs.Behaviours.{Asks}
use Rattle.ada_meaning.specs.Runs.{anything}
use Rattle.ada_meaning.specs.Programs.{Setting, runs_of}
use Rattle.check_effects.specs.Effects.{Roles, Named, Access, Construct, LoopOf, BlockOf, ReductionOf, Holds, name}
use Rattle.check_effects.specs.Conflicts.{Leads, LiesUnder, Distinct, IsThreadEffect, InProgram, IsClean}

abbrev pub site_of : Construct → ℕ
site_of (LoopOf site r chunk iteration stmts) = site
site_of (BlockOf site r most arms) = site
site_of (ReductionOf site r by chunk iteration value) = site

-- which text of a construct is that of an iteration of a thread: in a block the arm of the iteration's number
abbrev pub arm_of : Construct → (thread iteration : ℕ) → ℕ
arm_of (LoopOf site r chunk iteration stmts) j i = j
arm_of (BlockOf site r most arms) j i = i
arm_of (ReductionOf site r by chunk iteration value) j i = j

-- it was made in that thread of that construct of a thread, or in a thread of such a thread
abbrev pub IsOwn : ThreadName → (construct thread : ℕ) → Instance → Type 0
IsOwn who c j l = (inner : List ℕ) × (l.thread ≡ inner ++ (j ∷ c ∷ who))

abbrev pub AreDistinct : (ℕ → ℕ → Now) → Type 0
AreDistinct now = (j l i m : ℕ) → (j ≡ l → ⊥) → (i ≡ m → ⊥) → Distinct (now j i) (now l m)

-- an array that is named, gone through by so many items of so many cells (5.5.2)
pub record Items : Type 0 where
  pub array : Named
  pub count : ℕ
  pub stride : ℕ
  pub dimensions : ℕ

-- the array of variables that is gone through
abbrev pub items_in : Iteration → Roles → Option Items
items_in (Range k reverse low high check filter) r = None
items_in (Components k true at from selections count stride dimensions filter) r = None
items_in (Components k false at from selections count stride dimensions filter) r = Some (record { array = name r from selections; count = count; stride = stride; dimensions = dimensions })

-- an array of variables or constants is
abbrev pub goes_through_array : Iteration → Bool
goes_through_array (Range k reverse low high check filter) = false
goes_through_array (Components k constant at from selections count stride dimensions filter) = true

abbrev pub items_of : Construct → Option Items
items_of (LoopOf site r chunk iteration stmts) = items_in iteration r
items_of (BlockOf site r most arms) = None
items_of (ReductionOf site r by chunk iteration value) = items_in iteration r

abbrev pub has_items : Construct → Bool
has_items (LoopOf site r chunk iteration stmts) = goes_through_array iteration
has_items (BlockOf site r most arms) = false
has_items (ReductionOf site r by chunk iteration value) = goes_through_array iteration

-- in each iteration of a thread the item is the component of that number, from where the array begins
abbrev pub ItemsLie : Option Items → (ℕ → ℕ → Now) → Share → Type 0
ItemsLie None now j = Unit {0}
ItemsLie (Some t) now j = (o : ℕ) × ((i : ℕ) → j.first ≤ i → i < j.first + j.size → (i < t.count) × Leads (now j.number i) 0 t.array.steps o × ((now j.number i).first ≡ o + i * t.stride))

-- the instance is the object's where that is visible, or everywhere, and has a cell at the offset
abbrev pub IsFound : Scope Instance → Entity → ℕ → Instance → Type 0
IsFound s x n l = (find s x n ≡ Some l) ⊎ (within_extent n (s.everywhere x) ≡ Some l)

module _ (program : Program) (k : Construct) (now : ℕ → ℕ → Now) where
  -- a cell of a variable lies under an effect of an iteration of the thread, a write under a write
  abbrev pub Under : Share → Bool → ℕ → ℕ → Type 0
  Under j writes x n =
      (i : ℕ) × (j.first ≤ i) × (i < j.first + j.size)
      × ((at : ℕ) × (a : Access) × IsThreadEffect program k (arm_of k j.number i) at a × (a.writes ≡ writes) × (a.object ≡ x) × LiesUnder (now j.number i) a n)

  -- constants are only read
  abbrev pub IsTouched : Share → Bool → Entity → ℕ → Type 0
  IsTouched j writes (VariableOf x) n = Under j writes x n
  IsTouched j writes (ConstantOf x) n = writes ≡ false

  -- an instance that is visible where the construct stands, or everywhere, is touched as that object
  abbrev pub IsSeen : Scope Instance → Share → Bool → Instance → ℕ → Type 0
  IsSeen s j writes l n = (x : Entity) × (IsFound s x n l) × IsTouched j writes x n

  abbrev pub IsCovered : ThreadName → (construct : ℕ) → Scope Instance → Share → Event Instance → Type 0
  IsCovered who c s j (Reads l n v) = IsOwn who c j.number l ⊎ IsSeen s j false l n
  IsCovered who c s j (Writes l n v) = IsOwn who c j.number l ⊎ IsSeen s j true l n
  IsCovered who c s j a = Unit {0}

  abbrev pub AllCovered : ThreadName → (construct : ℕ) → Scope Instance → Share → Trace Instance → Type 0
  AllCovered who c s j [] = Unit {0}
  AllCovered who c s j (a ∷ tr) = IsCovered who c s j a × AllCovered who c s j tr

  abbrev pub EachCovered : ThreadName → (construct : ℕ) → Scope Instance → List Share → (Share → Trace Instance → Type 0) → Type 0
  EachCovered who c s [] may = Unit {0}
  EachCovered who c s (j ∷ js) may = ((tr : Trace Instance) → may j tr → AllCovered who c s j tr) × ItemsLie (items_of k) now j × EachCovered who c s js may

-- it is asked that what each thread touches, beside what was made in it, lies under the effects of its text in a
-- construct of that site, in iterations of its own, by what the construct's parameters are in them; that its items are those
-- of an array that is named; and that no two iterations of two threads have a parameter alike
abbrev pub asks_covered : Program → Asks Instance
asks_covered program ordered who site c s js may =
    (k : Construct) × InProgram program (Holds k) × (site_of k ≡ site.number) × AreDistinct site.now × EachCovered program k site.now who c s js may

-- In each run of a program what the threads of each construct touch is covered, consistent or not, by what the parameters
-- of the construct are.
abbrev pub CoveredLaw : Type 0
CoveredLaw = (program : Program) (set : Setting) → (runs_of anything (asks_covered program) program set).safe nothing_visible start

-- iterations of two shares are never the same
abbrev pub AreApart : Share → Share → Type 0
AreApart c d = (i : ℕ) → c.first ≤ i → i < c.first + c.size → d.first ≤ i → i < d.first + d.size → ⊥

-- No cell that one thread of a clean construct may write lies under what another one touches, in whatever iterations of
-- theirs. A cell under an index with a distance is one inside the array's bounds.
abbrev pub ShareLaw : Type 0
ShareLaw = (program : Program) (k : Construct) → IsClean program k → (now : ℕ → ℕ → Now) → AreDistinct now → (c d : Share) → (c.number ≡ d.number → ⊥) → AreApart c d
    → (writes : Bool) (x n : ℕ) → Under program k now c true x n → Under program k now d writes x n → ⊥
