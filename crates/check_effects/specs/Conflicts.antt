-- Which cells lie under a path, when two paths are separated, and what is asked of each parallel construct of a program
-- (9.10.1, and 9.5 on blocking calls).
use Rattle.std.specs.Prelude.{◌≡◌, ℕ, ◌+◌, ◌*◌, ◌<◌, ◌≤◌, ℤ, pos, ◌+ℤ◌, ◌-ℤ◌, List, [], ◌∷◌, ◌++◌, replicate, Option, Some, None, ◌⊎◌, Bool, true, false}
use Rattle.behaviours.specs.Joins.{Now}
use Rattle.ada_meaning.specs.Values.{between, to_nat}
use Rattle.ada_meaning.specs.Shapes.{Shape, Record, Dimension, size, object_shape, FieldAt, ComponentAt}
use Rattle.ada_meaning.specs.Nonblocking.{KeepsRule}
use Rattle.typed_tree.specs.Syntax.{Program}
use Rattle.ada_meaning.specs.Law.{IsRaceFree}
use Rattle.check_effects.specs.Effects.{Selector, At, Fixed, LoopIndex, ChunkIndex, Any, Step, FieldStep, IndexStep, ItemStep, Access, Construct, LoopOf, BlockOf, ReductionOf, Item, Calls, Blocks, Holds, InThread, InFront, InBody, InSub, Reached, IsEffect}

-- paths

abbrev pub LoopFits : Option ℤ → ℤ → ℤ → Type 0
LoopFits None distance v = ⊥
LoopFits (Some i) distance v = v ≡ i +ℤ distance

abbrev pub Fits : Now → Selector → ℤ → Type 0
Fits now (At k) v = ⊥
Fits now (Fixed i) v = v ≡ i
Fits now (LoopIndex distance) v = LoopFits now.loop distance v
Fits now (ChunkIndex distance) v = v ≡ now.chunk +ℤ distance
Fits now Any v = Unit {0}

-- the component is that of the thread
abbrev pub IsItem : Now → Bool → ℕ → ℕ → Type 0
IsItem now false first stride = Unit {0}
IsItem now true first stride = (now.loop ≡ None) × (first ≡ now.first) × (stride ≡ now.size)

-- the steps lead from one cell to another
abbrev pub Leads : Now → ℕ → List Step → ℕ → Type 0
Leads now n [] o = o ≡ n
Leads now n (FieldStep number offset ∷ rest) o = Leads now (n + offset) rest o
Leads now n (IndexStep s low high stride ∷ rest) o = (v : ℤ) × (between low v high ≡ true) × Fits now s v × Leads now (n + to_nat (v -ℤ low) * stride) rest o
Leads now n (ItemStep judged count stride dimensions ∷ rest) o = (i : ℕ) × (i < count) × IsItem now judged (n + i * stride) stride × Leads now (n + i * stride) rest o

-- a cell of an object lies under what is accessed
abbrev pub LiesUnder : Now → Access → ℕ → Type 0
LiesUnder now a n = (o : ℕ) × (m : ℕ) × Leads now 0 a.steps o × (m < a.cells) × (n ≡ o + m)

abbrev pub item_selector : Bool → Selector
item_selector true = LoopIndex (pos 0)
item_selector false = Any

-- the path of some steps: each dimension of an array is a position
abbrev pub path : List Step → List Selector
path [] = []
path (FieldStep number offset ∷ rest) = At number ∷ path rest
path (IndexStep s low high stride ∷ rest) = s ∷ path rest
path (ItemStep judged count stride dimensions ∷ rest) = replicate dimensions (item_selector judged) ++ path rest

-- one position separates
abbrev pub Differ : Selector → Selector → Type 0
Differ (At j) (At k) = j ≡ k → ⊥
Differ (Fixed i) (Fixed j) = i ≡ j → ⊥
Differ (LoopIndex c) (LoopIndex d) = c ≡ d
Differ (ChunkIndex c) (ChunkIndex d) = c ≡ d
Differ s t = ⊥

abbrev pub SomeDiffer : List Selector → List Selector → Type 0
SomeDiffer (s ∷ ss) (t ∷ ts) = Differ s t ⊎ SomeDiffer ss ts
SomeDiffer ss ts = ⊥

-- what two accesses are compared by
pub record EffectPath : Type 0 where
  pub object : ℕ
  pub selectors : List Selector

abbrev pub path_of : Access → EffectPath
path_of a = record { object = a.object; selectors = path a.steps }

abbrev pub ArePathsSeparated : EffectPath → EffectPath → Type 0
ArePathsSeparated p q = (p.object ≡ q.object → ⊥) ⊎ SomeDiffer p.selectors q.selectors

abbrev pub AreSeparated : Access → Access → Type 0
AreSeparated a b = ArePathsSeparated (path_of a) (path_of b)

-- two iterations of different threads have different loop parameters, or components without a common cell
abbrev pub LoopsDiffer : Now → Now → Option ℤ → Option ℤ → Type 0
LoopsDiffer a b (Some v) (Some w) = v ≡ w → ⊥
LoopsDiffer a b None None = (n : ℕ) → a.first ≤ n → n < a.first + a.size → b.first ≤ n → n < b.first + b.size → ⊥
LoopsDiffer a b v w = ⊥

pub record Distinct (a b : Now) : Type 0 where
  pub chunk : a.chunk ≡ b.chunk → ⊥
  pub loops : LoopsDiffer a b a.loop b.loop

-- the layout of objects (3.6, 3.8)

abbrev pub Enters : Shape → Step → Shape → Type 0
Enters (Record us) (FieldStep number offset) t = FieldAt us number offset t
Enters (Dimension low high u) (IndexStep s l h stride) t = (l ≡ low) × (h ≡ high) × (stride ≡ size u) × (t ≡ u)
Enters u (ItemStep judged n stride dimensions) t = ComponentAt u dimensions n t × (stride ≡ size t)
Enters u s t = ⊥

-- the steps follow the layout, down to a part that has no fewer cells
abbrev pub Follows : Shape → List Step → ℕ → Type 0
Follows t [] cells = cells ≤ size t
Follows t (s ∷ rest) cells = (u : Shape) × Enters t s u × Follows u rest cells

-- what is asked of a construct

module _ (program : Program) where
  abbrev pub IsLaid : Access → Type 0
  IsLaid a = Follows (object_shape program a.object) a.steps a.cells

  abbrev pub IsThreadEffect : Construct → ℕ → ℕ → Access → Type 0
  IsThreadEffect k j at a = IsEffect program (InThread program.subtypes k j) at a

  -- the same by paths: a read or a write of that path at a token, by the threads of that number or in front of them
  abbrev pub HasEffect : (Item → Type 0) → (at : ℕ) → (writes : Bool) → EffectPath → Type 0
  HasEffect items at writes p = (a : Access) × IsEffect program items at a × (a.writes ≡ writes) × (path_of a ≡ p)

  abbrev pub HasThreadEffect : Construct → ℕ → (at : ℕ) → (writes : Bool) → EffectPath → Type 0
  HasThreadEffect k j = HasEffect (InThread program.subtypes k j)

  abbrev pub HasFrontEffect : Construct → (at : ℕ) → (writes : Bool) → EffectPath → Type 0
  HasFrontEffect k = HasEffect (InFront program.subtypes k)

  -- in a loop or reduction any two effects are compared, one with itself too; in a block those of two arms
  abbrev pub Compared : Construct → ℕ → ℕ → Type 0
  Compared (LoopOf site r chunk iteration stmts) i j = Unit {0}
  Compared (BlockOf site r most arms) i j = i ≡ j → ⊥
  Compared (ReductionOf site r by chunk iteration value) i j = Unit {0}

  abbrev pub AreDisjoint : Construct → Type 0
  AreDisjoint k = (i j : ℕ) → Compared k i j → (at other : ℕ) (a b : Access) → IsThreadEffect k i at a → IsThreadEffect k j other b → a.writes ≡ true → AreSeparated a b

  -- two effects of which one is a write, and that aren't separated
  pub record Clashes (k : Construct) (at other : ℕ) : Type 0 where
    pub arm : ℕ
    pub other_arm : ℕ
    pub compared : Compared k arm other_arm
    pub access : Access
    pub other_access : Access
    pub effect : IsThreadEffect k arm at access
    pub other_effect : IsThreadEffect k other_arm other other_access
    pub writes : access.writes ≡ true
    pub together : AreSeparated access other_access → ⊥

  -- the tokens of two effects that clash, in the order of the text
  abbrev pub ClashPair : Construct → (at other : ℕ) → Type 0
  ClashPair k at other = (at ≤ other) × (Clashes k at other ⊎ Clashes k other at)

  -- an index is the parameter itself
  abbrev pub IsParameter : Selector → Type 0
  IsParameter (LoopIndex distance) = distance ≡ pos 0
  IsParameter (ChunkIndex distance) = distance ≡ pos 0
  IsParameter s = ⊥

  abbrev pub HasParameter : List Selector → Type 0
  HasParameter [] = ⊥
  HasParameter (s ∷ ss) = IsParameter s ⊎ HasParameter ss

  abbrev pub Exempt : Construct → Access → Type 0
  Exempt (LoopOf site r chunk iteration stmts) a = HasParameter (path a.steps)
  Exempt (BlockOf site r most arms) a = ⊥
  Exempt (ReductionOf site r by chunk iteration value) a = HasParameter (path a.steps)

  -- the strict rule is broken: by the threads, or by the chunk specification or range
  abbrev pub GlobalTouched : Construct → (at object : ℕ) → Type 0
  GlobalTouched k at x = (a : Access) × (a.object ≡ x) × (IsEffect program (InFront program.subtypes k) at a ⊎ ((j : ℕ) × IsThreadEffect k j at a)) × (Exempt k a → ⊥)

  -- what the threads of that number may write
  abbrev pub IsGranted : Construct → ℕ → Access → Type 0
  IsGranted k j a = (at : ℕ) × IsThreadEffect k j at a × (a.writes ≡ true)

  -- in the whole program
  abbrev pub InProgram : Item → Type 0
  InProgram i = InBody program.subtypes program.body i ⊎ ((s : ℕ) × InSub program s i)

  -- no thread asks for input or output, itself or by calls
  abbrev pub IsQuiet : Construct → Type 0
  IsQuiet k = (j at callee : ℕ) → (InThread program.subtypes k j (Blocks at callee) → ⊥) × ((s there last : ℕ) → InThread program.subtypes k j (Calls at callee s) → Reached program s (Blocks there last) → ⊥)

  -- what makes a construct free of races
  pub record IsClean (k : Construct) : Type 0 where
    pub disjoint : AreDisjoint k
    pub laid : (j at : ℕ) (a : Access) → IsThreadEffect k j at a → IsLaid a
    pub quiet : IsQuiet k

  abbrev pub IsDisjoint : Type 0
  IsDisjoint = (k : Construct) → InProgram (Holds k) → AreDisjoint k

  abbrev pub HasLayout : Type 0
  HasLayout = (k : Construct) → InProgram (Holds k) → (j at : ℕ) (a : Access) → IsThreadEffect k j at a → IsLaid a

  abbrev pub IsStrict : Type 0
  IsStrict = (k : Construct) → InProgram (Holds k) → (at object : ℕ) → GlobalTouched k at object → ⊥

  abbrev pub AllClean : Type 0
  AllClean = (k : Construct) → InProgram (Holds k) → IsClean k

-- Let a program keep the rule on blocking calls, its names follow the layout, and no construct of it have a clash. Then
-- no run of it has a race, under any plan, limit, number of workers and input.
abbrev pub RaceFreeLaw : Type 0
RaceFreeLaw = (program : Program) → KeepsRule program → HasLayout program → IsDisjoint program → IsRaceFree program

-- No cell that one thread is granted lies under an effect of another.
abbrev pub GrantLaw : Type 0
GrantLaw = (program : Program) (k : Construct) → IsClean program k → (i j : ℕ) → Compared program k i j → (now then : Now) → Distinct now then
    → (a b : Access) (at n : ℕ) → IsGranted program k i a → IsThreadEffect program k j at b → a.object ≡ b.object → LiesUnder now a n → LiesUnder then b n → ⊥

-- IsThreadEffect are disjoint exactly where no two of them clash.
abbrev pub ClashLaw : Type 0
ClashLaw = (program : Program) (k : Construct) → (AreDisjoint program k → (at other : ℕ) → Clashes program k at other → ⊥) × (((at other : ℕ) → Clashes program k at other → ⊥) → AreDisjoint program k)
