-- When a state of the machine fits one of the stored run, and what code does with a part of the program.
use Rattle.std.specs.Prelude.{◌≡◌, ℕ, ◌+◌, ◌-◌, ◌<◌, ◌≤◌, ℤ, pos, List, [], ◌∷◌, length, slice_get, nat_eq, cond, ◌⊎◌, Bool, true, false, Option, Some, None, is_some, Result, Ok, Err}
use Rattle.behaviours.specs.Paths.{Leave, Exits, Returns, Raises, Entity, VariableOf, ConstantOf}
use Rattle.ada_meaning.specs.declared.slots.Slot.{Slot}
use Rattle.ada_meaning.specs.declared.slots.Variable.{Variable}
use Rattle.ada_meaning.specs.Stored as stored
use Rattle.ada_meaning.specs.Stored.{After, Stored, Cause, Left, OutOfTurns, NoRoom, CutOff, Misnoted, Address, Kept, Stacked, Touch, Visit, cell_at, slot_at, within, key}
use Rattle.ada_meaning.specs.Meaning.{Env}
use Rattle.stack_code.specs.declared.code.Code.{Code}
use Rattle.stack_code.specs.Listing.{reason_number}
use Rattle.ada_base.specs.Notes.{InOrder}
use Rattle.ada_base.specs.Cells.{Cell, Mine, value_in}
use Rattle.stack_code.specs.Machine.{Spent, Cut, Astray, outward_of}
use Rattle.ada_lower.specs.Driven.{Dyn, Fixed, Step, Comes, halt, thrown}
use Rattle.ada_lower.specs.Sights.{Around, Level, Main, Named, Own, Sight, Where}
use Rattle.ada_lower.specs.Teams.{AreSound}
pub use Rattle.ada_lower.specs.Views.{Access, Barred, Readable, Full}

-- ---- memory

-- what a cell of the machine stands for: nothing that is asked for; nothing, and it may be written; a number that is kept
-- there, in an own cell or another one; a cell of the stored run
pub data What : Type 0 where
  Other : What
  Free : What
  Keeps : ℤ → What
  Shows : ℤ → What
  Stands : Access → Address → What

abbrev pub Bears : Access → ℤ → Option Cell → Type 0
Bears Barred v o = Unit {0}
Bears Readable v o = value_in o ≡ Some v
Bears Full v o = o ≡ Some (Mine v)

abbrev pub Right : What → stored.State → Option Cell → Type 0
Right Other s o = Unit {0}
Right Free s o = (v : ℤ) × (o ≡ Some (Mine v))
Right (Keeps v) s o = o ≡ Some (Mine v)
Right (Shows v) s o = value_in o ≡ Some v
Right (Stands x pl) s o = (v : ℤ) × (cell_at s pl ≡ Some v) × Bears x v o

abbrev pub allows : Access → Bool → Bool
allows Barred writes = false
allows Readable true = false
allows Readable false = true
allows Full writes = true

-- what holds all along: the tables of the stored run, and what each cell stands for
pub record Ghost : Type 0 where
  pub here : List Slot
  pub everywhere : List Slot
  pub declared : List Variable
  pub frame : ℕ
  pub top : ℕ
  -- at least and at most so many turns
  pub least : ℕ
  pub most : ℕ
  -- the plan
  pub plan : ℕ → ℕ → List ℕ
  -- whether constructs are run in order, as they are in threads
  pub ordered : Bool
  pub what : ℕ → What

-- each cell that is touched may be
abbrev pub Allowed : Ghost → Touch → Type 0
Allowed g t = (a : ℕ) (x : Access) → g.what a ≡ Stands x t.place → allows x t.writes ≡ true

abbrev pub Allows : Ghost → List Touch → Type 0
Allows g [] = Unit {0}
Allows g (t ∷ ts) = Allowed g t × Allows g ts

-- each cell that is touched may be, and the teams that are begun are sound
abbrev pub Asks : Fixed → Ghost → List Touch → List Visit → Type 0
Asks f g ts vs = Allows g ts × AreSound f.asked vs

pub record Agrees (s : stored.State) (d : Dyn) : Type 0 where
  pub turns : d.turns ≡ s.turns
  pub left : d.left ≡ s.left
  pub taken : d.world.taken ≡ s.taken
  pub held : d.world.held ≡ s.held
  pub input : d.world.input ≡ s.input
  pub output : d.world.output ≡ s.output
  pub notes : d.world.notes ≡ s.notes
  pub done : d.world.done ≡ s.done

pub record Fit (g : Ghost) (s : stored.State) (d : Dyn) : Type 0 where
  pub here : s.here ≡ g.here
  pub everywhere : s.everywhere ≡ g.everywhere
  pub declared : s.declared ≡ g.declared
  pub frame : s.frame ≡ g.frame
  pub top : length d.cells ≡ g.top
  pub least : g.least ≤ s.turns
  pub most : s.turns ≤ g.most
  pub agrees : Agrees s d
  pub plan : d.world.plan ≡ g.plan
  pub order : g.ordered ≡ true → s.notes ≡ InOrder
  pub cells : (a : ℕ) → Right (g.what a) s (slice_get d.cells a)

-- ---- what code does

-- where a part is left to: a handler, exits of loops, and returns
pub record Ends : Type 0 where
  pub entry : Option ℕ
  pub exits : ℕ → Dyn → Step
  pub returns : Option ℤ → Dyn → Step

abbrev pub left_by : Fixed → Ends → Leave → Dyn → Step
left_by f x (Exits n) d = x.exits n d
left_by f x (Returns v) d = x.returns v d
left_by f x (Raises r) d = thrown r x.entry f d

module _ (limit : ℕ) (c : Code) where
  -- from a step to one that fits
  pub record Land (asked : Bool) (g : Ghost) (from : Step) (turns : ℕ) (s : stored.State) (to : Dyn → Step) : Type 0 where
    pub dyn : Dyn
    pub fit : Fit g s dyn
    pub comes : Comes limit c asked from (to dyn)
    pub grows : turns ≤ s.turns

  module _ (f : Fixed) (x : Ends) where
    -- that the tables of slots are full is excluded where programs begin
    abbrev pub Lands : {A : Type 0} → (A → Type 0) → Ghost → Step → ℕ → (A → Dyn → Step) → stored.State → Result A Cause → Type 0
    Lands q g from turns to s (Ok a) = q a × Land (is_some f.asked) g from turns s (to a)
    Lands q g from turns to s (Err (Left l)) = Land (is_some f.asked) g from turns s (λ d. left_by f x l d)
    Lands q g from turns to s (Err OutOfTurns) = Land (is_some f.asked) g from turns s (λ d. halt f Spent d)
    Lands q g from turns to s (Err CutOff) = Land (is_some f.asked) g from turns s (λ d. halt f Cut d)
    Lands q g from turns to s (Err NoRoom) = Unit {0}
    Lands q g from turns to s (Err Misnoted) = (s.notes ≡ InOrder → ⊥) × Land (is_some f.asked) g from turns s (λ d. halt f Astray d)

    -- code does a part: from where the one ghost fits to where the other does
    pub record Does {A : Type 0} (g h : Ghost) (q : A → Type 0) (m : Stored A) (from : Dyn → Step) (to : A → Dyn → Step) : Type 0 where
      pub by : (s : stored.State) (d : Dyn) → Fit g s d → Asks f g (m.touches s) (m.visits s) → (let r = m.does s in Lands q h (from d) s.turns to r.state r.end)

-- ---- names

abbrev pub place_in : Ghost → Entity → ℕ → Option Address
place_in g x i =
    let h = slot_at g.here (key x) in
    let e = slot_at g.everywhere (key x) in
    cond (nat_eq h.frame g.frame) (within Stacked h i) (cond (nat_eq e.frame 1) (within Kept e i) None)

abbrev pub IsAt : Fixed → Level → ℕ → ℕ → Type 0
IsAt f Own n a = a ≡ f.base + n
IsAt f (Around k) n a = (b : ℕ) × (slice_get (outward_of f.waiting f.outward) (k - 1) ≡ Some b) × (a ≡ b + n)
IsAt f Main n a = a ≡ n

-- a number that may be read there
abbrev pub IsNumber : What → ℤ → Type 0
IsNumber w v = (w ≡ Keeps v) ⊎ (w ≡ Shows v)

-- the cell, or the one that keeps it
abbrev pub Leads : Bool → Ghost → Fixed → Where → ℕ → Type 0
Leads true g f w b = (a : ℕ) × IsAt f w.level w.cell a × IsNumber (g.what a) (pos b)
Leads false g f w b = IsAt f w.level w.cell b

-- so many cells of an object, from one on, stand at an address, in memory
pub record Spread (g : Ghost) (x : Entity) (first count address : ℕ) : Type 0 where
  pub near : address + count ≤ g.top
  pub cell : (i : ℕ) → i < count → (pl : Address) × (access : Access) × (place_in g x (first + i) ≡ Some pl) × (g.what (address + i) ≡ Stands access pl)

pub record Refers (g : Ghost) (f : Fixed) (n : Named) (x : Entity) (first : ℕ) : Type 0 where
  pub address : ℕ
  pub leads : Leads n.through g f n.place address
  pub spread : Spread g x first n.cells address

abbrev pub Holds : Ghost → Fixed → Where → ℤ → Type 0
Holds g f w v = (a : ℕ) × IsAt f w.level w.cell a × IsNumber (g.what a) v

-- an object of the main procedure has its cells in the main frame
abbrev pub AtMain : Ghost → Named → Entity → Type 0
AtMain g n y = (m : ℕ) × (n ≡ record { through = false; place = record { level = Main; cell = m }; cells = n.cells }) × ((slot_at g.everywhere (key y)).frame ≡ 1)
    × ((i : ℕ) → i < n.cells → (pl : Address) × (access : Access) × (within Kept (slot_at g.everywhere (key y)) i ≡ Some pl) × (g.what (m + i) ≡ Stands access pl))
    × (m + n.cells ≤ g.top)

-- what the scope says of names
pub record Knows (limit : ℕ) (cuts : ℕ → ℕ → List ℕ) (g : Ghost) (f : Fixed) (s : Sight) (env : Env) : Type 0 where
  pub most : g.most ≡ limit
  pub nested : f.nested ≡ env.nested
  pub plan : g.plan ≡ cuts
  -- no accumulators wait
  pub kept : f.kept ≡ []
  pub one : (a b : ℕ) (x y : Access) (pl : Address) → g.what a ≡ Stands x pl → g.what b ≡ Stands y pl → a ≡ b
  pub old : (k : ℕ) → (slot_at g.here k).frame ≤ g.frame
  pub hidden : (x : Entity) (i : ℕ) → s.seen x ≡ false → place_in g x i ≡ None
  pub global : (x : Entity) (n : Named) → s.global x ≡ Some n → AtMain g n x
  pub outside : (x : Entity) → s.main x ≡ false → (slot_at g.everywhere (key x)).frame ≡ 1 → ⊥
  -- the own frame is the last
  pub top : g.top ≡ f.base + s.cells
  pub beyond : (a : ℕ) → g.top ≤ a → g.what a ≡ Other
  pub object : (x : Entity) (n : Named) → s.scope.object x ≡ Some n → Refers g f n x 0
  pub parameter : (k : ℕ) (w : Where) → s.scope.parameter k ≡ Some w → Holds g f w (env.parameter k)
  pub item : (k : ℕ) (n : Named) → s.scope.item k ≡ Some n → Refers g f n (VariableOf (env.item k).object) (env.item k).offset
  pub constant_item : (k : ℕ) (n : Named) → s.scope.constant_item k ≡ Some n → Refers g f n (ConstantOf (env.constant_item k).object) (env.constant_item k).offset
  pub target : (n : Named) → s.scope.target ≡ Some n → Refers g f n (VariableOf env.target.object) env.target.offset
  pub handled : (w : Where) → s.scope.handled ≡ Some w → Holds g f w (pos (reason_number env.handled))
  pub free : (n : ℕ) → s.scope.free ≤ n → n < s.cells → g.what (f.base + n) ≡ Free
