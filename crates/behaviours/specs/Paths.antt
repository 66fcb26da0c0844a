-- Where a run is: instances of objects, the threads that made them, what a path has counted, and what it sees.
use Rattle.std.specs.Prelude.{ℕ, suc, ℤ, nat_eq, nat_lt, List, [], ◌∷◌, ◌++◌, Option, Some, None, Bool, true, false, ◌&&◌, cond}
use Rattle.ada_base.specs.declared.reason.Reason.{Reason}

-- how a statement is left: by the exit of a loop (5.7), by a return (6.5), by an exception (11.3)
pub data Leave : Type 0 where
  Exits : (loop : ℕ) → Leave
  Returns : Option ℤ → Leave
  Raises : Reason → Leave

-- an object of the program, by its number. Nothing writes a constant once it is elaborated.
pub data Entity : Type 0 where
  VariableOf : (object : ℕ) → Entity
  ConstantOf : (object : ℕ) → Entity

-- where an object is visible: in all subprograms too, or in its own text alone
pub data Region : Type 0 where
  Everywhere : Region
  Here : Region

-- the name of a thread: for each construct around it its number there, and the constructs that the thread around had begun
abbrev pub ThreadName : Type 0
ThreadName = List ℕ

-- an instance of an object: the thread that elaborated it, the elaborations before it in that thread, and the object
pub record Instance : Type 0 where
  pub thread : ThreadName
  pub number : ℕ
  pub object : Entity

-- how a path ends: with a value, left, with its turns spent, or going no further
pub data End (A : Type 0) : Type 0 where
  Gives : A → End A
  Leaves : Leave → End A
  Spent : End A
  Stopped : End A

-- what a path has counted, and the instances of the main procedure's objects in order of their declaration
pub record Path (P : Type 0) : Type 0 where
  pub name : ThreadName
  pub turns : ℕ
  pub constructs : ℕ
  pub elaborations : ℕ
  pub taken : ℕ
  pub globals : List P

-- an instance and how many cells it has
pub record Extent (P : Type 0) : Type 0 where
  pub instance : P
  pub cells : ℕ

-- the instances of the objects that are visible
pub record Scope (P : Type 0) : Type 0 where
  pub everywhere : Entity → Option (Extent P)
  pub here : Entity → Option (Extent P)

abbrev pub entity_eq : Entity → Entity → Bool
entity_eq (VariableOf x) (VariableOf y) = nat_eq x y
entity_eq (VariableOf x) (ConstantOf y) = false
entity_eq (ConstantOf x) (VariableOf y) = false
entity_eq (ConstantOf x) (ConstantOf y) = nat_eq x y

abbrev pub name_eq : ThreadName → ThreadName → Bool
name_eq [] [] = true
name_eq [] (j ∷ js) = false
name_eq (i ∷ is) [] = false
name_eq (i ∷ is) (j ∷ js) = nat_eq i j && name_eq is js

abbrev pub instance_eq : Instance → Instance → Bool
instance_eq x y = nat_eq x.number y.number && entity_eq x.object y.object && name_eq x.thread y.thread

module _ {P : Type 0} where
  abbrev pub first_of : Option (Extent P) → Option (Extent P) → Option (Extent P)
  first_of None y = y
  first_of (Some x) y = Some x

  abbrev pub within_extent : ℕ → Option (Extent P) → Option P
  within_extent i None = None
  within_extent i (Some x) = cond (nat_lt i x.cells) (Some x.instance) None

  -- the instance of an object, if it is visible and has a cell at the offset
  abbrev pub find : Scope P → Entity → ℕ → Option P
  find s x i = within_extent i (first_of (s.here x) (s.everywhere x))

  abbrev pub bound : (Entity → Option (Extent P)) → Entity → Extent P → Entity → Option (Extent P)
  bound f x l y = cond (entity_eq x y) (Some l) (f y)

  abbrev pub declares : Region → Entity → P → ℕ → Scope P → Scope P
  declares Everywhere x l n s = record s { everywhere = bound s.everywhere x (record { instance = l; cells = n }) }
  declares Here x l n s = record s { here = bound s.here x (record { instance = l; cells = n }) }

  -- what a subprogram sees of where it is called
  abbrev pub apart_of : Scope P → Scope P
  apart_of s = record s { here = λ x. None }

  abbrev pub one_turn : Path P → Path P
  one_turn p = record p { turns = suc p.turns }

  abbrev pub one_taken : Path P → Path P
  one_taken p = record p { taken = suc p.taken }

  abbrev pub one_elaboration : Region → P → Path P → Path P
  one_elaboration Everywhere l p = record p { elaborations = suc p.elaborations; globals = p.globals ++ (l ∷ []) }
  one_elaboration Here l p = record p { elaborations = suc p.elaborations }

  -- the path of a thread of the next construct, and the path around it afterwards
  abbrev pub enter : ℕ → Path P → Path P
  enter i p = record p { name = i ∷ p.constructs ∷ p.name; constructs = 0; elaborations = 0 }

  abbrev pub leave : Path P → Path P → Path P
  leave p q = record p { turns = q.turns; taken = q.taken }

  -- the path after a construct whose threads have taken so many turns
  abbrev pub joined : Path P → ℕ → Path P
  joined p turns = record p { turns = turns; constructs = suc p.constructs }

  -- whether it is that of a thread
  abbrev pub is_inside : Path P → Bool
  is_inside p = go p.name
    where
      go : ThreadName → Bool
      go [] = false
      go (i ∷ is) = true

  -- the path of a program that begins
  abbrev pub start : Path P
  start = record { name = []; turns = 0; constructs = 0; elaborations = 0; taken = 0; globals = [] }

  abbrev pub nothing_visible : Scope P
  nothing_visible = record { everywhere = λ x. None; here = λ x. None }
