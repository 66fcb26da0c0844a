-- What the touches of a part say of the cells that were there before it.
use Rattle.std.specs.Prelude.{◌≡◌, length, ℕ, suc, ◌<◌, ◌≤◌, ◌++◌, List, [], ◌∷◌, ◌⊎◌, Bool, true}
use Rattle.typed_tree.specs.Syntax.{Program, Stmts}
use Rattle.ada_base.specs.Cuts.{cuts_of}
use Rattle.ada_meaning.specs.Meaning.{Env, exec_all, call}
use Rattle.ada_meaning.specs.Nonblocking.{KeepsRule, KeepsAll, nonblocking_of}
use Rattle.ada_meaning.specs.Programs.{Setting}
use Rattle.ada_meaning.specs.Law.{IsRaceFree}
use Rattle.ada_base.specs.Notes.{Schedule, InOrder}
use Rattle.ada_meaning.specs.Stored.{State, Address, Kept, Stacked, Touch, Thread, Team, Visit, ThreadOf, TeamOf, Stored, slot_at, cell_at, noted_operations, noted, noted_outset}

-- the cell is there
abbrev pub Before : State → Address → Type 0
Before s (Kept a) = a < length s.kept
Before s (Stacked a) = a < length s.cells

abbrev pub WrittenIn : List Touch → Address → Type 0
WrittenIn [] a = ⊥
WrittenIn (t ∷ ts) a = ((t.writes ≡ true) × (t.place ≡ a)) ⊎ WrittenIn ts a

-- each team is so
abbrev pub EachTeam : (Team → Type 0) → List Visit → Type 0
EachTeam F [] = Unit {0}
EachTeam F (ThreadOf t ∷ vs) = EachTeam F vs
EachTeam F (TeamOf t ∷ vs) = F t × EachTeam F vs

-- a cell that was there and isn't written keeps its value, wherever the part comes to
abbrev pub LeavesOthers : {A : Type 0} → Stored A → Type 0
LeavesOthers m = (s : State) (a : Address) → Before s a → (WrittenIn (m.touches s) a → ⊥) → cell_at (m.does s).state a ≡ cell_at s a

-- so it is with all statements, where so many calls more may be active
abbrev pub FrameLaw : Type 0
FrameLaw = (program : Program) (set : Setting) (depth : ℕ) (stmts : Stmts) (env : Env) (blocking : Bool) → KeepsRule program → KeepsAll (nonblocking_of program.subs) stmts blocking
    → let ops = noted_operations set.limit (cuts_of set.plan) in LeavesOthers (exec_all ops set.limit program (call ops set.limit program depth) stmts env)

-- threads of a team

abbrev pub TouchedIn : List Touch → Address → Type 0
TouchedIn [] a = ⊥
TouchedIn (t ∷ ts) a = (t.place ≡ a) ⊎ TouchedIn ts a

abbrev pub IsAmong : Thread → List Thread → Type 0
IsAmong b [] = ⊥
IsAmong b (c ∷ cs) = (b ≡ c) ⊎ IsAmong b cs

-- no two threads share a cell that was there before their construct and that one of them writes
abbrev pub IsApart : Team → Type 0
IsApart t = (b c : Thread) → IsAmong b t.threads → IsAmong c t.threads → (b.share ≡ c.share → ⊥) → (a : Address) → Before t.begun a → WrittenIn b.touches a → TouchedIn c.touches a → ⊥

-- In a run by notes of a program that is free of races all teams are so.
abbrev pub ApartLaw : Type 0
ApartLaw = (program : Program) (set : Setting) (slots : ℕ) (input before : List ℕ) (notes : Schedule) → KeepsRule program → IsRaceFree program → (set.one ≡ true → notes ≡ InOrder)
    → EachTeam IsApart ((noted program set).visits (noted_outset slots input before notes))

-- what a team begins with and leaves

-- the same cells, objects and frame
pub record SameCells (s u : State) : Type 0 where
  pub cells : u.cells ≡ s.cells
  pub kept : u.kept ≡ s.kept
  pub here : u.here ≡ s.here
  pub everywhere : u.everywhere ≡ s.everywhere
  pub frame : u.frame ≡ s.frame

-- a part with these touches leaves this: the objects as they were, as many cells or more, and those that it doesn't write
pub record Leaves (s u : State) (touches : List Touch) : Type 0 where
  pub here : (k : ℕ) → slot_at u.here k ≡ slot_at s.here k
  pub everywhere : (k : ℕ) → slot_at u.everywhere k ≡ slot_at s.everywhere k
  pub frame : u.frame ≡ s.frame
  pub cells : length u.cells ≡ length s.cells
  pub kept : length s.kept ≤ length u.kept
  pub others : (a : Address) → Before s a → (WrittenIn touches a → ⊥) → cell_at u a ≡ cell_at s a

-- the threads go on one from the other, from a state to a state
abbrev pub Chain : State → List Thread → State → Type 0
Chain s [] u = SameCells s u
Chain s (b ∷ bs) u = SameCells s b.begun × Leaves b.begun b.ended b.touches × Chain b.ended bs u

abbrev pub IsChain : Team → Type 0
IsChain t = Chain t.begun t.threads t.ended

abbrev pub touches_of : List Thread → List Touch
touches_of [] = []
touches_of (b ∷ bs) = b.touches ++ touches_of bs

-- where a thread of the team begins the threads before have left it, what it leaves itself goes by its touches, and the
-- threads after leave the rest
abbrev pub IsJoin : Team → Type 0
IsJoin t =
    (front : List Thread) (b : Thread) (back : List Thread) → t.threads ≡ front ++ (b ∷ back)
    → Leaves t.begun b.begun (touches_of front) × Leaves b.begun b.ended b.touches × Leaves b.ended t.ended (touches_of back)

-- threads in order of their numbers
abbrev pub Rises : ℕ → List Thread → Type 0
Rises n [] = Unit {0}
Rises n (b ∷ bs) = (n ≤ b.share.number) × Rises (suc b.share.number) bs

abbrev pub IsLined : Team → Type 0
IsLined t = IsChain t × Rises 0 t.threads

-- So it is with each team of a run by notes; and what the team leaves goes by the touches of all its threads.
abbrev pub JoinLaw : Type 0
JoinLaw = (program : Program) (set : Setting) (s : State) → KeepsRule program → EachTeam (λ t. IsLined t × IsJoin t × Leaves t.begun t.ended (touches_of t.threads)) ((noted program set).visits s)

-- Of the cells that were there before the team: each that a thread touches is, where that begins, as it was before the team;
-- and each that it writes is in the end as it left it.
abbrev pub IsView : Team → Type 0
IsView t =
    (front : List Thread) (b : Thread) (back : List Thread) → t.threads ≡ front ++ (b ∷ back) → (a : Address) → Before t.begun a
    → (TouchedIn b.touches a → cell_at b.begun a ≡ cell_at t.begun a) × (WrittenIn b.touches a → cell_at t.ended a ≡ cell_at b.ended a)

-- So the threads of a program that is free of races may as well begin all at once, each with cells of its own.
abbrev pub ViewLaw : Type 0
ViewLaw = (program : Program) (set : Setting) (slots : ℕ) (input before : List ℕ) (notes : Schedule) → KeepsRule program → IsRaceFree program → (set.one ≡ true → notes ≡ InOrder)
    → EachTeam IsView ((noted program set).visits (noted_outset slots input before notes))
