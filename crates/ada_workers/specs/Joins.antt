-- What a construct comes to.
use Rattle.std.specs.Prelude.{◌≡◌, ◌≢◌, ℕ, suc, ◌<◌, ◌≤◌, ◌⊎◌, true, List, [], ◌∷◌, length, get_or, Option, Some, None, vec_len, vec_capacity}
use Rattle.leave_board.specs.Boards.{AllOf, fresh}
use Rattle.cell_strip.specs.declared.region.Region.{Region}
use Rattle.cell_strip.specs.Regions.{covered}
use Rattle.cell_strip.specs.Strips.{Block, Strip, cell}
use Rattle.ada_base.specs.Cells.{Cell, Gone}
use Rattle.cell_memory.specs.Sight.{Sight, mine_or, OwnThere, table}
use Rattle.ada_workers.specs.Paths.{Ending, AtEnd, Left, Spent, Cut, Stuck, Runs}
use Rattle.ada_base.specs.Notes.{ThreadNote, Whole, NotBegun, CutAfter}
use Rattle.ada_workers.specs.Orders.{Start, lent_of, out_of, memory_after, ends_of}
use Rattle.ada_workers.specs.Tasks.{AllReturned, IsHalted}
use Rattle.ada_workers.specs.declared.path.Stop.TheVariants as stop
use Rattle.ada_workers.specs.declared.tasks.State.{State}
use Rattle.ada_workers.specs.declared.tasks.State.TheVariants as state
use Rattle.ada_workers.specs.declared.tasks.Ready.{Ready}
use Rattle.ada_workers.specs.declared.tasks.Back.{Back}
use Rattle.ada_workers.specs.declared.construct.Job.{Job}
use Rattle.ada_workers.specs.declared.construct.Over.{Over}
use Rattle.ada_workers.specs.declared.construct.Rooms.{Rooms}

-- the note of a thread that stopped so; none of a construct that came to its end stopped for want of memory
abbrev pub note_of : State → ThreadNote
note_of state.NotBegun = NotBegun
note_of (state.Stopped stop.Ended) = Whole
note_of (state.Stopped stop.Gone) = Whole
note_of (state.Stopped stop.Spent) = Whole
note_of (state.Stopped (stop.Paused looks)) = CutAfter looks
note_of (state.Stopped stop.NoMemory) = NotBegun

abbrev pub with_cells : Sight → List Cell → Sight
with_cells s cs = record s { cells = cs }

abbrev pub put_back_of : List Cell → Strip → List Cell
put_back_of cs l = table (length cs) (λ x. mine_or (cell l x) (get_or cs x Gone))

-- how a note and an end are told
abbrev pub Tells : ThreadNote → Ending → State → Type 0
Tells NotBegun e s = s ≡ state.NotBegun
Tells (CutAfter n) e s = (e ≡ Cut) × (s ≡ state.Stopped (stop.Paused n))
Tells Whole AtEnd s = s ≡ state.Stopped stop.Ended
Tells Whole Left s = s ≡ state.Stopped stop.Gone
Tells Whole Spent s = s ≡ state.Stopped stop.Spent
Tells Whole Cut s = ⊥
Tells Whole Stuck s = ⊥

module _ {P : Type 0} where
  abbrev pub start_of : Job P → Start P
  start_of j = record { path = j.path; own = j.own.values }

  abbrev pub starts_of : List (Job P) → List (Start P)
  starts_of [] = []
  starts_of (j ∷ js) = start_of j ∷ starts_of js

  abbrev pub regions_of : List (Job P) → List (List Region)
  regions_of [] = []
  regions_of (j ∷ js) = j.regions.items ∷ regions_of js

  -- the regions lie among the first n cells
  abbrev pub AllIn : ℕ → List (Job P) → Type 0
  AllIn n [] = Unit {0}
  AllIn n (j ∷ js) = ((x : ℕ) → covered j.regions.items x ≡ true → x < n) × AllIn n js

  pub record LentOne (block : Block) (cs : List Cell) (j : Job P) (r : Ready P) : Type 0 where
    pub home : r.lent.block ≡ block
    pub cells : (x : ℕ) → cell r.lent x ≡ lent_of cs j.regions.items x
    pub own : r.own ≡ j.own
    pub path : r.path ≡ j.path

  abbrev pub LentTo : Block → List Cell → List (Job P) → List (Ready P) → Type 0
  LentTo home cs [] [] = Unit {0}
  LentTo home cs [] (r ∷ rs) = ⊥
  LentTo home cs (j ∷ js) [] = ⊥
  LentTo home cs (j ∷ js) (r ∷ rs) = LentOne home cs j r × LentTo home (out_of cs j.regions.items) js rs

  abbrev pub BacksHome : Block → List (Back P) → Type 0
  BacksHome home [] = Unit {0}
  BacksHome home (b ∷ bs) = (b.lent.block ≡ home) × BacksHome home bs

  abbrev pub puts_back : List Cell → List (Back P) → List Cell
  puts_back cs [] = cs
  puts_back cs (b ∷ bs) = puts_back (put_back_of cs b.lent) bs

  abbrev pub over_of : Back P → Over P
  over_of b = record { path = b.path; state = b.state }

  abbrev pub overs_of : List (Back P) → List (Over P)
  overs_of [] = []
  overs_of (b ∷ bs) = over_of b ∷ overs_of bs

  pub record IsRoom (n : ℕ) (r : Rooms P) : Type 0 where
    pub ready : (r.ready.items ≡ []) × (n ≤ vec_capacity r.ready)
    pub backs : (r.backs.items ≡ []) × (n ≤ vec_capacity r.backs)
    pub workers : r.board.workers ≡ n
    pub seats : AllOf (λ s. s ≡ fresh r.board.name) r.seats.items × (vec_len r.seats ≡ n)

  -- who was chosen: one that left; or none, and each went to its own end without leaving, or ran short of memory
  abbrev pub Chose : Option ℕ → ℕ → List (Back P) → Type 0
  Chose None k [] = Unit {0}
  Chose (Some t) k [] = ⊥
  Chose None k (b ∷ bs) = (IsHalted b.state → ⊥) × Chose None (suc k) bs
  Chose (Some t) k (b ∷ bs) = ((t ≡ k) × (b.state ≡ state.Stopped stop.Gone)) ⊎ Chose (Some t) (suc k) bs

  -- the threads ran, over s, the view from which cs was lent
  abbrev pub JobsRan : Runs P → Block → Sight → List Cell → List (Job P) → List (Back P) → Option ℕ → Type 0
  JobsRan runs home s cs js bs chosen = ((rs : List (Ready P)) × LentTo home cs js rs × AllReturned runs s rs bs) × Chose chosen 0 bs

  -- ---- the answer
  abbrev pub Reports : List (P × Ending) → List ThreadNote → List (Over P) → Type 0
  Reports [] [] [] = Unit {0}
  Reports [] [] (o ∷ os) = ⊥
  Reports [] (n ∷ ns) os = ⊥
  Reports (e ∷ es) [] os = ⊥
  Reports (e ∷ es) (n ∷ ns) [] = ⊥
  Reports (e ∷ es) (n ∷ ns) (o ∷ os) = (o.path ≡ e.0) × Tells n e.1 o.state × Reports es ns os

  -- by the chosen thread the construct was left; without one each thread went to its own end, and none left
  abbrev pub Fits : Option ℕ → ℕ → List (Over P) → Type 0
  Fits None k [] = Unit {0}
  Fits (Some t) k [] = ⊥
  Fits None k (o ∷ os) = ((o.state ≡ state.Stopped stop.Ended) ⊎ (o.state ≡ state.Stopped stop.Spent)) × Fits None (suc k) os
  Fits (Some t) k (o ∷ os) = ((t ≡ k) × (o.state ≡ state.Stopped stop.Gone)) ⊎ Fits (Some t) (suc k) os

  abbrev pub notes_of : List (Over P) → List ThreadNote
  notes_of [] = []
  notes_of (o ∷ os) = note_of o.state ∷ notes_of os

  -- by the notes of their states the threads come, one after the other on the cells cs, to what they came to
  pub record Joined (runs : Runs P) (ss : List (Start P)) (cs : List Cell) (chosen : Option ℕ) (os : List (Over P)) (ds : List Cell) : Type 0 where
    pub notes : List ThreadNote
    pub told : notes ≡ notes_of os
    pub many : length notes ≡ length ss
    pub memory : ds ≡ memory_after runs ss notes cs
    pub reports : Reports (ends_of runs ss notes cs) notes os
    pub fits : Fits chosen 0 os

-- the view has as many cells as before, each as much its own
pub record Stays (s t : Sight) : Type 0 where
  pub held : t.held ≡ s.held
  pub own : t.own ≡ s.own
  pub home : t.home ≡ s.home
  pub spare : t.spare ≡ s.spare
  pub many : length t.cells ≡ length s.cells
  pub there : OwnThere t

-- not for want of memory
abbrev pub EndedSo : {P : Type 0} → Over P → Type 0
EndedSo o = o.state ≢ state.Stopped stop.NoMemory
