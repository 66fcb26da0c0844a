-- What workers do with the records of threads.
use Rattle.std.specs.Prelude.{◌≡◌, ℕ, suc, ◌<◌, ◌⊎◌, List, [], ◌∷◌, length, get_or, Some, None}
use Rattle.atomic_table.specs.Seated.{TableId}
use Rattle.leave_board.specs.Boards.{Hall, Sitting}
use Rattle.leave_board.specs.Halts.{Watching, IsTold}
use Rattle.cell_strip.specs.Strips.{Block, Strip, cell, is_there}
use Rattle.ada_base.specs.Cells.{Cell, Gone}
use Rattle.cell_memory.specs.Sight.{Sight, thread_sight, OwnThere, GivesBack, lent_value}
use Rattle.ada_workers.specs.Paths.{Runs, Fine, Went, SamePlace}
use Rattle.ada_workers.specs.Orders.{view_of}
use Rattle.ada_workers.specs.declared.path.Stop.{Stop}
use Rattle.ada_workers.specs.declared.path.Stop.TheVariants as stop
use Rattle.ada_workers.specs.declared.tasks.State.{State}
use Rattle.ada_workers.specs.declared.tasks.State.TheVariants as state
use Rattle.ada_workers.specs.declared.tasks.Task.{Task}
use Rattle.ada_workers.specs.declared.tasks.Ready.{Ready}
use Rattle.ada_workers.specs.declared.tasks.Back.{Back}

pub record IsReady {P : Type 0} (runs : Runs P) (t : Task P) : Type 0 where
  pub state : t.state ≡ state.NotBegun
  pub there : OwnThere t.view
  pub fine : Fine (runs t.path None t.view.cells).end
  pub first : t.watch.first ≡ None

-- it stopped at a look
abbrev pub IsAsked : Stop → Type 0
IsAsked s = (looks : ℕ) × (s ≡ stop.Paused looks)

abbrev pub Did : {P : Type 0} → Runs P → Task P → Task P → State → Type 0
Did runs t u state.NotBegun = (u.path ≡ t.path) × (u.view.cells ≡ t.view.cells) × IsTold u.watch.seen
Did runs t u (state.Stopped s) = Went runs t.path t.view.cells s u.path u.view.cells × (IsAsked s ⊎ (s ≡ stop.Gone) → IsTold u.watch.seen)

-- what a worker did with a thread: where the thread's seat had seen a leaver, it wasn't begun
pub record TaskRan {P : Type 0} (runs : Runs P) (t u : Task P) : Type 0 where
  pub number : u.number ≡ t.number
  pub board : u.watch.board ≡ t.watch.board
  pub place : SamePlace t.view u.view
  pub did : Did runs t u u.state
  pub heeds : IsTold t.watch.seen → u.state ≡ state.NotBegun
  pub first : (k : ℕ) → u.watch.first ≡ Some k → (k ≡ t.number) × (u.state ≡ state.Stopped stop.Gone)

abbrev pub AllHome : {P : Type 0} → Block → List (Ready P) → Type 0
AllHome home [] = Unit {0}
AllHome home (r ∷ rs) = (r.lent.block ≡ home) × AllHome home rs

pub record Begun {P : Type 0} (s : Sight) (b : Hall) (k : ℕ) (r : Ready P) (t : Task P) : Type 0 where
  pub view : t.view ≡ thread_sight s r.lent r.own
  pub path : t.path ≡ r.path
  pub state : t.state ≡ state.NotBegun
  pub number : t.number ≡ k
  pub watch : t.watch ≡ record { board = b; first = None; seen = None }

abbrev pub BegunFrom : {P : Type 0} → Sight → Hall → ℕ → List (Ready P) → List (Task P) → Type 0
BegunFrom s b k [] [] = Unit {0}
BegunFrom s b k [] (t ∷ ts) = ⊥
BegunFrom s b k (r ∷ rs) [] = ⊥
BegunFrom s b k (r ∷ rs) (t ∷ ts) = Begun s b k r t × BegunFrom s b (suc k) rs ts

abbrev pub CanEnd : {P : Type 0} → Task P → Type 0
CanEnd t = OwnThere t.view × ((b : Block) × (t.view.held ≡ Some b))

abbrev pub AllCanEnd : {P : Type 0} → List (Task P) → Type 0
AllCanEnd [] = Unit {0}
AllCanEnd (t ∷ ts) = CanEnd t × AllCanEnd ts

abbrev pub SeatOf : Watching → Sitting → Type 0
SeatOf w s = (s.board ≡ w.board.name) × (s.first ≡ w.first) × (s.seen ≡ w.seen)

-- a thread's record gave its seat and what its view gave back
abbrev pub Given : {P : Type 0} → Task P → Sitting → Back P → Type 0
Given t s b = SeatOf t.watch s × (b.path ≡ t.path) × (b.state ≡ t.state) × GivesBack t.view (Some b.lent)

abbrev pub AllGiven : {P : Type 0} → List (Task P) → List Sitting → List (Back P) → Type 0
AllGiven [] [] [] = Unit {0}
AllGiven [] [] (b ∷ bs) = ⊥
AllGiven [] (s ∷ ss) bs = ⊥
AllGiven (t ∷ ts) [] bs = ⊥
AllGiven (t ∷ ts) (s ∷ ss) [] = ⊥
AllGiven (t ∷ ts) (s ∷ ss) (b ∷ bs) = Given t s b × AllGiven ts ss bs

-- the thread's view, over the view around it
abbrev pub begun : {P : Type 0} → Sight → Ready P → List Cell
begun s r = view_of s.cells (λ x. cell r.lent x) r.own.values

abbrev pub AllFineOver : {P : Type 0} → Runs P → Sight → List (Ready P) → Type 0
AllFineOver runs s [] = Unit {0}
AllFineOver runs s (r ∷ rs) = Fine (runs r.path None (begun s r)).end × AllFineOver runs s rs

-- what is given back of the first n cells is as these are
abbrev pub BackOf : ℕ → List Cell → Strip → Type 0
BackOf n ds l = (x : ℕ) → x < n → cell l x ≡ lent_value (get_or ds x Gone)

abbrev pub RanTo : {P : Type 0} → Runs P → ℕ → List Cell → P → P → Strip → State → Type 0
RanTo runs n vs p q l state.NotBegun = (q ≡ p) × BackOf n vs l
RanTo runs n vs p q l (state.Stopped s) = (ds : List Cell) × Went runs p vs s q ds × BackOf n ds l

pub record Returned {P : Type 0} (runs : Runs P) (s : Sight) (r : Ready P) (b : Back P) : Type 0 where
  pub home : b.lent.block ≡ r.lent.block
  pub kinds : (x : ℕ) → x < length s.cells → is_there (cell b.lent x) ≡ is_there (cell r.lent x)
  pub ran : RanTo runs (length s.cells) (begun s r) r.path b.path b.lent b.state

abbrev pub AllReturned : {P : Type 0} → Runs P → Sight → List (Ready P) → List (Back P) → Type 0
AllReturned runs s [] [] = Unit {0}
AllReturned runs s [] (b ∷ bs) = ⊥
AllReturned runs s (r ∷ rs) [] = ⊥
AllReturned runs s (r ∷ rs) (b ∷ bs) = Returned runs s r b × AllReturned runs s rs bs

-- a thread that wasn't begun, was paused or left
abbrev pub IsHalted : State → Type 0
IsHalted s = (s ≡ state.NotBegun) ⊎ (((looks : ℕ) × (s ≡ state.Stopped (stop.Paused looks))) ⊎ (s ≡ state.Stopped stop.Gone))

-- what a seat tells of thread k
pub record SeatTells {P : Type 0} (name : TableId) (k : ℕ) (b : Back P) (s : Sitting) : Type 0 where
  pub board : s.board ≡ name
  pub told : IsHalted b.state → IsTold s.seen
  pub first : (t : ℕ) → s.first ≡ Some t → (t ≡ k) × (b.state ≡ state.Stopped stop.Gone)

abbrev pub SeatsTell : {P : Type 0} → TableId → ℕ → List (Back P) → List Sitting → Type 0
SeatsTell name k [] [] = Unit {0}
SeatsTell name k [] (s ∷ ss) = ⊥
SeatsTell name k (b ∷ bs) [] = ⊥
SeatsTell name k (b ∷ bs) (s ∷ ss) = SeatTells name k b s × SeatsTell name (suc k) bs ss
