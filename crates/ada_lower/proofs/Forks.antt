-- Threads of a construct: where they are left to, and what it is that they do what the threads of a stored run do.
use Rattle.std.specs.Prelude.{◌≡◌, ℕ, ◌≤◌, ℤ, List, [], ◌∷◌, ◌++◌, Option, Some, None, Result, Ok, Err, true}
use Rattle.ada_base.specs.Notes.{InOrder}
use Rattle.behaviours.specs.Joins.{Share}
use Rattle.behaviours.specs.Paths as paths
use Rattle.ada_meaning.specs.Stored as stored
use Rattle.ada_meaning.specs.Stored.{Stored, Cause, OutOfTurns, NoRoom, CutOff, Misnoted, Touch}
use Rattle.stack_code.specs.declared.code.Code.{Code}
use Rattle.stack_code.specs.declared.code.CodeSite.{CodeSite}
use Rattle.stack_code.specs.declared.path.Asked.{Asked}
use Rattle.stack_code.specs.declared.path.Gave.{Gave}
use Rattle.stack_code.specs.declared.path.Gave.TheVariants as gave
use Rattle.stack_code.specs.declared.path.Leave.{Leave}
use Rattle.stack_code.specs.declared.path.Leave.TheVariants as leave
use Rattle.stack_code.specs.Machine.{Stop, Done, Left, Spent, Cut, Astray, outward_of}
use Rattle.ada_lower.specs.Driven.{Dyn, Fixed, Step, Forked, off, on, thread_cells, cut_to}
use Rattle.ada_lower.specs.Fits.{Ghost, Allows, Fit, Ends, Does}

-- what calls and constructs change, in a thread whose frame begins at that address
abbrev pub threaded : Fixed → ℕ → Fixed
threaded f top = record { below = []; nest = 0; kept = []; rounds = []; base = top; outward = f.base ∷ outward_of f.waiting f.outward; waiting = []; calls = f.calls; nested = f.nested; asked = f.asked }

-- a thread isn't left but to its construct
abbrev pub thread_ends : Ends
thread_ends = record { entry = None; exits = λ n d. off (Left (leave.Exit n)) d; returns = λ v d. off (Left (leave.Return v)) d }

abbrev pub machine_leave : paths.Leave → Leave
machine_leave (paths.Exits n) = leave.Exit n
machine_leave (paths.Returns v) = leave.Return v
machine_leave (paths.Raises r) = leave.Raise r

-- with the thread's frame on top
abbrev pub framed : CodeSite → Asked → Share → Dyn → Dyn
framed site q j d = record d { cells = d.cells ++ thread_cells site.frame q j }

abbrev pub done_so : {A : Type 0} → (A → Option ℤ) → A → Dyn → Step
done_so value a d = off (Done (value a)) d

module _ (limit : ℕ) (c : Code) where
  -- the code of a site does what a part of the stored run does
  pub record ThreadDoes (may : paths.Leave → Type 0) {A : Type 0} (g : Ghost) (f : Fixed) (site : CodeSite) (q : Asked) (value : A → Option ℤ) (j : Share) (m : Stored A) : Type 0 where
    pub ghost : Ghost
    pub enters : (s : stored.State) (d : Dyn) → s.notes ≡ InOrder → Fit g s d → Fit ghost s (framed site q j d)
    pub after : Ghost
    pub ordered : after.ordered ≡ true
    pub leaves : (s : stored.State) (d : Dyn) → Fit after s d → Fit g s (cut_to g.top d)
    pub allows : (ts : List Touch) → Allows g ts → Allows ghost ts
    pub does : Does limit c (threaded f g.top) thread_ends ghost after (λ a. Unit {0}) m (λ d. on (threaded f g.top) site.entry [] d) (done_so value)
    -- by what it may be left
    pub may_leave : (s : stored.State) (l : paths.Leave) → (m.does s).end ≡ Err (stored.Left l) → may l

-- what is told of a construct's end
abbrev pub JoinTells : (may : paths.Leave → Type 0) → {B : Type 0} → (B → List ℤ → Type 0) → Result B Cause → Result Gave Stop → Type 0
JoinTells may shows (Ok b) h = (vs : List ℤ) × (h ≡ Ok (gave.Numbers vs)) × shows b vs
JoinTells may shows (Err (stored.Left l)) h = (h ≡ Ok (gave.Left (machine_leave l))) × may l
JoinTells may shows (Err OutOfTurns) h = h ≡ Err Spent
JoinTells may shows (Err CutOff) h = h ≡ Err Cut
JoinTells may shows (Err NoRoom) h = Unit {0}
JoinTells may shows (Err Misnoted) h = h ≡ Err Astray

-- with enough steps it comes to that
pub record Reach (g : Ghost) (F : ℕ → Option Forked) (turns : ℕ) (t : stored.State) (tells : Result Gave Stop → Type 0) : Type 0 where
  pub forked : Forked
  pub steps : ℕ
  pub is : (m : ℕ) → steps ≤ m → F m ≡ Some forked
  pub told : tells forked.how
  pub fit : Fit g t forked.dyn
  pub grows : turns ≤ t.turns

-- but where the tables are full
abbrev pub Reaches : (may : paths.Leave → Type 0) → {B : Type 0} → (B → List ℤ → Type 0) → Ghost → (ℕ → Option Forked) → ℕ → stored.State → Result B Cause → Type 0
Reaches may shows g F turns t (Err NoRoom) = Unit {0}
Reaches may shows g F turns t (Ok b) = Reach g F turns t (JoinTells may shows (Ok b))
Reaches may {B} shows g F turns t (Err (stored.Left l)) = Reach g F turns t (JoinTells may {B = B} shows (Err (stored.Left l)))
Reaches may {B} shows g F turns t (Err OutOfTurns) = Reach g F turns t (JoinTells may {B = B} shows (Err OutOfTurns))
Reaches may {B} shows g F turns t (Err CutOff) = Reach g F turns t (JoinTells may {B = B} shows (Err CutOff))
Reaches may {B} shows g F turns t (Err Misnoted) = (t.notes ≡ InOrder → ⊥) × Reach g F turns t (JoinTells may {B = B} shows (Err Misnoted))
