-- What a machine that ran on a view came to, with the constructs in it run in order.
use Rattle.std.specs.Prelude.{◌≡◌, ℕ, ◌≤◌, Bool, false, ℤ, List, [], ◌++◌, take, length, slice_get, Option, Some, None, Result, Ok, Err}
use Rattle.ada_base.specs.Cells.{Cell}
use Rattle.ada_base.specs.Cuts.{Plan}
use Rattle.behaviours.specs.Joins.{Share, deal}
use Rattle.stack_code.specs.declared.code.Around.TheVariants.{Site}
use Rattle.stack_code.specs.declared.code.Code.{Code}
use Rattle.stack_code.specs.declared.code.CodeSite.{CodeSite}
use Rattle.stack_code.specs.declared.path.Asked.{Asked}
use Rattle.stack_code.specs.declared.path.Gave.{Gave}
use Rattle.stack_code.specs.declared.path.Gave.TheVariants as gave
use Rattle.stack_code.specs.Answers.{IsAnswer}
use Rattle.stack_code.specs.Machine.{State, Stop, Done, Left, Spent, Cut, begun, resumed}
use Rattle.stack_code.specs.Operands.{is_reduction}
use Rattle.stack_code.specs.Stands.{Stands}
use Rattle.stack_code.specs.Tops.{IsTopped}
use Rattle.ada_lower.specs.Driven.{Dyn, Path, Step, On, Forks, Forked, thread_cells}
use Rattle.ada_machine.specs.States.{Ready, state_of, frames_of, more}
use Rattle.ada_machine.specs.declared.machine.Machine.{Machine}
use Rattle.machine_paths.specs.Hushed.{LeavesWell}
use Rattle.machine_paths.specs.Silent.{Quietly, Leads, Orders}
use Rattle.machine_paths.specs.Threads.{ThreadPath, quiet, starts}
use Rattle.ada_threads.specs.Going.{ahead, stands, final, clipped, IsFine, FineHow}
use Rattle.ada_threads.specs.declared.way.Way.{Way}
use Rattle.ada_threads.specs.declared.way.Way.TheVariants as way
use Rattle.ada_threads.specs.declared.way.End.{End}
use Rattle.ada_threads.specs.declared.way.End.TheVariants as end
use Rattle.ada_threads.specs.declared.way.Ran.{Ran}
use Rattle.ada_threads.specs.declared.way.Joined.{Joined}
use Rattle.ada_threads.specs.declared.tally.Tally.{Tally}

-- what it comes to after k looks, whether more follow or not; or what it comes to where k looks are all
abbrev pub CameTo : ℕ → Code → Plan → (Option ℕ → Step) → Way → (k : ℕ) → List Cell → (turns : ℕ) → Type 0
CameTo limit c plan x (way.Done v) k ds n = (l : Option ℕ) → Quietly limit c (x (ahead k l)) (final plan (Done v) ds n l)
CameTo limit c plan x (way.Left e) k ds n = (l : Option ℕ) → Quietly limit c (x (ahead k l)) (final plan (Left e) ds n l)
CameTo limit c plan x way.Spent k ds n = (l : Option ℕ) → Quietly limit c (x (ahead k l)) (final plan Spent ds n l)
CameTo limit c plan x way.Paused k ds n = Quietly limit c (x (Some k)) (final plan Cut ds n (Some 0))
CameTo limit c plan x way.NoMemory k ds n = Unit {0}

-- of a reduction's thread it left by a raise, if it left
abbrev pub WayWell : Bool → Way → Type 0
WayWell reduces (way.Left e) = LeavesWell reduces e
WayWell reduces w = Unit {0}

abbrev pub NotLeft : Way → Type 0
NotLeft (way.Left e) = ⊥
NotLeft w = Unit {0}

-- a machine that is ready, and whose path comes to an end that isn't stuck
pub record IsSet (limit : ℕ) (c : Code) (plan : Plan) (m : Machine) (cells : List Cell) : Type 0 where
  pub ready : Ready c m cells
  pub within : m.turns ≤ limit
  pub fine : IsFine limit c (On (stands plan (state_of m cells) None))

-- what each of two states of one path keeps of the other
pub record Follows (c : Code) (s t : State) : Type 0 where
  pub tops : (low : ℕ) → IsTopped low s → IsTopped low t
  pub body : (k : ℕ) → Stands c (Site k) s → Stands c (Site k) t

-- the path came so far
pub record Led (limit : ℕ) (c : Code) (plan : Plan) (m : Machine) (cells : List Cell) (m' : Machine) (cells' : List Cell) : Type 0 where
  pub looks : ℕ
  pub counted : m'.looks ≡ more m.looks looks
  pub leads : (l : Option ℕ) → Leads limit c (On (stands plan (state_of m cells) (ahead looks l))) (On (stands plan (state_of m' cells') l))
  pub follows : Follows c (state_of m cells) (state_of m' cells')

-- it came to its end
pub record Came (limit : ℕ) (c : Code) (plan : Plan) (w : Way) (m : Machine) (cells : List Cell) (m' : Machine) (cells' : List Cell) : Type 0 where
  pub looks : ℕ
  pub counted : m'.looks ≡ more m.looks looks
  pub to : CameTo limit c plan (λ l. On (stands plan (state_of m cells) l)) w looks (clipped (frames_of m'.waiting.items) cells') m'.turns
  pub tops : (low : ℕ) → IsTopped low (state_of m cells) → IsTopped low (state_of m' cells')
  pub well : (k : ℕ) (site : CodeSite) → slice_get c.sites k ≡ Some site → Stands c (Site k) (state_of m cells) → WayWell (is_reduction site.kind) w
  pub within : m'.turns ≤ limit

-- ---- a construct inside

abbrev pub at_fork : Plan → Asked → State → Option ℕ → Step
at_fork plan q s = λ l. Forks q (stands plan s l)

-- the path that stood at the fork goes on with an answer, or came to its end
abbrev pub ForkedTo : ℕ → Code → Plan → Asked → Result Gave Way → (k : ℕ) → (m : Machine) → List Cell → (m' : Machine) → List Cell → Type 0
ForkedTo limit c plan q (Ok g) k m cells m' cells' =
    ((l : Option ℕ) → Leads limit c (at_fork plan q (state_of m cells) (ahead k l)) (On (stands plan (resumed c g (state_of m' cells')) l)))
    × IsFine limit c (On (stands plan (resumed c g (state_of m' cells')) None)) × IsAnswer c (slice_get c.instrs m.pc) g
ForkedTo limit c plan q (Err w) k m cells m' cells' = NotLeft w × CameTo limit c plan (at_fork plan q (state_of m cells)) w k (clipped (frames_of m'.waiting.items) cells') m'.turns

pub record ForkRan (limit : ℕ) (c : Code) (plan : Plan) (q : Asked) (r : Result Gave Way) (m : Machine) (cells : List Cell) (m' : Machine) (cells' : List Cell) : Type 0 where
  pub looks : ℕ
  pub counted : m'.looks ≡ more m.looks looks
  pub machine : m' ≡ record m { turns = m'.turns; looks = m'.looks }
  pub long : length cells' ≡ length cells
  pub within : m'.turns ≤ limit
  pub to : ForkedTo limit c plan q r looks m cells m' cells'

-- ---- threads in order, each a run of one path

-- a thread as it begins, on a memory and with so many looks left
abbrev pub begins : ThreadPath → (frame : ℕ) → Asked → Dyn → Share → Path
begins p frame q = λ d j. record { state = begun p.entry p.base p.outward d.turns p.calls p.nested d.left (d.cells ++ thread_cells frame q j); world = d.world }

abbrev pub dyn : Plan → List Cell → (turns : ℕ) → Option ℕ → Dyn
dyn plan cells n l = record { cells = cells; turns = n; left = l; world = quiet plan }

abbrev pub joined : Plan → List Cell → (turns : ℕ) → Result Gave Stop → Option ℕ → Forked
joined plan cells n how l = record { dyn = dyn plan cells n l; how = how }

abbrev pub EndTo : Plan → (Option ℕ → Forked → Type 0) → End → (k : ℕ) → List Cell → (turns : ℕ) → Type 0
EndTo plan X (end.Values vs) k ds n = (l : Option ℕ) → X (ahead k l) (joined plan ds n (Ok (gave.Numbers vs)) l)
EndTo plan X (end.Left e) k ds n = (l : Option ℕ) → X (ahead k l) (joined plan ds n (Ok (gave.Left e)) l)
EndTo plan X end.Spent k ds n = (l : Option ℕ) → X (ahead k l) (joined plan ds n (Err Spent) l)
EndTo plan X end.Paused k ds n = X (Some k) (joined plan ds n (Err Cut) (Some 0))
EndTo plan X end.NoMemory k ds n = Unit {0}

abbrev pub EndWell : Bool → End → Type 0
EndWell reduces (end.Left e) = LeavesWell reduces e
EndWell reduces x = Unit {0}

module _ (p : ThreadPath) where
  -- what is said of a thread of the construct in which this path begins
  abbrev pub OfBody : (Bool → Type 0) → Type 0
  OfBody P = (k : ℕ) (site : CodeSite) → slice_get p.code.sites k ≡ Some site → Stands p.code (Site k) (begun p.entry p.base p.outward p.turns p.calls p.nested None []) → P (is_reduction site.kind)

  -- the body ran on these cells, and left those
  pub record BodyRan (r : Ran) (cells cells' : List Cell) : Type 0 where
    pub looks : ℕ
    pub counted : r.looks ≡ more 0 looks
    pub to : CameTo p.limit p.code p.plan (λ l. On (starts p l cells)) r.way looks cells' r.turns
    pub well : OfBody (λ b. WayWell b r.way)
    pub within : r.turns ≤ p.limit
    pub long : length cells ≤ length cells'

  module _ (frame : ℕ) (q : Asked) where
    abbrev pub thread : Share → List Cell → Option ℕ → Step
    thread j cells = λ l. On (begins p frame q (dyn p.plan cells p.turns l) j)

    -- a thread ran with its frame behind these cells
    pub record ThreadRan (j : Share) (r : Ran) (cells cells' : List Cell) : Type 0 where
      pub looks : ℕ
      pub counted : r.looks ≡ more 0 looks
      pub left : List Cell
      pub to : CameTo p.limit p.code p.plan (thread j cells) r.way looks left r.turns
      pub well : OfBody (λ b. WayWell b r.way)
      pub within : r.turns ≤ p.limit
      pub cut : cells' ≡ take (length cells) left
      pub long : length cells' ≡ length cells

    abbrev pub Order : List Share → Dyn → (most : ℕ) → (over : Bool) → List ℤ → Forked → Type 0
    Order js d most over us r = Orders p.limit p.code (begins p frame q) p.base p.turns js d most over us r

    -- they come to something that isn't stuck
    abbrev pub IsFineOrder : List Share → Dyn → (most : ℕ) → (over : Bool) → List ℤ → Type 0
    IsFineOrder js d most over us = (r : Forked) × Order js d most over us r × FineHow r.how

    pub record OrderRan (js : List Share) (r : Joined) (cells cells' : List Cell) : Type 0 where
      pub looks : ℕ
      pub counted : r.looks ≡ more 0 looks
      pub to : EndTo p.plan (λ l x. Order js (dyn p.plan cells p.turns l) p.turns false [] x) r.end looks cells' r.turns
      pub well : OfBody (λ b. EndWell b r.end)
      pub within : r.turns ≤ p.limit
      pub long : length cells' ≡ length cells

-- threads in order came so far: those that are left come to what all come to
module _ (p : ThreadPath) (frame : ℕ) (q : Asked) (sizes : List ℕ) (cells0 : List Cell) where
  pub record OrderLed (rest : List ℕ) (t : Tally) (cells : List Cell) : Type 0 where
    pub looks : ℕ
    pub counted : t.looks ≡ more 0 looks
    pub turns : ℕ
    pub leads : (l : Option ℕ) (r : Forked) → Order p frame q (deal t.number t.first rest) (dyn p.plan cells turns l) t.turns t.over t.values r
        → Order p frame q (deal 0 0 sizes) (dyn p.plan cells0 p.turns (ahead looks l)) p.turns false [] r
    pub fine : IsFineOrder p frame q (deal t.number t.first rest) (dyn p.plan cells turns None) t.turns t.over t.values
    pub within : t.turns ≤ p.limit
    pub long : length cells ≡ length cells0
