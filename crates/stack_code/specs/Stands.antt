-- A path that stands in valid code: it has the operands and the constructs begun that its spot tells, and so have the bodies
-- that wait for their calls.
use Rattle.std.specs.Prelude.{◌≡◌, ℕ, suc, ◌+◌, ◌-◌, ◌*◌, ◌<◌, ◌≤◌, ◌⊎◌, ℤ, List, [], ◌∷◌, length, drop, Option, Some, None, IsSome, slice_get}
use Rattle.ada_base.specs.declared.reason.Reason.{Reason}
use Rattle.stack_code.specs.declared.code.Around.{Around}
use Rattle.stack_code.specs.declared.code.Around.TheVariants.{Sub, Site}
use Rattle.stack_code.specs.declared.code.Code.{Code}
use Rattle.stack_code.specs.declared.code.Spot.{Spot}
use Rattle.stack_code.specs.declared.code.Unwind.{Unwind}
use Rattle.stack_code.specs.declared.instr.Instr.{Instr}
use Rattle.stack_code.specs.declared.instr.Instr.TheVariants.{Call, CallAt, CallTo, Combine, Fork, Turn, Repeat}
use Rattle.stack_code.specs.declared.path.Round.{Round}
use Rattle.stack_code.specs.declared.flow.Flow.{Flow}
use Rattle.stack_code.specs.declared.flow.Flow.TheVariants.{On, To, Branch, Back, Round as RoundTo, Ends}
use Rattle.stack_code.specs.Operands.{takes, flow_of}
use Rattle.stack_code.specs.Valid.{Holds, outward}
use Rattle.stack_code.specs.Machine.{Frame, State, Went, Goes, Stops, Asks, Constructs, Astray}

-- a body that no call began
abbrev pub IsOuter : Around → Type 0
IsOuter (Sub k) = k ≡ 0
IsOuter (Site k) = Unit {0}

-- the frames outward are there
abbrev pub Sees : Code → Around → List ℕ → Type 0
Sees c b frames = (k : ℕ) → IsSome (outward c (Some b) k) → k ≤ length frames

-- a call of the subprogram, after which the next instruction follows or the one that it names, or one that comes back to
-- itself
abbrev pub IsCall : Instr → ℕ → Frame → Type 0
IsCall (Call k) sub f = (k ≡ sub) × (f.to ≡ f.at + 1)
IsCall (CallAt k n) sub f = (k ≡ sub) × (f.to ≡ f.at + 1)
IsCall (CallTo k n to) sub f = (k ≡ sub) × (f.to ≡ to)
IsCall (Combine k) sub f = (k ≡ sub) × (f.to ≡ f.at)
IsCall i sub f = ⊥

-- a body waits for a call of that subprogram, whose operands stand above so many; the constructs begun by all bodies
-- that wait are so many
pub record Waits (c : Code) (sub floor nested : ℕ) (f : Frame) (spot : Spot) : Type 0 where
  pub at : slice_get c.spots f.at ≡ Some spot
  pub instr : Instr
  pub here : slice_get c.instrs f.at ≡ Some instr
  pub call : IsCall instr sub f
  pub height : f.floor + spot.stack ≡ floor + takes c instr
  pub nest : spot.nest ≡ f.nest
  pub within : f.nest ≤ nested

pub record Called (c : Code) (body : Around) (floor nested : ℕ) (f : Frame) (spot : Spot) : Type 0 where
  pub sub : ℕ
  pub callee : body ≡ Sub sub
  pub later : 0 < sub
  pub waits : Waits c sub floor nested f spot

-- the lowest body is the one in which the path began
abbrev pub Chain : Code → (low : Around) → List Frame → Around → (floor nested : ℕ) → List ℕ → Type 0
Chain c low [] body floor nested frames = (body ≡ low) × IsOuter body × Sees c body frames × (floor ≡ 0)
Chain c low (f ∷ fs) body floor nested frames = (spot : Spot) × Called c body floor nested f spot × Chain c low fs spot.body f.floor (nested - f.nest) frames

-- the height of the stack; where an exception is raised, the instruction has taken no more than its operands
abbrev pub Height : Code → Option Reason → (pc floor spot height : ℕ) → Type 0
Height c None pc floor spot height = height ≡ floor + spot
Height c (Some r) pc floor spot height = (i : Instr) × (slice_get c.instrs pc ≡ Some i) × (floor + spot ≤ height + takes c i)

pub record StandsIn (c : Code) (low : Around) (pc : ℕ) (stack : List ℤ) (floor nest nested : ℕ) (raising : Option Reason) (waiting : List Frame) (frames : List ℕ) : Type 0 where
  pub spot : Spot
  pub at : slice_get c.spots pc ≡ Some spot
  pub height : Height c raising pc floor spot.stack (length stack)
  pub begun : spot.nest ≡ nest
  pub within : nest ≤ nested
  pub chain : Chain c low waiting spot.body floor (nested - nest) frames

abbrev pub Stands : Code → Around → State → Type 0
Stands c low s = StandsIn c low s.pc s.stack s.floor s.nest s.nested s.raising s.waiting s.outward

-- a path that waits for the answer of a construct, whose operands it has taken
pub record Forked (c : Code) (low : Around) (site : ℕ) (s : State) : Type 0 where
  pub spot : Spot
  pub at : slice_get c.spots s.pc ≡ Some spot
  pub here : slice_get c.instrs s.pc ≡ Some (Fork site)
  pub height : length s.stack + takes c (Fork site) ≡ s.floor + spot.stack
  pub calm : s.raising ≡ None
  pub nest : spot.nest ≡ s.nest
  pub within : s.nest ≤ s.nested
  pub chain : Chain c low s.waiting spot.body s.floor (s.nested - s.nest) s.outward

-- what one step of a path that stands leads to
abbrev pub Keeps : Code → Around → Went → Type 0
Keeps c low (Goes s) = Stands c low s
Keeps c low (Stops (Constructs q) s) = Forked c low q.site s
Keeps c low (Stops (Asks io) s) = Stands c low s
Keeps c low (Stops Astray s) = ⊥
Keeps c low (Stops _ s) = Unit {0}

-- ---- what falls at each step

-- an instruction that a jump leads to; a call that comes back is none, for there is one call less that waits then, nor is
-- another round, for there is one less that follows
abbrev pub IsTarget : Flow → ℕ → Type 0
IsTarget On t = ⊥
IsTarget (To u) t = t ≡ u
IsTarget (Branch u) t = t ≡ u
IsTarget (Back u) t = ⊥
IsTarget (RoundTo u) t = ⊥
IsTarget Ends t = ⊥

-- a jump leads forward, or to a turn, and an unwind entry to an instruction after those that it holds
pub record IsForward (c : Code) : Type 0 where
  pub jumps : (at : ℕ) (i : Instr) (t : ℕ) → slice_get c.instrs at ≡ Some i → IsTarget (flow_of i) t → (at < t) ⊎ (slice_get c.instrs t ≡ Some Turn)
  pub handlers : (k : ℕ) (u : Unwind) (at : ℕ) → slice_get c.unwind k ≡ Some u → Holds u at → at < u.handler

-- how far an instruction stands from a turn, at most
abbrev pub wait : Option Instr → ℕ → ℕ
wait (Some Turn) n = 0
wait o n = n

-- how many instructions are done at most from a list's beginning to its end, where all jumps lead forward: a part that is
-- repeated costs no more than all that follows, so many times
abbrev pub cost : List Instr → ℕ
cost [] = 0
cost (Repeat n ∷ is) = suc (cost is + (n - 1) * cost is)
cost (i ∷ is) = suc (cost is)

-- from an instruction on
abbrev pub cost_from : Code → ℕ → ℕ
cost_from c pc = cost (drop pc c.instrs)

-- the rounds that follow of the parts that are repeated
abbrev pub cost_of_rounds : Code → List Round → ℕ
cost_of_rounds c [] = 0
cost_of_rounds c (r ∷ rs) = r.more * (2 * cost_from c r.head) + cost_of_rounds c rs

-- also in the bodies that wait
abbrev pub cost_of_waiting : Code → List Frame → ℕ
cost_of_waiting c [] = 0
cost_of_waiting c (f ∷ fs) = cost_of_rounds c f.rounds + cost_of_waiting c fs

-- the way to the end of the code, or to a turn
abbrev pub way : Code → Option Reason → ℕ → ℕ
way c None pc = 2 * (wait (slice_get c.instrs pc) (cost c.instrs + 1) + cost_from c pc) + 1
way c (Some r) pc = 2 * (cost c.instrs + 1 + cost_from c pc)

-- the turns that are left twice, and the calls that wait; then the way, and what rounds cost that follow
abbrev pub rank : Code → ℕ → State → ℕ
rank c limit s = (2 * (limit - s.turns) + length s.waiting) * (4 * cost c.instrs + 4) + way c s.raising s.pc + (cost_of_rounds c s.rounds + cost_of_waiting c s.waiting)

abbrev pub Falls : Code → ℕ → ℕ → Went → Type 0
Falls c limit r (Goes s) = (rank c limit s < r) × (s.turns ≤ limit)
Falls c limit r (Stops x s) = s.turns ≤ limit
