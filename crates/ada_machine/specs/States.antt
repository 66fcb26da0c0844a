-- The state that a machine is in, and what a machine that is ready has.
use Rattle.std.specs.Prelude.{◌⊎◌, ◌≡◌, ℕ, zero, suc, ◌+◌, ◌-◌, ◌^◌, min, ◌<◌, ◌≤◌, ℤ, List, [], ◌∷◌, map, reverse, Option, Some, None, slice_get, slice_index, EachIndex, vec_capacity, true}
use Rattle.stack_code.specs.declared.code.Around.{Around}
use Rattle.stack_code.specs.declared.code.Code.{Code}
use Rattle.stack_code.specs.declared.code.CodeSub.{CodeSub}
use Rattle.stack_code.specs.declared.code.Spot.{Spot}
use Rattle.stack_code.specs.declared.instr.Instr.{Instr}
use Rattle.stack_code.specs.declared.instr.Instr.TheVariants.{Call, CallAt, CallTo, Combine, Repeat, Words, Img, UImg, Bool, Wide, Send, SendLn}
use Rattle.stack_code.specs.Operands.{takes}
use Rattle.stack_code.specs.Valid.{Has, HasStack, IsValid}
use Rattle.ada_base.specs.Cells.{Cell}
use Rattle.ada_base.specs.declared.reason.Reason.TheVariants.{StorageError}
use Rattle.stack_code.specs.declared.path.Asked.{Asked}
use Rattle.stack_code.specs.declared.path.Gave.{Gave}
use Rattle.stack_code.specs.declared.path.Gave.TheVariants as gave
use Rattle.stack_code.specs.declared.path.Leave.TheVariants.{Raise}
use Rattle.stack_code.specs.Deeds.{Deed, Fails, Forks, truth}
use Rattle.stack_code.specs.Machine as spec
use Rattle.stack_code.specs.Machine.{Frame, State, Comes, Comes_to}
use Rattle.stack_code.specs.Answers.{IsIo}
use Rattle.stack_code.specs.Looks.{counting, Looks, Looks_to}
use Rattle.stack_code.specs.Runs.{IsAtLook}
use Rattle.stack_code.specs.Stands.{IsCall, IsForward, Stands, Forked, rank}
use Rattle.leave_board.specs.Halts.{Heeds}
use Rattle.std.specs.declared.boxed.Box.{Box}
use Rattle.std.specs.declared.alloc.Global.{Global}
use Rattle.stack_code.specs.declared.path.Round.{Round}
use Rattle.ada_machine.specs.declared.machine.Aside.{Aside}
use Rattle.ada_machine.specs.declared.machine.Machine.{Machine}
use Rattle.ada_machine.specs.declared.machine.Waiting.{Waiting}
use Rattle.stack_code.specs.declared.code.Around.TheVariants.{Sub, Site}
use Rattle.ada_machine.specs.declared.calls.Entry.{Entry}
use Rattle.ada_machine.specs.declared.starting.Begin.{Begin}
use Rattle.ada_machine.specs.declared.machine.Stop.{Stop}
use Rattle.ada_machine.specs.declared.machine.Stop.TheVariants as stop
use Rattle.ada_machine.specs.declared.machine.Went.{Went}
use Rattle.ada_machine.specs.declared.machine.Went.TheVariants as went
use Rattle.ada_machine.specs.Played.{Strays}

-- what a body that waits set aside
abbrev pub kept_of : Option (Box Aside Global) → List ℤ
kept_of None = []
kept_of (Some a) = reverse a.value.kept.items

abbrev pub rounds_of : Option (Box Aside Global) → List Round
rounds_of None = []
rounds_of (Some a) = reverse a.value.rounds.items

abbrev pub IsEmpty : Aside → Type 0
IsEmpty a = (a.kept.items ≡ []) × (a.rounds.items ≡ [])

-- memory for them, or there is nothing to set aside
abbrev pub IsRoomFor : Option (Box Aside Global) → List ℤ → List Round → Type 0
IsRoomFor None kept rounds = (kept ≡ []) × (rounds ≡ [])
IsRoomFor (Some a) kept rounds = IsEmpty a.value

abbrev pub frame_of : Waiting → Frame
frame_of w = record { at = w.at; to = w.to; floor = w.floor; base = w.base; nest = w.nest; kept = kept_of w.aside; rounds = rounds_of w.aside; top = w.top }

abbrev pub frames_of : List Waiting → List Frame
frames_of ws = map frame_of (reverse ws)

-- a machine doesn't count its looks
abbrev pub state_of : Machine → List Cell → State
state_of m cells = record {
  pc = m.pc;
  stack = reverse m.stack.items;
  floor = m.floor;
  nest = m.nest;
  kept = reverse m.kept.items;
  rounds = reverse m.rounds.items;
  base = m.base;
  outward = m.outward.items;
  waiting = frames_of m.waiting.items;
  calls = m.calls;
  nested = m.nested;
  turns = m.turns;
  left = None;
  line = m.line;
  raising = m.raising;
  cells = cells;
}

-- a body begins there, and the own one waits
abbrev pub begins : CodeSub → Entry → State → State
begins f e s = record s {
  pc = f.entry;
  floor = e.floor;
  nest = 0;
  kept = [];
  rounds = [];
  base = e.base;
  waiting = record { at = s.pc; to = e.to; floor = s.floor; base = s.base; nest = s.nest; kept = s.kept; rounds = s.rounds; top = e.top } ∷ s.waiting;
  calls = s.calls + 1;
  turns = s.turns + 1;
}

-- ---- room

-- a body that was called has room for the greatest height of its operands
pub record CalleeRoom (c : Code) (room : ℕ) (f : Frame) : Type 0 where
  pub sub : ℕ
  pub instr : Instr
  pub spot : Spot
  pub here : slice_get c.instrs f.at ≡ Some instr
  pub at : slice_get c.spots f.at ≡ Some spot
  pub call : IsCall instr sub f
  pub within : Has c.subs sub (λ s. f.floor + spot.stack + s.stack ≤ room + takes c instr)

abbrev pub HasRoom : Code → Around → ℕ → List Frame → Type 0
HasRoom c low room [] = HasStack c low (λ most. most ≤ room)
HasRoom c low room (f ∷ fs) = CalleeRoom c room f × HasRoom c low room fs

-- frames that begin where addresses of their cells are numbers of 64 bits
abbrev pub AreNear : List Frame → Type 0
AreNear [] = Unit {0}
AreNear (f ∷ fs) = (f.base ≤ 2 ^ 62) × AreNear fs

pub record Roomy (c : Code) (low : Around) (room base : ℕ) (waiting : List Frame) (outward : List ℕ) : Type 0 where
  pub bodies : HasRoom c low room waiting
  pub near : base ≤ 2 ^ 62
  pub callers : AreNear waiting
  pub frames : EachIndex outward (λ k. slice_index outward k ≤ 2 ^ 62)

abbrev pub IsRoomy : Code → Around → Machine → Type 0
IsRoomy c low m = Roomy c low (vec_capacity m.stack) m.base (frames_of m.waiting.items) m.outward.items

-- the code is valid and forward, the machine stands in it, and it has room for the operands of each of its bodies
pub record Ready (c : Code) (m : Machine) (cells : List Cell) : Type 0 where
  pub valid : IsValid c
  pub forward : IsForward c
  pub low : Around
  pub stands : Stands c low (state_of m cells)
  pub roomy : IsRoomy c low m

-- ---- what a machine came to

abbrev pub IsMore : List ℤ → Type 0
IsMore [] = ⊥
IsMore (v ∷ vs) = Unit {0}

abbrev pub IsTrueOnTop : List ℤ → Type 0
IsTrueOnTop [] = ⊥
IsTrueOnTop (x ∷ st) = truth x ≡ true

-- the instructions that may want memory: a call or a repeated part that begins, and what adds to a line or sends it
abbrev pub Allocates : Instr → State → Type 0
Allocates (Call sub) q = q.calls < 1000
Allocates (CallAt sub n) q = q.calls < 1000
Allocates (CallTo sub n to) q = IsTrueOnTop q.stack × (q.calls < 1000)
Allocates (Combine sub) q = IsMore q.kept × (q.calls < 1000)
Allocates (Repeat rounds) q = Unit {0}
Allocates (Words text) q = Unit {0}
Allocates Img q = Unit {0}
Allocates UImg q = Unit {0}
Allocates Bool q = Unit {0}
Allocates (Wide width) q = Unit {0}
Allocates Send q = Unit {0}
Allocates SendLn q = Unit {0}
Allocates i q = ⊥

-- the instruction wants memory, or it raises again an exception of no number of 32 bits, which no code declares
abbrev pub Wants : Code → State → Type 0
Wants c q = (q.raising ≡ None) × (i : Instr) × (slice_get c.instrs q.pc ≡ Some i)
    × (Allocates i q ⊎ Strays i q.stack)

-- a count that stands still at the greatest number of 64 bits
abbrev pub more : ℕ → ℕ → ℕ
more n zero = n
more n (suc k) = min (n + suc k) (2 ^ 64 - 1)

-- the looks of one step: none, where it isn't taken
abbrev pub LooksBy : Went → (old new k : ℕ) → Type 0
LooksBy (went.Stopped stop.Paused) old new k = new ≡ old
LooksBy (went.Stopped stop.NoMemory) old new k = new ≡ old
LooksBy w old new k = new ≡ more old k

-- where it didn't pause, who is told at the end was told at the start, and no look was passed since
abbrev pub HeedsAt : Stop → (told told' : Type 0) (looks looks' : ℕ) → Type 0
HeedsAt stop.Paused told told' looks looks' = Unit {0}
HeedsAt s told told' looks looks' = Heeds told told' looks looks'

abbrev pub HeedsBy : Went → (told told' : Type 0) (looks looks' : ℕ) → Type 0
HeedsBy (went.Stopped s) told told' looks looks' = HeedsAt s told told' looks looks'
HeedsBy w told told' looks looks' = Heeds told told' looks looks'

abbrev pub HeedsThen : Option Stop → (told told' : Type 0) (looks looks' : ℕ) → Type 0
HeedsThen None told told' looks looks' = Heeds told told' looks looks'
HeedsThen (Some s) told told' looks looks' = HeedsAt s told told' looks looks'

module _ (limit : ℕ) (c : Code) where
  abbrev pub StopsAt : Stop → State → State → Type 0
  StopsAt (stop.Done v) p q = Comes_to limit c p (spec.Done v) q
  StopsAt (stop.Left l) p q = Comes_to limit c p (spec.Left l) q
  StopsAt (stop.Construct a) p q = Comes_to limit c p (spec.Constructs a) q
  StopsAt (stop.Ask io) p q = Comes_to limit c p (spec.Asks io) q
  StopsAt stop.Spent p q = Comes_to limit c p spec.Spent q
  StopsAt stop.Paused p q = Comes limit c p q × IsAtLook limit c q
  StopsAt stop.NoMemory p q = Comes limit c p q × Wants c q

  -- one step at which it stops, or before which it pauses or wants memory
  abbrev pub EndsAt : Stop → State → State → Type 0
  EndsAt (stop.Done v) p q = spec.step limit c p ≡ spec.Stops (spec.Done v) q
  EndsAt (stop.Left l) p q = spec.step limit c p ≡ spec.Stops (spec.Left l) q
  EndsAt (stop.Construct a) p q = spec.step limit c p ≡ spec.Stops (spec.Constructs a) q
  EndsAt (stop.Ask io) p q = spec.step limit c p ≡ spec.Stops (spec.Asks io) q
  EndsAt stop.Spent p q = spec.step limit c p ≡ spec.Stops spec.Spent q
  EndsAt stop.Paused p q = (q ≡ p) × IsAtLook limit c p
  EndsAt stop.NoMemory p q = (q ≡ p) × Wants c p

  -- one step
  abbrev pub GoesTo : Went → State → State → Type 0
  GoesTo went.On p q = (spec.step limit c p ≡ spec.Goes q) × (q.raising ≡ None)
  GoesTo went.Raising p q = spec.step limit c p ≡ spec.Goes q
  GoesTo (went.Stopped s) p q = EndsAt s p q

  -- where it stopped with its looks counted: so many taken, and as many left as there were more
  abbrev pub CountsTo : Stop → ℕ → State → State → Type 0
  CountsTo (stop.Done v) n p q = Looks_to limit c n p (spec.Done v) q
  CountsTo (stop.Left l) n p q = Looks_to limit c n p (spec.Left l) q
  CountsTo (stop.Construct a) n p q = Looks_to limit c n p (spec.Constructs a) q
  CountsTo (stop.Ask io) n p q = Looks_to limit c n p (spec.Asks io) q
  CountsTo stop.Spent n p q = Looks_to limit c n p spec.Spent q
  CountsTo stop.Paused n p q = Looks limit c n p q × Comes_to limit c (counting n p) spec.Cut (counting 0 q)
  CountsTo stop.NoMemory n p q = Looks limit c n p q

  -- so many looks were taken, and counted
  abbrev pub TookLooks : Stop → (old new : ℕ) → State → State → Type 0
  TookLooks s old new p q = (n : ℕ) × (new ≡ more old n) × CountsTo s n p q

  abbrev pub Unlooked : Option Stop → (old new : ℕ) → State → State → Type 0
  Unlooked None old new p q = (n : ℕ) × (new ≡ more old n) × Looks limit c n p q
  Unlooked (Some s) old new p q = TookLooks s old new p q

-- a machine that waits for the answer of a construct, or of output or input
pub record Awaits (c : Code) (m : Machine) : Type 0 where
  pub valid : IsValid c
  pub forward : IsForward c
  pub low : Around
  pub asks : ((site : ℕ) × Forked c low site (state_of m [])) ⊎ (Stands c low (state_of m []) × (m.raising ≡ None) × IsIo (slice_get c.instrs m.pc))
  pub roomy : IsRoomy c low m

-- what it is ready for then
abbrev pub ReadyAfter : Stop → Code → Machine → List Cell → Type 0
ReadyAfter (stop.Construct a) c m cells = Awaits c m
ReadyAfter (stop.Ask io) c m cells = Awaits c m
ReadyAfter stop.Paused c m cells = Ready c m cells
ReadyAfter stop.NoMemory c m cells = Ready c m cells
ReadyAfter _ c m cells = Unit {0}

abbrev pub ReadyNext : Went → Code → Machine → List Cell → Type 0
ReadyNext went.On c m cells = Ready c m cells
ReadyNext went.Raising c m cells = Ready c m cells
ReadyNext (went.Stopped s) c m cells = ReadyAfter s c m cells

-- a fork's operands are taken off: it asks, or the deed is a raise
abbrev pub Forking : Deed → Option Asked → List ℤ → Type 0
Forking d (Some a) st = d ≡ Forks a st
Forking d None st = d ≡ Fails StorageError st

-- the rank falls where it goes on
abbrev pub Falling : Went → ℕ → ℕ → Type 0
Falling went.On r' r = r' < r
Falling went.Raising r' r = r' < r
Falling (went.Stopped s) r' r = Unit {0}

-- what one instruction of a machine that is ready comes to, or one step of a raise
pub record Steps (limit : ℕ) (c : Code) (w : Went) (m : Machine) (cells : List Cell) (m' : Machine) (cells' : List Cell) : Type 0 where
  pub goes : GoesTo limit c w (state_of m cells) (state_of m' cells')
  pub ready : ReadyNext w c m' cells'
  pub within : m'.turns ≤ limit
  pub falls : Falling w (rank c limit (state_of m' cells')) (rank c limit (state_of m cells))

-- no exception is being raised any more, or it stopped
abbrev pub UnwindsTo : ℕ → Code → Option Stop → State → State → Type 0
UnwindsTo limit c None p q = Comes limit c p q × (q.raising ≡ None)
UnwindsTo limit c (Some s) p q = StopsAt limit c s p q

abbrev pub ReadyThen : Option Stop → Code → Machine → List Cell → Type 0
ReadyThen None c m cells = Ready c m cells
ReadyThen (Some s) c m cells = ReadyAfter s c m cells

abbrev pub FallingThen : Option Stop → ℕ → ℕ → Type 0
FallingThen None r' r = r' ≤ r
FallingThen (Some s) r' r = Unit {0}

pub record Unwinds (limit : ℕ) (c : Code) (r : Option Stop) (m : Machine) (cells : List Cell) (m' : Machine) (cells' : List Cell) : Type 0 where
  pub goes : UnwindsTo limit c r (state_of m cells) (state_of m' cells')
  pub ready : ReadyThen r c m' cells'
  pub within : m'.turns ≤ limit
  pub falls : FallingThen r (rank c limit (state_of m' cells')) (rank c limit (state_of m cells))

-- a body begins so
abbrev pub BeginsAt : Code → Around → Begin → Type 0
BeginsAt c (Sub k) b = Has c.subs k (λ s. (s.entry ≡ b.entry) × (s.stack ≡ b.most))
BeginsAt c (Site k) b = Has c.sites k (λ s. (s.entry ≡ b.entry) × (s.stack ≡ b.most))

abbrev pub IsEntry : Code → Around → ℕ → Type 0
IsEntry c (Sub k) pc = Has c.subs k (λ s. s.entry ≡ pc)
IsEntry c (Site k) pc = Has c.sites k (λ s. s.entry ≡ pc)

-- room for what an answer pushes
abbrev pub HasPlace : Gave → (height room : ℕ) → Type 0
HasPlace gave.Nothing height room = height + 2 ≤ room
HasPlace (gave.Numbers vs) height room = height + 1 ≤ room
HasPlace (gave.Left (Raise r)) height room = Unit {0}
HasPlace (gave.Left l) height room = height + 2 ≤ room

abbrev pub HasNumber : Gave → Type 0
HasNumber (gave.Numbers []) = ⊥
HasNumber g = Unit {0}

abbrev pub IsRead : Gave → Type 0
IsRead (gave.Numbers (v ∷ [])) = Unit {0}
IsRead (gave.Left (Raise r)) = Unit {0}
IsRead g = ⊥
