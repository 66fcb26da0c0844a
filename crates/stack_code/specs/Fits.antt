-- What validity gives each instruction: its operands are there, and it leaves what the next one finds.
use Rattle.std.specs.Prelude.{◌≡◌, ℕ, ◌+◌, ◌<◌, ◌≤◌, ◌⊎◌, ℤ, List, ◌∷◌, length, Option, Some, None, IsSome, slice_get}
use Rattle.stack_code.specs.declared.code.Code.{Code}
use Rattle.stack_code.specs.declared.instr.Instr.{Instr}
use Rattle.stack_code.specs.declared.instr.Instr.TheVariants.{Outer, LoadO, StoreO, Call, CallAt, CallTo, Combine, Part, Repeat, Again, Nest, Unnest, Ret, RetV, Turn, Fork, Send, SendLn, Get}
use Rattle.stack_code.specs.declared.flow.Flow.{Flow}
use Rattle.stack_code.specs.declared.flow.Flow.TheVariants.{On, To, Branch, Back, Round, Ends as Nowhere}
use Rattle.stack_code.specs.Operands.{takes, pushes, flow_of}
use Rattle.stack_code.specs.Deeds.{Deed, Lacks, GoesOn, Fails, Loads, Stores, Points, Turns, Calls, CallsAt, Combines, Draws, Repeats, Rounds, Ends, Nests, Unnests, Writes, Forks, Sends, Gets}

-- the frames that an instruction names, and the subprogram that it calls
abbrev pub Finds : Code → List ℕ → Instr → Type 0
Finds c outward (Outer k n) = (0 < k) × (k ≤ length outward)
Finds c outward (LoadO k n) = (0 < k) × (k ≤ length outward)
Finds c outward (StoreO k n) = (0 < k) × (k ≤ length outward)
Finds c outward (Combine sub) = IsSome (slice_get c.subs sub)
Finds c outward (Call sub) = IsSome (slice_get c.subs sub)
Finds c outward (CallAt sub n) = IsSome (slice_get c.subs sub)
Finds c outward (CallTo sub n to) = IsSome (slice_get c.subs sub)
Finds c outward _ = Unit {0}

-- an instruction that may follow at once, where no further round begins
abbrev pub IsNext : ℕ → Flow → ℕ → Type 0
IsNext pc On to = to ≡ pc + 1
IsNext pc (To t) to = to ≡ t
IsNext pc (Branch t) to = (to ≡ t) ⊎ (to ≡ pc + 1)
IsNext pc (Back t) to = ⊥
IsNext pc (Round t) to = to ≡ pc + 1
IsNext pc Nowhere to = ⊥

-- it neither begins nor ends a construct, nor begins a turn
abbrev pub IsCalm : Instr → Type 0
IsCalm Turn = ⊥
IsCalm Nest = ⊥
IsCalm Unnest = ⊥
IsCalm _ = Unit {0}

-- it ends a subprogram, with a value or without
abbrev pub IsReturn : Instr → Option ℤ → Type 0
IsReturn Ret None = Unit {0}
IsReturn RetV (Some v) = Unit {0}
IsReturn i v = ⊥

-- it calls that subprogram with its frame from that cell of the own one on, and the call comes back to that instruction
abbrev pub IsCallAt : (pc : ℕ) → Instr → (sub cell to : ℕ) → Type 0
IsCallAt pc (CallAt k m) sub n to = (k ≡ sub) × (m ≡ n) × (to ≡ pc + 1)
IsCallAt pc (CallTo k m t) sub n to = (k ≡ sub) × (m ≡ n) × (to ≡ t)
IsCallAt pc i sub n to = ⊥

-- no operand lacks; what goes on does so as the rules of validity say; and what fails has taken its operands off
abbrev pub IsFit : Code → ℕ → List ℤ → Instr → Deed → Type 0
IsFit c pc st i Lacks = ⊥
IsFit c pc st i (GoesOn to st') = (length st' + takes c i ≡ length st + pushes c i) × IsNext pc (flow_of i) to × IsCalm i
IsFit c pc st i (Fails r st') = (length st' + takes c i ≡ length st) × IsCalm i
IsFit c pc st i (Loads a k) = (v : ℤ) → IsFit c pc st i (k v)
IsFit c pc st i (Stores a v d) = IsFit c pc st i d
IsFit c pc st i (Points a d) = IsFit c pc st i d
IsFit c pc st i Turns = i ≡ Turn
IsFit c pc st i (Calls f) = (k : ℕ) × (i ≡ Call k) × (slice_get c.subs k ≡ Some f)
IsFit c pc st i (CallsAt f n to fit st') = (k : ℕ) × IsCallAt pc i k n to × (slice_get c.subs k ≡ Some f) × (length st' + takes c i ≡ length st)
IsFit c pc st i (Combines f acc st') = (k : ℕ) × (i ≡ Combine k) × (slice_get c.subs k ≡ Some f) × (st ≡ acc ∷ st')
IsFit c pc st i Draws = i ≡ Part
IsFit c pc st i (Repeats n) = i ≡ Repeat n
IsFit c pc st i (Rounds head) = i ≡ Again head
IsFit c pc st i (Ends v st') = IsReturn i v × (length st' + takes c i ≡ length st)
IsFit c pc st i Nests = i ≡ Nest
IsFit c pc st i Unnests = i ≡ Unnest
IsFit c pc st i (Writes text st') = (length st' + takes c i ≡ length st + pushes c i) × (flow_of i ≡ On) × IsCalm i
IsFit c pc st i (Forks q st') = (i ≡ Fork q.site) × (length st' + takes c i ≡ length st)
IsFit c pc st i (Sends feed) = (i ≡ Send) ⊎ (i ≡ SendLn)
IsFit c pc st i Gets = i ≡ Get
IsFit c pc st i _ = Unit {0}
