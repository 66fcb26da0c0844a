-- Code that fits together: each rule is of one instruction, or of one entry of a table.
use Rattle.std.specs.Prelude.{◌≡◌, ℕ, zero, suc, ◌+◌, ◌-◌, ◌^◌, ◌<◌, ◌≤◌, List, [], ◌∷◌, length, Option, Some, None, IsSome, IsSomeAnd, slice_get, Bool, true, false}
use Rattle.ada_base.specs.declared.operation.Base.{Base}
use Rattle.ada_base.specs.declared.operation.Base.TheVariants.{Modulo}
use Rattle.stack_code.specs.declared.instr.Instr.{Instr}
use Rattle.stack_code.specs.declared.instr.Instr.TheVariants.{Local, Outer, Global, Call, CallAt, CallTo, Ret, RetV, Exit, Leave, LeaveV, Fork, Unnest, Words, End, EndV, Halt, Combine, LoadL, LoadO, LoadG, StoreL, StoreO, StoreG, SetL, IndexL, ItemL, IndexG, ItemG, Next, Prior, Add, Sub as Less, Mul, Div, Mod, Rem, Pow, Neg, Abs, AddI, SubI, MulI, ModI, BNot, USetL, Repeat}
use Rattle.stack_code.specs.declared.code.Around.{Around}
use Rattle.stack_code.specs.declared.code.Around.TheVariants.{Sub, Site}
use Rattle.stack_code.specs.declared.code.Code.{Code}
use Rattle.stack_code.specs.declared.code.CodeSite.{CodeSite}
use Rattle.stack_code.specs.declared.code.CodeSub.{CodeSub}
use Rattle.stack_code.specs.declared.code.SiteKind.{SiteKind}
use Rattle.stack_code.specs.declared.code.SiteKind.TheVariants.{Reduction, ChunkReduction}
use Rattle.stack_code.specs.declared.code.Spot.{Spot}
use Rattle.stack_code.specs.declared.code.Unwind.{Unwind}
use Rattle.stack_code.specs.declared.flow.Flow.{Flow}
use Rattle.stack_code.specs.declared.flow.Flow.TheVariants.{On, To, Branch, Back, Round, Ends}
use Rattle.stack_code.specs.Operands.{takes, pushes, ends_of, nest_after, flow_of, is_reduction}

-- each item of a list, with its number
abbrev pub Each : {A : Type 0} → List A → (ℕ → A → Type 0) → Type 0
Each {A} xs P = (k : ℕ) (x : A) → slice_get xs k ≡ Some x → P k x

-- those with a number below n
abbrev pub EachBelow : {A : Type 0} → List A → (ℕ → A → Type 0) → ℕ → Type 0
EachBelow {A} xs P n = (k : ℕ) (x : A) → k < n → slice_get xs k ≡ Some x → P k x

-- the item with that number is there, and this holds of it
abbrev pub Has : {A : Type 0} → List A → ℕ → (A → Type 0) → Type 0
Has xs k P = IsSomeAnd (slice_get xs k) P

-- each part that is repeated is done less often than numbers of 64 bits tell
abbrev pub IsCountable : List Instr → Type 0
IsCountable [] = Unit {0}
IsCountable (Repeat n ∷ is) = (n < 2 ^ 63) × IsCountable is
IsCountable (i ∷ is) = IsCountable is

-- ---- bodies

-- the body is there, and this holds of its frame's number of cells
abbrev pub HasFrame : Code → Around → (ℕ → Type 0) → Type 0
HasFrame c (Sub k) P = Has c.subs k (λ s. P s.frame)
HasFrame c (Site k) P = Has c.sites k (λ s. P s.frame)

-- the same of the greatest height of its operand stack
abbrev pub HasStack : Code → Around → (ℕ → Type 0) → Type 0
HasStack c (Sub k) P = Has c.subs k (λ s. P s.stack)
HasStack c (Site k) P = Has c.sites k (λ s. P s.stack)

-- the body that a construct stands in
abbrev pub around_of : Option CodeSite → Option Around
around_of (Some s) = Some s.around
around_of None = None

abbrev pub step_out : Code → Around → Option Around
step_out c (Sub k) = None
step_out c (Site k) = around_of (slice_get c.sites k)

-- the body so many steps outward
abbrev pub outward : Code → Option Around → ℕ → Option Around
outward c None k = None
outward c (Some b) zero = Some b
outward c (Some b) (suc k) = outward c (step_out c b) k

-- a body of a construct's threads, whether of a reduction
abbrev pub IsThread : Code → Around → Bool → Type 0
IsThread c (Sub k) reduces = ⊥
IsThread c (Site k) reduces = Has c.sites k (λ s. is_reduction s.kind ≡ reduces)

-- a body of a subprogram other than the main one, which gives a value or doesn't
abbrev pub IsCallee : Code → Around → Bool → Type 0
IsCallee c (Sub k) gives = (0 < k) × Has c.subs k (λ s. s.gives ≡ gives)
IsCallee c (Site k) gives = ⊥

-- ---- instructions

-- the instruction is there, in that body, with that height and so many constructs begun
abbrev pub Lands : Code → Around → ℕ → ℕ → ℕ → Type 0
Lands c body height nest to = Has c.spots to (λ s. (s.body ≡ body) × (s.stack ≡ height) × (s.nest ≡ nest))

-- so does each that may follow
abbrev pub Leads : Code → ℕ → Around → ℕ → ℕ → Flow → Type 0
Leads c at body height nest On = Lands c body height nest (at + 1)
Leads c at body height nest (To t) = Lands c body height nest t
Leads c at body height nest (Branch t) = Lands c body height nest t × Lands c body height nest (at + 1)
Leads c at body height nest (Back t) = Lands c body height nest t
Leads c at body height nest (Round t) = Lands c body height nest t × Lands c body height nest (at + 1)
Leads c at body height nest Ends = Unit {0}

-- a reduction by a function
abbrev pub CallsFunction : SiteKind → Type 0
CallsFunction (Reduction None) = Unit {0}
CallsFunction (ChunkReduction None) = Unit {0}
CallsFunction _ = ⊥

-- the fork of one
abbrev pub ForksFold : Code → Option Instr → Type 0
ForksFold c (Some (Fork site)) = Has c.sites site (λ s. CallsFunction s.kind)
ForksFold c _ = ⊥

-- before that place stands such a fork, with nothing between but ends of constructs
abbrev pub Folded : Code → Option Instr → Type 0 → Type 0
Folded c (Some Unnest) earlier = earlier
Folded c o earlier = ForksFold c o

abbrev pub FollowsFold : Code → ℕ → Type 0
FollowsFold c zero = ⊥
FollowsFold c (suc k) = Folded c (slice_get c.instrs k) (FollowsFold c k)

-- a number of binary digits that a modular type may have, and a base range of such a type or of another one
abbrev pub AreDigits : ℕ → Type 0
AreDigits k = (1 ≤ k) × (k ≤ 64)

abbrev pub IsRange : Base → Type 0
IsRange (Modulo k) = AreDigits k
IsRange base = Unit {0}

-- the instruction may stand in that body at that place
abbrev pub Belongs : Code → ℕ → Around → Instr → Type 0
Belongs c at body (Local n) = HasFrame c body (λ cells. n < cells)
Belongs c at body (Outer k n) = (0 < k) × IsSomeAnd (outward c (Some body) k) (λ b. HasFrame c b (λ cells. n < cells))
Belongs c at body (Global n) = HasFrame c (Sub 0) (λ cells. n < cells)
Belongs c at body (LoadL n) = HasFrame c body (λ cells. n < cells)
Belongs c at body (LoadO k n) = (0 < k) × IsSomeAnd (outward c (Some body) k) (λ b. HasFrame c b (λ cells. n < cells))
Belongs c at body (LoadG n) = HasFrame c (Sub 0) (λ cells. n < cells)
Belongs c at body (StoreL n) = HasFrame c body (λ cells. n < cells)
Belongs c at body (StoreO k n) = (0 < k) × IsSomeAnd (outward c (Some body) k) (λ b. HasFrame c b (λ cells. n < cells))
Belongs c at body (StoreG n) = HasFrame c (Sub 0) (λ cells. n < cells)
Belongs c at body (SetL n lo hi) = HasFrame c body (λ cells. n < cells)
Belongs c at body (USetL n lo hi) = HasFrame c body (λ cells. n < cells)
Belongs c at body (IndexL n lo hi size) = HasFrame c body (λ cells. n < cells)
Belongs c at body (ItemL n lo hi size) = HasFrame c body (λ cells. n < cells)
Belongs c at body (IndexG g lo hi size n) = HasFrame c (Sub 0) (λ cells. g < cells) × HasFrame c body (λ cells. n < cells)
Belongs c at body (ItemG g lo hi size n) = HasFrame c (Sub 0) (λ cells. g < cells) × HasFrame c body (λ cells. n < cells)
Belongs c at body (Next n m to) = HasFrame c body (λ cells. n < cells) × HasFrame c body (λ cells. m < cells)
Belongs c at body (Prior n m to) = HasFrame c body (λ cells. n < cells) × HasFrame c body (λ cells. m < cells)
Belongs c at body (Call sub) = (0 < sub) × (sub < length c.subs)
Belongs c at body (CallAt sub n) = (0 < sub) × Has c.subs sub (λ s. s.takes ≡ 0)
Belongs c at body (CallTo sub n to) = (0 < sub) × Has c.subs sub (λ s. s.takes ≡ 0)
Belongs c at body (Combine sub) = Has c.subs sub (λ s. (s.takes ≡ 2) × (s.gives ≡ true)) × FollowsFold c at
Belongs c at body (Fork site) = Has c.sites site (λ s. s.around ≡ body)
Belongs c at body (Words text) = text < length c.texts
Belongs c at body (Exit loop) = IsThread c body false
Belongs c at body Leave = IsThread c body false
Belongs c at body LeaveV = IsThread c body false
Belongs c at body End = IsThread c body false
Belongs c at body EndV = IsThread c body true
Belongs c at body Ret = IsCallee c body false
Belongs c at body RetV = IsCallee c body true
Belongs c at body Halt = body ≡ Sub 0
Belongs c at body (Add base) = IsRange base
Belongs c at body (Less base) = IsRange base
Belongs c at body (Mul base) = IsRange base
Belongs c at body (Div base) = IsRange base
Belongs c at body (Mod base) = IsRange base
Belongs c at body (Rem base) = IsRange base
Belongs c at body (Pow base) = IsRange base
Belongs c at body (Neg base) = IsRange base
Belongs c at body (Abs base) = IsRange base
Belongs c at body (AddI v base) = IsRange base
Belongs c at body (SubI v base) = IsRange base
Belongs c at body (MulI v base) = IsRange base
Belongs c at body (ModI v base) = IsRange base
Belongs c at body (BNot k) = AreDigits k
Belongs c at body _ = Unit {0}

abbrev pub Holds : Unwind → ℕ → Type 0
Holds u at = (u.from ≤ at) × (at < u.to)

-- the entry that a spot names holds its instruction
abbrev pub NamesHolder : Code → ℕ → Option ℕ → Type 0
NamesHolder c at (Some k) = Has c.unwind k (λ u. Holds u at)
NamesHolder c at None = Unit {0}

-- what is asked of an instruction and its spot
pub record SpotFits (c : Code) (at : ℕ) (i : Instr) (s : Spot) : Type 0 where
  pub height : HasStack c s.body (λ most. s.stack ≤ most)
  pub operands : takes c i ≤ s.stack
  pub begun : ends_of i ≤ s.nest
  pub leads : Leads c at s.body (s.stack - takes c i + pushes c i) (nest_after i s.nest) (flow_of i)
  pub belongs : Belongs c at s.body i
  pub held : NamesHolder c at s.held

-- ---- tables

-- a construct stands in a subprogram, or in the threads of an earlier one
abbrev pub IsEarlier : Code → ℕ → Around → Type 0
IsEarlier c k (Sub j) = j < length c.subs
IsEarlier c k (Site j) = j < k

-- the base range of the operator by which accumulators are combined
abbrev pub FoldFits : SiteKind → Type 0
FoldFits (Reduction (Some by)) = IsRange by.base
FoldFits (ChunkReduction (Some by)) = IsRange by.base
FoldFits _ = Unit {0}

-- a lease is of the main frame, or of one that the forking path sees
abbrev pub LeaseFits : Code → Around → Option ℕ → Type 0
LeaseFits c around None = Unit {0}
LeaseFits c around (Some k) = IsSome (outward c (Some around) k)

pub record SiteFits (c : Code) (k : ℕ) (s : CodeSite) : Type 0 where
  pub entry : Lands c (Site k) 0 0 s.entry
  pub cells : 4 ≤ s.frame
  pub around : IsEarlier c k s.around
  pub fold : FoldFits s.kind
  pub leases : Each s.leases (λ n lease. LeaseFits c s.around lease.frame)

abbrev pub SubFits : Code → ℕ → CodeSub → Type 0
SubFits c k s = Lands c (Sub k) s.takes 0 s.entry

-- the first entry that holds the instruction is this one or an earlier one
abbrev pub IsUpTo : ℕ → Option ℕ → Type 0
IsUpTo k (Some j) = j ≤ k
IsUpTo k None = ⊥

-- what is asked of an instruction that entry k holds
pub record Guarded (c : Code) (k : ℕ) (u : Unwind) (i : Instr) (s : Spot) : Type 0 where
  pub same_body : Has c.spots u.handler (λ h. h.body ≡ s.body)
  pub nest : u.nest ≤ s.nest
  pub depth : u.depth + takes c i ≤ s.stack
  pub first : IsUpTo k s.held

-- the instructions of a stretch that the entry holds
abbrev pub GuardsIn : Code → ℕ → ℕ → ℕ → Unwind → Type 0
GuardsIn c from to k u = (at : ℕ) (i : Instr) (s : Spot) → from ≤ at → at < to → slice_get c.instrs at ≡ Some i → slice_get c.spots at ≡ Some s → Holds u at → Guarded c k u i s

abbrev pub HandlerFits : Code → Unwind → Type 0
HandlerFits c u = Has c.spots u.handler (λ h. (h.stack ≡ u.depth + 1) × (h.nest ≡ u.nest))

-- the first subprogram is the main one, which takes no operand
abbrev pub HasMain : Code → Type 0
HasMain c = Has c.subs 0 (λ s. s.takes ≡ 0)

pub record IsValid (c : Code) : Type 0 where
  pub spots : length c.spots ≡ length c.instrs
  pub main : HasMain c
  pub instrs : Each c.instrs (λ at i. Has c.spots at (SpotFits c at i))
  pub sites : Each c.sites (SiteFits c)
  pub subs : Each c.subs (SubFits c)
  pub handlers : Each c.unwind (λ k u. HandlerFits c u)
  pub guards : Each c.unwind (GuardsIn c 0 (length c.instrs))
