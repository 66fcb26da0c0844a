-- What an instruction does, decoded: what it makes of the operands, which cells it reads and writes, and what else it asks
-- for. The top of a stack comes first.
use Rattle.std.specs.Prelude.{replicate, ℕ, zero, suc, ◌+◌, ◌-◌, ◌^◌, bit_and, bit_or, bit_xor, ℤ, pos, negsuc, neg_ℤ, ◌+ℤ◌, ◌-ℤ◌, ◌*ℤ◌, nat_abs, List, [], ◌∷◌, Option, Some, None, slice_get, Bool, true, false, cond, ◌&&◌, not, nat_le, int_le, int_lt, unwrap_or}
use Rattle.std.specs.Int.{int_min, int_max}
use Rattle.ada_base.specs.declared.operation.Base.{Base}
use Rattle.ada_base.specs.declared.operation.Base.TheVariants.{Modulo}
use Rattle.ada_base.specs.declared.operation.Op.{Op}
use Rattle.ada_base.specs.declared.operation.Op.TheVariants as op
use Rattle.ada_base.specs.declared.reason.Reason.{Reason}
use Rattle.ada_base.specs.declared.reason.Reason.TheVariants.{ConstraintError, ProgramError, StorageError, DataError, EndError, Declared}
use Rattle.ada_base.specs.Operation.{turned, digits, modulus, reduced, unbounded, within, result_of}
use Rattle.ada_base.specs.Image.{image, truth_image, padded}
use Rattle.stack_code.specs.declared.instr.Instr.{Instr}
use Rattle.stack_code.specs.declared.instr.Instr.TheVariants.{Push, Pop, Dup, Swap, Local, Outer, Global, Index, Field, Load, Store, Copy, Fill, Add, Sub, Mul, Div, Mod, Rem, Pow, Neg, Abs, Max, Min, Eq, Ne, Lt, Le, Gt, Ge, Far, And, Or, Xor, Not, Range, Jump, JFalse, JTrue, Turn, Call, CallAt, CallTo, Ret, RetV, Raise, Reraise, Exit, Leave as LeaveNow, LeaveV, Fork, Nest, Unnest, Words, Img, Bool as BoolImage, Wide, Send, SendLn, Get, End, EndV, Halt, Combine, Part, Repeat, Again, LoadL, LoadO, LoadG, StoreL, StoreO, StoreG, SetL, AddI, SubI, MulI, ModI, IndexL, Item, ItemL, IndexG, ItemG, JfEq, JfNe, JfLt, JfLe, JfGt, JfGe, Next, Prior, Flip, Differ, BNot, ULt, ULe, UGt, UGe, UMax, UMin, URange, USetL, UImg}
use Rattle.stack_code.specs.declared.code.Code.{Code}
use Rattle.stack_code.specs.declared.operators.Relation.{Relation}
use Rattle.stack_code.specs.declared.operators.Relation.TheVariants.{Equal, Unequal, Less, AtMost, Greater, AtLeast}
use Rattle.stack_code.specs.declared.operators.Digits.{Digits}
use Rattle.stack_code.specs.declared.operators.Digits.TheVariants.{Both, Either, Differ}
use Rattle.stack_code.specs.declared.code.CodeSub.{CodeSub}
use Rattle.stack_code.specs.declared.path.Asked.{Asked}
use Rattle.stack_code.specs.declared.path.Leave.{Leave}
use Rattle.stack_code.specs.declared.path.Leave.TheVariants.{Exit as Exits, Return as Returns}

-- ---- numbers

-- the reason with that number
abbrev pub reason_of : ℤ → Reason
reason_of (pos zero) = ConstraintError
reason_of (pos (suc zero)) = ProgramError
reason_of (pos (suc (suc zero))) = StorageError
reason_of (pos (suc (suc (suc zero)))) = DataError
reason_of (pos (suc (suc (suc (suc zero))))) = EndError
reason_of (pos (suc (suc (suc (suc (suc n)))))) = Declared n
reason_of (negsuc n) = ProgramError

abbrev pub bit : Bool → ℤ
bit true = pos 1
bit false = pos 0

abbrev pub truth : ℤ → Bool
truth (pos zero) = false
truth (pos (suc n)) = true
truth (negsuc n) = true

abbrev pub is_between : ℤ → ℤ → ℤ → Bool
is_between lo z hi = int_le lo z && int_le z hi

abbrev pub value_or_zero : Option ℤ → ℤ
value_or_zero None = pos 0
value_or_zero (Some z) = z

abbrev pub unless_divisor_zero : Bool → Option ℤ → Option ℤ
unless_divisor_zero true z = Some (value_or_zero z)
unless_divisor_zero false z = None

-- the operation (4.5) on any two numbers; None is Constraint_Error. The result of one that isn't of a modular type is tested
-- against the base range; a remainder can't overflow
abbrev pub on_range : Op → Base → ℤ → ℤ → Option ℤ
on_range op.Mod kind x y = unless_divisor_zero (truth y) (within kind (unbounded op.Mod x y))
on_range op.Rem kind x y = unless_divisor_zero (truth y) (within kind (unbounded op.Rem x y))
on_range op kind x y = within kind (unbounded op x y)

abbrev pub applied : Op → Base → ℤ → ℤ → Option ℤ
applied op (Modulo k) x y = result_of op (Modulo k) x y
applied op kind x y = on_range op kind x y

abbrev pub differ : Bool → Bool → Bool
differ true b = not b
differ false b = b

abbrev pub is_related : Relation → ℤ → ℤ → Bool
is_related Equal x y = int_le x y && int_le y x
is_related Unequal x y = not (int_le x y && int_le y x)
is_related Less x y = int_lt x y
is_related AtMost x y = int_le x y
is_related Greater x y = int_lt y x
is_related AtLeast x y = int_le y x

-- on each of 64 binary digits of numbers of 64 bits, as numbers of a modular type have them
abbrev pub digits_of : Digits → ℤ → ℤ → ℤ
digits_of Both x y = turned (pos (bit_and (digits x) (digits y)))
digits_of Either x y = turned (pos (bit_or (digits x) (digits y)))
digits_of Differ x y = turned (pos (bit_xor (digits x) (digits y)))

-- a number negated, and without its sign, where that lies in the base range; those of a modular type have no sign
abbrev pub negated : Base → ℤ → Option ℤ
negated (Modulo k) x = Some (turned (reduced k (neg_ℤ (turned x))))
negated kind x = within kind (Some (pos 0 -ℤ x))

abbrev pub unsigned : Base → ℤ → Option ℤ
unsigned (Modulo k) x = Some x
unsigned kind x = within kind (Some (pos (nat_abs x)))

-- each of so many binary digits turned
abbrev pub complemented : ℕ → ℤ → ℤ
complemented k x = turned (reduced k (pos (modulus k - 1) -ℤ turned x))

-- where it lies from least to greatest, all three as numbers of 64 binary digits
abbrev pub if_among : ℤ → ℤ → ℤ → Option ℤ
if_among lo hi z = cond (is_between (turned lo) (turned z) (turned hi)) (Some z) None

-- the last is so many above the first, or more
abbrev pub is_far : ℕ → (first last : ℤ) → Bool
is_far n first last = int_le (first +ℤ pos n) last

-- where it lies from least to greatest
abbrev pub if_between : ℤ → ℤ → ℤ → Option ℤ
if_between lo hi z = cond (is_between lo z hi) (Some z) None

-- an address, moved to the component with that index
abbrev pub indexed : ℤ → ℤ → ℕ → ℤ → ℤ → Option ℤ
indexed lo hi size address i = cond (is_between lo i hi) (Some (address +ℤ ((i -ℤ lo) *ℤ pos size))) None

-- ---- what an instruction asks for

-- Reading a cell leads on by its value, so a fused instruction is made of what its parts do.
pub data Deed : Type 0 where
  Lacks : Deed  -- an operand isn't there
  GoesOn : (to : ℕ) (stack : List ℤ) → Deed  -- goes on at that instruction with that stack
  Fails : (reason : Reason) (stack : List ℤ) → Deed  -- raises an exception
  Loads : (address : ℤ) (onward : ℤ → Deed) → Deed  -- reads a cell
  Stores : (address value : ℤ) (onward : Deed) → Deed  -- writes a cell
  Points : (address : ℤ) (onward : Deed) → Deed  -- moves an address that is a cell's or the memory's end
  Turns : Deed
  Calls : CodeSub → Deed
  -- with its frame from a cell of the own one on; it comes back to that instruction, and raises Constraint_Error unless
  -- its operands fit
  CallsAt : CodeSub → (cell to : ℕ) → (fit : Bool) → (stack : List ℤ) → Deed
  Combines : CodeSub → (acc : ℤ) (stack : List ℤ) → Deed
  Draws : Deed  -- takes off the next accumulator that is kept
  Repeats : (rounds : ℕ) → Deed  -- begins a part that is done so many times
  Rounds : (head : ℕ) → Deed  -- ends a round of the part whose rounds begin there
  Ends : (value : Option ℤ) (stack : List ℤ) → Deed  -- ends the subprogram
  Leaves : Leave → (stack : List ℤ) → Deed
  Forks : Asked → (stack : List ℤ) → Deed
  Nests : Deed
  Unnests : Deed
  Writes : (text : List ℕ) (stack : List ℤ) → Deed  -- adds to the line
  Sends : (feed : Bool) → Deed
  Gets : Deed
  Gives : (value : Option ℤ) (stack : List ℤ) → Deed  -- the thread, or the main procedure, is done

abbrev pub on_one : List ℤ → (ℤ → List ℤ → Deed) → Deed
on_one [] k = Lacks
on_one (x ∷ st) k = k x st

abbrev pub on_two : List ℤ → (ℤ → ℤ → List ℤ → Deed) → Deed
on_two [] k = Lacks
on_two (y ∷ []) k = Lacks
on_two (y ∷ x ∷ st) k = k x y st

-- pushes the value, or raises Constraint_Error
abbrev pub pushed : ℕ → Option ℤ → List ℤ → Deed
pushed pc (Some v) st = GoesOn (pc + 1) (v ∷ st)
pushed pc None st = Fails ConstraintError st

abbrev pub unary : ℕ → List ℤ → (ℤ → Option ℤ) → Deed
unary pc st f = on_one st (λ x st. pushed pc (f x) st)

abbrev pub binary : ℕ → List ℤ → (ℤ → ℤ → Option ℤ) → Deed
binary pc st f = on_two st (λ x y st. pushed pc (f x y) st)

-- jumps where the relation doesn't hold
abbrev pub unless : ℕ → List ℤ → Relation → ℕ → Deed
unless pc st relation to = on_two st (λ x y st. GoesOn (cond (is_related relation x y) (pc + 1) to) st)

-- pushes an address of a frame's cell
abbrev pub cell_of_frame : ℕ → List ℤ → Option ℕ → ℕ → Deed
cell_of_frame pc st (Some base) n = GoesOn (pc + 1) (pos (base + n) ∷ st)
cell_of_frame pc st None n = Lacks

-- reads a cell and pushes it
abbrev pub load_from : ℕ → List ℤ → ℤ → Deed
load_from pc st address = Loads address (λ v. GoesOn (pc + 1) (v ∷ st))

abbrev pub load_of_frame : ℕ → List ℤ → Option ℕ → ℕ → Deed
load_of_frame pc st (Some base) n = load_from pc st (pos (base + n))
load_of_frame pc st None n = Lacks

abbrev pub store_to : ℕ → List ℤ → ℤ → Deed
store_to pc st address = on_one st (λ v st. Stores address v (GoesOn (pc + 1) st))

abbrev pub store_of_frame : ℕ → List ℤ → Option ℕ → ℕ → Deed
store_of_frame pc st (Some base) n = store_to pc st (pos (base + n))
store_of_frame pc st None n = Lacks

-- writes a cell, or raises Constraint_Error
abbrev pub stored : ℕ → ℤ → Option ℤ → List ℤ → Deed
stored pc address (Some v) st = Stores address v (GoesOn (pc + 1) st)
stored pc address None st = Fails ConstraintError st

-- pushes an address, or raises Constraint_Error
abbrev pub pointed : ℕ → Option ℤ → List ℤ → Deed
pointed pc (Some a) st = Points a (GoesOn (pc + 1) (a ∷ st))
pointed pc None st = Fails ConstraintError st

-- reads the cell at the address, or raises Constraint_Error
abbrev pub item_at : ℕ → Option ℤ → List ℤ → Deed
item_at pc (Some a) st = load_from pc st a
item_at pc None st = Fails ConstraintError st

-- the first cell is one nearer to the second, or the loop is at its end
abbrev pub stepped : ℕ → List ℤ → ℤ → Bool → ℤ → ℕ → Deed
stepped pc st address true v to = Stores address v (GoesOn to st)
stepped pc st address false v to = GoesOn (pc + 1) st

-- so many cells from an address on, in order
abbrev pub loads_all : ℕ → ℤ → (List ℤ → Deed) → Deed
loads_all zero a k = k []
loads_all (suc n) a k = Loads a (λ v. loads_all n (a +ℤ pos 1) (λ vs. k (v ∷ vs)))

abbrev pub stores_all : List ℤ → ℤ → Deed → Deed
stores_all [] a d = d
stores_all (v ∷ vs) a d = Stores a v (stores_all vs (a +ℤ pos 1) d)

abbrev pub called : List ℤ → Option CodeSub → Deed
called st (Some s) = Calls s
called st None = Lacks

abbrev pub called_at : (cell to : ℕ) → (fit : Bool) → List ℤ → Option CodeSub → Deed
called_at n to fit st (Some s) = CallsAt s n to fit st
called_at n to fit st None = Lacks

abbrev pub combining : Option CodeSub → ℤ → List ℤ → Deed
combining (Some s) acc st = Combines s acc st
combining None acc st = Lacks

abbrev pub natural : ℤ → ℕ
natural (pos n) = n
natural (negsuc n) = 0

-- how many values there are from a first to a last
abbrev pub many : (first last : ℤ) → ℕ
many first last = natural (last +ℤ pos 1 -ℤ first)

-- the most iterations that a fork may have, and the most threads
abbrev pub most_iterations : ℕ
most_iterations = 2 ^ 62

abbrev pub most_threads : ℕ
most_threads = 4096

-- a fork may begin with so many iterations or arms, and so many threads at most
abbrev pub can_fork : (count most : ℕ) → Bool
can_fork count most = nat_le count most_iterations && (nat_le 1 most && nat_le most most_threads)

abbrev pub asked : ℕ → (first last chunk last_chunk initial : ℤ) → Asked
asked site first last chunk last_chunk initial = record { site = site; count = many first last; first = first; most = many chunk last_chunk; chunk = chunk; initial = initial }

abbrev pub forked : ℕ → List ℤ → Deed
forked site (initial ∷ last_chunk ∷ chunk ∷ last ∷ first ∷ st) = cond (can_fork (many first last) (many chunk last_chunk)) (Forks (asked site first last chunk last_chunk initial) st) (Fails StorageError st)
forked site _ = Lacks

-- at that instruction, with that stack; the own frame begins at that address, the frames outward at those
abbrev pub deed_of : Code → ℕ → List ℤ → ℕ → List ℕ → Instr → Deed
deed_of c pc st base outward (Push v) = GoesOn (pc + 1) (v ∷ st)
deed_of c pc st base outward Pop = on_one st (λ x st. GoesOn (pc + 1) st)
deed_of c pc st base outward Dup = on_one st (λ x st. GoesOn (pc + 1) (x ∷ x ∷ st))
deed_of c pc st base outward Swap = on_two st (λ x y st. GoesOn (pc + 1) (x ∷ y ∷ st))
deed_of c pc st base outward (Local n) = GoesOn (pc + 1) (pos (base + n) ∷ st)
deed_of c pc st base outward (Outer k n) = cell_of_frame pc st (slice_get outward (k - 1)) n
deed_of c pc st base outward (Global n) = GoesOn (pc + 1) (pos n ∷ st)
deed_of c pc st base outward (Index lo hi size) = on_two st (λ a i st. pointed pc (indexed lo hi size a i) st)
deed_of c pc st base outward (Field n) = on_one st (λ a st. Points a (GoesOn (pc + 1) ((a +ℤ pos n) ∷ st)))
deed_of c pc st base outward Load = on_one st (λ a st. load_from pc st a)
deed_of c pc st base outward Store = on_two st (λ a v st. Stores a v (GoesOn (pc + 1) st))
deed_of c pc st base outward (Copy n) = on_two st (λ target source st. loads_all n source (λ vs. stores_all vs target (GoesOn (pc + 1) st)))
deed_of c pc st base outward (Fill n v) = on_one st (λ a st. stores_all (replicate n v) a (GoesOn (pc + 1) st))
deed_of c pc st base outward (Add kind) = binary pc st (λ x y. applied op.Add kind x y)
deed_of c pc st base outward (Sub kind) = binary pc st (λ x y. applied op.Sub kind x y)
deed_of c pc st base outward (Mul kind) = binary pc st (λ x y. applied op.Mul kind x y)
deed_of c pc st base outward (Div kind) = binary pc st (λ x y. applied op.Div kind x y)
deed_of c pc st base outward (Mod kind) = binary pc st (λ x y. applied op.Mod kind x y)
deed_of c pc st base outward (Rem kind) = binary pc st (λ x y. applied op.Rem kind x y)
deed_of c pc st base outward (Pow kind) = binary pc st (λ x y. applied op.Pow kind x y)
deed_of c pc st base outward (Neg kind) = unary pc st (λ x. negated kind x)
deed_of c pc st base outward (Abs kind) = unary pc st (λ x. unsigned kind x)
deed_of c pc st base outward Max = binary pc st (λ x y. Some (int_max x y))
deed_of c pc st base outward Min = binary pc st (λ x y. Some (int_min x y))
deed_of c pc st base outward Eq = binary pc st (λ x y. Some (bit (is_related Equal x y)))
deed_of c pc st base outward Ne = binary pc st (λ x y. Some (bit (is_related Unequal x y)))
deed_of c pc st base outward Lt = binary pc st (λ x y. Some (bit (is_related Less x y)))
deed_of c pc st base outward Le = binary pc st (λ x y. Some (bit (is_related AtMost x y)))
deed_of c pc st base outward Gt = binary pc st (λ x y. Some (bit (is_related Greater x y)))
deed_of c pc st base outward Ge = binary pc st (λ x y. Some (bit (is_related AtLeast x y)))
deed_of c pc st base outward (Far n) = binary pc st (λ x y. Some (bit (is_far n x y)))
deed_of c pc st base outward And = binary pc st (λ x y. Some (digits_of Both x y))
deed_of c pc st base outward Or = binary pc st (λ x y. Some (digits_of Either x y))
deed_of c pc st base outward Xor = binary pc st (λ x y. Some (digits_of Differ x y))
deed_of c pc st base outward Not = unary pc st (λ x. Some (bit (not (truth x))))
deed_of c pc st base outward (Range lo hi) = unary pc st (λ x. if_between lo hi x)
deed_of c pc st base outward (Jump to) = GoesOn to st
deed_of c pc st base outward (JFalse to) = on_one st (λ x st. GoesOn (cond (truth x) (pc + 1) to) st)
deed_of c pc st base outward (JTrue to) = on_one st (λ x st. GoesOn (cond (truth x) to (pc + 1)) st)
deed_of c pc st base outward Turn = Turns
deed_of c pc st base outward (Call sub) = called st (slice_get c.subs sub)
deed_of c pc st base outward (CallAt sub n) = called_at n (pc + 1) true st (slice_get c.subs sub)
deed_of c pc st base outward (CallTo sub n to) = on_one st (λ x st. called_at n to (truth x) st (slice_get c.subs sub))
deed_of c pc st base outward Ret = Ends None st
deed_of c pc st base outward RetV = on_one st (λ x st. Ends (Some x) st)
deed_of c pc st base outward (Raise reason) = Fails reason st
deed_of c pc st base outward Reraise = on_one st (λ n st. Fails (reason_of n) st)
deed_of c pc st base outward (Exit loop) = Leaves (Exits loop) st
deed_of c pc st base outward LeaveNow = Leaves (Returns None) st
deed_of c pc st base outward LeaveV = on_one st (λ x st. Leaves (Returns (Some x)) st)
deed_of c pc st base outward (Fork site) = forked site st
deed_of c pc st base outward Nest = Nests
deed_of c pc st base outward Unnest = Unnests
deed_of c pc st base outward (Words text) = Writes (unwrap_or (slice_get c.texts text) []) st
deed_of c pc st base outward Img = on_one st (λ x st. Writes (image x) st)
deed_of c pc st base outward BoolImage = on_one st (λ x st. Writes (truth_image (truth x)) st)
deed_of c pc st base outward (Wide width) = on_one st (λ x st. Writes (padded x width) st)
deed_of c pc st base outward Send = Sends false
deed_of c pc st base outward SendLn = Sends true
deed_of c pc st base outward Get = Gets
deed_of c pc st base outward End = Gives None st
deed_of c pc st base outward EndV = on_one st (λ x st. Gives (Some x) st)
deed_of c pc st base outward Halt = Gives None st
deed_of c pc st base outward (Combine sub) = on_one st (λ acc st. combining (slice_get c.subs sub) acc st)
deed_of c pc st base outward Part = Draws
deed_of c pc st base outward (Repeat n) = Repeats n
deed_of c pc st base outward (Again to) = Rounds to
-- the fused ones
deed_of c pc st base outward (LoadL n) = load_from pc st (pos (base + n))
deed_of c pc st base outward (LoadO k n) = load_of_frame pc st (slice_get outward (k - 1)) n
deed_of c pc st base outward (LoadG n) = load_from pc st (pos n)
deed_of c pc st base outward (StoreL n) = store_to pc st (pos (base + n))
deed_of c pc st base outward (StoreO k n) = store_of_frame pc st (slice_get outward (k - 1)) n
deed_of c pc st base outward (StoreG n) = store_to pc st (pos n)
deed_of c pc st base outward (SetL n lo hi) = on_one st (λ v st. stored pc (pos (base + n)) (if_between lo hi v) st)
deed_of c pc st base outward (AddI v kind) = unary pc st (λ x. applied op.Add kind x v)
deed_of c pc st base outward (SubI v kind) = unary pc st (λ x. applied op.Sub kind x v)
deed_of c pc st base outward (MulI v kind) = unary pc st (λ x. applied op.Mul kind x v)
deed_of c pc st base outward (ModI v kind) = unary pc st (λ x. applied op.Mod kind x v)
deed_of c pc st base outward (IndexL n lo hi size) = Loads (pos (base + n)) (λ i. on_one st (λ a st. pointed pc (indexed lo hi size a i) st))
deed_of c pc st base outward (Item lo hi size) = on_two st (λ a i st. item_at pc (indexed lo hi size a i) st)
deed_of c pc st base outward (ItemL n lo hi size) = Loads (pos (base + n)) (λ i. on_one st (λ a st. item_at pc (indexed lo hi size a i) st))
deed_of c pc st base outward (IndexG g lo hi size n) = Loads (pos (base + n)) (λ i. pointed pc (indexed lo hi size (pos g) i) st)
deed_of c pc st base outward (ItemG g lo hi size n) = Loads (pos (base + n)) (λ i. item_at pc (indexed lo hi size (pos g) i) st)
deed_of c pc st base outward (JfEq to) = unless pc st Equal to
deed_of c pc st base outward (JfNe to) = unless pc st Unequal to
deed_of c pc st base outward (JfLt to) = unless pc st Less to
deed_of c pc st base outward (JfLe to) = unless pc st AtMost to
deed_of c pc st base outward (JfGt to) = unless pc st Greater to
deed_of c pc st base outward (JfGe to) = unless pc st AtLeast to
deed_of c pc st base outward (Next n m to) = Loads (pos (base + n)) (λ x. Loads (pos (base + m)) (λ y. stepped pc st (pos (base + n)) (int_lt x y) (x +ℤ pos 1) to))
deed_of c pc st base outward (Prior n m to) = Loads (pos (base + n)) (λ x. Loads (pos (base + m)) (λ y. stepped pc st (pos (base + n)) (int_lt y x) (x -ℤ pos 1) to))
deed_of c pc st base outward Flip = unary pc st (λ x. Some (bit (not (truth x))))
deed_of c pc st base outward Differ = binary pc st (λ x y. Some (bit (differ (truth x) (truth y))))
-- on numbers of modular types
deed_of c pc st base outward (BNot k) = unary pc st (λ x. Some (complemented k x))
deed_of c pc st base outward ULt = binary pc st (λ x y. Some (bit (is_related Less (turned x) (turned y))))
deed_of c pc st base outward ULe = binary pc st (λ x y. Some (bit (is_related AtMost (turned x) (turned y))))
deed_of c pc st base outward UGt = binary pc st (λ x y. Some (bit (is_related Greater (turned x) (turned y))))
deed_of c pc st base outward UGe = binary pc st (λ x y. Some (bit (is_related AtLeast (turned x) (turned y))))
deed_of c pc st base outward UMax = binary pc st (λ x y. result_of op.Max (Modulo 64) x y)
deed_of c pc st base outward UMin = binary pc st (λ x y. result_of op.Min (Modulo 64) x y)
deed_of c pc st base outward (URange lo hi) = unary pc st (λ x. if_among lo hi x)
deed_of c pc st base outward (USetL n lo hi) = on_one st (λ v st. stored pc (pos (base + n)) (if_among lo hi v) st)
deed_of c pc st base outward UImg = on_one st (λ x st. Writes (image (turned x)) st)
