-- Only three instructions leave a construct.
use Rattle.std.proofs.Common.{inl, inr}
use Rattle.std.specs.Prelude.{replicate, ◌⊎◌, ℕ, zero, suc, ◌+◌, ℤ, pos, ◌+ℤ◌, ◌-ℤ◌, nat_abs, List, [], ◌∷◌, Option, Some, None, Bool, true, false, cond, not}
use Rattle.std.specs.Int.{int_min, int_max}
use Rattle.ada_base.specs.declared.operation.Op.TheVariants as op
use Rattle.ada_base.specs.declared.reason.Reason.TheVariants.{StorageError}
use Rattle.ada_base.specs.Operation.{within}
use Rattle.stack_code.specs.declared.instr.Instr.{Instr}
use Rattle.stack_code.specs.declared.instr.Instr.TheVariants.{Push, Pop, Dup, Swap, Local, Outer, Global, Index, Field, Load, Store, Copy, Fill, Add, Sub, Mul, Div, Mod, Rem, Pow, Neg, Abs, Max, Min, Eq, Ne, Lt, Le, Gt, Ge, Far, And, Or, Xor, Not, Range, Jump, JFalse, JTrue, Turn, Call, CallAt, CallTo, Ret, RetV, Raise, Reraise, Exit, Leave as LeaveNow, LeaveV, Fork, Nest, Unnest, Words, Img, Bool as BoolImage, Wide, Send, SendLn, Get, End, EndV, Halt, Combine, Part, Repeat, Again, LoadL, LoadO, LoadG, StoreL, StoreO, StoreG, SetL, AddI, SubI, MulI, ModI, IndexL, Item, ItemL, IndexG, ItemG, JfEq, JfNe, JfLt, JfLe, JfGt, JfGe, Next, Prior, Flip, Differ, BNot, ULt, ULe, UGt, UGe, UMax, UMin, URange, USetL, UImg}
use Rattle.stack_code.specs.declared.code.Code.{Code}
use Rattle.stack_code.specs.declared.operators.Relation.TheVariants.{Equal, Unequal, Less, AtMost, Greater, AtLeast}
use Rattle.stack_code.specs.declared.operators.Digits.TheVariants.{Both, Either, Differ}
use Rattle.stack_code.specs.declared.code.CodeSub.{CodeSub}
use Rattle.stack_code.specs.declared.path.Asked.{Asked}
use Rattle.stack_code.specs.Deeds.{Deed, GoesOn, Fails, Loads, Stores, Points, Leaves, Forks, bit, truth, applied, differ, is_related, is_far, digits_of, if_between, indexed, on_one, on_two, pushed, pointed, unary, binary, cell_of_frame, load_of_frame, store_to, store_of_frame, item_at, stored, stepped, loads_all, stores_all, called, called_at, combining, can_fork, many, asked, forked, deed_of, negated, unsigned, complemented, if_among}

-- nothing is left by it
abbrev pub Stays : Deed → Type 0
Stays (Leaves l st) = ⊥
Stays (Loads a k) = (v : ℤ) → Stays (k v)
Stays (Stores a v d) = Stays d
Stays (Points a d) = Stays d
Stays _ = Unit {0}

abbrev pub Leaver : Instr → Type 0
Leaver (Exit loop) = Unit {0}
Leaver LeaveNow = Unit {0}
Leaver LeaveV = Unit {0}
Leaver _ = ⊥

one_free : (st : List ℤ) (k : ℤ → List ℤ → Deed) → ((x : ℤ) (rest : List ℤ) → Stays (k x rest)) → Stays (on_one st k)
one_free [] k h = tt
one_free (x ∷ rest) k h = h x rest

two_free : (st : List ℤ) (k : ℤ → ℤ → List ℤ → Deed) → ((x y : ℤ) (rest : List ℤ) → Stays (k x y rest)) → Stays (on_two st k)
two_free [] k h = tt
two_free (y ∷ []) k h = tt
two_free (y ∷ x ∷ rest) k h = h x y rest

pushed_free : (pc : ℕ) (v : Option ℤ) (st : List ℤ) → Stays (pushed pc v st)
pushed_free pc (Some v) st = tt
pushed_free pc None st = tt

pointed_free : (pc : ℕ) (v : Option ℤ) (st : List ℤ) → Stays (pointed pc v st)
pointed_free pc (Some v) st = tt
pointed_free pc None st = tt

unary_free : (pc : ℕ) (st : List ℤ) (f : ℤ → Option ℤ) → Stays (unary pc st f)
unary_free pc st f = one_free st _ (λ x rest. pushed_free pc (f x) rest)

binary_free : (pc : ℕ) (st : List ℤ) (f : ℤ → ℤ → Option ℤ) → Stays (binary pc st f)
binary_free pc st f = two_free st _ (λ x y rest. pushed_free pc (f x y) rest)

cell_free : (pc : ℕ) (st : List ℤ) (o : Option ℕ) (n : ℕ) → Stays (cell_of_frame pc st o n)
cell_free pc st (Some b) n = tt
cell_free pc st None n = tt

load_free : (pc : ℕ) (st : List ℤ) (o : Option ℕ) (n : ℕ) → Stays (load_of_frame pc st o n)
load_free pc st (Some b) n = λ v. tt
load_free pc st None n = tt

store_free : (pc : ℕ) (st : List ℤ) (a : ℤ) → Stays (store_to pc st a)
store_free pc st a = one_free st _ (λ x rest. tt)

store_outer_free : (pc : ℕ) (st : List ℤ) (o : Option ℕ) (n : ℕ) → Stays (store_of_frame pc st o n)
store_outer_free pc st (Some b) n = store_free pc st _
store_outer_free pc st None n = tt

stored_free : (pc : ℕ) (a : ℤ) (v : Option ℤ) (st : List ℤ) → Stays (stored pc a v st)
stored_free pc a (Some v) st = tt
stored_free pc a None st = tt

item_free : (pc : ℕ) (o : Option ℤ) (st : List ℤ) → Stays (item_at pc o st)
item_free pc (Some a) st = λ v. tt
item_free pc None st = tt

stepped_free : (pc : ℕ) (st : List ℤ) (a : ℤ) (b : Bool) (v : ℤ) (to : ℕ) → Stays (stepped pc st a b v to)
stepped_free pc st a true v to = tt
stepped_free pc st a false v to = tt

stores_free : (vs : List ℤ) (a : ℤ) (d : Deed) → Stays d → Stays (stores_all vs a d)
stores_free [] a d h = h
stores_free (v ∷ vs) a d h = stores_free vs _ d h

loads_free : (n : ℕ) (a : ℤ) (k : List ℤ → Deed) → ((vs : List ℤ) → Stays (k vs)) → Stays (loads_all n a k)
loads_free zero a k h = h []
loads_free (suc n) a k h = λ v. loads_free n _ (λ vs. k (v ∷ vs)) (λ vs. h (v ∷ vs))

called_free : (st : List ℤ) (o : Option CodeSub) → Stays (called st o)
called_free st (Some f) = tt
called_free st None = tt

called_at_free : (n to : ℕ) (fit : Bool) (st : List ℤ) (o : Option CodeSub) → Stays (called_at n to fit st o)
called_at_free n to fit st (Some f) = tt
called_at_free n to fit st None = tt

combining_free : (o : Option CodeSub) (acc : ℤ) (st : List ℤ) → Stays (combining o acc st)
combining_free (Some f) acc st = tt
combining_free None acc st = tt

can_free : (b : Bool) (q : Asked) (st : List ℤ) → Stays (cond b (Forks q st) (Fails StorageError st))
can_free true q st = tt
can_free false q st = tt

forked_free : (site : ℕ) (st : List ℤ) → Stays (forked site st)
forked_free site [] = tt
forked_free site (a ∷ []) = tt
forked_free site (a ∷ b ∷ []) = tt
forked_free site (a ∷ b ∷ d ∷ []) = tt
forked_free site (a ∷ b ∷ d ∷ e ∷ []) = tt
forked_free site (initial ∷ last_chunk ∷ chunk ∷ last ∷ first ∷ st) = can_free (can_fork (many first last) (many chunk last_chunk)) (asked site first last chunk last_chunk initial) st

pub leaves_by : (c : Code) (pc : ℕ) (st : List ℤ) (base : ℕ) (outward : List ℕ) (i : Instr) → Leaver i ⊎ Stays (deed_of c pc st base outward i)
leaves_by c pc st base outward (Push v) = inr tt
leaves_by c pc st base outward Pop = inr (one_free st _ (λ x rest. tt))
leaves_by c pc st base outward Dup = inr (one_free st _ (λ x rest. tt))
leaves_by c pc st base outward Swap = inr (two_free st _ (λ x y rest. tt))
leaves_by c pc st base outward (Local n) = inr tt
leaves_by c pc st base outward (Outer k n) = inr (cell_free pc st _ n)
leaves_by c pc st base outward (Global n) = inr tt
leaves_by c pc st base outward (Index lo hi size) = inr (two_free st _ (λ a i rest. pointed_free pc (indexed lo hi size a i) rest))
leaves_by c pc st base outward (Field n) = inr (one_free st _ (λ a rest. tt))
leaves_by c pc st base outward Load = inr (one_free st _ (λ x rest. λ v. tt))
leaves_by c pc st base outward Store = inr (two_free st _ (λ x y rest. tt))
leaves_by c pc st base outward (Copy n) = inr (two_free st _ (λ x y rest. loads_free n y (λ vs. stores_all vs x (GoesOn (pc + 1) rest)) (λ vs. stores_free vs x (GoesOn (pc + 1) rest) tt)))
leaves_by c pc st base outward (Fill n v) = inr (one_free st _ (λ x rest. stores_free (replicate n v) x (GoesOn (pc + 1) rest) tt))
leaves_by c pc st base outward (Add kind) = inr (binary_free pc st (λ x y. applied op.Add kind x y))
leaves_by c pc st base outward (Sub kind) = inr (binary_free pc st (λ x y. applied op.Sub kind x y))
leaves_by c pc st base outward (Mul kind) = inr (binary_free pc st (λ x y. applied op.Mul kind x y))
leaves_by c pc st base outward (Div kind) = inr (binary_free pc st (λ x y. applied op.Div kind x y))
leaves_by c pc st base outward (Mod kind) = inr (binary_free pc st (λ x y. applied op.Mod kind x y))
leaves_by c pc st base outward (Rem kind) = inr (binary_free pc st (λ x y. applied op.Rem kind x y))
leaves_by c pc st base outward (Pow kind) = inr (binary_free pc st (λ x y. applied op.Pow kind x y))
leaves_by c pc st base outward (Neg kind) = inr (unary_free pc st (λ x. negated kind x))
leaves_by c pc st base outward (Abs kind) = inr (unary_free pc st (λ x. unsigned kind x))
leaves_by c pc st base outward Max = inr (binary_free pc st (λ x y. Some (int_max x y)))
leaves_by c pc st base outward Min = inr (binary_free pc st (λ x y. Some (int_min x y)))
leaves_by c pc st base outward Eq = inr (binary_free pc st (λ x y. Some (bit (is_related Equal x y))))
leaves_by c pc st base outward Ne = inr (binary_free pc st (λ x y. Some (bit (is_related Unequal x y))))
leaves_by c pc st base outward Lt = inr (binary_free pc st (λ x y. Some (bit (is_related Less x y))))
leaves_by c pc st base outward Le = inr (binary_free pc st (λ x y. Some (bit (is_related AtMost x y))))
leaves_by c pc st base outward Gt = inr (binary_free pc st (λ x y. Some (bit (is_related Greater x y))))
leaves_by c pc st base outward Ge = inr (binary_free pc st (λ x y. Some (bit (is_related AtLeast x y))))
leaves_by c pc st base outward (Far n) = inr (binary_free pc st (λ x y. Some (bit (is_far n x y))))
leaves_by c pc st base outward And = inr (binary_free pc st (λ x y. Some (digits_of Both x y)))
leaves_by c pc st base outward Or = inr (binary_free pc st (λ x y. Some (digits_of Either x y)))
leaves_by c pc st base outward Xor = inr (binary_free pc st (λ x y. Some (digits_of Differ x y)))
leaves_by c pc st base outward Not = inr (unary_free pc st (λ x. Some (bit (not (truth x)))))
leaves_by c pc st base outward (Range lo hi) = inr (unary_free pc st (λ x. if_between lo hi x))
leaves_by c pc st base outward (Jump to) = inr tt
leaves_by c pc st base outward (JFalse to) = inr (one_free st _ (λ x rest. tt))
leaves_by c pc st base outward (JTrue to) = inr (one_free st _ (λ x rest. tt))
leaves_by c pc st base outward Turn = inr tt
leaves_by c pc st base outward (Call sub) = inr (called_free st _)
leaves_by c pc st base outward (CallAt sub n) = inr (called_at_free n _ true st _)
leaves_by c pc st base outward (CallTo sub n to) = inr (one_free st _ (λ x rest. called_at_free n to (truth x) rest _))
leaves_by c pc st base outward Part = inr tt
leaves_by c pc st base outward (Repeat n) = inr tt
leaves_by c pc st base outward (Again to) = inr tt
leaves_by c pc st base outward Ret = inr tt
leaves_by c pc st base outward RetV = inr (one_free st _ (λ x rest. tt))
leaves_by c pc st base outward (Raise reason) = inr tt
leaves_by c pc st base outward Reraise = inr (one_free st _ (λ x rest. tt))
leaves_by c pc st base outward (Exit loop) = inl tt
leaves_by c pc st base outward LeaveNow = inl tt
leaves_by c pc st base outward LeaveV = inl tt
leaves_by c pc st base outward (Fork site) = inr (forked_free site st)
leaves_by c pc st base outward Nest = inr tt
leaves_by c pc st base outward Unnest = inr tt
leaves_by c pc st base outward (Words text) = inr tt
leaves_by c pc st base outward Img = inr (one_free st _ (λ x rest. tt))
leaves_by c pc st base outward BoolImage = inr (one_free st _ (λ x rest. tt))
leaves_by c pc st base outward (Wide width) = inr (one_free st _ (λ x rest. tt))
leaves_by c pc st base outward Send = inr tt
leaves_by c pc st base outward SendLn = inr tt
leaves_by c pc st base outward Get = inr tt
leaves_by c pc st base outward End = inr tt
leaves_by c pc st base outward EndV = inr (one_free st _ (λ x rest. tt))
leaves_by c pc st base outward Halt = inr tt
leaves_by c pc st base outward (Combine sub) = inr (one_free st _ (λ x rest. combining_free _ _ _))
leaves_by c pc st base outward (LoadL n) = inr (λ v. tt)
leaves_by c pc st base outward (LoadO k n) = inr (load_free pc st _ n)
leaves_by c pc st base outward (LoadG n) = inr (λ v. tt)
leaves_by c pc st base outward (StoreL n) = inr (store_free pc st _)
leaves_by c pc st base outward (StoreO k n) = inr (store_outer_free pc st _ n)
leaves_by c pc st base outward (StoreG n) = inr (store_free pc st _)
leaves_by c pc st base outward (SetL n lo hi) = inr (one_free st _ (λ x rest. stored_free pc _ (if_between lo hi x) rest))
leaves_by c pc st base outward (AddI v kind) = inr (unary_free pc st (λ x. applied op.Add kind x v))
leaves_by c pc st base outward (SubI v kind) = inr (unary_free pc st (λ x. applied op.Sub kind x v))
leaves_by c pc st base outward (MulI v kind) = inr (unary_free pc st (λ x. applied op.Mul kind x v))
leaves_by c pc st base outward (ModI v kind) = inr (unary_free pc st (λ x. applied op.Mod kind x v))
leaves_by c pc st base outward (IndexL n lo hi size) = inr (λ i. one_free st _ (λ a rest. pointed_free pc (indexed lo hi size a i) rest))
leaves_by c pc st base outward (Item lo hi size) = inr (two_free st _ (λ x y rest. item_free pc _ _))
leaves_by c pc st base outward (ItemL n lo hi size) = inr (λ i. one_free st _ (λ x rest. item_free pc _ _))
leaves_by c pc st base outward (IndexG g lo hi size n) = inr (λ i. pointed_free pc (indexed lo hi size (pos g) i) st)
leaves_by c pc st base outward (ItemG g lo hi size n) = inr (λ i. item_free pc (indexed lo hi size (pos g) i) st)
leaves_by c pc st base outward (JfEq to) = inr (two_free st _ (λ x y rest. tt))
leaves_by c pc st base outward (JfNe to) = inr (two_free st _ (λ x y rest. tt))
leaves_by c pc st base outward (JfLt to) = inr (two_free st _ (λ x y rest. tt))
leaves_by c pc st base outward (JfLe to) = inr (two_free st _ (λ x y rest. tt))
leaves_by c pc st base outward (JfGt to) = inr (two_free st _ (λ x y rest. tt))
leaves_by c pc st base outward (JfGe to) = inr (two_free st _ (λ x y rest. tt))
leaves_by c pc st base outward (Next n m to) = inr (λ x. λ y. stepped_free pc st _ _ _ to)
leaves_by c pc st base outward (Prior n m to) = inr (λ x. λ y. stepped_free pc st _ _ _ to)
leaves_by c pc st base outward Flip = inr (unary_free pc st (λ x. Some (bit (not (truth x)))))
leaves_by c pc st base outward Differ = inr (binary_free pc st (λ x y. Some (bit (differ (truth x) (truth y)))))
leaves_by c pc st base outward (BNot k) = inr (unary_free pc st (λ x. Some (complemented k x)))
leaves_by c pc st base outward ULt = inr (two_free st _ (λ x y rest. tt))
leaves_by c pc st base outward ULe = inr (two_free st _ (λ x y rest. tt))
leaves_by c pc st base outward UGt = inr (two_free st _ (λ x y rest. tt))
leaves_by c pc st base outward UGe = inr (two_free st _ (λ x y rest. tt))
leaves_by c pc st base outward UMax = inr (two_free st _ (λ x y rest. tt))
leaves_by c pc st base outward UMin = inr (two_free st _ (λ x y rest. tt))
leaves_by c pc st base outward (URange lo hi) = inr (unary_free pc st (λ x. if_among lo hi x))
leaves_by c pc st base outward (USetL n lo hi) = inr (one_free st _ (λ x rest. stored_free pc _ (if_among lo hi x) rest))
leaves_by c pc st base outward UImg = inr (one_free st _ (λ x rest. tt))
