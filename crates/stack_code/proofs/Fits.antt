-- Each instruction that finds its operands does a deed that fits.
use Rattle.std.proofs.Common.{◌≡◌, ℕ, zero, suc, ◌+◌, ◌-◌, ◌<◌, ◌≤◌, ℤ, pos, ◌+ℤ◌, ◌-ℤ◌, replicate, List, [], ◌∷◌, length, get_or, Option, Some, None, Bool, true, false, cond, refl, sym, ap, subst, inl, inr, arith}
use Rattle.std.specs.Prelude.{slice_get, IsSome, not}
use Rattle.std.proofs.lemmas.Option.{slice_get-get_or}
use Rattle.std.proofs.lemmas.Bool.{false≢true}
use Rattle.stack_code.specs.declared.code.Code.{Code}
use Rattle.stack_code.specs.declared.code.CodeSub.{CodeSub}
use Rattle.stack_code.specs.declared.instr.Instr.{Instr}
use Rattle.stack_code.specs.declared.instr.Instr.TheVariants.{Push, Pop, Dup, Swap, Local, Outer, Global, Index, Field, Load, Store, Copy, Fill, Add, Sub, Mul, Div, Mod, Rem, Pow, Neg, Abs, Max, Min, Eq, Ne, Lt, Le, Gt, Ge, Far, And, Or, Xor, Not, Range, Jump, JFalse, JTrue, Turn, Call, CallAt, CallTo, Ret, RetV, Raise, Reraise, Exit, Leave as LeaveNow, LeaveV, Fork, Nest, Unnest, Words, Img, Bool as BoolImage, Wide, Send, SendLn, Get, End, EndV, Halt, Combine, Part, Repeat, Again, LoadL, LoadO, LoadG, StoreL, StoreO, StoreG, SetL, AddI, SubI, MulI, ModI, IndexL, Item, ItemL, IndexG, ItemG, JfEq, JfNe, JfLt, JfLe, JfGt, JfGe, Next, Prior, Flip, Differ, BNot, ULt, ULe, UGt, UGe, UMax, UMin, URange, USetL, UImg}
use Rattle.stack_code.specs.declared.path.Asked.{Asked}
use Rattle.stack_code.specs.declared.flow.Flow.TheVariants.{On, Branch}
use Rattle.stack_code.specs.Operands.{takes, pushes, flow_of}
use Rattle.stack_code.specs.Deeds.{Deed, GoesOn, Fails, Forks, on_one, on_two, pushed, unary, binary, unless, cell_of_frame, load_from, load_of_frame, store_to, store_of_frame, item_at, pointed, stored, if_between, if_among, complemented, stepped, loads_all, stores_all, called, called_at, combining, can_fork, many, asked, forked, deed_of, truth, differ, bit, indexed, is_related}
use Rattle.stack_code.specs.declared.operators.Relation.{Relation}
use Rattle.stack_code.specs.declared.operators.Relation.TheVariants.{Equal, Unequal, Less, AtMost, Greater, AtLeast}
use Rattle.ada_base.specs.declared.reason.Reason.TheVariants.{StorageError}
use Rattle.stack_code.specs.Fits.{Finds, IsCallAt, IsFit, IsNext, IsCalm}

module _ (c : Code) (pc : ℕ) (i : Instr) (calm : IsCalm i) where
  one_fit : (st : List ℤ) (k : ℤ → List ℤ → Deed) → 1 ≤ length st → ((x : ℤ) (rest : List ℤ) → IsFit c pc (x ∷ rest) i (k x rest)) → IsFit c pc st i (on_one st k)
  one_fit [] k l h = absurd (omega (arith, l))
  one_fit (x ∷ rest) k l h = h x rest

  two_fit : (st : List ℤ) (k : ℤ → ℤ → List ℤ → Deed) → 2 ≤ length st → ((x y : ℤ) (rest : List ℤ) → IsFit c pc (y ∷ x ∷ rest) i (k x y rest)) → IsFit c pc st i (on_two st k)
  two_fit [] k l h = absurd (omega (arith, l))
  two_fit (y ∷ []) k l h = absurd (omega (arith, l))
  two_fit (y ∷ x ∷ rest) k l h = h x y rest

  next_fit : flow_of i ≡ On → IsNext pc (flow_of i) (pc + 1)
  next_fit f = subst (λ w. IsNext pc w (pc + 1)) (sym f) refl

  -- a value is pushed in the place of the operands
  pushed_fit : (st rest : List ℤ) (v : Option ℤ) → takes c i + length rest ≡ length st → pushes c i ≡ 1 → flow_of i ≡ On → IsFit c pc st i (pushed pc v rest)
  pushed_fit st rest (Some v) l p f = (omega (arith, l, p), next_fit f, calm)
  pushed_fit st rest None l p f = (omega (arith, l), calm)

  unary_fit : (st : List ℤ) (f : ℤ → Option ℤ) → 1 ≤ length st → takes c i ≡ 1 → pushes c i ≡ 1 → flow_of i ≡ On → IsFit c pc st i (unary pc st f)
  unary_fit st f l t p w = one_fit st _ l (λ x rest. pushed_fit (x ∷ rest) rest (f x) (omega (arith, t)) p w)

  binary_fit : (st : List ℤ) (f : ℤ → ℤ → Option ℤ) → 2 ≤ length st → takes c i ≡ 2 → pushes c i ≡ 1 → flow_of i ≡ On → IsFit c pc st i (binary pc st f)
  binary_fit st f l t p w = two_fit st _ l (λ x y rest. pushed_fit (y ∷ x ∷ rest) rest (f x y) (omega (arith, t)) p w)

  cell_fit : (st : List ℤ) (outward : List ℕ) (k n : ℕ) → (0 < k) × (k ≤ length outward) → takes c i ≡ 0 → pushes c i ≡ 1 → flow_of i ≡ On → IsFit c pc st i (cell_of_frame pc st (slice_get outward (k - 1)) n)
  cell_fit st outward k n l t p f = subst (λ o. IsFit c pc st i (cell_of_frame pc st o n)) (sym (slice_get-get_or outward (k - 1) 0 (omega (arith, l.0, l.1)))) (omega (arith, t, p), next_fit f, calm)

  -- a cell's value is pushed in the place of the operands
  load_fit : (st rest : List ℤ) (a : ℤ) → takes c i + length rest ≡ length st → pushes c i ≡ 1 → flow_of i ≡ On → IsFit c pc st i (load_from pc rest a)
  load_fit st rest a l p f = λ v. (omega (arith, l, p), next_fit f, calm)

  load_outer_fit : (st : List ℤ) (outward : List ℕ) (k n : ℕ) → (0 < k) × (k ≤ length outward) → takes c i ≡ 0 → pushes c i ≡ 1 → flow_of i ≡ On → IsFit c pc st i (load_of_frame pc st (slice_get outward (k - 1)) n)
  load_outer_fit st outward k n l t p f = subst (λ o. IsFit c pc st i (load_of_frame pc st o n)) (sym (slice_get-get_or outward (k - 1) 0 (omega (arith, l.0, l.1)))) (load_fit st st (pos (get_or outward (k - 1) 0 + n)) (omega (arith, t)) p f)

  store_fit : (st : List ℤ) (a : ℤ) → 1 ≤ length st → takes c i ≡ 1 → pushes c i ≡ 0 → flow_of i ≡ On → IsFit c pc st i (store_to pc st a)
  store_fit st a l t p f = one_fit st _ l (λ x rest. (omega (arith, t, p), next_fit f, calm))

  store_outer_fit : (st : List ℤ) (outward : List ℕ) (k n : ℕ) → (0 < k) × (k ≤ length outward) → 1 ≤ length st → takes c i ≡ 1 → pushes c i ≡ 0 → flow_of i ≡ On → IsFit c pc st i (store_of_frame pc st (slice_get outward (k - 1)) n)
  store_outer_fit st outward k n q l t p f = subst (λ o. IsFit c pc st i (store_of_frame pc st o n)) (sym (slice_get-get_or outward (k - 1) 0 (omega (arith, q.0, q.1)))) (store_fit st _ l t p f)

  stored_fit : (st rest : List ℤ) (a : ℤ) (v : Option ℤ) → takes c i + length rest ≡ length st → pushes c i ≡ 0 → flow_of i ≡ On → IsFit c pc st i (stored pc a v rest)
  stored_fit st rest a (Some v) l p f = (omega (arith, l, p), next_fit f, calm)
  stored_fit st rest a None l p f = (omega (arith, l), calm)

  -- an address is pushed in the place of the operands
  pointed_fit : (st rest : List ℤ) (a : Option ℤ) → takes c i + length rest ≡ length st → pushes c i ≡ 1 → flow_of i ≡ On → IsFit c pc st i (pointed pc a rest)
  pointed_fit st rest (Some a) l p f = (omega (arith, l, p), next_fit f, calm)
  pointed_fit st rest None l p f = (omega (arith, l), calm)

  item_fit : (st rest : List ℤ) (a : Option ℤ) → takes c i + length rest ≡ length st → pushes c i ≡ 1 → flow_of i ≡ On → IsFit c pc st i (item_at pc a rest)
  item_fit st rest (Some a) l p f = load_fit st rest a l p f
  item_fit st rest None l p f = (omega (arith, l), calm)

  stepped_fit : (st : List ℤ) (a v : ℤ) (b : Bool) (to : ℕ) → takes c i ≡ 0 → pushes c i ≡ 0 → flow_of i ≡ Branch to → IsFit c pc st i (stepped pc st a b v to)
  stepped_fit st a v true to t p f = (omega (arith, t, p), subst (λ w. IsNext pc w to) (sym f) (inl refl), calm)
  stepped_fit st a v false to t p f = (omega (arith, t, p), subst (λ w. IsNext pc w (pc + 1)) (sym f) (inr refl), calm)

  loads_fit : (st : List ℤ) (n : ℕ) (a : ℤ) (k : List ℤ → Deed) → ((vs : List ℤ) → IsFit c pc st i (k vs)) → IsFit c pc st i (loads_all n a k)
  loads_fit st zero a k h = h []
  loads_fit st (suc n) a k h = λ v. loads_fit st n (a +ℤ pos 1) (λ vs. k (v ∷ vs)) (λ vs. h (v ∷ vs))

  stores_fit : (st vs : List ℤ) (a : ℤ) (d : Deed) → IsFit c pc st i d → IsFit c pc st i (stores_all vs a d)
  stores_fit st [] a d h = h
  stores_fit st (v ∷ vs) a d h = stores_fit st vs (a +ℤ pos 1) d h

  branch_fit : (b : Bool) (t to to' : ℕ) → IsNext pc (Branch t) to → IsNext pc (Branch t) to' → IsNext pc (Branch t) (cond b to to')
  branch_fit true t to to' h g = h
  branch_fit false t to to' h g = g

  unless_fit : (st : List ℤ) (r : Relation) (t : ℕ) → 2 ≤ length st → takes c i ≡ 2 → pushes c i ≡ 0 → flow_of i ≡ Branch t → IsFit c pc st i (unless pc st r t)
  unless_fit st r t l a p f = two_fit st _ l (λ x y rest. (omega (arith, a, p), subst (λ w. IsNext pc w (cond (is_related r x y) (pc + 1) t)) (sym f) (branch_fit (is_related r x y) t (pc + 1) t (inr refl) (inl refl)), calm))

called_fit : (c : Code) (pc sub : ℕ) (st : List ℤ) (o : Option CodeSub) → slice_get c.subs sub ≡ o → IsSome o → IsFit c pc st (Call sub) (called st o)
called_fit c pc sub st None e h = absurd (false≢true h)
called_fit c pc sub st (Some f) e h = (sub, refl, e)

called_at_fit : (c : Code) (pc : ℕ) (i : Instr) (sub n to : ℕ) (fit : Bool) (st rest : List ℤ) (o : Option CodeSub) → IsCallAt pc i sub n to → length rest + takes c i ≡ length st → slice_get c.subs sub ≡ o → IsSome o → IsFit c pc st i (called_at n to fit rest o)
called_at_fit c pc i sub n to fit st rest None k l e h = absurd (false≢true h)
called_at_fit c pc i sub n to fit st rest (Some f) k l e h = (sub, k, e, l)

combining_fit : (c : Code) (pc sub : ℕ) (acc : ℤ) (rest : List ℤ) (o : Option CodeSub) → slice_get c.subs sub ≡ o → IsSome o → IsFit c pc (acc ∷ rest) (Combine sub) (combining o acc rest)
combining_fit c pc sub acc rest None e h = absurd (false≢true h)
combining_fit c pc sub acc rest (Some f) e h = (sub, refl, e, refl)

can_fit : (c : Code) (pc site : ℕ) (st rest : List ℤ) (b : Bool) (q : Asked) → q.site ≡ site → length rest + 5 ≡ length st → IsFit c pc st (Fork site) (cond b (Forks q rest) (Fails StorageError rest))
can_fit c pc site st rest true q e l = (ap (λ k. Fork k) (sym e), l)
can_fit c pc site st rest false q e l = (l, tt)

forked_fit : (c : Code) (pc site : ℕ) (st : List ℤ) → 5 ≤ length st → IsFit c pc st (Fork site) (forked site st)
forked_fit c pc site [] l = absurd (omega (arith, l))
forked_fit c pc site (a ∷ []) l = absurd (omega (arith, l))
forked_fit c pc site (a ∷ b ∷ []) l = absurd (omega (arith, l))
forked_fit c pc site (a ∷ b ∷ d ∷ []) l = absurd (omega (arith, l))
forked_fit c pc site (a ∷ b ∷ d ∷ e ∷ []) l = absurd (omega (arith, l))
forked_fit c pc site (initial ∷ last_chunk ∷ chunk ∷ last ∷ first ∷ st) l = can_fit c pc site (initial ∷ last_chunk ∷ chunk ∷ last ∷ first ∷ st) st (can_fork (many first last) (many chunk last_chunk)) (asked site first last chunk last_chunk initial) refl (omega arith)

pub fits : (c : Code) (pc : ℕ) (st : List ℤ) (base : ℕ) (outward : List ℕ) (i : Instr) → takes c i ≤ length st → Finds c outward i → IsFit c pc st i (deed_of c pc st base outward i)
fits c pc st base outward (Push v) l h = (omega arith, refl, tt)
fits c pc st base outward Pop l h = one_fit c pc Pop tt st _ l (λ x rest. (omega arith, refl, tt))
fits c pc st base outward Dup l h = one_fit c pc Dup tt st _ l (λ x rest. (omega arith, refl, tt))
fits c pc st base outward Swap l h = two_fit c pc Swap tt st _ l (λ x y rest. (omega arith, refl, tt))
fits c pc st base outward (Local n) l h = (omega arith, refl, tt)
fits c pc st base outward (Outer k n) l h = cell_fit c pc (Outer k n) tt st outward k n h refl refl refl
fits c pc st base outward (Global n) l h = (omega arith, refl, tt)
fits c pc st base outward (Index lo hi size) l h = two_fit c pc (Index lo hi size) tt st _ l (λ x y rest. pointed_fit c pc (Index lo hi size) tt (y ∷ x ∷ rest) rest (indexed lo hi size x y) (omega arith) refl refl)
fits c pc st base outward (Field n) l h = one_fit c pc (Field n) tt st _ l (λ x rest. (omega arith, refl, tt))
fits c pc st base outward Load l h = one_fit c pc Load tt st _ l (λ x rest. load_fit c pc Load tt (x ∷ rest) rest x (omega arith) refl refl)
fits c pc st base outward Store l h = two_fit c pc Store tt st _ l (λ x y rest. (omega arith, refl, tt))
fits c pc st base outward (Copy n) l h = two_fit c pc (Copy n) tt st _ l (λ x y rest. loads_fit c pc (Copy n) tt (y ∷ x ∷ rest) n y (λ vs. stores_all vs x (GoesOn (pc + 1) rest)) (λ vs. stores_fit c pc (Copy n) tt (y ∷ x ∷ rest) vs x (GoesOn (pc + 1) rest) (omega arith, refl, tt)))
fits c pc st base outward (Fill n v) l h = one_fit c pc (Fill n v) tt st _ l (λ x rest. stores_fit c pc (Fill n v) tt (x ∷ rest) (replicate n v) x (GoesOn (pc + 1) rest) (omega arith, refl, tt))
fits c pc st base outward (Add kind) l h = binary_fit c pc (Add kind) tt st _ l refl refl refl
fits c pc st base outward (Sub kind) l h = binary_fit c pc (Sub kind) tt st _ l refl refl refl
fits c pc st base outward (Mul kind) l h = binary_fit c pc (Mul kind) tt st _ l refl refl refl
fits c pc st base outward (Div kind) l h = binary_fit c pc (Div kind) tt st _ l refl refl refl
fits c pc st base outward (Mod kind) l h = binary_fit c pc (Mod kind) tt st _ l refl refl refl
fits c pc st base outward (Rem kind) l h = binary_fit c pc (Rem kind) tt st _ l refl refl refl
fits c pc st base outward (Pow kind) l h = binary_fit c pc (Pow kind) tt st _ l refl refl refl
fits c pc st base outward (Neg kind) l h = unary_fit c pc (Neg kind) tt st _ l refl refl refl
fits c pc st base outward (Abs kind) l h = unary_fit c pc (Abs kind) tt st _ l refl refl refl
fits c pc st base outward Max l h = two_fit c pc Max tt st _ l (λ x y rest. (omega arith, refl, tt))
fits c pc st base outward Min l h = two_fit c pc Min tt st _ l (λ x y rest. (omega arith, refl, tt))
fits c pc st base outward Eq l h = two_fit c pc Eq tt st _ l (λ x y rest. (omega arith, refl, tt))
fits c pc st base outward Ne l h = two_fit c pc Ne tt st _ l (λ x y rest. (omega arith, refl, tt))
fits c pc st base outward Lt l h = two_fit c pc Lt tt st _ l (λ x y rest. (omega arith, refl, tt))
fits c pc st base outward Le l h = two_fit c pc Le tt st _ l (λ x y rest. (omega arith, refl, tt))
fits c pc st base outward Gt l h = two_fit c pc Gt tt st _ l (λ x y rest. (omega arith, refl, tt))
fits c pc st base outward Ge l h = two_fit c pc Ge tt st _ l (λ x y rest. (omega arith, refl, tt))
fits c pc st base outward (Far n) l h = two_fit c pc (Far n) tt st _ l (λ x y rest. (omega arith, refl, tt))
fits c pc st base outward And l h = two_fit c pc And tt st _ l (λ x y rest. (omega arith, refl, tt))
fits c pc st base outward Or l h = two_fit c pc Or tt st _ l (λ x y rest. (omega arith, refl, tt))
fits c pc st base outward Xor l h = two_fit c pc Xor tt st _ l (λ x y rest. (omega arith, refl, tt))
fits c pc st base outward Not l h = one_fit c pc Not tt st _ l (λ x rest. (omega arith, refl, tt))
fits c pc st base outward (Range lo hi) l h = unary_fit c pc (Range lo hi) tt st _ l refl refl refl
fits c pc st base outward (Jump to) l h = (omega arith, refl, tt)
fits c pc st base outward (JFalse to) l h = one_fit c pc (JFalse to) tt st _ l (λ x rest. (omega arith, branch_fit c pc (JFalse to) tt (truth x) to (pc + 1) to (inr refl) (inl refl), tt))
fits c pc st base outward (JTrue to) l h = one_fit c pc (JTrue to) tt st _ l (λ x rest. (omega arith, branch_fit c pc (JTrue to) tt (truth x) to to (pc + 1) (inl refl) (inr refl), tt))
fits c pc st base outward Turn l h = refl
fits c pc st base outward (Call sub) l h = called_fit c pc sub st (slice_get c.subs sub) refl h
fits c pc st base outward (CallAt sub n) l h = called_at_fit c pc (CallAt sub n) sub n (pc + 1) true st st (slice_get c.subs sub) (refl, refl, refl) (omega arith) refl h
fits c pc st base outward (CallTo sub n to) l h = one_fit c pc (CallTo sub n to) tt st _ l (λ x rest. called_at_fit c pc (CallTo sub n to) sub n to (truth x) (x ∷ rest) rest (slice_get c.subs sub) (refl, refl, refl) (omega arith) refl h)
fits c pc st base outward Part l h = refl
fits c pc st base outward (Repeat n) l h = refl
fits c pc st base outward (Again to) l h = refl
fits c pc st base outward Ret l h = (tt, omega arith)
fits c pc st base outward RetV l h = one_fit c pc RetV tt st _ l (λ x rest. (tt, omega arith))
fits c pc st base outward (Raise reason) l h = (omega arith, tt)
fits c pc st base outward Reraise l h = one_fit c pc Reraise tt st _ l (λ x rest. (omega arith, tt))
fits c pc st base outward (Exit loop) l h = tt
fits c pc st base outward LeaveNow l h = tt
fits c pc st base outward LeaveV l h = one_fit c pc LeaveV tt st _ l (λ x rest. tt)
fits c pc st base outward (Fork site) l h = forked_fit c pc site st l
fits c pc st base outward Nest l h = refl
fits c pc st base outward Unnest l h = refl
fits c pc st base outward (Words text) l h = (omega arith, refl, tt)
fits c pc st base outward Img l h = one_fit c pc Img tt st _ l (λ x rest. (omega arith, refl, tt))
fits c pc st base outward BoolImage l h = one_fit c pc BoolImage tt st _ l (λ x rest. (omega arith, refl, tt))
fits c pc st base outward (Wide width) l h = one_fit c pc (Wide width) tt st _ l (λ x rest. (omega arith, refl, tt))
fits c pc st base outward Send l h = inl refl
fits c pc st base outward SendLn l h = inr refl
fits c pc st base outward Get l h = refl
fits c pc st base outward End l h = tt
fits c pc st base outward EndV l h = one_fit c pc EndV tt st _ l (λ x rest. tt)
fits c pc st base outward Halt l h = tt
fits c pc st base outward (Combine sub) l h = one_fit c pc (Combine sub) tt st _ l (λ acc rest. combining_fit c pc sub acc rest (slice_get c.subs sub) refl h)
fits c pc st base outward (LoadL n) l h = load_fit c pc (LoadL n) tt st st (pos (base + n)) (omega arith) refl refl
fits c pc st base outward (LoadO k n) l h = load_outer_fit c pc (LoadO k n) tt st outward k n h refl refl refl
fits c pc st base outward (LoadG n) l h = load_fit c pc (LoadG n) tt st st (pos n) (omega arith) refl refl
fits c pc st base outward (StoreL n) l h = store_fit c pc (StoreL n) tt st _ l refl refl refl
fits c pc st base outward (StoreO k n) l h = store_outer_fit c pc (StoreO k n) tt st outward k n h l refl refl refl
fits c pc st base outward (StoreG n) l h = store_fit c pc (StoreG n) tt st _ l refl refl refl
fits c pc st base outward (SetL n lo hi) l h = one_fit c pc (SetL n lo hi) tt st _ l (λ x rest. stored_fit c pc (SetL n lo hi) tt (x ∷ rest) rest (pos (base + n)) (if_between lo hi x) (omega arith) refl refl)
fits c pc st base outward (AddI v kind) l h = unary_fit c pc (AddI v kind) tt st _ l refl refl refl
fits c pc st base outward (SubI v kind) l h = unary_fit c pc (SubI v kind) tt st _ l refl refl refl
fits c pc st base outward (MulI v kind) l h = unary_fit c pc (MulI v kind) tt st _ l refl refl refl
fits c pc st base outward (ModI v kind) l h = unary_fit c pc (ModI v kind) tt st _ l refl refl refl
fits c pc st base outward (IndexL n lo hi size) l h = λ k. one_fit c pc (IndexL n lo hi size) tt st _ l (λ x rest. pointed_fit c pc (IndexL n lo hi size) tt (x ∷ rest) rest (indexed lo hi size x k) (omega arith) refl refl)
fits c pc st base outward (Item lo hi size) l h = two_fit c pc (Item lo hi size) tt st _ l (λ x y rest. item_fit c pc (Item lo hi size) tt (y ∷ x ∷ rest) rest (indexed lo hi size x y) (omega arith) refl refl)
fits c pc st base outward (ItemL n lo hi size) l h = λ k. one_fit c pc (ItemL n lo hi size) tt st _ l (λ x rest. item_fit c pc (ItemL n lo hi size) tt (x ∷ rest) rest (indexed lo hi size x k) (omega arith) refl refl)
fits c pc st base outward (IndexG g lo hi size n) l h = λ k. pointed_fit c pc (IndexG g lo hi size n) tt st st (indexed lo hi size (pos g) k) (omega arith) refl refl
fits c pc st base outward (ItemG g lo hi size n) l h = λ k. item_fit c pc (ItemG g lo hi size n) tt st st (indexed lo hi size (pos g) k) (omega arith) refl refl
fits c pc st base outward (JfEq to) l h = unless_fit c pc (JfEq to) tt st Equal to l refl refl refl
fits c pc st base outward (JfNe to) l h = unless_fit c pc (JfNe to) tt st Unequal to l refl refl refl
fits c pc st base outward (JfLt to) l h = unless_fit c pc (JfLt to) tt st Less to l refl refl refl
fits c pc st base outward (JfLe to) l h = unless_fit c pc (JfLe to) tt st AtMost to l refl refl refl
fits c pc st base outward (JfGt to) l h = unless_fit c pc (JfGt to) tt st Greater to l refl refl refl
fits c pc st base outward (JfGe to) l h = unless_fit c pc (JfGe to) tt st AtLeast to l refl refl refl
fits c pc st base outward (Next n m to) l h = λ x y. stepped_fit c pc (Next n m to) tt st _ _ _ to refl refl refl
fits c pc st base outward (Prior n m to) l h = λ x y. stepped_fit c pc (Prior n m to) tt st _ _ _ to refl refl refl
fits c pc st base outward Flip l h = unary_fit c pc Flip tt st (λ x. Some (bit (not (truth x)))) l refl refl refl
fits c pc st base outward Differ l h = binary_fit c pc Differ tt st (λ x y. Some (bit (differ (truth x) (truth y)))) l refl refl refl
fits c pc st base outward (BNot k) l h = unary_fit c pc (BNot k) tt st (λ x. Some (complemented k x)) l refl refl refl
fits c pc st base outward ULt l h = two_fit c pc ULt tt st _ l (λ x y rest. (omega arith, refl, tt))
fits c pc st base outward ULe l h = two_fit c pc ULe tt st _ l (λ x y rest. (omega arith, refl, tt))
fits c pc st base outward UGt l h = two_fit c pc UGt tt st _ l (λ x y rest. (omega arith, refl, tt))
fits c pc st base outward UGe l h = two_fit c pc UGe tt st _ l (λ x y rest. (omega arith, refl, tt))
fits c pc st base outward UMax l h = two_fit c pc UMax tt st _ l (λ x y rest. (omega arith, refl, tt))
fits c pc st base outward UMin l h = two_fit c pc UMin tt st _ l (λ x y rest. (omega arith, refl, tt))
fits c pc st base outward (URange lo hi) l h = unary_fit c pc (URange lo hi) tt st _ l refl refl refl
fits c pc st base outward (USetL n lo hi) l h = one_fit c pc (USetL n lo hi) tt st _ l (λ x rest. stored_fit c pc (USetL n lo hi) tt (x ∷ rest) rest (pos (base + n)) (if_among lo hi x) (omega arith) refl refl)
fits c pc st base outward UImg l h = one_fit c pc UImg tt st _ l (λ x rest. (omega arith, refl, tt))
