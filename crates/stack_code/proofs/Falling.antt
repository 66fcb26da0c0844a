-- In forward code something falls at each step.
use Rattle.std.proofs.Common.{◌≡◌, ℕ, zero, suc, ◌+◌, ◌-◌, ◌*◌, ◌<◌, ◌≤◌, ℤ, pos, List, [], ◌∷◌, ◌++◌, length, drop, Option, Some, None, Bool, true, false, cond, refl, sym, ap, ◌∙◌, subst, inl, inr, ⊎_elim, arith}
use Rattle.std.specs.Prelude.{◌⊎◌, slice_get, nat_eq, nat_lt}
use Rattle.std.proofs.lemmas.Bool.{ltb-true, eqb-true}
use Rattle.std.proofs.lemmas.Option.{slice_get_within}
use Rattle.ada_base.specs.declared.reason.Reason.{Reason}
use Rattle.ada_base.specs.declared.reason.Reason.TheVariants.{ConstraintError, StorageError}
use Rattle.stack_code.specs.declared.code.Around.{Around}
use Rattle.stack_code.specs.declared.code.Code.{Code}
use Rattle.stack_code.specs.declared.code.CodeSub.{CodeSub}
use Rattle.stack_code.specs.declared.code.Unwind.{Unwind}
use Rattle.stack_code.specs.declared.instr.Instr.{Instr}
use Rattle.stack_code.specs.declared.instr.Instr.TheVariants.{Combine, Part, Repeat, Again, Turn, Nest, Unnest}
use Rattle.stack_code.specs.declared.path.Round.{Round}
use Rattle.stack_code.specs.declared.flow.Flow.{Flow}
use Rattle.stack_code.specs.declared.flow.Flow.TheVariants.{On, To, Branch, Back, Round as RoundTo, Ends as Nowhere}
use Rattle.stack_code.specs.Operands.{flow_of}
use Rattle.stack_code.specs.Valid.{IsValid}
use Rattle.ada_base.specs.Cells.{Cell, seen, written}
use Rattle.stack_code.specs.Deeds.{Deed, Lacks, GoesOn, Fails, Loads, Stores, Points, Turns, Calls, CallsAt, Combines, Draws, Repeats, Rounds, Ends, Leaves, Forks, Nests, Unnests, Writes, Sends, Gets, Gives, deed_of}
use Rattle.stack_code.specs.Fits.{IsFit, IsNext, IsCalm}
use Rattle.stack_code.specs.Machine.{Frame, State, Went, Goes, Stops, Spent, points, if_pointing, look_by, look, with_value, with_cells, cut, on, moved_to, failed, entered, entered_at, ended, pushed_for, entry_of, handled, unwound, raised, turned, entering, calling, entering_at, calling_at, combining, drawing, another, rounding, ending, nesting, done, acted, stepped, step}
use Rattle.stack_code.specs.Stands.{Stands, IsForward, IsTarget, wait, cost, cost_from, cost_of_rounds, cost_of_waiting, way, rank, Falls}
use Rattle.stack_code.proofs.Standing.{Here, here_of, fit_of, entry_holds, instr_there}

-- ---- what a list costs

cost_rest : (i : Instr) (is : List Instr) → cost is < cost (i ∷ is)
cost_rest (Repeat n) is = omega arith
cost_rest i is = omega arith

pub cost_later : (is : List Instr) (p q : ℕ) → p ≤ q → cost (drop q is) ≤ cost (drop p is)
cost_later [] zero zero l = omega arith
cost_later [] zero (suc q) l = omega arith
cost_later [] (suc p) zero l = absurd (omega (arith, l))
cost_later [] (suc p) (suc q) l = omega arith
cost_later (i ∷ is) zero zero l = omega arith
cost_later (i ∷ is) zero (suc q) l =
    let h : cost (drop q is) ≤ cost is = cost_later is zero q (omega arith) in
    let g = cost_rest i is in
    omega (arith, h, g)
cost_later (i ∷ is) (suc p) zero l = absurd (omega (arith, l))
cost_later (i ∷ is) (suc p) (suc q) l = cost_later is p q (omega (arith, l))

-- a list from one of its instructions on
drop_at : (is : List Instr) (p : ℕ) (i : Instr) → slice_get is p ≡ Some i → drop p is ≡ i ∷ drop (p + 1) is
drop_at [] p i e = cc
drop_at (x ∷ xs) zero i e = let same : x ≡ i = cc in ap (λ y. y ∷ xs) same
drop_at (x ∷ xs) (suc p) i e = let further : suc p + 1 ≡ suc (p + 1) = omega arith in drop_at xs p i e ∙ ap (λ n. i ∷ drop n (x ∷ xs)) (sym further)

pub cost_passed : (is : List Instr) (p q : ℕ) (i : Instr) → slice_get is p ≡ Some i → p < q → cost (drop q is) < cost (drop p is)
cost_passed is p q i e l =
    let h = cost_later is (p + 1) q (omega (arith, l)) in
    let g = cost_rest i (drop (p + 1) is) in
    let d : cost (drop p is) ≡ cost (i ∷ drop (p + 1) is) = ap cost (drop_at is p i e) in
    omega (arith, h, g, d)

module _ (c : Code) (low : Around) (limit : ℕ) where
  wait_most : (o : Option Instr) (n : ℕ) → wait o n ≤ n
  wait_most (Some Turn) n = omega arith
  wait_most (Some i) n = omega arith
  wait_most None n = omega arith

  -- any way is short of a turn or a call
  way_short : (o : Option Reason) (pc : ℕ) → way c o pc < 4 * cost c.instrs + 4
  way_short None pc = let w = wait_most (slice_get c.instrs pc) (cost c.instrs + 1) in let l : cost_from c pc ≤ cost c.instrs = cost_later c.instrs 0 pc (omega arith) in omega (arith, w, l)
  way_short (Some r) pc = let l : cost_from c pc ≤ cost c.instrs = cost_later c.instrs 0 pc (omega arith) in omega (arith, l)

  product_falls : (a b n w v x y : ℕ) → a < b → w < n → x ≤ y → a * n + w + x < b * n + v + y
  product_falls a b n w v x y l h g =
      let d : b ≡ suc a + (b - suc a) = omega (arith, l) in
      let e : b * n ≡ (suc a + (b - suc a)) * n = ap (λ k. k * n) d in
      let f : (suc a + (b - suc a)) * n ≡ a * n + n + (b - suc a) * n = grind arith in
      omega (arith, e, f, h, g)

  -- what rounds cost that follow
  abbrev rounds_cost : State → ℕ
  rounds_cost s = cost_of_rounds c s.rounds + cost_of_waiting c s.waiting

  -- fewer turns left or calls
  fewer : (s t : State) → 2 * (limit - t.turns) + length t.waiting < 2 * (limit - s.turns) + length s.waiting → rounds_cost t ≤ rounds_cost s → rank c limit t < rank c limit s
  fewer s t l r = product_falls (2 * (limit - t.turns) + length t.waiting) (2 * (limit - s.turns) + length s.waiting) (4 * cost c.instrs + 4) (way c t.raising t.pc) (way c s.raising s.pc) (rounds_cost t) (rounds_cost s) l (way_short t.raising t.pc) r

  -- a shorter way, rounds included
  nearer : (s t : State) → t.turns ≡ s.turns → length t.waiting ≡ length s.waiting → way c t.raising t.pc + rounds_cost t < way c s.raising s.pc + rounds_cost s → rank c limit t < rank c limit s
  nearer s t e f l =
      let same : (2 * (limit - t.turns) + length t.waiting) * (4 * cost c.instrs + 4) ≡ (2 * (limit - s.turns) + length s.waiting) * (4 * cost c.instrs + 4) = ap (λ n. (2 * (limit - n) + length t.waiting) * (4 * cost c.instrs + 4)) e ∙ ap (λ n. (2 * (limit - s.turns) + n) * (4 * cost c.instrs + 4)) f in
      omega (arith, same, l)

  -- ---- steps of any kind

  value_falls : (o : Option ℤ) (r : ℕ) (s : State) (k : ℤ → Went) → s.turns ≤ limit → ((v : ℤ) → Falls c limit r (k v)) → Falls c limit r (with_value o s k)
  value_falls None r s k t h = t
  value_falls (Some v) r s k t h = h v

  cells_falls : (o : Option (List Cell)) (r : ℕ) (s : State) (k : State → Went) → s.turns ≤ limit → ((cells : List Cell) → Falls c limit r (k (record s { cells = cells }))) → Falls c limit r (with_cells o s k)
  cells_falls None r s k t h = t
  cells_falls (Some cells) r s k t h = h cells

  pointing_falls : (b : Bool) (r : ℕ) (s : State) (w : Went) → s.turns ≤ limit → Falls c limit r w → Falls c limit r (if_pointing b s w)
  pointing_falls true r s w t h = h
  pointing_falls false r s w t h = t

  look_falls : (o : Option ℕ) (r : ℕ) (s : State) (k : State → Went) → s.turns ≤ limit → ((l : Option ℕ) → Falls c limit r (k (record s { left = l }))) → Falls c limit r (look_by o s k)
  look_falls None r s k t h = h s.left
  look_falls (Some zero) r s k t h = t
  look_falls (Some (suc n)) r s k t h = h (Some n)

  cond_falls : (b : Bool) (r : ℕ) (x y : Went) → (b ≡ true → Falls c limit r x) → Falls c limit r y → Falls c limit r (cond b x y)
  cond_falls true r x y h g = h refl
  cond_falls false r x y h g = g

  turned_falls : (r : ℕ) (s : State) (k : State → Went) → s.turns ≤ limit → ((l : Option ℕ) → s.turns < limit → Falls c limit r (k (record s { left = l; turns = s.turns + 1 }))) → Falls c limit r (turned limit s k)
  turned_falls r s k t h = look_falls s.left r s (λ s. cond (nat_lt s.turns limit) (k (record s { turns = s.turns + 1 })) (Stops Spent s)) t
      (λ l. cond_falls (nat_lt s.turns limit) r (k (record s { left = l; turns = s.turns + 1 })) (Stops Spent (record s { left = l })) (λ b. h l (ltb-true s.turns limit b)) t)

  -- ---- instructions

  module _ (valid : IsValid c) (forward : IsForward c) where
    calm_wait : (i : Instr) → IsCalm i → (n : ℕ) → wait (Some i) n ≡ n
    calm_wait Turn h n = absurd h
    calm_wait i h n = refl

    forward_next : (pc : ℕ) (i : Instr) (f : Flow) (to : ℕ) → flow_of i ≡ f → slice_get c.instrs pc ≡ Some i → IsNext pc f to → (pc < to) ⊎ (slice_get c.instrs to ≡ Some Turn)
    forward_next pc i On to w e n = inl (omega (arith, n))
    forward_next pc i (To t) to w e n = forward.jumps pc i to e (subst (λ g. IsTarget g to) (sym w) n)
    forward_next pc i (Branch t) to w e n = ⊎_elim (λ (q : to ≡ t). forward.jumps pc i to e (subst (λ g. IsTarget g to) (sym w) q)) (λ (q : to ≡ pc + 1). inl (omega (arith, q))) n
    forward_next pc i (Back t) to w e n = absurd n
    forward_next pc i (RoundTo t) to w e n = inl (omega (arith, n))
    forward_next pc i Nowhere to w e n = absurd n

    -- from an instruction that begins no turn to one that may follow
    way_next : (pc : ℕ) (i : Instr) (to : ℕ) → wait (Some i) (cost c.instrs + 1) ≡ cost c.instrs + 1 → slice_get c.instrs pc ≡ Some i → (pc < to) ⊎ (slice_get c.instrs to ≡ Some Turn) → way c None to < way c None pc
    way_next pc i to q e (inl l) =
        let w = wait_most (slice_get c.instrs to) (cost c.instrs + 1) in
        let h : wait (slice_get c.instrs pc) (cost c.instrs + 1) ≡ cost c.instrs + 1 = ap (λ o. wait o (cost c.instrs + 1)) e ∙ q in
        let n : cost_from c to < cost_from c pc = cost_passed c.instrs pc to i e l in
        omega (arith, w, h, n)
    way_next pc i to q e (inr t) =
        let w : wait (slice_get c.instrs to) (cost c.instrs + 1) ≡ 0 = ap (λ o. wait o (cost c.instrs + 1)) t in
        let h : wait (slice_get c.instrs pc) (cost c.instrs + 1) ≡ cost c.instrs + 1 = ap (λ o. wait o (cost c.instrs + 1)) e ∙ q in
        let n : cost_from c to ≤ cost c.instrs = cost_later c.instrs 0 to (omega arith) in
        omega (arith, w, h, n)

    way_failed : (r : Reason) (pc : ℕ) (i : Instr) → wait (Some i) (cost c.instrs + 1) ≡ cost c.instrs + 1 → slice_get c.instrs pc ≡ Some i → way c (Some r) pc < way c None pc
    way_failed r pc i q e =
        let h : wait (slice_get c.instrs pc) (cost c.instrs + 1) ≡ cost c.instrs + 1 = ap (λ o. wait o (cost c.instrs + 1)) e ∙ q in
        omega (arith, h)

    goes_falls : (s t : State) (i : Instr) → Here c low valid s i → wait (Some i) (cost c.instrs + 1) ≡ cost c.instrs + 1 → IsNext s.pc (flow_of i) t.pc → s.turns ≤ limit → t.turns ≡ s.turns → t.waiting ≡ s.waiting → t.raising ≡ s.raising
        → cost_of_rounds c t.rounds ≤ cost_of_rounds c s.rounds → Falls c limit (rank c limit s) (Goes t)
    goes_falls s t i h q n l e f g r =
        let w : way c None t.pc < way c None s.pc = way_next s.pc i t.pc q h.instr (forward_next s.pc i (flow_of i) t.pc refl h.instr n) in
        let a : way c s.raising s.pc ≡ way c None s.pc = ap (λ o. way c o s.pc) h.calm in
        let b : way c t.raising t.pc ≡ way c None t.pc = ap (λ o. way c o t.pc) (g ∙ h.calm) in
        let d : cost_of_waiting c t.waiting ≡ cost_of_waiting c s.waiting = ap (cost_of_waiting c) f in
        (nearer s t e (ap length f) (omega (arith, w, a, b, d, r)), omega (arith, l, e))

    fails_falls : (s t : State) (i : Instr) (r : Reason) → Here c low valid s i → wait (Some i) (cost c.instrs + 1) ≡ cost c.instrs + 1 → s.turns ≤ limit → t.pc ≡ s.pc → t.turns ≡ s.turns → t.waiting ≡ s.waiting → t.raising ≡ Some r
        → cost_of_rounds c t.rounds ≤ cost_of_rounds c s.rounds → Falls c limit (rank c limit s) (Goes t)
    fails_falls s t i r h q l p e f g k =
        let w : way c (Some r) s.pc < way c None s.pc = way_failed r s.pc i q h.instr in
        let a : way c s.raising s.pc ≡ way c None s.pc = ap (λ o. way c o s.pc) h.calm in
        let b : way c t.raising t.pc ≡ way c (Some r) s.pc = ap (λ o. way c o t.pc) g ∙ ap (λ n. way c (Some r) n) p in
        let d : cost_of_waiting c t.waiting ≡ cost_of_waiting c s.waiting = ap (cost_of_waiting c) f in
        (nearer s t e (ap length f) (omega (arith, w, a, b, d, k)), omega (arith, l, e))

    entering_falls : (s : State) (f : CodeSub) (to : ℕ) (kept st : List ℤ) (left : Option ℕ) → s.turns < limit → Falls c limit (rank c limit s) (entering limit f to kept (record s { stack = st; left = left; turns = s.turns + 1 }))
    entering_falls s f to kept st left t = cond_falls (nat_lt s.calls 1000) (rank c limit s) (Goes (entered f to kept (record s { stack = st; left = left; turns = s.turns + 1 }))) (Goes (failed StorageError (cut (length st - f.takes) st) (record s { stack = st; left = left; turns = s.turns + 1 })))
        (λ b. (fewer s (entered f to kept (record s { stack = st; left = left; turns = s.turns + 1 })) (omega (arith, t)) (omega arith), omega (arith, t)))
        (fewer s (failed StorageError (cut (length st - f.takes) st) (record s { stack = st; left = left; turns = s.turns + 1 })) (omega (arith, t)) (omega arith), omega (arith, t))

    calling_falls : (s : State) (f : CodeSub) (to : ℕ) (kept : List ℤ) → s.turns ≤ limit → Falls c limit (rank c limit s) (calling limit f to kept s)
    calling_falls s f to kept l = turned_falls (rank c limit s) s (λ s. entering limit f to kept s) l (λ left t. entering_falls s f to kept s.stack left t)

    calling_at_falls : (s : State) (f : CodeSub) (n to : ℕ) (fit : Bool) (st : List ℤ) → s.turns ≤ limit → Falls c limit (rank c limit s) (calling_at limit f n to fit st s)
    calling_at_falls s f n to fit st l = turned_falls (rank c limit s) s (λ s. entering_at limit f n to fit (record s { stack = st })) l (λ left t.
        let x : State = record s { left = left; turns = s.turns + 1; stack = st } in
        cond_falls (nat_lt s.calls 1000) (rank c limit s) (cond fit (Goes (entered_at f n to x)) (Goes (failed ConstraintError st x))) (Goes (failed StorageError st x))
        (λ b. cond_falls fit (rank c limit s) (Goes (entered_at f n to x)) (Goes (failed ConstraintError st x))
        (λ b. (fewer s (entered_at f n to x) (omega (arith, t)) (omega arith), omega (arith, t)))
        (fewer s (failed ConstraintError st x) (omega (arith, t)) (omega arith), omega (arith, t)))
        (fewer s (failed StorageError st x) (omega (arith, t)) (omega arith), omega (arith, t)))

    combining_falls : (s : State) (sub : ℕ) (f : CodeSub) (acc : ℤ) (st parts : List ℤ) → Here c low valid s (Combine sub) → s.turns ≤ limit → Falls c limit (rank c limit s) (combining limit f acc st parts s)
    combining_falls s sub f acc st [] h l = goes_falls s (on (acc ∷ st) s) (Combine sub) h refl refl l refl refl refl (omega arith)
    combining_falls s sub f acc st (part ∷ parts) h l = turned_falls (rank c limit s) s (λ s. entering limit f s.pc parts (record s { stack = part ∷ acc ∷ st })) l (λ left t. entering_falls s f s.pc parts (part ∷ acc ∷ st) left t)

    drawing_falls : (s : State) (parts : List ℤ) → Here c low valid s Part → s.turns ≤ limit → Falls c limit (rank c limit s) (drawing limit parts s)
    drawing_falls s [] h l = goes_falls s (on (pos 0 ∷ pos 0 ∷ s.stack) s) Part h refl refl l refl refl refl (omega arith)
    drawing_falls s (part ∷ parts) h l = goes_falls s (on (pos 1 ∷ part ∷ s.stack) (record s { kept = parts })) Part h refl refl l refl refl refl (omega arith)

    -- the first of the rounds that follow begins, and pays for the way back
    round_falls : (s : State) (to head n : ℕ) (rs : List Round) → Here c low valid s (Again to) → s.turns ≤ limit → cost_of_rounds c s.rounds ≡ suc n * (2 * cost_from c head) + cost_of_rounds c rs → head ≡ to
        → Falls c limit (rank c limit s) (Goes (moved_to to s.stack (record s { rounds = record { more = n; head = head } ∷ rs })))
    round_falls s to head n rs h l e same =
        let t : State = moved_to to s.stack (record s { rounds = record { more = n; head = head } ∷ rs }) in
        let a : way c s.raising s.pc ≡ way c None s.pc = ap (λ o. way c o s.pc) h.calm in
        let b : way c t.raising to ≡ way c None to = ap (λ o. way c o to) h.calm in
        let w = wait_most (slice_get c.instrs to) (cost c.instrs + 1) in
        let q : wait (slice_get c.instrs s.pc) (cost c.instrs + 1) ≡ cost c.instrs + 1 = ap (λ o. wait o (cost c.instrs + 1)) h.instr in
        let p : cost_from c (s.pc + 1) < cost_from c s.pc = cost_passed c.instrs s.pc (s.pc + 1) (Again to) h.instr (omega arith) in
        let k : cost_from c head ≡ cost_from c to = ap (cost_from c) same in
        let m : suc n * (2 * cost_from c head) ≡ 2 * cost_from c head + n * (2 * cost_from c head) = grind arith in
        (nearer s t refl refl (omega (arith, a, b, w, q, p, k, m, e)), l)

    another_falls : (s : State) (to head more : ℕ) (rs : List Round) → Here c low valid s (Again to) → s.turns ≤ limit → cost_of_rounds c s.rounds ≡ more * (2 * cost_from c head) + cost_of_rounds c rs → Falls c limit (rank c limit s) (another limit to head more rs s)
    another_falls s to head zero rs h l e = goes_falls s (on s.stack (record s { rounds = rs })) (Again to) h refl refl l refl refl refl (omega (arith, e))
    another_falls s to head (suc n) rs h l e = cond_falls (nat_eq head to) (rank c limit s)
        (Goes (moved_to to s.stack (record s { rounds = record { more = n; head = head } ∷ rs })))
        (Goes (on s.stack (record s { rounds = rs })))
        (λ b. round_falls s to head n rs h l e (eqb-true head to b))
        (goes_falls s (on s.stack (record s { rounds = rs })) (Again to) h refl refl l refl refl refl (omega (arith, e)))

    rounding_falls : (s : State) (to : ℕ) (rs : List Round) → Here c low valid s (Again to) → s.turns ≤ limit → s.rounds ≡ rs → Falls c limit (rank c limit s) (rounding limit to rs s)
    rounding_falls s to [] h l e = goes_falls s (on s.stack s) (Again to) h refl refl l refl refl refl (omega arith)
    rounding_falls s to (r ∷ rs) h l e = another_falls s to r.head r.more rs h l (ap (cost_of_rounds c) e)

    -- a part costs what all its rounds do
    repeating_falls : (s : State) (n : ℕ) → Here c low valid s (Repeat n) → s.turns ≤ limit → Falls c limit (rank c limit s) (done limit (Repeats n) s)
    repeating_falls s n h l =
        let t : State = on s.stack (record s { rounds = record { more = n - 1; head = s.pc + 1 } ∷ s.rounds }) in
        let a : way c s.raising s.pc ≡ way c None s.pc = ap (λ o. way c o s.pc) h.calm in
        let b : way c t.raising (s.pc + 1) ≡ way c None (s.pc + 1) = ap (λ o. way c o (s.pc + 1)) h.calm in
        let w = wait_most (slice_get c.instrs (s.pc + 1)) (cost c.instrs + 1) in
        let q : wait (slice_get c.instrs s.pc) (cost c.instrs + 1) ≡ cost c.instrs + 1 = ap (λ o. wait o (cost c.instrs + 1)) h.instr in
        let p : cost_from c s.pc ≡ suc (cost_from c (s.pc + 1) + (n - 1) * cost_from c (s.pc + 1)) = ap cost (drop_at c.instrs s.pc (Repeat n) h.instr) in
        let m : (n - 1) * (2 * cost_from c (s.pc + 1)) ≡ 2 * ((n - 1) * cost_from c (s.pc + 1)) = grind arith in
        (nearer s t refl refl (omega (arith, a, b, w, q, p, m)), l)

    ending_falls : (s : State) (v : Option ℤ) (st : List ℤ) (fs : List Frame) → s.waiting ≡ fs → s.turns ≤ limit → Falls c limit (rank c limit s) (ending limit v st fs s)
    ending_falls s v st [] e l = l
    ending_falls s v st (f ∷ fs) e l = (fewer s (ended f fs f.to (pushed_for v (cut s.floor st)) s) (omega (arith, ap length e)) (omega (arith, ap (cost_of_waiting c) e)), l)

    done_falls : (d : Deed) (s : State) (r : ℕ) (i : Instr) → Here c low valid s i → IsFit c s.pc s.stack i d → s.turns ≤ limit → rank c limit s ≡ r → Falls c limit r (done limit d s)
    done_falls Lacks s r i h f l e = absurd f
    done_falls (GoesOn to st) s r i h f l e = subst (λ n. Falls c limit n (Goes (moved_to to st s))) e (goes_falls s (moved_to to st s) i h (calm_wait i f.2 (cost c.instrs + 1)) f.1 l refl refl refl (omega arith))
    done_falls (Fails q st) s r i h f l e = subst (λ n. Falls c limit n (Goes (failed q st s))) e (fails_falls s (failed q st s) i q h (calm_wait i f.1 (cost c.instrs + 1)) l refl refl refl refl (omega arith))
    done_falls (Loads a k) s r i h f l e = value_falls (seen s.cells a) r s (λ v. done limit (k v) s) l (λ v. done_falls (k v) s r i h (f v) l e)
    done_falls (Stores a v d) s r i h f l e = cells_falls (written s.cells a v) r s (λ s. done limit d s) l (λ cells. done_falls d (record s { cells = cells }) r i (here_cells s i cells h) f l e)
      where
        here_cells : (s : State) (i : Instr) (cells : List Cell) → Here c low valid s i → Here c low valid (record s { cells = cells }) i
        here_cells s i cells h = record { spot = h.spot; at = h.at; instr = h.instr; fits = h.fits; height = h.height; calm = h.calm; nest = h.nest; within = h.within; chain = h.chain }
    done_falls (Points a d) s r i h f l e = pointing_falls (points s.cells a) r s (done limit d s) l (done_falls d s r i h f l e)
    done_falls Turns s r i h f l e = subst (λ n. Falls c limit n (turned limit s (λ s. Goes (on s.stack s)))) e
        (turned_falls (rank c limit s) s (λ s. Goes (on s.stack s)) l (λ left t. (fewer s (on s.stack (record s { left = left; turns = s.turns + 1 })) (omega (arith, t)) (omega arith), omega (arith, t))))
    done_falls (Calls f) s r i h w l e = subst (λ n. Falls c limit n (calling limit f (s.pc + 1) s.kept s)) e (calling_falls s f (s.pc + 1) s.kept l)
    done_falls (CallsAt f n to fit st) s r i h w l e = subst (λ k. Falls c limit k (calling_at limit f n to fit st s)) e (calling_at_falls s f n to fit st l)
    done_falls (Combines f acc st) s r i h w l e = subst (λ n. Falls c limit n (combining limit f acc st s.kept s)) e (combining_falls s w.0 f acc st s.kept (subst (Here c low valid s) w.1 h) l)
    done_falls Draws s r i h w l e = subst (λ n. Falls c limit n (drawing limit s.kept s)) e (drawing_falls s s.kept (subst (Here c low valid s) w h) l)
    done_falls (Repeats n) s r i h w l e = subst (λ k. Falls c limit k (done limit (Repeats n) s)) e (repeating_falls s n (subst (Here c low valid s) w h) l)
    done_falls (Rounds to) s r i h w l e = subst (λ n. Falls c limit n (rounding limit to s.rounds s)) e (rounding_falls s to s.rounds (subst (Here c low valid s) w h) l refl)
    done_falls (Ends v st) s r i h f l e = subst (λ n. Falls c limit n (ending limit v st s.waiting s)) e (ending_falls s v st s.waiting refl l)
    done_falls (Leaves x st) s r i h f l e = l
    done_falls (Forks q st) s r i h f l e = l
    done_falls Nests s r i h f l e =
        let g : Here c low valid s Nest = subst (Here c low valid s) f h in
        subst (λ n. Falls c limit n (look s (nesting limit))) e
        (look_falls s.left (rank c limit s) s (nesting limit) l (λ left. cond_falls (nat_lt s.nested 16) (rank c limit s)
        (Goes (on s.stack (record s { left = left; nest = s.nest + 1; nested = s.nested + 1 })))
        (Goes (failed StorageError s.stack (record s { left = left })))
        (λ b. goes_falls s (on s.stack (record s { left = left; nest = s.nest + 1; nested = s.nested + 1 })) Nest g refl refl l refl refl refl (omega arith))
        (fails_falls s (failed StorageError s.stack (record s { left = left })) Nest StorageError g refl l refl refl refl refl (omega arith))))
    done_falls Unnests s r i h f l e =
        let g : Here c low valid s Unnest = subst (Here c low valid s) f h in
        subst (λ n. Falls c limit n (done limit Unnests s)) e (goes_falls s (on s.stack (record s { nest = s.nest - 1; nested = s.nested - 1 })) Unnest g refl refl l refl refl refl (omega arith))
    done_falls (Writes text st) s r i h f l e = subst (λ n. Falls c limit n (done limit (Writes text st) s)) e
        (goes_falls s (on st (record s { line = s.line ++ text })) i h (calm_wait i f.2 (cost c.instrs + 1)) (subst (λ w. IsNext s.pc w (s.pc + 1)) (sym f.1) refl) l refl refl refl (omega arith))
    done_falls (Sends feed) s r i h f l e = l
    done_falls Gets s r i h f l e = l
    done_falls (Gives v st) s r i h f l e = l

    -- ---- raises

    unwound_falls : (s : State) (r : Reason) (fs : List Frame) → s.waiting ≡ fs → s.turns ≤ limit → Falls c limit (rank c limit s) (unwound r fs s)
    unwound_falls s r [] e l = l
    unwound_falls s r (f ∷ fs) e l = (fewer s (ended f fs f.at (cut s.floor s.stack) s) (omega (arith, ap length e)) (omega (arith, ap (cost_of_waiting c) e)), l)

    handled_falls : (s : State) (r : Reason) (u : Unwind) → s.raising ≡ Some r → entry_of c.unwind s.pc ≡ Some u → s.pc < length c.instrs → s.turns ≤ limit → (left : Option ℕ) → Falls c limit (rank c limit s) (Goes (handled u r (record s { left = left })))
    handled_falls s r u e o n l left =
        let k = entry_holds c low valid c.unwind s.pc u o in
        let p = forward.handlers k.0 u s.pc k.1 k.2 in
        let w = wait_most (slice_get c.instrs u.handler) (cost c.instrs + 1) in
        let a : way c s.raising s.pc ≡ way c (Some r) s.pc = ap (λ o. way c o s.pc) e in
        let i = instr_there c s.pc n in
        let d : cost_from c u.handler < cost_from c s.pc = cost_passed c.instrs s.pc u.handler i.0 i.1 p in
        (nearer s (handled u r (record s { left = left })) refl refl (omega (arith, w, a, d)), l)

    raised_falls : (s : State) (r : Reason) (o : Option Unwind) → s.raising ≡ Some r → entry_of c.unwind s.pc ≡ o → s.pc < length c.instrs → s.turns ≤ limit → Falls c limit (rank c limit s) (raised r o s)
    raised_falls s r (Some u) e o n l = look_falls s.left (rank c limit s) s (λ s. Goes (handled u r s)) l (λ left. handled_falls s r u e o n l left)
    raised_falls s r None e o n l = unwound_falls s r s.waiting refl l

    acted_falls : (s : State) (o : Option Instr) → Stands c low s → s.raising ≡ None → slice_get c.instrs s.pc ≡ o → s.turns ≤ limit → Falls c limit (rank c limit s) (acted limit c o s)
    acted_falls s None h e f l = l
    acted_falls s (Some i) h e f l = let w = here_of c low valid s i h e f in done_falls (deed_of c s.pc s.stack s.base s.outward i) s (rank c limit s) i w (fit_of c low valid s i w) l refl

    stepped_falls : (s : State) (o : Option Reason) → Stands c low s → s.raising ≡ o → s.turns ≤ limit → Falls c limit (rank c limit s) (stepped limit c o s)
    stepped_falls s None h e l = acted_falls s (slice_get c.instrs s.pc) h e refl l
    stepped_falls s (Some r) h e l = raised_falls s r (entry_of c.unwind s.pc) e refl (let w = slice_get_within c.spots s.pc h.spot h.at in omega (arith, w, valid.spots)) l

    -- one step of a path that stands
    pub falls : (s : State) → Stands c low s → s.turns ≤ limit → Falls c limit (rank c limit s) (step limit c s)
    falls s h l = stepped_falls s s.raising h refl l
