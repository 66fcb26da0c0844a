-- A path in valid code keeps standing, and never goes astray.
use Rattle.std.proofs.Common.{◌≡◌, ℕ, zero, suc, ◌+◌, ◌-◌, ◌<◌, ◌≤◌, ℤ, pos, List, [], ◌∷◌, length, get_or, Option, Some, None, Bool, true, false, cond, refl, sym, ap, ◌∙◌, subst, ⊎_elim, arith}
use Rattle.std.proofs.lemmas.Bool.{false≢true, ltb-true, ltb-false}
use Rattle.std.specs.Prelude.{IsSome, IsSomeAnd, slice_get, nat_eq, nat_lt}
use Rattle.std.proofs.lemmas.List.{length-drop}
use Rattle.std.proofs.lemmas.Option.{slice_get_within, slice_get-get_or}
use Rattle.ada_base.specs.declared.reason.Reason.{Reason}
use Rattle.ada_base.specs.declared.reason.Reason.TheVariants.{ConstraintError, StorageError}
use Rattle.stack_code.specs.declared.code.Around.{Around}
use Rattle.stack_code.specs.declared.code.Around.TheVariants.{Sub, Site}
use Rattle.stack_code.specs.declared.code.Code.{Code}
use Rattle.stack_code.specs.declared.code.CodeSub.{CodeSub}
use Rattle.stack_code.specs.declared.code.Spot.{Spot}
use Rattle.stack_code.specs.declared.code.Unwind.{Unwind}
use Rattle.stack_code.specs.declared.instr.Instr.{Instr}
use Rattle.stack_code.specs.declared.instr.Instr.TheVariants.{Fork, Outer, LoadO, StoreO, Call, CallAt, CallTo, Combine, Part, Repeat, Again, Turn, Nest, Unnest, Ret, RetV}
use Rattle.stack_code.specs.declared.path.Round.{Round}
use Rattle.stack_code.specs.declared.flow.Flow.{Flow}
use Rattle.stack_code.specs.declared.flow.Flow.TheVariants.{On, To, Branch, Back, Round as RoundTo, Ends as Nowhere}
use Rattle.stack_code.specs.Operands.{takes, taken_by, pushes, given_by, nest_after, flow_of}
use Rattle.stack_code.specs.Valid.{Has, HasFrame, Lands, Leads, Belongs, SpotFits, IsValid, Holds, outward}
use Rattle.ada_base.specs.Cells.{Cell, seen, written}
use Rattle.stack_code.specs.Deeds.{Deed, Lacks, GoesOn, Fails, Loads, Stores, Points, Turns, Calls, CallsAt, Combines, Draws, Repeats, Rounds, Ends, Leaves, Forks, Nests, Unnests, Writes, Sends, Gets, Gives, deed_of}
use Rattle.stack_code.specs.Fits.{Finds, IsCallAt, IsFit, IsNext, IsCalm, IsReturn}
use Rattle.stack_code.specs.Machine.{Frame, State, Went, Goes, points, if_pointing, look_by, look, with_value, with_cells, cut, on, moved_to, failed, entered, entered_at, pushed_for, entry_of, handled, unwound, raised, turned, entering, calling, entering_at, calling_at, combining, drawing, another, rounding, ending, nesting, done, acted, stepped, step}
use Rattle.stack_code.specs.Stands.{IsOuter, IsCall, Waits, Chain, Height, StandsIn, Stands, Keeps}
use Rattle.stack_code.proofs.Fits.{fits}

module _ {A : Type 0} where
  pub has_fact : (o : Option A) (P : A → Type 0) (x : A) → IsSomeAnd o P → o ≡ Some x → P x
  has_fact o P x h e = subst (λ w. IsSomeAnd w P) e h

  pub has_one : (o : Option A) (P : A → Type 0) → IsSomeAnd o P → (x : A) × (o ≡ Some x) × P x
  has_one None P h = absurd h
  has_one (Some x) P h = (x, refl, h)

  some_and : (o : Option A) (P : A → Type 0) → IsSomeAnd o P → IsSome o
  some_and None P h = absurd h
  some_and (Some x) P h = refl

there : {A : Type 0} (xs : List A) (k : ℕ) → k < length xs → IsSome (slice_get xs k)
there [] k l = absurd (omega (arith, l))
there (x ∷ xs) zero l = refl
there (x ∷ xs) (suc k) l = there xs k (omega (arith, l))

pub instr_there : (c : Code) (k : ℕ) → k < length c.instrs → (i : Instr) × (slice_get c.instrs k ≡ Some i)
instr_there c k l = (get_or c.instrs k Turn, slice_get-get_or c.instrs k Turn l)

pub lands_next : (c : Code) (pc : ℕ) (b : Around) (h n : ℕ) (f : Flow) (to : ℕ) → Leads c pc b h n f → IsNext pc f to → Lands c b h n to
lands_next c pc b h n On to l e = subst (Lands c b h n) (sym e) l
lands_next c pc b h n (To t) to l e = subst (Lands c b h n) (sym e) l
lands_next c pc b h n (Branch t) to l e = ⊎_elim (λ (w : to ≡ t). subst (Lands c b h n) (sym w) l.0) (λ (w : to ≡ pc + 1). subst (Lands c b h n) (sym w) l.1) e
lands_next c pc b h n (Back t) to l e = absurd e
lands_next c pc b h n (RoundTo t) to l e = subst (Lands c b h n) (sym e) l.1
lands_next c pc b h n Nowhere to l e = absurd e

calm_nest : (i : Instr) → IsCalm i → (n : ℕ) → nest_after i n ≡ n
calm_nest Turn h n = absurd h
calm_nest Nest h n = absurd h
calm_nest Unnest h n = absurd h
calm_nest i h n = refl

pub length_cut : (n : ℕ) (st : List ℤ) → n ≤ length st → length (cut n st) ≡ n
length_cut n st l = omega (arith, l, length-drop {A = ℤ} (length st - n) st)

-- ---- steps of any kind

module _ (c : Code) (low : Around) where
  value_keeps : (o : Option ℤ) (s : State) (k : ℤ → Went) → ((v : ℤ) → Keeps c low (k v)) → Keeps c low (with_value o s k)
  value_keeps None s k h = tt
  value_keeps (Some v) s k h = h v

  cells_keeps : (o : Option (List Cell)) (s : State) (k : State → Went) → ((cells : List Cell) → Keeps c low (k (record s { cells = cells }))) → Keeps c low (with_cells o s k)
  cells_keeps None s k h = tt
  cells_keeps (Some cells) s k h = h cells

  pointing_keeps : (b : Bool) (s : State) (w : Went) → Keeps c low w → Keeps c low (if_pointing b s w)
  pointing_keeps true s w h = h
  pointing_keeps false s w h = tt

  look_keeps : (o : Option ℕ) (s : State) (k : State → Went) → ((l : Option ℕ) → Keeps c low (k (record s { left = l }))) → Keeps c low (look_by o s k)
  look_keeps None s k h = h s.left
  look_keeps (Some zero) s k h = tt
  look_keeps (Some (suc n)) s k h = h (Some n)

  cond_keeps : (b : Bool) (x y : Went) → Keeps c low x → Keeps c low y → Keeps c low (cond b x y)
  cond_keeps true x y h g = h
  cond_keeps false x y h g = g

  turned_keeps : (limit : ℕ) (s : State) (k : State → Went) → ((l : Option ℕ) (t : ℕ) → Keeps c low (k (record s { left = l; turns = t }))) → Keeps c low (turned limit s k)
  turned_keeps limit s k h = look_keeps s.left s _ (λ l. cond_keeps (nat_lt s.turns limit) _ _ (h l (s.turns + 1)) tt)

module _ (c : Code) (low : Around) (valid : IsValid c) where
  -- what validity says of an instruction and its spot
  pub fine : (pc : ℕ) (i : Instr) (spot : Spot) → slice_get c.instrs pc ≡ Some i → slice_get c.spots pc ≡ Some spot → SpotFits c pc i spot
  fine pc i spot e f = has_fact (slice_get c.spots pc) (SpotFits c pc i) spot (valid.instrs pc i e) f

  pub has_instr : (pc : ℕ) (spot : Spot) → slice_get c.spots pc ≡ Some spot → (i : Instr) × (slice_get c.instrs pc ≡ Some i)
  has_instr pc spot e = instr_there c pc (let w = slice_get_within c.spots pc spot e in omega (arith, w, valid.spots))

  -- the frames that an instruction names are there
  sees_outer : (fs : List Frame) (b : Around) (floor nested k : ℕ) (frames : List ℕ) → Chain c low fs b floor nested frames → 0 < k → IsSome (outward c (Some b) k) → k ≤ length frames
  sees_outer [] b floor nested k frames h l o = h.2 k o
  sees_outer (f ∷ fs) b floor nested zero frames h l o = absurd (omega (arith, l))
  sees_outer (f ∷ fs) b floor nested (suc k) frames h l o = absurd (false≢true (subst (λ a. IsSome (outward c (Some a) (suc k))) h.1.callee o))

  pub finds_here : (pc : ℕ) (fs : List Frame) (b : Around) (floor nested : ℕ) (frames : List ℕ) (i : Instr) → Chain c low fs b floor nested frames → Belongs c pc b i → Finds c frames i
  finds_here pc fs b floor nested frames (Outer k n) h g = (g.0, sees_outer fs b floor nested k frames h g.0 (some_and (outward c (Some b) k) (λ d. HasFrame c d (λ cells. n < cells)) g.1))
  finds_here pc fs b floor nested frames (LoadO k n) h g = (g.0, sees_outer fs b floor nested k frames h g.0 (some_and (outward c (Some b) k) (λ d. HasFrame c d (λ cells. n < cells)) g.1))
  finds_here pc fs b floor nested frames (StoreO k n) h g = (g.0, sees_outer fs b floor nested k frames h g.0 (some_and (outward c (Some b) k) (λ d. HasFrame c d (λ cells. n < cells)) g.1))
  finds_here pc fs b floor nested frames (Call sub) h g = there c.subs sub g.1
  finds_here pc fs b floor nested frames (CallAt sub n) h g = some_and (slice_get c.subs sub) _ g.1
  finds_here pc fs b floor nested frames (CallTo sub n to) h g = some_and (slice_get c.subs sub) _ g.1
  finds_here pc fs b floor nested frames (Combine sub) h g = some_and (slice_get c.subs sub) _ g.0
  finds_here pc fs b floor nested frames i h g = tt

  -- ---- one instruction

  -- the instruction at a state, where no exception is raised
  pub record Here (s : State) (i : Instr) : Type 0 where
    pub spot : Spot
    pub at : slice_get c.spots s.pc ≡ Some spot
    pub instr : slice_get c.instrs s.pc ≡ Some i
    pub fits : SpotFits c s.pc i spot
    pub height : length s.stack ≡ s.floor + spot.stack
    pub calm : s.raising ≡ None
    pub nest : spot.nest ≡ s.nest
    pub within : s.nest ≤ s.nested
    pub chain : Chain c low s.waiting spot.body s.floor (s.nested - s.nest) s.outward

  -- at an instruction whose spot is the one that this one leaves
  stands_landed : (s : State) (i : Instr) (to : ℕ) (st : List ℤ) (nest nested : ℕ) → (h : Here s i) → Lands c h.spot.body (h.spot.stack - takes c i + pushes c i) (nest_after i h.spot.nest) to → length st + takes c i ≡ length s.stack + pushes c i
      → nest_after i s.nest ≡ nest → nest ≤ nested → nested - nest ≡ s.nested - s.nest → StandsIn c low to st s.floor nest nested None s.waiting s.outward
  stands_landed s i to st nest nested h n l e w r =
      let q = has_one (slice_get c.spots to) _ n in
      let b : q.0.body ≡ h.spot.body = q.2.0 in
      record {
        spot = q.0;
        at = q.1;
        height = omega (arith, l, h.height, h.fits.operands, q.2.1);
        begun = q.2.2 ∙ ap (nest_after i) h.nest ∙ e;
        within = w;
        chain = subst (λ a. Chain c low s.waiting a s.floor (nested - nest) s.outward) (sym b) (subst (λ k. Chain c low s.waiting h.spot.body s.floor k s.outward) (sym r) h.chain);
      }

  -- at an instruction that may follow, with what it leaves
  stands_to : (s : State) (i : Instr) (to : ℕ) (st : List ℤ) (nest nested : ℕ) → Here s i → IsNext s.pc (flow_of i) to → length st + takes c i ≡ length s.stack + pushes c i
      → nest_after i s.nest ≡ nest → nest ≤ nested → nested - nest ≡ s.nested - s.nest → StandsIn c low to st s.floor nest nested None s.waiting s.outward
  stands_to s i to st nest nested h n l e w r = stands_landed s i to st nest nested h (lands_next c s.pc h.spot.body (h.spot.stack - takes c i + pushes c i) (nest_after i h.spot.nest) (flow_of i) to h.fits.leads n) l e w r

  -- an exception is raised
  pub stands_failed : (s : State) (i : Instr) (r : Reason) (st : List ℤ) → Here s i → length s.stack ≤ length st + takes c i → StandsIn c low s.pc st s.floor s.nest s.nested (Some r) s.waiting s.outward
  stands_failed s i r st h l = record { spot = h.spot; at = h.at; height = (i, h.instr, omega (arith, l, h.height)); begun = h.nest; within = h.within; chain = h.chain }

  -- a call of a subprogram, whose operands are on top
  stands_entered : (s : State) (i : Instr) (sub : ℕ) (f : CodeSub) (to : ℕ) (kept st : List ℤ) → Here s i → slice_get c.subs sub ≡ Some f → 0 < sub
      → IsCall i sub (record { at = s.pc; to = to; floor = s.floor; base = s.base; nest = s.nest; kept = kept; rounds = s.rounds; top = length s.cells }) → length st + takes c i ≡ length s.stack + f.takes → f.takes ≤ length st
      → StandsIn c low f.entry st (length st - f.takes) 0 s.nested None (record { at = s.pc; to = to; floor = s.floor; base = s.base; nest = s.nest; kept = kept; rounds = s.rounds; top = length s.cells } ∷ s.waiting) s.outward
  stands_entered s i sub f to kept st h e z k l w =
      let q = has_one (slice_get c.spots f.entry) _ (valid.subs sub f e) in
      record {
        spot = q.0;
        at = q.1;
        height = omega (arith, q.2.1, w);
        begun = q.2.2;
        within = omega arith;
        chain = (
          h.spot,
          record { sub = sub; callee = q.2.0; later = z; waits = record { at = h.at; instr = i; here = h.instr; call = k; height = omega (arith, l, w, h.height); nest = h.nest; within = omega (arith, h.within) } },
          subst (λ n. Chain c low s.waiting h.spot.body s.floor n s.outward) (let m : s.nested - s.nest ≡ s.nested - 0 - s.nest = omega arith in m) h.chain,
        );
      }

  later_call : (s : State) (sub : ℕ) → Here s (Call sub) → 0 < sub
  later_call s sub h = h.fits.belongs.0

  entering_keeps : (s : State) (i : Instr) (sub : ℕ) (f : CodeSub) (to : ℕ) (kept st : List ℤ) (left : Option ℕ) (turns : ℕ) → Here s i → slice_get c.subs sub ≡ Some f → 0 < sub
      → IsCall i sub (record { at = s.pc; to = to; floor = s.floor; base = s.base; nest = s.nest; kept = kept; rounds = s.rounds; top = length s.cells }) → length st + takes c i ≡ length s.stack + f.takes → f.takes ≤ length st
      → Keeps c low (entering 0 f to kept (record s { stack = st; left = left; turns = turns }))
  entering_keeps s i sub f to kept st left turns h e z k l w = cond_keeps c low (nat_lt s.calls 1000)
      (Goes (entered f to kept (record s { stack = st; left = left; turns = turns })))
      (Goes (failed StorageError (cut (length st - f.takes) st) (record s { stack = st; left = left; turns = turns })))
      (subst (λ o. StandsIn c low f.entry st (length st - f.takes) 0 s.nested o (record { at = s.pc; to = to; floor = s.floor; base = s.base; nest = s.nest; kept = kept; rounds = s.rounds; top = length s.cells } ∷ s.waiting) s.outward) (sym h.calm) (stands_entered s i sub f to kept st h e z k l w))
      (stands_failed s i StorageError (cut (length st - f.takes) st) h (omega (arith, length_cut (length st - f.takes) st (omega arith), l, w)))

  -- the same with its frame from a cell of the own one on
  pub called_at_here : (b : Around) (i : Instr) (pc sub n to : ℕ) (f : Frame) → IsCallAt pc i sub n to → Belongs c pc b i → f.at ≡ pc → f.to ≡ to → (0 < sub) × Has c.subs sub (λ s. s.takes ≡ 0) × IsCall i sub f
  called_at_here b (CallAt k m) pc sub n to f w g a e = (subst (λ j. 0 < j) w.0 g.0, subst (λ j. Has c.subs j (λ s. s.takes ≡ 0)) w.0 g.1, (w.0, e ∙ w.2 ∙ ap (λ j. j + 1) (sym a)))
  called_at_here b (CallTo k m t) pc sub n to f w g a e = (subst (λ j. 0 < j) w.0 g.0, subst (λ j. Has c.subs j (λ s. s.takes ≡ 0)) w.0 g.1, (w.0, e ∙ w.2))
  called_at_here b i pc sub n to f w g a e = absurd w

  entering_at_keeps : (s : State) (i : Instr) (sub n to : ℕ) (fit : Bool) (f : CodeSub) (st : List ℤ) (left : Option ℕ) (turns : ℕ) → Here s i → IsCallAt s.pc i sub n to → slice_get c.subs sub ≡ Some f
      → length st + takes c i ≡ length s.stack → Keeps c low (entering_at 0 f n to fit (record s { stack = st; left = left; turns = turns }))
  entering_at_keeps s i sub n to fit f st left turns h k e l =
      let x : State = record s { stack = st; left = left; turns = turns } in
      let w : Frame = record { at = s.pc; to = to; floor = s.floor; base = s.base; nest = s.nest; kept = s.kept; rounds = s.rounds; top = length s.cells } in
      let call = called_at_here h.spot.body i s.pc sub n to w k h.fits.belongs refl refl in
      let none : f.takes ≡ 0 = has_fact (slice_get c.subs sub) (λ f. f.takes ≡ 0) f call.1 e in
      cond_keeps c low (nat_lt s.calls 1000)
      (cond fit (Goes (entered_at f n to x)) (Goes (failed ConstraintError st x)))
      (Goes (failed StorageError st x))
      (cond_keeps c low fit (Goes (entered_at f n to x)) (Goes (failed ConstraintError st x))
      (subst (λ o. StandsIn c low f.entry st (length st) 0 s.nested o (w ∷ s.waiting) s.outward) (sym h.calm)
      (subst (λ k. StandsIn c low f.entry st k 0 s.nested None (w ∷ s.waiting) s.outward) (let m : length st - f.takes ≡ length st = omega (arith, none) in m)
      (stands_entered s i sub f to s.kept st h e call.0 call.2 (omega (arith, none, l)) (omega (arith, none)))))
      (stands_failed s i ConstraintError st h (omega (arith, l))))
      (stands_failed s i StorageError st h (omega (arith, l)))

  combining_keeps : (s : State) (sub : ℕ) (f : CodeSub) (acc : ℤ) (st parts : List ℤ) (limit : ℕ) → Here s (Combine sub) → slice_get c.subs sub ≡ Some f → s.stack ≡ acc ∷ st → Keeps c low (combining limit f acc st parts s)
  combining_keeps s sub f acc st [] limit h e t =
      let d = has_fact (slice_get c.subs sub) _ f h.fits.belongs.0 e in
      subst (λ o. StandsIn c low (s.pc + 1) (acc ∷ st) s.floor s.nest s.nested o s.waiting s.outward) (sym h.calm)
      (stands_to s (Combine sub) (s.pc + 1) (acc ∷ st) s.nest s.nested h refl (omega (arith, ap length t)) refl h.within refl)
  combining_keeps s sub f acc st (part ∷ parts) limit h e t =
      let d = has_fact (slice_get c.subs sub) _ f h.fits.belongs.0 e in
      turned_keeps c low limit s (λ s. entering limit f s.pc parts (record s { stack = part ∷ acc ∷ st })) (λ left turns. entering_keeps s (Combine sub) sub f s.pc parts (part ∷ acc ∷ st) left turns h e (callee_later sub f e d.0) (refl, refl) (omega (arith, ap length t, d.0)) (omega (arith, d.0)))
    where
      -- the main procedure takes no operand
      callee_later : (sub : ℕ) (f : CodeSub) → slice_get c.subs sub ≡ Some f → f.takes ≡ 2 → 0 < sub
      callee_later zero f e t = let m = has_fact (slice_get c.subs 0) _ f valid.main e in absurd (omega (arith, m, t))
      callee_later (suc k) f e t = omega arith

  -- ---- ends of subprograms

  -- a value is given exactly where the subprogram gives one
  gives_one : (sub : ℕ) (f : CodeSub) (b : Bool) → slice_get c.subs sub ≡ Some f → f.gives ≡ b → given_by (slice_get c.subs sub) ≡ cond b 1 0
  gives_one sub f b e g = ap given_by e ∙ ap (λ x. cond x 1 0) g

  returned : (i : Instr) (v : Option ℤ) (pc sub : ℕ) (st : List ℤ) → IsReturn i v → Belongs c pc (Sub sub) i → length (pushed_for v st) ≡ length st + given_by (slice_get c.subs sub)
  returned Ret None pc sub st r g = let d = has_one (slice_get c.subs sub) _ g.1 in omega (arith, gives_one sub d.0 false d.1 d.2)
  returned RetV (Some v) pc sub st r g = let d = has_one (slice_get c.subs sub) _ g.1 in omega (arith, gives_one sub d.0 true d.1 d.2)
  returned i v pc sub st r g = absurd r

  -- where the caller goes on
  -- the spot at which the caller goes on, with the height that the callee leaves
  back : (sub floor nested : ℕ) (f : Frame) (spot : Spot) (i : Instr) (v : Option ℤ) (st : List ℤ) → Waits c sub floor nested f spot → (j : Instr) → slice_get c.instrs f.at ≡ Some j → IsCall j sub f → f.floor + spot.stack ≡ floor + takes c j
      → length st ≡ floor → IsReturn i v → (pc : ℕ) → Belongs c pc (Sub sub) i → Has c.spots f.to (λ q. (q.body ≡ spot.body) × (length (pushed_for v st) ≡ f.floor + q.stack) × (q.nest ≡ f.nest))
  back sub floor nested f spot i v st w (Call k) e p l n r pc g =
      let fit = fine f.at (Call k) spot e w.at in
      let q = has_one (slice_get c.spots (f.at + 1)) _ fit.leads in
      let one : length (pushed_for v st) ≡ length st + given_by (slice_get c.subs sub) = returned i v pc sub st r g in
      let same : given_by (slice_get c.subs k) ≡ given_by (slice_get c.subs sub) = ap (λ j. given_by (slice_get c.subs j)) p.0 in
      has_at f.to q.0 (ap (λ j. slice_get c.spots j) p.1 ∙ q.1) (q.2.0, omega (arith, one, n, same, l, fit.operands, q.2.1), q.2.2 ∙ w.nest)
    where
      has_at : (to : ℕ) (q : Spot) → slice_get c.spots to ≡ Some q → (q.body ≡ spot.body) × (length (pushed_for v st) ≡ f.floor + q.stack) × (q.nest ≡ f.nest) → Has c.spots to (λ q. (q.body ≡ spot.body) × (length (pushed_for v st) ≡ f.floor + q.stack) × (q.nest ≡ f.nest))
      has_at to q e h = subst (λ o. IsSomeAnd o (λ q. (q.body ≡ spot.body) × (length (pushed_for v st) ≡ f.floor + q.stack) × (q.nest ≡ f.nest))) (sym e) h
  back sub floor nested f spot i v st w (CallAt k m) e p l n r pc g =
      let fit = fine f.at (CallAt k m) spot e w.at in
      let q = has_one (slice_get c.spots (f.at + 1)) _ fit.leads in
      let one : length (pushed_for v st) ≡ length st + given_by (slice_get c.subs sub) = returned i v pc sub st r g in
      let same : given_by (slice_get c.subs k) ≡ given_by (slice_get c.subs sub) = ap (λ j. given_by (slice_get c.subs j)) p.0 in
      has_at f.to q.0 (ap (λ j. slice_get c.spots j) p.1 ∙ q.1) (q.2.0, omega (arith, one, n, same, l, fit.operands, q.2.1), q.2.2 ∙ w.nest)
    where
      has_at : (to : ℕ) (q : Spot) → slice_get c.spots to ≡ Some q → (q.body ≡ spot.body) × (length (pushed_for v st) ≡ f.floor + q.stack) × (q.nest ≡ f.nest) → Has c.spots to (λ q. (q.body ≡ spot.body) × (length (pushed_for v st) ≡ f.floor + q.stack) × (q.nest ≡ f.nest))
      has_at to q e h = subst (λ o. IsSomeAnd o (λ q. (q.body ≡ spot.body) × (length (pushed_for v st) ≡ f.floor + q.stack) × (q.nest ≡ f.nest))) (sym e) h
  back sub floor nested f spot i v st w (CallTo k m t) e p l n r pc g =
      let fit = fine f.at (CallTo k m t) spot e w.at in
      let q = has_one (slice_get c.spots t) _ fit.leads in
      let one : length (pushed_for v st) ≡ length st + given_by (slice_get c.subs sub) = returned i v pc sub st r g in
      let same : given_by (slice_get c.subs k) ≡ given_by (slice_get c.subs sub) = ap (λ j. given_by (slice_get c.subs j)) p.0 in
      has_at f.to q.0 (ap (λ j. slice_get c.spots j) p.1 ∙ q.1) (q.2.0, omega (arith, one, n, same, l, fit.operands, q.2.1), q.2.2 ∙ w.nest)
    where
      has_at : (to : ℕ) (q : Spot) → slice_get c.spots to ≡ Some q → (q.body ≡ spot.body) × (length (pushed_for v st) ≡ f.floor + q.stack) × (q.nest ≡ f.nest) → Has c.spots to (λ q. (q.body ≡ spot.body) × (length (pushed_for v st) ≡ f.floor + q.stack) × (q.nest ≡ f.nest))
      has_at to q e h = subst (λ o. IsSomeAnd o (λ q. (q.body ≡ spot.body) × (length (pushed_for v st) ≡ f.floor + q.stack) × (q.nest ≡ f.nest))) (sym e) h
  back sub floor nested f spot i v st w (Combine k) e p l n r pc g =
      let fit = fine f.at (Combine k) spot e w.at in
      let d = has_one (slice_get c.subs k) _ fit.belongs.0 in
      let one : length (pushed_for v st) ≡ length st + given_by (slice_get c.subs sub) = returned i v pc sub st r g in
      let gives : given_by (slice_get c.subs sub) ≡ 1 = ap (λ j. given_by (slice_get c.subs j)) (sym p.0) ∙ gives_one k d.0 true d.1 d.2.1 in
      has_at f.to spot (ap (λ j. slice_get c.spots j) p.1 ∙ w.at) (refl, omega (arith, one, n, gives, l), w.nest)
    where
      has_at : (to : ℕ) (q : Spot) → slice_get c.spots to ≡ Some q → (q.body ≡ spot.body) × (length (pushed_for v st) ≡ f.floor + q.stack) × (q.nest ≡ f.nest) → Has c.spots to (λ q. (q.body ≡ spot.body) × (length (pushed_for v st) ≡ f.floor + q.stack) × (q.nest ≡ f.nest))
      has_at to q e h = subst (λ o. IsSomeAnd o (λ q. (q.body ≡ spot.body) × (length (pushed_for v st) ≡ f.floor + q.stack) × (q.nest ≡ f.nest))) (sym e) h
  back sub floor nested f spot i v st w j e p l n r pc g = absurd p

  outer_ends : (b : Around) (pc : ℕ) (i : Instr) (v : Option ℤ) → IsOuter b → IsReturn i v → Belongs c pc b i → ⊥
  outer_ends (Sub k) pc Ret None o r g = omega (arith, o, g.0)
  outer_ends (Sub k) pc RetV (Some v) o r g = omega (arith, o, g.0)
  outer_ends (Site k) pc Ret None o r g = g
  outer_ends (Site k) pc RetV (Some v) o r g = g
  outer_ends b pc i v o r g = absurd r

  pub ending_keeps : (s : State) (i : Instr) (v : Option ℤ) (st : List ℤ) (fs : List Frame) (spot : Spot) → Here s i → IsReturn i v → s.floor ≤ length st → SpotFits c s.pc i spot → Chain c low fs spot.body s.floor (s.nested - s.nest) s.outward → Keeps c low (ending 0 v st fs s)
  ending_keeps s i v st [] spot h r l g k = outer_ends spot.body s.pc i v k.1 r g.belongs
  ending_keeps s i v st (f ∷ fs) spot h r l g k =
      let w = k.1.waits in
      let q = has_one (slice_get c.spots f.to) _ (back k.1.sub s.floor (s.nested - s.nest) f k.0 i v (cut s.floor st) w w.instr w.here w.call w.height (length_cut s.floor st l) r s.pc (subst (λ b. Belongs c s.pc b i) k.1.callee g.belongs)) in
      let body : q.0.body ≡ k.0.body = q.2.0 in
      record {
        spot = q.0;
        at = q.1;
        height = subst (λ o. Height c o f.to f.floor q.0.stack (length (pushed_for v (cut s.floor st)))) (sym h.calm) q.2.1;
        begun = q.2.2;
        within = w.within;
        chain = subst (λ b. Chain c low fs b f.floor (s.nested - s.nest - f.nest) s.outward) (sym body) k.2;
      }

  -- ---- every deed

  standing : (s : State) (i : Instr) → Here s i → Stands c low s
  standing s i h = record { spot = h.spot; at = h.at; height = subst (λ o. Height c o s.pc s.floor h.spot.stack (length s.stack)) (sym h.calm) h.height; begun = h.nest; within = h.within; chain = h.chain }

  -- at the next instruction
  pub on_keeps : (s : State) (i : Instr) (to : ℕ) (st : List ℤ) (nest nested : ℕ) → Here s i → IsNext s.pc (flow_of i) to → length st + takes c i ≡ length s.stack + pushes c i
      → nest_after i s.nest ≡ nest → nest ≤ nested → nested - nest ≡ s.nested - s.nest → StandsIn c low to st s.floor nest nested s.raising s.waiting s.outward
  on_keeps s i to st nest nested h n l e w r = subst (λ o. StandsIn c low to st s.floor nest nested o s.waiting s.outward) (sym h.calm) (stands_to s i to st nest nested h n l e w r)

  nests_keeps : (s : State) → Here s Nest → Keeps c low (look s (nesting 0))
  nests_keeps s h = look_keeps c low s.left s (nesting 0) (λ left. cond_keeps c low (nat_lt s.nested 16)
      (Goes (on s.stack (record s { left = left; nest = s.nest + 1; nested = s.nested + 1 })))
      (Goes (failed StorageError s.stack (record s { left = left })))
      (on_keeps s Nest (s.pc + 1) s.stack (s.nest + 1) (s.nested + 1) h refl refl refl (omega (arith, h.within)) (omega arith))
      (stands_failed s Nest StorageError s.stack h (omega arith)))

  unnests_keeps : (s : State) → Here s Unnest → StandsIn c low (s.pc + 1) s.stack s.floor (s.nest - 1) (s.nested - 1) s.raising s.waiting s.outward
  unnests_keeps s h = on_keeps s Unnest (s.pc + 1) s.stack (s.nest - 1) (s.nested - 1) h refl refl refl (omega (arith, h.within, h.fits.begun, h.nest)) (omega (arith, h.within, h.fits.begun, h.nest))

  calls_keeps : (s : State) (i : Instr) (f : CodeSub) (limit : ℕ) → Here s i → (k : ℕ) × (i ≡ Call k) × (slice_get c.subs k ≡ Some f) → Keeps c low (calling limit f (s.pc + 1) s.kept s)
  calls_keeps s i f limit h w =
      let g : Here s (Call w.0) = subst (Here s) w.1 h in
      let t : takes c (Call w.0) ≡ f.takes = ap taken_by w.2 in
      turned_keeps c low limit s (λ x. entering limit f (s.pc + 1) s.kept x) (λ left turns. entering_keeps s (Call w.0) w.0 f (s.pc + 1) s.kept s.stack left turns g w.2 (later_call s w.0 g) (refl, refl) (omega (arith, t)) (omega (arith, t, g.height, g.fits.operands)))

  calls_at_keeps : (s : State) (i : Instr) (f : CodeSub) (n to : ℕ) (fit : Bool) (st : List ℤ) (limit : ℕ) → Here s i → (k : ℕ) × IsCallAt s.pc i k n to × (slice_get c.subs k ≡ Some f) × (length st + takes c i ≡ length s.stack) → Keeps c low (calling_at limit f n to fit st s)
  calls_at_keeps s i f n to fit st limit h w = turned_keeps c low limit s (λ x. entering_at limit f n to fit (record x { stack = st })) (λ left turns. entering_at_keeps s i w.0 n to fit f st left turns h w.1 w.2 w.3)

  drawing_keeps : (s : State) (limit : ℕ) (parts : List ℤ) → Here s Part → Keeps c low (drawing limit parts s)
  drawing_keeps s limit [] h = on_keeps s Part (s.pc + 1) (pos 0 ∷ pos 0 ∷ s.stack) s.nest s.nested h refl (omega arith) refl h.within refl
  drawing_keeps s limit (part ∷ parts) h = on_keeps s Part (s.pc + 1) (pos 1 ∷ part ∷ s.stack) s.nest s.nested h refl (omega arith) refl h.within refl

  another_keeps : (s : State) (limit to head more : ℕ) (rs : List Round) → Here s (Again to) → Keeps c low (another limit to head more rs s)
  another_keeps s limit to head zero rs h = on_keeps s (Again to) (s.pc + 1) s.stack s.nest s.nested h refl refl refl h.within refl
  another_keeps s limit to head (suc n) rs h = cond_keeps c low (nat_eq head to)
      (Goes (moved_to to s.stack (record s { rounds = record { more = n; head = head } ∷ rs })))
      (Goes (on s.stack (record s { rounds = rs })))
      (subst (λ o. StandsIn c low to s.stack s.floor s.nest s.nested o s.waiting s.outward) (sym h.calm) (stands_landed s (Again to) to s.stack s.nest s.nested h h.fits.leads.0 refl refl h.within refl))
      (on_keeps s (Again to) (s.pc + 1) s.stack s.nest s.nested h refl refl refl h.within refl)

  rounding_keeps : (s : State) (limit to : ℕ) (rs : List Round) → Here s (Again to) → Keeps c low (rounding limit to rs s)
  rounding_keeps s limit to [] h = on_keeps s (Again to) (s.pc + 1) s.stack s.nest s.nested h refl refl refl h.within refl
  rounding_keeps s limit to (r ∷ rs) h = another_keeps s limit to r.head r.more rs h

  done_keeps : (d : Deed) (s : State) (i : Instr) (limit : ℕ) → Here s i → IsFit c s.pc s.stack i d → Keeps c low (done limit d s)
  done_keeps Lacks s i limit h f = f
  done_keeps (GoesOn to st) s i limit h f = on_keeps s i to st s.nest s.nested h f.1 f.0 (calm_nest i f.2 s.nest) h.within refl
  done_keeps (Fails r st) s i limit h f = stands_failed s i r st h (omega (arith, f.0))
  done_keeps (Loads a k) s i limit h f = value_keeps c low (seen s.cells a) s (λ v. done limit (k v) s) (λ v. done_keeps (k v) s i limit h (f v))
  done_keeps (Stores a v d) s i limit h f = cells_keeps c low (written s.cells a v) s (λ s. done limit d s) (λ cells. done_keeps d (record s { cells = cells }) i limit (with_cells_here s i cells h) f)
    where
      with_cells_here : (s : State) (i : Instr) (cells : List Cell) → Here s i → Here (record s { cells = cells }) i
      with_cells_here s i cells h = record { spot = h.spot; at = h.at; instr = h.instr; fits = h.fits; height = h.height; calm = h.calm; nest = h.nest; within = h.within; chain = h.chain }
  done_keeps (Points a d) s i limit h f = pointing_keeps c low (points s.cells a) s (done limit d s) (done_keeps d s i limit h f)
  done_keeps Turns s i limit h f =
      let g : Here s Turn = subst (Here s) f h in
      turned_keeps c low limit s (λ s. Goes (on s.stack s)) (λ left turns. on_keeps s Turn (s.pc + 1) s.stack s.nest s.nested g refl refl refl g.within refl)
  done_keeps (Calls f) s i limit h w = calls_keeps s i f limit h w
  done_keeps (CallsAt f n to fit st) s i limit h w = calls_at_keeps s i f n to fit st limit h w
  done_keeps (Combines f acc st) s i limit h w = combining_keeps s w.0 f acc st s.kept limit (subst (Here s) w.1 h) w.2 w.3
  done_keeps Draws s i limit h w = drawing_keeps s limit s.kept (subst (Here s) w h)
  done_keeps (Repeats n) s i limit h w = let g : Here s (Repeat n) = subst (Here s) w h in on_keeps s (Repeat n) (s.pc + 1) s.stack s.nest s.nested g refl refl refl g.within refl
  done_keeps (Rounds to) s i limit h w = rounding_keeps s limit to s.rounds (subst (Here s) w h)
  done_keeps (Ends v st) s i limit h f = ending_keeps s i v st s.waiting h.spot h f.0 (omega (arith, f.1, h.height, h.fits.operands)) h.fits h.chain
  done_keeps (Leaves l st) s i limit h f = tt
  done_keeps (Forks q st) s i limit h f =
      let g : Here s (Fork q.site) = subst (Here s) f.0 h in
      record { spot = g.spot; at = g.at; here = g.instr; height = omega (arith, ap (takes c) f.0, f.1, g.height); calm = g.calm; nest = g.nest; within = g.within; chain = g.chain }
  done_keeps Nests s i limit h f = nests_keeps s (subst (Here s) f h)
  done_keeps Unnests s i limit h f = unnests_keeps s (subst (Here s) f h)
  done_keeps (Writes text st) s i limit h f = on_keeps s i (s.pc + 1) st s.nest s.nested h (subst (λ w. IsNext s.pc w (s.pc + 1)) (sym f.1) refl) f.0 (calm_nest i f.2 s.nest) h.within refl
  done_keeps (Sends feed) s i limit h f = standing s i h
  done_keeps Gets s i limit h f = standing s i h
  done_keeps (Gives v st) s i limit h f = tt

  -- ---- raises

  entry_first : (w : Unwind) (us : List Unwind) (q : ℕ) (u : Unwind) → (entry_of us q ≡ Some u → (k : ℕ) × (slice_get us k ≡ Some u) × Holds u q) → (a b : Bool) → nat_lt q w.from ≡ a → nat_lt q w.to ≡ b
      → cond a (entry_of us q) (cond b (Some w) (entry_of us q)) ≡ Some u → (k : ℕ) × (slice_get (w ∷ us) k ≡ Some u) × Holds u q
  entry_first w us q u later true b f g e = let r = later e in (suc r.0, r.1, r.2)
  entry_first w us q u later false false f g e = let r = later e in (suc r.0, r.1, r.2)
  entry_first w us q u later false true f g e = let same : w ≡ u = cc in (zero, e, (subst (λ x. x.from ≤ q) same (ltb-false q w.from f), subst (λ x. q < x.to) same (ltb-true q w.to g)))

  pub entry_holds : (us : List Unwind) (q : ℕ) (u : Unwind) → entry_of us q ≡ Some u → (k : ℕ) × (slice_get us k ≡ Some u) × Holds u q
  entry_holds [] q u e = cc
  entry_holds (w ∷ us) q u e = entry_first w us q u (entry_holds us q u) (nat_lt q w.from) (nat_lt q w.to) refl refl e

  -- what an entry that holds the instruction of a raise finds
  pub guarded : (s : State) (r : Reason) (u : Unwind) → s.raising ≡ Some r → Stands c low s → entry_of c.unwind s.pc ≡ Some u
      → (spot : Spot) × (slice_get c.spots s.pc ≡ Some spot) × (q : Spot) × (slice_get c.spots u.handler ≡ Some q) × (q.body ≡ spot.body) × (q.stack ≡ u.depth + 1) × (q.nest ≡ u.nest)
      × (s.floor + u.depth ≤ length s.stack) × (u.nest ≤ s.nest) × (u.depth + 1 ≤ q.stack)
  guarded s r u e h o =
      let k = entry_holds c.unwind s.pc u o in
      let high : Height c (Some r) s.pc s.floor h.spot.stack (length s.stack) = subst (λ o. Height c o s.pc s.floor h.spot.stack (length s.stack)) e h.height in
      let g = valid.guards k.0 u k.1 s.pc high.0 h.spot (omega arith) (slice_get_within c.instrs s.pc high.0 high.1) high.1 h.at k.2 in
      let q = has_one (slice_get c.spots u.handler) _ g.same_body in
      let t = has_fact (slice_get c.spots u.handler) _ q.0 (valid.handlers k.0 u k.1) q.1 in
      (h.spot, h.at, q.0, q.1, q.2, t.0, t.1, omega (arith, high.2, g.depth), omega (arith, g.nest, h.begun), omega (arith, t.0))

  pub handled_keeps : (s : State) (r : Reason) (u : Unwind) → s.raising ≡ Some r → Stands c low s → entry_of c.unwind s.pc ≡ Some u → Stands c low (handled u r s)
  handled_keeps s r u e h o =
      let g = guarded s r u e h o in
      let body : g.2.body ≡ h.spot.body = g.4 ∙ (let same : g.0 ≡ h.spot = (let w : Some g.0 ≡ Some h.spot = sym g.1 ∙ h.at in cc) in ap (λ x. x.body) same) in
      record {
        spot = g.2;
        at = g.3;
        height = omega (arith, length_cut (s.floor + u.depth) s.stack g.7, g.5);
        begun = g.6;
        within = omega (arith, h.within, g.8);
        chain = subst (λ b. Chain c low s.waiting b s.floor (s.nested - (s.nest - u.nest) - u.nest) s.outward) (sym body)
            (subst (λ n. Chain c low s.waiting h.spot.body s.floor n s.outward) (let m : s.nested - s.nest ≡ s.nested - (s.nest - u.nest) - u.nest = omega (arith, h.within, g.8) in m) h.chain);
      }

  unwound_keeps : (s : State) (r : Reason) (fs : List Frame) → s.raising ≡ Some r → (h : Stands c low s) → Chain c low fs h.spot.body s.floor (s.nested - s.nest) s.outward → Keeps c low (unwound r fs s)
  unwound_keeps s r [] e h k = tt
  unwound_keeps s r (f ∷ fs) e h k =
      let w = k.1.waits in
      let high : Height c (Some r) s.pc s.floor h.spot.stack (length s.stack) = subst (λ o. Height c o s.pc s.floor h.spot.stack (length s.stack)) e h.height in
      let fit = fine s.pc high.0 h.spot high.1 h.at in
      record {
        spot = k.0;
        at = w.at;
        height = subst (λ o. Height c o f.at f.floor k.0.stack (length (cut s.floor s.stack))) (sym e) (w.instr, w.here, omega (arith, w.height, length_cut s.floor s.stack (omega (arith, high.2, fit.operands))));
        begun = w.nest;
        within = w.within;
        chain = k.2;
      }

  raised_keeps : (s : State) (r : Reason) (o : Option Unwind) → s.raising ≡ Some r → Stands c low s → entry_of c.unwind s.pc ≡ o → Keeps c low (raised r o s)
  raised_keeps s r (Some u) e h o = look_keeps c low s.left s (λ s. Goes (handled u r s)) (λ left. handled_keeps (record s { left = left }) r u e (stands_left s left h) o)
    where
      stands_left : (s : State) (left : Option ℕ) → Stands c low s → Stands c low (record s { left = left })
      stands_left s left h = h
  raised_keeps s r None e h o = unwound_keeps s r s.waiting e h h.chain

  -- ---- a step

  pub here_of : (s : State) (i : Instr) → Stands c low s → s.raising ≡ None → slice_get c.instrs s.pc ≡ Some i → Here s i
  here_of s i h e f = record {
    spot = h.spot;
    at = h.at;
    instr = f;
    fits = fine s.pc i h.spot f h.at;
    height = subst (λ o. Height c o s.pc s.floor h.spot.stack (length s.stack)) e h.height;
    calm = e;
    nest = h.begun;
    within = h.within;
    chain = h.chain;
  }

  pub fit_of : (s : State) (i : Instr) → Here s i → IsFit c s.pc s.stack i (deed_of c s.pc s.stack s.base s.outward i)
  fit_of s i h = fits c s.pc s.stack s.base s.outward i (omega (arith, h.fits.operands, h.height)) (finds_here s.pc s.waiting h.spot.body s.floor (s.nested - s.nest) s.outward i h.chain h.fits.belongs)

  acted_keeps : (s : State) (limit : ℕ) (o : Option Instr) → Stands c low s → s.raising ≡ None → slice_get c.instrs s.pc ≡ o → Keeps c low (acted limit c o s)
  acted_keeps s limit None h e f = let i = has_instr s.pc h.spot h.at in let w : Some i.0 ≡ None = sym i.1 ∙ f in cc
  acted_keeps s limit (Some i) h e f = let w = here_of s i h e f in done_keeps (deed_of c s.pc s.stack s.base s.outward i) s i limit w (fit_of s i w)

  stepped_keeps : (s : State) (limit : ℕ) (o : Option Reason) → Stands c low s → s.raising ≡ o → Keeps c low (stepped limit c o s)
  stepped_keeps s limit None h e = acted_keeps s limit (slice_get c.instrs s.pc) h e refl
  stepped_keeps s limit (Some r) h e = raised_keeps s r (entry_of c.unwind s.pc) e h refl

  -- one step of a path that stands
  pub keeps : (s : State) (limit : ℕ) → Stands c low s → Keeps c low (step limit c s)
  keeps s limit h = stepped_keeps s limit s.raising h refl
