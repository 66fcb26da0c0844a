-- What a machine that is ready has, and that it stays ready.
use Rattle.std.proofs.Common.{◌≡◌, ℕ, zero, suc, ◌+◌, ◌-◌, ◌≤◌, List, [], ◌∷◌, length, reverse, drop, take, Option, Some, None, refl, sym, ap, ◌∙◌, subst, inl, inr, ⊎_elim, arith}
use Rattle.std.specs.Prelude.{◌⊎◌, ◌^◌, IsSomeAnd, slice_get, slice_index, EachIndex, vec_capacity}
use Rattle.std.proofs.lemmas.List.{length-reverse, take_all}
use Rattle.stack_code.specs.declared.code.Around.{Around}
use Rattle.stack_code.specs.declared.code.Around.TheVariants.{Sub, Site}
use Rattle.stack_code.specs.declared.code.Code.{Code}
use Rattle.stack_code.specs.declared.instr.Instr.{Instr}
use Rattle.stack_code.specs.declared.instr.Instr.TheVariants.{Push, Call, CallAt, CallTo, Combine}
use Rattle.stack_code.specs.declared.flow.Flow.{Flow}
use Rattle.stack_code.specs.declared.flow.Flow.TheVariants.{On, To, Branch, Back, Round, Ends}
use Rattle.stack_code.specs.Operands.{takes, pushes, ends_of, nest_after, flow_of}
use Rattle.stack_code.specs.Valid.{HasStack, Lands, Leads, IsValid}
use Rattle.stack_code.specs.Fits.{Finds}
use Rattle.ada_base.specs.Cells.{Cell}
use Rattle.stack_code.specs.Machine.{Frame, State, Goes, step}
use Rattle.stack_code.specs.Stands.{IsOuter, Sees, IsCall, Chain, Stands, Height, IsForward}
use Rattle.stack_code.proofs.Standing.{Here, here_of, has_one, has_fact, fine, has_instr, finds_here}
use Rattle.stack_code.proofs.Runs.{stands_one}
use Rattle.ada_machine.specs.declared.machine.Machine.{Machine}
use Rattle.ada_machine.specs.States.{state_of, frames_of, CalleeRoom, HasRoom, AreNear, Roomy, IsRoomy, Ready, BeginsAt}
use Rattle.ada_machine.specs.declared.starting.Begin.{Begin}

module _ {A : Type 0} where
  has_of : (o : Option A) (P : A → Type 0) (x : A) → o ≡ Some x → P x → IsSomeAnd o P
  has_of o P x e h = subst (λ w. IsSomeAnd w P) (sym e) h

  both : (o : Option A) (P Q : A → Type 0) → IsSomeAnd o P → IsSomeAnd o Q → (x : A) × (o ≡ Some x) × P x × Q x
  both None P Q h g = absurd h
  both (Some x) P Q h g = (x, refl, h, g)

stack_map : (c : Code) (b : Around) (P Q : ℕ → Type 0) → ((n : ℕ) → P n → Q n) → HasStack c b P → HasStack c b Q
stack_map c (Sub k) P Q f h = let w = has_one (slice_get c.subs k) _ h in has_of (slice_get c.subs k) _ w.0 w.1 (f _ w.2)
stack_map c (Site k) P Q f h = let w = has_one (slice_get c.sites k) _ h in has_of (slice_get c.sites k) _ w.0 w.1 (f _ w.2)

stack_at : (c : Code) (b : Around) (n m k : ℕ) → HasStack c b (λ most. n ≤ most) → HasStack c b (λ most. k + most ≤ m) → k + n ≤ m
stack_at c (Sub j) n m k h g = let w = both (slice_get c.subs j) _ _ h g in omega (arith, w.2, w.3)
stack_at c (Site j) n m k h g = let w = both (slice_get c.sites j) _ _ h g in omega (arith, w.2, w.3)

ends_push_none : (c : Code) (i : Instr) → flow_of i ≡ Ends → pushes c i ≡ 0
ends_push_none c (Push v) e = cc
ends_push_none c i e = cc

-- ---- room

same_sub : (i j : Instr) (a b : ℕ) (f : Frame) → i ≡ j → IsCall i a f → IsCall j b f → a ≡ b
same_sub (Call k) j a b f e p q = let w : IsCall (Call k) b f = subst (λ i. IsCall i b f) (sym e) q in sym p.0 ∙ w.0
same_sub (CallAt k n) j a b f e p q = let w : IsCall (CallAt k n) b f = subst (λ i. IsCall i b f) (sym e) q in sym p.0 ∙ w.0
same_sub (CallTo k n t) j a b f e p q = let w : IsCall (CallTo k n t) b f = subst (λ i. IsCall i b f) (sym e) q in sym p.0 ∙ w.0
same_sub (Combine k) j a b f e p q = let w : IsCall (Combine k) b f = subst (λ i. IsCall i b f) (sym e) q in sym p.0 ∙ w.0
same_sub i j a b f e p q = absurd p

module _ (c : Code) (low : Around) where
  -- the own body has room above its floor
  pub body_room : (fs : List Frame) (body : Around) (floor nested room : ℕ) (frames : List ℕ) → Chain c low fs body floor nested frames → HasRoom c low room fs → HasStack c body (λ most. floor + most ≤ room)
  body_room [] body floor nested room frames h g = subst (λ b. HasStack c b (λ most. floor + most ≤ room)) (sym h.0) (stack_map c low (λ most. most ≤ room) (λ most. floor + most ≤ room) (λ n l. omega (arith, l, h.3)) g)
  body_room (f ∷ fs) body floor nested room frames h g =
      let w = h.1.waits in
      let r = g.0 in
      let i : w.instr ≡ r.instr = (let e : Some w.instr ≡ Some r.instr = sym w.here ∙ r.here in cc) in
      let s : h.0 ≡ r.spot = (let e : Some h.0 ≡ Some r.spot = sym w.at ∙ r.at in cc) in
      let k : h.1.sub ≡ r.sub = same_sub w.instr r.instr h.1.sub r.sub f i w.call r.call in
      let b : body ≡ Sub r.sub = h.1.callee ∙ ap (λ n. Sub n) k in
      let t : takes c w.instr ≡ takes c r.instr = ap (takes c) i in
      let q : h.0.stack ≡ r.spot.stack = ap (λ x. x.stack) s in
      subst (λ b. HasStack c b (λ most. floor + most ≤ room)) (sym b)
      (let x = has_one (slice_get c.subs r.sub) _ r.within in has_of (slice_get c.subs r.sub) _ x.0 x.1 (omega (arith, x.2, w.height, t, q)))

  more_room : (fs : List Frame) (room room' : ℕ) → room ≤ room' → HasRoom c low room fs → HasRoom c low room' fs
  more_room [] room room' l h = stack_map c low (λ most. most ≤ room) (λ most. most ≤ room') (λ n p. omega (arith, l, p)) h
  more_room (f ∷ fs) room room' l h =
      let r = h.0 in (
        record { sub = r.sub; instr = r.instr; spot = r.spot; here = r.here; at = r.at; call = r.call; within = (let x = has_one (slice_get c.subs r.sub) _ r.within in has_of (slice_get c.subs r.sub) _ x.0 x.1 (omega (arith, x.2, l))) },
        more_room fs room room' l h.1,
      )

  pub roomy_on : (room room' base base' : ℕ) (fs fs' : List Frame) (out out' : List ℕ) → Roomy c low room base fs out → room ≤ room' → base' ≡ base → fs' ≡ fs → out' ≡ out → Roomy c low room' base' fs' out'
  roomy_on room room' base base' fs fs' out out' r l e f g =
      let a : Roomy c low room' base fs out = record { bodies = more_room fs room room' l r.bodies; near = r.near; callers = r.callers; frames = r.frames } in
      subst (λ b. Roomy c low room' b fs' out') (sym e) (subst (λ x. Roomy c low room' base x out') (sym f) (subst (λ o. Roomy c low room' base fs o) (sym g) a))

  pub roomy_called : (room room' base base' : ℕ) (f : Frame) (fs fs' : List Frame) (out out' : List ℕ) → Roomy c low room base fs out → room ≤ room' → base' ≤ 2 ^ 62 → f.base ≡ base → fs' ≡ f ∷ fs → out' ≡ out → CalleeRoom c room' f → Roomy c low room' base' fs' out'
  roomy_called room room' base base' f fs fs' out out' r l n b e g k =
      subst (λ x. Roomy c low room' base' x out') (sym e) (subst (λ o. Roomy c low room' base' (f ∷ fs) o) (sym g)
      (record { bodies = (k, more_room fs room room' l r.bodies); near = n; callers = (omega (arith, b, r.near), r.callers); frames = r.frames }))

  pub roomy_ended : (room base base' : ℕ) (f : Frame) (fs fs' all : List Frame) (out out' : List ℕ) → Roomy c low room base all out → all ≡ f ∷ fs → base' ≡ f.base → fs' ≡ fs → out' ≡ out → Roomy c low room base' fs' out'
  roomy_ended room base base' f fs fs' all out out' r a e g o =
      let q : Roomy c low room base (f ∷ fs) out = subst (λ x. Roomy c low room base x out) a r in
      subst (λ b. Roomy c low room b fs' out') (sym e) (subst (λ x. Roomy c low room f.base x out') (sym g) (subst (λ o. Roomy c low room f.base fs o) (sym o)
      (record { bodies = q.bodies.1; near = q.callers.0; callers = q.callers.1; frames = q.frames })))

-- ---- readiness

module _ (limit : ℕ) (c : Code) where
  pub ready_on : (m m' : Machine) (cells cells' : List Cell) → Ready c m cells → step limit c (state_of m cells) ≡ Goes (state_of m' cells') → vec_capacity m.stack ≤ vec_capacity m'.stack
      → m'.base ≡ m.base → frames_of m'.waiting.items ≡ frames_of m.waiting.items → m'.outward.items ≡ m.outward.items → Ready c m' cells'
  ready_on m m' cells cells' r e l b w o = record {
    valid = r.valid;
    forward = r.forward;
    low = r.low;
    stands = stands_one limit c r.low r.valid (state_of m cells) (state_of m' cells') e r.stands;
    roomy = roomy_on c r.low (vec_capacity m.stack) (vec_capacity m'.stack) m.base m'.base (frames_of m.waiting.items) (frames_of m'.waiting.items) m.outward.items m'.outward.items r.roomy l b w o;
  }

  pub ready_ended : (m m' : Machine) (cells cells' : List Cell) (f : Frame) (fs : List Frame) → Ready c m cells → step limit c (state_of m cells) ≡ Goes (state_of m' cells') → vec_capacity m'.stack ≡ vec_capacity m.stack
      → frames_of m.waiting.items ≡ f ∷ fs → m'.base ≡ f.base → frames_of m'.waiting.items ≡ fs → m'.outward.items ≡ m.outward.items → Ready c m' cells'
  ready_ended m m' cells cells' f fs r e l w b g o = record {
    valid = r.valid;
    forward = r.forward;
    low = r.low;
    stands = stands_one limit c r.low r.valid (state_of m cells) (state_of m' cells') e r.stands;
    roomy = subst (λ n. Roomy c r.low n m'.base (frames_of m'.waiting.items) m'.outward.items) (sym l) (roomy_ended c r.low (vec_capacity m.stack) m.base m'.base f fs (frames_of m'.waiting.items) (frames_of m.waiting.items) m.outward.items m'.outward.items r.roomy w b g o);
  }

  pub ready_called : (m m' : Machine) (cells cells' : List Cell) (f : Frame) → Ready c m cells → step limit c (state_of m cells) ≡ Goes (state_of m' cells') → vec_capacity m.stack ≤ vec_capacity m'.stack → m'.base ≤ 2 ^ 62
      → f.base ≡ m.base → frames_of m'.waiting.items ≡ f ∷ frames_of m.waiting.items → m'.outward.items ≡ m.outward.items → CalleeRoom c (vec_capacity m'.stack) f → Ready c m' cells'
  ready_called m m' cells cells' f r e l n b w o k = record {
    valid = r.valid;
    forward = r.forward;
    low = r.low;
    stands = stands_one limit c r.low r.valid (state_of m cells) (state_of m' cells') e r.stands;
    roomy = roomy_called c r.low (vec_capacity m.stack) (vec_capacity m'.stack) m.base m'.base f (frames_of m.waiting.items) (frames_of m'.waiting.items) m.outward.items m'.outward.items r.roomy l n b w o k;
  }

-- what validity gives the instruction here
pub record Fine (c : Code) (low : Around) (valid : IsValid c) (m : Machine) (cells : List Cell) (i : Instr) : Type 0 where
  pub here : Here c low valid (state_of m cells) i
  pub operands : takes c i ≤ length m.stack.items
  pub above : m.floor + takes c i ≤ length m.stack.items
  pub room : length m.stack.items + pushes c i ≤ vec_capacity m.stack + takes c i
  pub height : length m.stack.items ≤ vec_capacity m.stack
  pub there : Finds c m.outward.items i
  pub begun : ends_of i ≤ m.nest
  pub within : m.nest ≤ m.nested

module _ (c : Code) (low : Around) (valid : IsValid c) where
  height_next : (body : Around) (n k to floor room : ℕ) → Lands c body n k to → HasStack c body (λ most. floor + most ≤ room) → floor + n ≤ room
  height_next body n k to floor room l g =
      let s = has_one (slice_get c.spots to) _ l in
      let i = has_instr c low valid to s.0 s.1 in
      let f = fine c low valid to i.0 s.0 i.1 s.1 in
      let b : HasStack c body (λ most. s.0.stack ≤ most) = subst (λ b. HasStack c b (λ most. s.0.stack ≤ most)) s.2.0 f.height in
      subst (λ x. floor + x ≤ room) s.2.1 (stack_at c body s.0.stack room floor b g)

  height_led : (pc : ℕ) (body : Around) (n k : ℕ) (f : Flow) (floor room : ℕ) → Leads c pc body n k f → HasStack c body (λ most. floor + most ≤ room) → (floor + n ≤ room) ⊎ (f ≡ Ends)
  height_led pc body n k On floor room l g = inl (height_next body n k (pc + 1) floor room l g)
  height_led pc body n k (To t) floor room l g = inl (height_next body n k t floor room l g)
  height_led pc body n k (Branch t) floor room l g = inl (height_next body n k t floor room l.0 g)
  height_led pc body n k (Back t) floor room l g = inl (height_next body n k t floor room l g)
  height_led pc body n k (Round t) floor room l g = inl (height_next body n k t floor room l.0 g)
  height_led pc body n k Ends floor room l g = inr refl

  -- the stack of a path that stands fits
  pub stack_fits : (s : State) (room : ℕ) → Stands c low s → s.raising ≡ None → HasRoom c low room s.waiting → length s.stack ≤ room
  stack_fits s room h e g =
      let b = body_room c low s.waiting h.spot.body s.floor (s.nested - s.nest) room s.outward h.chain g in
      let i = has_instr c low valid s.pc h.spot h.at in
      let f = fine c low valid s.pc i.0 h.spot i.1 h.at in
      let l = stack_at c h.spot.body h.spot.stack room s.floor f.height b in
      let w : length s.stack ≡ s.floor + h.spot.stack = subst (λ o. Height c o s.pc s.floor h.spot.stack (length s.stack)) e h.height in
      omega (arith, l, w)

  pub fine_here : (m : Machine) (cells : List Cell) (i : Instr) → Stands c low (state_of m cells) → IsRoomy c low m → m.raising ≡ None → slice_get c.instrs m.pc ≡ Some i → Fine c low valid m cells i
  fine_here m cells i h r e f =
      let w = here_of c low valid (state_of m cells) i h e f in
      let n : length (reverse m.stack.items) ≡ length m.stack.items = length-reverse m.stack.items in
      let b = body_room c low (frames_of m.waiting.items) w.spot.body m.floor (m.nested - m.nest) (vec_capacity m.stack) m.outward.items w.chain r.bodies in
      let high = stack_at c w.spot.body w.spot.stack (vec_capacity m.stack) m.floor w.fits.height b in
      record {
        here = w;
        operands = omega (arith, n, w.height, w.fits.operands);
        above = omega (arith, n, w.height, w.fits.operands);
        room = ⊎_elim
            (λ (l : m.floor + (w.spot.stack - takes c i + pushes c i) ≤ vec_capacity m.stack). omega (arith, l, n, w.height, w.fits.operands))
            (λ (q : flow_of i ≡ Ends). let p = ends_push_none c i q in omega (arith, p, high, n, w.height))
            (height_led m.pc w.spot.body (w.spot.stack - takes c i + pushes c i) (nest_after i w.spot.nest) (flow_of i) m.floor (vec_capacity m.stack) w.fits.leads b);
        height = omega (arith, high, n, w.height);
        there = finds_here c low valid m.pc (frames_of m.waiting.items) w.spot.body m.floor (m.nested - m.nest) m.outward.items i w.chain w.fits.belongs;
        begun = omega (arith, w.fits.begun, w.nest);
        within = w.within;
      }

-- ---- begins

pub rest_whole : (xs : List ℕ) → take (length xs - 1) (drop 1 xs) ≡ drop 1 xs
rest_whole [] = refl
rest_whole (x ∷ xs) = take_all (length (x ∷ xs) - 1) xs (omega arith)

pub near_rest : (xs : List ℕ) → EachIndex xs (λ k. slice_index xs k ≤ 2 ^ 62) → EachIndex (drop 1 xs) (λ k. slice_index (drop 1 xs) k ≤ 2 ^ 62)
near_rest [] h = h
near_rest (x ∷ xs) h = λ k l. h (suc k) (omega (arith, l))

module _ (c : Code) (valid : IsValid c) (forward : IsForward c) where
  begin_room : (body : Around) (b : Begin) (room : ℕ) → BeginsAt c body b → b.most ≤ room → HasStack c body (λ most. most ≤ room)
  begin_room (Sub k) b room h l = let w = has_one (slice_get c.subs k) _ h in has_of (slice_get c.subs k) _ w.0 w.1 (omega (arith, w.2.1, l))
  begin_room (Site k) b room h l = let w = has_one (slice_get c.sites k) _ h in has_of (slice_get c.sites k) _ w.0 w.1 (omega (arith, w.2.1, l))

  -- the main procedure takes no operand, and a thread takes none
  begin_lands : (body : Around) (b : Begin) → IsOuter body → BeginsAt c body b → Lands c body 0 0 b.entry
  begin_lands (Sub zero) b o h =
      let w = has_one (slice_get c.subs 0) _ h in
      let t = has_fact (slice_get c.subs 0) _ w.0 valid.main w.1 in
      subst (λ n. Lands c (Sub 0) 0 0 n) w.2.0 (subst (λ n. Lands c (Sub 0) n 0 w.0.entry) t (valid.subs 0 w.0 w.1))
  begin_lands (Sub (suc k)) b o h = cc
  begin_lands (Site k) b o h = let w = has_one (slice_get c.sites k) _ h in subst (λ n. Lands c (Site k) 0 0 n) w.2.0 (valid.sites k w.0 w.1).entry

  pub ready_begun : (body : Around) (b : Begin) (m : Machine) (cells : List Cell) → IsOuter body → Sees c body m.outward.items → BeginsAt c body b → b.most ≤ vec_capacity m.stack → m.pc ≡ b.entry → m.stack.items ≡ [] → m.floor ≡ 0 → m.nest ≡ 0 → m.waiting.items ≡ [] → m.raising ≡ None → m.base ≤ 2 ^ 62 → EachIndex m.outward.items (λ k. slice_index m.outward.items k ≤ 2 ^ 62) → Ready c m cells
  ready_begun body b m cells o s h l p st f n w r near frames =
      let q = has_one (slice_get c.spots b.entry) _ (begin_lands body b o h) in
      let fs : frames_of m.waiting.items ≡ [] = ap frames_of w in
      record {
        valid = valid;
        forward = forward;
        low = body;
        stands = record {
          spot = q.0;
          at = ap (slice_get c.spots) p ∙ q.1;
          height = subst (λ o. Height c o m.pc m.floor q.0.stack (length (reverse m.stack.items))) (sym r) (omega (arith, ap length st, length-reverse m.stack.items, f, q.2.1));
          begun = q.2.2 ∙ sym n;
          within = omega (arith, n);
          chain = subst (λ fs. Chain c body fs q.0.body m.floor (m.nested - m.nest) m.outward.items) (sym fs) (q.2.0, subst IsOuter (sym q.2.0) o, subst (λ b. Sees c b m.outward.items) (sym q.2.0) s, f);
        };
        roomy = record { bodies = subst (HasRoom c body (vec_capacity m.stack)) (sym fs) (begin_room body b (vec_capacity m.stack) h l); near = near; callers = subst AreNear (sym fs) tt; frames = frames };
      }
