-- The code of what is put together forward is forward: jumps lead forward or to a turn, and handlers stand behind what they
-- hold.
use Rattle.std.proofs.Common.{◌≡◌, ℕ, zero, suc, ◌+◌, ◌<◌, ◌≤◌, List, [], ◌∷◌, ◌++◌, slice_get, nat_eq, nat_lt, Option, Some, None, Bool, true, false, cond, refl, sym, ap, ◌∙◌, subst, arith, lt-ltb, ltb-true, ◌-◌, ◌⊎◌, inl, inr, ⊎_elim, eqb-true}
use Rattle.std.proofs.lemmas.Option.{none-some}
use Rattle.std.proofs.lemmas.Bool.{le-ltb, eqb-false, ltb-false}
use Rattle.ada_meaning.proofs.Cells.{some_same}
use Rattle.stack_code.specs.declared.code.Code.{Code}
use Rattle.stack_code.specs.declared.code.Unwind.{Unwind}
use Rattle.stack_code.specs.declared.instr.Instr.{Instr}
use Rattle.stack_code.specs.declared.instr.Instr.TheVariants.{Jump, Turn}
use Rattle.stack_code.specs.Operands.{flow_of}
use Rattle.stack_code.specs.Stands.{IsTarget, IsForward}
use Rattle.stack_code.specs.Valid.{Holds}
use Rattle.lower_emission.specs.declared.types.Placed.{Placed}
use Rattle.lower_emission.specs.Emits.{Emit, listed}
use Rattle.lower_emission.specs.Tables.{led, landmark, resolved, instrs_from, is_entry, begins, stretch, unwind_at, unwinds_from}
use Rattle.ada_lower.specs.ProgramCode.{Lists}
use Rattle.ada_lower.proofs.Listed.{there}
use Rattle.ada_lower.proofs.Forward.{Fore, IsTurn, Leap, Right, AllRight, all_right, here_from, right_at}

got_back : (ps : List Placed) (at : ℕ) (qs : List Placed) (k : ℕ) (i : Instr) → slice_get (instrs_from ps at qs) k ≡ Some i → (p : Placed) × (slice_get qs k ≡ Some p) × (i ≡ resolved ps (at + k) p.instr)
got_back ps at [] k i e = absurd (none-some i e)
got_back ps at (q ∷ qs) zero i e = let z : at ≡ at + 0 = omega arith in (q, refl, sym (some_same (resolved ps at q.instr) i e) ∙ ap (λ n. resolved ps n q.instr) z)
got_back ps at (q ∷ qs) (suc k) i e = let z : at + 1 + k ≡ at + suc k = omega arith in let (p, is, same) = got_back ps (at + 1) qs k i e in (p, is, same ∙ ap (λ n. resolved ps n p.instr) z)

stays_or : (ps : List Placed) (j : Instr) → ((u : ℕ) × (j ≡ Jump u)) ⊎ (((at : ℕ) → resolved ps at j ≡ j) × ((t : ℕ) → led j t ≡ t))
stays_or ps (Jump u) = inl (u, refl)
stays_or ps j = inr ((λ at. refl), (λ t. refl))

stretch_in : (l : ℕ) (qs : List Placed) (j : ℕ) → j < stretch l qs → (p : Placed) × (slice_get qs j ≡ Some p) × (p.entry ≡ Some l)
stretch_in l [] j lt = absurd (let z : j < 0 = lt in omega (arith, z))
stretch_in l (q ∷ qs) j lt = go q.entry refl lt (λ i less. stretch_in l qs i less)
  where
    here : (k i : ℕ) → k ≡ l → q.entry ≡ Some k → i < stretch l qs + 1 → ((i : ℕ) → i < stretch l qs → (p : Placed) × (slice_get qs i ≡ Some p) × (p.entry ≡ Some l)) → (p : Placed) × (slice_get (q ∷ qs) i ≡ Some p) × (p.entry ≡ Some l)
    here k zero same is less again = (q, refl, is ∙ ap Some same)
    here k (suc i) same is less again = again i (omega (arith, less))

    by : (k : ℕ) (b : Bool) → nat_eq k l ≡ b → q.entry ≡ Some k → j < cond b (stretch l qs + 1) 0 → ((i : ℕ) → i < stretch l qs → (p : Placed) × (slice_get qs i ≡ Some p) × (p.entry ≡ Some l)) → (p : Placed) × (slice_get (q ∷ qs) j ≡ Some p) × (p.entry ≡ Some l)
    by k true e is less again = here k j (eqb-true k l e) is less again
    by k false e is less again = absurd (let z : j < 0 = less in omega (arith, z))

    go : (o : Option ℕ) → q.entry ≡ o → j < cond (is_entry l o) (stretch l qs + 1) 0 → ((i : ℕ) → i < stretch l qs → (p : Placed) × (slice_get qs i ≡ Some p) × (p.entry ≡ Some l)) → (p : Placed) × (slice_get (q ∷ qs) j ≡ Some p) × (p.entry ≡ Some l)
    go None is less again = absurd (let z : j < 0 = less in omega (arith, z))
    go (Some k) is less again = by k (nat_eq k l) refl is less again

above : (n at : ℕ) → at ≤ n → (n ≡ at → ⊥) → at < n
above n at le apart = go (nat_lt at n) refl
  where
    go : (b : Bool) → nat_lt at n ≡ b → at < n
    go true e = ltb-true at n e
    go false e = absurd (let z : n ≤ at = ltb-false at n e in apart (omega (arith, z, le)))

-- what an entry of the table holds has its landmark
record Held (ps : List Placed) (at : ℕ) (qs : List Placed) (u : Unwind) : Type 0 where
  mark : ℕ
  leads : u.handler ≡ landmark (slice_get ps mark) mark
  holds : (n : ℕ) → Holds u n → (j : ℕ) × (p : Placed) × (n ≡ at + j) × (slice_get qs j ≡ Some p) × (p.entry ≡ Some mark)

held_later : (ps : List Placed) (at : ℕ) (q : Placed) (qs : List Placed) (u : Unwind) → Held ps (at + 1) qs u → Held ps at (q ∷ qs) u
held_later ps at q qs u h = record { mark = h.mark; leads = h.leads; holds = λ n is. let (j, p, place, there, entry) = h.holds n is in (suc j, p, omega (arith, place), there, entry) }

held_from : (ps : List Placed) (before : Option ℕ) (at : ℕ) (qs : List Placed) (k : ℕ) (u : Unwind) → slice_get (unwinds_from ps before at qs) k ≡ Some u → Held ps at qs u
held_from ps before at [] k u e = absurd (none-some u e)
held_from ps before at (q ∷ qs) k u e = go (begins before q.entry) q.entry refl k (λ k e. held_later ps at q qs u (held_from ps q.entry (at + 1) qs k u e)) e
  where
    new : (l : ℕ) → q.entry ≡ Some l → Held ps at (q ∷ qs) (record { from = at; to = at + 1 + stretch l qs; handler = landmark (slice_get ps l) l; depth = 0; nest = 0 })
    new l is = record { mark = l; leads = refl; holds = λ n h. place n h (nat_eq n at) refl }
      where
        place : (n : ℕ) → Holds (record { from = at; to = at + 1 + stretch l qs; handler = landmark (slice_get ps l) l; depth = 0; nest = 0 }) n → (b : Bool) → nat_eq n at ≡ b
            → (j : ℕ) × (p : Placed) × (n ≡ at + j) × (slice_get (q ∷ qs) j ≡ Some p) × (p.entry ≡ Some l)
        place n (low, high) true same = (0, q, (let z : n ≡ at = eqb-true n at same in omega (arith, z)), refl, is)
        place n (low, high) false apart =
            let more : n ≡ at → ⊥ = eqb-false n at apart in
            let less : at < n = above n at low more in
            let (p, there, entry) = stretch_in l qs (n - (at + 1)) (omega (arith, less, high)) in
            (suc (n - (at + 1)), p, omega (arith, less), there, entry)

    go : (b : Bool) (o : Option ℕ) → q.entry ≡ o → (k : ℕ) → ((k : ℕ) → slice_get (unwinds_from ps q.entry (at + 1) qs) k ≡ Some u → Held ps at (q ∷ qs) u)
        → slice_get (cond b (unwind_at ps at o qs) [] ++ unwinds_from ps q.entry (at + 1) qs) k ≡ Some u → Held ps at (q ∷ qs) u
    go false o is k again e = again k e
    go true None is k again e = again k e
    go true (Some l) is zero again e = subst (λ u. Held ps at (q ∷ qs) u) (some_same _ u e) (new l is)
    go true (Some l) is (suc k) again e = again k e

module _ (c : Code) (ps : List Placed) (instrs : c.instrs ≡ instrs_from ps 0 ps) (unwind : c.unwind ≡ unwinds_from ps None 0 ps) (right : AllRight ps 0 ps) where
  turn_there : (t : ℕ) → IsTurn ps t → slice_get c.instrs t ≡ Some Turn
  turn_there t (p, is, turn) = there c ps instrs t p is ∙ ap (λ i. Some (resolved ps t i)) turn

  right_there : (k : ℕ) (p : Placed) → slice_get ps k ≡ Some p → Right ps k p
  right_there k p e = let z : 0 + k ≡ k = omega arith in subst (λ n. Right ps n p) z (right_at ps 0 ps k p right e)

  landmark_is : (l v : ℕ) (p : Placed) → slice_get ps l ≡ Some p → p.instr ≡ Jump v → landmark (slice_get ps l) l ≡ v
  landmark_is l v p is jump = ap (λ o. landmark o l) is ∙ ap (λ i. led i l) jump

  jump_leads : (at u t : ℕ) → Leap ps at (Jump u) u → t ≡ cond (nat_lt u at) (landmark (slice_get ps u) u) u → (at < t) ⊎ (slice_get c.instrs t ≡ Some Turn)
  jump_leads at u t (inl ahead) z =
      let w : t ≡ u = z ∙ ap (λ b. cond b (landmark (slice_get ps u) u) u) (le-ltb u at (omega (arith, ahead))) in inl (omega (arith, ahead, w))
  jump_leads at u t (inr (inl (p, is, turn))) z =
      let e : landmark (slice_get ps u) u ≡ u = ap (λ o. landmark o u) is ∙ ap (λ i. led i u) turn in
      let w : t ≡ u = z ∙ both (nat_lt u at) (landmark (slice_get ps u) u) u e in
      inr (subst (λ t. slice_get c.instrs t ≡ Some Turn) (sym w) (turn_there u (p, is, turn)))
    where
      both : (b : Bool) (x y : ℕ) → x ≡ y → cond b x y ≡ y
      both true x y e = e
      both false x y e = refl
  jump_leads at u t (inr (inr (same, (lt, p, v, is, jump, far)))) z =
      let w : t ≡ v = z ∙ ap (λ b. cond b (landmark (slice_get ps u) u) u) (lt-ltb u at lt) ∙ landmark_is u v p is jump in inl (omega (arith, far, w))

  leads : (at t : ℕ) (j : Instr) → ((n : ℕ) → IsTarget (flow_of j) n → Leap ps at j n) → IsTarget (flow_of (resolved ps at j)) t → (at < t) ⊎ (slice_get c.instrs t ≡ Some Turn)
  leads at t j leaps z = ⊎_elim
      (λ r. let (u, is) = r in jump_leads at u t (subst (λ j. (n : ℕ) → IsTarget (flow_of j) n → Leap ps at j n) is leaps u refl) (subst (λ j. IsTarget (flow_of (resolved ps at j)) t) is z))
      (λ r. let (same, stays) = r in
      ⊎_elim (λ ahead. inl ahead) (λ o. ⊎_elim (λ turn. inr (turn_there t turn)) (λ back. absurd (let w : t ≡ t + 1 = ap (λ j. led j (t + 1)) (sym back.0) ∙ stays (t + 1) in omega (arith, w))) o)
      (leaps t (subst (λ j. IsTarget (flow_of j) t) (same at) z)))
      (stays_or ps j)

  pub is_forward : IsForward c
  is_forward = record {
    jumps = λ at i t e z.
        let (p, is, same) = got_back ps 0 ps at i (subst (λ js. slice_get js at ≡ Some i) instrs e) in
        let here : 0 + at ≡ at = omega arith in
        leads at t p.instr (right_there at p is).0 (subst (λ i. IsTarget (flow_of i) t) (same ∙ ap (λ n. resolved ps n p.instr) here) z);
    handlers = λ k u at e holds.
        let h = held_from ps None 0 ps k u (subst (λ us. slice_get us k ≡ Some u) unwind e) in
        let (j, p, place, is, entry) = h.holds at holds in
        let (lt, q, v, there, jump, far) = (right_there j p is).1 h.mark entry in
        let leads : u.handler ≡ v = h.leads ∙ landmark_is h.mark v q there jump in
        omega (arith, leads, far, place);
  }

-- nothing around
abbrev pub Nowhere : ℕ → Type 0
Nowhere n = ⊥

pub forward_code : (c : Code) (a : Emit) → Lists c a → Fore Nowhere Nowhere a → IsForward c
forward_code c a is fore =
    is_forward c (listed a 0) is.instrs is.unwind
    (all_right (listed a 0) Nowhere Nowhere a 0 fore (here_from (listed a 0) 0 (listed a 0) (λ k p e. let w : k ≡ 0 + k = omega arith in subst (λ n. slice_get (listed a 0) n ≡ Some p) w e)) (λ n z. absurd z) (λ n z. absurd z))
