-- What is listed lies in the code that has its instructions and handlers, where jumps back to landmarks are resolved.
use Rattle.std.proofs.Common.{◌≡◌, ℕ, zero, suc, ◌+◌, ◌<◌, ◌≤◌, List, [], ◌∷◌, ◌++◌, length, slice_get, nat_eq, nat_lt, Option, Some, None, Bool, true, false, cond, not, refl, sym, ap, ap₂, ◌∙◌, subst, arith, lt-ltb, ltb-true, ◌⊎◌, inl, inr, ⊎_elim, eqb-true}
use Rattle.std.proofs.lemmas.Bool.{le-ltb, eq-eqb, eqb-false, ne_eqb}
use Rattle.std.proofs.lemmas.Option.{none-some}
use Rattle.ada_meaning.proofs.Cells.{some_same}
use Rattle.stack_code.specs.declared.code.Code.{Code}
use Rattle.stack_code.specs.declared.code.Unwind.{Unwind}
use Rattle.stack_code.specs.declared.instr.Instr.{Instr}
use Rattle.stack_code.specs.declared.instr.Instr.TheVariants.{Jump}
use Rattle.stack_code.specs.Machine.{entry_of}
use Rattle.lower_emission.specs.Tables.{led, landmark, resolved, instrs_from, is_entry, begins, stretch, unwind_at, unwinds_from}
use Rattle.ada_lower.specs.Driven.{Meets, IsFor, HeldBy, At}
use Rattle.ada_lower.specs.Sights.{Emit, Lies, Placed, Stands, listed}
use Rattle.ada_lower.specs.ProgramCode.{Lists}

-- ---- instructions

got_from : (ps : List Placed) (at : ℕ) (qs : List Placed) (k : ℕ) (p : Placed) → slice_get qs k ≡ Some p → slice_get (instrs_from ps at qs) k ≡ Some (resolved ps (at + k) p.instr)
got_from ps at [] k p e = absurd (none-some p e)
got_from ps at (q ∷ qs) zero p e = let z : at ≡ at + 0 = omega arith in ap₂ (λ n i. Some (resolved ps n i)) z (ap (λ p. p.instr) (some_same q p e))
got_from ps at (q ∷ qs) (suc k) p e = let z : at + 1 + k ≡ at + suc k = omega arith in got_from ps (at + 1) qs k p e ∙ ap (λ n. Some (resolved ps n p.instr)) z

jump_or : (i : Instr) → ((u : ℕ) × (i ≡ Jump u)) ⊎ ((t : ℕ) → led i t ≡ t)
jump_or (Jump u) = inl (u, refl)
jump_or i = inr (λ t. refl)

module _ (c : Code) (ps : List Placed) (same : c.instrs ≡ instrs_from ps 0 ps) where
  pub there : (k : ℕ) (p : Placed) → slice_get ps k ≡ Some p → slice_get c.instrs k ≡ Some (resolved ps k p.instr)
  there k p e = let z : 0 + k ≡ k = omega arith in ap (λ is. slice_get is k) same ∙ got_from ps 0 ps k p e ∙ ap (λ n. Some (resolved ps n p.instr)) z

  meets_here : (t : ℕ) → Meets c t t
  meets_here t = record { place = t; first = 0; second = 0; here = refl; there = refl }

  abbrev Again : ℕ → Type 0
  Again t = (u : ℕ) → u < t → Meets c u (landmark (slice_get ps u) u)

  -- jumps lead from a landmark and from where it leads to the same place
  meets_within : (n t : ℕ) → t < n → Meets c t (landmark (slice_get ps t) t)
  meets_within zero t lt = absurd (omega (arith, lt))
  meets_within (suc n) t lt = go (λ u l. meets_within n u (omega (arith, l, lt))) (slice_get ps t) refl
    where
      onward : Again t → (u : ℕ) (b : Bool) → nat_lt u t ≡ b → slice_get c.instrs t ≡ Some (Jump (cond b (landmark (slice_get ps u) u) u)) → Meets c t u
      onward again u true e is =
          let m : Meets c u (landmark (slice_get ps u) u) = again u (ltb-true u t e) in
          record { place = m.place; first = suc m.second; second = m.first; here = (landmark (slice_get ps u) u, is, m.there); there = m.here }
      onward again u false e is = record { place = u; first = 1; second = 0; here = (u, is, refl); there = refl }

      by : Again t → (p : Placed) → slice_get ps t ≡ Some p → ((u : ℕ) × (p.instr ≡ Jump u)) ⊎ ((t : ℕ) → led p.instr t ≡ t) → Meets c t (led p.instr t)
      by again p e (inl (u, is)) = subst (λ i. Meets c t (led i t)) (sym is) (onward again u (nat_lt u t) refl (subst (λ i. slice_get c.instrs t ≡ Some (resolved ps t i)) is (there t p e)))
      by again p e (inr stays) = subst (λ n. Meets c t n) (sym (stays t)) (meets_here t)

      go : Again t → (o : Option Placed) → slice_get ps t ≡ o → Meets c t (landmark o t)
      go again None e = meets_here t
      go again (Some p) e = by again p e (jump_or p.instr)

  meets_landmark : (t : ℕ) → Meets c t (landmark (slice_get ps t) t)
  meets_landmark t = meets_within (suc t) t (omega arith)

  is_for : (k : ℕ) (p : Placed) → slice_get ps k ≡ Some p → IsFor c (slice_get c.instrs k) p.instr
  is_for k p e = go p.instr (there k p e)
    where
      aim : (t : ℕ) (b : Bool) → Meets c t (cond b (landmark (slice_get ps t) t) t)
      aim t true = meets_landmark t
      aim t false = meets_here t

      go : (i : Instr) → slice_get c.instrs k ≡ Some (resolved ps k i) → IsFor c (slice_get c.instrs k) i
      go (Jump t) e = inr (t, cond (nat_lt t k) (landmark (slice_get ps t) t) t, refl, e, aim t (nat_lt t k))
      go i e = inl e

-- ---- handlers

same_both : {A : Type 0} (b : Bool) (x y : A) → x ≡ y → cond b x y ≡ y
same_both true x y e = e
same_both false x y e = refl

skips_from : (u : Unwind) (us : List Unwind) (q : ℕ) → q < u.from → entry_of (u ∷ us) q ≡ entry_of us q
skips_from u us q lt = ap (λ b. cond b (entry_of us q) (cond (nat_lt q u.to) (Some u) (entry_of us q))) (lt-ltb q u.from lt)

skips_to : (u : Unwind) (us : List Unwind) (q : ℕ) → u.to ≤ q → entry_of (u ∷ us) q ≡ entry_of us q
skips_to u us q le = ap (λ b. cond (nat_lt q u.from) (entry_of us q) (cond b (Some u) (entry_of us q))) (le-ltb q u.to le) ∙ same_both (nat_lt q u.from) (entry_of us q) (entry_of us q) refl

hits : (u : Unwind) (us : List Unwind) (q : ℕ) → u.from ≤ q → q < u.to → entry_of (u ∷ us) q ≡ Some u
hits u us q le lt = ap (λ b. cond b (entry_of us q) (cond (nat_lt q u.to) (Some u) (entry_of us q))) (le-ltb q u.from le) ∙ ap (λ b. cond b (Some u) (entry_of us q)) (lt-ltb q u.to lt)

eq_yes : (a b : ℕ) → a ≡ b → nat_eq a b ≡ true
eq_yes a b e = eq-eqb a b e

same_or : (a b : ℕ) → (a ≡ b) ⊎ (a ≡ b → ⊥)
same_or a b = go (nat_eq a b) refl
  where
    go : (t : Bool) → nat_eq a b ≡ t → (a ≡ b) ⊎ (a ≡ b → ⊥)
    go true e = inl (eqb-true a b e)
    go false e = inr (eqb-false a b e)

module _ (ps : List Placed) where
  abbrev entry_at : (from to l : ℕ) → Unwind
  entry_at from to l = record { from = from; to = to; handler = landmark (slice_get ps l) l; depth = 0; nest = 0 }

  -- the entry that holds what is here
  abbrev Covers : Option Unwind → Option ℕ → Type 0
  Covers None None = Unit {0}
  Covers None (Some l) = ⊥
  Covers (Some u) None = ⊥
  Covers (Some u) (Some l) = (u.handler ≡ landmark (slice_get ps l) l) × (u.depth ≡ 0) × (u.nest ≡ 0)

  -- those of instructions from a place on hold none before it
  later : (before : Option ℕ) (at : ℕ) (qs : List Placed) (q : ℕ) → q < at → entry_of (unwinds_from ps before at qs) q ≡ None
  later before at [] q lt = refl
  later before at (p ∷ qs) q lt = go (begins before p.entry) p.entry (unwinds_from ps p.entry (at + 1) qs) (later p.entry (at + 1) qs q (omega (arith, lt)))
    where
      go : (b : Bool) (o : Option ℕ) (rest : List Unwind) → entry_of rest q ≡ None → entry_of (cond b (unwind_at ps at o qs) [] ++ rest) q ≡ None
      go false o rest e = e
      go true None rest e = e
      go true (Some l) rest e = skips_from (entry_at at (at + 1 + stretch l qs) l) rest q lt ∙ e

  -- the stretch that is begun, where this is the next one's handler
  abbrev opened_at : (from : ℕ) → (before here : Option ℕ) → ℕ → List Placed → List Unwind
  opened_at from None here at qs = []
  opened_at from (Some l) here at qs = entry_at from (at + cond (is_entry l here) (stretch l qs + 1) 0) l ∷ []

  abbrev opened : (from : ℕ) → Option ℕ → ℕ → List Placed → List Unwind
  opened from None at qs = []
  opened from (Some l) at qs = entry_at from (at + stretch l qs) l ∷ []

  opened_is : (from : ℕ) (before : Option ℕ) (at : ℕ) (q : Placed) (qs : List Placed) → opened_at from before q.entry at qs ≡ opened from before at (q ∷ qs)
  opened_is from None at q qs = refl
  opened_is from (Some l) at q qs = refl

  covers_new : (at l : ℕ) (qs : List Placed) (rest : List Unwind) → Covers (entry_of (entry_at at (at + 1 + stretch l qs) l ∷ rest) at) (Some l)
  covers_new at l qs rest = subst (λ o. Covers o (Some l)) (sym (hits (entry_at at (at + 1 + stretch l qs) l) rest at (omega arith) (omega arith))) (refl, refl, refl)

  first : (from at : ℕ) (before here : Option ℕ) (qs : List Placed) (rest : List Unwind) → from ≤ at → entry_of rest at ≡ None
      → Covers (entry_of (opened_at from before here at qs ++ (cond (begins before here) (unwind_at ps at here qs) [] ++ rest)) at) here
  first from at None None qs rest le none = subst (λ o. Covers o None) (sym none) tt
  first from at None (Some l) qs rest le none = covers_new at l qs rest
  first from at (Some l) None qs rest le none = subst (λ o. Covers o None) (sym (skips_to (entry_at from (at + 0) l) rest at (omega arith) ∙ none)) tt
  first from at (Some l) (Some m) qs rest le none = ⊎_elim
      (λ same. subst (λ o. Covers o (Some m)) (sym (hits (entry_at from (at + cond (nat_eq m l) (stretch l qs + 1) 0) l) (cond (not (nat_eq l m)) (unwind_at ps at (Some m) qs) [] ++ rest) at le
      (subst (λ b. at < at + cond b (stretch l qs + 1) 0) (sym (eq_yes m l (sym same))) (omega arith))))
      (ap (λ l. landmark (slice_get ps l) l) same, refl, refl))
      (λ apart. subst (λ o. Covers o (Some m)) (sym (skips_to (entry_at from (at + cond (nat_eq m l) (stretch l qs + 1) 0) l) (cond (not (nat_eq l m)) (unwind_at ps at (Some m) qs) [] ++ rest) at
      (subst (λ b. at + cond b (stretch l qs + 1) 0 ≤ at) (sym (ne_eqb m l (λ e. apart (sym e)))) (omega arith))))
      (subst (λ b. Covers (entry_of (cond (not b) (unwind_at ps at (Some m) qs) [] ++ rest) at) (Some m)) (sym (ne_eqb l m apart)) (covers_new at m qs rest)))
      (same_or l m)

  -- what is opened behind one instruction is what is opened for the next ones
  record Next (from at : ℕ) (before here : Option ℕ) (qs : List Placed) (rest : List Unwind) (q : ℕ) : Type 0 where
    next : ℕ
    below : next ≤ at + 1
    same : entry_of (opened_at from before here at qs ++ (cond (begins before here) (unwind_at ps at here qs) [] ++ rest)) q ≡ entry_of (opened next here (at + 1) qs ++ rest) q

  step : (from at : ℕ) (before here : Option ℕ) (qs : List Placed) (rest : List Unwind) (q : ℕ) → from ≤ at → at < q → Next from at before here qs rest q
  step from at None None qs rest q le lt = record { next = from; below = omega (arith, le); same = refl }
  step from at None (Some l) qs rest q le lt = record { next = at; below = omega arith; same = refl }
  step from at (Some l) None qs rest q le lt = record { next = from; below = omega (arith, le); same = skips_to (entry_at from (at + 0) l) rest q (omega (arith, lt)) }
  step from at (Some l) (Some m) qs rest q le lt = ⊎_elim
      (λ e. record {
        next = from;
        below = omega (arith, le);
        same =
            ap₂ (λ a b. entry_of (entry_at from (at + cond a (stretch l qs + 1) 0) l ∷ (cond (not b) (unwind_at ps at (Some m) qs) [] ++ rest)) q) (eq_yes m l (sym e)) (eq_yes l m e)
            ∙ ap (λ l. entry_of (entry_at from (at + (stretch l qs + 1)) l ∷ rest) q) e
            ∙ (let z : at + (stretch m qs + 1) ≡ at + 1 + stretch m qs = omega arith in ap (λ n. entry_of (entry_at from n m ∷ rest) q) z);
      })
      (λ apart. record {
        next = at;
        below = omega arith;
        same =
            ap₂ (λ a b. entry_of (entry_at from (at + cond a (stretch l qs + 1) 0) l ∷ (cond (not b) (unwind_at ps at (Some m) qs) [] ++ rest)) q) (ne_eqb m l (λ e. apart (sym e))) (ne_eqb l m apart)
            ∙ skips_to (entry_at from (at + 0) l) (entry_at at (at + 1 + stretch m qs) m ∷ rest) q (omega (arith, lt));
      })
      (same_or l m)

  covered : (qs : List Placed) (before : Option ℕ) (from at k : ℕ) (p : Placed) → from ≤ at → slice_get qs k ≡ Some p → Covers (entry_of (opened from before at qs ++ unwinds_from ps before at qs) (at + k)) p.entry
  covered [] before from at k p le e = absurd (none-some p e)
  covered (q ∷ qs) before from at zero p le e =
      let z : at ≡ at + 0 = omega arith in
      subst (λ o. Covers (entry_of (opened from before at (q ∷ qs) ++ unwinds_from ps before at (q ∷ qs)) (at + 0)) o) (ap (λ p. p.entry) (some_same q p e))
      (subst (λ n. Covers (entry_of (opened from before at (q ∷ qs) ++ unwinds_from ps before at (q ∷ qs)) n) q.entry) z
      (subst (λ us. Covers (entry_of (us ++ unwinds_from ps before at (q ∷ qs)) at) q.entry) (opened_is from before at q qs)
      (first from at before q.entry qs (unwinds_from ps q.entry (at + 1) qs) le (later q.entry (at + 1) qs at (omega arith)))))
  covered (q ∷ qs) before from at (suc k) p le e =
      let n = step from at before q.entry qs (unwinds_from ps q.entry (at + 1) qs) (at + suc k) le (omega arith) in
      let z : at + 1 + k ≡ at + suc k = omega arith in
      subst (λ us. Covers (entry_of (us ++ unwinds_from ps before at (q ∷ qs)) (at + suc k)) p.entry) (opened_is from before at q qs)
      (subst (λ o. Covers o p.entry) (sym n.same)
      (subst (λ m. Covers (entry_of (opened n.next q.entry (at + 1) qs ++ unwinds_from ps q.entry (at + 1) qs) m) p.entry) z (covered qs q.entry n.next (at + 1) k p n.below e)))

module _ (c : Code) (ps : List Placed) (instrs : c.instrs ≡ instrs_from ps 0 ps) (unwind : c.unwind ≡ unwinds_from ps None 0 ps) where
  held_for : (o : Option Unwind) (e : Option ℕ) → Covers ps o e → HeldBy c o e
  held_for None None h = tt
  held_for None (Some l) h = absurd h
  held_for (Some u) None h = absurd h
  held_for (Some u) (Some l) h = (subst (λ n. Meets c l n) (sym h.0) (meets_landmark c ps instrs l), h.1, h.2)

  held_at : (k : ℕ) (p : Placed) → slice_get ps k ≡ Some p → HeldBy c (entry_of c.unwind k) p.entry
  held_at k p e =
      let z : 0 + k ≡ k = omega arith in
      held_for (entry_of c.unwind k) p.entry
      (subst (λ us. Covers ps (entry_of us k) p.entry) (sym unwind)
      (subst (λ n. Covers ps (entry_of (unwinds_from ps None 0 ps) n) p.entry) z (covered ps ps None 0 0 k p (omega arith) e)))

  at_listed : (k : ℕ) (p : Placed) → slice_get ps k ≡ Some p → At c k p.instr p.entry
  at_listed k p e = record { is = is_for c ps instrs k p e; held = held_at k p e }

  lies_from : (from : ℕ) (qs : List Placed) → ((k : ℕ) (p : Placed) → slice_get qs k ≡ Some p → slice_get ps (from + k) ≡ Some p) → Lies c from qs (from + length qs)
  lies_from from [] h = (let z : from + 0 ≡ from = omega arith in z)
  lies_from from (q ∷ qs) h =
      let z : from + 0 ≡ from = omega arith in
      let y : from + 1 + length qs ≡ from + suc (length qs) = omega arith in (
        at_listed from q (subst (λ n. slice_get ps n ≡ Some q) z (h 0 q refl)),
        subst (λ n. Lies c (from + 1) qs n) y (lies_from (from + 1) qs (λ k p e. let w : from + suc k ≡ from + 1 + k = omega arith in subst (λ n. slice_get ps n ≡ Some p) w (h (suc k) p e))),
      )

  lies_all : Lies c 0 ps (length ps)
  lies_all = let z : 0 + length ps ≡ length ps = omega arith in subst (λ n. Lies c 0 ps n) z (lies_from 0 ps (λ k p e. let w : k ≡ 0 + k = omega arith in subst (λ n. slice_get ps n ≡ Some p) w e))

-- what is listed stands in its code
pub stands_listed : (c : Code) (a : Emit) → Lists c a → Stands c a 0 (length (listed a 0))
stands_listed c a is = lies_all c (listed a 0) is.instrs is.unwind
