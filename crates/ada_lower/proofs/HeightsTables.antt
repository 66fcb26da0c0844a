-- The tables of code whose heights fit: each instruction fits its spot, and each unwind entry what it holds.
use Rattle.std.proofs.Common.{◌≡◌, ℕ, zero, suc, ◌+◌, ◌-◌, ◌<◌, ◌≤◌, List, [], ◌∷◌, ◌++◌, length, slice_get, nat_eq, nat_lt, Option, Some, None, Bool, true, false, cond, not, refl, sym, ap, ap₂, ◌∙◌, subst, arith, ◌⊎◌, inl, inr, ⊎_elim, eqb-true}
use Rattle.std.specs.Prelude.{IsSomeAnd}
use Rattle.std.proofs.lemmas.Option.{none-some}
use Rattle.std.proofs.lemmas.Bool.{eq-eqb, eqb-false}
use Rattle.ada_meaning.proofs.Cells.{some_same}
use Rattle.stack_code.specs.declared.code.Around.{Around as Body}
use Rattle.stack_code.specs.declared.code.Code.{Code}
use Rattle.stack_code.specs.declared.code.Unwind.{Unwind}
use Rattle.stack_code.specs.declared.instr.Instr.{Instr}
use Rattle.stack_code.specs.declared.instr.Instr.TheVariants.{Jump}
use Rattle.stack_code.specs.declared.flow.Flow.{Flow}
use Rattle.stack_code.specs.declared.flow.Flow.TheVariants.{On, To, Branch, Back, Round, Ends}
use Rattle.stack_code.specs.Operands.{takes, pushes, ends_of, nest_after, flow_of}
use Rattle.stack_code.specs.Valid as valid
use Rattle.stack_code.specs.Valid.{Each, Has, HasStack, Lands, Belongs, NamesHolder, SpotFits, Holds, Guarded, GuardsIn, HandlerFits, IsUpTo}
use Rattle.lower_emission.specs.declared.types.Placed.{Placed}
use Rattle.lower_emission.specs.Tables.{led, landmark, resolved, instrs_from, is_entry, begins, stretch, unwind_at, unwinds_from, begun_by, held_by, spot_of, spots_from}
use Rattle.ada_lower.proofs.Heights.{Stood, Leads, Fit}

-- ---- spots

abbrev Counted : (before : Option ℕ) → ℕ → List Placed → ℕ → Placed → ℕ → Type 0
Counted before k qs j p n = slice_get (spots_from before k qs) j ≡ Some (spot_of p n)

counted : (before : Option ℕ) (k : ℕ) (qs : List Placed) (j : ℕ) (p : Placed) → slice_get qs j ≡ Some p → (n : ℕ) × Counted before k qs j p n
counted before k [] j p e = absurd (none-some p e)
counted before k (q ∷ qs) zero p e = (begun_by before q.entry k, ap (λ x. Some (spot_of x (begun_by before q.entry k))) (some_same q p e))
counted before k (q ∷ qs) (suc j) p e = counted q.entry (begun_by before q.entry k) qs j p e

spots_length : (before : Option ℕ) (k : ℕ) (qs : List Placed) → length (spots_from before k qs) ≡ length qs
spots_length before k [] = refl
spots_length before k (q ∷ qs) = ap suc (spots_length q.entry (begun_by before q.entry k) qs)

instrs_length : (ps : List Placed) (at : ℕ) (qs : List Placed) → length (instrs_from ps at qs) ≡ length qs
instrs_length ps at [] = refl
instrs_length ps at (q ∷ qs) = ap suc (instrs_length ps (at + 1) qs)

got_back : (ps : List Placed) (at : ℕ) (qs : List Placed) (k : ℕ) (i : Instr) → slice_get (instrs_from ps at qs) k ≡ Some i → (p : Placed) × (slice_get qs k ≡ Some p) × (i ≡ resolved ps (at + k) p.instr)
got_back ps at [] k i e = absurd (none-some i e)
got_back ps at (q ∷ qs) zero i e = let z : at ≡ at + 0 = omega arith in (q, refl, sym (some_same (resolved ps at q.instr) i e) ∙ ap (λ n. resolved ps n q.instr) z)
got_back ps at (q ∷ qs) (suc k) i e = let z : at + 1 + k ≡ at + suc k = omega arith in let (p, is, same) = got_back ps (at + 1) qs k i e in (p, is, same ∙ ap (λ n. resolved ps n p.instr) z)

-- ---- stretches

same_self : (l : ℕ) → nat_eq l l ≡ true
same_self l = eq-eqb l l refl

entry_is : (l : ℕ) (before : Option ℕ) → is_entry l before ≡ true → before ≡ Some l
entry_is l None e = absurd (is_true_false e)
  where
    only : Bool → Type 0
    only true = ⊥
    only false = Unit {0}

    is_true_false : false ≡ true → ⊥
    is_true_false e = subst only e tt
entry_is l (Some m) e = ap Some (eqb-true m l e)

not_not : (b : Bool) → not b ≡ false → b ≡ true
not_not true e = refl
not_not false e = sym e

false_true : false ≡ true → ⊥
false_true e = subst only e tt
  where
    only : Bool → Type 0
    only true = ⊥
    only false = Unit {0}

-- where no stretch begins with a handler, the same one went before
goes_on : (l : ℕ) (before : Option ℕ) → begins before (Some l) ≡ false → before ≡ Some l
goes_on l before e = entry_is l before (not_not (is_entry l before) e)

in_stretch : (l k : ℕ) (qs : List Placed) (j : ℕ) → j < stretch l qs → (p : Placed) × (slice_get qs j ≡ Some p) × (p.entry ≡ Some l) × Counted (Some l) k qs j p k
in_stretch l k [] j lt = absurd (let z : j < 0 = lt in omega (arith, z))
in_stretch l k (q ∷ qs) j lt = go (is_entry l q.entry) refl j lt (λ i less. in_stretch l k qs i less)
  where
    here : q.entry ≡ Some l → (j : ℕ) → j < stretch l qs + 1 → ((i : ℕ) → i < stretch l qs → (p : Placed) × (slice_get qs i ≡ Some p) × (p.entry ≡ Some l) × Counted (Some l) k qs i p k)
        → (p : Placed) × (slice_get (q ∷ qs) j ≡ Some p) × (p.entry ≡ Some l) × Counted (Some l) k (q ∷ qs) j p k
    here is zero less again =
        let same : begun_by (Some l) q.entry k ≡ k = ap (λ o. begun_by (Some l) o k) is ∙ ap (λ b. cond (not b) (k + 1) k) (same_self l) in
        (q, refl, is, ap (λ n. Some (spot_of q n)) same)
    here is (suc i) less again =
        let same : begun_by (Some l) q.entry k ≡ k = ap (λ o. begun_by (Some l) o k) is ∙ ap (λ b. cond (not b) (k + 1) k) (same_self l) in
        let (p, there, entry, counts) = again i (omega (arith, less)) in
        (p, there, entry, ap₂ (λ o n. slice_get (spots_from o n qs) i) is same ∙ counts)

    go : (b : Bool) → is_entry l q.entry ≡ b → (j : ℕ) → j < cond b (stretch l qs + 1) 0 → ((i : ℕ) → i < stretch l qs → (p : Placed) × (slice_get qs i ≡ Some p) × (p.entry ≡ Some l) × Counted (Some l) k qs i p k)
        → (p : Placed) × (slice_get (q ∷ qs) j ≡ Some p) × (p.entry ≡ Some l) × Counted (Some l) k (q ∷ qs) j p k
    go true e j less again = here (entry_is l q.entry e) j less again
    go false e j less again = absurd (let z : j < 0 = less in omega (arith, z))

module _ (ps : List Placed) where
  abbrev entry_at : (at l : ℕ) → List Placed → Unwind
  entry_at at l qs = record { from = at; to = at + 1 + stretch l qs; handler = landmark (slice_get ps l) l; depth = 0; nest = 0 }

  -- an instruction with a handler is of the stretch before, or of one that begins here
  abbrev OfOne : (before : Option ℕ) (k at : ℕ) → List Placed → (j l n : ℕ) → Type 0
  OfOne before k at qs j l n = ((n ≡ k) × (before ≡ Some l) × (j < stretch l qs)) ⊎ ((i : ℕ) × (u : Unwind) × (n ≡ k + i + 1) × (slice_get (unwinds_from ps before at qs) i ≡ Some u) × Holds u (at + j))

  held_on : (before : Option ℕ) (k at : ℕ) (qs : List Placed) (j : ℕ) (p : Placed) (l : ℕ) → slice_get qs j ≡ Some p → p.entry ≡ Some l → (n : ℕ) × Counted before k qs j p n × OfOne before k at qs j l n
  held_on before k at [] j p l e is = absurd (none-some p e)
  held_on before k at (q ∷ qs) j p l e is = go (begins before q.entry) q.entry refl refl j e (λ j e. held_on q.entry (begun_by before q.entry k) (at + 1) qs j p l e is)
    where
      rest : List Unwind
      rest = unwinds_from ps q.entry (at + 1) qs

      table : (b : Bool) (o : Option ℕ) → begins before q.entry ≡ b → q.entry ≡ o → unwinds_from ps before at (q ∷ qs) ≡ cond b (unwind_at ps at o qs) [] ++ rest
      table b o eb eo = ap₂ (λ b o. cond b (unwind_at ps at o qs) [] ++ rest) eb eo

      counts : (b : Bool) → begins before q.entry ≡ b → begun_by before q.entry k ≡ cond b (k + 1) k
      counts b eb = ap (λ b. cond b (k + 1) k) eb

      one_on : (j : ℕ) → Counted before k (q ∷ qs) zero q (begun_by before q.entry k)
      one_on j = refl

      first : (b : Bool) → begins before q.entry ≡ b → q.entry ≡ Some l → OfOne before k at (q ∷ qs) zero l (begun_by before q.entry k)
      first true eb eo = inr (0, entry_at at l qs, counts true eb ∙ (let z : k + 1 ≡ k + 0 + 1 = omega arith in z), ap (λ us. slice_get us 0) (table true (Some l) eb eo), (omega arith, omega arith))
      first false eb eo =
          inl (counts false eb, goes_on l before (ap (λ o. begins before o) (sym eo) ∙ eb), subst (λ o. 0 < cond (is_entry l o) (stretch l qs + 1) 0) (sym eo) (subst (λ b. 0 < cond b (stretch l qs + 1) 0) (sym (same_self l)) (omega arith)))

      next : (b : Bool) (o : Option ℕ) → begins before q.entry ≡ b → q.entry ≡ o → (j n : ℕ) → OfOne q.entry (begun_by before q.entry k) (at + 1) qs j l n → OfOne before k at (q ∷ qs) (suc j) l n
      next true None eb eo j n w = absurd (false_true (sym (ap (λ o. begins before o) eo) ∙ eb))
      next true (Some m) eb eo j n (inl (en, es, lt)) =
          let same : m ≡ l = some_same m l (sym eo ∙ es) in
          inr (0, entry_at at m qs, en ∙ counts true eb ∙ (let z : k + 1 ≡ k + 0 + 1 = omega arith in z), ap (λ us. slice_get us 0) (table true (Some m) eb eo), (omega arith, subst (λ m. at + suc j < at + 1 + stretch m qs) (sym same) (omega (arith, lt))))
      next true (Some m) eb eo j n (inr (i, u, en, there, (low, high))) =
          let c : begun_by before q.entry k ≡ k + 1 = counts true eb in
          inr (suc i, u, (let z : n ≡ k + suc i + 1 = omega (arith, en, c) in z), ap (λ us. slice_get us (suc i)) (table true (Some m) eb eo) ∙ there, (omega (arith, low), omega (arith, high)))
      next false o eb eo j n (inl (en, es, lt)) =
          inl (en ∙ counts false eb, goes_on l before (ap (λ o. begins before o) (sym es) ∙ eb), subst (λ o. suc j < cond (is_entry l o) (stretch l qs + 1) 0) (sym es) (subst (λ b. suc j < cond b (stretch l qs + 1) 0) (sym (same_self l)) (omega (arith, lt))))
      next false o eb eo j n (inr (i, u, en, there, (low, high))) =
          let c : begun_by before q.entry k ≡ k = counts false eb in
          inr (i, u, (let z : n ≡ k + i + 1 = omega (arith, en, c) in z), ap (λ us. slice_get us i) (table false o eb eo) ∙ there, (omega (arith, low), omega (arith, high)))

      go : (b : Bool) (o : Option ℕ) → begins before q.entry ≡ b → q.entry ≡ o → (j : ℕ) → slice_get (q ∷ qs) j ≡ Some p
          → ((j : ℕ) → slice_get qs j ≡ Some p → (n : ℕ) × Counted q.entry (begun_by before q.entry k) qs j p n × OfOne q.entry (begun_by before q.entry k) (at + 1) qs j l n)
          → (n : ℕ) × Counted before k (q ∷ qs) j p n × OfOne before k at (q ∷ qs) j l n
      go b o eb eo zero e again =
          let same : q ≡ p = some_same q p e in
          (begun_by before q.entry k, ap (λ x. Some (spot_of x (begun_by before q.entry k))) same, first b eb (ap (λ p. p.entry) same ∙ is))
      go b o eb eo (suc j) e again = let (n, c, w) = again j e in (n, c, next b o eb eo j n w)

  -- an entry of the table: what it holds has its landmark, and was counted with it or before
  record Holder (before : Option ℕ) (k at : ℕ) (qs : List Placed) (i : ℕ) (u : Unwind) : Type 0 where
    mark : ℕ
    leads : u.handler ≡ landmark (slice_get ps mark) mark
    flat : (u.depth ≡ 0) × (u.nest ≡ 0)
    some : u.from < u.to
    holds : (x : ℕ) → Holds u x → (j : ℕ) × (p : Placed) × (n : ℕ) × (x ≡ at + j) × (slice_get qs j ≡ Some p) × (p.entry ≡ Some mark) × Counted before k qs j p n × (n ≤ k + i + 1)

  above : (n at : ℕ) → at ≤ n → (n ≡ at → ⊥) → at < n
  above zero zero le apart = absurd (apart refl)
  above zero (suc at) le apart = absurd (omega (arith, le))
  above (suc n) zero le apart = omega arith
  above (suc n) (suc at) le apart = let z : at < n = above n at (omega (arith, le)) (λ e. apart (ap suc e)) in omega (arith, z)

  holder : (before : Option ℕ) (k at : ℕ) (qs : List Placed) (i : ℕ) (u : Unwind) → slice_get (unwinds_from ps before at qs) i ≡ Some u → Holder before k at qs i u
  holder before k at [] i u e = absurd (none-some u e)
  holder before k at (q ∷ qs) i u e = go (begins before q.entry) q.entry refl refl i e (λ i e. holder q.entry (begun_by before q.entry k) (at + 1) qs i u e)
    where
      counts : (b : Bool) → begins before q.entry ≡ b → begun_by before q.entry k ≡ cond b (k + 1) k
      counts b eb = ap (λ b. cond b (k + 1) k) eb

      later : (b : Bool) → begins before q.entry ≡ b → (i i' : ℕ) → cond b (k + 1) k + i ≡ k + i' → Holder q.entry (begun_by before q.entry k) (at + 1) qs i u → Holder before k at (q ∷ qs) i' u
      later b eb i i' en h = record {
        mark = h.mark;
        leads = h.leads;
        flat = h.flat;
        some = h.some;
        holds = λ x held. let (j, p, n, place, there, entry, c, le) = h.holds x held in let ec = counts b eb in (suc j, p, n, omega (arith, place), there, entry, c, omega (arith, le, en, ec));
      }

      new : (l : ℕ) → begins before q.entry ≡ true → q.entry ≡ Some l → Holder before k at (q ∷ qs) 0 (entry_at at l qs)
      new l eb eo = record { mark = l; leads = refl; flat = (refl, refl); some = omega arith; holds = λ x h. place x h (nat_eq x at) refl }
        where
          place : (x : ℕ) → Holds (entry_at at l qs) x → (b : Bool) → nat_eq x at ≡ b
              → (j : ℕ) × (p : Placed) × (n : ℕ) × (x ≡ at + j) × (slice_get (q ∷ qs) j ≡ Some p) × (p.entry ≡ Some l) × Counted before k (q ∷ qs) j p n × (n ≤ k + 0 + 1)
          place x (low, high) true same =
              let c : begun_by before q.entry k ≡ k + 1 = counts true eb in
              let z : x ≡ at = eqb-true x at same in
              (0, q, begun_by before q.entry k, omega (arith, z), refl, eo, refl, omega (arith, c))
          place x (low, high) false apart =
              let more : at < x = above x at low (eqb-false x at apart) in
              let (p, there, entry, c) = in_stretch l (k + 1) qs (x - (at + 1)) (omega (arith, more, high)) in
              (suc (x - (at + 1)), p, k + 1, omega (arith, more), there, entry, ap₂ (λ o n. slice_get (spots_from o n qs) (x - (at + 1))) eo (counts true eb) ∙ c, omega arith)

      table : (b : Bool) (o : Option ℕ) → begins before q.entry ≡ b → q.entry ≡ o → unwinds_from ps before at (q ∷ qs) ≡ cond b (unwind_at ps at o qs) [] ++ unwinds_from ps q.entry (at + 1) qs
      table b o eb eo = ap₂ (λ b o. cond b (unwind_at ps at o qs) [] ++ unwinds_from ps q.entry (at + 1) qs) eb eo

      go : (b : Bool) (o : Option ℕ) → begins before q.entry ≡ b → q.entry ≡ o → (i : ℕ) → slice_get (unwinds_from ps before at (q ∷ qs)) i ≡ Some u
          → ((i : ℕ) → slice_get (unwinds_from ps q.entry (at + 1) qs) i ≡ Some u → Holder q.entry (begun_by before q.entry k) (at + 1) qs i u) → Holder before k at (q ∷ qs) i u
      go false o eb eo i e again = later false eb i i refl (again i (ap (λ us. slice_get us i) (sym (table false o eb eo)) ∙ e))
      go true None eb eo i e again = absurd (false_true (sym (ap (λ o. begins before o) eo) ∙ eb))
      go true (Some l) eb eo zero e again = subst (λ u. Holder before k at (q ∷ qs) 0 u) (some_same _ u (ap (λ us. slice_get us 0) (sym (table true (Some l) eb eo)) ∙ e)) (new l eb eo)
      go true (Some l) eb eo (suc i) e again = later true eb i (suc i) (omega arith) (again i (ap (λ us. slice_get us (suc i)) (sym (table true (Some l) eb eo)) ∙ e))

-- ---- the code

jump_or : (ps : List Placed) (j : Instr) → ((u : ℕ) × (j ≡ Jump u)) ⊎ (((at : ℕ) → resolved ps at j ≡ j) × ((t : ℕ) → led j t ≡ t))
jump_or ps (Jump u) = inl (u, refl)
jump_or ps j = inr ((λ at. refl), (λ t. refl))

module _ (c : Code) (ps : List Placed) (instrs : c.instrs ≡ instrs_from ps 0 ps) (spots : c.spots ≡ spots_from None 0 ps) (unwind : c.unwind ≡ unwinds_from ps None 0 ps)
    (most : (q : ℕ) (p : Placed) → slice_get ps q ≡ Some p → HasStack c p.body (λ n. p.height ≤ n)) (all : (q : ℕ) (p : Placed) → slice_get ps q ≡ Some p → Fit c ps q p) where
  pub as_long : length c.spots ≡ length c.instrs
  as_long = ap length spots ∙ spots_length None 0 ps ∙ sym (instrs_length ps 0 ps) ∙ sym (ap length instrs)

  spot_there : (q : ℕ) (p : Placed) (n : ℕ) → Counted None 0 ps q p n → slice_get c.spots q ≡ Some (spot_of p n)
  spot_there q p n is = ap (λ ss. slice_get ss q) spots ∙ is

  stood : (b : Body) (h n q : ℕ) → Stood c ps b h n q → Lands c b h n q
  stood b h n q (p, is, eb, eh, en) =
      let (k, counts) = counted None 0 ps q p is in
      subst (λ o. IsSomeAnd o (λ s. (s.body ≡ b) × (s.stack ≡ h) × (s.nest ≡ n))) (sym (spot_there q p k counts)) (eb, eh, en)

  -- where a landmark leads is as it is there
  led_there : (b : Body) (h n t : ℕ) (p : Placed) → slice_get ps t ≡ Some p → p.body ≡ b → p.height ≡ h → p.nest ≡ n → Stood c ps b h n (led p.instr t)
  led_there b h n t p is eb eh en = ⊎_elim
      (λ r. let (u, jump) = r in
      let f = (all t p is).leads in
      let g : Stood c ps p.body (p.height - 0 + 0) p.nest u = subst (λ i. Leads c ps t p.body (p.height - takes c i + pushes c i) (nest_after i p.nest) (flow_of i)) jump f in
      let z : p.height - 0 + 0 ≡ h = omega (arith, eh) in
      subst (λ i. Stood c ps b h n (led i t)) (sym jump) (subst (λ b. Stood c ps b h n u) eb (subst (λ n. Stood c ps p.body h n u) en (subst (λ h. Stood c ps p.body h p.nest u) z g))))
      (λ r. subst (λ t. Stood c ps b h n t) (sym (r.1 t)) (p, is, eb, eh, en))
      (jump_or ps p.instr)

  pub landmark_there : (b : Body) (h n t : ℕ) → Stood c ps b h n t → Stood c ps b h n (landmark (slice_get ps t) t)
  landmark_there b h n t (p, is, eb, eh, en) = subst (λ o. Stood c ps b h n (landmark o t)) (sym is) (led_there b h n t p is eb eh en)

  leads_there : (q : ℕ) (b : Body) (h n : ℕ) (f : Flow) → Leads c ps q b h n f → valid.Leads c q b h n f
  leads_there q b h n On w = stood b h n (q + 1) w
  leads_there q b h n (To t) w = stood b h n t w
  leads_there q b h n (Branch t) w = (stood b h n t w.0, stood b h n (q + 1) w.1)
  leads_there q b h n (Back t) w = stood b h n t w
  leads_there q b h n (Round t) w = (stood b h n t w.0, stood b h n (q + 1) w.1)
  leads_there q b h n Ends w = tt

  aimed : (q t : ℕ) (b : Body) (h n : ℕ) (back : Bool) → Stood c ps b h n t → Stood c ps b h n (cond back (landmark (slice_get ps t) t) t)
  aimed q t b h n true w = landmark_there b h n t w
  aimed q t b h n false w = w

  -- an instruction as it is resolved
  record Same (q : ℕ) (p : Placed) (i : Instr) : Type 0 where
    takes_same : takes c i ≡ takes c p.instr
    ends_same : ends_of i ≡ ends_of p.instr
    leads_so : valid.Leads c q p.body (p.height - takes c i + pushes c i) (nest_after i p.nest) (flow_of i)
    belongs_so : Belongs c q p.body i

  same_there : (q : ℕ) (p : Placed) → slice_get ps q ≡ Some p → Same q p (resolved ps q p.instr)
  same_there q p is = ⊎_elim
      (λ r. let (u, jump) = r in
      let g : Stood c ps p.body (p.height - 0 + 0) p.nest u = subst (λ i. Leads c ps q p.body (p.height - takes c i + pushes c i) (nest_after i p.nest) (flow_of i)) jump f.leads in
      record {
        takes_same = ap (λ i. takes c (resolved ps q i)) jump ∙ sym (ap (λ i. takes c i) jump);
        ends_same = ap (λ i. ends_of (resolved ps q i)) jump ∙ sym (ap (λ i. ends_of i) jump);
        leads_so = subst (λ i. valid.Leads c q p.body (p.height - takes c (resolved ps q i) + pushes c (resolved ps q i)) (nest_after (resolved ps q i) p.nest) (flow_of (resolved ps q i))) (sym jump)
            (stood p.body (p.height - 0 + 0) p.nest _ (aimed q u p.body (p.height - 0 + 0) p.nest (nat_lt u q) g));
        belongs_so = subst (λ i. Belongs c q p.body (resolved ps q i)) (sym jump) tt;
      })
      (λ r. let e : resolved ps q p.instr ≡ p.instr = r.0 q in
      record {
        takes_same = ap (λ i. takes c i) e;
        ends_same = ap (λ i. ends_of i) e;
        leads_so = subst (λ i. valid.Leads c q p.body (p.height - takes c i + pushes c i) (nest_after i p.nest) (flow_of i)) (sym e) (leads_there q p.body _ _ (flow_of p.instr) f.leads);
        belongs_so = subst (λ i. Belongs c q p.body i) (sym e) f.belongs;
      })
      (jump_or ps p.instr)
    where
      f : Fit c ps q p
      f = all q p is

  -- the entry that a spot names holds it
  named : (q : ℕ) (p : Placed) → slice_get ps q ≡ Some p → (n : ℕ) × Counted None 0 ps q p n × NamesHolder c q (held_by p.entry n)
  named q p is = go p.entry refl
    where
      go : (o : Option ℕ) → p.entry ≡ o → (n : ℕ) × Counted None 0 ps q p n × NamesHolder c q (held_by p.entry n)
      go None e = let (n, counts) = counted None 0 ps q p is in (n, counts, subst (λ o. NamesHolder c q (held_by o n)) (sym e) tt)
      go (Some l) e = let (n, counts, one) = held_on ps None 0 0 ps q p l is e in (n, counts, subst (λ o. NamesHolder c q (held_by o n)) (sym e) (of_one l n one))
        where
          of_one : (l n : ℕ) → OfOne ps None 0 0 ps q l n → NamesHolder c q (Some (n - 1))
          of_one l n (inl (en, es, lt)) = absurd (none-some l es)
          of_one l n (inr (i, u, en, there, (low, high))) =
              let z : i ≡ n - 1 = omega (arith, en) in
              subst (λ i. Has c.unwind i (λ u. Holds u q)) z (subst (λ o. IsSomeAnd o (λ u. Holds u q)) (sym (ap (λ us. slice_get us i) unwind ∙ there)) (omega (arith, low), omega (arith, high)))

  back : (at : ℕ) (i : Instr) → slice_get c.instrs at ≡ Some i → (p : Placed) × (slice_get ps at ≡ Some p) × (i ≡ resolved ps at p.instr)
  back at i e =
      let (p, is, same) = got_back ps 0 ps at i (ap (λ is. slice_get is at) (sym instrs) ∙ e) in
      let z : 0 + at ≡ at = omega arith in
      (p, is, same ∙ ap (λ n. resolved ps n p.instr) z)

  pub spots_fit : Each c.instrs (λ at i. Has c.spots at (SpotFits c at i))
  spots_fit at i e =
      let (p, is, ei) = back at i e in
      let (n, counts, holder) = named at p is in
      let s = same_there at p is in
      let f = all at p is in
      let et : takes c (resolved ps at p.instr) ≡ takes c p.instr = s.takes_same in
      let ee : ends_of (resolved ps at p.instr) ≡ ends_of p.instr = s.ends_same in
      let o = f.operands in
      let b = f.begun in
      subst (λ i. Has c.spots at (SpotFits c at i)) (sym ei) (subst (λ o. IsSomeAnd o (SpotFits c at (resolved ps at p.instr))) (sym (spot_there at p n counts)) (record {
        height = most at p is;
        operands = (let z : takes c (resolved ps at p.instr) ≤ p.height = omega (arith, et, o) in z);
        begun = (let z : ends_of (resolved ps at p.instr) ≤ p.nest = omega (arith, ee, b) in z);
        leads = s.leads_so;
        belongs = s.belongs_so;
        held = holder;
      }))

  -- ---- handlers

  -- the handler of what an entry holds
  handler_there : (k : ℕ) (u : Unwind) → slice_get c.unwind k ≡ Some u → (x : ℕ) → Holds u x → (p : Placed) × (slice_get ps x ≡ Some p) × Stood c ps p.body 1 0 u.handler
  handler_there k u e x held =
      let h = holder ps None 0 0 ps k u (ap (λ us. slice_get us k) (sym unwind) ∙ e) in
      let (j, p, n, place, is, entry, counts, le) = h.holds x held in
      let here : j ≡ x = omega (arith, place) in
      let is' : slice_get ps x ≡ Some p = subst (λ j. slice_get ps j ≡ Some p) here is in
      (p, is', subst (λ t. Stood c ps p.body 1 0 t) (sym h.leads) (landmark_there p.body 1 0 h.mark ((all x p is').handled h.mark entry)))

  pub handlers_fit : Each c.unwind (λ k u. HandlerFits c u)
  handlers_fit k u e =
      let h = holder ps None 0 0 ps k u (ap (λ us. slice_get us k) (sym unwind) ∙ e) in
      let some = h.some in
      let (p, is, there) = handler_there k u e u.from (omega arith, some) in
      let (q, iq, eb, eh, en) = there in
      let (n, counts) = counted None 0 ps u.handler q iq in
      let ed : u.depth ≡ 0 = h.flat.0 in
      subst (λ o. IsSomeAnd o (λ h. (h.stack ≡ u.depth + 1) × (h.nest ≡ u.nest))) (sym (spot_there u.handler q n counts)) (omega (arith, eh, ed), en ∙ sym h.flat.1)

  pub guards_fit : Each c.unwind (GuardsIn c 0 (length c.instrs))
  guards_fit k u e at i s low high ei es held =
      let h = holder ps None 0 0 ps k u (ap (λ us. slice_get us k) (sym unwind) ∙ e) in
      let (j, p, n, place, is, entry, counts, le) = h.holds at held in
      let here : j ≡ at = omega (arith, place) in
      let is' : slice_get ps at ≡ Some p = subst (λ j. slice_get ps j ≡ Some p) here is in
      let counts' : Counted None 0 ps at p n = subst (λ j. Counted None 0 ps j p n) here counts in
      let same : spot_of p n ≡ s = some_same (spot_of p n) s (sym (spot_there at p n counts') ∙ es) in
      let there : Stood c ps p.body 1 0 u.handler = subst (λ t. Stood c ps p.body 1 0 t) (sym h.leads) (landmark_there p.body 1 0 h.mark ((all at p is').handled h.mark entry)) in
      let (q, iq, eb, eh, en) = there in
      let (m, qs) = counted None 0 ps u.handler q iq in
      let (p', is2, ri) = back at i ei in
      let ep : p' ≡ p = some_same p' p (sym is2 ∙ is') in
      let et : takes c i ≡ takes c p.instr = ap (λ i. takes c i) (ri ∙ ap (λ p. resolved ps at p.instr) ep) ∙ (same_there at p is').takes_same in
      let o = (all at p is').operands in
      let ed : u.depth ≡ 0 = h.flat.0 in
      let en' : u.nest ≡ 0 = h.flat.1 in
      let eo : (spot_of p n).held ≡ Some (n - 1) = ap (λ o. held_by o n) entry in
      subst (λ s. Guarded c k u i s) same (record {
        same_body = subst (λ o. IsSomeAnd o (λ h. h.body ≡ p.body)) (sym (spot_there u.handler q m qs)) eb;
        nest = omega (arith, en');
        depth = (let z : u.depth + takes c i ≤ p.height = omega (arith, ed, et, o) in z);
        first = subst (λ o. IsUpTo k o) (sym eo) (let z : n - 1 ≤ k = omega (arith, le) in z);
      })

  -- where code stands, its spot says so
  pub spot_lands : (b : Body) (h n q : ℕ) → Stood c ps b h n q → Lands c b h n q
  spot_lands b h n q w = stood b h n q w
