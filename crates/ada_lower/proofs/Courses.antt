-- Ranges, and turns over them in which a number is carried on.
use Rattle.std.proofs.Common.{◌≡◌, ℕ, zero, suc, ◌+◌, ◌<◌, ℤ, pos, negsuc, ◌+ℤ◌, ◌-ℤ◌, int_le, List, [], ◌∷◌, ◌++◌, nat_eq, Option, Some, None, Ok, Err, Bool, true, false, cond, ◌&&◌, refl, sym, ap, ◌∙◌, subst, le_refl, arith, inl, eqb-true}
use Rattle.std.proofs.lemmas.Int.{ints}
use Rattle.ada_base.specs.declared.reason.Reason.TheVariants as reason
use Rattle.behaviours.specs.Doings.{through, folded}
use Rattle.behaviours.specs.Paths.{Raises}
use Rattle.typed_tree.specs.declared.scalars.Check.{Check}
use Rattle.ada_meaning.specs.Values
use Rattle.ada_meaning.specs.Values.{truth}
use Rattle.ada_meaning.specs.Operations.{RangeCheck, Operations}
use Rattle.ada_meaning.specs.Stored as stored
use Rattle.ada_meaning.specs.Stored.{Stored, Cause, Left}
use Rattle.ada_meaning.specs.Meaning
use Rattle.ada_meaning.specs.Meaning.{Env}
use Rattle.ada_meaning.proofs.Cells.{some_same}
use Rattle.stack_code.specs.declared.code.Code.{Code}
use Rattle.stack_code.specs.declared.instr.Instr.{Instr}
use Rattle.stack_code.specs.declared.instr.Instr.TheVariants as i
use Rattle.stack_code.specs.Deeds.{GoesOn, deed_of, pushed}
use Rattle.ada_lower.specs.Driven.{Dyn, Fixed, Step, on, At}
use Rattle.ada_lower.specs.Sights.{Emit, Sight, Stands, Where, looped, one, own, taking, when_, with_parameter, ◌⨟◌}
use Rattle.ada_lower.specs.Emission
use Rattle.ada_lower.specs.Fits.{Free, Keeps, Ghost, Fit, Ends, Holds, Knows, Stands as StandsFor}
use Rattle.ada_lower.proofs.Framework.{any, To, Doing, comes_on, comes_goes, comes_fails, does_ret, does_bind, does_seq, does_before, does_returned, does_assoc}
use Rattle.ada_lower.proofs.Memory.{set_what, own_free, fit_unset, knows_keep}
use Rattle.ada_lower.proofs.Standing.{stands_seq, stands_assoc3, stands_when, stands_looped}
use Rattle.ada_lower.proofs.Parts.{Runs, check_deed, bit_same, truth_same, check_is, does_is, does_weak, Fewer, does_keep}
use Rattle.ada_lower.proofs.Names.{does_by, comes_number}
use Rattle.ada_lower.proofs.Leaving.{does_turn}
use Rattle.ada_lower.proofs.Loops.{counts_at, first_at, last_at, first_value, last_value, counted_does}

pub at_entry : {c : Code} {q : ℕ} {j : Instr} {e e' : Option ℕ} → e ≡ e' → At c q j e → At c q j e'
at_entry {c} {q} {j} same at = subst (λ e. At c q j e) same at

module _ (limit : ℕ) (cuts : ℕ → ℕ → List ℕ) (c : Code) (f : Fixed) where
  abbrev ops : Operations {1}
  ops = stored.noted_operations limit cuts

  knows_second : {g : Ghost} {env : Env} (s : Sight) → Knows limit cuts g f (taking 1 (taking 1 s)) env → Knows limit cuts g f (taking 2 s) env
  knows_second s k = record { most = k.most; nested = k.nested; plan = k.plan; kept = k.kept; top = k.top; beyond = k.beyond; global = k.global; outside = k.outside; one = k.one; old = k.old; hidden = k.hidden; object = k.object; parameter = k.parameter; item = k.item; constant_item = k.constant_item; target = k.target; handled = k.handled; free = λ n le lt. k.free n (omega (arith, le)) lt }

  pub unlooped : Ends
  unlooped = record { entry = None; exits = λ n d. on f 0 [] d; returns = λ v d. on f 0 [] d }

  pub knows_counts : {g : Ghost} {env : Env} (s : Sight) (u v : ℤ) → s.scope.free + 1 < s.cells → Knows limit cuts g f s env → Knows limit cuts (counts_at limit cuts c f unlooped s.scope.free u v g) f (taking 2 s) env
  knows_counts s u v room k = knows_second s (knows_keep v room (knows_keep u (omega (arith, room)) k))

  pub knows_parameter : {g : Ghost} {s : Sight} {env : Env} (k : ℕ) (w : Where) (v : ℤ) → Knows limit cuts g f s env → Holds g f w v → Knows limit cuts g f (with_parameter k w s) (Meaning.with_parameter k v env)
  knows_parameter {g} {s} {env} p w v k h = record {
    most = k.most;
    nested = k.nested;
    plan = k.plan;
    kept = k.kept;
    top = k.top;
    beyond = k.beyond;
    global = k.global;
    outside = k.outside;
    one = k.one;
    old = k.old;
    hidden = k.hidden;
    object = k.object;
    item = k.item;
    constant_item = k.constant_item;
    target = k.target;
    handled = k.handled;
    free = k.free;
    parameter = λ j w' e. go j (nat_eq j p) w' e;
  }
    where
      go : (j : ℕ) (b : Bool) (w' : Where) → cond b (Some w) (s.scope.parameter j) ≡ Some w' → Holds g f w' (cond b v (env.parameter j))
      go j true w' e = subst (λ w. Holds g f w v) (some_same w w' e) h
      go j false w' e = k.parameter j w' e

  pub count_of : (l h : ℤ) → int_le l h ≡ true → (m : ℕ) × (Values.count l h ≡ suc m) × (h ≡ (l +ℤ pos 0) +ℤ pos m)
  count_of l h e = go (h +ℤ pos 1 -ℤ l) refl
    where
      go : (z : ℤ) → z ≡ h +ℤ pos 1 -ℤ l → (m : ℕ) × (Values.to_nat z ≡ suc m) × (h ≡ (l +ℤ pos 0) +ℤ pos m)
      go (pos zero) is = absurd (omega (arith, ints, e, is))
      go (pos (suc m)) is = (m, refl, omega (arith, ints, is))
      go (negsuc n) is = absurd (omega (arith, ints, e, is))

  pub count_none : (l h : ℤ) → int_le l h ≡ false → Values.count l h ≡ 0
  count_none l h e = go (h +ℤ pos 1 -ℤ l) refl
    where
      go : (z : ℤ) → z ≡ h +ℤ pos 1 -ℤ l → Values.to_nat z ≡ 0
      go (pos zero) is = refl
      go (pos (suc m)) is = absurd (omega (arith, ints, e, is))
      go (negsuc n) is = refl

  -- a number that is kept is loaded
  pub comes_kept : {g : Ghost} {t : stored.State} {q : ℕ} {e : Option ℕ} (n : ℕ) (v : ℤ) (st : List ℤ) (d : Dyn) → Fit g t d → g.what (f.base + n) ≡ Keeps v → At c q (i.LoadL n) e → To limit c (on f q st d) (on f (q + 1) (v ∷ st) d)
  comes_kept {g} {t} n v st d fit is at = comes_number limit c f (own n) v st d fit (f.base + n, refl, inl is) at

  -- the bounds of a range that isn't empty are checked
  pub bounds_does : {g : Ghost} (x : Ends) (s : Sight) (h n from to : ℕ) (check : Check) (l u : ℤ) (st : List ℤ) → s.scope.entry ≡ x.entry → g.what (f.base + n) ≡ Keeps l → g.what (f.base + (n + 1)) ≡ Keeps u → Stands c (Emission.bounds_code s.scope h n (Some check)) from to
      → Runs limit c f x g any (stored.checks RangeCheck check.at (Values.is_in check.scalar l && Values.is_in check.scalar u)) (λ d. on f from st d) (λ _ d. on f to st d)
  bounds_does {g} x s h n from to check l u st en kl ku (j1, (j2, (j3, (j4, (j5, (j6, z)))))) =
      does_by limit c f x (λ t d fit. comes_kept n l st d fit kl j1) (go (Values.is_in check.scalar l) (Values.is_in check.scalar u) refl refl)
    where
      go : (b b' : Bool) → Values.is_in check.scalar l ≡ b → Values.is_in check.scalar u ≡ b' → Runs limit c f x g any (stored.checks RangeCheck check.at (b && b')) (λ d. on f (from + 1) (l ∷ st) d) (λ _ d. on f to st d)
      go false b' e e' = does_is limit c f x (Err (Left (Raises reason.ConstraintError))) (check_is RangeCheck check.at false) (λ d.
          comes_fails limit c f (l ∷ st) st reason.ConstraintError d (at_entry en j2) (check_deed limit c f x (from + 1) check.scalar l (st ++ f.below) _ e))
      go true false e e' =
          does_before limit c f x (λ d. comes_on limit c (comes_goes limit c f (l ∷ st) (from + 1 + 1) (l ∷ st) d j2 (check_deed limit c f x (from + 1) check.scalar l (st ++ f.below) _ e)) (comes_goes limit c f (l ∷ st) (from + 1 + 1 + 1) st d j3 refl))
          (does_by limit c f x (λ t d fit. comes_kept (n + 1) u st d fit ku j4)
          (does_is limit c f x (Err (Left (Raises reason.ConstraintError))) (check_is RangeCheck check.at false) (λ d.
          comes_fails limit c f (u ∷ st) st reason.ConstraintError d (at_entry en j5) (check_deed limit c f x (from + 1 + 1 + 1 + 1) check.scalar u (st ++ f.below) _ e'))))
      go true true e e' =
          does_before limit c f x (λ d. comes_on limit c (comes_goes limit c f (l ∷ st) (from + 1 + 1) (l ∷ st) d j2 (check_deed limit c f x (from + 1) check.scalar l (st ++ f.below) _ e)) (comes_goes limit c f (l ∷ st) (from + 1 + 1 + 1) st d j3 refl))
          (does_by limit c f x (λ t d fit. comes_kept (n + 1) u st d fit ku j4)
          (does_is limit c f x (Ok tt) (check_is RangeCheck check.at true) (
            tt,
            λ d. comes_on limit c (comes_goes limit c f (u ∷ st) (from + 1 + 1 + 1 + 1 + 1) (u ∷ st) d j5 (check_deed limit c f x (from + 1 + 1 + 1 + 1) check.scalar u (st ++ f.below) _ e'))
                (subst (λ q. To limit c (on f (from + 1 + 1 + 1 + 1 + 1) (u ∷ st) d) (on f q st d)) (sym z) (comes_goes limit c f (u ∷ st) (from + 1 + 1 + 1 + 1 + 1 + 1) st d j6 refl)),
          )))

  abbrev pub course_of : ℕ → Bool → ℤ → ℤ → Meaning.Course
  course_of k reverse l h = record { count = Values.count l h; bound = λ i. Meaning.with_parameter k (cond reverse (h -ℤ pos i) (l +ℤ pos i)) }

  pub le_deed : (q : ℕ) (l h : ℤ) (st : List ℤ) → deed_of c q (h ∷ l ∷ st) f.base f.outward i.Le ≡ GoesOn (q + 1) (Values.bit (int_le l h) ∷ st)
  le_deed q l h st = ap (λ b. GoesOn (q + 1) (b ∷ st)) (bit_same (int_le l h))

  pub truth_bit : (b : Bool) → truth (Values.bit b) ≡ b
  truth_bit true = refl
  truth_bit false = refl

  pub bounds_none : (check : Option Check) (l u : ℤ) → int_le l u ≡ false → Meaning.bounds_checked ops check l u ≡ stored.ret (tt {0})
  bounds_none None l u e = refl
  bounds_none (Some k) l u e = ap (λ b. cond b (stored.checks RangeCheck k.at (Values.is_in k.scalar l && Values.is_in k.scalar u)) (stored.ret (tt {0}))) e

  pub range_test : {B : Type 0} {g j : Ghost} {q : B → Type 0} {goal : B → Dyn → Step} → ((s : stored.State) (d : Dyn) → Fit g s d → Fit j s d) → (x : Ends) (s : Sight) (h k : ℕ) (reverse : Bool) (check : Option Check) (at_ mid to : ℕ) (u v : ℤ) (st : List ℤ) (then : Meaning.Course → Stored B) (b : Bool) → int_le u v ≡ b → s.scope.entry ≡ x.entry
      → g.what (f.base + s.scope.free) ≡ Keeps u → g.what (f.base + (s.scope.free + 1)) ≡ Keeps v → At c at_ (i.JFalse to) x.entry → Stands c (Emission.bounds_code s.scope h s.scope.free check) (at_ + 1) mid
      → (int_le u v ≡ false → Doing limit c f x g j q (then (course_of k reverse u v)) (λ d. on f to st d) goal) → (int_le u v ≡ true → Doing limit c f x g j q (then (course_of k reverse u v)) (λ d. on f mid st d) goal)
      → Doing limit c f x g j q (stored.bind (Meaning.bounds_checked ops check u v) (λ _. stored.bind (stored.ret (course_of k reverse u v)) then)) (λ d. on f at_ (Values.bit (int_le u v) ∷ st) d) goal
  range_test {B} {g} {j} {q} {goal} weak x s h k reverse check at_ mid to u v st then false e en ku kv at l empty full =
      does_before limit c f x (λ d. comes_goes limit c f (Values.bit (int_le u v) ∷ st) to st d at (ap (λ b. GoesOn (cond b (at_ + 1) to) (st ++ f.below)) (truth_same (Values.bit (int_le u v)) ∙ truth_bit (int_le u v) ∙ e)))
      (subst (λ m. Doing limit c f x g j q (stored.bind m (λ _. stored.bind (stored.ret (course_of k reverse u v)) then)) (λ d. on f to st d) goal) (sym (bounds_none check u v e))
      (does_returned limit c f x (λ _. stored.bind (stored.ret (course_of k reverse u v)) then) (tt {0}) (does_returned limit c f x then (course_of k reverse u v) (empty e))))
  range_test {B} {g} {j} {q} {goal} weak x s h k reverse None at_ mid to u v st then true e en ku kv at l empty full =
      does_before limit c f x (λ d. comes_goes limit c f (Values.bit (int_le u v) ∷ st) (at_ + 1) st d at (ap (λ b. GoesOn (cond b (at_ + 1) to) (st ++ f.below)) (truth_same (Values.bit (int_le u v)) ∙ truth_bit (int_le u v) ∙ e)))
      (does_returned limit c f x (λ _. stored.bind (stored.ret (course_of k reverse u v)) then) (tt {0}) (does_returned limit c f x then (course_of k reverse u v)
      (subst (λ z. Doing limit c f x g j q (then (course_of k reverse u v)) (λ d. on f z st d) goal) l (full e))))
  range_test {B} {g} {j} {q} {goal} weak x s h k reverse (Some check) at_ mid to u v st then true e en ku kv at l empty full =
      does_before limit c f x (λ d. comes_goes limit c f (Values.bit (int_le u v) ∷ st) (at_ + 1) st d at (ap (λ b. GoesOn (cond b (at_ + 1) to) (st ++ f.below)) (truth_same (Values.bit (int_le u v)) ∙ truth_bit (int_le u v) ∙ e)))
      (subst (λ b. Doing limit c f x g j q (stored.bind (cond b (stored.checks RangeCheck check.at (Values.is_in check.scalar u && Values.is_in check.scalar v)) (stored.ret (tt {0}))) (λ _. stored.bind (stored.ret (course_of k reverse u v)) then)) (λ d. on f (at_ + 1) st d) goal) (sym e)
      (does_seq limit c f x weak (λ ts al. al) (bounds_does x s h s.scope.free (at_ + 1) mid check u v st en ku kv l) (λ _ _.
      does_returned limit c f x then (course_of k reverse u v) (full e))))

  -- the two cells are free again
  pub fit_uncount : {g : Ghost} {env : Env} (s : Sight) (u v : ℤ) → s.scope.free + 1 < s.cells → Knows limit cuts g f s env → (t : stored.State) (d : Dyn) → Fit (counts_at limit cuts c f unlooped s.scope.free u v g) t d → Fit g t d
  fit_uncount {g} s u v room k t d w =
      let room1 : s.scope.free < s.cells = omega (arith, room) in
      let k1 = knows_keep u room1 k in
      fit_unset (f.base + s.scope.free) u (k.free s.scope.free (le_refl s.scope.free) room1) (fit_unset (f.base + (s.scope.free + 1)) v (k1.free (s.scope.free + 1) (le_refl (s.scope.free + 1)) room) w)

  pub fewer_uncount : {g : Ghost} {env : Env} (s : Sight) (u v : ℤ) → s.scope.free + 1 < s.cells → Knows limit cuts g f s env → Fewer limit c f unlooped (counts_at limit cuts c f unlooped s.scope.free u v g) g
  fewer_uncount {g} s u v room k a y p e = inl (other (nat_eq (f.base + (s.scope.free + 1)) a) (nat_eq (f.base + s.scope.free) a) refl refl)
    where
      other : (b b' : Bool) → nat_eq (f.base + (s.scope.free + 1)) a ≡ b → nat_eq (f.base + s.scope.free) a ≡ b' → cond b (Keeps v) (cond b' (Keeps u) (g.what a)) ≡ StandsFor y p
      other true b' h h' = absurd (let z : Free ≡ StandsFor y p = sym (k.free (s.scope.free + 1) (omega arith) room) ∙ ap g.what (eqb-true (f.base + (s.scope.free + 1)) a h) ∙ e in cc)
      other false true h h' = absurd (let z : Free ≡ StandsFor y p = sym (k.free s.scope.free (le_refl s.scope.free) (omega (arith, room))) ∙ ap g.what (eqb-true (f.base + s.scope.free) a h') ∙ e in cc)
      other false false h h' = e

  -- a range is evaluated once, and what follows is done with it
  pub course_by : {B : Type 0} {g : Ghost} {env : Env} {q : B → Type 0} {goal : B → Dyn → Step} (x : Ends) (s : Sight) (h k : ℕ) (reverse : Bool) (a b : Emit) (m1 m2 : Stored ℤ) (check : Option Check) (whole code : Emit) (from to : ℕ) (st : List ℤ) (then : Meaning.Course → Stored B)
      → ((from to : ℕ) → Stands c whole from to → (mid : ℕ) × Stands c (Emission.bounds_code s.scope h s.scope.free check) from mid × Stands c code mid to)
      → Knows limit cuts g f s env → s.scope.entry ≡ x.entry → s.scope.free + 1 < s.cells
      → ((from to : ℕ) → Stands c a from to → Runs limit c f x g any m1 (λ d. on f from st d) (λ v d. on f to (v ∷ st) d))
      → ((from to : ℕ) (g' : Ghost) → Knows limit cuts g' f (taking 1 s) env → Stands c b from to → Runs limit c f x g' any m2 (λ d. on f from st d) (λ v d. on f to (v ∷ st) d))
      → Stands c (a ⨟ Emission.keep s.scope (h + 1) s.scope.free ⨟ b ⨟ Emission.keep s.scope (h + 1) (s.scope.free + 1)
      ⨟ Emission.ascending s.scope h s.scope.free ⨟ when_ s.scope h whole) from to
      → ((l u : ℤ) → int_le l u ≡ false → Doing limit c f x (counts_at limit cuts c f x s.scope.free l u g) g q (then (course_of k reverse l u)) (λ d. on f to st d) goal)
      → ((l u : ℤ) (start : ℕ) → int_le l u ≡ true → Stands c code start to → Doing limit c f x (counts_at limit cuts c f x s.scope.free l u g) g q (then (course_of k reverse l u)) (λ d. on f start st d) goal)
      → Runs limit c f x g q (stored.bind (stored.bind m1 (λ l. stored.bind m2 (λ h. stored.bind (Meaning.bounds_checked ops check l h) (λ _. stored.ret (course_of k reverse l h))))) then) (λ d. on f from st d) goal
  course_by {B} {g} {env} {q} {goal} x s h k reverse a b e1 e2 check whole code from to st then split kn en room low high l empty full =
      let test_ : Emit = when_ s.scope h whole in
      let rest : Emit = Emission.ascending s.scope h s.scope.free ⨟ test_ in
      let (m1, l1, (j1, r1)) = stands_seq c from to a (Emission.keep s.scope (h + 1) s.scope.free ⨟ b ⨟ Emission.keep s.scope (h + 1) (s.scope.free + 1) ⨟ rest) l in
      let (m2, l2, (j2, r2')) = stands_seq c (m1 + 1) to b (Emission.keep s.scope (h + 1) (s.scope.free + 1) ⨟ rest) r1 in
      let (j3, (j4, (j5, r2))) = stands_assoc3 c (m2 + 1) to (one s.scope h (i.LoadL s.scope.free)) (one s.scope (h + 1) (i.LoadL (s.scope.free + 1))) (one s.scope (h + 1 + 1) i.Le) test_ r2' in
      let (test, r3) = stands_when c (m2 + 1 + 1 + 1 + 1) to s h whole r2 in
      let (m3, l3, l4) = split (m2 + 1 + 1 + 1 + 1 + 1) to r3 in
      let room1 : s.scope.free < s.cells = omega (arith, room) in
      let free1 : g.what (f.base + s.scope.free) ≡ Free = kn.free s.scope.free (le_refl s.scope.free) room1 in
      does_assoc limit c f x _ _ then
      (does_bind limit c f x (low from m1 l1) (λ u _.
      let g1 : Ghost = set_what (f.base + s.scope.free) (Keeps u) g in
      let k1 : Knows limit cuts g1 f (taking 1 s) env = knows_keep u room1 kn in
      does_keep limit c f x m1 s.scope.free u st (own_free (g.what (f.base + s.scope.free)) free1) (at_entry en j1)
      (does_assoc limit c f x _ _ then
      (does_seq limit c f x (λ t d w. fit_unset (f.base + s.scope.free) u free1 w) (λ ts al. al) (high (m1 + 1) m2 g1 k1 l2) (λ v _.
      does_keep limit c f x m2 (s.scope.free + 1) v st (own_free (g1.what (f.base + (s.scope.free + 1))) (k1.free (s.scope.free + 1) (le_refl (s.scope.free + 1)) room)) (at_entry en j2)
      (does_assoc limit c f x _ _ then
      (does_by limit c f x (λ t d fit. comes_on limit c (comes_kept s.scope.free u st d fit (first_at limit cuts c f x s.scope.free u v g) j3)
      (comes_on limit c (comes_kept (s.scope.free + 1) v (u ∷ st) d fit (last_at limit cuts c f x s.scope.free u v g) j4)
      (comes_goes limit c f (v ∷ u ∷ st) (m2 + 1 + 1 + 1 + 1) (Values.bit (int_le u v) ∷ st) d j5 (le_deed (m2 + 1 + 1 + 1) u v (st ++ f.below)))))
      (range_test (λ t d w. fit_uncount s u v room kn t d w) x s h k reverse check (m2 + 1 + 1 + 1 + 1) m3 to u v st then (int_le u v) refl en (first_at limit cuts c f x s.scope.free u v g) (last_at limit cuts c f x s.scope.free u v g) (at_entry en test) l3 (λ e. empty u v e) (λ e. full u v m3 e l4)))))))))

  pub course_does : {B : Type 0} {g : Ghost} {env : Env} {q : B → Type 0} {goal : B → Dyn → Step} (x : Ends) (s : Sight) (h k : ℕ) (reverse : Bool) (a b : Emit) (m1 m2 : Stored ℤ) (check : Option Check) (code : Emit) (from to : ℕ) (st : List ℤ) (then : Meaning.Course → Stored B)
      → Knows limit cuts g f s env → s.scope.entry ≡ x.entry → s.scope.free + 1 < s.cells
      → ((from to : ℕ) → Stands c a from to → Runs limit c f x g any m1 (λ d. on f from st d) (λ v d. on f to (v ∷ st) d))
      → ((from to : ℕ) (g' : Ghost) → Knows limit cuts g' f (taking 1 s) env → Stands c b from to → Runs limit c f x g' any m2 (λ d. on f from st d) (λ v d. on f to (v ∷ st) d))
      → Stands c (a ⨟ Emission.keep s.scope (h + 1) s.scope.free ⨟ b ⨟ Emission.keep s.scope (h + 1) (s.scope.free + 1)
      ⨟ Emission.ascending s.scope h s.scope.free ⨟ when_ s.scope h (Emission.bounds_code s.scope h s.scope.free check ⨟ code)) from to
      → ((l u : ℤ) → int_le l u ≡ false → Doing limit c f x (counts_at limit cuts c f x s.scope.free l u g) g q (then (course_of k reverse l u)) (λ d. on f to st d) goal)
      → ((l u : ℤ) (start : ℕ) → int_le l u ≡ true → Stands c code start to → Doing limit c f x (counts_at limit cuts c f x s.scope.free l u g) g q (then (course_of k reverse l u)) (λ d. on f start st d) goal)
      → Runs limit c f x g q (stored.bind (stored.bind m1 (λ l. stored.bind m2 (λ h. stored.bind (Meaning.bounds_checked ops check l h) (λ _. stored.ret (course_of k reverse l h))))) then) (λ d. on f from st d) goal
  course_does x s h k reverse a b e1 e2 check code from to st then kn en room low high l empty full =
      course_by x s h k reverse a b e1 e2 check (Emission.bounds_code s.scope h s.scope.free check ⨟ code) code from to st then (λ from to l. stands_seq c from to (Emission.bounds_code s.scope h s.scope.free check) code l) kn en room low high l empty full

  pub first_zero : (x : Ends) (reverse : Bool) (l : ℤ) → first_value limit cuts c f x reverse l 0 ≡ l
  first_zero x true l = refl
  first_zero x false l = omega (arith, ints)

  pub last_zero : (x : Ends) (reverse : Bool) (h : ℤ) → last_value limit cuts c f x reverse h 0 ≡ h
  last_zero x true h = omega (arith, ints)
  last_zero x false h = refl

  -- ---- turns over a range that carry a number on

  pub range_folds : {g : Ghost} {env : Env} (x : Ends) (s : Sight) (height p : ℕ) (reverse : Bool) (start to : ℕ) (l h : ℤ) (st : List ℤ) (code : Emit) (turns : ℕ → ℤ → Stored ℤ) → Knows limit cuts g f s env → s.scope.entry ≡ x.entry → s.scope.free + 1 < s.cells → int_le l h ≡ true
      → Stands c (looped s.scope height true (λ exit. code) (λ head. one s.scope height (Emission.counting reverse s.scope.free head))) start to
      → ((i from to : ℕ) (a : ℤ) (g' : Ghost) → Knows limit cuts g' f (with_parameter p (own (Emission.first_parameter reverse s.scope.free)) (taking 2 s)) (Meaning.with_parameter p (cond reverse (h -ℤ pos i) (l +ℤ pos i)) env) → Stands c code from to
      → Runs limit c f x g' any (turns i a) (λ d. on f from (a ∷ st) d) (λ b d. on f to (b ∷ st) d))
      → (a : ℤ) → Doing limit c f x (counts_at limit cuts c f x s.scope.free l h g) g any (through stored.doings 0 (Values.count l h) a turns) (λ d. on f start (a ∷ st) d) (λ b d. on f to (b ∷ st) d)
  range_folds {g} {env} x s height p reverse start to l h st code turns k en room e at body a =
      let o = stands_looped c start to s height true (λ exit. code) (λ head. one s.scope height (Emission.counting reverse s.scope.free head)) at in
      let (m, cnt, is) = count_of l h e in
      does_before limit c f x (λ d. comes_goes limit c f (a ∷ st) (start + 1 + 1) (a ∷ st) d o.enter refl)
      (subst (λ n. Doing limit c f x (counts_at limit cuts c f x s.scope.free l h g) g any (through stored.doings 0 n a turns) (λ d. on f (start + 1 + 1) (a ∷ st) d) (λ b d. on f to (b ∷ st) d)) (sym cnt)
      (subst (λ q. Doing limit c f x (counts_at limit cuts c f x s.scope.free l h g) g any (through stored.doings 0 (suc m) a turns) (λ d. on f (start + 1 + 1) (a ∷ st) d) (λ b d. on f q (b ∷ st) d)) (sym o.back.1)
      (subst (λ u. Doing limit c f x (counts_at limit cuts c f x s.scope.free u h g) g any (through stored.doings 0 (suc m) a turns) (λ d. on f (start + 1 + 1) (a ∷ st) d) (λ b d. on f (o.mid + 1) (b ∷ st) d)) (first_zero x reverse l)
      (subst (λ u. Doing limit c f x (counts_at limit cuts c f x s.scope.free (first_value limit cuts c f x reverse l 0) u g) g any (through stored.doings 0 (suc m) a turns) (λ d. on f (start + 1 + 1) (a ∷ st) d) (λ b d. on f (o.mid + 1) (b ∷ st) d)) (last_zero x reverse h)
      (counted_does limit cuts c f x (λ b. b ∷ st) reverse s.scope.free (start + 1 + 1) o.mid l h turns o.back.0 (λ t d u v w. fit_uncount s u v room k t d w)
      (λ i b. body i (start + 1 + 1) o.mid b _ (knows_parameter p (own (Emission.first_parameter reverse s.scope.free)) (cond reverse (h -ℤ pos i) (l +ℤ pos i)) (knows_counts s _ _ room k) (holds_count reverse i)) o.turn)
      m 0 a is)))))
    where
      holds_count : (reverse : Bool) (i : ℕ) → Holds (counts_at limit cuts c f x s.scope.free (first_value limit cuts c f x reverse l i) (last_value limit cuts c f x reverse h i) g) f (own (Emission.first_parameter reverse s.scope.free)) (cond reverse (h -ℤ pos i) (l +ℤ pos i))
      holds_count true i = (f.base + (s.scope.free + 1), refl, inl (last_at limit cuts c f x s.scope.free l (h -ℤ pos i) g))
      holds_count false i = (f.base + s.scope.free, refl, inl (first_at limit cuts c f x s.scope.free (l +ℤ pos i) h g))

  -- where no turn is made the number stays
  pub folds_none : {g j : Ghost} (x : Ends) → ((s : stored.State) (d : Dyn) → Fit g s d → Fit j s d) → (a : ℤ) (n to : ℕ) (st : List ℤ) (turns : ℕ → ℤ → Stored ℤ) → n ≡ 0 → Doing limit c f x g j any (through stored.doings 0 n a turns) (λ d. on f to (a ∷ st) d) (λ b d. on f to (b ∷ st) d)
  folds_none {g} {j} x weak a n to st turns e = does_weak limit c f x weak (subst (λ n. Runs limit c f x g any (through stored.doings 0 n a turns) (λ d. on f to (a ∷ st) d) (λ b d. on f to (b ∷ st) d)) (sym e) (does_ret limit c f x {to = λ b d. on f to (b ∷ st) d} a tt))

  -- a turn's value is folded
  pub turn_folds : {g : Ghost} (x : Ends) (at_ start mid to : ℕ) (a : ℤ) (st : List ℤ) (test : Stored Bool) (value : Stored ℤ) (fold : ℤ → ℤ → Stored ℤ) → g.most ≡ limit → At c at_ i.Turn x.entry
      → Runs limit c f x g any test (λ d. on f (at_ + 1) (a ∷ st) d) (λ b d. cond b (on f start (a ∷ st) d) (on f to (a ∷ st) d))
      → Runs limit c f x g any value (λ d. on f start (a ∷ st) d) (λ v d. on f mid (v ∷ a ∷ st) d)
      → ((v : ℤ) → Runs limit c f x g any (fold a v) (λ d. on f mid (v ∷ a ∷ st) d) (λ b d. on f to (b ∷ st) d))
      → Runs limit c f x g any (stored.bind (Meaning.iterate_value ops test value) (λ v. folded stored.doings fold a v)) (λ d. on f at_ (a ∷ st) d) (λ b d. on f to (b ∷ st) d)
  turn_folds {g} x at_ start mid to a st test value fold most at t w j =
      does_assoc limit c f x _ _ _
      (does_bind limit c f x (does_turn limit c f x cuts (a ∷ st) most at) (λ _ _.
      does_assoc limit c f x _ _ _
      (does_bind limit c f x t (λ b _. go b))))
    where
      go : (b : Bool) → Runs limit c f x g any (stored.bind (cond b (stored.bind value (λ v. stored.ret (Some v))) (stored.ret None)) (λ v. folded stored.doings fold a v)) (λ d. cond b (on f start (a ∷ st) d) (on f to (a ∷ st) d)) (λ b d. on f to (b ∷ st) d)
      go true = does_assoc limit c f x _ _ _ (does_bind limit c f x w (λ v _. does_returned limit c f x (λ v. folded stored.doings fold a v) (Some v) (j v)))
      go false = does_returned limit c f x (λ v. folded stored.doings fold a v) None (does_ret limit c f x {to = λ b d. on f to (b ∷ st) d} a tt)

  -- a test, by which code goes on or to another place
  pub tests : {g : Ghost} (x : Ends) (v : ℤ) (mid other : ℕ) (st : List ℤ) → At c mid (i.JFalse other) x.entry → Runs limit c f x g any (stored.ret (truth v)) (λ d. on f mid (v ∷ st) d) (λ b d. cond b (on f (mid + 1) st d) (on f other st d))
  tests x v mid other st at = does_before limit c f x (λ d. goes (truth v) refl d) (does_ret limit c f x {to = λ b d. cond b (on f (mid + 1) st d) (on f other st d)} (truth v) tt)
    where
      goes : (b : Bool) → truth v ≡ b → (d : Dyn) → To limit c (on f mid (v ∷ st) d) (cond b (on f (mid + 1) st d) (on f other st d))
      goes true e d = comes_goes limit c f (v ∷ st) (mid + 1) st d at (ap (λ b. GoesOn (cond b (mid + 1) other) (st ++ f.below)) (truth_same v ∙ e))
      goes false e d = comes_goes limit c f (v ∷ st) other st d at (ap (λ b. GoesOn (cond b (mid + 1) other) (st ++ f.below)) (truth_same v ∙ e))
