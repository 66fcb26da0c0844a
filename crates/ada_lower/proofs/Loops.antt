-- Loops.
use Rattle.std.proofs.Common.{◌≡◌, ℕ, zero, suc, ◌+◌, ◌<◌, ◌≤◌, ℤ, pos, ◌+ℤ◌, ◌-ℤ◌, int_lt, List, [], ◌++◌, set, slice_get, nat_eq, Option, Some, None, Bool, true, false, cond, refl, sym, ap, ◌∙◌, subst, le_trans, arith, inl, ⊎_elim}
use Rattle.std.proofs.lemmas.Int.{ints}
use Rattle.behaviours.specs.Doings.{through}
use Rattle.ada_meaning.specs.Operations.{Operations}
use Rattle.ada_meaning.specs.Stored as stored
use Rattle.ada_meaning.specs.Stored.{Stored, Touch}
use Rattle.ada_meaning.specs.Meaning
use Rattle.ada_meaning.specs.Meaning.{Env, Passed, Returned}
use Rattle.stack_code.specs.declared.code.Code.{Code}
use Rattle.stack_code.specs.declared.instr.Instr.{Instr}
use Rattle.stack_code.specs.declared.instr.Instr.TheVariants as i
use Rattle.ada_base.specs.Cells.{Mine, value_in, where_mine}
use Rattle.stack_code.specs.Deeds
use Rattle.stack_code.specs.Deeds.{GoesOn, stepped, deed_of}
use Rattle.stack_code.specs.Machine.{done, with_value, with_cells}
use Rattle.ada_lower.specs.Driven.{Dyn, Fixed, on, state_of, driven, At}
use Rattle.ada_lower.specs.Emission.{counting}
use Rattle.ada_lower.specs.Fits.{Keeps, Ghost, Fit, Ends, Allows, Right, Stands as StandsFor}
use Rattle.ada_lower.proofs.Framework.{any, To, Doing, comes_as, does_ret, does_bind, does_seq}
use Rattle.ada_lower.proofs.Memory.{set_what, own_keeps, fit_set, what_same, what_other, at_or_not}
use Rattle.ada_lower.proofs.Parts.{Runs, does_weak, does_first, Fewer, allows_fewer}
use Rattle.ada_lower.proofs.Names.{does_by}
use Rattle.ada_lower.proofs.Leaving.{least_at, does_turn_then}

module _ (limit : ℕ) (cuts : ℕ → ℕ → List ℕ) (c : Code) (f : Fixed) (x : Ends) where
  abbrev ops : Operations {1}
  ops = stored.noted_operations limit cuts

  fit_least : (k : ℕ) (g : Ghost) (s : stored.State) (d : Dyn) → g.least ≤ k → Fit (least_at k g) s d → Fit g s d
  fit_least k g s d le w = record { here = w.here; everywhere = w.everywhere; declared = w.declared; frame = w.frame; top = w.top; least = le_trans le w.least; most = w.most; agrees = w.agrees; plan = w.plan; order = w.order; cells = w.cells }

  allows_least : (k j : ℕ) (g : Ghost) (ts : List Touch) → Allows (least_at k g) ts → Allows (least_at j g) ts
  allows_least k j g ts al = allows_fewer limit c f x (least_at k g) (least_at j g) ts (λ a y p e. inl e) al

  -- a loop whose test is at its end, in which each turn counts
  pub while_does : {g : Ghost} (test : Stored Bool) (body : Stored (Unit {0})) (head mid to : ℕ) → g.most ≡ limit → At c head i.Turn x.entry
      → ((k : ℕ) → Runs limit c f x (least_at k g) any test (λ d. on f mid [] d) (λ b d. cond b (on f head [] d) (on f to [] d)))
      → ((k : ℕ) → Runs limit c f x (least_at k g) any body (λ d. on f (head + 1) [] d) (λ _ d. on f mid [] d))
      → (n k : ℕ) → limit < k + n → g.least ≤ k → Doing limit c f x (least_at k g) g any (Meaning.while_loop ops n test body) (λ d. on f mid [] d) (λ _ d. on f to [] d)
  while_does {g} test body head mid to most turn t b zero k lt le = record { by = λ s d fit al. absurd (let l = fit.least in let m = fit.most in omega (arith, lt, most, l, m)) }
  while_does {g} test body head mid to most turn t b (suc n) k lt le =
      does_seq limit c f x {g = least_at k g} {h = least_at k g} (λ s d w. fit_least k g s d le w) (λ ts al. al) (t k) (λ goes _. go goes
      (while_does test body head mid to most turn t b n (suc k) (omega (arith, lt)) (omega (arith, le))))
    where
      go : (b : Bool) → Doing limit c f x (least_at (suc k) g) g any (Meaning.while_loop ops n test body) (λ d. on f mid [] d) (λ _ d. on f to [] d)
          → Doing limit c f x (least_at k g) g any (cond b (stored.bind (Meaning.turned ops) (λ _. stored.bind body (λ _. Meaning.while_loop ops n test body))) (stored.ret tt)) (λ d. cond b (on f head [] d) (on f to [] d)) (λ _ d. on f to [] d)
      go true more = does_turn_then limit c f x cuts [] most turn (λ s d w. fit_least k g s d le w)
          (does_seq limit c f x {g = least_at (suc k) g} {h = least_at (suc k) g} (λ s d w. fit_least (suc k) g s d (omega (arith, le)) w) (λ ts al. al) (b (suc k)) (λ _ _. more))
      go false more = does_weak limit c f x (λ s d w. fit_least k g s d le w) (does_ret limit c f x {to = λ _ d. on f to [] d} tt tt)

  -- ---- counting loops

  -- the cells of the first and the last value that are left
  abbrev pub counts_at : ℕ → ℤ → ℤ → Ghost → Ghost
  counts_at n u v g = set_what (f.base + (n + 1)) (Keeps v) (set_what (f.base + n) (Keeps u) g)

  pub first_at : (n : ℕ) (u v : ℤ) (g : Ghost) → (counts_at n u v g).what (f.base + n) ≡ Keeps u
  first_at n u v g = what_other (set_what (f.base + n) (Keeps u) g) (f.base + (n + 1)) (f.base + n) (Keeps v) (λ e. omega (arith, e)) ∙ what_same g (f.base + n) (Keeps u)

  pub last_at : (n : ℕ) (u v : ℤ) (g : Ghost) → (counts_at n u v g).what (f.base + (n + 1)) ≡ Keeps v
  last_at n u v g = what_same (set_what (f.base + n) (Keeps u) g) (f.base + (n + 1)) (Keeps v)

  pub fit_what : {g h : Ghost} {s : stored.State} {d : Dyn} → g.here ≡ h.here → (g.everywhere ≡ h.everywhere) × (g.declared ≡ h.declared) → g.frame ≡ h.frame → g.top ≡ h.top → g.least ≡ h.least → g.most ≡ h.most → (g.plan ≡ h.plan) × (g.ordered ≡ h.ordered) → ((a : ℕ) → g.what a ≡ h.what a) → Fit g s d → Fit h s d
  fit_what {g} {h} {s} {d} e0 e1 e2 e3 e4 e5 e6 e w = record {
    here = w.here ∙ e0;
    everywhere = w.everywhere ∙ e1.0;
    declared = w.declared ∙ e1.1;
    frame = w.frame ∙ e2;
    top = w.top ∙ e3;
    least = subst (λ n. n ≤ s.turns) e4 w.least;
    most = subst (λ n. s.turns ≤ n) e5 w.most;
    agrees = w.agrees;
    plan = w.plan ∙ e6.0;
    order = λ o. w.order (e6.1 ∙ o);
    cells = λ a. subst (λ z. Right z s (slice_get d.cells a)) (e a) (w.cells a);
  }

  -- the one cell has another number
  fit_first : (g : Ghost) {s : stored.State} {d : Dyn} (n : ℕ) (u v u' : ℤ) → Fit (counts_at n u v g) s d → Fit (counts_at n u' v g) s (record d { cells = set d.cells (f.base + n) (Mine u') })
  fit_first g {s} {d} n u v u' w =
      fit_what refl (refl, refl) refl refl refl refl (refl, refl) same (fit_set (f.base + n) u' (own_keeps ((counts_at n u v g).what (f.base + n)) u (first_at n u v g)) w)
    where
      same : (a : ℕ) → (set_what (f.base + n) (Keeps u') (counts_at n u v g)).what a ≡ (counts_at n u' v g).what a
      same a = ⊎_elim
          (λ e. subst (λ a. (set_what (f.base + n) (Keeps u') (counts_at n u v g)).what a ≡ (counts_at n u' v g).what a) e (what_same (counts_at n u v g) (f.base + n) (Keeps u') ∙ sym (first_at n u' v g)))
          (λ ne. what_other (counts_at n u v g) (f.base + n) a (Keeps u') ne ∙ ap (λ w. cond (nat_eq (f.base + (n + 1)) a) (Keeps v) w) (what_other g (f.base + n) a (Keeps u) ne ∙ sym (what_other g (f.base + n) a (Keeps u') ne)))
          (at_or_not (f.base + n) a)

  fit_last : (g : Ghost) {s : stored.State} {d : Dyn} (n : ℕ) (u v v' : ℤ) → Fit (counts_at n u v g) s d → Fit (counts_at n u v' g) s (record d { cells = set d.cells (f.base + (n + 1)) (Mine v') })
  fit_last g {s} {d} n u v v' w =
      fit_what refl (refl, refl) refl refl refl refl (refl, refl) same (fit_set (f.base + (n + 1)) v' (own_keeps ((counts_at n u v g).what (f.base + (n + 1))) v (last_at n u v g)) w)
    where
      same : (a : ℕ) → (set_what (f.base + (n + 1)) (Keeps v') (counts_at n u v g)).what a ≡ (counts_at n u v' g).what a
      same a = ⊎_elim
          (λ e. subst (λ a. (set_what (f.base + (n + 1)) (Keeps v') (counts_at n u v g)).what a ≡ (counts_at n u v' g).what a) e (what_same (counts_at n u v g) (f.base + (n + 1)) (Keeps v') ∙ sym (last_at n u v' g)))
          (λ ne. what_other (counts_at n u v g) (f.base + (n + 1)) a (Keeps v') ne ∙ (what_other (set_what (f.base + n) (Keeps u) g) (f.base + (n + 1)) a (Keeps v) ne ∙ sym (what_other (set_what (f.base + n) (Keeps u) g) (f.base + (n + 1)) a (Keeps v') ne)))
          (at_or_not (f.base + (n + 1)) a)

  -- the instruction at a turn's end
  stepped_to : {q : ℕ} {j : Instr} {e : Option ℕ} (st : List ℤ) (a b to : ℕ) (u v : ℤ) (lt : ℤ → ℤ → Bool) (inc : ℤ → ℤ) (less : Bool) (d : Dyn) → At c q j e
      → deed_of c q (st ++ f.below) f.base f.outward j ≡ Deeds.Loads (pos a) (λ x. Deeds.Loads (pos b) (λ y. stepped q (st ++ f.below) (pos a) (lt x y) (inc x) to))
      → slice_get d.cells a ≡ Some (Mine u) → value_in (slice_get d.cells b) ≡ Some v → lt u v ≡ less
      → To limit c (on f q st d) (cond less (on f to st (record d { cells = set d.cells a (Mine (inc u)) })) (on f (q + 1) st d))
  stepped_to {q} {j} {e} st a b to u v lt inc less d at is mine other eq =
      let s = state_of f q st [] None d in
      comes_as limit c f st d at
      (ap (λ w. driven limit c (done limit w s) d.world) is
      ∙ ap (λ o. driven limit c (with_value o s (λ x. done limit (Deeds.Loads (pos b) (λ y. stepped q (st ++ f.below) (pos a) (lt x y) (inc x) to)) s)) d.world) (ap value_in mine)
      ∙ ap (λ o. driven limit c (with_value o s (λ y. done limit (stepped q (st ++ f.below) (pos a) (lt u y) (inc u) to) s)) d.world) other
      ∙ ap (λ b. driven limit c (done limit (stepped q (st ++ f.below) (pos a) b (inc u) to) s) d.world) eq
      ∙ ends less)
    where
      ends : (b : Bool) → driven limit c (done limit (stepped q (st ++ f.below) (pos a) b (inc u) to) (state_of f q st [] None d)) d.world ≡ cond b (on f to st (record d { cells = set d.cells a (Mine (inc u)) })) (on f (q + 1) st d)
      ends true = ap (λ o. driven limit c (with_cells (where_mine o (set d.cells a (Mine (inc u)))) (state_of f q st [] None d) (λ s. done limit (GoesOn to (st ++ f.below)) s)) d.world) mine
      ends false = refl

  -- how far a loop has come
  abbrev pub first_value : Bool → ℤ → ℕ → ℤ
  first_value true l k = l
  first_value false l k = l +ℤ pos k

  abbrev pub last_value : Bool → ℤ → ℕ → ℤ
  last_value true h k = h -ℤ pos k
  last_value false h k = h

  mine_of : {g : Ghost} {s : stored.State} {d : Dyn} (a : ℕ) (u : ℤ) → g.what a ≡ Keeps u → Fit g s d → slice_get d.cells a ≡ Some (Mine u)
  mine_of {g} {s} {d} a u e w = subst (λ z. Right z s (slice_get d.cells a)) e (w.cells a)

  lt_true : (a b : ℤ) (m k : ℕ) → b ≡ a +ℤ pos (suc m) → int_lt a b ≡ true
  lt_true a b m k e = go (int_lt a b) refl
    where
      go : (t : Bool) → int_lt a b ≡ t → int_lt a b ≡ true
      go true h = h
      go false h = absurd (omega (arith, ints, e, h))

  lt_false : (a b : ℤ) → b ≡ a → int_lt a b ≡ false
  lt_false a b e = go (int_lt a b) refl
    where
      go : (t : Bool) → int_lt a b ≡ t → int_lt a b ≡ false
      go false h = h
      go true h = absurd (omega (arith, ints, e, h))

  -- the last turn ends the loop, and others go on
  pub count_last : {s : stored.State} {d : Dyn} {q : ℕ} {e : Option ℕ} (g : Ghost) (st : List ℤ) (reverse : Bool) (n head k : ℕ) (l h : ℤ) → At c q (counting reverse n head) e → h ≡ l +ℤ pos k
      → Fit (counts_at n (first_value reverse l k) (last_value reverse h k) g) s d → To limit c (on f q st d) (on f (q + 1) st d)
  count_last {s} {d} g st false n head k l h at is w =
      stepped_to st (f.base + n) (f.base + (n + 1)) head (l +ℤ pos k) h int_lt (λ x. x +ℤ pos 1) false d at refl (mine_of _ _ (first_at n (l +ℤ pos k) h g) w) (ap value_in (mine_of _ _ (last_at n (l +ℤ pos k) h g) w)) (lt_false (l +ℤ pos k) h is)
  count_last {s} {d} g st true n head k l h at is w =
      stepped_to st (f.base + (n + 1)) (f.base + n) head (h -ℤ pos k) l (λ x y. int_lt y x) (λ x. x -ℤ pos 1) false d at refl (mine_of _ _ (last_at n l (h -ℤ pos k) g) w) (ap value_in (mine_of _ _ (first_at n l (h -ℤ pos k) g) w)) (lt_false l (h -ℤ pos k) (omega (arith, ints, is)))

  pub count_more : {s : stored.State} {d : Dyn} {q : ℕ} {e : Option ℕ} (g : Ghost) (st : List ℤ) (reverse : Bool) (n head k m : ℕ) (l h : ℤ) → At c q (counting reverse n head) e → h ≡ (l +ℤ pos k) +ℤ pos (suc m)
      → Fit (counts_at n (first_value reverse l k) (last_value reverse h k) g) s d
      → (d' : Dyn) × Fit (counts_at n (first_value reverse l (suc k)) (last_value reverse h (suc k)) g) s d' × To limit c (on f q st d) (on f head st d')
  count_more {s} {d} g st false n head k m l h at is w =
      let z : (l +ℤ pos k) +ℤ pos 1 ≡ l +ℤ pos (suc k) = omega (arith, ints) in (
        _,
        subst (λ u. Fit (counts_at n u h g) s (record d { cells = set d.cells (f.base + n) (Mine ((l +ℤ pos k) +ℤ pos 1)) })) z (fit_first g n (l +ℤ pos k) h ((l +ℤ pos k) +ℤ pos 1) w),
        stepped_to st (f.base + n) (f.base + (n + 1)) head (l +ℤ pos k) h int_lt (λ x. x +ℤ pos 1) true d at refl (mine_of _ _ (first_at n (l +ℤ pos k) h g) w) (ap value_in (mine_of _ _ (last_at n (l +ℤ pos k) h g) w)) (lt_true (l +ℤ pos k) h m k is),
      )
  count_more {s} {d} g st true n head k m l h at is w =
      let z : (h -ℤ pos k) -ℤ pos 1 ≡ h -ℤ pos (suc k) = omega (arith, ints) in (
        _,
        subst (λ u. Fit (counts_at n l u g) s (record d { cells = set d.cells (f.base + (n + 1)) (Mine ((h -ℤ pos k) -ℤ pos 1)) })) z (fit_last g n l (h -ℤ pos k) ((h -ℤ pos k) -ℤ pos 1) w),
        stepped_to st (f.base + (n + 1)) (f.base + n) head (h -ℤ pos k) l (λ x y. int_lt y x) (λ x. x -ℤ pos 1) true d at refl (mine_of _ _ (last_at n l (h -ℤ pos k) g) w) (ap value_in (mine_of _ _ (first_at n l (h -ℤ pos k) g) w)) (lt_true l (h -ℤ pos k) m k (omega (arith, ints, is))),
      )

  fewer_counts : (n : ℕ) (u v u' v' : ℤ) (g : Ghost) → Fewer limit c f x (counts_at n u v g) (counts_at n u' v' g)
  fewer_counts n u v u' v' g a y p e = inl (other (nat_eq (f.base + (n + 1)) a) (nat_eq (f.base + n) a) e)
    where
      other : (b b' : Bool) → cond b (Keeps v') (cond b' (Keeps u') (g.what a)) ≡ StandsFor y p → cond b (Keeps v) (cond b' (Keeps u) (g.what a)) ≡ StandsFor y p
      other true b' e = absurd (let z : Keeps v' ≡ StandsFor y p = e in cc)
      other false true e = absurd (let z : Keeps u' ≡ StandsFor y p = e in cc)
      other false false e = e

  -- turns from one on to the last; what goes from turn to turn is on the stack
  pub counted_does : {A : Type 0} {g : Ghost} {e : Option ℕ} (stack : A → List ℤ) (reverse : Bool) (n head mid : ℕ) (l h : ℤ) (body : ℕ → A → Stored A) → At c mid (counting reverse n head) e
      → ((s : stored.State) (d : Dyn) (u v : ℤ) → Fit (counts_at n u v g) s d → Fit g s d)
      → ((k : ℕ) (a : A) → Runs limit c f x (counts_at n (first_value reverse l k) (last_value reverse h k) g) any (body k a) (λ d. on f head (stack a) d) (λ b d. on f mid (stack b) d))
      → (m k : ℕ) (a : A) → h ≡ (l +ℤ pos k) +ℤ pos m → Doing limit c f x (counts_at n (first_value reverse l k) (last_value reverse h k) g) g any (through stored.doings k (suc m) a body) (λ d. on f head (stack a) d) (λ b d. on f (mid + 1) (stack b) d)
  counted_does {A} {g} stack reverse n head mid l h body at weak b zero k a is =
      does_weak limit c f x (λ s d w. weak s d (first_value reverse l k) (last_value reverse h k) w)
      (does_bind limit c f x (b k a) (λ z _. does_by limit c f x (λ s d w. count_last g (stack z) reverse n head k l h at (omega (arith, ints, is)) w) (does_ret limit c f x {to = λ b d. on f (mid + 1) (stack b) d} z tt)))
  counted_does {A} {g} stack reverse n head mid l h body at weak b (suc m) k a is =
      does_seq limit c f x (λ s d w. weak s d (first_value reverse l k) (last_value reverse h k) w) (λ ts al. al) (b k a) (λ z _.
      does_first limit c f x (fewer_counts n (first_value reverse l k) (last_value reverse h k) (first_value reverse l (suc k)) (last_value reverse h (suc k)) g)
      (λ s d w. count_more g (stack z) reverse n head k m l h at is w)
      (counted_does stack reverse n head mid l h body at weak b m (suc k) z (omega (arith, ints, is))))
