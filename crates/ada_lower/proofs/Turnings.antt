-- A loop through the components of a run: the parameter, its last value and the address of the component are in three cells.
use Rattle.std.proofs.Common.{◌≡◌, ℕ, suc, ◌+◌, ◌<◌, ◌≤◌, ℤ, pos, ◌+ℤ◌, List, ◌∷◌, length, set, slice_get, nat_eq, Option, Some, Bool, true, false, cond, refl, sym, ap, ◌∙◌, subst, le_refl, arith, inl, inr, ⊎_elim}
use Rattle.ada_meaning.specs.Stored as stored
use Rattle.ada_meaning.specs.Stored.{Address}
use Rattle.ada_meaning.specs.Meaning.{Env}
use Rattle.stack_code.specs.declared.code.Code.{Code}
use Rattle.stack_code.specs.declared.instr.Instr.TheVariants as i
use Rattle.ada_base.specs.Cells.{Mine}
use Rattle.ada_lower.specs.Driven.{Dyn, Fixed, on, At}
use Rattle.ada_lower.specs.Sights.{Sight, taking}
use Rattle.ada_lower.specs.Fits.{Access, Free, Keeps, Ghost, Fit, Ends, Knows, Right, Stands as StandsFor}
use Rattle.ada_lower.proofs.Framework.{To, comes_on, comes_goes}
use Rattle.ada_lower.proofs.Names.{comes_field}
use Rattle.ada_lower.proofs.Memory.{set_what, what_same, what_other, at_or_not, fit_set, fit_unset, fit_alike, own_keeps, knows_keep}
use Rattle.ada_lower.proofs.Parts.{Fewer}
use Rattle.ada_lower.proofs.Declared.{keeping, laid_out, laid_in, kept_what, among, length_in}
use Rattle.ada_lower.proofs.Scattered.{laid_swap}
use Rattle.ada_lower.proofs.Blocks.{fit_unkept}
use Rattle.ada_lower.proofs.Loops.{counts_at, first_at, count_last, count_more}
use Rattle.ada_lower.proofs.Courses.{comes_kept}
use Rattle.ada_lower.proofs.Items.{comes_stores, knows_three}
use Rattle.ada_lower.proofs.Operands.{knows_alike}

-- a cell behind those that are kept
pub keep_swap : (g : Ghost) (a : ℕ) (cs : List ℤ) (p : ℕ) (v : ℤ) → a + length cs ≤ p → (b : ℕ) → (keeping a cs (set_what p (Keeps v) g)).what b ≡ (set_what p (Keeps v) (keeping a cs g)).what b
keep_swap g a cs p v far b = ⊎_elim
    (λ r. let (k, u, z, is) = r in let lt : k < length cs = length_in cs k u is in subst (λ b. (keeping a cs (set_what p (Keeps v) g)).what b ≡ (set_what p (Keeps v) (keeping a cs g)).what b) z
    (laid_in a 0 kept_what cs (set_what p (Keeps v) g).what k u is ∙ sym (what_other (keeping a cs g) p (a + k) (Keeps v) (λ e. omega (arith, e, far, lt)) ∙ laid_in a 0 kept_what cs g.what k u is)))
    (λ out. laid_out a 0 kept_what cs (set_what p (Keeps v) g).what b out ∙ ap (λ w. cond (nat_eq p b) (Keeps v) w) (sym (laid_out a 0 kept_what cs g.what b out)))
    (among a b cs)

pub knows_taken : {limit : ℕ} {cuts : ℕ → ℕ → List ℕ} {g : Ghost} {f : Fixed} {s : Sight} {env : Env} (n : ℕ) → Knows limit cuts g f s env → Knows limit cuts g f (taking n s) env
knows_taken n k = record { most = k.most; nested = k.nested; plan = k.plan; kept = k.kept; top = k.top; beyond = k.beyond; global = k.global; outside = k.outside; one = k.one; old = k.old; hidden = k.hidden; object = k.object; parameter = k.parameter; item = k.item; constant_item = k.constant_item; target = k.target; handled = k.handled; free = λ m le lt. k.free m (omega (arith, le)) lt }

module _ (limit : ℕ) (cuts : ℕ → ℕ → List ℕ) (c : Code) (f : Fixed) (x : Ends) where
  -- from a cell on: the parameter, its last value, the address
  abbrev pub turns_at : (n a : ℕ) (u v : ℤ) → Ghost → Ghost
  turns_at n a u v g = counts_at limit cuts c f x n u v (set_what (f.base + (n + 1 + 1)) (Keeps (pos a)) g)

  pub turn_address : (n a : ℕ) (u v : ℤ) (g : Ghost) → (turns_at n a u v g).what (f.base + (n + 1 + 1)) ≡ Keeps (pos a)
  turn_address n a u v g =
      let h : Ghost = set_what (f.base + (n + 1 + 1)) (Keeps (pos a)) g in
      what_other (set_what (f.base + n) (Keeps u) h) (f.base + (n + 1)) (f.base + (n + 1 + 1)) (Keeps v) (λ e. omega (arith, e))
      ∙ what_other h (f.base + n) (f.base + (n + 1 + 1)) (Keeps u) (λ e. omega (arith, e)) ∙ what_same g (f.base + (n + 1 + 1)) (Keeps (pos a))

  pub turn_parameter : (n a : ℕ) (u v : ℤ) (g : Ghost) → (turns_at n a u v g).what (f.base + n) ≡ Keeps u
  turn_parameter n a u v g = first_at limit cuts c f x n u v (set_what (f.base + (n + 1 + 1)) (Keeps (pos a)) g)

  -- other cells are what they were
  pub turn_other : (n a : ℕ) (u v : ℤ) (g : Ghost) (b : ℕ) → b < f.base + n → (turns_at n a u v g).what b ≡ g.what b
  turn_other n a u v g b lt =
      let h : Ghost = set_what (f.base + (n + 1 + 1)) (Keeps (pos a)) g in
      what_other (set_what (f.base + n) (Keeps u) h) (f.base + (n + 1)) b (Keeps v) (λ e. omega (arith, e, lt))
      ∙ what_other h (f.base + n) b (Keeps u) (λ e. omega (arith, e, lt)) ∙ what_other g (f.base + (n + 1 + 1)) b (Keeps (pos a)) (λ e. omega (arith, e, lt))

  -- the address is set first or last
  turn_address_last : (n a a' : ℕ) (u v : ℤ) (g : Ghost) (b : ℕ) → (set_what (f.base + (n + 1 + 1)) (Keeps (pos a')) (turns_at n a u v g)).what b ≡ (turns_at n a' u v g).what b
  turn_address_last n a a' u v g b = ⊎_elim
      (λ e. subst (λ b. (set_what (f.base + (n + 1 + 1)) (Keeps (pos a')) (turns_at n a u v g)).what b ≡ (turns_at n a' u v g).what b) e (what_same (turns_at n a u v g) (f.base + (n + 1 + 1)) (Keeps (pos a')) ∙ sym (turn_address n a' u v g)))
      (λ ne. what_other (turns_at n a u v g) (f.base + (n + 1 + 1)) b (Keeps (pos a')) ne
      ∙ ap (λ w. cond (nat_eq (f.base + (n + 1)) b) (Keeps v) (cond (nat_eq (f.base + n) b) (Keeps u) w)) (what_other g (f.base + (n + 1 + 1)) b (Keeps (pos a)) ne ∙ sym (what_other g (f.base + (n + 1 + 1)) b (Keeps (pos a')) ne)))
      (at_or_not (f.base + (n + 1 + 1)) b)

  turn_address_behind : (n a : ℕ) (u v : ℤ) (g : Ghost) (b : ℕ) → (set_what (f.base + (n + 1 + 1)) (Keeps (pos a)) (counts_at limit cuts c f x n u v g)).what b ≡ (turns_at n a u v g).what b
  turn_address_behind n a u v g b = ⊎_elim
      (λ e. subst (λ b. (set_what (f.base + (n + 1 + 1)) (Keeps (pos a)) (counts_at limit cuts c f x n u v g)).what b ≡ (turns_at n a u v g).what b) e (what_same (counts_at limit cuts c f x n u v g) (f.base + (n + 1 + 1)) (Keeps (pos a)) ∙ sym (turn_address n a u v g)))
      (λ ne. what_other (counts_at limit cuts c f x n u v g) (f.base + (n + 1 + 1)) b (Keeps (pos a)) ne
      ∙ ap (λ w. cond (nat_eq (f.base + (n + 1)) b) (Keeps v) (cond (nat_eq (f.base + n) b) (Keeps u) w)) (sym (what_other g (f.base + (n + 1 + 1)) b (Keeps (pos a)) ne)))
      (at_or_not (f.base + (n + 1 + 1)) b)

  pub turn_enters : (n a : ℕ) (u v : ℤ) (g : Ghost) {t : stored.State} {d : Dyn} → Fit (set_what (f.base + (n + 1 + 1)) (Keeps (pos a)) (counts_at limit cuts c f x n u v g)) t d → Fit (turns_at n a u v g) t d
  turn_enters n a u v g w = fit_alike (turns_at n a u v g).what (turn_address_behind n a u v g) w

  pub fewer_enters : (n a : ℕ) (u v : ℤ) (g : Ghost) → Fewer limit c f x (set_what (f.base + (n + 1 + 1)) (Keeps (pos a)) (counts_at limit cuts c f x n u v g)) (turns_at n a u v g)
  fewer_enters n a u v g b y p e = inl (turn_address_behind n a u v g b ∙ e)

  -- numbers kept ahead of the three cells
  pub turn_kept : (n a : ℕ) (u v : ℤ) (g : Ghost) (at_ : ℕ) (cs : List ℤ) → at_ + length cs ≤ f.base + n → (b : ℕ) → (keeping at_ cs (turns_at n a u v g)).what b ≡ (turns_at n a u v (keeping at_ cs g)).what b
  turn_kept n a u v g at_ cs far b =
      let h : Ghost = set_what (f.base + (n + 1 + 1)) (Keeps (pos a)) g in
      keep_swap (set_what (f.base + n) (Keeps u) h) at_ cs (f.base + (n + 1)) v (omega (arith, far)) b
      ∙ ap (λ w. cond (nat_eq (f.base + (n + 1)) b) (Keeps v) w) (keep_swap h at_ cs (f.base + n) u far b
      ∙ ap (λ w. cond (nat_eq (f.base + n) b) (Keeps u) w) (keep_swap g at_ cs (f.base + (n + 1 + 1)) (pos a) (omega (arith, far)) b))

  pub turn_alike : (n a : ℕ) (u v : ℤ) (g h : Ghost) (b : ℕ) → g.what b ≡ h.what b → (turns_at n a u v g).what b ≡ (turns_at n a u v h).what b
  turn_alike n a u v g h b e = ap (λ w. cond (nat_eq (f.base + (n + 1)) b) (Keeps v) (cond (nat_eq (f.base + n) b) (Keeps u) (cond (nat_eq (f.base + (n + 1 + 1)) b) (Keeps (pos a)) w))) e

  pub fewer_turn : (n a a' : ℕ) (u u' v v' : ℤ) (g : Ghost) → Fewer limit c f x (turns_at n a u v g) (turns_at n a' u' v' g)
  fewer_turn n a a' u u' v v' g b y p e = inl (other (nat_eq (f.base + (n + 1)) b) (nat_eq (f.base + n) b) (nat_eq (f.base + (n + 1 + 1)) b) e)
    where
      other : (t t' t'' : Bool) → cond t (Keeps v') (cond t' (Keeps u') (cond t'' (Keeps (pos a')) (g.what b))) ≡ StandsFor y p → cond t (Keeps v) (cond t' (Keeps u) (cond t'' (Keeps (pos a)) (g.what b))) ≡ StandsFor y p
      other true t' t'' e = absurd (let z : Keeps v' ≡ StandsFor y p = e in cc)
      other false true t'' e = absurd (let z : Keeps u' ≡ StandsFor y p = e in cc)
      other false false true e = absurd (let z : Keeps (pos a') ≡ StandsFor y p = e in cc)
      other false false false e = e

  -- where the three cells are free
  module _ (n : ℕ) (g : Ghost) (free : (k : ℕ) → n ≤ k → k < n + 3 → g.what (f.base + k) ≡ Free) where
    pub fit_turns : (a : ℕ) (u v : ℤ) {t : stored.State} {d : Dyn} → Fit (turns_at n a u v g) t d → Fit g t d
    fit_turns a u v w =
        let h : Ghost = set_what (f.base + (n + 1 + 1)) (Keeps (pos a)) g in
        fit_unset (f.base + (n + 1 + 1)) (pos a) (free (n + 1 + 1) (omega arith) (omega arith))
        (fit_unset (f.base + n) u (what_other g (f.base + (n + 1 + 1)) (f.base + n) (Keeps (pos a)) (λ e. omega (arith, e)) ∙ free n (le_refl n) (omega arith))
        (fit_unset (f.base + (n + 1)) v (what_other h (f.base + n) (f.base + (n + 1)) (Keeps u) (λ e. omega (arith, e)) ∙ what_other g (f.base + (n + 1 + 1)) (f.base + (n + 1)) (Keeps (pos a)) (λ e. omega (arith, e)) ∙ free (n + 1) (omega arith) (omega arith)) w))

    loose : (p b : ℕ) (v : ℤ) (h : Ghost) (y : Access) (pl : Address) → g.what p ≡ Free → (h.what b ≡ StandsFor y pl) → g.what b ≡ StandsFor y pl → (set_what p (Keeps v) h).what b ≡ StandsFor y pl
    loose p b v h y pl is e e' = ⊎_elim
        (λ same. absurd (let q : Free ≡ StandsFor y pl = sym is ∙ ap g.what same ∙ e' in cc))
        (λ ne. what_other h p b (Keeps v) ne ∙ e)
        (at_or_not p b)

    pub fewer_turns : (a : ℕ) (u v : ℤ) → Fewer limit c f x (turns_at n a u v g) g
    fewer_turns a u v b y pl e =
        let h : Ghost = set_what (f.base + (n + 1 + 1)) (Keeps (pos a)) g in
        let e1 = loose (f.base + (n + 1 + 1)) b (pos a) g y pl (free (n + 1 + 1) (omega arith) (omega arith)) e e in
        let e2 = loose (f.base + n) b u h y pl (free n (le_refl n) (omega arith)) e1 e in
        inl (loose (f.base + (n + 1)) b v (set_what (f.base + n) (Keeps u) h) y pl (free (n + 1) (omega arith) (omega arith)) e2 e)

  pub knows_turns : {g : Ghost} {env : Env} (s : Sight) (a : ℕ) (u v : ℤ) → s.scope.free + 1 + 1 < s.cells → Knows limit cuts g f s env → Knows limit cuts (turns_at s.scope.free a u v g) f (taking 3 s) env
  knows_turns {g} {env} s a u v room k =
      let n : ℕ = s.scope.free in
      let k1 : Knows limit cuts (set_what (f.base + n) (Keeps u) g) f (taking 1 s) env = knows_keep u (omega (arith, room)) k in
      let k2 : Knows limit cuts (counts_at limit cuts c f x n u v g) f (taking 1 (taking 1 s)) env = knows_keep v (omega (arith, room)) k1 in
      knows_alike (turns_at n a u v g).what (turn_address_behind n a u v g) (knows_three limit cuts c f s (knows_keep (pos a) room k2))

  -- the end of a turn, up to its count
  pub turn_steps : {t : stored.State} {d : Dyn} {e1 e2 e3 : Option ℕ} (st : List ℤ) (g : Ghost) (n stride a at_ : ℕ) (u v : ℤ) → At c at_ (i.LoadL (n + 1 + 1)) e1 → At c (at_ + 1) (i.Field stride) e2 → At c (at_ + 1 + 1) (i.StoreL (n + 1 + 1)) e3 → a ≤ g.top → Fit (turns_at n a u v g) t d
      → (d' : Dyn) × Fit (turns_at n (a + stride) u v g) t d' × To limit c (on f at_ st d) (on f (at_ + 1 + 1 + 1) st d')
  turn_steps {t} {d} st g n stride a at_ u v j1 j2 j3 near w =
      let p : ℕ = f.base + (n + 1 + 1) in
      let is : slice_get d.cells p ≡ Some (Mine (pos a)) = subst (λ z. Right z t (slice_get d.cells p)) (turn_address n a u v g) (w.cells p) in (
        record d { cells = set d.cells p (Mine (pos (a + stride))) },
        fit_alike (turns_at n (a + stride) u v g).what (turn_address_last n a (a + stride) u v g) (fit_set p (pos (a + stride)) (own_keeps ((turns_at n a u v g).what p) (pos a) (turn_address n a u v g)) w),
        comes_on limit c (comes_kept limit cuts c f (n + 1 + 1) (pos a) st d w (turn_address n a u v g) j1)
            (comes_on limit c (comes_field limit c f stride a st d w near j2)
            (comes_stores limit c f p (pos (a + stride)) (pos a) (pos (a + stride) ∷ st) st d j3 refl is)),
      )

  -- the last turn
  pub turn_last : {t : stored.State} {d : Dyn} {e1 e2 e3 e4 : Option ℕ} (st : List ℤ) (g : Ghost) (n stride a mid head k : ℕ) (l v : ℤ) → At c mid (i.LoadL (n + 1 + 1)) e1 → At c (mid + 1) (i.Field stride) e2 → At c (mid + 1 + 1) (i.StoreL (n + 1 + 1)) e3 → At c (mid + 1 + 1 + 1) (i.Next n (n + 1) head) e4
      → v ≡ l +ℤ pos k → a ≤ g.top → Fit (turns_at n a (l +ℤ pos k) v g) t d → (d' : Dyn) × Fit (turns_at n (a + stride) (l +ℤ pos k) v g) t d' × To limit c (on f mid st d) (on f (mid + 1 + 1 + 1 + 1) st d')
  turn_last {t} {d} st g n stride a mid head k l v j1 j2 j3 j4 is near w =
      let (d', w', goes) = turn_steps st g n stride a mid (l +ℤ pos k) v j1 j2 j3 near w in
      (d', w', comes_on limit c goes (count_last limit cuts c f x (set_what (f.base + (n + 1 + 1)) (Keeps (pos (a + stride))) g) st false n head k l v j4 is w'))

  -- others go on
  pub turn_more : {t : stored.State} {d : Dyn} {e1 e2 e3 e4 : Option ℕ} (st : List ℤ) (g : Ghost) (n stride a mid head k m : ℕ) (l v : ℤ) → At c mid (i.LoadL (n + 1 + 1)) e1 → At c (mid + 1) (i.Field stride) e2 → At c (mid + 1 + 1) (i.StoreL (n + 1 + 1)) e3 → At c (mid + 1 + 1 + 1) (i.Next n (n + 1) head) e4
      → v ≡ (l +ℤ pos k) +ℤ pos (suc m) → a ≤ g.top → Fit (turns_at n a (l +ℤ pos k) v g) t d → (d' : Dyn) × Fit (turns_at n (a + stride) (l +ℤ pos (suc k)) v g) t d' × To limit c (on f mid st d) (on f head st d')
  turn_more {t} {d} st g n stride a mid head k m l v j1 j2 j3 j4 is near w =
      let (d1, w1, goes) = turn_steps st g n stride a mid (l +ℤ pos k) v j1 j2 j3 near w in
      let (d2, w2, goes') = count_more limit cuts c f x (set_what (f.base + (n + 1 + 1)) (Keeps (pos (a + stride))) g) st false n head k m l v j4 is w1 in
      (d2, w2, comes_on limit c goes goes')

  -- cells that were computed elsewhere are no longer kept there
  pub kept_once : (g : Ghost) (a p : ℕ) (cs : List ℤ) {t : stored.State} {d : Dyn} → a + length cs ≤ p → ((k : ℕ) → k < length cs → g.what (p + k) ≡ Free) → Fit (keeping a cs (keeping p cs g)) t d → Fit (keeping a cs g) t d
  kept_once g a p cs far free w =
      fit_unkept p cs (keeping a cs g) (λ k lt. laid_out a 0 kept_what cs g.what (p + k) (inr (omega (arith, far))) ∙ free k lt)
      (fit_alike (keeping p cs (keeping a cs g)).what (λ b. laid_swap a 0 kept_what cs p 0 kept_what cs g.what b far) w)

  pub fewer_once : (g : Ghost) (a p : ℕ) (cs : List ℤ) → ((k : ℕ) → k < length cs → g.what (p + k) ≡ Free) → Fewer limit c f x (keeping p cs g) (keeping a cs g)
  fewer_once g a p cs free b y pl e = ⊎_elim
      (λ r. let (k, v, z, is) = r in absurd (let q : Keeps v ≡ StandsFor y pl = sym (laid_in a 0 kept_what cs g.what k v is) ∙ ap (keeping a cs g).what z ∙ e in cc))
      (λ out. let e' : g.what b ≡ StandsFor y pl = sym (laid_out a 0 kept_what cs g.what b out) ∙ e in
      ⊎_elim
      (λ r. let (k, v, z, is) = r in absurd (let q : Free ≡ StandsFor y pl = sym (free k (length_in cs k v is)) ∙ ap g.what z ∙ e' in cc))
      (λ out'. inl (laid_out p 0 kept_what cs g.what b out' ∙ e'))
      (among p b cs))
      (among a b cs)
