-- Turns over the components of an array.
use Rattle.std.proofs.Common.{◌≡◌, ℕ, zero, suc, ◌+◌, ◌<◌, ℤ, pos, ◌+ℤ◌, List, [], ◌∷◌, ◌++◌, nat_eq, Option, Some, None, Bool, true, false, cond, refl, sym, ap, ◌∙◌, subst, le_refl, arith, inl}
use Rattle.std.proofs.lemmas.Int.{ints}
use Rattle.behaviours.specs.Doings.{through}
use Rattle.ada_meaning.specs.Stored as stored
use Rattle.ada_meaning.specs.Stored.{Stored, Cause, Left}
use Rattle.ada_meaning.specs.Meaning
use Rattle.ada_meaning.specs.Meaning.{Env}
use Rattle.ada_meaning.proofs.Cells.{some_same}
use Rattle.stack_code.specs.declared.code.Code.{Code}
use Rattle.stack_code.specs.declared.instr.Instr.{Instr}
use Rattle.stack_code.specs.declared.instr.Instr.TheVariants as i
use Rattle.stack_code.specs.Deeds.{GoesOn, deed_of}
use Rattle.ada_lower.specs.Driven.{Dyn, Fixed, on, At}
use Rattle.ada_lower.specs.Sights.{Emit, Named, Sight, Stands, looped, one, own, taking, with_item, ◌⨟◌}
use Rattle.ada_lower.specs.Emission
use Rattle.ada_lower.specs.Fits.{Free, Keeps, Ghost, Fit, Ends, Holds, Knows, Stands as StandsFor}
use Rattle.ada_lower.proofs.Framework.{any, To, Doing, comes_on, comes_goes, does_ret, does_seq}
use Rattle.ada_lower.proofs.Memory.{set_what, fit_unset, knows_keep}
use Rattle.ada_lower.proofs.Parts.{Runs, Fewer}
use Rattle.ada_lower.proofs.Loops.{counts_at}
use Rattle.std.proofs.Common.{suc-mul, set, slice_get, ◌≤◌, ◌*◌, ⊎_elim}
use Rattle.behaviours.specs.Paths.{Entity, VariableOf, ConstantOf}
use Rattle.typed_tree.specs.declared.expressions.Root.{Root}
use Rattle.ada_base.specs.Cells.{Mine, where_mine}
use Rattle.stack_code.specs.Deeds.{Stores}
use Rattle.stack_code.specs.Machine.{done, with_cells}
use Rattle.ada_meaning.specs.Meaning.{ObjectPart}
use Rattle.ada_lower.specs.Driven.{state_of, driven}
use Rattle.ada_lower.specs.Fits.{Refers}
use Rattle.ada_lower.proofs.Framework.{comes_as}
use Rattle.ada_lower.proofs.Memory.{what_same, what_other, at_or_not, fit_set, fit_alike, own_keeps, Extends, free_extends}
use Rattle.ada_lower.proofs.Parts.{does_first}
use Rattle.ada_lower.proofs.Names.{comes_field, root_refers, constant_root_refers}
use Rattle.ada_lower.proofs.Loops.{count_last, count_more}
use Rattle.ada_lower.proofs.Courses.{unlooped, comes_kept}
use Rattle.std.proofs.Common.{mul-le-mul_right}
use Rattle.std.proofs.lemmas.Int.{ints}
use Rattle.std.proofs.Common.{zero-mul}
use Rattle.behaviours.specs.Doings.{through}
use Rattle.ada_lower.specs.Emission
use Rattle.ada_lower.specs.Fits.{Spread, place_in}
use Rattle.ada_lower.proofs.Standing.{stands_looped}
use Rattle.ada_lower.proofs.Memory.{own_free}
use Rattle.ada_lower.proofs.Parts.{does_keep}
use Rattle.ada_lower.proofs.Framework.{does_before}
use Rattle.ada_lower.proofs.Courses.{at_entry}

abbrev pub named_entity : Bool → ℕ → Entity
named_entity true y = ConstantOf y
named_entity false y = VariableOf y

pub array_refers : {limit : ℕ} {cuts : ℕ → ℕ → List ℕ} {f : Fixed} {g : Ghost} {s : Sight} {env : Env} (constant : Bool) (r : Root) (n : Named) → Knows limit cuts g f s env → Emission.array_root_of constant s.scope r ≡ Some n → Refers g f n (named_entity constant (Meaning.array_root constant r env).object) (Meaning.array_root constant r env).offset
array_refers true r n k e = constant_root_refers r n k e
array_refers false r n k e = root_refers r n k e

pub knows_item : {limit : ℕ} {cuts : ℕ → ℕ → List ℕ} {f : Fixed} {g : Ghost} {s : Sight} {env : Env} (constant : Bool) (j : ℕ) (n : Named) (p : ObjectPart) → Knows limit cuts g f s env → Refers g f n (named_entity constant p.object) p.offset → Knows limit cuts g f (with_item constant j n s) (Meaning.with_item constant j p env)
knows_item {limit} {f} {g} {s} {env} true j n p k r = record {
  most = k.most;
  nested = k.nested;
  plan = k.plan;
  kept = k.kept;
  top = k.top;
  beyond = k.beyond;
  global = k.global;
  outside = k.outside;
  one = k.one;
  old = k.old;
  hidden = k.hidden;
  object = k.object;
  parameter = k.parameter;
  item = k.item;
  target = k.target;
  handled = k.handled;
  free = k.free;
  constant_item = λ h m e. go h m (nat_eq h j) e;
}
  where
    go : (h : ℕ) (m : Named) (b : Bool) → cond b (Some n) (s.scope.constant_item h) ≡ Some m → Refers g f m (ConstantOf (cond b p (env.constant_item h)).object) (cond b p (env.constant_item h)).offset
    go h m true e = subst (λ m. Refers g f m (ConstantOf p.object) p.offset) (some_same n m e) r
    go h m false e = k.constant_item h m e
knows_item {limit} {f} {g} {s} {env} false j n p k r = record {
  most = k.most;
  nested = k.nested;
  plan = k.plan;
  kept = k.kept;
  top = k.top;
  beyond = k.beyond;
  global = k.global;
  outside = k.outside;
  one = k.one;
  old = k.old;
  hidden = k.hidden;
  object = k.object;
  parameter = k.parameter;
  constant_item = k.constant_item;
  target = k.target;
  handled = k.handled;
  free = k.free;
  item = λ h m e. go h m (nat_eq h j) e;
}
  where
    go : (h : ℕ) (m : Named) (b : Bool) → cond b (Some n) (s.scope.item h) ≡ Some m → Refers g f m (VariableOf (cond b p (env.item h)).object) (cond b p (env.item h)).offset
    go h m true e = subst (λ m. Refers g f m (VariableOf p.object) p.offset) (some_same n m e) r
    go h m false e = k.item h m e

module _ (limit : ℕ) (c : Code) (f : Fixed) where
  -- the number on the stack goes to a cell
  pub comes_stores : {q : ℕ} {j : Instr} {e : Option ℕ} (a : ℕ) (v u : ℤ) (st rest : List ℤ) (d : Dyn) → At c q j e → deed_of c q (st ++ f.below) f.base f.outward j ≡ Stores (pos a) v (GoesOn (q + 1) (rest ++ f.below)) → slice_get d.cells a ≡ Some (Mine u)
      → To limit c (on f q st d) (on f (q + 1) rest (record d { cells = set d.cells a (Mine v) }))
  comes_stores {q} a v u st rest d at is z =
      comes_as limit c f st d at
      (ap (λ w. driven limit c (done limit w (state_of f q st [] None d)) d.world) is
      ∙ ap (λ o. driven limit c (with_cells (where_mine o (set d.cells a (Mine v))) (state_of f q st [] None d) (λ s. done limit (GoesOn (q + 1) (rest ++ f.below)) s)) d.world) z)

module _ (limit : ℕ) (cuts : ℕ → ℕ → List ℕ) (c : Code) (f : Fixed) where
  abbrev pub items_at : ℕ → ℕ → ℤ → ℤ → Ghost → Ghost
  items_at n a u v g = counts_at limit cuts c f (unlooped limit cuts c f) (n + 1) u v (set_what (f.base + n) (Keeps (pos a)) g)

  pub item_at : (n a : ℕ) (u v : ℤ) (g : Ghost) → (items_at n a u v g).what (f.base + n) ≡ Keeps (pos a)
  item_at n a u v g = what_other (set_what (f.base + (n + 1)) (Keeps u) (set_what (f.base + n) (Keeps (pos a)) g)) (f.base + (n + 1 + 1)) (f.base + n) (Keeps v) (λ e. omega (arith, e))
      ∙ what_other (set_what (f.base + n) (Keeps (pos a)) g) (f.base + (n + 1)) (f.base + n) (Keeps u) (λ e. omega (arith, e)) ∙ what_same g (f.base + n) (Keeps (pos a))

  -- the item's address moves on
  item_swap : (n a a' : ℕ) (u v : ℤ) (g : Ghost) (b : ℕ) → (set_what (f.base + n) (Keeps (pos a')) (items_at n a u v g)).what b ≡ (items_at n a' u v g).what b
  item_swap n a a' u v g b = ⊎_elim
      (λ e. subst (λ b. (set_what (f.base + n) (Keeps (pos a')) (items_at n a u v g)).what b ≡ (items_at n a' u v g).what b) e (what_same (items_at n a u v g) (f.base + n) (Keeps (pos a')) ∙ sym (item_at n a' u v g)))
      (λ ne. what_other (items_at n a u v g) (f.base + n) b (Keeps (pos a')) ne
      ∙ ap (λ w. cond (nat_eq (f.base + (n + 1 + 1)) b) (Keeps v) (cond (nat_eq (f.base + (n + 1)) b) (Keeps u) w)) (what_other g (f.base + n) b (Keeps (pos a)) ne ∙ sym (what_other g (f.base + n) b (Keeps (pos a')) ne)))
      (at_or_not (f.base + n) b)

  fewer_item : (n a a' : ℕ) (u u' v v' : ℤ) (g : Ghost) → Fewer limit c f (unlooped limit cuts c f) (items_at n a u v g) (items_at n a' u' v' g)
  fewer_item n a a' u u' v v' g b y p e = inl (other (nat_eq (f.base + (n + 1 + 1)) b) (nat_eq (f.base + (n + 1)) b) (nat_eq (f.base + n) b) e)
    where
      other : (t t' t'' : Bool) → cond t (Keeps v') (cond t' (Keeps u') (cond t'' (Keeps (pos a')) (g.what b))) ≡ StandsFor y p → cond t (Keeps v) (cond t' (Keeps u) (cond t'' (Keeps (pos a)) (g.what b))) ≡ StandsFor y p
      other true t' t'' e = absurd (let z : Keeps v' ≡ StandsFor y p = e in cc)
      other false true t'' e = absurd (let z : Keeps u' ≡ StandsFor y p = e in cc)
      other false false true e = absurd (let z : Keeps (pos a') ≡ StandsFor y p = e in cc)
      other false false false e = e

  pub knows_three : {g : Ghost} {env : Env} (s : Sight) → Knows limit cuts g f (taking 1 (taking 1 (taking 1 s))) env → Knows limit cuts g f (taking 3 s) env
  knows_three s k = record { most = k.most; nested = k.nested; plan = k.plan; kept = k.kept; top = k.top; beyond = k.beyond; global = k.global; outside = k.outside; one = k.one; old = k.old; hidden = k.hidden; object = k.object; parameter = k.parameter; item = k.item; constant_item = k.constant_item; target = k.target; handled = k.handled; free = λ n le lt. k.free n (omega (arith, le)) lt }

  -- what holds where three cells are taken
  module _ {g : Ghost} {env : Env} (s : Sight) (k : Knows limit cuts g f s env) (room : s.scope.free + 1 + 1 < s.cells) (a : ℕ) (u v : ℤ) where
    abbrev pub one_kept : Ghost
    one_kept = set_what (f.base + s.scope.free) (Keeps (pos a)) g

    abbrev pub two_kept : Ghost
    two_kept = set_what (f.base + (s.scope.free + 1)) (Keeps u) one_kept

    knows_one : Knows limit cuts one_kept f (taking 1 s) env
    knows_one = knows_keep (pos a) (omega (arith, room)) k

    knows_both : Knows limit cuts two_kept f (taking 1 (taking 1 s)) env
    knows_both = knows_keep u (omega (arith, room)) knows_one

    pub knows_items : Knows limit cuts (items_at s.scope.free a u v g) f (taking 3 s) env
    knows_items = knows_three s (knows_keep v room knows_both)

    pub free_one : g.what (f.base + s.scope.free) ≡ Free
    free_one = k.free s.scope.free (le_refl s.scope.free) (omega (arith, room))

    pub free_two : one_kept.what (f.base + (s.scope.free + 1)) ≡ Free
    free_two = knows_one.free (s.scope.free + 1) (le_refl (s.scope.free + 1)) (omega (arith, room))

    pub free_three : two_kept.what (f.base + (s.scope.free + 1 + 1)) ≡ Free
    free_three = knows_both.free (s.scope.free + 1 + 1) (le_refl (s.scope.free + 1 + 1)) room

    pub extends_items : Extends g (items_at s.scope.free a u v g)
    extends_items =
        let e1 = free_extends g (f.base + s.scope.free) (Keeps (pos a)) free_one in
        let e2 = free_extends one_kept (f.base + (s.scope.free + 1)) (Keeps u) free_two in
        let e3 = free_extends two_kept (f.base + (s.scope.free + 1 + 1)) (Keeps v) free_three in
        record { top = le_refl g.top; place = λ y i p e. e; solid = λ b w ok e. e3.solid b w ok (e2.solid b w ok (e1.solid b w ok e)) }

    pub fewer_items : Fewer limit c f (unlooped limit cuts c f) (items_at s.scope.free a u v g) g
    fewer_items b y p e = inl (extends_items.solid b (StandsFor y p) tt e)

    fit_items : (t : stored.State) (d : Dyn) → Fit (items_at s.scope.free a u v g) t d → Fit g t d
    fit_items t d w = fit_unset (f.base + s.scope.free) (pos a) free_one (fit_unset (f.base + (s.scope.free + 1)) u free_two (fit_unset (f.base + (s.scope.free + 1 + 1)) v free_three w))

  -- the end of a turn, up to its count
  item_steps : {t : stored.State} {d : Dyn} {e1 e2 e3 : Option ℕ} (st : List ℤ) (g : Ghost) (n stride a at_ : ℕ) (u v : ℤ) → At c at_ (i.LoadL n) e1 → At c (at_ + 1) (i.Field stride) e2 → At c (at_ + 1 + 1) (i.StoreL n) e3 → a ≤ g.top → Fit (items_at n a u v g) t d
      → Fit (items_at n (a + stride) u v g) t (record d { cells = set d.cells (f.base + n) (Mine (pos (a + stride))) }) × To limit c (on f at_ st d) (on f (at_ + 1 + 1 + 1) st (record d { cells = set d.cells (f.base + n) (Mine (pos (a + stride))) }))
  item_steps {t} {d} st g n stride a at_ u v j1 j2 j3 near w =
      let is : slice_get d.cells (f.base + n) ≡ Some (Mine (pos a)) = subst (λ z. Rattle.ada_lower.specs.Fits.Right z t (slice_get d.cells (f.base + n))) (item_at n a u v g) (w.cells (f.base + n)) in (
        fit_alike (items_at n (a + stride) u v g).what (item_swap n a (a + stride) u v g) (fit_set (f.base + n) (pos (a + stride)) (own_keeps ((items_at n a u v g).what (f.base + n)) (pos a) (item_at n a u v g)) w),
        comes_on limit c (comes_kept limit cuts c f n (pos a) st d w (item_at n a u v g) j1)
            (comes_on limit c (comes_field limit c f stride a st d w near j2)
            (comes_stores limit c f (f.base + n) (pos (a + stride)) (pos a) (pos (a + stride) ∷ st) st d j3 refl is)),
      )

  pub items_does : {A : Type 0} {g : Ghost} {env : Env} {e1 e2 e3 e4 : Option ℕ} (stack : A → List ℤ) (z : Ends) (s : Sight) → Knows limit cuts g f s env → s.scope.free + 1 + 1 < s.cells → (stride a0 head mid : ℕ) (h : ℤ) (turn : ℕ → A → Stored A)
      → At c mid (i.LoadL s.scope.free) e1 → At c (mid + 1) (i.Field stride) e2 → At c (mid + 1 + 1) (i.StoreL s.scope.free) e3 → At c (mid + 1 + 1 + 1) (i.Next (s.scope.free + 1) (s.scope.free + 1 + 1) head) e4
      → (m k : ℕ) (b0 : A) → h ≡ (pos 1 +ℤ pos k) +ℤ pos m → ((i : ℕ) → i ≤ k + m → a0 + i * stride ≤ g.top) → ((i : ℕ) (b : A) → i ≤ k + m → Runs limit c f z (items_at s.scope.free (a0 + i * stride) (pos 1 +ℤ pos i) h g) any (turn i b) (λ d. on f head (stack b) d) (λ b d. on f mid (stack b) d))
      → Doing limit c f z (items_at s.scope.free (a0 + k * stride) (pos 1 +ℤ pos k) h g) g any (through stored.doings k (suc m) b0 turn) (λ d. on f head (stack b0) d) (λ b d. on f (mid + 1 + 1 + 1 + 1) (stack b) d)
  items_does {A} {g} stack z s kn room stride a0 head mid h turn j1 j2 j3 j4 zero k b0 is near b =
      let a : ℕ = a0 + k * stride in
      does_seq limit c f z (λ t d w. fit_items s kn room a (pos 1 +ℤ pos k) h t d w) (λ ts al. al) (b k b0 (omega arith)) (λ b' _.
      does_first limit c f z (fewer_items s kn room a (pos 1 +ℤ pos k) h) (λ t d w.
      let (w', goes) = item_steps (stack b') g s.scope.free stride a mid (pos 1 +ℤ pos k) h j1 j2 j3 (near k (omega arith)) w in (
        _,
        fit_items s kn room (a + stride) (pos 1 +ℤ pos k) h t _ w',
        comes_on limit c goes (count_last limit cuts c f z (set_what (f.base + s.scope.free) (Keeps (pos (a + stride))) g) (stack b') false (s.scope.free + 1) head k (pos 1) h j4 (omega (arith, ints, is)) w'),
      ))
      (does_ret limit c f z {to = λ b d. on f (mid + 1 + 1 + 1 + 1) (stack b) d} b' tt))
  items_does {A} {g} stack z s kn room stride a0 head mid h turn j1 j2 j3 j4 (suc m) k b0 is near b =
      let a : ℕ = a0 + k * stride in
      let next : a0 + k * stride + stride ≡ a0 + suc k * stride = omega (arith, suc-mul k stride) in
      does_seq limit c f z (λ t d w. fit_items s kn room a (pos 1 +ℤ pos k) h t d w) (λ ts al. al) (b k b0 (omega arith)) (λ b' _.
      does_first limit c f z (fewer_item s.scope.free a (a0 + suc k * stride) (pos 1 +ℤ pos k) (pos 1 +ℤ pos (suc k)) h h g) (λ t d w.
      let (w', goes) = item_steps (stack b') g s.scope.free stride a mid (pos 1 +ℤ pos k) h j1 j2 j3 (near k (omega arith)) w in
      let (d', w'', goes') = count_more limit cuts c f z (set_what (f.base + s.scope.free) (Keeps (pos (a + stride))) g) (stack b') false (s.scope.free + 1) head k m (pos 1) h j4 is w' in
      (d', subst (λ q. Fit (items_at s.scope.free q (pos 1 +ℤ pos (suc k)) h g) t d') next w'', comes_on limit c goes goes'))
      (items_does stack z s kn room stride a0 head mid h turn j1 j2 j3 j4 m (suc k) b' (omega (arith, ints, is)) (λ i le. near i (omega (arith, le))) (λ i e le. b i e (omega (arith, le)))))

  -- turns over items that carry a number on
  pub items_folds : {g : Ghost} {env : Env} (x : Ends) (s : Sight) (height p : ℕ) (constant : Bool) (stride count : ℕ) (y : Entity) (first total address off at_ to : ℕ) (st : List ℤ) (code : Emit) (q : ObjectPart) (turns : ℕ → ℤ → Stored ℤ)
      → Knows limit cuts g f s env → s.scope.entry ≡ x.entry → s.scope.free + 1 + 1 < s.cells → Spread g y first total address → q.offset ≡ first + off → off + suc count * stride ≤ total → named_entity constant q.object ≡ y
      → Stands c (Emission.keep s.scope (height + 1) s.scope.free ⨟ one s.scope height (i.Push (pos 1)) ⨟ Emission.keep s.scope (height + 1) (s.scope.free + 1) ⨟ one s.scope height (i.Push (pos (suc count))) ⨟ Emission.keep s.scope (height + 1) (s.scope.free + 1 + 1)
      ⨟ looped s.scope height true (λ exit. code) (λ head. one s.scope height (i.LoadL s.scope.free) ⨟ one s.scope (height + 1) (i.Field stride) ⨟ Emission.keep s.scope (height + 1) s.scope.free ⨟ one s.scope height (i.Next (s.scope.free + 1) (s.scope.free + 1 + 1) head))) at_ to
      → ((j from to : ℕ) (b : ℤ) (g' : Ghost) → Knows limit cuts g' f (with_item constant p (record { through = true; place = own s.scope.free; cells = stride }) (taking 3 s)) (Meaning.with_item constant p (Meaning.moved q (j * stride)) env) → Stands c code from to
      → Runs limit c f x g' any (turns j b) (λ d. on f from (b ∷ st) d) (λ b d. on f to (b ∷ st) d))
      → (b : ℤ) → Runs limit c f x g any (through stored.doings 0 (suc count) b turns) (λ d. on f at_ (pos (address + off) ∷ b ∷ st) d) (λ b d. on f to (b ∷ st) d)
  items_folds {g} {env} x s height p constant stride count y first total address off at_ to st code q turns k en room spread qo fits same (jk, (jp1, (jk1, (jp2, (jk2, l))))) body b0 =
      let start : ℕ = at_ + 1 + 1 + 1 + 1 + 1 in
      let a0 : ℕ = address + off in
      let h : ℤ = pos (suc count) in
      let o = stands_looped c start to s height true (λ exit. code) (λ head. one s.scope height (i.LoadL s.scope.free) ⨟ one s.scope (height + 1) (i.Field stride) ⨟ Emission.keep s.scope (height + 1) s.scope.free ⨟ one s.scope height (i.Next (s.scope.free + 1) (s.scope.free + 1 + 1) head)) l in
      let (b1, (b2, (b3, (b4, be)))) = o.back in
      does_keep limit c f x at_ s.scope.free (pos a0) (b0 ∷ st) (own_free (g.what (f.base + s.scope.free)) (free_one s k room a0 h h)) (at_entry en jk)
      (does_before limit c f x (λ d. comes_goes limit c f (b0 ∷ st) (at_ + 1 + 1) (pos 1 ∷ b0 ∷ st) d jp1 refl)
      (does_keep limit c f x (at_ + 1 + 1) (s.scope.free + 1) (pos 1) (b0 ∷ st) (own_free _ (free_two s k room a0 h h)) (at_entry en jk1)
      (does_before limit c f x (λ d. comes_goes limit c f (b0 ∷ st) (at_ + 1 + 1 + 1 + 1) (h ∷ b0 ∷ st) d jp2 refl)
      (does_keep limit c f x (at_ + 1 + 1 + 1 + 1) (s.scope.free + 1 + 1) h (b0 ∷ st) (own_free _ (free_three s k room a0 (pos 1) h)) (at_entry en jk2)
      (does_before limit c f x (λ d. comes_goes limit c f (b0 ∷ st) (start + 1 + 1) (b0 ∷ st) d o.enter refl)
      (subst (λ q'. Doing limit c f x (items_at s.scope.free a0 (pos 1) h g) g any (through stored.doings 0 (suc count) b0 turns) (λ d. on f (start + 1 + 1) (b0 ∷ st) d) (λ b d. on f q' (b ∷ st) d)) (sym be)
      (subst (λ a. Doing limit c f x (items_at s.scope.free a (pos 1) h g) g any (through stored.doings 0 (suc count) b0 turns) (λ d. on f (start + 1 + 1) (b0 ∷ st) d) (λ b d. on f (o.mid + 1 + 1 + 1 + 1) (b ∷ st) d)) (let w : a0 + 0 * stride ≡ a0 = omega (arith, zero-mul stride) in w)
      (items_does (λ b. b ∷ st) x s k room stride a0 (start + 1 + 1) o.mid h turns b1 b2 b3 b4 count 0 b0 (omega (arith, ints))
      (λ i le. (let r = near_turn i (omega (arith, le)) in omega (arith, r)))
      (λ j b le. body j (start + 1 + 1) o.mid b _ (knows_turn j (omega (arith, le))) o.turn)))))))))
    where
      in_range : (i j : ℕ) → i ≤ count → j < stride → off + i * stride + j < total
      in_range i j le lt = let b : suc i * stride ≤ suc count * stride = mul-le-mul_right stride (let l : suc i ≤ suc count = omega (arith, le) in l) in omega (arith, b, suc-mul i stride, lt, fits)

      near_turn : (i : ℕ) → i ≤ count → address + off + i * stride + stride ≤ g.top
      near_turn i le =
          let r = spread.near in
          let b : suc i * stride ≤ suc count * stride = mul-le-mul_right stride (let l : suc i ≤ suc count = omega (arith, le) in l) in
          omega (arith, r, b, suc-mul i stride, fits)

      knows_turn : (i : ℕ) → i ≤ count → Knows limit cuts (items_at s.scope.free (address + off + i * stride) (pos 1 +ℤ pos i) (pos (suc count)) g) f (with_item constant p (record { through = true; place = own s.scope.free; cells = stride }) (taking 3 s)) (Meaning.with_item constant p (Meaning.moved q (i * stride)) env)
      knows_turn i le =
          let e = extends_items s k room (address + off + i * stride) (pos 1 +ℤ pos i) (pos (suc count)) in
          knows_item constant p (record { through = true; place = own s.scope.free; cells = stride }) (Meaning.moved q (i * stride)) (knows_items s k room (address + off + i * stride) (pos 1 +ℤ pos i) (pos (suc count)))
          (record {
            address = address + off + i * stride;
            leads = (f.base + s.scope.free, refl, inl (item_at s.scope.free (address + off + i * stride) (pos 1 +ℤ pos i) (pos (suc count)) g));
            spread = record {
              near = near_turn i le;
              cell = λ j lt.
                  let (pl, access, here, stands) = spread.cell (off + i * stride + j) (in_range i j le lt) in
                  let w : first + (off + i * stride + j) ≡ q.offset + i * stride + j = omega (arith, qo) in
                  let w' : address + (off + i * stride + j) ≡ address + off + i * stride + j = omega arith in
                  (pl, access, ap (λ n. place_in g (named_entity constant q.object) n) (sym w) ∙ ap (λ n. place_in g n (first + (off + i * stride + j))) same ∙ here, e.solid (address + off + i * stride + j) (StandsFor access pl) tt (ap g.what (sym w') ∙ stands));
            };
          })
