-- Threads that go through the components of an array do what those of the stored run do.
use Rattle.std.proofs.Common.{◌≡◌, ℕ, zero, suc, ◌+◌, ◌*◌, ◌<◌, ◌≤◌, ℤ, pos, ◌+ℤ◌, ◌-ℤ◌, ◌*ℤ◌, int_le, ◌&&◌, List, [], ◌∷◌, ◌++◌, slice_get, set, nat_eq, nat_lt, Option, Some, None, Err, Bool, true, false, cond, refl, sym, ap, ap₂, ◌∙◌, subst, le_refl, arith, inl, ⊎_elim, ltb-true, ltb-false, suc-mul, mul-le-mul_right}
use Rattle.std.proofs.lemmas.Int.{ints}
use Rattle.behaviours.specs.Doings.{through}
use Rattle.behaviours.specs.Joins.{Share}
use Rattle.behaviours.specs.Paths as paths
use Rattle.behaviours.specs.Paths.{Entity}
use Rattle.typed_tree.specs.Syntax.{Expr, Program, Chunk, NoChunk, Count, Each}
use Rattle.ada_meaning.specs.Values
use Rattle.ada_meaning.specs.Values.{between, to_nat}
use Rattle.ada_meaning.specs.Stored as stored
use Rattle.ada_meaning.specs.Stored.{Stored}
use Rattle.ada_meaning.specs.Meaning
use Rattle.ada_meaning.specs.Meaning.{Env, ObjectPart, Passed, Returned, Chunking}
use Rattle.stack_code.specs.declared.code.Code.{Code}
use Rattle.stack_code.specs.declared.code.CodeSite.{CodeSite}
use Rattle.stack_code.specs.declared.instr.Instr.{Instr}
use Rattle.stack_code.specs.declared.instr.Instr.TheVariants as i
use Rattle.stack_code.specs.declared.path.Asked.{Asked}
use Rattle.ada_base.specs.Cells.{Mine}
use Rattle.stack_code.specs.Deeds
use Rattle.stack_code.specs.Deeds.{GoesOn, pushed}
use Rattle.ada_lower.specs.Driven.{Dyn, Fixed, on, At, Alike}
use Rattle.ada_lower.proofs.Alike.{alike}
use Rattle.ada_lower.specs.Sights.{Around, Emit, chunk_sight, Named, Sight, Stands, looped, one, own, taking, thread_sight, when_, ◌⨟◌}
use Rattle.ada_lower.specs.Fits.{What, Free, Keeps, Ghost, Fit, Right, Ends, Holds, Knows, Refers, Spread, place_in, Access, Stands as StandsFor, IsNumber}
use Rattle.ada_lower.proofs.Forks.{threaded, thread_ends, done_so, ThreadDoes}
use Rattle.ada_lower.specs.Emission
use Rattle.ada_lower.specs.Emission.{items_code}
use Rattle.ada_lower.proofs.Inner.{InnerDo}
use Rattle.ada_lower.proofs.Framework.{any, To, Doing, comes_on, comes_as, comes_goes, does_ret, does_seq, does_before}
use Rattle.ada_lower.proofs.Memory.{set_what, what_same, what_other, at_or_not, own_free, own_keeps, fit_set, fit_unset, fit_alike, knows_keep, Extends, free_extends}
use Rattle.ada_lower.proofs.Standing.{stands_assoc3, stands_seq, stands_when, stands_looped}
use Rattle.ada_lower.proofs.Parts.{Runs, Fewer, truth_same, does_first, does_keep, does_to, does_weak}
use Rattle.ada_lower.proofs.Names.{comes_component, comes_field, does_by, comes_number}
use Rattle.ada_lower.proofs.Loops.{counts_at, first_at, last_at, count_last, count_more}
use Rattle.ada_lower.proofs.Courses.{knows_counts, knows_parameter, le_deed, truth_bit, comes_kept}
use Rattle.ada_lower.proofs.Items.{named_entity, knows_item, comes_stores}
use Rattle.ada_lower.proofs.Operands.{knows_alike}
use Rattle.ada_lower.proofs.Statements.{Acts, iterate_does}
use Rattle.ada_lower.proofs.ForkFrames.{frame_ghost}
use Rattle.ada_lower.proofs.ForkLoops.{base_ghost, turns_ghost, first_of, last_of, knows_base, base_below, enters_so, leaves_so, allows_so}
use Rattle.ada_lower.proofs.ForkRange.{Chunks, Numbered, chunk_entry}

-- the sight of a turn
abbrev pub component_sight : Sight → Chunk → Bool → ℕ → ℕ → Sight
component_sight t chunk constant k stride = record t { scope = Emission.turn_component t.scope chunk constant k stride }

at_none : {c : Code} {q : ℕ} {ins : Instr} {e e' : Option ℕ} → e ≡ e' → At c q ins e → At c q ins e'
at_none {c} {q} {ins} z a = subst (λ e. At c q ins e) z a

between_some : (k count : ℕ) → k < count → between (pos 1) (pos 1 +ℤ pos k) (pos count) ≡ true
between_some k count lt = ap₂ (λ a b. a && b) (low (int_le (pos 1) (pos 1 +ℤ pos k)) refl) (high (int_le (pos 1 +ℤ pos k) (pos count)) refl)
  where
    low : (b : Bool) → int_le (pos 1) (pos 1 +ℤ pos k) ≡ b → b ≡ true
    low true e = refl
    low false e = absurd (omega (arith, ints, e))

    high : (b : Bool) → int_le (pos 1 +ℤ pos k) (pos count) ≡ b → b ≡ true
    high true e = refl
    high false e = absurd (omega (arith, ints, e, lt))

position_of : (k : ℕ) → to_nat ((pos 1 +ℤ pos k) -ℤ pos 1) ≡ k
position_of k = let z : (pos 1 +ℤ pos k) -ℤ pos 1 ≡ pos k = omega (arith, ints) in ap to_nat z

-- ---- turns: the address of the component in cell 4, its position and the last one in cells 2 and 3

module _ (limit : ℕ) (cuts : ℕ → ℕ → List ℕ) (c : Code) (f : Fixed) (x : Ends) where
  abbrev pub item_ghost : ℕ → ℤ → ℤ → Ghost → Ghost
  item_ghost a u v g = counts_at limit cuts c f x 2 u v (set_what (f.base + 4) (Keeps (pos a)) g)

  pub item_at : (a : ℕ) (u v : ℤ) (g : Ghost) → (item_ghost a u v g).what (f.base + 4) ≡ Keeps (pos a)
  item_at a u v g = what_other (set_what (f.base + 2) (Keeps u) (set_what (f.base + 4) (Keeps (pos a)) g)) (f.base + 3) (f.base + 4) (Keeps v) (λ e. omega (arith, e))
      ∙ what_other (set_what (f.base + 4) (Keeps (pos a)) g) (f.base + 2) (f.base + 4) (Keeps u) (λ e. omega (arith, e)) ∙ what_same g (f.base + 4) (Keeps (pos a))

  -- the cell of the address is written
  item_swap : (a : ℕ) (u v : ℤ) (g g' : Ghost) → ((b : ℕ) → (f.base + 4 ≡ b → ⊥) → g'.what b ≡ (counts_at limit cuts c f x 2 u v g).what b) → (b : ℕ) → (set_what (f.base + 4) (Keeps (pos a)) g').what b ≡ (item_ghost a u v g).what b
  item_swap a u v g g' same b = ⊎_elim
      (λ e. subst (λ b. (set_what (f.base + 4) (Keeps (pos a)) g').what b ≡ (item_ghost a u v g).what b) e (what_same g' (f.base + 4) (Keeps (pos a)) ∙ sym (item_at a u v g)))
      (λ ne. what_other g' (f.base + 4) b (Keeps (pos a)) ne ∙ same b ne ∙ ap (λ w. cond (nat_eq (f.base + 3) b) (Keeps v) (cond (nat_eq (f.base + 2) b) (Keeps u) w)) (sym (what_other g (f.base + 4) b (Keeps (pos a)) ne)))
      (at_or_not (f.base + 4) b)

  -- first, and from component to component
  pub first_swap : (a : ℕ) (u v : ℤ) (g : Ghost) (b : ℕ) → (set_what (f.base + 4) (Keeps (pos a)) (counts_at limit cuts c f x 2 u v g)).what b ≡ (item_ghost a u v g).what b
  first_swap a u v g b = item_swap a u v g (counts_at limit cuts c f x 2 u v g) (λ b ne. refl) b

  next_swap : (a a' : ℕ) (u v : ℤ) (g : Ghost) (b : ℕ) → (set_what (f.base + 4) (Keeps (pos a')) (item_ghost a u v g)).what b ≡ (item_ghost a' u v g).what b
  next_swap a a' u v g b = item_swap a' u v g (item_ghost a u v g) (λ b ne. ap (λ w. cond (nat_eq (f.base + 3) b) (Keeps v) (cond (nat_eq (f.base + 2) b) (Keeps u) w)) (what_other g (f.base + 4) b (Keeps (pos a)) ne)) b

  pub fewer_item : (a a' : ℕ) (u u' v v' : ℤ) (g : Ghost) → Fewer limit c f x (item_ghost a u v g) (item_ghost a' u' v' g)
  fewer_item a a' u u' v v' g b y p e = inl (other (nat_eq (f.base + 3) b) (nat_eq (f.base + 2) b) (nat_eq (f.base + 4) b) e)
    where
      other : (t t' t'' : Bool) → cond t (Keeps v') (cond t' (Keeps u') (cond t'' (Keeps (pos a')) (g.what b))) ≡ StandsFor y p → cond t (Keeps v) (cond t' (Keeps u) (cond t'' (Keeps (pos a)) (g.what b))) ≡ StandsFor y p
      other true t' t'' e = absurd (let z : Keeps v' ≡ StandsFor y p = e in cc)
      other false true t'' e = absurd (let z : Keeps u' ≡ StandsFor y p = e in cc)
      other false false true e = absurd (let z : Keeps (pos a') ≡ StandsFor y p = e in cc)
      other false false false e = e

  -- the end of a turn, up to its count
  item_steps : {t : stored.State} {d : Dyn} {e1 e2 e3 : Option ℕ} (st : List ℤ) (g : Ghost) (stride a at_ : ℕ) (u v : ℤ) → At c at_ (i.LoadL 4) e1 → At c (at_ + 1) (i.Field stride) e2 → At c (at_ + 1 + 1) (i.StoreL 4) e3 → a ≤ g.top → Fit (item_ghost a u v g) t d
      → Fit (item_ghost (a + stride) u v g) t (record d { cells = set d.cells (f.base + 4) (Mine (pos (a + stride))) }) × To limit c (on f at_ st d) (on f (at_ + 1 + 1 + 1) st (record d { cells = set d.cells (f.base + 4) (Mine (pos (a + stride))) }))
  item_steps {t} {d} st g stride a at_ u v j1 j2 j3 near w =
      let is : slice_get d.cells (f.base + 4) ≡ Some (Mine (pos a)) = subst (λ z. Right z t (slice_get d.cells (f.base + 4))) (item_at a u v g) (w.cells (f.base + 4)) in (
        fit_alike (item_ghost (a + stride) u v g).what (next_swap a (a + stride) u v g) (fit_set (f.base + 4) (pos (a + stride)) (own_keeps ((item_ghost a u v g).what (f.base + 4)) (pos a) (item_at a u v g)) w),
        comes_on limit c (comes_kept limit cuts c f 4 (pos a) st d w (item_at a u v g) j1)
            (comes_on limit c (comes_field limit c f stride a st d w near j2)
            (comes_stores limit c f (f.base + 4) (pos (a + stride)) (pos a) (pos (a + stride) ∷ st) st d j3 refl is)),
      )

  -- where the three cells are free besides
  module _ (g : Ghost) (free2 : g.what (f.base + 2) ≡ Free) (free3 : g.what (f.base + 3) ≡ Free) (free4 : g.what (f.base + 4) ≡ Free) where
    abbrev with_item_kept : ℕ → Ghost
    with_item_kept a = set_what (f.base + 4) (Keeps (pos a)) g

    abbrev with_first_kept : ℕ → ℤ → Ghost
    with_first_kept a u = set_what (f.base + 2) (Keeps u) (with_item_kept a)

    free_first : (a : ℕ) → (with_item_kept a).what (f.base + 2) ≡ Free
    free_first a = what_other g (f.base + 4) (f.base + 2) (Keeps (pos a)) (λ e. omega (arith, e)) ∙ free2

    free_last : (a : ℕ) (u : ℤ) → (with_first_kept a u).what (f.base + 3) ≡ Free
    free_last a u = what_other (with_item_kept a) (f.base + 2) (f.base + 3) (Keeps u) (λ e. omega (arith, e)) ∙ what_other g (f.base + 4) (f.base + 3) (Keeps (pos a)) (λ e. omega (arith, e)) ∙ free3

    pub extends_item : (a : ℕ) (u v : ℤ) → Extends g (item_ghost a u v g)
    extends_item a u v =
        let e1 = free_extends g (f.base + 4) (Keeps (pos a)) free4 in
        let e2 = free_extends (with_item_kept a) (f.base + 2) (Keeps u) (free_first a) in
        let e3 = free_extends (with_first_kept a u) (f.base + 3) (Keeps v) (free_last a u) in
        record { top = le_refl g.top; place = λ y i p e. e; solid = λ b w ok e. e3.solid b w ok (e2.solid b w ok (e1.solid b w ok e)) }

    fewer_gone : (a : ℕ) (u v : ℤ) → Fewer limit c f x (item_ghost a u v g) g
    fewer_gone a u v b y p e = inl ((extends_item a u v).solid b (StandsFor y p) tt e)

    pub fit_gone : (a : ℕ) (u v : ℤ) (t : stored.State) (d : Dyn) → Fit (item_ghost a u v g) t d → Fit g t d
    fit_gone a u v t d w = fit_unset (f.base + 4) (pos a) free4 (fit_unset (f.base + 2) u (free_first a) (fit_unset (f.base + 3) v (free_last a u) w))

    pub components_do : {A : Type 0} {e1 e2 e3 e4 : Option ℕ} (stack : A → List ℤ) (stride a0 head mid : ℕ) (h : ℤ) (turn : ℕ → A → Stored A)
        → At c mid (i.LoadL 4) e1 → At c (mid + 1) (i.Field stride) e2 → At c (mid + 1 + 1) (i.StoreL 4) e3 → At c (mid + 1 + 1 + 1) (i.Next 2 3 head) e4
        → (m k : ℕ) (b0 : A) → h ≡ (pos 1 +ℤ pos k) +ℤ pos m → ((i : ℕ) → i ≤ k + m → a0 + i * stride ≤ g.top) → ((i : ℕ) (b : A) → k ≤ i → i ≤ k + m → Runs limit c f x (item_ghost (a0 + i * stride) (pos 1 +ℤ pos i) h g) any (turn i b) (λ d. on f head (stack b) d) (λ b d. on f mid (stack b) d))
        → Doing limit c f x (item_ghost (a0 + k * stride) (pos 1 +ℤ pos k) h g) g any (through stored.doings k (suc m) b0 turn) (λ d. on f head (stack b0) d) (λ b d. on f (mid + 1 + 1 + 1 + 1) (stack b) d)
    components_do {A} stack stride a0 head mid h turn j1 j2 j3 j4 zero k b0 is near b =
        let a : ℕ = a0 + k * stride in
        does_seq limit c f x (λ t d w. fit_gone a (pos 1 +ℤ pos k) h t d w) (λ ts al. al) (b k b0 (omega arith) (omega arith)) (λ b' _.
        does_first limit c f x (fewer_gone a (pos 1 +ℤ pos k) h) (λ t d w.
        let (w', goes) = item_steps (stack b') g stride a mid (pos 1 +ℤ pos k) h j1 j2 j3 (near k (omega arith)) w in (
          _,
          fit_gone (a + stride) (pos 1 +ℤ pos k) h t _ w',
          comes_on limit c goes (count_last limit cuts c f x (set_what (f.base + 4) (Keeps (pos (a + stride))) g) (stack b') false 2 head k (pos 1) h j4 (omega (arith, ints, is)) w'),
        ))
        (does_ret limit c f x {to = λ b d. on f (mid + 1 + 1 + 1 + 1) (stack b) d} b' tt))
    components_do {A} stack stride a0 head mid h turn j1 j2 j3 j4 (suc m) k b0 is near b =
        let a : ℕ = a0 + k * stride in
        let next : a0 + k * stride + stride ≡ a0 + suc k * stride = omega (arith, suc-mul k stride) in
        does_seq limit c f x (λ t d w. fit_gone a (pos 1 +ℤ pos k) h t d w) (λ ts al. al) (b k b0 (omega arith) (omega arith)) (λ b' _.
        does_first limit c f x (fewer_item a (a0 + suc k * stride) (pos 1 +ℤ pos k) (pos 1 +ℤ pos (suc k)) h h g) (λ t d w.
        let (w', goes) = item_steps (stack b') g stride a mid (pos 1 +ℤ pos k) h j1 j2 j3 (near k (omega arith)) w in
        let (d', w'', goes') = count_more limit cuts c f x (set_what (f.base + 4) (Keeps (pos (a + stride))) g) (stack b') false 2 head k m (pos 1) h j4 is w' in
        (d', subst (λ q. Fit (item_ghost q (pos 1 +ℤ pos (suc k)) h g) t d') next w'', comes_on limit c goes goes'))
        (components_do stack stride a0 head mid h turn j1 j2 j3 j4 m (suc k) b' (omega (arith, ints, is)) (λ i le. near i (omega (arith, le))) (λ i e le le'. b i e (omega (arith, le)) (omega (arith, le')))))

-- ---- threads

module _ (limit : ℕ) (cuts : ℕ → ℕ → List ℕ) (program : Program) (c : Code) (f : Fixed) (calls : ℕ → ℕ → Stored (Unit {0}) → List Passed → Stored Returned) (globals : ℕ → Entity → Option Named) (mains : Entity → Bool) (epar : Sight → Expr → Type 0) (calls_all : (f' : Fixed) → Alike f' f → InnerDo limit cuts program globals mains epar c f' calls) where
  module _ (g : Ghost) (s : Sight) (env : Env) (kn : Knows limit cuts g f s env) (site : ℕ) (cs : CodeSite) (four : 4 ≤ cs.frame) (five : 5 ≤ cs.frame) (count stride : ℕ) (cl ch initial : ℤ) (j : Share) (inside : j.first + j.size ≤ count)
      (around a0 : ℕ) (held : IsNumber (g.what (f.base + around)) (pos a0)) (lower : around < s.cells) (reach : a0 + count * stride ≤ g.top) where
    abbrev pub asking : Asked
    asking = Deeds.asked site (pos 1) (pos count) cl ch initial

    abbrev t : Sight
    t = thread_sight site cs.frame s

    abbrev base : Ghost
    base = base_ghost limit cuts program c f calls globals mains epar calls_all g s env kn site cs four asking j

    abbrev entering : Ghost
    entering = turns_ghost limit cuts program c f calls globals mains epar calls_all g s env kn site cs four asking j

    abbrev fx : Fixed
    fx = threaded f g.top

    knows_here : Knows limit cuts base fx (taking 1 (taking 1 t)) env
    knows_here = knows_base limit cuts program c f calls globals mains epar calls_all g s env kn site cs four asking j

    free_cell : (n : ℕ) → 2 ≤ n → n < cs.frame → base.what (fx.base + n) ≡ Free
    free_cell n le lt = knows_here.free n le lt

    free2 : base.what (fx.base + 2) ≡ Free
    free2 = free_cell 2 (omega arith) (omega (arith, five))

    free3 : base.what (fx.base + 3) ≡ Free
    free3 = free_cell 3 (omega arith) (omega (arith, five))

    free4 : base.what (fx.base + 4) ≡ Free
    free4 = free_cell 4 (omega arith) (omega (arith, five))

    -- the position of the first component
    abbrev first : ℤ
    first = pos 1 +ℤ pos j.first

    -- the ghost of the turn of a component
    abbrev pub it_ghost : ℕ → Ghost
    it_ghost k = item_ghost limit cuts c fx thread_ends (a0 + k * stride) (pos 1 +ℤ pos k) (last_of (pos 1 +ℤ pos j.first) j.size) base

    pub knows_items : (k : ℕ) → Knows limit cuts (it_ghost k) fx (taking 3 (taking 2 t)) env
    knows_items k =
        let v : ℤ = last_of (pos 1 +ℤ pos j.first) j.size in
        let k1 : Knows limit cuts (counts_at limit cuts c fx thread_ends 2 (pos 1 +ℤ pos k) v base) fx (taking 2 (taking 1 (taking 1 t))) env = knows_counts limit cuts c fx (taking 1 (taking 1 t)) (pos 1 +ℤ pos k) v (omega (arith, four)) knows_here in
        knows_alike (it_ghost k).what (first_swap limit cuts c fx thread_ends (a0 + k * stride) (pos 1 +ℤ pos k) v base) (knows_keep (pos (a0 + k * stride)) (omega (arith, five)) k1)

    -- what stands for cells around does so in a turn
    stands_in : (k b : ℕ) (access : Access) (p : _) → g.what b ≡ StandsFor access p → (it_ghost k).what b ≡ StandsFor access p
    stands_in k b access p e = go (nat_lt b g.top) refl
      where
        go : (y : Bool) → nat_lt b g.top ≡ y → (it_ghost k).what b ≡ StandsFor access p
        go true lt =
            (extends_item limit cuts c fx thread_ends base free2 free3 free4 (a0 + k * stride) (pos 1 +ℤ pos k) (last_of (pos 1 +ℤ pos j.first) j.size)).solid b (StandsFor access p) tt
            (base_below limit cuts program c f calls globals mains epar calls_all g s env kn site cs four asking j b (ltb-true b g.top lt) ∙ e)
        go false ge = absurd (let z : What.Other ≡ StandsFor access p = sym (kn.beyond b (ltb-false b g.top ge)) ∙ e in cc)

    -- the address of the array around is loaded
    around_kept : IsNumber (entering.what (f.base + around)) (pos a0)
    around_kept =
        let U : ℤ = first_of (pos 1 +ℤ pos j.first) j.size in
        let V : ℤ = last_of (pos 1 +ℤ pos j.first) j.size in
        let top : g.top ≡ f.base + s.cells = kn.top in
        subst (λ w. IsNumber w (pos a0)) (sym (what_other (set_what (g.top + 2) (Keeps U) base) (g.top + 3) (f.base + around) (Keeps V) (λ e. omega (arith, e, top, lower))
        ∙ what_other base (g.top + 2) (f.base + around) (Keeps U) (λ e. omega (arith, e, top, lower))
        ∙ base_below limit cuts program c f calls globals mains epar calls_all g s env kn site cs four asking j (f.base + around) (omega (arith, top, lower)))) held

    le_more : (u : ℤ) (m : ℕ) → int_le u (u +ℤ pos m) ≡ true
    le_more u m = go (int_le u (u +ℤ pos m)) refl
      where
        go : (b : Bool) → int_le u (u +ℤ pos m) ≡ b → int_le u (u +ℤ pos m) ≡ true
        go true e = e
        go false e = absurd (omega (arith, ints, e))

    up_to : (k : ℕ) → k ≤ count → a0 + k * stride ≤ g.top
    up_to k le = let b : k * stride ≤ count * stride = mul-le-mul_right stride le in omega (arith, b, reach)

    -- code that goes through the components of a thread, with what goes from turn to turn on the stack
    pub items_code_does : {A : Type 0} (stack : A → List ℤ) (t1 : Sight) (h : ℕ) (body : Emit) (from to : ℕ) (turn : ℕ → A → Stored A) → t1.scope.entry ≡ None → Stands c (items_code t1.scope h 2 around stride count body) from to
        → ((k : ℕ) (b : A) (head mid : ℕ) → k < count → Stands c body head mid → Runs limit c fx thread_ends (it_ghost k) any (turn k b) (λ d. on fx head (stack b) d) (λ b d. on fx mid (stack b) d))
        → (b : A) → Doing limit c fx thread_ends entering base any (through stored.doings j.first j.size b turn) (λ d. on fx from (stack b) d) (λ b d. on fx to (stack b) d)
    items_code_does {A} stack t1 h body from to turn en l step b0 =
        let loop : Emit = looped t1.scope h true (λ exit. body) (λ head. Emission.stepping t1.scope h 4 stride 2 head) in
        let turns : Emit = one t1.scope h (i.LoadO 1 around) ⨟ one t1.scope (h + 1) (i.LoadL 2) ⨟ one t1.scope (h + 1 + 1) (i.Index (pos 1) (pos count) stride) ⨟ Emission.keep t1.scope (h + 1) 4 ⨟ loop in
        let (j1, (j2, (j3, r))) = stands_assoc3 c from to (one t1.scope h (i.LoadL 2)) (one t1.scope (h + 1) (i.LoadL 3)) (one t1.scope (h + 1 + 1) i.Le) (when_ t1.scope h turns) l in
        let (test, lp) = stands_when c (from + 1 + 1 + 1) to t1 h turns r in
        let U : ℤ = first_of (pos 1 +ℤ pos j.first) j.size in
        let V : ℤ = last_of (pos 1 +ℤ pos j.first) j.size in
        does_by limit c fx thread_ends (λ st d w. comes_on limit c (comes_kept limit cuts c fx 2 U (stack b0) d w (first_at limit cuts c fx thread_ends 2 U V base) j1)
        (comes_on limit c (comes_kept limit cuts c fx 3 V (U ∷ stack b0) d w (last_at limit cuts c fx thread_ends 2 U V base) j2)
        (comes_goes limit c fx (V ∷ U ∷ stack b0) (from + 1 + 1 + 1) (Values.bit (int_le U V) ∷ stack b0) d j3 (le_deed limit cuts c fx (from + 1 + 1) U V (stack b0 ++ fx.below)))))
        (go j.size inside step around_kept test lp)
      where
        go : (n : ℕ) → j.first + n ≤ count
            → ((k : ℕ) (b : A) (head mid : ℕ) → k < count → Stands c body head mid → Runs limit c fx thread_ends (item_ghost limit cuts c fx thread_ends (a0 + k * stride) (pos 1 +ℤ pos k) (last_of first n) base) any (turn k b) (λ d. on fx head (stack b) d) (λ b d. on fx mid (stack b) d))
            → IsNumber ((counts_at limit cuts c fx thread_ends 2 (first_of first n) (last_of first n) base).what (f.base + around)) (pos a0)
            → At c (from + 1 + 1 + 1) (i.JFalse to) t1.scope.entry
            → Stands c (one t1.scope h (i.LoadO 1 around) ⨟ one t1.scope (h + 1) (i.LoadL 2) ⨟ one t1.scope (h + 1 + 1) (i.Index (pos 1) (pos count) stride) ⨟ Emission.keep t1.scope (h + 1) 4 ⨟ looped t1.scope h true (λ exit. body) (λ head. Emission.stepping t1.scope h 4 stride 2 head)) (from + 1 + 1 + 1 + 1) to
            → Doing limit c fx thread_ends (counts_at limit cuts c fx thread_ends 2 (first_of first n) (last_of first n) base) base any (through stored.doings j.first n b0 turn) (λ d. on fx (from + 1 + 1 + 1) (Values.bit (int_le (first_of first n) (last_of first n)) ∷ stack b0) d) (λ b d. on fx to (stack b) d)
        go zero inn step kept test lp =
            does_before limit c fx thread_ends (λ d. comes_goes limit c fx (pos 0 ∷ stack b0) to (stack b0) d test refl)
            (does_weak limit c fx thread_ends (λ st d w. fit_unset (fx.base + 2) (pos 1) free2 (fit_unset (fx.base + 3) (pos 0) (what_other base (fx.base + 2) (fx.base + 3) (Keeps (pos 1)) (λ e. omega (arith, e)) ∙ free3) w)) (does_ret limit c fx thread_ends {to = λ b d. on fx to (stack b) d} b0 tt))
        go (suc m) inn step kept test (jo, (ji, (jx, (jk, lq)))) =
            let p : ℕ = from + 1 + 1 + 1 + 1 in
            let last : ℤ = first +ℤ pos m in
            let G : Ghost = counts_at limit cuts c fx thread_ends 2 first last base in
            let a1 : ℕ = a0 + j.first * stride in
            let lt : j.first < count = omega (arith, inn) in
            let o = stands_looped c (p + 1 + 1 + 1 + 1) to t1 h true (λ exit. body) (λ head. Emission.stepping t1.scope h 4 stride 2 head) lq in
            let (b1, (b2, (b3, (b4, be)))) = o.back in
            let e : between (pos 1) first (pos count) ≡ true = between_some j.first count lt in
            let moved_to : a0 + to_nat (first -ℤ pos 1) * stride ≡ a1 = ap (λ n. a0 + n * stride) (position_of j.first) in
            let own4 : G.what (fx.base + 4) ≡ Free = what_other (set_what (fx.base + 2) (Keeps first) base) (fx.base + 3) (fx.base + 4) (Keeps last) (λ e. omega (arith, e)) ∙ what_other base (fx.base + 2) (fx.base + 4) (Keeps first) (λ e. omega (arith, e)) ∙ free4 in
            does_by limit c fx thread_ends (λ st d w. comes_on limit c
            (comes_goes limit c fx (Values.bit (int_le first last) ∷ stack b0) p (stack b0) d test
            (ap (λ b. GoesOn (cond b p to) (stack b0 ++ fx.below)) (truth_same (Values.bit (int_le first last)) ∙ (truth_bit limit cuts c fx (int_le first last) ∙ le_more first m))))
            (comes_on limit c (comes_number limit c fx (record { level = Around 1; cell = around }) (pos a0) (stack b0) d w (f.base + around, (f.base, refl, refl), kept) jo)
            (comes_on limit c (comes_kept limit cuts c fx 2 first (pos a0 ∷ stack b0) d w (first_at limit cuts c fx thread_ends 2 first last base) ji)
            (subst (λ n. To limit c (on fx (p + 1 + 1) (first ∷ pos a0 ∷ stack b0) d) (on fx (p + 1 + 1 + 1) (pos n ∷ stack b0) d)) moved_to
            (comes_component limit c fx (pos 1) (pos count) first stride a0 (stack b0) d w e (let z : a0 + to_nat (first -ℤ pos 1) * stride ≤ g.top + cs.frame = (let y = up_to j.first (omega (arith, lt)) in omega (arith, y, moved_to)) in z) jx)))))
            (does_keep limit c fx thread_ends (p + 1 + 1 + 1) 4 (pos a1) (stack b0) (own_free (G.what (fx.base + 4)) own4) (at_none en jk)
            (does_first limit c fx thread_ends (λ b y q z. inl (first_swap limit cuts c fx thread_ends a1 first last base b ∙ z))
            (λ st d w. (d, fit_alike (item_ghost limit cuts c fx thread_ends a1 first last base).what (first_swap limit cuts c fx thread_ends a1 first last base) w, comes_goes limit c fx (stack b0) (p + 1 + 1 + 1 + 1 + 1 + 1) (stack b0) d o.enter refl))
            (subst (λ z. Doing limit c fx thread_ends (item_ghost limit cuts c fx thread_ends a1 first last base) base any (through stored.doings j.first (suc m) b0 turn) (λ d. on fx (p + 1 + 1 + 1 + 1 + 1 + 1) (stack b0) d) (λ b d. on fx z (stack b) d)) (sym be)
            (components_do limit cuts c fx thread_ends base free2 free3 free4 stack stride a0 (p + 1 + 1 + 1 + 1 + 1 + 1) o.mid last turn b1 b2 b3 b4 m j.first b0 refl
            (λ k le. (let y = up_to k (omega (arith, le, inn)) in omega (arith, y)))
            (λ k b le le'. step k b (p + 1 + 1 + 1 + 1 + 1 + 1) o.mid (omega (arith, le', inn)) o.turn)))))

    -- ---- by what is done in each turn

    module _ (p : ℕ) (constant : Bool) (q : ObjectPart) (part : Spread g (named_entity constant q.object) q.offset (count * stride) a0) (chunk : Chunk) (k : Chunking) (told : Chunks chunk cl ch k) (idx : ℕ) (at_ : Numbered chunk idx j.number) where
      abbrev pub item_env : ℕ → Env
      item_env i = Meaning.with_item constant p (Meaning.moved q (i * stride)) (k.bound idx env)

      abbrev named : Named
      named = record { through = true; place = own 4; cells = stride }

      refers : (i : ℕ) → i < count → Refers (it_ghost i) fx named (named_entity constant q.object) (q.offset + i * stride)
      refers i lt = record {
        address = a0 + i * stride;
        leads = (fx.base + 4, refl, inl (item_at limit cuts c fx thread_ends (a0 + i * stride) (pos 1 +ℤ pos i) (last_of first j.size) base));
        spread = record {
          near = (
              let r = part.near in
              let b : suc i * stride ≤ count * stride = mul-le-mul_right stride (let z : suc i ≤ count = omega (arith, lt) in z) in
              let z : a0 + i * stride + stride ≤ g.top + cs.frame = omega (arith, r, b, suc-mul i stride) in
              z);
          cell = λ l ll.
              let b : suc i * stride ≤ count * stride = mul-le-mul_right stride (let z : suc i ≤ count = omega (arith, lt) in z) in
              let (pl, access, here, stands) = part.cell (i * stride + l) (omega (arith, b, suc-mul i stride, ll)) in
              let w : q.offset + (i * stride + l) ≡ q.offset + i * stride + l = omega arith in
              let w' : a0 + (i * stride + l) ≡ a0 + i * stride + l = omega arith in
              (pl, access, ap (λ n. place_in g (named_entity constant q.object) n) (sym w) ∙ here, stands_in i (a0 + i * stride + l) access pl (ap g.what (sym w') ∙ stands));
        };
      }

      chunk_holds : (i : ℕ) → Holds (it_ghost i) fx (own 0) (cl +ℤ pos j.number)
      chunk_holds i = (
        g.top + 0,
        refl,
        inl ((extends_item limit cuts c fx thread_ends base free2 free3 free4 (a0 + i * stride) (pos 1 +ℤ pos i) (last_of first j.size)).solid (g.top + 0) (Keeps (cl +ℤ pos j.number)) tt
            (what_other (set_what (g.top + 0) (Keeps (cl +ℤ pos j.number)) (frame_ghost g cs.frame)) (g.top + 1) (g.top + 0) (Keeps initial) (λ e. omega (arith, e)) ∙ what_same (frame_ghost g cs.frame) (g.top + 0) (Keeps (cl +ℤ pos j.number)))),
      )

      pub turn_knows : (ck : Chunk) → Chunks ck cl ch k → Numbered ck idx j.number → (i : ℕ) → i < count → Knows limit cuts (it_ghost i) fx (component_sight t ck constant p stride) (item_env i)
      turn_knows NoChunk e nn i lt = subst (λ (k : Chunking). Knows limit cuts (it_ghost i) fx (component_sight t NoChunk constant p stride) (Meaning.with_item constant p (Meaning.moved q (i * stride)) (k.bound idx env))) (sym e)
          (knows_item constant p named (Meaning.moved q (i * stride)) (knows_items i) (refers i lt))
      turn_knows (Count z) e nn i lt = subst (λ (k : Chunking). Knows limit cuts (it_ghost i) fx (component_sight t (Count z) constant p stride) (Meaning.with_item constant p (Meaning.moved q (i * stride)) (k.bound idx env))) (sym e)
          (knows_item constant p named (Meaning.moved q (i * stride)) (knows_items i) (refers i lt))
      turn_knows (Each kc low high check) e nn i lt = subst (λ (k : Chunking). Knows limit cuts (it_ghost i) fx (component_sight t (Each kc low high check) constant p stride) (Meaning.with_item constant p (Meaning.moved q (i * stride)) (k.bound idx env))) (sym e)
          (knows_item constant p named (Meaning.moved q (i * stride))
          (knows_parameter limit cuts c fx kc (own 0) (cl +ℤ pos idx) (knows_items i) (subst (λ m. Holds (it_ghost i) fx (own 0) (cl +ℤ pos m)) (sym nn) (chunk_holds i))) (refers i lt))

      -- a thread of a reduction
      pub fold_items_thread : (may : paths.Leave → Type 0) (turn : Env → ℤ → Stored ℤ) (body : Emit) (to : ℕ)
          → (let t1 = chunk_sight chunk (taking 2 t) in Stands c (one t1.scope 0 (i.LoadL 1) ⨟ items_code t1.scope 1 2 around stride count (one t1.scope 1 i.Turn ⨟ body) ⨟ one t1.scope 1 i.EndV) cs.entry to)
          → ((g' : Ghost) (env' : Env) (a : ℤ) (head mid : ℕ) → Knows limit cuts g' fx (component_sight t chunk constant p stride) env' → Stands c (one (chunk_sight chunk (taking 2 t)).scope 1 i.Turn ⨟ body) head mid
          → Runs limit c fx thread_ends g' any (turn env' a) (λ d. on fx head (a ∷ []) d) (λ b d. on fx mid (b ∷ []) d))
          → ((st : stored.State) (l : paths.Leave) → ((through stored.doings j.first j.size initial (λ i a. turn (item_env i) a)).does st).end ≡ Err (stored.Left l) → may l)
          → ThreadDoes limit c may g f cs asking (λ z. Some z) j (through stored.doings j.first j.size initial (λ i a. turn (item_env i) a))
      fold_items_thread may turn body to (at0, l0) step ml =
          let t1 : Sight = chunk_sight chunk (taking 2 t) in
          let (m, l1, (at, z)) = stands_seq c (cs.entry + 1) to (items_code t1.scope 1 2 around stride count (one t1.scope 1 i.Turn ⨟ body)) (one t1.scope 1 i.EndV) l0 in
          let U : ℤ = first_of first j.size in
          let V : ℤ = last_of first j.size in
          let kept : entering.what (fx.base + 1) ≡ Keeps initial =
          what_other (set_what (g.top + 2) (Keeps U) base) (g.top + 3) (g.top + 1) (Keeps V) (λ e. omega (arith, e))
          ∙ what_other base (g.top + 2) (g.top + 1) (Keeps U) (λ e. omega (arith, e))
          ∙ what_same (set_what (g.top + 0) (Keeps (cl +ℤ pos j.number)) (frame_ghost g cs.frame)) (g.top + 1) (Keeps initial) in
          record {
            ghost = entering;
            after = base;
            ordered = refl;
            enters = enters_so limit cuts program c f calls globals mains epar calls_all g s env kn site cs four asking j;
            leaves = leaves_so limit cuts program c f calls globals mains epar calls_all g s env kn site cs four asking j;
            allows = allows_so limit cuts program c f calls globals mains epar calls_all g s env kn site cs four asking j;
            may_leave = ml;
            does = does_by limit c fx thread_ends (λ st d w. comes_kept limit cuts c fx 1 initial [] d w kept at0)
                (does_to limit c fx thread_ends (done_so {A = ℤ} (λ a. Some a)) (λ a d u. comes_as limit c fx (a ∷ []) d at refl)
                (items_code_does (λ a. a ∷ []) t1 1 (one t1.scope 1 i.Turn ⨟ body) (cs.entry + 1) m (λ i a. turn (item_env i) a) (chunk_entry chunk (taking 2 t)) l1
                (λ i a head mid lt st. step (it_ghost i) (item_env i) a head mid (turn_knows chunk told at_ i lt) st) initial));
          }

      -- a thread of a loop
      pub items_thread : (may : paths.Leave → Type 0) (tests : Env → Stored Bool) (does : Env → Stored (Unit {0})) (body : Emit) (to : ℕ)
          → (let t1 = chunk_sight chunk (taking 2 t) in Stands c (items_code t1.scope 0 2 around stride count (one t1.scope 0 i.Turn ⨟ body) ⨟ one t1.scope 0 i.End) cs.entry to)
          → ((g' : Ghost) (env' : Env) (a b : ℕ) → Knows limit cuts g' fx (component_sight t chunk constant p stride) env' → Stands c body a b
          → Acts limit cuts program c fx calls globals mains epar (calls_all fx (alike f)) thread_ends g' (stored.bind (tests env') (λ z. cond z (does env') (stored.ret tt))) a b)
          → ((st : stored.State) (l : paths.Leave) → ((through stored.doings j.first j.size tt (λ i (_ : Unit {0}). Meaning.iterate (stored.noted_operations limit cuts) (tests (item_env i)) (does (item_env i)))).does st).end ≡ Err (stored.Left l) → may l)
          → ThreadDoes limit c may g f cs asking (λ (z : Unit {0}). None) j (through stored.doings j.first j.size tt (λ i _. Meaning.iterate (stored.noted_operations limit cuts) (tests (item_env i)) (does (item_env i))))
      items_thread may tests does body to l step ml =
          let t1 : Sight = chunk_sight chunk (taking 2 t) in
          let (m, l1, (at, z)) = stands_seq c cs.entry to (items_code t1.scope 0 2 around stride count (one t1.scope 0 i.Turn ⨟ body)) (one t1.scope 0 i.End) l in
          record {
            ghost = entering;
            after = base;
            ordered = refl;
            enters = enters_so limit cuts program c f calls globals mains epar calls_all g s env kn site cs four asking j;
            leaves = leaves_so limit cuts program c f calls globals mains epar calls_all g s env kn site cs four asking j;
            allows = allows_so limit cuts program c f calls globals mains epar calls_all g s env kn site cs four asking j;
            may_leave = ml;
            does = does_to limit c fx thread_ends (done_so {A = Unit {0}} (λ a. None)) (λ a d u. comes_as limit c fx [] d at refl)
                (items_code_does (λ a. []) t1 0 (one t1.scope 0 i.Turn ⨟ body) cs.entry m (λ i _. Meaning.iterate (stored.noted_operations limit cuts) (tests (item_env i)) (does (item_env i))) (chunk_entry chunk (taking 2 t)) l1
                (λ i a head mid lt (turn_at, b). iterate_does limit cuts program c fx calls globals mains epar (calls_all fx (alike f)) (tests (item_env i)) (does (item_env i)) thread_ends head mid kn.most (at_none (chunk_entry chunk (taking 2 t)) turn_at)
                (step (it_ghost i) (item_env i) (head + 1) mid (turn_knows chunk told at_ i lt) b)) tt);
          }
