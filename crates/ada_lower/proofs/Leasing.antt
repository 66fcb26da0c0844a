-- What the threads of a construct touch stays within what its leases lend them, where their cells are found at paths.
use Rattle.std.proofs.Common.{◌≡◌, ℕ, ◌+◌, ◌*◌, ◌<◌, ◌≤◌, ℤ, pos, ◌+ℤ◌, nat_eq, List, [], ◌∷◌, slice_get, ◌⊎◌, Option, Some, None, inl, inr, Bool, true, false, refl, sym, ap, ◌∙◌, subst, arith, true≢false, eqb-true}
use Rattle.std.proofs.lemmas.Bool.{eqb-false}
use Rattle.std.proofs.lemmas.Option.{slice_get_within}
use Rattle.behaviours.specs.Paths.{Entity, VariableOf, ConstantOf}
use Rattle.behaviours.specs.Joins.{Now, Share, Site}
use Rattle.typed_tree.specs.Syntax.{Program}
use Rattle.ada_meaning.specs.Stored.{Address, Kept, Stacked, Touch, Thread, Team, cell_at, slot_at, within, key}
use Rattle.ada_meaning.specs.Touched.{Before, IsAmong}
use Rattle.ada_meaning.specs.Meaning.{Env}
use Rattle.ada_meaning.specs.Shapes.{object_shape, size}
use Rattle.ada_meaning.proofs.Cells.{some_same}
use Rattle.check_effects.specs.Effects.{Access, Construct, LoopOf, BlockOf, ReductionOf, Holds}
use Rattle.check_effects.specs.Conflicts.{EffectPath, InProgram, IsThreadEffect, LiesUnder, SomeDiffer, IsClean, Compared, path, path_of}
use Rattle.check_effects.specs.Covered.{arm_of, site_of, AreDistinct, ItemsLie, has_items, items_of, Under, IsTouched, AreApart}
use Rattle.check_effects.specs.Touching.{LiesAt, AllTouchesCovered, AllThreadsCovered}
use Rattle.stack_code.specs.declared.code.CodeSite.{CodeSite}
use Rattle.stack_code.specs.declared.code.Step as code_step
use Rattle.stack_code.specs.declared.code.Lease as code
use Rattle.stack_code.specs.declared.path.Asked.{Asked}
use Rattle.stack_code.specs.Machine.{outward_of}
use Rattle.ada_lower.specs.Leases.{frame_of}
use Rattle.ada_lower.specs.Driven.{Dyn, Fixed}
use Rattle.ada_lower.specs.Sights.{Around, Level, Main, Named, Own, Sight}
use Rattle.ada_lower.specs.Fits.{What, Keeps, Shows, Access as Right, Ghost, Fit, Knows, IsAt, Refers, place_in, Stands as StandsFor}
use Rattle.ada_lower.specs.Lending.{Among, StepsTo, frame_at, chunk_at, LiesIn, IsLent, Owns}
use Rattle.ada_lower.specs.Leased.{IsLease, AreLeased, LiesUnderPath, MayBe}
use Rattle.ada_lower.specs.Teams.{IsSound, OnePlace}
use Rattle.ada_lower.proofs.ForkViews.{TouchFits, TouchesFit, Apart}
use Rattle.ada_lower.proofs.ForkFine.{Lends}
use Rattle.ada_lower.proofs.ItemGeometry.{small_by}
use Rattle.ada_lower.proofs.LeaseGeometry.{lies_within}
use Rattle.ada_lower.proofs.Memory.{place_fits}

-- ---- steps

steps_up : (v ch : ℤ) (ss : List code_step.Step) (b n o : ℕ) → StepsTo v ch ss n o → StepsTo v ch ss (b + n) (b + o)
steps_up v ch [] b n o e = ap (λ m. b + m) e
steps_up v ch (code_step.TheVariants.All count size ∷ ss) b n o (i, lt, h) = (i, lt, subst (λ m. StepsTo v ch ss m (b + o)) (let z : b + (n + i * size) ≡ b + n + i * size = omega arith in z) (steps_up v ch ss b (n + i * size) o h))
steps_up v ch (code_step.TheVariants.Loop low count size ∷ ss) b n o (i, lt, e, h) = (i, lt, e, subst (λ m. StepsTo v ch ss m (b + o)) (let z : b + (n + i * size) ≡ b + n + i * size = omega arith in z) (steps_up v ch ss b (n + i * size) o h))
steps_up v ch (code_step.TheVariants.Chunk low count size ∷ ss) b n o (i, lt, e, h) = (i, lt, e, subst (λ m. StepsTo v ch ss m (b + o)) (let z : b + (n + i * size) ≡ b + n + i * size = omega arith in z) (steps_up v ch ss b (n + i * size) o h))

steps_down : (v ch : ℤ) (ss : List code_step.Step) (b n o : ℕ) → StepsTo v ch ss (b + n) o → (p : ℕ) × StepsTo v ch ss n p × (o ≡ b + p)
steps_down v ch [] b n o e = (n, refl, e)
steps_down v ch (code_step.TheVariants.All count size ∷ ss) b n o (i, lt, h) =
    let (p, k, e) = steps_down v ch ss b (n + i * size) o (subst (λ m. StepsTo v ch ss m o) (let z : b + n + i * size ≡ b + (n + i * size) = omega arith in z) h) in (p, (i, lt, k), e)
steps_down v ch (code_step.TheVariants.Loop low count size ∷ ss) b n o (i, lt, q, h) =
    let (p, k, e) = steps_down v ch ss b (n + i * size) o (subst (λ m. StepsTo v ch ss m o) (let z : b + n + i * size ≡ b + (n + i * size) = omega arith in z) h) in (p, (i, lt, q, k), e)
steps_down v ch (code_step.TheVariants.Chunk low count size ∷ ss) b n o (i, lt, q, h) =
    let (p, k, e) = steps_down v ch ss b (n + i * size) o (subst (λ m. StepsTo v ch ss m o) (let z : b + n + i * size ≡ b + (n + i * size) = omega arith in z) h) in (p, (i, lt, q, k), e)

no_place : {a : Address} → ◌≡◌ {A = Option Address} None (Some a) → ⊥
no_place e = cc

-- where a cell at a level is
framed : (f : Fixed) (l : Level) (n a : ℕ) → IsAt f l n a → (b : ℕ) × (frame_at (f.base ∷ outward_of f.waiting f.outward) (frame_of l) ≡ Some b) × (a ≡ b + n)
framed f Own n a e = (f.base, refl, e)
framed f (Around k) n a (b, is, e) = (b, is, e)
framed f Main n a e = (0, refl, (let z : n ≡ 0 + n = omega arith in e ∙ z))

-- ---- where cells are found

-- what a thread touches in an iteration of its own lies at a path by the loop value or position and the chunk value, and
-- cells of separated paths in iterations of two threads are apart
pub record Finds (program : Program) (k : Construct) (items : Bool) (now : ℕ → ℕ → Now) (value chunk : ℕ → ℤ) : Type 0 where
  pub lies : (b : Share) → ItemsLie (items_of k) now b → (i : ℕ) → b.first ≤ i → i < b.first + b.size → (at : ℕ) (y : Access) → IsThreadEffect program k (arm_of k b.number i) at y → (n : ℕ) → LiesUnder (now b.number i) y n → LiesUnderPath program items (value i) (chunk b.number) (path_of y) n
  pub apart : (c b i j : ℕ) → (c ≡ b → ⊥) → (i ≡ j → ⊥) → (at there : ℕ) (x y : Access) → IsThreadEffect program k (arm_of k c i) at x → IsThreadEffect program k (arm_of k b j) there y → x.object ≡ y.object → SomeDiffer (path x.steps) (path y.steps)
      → (n : ℕ) → LiesUnderPath program items (value i) (chunk c) (path_of x) n → LiesUnderPath program items (value j) (chunk b) (path_of y) n → ⊥

-- a cell of a path is one of the object
lies_small : (program : Program) (items : Bool) (v ch : ℤ) (p : EffectPath) (n : ℕ) → LiesUnderPath program items v ch p n → n < size (object_shape program p.object)
lies_small program true v ch p n h = small_by v ch None (object_shape program p.object) p.selectors n h
lies_small program false v ch p n h = lies_within v ch (object_shape program p.object) p.selectors n h

-- ---- cells that are lent

module _ {limit : ℕ} {cuts : ℕ → ℕ → List ℕ} {f : Fixed} {g : Ghost} {s : Sight} {env : Env} (kn : Knows limit cuts g f s env) (program : Program) (items : Bool) (site : ℕ) (cs : CodeSite) (are : AreLeased program s.scope.object s.global s.main s.seen items site cs) (q : Asked) where
  abbrev frames : List ℕ
  frames = f.base ∷ outward_of f.waiting f.outward

  -- an object that is named directly has its cells from an address on
  addressed : (x : Entity) (m : Named) → s.scope.object x ≡ Some m → m.through ≡ false → (a : ℕ) × IsAt f m.place.level m.place.cell a × ((i : ℕ) → i < m.cells → (pl : Address) × (y : Right) × (place_in g x i ≡ Some pl) × (g.what (a + i) ≡ StandsFor y pl))
  addressed x m e direct =
      let r = kn.object x m e in
      (r.address, subst (λ t. Rattle.ada_lower.specs.Fits.Leads t g f m.place r.address) direct r.leads, λ i lt. let (pl, y, p, w) = r.spread.cell i lt in (pl, y, (let z : i ≡ 0 + i = omega arith in ap (λ j. place_in g x j) z ∙ p), w))

  abbrev Lease' : EffectPath → code.Lease → Type 0
  Lease' p l = IsLease program s.scope.object s.global s.main s.seen items p l

  -- a cell of a path is one of the object
  small_of : (p : EffectPath) (l : code.Lease) (z : Lease' p l) (v ch : ℤ) (n : ℕ) → LiesUnderPath program items v ch p n → n < z.named.cells
  small_of p l z v ch n h = let lt = lies_small program items v ch p n h in let le = z.enough in omega (arith, lt, le)

  -- a cell that is lent is of an object
  lent_stands : (l : code.Lease) → Among l cs.leases → (j i a : ℕ) → LiesIn cs q frames l j i a → (pl : Address) × (y : Right) × (g.what a ≡ StandsFor y pl)
  lent_stands l amid j i a (base, at_, (o, r, h, lt, e)) =
      let (path, z) = are.inside l amid in
      let m = z.named in
      let (address, is, cell) = addressed (VariableOf path.object) m z.here z.direct in
      let (b, at', e') = framed f m.place.level m.place.cell address is in
      let same : base ≡ b = some_same base b (sym at_ ∙ ap (λ k. frame_at frames k) z.frame ∙ at') in
      let (o', h', e'') = steps_down (q.first +ℤ pos i) (chunk_at cs.kind q j) l.steps base l.base o h in
      let (n, here', under) = z.under (q.first +ℤ pos i) (chunk_at cs.kind q j) (o' + r) (o', r, h', lt, refl) in
      let small = small_of path l z (q.first +ℤ pos i) (chunk_at cs.kind q j) n under in
      let (pl, y, p, w) = cell n small in
      let at_cell : address + n ≡ a = omega (arith, e, e', e'', here', same) in
      (pl, y, ap g.what (sym at_cell) ∙ w)

  module _ (shares : List Share) (owner : ℕ → Option ℕ) (owns : Owns cs q frames shares owner) where
    owned_stands : (a n : ℕ) → owner a ≡ Some n → (pl : Address) × (y : Right) × (g.what a ≡ StandsFor y pl)
    owned_stands a n e = let (j, among, num, (i, lo, hi, (l, amid, arm, lies))) = owns.lent a n e in lent_stands l amid j.number i a lies

    none_of : (a : ℕ) (w : What) → g.what a ≡ w → ((pl : Address) (y : Right) → w ≡ StandsFor y pl → ⊥) → owner a ≡ None
    none_of a w e un = go (owner a) refl
      where
        go : (o : Option ℕ) → owner a ≡ o → o ≡ None
        go None is = refl
        go (Some n) is = let (pl, y, h) = owned_stands a n is in absurd (un pl y (sym e ∙ h))

    pub is_apart : Apart g owner
    is_apart = record {
      keeps = λ a v e. none_of a (Keeps v) e (λ pl y z. let h : Keeps v ≡ StandsFor y pl = z in cc);
      shows = λ a v e. none_of a (Shows v) e (λ pl y z. let h : Shows v ≡ StandsFor y pl = z in cc);
    }

    -- ---- a team of its threads

    module _ (t : Team) (k : Construct) (finds : Finds program k items t.site.now (λ i. q.first +ℤ pos i) (λ j. chunk_at cs.kind q j)) (held : InProgram program (Holds k)) (num : site_of k ≡ site) (clean : IsClean program k) (one : OnePlace t) {d : Dyn} (fit : Fit g t.begun d)
        (parted : (c b : Share) → Among c shares → Among b shares → (c.number ≡ b.number → ⊥) → AreApart c b) where
      abbrev value : ℕ → ℤ
      value i = q.first +ℤ pos i

      abbrev chunk : ℕ → ℤ
      chunk j = chunk_at cs.kind q j

      -- a cell under what is accessed, and its place
      record CellAt (x n a : ℕ) : Type 0 where
        pub place : Address
        pub right : Right
        pub here : place_in g (VariableOf x) n ≡ Some place
        pub everywhere : (slot_at g.everywhere (key (VariableOf x))).frame ≡ 1 → within Kept (slot_at g.everywhere (key (VariableOf x))) n ≡ Some place
        pub stands : g.what a ≡ StandsFor right place

      cell_at_of : (x : ℕ) (p : EffectPath) (l : code.Lease) (z : Lease' p l) → p.object ≡ x → (address : ℕ) → IsAt f z.named.place.level z.named.place.cell address → (n : ℕ) → n < z.named.cells
          → ((i : ℕ) → i < z.named.cells → (pl : Address) × (y : Right) × (place_in g (VariableOf x) i ≡ Some pl) × (g.what (address + i) ≡ StandsFor y pl)) → CellAt x n (address + n)
      cell_at_of x p l z of address is n small cell = let (pl, y, p', w) = cell n small in record { place = pl; right = y; here = p'; everywhere = λ e. at_main pl y w (s.main (VariableOf x)) refl e; stands = w }
        where
          at_main : (pl : Address) (y : Right) → g.what (address + n) ≡ StandsFor y pl → (b : Bool) → s.main (VariableOf x) ≡ b → (slot_at g.everywhere (key (VariableOf x))).frame ≡ 1 → within Kept (slot_at g.everywhere (key (VariableOf x))) n ≡ Some pl
          at_main pl y w false e f1 = absurd (kn.outside (VariableOf x) e f1)
          at_main pl y w true e f1 =
              let (m, as_main, there, cells, near) = kn.global (VariableOf x) z.named (subst (λ x. s.main (VariableOf x) ≡ true → s.global (VariableOf x) ≡ Some z.named) of z.everywhere e) in
              let (pl', y', p', w') = cells n small in
              let at_m : address ≡ m = subst (λ (v : Named). IsAt f v.place.level v.place.cell address) as_main is in
              let same : StandsFor y' pl' ≡ StandsFor y pl = sym w' ∙ ap (λ z. g.what (z + n)) (sym at_m) ∙ w in
              p' ∙ ap Some (let h : pl' ≡ pl = (let h' : StandsFor y' pl' ≡ StandsFor y pl = same in cc) in h)

      -- what is accessed in an iteration is lent to its thread
      lease_cell : (j i : ℕ) (x : ℕ) (l : code.Lease) (p : EffectPath) (z : Lease' p l) → p.object ≡ x → (n : ℕ) → LiesUnderPath program items (value i) (chunk j) p n → (c : ℕ) × LiesIn cs q frames l j i c × CellAt x n c
      lease_cell j i x l p z of n lies =
          let (address, is, cell) = addressed (VariableOf x) z.named (subst (λ x. s.scope.object (VariableOf x) ≡ Some z.named) of z.here) z.direct in
          let (b, at', e') = framed f z.named.place.level z.named.place.cell address is in
          let (o, r, up, lt, e) = z.all (value i) (chunk j) n lies in (
            address + n,
            (b, ap (λ k. frame_at frames k) z.frame ∙ at', (b + o, r, steps_up (value i) (chunk j) l.steps b l.base o up, lt, omega (arith, e, e'))),
            cell_at_of x p l z of address is n (small_of p l z (value i) (chunk j) n lies) cell,
          )

      -- a cell of a path that a thread may write, in an iteration of its own
      record Part (c : Share) (x n : ℕ) : Type 0 where
        pub iteration : ℕ
        pub from : c.first ≤ iteration
        pub to : iteration < c.first + c.size
        pub at : ℕ
        pub access : Access
        pub effect : IsThreadEffect program k (arm_of k c.number iteration) at access
        pub writes : access.writes ≡ true
        pub of : access.object ≡ x
        pub under : LiesUnderPath program items (value iteration) (chunk c.number) (path_of access) n

      -- and what is lent to a thread is of such a path
      lent_under : (c : Share) (a : ℕ) → IsLent cs q frames c a → (x : ℕ) × (n : ℕ) × Part c x n × CellAt x n a
      lent_under c a (i, lo, hi, (l, amid, arm, (base, at_, (o, r, h, lt, e)))) =
          let (at, x, effect, writes, z) = are.leased k held num l amid c.number i arm in
          let (address, is, cell) = addressed (VariableOf x.object) z.named z.here z.direct in
          let (b, at', e') = framed f z.named.place.level z.named.place.cell address is in
          let same : base ≡ b = some_same base b (sym at_ ∙ ap (λ k. frame_at frames k) z.frame ∙ at') in
          let (o1, h1, e1) = steps_down (value i) (chunk c.number) l.steps base l.base o h in
          let (n, e2, lies) = z.under (value i) (chunk c.number) (o1 + r) (o1, r, h1, lt, refl) in
          let here : address + n ≡ a = omega (arith, e, e', e1, e2, same) in (
            x.object,
            n,
            record {
              iteration = i;
              from = lo;
              to = hi;
              at = at;
              access = x;
              effect = effect;
              writes = writes;
              of = refl;
              under = lies;
            },
            subst (λ a. CellAt x.object n a) here (cell_at_of x.object (path_of x) l z refl address is n (small_of (path_of x) l z (value i) (chunk c.number) n lies) cell),
          )

      -- the items of a thread are those of the array
      abbrev HasItems : Share → Type 0
      HasItems b = ItemsLie (items_of k) t.site.now b

      -- no other thread touches it
      parts_apart : (c b : Share) → HasItems b → (c.number ≡ b.number → ⊥) → AreApart c b → (writes : Bool) (x n : ℕ) → Part c x n → Under program k t.site.now b writes x n → ⊥
      parts_apart c b its other apart writes x n part (i, lo, hi, (at, y, effect, w, of, under)) = split (clean.disjoint (arm_of k c.number part.iteration) (arm_of k b.number i) (compared k) part.at at part.access y part.effect effect part.writes)
        where
          differ : part.iteration ≡ i → ⊥
          differ same = apart part.iteration part.from part.to (subst (λ z. b.first ≤ z) (sym same) lo) (subst (λ z. z < b.first + b.size) (sym same) hi)

          compared : (k : Construct) → Compared program k (arm_of k c.number part.iteration) (arm_of k b.number i)
          compared (LoopOf site r chunk iteration stmts) = tt
          compared (BlockOf site r most arms) = differ
          compared (ReductionOf site r by chunk iteration value) = tt

          split : (part.access.object ≡ y.object → ⊥) ⊎ SomeDiffer (path part.access.steps) (path y.steps) → ⊥
          split (inl ne) = ne (part.of ∙ sym of)
          split (inr some) = finds.apart c.number b.number part.iteration i other differ part.at at part.access y part.effect effect (part.of ∙ sym of) some n part.under (finds.lies b its i lo hi at y effect n under)

      -- who has a cell that a thread touches is that thread
      only_own : (b : Share) → HasItems b → Among b shares → (writes : Bool) (x : Entity) (n : ℕ) (pl : Address) (a : ℕ) (y : Right) → g.what a ≡ StandsFor y pl → LiesAt t.begun x n pl → IsTouched program k t.site.now b writes x n → (m : ℕ) → owner a ≡ Some m → m ≡ b.number
      only_own b its among_b writes x n pl a y e lies touched m own =
          let (c, among_c, is_c, lent) = owns.lent a m own in
          let (x', n', part, z) = lent_under c a lent in
          let same : z.place ≡ pl = (let h : StandsFor z.right z.place ≡ StandsFor y pl = sym z.stands ∙ e in cc) in
          let (is, at) = one (VariableOf x') x n' n pl (inl (place_fits (VariableOf x') n' fit ∙ z.here ∙ ap Some same)) lies in
          sym is_c ∙ go x touched c among_c (λ v w. subst (λ n. Part c v n) at (subst (λ v. Part c v n') w part)) is (nat_eq c.number b.number) refl
        where
          go : (x : Entity) → IsTouched program k t.site.now b writes x n → (c : Share) → Among c shares → {x' : ℕ} → ((v : ℕ) → x' ≡ v → Part c v n) → VariableOf x' ≡ x → (z : Bool) → nat_eq c.number b.number ≡ z → c.number ≡ b.number
          go x touched c among_c under is true e = eqb-true c.number b.number e
          go (VariableOf v) touched c among_c {x'} under is false e =
              let off_ : c.number ≡ b.number → ⊥ = eqb-false c.number b.number e in
              absurd (parts_apart c b its off_ (parted c b among_c among_b off_) writes v n (under v (let h : ◌≡◌ {A = Entity} (VariableOf x') (VariableOf v) = is in cc)) touched)
          go (ConstantOf v) touched c among_c {x'} under is false e = absurd (let h : ◌≡◌ {A = Entity} (VariableOf x') (ConstantOf v) = is in cc)

      before : (pl : Address) (v : ℤ) → cell_at t.begun pl ≡ Some v → Before t.begun pl
      before (Kept a) v e = slice_get_within t.begun.kept a v e
      before (Stacked a) v e = slice_get_within t.begun.cells a v e

      there : (a : ℕ) (y : Right) (pl : Address) → g.what a ≡ StandsFor y pl → Before t.begun pl
      there a y pl e = let (v, cell, bears) = subst (λ w. Rattle.ada_lower.specs.Fits.Right w t.begun (slice_get d.cells a)) e (fit.cells a) in before pl v cell

      -- an object that has a place may be there
      may_be : (x n : ℕ) (pl : Address) → LiesAt t.begun (VariableOf x) n pl → MayBe program s.scope.object s.global s.main s.seen items x
      may_be x n pl (inl h) = go (s.seen (VariableOf x)) refl
        where
          go : (z : Bool) → s.seen (VariableOf x) ≡ z → MayBe program s.scope.object s.global s.main s.seen items x
          go true e = inl e
          go false e = absurd (no_place (sym (kn.hidden (VariableOf x) n e) ∙ sym (place_fits (VariableOf x) n fit) ∙ h))
      may_be x n pl (inr h) = go (s.main (VariableOf x)) refl
        where
          go : (z : Bool) → s.main (VariableOf x) ≡ z → MayBe program s.scope.object s.global s.main s.seen items x
          go true e = inr e
          go false e = absurd (kn.outside (VariableOf x) e (subst (λ es. (slot_at es (key (VariableOf x))).frame ≡ 1) fit.everywhere h.0))

      -- a write is of an own cell
      own_write : (b : Share) → HasItems b → Among b shares → (x n : ℕ) (pl : Address) (a : ℕ) (y : Right) → g.what a ≡ StandsFor y pl → LiesAt t.begun (VariableOf x) n pl → Under program k t.site.now b true x n → owner a ≡ Some b.number
      own_write b its among_b x n pl a y e lies (i, lo, hi, (at, u, effect, writes, obj, under)) =
          let led = finds.lies b its i lo hi at u effect n under in
          let may : MayBe program s.scope.object s.global s.main s.seen items u.object = subst (λ x. MayBe program s.scope.object s.global s.main s.seen items x) (sym obj) (may_be x n pl lies) in
          let (l, amid, arm, z) = are.granted k held num b.number i at u effect writes may (value i) (chunk b.number) n led in
          let (c, lies_in, cell) = lease_cell b.number i u.object l (path_of u) z refl n led in
          let place_is : cell.place ≡ pl = ends (subst (λ v. LiesAt t.begun (VariableOf v) n pl) (sym obj) lies) cell in
          let same : c ≡ a = kn.one c a cell.right y pl (cell.stands ∙ ap (λ p. StandsFor cell.right p) place_is) e in
          let lent : IsLent cs q frames b a = (i, lo, hi, (l, amid, arm, subst (λ a. LiesIn cs q frames l b.number i a) same lies_in)) in
          go lent (owner a) refl
        where
          ends : {x c : ℕ} → LiesAt t.begun (VariableOf x) n pl → (cell : CellAt x n c) → cell.place ≡ pl
          ends {x} (inl h) cell = some_same cell.place pl (sym cell.here ∙ sym (place_fits (VariableOf x) n fit) ∙ h)
          ends {x} (inr (f1, h)) cell =
              let f1' : (slot_at g.everywhere (key (VariableOf x))).frame ≡ 1 = subst (λ es. (slot_at es (key (VariableOf x))).frame ≡ 1) fit.everywhere f1 in
              let h' : within Kept (slot_at g.everywhere (key (VariableOf x))) n ≡ Some pl = subst (λ es. within Kept (slot_at es (key (VariableOf x))) n ≡ Some pl) fit.everywhere h in
              some_same cell.place pl (sym (cell.everywhere f1') ∙ h')

          go : IsLent cs q frames b a → (o : Option ℕ) → owner a ≡ o → o ≡ Some b.number
          go lent None is = absurd (owns.all a b among_b lent is)
          go lent (Some m) is = ap Some (only_own b its among_b true (VariableOf x) n pl a y e lies (i, lo, hi, (at, u, effect, writes, obj, under)) m is)

      touch_fits : (b : Share) → HasItems b → Among b shares → (w : Touch) → (Before t.begun w.place → (x : Entity) × (n : ℕ) × LiesAt t.begun x n w.place × IsTouched program k t.site.now b w.writes x n) → TouchFits g owner b.number w
      touch_fits b its among_b w covered a y e = let (x, n, lies, touched) = covered (there a y w.place e) in ((λ wr. go n x lies touched wr), (λ rd l own. only_own b its among_b w.writes x n w.place a y e lies touched l own))
        where
          go : (n : ℕ) (x : Entity) → LiesAt t.begun x n w.place → IsTouched program k t.site.now b w.writes x n → w.writes ≡ true → owner a ≡ Some b.number
          go n (VariableOf x) lies touched wr = own_write b its among_b x n w.place a y e lies (subst (λ z. Under program k t.site.now b z x n) wr touched)
          go n (ConstantOf x) lies touched wr = absurd (true≢false (sym wr ∙ touched))

      touches_fit : (b : Share) → HasItems b → Among b shares → (ws : List Touch) → AllTouchesCovered program k t b ws → TouchesFit g owner b.number ws
      touches_fit b its among_b [] c = tt
      touches_fit b its among_b (w ∷ ws) c = (touch_fits b its among_b w c.0, touches_fit b its among_b ws c.1)

      pub thread_fits : (bs : List Thread) → AllThreadsCovered program k t bs → (b : Thread) → IsAmong b bs → Among b.share shares → TouchesFit g owner b.share.number b.touches
      thread_fits [] c b amid among_b = absurd amid
      thread_fits (e ∷ bs) c b (inl is) among_b = touches_fit b.share (subst (λ (z : Thread). HasItems z.share) (sym is) c.1) among_b b.touches (subst (λ (z : Thread). AllTouchesCovered program k t z.share z.touches) (sym is) c.0)
      thread_fits (e ∷ bs) c b (inr amid) among_b = thread_fits bs c.2 b amid among_b

-- the threads of a construct touch no cell that another one is lent
pub lends_by : {limit : ℕ} {cuts : ℕ → ℕ → List ℕ} {f : Fixed} {g : Ghost} {s : Sight} {env : Env} → Knows limit cuts g f s env → (program : Program) → f.asked ≡ Some program → (items : Bool) (site : ℕ) (cs : CodeSite) → AreLeased program s.scope.object s.global s.main s.seen items site cs → (q : Asked) (team : Site) → team.number ≡ site
    → ((k : Construct) → InProgram program (Holds k) → has_items k ≡ items → IsClean program k → AreDistinct team.now → Finds program k items team.now (λ i. q.first +ℤ pos i) (λ j. chunk_at cs.kind q j))
    → (shares : List Share) → ((c b : Share) → Among c shares → Among b shares → (c.number ≡ b.number → ⊥) → AreApart c b)
    → Lends f g cs q team shares
lends_by {f = f} {g = g} kn program fa items site cs are q team num found shares parted = λ owner owns p is s d fit. (
  is_apart kn program items site cs are q shares owner owns,
  λ t b at_ begun sound amid among_b.
      let same : program ≡ p = some_same program p (sym fa ∙ is) in
      let (clean, one, (k, held, number, distinct, covered)) = subst (λ p. IsSound p t) (sym same) sound in
      let num' : site_of k ≡ site = number ∙ ap (λ (z : Site). z.number) at_ ∙ num in
      let finds = found k held (are.goes k held num') (clean k held) (subst (λ (z : Site). AreDistinct z.now) at_ distinct) in
      thread_fits kn program items site cs are q shares owner owns t k (subst (λ (z : Site). Finds program k items z.now (λ i. q.first +ℤ pos i) (λ j. chunk_at cs.kind q j)) (sym at_) finds) held num' (clean k held) one
      (subst (λ z. Fit g z d) (sym begun) fit) parted t.threads covered b amid among_b,
)
