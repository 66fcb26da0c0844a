-- Cells that are copied.
use Rattle.std.proofs.Common.{◌≡◌, ℕ, suc, ◌+◌, ◌-◌, ◌<◌, ◌≤◌, ℤ, pos, List, [], ◌∷◌, ◌++◌, length, set, slice_get, Some, None, Ok, true, false, refl, sym, ap, ◌∙◌, subst, le_refl, arith, inl, ⊎_elim, append_assoc, append-nil}
use Rattle.behaviours.specs.Paths.{Entity, VariableOf}
use Rattle.typed_tree.specs.declared.scalars.Scalar.{Scalar}
use Rattle.ada_meaning.specs.Operations.{Operations}
use Rattle.ada_meaning.specs.Stored as stored
use Rattle.ada_meaning.specs.Stored.{Stored, Address, Touch, cell_at, place_of, read_at, touched}
use Rattle.ada_meaning.specs.Meaning
use Rattle.stack_code.specs.declared.code.Code.{Code}
use Rattle.stack_code.specs.declared.instr.Instr.TheVariants as i
use Rattle.ada_base.specs.Cells.{Cell, Mine, value_in, where_mine}
use Rattle.stack_code.specs.Deeds.{Deed, GoesOn, loads_all, stores_all}
use Rattle.stack_code.specs.Machine.{State, done, with_value, with_cells}
use Rattle.ada_lower.specs.Driven.{World, Dyn, Fixed, Step, on, state_of, driven, At}
use Rattle.ada_lower.specs.Fits.{Keeps, Access, Ghost, Fit, Ends, Lands, Allows, place_in, Spread, allows, Stands as StandsFor, Asks}
use Rattle.ada_lower.proofs.Framework.{any, To, Doing, comes_here, comes_as, lands_from, allows_split, does_ret, does_bind, asks_split}
use Rattle.ada_lower.proofs.Names.{does_by}
use Rattle.ada_lower.proofs.Memory.{does_write, number_seen, place_fits, cell_seen, bears_value, IsOwn, set_what, fit_set, fit_alike, what_other}
use Rattle.ada_lower.proofs.Parts.{Fewer, allows_fewer}
use Rattle.ada_lower.proofs.Declared.{keeping, laid_out, laid_in, kept_what, among, keep_more}

-- the numbers stand in cells from one on
abbrev pub AreThere : List Cell → ℕ → List ℤ → Type 0
AreThere cells a [] = Unit {0}
AreThere cells a (v ∷ vs) = (value_in (slice_get cells a) ≡ Some v) × AreThere cells (a + 1) vs

module _ (limit : ℕ) (cuts : ℕ → ℕ → List ℕ) (c : Code) (f : Fixed) (x : Ends) where
  abbrev ops : Operations {1}
  ops = stored.noted_operations limit cuts

  -- cells of an object that are read
  pub record AllRead (y : Entity) (o a : ℕ) (ss : List Scalar) (so_far : List ℤ) (s : stored.State) (d : Dyn) : Type 0 where
    pub values : List ℤ
    pub many : length values ≡ length ss
    pub is : (Meaning.read_all ops y o so_far ss).does s ≡ stored.at s (Ok (so_far ++ values))
    pub there : AreThere d.cells a values

  read_one : (y : Entity) (o : ℕ) (p : Address) (v : ℤ) (s : stored.State) (k : ℤ → Stored (List ℤ)) → place_of s y o ≡ Some p → cell_at s p ≡ Some v → (stored.bind (stored.reads y o) k).does s ≡ (k v).does s
  unfolding stored.bind stored.reads
  read_one y o p v s k e e' =
      ap (λ q. let r = read_at s q in stored.next r.state r.end k) e ∙ ap (λ q. let r = stored.value_read s q in stored.next r.state r.end k) e' ∙ same ((k v).does s)
    where
      same : (r : stored.After (List ℤ)) → stored.at r.state r.end ≡ r
      same r = refl

  read_touch : (g : Ghost) (y : Entity) (o : ℕ) (p : Address) (v : ℤ) (s : stored.State) (k : ℤ → Stored (List ℤ)) → place_of s y o ≡ Some p → cell_at s p ≡ Some v → Allows g ((stored.bind (stored.reads y o) k).touches s)
      → Allows g (touched false (Some p)) × Allows g ((k v).touches s)
  unfolding stored.bind stored.reads
  read_touch g y o p v s k e e' al =
      let (t, u) = allows_split limit c f x g (touched false (place_of s y o)) _ al in (
        subst (λ q. Allows g (touched false q)) e t,
        subst (λ q. let r = stored.value_read s q in Allows g (stored.next_touches r.state r.end k)) e' (subst (λ q. let r = read_at s q in Allows g (stored.next_touches r.state r.end k)) e u),
      )

  done_is : (vs : List ℤ) (s : stored.State) → (stored.ret vs).does s ≡ stored.at s (Ok (vs ++ []))
  unfolding stored.ret
  done_is vs s = ap (λ z. stored.at s (Ok z)) (sym (append-nil vs))

  pub all_read : {g : Ghost} (y : Entity) (o a total : ℕ) (ss : List Scalar) (so_far : List ℤ) (s : stored.State) (d : Dyn) → length ss ≤ total → Spread g y o total a → Fit g s d → Allows g ((Meaning.read_all ops y o so_far ss).touches s) → AllRead y o a ss so_far s d
  all_read y o a total [] so_far s d le spread fit al = record { values = []; many = refl; is = done_is so_far s; there = tt }
  all_read {g} y o a total (z ∷ ss) so_far s d le spread fit al =
      let (p, access, here, stands) = spread.cell 0 (omega (arith, le)) in
      let o0 : o + 0 ≡ o = omega arith in
      let a0 : a + 0 ≡ a = omega arith in
      let at : place_of s y o ≡ Some p = place_fits y o fit ∙ ap (place_in g y) (sym o0) ∙ here in
      let (v, cell, bears) = cell_seen g a access p s d fit (ap g.what (sym a0) ∙ stands) in
      let (t, u) = read_touch g y o p v s (λ v. Meaning.read_all ops y (o + 1) (so_far ++ (v ∷ [])) ss) at cell al in
      let may : allows access false ≡ true = t.0 a access (ap g.what (sym a0) ∙ stands) in
      let more = all_read {g = g} y (o + 1) (a + 1) (total - 1) ss (so_far ++ (v ∷ [])) s d (omega (arith, le)) (record { near = (let n = spread.near in omega (arith, n, le)); cell = λ i lt. rest spread i (omega (arith, lt)) }) fit u in
      record {
        values = v ∷ more.values;
        many = ap suc more.many;
        is = read_one y o p v s (λ v. Meaning.read_all ops y (o + 1) (so_far ++ (v ∷ [])) ss) at cell ∙ more.is ∙ ap (λ w. stored.at s (Ok w)) (append_assoc so_far (v ∷ []) more.values);
        there = (bears_value access v (slice_get d.cells a) may bears, more.there);
      }
    where
      rest : Spread g y o total a → (i : ℕ) → suc i < total → (pl : Address) × (access : Access) × (place_in g y (o + 1 + i) ≡ Some pl) × (g.what (a + 1 + i) ≡ StandsFor access pl)
      rest w i lt =
          let (pl, access, here, is) = w.cell (suc i) lt in
          let e : o + 1 + i ≡ o + suc i = omega arith in
          let e' : a + 1 + i ≡ a + suc i = omega arith in
          (pl, access, ap (place_in g y) e ∙ here, ap g.what e' ∙ is)

  -- the machine reads them, and stores them
  pub loads_done : (vs : List ℤ) (a : ℕ) (k : List ℤ → Deed) (s : State) → AreThere s.cells a vs → done limit (loads_all (length vs) (pos a) k) s ≡ done limit (k vs) s
  loads_done [] a k s e = refl
  loads_done (v ∷ vs) a k s (e, more) = ap (λ o. with_value o s (λ v. done limit (loads_all (length vs) (pos (a + 1)) (λ vs. k (v ∷ vs))) s)) e ∙ loads_done vs (a + 1) (λ vs. k (v ∷ vs)) s more

  pub stores_done : {g : Ghost} {t : stored.State} (vs : List ℤ) (b q : ℕ) (st : List ℤ) (deed : Deed) (d : Dyn) → ((k : ℕ) → k < length vs → IsOwn (g.what (b + k))) → Fit g t d
      → (d' : Dyn) × Fit (keeping b vs g) t d' × (done limit (stores_all vs (pos b) deed) (state_of f q st [] None d) ≡ done limit deed (state_of f q st [] None d')) × (d'.world ≡ d.world)
  stores_done [] b q st deed d own fit = (d, fit, refl, refl)
  stores_done {g} {t} (v ∷ vs) b q st deed d own fit =
      let b0 : b + 0 ≡ b = omega arith in
      let own0 : IsOwn (g.what b) = subst (λ n. IsOwn (g.what n)) b0 (own 0 (omega arith)) in
      let (u, mine) = own0 t (slice_get d.cells b) (fit.cells b) in
      let d1 : Dyn = record d { cells = set d.cells b (Mine v) } in
      let (d', fit', is, same) = stores_done {g = set_what b (Keeps v) g} {t = t} vs (b + 1) q st deed d1
      (λ k lt. subst (λ w. IsOwn w) (sym (what_other g b (b + 1 + k) (Keeps v) (λ e. omega (arith, e)))) (let e : b + suc k ≡ b + 1 + k = omega arith in subst (λ n. IsOwn (g.what n)) e (own (suc k) (omega (arith, lt)))))
      (fit_set b v own0 fit) in (
        d',
        fit_alike (keeping b (v ∷ vs) g).what (keep_more b v vs g) fit',
        ap (λ o. with_cells (where_mine o (set d.cells b (Mine v))) (state_of f q st [] None d) (λ s. done limit (stores_all vs (pos (b + 1)) deed) s)) mine ∙ is,
        same,
      )

  -- a copy: the cells are read, and stand where they are stored
  pub does_copy : {B : Type 0} {g j : Ghost} {q : B → Type 0} {goal : B → Dyn → Step} (y : Entity) (o a b total at_ : ℕ) (ss : List Scalar) (n : ℕ) (st : List ℤ) (then : List ℤ → Stored B) → length ss ≡ n → n ≤ total → Spread g y o total a
      → ((k : ℕ) → k < n → IsOwn (g.what (b + k))) → At c at_ (i.Copy n) x.entry
      → ((vs : List ℤ) → length vs ≡ n → Doing limit c f x (keeping b vs g) j q (then vs) (λ d. on f (at_ + 1) st d) goal)
      → Doing limit c f x g j q (stored.bind (Meaning.read_all ops y o [] ss) then) (λ d. on f at_ (pos a ∷ pos b ∷ st) d) goal
  unfolding stored.bind
  does_copy {B} {g} {j} {q} {goal} y o a b total at_ ss n st then len le spread own at k = record {
    by = λ s d fit al.
        let (a1, a2) = asks_split limit c f x g ((Meaning.read_all ops y o [] ss).touches s) _ ((Meaning.read_all ops y o [] ss).visits s) _ al in
        let r = all_read {g = g} y o a total ss [] s d (omega (arith, len, le)) spread fit a1.0 in
        let vs : List ℤ = r.values in
        let many : length vs ≡ n = r.many ∙ len in
        let (d', fit', is, same) = stores_done {g = g} {t = s} vs b at_ (pos a ∷ pos b ∷ st) (GoesOn (at_ + 1) (st ++ f.below)) d (λ i lt. own i (omega (arith, lt, many))) fit in
        let goes : To limit c (on f at_ (pos a ∷ pos b ∷ st) d) (on f (at_ + 1) st d') =
        comes_as limit c f (pos a ∷ pos b ∷ st) d at
        (ap (λ m. driven limit c (done limit (loads_all m (pos a) (λ vs. stores_all vs (pos b) (GoesOn (at_ + 1) (st ++ f.below)))) (state_of f at_ (pos a ∷ pos b ∷ st) [] None d)) d.world) (sym many)
        ∙ ap (λ w. driven limit c w d.world) (loads_done vs a (λ vs. stores_all vs (pos b) (GoesOn (at_ + 1) (st ++ f.below))) (state_of f at_ (pos a ∷ pos b ∷ st) [] None d) r.there)
        ∙ ap (λ w. driven limit c w d.world) is
        ∙ ap (λ w. Rattle.ada_lower.specs.Driven.On (record { state = state_of f (at_ + 1) st [] None d'; world = w })) (sym same)) in
        subst (λ e. let u = stored.next e.state e.end then in Lands limit c f x q j (on f at_ (pos a ∷ pos b ∷ st) d) s.turns goal u.state u.end) (sym r.is)
        (lands_from limit c f x q goal _ _ (goes _) (le_refl s.turns) (λ t d w. w)
        ((k vs many).by s d' fit' (let a3 : Asks f g ((then vs).touches s) ((then vs).visits s) = subst (λ e. Asks f g (stored.next_touches e.state e.end then) (stored.next_visits e.state e.end then)) r.is a2 in (allows_fewer limit c f x g (keeping b vs g) ((then vs).touches s) (fewer_copied b vs g) a3.0, a3.1))));
  }
    where
      fewer_copied : (a : ℕ) (vs : List ℤ) (g : Ghost) → Fewer limit c f x g (keeping a vs g)
      fewer_copied a vs g b y p e = ⊎_elim
          (λ r. let (k, v, z, is) = r in absurd (let q : Keeps v ≡ StandsFor y p = sym (laid_in a 0 kept_what vs g.what k v is) ∙ ap (keeping a vs g).what z ∙ e in cc))
          (λ out. inl (sym (laid_out a 0 kept_what vs g.what b out) ∙ e))
          (among a b vs)

  -- the machine's cells keep the numbers
  pub kept_there : {t : stored.State} {d : Dyn} (g : Ghost) (vs : List ℤ) (b : ℕ) → ((k : ℕ) (v : ℤ) → slice_get vs k ≡ Some v → g.what (b + k) ≡ Keeps v) → Fit g t d → AreThere d.cells b vs
  kept_there g [] b h fit = tt
  kept_there {t} {d} g (v ∷ vs) b h fit =
      let b0 : b + 0 ≡ b = omega arith in (
        number_seen (g.what b) v t (slice_get d.cells b) (inl (subst (λ a. g.what a ≡ Keeps v) b0 (h 0 v refl))) (fit.cells b),
        kept_there g vs (b + 1) (λ k u e. let z : b + suc k ≡ b + 1 + k = omega arith in subst (λ a. g.what a ≡ Keeps u) z (h (suc k) u e)) fit,
      )

  -- what is stored is written
  stored_all : {g : Ghost} (y o a total at_ : ℕ) (vs : List ℤ) (st rest : List ℤ) → length vs ≤ total → Spread g (VariableOf y) o total a
      → ((a b : ℕ) (z w : Access) (pl : Address) → g.what a ≡ StandsFor z pl → g.what b ≡ StandsFor w pl → a ≡ b)
      → Doing limit c f x g g any (Meaning.write_all ops y o vs) (λ d. driven limit c (done limit (stores_all vs (pos a) (GoesOn (at_ + 1) (rest ++ f.below))) (state_of f at_ st [] None d)) d.world) (λ _ d. on f (at_ + 1) rest d)
  stored_all y o a total at_ [] st rest le spread one = does_ret limit c f x {to = λ _ d. on f (at_ + 1) rest d} tt tt
  stored_all {g} y o a total at_ (v ∷ vs) st rest le spread one =
      let (p, access, here, stands) = spread.cell 0 (omega (arith, le)) in
      let o0 : o + 0 ≡ o = omega arith in
      let a0 : a + 0 ≡ a = omega arith in
      let here' : place_in g (VariableOf y) o ≡ Some p = subst (λ o. place_in g (VariableOf y) o ≡ Some p) o0 here in
      let stands' : g.what a ≡ StandsFor access p = subst (λ a. g.what a ≡ StandsFor access p) a0 stands in
      does_bind limit c f x
      (does_write limit c f x y o a v p access here' stands' (λ b z e. one a b access z p stands' e)
      (λ u d mine. subst (λ w. To limit c w (driven limit c (done limit (stores_all vs (pos (a + 1)) (GoesOn (at_ + 1) (rest ++ f.below))) (state_of f at_ st [] None (record d { cells = set d.cells a (Mine v) }))) d.world))
      (sym (ap (λ z. driven limit c (with_cells (where_mine z (set d.cells a (Mine v))) (state_of f at_ st [] None d) (λ s. done limit (stores_all vs (pos (a + 1)) (GoesOn (at_ + 1) (rest ++ f.below))) s)) d.world) mine))
      (comes_here limit c _)))
      (λ _ _. stored_all y (o + 1) (a + 1) (total - 1) at_ vs st rest (omega (arith, le)) (record { near = (let n = spread.near in omega (arith, n, le)); cell = λ i lt. more spread i (omega (arith, lt)) }) one)
    where
      more : Spread g (VariableOf y) o total a → (i : ℕ) → suc i < total → (pl : Address) × (access : Access) × (place_in g (VariableOf y) (o + 1 + i) ≡ Some pl) × (g.what (a + 1 + i) ≡ StandsFor access pl)
      more w i lt =
          let (pl, access, here, is) = w.cell (suc i) lt in
          let e : o + 1 + i ≡ o + suc i = omega arith in
          let e' : a + 1 + i ≡ a + suc i = omega arith in
          (pl, access, ap (place_in g (VariableOf y)) e ∙ here, ap g.what e' ∙ is)

  -- a copy to the cells of an object, of numbers that are kept
  pub does_copy_to : {g : Ghost} (y o a b total at_ : ℕ) (vs : List ℤ) (n : ℕ) (st : List ℤ) → length vs ≡ n → n ≤ total → Spread g (VariableOf y) o total a
      → ((a b : ℕ) (z w : Access) (pl : Address) → g.what a ≡ StandsFor z pl → g.what b ≡ StandsFor w pl → a ≡ b)
      → ((k : ℕ) (v : ℤ) → slice_get vs k ≡ Some v → g.what (b + k) ≡ Keeps v) → At c at_ (i.Copy n) x.entry
      → Doing limit c f x g g any (Meaning.write_all ops y o vs) (λ d. on f at_ (pos b ∷ pos a ∷ st) d) (λ _ d. on f (at_ + 1) st d)
  does_copy_to {g} y o a b total at_ vs n st len le spread one kept at =
      does_by limit c f x
      (λ t d fit. comes_as limit c f (pos b ∷ pos a ∷ st) d at
      (ap (λ m. driven limit c (done limit (loads_all m (pos b) (λ vs. stores_all vs (pos a) (GoesOn (at_ + 1) (st ++ f.below)))) (state_of f at_ (pos b ∷ pos a ∷ st) [] None d)) d.world) (sym len)
      ∙ ap (λ w. driven limit c w d.world) (loads_done vs b (λ vs. stores_all vs (pos a) (GoesOn (at_ + 1) (st ++ f.below))) (state_of f at_ (pos b ∷ pos a ∷ st) [] None d) (kept_there {t = t} {d = d} g vs b kept fit))))
      (stored_all y o a total at_ vs (pos b ∷ pos a ∷ st) st (omega (arith, len, le)) spread one)
