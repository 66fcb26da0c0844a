-- Actual parameters of procedures go to the cells of their formals, and are copied back from there.
use Rattle.std.proofs.Common.{◌≡◌, ℕ, ◌+◌, ◌-◌, ◌<◌, ◌≤◌, ℤ, pos, List, [], ◌∷◌, ◌++◌, length, set, slice_get, Option, Some, None, Bool, true, false, refl, sym, ap, ◌∙◌, subst, le_refl, arith, inl, inr, append_assoc, append-nil}
use Rattle.behaviours.specs.Paths.{Entity, VariableOf, ConstantOf}
use Rattle.typed_tree.specs.declared.scalars.Scalar.{Scalar}
use Rattle.typed_tree.specs.declared.scalars.Check.{Check}
use Rattle.typed_tree.specs.declared.expressions.Root.{Root}
use Rattle.typed_tree.specs.Syntax.{Expr, Actuals, NoActual, In, InOut, Out, CompositeInOut, CompositeOut, Selections, Program}
use Rattle.ada_meaning.specs.Values
use Rattle.ada_meaning.specs.Operations.{RangeCheck, Operations}
use Rattle.ada_meaning.specs.Stored as stored
use Rattle.ada_meaning.specs.Stored.{Stored, Address}
use Rattle.ada_meaning.specs.Meaning
use Rattle.ada_meaning.specs.Meaning.{Env, ObjectPart, Back, Passed, Returned, variable_root}
use Rattle.stack_code.specs.declared.code.Code.{Code}
use Rattle.stack_code.specs.declared.instr.Instr.{Instr}
use Rattle.stack_code.specs.declared.instr.Instr.TheVariants as i
use Rattle.ada_base.specs.Cells.{Cell, Mine, where_mine}
use Rattle.stack_code.specs.Deeds.{GoesOn, Stores, deed_of}
use Rattle.stack_code.specs.Machine.{done, with_cells}
use Rattle.ada_lower.specs.Driven.{Dyn, Fixed, Step, on, state_of, driven, At}
use Rattle.ada_lower.specs.Sights.{Emit, Named, Sight, Stands, one, own, root_of, ◌⨟◌}
use Rattle.ada_lower.specs.Emission
use Rattle.ada_lower.specs.Emission.{selected}
use Rattle.ada_lower.specs.Fits.{What, Free, Keeps, Access, Ghost, Ends, Spread, Refers, Knows, Stands as StandsFor, Fit}
use Rattle.ada_lower.specs.Fitted.{Spot, spot, Reached, FittedSelections, FittedActuals}
use Rattle.ada_lower.proofs.Framework.{any, To, Doing, comes_as, comes_goes, does_ret, does_bind, does_seq, does_before, does_returned, does_assoc}
use Rattle.ada_lower.proofs.Memory.{does_read, does_write, own_free, Extends, leads_more}
use Rattle.ada_lower.proofs.Standing.{stands_seq}
use Rattle.ada_lower.proofs.Parts.{Runs, does_keep, does_check, does_set}
use Rattle.ada_lower.proofs.Names.{root_refers, does_by, comes_number, comes_loads}
use Rattle.ada_lower.proofs.Declared.{keeping, laid_what, knows_kept, laid_out, laid_in, kept_what, length_in}
use Rattle.ada_lower.proofs.Blocks.{fit_unkept}
use Rattle.ada_lower.proofs.Copies.{does_copy, does_copy_to}
use Rattle.ada_lower.proofs.Inner.{InnerDo}
use Rattle.ada_lower.proofs.Scattered.{IsClear, scattered, scattering, scattered_off}
use Rattle.ada_lower.proofs.Passing.{Passing, Placing, passing_more, placing}
use Rattle.ada_lower.proofs.Sent.{Sent, HaveCells, IsSuited, sent_in, suits_in, all_passed, pieces, backs, Backs, BackAt, AreSuited, backs_clear, back_most}
use Rattle.ada_lower.proofs.Expressions.{at_entry, selected_does, address_stands, named_does}
use Rattle.ada_lower.proofs.Expressions.{value_into, spread_part}

-- one that is copied back
abbrev pub sent_back : ℕ → ℕ → ObjectPart → ℕ → List ℤ → List Scalar → Option Check → Sent
sent_back formal i p a cs ss o = record { passed = record { formal = VariableOf formal; cells = cs; back = Some (record { part = p; cells = ss; check = o }) }; ahead = pos a ∷ []; at = i }

suits_back : (formal n i : ℕ) (p : ObjectPart) (a : ℕ) (cs : List ℤ) (ss : List Scalar) (o : Option Check) → length cs ≡ n → length ss ≡ n → IsSuited (spot (VariableOf formal) true n i) (sent_back formal i p a cs ss o)
suits_back formal n i p a cs ss o len many = record { place = refl; formal = refl; ahead = refl; cells = len; back = (refl, many) }

-- each is copied back to cells whose address stands ahead of it
abbrev pub AreTargets : Program → (sub w : ℕ) → Ghost → Actuals → List Sent → Type 0
AreTargets program sub w g NoActual ps = ps ≡ []
AreTargets program sub w g (In formal value rest) ps = (i : ℕ) × (cs : List ℤ) × (qs : List Sent) × (ps ≡ sent_in formal i cs ∷ qs) × AreTargets program sub w g rest qs
AreTargets program sub w g (InOut formal at r selections inner outer rest) ps =
    (i : ℕ) × (p : ObjectPart) × (a : ℕ) × (v : ℤ) × (qs : List Sent) × (ps ≡ sent_back formal i p a (v ∷ []) (inner ∷ []) (Some (record { at = at; scalar = outer })) ∷ qs) × (Emission.formal_of program sub w (VariableOf formal) ≡ w + i) × Spread g (VariableOf p.object) p.offset 1 a × AreTargets program sub w g rest qs
AreTargets program sub w g (Out formal at r selections inner outer rest) ps =
    (i : ℕ) × (p : ObjectPart) × (a : ℕ) × (v : ℤ) × (qs : List Sent) × (ps ≡ sent_back formal i p a (v ∷ []) (inner ∷ []) (Some (record { at = at; scalar = outer })) ∷ qs) × (Emission.formal_of program sub w (VariableOf formal) ≡ w + i) × Spread g (VariableOf p.object) p.offset 1 a × AreTargets program sub w g rest qs
AreTargets program sub w g (CompositeInOut formal at r selections subtype rest) ps =
    (i : ℕ) × (p : ObjectPart) × (a : ℕ) × (cs : List ℤ) × (qs : List Sent) × (ps ≡ sent_back formal i p a cs (Values.layout program.subtypes subtype) None ∷ qs) × (Emission.formal_of program sub w (VariableOf formal) ≡ w + i) × (length cs ≡ Emission.cells_of program subtype) × Spread g (VariableOf p.object) p.offset (Emission.cells_of program subtype) a × AreTargets program sub w g rest qs
AreTargets program sub w g (CompositeOut formal at r selections subtype rest) ps =
    (i : ℕ) × (p : ObjectPart) × (a : ℕ) × (cs : List ℤ) × (qs : List Sent) × (ps ≡ sent_back formal i p a cs (Values.layout program.subtypes subtype) None ∷ qs) × (Emission.formal_of program sub w (VariableOf formal) ≡ w + i) × (length cs ≡ Emission.cells_of program subtype) × Spread g (VariableOf p.object) p.offset (Emission.cells_of program subtype) a × AreTargets program sub w g rest qs

-- ---- ghosts

pub spread_more : {g h : Ghost} {y : Entity} {o n a : ℕ} → Extends g h → Spread g y o n a → Spread h y o n a
spread_more {g} {h} {y} {o} {n} {a} e w = record { near = (let n = w.near in let t = e.top in omega (arith, n, t)); cell = λ i lt. let (p, access, here, is) = w.cell i lt in (p, access, e.place y (o + i) p here, e.solid (a + i) (StandsFor access p) tt is) }

pub targets_more : (program : Program) (sub w : ℕ) {g h : Ghost} (as' : Actuals) (ps : List Sent) → Extends g h → AreTargets program sub w g as' ps → AreTargets program sub w h as' ps
targets_more program sub w NoActual ps e t = t
targets_more program sub w (In formal value rest) ps e (i, cs, qs, is, t) = (i, cs, qs, is, targets_more program sub w rest qs e t)
targets_more program sub w (InOut formal at r selections inner outer rest) ps e (i, p, a, v, qs, is, cell, y, t) = (i, p, a, v, qs, is, cell, spread_more e y, targets_more program sub w rest qs e t)
targets_more program sub w (Out formal at r selections inner outer rest) ps e (i, p, a, v, qs, is, cell, y, t) = (i, p, a, v, qs, is, cell, spread_more e y, targets_more program sub w rest qs e t)
targets_more program sub w (CompositeInOut formal at r selections subtype rest) ps e (i, p, a, cs, qs, is, cell, len, y, t) = (i, p, a, cs, qs, is, cell, len, spread_more e y, targets_more program sub w rest qs e t)
targets_more program sub w (CompositeOut formal at r selections subtype rest) ps e (i, p, a, cs, qs, is, cell, len, y, t) = (i, p, a, cs, qs, is, cell, len, spread_more e y, targets_more program sub w rest qs e t)

module _ (limit : ℕ) (cuts : ℕ → ℕ → List ℕ) (program : Program) (c : Code) (f : Fixed) (x : Ends) (calls : ℕ → ℕ → Stored (Unit {0}) → List Passed → Stored Returned) (globals : ℕ → Entity → Option Named) (mains : Entity → Bool) (epar : Sight → Expr → Type 0) (calls_do : InnerDo limit cuts program globals mains epar c f calls) where
  abbrev ops : Operations {1}
  ops = stored.noted_operations limit cuts

  -- a cell of a formal keeps the number on the stack
  hold : {A : Type 0} {j : Ghost} {q : A → Type 0} {m : Stored A} {to : A → Dyn → Step} (G : Ghost) (w e : ℕ) (at_ : ℕ) (v : ℤ) (st : List ℤ) → G.what (f.base + w + e) ≡ Free → At c at_ (i.StoreL (w + e)) x.entry
      → Doing limit c f x (keeping (f.base + w + e) (v ∷ []) G) j q m (λ d. on f (at_ + 1) st d) to → Doing limit c f x G j q m (λ d. on f at_ (v ∷ st) d) to
  hold {A} {j} {q} {m} {to} G w e at_ v st free at k =
      let there : f.base + w + e ≡ f.base + (w + e) = omega arith in
      does_keep limit c f x at_ (w + e) v st (own_free _ (sym (ap G.what there) ∙ free)) at
      (subst (λ b. Doing limit c f x (keeping b (v ∷ []) G) j q m (λ d. on f (at_ + 1) st d) to) there k)

  -- and it is checked
  set_in : {A : Type 0} {j : Ghost} {q : A → Type 0} {to : A → Dyn → Step} (m : Unit {0} → Stored A) (G : Ghost) (w e at_ token : ℕ) (k : Scalar) (v : ℤ) (st : List ℤ) → ((s : stored.State) (d : Dyn) → Fit G s d → Fit j s d) → G.what (f.base + w + e) ≡ Free → At c at_ (Emission.set_instr k (w + e)) x.entry
      → Doing limit c f x (keeping (f.base + w + e) (v ∷ []) G) j q (m tt) (λ d. on f (at_ + 1) st d) to → Doing limit c f x G j q (stored.bind (stored.checks RangeCheck token (Values.is_in k v)) m) (λ d. on f at_ (v ∷ st) d) to
  set_in {A} {j} {q} {to} m G w e at_ token k v st weak free at go =
      let there : f.base + w + e ≡ f.base + (w + e) = omega arith in
      does_set limit c f x m RangeCheck token at_ (w + e) k v st weak (own_free _ (sym (ap G.what there) ∙ free)) at
      (subst (λ b. Doing limit c f x (keeping b (v ∷ []) G) j q (m tt) (λ d. on f (at_ + 1) st d) to) there go)

  -- a target's name is evaluated, to its address
  part_does : {B : Type 0} {g G : Ghost} {env : Env} {q : B → Type 0} {goal : B → Dyn → Step} {w m : ℕ} {ks : List Spot} (r : Root) (selections : Selections) (from m1 m2 many : ℕ) (s : Sight) (h h1 : ℕ) (st : List ℤ) (then : ObjectPart → Stored B)
      → Knows limit cuts g f s env → Passing limit cuts f env s w m g G ks → s.scope.entry ≡ x.entry → Reached (root_of s.scope r) selections many → FittedSelections program globals mains epar s selections
      → Stands c (Emission.address s.scope h (root_of s.scope r)) from m1 → Stands c (selected program s.scope h1 selections) m1 m2
      → ((p : ObjectPart) (b : ℕ) → Spread g (VariableOf p.object) p.offset many b → Doing limit c f x G g q (then p) (λ d. on f m2 (pos b ∷ st) d) goal)
      → Doing limit c f x G g q (stored.bind (Meaning.select ops limit program calls selections env (variable_root r env)) then) (λ d. on f from st d) goal
  part_does {g = g} {env = env} r selections from m1 m2 many s h h1 st then k stage en (n, e, reach) ws l1 l3 go =
      let o : ObjectPart = variable_root r env in
      let u : Refers g f n (VariableOf o.object) o.offset = root_refers r n k e in
      let (j1, z1) = address_stands limit cuts program c f x calls globals mains epar calls_do s h (root_of s.scope r) n from m1 e l1 in
      does_seq limit c f x stage.weak (λ ts al. al)
      (named_does limit cuts program c f x calls globals mains epar calls_do from m1 n (VariableOf o.object) o.offset st (record { address = u.address; leads = leads_more n.through f n.place u.address stage.ext u.leads; spread = spread_more stage.ext u.spread }) j1 z1
      (selected_does limit cuts program c f x calls globals mains epar calls_do selections m1 m2 s h1 st o u.address o.offset n.cells n.cells many stage.knows en ws reach (le_refl o.offset) (le_refl (o.offset + n.cells)) (let n' = u.spread.near in let t = stage.ext.top in omega (arith, n', t)) l3))
      (λ p is. go p (u.address + (p.offset - o.offset)) (spread_part limit cuts program c f x calls globals mains epar u.spread (ap (λ y. VariableOf y) is.0) is.1 is.2))

  -- its one cell is read
  one_read : {g : Ghost} {at_ : ℕ} (y : Entity) (o a : ℕ) (st : List ℤ) → Spread g y o 1 a → At c at_ i.Load x.entry → Runs limit c f x g any (stored.reads y o) (λ d. on f at_ (pos a ∷ st) d) (λ v d. on f (at_ + 1) (v ∷ st) d)
  one_read {g} {at_} y o a st w at =
      let (p, access, here, stands) = w.cell 0 (omega arith) in
      let o0 : o + 0 ≡ o = omega arith in
      let a0 : a + 0 ≡ a = omega arith in
      does_read limit c f x y o a p access (subst (λ o. Rattle.ada_lower.specs.Fits.place_in g y o ≡ Some p) o0 here) (subst (λ a. g.what a ≡ StandsFor access p) a0 stands)
      (λ v d z. comes_loads limit c f a v (pos a ∷ st) st d at refl z)

  -- one more is there
  closing : {B : Type 0} {g G : Ghost} {q : B → Type 0} {goal : B → Dyn → Step} {to : ℕ} (st : List ℤ) (then : List Passed → Stored B) (so_far : List Passed) (p : Sent) (ps : List Sent)
      → Doing limit c f x G g q (then (so_far ++ all_passed (p ∷ ps))) (λ d. on f to st d) goal → Doing limit c f x G g q (then ((so_far ++ (p.passed ∷ [])) ++ all_passed ps)) (λ d. on f to st d) goal
  closing {g = g} {G = G} {q = q} {goal = goal} {to = to} st then so_far p ps k =
      subst (λ us. Doing limit c f x G g q (then us) (λ d. on f to st d) goal) (sym (append_assoc so_far (p.passed ∷ []) (all_passed ps))) k

  -- the address of a target, and the cells behind it
  module _ {env : Env} {s : Sight} {w m : ℕ} {g G : Ghost} {zs : List Spot} {y : Entity} (many n : ℕ) where
    ahead_free : Placing limit cuts f env s w m g G (spot y true many n) zs → G.what (f.base + w + n) ≡ Free
    ahead_free place = (let z : f.base + w + n ≡ f.base + w + n + 0 = omega arith in ap G.what z) ∙ place.free 0 (omega arith)

    module _ (a : ℕ) where
      keep_ahead : Placing limit cuts f env s w m g G (spot y true many n) zs → Passing limit cuts f env s w m g (keeping (f.base + w + n) (pos a ∷ []) G) zs
      keep_ahead place = passing_more (spot y true many n) n (pos a ∷ []) (le_refl n) (omega arith) place.fits (λ i lt. place.free i (omega (arith, lt))) place.off place.rest

      cells_free : Placing limit cuts f env s w m g G (spot y true many n) zs → (i : ℕ) → i < many → (keeping (f.base + w + n) (pos a ∷ []) G).what (f.base + w + (n + 1) + i) ≡ Free
      cells_free place i lt =
          laid_out (f.base + w + n) 0 kept_what (pos a ∷ []) G.what (f.base + w + (n + 1) + i) (inr (omega arith)) ∙ (let z : f.base + w + (n + 1) + i ≡ f.base + w + n + (1 + i) = omega arith in ap G.what z) ∙ place.free (1 + i) (omega (arith, lt))

      cell_free : Placing limit cuts f env s w m g G (spot y true many n) zs → 0 < many → (keeping (f.base + w + n) (pos a ∷ []) G).what (f.base + w + (n + 1)) ≡ Free
      cell_free place some = (let z : f.base + w + (n + 1) ≡ f.base + w + (n + 1) + 0 = omega arith in ap (keeping (f.base + w + n) (pos a ∷ []) G).what z) ∙ cells_free place 0 some

      keep_cells : (cs : List ℤ) → length cs ≡ many → Placing limit cuts f env s w m g G (spot y true many n) zs → Passing limit cuts f env s w m g (keeping (f.base + w + n) (pos a ∷ []) G) zs
          → Passing limit cuts f env s w m g (keeping (f.base + w + (n + 1)) cs (keeping (f.base + w + n) (pos a ∷ []) G)) zs
      keep_cells cs len place p1 = passing_more (spot y true many n) (n + 1) cs (omega arith) (omega (arith, len)) place.fits (λ i lt. cells_free place i (omega (arith, lt, len))) place.off p1

  pub passed_all : (as' : Actuals) (from to : ℕ) → {B : Type 0} {g G : Ghost} {env : Env} {q : B → Type 0} {goal : B → Dyn → Step} → (s : Sight) (h sub w m : ℕ) (ks : List Spot) (st : List ℤ) (so_far : List Passed) (then : List Passed → Stored B)
      → Knows limit cuts g f s env → Passing limit cuts f env s w m g G ks → s.scope.entry ≡ x.entry → FittedActuals program globals mains epar s sub w ks as'
      → Stands c (Emission.passed program s.scope h sub w as') from to
      → ((ps : List Sent) → AreSuited ks ps → AreTargets program sub w g as' ps → Doing limit c f x (scattering (f.base + w) (pieces ps) G) g q (then (so_far ++ all_passed ps)) (λ d. on f to st d) goal)
      → Doing limit c f x G g q (stored.bind (Meaning.pass ops limit program calls as' env so_far) then) (λ d. on f from st d) goal
  unfolding Rattle.ada_lower.specs.Emission.emit
  passed_all NoActual from to {g = g} {G = G} {q = q} {goal = goal} s h sub w m ks st so_far then k p en e l j =
      does_returned limit c f x then so_far
      (subst (λ p. Doing limit c f x G g q (then so_far) (λ d. on f p st d) goal) l
      (subst (λ ps. Doing limit c f x G g q (then ps) (λ d. on f to st d) goal) (append-nil so_far)
      (j [] e refl)))
  passed_all (In formal value rest) from to {B} {g} {G} {env} {q} {goal} s h sub w m ks st so_far then k p en (n, nv, zs, wo, cell, wv, wr) l j =
      let (m1, l1, l2) = stands_seq c from to (Emission.put_into program s.scope h (Emission.formal_of program sub w (ConstantOf formal)) value) (Emission.passed program s.scope h sub w rest) l in
      let K : Spot = spot (ConstantOf formal) false nv n in
      let place : Placing limit cuts f env s w m g G K zs = placing K zs wo p in
      let fits = place.fits in
      let below = p.below in
      let loose : (i : ℕ) → i < nv → G.what (f.base + (w + n) + i) ≡ Free = (λ i lt. (let y : f.base + (w + n) + i ≡ f.base + w + n + i = omega arith in ap G.what y) ∙ place.free i (omega (arith, lt))) in
      let there : f.base + w + (n + 0) ≡ f.base + (w + n) = omega arith in
      let then' : (List ℤ → Stored B) = (λ cs. stored.bind (Meaning.pass ops limit program calls rest env (so_far ++ (record { formal = ConstantOf formal; cells = cs; back = None } ∷ []))) then) in
      does_assoc limit c f x _ _ then
      (value_into limit cuts program c f x calls globals mains epar calls_do value B G g env q goal s h (w + n) nv st
      (record {
        below = omega (arith, below, fits);
        own = λ i lt. own_free _ (loose i lt);
        knows = p.knows;
        weak = p.weak;
        kept = λ cs clen. knows_kept (w + n) cs (omega (arith, below, fits, clen)) p.room (λ i lt. loose i (omega (arith, lt, clen))) p.knows;
        less = λ cs clen u d z. p.weak u d (fit_unkept (f.base + (w + n)) cs G (λ i lt. loose i (omega (arith, lt, clen))) z);
      }) en from m1 then' wv (subst (λ t. Stands c (Emission.put_into program s.scope h t value) from m1) cell l1) (λ cs clen.
      let p' : Passing limit cuts f env s w m g (keeping (f.base + w + (n + 0)) cs G) zs =
      passing_more K (n + 0) cs (omega arith) (omega (arith, clen)) fits (λ i lt. (let y : f.base + w + (n + 0) + i ≡ f.base + w + n + i = omega arith in ap G.what y) ∙ place.free i (omega (arith, lt, clen))) place.off place.rest in
      subst (λ b. Doing limit c f x (keeping b cs G) g q (then' cs) (λ d. on f m1 st d) goal) there
      (passed_all rest m1 to s h sub w m zs st (so_far ++ (record { formal = ConstantOf formal; cells = cs; back = None } ∷ [])) then k p' en wr l2 (λ ps suited targets.
      closing st then so_far (sent_in formal n cs) ps
      (j (sent_in formal n cs ∷ ps) (K, zs, wo, suits_in formal nv n cs clen, suited) (n, cs, ps, refl, targets))))))
  passed_all (InOut formal at r selections inner outer rest) from to {B} {g} {G} {env} {q} {goal} s h sub w m ks st so_far then k p0 en (n, zs, wo, cell, reach, ws, wr) l j =
      let F : ℕ = Emission.formal_of program sub w (VariableOf formal) in
      let tail : Emit = one s.scope (h + 1) i.Dup ⨟ Emission.keep s.scope (h + 1 + 1) F ⨟ one s.scope (h + 1) i.Load ⨟ Emission.keep_checked s.scope (h + 1) inner (F + 1) in
      let (m0, lx, lr) = stands_seq c from to (Emission.address s.scope h (root_of s.scope r) ⨟ selected program s.scope (h + 1) selections ⨟ tail) (Emission.passed program s.scope h sub w rest) l in
      let (m1, l1, l2) = stands_seq c from m0 (Emission.address s.scope h (root_of s.scope r)) (selected program s.scope (h + 1) selections ⨟ tail) lx in
      let (m2, l3, (jd, (jk, (jl, (jk2, z))))) = stands_seq c m1 m0 (selected program s.scope (h + 1) selections) tail l2 in
      let K : Spot = spot (VariableOf formal) true 1 n in
      let place : Placing limit cuts f env s w m g G K zs = placing K zs wo p0 in
      let cell' : F + 1 ≡ w + (n + 1) = omega (arith, cell) in
      does_assoc limit c f x _ _ then
      (part_does r selections from m1 m2 1 s h (h + 1) st _ k p0 en reach ws l1 l3 (λ p a target.
      let G1 : Ghost = keeping (f.base + w + n) (pos a ∷ []) G in
      let p1 : Passing limit cuts f env s w m g G1 zs = keep_ahead 1 n a place in
      does_before limit c f x (λ d. comes_goes limit c f (pos a ∷ st) (m2 + 1) (pos a ∷ pos a ∷ st) d jd refl)
      (hold G w n (m2 + 1) (pos a) (pos a ∷ st) (ahead_free 1 n place) (subst (λ p. At c (m2 + 1) (i.StoreL p) x.entry) cell (at_entry en jk))
      (does_assoc limit c f x _ _ then
      (does_seq limit c f x p1.weak (λ ts al. al) (one_read (VariableOf p.object) p.offset a st (spread_more p1.ext target) (at_entry en jl)) (λ v _.
      does_assoc limit c f x _ _ then
      (let P : Sent = sent_back formal n p a (v ∷ []) (inner ∷ []) (Some (record { at = at; scalar = outer })) in
      set_in _ G1 w (n + 1) (m2 + 1 + 1 + 1) at inner v st p1.weak (cell_free 1 n a place (omega arith)) (subst (λ p. At c (m2 + 1 + 1 + 1) (Emission.set_instr inner p) x.entry) cell' (at_entry en jk2))
      (subst (λ t. Doing limit c f x (keeping (f.base + w + (n + 1)) (v ∷ []) G1) g q (stored.bind (Meaning.pass ops limit program calls rest env (so_far ++ (P.passed ∷ []))) then) (λ d. on f t st d) goal) z
      (passed_all rest m0 to s h sub w m zs st (so_far ++ (P.passed ∷ [])) then k (keep_cells 1 n a (v ∷ []) refl place p1) en wr lr (λ ps suited targets.
      closing st then so_far P ps
      (j (P ∷ ps) (K, zs, wo, suits_back formal 1 n p a (v ∷ []) (inner ∷ []) (Some (record { at = at; scalar = outer })) refl refl, suited) (n, p, a, v, ps, refl, cell, target, targets))))))))))))
  passed_all (Out formal at r selections inner outer rest) from to {B} {g} {G} {env} {q} {goal} s h sub w m ks st so_far then k p0 en (n, zs, wo, cell, reach, ws, wr) l j =
      let F : ℕ = Emission.formal_of program sub w (VariableOf formal) in
      let tail : Emit = Emission.keep s.scope (h + 1) F ⨟ one s.scope h (i.Push inner.low) ⨟ Emission.keep s.scope (h + 1) (F + 1) in
      let (m0, lx, lr) = stands_seq c from to (Emission.address s.scope h (root_of s.scope r) ⨟ selected program s.scope (h + 1) selections ⨟ tail) (Emission.passed program s.scope h sub w rest) l in
      let (m1, l1, l2) = stands_seq c from m0 (Emission.address s.scope h (root_of s.scope r)) (selected program s.scope (h + 1) selections ⨟ tail) lx in
      let (m2, l3, (jk, (jp, (jk2, z)))) = stands_seq c m1 m0 (selected program s.scope (h + 1) selections) tail l2 in
      let K : Spot = spot (VariableOf formal) true 1 n in
      let place : Placing limit cuts f env s w m g G K zs = placing K zs wo p0 in
      let cell' : F + 1 ≡ w + (n + 1) = omega (arith, cell) in
      does_assoc limit c f x _ _ then
      (part_does r selections from m1 m2 1 s h (h + 1) st _ k p0 en reach ws l1 l3 (λ p a target.
      let G1 : Ghost = keeping (f.base + w + n) (pos a ∷ []) G in
      let p1 : Passing limit cuts f env s w m g G1 zs = keep_ahead 1 n a place in
      let v : ℤ = inner.low in
      let P : Sent = sent_back formal n p a (v ∷ []) (inner ∷ []) (Some (record { at = at; scalar = outer })) in
      hold G w n m2 (pos a) st (ahead_free 1 n place) (subst (λ p. At c m2 (i.StoreL p) x.entry) cell (at_entry en jk))
      (does_before limit c f x (λ d. comes_goes limit c f st (m2 + 1 + 1) (v ∷ st) d jp refl)
      (hold G1 w (n + 1) (m2 + 1 + 1) v st (cell_free 1 n a place (omega arith)) (subst (λ p. At c (m2 + 1 + 1) (i.StoreL p) x.entry) cell' (at_entry en jk2))
      (subst (λ t. Doing limit c f x (keeping (f.base + w + (n + 1)) (v ∷ []) G1) g q (stored.bind (Meaning.pass ops limit program calls rest env (so_far ++ (P.passed ∷ []))) then) (λ d. on f t st d) goal) z
      (passed_all rest m0 to s h sub w m zs st (so_far ++ (P.passed ∷ [])) then k (keep_cells 1 n a (v ∷ []) refl place p1) en wr lr (λ ps suited targets.
      closing st then so_far P ps
      (j (P ∷ ps) (K, zs, wo, suits_back formal 1 n p a (v ∷ []) (inner ∷ []) (Some (record { at = at; scalar = outer })) refl refl, suited) (n, p, a, v, ps, refl, cell, target, targets)))))))))
  passed_all (CompositeInOut formal at r selections subtype rest) from to {B} {g} {G} {env} {q} {goal} s h sub w m ks st so_far then k p0 en (n, zs, wo, cell, reach, ws, wr) l j =
      let many : ℕ = Emission.cells_of program subtype in
      let F : ℕ = Emission.formal_of program sub w (VariableOf formal) in
      let b : ℕ = f.base + (F + 1) in
      let tail : Emit = one s.scope (h + 1 + 1) i.Dup ⨟ Emission.keep s.scope (h + 1 + 1 + 1) F ⨟ one s.scope (h + 1 + 1) (i.Copy many) in
      let (m0, (jo, lx), lr) = stands_seq c from to (one s.scope h (i.Local (F + 1)) ⨟ Emission.address s.scope (h + 1) (root_of s.scope r) ⨟ selected program s.scope (h + 1 + 1) selections ⨟ tail) (Emission.passed program s.scope h sub w rest) l in
      let (m1, l1, l2) = stands_seq c (from + 1) m0 (Emission.address s.scope (h + 1) (root_of s.scope r)) (selected program s.scope (h + 1 + 1) selections ⨟ tail) lx in
      let (m2, l3, (jd, (jk, (jc, z)))) = stands_seq c m1 m0 (selected program s.scope (h + 1 + 1) selections) tail l2 in
      let K : Spot = spot (VariableOf formal) true many n in
      let place : Placing limit cuts f env s w m g G K zs = placing K zs wo p0 in
      let there : f.base + w + (n + 1) ≡ b = omega (arith, cell) in
      does_assoc limit c f x _ _ then
      (does_before limit c f x (λ d. comes_goes limit c f st (from + 1) (pos b ∷ st) d jo refl)
      (part_does r selections (from + 1) m1 m2 many s (h + 1) (h + 1 + 1) (pos b ∷ st) _ k p0 en reach ws l1 l3 (λ p a target.
      let G1 : Ghost = keeping (f.base + w + n) (pos a ∷ []) G in
      let p1 : Passing limit cuts f env s w m g G1 zs = keep_ahead many n a place in
      does_before limit c f x (λ d. comes_goes limit c f (pos a ∷ pos b ∷ st) (m2 + 1) (pos a ∷ pos a ∷ pos b ∷ st) d jd refl)
      (hold G w n (m2 + 1) (pos a) (pos a ∷ pos b ∷ st) (ahead_free many n place) (subst (λ p. At c (m2 + 1) (i.StoreL p) x.entry) cell (at_entry en jk))
      (does_assoc limit c f x _ _ then
      (does_copy limit cuts c f x (VariableOf p.object) p.offset a b many (m2 + 1 + 1) (Values.layout program.subtypes subtype) many st _ refl (le_refl many) (spread_more p1.ext target)
      (λ i lt. own_free _ ((let y : b + i ≡ f.base + w + (n + 1) + i = omega (arith, there) in ap G1.what y) ∙ cells_free many n a place i lt)) (at_entry en jc) (λ cs clen.
      let P : Sent = sent_back formal n p a cs (Values.layout program.subtypes subtype) None in
      subst (λ b. Doing limit c f x (keeping b cs G1) g q (stored.bind (Meaning.pass ops limit program calls rest env (so_far ++ (P.passed ∷ []))) then) (λ d. on f (m2 + 1 + 1 + 1) st d) goal) there
      (subst (λ t. Doing limit c f x (keeping (f.base + w + (n + 1)) cs G1) g q (stored.bind (Meaning.pass ops limit program calls rest env (so_far ++ (P.passed ∷ []))) then) (λ d. on f t st d) goal) z
      (passed_all rest m0 to s h sub w m zs st (so_far ++ (P.passed ∷ [])) then k (keep_cells many n a cs clen place p1) en wr lr (λ ps suited targets.
      closing st then so_far P ps
      (j (P ∷ ps) (K, zs, wo, suits_back formal many n p a cs (Values.layout program.subtypes subtype) None clen refl, suited) (n, p, a, cs, ps, refl, cell, clen, target, targets))))))))))))
  passed_all (CompositeOut formal at r selections subtype rest) from to {B} {g} {G} {env} {q} {goal} s h sub w m ks st so_far then k p0 en (n, zs, wo, cell, reach, ws, wr) l j =
      let many : ℕ = Emission.cells_of program subtype in
      let F : ℕ = Emission.formal_of program sub w (VariableOf formal) in
      let b : ℕ = f.base + (F + 1) in
      let tail : Emit = one s.scope (h + 1 + 1) i.Dup ⨟ Emission.keep s.scope (h + 1 + 1 + 1) F ⨟ one s.scope (h + 1 + 1) (i.Copy many) in
      let (m0, (jo, lx), lr) = stands_seq c from to (one s.scope h (i.Local (F + 1)) ⨟ Emission.address s.scope (h + 1) (root_of s.scope r) ⨟ selected program s.scope (h + 1 + 1) selections ⨟ tail) (Emission.passed program s.scope h sub w rest) l in
      let (m1, l1, l2) = stands_seq c (from + 1) m0 (Emission.address s.scope (h + 1) (root_of s.scope r)) (selected program s.scope (h + 1 + 1) selections ⨟ tail) lx in
      let (m2, l3, (jd, (jk, (jc, z)))) = stands_seq c m1 m0 (selected program s.scope (h + 1 + 1) selections) tail l2 in
      let K : Spot = spot (VariableOf formal) true many n in
      let place : Placing limit cuts f env s w m g G K zs = placing K zs wo p0 in
      let there : f.base + w + (n + 1) ≡ b = omega (arith, cell) in
      does_assoc limit c f x _ _ then
      (does_before limit c f x (λ d. comes_goes limit c f st (from + 1) (pos b ∷ st) d jo refl)
      (part_does r selections (from + 1) m1 m2 many s (h + 1) (h + 1 + 1) (pos b ∷ st) _ k p0 en reach ws l1 l3 (λ p a target.
      let G1 : Ghost = keeping (f.base + w + n) (pos a ∷ []) G in
      let p1 : Passing limit cuts f env s w m g G1 zs = keep_ahead many n a place in
      does_before limit c f x (λ d. comes_goes limit c f (pos a ∷ pos b ∷ st) (m2 + 1) (pos a ∷ pos a ∷ pos b ∷ st) d jd refl)
      (hold G w n (m2 + 1) (pos a) (pos a ∷ pos b ∷ st) (ahead_free many n place) (subst (λ p. At c (m2 + 1) (i.StoreL p) x.entry) cell (at_entry en jk))
      (does_assoc limit c f x _ _ then
      (does_copy limit cuts c f x (VariableOf p.object) p.offset a b many (m2 + 1 + 1) (Values.layout program.subtypes subtype) many st _ refl (le_refl many) (spread_more p1.ext target)
      (λ i lt. own_free _ ((let y : b + i ≡ f.base + w + (n + 1) + i = omega (arith, there) in ap G1.what y) ∙ cells_free many n a place i lt)) (at_entry en jc) (λ cs clen.
      let P : Sent = sent_back formal n p a cs (Values.layout program.subtypes subtype) None in
      subst (λ b. Doing limit c f x (keeping b cs G1) g q (stored.bind (Meaning.pass ops limit program calls rest env (so_far ++ (P.passed ∷ []))) then) (λ d. on f (m2 + 1 + 1 + 1) st d) goal) there
      (subst (λ t. Doing limit c f x (keeping (f.base + w + (n + 1)) cs G1) g q (stored.bind (Meaning.pass ops limit program calls rest env (so_far ++ (P.passed ∷ []))) then) (λ d. on f t st d) goal) z
      (passed_all rest m0 to s h sub w m zs st (so_far ++ (P.passed ∷ [])) then k (keep_cells many n a cs clen place p1) en wr lr (λ ps suited targets.
      closing st then so_far P ps
      (j (P ∷ ps) (K, zs, wo, suits_back formal many n p a cs (Values.layout program.subtypes subtype) None clen refl, suited) (n, p, a, cs, ps, refl, cell, clen, target, targets))))))))))))

-- ---- copying back

abbrev pub BackLen : Option Back → ℕ → List ℤ → Type 0
BackLen None n vs = Unit {0}
BackLen (Some b) n vs = length vs ≡ n

-- the addresses of targets, and what is copied to them, are kept
abbrev pub AreKept : Ghost → ℕ → List Sent → List (List ℤ) → Type 0
AreKept G a [] vss = Unit {0}
AreKept G a (p ∷ ps) [] = ⊥
AreKept G a (p ∷ ps) (vs ∷ vss) = ((k : ℕ) (v : ℤ) → slice_get p.ahead k ≡ Some v → G.what (a + (p.at + k)) ≡ Keeps v) × ((k : ℕ) (v : ℤ) → slice_get vs k ≡ Some v → G.what (a + (p.at + (length p.ahead + k))) ≡ Keeps v)
    × BackLen p.passed.back (length p.passed.cells) vs × AreKept G a ps vss

pub kept_backs : (G : Ghost) (cells : List Cell) (a m : ℕ) (ps : List Sent) (vss : List (List ℤ)) (w : ℕ → What) → ((b : ℕ) → G.what b ≡ scattered a (backs ps vss) w b) → HaveCells m ps → Backs a ps vss cells → AreKept G a ps vss
kept_backs G cells a m [] vss w e have bs = tt
kept_backs G cells a m (p ∷ ps) [] w e have bs = absurd bs
kept_backs G cells a m (p ∷ ps) (vs ∷ vss) w e (fits, off, have) (here, bs) =
    let n : ℕ = length p.ahead + length p.passed.cells in
    let a1 : ℕ = a + p.at in
    let a2 : ℕ = a + (p.at + length p.ahead) in
    let w1 : (ℕ → What) = laid_what a1 0 kept_what p.ahead w in
    let w2 : (ℕ → What) = laid_what a2 0 kept_what vs w1 in
    let off' : IsClear p.at n (backs ps vss) = backs_clear p.at n a ps vss cells bs off in
    let most : length vs ≤ length p.passed.cells = back_most p.passed.back (length p.passed.cells) a2 vs cells here in (
      λ k v is.
          let lt : k < length p.ahead = length_in p.ahead k v is in
          let z : a + (p.at + k) ≡ a1 + k = omega arith in
          e (a + (p.at + k)) ∙ scattered_off a p.at n k (backs ps vss) w2 off' (omega (arith, lt)) ∙ laid_out a2 0 kept_what vs w1 (a + (p.at + k)) (inl (omega (arith, lt))) ∙ ap w1 z ∙ laid_in a1 0 kept_what p.ahead w k v is,
      λ k v is.
          let lt : k < length vs = length_in vs k v is in
          let z : a + (p.at + (length p.ahead + k)) ≡ a2 + k = omega arith in
          e (a + (p.at + (length p.ahead + k))) ∙ scattered_off a p.at n (length p.ahead + k) (backs ps vss) w2 off' (omega (arith, lt, most)) ∙ ap w2 z ∙ laid_in a2 0 kept_what vs w1 k v is,
      len p.passed.back (length p.passed.cells) a2 vs cells here,
      kept_backs G cells a m ps vss w2 e have bs,
    )
  where
    len : (o : Option Back) (n a : ℕ) (vs : List ℤ) (cells : List Cell) → BackAt o n a vs cells → BackLen o n vs
    len None n a vs cells e = tt
    len (Some b) n a vs cells (e, t) = e

module _ (limit : ℕ) (cuts : ℕ → ℕ → List ℕ) (program : Program) (c : Code) (f : Fixed) (x : Ends) (calls : ℕ → ℕ → Stored (Unit {0}) → List Passed → Stored Returned) (globals : ℕ → Entity → Option Named) (mains : Entity → Bool) (epar : Sight → Expr → Type 0) where
  abbrev ops' : Operations {1}
  ops' = stored.noted_operations limit cuts

  stores : {q : ℕ} {j : Instr} {e : Option ℕ} (a : ℕ) (v u : ℤ) (st rest : List ℤ) (d : Dyn) → At c q j e → deed_of c q (st ++ f.below) f.base f.outward j ≡ Stores (pos a) v (GoesOn (q + 1) (rest ++ f.below)) → slice_get d.cells a ≡ Some (Mine u)
      → To limit c (on f q st d) (on f (q + 1) rest (record d { cells = set d.cells a (Mine v) }))
  stores {q} a v u st rest d at is z =
      comes_as limit c f st d at
      (ap (λ w. driven limit c (done limit w (state_of f q st [] None d)) d.world) is
      ∙ ap (λ o. driven limit c (with_cells (where_mine o (set d.cells a (Mine v))) (state_of f q st [] None d) (λ s. done limit (GoesOn (q + 1) (rest ++ f.below)) s)) d.world) z)

  abbrev Unique : Ghost → Type 0
  Unique G = (a b : ℕ) (z w : Access) (pl : Address) → G.what a ≡ StandsFor z pl → G.what b ≡ StandsFor w pl → a ≡ b

  abbrev Copies : Ghost → Option Back → List ℤ → ℕ → ℕ → Type 0
  Copies G o vs from to = Runs limit c f x G any (Meaning.copied_back ops' limit program calls o vs) (λ d. on f from [] d) (λ _ d. on f to [] d)

  scalar_back : (G : Ghost) (s : Sight) (F from to b : ℕ) (p : ObjectPart) (ss : List Scalar) (k : Check) (vs : List ℤ) → s.scope.entry ≡ x.entry → length vs ≡ 1 → Unique G → Spread G (VariableOf p.object) p.offset 1 b → G.what (f.base + F) ≡ Keeps (pos b)
      → ((i : ℕ) (v : ℤ) → slice_get vs i ≡ Some v → G.what (f.base + (F + 1) + i) ≡ Keeps v)
      → Stands c (one s.scope 0 (i.LoadL F) ⨟ one s.scope 1 (i.LoadL (F + 1)) ⨟ Emission.checked s.scope 2 k.scalar ⨟ one s.scope 2 i.Store) from to
      → Copies G (Some (record { part = p; cells = ss; check = Some k })) vs from to
  scalar_back G s F from to b p ss k [] en len one' w addr val l = absurd (omega (arith, len))
  scalar_back G s F from to b p ss k (v ∷ u ∷ vs) en len one' w addr val l = absurd (omega (arith, len))
  scalar_back G s F from to b p ss k (v ∷ []) en len one' w addr val (j1, (j2, (j3, (j4, z)))) =
      let (pl, access, here, stands) = w.cell 0 (omega arith) in
      let o0 : p.offset + 0 ≡ p.offset = omega arith in
      let b0 : b + 0 ≡ b = omega arith in
      let here' : Rattle.ada_lower.specs.Fits.place_in G (VariableOf p.object) p.offset ≡ Some pl = subst (λ o. Rattle.ada_lower.specs.Fits.place_in G (VariableOf p.object) o ≡ Some pl) o0 here in
      let stands' : G.what b ≡ StandsFor access pl = subst (λ a. G.what a ≡ StandsFor access pl) b0 stands in
      let v0 : f.base + (F + 1) + 0 ≡ f.base + (F + 1) = omega arith in
      let val' : G.what (f.base + (F + 1)) ≡ Keeps v = subst (λ a. G.what a ≡ Keeps v) v0 (val 0 v refl) in
      does_by limit c f x (λ t d fit. comes_number limit c f (own F) (pos b) [] d fit (f.base + F, refl, inl addr) j1)
      (does_by limit c f x (λ t d fit. comes_number limit c f (own (F + 1)) v (pos b ∷ []) d fit (f.base + (F + 1), refl, inl val') j2)
      (does_bind limit c f x (does_check limit c f x RangeCheck k.at k.scalar v (Values.is_in k.scalar v) (pos b ∷ []) refl (at_entry en j3)) (λ _ _.
      does_bind limit c f x
      (does_write limit c f x p.object p.offset b v pl access here' stands' (λ a' z' e. one' b a' access z' pl stands' e)
      (λ u d mine. subst (λ q. To limit c (on f (from + 1 + 1 + 1) (v ∷ pos b ∷ []) d) (on f q [] (record d { cells = set d.cells b (Mine v) }))) (sym z)
      (stores b v u (v ∷ pos b ∷ []) [] d j4 refl mine)))
      (λ _ _. does_ret limit c f x {to = λ _ d. on f to [] d} tt tt))))

  whole_back : (G : Ghost) (s : Sight) (F from to b n : ℕ) (p : ObjectPart) (ss : List Scalar) (vs : List ℤ) → s.scope.entry ≡ x.entry → length vs ≡ n → Unique G → Spread G (VariableOf p.object) p.offset n b → G.what (f.base + F) ≡ Keeps (pos b)
      → ((i : ℕ) (v : ℤ) → slice_get vs i ≡ Some v → G.what (f.base + (F + 1) + i) ≡ Keeps v)
      → Stands c (one s.scope 0 (i.LoadL F) ⨟ one s.scope 1 (i.Local (F + 1)) ⨟ one s.scope 2 (i.Copy n)) from to
      → Copies G (Some (record { part = p; cells = ss; check = None })) vs from to
  whole_back G s F from to b n p ss vs en len one' w addr val (j1, (j2, (j3, z))) =
      does_returned limit c f x (λ _. Meaning.write_all ops' p.object p.offset vs) (tt {0})
      (does_by limit c f x (λ t d fit. comes_number limit c f (own F) (pos b) [] d fit (f.base + F, refl, inl addr) j1)
      (does_before limit c f x (λ d. comes_goes limit c f (pos b ∷ []) (from + 1 + 1) (pos (f.base + (F + 1)) ∷ pos b ∷ []) d j2 refl)
      (subst (λ q. Runs limit c f x G any (Meaning.write_all ops' p.object p.offset vs) (λ d. on f (from + 1 + 1) (pos (f.base + (F + 1)) ∷ pos b ∷ []) d) (λ _ d. on f q [] d)) (sym z)
      (does_copy_to limit cuts c f x p.object p.offset b (f.base + (F + 1)) n (from + 1 + 1) vs n [] len (le_refl n) w one' val (at_entry en j3)))))

  abbrev AllCopied : Ghost → List Sent → List (List ℤ) → ℕ → ℕ → Type 0
  AllCopied G ps vss from to = Runs limit c f x G any (Meaning.all_copied_back ops' limit program calls (all_passed ps) vss) (λ d. on f from [] d) (λ _ d. on f to [] d)

  step : (G : Ghost) (a : ℕ) (p : Sent) (ps : List Sent) (vss : List (List ℤ)) (from m to : ℕ) → AreKept G a (p ∷ ps) vss
      → ((vs : List ℤ) → ((k : ℕ) (v : ℤ) → slice_get p.ahead k ≡ Some v → G.what (a + (p.at + k)) ≡ Keeps v) → ((k : ℕ) (v : ℤ) → slice_get vs k ≡ Some v → G.what (a + (p.at + (length p.ahead + k))) ≡ Keeps v) → BackLen p.passed.back (length p.passed.cells) vs → Copies G p.passed.back vs from m)
      → ((vss : List (List ℤ)) → AreKept G a ps vss → AllCopied G ps vss m to)
      → AllCopied G (p ∷ ps) vss from to
  step G a p ps [] from m to kept h t = absurd kept
  step G a p ps (vs ∷ vss) from m to (k1, k2, k3, k4) h t = does_bind limit c f x (h vs k1 k2 k3) (λ _ _. t vss k4)

  -- in the order of the text
  pub back_all : (as' : Actuals) (from to : ℕ) (s : Sight) (sub w : ℕ) (ps : List Sent) (vss : List (List ℤ)) (G : Ghost) → s.scope.entry ≡ x.entry → AreTargets program sub w G as' ps → Unique G → AreKept G (f.base + w) ps vss
      → Stands c (Emission.back_code program s.scope sub w as') from to → AllCopied G ps vss from to
  unfolding Rattle.ada_lower.specs.Emission.back_code
  back_all NoActual from to s sub w ps vss G en is one' kept l =
      subst (λ ps. AllCopied G ps vss from to) (sym is) (subst (λ q. AllCopied G [] vss from q) (sym l) (does_ret limit c f x {to = λ _ d. on f from [] d} tt tt))
  back_all (In formal value rest) from to s sub w ps vss G en (n, cs, qs, is, targets) one' kept l =
      subst (λ ps. AllCopied G ps vss from to) (sym is)
      (step G (f.base + w) (sent_in formal n cs) qs vss from from to (subst (λ p. AreKept G (f.base + w) p vss) is kept) (λ vs k1 k2 k3. does_ret limit c f x {to = λ _ d. on f from [] d} tt tt)
      (λ vss k4. back_all rest from to s sub w qs vss G en targets one' k4 l))
  back_all (InOut formal at r selections inner outer rest) from to s sub w ps vss G en (n, p, b, v, qs, is, cell, target, targets) one' kept l =
      let F : ℕ = Emission.formal_of program sub w (VariableOf formal) in
      let (m, l1, l2) = stands_seq c from to (one s.scope 0 (i.LoadL F) ⨟ one s.scope 1 (i.LoadL (F + 1)) ⨟ Emission.checked s.scope 2 outer ⨟ one s.scope 2 i.Store) (Emission.back_code program s.scope sub w rest) l in
      let P : Sent = sent_back formal n p b (v ∷ []) (inner ∷ []) (Some (record { at = at; scalar = outer })) in
      let there : f.base + w + (n + 0) ≡ f.base + F = omega (arith, cell) in
      subst (λ ps. AllCopied G ps vss from to) (sym is)
      (step G (f.base + w) P qs vss from m to (subst (λ p. AreKept G (f.base + w) p vss) is kept)
      (λ vs k1 k2 k3. scalar_back G s F from m b p (inner ∷ []) (record { at = at; scalar = outer }) vs en k3 one' target (subst (λ a. G.what a ≡ Keeps (pos b)) there (k1 0 (pos b) refl))
      (λ k v e. (let q : f.base + (F + 1) + k ≡ f.base + w + (n + (1 + k)) = omega (arith, cell) in ap G.what q) ∙ k2 k v e) l1)
      (λ vss k4. back_all rest m to s sub w qs vss G en targets one' k4 l2))
  back_all (Out formal at r selections inner outer rest) from to s sub w ps vss G en (n, p, b, v, qs, is, cell, target, targets) one' kept l =
      let F : ℕ = Emission.formal_of program sub w (VariableOf formal) in
      let (m, l1, l2) = stands_seq c from to (one s.scope 0 (i.LoadL F) ⨟ one s.scope 1 (i.LoadL (F + 1)) ⨟ Emission.checked s.scope 2 outer ⨟ one s.scope 2 i.Store) (Emission.back_code program s.scope sub w rest) l in
      let P : Sent = sent_back formal n p b (v ∷ []) (inner ∷ []) (Some (record { at = at; scalar = outer })) in
      let there : f.base + w + (n + 0) ≡ f.base + F = omega (arith, cell) in
      subst (λ ps. AllCopied G ps vss from to) (sym is)
      (step G (f.base + w) P qs vss from m to (subst (λ p. AreKept G (f.base + w) p vss) is kept)
      (λ vs k1 k2 k3. scalar_back G s F from m b p (inner ∷ []) (record { at = at; scalar = outer }) vs en k3 one' target (subst (λ a. G.what a ≡ Keeps (pos b)) there (k1 0 (pos b) refl))
      (λ k v e. (let q : f.base + (F + 1) + k ≡ f.base + w + (n + (1 + k)) = omega (arith, cell) in ap G.what q) ∙ k2 k v e) l1)
      (λ vss k4. back_all rest m to s sub w qs vss G en targets one' k4 l2))
  back_all (CompositeInOut formal at r selections subtype rest) from to s sub w ps vss G en (n, p, b, cs, qs, is, cell, len, target, targets) one' kept l =
      let F : ℕ = Emission.formal_of program sub w (VariableOf formal) in
      let many : ℕ = Emission.cells_of program subtype in
      let (m, l1, l2) = stands_seq c from to (one s.scope 0 (i.LoadL F) ⨟ one s.scope 1 (i.Local (F + 1)) ⨟ one s.scope 2 (i.Copy many)) (Emission.back_code program s.scope sub w rest) l in
      let P : Sent = sent_back formal n p b cs (Values.layout program.subtypes subtype) None in
      let there : f.base + w + (n + 0) ≡ f.base + F = omega (arith, cell) in
      subst (λ ps. AllCopied G ps vss from to) (sym is)
      (step G (f.base + w) P qs vss from m to (subst (λ p. AreKept G (f.base + w) p vss) is kept)
      (λ vs k1 k2 k3. whole_back G s F from m b many p (Values.layout program.subtypes subtype) vs en (k3 ∙ len) one' target (subst (λ a. G.what a ≡ Keeps (pos b)) there (k1 0 (pos b) refl))
      (λ k v e. (let q : f.base + (F + 1) + k ≡ f.base + w + (n + (1 + k)) = omega (arith, cell) in ap G.what q) ∙ k2 k v e) l1)
      (λ vss k4. back_all rest m to s sub w qs vss G en targets one' k4 l2))
  back_all (CompositeOut formal at r selections subtype rest) from to s sub w ps vss G en (n, p, b, cs, qs, is, cell, len, target, targets) one' kept l =
      let F : ℕ = Emission.formal_of program sub w (VariableOf formal) in
      let many : ℕ = Emission.cells_of program subtype in
      let (m, l1, l2) = stands_seq c from to (one s.scope 0 (i.LoadL F) ⨟ one s.scope 1 (i.Local (F + 1)) ⨟ one s.scope 2 (i.Copy many)) (Emission.back_code program s.scope sub w rest) l in
      let P : Sent = sent_back formal n p b cs (Values.layout program.subtypes subtype) None in
      let there : f.base + w + (n + 0) ≡ f.base + F = omega (arith, cell) in
      subst (λ ps. AllCopied G ps vss from to) (sym is)
      (step G (f.base + w) P qs vss from m to (subst (λ p. AreKept G (f.base + w) p vss) is kept)
      (λ vs k1 k2 k3. whole_back G s F from m b many p (Values.layout program.subtypes subtype) vs en (k3 ∙ len) one' target (subst (λ a. G.what a ≡ Keeps (pos b)) there (k1 0 (pos b) refl))
      (λ k v e. (let q : f.base + (F + 1) + k ≡ f.base + w + (n + (1 + k)) = omega (arith, cell) in ap G.what q) ∙ k2 k v e) l1)
      (λ vss k4. back_all rest m to s sub w qs vss G en targets one' k4 l2))
