-- Calls of every depth do what they do.
use Rattle.ada_lower.proofs.Rounds.{with_rounds}
use Rattle.ada_lower.proofs.Inner.{InnerDo}
use Rattle.ada_lower.proofs.ForkLaws.{ForksDo}
use Rattle.std.proofs.Common.{◌≡◌, ◌⊎◌, ℕ, zero, suc, ◌+◌, ◌-◌, ◌<◌, ◌≤◌, ℤ, pos, List, [], ◌∷◌, ◌++◌, length, nat_eq, nat_lt, Option, Some, None, Ok, Err, Bool, true, false, cond, refl, sym, ap, ◌∙◌, subst, le_refl, arith, inl, inr, ⊎_elim, true≢false, ltb-true, ltb-false, lt-ltb}
use Rattle.std.proofs.lemmas.Bool.{cases_lt, le-ltb, ne_eqb}
use Rattle.std.proofs.lemmas.Option.{none-some}
use Rattle.ada_base.specs.declared.reason.Reason.{Reason}
use Rattle.ada_base.specs.declared.reason.Reason.TheVariants as reason
use Rattle.behaviours.specs.Paths.{Leave, Exits, Returns, Raises, Entity, Here}
use Rattle.typed_tree.specs.declared.scalars.Scalar.{Scalar}
use Rattle.typed_tree.specs.Syntax.{Expr, Stmt, Block, Sub, Program}
use Rattle.ada_meaning.specs.Operations.{Operations}
use Rattle.ada_meaning.specs.Stored as stored
use Rattle.ada_meaning.specs.Stored.{Stored, Left, Address, Kept, Stacked, slot_at, key, within}
use Rattle.ada_meaning.specs.Meaning
use Rattle.ada_meaning.specs.Meaning.{Env, Back, Passed, Returned}
use Rattle.stack_code.specs.declared.code.Code.{Code}
use Rattle.stack_code.specs.Valid.{IsCountable}
use Rattle.stack_code.specs.declared.code.CodeSub.{CodeSub}
use Rattle.stack_code.specs.declared.instr.Instr.{Instr}
use Rattle.stack_code.specs.Machine.{Goes, entered_at, failed}
use Rattle.ada_lower.specs.Driven.{Dyn, Fixed, Step, on, state_of, driven, thrown, cut_to, At, Alike}
use Rattle.ada_lower.proofs.Alike.{alike}
use Rattle.ada_lower.specs.Sights.{Amid, Named, Sight, Stands, with_object}
use Rattle.ada_lower.specs.Emission.{Shape, lead, shapes, shapes_cells, stmt, returning, returning_value}
use Rattle.ada_lower.specs.Fits.{What, Other, Free, Access, Ghost, Ends, left_by, place_in, Spread, Refers, AtMain, Knows, Stands as StandsFor}
use Rattle.ada_lower.specs.Fitted.{Callable, Spot, spots}
use Rattle.ada_lower.specs.Bodies.{formal_named, leaving_of, outer_scope, sub_scope, ending, sub_code, AllStand}
use Rattle.ada_lower.proofs.Framework.{any, To, Doing, comes_here, comes_on, comes_goes, comes_thrown, comes_fails, does_ret, does_bind, does_before}
use Rattle.ada_lower.proofs.Memory.{fit_alike}
use Rattle.ada_lower.proofs.Standing.{stands_seq}
use Rattle.ada_lower.proofs.Parts.{Runs, Fewer, does_is, does_first}
use Rattle.ada_lower.proofs.Leaving.{does_turned, does_handles}
use Rattle.ada_lower.proofs.Declared.{keeping, having, knows_having_at, knows_kept, laid_what, laid_out, kept_what, stacked_what}
use Rattle.ada_lower.proofs.Calls.{Calling, CallsDo, Checked, also_apart, call_went, called_ends, comes_ends, comes_gives, given, grown, holds, inner, test_is, test_of, with_kept, within_call}
use Rattle.ada_lower.proofs.Scattered.{Piece, scattered, scattering, IsClear, IsTheirs, AreIn, AreFree, clear_part, scattered_at, scattered_off, scattered_swap, scattered_cases, stands_scattered, theirs_in}
use Rattle.ada_lower.proofs.Spots.{Each, each_without}
use Rattle.ada_lower.proofs.Formals.{named_at, with_spot, seen_spot, spot_objects, spot_seens, sight_with, spotted, SpotsFresh, Comes, IsBack, comes_first, knows_same, knows_placed, spots_fresh, spots_back}
use Rattle.ada_lower.proofs.Sent.{Sent, IsSuited, HaveCells, all_passed, pieces, aheads, Backs, SpreadOf, AreSpread, BackSuited, AreSuited, pieces_in, aheads_in, aheads_clear, have_cells, fit_aheads, backs_cut, Also, also_seq, also_by, also_weak, also_alike, also_raised, also_elaborates, also_back}
use Rattle.ada_lower.proofs.Expressions.{at_entry}
use Rattle.ada_lower.proofs.Statements.{Suits, ParDoes, stmt_does}

module _ (limit : ℕ) (cuts : ℕ → ℕ → List ℕ) (program : Program) (c : Code) (globals : ℕ → Entity → Option Named) (mains : Entity → Bool) (epar : Sight → Expr → Type 0) (texts : List (List ℕ)) (text : List ℕ → ℕ) (frames : ℕ → ℕ) (par : Sight → Stmt → Type 0) where
  abbrev ops : Operations {1}
  ops = stored.noted_operations limit cuts

  fewer_alike : (f : Fixed) (x : Ends) (g : Ghost) (w : ℕ → What) → ((a : ℕ) → g.what a ≡ w a) → Fewer limit c f x g (record g { what = w })
  fewer_alike f x g w e b y p q = inl (e b ∙ q)

  -- ghosts that are alike
  does_alike : {A : Type 0} {g h : Ghost} {q : A → Type 0} {m : Stored A} {from : Dyn → Step} {to : A → Dyn → Step} (f : Fixed) (x : Ends) (w : ℕ → What) → ((a : ℕ) → g.what a ≡ w a) → Doing limit c f x (record g { what = w }) h q m from to → Doing limit c f x g h q m from to
  does_alike {g = g} {from = from} f x w e j = does_first limit c f x (fewer_alike f x g w e) (λ s d fit. (d, fit_alike w e fit, comes_here limit c (from d))) j

  -- ---- formals

  -- the cells of those that are left are free
  abbrev AllFree : ℕ → (ℕ → What) → List Sent → Type 0
  AllFree a w [] = Unit {0}
  AllFree a w (p ∷ ps) = ((k : ℕ) → k < length p.ahead + length p.passed.cells → w (a + (p.at + k)) ≡ Free) × AllFree a w ps

  all_free : (a m : ℕ) (w : ℕ → What) (ps : List Sent) → HaveCells m ps → AreFree a m w → AllFree a w ps
  all_free a m w [] have free = tt
  all_free a m w (p ∷ ps) (fits, off, have) free = (λ k lt. free (p.at + k) (omega (arith, lt, fits)), all_free a m w ps have free)

  -- what is laid elsewhere leaves them free
  still_free : (a e i : ℕ) (F : ℕ → ℤ → What) (xs : List ℤ) (w : ℕ → What) (ps : List Sent) → IsClear e (length xs) (pieces ps) → AllFree a w ps → AllFree a (laid_what (a + e) i F xs w) ps
  still_free a e i F xs w [] off free = tt
  still_free a e i F xs w (p ∷ ps) (off, (off', offs)) (free, frees) =
      (λ k lt. laid_out (a + e) i F xs w (a + (p.at + k)) (outside k lt (cases_lt k (length p.ahead))) ∙ free k lt, still_free a e i F xs w ps offs frees)
    where
      outside : (k : ℕ) → k < length p.ahead + length p.passed.cells → (k < length p.ahead) ⊎ (length p.ahead ≤ k) → (a + (p.at + k) < a + e) ⊎ (a + e + length xs ≤ a + (p.at + k))
      outside k lt (inl l) = ⊎_elim (λ o. inr (omega (arith, o))) (λ o. inl (omega (arith, o, l))) off
      outside k lt (inr l) = ⊎_elim (λ o. inr (omega (arith, o, l))) (λ o. inl (omega (arith, o, lt))) off'

  theirs_free : (a : ℕ) (w : ℕ → What) (ps : List Sent) (b : ℕ) → AllFree a w ps → IsTheirs a (pieces ps) b → w b ≡ Free
  theirs_free a w [] b free t = absurd t
  theirs_free a w (p ∷ ps) b (free, frees) (inl (k, z, lt)) = ap w (sym z) ∙ free k (omega (arith, lt))
  theirs_free a w (p ∷ ps) b (free, frees) (inr (inl (k, z, lt))) =
      let y : a + (p.at + (length p.ahead + k)) ≡ b = omega (arith, z) in ap w (sym y) ∙ free (length p.ahead + k) (omega (arith, lt))
  theirs_free a w (p ∷ ps) b (free, frees) (inr (inr t)) = theirs_free a w ps b frees t

  -- what stands for cells of the run isn't theirs
  stand_on : (a : ℕ) (w : ℕ → What) (ps : List Sent) (b : ℕ) (z : Access) (n : ℕ) → AllFree a w ps → w b ≡ StandsFor z (Stacked n) → scattered a (pieces ps) w b ≡ StandsFor z (Stacked n)
  stand_on a w ps b z n free e =
      ⊎_elim (λ r. r ∙ e) (λ t. let (v, is, theirs) = t in absurd (let q : Free ≡ StandsFor z (Stacked n) = sym (theirs_free a w ps b free theirs) ∙ e in cc)) (scattered_cases a (pieces ps) w b)

  stand_still : (a : ℕ) (w : ℕ → What) (ps : List Sent) (b : ℕ) (z : Access) (n : ℕ) → AllFree a w ps → scattered a (aheads ps) w b ≡ StandsFor z (Stacked n) → scattered a (pieces ps) w b ≡ StandsFor z (Stacked n)
  stand_still a w ps b z n free e =
      stand_on a w ps b z n free (stands_scattered a (aheads ps) w b z (Stacked n) e)

  formals_do : {A : Type 0} {env : Env} {q : A → Dyn → Type 0} {m : Stored A} {from : Dyn → Step} {to : A → Dyn → Step} (f : Fixed) (x : Ends) (most : ℕ) (ks : List Spot) (ps : List Sent) (s : Sight) (B : Ghost) → Knows limit cuts B f s env → most ≤ s.scope.free → s.scope.free ≤ s.cells → SpotsFresh ks s.seen → AreSuited ks ps → HaveCells most ps
      → AllFree f.base B.what ps
      → ((B' : Ghost) → Knows limit cuts B' f (spotted ks s) env → Also limit c f x B' B' q m from to)
      → Also limit c f x (scattering f.base (pieces ps) B) (scattering f.base (aheads ps) B) q (Meaning.with_formals ops limit program (all_passed ps) m) from to
  formals_do {env = env} {q = q} {m = m} {from = from} {to = to} f x most ks [] s B k below room fresh none have free j = j B (subst (λ ks. Knows limit cuts B f (spotted ks s) env) (sym none) k)
  formals_do {A = A} {env = env} {q = q} {m = m} {from = from} {to = to} f x most ks (p ∷ ps) s B k below room fresh (h, zs, wo, suits, suited) (fits, off, have) (free, frees) j =
      let a : ℕ = f.base in
      let n : ℕ = length p.ahead + length p.passed.cells in
      let o1 : ℕ = p.at + length p.ahead in
      let a1 : ℕ = a + o1 in
      let y : Entity = p.passed.formal in
      let cs : List ℤ = p.passed.cells in
      let B1 : Ghost = keeping (a + p.at) p.ahead B in
      let g : Ghost = scattering a (pieces ps) B1 in
      let wh : (ℕ → What) = scattered a (aheads ps) B1.what in
      let off1 : IsClear p.at (length p.ahead) (pieces ps) = clear_part p.at n p.at (length p.ahead) (pieces ps) (le_refl p.at) (omega arith) off in
      let off2 : IsClear o1 (length cs) (pieces ps) = clear_part p.at n o1 (length cs) (pieces ps) (omega arith) (omega arith) off in
      let off3 : IsClear o1 (length cs) (aheads ps) = aheads_clear o1 (length cs) ps off2 in
      let k1 : Knows limit cuts B1 f s env = knows_kept p.at p.ahead (omega (arith, below, fits)) room (λ i lt. (let z : a + p.at + i ≡ a + (p.at + i) = omega arith in ap B.what z) ∙ free i (omega (arith, lt))) k in
      let free1 : ((i : ℕ) → i < length cs → B1.what (a1 + i) ≡ Free) = (λ i lt. laid_out (a + p.at) 0 kept_what p.ahead B.what (a1 + i) (inr (omega arith)) ∙ (let z : a1 + i ≡ a + (p.at + (length p.ahead + i)) = omega arith in ap B.what z) ∙ free (length p.ahead + i) (omega (arith, lt))) in
      let freeg : ((i : ℕ) → i < length cs → g.what (a1 + i) ≡ Free) = (λ i lt. (let z : a1 + i ≡ a + (o1 + i) = omega arith in ap g.what z ∙ scattered_off a o1 (length cs) i (pieces ps) B1.what off2 lt ∙ ap B1.what (sym z)) ∙ free1 i lt) in
      let freew : ((i : ℕ) → i < length cs → wh (a1 + i) ≡ Free) = (λ i lt. (let z : a1 + i ≡ a + (o1 + i) = omega arith in ap wh z ∙ scattered_off a o1 (length cs) i (aheads ps) B1.what off3 lt ∙ ap B1.what (sym z)) ∙ free1 i lt) in
      let frees1 : AllFree a B1.what ps = still_free a p.at 0 kept_what p.ahead B.what ps off1 frees in
      let first : Comes h ks zs s.scope.object s.seen = comes_first h ks zs s.scope.object s.seen wo fresh in
      also_alike limit c f x (keeping a1 cs g).what (λ b. sym (scattered_swap a o1 0 kept_what cs (pieces ps) B1.what b off2))
      (also_elaborates limit c f x {g = g} y a1 cs freeg wh freew (λ b z i w. stand_still a B1.what ps b z i frees1 w)
      (λ at fresh' slots.
      let B2 : Ghost = having y at a1 cs B1 in
      let seen1 : s.seen y ≡ false = ap s.seen suits.formal ∙ first.new in
      let k2 : Knows limit cuts B2 f (with_object y (formal_named o1 (length cs)) s) env =
      knows_having_at o1 y at cs (omega (arith, below, fits)) (omega (arith, below, room, fits)) free1 slots seen1 (λ b z i w. fresh' b z i (stand_on a B1.what ps b z i frees1 w)) k1 in
      let k3 : Knows limit cuts B2 f (sight_with s (with_spot h s.scope.object) (seen_spot h s.seen)) env = here suits (λ y o cells. Knows limit cuts B2 f (with_object y (formal_named o cells) s) env) k2 in
      also_alike limit c f x (scattered a (pieces ps) B2.what) (λ b. scattered_swap a o1 at stacked_what cs (pieces ps) B1.what b off2)
      (also_weak limit c f x {h = scattering a (aheads ps) B2} {h' = having y at a1 cs (record g { what = wh })}
      (λ s d fit. fit_alike (laid_what a1 at stacked_what cs wh) (λ b. sym (scattered_swap a o1 at stacked_what cs (aheads ps) B1.what b off3)) fit)
      (formals_do f x most zs ps (sight_with s (with_spot h s.scope.object) (seen_spot h s.seen)) B2 k3 below room first.fresh suited have (still_free a o1 at stacked_what cs B1.what ps off2 frees1)
      (λ B' k'. j B' (knows_same s (λ z. spot_objects zs (with_spot h s.scope.object) z) (λ z. spot_objects ks s.scope.object z) (λ z. spot_seens zs (seen_spot h s.seen) z) (λ z. spot_seens ks s.seen z) first.object first.see k'))))))
    where
      here : IsSuited h p → (P : Entity → ℕ → ℕ → Type 0) → P p.passed.formal (p.at + length p.ahead) (length p.passed.cells) → P h.shape.formal (h.at + lead h.shape.back) h.shape.cells
      here suits P e =
          let e1 = suits.place in
          let e2 = suits.ahead in
          let z : p.at + length p.ahead ≡ h.at + lead h.shape.back = omega (arith, e1, e2) in
          subst (λ n. P h.shape.formal (h.at + lead h.shape.back) n) suits.cells (subst (λ o. P h.shape.formal o (length p.passed.cells)) z (subst (λ y. P y (p.at + length p.ahead) (length p.passed.cells)) suits.formal e))

  -- the cells of those that are copied back
  spread_all : {B : Ghost} {env : Env} {t : Sight} (f : Fixed) (ks : List Spot) (ps : List Sent) → AreSuited ks ps → Each (IsBack t) ks → Knows limit cuts B f t env → AreSpread B f.base ps
  spread_all f ks [] suited backs k = tt
  spread_all {B} {env} {t} f ks (p ∷ ps) (h, zs, wo, suits, suited) backs k =
      let (here, rest) = each_without (IsBack t) h ks zs wo backs in
      (one' here p.passed.back suits.back, spread_all f zs ps suited rest k)
    where
      one' : IsBack t h → (o : Option Back) → BackSuited h.shape.back h.shape.cells o → SpreadOf B p.passed.formal o (length p.passed.cells) (f.base + (p.at + length p.ahead))
      one' here None e = tt
      one' here (Some b) (is, many) =
          let r : Refers B f (named_at h) h.shape.formal 0 = k.object h.shape.formal (named_at h) (here is) in
          let l : r.address ≡ f.base + (h.at + lead h.shape.back) = r.leads in
          let e1 = suits.place in
          let e2 = suits.ahead in
          let w : r.address ≡ f.base + (p.at + length p.ahead) = omega (arith, l, e1, e2) in
          (many ∙ sym suits.cells, subst (λ y. Spread B y 0 (length p.passed.cells) (f.base + (p.at + length p.ahead))) (sym suits.formal) (subst (λ m. Spread B h.shape.formal 0 m (f.base + (p.at + length p.ahead))) (sym suits.cells) (subst (λ b. Spread B h.shape.formal 0 h.shape.cells b) w r.spread)))

  -- ---- the scope of a call

  module _ (g : Ghost) (f : Fixed) (s : Sight) (env : Env) (k : Knows limit cuts g f s env) (sub n q to : ℕ) (kept st : List ℤ) (u : Callable program globals mains s sub) (frame : ℕ) (whole : n + shapes_cells (shapes program u.unit.formals) ≡ s.scope.free) (room : s.scope.free ≤ s.cells) where
    abbrev top : ℕ
    top = f.base + n + frame

    abbrev B : Ghost
    B = within_call top g

    abbrev cells : ℕ
    cells = g.top + (top - g.top) - (f.base + n)

    abbrev f' : Fixed
    f' = inner (with_kept kept f) q to n st g.top

    is_inside : (a : ℕ) (x : Access) (p : Address) → g.what a ≡ StandsFor x p → a < g.top
    is_inside a x p e = go (nat_lt a g.top) refl
      where
        go : (b : Bool) → nat_lt a g.top ≡ b → a < g.top
        go true e' = ltb-true a g.top e'
        go false e' = absurd (let z : Other ≡ StandsFor x p = sym (k.beyond a (ltb-false a g.top e')) ∙ e in cc)

    what_inside : (a : ℕ) → a < g.top → B.what a ≡ g.what a
    what_inside a lt = ap (λ b. cond b (g.what a) (cond (nat_lt a (g.top + (top - g.top))) Free Other)) (lt-ltb a g.top lt)

    what_behind : (a : ℕ) → g.top ≤ a → a < g.top + (top - g.top) → B.what a ≡ Free
    what_behind a le lt = ap (λ b. cond b (g.what a) (cond (nat_lt a (g.top + (top - g.top))) Free Other)) (le-ltb a g.top le) ∙ ap (λ b. cond b Free Other) (lt-ltb a (g.top + (top - g.top)) lt)

    what_beyond : (a : ℕ) → g.top + (top - g.top) ≤ a → B.what a ≡ Other
    what_beyond a le = ap (λ b. cond b (g.what a) (cond (nat_lt a (g.top + (top - g.top))) Free Other)) (le-ltb a g.top (omega (arith, le))) ∙ ap (λ b. cond b Free Other) (le-ltb a (g.top + (top - g.top)) le)

    stood_before : (a : ℕ) (x : Access) (p : Address) → B.what a ≡ StandsFor x p → g.what a ≡ StandsFor x p
    stood_before a x p e = go (nat_lt a g.top) (nat_lt a (g.top + (top - g.top))) e
      where
        go : (b b' : Bool) → cond b (g.what a) (cond b' Free Other) ≡ StandsFor x p → g.what a ≡ StandsFor x p
        go true b' e = e
        go false true e = absurd (let z : Free ≡ StandsFor x p = e in cc)
        go false false e = absurd (let z : Other ≡ StandsFor x p = e in cc)

    -- no object of another frame is visible
    not_here : (y : Entity) (i : ℕ) → place_in B y i ≡ cond (nat_eq (slot_at g.everywhere (key y)).frame 1) (within Kept (slot_at g.everywhere (key y)) i) None
    not_here y i =
        let old : (slot_at g.here (key y)).frame ≤ g.frame = k.old (key y) in
        let ne : nat_eq (slot_at g.here (key y)).frame (g.frame + 1) ≡ false = ne_eqb (slot_at g.here (key y)).frame (g.frame + 1) (λ e. omega (arith, e, old)) in
        ap (λ b. cond b (within Stacked (slot_at g.here (key y)) i) (cond (nat_eq (slot_at g.everywhere (key y)).frame 1) (within Kept (slot_at g.everywhere (key y)) i) None)) ne

    seen_main : (y : Entity) (i : ℕ) → mains y ≡ false → place_in B y i ≡ None
    seen_main y i e =
        let ne : nat_eq (slot_at g.everywhere (key y)).frame 1 ≡ false = ne_eqb (slot_at g.everywhere (key y)).frame 1 (λ z. k.outside y (u.main y e) z) in
        not_here y i ∙ ap (λ b. cond b (within Kept (slot_at g.everywhere (key y)) i) None) ne

    main_in : (y : Entity) (m : Named) → AtMain g m y → AtMain B m y
    main_in y m (o, is, one', cells', near) = (o, is, one', (λ i lt. let (p, acc, here, e) = cells' i lt in (p, acc, here, what_inside (o + i) (is_inside (o + i) acc p e) ∙ e)), omega (arith, near))

    main_refers : (y : Entity) (m : Named) → AtMain g m y → Refers B f' m y 0
    main_refers y m (o, is, one', cells', near) = subst (λ z. Refers B f' z y 0) (sym is) (record {
      address = o;
      leads = refl;
      spread = record {
        near = omega (arith, near);
        cell = λ i lt.
            let (p, acc, here, e) = cells' i lt in
            let z : 0 + i ≡ i = omega arith in
            (p, acc, ap (λ i. place_in B y i) z ∙ not_here y i ∙ ap (λ n. cond (nat_eq n 1) (within Kept (slot_at g.everywhere (key y)) i) None) one' ∙ here, what_inside (o + i) (is_inside (o + i) acc p e) ∙ e);
      };
    })

    -- the cells of the formals, where they are free
    free_call : (m : ℕ) → n + m ≡ s.scope.free → AreFree (f.base + n) m g.what → AreFree (f.base + n) m B.what
    free_call m e free j lt =
        let t = k.top in
        what_inside (f.base + n + j) (omega (arith, lt, e, room, t)) ∙ free j lt

    knows_call : Knows limit cuts B f' (outer_scope program globals mains texts text frames sub u.unit cells) (Meaning.outset env.nested)
    knows_call = record {
      most = k.most;
      nested = k.nested;
      plan = k.plan;
      kept = refl;
      top = (let t : f.base + n ≤ g.top = (let z = k.top in omega (arith, z, whole, room)) in let w : g.top + (top - g.top) ≡ f.base + n + (g.top + (top - g.top) - (f.base + n)) = omega (arith, t) in w);
      beyond = λ a le. what_beyond a le;
      global = λ y m e. main_in y m (k.global y m (u.outer y m e));
      outside = λ y e z. k.outside y (u.main y e) z;
      one = λ a b x y p e e'. k.one a b x y p (stood_before a x p e) (stood_before b y p e');
      old = λ j. (let z = k.old j in omega (arith, z));
      hidden = λ y i e. seen_main y i e;
      object = λ y m e. main_refers y m (k.global y m (u.outer y m e));
      parameter = λ j w e. absurd (none-some w e);
      item = λ j m e. absurd (none-some m e);
      constant_item = λ j m e. absurd (none-some m e);
      target = λ m e. absurd (none-some m e);
      handled = λ w e. absurd (none-some w e);
      free = λ j le lt. free_behind j le lt;
    }
      where
        free_behind : (j : ℕ) → shapes_cells (shapes program u.unit.formals) ≤ j → j < cells → B.what (f.base + n + j) ≡ Free
        free_behind j le lt = go (nat_lt (f.base + n + j) g.top) refl
          where
            go : (b : Bool) → nat_lt (f.base + n + j) g.top ≡ b → B.what (f.base + n + j) ≡ Free
            go true e =
                let l = ltb-true (f.base + n + j) g.top e in
                let t = k.top in
                let z : f.base + n + j ≡ f.base + (n + j) = omega arith in
                what_inside (f.base + n + j) l ∙ ap g.what z ∙ k.free (n + j) (omega (arith, le, whole)) (omega (arith, l, t))
            go false e = what_behind (f.base + n + j) (ltb-false (f.base + n + j) g.top e) (omega (arith, lt))

  -- ---- bodies

  abbrev after_call : Fixed → (to : ℕ) → List ℤ → ℕ → Option Scalar → ℤ → Dyn → Step
  after_call f to st top o v d = on f to (given o v ++ st) (cut_to top d)

  abbrev returned_ends : Fixed → (to : ℕ) → List ℤ → ℕ → Option Scalar → Ends → Ends
  returned_ends f back st top o x = record (called_ends limit c x top) { returns = λ v d. after_call f back st top o (Meaning.value_of (Returns v)) d }

  returns_go : (f : Fixed) (q back n : ℕ) (st : List ℤ) (top : ℕ) (o : Option Scalar) (t : Sight) (from to : ℕ) → Stands c (returning t.scope 0 (leaving_of o)) from to → (d : Dyn) → To limit c (on (inner f q back n st top) from [] d) (after_call f back st top o (pos 0) d)
  returns_go f q back n st top None t from to l d = comes_ends limit c f q back n st top [] d l.0
  returns_go f q back n st top (Some k) t from to (j, (j', z)) d = comes_on limit c (comes_goes limit c (inner f q back n st top) [] (from + 1) (pos 0 ∷ []) d j refl) (comes_gives limit c f q back n st top (pos 0) [] d j')

  gives_go : (f : Fixed) (q back n : ℕ) (st : List ℤ) (top : ℕ) (o : Option Scalar) (t : Sight) (from to : ℕ) (v : ℤ) → Stands c (returning_value t.scope (leaving_of o)) from to → (d : Dyn) → To limit c (on (inner f q back n st top) from (v ∷ []) d) (after_call f back st top o v d)
  gives_go f q back n st top None t from to v l d = comes_ends limit c f q back n st top (v ∷ []) d l.0
  gives_go f q back n st top (Some k) t from to v l d = comes_gives limit c f q back n st top v [] d l.0

  raise_is : {A : Type 0} (r : Reason) (t : stored.State) → (stored.leaves {A = A} (Raises r)).does t ≡ stored.at t (Err (Left (Raises r)))
  unfolding stored.leaves
  raise_is r t = refl

  ended_does : {g : Ghost} (f : Fixed) (x : Ends) (q back n : ℕ) (st : List ℤ) (top : ℕ) (o : Option Scalar) (s : Sight) (from to : ℕ) → s.scope.entry ≡ x.entry → Stands c (ending program globals mains texts text frames s.scope o) from to
      → Runs limit c (inner f q back n st top) x g any (Meaning.ended ops limit program o) (λ d. on (inner f q back n st top) from [] d) (λ v d. after_call f back st top o v d)
  ended_does f x q back n st top None s from to en l = does_before limit c (inner f q back n st top) x (λ d. comes_ends limit c f q back n st top [] d l.0) (does_ret limit c (inner f q back n st top) x {to = λ v d. after_call f back st top None v d} (pos 0) tt)
  ended_does f x q back n st top (Some k) s from to en l =
      does_is limit c (inner f q back n st top) x (Err (Left (Raises reason.ProgramError))) (λ t. raise_is reason.ProgramError t) (λ d. comes_fails limit c (inner f q back n st top) [] [] reason.ProgramError d (at_entry en l.0) refl)

  body_does : {B : Ghost} (f : Fixed) (x : Ends) (q back n : ℕ) (st : List ℤ) (top : ℕ) (calls : ℕ → ℕ → Stored (Unit {0}) → List Passed → Stored Returned) (unit : Sub) (s : Sight) (nested entry to : ℕ) (ps : List Sent) (a : ℕ) → AreSpread B a ps → (calls_do : InnerDo limit cuts program globals mains epar c (inner f q back n st top) calls) → ParDoes limit cuts program c (inner f q back n st top) calls globals mains epar calls_do par
      → Knows limit cuts B (inner f q back n st top) s (Meaning.outset nested) → s.scope.entry ≡ None → s.scope.leaving ≡ leaving_of unit.result → ((m : ℕ) → s.scope.exits m ≡ None) → s.outside ≡ [] → s.texts ≡ c.texts
      → Rattle.ada_lower.specs.Fitted.FittedStmt program globals mains epar par s (Block unit.body.decls unit.body.stmts unit.body.handlers) → Stands c (sub_code program globals mains texts text frames s.scope unit) entry to
      → Also limit c (inner f q back n st top) (called_ends limit c x top) {A = Returned} B B (λ r d. Backs a ps r.cells d.cells)
      (stored.bind (stored.handles (stored.bind (Meaning.exec_body ops limit program calls unit.body Here (Meaning.outset nested)) (λ _. Meaning.ended ops limit program unit.result)) Meaning.returns (λ how. stored.ret (Meaning.value_of how)))
      (λ v. stored.bind (Meaning.back_cells ops limit program (all_passed ps) []) (λ vss. stored.ret (record { value = v; cells = vss }))))
      (λ d. on (inner f q back n st top) entry [] d) (λ r d. after_call f back st top unit.result r.value d)
  body_does {B} f x q back n st top calls unit s nested entry to ps a spread calls_do par_does k none leaving exits out same_texts fitted l =
      let y : Ends = returned_ends f back st top unit.result x in
      let f' : Fixed = inner f q back n st top in
      let (m, l1, l2) = stands_seq c entry to (stmt program s.scope (Block unit.body.decls unit.body.stmts unit.body.handlers)) (ending program globals mains texts text frames s.scope unit.result) l in
      let suits : Suits limit c f' y s = record {
        entry = none;
        flat = refl;
        rounds = refl;
        kept = refl;
        texts = same_texts;
        threads = λ n here. absurd (subst (λ ns. Amid n ns) out here);
        away = λ n z here q e at d. absurd (subst (λ ns. Amid n ns) out here);
        exits = λ j p e d. absurd (none-some p (sym (exits j) ∙ e));
        returns = λ t a b w d. returns_go f q back n st top unit.result t a b (subst (λ o. Stands c (returning t.scope 0 o) a b) leaving w) d;
        gives = λ t a b v w d. gives_go f q back n st top unit.result t a b v (subst (λ o. Stands c (returning_value t.scope o) a b) leaving w) d;
      } in
      also_seq limit c f' (called_ends limit c x top) {g = B} {h = B} {j = B} {mid = λ v d. after_call f back st top unit.result v d} (λ s d w. w) (λ ts al. al)
      (does_handles limit c f' (called_ends limit c x top) cuts y (λ ts al. al)
      (does_bind limit c f' y (stmt_does limit cuts program c f' calls globals mains epar calls_do par par_does (Block unit.body.decls unit.body.stmts unit.body.handlers) entry m y s k suits fitted l1) (λ _ _.
      ended_does f y q back n st top unit.result s m to none l2))
      taken past)
      (λ v _. also_back limit cuts program c f' (called_ends limit c x top) ps a v (λ v d. after_call f back st top unit.result v d) spread)
    where
      taken : (l : Leave) → Meaning.returns l ≡ true → Runs limit c (inner f q back n st top) (called_ends limit c x top) B any (stored.ret (Meaning.value_of l)) (λ d. left_by (inner f q back n st top) (returned_ends f back st top unit.result x) l d) (λ v d. after_call f back st top unit.result v d)
      taken (Returns v) e = does_ret limit c (inner f q back n st top) (called_ends limit c x top) {to = λ v d. after_call f back st top unit.result v d} (Meaning.value_of (Returns v)) tt
      taken (Exits m) e = absurd (true≢false (sym e))
      taken (Raises r) e = absurd (true≢false (sym e))

      past : (l : Leave) → Meaning.returns l ≡ false → (d : Dyn) → To limit c (left_by (inner f q back n st top) (returned_ends f back st top unit.result x) l d) (left_by (inner f q back n st top) (called_ends limit c x top) l d)
      past (Returns v) e d = absurd (true≢false e)
      past (Exits m) e d = comes_here limit c _
      past (Raises r) e d = comes_here limit c _

  -- ---- calls

  module _ (countable : IsCountable c.instrs) (same_texts : texts ≡ c.texts) (stood : AllStand program globals mains texts text frames epar par c) (asked : Option Program) (pars : (f : Fixed) → f.asked ≡ asked → (depth : ℕ) (all : (f' : Fixed) → Alike f' f → CallsDo limit cuts program globals mains c f' (Meaning.call ops limit program depth)) → ForksDo limit cuts program globals mains epar par c f (Meaning.call ops limit program depth) (λ rs. all (with_rounds rs f) (alike f))) where
    -- what a call comes to behind its turn: whether fewer than 1,000 calls are active, and whether what is checked holds
    abbrev begun_call : (q n to : ℕ) (f : Fixed) (st : List ℤ) → CodeSub → (few ok : Bool) → Dyn → Step
    begun_call q n to f st is few ok d = driven limit c
        (cond few (cond ok (Goes (entered_at is n to (state_of f q st [] None d))) (Goes (failed reason.ConstraintError (st ++ f.below) (state_of f q st [] None d)))) (Goes (failed reason.StorageError (st ++ f.below) (state_of f q st [] None d)))) d.world

    -- where 1,000 calls are active
    full_goes : {q : ℕ} {j : Instr} {e : Option ℕ} (is : CodeSub) (n to : ℕ) (ok : Bool) (f : Fixed) (before after : List ℤ) (d : Dyn) → f.calls ≡ 1000 → At c q j e
        → To limit c (driven limit c (call_went limit is n to ok (after ++ f.below) (state_of f q before [] None d)) d.world) (thrown reason.StorageError e f d)
    full_goes {q} {j} {e} is n to ok f before after d many at =
        let ge : nat_lt f.calls 1000 ≡ false = le-ltb f.calls 1000 (omega (arith, many)) in
        subst (λ b. To limit c (begun_call q n to f after is b ok d) (thrown reason.StorageError e f d)) (sym ge) (comes_thrown limit c f after reason.StorageError d at)

    -- where what is checked doesn't hold
    call_fails : {q : ℕ} {j : Instr} {e : Option ℕ} (is : CodeSub) (n to : ℕ) (ok : Bool) (f : Fixed) (before after : List ℤ) (d : Dyn) → f.calls < 1000 → ok ≡ false → At c q j e
        → To limit c (driven limit c (call_went limit is n to ok (after ++ f.below) (state_of f q before [] None d)) d.world) (thrown reason.ConstraintError e f d)
    call_fails {q} {j} {e} is n to ok f before after d few no_ok at =
        let lt : nat_lt f.calls 1000 ≡ true = lt-ltb f.calls 1000 few in
        subst (λ b. To limit c (begun_call q n to f after is b ok d) (thrown reason.ConstraintError e f d)) (sym lt)
        (subst (λ b. To limit c (begun_call q n to f after is true b d) (thrown reason.ConstraintError e f d)) (sym no_ok) (comes_thrown limit c f after reason.ConstraintError d at))

    -- where fewer are, and it does
    call_goes : {q : ℕ} (is : CodeSub) (n to top : ℕ) (ok : Bool) (f : Fixed) (before after : List ℤ) (d : Dyn) → f.calls < 1000 → ok ≡ true → length d.cells ≡ top
        → To limit c (driven limit c (call_went limit is n to ok (after ++ f.below) (state_of f q before [] None d)) d.world) (on (inner f q to n after top) is.entry [] (grown (f.base + n + is.frame) d))
    call_goes {q} is n to top ok f before after d few is_ok len =
        let lt : nat_lt f.calls 1000 ≡ true = lt-ltb f.calls 1000 few in
        subst (λ b. To limit c (begun_call q n to f after is b ok d) (on (inner f q to n after top) is.entry [] (grown (f.base + n + is.frame) d))) (sym lt)
        (subst (λ b. To limit c (begun_call q n to f after is true b d) (on (inner f q to n after top) is.entry [] (grown (f.base + n + is.frame) d))) (sym is_ok)
        (subst (λ t. To limit c (on (inner f q to n after (length d.cells)) is.entry [] (grown (f.base + n + is.frame) d)) (on (inner f q to n after t) is.entry [] (grown (f.base + n + is.frame) d))) len (comes_here limit c _)))

    -- what is still to be checked
    test_does : {g : Ghost} {q : ℕ} {j : Instr} (x : Ends) (is : CodeSub) (n to : ℕ) (check : Checked) (f : Fixed) (before after : List ℤ) → f.calls < 1000 → At c q j x.entry
        → Runs limit c f x g (λ _. holds check ≡ true) (test_of check) (λ d. driven limit c (call_went limit is n to (holds check) (after ++ f.below) (state_of f q before [] None d)) d.world) (λ _ d. driven limit c (call_went limit is n to (holds check) (after ++ f.below) (state_of f q before [] None d)) d.world)
    test_does {g} {q} {j} x is n to check f before after few at = go (holds check) refl
      where
        go : (b : Bool) → holds check ≡ b → Runs limit c f x g (λ _. holds check ≡ true) (test_of check) (λ d. driven limit c (call_went limit is n to (holds check) (after ++ f.below) (state_of f q before [] None d)) d.world) (λ _ d. driven limit c (call_went limit is n to (holds check) (after ++ f.below) (state_of f q before [] None d)) d.world)
        go true e = does_is limit c f x (Ok tt) (λ s. test_is check s ∙ ap (λ b. stored.at s (cond b (Ok tt) (Err (Left (Raises reason.ConstraintError))))) e) (e, λ d. comes_here limit c _)
        go false e = does_is limit c f x (Err (Left (Raises reason.ConstraintError))) (λ s. test_is check s ∙ ap (λ b. stored.at s (cond b (Ok tt) (Err (Left (Raises reason.ConstraintError))))) e) (λ d. call_fails is n to (holds check) f before after d few e at)

    -- the arguments stand where the formals are
    args_alike : (g : Ghost) (f : Fixed) (n m frame : ℕ) (ps : List Piece) → AreIn m ps → f.base + n + m ≤ g.top → (a : ℕ)
        → (within_call (f.base + n + frame) (scattering (f.base + n) ps g)).what a ≡ (scattering (f.base + n) ps (within_call (f.base + n + frame) g)).what a
    args_alike g f n m frame ps lie below a = go (nat_lt a g.top) refl
      where
        w : ℕ → What
        w = (within_call (f.base + n + frame) g).what

        beyond : What
        beyond = cond (nat_lt a (g.top + (f.base + n + frame - g.top))) Free Other

        go : (b : Bool) → nat_lt a g.top ≡ b → (within_call (f.base + n + frame) (scattering (f.base + n) ps g)).what a ≡ scattered (f.base + n) ps w a
        go true e = ap (λ b. cond b (scattered (f.base + n) ps g.what a) beyond) e ∙ scattered_at (f.base + n) ps g.what w a (sym (ap (λ b. cond b (g.what a) beyond) e))
        go false e = ap (λ b. cond b (scattered (f.base + n) ps g.what a) beyond) e ∙ sym (⊎_elim
            (λ r. r ∙ ap (λ b. cond b (g.what a) beyond) e)
            (λ t. let (v, is, theirs) = t in let (k, z, lt) = theirs_in (f.base + n) m ps a lie theirs in absurd (let ge = ltb-false a g.top e in omega (arith, ge, z, lt, below)))
            (scattered_cases (f.base + n) ps w a))

    call_once : {g : Ghost} {env : Env} (depth : ℕ) (f : Fixed) → f.asked ≡ asked → f.calls + suc depth ≡ 1000 → (x : Ends) (s : Sight) (sub n q back : ℕ) (before after : List ℤ) (kept : List ℤ) (check : Checked) (ps : List Sent) (u : Callable program globals mains s sub)
        → ((f' : Fixed) → f'.calls ≡ f.calls + 1 → f'.asked ≡ f.asked → CallsDo limit cuts program globals mains c f' (Meaning.call ops limit program depth))
        → Knows limit cuts g f s env → n + shapes_cells (shapes program u.unit.formals) ≡ s.scope.free → s.scope.free ≤ s.cells → AreSuited (spots 0 (shapes program u.unit.formals)) ps → AreFree (f.base + n) (shapes_cells (shapes program u.unit.formals)) g.what
        → Calling limit c (with_kept kept f) q before after (sub + 1) n back (holds check) x.entry
        → Also limit c (with_kept kept f) x {A = Returned} (scattering (f.base + n) (pieces ps) g) (scattering (f.base + n) (aheads ps) g) (λ r d. Backs (f.base + n) ps r.cells d.cells) (Meaning.call ops limit program (suc depth) env.nested sub (test_of check) (all_passed ps))
        (λ d. on (with_kept kept f) q before d) (λ r d. on (with_kept kept f) back (given u.unit.result r.value ++ after) d)
    call_once {g} {env} depth f same_asked many x s sub n q back before after kept check ps u calls k whole room suited free begins =
        let b = stood sub u.unit u.is in
        let fk : Fixed = with_kept kept f in
        let hs : List Shape = shapes program u.unit.formals in
        let ks : List Spot = spots 0 hs in
        let count : ℕ = shapes_cells hs in
        let gk : Ghost = scattering (f.base + n) (pieces ps) g in
        let frame : ℕ = b.is.frame in
        let have : HaveCells count ps = have_cells hs ps suited in
        let B : Ghost = within_call (f.base + n + frame) g in
        let cells : ℕ = g.top + (f.base + n + frame - g.top) - (f.base + n) in
        let f' : Fixed = inner fk q back n after g.top in
        let t : Sight = sub_scope program globals mains texts text frames sub u.unit cells in
        let outside : Sight = outer_scope program globals mains texts text frames sub u.unit cells in
        let top : g.top ≡ f.base + s.cells = k.top in
        let enough : frame ≤ cells = omega arith in
        let base : Knows limit cuts B f' outside (Meaning.outset env.nested) = knows_call g f s env k sub n q back kept after u frame whole room in
        let few : f.calls < 1000 = omega (arith, many) in
        let end_ : Ghost = scattering (f.base + n) (aheads ps) g in
        also_seq limit c fk x {g = gk} {h = gk} {j = end_} (λ t d w. fit_aheads (f.base + n) count ps g have free w) (λ ts al. al) (does_turned limit c fk x cuts before (call_went limit b.is n back (holds check) (after ++ f.below)) (begins.does b.is b.here) k.most begins.at) (λ _ _.
        also_seq limit c fk x {g = gk} {h = gk} {j = end_} (λ t d w. fit_aheads (f.base + n) count ps g have free w) (λ ts al. al) (test_does x b.is n back check fk before after few begins.at) (λ _ good.
        subst (λ o. Also limit c fk x {A = Returned} gk end_ (λ r d. Backs (f.base + n) ps r.cells d.cells) (Meaning.exec_sub ops limit program (Meaning.call ops limit program depth) o env.nested (all_passed ps)) (λ d. driven limit c (call_went limit b.is n back (holds check) (after ++ f.below) (state_of fk q before [] None d)) d.world) (λ r d. on fk back (given u.unit.result r.value ++ after) d)) (sym u.is)
        (also_by limit c fk x (λ t d w. call_goes b.is n back g.top (holds check) fk before after d few good w.top)
        (also_apart limit c fk x {A = Returned} {g = gk} {p = λ r d. Backs (f.base + n) ps r.cells d.cells} {p' = λ r d. Backs (f.base + n) ps r.cells d.cells} back n (f.base + n + frame) after (scattered (f.base + n) (aheads ps) B.what) (scattered (f.base + n) (aheads ps) g.what) begins.at
        (λ a le. ⊎_elim (λ e. e ∙ k.beyond a le) (λ r. let (v, e, theirs) = r in let (i, z, l) = theirs_in (f.base + n) count (aheads ps) a (aheads_in count ps have) theirs in absurd (omega (arith, z, l, le, whole, room, top))) (scattered_cases (f.base + n) (aheads ps) g.what a))
        (λ a lt. scattered_at (f.base + n) (aheads ps) B.what g.what a (what_inside g f s env k sub n q back kept after u frame whole room a lt))
        (λ r d bs. backs_cut g.top (f.base + n) count ps r.cells d.cells have (omega (arith, whole, room, top)) bs)
        (also_alike limit c f' (called_ends limit c x g.top) (scattered (f.base + n) (pieces ps) B.what) (args_alike g f n count frame (pieces ps) (pieces_in count ps have) (omega (arith, whole, room, top)))
        (formals_do {A = Returned} {q = λ r d. Backs (f.base + n) ps r.cells d.cells} f' (called_ends limit c x g.top) count ks ps outside B base (le_refl count) (let e = b.enough in omega (arith, e, enough)) (spots_fresh 0 hs outside (b.fresh cells)) suited have
        (all_free (f.base + n) count B.what ps have (free_call g f s env k sub n q back kept after u frame whole room count whole free))
        (λ B' k'.
        let k'' : Knows limit cuts B' f' t (Meaning.outset env.nested) = knows_placed hs outside k' in
        body_does fk x q back n after g.top (Meaning.call ops limit program depth) u.unit t env.nested b.is.entry b.to ps (f.base + n) (spread_all f' ks ps suited (spots_back 0 hs t (b.backs cells)) k'') (record { called = λ rs. calls (with_rounds rs f') refl refl; forked = (pars f' same_asked depth (λ f'' e. calls f'' e.0 e.1)).forked }) (pars f' same_asked depth (λ f'' e. calls f'' e.0 e.1)).parallel k'' refl refl (λ m. refl) refl same_texts (b.fitted cells enough) (b.stands cells enough))))))))

    pub call_do : (depth : ℕ) (f : Fixed) → f.asked ≡ asked → f.calls + depth ≡ 1000 → CallsDo limit cuts program globals mains c f (Meaning.call ops limit program depth)
    call_do zero f same_asked many = record {
      countable = countable;
      by = λ {g} x s sub n q back before after kept check ps u k whole room suited free begins.
          let b = stood sub u.unit u.is in
          let fk : Fixed = with_kept kept f in
          let hs : List Shape = shapes program u.unit.formals in
          also_seq limit c fk x {h = scattering (f.base + n) (pieces ps) g} (λ t d w. fit_aheads (f.base + n) (shapes_cells hs) ps g (have_cells hs ps suited) free w) (λ ts al. al) (does_turned limit c fk x cuts before (call_went limit b.is n back (holds check) (after ++ f.below)) (begins.does b.is b.here) k.most begins.at) (λ _ _.
          also_weak limit c fk x (λ t d w. fit_aheads (f.base + n) (shapes_cells hs) ps g (have_cells hs ps suited) free w)
          (also_raised limit c fk x reason.StorageError (λ t. raise_is reason.StorageError t) (λ d. full_goes b.is n back (holds check) fk before after d (omega (arith, many)) begins.at)));
    }
    call_do (suc depth) f same_asked many = record {
      countable = countable;
      by = λ x s sub n q back before after kept check ps u k whole room suited free begins.
          call_once depth f same_asked many x s sub n q back before after kept check ps u (λ f' e a. call_do depth f' (a ∙ same_asked) (omega (arith, many, e))) k whole room suited free begins;
    }
