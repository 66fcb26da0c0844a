-- At a construct the leases that are computed of granted paths are those of what its threads may write.
use Rattle.std.proofs.Common.{◌≡◌, ℕ, zero, suc, ◌+◌, nat_eq, ℤ, List, [], ◌∷◌, slice_get, inl, inr, Option, Some, None, Bool, true, false, not, cond, refl, sym, ap, ◌∙◌, subst, arith, eqb-true, eq-eqb}
use Rattle.std.proofs.lemmas.Option.{none-some}
use Rattle.behaviours.specs.Paths.{Entity, VariableOf}
use Rattle.typed_tree.specs.declared.program.Site.{Site as Row}
use Rattle.typed_tree.specs.Syntax.{Program}
use Rattle.typed_sites.specs.Sites.{SitesAreDistinct}
use Rattle.typed_scopes.specs.Scopes.{Around}
use Rattle.ada_meaning.specs.Shapes.{object_shape}
use Rattle.ada_meaning.proofs.Cells.{some_same}
use Rattle.check_effects.specs.Effects.{Access, Construct, LoopOf, BlockOf, ReductionOf, Holds}
use Rattle.check_effects.specs.Conflicts.{EffectPath, path_of, InProgram, IsGranted, IsThreadEffect}
use Rattle.check_effects.specs.Covered.{arm_of, has_items, site_of}
use Rattle.check_clashes.specs.declared.granted.Grant.{Grant}
use Rattle.check_clashes.specs.declared.granted.Grants.{Grants}
use Rattle.check_conflicts.specs.Answer.{AreGrants}
use Rattle.check_inference.specs.Exact.{IsIn, OfThread, effect_path, is_block}
use Rattle.stack_code.specs.declared.code.CodeSite.{CodeSite}
use Rattle.stack_code.specs.declared.code.Lease as code
use Rattle.lower_emission.specs.declared.types.Named.{Named}
use Rattle.lower_emission.specs.declared.types.Placed.{Placed}
use Rattle.lower_emission.specs.Programs.{code_of, code_site, code_sites, placed_code}
use Rattle.ada_lower.specs.Leases.{Way, all_leased, frame_of, leased, leases_of, steps_of, way_of}
use Rattle.ada_lower.specs.Lending.{Among, IsOfArm}
use Rattle.ada_lower.specs.Leased.{AreLeased, IsLease, LiesUnderPath}
use Rattle.ada_lower.specs.Sights.{Sight}
use Rattle.lower_laws.specs.Granted.{AreGranted, granted_by, paths_at, told}
use Rattle.lower_laws.proofs.Once.{same_construct}
use Rattle.lower_laws.proofs.Here.{IsKind, Sees}
use Rattle.lower_laws.proofs.Ways.{InWay, Tied, either_tied, in_lease, lease_in}

-- ---- the paths of a site

pair_parts : {A B : Type 0} {x y : A} {u v : B} → ◌≡◌ {A = A × B} (x, u) (y, v) → (x ≡ y) × (u ≡ v)
pair_parts {A} {B} e = (ap (λ (z : A × B). z.0) e, ap (λ (z : A × B). z.1) e)

abbrev FoundPath : (site arm : ℕ) → EffectPath → List Grant → Type 0
FoundPath site arm p gs = (g : Grant) × IsIn g gs × (g.site ≡ site) × (g.arm ≡ arm) × (effect_path g.path ≡ p)

path_among : (site arm : ℕ) (p : EffectPath) (gs : List Grant) → Among (arm, p) (paths_at site gs) → FoundPath site arm p gs
path_among site arm p [] h = absurd h
path_among site arm p (g ∷ gs) h = go (nat_eq g.site site) refl (path_among site arm p gs) h
  where
    later : FoundPath site arm p gs → FoundPath site arm p (g ∷ gs)
    later (f, i, s, a, e) = (f, inr i, s, a, e)

    go : (b : Bool) → nat_eq g.site site ≡ b → (Among (arm, p) (paths_at site gs) → FoundPath site arm p gs) → Among (arm, p) (cond b ((g.arm, effect_path g.path) ∷ paths_at site gs) (paths_at site gs)) → FoundPath site arm p (g ∷ gs)
    go true e more (inl is) = let z = pair_parts is in (g, inl refl, eqb-true g.site site e, sym z.0, sym z.1)
    go true e more (inr h) = later (more h)
    go false e more h = later (more h)

among_paths : (g : Grant) (gs : List Grant) → IsIn g gs → Among (g.arm, effect_path g.path) (paths_at g.site gs)
among_paths g [] i = absurd i
among_paths g (f ∷ fs) (inl e) = subst (λ z. Among (g.arm, effect_path g.path) (cond z ((f.arm, effect_path f.path) ∷ paths_at g.site fs) (paths_at g.site fs))) (sym (ap (λ (h : Grant). nat_eq h.site g.site) (sym e) ∙ eq-eqb g.site g.site refl)) (inl (ap (λ (h : Grant). (h.arm, effect_path h.path)) e))
among_paths g (f ∷ fs) (inr i) = go (nat_eq f.site g.site) (among_paths g fs i)
  where
    go : (b : Bool) → Among (g.arm, effect_path g.path) (paths_at g.site fs) → Among (g.arm, effect_path g.path) (cond b ((f.arm, effect_path f.path) ∷ paths_at g.site fs) (paths_at g.site fs))
    go true h = inr h
    go false h = h

pub granted_law : (program : Program) (grants : Grants) → AreGrants program grants → AreGranted program (granted_by grants)
granted_law program grants are = record {
  written = λ site arm p h.
      let (g, i, at, a, e) = path_among site arm p grants.owned h in
      let (k, held, num, all) = are.written g i in
      (k, held, num ∙ at, λ j of. let (x, granted, path) = all j (subst (λ z. OfThread (is_block k) j z) (sym a) of) in (x, granted, path ∙ e));
  all = λ k held j a is.
      let (g, i, at, of, path) = are.granted k held j a is in
      (g.arm, subst (λ s. Among (g.arm, path_of a) (paths_at s grants.owned)) at (subst (λ p. Among (g.arm, p) (paths_at g.site grants.owned)) path (among_paths g grants.owned i)), of);
}

-- ---- leases of paths

abbrev lease_by : ℕ → Named → Way → code.Lease
lease_by arm m w = record { arm = arm; frame = frame_of m.place.level; base = m.place.cell + w.base; steps = steps_of w.places; run = w.run }

module _ (program : Program) (names : Entity → Option Named) (loops : Bool) where
  abbrev way_at : EffectPath → Option Way
  way_at p = way_of loops None (object_shape program p.object) p.selectors 0

  lease_among : (gs : List (ℕ × EffectPath)) (arm : ℕ) (p : EffectPath) (m : Named) (w : Way) → Among (arm, p) gs → names (VariableOf p.object) ≡ Some m → way_at p ≡ Some w → Among (lease_by arm m w) (all_leased program names loops gs)
  lease_among [] arm p m w h n e = absurd h
  lease_among (g ∷ gs) arm p m w (inl is) n e =
      subst (λ (z : ℕ × EffectPath). Among (lease_by arm m w) (all_leased program names loops (z ∷ gs))) is
      (subst (λ o. Among (lease_by arm m w) (leased arm o (way_at p) (all_leased program names loops gs))) (sym n) (subst (λ o. Among (lease_by arm m w) (leased arm (Some m) o (all_leased program names loops gs))) (sym e) (inl refl)))
  lease_among ((b, q) ∷ gs) arm p m w (inr h) n e = go (names (VariableOf q.object)) (way_at q) (lease_among gs arm p m w h n e)
    where
      go : (o : Option Named) (u : Option Way) → Among (lease_by arm m w) (all_leased program names loops gs) → Among (lease_by arm m w) (leased b o u (all_leased program names loops gs))
      go None u h = h
      go (Some x) None h = h
      go (Some x) (Some y) h = inr h

  abbrev Computed : List (ℕ × EffectPath) → code.Lease → Type 0
  Computed gs l = (arm : ℕ) × (p : EffectPath) × (m : Named) × (w : Way) × Among (arm, p) gs × (names (VariableOf p.object) ≡ Some m) × (way_at p ≡ Some w) × (l ≡ lease_by arm m w)

  pub among_leases : (gs : List (ℕ × EffectPath)) (l : code.Lease) → Among l (all_leased program names loops gs) → Computed gs l
  among_leases [] l h = absurd h
  among_leases ((b, q) ∷ gs) l h = go (names (VariableOf q.object)) (way_at q) refl refl (among_leases gs l) h
    where
      later : Computed gs l → Computed ((b, q) ∷ gs) l
      later (arm, p, m, w, i, n, e, is) = (arm, p, m, w, inr i, n, e, is)

      go : (o : Option Named) (u : Option Way) → names (VariableOf q.object) ≡ o → way_at q ≡ u → (Among l (all_leased program names loops gs) → Computed gs l) → Among l (leased b o u (all_leased program names loops gs)) → Computed ((b, q) ∷ gs) l
      go None u n e more h = later (more h)
      go (Some x) None n e more h = later (more h)
      go (Some x) (Some y) n e more (inl is) = (b, q, x, y, inl refl, n, e, is)
      go (Some x) (Some y) n e more (inr h) = later (more h)

-- ---- the leases of a site

-- the row of a site has its leases
rows_from : (c : List Placed) (leases : ℕ → List code.Lease) (n : ℕ) (rows : List Row) (k : ℕ) (cs : CodeSite) → slice_get (code_sites c leases n rows) k ≡ Some cs → cs.leases ≡ leases (n + k)
rows_from c leases n [] k cs e = absurd (none-some cs e)
rows_from c leases n (x ∷ rows) zero cs e = ap (λ (s : CodeSite). s.leases) (sym (some_same (code_site c leases n) cs e)) ∙ ap leases (let z : n ≡ n + 0 = omega arith in z)
rows_from c leases n (x ∷ rows) (suc k) cs e = rows_from c leases (n + 1) rows k cs e ∙ ap leases (let z : n + 1 + k ≡ n + suc k = omega arith in z)

pub row_leases : (program : Program) (leases : ℕ → List code.Lease) (site : ℕ) (cs : CodeSite) → slice_get (code_of program leases).sites site ≡ Some cs → cs.leases ≡ leases site
row_leases program leases site cs e = rows_from (placed_code program) leases 0 program.sites site cs e ∙ ap leases (let z : 0 + site ≡ site = omega arith in z)

module _ (program : Program) (names : ℕ → Entity → Option Named) (ranges : ℕ → Bool) (granted : ℕ → List (ℕ × EffectPath)) (distinct : SitesAreDistinct program) (are : AreGranted program granted) where
  module _ (v : Around) (s : Sight) (site : ℕ) (cs : CodeSite) (k : Construct) (held : InProgram program (Holds k)) (num : site_of k ≡ site) (items : Bool) (goes : has_items k ≡ items) (sees : Sees program v s) (here : cs.leases ≡ leases_of program names ranges granted site) (kind : IsKind k cs.kind) (tells : told program names ranges items s site cs) where
    abbrev Lease' : EffectPath → code.Lease → Type 0
    Lease' p l = IsLease program s.scope.object s.global s.main s.seen items p l

    loops_is : ranges site ≡ not items
    loops_is = tells.0

    abbrev way_here : EffectPath → Option Way
    way_here p = way_of (not items) None (object_shape program p.object) p.selectors 0

    zero_plus : (n : ℕ) → 0 + n ≡ n
    zero_plus n = omega arith

    -- the lease of a path that is written
    is_lease : (arm : ℕ) (p : EffectPath) (m : Named) (w : Way) → s.scope.object (VariableOf p.object) ≡ Some m → way_here p ≡ Some w → Lease' p (lease_by arm m w)
    is_lease arm p m w e way =
        let z = sees.named (VariableOf p.object) m e in
        let tied : (v ch : ℤ) → Tied v ch 0 (λ n. LiesUnderPath program items v ch p n) (Some w) = λ v ch. subst (λ o. Tied v ch 0 (λ n. LiesUnderPath program items v ch p n) o) way (either_tied v ch items (object_shape program p.object) p.selectors 0) in
        record {
          named = m;
          here = e;
          direct = z.direct;
          everywhere = z.everywhere;
          frame = refl;
          enough = z.enough;
          under = λ v ch c h.
              let (c', at, way') = lease_in v ch (lease_by arm m w) m.place.cell w refl refl refl c h in
              let (n, e', lies) = (tied v ch).0 c' way' in (n, at ∙ ap (λ z. m.place.cell + z) (e' ∙ zero_plus n), lies);
          all = λ v ch n h. in_lease v ch (lease_by arm m w) m.place.cell w refl refl refl n (subst (λ z. InWay v ch w z) (zero_plus n) ((tied v ch).1 n h));
        }

    -- what threads of the construct write is in scope
    effect : (j i at : ℕ) (a : Access) → IsThreadEffect program k (arm_of k j i) at a → a.writes ≡ true → (m : Named) × (s.scope.object (VariableOf a.object) ≡ Some m) × (names site (VariableOf a.object) ≡ Some m)
    effect j i at a e w = tells.1 k held num (arm_of k j i) at a e w

    site_leases : cs.leases ≡ all_leased program (names site) (not items) (granted site)
    site_leases = here ∙ ap (λ b. all_leased program (names site) b (granted site)) loops_is

    -- each lease is of a written path
    record Found (l : code.Lease) : Type 0 where
      pub arm : ℕ
      pub path : EffectPath
      pub named : Named
      pub way : Way
      pub written : Among (arm, path) (granted site)
      pub name : names site (VariableOf path.object) ≡ Some named
      pub leads : way_here path ≡ Some way
      pub is : l ≡ lease_by arm named way

    found : (l : code.Lease) → Among l cs.leases → Found l
    found l h =
        let (arm, p, m, w, i, n, e, is) = among_leases program (names site) (not items) (granted site) l (subst (λ ls. Among l ls) site_leases h) in
        record { arm = arm; path = p; named = m; way = w; written = i; name = n; leads = e; is = is }

    -- by a thread of the construct itself
    by_thread : (l : code.Lease) (f : Found l) (j i : ℕ) → OfThread (is_block k) (arm_of k j i) f.arm → (at : ℕ) × (a : Access) × IsThreadEffect program k (arm_of k j i) at a × (a.writes ≡ true) × Lease' (path_of a) l
    by_thread l f j i of =
        let (k', held', num', all) = are.written site f.arm f.path f.written in
        let same : k' ≡ k = same_construct program distinct k' k held' held (num' ∙ sym num) in
        let (a, (at, e, w), path) = subst (λ k. (j : ℕ) → OfThread (is_block k) j f.arm → (a : Access) × IsGranted program k j a × (path_of a ≡ f.path)) same all (arm_of k j i) of in
        let (m, here', name') = effect j i at a e w in
        let object : a.object ≡ f.path.object = ap (λ (p : EffectPath). p.object) path in
        let named : m ≡ f.named = some_same m f.named (sym name' ∙ ap (λ x. names site (VariableOf x)) object ∙ f.name) in
        let z : Lease' (path_of a) (lease_by f.arm m f.way) = is_lease f.arm (path_of a) m f.way here' (ap way_here path ∙ f.leads) in
        (at, a, e, w, subst (λ l. Lease' (path_of a) l) (ap (λ m. lease_by f.arm m f.way) named ∙ sym f.is) z)

    -- an iteration whose thread takes an arm, where one does
    some_arm : (arm : ℕ) → OfThread (is_block k) (arm_of k arm arm) arm
    some_arm arm = go k
      where
        go : (k : Construct) → OfThread (is_block k) (arm_of k arm arm) arm
        go (LoopOf site r chunk iteration stmts) = tt
        go (BlockOf site r count arms) = refl
        go (ReductionOf site r by chunk iteration value) = tt

    pub are_leased : AreLeased program s.scope.object s.global s.main s.seen items site cs
    are_leased = record {
      goes = λ k' held' num'. ap has_items (same_construct program distinct k' k held' held (num' ∙ sym num)) ∙ goes;
      granted = λ k' held' num' j i at a e w may v ch n lies.
          let same : k' ≡ k = same_construct program distinct k' k held' held (num' ∙ sym num) in
          let e' : IsThreadEffect program k (arm_of k j i) at a = subst (λ k. IsThreadEffect program k (arm_of k j i) at a) same e in
          let (arm, i', of) = are.all k held (arm_of k j i) a (at, e', w) in
          let (m, here', name') = effect j i at a e' w in
          let written : Among (arm, path_of a) (granted site) = subst (λ s. Among (arm, path_of a) (granted s)) num i' in
          leased_of j i a arm m written here' name' of v ch n lies (way_here (path_of a)) refl;
      leased = λ k' held' num' l h j i of.
          let same : k' ≡ k = same_construct program distinct k' k held' held (num' ∙ sym num) in
          let f = found l h in
          subst (λ k. (at : ℕ) × (a : Access) × IsThreadEffect program k (arm_of k j i) at a × (a.writes ≡ true) × Lease' (path_of a) l) (sym same) (by_thread l f j i ((kind j i f.arm).0 (subst (λ (l : code.Lease). IsOfArm cs.kind i l.arm) f.is of)));
      inside = λ l h.
          let f = found l h in
          let (at, a, e, w, z) = by_thread l f f.arm f.arm (some_arm f.arm) in (path_of a, z);
    }
      where
        leased_of : (j i : ℕ) (a : Access) (arm : ℕ) (m : Named) → Among (arm, path_of a) (granted site) → s.scope.object (VariableOf a.object) ≡ Some m → names site (VariableOf a.object) ≡ Some m → OfThread (is_block k) (arm_of k j i) arm
            → (v ch : ℤ) (n : ℕ) → LiesUnderPath program items v ch (path_of a) n → (o : Option Way) → way_here (path_of a) ≡ o → (l : code.Lease) × Among l cs.leases × IsOfArm cs.kind i l.arm × Lease' (path_of a) l
        leased_of j i a arm m written here' name' of v ch n lies None e = absurd (subst (λ o. Tied v ch 0 (λ n. LiesUnderPath program items v ch (path_of a) n) o) e (either_tied v ch items (object_shape program a.object) (path_of a).selectors 0) n lies)
        leased_of j i a arm m written here' name' of v ch n lies (Some w) e = (
          lease_by arm m w,
          subst (λ ls. Among (lease_by arm m w) ls) (sym site_leases) (lease_among program (names site) (not items) (granted site) arm (path_of a) m w written name' e),
          (kind j i arm).1 of,
          is_lease arm (path_of a) m w here' e,
        )
