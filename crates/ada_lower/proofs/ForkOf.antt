-- Parallel loops over the components of an array, whole.
use Rattle.std.proofs.Common.{◌≡◌, ℕ, ◌+◌, ◌-◌, ◌*◌, ◌<◌, ◌≤◌, ℤ, pos, ◌+ℤ◌, ◌-ℤ◌, nat_le, List, [], ◌∷◌, slice_get, Option, Some, Err, Bool, true, cond, refl, sym, ap, ap₂, ◌∙◌, subst, le_refl, arith, inl}
use Rattle.std.proofs.lemmas.Int.{ints}
use Rattle.ada_base.specs.declared.reason.Reason.TheVariants as reason
use Rattle.behaviours.specs.Doings.{through}
use Rattle.behaviours.specs.Joins.{Site, deal}
use Rattle.behaviours.specs.Paths.{Leave, Exits, Returns, Raises, Entity}
use Rattle.typed_tree.specs.declared.expressions.Root.{Root}
use Rattle.typed_tree.specs.Syntax.{Expr, Optional, Iteration, Components, Chunk, NoChunk, Count, Each, Selections, Program}
use Rattle.ada_meaning.specs.Operations.{chunk_of, Operations}
use Rattle.ada_meaning.specs.Stored as stored
use Rattle.ada_meaning.specs.Stored.{Stored}
use Rattle.ada_meaning.specs.Meaning
use Rattle.ada_meaning.specs.Meaning.{Env, ObjectPart, Passed, Returned, Chunking, Course, inside, most_iterations, cut_of, most_threads}
use Rattle.stack_code.specs.declared.code.Code.{Code}
use Rattle.stack_code.specs.declared.code.CodeSite.{CodeSite}
use Rattle.stack_code.specs.declared.instr.Instr.TheVariants as i
use Rattle.stack_code.specs.declared.path.Asked.{Asked}
use Rattle.stack_code.specs.declared.path.Gave.TheVariants as gave
use Rattle.stack_code.specs.Deeds
use Rattle.stack_code.specs.Deeds.{many, natural}
use Rattle.ada_lower.specs.Driven.{Dyn, Fixed, Step, on, thrown, sizes_for, answer_of, Alike}
use Rattle.ada_lower.proofs.Alike.{alike}
use Rattle.ada_lower.specs.Sights.{Emit, Named, Scope, Sight, Stands, array_root_of, chunk_sight, nested_sight, one, taking, thread_sight, turn_sight, ◌⨟◌}
use Rattle.ada_lower.specs.Emission
use Rattle.ada_lower.specs.Emission.{selected, exiting, loop_kind, parallel_for, chunk_code, course_code, ends_code, fork_code, left_code, filtered}
use Rattle.ada_lower.specs.Fits
use Rattle.ada_lower.specs.Fits.{Keeps, Free, Ghost, Fit, Ends, Knows, Refers, Spread}
use Rattle.ada_lower.specs.Fitted.{Reaches, FittedSelections}
use Rattle.ada_lower.specs.FittedForks.{FittedChunk, Within}
use Rattle.ada_lower.proofs.Forks.{threaded, thread_ends}
use Rattle.ada_lower.proofs.Inner.{InnerDo}
use Rattle.ada_lower.proofs.Framework.{itself, any, To, Doing, comes_here, comes_on, comes_goes, does_bind, does_assoc, does_returned}
use Rattle.ada_lower.proofs.Memory.{set_what, what_same, what_other, own_free, knows_keep, fit_unset, free_extends}
use Rattle.ada_lower.proofs.Standing.{stands_seq}
use Rattle.ada_lower.proofs.Parts.{Runs, does_weak, does_keep}
use Rattle.ada_lower.proofs.Names.{does_by}
use Rattle.ada_lower.proofs.Items.{named_entity, array_refers}
use Rattle.ada_lower.proofs.Operands.{address_stands, named_does}
use Rattle.ada_lower.proofs.Expressions.{at_entry, selected_does, spread_part}
use Rattle.ada_lower.proofs.Actuals.{spread_more}
use Rattle.ada_lower.proofs.Loops.{counts_at, first_at, last_at}
use Rattle.ada_lower.proofs.Courses.{knows_counts, comes_kept}
use Rattle.ada_lower.proofs.Statements.{Suits, suits_as, Acts}
use Rattle.ada_lower.proofs.ForkInside.{nested_in, raises_same, LeftAs, left_as_nested, does_inside, does_opened}
use Rattle.ada_lower.proofs.ForkLeft.{In, MayLeave}
use Rattle.ada_lower.proofs.ForkFor.{stands_behind, forked_does}
use Rattle.ada_lower.proofs.ForkRange.{Chunks, numbered, plain_kind, knows_forked, knows_nested}
use Rattle.ada_lower.proofs.ForkDeals.{loop_shares}
use Rattle.ada_lower.proofs.ForkItems.{items_thread}
use Rattle.ada_lower.proofs.ForkChunks.{chunk_does}
use Rattle.ada_lower.proofs.ForkFine.{Lends}
use Rattle.ada_lower.proofs.ForkViews.{view_ghost, no_free}
use Rattle.ada_lower.proofs.ForkSights.{knows_view, number_view, spread_view}

pub many_is : (count : ℕ) → many (pos 1) (pos count) ≡ count
many_is count = let z : pos count +ℤ pos 1 -ℤ pos 1 ≡ pos count = omega (arith, ints) in ap natural z

-- the cell behind the own ones is taken besides
pub knows_two : {limit : ℕ} {cuts : ℕ → ℕ → List ℕ} {g : Ghost} {f : Fixed} {env : Env} (s : Sight) → Knows limit cuts g f (taking 1 s) env → Knows limit cuts g f (taking 2 s) env
knows_two s k = record { most = k.most; nested = k.nested; plan = k.plan; kept = k.kept; top = k.top; beyond = k.beyond; global = k.global; outside = k.outside; one = k.one; old = k.old; hidden = k.hidden; object = k.object; parameter = k.parameter; item = k.item; constant_item = k.constant_item; target = k.target; handled = k.handled; free = λ n le lt. k.free n (omega (arith, le)) lt }

-- it is dealt alike
sizes_same : (limit : ℕ) (cuts : ℕ → ℕ → List ℕ) (chunk : Chunk) (first last : ℤ) (count : ℕ) (k : Chunking) (site : ℕ) → Chunks chunk first last k
    → stored.sizes_of limit cuts (cut_of k count) ≡ sizes_for cuts (loop_kind chunk) (Deeds.asked site (pos 1) (pos count) first last (pos 0))
sizes_same limit cuts NoChunk first last count k site e = ap (λ k. stored.sizes_of limit cuts (cut_of k count)) e ∙ ap (λ n. cuts (many first last) n) (sym (many_is count))
sizes_same limit cuts (Count z) first last count k site e = ap (λ k. stored.sizes_of limit cuts (cut_of k count)) e ∙ ap (λ n. cuts (many first last) n) (sym (many_is count))
sizes_same limit cuts (Each n low high check) first last count k site e =
    ap (λ k. stored.sizes_of limit cuts (cut_of k count)) e ∙ ap (λ n. Rattle.ada_base.specs.Cuts.evens n (many first last)) (sym (many_is count))

-- the code of the array that is gone through puts its address into a cell
module _ (limit : ℕ) (cuts : ℕ → ℕ → List ℕ) (program : Program) (c : Code) (f : Fixed) (x : Ends) (calls : ℕ → ℕ → Stored (Unit {0}) → List Passed → Stored Returned) (globals : ℕ → Entity → Option Named) (mains : Entity → Bool) (epar : Sight → Expr → Type 0) (calls_do : InnerDo limit cuts program globals mains epar c f calls)
    {g : Ghost} {env : Env} (s : Sight) (kn : Knows limit cuts g f s env) (en : s.scope.entry ≡ x.entry) (room : s.scope.free < s.cells) (h : ℕ) (st : List ℤ)
    (p : ℕ) (constant : Bool) (at : ℕ) (r : Root) (selections : Selections) (count stride dimensions : ℕ) (filter : Optional) where
  -- where it is
  abbrev pub Placed : Ghost → ObjectPart → ℕ → Type 0
  Placed g q a = Spread g (named_entity constant q.object) q.offset (count * stride) a

  abbrev pub course_of : ObjectPart → Course
  course_of q = record { count = count; bound = λ i. Meaning.with_item constant p (Meaning.moved q (i * stride)) }

  pub array_does : {R : Type 0} {n : Named} (from to : ℕ) (then : Course → Stored R) (goal : R → Dyn → Step) → array_root_of constant s.scope r ≡ Some n → Reaches n.cells selections (count * stride) → FittedSelections program globals mains epar s selections
      → Stands c (course_code program s.scope h (Components p constant at r selections count stride dimensions filter)) from to
      → ((q : ObjectPart) (a : ℕ) → Placed (set_what (f.base + s.scope.free) (Keeps (pos a)) g) q a → Doing limit c f x (set_what (f.base + s.scope.free) (Keeps (pos a)) g) g any (then (course_of q)) (λ d. on f to st d) goal)
      → Runs limit c f x g any (stored.bind (Meaning.course (stored.noted_operations limit cuts) limit program calls (Components p constant at r selections count stride dimensions filter) env) then) (λ d. on f from st d) goal
  unfolding Rattle.ada_lower.specs.Emission.emit
  array_does {R} {n} from to then goal e reach ws l go =
      let o : ObjectPart = Meaning.array_root constant r env in
      let free1 : g.what (f.base + s.scope.free) ≡ Free = kn.free s.scope.free (le_refl s.scope.free) room in
      let v : Refers g f n (named_entity constant o.object) o.offset = array_refers constant r n kn e in
      let (m1, l1, l2) = stands_seq c from to (Emission.address s.scope h (array_root_of constant s.scope r)) (selected program s.scope (h + 1) selections ⨟ Emission.keep s.scope (h + 1) s.scope.free) l in
      let (m2, l3, (jk, z)) = stands_seq c m1 to (selected program s.scope (h + 1) selections) (Emission.keep s.scope (h + 1) s.scope.free) l2 in
      let (j1, z1) = address_stands limit cuts program c f x calls globals mains epar calls_do s h (array_root_of constant s.scope r) n from m1 e l1 in
      does_assoc limit c f x _ _ then
      (does_bind limit c f x (named_does limit cuts program c f x calls globals mains epar calls_do from m1 n (named_entity constant o.object) o.offset st v j1 z1
      (selected_does limit cuts program c f x calls globals mains epar calls_do selections m1 m2 s (h + 1) st o v.address o.offset n.cells n.cells (count * stride) kn en ws reach (le_refl o.offset) (le_refl (o.offset + n.cells)) v.spread.near l3)) (λ q is.
      let a : ℕ = v.address + (q.offset - o.offset) in
      let part : Placed g q a = spread_part limit cuts program c f x calls globals mains epar v.spread (ap (λ z. named_entity constant z) is.0) is.1 is.2 in
      does_returned limit c f x then (course_of q)
      (does_keep limit c f x m2 s.scope.free (pos a) st (own_free (g.what (f.base + s.scope.free)) free1) (at_entry en jk)
      (subst (λ z. Doing limit c f x (set_what (f.base + s.scope.free) (Keeps (pos a)) g) g any (then (course_of q)) (λ d. on f z st d) goal) z
      (go q a (spread_more (free_extends g (f.base + s.scope.free) (Keeps (pos a)) free1) part))))))

module _ (limit : ℕ) (cuts : ℕ → ℕ → List ℕ) (within : Within cuts) (program : Program) (c : Code) (f : Fixed) (calls : ℕ → ℕ → Stored (Unit {0}) → List Passed → Stored Returned) (globals : ℕ → Entity → Option Named) (mains : Entity → Bool) (epar : Sight → Expr → Type 0) (calls_all : (f' : Fixed) → Alike f' f → InnerDo limit cuts program globals mains epar c f' calls) where
  abbrev oper : Operations {1}
  oper = stored.noted_operations limit cuts

  module _ (x : Ends) (g : Ghost) (env : Env) (s : Sight) (kn : Knows limit cuts g f s env) (su : Suits limit c f x s) (kept : f.kept ≡ []) (nested : f.nested ≡ env.nested) (plan : g.plan ≡ cuts) (room : s.scope.free + 5 < s.cells)
      (number : ℕ) (all loops : List ℕ) (among : (n : ℕ) → In n loops → In n all) (exits_to : (n from to : ℕ) → In n loops → Stands c (exiting (taking 2 (taking 2 s)).scope n (s.scope.exits n)) from to → (d : Dyn) → To limit c (on f from [] d) (x.exits n d))
      (chunk : Chunk) (cs : CodeSite) (site : ℕ) (site_at : slice_get c.sites site ≡ Some cs) (kind : cs.kind ≡ loop_kind chunk) (four : 4 ≤ cs.frame) (five : 5 ≤ cs.frame) (entry : (qf : ℕ) → slice_get c.instrs qf ≡ Some (i.Fork site) → cs.entry ≡ qf + 1 + 1)
      (p : ℕ) (constant : Bool) (at : ℕ) (root : Root) (selections : Selections) (count stride dimensions : ℕ) (filter : Optional) (does : Env → Stored (Unit {0})) (body : Scope → Emit) where
    abbrev fi : Fixed
    fi = nested_in f

    abbrev it : Iteration
    it = Components p constant at root selections count stride dimensions filter

    abbrev r : Sight
    r = nested_sight s

    -- the scope of a turn
    abbrev pub turn : Sight
    turn = turn_sight (thread_sight site cs.frame (taking 2 (taking 2 s))) chunk it

    abbrev tests : Env → Stored Bool
    tests e = Meaning.holds oper limit program calls filter e

    abbrev g1 : ℤ → ℤ → Ghost
    g1 cl ch = counts_at limit cuts c f x s.scope.free cl ch g

    abbrev g2 : ℤ → ℤ → ℕ → Ghost
    g2 cl ch a = set_what (f.base + (s.scope.free + 2)) (Keeps (pos a)) (g1 cl ch)

    kn1 : (cl ch : ℤ) → Knows limit cuts (g1 cl ch) f (taking 2 s) env
    kn1 cl ch = knows_counts limit cuts c f s cl ch (omega (arith, room)) kn

    kn2 : (cl ch : ℤ) (a : ℕ) → Knows limit cuts (g2 cl ch a) f (taking 2 (taking 2 s)) env
    kn2 cl ch a = knows_two (taking 2 s) (knows_keep (pos a) (omega (arith, room)) (kn1 cl ch))

    left_as_back : LeftAs limit c f fi x
    left_as_back l d = back l
      where
        back : (l : Leave) → To limit c (Fits.left_by f x l d) (Fits.left_by fi x l d)
        back (Exits n) = comes_here limit c (x.exits n d)
        back (Returns v) = comes_here limit c (x.returns v d)
        back (Raises r) = subst (λ y. To limit c (thrown r x.entry f d) y) (sym (raises_same limit c f x r d)) (comes_here limit c (thrown r x.entry f d))

    abbrev course_with : ObjectPart → Course
    course_with q = record { count = count; bound = λ i. Meaning.with_item constant p (Meaning.moved q (i * stride)) }

    abbrev team_of : Chunking → ObjectPart → Site
    team_of k q = Meaning.site_at site chunk it (cut_of k count) k (course_with q) (inside env)

    abbrev after_course : Chunking → Course → Stored (Unit {0})
    after_course k co = stored.bind (Meaning.unless oper (nat_le co.count most_iterations) reason.StorageError)
        (λ _. stored.handles (stored.noted_loops limit cuts (Meaning.site_at site chunk it (cut_of k co.count) k co (inside env)) (cut_of k co.count) (λ j i. Meaning.iterate oper (tests (co.bound i (k.bound j (inside env)))) (does (co.bound i (k.bound j (inside env)))))) (Meaning.exits number) (λ _. stored.ret tt))

    kept_below : (cl ch : ℤ) (a n : ℕ) (v : ℤ) → n < s.scope.free + 2 → (g1 cl ch).what (f.base + n) ≡ Keeps v → (g2 cl ch a).what (f.base + n) ≡ Keeps v
    kept_below cl ch a n v lt e = what_other (g1 cl ch) (f.base + (s.scope.free + 2)) (f.base + n) (Keeps (pos a)) (λ z. omega (arith, z, lt)) ∙ e

    module _ (step : (f' : Fixed) (fc : Alike f' f) (top : ℕ) (is : f' ≡ threaded (nested_in f) top) (g' : Ghost) (env' : Env) (a b : ℕ) → Knows limit cuts g' f' turn env' → Stands c (filtered program turn.scope 0 filter (body turn.scope)) a b
        → Acts limit cuts program c f' calls globals mains epar (calls_all f' fc) thread_ends g' (stored.bind (tests env') (λ z. cond z (does env') (stored.ret tt))) a b)
        (leaves_so : (first size : ℕ) (envs : ℕ → Env) (st : stored.State) (l : Leave) → ((through stored.doings first size tt (λ i (_ : Unit {0}). Meaning.iterate oper (tests (envs i)) (does (envs i)))).does st).end ≡ Err (stored.Left l) → MayLeave (Some number) loops l)
        (lends : (k : Chunking) (cl ch : ℤ) (q : ObjectPart) (a0 : ℕ) → Chunks chunk cl ch k → (gg : Ghost) → Knows limit cuts gg (nested_in f) (taking 2 (taking 2 s)) (inside env) → Spread gg (named_entity constant q.object) q.offset (count * stride) a0
        → Lends (nested_in f) gg cs (Deeds.asked site (pos 1) (pos count) cl ch (pos 0)) (team_of k q) (deal 0 0 (sizes_for gg.plan cs.kind (Deeds.asked site (pos 1) (pos count) cl ch (pos 0))))) where
      -- from the array on
      ranged : (k : Chunking) (cl ch : ℤ) (q : ObjectPart) (a0 : ℕ) → Spread (g2 cl ch a0) (named_entity constant q.object) q.offset (count * stride) a0 → Chunks chunk cl ch k → nat_le 1 (many cl ch) ≡ true → nat_le (many cl ch) most_threads ≡ true → (m2 to : ℕ)
          → Stands c (ends_code (taking 2 r).scope 0 it ⨟ fork_code r.scope 0 2 (loop_kind chunk) site s.scope.free (one r.scope 4 (i.Push (pos 0)))
          (let t = thread_sight site cs.frame (taking 2 (taking 2 s)) in Emission.threaded program t.scope 0 chunk (s.scope.free + 1 + 1) it body ⨟ one (chunk_sight chunk (taking 2 t)).scope 0 i.End)
          ⨟ one r.scope 2 i.Unnest ⨟ left_code (taking 2 (taking 2 s)).scope (Some number) all) m2 to
          → Doing limit c f x (g2 cl ch a0) (g2 cl ch a0) any (after_course k (course_with q)) (λ d. on fi m2 [] d) (λ _ d. on f to [] d)
      unfolding Rattle.ada_lower.specs.Emission.emit Rattle.ada_lower.specs.Emission.stmt
      ranged k cl ch q a0 part told some few m2 to st =
          let s4 : Sight = taking 2 (taking 2 s) in
          let t : Sight = thread_sight site cs.frame s4 in
          let tb : Emit = Emission.threaded program t.scope 0 chunk (s.scope.free + 1 + 1) it body ⨟ one (chunk_sight chunk (taking 2 t)).scope 0 i.End in
          let fc : Emit = fork_code r.scope 0 2 (loop_kind chunk) site s.scope.free (one r.scope 4 (i.Push (pos 0))) tb in
          let (m3, (je1, (je2, ze)), r3) = stands_seq c m2 to (ends_code (taking 2 r).scope 0 it) (fc ⨟ one r.scope 2 i.Unnest ⨟ left_code s4.scope (Some number) all) st in
          let (m4, (jd0, (jd1, (jp, (jf, lb)))), (ju, ll)) = stands_seq c m3 to fc (one r.scope 2 i.Unnest ⨟ left_code s4.scope (Some number) all) r3 in
          let (jj, bd) = stands_behind c (m3 + 1 + 1 + 1 + 1) m4 r.scope 2 tb lb in
          let goal : Unit {0} → Dyn → Step = λ _ d. on f to [] d in
          let l : ℤ = pos 1 in
          let u : ℤ = pos count in
          let asking : Asked = Deeds.asked site l u cl ch (pos 0) in
          let gg : Ghost = g2 cl ch a0 in
          let same_cell : s.scope.free + 1 + 1 ≡ s.scope.free + 2 = omega arith in
          does_by limit c f x (λ stt d w.
          comes_on limit c (comes_goes limit c fi [] (m2 + 1) (l ∷ []) d je1 refl)
          (comes_on limit c (comes_goes limit c fi (l ∷ []) (m2 + 1 + 1) (u ∷ l ∷ []) d je2 refl)
          (subst (λ z. To limit c (on fi z (u ∷ l ∷ []) d) (on fi (m3 + 1 + 1 + 1) (pos 0 ∷ ch ∷ cl ∷ u ∷ l ∷ []) d)) ze
          (comes_on limit c (comes_kept limit cuts c fi s.scope.free cl (u ∷ l ∷ []) d w (kept_below cl ch a0 s.scope.free cl (omega arith) (first_at limit cuts c f x s.scope.free cl ch g)) jd0)
          (comes_on limit c (comes_kept limit cuts c fi (s.scope.free + 1) ch (cl ∷ u ∷ l ∷ []) d w (kept_below cl ch a0 (s.scope.free + 1) ch (omega arith) (last_at limit cuts c f x s.scope.free cl ch g)) jd1)
          (comes_goes limit c fi (ch ∷ cl ∷ u ∷ l ∷ []) (m3 + 1 + 1 + 1) (pos 0 ∷ ch ∷ cl ∷ u ∷ l ∷ []) d jp refl))))))
          (subst (λ n. Doing limit c f x gg gg any (stored.bind (Meaning.unless oper (nat_le n most_iterations) reason.StorageError)
          (λ _. stored.handles (stored.noted_loops limit cuts (team_of k q) (cut_of k count) (λ j i. Meaning.iterate oper (tests ((course_with q).bound i (k.bound j (inside env)))) (does ((course_with q).bound i (k.bound j (inside env)))))) (Meaning.exits number) (λ _. stored.ret tt)))
          (λ d. on fi (m3 + 1 + 1 + 1) (pos 0 ∷ ch ∷ cl ∷ u ∷ l ∷ []) d) goal) (many_is count)
          (forked_does limit cuts program c f calls globals mains epar calls_all x gg env s4 (kn2 cl ch a0) (suits_as s4 s refl refl refl refl refl (λ n. refl) su) (omega (arith, room)) kept all loops among exits_to
          (Some number) (m3 + 1 + 1 + 1) m4 to (at_entry su.entry jj) (at_entry su.entry ju) ll gg (λ a y z e. inl e) (λ stt d w. w) (MayLeave (Some number) loops) (λ w m. m)
          cs site l u cl ch site_at (at_entry su.entry jf)
          (λ vs. ap (λ kd. answer_of c kd asking (gave.Numbers vs)) kind ∙ plain_kind c chunk asking vs) some few (team_of k q)
          (λ j i. Meaning.iterate oper (tests ((course_with q).bound i (k.bound j (inside env)))) (does ((course_with q).bound i (k.bound j (inside env)))))
          (cut_of k count)
          (sizes_same limit cuts chunk cl ch count k site told ∙ ap₂ (λ pl kd. sizes_for pl kd asking) (sym plan) (sym kind))
          (λ j. j.first + j.size ≤ asking.count) (loop_shares cuts gg.plan within plan chunk asking cs.kind kind)
          (λ j inn. items_thread limit cuts program c fi calls globals mains epar calls_all gg s4 (inside env) (knows_forked (kn2 cl ch a0)) site cs four five count stride cl ch (pos 0) j (let z = many_is count in omega (arith, inn, z)) (s.scope.free + 1 + 1) a0
          (inl (ap (λ n. gg.what (f.base + n)) same_cell ∙ what_same (g1 cl ch) (f.base + (s.scope.free + 2)) (Keeps (pos a0)))) (omega (arith, room)) part.near p constant q part chunk k told (chunk_of (cut_of k count) j.number) (numbered chunk cl ch k count j.number told) (MayLeave (Some number) loops) tests does
          (filtered program turn.scope 0 filter (body turn.scope)) m4 (subst (λ z. Stands c tb z m4) (sym (entry (m3 + 1 + 1 + 1) (itself refl jf))) bd)
          (λ g' env' a b kk ss. step (threaded fi gg.top) (alike f) gg.top refl g' env' a b kk ss)
          (λ stt w e. leaves_so j.first j.size _ stt w e))
          (knows_forked (kn2 cl ch a0)) (lends k cl ch q a0 told gg (knows_forked (kn2 cl ch a0)) part)
          (λ owner apart j inn. items_thread limit cuts program c fi calls globals mains epar calls_all (view_ghost owner j.number gg) (no_free s4) (inside env) (knows_view owner j.number (knows_forked (kn2 cl ch a0)) apart) site cs four five count stride cl ch (pos 0) j (let z = many_is count in omega (arith, inn, z)) (s.scope.free + 1 + 1) a0
          (number_view owner j.number (knows_forked (kn2 cl ch a0)) apart (f.base + (s.scope.free + 1 + 1)) (pos a0) (inl (ap (λ n. gg.what (f.base + n)) same_cell ∙ what_same (g1 cl ch) (f.base + (s.scope.free + 2)) (Keeps (pos a0))))) (omega (arith, room)) part.near p constant q (spread_view owner j.number (knows_forked (kn2 cl ch a0)) apart (named_entity constant q.object) q.offset (count * stride) a0 part) chunk k told (chunk_of (cut_of k count) j.number) (numbered chunk cl ch k count j.number told) (MayLeave (Some number) loops) tests does
          (filtered program turn.scope 0 filter (body turn.scope)) m4 (subst (λ z. Stands c tb z m4) (sym (entry (m3 + 1 + 1 + 1) (itself refl jf))) bd)
          (λ g' env' a b kk ss. step (threaded fi gg.top) (alike f) gg.top refl g' env' a b kk ss)
          (λ stt w e. leaves_so j.first j.size _ stt w e))))

      abbrev pub parallel : Stored (Unit {0})
      parallel = stored.bind (Meaning.opened oper env) (λ _. stored.bind (Meaning.chunking oper limit program calls chunk (inside env)) (λ k. stored.bind (Meaning.course oper limit program calls it (inside env)) (λ co. after_course k co)))

      -- a parallel loop over components
      pub parallel_of_does : {e : Named} → FittedChunk program globals mains epar r chunk → array_root_of constant (taking 2 r).scope root ≡ Some e → Reaches e.cells selections (count * stride) → FittedSelections program globals mains epar (taking 2 r) selections → (from to : ℕ)
          → Stands c (parallel_for program s.scope number site chunk it all body) from to → Acts limit cuts program c f calls globals mains epar (calls_all f (alike f)) x g parallel from to
      unfolding Rattle.ada_lower.specs.Emission.emit Rattle.ada_lower.specs.Emission.stmt
      parallel_of_does wc is reach ws from to (jn, st) =
          let s4 : Sight = taking 2 (taking 2 s) in
          let t : Sight = thread_sight site cs.frame s4 in
          let tb : Emit = Emission.threaded program t.scope 0 chunk (s.scope.free + 1 + 1) it body ⨟ one (chunk_sight chunk (taking 2 t)).scope 0 i.End in
          let rest : Emit = ends_code (taking 2 r).scope 0 it ⨟ fork_code r.scope 0 2 (loop_kind chunk) site s.scope.free (one r.scope 4 (i.Push (pos 0))) tb ⨟ one r.scope 2 i.Unnest ⨟ left_code s4.scope (Some number) all in
          let goal : Unit {0} → Dyn → Step = λ _ d. on f to [] d in
          let (m1, lc, r1) = stands_seq c (from + 1) to (chunk_code program r.scope 0 chunk) (course_code program (taking 2 r).scope 0 it ⨟ rest) st in
          let (m2, lr, r2) = stands_seq c m1 to (course_code program (taking 2 r).scope 0 it) rest r1 in
          does_bind limit c f x (does_opened limit c f x cuts env [] nested (at_entry su.entry jn)) (λ _ _.
          does_inside limit c f x fi refl refl (left_as_nested limit c f x)
          (chunk_does limit cuts program c fi calls globals mains epar calls_all x g (inside env) r (knows_nested (knows_forked kn)) su.entry (omega (arith, room)) 0 [] (Unit {0}) chunk (from + 1) m1 lc wc
          (λ k. stored.bind (Meaning.course oper limit program calls it (inside env)) (λ co. after_course k co)) goal (λ k cl ch told some few.
          array_does limit cuts program c fi x calls globals mains epar (calls_all fi (alike f)) (taking 2 r) (knows_nested (knows_forked (kn1 cl ch))) su.entry (omega (arith, room)) 0 [] p constant at root selections count stride dimensions filter
          m1 m2 (λ co. after_course k co) goal is reach ws lr (λ q a0 part.
          does_weak limit c fi x (λ stt d w. fit_unset (f.base + (s.scope.free + 2)) (pos a0) ((kn1 cl ch).free (s.scope.free + 2) (le_refl (s.scope.free + 2)) (omega (arith, room))) w)
          (does_inside limit c fi x f refl refl left_as_back (ranged k cl ch q a0 part told some few m2 to r2))))))
