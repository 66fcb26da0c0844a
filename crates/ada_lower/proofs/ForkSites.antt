-- Parallel reductions by any reducer, over ranges and over the components of an array, by what is done in a turn and what
-- combines the accumulators.
use Rattle.std.proofs.Common.{◌≡◌, ℕ, suc, ◌+◌, ◌*◌, ◌<◌, ◌≤◌, ℤ, pos, ◌+ℤ◌, ◌-ℤ◌, nat_le, List, [], ◌∷◌, slice_get, Option, Some, Err, Bool, true, false, cond, refl, sym, ap, ap₂, ◌∙◌, subst, le_refl, arith, inl}
use Rattle.ada_base.specs.declared.reason.Reason.TheVariants as reason
use Rattle.behaviours.specs.Doings.{through, folded}
use Rattle.behaviours.specs.Joins.{Site, Share, deal}
use Rattle.behaviours.specs.Paths.{Leave, Exits, Returns, Raises, Entity}
use Rattle.typed_tree.specs.declared.scalars.Check.{Check}
use Rattle.typed_tree.specs.declared.expressions.Root.{Root}
use Rattle.typed_tree.specs.declared.expressions.Reducer.{Reducer}
use Rattle.typed_tree.specs.Syntax.{Expr, Optional, Iteration, Range, Components, Chunk, NoChunk, Count, Each, Selections, Program}
use Rattle.ada_meaning.specs.Values
use Rattle.ada_meaning.specs.Operations.{chunk_of, Operations, reduce}
use Rattle.ada_meaning.specs.Stored as stored
use Rattle.ada_meaning.specs.Stored.{Stored}
use Rattle.ada_meaning.specs.Meaning
use Rattle.ada_meaning.specs.Meaning.{Env, ObjectPart, Passed, Returned, Chunking, Course, inside, most_iterations, value_cut_of, most_threads}
use Rattle.stack_code.specs.declared.code.Code.{Code}
use Rattle.stack_code.specs.declared.code.CodeSite.{CodeSite}
use Rattle.stack_code.specs.declared.instr.Instr.TheVariants as i
use Rattle.stack_code.specs.declared.path.Asked.{Asked}
use Rattle.stack_code.specs.Deeds
use Rattle.stack_code.specs.Deeds.{many}
use Rattle.ada_lower.specs.Driven.{Dyn, Fixed, Step, on, thrown, sizes_for, At, Alike}
use Rattle.ada_lower.proofs.Alike.{alike}
use Rattle.ada_lower.specs.Sights.{Emit, Named, Scope, Sight, Stands, array_root_of, chunk_sight, nested_sight, none, one, taking, thread_sight, turn_sight, ◌⨟◌}
use Rattle.ada_lower.specs.Emission
use Rattle.ada_lower.specs.Emission.{emit, reduction_kind, chunk_code, course_code, ends_code, fork_code, filtered, combined}
use Rattle.ada_lower.specs.Fits.{Keeps, Ghost, Ends, Knows, Spread}
use Rattle.ada_lower.specs.FittedForks.{FittedChunk, Within}
use Rattle.ada_lower.specs.Fitted.{Reaches, Fitted, FittedSelections}
use Rattle.ada_lower.proofs.Forks.{threaded, thread_ends, ThreadDoes}
use Rattle.ada_lower.proofs.Inner.{InnerDo}
use Rattle.ada_lower.proofs.Framework.{itself, any, To, Doing, comes_here, comes_on, comes_goes, does_bind}
use Rattle.ada_lower.proofs.Memory.{set_what, what_same, what_other, own_free, knows_keep, fit_unset}
use Rattle.ada_lower.proofs.Standing.{stands_seq}
use Rattle.ada_lower.proofs.Parts.{Runs, does_weak, does_keep}
use Rattle.ada_lower.proofs.Names.{does_by}
use Rattle.ada_lower.proofs.Items.{named_entity}
use Rattle.ada_lower.proofs.Expressions.{at_entry, value_does}
use Rattle.ada_lower.proofs.Loops.{counts_at, first_at, last_at}
use Rattle.ada_lower.proofs.Courses.{knows_counts, fit_uncount, course_by, comes_kept}
use Rattle.ada_lower.proofs.ForkSteps.{operands}
use Rattle.ada_lower.proofs.ForkInside.{nested_in, raises_same, LeftAs, left_as_nested, does_inside, does_opened}
use Rattle.ada_lower.proofs.ForkFor.{Every, every_one, stands_behind}
use Rattle.ada_lower.proofs.ForkRange.{Chunks, Numbered, knows_forked, knows_nested, to_nat_same, fold_range_thread}
use Rattle.ada_lower.proofs.ForkDeals.{fold_shares}
use Rattle.ada_lower.proofs.ForkItems.{fold_items_thread}
use Rattle.ada_lower.proofs.ForkChunks.{chunk_does}
use Rattle.ada_lower.proofs.ForkOf.{many_is, knows_two, array_does}
use Rattle.ada_lower.proofs.ForkReduce.{OnlyRaises}
use Rattle.ada_lower.proofs.ForkFine.{Lends}
use Rattle.ada_lower.proofs.ForkViews.{view_ghost, no_free, Apart}
use Rattle.ada_lower.proofs.ForkSights.{knows_view, number_view, spread_view}

-- it is dealt alike
sizes_same : (limit : ℕ) (cuts : ℕ → ℕ → List ℕ) (by : Reducer) (chunk : Chunk) (first last l u initial : ℤ) (count : ℕ) (k : Chunking) (site : ℕ) → many l u ≡ count → Chunks chunk first last k
    → stored.sizes_of limit cuts (value_cut_of k count) ≡ sizes_for cuts (reduction_kind by chunk) (Deeds.asked site l u first last initial)
sizes_same limit cuts by NoChunk first last l u initial count k site same e = ap (λ k. stored.sizes_of limit cuts (value_cut_of k count)) e ∙ ap (λ n. cuts (many first last) n) (sym same)
sizes_same limit cuts by (Count z) first last l u initial count k site same e = ap (λ k. stored.sizes_of limit cuts (value_cut_of k count)) e ∙ ap (λ n. cuts (many first last) n) (sym same)
sizes_same limit cuts by (Each n low high check) first last l u initial count k site same e =
    ap (λ k. stored.sizes_of limit cuts (value_cut_of k count)) e ∙ ap (λ n. Values.without_zeros (Rattle.ada_base.specs.Cuts.evens n (many first last))) (sym same)

pub numbered : (chunk : Chunk) (first last : ℤ) (k : Chunking) (n j : ℕ) → Chunks chunk first last k → Numbered chunk (chunk_of (value_cut_of k n) j) j
numbered NoChunk first last k n j e = tt
numbered (Count z) first last k n j e = tt
numbered (Each kc low high check) first last k n j e = ap (λ k. chunk_of (value_cut_of k n) j) e

module _ (limit : ℕ) (cuts : ℕ → ℕ → List ℕ) (program : Program) (c : Code) (f : Fixed) (calls : ℕ → ℕ → Stored (Unit {0}) → List Passed → Stored Returned) (globals : ℕ → Entity → Option Named) (mains : Entity → Bool) (epar : Sight → Expr → Type 0) (calls_all : (f' : Fixed) → Alike f' f → InnerDo limit cuts program globals mains epar c f' calls)
    (x : Ends) (g : Ghost) (env : Env) (s : Sight) (kn : Knows limit cuts g f s env) (en : s.scope.entry ≡ x.entry) (room : s.scope.free + 3 < s.cells) (ht : ℕ) (st : List ℤ)
    (chunk : Chunk) (by : Reducer) (attribute : ℕ) (cs : CodeSite) (site : ℕ) (site_at : slice_get c.sites site ≡ Some cs) (kind : cs.kind ≡ reduction_kind by chunk) (four : 4 ≤ cs.frame) (entry : (qf : ℕ) → slice_get c.instrs qf ≡ Some (i.Fork site) → cs.entry ≡ qf + 1 + 1)
    (initial : Expr) (values : Env → Stored (Option ℤ)) where
  abbrev oper : Operations {1}
  oper = stored.noted_operations limit cuts

  abbrev fi : Fixed
  fi = nested_in f

  abbrev s1 : Sight
  s1 = taking 1 s

  abbrev r : Sight
  r = nested_sight s1

  abbrev pub s5 : Sight
  s5 = taking 2 (taking 2 s1)

  abbrev t1 : Sight
  t1 = chunk_sight chunk (taking 2 (thread_sight site cs.frame s5))

  abbrev pub turning : Env → ℤ → Stored ℤ
  turning e a = stored.bind (values e) (folded stored.doings (reduce stored.doings stored.checks by attribute (Meaning.fold_call oper limit program calls by (suc env.nested))) a)

  abbrev pub combining : ℤ → ℤ → Stored ℤ
  combining = reduce stored.doings stored.checks by attribute (Meaning.combine_call oper limit program calls by env.nested)

  abbrev g0 : ℤ → Ghost
  g0 start = set_what (f.base + s.scope.free) (Keeps start) g

  abbrev g1 : ℤ → ℤ → ℤ → Ghost
  g1 start cl ch = counts_at limit cuts c f x s1.scope.free cl ch (g0 start)

  kn0 : (start : ℤ) → Knows limit cuts (g0 start) f s1 env
  kn0 start = knows_keep start (omega (arith, room)) kn

  kn1 : (start cl ch : ℤ) → Knows limit cuts (g1 start cl ch) f (taking 2 s1) env
  kn1 start cl ch = knows_counts limit cuts c f s1 cl ch (omega (arith, room)) (kn0 start)

  left_as_back : LeftAs limit c f fi x
  left_as_back (Exits n) d = comes_here limit c (x.exits n d)
  left_as_back (Returns v) d = comes_here limit c (x.returns v d)
  left_as_back (Raises r) d = subst (λ y. To limit c (thrown r x.entry f d) y) (sym (raises_same limit c f x r d)) (comes_here limit c (thrown r x.entry f d))

  start_kept : (start cl ch : ℤ) → (g1 start cl ch).what (f.base + s.scope.free) ≡ Keeps start
  start_kept start cl ch =
      what_other (set_what (f.base + s1.scope.free) (Keeps cl) (g0 start)) (f.base + (s1.scope.free + 1)) (f.base + s.scope.free) (Keeps ch) (λ z. omega (arith, z))
      ∙ what_other (g0 start) (f.base + s1.scope.free) (f.base + s.scope.free) (Keeps cl) (λ z. omega (arith, z)) ∙ what_same g (f.base + s.scope.free) (Keeps start)

  -- what a thread does
  abbrev pub thread_of : Course → ℤ → Chunking → Share → Stored ℤ
  thread_of co start k j = through stored.doings j.first j.size start (λ i a. turning (co.bound i (k.bound (chunk_of (value_cut_of k co.count) j.number) (inside env))) a)

  abbrev after_course : Iteration → ℤ → Chunking → Course → Stored ℤ
  after_course it start k co = stored.bind (Meaning.unless oper (nat_le co.count most_iterations) reason.StorageError)
      (λ _. stored.bind (stored.noted_team (Meaning.site_at site chunk it (value_cut_of k co.count) k co (inside env)) stored.after_all [] (deal 0 0 (stored.sizes_of limit cuts (value_cut_of k co.count))) (thread_of co start k))
      (λ accs. stored.combined limit cuts start accs combining))

  -- what code does from a fork to where its accumulators are one
  abbrev pub Finish : Type 1
  Finish = (gg : Ghost) → Knows limit cuts gg f s5 env → (l u cl ch start : ℤ) (qf past to : ℕ) → At c (qf + 1) (i.Jump past) x.entry → At c past i.Unnest x.entry → Stands c (combined s5.scope ht by) (past + 1) to → At c qf (i.Fork site) x.entry
      → nat_le 1 (many cl ch) ≡ true → nat_le (many cl ch) most_threads ≡ true → (team : Site) (body : Share → Stored ℤ) (ok : Share → Type 0) → ((j : Share) → ok j → ThreadDoes limit c OnlyRaises gg fi cs (Deeds.asked site l u cl ch start) (λ a. Some a) j (body j))
      → Lends fi gg cs (Deeds.asked site l u cl ch start) team (deal 0 0 (sizes_for gg.plan cs.kind (Deeds.asked site l u cl ch start)))
      → ((owner : ℕ → Option ℕ) → Apart gg owner → (j : Share) → ok j → ThreadDoes limit c OnlyRaises (view_ghost owner j.number gg) fi cs (Deeds.asked site l u cl ch start) (λ a. Some a) j (body j))
      → (js : List Share) → js ≡ deal 0 0 (sizes_for gg.plan cs.kind (Deeds.asked site l u cl ch start)) → Every ok (deal 0 0 (sizes_for gg.plan cs.kind (Deeds.asked site l u cl ch start)))
      → Runs limit c f x gg any (stored.bind (Meaning.unless oper (nat_le (many l u) most_iterations) reason.StorageError) (λ _. stored.bind (stored.noted_team team stored.after_all [] js body) (λ accs. stored.combined limit cuts start accs combining)))
      (λ d. on fi qf (operands limit c fi l u cl ch start st) d) (λ v d. on f to (v ∷ st) d)

  module _ (finish : Finish) where
    -- from the first and the last on the stack on
    core : (it : Iteration) (co : Course) (l u : ℤ) → many l u ≡ co.count → (gg : Ghost) → Knows limit cuts gg f s5 env → gg.plan ≡ cuts → (start cl ch : ℤ) (k : Chunking) → Chunks chunk cl ch k → nat_le 1 (many cl ch) ≡ true → nat_le (many cl ch) most_threads ≡ true
        → gg.what (f.base + s.scope.free) ≡ Keeps start → gg.what (f.base + s1.scope.free) ≡ Keeps cl → gg.what (f.base + (s1.scope.free + 1)) ≡ Keeps ch → (tb : Emit) (m3 to : ℕ)
        → Stands c (fork_code r.scope ht (ht + 1) (reduction_kind by chunk) site (s.scope.free + 1) (one r.scope (ht + 1 + 1 + 1 + 1) (i.LoadL s.scope.free)) tb ⨟ one r.scope (ht + 1) i.Unnest ⨟ combined s5.scope ht by) m3 to
        → (ok : Share → Type 0) → Every ok (deal 0 0 (sizes_for gg.plan cs.kind (Deeds.asked site l u cl ch start)))
        → ((m4 : ℕ) → Stands c tb cs.entry m4 → (j : Share) → ok j → ThreadDoes limit c OnlyRaises gg fi cs (Deeds.asked site l u cl ch start) (λ z. Some z) j (thread_of co start k j))
        → Lends fi gg cs (Deeds.asked site l u cl ch start) (Meaning.site_at site chunk it (value_cut_of k co.count) k co (inside env)) (deal 0 0 (sizes_for gg.plan cs.kind (Deeds.asked site l u cl ch start)))
        → ((m4 : ℕ) → Stands c tb cs.entry m4 → (owner : ℕ → Option ℕ) → Apart gg owner → (j : Share) → ok j → ThreadDoes limit c OnlyRaises (view_ghost owner j.number gg) fi cs (Deeds.asked site l u cl ch start) (λ z. Some z) j (thread_of co start k j))
        → Runs limit c f x gg any (after_course it start k co) (λ d. on fi m3 (u ∷ l ∷ st) d) (λ v d. on f to (v ∷ st) d)
    core it co l u counted gg kg plan start cl ch k told some few e0 e1 e2 tb m3 to stands ok oks threads lends seen =
        let (m4, (jd0, (jd1, (jp, (jf, lb)))), (ju, lz)) = stands_seq c m3 to (fork_code r.scope ht (ht + 1) (reduction_kind by chunk) site (s.scope.free + 1) (one r.scope (ht + 1 + 1 + 1 + 1) (i.LoadL s.scope.free)) tb) (one r.scope (ht + 1) i.Unnest ⨟ combined s5.scope ht by) stands in
        let (jj, bd) = stands_behind c (m3 + 1 + 1 + 1 + 1) m4 r.scope (ht + 1) tb lb in
        let q : Asked = Deeds.asked site l u cl ch start in
        does_by limit c f x (λ w d z.
        comes_on limit c (comes_kept limit cuts c fi s1.scope.free cl (u ∷ l ∷ st) d z e1 jd0)
        (comes_on limit c (comes_kept limit cuts c fi (s.scope.free + 1 + 1) ch (cl ∷ u ∷ l ∷ st) d z e2 jd1)
        (comes_kept limit cuts c fi s.scope.free start (ch ∷ cl ∷ u ∷ l ∷ st) d z e0 jp)))
        (subst (λ n. Runs limit c f x gg any (stored.bind (Meaning.unless oper (nat_le n most_iterations) reason.StorageError)
        (λ _. stored.bind (stored.noted_team (Meaning.site_at site chunk it (value_cut_of k co.count) k co (inside env)) stored.after_all [] (deal 0 0 (stored.sizes_of limit cuts (value_cut_of k co.count))) (thread_of co start k))
        (λ accs. stored.combined limit cuts start accs combining))) (λ d. on fi (m3 + 1 + 1 + 1) (start ∷ ch ∷ cl ∷ u ∷ l ∷ st) d) (λ v d. on f to (v ∷ st) d)) counted
        (finish gg kg l u cl ch start (m3 + 1 + 1 + 1) m4 to (at_entry en jj) (at_entry en ju) lz (at_entry en jf) some few (Meaning.site_at site chunk it (value_cut_of k co.count) k co (inside env)) (thread_of co start k) ok
        (threads m4 (subst (λ a. Stands c tb a m4) (sym (entry (m3 + 1 + 1 + 1) (itself refl jf))) bd))
        lends (seen m4 (subst (λ a. Stands c tb a m4) (sym (entry (m3 + 1 + 1 + 1) (itself refl jf))) bd))
        (deal 0 0 (stored.sizes_of limit cuts (value_cut_of k co.count)))
        (ap (deal 0 0) (sizes_same limit cuts by chunk cl ch l u start co.count k site counted told ∙ ap₂ (λ pl kd. sizes_for pl kd q) (sym plan) (sym kind))) oks))

    abbrev pub reducing : Iteration → ℤ → Stored ℤ
    reducing it start = stored.bind (Meaning.opened oper env) (λ _. stored.bind (Meaning.chunking oper limit program calls chunk (inside env)) (λ k. stored.bind (Meaning.course oper limit program calls it (inside env)) (λ co. after_course it start k co)))

    -- up to where the construct's course is known
    begun_does : (it : Iteration) → Fitted program globals mains epar s initial → FittedChunk program globals mains epar r chunk → (rest : Emit) (from to : ℕ)
        → Stands c (emit program s.scope ht initial ⨟ Emission.keep s.scope (ht + 1) s.scope.free ⨟ one s.scope ht i.Nest ⨟ chunk_code program r.scope ht chunk ⨟ rest) from to
        → ((start cl ch : ℤ) (k : Chunking) (m1 : ℕ) → Chunks chunk cl ch k → nat_le 1 (many cl ch) ≡ true → nat_le (many cl ch) most_threads ≡ true → Stands c rest m1 to
        → Runs limit c fi x (g1 start cl ch) any (stored.bind (Meaning.course oper limit program calls it (inside env)) (λ co. after_course it start k co)) (λ d. on fi m1 st d) (λ v d. on f to (v ∷ st) d))
        → Runs limit c f x g any (stored.bind (Meaning.eval oper limit program calls initial env) (reducing it)) (λ d. on f from st d) (λ v d. on f to (v ∷ st) d)
    begun_does it wi wc rest from to stands go =
        let goal : ℤ → Dyn → Step = λ v d. on f to (v ∷ st) d in
        let free1 = kn.free s.scope.free (le_refl s.scope.free) (let z : s.scope.free < s.cells = omega (arith, room) in z) in
        let (m0, li, (jk, (jn, r0))) = stands_seq c from to (emit program s.scope ht initial) (Emission.keep s.scope (ht + 1) s.scope.free ⨟ one s.scope ht i.Nest ⨟ chunk_code program r.scope ht chunk ⨟ rest) stands in
        let (m1, lc, r1) = stands_seq c (m0 + 1 + 1) to (chunk_code program r.scope ht chunk) rest r0 in
        does_bind limit c f x (value_does limit cuts program c f x calls globals mains epar (calls_all f (alike f)) initial from m0 s ht st kn en wi li) (λ start _.
        does_keep limit c f x m0 s.scope.free start st (own_free (g.what (f.base + s.scope.free)) free1) (at_entry en jk)
        (does_weak limit c f x (λ w d z. fit_unset (f.base + s.scope.free) start free1 z)
        (does_bind limit c f x (does_opened limit c f x cuts env st kn.nested (at_entry en jn)) (λ _ _.
        does_inside limit c f x fi refl refl (left_as_nested limit c f x)
        (chunk_does limit cuts program c fi calls globals mains epar calls_all x (g0 start) (inside env) r (knows_nested (knows_forked (kn0 start))) en (omega (arith, room)) ht st ℤ chunk (m0 + 1 + 1) m1 lc wc
        (λ k. stored.bind (Meaning.course oper limit program calls it (inside env)) (λ co. after_course it start k co)) goal (λ k cl ch told some few. go start cl ch k m1 told some few r1))))))

    -- ---- over a range

    module _ (room4 : s.scope.free + 4 < s.cells) (p : ℕ) (low high : Expr) (check : Option Check) (filter : Optional) (value0 : Scope → Emit) where
      abbrev it : Iteration
      it = Range p false low high check filter

      abbrev pub turn : Sight
      turn = turn_sight (thread_sight site cs.frame s5) chunk it

      abbrev pub value : Scope → Emit
      value u = filtered program u 1 filter (value0 u)

      abbrev course_of : ℤ → ℤ → Course
      course_of l u = record { count = Values.count l u; bound = λ i. Meaning.with_parameter p (cond false (u -ℤ pos i) (l +ℤ pos i)) }

      abbrev g2 : ℤ → ℤ → ℤ → ℤ → ℤ → Ghost
      g2 start cl ch l u = counts_at limit cuts c f x (s1.scope.free + 2) l u (g1 start cl ch)

      kn2 : (start cl ch l u : ℤ) → Knows limit cuts (g2 start cl ch l u) f s5 env
      kn2 start cl ch l u = knows_counts limit cuts c f (taking 2 s1) l u (omega (arith, room4)) (kn1 start cl ch)

      kept_below : (start cl ch l u : ℤ) (n : ℕ) (v : ℤ) → n < s1.scope.free + 2 → (g1 start cl ch).what (f.base + n) ≡ Keeps v → (g2 start cl ch l u).what (f.base + n) ≡ Keeps v
      kept_below start cl ch l u n v lt e =
          what_other (set_what (f.base + (s1.scope.free + 2)) (Keeps l) (g1 start cl ch)) (f.base + (s1.scope.free + 2 + 1)) (f.base + n) (Keeps u) (λ z. omega (arith, z, lt))
          ∙ what_other (g1 start cl ch) (f.base + (s1.scope.free + 2)) (f.base + n) (Keeps l) (λ z. omega (arith, z, lt)) ∙ e

      -- the threads' code
      abbrev tb : Emit
      tb = one t1.scope 0 (i.LoadL 1) ⨟ Emission.turns_code t1.scope 1 2 (one t1.scope 1 i.Turn ⨟ value turn.scope) ⨟ one t1.scope 1 i.EndV

      abbrev tail_code : Emit
      tail_code = ends_code (taking 2 r).scope ht it ⨟ fork_code r.scope ht (ht + 1) (reduction_kind by chunk) site (s.scope.free + 1) (one r.scope (ht + 1 + 1 + 1 + 1) (i.LoadL s.scope.free)) tb ⨟ one r.scope (ht + 1) i.Unnest ⨟ combined s5.scope ht by

      module _ (step : (f' : Fixed) (fc : Alike f' f) → f'.nested ≡ f.nested + 1 → (g' : Ghost) (env' : Env) (a : ℤ) (head mid : ℕ) → Knows limit cuts g' f' turn env' → Stands c (one t1.scope 1 i.Turn ⨟ value turn.scope) head mid
          → Runs limit c f' thread_ends g' any (turning env' a) (λ d. on f' head (a ∷ []) d) (λ b d. on f' mid (b ∷ []) d))
          (leaves_so : (first size : ℕ) (start : ℤ) (envs : ℕ → Env) (w : stored.State) (l : Leave) → ((through stored.doings first size start (λ i a. turning (envs i) a)).does w).end ≡ Err (stored.Left l) → OnlyRaises l)
          (lends : (start cl ch l u : ℤ) (k : Chunking) → Chunks chunk cl ch k → (gg : Ghost) → Knows limit cuts gg (nested_in f) s5 (inside env)
          → Lends (nested_in f) gg cs (Deeds.asked site l u cl ch start) (Meaning.site_at site chunk it (value_cut_of k (Values.count l u)) k (course_of l u) (inside env)) (deal 0 0 (sizes_for gg.plan cs.kind (Deeds.asked site l u cl ch start)))) where
        ranged : (start cl ch l u : ℤ) (k : Chunking) → Chunks chunk cl ch k → nat_le 1 (many cl ch) ≡ true → nat_le (many cl ch) most_threads ≡ true → (m2 to : ℕ) → Stands c tail_code m2 to
            → Runs limit c f x (g2 start cl ch l u) any (after_course it start k (course_of l u)) (λ d. on fi m2 st d) (λ v d. on f to (v ∷ st) d)
        unfolding Rattle.ada_lower.specs.Emission.emit
        ranged start cl ch l u k told some few m2 to stands =
            let rest : Emit = fork_code r.scope ht (ht + 1) (reduction_kind by chunk) site (s.scope.free + 1) (one r.scope (ht + 1 + 1 + 1 + 1) (i.LoadL s.scope.free)) tb ⨟ one r.scope (ht + 1) i.Unnest ⨟ combined s5.scope ht by in
            let (m3, (je1, (je2, ze)), r3) = stands_seq c m2 to (ends_code (taking 2 r).scope ht it) rest stands in
            let gg : Ghost = g2 start cl ch l u in
            does_by limit c f x (λ w d z.
            comes_on limit c (comes_kept limit cuts c fi (s1.scope.free + 2) l st d z (first_at limit cuts c f x (s1.scope.free + 2) l u (g1 start cl ch)) je1)
            (subst (λ a. To limit c (on fi (m2 + 1) (l ∷ st) d) (on fi a (u ∷ l ∷ st) d)) (sym ze)
            (comes_kept limit cuts c fi (s1.scope.free + 2 + 1) u (l ∷ st) d z (last_at limit cuts c f x (s1.scope.free + 2) l u (g1 start cl ch)) je2)))
            (core it (course_of l u) l u (to_nat_same (u +ℤ pos 1 -ℤ l)) gg (kn2 start cl ch l u) kn.plan start cl ch k told some few
            (kept_below start cl ch l u s.scope.free start (omega arith) (start_kept start cl ch))
            (kept_below start cl ch l u s1.scope.free cl (omega arith) (first_at limit cuts c f x s1.scope.free cl ch (g0 start)))
            (kept_below start cl ch l u (s1.scope.free + 1) ch (omega arith) (last_at limit cuts c f x s1.scope.free cl ch (g0 start)))
            tb m3 to r3 (λ j. Unit {0}) (every_one (deal 0 0 (sizes_for gg.plan cs.kind (Deeds.asked site l u cl ch start))))
            (λ m4 bd j _. fold_range_thread limit cuts program c fi calls globals mains epar calls_all gg s5 (inside env) (knows_forked (kn2 start cl ch l u)) site cs four p l u cl ch start chunk k told (chunk_of (value_cut_of k (Values.count l u)) j.number) j
            (numbered chunk cl ch k (Values.count l u) j.number told) OnlyRaises turning (value turn.scope) m4 bd
            (λ g' env' a head mid kk ss. step (threaded fi gg.top) (alike f) refl g' env' a head mid kk ss)
            (λ w e h. leaves_so j.first j.size start _ w e h))
            (lends start cl ch l u k told gg (knows_forked (kn2 start cl ch l u)))
            (λ m4 bd owner apart j _. fold_range_thread limit cuts program c fi calls globals mains epar calls_all (view_ghost owner j.number gg) (no_free s5) (inside env) (knows_view owner j.number (knows_forked (kn2 start cl ch l u)) apart) site cs four p l u cl ch start chunk k told (chunk_of (value_cut_of k (Values.count l u)) j.number) j
            (numbered chunk cl ch k (Values.count l u) j.number told) OnlyRaises turning (value turn.scope) m4 bd
            (λ g' env' a head mid kk ss. step (threaded fi gg.top) (alike f) refl g' env' a head mid kk ss)
            (λ w e h. leaves_so j.first j.size start _ w e h)))

        pub range_reduction_does : Fitted program globals mains epar s initial → FittedChunk program globals mains epar r chunk → Fitted program globals mains epar (taking 2 r) low → Fitted program globals mains epar (taking 1 (taking 2 r)) high → (from to : ℕ)
            → Stands c (emit program s.scope ht initial ⨟ Emission.keep s.scope (ht + 1) s.scope.free ⨟ one s.scope ht i.Nest ⨟ chunk_code program r.scope ht chunk ⨟ course_code program (taking 2 r).scope ht it ⨟ tail_code) from to
            → Runs limit c f x g any (stored.bind (Meaning.eval oper limit program calls initial env) (reducing it)) (λ d. on f from st d) (λ v d. on f to (v ∷ st) d)
        unfolding Rattle.ada_lower.specs.Emission.emit
        range_reduction_does wi wc wl wh from to stands =
            begun_does it wi wc (course_code program (taking 2 r).scope ht it ⨟ tail_code) from to stands (λ start cl ch k m1 told some few r1.
            let (m2, lr, r2) = stands_seq c m1 to (course_code program (taking 2 r).scope ht it) tail_code r1 in
            let goal : ℤ → Dyn → Step = λ v d. on f to (v ∷ st) d in
            let follows : (l u : ℤ) → Doing limit c fi x (g2 start cl ch l u) (g1 start cl ch) any (after_course it start k (course_of l u)) (λ d. on fi m2 st d) goal
            = λ l u. does_weak limit c fi x (λ w d z. fit_uncount limit cuts c f (taking 2 s1) l u (omega (arith, room4)) (kn1 start cl ch) w d z)
            (does_inside limit c fi x f refl refl left_as_back (ranged start cl ch l u k told some few m2 to r2)) in
            course_by limit cuts c fi x (taking 2 r) ht p false (emit program (taking 2 r).scope ht low) (emit program (taking 1 (taking 2 r)).scope ht high) (Meaning.eval oper limit program calls low (inside env)) (Meaning.eval oper limit program calls high (inside env)) check (Emission.bounds_code (taking 2 r).scope ht (s1.scope.free + 2) check) none m1 m2 st (λ co. after_course it start k co) (λ from to l. (to, l, refl)) (knows_nested (knows_forked ((kn1 start cl ch)))) en (omega (arith, room4))
            (λ from to l. value_does limit cuts program c fi x calls globals mains epar (calls_all fi (alike f)) low from to (taking 2 r) ht st (knows_nested (knows_forked ((kn1 start cl ch)))) en wl l) (λ from to g' k' l. value_does limit cuts program c fi x calls globals mains epar (calls_all fi (alike f)) high from to (taking 1 (taking 2 r)) ht st k' en wh l) lr
            (λ l u e. follows l u)
            (λ l u begin e z. subst (λ a. Doing limit c fi x (g2 start cl ch l u) (g1 start cl ch) any (after_course it start k (course_of l u)) (λ d. on fi a st d) goal) z (follows l u)))

    -- ---- over components

    module _ (within : Within cuts) (five : 5 ≤ cs.frame) (p : ℕ) (constant : Bool) (at : ℕ) (root : Root) (selections : Selections) (count stride dimensions : ℕ) (filter : Optional) (value0 : Scope → Emit) where
      abbrev its : Iteration
      its = Components p constant at root selections count stride dimensions filter

      abbrev pub item_turn : Sight
      item_turn = turn_sight (thread_sight site cs.frame s5) chunk its

      abbrev pub item_value : Scope → Emit
      item_value u = filtered program u 1 filter (value0 u)

      abbrev course_with : ObjectPart → Course
      course_with q = record { count = count; bound = λ i. Meaning.with_item constant p (Meaning.moved q (i * stride)) }

      abbrev ga : ℤ → ℤ → ℤ → ℕ → Ghost
      ga start cl ch a = set_what (f.base + (s1.scope.free + 2)) (Keeps (pos a)) (g1 start cl ch)

      kna : (start cl ch : ℤ) (a : ℕ) → Knows limit cuts (ga start cl ch a) f s5 env
      kna start cl ch a = knows_two (taking 2 s1) (knows_keep (pos a) (omega (arith, room)) (kn1 start cl ch))

      kept_under : (start cl ch : ℤ) (a n : ℕ) (v : ℤ) → n < s1.scope.free + 2 → (g1 start cl ch).what (f.base + n) ≡ Keeps v → (ga start cl ch a).what (f.base + n) ≡ Keeps v
      kept_under start cl ch a n v lt e = what_other (g1 start cl ch) (f.base + (s1.scope.free + 2)) (f.base + n) (Keeps (pos a)) (λ z. omega (arith, z, lt)) ∙ e

      -- the threads' code
      abbrev tbi : Emit
      tbi = one t1.scope 0 (i.LoadL 1) ⨟ Emission.items_code t1.scope 1 2 (s.scope.free + 1 + 1 + 1) stride count (one t1.scope 1 i.Turn ⨟ item_value item_turn.scope) ⨟ one t1.scope 1 i.EndV

      abbrev tail_items : Emit
      tail_items = ends_code (taking 2 r).scope ht its ⨟ fork_code r.scope ht (ht + 1) (reduction_kind by chunk) site (s.scope.free + 1) (one r.scope (ht + 1 + 1 + 1 + 1) (i.LoadL s.scope.free)) tbi ⨟ one r.scope (ht + 1) i.Unnest ⨟ combined s5.scope ht by

      module _ (step : (f' : Fixed) (fc : Alike f' f) → f'.nested ≡ f.nested + 1 → (g' : Ghost) (env' : Env) (a : ℤ) (head mid : ℕ) → Knows limit cuts g' f' item_turn env' → Stands c (one t1.scope 1 i.Turn ⨟ item_value item_turn.scope) head mid
          → Runs limit c f' thread_ends g' any (turning env' a) (λ d. on f' head (a ∷ []) d) (λ b d. on f' mid (b ∷ []) d))
          (leaves_so : (first size : ℕ) (start : ℤ) (envs : ℕ → Env) (w : stored.State) (l : Leave) → ((through stored.doings first size start (λ i a. turning (envs i) a)).does w).end ≡ Err (stored.Left l) → OnlyRaises l)
          (lends : (start cl ch : ℤ) (q : ObjectPart) (a0 : ℕ) (k : Chunking) → Chunks chunk cl ch k → (gg : Ghost) → Knows limit cuts gg (nested_in f) s5 (inside env) → Spread gg (named_entity constant q.object) q.offset (count * stride) a0
          → Lends (nested_in f) gg cs (Deeds.asked site (pos 1) (pos count) cl ch start) (Meaning.site_at site chunk its (value_cut_of k count) k (course_with q) (inside env)) (deal 0 0 (sizes_for gg.plan cs.kind (Deeds.asked site (pos 1) (pos count) cl ch start)))) where
        listed_on : (start cl ch : ℤ) (q : ObjectPart) (a0 : ℕ) → Spread (ga start cl ch a0) (named_entity constant q.object) q.offset (count * stride) a0 → (k : Chunking) → Chunks chunk cl ch k → nat_le 1 (many cl ch) ≡ true → nat_le (many cl ch) most_threads ≡ true → (m2 to : ℕ) → Stands c tail_items m2 to
            → Runs limit c f x (ga start cl ch a0) any (after_course its start k (course_with q)) (λ d. on fi m2 st d) (λ v d. on f to (v ∷ st) d)
        listed_on start cl ch q a0 part k told some few m2 to stands =
            let rest : Emit = fork_code r.scope ht (ht + 1) (reduction_kind by chunk) site (s.scope.free + 1) (one r.scope (ht + 1 + 1 + 1 + 1) (i.LoadL s.scope.free)) tbi ⨟ one r.scope (ht + 1) i.Unnest ⨟ combined s5.scope ht by in
            let (m3, (je1, (je2, ze)), r3) = stands_seq c m2 to (ends_code (taking 2 r).scope ht its) rest stands in
            let gg : Ghost = ga start cl ch a0 in
            let same_cell : s.scope.free + 1 + 1 + 1 ≡ s1.scope.free + 2 = omega arith in
            does_by limit c f x (λ w d z.
            comes_on limit c (comes_goes limit c fi st (m2 + 1) (pos 1 ∷ st) d je1 refl)
            (subst (λ a. To limit c (on fi (m2 + 1) (pos 1 ∷ st) d) (on fi a (pos count ∷ pos 1 ∷ st) d)) (sym ze)
            (comes_goes limit c fi (pos 1 ∷ st) (m2 + 1 + 1) (pos count ∷ pos 1 ∷ st) d je2 refl)))
            (core its (course_with q) (pos 1) (pos count) (many_is count) gg (kna start cl ch a0) kn.plan start cl ch k told some few
            (kept_under start cl ch a0 s.scope.free start (omega arith) (start_kept start cl ch))
            (kept_under start cl ch a0 s1.scope.free cl (omega arith) (first_at limit cuts c f x s1.scope.free cl ch (g0 start)))
            (kept_under start cl ch a0 (s1.scope.free + 1) ch (omega arith) (last_at limit cuts c f x s1.scope.free cl ch (g0 start)))
            tbi m3 to r3 (λ j. j.first + j.size ≤ many (pos 1) (pos count)) (fold_shares cuts gg.plan within kn.plan by chunk (Deeds.asked site (pos 1) (pos count) cl ch start) cs.kind kind)
            (λ m4 bd j inn. fold_items_thread limit cuts program c fi calls globals mains epar calls_all gg s5 (inside env) (knows_forked (kna start cl ch a0)) site cs four five count stride cl ch start j (let z = many_is count in omega (arith, inn, z)) (s.scope.free + 1 + 1 + 1) a0
            (inl (ap (λ n. gg.what (f.base + n)) same_cell ∙ what_same (g1 start cl ch) (f.base + (s1.scope.free + 2)) (Keeps (pos a0)))) (omega (arith, room)) part.near p constant q part chunk k told (chunk_of (value_cut_of k count) j.number)
            (numbered chunk cl ch k count j.number told) OnlyRaises turning (item_value item_turn.scope) m4 bd
            (λ g' env' a head mid kk ss. step (threaded fi gg.top) (alike f) refl g' env' a head mid kk ss)
            (λ w e h. leaves_so j.first j.size start _ w e h))
            (lends start cl ch q a0 k told gg (knows_forked (kna start cl ch a0)) part)
            (λ m4 bd owner apart j inn. fold_items_thread limit cuts program c fi calls globals mains epar calls_all (view_ghost owner j.number gg) (no_free s5) (inside env) (knows_view owner j.number (knows_forked (kna start cl ch a0)) apart) site cs four five count stride cl ch start j (let z = many_is count in omega (arith, inn, z)) (s.scope.free + 1 + 1 + 1) a0
            (number_view owner j.number (knows_forked (kna start cl ch a0)) apart (f.base + (s.scope.free + 1 + 1 + 1)) (pos a0) (inl (ap (λ n. gg.what (f.base + n)) same_cell ∙ what_same (g1 start cl ch) (f.base + (s1.scope.free + 2)) (Keeps (pos a0))))) (omega (arith, room)) part.near p constant q (spread_view owner j.number (knows_forked (kna start cl ch a0)) apart (named_entity constant q.object) q.offset (count * stride) a0 part) chunk k told (chunk_of (value_cut_of k count) j.number)
            (numbered chunk cl ch k count j.number told) OnlyRaises turning (item_value item_turn.scope) m4 bd
            (λ g' env' a head mid kk ss. step (threaded fi gg.top) (alike f) refl g' env' a head mid kk ss)
            (λ w e h. leaves_so j.first j.size start _ w e h)))

        pub items_reduction_does : {e : Named} → Fitted program globals mains epar s initial → FittedChunk program globals mains epar r chunk → array_root_of constant (taking 2 r).scope root ≡ Some e → Reaches e.cells selections (count * stride) → FittedSelections program globals mains epar (taking 2 r) selections → (from to : ℕ)
            → Stands c (emit program s.scope ht initial ⨟ Emission.keep s.scope (ht + 1) s.scope.free ⨟ one s.scope ht i.Nest ⨟ chunk_code program r.scope ht chunk ⨟ course_code program (taking 2 r).scope ht its ⨟ tail_items) from to
            → Runs limit c f x g any (stored.bind (Meaning.eval oper limit program calls initial env) (reducing its)) (λ d. on f from st d) (λ v d. on f to (v ∷ st) d)
        items_reduction_does wi wc is reach ws from to stands =
            begun_does its wi wc (course_code program (taking 2 r).scope ht its ⨟ tail_items) from to stands (λ start cl ch k m1 told some few r1.
            let (m2, lr, r2) = stands_seq c m1 to (course_code program (taking 2 r).scope ht its) tail_items r1 in
            let goal : ℤ → Dyn → Step = λ v d. on f to (v ∷ st) d in
            array_does limit cuts program c fi x calls globals mains epar (calls_all fi (alike f)) (taking 2 r) (knows_nested (knows_forked (kn1 start cl ch))) en (omega (arith, room)) ht st p constant at root selections count stride dimensions filter
            m1 m2 (λ co. after_course its start k co) goal is reach ws lr (λ q a0 part.
            does_weak limit c fi x (λ w d z. fit_unset (f.base + (s1.scope.free + 2)) (pos a0) ((kn1 start cl ch).free (s1.scope.free + 2) (le_refl (s1.scope.free + 2)) (omega (arith, room))) z)
            (does_inside limit c fi x f refl refl left_as_back (listed_on start cl ch q a0 part k told some few m2 to r2))))
