-- Parallel loops over ranges, whole.
use Rattle.std.proofs.Common.{◌≡◌, ℕ, ◌+◌, ◌<◌, ◌≤◌, ℤ, pos, negsuc, ◌+ℤ◌, ◌-ℤ◌, nat_le, List, [], ◌∷◌, slice_get, Option, Some, None, Err, Bool, true, false, cond, refl, sym, ap, ap₂, ◌∙◌, subst, arith, inl}
use Rattle.behaviours.specs.Doings.{through}
use Rattle.behaviours.specs.Joins.{Site, Share, deal}
use Rattle.behaviours.specs.Paths.{Leave, Exits, Returns, Raises, Entity, VariableOf, ConstantOf}
use Rattle.ada_base.specs.declared.reason.Reason.TheVariants as reason
use Rattle.ada_lower.specs.Fits
use Rattle.typed_tree.specs.declared.scalars.Check.{Check}
use Rattle.typed_tree.specs.Syntax.{Expr, Optional, Iteration, Range, Chunk, NoChunk, Count, Each, ParallelFor, Stmts, Program}
use Rattle.ada_meaning.specs.Values
use Rattle.ada_meaning.specs.Operations.{chunk_of, Operations}
use Rattle.ada_meaning.specs.Stored as stored
use Rattle.ada_meaning.specs.Stored.{Stored}
use Rattle.ada_meaning.specs.Meaning
use Rattle.ada_meaning.specs.Meaning.{Env, Passed, Returned, Chunking, Course, inside, most_iterations, cut_of, most_threads}
use Rattle.stack_code.specs.declared.code.Code.{Code}
use Rattle.stack_code.specs.declared.code.CodeSite.{CodeSite}
use Rattle.stack_code.specs.declared.instr.Instr.TheVariants as i
use Rattle.stack_code.specs.declared.path.Asked.{Asked}
use Rattle.stack_code.specs.declared.path.Gave.TheVariants as gave
use Rattle.stack_code.specs.Deeds.{many, natural}
use Rattle.ada_lower.specs.Driven.{Dyn, Fixed, Step, on, thrown, sizes_for, answer_of, Alike}
use Rattle.ada_lower.proofs.Alike.{alike}
use Rattle.ada_lower.specs.Sights.{nested_sight, Emit, Named, Scope, Sight, Stands, Where, chunk_sight, none, one, own, range_sight, taking, thread_sight, turn_sight, with_parameter, ◌⨟◌}
use Rattle.ada_lower.specs.Emission
use Rattle.ada_lower.specs.Emission.{emit, exiting, filtered}
use Rattle.ada_lower.specs.Fits.{What, Keeps, Ghost, Fit, Ends, Does, Refers, Leads, Holds, Knows}
use Rattle.ada_lower.specs.Fitted.{Fitted}
use Rattle.ada_lower.proofs.Forks.{threaded, thread_ends, ThreadDoes}
use Rattle.ada_lower.specs.Emission.{loop_kind, parallel_for, chunk_code, course_code, ends_code, fork_code, left_code}
use Rattle.ada_lower.proofs.Inner.{InnerDo}
use Rattle.ada_lower.proofs.Framework.{any, To, itself, Doing, comes_here, comes_on, comes_goes, does_bind}
use Rattle.ada_lower.proofs.Memory.{set_what, what_other}
use Rattle.ada_lower.proofs.Standing.{stands_seq}
use Rattle.ada_lower.proofs.Parts.{Runs, does_weak}
use Rattle.ada_lower.proofs.Names.{does_by}
use Rattle.ada_lower.proofs.Expressions.{at_entry, value_does}
use Rattle.ada_lower.proofs.Loops.{counts_at, first_at, last_at}
use Rattle.ada_lower.proofs.Statements.{Suits, suits_as, Acts, iterate_does}
use Rattle.ada_lower.proofs.Courses.{knows_counts, knows_parameter, fit_uncount, course_by, comes_kept}
use Rattle.ada_lower.proofs.ForkInside.{nested_in, raises_same, LeftAs, left_as_nested, does_inside, does_opened}
use Rattle.ada_lower.proofs.ForkLeft.{In, MayLeave}
use Rattle.ada_lower.proofs.ForkLoops.{turn_ghost, knows_turn, first_kept, chunk_kept, loop_thread, fold_thread}
use Rattle.ada_lower.proofs.ForkFor.{every_one, stands_behind, forked_does}
use Rattle.ada_lower.proofs.ForkFine.{Lends}
use Rattle.ada_lower.proofs.ForkViews.{view_ghost, no_free}
use Rattle.ada_lower.proofs.ForkSights.{knows_view}

-- ---- what is known where a construct is begun

leads_nested : (t : Bool) (g : Ghost) (f : Fixed) (w : Where) (b : ℕ) → Leads t g f w b → Leads t g (nested_in f) w b
leads_nested true g f w b l = l
leads_nested false g f w b l = l

refers_nested : (g : Ghost) (f : Fixed) (n : Named) (y : Entity) (first : ℕ) → Refers g f n y first → Refers g (nested_in f) n y first
refers_nested g f n y first r = record { address = r.address; leads = leads_nested n.through g f n.place r.address r.leads; spread = r.spread }

pub knows_forked : {limit : ℕ} {cuts : ℕ → ℕ → List ℕ} {g : Ghost} {f : Fixed} {s : Sight} {env : Env} → Knows limit cuts g f s env → Knows limit cuts g (nested_in f) s (inside env)
knows_forked {limit} {g} {f} {s} {env} k = record {
  most = k.most;
  nested = (let z = k.nested in omega (arith, z));
  plan = k.plan;
  kept = k.kept;
  top = k.top;
  beyond = k.beyond;
  global = k.global;
  outside = k.outside;
  one = k.one;
  old = k.old;
  hidden = k.hidden;
  parameter = k.parameter;
  handled = k.handled;
  free = k.free;
  object = λ y n e. refers_nested g f n y 0 (k.object y n e);
  item = λ j n e. refers_nested g f n (VariableOf (env.item j).object) (env.item j).offset (k.item j n e);
  constant_item = λ j n e. refers_nested g f n (ConstantOf (env.constant_item j).object) (env.constant_item j).offset (k.constant_item j n e);
  target = λ n e. refers_nested g f n (VariableOf env.target.object) env.target.offset (k.target n e);
}

pub knows_nested : {limit : ℕ} {cuts : ℕ → ℕ → List ℕ} {g : Ghost} {f : Fixed} {s : Sight} {env : Env} → Knows limit cuts g f s env → Knows limit cuts g f (nested_sight s) env
knows_nested k = record { most = k.most; nested = k.nested; plan = k.plan; kept = k.kept; top = k.top; beyond = k.beyond; global = k.global; outside = k.outside; one = k.one; old = k.old; hidden = k.hidden; object = k.object; parameter = k.parameter; item = k.item; constant_item = k.constant_item; target = k.target; handled = k.handled; free = k.free }

pub chunk_entry : (chunk : Chunk) (s : Sight) → (chunk_sight chunk s).scope.entry ≡ s.scope.entry
chunk_entry NoChunk s = refl
chunk_entry (Count e) s = refl
chunk_entry (Each k low high check) s = refl

-- what a chunk specification came to: from the one number to the other
abbrev pub Chunks : Chunk → ℤ → ℤ → Chunking → Type 0
Chunks NoChunk first last k = k ≡ record { most = many first last; even = false; bound = λ j e. e }
Chunks (Count e) first last k = k ≡ record { most = many first last; even = false; bound = λ j e. e }
Chunks (Each n low high check) first last k = k ≡ record { most = many first last; even = true; bound = λ j. Meaning.with_parameter n (first +ℤ pos j) }

pub to_nat_same : (z : ℤ) → natural z ≡ Values.to_nat z
to_nat_same (pos n) = refl
to_nat_same (negsuc n) = refl

-- it is dealt alike
sizes_same : (limit : ℕ) (cuts : ℕ → ℕ → List ℕ) (chunk : Chunk) (first last u v : ℤ) (k : Chunking) (site : ℕ) → Chunks chunk first last k
    → stored.sizes_of limit cuts (cut_of k (Values.count u v)) ≡ sizes_for cuts (loop_kind chunk) (Rattle.stack_code.specs.Deeds.asked site u v first last (pos 0))
sizes_same limit cuts NoChunk first last u v k site e = ap (λ k. stored.sizes_of limit cuts (cut_of k (Values.count u v))) e ∙ ap (λ n. cuts (many first last) n) (sym (to_nat_same (v +ℤ pos 1 -ℤ u)))
sizes_same limit cuts (Count z) first last u v k site e = ap (λ k. stored.sizes_of limit cuts (cut_of k (Values.count u v))) e ∙ ap (λ n. cuts (many first last) n) (sym (to_nat_same (v +ℤ pos 1 -ℤ u)))
sizes_same limit cuts (Each n low high check) first last u v k site e =
    ap (λ k. stored.sizes_of limit cuts (cut_of k (Values.count u v))) e ∙ ap (λ n. Rattle.ada_base.specs.Cuts.evens n (many first last)) (sym (to_nat_same (v +ℤ pos 1 -ℤ u)))

-- the number of a thread's chunk
abbrev pub Numbered : Chunk → (index number : ℕ) → Type 0
Numbered NoChunk index number = Unit {0}
Numbered (Count e) index number = Unit {0}
Numbered (Each k low high check) index number = index ≡ number

pub numbered : (chunk : Chunk) (first last : ℤ) (k : Chunking) (n j : ℕ) → Chunks chunk first last k → Numbered chunk (chunk_of (cut_of k n) j) j
numbered NoChunk first last k n j e = tt
numbered (Count z) first last k n j e = tt
numbered (Each kc low high check) first last k n j e = ap (λ k. chunk_of (cut_of k n) j) e

pub plain_kind : (c : Code) (chunk : Chunk) (q : Asked) (vs : List ℤ) → answer_of c (loop_kind chunk) q (gave.Numbers vs) ≡ gave.Nothing
plain_kind c NoChunk q vs = refl
plain_kind c (Count e) q vs = refl
plain_kind c (Each k low high check) q vs = refl

module _ (limit : ℕ) (cuts : ℕ → ℕ → List ℕ) (program : Program) (c : Code) (f : Fixed) (calls : ℕ → ℕ → Stored (Unit {0}) → List Passed → Stored Returned) (globals : ℕ → Entity → Option Named) (mains : Entity → Bool) (epar : Sight → Expr → Type 0) (calls_all : (f' : Fixed) → Alike f' f → InnerDo limit cuts program globals mains epar c f' calls) where
  abbrev ops : Operations {1}
  ops = stored.noted_operations limit cuts

  -- ---- threads

  module _ (g : Ghost) (s : Sight) (env : Env) (kn : Knows limit cuts g f s env) (site : ℕ) (cs : CodeSite) (four : 4 ≤ cs.frame) (p : ℕ) (u v cl ch initial : ℤ) (chunk : Chunk) (k : Chunking) (told : Chunks chunk cl ch k) (idx : ℕ) (j : Share) (at_ : Numbered chunk idx j.number) where
    abbrev pub asking : Asked
    asking = Rattle.stack_code.specs.Deeds.asked site u v cl ch initial

    abbrev pub t : Sight
    t = thread_sight site cs.frame s

    abbrev pub turn_env : ℕ → Env
    turn_env i = Meaning.with_parameter p (u +ℤ pos i) (k.bound idx env)

    abbrev pub gi : ℕ → Ghost
    gi i = turn_ghost limit cuts program c f calls globals mains epar calls_all g s env kn site cs four asking j i

    knows_plain : (i : ℕ) → Knows limit cuts (gi i) (threaded f g.top) (taking 2 (taking 2 t)) env
    knows_plain i = knows_turn limit cuts program c f calls globals mains epar calls_all g s env kn site cs four asking j i

    first_holds : (i : ℕ) → Holds (gi i) (threaded f g.top) (own 2) (u +ℤ pos i)
    first_holds i = (g.top + 2, refl, inl (first_kept limit cuts program c f calls globals mains epar calls_all g s env kn site cs four asking j i))

    chunk_holds : (i : ℕ) → Holds (gi i) (threaded f g.top) (own 0) (cl +ℤ pos j.number)
    chunk_holds i = (g.top + 0, refl, inl (chunk_kept limit cuts program c f calls globals mains epar calls_all g s env kn site cs four asking j i))

    pub turn_knows : (ck : Chunk) → Chunks ck cl ch k → Numbered ck idx j.number → (i : ℕ) → Knows limit cuts (gi i) (threaded f g.top) (range_sight (chunk_sight ck (taking 2 t)) None p false 0) (turn_env i)
    turn_knows NoChunk e nn i = subst (λ (k : Chunking). Knows limit cuts (gi i) (threaded f g.top) (range_sight (taking 2 t) None p false 0) (Meaning.with_parameter p (u +ℤ pos i) (k.bound idx env))) (sym e)
        (knows_parameter limit cuts c (threaded f g.top) p (own 2) (u +ℤ pos i) (knows_plain i) (first_holds i))
    turn_knows (Count z) e nn i = subst (λ (k : Chunking). Knows limit cuts (gi i) (threaded f g.top) (range_sight (taking 2 t) None p false 0) (Meaning.with_parameter p (u +ℤ pos i) (k.bound idx env))) (sym e)
        (knows_parameter limit cuts c (threaded f g.top) p (own 2) (u +ℤ pos i) (knows_plain i) (first_holds i))
    turn_knows (Each kc low high check) e nn i = subst (λ (k : Chunking). Knows limit cuts (gi i) (threaded f g.top) (range_sight (with_parameter kc (own 0) (taking 2 t)) None p false 0) (Meaning.with_parameter p (u +ℤ pos i) (k.bound idx env))) (sym e)
        (knows_parameter limit cuts c (threaded f g.top) p (own 2) (u +ℤ pos i)
        (knows_parameter limit cuts c (threaded f g.top) kc (own 0) (cl +ℤ pos idx) (knows_plain i) (subst (λ m. Holds (gi i) (threaded f g.top) (own 0) (cl +ℤ pos m)) (sym nn) (chunk_holds i))) (first_holds i))

    -- the same of a reduction, with the accumulator on the stack
    pub fold_range_thread : (may : Leave → Type 0) (turn : Env → ℤ → Stored ℤ) (body : Emit) (to : ℕ)
        → (let t1 = chunk_sight chunk (taking 2 t) in Stands c (one t1.scope 0 (i.LoadL 1) ⨟ Emission.turns_code t1.scope 1 2 (one t1.scope 1 i.Turn ⨟ body) ⨟ one t1.scope 1 i.EndV) cs.entry to)
        → ((g' : Ghost) (env' : Env) (a : ℤ) (head mid : ℕ) → Knows limit cuts g' (threaded f g.top) (range_sight (chunk_sight chunk (taking 2 t)) None p false 0) env' → Stands c (one (chunk_sight chunk (taking 2 t)).scope 1 i.Turn ⨟ body) head mid
        → Runs limit c (threaded f g.top) thread_ends g' any (turn env' a) (λ d. on (threaded f g.top) head (a ∷ []) d) (λ b d. on (threaded f g.top) mid (b ∷ []) d))
        → ((st : stored.State) (l : Leave) → ((through stored.doings j.first j.size initial (λ i a. turn (turn_env i) a)).does st).end ≡ Err (stored.Left l) → may l)
        → ThreadDoes limit c may g f cs asking (λ z. Some z) j (through stored.doings j.first j.size initial (λ i a. turn (turn_env i) a))
    fold_range_thread may turn body to l step ml =
        fold_thread limit cuts program c f calls globals mains epar calls_all g s env kn site cs four asking j may (chunk_sight chunk (taking 2 t)) (one (chunk_sight chunk (taking 2 t)).scope 1 i.Turn ⨟ body) (chunk_entry chunk (taking 2 t)) to (λ i a. turn (turn_env i) a) l
        (λ i a head mid st. step (gi i) (turn_env i) a head mid (turn_knows chunk told at_ i) st) ml

    -- a thread's turns, by what is done in one
    pub range_thread : (may : Leave → Type 0) (tests : Env → Stored Bool) (does : Env → Stored (Unit {0})) (body : Emit) (to : ℕ) → (let t1 = chunk_sight chunk (taking 2 t) in Stands c (Emission.turns_code t1.scope 0 2 (one t1.scope 0 i.Turn ⨟ body) ⨟ one t1.scope 0 i.End) cs.entry to)
        → ((g' : Ghost) (env' : Env) (a b : ℕ) → Knows limit cuts g' (threaded f g.top) (range_sight (chunk_sight chunk (taking 2 t)) None p false 0) env' → Stands c body a b
        → Acts limit cuts program c (threaded f g.top) calls globals mains epar (calls_all (threaded f g.top) (alike f)) thread_ends g' (stored.bind (tests env') (λ z. cond z (does env') (stored.ret tt))) a b)
        → ((st : stored.State) (l : Leave) → ((through stored.doings j.first j.size tt (λ i (_ : Unit {0}). Meaning.iterate ops (tests (turn_env i)) (does (turn_env i)))).does st).end ≡ Err (stored.Left l) → may l)
        → ThreadDoes limit c may g f cs asking (λ (z : Unit {0}). None) j (through stored.doings j.first j.size tt (λ i _. Meaning.iterate ops (tests (turn_env i)) (does (turn_env i))))
    range_thread may tests does body to l step ml =
        loop_thread limit cuts program c f calls globals mains epar calls_all g s env kn site cs four asking j may (chunk_sight chunk (taking 2 t)) (one (chunk_sight chunk (taking 2 t)).scope 0 i.Turn ⨟ body) (chunk_entry chunk (taking 2 t)) to (λ i _. Meaning.iterate ops (tests (turn_env i)) (does (turn_env i))) l
        (λ i a head mid (at, b). iterate_does limit cuts program c (threaded f g.top) calls globals mains epar (calls_all (threaded f g.top) (alike f)) (tests (turn_env i)) (does (turn_env i)) thread_ends head mid kn.most (at_entry (chunk_entry chunk (taking 2 t)) at) (step (gi i) (turn_env i) (head + 1) mid (turn_knows chunk told at_ i) b))
        ml

module _ (limit : ℕ) (cuts : ℕ → ℕ → List ℕ) (program : Program) (c : Code) (f : Fixed) (calls : ℕ → ℕ → Stored (Unit {0}) → List Passed → Stored Returned) (globals : ℕ → Entity → Option Named) (mains : Entity → Bool) (epar : Sight → Expr → Type 0) (calls_all : (f' : Fixed) → Alike f' f → InnerDo limit cuts program globals mains epar c f' calls) where
  abbrev oper : Operations {1}
  oper = stored.noted_operations limit cuts

  -- ---- the whole

  module _ (x : Ends) (g : Ghost) (env : Env) (s : Sight) (kn : Knows limit cuts g f s env) (su : Suits limit c f x s) (kept : f.kept ≡ []) (nested : f.nested ≡ env.nested) (plan : g.plan ≡ cuts) (room : s.scope.free + 5 < s.cells)
      (number : ℕ) (all loops : List ℕ) (within : (n : ℕ) → In n loops → In n all) (exits_to : (n from to : ℕ) → In n loops → Stands c (exiting (taking 2 (taking 2 s)).scope n (s.scope.exits n)) from to → (d : Dyn) → To limit c (on f from [] d) (x.exits n d))
      (chunk : Chunk) (cs : CodeSite) (site : ℕ) (site_at : slice_get c.sites site ≡ Some cs) (kind : cs.kind ≡ loop_kind chunk) (four : 4 ≤ cs.frame) (entry : (qf : ℕ) → slice_get c.instrs qf ≡ Some (i.Fork site) → cs.entry ≡ qf + 1 + 1)
      (p : ℕ) (low high : Expr) (check : Option Check) (filter : Optional) (does : Env → Stored (Unit {0})) (body : Scope → Emit) where
    abbrev fi : Fixed
    fi = nested_in f

    abbrev it : Iteration
    it = Range p false low high check filter

    -- where the construct is begun
    abbrev r : Sight
    r = nested_sight s

    -- the scope of a turn
    abbrev pub turn : Sight
    turn = turn_sight (thread_sight site cs.frame (taking 2 (taking 2 s))) chunk it

    abbrev tests : Env → Stored Bool
    tests e = Meaning.holds oper limit program calls filter e

    abbrev g1 : ℤ → ℤ → Ghost
    g1 cl ch = counts_at limit cuts c f x s.scope.free cl ch g

    abbrev g2 : ℤ → ℤ → ℤ → ℤ → Ghost
    g2 cl ch l u = counts_at limit cuts c f x (s.scope.free + 2) l u (g1 cl ch)

    kn1 : (cl ch : ℤ) → Knows limit cuts (g1 cl ch) f (taking 2 s) env
    kn1 cl ch = knows_counts limit cuts c f s cl ch (omega (arith, room)) kn

    kn2 : (cl ch l u : ℤ) → Knows limit cuts (g2 cl ch l u) f (taking 2 (taking 2 s)) env
    kn2 cl ch l u = knows_counts limit cuts c f (taking 2 s) l u (omega (arith, room)) (kn1 cl ch)

    left_as_back : LeftAs limit c f fi x
    left_as_back l d = back l
      where
        back : (l : Leave) → To limit c (Fits.left_by f x l d) (Fits.left_by fi x l d)
        back (Exits n) = comes_here limit c (x.exits n d)
        back (Returns v) = comes_here limit c (x.returns v d)
        back (Raises r) = subst (λ y. To limit c (thrown r x.entry f d) y) (sym (raises_same limit c f x r d)) (comes_here limit c (thrown r x.entry f d))

    abbrev team_of : Chunking → ℤ → ℤ → Site
    team_of k l u = Meaning.site_at site chunk it (cut_of k (Values.count l u)) k (record { count = Values.count l u; bound = λ i. Meaning.with_parameter p (cond false (u -ℤ pos i) (l +ℤ pos i)) }) (inside env)

    -- what follows the range
    abbrev after_course : Chunking → Course → Stored (Unit {0})
    after_course k co = stored.bind (Meaning.unless oper (nat_le co.count most_iterations) reason.StorageError)
        (λ _. stored.handles (stored.noted_loops limit cuts (Meaning.site_at site chunk it (cut_of k co.count) k co (inside env)) (cut_of k co.count) (λ j i. Meaning.iterate oper (tests (co.bound i (k.bound j (inside env)))) (does (co.bound i (k.bound j (inside env)))))) (Meaning.exits number) (λ _. stored.ret tt))

    -- cells that were kept before
    kept_below : (cl ch l u : ℤ) (n : ℕ) (v : ℤ) → n < s.scope.free + 2 → (g1 cl ch).what (f.base + n) ≡ Keeps v → (g2 cl ch l u).what (f.base + n) ≡ Keeps v
    kept_below cl ch l u n v lt e =
        what_other (set_what (f.base + (s.scope.free + 2)) (Keeps l) (g1 cl ch)) (f.base + (s.scope.free + 2 + 1)) (f.base + n) (Keeps u) (λ z. omega (arith, z, lt))
        ∙ what_other (g1 cl ch) (f.base + (s.scope.free + 2)) (f.base + n) (Keeps l) (λ z. omega (arith, z, lt)) ∙ e

    module _ (step : (f' : Fixed) (fc : Alike f' f) (top : ℕ) (is : f' ≡ threaded (nested_in f) top) (g' : Ghost) (env' : Env) (a b : ℕ) → Knows limit cuts g' f' turn env' → Stands c (filtered program turn.scope 0 filter (body turn.scope)) a b
        → Acts limit cuts program c f' calls globals mains epar (calls_all f' fc) thread_ends g' (stored.bind (tests env') (λ z. cond z (does env') (stored.ret tt))) a b)
        (leaves_so : (first size : ℕ) (envs : ℕ → Env) (st : stored.State) (l : Leave) → ((through stored.doings first size tt (λ i (_ : Unit {0}). Meaning.iterate oper (tests (envs i)) (does (envs i)))).does st).end ≡ Err (stored.Left l) → MayLeave (Some number) loops l)
        (lends : (k : Chunking) (cl ch l u : ℤ) → Chunks chunk cl ch k → (gg : Ghost) → Knows limit cuts gg (nested_in f) (taking 2 (taking 2 s)) (inside env)
        → Lends (nested_in f) gg cs (Rattle.stack_code.specs.Deeds.asked site l u cl ch (pos 0)) (team_of k l u) (deal 0 0 (sizes_for gg.plan cs.kind (Rattle.stack_code.specs.Deeds.asked site l u cl ch (pos 0))))) where
      -- from the two ranges on
      ranged : (k : Chunking) (cl ch l u : ℤ) → Chunks chunk cl ch k → nat_le 1 (many cl ch) ≡ true → nat_le (many cl ch) most_threads ≡ true → (m2 to : ℕ)
          → Stands c (ends_code (taking 2 r).scope 0 it ⨟ fork_code r.scope 0 2 (loop_kind chunk) site s.scope.free (one r.scope 4 (i.Push (pos 0)))
          (let t = thread_sight site cs.frame (taking 2 (taking 2 s)) in Emission.threaded program t.scope 0 chunk (s.scope.free + 1 + 1) it body ⨟ one (chunk_sight chunk (taking 2 t)).scope 0 i.End)
          ⨟ one r.scope 2 i.Unnest ⨟ left_code (taking 2 (taking 2 s)).scope (Some number) all) m2 to
          → Doing limit c f x (g2 cl ch l u) (g2 cl ch l u) any (after_course k (record { count = Values.count l u; bound = λ i. Meaning.with_parameter p (cond false (u -ℤ pos i) (l +ℤ pos i)) })) (λ d. on fi m2 [] d) (λ _ d. on f to [] d)
      unfolding Rattle.ada_lower.specs.Emission.emit Rattle.ada_lower.specs.Emission.stmt
      ranged k cl ch l u told some few m2 to st =
          let s4 : Sight = taking 2 (taking 2 s) in
          let t : Sight = thread_sight site cs.frame s4 in
          let tb : Emit = Emission.threaded program t.scope 0 chunk (s.scope.free + 1 + 1) it body ⨟ one (chunk_sight chunk (taking 2 t)).scope 0 i.End in
          let fc : Emit = fork_code r.scope 0 2 (loop_kind chunk) site s.scope.free (one r.scope 4 (i.Push (pos 0))) tb in
          let (m3, (je1, (je2, ze)), r3) = stands_seq c m2 to (ends_code (taking 2 r).scope 0 it) (fc ⨟ one r.scope 2 i.Unnest ⨟ left_code s4.scope (Some number) all) st in
          let (m4, (jd0, (jd1, (jp, (jf, lb)))), (ju, ll)) = stands_seq c m3 to fc (one r.scope 2 i.Unnest ⨟ left_code s4.scope (Some number) all) r3 in
          let (jj, bd) = stands_behind c (m3 + 1 + 1 + 1 + 1) m4 r.scope 2 tb lb in
          let goal : Unit {0} → Dyn → Step = λ _ d. on f to [] d in
          let q : Asked = Rattle.stack_code.specs.Deeds.asked site l u cl ch (pos 0) in
          let gg : Ghost = g2 cl ch l u in
          does_by limit c f x (λ stt d w.
          comes_on limit c (comes_kept limit cuts c fi (s.scope.free + 2) l [] d w (first_at limit cuts c f x (s.scope.free + 2) l u (g1 cl ch)) je1)
          (comes_on limit c (comes_kept limit cuts c fi (s.scope.free + 2 + 1) u (l ∷ []) d w (last_at limit cuts c f x (s.scope.free + 2) l u (g1 cl ch)) je2)
          (subst (λ z. To limit c (on fi z (u ∷ l ∷ []) d) (on fi (m3 + 1 + 1 + 1) (pos 0 ∷ ch ∷ cl ∷ u ∷ l ∷ []) d)) ze
          (comes_on limit c (comes_kept limit cuts c fi s.scope.free cl (u ∷ l ∷ []) d w (kept_below cl ch l u s.scope.free cl (omega arith) (first_at limit cuts c f x s.scope.free cl ch g)) jd0)
          (comes_on limit c (comes_kept limit cuts c fi (s.scope.free + 1) ch (cl ∷ u ∷ l ∷ []) d w (kept_below cl ch l u (s.scope.free + 1) ch (omega arith) (last_at limit cuts c f x s.scope.free cl ch g)) jd1)
          (comes_goes limit c fi (ch ∷ cl ∷ u ∷ l ∷ []) (m3 + 1 + 1 + 1) (pos 0 ∷ ch ∷ cl ∷ u ∷ l ∷ []) d jp refl))))))
          (subst (λ n. Doing limit c f x gg gg any (stored.bind (Meaning.unless oper (nat_le n most_iterations) reason.StorageError)
          (λ _. stored.handles (stored.noted_loops limit cuts (team_of k l u) (cut_of k (Values.count l u)) (λ j i. Meaning.iterate oper (tests (Meaning.with_parameter p (l +ℤ pos i) (k.bound j (inside env)))) (does (Meaning.with_parameter p (l +ℤ pos i) (k.bound j (inside env)))))) (Meaning.exits number) (λ _. stored.ret tt)))
          (λ d. on fi (m3 + 1 + 1 + 1) (pos 0 ∷ ch ∷ cl ∷ u ∷ l ∷ []) d) goal) (to_nat_same (u +ℤ pos 1 -ℤ l))
          (forked_does limit cuts program c f calls globals mains epar calls_all x gg env s4 (kn2 cl ch l u) (suits_as s4 s refl refl refl refl refl (λ n. refl) su) (omega (arith, room)) kept all loops within exits_to
          (Some number) (m3 + 1 + 1 + 1) m4 to (at_entry su.entry jj) (at_entry su.entry ju) ll gg (λ a y z e. inl e) (λ stt d w. w) (MayLeave (Some number) loops) (λ w m. m)
          cs site l u cl ch site_at (at_entry su.entry jf)
          (λ vs. ap (λ kd. answer_of c kd q (gave.Numbers vs)) kind ∙ plain_kind c chunk q vs) some few (team_of k l u)
          (λ j i. Meaning.iterate oper (tests (Meaning.with_parameter p (l +ℤ pos i) (k.bound j (inside env)))) (does (Meaning.with_parameter p (l +ℤ pos i) (k.bound j (inside env)))))
          (cut_of k (Values.count l u))
          (sizes_same limit cuts chunk cl ch l u k site told ∙ ap₂ (λ pl kd. sizes_for pl kd q) (sym plan) (sym kind))
          (λ j. Unit {0}) (every_one _) (λ j _. range_thread limit cuts program c fi calls globals mains epar calls_all gg s4 (inside env) (knows_forked ((kn2 cl ch l u))) site cs four p l u cl ch (pos 0) chunk k told (chunk_of (cut_of k (Values.count l u)) j.number) j (numbered chunk cl ch k (Values.count l u) j.number told) (MayLeave (Some number) loops) tests does
          (filtered program turn.scope 0 filter (body turn.scope)) m4 (subst (λ z. Stands c tb z m4) (sym (entry (m3 + 1 + 1 + 1) (itself refl jf))) bd)
          (λ g' env' a b kk ss. step (threaded fi gg.top) (alike f) gg.top refl g' env' a b kk ss)
          (λ stt w e. leaves_so j.first j.size _ stt w e))
          (knows_forked (kn2 cl ch l u)) (lends k cl ch l u told gg (knows_forked (kn2 cl ch l u)))
          (λ owner apart j _. range_thread limit cuts program c fi calls globals mains epar calls_all (view_ghost owner j.number gg) (no_free s4) (inside env) (knows_view owner j.number (knows_forked (kn2 cl ch l u)) apart) site cs four p l u cl ch (pos 0) chunk k told (chunk_of (cut_of k (Values.count l u)) j.number) j (numbered chunk cl ch k (Values.count l u) j.number told) (MayLeave (Some number) loops) tests does
          (filtered program turn.scope 0 filter (body turn.scope)) m4 (subst (λ z. Stands c tb z m4) (sym (entry (m3 + 1 + 1 + 1) (itself refl jf))) bd)
          (λ g' env' a b kk ss. step (threaded fi gg.top) (alike f) gg.top refl g' env' a b kk ss)
          (λ stt w e. leaves_so j.first j.size _ stt w e))))

      -- what the code of a chunk specification does
      abbrev pub ChunkLaw : Type 1
      ChunkLaw = (from to : ℕ) → Stands c (chunk_code program r.scope 0 chunk) from to → (then : Chunking → Stored (Unit {0})) (goal : Unit {0} → Dyn → Step)
          → ((k : Chunking) (cl ch : ℤ) → Chunks chunk cl ch k → nat_le 1 (many cl ch) ≡ true → nat_le (many cl ch) most_threads ≡ true → Runs limit c fi x (g1 cl ch) any (then k) (λ d. on fi to [] d) goal)
          → Runs limit c fi x g any (stored.bind (Meaning.chunking oper limit program calls chunk (inside env)) then) (λ d. on fi from [] d) goal

      abbrev pub parallel : Stored (Unit {0})
      parallel = stored.bind (Meaning.opened oper env) (λ _. stored.bind (Meaning.chunking oper limit program calls chunk (inside env)) (λ k. stored.bind (Meaning.course oper limit program calls it (inside env)) (λ co. after_course k co)))

      -- a parallel loop over a range
      pub parallel_for_does : ChunkLaw → Fitted program globals mains epar (taking 2 r) low → Fitted program globals mains epar (taking 1 (taking 2 r)) high → (from to : ℕ) → Stands c (parallel_for program s.scope number site chunk it all body) from to
          → Acts limit cuts program c f calls globals mains epar (calls_all f (alike f)) x g parallel from to
      unfolding Rattle.ada_lower.specs.Emission.emit Rattle.ada_lower.specs.Emission.stmt
      parallel_for_does chunks wl wh from to (jn, st) =
          let s4 : Sight = taking 2 (taking 2 s) in
          let t : Sight = thread_sight site cs.frame s4 in
          let tb : Emit = Emission.threaded program t.scope 0 chunk (s.scope.free + 1 + 1) it body ⨟ one (chunk_sight chunk (taking 2 t)).scope 0 i.End in
          let rest : Emit = ends_code (taking 2 r).scope 0 it ⨟ fork_code r.scope 0 2 (loop_kind chunk) site s.scope.free (one r.scope 4 (i.Push (pos 0))) tb ⨟ one r.scope 2 i.Unnest ⨟ left_code s4.scope (Some number) all in
          let goal : Unit {0} → Dyn → Step = λ _ d. on f to [] d in
          let (m1, lc, r1) = stands_seq c (from + 1) to (chunk_code program r.scope 0 chunk) (course_code program (taking 2 r).scope 0 it ⨟ rest) st in
          let (m2, lr, r2) = stands_seq c m1 to (course_code program (taking 2 r).scope 0 it) rest r1 in
          does_bind limit c f x (does_opened limit c f x cuts env [] nested (at_entry su.entry jn)) (λ _ _.
          does_inside limit c f x fi refl refl (left_as_nested limit c f x)
          (chunks (from + 1) m1 lc (λ k. stored.bind (Meaning.course oper limit program calls it (inside env)) (λ co. after_course k co)) goal (λ k cl ch told some few.
          let follows : (l u : ℤ) → Doing limit c fi x (g2 cl ch l u) (g1 cl ch) any (after_course k (record { count = Values.count l u; bound = λ i. Meaning.with_parameter p (cond false (u -ℤ pos i) (l +ℤ pos i)) })) (λ d. on fi m2 [] d) goal
          = λ l u. does_weak limit c fi x (λ stt d w. fit_uncount limit cuts c f (taking 2 s) l u (omega (arith, room)) (kn1 cl ch) stt d w)
          (does_inside limit c fi x f refl refl left_as_back (ranged k cl ch l u told some few m2 to r2)) in
          course_by limit cuts c fi x (taking 2 r) 0 p false (emit program (taking 2 r).scope 0 low) (emit program (taking 1 (taking 2 r)).scope 0 high) (Meaning.eval oper limit program calls low (inside env)) (Meaning.eval oper limit program calls high (inside env)) check (Emission.bounds_code (taking 2 r).scope 0 (s.scope.free + 2) check) none m1 m2 [] (λ co. after_course k co) (λ from to l. (to, l, refl)) (knows_nested (knows_forked ((kn1 cl ch)))) su.entry (omega (arith, room))
          (λ from to l. value_does limit cuts program c fi x calls globals mains epar (calls_all fi (alike f)) low from to (taking 2 r) 0 [] (knows_nested (knows_forked ((kn1 cl ch)))) su.entry wl l) (λ from to g' k' l. value_does limit cuts program c fi x calls globals mains epar (calls_all fi (alike f)) high from to (taking 1 (taking 2 r)) 0 [] k' su.entry wh l) lr
          (λ l u e. follows l u)
          (λ l u start e z. subst (λ a. Doing limit c fi x (g2 cl ch l u) (g1 cl ch) any (after_course k (record { count = Values.count l u; bound = λ i. Meaning.with_parameter p (cond false (u -ℤ pos i) (l +ℤ pos i)) })) (λ d. on fi a [] d) goal) z (follows l u)))))

-- which is what the statement does
pub parallel_is : (limit : ℕ) (cuts : ℕ → ℕ → List ℕ) (program : Program) (calls : ℕ → ℕ → Stored (Unit {0}) → List Passed → Stored Returned) (number site p : ℕ) (chunk : Chunk) (low high : Expr) (check : Option Check) (filter : Optional) (stmts : Stmts) (env : Env)
    → Meaning.exec (stored.noted_operations limit cuts) limit program calls (ParallelFor number site chunk (Range p false low high check filter) stmts) env
    ≡ stored.bind (Meaning.opened (stored.noted_operations limit cuts) env) (λ _. stored.bind (Meaning.chunking (stored.noted_operations limit cuts) limit program calls chunk (inside env)) (λ k. stored.bind (Meaning.course (stored.noted_operations limit cuts) limit program calls (Range p false low high check filter) (inside env)) (λ co.
    stored.bind (Meaning.unless (stored.noted_operations limit cuts) (nat_le co.count most_iterations) reason.StorageError)
    (λ _. stored.handles (stored.noted_loops limit cuts (Meaning.site_at site chunk (Range p false low high check filter) (cut_of k co.count) k co (inside env)) (cut_of k co.count) (λ j i. Meaning.iterate (stored.noted_operations limit cuts) (Meaning.holds (stored.noted_operations limit cuts) limit program calls filter (co.bound i (k.bound j (inside env)))) (Meaning.exec_all (stored.noted_operations limit cuts) limit program calls stmts (co.bound i (k.bound j (inside env)))))) (Meaning.exits number) (λ _. stored.ret tt)))))
parallel_is limit cuts program calls number site p chunk low high check filter stmts env = refl
