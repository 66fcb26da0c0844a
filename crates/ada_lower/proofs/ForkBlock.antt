-- Parallel blocks, whole.
use Rattle.std.proofs.Common.{◌≡◌, ℕ, ◌+◌, ◌-◌, ◌<◌, ◌≤◌, min, ℤ, pos, ◌+ℤ◌, ◌-ℤ◌, nat_le, List, [], ◌∷◌, length, slice_get, Option, None, Some, Err, Bool, true, ◌&&◌, refl, sym, ap, ap₂, ◌∙◌, subst, le_refl, arith, le-leb, inl}
use Rattle.std.proofs.lemmas.Int.{ints}
use Rattle.ada_base.specs.Cuts.{evens}
use Rattle.behaviours.specs.Doings.{through}
use Rattle.behaviours.specs.Paths.{Leave, Exits, Returns, Raises}
use Rattle.typed_tree.specs.Syntax.{NoChunk, Count, Expr, Optional, Absent, Present, Program}
use Rattle.ada_meaning.specs.Operations.{Sized, Operations}
use Rattle.ada_meaning.specs.Stored as stored
use Rattle.ada_meaning.specs.Stored.{Stored}
use Rattle.ada_meaning.specs.Meaning
use Rattle.ada_meaning.specs.Meaning.{Env, Passed, Returned, inside, most_threads}
use Rattle.stack_code.specs.declared.code.Code.{Code}
use Rattle.stack_code.specs.declared.code.CodeSite.{CodeSite}
use Rattle.stack_code.specs.declared.code.SiteKind.TheVariants as site_kind
use Rattle.stack_code.specs.declared.instr.Instr.TheVariants as i
use Rattle.stack_code.specs.declared.path.Asked.{Asked}
use Rattle.stack_code.specs.declared.path.Gave.TheVariants as gave
use Rattle.stack_code.specs.Deeds
use Rattle.stack_code.specs.Deeds.{many, can_fork}
use Rattle.behaviours.specs.Paths.{Entity}
use Rattle.ada_lower.specs.Driven.{Dyn, Fixed, on, thrown, sizes_for, answer_of, Alike}
use Rattle.ada_lower.proofs.Alike.{alike}
use Rattle.ada_lower.specs.Sights.{nested_sight, Emit, Named, Sight, Stands, one, taking, thread_sight, ◌⨟◌}
use Rattle.ada_lower.specs.Emission.{exiting}
use Rattle.ada_lower.specs.Fits.{Ghost, Ends, Knows}
use Rattle.ada_lower.specs.FittedForks.{FittedCount}
use Rattle.ada_lower.proofs.Forks.{threaded}
use Rattle.ada_lower.specs.Emission.{arms_code, chunk_by, chunk_code, fork_code, left_code}
use Rattle.ada_lower.proofs.Inner.{InnerDo}
use Rattle.ada_lower.proofs.Framework.{any, To, itself, comes_here, comes_on, comes_goes, does_before, does_returned, does_assoc, does_bind}
use Rattle.ada_lower.proofs.Memory.{own_free}
use Rattle.ada_lower.proofs.Standing.{stands_seq}
use Rattle.ada_lower.proofs.Parts.{Runs, does_weak, does_keep}
use Rattle.ada_lower.proofs.Names.{does_by}
use Rattle.ada_lower.proofs.Expressions.{at_entry}
use Rattle.ada_lower.proofs.Loops.{counts_at, first_at, last_at}
use Rattle.ada_lower.proofs.Statements.{Suits, suits_as, Acts}
use Rattle.ada_lower.proofs.Courses.{knows_counts, fit_uncount, comes_kept}
use Rattle.ada_lower.proofs.ForkInside.{nested_in, raises_same, LeftAs, left_as_nested, does_inside, does_opened}
use Rattle.ada_lower.proofs.ForkLeft.{In, MayLeave}
use Rattle.ada_lower.proofs.ForkFor.{every_one, stands_behind, blocked_does}
use Rattle.ada_lower.proofs.ForkRange.{knows_nested, knows_forked}
use Rattle.ada_lower.proofs.ForkChunks.{number_does, two_kept}
use Rattle.ada_lower.proofs.ForkArms.{ArmDoes, block_thread}
use Rattle.ada_lower.proofs.ForkFine.{Lends}
use Rattle.ada_lower.proofs.ForkViews.{view_ghost, no_free}
use Rattle.ada_lower.proofs.ForkSights.{knows_view}
use Rattle.behaviours.specs.Joins.{deal}

many_arms : (n : ℕ) → 1 ≤ n → many (pos 0) (pos (n - 1)) ≡ n
many_arms n le = ap Deeds.natural (let z : pos (n - 1) +ℤ pos 1 -ℤ pos 0 ≡ pos (n - 1 + 1) = omega (arith, ints) in z) ∙ (let z : n - 1 + 1 ≡ n = omega (arith, le) in z)

module _ (limit : ℕ) (cuts : ℕ → ℕ → List ℕ) (program : Program) (c : Code) (f : Fixed) (calls : ℕ → ℕ → Stored (Unit {0}) → List Passed → Stored Returned) (globals : ℕ → Entity → Option Named) (mains : Entity → Bool) (epar : Sight → Expr → Type 0) (calls_all : (f' : Fixed) → Alike f' f → InnerDo limit cuts program globals mains epar c f' calls)
    (x : Ends) (g : Ghost) (env : Env) (s : Sight) (kn : Knows limit cuts g f s env) (su : Suits limit c f x s) (kept : f.kept ≡ []) (nested : f.nested ≡ env.nested) (room : s.scope.free + 3 < s.cells)
    (all loops : List ℕ) (among : (n : ℕ) → In n loops → In n all) (exits_to : (n from to : ℕ) → In n loops → Stands c (exiting (taking 2 s).scope n (s.scope.exits n)) from to → (d : Dyn) → To limit c (on f from [] d) (x.exits n d))
    (cs : CodeSite) (site : ℕ) (site_at : slice_get c.sites site ≡ Some cs) (four : 4 ≤ cs.frame) (entry : (qf : ℕ) → slice_get c.instrs qf ≡ Some (i.Fork site) → cs.entry ≡ qf + 1 + 1)
    (count : Optional) (es : List Emit) (some_arms : 1 ≤ length es) (few_arms : length es ≤ 4611686018427387904) (kind : cs.kind ≡ site_kind.Block (length es)) (acts : ℕ → Stored (Unit {0})) where
  abbrev oper : Operations {1}
  oper = stored.noted_operations limit cuts

  abbrev fi : Fixed
  fi = nested_in f

  abbrev r : Sight
  r = nested_sight s

  abbrev t : Sight
  t = taking 2 (taking 2 (thread_sight site cs.frame (taking 2 s)))

  abbrev g1 : ℤ → ℤ → Ghost
  g1 cl ch = counts_at limit cuts c f x s.scope.free cl ch g

  kn1 : (cl ch : ℤ) → Knows limit cuts (g1 cl ch) f (taking 2 s) env
  kn1 cl ch = knows_counts limit cuts c f s cl ch (omega (arith, room)) kn

  abbrev pub BlockLeaves : Leave → Type 0
  BlockLeaves w = MayLeave None loops w

  abbrev dealt : ℕ → Stored (Unit {0})
  dealt most = stored.noted_loops limit cuts (Meaning.block_site site) (Sized (evens (length es) (min most (length es)))) (λ j i. acts i)

  abbrev tb : Emit
  tb = arms_code program t.scope 0 es ⨟ one t.scope 0 i.End

  abbrev rest : Emit
  rest = one r.scope 0 (i.Push (pos 0)) ⨟ one r.scope 1 (i.Push (pos (length es - 1))) ⨟ fork_code r.scope 0 2 (site_kind.Block (length es)) site s.scope.free (one r.scope 4 (i.Push (pos 0))) tb ⨟ one r.scope 2 i.Unnest ⨟ left_code (taking 2 s).scope None all

  module _ (arms : (f' : Fixed) (fc : Alike f' f) (top : ℕ) (is : f' ≡ threaded (nested_in f) top) (gi : Ghost) (k : ℕ) → Knows limit cuts gi f' t (inside env) → ArmDoes limit cuts program c f' calls globals mains epar (λ f'' e. calls_all f'' (e.0 ∙ fc.0, e.1 ∙ fc.1)) t refl gi (slice_get es k) (acts k))
      (leaves_so : (first size : ℕ) (w : stored.State) (l : Leave) → ((through stored.doings first size tt (λ k (_ : Unit {0}). acts k)).does w).end ≡ Err (stored.Left l) → BlockLeaves l)
      (lends : (ch : ℤ) (gg : Ghost) → Knows limit cuts gg (nested_in f) (taking 2 s) (inside env) → Lends (nested_in f) gg cs (Deeds.asked site (pos 0) (pos (length es - 1)) (pos 1) ch (pos 0)) (Meaning.block_site site) (deal 0 0 (sizes_for gg.plan cs.kind (Deeds.asked site (pos 0) (pos (length es - 1)) (pos 1) ch (pos 0))))) where
    numbered : (ch : ℤ) (from to : ℕ) → nat_le 1 (many (pos 1) ch) ≡ true → nat_le (many (pos 1) ch) most_threads ≡ true → Stands c rest from to
        → Runs limit c f x (g1 (pos 1) ch) any (dealt (many (pos 1) ch)) (λ d. on fi from [] d) (λ _ d. on f to [] d)
    numbered ch from to some few (ja, (jb, r1)) =
        let last : ℤ = pos (length es - 1) in
        let q : Asked = Deeds.asked site (pos 0) last (pos 1) ch (pos 0) in
        let gg : Ghost = g1 (pos 1) ch in
        let (m4, (jd0, (jd1, (jp, (jf, lb)))), (ju, ll)) = stands_seq c (from + 1 + 1) to (fork_code r.scope 0 2 (site_kind.Block (length es)) site s.scope.free (one r.scope 4 (i.Push (pos 0))) tb) (one r.scope 2 i.Unnest ⨟ left_code (taking 2 s).scope None all) r1 in
        let (jj, bd) = stands_behind c (from + 1 + 1 + 1 + 1 + 1 + 1) m4 r.scope 2 tb lb in
        does_by limit c f x (λ w d z.
        comes_on limit c (comes_goes limit c fi [] (from + 1) (pos 0 ∷ []) d ja refl)
        (comes_on limit c (comes_goes limit c fi (pos 0 ∷ []) (from + 1 + 1) (last ∷ pos 0 ∷ []) d jb refl)
        (comes_on limit c (comes_kept limit cuts c fi s.scope.free (pos 1) (last ∷ pos 0 ∷ []) d z (first_at limit cuts c f x s.scope.free (pos 1) ch g) jd0)
        (comes_on limit c (comes_kept limit cuts c fi (s.scope.free + 1) ch (pos 1 ∷ last ∷ pos 0 ∷ []) d z (last_at limit cuts c f x s.scope.free (pos 1) ch g) jd1)
        (comes_goes limit c fi (ch ∷ pos 1 ∷ last ∷ pos 0 ∷ []) (from + 1 + 1 + 1 + 1 + 1) (pos 0 ∷ ch ∷ pos 1 ∷ last ∷ pos 0 ∷ []) d jp refl)))))
        (blocked_does limit cuts program c f calls globals mains epar calls_all x gg env (taking 2 s) (kn1 (pos 1) ch) (suits_as (taking 2 s) s refl refl refl refl refl (λ n. refl) su) (omega (arith, room)) kept all loops among exits_to
        None (from + 1 + 1 + 1 + 1 + 1) m4 to (at_entry su.entry jj) (at_entry su.entry ju) ll gg (λ a y z e. inl e) (λ w d z. z) BlockLeaves (λ w m. m)
        cs site (pos 0) last (pos 1) ch site_at (at_entry su.entry jf) (λ vs. ap (λ kd. answer_of c kd q (gave.Numbers vs)) kind) some few (Meaning.block_site site)
        (λ j i. acts i) (Sized (evens (length es) (min (many (pos 1) ch) (length es))))
        (sym (ap (λ kd. sizes_for gg.plan kd q) kind ∙ ap (λ n. evens n (min (many (pos 1) ch) n)) (many_arms (length es) some_arms)))
        (λ j. Unit {0}) (every_one _) (λ j _. block_thread limit cuts program c fi calls globals mains epar calls_all gg (taking 2 s) (inside env) (knows_forked ((kn1 (pos 1) ch))) site cs four last (pos 1) ch j BlockLeaves es acts m4
        (subst (λ a. Stands c tb a m4) (sym (entry (from + 1 + 1 + 1 + 1 + 1) (itself refl jf))) bd) (λ gi k kk. arms (threaded fi gg.top) (alike f) gg.top refl gi k kk) (λ w l e. leaves_so j.first j.size w l e))
        (knows_forked (kn1 (pos 1) ch)) (lends ch gg (knows_forked (kn1 (pos 1) ch)))
        (λ owner apart j _. block_thread limit cuts program c fi calls globals mains epar calls_all (view_ghost owner j.number gg) (no_free (taking 2 s)) (inside env) (knows_view owner j.number (knows_forked (kn1 (pos 1) ch)) apart) site cs four last (pos 1) ch j BlockLeaves es acts m4
        (subst (λ a. Stands c tb a m4) (sym (entry (from + 1 + 1 + 1 + 1 + 1) (itself refl jf))) bd) (λ gi k kk. arms (threaded fi gg.top) (alike f) gg.top refl gi k kk) (λ w l e. leaves_so j.first j.size w l e))
        (ap (λ n. nat_le n 4611686018427387904 && (nat_le 1 (many (pos 1) ch) && nat_le (many (pos 1) ch) most_threads)) (many_arms (length es) some_arms)
        ∙ ap₂ (λ a b. a && b) (le-leb (length es) 4611686018427387904 few_arms) (ap₂ (λ t u. t && u) some few))
        (λ w m. refl))

    left_as_back : LeftAs limit c f fi x
    left_as_back (Exits n) d = comes_here limit c (x.exits n d)
    left_as_back (Returns v) d = comes_here limit c (x.returns v d)
    left_as_back (Raises r) d = subst (λ y. To limit c (thrown r x.entry f d) y) (sym (raises_same limit c f x r d)) (comes_here limit c (thrown r x.entry f d))

    follows : (ch : ℤ) (from to : ℕ) → nat_le 1 (many (pos 1) ch) ≡ true → nat_le (many (pos 1) ch) most_threads ≡ true → Stands c rest from to
        → Runs limit c fi x (g1 (pos 1) ch) any (dealt (many (pos 1) ch)) (λ d. on fi from [] d) (λ _ d. on f to [] d)
    follows ch from to some few l = does_inside limit c fi x f refl refl left_as_back (numbered ch from to some few l)

    counted : (o : Optional) → FittedCount program globals mains epar r o → (from to : ℕ) → Stands c (chunk_code program r.scope 0 (chunk_by program o) ⨟ rest) from to
        → Runs limit c fi x g any (stored.bind (Meaning.threads_of oper limit program calls o (inside env)) dealt) (λ d. on fi from [] d) (λ _ d. on f to [] d)
    unfolding Rattle.ada_lower.specs.Emission.emit
    counted Absent w from to l =
        let (m1, (j1, (j2, (j3, (j4, z)))), lr) = stands_seq c from to (chunk_code program r.scope 0 NoChunk) rest l in
        let room1 : s.scope.free < s.cells = omega (arith, room) in
        does_before limit c fi x (λ d. comes_goes limit c fi [] (from + 1) (pos 1 ∷ []) d j1 refl)
        (does_keep limit c fi x (from + 1) s.scope.free (pos 1) [] (own_free (g.what (f.base + s.scope.free)) (kn.free s.scope.free (le_refl s.scope.free) room1)) (at_entry su.entry j2)
        (does_before limit c fi x (λ d. comes_goes limit c fi [] (from + 1 + 1 + 1) (pos most_threads ∷ []) d j3 refl)
        (two_kept limit cuts program c fi calls globals mains epar calls_all x g (inside env) r (knows_nested (knows_forked kn)) su.entry (omega (arith, room)) 0 [] (Unit {0}) (pos 1) (pos most_threads) (from + 1 + 1 + 1) (at_entry su.entry j4)
        (does_returned limit c fi x dealt most_threads
        (does_weak limit c fi x (λ st d y. fit_uncount limit cuts c f s (pos 1) (pos most_threads) (omega (arith, room)) kn st d y)
        (subst (λ q. Runs limit c fi x (g1 (pos 1) (pos most_threads)) any (dealt most_threads) (λ d. on fi q [] d) (λ _ d. on f to [] d)) z
        (follows (pos most_threads) m1 to refl refl lr)))))))
    counted (Present e) w from to l =
        let (m1, lc, lr) = stands_seq c from to (chunk_code program r.scope 0 (Count e)) rest l in
        does_assoc limit c fi x _ _ dealt
        (number_does limit cuts program c fi calls globals mains epar calls_all x g (inside env) r (knows_nested (knows_forked kn)) su.entry (omega (arith, room)) 0 [] (Unit {0}) e from m1 lc w dealt (λ _ d. on f to [] d)
        (λ v. stored.bind (Meaning.most_of oper v) dealt) (λ v h a z. z)
        (λ n ch is some few. subst (λ n. Runs limit c fi x (g1 (pos 1) ch) any (dealt n) (λ d. on fi m1 [] d) (λ _ d. on f to [] d)) (sym is) (follows ch m1 to some few lr)))

    -- a parallel block
    pub block_does : FittedCount program globals mains epar r count → (from to : ℕ) → Stands c (one s.scope 0 i.Nest ⨟ chunk_code program r.scope 0 (chunk_by program count) ⨟ rest) from to
        → Acts limit cuts program c f calls globals mains epar (calls_all f (alike f)) x g (stored.bind (Meaning.opened oper env) (λ _. stored.bind (Meaning.threads_of oper limit program calls count (inside env)) dealt)) from to
    block_does w from to (jn, l) =
        does_bind limit c f x (does_opened limit c f x cuts env [] nested (at_entry su.entry jn)) (λ _ _.
        does_inside limit c f x fi refl refl (left_as_nested limit c f x) (counted count w (from + 1) to l))

-- what the statement does
pub block_is : (limit : ℕ) (cuts : ℕ → ℕ → List ℕ) (program : Program) (calls : ℕ → ℕ → Stored (Unit {0}) → List Passed → Stored Returned) (site : ℕ) (count : Optional) (arms : Rattle.typed_tree.specs.Syntax.Arms) (n : ℕ) (env : Env) → Meaning.arms_of arms ≡ n
    → Meaning.exec (stored.noted_operations limit cuts) limit program calls (Rattle.typed_tree.specs.Syntax.Parallel site count arms) env
    ≡ stored.bind (Meaning.opened (stored.noted_operations limit cuts) env) (λ _. stored.bind (Meaning.threads_of (stored.noted_operations limit cuts) limit program calls count (inside env))
    (λ most. stored.noted_loops limit cuts (Meaning.block_site site) (Sized (evens n (min most n))) (λ j i. Meaning.exec_arm (stored.noted_operations limit cuts) limit program calls arms i (inside env))))
block_is limit cuts program calls site count arms n env e =
    ap (λ n. stored.bind (Meaning.opened (stored.noted_operations limit cuts) env) (λ _. stored.bind (Meaning.threads_of (stored.noted_operations limit cuts) limit program calls count (inside env))
    (λ most. stored.noted_loops limit cuts (Meaning.block_site site) (Sized (evens n (min most n))) (λ j i. Meaning.exec_arm (stored.noted_operations limit cuts) limit program calls arms i (inside env))))) e
