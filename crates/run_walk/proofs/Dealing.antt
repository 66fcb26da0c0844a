-- Parallel constructs, as the functions that go by them.
use Rattle.std.proofs.Common.{◌≡◌, ◌<◌, ◌≤◌, ◌+◌, ◌-◌, arith, ℕ, zero, suc, min, ℤ, List, drop, false, Option, Some, None, refl, sym, subst, ap, ◌∙◌}
use Rattle.std.specs.Prelude.{Result, Ok, Err}
use Rattle.ada_base.specs.Cuts.{evens, cuts_of}
use Rattle.typed_tree.specs.Syntax.{Expr, Reduction, Chunk, Count, Each, Iteration, Stmts, Arms, NoArm, Arm, Optional, Present}
use Rattle.behaviours.specs.Joins.{deal}
use Rattle.typed_tree.specs.declared.scalars.Check.{Check}
use Rattle.typed_tree.specs.declared.expressions.Reducer.{Reducer}
use Rattle.typed_tree.specs.Decoded.{part_at, expr_at, optional_at, iteration_at, stmts_at, arms_at}
use Rattle.ada_meaning.specs.Meaning as meaning
use Rattle.ada_meaning.specs.Meaning.{Env, Course, inside}
use Rattle.ada_meaning.specs.Stored
use Rattle.ada_meaning.specs.Stored.{Stored, threads, first_of_both, bind, ret}
use Rattle.ada_meaning.proofs.Computing.{through_more, through_done}
use Rattle.run_values.specs.declared.ends.End.{End}
use Rattle.run_outside.specs.Outside.{Outside}
use Rattle.run_store.specs.Shows.{Image, Goes, ShowsAs, Shows}
use Rattle.run_store.proofs.Going.{stays, goes_refl, goes_instead, goes_then, goes_ends, goes_gives, then_shows, same_shows}
use Rattle.run_parts.specs.declared.work.Work.{Work}
use Rattle.run_parts.specs.declared.chunks.Chunking.{Chunking}
use Rattle.run_parts.specs.declared.chunks.Chunking.TheVariants as chunking
use Rattle.run_parts.specs.declared.courses.Course as courses
use Rattle.run_parts.specs.Caught.{caught}
use Rattle.run_parts.specs.Dealing.{chunking_of, loop_sizes, fold_sizes, most_of, opened, count_checked, found_arm, each_chunk}
use Rattle.run_parts.specs.Passing.{course_of}
use Rattle.run_parts.specs.Words.{nodes_of}
use Rattle.run_walk.specs.declared.constructs.Task.{Task}
use Rattle.run_walk.specs.declared.constructs.Task.TheVariants as task
use Rattle.run_walk.specs.declared.folds.Fold.{Fold}
use Rattle.run_walk.proofs.Parts.{present_is}
use Rattle.run_walk.proofs.Handling.{caught_shows}
use Rattle.run_walk.proofs.Threading.{threads_begin, then_done}
use Rattle.run_walk.proofs.Folding.{dealt_fold_as}
use Rattle.run_walk.specs.Walk as walk

-- ---- loops and blocks

module _ (w : Work) (d : ℕ) (c : courses.Course) (it ss : ℕ) (env : Env) where
  abbrev body : Chunking → ℕ → ℕ → Stored (Unit {0})
  body k j i = walk.iterate w d (iteration_at (nodes_of w) it) (stmts_at (nodes_of w) ss) ((course_of c).bound i ((chunking_of k).bound j env))

  loop_as : (k : Chunking) → Stored.loops w.limit (cuts_of w.plan.now) (meaning.block_site 0) (meaning.cut_of (chunking_of k) (course_of c).count) (body k) ≡ bind (walk.threads_run w d (task.Loop k c it ss) (loop_sizes w k (course_of c).count) env) (λ _. ret tt)
  unfolding walk.threads_run walk.share_run
  loop_as (chunking.ByPlan most) = refl
  loop_as (chunking.Each p low n) = refl

module _ (w : Work) (d : ℕ) (env : Env) where
  arms_as : (most arms : ℕ) → walk.dealt_arms w d most (arms_at (nodes_of w) arms) env ≡ bind (walk.threads_run w d (task.Arms arms) (evens (meaning.arms_of (arms_at (nodes_of w) arms)) (min most (meaning.arms_of (arms_at (nodes_of w) arms)))) env) (λ _. ret tt)
  unfolding walk.threads_run walk.share_run
  arms_as most arms = refl

module _ {Tells : List ℕ → Outside → Type 0} (w : Work) (d : ℕ) (env : Env) (s t : Image) where
  pub dealt_loop_shows : (n : ℕ) (k : Chunking) (c : courses.Course) (it ss count : ℕ) (sizes : List ℕ) (r : Result (Unit {0}) End) → count ≡ (course_of c).count → sizes ≡ loop_sizes w k count → Shows Tells (walk.threads_run w d (task.Loop k c it ss) sizes env) r s t
      → Shows Tells (walk.dealt_loop w d n (chunking_of k) (course_of c) (iteration_at (nodes_of w) it) (stmts_at (nodes_of w) ss) env) (caught n r) s t
  dealt_loop_shows n k c it ss count sizes r e f h =
      caught_shows w d n (Stored.loops w.limit (cuts_of w.plan.now) (meaning.block_site 0) (meaning.cut_of (chunking_of k) (course_of c).count) (body w d c it ss env k)) s t r
      (same_shows (λ a. a) (Stored.loops w.limit (cuts_of w.plan.now) (meaning.block_site 0) (meaning.cut_of (chunking_of k) (course_of c).count) (body w d c it ss env k)) (bind (walk.threads_run w d (task.Loop k c it ss) (loop_sizes w k (course_of c).count) env) (λ _. ret tt)) r s t (loop_as w d c it ss env k)
      (then_done (walk.threads_run w d (task.Loop k c it ss) (loop_sizes w k (course_of c).count) env) r s t
      (subst (λ z. Shows Tells (walk.threads_run w d (task.Loop k c it ss) z env) r s t) (f ∙ ap (λ z. loop_sizes w k z) e) h)))

  pub dealt_arms_shows : (most arms n : ℕ) (sizes : List ℕ) (r : Result (Unit {0}) End) → n ≡ meaning.arms_of (arms_at (nodes_of w) arms) → sizes ≡ evens n (min most n) → Shows Tells (walk.threads_run w d (task.Arms arms) sizes env) r s t → Shows Tells (walk.dealt_arms w d most (arms_at (nodes_of w) arms) env) r s t
  dealt_arms_shows most arms n sizes r e f h =
      let a = meaning.arms_of (arms_at (nodes_of w) arms) in
      same_shows (λ a. a) (walk.dealt_arms w d most (arms_at (nodes_of w) arms) env) (bind (walk.threads_run w d (task.Arms arms) (evens a (min most a)) env) (λ _. ret tt)) r s t (arms_as w d env most arms)
      (then_done (walk.threads_run w d (task.Arms arms) (evens a (min most a)) env) r s t (subst (λ z. Shows Tells (walk.threads_run w d (task.Arms arms) z env) r s t) (f ∙ ap (λ z. evens z (min most z)) e) h))

  pub dealt_arms_ends : (most arms n : ℕ) (sizes : List ℕ) (y : End) (r : Result (Unit {0}) End) → r ≡ Err y → n ≡ meaning.arms_of (arms_at (nodes_of w) arms) → sizes ≡ evens n (min most n) → Shows Tells (walk.threads_run w d (task.Arms arms) sizes env) (Err y) s t
      → Shows Tells (walk.dealt_arms w d most (arms_at (nodes_of w) arms) env) r s t
  dealt_arms_ends most arms n sizes y r q e f h = subst (λ z. Shows Tells (walk.dealt_arms w d most (arms_at (nodes_of w) arms) env) z s t) (sym q) (dealt_arms_shows most arms n sizes (Err y) e f h)

module _ {Tells : List ℕ → Outside → Type 0} (w : Work) (d : ℕ) (env inner : Env) (is : inner ≡ inside env) (s t u : Image) where
  module _ (n : ℕ) (chunk : Chunk) (it : Iteration) (ss : Stmts) (h : Shows Tells (opened w env) (Ok tt) s s) where
    pub parallel_for_ends : (e : End) (r : Result (Unit {0}) End) → r ≡ Err e → ShowsAs chunking_of Tells (walk.chunking w d chunk inner) (Err e) s t → Shows Tells (walk.parallel_for w d n chunk it ss env) r s t
    parallel_for_ends e r q k =
        subst (λ z. Shows Tells (walk.parallel_for w d n chunk it ss env) z s t) (sym q)
        (then_shows (λ a. a) (λ a. a) (opened w env) (λ _. bind (walk.chunking w d chunk (inside env)) (λ k. walk.chunked_loop w d n k it ss (inside env))) s s t tt (Err e) h
        (goes_ends chunking_of (λ a. a) _ (walk.chunking w d chunk (inside env)) (λ k. walk.chunked_loop w d n k it ss (inside env)) s s t e (goes_refl _ s) (subst (λ z. ShowsAs chunking_of Tells (walk.chunking w d chunk z) (Err e) s t) is k)))

    pub parallel_for_on : (k : Chunking) (r : Result (Unit {0}) End) → ShowsAs chunking_of Tells (walk.chunking w d chunk inner) (Ok k) s t → Shows Tells (walk.chunked_loop w d n (chunking_of k) it ss inner) r t u → Shows Tells (walk.parallel_for w d n chunk it ss env) r s u
    parallel_for_on k r c l =
        then_shows (λ a. a) (λ a. a) (opened w env) (λ _. bind (walk.chunking w d chunk (inside env)) (λ k. walk.chunked_loop w d n k it ss (inside env))) s s u tt r h
        (then_shows chunking_of (λ a. a) (walk.chunking w d chunk (inside env)) (λ k. walk.chunked_loop w d n k it ss (inside env)) s t u k r (subst (λ z. ShowsAs chunking_of Tells (walk.chunking w d chunk z) (Ok k) s t) is c)
        (subst (λ z. Shows Tells (walk.chunked_loop w d n (chunking_of k) it ss z) r t u) is l))

    pub parallel_for_stops : (k : Chunking) (e : End) (r : Result (Unit {0}) End) → r ≡ Err e → ShowsAs chunking_of Tells (walk.chunking w d chunk inner) (Ok k) s t → Shows Tells (walk.chunked_loop w d n (chunking_of k) it ss inner) (Err e) t u → Shows Tells (walk.parallel_for w d n chunk it ss env) r s u
    parallel_for_stops k e r q c l = subst (λ z. Shows Tells (walk.parallel_for w d n chunk it ss env) z s u) (sym q) (parallel_for_on k (Err e) c l)

  module _ (count : Optional) (arms : Arms) (h : Shows Tells (opened w env) (Ok tt) s s) where
    pub parallel_block_ends : (e : End) (r : Result (Unit {0}) End) → r ≡ Err e → Shows Tells (walk.threads_of w d count inner) (Err e) s t → Shows Tells (walk.parallel_block w d count arms env) r s t
    parallel_block_ends e r q k =
        subst (λ z. Shows Tells (walk.parallel_block w d count arms env) z s t) (sym q)
        (then_shows (λ a. a) (λ a. a) (opened w env) (λ _. bind (walk.threads_of w d count (inside env)) (λ most. walk.dealt_arms w d most arms (inside env))) s s t tt (Err e) h
        (goes_ends (λ a. a) (λ a. a) _ (walk.threads_of w d count (inside env)) (λ most. walk.dealt_arms w d most arms (inside env)) s s t e (goes_refl _ s) (subst (λ z. Shows Tells (walk.threads_of w d count z) (Err e) s t) is k)))

    pub parallel_block_on : (most : ℕ) (r : Result (Unit {0}) End) → Shows Tells (walk.threads_of w d count inner) (Ok most) s t → Shows Tells (walk.dealt_arms w d most arms inner) r t u → Shows Tells (walk.parallel_block w d count arms env) r s u
    parallel_block_on most r c l =
        then_shows (λ a. a) (λ a. a) (opened w env) (λ _. bind (walk.threads_of w d count (inside env)) (λ most. walk.dealt_arms w d most arms (inside env))) s s u tt r h
        (then_shows (λ a. a) (λ a. a) (walk.threads_of w d count (inside env)) (λ most. walk.dealt_arms w d most arms (inside env)) s t u most r (subst (λ z. Shows Tells (walk.threads_of w d count z) (Ok most) s t) is c)
        (subst (λ z. Shows Tells (walk.dealt_arms w d most arms z) r t u) is l))

    pub parallel_block_stops : (most : ℕ) (e : End) (r : Result (Unit {0}) End) → r ≡ Err e → Shows Tells (walk.threads_of w d count inner) (Ok most) s t → Shows Tells (walk.dealt_arms w d most arms inner) (Err e) t u → Shows Tells (walk.parallel_block w d count arms env) r s u
    parallel_block_stops most e r q c l = subst (λ z. Shows Tells (walk.parallel_block w d count arms env) z s u) (sym q) (parallel_block_on most (Err e) c l)

module _ {Tells : List ℕ → Outside → Type 0} (w : Work) (d n : ℕ) (k : Chunking) (it : Iteration) (ss : Stmts) (env : Env) (s t u : Image) (c : courses.Course) (h : ShowsAs course_of Tells (walk.course w d it env) (Ok c) s t) where
  abbrev after : Course → Stored (Unit {0})
  after c = bind (count_checked w c.count) (λ _. walk.dealt_loop w d n (chunking_of k) c it ss env)

  pub chunked_loop_on : (r : Result (Unit {0}) End) → Shows Tells (count_checked w (course_of c).count) (Ok tt) t t → Shows Tells (walk.dealt_loop w d n (chunking_of k) (course_of c) it ss env) r t u → Shows Tells (walk.chunked_loop w d n (chunking_of k) it ss env) r s u
  chunked_loop_on r few l =
      then_shows course_of (λ a. a) (walk.course w d it env) after s t u c r h
      (then_shows (λ a. a) (λ a. a) (count_checked w (course_of c).count) (λ _. walk.dealt_loop w d n (chunking_of k) (course_of c) it ss env) t t u tt r few l)

  pub chunked_loop_stops : (e : End) (r : Result (Unit {0}) End) → r ≡ Err e → Shows Tells (count_checked w (course_of c).count) (Ok tt) t t → Shows Tells (walk.dealt_loop w d n (chunking_of k) (course_of c) it ss env) (Err e) t u → Shows Tells (walk.chunked_loop w d n (chunking_of k) it ss env) r s u
  chunked_loop_stops e r q few l = subst (λ z. Shows Tells (walk.chunked_loop w d n (chunking_of k) it ss env) z s u) (sym q) (chunked_loop_on (Err e) few l)

  pub chunked_loop_many : (e : End) (r : Result (Unit {0}) End) → r ≡ Err e → Shows Tells (count_checked w (course_of c).count) (Err e) t u → Shows Tells (walk.chunked_loop w d n (chunking_of k) it ss env) r s u
  chunked_loop_many e r q many =
      subst (λ z. Shows Tells (walk.chunked_loop w d n (chunking_of k) it ss env) z s u) (sym q)
      (then_shows course_of (λ a. a) (walk.course w d it env) after s t u c (Err e) h
      (goes_ends (λ a. a) (λ a. a) _ (count_checked w (course_of c).count) (λ _. walk.dealt_loop w d n (chunking_of k) (course_of c) it ss env) t t u e (goes_refl _ t) many))

-- ---- what a thread goes through

module _ {Tells : List ℕ → Outside → Type 0} (w : Work) (d : ℕ) (todo : Task) (number : ℕ) (env : Env) where
  pub share_begins : (s : Image) (first size last : ℕ) → last ≡ first + size → Goes Tells (walk.share_run w d todo env (record { number = number; first = first; size = size })) s (walk.share_left w d todo number first (last - first) env) s
  unfolding walk.share_run
  share_begins s first size last e =
      let q : last - first ≡ size = omega (arith, e) in
      subst (λ z. Goes Tells (walk.share_run w d todo env (record { number = number; first = first; size = size })) s (walk.share_left w d todo number first z env) s) (sym q) (goes_refl _ s)

  module _ (whole : Stored (Unit {0})) (s t u : Image) (i n : ℕ) where
    module _ (lt : i < n) (g : Goes Tells whole s (walk.share_left w d todo number i (n - i) env) t) where
      share_more : Goes Tells whole s (bind (walk.task_turn w d todo number i env) (λ _. walk.share_left w d todo number (i + 1) (n - (i + 1)) env)) t
      share_more = goes_instead whole _ _ s t (through_more i n tt (λ i _. walk.task_turn w d todo number i env) lt) g

      pub share_step : Shows Tells (walk.task_turn w d todo number i env) (Ok tt) t u → Goes Tells whole s (walk.share_left w d todo number (i + 1) (n - (i + 1)) env) u
      share_step h = goes_then (λ a. a) (λ a. a) whole (walk.task_turn w d todo number i env) (λ _. walk.share_left w d todo number (i + 1) (n - (i + 1)) env) s t u tt share_more h

      pub share_ends : (e : End) (r : Result (Unit {0}) End) → r ≡ Err e → Shows Tells (walk.task_turn w d todo number i env) (Err e) t u → Shows Tells whole r s u
      share_ends e r q h = subst (λ z. Shows Tells whole z s u) (sym q) (goes_ends (λ a. a) (λ a. a) whole (walk.task_turn w d todo number i env) (λ _. walk.share_left w d todo number (i + 1) (n - (i + 1)) env) s t u e share_more h)

    pub share_done : n ≤ i → Goes Tells whole s (walk.share_left w d todo number i (n - i) env) t → Shows Tells whole (Ok tt) s t
    share_done le g = goes_gives (λ a. a) whole tt s t (goes_instead whole _ _ s t (through_done i n tt (λ i _. walk.task_turn w d todo number i env) le) g)

-- ---- arms

module _ (w : Work) (d : ℕ) (env : Env) where
  arm_some_as : (arms : Arms) (i : ℕ) (ss : Stmts) → found_arm arms i ≡ Some ss → walk.exec_arm w d arms i env ≡ walk.exec_all w d ss env
  unfolding walk.exec_arm walk.exec_all
  arm_some_as NoArm i ss e = cc
  arm_some_as (Arm stmts rest) zero ss e = let q : stmts ≡ ss = cc in ap (λ z. walk.exec_all w d z env) q
  arm_some_as (Arm stmts rest) (suc i) ss e = arm_some_as rest i ss e

  arm_none_as : (arms : Arms) (i : ℕ) → found_arm arms i ≡ None → walk.exec_arm w d arms i env ≡ ret tt
  unfolding walk.exec_arm
  arm_none_as NoArm i e = refl
  arm_none_as (Arm stmts rest) zero e = cc
  arm_none_as (Arm stmts rest) (suc i) e = arm_none_as rest i e

module _ {Tells : List ℕ → Outside → Type 0} (w : Work) (d : ℕ) (env : Env) where
  module _ (arms : Arms) (i : ℕ) (s t : Image) where
    pub arm_none : found_arm arms i ≡ None → Shows Tells (walk.exec_arm w d arms i env) (Ok tt) s s
    unfolding ret
    arm_none e = same_shows (λ a. a) (walk.exec_arm w d arms i env) (ret tt) (Ok tt) s s (arm_none_as w d env arms i e) (refl, stays, λ input told. refl)

    pub arm_some : (ss : Stmts) (r : Result (Unit {0}) End) → found_arm arms i ≡ Some ss → Shows Tells (walk.exec_all w d ss env) r s t → Shows Tells (walk.exec_arm w d arms i env) r s t
    arm_some ss r e h = same_shows (λ a. a) (walk.exec_arm w d arms i env) (walk.exec_all w d ss env) r s t (arm_some_as w d env arms i ss e) h

    pub arm_ends : (ss : Stmts) (e : End) (r : Result (Unit {0}) End) → r ≡ Err e → found_arm arms i ≡ Some ss → Shows Tells (walk.exec_all w d ss env) (Err e) s t → Shows Tells (walk.exec_arm w d arms i env) r s t
    arm_ends ss e r q is h = subst (λ z. Shows Tells (walk.exec_arm w d arms i env) z s t) (sym q) (arm_some ss (Err e) is h)

-- an arm in a thread
module _ {Tells : List ℕ → Outside → Type 0} (w : Work) (d : ℕ) (env : Env) (todo : Task) (arms number i : ℕ) (s t : Image) (is : todo ≡ task.Arms arms) where
  pub turn_none : found_arm (arms_at (nodes_of w) arms) i ≡ None → Shows Tells (walk.task_turn w d todo number i env) (Ok tt) s s
  turn_none e = subst (λ z. Shows Tells (walk.task_turn w d z number i env) (Ok tt) s s) (sym is) (arm_none w d env (arms_at (nodes_of w) arms) i s s e)

  pub turn_some : (ss : Stmts) (r : Result (Unit {0}) End) → found_arm (arms_at (nodes_of w) arms) i ≡ Some ss → Shows Tells (walk.exec_all w d ss env) r s t → Shows Tells (walk.task_turn w d todo number i env) r s t
  turn_some ss r e h = subst (λ z. Shows Tells (walk.task_turn w d z number i env) r s t) (sym is) (arm_some w d env (arms_at (nodes_of w) arms) i s t ss r e h)

  pub turn_ends : (ss : Stmts) (y : End) (r : Result (Unit {0}) End) → r ≡ Err y → found_arm (arms_at (nodes_of w) arms) i ≡ Some ss → Shows Tells (walk.exec_all w d ss env) (Err y) s t → Shows Tells (walk.task_turn w d todo number i env) r s t
  turn_ends ss y r q e h = subst (λ z. Shows Tells (walk.task_turn w d todo number i env) z s t) (sym q) (turn_some ss (Err y) e h)

-- ---- reductions

abbrev fold : (attribute iteration value : ℕ) → Reducer → Fold
fold attribute iteration value z = record { attribute = attribute; reducer = z; iteration = iteration; value = value }

-- an expression that is one
module _ {Tells : List ℕ → Outside → Type 0} (w : Work) (d : ℕ) (x initial : Expr) (n attribute : ℕ) (by by' : Reducer) (chunk : Chunk) (iteration value : ℕ) (env : Env) (r : Result ℤ End) (s t : Image) (is : by' ≡ by) where
  pub reduction_shows : x ≡ Reduction n attribute by initial None chunk (iteration_at (nodes_of w) iteration) (expr_at (nodes_of w) value) → Shows Tells (walk.reduction w d (fold attribute iteration value by') initial env) r s t → Shows Tells (walk.eval w d x env) r s t
  unfolding walk.eval walk.course walk.filtered walk.fold_left
  reduction_shows e h = subst (λ z. Shows Tells (walk.eval w d z env) r s t) (sym e) (subst (λ z. Shows Tells (walk.reduction w d (fold attribute iteration value z) initial env) r s t) is h)

  pub parallel_reduction_shows : (site : ℕ) → x ≡ Reduction n attribute by initial (Some site) chunk (iteration_at (nodes_of w) iteration) (expr_at (nodes_of w) value) → Shows Tells (walk.parallel_reduction w d (fold attribute iteration value by') initial chunk env) r s t → Shows Tells (walk.eval w d x env) r s t
  unfolding walk.eval walk.course walk.filtered walk.chunking
  parallel_reduction_shows site e h = subst (λ z. Shows Tells (walk.eval w d z env) r s t) (sym e) (subst (λ z. Shows Tells (walk.parallel_reduction w d (fold attribute iteration value z) initial chunk env) r s t) is h)

module _ {Tells : List ℕ → Outside → Type 0} (w : Work) (d : ℕ) (by : Fold) (env inner : Env) (is : inner ≡ inside env) where
  module _ (initial : Expr) (chunk : Chunk) (s t u v : Image) (start : ℤ) (h : Shows Tells (walk.eval w d initial env) (Ok start) s t) (o : Shows Tells (opened w env) (Ok tt) t t) where
    abbrev chunks : ℤ → Stored ℤ
    chunks start = bind (walk.chunking w d chunk (inside env)) (λ k. walk.chunked_fold w d by k start env)

    began : (r : Result ℤ End) (v : Image) → Shows Tells (chunks start) r t v → Shows Tells (walk.parallel_reduction w d by initial chunk env) r s v
    began r v l =
        then_shows (λ a. a) (λ a. a) (walk.eval w d initial env) (λ start. bind (opened w env) (λ _. chunks start)) s t v start r h
        (then_shows (λ a. a) (λ a. a) (opened w env) (λ _. chunks start) t t v tt r o l)

    pub parallel_reduction_ends : (e : End) (r : Result ℤ End) → r ≡ Err e → ShowsAs chunking_of Tells (walk.chunking w d chunk inner) (Err e) t u → Shows Tells (walk.parallel_reduction w d by initial chunk env) r s u
    parallel_reduction_ends e r q k =
        subst (λ z. Shows Tells (walk.parallel_reduction w d by initial chunk env) z s u) (sym q)
        (began (Err e) u (goes_ends chunking_of (λ a. a) _ (walk.chunking w d chunk (inside env)) (λ k. walk.chunked_fold w d by k start env) t t u e (goes_refl _ t) (subst (λ z. ShowsAs chunking_of Tells (walk.chunking w d chunk z) (Err e) t u) is k)))

    pub parallel_reduction_on : (k : Chunking) (a : ℤ) (r : Result ℤ End) → ShowsAs chunking_of Tells (walk.chunking w d chunk inner) (Ok k) t u → Shows Tells (walk.chunked_fold w d by (chunking_of k) a env) r u v → a ≡ start → Shows Tells (walk.parallel_reduction w d by initial chunk env) r s v
    parallel_reduction_on k a r c l p =
        began r v (then_shows chunking_of (λ a. a) (walk.chunking w d chunk (inside env)) (λ k. walk.chunked_fold w d by k start env) t u v k r (subst (λ z. ShowsAs chunking_of Tells (walk.chunking w d chunk z) (Ok k) t u) is c)
        (subst (λ z. Shows Tells (walk.chunked_fold w d by (chunking_of k) z env) r u v) p l))

    pub parallel_reduction_stops : (k : Chunking) (a : ℤ) (e : End) (r : Result ℤ End) → r ≡ Err e → ShowsAs chunking_of Tells (walk.chunking w d chunk inner) (Ok k) t u → Shows Tells (walk.chunked_fold w d by (chunking_of k) a env) (Err e) u v → a ≡ start → Shows Tells (walk.parallel_reduction w d by initial chunk env) r s v
    parallel_reduction_stops k a e r q c l p = subst (λ z. Shows Tells (walk.parallel_reduction w d by initial chunk env) z s v) (sym q) (parallel_reduction_on k a (Err e) c l p)

  module _ (k : Chunking) (start : ℤ) (s t u : Image) (c : courses.Course) (h : ShowsAs course_of Tells (walk.course w d (iteration_at (nodes_of w) by.iteration) inner) (Ok c) s t) where
    abbrev counted : Course → Stored ℤ
    counted c = bind (count_checked w c.count) (λ _. walk.dealt_fold w d by (chunking_of k) c start env)

    coursed : (r : Result ℤ End) → Shows Tells (counted (course_of c)) r t u → Shows Tells (walk.chunked_fold w d by (chunking_of k) start env) r s u
    coursed r l = then_shows course_of (λ a. a) (walk.course w d (iteration_at (nodes_of w) by.iteration) (inside env)) counted s t u c r (subst (λ z. ShowsAs course_of Tells (walk.course w d (iteration_at (nodes_of w) by.iteration) z) (Ok c) s t) is h) l

    pub chunked_fold_on : (a : ℤ) (r : Result ℤ End) → Shows Tells (count_checked w (course_of c).count) (Ok tt) t t → Shows Tells (walk.dealt_fold w d by (chunking_of k) (course_of c) a env) r t u → a ≡ start → Shows Tells (walk.chunked_fold w d by (chunking_of k) start env) r s u
    chunked_fold_on a r few l p =
        coursed r (then_shows (λ a. a) (λ a. a) (count_checked w (course_of c).count) (λ _. walk.dealt_fold w d by (chunking_of k) (course_of c) start env) t t u tt r few (subst (λ z. Shows Tells (walk.dealt_fold w d by (chunking_of k) (course_of c) z env) r t u) p l))

    pub chunked_fold_stops : (a : ℤ) (e : End) (r : Result ℤ End) → r ≡ Err e → Shows Tells (count_checked w (course_of c).count) (Ok tt) t t → Shows Tells (walk.dealt_fold w d by (chunking_of k) (course_of c) a env) (Err e) t u → a ≡ start → Shows Tells (walk.chunked_fold w d by (chunking_of k) start env) r s u
    chunked_fold_stops a e r q few l p = subst (λ z. Shows Tells (walk.chunked_fold w d by (chunking_of k) start env) z s u) (sym q) (chunked_fold_on a (Err e) few l p)

    pub chunked_fold_many : (e : End) (r : Result ℤ End) → r ≡ Err e → Shows Tells (count_checked w (course_of c).count) (Err e) t u → Shows Tells (walk.chunked_fold w d by (chunking_of k) start env) r s u
    chunked_fold_many e r q many =
        subst (λ z. Shows Tells (walk.chunked_fold w d by (chunking_of k) start env) z s u) (sym q)
        (coursed (Err e) (goes_ends (λ a. a) (λ a. a) _ (count_checked w (course_of c).count) (λ _. walk.dealt_fold w d by (chunking_of k) (course_of c) start env) t t u e (goes_refl _ t) many))

  pub chunked_fold_ends : (k : Chunking) (start : ℤ) (s t : Image) (e : End) (r : Result ℤ End) → r ≡ Err e → ShowsAs course_of Tells (walk.course w d (iteration_at (nodes_of w) by.iteration) inner) (Err e) s t → Shows Tells (walk.chunked_fold w d by (chunking_of k) start env) r s t
  chunked_fold_ends k start s t e r q h =
      subst (λ z. Shows Tells (walk.chunked_fold w d by (chunking_of k) start env) z s t) (sym q)
      (goes_ends course_of (λ a. a) _ (walk.course w d (iteration_at (nodes_of w) by.iteration) (inside env)) (λ c. bind (count_checked w c.count) (λ _. walk.dealt_fold w d by (chunking_of k) c start env)) s s t e (goes_refl _ s) (subst (λ z. ShowsAs course_of Tells (walk.course w d (iteration_at (nodes_of w) by.iteration) z) (Err e) s t) is h))

  module _ (k : Chunking) (c : Course) (start : ℤ) (count : ℕ) (sizes : List ℕ) (e : count ≡ c.count) (f : sizes ≡ fold_sizes w k count) (s t u : Image) where
    dealt_as : (r : Result ℤ End) (v : Image) → Shows Tells (bind (walk.threads_folded w d by (chunking_of k) c start sizes inner) (λ accumulators. walk.combined w d by env.nested start accumulators)) r s v → Shows Tells (walk.dealt_fold w d by (chunking_of k) c start env) r s v
    dealt_as r v h =
        same_shows (λ a. a) (walk.dealt_fold w d by (chunking_of k) c start env) (bind (walk.threads_folded w d by (chunking_of k) c start (fold_sizes w k c.count) (inside env)) (λ accumulators. walk.combined w d by env.nested start accumulators)) r s v (dealt_fold_as w d by c start env k)
        (subst (λ z. Shows Tells (bind (walk.threads_folded w d by (chunking_of k) c start z (inside env)) (λ accumulators. walk.combined w d by env.nested start accumulators)) r s v) (f ∙ ap (λ z. fold_sizes w k z) e)
        (subst (λ z. Shows Tells (bind (walk.threads_folded w d by (chunking_of k) c start sizes z) (λ accumulators. walk.combined w d by env.nested start accumulators)) r s v) is h))

    pub dealt_fold_ends : (a : ℤ) (y : End) (r : Result ℤ End) → r ≡ Err y → Shows Tells (walk.threads_folded w d by (chunking_of k) c a sizes inner) (Err y) s t → a ≡ start → Shows Tells (walk.dealt_fold w d by (chunking_of k) c start env) r s t
    dealt_fold_ends a y r q h p =
        subst (λ z. Shows Tells (walk.dealt_fold w d by (chunking_of k) c start env) z s t) (sym q)
        (dealt_as (Err y) t (goes_ends (λ a. a) (λ a. a) _ (walk.threads_folded w d by (chunking_of k) c start sizes inner) (λ accumulators. walk.combined w d by env.nested start accumulators) s s t y (goes_refl _ s) (subst (λ z. Shows Tells (walk.threads_folded w d by (chunking_of k) c z sizes inner) (Err y) s t) p h)))

    pub dealt_fold_on : (a b : ℤ) (vs : List ℤ) (r : Result ℤ End) → Shows Tells (walk.threads_folded w d by (chunking_of k) c a sizes inner) (Ok vs) s t → Shows Tells (walk.combined w d by env.nested b vs) r t u → a ≡ start → b ≡ start → Shows Tells (walk.dealt_fold w d by (chunking_of k) c start env) r s u
    dealt_fold_on a b vs r h l p q =
        dealt_as r u (then_shows (λ a. a) (λ a. a) (walk.threads_folded w d by (chunking_of k) c start sizes inner) (λ accumulators. walk.combined w d by env.nested start accumulators) s t u vs r (subst (λ z. Shows Tells (walk.threads_folded w d by (chunking_of k) c z sizes inner) (Ok vs) s t) p h)
        (subst (λ z. Shows Tells (walk.combined w d by env.nested z vs) r t u) q l))

    pub dealt_fold_stops : (a b : ℤ) (vs : List ℤ) (y : End) (r : Result ℤ End) → r ≡ Err y → Shows Tells (walk.threads_folded w d by (chunking_of k) c a sizes inner) (Ok vs) s t → Shows Tells (walk.combined w d by env.nested b vs) (Err y) t u → a ≡ start → b ≡ start → Shows Tells (walk.dealt_fold w d by (chunking_of k) c start env) r s u
    dealt_fold_stops a b vs y r x h l p q = subst (λ z. Shows Tells (walk.dealt_fold w d by (chunking_of k) c start env) z s u) (sym x) (dealt_fold_on a b vs (Err y) h l p q)

-- ---- numbers of threads and chunks

module _ {Tells : List ℕ → Outside → Type 0} (w : Work) (d : ℕ) (env : Env) (id : ℕ) (e : Expr) (is : optional_at (nodes_of w) id ≡ Present e) (v v' : ℤ) (s t : Image) (h : Shows Tells (walk.eval w d (expr_at (nodes_of w) id) env) (Ok v) s t) where
  pub threads_on : (r : Result ℕ End) → Shows Tells (most_of w v') r t t → v' ≡ v → Shows Tells (walk.threads_of w d (optional_at (nodes_of w) id) env) r s t
  unfolding walk.threads_of walk.eval
  threads_on r k p =
      subst (λ z. Shows Tells (walk.threads_of w d z env) r s t) (sym is)
      (then_shows (λ a. a) (λ a. a) (walk.eval w d e env) (λ v. most_of w v) s t t v r (subst (λ z. Shows Tells (walk.eval w d z env) (Ok v) s t) (present_is (part_at (nodes_of w) id) e is) h)
      (subst (λ z. Shows Tells (most_of w z) r t t) p k))

  pub threads_ends : (y : End) (r : Result ℕ End) → r ≡ Err y → Shows Tells (most_of w v') (Err y) t t → v' ≡ v → Shows Tells (walk.threads_of w d (optional_at (nodes_of w) id) env) r s t
  threads_ends y r q k p = subst (λ z. Shows Tells (walk.threads_of w d (optional_at (nodes_of w) id) env) z s t) (sym q) (threads_on (Err y) k p)

module _ {Tells : List ℕ → Outside → Type 0} (w : Work) (d : ℕ) (env : Env) (e : Expr) (c : Chunk) (is : c ≡ Count e) (v v' : ℤ) (s t : Image) (h : Shows Tells (walk.eval w d e env) (Ok v) s t) where
  abbrev chunks_of : ℕ → Stored meaning.Chunking
  chunks_of n = ret (chunking_of (chunking.ByPlan n))

  counts : (r : Result Chunking End) → ShowsAs chunking_of Tells (bind (most_of w v) chunks_of) r t t → ShowsAs chunking_of Tells (walk.chunking w d c env) r s t
  unfolding walk.chunking walk.eval
  counts r k = subst (λ z. ShowsAs chunking_of Tells (walk.chunking w d z env) r s t) (sym is) (then_shows (λ a. a) chunking_of (walk.eval w d e env) (λ v. bind (most_of w v) chunks_of) s t t v r h k)

  pub count_on : (n : ℕ) → Shows Tells (most_of w v') (Ok n) t t → v' ≡ v → ShowsAs chunking_of Tells (walk.chunking w d c env) (Ok (chunking.ByPlan n)) s t
  unfolding ret
  count_on n k p = counts (Ok (chunking.ByPlan n)) (then_shows (λ a. a) chunking_of (most_of w v) chunks_of t t t n (Ok (chunking.ByPlan n)) (subst (λ z. Shows Tells (most_of w z) (Ok n) t t) p k) (refl, stays, λ input told. refl))

  pub count_ends : (y : End) (r : Result Chunking End) → r ≡ Err y → Shows Tells (most_of w v') (Err y) t t → v' ≡ v → ShowsAs chunking_of Tells (walk.chunking w d c env) r s t
  count_ends y r q k p =
      subst (λ z. ShowsAs chunking_of Tells (walk.chunking w d c env) z s t) (sym q)
      (counts (Err y) (goes_ends (λ a. a) chunking_of _ (most_of w v) chunks_of t t t y (goes_refl _ t) (subst (λ z. Shows Tells (most_of w z) (Err y) t t) p k)))

-- ---- a chunk for each value of a range

module _ {Tells : List ℕ → Outside → Type 0} (w : Work) (d : ℕ) (env : Env) (parameter : ℕ) (low high : Expr) (check : Option Check) (c : Chunk) (l h l' h' : ℤ) (s t u : Image) where
  pub each_on : (r : Result Chunking End) → c ≡ Each parameter low high check → Shows Tells (walk.eval w d low env) (Ok l) s t → Shows Tells (walk.eval w d high env) (Ok h) t u → ShowsAs chunking_of Tells (each_chunk w parameter check l' h') r u u → l' ≡ l → h' ≡ h
      → ShowsAs chunking_of Tells (walk.chunking w d c env) r s u
  unfolding walk.chunking walk.eval
  each_on r is e f k p q =
      subst (λ z. ShowsAs chunking_of Tells (walk.chunking w d z env) r s u) (sym is)
      (then_shows (λ a. a) chunking_of (walk.eval w d low env) (λ l. bind (walk.eval w d high env) (λ h. each_chunk w parameter check l h)) s t u l r e
      (then_shows (λ a. a) chunking_of (walk.eval w d high env) (λ h. each_chunk w parameter check l h) t u u h r f
      (subst (λ z. ShowsAs chunking_of Tells (each_chunk w parameter check z h) r u u) p (subst (λ z. ShowsAs chunking_of Tells (each_chunk w parameter check l' z) r u u) q k))))

  pub each_ends : (e : End) (r : Result Chunking End) → r ≡ Err e → c ≡ Each parameter low high check → Shows Tells (walk.eval w d low env) (Ok l) s t → Shows Tells (walk.eval w d high env) (Ok h) t u → ShowsAs chunking_of Tells (each_chunk w parameter check l' h') (Err e) u u → l' ≡ l → h' ≡ h
      → ShowsAs chunking_of Tells (walk.chunking w d c env) r s u
  each_ends e r x is y z k p q = subst (λ r. ShowsAs chunking_of Tells (walk.chunking w d c env) r s u) (sym x) (each_on (Err e) is y z k p q)

pub loops_begin : {Tells : List ℕ → Outside → Type 0} (w : Work) (d : ℕ) (todo : Task) (sizes : List ℕ) (env : Env) (s : Image) (n most : ℕ) → n ≡ s.state.turns → most ≡ s.state.turns
    → Goes Tells (walk.threads_run w d todo sizes env) s (threads first_of_both (walk.share_run w d todo env) n (deal 0 0 (drop 0 sizes)) most false tt) s
unfolding walk.threads_run
loops_begin w d todo sizes env s n most e q = threads_begin first_of_both tt sizes (walk.share_run w d todo env) s n most e q
