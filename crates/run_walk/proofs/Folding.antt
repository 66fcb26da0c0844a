-- Reductions, an iteration at a time, and accumulators, one after the other.
use Rattle.std.proofs.Common.{◌≡◌, ℕ, zero, suc, ◌+◌, ◌-◌, ◌<◌, ◌≤◌, ℤ, List, [], ◌∷◌, drop, slice_get, false, Option, Some, None, refl, sym, subst, arith}
use Rattle.std.specs.Prelude.{Result, Ok, Err}
use Rattle.behaviours.specs.Doings.{folded}
use Rattle.behaviours.specs.Joins.{Share, deal}
use Rattle.ada_meaning.specs.Meaning as meaning
use Rattle.ada_meaning.specs.Meaning.{Env, Course, inside}
use Rattle.ada_meaning.specs.Stored
use Rattle.ada_meaning.specs.Stored.{Stored, doings, bind, threads, after_all}
use Rattle.ada_meaning.proofs.Computing.{through_more, through_done}
use Rattle.run_outside.specs.Outside.{Outside}
use Rattle.run_store.specs.Shows.{Image, Goes, Shows}
use Rattle.run_values.specs.declared.ends.End.{End}
use Rattle.run_store.proofs.Going.{stays, goes_refl, goes_instead, goes_then, goes_ends, goes_gives, then_shows, same_shows}
use Rattle.run_parts.specs.declared.work.Work.{Work}
use Rattle.run_parts.specs.declared.chunks.Chunking.{Chunking}
use Rattle.run_parts.specs.declared.chunks.Chunking.TheVariants as chunking
use Rattle.run_parts.specs.Dealing.{chunking_of, fold_sizes}
use Rattle.run_walk.specs.declared.folds.Fold.{Fold}
use Rattle.run_walk.proofs.Threading.{threads_begin}
use Rattle.run_walk.specs.Walk as walk

abbrev one : Work → ℕ → Fold → Course → Env → ℕ → ℤ → Stored ℤ
one w d by c env i total = walk.fold_one w d by env.nested (c.bound i env) total

module _ {Tells : List ℕ → Outside → Type 0} (w : Work) (d : ℕ) (by : Fold) (c : Course) (env : Env) where
  module _ (whole : Stored ℤ) (s t u : Image) (i n : ℕ) (total : ℤ) where
    module _ (lt : i < n) (g : Goes Tells whole s (walk.fold_left w d by i (n - i) c total env) t) where
      fold_more : Goes Tells whole s (bind (one w d by c env i total) (λ v. walk.fold_left w d by (i + 1) (n - (i + 1)) c v env)) t
      unfolding walk.fold_left
      fold_more = goes_instead whole _ _ s t (through_more i n total (one w d by c env) lt) g

      pub fold_step : (a v v' : ℤ) → Shows Tells (one w d by c env i a) (Ok v') t u → a ≡ total → v' ≡ v → Goes Tells whole s (walk.fold_left w d by (i + 1) (n - (i + 1)) c v env) u
      fold_step a v v' h p q =
          goes_then (λ a. a) (λ a. a) whole (one w d by c env i total) (λ v. walk.fold_left w d by (i + 1) (n - (i + 1)) c v env) s t u v fold_more
          (subst (λ z. Shows Tells (one w d by c env i z) (Ok v) t u) p (subst (λ z. Shows Tells (one w d by c env i a) (Ok z) t u) q h))

      pub fold_ends : (a : ℤ) (x : End) (r : Result ℤ End) → r ≡ Err x → Shows Tells (one w d by c env i a) (Err x) t u → a ≡ total → Shows Tells whole r s u
      fold_ends a x r q h p = subst (λ z. Shows Tells whole z s u) (sym q) (goes_ends (λ a. a) (λ a. a) whole (one w d by c env i total) (λ v. walk.fold_left w d by (i + 1) (n - (i + 1)) c v env) s t u x fold_more (subst (λ z. Shows Tells (one w d by c env i z) (Err x) t u) p h))

    pub fold_done : (r : ℤ) → n ≤ i → Goes Tells whole s (walk.fold_left w d by i (n - i) c total env) t → r ≡ total → Shows Tells whole (Ok r) s t
    unfolding walk.fold_left
    fold_done r le g p = subst (λ z. Shows Tells whole (Ok z) s t) (sym p) (goes_gives (λ a. a) whole total s t (goes_instead whole _ _ s t (through_done i n total (one w d by c env) le) g))

  -- none, and all
  pub fold_none : (n : ℕ) (start r : ℤ) (s : Image) → n ≡ 0 → r ≡ start → Shows Tells (walk.fold_left w d by 0 n c start env) (Ok r) s s
  unfolding walk.fold_left Stored.ret
  fold_none n start r s e p = subst (λ z. Shows Tells (walk.fold_left w d by 0 n c start env) (Ok z) s s) (sym p) (subst (λ n. Shows Tells (walk.fold_left w d by 0 n c start env) (Ok start) s s) (sym e) (refl, stays, λ input told. refl))

  pub fold_as : (first m n : ℕ) (start a : ℤ) (r : Result ℤ End) (s t : Image) → m ≡ n → Shows Tells (walk.fold_left w d by first m c a env) r s t → a ≡ start → Shows Tells (walk.fold_left w d by first n c start env) r s t
  fold_as first m n start a r s t e h p = subst (λ z. Shows Tells (walk.fold_left w d by first n c z env) r s t) p (subst (λ n. Shows Tells (walk.fold_left w d by first n c a env) r s t) e h)

  pub fold_fails : (first m n : ℕ) (start a : ℤ) (x : End) (r : Result ℤ End) (s t : Image) → r ≡ Err x → m ≡ n → Shows Tells (walk.fold_left w d by first m c a env) (Err x) s t → a ≡ start → Shows Tells (walk.fold_left w d by first n c start env) r s t
  fold_fails first m n start a x r s t q e h p = subst (λ z. Shows Tells (walk.fold_left w d by first n c start env) z s t) (sym q) (fold_as first m n start a (Err x) s t e h p)

-- ---- accumulators

drop_value : (vs : List ℤ) (k : ℕ) (v : ℤ) → slice_get vs k ≡ Some v → drop k vs ≡ v ∷ drop (k + 1) vs
drop_value [] k v e = cc
drop_value (x ∷ xs) zero v e = let q : x ≡ v = cc in rw q refl
drop_value (x ∷ xs) (suc k) v e = let q : suc k + 1 ≡ suc (k + 1) = omega arith in rw q (drop_value xs k v e)

drop_end : (vs : List ℤ) (k : ℕ) → slice_get vs k ≡ None → drop k vs ≡ []
drop_end [] zero e = refl
drop_end [] (suc k) e = refl
drop_end (x ∷ xs) zero e = cc
drop_end (x ∷ xs) (suc k) e = drop_end xs k e

module _ {Tells : List ℕ → Outside → Type 0} (w : Work) (d : ℕ) (by : Fold) (nested : ℕ) (whole : Stored ℤ) (s t u : Image) (total : ℤ) (vs : List ℤ) (k : ℕ) (g : Goes Tells whole s (walk.combined_onto w d by nested total (drop k vs)) t) where
  module _ (v : ℤ) (is : slice_get vs k ≡ Some v) where
    onto_more : Goes Tells whole s (bind (walk.combined_two w d by nested total v) (λ c. walk.combined_onto w d by nested c (drop (k + 1) vs))) t
    unfolding walk.combined_onto
    onto_more = subst (λ z. Goes Tells whole s (walk.combined_onto w d by nested total z) t) (drop_value vs k v is) g

    pub onto_step : (a b c c' : ℤ) → Shows Tells (walk.combined_two w d by nested a b) (Ok c') t u → a ≡ total → b ≡ v → c' ≡ c → Goes Tells whole s (walk.combined_onto w d by nested c (drop (k + 1) vs)) u
    onto_step a b c c' h p q r =
        goes_then (λ a. a) (λ a. a) whole (walk.combined_two w d by nested total v) (λ c. walk.combined_onto w d by nested c (drop (k + 1) vs)) s t u c onto_more
        (subst (λ z. Shows Tells (walk.combined_two w d by nested z v) (Ok c) t u) p (subst (λ z. Shows Tells (walk.combined_two w d by nested a z) (Ok c) t u) q (subst (λ z. Shows Tells (walk.combined_two w d by nested a b) (Ok z) t u) r h)))

    pub onto_ends : (a b : ℤ) (e : End) (r : Result ℤ End) → r ≡ Err e → Shows Tells (walk.combined_two w d by nested a b) (Err e) t u → a ≡ total → b ≡ v → Shows Tells whole r s u
    onto_ends a b e r x h p q =
        subst (λ z. Shows Tells whole z s u) (sym x)
        (goes_ends (λ a. a) (λ a. a) whole (walk.combined_two w d by nested total v) (λ c. walk.combined_onto w d by nested c (drop (k + 1) vs)) s t u e onto_more
        (subst (λ z. Shows Tells (walk.combined_two w d by nested z v) (Err e) t u) p (subst (λ z. Shows Tells (walk.combined_two w d by nested a z) (Err e) t u) q h)))

  pub onto_done : (r : ℤ) → slice_get vs k ≡ None → r ≡ total → Shows Tells whole (Ok r) s t
  unfolding walk.combined_onto
  onto_done r is p = subst (λ z. Shows Tells whole (Ok z) s t) (sym p) (goes_gives (λ a. a) whole total s t (subst (λ z. Goes Tells whole s (walk.combined_onto w d by nested total z) t) (drop_end vs k is) g))

-- ---- the threads of a reduction

module _ (w : Work) (d : ℕ) (by : Fold) (c : Course) (start : ℤ) (env : Env) where
  share_as : (k : Chunking) (s : Share) → walk.share_folded w d by (chunking_of k) c start env s ≡ walk.fold_left w d by s.first s.size c start ((chunking_of k).bound s.number env)
  unfolding walk.share_folded walk.fold_left
  share_as (chunking.ByPlan most) s = refl
  share_as (chunking.Each p low n) s = refl

  module _ {Tells : List ℕ → Outside → Type 0} (k : Chunking) (number first size : ℕ) (s t : Image) where
    pub fold_share_none : (r : ℤ) → size ≡ 0 → r ≡ start → Shows Tells (walk.share_folded w d by (chunking_of k) c start env (record { number = number; first = first; size = size })) (Ok r) s s
    unfolding walk.share_folded Stored.ret
    fold_share_none r e p =
        subst (λ z. Shows Tells (walk.share_folded w d by (chunking_of k) c start env (record { number = number; first = first; size = size })) (Ok z) s s) (sym p)
        (subst (λ n. Shows Tells (walk.share_folded w d by (chunking_of k) c start env (record { number = number; first = first; size = n })) (Ok start) s s) (sym e) (refl, stays, λ input told. refl))

    pub fold_share_on : (inner : Env) (m : ℕ) (a : ℤ) (r : Result ℤ End) → inner ≡ (chunking_of k).bound number env → m ≡ size → Shows Tells (walk.fold_left w d by first m c a inner) r s t → a ≡ start → Shows Tells (walk.share_folded w d by (chunking_of k) c start env (record { number = number; first = first; size = size })) r s t
    fold_share_on inner m a r is e h p =
        same_shows (λ a. a) (walk.share_folded w d by (chunking_of k) c start env (record { number = number; first = first; size = size })) (walk.fold_left w d by first size c start ((chunking_of k).bound number env)) r s t (share_as k (record { number = number; first = first; size = size }))
        (subst (λ z. Shows Tells (walk.fold_left w d by first z c start ((chunking_of k).bound number env)) r s t) e
        (subst (λ z. Shows Tells (walk.fold_left w d by first m c z ((chunking_of k).bound number env)) r s t) p
        (subst (λ z. Shows Tells (walk.fold_left w d by first m c a z) r s t) is h)))

    pub fold_share_ends : (inner : Env) (m : ℕ) (a : ℤ) (x : End) (r : Result ℤ End) → r ≡ Err x → inner ≡ (chunking_of k).bound number env → m ≡ size → Shows Tells (walk.fold_left w d by first m c a inner) (Err x) s t → a ≡ start
        → Shows Tells (walk.share_folded w d by (chunking_of k) c start env (record { number = number; first = first; size = size })) r s t
    fold_share_ends inner m a x r q is e h p = subst (λ z. Shows Tells (walk.share_folded w d by (chunking_of k) c start env (record { number = number; first = first; size = size })) z s t) (sym q) (fold_share_on inner m a (Err x) is e h p)

  pub dealt_fold_as : (k : Chunking) → walk.dealt_fold w d by (chunking_of k) c start env
      ≡ bind (walk.threads_folded w d by (chunking_of k) c start (fold_sizes w k c.count) (inside env)) (λ accumulators. walk.combined w d by env.nested start accumulators)
  unfolding walk.threads_folded walk.share_folded walk.combined
  dealt_fold_as (chunking.ByPlan most) = refl
  dealt_fold_as (chunking.Each p low n) = refl

-- a number under another name
pub gives_as : {Tells : List ℕ → Outside → Type 0} (m : Stored ℤ) (a b : ℤ) (s t : Image) → Shows Tells m (Ok a) s t → b ≡ a → Shows Tells m (Ok b) s t
gives_as {Tells} m a b s t h p = subst (λ z. Shows Tells m (Ok z) s t) (sym p) h

pub onto_as : {Tells : List ℕ → Outside → Type 0} (w : Work) (d : ℕ) (by : Fold) (nested : ℕ) (first a : ℤ) (vs : List ℤ) (r : Result ℤ End) (s t : Image) → Shows Tells (walk.combined_onto w d by nested a vs) r s t → a ≡ first → Shows Tells (walk.combined_onto w d by nested first vs) r s t
onto_as {Tells} w d by nested first a vs r s t h p = subst (λ z. Shows Tells (walk.combined_onto w d by nested z vs) r s t) p h

pub share_folded_as : {Tells : List ℕ → Outside → Type 0} (w : Work) (d : ℕ) (by : Fold) (k : meaning.Chunking) (c : Course) (start a : ℤ) (env : Env) (j : Share) (r : Result ℤ End) (s t : Image) → Shows Tells (walk.share_folded w d by k c a env j) r s t → a ≡ start → Shows Tells (walk.share_folded w d by k c start env j) r s t
share_folded_as {Tells} w d by k c start a env j r s t h p = subst (λ z. Shows Tells (walk.share_folded w d by k c z env j) r s t) p h

pub threads_folded_as : {Tells : List ℕ → Outside → Type 0} (w : Work) (d : ℕ) (by : Fold) (k : meaning.Chunking) (c : Course) (start a : ℤ) (ns : List ℕ) (env : Env) (r : Result (List ℤ) End) (s t : Image) → Shows Tells (walk.threads_folded w d by k c a ns env) r s t → a ≡ start → Shows Tells (walk.threads_folded w d by k c start ns env) r s t
threads_folded_as {Tells} w d by k c start a ns env r s t h p = subst (λ z. Shows Tells (walk.threads_folded w d by k c z ns env) r s t) p h

-- a step of a fold
module _ {Tells : List ℕ → Outside → Type 0} (w : Work) (d : ℕ) (by : Fold) (nested n : ℕ) (env i : Env) (so_far v a b : ℤ) (found : Option ℤ) (s t u : Image) (h : Shows Tells (walk.iterated_value w d by i) (Ok found) s t) (is : found ≡ Some v) where
  pub fold_one_on : (r : Result ℤ End) → Shows Tells (walk.reduced w d by n a b) r t u → i ≡ env → n ≡ nested → a ≡ so_far → b ≡ v → Shows Tells (walk.fold_one w d by nested env so_far) r s u
  fold_one_on r k x y p z =
      then_shows (λ a. a) (λ a. a) (walk.iterated_value w d by env) (λ v. folded doings (walk.reduced w d by nested) so_far v) s t u (Some v) r
      (subst (λ i. Shows Tells (walk.iterated_value w d by i) (Ok (Some v)) s t) x (subst (λ f. Shows Tells (walk.iterated_value w d by i) (Ok f) s t) is h))
      (subst (λ n. Shows Tells (walk.reduced w d by n so_far v) r t u) y (subst (λ a. Shows Tells (walk.reduced w d by n a v) r t u) p (subst (λ b. Shows Tells (walk.reduced w d by n a b) r t u) z k)))

  pub fold_one_stops : (e : End) (r : Result ℤ End) → r ≡ Err e → Shows Tells (walk.reduced w d by n a b) (Err e) t u → i ≡ env → n ≡ nested → a ≡ so_far → b ≡ v → Shows Tells (walk.fold_one w d by nested env so_far) r s u
  fold_one_stops e r q k x y p z = subst (λ r. Shows Tells (walk.fold_one w d by nested env so_far) r s u) (sym q) (fold_one_on (Err e) k x y p z)

pub fold_one_fails : {Tells : List ℕ → Outside → Type 0} (w : Work) (d : ℕ) (by : Fold) (nested : ℕ) (env i : Env) (so_far : ℤ) (s t : Image) (e : End) (r : Result ℤ End) → r ≡ Err e → Shows Tells (walk.iterated_value w d by i) (Err e) s t → i ≡ env → Shows Tells (walk.fold_one w d by nested env so_far) r s t
fold_one_fails {Tells} w d by nested env i so_far s t e r q h x =
    subst (λ z. Shows Tells (walk.fold_one w d by nested env so_far) z s t) (sym q)
    (goes_ends (λ a. a) (λ a. a) (walk.fold_one w d by nested env so_far) (walk.iterated_value w d by env) (λ v. folded doings (walk.reduced w d by nested) so_far v) s s t e (goes_refl _ s)
    (subst (λ i. Shows Tells (walk.iterated_value w d by i) (Err e) s t) x h))

pub folds_begin : {Tells : List ℕ → Outside → Type 0} (w : Work) (d : ℕ) (by : Fold) (k : meaning.Chunking) (c : Course) (start : ℤ) (sizes : List ℕ) (env : Env) (s : Image) (n most : ℕ) → n ≡ s.state.turns → most ≡ s.state.turns
    → Goes Tells (walk.threads_folded w d by k c start sizes env) s (threads after_all (walk.share_folded w d by k c start env) n (deal 0 0 (drop 0 sizes)) most false []) s
unfolding walk.threads_folded
folds_begin w d by k c start sizes env s n most e q = threads_begin after_all [] sizes (walk.share_folded w d by k c start env) s n most e q
