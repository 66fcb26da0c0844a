-- How iterations are dealt to threads, a part at a time.
use Rattle.std.proofs.Common.{◌≡◌, ℕ, zero, suc, ◌+◌, ◌<◌, ◌≤◌, ℤ, pos, ◌+ℤ◌, int_le, nat_le, List, [], ◌∷◌, ◌++◌, drop, slice_get, Option, Some, None, Bool, true, false, cond, ◌&&◌, refl, sym, subst, ap, ◌∙◌, arith, append_assoc}
use Rattle.std.specs.Prelude.{Result, Ok, Err}
use Rattle.std.proofs.lemmas.Bool.{le-leb, lt-leb}
use Rattle.std.proofs.lemmas.List.{append-nil}
use Rattle.ada_base.specs.declared.reason.Reason.{Reason}
use Rattle.ada_base.specs.declared.reason.Reason.TheVariants as reason
use Rattle.typed_tree.specs.declared.scalars.Check.{Check}
use Rattle.typed_tree.specs.Syntax.{Arms, NoArm, Arm, Stmts}
use Rattle.ada_meaning.specs.Values.{count, without_zeros, is_in}
use Rattle.ada_meaning.specs.Operations.{RangeCheck}
use Rattle.ada_meaning.specs.Meaning as meaning
use Rattle.ada_meaning.specs.Meaning.{arms_of, with_parameter, most_threads}
use Rattle.ada_meaning.specs.Stored.{Stored, ret, bind, leaves, checks}
use Rattle.run_values.specs.declared.ends.End.{End}
use Rattle.run_values.specs.declared.ends.End.TheVariants as end
use Rattle.run_values.specs.declared.ends.Leave.TheVariants as leave
use Rattle.run_outside.specs.Outside.{Outside}
use Rattle.run_store.specs.Shows.{Image, ShowsAs, Shows}
use Rattle.run_store.proofs.Going.{stays, goes_refl, goes_ends, then_shows}
use Rattle.run_parts.specs.declared.chunks.Chunking.{Chunking}
use Rattle.run_parts.specs.declared.chunks.Chunking.TheVariants as chunking
use Rattle.run_parts.specs.declared.work.Work.{Work}
use Rattle.run_parts.specs.Dealing.{chunking_of, each_chunk, found_arm, with_filled}
use Rattle.run_parts.specs.Words.{ops, bounds_hold}

-- ---- arms

pub count_more : (n m all : ℕ) (arms rest : Arms) (stmts : Stmts) → arms ≡ Arm stmts rest → m ≡ n + 1 → n + arms_of arms ≡ all → m + arms_of rest ≡ all
count_more n m all arms rest stmts is e h = let q : arms_of arms ≡ suc (arms_of rest) = ap (λ (z : Arms). arms_of z) is in omega (arith, q, e, h)

pub count_done : (n all : ℕ) (arms : Arms) → arms ≡ NoArm → n + arms_of arms ≡ all → n ≡ all
count_done n all arms is h = let q : arms_of arms ≡ 0 = ap (λ (z : Arms). arms_of z) is in omega (arith, q, h)

-- the arm that is looked for, another, and none
pub arm_here : (found : Option Stmts) (arms rest : Arms) (stmts : Stmts) (i : ℕ) → found ≡ found_arm arms i → arms ≡ Arm stmts rest → i ≡ 0 → Some stmts ≡ found
arm_here found arms rest stmts i e is q = sym (e ∙ ap (λ z. found_arm z i) is ∙ ap (λ z. found_arm (Arm stmts rest) z) q)

pub arm_next : (found : Option Stmts) (arms rest : Arms) (stmts : Stmts) (i j : ℕ) → found ≡ found_arm arms i → arms ≡ Arm stmts rest → i ≡ suc j → found ≡ found_arm rest j
arm_next found arms rest stmts i j e is q = e ∙ ap (λ z. found_arm z i) is ∙ ap (λ z. found_arm (Arm stmts rest) z) q

pub arm_over : (found : Option Stmts) (arms : Arms) (i : ℕ) → found ≡ found_arm arms i → arms ≡ NoArm → None ≡ found
arm_over found arms i e is = sym (e ∙ ap (λ z. found_arm z i) is)

-- ---- sizes

drop_some : (ns : List ℕ) (k n : ℕ) → slice_get ns k ≡ Some n → drop k ns ≡ n ∷ drop (k + 1) ns
drop_some [] k n e = cc
drop_some (x ∷ xs) zero n e = let q : x ≡ n = cc in rw q refl
drop_some (x ∷ xs) (suc k) n e = let q : suc k + 1 ≡ suc (k + 1) = omega arith in rw q (drop_some xs k n e)

drop_none : (ns : List ℕ) (k : ℕ) → slice_get ns k ≡ None → drop k ns ≡ []
drop_none [] zero e = refl
drop_none [] (suc k) e = refl
drop_none (x ∷ xs) zero e = cc
drop_none (x ∷ xs) (suc k) e = drop_none xs k e

one_filled : (out ns : List ℕ) (n : ℕ) → with_filled out n ++ without_zeros ns ≡ out ++ without_zeros (n ∷ ns)
one_filled out ns zero = refl
one_filled out ns (suc n) = append_assoc out (suc n ∷ []) (without_zeros ns)

pub filled_more : (out out' ns : List ℕ) (k n : ℕ) → slice_get ns k ≡ Some n → out' ≡ with_filled out n → out ++ without_zeros (drop k ns) ≡ without_zeros ns → out' ++ without_zeros (drop (k + 1) ns) ≡ without_zeros ns
filled_more out out' ns k n is e h = ap (λ z. z ++ without_zeros (drop (k + 1) ns)) e ∙ one_filled out (drop (k + 1) ns) n ∙ ap (λ z. out ++ without_zeros z) (sym (drop_some ns k n is)) ∙ h

pub filled_done : (out ns : List ℕ) (k : ℕ) → slice_get ns k ≡ None → out ++ without_zeros (drop k ns) ≡ without_zeros ns → out ≡ without_zeros ns
filled_done out ns k is h = sym (append-nil out) ∙ ap (λ z. out ++ without_zeros z) (sym (drop_none ns k is)) ∙ h

-- ---- chunk specifications

pub few_none : (n : ℕ) → n ≡ 0 → (nat_le n most_threads ≡ true) × (0 ≡ n)
few_none n e = (le-leb n most_threads (omega (arith, e)), sym e)

pub few_some : (n last : ℕ) → n ≡ last + 1 → last < most_threads → (nat_le n most_threads ≡ true) × (last + 1 ≡ n)
few_some n last e lt = (le-leb n most_threads (omega (arith, e, lt)), sym e)

pub few_many : (n last : ℕ) → n ≡ last + 1 → most_threads ≤ last → nat_le n most_threads ≡ false
few_many n last e le = lt-leb n most_threads (omega (arith, e, le))

bounds_so : (w : Work) (check : Option Check) (low high : ℤ) → bounds_hold check low high ≡ true → meaning.bounds_checked (ops w) check low high ≡ ret tt
bounds_so w None low high e = refl
bounds_so w (Some c) low high e = go (int_le low high) (is_in c.scalar low && is_in c.scalar high) e
  where
    go : (a b : Bool) → cond a b true ≡ true → cond a (checks RangeCheck c.at b) (ret tt) ≡ ret tt
    go true b e = rw e refl
    go false b e = refl

bounds_not : (w : Work) (check : Option Check) (low high : ℤ) → bounds_hold check low high ≡ false → meaning.bounds_checked (ops w) check low high ≡ meaning.raise (ops w) reason.ConstraintError
bounds_not w None low high e = cc
bounds_not w (Some c) low high e = go (int_le low high) (is_in c.scalar low && is_in c.scalar high) e
  where
    go : (a b : Bool) → cond a b true ≡ false → cond a (checks RangeCheck c.at b) (ret tt) ≡ meaning.raise (ops w) reason.ConstraintError
    go true b e = rw e refl
    go false b e = cc

module _ {Tells : List ℕ → Outside → Type 0} (w : Work) (s : Image) where
  unless_so : (b : Bool) (r : Reason) → b ≡ true → Shows Tells (meaning.unless (ops w) b r) (Ok tt) s s
  unfolding ret
  unless_so b r e = subst (λ z. Shows Tells (meaning.unless (ops w) z r) (Ok tt) s s) (sym e) (refl, stays, λ w told. refl)

  unless_not : (b : Bool) (r : Reason) → b ≡ false → Shows Tells (meaning.unless (ops w) b r) (Err (end.Left (leave.Raises r))) s s
  unfolding leaves
  unless_not b r e = subst (λ z. Shows Tells (meaning.unless (ops w) z r) (Err (end.Left (leave.Raises r))) s s) (sym e) (refl, stays, λ w told. refl)

module _ (w : Work) (k : ℕ) (check : Option Check) (l h : ℤ) where
  abbrev given : Stored meaning.Chunking
  given = ret (record { most = count l h; even = true; bound = λ j. with_parameter k (l +ℤ pos j) })

  abbrev few : Stored meaning.Chunking
  few = bind (meaning.unless (ops w) (nat_le (count l h) most_threads) reason.StorageError) (λ _. given)

  abbrev some : Stored meaning.Chunking
  some = bind (meaning.unless (ops w) (int_le l h) reason.ProgramError) (λ _. few)

  module _ {Tells : List ℕ → Outside → Type 0} (s : Image) where
    pub each_not : bounds_hold check l h ≡ false → ShowsAs chunking_of Tells (each_chunk w k check l h) (Err (end.Left (leave.Raises reason.ConstraintError))) s s
    unfolding leaves
    each_not e = goes_ends (λ a. a) chunking_of _ (meaning.bounds_checked (ops w) check l h) (λ _. some) s s s (end.Left (leave.Raises reason.ConstraintError)) (goes_refl _ s) (subst (λ (z : Stored (Unit {0})). Shows Tells z (Err (end.Left (leave.Raises reason.ConstraintError))) s s) (sym (bounds_not w check l h e)) (refl, stays, λ w told. refl))

    module _ (e : bounds_hold check l h ≡ true) where
      within : (r : Result Chunking End) → ShowsAs chunking_of Tells some r s s → ShowsAs chunking_of Tells (each_chunk w k check l h) r s s
      unfolding ret
      within r g = then_shows (λ a. a) chunking_of (meaning.bounds_checked (ops w) check l h) (λ _. some) s s s tt r (subst (λ (z : Stored (Unit {0})). Shows Tells z (Ok tt) s s) (sym (bounds_so w check l h e)) (refl, stays, λ w told. refl)) g

      pub each_none : int_le l h ≡ false → ShowsAs chunking_of Tells (each_chunk w k check l h) (Err (end.Left (leave.Raises reason.ProgramError))) s s
      each_none f = within (Err (end.Left (leave.Raises reason.ProgramError))) (goes_ends (λ a. a) chunking_of _ (meaning.unless (ops w) (int_le l h) reason.ProgramError) (λ _. few) s s s (end.Left (leave.Raises reason.ProgramError)) (goes_refl _ s) (unless_not w s (int_le l h) reason.ProgramError f))

      module _ (f : int_le l h ≡ true) where
        ordered : (r : Result Chunking End) → ShowsAs chunking_of Tells few r s s → ShowsAs chunking_of Tells (each_chunk w k check l h) r s s
        ordered r g = within r (then_shows (λ a. a) chunking_of (meaning.unless (ops w) (int_le l h) reason.ProgramError) (λ _. few) s s s tt r (unless_so w s (int_le l h) reason.ProgramError f) g)

        pub each_many : nat_le (count l h) most_threads ≡ false → ShowsAs chunking_of Tells (each_chunk w k check l h) (Err (end.Left (leave.Raises reason.StorageError))) s s
        each_many m = ordered (Err (end.Left (leave.Raises reason.StorageError))) (goes_ends (λ a. a) chunking_of _ (meaning.unless (ops w) (nat_le (count l h) most_threads) reason.StorageError) (λ _. given) s s s (end.Left (leave.Raises reason.StorageError)) (goes_refl _ s) (unless_not w s (nat_le (count l h) most_threads) reason.StorageError m))

        pub each_some : nat_le (count l h) most_threads ≡ true → (low : ℤ) (n : ℕ) → low ≡ l → n ≡ count l h → ShowsAs chunking_of Tells (each_chunk w k check l h) (Ok (chunking.Each k low n)) s s
        unfolding ret
        each_some m low n p q =
            subst (λ z. ShowsAs chunking_of Tells (each_chunk w k check l h) (Ok (chunking.Each k z n)) s s) (sym p)
            (subst (λ z. ShowsAs chunking_of Tells (each_chunk w k check l h) (Ok (chunking.Each k l z)) s s) (sym q)
            (ordered (Ok (chunking.Each k l (count l h))) (then_shows (λ a. a) chunking_of (meaning.unless (ops w) (nat_le (count l h) most_threads) reason.StorageError) (λ _. given) s s s tt (Ok (chunking.Each k l (count l h))) (unless_so w s (nat_le (count l h) most_threads) reason.StorageError m) (refl, stays, λ w told. refl))))
