-- Calls of functions that reduce, whose parameters are checked.
use Rattle.std.proofs.Common.{◌≡◌, ℕ, zero, suc, ◌-◌, ◌≤◌, arith, ℤ, List, Bool, true, false, ◌&&◌, true≢false, refl, sym, subst, ap, ◌∙◌}
use Rattle.std.specs.Prelude.{Result, Ok, Err}
use Rattle.ada_base.specs.declared.reason.Reason.TheVariants as reason
use Rattle.behaviours.specs.Paths as paths
use Rattle.typed_tree.specs.Programs.{program}
use Rattle.ada_base.specs.declared.operation.Op.{Op}
use Rattle.typed_tree.specs.declared.scalars.Class.{Class}
use Rattle.typed_tree.specs.declared.scalars.Scalar.{Scalar}
use Rattle.typed_tree.specs.declared.expressions.Reducer.TheVariants as reducer
use Rattle.ada_meaning.specs.Values.{is_in}
use Rattle.ada_meaning.specs.Operations.{operate, reduce}
use Rattle.ada_meaning.specs.Meaning as meaning
use Rattle.ada_meaning.specs.Meaning.{sub_at}
use Rattle.ada_meaning.specs.Stored.{Stored, doings, checks, ret, bind, leaves}
use Rattle.run_outside.specs.Outside.{Outside}
use Rattle.run_store.specs.Shows.{Image, ShowsAs, Shows}
use Rattle.run_values.specs.declared.ends.End.{End}
use Rattle.run_values.specs.declared.ends.End.TheVariants as end
use Rattle.run_values.specs.declared.ends.Leave.TheVariants as leave
use Rattle.run_store.proofs.Going.{stays, goes_refl, goes_ends, then_shows, same_shows}
use Rattle.run_parts.specs.declared.work.Work.{Work}
use Rattle.run_parts.specs.declared.passed.Returned.{Returned}
use Rattle.run_parts.specs.declared.reducers.Both.{Both}
use Rattle.run_parts.specs.Passing.{returned_of}
use Rattle.run_parts.specs.Reducing.{both_hold, both_checked}
use Rattle.run_parts.specs.Words.{turned, calls_of, ops, reduced_by}
use Rattle.run_walk.specs.declared.folds.Fold.{Fold}
use Rattle.run_walk.proofs.Scoping.{sub_as}
use Rattle.run_walk.specs.Walk as walk

module _ {Tells : List ℕ → Outside → Type 0} (w : Work) (both : Both) (t : Image) where
  both_so : both_hold both ≡ true → Shows Tells (both_checked w both) (Ok tt) t t
  unfolding bind ret
  both_so e = go (is_in both.accumulator both.a) (is_in both.value both.b) refl refl e
    where
      go : (a b : Bool) → is_in both.accumulator both.a ≡ a → is_in both.value both.b ≡ b → (a && b) ≡ true → Shows Tells (both_checked w both) (Ok tt) t t
      go true true p q e = rw (p, q) (refl, stays, λ input told. refl)
      go true false p q e = absurd (true≢false (sym e))
      go false b p q e = absurd (true≢false (sym e))

  both_not : both_hold both ≡ false → Shows Tells (both_checked w both) (Err (end.Left (leave.Raises reason.ConstraintError))) t t
  unfolding bind ret leaves
  both_not e = go (is_in both.accumulator both.a) (is_in both.value both.b) refl refl e
    where
      go : (a b : Bool) → is_in both.accumulator both.a ≡ a → is_in both.value both.b ≡ b → (a && b) ≡ false → Shows Tells (both_checked w both) (Err (end.Left (leave.Raises reason.ConstraintError))) t t
      go true true p q e = absurd (true≢false e)
      go true false p q e = rw (p, q) (refl, stays, λ input told. refl)
      go false b p q e = rw p (refl, stays, λ input told. refl)

module _ {Tells : List ℕ → Outside → Type 0} (w : Work) (nested number : ℕ) (both : Both) (passed : List meaning.Passed) (s t : Image) where
  pub checked_ends : (d : ℕ) (e : End) (r : Result Returned End) → r ≡ Err e → Shows Tells (turned w) (Err e) s t → ShowsAs returned_of Tells (calls_of w d nested number (both_checked w both) passed) r s t
  unfolding calls_of
  checked_ends zero e r q h = subst (λ z. ShowsAs returned_of Tells (calls_of w zero nested number (both_checked w both) passed) z s t) (sym q) (goes_ends (λ a. a) returned_of _ (turned w) (λ _. leaves (paths.Raises reason.StorageError)) s s t e (goes_refl _ s) h)
  checked_ends (suc d) e r q h =
      subst (λ z. ShowsAs returned_of Tells (calls_of w (suc d) nested number (both_checked w both) passed) z s t) (sym q)
      (goes_ends (λ a. a) returned_of _ (turned w) (λ _. bind (both_checked w both) (λ _. meaning.exec_sub (ops w) w.limit (program w.typed.now) (calls_of w d) (sub_at (program w.typed.now).subs number) nested passed)) s s t e (goes_refl _ s) h)

  pub checked_step : (d : ℕ) (r : Result Returned End) (u : Image) → 1 ≤ d → both_hold both ≡ true → Shows Tells (turned w) (Ok tt) s t → ShowsAs returned_of Tells (walk.called w (d - 1) number nested passed) r t u → ShowsAs returned_of Tells (calls_of w d nested number (both_checked w both) passed) r s u
  unfolding calls_of
  checked_step zero r u le b h k = absurd (omega (arith, le))
  checked_step (suc d) r u le b h k =
      let m : suc d - 1 ≡ d = omega arith in
      let k' = subst (λ z. ShowsAs returned_of Tells (walk.called w z number nested passed) r t u) m k in
      then_shows (λ a. a) returned_of (turned w) (λ _. bind (both_checked w both) (λ _. meaning.exec_sub (ops w) w.limit (program w.typed.now) (calls_of w d) (sub_at (program w.typed.now).subs number) nested passed)) s t u tt r h
      (then_shows (λ a. a) returned_of (both_checked w both) (λ _. meaning.exec_sub (ops w) w.limit (program w.typed.now) (calls_of w d) (sub_at (program w.typed.now).subs number) nested passed) t t u tt r (both_so w both t b)
      (same_shows returned_of _ (walk.called w d number nested passed) r t u (sub_as w d (sub_at (program w.typed.now).subs number) nested passed) k'))

  pub checked_stops : (d : ℕ) (e : End) (r : Result Returned End) (u : Image) → r ≡ Err e → 1 ≤ d → both_hold both ≡ true → Shows Tells (turned w) (Ok tt) s t → ShowsAs returned_of Tells (walk.called w (d - 1) number nested passed) (Err e) t u → ShowsAs returned_of Tells (calls_of w d nested number (both_checked w both) passed) r s u
  checked_stops d e r u q le b h k = subst (λ z. ShowsAs returned_of Tells (calls_of w d nested number (both_checked w both) passed) z s u) (sym q) (checked_step d (Err e) u le b h k)

  pub checked_not : (d : ℕ) → 1 ≤ d → both_hold both ≡ false → Shows Tells (turned w) (Ok tt) s t → ShowsAs returned_of Tells (calls_of w d nested number (both_checked w both) passed) (Err (end.Left (leave.Raises reason.ConstraintError))) s t
  unfolding calls_of
  checked_not zero le b h = absurd (omega (arith, le))
  checked_not (suc d) le b h =
      then_shows (λ a. a) returned_of (turned w) (λ _. bind (both_checked w both) (λ _. meaning.exec_sub (ops w) w.limit (program w.typed.now) (calls_of w d) (sub_at (program w.typed.now).subs number) nested passed)) s t t tt (Err (end.Left (leave.Raises reason.ConstraintError))) h
      (goes_ends (λ a. a) returned_of _ (both_checked w both) (λ _. meaning.exec_sub (ops w) w.limit (program w.typed.now) (calls_of w d) (sub_at (program w.typed.now).subs number) nested passed) t t t (end.Left (leave.Raises reason.ConstraintError)) (goes_refl _ t) (both_not w both t b))

module _ {Tells : List ℕ → Outside → Type 0} (w : Work) (d nested number : ℕ) (both : Both) (s t : Image) where
  pub reduced_on : (passed : List meaning.Passed) (r : Returned) → passed ≡ reduced_by w number both.a both.b → both_hold both ≡ true → ShowsAs returned_of Tells (calls_of w d nested number (ret {A = Unit {0}} tt) passed) (Ok r) s t → Shows Tells (walk.reduced_by_call w d nested number both) (Ok r.value) s t
  unfolding ret
  reduced_on passed r e b h =
      then_shows (λ a. a) (λ a. a) (both_checked w both) (λ _. bind (calls_of w d nested number (ret {A = Unit {0}} tt) (reduced_by w number both.a both.b)) (λ r. ret r.value)) s s t tt (Ok r.value) (both_so w both s b)
      (then_shows returned_of (λ a. a) (calls_of w d nested number (ret {A = Unit {0}} tt) (reduced_by w number both.a both.b)) (λ r. ret r.value) s t t r (Ok r.value) (subst (λ z. ShowsAs returned_of Tells (calls_of w d nested number (ret {A = Unit {0}} tt) z) (Ok r) s t) e h) (refl, stays, λ input told. refl))

  pub reduced_ends : (passed : List meaning.Passed) (e : End) (r : Result ℤ End) → r ≡ Err e → passed ≡ reduced_by w number both.a both.b → both_hold both ≡ true → ShowsAs returned_of Tells (calls_of w d nested number (ret {A = Unit {0}} tt) passed) (Err e) s t → Shows Tells (walk.reduced_by_call w d nested number both) r s t
  reduced_ends passed e r q is b h =
      subst (λ z. Shows Tells (walk.reduced_by_call w d nested number both) z s t) (sym q)
      (then_shows (λ a. a) (λ a. a) (both_checked w both) (λ _. bind (calls_of w d nested number (ret {A = Unit {0}} tt) (reduced_by w number both.a both.b)) (λ r. ret r.value)) s s t tt (Err e) (both_so w both s b)
      (goes_ends returned_of (λ a. a) _ (calls_of w d nested number (ret {A = Unit {0}} tt) (reduced_by w number both.a both.b)) (λ r. ret r.value) s s t e (goes_refl _ s) (subst (λ z. ShowsAs returned_of Tells (calls_of w d nested number (ret {A = Unit {0}} tt) z) (Err e) s t) is h)))

  pub reduced_not : both_hold both ≡ false → Shows Tells (walk.reduced_by_call w d nested number both) (Err (end.Left (leave.Raises reason.ConstraintError))) s s
  reduced_not b = goes_ends (λ a. a) (λ a. a) _ (both_checked w both) (λ _. bind (calls_of w d nested number (ret {A = Unit {0}} tt) (reduced_by w number both.a both.b)) (λ r. ret r.value)) s s s (end.Left (leave.Raises reason.ConstraintError)) (goes_refl _ s) (both_not w both s b)

  pub combined_on : (passed : List meaning.Passed) (r : Returned) → passed ≡ reduced_by w number both.a both.b → ShowsAs returned_of Tells (calls_of w d nested number (both_checked w both) passed) (Ok r) s t → Shows Tells (walk.combined_by_call w d nested number both) (Ok r.value) s t
  unfolding ret
  combined_on passed r e h =
      then_shows returned_of (λ a. a) (calls_of w d nested number (both_checked w both) (reduced_by w number both.a both.b)) (λ r. ret r.value) s t t r (Ok r.value) (subst (λ z. ShowsAs returned_of Tells (calls_of w d nested number (both_checked w both) z) (Ok r) s t) e h) (refl, stays, λ input told. refl)

  pub combined_ends : (passed : List meaning.Passed) (e : End) (r : Result ℤ End) → r ≡ Err e → passed ≡ reduced_by w number both.a both.b → ShowsAs returned_of Tells (calls_of w d nested number (both_checked w both) passed) (Err e) s t → Shows Tells (walk.combined_by_call w d nested number both) r s t
  combined_ends passed e r q is h =
      subst (λ z. Shows Tells (walk.combined_by_call w d nested number both) z s t) (sym q)
      (goes_ends returned_of (λ a. a) _ (calls_of w d nested number (both_checked w both) (reduced_by w number both.a both.b)) (λ r. ret r.value) s s t e (goes_refl _ s) (subst (λ z. ShowsAs returned_of Tells (calls_of w d nested number (both_checked w both) z) (Err e) s t) is h))

-- what is given under other names
pub passed_as : (w : Work) (number : ℕ) (a b a' b' : ℤ) (passed : List meaning.Passed) → passed ≡ reduced_by w number a' b' → a' ≡ a → b' ≡ b → passed ≡ reduced_by w number a b
passed_as w number a b a' b' passed e p q = e ∙ ap (λ z. reduced_by w number z b') p ∙ ap (λ z. reduced_by w number a z) q

abbrev pub named : ℕ → Scalar → Scalar → ℤ → ℤ → Both
named at accumulator value a b = record { at = at; accumulator = accumulator; value = value; a = a; b = b }

-- a step by a declared function
module _ {Tells : List ℕ → Outside → Type 0} (w : Work) (d : ℕ) (by : Fold) (nested at sub : ℕ) (accumulator value : Scalar) (a b a' b' : ℤ) (r : Result ℤ End) (s t : Image) (is : by.reducer ≡ reducer.Function at sub accumulator value) where
  pub reduced_shows : Shows Tells (walk.reduced_by_call w d nested sub (named at accumulator value a' b')) r s t → a' ≡ a → b' ≡ b → Shows Tells (walk.reduced w d by nested a b) r s t
  reduced_shows h p q =
      subst (λ (z : Stored ℤ). Shows Tells z r s t) (sym (ap (λ z. reduce doings checks z by.attribute (meaning.fold_call (ops w) w.limit (program w.typed.now) (calls_of w d) z nested) a b) is))
      (subst (λ z. Shows Tells (walk.reduced_by_call w d nested sub (named at accumulator value z b)) r s t) p (subst (λ z. Shows Tells (walk.reduced_by_call w d nested sub (named at accumulator value a' z)) r s t) q h))

  pub combined_shows : Shows Tells (walk.combined_by_call w d nested sub (named at accumulator value a' b')) r s t → a' ≡ a → b' ≡ b → Shows Tells (walk.combined_two w d by nested a b) r s t
  combined_shows h p q =
      subst (λ (z : Stored ℤ). Shows Tells z r s t) (sym (ap (λ z. reduce doings checks z by.attribute (meaning.combine_call (ops w) w.limit (program w.typed.now) (calls_of w d) z nested) a b) is))
      (subst (λ z. Shows Tells (walk.combined_by_call w d nested sub (named at accumulator value z b)) r s t) p (subst (λ z. Shows Tells (walk.combined_by_call w d nested sub (named at accumulator value a' z)) r s t) q h))

-- a step by an operator
module _ {Tells : List ℕ → Outside → Type 0} (w : Work) (d : ℕ) (by : Fold) (nested at : ℕ) (op : Op) (class : Class) (a b a' b' : ℤ) (r : Result ℤ End) (s t : Image) (is : by.reducer ≡ reducer.Operator at op class) where
  operator_shows : Shows Tells (operate doings checks op by.attribute class a' b') r s t → a' ≡ a → b' ≡ b → (call : ℤ → ℤ → Stored ℤ) → Shows Tells (reduce doings checks (reducer.Operator at op class) by.attribute call a b) r s t
  operator_shows h p q call =
      subst (λ z. Shows Tells (operate doings checks op by.attribute class z b) r s t) p (subst (λ z. Shows Tells (operate doings checks op by.attribute class a' z) r s t) q h)

  pub reduced_operator : Shows Tells (operate doings checks op by.attribute class a' b') r s t → a' ≡ a → b' ≡ b → Shows Tells (walk.reduced w d by nested a b) r s t
  reduced_operator h p q =
      subst (λ (z : Stored ℤ). Shows Tells z r s t) (sym (ap (λ z. reduce doings checks z by.attribute (meaning.fold_call (ops w) w.limit (program w.typed.now) (calls_of w d) z nested) a b) is))
      (operator_shows h p q (meaning.fold_call (ops w) w.limit (program w.typed.now) (calls_of w d) (reducer.Operator at op class) nested))

  pub combined_operator : Shows Tells (operate doings checks op by.attribute class a' b') r s t → a' ≡ a → b' ≡ b → Shows Tells (walk.combined_two w d by nested a b) r s t
  combined_operator h p q =
      subst (λ (z : Stored ℤ). Shows Tells z r s t) (sym (ap (λ z. reduce doings checks z by.attribute (meaning.combine_call (ops w) w.limit (program w.typed.now) (calls_of w d) z nested) a b) is))
      (operator_shows h p q (meaning.combine_call (ops w) w.limit (program w.typed.now) (calls_of w d) (reducer.Operator at op class) nested))
