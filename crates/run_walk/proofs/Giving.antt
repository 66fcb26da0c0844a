-- Calls that are given a few scalars, a part at a time.
use Rattle.std.proofs.Common.{arith, ◌≡◌, ℕ, ℤ, List, [], ◌∷◌, ◌++◌, map, length, Some, None, true, refl, sym, subst, ap, ◌∙◌}
use Rattle.std.specs.Prelude.{Result, Ok, Err}
use Rattle.std.proofs.lemmas.List.{append-nil, append_assoc}
use Rattle.behaviours.specs.Paths as paths
use Rattle.typed_tree.specs.declared.scalars.Check.{Check}
use Rattle.typed_tree.specs.declared.expressions.Actual.{Actual}
use Rattle.typed_tree.specs.declared.expressions.Actual.TheVariants as actual
use Rattle.typed_tree.specs.Decoded.{of_actual, part_at, value_at}
use Rattle.typed_tree.specs.Syntax.{Actuals, NoActual, In, Expr, Number, Sub}
use Rattle.ada_meaning.specs.Values.{is_in}
use Rattle.ada_meaning.specs.Meaning as meaning
use Rattle.ada_meaning.specs.Meaning.{Env}
use Rattle.ada_meaning.specs.Stored.{State, Stored, After, at, next, ret, bind}
use Rattle.run_outside.specs.Outside.{Outside}
use Rattle.run_store.specs.Shows.{Image, facing, Shows, ShowsAs, Begins, finished}
use Rattle.run_store.specs.declared.objects.Mark.{Mark}
use Rattle.run_values.specs.declared.ends.End.{End}
use Rattle.run_store.specs.declared.objects.Object.TheVariants as object
use Rattle.run_store.proofs.Going.{stays, goes_refl, goes_ends, then_shows, elaborates_shows, elaborates_fails}
use Rattle.run_parts.specs.declared.work.Work.{Work}
use Rattle.run_parts.specs.declared.scalars.InScalar.{InScalar}
use Rattle.run_parts.specs.Given.{in_passed, in_list, value_returned}
use Rattle.run_parts.specs.Words.{nodes_of, ops, calls_of, back_cells, all_copied_back}
use Rattle.run_walk.specs.Quick.{Gives, GivesAs, SameAs}
use Rattle.run_walk.specs.Walk as walk

-- ---- what is passed in

module _ (Tells : List ℕ → Outside → Type 0) (w : Work) (d : ℕ) (env : Env) (s : Image) where
  -- one that has a value in its subtype
  pub scalar_in : (formal value : ℕ) (check : Check) (e : Expr) (x z : ℤ) (f : Actuals → Actuals) (a : Actual) → f ≡ of_actual (part_at (nodes_of w)) a → a ≡ actual.In formal value → value_at (nodes_of w) value ≡ Number check e → Gives Tells (walk.eval w d e env) s (Some x)
      → is_in check.scalar x ≡ true → z ≡ x → (rest : Actuals) (so_far : List meaning.Passed) → SameAs Tells (walk.pass w d (f rest) env so_far) (walk.pass w d rest env (so_far ++ (in_passed (record { formal = formal; value = z }) ∷ []))) s
  unfolding bind ret walk.pass walk.eval
  scalar_in formal value check e x z f a is one number gives within same rest so_far =
      subst (λ y. SameAs Tells (walk.pass w d (f rest) env so_far) (walk.pass w d rest env (so_far ++ (in_passed (record { formal = formal; value = y }) ∷ []))) s) (sym same)
      (subst (λ y. SameAs Tells (walk.pass w d (y rest) env so_far) (then_passed (x ∷ [])) s) (sym (is ∙ ap (of_actual (part_at (nodes_of w))) one))
      (subst (λ y. SameAs Tells (walk.pass w d (In formal y rest) env so_far) (then_passed (x ∷ [])) s) (sym number) go))
    where
      then_checked : ℤ → Stored (List ℤ)
      then_checked v = bind (meaning.checked (ops w) check v) (λ _. ret (v ∷ []))

      then_passed : List ℤ → Stored (List meaning.Passed)
      then_passed cs = walk.pass w d rest env (so_far ++ (record { formal = paths.ConstantOf formal; cells = cs; back = None } ∷ []))

      go : SameAs Tells (walk.pass w d (In formal (Number check e) rest) env so_far) (then_passed (x ∷ [])) s
      go = λ input told. ap (λ (z : After ℤ). next (next z.state z.end then_checked).state (next z.state z.end then_checked).end then_passed) (gives input told) ∙ (rw within refl)

  -- all of them
  pub given_all : (whole : Stored (List meaning.Passed)) (given : List InScalar) (all : Actuals) → SameAs Tells whole (walk.pass w d all env (in_list given)) s → all ≡ NoActual → GivesAs in_list Tells whole s (Some given)
  unfolding ret walk.pass
  given_all whole given all same is = λ input told. subst (λ z. whole.does (facing input s.state) ≡ (walk.pass w d z env (in_list given)).does (facing input s.state)) is (same input told)

-- ---- nothing is copied back

none_kept : (w : Work) (ps : List InScalar) (out : List (List ℤ)) (s : State) → (back_cells w (in_list ps) out).does s ≡ at s (Ok (out ++ map (λ _. []) ps))
unfolding bind ret back_cells
none_kept w [] out s = ap (λ z. at s (Ok z)) (sym (append-nil out))
none_kept w (p ∷ ps) out s = none_kept w ps (out ++ ([] ∷ [])) s ∙ ap (λ z. at s (Ok z)) (append_assoc out ([] ∷ []) (map (λ _. []) ps))

none_copied : (w : Work) (d : ℕ) (ps : List InScalar) (s : State) → (all_copied_back w d (in_list ps) (map (λ _. []) ps)).does s ≡ at s (Ok tt)
unfolding bind ret all_copied_back
none_copied w d [] s = refl
none_copied w d (p ∷ ps) s = none_copied w d ps s

-- ---- a call

module _ {Tells : List ℕ → Outside → Type 0} (w : Work) (d nested : ℕ) (sub : Sub) (all : List InScalar) where
  carried_given : (r : Result ℤ End) (s u : Image) → Shows Tells (walk.function_value w d sub nested) r s u → ShowsAs (value_returned all) Tells (walk.carried_out w d sub nested (in_list all)) r s u
  unfolding ret
  carried_given (Ok v) s u h =
      then_shows (λ a. a) (value_returned all) (walk.function_value w d sub nested) (λ v. bind (back_cells w (in_list all) []) (λ vss. ret (record { value = v; cells = vss }))) s u u v (Ok v) h
      (then_shows (λ a. a) (value_returned all) (back_cells w (in_list all) []) (λ vss. ret (record { value = v; cells = vss })) u u u (map (λ _. []) all) (Ok v) (refl, stays, λ input told. none_kept w all [] (facing input u.state)) (refl, stays, λ input told. refl))
  carried_given (Err e) s u h = goes_ends (λ a. a) (value_returned all) _ (walk.function_value w d sub nested) (λ v. bind (back_cells w (in_list all) []) (λ vss. ret (record { value = v; cells = vss }))) s s u e (goes_refl _ s) h

  pub scalars_none : (rest : List InScalar) (r : Result ℤ End) (s u : Image) → length rest ≡ 0 → Shows Tells (walk.function_value w d sub nested) r s u → ShowsAs (value_returned all) Tells (walk.with_formals w d sub nested (in_list all) (in_list rest)) r s u
  unfolding walk.with_formals
  scalars_none [] r s u none h = carried_given r s u h
  scalars_none (p ∷ ps) r s u none h = absurd (omega (arith, none))

  module _ (p : InScalar) (ps rest : List InScalar) (is : rest ≡ p ∷ ps) where
    pub scalars_more : (mark : Mark) (r : Result ℤ End) (s t u : Image) → Begins paths.Here (object.Constant p.formal) (p.value ∷ []) (Ok mark) s t → ShowsAs (value_returned all) Tells (walk.with_formals w d sub nested (in_list all) (in_list ps)) r t u
        → ShowsAs (value_returned all) Tells (walk.with_formals w d sub nested (in_list all) (in_list rest)) r s (finished paths.Here (object.Constant p.formal) mark u)
    unfolding walk.with_formals
    scalars_more mark r s t u b h =
        subst (λ z. ShowsAs (value_returned all) Tells (walk.with_formals w d sub nested (in_list all) (in_list z)) r s (finished paths.Here (object.Constant p.formal) mark u)) (sym is)
        (elaborates_shows (value_returned all) paths.Here (object.Constant p.formal) (p.value ∷ []) (walk.with_formals w d sub nested (in_list all) (in_list ps)) mark r s t u b h)

    pub scalars_fail : (e : End) (r : Result ℤ End) (s t : Image) → r ≡ Err e → Begins paths.Here (object.Constant p.formal) (p.value ∷ []) (Err e) s t → ShowsAs (value_returned all) Tells (walk.with_formals w d sub nested (in_list all) (in_list rest)) r s t
    unfolding walk.with_formals
    scalars_fail e r s t q b =
        subst (λ z. ShowsAs (value_returned all) Tells (walk.with_formals w d sub nested (in_list all) (in_list rest)) z s t) (sym q) (subst (λ z. ShowsAs (value_returned all) Tells (walk.with_formals w d sub nested (in_list all) (in_list z)) (Err e) s t) (sym is)
        (elaborates_fails (value_returned all) paths.Here (object.Constant p.formal) (p.value ∷ []) (walk.with_formals w d sub nested (in_list all) (in_list ps)) e s t b))

-- a value that is written in 64 bits
pub same_value : {Tells : List ℕ → Outside → Type 0} (given : List InScalar) (m : Stored meaning.Returned) (v z : ℤ) (s t : Image) → z ≡ v → ShowsAs (value_returned given) Tells m (Ok v) s t → ShowsAs (value_returned given) Tells m (Ok z) s t
same_value {Tells = Tells} given m v z s t e h = subst (λ y. ShowsAs (value_returned given) Tells m (Ok y) s t) (sym e) h

pub procedure_given : {Tells : List ℕ → Outside → Type 0} (w : Work) (d number : ℕ) (as' : Actuals) (env : Env) (given ps : List InScalar) (nested : ℕ) (v : ℤ) (s t : Image) → GivesAs in_list Tells (walk.pass w d as' env []) s (Some given) → ps ≡ given → nested ≡ env.nested
    → ShowsAs (value_returned ps) Tells (calls_of w d nested number (ret {A = Unit {0}} tt) (in_list ps)) (Ok v) s t → Shows Tells (walk.call_procedure w d number as' env) (Ok tt) s t
procedure_given {Tells = Tells} w d number as' env given ps nested v s t gives are is h =
    then_shows in_list (λ a. a) (walk.pass w d as' env []) (λ passed. bind (calls_of w d env.nested number (ret {A = Unit {0}} tt) passed) (λ r. all_copied_back w d passed r.cells)) s s t given (Ok tt) (refl, stays, gives)
    (then_shows (value_returned given) (λ a. a) (calls_of w d env.nested number (ret {A = Unit {0}} tt) (in_list given)) (λ r. all_copied_back w d (in_list given) r.cells) s t t v (Ok tt) so (refl, stays, λ input told. none_copied w d given (facing input t.state)))
  where
    so : ShowsAs (value_returned given) Tells (calls_of w d env.nested number (ret {A = Unit {0}} tt) (in_list given)) (Ok v) s t
    so = subst (λ z. ShowsAs (value_returned z) Tells (calls_of w d env.nested number (ret {A = Unit {0}} tt) (in_list z)) (Ok v) s t) are (subst (λ z. ShowsAs (value_returned ps) Tells (calls_of w d z number (ret {A = Unit {0}} tt) (in_list ps)) (Ok v) s t) is h)
