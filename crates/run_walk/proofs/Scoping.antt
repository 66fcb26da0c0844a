-- Calls and declarations, a part at a time.
use Rattle.std.proofs.Common.{◌≡◌, ℕ, zero, suc, ◌-◌, ◌≤◌, arith, ℤ, List, [], ◌∷◌, Option, Some, None, slice_get, refl, sym, subst, ◌∙◌}
use Rattle.std.specs.Prelude.{Result, Ok, Err}
use Rattle.ada_base.specs.declared.reason.Reason.TheVariants as reason
use Rattle.behaviours.specs.Paths as paths
use Rattle.typed_tree.specs.declared.program.Object as tree-object
use Rattle.typed_tree.specs.Syntax.{Sub, Body, Decls, DeclareDefault, DeclareVariable, DeclareConstant, Stmts, Handlers, Value}
use Rattle.typed_tree.specs.Programs.{program}
use Rattle.ada_meaning.specs.Values.{defaults}
use Rattle.ada_meaning.specs.Meaning as meaning
use Rattle.ada_meaning.specs.Meaning.{Env, sub_at, object_layout}
use Rattle.ada_meaning.specs.Stored.{ret, bind, leaves, elaborates, apart}
use Rattle.run_outside.specs.Outside.{Outside}
use Rattle.run_store.specs.Shows.{Image, ShowsAs, Shows, Begins, finished, Enters, unframed}
use Rattle.run_store.specs.declared.objects.Mark.{Mark}
use Rattle.run_values.specs.declared.ends.End.{End}
use Rattle.run_store.specs.declared.objects.Object.TheVariants as object
use Rattle.run_store.proofs.Going.{stays, goes_refl, goes_ends, then_shows, same_shows, elaborates_shows, elaborates_fails, apart_shows, apart_fails}
use Rattle.run_parts.specs.declared.work.Work.{Work}
use Rattle.run_parts.specs.declared.passed.Passed.{Passed}
use Rattle.run_parts.specs.declared.passed.Returned.{Returned}
use Rattle.run_parts.specs.Passing.{passed_list, returned_of}
use Rattle.run_parts.specs.Words.{object_defaults, turned, calls_of, back_cells, ops}
use Rattle.run_walk.specs.Walk as walk

module _ {Tells : List ℕ → Outside → Type 0} {C : Type 0} (f : C → meaning.Returned) (w : Work) (d number nested : ℕ) (passed : List meaning.Passed) (sub : Sub) (is : sub_at (program w.typed.now).subs number ≡ Some sub) where
  called_as : (r : Result C End) (s u : Image) → ShowsAs f Tells (apart (walk.with_formals w d sub nested passed passed)) r s u → ShowsAs f Tells (walk.called w d number nested passed) r s u
  called_as r s u h = subst (λ z. ShowsAs f Tells (walk.called_sub w d z nested passed) r s u) (sym is) h

  pub called_more : (before : ℕ) (r : Result C End) (s t u : Image) → Enters (Ok before) s t → ShowsAs f Tells (walk.with_formals w d sub nested passed passed) r t u → ShowsAs f Tells (walk.called w d number nested passed) r s (unframed before u)
  called_more before r s t u b h = called_as r s (unframed before u) (apart_shows f (walk.with_formals w d sub nested passed passed) before r s t u b h)

  pub called_fails : (e : End) (r : Result C End) (s t : Image) → r ≡ Err e → Enters (Err e) s t → ShowsAs f Tells (walk.called w d number nested passed) r s t
  called_fails e r s t q b = subst (λ z. ShowsAs f Tells (walk.called w d number nested passed) z s t) (sym q) (called_as (Err e) s t (apart_fails f (walk.with_formals w d sub nested passed passed) e s t b))

module _ {Tells : List ℕ → Outside → Type 0} (w : Work) (d nested : ℕ) (sub : Sub) (all : List meaning.Passed) where
  pub formals_none : (rest : List Passed) (r : Result Returned End) (s u : Image) → rest ≡ [] → ShowsAs returned_of Tells (walk.carried_out w d sub nested all) r s u → ShowsAs returned_of Tells (walk.with_formals w d sub nested all (passed_list w rest)) r s u
  unfolding walk.with_formals
  formals_none rest r s u e h = subst (λ z. ShowsAs returned_of Tells (walk.with_formals w d sub nested all (passed_list w z)) r s u) (sym e) h

  module _ (p : Passed) (ps rest : List Passed) (is : rest ≡ p ∷ ps) where
    pub formals_more : (mark : Mark) (r : Result Returned End) (s t u : Image) → Begins paths.Here p.formal p.cells (Ok mark) s t → ShowsAs returned_of Tells (walk.with_formals w d sub nested all (passed_list w ps)) r t u
        → ShowsAs returned_of Tells (walk.with_formals w d sub nested all (passed_list w rest)) r s (finished paths.Here p.formal mark u)
    unfolding walk.with_formals
    formals_more mark r s t u b h =
        subst (λ z. ShowsAs returned_of Tells (walk.with_formals w d sub nested all (passed_list w z)) r s (finished paths.Here p.formal mark u)) (sym is)
        (elaborates_shows returned_of paths.Here p.formal p.cells (walk.with_formals w d sub nested all (passed_list w ps)) mark r s t u b h)

    pub formals_fails : (e : End) (r : Result Returned End) (s t : Image) → r ≡ Err e → Begins paths.Here p.formal p.cells (Err e) s t → ShowsAs returned_of Tells (walk.with_formals w d sub nested all (passed_list w rest)) r s t
    unfolding walk.with_formals
    formals_fails e r s t q b =
        subst (λ z. ShowsAs returned_of Tells (walk.with_formals w d sub nested all (passed_list w rest)) z s t) (sym q) (subst (λ z. ShowsAs returned_of Tells (walk.with_formals w d sub nested all (passed_list w z)) (Err e) s t) (sym is)
        (elaborates_fails returned_of paths.Here p.formal p.cells (walk.with_formals w d sub nested all (passed_list w ps)) e s t b))

first_cells : (w : Work) (x : ℕ) → defaults (object_layout (program w.typed.now) x) ≡ object_defaults w x
first_cells w x = go (slice_get w.typed.now.objects x) refl
  where
    go : (o : Option tree-object.Object) → slice_get w.typed.now.objects x ≡ o → defaults (object_layout (program w.typed.now) x) ≡ object_defaults w x
    go None e = rw e refl
    go (Some o) e = rw e refl

module _ {Tells : List ℕ → Outside → Type 0} (w : Work) (d : ℕ) (region : paths.Region) (ss : Stmts) (hs : Handlers) (env : Env) (ds more : Decls) (x : ℕ) where
  -- a variable without an initial value
  module _ (is : ds ≡ DeclareDefault x more) (vs : List ℤ) (are : vs ≡ object_defaults w x) where
    default_as : (r : Result (Unit {0}) End) (s u : Image) → Shows Tells (elaborates region (paths.VariableOf x) vs (walk.block w d more region ss hs env)) r s u → Shows Tells (walk.block w d ds region ss hs env) r s u
    unfolding walk.block
    default_as r s u h =
        subst (λ z. Shows Tells (walk.block w d z region ss hs env) r s u) (sym is)
        (subst (λ z. Shows Tells (elaborates region (paths.VariableOf x) z (walk.block w d more region ss hs env)) r s u) (are ∙ sym (first_cells w x)) h)

    pub default_more : (mark : Mark) (r : Result (Unit {0}) End) (s t u : Image) → Begins region (object.Variable x) vs (Ok mark) s t → Shows Tells (walk.block w d more region ss hs env) r t u → Shows Tells (walk.block w d ds region ss hs env) r s (finished region (object.Variable x) mark u)
    default_more mark r s t u b h = default_as r s (finished region (object.Variable x) mark u) (elaborates_shows (λ a. a) region (object.Variable x) vs (walk.block w d more region ss hs env) mark r s t u b h)

    pub default_fails : (e : End) (r : Result (Unit {0}) End) (s t : Image) → r ≡ Err e → Begins region (object.Variable x) vs (Err e) s t → Shows Tells (walk.block w d ds region ss hs env) r s t
    default_fails e r s t q b = subst (λ z. Shows Tells (walk.block w d ds region ss hs env) z s t) (sym q) (default_as (Err e) s t (elaborates_fails (λ a. a) region (object.Variable x) vs (walk.block w d more region ss hs env) e s t b))

  module _ (v : Value) where
    module _ (is : ds ≡ DeclareVariable x v more) where
      variable_as : (r : Result (Unit {0}) End) (s u : Image) → Shows Tells (bind (walk.cells w d v env) (λ cs. elaborates region (paths.VariableOf x) cs (walk.block w d more region ss hs env))) r s u → Shows Tells (walk.block w d ds region ss hs env) r s u
      unfolding walk.block walk.cells
      variable_as r s u h = subst (λ z. Shows Tells (walk.block w d z region ss hs env) r s u) (sym is) h

      pub variable_ends : (e : End) (r : Result (Unit {0}) End) (s t : Image) → r ≡ Err e → Shows Tells (walk.cells w d v env) (Err e) s t → Shows Tells (walk.block w d ds region ss hs env) r s t
      variable_ends e r s t q h =
          subst (λ z. Shows Tells (walk.block w d ds region ss hs env) z s t) (sym q)
          (variable_as (Err e) s t (goes_ends (λ a. a) (λ a. a) _ (walk.cells w d v env) (λ cs. elaborates region (paths.VariableOf x) cs (walk.block w d more region ss hs env)) s s t e (goes_refl _ s) h))

      pub variable_more : (vs : List ℤ) (mark : Mark) (r : Result (Unit {0}) End) (s s' t u : Image) → Shows Tells (walk.cells w d v env) (Ok vs) s s' → Begins region (object.Variable x) vs (Ok mark) s' t → Shows Tells (walk.block w d more region ss hs env) r t u
          → Shows Tells (walk.block w d ds region ss hs env) r s (finished region (object.Variable x) mark u)
      variable_more vs mark r s s' t u c b h =
          variable_as r s (finished region (object.Variable x) mark u)
          (then_shows (λ a. a) (λ a. a) (walk.cells w d v env) (λ cs. elaborates region (paths.VariableOf x) cs (walk.block w d more region ss hs env)) s s' (finished region (object.Variable x) mark u) vs r c
          (elaborates_shows (λ a. a) region (object.Variable x) vs (walk.block w d more region ss hs env) mark r s' t u b h))

      pub variable_fails : (vs : List ℤ) (e : End) (r : Result (Unit {0}) End) (s s' t : Image) → r ≡ Err e → Shows Tells (walk.cells w d v env) (Ok vs) s s' → Begins region (object.Variable x) vs (Err e) s' t → Shows Tells (walk.block w d ds region ss hs env) r s t
      variable_fails vs e r s s' t q c b =
          subst (λ z. Shows Tells (walk.block w d ds region ss hs env) z s t) (sym q)
          (variable_as (Err e) s t (then_shows (λ a. a) (λ a. a) (walk.cells w d v env) (λ cs. elaborates region (paths.VariableOf x) cs (walk.block w d more region ss hs env)) s s' t vs (Err e) c
          (elaborates_fails (λ a. a) region (object.Variable x) vs (walk.block w d more region ss hs env) e s' t b)))

    module _ (is : ds ≡ DeclareConstant x v more) where
      constant_as : (r : Result (Unit {0}) End) (s u : Image) → Shows Tells (bind (walk.cells w d v env) (λ cs. elaborates region (paths.ConstantOf x) cs (walk.block w d more region ss hs env))) r s u → Shows Tells (walk.block w d ds region ss hs env) r s u
      unfolding walk.block walk.cells
      constant_as r s u h = subst (λ z. Shows Tells (walk.block w d z region ss hs env) r s u) (sym is) h

      pub constant_ends : (e : End) (r : Result (Unit {0}) End) (s t : Image) → r ≡ Err e → Shows Tells (walk.cells w d v env) (Err e) s t → Shows Tells (walk.block w d ds region ss hs env) r s t
      constant_ends e r s t q h =
          subst (λ z. Shows Tells (walk.block w d ds region ss hs env) z s t) (sym q)
          (constant_as (Err e) s t (goes_ends (λ a. a) (λ a. a) _ (walk.cells w d v env) (λ cs. elaborates region (paths.ConstantOf x) cs (walk.block w d more region ss hs env)) s s t e (goes_refl _ s) h))

      pub constant_more : (vs : List ℤ) (mark : Mark) (r : Result (Unit {0}) End) (s s' t u : Image) → Shows Tells (walk.cells w d v env) (Ok vs) s s' → Begins region (object.Constant x) vs (Ok mark) s' t → Shows Tells (walk.block w d more region ss hs env) r t u
          → Shows Tells (walk.block w d ds region ss hs env) r s (finished region (object.Constant x) mark u)
      constant_more vs mark r s s' t u c b h =
          constant_as r s (finished region (object.Constant x) mark u)
          (then_shows (λ a. a) (λ a. a) (walk.cells w d v env) (λ cs. elaborates region (paths.ConstantOf x) cs (walk.block w d more region ss hs env)) s s' (finished region (object.Constant x) mark u) vs r c
          (elaborates_shows (λ a. a) region (object.Constant x) vs (walk.block w d more region ss hs env) mark r s' t u b h))

      pub constant_fails : (vs : List ℤ) (e : End) (r : Result (Unit {0}) End) (s s' t : Image) → r ≡ Err e → Shows Tells (walk.cells w d v env) (Ok vs) s s' → Begins region (object.Constant x) vs (Err e) s' t → Shows Tells (walk.block w d ds region ss hs env) r s t
      constant_fails vs e r s s' t q c b =
          subst (λ z. Shows Tells (walk.block w d ds region ss hs env) z s t) (sym q)
          (constant_as (Err e) s t (then_shows (λ a. a) (λ a. a) (walk.cells w d v env) (λ cs. elaborates region (paths.ConstantOf x) cs (walk.block w d more region ss hs env)) s s' t vs (Err e) c
          (elaborates_fails (λ a. a) region (object.Constant x) vs (walk.block w d more region ss hs env) e s' t b)))

-- ---- bodies and calls

pub body_as : {Tells : List ℕ → Outside → Type 0} (w : Work) (d : ℕ) (b : Body) (ds : Decls) (ss : Stmts) (hs : Handlers) (region : paths.Region) (env : Env) (r : Result (Unit {0}) End) (s t : Image) → b ≡ record { decls = ds; stmts = ss; handlers = hs }
    → Shows Tells (walk.block w d ds region ss hs env) r s t → Shows Tells (walk.body w d b region env) r s t
unfolding walk.block walk.exec_all walk.exec_handler
body_as {Tells = Tells} w d b ds ss hs region env r s t e h = subst (λ (z : Body). Shows Tells (walk.body w d z region env) r s t) (sym e) h

pub sub_as : (w : Work) (d : ℕ) (o : Option Sub) (nested : ℕ) (passed : List meaning.Passed) → meaning.exec_sub (ops w) w.limit (program w.typed.now) (calls_of w d) o nested passed ≡ walk.called_sub w d o nested passed
unfolding walk.with_formals back_cells
sub_as w d None nested passed = refl
sub_as w d (Some sub) nested passed = refl

module _ {Tells : List ℕ → Outside → Type 0} {C : Type 0} (f : C → meaning.Returned) (w : Work) (nested number : ℕ) (passed : List meaning.Passed) (s t : Image) where
  pub call_ends : (d : ℕ) (e : End) (r : Result C End) → r ≡ Err e → Shows Tells (turned w) (Err e) s t → ShowsAs f Tells (calls_of w d nested number (ret {A = Unit {0}} tt) passed) r s t
  unfolding calls_of
  call_ends zero e r q h = subst (λ z. ShowsAs f Tells (calls_of w zero nested number (ret {A = Unit {0}} tt) passed) z s t) (sym q) (goes_ends (λ a. a) f _ (turned w) (λ _. leaves (paths.Raises reason.StorageError)) s s t e (goes_refl _ s) h)
  call_ends (suc d) e r q h =
      subst (λ z. ShowsAs f Tells (calls_of w (suc d) nested number (ret {A = Unit {0}} tt) passed) z s t) (sym q)
      (goes_ends (λ a. a) f _ (turned w) (λ _. bind (ret {A = Unit {0}} tt) (λ _. meaning.exec_sub (ops w) w.limit (program w.typed.now) (calls_of w d) (sub_at (program w.typed.now).subs number) nested passed)) s s t e (goes_refl _ s) h)

  pub call_step : (d : ℕ) (r : Result C End) (u : Image) → 1 ≤ d → Shows Tells (turned w) (Ok tt) s t → ShowsAs f Tells (walk.called w (d - 1) number nested passed) r t u → ShowsAs f Tells (calls_of w d nested number (ret {A = Unit {0}} tt) passed) r s u
  unfolding calls_of ret
  call_step zero r u le h k = absurd (omega (arith, le))
  call_step (suc d) r u le h k =
      let m : suc d - 1 ≡ d = omega arith in
      let k' = subst (λ z. ShowsAs f Tells (walk.called w z number nested passed) r t u) m k in
      then_shows (λ a. a) f (turned w) (λ _. bind (ret {A = Unit {0}} tt) (λ _. meaning.exec_sub (ops w) w.limit (program w.typed.now) (calls_of w d) (sub_at (program w.typed.now).subs number) nested passed)) s t u tt r h
      (then_shows (λ a. a) f (ret {A = Unit {0}} tt) (λ _. meaning.exec_sub (ops w) w.limit (program w.typed.now) (calls_of w d) (sub_at (program w.typed.now).subs number) nested passed) t t u tt r (refl, stays, λ input told. refl)
      (same_shows f _ (walk.called w d number nested passed) r t u (sub_as w d (sub_at (program w.typed.now).subs number) nested passed) k'))
