-- Actual parameters, one after the other.
use Rattle.std.proofs.Common.{◌≡◌, ◌⊎◌, ℕ, ℤ, List, [], ◌∷◌, ◌++◌, inl, inr, true, None, refl, sym, subst, ap, ◌∙◌}
use Rattle.std.specs.Prelude.{Result, Ok, Err}
use Rattle.std.proofs.lemmas.List.{map-append}
use Rattle.typed_tree.specs.declared.expressions.Actual.{Actual}
use Rattle.typed_tree.specs.declared.expressions.Actual.TheVariants as actual
use Rattle.typed_tree.specs.declared.scalars.Check.{Check}
use Rattle.typed_tree.specs.Syntax.{Actuals, NoActual, Expr, Value, Number}
use Rattle.typed_tree.specs.Decoded.{part_at, of_actual}
use Rattle.behaviours.specs.Paths.{ConstantOf}
use Rattle.ada_meaning.specs.Values.{is_in}
use Rattle.ada_meaning.specs.Meaning as meaning
use Rattle.ada_meaning.specs.Meaning.{Env}
use Rattle.ada_meaning.specs.Stored.{State, Stored, Cause, Outage, Stops, at, next, next_halts, ret, bind}
use Rattle.run_values.specs.declared.ends.End.{End}
use Rattle.run_values.specs.declared.ends.End.TheVariants as end
use Rattle.run_store.specs.declared.objects.Object.TheVariants as object
use Rattle.run_outside.specs.Outside.{Outside}
use Rattle.run_store.specs.Shows.{Image, facing, Goes, ShowsAs, Shows}
use Rattle.run_store.proofs.Going.{stays, goes_then, goes_ends, goes_fails, goes_gives, then_shows}
use Rattle.run_parts.specs.declared.work.Work.{Work}
use Rattle.run_parts.specs.declared.passed.Passed.{Passed}
use Rattle.run_parts.specs.Passing.{passed_of, passed_list}
use Rattle.run_parts.specs.Words.{nodes_of, ops, read_all}
use Rattle.run_walk.specs.Walk as walk

-- the last node that an actual parameter goes by
abbrev pub actual_top : Actual → ℕ
actual_top (actual.In formal v) = v
actual_top (actual.InOut formal at root selections inner outer) = selections
actual_top (actual.Out formal at root selections inner outer) = selections
actual_top (actual.CompositeInOut formal at root selections subtype) = selections
actual_top (actual.CompositeOut formal at root selections subtype) = selections

-- ---- a part whose end is a part of its own

record Ends {A : Type 0} (m n : Stored A) : Type 0 where
  same : (s : State) → m.does s ≡ n.does s
  stops : (s : State) (f : Outage) (t : State) → Stops n s f t → Stops m s f t

at_once : {B C : Type 0} (b : B) (k : B → Stored C) → Ends (k b) (bind (ret b) k)
unfolding bind ret
at_once b k = record { same = λ s. refl; stops = go }
  where
    go : (s : State) (f : Outage) (t : State) → Stops (bind (ret b) k) s f t → Stops (k b) s f t
    go s f t (inl h) = inl h
    go s f t (inr (inl (inl h))) = inl h
    go s f t (inr (inl (inr h))) = absurd h
    go s f t (inr (inr h)) = h

module _ {A B C : Type 0} (m : Stored A) (g : A → Stored B) (k : B → Stored C) (f : A → Stored C) (part : (a : A) → Ends (f a) (bind (g a) k)) where
  then_same : (s : State) (e : Result A Cause) → next s e f ≡ next (next s e g).state (next s e g).end k
  unfolding bind
  then_same s (Ok a) = (part a).same s
  then_same s (Err c) = refl

  then_halts : (s : State) (e : Result A Cause) (x : Outage) (t : State) → next_halts s e g x t ⊎ next_halts (next s e g).state (next s e g).end k x t → next_halts s e f x t
  unfolding bind
  then_halts s (Ok a) x t h = (part a).stops s x t (inr h)
  then_halts s (Err c) x t (inl h) = absurd h
  then_halts s (Err c) x t (inr h) = absurd h

  behind : Ends (bind m f) (bind (bind m g) k)
  unfolding bind
  behind = record { same = λ s. then_same (m.does s).state (m.does s).end; stops = go }
    where
      go : (s : State) (x : Outage) (t : State) → Stops (bind (bind m g) k) s x t → Stops (bind m f) s x t
      go s x t (inl h) = inl h
      go s x t (inr (inl (inl h))) = inl h
      go s x t (inr (inl (inr (inl h)))) = inr (inl h)
      go s x t (inr (inl (inr (inr h)))) = inr (inr (then_halts (m.does s).state (m.does s).end x t (inl h)))
      go s x t (inr (inr h)) = inr (inr (then_halts (m.does s).state (m.does s).end x t (inr h)))

-- ---- one, and those behind it

module _ (w : Work) (d : ℕ) (env : Env) (so_far : List meaning.Passed) (rest : Actuals) where
  abbrev others : meaning.Passed → Stored (List meaning.Passed)
  others p = walk.pass w d rest env (so_far ++ (p ∷ []))

  one_first : (a : Actual) → Ends (walk.pass w d (of_actual (part_at (nodes_of w)) a rest) env so_far) (bind (walk.one_passed w d a env) others)
  unfolding walk.pass walk.select walk.cells read_all
  one_first (actual.In f v) = behind _ _ _ _ (λ cs. at_once _ _)
  one_first (actual.InOut f at r ss i o) = behind _ _ _ _ (λ p. behind _ _ _ _ (λ v. behind _ _ _ _ (λ u. at_once _ _)))
  one_first (actual.Out f at r ss i o) = behind _ _ _ _ (λ p. at_once _ _)
  one_first (actual.CompositeInOut f at r ss n) = behind _ _ _ _ (λ p. behind _ _ _ _ (λ vs. at_once _ _))
  one_first (actual.CompositeOut f at r ss n) = behind _ _ _ _ (λ p. behind _ _ _ _ (λ vs. at_once _ _))

module _ {Tells : List ℕ → Outside → Type 0} (whole : Stored (List meaning.Passed)) (s t : Image) (w : Work) (d : ℕ) (env : Env) (so_far : List meaning.Passed) (all rest : Actuals) (g : Goes Tells whole s (walk.pass w d all env so_far) t) where
  module _ (a : Actual) (is : all ≡ of_actual (part_at (nodes_of w)) a rest) (u : Image) where
    more : Goes Tells whole s (bind (walk.one_passed w d a env) (others w d env so_far rest)) t
    more =
        let h = subst (λ z. Goes Tells whole s (walk.pass w d z env so_far) t) is g in let e = one_first w d env so_far rest a in
        record { faults = h.faults; keeps = h.keeps; same = λ x told. h.same x told ∙ e.same (facing x t.state); stops = λ x told f u k. h.stops x told f u (e.stops (facing x t.state) f u k) }

    pub pass_step : (one : Passed) (now : List meaning.Passed) → ShowsAs (passed_of w) Tells (walk.one_passed w d a env) (Ok one) t u → now ≡ so_far ++ (passed_of w one ∷ []) → Goes Tells whole s (walk.pass w d rest env now) u
    pass_step one now h q = subst (λ z. Goes Tells whole s (walk.pass w d rest env z) u) (sym q) (goes_then (passed_of w) (passed_list w) whole (walk.one_passed w d a env) (others w d env so_far rest) s t u one more h)

    pub pass_ends : (e : End) (r : Result (List Passed) End) → r ≡ Err e → ShowsAs (passed_of w) Tells (walk.one_passed w d a env) (Err e) t u → ShowsAs (passed_list w) Tells whole r s u
    pass_ends e r q h = subst (λ z. ShowsAs (passed_list w) Tells whole z s u) (sym q) (goes_ends (passed_of w) (passed_list w) whole (walk.one_passed w d a env) (others w d env so_far rest) s t u e more h)

    -- no memory to hold it
    pub pass_fails : (one : Passed) → ShowsAs (passed_of w) Tells (walk.one_passed w d a env) (Ok one) t u → ShowsAs (passed_list w) Tells whole (Err end.NoMemory) s u
    pass_fails one h = goes_fails (passed_list w) whole _ s u (pass_step one _ h refl)

pub one_more : (w : Work) (ps now : List Passed) (one : Passed) → now ≡ ps ++ (one ∷ []) → passed_list w now ≡ passed_list w ps ++ (passed_of w one ∷ [])
one_more w ps now one e = ap (passed_list w) e ∙ map-append (passed_of w) ps (one ∷ [])

pub pass_done : {Tells : List ℕ → Outside → Type 0} (whole : Stored (List meaning.Passed)) (s t : Image) (w : Work) (d : ℕ) (env : Env) (ps : List Passed) (all : Actuals) → all ≡ NoActual → Goes Tells whole s (walk.pass w d all env (passed_list w ps)) t → ShowsAs (passed_list w) Tells whole (Ok ps) s t
unfolding walk.pass
pass_done {Tells = Tells} whole s t w d env ps all e g = goes_gives (passed_list w) whole ps s t (subst (λ z. Goes Tells whole s (walk.pass w d z env (passed_list w ps)) t) e g)

-- a number that is passed in
pub number_in : {Tells : List ℕ → Outside → Type 0} (w : Work) (d : ℕ) (env : Env) (formal : ℕ) (check : Check) (e : Expr) (v : Value) (x z : ℤ) (cs : List ℤ) (s u : Image) → Shows Tells (walk.eval w d e env) (Ok x) s u → is_in check.scalar x ≡ true → v ≡ Number check e → cs ≡ z ∷ [] → z ≡ x
    → ShowsAs (passed_of w) Tells (walk.in_passed w d formal v env) (Ok (record { formal = object.Constant formal; cells = cs; back = None })) s u
unfolding walk.cells walk.eval ret
number_in {Tells = Tells} w d env formal check e v x z cs s u h within is one same =
    subst (λ z. ShowsAs (passed_of w) Tells (walk.in_passed w d formal z env) (Ok (record { formal = object.Constant formal; cells = cs; back = None })) s u) (sym is)
    (then_shows (λ a. a) (passed_of w) (walk.number w d check e env) (λ cs. ret (record { formal = ConstantOf formal; cells = cs; back = None })) s u u (x ∷ []) (Ok (record { formal = object.Constant formal; cells = cs; back = None }))
    (then_shows (λ a. a) (λ a. a) (walk.eval w d e env) (λ v. bind (meaning.checked (ops w) check v) (λ _. ret (v ∷ []))) s u u x (Ok (x ∷ [])) h
    (then_shows (λ a. a) (λ a. a) (meaning.checked (ops w) check x) (λ _. ret (x ∷ [])) u u u tt (Ok (x ∷ [])) (refl, stays, λ input told. rw within refl) (refl, stays, λ input told. refl)))
    (refl, stays, λ input told. ap (λ z. at (facing input u.state) (Ok (record { formal = ConstantOf formal; cells = z; back = None }))) (sym (one ∙ ap (λ z. z ∷ []) same))))
