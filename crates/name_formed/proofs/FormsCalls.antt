-- What is found is formed: calls and conversions.
use Rattle.ada_meaning.specs.Formed.{FormedActuals, FormedSelections, Spans}
use Rattle.ada_meaning.specs.Shapes.{cells_of, size}
use Rattle.std.proofs.Common.{◌≡◌, refl, sym, subst, ◌<◌, ◌≤◌, eqb-true, ℕ, List, [], ◌∷◌, ◌++◌, length, Option, Some, None, Bool, true, false, if◌then◌else◌, ◌==◌, ◌+◌}
use Rattle.std.specs.Prelude.{is_some, ◌||◌}
use Rattle.syntax_tree.specs.FirstTokens as first_token
use Rattle.syntax_tree.specs.Syntax as syntax
use Rattle.syntax_tree.specs.Syntax.{Arg, Args, Expr}
use Rattle.typed_tree.specs.Decoded as part
use Rattle.typed_tree.specs.Decoded.{TypedPart, as_actual, as_actuals, as_value}
use Rattle.typed_tree.specs.Latest.{turned}
use Rattle.typed_tree.specs.Syntax as typed
use Rattle.typed_tree.specs.Syntax.{Actuals}
use Rattle.typed_tree.specs.declared.program.Mode.TheVariants as mode
use Rattle.typed_tree.specs.declared.program.Mode.{Mode}
use Rattle.name_rules.specs.Calls.{Calling, actual_by, actual_for, also_taken, arg_names, argument, arguments, begun_call, call_given, complete, found_or_unknown, composite_actual, conversion, conversion_of, converted, given_once, gives_in, is_out, late_at, one_operand, operands, parameter_of, place_given, profile_in, scalar_actual, scalar_conversion, sub_call, taken_at, takes_in, variable_form, variable_given, with_actual, with_operand}
use Rattle.name_rules.specs.Expressions.{Inside, expr, judged_alone, value_for}
use Rattle.name_rules.specs.Found.{Found}
use Rattle.name_rules.specs.Judging.{◌>>=◌, fault, given, pure, read, some}
use Rattle.name_rules.specs.TypedParts.{also, selections_of}
use Rattle.name_rules.specs.Types.{is_integer, same, typed_scalar, wanted_of}
use Rattle.name_rules.specs.Values.{first_of, is_number, settled_found, own_kind}
use Rattle.name_rules.specs.declared.found.Found.TheVariants as known
use Rattle.name_rules.specs.declared.found.Found.{Found as Known}
use Rattle.name_rules.specs.declared.found.ObjectName.{ObjectName}
use Rattle.name_rules.specs.declared.log.Rule.TheVariants.{Twice, Unknown, WrongType}
use Rattle.name_rules.specs.declared.log.Taken.{Taken}
use Rattle.name_rules.specs.declared.scope.Context.{Context}
use Rattle.name_rules.specs.declared.scope.Names.{Names}
use Rattle.name_rules.specs.declared.types.Scalar.{Scalar}
use Rattle.name_rules.specs.declared.types.Subtype.{Subtype}
use Rattle.name_rules.specs.declared.types.Subtype.TheVariants as subtype
use Rattle.name_rules.specs.declared.types.Wanted.TheVariants as wanted
use Rattle.name_formed.proofs.Forms.{Any, Forms, Maybe, Sight, World, f-bind, f-fault, f-given, f-if, f-none, f-pure, f-read, f-some, f-test, f-unless, f-weaken, f-where_clean, joint, shape_of}
use Rattle.name_formed.proofs.FormsExpressions.{f-expr, f-judged_alone, f-value_for}
use Rattle.name_formed.proofs.FormsFound.{Around, DenotedOf, Each, ExprOf, Finding, FoundOf, KnownOf, LevelForms, ValueOf, each-turned}
use Rattle.name_formed.proofs.FormsNames.{f-wrong_call}
use Rattle.name_formed.proofs.FormsValues.{VariableOf, all-cells, as-variable, f-settled_found, one-cell}

module _ (W : World) (V : Sight) where
  -- ---- actual parameters

  abbrev pub IsActual : TypedPart → Type 0
  IsActual p = (as' : Actuals) → FormedActuals W.program V.known as' → FormedActuals W.program V.known (as_actual p as')

  actuals-list : (x : TypedPart) → Each IsActual x → FormedActuals W.program V.known (as_actuals x)
  actuals-list (part.Cons p q) h = h.0 (as_actuals q) (actuals-list q h.1)
  actuals-list x h = tt

  actuals-fit : (x : TypedPart) → Each IsActual x → FormedActuals W.program V.known (as_actuals (turned x))
  actuals-fit x h = actuals-list (turned x) (each-turned IsActual x h)

  scalar-actual : (t : Taken) (s : Scalar) (p : ObjectName) (x : TypedPart) (u : Scalar) → Spans W.program V.known p.root (selections_of x) 1 → FormedSelections W.program V.known (selections_of x) → IsActual (scalar_actual t s p (selections_of x) u)
  scalar-actual t s p x u h g as' r = by (is_out t.mode)
    where
      by : (b : Bool) → FormedActuals W.program V.known (as_actual (part.AnActual (if b then typed.Out t.object p.first p.root (selections_of x) (typed_scalar s) (typed_scalar u) else typed.InOut t.object p.first p.root (selections_of x) (typed_scalar s) (typed_scalar u))) as')
      by true = (h, g, r)
      by false = (h, g, r)

  composite-actual : (t : Taken) (p : ObjectName) (x : TypedPart) (n : ℕ) → Spans W.program V.known p.root (selections_of x) (cells_of W.program.subtypes n) → FormedSelections W.program V.known (selections_of x) → IsActual (composite_actual t p (selections_of x) n)
  composite-actual t p x n h g as' r = by (is_out t.mode)
    where
      by : (b : Bool) → FormedActuals W.program V.known (as_actual (part.AnActual (if b then typed.CompositeOut t.object p.first p.root (selections_of x) n else typed.CompositeInOut t.object p.first p.root (selections_of x) n)) as')
      by true = (h, g, r)
      by false = (h, g, r)

  f-place_given : (t : Taken) (p : ObjectName) (x : TypedPart) (s u : Subtype) → p.subtype ≡ u → VariableOf W V p x → Forms W V (Maybe IsActual) (place_given t p (selections_of x) s u)
  f-place_given t p x (subtype.Scalar s) (subtype.Scalar u) e h =
      f-if W V (Maybe IsActual) (same s.kind u.kind) (some (scalar_actual t s p (selections_of x) u)) (fault p.first WrongType) (f-some W V IsActual (scalar_actual t s p (selections_of x) u) (scalar-actual t s p x u (shape_of W.program p.subtype, h.0, one-cell W p u e) h.1)) (f-fault W V IsActual p.first WrongType)
  f-place_given t p x (subtype.Composite n) (subtype.Composite m) e h =
      f-test W V (Maybe IsActual) (n == m) (some (composite_actual t p (selections_of x) n)) (fault p.first WrongType)
      (λ q. f-some W V IsActual (composite_actual t p (selections_of x) n) (composite-actual t p x n (shape_of W.program p.subtype, h.0, subst (λ k. cells_of W.program.subtypes k ≤ size (shape_of W.program p.subtype)) (sym (eqb-true n m q)) (all-cells W p m e)) h.1)) (f-fault W V IsActual p.first WrongType)
  f-place_given t p x (subtype.Scalar s) (subtype.Composite m) e h = f-fault W V IsActual p.first WrongType
  f-place_given t p x (subtype.Composite n) (subtype.Scalar u) e h = f-fault W V IsActual p.first WrongType

  f-variable_form : (t : Taken) (f : Known) (x : TypedPart) → KnownOf W V f x → Forms W V (Maybe IsActual) (variable_form t f x)
  f-variable_form t (known.Object p) x h = f-test W V (Maybe IsActual) p.variable (place_given t p (selections_of x) t.subtype p.subtype) (fault p.first WrongType) (λ q. f-place_given t p x t.subtype p.subtype refl (as-variable W V p x h q)) (f-fault W V IsActual p.first WrongType)
  f-variable_form t f x h = f-fault W V IsActual (first_of f) WrongType

  f-variable_given : (t : Taken) (f : Found) → FoundOf W V f → Forms W V (Maybe IsActual) (variable_given t f)
  unfolding variable_given
  f-variable_given t f h = f-variable_form t f.known f.part h

  f-variable : (names : Names) (inside : Inside) (here : Context) (t : Taken) (e : Expr) → LevelForms W inside → Around W V here → Forms W V (Maybe IsActual) (expr names inside here (wanted_of t.subtype) e >>= λ x. given x (variable_given t))
  f-variable names inside here t e l r = f-bind W V (Finding W V) (Maybe IsActual) (expr names inside here (wanted_of t.subtype) e) _ (f-expr W V names inside here (wanted_of t.subtype) e l r) (λ x q. f-given W V (FoundOf W V) IsActual x (variable_given t) q (λ f s. f-variable_given t f s))

  f-actual_by : (names : Names) (inside : Inside) (here : Context) (t : Taken) (m : Mode) (e : Expr) → LevelForms W inside → Around W V here → Forms W V (Maybe IsActual) (actual_by names inside here t m e)
  f-actual_by names inside here t mode.In e l r =
      f-bind W V (Maybe (ValueOf W V t.subtype)) (Maybe IsActual) (value_for names inside here t.subtype e) _ (f-value_for W V names inside here t.subtype e l r) (λ v q.
      f-given W V (ValueOf W V t.subtype) IsActual v _ q (λ x s. f-some W V IsActual (part.AnActual (typed.In t.object (as_value x))) (λ as' h. (s.0, h))))
  f-actual_by names inside here t m e l r = f-variable names inside here t e l r

  f-actual_for : (names : Names) (inside : Inside) (here : Context) (t : Option Taken) (e : Expr) → LevelForms W inside → Around W V here → Forms W V (Maybe IsActual) (actual_for names inside here t e)
  unfolding actual_for
  f-actual_for names inside here None e l r = f-bind W V Any (Maybe IsActual) (judged_alone names inside here e) _ (f-judged_alone W V names inside here e l r) (λ u q. f-none W V IsActual)
  f-actual_for names inside here (Some t) e l r = f-actual_by names inside here t t.mode e l r

  abbrev CallingOf : Calling → Type 0
  CallingOf c = Maybe (Each IsActual) c.actuals

  with-actual : (i : Option ℕ) (made x : Option TypedPart) → Maybe (Each IsActual) made → Maybe IsActual x → Maybe (Each IsActual) (with_actual i made x)
  with-actual None made x g h = g
  with-actual (Some i) made x g h = joint (Each IsActual) IsActual (Each IsActual) also made x g h (λ a b p q. (q, p))

  f-found_or_unknown : (name : ℕ) (i : Option ℕ) → Forms W V Any (found_or_unknown name i)
  f-found_or_unknown name None = f-weaken W V (Maybe Any) Any (fault name Unknown) (f-fault W V Any name Unknown) (λ x q. tt)
  f-found_or_unknown name (Some i) = f-pure W V Any (Some i) tt

  f-parameter_of : (names : Names) (ts : List Taken) (i : ℕ) (named : Bool) (name : Option ℕ) → Forms W V Any (parameter_of names ts i named name)
  f-parameter_of names ts i named (Some name) = f-found_or_unknown name _
  f-parameter_of names ts i true None = f-pure W V Any None tt
  f-parameter_of names ts i false None = f-pure W V Any _ tt

  f-given_once : (first : ℕ) (taken : List ℕ) (i : Option ℕ) → Forms W V Any (given_once first taken i)
  f-given_once first taken None = f-pure W V Any tt tt
  f-given_once first taken (Some i) = f-unless W V _ first Twice

  f-argument : (names : Names) (inside : Inside) (here : Context) (ts : List Taken) (c : Calling) (a : Arg) → LevelForms W inside → Around W V here → CallingOf c → Forms W V CallingOf (argument names inside here ts c a)
  unfolding argument
  f-argument names inside here ts c (syntax.arg name e) l r g =
      f-bind W V Any CallingOf (parameter_of names ts c.count c.named name) _ (f-parameter_of names ts c.count c.named name) (λ i p.
      f-bind W V Any CallingOf (given_once (first_token.of_arg (syntax.arg name e)) c.taken i) _ (f-given_once (first_token.of_arg (syntax.arg name e)) c.taken i) (λ u q.
      f-bind W V (Maybe IsActual) CallingOf (actual_for names inside here (taken_at ts i) e) _ (f-actual_for names inside here (taken_at ts i) e l r) (λ x s.
      f-pure W V CallingOf
      (record { count = c.count + 1; taken = also_taken c.taken i; named = c.named || is_some name; late = late_at c.late c.named name (first_token.of_arg (syntax.arg name e)); actuals = with_actual i c.actuals x })
      (with-actual i c.actuals x g s))))

  f-arguments : (names : Names) (inside : Inside) (here : Context) (ts : List Taken) (c : Calling) (as' : Args) → LevelForms W inside → Around W V here → CallingOf c → Forms W V CallingOf (arguments names inside here ts c as')
  f-arguments names inside here ts c syntax.NoArg l r g = f-pure W V CallingOf c g
  f-arguments names inside here ts c (syntax.AlsoArg a as') l r g = f-bind W V CallingOf CallingOf (argument names inside here ts c a) _ (f-argument names inside here ts c a l r g) (λ d q. f-arguments names inside here ts d as' l r q)

  f-complete : (at count : ℕ) (late : Option ℕ) (c : Calling) → CallingOf c → Forms W V (Maybe (Each IsActual)) (complete at count late c)
  f-complete at count (Some late) c g = f-fault W V (Each IsActual) late WrongType
  f-complete at count None c g = f-if W V (Maybe (Each IsActual)) (c.count == count) (pure c.actuals) (fault at WrongType) (f-pure W V (Maybe (Each IsActual)) c.actuals g) (f-fault W V (Each IsActual) at WrongType)

  call-given : (first last n : ℕ) (s : Option Scalar) (xs : TypedPart) → n < V.known.declared → Each IsActual xs → DenotedOf W V (call_given first last n s xs)
  call-given first last n None xs d h = (d, actuals-fit xs h)
  call-given first last n (Some s) xs d h = (d, actuals-fit xs h)

  pub f-sub_call : (names : Names) (inside : Inside) (here : Context) (at first last n : ℕ) (as' : Args) → LevelForms W inside → Around W V here → n < V.known.declared → Forms W V (Maybe (DenotedOf W V)) (sub_call names inside here at first last n as')
  unfolding sub_call
  f-sub_call names inside here at first last n as' l r d =
      f-bind W V Any (Maybe (DenotedOf W V)) (read (λ log. profile_in log n)) _ (f-read W V Any (λ log. profile_in log n) (λ log h. tt)) (λ p q.
      f-where_clean W V CallingOf (DenotedOf W V) (arguments names inside here (takes_in p) begun_call as') _ (f-arguments names inside here (takes_in p) begun_call as' l r tt) (λ c s.
      f-bind W V (Maybe (Each IsActual)) (Maybe (DenotedOf W V)) (complete at (length (takes_in p)) c.late c) _ (f-complete at (length (takes_in p)) c.late c s) (λ xs t.
      f-given W V (Each IsActual) (DenotedOf W V) xs _ t (λ ys i. f-some W V (DenotedOf W V) (call_given first last n (gives_in p) ys) (call-given first last n (gives_in p) ys d i)))))

  -- ---- operands that have no parameter

  abbrev pub AllFound : List Found → Type 0
  AllFound [] = Unit {0}
  AllFound (f ∷ fs) = (FoundOf W V) f × AllFound fs

  found-both : (a b : List Found) → AllFound a → AllFound b → AllFound (a ++ b)
  found-both [] b h k = k
  found-both (f ∷ a) b h k = (h.0, found-both a b h.1 k)

  with-operand : (fs : Option (List Found)) (x : Option Found) → Maybe AllFound fs → Finding W V x → Maybe AllFound (with_operand fs x)
  with-operand None x g h = tt
  with-operand (Some fs) None g h = tt
  with-operand (Some fs) (Some f) g h = found-both fs (f ∷ []) g (h, tt)

  pub f-operands : (names : Names) (inside : Inside) (here : Context) (made : Option (List Found)) (as' : Args) → LevelForms W inside → Around W V here → Maybe AllFound made → Forms W V (Maybe AllFound) (operands names inside here made as')
  f-operands names inside here made syntax.NoArg l r g = f-pure W V (Maybe AllFound) made g
  f-operands names inside here made (syntax.AlsoArg (syntax.arg name e) as') l r g =
      f-bind W V (Finding W V) (Maybe AllFound) (expr names inside here wanted.Other e) _ (f-expr W V names inside here wanted.Other e l r) (λ x q. f-operands names inside here (with_operand made x) as' l r (with-operand made x g q))

  -- ---- conversions

  f-converted : (first : ℕ) (s : Scalar) (f : Found) → FoundOf W V f → Forms W V (Maybe (DenotedOf W V)) (converted first s f)
  f-converted first s f h =
      f-if W V (Maybe (DenotedOf W V)) (is_number f.known) _ (fault (first_of f.known) WrongType)
      (f-bind W V (Maybe (ExprOf W V)) (Maybe (DenotedOf W V)) (settled_found f) _ (f-settled_found W V f h) (λ e q. f-given W V (ExprOf W V) (DenotedOf W V) e _ q (λ x r. f-some W V (DenotedOf W V) (conversion_of first (own_kind f.known) s x) r)))
      (f-fault W V (DenotedOf W V) (first_of f.known) WrongType)

  f-one_operand : (bracket first : ℕ) (s : Scalar) (ns : List (Option ℕ)) (fs : List Found) → AllFound fs → Forms W V (Maybe (DenotedOf W V)) (one_operand bracket first s ns fs)
  f-one_operand bracket first s (Some name ∷ ns) fs h = f-fault W V (DenotedOf W V) name WrongType
  f-one_operand bracket first s (None ∷ []) (f ∷ []) h = f-converted first s f h.0
  f-one_operand bracket first s ns fs h = f-fault W V (DenotedOf W V) bracket WrongType

  f-scalar_conversion : (names : Names) (inside : Inside) (here : Context) (bracket first : ℕ) (s : Scalar) (as' : Args) → LevelForms W inside → Around W V here → Forms W V (Maybe (DenotedOf W V)) (scalar_conversion names inside here bracket first s as')
  f-scalar_conversion names inside here bracket first s as' l r =
      f-where_clean W V (Maybe AllFound) (DenotedOf W V) (operands names inside here (Some []) as') _ (f-operands names inside here (Some []) as' l r tt) (λ fs q.
      f-given W V AllFound (DenotedOf W V) fs _ q (λ gs t. f-if W V (Maybe (DenotedOf W V)) (is_integer s.kind) (one_operand bracket first s (arg_names as') gs) (fault first WrongType) (f-one_operand bracket first s (arg_names as') gs t) (f-fault W V (DenotedOf W V) first WrongType)))

  pub f-conversion : (names : Names) (inside : Inside) (here : Context) (bracket first : ℕ) (t : Subtype) (as' : Args) → LevelForms W inside → Around W V here → Forms W V (Maybe (DenotedOf W V)) (conversion names inside here bracket first t as')
  unfolding conversion
  f-conversion names inside here bracket first (subtype.Scalar s) as' l r = f-scalar_conversion names inside here bracket first s as' l r
  f-conversion names inside here bracket first (subtype.Composite n) as' l r = f-wrong_call W V names inside here first as' l r
