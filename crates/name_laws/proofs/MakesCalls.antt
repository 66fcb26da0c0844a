-- What is found fits: calls and conversions.
use Rattle.std.proofs.Common.{ℕ, List, [], ◌∷◌, ◌++◌, length, Option, Some, None, Bool, true, false, if◌then◌else◌, ◌==◌, ◌+◌}
use Rattle.std.specs.Prelude.{is_some, ◌||◌}
use Rattle.syntax_tree.specs.FirstTokens as first_token
use Rattle.syntax_tree.specs.Syntax as syntax
use Rattle.syntax_tree.specs.Syntax.{Arg, Args, Expr}
use Rattle.typed_tree.specs.Decoded as part
use Rattle.typed_tree.specs.Decoded.{TypedPart, as_actual, as_actuals, as_value}
use Rattle.typed_tree.specs.Latest.{turned}
use Rattle.typed_tree.specs.Syntax as typed
use Rattle.typed_tree.specs.Syntax.{Actuals, Selections}
use Rattle.typed_tree.specs.declared.program.Mode.TheVariants as mode
use Rattle.typed_tree.specs.declared.program.Mode.{Mode}
use Rattle.name_rules.specs.Calls.{Calling, actual_by, actual_for, also_taken, arg_names, argument, arguments, begun_call, call_given, complete, composite_actual, conversion, conversion_of, converted, given_once, gives_in, is_out, late_at, one_operand, operands, parameter_of, place_given, profile_in, scalar_actual, scalar_conversion, sub_call, taken_at, takes_in, variable_form, variable_given, with_actual, with_operand}
use Rattle.name_rules.specs.Expressions.{Inside, expr, judged_alone, value_for}
use Rattle.name_rules.specs.Found.{Found}
use Rattle.name_rules.specs.Judging.{◌>>=◌, fault, given, pure, read, some}
use Rattle.name_rules.specs.TypedParts.{also, selections_of}
use Rattle.name_rules.specs.Types.{is_integer, same, typed_scalar, wanted_of}
use Rattle.name_rules.specs.Values.{first_of, is_number, settled_found, own_kind}
use Rattle.name_rules.specs.declared.found.Found.TheVariants as known
use Rattle.name_rules.specs.declared.found.Found.{Found as Known}
use Rattle.name_rules.specs.declared.found.ObjectName.{ObjectName}
use Rattle.name_rules.specs.declared.log.Rule.TheVariants.{WrongType}
use Rattle.name_rules.specs.declared.log.Taken.{Taken}
use Rattle.name_rules.specs.declared.scope.Context.{Context}
use Rattle.name_rules.specs.declared.scope.Names.{Names}
use Rattle.name_rules.specs.declared.types.Scalar.{Scalar}
use Rattle.name_rules.specs.declared.types.Subtype.{Subtype}
use Rattle.name_rules.specs.declared.types.Subtype.TheVariants as subtype
use Rattle.name_rules.specs.declared.types.Wanted.TheVariants as wanted
use Rattle.name_laws.proofs.Based.{spanning}
use Rattle.name_laws.proofs.KeepsCalls.{k-given_once, k-parameter_of}
use Rattle.name_laws.proofs.Makes.{Any, Each, Makes, Maybe, each-turned, joint, m-bind, m-fault, m-given, m-if, m-kept, m-none, m-pure, m-read, m-some, m-where_clean}
use Rattle.name_laws.proofs.MakesExpressions.{Finding, LevelFits, m-expr, m-judged_alone, m-value_for}
use Rattle.name_laws.proofs.MakesNames.{m-wrong_call}
use Rattle.name_laws.proofs.MakesScope.{DenotedOf}
use Rattle.name_laws.proofs.MakesValues.{ExprOf, FoundOf, KnownOf, ValueOf, m-settled_found, selections-fit}
use Rattle.name_laws.specs.Based.{AreBased}
use Rattle.name_laws.specs.Classes.{ActualsFit, SelectionsFit}

-- ---- actual parameters

abbrev pub IsActual : TypedPart → Type 0
IsActual p = (as' : Actuals) → ActualsFit as' → ActualsFit (as_actual p as')

actuals-list : (x : TypedPart) → Each IsActual x → ActualsFit (as_actuals x)
actuals-list (part.Cons p q) h = h.0 (as_actuals q) (actuals-list q h.1)
actuals-list x h = tt

actuals-fit : (x : TypedPart) → Each IsActual x → ActualsFit (as_actuals (turned x))
actuals-fit x h = actuals-list (turned x) (each-turned IsActual x h)

scalar-actual : (t : Taken) (s : Scalar) (p : ObjectName) (ss : Selections) (u : Scalar) → SelectionsFit ss → IsActual (scalar_actual t s p ss u)
scalar-actual t s p ss u h as' r = by (is_out t.mode)
  where
    by : (b : Bool) → ActualsFit (as_actual (part.AnActual (if b then typed.Out t.object p.first p.root ss (typed_scalar s) (typed_scalar u) else typed.InOut t.object p.first p.root ss (typed_scalar s) (typed_scalar u))) as')
    by true = (h, r)
    by false = (h, r)

composite-actual : (t : Taken) (p : ObjectName) (ss : Selections) (n : ℕ) → SelectionsFit ss → IsActual (composite_actual t p ss n)
composite-actual t p ss n h as' r = by (is_out t.mode)
  where
    by : (b : Bool) → ActualsFit (as_actual (part.AnActual (if b then typed.CompositeOut t.object p.first p.root ss n else typed.CompositeInOut t.object p.first p.root ss n)) as')
    by true = (h, r)
    by false = (h, r)

m-place_given : (t : Taken) (p : ObjectName) (ss : Selections) (s u : Subtype) → SelectionsFit ss → Makes (Maybe IsActual) (place_given t p ss s u)
m-place_given t p ss (subtype.Scalar s) (subtype.Scalar u) h = m-if (Maybe IsActual) (same s.kind u.kind) (some (scalar_actual t s p ss u)) (fault p.first WrongType) (m-some IsActual (scalar_actual t s p ss u) (scalar-actual t s p ss u h)) (m-fault IsActual p.first WrongType)
m-place_given t p ss (subtype.Composite n) (subtype.Composite m) h = m-if (Maybe IsActual) (n == m) (some (composite_actual t p ss n)) (fault p.first WrongType) (m-some IsActual (composite_actual t p ss n) (composite-actual t p ss n h)) (m-fault IsActual p.first WrongType)
m-place_given t p ss s u h = m-fault IsActual p.first WrongType

m-variable_form : (t : Taken) (f : Known) (x : TypedPart) → KnownOf f x → Makes (Maybe IsActual) (variable_form t f x)
m-variable_form t (known.Object p) x h = m-if (Maybe IsActual) p.variable (place_given t p (selections_of x) t.subtype p.subtype) (fault p.first WrongType) (m-place_given t p (selections_of x) t.subtype p.subtype (selections-fit x h.1)) (m-fault IsActual p.first WrongType)
m-variable_form t f x h = m-fault IsActual (first_of f) WrongType

m-variable_given : (t : Taken) (f : Found) → FoundOf f → Makes (Maybe IsActual) (variable_given t f)
unfolding variable_given
m-variable_given t f h = m-variable_form t f.known f.part h

m-variable : (names : Names) (inside : Inside) (here : Context) (t : Taken) (e : Expr) → LevelFits inside → AreBased here.scope → Makes (Maybe IsActual) (expr names inside here (wanted_of t.subtype) e >>= λ x. given x (variable_given t))
m-variable names inside here t e l r = m-bind Finding (Maybe IsActual) (expr names inside here (wanted_of t.subtype) e) _ (m-expr names inside here (wanted_of t.subtype) e l r) (λ x q. m-given FoundOf IsActual x (variable_given t) q (λ f s. m-variable_given t f s))

m-actual_by : (names : Names) (inside : Inside) (here : Context) (t : Taken) (m : Mode) (e : Expr) → LevelFits inside → AreBased here.scope → Makes (Maybe IsActual) (actual_by names inside here t m e)
m-actual_by names inside here t mode.In e l r =
    m-bind (Maybe ValueOf) (Maybe IsActual) (value_for names inside here t.subtype e) _ (m-value_for names inside here t.subtype e l r) (λ v q.
    m-given ValueOf IsActual v _ q (λ x s. m-some IsActual (part.AnActual (typed.In t.object (as_value x))) (λ as' h. (s, h))))
m-actual_by names inside here t m e l r = m-variable names inside here t e l r

m-actual_for : (names : Names) (inside : Inside) (here : Context) (t : Option Taken) (e : Expr) → LevelFits inside → AreBased here.scope → Makes (Maybe IsActual) (actual_for names inside here t e)
unfolding actual_for
m-actual_for names inside here None e l r = m-bind Any (Maybe IsActual) (judged_alone names inside here e) _ (m-judged_alone names inside here e l r) (λ u q. m-none IsActual)
m-actual_for names inside here (Some t) e l r = m-actual_by names inside here t t.mode e l r

abbrev CallingOf : Calling → Type 0
CallingOf c = Maybe (Each IsActual) c.actuals

with-actual : (i : Option ℕ) (made x : Option TypedPart) → Maybe (Each IsActual) made → Maybe IsActual x → Maybe (Each IsActual) (with_actual i made x)
with-actual None made x g h = g
with-actual (Some i) made x g h = joint (Each IsActual) IsActual (Each IsActual) also made x g h (λ a b p q. (q, p))

m-argument : (names : Names) (inside : Inside) (here : Context) (ts : List Taken) (c : Calling) (a : Arg) → LevelFits inside → AreBased here.scope → CallingOf c → Makes CallingOf (argument names inside here ts c a)
unfolding argument
m-argument names inside here ts c (syntax.arg name e) l r g =
    m-bind Any CallingOf (parameter_of names ts c.count c.named name) _ (m-kept (parameter_of names ts c.count c.named name) (k-parameter_of spanning names ts c.count c.named name tt)) (λ i p.
    m-bind Any CallingOf (given_once (first_token.of_arg (syntax.arg name e)) c.taken i) _ (m-kept (given_once (first_token.of_arg (syntax.arg name e)) c.taken i) (k-given_once spanning (first_token.of_arg (syntax.arg name e)) c.taken i)) (λ u q.
    m-bind (Maybe IsActual) CallingOf (actual_for names inside here (taken_at ts i) e) _ (m-actual_for names inside here (taken_at ts i) e l r) (λ x s.
    m-pure CallingOf
    (record { count = c.count + 1; taken = also_taken c.taken i; named = c.named || is_some name; late = late_at c.late c.named name (first_token.of_arg (syntax.arg name e)); actuals = with_actual i c.actuals x })
    (with-actual i c.actuals x g s))))

m-arguments : (names : Names) (inside : Inside) (here : Context) (ts : List Taken) (c : Calling) (as' : Args) → LevelFits inside → AreBased here.scope → CallingOf c → Makes CallingOf (arguments names inside here ts c as')
m-arguments names inside here ts c syntax.NoArg l r g = m-pure CallingOf c g
m-arguments names inside here ts c (syntax.AlsoArg a as') l r g = m-bind CallingOf CallingOf (argument names inside here ts c a) _ (m-argument names inside here ts c a l r g) (λ d q. m-arguments names inside here ts d as' l r q)

m-complete : (at count : ℕ) (late : Option ℕ) (c : Calling) → CallingOf c → Makes (Maybe (Each IsActual)) (complete at count late c)
m-complete at count (Some late) c g = m-fault (Each IsActual) late WrongType
m-complete at count None c g = m-if (Maybe (Each IsActual)) (c.count == count) (pure c.actuals) (fault at WrongType) (m-pure (Maybe (Each IsActual)) c.actuals g) (m-fault (Each IsActual) at WrongType)

call-given : (first last n : ℕ) (s : Option Scalar) (xs : TypedPart) → Each IsActual xs → DenotedOf (call_given first last n s xs)
call-given first last n None xs h = actuals-fit xs h
call-given first last n (Some s) xs h = actuals-fit xs h

pub m-sub_call : (names : Names) (inside : Inside) (here : Context) (at first last n : ℕ) (as' : Args) → LevelFits inside → AreBased here.scope → Makes (Maybe DenotedOf) (sub_call names inside here at first last n as')
unfolding sub_call
m-sub_call names inside here at first last n as' l r =
    m-bind Any (Maybe DenotedOf) (read (λ log. profile_in log n)) _ (m-read Any (λ log. profile_in log n) (λ log h. tt)) (λ p q.
    m-where_clean CallingOf DenotedOf (arguments names inside here (takes_in p) begun_call as') _ (m-arguments names inside here (takes_in p) begun_call as' l r tt) (λ c s.
    m-bind (Maybe (Each IsActual)) (Maybe DenotedOf) (complete at (length (takes_in p)) c.late c) _ (m-complete at (length (takes_in p)) c.late c s) (λ xs t.
    m-given (Each IsActual) DenotedOf xs _ t (λ ys i. m-some DenotedOf (call_given first last n (gives_in p) ys) (call-given first last n (gives_in p) ys i)))))

-- ---- operands that have no parameter

abbrev pub AllFound : List Found → Type 0
AllFound [] = Unit {0}
AllFound (f ∷ fs) = FoundOf f × AllFound fs

found-both : (a b : List Found) → AllFound a → AllFound b → AllFound (a ++ b)
found-both [] b h k = k
found-both (f ∷ a) b h k = (h.0, found-both a b h.1 k)

with-operand : (fs : Option (List Found)) (x : Option Found) → Maybe AllFound fs → Finding x → Maybe AllFound (with_operand fs x)
with-operand None x g h = tt
with-operand (Some fs) None g h = tt
with-operand (Some fs) (Some f) g h = found-both fs (f ∷ []) g (h, tt)

pub m-operands : (names : Names) (inside : Inside) (here : Context) (made : Option (List Found)) (as' : Args) → LevelFits inside → AreBased here.scope → Maybe AllFound made → Makes (Maybe AllFound) (operands names inside here made as')
m-operands names inside here made syntax.NoArg l r g = m-pure (Maybe AllFound) made g
m-operands names inside here made (syntax.AlsoArg (syntax.arg name e) as') l r g =
    m-bind Finding (Maybe AllFound) (expr names inside here wanted.Other e) _ (m-expr names inside here wanted.Other e l r) (λ x q. m-operands names inside here (with_operand made x) as' l r (with-operand made x g q))

-- ---- conversions

m-converted : (first : ℕ) (s : Scalar) (f : Found) → FoundOf f → Makes (Maybe DenotedOf) (converted first s f)
m-converted first s f h =
    m-if (Maybe DenotedOf) (is_number f.known) _ (fault (first_of f.known) WrongType)
    (m-bind (Maybe ExprOf) (Maybe DenotedOf) (settled_found f) _ (m-settled_found f h) (λ e q. m-given ExprOf DenotedOf e _ q (λ x r. m-some DenotedOf (conversion_of first (own_kind f.known) s x) r)))
    (m-fault DenotedOf (first_of f.known) WrongType)

m-one_operand : (bracket first : ℕ) (s : Scalar) (ns : List (Option ℕ)) (fs : List Found) → AllFound fs → Makes (Maybe DenotedOf) (one_operand bracket first s ns fs)
m-one_operand bracket first s (Some name ∷ ns) fs h = m-fault DenotedOf name WrongType
m-one_operand bracket first s (None ∷ []) (f ∷ []) h = m-converted first s f h.0
m-one_operand bracket first s ns fs h = m-fault DenotedOf bracket WrongType

m-scalar_conversion : (names : Names) (inside : Inside) (here : Context) (bracket first : ℕ) (s : Scalar) (as' : Args) → LevelFits inside → AreBased here.scope → Makes (Maybe DenotedOf) (scalar_conversion names inside here bracket first s as')
m-scalar_conversion names inside here bracket first s as' l r =
    m-where_clean (Maybe AllFound) DenotedOf (operands names inside here (Some []) as') _ (m-operands names inside here (Some []) as' l r tt) (λ fs q.
    m-given AllFound DenotedOf fs _ q (λ gs t. m-if (Maybe DenotedOf) (is_integer s.kind) (one_operand bracket first s (arg_names as') gs) (fault first WrongType) (m-one_operand bracket first s (arg_names as') gs t) (m-fault DenotedOf first WrongType)))

pub m-conversion : (names : Names) (inside : Inside) (here : Context) (bracket first : ℕ) (t : Subtype) (as' : Args) → LevelFits inside → AreBased here.scope → Makes (Maybe DenotedOf) (conversion names inside here bracket first t as')
unfolding conversion
m-conversion names inside here bracket first (subtype.Scalar s) as' l r = m-scalar_conversion names inside here bracket first s as' l r
m-conversion names inside here bracket first (subtype.Composite n) as' l r = m-wrong_call names inside here first as' l
