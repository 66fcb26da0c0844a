-- Judging that is counted: calls.
use Rattle.name_rules.specs.Expressions.{Inside, expr, judged_alone, value_for}
use Rattle.syntax_tree.specs.FirstTokens as first_token
use Rattle.name_rules.specs.Found.{Found, scalar}
use Rattle.name_rules.specs.Judging.{fault, given, pure, read, some, ◌>>=◌}
use Rattle.name_rules.specs.Names.{count}
use Rattle.name_rules.specs.Types.{is_integer, same, typed_scalar, wanted_of, converted_from}
use Rattle.name_rules.specs.Values.{first_of, is_number, settled_found, own_kind}
use Rattle.name_rules.specs.declared.found.Denoted.TheVariants as denoted
use Rattle.name_rules.specs.declared.found.Found.TheVariants as known
use Rattle.name_rules.specs.declared.found.Found.{Found as Known}
use Rattle.name_rules.specs.declared.found.ObjectName.{ObjectName}
use Rattle.name_rules.specs.declared.log.Rule.TheVariants.{WrongType}
use Rattle.name_rules.specs.declared.log.Taken.{Taken}
use Rattle.name_rules.specs.declared.scope.Context.{Context}
use Rattle.name_rules.specs.declared.scope.Names.{Names}
use Rattle.name_rules.specs.declared.types.Scalar.{Scalar}
use Rattle.name_rules.specs.declared.types.Subtype.TheVariants as subtype
use Rattle.name_rules.specs.declared.types.Subtype.{Subtype}
use Rattle.name_rules.specs.declared.types.Wanted.TheVariants as wanted
use Rattle.syntax_tree.specs.Syntax as syntax
use Rattle.syntax_tree.specs.Syntax.{Arg, Args, Expr}
use Rattle.typed_tree.specs.Decoded as part
use Rattle.typed_tree.specs.Syntax as typed
use Rattle.typed_tree.specs.Syntax.{Selections}
use Rattle.typed_tree.specs.declared.program.Mode.TheVariants as mode
use Rattle.typed_tree.specs.declared.program.Mode.{Mode}
use Rattle.std.specs.Prelude.{Bool, List, None, Option, Some, [], false, if◌then◌else◌, is_some, length, true, ℕ, ◌+◌, ◌==◌, ◌||◌, ◌∷◌}
use Rattle.name_rules.specs.TypedParts.{also, selections_of}
use Rattle.typed_tree.specs.Decoded.{TypedPart, as_actuals, as_expr}
use Rattle.typed_tree.specs.Latest.{turned}
use Rattle.name_rules.specs.Calls.{Calling, actual_by, actual_for, also_taken, arg_names, argument, argument_form, arguments, begun_call, call_given, complete, composite_actual, conversion, conversion_of, converted, given_once, gives_in, is_out, late_at, one_operand, operands, parameter_of, place_given, profile_in, scalar_actual, scalar_conversion, sub_call, taken_at, takes_in, variable_form, variable_given, with_actual, with_operand}
use Rattle.std.proofs.Common.{arith}
use Rattle.name_laws.proofs.KeepsCalls.{k-given_once, k-parameter_of}
use Rattle.name_laws.proofs.KeepsExpressions.{k-judged_alone}
use Rattle.name_laws.proofs.Walk.{k-read}
use Rattle.name_scopes.proofs.SpendsExpressions.{s-expr, s-value_for}
use Rattle.name_scopes.proofs.SpendsFound.{z-denote, z-scalar, z-value_denoted}
use Rattle.name_scopes.proofs.SpendsNames.{s-wrong_call}
use Rattle.name_scopes.proofs.SpendsValues.{s-settled_found}
use Rattle.name_scopes.proofs.Leaving.{leaving}
use Rattle.name_scopes.proofs.Measures.{counted-by, list-of, maybe-known, maybe-part, option-of, part-measure, part-size, with-part}
use Rattle.name_scopes.proofs.Parts.{n-actuals, n-expr, n-selections_of, n-turned, n-value, w-turned}
use Rattle.name_scopes.proofs.Records.{SpendsInside, calling-of, list-sum, list-whole}
use Rattle.name_scopes.proofs.Spends.{Holds, Spends, h-joined, s-bind, s-fault, s-given, s-if, s-le, s-pure, s-some, s-then, s-where_clean}
use Rattle.name_scopes.proofs.Tallies.{Tally, in_selections}
use Rattle.name_rules.specs.declared.types.Kind.{Kind}

pub z-scalar_actual : (which : Tally) (t : Taken) (s : Scalar) (p : ObjectName) (ss : Selections) (u : Scalar) → Unit {0} → Holds (part-measure which) (in_selections which ss) (scalar_actual t s p ss u)
z-scalar_actual which t s p ss u h = by (is_out t.mode)
  where
    by : (b : Bool) → Holds (part-measure which) (in_selections which ss) (part.AnActual (if b then typed.Out t.object p.first p.root ss (typed_scalar s) (typed_scalar u) else typed.InOut t.object p.first p.root ss (typed_scalar s) (typed_scalar u)))
    by true = ((λ r. omega arith), omega arith)
    by false = ((λ r. omega arith), omega arith)

pub z-composite_actual : (which : Tally) (t : Taken) (p : ObjectName) (ss : Selections) (n : ℕ) → Unit {0} → Holds (part-measure which) (in_selections which ss) (composite_actual t p ss n)
z-composite_actual which t p ss n h = by (is_out t.mode)
  where
    by : (b : Bool) → Holds (part-measure which) (in_selections which ss) (part.AnActual (if b then typed.CompositeOut t.object p.first p.root ss n else typed.CompositeInOut t.object p.first p.root ss n))
    by true = ((λ r. omega arith), omega arith)
    by false = ((λ r. omega arith), omega arith)

pub s-place_given : (which : Tally) (x0 : Taken) (x1 : ObjectName) (x2 : Selections) (x3 : Subtype) (x4 : Subtype) → (counted-by (λ x. in_selections which x)).Whole x2 → Spends which (maybe-part which) (in_selections which x2) (place_given x0 x1 x2 x3 x4)
s-place_given which t p ss (subtype.Scalar s) (subtype.Scalar u) h2 =
    s-if which (maybe-part which) _ (same s.kind u.kind) (some (scalar_actual t s p ss u)) (fault p.first WrongType)
    (s-some which (part-measure which) _ (scalar_actual t s p ss u) (let made1 = z-scalar_actual which t s p ss u h2 in
    (made1.0, omega (arith, made1.1))))
    (s-fault which (part-measure which) _ p.first WrongType)
s-place_given which t p ss (subtype.Composite n) (subtype.Composite m) h2 =
    s-if which (maybe-part which) _ (n == m) (some (composite_actual t p ss n)) (fault p.first WrongType)
    (s-some which (part-measure which) _ (composite_actual t p ss n) (let made1 = z-composite_actual which t p ss n h2 in
    (made1.0, omega (arith, made1.1))))
    (s-fault which (part-measure which) _ p.first WrongType)
s-place_given which t p ss any1 any2 h2 = s-fault which (part-measure which) _ p.first WrongType

pub s-variable_form : (which : Tally) (x0 : Taken) (x1 : Known) (x2 : TypedPart) → (part-measure which).Whole x2 → Spends which (maybe-part which) (part-size which x2) (variable_form x0 x1 x2)
s-variable_form which t (known.Object p) x h2 =
    s-if which (maybe-part which) _ p.variable (place_given t p (selections_of x) t.subtype p.subtype) (fault p.first WrongType)
    (s-le which (maybe-part which) _ _ _ (s-place_given which t p (selections_of x) t.subtype p.subtype tt) (omega (arith, n-selections_of which x h2)))
    (s-fault which (part-measure which) _ p.first WrongType)
s-variable_form which t f x h2 = s-fault which (part-measure which) _ (first_of f) WrongType

pub s-variable_given : (which : Tally) (x0 : Taken) (x1 : Found) → (with-part which).Whole x1 → Spends which (maybe-part which) (part-size which x1.part) (variable_given x0 x1)
unfolding variable_given
s-variable_given which t f h1 = s-le which (maybe-part which) _ _ _ (s-variable_form which t f.known f.part h1) (omega arith)

pub s-actual_by : (which : Tally) (x0 : Names) (x1 : Inside) (x2 : Context) (x3 : Taken) (x4 : Mode) (x5 : Expr) → SpendsInside which x1 → Spends which (maybe-part which) 0 (actual_by x0 x1 x2 x3 x4 x5)
s-actual_by which names inside here t mode.In e h1 =
    s-bind which (maybe-part which) (maybe-part which) 0 0 _ (value_for names inside here t.subtype e) _ (s-le which (maybe-part which) _ _ _ (s-value_for which names inside here t.subtype e h1) (omega arith)) (omega arith) (λ v held1.
    s-given which (part-measure which) (part-measure which) 0 _ v _ held1 (omega arith) (λ x held2.
    s-some which (part-measure which) _ (part.AnActual (typed.In t.object (part.as_value x))) ((λ r. omega arith), omega (arith, n-value which x))))
s-actual_by which names inside here t any1 e h1 =
    s-bind which (maybe-known which) (maybe-part which) 0 0 _ (expr names inside here (wanted_of t.subtype) e) _ (s-le which (maybe-known which) _ _ _ (s-expr which names inside here (wanted_of t.subtype) e h1) (omega arith)) (omega arith) (λ x held2.
    s-given which (with-part which) (part-measure which) 0 _ x _ held2 (omega arith) (λ item held3.
    s-le which (maybe-part which) _ _ _ (s-variable_given which t item held3) (omega arith)))

pub s-actual_for : (which : Tally) (x0 : Names) (x1 : Inside) (x2 : Context) (x3 : Option Taken) (x4 : Expr) → SpendsInside which x1 → Spends which (maybe-part which) 0 (actual_for x0 x1 x2 x3 x4)
unfolding actual_for
s-actual_for which names inside here None e h1 =
    s-then which (maybe-part which) _ (judged_alone names inside here e) _ (k-judged_alone leaving names inside here e tt h1.keeps) (λ u.
    s-pure which (maybe-part which) _ None (tt, omega arith))
s-actual_for which names inside here (Some t) e h1 = s-le which (maybe-part which) _ _ _ (s-actual_by which names inside here t t.mode e h1) (omega arith)

pub z-with_actual : (which : Tally) (x0 : Option ℕ) (x1 : Option TypedPart) (x2 : Option TypedPart) → (maybe-part which).Whole x1 → (maybe-part which).Whole x2 → Holds (maybe-part which) ((maybe-part which).size x1 + (maybe-part which).size x2) (with_actual x0 x1 x2)
z-with_actual which None made x h1 h2 = (h1, omega arith)
z-with_actual which (Some i) made x h1 h2 =
    let made3 = h-joined (part-measure which) (part-measure which) (part-measure which) 0 also made x h1 h2 (λ one held1 other held2. ((held2, held1), omega arith)) in
    (made3.0, omega (arith, made3.1))

pub s-argument_form : (which : Tally) (x0 : Names) (x1 : Inside) (x2 : Context) (x3 : List Taken) (x4 : Calling) (x5 : Option ℕ) (x6 : Expr) (x7 : ℕ) → SpendsInside which x1 → (maybe-part which).Whole x4.actuals → Spends which (calling-of which) ((maybe-part which).size x4.actuals) (argument_form x0 x1 x2 x3 x4 x5 x6 x7)
s-argument_form which names inside here ts c name e first h1 h4-actuals =
    s-then which (calling-of which) _ (parameter_of names ts c.count c.named name) _ (k-parameter_of leaving names ts c.count c.named name tt) (λ i.
    s-then which (calling-of which) _ (given_once first c.taken i) _ (k-given_once leaving first c.taken i) (λ u.
    s-bind which (maybe-part which) (calling-of which) 0 ((maybe-part which).size c.actuals) _ (actual_for names inside here (taken_at ts i) e) _ (s-le which (maybe-part which) _ _ _ (s-actual_for which names inside here (taken_at ts i) e h1) (omega arith)) (omega arith) (λ x held3.
    s-pure which (calling-of which) _ (record { count = c.count + 1; taken = also_taken c.taken i; named = c.named || is_some name; late = late_at c.late c.named name first; actuals = with_actual i c.actuals x }) (let made4 = z-with_actual which i c.actuals x h4-actuals held3 in
    (made4.0, omega (arith, made4.1))))))

pub s-argument : (which : Tally) (x0 : Names) (x1 : Inside) (x2 : Context) (x3 : List Taken) (x4 : Calling) (x5 : Arg) → SpendsInside which x1 → (maybe-part which).Whole x4.actuals → Spends which (calling-of which) ((maybe-part which).size x4.actuals) (argument x0 x1 x2 x3 x4 x5)
unfolding argument
s-argument which names inside here ts c (syntax.arg name e) h1 h4-actuals = s-le which (calling-of which) _ _ _ (s-argument_form which names inside here ts c name e (first_token.of_arg (syntax.arg name e)) h1 h4-actuals) (omega arith)

pub s-arguments : (which : Tally) (x0 : Names) (x1 : Inside) (x2 : Context) (x3 : List Taken) (x4 : Calling) (x5 : Args) → SpendsInside which x1 → (maybe-part which).Whole x4.actuals → Spends which (calling-of which) ((maybe-part which).size x4.actuals) (arguments x0 x1 x2 x3 x4 x5)
s-arguments which names inside here ts c syntax.NoArg h1 h4-actuals = s-pure which (calling-of which) _ c (h4-actuals, omega arith)
s-arguments which names inside here ts c (syntax.AlsoArg a as') h1 h4-actuals =
    s-bind which (calling-of which) (calling-of which) ((maybe-part which).size c.actuals) 0 _ (argument names inside here ts c a) _ (s-le which (calling-of which) _ _ _ (s-argument which names inside here ts c a h1 h4-actuals) (omega arith)) (omega arith) (λ d held1.
    s-le which (calling-of which) _ _ _ (s-arguments which names inside here ts d as' h1 held1) (omega arith))

pub s-complete : (which : Tally) (x0 : ℕ) (x1 : ℕ) (x2 : Option ℕ) (x3 : Calling) → (maybe-part which).Whole x3.actuals → Spends which (maybe-part which) ((maybe-part which).size x3.actuals) (complete x0 x1 x2 x3)
s-complete which at count (Some late) c h3-actuals = s-fault which (part-measure which) _ late WrongType
s-complete which at count None c h3-actuals =
    s-if which (maybe-part which) _ (c.count == count) (pure c.actuals) (fault at WrongType)
    (s-pure which (maybe-part which) _ c.actuals (h3-actuals, omega arith))
    (s-fault which (part-measure which) _ at WrongType)

pub z-call_given : (which : Tally) (x0 : ℕ) (x1 : ℕ) (x2 : ℕ) (x3 : Option Scalar) (x4 : TypedPart) → (part-measure which).Whole x4 → Holds (with-part which) (part-size which x4) (call_given x0 x1 x2 x3 x4)
z-call_given which first last n None xs h4 =
    let made1 = z-denote which (denoted.Done first) (part.AStmt (typed.CallProcedure first last n (as_actuals (turned xs)))) tt in
    (made1.0, omega (arith, made1.1, n-actuals which (turned xs) (w-turned which xs h4), n-turned which xs))
z-call_given which first last n (Some s) xs h4 =
    let made1 = z-scalar which first s.kind (Some s) (typed.Call first last n (as_actuals (turned xs))) tt in
    let made2 = z-value_denoted which (scalar first s.kind (Some s) (typed.Call first last n (as_actuals (turned xs)))) made1.0 in
    (made2.0, omega (arith, made2.1, made1.1, n-actuals which (turned xs) (w-turned which xs h4), n-turned which xs))

pub s-sub_call : (which : Tally) (x0 : Names) (x1 : Inside) (x2 : Context) (x3 : ℕ) (x4 : ℕ) (x5 : ℕ) (x6 : ℕ) (x7 : Args) → SpendsInside which x1 → Spends which (maybe-known which) 0 (sub_call x0 x1 x2 x3 x4 x5 x6 x7)
unfolding sub_call
s-sub_call which names inside here at first last n as' h1 =
    s-then which (maybe-known which) _ (read (λ log. profile_in log n)) _ (k-read leaving (λ log. profile_in log n)) (λ p.
    s-where_clean which (calling-of which) (with-part which) 0 0 _ (arguments names inside here (takes_in p) begun_call as') _ (s-le which (calling-of which) _ _ _ (s-arguments which names inside here (takes_in p) begun_call as' h1 tt) (omega arith)) (omega arith) (λ c held2.
    s-bind which (maybe-part which) (maybe-known which) ((maybe-part which).size c.actuals) 0 _ (complete at (length (takes_in p)) c.late c) _ (s-le which (maybe-part which) _ _ _ (s-complete which at (length (takes_in p)) c.late c held2) (omega arith)) (omega arith) (λ xs held3.
    s-given which (part-measure which) (with-part which) 0 _ xs _ held3 (omega arith) (λ ys held4.
    s-some which (with-part which) _ (call_given first last n (gives_in p) ys) (let made5 = z-call_given which first last n (gives_in p) ys held4 in
    (made5.0, omega (arith, made5.1)))))))

pub z-with_operand : (which : Tally) (fs : Option (List Found)) (f : Option Found) → (option-of (list-of (with-part which))).Whole fs → (maybe-known which).Whole f → Holds (option-of (list-of (with-part which))) ((option-of (list-of (with-part which))).size fs + (maybe-known which).size f) (with_operand fs f)
z-with_operand which None f h i = (tt, omega arith)
z-with_operand which (Some fs) None h i = (tt, omega arith)
z-with_operand which (Some fs) (Some f) h i = (list-whole (with-part which) fs (f ∷ []) h (i, tt), omega (arith, list-sum (with-part which) fs (f ∷ [])))

pub s-operands : (which : Tally) (x0 : Names) (x1 : Inside) (x2 : Context) (x3 : Option (List Found)) (x4 : Args) → SpendsInside which x1 → (option-of (list-of (with-part which))).Whole x3 → Spends which (option-of (list-of (with-part which))) ((option-of (list-of (with-part which))).size x3) (operands x0 x1 x2 x3 x4)
s-operands which names inside here made syntax.NoArg h1 h3 = s-pure which (option-of (list-of (with-part which))) _ made (h3, omega arith)
s-operands which names inside here made (syntax.AlsoArg (syntax.arg name e) as') h1 h3 =
    s-bind which (maybe-known which) (option-of (list-of (with-part which))) 0 ((option-of (list-of (with-part which))).size made) _ (expr names inside here wanted.Other e) _ (s-le which (maybe-known which) _ _ _ (s-expr which names inside here wanted.Other e h1) (omega arith)) (omega arith) (λ x held1.
    let made2 = z-with_operand which made x h3 held1 in
    s-le which (option-of (list-of (with-part which))) _ _ _ (s-operands which names inside here (with_operand made x) as' h1 made2.0) (omega (arith, made2.1)))

pub z-conversion_of : (which : Tally) (x0 : ℕ) (x1 : Kind) (x2 : Scalar) (x3 : TypedPart) → (part-measure which).Whole x3 → Holds (with-part which) (part-size which x3) (conversion_of x0 x1 x2 x3)
z-conversion_of which first k s e h3 =
    let made1 = z-scalar which first s.kind (Some s) (typed.Convert (record { at = first; scalar = converted_from k s }) (as_expr e)) tt in
    let made2 = z-value_denoted which (scalar first s.kind (Some s) (typed.Convert (record { at = first; scalar = converted_from k s }) (as_expr e))) made1.0 in
    (made2.0, omega (arith, made2.1, made1.1, n-expr which e))

pub s-converted : (which : Tally) (x0 : ℕ) (x1 : Scalar) (x2 : Found) → (with-part which).Whole x2 → Spends which (maybe-known which) (part-size which x2.part) (converted x0 x1 x2)
s-converted which first s f h2 =
    s-if which (maybe-known which) _ (is_number f.known) ((settled_found f) >>= λ e. given e (λ x. some (conversion_of first (own_kind f.known) s x))) (fault (first_of f.known) WrongType)
    (s-bind which (maybe-part which) (maybe-known which) (part-size which f.part) 0 _ (settled_found f) _ (s-le which (maybe-part which) _ _ _ (s-settled_found which f h2) (omega arith)) (omega arith) (λ e held1.
    s-given which (part-measure which) (with-part which) 0 _ e _ held1 (omega arith) (λ x held2.
    s-some which (with-part which) _ (conversion_of first (own_kind f.known) s x) (let made3 = z-conversion_of which first (own_kind f.known) s x held2 in
    (made3.0, omega (arith, made3.1))))))
    (s-fault which (with-part which) _ (first_of f.known) WrongType)

pub s-one_operand : (which : Tally) (x0 : ℕ) (x1 : ℕ) (x2 : Scalar) (x3 : List (Option ℕ)) (x4 : List Found) → (list-of (with-part which)).Whole x4 → Spends which (maybe-known which) ((list-of (with-part which)).size x4) (one_operand x0 x1 x2 x3 x4)
s-one_operand which bracket first s (Some name ∷ ns) fs h4 = s-fault which (with-part which) _ name WrongType
s-one_operand which bracket first s (None ∷ []) (f ∷ []) h4 = s-le which (maybe-known which) _ _ _ (s-converted which first s f h4.0) (omega arith)
s-one_operand which bracket first s any1 fs h4 = s-fault which (with-part which) _ bracket WrongType

pub s-scalar_conversion : (which : Tally) (x0 : Names) (x1 : Inside) (x2 : Context) (x3 : ℕ) (x4 : ℕ) (x5 : Scalar) (x6 : Args) → SpendsInside which x1 → Spends which (maybe-known which) 0 (scalar_conversion x0 x1 x2 x3 x4 x5 x6)
s-scalar_conversion which names inside here bracket first s as' h1 =
    s-where_clean which (option-of (list-of (with-part which))) (with-part which) 0 0 _ (operands names inside here (Some []) as') _ (s-le which (option-of (list-of (with-part which))) _ _ _ (s-operands which names inside here (Some []) as' h1 tt) (omega arith)) (omega arith) (λ fs held1.
    s-given which (list-of (with-part which)) (with-part which) 0 _ fs _ held1 (omega arith) (λ gs held2.
    s-if which (maybe-known which) _ (is_integer s.kind) (one_operand bracket first s (arg_names as') gs) (fault first WrongType)
    (s-le which (maybe-known which) _ _ _ (s-one_operand which bracket first s (arg_names as') gs held2) (omega arith))
    (s-fault which (with-part which) _ first WrongType)))

pub s-conversion : (which : Tally) (x0 : Names) (x1 : Inside) (x2 : Context) (x3 : ℕ) (x4 : ℕ) (x5 : Subtype) (x6 : Args) → SpendsInside which x1 → Spends which (maybe-known which) 0 (conversion x0 x1 x2 x3 x4 x5 x6)
unfolding conversion
s-conversion which names inside here bracket first (subtype.Scalar s) as' h1 = s-le which (maybe-known which) _ _ _ (s-scalar_conversion which names inside here bracket first s as' h1) (omega arith)
s-conversion which names inside here bracket first (subtype.Composite n) as' h1 = s-le which (maybe-known which) _ _ _ (s-wrong_call which names inside here first as' h1) (omega arith)
