-- What is judged without a fault is found: calls and conversions.
use Rattle.std.proofs.Common.{◌≡◌, refl, ◌≤◌, ℕ, zero, suc, List, [], ◌∷◌, length, Option, Some, None, Bool, true, false, if◌then◌else◌, ◌==◌, ◌+◌, slice_get, nat_lt, leb-true, arith}
use Rattle.std.specs.Prelude.{not, ◌||◌, is_some}
use Rattle.syntax_tree.specs.FirstTokens as first_token
use Rattle.syntax_tree.specs.Syntax as syntax
use Rattle.typed_tree.specs.Decoded as part
use Rattle.typed_tree.specs.Decoded.{TypedPart}
use Rattle.typed_tree.specs.Syntax as typed
use Rattle.name_rules.specs.Expressions.{Inside, expr, judged_alone, value_for}
use Rattle.name_rules.specs.Found.{Found}
use Rattle.name_rules.specs.Judging.{◌>>=◌, fault, given, pure, read}
use Rattle.name_rules.specs.Symbols.{symbol}
use Rattle.name_rules.specs.TypedParts.{also, selections_of}
use Rattle.name_rules.specs.Values as v
use Rattle.name_rules.specs.Values.{first_of, is_number}
use Rattle.name_rules.specs.declared.found.Found.TheVariants as known
use Rattle.name_rules.specs.declared.found.Found.{Found as Known}
use Rattle.name_rules.specs.declared.found.ObjectName.{ObjectName}
use Rattle.name_rules.specs.declared.log.Rule.TheVariants as rule
use Rattle.name_rules.specs.declared.scope.Context.{Context}
use Rattle.name_rules.specs.declared.scope.Names.{Names}
use Rattle.name_rules.specs.declared.types.Scalar.{Scalar}
use Rattle.name_rules.specs.declared.types.Subtype.TheVariants as subtype
use Rattle.name_rules.specs.declared.types.Subtype.{Subtype}
use Rattle.name_rules.specs.declared.types.Wanted.TheVariants as wanted
use Rattle.name_complete.proofs.Explains.{Any, Is, Sound, joint, no, ok, s-any, s-bind, s-fault, s-given, s-if, s-pure, s-read, s-some, s-unless, s-weaken, s-where_clean}
use Rattle.name_complete.proofs.Facts.{Clear, DenotedOf, FoundFor, FoundOk, LevelSound}
use Rattle.std.specs.Prelude.{cond}
use Rattle.std.specs.List.{list_any, position}
use Rattle.syntax_tree.specs.Syntax.{Arg, Args, Expr}
use Rattle.typed_tree.specs.Syntax.{Selections}
use Rattle.typed_tree.specs.declared.program.Mode.TheVariants as mode
use Rattle.typed_tree.specs.declared.program.Mode.{Mode}
use Rattle.name_rules.specs.Calls as a
use Rattle.name_rules.specs.Calls.{Calling}
use Rattle.name_rules.specs.Types.{is_integer, same, wanted_of}
use Rattle.name_rules.specs.declared.log.Taken.{Taken}
use Rattle.name_complete.proofs.SoundExpressions.{plain-of, s-expr, s-judged_alone, s-value_for}
use Rattle.name_complete.proofs.SoundNames.{s-wrong_call}
use Rattle.name_complete.proofs.SoundValues.{s-settled_found}

wrong : (G : Type 0) (at : ℕ) → Sound G (Is DenotedOf) (fault at rule.WrongType)
wrong G at = s-fault G (Is DenotedOf) at rule.WrongType

-- ---- actual parameters

s-place_given : (G : Type 0) (t : Taken) (p : ObjectName) (ss : Selections) (s u : Subtype) → Sound G (Is Any) (a.place_given t p ss s u)
s-place_given G t p ss (subtype.Scalar s) (subtype.Scalar u) = s-if G (Is Any) (same s.kind u.kind) _ _ (ok G _) (no G p.first rule.WrongType)
s-place_given G t p ss (subtype.Composite n) (subtype.Composite m) = s-if G (Is Any) (n == m) _ _ (ok G _) (no G p.first rule.WrongType)
s-place_given G t p ss s u = no G p.first rule.WrongType

s-variable_form : (G : Type 0) (t : Taken) (f : Known) (x : TypedPart) → Sound G (Is Any) (a.variable_form t f x)
s-variable_form G t (known.Object p) x = s-if G (Is Any) p.variable _ _ (s-place_given G t p (selections_of x) t.subtype p.subtype) (no G p.first rule.WrongType)
s-variable_form G t f x = no G _ rule.WrongType

s-variable_given : (G : Type 0) (t : Taken) (f : Found) → Sound G (Is Any) (a.variable_given t f)
unfolding a.variable_given
s-variable_given G t f = s-variable_form G t f.known f.part

s-variable : (G : Type 0) (names : Names) (inside : Inside) (here : Context) (t : Taken) (e : Expr) → LevelSound inside → (G → Clear here) → Sound G (Is Any) (expr names inside here (wanted_of t.subtype) e >>= λ x. given x (a.variable_given t))
s-variable G names inside here t e l c =
    s-bind G (Is (FoundFor (wanted_of t.subtype))) (Is Any) (expr names inside here (wanted_of t.subtype) e) _ (s-expr G names inside here (wanted_of t.subtype) e l c (λ g. plain-of t.subtype)) (λ x.
    s-given _ (FoundFor (wanted_of t.subtype)) Any x _ (λ g. g.1) (λ f. s-variable_given _ t f))

s-actual_by : (G : Type 0) (names : Names) (inside : Inside) (here : Context) (t : Taken) (m : Mode) (e : Expr) → LevelSound inside → (G → Clear here) → Sound G (Is Any) (a.actual_by names inside here t m e)
s-actual_by G names inside here t mode.In e l c =
    s-bind G (Is Any) (Is Any) (value_for names inside here t.subtype e) _ (s-value_for G names inside here t.subtype e l c) (λ y. s-given _ Any Any y _ (λ g. g.1) (λ x. ok _ (part.AnActual (typed.In t.object (part.as_value x)))))
s-actual_by G names inside here t mode.Out e l c = s-variable G names inside here t e l c
s-actual_by G names inside here t mode.InOut e l c = s-variable G names inside here t e l c

s-actual_for : (G : Type 0) (names : Names) (inside : Inside) (here : Context) (t : Option Taken) (e : Expr) → LevelSound inside → (G → Clear here) → (G → Is Any t) → Sound G (Is Any) (a.actual_for names inside here t e)
unfolding a.actual_for
s-actual_for G names inside here None e l c h = s-bind G Any (Is Any) (judged_alone names inside here e) _ (s-judged_alone G names inside here e l) (λ u. s-pure _ (Is Any) None (λ g. h g.0))
s-actual_for G names inside here (Some t) e l c h = s-actual_by G names inside here t t.mode e l c

-- ---- which parameter an argument is for

-- one that there is
abbrev Reached : List Taken → Option ℕ → Type 0
Reached ts None = Unit {0}
Reached ts (Some i) = Is Any (slice_get ts i)

abbrev Filled : Option ℕ → Option TypedPart → Type 0
Filled None x = Unit {0}
Filled (Some i) x = Is Any x

reached-at : (ts : List Taken) (i : ℕ) → suc i ≤ length ts → Is Any (slice_get ts i)
reached-at [] i h = absurd (omega (arith, h))
reached-at (t ∷ ts) zero h = tt
reached-at (t ∷ ts) (suc i) h = reached-at ts i (omega (arith, h))

below : (ts : List Taken) (i : ℕ) → nat_lt i (length ts) ≡ true → Is Any (slice_get ts i)
below ts i h = reached-at ts i (leb-true (suc i) (length ts) h)

reached-if : (ts : List Taken) (i : ℕ) (b : Bool) → nat_lt i (length ts) ≡ b → Reached ts (cond b (Some i) None)
reached-if ts i true e = below ts i e
reached-if ts i false e = tt

s-found_or_unknown : (G : Type 0) (ts : List Taken) (name : ℕ) (i : Option ℕ) → (G → Reached ts i) → Sound G (Reached ts) (a.found_or_unknown name i)
s-found_or_unknown G ts name None h = s-fault G (Reached ts) name rule.Unknown
s-found_or_unknown G ts name (Some i) h = s-pure G (Reached ts) (Some i) h

s-counted : (G : Type 0) (ts : List Taken) (i : ℕ) (b : Bool) → nat_lt i (length ts) ≡ b → Sound G (Reached ts) (pure (if b then Some i else None))
s-counted G ts i true e = s-pure G (Reached ts) (Some i) (λ g. below ts i e)
s-counted G ts i false e = s-pure G (Reached ts) None (λ g. tt)

s-parameter_of : (G : Type 0) (names : Names) (ts : List Taken) (i : ℕ) (named : Bool) (name : Option ℕ) → Sound G (Reached ts) (a.parameter_of names ts i named name)
s-parameter_of G names ts i named (Some name) =
    let p : Taken → Bool = λ t. t.symbol == symbol names name in
    s-found_or_unknown G ts name (position p ts) (λ g. reached-if ts _ _ refl)
s-parameter_of G names ts i true None = s-pure G (Reached ts) None (λ g. tt)
s-parameter_of G names ts i false None = s-counted G ts i (nat_lt i (length ts)) refl

s-given_once : (G : Type 0) (first : ℕ) (taken : List ℕ) (i : Option ℕ) → Sound G Any (a.given_once first taken i)
s-given_once G first taken None = s-pure G Any tt (λ g. tt)
s-given_once G first taken (Some i) = s-any G _ _ (s-unless G (not (list_any (λ j. i == j) taken)) first rule.Twice)

s-actual : (G : Type 0) (names : Names) (inside : Inside) (here : Context) (ts : List Taken) (i : Option ℕ) (e : Expr) → LevelSound inside → (G → Clear here) → (G → Reached ts i) → Sound G (Filled i) (a.actual_for names inside here (a.taken_at ts i) e)
unfolding a.actual_for
s-actual G names inside here ts None e l c h = s-bind G Any (Filled None) (judged_alone names inside here e) _ (s-judged_alone G names inside here e l) (λ u. s-pure _ (Filled None) None (λ g. tt))
s-actual G names inside here ts (Some i) e l c h = s-weaken G (Is Any) (Filled (Some i)) (a.actual_for names inside here (slice_get ts i) e) (s-actual_for G names inside here (slice_get ts i) e l c h) (λ x g q. q)

filled-in : (i : Option ℕ) (made x : Option TypedPart) → Is Any made → Filled i x → Is Any (a.with_actual i made x)
filled-in None made x h k = h
filled-in (Some i) made x h k = joint Any Any Any also made x h k (λ a b p q. tt)

abbrev CallingOf : Calling → Type 0
CallingOf c = Is Any c.actuals

s-argument : (G : Type 0) (names : Names) (inside : Inside) (here : Context) (ts : List Taken) (d : Calling) (x : Arg) → LevelSound inside → (G → Clear here) → (G → CallingOf d) → Sound G CallingOf (a.argument names inside here ts d x)
unfolding a.argument
s-argument G names inside here ts d (syntax.arg name e) l c h =
    let first = first_token.of_arg (syntax.arg name e) in
    s-bind G (Reached ts) CallingOf (a.parameter_of names ts d.count d.named name) _ (s-parameter_of G names ts d.count d.named name) (λ i.
    s-bind _ Any CallingOf (a.given_once first d.taken i) _ (s-given_once _ first d.taken i) (λ u.
    s-bind _ (Filled i) CallingOf (a.actual_for names inside here (a.taken_at ts i) e) _ (s-actual _ names inside here ts i e l (λ g. c g.0.0) (λ g. g.0.1)) (λ x.
    s-pure _ CallingOf (record { count = d.count + 1; taken = a.also_taken d.taken i; named = d.named || is_some name; late = a.late_at d.late d.named name first; actuals = a.with_actual i d.actuals x })
    (λ g. filled-in i d.actuals x (h g.0.0.0) g.1))))

s-arguments : (G : Type 0) (names : Names) (inside : Inside) (here : Context) (ts : List Taken) (d : Calling) (as' : Args) → LevelSound inside → (G → Clear here) → (G → CallingOf d) → Sound G CallingOf (a.arguments names inside here ts d as')
s-arguments G names inside here ts d syntax.NoArg l c h = s-pure G CallingOf d h
s-arguments G names inside here ts d (syntax.AlsoArg x as') l c h = s-bind G CallingOf CallingOf (a.argument names inside here ts d x) _ (s-argument G names inside here ts d x l c h) (λ e. s-arguments _ names inside here ts e as' l (λ g. c g.0) (λ g. g.1))

s-complete : (G : Type 0) (at count : ℕ) (late : Option ℕ) (d : Calling) → (G → CallingOf d) → Sound G (Is Any) (a.complete at count late d)
s-complete G at count (Some late) d h = no G late rule.WrongType
s-complete G at count None d h = s-if G (Is Any) (d.count == count) _ _ (s-pure G (Is Any) d.actuals h) (no G at rule.WrongType)

call-ok : (first last n : ℕ) (s : Option Scalar) (xs : TypedPart) → DenotedOf (a.call_given first last n s xs)
call-ok first last n None xs = tt
call-ok first last n (Some s) xs = tt

pub s-sub_call : (G : Type 0) (names : Names) (inside : Inside) (here : Context) (at first last n : ℕ) (as' : Args) → LevelSound inside → (G → Clear here) → Sound G (Is DenotedOf) (a.sub_call names inside here at first last n as')
unfolding a.sub_call
s-sub_call G names inside here at first last n as' l c =
    s-bind G Any (Is DenotedOf) (read (λ log. a.profile_in log n)) _ (s-read G Any (λ log. a.profile_in log n) (λ log g. tt)) (λ p.
    s-where_clean _ CallingOf DenotedOf (a.arguments names inside here (a.takes_in p) a.begun_call as') _ (s-arguments _ names inside here (a.takes_in p) a.begun_call as' l (λ g. c g.0) (λ g. tt)) (λ d.
    s-bind _ (Is Any) (Is DenotedOf) (a.complete at (length (a.takes_in p)) d.late d) _ (s-complete _ at (length (a.takes_in p)) d.late d (λ g. g.1)) (λ xs.
    s-given _ Any DenotedOf xs _ (λ g. g.1) (λ ys. s-some _ DenotedOf (a.call_given first last n (a.gives_in p) ys) (λ g. call-ok first last n (a.gives_in p) ys)))))

-- ---- operands

with-operand : (done : Option (List Found)) (x : Option Found) → Is Any done → Is FoundOk x → Is Any (a.with_operand done x)
with-operand None x h k = h
with-operand (Some fs) None h k = k
with-operand (Some fs) (Some f) h k = tt

pub s-operands : (G : Type 0) (names : Names) (inside : Inside) (here : Context) (done : Option (List Found)) (as' : Args) → LevelSound inside → (G → Clear here) → (G → Is Any done) → Sound G (Is Any) (a.operands names inside here done as')
s-operands G names inside here done syntax.NoArg l c h = s-pure G (Is Any) done h
s-operands G names inside here done (syntax.AlsoArg (syntax.arg name e) as') l c h =
    s-bind G (Is FoundOk) (Is Any) (expr names inside here wanted.Other e) _ (s-expr G names inside here wanted.Other e l c (λ g. tt)) (λ x.
    s-operands _ names inside here (a.with_operand done x) as' l (λ g. c g.0) (λ g. with-operand done x (h g.0) g.1))

-- ---- conversions

s-converted : (G : Type 0) (first : ℕ) (s : Scalar) (f : Found) → Sound G (Is DenotedOf) (a.converted first s f)
s-converted G first s f =
    s-if G (Is DenotedOf) (is_number f.known) _ _ (s-bind G (Is Any) (Is DenotedOf) (v.settled_found f) _ (s-settled_found G f) (λ e. s-given _ Any DenotedOf e _ (λ g. g.1) (λ x. s-some _ DenotedOf (a.conversion_of first (v.own_kind f.known) s x) (λ g. tt))))
    (wrong G (first_of f.known))

s-one_operand : (G : Type 0) (bracket first : ℕ) (s : Scalar) (ns : List (Option ℕ)) (fs : List Found) → Sound G (Is DenotedOf) (a.one_operand bracket first s ns fs)
s-one_operand G bracket first s (Some name ∷ ns) fs = wrong G name
s-one_operand G bracket first s (None ∷ []) (f ∷ []) = s-converted G first s f
s-one_operand G bracket first s ns fs = wrong G bracket

s-scalar_conversion : (G : Type 0) (names : Names) (inside : Inside) (here : Context) (bracket first : ℕ) (s : Scalar) (as' : Args) → LevelSound inside → (G → Clear here) → Sound G (Is DenotedOf) (a.scalar_conversion names inside here bracket first s as')
s-scalar_conversion G names inside here bracket first s as' l c =
    s-where_clean G (Is Any) DenotedOf (a.operands names inside here (Some []) as') _ (s-operands G names inside here (Some []) as' l c (λ g. tt)) (λ fs.
    s-given _ Any DenotedOf fs _ (λ g. g.1) (λ gs. s-if _ (Is DenotedOf) (is_integer s.kind) _ _ (s-one_operand _ bracket first s (a.arg_names as') gs) (wrong _ first)))

pub s-conversion : (G : Type 0) (names : Names) (inside : Inside) (here : Context) (bracket first : ℕ) (s : Subtype) (as' : Args) → LevelSound inside → (G → Clear here) → Sound G (Is DenotedOf) (a.conversion names inside here bracket first s as')
unfolding a.conversion
s-conversion G names inside here bracket first (subtype.Scalar s) as' l c = s-scalar_conversion G names inside here bracket first s as' l c
s-conversion G names inside here bracket first (subtype.Composite n) as' l c = s-wrong_call G names inside here first as' l
