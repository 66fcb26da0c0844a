-- What is found of subprograms and programs: their exits stay in their bodies, and their statements stand in order.
use Rattle.std.proofs.Common.{◌≡◌, refl, sym, subst, ◌∙◌, ℕ, zero, suc, ◌-◌, List, [], ◌∷◌, ◌++◌, length, map, Option, Some, None, Bool, true, false, option_map}
use Rattle.ada_meaning.specs.Meaning.{sub_at}
use Rattle.syntax_tree.specs.Parsed.{depth_limit}
use Rattle.syntax_tree.specs.Syntax as syntax
use Rattle.syntax_tree.specs.Syntax.{Aspect, Body, Decl, Expr, Formal, Formals, Main, Program, Sub, Unit'}
use Rattle.syntax_tree.specs.declared.operators.Mode.{Mode as FormalMode}
use Rattle.syntax_tree.specs.declared.operators.Mode.TheVariants as mode'
use Rattle.typed_tree.specs.Decoded.{TypedPart}
use Rattle.typed_tree.specs.Syntax as typed
use Rattle.typed_tree.specs.Syntax.{Sub as TypedSub}
use Rattle.typed_tree.specs.declared.program.Mode.{Mode}
use Rattle.typed_tree.specs.declared.program.Mode.TheVariants as mode
use Rattle.name_rules.specs.Expressions.{Inside, expr, judged_alone, value_for}
use Rattle.syntax_tree.specs.FirstTokens as first_token
use Rattle.name_rules.specs.Declarations.{all_ids, begun_names, declaration, declarations, new_object}
use Rattle.name_rules.specs.Judging.{◌>>=◌, joined, pure}
use Rattle.name_rules.specs.Primaries.{inside}
use Rattle.name_rules.specs.Programs as p
use Rattle.name_rules.specs.Programs.{Declared', Profiled, Whole}
use Rattle.name_rules.specs.Resolved.{TypedOf, fresh, judged, typed_by, typed_where}
use Rattle.name_rules.specs.Scope.{free, subtype_named}
use Rattle.name_rules.specs.Statements.{around, body, no_decls, stmt}
use Rattle.name_rules.specs.Types.{typed_scalar, wanted_of}
use Rattle.name_rules.specs.Values.{stored}
use Rattle.name_rules.specs.declared.scope.Returns.{Returns}
use Rattle.name_rules.specs.declared.scope.Returns.TheVariants as returns
use Rattle.name_rules.specs.declared.types.Subtype.TheVariants as subtype
use Rattle.name_rules.specs.declared.log.Fault.{Fault}
use Rattle.name_rules.specs.declared.log.Log.{Log}
use Rattle.name_rules.specs.declared.log.Taken.{Taken}
use Rattle.name_rules.specs.declared.scope.Context.{Context}
use Rattle.name_rules.specs.declared.scope.Names.{Names}
use Rattle.name_rules.specs.declared.types.Scalar.{Scalar}
use Rattle.name_rules.specs.declared.types.Subtype.{Subtype}
use Rattle.name_laws.proofs.KeepsDeclarations.{k-begun_names, k-declaration}
use Rattle.name_laws.proofs.KeepsPrimaries.{k-inside}
use Rattle.name_laws.proofs.KeepsPrograms as k
use Rattle.name_laws.proofs.KeepsScope.{k-free, k-subtype_named}
use Rattle.name_laws.proofs.Makes.{Any, Maybe, joint, mapped}
use Rattle.typed_scopes.specs.Outs.{OutAll, OutHandlers, StaysIn}
use Rattle.name_flow.specs.Law.{FlowLaw}
use Rattle.name_flow.specs.Order.{AllIn, AreIn, IsOrdered, OrderedAll, OrderedHandlers, OrderedSub}
use Rattle.name_flow.proofs.Finds.{And, Clean, Finds, any, c-any, c-bind, c-fact, c-pure, not-none, staying, staying-profiles}
use Rattle.name_flow.proofs.FlowDeclarations.{Same, clauses-loops, one-declaration-loops}
use Rattle.name_flow.proofs.FlowNames.{Tells, t-bind, t-given-any, t-none}
use Rattle.name_flow.proofs.FlowStatements.{AllMay, BodyIn, IsScalar, Near, Sight, around-finds, c-body, c-declarations, near-same, scalar-stored}

-- no loop is around a body, and no handler
abbrev outside : Sight
outside = record { may = λ n. ⊥; handled = false }

abbrev None' : ℕ → Type 0
None' n = ⊥

near-outside : (here : Context) → here.loops ≡ [] → here.in_handler ≡ false → Near outside here
near-outside here l h = record { loops = subst (AllMay None') (sym l) tt; handler = λ e. sym h ∙ e }

-- ---- formal parameters of functions are of mode `in`

abbrev TakesIn : Bool → List Taken → Type 0
TakesIn function [] = Unit {0}
TakesIn true (t ∷ ts) = (t.mode ≡ mode.In) × TakesIn true ts
TakesIn false (t ∷ ts) = Unit {0}

takes-more : (function : Bool) (ts : List Taken) (t : Taken) → TakesIn function ts → (function ≡ true → t.mode ≡ mode.In) → TakesIn function (ts ++ t ∷ [])
takes-more true [] t h e = (e refl, tt)
takes-more true (x ∷ ts) t h e = (h.0, takes-more true ts t h.1 e)
takes-more false [] t h e = tt
takes-more false (x ∷ ts) t h e = tt

abbrev FormalsIn : {A : Type 0} → Bool → A × Option (List Taken) → Type 0
FormalsIn function r = Maybe (TakesIn function) r.1

c-mode_rule : (G : Type 0) (function : Bool) (m : Option FormalMode) → Finds G (λ u. function ≡ true → p.mode_of m ≡ mode.In) (p.mode_rule function m)
c-mode_rule G function m = record { keeps = k.k-mode_rule staying.walk function m; at = λ log l g. by function m log l }
  where
    by : (function : Bool) (m : Option FormalMode) (log : Log) → Clean (p.mode_rule function m log).1 → function ≡ true → p.mode_of m ≡ mode.In
    by true (Some (mode'.Out at)) log l e = absurd (not-none log.faults _ l)
    by true (Some (mode'.InOut at)) log l e = absurd (not-none log.faults _ l)
    by true (Some (mode'.In at)) log l e = refl
    by true None log l e = refl
    by false m log l e = absurd cc

-- what is taken has the mode that was written
formal-mode : (names : Names) (here : Context) (token : ℕ) (f : Option ℕ) (m : Mode) (s : Option Subtype) (log : Log) → Maybe (λ t. t.mode ≡ m) (p.one_formal names here token f m s log).0.1
formal-mode names here token f m None log = tt
formal-mode names here token f m (Some s) log = by (new_object names here token s (p.is_constant m) None log).0
  where
    by : (o : Option ℕ) → Maybe (λ t. t.mode ≡ m) (p.formal_entry names here token f m s 0 o).1
    by None = tt
    by (Some o) = refl

each-formal : (function : Bool) (names : Names) (here : Context) (m : Mode) (s : Option Subtype) (made : Option (List Taken)) (ts : List ℕ) (fs : List (Option ℕ)) (log : Log) → (function ≡ true → m ≡ mode.In) → Maybe (TakesIn function) made
    → FormalsIn function (p.each_formal names here m s made ts fs log).0
each-formal function names here m s made [] fs log e h = h
each-formal function names here m s made (t ∷ ts) [] log e h = h
each-formal function names here m s made (t ∷ ts) (f ∷ fs) log e h =
    let r = p.one_formal names here t f m s log in
    each-formal function names r.0.0 m s (joined p.also_taken_by made r.0.1) ts fs r.1 e
    (joint (TakesIn function) (λ t. t.mode ≡ m) (TakesIn function) p.also_taken_by made r.0.1 h (formal-mode names here t f m s log) (λ us u g i. takes-more function us u g (λ z. i ∙ e z)))

c-formal : (G : Type 0) (names : Names) (function : Bool) (start : ℕ) (here : Context) (made : Option (List Taken)) (f : Formal) → (G → Maybe (TakesIn function) made) → Finds G (FormalsIn function) (p.formal names function start here made f)
c-formal G names function start here made f h =
    c-bind G Any (FormalsIn function) (begun_names names start here [] (all_ids f.names)) _ (c-any G (begun_names names start here [] (all_ids f.names)) (k-begun_names staying.walk names start here [] (all_ids f.names) tt)) (λ r.
    c-bind _ (λ u. function ≡ true → p.mode_of f.mode ≡ mode.In) (FormalsIn function) (p.mode_rule function f.mode) _ (c-mode_rule _ function f.mode) (λ u.
    c-bind _ Any (FormalsIn function) (subtype_named names r.0 f.mark) _ (c-any _ (subtype_named names r.0 f.mark) (k-subtype_named staying.walk names r.0 f.mark tt)) (λ s.
    record { keeps = k.k-each_formal staying names r.0 (p.mode_of f.mode) s made (all_ids f.names) r.1 tt; at = λ log l g. each-formal function names r.0 (p.mode_of f.mode) s made (all_ids f.names) r.1 log g.old.new (h g.old.old.old) })))

c-formals_from : (G : Type 0) (names : Names) (function : Bool) (start : ℕ) (here : Context) (made : Option (List Taken)) (fs : List Formal) → (G → Maybe (TakesIn function) made) → Finds G (FormalsIn function) (p.formals_from names function start here made fs)
c-formals_from G names function start here made [] h = c-pure G (FormalsIn function) (here, made) h
c-formals_from G names function start here made (f ∷ fs) h =
    c-bind G (FormalsIn function) (FormalsIn function) (p.formal names function start here made f) _ (c-formal G names function start here made f h) (λ r. c-formals_from (And G (FormalsIn function r)) names function start r.0 r.1 fs (λ g. g.new))

c-formals : (G : Type 0) (names : Names) (function : Bool) (here : Context) (fs : Option Formals) → Finds G (FormalsIn function) (p.formals names function here fs)
c-formals G names function here None = c-pure G (FormalsIn function) (here, Some []) (λ g. tt)
c-formals G names function here (Some f) = c-formals_from G names function (length here.scope) here (Some []) (f.first ∷ f.more) (λ g. tt)

-- ---- profiles

abbrev ProfileOf : Option Scalar → List Taken → Type 0
ProfileOf None ts = Unit {0}
ProfileOf (Some s) ts = TakesIn true ts

pub record ProfiledIn (q : Profiled) : Type 0 where
  pub loops : q.inner.loops ≡ []
  pub handler : q.inner.in_handler ≡ false
  pub takes : ProfileOf q.gives q.takes

profile-of : (result : Option ℕ) (r : Option (Option Scalar)) (ts : Option (List Taken)) → (result ≡ None → r ≡ Some None) → Maybe (TakesIn (p.is_function result)) ts → ProfileOf (p.gives_or r) (p.taken_or ts)
profile-of None r ts e h = subst (λ o. ProfileOf (p.gives_or o) (p.taken_or ts)) (sym (e refl)) tt
profile-of (Some mark) None ts e h = tt
profile-of (Some mark) (Some None) ts e h = tt
profile-of (Some mark) (Some (Some s)) None e h = tt
profile-of (Some mark) (Some (Some s)) (Some ts) e h = h

no-result : (names : Names) (here : Context) (result : Option ℕ) (log : Log) → result ≡ None → (p.result_named names here result log).0 ≡ Some None
no-result names here None log e = refl
no-result names here (Some mark) log e = absurd cc

c-profile : (G : Type 0) (names : Names) (start : ℕ) (here : Context) (name : ℕ) (result : Option ℕ) (fs : Option Formals) → Finds G ProfiledIn (p.profile names start here name result fs)
unfolding p.profile
c-profile G names start here name result fs =
    c-bind G Any ProfiledIn p.next_owner _ (c-any G p.next_owner (k.k-next_owner staying.walk)) (λ owner.
    c-bind _ (FormalsIn (p.is_function result)) ProfiledIn (p.formals names (p.is_function result) (record here { owner = owner }) fs) _ (c-formals _ names (p.is_function result) (record here { owner = owner }) fs) (λ f.
    c-bind _ (λ r. result ≡ None → r ≡ Some None) ProfiledIn (p.result_named names f.0 result) _ (c-fact _ (λ r. result ≡ None → r ≡ Some None) (p.result_named names f.0 result) (k.k-result_named staying.walk names f.0 result tt) (no-result names f.0 result)) (λ r.
    c-bind _ Any ProfiledIn (free names start here name) _ (c-any _ (free names start here name) (k-free staying.walk names start here name tt)) (λ one.
    c-bind _ Any ProfiledIn (p.profile_where names here name one f.1 r) _ (c-any _ (p.profile_where names here name one f.1 r) (k.k-profile_where staying.walk names here name one f.1 r tt staying-profiles)) (λ q.
    c-pure _ ProfiledIn (record { outer = q.1; inner = p.behind q.1 (length here.scope) f.0 owner (p.returns_of result r); number = q.0; takes = p.taken_or f.1; gives = p.gives_or r })
    (λ g. record { loops = refl; handler = refl; takes = profile-of result r f.1 g.old.old.new g.old.old.old.new }))))))

-- ---- subprograms

pub record SubIn (s : TypedSub) : Type 0 where
  pub out : OutAll None' s.body.stmts × OutHandlers None' s.body.handlers
  pub ordered : OrderedSub s

all-in : (ts : List Taken) → TakesIn true ts → AllIn (map p.typed_formal ts)
all-in [] h = tt
all-in (t ∷ ts) h = (h.0, all-in ts h.1)

are-in : (s : Option Scalar) (ts : List Taken) → ProfileOf s ts → AreIn (option_map typed_scalar s) (map p.typed_formal ts)
are-in None ts h = tt
are-in (Some s) ts h = all-in ts h

sub-in : (q : Profiled) (z : Bool) (n : ℕ) (x : TypedPart) → ProfiledIn q → BodyIn outside x → SubIn (p.sub_where q z n x)
sub-in q z n x h b = record { out = (b.stmts.0, b.handlers.0); ordered = record { formals = are-in q.gives q.takes h.takes; stmts = b.stmts.1; handlers = b.handlers.1 } }

c-with_body : (G : Type 0) (names : Names) (n : ℕ) (blocking : Bool) (name : ℕ) (q : Profiled) (a : Option Aspect) (ds : List Decl) (b : Body) (last : Option ℕ) → (G → ProfiledIn q) → Finds G (Maybe SubIn) (p.with_body names n blocking name q a ds b last)
unfolding p.with_body
c-with_body G names n blocking name q a ds b last h =
    c-bind G Any (Maybe SubIn) (p.aspect names q.inner blocking a) _ (c-any G (p.aspect names q.inner blocking a) (k.k-aspect staying.walk names q.inner blocking a tt)) (λ z.
    c-bind _ (λ x. Same x.0 q.inner) (Maybe SubIn) (declarations names (p.level_of names n) (length q.outer.scope) q.inner (Some no_decls) ds) _ (c-declarations _ names (p.level_of names n) (length q.outer.scope) q.inner (Some no_decls) ds (k.k-level_of staying.walk names n tt)) (λ x.
    c-bind _ (Maybe (BodyIn outside)) (Maybe SubIn) (body (around names n (stmt names n)) x.0 x.1 b) _ (c-body outside _ (around names n (stmt names n)) x.0 x.1 b (around-finds names n) (λ g. near-same outside x.0 q.inner g.new (near-outside q.inner (h g.old.old).loops (h g.old.old).handler))) (λ y.
    c-bind _ Any (Maybe SubIn) (p.end_name names name last) _ (c-any _ (p.end_name names name last) (k.k-end_name staying.walk names name last tt)) (λ u.
    c-pure _ (Maybe SubIn) (joined (p.sub_where q z) q.number y) (λ g. joint Any (BodyIn outside) SubIn (p.sub_where q z) q.number y (any q.number) g.old.new (λ m c s t. sub-in q z m c (h g.old.old.old.old) t))))))

returned-in : (v : TypedPart) → IsScalar v → BodyIn outside (p.returned_body v)
returned-in v h = record { stmts = ((tt, tt), (h, tt)); handlers = (tt, tt) }

result-value : (names : Names) (level : Inside) (here : Context) (e : Expr) (r : Returns) → Tells (Maybe IsScalar) (p.result_value names level here e r)
unfolding value_for
result-value names level here e (returns.Value t) = t-bind (Maybe IsScalar) (expr names level here (wanted_of (subtype.Scalar t)) e) _ (λ x. t-given-any IsScalar x (stored (subtype.Scalar t) (first_token.of_expr e)) (λ f. scalar-stored t (first_token.of_expr e) f))
result-value names level here e returns.Nothing = t-bind (Maybe IsScalar) (judged_alone names level here e) _ (λ u. t-none IsScalar)
result-value names level here e returns.Faulty = t-bind (Maybe IsScalar) (judged_alone names level here e) _ (λ u. t-none IsScalar)

c-with_value_of : (G : Type 0) (names : Names) (n : ℕ) (blocking : Bool) (q : Profiled) (a : Option Aspect) (e : Expr) → (G → ProfiledIn q) → Finds G (Maybe SubIn) (p.with_value_of names n blocking q a e)
unfolding p.with_value_of
c-with_value_of G names n blocking q a e h =
    c-bind G Any (Maybe SubIn) (p.aspect names q.inner blocking a) _ (c-any G (p.aspect names q.inner blocking a) (k.k-aspect staying.walk names q.inner blocking a tt)) (λ z.
    c-bind _ (Maybe IsScalar) (Maybe SubIn) (p.result_value names (inside names n) q.inner e q.inner.returns) _ (c-fact _ (Maybe IsScalar) (p.result_value names (inside names n) q.inner e q.inner.returns) (k.k-result_value staying.walk names (inside names n) q.inner e q.inner.returns tt (k-inside staying.walk names n tt)) (λ log. (result-value names (inside names n) q.inner e q.inner.returns).at log)) (λ v.
    c-pure _ (Maybe SubIn) (joined (p.sub_where q z) q.number (option_map p.returned_body v))
    (λ g. joint Any (BodyIn outside) SubIn (p.sub_where q z) q.number (option_map p.returned_body v) (any q.number) (mapped IsScalar (BodyIn outside) p.returned_body v g.new (λ x t. returned-in x t)) (λ m c s t. sub-in q z m c (h g.old.old) t))))

abbrev SubOf : Context × Option TypedSub → Type 0
SubOf r = Maybe SubIn r.1

c-bodied : (G : Type 0) (names : Names) (n : ℕ) (blocking : Bool) (start : ℕ) (here : Context) (name : ℕ) (result : Option ℕ) (fs : Option Formals) (a : Option Aspect) (ds : List Decl) (b : Body) (last : Option ℕ)
    → Finds G SubOf (p.profile names start here name result fs >>= λ q. p.with_body names n blocking name q a ds b last >>= λ s. pure (q.outer, s))
c-bodied G names n blocking start here name result fs a ds b last =
    c-bind G ProfiledIn SubOf (p.profile names start here name result fs) _ (c-profile G names start here name result fs) (λ q.
    c-bind _ (Maybe SubIn) SubOf (p.with_body names n blocking name q a ds b last) _ (c-with_body _ names n blocking name q a ds b last (λ g. g.new)) (λ s. c-pure _ SubOf (q.outer, s) (λ g. g.new)))

c-subprogram : (G : Type 0) (names : Names) (n : ℕ) (blocking : Bool) (start : ℕ) (here : Context) (x : Sub) → Finds G SubOf (p.subprogram names n blocking start here x)
unfolding p.subprogram
c-subprogram G names n blocking start here (syntax.Procedure at name fs a ds b last) = c-bodied G names n blocking start here name None fs a ds b last
c-subprogram G names n blocking start here (syntax.Function at name fs result a ds b last) = c-bodied G names n blocking start here name (Some result) fs a ds b last
c-subprogram G names n blocking start here (syntax.ExprFunction at name fs result bracket e a) =
    c-bind G ProfiledIn SubOf (p.profile names start here name (Some result) fs) _ (c-profile G names start here name (Some result) fs) (λ q.
    c-bind _ (Maybe SubIn) SubOf (p.with_value_of names n blocking q a e) _ (c-with_value_of _ names n blocking q a e (λ g. g.new)) (λ s. c-pure _ SubOf (q.outer, s) (λ g. g.new)))

-- ---- the main procedure

abbrev SubsIn : List TypedSub → Type 0
SubsIn [] = Unit {0}
SubsIn (s ∷ ss) = SubIn s × SubsIn ss

subs-more : (ss : List TypedSub) (s : TypedSub) → SubsIn ss → SubIn s → SubsIn (ss ++ s ∷ [])
subs-more [] s h b = (b, tt)
subs-more (x ∷ ss) s h b = (h.0, subs-more ss s h.1 b)

sub-found : (ss : List TypedSub) (i : ℕ) (s : TypedSub) → SubsIn ss → sub_at ss i ≡ Some s → SubIn s
sub-found [] i s h e = absurd cc
sub-found (x ∷ ss) zero s h e = let same : x ≡ s = cc in subst SubIn same h.0
sub-found (x ∷ ss) (suc i) s h e = sub-found ss i s h.1 e

pub record UnitsIn (d : Declared') : Type 0 where
  pub loops : d.here.loops ≡ []
  pub handler : d.here.in_handler ≡ false
  pub subs : Maybe SubsIn d.subs

where-loops : (names : Names) (here : Context) (name : ℕ) (one : Option ℕ) (ts : Option (List Taken)) (r : Option (Option Scalar)) (log : Log) → Same (p.profile_where names here name one ts r log).0.1 here
where-loops names here name (Some f) (Some ts) (Some r) log = record { loops = refl; handler = refl }
where-loops names here name (Some f) (Some ts) None log = record { loops = refl; handler = refl }
where-loops names here name (Some f) None r log = record { loops = refl; handler = refl }
where-loops names here name None ts r log = record { loops = refl; handler = refl }

outer-loops : (names : Names) (n : ℕ) (blocking : Bool) (start : ℕ) (here : Context) (x : Sub) (log : Log) → Same (p.subprogram names n blocking start here x log).0.0 here
unfolding p.subprogram p.profile
outer-loops names n blocking start here (syntax.Procedure at name fs a ds b last) log = where-loops names here name _ _ _ _
outer-loops names n blocking start here (syntax.Function at name fs result a ds b last) log = where-loops names here name _ _ _ _
outer-loops names n blocking start here (syntax.ExprFunction at name fs result bracket e a) log = where-loops names here name _ _ _ _

c-unit_of : (G : Type 0) (names : Names) (n : ℕ) (blocking : Bool) (start : ℕ) (d : Declared') (u : Unit') → (G → UnitsIn d) → Finds G UnitsIn (p.unit_of names n blocking start d u)
c-unit_of G names n blocking start d (syntax.DeclUnit x) h =
    let j = declaration names (p.level_of names n) start d.here d.decls x in
    c-bind G (λ r. Same r.0 d.here) UnitsIn j _ (c-fact G (λ r. Same r.0 d.here) j (k-declaration staying names (p.level_of names n) start d.here d.decls x tt (k.k-level_of staying.walk names n tt)) (λ log. one-declaration-loops names (p.level_of names n) start d.here d.decls x log)) (λ r.
    c-pure _ UnitsIn (record { here = r.0; decls = r.1; subs = d.subs }) (λ g. record { loops = g.new.loops ∙ (h g.old).loops; handler = g.new.handler ∙ (h g.old).handler; subs = (h g.old).subs }))
c-unit_of G names n blocking start d (syntax.SubUnit s) h =
    let j = p.subprogram names (n - 1) blocking start d.here s in
    c-bind G (λ r. Same r.0 d.here × SubOf r) UnitsIn j _ (let m = c-subprogram G names (n - 1) blocking start d.here s in record { keeps = m.keeps; at = λ log l g. (outer-loops names (n - 1) blocking start d.here s log, m.at log l g) }) (λ r.
    c-pure _ UnitsIn (record { here = r.0; decls = d.decls; subs = joined p.also_sub d.subs r.1 }) (λ g. record { loops = g.new.0.loops ∙ (h g.old).loops; handler = g.new.0.handler ∙ (h g.old).handler; subs = joint SubsIn SubIn SubsIn p.also_sub d.subs r.1 (h g.old).subs g.new.1 (λ ss t i b. subs-more ss t i b) }))

c-units : (G : Type 0) (names : Names) (n : ℕ) (blocking : Bool) (start : ℕ) (d : Declared') (us : List Unit') → (G → UnitsIn d) → Finds G UnitsIn (p.units names n blocking start d us)
c-units G names n blocking start d [] h = c-pure G UnitsIn d h
c-units G names n blocking start d (u ∷ us) h = c-bind G UnitsIn UnitsIn (p.unit_of names n blocking start d u) _ (c-unit_of G names n blocking start d u h) (λ e. c-units (And G (UnitsIn e)) names n blocking start e us (λ g. g.new))

pub record WholeIn (w : Whole) : Type 0 where
  pub stmts : OutAll None' w.body.stmts × OrderedAll false w.body.stmts
  pub handlers : OutHandlers None' w.body.handlers × OrderedHandlers w.body.handlers
  pub subs : SubsIn w.subs

c-main : (G : Type 0) (names : Names) (n : ℕ) (here : Context) (m : Main) (s : Bool) → (G → Same here p.outermost) → Finds G (Maybe WholeIn) (p.main names n here m s)
unfolding p.main
c-main G names n here m s h =
    let start : Declared' = record { here = here; decls = Some no_decls; subs = Some [] } in
    c-bind G Any (Maybe WholeIn) (p.aspect names here false m.aspect) _ (c-any G (p.aspect names here false m.aspect) (k.k-aspect staying.walk names here false m.aspect tt)) (λ z.
    c-bind _ UnitsIn (Maybe WholeIn) (p.units names n z (length here.scope) start m.units) _ (c-units _ names n z (length here.scope) start m.units (λ g. record { loops = (h g.old).loops; handler = (h g.old).handler; subs = tt })) (λ d.
    c-bind _ (Maybe (BodyIn outside)) (Maybe WholeIn) (body (around names n (stmt names n)) d.here d.decls m.body) _ (c-body outside _ (around names n (stmt names n)) d.here d.decls m.body (around-finds names n) (λ g. near-outside d.here g.new.loops g.new.handler)) (λ b.
    c-bind _ Any (Maybe WholeIn) (p.end_name names m.defined m.last_name) _ (c-any _ (p.end_name names m.defined m.last_name) (k.k-end_name staying.walk names m.defined m.last_name tt)) (λ u.
    c-pure _ (Maybe WholeIn) (joined (p.whole z s) b d.subs) (λ g. joint (BodyIn outside) SubsIn WholeIn (p.whole z s) b d.subs g.old.new g.old.old.new.subs (λ x ss i t. record { stmts = i.stmts; handlers = i.handlers; subs = t }))))))

c-program : (names : Names) (n : ℕ) (text : Program) → Finds (Unit {0}) (Maybe WholeIn) (p.program names n text)
unfolding p.program
c-program names n text =
    c-bind (Unit {0}) Any (Maybe WholeIn) (p.policy names text.policy) _ (c-any (Unit {0}) (p.policy names text.policy) (k.k-policy staying.walk names text.policy tt)) (λ s.
    c-bind _ (λ here. Same here p.outermost) (Maybe WholeIn) (p.clauses names p.outermost text.clauses) _ (c-fact _ (λ here. Same here p.outermost) (p.clauses names p.outermost text.clauses) (k.k-clauses staying.walk names p.outermost text.clauses tt) (λ log. clauses-loops names p.outermost text.clauses log)) (λ here.
    c-main _ names n here text.main s (λ g. g.new)))

-- ---- the law

-- a text with a typed program has no fault
without-faults : (fs : List Fault) (o : Option typed.Program) (t : typed.Program) → typed_where fs o ≡ Some t → fs ≡ []
without-faults [] o t e = refl
without-faults (f ∷ fs) o t e = absurd (let z : ◌≡◌ {A = Option typed.Program} None (Some t) = e in cc)

pub whole-of : (fs : List Fault) (log : Log) (o : Option Whole) (t : typed.Program) → typed_where fs (option_map (typed_by log) o) ≡ Some t → (w : Whole) × (o ≡ Some w) × (typed_by log w ≡ t)
whole-of [] log (Some w) t e = (w, refl, cc)
whole-of [] log None t e = absurd cc
whole-of (f ∷ fs) log o t e = absurd cc

whole-found : (names : Names) (text : Program) (t : typed.Program) → TypedOf names text ≡ Some t → (w : Whole) × (typed_by (judged names text).1 w ≡ t) × WholeIn w
unfolding judged
whole-found names text t e =
    let r = whole-of (judged names text).1.faults (judged names text).1 (judged names text).0 t e in
    (r.0, r.2, subst (Maybe WholeIn) r.1 ((c-program names depth_limit text).at fresh (without-faults (judged names text).1.faults _ t e) tt))

pub flow_law : FlowLaw
flow_law = record {
  stays = λ names text t e.
      let r = whole-found names text t e in
      subst StaysIn r.1 ((λ s sub h. let x = sub-found r.0.subs s sub r.2.subs h in x.out), r.2.stmts.0, r.2.handlers.0);
  ordered = λ names text t e.
      let r = whole-found names text t e in
      subst IsOrdered r.1 (record { stmts = r.2.stmts.1; handlers = r.2.handlers.1; subs = λ s sub h. (sub-found r.0.subs s sub r.2.subs h).ordered });
}
