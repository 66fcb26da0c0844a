-- What is found fits: subprograms and programs. So the static expressions of a typed program have values of their classes.
use Rattle.std.proofs.Common.{◌≡◌, refl, sym, ap, ◌∙◌, subst, ℤ, pos, int_le, map, ℕ, zero, suc, List, [], ◌∷◌, ◌++◌, length, Option, Some, None, Bool, true, false, option_map, ◌-◌, drop, slice_get, true≢false}
use Rattle.std.proofs.lemmas.Bool.{and_parts}
use Rattle.std.proofs.lemmas.Option.{slice_get-map}
use Rattle.ada_base.specs.Operation.{greatest_of, is_in_base, least_of}
use Rattle.ada_base.specs.declared.operation.Base.TheVariants.{Narrow, Wide}
use Rattle.syntax_tree.specs.Syntax as syntax
use Rattle.syntax_tree.specs.Syntax.{Aspect, Body, Clause, Decl, Expr, Formal, Formals, Main, Pack, Program, Sub, Unit'}
use Rattle.syntax_tree.specs.declared.operators.ClauseWord.{ClauseWord}
use Rattle.syntax_tree.specs.declared.operators.ClauseWord.TheVariants as word
use Rattle.typed_tree.specs.Syntax as typed
use Rattle.typed_tree.specs.Syntax.{Sub as TypedSub}
use Rattle.typed_tree.specs.declared.program.Bounds.{Bounds}
use Rattle.typed_tree.specs.declared.program.Mode.{Mode}
use Rattle.name_rules.specs.Declarations.{all_ids, begun_names, cells_counted, declaration, declarations, ended_name, new_object}
use Rattle.name_rules.specs.Expressions.{Inside, judged_alone}
use Rattle.name_rules.specs.Judging.{◌>>=◌, joined, pure, unless}
use Rattle.name_rules.specs.Primaries.{inside}
use Rattle.name_rules.specs.Programs as p
use Rattle.name_rules.specs.Programs.{Declared', Profiled, Whole}
use Rattle.syntax_tree.specs.Parsed.{depth_limit}
use Rattle.name_rules.specs.Resolved.{dimension_bounds, fresh, judged, typed_subtype}
use Rattle.name_rules.specs.Scope.{free, subtype_named}
use Rattle.name_rules.specs.Statements.{around, body, no_decls, stmt}
use Rattle.name_rules.specs.Types.{in_base, is_modular}
use Rattle.name_rules.specs.declared.log.Dimension.{Dimension}
use Rattle.name_rules.specs.declared.log.Shape.{Shape}
use Rattle.name_rules.specs.declared.log.Shape.TheVariants as shape
use Rattle.name_rules.specs.declared.types.Kind.{Kind}
use Rattle.name_rules.specs.declared.types.Kind.TheVariants as kind
use Rattle.name_rules.specs.declared.log.Rule.TheVariants.{NotVisible}
use Rattle.name_rules.specs.declared.log.Taken.{Taken}
use Rattle.name_rules.specs.declared.scope.Context.{Context}
use Rattle.name_rules.specs.declared.scope.Entry.{Entry}
use Rattle.name_rules.specs.declared.scope.Names.{Names}
use Rattle.name_rules.specs.declared.scope.Returns.{Returns}
use Rattle.name_rules.specs.declared.scope.Returns.TheVariants as returns
use Rattle.name_rules.specs.declared.scope.What.TheVariants as what
use Rattle.name_rules.specs.declared.types.Scalar.{Scalar}
use Rattle.name_rules.specs.declared.types.Subtype.{Subtype}
use Rattle.name_rules.specs.declared.types.Subtype.TheVariants as subtype
use Rattle.name_laws.proofs.Based.{base-between, none-based, spanning}
use Rattle.name_laws.proofs.KeepsDeclarations.{k-cells_counted}
use Rattle.name_laws.proofs.KeepsPrograms.{k-aspect, k-end_name, k-mode_rule, k-next_owner, k-pack, k-policy, k-result_named}
use Rattle.name_laws.proofs.KeepsScope.{k-free}
use Rattle.name_laws.proofs.Lying.{typed-from}
use Rattle.name_laws.proofs.Makes.{Any, Makes, Maybe, joint, m-bind, m-kept, m-none, m-pure, m-unless, mapped}
use Rattle.name_laws.proofs.MakesDeclarations.{DeclaringOf, DeclsOf, declared-based, ended-based, m-begun_names, m-declaration, m-declarations, m-new_object}
use Rattle.name_laws.proofs.MakesExpressions.{LevelFits, m-judged_alone, m-value_for}
use Rattle.name_laws.proofs.MakesPrimaries.{inside-fits}
use Rattle.name_laws.proofs.MakesRanges.{any, are-based}
use Rattle.name_laws.proofs.MakesScope.{m-subtype_named}
use Rattle.name_laws.proofs.MakesStatements.{BodyOf, around-fits, level-fits, m-body}
use Rattle.name_laws.proofs.MakesValues.{ValueOf}
use Rattle.name_laws.specs.Based.{AreBased, AreSpans, ArraysBased, IsBased}
use Rattle.name_laws.specs.Classes.{BodyFits, BoundsFit, ClassesLaw, ProgramFits, SubsFit}

-- ---- formal parameters

abbrev AroundOf : {B : Type 0} → Context × B → Type 0
AroundOf r = AreBased r.0.scope

formal-entry : (names : Names) (here : Context) (token : ℕ) (f : Option ℕ) (m : Mode) (s : Subtype) (n : ℕ) (o : Option ℕ) → AreBased here.scope → AroundOf (p.formal_entry names here token f m s n o)
formal-entry names here token f m s n None h = ended-based names here f None h tt
formal-entry names here token f m s n (Some o) h = ended-based names here f (Some (what.Object o s _ None)) h (none-based s)

m-one_formal : (names : Names) (here : Context) (token : ℕ) (f : Option ℕ) (m : Mode) (s : Option Subtype) → AreBased here.scope → Makes AroundOf (p.one_formal names here token f m s)
m-one_formal names here token f m None h = m-bind Any AroundOf (cells_counted token 0) _ (m-kept (cells_counted token 0) (k-cells_counted spanning token 0)) (λ b q. m-pure AroundOf (ended_name names here f None, None) (ended-based names here f None h tt))
m-one_formal names here token f m (Some s) h =
    m-bind Any AroundOf (new_object names here token s (p.is_constant m) None) _ (m-new_object names here token s (p.is_constant m) None) (λ o q. m-pure AroundOf (p.formal_entry names here token f m s 0 o) (formal-entry names here token f m s 0 o h))

m-each_formal : (names : Names) (here : Context) (m : Mode) (s : Option Subtype) (made : Option (List Taken)) (ts : List ℕ) (fs : List (Option ℕ)) → AreBased here.scope → Makes AroundOf (p.each_formal names here m s made ts fs)
m-each_formal names here m s made [] fs h = m-pure AroundOf (here, made) h
m-each_formal names here m s made (t ∷ ts) [] h = m-pure AroundOf (here, made) h
m-each_formal names here m s made (t ∷ ts) (f ∷ fs) h = m-bind AroundOf AroundOf (p.one_formal names here t f m s) _ (m-one_formal names here t f m s h) (λ r q. m-each_formal names r.0 m s (joined p.also_taken_by made r.1) ts fs q)

m-formal : (names : Names) (function : Bool) (start : ℕ) (here : Context) (made : Option (List Taken)) (f : Formal) → AreBased here.scope → Makes AroundOf (p.formal names function start here made f)
m-formal names function start here made f h =
    m-bind AroundOf AroundOf (begun_names names start here [] (all_ids f.names)) _ (m-begun_names names start here [] (all_ids f.names) h) (λ r q1.
    m-bind Any AroundOf (p.mode_rule function f.mode) _ (m-kept (p.mode_rule function f.mode) (k-mode_rule spanning function f.mode)) (λ u q2.
    m-bind (Maybe IsBased) AroundOf (subtype_named names r.0 f.mark) _ (m-subtype_named names r.0 f.mark q1) (λ s q3. m-each_formal names r.0 (p.mode_of f.mode) s made (all_ids f.names) r.1 q1)))

m-formals_from : (names : Names) (function : Bool) (start : ℕ) (here : Context) (made : Option (List Taken)) (fs : List Formal) → AreBased here.scope → Makes AroundOf (p.formals_from names function start here made fs)
m-formals_from names function start here made [] h = m-pure AroundOf (here, made) h
m-formals_from names function start here made (f ∷ fs) h = m-bind AroundOf AroundOf (p.formal names function start here made f) _ (m-formal names function start here made f h) (λ r q. m-formals_from names function start r.0 r.1 fs q)

m-formals : (names : Names) (function : Bool) (here : Context) (fs : Option Formals) → AreBased here.scope → Makes AroundOf (p.formals names function here fs)
m-formals names function here None h = m-pure AroundOf (here, Some []) h
m-formals names function here (Some f) h = m-formals_from names function (length here.scope) here (Some []) (f.first ∷ f.more) h

-- ---- profiles

abbrev SecondOf : {A : Type 0} → A × Context → Type 0
SecondOf r = AreBased r.1.scope

m-profile_where : (names : Names) (here : Context) (name : ℕ) (one : Option ℕ) (ts : Option (List Taken)) (r : Option (Option Scalar)) → AreBased here.scope → Makes SecondOf (p.profile_where names here name one ts r)
m-profile_where names here name (Some f) (Some ts) (Some r) h = record { at = λ log g. (g, declared-based names here name (Some (what.Sub _)) h tt) }
m-profile_where names here name (Some f) (Some ts) None h = m-pure SecondOf _ (declared-based names here name None h tt)
m-profile_where names here name (Some f) None r h = m-pure SecondOf _ (declared-based names here name None h tt)
m-profile_where names here name None ts r h = m-pure SecondOf (None, here) h

are-dropped : (k : ℕ) (es : List Entry) → AreBased es → AreBased (drop k es)
are-dropped zero es h = h
are-dropped (suc k) [] h = tt
are-dropped (suc k) (e ∷ es) h = are-dropped k es h.1

abbrev ProfiledOf : Profiled → Type 0
ProfiledOf q = AreBased q.outer.scope × AreBased q.inner.scope

m-profile : (names : Names) (start : ℕ) (here : Context) (name : ℕ) (result : Option ℕ) (fs : Option Formals) → AreBased here.scope → Makes ProfiledOf (p.profile names start here name result fs)
unfolding p.profile
m-profile names start here name result fs h =
    m-bind Any ProfiledOf p.next_owner _ (m-kept p.next_owner (k-next_owner spanning)) (λ owner q1.
    m-bind AroundOf ProfiledOf (p.formals names (p.is_function result) (record here { owner = owner }) fs) _ (m-formals names (p.is_function result) (record here { owner = owner }) fs h) (λ f q2.
    m-bind Any ProfiledOf (p.result_named names f.0 result) _ (m-kept (p.result_named names f.0 result) (k-result_named spanning names f.0 result tt)) (λ r q3.
    m-bind Any ProfiledOf (free names start here name) _ (m-kept (free names start here name) (k-free spanning names start here name tt)) (λ one q4.
    m-bind SecondOf ProfiledOf (p.profile_where names here name one f.1 r) _ (m-profile_where names here name one f.1 r h) (λ x q5.
    m-pure ProfiledOf (record { outer = x.1; inner = p.behind x.1 (length here.scope) f.0 owner (p.returns_of result r); number = x.0; takes = p.taken_or f.1; gives = p.gives_or r })
    (q5, are-based x.1.scope (drop (length here.scope) f.0.scope) q5 (are-dropped (length here.scope) f.0.scope q2)))))))

-- ---- subprograms

abbrev SubOf : TypedSub → Type 0
SubOf s = BodyFits s.body

m-with_body : (names : Names) (n : ℕ) (blocking : Bool) (name : ℕ) (q : Profiled) (a : Option Aspect) (ds : List Decl) (b : Body) (last : Option ℕ) → ProfiledOf q → Makes (Maybe SubOf) (p.with_body names n blocking name q a ds b last)
unfolding p.with_body
m-with_body names n blocking name q a ds b last h =
    m-bind Any (Maybe SubOf) (p.aspect names q.inner blocking a) _ (m-kept (p.aspect names q.inner blocking a) (k-aspect spanning names q.inner blocking a tt)) (λ z q1.
    m-bind DeclaringOf (Maybe SubOf) (declarations names (p.level_of names n) (length q.outer.scope) q.inner (Some no_decls) ds) _ (m-declarations names (p.level_of names n) (length q.outer.scope) q.inner (Some no_decls) ds (level-fits names n) h.1 tt) (λ r q2.
    m-bind (Maybe BodyOf) (Maybe SubOf) (body (around names n (stmt names n)) r.0 r.1 b) _ (m-body (around names n (stmt names n)) r.0 r.1 b (around-fits names n) q2.0 q2.1) (λ x q3.
    m-bind Any (Maybe SubOf) (p.end_name names name last) _ (m-kept (p.end_name names name last) (k-end_name spanning names name last tt)) (λ u q4.
    m-pure (Maybe SubOf) (joined (p.sub_where q z) q.number x) (joint Any BodyOf SubOf (p.sub_where q z) q.number x (any q.number) q3 (λ m y s t. t))))))

m-result_value : (names : Names) (level : Inside) (here : Context) (e : Expr) (r : Returns) → LevelFits level → AreBased here.scope → Makes (Maybe ValueOf) (p.result_value names level here e r)
m-result_value names level here e (returns.Value s) l h = m-value_for names level here (subtype.Scalar s) e l h
m-result_value names level here e returns.Nothing l h = m-bind Any (Maybe ValueOf) (judged_alone names level here e) _ (m-judged_alone names level here e l h) (λ u q. m-none ValueOf)
m-result_value names level here e returns.Faulty l h = m-bind Any (Maybe ValueOf) (judged_alone names level here e) _ (m-judged_alone names level here e l h) (λ u q. m-none ValueOf)

m-with_value_of : (names : Names) (n : ℕ) (blocking : Bool) (q : Profiled) (a : Option Aspect) (e : Expr) → ProfiledOf q → Makes (Maybe SubOf) (p.with_value_of names n blocking q a e)
unfolding p.with_value_of
m-with_value_of names n blocking q a e h =
    m-bind Any (Maybe SubOf) (p.aspect names q.inner blocking a) _ (m-kept (p.aspect names q.inner blocking a) (k-aspect spanning names q.inner blocking a tt)) (λ z q1.
    m-bind (Maybe ValueOf) (Maybe SubOf) (p.result_value names (inside names n) q.inner e q.inner.returns) _ (m-result_value names (inside names n) q.inner e q.inner.returns (inside-fits names n) h.1) (λ v q2.
    m-pure (Maybe SubOf) (joined (p.sub_where q z) q.number (option_map p.returned_body v))
    (joint Any BodyOf SubOf (p.sub_where q z) q.number (option_map p.returned_body v) (any q.number) (mapped ValueOf BodyOf p.returned_body v q2 (λ x s. (tt, (s, tt), tt))) (λ m y s t. t))))

abbrev SubprogramOf : Context × Option TypedSub → Type 0
SubprogramOf r = AreBased r.0.scope × Maybe SubOf r.1

m-bodied : (names : Names) (n : ℕ) (blocking : Bool) (start : ℕ) (here : Context) (name : ℕ) (result : Option ℕ) (fs : Option Formals) (a : Option Aspect) (ds : List Decl) (b : Body) (last : Option ℕ) → AreBased here.scope
    → Makes SubprogramOf (p.profile names start here name result fs >>= λ q. p.with_body names n blocking name q a ds b last >>= λ s. pure (q.outer, s))
m-bodied names n blocking start here name result fs a ds b last h =
    m-bind ProfiledOf SubprogramOf (p.profile names start here name result fs) _ (m-profile names start here name result fs h) (λ q g.
    m-bind (Maybe SubOf) SubprogramOf (p.with_body names n blocking name q a ds b last) _ (m-with_body names n blocking name q a ds b last g) (λ s t. m-pure SubprogramOf (q.outer, s) (g.0, t)))

m-subprogram : (names : Names) (n : ℕ) (blocking : Bool) (start : ℕ) (here : Context) (x : Sub) → AreBased here.scope → Makes SubprogramOf (p.subprogram names n blocking start here x)
unfolding p.subprogram
m-subprogram names n blocking start here (syntax.Procedure at name fs a ds b last) h = m-bodied names n blocking start here name None fs a ds b last h
m-subprogram names n blocking start here (syntax.Function at name fs result a ds b last) h = m-bodied names n blocking start here name (Some result) fs a ds b last h
m-subprogram names n blocking start here (syntax.ExprFunction at name fs result bracket e a) h =
    m-bind ProfiledOf SubprogramOf (p.profile names start here name (Some result) fs) _ (m-profile names start here name (Some result) fs h) (λ q g.
    m-bind (Maybe SubOf) SubprogramOf (p.with_value_of names n blocking q a e) _ (m-with_value_of names n blocking q a e g) (λ s t. m-pure SubprogramOf (q.outer, s) (g.0, t)))

-- ---- the main procedure

abbrev UnitsOf : Declared' → Type 0
UnitsOf d = AreBased d.here.scope × Maybe DeclsOf d.decls × Maybe SubsFit d.subs

subs-both : (a b : List TypedSub) → SubsFit a → SubsFit b → SubsFit (a ++ b)
subs-both [] b h k = k
subs-both (s ∷ a) b h k = (h.0, subs-both a b h.1 k)

m-unit_of : (names : Names) (n : ℕ) (blocking : Bool) (start : ℕ) (d : Declared') (u : Unit') → UnitsOf d → Makes UnitsOf (p.unit_of names n blocking start d u)
m-unit_of names n blocking start d (syntax.DeclUnit x) h =
    m-bind DeclaringOf UnitsOf (declaration names (p.level_of names n) start d.here d.decls x) _ (m-declaration names (p.level_of names n) start d.here d.decls x (level-fits names n) h.0 h.1) (λ r q.
    m-pure UnitsOf (record { here = r.0; decls = r.1; subs = d.subs }) (q.0, q.1, h.2))
m-unit_of names n blocking start d (syntax.SubUnit s) h =
    m-bind SubprogramOf UnitsOf (p.subprogram names (n - 1) blocking start d.here s) _ (m-subprogram names (n - 1) blocking start d.here s h.0) (λ r q.
    m-pure UnitsOf (record { here = r.0; decls = d.decls; subs = joined p.also_sub d.subs r.1 }) (q.0, h.1, joint SubsFit SubOf SubsFit p.also_sub d.subs r.1 h.2 q.1 (λ ss x a b. subs-both ss (x ∷ []) a (b, tt))))

m-units : (names : Names) (n : ℕ) (blocking : Bool) (start : ℕ) (d : Declared') (us : List Unit') → UnitsOf d → Makes UnitsOf (p.units names n blocking start d us)
m-units names n blocking start d [] h = m-pure UnitsOf d h
m-units names n blocking start d (u ∷ us) h = m-bind UnitsOf UnitsOf (p.unit_of names n blocking start d u) _ (m-unit_of names n blocking start d u h) (λ e q. m-units names n blocking start e us q)

abbrev WholeOf : Whole → Type 0
WholeOf w = SubsFit w.subs × BodyFits w.body

m-main : (names : Names) (n : ℕ) (here : Context) (m : Main) (s : Bool) → AreBased here.scope → Makes (Maybe WholeOf) (p.main names n here m s)
unfolding p.main
m-main names n here m s h =
    m-bind Any (Maybe WholeOf) (p.aspect names here false m.aspect) _ (m-kept (p.aspect names here false m.aspect) (k-aspect spanning names here false m.aspect tt)) (λ z q1.
    m-bind UnitsOf (Maybe WholeOf) (p.units names n z (length here.scope) (record { here = here; decls = Some no_decls; subs = Some [] }) m.units) _
    (m-units names n z (length here.scope) (record { here = here; decls = Some no_decls; subs = Some [] }) m.units (h, tt, tt)) (λ d q2.
    m-bind (Maybe BodyOf) (Maybe WholeOf) (body (around names n (stmt names n)) d.here d.decls m.body) _ (m-body (around names n (stmt names n)) d.here d.decls m.body (around-fits names n) q2.0 q2.1) (λ b q3.
    m-bind Any (Maybe WholeOf) (p.end_name names m.defined m.last_name) _ (m-kept (p.end_name names m.defined m.last_name) (k-end_name spanning names m.defined m.last_name tt)) (λ u q4.
    m-pure (Maybe WholeOf) (joined (p.whole z s) b d.subs) (joint BodyOf SubsFit WholeOf (p.whole z s) b d.subs q3 q2.2 (λ x y i j. (j, i)))))))

-- ---- clauses declare nothing

abbrev PlaceOf : Context → Type 0
PlaceOf c = AreBased c.scope

m-clause_name : (w : ClauseWord) (here : Context) (first : ℕ) (name : Option ℕ) → AreBased here.scope → Makes PlaceOf (p.clause_name w here first name)
m-clause_name w here first None h = m-pure PlaceOf here h
m-clause_name word.With here first (Some name) h = m-pure PlaceOf (p.withed_by here name) h
m-clause_name word.Use here first (Some name) h =
    m-bind Any PlaceOf (unless (p.has here.withed name) first NotVisible) _ (m-unless (p.has here.withed name) first NotVisible) (λ u q. m-pure PlaceOf (record here { used = p.with_package here.used name }) h)

m-clause_packs : (names : Names) (w : ClauseWord) (here : Context) (ps : List Pack) → AreBased here.scope → Makes PlaceOf (p.clause_packs names w here ps)
m-clause_packs names w here [] h = m-pure PlaceOf here h
m-clause_packs names w here (x ∷ xs) h =
    m-bind Any PlaceOf (p.pack names x) _ (m-kept (p.pack names x) (k-pack spanning names x tt)) (λ n q1.
    m-bind PlaceOf PlaceOf (p.clause_name w here x.first n) _ (m-clause_name w here x.first n h) (λ c q2. m-clause_packs names w c xs q2))

m-clauses : (names : Names) (here : Context) (cs : List Clause) → AreBased here.scope → Makes PlaceOf (p.clauses names here cs)
m-clauses names here [] h = m-pure PlaceOf here h
m-clauses names here (c ∷ cs) h = m-bind PlaceOf PlaceOf (p.clause_packs names c.word here (c.first ∷ c.more)) _ (m-clause_packs names c.word here (c.first ∷ c.more) h) (λ x q. m-clauses names x cs q)

-- ---- programs

outermost-based : AreBased p.outermost.scope
outermost-based = (record { some = refl; first = refl; last = refl }, (tt, (tt, (record { some = refl; first = refl; last = refl }, (record { some = refl; first = refl; last = refl }, (record { some = refl; first = refl; last = refl }, (tt, (tt, (tt, tt)))))))))

m-program : (names : Names) (n : ℕ) (t : Program) → Makes (Maybe WholeOf) (p.program names n t)
unfolding p.program
m-program names n t =
    m-bind Any (Maybe WholeOf) (p.policy names t.policy) _ (m-kept (p.policy names t.policy) (k-policy spanning names t.policy tt)) (λ s q1.
    m-bind PlaceOf (Maybe WholeOf) (p.clauses names p.outermost t.clauses) _ (m-clauses names p.outermost t.clauses outermost-based) (λ here q2. m-main names n here t.main s q2))

judged-fits : (names : Names) (text : Program) → ArraysBased (judged names text).1.shapes × Maybe WholeOf (judged names text).0
unfolding judged
judged-fits names text = (m-program names depth_limit text).at fresh (λ n ds c k cells e. absurd cc)

-- ---- bounds of array types

wide : (k : Kind) (z : ℤ) → is_modular k ≡ false → in_base k z ≡ true → is_in_base Wide z ≡ true
wide kind.Boolean z m e = let x = and_parts (int_le (pos 0) z) (int_le z (pos 1)) e in base-between (kind.Own 0) (pos 0) (pos 1) z refl refl x.0 x.1
wide kind.Integer z m e = let x = and_parts (int_le (least_of Narrow) z) (int_le z (greatest_of Narrow)) e in base-between (kind.Own 0) (least_of Narrow) (greatest_of Narrow) z refl refl x.0 x.1
wide (kind.Own n) z m e = e
wide (kind.Modular n k) z m e = absurd (true≢false m)

bounds-fit : (ds : List Dimension) → AreSpans ds → BoundsFit (map dimension_bounds ds)
bounds-fit [] h = tt
bounds-fit (d ∷ ds) h = (wide d.kind d.low h.0.plain h.0.range.first, wide d.kind d.high h.0.plain h.0.range.last, bounds-fit ds h.1)

shape-bounds : (t : Option Shape) (bs : List Bounds) (component : ℕ) → ((ds : List Dimension) (c : Subtype) (k cells : ℕ) → t ≡ Some (shape.Array ds c k cells) → AreSpans ds)
    → option_map typed_subtype t ≡ Some (typed.Array bs component) → BoundsFit bs
shape-bounds None bs component f e = absurd cc
shape-bounds (Some (shape.Scalar s)) bs component f e = absurd cc
shape-bounds (Some (shape.Record fs cells)) bs component f e = absurd cc
shape-bounds (Some (shape.Array ds c k cells)) bs component f e = let same : map dimension_bounds ds ≡ bs = cc in subst BoundsFit same (bounds-fit ds (f ds c k cells refl))

-- ---- the law

pub classes_law : ClassesLaw
classes_law = record {
  expressions = λ names text program e.
      let log = (judged names text).1 in
      let r = typed-from log.faults log (judged names text).0 program e in
      subst ProgramFits r.2 (subst (Maybe WholeOf) r.1 (judged-fits names text).1);
  bounds = λ names text program e n bs component g.
      let log = (judged names text).1 in
      let r = typed-from log.faults log (judged names text).0 program e in
      shape-bounds (slice_get log.shapes n) bs component (λ ds c k cells t. (judged-fits names text).0 n ds c k cells t)
      (sym (slice_get-map typed_subtype log.shapes n) ∙ ap (λ t. slice_get t.subtypes n) r.2 ∙ g);
}
