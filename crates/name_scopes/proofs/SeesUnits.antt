-- The subprograms of a program are as their profiles say, each at its number.
use Rattle.std.proofs.Common.{◌≡◌, refl, sym, ap, subst, ◌∙◌, ℕ, zero, suc, ◌-◌, List, [], ◌∷◌, ◌++◌, length, length-append, map, slice_get, Option, Some, None, Bool, option_map, arith, false}
use Rattle.std.proofs.lemmas.List.{append-nil}
use Rattle.ada_meaning.specs.Meaning.{sub_at}
use Rattle.syntax_tree.specs.Syntax as syntax
use Rattle.syntax_tree.specs.Syntax.{Aspect, Body, Decl, Expr, Formals, Main, Program, Sub, Unit'}
use Rattle.syntax_tree.specs.Parsed.{depth_limit}
use Rattle.typed_tree.specs.Decoded.{TypedPart}
use Rattle.typed_tree.specs.Syntax.{Sub as TypedSub}
use Rattle.name_rules.specs.Declarations.{declaration, declarations}
use Rattle.name_rules.specs.Judging.{joined}
use Rattle.name_rules.specs.Primaries.{inside}
use Rattle.name_rules.specs.Programs as p
use Rattle.name_rules.specs.Programs.{Declared', Profiled, Whole, typed_formal}
use Rattle.name_rules.specs.Resolved.{fresh, judged}
use Rattle.name_rules.specs.Scope.{free}
use Rattle.name_rules.specs.Statements.{around, body, no_decls, stmt}
use Rattle.name_rules.specs.Types.{typed_scalar}
use Rattle.name_rules.specs.declared.log.Log.{Log}
use Rattle.name_rules.specs.declared.log.Profile.{Profile}
use Rattle.name_rules.specs.declared.log.Taken.{Taken}
use Rattle.name_rules.specs.declared.scope.Context.{Context}
use Rattle.name_rules.specs.declared.scope.Names.{Names}
use Rattle.name_rules.specs.declared.types.Scalar.{Scalar}
use Rattle.name_laws.proofs.KeepsDeclarations.{k-declaration}
use Rattle.name_laws.proofs.KeepsPrograms as k
use Rattle.name_laws.proofs.KeepsScope.{k-free}
use Rattle.name_laws.proofs.KeepsStatements.{k-around, k-body}
use Rattle.name_laws.proofs.Places.{steady}
use Rattle.name_scopes.proofs.Sees.{Maybe}
use Rattle.name_scopes.proofs.SeesBack.{Leads, leading}

pub record IsBy (s : TypedSub) (q : Profile) : Type 0 where
  pub formals : s.formals ≡ map typed_formal q.takes
  pub result : s.result ≡ option_map typed_scalar q.gives

abbrev pub Agree : List TypedSub → List Profile → Type 0
Agree [] [] = Unit {0}
Agree [] (q ∷ qs) = ⊥
Agree (s ∷ ss) [] = ⊥
Agree (s ∷ ss) (q ∷ qs) = IsBy s q × Agree ss qs

agree-more : (ss : List TypedSub) (qs : List Profile) (s : TypedSub) (q : Profile) → Agree ss qs → IsBy s q → Agree (ss ++ s ∷ []) (qs ++ q ∷ [])
agree-more [] [] s q h b = (b, tt)
agree-more [] (x ∷ qs) s q h b = absurd h
agree-more (x ∷ ss) [] s q h b = absurd h
agree-more (x ∷ ss) (y ∷ qs) s q h b = (h.0, agree-more ss qs s q h.1 b)

same-profile : (a b : Profile) → ◌≡◌ {A = Option Profile} (Some a) (Some b) → a ≡ b
same-profile a b e = cc

no-profile : (b : Profile) → ◌≡◌ {A = Option Profile} None (Some b) → ⊥
no-profile b e = cc

pub agree-at : (ss : List TypedSub) (qs : List Profile) → Agree ss qs → (n : ℕ) (q : Profile) → slice_get qs n ≡ Some q → (s : TypedSub) × (sub_at ss n ≡ Some s) × IsBy s q
agree-at [] [] h n q e = absurd (no-profile q e)
agree-at [] (x ∷ qs) h n q e = absurd h
agree-at (s ∷ ss) [] h n q e = absurd h
agree-at (s ∷ ss) (x ∷ qs) h zero q e = (s, refl, subst (IsBy s) (same-profile x q e) h.0)
agree-at (s ∷ ss) (x ∷ qs) h (suc n) q e = agree-at ss qs h.1 n q e

none-left : (qs : List Profile) → length qs ≡ 0 → qs ≡ []
none-left [] e = refl
none-left (q ∷ qs) e = absurd (omega (arith, e))

-- where none joins them the profiles stay
pub same-profiles : (a b : Log) → Leads a b → length b.profiles ≡ length a.profiles → b.profiles ≡ a.profiles
same-profiles a b l e =
    let none : l.profiles ≡ [] = none-left l.profiles (omega (arith, e, ap length l.listed, length-append a.profiles l.profiles)) in
    l.listed ∙ ap (λ qs. a.profiles ++ qs) none ∙ append-nil a.profiles

-- ---- a profile

abbrev profile-of : Profiled → Profile
profile-of q = record { takes = q.takes; gives = q.gives }

no-number : (n : ℕ) → ◌≡◌ {A = Option ℕ} None (Some n) → ⊥
no-number n e = cc

where-by : (names : Names) (here : Context) (name : ℕ) (one : Option ℕ) (ts : Option (List Taken)) (r : Option (Option Scalar)) (log : Log) (n : ℕ) → (p.profile_where names here name one ts r log).0.0 ≡ Some n
    → (p.profile_where names here name one ts r log).1.profiles ≡ log.profiles ++ record { takes = p.taken_or ts; gives = p.gives_or r } ∷ []
where-by names here name (Some f) (Some ts) (Some r) log n e = refl
where-by names here name (Some f) (Some ts) None log n e = absurd (no-number n e)
where-by names here name (Some f) None r log n e = absurd (no-number n e)
where-by names here name None ts r log n e = absurd (no-number n e)

profile-by : (names : Names) (start : ℕ) (here : Context) (name : ℕ) (result : Option ℕ) (fs : Option Formals) (log : Log) (n : ℕ)
    → (let q = p.profile names start here name result fs log in q.0.number ≡ Some n → q.1.profiles ≡ log.profiles ++ profile-of q.0 ∷ [])
unfolding p.profile
profile-by names start here name result fs log n e =
    let inner : Context = record here { owner = (p.next_owner log).0 } in
    let f = p.formals names (p.is_function result) inner fs log in
    let g = p.result_named names f.0.0 result f.1 in
    let one = free names start here name g.1 in
    let first : f.1.profiles ≡ log.profiles = same-profiles log f.1 ((k.k-formals leading names (p.is_function result) inner fs tt).at log) ((k.k-formals steady names (p.is_function result) inner fs tt).at log) in
    let second : g.1.profiles ≡ f.1.profiles = same-profiles f.1 g.1 ((k.k-result_named leading.walk names f.0.0 result tt).at f.1) ((k.k-result_named steady.walk names f.0.0 result tt).at f.1) in
    let third : one.1.profiles ≡ g.1.profiles = same-profiles g.1 one.1 ((k-free leading.walk names start here name tt).at g.1) ((k-free steady.walk names start here name tt).at g.1) in
    where-by names here name one.0 f.0.1 g.0 one.1 n e ∙ ap (λ qs. qs ++ record { takes = p.taken_or f.0.1; gives = p.gives_or g.0 } ∷ []) (third ∙ second ∙ first)

-- ---- a subprogram

no-sub : (s : TypedSub) → ◌≡◌ {A = Option TypedSub} None (Some s) → ⊥
no-sub s e = cc

same-sub : (a b : TypedSub) → ◌≡◌ {A = Option TypedSub} (Some a) (Some b) → a ≡ b
same-sub a b e = cc

abbrev MadeBy : Profiled → Option ℕ → TypedSub → Type 0
MadeBy q i s = ((m : ℕ) × (i ≡ Some m)) × IsBy s (profile-of q)

made-by : (q : Profiled) (z : Bool) (i : Option ℕ) (x : Option TypedPart) (s : TypedSub) → joined (p.sub_where q z) i x ≡ Some s → MadeBy q i s
made-by q z (Some m) (Some x) s e = ((m, refl), subst (λ y. IsBy y (profile-of q)) (same-sub (p.sub_where q z m x) s e) (record { formals = refl; result = refl }))
made-by q z (Some m) None s e = absurd (no-sub s e)
made-by q z None x s e = absurd (no-sub s e)

body-by : (names : Names) (n : ℕ) (blocking : Bool) (name : ℕ) (q : Profiled) (a : Option Aspect) (ds : List Decl) (b : Body) (last : Option ℕ) (log : Log) (s : TypedSub) → (p.with_body names n blocking name q a ds b last log).0 ≡ Some s → MadeBy q q.number s
unfolding p.with_body
body-by names n blocking name q a ds b last log s e =
    let z = p.aspect names q.inner blocking a log in
    let r = declarations names (p.level_of names n) (length q.outer.scope) q.inner (Some no_decls) ds z.1 in
    let x = body (around names n (stmt names n)) r.0.0 r.0.1 b r.1 in
    made-by q z.0 q.number x.0 s e

value-by : (names : Names) (n : ℕ) (blocking : Bool) (q : Profiled) (a : Option Aspect) (e : Expr) (log : Log) (s : TypedSub) → (p.with_value_of names n blocking q a e log).0 ≡ Some s → MadeBy q q.number s
unfolding p.with_value_of
value-by names n blocking q a e log s h =
    let z = p.aspect names q.inner blocking a log in
    let v = p.result_value names (inside names n) q.inner e q.inner.returns z.1 in
    made-by q z.0 q.number (option_map p.returned_body v.0) s h

-- a subprogram that was found joins its profile
abbrev pub JoinsProfile : Log → Log → TypedSub → Type 0
JoinsProfile log end s = (q : Profile) × (end.profiles ≡ log.profiles ++ q ∷ []) × IsBy s q

subprogram-by : (names : Names) (n : ℕ) (blocking : Bool) (start : ℕ) (here : Context) (u : Sub) (log : Log) (s : TypedSub) → (p.subprogram names n blocking start here u log).0.1 ≡ Some s → JoinsProfile log (p.subprogram names n blocking start here u log).1 s
unfolding p.subprogram
subprogram-by names n blocking start here (syntax.Procedure at name fs a ds b last) log s e =
    let q = p.profile names start here name None fs log in
    let x = p.with_body names n blocking name q.0 a ds b last q.1 in
    let m = body-by names n blocking name q.0 a ds b last q.1 s e in
    let same : x.1.profiles ≡ q.1.profiles = same-profiles q.1 x.1 ((k.k-with_body leading names n blocking name q.0 a ds b last tt).at q.1) ((k.k-with_body steady names n blocking name q.0 a ds b last tt).at q.1) in
    (profile-of q.0, same ∙ profile-by names start here name None fs log m.0.0 m.0.1, m.1)
subprogram-by names n blocking start here (syntax.Function at name fs result a ds b last) log s e =
    let q = p.profile names start here name (Some result) fs log in
    let x = p.with_body names n blocking name q.0 a ds b last q.1 in
    let m = body-by names n blocking name q.0 a ds b last q.1 s e in
    let same : x.1.profiles ≡ q.1.profiles = same-profiles q.1 x.1 ((k.k-with_body leading names n blocking name q.0 a ds b last tt).at q.1) ((k.k-with_body steady names n blocking name q.0 a ds b last tt).at q.1) in
    (profile-of q.0, same ∙ profile-by names start here name (Some result) fs log m.0.0 m.0.1, m.1)
subprogram-by names n blocking start here (syntax.ExprFunction at name fs result bracket v a) log s e =
    let q = p.profile names start here name (Some result) fs log in
    let x = p.with_value_of names n blocking q.0 a v q.1 in
    let m = value-by names n blocking q.0 a v q.1 s e in
    let same : x.1.profiles ≡ q.1.profiles = same-profiles q.1 x.1 ((k.k-with_value_of leading.walk names n blocking q.0 a v tt).at q.1) ((k.k-with_value_of steady.walk names n blocking q.0 a v tt).at q.1) in
    (profile-of q.0, same ∙ profile-by names start here name (Some result) fs log m.0.0 m.0.1, m.1)

-- ---- the declarative part of the main procedure

abbrev SubsBy : Option (List TypedSub) → List Profile → Type 0
SubsBy None qs = Unit {0}
SubsBy (Some ss) qs = Agree ss qs

also-by : (ss : Option (List TypedSub)) (s : Option TypedSub) (log end : Log) → SubsBy ss log.profiles → ((u : TypedSub) → s ≡ Some u → JoinsProfile log end u) → SubsBy (joined p.also_sub ss s) end.profiles
also-by None s log end h f = tt
also-by (Some ss) None log end h f = tt
also-by (Some ss) (Some u) log end h f = let x = f u refl in subst (Agree (ss ++ u ∷ [])) (sym x.1) (agree-more ss log.profiles u x.0 h x.2)

unit-by : (names : Names) (n : ℕ) (blocking : Bool) (start : ℕ) (d : Declared') (u : Unit') (log : Log) → SubsBy d.subs log.profiles → (let e = p.unit_of names n blocking start d u log in SubsBy e.0.subs e.1.profiles)
unit-by names n blocking start d (syntax.DeclUnit x) log h =
    let r = declaration names (p.level_of names n) start d.here d.decls x log in
    subst (SubsBy d.subs) (sym (same-profiles log r.1 ((k-declaration leading names (p.level_of names n) start d.here d.decls x tt (k.k-level_of leading.walk names n tt)).at log) ((k-declaration steady names (p.level_of names n) start d.here d.decls x tt (k.k-level_of steady.walk names n tt)).at log))) h
unit-by names n blocking start d (syntax.SubUnit s) log h =
    let r = p.subprogram names (n - 1) blocking start d.here s log in
    also-by d.subs r.0.1 log r.1 h (λ u e. subprogram-by names (n - 1) blocking start d.here s log u e)

units-by : (names : Names) (n : ℕ) (blocking : Bool) (start : ℕ) (d : Declared') (us : List Unit') (log : Log) → SubsBy d.subs log.profiles → (let e = p.units names n blocking start d us log in SubsBy e.0.subs e.1.profiles)
units-by names n blocking start d [] log h = h
units-by names n blocking start d (u ∷ us) log h = let e = p.unit_of names n blocking start d u log in units-by names n blocking start e.0 us e.1 (unit-by names n blocking start d u log h)

abbrev pub WholeBy : List Profile → Whole → Type 0
WholeBy qs w = Agree w.subs qs

whole-by : (z s : Bool) (x : Option TypedPart) (ss : Option (List TypedSub)) (qs : List Profile) → SubsBy ss qs → Maybe (WholeBy qs) (joined (p.whole z s) x ss)
whole-by z s None ss qs h = tt
whole-by z s (Some x) None qs h = tt
whole-by z s (Some x) (Some ss) qs h = h

main-by : (names : Names) (n : ℕ) (here : Context) (m : Main) (s : Bool) (log : Log) → log.profiles ≡ [] → (let r = p.main names n here m s log in Maybe (WholeBy r.1.profiles) r.0)
unfolding p.main
main-by names n here m s log e =
    let z = p.aspect names here false m.aspect log in
    let start : Declared' = record { here = here; decls = Some no_decls; subs = Some [] } in
    let d = p.units names n z.0 (length here.scope) start m.units z.1 in
    let b = body (around names n (stmt names n)) d.0.here d.0.decls m.body d.1 in
    let u = p.end_name names m.defined m.last_name b.1 in
    let none : z.1.profiles ≡ [] = same-profiles log z.1 ((k.k-aspect leading.walk names here false m.aspect tt).at log) ((k.k-aspect steady.walk names here false m.aspect tt).at log) ∙ e in
    let first : b.1.profiles ≡ d.1.profiles = same-profiles d.1 b.1 ((k-body leading.walk (around names n (stmt names n)) d.0.here d.0.decls m.body (k-around leading names n tt)).at d.1) ((k-body steady.walk (around names n (stmt names n)) d.0.here d.0.decls m.body (k-around steady names n tt)).at d.1) in
    let second : u.1.profiles ≡ b.1.profiles = same-profiles b.1 u.1 ((k.k-end_name leading.walk names m.defined m.last_name tt).at b.1) ((k.k-end_name steady.walk names m.defined m.last_name tt).at b.1) in
    let h : SubsBy d.0.subs d.1.profiles = units-by names n z.0 (length here.scope) start m.units z.1 (subst (Agree []) (sym none) tt) in
    whole-by z.0 s b.0 d.0.subs u.1.profiles (subst (SubsBy d.0.subs) (sym (second ∙ first)) h)

-- the subprograms of a text are as its profiles say
pub program-by : (names : Names) (text : Program) → Maybe (WholeBy (judged names text).1.profiles) (judged names text).0
unfolding judged p.program
program-by names text =
    let s = p.policy names text.policy fresh in
    let c = p.clauses names p.outermost text.clauses s.1 in
    let first : s.1.profiles ≡ [] = same-profiles fresh s.1 ((k.k-policy leading.walk names text.policy tt).at fresh) ((k.k-policy steady.walk names text.policy tt).at fresh) in
    let second : c.1.profiles ≡ s.1.profiles = same-profiles s.1 c.1 ((k.k-clauses leading.walk names p.outermost text.clauses tt).at s.1) ((k.k-clauses steady.walk names p.outermost text.clauses tt).at s.1) in
    main-by names depth_limit c.0 text.main s.0 c.1 (second ∙ first)
