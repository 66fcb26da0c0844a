-- Objects of subprograms and programs: each is new where it is declared.
use Rattle.std.proofs.Common.{◌≡◌, refl, sym, subst, ℕ, zero, suc, ◌-◌, ◌≤◌, List, [], ◌∷◌, ◌++◌, length, map, Option, Some, None, Bool, false, option_map, arith}
use Rattle.ada_meaning.specs.Meaning.{sub_at}
use Rattle.syntax_tree.specs.Parsed.{depth_limit}
use Rattle.syntax_tree.specs.Syntax as syntax
use Rattle.syntax_tree.specs.Syntax.{Aspect, Body, Decl, Expr, Formal, Formals, Main, Program, Sub, Unit'}
use Rattle.typed_tree.specs.Decoded as part
use Rattle.typed_tree.specs.Decoded.{TypedPart, as_body, as_decl, as_decls}
use Rattle.typed_tree.specs.Latest.{turned}
use Rattle.typed_objects.specs.Objects.{block_objects, decl_objects, formal_objects, handler_objects, stmts_objects, sub_objects}
use Rattle.typed_tree.specs.Syntax as typed
use Rattle.typed_tree.specs.Syntax.{Decls, Sub as TypedSub}
use Rattle.typed_tree.specs.declared.program.Mode.{Mode}
use Rattle.name_rules.specs.Declarations.{all_ids, begun_names, declarations, new_object}
use Rattle.name_rules.specs.Judging.{joined}
use Rattle.name_rules.specs.Primaries.{inside}
use Rattle.name_rules.specs.Programs as p
use Rattle.name_rules.specs.Programs.{Declared', Profiled, Whole}
use Rattle.name_rules.specs.Resolved.{TypedOf, fresh, judged, typed_by}
use Rattle.name_rules.specs.Scope.{free, subtype_named}
use Rattle.name_rules.specs.Statements.{around, body, no_decls, stmt}
use Rattle.name_rules.specs.declared.log.Log.{Log}
use Rattle.name_rules.specs.declared.log.Taken.{Taken}
use Rattle.name_rules.specs.declared.scope.Context.{Context}
use Rattle.name_rules.specs.declared.scope.Names.{Names}
use Rattle.name_rules.specs.declared.types.Subtype.{Subtype}
use Rattle.name_laws.proofs.KeepsDeclarations.{k-begun_names}
use Rattle.name_laws.proofs.KeepsPrimaries.{k-inside}
use Rattle.name_laws.proofs.KeepsPrograms as k
use Rattle.name_laws.proofs.KeepsScope.{k-free, k-subtype_named}
use Rattle.name_laws.proofs.Makes.{Any, Each, Maybe, each-turned, joint, mapped}
use Rattle.name_flow.specs.Fresh.{FreshAll, FreshFormals, FreshHandlers, FreshStmt, IsFresh, behind, no_object, with_formals}
use Rattle.name_flow.specs.Law.{FreshLaw}
use Rattle.name_flow.proofs.Between.{Avoids, Open, Rises, fresh-both, fresh-decls, fresh-formals, fresh-stmt, least, open-behind, rises-join, rises-less, rises-split, rises-wide}
use Rattle.name_flow.proofs.Finds.{any}
use Rattle.name_flow.proofs.FlowPrograms.{whole-of}
use Rattle.name_flow.proofs.FreshDeclarations.{Chain, NewIn, declaration-in, declarations-in, new-object}
use Rattle.name_flow.proofs.FreshStatements.{Begun, BodyIn, DoneIn, around-numbers, body-in, body-rises, done-chain, maybe-more}
use Rattle.name_flow.proofs.Numbers.{counted-many, growing, growing-profiles, many}

-- ---- formal parameters

abbrev TakesIn : ℕ → ℕ → List Taken → Type 0
TakesIn lo hi ts = Rises lo hi (formal_objects (map p.typed_formal ts))

takes-wide : (lo hi top : ℕ) (ts : List Taken) → hi ≤ top → TakesIn lo hi ts → TakesIn lo top ts
takes-wide lo hi top ts l h = rises-wide lo hi lo top (formal_objects (map p.typed_formal ts)) (least lo) l h

takes-more : (lo mid hi : ℕ) (ts : List Taken) (t : Taken) → TakesIn lo mid ts → mid ≤ t.object → suc t.object ≤ hi → TakesIn lo hi (ts ++ t ∷ [])
takes-more lo mid hi [] t h l m = (omega (arith, h, l), m)
takes-more lo mid hi (x ∷ ts) t h l m = (h.0, takes-more (suc x.object) mid hi ts t h.1 l m)

-- a formal has a new object
pub record FormalIn (m n : ℕ) (t : Option Taken) : Type 0 where
  pub grows : m ≤ n
  pub number : Maybe (λ x. (m ≤ x.object) × (suc x.object ≤ n)) t

formal-entry : (m n : ℕ) (names : Names) (here : Context) (token : ℕ) (f : Option ℕ) (o : Mode) (s : Subtype) (i : Option ℕ) → NewIn m n i → FormalIn m n (p.formal_entry names here token f o s 0 i).1
formal-entry m n names here token f o s None h = record { grows = h.grows; number = tt }
formal-entry m n names here token f o s (Some i) h = record { grows = h.grows; number = h.number }

one-formal : (names : Names) (here : Context) (token : ℕ) (f : Option ℕ) (m : Mode) (s : Option Subtype) (log : Log) → (let r = p.one_formal names here token f m s log in FormalIn (many log) (many r.1) r.0.1)
one-formal names here token f m None log = record { grows = counted-many token 0 log; number = tt }
one-formal names here token f m (Some s) log =
    let o = new_object names here token s (p.is_constant m) None log in
    formal-entry (many log) (many o.1) names here token f m s o.0 (new-object names here token s (p.is_constant m) None log)

each-formal : (names : Names) (here : Context) (lo : ℕ) (m : Mode) (s : Option Subtype) (made : Option (List Taken)) (ts : List ℕ) (fs : List (Option ℕ)) (log : Log) → Maybe (TakesIn lo (many log)) made
    → (let r = p.each_formal names here m s made ts fs log in Maybe (TakesIn lo (many r.1)) r.0.1)
each-formal names here lo m s made [] fs log h = h
each-formal names here lo m s made (t ∷ ts) [] log h = h
each-formal names here lo m s made (t ∷ ts) (f ∷ fs) log h =
    let r = p.one_formal names here t f m s log in
    let x = one-formal names here t f m s log in
    each-formal names r.0.0 lo m s (joined p.also_taken_by made r.0.1) ts fs r.1
    (joint (TakesIn lo (many log)) (λ y. (many log ≤ y.object) × (suc y.object ≤ many r.1)) (TakesIn lo (many r.1)) p.also_taken_by made r.0.1 h x.number (λ us u g i. takes-more lo (many log) (many r.1) us u g i.0 i.1))

takes-later : (lo m n : ℕ) (ts : Option (List Taken)) → m ≤ n → Maybe (TakesIn lo m) ts → Maybe (TakesIn lo n) ts
takes-later lo m n None l h = tt
takes-later lo m n (Some ts) l h = takes-wide lo m n ts l h

one-of-formals : (names : Names) (function : Bool) (start : ℕ) (here : Context) (lo : ℕ) (made : Option (List Taken)) (f : Formal) (log : Log) → Maybe (TakesIn lo (many log)) made
    → (let r = p.formal names function start here made f log in Maybe (TakesIn lo (many r.1)) r.0.1)
one-of-formals names function start here lo made f log h =
    let r = begun_names names start here [] (all_ids f.names) log in
    let u = p.mode_rule function f.mode r.1 in
    let s = subtype_named names r.0.0 f.mark u.1 in
    let l : many log ≤ many s.1 = omega (arith, (k-begun_names growing.walk names start here [] (all_ids f.names) tt).at log, (k.k-mode_rule growing.walk function f.mode).at r.1, (k-subtype_named growing.walk names r.0.0 f.mark tt).at u.1) in
    each-formal names r.0.0 lo (p.mode_of f.mode) s.0 made (all_ids f.names) r.0.1 s.1 (takes-later lo (many log) (many s.1) made l h)

formals-from : (names : Names) (function : Bool) (start : ℕ) (here : Context) (lo : ℕ) (made : Option (List Taken)) (fs : List Formal) (log : Log) → Maybe (TakesIn lo (many log)) made
    → (let r = p.formals_from names function start here made fs log in Maybe (TakesIn lo (many r.1)) r.0.1)
formals-from names function start here lo made [] log h = h
formals-from names function start here lo made (f ∷ fs) log h =
    let r = p.formal names function start here made f log in
    formals-from names function start r.0.0 lo r.0.1 fs r.1 (one-of-formals names function start here lo made f log h)

all-formals : (names : Names) (function : Bool) (here : Context) (fs : Option Formals) (log : Log) → (let r = p.formals names function here fs log in Maybe (TakesIn (many log) (many r.1)) r.0.1)
all-formals names function here None log = least (many log)
all-formals names function here (Some f) log = formals-from names function (length here.scope) here (many log) (Some []) (f.first ∷ f.more) log (least (many log))

taken-or : (lo m n : ℕ) (ts : Option (List Taken)) → lo ≤ m → m ≤ n → Maybe (TakesIn lo m) ts → TakesIn lo n (p.taken_or ts)
taken-or lo m n None l k h = omega (arith, l, k)
taken-or lo m n (Some ts) l k h = takes-wide lo m n ts k h

profile-in : (names : Names) (start : ℕ) (here : Context) (name : ℕ) (result : Option ℕ) (fs : Option Formals) (log : Log) → (let q = p.profile names start here name result fs log in TakesIn (many log) (many q.1) q.0.takes)
unfolding p.profile
profile-in names start here name result fs log =
    let inner : Context = record here { owner = (p.next_owner log).0 } in
    let f = p.formals names (p.is_function result) inner fs log in
    let r = p.result_named names f.0.0 result f.1 in
    let one = free names start here name r.1 in
    let q = p.profile_where names here name one.0 f.0.1 r.0 one.1 in
    taken-or (many log) (many f.1) (many q.1) f.0.1 ((k.k-formals growing names (p.is_function result) inner fs tt).at log)
    (omega (arith, (k.k-result_named growing.walk names f.0.0 result tt).at f.1, (k-free growing.walk names start here name tt).at r.1, (k.k-profile_where growing.walk names here name one.0 f.0.1 r.0 tt growing-profiles).at one.1))
    (all-formals names (p.is_function result) inner fs log)

-- ---- subprograms

abbrev pub SubIn : ℕ → ℕ → TypedSub → Type 0
SubIn lo hi s = Rises lo hi (sub_objects s)

abbrev Anything : Decls → Type 0
Anything ds = Unit {0}

-- a subprogram of a profile and a body
sub-made : (lo at last hi top : ℕ) (q : Profiled) (z : Bool) (n : ℕ) (x : TypedPart) → TakesIn lo at q.takes → hi ≤ top → BodyIn Anything at last hi x → SubIn lo top (p.sub_where q z n x)
sub-made lo at last hi top q z n x h m b =
    let objects = block_objects (as_body x).decls (as_body x).stmts (as_body x).handlers in
    rises-join lo at top (formal_objects (map p.typed_formal q.takes)) objects h (rises-wide at hi at top objects (least at) m (body-rises Anything at last hi x b))

with-body : (names : Names) (n : ℕ) (blocking : Bool) (name : ℕ) (lo : ℕ) (q : Profiled) (a : Option Aspect) (ds : List Decl) (b : Body) (last : Option ℕ) (log : Log) → TakesIn lo (many log) q.takes
    → (let r = p.with_body names n blocking name q a ds b last log in Maybe (SubIn lo (many r.1)) r.0)
unfolding p.with_body
with-body names n blocking name lo q a ds b last log h =
    let z = p.aspect names q.inner blocking a log in
    let r = declarations names (p.level_of names n) (length q.outer.scope) q.inner (Some no_decls) ds z.1 in
    let x = body (around names n (stmt names n)) r.0.0 r.0.1 b r.1 in
    let u = p.end_name names name last x.1 in
    let one = (k.k-aspect growing.walk names q.inner blocking a tt).at log in
    let four = (k.k-end_name growing.walk names name last tt).at x.1 in
    let start : Maybe (DoneIn (many z.1) (many r.1)) r.0.1 = declarations-in (DoneIn (many z.1)) (done-chain (many z.1)) names (p.level_of names n) (length q.outer.scope) q.inner (Some no_decls) ds z.1 (k.k-level_of growing.walk names n tt) (least (many z.1)) in
    let y = body-in Anything (around names n (stmt names n)) r.0.0 (many z.1) r.0.1 b r.1 (around-numbers names n) (maybe-more (DoneIn (many z.1) (many r.1)) (Begun Anything (many z.1) (many r.1)) (λ v g. (g, tt)) r.0.1 start) in
    joint Any (BodyIn Anything (many z.1) (many r.1) (many x.1)) (SubIn lo (many u.1)) (p.sub_where q z.0) q.number x.0 (any q.number) y
    (λ i c v t. sub-made lo (many z.1) (many r.1) (many x.1) (many u.1) q z.0 i c (takes-wide lo (many log) (many z.1) q.takes one h) four t)

returned-in : (m : ℕ) (v : TypedPart) → BodyIn Anything m m m (p.returned_body v)
returned-in m v = record { known = tt; decls = least m; rest = least m }

with-value : (names : Names) (n : ℕ) (blocking : Bool) (lo : ℕ) (q : Profiled) (a : Option Aspect) (e : Expr) (log : Log) → TakesIn lo (many log) q.takes
    → (let r = p.with_value_of names n blocking q a e log in Maybe (SubIn lo (many r.1)) r.0)
unfolding p.with_value_of
with-value names n blocking lo q a e log h =
    let z = p.aspect names q.inner blocking a log in
    let v = p.result_value names (inside names n) q.inner e q.inner.returns z.1 in
    let now = many v.1 in
    let l : many log ≤ now = omega (arith, (k.k-aspect growing.walk names q.inner blocking a tt).at log, (k.k-result_value growing.walk names (inside names n) q.inner e q.inner.returns tt (k-inside growing.walk names n tt)).at z.1) in
    joint Any (BodyIn Anything now now now) (SubIn lo now) (p.sub_where q z.0) q.number (option_map p.returned_body v.0) (any q.number) (mapped Any (BodyIn Anything now now now) p.returned_body v.0 (any v.0) (λ x t. returned-in now x))
    (λ i c w t. sub-made lo now now now now q z.0 i c (takes-wide lo (many log) now q.takes l h) (least now) t)

subprogram-in : (names : Names) (n : ℕ) (blocking : Bool) (start : ℕ) (here : Context) (x : Sub) (log : Log) → (let r = p.subprogram names n blocking start here x log in Maybe (SubIn (many log) (many r.1)) r.0.1)
unfolding p.subprogram
subprogram-in names n blocking start here (syntax.Procedure at name fs a ds b last) log =
    let q = p.profile names start here name None fs log in
    with-body names n blocking name (many log) q.0 a ds b last q.1 (profile-in names start here name None fs log)
subprogram-in names n blocking start here (syntax.Function at name fs result a ds b last) log =
    let q = p.profile names start here name (Some result) fs log in
    with-body names n blocking name (many log) q.0 a ds b last q.1 (profile-in names start here name (Some result) fs log)
subprogram-in names n blocking start here (syntax.ExprFunction at name fs result bracket e a) log =
    let q = p.profile names start here name (Some result) fs log in
    with-value names n blocking (many log) q.0 a e q.1 (profile-in names start here name (Some result) fs log)

-- ---- the main procedure: its objects have none of the numbers of a subprogram

abbrev OutDecl : ℕ → ℕ → TypedPart → Type 0
OutDecl lo hi x = (ds : Decls) → Avoids lo hi (decl_objects ds) → Avoids lo hi (decl_objects (as_decl x ds))

-- a subprogram whose numbers no declaration of a chain has
pub record ApartIn (x : TypedPart) (s : TypedSub) : Type 0 where
  pub lo : ℕ
  pub hi : ℕ
  pub sub : SubIn lo hi s
  pub out : Each (OutDecl lo hi) x

-- subprograms in order, from one number on and up to another
abbrev AllApart : List TypedSub → ℕ → ℕ → TypedPart → Type 0
AllApart [] from m x = from ≤ m
AllApart (s ∷ ss) from m x = (h : ApartIn x s) × (from ≤ h.lo) × AllApart ss h.hi m x

apart-less : (ss : List TypedSub) (from m : ℕ) (x : TypedPart) → AllApart ss from m x → from ≤ m
apart-less [] from m x h = h
apart-less (s ∷ ss) from m x (h, l, k) = omega (arith, l, rises-less h.lo h.hi (sub_objects s) h.sub, apart-less ss h.hi m x k)

all-later : (ss : List TypedSub) (from m n : ℕ) (x : TypedPart) → m ≤ n → AllApart ss from m x → AllApart ss from n x
all-later [] from m n x l h = omega (arith, l, h)
all-later (s ∷ ss) from m n x l (h, k, r) = (h, k, all-later ss h.hi m n x l r)

-- one more declaration, of a number that is none of these
all-also : (ss : List TypedSub) (from m n : ℕ) (x y : TypedPart) → m ≤ n → ((lo hi : ℕ) → hi ≤ m → OutDecl lo hi y) → AllApart ss from m x → AllApart ss from n (part.Cons y x)
all-also [] from m n x y l o h = omega (arith, l, h)
all-also (s ∷ ss) from m n x y l o (h, k, r) = (record { lo = h.lo; hi = h.hi; sub = h.sub; out = (o h.lo h.hi (apart-less ss h.hi m x r), h.out) }, k, all-also ss h.hi m n x y l o r)

abbrev MainIn : List TypedSub → ℕ → TypedPart → Type 0
MainIn ss m x = DoneIn 0 m x × AllApart ss 0 m x

-- a declaration of an object behind those so far
out-object : (m n : ℕ) (x : TypedPart) → ((ds : Decls) → decl_objects (as_decl x ds) ≡ n ∷ decl_objects ds) → m ≤ n → (lo hi : ℕ) → hi ≤ m → OutDecl lo hi x
out-object m n x e l lo hi b ds u = subst (Avoids lo hi) (sym (e ds)) ((λ g i. omega (arith, b, l, i)), u)

main-chain : (ss : List TypedSub) → Chain (MainIn ss)
main-chain ss =
    let c = done-chain 0 in
    record {
      lasts = λ m n x l h. (c.lasts m n x l h.0, all-later ss 0 m n x l h.1);
      mention = λ m x es h. (c.mention m x es h.0, all-also ss 0 m m x (part.ADecl (typed.Mentions es)) (least m) (λ lo hi b ds u. u) h.1);
      default = λ m n o x h l k. (c.default m n o x h.0 l k, all-also ss 0 m o x (part.ADecl (typed.DeclareDefault n)) (omega (arith, l, k)) (out-object m n (part.ADecl (typed.DeclareDefault n)) (λ ds. refl) l) h.1);
      variable = λ m n o x v h l k. (c.variable m n o x v h.0 l k, all-also ss 0 m o x (part.ADecl (typed.DeclareVariable n v)) (omega (arith, l, k)) (out-object m n (part.ADecl (typed.DeclareVariable n v)) (λ ds. refl) l) h.1);
      constant = λ m n o x v h l k. (c.constant m n o x v h.0 l k, all-also ss 0 m o x (part.ADecl (typed.DeclareConstant n v)) (omega (arith, l, k)) (out-object m n (part.ADecl (typed.DeclareConstant n v)) (λ ds. refl) l) h.1);
    }

-- declarations so far have smaller numbers than what follows
done-out : (lo m a b : ℕ) (x : TypedPart) → m ≤ a → DoneIn lo m x → Each (OutDecl a b) x
done-out lo m a b part.Nothing l h = tt
done-out lo m a b (part.Cons y x) l (mid, g, h) = ((λ ds u. h.out a b ds l u), done-out lo mid a b x (omega (arith, l, h.grows)) g)
done-out lo m a b x l h = absurd h

apart-more : (ss : List TypedSub) (s : TypedSub) (from m n : ℕ) (x : TypedPart) → AllApart ss from m x → SubIn m n s → Each (OutDecl m n) x → AllApart (ss ++ s ∷ []) from n x
apart-more [] s from m n x h b o = (record { lo = m; hi = n; sub = b; out = o }, h, least n)
apart-more (t ∷ ss) s from m n x (h, k, r) b o = (h, k, apart-more ss s h.hi m n x r b o)

abbrev UnitsIn : ℕ → Declared' → Type 0
UnitsIn m d = (ss : List TypedSub) → d.subs ≡ Some ss → Maybe (MainIn ss m) d.decls

also-sub-in : (m n : ℕ) (ss : Option (List TypedSub)) (s : Option TypedSub) (x : Option TypedPart) → m ≤ n → Maybe (SubIn m n) s → ((us : List TypedSub) → ss ≡ Some us → Maybe (MainIn us m) x) → (vs : List TypedSub) → joined p.also_sub ss s ≡ Some vs → Maybe (MainIn vs n) x
also-sub-in m n (Some us) (Some s) None l b h vs g = tt
also-sub-in m n (Some us) (Some s) (Some x) l b h vs g =
    let same : us ++ s ∷ [] ≡ vs = cc in
    let old : MainIn us m x = h us refl in
    subst (λ ws. MainIn ws n x) same ((done-chain 0).lasts m n x l old.0, apart-more us s 0 m n x old.1 b (done-out 0 m m n x (least m) old.0))
also-sub-in m n (Some us) None x l b h vs g = absurd (let z : ◌≡◌ {A = Option (List TypedSub)} None (Some vs) = g in cc)
also-sub-in m n None s x l b h vs g = absurd (let z : ◌≡◌ {A = Option (List TypedSub)} None (Some vs) = g in cc)

unit-in : (names : Names) (n : ℕ) (blocking : Bool) (start : ℕ) (d : Declared') (u : Unit') (log : Log) → UnitsIn (many log) d → (let r = p.unit_of names n blocking start d u log in UnitsIn (many r.1) r.0)
unit-in names n blocking start d (syntax.DeclUnit x) log h = λ ss e. declaration-in (MainIn ss) (main-chain ss) names (p.level_of names n) start d.here d.decls x log (k.k-level_of growing.walk names n tt) (h ss e)
unit-in names n blocking start d (syntax.SubUnit s) log h =
    let r = p.subprogram names (n - 1) blocking start d.here s log in
    also-sub-in (many log) (many r.1) d.subs r.0.1 d.decls ((k.k-subprogram growing names (n - 1) blocking start d.here s tt growing-profiles).at log) (subprogram-in names (n - 1) blocking start d.here s log) h

units-in : (names : Names) (n : ℕ) (blocking : Bool) (start : ℕ) (d : Declared') (us : List Unit') (log : Log) → UnitsIn (many log) d → (let r = p.units names n blocking start d us log in UnitsIn (many r.1) r.0)
units-in names n blocking start d [] log h = h
units-in names n blocking start d (u ∷ us) log h =
    let e = p.unit_of names n blocking start d u log in
    units-in names n blocking start e.0 us e.1 (unit-in names n blocking start d u log h)

-- ---- programs

-- what stands before a subprogram and in it
pub record OneIn (ds : Decls) (s : TypedSub) : Type 0 where
  pub lo : ℕ
  pub hi : ℕ
  pub sub : SubIn lo hi s
  pub out : Avoids lo hi (decl_objects ds)

abbrev pub SubsIn : List TypedSub → ℕ → ℕ → Decls → Type 0
SubsIn [] from m ds = from ≤ m
SubsIn (s ∷ ss) from m ds = (h : OneIn ds s) × (from ≤ h.lo) × SubsIn ss h.hi m ds

out-list : (lo hi : ℕ) (x : TypedPart) → Each (OutDecl lo hi) x → Avoids lo hi (decl_objects (as_decls x))
out-list lo hi (part.Cons y x) h = h.0 (as_decls x) (out-list lo hi x h.1)
out-list lo hi x h = tt

one-in : (x : TypedPart) (s : TypedSub) → ApartIn x s → OneIn (as_decls (turned x)) s
one-in x s h = record { lo = h.lo; hi = h.hi; sub = h.sub; out = out-list h.lo h.hi (turned x) (each-turned (OutDecl h.lo h.hi) x h.out) }

subs-in : (from m : ℕ) (x : TypedPart) (ss : List TypedSub) → AllApart ss from m x → SubsIn ss from m (as_decls (turned x))
unfolding one-in
subs-in from m x [] h = h
subs-in from m x (s ∷ ss) (h, k, r) = (one-in x s h, k, subs-in h.hi m x ss r)

-- the numbers of declarations and subprograms stand before those of the main procedure's statements
pub record WholeIn (w : Whole) : Type 0 where
  pub mid : ℕ
  pub hi : ℕ
  pub body : BodyIn (SubsIn w.subs 0 mid) 0 mid hi (part.ABody w.body)

whole-in : (z s : Bool) (x : Option TypedPart) (ss : Option (List TypedSub)) (mid hi : ℕ) → ((us : List TypedSub) → ss ≡ Some us → Maybe (BodyIn (SubsIn us 0 mid) 0 mid hi) x) → Maybe WholeIn (joined (p.whole z s) x ss)
whole-in z s None ss mid hi h = tt
whole-in z s (Some x) None mid hi h = tt
whole-in z s (Some x) (Some us) mid hi h = let b = h us refl in record { mid = mid; hi = hi; body = record { known = b.known; decls = b.decls; rest = b.rest } }

main-in : (names : Names) (n : ℕ) (here : Context) (m : Main) (s : Bool) (log : Log) → Maybe WholeIn (p.main names n here m s log).0
unfolding p.main
main-in names n here m s log =
    let z = p.aspect names here false m.aspect log in
    let start : Declared' = record { here = here; decls = Some no_decls; subs = Some [] } in
    let d = p.units names n z.0 (length here.scope) start m.units z.1 in
    let b = body (around names n (stmt names n)) d.0.here d.0.decls m.body d.1 in
    let h = units-in names n z.0 (length here.scope) start m.units z.1 (λ ss e. (omega arith, nothing (many z.1) ss e)) in
    whole-in z.0 s b.0 d.0.subs (many d.1) (many b.1)
    (λ us e. body-in (SubsIn us 0 (many d.1)) (around names n (stmt names n)) d.0.here 0 d.0.decls m.body d.1 (around-numbers names n)
    (maybe-more (MainIn us (many d.1)) (Begun (SubsIn us 0 (many d.1)) 0 (many d.1)) (λ x g. (g.0, subs-in 0 (many d.1) x us g.1)) d.0.decls (h us e)))
  where
    nothing : (k : ℕ) (ss : List TypedSub) → ◌≡◌ {A = Option (List TypedSub)} (Some []) (Some ss) → AllApart ss 0 k part.Nothing
    nothing k [] e = omega arith
    nothing k (s ∷ ss) e = absurd (let z : ◌≡◌ {A = List TypedSub} [] (s ∷ ss) = cc in cc)

program-in : (names : Names) (text : Program) → Maybe WholeIn (judged names text).0
unfolding judged p.program
program-in names text =
    let s = p.policy names text.policy fresh in
    let c = p.clauses names p.outermost text.clauses s.1 in
    main-in names depth_limit c.0 text.main s.0 c.1

-- ---- the law

pub record WholeOf (names : Names) (text : Program) (t : typed.Program) : Type 0 where
  pub whole : Whole
  pub same : typed_by (judged names text).1 whole ≡ t
  pub numbers : WholeIn whole

pub whole-numbers : (names : Names) (text : Program) (t : typed.Program) → TypedOf names text ≡ Some t → WholeOf names text t
whole-numbers names text t e =
    let r = whole-of (judged names text).1.faults (judged names text).1 (judged names text).0 t e in
    record { whole = r.0; same = r.2; numbers = subst (Maybe WholeIn) r.1 (program-in names text) }

sub-at : (ss : List TypedSub) (from m : ℕ) (ds : Decls) (i : ℕ) (s : TypedSub) → SubsIn ss from m ds → sub_at ss i ≡ Some s → OneIn ds s
sub-at [] from m ds i s h e = absurd cc
sub-at (x ∷ ss) from m ds zero s (h, k, r) e = let same : x ≡ s = cc in subst (OneIn ds) same h
sub-at (x ∷ ss) from m ds (suc i) s (h, k, r) e = sub-at ss h.hi m ds i s r e

nothing-open : (lo hi : ℕ) → Open lo hi no_object
nothing-open lo hi y l m = refl

sub-fresh : (ds : Decls) (s : TypedSub) → OneIn ds s → FreshFormals (behind no_object ds) s.formals × FreshStmt (with_formals (behind no_object ds) s.formals) (typed.Block s.body.decls s.body.stmts s.body.handlers)
sub-fresh ds s x =
    let objects = block_objects s.body.decls s.body.stmts s.body.handlers in
    let h = rises-split x.lo x.hi (formal_objects s.formals) objects x.sub in
    let o = open-behind x.lo x.hi no_object ds x.out (nothing-open x.lo x.hi) in
    let r = fresh-formals x.lo h.mid x.hi (behind no_object ds) s.formals h.first (rises-less h.mid x.hi objects h.second) o in
    (r.0, fresh-stmt h.mid x.hi (with_formals (behind no_object ds) s.formals) (typed.Block s.body.decls s.body.stmts s.body.handlers) r.1 h.second)

fresh-program : (w : Whole) (log : Log) → WholeIn w → IsFresh (typed_by log w)
fresh-program w log h = record {
  main = fresh-decls 0 h.mid h.hi no_object w.body.decls (λ t. FreshAll t w.body.stmts × FreshHandlers t w.body.handlers) h.body.decls
      (rises-less h.mid h.hi (stmts_objects w.body.stmts ++ handler_objects w.body.handlers) h.body.rest) (nothing-open 0 h.hi)
      (λ u o. fresh-both h.mid h.hi u w.body.stmts w.body.handlers o h.body.rest);
  formals = λ i s e. (sub-fresh w.body.decls s (sub-at w.subs 0 h.mid w.body.decls i s h.body.known e)).0;
  subs = λ i s e. (sub-fresh w.body.decls s (sub-at w.subs 0 h.mid w.body.decls i s h.body.known e)).1;
}

pub fresh_law : FreshLaw
fresh_law names text t e =
    let w = whole-numbers names text t e in
    subst IsFresh w.same (fresh-program w.whole (judged names text).1 w.numbers)
