-- What is found is in scope: subprograms and programs.
use Rattle.std.proofs.Common.{◌≡◌, refl, sym, ap, subst, ◌∙◌, ℕ, zero, suc, ◌+◌, ◌-◌, ◌<◌, ◌≤◌, List, [], ◌∷◌, ◌++◌, length, length-append, map, drop, slice_get, Option, Some, None, Bool, true, false, option_map, nat_lt, ltb-true, ltb-false, true≢false, arith}
use Rattle.std.specs.Prelude.{cond, not}
use Rattle.behaviours.specs.Paths.{Entity, ConstantOf, VariableOf, entity_eq}
use Rattle.syntax_tree.specs.Syntax as syntax
use Rattle.syntax_tree.specs.Syntax.{Aspect, Body, Clause, Decl, Expr, Formal, Formals, Main, Pack, Program, Sub, Unit'}
use Rattle.syntax_tree.specs.declared.operators.ClauseWord.{ClauseWord}
use Rattle.syntax_tree.specs.declared.operators.ClauseWord.TheVariants as word
use Rattle.typed_scopes.specs.Scopes as scopes
use Rattle.typed_scopes.specs.Scopes.{entity_of, formal_of, object_cells, outset, sub_around, with_formals}
use Rattle.typed_tree.specs.Decoded as part
use Rattle.typed_tree.specs.Decoded.{TypedPart, as_body, as_decls, as_value}
use Rattle.typed_tree.specs.Latest.{turned}
use Rattle.typed_tree.specs.Syntax as typed
use Rattle.typed_tree.specs.Syntax.{Decls, Sub as TypedSub}
use Rattle.typed_tree.specs.declared.program.Formal.{Formal as TypedFormal}
use Rattle.typed_tree.specs.declared.program.Mode.{Mode}
use Rattle.typed_tree.specs.declared.program.Mode.TheVariants as mode
use Rattle.name_rules.specs.Declarations.{all_ids, begun_names, cells_counted, declaration, declarations, ended_name, new_object}
use Rattle.name_rules.specs.Expressions.{judged_alone, value_for}
use Rattle.name_rules.specs.Judging.{joined}
use Rattle.name_rules.specs.Primaries.{inside}
use Rattle.name_rules.specs.Programs as p
use Rattle.name_rules.specs.Programs.{Declared', Profiled, Whole, typed_formal}
use Rattle.name_rules.specs.Scope.{declared, free, subtype_named}
use Rattle.name_rules.specs.Statements.{around, body, body_part, handlers, no_decls, stmt, stmts}
use Rattle.name_rules.specs.declared.log.Log.{Log}
use Rattle.name_rules.specs.declared.log.Profile.{Profile}
use Rattle.name_rules.specs.declared.log.Taken.{Taken}
use Rattle.name_rules.specs.declared.scope.Context.{Context}
use Rattle.name_rules.specs.declared.scope.Entry.{Entry}
use Rattle.name_rules.specs.declared.scope.Names.{Names}
use Rattle.name_rules.specs.declared.scope.Returns.{Returns}
use Rattle.name_rules.specs.declared.scope.Returns.TheVariants as returns
use Rattle.name_rules.specs.declared.scope.What.TheVariants as what
use Rattle.name_rules.specs.declared.types.Scalar.{Scalar}
use Rattle.name_rules.specs.declared.types.Subtype.{Subtype}
use Rattle.name_rules.specs.declared.types.Subtype.TheVariants as subtype
use Rattle.name_laws.proofs.Fitting.{Fits}
use Rattle.name_laws.proofs.KeepsDeclarations.{k-cells_counted, k-declaration}
use Rattle.name_laws.proofs.KeepsExpressions.{k-judged_alone, k-value_for}
use Rattle.name_laws.proofs.KeepsPrimaries.{k-inside}
use Rattle.name_laws.proofs.KeepsPrograms as k
use Rattle.name_laws.proofs.KeepsScope.{k-free, k-subtype_named}
use Rattle.name_laws.proofs.KeepsStatements.{k-around, k-body}
use Rattle.name_laws.proofs.Places.{one-place, steady}
use Rattle.name_laws.specs.OwnNames.{AreNumbered}
use Rattle.name_scopes.proofs.Seen.{SeenAll, SeenDecls, SeenHandlers, SeenStmt, past}
use Rattle.name_scopes.proofs.Sees.{Any, AreTaken, IsTaken, Maybe, Sight, World, any, joint, seeing, v-weaken}
use Rattle.name_scopes.proofs.SeesBack.{And, Back, Leads, Near, b-any, b-bind, b-lift, b-none, b-pure, leading, leads_joined, leads_many, now, profiling}
use Rattle.name_scopes.proofs.SeesDeclarations.{BegunIn, LevelBoth, ObjectIn, Standing, after, b-begun_names, b-declaration, b-declarations, b-new_object, begin, declaration-none, its-object, near-declared, near-ended, near-wider, object-cells, wider-grown}
use Rattle.name_scopes.proofs.SeesExpressions.{v-value_for}
use Rattle.name_rules.specs.declared.scope.Target.{Target}
use Rattle.name_rules.specs.declared.scope.Target.TheVariants as target
use Rattle.name_rules.specs.declared.scope.What.{What}
use Rattle.name_scopes.proofs.SeesFound.{AreOf, TargetOf, ValueOf, WhatOf, entity}
use Rattle.name_scopes.proofs.SeesIterations.{Wider, are-both, are-wider, wider-joined, wider-same}
use Rattle.name_scopes.proofs.SeesPrimaries.{inside-sees}
use Rattle.name_scopes.proofs.SeesShapes.{Facts}
use Rattle.name_scopes.proofs.SeesSimple.{number-seen, one-small}
use Rattle.name_scopes.proofs.SeesStatements.{BodyIn, around-sees, b-body, level-sees}

are-dropped : (W : World) (V : Sight) (n : ℕ) (es : List Entry) → AreOf W V es → AreOf W V (drop n es)
are-dropped W V zero es h = h
are-dropped W V (suc n) [] h = tt
are-dropped W V (suc n) (e ∷ es) h = are-dropped W V n es h.1

-- ---- formal parameters in scope

mode-entity : (m : Mode) (o : ℕ) → entity_of (formal_of o m) ≡ entity (not (p.is_constant m)) o
mode-entity mode.In o = refl
mode-entity mode.InOut o = refl
mode-entity mode.Out o = refl

with-more : (v : scopes.Around) (fs : List TypedFormal) (f : TypedFormal) → with_formals v (fs ++ f ∷ []) ≡ scopes.with_object (entity_of f) (with_formals v fs)
with-more v [] f = refl
with-more v (g ∷ fs) f = with-more (scopes.with_object (entity_of g) v) fs f

map-more : (ts : List Taken) (t : Taken) → map typed_formal (ts ++ t ∷ []) ≡ map typed_formal ts ++ typed_formal t ∷ []
map-more [] t = refl
map-more (x ∷ ts) t = ap (λ fs. typed_formal x ∷ fs) (map-more ts t)

taken-more : (P : typed.Program) (ts : List Taken) (t : Taken) → AreTaken P ts → IsTaken P t → AreTaken P (ts ++ t ∷ [])
taken-more P [] t h k = (k, tt)
taken-more P (x ∷ ts) t h k = (h.0, taken-more P ts t h.1 k)

wider-formals : (v : scopes.Around) (fs : List TypedFormal) → Wider v (with_formals v fs)
wider-formals v [] = wider-same v
wider-formals v (f ∷ fs) = wider-joined v (scopes.with_object (entity_of f) v) (with_formals (scopes.with_object (entity_of f) v) fs) (wider-grown false (entity_of f) v) (wider-formals (scopes.with_object (entity_of f) v) fs)

outer-formals : (v : scopes.Around) (fs : List TypedFormal) (y : Entity) → (with_formals v fs).outer y ≡ v.outer y
outer-formals v [] y = refl
outer-formals v (f ∷ fs) y = outer-formals (scopes.with_object (entity_of f) v) fs y

part-same : (a b : TypedPart) → ◌≡◌ {A = Option TypedPart} (Some a) (Some b) → a ≡ b
part-same a b e = cc

no-some : {A : Type 0} {x : A} → ◌≡◌ {A = Option A} None (Some x) → ⊥
no-some e = cc

its-own : (y : Entity) (u : scopes.Around) → (scopes.with_object y u).object y ≡ true
its-own y u = its-object false y u

-- ---- what was declared with a fault before leaves nothing

each-none : (names : Names) (here : Context) (m : Mode) (s : Option Subtype) (made : Option (List Taken)) (ts : List ℕ) (fs : List (Option ℕ)) (log : Log) → made ≡ None → (p.each_formal names here m s made ts fs log).0.1 ≡ None
each-none names here m s made [] fs log h = h
each-none names here m s made (t ∷ ts) [] log h = h
each-none names here m s made (t ∷ ts) (f ∷ fs) log h =
    let r = p.one_formal names here t f m s log in
    each-none names r.0.0 m s (joined p.also_taken_by made r.0.1) ts fs r.1 (ap (λ x. joined p.also_taken_by x r.0.1) h)

formal-none : (names : Names) (function : Bool) (start : ℕ) (here : Context) (made : Option (List Taken)) (f : Formal) (log : Log) → made ≡ None → (p.formal names function start here made f log).0.1 ≡ None
formal-none names function start here made f log h =
    let r = begun_names names start here [] (all_ids f.names) log in
    let u = p.mode_rule function f.mode r.1 in
    let s = subtype_named names r.0.0 f.mark u.1 in
    each-none names r.0.0 (p.mode_of f.mode) s.0 made (all_ids f.names) r.0.1 s.1 h

-- ---- the objects of the main procedure that each subprogram sees: those that are declared before it

abbrev declared-by : Option TypedPart → Entity → Bool
declared-by None y = false
declared-by (Some x) y = (after true outset x).object y

abbrev pub shown-by : Names → ℕ → Bool → ℕ → Declared' → List Unit' → Log → ℕ → Entity → Bool
shown-by names n blocking start d [] log k y = false
shown-by names n blocking start d (u ∷ us) log k y =
    let e = p.unit_of names n blocking start d u log in
    cond (nat_lt k (length e.1.profiles)) (declared-by d.decls y) (shown-by names n blocking start e.0 us e.1 k y)

-- what stands in the main procedure is of it
main-same : (ds : Decls) (v : scopes.Around) → ((y : Entity) → v.object y ≡ v.outer y) → (y : Entity) → (past true v ds).object y ≡ (past true v ds).outer y
main-same typed.NoDecl v h y = h y
main-same (typed.DeclareDefault x more) v h y = main-same more (scopes.with_outer (VariableOf x) v) (λ z. ap (λ b. cond (entity_eq (VariableOf x) z) true b) (h z)) y
main-same (typed.DeclareVariable x i more) v h y = main-same more (scopes.with_outer (VariableOf x) v) (λ z. ap (λ b. cond (entity_eq (VariableOf x) z) true b) (h z)) y
main-same (typed.DeclareConstant x i more) v h y = main-same more (scopes.with_outer (ConstantOf x) v) (λ z. ap (λ b. cond (entity_eq (ConstantOf x) z) true b) (h z)) y
main-same (typed.Mentions es more) v h y = main-same more v h y

main-parameters : (ds : Decls) (v : scopes.Around) (k : ℕ) → (past true v ds).parameter k ≡ v.parameter k
main-parameters typed.NoDecl v k = refl
main-parameters (typed.DeclareDefault x more) v k = main-parameters more (scopes.with_outer (VariableOf x) v) k
main-parameters (typed.DeclareVariable x i more) v k = main-parameters more (scopes.with_outer (VariableOf x) v) k
main-parameters (typed.DeclareConstant x i more) v k = main-parameters more (scopes.with_outer (ConstantOf x) v) k
main-parameters (typed.Mentions es more) v k = main-parameters more v k

abbrev pub place : ℕ → Sight
place m = record { around = outset; bound = m }

module _ (P : typed.Program) (shown : ℕ → Entity → Bool) (L : Log) (F : Facts P shown L) where
  -- ---- formal parameters

  -- what is in scope where these formals are
  abbrev taking : ℕ → List Taken → scopes.Around
  taking j ts = with_formals (sub_around P (shown j)) (map typed_formal ts)

  abbrev FormalsIn : ℕ → ℕ → Context → Option (List Taken) → Type 0
  FormalsIn m j here None = Unit {0}
  FormalsIn m j here (Some ts) = Near P shown L F (seeing (taking j ts) (place m)) here × AreTaken P ts

  abbrev OneIn : ℕ → scopes.Around → Context × Option Taken → Type 0
  OneIn m u (here, None) = Unit {0}
  OneIn m u (here, Some t) = Near P shown L F (seeing (scopes.with_object (entity_of (typed_formal t)) u) (place m)) here × IsTaken P t

  formal-entry : (m : ℕ) (u : scopes.Around) (names : Names) (here : Context) (token : ℕ) (f : Option ℕ) (o : Mode) (s : Subtype) (i : Option ℕ) → Near P shown L F (seeing u (place m)) here → Maybe (ObjectIn P shown L F s) i → OneIn m u (p.formal_entry names here token f o s 0 i)
  formal-entry m u names here token f o s None r h = tt
  formal-entry m u names here token f o s (Some i) r h =
      let y = entity_of (formal_of i o) in
      let w = scopes.with_object y u in
      let near = near-wider P shown L F u w (place m) here (wider-grown false y u) refl r in
      (near-ended P shown L F (seeing w (place m)) names here f (Some (what.Object i s (not (p.is_constant o)) None)) near (λ log l. (subst (λ z. w.object z ≡ true) (mode-entity o i) (its-own y u), h.1)), (object-cells P shown L F s i h, h.1))

  b-one_formal : (m : ℕ) (u : scopes.Around) (G : Type 0) (names : Names) (here : Context) (token : ℕ) (f : Option ℕ) (o : Mode) (s : Option Subtype) → (G → Near P shown L F (seeing u (place m)) here) → Back L 0 G (OneIn m u) (p.one_formal names here token f o s)
  b-one_formal m u G names here token f o None r =
      b-bind L 0 G Any (OneIn m u) (cells_counted token 0) _ (b-any L 0 G (cells_counted token 0) (k-cells_counted leading.walk token 0)) (λ b. b-pure L 0 _ (OneIn m u) (ended_name names here f None, None) (λ g. tt))
  b-one_formal m u G names here token f o (Some s) r =
      b-bind L 0 G (Maybe (ObjectIn P shown L F s)) (OneIn m u) (new_object names here token s (p.is_constant o) None) _ (b-new_object P shown L F 0 G names here token s (p.is_constant o) None (no-value s (p.is_constant o))) (λ i.
      b-pure L 0 _ (OneIn m u) (p.formal_entry names here token f o s 0 i) (λ g. formal-entry m u names here token f o s i (r g.old) g.new))
    where
      no-value : (s : Subtype) (c : Bool) → Fits s c None
      no-value (subtype.Scalar s) c = tt
      no-value (subtype.Composite n) c = tt

  also-formal : (m j : ℕ) (ts : List Taken) (y : Context × Option Taken) → AreTaken P ts → OneIn m (taking j ts) y → FormalsIn m j y.0 (joined p.also_taken_by (Some ts) y.1)
  also-formal m j ts (here, None) h o = tt
  also-formal m j ts (here, Some t) h o = (
    subst (λ a. Near P shown L F (seeing a (place m)) here) (sym (ap (with_formals (sub_around P (shown j))) (map-more ts t) ∙ with-more (sub_around P (shown j)) (map typed_formal ts) (typed_formal t))) o.0,
    taken-more P ts t h o.1,
  )

  b-each_formal : (m j : ℕ) (G : Type 0) (names : Names) (here : Context) (o : Mode) (s : Option Subtype) (made : Option (List Taken)) (ts : List ℕ) (fs : List (Option ℕ)) → (G → FormalsIn m j here made)
      → Back L 0 G (λ r. FormalsIn m j r.0 r.1) (p.each_formal names here o s made ts fs)
  b-each_formal m j G names here o s made [] fs r = b-pure L 0 G (λ r. FormalsIn m j r.0 r.1) (here, made) r
  b-each_formal m j G names here o s made (t ∷ ts) [] r = b-pure L 0 G (λ r. FormalsIn m j r.0 r.1) (here, made) r
  b-each_formal m j G names here o s None (t ∷ ts) (f ∷ fs) r = record {
    keeps = k.k-each_formal leading names here o s None (t ∷ ts) (f ∷ fs) tt;
    at = λ log l n g. let y = p.each_formal names here o s None (t ∷ ts) (f ∷ fs) log in subst (FormalsIn m j y.0.0) (sym (each-none names here o s None (t ∷ ts) (f ∷ fs) log refl)) tt;
  }
  b-each_formal m j G names here o s (Some made) (t ∷ ts) (f ∷ fs) r =
      b-bind L 0 G (OneIn m (taking j made)) (λ z. FormalsIn m j z.0 z.1) (p.one_formal names here t f o s) _ (b-one_formal m (taking j made) G names here t f o s (λ g. (r g).0)) (λ y.
      b-each_formal m j (And G (OneIn m (taking j made) y)) names y.0 o s (joined p.also_taken_by (Some made) y.1) ts fs (λ g. also-formal m j made y (r g.old).1 g.new))

  b-formal : (m j : ℕ) (G : Type 0) (names : Names) (function : Bool) (start : ℕ) (here : Context) (made : Option (List Taken)) (f : Formal) → (G → FormalsIn m j here made) → Back L 0 G (λ r. FormalsIn m j r.0 r.1) (p.formal names function start here made f)
  b-formal m j G names function start here None f r = record {
    keeps = k.k-formal leading names function start here None f tt;
    at = λ log l n g. let y = p.formal names function start here None f log in subst (FormalsIn m j y.0.0) (sym (formal-none names function start here None f log refl)) tt;
  }
  b-formal m j G names function start here (Some made) f r =
      let U = seeing (taking j made) (place m) in
      b-bind L 0 G (BegunIn P shown L F U) (λ z. FormalsIn m j z.0 z.1) (begun_names names start here [] (all_ids f.names)) _ (b-begun_names P shown L F 0 U G names start here [] (all_ids f.names) (λ g. (r g).0)) (λ y.
      b-bind L 0 _ Any (λ z. FormalsIn m j z.0 z.1) (p.mode_rule function f.mode) _ (b-any L 0 _ (p.mode_rule function f.mode) (k.k-mode_rule leading.walk function f.mode)) (λ u.
      b-bind L 0 _ Any (λ z. FormalsIn m j z.0 z.1) (subtype_named names y.0 f.mark) _ (b-any L 0 _ (subtype_named names y.0 f.mark) (k-subtype_named leading.walk names y.0 f.mark tt)) (λ s.
      b-each_formal m j _ names y.0 (p.mode_of f.mode) s (Some made) (all_ids f.names) y.1 (λ g. (g.old.old.new, (r g.old.old.old).1)))))

  b-formals_from : (m j : ℕ) (G : Type 0) (names : Names) (function : Bool) (start : ℕ) (here : Context) (made : Option (List Taken)) (fs : List Formal) → (G → FormalsIn m j here made)
      → Back L 0 G (λ r. FormalsIn m j r.0 r.1) (p.formals_from names function start here made fs)
  b-formals_from m j G names function start here made [] r = b-pure L 0 G (λ z. FormalsIn m j z.0 z.1) (here, made) r
  b-formals_from m j G names function start here made (f ∷ fs) r =
      b-bind L 0 G (λ z. FormalsIn m j z.0 z.1) (λ z. FormalsIn m j z.0 z.1) (p.formal names function start here made f) _ (b-formal m j G names function start here made f r) (λ y. b-formals_from m j (And G (FormalsIn m j y.0 y.1)) names function start y.0 y.1 fs (λ g. g.new))

  b-formals : (m j : ℕ) (G : Type 0) (names : Names) (function : Bool) (here : Context) (fs : Option Formals) → (G → FormalsIn m j here (Some [])) → Back L 0 G (λ r. FormalsIn m j r.0 r.1) (p.formals names function here fs)
  b-formals m j G names function here None r = b-pure L 0 G (λ z. FormalsIn m j z.0 z.1) (here, Some []) r
  b-formals m j G names function here (Some f) r = b-formals_from m j G names function (length here.scope) here (Some []) (f.first ∷ f.more) r

  -- ---- profiles

  near-owner : (V : Sight) (here : Context) (owner : ℕ) → Near P shown L F V here → Near P shown L F V (record here { owner = owner })
  near-owner V here owner r log l = let x = r log l in record { scope = x.scope; target = x.target }

  -- where a subprogram sees what is declared before it
  abbrev Shows : ℕ → scopes.Around → Type 0
  Shows j u = (y : Entity) → shown j y ≡ u.object y

  wide-sub : (j : ℕ) (x : TypedPart) → Shows j (after true outset x) → Wider (after true outset x) (sub_around P (shown j))
  wide-sub j x h = record {
    object = λ y e. h y ∙ e;
    outer = λ y e. h y ∙ main-same (as_decls (turned x)) outset (λ z. refl) y ∙ e;
    parameter = λ i e. absurd (true≢false (sym e ∙ main-parameters (as_decls (turned x)) outset i));
  }

  its-outer : (j : ℕ) (x : TypedPart) → Shows j (after true outset x) → (y : Entity) → shown j y ≡ true → (after true outset x).outer y ≡ true
  its-outer j x h y e = sym (main-same (as_decls (turned x)) outset (λ z. refl) y) ∙ sym (h y) ∙ e

  -- what a profile leaves for a body
  abbrev NumberIn : ℕ → List Taken → Context → Option ℕ → Type 0
  NumberIn j ts inner None = Unit {0}
  NumberIn j ts inner (Some n) = Near P shown L F (seeing (taking j ts) (place (suc j))) inner

  pub record ProfileIn (j : ℕ) (x : TypedPart) (many : ℕ) (outer inner : Context) (given : Option ℕ) (ts : List Taken) : Type 0 where
    pub around : (m : ℕ) → many ≤ m → Near P shown L F (seeing (after true outset x) (place m)) outer
    pub number : NumberIn j ts inner given

  where-in : (names : Names) (here : Context) (name : ℕ) (one : Option ℕ) (ts : Option (List Taken)) (r : Option (Option Scalar)) (log : Log) (x : TypedPart) (start : ℕ) (inner : Context) (owner : ℕ) (rets : Returns)
      → (let w = p.profile_where names here name one ts r log in let j = length log.profiles in Leads w.1 L → ((m : ℕ) → j ≤ m → Near P shown L F (seeing (after true outset x) (place m)) here)
      → (j < length w.1.profiles → Shows j (after true outset x)) → (Shows j (after true outset x) → FormalsIn (suc j) j inner ts)
      → ProfileIn j x (length w.1.profiles) w.0.1 (p.behind w.0.1 start inner owner rets) w.0.0 (p.taken_or ts))
  where-in names here name (Some f) (Some ts) (Some r) log x start inner owner rets l near shows formals =
      let j = length log.profiles in
      let q : Profile = record { takes = ts; gives = r } in
      let u = after true outset x in
      let many : length (log.profiles ++ q ∷ []) ≡ suc j = length-append log.profiles (q ∷ []) ∙ plus j in
      let sh = shows (omega (arith, many)) in
      let fi = formals sh in
      let at : slice_get L.profiles j ≡ Some q = ap (λ ps. slice_get ps j) l.listed ∙ seam log.profiles l.profiles q in
      let around : (m : ℕ) → suc j ≤ m → Near P shown L F (seeing u (place m)) (declared names here name (Some (what.Sub j))) =
      λ m h. near-declared P shown L F (seeing u (place m)) names here name (Some (what.Sub j)) (near m (omega (arith, h))) (λ mid k. (omega (arith, h), (its-outer j x sh), (λ y e. takes-same ts y r (sym at ∙ e) fi.1))) in
      record {
        around = λ m h. around m (omega (arith, h, many));
        number = λ mid k. record {
          scope = are-both (now P shown L F mid k) (seeing (taking j ts) (place (suc j))) (declared names here name (Some (what.Sub j))).scope (drop start inner.scope)
              (are-wider (now P shown L F mid k) u (taking j ts) (place (suc j)) (declared names here name (Some (what.Sub j))).scope (wider-joined u (sub_around P (shown j)) (taking j ts) (wide-sub j x sh) (wider-formals (sub_around P (shown j)) (map typed_formal ts))) (around (suc j) (omega arith) mid k).scope)
              (are-dropped (now P shown L F mid k) (seeing (taking j ts) (place (suc j))) start inner.scope (fi.0 mid k).scope);
          target = tt;
        };
      }
    where
      plus : (n : ℕ) → n + 1 ≡ suc n
      plus n = omega arith

      seam : {A : Type 0} (xs more : List A) (y : A) → slice_get ((xs ++ y ∷ []) ++ more) (length xs) ≡ Some y
      seam [] more y = refl
      seam (z ∷ xs) more y = seam xs more y

      takes-same : (ts : List Taken) (y : Profile) (r : Option Scalar) → ◌≡◌ {A = Option Profile} (Some (record { takes = ts; gives = r })) (Some y) → AreTaken P ts → AreTaken P y.takes
      takes-same ts y r e h = let same : ◌≡◌ {A = Profile} (record { takes = ts; gives = r }) y = cc in subst (AreTaken P) (ap (λ z. z.takes) same) h
  where-in names here name (Some f) (Some ts) None log x start inner owner rets l near shows formals = record { around = λ m h. near-declared P shown L F (seeing (after true outset x) (place m)) names here name None (near m h) tt; number = tt }
  where-in names here name (Some f) None r log x start inner owner rets l near shows formals = record { around = λ m h. near-declared P shown L F (seeing (after true outset x) (place m)) names here name None (near m h) tt; number = tt }
  where-in names here name None ts r log x start inner owner rets l near shows formals = record { around = near; number = tt }

  main-target : (ds : Decls) (v : scopes.Around) → (past true v ds).target ≡ v.target
  main-target typed.NoDecl v = refl
  main-target (typed.DeclareDefault x more) v = main-target more (scopes.with_outer (VariableOf x) v)
  main-target (typed.DeclareVariable x i more) v = main-target more (scopes.with_outer (VariableOf x) v)
  main-target (typed.DeclareConstant x i more) v = main-target more (scopes.with_outer (ConstantOf x) v)
  main-target (typed.Mentions es more) v = main-target more v

  where-few : (names : Names) (here : Context) (name : ℕ) (one : Option ℕ) (ts : Option (List Taken)) (r : Option (Option Scalar)) (log : Log) → length log.profiles ≤ length (p.profile_where names here name one ts r log).1.profiles
  where-few names here name (Some f) (Some ts) (Some r) log = omega (arith, length-append log.profiles (record { takes = ts; gives = r } ∷ []))
  where-few names here name (Some f) (Some ts) None log = omega arith
  where-few names here name (Some f) None r log = omega arith
  where-few names here name None ts r log = omega arith

  -- a profile, behind declarations of the main procedure
  profile-in : (names : Names) (start : ℕ) (here : Context) (name : ℕ) (result : Option ℕ) (fs : Option Formals) (log : Log) (x : TypedPart)
      → (let q = p.profile names start here name result fs log in let j = length log.profiles in Leads q.1 L → ((m : ℕ) → j ≤ m → Near P shown L F (seeing (after true outset x) (place m)) here)
      → (j < length q.1.profiles → Shows j (after true outset x)) → ProfileIn j x (length q.1.profiles) q.0.outer q.0.inner q.0.number q.0.takes)
  unfolding p.profile
  profile-in names start here name result fs log x l near shows =
      let j = length log.profiles in
      let u = after true outset x in
      let own = (p.next_owner log).0 in
      let inner : Context = record here { owner = own } in
      let f = p.formals names (p.is_function result) inner fs log in
      let g = p.result_named names f.0.0 result f.1 in
      let one = free names start here name g.1 in
      let w = p.profile_where names here name one.0 f.0.1 g.0 one.1 in
      let l3 : Leads one.1 L = leads_joined one.1 w.1 L ((k.k-profile_where leading.walk names here name one.0 f.0.1 g.0 tt profiling).at one.1) l in
      let l2 : Leads g.1 L = leads_joined g.1 one.1 L ((k-free leading.walk names start here name tt).at g.1) l3 in
      let l1 : Leads f.1 L = leads_joined f.1 g.1 L ((k.k-result_named leading.walk names f.0.0 result tt).at f.1) l2 in
      let same : length one.1.profiles ≡ j =
      (k-free steady.walk names start here name tt).at g.1 ∙ (k.k-result_named steady.walk names f.0.0 result tt).at f.1 ∙ (k.k-formals steady names (p.is_function result) inner fs tt).at log in
      let formals : Shows j u → FormalsIn (suc j) j f.0.0 f.0.1 = λ sh.
      (b-formals (suc j) j (Unit {0}) names (p.is_function result) inner fs (λ z. (near-owner (seeing (taking j []) (place (suc j))) here own (near-wider P shown L F u (sub_around P (shown j)) (place (suc j)) here (wide-sub j x sh) (sym (main-target (as_decls (turned x)) outset)) (near (suc j) (omega arith))), tt))).at log l1 (omega arith) tt in
      moved (length one.1.profiles) j same (λ i. ProfileIn i x (length w.1.profiles) w.0.1 (p.behind w.0.1 (length here.scope) f.0.0 own (p.returns_of result g.0)) w.0.0 (p.taken_or f.0.1))
      (where-in names here name one.0 f.0.1 g.0 one.1 x (length here.scope) f.0.0 own (p.returns_of result g.0) l (λ m h. near m (omega (arith, h, same)))
      (λ h. subst (λ i. Shows i u) (sym same) (shows (omega (arith, h, same))))
      (λ sh. subst (λ i. FormalsIn (suc i) i f.0.0 f.0.1) (sym same) (formals (subst (λ i. Shows i u) same sh))))
    where
      moved : (a b : ℕ) → a ≡ b → (Q : ℕ → Type 0) → Q a → Q b
      moved a b e Q h = subst Q e h

  -- ---- subprograms

  -- a subprogram of that number
  pub record SubIn (j : ℕ) (s : TypedSub) : Type 0 where
    pub block : SeenStmt P shown (with_formals (sub_around P (shown j)) s.formals) (typed.Block s.body.decls s.body.stmts s.body.handlers)

  level-both : (names : Names) (n : ℕ) → LevelBoth (p.level_of names n)
  level-both names n = record { keeps = k.k-level_of leading.walk names n tt; sees = level-sees P shown L F names n }

  b-with_body : (j : ℕ) (G : Type 0) (names : Names) (n : ℕ) (blocking : Bool) (name : ℕ) (q : Profiled) (a : Option Aspect) (ds : List Decl) (b : Body) (last : Option ℕ) → (G → Near P shown L F (seeing (taking j q.takes) (place (suc j))) q.inner)
      → Back L (suc j) G (Maybe (SubIn j)) (p.with_body names n blocking name q a ds b last)
  unfolding p.with_body
  b-with_body j G names n blocking name q a ds b last r =
      let V = seeing (taking j q.takes) (place (suc j)) in
      b-bind L V.bound G Any (Maybe (SubIn j)) (p.aspect names q.inner blocking a) _ (b-any L V.bound G (p.aspect names q.inner blocking a) (k.k-aspect leading.walk names q.inner blocking a tt)) (λ z.
      b-bind L V.bound _ (λ y. Standing P shown L F false V V.around y.0 y.1) (Maybe (SubIn j)) (declarations names (p.level_of names n) (length q.outer.scope) q.inner (Some no_decls) ds) _
      (b-declarations P shown L F false V V.around _ names (p.level_of names n) (length q.outer.scope) q.inner (Some no_decls) ds (level-both names n) (λ g. begin P shown L F false V q.inner (r g.old))) (λ y.
      b-bind L V.bound _ (Maybe (BodyIn P shown L F false V)) (Maybe (SubIn j)) (body (around names n (stmt names n)) y.0 y.1 b) _ (b-body P shown L F false V V.around _ (around names n (stmt names n)) y.0 y.1 b (around-sees P shown L F names n) (λ g. g.new)) (λ x.
      b-bind L V.bound _ Any (Maybe (SubIn j)) (p.end_name names name last) _ (b-any L V.bound _ (p.end_name names name last) (k.k-end_name leading.walk names name last tt)) (λ u.
      b-pure L V.bound _ (Maybe (SubIn j)) (joined (p.sub_where q z) q.number x) (λ g. joint Any (BodyIn P shown L F false V) (SubIn j) (p.sub_where q z) q.number x (any q.number) g.old.new (λ i c s t. record { block = (t.decls, t.stmts, t.handlers) }))))))

  abbrev ReturnedIn : scopes.Around → TypedPart → Type 0
  ReturnedIn v x = SeenStmt P shown v (typed.ReturnValue (as_value x))

  b-result_value : (V : Sight) (G : Type 0) (names : Names) (n : ℕ) (here : Context) (e : Expr) (x : Returns) → (G → Near P shown L F V here) → Back L V.bound G (Maybe (ReturnedIn V.around)) (p.result_value names (inside names n) here e x)
  b-result_value V G names n here e (returns.Value s) h =
      b-lift P shown L F V G (Maybe (ReturnedIn V.around)) (value_for names (inside names n) here (subtype.Scalar s) e) (k-value_for leading.walk names (inside names n) here (subtype.Scalar s) e tt (k-inside leading.walk names n tt)) (λ log l g.
      v-weaken (now P shown L F log l) V (Maybe (ValueOf (now P shown L F log l) V (subtype.Scalar s))) (Maybe (ReturnedIn V.around)) (value_for names (inside names n) here (subtype.Scalar s) e)
      (v-value_for (now P shown L F log l) V names (inside names n) here (subtype.Scalar s) e (inside-sees (now P shown L F log l) names n) (h g log l)) (by log l))
    where
      by : (log : Log) (l : Leads log L) (v : Option TypedPart) → Maybe (ValueOf (now P shown L F log l) V (subtype.Scalar s)) v → Maybe (ReturnedIn V.around) v
      by log l None q = tt
      by log l (Some v) q = number-seen (now P shown L F log l) V (as_value v) (q (one-small (now P shown L F log l) V))
  b-result_value V G names n here e returns.Nothing h =
      b-bind L V.bound G Any (Maybe (ReturnedIn V.around)) (judged_alone names (inside names n) here e) _ (b-any L V.bound G (judged_alone names (inside names n) here e) (k-judged_alone leading.walk names (inside names n) here e tt (k-inside leading.walk names n tt))) (λ u. b-none L V.bound _ (ReturnedIn V.around))
  b-result_value V G names n here e returns.Faulty h =
      b-bind L V.bound G Any (Maybe (ReturnedIn V.around)) (judged_alone names (inside names n) here e) _ (b-any L V.bound G (judged_alone names (inside names n) here e) (k-judged_alone leading.walk names (inside names n) here e tt (k-inside leading.walk names n tt))) (λ u. b-none L V.bound _ (ReturnedIn V.around))

  sub-returned : (j : ℕ) (q : Profiled) (z : Bool) (v : Option TypedPart) → Maybe (ReturnedIn (taking j q.takes)) v → Maybe (SubIn j) (joined (p.sub_where q z) q.number (option_map p.returned_body v))
  sub-returned j q z None h = joint Any (λ x. ⊥) (SubIn j) (p.sub_where q z) q.number None (any q.number) tt (λ m c s t. absurd t)
  sub-returned j q z (Some v) h = joint Any (λ x. x ≡ p.returned_body v) (SubIn j) (p.sub_where q z) q.number (Some (p.returned_body v)) (any q.number) refl
      (λ m c s t. subst (λ x. SubIn j (p.sub_where q z m x)) (sym t) (record { block = (tt, (h, tt), tt) }))

  b-with_value_of : (j : ℕ) (G : Type 0) (names : Names) (n : ℕ) (blocking : Bool) (q : Profiled) (a : Option Aspect) (e : Expr) → (G → Near P shown L F (seeing (taking j q.takes) (place (suc j))) q.inner) → Back L (suc j) G (Maybe (SubIn j)) (p.with_value_of names n blocking q a e)
  unfolding p.with_value_of
  b-with_value_of j G names n blocking q a e r =
      let V = seeing (taking j q.takes) (place (suc j)) in
      b-bind L V.bound G Any (Maybe (SubIn j)) (p.aspect names q.inner blocking a) _ (b-any L V.bound G (p.aspect names q.inner blocking a) (k.k-aspect leading.walk names q.inner blocking a tt)) (λ z.
      b-bind L V.bound _ (Maybe (ReturnedIn V.around)) (Maybe (SubIn j)) (p.result_value names (inside names n) q.inner e q.inner.returns) _ (b-result_value V _ names n q.inner e q.inner.returns (λ g. r g.old)) (λ v.
      b-pure L V.bound _ (Maybe (SubIn j)) (joined (p.sub_where q z) q.number (option_map p.returned_body v)) (λ g. sub-returned j q z v g.new)))

  no-number : {A B : Type 0} (f : ℕ → A → B) (i : Option ℕ) (x : Option A) → i ≡ None → joined f i x ≡ None
  no-number f None x e = refl
  no-number f (Some i) x e = absurd (no i e)
    where
      no : (i : ℕ) → ◌≡◌ {A = Option ℕ} (Some i) None → ⊥
      no i e = cc

  body-none : (names : Names) (n : ℕ) (blocking : Bool) (name : ℕ) (q : Profiled) (a : Option Aspect) (ds : List Decl) (b : Body) (last : Option ℕ) (log : Log) → q.number ≡ None → (p.with_body names n blocking name q a ds b last log).0 ≡ None
  unfolding p.with_body
  body-none names n blocking name q a ds b last log e =
      let z = p.aspect names q.inner blocking a log in
      let r = declarations names (p.level_of names n) (length q.outer.scope) q.inner (Some no_decls) ds z.1 in
      let x = body (around names n (stmt names n)) r.0.0 r.0.1 b r.1 in
      no-number (p.sub_where q z.0) q.number x.0 e

  value-none : (names : Names) (n : ℕ) (blocking : Bool) (q : Profiled) (a : Option Aspect) (e : Expr) (log : Log) → q.number ≡ None → (p.with_value_of names n blocking q a e log).0 ≡ None
  unfolding p.with_value_of
  value-none names n blocking q a e log h =
      let z = p.aspect names q.inner blocking a log in
      let v = p.result_value names (inside names n) q.inner e q.inner.returns z.1 in
      no-number (p.sub_where q z.0) q.number (option_map p.returned_body v.0) h

  -- a subprogram, behind declarations of the main procedure
  pub record SubprogramIn (log : Log) (x : TypedPart) (r : (Context × Option TypedSub) × Log) : Type 0 where
    pub around : (m : ℕ) → length r.1.profiles ≤ m → Near P shown L F (seeing (after true outset x) (place m)) r.0.0
    pub sub : Maybe (SubIn (length log.profiles)) r.0.1

  sub-by : (log : Log) (q : Profiled × Log) (x : TypedPart) (s : Option TypedSub) (i : Option ℕ) → q.0.number ≡ i → ProfileIn (length log.profiles) x (length q.1.profiles) q.0.outer q.0.inner q.0.number q.0.takes → (i ≡ None → s ≡ None)
      → (Near P shown L F (seeing (taking (length log.profiles) q.0.takes) (place (suc (length log.profiles)))) q.0.inner → suc (length log.profiles) ≤ length q.1.profiles → Maybe (SubIn (length log.profiles)) s)
      → ((n : ℕ) → q.0.number ≡ Some n → suc (length log.profiles) ≤ length q.1.profiles) → Maybe (SubIn (length log.profiles)) s
  sub-by log q x s None e h none some many = subst (Maybe (SubIn (length log.profiles))) (sym (none refl)) tt
  sub-by log q x s (Some n) e h none some many = some (subst (NumberIn (length log.profiles) q.0.takes q.0.inner) e h.number) (many n e)

  -- where a number was given a profile was written
  where-number : (names : Names) (here : Context) (name : ℕ) (one : Option ℕ) (ts : Option (List Taken)) (r : Option (Option Scalar)) (log : Log) (n : ℕ) → (p.profile_where names here name one ts r log).0.0 ≡ Some n → suc (length log.profiles) ≤ length (p.profile_where names here name one ts r log).1.profiles
  where-number names here name (Some f) (Some ts) (Some r) log n e = omega (arith, length-append log.profiles (record { takes = ts; gives = r } ∷ []))
  where-number names here name (Some f) (Some ts) None log n e = absurd (no-some e)
  where-number names here name (Some f) None r log n e = absurd (no-some e)
  where-number names here name None ts r log n e = absurd (no-some e)

  profile-number : (names : Names) (start : ℕ) (here : Context) (name : ℕ) (result : Option ℕ) (fs : Option Formals) (log : Log) (n : ℕ) → (p.profile names start here name result fs log).0.number ≡ Some n → suc (length log.profiles) ≤ length (p.profile names start here name result fs log).1.profiles
  unfolding p.profile
  profile-number names start here name result fs log n e =
      let inner : Context = record here { owner = (p.next_owner log).0 } in
      let f = p.formals names (p.is_function result) inner fs log in
      let g = p.result_named names f.0.0 result f.1 in
      let one = free names start here name g.1 in
      let same : length one.1.profiles ≡ length log.profiles =
      (k-free steady.walk names start here name tt).at g.1 ∙ (k.k-result_named steady.walk names f.0.0 result tt).at f.1 ∙ (k.k-formals steady names (p.is_function result) inner fs tt).at log in
      omega (arith, same, where-number names here name one.0 f.0.1 g.0 one.1 n e)

  bodied : (names : Names) (n : ℕ) (blocking : Bool) (start : ℕ) (here : Context) (name : ℕ) (result : Option ℕ) (fs : Option Formals) (a : Option Aspect) (ds : List Decl) (b : Body) (last : Option ℕ) (log : Log) (x : TypedPart)
      → (let q = p.profile names start here name result fs log in let s = p.with_body names n blocking name q.0 a ds b last q.1 in
      Leads s.1 L → ((m : ℕ) → length log.profiles ≤ m → Near P shown L F (seeing (after true outset x) (place m)) here) → (length log.profiles < length s.1.profiles → Shows (length log.profiles) (after true outset x)) → SubprogramIn log x ((q.0.outer, s.0), s.1))
  bodied names n blocking start here name result fs a ds b last log x l near shows =
      let q = p.profile names start here name result fs log in
      let s = p.with_body names n blocking name q.0 a ds b last q.1 in
      let same : length s.1.profiles ≡ length q.1.profiles = (k.k-with_body steady names n blocking name q.0 a ds b last tt).at q.1 in
      let lq : Leads q.1 L = leads_joined q.1 s.1 L ((k.k-with_body leading names n blocking name q.0 a ds b last tt).at q.1) l in
      let h = profile-in names start here name result fs log x lq near (λ m. shows (omega (arith, m, same))) in
      record {
        around = λ m i. h.around m (omega (arith, i, same));
        sub = sub-by log q x s.0 q.0.number refl h (λ e. body-none names n blocking name q.0 a ds b last q.1 e) (λ r m. (b-with_body (length log.profiles) (Unit {0}) names n blocking name q.0 a ds b last (λ u. r)).at q.1 l m tt)
            (profile-number names start here name result fs log);
      }

  valued : (names : Names) (n : ℕ) (blocking : Bool) (start : ℕ) (here : Context) (name : ℕ) (result : Option ℕ) (fs : Option Formals) (a : Option Aspect) (e : Expr) (log : Log) (x : TypedPart)
      → (let q = p.profile names start here name result fs log in let s = p.with_value_of names n blocking q.0 a e q.1 in
      Leads s.1 L → ((m : ℕ) → length log.profiles ≤ m → Near P shown L F (seeing (after true outset x) (place m)) here) → (length log.profiles < length s.1.profiles → Shows (length log.profiles) (after true outset x)) → SubprogramIn log x ((q.0.outer, s.0), s.1))
  valued names n blocking start here name result fs a e log x l near shows =
      let q = p.profile names start here name result fs log in
      let s = p.with_value_of names n blocking q.0 a e q.1 in
      let same : length s.1.profiles ≡ length q.1.profiles = (k.k-with_value_of steady.walk names n blocking q.0 a e tt).at q.1 in
      let lq : Leads q.1 L = leads_joined q.1 s.1 L ((k.k-with_value_of leading.walk names n blocking q.0 a e tt).at q.1) l in
      let h = profile-in names start here name result fs log x lq near (λ m. shows (omega (arith, m, same))) in
      record {
        around = λ m i. h.around m (omega (arith, i, same));
        sub = sub-by log q x s.0 q.0.number refl h (λ z. value-none names n blocking q.0 a e q.1 z) (λ r m. (b-with_value_of (length log.profiles) (Unit {0}) names n blocking q.0 a e (λ u. r)).at q.1 l m tt)
            (profile-number names start here name result fs log);
      }

  subprogram-in : (names : Names) (n : ℕ) (blocking : Bool) (start : ℕ) (here : Context) (s : Sub) (log : Log) (x : TypedPart) → Leads (p.subprogram names n blocking start here s log).1 L
      → ((m : ℕ) → length log.profiles ≤ m → Near P shown L F (seeing (after true outset x) (place m)) here) → (length log.profiles < length (p.subprogram names n blocking start here s log).1.profiles → Shows (length log.profiles) (after true outset x))
      → SubprogramIn log x (p.subprogram names n blocking start here s log)
  unfolding p.subprogram
  subprogram-in names n blocking start here (syntax.Procedure at name fs a ds b last) log x l near shows = bodied names n blocking start here name None fs a ds b last log x l near shows
  subprogram-in names n blocking start here (syntax.Function at name fs result a ds b last) log x l near shows = bodied names n blocking start here name (Some result) fs a ds b last log x l near shows
  subprogram-in names n blocking start here (syntax.ExprFunction at name fs result bracket e a) log x l near shows = valued names n blocking start here name (Some result) fs a e log x l near shows

  -- ---- the main procedure

  abbrev pub SubsIn : ℕ → List TypedSub → Type 0
  SubsIn j [] = Unit {0}
  SubsIn j (s ∷ ss) = SubIn j s × SubsIn (suc j) ss

  subs-more : (j : ℕ) (ss : List TypedSub) (s : TypedSub) → SubsIn j ss → SubIn (j + length ss) s → SubsIn j (ss ++ s ∷ [])
  subs-more j [] s h b = (subst (λ m. SubIn m s) (omega arith) b, tt)
  subs-more j (x ∷ ss) s h b = (h.0, subs-more (suc j) ss s h.1 (subst (λ m. SubIn m s) (omega arith) b))

  also-subs : (ss : Option (List TypedSub)) (s : Option TypedSub) (log : Log) → Maybe (SubsIn 0) ss → AreNumbered ss log → Maybe (SubIn (length log.profiles)) s → Maybe (SubsIn 0) (joined p.also_sub ss s)
  also-subs None s log h e b = tt
  also-subs (Some ss) None log h e b = tt
  also-subs (Some ss) (Some s) log h e b = subs-more 0 ss s h (subst (λ m. SubIn m s) (sym e ∙ omega arith) b)

  -- what was found of the declarative part so far, with so much in scope at least
  abbrev UnitsIn : scopes.Around → Log → Context → Option TypedPart → Option (List TypedSub) → Type 0
  UnitsIn lo log here None subs = Unit {0}
  UnitsIn lo log here (Some x) subs = Standing P shown L F true (place (length log.profiles)) lo here (Some x) × Maybe (SubsIn 0) subs × AreNumbered subs log

  abbrev ShownFrom : Names → ℕ → Bool → ℕ → Declared' → List Unit' → Log → Type 0
  ShownFrom names n blocking start d us log = (j : ℕ) → length log.profiles ≤ j → (y : Entity) → shown j y ≡ shown-by names n blocking start d us log j y

  not-less : (j m : ℕ) → m ≤ j → nat_lt j m ≡ false
  not-less j m h = by (nat_lt j m) refl
    where
      by : (b : Bool) → nat_lt j m ≡ b → nat_lt j m ≡ false
      by true e = absurd (omega (arith, h, ltb-true j m e))
      by false e = e

  is-less : (j m : ℕ) → j < m → nat_lt j m ≡ true
  is-less j m h = by (nat_lt j m) refl
    where
      by : (b : Bool) → nat_lt j m ≡ b → nat_lt j m ≡ true
      by true e = e
      by false e = absurd (omega (arith, h, ltb-false j m e))

  shown-next : (names : Names) (n : ℕ) (blocking : Bool) (start : ℕ) (d : Declared') (u : Unit') (us : List Unit') (log : Log) → (let e = p.unit_of names n blocking start d u log in length log.profiles ≤ length e.1.profiles
      → ShownFrom names n blocking start d (u ∷ us) log → ShownFrom names n blocking start e.0 us e.1)
  shown-next names n blocking start d u us log more h j i y =
      let e = p.unit_of names n blocking start d u log in
      h j (omega (arith, i, more)) y ∙ ap (λ b. cond b (declared-by d.decls y) (shown-by names n blocking start e.0 us e.1 j y)) (not-less j (length e.1.profiles) i)

  shown-now : (names : Names) (n : ℕ) (blocking : Bool) (start : ℕ) (d : Declared') (u : Unit') (us : List Unit') (log : Log) → ShownFrom names n blocking start d (u ∷ us) log
      → length log.profiles < length (p.unit_of names n blocking start d u log).1.profiles → (y : Entity) → shown (length log.profiles) y ≡ declared-by d.decls y
  shown-now names n blocking start d u us log h l y =
      let e = p.unit_of names n blocking start d u log in
      h (length log.profiles) (omega arith) y ∙ ap (λ b. cond b (declared-by d.decls y) (shown-by names n blocking start e.0 us e.1 (length log.profiles) y)) (is-less (length log.profiles) (length e.1.profiles) l)

  declared-in : (lo : scopes.Around) (log : Log) (here : Context) (x : Option TypedPart) (subs : Option (List TypedSub)) → Standing P shown L F true (place (length log.profiles)) lo here x → Maybe (SubsIn 0) subs → AreNumbered subs log → UnitsIn lo log here x subs
  declared-in lo log here None subs h i e = tt
  declared-in lo log here (Some x) subs h i e = (h, i, e)

  what-raised : (W : World) (u : scopes.Around) (a b : ℕ) (w : What) → a ≤ b → WhatOf W (seeing u (place a)) w → WhatOf W (seeing u (place b)) w
  what-raised W u a b (what.Object n t v z) l h = h
  what-raised W u a b (what.Item n t v) l h = h
  what-raised W u a b (what.Parameter n t) l h = h
  what-raised W u a b (what.Sub n) l h = (omega (arith, l, h.0), h.1, h.2)
  what-raised W u a b w l h = tt

  are-raised : (W : World) (u : scopes.Around) (a b : ℕ) (es : List Entry) → a ≤ b → AreOf W (seeing u (place a)) es → AreOf W (seeing u (place b)) es
  are-raised W u a b [] l h = tt
  are-raised W u a b (e ∷ es) l h = (what-raised W u a b e.what l h.0, are-raised W u a b es l h.1)

  target-raised : (W : World) (u : scopes.Around) (a b : ℕ) (t : Target) → TargetOf W (seeing u (place a)) t → TargetOf W (seeing u (place b)) t
  target-raised W u a b (target.Of t) h = h
  target-raised W u a b t h = tt

  -- with more subprograms
  near-raised : (u : scopes.Around) (a b : ℕ) (here : Context) → a ≤ b → Near P shown L F (seeing u (place a)) here → Near P shown L F (seeing u (place b)) here
  near-raised u a b here l h log m = record { scope = are-raised (now P shown L F log m) u a b here.scope l (h log m).scope; target = target-raised (now P shown L F log m) u a b here.target (h log m).target }

  unit-few : (names : Names) (n : ℕ) (blocking : Bool) (start : ℕ) (d : Declared') (u : Unit') (log : Log) → length log.profiles ≤ length (p.unit_of names n blocking start d u log).1.profiles
  unit-few names n blocking start d u log = leads_many log (p.unit_of names n blocking start d u log).1 ((k.k-unit_of leading names n blocking start d u tt profiling).at log)

  unit-in : (names : Names) (n : ℕ) (blocking : Bool) (start : ℕ) (d : Declared') (made : Option TypedPart) (u : Unit') (us : List Unit') (log : Log) (lo : scopes.Around) → d.decls ≡ made → Leads (p.unit_of names n blocking start d u log).1 L
      → ShownFrom names n blocking start d (u ∷ us) log → UnitsIn lo log d.here made d.subs → (let e = p.unit_of names n blocking start d u log in UnitsIn lo e.1 e.0.here e.0.decls e.0.subs)
  unit-in names n blocking start d None (syntax.DeclUnit x) us log lo q l sh h =
      let r = declaration names (p.level_of names n) start d.here d.decls x log in
      subst (λ y. UnitsIn lo r.1 r.0.0 y d.subs) (sym (ap (λ y. (declaration names (p.level_of names n) start d.here y x log).0.1) q ∙ declaration-none names (p.level_of names n) start d.here x log)) tt
  unit-in names n blocking start d None (syntax.SubUnit s) us log lo q l sh h =
      let r = p.subprogram names (n - 1) blocking start d.here s log in
      subst (λ y. UnitsIn lo r.1 r.0.0 y (joined p.also_sub d.subs r.0.1)) (sym q) tt
  unit-in names n blocking start d (Some made) (syntax.DeclUnit x) us log lo q l sh h =
      let r = declaration names (p.level_of names n) start d.here d.decls x log in
      let V = place (length log.profiles) in
      let same : length r.1.profiles ≡ length log.profiles = (k-declaration steady names (p.level_of names n) start d.here d.decls x tt (k.k-level_of steady.walk names n tt)).at log in
      let at : Standing P shown L F true V lo r.0.0 r.0.1 =
      (b-declaration P shown L F true V lo (Unit {0}) names (p.level_of names n) start d.here d.decls x (level-both names n) (λ z. subst (Standing P shown L F true V lo d.here) (sym q) h.0)).at log l (omega arith) tt in
      declared-in lo r.1 r.0.0 r.0.1 d.subs (subst (λ m. Standing P shown L F true (place m) lo r.0.0 r.0.1) (sym same) at) h.1 (one-place names n blocking start d (syntax.DeclUnit x) log h.2)
  unit-in names n blocking start d (Some made) (syntax.SubUnit s) us log lo q l sh h =
      let r = p.subprogram names (n - 1) blocking start d.here s log in
      let more = unit-few names n blocking start d (syntax.SubUnit s) log in
      let x = subprogram-in names (n - 1) blocking start d.here s log made l (λ m i. near-raised (after true outset made) (length log.profiles) m d.here i h.0.1) (λ i y. shown-now names n blocking start d (syntax.SubUnit s) us log sh i y ∙ ap (λ z. declared-by z y) q) in
      subst (λ y. UnitsIn lo r.1 r.0.0 y (joined p.also_sub d.subs r.0.1)) (sym q)
      ((h.0.0, x.around (length r.1.profiles) (omega arith), h.0.2), also-subs d.subs r.0.1 log h.1 h.2 x.sub, one-place names n blocking start d (syntax.SubUnit s) log h.2)

  units-in : (names : Names) (n : ℕ) (blocking : Bool) (start : ℕ) (d : Declared') (us : List Unit') (log : Log) (lo : scopes.Around) → Leads (p.units names n blocking start d us log).1 L → ShownFrom names n blocking start d us log → UnitsIn lo log d.here d.decls d.subs
      → (let e = p.units names n blocking start d us log in UnitsIn lo e.1 e.0.here e.0.decls e.0.subs)
  units-in names n blocking start d [] log lo l sh h = h
  units-in names n blocking start d (u ∷ us) log lo l sh h =
      let e = p.unit_of names n blocking start d u log in
      let end = p.units names n blocking start e.0 us e.1 in
      let le : Leads e.1 L = leads_joined e.1 end.1 L ((k.k-units leading names n blocking start e.0 us tt profiling).at e.1) l in
      units-in names n blocking start e.0 us e.1 lo l (shown-next names n blocking start d u us log (unit-few names n blocking start d u log) sh) (unit-in names n blocking start d d.decls u us log lo refl le sh h)

  -- with less in scope at least
  lower : (a b : scopes.Around) (log : Log) (here : Context) (x : Option TypedPart) (subs : Option (List TypedSub)) → UnitsIn a log here x subs → ((y : TypedPart) → x ≡ Some y → Wider b (after true outset y)) → UnitsIn b log here x subs
  lower a b log here None subs h w = tt
  lower a b log here (Some x) subs h w = ((h.0.0, h.0.1, w x refl), h.1, h.2)

  one-or-other : (b x y : Bool) (T : Type 0) → (x ≡ true → T) → (y ≡ true → T) → cond b x y ≡ true → T
  one-or-other true x y T f g e = f e
  one-or-other false x y T f g e = g e

  -- what is declared so far is in scope behind all declarations
  declared-within : (names : Names) (n : ℕ) (blocking : Bool) (start : ℕ) (d : Declared') (us : List Unit') (log : Log) (lo : scopes.Around) (made : Option TypedPart) → d.decls ≡ made → Leads (p.units names n blocking start d us log).1 L → ShownFrom names n blocking start d us log → UnitsIn lo log d.here d.decls d.subs
      → (last : TypedPart) → (p.units names n blocking start d us log).0.decls ≡ Some last → (y : Entity) → declared-by made y ≡ true → (after true outset last).object y ≡ true
  declared-within names n blocking start d us log lo None g l sh h last q y f = absurd (true≢false (sym f))
  declared-within names n blocking start d us log lo (Some made) g l sh h last q y f =
      let end = p.units names n blocking start d us log in
      let whole = units-in names n blocking start d us log (after true outset made) l sh
      (lower lo (after true outset made) log d.here d.decls d.subs h (λ z i. subst (λ w. Wider (after true outset made) (after true outset w)) (part-same made z (sym g ∙ i)) (wider-same (after true outset made)))) in
      (subst (λ z. UnitsIn (after true outset made) end.1 end.0.here z end.0.subs) q whole).0.2.object y f

  -- what a subprogram sees is in scope behind all declarations
  shown-within : (names : Names) (n : ℕ) (blocking : Bool) (start : ℕ) (d : Declared') (us : List Unit') (log : Log) (lo : scopes.Around) → Leads (p.units names n blocking start d us log).1 L → ShownFrom names n blocking start d us log → UnitsIn lo log d.here d.decls d.subs
      → (last : TypedPart) → (p.units names n blocking start d us log).0.decls ≡ Some last → (j : ℕ) (y : Entity) → shown-by names n blocking start d us log j y ≡ true → (after true outset last).object y ≡ true
  shown-within names n blocking start d [] log lo l sh h last q j y e = absurd (true≢false (sym e))
  shown-within names n blocking start d (u ∷ us) log lo l sh h last q j y e =
      let m = p.unit_of names n blocking start d u log in
      let end = p.units names n blocking start m.0 us m.1 in
      let le : Leads m.1 L = leads_joined m.1 end.1 L ((k.k-units leading names n blocking start m.0 us tt profiling).at m.1) l in
      one-or-other (nat_lt j (length m.1.profiles)) (declared-by d.decls y) (shown-by names n blocking start m.0 us m.1 j y) ((after true outset last).object y ≡ true)
      (λ f. declared-within names n blocking start d (u ∷ us) log lo d.decls refl l sh h last q y f)
      (λ f. shown-within names n blocking start m.0 us m.1 lo l (shown-next names n blocking start d u us log (unit-few names n blocking start d u log) sh) (unit-in names n blocking start d d.decls u us log lo refl le sh h) last q j y f) e

  pub record WholeIn (w : Whole) : Type 0 where
    pub decls : SeenDecls P shown true outset w.body.decls
    pub stmts : SeenAll P shown (past true outset w.body.decls) w.body.stmts
    pub handlers : SeenHandlers P shown (scopes.handling (past true outset w.body.decls)) w.body.handlers
    pub objects : (j : ℕ) (y : Entity) → shown j y ≡ true → (past true outset w.body.decls).object y ≡ true
    pub subs : SubsIn 0 w.subs

  -- the body of the main procedure has the declarations that were found
  body-decls : (names : Names) (n : ℕ) (here : Context) (d : TypedPart) (b : Body) (log : Log) (x : TypedPart) → (body (around names n (stmt names n)) here (Some d) b log).0 ≡ Some x → (as_body x).decls ≡ as_decls (turned d)
  unfolding body
  body-decls names n here d (syntax.body s hs) log x e =
      let a = around names n (stmt names n) in
      let ss = stmts a here s log in
      let xs = handlers a here [] (Some part.Nothing) hs ss.1 in
      by ss.0 xs.0 e
    where
      by : (ss xs : Option TypedPart) → joined (body_part d) ss xs ≡ Some x → (as_body x).decls ≡ as_decls (turned d)
      by (Some ss) (Some xs) e = sym (ap (λ z. (as_body z).decls) (part-same (body_part d ss xs) x e))
      by (Some ss) None e = absurd (no-some e)
      by None xs e = absurd (no-some e)

  body-none' : (names : Names) (n : ℕ) (here : Context) (b : Body) (log : Log) → (body (around names n (stmt names n)) here None b log).0 ≡ None
  unfolding body
  body-none' names n here (syntax.body s hs) log = refl

  objects-in : (names : Names) (n : ℕ) (here : Context) (ds : Option TypedPart) (b : Body) (log : Log) (y : TypedPart) (w : Entity) → (body (around names n (stmt names n)) here ds b log).0 ≡ Some y
      → ((last : TypedPart) → ds ≡ Some last → (after true outset last).object w ≡ true) → (past true outset (as_body y).decls).object w ≡ true
  objects-in names n here (Some d) b log y w e f = subst (λ ds. (past true outset ds).object w ≡ true) (sym (body-decls names n here d b log y e)) (f d refl)
  objects-in names n here None b log y w e f = absurd (no-some (sym (body-none' names n here b log) ∙ e))

  whole-in : (z s : Bool) (x : Option TypedPart) (ss : Option (List TypedSub)) → ((y : TypedPart) → x ≡ Some y → (j : ℕ) (e : Entity) → shown j e ≡ true → (past true outset (as_body y).decls).object e ≡ true) → Maybe (BodyIn P shown L F true (place 0)) x → Maybe (SubsIn 0) ss → Maybe WholeIn (joined (p.whole z s) x ss)
  whole-in z s None ss f h i = tt
  whole-in z s (Some x) None f h i = tt
  whole-in z s (Some x) (Some ss) f h i = record { decls = h.decls; stmts = h.stmts; handlers = h.handlers; objects = f x refl; subs = i }

  lowered : (m : ℕ) (x : Option TypedPart) → Maybe (BodyIn P shown L F true (place m)) x → Maybe (BodyIn P shown L F true (place 0)) x
  lowered m None h = tt
  lowered m (Some x) h = record { decls = h.decls; stmts = h.stmts; handlers = h.handlers }

  units-subs : (lo : scopes.Around) (log : Log) (here : Context) (x : Option TypedPart) (subs : Option (List TypedSub)) (b : Option TypedPart) → (x ≡ None → b ≡ None) → UnitsIn lo log here x subs → (z s : Bool)
      → ((y : TypedPart) → b ≡ Some y → (j : ℕ) (e : Entity) → shown j e ≡ true → (past true outset (as_body y).decls).object e ≡ true) → Maybe (BodyIn P shown L F true (place (length log.profiles))) b → Maybe WholeIn (joined (p.whole z s) b subs)
  units-subs lo log here None subs b n h z s f i = subst (λ y. Maybe WholeIn (joined (p.whole z s) y subs)) (sym (n refl)) tt
  units-subs lo log here (Some x) subs b n h z s f i = whole-in z s b subs f (lowered (length log.profiles) b i) h.1

  units-standing : (lo : scopes.Around) (log : Log) (here : Context) (x : Option TypedPart) (subs : Option (List TypedSub)) → UnitsIn lo log here x subs → Standing P shown L F true (place (length log.profiles)) lo here x
  units-standing lo log here None subs h = tt
  units-standing lo log here (Some x) subs h = h.0

  -- where what each subprogram sees is what is declared before it
  pub main-in : (names : Names) (n : ℕ) (here : Context) (m : Main) (s : Bool) (log : Log) → Leads (p.main names n here m s log).1 L → length log.profiles ≡ 0 → Near P shown L F (place 0) here
      → (let z = p.aspect names here false m.aspect log in (j : ℕ) (y : Entity) → shown j y ≡ shown-by names n z.0 (length here.scope) (record { here = here; decls = Some no_decls; subs = Some [] }) m.units z.1 j y)
      → Maybe WholeIn (p.main names n here m s log).0
  unfolding p.main
  main-in names n here m s log l zero-profiles r sh =
      let z = p.aspect names here false m.aspect log in
      let start : Declared' = record { here = here; decls = Some no_decls; subs = Some [] } in
      let d = p.units names n z.0 (length here.scope) start m.units z.1 in
      let b = body (around names n (stmt names n)) d.0.here d.0.decls m.body d.1 in
      let u = p.end_name names m.defined m.last_name b.1 in
      let l2 : Leads b.1 L = leads_joined b.1 u.1 L ((k.k-end_name leading.walk names m.defined m.last_name tt).at b.1) l in
      let l1 : Leads d.1 L = leads_joined d.1 b.1 L ((k-body leading.walk (around names n (stmt names n)) d.0.here d.0.decls m.body (k-around leading names n tt)).at d.1) l2 in
      let none : 0 ≡ length z.1.profiles = sym ((k.k-aspect steady.walk names here false m.aspect tt).at log ∙ zero-profiles) in
      let first : UnitsIn outset z.1 here (Some no_decls) (Some []) = (subst (λ i. Standing P shown L F true (place i) outset here (Some part.Nothing)) none (begin P shown L F true (place 0) here r), tt, none) in
      let from : ShownFrom names n z.0 (length here.scope) start m.units z.1 = λ j i y. sh j y in
      let h = units-in names n z.0 (length here.scope) start m.units z.1 outset l1 from first in
      let V = place (length d.1.profiles) in
      let x = (b-body P shown L F true V outset (Unit {0}) (around names n (stmt names n)) d.0.here d.0.decls m.body (around-sees P shown L F names n) (λ g. units-standing outset d.1 d.0.here d.0.decls d.0.subs h)).at d.1 l2 (omega arith) tt in
      units-subs outset d.1 d.0.here d.0.decls d.0.subs b.0 (λ e. ap (λ y. (body (around names n (stmt names n)) d.0.here y m.body d.1).0) e ∙ body-none' names n d.0.here m.body d.1) h z.0 s
      (λ y e j w f. objects-in names n d.0.here d.0.decls m.body d.1 y w e (λ last q. shown-within names n z.0 (length here.scope) start m.units z.1 outset l1 from first last q j w (sym (sh j w) ∙ f))) x

  -- ---- clauses declare nothing

  clause-near : (V : Sight) (w : ClauseWord) (here : Context) (first : ℕ) (name : Option ℕ) (log : Log) → Near P shown L F V here → Near P shown L F V (p.clause_name w here first name log).0
  clause-near V w here first None log r = r
  clause-near V word.With here first (Some name) log r = λ mid l. let x = r mid l in record { scope = x.scope; target = x.target }
  clause-near V word.Use here first (Some name) log r = λ mid l. let x = r mid l in record { scope = x.scope; target = x.target }

  packs-near : (V : Sight) (names : Names) (w : ClauseWord) (here : Context) (ps : List Pack) (log : Log) → Near P shown L F V here → Near P shown L F V (p.clause_packs names w here ps log).0
  packs-near V names w here [] log r = r
  packs-near V names w here (x ∷ xs) log r =
      let n = p.pack names x log in
      let c = p.clause_name w here x.first n.0 n.1 in
      packs-near V names w c.0 xs c.1 (clause-near V w here x.first n.0 n.1 r)

  pub clauses-near : (V : Sight) (names : Names) (here : Context) (cs : List Clause) (log : Log) → Near P shown L F V here → Near P shown L F V (p.clauses names here cs log).0
  clauses-near V names here [] log r = r
  clauses-near V names here (c ∷ cs) log r =
      let x = p.clause_packs names c.word here (c.first ∷ c.more) log in
      clauses-near V names x.0 cs x.1 (packs-near V names c.word here (c.first ∷ c.more) log r)

  pub outermost-near : (V : Sight) → Near P shown L F V p.outermost
  outermost-near V log l = record { scope = (tt, (tt, (tt, (tt, (tt, (tt, (tt, (tt, (tt, tt))))))))); target = tt }
