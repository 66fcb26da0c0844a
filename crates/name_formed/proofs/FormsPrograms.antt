-- What is found is formed: subprograms and programs. So the typed program of each text without a fault is formed.
use Rattle.std.proofs.Common.{◌≡◌, refl, sym, subst, ◌∙◌, ℕ, zero, suc, ◌+◌, ◌-◌, ◌<◌, ◌≤◌, List, [], ◌∷◌, ◌++◌, length, length-append, drop, Option, Some, None, Bool, false, option_map, arith}
use Rattle.std.specs.Prelude.{not}
use Rattle.ada_meaning.specs.Formed.{FormedAll, FormedBody, FormedDecls, FormedHandlers, FormedSubs, IsFormed, at_first}
use Rattle.syntax_tree.specs.Syntax as syntax
use Rattle.syntax_tree.specs.Syntax.{Aspect, Body, Clause, Decl, Expr, Formal, Formals, Main, Pack, Program, Sub, Unit'}
use Rattle.syntax_tree.specs.declared.operators.ClauseWord.{ClauseWord}
use Rattle.syntax_tree.specs.declared.operators.ClauseWord.TheVariants as word
use Rattle.typed_tree.specs.Decoded.{TypedPart, as_body}
use Rattle.typed_tree.specs.Syntax as typed
use Rattle.typed_tree.specs.Syntax.{Sub as TypedSub}
use Rattle.typed_tree.specs.declared.program.Mode.{Mode}
use Rattle.name_rules.specs.Declarations.{all_ids, begun_names, cells_counted, declaration, declarations, ended_name, new_object}
use Rattle.name_rules.specs.Expressions.{judged_alone, value_for}
use Rattle.name_rules.specs.Judging.{joined}
use Rattle.name_rules.specs.Primaries.{inside}
use Rattle.name_rules.specs.Programs as p
use Rattle.name_rules.specs.Programs.{Declared', Profiled, Whole}
use Rattle.syntax_tree.specs.Parsed.{depth_limit}
use Rattle.name_rules.specs.Resolved.{fresh, judged, typed_by}
use Rattle.name_rules.specs.Scope.{free, subtype_named}
use Rattle.name_rules.specs.Statements.{around, body, no_decls, stmt}
use Rattle.name_rules.specs.declared.log.Log.{Log}
use Rattle.name_rules.specs.declared.log.Taken.{Taken}
use Rattle.name_rules.specs.declared.scope.Context.{Context}
use Rattle.name_rules.specs.declared.scope.Entry.{Entry}
use Rattle.name_rules.specs.declared.scope.Names.{Names}
use Rattle.name_rules.specs.declared.scope.Returns.{Returns}
use Rattle.name_rules.specs.declared.scope.Returns.TheVariants as returns
use Rattle.name_rules.specs.declared.scope.What.TheVariants as what
use Rattle.name_rules.specs.declared.types.Scalar.{Scalar}
use Rattle.name_rules.specs.declared.types.Subtype.{Subtype}
use Rattle.name_rules.specs.declared.types.Subtype.TheVariants as subtype
use Rattle.name_laws.proofs.CellsFormed.{all-values, formed_law}
use Rattle.name_laws.proofs.CellsPrograms.{all-sound}
use Rattle.name_laws.proofs.Fitting.{Fits}
use Rattle.name_laws.proofs.KeepsDeclarations.{k-cells_counted, k-declaration}
use Rattle.name_laws.proofs.KeepsExpressions.{k-judged_alone, k-value_for}
use Rattle.name_laws.proofs.KeepsPrimaries.{k-inside}
use Rattle.name_laws.proofs.KeepsPrograms as k
use Rattle.name_laws.proofs.KeepsScope.{k-free, k-subtype_named}
use Rattle.name_laws.proofs.KeepsStatements.{k-around, k-body}
use Rattle.name_laws.proofs.Lying.{typed-from}
use Rattle.name_laws.proofs.Places.{one-place, steady}
use Rattle.name_laws.specs.Formed.{HaveComponents}
use Rattle.name_laws.specs.OwnNames.{AreNumbered}
use Rattle.name_formed.proofs.Forms.{Any, Maybe, Sight, World, any, joint}
use Rattle.name_formed.proofs.FormsBack.{And, Back, Leads, Near, b-any, b-bind, b-lift, b-none, b-pure, leading, leads_here, leads_joined, now, profiling}
use Rattle.name_formed.proofs.FormsDeclarations.{BegunIn, DeclaringIn, DeclsIn, LevelBoth, ObjectIn, b-begun_names, b-declaration, b-declarations, b-new_object, near-declared, near-ended}
use Rattle.name_formed.proofs.FormsExpressions.{f-value_for}
use Rattle.name_formed.proofs.FormsFound.{AreOf, ValueOf}
use Rattle.name_formed.proofs.FormsIterations.{are-both}
use Rattle.name_formed.proofs.FormsPrimaries.{inside-forms}
use Rattle.name_formed.proofs.FormsShapes.{Facts, grounded}
use Rattle.name_formed.proofs.FormsStatements.{BodyIn, around-forms, b-body, level-forms}
use Rattle.name_formed.specs.Law.{FormedProgramsLaw}

-- what is known where so many subprograms may be called, outside of loops and assignments
abbrev place : ℕ → Sight
place n = record { known = at_first n; bound = 0 }

are-dropped : (W : World) (V : Sight) (n : ℕ) (es : List Entry) → AreOf W V es → AreOf W V (drop n es)
are-dropped W V zero es h = h
are-dropped W V (suc n) [] h = tt
are-dropped W V (suc n) (e ∷ es) h = are-dropped W V n es h.1

module _ (P : typed.Program) (L : Log) (F : Facts P L) where
  -- ---- formal parameters

  abbrev AroundIn : {B : Type 0} → Sight → Context × B → Type 0
  AroundIn V r = Near P L F V r.0

  formal-entry : (V : Sight) (names : Names) (here : Context) (token : ℕ) (f : Option ℕ) (m : Mode) (s : Subtype) (n : ℕ) (o : Option ℕ) → Near P L F V here → Maybe (ObjectIn P L F s) o → AroundIn V (p.formal_entry names here token f m s n o)
  formal-entry V names here token f m s n None r h = near-ended P L F V names here f None r tt
  formal-entry V names here token f m s n (Some o) r h = near-ended P L F V names here f (Some (what.Object o s (not (p.is_constant m)) None)) r (λ log l. h)

  b-one_formal : (V : Sight) (G : Type 0) (names : Names) (here : Context) (token : ℕ) (f : Option ℕ) (m : Mode) (s : Option Subtype) → (G → Near P L F V here) → Back L V G (AroundIn V) (p.one_formal names here token f m s)
  b-one_formal V G names here token f m None r =
      b-bind L V G Any (AroundIn V) (cells_counted token 0) _ (b-any L V G (cells_counted token 0) (k-cells_counted leading.walk token 0)) (λ b.
      b-pure L V _ (AroundIn V) (ended_name names here f None, None) (λ g. near-ended P L F V names here f None (r g.old) tt))
  b-one_formal V G names here token f m (Some s) r =
      b-bind L V G (Maybe (ObjectIn P L F s)) (AroundIn V) (new_object names here token s (p.is_constant m) None) _ (b-new_object P L F V G names here token s (p.is_constant m) None (no-value s (p.is_constant m))) (λ o.
      b-pure L V _ (AroundIn V) (p.formal_entry names here token f m s 0 o) (λ g. formal-entry V names here token f m s 0 o (r g.old) g.new))
    where
      no-value : (s : Subtype) (c : Bool) → Fits s c None
      no-value (subtype.Scalar s) c = tt
      no-value (subtype.Composite n) c = tt

  b-each_formal : (V : Sight) (G : Type 0) (names : Names) (here : Context) (m : Mode) (s : Option Subtype) (made : Option (List Taken)) (ts : List ℕ) (fs : List (Option ℕ)) → (G → Near P L F V here)
      → Back L V G (AroundIn V) (p.each_formal names here m s made ts fs)
  b-each_formal V G names here m s made [] fs r = b-pure L V G (AroundIn V) (here, made) r
  b-each_formal V G names here m s made (t ∷ ts) [] r = b-pure L V G (AroundIn V) (here, made) r
  b-each_formal V G names here m s made (t ∷ ts) (f ∷ fs) r =
      b-bind L V G (AroundIn V) (AroundIn V) (p.one_formal names here t f m s) _ (b-one_formal V G names here t f m s r) (λ y. b-each_formal V (And G (AroundIn V y)) names y.0 m s (joined p.also_taken_by made y.1) ts fs (λ g. g.new))

  b-formal : (V : Sight) (G : Type 0) (names : Names) (function : Bool) (start : ℕ) (here : Context) (made : Option (List Taken)) (f : Formal) → (G → Near P L F V here) → Back L V G (AroundIn V) (p.formal names function start here made f)
  b-formal V G names function start here made f r =
      b-bind L V G (BegunIn P L F V) (AroundIn V) (begun_names names start here [] (all_ids f.names)) _ (b-begun_names P L F V G names start here [] (all_ids f.names) r) (λ y.
      b-bind L V _ Any (AroundIn V) (p.mode_rule function f.mode) _ (b-any L V _ (p.mode_rule function f.mode) (k.k-mode_rule leading.walk function f.mode)) (λ u.
      b-bind L V _ Any (AroundIn V) (subtype_named names y.0 f.mark) _ (b-any L V _ (subtype_named names y.0 f.mark) (k-subtype_named leading.walk names y.0 f.mark tt)) (λ s.
      b-each_formal V _ names y.0 (p.mode_of f.mode) s made (all_ids f.names) y.1 (λ g. g.old.old.new))))

  b-formals_from : (V : Sight) (G : Type 0) (names : Names) (function : Bool) (start : ℕ) (here : Context) (made : Option (List Taken)) (fs : List Formal) → (G → Near P L F V here)
      → Back L V G (AroundIn V) (p.formals_from names function start here made fs)
  b-formals_from V G names function start here made [] r = b-pure L V G (AroundIn V) (here, made) r
  b-formals_from V G names function start here made (f ∷ fs) r =
      b-bind L V G (AroundIn V) (AroundIn V) (p.formal names function start here made f) _ (b-formal V G names function start here made f r) (λ y. b-formals_from V (And G (AroundIn V y)) names function start y.0 y.1 fs (λ g. g.new))

  b-formals : (V : Sight) (G : Type 0) (names : Names) (function : Bool) (here : Context) (fs : Option Formals) → (G → Near P L F V here) → Back L V G (AroundIn V) (p.formals names function here fs)
  b-formals V G names function here None r = b-pure L V G (AroundIn V) (here, Some []) r
  b-formals V G names function here (Some f) r = b-formals_from V G names function (length here.scope) here (Some []) (f.first ∷ f.more) r

  -- ---- profiles

  where-near : (n : ℕ) (names : Names) (here : Context) (name : ℕ) (one : Option ℕ) (ts : Option (List Taken)) (r : Option (Option Scalar)) (log : Log)
      → length (p.profile_where names here name one ts r log).1.profiles ≤ n → Near P L F (place n) here → Near P L F (place n) (p.profile_where names here name one ts r log).0.1
  where-near n names here name (Some f) (Some ts) (Some r) log l h =
      let few : length log.profiles < n = omega (arith, l, length-append log.profiles (record { takes = ts; gives = r } ∷ [])) in
      near-declared P L F (place n) names here name (Some (what.Sub (length log.profiles))) h (λ mid m. few)
  where-near n names here name (Some f) (Some ts) None log l h = near-declared P L F (place n) names here name None h tt
  where-near n names here name (Some f) None r log l h = near-declared P L F (place n) names here name None h tt
  where-near n names here name None ts r log l h = h

  where-few : (names : Names) (here : Context) (name : ℕ) (one : Option ℕ) (ts : Option (List Taken)) (r : Option (Option Scalar)) (log : Log)
      → (length log.profiles ≤ length (p.profile_where names here name one ts r log).1.profiles) × (length (p.profile_where names here name one ts r log).1.profiles ≤ suc (length log.profiles))
  where-few names here name (Some f) (Some ts) (Some r) log =
      let e = length-append log.profiles (record { takes = ts; gives = r } ∷ []) in
      (omega (arith, e), omega (arith, e))
  where-few names here name (Some f) (Some ts) None log = (omega arith, omega arith)
  where-few names here name (Some f) None r log = (omega arith, omega arith)
  where-few names here name None ts r log = (omega arith, omega arith)

  near-behind : (V : Sight) (outer : Context) (start : ℕ) (inner : Context) (owner : ℕ) (r : Returns) → Near P L F V outer → Near P L F V inner → Near P L F V (p.behind outer start inner owner r)
  near-behind V outer start inner owner r h i log l = record {
    scope = are-both (now P L F log l) V outer.scope (drop start inner.scope) (h log l).scope (are-dropped (now P L F log l) V start inner.scope (i log l).scope);
    target = tt;
  }

  near-owner : (V : Sight) (here : Context) (owner : ℕ) → Near P L F V here → Near P L F V (record here { owner = owner })
  near-owner V here owner r log l = let x = r log l in record { scope = x.scope; target = x.target }

  pub record ProfiledIn (n : ℕ) (log : Log) (q : Profiled × Log) : Type 0 where
    pub outer : Near P L F (place n) q.0.outer
    pub inner : Near P L F (place n) q.0.inner

  profile-few : (names : Names) (start : ℕ) (here : Context) (name : ℕ) (result : Option ℕ) (fs : Option Formals) (log : Log)
      → (length log.profiles ≤ length (p.profile names start here name result fs log).1.profiles) × (length (p.profile names start here name result fs log).1.profiles ≤ suc (length log.profiles))
  unfolding p.profile
  profile-few names start here name result fs log =
      let inner : Context = record here { owner = (p.next_owner log).0 } in
      let f = p.formals names (p.is_function result) inner fs log in
      let g = p.result_named names f.0.0 result f.1 in
      let one = free names start here name g.1 in
      let e : length one.1.profiles ≡ length log.profiles =
      (k-free steady.walk names start here name tt).at g.1 ∙ (k.k-result_named steady.walk names f.0.0 result tt).at f.1 ∙ (k.k-formals steady names (p.is_function result) inner fs tt).at log in
      let w = where-few names here name one.0 f.0.1 g.0 one.1 in
      (omega (arith, e, w.0), omega (arith, e, w.1))

  profile-in : (n : ℕ) (names : Names) (start : ℕ) (here : Context) (name : ℕ) (result : Option ℕ) (fs : Option Formals) (log : Log)
      → Leads (p.profile names start here name result fs log).1 L → length (p.profile names start here name result fs log).1.profiles ≤ n → Near P L F (place n) here → ProfiledIn n log (p.profile names start here name result fs log)
  unfolding p.profile
  profile-in n names start here name result fs log l few r =
      let inner : Context = record here { owner = (p.next_owner log).0 } in
      let f = p.formals names (p.is_function result) inner fs log in
      let g = p.result_named names f.0.0 result f.1 in
      let one = free names start here name g.1 in
      let w = p.profile_where names here name one.0 f.0.1 g.0 one.1 in
      let l3 : Leads one.1 L = leads_joined one.1 w.1 L ((k.k-profile_where leading.walk names here name one.0 f.0.1 g.0 tt profiling).at one.1) l in
      let l2 : Leads g.1 L = leads_joined g.1 one.1 L ((k-free leading.walk names start here name tt).at g.1) l3 in
      let l1 : Leads f.1 L = leads_joined f.1 g.1 L ((k.k-result_named leading.walk names f.0.0 result tt).at f.1) l2 in
      let h = (b-formals (place n) (Unit {0}) names (p.is_function result) inner fs (λ u. near-owner (place n) here (p.next_owner log).0 r)).at log l1 (omega arith) tt in
      let outer = where-near n names here name one.0 f.0.1 g.0 one.1 few r in
      record { outer = outer; inner = near-behind (place n) w.0.1 (length here.scope) f.0.0 (p.next_owner log).0 (p.returns_of result g.0) outer h }

  -- ---- subprograms

  pub record SubIn (V : Sight) (s : TypedSub) : Type 0 where
    pub decls : FormedDecls P V.known s.body.decls
    pub stmts : FormedAll P V.known s.body.stmts
    pub handlers : FormedHandlers P V.known s.body.handlers

  level-both : (names : Names) (n : ℕ) → LevelBoth (p.level_of names n)
  level-both names n = record { keeps = k.k-level_of leading.walk names n tt; forms = level-forms P L F names n }

  b-with_body : (V : Sight) (G : Type 0) (names : Names) (n : ℕ) (blocking : Bool) (name : ℕ) (q : Profiled) (a : Option Aspect) (ds : List Decl) (b : Body) (last : Option ℕ) → (G → Near P L F V q.inner)
      → Back L V G (Maybe (SubIn V)) (p.with_body names n blocking name q a ds b last)
  unfolding p.with_body
  b-with_body V G names n blocking name q a ds b last r =
      b-bind L V G Any (Maybe (SubIn V)) (p.aspect names q.inner blocking a) _ (b-any L V G (p.aspect names q.inner blocking a) (k.k-aspect leading.walk names q.inner blocking a tt)) (λ z.
      b-bind L V _ (DeclaringIn P L F V) (Maybe (SubIn V)) (declarations names (p.level_of names n) (length q.outer.scope) q.inner (Some no_decls) ds) _
      (b-declarations P L F V _ names (p.level_of names n) (length q.outer.scope) q.inner (Some no_decls) ds (level-both names n) (λ g. r g.old) (λ g. tt)) (λ x.
      b-bind L V _ (Maybe (BodyIn P L F V)) (Maybe (SubIn V)) (body (around names n (stmt names n)) x.0 x.1 b) _ (b-body P L F V _ (around names n (stmt names n)) x.0 x.1 b (around-forms P L F names n) (λ g. g.new.around) (λ g. g.new.decls)) (λ y.
      b-bind L V _ Any (Maybe (SubIn V)) (p.end_name names name last) _ (b-any L V _ (p.end_name names name last) (k.k-end_name leading.walk names name last tt)) (λ u.
      b-pure L V _ (Maybe (SubIn V)) (joined (p.sub_where q z) q.number y)
      (λ g. joint Any (BodyIn P L F V) (SubIn V) (p.sub_where q z) q.number y (any q.number) g.old.new (λ m c s t. record { decls = t.decls; stmts = t.stmts; handlers = t.handlers }))))))

  abbrev ReturnedIn : Sight → TypedPart → Type 0
  ReturnedIn V v = FormedAll P V.known (as_body (p.returned_body v)).stmts

  b-result_value : (V : Sight) (G : Type 0) (names : Names) (n : ℕ) (here : Context) (e : Expr) (r : Returns) → (G → Near P L F V here) → Back L V G (Maybe (ReturnedIn V)) (p.result_value names (inside names n) here e r)
  b-result_value V G names n here e (returns.Value s) h =
      b-lift P L F V G (Maybe (ReturnedIn V)) (value_for names (inside names n) here (subtype.Scalar s) e) (k-value_for leading.walk names (inside names n) here (subtype.Scalar s) e tt (k-inside leading.walk names n tt))
      (λ log l g. let m = f-value_for (now P L F log l) V names (inside names n) here (subtype.Scalar s) e (inside-forms (now P L F log l) names n) (h g log l) in
      record { at = λ mid i b. let x = m.at mid i b in (x.0, x.1, value-returned (now P L F log l) (value_for names (inside names n) here (subtype.Scalar s) e mid).0 x.2) })
    where
      value-returned : (W : World) (v : Option TypedPart) → Maybe (ValueOf W V (subtype.Scalar s)) v → Maybe (λ x. FormedAll W.program V.known (as_body (p.returned_body x)).stmts) v
      value-returned W None i = tt
      value-returned W (Some x) i = (i.0, tt)
  b-result_value V G names n here e returns.Nothing h =
      b-bind L V G Any (Maybe (ReturnedIn V)) (judged_alone names (inside names n) here e) _ (b-any L V G (judged_alone names (inside names n) here e) (k-judged_alone leading.walk names (inside names n) here e tt (k-inside leading.walk names n tt))) (λ u. b-none L V _ (ReturnedIn V))
  b-result_value V G names n here e returns.Faulty h =
      b-bind L V G Any (Maybe (ReturnedIn V)) (judged_alone names (inside names n) here e) _ (b-any L V G (judged_alone names (inside names n) here e) (k-judged_alone leading.walk names (inside names n) here e tt (k-inside leading.walk names n tt))) (λ u. b-none L V _ (ReturnedIn V))

  sub-returned : (V : Sight) (q : Profiled) (z : Bool) (v : Option TypedPart) → Maybe (ReturnedIn V) v → Maybe (SubIn V) (joined (p.sub_where q z) q.number (option_map p.returned_body v))
  sub-returned V q z None h = joint Any (λ x. ⊥) (SubIn V) (p.sub_where q z) q.number None (any q.number) tt (λ m c s t. absurd t)
  sub-returned V q z (Some v) h = joint Any (λ x. x ≡ p.returned_body v) (SubIn V) (p.sub_where q z) q.number (Some (p.returned_body v)) (any q.number) refl
      (λ m c s t. subst (λ x. SubIn V (p.sub_where q z m x)) (sym t) (record { decls = tt; stmts = h; handlers = tt }))

  b-with_value_of : (V : Sight) (G : Type 0) (names : Names) (n : ℕ) (blocking : Bool) (q : Profiled) (a : Option Aspect) (e : Expr) → (G → Near P L F V q.inner) → Back L V G (Maybe (SubIn V)) (p.with_value_of names n blocking q a e)
  unfolding p.with_value_of
  b-with_value_of V G names n blocking q a e r =
      b-bind L V G Any (Maybe (SubIn V)) (p.aspect names q.inner blocking a) _ (b-any L V G (p.aspect names q.inner blocking a) (k.k-aspect leading.walk names q.inner blocking a tt)) (λ z.
      b-bind L V _ (Maybe (ReturnedIn V)) (Maybe (SubIn V)) (p.result_value names (inside names n) q.inner e q.inner.returns) _ (b-result_value V _ names n q.inner e q.inner.returns (λ g. r g.old)) (λ v.
      b-pure L V _ (Maybe (SubIn V)) (joined (p.sub_where q z) q.number (option_map p.returned_body v)) (λ g. sub-returned V q z v g.new)))

  -- a subprogram calls itself and those before it
  pub record SubprogramIn (log : Log) (r : (Context × Option TypedSub) × Log) : Type 0 where
    pub around : (n : ℕ) → length r.1.profiles ≤ n → Near P L F (place n) r.0.0
    pub sub : Maybe (SubIn (place (suc (length log.profiles)))) r.0.1

  bodied : (names : Names) (n : ℕ) (blocking : Bool) (start : ℕ) (here : Context) (name : ℕ) (result : Option ℕ) (fs : Option Formals) (a : Option Aspect) (ds : List Decl) (b : Body) (last : Option ℕ) (log : Log)
      → (let q = p.profile names start here name result fs log in let s = p.with_body names n blocking name q.0 a ds b last q.1 in
      Leads s.1 L → ((m : ℕ) → length log.profiles ≤ m → Near P L F (place m) here) → SubprogramIn log ((q.0.outer, s.0), s.1))
  bodied names n blocking start here name result fs a ds b last log l r =
      let q = p.profile names start here name result fs log in
      let s = p.with_body names n blocking name q.0 a ds b last q.1 in
      let few = profile-few names start here name result fs log in
      let same : length s.1.profiles ≡ length q.1.profiles = (k.k-with_body steady names n blocking name q.0 a ds b last tt).at q.1 in
      let lq : Leads q.1 L = leads_joined q.1 s.1 L ((k.k-with_body leading names n blocking name q.0 a ds b last tt).at q.1) l in
      let own = suc (length log.profiles) in
      let inner = (profile-in own names start here name result fs log lq few.1 (r own (omega arith))).inner in
      record {
        around = λ m h. (profile-in m names start here name result fs log lq (subst (λ j. j ≤ m) same h) (r m (omega (arith, h, same, few.0)))).outer;
        sub = (b-with_body (place own) (Unit {0}) names n blocking name q.0 a ds b last (λ u. inner)).at q.1 l (omega arith) tt;
      }

  valued : (names : Names) (n : ℕ) (blocking : Bool) (start : ℕ) (here : Context) (name : ℕ) (result : Option ℕ) (fs : Option Formals) (a : Option Aspect) (e : Expr) (log : Log)
      → (let q = p.profile names start here name result fs log in let s = p.with_value_of names n blocking q.0 a e q.1 in
      Leads s.1 L → ((m : ℕ) → length log.profiles ≤ m → Near P L F (place m) here) → SubprogramIn log ((q.0.outer, s.0), s.1))
  valued names n blocking start here name result fs a e log l r =
      let q = p.profile names start here name result fs log in
      let s = p.with_value_of names n blocking q.0 a e q.1 in
      let few = profile-few names start here name result fs log in
      let same : length s.1.profiles ≡ length q.1.profiles = (k.k-with_value_of steady.walk names n blocking q.0 a e tt).at q.1 in
      let lq : Leads q.1 L = leads_joined q.1 s.1 L ((k.k-with_value_of leading.walk names n blocking q.0 a e tt).at q.1) l in
      let own = suc (length log.profiles) in
      let inner = (profile-in own names start here name result fs log lq few.1 (r own (omega arith))).inner in
      record {
        around = λ m h. (profile-in m names start here name result fs log lq (subst (λ j. j ≤ m) same h) (r m (omega (arith, h, same, few.0)))).outer;
        sub = (b-with_value_of (place own) (Unit {0}) names n blocking q.0 a e (λ u. inner)).at q.1 l (omega arith) tt;
      }

  subprogram-in : (names : Names) (n : ℕ) (blocking : Bool) (start : ℕ) (here : Context) (x : Sub) (log : Log) → Leads (p.subprogram names n blocking start here x log).1 L
      → ((m : ℕ) → length log.profiles ≤ m → Near P L F (place m) here) → SubprogramIn log (p.subprogram names n blocking start here x log)
  unfolding p.subprogram
  subprogram-in names n blocking start here (syntax.Procedure at name fs a ds b last) log l r = bodied names n blocking start here name None fs a ds b last log l r
  subprogram-in names n blocking start here (syntax.Function at name fs result a ds b last) log l r = bodied names n blocking start here name (Some result) fs a ds b last log l r
  subprogram-in names n blocking start here (syntax.ExprFunction at name fs result bracket e a) log l r = valued names n blocking start here name (Some result) fs a e log l r

  -- ---- the main procedure

  pub record UnitsIn (log : Log) (d : Declared') : Type 0 where
    pub around : (m : ℕ) → length log.profiles ≤ m → Near P L F (place m) d.here
    pub decls : (m : ℕ) → length log.profiles ≤ m → Maybe (DeclsIn P L F (place m)) d.decls
    pub subs : Maybe (FormedSubs P 0) d.subs
    pub numbered : AreNumbered d.subs log

  sub-body : (n : ℕ) (s : TypedSub) → SubIn (place n) s → FormedBody P n s.body
  sub-body n s h = record { decls = h.decls; stmts = h.stmts; handlers = h.handlers }

  subs-more : (n : ℕ) (ss : List TypedSub) (s : TypedSub) → FormedSubs P n ss → FormedBody P (suc (n + length ss)) s.body → FormedSubs P n (ss ++ s ∷ [])
  subs-more n [] s h b = (subst (λ m. FormedBody P (suc m) s.body) (omega arith) b, tt)
  subs-more n (x ∷ ss) s h b = (h.0, subs-more (suc n) ss s h.1 (subst (λ m. FormedBody P (suc m) s.body) (omega arith) b))

  also-subs : (ss : Option (List TypedSub)) (s : Option TypedSub) (log : Log) → Maybe (FormedSubs P 0) ss → AreNumbered ss log → Maybe (SubIn (place (suc (length log.profiles)))) s → Maybe (FormedSubs P 0) (joined p.also_sub ss s)
  also-subs None s log h e b = tt
  also-subs (Some ss) None log h e b = tt
  also-subs (Some ss) (Some s) log h e b = subs-more 0 ss s h (subst (λ m. FormedBody P (suc m) s.body) (sym e ∙ omega arith) (sub-body (suc (length log.profiles)) s b))

  unit-in : (names : Names) (n : ℕ) (blocking : Bool) (start : ℕ) (d : Declared') (u : Unit') (log : Log) → Leads (p.unit_of names n blocking start d u log).1 L → UnitsIn log d
      → UnitsIn (p.unit_of names n blocking start d u log).1 (p.unit_of names n blocking start d u log).0
  unit-in names n blocking start d (syntax.DeclUnit x) log l h =
      let r = declaration names (p.level_of names n) start d.here d.decls x log in
      let same : length r.1.profiles ≡ length log.profiles = (k-declaration steady names (p.level_of names n) start d.here d.decls x tt (k.k-level_of steady.walk names n tt)).at log in
      let at : (m : ℕ) → length r.1.profiles ≤ m → DeclaringIn P L F (place m) r.0 =
      λ m i. let j = subst (λ e. e ≤ m) same i in
      (b-declaration P L F (place m) (Unit {0}) names (p.level_of names n) start d.here d.decls x (level-both names n) (λ u. h.around m j) (λ u. h.decls m j)).at log l (omega arith) tt in
      record { around = λ m i. (at m i).around; decls = λ m i. (at m i).decls; subs = h.subs; numbered = one-place names n blocking start d (syntax.DeclUnit x) log h.numbered }
  unit-in names n blocking start d (syntax.SubUnit s) log l h =
      let r = p.subprogram names (n - 1) blocking start d.here s log in
      let x = subprogram-in names (n - 1) blocking start d.here s log l h.around in
      let more = (k.k-subprogram leading names (n - 1) blocking start d.here s tt profiling).at log in
      record {
        around = x.around;
        decls = λ m i. h.decls m (omega (arith, i, more.profiles));
        subs = also-subs d.subs r.0.1 log h.subs h.numbered x.sub;
        numbered = one-place names n blocking start d (syntax.SubUnit s) log h.numbered;
      }

  units-in : (names : Names) (n : ℕ) (blocking : Bool) (start : ℕ) (d : Declared') (us : List Unit') (log : Log) → Leads (p.units names n blocking start d us log).1 L → UnitsIn log d
      → UnitsIn (p.units names n blocking start d us log).1 (p.units names n blocking start d us log).0
  units-in names n blocking start d [] log l h = h
  units-in names n blocking start d (u ∷ us) log l h =
      let e = p.unit_of names n blocking start d u log in
      let end = p.units names n blocking start e.0 us e.1 in
      let le : Leads e.1 L = leads_joined e.1 end.1 L ((k.k-units leading names n blocking start e.0 us tt profiling).at e.1) l in
      units-in names n blocking start e.0 us e.1 l (unit-in names n blocking start d u log le h)

  pub record WholeIn (w : Whole) : Type 0 where
    pub body : FormedBody P (length w.subs) w.body
    pub subs : FormedSubs P 0 w.subs

  whole-in : (z s : Bool) (x : Option TypedPart) (ss : Option (List TypedSub)) (log : Log) → Maybe (BodyIn P L F (place (length log.profiles))) x → Maybe (FormedSubs P 0) ss → AreNumbered ss log → Maybe WholeIn (joined (p.whole z s) x ss)
  whole-in z s None ss log h i e = tt
  whole-in z s (Some x) None log h i e = tt
  whole-in z s (Some x) (Some ss) log h i e = record { body = subst (λ m. FormedBody P m (as_body x)) (sym e) (record { decls = h.decls; stmts = h.stmts; handlers = h.handlers }); subs = i }

  main-in : (names : Names) (n : ℕ) (here : Context) (m : Main) (s : Bool) (log : Log) → Leads (p.main names n here m s log).1 L → length log.profiles ≡ 0 → ((j : ℕ) → Near P L F (place j) here) → Maybe WholeIn (p.main names n here m s log).0
  unfolding p.main
  main-in names n here m s log l zero-profiles r =
      let z = p.aspect names here false m.aspect log in
      let start : Declared' = record { here = here; decls = Some no_decls; subs = Some [] } in
      let d = p.units names n z.0 (length here.scope) start m.units z.1 in
      let b = body (around names n (stmt names n)) d.0.here d.0.decls m.body d.1 in
      let u = p.end_name names m.defined m.last_name b.1 in
      let l2 : Leads b.1 L = leads_joined b.1 u.1 L ((k.k-end_name leading.walk names m.defined m.last_name tt).at b.1) l in
      let l1 : Leads d.1 L = leads_joined d.1 b.1 L ((k-body leading.walk (around names n (stmt names n)) d.0.here d.0.decls m.body (k-around leading names n tt)).at d.1) l2 in
      let none : 0 ≡ length z.1.profiles = sym ((k.k-aspect steady.walk names here false m.aspect tt).at log ∙ zero-profiles) in
      let h = units-in names n z.0 (length here.scope) start m.units z.1 l1 (record { around = λ j i. r j; decls = λ j i. tt; subs = tt; numbered = none }) in
      let V = place (length d.1.profiles) in
      let x = (b-body P L F V (Unit {0}) (around names n (stmt names n)) d.0.here d.0.decls m.body (around-forms P L F names n) (λ u. h.around (length d.1.profiles) (omega arith)) (λ u. h.decls (length d.1.profiles) (omega arith))).at d.1 l2 (omega arith) tt in
      whole-in z.0 s b.0 d.0.subs d.1 x h.subs h.numbered

  -- ---- clauses declare nothing

  clause-near : (V : Sight) (w : ClauseWord) (here : Context) (first : ℕ) (name : Option ℕ) (log : Log) → Near P L F V here → Near P L F V (p.clause_name w here first name log).0
  clause-near V w here first None log r = r
  clause-near V word.With here first (Some name) log r = λ mid l. let x = r mid l in record { scope = x.scope; target = x.target }
  clause-near V word.Use here first (Some name) log r = λ mid l. let x = r mid l in record { scope = x.scope; target = x.target }

  packs-near : (V : Sight) (names : Names) (w : ClauseWord) (here : Context) (ps : List Pack) (log : Log) → Near P L F V here → Near P L F V (p.clause_packs names w here ps log).0
  packs-near V names w here [] log r = r
  packs-near V names w here (x ∷ xs) log r =
      let n = p.pack names x log in
      let c = p.clause_name w here x.first n.0 n.1 in
      packs-near V names w c.0 xs c.1 (clause-near V w here x.first n.0 n.1 r)

  clauses-near : (V : Sight) (names : Names) (here : Context) (cs : List Clause) (log : Log) → Near P L F V here → Near P L F V (p.clauses names here cs log).0
  clauses-near V names here [] log r = r
  clauses-near V names here (c ∷ cs) log r =
      let x = p.clause_packs names c.word here (c.first ∷ c.more) log in
      clauses-near V names x.0 cs x.1 (packs-near V names c.word here (c.first ∷ c.more) log r)

  -- ---- programs

  outermost-near : (V : Sight) → Near P L F V p.outermost
  outermost-near V log l = record { scope = (tt, (tt, (tt, (tt, (tt, (tt, (tt, (tt, (tt, tt))))))))); target = tt }

  pub program-in : (names : Names) (text : Program) → Leads (judged names text).1 L → Maybe WholeIn (judged names text).0
  unfolding judged p.program
  program-in names text l =
      let s = p.policy names text.policy fresh in
      let c = p.clauses names p.outermost text.clauses s.1 in
      let none : length c.1.profiles ≡ 0 = (k.k-clauses steady.walk names p.outermost text.clauses tt).at s.1 ∙ (k.k-policy steady.walk names text.policy tt).at fresh in
      main-in names depth_limit c.0 text.main s.0 c.1 l none (λ j. clauses-near (place j) names p.outermost text.clauses s.1 (outermost-near (place j)))

-- ---- the law

pub formed_programs_law : FormedProgramsLaw
formed_programs_law names text program e =
    let log = (judged names text).1 in
    let r = typed-from log.faults log (judged names text).0 program e in
    let P = typed_by log r.0 in
    let F : Facts P log = record {
      subtypes = refl;
      objects = refl;
      sound = all-sound names text;
      values = all-values log.shapes (subst (λ t. HaveComponents t.subtypes) (sym r.2) (formed_law.components names text program e));
    } in
    let h = subst (Maybe (WholeIn P log F)) r.1 (program-in P log F names text (leads_here log)) in
    subst IsFormed r.2 (record { grounded = grounded P log F; body = h.body; subs = h.subs })
