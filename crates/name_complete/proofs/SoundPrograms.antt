-- What is judged without a fault is there: subprograms and programs. So each text without a fault has a typed program.
use Rattle.std.proofs.Common.{◌≡◌, refl, ℕ, ◌+◌, ◌-◌, List, [], ◌∷◌, length, drop, Option, Some, None, Bool, true, false, if◌then◌else◌, option_map, not, ◌==◌, ◌||◌, ◌&&◌, arith}
use Rattle.syntax_tree.specs.Syntax as syntax
use Rattle.syntax_tree.specs.Syntax.{Aspect, Body, Clause, Decl, Expr, Formal, Formals, Main, Pack, Policy, Program, Sub, Unit'}
use Rattle.syntax_tree.specs.declared.operators.ClauseWord.{ClauseWord}
use Rattle.syntax_tree.specs.declared.operators.ClauseWord.TheVariants as word
use Rattle.syntax_tree.specs.declared.operators.Mode.{Mode as FormalMode}
use Rattle.syntax_tree.specs.declared.operators.Mode.TheVariants as mode'
use Rattle.typed_tree.specs.Decoded.{TypedPart}
use Rattle.typed_tree.specs.Syntax as typed
use Rattle.typed_tree.specs.Syntax.{Sub as TypedSub}
use Rattle.typed_tree.specs.declared.program.Mode.{Mode}
use Rattle.name_rules.specs.Declarations.{all_ids, begun_names, cells_counted, declaration, declarations, ended_name, new_object}
use Rattle.name_rules.specs.Expressions.{judged_alone}
use Rattle.name_rules.specs.Judging.{◌>>=◌, breaks, fault, joined, pure, some, unless}
use Rattle.name_rules.specs.Primaries.{inside}
use Rattle.name_rules.specs.Programs as p
use Rattle.name_rules.specs.Programs.{Declared', Profiled, Whole}
use Rattle.syntax_tree.specs.Parsed.{depth_limit}
use Rattle.name_rules.specs.Resolved.{fresh, judged, typed_by, typed_where}
use Rattle.name_rules.specs.Scope.{declared, free, scalar_named, stands_for, subtype_named}
use Rattle.name_rules.specs.Statements.{around, body, no_decls, stmt}
use Rattle.name_rules.specs.Symbols.{ada_name, all_parallel_policy, all_policy, integer_io_name, known_parallel_policy, nonblocking_name, policy_name, symbol, text_io_name}
use Rattle.name_rules.specs.Types.{is_integer}
use Rattle.name_rules.specs.declared.found.Denoted.TheVariants as denoted
use Rattle.name_rules.specs.declared.found.Denoted.{Denoted as KnownDenoted}
use Rattle.name_rules.specs.declared.found.Found.TheVariants as known
use Rattle.name_rules.specs.declared.log.Fault.{Fault}
use Rattle.name_rules.specs.declared.log.Log.{Log}
use Rattle.name_rules.specs.declared.log.Rule.TheVariants.{NotStatic, NotVisible, PolicyName, Unknown, WrongEnd, WrongType}
use Rattle.name_rules.specs.declared.log.Taken.{Taken}
use Rattle.name_rules.specs.declared.scope.Context.{Context}
use Rattle.name_rules.specs.declared.scope.Names.{Names}
use Rattle.name_rules.specs.declared.scope.Returns.{Returns}
use Rattle.name_rules.specs.declared.scope.Returns.TheVariants as returns
use Rattle.name_rules.specs.declared.scope.What.TheVariants as what
use Rattle.name_rules.specs.declared.types.Kind.TheVariants as kind
use Rattle.name_rules.specs.declared.types.Scalar.{Scalar}
use Rattle.name_rules.specs.declared.types.Subtype.{Subtype}
use Rattle.name_rules.specs.declared.types.Subtype.TheVariants as subtype
use Rattle.name_complete.proofs.SoundPrimaries.{above-sound, inside-sound}
use Rattle.name_complete.proofs.Counting.{s-cells_counted}
use Rattle.name_complete.proofs.Explains.{Any, Counted, Is, Sound, grows-same, joint, mapped, s-any, s-bind, s-breaks, s-broken, s-fault, s-given, s-if, s-never, s-pure, s-read, s-some, s-unless}
use Rattle.name_complete.proofs.Facts.{Clear, DenotedOf, LevelSound, ReturnsGood, sane-both, sane-drop}
use Rattle.name_complete.proofs.SoundCases.{s-grown}
use Rattle.name_complete.proofs.SoundDeclarations.{BegunOf, DeclaringOf, clear-declared, clear-ended, is-any, s-begun_names, s-declaration, s-declarations, s-new_object}
use Rattle.name_complete.proofs.SoundExpressions.{s-judged_alone, s-value_for}
use Rattle.name_complete.proofs.SoundScope.{s-free, s-scalar_named, s-stands_for, s-subtype_named}
use Rattle.name_complete.proofs.SoundStatements.{around-sound, s-body}
use Rattle.name_complete.specs.Law.{TypedOrFaultyLaw}

-- ---- the policy

s-policy_named : (G : Type 0) (names : Names) (x : syntax.Policy) → Sound G Any (p.policy_named names x)
s-policy_named G names x =
    let b = symbol names x.policy == all_parallel_policy || symbol names x.policy == all_policy in
    s-if G Any (not (symbol names x.mark == policy_name)) _ _ (s-broken G Any x.mark Unknown true)
    (s-if G Any (symbol names x.policy == known_parallel_policy) (pure false) _ (s-pure G Any false (λ g. tt))
    (s-bind G (λ u. b ≡ true) Any (unless b x.policy PolicyName) _ (s-unless G b x.policy PolicyName) (λ u. s-pure _ Any true (λ g. tt))))

s-policy : (G : Type 0) (names : Names) (x : Option Policy) → Sound G Any (p.policy names x)
s-policy G names None = s-pure G Any true (λ g. tt)
s-policy G names (Some x) = s-policy_named G names x

-- ---- clauses

s-pack_end : (G : Type 0) (names : Names) (library : ℕ) (ts : List ℕ) → Sound G Any (p.pack_end names library ts)
s-pack_end G names library [] = s-pure G Any (Some library) (λ g. tt)
s-pack_end G names library (t ∷ ts) =
    s-if G Any (library == ada_name && (symbol names t == text_io_name || symbol names t == integer_io_name)) (p.pack_end names (symbol names t) ts) (fault t Unknown) (s-pack_end G names (symbol names t) ts) (s-fault G Any t Unknown)

s-pack : (G : Type 0) (names : Names) (x : Pack) → Sound G Any (p.pack names x)
s-pack G names x = s-if G Any (symbol names x.first == ada_name) (p.pack_end names ada_name x.more) (fault x.first Unknown) (s-pack_end G names ada_name x.more) (s-fault G Any x.first Unknown)

clear-withed : (here : Context) (name : ℕ) → Clear here → Clear (p.withed_by here name)
clear-withed here name c = record { scope = c.scope; target = c.target; returns = c.returns }

s-clause_name : (G : Type 0) (w : ClauseWord) (here : Context) (first : ℕ) (name : Option ℕ) → (G → Clear here) → Sound G Clear (p.clause_name w here first name)
s-clause_name G w here first None c = s-pure G Clear here c
s-clause_name G word.With here first (Some name) c = s-pure G Clear (p.withed_by here name) (λ g. clear-withed here name (c g))
s-clause_name G word.Use here first (Some name) c =
    let b = p.has here.withed name in
    s-bind G (λ u. b ≡ true) Clear (unless b first NotVisible) _ (s-unless G b first NotVisible) (λ u.
    s-pure _ Clear (record here { used = p.with_package here.used name }) (λ g. record { scope = (c g.0).scope; target = (c g.0).target; returns = (c g.0).returns }))

s-clause_packs : (G : Type 0) (names : Names) (w : ClauseWord) (here : Context) (ps : List Pack) → (G → Clear here) → Sound G Clear (p.clause_packs names w here ps)
s-clause_packs G names w here [] c = s-pure G Clear here c
s-clause_packs G names w here (x ∷ xs) c =
    s-bind G Any Clear (p.pack names x) _ (s-pack G names x) (λ n.
    s-bind _ Clear Clear (p.clause_name w here x.first n) _ (s-clause_name _ w here x.first n (λ g. c g.0)) (λ d.
    s-clause_packs ((G × Any n) × Clear d) names w d xs (λ g. g.1)))

s-clauses : (G : Type 0) (names : Names) (here : Context) (cs : List Clause) → (G → Clear here) → Sound G Clear (p.clauses names here cs)
s-clauses G names here [] c = s-pure G Clear here c
s-clauses G names here (x ∷ xs) c =
    s-bind G Clear Clear (p.clause_packs names x.word here (x.first ∷ x.more)) _ (s-clause_packs G names x.word here (x.first ∷ x.more) c) (λ d. s-clauses (G × Clear d) names d xs (λ g. g.1))

-- ---- aspects

s-boolean_place : (G : Type 0) (token : ℕ) (s : Subtype) → Sound G Any (p.boolean_place token s)
s-boolean_place G token (subtype.Scalar s) =
    s-bind G Any Any (if is_integer s.kind then breaks token WrongType else breaks token NotStatic) _ (s-if G Any (is_integer s.kind) (breaks token WrongType) (breaks token NotStatic) (s-breaks G Any token WrongType) (s-breaks G Any token NotStatic)) (λ u. s-pure _ Any true (λ g. tt))
s-boolean_place G token (subtype.Composite n) = s-broken G Any token WrongType true

s-aspect_denoted : (G : Type 0) (token : ℕ) (d : Option KnownDenoted) → Sound G Any (p.aspect_denoted token d)
s-aspect_denoted G token None = s-pure G Any true (λ g. tt)
s-aspect_denoted G token (Some (denoted.Value (known.Static first kind.Boolean z))) = s-pure G Any (p.not_zero z) (λ g. tt)
s-aspect_denoted G token (Some (denoted.Value (known.Object x))) = s-boolean_place G token x.subtype
s-aspect_denoted G token (Some d) = s-broken G Any token WrongType true

s-aspect_value : (G : Type 0) (names : Names) (here : Context) (x : Option ℕ) → Sound G Any (p.aspect_value names here x)
s-aspect_value G names here None = s-pure G Any true (λ g. tt)
s-aspect_value G names here (Some token) =
    s-bind G Any Any (stands_for names here token) _ (s-grown G (Is DenotedOf) (stands_for names here token) (s-stands_for ⊥ names here token (λ g. absurd g))) (λ d. s-aspect_denoted _ token (option_map p.known_of d))

s-aspect : (G : Type 0) (names : Names) (here : Context) (other : Bool) (a : Option Aspect) → Sound G Any (p.aspect names here other a)
s-aspect G names here other None = s-pure G Any other (λ g. tt)
s-aspect G names here other (Some a) = s-if G Any (symbol names a.mark == nonblocking_name) (p.aspect_value names here a.value) _ (s-aspect_value G names here a.value) (s-broken G Any a.mark Unknown true)

s-end_name : (G : Type 0) (names : Names) (name : ℕ) (x : Option ℕ) → Sound G Any (p.end_name names name x)
s-end_name G names name None = s-pure G Any tt (λ g. tt)
s-end_name G names name (Some token) = let b = symbol names name == symbol names token in s-any G (λ u. b ≡ true) (unless b token WrongEnd) (s-unless G b token WrongEnd)

-- ---- formal parameters

s-mode_rule : (G : Type 0) (function : Bool) (m : Option FormalMode) → Sound G Any (p.mode_rule function m)
s-mode_rule G true (Some (mode'.Out at)) = s-breaks G Any at WrongType
s-mode_rule G true (Some (mode'.InOut at)) = s-breaks G Any at WrongType
s-mode_rule G function m = s-pure G Any tt (λ g. tt)

pub record FormalOf {B : Type 0} (r : Context × Option B) : Type 0 where
  pub around : Clear r.0
  pub taken : Is Any r.1

formal-entry : (names : Names) (here : Context) (token : ℕ) (f : Option ℕ) (m : Mode) (s : Subtype) (n : ℕ) (o : Option ℕ) → Clear here → Is Any o → FormalOf (p.formal_entry names here token f m s n o)
formal-entry names here token f m s n None c h = absurd h
formal-entry names here token f m s n (Some o) c h = record { around = clear-ended names here f (Some (what.Object o s (not (p.is_constant m)) None)) c tt; taken = tt }

s-one_formal : (G : Type 0) (names : Names) (here : Context) (token : ℕ) (f : Option ℕ) (m : Mode) (s : Option Subtype) → (G → Clear here) → (G → Is Any s) → Sound G FormalOf (p.one_formal names here token f m s)
s-one_formal G names here token f m None c h =
    let x = cells_counted token 0 >>= λ b. pure (ended_name names here f None, None) in
    s-never G G Any FormalOf x (s-bind G (λ b. b ≡ true) Any (cells_counted token 0) _ (s-cells_counted G token 0) (λ b. s-pure _ Any (ended_name names here f None, None) (λ g. tt))) h
s-one_formal G names here token f m (Some s) c h =
    s-bind G (Is Any) FormalOf (new_object names here token s (p.is_constant m) None) _ (s-new_object G names here token s (p.is_constant m) None) (λ o.
    s-pure _ FormalOf (p.formal_entry names here token f m s 0 o) (λ g. formal-entry names here token f m s 0 o (c g.0) g.1))

s-each_formal : (G : Type 0) (names : Names) (here : Context) (m : Mode) (s : Option Subtype) (made : Option (List Taken)) (ts : List ℕ) (fs : List (Option ℕ)) → (G → Clear here) → (G → Is Any s) → (G → Is Any made)
    → Sound G FormalOf (p.each_formal names here m s made ts fs)
s-each_formal G names here m s made [] fs c h i = s-pure G FormalOf (here, made) (λ g. record { around = c g; taken = i g })
s-each_formal G names here m s made (t ∷ ts) [] c h i = s-pure G FormalOf (here, made) (λ g. record { around = c g; taken = i g })
s-each_formal G names here m s made (t ∷ ts) (f ∷ fs) c h i =
    s-bind G FormalOf FormalOf (p.one_formal names here t f m s) _ (s-one_formal G names here t f m s c h) (λ y.
    s-each_formal (G × FormalOf y) names y.0 m s (joined p.also_taken_by made y.1) ts fs (λ g. g.1.around) (λ g. h g.0) (λ g. joint Any Any Any p.also_taken_by made y.1 (i g.0) g.1.taken (λ a b u v. tt)))

s-formal : (G : Type 0) (names : Names) (function : Bool) (start : ℕ) (here : Context) (made : Option (List Taken)) (f : Formal) → (G → Clear here) → (G → Is Any made) → Sound G FormalOf (p.formal names function start here made f)
s-formal G names function start here made f c i =
    s-bind G BegunOf FormalOf (begun_names names start here [] (all_ids f.names)) _ (s-begun_names G names start here [] (all_ids f.names) c (λ g. tt)) (λ y.
    s-bind _ Any FormalOf (p.mode_rule function f.mode) _ (s-mode_rule _ function f.mode) (λ u.
    s-bind _ (Is Any) FormalOf (subtype_named names y.0 f.mark) _ (s-subtype_named _ names y.0 f.mark (λ g. g.0.1.around)) (λ s.
    s-each_formal _ names y.0 (p.mode_of f.mode) s made (all_ids f.names) y.1 (λ g. g.0.0.1.around) (λ g. g.1) (λ g. i g.0.0.0))))

s-formals_from : (G : Type 0) (names : Names) (function : Bool) (start : ℕ) (here : Context) (made : Option (List Taken)) (fs : List Formal) → (G → Clear here) → (G → Is Any made)
    → Sound G FormalOf (p.formals_from names function start here made fs)
s-formals_from G names function start here made [] c i = s-pure G FormalOf (here, made) (λ g. record { around = c g; taken = i g })
s-formals_from G names function start here made (f ∷ fs) c i =
    s-bind G FormalOf FormalOf (p.formal names function start here made f) _ (s-formal G names function start here made f c i) (λ y. s-formals_from (G × FormalOf y) names function start y.0 y.1 fs (λ g. g.1.around) (λ g. g.1.taken))

s-formals : (G : Type 0) (names : Names) (function : Bool) (here : Context) (fs : Option Formals) → (G → Clear here) → Sound G FormalOf (p.formals names function here fs)
s-formals G names function here None c = s-pure G FormalOf (here, Some []) (λ g. record { around = c g; taken = tt })
s-formals G names function here (Some f) c = s-formals_from G names function (length here.scope) here (Some []) (f.first ∷ f.more) c (λ g. tt)

-- ---- profiles

-- a function gives a value
abbrev GivesOf : Option ℕ → Option Scalar → Type 0
GivesOf None x = Unit {0}
GivesOf (Some mark) None = ⊥
GivesOf (Some mark) (Some s) = Unit {0}

s-result_named : (G : Type 0) (names : Names) (here : Context) (mark : Option ℕ) → (G → Clear here) → Sound G (Is (GivesOf mark)) (p.result_named names here mark)
s-result_named G names here None c = s-some G (GivesOf None) None (λ g. tt)
s-result_named G names here (Some mark) c =
    s-bind G (Is Any) (Is (GivesOf (Some mark))) (scalar_named names here mark) _ (s-scalar_named G names here mark c) (λ s.
    s-given _ Any (GivesOf (Some mark)) s (λ t. some (Some t)) (λ g. g.1) (λ t. s-some _ (GivesOf (Some mark)) (Some t) (λ g. tt)))

pub record NumberedOf (r : Option ℕ × Context) : Type 0 where
  pub number : Is Any r.0
  pub around : Clear r.1

s-written_profile : (G : Type 0) (ts : List Taken) (s : Option Scalar) → Sound G Any (p.written_profile ts s)
s-written_profile G ts s = record { grows = λ log. grows-same log _ refl refl refl; at = λ log c e g. tt }

s-profile_where : (G : Type 0) (names : Names) (here : Context) (name : ℕ) (one : Option ℕ) (ts : Option (List Taken)) (r : Option (Option Scalar)) → (G → Clear here) → (G → Is Any one) → (G → Is Any ts) → (G → Is Any r)
    → Sound G NumberedOf (p.profile_where names here name one ts r)
s-profile_where G names here name (Some f) (Some ts) (Some r) c h i j =
    s-bind G Any NumberedOf (p.written_profile ts r) _ (s-written_profile G ts r) (λ n.
    s-pure _ NumberedOf (Some n, declared names here name (Some (what.Sub n))) (λ g. record { number = tt; around = clear-declared names here name (Some (what.Sub n)) (c g.0) tt }))
s-profile_where G names here name (Some f) (Some ts) None c h i j = s-pure G NumberedOf (None, declared names here name None) (λ g. absurd (j g))
s-profile_where G names here name (Some f) None r c h i j = s-pure G NumberedOf (None, declared names here name None) (λ g. absurd (i g))
s-profile_where G names here name None ts r c h i j = s-pure G NumberedOf (None, here) (λ g. absurd (h g))

abbrev FitsReturns : Option ℕ → Returns → Type 0
FitsReturns None r = Unit {0}
FitsReturns (Some mark) (returns.Value s) = Unit {0}
FitsReturns (Some mark) r = ⊥

returns-good : (mark : Option ℕ) (r : Option (Option Scalar)) → Is (GivesOf mark) r → ReturnsGood (p.returns_of mark r)
returns-good None r h = tt
returns-good (Some mark) None h = absurd h
returns-good (Some mark) (Some None) h = absurd h
returns-good (Some mark) (Some (Some s)) h = tt

returns-fit : (mark : Option ℕ) (r : Option (Option Scalar)) → Is (GivesOf mark) r → FitsReturns mark (p.returns_of mark r)
returns-fit None r h = tt
returns-fit (Some mark) None h = absurd h
returns-fit (Some mark) (Some None) h = absurd h
returns-fit (Some mark) (Some (Some s)) h = tt

pub record ProfiledOf (mark : Option ℕ) (q : Profiled) : Type 0 where
  pub outer : Clear q.outer
  pub inner : Clear q.inner
  pub number : Is Any q.number
  pub fits : FitsReturns mark q.inner.returns

clear-owner : (here : Context) (owner : ℕ) → Clear here → Clear (record here { owner = owner })
clear-owner here owner c = record { scope = c.scope; target = c.target; returns = c.returns }

s-profile : (G : Type 0) (names : Names) (start : ℕ) (here : Context) (name : ℕ) (mark : Option ℕ) (fs : Option Formals) → (G → Clear here) → Sound G (ProfiledOf mark) (p.profile names start here name mark fs)
unfolding p.profile
s-profile G names start here name mark fs c =
    s-bind G Any (ProfiledOf mark) p.next_owner _ (s-read G Any (λ log. length log.profiles + 1) (λ log g. tt)) (λ owner.
    s-bind _ FormalOf (ProfiledOf mark) (p.formals names (p.is_function mark) (record here { owner = owner }) fs) _ (s-formals _ names (p.is_function mark) (record here { owner = owner }) fs (λ g. clear-owner here owner (c g.0))) (λ f.
    s-bind _ (Is (GivesOf mark)) (ProfiledOf mark) (p.result_named names f.0 mark) _ (s-result_named _ names f.0 mark (λ g. g.1.around)) (λ r.
    s-bind _ (Is Any) (ProfiledOf mark) (free names start here name) _ (s-free _ names start here name) (λ one.
    s-bind _ NumberedOf (ProfiledOf mark) (p.profile_where names here name one f.1 r) _ (s-profile_where _ names here name one f.1 r (λ g. c g.0.0.0.0) (λ g. g.1) (λ g. g.0.0.1.taken) (λ g. is-any (GivesOf mark) r g.0.1)) (λ w.
    s-pure _ (ProfiledOf mark) (record { outer = w.1; inner = p.behind w.1 (length here.scope) f.0 owner (p.returns_of mark r); number = w.0; takes = p.taken_or f.1; gives = p.gives_or r }) (λ g. record {
      outer = g.1.around;
      inner = record {
        scope = sane-both w.1.scope (drop (length here.scope) f.0.scope) g.1.around.scope (sane-drop (length here.scope) f.0.scope g.0.0.0.1.around.scope);
        target = tt;
        returns = returns-good mark r g.0.0.1;
      };
      number = g.1.number;
      fits = returns-fit mark r g.0.0.1;
    }))))))

-- ---- subprograms

level-sound : (names : Names) (n : ℕ) → LevelSound (p.level_of names n)
level-sound names n = above-sound names (inside names n) (inside-sound names n)

s-with_body : (G : Type 0) (names : Names) (n : ℕ) (blocking : Bool) (name : ℕ) (q : Profiled) (a : Option Aspect) (ds : List Decl) (b : Body) (last : Option ℕ) → (G → Clear q.inner) → (G → Is Any q.number)
    → Sound G (Is Any) (p.with_body names n blocking name q a ds b last)
unfolding p.with_body
s-with_body G names n blocking name q a ds b last c h =
    s-bind G Any (Is Any) (p.aspect names q.inner blocking a) _ (s-aspect G names q.inner blocking a) (λ z.
    s-bind _ DeclaringOf (Is Any) (declarations names (p.level_of names n) (length q.outer.scope) q.inner (Some no_decls) ds) _
    (s-declarations _ names (p.level_of names n) (length q.outer.scope) q.inner (Some no_decls) ds (level-sound names n) (λ g. c g.0) (λ g. tt)) (λ r.
    s-bind _ (Is Any) (Is Any) (body (around names n (stmt names n)) r.0 r.1 b) _ (s-body _ (around names n (stmt names n)) r.0 r.1 b (around-sound names n) (λ g. g.1.around) (λ g. g.1.decls)) (λ x.
    s-bind _ Any (Is Any) (p.end_name names name last) _ (s-end_name _ names name last) (λ u.
    s-pure _ (Is Any) (joined (p.sub_where q z) q.number x) (λ g. joint Any Any Any (p.sub_where q z) q.number x (h g.0.0.0.0) g.0.1 (λ m d i j. tt))))))

s-valueless : (G : Type 0) (names : Names) (n : ℕ) (here : Context) (e : Expr) → (G → ⊥) → Sound G {A = Option TypedPart} (Is Any) (judged_alone names (inside names n) here e >>= λ u. pure None)
s-valueless G names n here e never =
    let x = judged_alone names (inside names n) here e in
    s-never G G Any (Is Any) (x >>= λ u. pure None) (s-bind G Any Any x _ (s-judged_alone G names (inside names n) here e (inside-sound names n)) (λ u. s-pure _ Any None (λ g. tt))) never

s-result_value : (G : Type 0) (names : Names) (n : ℕ) (here : Context) (e : Expr) (mark : ℕ) (r : Returns) → (G → Clear here) → (G → FitsReturns (Some mark) r) → Sound G (Is Any) (p.result_value names (inside names n) here e r)
s-result_value G names n here e mark (returns.Value s) c h = s-value_for G names (inside names n) here (subtype.Scalar s) e (inside-sound names n) c
s-result_value G names n here e mark returns.Nothing c h = s-valueless G names n here e h
s-result_value G names n here e mark returns.Faulty c h = s-valueless G names n here e h

s-with_value_of : (G : Type 0) (names : Names) (n : ℕ) (blocking : Bool) (q : Profiled) (a : Option Aspect) (e : Expr) (mark : ℕ) → (G → ProfiledOf (Some mark) q) → Sound G (Is Any) (p.with_value_of names n blocking q a e)
unfolding p.with_value_of
s-with_value_of G names n blocking q a e mark h =
    s-bind G Any (Is Any) (p.aspect names q.inner blocking a) _ (s-aspect G names q.inner blocking a) (λ z.
    s-bind _ (Is Any) (Is Any) (p.result_value names (inside names n) q.inner e q.inner.returns) _ (s-result_value _ names n q.inner e mark q.inner.returns (λ g. (h g.0).inner) (λ g. (h g.0).fits)) (λ v.
    s-pure _ (Is Any) (joined (p.sub_where q z) q.number (option_map p.returned_body v))
    (λ g. joint Any Any Any (p.sub_where q z) q.number (option_map p.returned_body v) (h g.0.0).number (mapped Any Any p.returned_body v g.1 (λ x k. tt)) (λ m d i j. tt))))

pub record SubprogramOf (r : Context × Option TypedSub) : Type 0 where
  pub around : Clear r.0
  pub sub : Is Any r.1

s-subprogram : (G : Type 0) (names : Names) (n : ℕ) (blocking : Bool) (start : ℕ) (here : Context) (x : Sub) → (G → Clear here) → Sound G SubprogramOf (p.subprogram names n blocking start here x)
unfolding p.subprogram
s-subprogram G names n blocking start here (syntax.Procedure at name fs a ds b last) c =
    s-bind G (ProfiledOf None) SubprogramOf (p.profile names start here name None fs) _ (s-profile G names start here name None fs c) (λ q.
    s-bind _ (Is Any) SubprogramOf (p.with_body names n blocking name q a ds b last) _ (s-with_body _ names n blocking name q a ds b last (λ g. g.1.inner) (λ g. g.1.number)) (λ t.
    s-pure _ SubprogramOf (q.outer, t) (λ g. record { around = g.0.1.outer; sub = g.1 })))
s-subprogram G names n blocking start here (syntax.Function at name fs mark a ds b last) c =
    s-bind G (ProfiledOf (Some mark)) SubprogramOf (p.profile names start here name (Some mark) fs) _ (s-profile G names start here name (Some mark) fs c) (λ q.
    s-bind _ (Is Any) SubprogramOf (p.with_body names n blocking name q a ds b last) _ (s-with_body _ names n blocking name q a ds b last (λ g. g.1.inner) (λ g. g.1.number)) (λ t.
    s-pure _ SubprogramOf (q.outer, t) (λ g. record { around = g.0.1.outer; sub = g.1 })))
s-subprogram G names n blocking start here (syntax.ExprFunction at name fs mark bracket e a) c =
    s-bind G (ProfiledOf (Some mark)) SubprogramOf (p.profile names start here name (Some mark) fs) _ (s-profile G names start here name (Some mark) fs c) (λ q.
    s-bind _ (Is Any) SubprogramOf (p.with_value_of names n blocking q a e) _ (s-with_value_of _ names n blocking q a e mark (λ g. g.1)) (λ t.
    s-pure _ SubprogramOf (q.outer, t) (λ g. record { around = g.0.1.outer; sub = g.1 })))

-- ---- the main procedure

pub record UnitsOf (d : Declared') : Type 0 where
  pub around : Clear d.here
  pub decls : Is Any d.decls
  pub subs : Is Any d.subs

s-unit_of : (G : Type 0) (names : Names) (n : ℕ) (blocking : Bool) (start : ℕ) (d : Declared') (u : Unit') → (G → UnitsOf d) → Sound G UnitsOf (p.unit_of names n blocking start d u)
s-unit_of G names n blocking start d (syntax.DeclUnit x) h =
    s-bind G DeclaringOf UnitsOf (declaration names (p.level_of names n) start d.here d.decls x) _ (s-declaration G names (p.level_of names n) start d.here d.decls x (level-sound names n) (λ g. (h g).around) (λ g. (h g).decls)) (λ r.
    s-pure _ UnitsOf (record { here = r.0; decls = r.1; subs = d.subs }) (λ g. record { around = g.1.around; decls = g.1.decls; subs = (h g.0).subs }))
s-unit_of G names n blocking start d (syntax.SubUnit s) h =
    s-bind G SubprogramOf UnitsOf (p.subprogram names (n - 1) blocking start d.here s) _ (s-subprogram G names (n - 1) blocking start d.here s (λ g. (h g).around)) (λ r.
    s-pure _ UnitsOf (record { here = r.0; decls = d.decls; subs = joined p.also_sub d.subs r.1 }) (λ g. record { around = g.1.around; decls = (h g.0).decls; subs = joint Any Any Any p.also_sub d.subs r.1 (h g.0).subs g.1.sub (λ a b i j. tt) }))

s-units : (G : Type 0) (names : Names) (n : ℕ) (blocking : Bool) (start : ℕ) (d : Declared') (us : List Unit') → (G → UnitsOf d) → Sound G UnitsOf (p.units names n blocking start d us)
s-units G names n blocking start d [] h = s-pure G UnitsOf d h
s-units G names n blocking start d (u ∷ us) h =
    s-bind G UnitsOf UnitsOf (p.unit_of names n blocking start d u) _ (s-unit_of G names n blocking start d u h) (λ e. s-units (G × UnitsOf e) names n blocking start e us (λ g. g.1))

s-main : (G : Type 0) (names : Names) (n : ℕ) (here : Context) (m : Main) (s : Bool) → (G → Clear here) → Sound G (Is Any) (p.main names n here m s)
unfolding p.main
s-main G names n here m s c =
    s-bind G Any (Is Any) (p.aspect names here false m.aspect) _ (s-aspect G names here false m.aspect) (λ z.
    let start : Declared' = record { here = here; decls = Some no_decls; subs = Some [] } in
    s-bind _ UnitsOf (Is Any) (p.units names n z (length here.scope) start m.units) _ (s-units _ names n z (length here.scope) start m.units (λ g. record { around = c g.0; decls = tt; subs = tt })) (λ d.
    s-bind _ (Is Any) (Is Any) (body (around names n (stmt names n)) d.here d.decls m.body) _ (s-body _ (around names n (stmt names n)) d.here d.decls m.body (around-sound names n) (λ g. g.1.around) (λ g. g.1.decls)) (λ b.
    s-bind _ Any (Is Any) (p.end_name names m.defined m.last_name) _ (s-end_name _ names m.defined m.last_name) (λ u.
    s-pure _ (Is Any) (joined (p.whole z s) b d.subs) (λ g. joint Any Any Any (p.whole z s) b d.subs g.0.1 g.0.0.1.subs (λ x y i j. tt))))))

-- ---- programs

outermost-clear : Clear p.outermost
outermost-clear = record { scope = (tt, (tt, (tt, (tt, (tt, (tt, (tt, (tt, (tt, tt))))))))); target = tt; returns = tt }

s-program : (names : Names) (n : ℕ) (text : Program) → Sound (Unit {0}) (Is Any) (p.program names n text)
unfolding p.program
s-program names n text =
    s-bind (Unit {0}) Any (Is Any) (p.policy names text.policy) _ (s-policy (Unit {0}) names text.policy) (λ s.
    s-bind _ Clear (Is Any) (p.clauses names p.outermost text.clauses) _ (s-clauses _ names p.outermost text.clauses (λ g. outermost-clear)) (λ here.
    s-main _ names n here text.main s (λ g. g.1)))

-- ---- the law

fresh-counted : Counted fresh
fresh-counted = record { objects = λ e. omega arith; cells = λ e. omega arith }

judged-there : (names : Names) (text : Program) → (judged names text).1.faults ≡ [] → Is Any (judged names text).0
unfolding judged
judged-there names text e = (s-program names depth_limit text).at fresh fresh-counted e tt

program-of : (fs : List Fault) (log : Log) (w : Option Whole) → fs ≡ [] → Is Any w → (program : typed.Program) × (typed_where fs (option_map (typed_by log) w) ≡ Some program)
program-of fs log None e h = absurd h
program-of [] log (Some w) e h = (typed_by log w, refl)
program-of (f ∷ fs) log (Some w) e h = absurd cc

pub typed_or_faulty_law : TypedOrFaultyLaw
typed_or_faulty_law names text e = program-of (judged names text).1.faults (judged names text).1 (judged names text).0 e (judged-there names text e)
