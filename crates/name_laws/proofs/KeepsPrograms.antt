-- What holds of each line of the log holds of what Programs judges.
use Rattle.name_rules.specs.Declarations.{all_ids, begun_names, cells_counted, declaration, declarations, ended_name, new_object}
use Rattle.name_rules.specs.Expressions.{Inside, judged_alone}
use Rattle.name_rules.specs.Parts.{name}
use Rattle.name_rules.specs.Primaries.{inside}
use Rattle.name_rules.specs.Scope.{declared, free, scalar_named, stands_for, subtype_named}
use Rattle.name_rules.specs.Statements.{around, body, no_decls, stmt}
use Rattle.name_rules.specs.Symbols.{ada_name, all_parallel_policy, all_policy, integer_io_name, known_parallel_policy, nonblocking_name, policy_name, symbol, text_io_name}
use Rattle.name_rules.specs.Types.{is_integer}
use Rattle.name_rules.specs.declared.found.Denoted.TheVariants as denoted
use Rattle.name_rules.specs.declared.found.Denoted.{Denoted as KnownDenoted}
use Rattle.name_rules.specs.declared.found.Found.TheVariants as known
use Rattle.name_rules.specs.declared.log.Rule.TheVariants.{NotStatic, NotVisible, PolicyName, Unknown, WrongEnd, WrongType}
use Rattle.name_rules.specs.declared.log.Taken.{Taken}
use Rattle.name_rules.specs.declared.scope.Context.{Context}
use Rattle.name_rules.specs.declared.scope.Names.{Names}
use Rattle.name_rules.specs.declared.scope.Returns.TheVariants as returns
use Rattle.name_rules.specs.declared.scope.Returns.{Returns}
use Rattle.name_rules.specs.declared.scope.What.TheVariants as what
use Rattle.name_rules.specs.declared.types.Kind.TheVariants as kind
use Rattle.name_rules.specs.declared.types.Scalar.{Scalar}
use Rattle.name_rules.specs.declared.types.Subtype.TheVariants as subtype
use Rattle.name_rules.specs.declared.types.Subtype.{Subtype}
use Rattle.syntax_tree.specs.Syntax as syntax
use Rattle.syntax_tree.specs.Syntax.{Aspect, Body, Clause, Decl, Expr, Formal, Formals, Main, Pack, Policy, Program, Sub, Unit'}
use Rattle.syntax_tree.specs.declared.operators.ClauseWord.TheVariants as word
use Rattle.syntax_tree.specs.declared.operators.ClauseWord.{ClauseWord}
use Rattle.syntax_tree.specs.declared.operators.Mode.TheVariants as mode'
use Rattle.syntax_tree.specs.declared.operators.Mode.{Mode as FormalMode}
use Rattle.typed_tree.specs.declared.program.Mode.{Mode}
use Rattle.std.specs.Prelude.{Bool, List, None, Option, Some, [], false, if◌then◌else◌, length, not, option_map, true, ℕ, ◌&&◌, ◌+◌, ◌-◌, ◌==◌, ◌||◌, ◌∷◌}
use Rattle.name_rules.specs.Judging.{◌>>=◌, breaks, fault, given, joined, pure, some, unless}
use Rattle.name_rules.specs.Programs.{policy_named, policy, pack_end, pack, has, with_package, withed_by, clause_name, clause_packs, clauses, boolean_place, not_zero, aspect_denoted, known_of, aspect_value, aspect, end_name, mode_of, mode_rule, is_constant, formal_entry, one_formal, also_taken_by, each_formal, formal, formals_from, formals, written_profile, result_named, Profiled, is_function, profile_where, next_owner, profile, level_of, with_body, result_value, with_value_of, subprogram, Declared', also_sub, unit_of, units, main, outermost, program}
use Rattle.name_laws.proofs.Walk.{Walk, Wide, Keeps, k-pure, k-some, k-bind, k-fault, k-breaks, k-unless, k-read, k-if, k-given}
use Rattle.name_laws.proofs.Walked.{KeepsInside, WalksProfiles}
use Rattle.name_laws.proofs.KeepsDeclarations.{k-begun_names, k-cells_counted, k-declaration, k-declarations, k-new_object}
use Rattle.name_laws.proofs.KeepsExpressions.{k-judged_alone, k-value_for}
use Rattle.name_laws.proofs.KeepsPrimaries.{k-inside, k-level_above}
use Rattle.name_laws.proofs.KeepsScope.{k-free, k-scalar_named, k-stands_for, k-subtype_named}
use Rattle.name_laws.proofs.KeepsStatements.{k-around, k-body}

pub k-policy_named : (walk : Walk) (x0 : Names) (x1 : Policy) → walk.Takes x0 → Keeps walk (policy_named x0 x1)
k-policy_named walk names p keeps1 = k-if walk (not (symbol names p.mark == policy_name)) ((breaks p.mark Unknown >>= λ u. pure true)) (if symbol names p.policy == known_parallel_policy then pure false else (unless (symbol names p.policy == all_parallel_policy || symbol names p.policy == all_policy) p.policy PolicyName >>= λ u. pure true)) (k-bind walk (breaks p.mark Unknown) (λ u. pure true) (k-breaks walk p.mark Unknown) (λ u. k-pure walk true)) (k-if walk (symbol names p.policy == known_parallel_policy) (pure false) ((unless (symbol names p.policy == all_parallel_policy || symbol names p.policy == all_policy) p.policy PolicyName >>= λ u. pure true)) (k-pure walk false) (k-bind walk (unless (symbol names p.policy == all_parallel_policy || symbol names p.policy == all_policy) p.policy PolicyName) (λ u. pure true) (k-unless walk (symbol names p.policy == all_parallel_policy || symbol names p.policy == all_policy) p.policy PolicyName) (λ u. k-pure walk true)))

pub k-policy : (walk : Walk) (x0 : Names) (x1 : Option Policy) → walk.Takes x0 → Keeps walk (policy x0 x1)
k-policy walk names None keeps1 = k-pure walk true
k-policy walk names (Some p) keeps1 = k-policy_named walk names p keeps1

pub k-pack_end : (walk : Walk) (x0 : Names) (x1 : ℕ) (x2 : List ℕ) → walk.Takes x0 → Keeps walk (pack_end x0 x1 x2)
k-pack_end walk names library [] keeps1 = k-some walk library
k-pack_end walk names library (t ∷ ts) keeps1 = k-if walk (library == ada_name && (symbol names t == text_io_name || symbol names t == integer_io_name)) (pack_end names (symbol names t) ts) (fault t Unknown) (k-pack_end walk names (symbol names t) ts keeps1) (k-fault walk t Unknown)

pub k-pack : (walk : Walk) (x0 : Names) (x1 : Pack) → walk.Takes x0 → Keeps walk (pack x0 x1)
k-pack walk names p keeps1 = k-if walk (symbol names p.first == ada_name) (pack_end names ada_name p.more) (fault p.first Unknown) (k-pack_end walk names ada_name p.more keeps1) (k-fault walk p.first Unknown)

pub k-clause_name : (walk : Walk) (x0 : ClauseWord) (x1 : Context) (x2 : ℕ) (x3 : Option ℕ) → Keeps walk (clause_name x0 x1 x2 x3)
k-clause_name walk w here first None = k-pure walk here
k-clause_name walk word.With here first (Some name) = k-pure walk (withed_by here name)
k-clause_name walk word.Use here first (Some name) = k-bind walk (unless (has here.withed name) first NotVisible) (λ u. pure (record here { used = with_package here.used name })) (k-unless walk (has here.withed name) first NotVisible) (λ u. k-pure walk (record here { used = with_package here.used name }))

pub k-clause_packs : (walk : Walk) (x0 : Names) (x1 : ClauseWord) (x2 : Context) (x3 : List Pack) → walk.Takes x0 → Keeps walk (clause_packs x0 x1 x2 x3)
k-clause_packs walk names w here [] keeps1 = k-pure walk here
k-clause_packs walk names w here (p ∷ ps) keeps1 = record {
  at = λ log.
      let out1 = pack names p log in
      let n = out1.0 in
      let out2 = clause_name w here p.first n out1.1 in
      let c = out2.0 in
      walk.joins _ _ _ ((k-pack walk names p keeps1).at log)
      (walk.joins _ _ _ ((k-clause_name walk w here p.first n).at out1.1)
      ((k-clause_packs walk names w c ps keeps1).at out2.1));
}

pub k-clauses : (walk : Walk) (x0 : Names) (x1 : Context) (x2 : List Clause) → walk.Takes x0 → Keeps walk (clauses x0 x1 x2)
k-clauses walk names here [] keeps1 = k-pure walk here
k-clauses walk names here (c ∷ cs) keeps1 = k-bind walk (clause_packs names c.word here (c.first ∷ c.more)) (λ d. clauses names d cs) (k-clause_packs walk names c.word here (c.first ∷ c.more) keeps1) (λ d. k-clauses walk names d cs keeps1)

pub k-boolean_place : (walk : Walk) (x0 : ℕ) (x1 : Subtype) → Keeps walk (boolean_place x0 x1)
k-boolean_place walk token (subtype.Scalar s) = k-bind walk ((if is_integer s.kind then breaks token WrongType else breaks token NotStatic)) (λ u. pure true) (k-if walk (is_integer s.kind) (breaks token WrongType) (breaks token NotStatic) (k-breaks walk token WrongType) (k-breaks walk token NotStatic)) (λ u. k-pure walk true)
k-boolean_place walk token (subtype.Composite n) = k-bind walk (breaks token WrongType) (λ u. pure true) (k-breaks walk token WrongType) (λ u. k-pure walk true)

pub k-aspect_denoted : (walk : Walk) (x0 : ℕ) (x1 : Option KnownDenoted) → Keeps walk (aspect_denoted x0 x1)
k-aspect_denoted walk token None = k-pure walk true
k-aspect_denoted walk token (Some (denoted.Value (known.Static first kind.Boolean z))) = k-pure walk (not_zero z)
k-aspect_denoted walk token (Some (denoted.Value (known.Object p))) = k-boolean_place walk token p.subtype
k-aspect_denoted walk token (Some d) = k-bind walk (breaks token WrongType) (λ u. pure true) (k-breaks walk token WrongType) (λ u. k-pure walk true)

pub k-aspect_value : (walk : Walk) (x0 : Names) (x1 : Context) (x2 : Option ℕ) → walk.Takes x0 → Keeps walk (aspect_value x0 x1 x2)
k-aspect_value walk names here None keeps1 = k-pure walk true
k-aspect_value walk names here (Some token) keeps1 = k-bind walk (stands_for names here token) (λ d. aspect_denoted token (option_map known_of d)) (k-stands_for walk names here token keeps1) (λ d. k-aspect_denoted walk token (option_map known_of d))

pub k-aspect : (walk : Walk) (x0 : Names) (x1 : Context) (x2 : Bool) (x3 : Option Aspect) → walk.Takes x0 → Keeps walk (aspect x0 x1 x2 x3)
k-aspect walk names here other None keeps1 = k-pure walk other
k-aspect walk names here other (Some a) keeps1 = k-if walk (symbol names a.mark == nonblocking_name) (aspect_value names here a.value) ((breaks a.mark Unknown >>= λ u. pure true)) (k-aspect_value walk names here a.value keeps1) (k-bind walk (breaks a.mark Unknown) (λ u. pure true) (k-breaks walk a.mark Unknown) (λ u. k-pure walk true))

pub k-end_name : (walk : Walk) (x0 : Names) (x1 : ℕ) (x2 : Option ℕ) → walk.Takes x0 → Keeps walk (end_name x0 x1 x2)
k-end_name walk names name None keeps1 = k-pure walk tt
k-end_name walk names name (Some token) keeps1 = k-unless walk (symbol names name == symbol names token) token WrongEnd

pub k-mode_rule : (walk : Walk) (x0 : Bool) (x1 : Option FormalMode) → Keeps walk (mode_rule x0 x1)
k-mode_rule walk true (Some (mode'.Out at)) = k-breaks walk at WrongType
k-mode_rule walk true (Some (mode'.InOut at)) = k-breaks walk at WrongType
k-mode_rule walk function m = k-pure walk tt

pub k-one_formal : (wide : Wide) (x0 : Names) (x1 : Context) (x2 : ℕ) (x3 : Option ℕ) (x4 : Mode) (x5 : Option Subtype) → wide.walk.Takes x0 → Keeps wide.walk (one_formal x0 x1 x2 x3 x4 x5)
k-one_formal wide names here token f m None keeps1 = k-bind wide.walk (cells_counted token 0) (λ b. pure (ended_name names here f None, None)) (k-cells_counted wide.walk token 0) (λ b. k-pure wide.walk (ended_name names here f None, None))
k-one_formal wide names here token f m (Some s) keeps1 = k-bind wide.walk (new_object names here token s (is_constant m) None) (λ o. pure (formal_entry names here token f m s 0 o)) (k-new_object wide names here token s (is_constant m) None keeps1 tt) (λ o. k-pure wide.walk (formal_entry names here token f m s 0 o))

pub k-each_formal : (wide : Wide) (x0 : Names) (x1 : Context) (x2 : Mode) (x3 : Option Subtype) (x4 : Option (List Taken)) (x5 : List ℕ) (x6 : List (Option ℕ)) → wide.walk.Takes x0 → Keeps wide.walk (each_formal x0 x1 x2 x3 x4 x5 x6)
k-each_formal wide names here m s made [] fs keeps1 = k-pure wide.walk (here, made)
k-each_formal wide names here m s made (t ∷ ts) [] keeps1 = k-pure wide.walk (here, made)
k-each_formal wide names here m s made (t ∷ ts) (f ∷ fs) keeps1 = k-bind wide.walk (one_formal names here t f m s) (λ r. each_formal names r.0 m s (joined also_taken_by made r.1) ts fs) (k-one_formal wide names here t f m s keeps1) (λ r. k-each_formal wide names r.0 m s (joined also_taken_by made r.1) ts fs keeps1)

pub k-formal : (wide : Wide) (x0 : Names) (x1 : Bool) (x2 : ℕ) (x3 : Context) (x4 : Option (List Taken)) (x5 : Formal) → wide.walk.Takes x0 → Keeps wide.walk (formal x0 x1 x2 x3 x4 x5)
k-formal wide names function start here made f keeps1 = record {
  at = λ log.
      let out1 = begun_names names start here [] (all_ids f.names) log in
      let r = out1.0 in
      let out2 = mode_rule function f.mode out1.1 in
      let out3 = subtype_named names r.0 f.mark out2.1 in
      let s = out3.0 in
      wide.walk.joins _ _ _ ((k-begun_names wide.walk names start here [] (all_ids f.names) keeps1).at log)
      (wide.walk.joins _ _ _ ((k-mode_rule wide.walk function f.mode).at out1.1)
      (wide.walk.joins _ _ _ ((k-subtype_named wide.walk names r.0 f.mark keeps1).at out2.1)
      ((k-each_formal wide names r.0 (mode_of f.mode) s made (all_ids f.names) r.1 keeps1).at out3.1)));
}

pub k-formals_from : (wide : Wide) (x0 : Names) (x1 : Bool) (x2 : ℕ) (x3 : Context) (x4 : Option (List Taken)) (x5 : List Formal) → wide.walk.Takes x0 → Keeps wide.walk (formals_from x0 x1 x2 x3 x4 x5)
k-formals_from wide names function start here made [] keeps1 = k-pure wide.walk (here, made)
k-formals_from wide names function start here made (f ∷ fs) keeps1 = k-bind wide.walk (formal names function start here made f) (λ r. formals_from names function start r.0 r.1 fs) (k-formal wide names function start here made f keeps1) (λ r. k-formals_from wide names function start r.0 r.1 fs keeps1)

pub k-formals : (wide : Wide) (x0 : Names) (x1 : Bool) (x2 : Context) (x3 : Option Formals) → wide.walk.Takes x0 → Keeps wide.walk (formals x0 x1 x2 x3)
k-formals wide names function here None keeps1 = k-pure wide.walk (here, Some [])
k-formals wide names function here (Some f) keeps1 = k-formals_from wide names function (length here.scope) here (Some []) (f.first ∷ f.more) keeps1

pub k-written_profile : (walk : Walk) (ts : List Taken) (s : Option Scalar) → WalksProfiles walk → Keeps walk (written_profile ts s)
k-written_profile walk ts s profiles = record { at = profiles.profile ts s }

pub k-result_named : (walk : Walk) (x0 : Names) (x1 : Context) (x2 : Option ℕ) → walk.Takes x0 → Keeps walk (result_named x0 x1 x2)
k-result_named walk names here None keeps1 = k-some walk None
k-result_named walk names here (Some mark) keeps1 = k-bind walk (scalar_named names here mark) (λ s. given s (λ t. some (Some t))) (k-scalar_named walk names here mark keeps1) (λ s. k-given walk s (λ t. some (Some t)) (λ t. k-some walk (Some t)))

pub k-profile_where : (walk : Walk) (x0 : Names) (x1 : Context) (x2 : ℕ) (x3 : Option ℕ) (x4 : Option (List Taken)) (x5 : Option (Option Scalar)) → walk.Takes x0 → WalksProfiles walk → Keeps walk (profile_where x0 x1 x2 x3 x4 x5)
k-profile_where walk names here name (Some f) (Some ts) (Some r) keeps1 profiles = k-bind walk (written_profile ts r) (λ n. pure (Some n, declared names here name (Some (what.Sub n)))) (k-written_profile walk ts r profiles) (λ n. k-pure walk (Some n, declared names here name (Some (what.Sub n))))
k-profile_where walk names here name (Some f) ts r keeps1 profiles = k-pure walk (None, declared names here name None)
k-profile_where walk names here name None ts r keeps1 profiles = k-pure walk (None, here)

pub k-next_owner : (walk : Walk) → Keeps walk (next_owner)
k-next_owner walk = k-read walk (λ log. length log.profiles + 1)

pub k-profile : (wide : Wide) (x0 : Names) (x1 : ℕ) (x2 : Context) (x3 : ℕ) (x4 : Option ℕ) (x5 : Option Formals) → wide.walk.Takes x0 → WalksProfiles wide.walk → Keeps wide.walk (profile x0 x1 x2 x3 x4 x5)
unfolding profile
k-profile wide names start here name result fs keeps1 profiles = record {
  at = λ log.
      let out1 = next_owner log in
      let owner = out1.0 in
      let out2 = formals names (is_function result) (record here { owner = owner }) fs out1.1 in
      let f = out2.0 in
      let out3 = result_named names f.0 result out2.1 in
      let r = out3.0 in
      let out4 = free names start here name out3.1 in
      let one = out4.0 in
      wide.walk.joins _ _ _ ((k-next_owner wide.walk).at log)
      (wide.walk.joins _ _ _ ((k-formals wide names (is_function result) (record here { owner = owner }) fs keeps1).at out1.1)
      (wide.walk.joins _ _ _ ((k-result_named wide.walk names f.0 result keeps1).at out2.1)
      (wide.walk.joins _ _ _ ((k-free wide.walk names start here name keeps1).at out3.1)
      ((k-profile_where wide.walk names here name one f.1 r keeps1 profiles).at out4.1))));
}

pub k-level_of : (walk : Walk) (names : Names) (n : ℕ) → walk.Takes names → KeepsInside walk (level_of names n)
k-level_of walk names n t = k-level_above walk names (inside names n) t (k-inside walk names n t)

pub k-with_body : (wide : Wide) (x0 : Names) (x1 : ℕ) (x2 : Bool) (x3 : ℕ) (x4 : Profiled) (x5 : Option Aspect) (x6 : List Decl) (x7 : Body) (x8 : Option ℕ) → wide.walk.Takes x0 → Keeps wide.walk (with_body x0 x1 x2 x3 x4 x5 x6 x7 x8)
unfolding with_body
k-with_body wide names n blocking name p a ds b last keeps1 = record {
  at = λ log.
      let out1 = aspect names p.inner blocking a log in
      let z = out1.0 in
      let out2 = declarations names (level_of names n) (length p.outer.scope) p.inner (Some no_decls) ds out1.1 in
      let r = out2.0 in
      let out3 = body (around names n (stmt names n)) r.0 r.1 b out2.1 in
      let x = out3.0 in
      wide.walk.joins _ _ _ ((k-aspect wide.walk names p.inner blocking a keeps1).at log)
      (wide.walk.joins _ _ _ ((k-declarations wide names (level_of names n) (length p.outer.scope) p.inner (Some no_decls) ds keeps1 (k-level_of wide.walk names n keeps1)).at out1.1)
      (wide.walk.joins _ _ _ ((k-body wide.walk (around names n (stmt names n)) r.0 r.1 b (k-around wide names n keeps1)).at out2.1)
      ((k-end_name wide.walk names name last keeps1).at out3.1)));
}

pub k-result_value : (walk : Walk) (x0 : Names) (x1 : Inside) (x2 : Context) (x3 : Expr) (x4 : Returns) → walk.Takes x0 → KeepsInside walk x1 → Keeps walk (result_value x0 x1 x2 x3 x4)
k-result_value walk names level here e (returns.Value s) keeps1 keeps2 = k-value_for walk names level here (subtype.Scalar s) e keeps1 keeps2
k-result_value walk names level here e r keeps1 keeps2 = k-bind walk (judged_alone names level here e) (λ u. pure None) (k-judged_alone walk names level here e keeps1 keeps2) (λ u. k-pure walk None)

pub k-with_value_of : (walk : Walk) (x0 : Names) (x1 : ℕ) (x2 : Bool) (x3 : Profiled) (x4 : Option Aspect) (x5 : Expr) → walk.Takes x0 → Keeps walk (with_value_of x0 x1 x2 x3 x4 x5)
unfolding with_value_of
k-with_value_of walk names n blocking p a e keeps1 = record {
  at = λ log.
      let out1 = aspect names p.inner blocking a log in
      let z = out1.0 in
      walk.joins _ _ _ ((k-aspect walk names p.inner blocking a keeps1).at log)
      ((k-result_value walk names (inside names n) p.inner e p.inner.returns keeps1 (k-inside walk names n keeps1)).at out1.1);
}

pub k-subprogram : (wide : Wide) (x0 : Names) (x1 : ℕ) (x2 : Bool) (x3 : ℕ) (x4 : Context) (x5 : Sub) → wide.walk.Takes x0 → WalksProfiles wide.walk → Keeps wide.walk (subprogram x0 x1 x2 x3 x4 x5)
unfolding subprogram
k-subprogram wide names n blocking start here (syntax.Procedure at name fs a ds b last) keeps1 profiles = record {
  at = λ log.
      let out1 = profile names start here name None fs log in
      let p = out1.0 in
      wide.walk.joins _ _ _ ((k-profile wide names start here name None fs keeps1 profiles).at log)
      ((k-with_body wide names n blocking name p a ds b last keeps1).at out1.1);
}
k-subprogram wide names n blocking start here (syntax.Function at name fs result a ds b last) keeps1 profiles = record {
  at = λ log.
      let out1 = profile names start here name (Some result) fs log in
      let p = out1.0 in
      wide.walk.joins _ _ _ ((k-profile wide names start here name (Some result) fs keeps1 profiles).at log)
      ((k-with_body wide names n blocking name p a ds b last keeps1).at out1.1);
}
k-subprogram wide names n blocking start here (syntax.ExprFunction at name fs result bracket e a) keeps1 profiles = record {
  at = λ log.
      let out1 = profile names start here name (Some result) fs log in
      let p = out1.0 in
      wide.walk.joins _ _ _ ((k-profile wide names start here name (Some result) fs keeps1 profiles).at log)
      ((k-with_value_of wide.walk names n blocking p a e keeps1).at out1.1);
}

pub k-unit_of : (wide : Wide) (x0 : Names) (x1 : ℕ) (x2 : Bool) (x3 : ℕ) (x4 : Declared') (x5 : Unit') → wide.walk.Takes x0 → WalksProfiles wide.walk → Keeps wide.walk (unit_of x0 x1 x2 x3 x4 x5)
k-unit_of wide names n blocking start d (syntax.DeclUnit x) keeps1 profiles = k-bind wide.walk (declaration names (level_of names n) start d.here d.decls x) (λ r. pure (record { here = r.0; decls = r.1; subs = d.subs })) (k-declaration wide names (level_of names n) start d.here d.decls x keeps1 (k-level_of wide.walk names n keeps1)) (λ r. k-pure wide.walk (record { here = r.0; decls = r.1; subs = d.subs }))
k-unit_of wide names n blocking start d (syntax.SubUnit s) keeps1 profiles = k-bind wide.walk (subprogram names (n - 1) blocking start d.here s) (λ r. pure (record { here = r.0; decls = d.decls; subs = joined also_sub d.subs r.1 })) (k-subprogram wide names (n - 1) blocking start d.here s keeps1 profiles) (λ r. k-pure wide.walk (record { here = r.0; decls = d.decls; subs = joined also_sub d.subs r.1 }))

pub k-units : (wide : Wide) (x0 : Names) (x1 : ℕ) (x2 : Bool) (x3 : ℕ) (x4 : Declared') (x5 : List Unit') → wide.walk.Takes x0 → WalksProfiles wide.walk → Keeps wide.walk (units x0 x1 x2 x3 x4 x5)
k-units wide names n blocking start d [] keeps1 profiles = k-pure wide.walk d
k-units wide names n blocking start d (u ∷ us) keeps1 profiles = k-bind wide.walk (unit_of names n blocking start d u) (λ e. units names n blocking start e us) (k-unit_of wide names n blocking start d u keeps1 profiles) (λ e. k-units wide names n blocking start e us keeps1 profiles)

pub k-main : (wide : Wide) (x0 : Names) (x1 : ℕ) (x2 : Context) (x3 : Main) (x4 : Bool) → wide.walk.Takes x0 → WalksProfiles wide.walk → Keeps wide.walk (main x0 x1 x2 x3 x4)
unfolding main
k-main wide names n here m s keeps1 profiles = record {
  at = λ log.
      let out1 = aspect names here false m.aspect log in
      let z = out1.0 in
      let out2 = units names n z (length here.scope) (record { here = here; decls = Some no_decls; subs = Some [] }) m.units out1.1 in
      let d = out2.0 in
      let out3 = body (around names n (stmt names n)) d.here d.decls m.body out2.1 in
      let b = out3.0 in
      wide.walk.joins _ _ _ ((k-aspect wide.walk names here false m.aspect keeps1).at log)
      (wide.walk.joins _ _ _ ((k-units wide names n z (length here.scope) (record { here = here; decls = Some no_decls; subs = Some [] }) m.units keeps1 profiles).at out1.1)
      (wide.walk.joins _ _ _ ((k-body wide.walk (around names n (stmt names n)) d.here d.decls m.body (k-around wide names n keeps1)).at out2.1)
      ((k-end_name wide.walk names m.defined m.last_name keeps1).at out3.1)));
}

pub k-program : (wide : Wide) (x0 : Names) (x1 : ℕ) (x2 : Program) → wide.walk.Takes x0 → WalksProfiles wide.walk → Keeps wide.walk (program x0 x1 x2)
unfolding program
k-program wide names n t keeps1 profiles = record {
  at = λ log.
      let out1 = policy names t.policy log in
      let s = out1.0 in
      let out2 = clauses names outermost t.clauses out1.1 in
      let here = out2.0 in
      wide.walk.joins _ _ _ ((k-policy wide.walk names t.policy keeps1).at log)
      (wide.walk.joins _ _ _ ((k-clauses wide.walk names outermost t.clauses keeps1).at out1.1)
      ((k-main wide names n here t.main s keeps1 profiles).at out2.1));
}
