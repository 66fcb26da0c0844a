-- The rules of subprograms (6.1, 6.3, 6.8), clauses (8.4, 10.1.2), the policy (2.8), and the program (10.1).
use Rattle.name_rules.specs.Declarations.{all_ids, begun_names, cells_counted, declaration, declarations, ended_name, new_object}
use Rattle.name_rules.specs.Expressions.{Inside, judged_alone, value_for}
use Rattle.name_rules.specs.Found.{Denoted}
use Rattle.name_rules.specs.Judging.{Judging, breaks, fault, given, joined, pure, read, some, unless, ◌>>=◌}
use Rattle.name_rules.specs.Parts.{name}
use Rattle.name_rules.specs.Primaries.{inside, level_above}
use Rattle.name_rules.specs.Scope.{declared, free, scalar_named, standard, stands_for, subtype_named}
use Rattle.name_rules.specs.Statements.{around, body, no_decls, stmt}
use Rattle.name_rules.specs.Symbols.{ada_name, all_parallel_policy, all_policy, integer_io_name, known_parallel_policy, nonblocking_name, policy_name, symbol, text_io_name}
use Rattle.name_rules.specs.Types.{is_integer, typed_scalar}
use Rattle.name_rules.specs.declared.found.Denoted.TheVariants as denoted
use Rattle.name_rules.specs.declared.found.Denoted.{Denoted as KnownDenoted}
use Rattle.name_rules.specs.declared.found.Found.TheVariants as known
use Rattle.name_rules.specs.declared.log.Rule.TheVariants.{NotStatic, NotVisible, PolicyName, Unknown, WrongEnd, WrongType}
use Rattle.name_rules.specs.declared.log.Taken.{Taken}
use Rattle.name_rules.specs.declared.scope.Context.{Context}
use Rattle.name_rules.specs.declared.scope.Names.{Names}
use Rattle.name_rules.specs.declared.scope.Packages.{Packages}
use Rattle.name_rules.specs.declared.scope.Returns.TheVariants as returns
use Rattle.name_rules.specs.declared.scope.Returns.{Returns}
use Rattle.name_rules.specs.declared.scope.Target.TheVariants as target
use Rattle.name_rules.specs.declared.scope.What.TheVariants as what
use Rattle.name_rules.specs.declared.types.Kind.TheVariants as kind
use Rattle.name_rules.specs.declared.types.Scalar.{Scalar}
use Rattle.name_rules.specs.declared.types.Subtype.TheVariants as subtype
use Rattle.name_rules.specs.declared.types.Subtype.{Subtype}
use Rattle.syntax_tree.specs.Syntax as syntax
use Rattle.syntax_tree.specs.Syntax.{Aspect, Body, Clause, Decl, Expr, Formal, Formals, Main, Pack, Policy, Program, Sub, Unit'}
use Rattle.syntax_tree.specs.declared.operators.ClauseWord.TheVariants as word
use Rattle.syntax_tree.specs.declared.operators.ClauseWord.{ClauseWord}
use Rattle.syntax_tree.specs.declared.operators.Mode.TheVariants as mode'
use Rattle.syntax_tree.specs.declared.operators.Mode.{Mode as FormalMode}
use Rattle.typed_tree.specs.Decoded as part
use Rattle.typed_tree.specs.Syntax as typed
use Rattle.typed_tree.specs.Syntax.{Body as TypedBody, Sub as TypedSub}
use Rattle.typed_tree.specs.declared.program.Formal.{Formal as TypedFormal}
use Rattle.typed_tree.specs.declared.program.Mode.TheVariants as mode
use Rattle.typed_tree.specs.declared.program.Mode.{Mode}
use Rattle.std.specs.Prelude.{Bool, List, None, Option, Some, [], drop, false, if◌then◌else◌, int_le, length, map, not, option_map, pos, true, ℕ, ℤ, ◌&&◌, ◌++◌, ◌+◌, ◌-◌, ◌==◌, ◌||◌, ◌∷◌}
use Rattle.typed_tree.specs.Decoded.{TypedPart, as_body}

-- ---- the policy (2.8)

-- E05 Unknown: another pragma, at its name; E05 PolicyName: another policy; whether the strict rule is asked for
abbrev pub policy_named : Names → Policy → Judging Bool
policy_named names p =
    if not (symbol names p.mark == policy_name) then (breaks p.mark Unknown >>= λ u. pure true) else
    if symbol names p.policy == known_parallel_policy then pure false else
    (unless (symbol names p.policy == all_parallel_policy || symbol names p.policy == all_policy) p.policy PolicyName >>= λ u. pure true)

abbrev pub policy : Names → Option Policy → Judging Bool
policy names None = pure true
policy names (Some p) = policy_named names p

-- ---- with and use clauses (10.1.2, 8.4)

-- E05 Unknown: a library other than these, at the identifier; the library's name
abbrev pub pack_end : Names → ℕ → List ℕ → Judging (Option ℕ)
pack_end names library [] = some library
pack_end names library (t ∷ ts) =
    if library == ada_name && (symbol names t == text_io_name || symbol names t == integer_io_name) then pack_end names (symbol names t) ts else fault t Unknown

abbrev pub pack : Names → Pack → Judging (Option ℕ)
pack names p = if symbol names p.first == ada_name then pack_end names ada_name p.more else fault p.first Unknown

abbrev pub has : Packages → ℕ → Bool
has p name = if name == ada_name then p.ada else if name == text_io_name then p.text_io else p.integer_io

abbrev pub with_package : Packages → ℕ → Packages
with_package p name =
    if name == text_io_name then record p { text_io = true } else if name == integer_io_name then record p { integer_io = true } else record p { ada = true }

-- a with clause of a library of Ada gives Ada too
abbrev pub withed_by : Context → ℕ → Context
withed_by here name = record here { withed = with_package (with_package here.withed name) ada_name }

-- E05 NotVisible: a use clause without an earlier with clause
abbrev pub clause_name : ClauseWord → Context → ℕ → Option ℕ → Judging Context
clause_name w here first None = pure here
clause_name word.With here first (Some name) = pure (withed_by here name)
clause_name word.Use here first (Some name) = unless (has here.withed name) first NotVisible >>= λ u. pure (record here { used = with_package here.used name })

abbrev pub clause_packs : Names → ClauseWord → Context → List Pack → Judging Context
clause_packs names w here [] = pure here
clause_packs names w here (p ∷ ps) = pack names p >>= λ n. clause_name w here p.first n >>= λ c. clause_packs names w c ps

abbrev pub clauses : Names → Context → List Clause → Judging Context
clauses names here [] = pure here
clauses names here (c ∷ cs) = clause_packs names c.word here (c.first ∷ c.more) >>= λ d. clauses names d cs

-- ---- aspects (13.1.1, 9.5)

-- the value is True or False: another Boolean is not static, and anything else has another type
abbrev pub boolean_place : ℕ → Subtype → Judging Bool
boolean_place token (subtype.Scalar s) = (if is_integer s.kind then breaks token WrongType else breaks token NotStatic) >>= λ u. pure true
boolean_place token (subtype.Composite n) = breaks token WrongType >>= λ u. pure true

abbrev pub not_zero : ℤ → Bool
not_zero z = not (int_le z (pos 0))

abbrev pub aspect_denoted : ℕ → Option KnownDenoted → Judging Bool
aspect_denoted token None = pure true
aspect_denoted token (Some (denoted.Value (known.Static first kind.Boolean z))) = pure (not_zero z)
aspect_denoted token (Some (denoted.Value (known.Object p))) = boolean_place token p.subtype
aspect_denoted token (Some d) = breaks token WrongType >>= λ u. pure true

abbrev pub known_of : Denoted → KnownDenoted
known_of d = d.known

abbrev pub aspect_value : Names → Context → Option ℕ → Judging Bool
aspect_value names here None = pure true
aspect_value names here (Some token) = stands_for names here token >>= λ d. aspect_denoted token (option_map known_of d)

-- E05 Unknown: another aspect than Nonblocking, at its name; without an aspect the main procedure's value counts
abbrev pub aspect : Names → Context → Bool → Option Aspect → Judging Bool
aspect names here other None = pure other
aspect names here other (Some a) = if symbol names a.mark == nonblocking_name then aspect_value names here a.value else (breaks a.mark Unknown >>= λ u. pure true)

-- E05 WrongEnd: the name after `end` differs
abbrev pub end_name : Names → ℕ → Option ℕ → Judging (Unit {0})
end_name names name None = pure tt
end_name names name (Some token) = unless (symbol names name == symbol names token) token WrongEnd

-- ---- formal parameters (6.1): with the local declarations one region

abbrev pub mode_of : Option FormalMode → Mode
mode_of None = mode.In
mode_of (Some (mode'.In at)) = mode.In
mode_of (Some (mode'.Out at)) = mode.Out
mode_of (Some (mode'.InOut at)) = mode.InOut

-- E06: a function with an `out` or `in out` parameter, at the mode
abbrev pub mode_rule : Bool → Option FormalMode → Judging (Unit {0})
mode_rule true (Some (mode'.Out at)) = breaks at WrongType
mode_rule true (Some (mode'.InOut at)) = breaks at WrongType
mode_rule function m = pure tt

abbrev pub is_constant : Mode → Bool
is_constant mode.In = true
is_constant m = false

abbrev pub formal_entry : Names → Context → ℕ → Option ℕ → Mode → Subtype → ℕ → Option ℕ → Context × Option Taken
formal_entry names here token f m s n None = (ended_name names here f None, None)
formal_entry names here token f m s n (Some o) = (ended_name names here f (Some (what.Object o s (not (is_constant m)) None)), Some (record { symbol = symbol names token; object = o; subtype = s; number = n; mode = m }))

abbrev pub one_formal : Names → Context → ℕ → Option ℕ → Mode → Option Subtype → Judging (Context × Option Taken)
one_formal names here token f m None = cells_counted token 0 >>= λ b. pure (ended_name names here f None, None)
one_formal names here token f m (Some s) = new_object names here token s (is_constant m) None >>= λ o. pure (formal_entry names here token f m s 0 o)

abbrev pub also_taken_by : List Taken → Taken → List Taken
also_taken_by ts t = ts ++ t ∷ []

abbrev pub each_formal : Names → Context → Mode → Option Subtype → Option (List Taken) → List ℕ → List (Option ℕ) → Judging (Context × Option (List Taken))
each_formal names here m s done [] fs = pure (here, done)
each_formal names here m s done (t ∷ ts) [] = pure (here, done)
each_formal names here m s done (t ∷ ts) (f ∷ fs) = one_formal names here t f m s >>= λ r. each_formal names r.0 m s (joined also_taken_by done r.1) ts fs

abbrev pub formal : Names → Bool → ℕ → Context → Option (List Taken) → Formal → Judging (Context × Option (List Taken))
formal names function start here done f = do
  r ← begun_names names start here [] (all_ids f.names)
  u ← mode_rule function f.mode
  s ← subtype_named names r.0 f.mark
  each_formal names r.0 (mode_of f.mode) s done (all_ids f.names) r.1

abbrev pub formals_from : Names → Bool → ℕ → Context → Option (List Taken) → List Formal → Judging (Context × Option (List Taken))
formals_from names function start here done [] = pure (here, done)
formals_from names function start here done (f ∷ fs) = formal names function start here done f >>= λ r. formals_from names function start r.0 r.1 fs

abbrev pub formals : Names → Bool → Context → Option Formals → Judging (Context × Option (List Taken))
formals names function here None = pure (here, Some [])
formals names function here (Some f) = formals_from names function (length here.scope) here (Some []) (f.first ∷ f.more)

-- ---- a subprogram: its name hides and is visible from the end of its profile on

abbrev pub written_profile : List Taken → Option Scalar → Judging ℕ
written_profile ts s = λ log. (length log.profiles, record log { profiles = log.profiles ++ record { takes = ts; gives = s } ∷ [] })

-- the result: none of a procedure; E06: a result subtype that isn't scalar, at its name
abbrev pub result_named : Names → Context → Option ℕ → Judging (Option (Option Scalar))
result_named names here None = some None
result_named names here (Some mark) = scalar_named names here mark >>= λ s. given s (λ t. some (Some t))

abbrev pub returns_of : Option ℕ → Option (Option Scalar) → Returns
returns_of None r = returns.Nothing
returns_of (Some mark) (Some (Some s)) = returns.Value s
returns_of (Some mark) r = returns.Faulty

-- what its profile leaves: what is around those behind it, what is around its body, its number, its formals
pub record Profiled : Type 0 where
  pub outer : Context
  pub inner : Context
  pub number : Option ℕ
  pub takes : List Taken
  pub gives : Option Scalar

abbrev pub is_function : Option ℕ → Bool
is_function None = false
is_function (Some mark) = true

abbrev pub taken_or : Option (List Taken) → List Taken
taken_or None = []
taken_or (Some ts) = ts

abbrev pub gives_or : Option (Option Scalar) → Option Scalar
gives_or None = None
gives_or (Some s) = s

abbrev pub profile_where : Names → Context → ℕ → Option ℕ → Option (List Taken) → Option (Option Scalar) → Judging (Option ℕ × Context)
profile_where names here name (Some f) (Some ts) (Some r) = written_profile ts r >>= λ n. pure (Some n, declared names here name (Some (what.Sub n)))
profile_where names here name (Some f) ts r = pure (None, declared names here name None)
profile_where names here name None ts r = pure (None, here)

-- the entries of the formals stand behind the subprogram's own
abbrev pub behind : Context → ℕ → Context → ℕ → Returns → Context
behind outer start inner owner r = record { scope = outer.scope ++ drop start inner.scope; withed = outer.withed; used = outer.used; target = target.Nothing; loops = []; in_handler = false; returns = r; owner = owner }

-- the subprogram of number n is the owner n + 1
abbrev pub next_owner : Judging ℕ
next_owner = read (λ log. length log.profiles + 1)

unfoldable pub profile : Names → ℕ → Context → ℕ → Option ℕ → Option Formals → Judging Profiled
profile names start here name result fs = do
  owner ← next_owner
  f ← formals names (is_function result) (record here { owner = owner }) fs
  r ← result_named names f.0 result
  one ← free names start here name
  p ← profile_where names here name one f.1 r
  pure (record { outer = p.1; inner = behind p.1 (length here.scope) f.0 owner (returns_of result r); number = p.0; takes = taken_or f.1; gives = gives_or r })

-- ---- subprograms with a body, and expression functions (6.8)

abbrev pub typed_formal : Taken → TypedFormal
typed_formal t = record { object = t.object; mode = t.mode }

abbrev pub typed_sub : Profiled → Bool → TypedPart → TypedSub
typed_sub p nonblocking b = record { formals = map typed_formal p.takes; result = option_map typed_scalar p.gives; nonblocking = nonblocking; body = as_body b }

-- what judges a subprogram: it is one level itself
abbrev pub level_of : Names → ℕ → Inside
level_of names n = level_above names (inside names n)

abbrev pub sub_where : Profiled → Bool → ℕ → TypedPart → TypedSub
sub_where p z n b = typed_sub p z b

unfoldable pub with_body : Names → ℕ → Bool → ℕ → Profiled → Option Aspect → List Decl → Body → Option ℕ → Judging (Option TypedSub)
with_body names n blocking name p a ds b last = do
  z ← aspect names p.inner blocking a
  r ← declarations names (level_of names n) (length p.outer.scope) p.inner (Some no_decls) ds
  x ← body (around names n (stmt names n)) r.0 r.1 b
  u ← end_name names name last
  pure (joined (sub_where p z) p.number x)

-- the value of an expression function, as a body
abbrev pub returned_body : TypedPart → TypedPart
returned_body v = part.ABody (record { decls = typed.NoDecl; stmts = typed.Then (typed.ReturnValue (part.as_value v)) typed.End; handlers = typed.NoHandler })

abbrev pub result_value : Names → Inside → Context → Expr → Returns → Judging (Option TypedPart)
result_value names level here e (returns.Value s) = value_for names level here (subtype.Scalar s) e
result_value names level here e r = judged_alone names level here e >>= λ u. pure None

-- the expression stands in brackets
unfoldable pub with_value_of : Names → ℕ → Bool → Profiled → Option Aspect → Expr → Judging (Option TypedSub)
with_value_of names n blocking p a e = do
  z ← aspect names p.inner blocking a
  v ← result_value names (inside names n) p.inner e p.inner.returns
  pure (joined (sub_where p z) p.number (option_map returned_body v))

unfoldable pub subprogram : Names → ℕ → Bool → ℕ → Context → Sub → Judging (Context × Option TypedSub)
subprogram names n blocking start here (syntax.Procedure at name fs a ds b last) = profile names start here name None fs >>= λ p. with_body names n blocking name p a ds b last >>= λ s. pure (p.outer, s)
subprogram names n blocking start here (syntax.Function at name fs result a ds b last) = profile names start here name (Some result) fs >>= λ p. with_body names n blocking name p a ds b last >>= λ s. pure (p.outer, s)
subprogram names n blocking start here (syntax.ExprFunction at name fs result bracket e a) = profile names start here name (Some result) fs >>= λ p. with_value_of names n blocking p a e >>= λ s. pure (p.outer, s)

-- ---- the main procedure

-- what was found of its declarative part
pub record Declared' : Type 0 where
  pub here : Context
  pub decls : Option TypedPart
  pub subs : Option (List TypedSub)

abbrev pub also_sub : List TypedSub → TypedSub → List TypedSub
also_sub ss s = ss ++ s ∷ []

abbrev pub unit_of : Names → ℕ → Bool → ℕ → Declared' → Unit' → Judging Declared'
unit_of names n blocking start d (syntax.DeclUnit x) = declaration names (level_of names n) start d.here d.decls x >>= λ r. pure (record { here = r.0; decls = r.1; subs = d.subs })
unit_of names n blocking start d (syntax.SubUnit s) = subprogram names (n - 1) blocking start d.here s >>= λ r. pure (record { here = r.0; decls = d.decls; subs = joined also_sub d.subs r.1 })

abbrev pub units : Names → ℕ → Bool → ℕ → Declared' → List Unit' → Judging Declared'
units names n blocking start d [] = pure d
units names n blocking start d (u ∷ us) = unit_of names n blocking start d u >>= λ e. units names n blocking start e us

-- what the program is made of, beside what was written
pub record Whole : Type 0 where
  pub body : TypedBody
  pub subs : List TypedSub
  pub nonblocking : Bool
  pub strict : Bool

abbrev pub whole : Bool → Bool → TypedPart → List TypedSub → Whole
whole z s x ss = record { body = as_body x; subs = ss; nonblocking = z; strict = s }

unfoldable pub main : Names → ℕ → Context → Main → Bool → Judging (Option Whole)
main names n here m s = do
  z ← aspect names here false m.aspect
  d ← units names n z (length here.scope) (record { here = here; decls = Some no_decls; subs = Some [] }) m.units
  b ← body (around names n (stmt names n)) d.here d.decls m.body
  u ← end_name names m.defined m.last_name
  pure (joined (whole z s) b d.subs)

abbrev pub outermost : Context
outermost = record {
  scope = standard;
  withed = record { ada = false; text_io = false; integer_io = false };
  used = record { ada = false; text_io = false; integer_io = false };
  target = target.Nothing;
  loops = [];
  in_handler = false;
  returns = returns.Nothing;
  owner = 0;
}

unfoldable pub program : Names → ℕ → Program → Judging (Option Whole)
program names n t = do
  s ← policy names t.policy
  here ← clauses names outermost t.clauses
  main names n here t.main s
