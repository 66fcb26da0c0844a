-- Whose own name is visible where: a subprogram's is in its body (6.1, 8.2), the main procedure's isn't.
use Rattle.name_rules.specs.Declarations.{all_ids, declarations}
use Rattle.name_rules.specs.Expressions.{Inside}
use Rattle.name_rules.specs.Programs.{Declared', Profiled, clauses, main, outermost, profile, units}
use Rattle.name_rules.specs.Scope.{named, standard, stands_for, undeclared}
use Rattle.name_rules.specs.Statements.{no_decls}
use Rattle.name_rules.specs.Symbols.{symbol}
use Rattle.name_rules.specs.declared.found.Denoted.TheVariants as denoted
use Rattle.name_rules.specs.declared.log.Log.{Log}
use Rattle.name_rules.specs.declared.scope.Context.{Context}
use Rattle.name_rules.specs.declared.scope.Names.{Names}
use Rattle.name_rules.specs.declared.scope.What.TheVariants as what
use Rattle.syntax_tree.specs.Syntax as syntax
use Rattle.syntax_tree.specs.Syntax.{Clause, Decl, Formal, Formals, Main, Program, Sub, Unit'}
use Rattle.typed_tree.specs.Decoded.{TypedPart}
use Rattle.typed_tree.specs.Syntax.{Sub as TypedSub}
use Rattle.std.specs.Prelude.{Bool, List, None, Option, Some, [], length, ℕ, ◌++◌, ◌∷◌, ◌≡◌}
use Rattle.name_laws.specs.Hiding.{HasNone, IsLast, NoneNamed, all_declared, declares}

-- ---- subprograms

abbrev pub formals_named : List Formal → List ℕ
formals_named [] = []
formals_named (f ∷ fs) = all_ids f.names ++ formals_named fs

-- the identifiers of the formal parameters
abbrev pub formal_names : Option Formals → List ℕ
formal_names None = []
formal_names (Some f) = formals_named (f.first ∷ f.more)

-- what is around the statements of a body, or around the value of an expression function, which has no declarations
abbrev pub around_body : Names → Inside → ℕ → Profiled → Option TypedPart → List Decl → Log → Context
around_body names level start p done ds log = (declarations names level start p.inner done ds log).0.0

-- the subprograms so far are as many as the profiles that were written
abbrev pub AreNumbered : Option (List TypedSub) → Log → Type 0
AreNumbered None log = Unit {0}
AreNumbered (Some ss) log = length ss ≡ length log.profiles

-- A subprogram that is declared is so from the end of its profile on; so in its body too its name stands for itself,
-- unless a formal parameter or a local declaration hides it. Its number is its place among the subprograms of the program.
pub record OwnNameLaw : Type 0 where
  pub declared : (names : Names) (start : ℕ) (here : Context) (name : ℕ) (result : Option ℕ) (fs : Option Formals) (log : Log) (n : ℕ)
      → (profile names start here name result fs log).0.number ≡ Some n
      → IsLast (symbol names name) (what.Sub n) (profile names start here name result fs log).0.outer.scope
  pub visible : (names : Names) (start : ℕ) (here : Context) (name : ℕ) (result : Option ℕ) (fs : Option Formals) (log : Log) (n : ℕ)
      → (profile names start here name result fs log).0.number ≡ Some n
      → (level : Inside) (place : ℕ) (done : Option TypedPart) (ds : List Decl) (later : Log)
      → NoneNamed names (symbol names name) (formal_names fs) → NoneNamed names (symbol names name) (all_declared ds)
      → (token : ℕ) → symbol names token ≡ symbol names name
      → stands_for names (around_body names level place (profile names start here name result fs log).0 done ds later) token ≡ named (denoted.Sub token token n)
  pub number : (names : Names) (start : ℕ) (here : Context) (name : ℕ) (result : Option ℕ) (fs : Option Formals) (log : Log) (n : ℕ)
      → (profile names start here name result fs log).0.number ≡ Some n → n ≡ length log.profiles
  pub places : (names : Names) (n : ℕ) (blocking : Bool) (start : ℕ) (d : Declared') (us : List Unit') (log : Log)
      → AreNumbered d.subs log → AreNumbered (units names n blocking start d us log).0.subs (units names n blocking start d us log).1

-- ---- the main procedure

abbrev pub sub_name : Sub → ℕ
sub_name (syntax.Procedure at name fs a ds b last) = name
sub_name (syntax.Function at name fs result a ds b last) = name
sub_name (syntax.ExprFunction at name fs result bracket e a) = name

abbrev pub unit_names : Unit' → List ℕ
unit_names (syntax.DeclUnit d) = declares d
unit_names (syntax.SubUnit s) = sub_name s ∷ []

-- the identifiers that the declarative part of the main procedure declares
abbrev pub units_names : List Unit' → List ℕ
units_names [] = []
units_names (u ∷ us) = unit_names u ++ units_names us

-- what is around the declarative part of the main procedure
abbrev pub around_main : Names → List Clause → Log → Context
around_main names cs log = (clauses names outermost cs log).0

-- what is around those behind these units, and so around the statements of the main procedure
abbrev pub around_units : Names → ℕ → Bool → Context → List Unit' → Log → Context
around_units names n blocking here us log = (units names n blocking (length here.scope) (record { here = here; decls = Some no_decls; subs = Some [] }) us log).0.here

-- The name of the main procedure is no declaration in its own declarative part and statements: it is undeclared there, unless
-- it is declared there too or is a name of Standard. Apart from the name behind its `end` the rules say nothing of it.
pub record MainNameLaw : Type 0 where
  pub undeclared : (names : Names) (n : ℕ) (blocking : Bool) (program : Program) (us : List Unit') (log later : Log)
      → HasNone (symbol names program.main.defined) standard → NoneNamed names (symbol names program.main.defined) (units_names us)
      → (token : ℕ) → symbol names token ≡ symbol names program.main.defined
      → stands_for names (around_units names n blocking (around_main names program.clauses log) us later) token
      ≡ undeclared (around_units names n blocking (around_main names program.clauses log) us later) token (symbol names token)
  pub unnamed : (names : Names) (n : ℕ) (here : Context) (m : Main) (name other : ℕ) (strict : Bool)
      → main names n here (record m { defined = name; last_name = None }) strict ≡ main names n here (record m { defined = other; last_name = None }) strict
