-- What a simple name stands for (8.3): the last declaration of its name that is visible there.
use Rattle.name_rules.specs.Declarations.{all_ids, declarations}
use Rattle.name_rules.specs.Expressions.{Inside}
use Rattle.name_rules.specs.Judging.{fault}
use Rattle.name_rules.specs.Scope.{entry, hidden, stands, stands_for, undeclared, with_entry}
use Rattle.name_rules.specs.Symbols.{symbol}
use Rattle.name_rules.specs.declared.log.Log.{Log}
use Rattle.name_rules.specs.declared.log.Rule.TheVariants.{NotVisible}
use Rattle.name_rules.specs.declared.scope.Context.{Context}
use Rattle.name_rules.specs.declared.scope.Entry.{Entry}
use Rattle.name_rules.specs.declared.scope.Names.{Names}
use Rattle.name_rules.specs.declared.scope.What.{What}
use Rattle.syntax_tree.specs.Syntax as syntax
use Rattle.syntax_tree.specs.Syntax.{Decl}
use Rattle.typed_tree.specs.Decoded.{TypedPart}
use Rattle.std.specs.Prelude.{List, Option, Some, [], ℕ, ◌++◌, ◌∷◌, ◌≡◌, ◌⊎◌}

-- ---- declarations of a name

-- none of these declares a name
abbrev pub HasNone : ℕ → List Entry → Type 0
HasNone name [] = Unit {0}
HasNone name (e ∷ es) = (e.symbol ≡ name → ⊥) × HasNone name es

-- what the last of the declarations of a name declares it to be
pub record IsLast (name : ℕ) (w : What) (scope : List Entry) : Type 0 where
  pub before : List Entry
  pub after : List Entry
  pub splits : scope ≡ before ++ entry name w ∷ after
  pub unhidden : HasNone name after

-- A name stands for the last of its declarations in scope, which hides the earlier ones; where there is none it is
-- undeclared. From where a declaration begins its name hides outer ones, and until it ends it isn't visible itself.
pub record HidingLaw : Type 0 where
  pub last : (names : Names) (here : Context) (token : ℕ) (w : What) → IsLast (symbol names token) w here.scope
      → stands_for names here token ≡ stands here token (symbol names token) (Some w)
  pub none : (names : Names) (here : Context) (token : ℕ) → HasNone (symbol names token) here.scope
      → stands_for names here token ≡ undeclared here token (symbol names token)
  pub either : (name : ℕ) (scope : List Entry) → HasNone name scope ⊎ ((w : What) × IsLast name w scope)
  pub hides : (names : Names) (here : Context) (declared token : ℕ) (w : What) → symbol names declared ≡ symbol names token
      → stands_for names (with_entry here (symbol names declared) w) token ≡ stands here token (symbol names token) (Some w)
  pub begun : (names : Names) (here : Context) (declared token : ℕ) → symbol names declared ≡ symbol names token
      → stands_for names (hidden names here declared) token ≡ fault token NotVisible
  pub others : (names : Names) (here : Context) (declared token : ℕ) (w : What) → (symbol names declared ≡ symbol names token → ⊥)
      → stands_for names (with_entry here (symbol names declared) w) token ≡ stands_for names here token

-- ---- what declarations leave in scope

-- the defining identifiers of a declaration (3.1), by their tokens; those of a record's components are a region of their own
abbrev pub declares : Decl → List ℕ
declares (syntax.ObjectDecl is constant t e) = all_ids is
declares (syntax.NumberDecl is at e) = all_ids is
declares (syntax.ExceptionDecl is) = all_ids is
declares (syntax.TypeDecl at token d) = token ∷ []
declares (syntax.SubtypeDecl at token i) = token ∷ []

abbrev pub all_declared : List Decl → List ℕ
all_declared [] = []
all_declared (d ∷ ds) = declares d ++ all_declared ds

-- none of these identifiers has the name
abbrev pub NoneNamed : Names → ℕ → List ℕ → Type 0
NoneNamed names name [] = Unit {0}
NoneNamed names name (t ∷ ts) = (symbol names t ≡ name → ⊥) × NoneNamed names name ts

-- what is around those behind differs by declarations of these identifiers alone
pub record Adds (names : Names) (tokens : List ℕ) (here there : Context) : Type 0 where
  pub more : List Entry
  pub grows : there ≡ record here { scope = here.scope ++ more }
  pub named : (name : ℕ) → NoneNamed names name tokens → HasNone name more

-- Declarations add declarations of their own identifiers alone; another name stands behind them for what it stood for before.
pub record ScopeLaw : Type 0 where
  pub adds : (names : Names) (level : Inside) (start : ℕ) (here : Context) (done : Option TypedPart) (ds : List Decl) (log : Log)
      → Adds names (all_declared ds) here (declarations names level start here done ds log).0.0
  pub kept : (names : Names) (tokens : List ℕ) (here there : Context) → Adds names tokens here there
      → (token : ℕ) → NoneNamed names (symbol names token) tokens → stands_for names there token ≡ stands_for names here token
