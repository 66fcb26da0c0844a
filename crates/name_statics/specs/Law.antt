-- Static values are those of whole expressions (4.9).
use Rattle.syntax_tree.specs.Syntax.{Expr, Simple}
use Rattle.typed_tree.specs.Decoded.{TypedPart, as_expr}
use Rattle.typed_tree.specs.Syntax as typed
use Rattle.typed_tree.specs.Syntax.{Expr as TypedExpr}
use Rattle.name_rules.specs.Declarations.{Initial, indicated, initial, static_number}
use Rattle.name_rules.specs.Expressions.{expr, simple}
use Rattle.name_rules.specs.Found.{Found}
use Rattle.name_rules.specs.Primaries.{inside}
use Rattle.name_rules.specs.Values.{asked, is_scalar, value_of}
use Rattle.name_rules.specs.declared.log.Log.{Log}
use Rattle.name_rules.specs.declared.scope.Context.{Context}
use Rattle.name_rules.specs.declared.scope.Names.{Names}
use Rattle.name_rules.specs.declared.types.Kind.{Kind}
use Rattle.name_rules.specs.declared.types.Scalar.{Scalar}
use Rattle.name_rules.specs.declared.types.Subtype.TheVariants as subtype
use Rattle.name_rules.specs.declared.types.Wanted.TheVariants as wanted
use Rattle.name_rules.specs.declared.types.Wanted.{Wanted}
use Rattle.name_statics.specs.Values.{Around, expr_value, simple_value, expr_bound, simple_bound, left_value}
use Rattle.std.specs.Prelude.{None, Option, Some, true, ℕ, ℤ, ◌≡◌}

-- what is declared where an expression stands, and what the table of subtypes has there
abbrev pub around : Names → Context → Log → Around
around names here log = record { names = names; scope = here.scope; shapes = log.shapes }

-- the value that stands in a place of the typed program
abbrev pub static_in : TypedExpr → Option ℤ
static_in (typed.Static at z alone mentions) = Some z
static_in e = None

-- Whatever scalar an expression or a bound is found to be, at each level of brackets and wherever it stands, its static
-- value is that of its text, and it has none where its text has none. Where a place asks for its type, what it leaves there
-- in the typed program is that value, as a cell of the type keeps it, and is no value where its text has none; but where it
-- is First or Last of a modular subtype alone, which isn't static, that bound stands there. The initial value of a constant
-- of a scalar subtype has the static value of its expression, which a constant of an integer subtype that isn't modular
-- keeps if that lies in it (3.3.1). A named number has that of its expression (3.3.2).
pub record StaticValuesLaw : Type 0 where
  pub found : (names : Names) (n : ℕ) (here : Context) (want : Wanted) (e : Expr) (log : Log) (f : Found)
      → (expr names (inside names n) here want e log).0 ≡ Some f → is_scalar f.known ≡ true
      → value_of f.known ≡ expr_value (around names here log) e
  pub bounds : (names : Names) (n : ℕ) (here : Context) (want : Wanted) (e : Simple) (log : Log) (f : Found)
      → (simple (inside names n) here want e log).0 ≡ Some f → is_scalar f.known ≡ true
      → value_of f.known ≡ simple_value (around names here log) e
  pub left : (names : Names) (n : ℕ) (here : Context) (want : Wanted) (e : Expr) (log mid : Log) (f : Found) (k : Kind) (x : TypedPart)
      → (expr names (inside names n) here want e log).0 ≡ Some f → (asked k f mid).0 ≡ Some x
      → static_in (as_expr x) ≡ left_value k (expr_value (around names here log) e) (expr_bound (around names here log) e)
  pub left_bounds : (names : Names) (n : ℕ) (here : Context) (want : Wanted) (e : Simple) (log mid : Log) (f : Found) (k : Kind) (x : TypedPart)
      → (simple (inside names n) here want e log).0 ≡ Some f → (asked k f mid).0 ≡ Some x
      → static_in (as_expr x) ≡ left_value k (simple_value (around names here log) e) (simple_bound (around names here log) e)
  pub constants : (names : Names) (n : ℕ) (here : Context) (s : Scalar) (mentions : TypedPart) (e : Expr) (log : Log) (v : Initial)
      → (initial names (inside names n) here (Some (indicated mentions (subtype.Scalar s))) (Some e) log).0 ≡ Some v
      → v.value ≡ expr_value (around names here log) e
  pub numbers : (names : Names) (n : ℕ) (here : Context) (e : Expr) (log mid : Log) (f : Found) (z : ℤ)
      → (expr names (inside names n) here wanted.Other e log).0 ≡ Some f → (static_number f mid).0 ≡ Some z
      → Some z ≡ expr_value (around names here log) e
