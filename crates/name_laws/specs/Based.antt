-- Base ranges (3.5, 3.5.4): the bounds of a scalar subtype and of a dimension, and the value of a static constant, lie in
-- the base range of their type.
use Rattle.syntax_tree.specs.Syntax.{Expr}
use Rattle.typed_tree.specs.Decoded.{TypedPart}
use Rattle.name_laws.specs.Statics.{InBase, IsKept}
use Rattle.name_rules.specs.Expressions.{expr}
use Rattle.name_rules.specs.Found.{Found}
use Rattle.name_rules.specs.Primaries.{inside}
use Rattle.name_rules.specs.Types.{in_base, is_modular, kept}
use Rattle.name_rules.specs.Values.{asked, kind_in, place_scalar, value_of}
use Rattle.name_rules.specs.declared.log.Dimension.{Dimension}
use Rattle.name_rules.specs.declared.log.Log.{Log}
use Rattle.name_rules.specs.declared.log.Shape.{Shape}
use Rattle.name_rules.specs.declared.log.Shape.TheVariants as shape
use Rattle.name_rules.specs.declared.scope.Context.{Context}
use Rattle.name_rules.specs.declared.scope.Entry.{Entry}
use Rattle.name_rules.specs.declared.scope.Names.{Names}
use Rattle.name_rules.specs.declared.scope.What.{What}
use Rattle.name_rules.specs.declared.scope.What.TheVariants as what
use Rattle.name_rules.specs.declared.types.Kind.{Kind}
use Rattle.name_rules.specs.declared.types.Subtype.{Subtype}
use Rattle.name_rules.specs.declared.types.Subtype.TheVariants as subtype
use Rattle.name_rules.specs.declared.types.Wanted.{Wanted}
use Rattle.std.specs.Prelude.{List, Option, Some, [], false, int_le, slice_get, true, ℕ, ℤ, ◌∷◌, ◌≡◌}

-- a range that isn't empty, of the base range of its type; the same of a type that isn't modular
pub record IsRange (k : Kind) (low high : ℤ) : Type 0 where
  pub some : int_le low high ≡ true
  pub first : in_base k low ≡ true
  pub last : in_base k high ≡ true

pub record IsSpan (k : Kind) (low high : ℤ) : Type 0 where
  pub plain : is_modular k ≡ false
  pub range : IsRange k low high

abbrev pub AreSpans : List Dimension → Type 0
AreSpans [] = Unit {0}
AreSpans (d ∷ ds) = IsSpan d.kind d.low d.high × AreSpans ds

abbrev pub IsBased : Subtype → Type 0
IsBased (subtype.Scalar s) = IsRange s.kind (kept s.kind s.low) (kept s.kind s.high)
IsBased (subtype.Composite n) = Unit {0}

-- a value of an object of a subtype, where it is static
abbrev pub HasBased : Subtype → Option ℤ → Type 0
HasBased t v = (k : Kind) (z : ℤ) → kind_in (place_scalar t) ≡ Some k → v ≡ Some z → in_base k z ≡ true

abbrev pub IsBasedWhat : What → Type 0
IsBasedWhat (what.Type t) = IsBased t
IsBasedWhat (what.Object n t v z) = HasBased t z
IsBasedWhat w = Unit {0}

abbrev pub AreBased : List Entry → Type 0
AreBased [] = Unit {0}
AreBased (e ∷ es) = IsBasedWhat e.what × AreBased es

abbrev pub ArraysBased : List Shape → Type 0
ArraysBased shapes = (n : ℕ) (ds : List Dimension) (c : Subtype) (k cells : ℕ) → slice_get shapes n ≡ Some (shape.Array ds c k cells) → AreSpans ds

-- what is declared around a place, and what the table of subtypes has there
pub record IsBasedAt (here : Context) (log : Log) : Type 0 where
  pub scope : AreBased here.scope
  pub arrays : ArraysBased log.shapes

-- Where what is declared around it is so, whatever an expression is found to be has, where it is static and has a type, a
-- value in the base range of that. So in its place it leaves that value alone, in the base range of the type there (4.9).
pub record BasedLaw : Type 0 where
  pub found : (names : Names) (n : ℕ) (here : Context) (want : Wanted) (e : Expr) (log : Log) (f : Found) → IsBasedAt here log
      → (expr names (inside names n) here want e log).0 ≡ Some f → InBase f.known
  pub kept : (names : Names) (n : ℕ) (here : Context) (want : Wanted) (e : Expr) (log mid : Log) (f : Found) (k : Kind) (z : ℤ) (x : TypedPart) → IsBasedAt here log
      → (expr names (inside names n) here want e log).0 ≡ Some f → value_of f.known ≡ Some z → (asked k f mid).0 ≡ Some x → IsKept k x z
