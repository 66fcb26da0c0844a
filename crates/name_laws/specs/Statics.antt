-- Static expressions (4.9): operators on static operands are computed exactly, and a static expression that has or takes a
-- type stands in the typed program as its value, which is in the type's base range (4.9(33..38), 4.5(10)).
use Rattle.ada_base.specs.Operation.{unbounded}
use Rattle.ada_base.specs.declared.operation.Op.TheVariants as op
use Rattle.ada_base.specs.declared.operation.Op.{Op}
use Rattle.typed_tree.specs.Decoded as part
use Rattle.typed_tree.specs.Decoded.{TypedPart}
use Rattle.typed_tree.specs.Syntax as typed
use Rattle.typed_tree.specs.Syntax.{Exprs as TypedExprs}
use Rattle.typed_tree.specs.declared.expressions.Sign.TheVariants as sign
use Rattle.typed_tree.specs.declared.expressions.Sign.{Sign}
use Rattle.name_rules.specs.Found.{Found}
use Rattle.name_rules.specs.Operators.{operation, plain, power, unary}
use Rattle.name_rules.specs.Types.{in_base, kept}
use Rattle.name_rules.specs.Values.{asked, kind_of, value_of}
use Rattle.name_rules.specs.declared.found.Found.{Found as Known}
use Rattle.name_rules.specs.declared.log.Log.{Log}
use Rattle.name_rules.specs.declared.types.Kind.{Kind}
use Rattle.std.specs.Prelude.{Bool, None, Option, Some, neg_ℤ, pos, true, unsigned_abs, ℕ, ℤ, ◌≡◌}

-- the static value of what has a type is in the type's base range
abbrev pub InBase : Known → Type 0
InBase f = (k : Kind) (z : ℤ) → kind_of f ≡ Some k → value_of f ≡ Some z → in_base k z ≡ true

-- a value is an operator's, exactly, on two static operands
pub record IsOf (o : Op) (a b : Known) (z : ℤ) : Type 0 where
  pub left : ℤ
  pub right : ℤ
  pub first : value_of a ≡ Some left
  pub second : value_of b ≡ Some right
  pub exact : unbounded o left right ≡ Some z

-- a static result is exact and in its base range
pub record IsExact (o : Op) (a b f : Known) : Type 0 where
  pub ranged : InBase f
  pub exact : (z : ℤ) → value_of f ≡ Some z → IsOf o a b z

-- what `-` and `abs` make of a number
abbrev pub signed_value : Sign → ℤ → Option ℤ
signed_value sign.Minus z = Some (neg_ℤ z)
signed_value sign.Abs z = Some (pos (unsigned_abs z))
signed_value sign.Not z = None

pub record IsSignedOf (s : Sign) (a : Known) (z : ℤ) : Type 0 where
  pub operand : ℤ
  pub value : value_of a ≡ Some operand
  pub exact : signed_value s operand ≡ Some z

-- the same of `-` and `abs`, and of `+`, which leaves the value as it is
pub record IsSigned (s : Sign) (a f : Known) : Type 0 where
  pub ranged : InBase f
  pub exact : (z : ℤ) → value_of f ≡ Some z → IsSignedOf s a z

pub record IsSame (a f : Known) : Type 0 where
  pub ranged : InBase f
  pub exact : (z : ℤ) → value_of f ≡ Some z → value_of a ≡ Some z

-- a part of the typed program is a value alone
pub record IsValue (x : TypedPart) (z : ℤ) : Type 0 where
  pub at : ℕ
  pub alone : Bool
  pub mentions : TypedExprs
  pub same : x ≡ part.AnExpr (typed.Static at z alone mentions)

pub record IsKept (k : Kind) (x : TypedPart) (z : ℤ) : Type 0 where
  pub value : IsValue x (kept k z)
  pub ranged : in_base k z ≡ true

-- Whatever an operator finds for its operands has, where it is static, the exact value of the operation, in its base range.
-- A static expression that takes the type of its place leaves its value alone, as a cell of that type keeps it, in that
-- type's base range; one that had a type before does so where its value lay in that, as it does behind every operator.
pub record StaticLaw : Type 0 where
  pub operators : (o : Op) (at : ℕ) (a b f : Found) (log : Log) → (operation o at a b log).0 ≡ Some f → IsExact o a.known b.known f.known
  pub powers : (at : ℕ) (a b f : Found) (log : Log) → (power at (Some a) (Some b) log).0 ≡ Some f → IsExact op.Pow a.known b.known f.known
  pub signs : (s : Sign) (at : ℕ) (a f : Found) (log : Log) → (unary s at (Some a) log).0 ≡ Some f → IsSigned s a.known f.known
  pub pluses : (at : ℕ) (a f : Found) (log : Log) → (plain at (Some a) log).0 ≡ Some f → IsSame a.known f.known
  pub places : (k : Kind) (f : Found) (x : TypedPart) (z : ℤ) (log : Log) → InBase f.known → value_of f.known ≡ Some z
      → (asked k f log).0 ≡ Some x → IsKept k x z
