-- How the first static part of a universal expression that is no number of so many binary digits is found, along the
-- operands that chains are long in.
use Rattle.std.specs.Prelude.{◌≡◌, ℕ, nat_lt, if◌then◌else◌, Option, Some, None}
use Rattle.ada_base.specs.Operation.{digits, modulus}
use Rattle.ada_base.specs.declared.operation.Op.TheVariants as op
use Rattle.typed_tree.specs.Classes.{beyond_digits, beyond_left, sooner}
use Rattle.typed_tree.specs.Decoded.{TypedPart, as_expr}
use Rattle.typed_tree.specs.Syntax.{Expr, Static, Binary, If, Reduction}

-- in an expression without operands
abbrev pub beyond_here : ℕ → Expr → Option ℕ
beyond_here k (Static first z alone ms) = if nat_lt (digits z) (modulus k) then None else Some first
beyond_here k e = None

-- in what stands before that which a chain goes on with, and in what stands behind it
abbrev pub beyond_before : ℕ → Expr → Option ℕ
beyond_before k (If x v o) = beyond_digits k v
beyond_before k e = None

abbrev pub beyond_behind : ℕ → Expr → Option ℕ
beyond_behind k (Binary at op.Pow d l r) = None
beyond_behind k (Binary at o d l r) = beyond_digits k r
beyond_behind k (Reduction at a by initial site chunk iteration v) = beyond_digits k initial
beyond_behind k e = None

-- in an expression, by what is found in that which its chain goes on with
abbrev pub beyond_joined : ℕ → Expr → Option ℕ → Option ℕ
beyond_joined k (Binary at o d _ r) x = beyond_left o x (beyond_digits k r)
beyond_joined k (If c v _) x = sooner (beyond_digits k v) x
beyond_joined k (Reduction at a by initial site chunk iteration _) x = sooner x (beyond_digits k initial)
beyond_joined k e x = x

-- a chain ends at a number, or goes on at another one
abbrev pub Ends : (ℕ → TypedPart) → ℕ → Type 0
Ends at k = (size : ℕ) → beyond_digits size (as_expr (at k)) ≡ beyond_here size (as_expr (at k))

abbrev pub GoesOn : (ℕ → TypedPart) → ℕ → ℕ → Type 0
GoesOn at k next =
    (size : ℕ) → beyond_digits size (as_expr (at k)) ≡ beyond_joined size (as_expr (at k)) (beyond_digits size (as_expr (at next)))
