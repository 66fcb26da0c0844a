-- The rules of operators (4.5). A wrong operand is blamed at the operator.
use Rattle.ada_base.specs.Operation.{is_in_base, turned}
use Rattle.ada_base.specs.declared.operation.Base.TheVariants.{Narrow, Wide}
use Rattle.ada_base.specs.declared.operation.Op.TheVariants as op
use Rattle.ada_base.specs.declared.operation.Op.{Op}
use Rattle.name_rules.specs.Found.{Found, opened, scalar, static, text_found, universal}
use Rattle.name_rules.specs.Judging.{Judging, both, fault, given, joined, pure, some, ◌>>=◌}
use Rattle.name_rules.specs.Types.{class_of, in_base, is_modular, same}
use Rattle.name_rules.specs.Values.{asked, bounded, exact, first_of, fitting, is_kind, is_number, is_scalar, joint, kind_of, mentions_of, suits, value_of}
use Rattle.name_rules.specs.declared.found.Found.TheVariants as known
use Rattle.name_rules.specs.declared.found.Found.{Found as Known}
use Rattle.name_rules.specs.declared.found.Limits.{Limits}
use Rattle.name_rules.specs.declared.log.Rule.TheVariants.{StaticRange, WrongType}
use Rattle.name_rules.specs.declared.types.Kind.TheVariants as kind
use Rattle.name_rules.specs.declared.types.Kind.{Kind}
use Rattle.name_rules.specs.declared.types.Scalar.{Scalar}
use Rattle.typed_tree.specs.Decoded as part
use Rattle.typed_tree.specs.Syntax as typed
use Rattle.typed_tree.specs.Syntax.{Expr as TypedExpr}
use Rattle.typed_tree.specs.declared.expressions.Sign.TheVariants as unary'
use Rattle.typed_tree.specs.declared.expressions.Sign.{Sign as Unary}
use Rattle.typed_tree.specs.declared.scalars.Class.TheVariants as class
use Rattle.ada_base.specs.declared.operation.Comparison.{Comparison}
use Rattle.std.specs.Prelude.{Bool, None, Option, Some, false, if◌then◌else◌, int_le, neg_ℤ, negsuc, not, option_map, pos, true, unsigned_abs, ℕ, ℤ, ◌&&◌}
use Rattle.name_rules.specs.TypedParts.{also_all, exprs_of}
use Rattle.typed_tree.specs.Decoded.{TypedPart, as_expr}

-- ---- static results: E07 StaticRange where there is none in the base range, or in 128 bits

unfoldable pub static_of : ℕ → Kind → TypedPart → Option ℤ → Judging (Option Found)
static_of first k ms None = fault first StaticRange
static_of first k ms (Some z) = if in_base k z then some (static first k z ms) else fault first StaticRange

unfoldable pub static_universal : ℕ → TypedPart → Option ℤ → Judging (Option Found)
static_universal first ms None = fault first StaticRange
static_universal first ms (Some z) = some (universal first z false ms)

-- what two static operands mention
abbrev pub both_mentions : Found → Found → TypedPart
both_mentions a b = also_all (mentions_of a) (mentions_of b)

-- ---- binary operators on values of a type (4.5.3, 4.5.5)

-- two static operands give a static value
unfoldable pub static_operation : Op → Kind → Kind → Found → ℤ → Found → ℤ → Judging (Option Found)
static_operation o k j a u b v = do
  x ← fitting k (first_of a.known) u
  y ← fitting j (first_of b.known) v
  if x && y then static_of (first_of a.known) k (both_mentions a b) (exact o u v) else pure None

unfoldable pub operation_on : Op → ℕ → Kind → Kind → Found → Found → Judging (Option Found)
operation_on o at k j a b = do
  x ← asked k a
  y ← asked j b
  both x y (λ m n. some (scalar (first_of a.known) k None (typed.Binary at o (class_of k) (as_expr m) (as_expr n))))

abbrev pub operation_by : Op → ℕ → Kind → Kind → Found → Found → Option ℤ → Option ℤ → Judging (Option Found)
operation_by o at k j a b (Some u) (Some v) = static_operation o k j a u b v
operation_by o at k j a b _ _ = operation_on o at k j a b

-- the right operand has a type of its own in a power alone
unfoldable pub typed_operation : Op → ℕ → Kind → Kind → Found → Found → Judging (Option Found)
typed_operation o at k j a b = operation_by o at k j a b (value_of a.known) (value_of b.known)

-- ---- on universal values

abbrev pub is_digits : ℤ → Bool
is_digits z = int_le (pos 0) z && int_le z (pos 18446744073709551615)

-- a number of 64 binary digits is kept as in a cell of a modular type
abbrev pub leaf_kept : ℤ → ℤ
leaf_kept z = if is_in_base Wide z then z else if is_digits z then turned z else negsuc 0

-- a static part of a universal expression: one that no type has is a fault wherever it takes a type
abbrev pub leaf : ℕ → ℤ → TypedPart → TypedExpr
leaf first z ms = typed.Static first (leaf_kept z) false (exprs_of ms)

abbrev pub leaf_limits : ℕ → ℤ → Limits
leaf_limits first z = record { narrow = if is_in_base Narrow z then None else Some first; wide = if is_in_base Wide z then None else Some first; word = if is_digits z then None else Some first }

abbrev pub open_form : Known → TypedPart → Option (Limits × TypedPart)
open_form (known.Universal first z alone) x = Some (leaf_limits first z, part.AnExpr (leaf first z x))
open_form (known.Open first l) x = Some (l, x)
open_form _ x = None

unfoldable pub open_of : Found → Option (Limits × TypedPart)
open_of f = open_form f.known f.part

abbrev pub open_two : Op → ℕ → ℕ → Limits × TypedPart → Limits × TypedPart → Found
open_two o at first x y = opened first (joint x.0 y.0) (typed.Binary at o class.Universal (as_expr x.1) (as_expr y.1))

unfoldable pub open_binary : Op → ℕ → Found → Found → Option Found
open_binary o at a b = joined (open_two o at (first_of a.known)) (open_of a) (open_of b)

abbrev pub universal_by : Op → ℕ → Found → Found → Option ℤ → Option ℤ → Judging (Option Found)
universal_by o at a b (Some u) (Some v) = static_universal (first_of a.known) (both_mentions a b) (exact o u v)
universal_by o at a b _ _ = pure (open_binary o at a b)

unfoldable pub universal_operation : Op → ℕ → Found → Found → Judging (Option Found)
universal_operation o at a b = universal_by o at a b (value_of a.known) (value_of b.known)

-- one universal operand takes the type of the other
abbrev pub by_kinds : Op → ℕ → Found → Found → Option Kind → Option Kind → Judging (Option Found)
by_kinds o at a b None None = universal_operation o at a b
by_kinds o at a b None (Some k) = typed_operation o at k k a b
by_kinds o at a b (Some k) None = typed_operation o at k k a b
by_kinds o at a b (Some j) (Some k) = if same j k then typed_operation o at k k a b else fault at WrongType

-- E06: an operand has another type, at the operator; a string is blamed at its first token
abbrev pub operand_blamed : Known → ℕ → ℕ
operand_blamed (known.Text first) at = first
operand_blamed _ at = at

unfoldable pub operation : Op → ℕ → Found → Found → Judging (Option Found)
operation o at a b = if is_number a.known && is_number b.known then by_kinds o at a b (kind_of a.known) (kind_of b.known) else fault (operand_blamed a.known at) WrongType

unfoldable pub binary : Op → ℕ → Option Found → Option Found → Judging (Option Found)
binary o at x y = both x y (operation o at)

-- ---- powers (4.5.6): the exponent is an Integer

abbrev pub open_power : ℕ → ℕ → TypedPart → Limits × TypedPart → Found
open_power at first n x = opened first x.0 (typed.Binary at op.Pow class.Universal (as_expr x.1) (as_expr n))

unfoldable pub universal_power : ℕ → Found → Found → Judging (Option Found)
universal_power at a b = do
  y ← asked kind.Integer b
  given y (λ n. pure (option_map (open_power at (first_of a.known) n) (open_of a)))

unfoldable pub static_power : Found → ℤ → Found → ℤ → Judging (Option Found)
static_power a u b v = do
  y ← fitting kind.Integer (first_of b.known) v
  if y then static_universal (first_of a.known) (both_mentions a b) (exact op.Pow u v) else pure None

abbrev pub universal_to : ℕ → Found → Found → Option ℤ → Option ℤ → Judging (Option Found)
universal_to at a b (Some u) (Some v) = static_power a u b v
universal_to at a b _ _ = universal_power at a b

abbrev pub power_to : ℕ → Found → Found → Option Kind → Judging (Option Found)
power_to at a b (Some k) = typed_operation op.Pow at k kind.Integer a b
power_to at a b None = universal_to at a b (value_of a.known) (value_of b.known)

unfoldable pub power : ℕ → Option Found → Option Found → Judging (Option Found)
power at x y = both x y (λ a b. if is_number a.known && suits kind.Integer b.known then power_to at a b (kind_of a.known) else fault at WrongType)

-- ---- unary operators (4.5.4, 4.5.6)

unfoldable pub signed : Unary → ℤ → Option ℤ
signed unary'.Minus z = bounded (Some (neg_ℤ z))
signed unary'.Abs z = bounded (Some (pos (unsigned_abs z)))
signed unary'.Not z = None

abbrev pub static_unary : Unary → ℕ → Kind → Found → ℤ → Judging (Option Found)
static_unary s at k a z = fitting k (first_of a.known) z >>= λ x. if x then static_of at k a.part (signed s z) else pure None

abbrev pub unary_typed : Unary → ℕ → Kind → Found → Option ℤ → Judging (Option Found)
unary_typed s at k a (Some z) = static_unary s at k a z
unary_typed s at k a None = asked k a >>= λ x. given x (λ n. some (scalar at k None (typed.Unary at s (class_of k) (as_expr n))))

abbrev pub open_unary : Unary → ℕ → Limits × TypedPart → Found
open_unary s at x = opened at x.0 (typed.Unary at s class.Universal (as_expr x.1))

abbrev pub unary_open : Unary → ℕ → Found → Option ℤ → Judging (Option Found)
unary_open s at a (Some z) = static_universal at a.part (signed s z)
unary_open s at a None = pure (option_map (open_unary s at) (open_of a))

abbrev pub unary_by : Unary → ℕ → Found → Option Kind → Judging (Option Found)
unary_by s at a (Some k) = unary_typed s at k a (value_of a.known)
unary_by s at a None = unary_open s at a (value_of a.known)

-- `-` and `abs`
unfoldable pub unary : Unary → ℕ → Option Found → Judging (Option Found)
unary s at x = given x (λ a. if is_number a.known then unary_by s at a (kind_of a.known) else fault at WrongType)

-- `+` leaves the value as it is; what isn't static becomes a group, as in brackets: it is no name
abbrev pub plain_typed : ℕ → Kind → Found → Option ℤ → Judging (Option Found)
plain_typed at k a (Some z) = static_of at k a.part (Some z)
plain_typed at k a None = asked k a >>= λ x. given x (λ n. some (scalar at k None (typed.Group (as_expr n))))

abbrev pub open_plain : ℕ → Limits × TypedPart → Found
open_plain at x = opened at x.0 (typed.Group (as_expr x.1))

abbrev pub plain_open : ℕ → Found → Option ℤ → Judging (Option Found)
plain_open at a (Some z) = some (universal at z false a.part)
plain_open at a None = pure (option_map (open_plain at) (open_of a))

abbrev pub plain_by : ℕ → Found → Option Kind → Judging (Option Found)
plain_by at a (Some k) = plain_typed at k a (value_of a.known)
plain_by at a None = plain_open at a (value_of a.known)

unfoldable pub plain : ℕ → Option Found → Judging (Option Found)
plain at x = given x (λ a. if is_number a.known then plain_by at a (kind_of a.known) else fault at WrongType)

-- `not`, which takes a Boolean
abbrev pub negation : ℕ → Found → Judging (Option Found)
negation at a = asked kind.Boolean a >>= λ x. given x (λ e. some (scalar at kind.Boolean None (typed.Unary at unary'.Not class.Boolean (as_expr e))))

-- or a number of a modular type
abbrev pub complement : ℕ → Found → Kind → Judging (Option Found)
complement at a k = asked k a >>= λ x. given x (λ e. some (scalar at k None (typed.Unary at unary'.Not (class_of k) (as_expr e))))

abbrev pub not_by : ℕ → Found → Option Kind → Judging (Option Found)
not_by at a None = fault at WrongType
not_by at a (Some k) = if same k kind.Boolean then negation at a else if is_modular k then complement at a k else fault at WrongType

unfoldable pub not_of : ℕ → Option Found → Judging (Option Found)
not_of at x = given x (λ a. not_by at a (kind_of a.known))

-- ---- `&` joins strings (4.5.3)

abbrev pub joined_texts : ℕ → Known → TypedPart → Known → TypedPart → Judging (Option Found)
joined_texts at (known.Text first) ps (known.Text second) qs = some (text_found first (also_all ps qs))
joined_texts at _ ps _ qs = fault at WrongType

unfoldable pub joined_text : ℕ → Option Found → Option Found → Judging (Option Found)
joined_text at x y = both x y (λ a b. joined_texts at a.known a.part b.known b.part)

-- ---- relations (4.5.2) take scalars of one type

unfoldable pub compared_at : Kind → Comparison → Found → Found → Judging (Option Found)
compared_at k c a b = do
  x ← asked k a
  y ← asked k b
  both x y (λ e f. some (scalar (first_of a.known) kind.Boolean None (typed.Relation (class_of k) c (as_expr e) (as_expr f))))

-- the type of two: two universal ones are Integer
abbrev pub common_kind : Option Kind → Option Kind → Kind
common_kind (Some k) j = k
common_kind None (Some k) = k
common_kind None None = kind.Integer

abbrev pub compared_by : Comparison → ℕ → Found → Found → Kind → Judging (Option Found)
compared_by c at a b k = if suits k a.known && suits k b.known then compared_at k c a b else fault at WrongType

unfoldable pub compared : Comparison → ℕ → Option Found → Option Found → Judging (Option Found)
compared c at x y = both x y (λ a b. compared_by c at a b (common_kind (kind_of a.known) (kind_of b.known)))

-- ---- logical operators (4.5.1) take Booleans, or numbers of one modular type

abbrev pub is_logical_kind : Kind → Bool
is_logical_kind kind.Boolean = true
is_logical_kind k = is_modular k

abbrev pub logical_by : Op → ℕ → Found → Found → Kind → Judging (Option Found)
logical_by o at a b k = if is_logical_kind k && (suits k a.known && suits k b.known) then operation_on o at k k a b else fault at WrongType

unfoldable pub logical : Op → ℕ → Option Found → Option Found → Judging (Option Found)
logical o at x y = both x y (λ a b. logical_by o at a b (common_kind (kind_of a.known) (kind_of b.known)))

-- ---- membership (4.5.2)

abbrev pub member : ℕ → Bool → Kind → TypedExpr → TypedExpr → TypedExpr → Found
member first negated k e low high = scalar first kind.Boolean None (typed.Membership (class_of k) negated e low high)

abbrev pub within_bounds : ℕ → Bool → Kind → Found → Found → Found → Judging (Option Found)
within_bounds at negated k x low high =
    if not (suits k x.known) then fault at WrongType else
    (asked k x >>= λ e. asked k low >>= λ l. asked k high >>= λ h. given e (λ u. both l h (λ v w. some (member (first_of x.known) negated k (as_expr u) (as_expr v) (as_expr w)))))

abbrev pub first_kind : Option Kind → Option Kind → Option Kind
first_kind (Some k) j = Some k
first_kind None j = j

abbrev pub member_of : ℕ → Bool → Found → Found → Found → Judging (Option Found)
member_of at negated a l h =
    if not (is_scalar a.known) then fault at WrongType else
    if not (is_scalar l.known) then fault (first_of l.known) WrongType else
    if not (is_scalar h.known) then fault (first_of h.known) WrongType else
    within_bounds at negated (common_kind (first_kind (kind_of a.known) (kind_of l.known)) (kind_of h.known)) a l h

-- the type is that of the first of the three that has one; bounds are blamed at their first token
unfoldable pub membership : ℕ → Bool → Option Found → Option Found → Option Found → Judging (Option Found)
membership at negated x low high = given x (λ a. both low high (member_of at negated a))

abbrev pub limit_of : ℕ → ℤ → TypedExpr
limit_of mark z = typed.Static mark z false typed.NoExpr

unfoldable pub of_subtype : ℕ → Bool → ℕ → Option Found → Option Scalar → Judging (Option Found)
of_subtype at negated mark x s = both x s (λ a t.
    if suits t.kind a.known then (asked t.kind a >>= λ e. given e (λ u. some (member (first_of a.known) negated t.kind (as_expr u) (limit_of mark t.low) (limit_of mark t.high))))
    else fault at WrongType)
