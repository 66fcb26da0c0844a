-- What an expression was found to be, static values (4.9), and how an expression takes the type of its place.
use Rattle.ada_base.specs.Operation.{unbounded}
use Rattle.ada_base.specs.declared.operation.Op.{Op}
use Rattle.name_rules.specs.Found.{Found}
use Rattle.name_rules.specs.Judging.{Judging, fault, given, pure, some, unless, ◌>>=◌}
use Rattle.name_rules.specs.Types.{check_at, class_of, in_base, is_integer, is_modular, is_word, kept, same, typed_scalar}
use Rattle.name_rules.specs.declared.found.Found.TheVariants as known
use Rattle.name_rules.specs.declared.found.Found.{Found as Known}
use Rattle.name_rules.specs.declared.found.Limits.{Limits}
use Rattle.name_rules.specs.declared.found.ObjectName.{ObjectName}
use Rattle.name_rules.specs.declared.log.Rule.TheVariants.{NotStatic, StaticRange, WrongType}
use Rattle.name_rules.specs.declared.types.Kind.TheVariants as kind
use Rattle.name_rules.specs.declared.types.Kind.{Kind}
use Rattle.name_rules.specs.declared.types.Scalar.{Scalar}
use Rattle.name_rules.specs.declared.types.Subtype.TheVariants as subtype
use Rattle.name_rules.specs.declared.types.Subtype.{Subtype}
use Rattle.typed_tree.specs.Decoded as part
use Rattle.typed_tree.specs.Syntax as typed
use Rattle.typed_tree.specs.Syntax.{Composite, Selections, Expr as TypedExpr}
use Rattle.typed_tree.specs.Classes.{beyond_digits, with_class}
pub use Rattle.typed_tree.specs.Classes.{sooner}
use Rattle.std.specs.Prelude.{Bool, None, Option, Some, false, if◌then◌else◌, int_le, is_some, nat_lt, negsuc, not, option_map, pos, true, ℕ, ℤ, ◌&&◌, ◌==◌, ◌||◌}
use Rattle.name_rules.specs.TypedParts.{exprs_of, selections_of}
use Rattle.typed_tree.specs.Decoded.{TypedPart, as_expr}

-- ---- what is known of an expression

abbrev pub first_of : Known → ℕ
first_of (known.Universal first z alone) = first
first_of (known.Open first l) = first
first_of (known.Static first k z) = first
first_of (known.Object p) = p.first
first_of (known.Scalar first k n) = first
first_of (known.Composite first n) = first
first_of (known.Rest first) = first
first_of (known.Text first) = first

-- a literal or named number is universal, and an expression of universal parts alone is
abbrev pub is_universal : Known → Bool
is_universal (known.Universal first z alone) = true
is_universal (known.Open first l) = true
is_universal _ = false

abbrev pub place_scalar : Subtype → Option Scalar
place_scalar (subtype.Scalar s) = Some s
place_scalar (subtype.Composite n) = None

abbrev pub kind_in : Option Scalar → Option Kind
kind_in s = option_map (λ t. t.kind) s

-- its scalar type, where it has one
abbrev pub kind_of : Known → Option Kind
kind_of (known.Static first k z) = Some k
kind_of (known.Object p) = kind_in (place_scalar p.subtype)
kind_of (known.Scalar first k n) = Some k
kind_of _ = None

-- its static value, where it has one
abbrev pub value_of : Known → Option ℤ
value_of (known.Universal first z alone) = Some z
value_of (known.Static first k z) = Some z
value_of (known.Object p) = p.value
value_of _ = None

-- what a static one mentions: the constant's name has no index
abbrev pub mentions_in : Known → TypedPart → TypedPart
mentions_in (known.Object p) x = part.Nothing
mentions_in f x = x

abbrev pub mentions_of : Found → TypedPart
mentions_of f = mentions_in f.known f.part

-- the nominal subtype of a name (3.5), which brackets hide
abbrev pub nominal_of : Known → Option Scalar
nominal_of (known.Object p) = place_scalar p.subtype
nominal_of (known.Scalar first k n) = n
nominal_of _ = None

abbrev pub is_integer_kind : Option Kind → Bool
is_integer_kind None = false
is_integer_kind (Some k) = is_integer k

abbrev pub is_kind : Kind → Option Kind → Bool
is_kind k None = false
is_kind k (Some j) = same j k

abbrev pub is_number : Known → Bool
is_number f = is_universal f || is_integer_kind (kind_of f)

abbrev pub is_scalar : Known → Bool
is_scalar f = is_universal f || is_some (kind_of f)

-- an expression of this type, or a universal one that can take it
abbrev pub suits : Kind → Known → Bool
suits k f = (is_universal f && is_integer k) || is_kind k (kind_of f)

-- ---- static values: computed exactly in 128 bits

abbrev pub in_universal : ℤ → Bool
in_universal z = int_le (negsuc 170141183460469231731687303715884105727) z && int_le z (pos 170141183460469231731687303715884105727)

abbrev pub bounded : Option ℤ → Option ℤ
bounded None = None
bounded (Some z) = if in_universal z then Some z else None

unfoldable pub exact : Op → ℤ → ℤ → Option ℤ
exact o u v = bounded (unbounded o u v)

abbrev pub literal : ℕ → ℤ → Bool → TypedPart → TypedPart
literal at z alone ms = part.AnExpr (typed.Static at z alone (exprs_of ms))

-- E07 StaticRange: a static expression without a value in its range
unfoldable pub valued : Kind → ℕ → ℤ → Bool → TypedPart → Judging (Option TypedPart)
valued k first z alone ms = if in_base k z then some (literal first (kept k z) alone ms) else fault first StaticRange

-- the same where the value alone is used
unfoldable pub fitting : Kind → ℕ → ℤ → Judging Bool
fitting k first z = unless (in_base k z) first StaticRange >>= λ u. pure (in_base k z)

-- ---- a universal expression takes a type

-- the first static part that isn't in the type's base range
abbrev pub beyond_range : Kind → Limits → Option ℕ
beyond_range (kind.Own n) l = l.wide
beyond_range _ l = l.narrow

abbrev pub beyond : Kind → Limits → TypedExpr → Option ℕ
beyond (kind.Modular n k) l e = if nat_lt k 64 then beyond_digits k e else l.word
beyond k l e = beyond_range k l

abbrev pub no_limits : Limits
no_limits = record { narrow = None; wide = None; word = None }

abbrev pub joint : Limits → Limits → Limits
joint l m = record { narrow = sooner l.narrow m.narrow; wide = sooner l.wide m.wide; word = sooner l.word m.word }

abbrev pub settled_by : Kind → TypedExpr → Option ℕ → Judging (Option TypedPart)
settled_by k e None = some (part.AnExpr (with_class (class_of k) e))
settled_by k e (Some at) = fault at StaticRange

unfoldable pub settled : Kind → Limits → TypedExpr → Judging (Option TypedPart)
settled k l e = settled_by k e (beyond k l e)

-- ---- an expression whose place asks for a type

abbrev pub object_expr : ObjectName → Selections → Scalar → Bool → TypedExpr
object_expr p ss s true = typed.Variable p.first p.root ss (typed_scalar s)
object_expr p ss s false = typed.Constant p.first p.root ss (typed_scalar s)

abbrev pub object_value : Kind → ObjectName → Selections → Scalar → Option ℤ → Judging (Option TypedPart)
object_value k p ss s (Some z) = valued k p.first z false part.Nothing
object_value k p ss s None = some (part.AnExpr (object_expr p ss s p.variable))

abbrev pub place_asked : Kind → ObjectName → Selections → Subtype → Judging (Option TypedPart)
place_asked k p ss (subtype.Scalar s) = if same s.kind k then object_value k p ss s p.value else fault p.first WrongType
place_asked k p ss (subtype.Composite n) = fault p.first WrongType

abbrev pub asked_form : Kind → Known → TypedPart → Judging (Option TypedPart)
asked_form k (known.Universal first z alone) x = if is_integer k then valued k first z alone x else fault first WrongType
asked_form k (known.Open first l) x = if is_integer k then settled k l (as_expr x) else fault first WrongType
asked_form k (known.Static first j z) x = if same j k then valued k first z false x else fault first WrongType
asked_form k (known.Object p) x = place_asked k p (selections_of x) p.subtype
asked_form k (known.Scalar first j n) x = if same j k then some x else fault first WrongType
asked_form k f x = fault (first_of f) WrongType

-- E06: a condition, index, argument, bound or assigned value has another type than asked
unfoldable pub asked : Kind → Found → Judging (Option TypedPart)
asked k f = asked_form k f.known f.part

abbrev pub kind_or_integer : Option Kind → Kind
kind_or_integer None = kind.Integer
kind_or_integer (Some k) = k

-- a universal expression where no type is asked is Integer; another has its own type
abbrev pub own_kind : Known → Kind
own_kind f = kind_or_integer (kind_of f)

unfoldable pub settled_found : Found → Judging (Option TypedPart)
settled_found f = asked (own_kind f.known) f

-- ---- an expression whose place asks for an integer (any, or Integer where it is universal)

abbrev pub is_modular_kind : Option Kind → Bool
is_modular_kind None = false
is_modular_kind (Some k) = is_modular k

abbrev pub is_word_kind : Option Kind → Bool
is_word_kind None = false
is_word_kind (Some k) = is_word k

-- E06, where it is no integer, or of a modular type with 64 binary digits
unfoldable pub any_integer : Found → Judging (Option TypedPart)
any_integer f = if is_number f.known && not (is_word_kind (kind_of f.known)) then settled_found f else fault (first_of f.known) WrongType

unfoldable pub any_scalar : Found → Judging (Option TypedPart)
any_scalar f = if is_scalar f.known then settled_found f else fault (first_of f.known) WrongType

-- ---- static expressions where one is asked: their values, with what they mention

-- E07 NotStatic
abbrev pub static_value : ℕ → Option ℤ → Judging (Option ℤ)
static_value first None = fault first NotStatic
static_value first (Some z) = some z

-- of a type: the value, once the expression has that type
unfoldable pub static_of_kind : Kind → Found → Judging (Option ℤ)
static_of_kind k f = asked k f >>= λ e. given e (λ x. static_value (first_of f.known) (value_of f.known))

-- of any integer type, or universal
unfoldable pub static_integer : Known → Judging (Option ℤ)
static_integer f = if is_number f then static_value (first_of f) (value_of f) else fault (first_of f) WrongType

-- ---- a value that is stored in a place of a subtype

abbrev pub whole_object : ObjectName → Selections → ℕ → Bool → Composite
whole_object p ss n true = typed.WholeVariable p.first p.root ss n
whole_object p ss n false = typed.WholeConstant p.first p.root ss n

abbrev pub whole_of : ℕ → ObjectName → Selections → Subtype → Judging (Option TypedPart)
whole_of n p ss (subtype.Scalar s) = fault p.first WrongType
whole_of n p ss (subtype.Composite m) = if n == m then some (part.AComposite (whole_object p ss m p.variable)) else fault p.first WrongType

abbrev pub composite_form : ℕ → Known → TypedPart → Judging (Option TypedPart)
composite_form n (known.Composite first m) x = if n == m then some x else fault first WrongType
composite_form n (known.Object p) x = whole_of n p (selections_of x) p.subtype
composite_form n f x = fault (first_of f) WrongType

-- two array or record types are the same only if they come from one declaration
unfoldable pub composite_asked : ℕ → Found → Judging (Option TypedPart)
composite_asked n f = composite_form n f.known f.part

unfoldable pub stored : Subtype → ℕ → Found → Judging (Option TypedPart)
stored (subtype.Scalar s) at f = asked s.kind f >>= λ e. given e (λ x. some (part.AValue (typed.Number (check_at at s) (as_expr x))))
stored (subtype.Composite n) at f = composite_asked n f >>= λ c. given c (λ x. some (part.AValue (typed.Cells (part.as_composite x))))
