-- What holds of each line of the log holds of what Values judges.
use Rattle.name_rules.specs.Found.{Found}
use Rattle.name_rules.specs.Types.{check_at, class_of, in_base, is_integer, same, kept}
use Rattle.name_rules.specs.declared.found.Found.TheVariants as known
use Rattle.name_rules.specs.declared.found.Found.{Found as Known}
use Rattle.name_rules.specs.declared.found.Limits.{Limits}
use Rattle.name_rules.specs.declared.found.ObjectName.{ObjectName}
use Rattle.name_rules.specs.declared.log.Rule.TheVariants.{NotStatic, StaticRange, WrongType}
use Rattle.name_rules.specs.declared.types.Kind.{Kind}
use Rattle.name_rules.specs.declared.types.Subtype.TheVariants as subtype
use Rattle.name_rules.specs.declared.types.Subtype.{Subtype}
use Rattle.typed_tree.specs.Decoded as part
use Rattle.typed_tree.specs.Syntax as typed
use Rattle.typed_tree.specs.Syntax.{Composite, Selections, Expr as TypedExpr}
use Rattle.typed_tree.specs.Classes.{with_class}
use Rattle.std.specs.Prelude.{Bool, None, Option, Some, false, ℕ, ℤ, ◌==◌, ◌&&◌, not}
use Rattle.name_rules.specs.TypedParts.{selections_of}
use Rattle.typed_tree.specs.Decoded.{TypedPart, as_expr}
use Rattle.name_rules.specs.Judging.{fault, given, pure, some, unless}
use Rattle.name_rules.specs.Values.{first_of, value_of, is_number, is_scalar, literal, valued, fitting, beyond, settled_by, settled, object_value, place_asked, asked_form, asked, own_kind, settled_found, any_integer, any_scalar, static_value, static_of_kind, static_integer, whole_object, whole_of, composite_form, composite_asked, stored, is_word_kind, kind_of, object_expr}
use Rattle.name_laws.proofs.Walk.{Walk, Keeps, k-pure, k-some, k-bind, k-fault, k-unless, k-if, k-given}
use Rattle.name_rules.specs.declared.types.Scalar.{Scalar}

pub k-valued : (walk : Walk) (x0 : Kind) (x1 : ℕ) (x2 : ℤ) (x3 : Bool) (x4 : TypedPart) → Keeps walk (valued x0 x1 x2 x3 x4)
unfolding valued
k-valued walk k first z alone ms = k-if walk (in_base k z) (some (literal first (kept k z) alone ms)) (fault first StaticRange) (k-some walk (literal first (kept k z) alone ms)) (k-fault walk first StaticRange)

pub k-fitting : (walk : Walk) (x0 : Kind) (x1 : ℕ) (x2 : ℤ) → Keeps walk (fitting x0 x1 x2)
unfolding fitting
k-fitting walk k first z = k-bind walk (unless (in_base k z) first StaticRange) (λ u. pure (in_base k z)) (k-unless walk (in_base k z) first StaticRange) (λ u. k-pure walk (in_base k z))

pub k-settled_by : (walk : Walk) (x0 : Kind) (x1 : TypedExpr) (x2 : Option ℕ) → Keeps walk (settled_by x0 x1 x2)
k-settled_by walk k e None = k-some walk (part.AnExpr (with_class (class_of k) e))
k-settled_by walk k e (Some at) = k-fault walk at StaticRange

pub k-settled : (walk : Walk) (x0 : Kind) (x1 : Limits) (x2 : TypedExpr) → Keeps walk (settled x0 x1 x2)
unfolding settled
k-settled walk k l e = k-settled_by walk k e (beyond k l e)

pub k-object_value : (walk : Walk) (x0 : Kind) (x1 : ObjectName) (x2 : Selections) (x3 : Scalar) (x4 : Option ℤ) → Keeps walk (object_value x0 x1 x2 x3 x4)
k-object_value walk k p ss s (Some z) = k-valued walk k p.first z false part.Nothing
k-object_value walk k p ss s None = k-some walk (part.AnExpr (object_expr p ss s p.variable))

pub k-place_asked : (walk : Walk) (x0 : Kind) (x1 : ObjectName) (x2 : Selections) (x3 : Subtype) → Keeps walk (place_asked x0 x1 x2 x3)
k-place_asked walk k p ss (subtype.Scalar s) = k-if walk (same s.kind k) (object_value k p ss s p.value) (fault p.first WrongType) (k-object_value walk k p ss s p.value) (k-fault walk p.first WrongType)
k-place_asked walk k p ss (subtype.Composite n) = k-fault walk p.first WrongType

pub k-asked_form : (walk : Walk) (x0 : Kind) (x1 : Known) (x2 : TypedPart) → Keeps walk (asked_form x0 x1 x2)
k-asked_form walk k (known.Universal first z alone) x = k-if walk (is_integer k) (valued k first z alone x) (fault first WrongType) (k-valued walk k first z alone x) (k-fault walk first WrongType)
k-asked_form walk k (known.Open first l) x = k-if walk (is_integer k) (settled k l (as_expr x)) (fault first WrongType) (k-settled walk k l (as_expr x)) (k-fault walk first WrongType)
k-asked_form walk k (known.Static first j z) x = k-if walk (same j k) (valued k first z false x) (fault first WrongType) (k-valued walk k first z false x) (k-fault walk first WrongType)
k-asked_form walk k (known.Object p) x = k-place_asked walk k p (selections_of x) p.subtype
k-asked_form walk k (known.Scalar first j n) x = k-if walk (same j k) (some x) (fault first WrongType) (k-some walk x) (k-fault walk first WrongType)
k-asked_form walk k f x = k-fault walk (first_of f) WrongType

pub k-asked : (walk : Walk) (x0 : Kind) (x1 : Found) → Keeps walk (asked x0 x1)
unfolding asked
k-asked walk k f = k-asked_form walk k f.known f.part

pub k-settled_found : (walk : Walk) (x0 : Found) → Keeps walk (settled_found x0)
unfolding settled_found
k-settled_found walk f = k-asked walk (own_kind f.known) f

pub k-any_integer : (walk : Walk) (x0 : Found) → Keeps walk (any_integer x0)
unfolding any_integer
k-any_integer walk f = k-if walk (is_number f.known && not (is_word_kind (kind_of f.known))) (settled_found f) (fault (first_of f.known) WrongType) (k-settled_found walk f) (k-fault walk (first_of f.known) WrongType)

pub k-any_scalar : (walk : Walk) (x0 : Found) → Keeps walk (any_scalar x0)
unfolding any_scalar
k-any_scalar walk f = k-if walk (is_scalar f.known) (settled_found f) (fault (first_of f.known) WrongType) (k-settled_found walk f) (k-fault walk (first_of f.known) WrongType)

pub k-static_value : (walk : Walk) (x0 : ℕ) (x1 : Option ℤ) → Keeps walk (static_value x0 x1)
k-static_value walk first None = k-fault walk first NotStatic
k-static_value walk first (Some z) = k-some walk z

pub k-static_of_kind : (walk : Walk) (x0 : Kind) (x1 : Found) → Keeps walk (static_of_kind x0 x1)
unfolding static_of_kind
k-static_of_kind walk k f = k-bind walk (asked k f) (λ e. given e (λ x. static_value (first_of f.known) (value_of f.known))) (k-asked walk k f) (λ e. k-given walk e (λ x. static_value (first_of f.known) (value_of f.known)) (λ x. k-static_value walk (first_of f.known) (value_of f.known)))

pub k-static_integer : (walk : Walk) (x0 : Known) → Keeps walk (static_integer x0)
unfolding static_integer
k-static_integer walk f = k-if walk (is_number f) (static_value (first_of f) (value_of f)) (fault (first_of f) WrongType) (k-static_value walk (first_of f) (value_of f)) (k-fault walk (first_of f) WrongType)

pub k-whole_of : (walk : Walk) (x0 : ℕ) (x1 : ObjectName) (x2 : Selections) (x3 : Subtype) → Keeps walk (whole_of x0 x1 x2 x3)
k-whole_of walk n p ss (subtype.Scalar s) = k-fault walk p.first WrongType
k-whole_of walk n p ss (subtype.Composite m) = k-if walk (n == m) (some (part.AComposite (whole_object p ss m p.variable))) (fault p.first WrongType) (k-some walk (part.AComposite (whole_object p ss m p.variable))) (k-fault walk p.first WrongType)

pub k-composite_form : (walk : Walk) (x0 : ℕ) (x1 : Known) (x2 : TypedPart) → Keeps walk (composite_form x0 x1 x2)
k-composite_form walk n (known.Composite first m) x = k-if walk (n == m) (some x) (fault first WrongType) (k-some walk x) (k-fault walk first WrongType)
k-composite_form walk n (known.Object p) x = k-whole_of walk n p (selections_of x) p.subtype
k-composite_form walk n f x = k-fault walk (first_of f) WrongType

pub k-composite_asked : (walk : Walk) (x0 : ℕ) (x1 : Found) → Keeps walk (composite_asked x0 x1)
unfolding composite_asked
k-composite_asked walk n f = k-composite_form walk n f.known f.part

pub k-stored : (walk : Walk) (x0 : Subtype) (x1 : ℕ) (x2 : Found) → Keeps walk (stored x0 x1 x2)
unfolding stored
k-stored walk (subtype.Scalar s) at f = k-bind walk (asked s.kind f) (λ e. given e (λ x. some (part.AValue (typed.Number (check_at at s) (as_expr x))))) (k-asked walk s.kind f) (λ e. k-given walk e (λ x. some (part.AValue (typed.Number (check_at at s) (as_expr x)))) (λ x. k-some walk (part.AValue (typed.Number (check_at at s) (as_expr x)))))
k-stored walk (subtype.Composite n) at f = k-bind walk (composite_asked n f) (λ c. given c (λ x. some (part.AValue (typed.Cells (part.as_composite x))))) (k-composite_asked walk n f) (λ c. k-given walk c (λ x. some (part.AValue (typed.Cells (part.as_composite x)))) (λ x. k-some walk (part.AValue (typed.Cells (part.as_composite x)))))
