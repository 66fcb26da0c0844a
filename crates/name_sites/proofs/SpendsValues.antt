-- Judging that gives out sites: values.
use Rattle.name_rules.specs.Found.{Found}
use Rattle.name_rules.specs.Judging.{fault, some}
use Rattle.name_rules.specs.Types.{check_at, class_of, in_base, is_integer, same, kept}
use Rattle.name_rules.specs.declared.found.Found.TheVariants as known
use Rattle.name_rules.specs.declared.found.Found.{Found as Known}
use Rattle.name_rules.specs.declared.found.Limits.{Limits}
use Rattle.name_rules.specs.declared.found.ObjectName.{ObjectName}
use Rattle.name_rules.specs.declared.log.Rule.TheVariants.{StaticRange, WrongType}
use Rattle.name_rules.specs.declared.types.Kind.{Kind}
use Rattle.name_rules.specs.declared.types.Scalar.{Scalar}
use Rattle.name_rules.specs.declared.types.Subtype.TheVariants as subtype
use Rattle.name_rules.specs.declared.types.Subtype.{Subtype}
use Rattle.typed_tree.specs.Decoded as part
use Rattle.typed_tree.specs.Syntax as typed
use Rattle.typed_tree.specs.Syntax.{Composite, Expr as TypedExpr, Selections}
use Rattle.typed_tree.specs.Classes.{with_class}
use Rattle.std.specs.Prelude.{Bool, None, Option, Some, false, true, ℕ, ℤ, ◌==◌, ◌&&◌, not}
use Rattle.name_rules.specs.TypedParts.{selections_of}
use Rattle.typed_tree.specs.Decoded.{TypedPart, as_expr}
use Rattle.name_rules.specs.Values.{any_integer, any_scalar, asked, asked_form, beyond, composite_asked, composite_form, first_of, is_number, is_scalar, literal, mentions_in, mentions_of, object_expr, object_value, own_kind, place_asked, settled, settled_by, settled_found, stored, valued, whole_object, whole_of, is_word_kind, kind_of}
use Rattle.std.proofs.Common.{arith}
use Rattle.name_sites.proofs.Measures.{counted-by, maybe-part, part-measure, part-size, with-part}
use Rattle.name_sites.proofs.Parts.{n-composite, n-expr, n-exprs_of, n-selections_of, n-with_class}
use Rattle.name_sites.proofs.Spends.{Holds, Spends, s-bind, s-fault, s-given, s-if, s-le, s-some}
use Rattle.name_sites.proofs.Counts.{in_composite, in_expr, in_selections}

pub z-mentions_in : (which : ℕ) (x0 : Known) (x1 : TypedPart) → (part-measure which).Whole x1 → Holds (part-measure which) (part-size which x1) (mentions_in x0 x1)
z-mentions_in which (known.Object p) x h1 = (tt, omega arith)
z-mentions_in which f x h1 = (h1, omega arith)

pub z-mentions_of : (which : ℕ) (x0 : Found) → (with-part which).Whole x0 → Holds (part-measure which) (part-size which x0.part) (mentions_of x0)
z-mentions_of which f h0 =
    let made1 = z-mentions_in which f.known f.part h0 in
    (made1.0, omega (arith, made1.1))

pub z-literal : (which : ℕ) (x0 : ℕ) (x1 : ℤ) (x2 : Bool) (x3 : TypedPart) → (part-measure which).Whole x3 → Holds (part-measure which) (part-size which x3) (literal x0 x1 x2 x3)
z-literal which at z alone ms h3 = (tt, omega (arith, n-exprs_of which ms))

pub s-valued : (which : ℕ) (x0 : Kind) (x1 : ℕ) (x2 : ℤ) (x3 : Bool) (x4 : TypedPart) → (part-measure which).Whole x4 → Spends which (maybe-part which) (part-size which x4) (valued x0 x1 x2 x3 x4)
unfolding valued
s-valued which k first z alone ms h4 =
    s-if which (maybe-part which) _ (in_base k z) (some (literal first (kept k z) alone ms)) (fault first StaticRange)
    (s-some which (part-measure which) _ (literal first (kept k z) alone ms) (let made1 = z-literal which first (kept k z) alone ms h4 in
    (made1.0, omega (arith, made1.1))))
    (s-fault which (part-measure which) _ first StaticRange)

pub s-settled_by : (which : ℕ) (x0 : Kind) (x1 : TypedExpr) (x2 : Option ℕ) → (counted-by (λ x. in_expr which x)).Whole x1 → Spends which (maybe-part which) (in_expr which x1) (settled_by x0 x1 x2)
s-settled_by which k e None h1 = s-some which (part-measure which) _ (part.AnExpr (with_class (class_of k) e)) (tt, omega (arith, n-with_class which (class_of k) e))
s-settled_by which k e (Some at) h1 = s-fault which (part-measure which) _ at StaticRange

pub s-settled : (which : ℕ) (x0 : Kind) (x1 : Limits) (x2 : TypedExpr) → (counted-by (λ x. in_expr which x)).Whole x2 → Spends which (maybe-part which) (in_expr which x2) (settled x0 x1 x2)
unfolding settled
s-settled which k l e h2 = s-le which (maybe-part which) _ _ _ (s-settled_by which k e (beyond k l e) h2) (omega arith)

pub z-object_expr : (which : ℕ) (x0 : ObjectName) (x1 : Selections) (x2 : Scalar) (x3 : Bool) → (counted-by (λ x. in_selections which x)).Whole x1 → Holds (counted-by (λ x. in_expr which x)) (in_selections which x1) (object_expr x0 x1 x2 x3)
z-object_expr which p ss s true h1 = (tt, omega arith)
z-object_expr which p ss s false h1 = (tt, omega arith)

pub s-object_value : (which : ℕ) (x0 : Kind) (x1 : ObjectName) (x2 : Selections) (x3 : Scalar) (x4 : Option ℤ) → (counted-by (λ x. in_selections which x)).Whole x2 → Spends which (maybe-part which) (in_selections which x2) (object_value x0 x1 x2 x3 x4)
s-object_value which k p ss s (Some z) h2 = s-le which (maybe-part which) _ _ _ (s-valued which k p.first z false part.Nothing tt) (omega arith)
s-object_value which k p ss s None h2 =
    s-some which (part-measure which) _ (part.AnExpr (object_expr p ss s p.variable)) (let made1 = z-object_expr which p ss s p.variable h2 in
    (tt, omega (arith, made1.1)))

pub s-place_asked : (which : ℕ) (x0 : Kind) (x1 : ObjectName) (x2 : Selections) (x3 : Subtype) → (counted-by (λ x. in_selections which x)).Whole x2 → Spends which (maybe-part which) (in_selections which x2) (place_asked x0 x1 x2 x3)
s-place_asked which k p ss (subtype.Scalar s) h2 =
    s-if which (maybe-part which) _ (same s.kind k) (object_value k p ss s p.value) (fault p.first WrongType)
    (s-le which (maybe-part which) _ _ _ (s-object_value which k p ss s p.value h2) (omega arith))
    (s-fault which (part-measure which) _ p.first WrongType)
s-place_asked which k p ss (subtype.Composite n) h2 = s-fault which (part-measure which) _ p.first WrongType

pub s-asked_form : (which : ℕ) (x0 : Kind) (x1 : Known) (x2 : TypedPart) → (part-measure which).Whole x2 → Spends which (maybe-part which) (part-size which x2) (asked_form x0 x1 x2)
s-asked_form which k (known.Universal first z alone) x h2 =
    s-if which (maybe-part which) _ (is_integer k) (valued k first z alone x) (fault first WrongType)
    (s-le which (maybe-part which) _ _ _ (s-valued which k first z alone x h2) (omega arith))
    (s-fault which (part-measure which) _ first WrongType)
s-asked_form which k (known.Open first l) x h2 =
    s-if which (maybe-part which) _ (is_integer k) (settled k l (as_expr x)) (fault first WrongType)
    (s-le which (maybe-part which) _ _ _ (s-settled which k l (as_expr x) tt) (omega (arith, n-expr which x)))
    (s-fault which (part-measure which) _ first WrongType)
s-asked_form which k (known.Static first j z) x h2 =
    s-if which (maybe-part which) _ (same j k) (valued k first z false x) (fault first WrongType)
    (s-le which (maybe-part which) _ _ _ (s-valued which k first z false x h2) (omega arith))
    (s-fault which (part-measure which) _ first WrongType)
s-asked_form which k (known.Object p) x h2 = s-le which (maybe-part which) _ _ _ (s-place_asked which k p (selections_of x) p.subtype tt) (omega (arith, n-selections_of which x h2))
s-asked_form which k (known.Scalar first j n) x h2 =
    s-if which (maybe-part which) _ (same j k) (some x) (fault first WrongType)
    (s-some which (part-measure which) _ x (h2, omega arith))
    (s-fault which (part-measure which) _ first WrongType)
s-asked_form which k f x h2 = s-fault which (part-measure which) _ (first_of f) WrongType

pub s-asked : (which : ℕ) (x0 : Kind) (x1 : Found) → (with-part which).Whole x1 → Spends which (maybe-part which) (part-size which x1.part) (asked x0 x1)
unfolding asked
s-asked which k f h1 = s-le which (maybe-part which) _ _ _ (s-asked_form which k f.known f.part h1) (omega arith)

pub s-settled_found : (which : ℕ) (x0 : Found) → (with-part which).Whole x0 → Spends which (maybe-part which) (part-size which x0.part) (settled_found x0)
unfolding settled_found
s-settled_found which f h0 = s-le which (maybe-part which) _ _ _ (s-asked which (own_kind f.known) f h0) (omega arith)

pub s-any_integer : (which : ℕ) (x0 : Found) → (with-part which).Whole x0 → Spends which (maybe-part which) (part-size which x0.part) (any_integer x0)
unfolding any_integer
s-any_integer which f h0 =
    s-if which (maybe-part which) _ (is_number f.known && not (is_word_kind (kind_of f.known))) (settled_found f) (fault (first_of f.known) WrongType)
    (s-le which (maybe-part which) _ _ _ (s-settled_found which f h0) (omega arith))
    (s-fault which (part-measure which) _ (first_of f.known) WrongType)

pub s-any_scalar : (which : ℕ) (x0 : Found) → (with-part which).Whole x0 → Spends which (maybe-part which) (part-size which x0.part) (any_scalar x0)
unfolding any_scalar
s-any_scalar which f h0 =
    s-if which (maybe-part which) _ (is_scalar f.known) (settled_found f) (fault (first_of f.known) WrongType)
    (s-le which (maybe-part which) _ _ _ (s-settled_found which f h0) (omega arith))
    (s-fault which (part-measure which) _ (first_of f.known) WrongType)

pub z-whole_object : (which : ℕ) (x0 : ObjectName) (x1 : Selections) (x2 : ℕ) (x3 : Bool) → (counted-by (λ x. in_selections which x)).Whole x1 → Holds (counted-by (λ x. in_composite which x)) (in_selections which x1) (whole_object x0 x1 x2 x3)
z-whole_object which p ss n true h1 = (tt, omega arith)
z-whole_object which p ss n false h1 = (tt, omega arith)

pub s-whole_of : (which : ℕ) (x0 : ℕ) (x1 : ObjectName) (x2 : Selections) (x3 : Subtype) → (counted-by (λ x. in_selections which x)).Whole x2 → Spends which (maybe-part which) (in_selections which x2) (whole_of x0 x1 x2 x3)
s-whole_of which n p ss (subtype.Scalar s) h2 = s-fault which (part-measure which) _ p.first WrongType
s-whole_of which n p ss (subtype.Composite m) h2 =
    s-if which (maybe-part which) _ (n == m) (some (part.AComposite (whole_object p ss m p.variable))) (fault p.first WrongType)
    (s-some which (part-measure which) _ (part.AComposite (whole_object p ss m p.variable)) (let made1 = z-whole_object which p ss m p.variable h2 in
    (tt, omega (arith, made1.1))))
    (s-fault which (part-measure which) _ p.first WrongType)

pub s-composite_form : (which : ℕ) (x0 : ℕ) (x1 : Known) (x2 : TypedPart) → (part-measure which).Whole x2 → Spends which (maybe-part which) (part-size which x2) (composite_form x0 x1 x2)
s-composite_form which n (known.Composite first m) x h2 =
    s-if which (maybe-part which) _ (n == m) (some x) (fault first WrongType)
    (s-some which (part-measure which) _ x (h2, omega arith))
    (s-fault which (part-measure which) _ first WrongType)
s-composite_form which n (known.Object p) x h2 = s-le which (maybe-part which) _ _ _ (s-whole_of which n p (selections_of x) p.subtype tt) (omega (arith, n-selections_of which x h2))
s-composite_form which n f x h2 = s-fault which (part-measure which) _ (first_of f) WrongType

pub s-composite_asked : (which : ℕ) (x0 : ℕ) (x1 : Found) → (with-part which).Whole x1 → Spends which (maybe-part which) (part-size which x1.part) (composite_asked x0 x1)
unfolding composite_asked
s-composite_asked which n f h1 = s-le which (maybe-part which) _ _ _ (s-composite_form which n f.known f.part h1) (omega arith)

pub s-stored : (which : ℕ) (x0 : Subtype) (x1 : ℕ) (x2 : Found) → (with-part which).Whole x2 → Spends which (maybe-part which) (part-size which x2.part) (stored x0 x1 x2)
unfolding stored
s-stored which (subtype.Scalar s) at f h2 =
    s-bind which (maybe-part which) (maybe-part which) (part-size which f.part) 0 _ (asked s.kind f) _ (s-le which (maybe-part which) _ _ _ (s-asked which s.kind f h2) (omega arith)) (omega arith) (λ e held1.
    s-given which (part-measure which) (part-measure which) 0 _ e _ held1 (omega arith) (λ x held2.
    s-some which (part-measure which) _ (part.AValue (typed.Number (check_at at s) (as_expr x))) (tt, omega (arith, n-expr which x))))
s-stored which (subtype.Composite n) at f h2 =
    s-bind which (maybe-part which) (maybe-part which) (part-size which f.part) 0 _ (composite_asked n f) _ (s-le which (maybe-part which) _ _ _ (s-composite_asked which n f h2) (omega arith)) (omega arith) (λ c held1.
    s-given which (part-measure which) (part-measure which) 0 _ c _ held1 (omega arith) (λ x held2.
    s-some which (part-measure which) _ (part.AValue (typed.Cells (part.as_composite x))) (tt, omega (arith, n-composite which x))))
