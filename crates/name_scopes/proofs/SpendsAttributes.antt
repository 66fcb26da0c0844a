-- Judging that is counted: attributes.
use Rattle.ada_base.specs.declared.operation.Op.TheVariants as op
use Rattle.ada_base.specs.declared.operation.Op.{Op}
use Rattle.name_rules.specs.Calls.{arg_names, operands}
use Rattle.name_rules.specs.Expressions.{Inside}
use Rattle.name_rules.specs.Found.{Denoted, Found, denote, parameter_found, scalar, static, text_found, universal, value_denoted}
use Rattle.name_rules.specs.Judging.{fault, given, joined, read, ◌>>=◌, some}
use Rattle.name_rules.specs.Names.{denoted_first}
use Rattle.name_rules.specs.Operators.{limit_of}
use Rattle.name_rules.specs.Types.{class_of, extent, is_integer, is_modular}
use Rattle.name_rules.specs.Values.{asked, first_of, is_number, mentions_of, own_kind, static_of_kind}
use Rattle.name_rules.specs.declared.found.Attribute.TheVariants as attribute'
use Rattle.name_rules.specs.declared.found.Attribute.{Attribute}
use Rattle.name_rules.specs.declared.found.Denoted.TheVariants as denoted
use Rattle.name_rules.specs.declared.found.Denoted.{Denoted as KnownDenoted}
use Rattle.name_rules.specs.declared.found.Found.TheVariants as known
use Rattle.name_rules.specs.declared.found.ObjectName.{ObjectName}
use Rattle.name_rules.specs.declared.found.Prefix.TheVariants as prefix
use Rattle.name_rules.specs.declared.found.Prefix.{Prefix}
use Rattle.name_rules.specs.declared.log.Dimension.{Dimension}
use Rattle.name_rules.specs.declared.log.Rule.TheVariants.{ReduceRule, StaticRange, Unknown, WrongType}
use Rattle.name_rules.specs.declared.scope.Context.{Context}
use Rattle.name_rules.specs.declared.scope.Names.{Names}
use Rattle.name_rules.specs.declared.types.Kind.{Kind}
use Rattle.name_rules.specs.declared.types.Scalar.{Scalar}
use Rattle.name_rules.specs.declared.types.Subtype.TheVariants as subtype
use Rattle.name_rules.specs.declared.types.Subtype.{Subtype}
use Rattle.syntax_tree.specs.Syntax.{Args}
use Rattle.typed_tree.specs.Decoded as part
use Rattle.typed_tree.specs.Syntax as typed
use Rattle.typed_tree.specs.Syntax.{Expr as TypedExpr}
use Rattle.std.specs.Prelude.{Bool, List, None, Option, Some, [], false, if◌then◌else◌, int_le, length, option_map, pos, slice_get, true, unsigned_abs, ℕ, ℤ, ◌&&◌, ◌+◌, ◌-◌, ◌∷◌}
use Rattle.name_rules.specs.TypedParts.{also, also_all, selections_of}
use Rattle.typed_tree.specs.Decoded.{TypedPart, as_expr}
use Rattle.name_rules.specs.Attributes.{alone, attribute_found, bound_alone, bound_in, bound_with, dimension_at, dimension_bound, dimension_given, dimensions_in, extreme, first_named, image_text, is_array_object, is_bound, is_reduction, mentioned, object_image, one_argument, one_dimension, one_given, one_named, prefix_of, prefix_subtype, reduced_alone, scalar_bound, scalar_with, settled_attribute, settled_form, step, stepped, two_arguments_of, two_given, two_named, is_left_out, bound_found}
use Rattle.std.proofs.Common.{arith}
use Rattle.name_laws.proofs.KeepsAttributes.{k-scalar_bound}
use Rattle.name_laws.proofs.KeepsValues.{k-static_of_kind}
use Rattle.name_laws.proofs.Walk.{k-read}
use Rattle.name_scopes.proofs.SpendsCalls.{s-operands}
use Rattle.name_scopes.proofs.SpendsFound.{z-denote, z-parameter_found, z-scalar, z-static, z-text_found, z-universal, z-value_denoted}
use Rattle.name_scopes.proofs.SpendsNames.{s-wrong_call}
use Rattle.name_scopes.proofs.SpendsOperators.{z-limit_of}
use Rattle.name_scopes.proofs.SpendsValues.{s-asked, z-mentions_of}
use Rattle.name_scopes.proofs.Leaving.{leaving}
use Rattle.name_scopes.proofs.Measures.{counted-by, list-of, maybe-known, maybe-part, option-of, part-measure, part-size, with-part}
use Rattle.name_scopes.proofs.Parts.{n-also_all, n-expr, n-indexes_in, n-selections_of, w-also_all, w-indexes_in}
use Rattle.name_scopes.proofs.Records.{SpendsInside}
use Rattle.name_scopes.proofs.Spends.{Holds, Spends, h-joined, h-map, s-bind, s-fault, s-given, s-given-any, s-if, s-le, s-pure, s-some, s-then, s-where_clean}
use Rattle.name_scopes.proofs.Tallies.{Tally, in_expr}

pub s-attribute_found : (which : Tally) (x0 : Denoted) (x1 : ℕ) (x2 : Option Attribute) → (with-part which).Whole x0 → Spends which (maybe-known which) (part-size which x0.part) (attribute_found x0 x1 x2)
s-attribute_found which d at None h0 = s-fault which (with-part which) _ at Unknown
s-attribute_found which d at (Some a) h0 =
    s-if which (maybe-known which) _ (is_left_out (prefix_of d.known) a) (fault at Unknown) (some (denote (denoted.Attribute (denoted_first d.known) (prefix_of d.known) at a) d.part))
    (s-fault which (with-part which) _ at Unknown)
    (s-some which (with-part which) _ (denote (denoted.Attribute (denoted_first d.known) (prefix_of d.known) at a) d.part) (let made1 = z-denote which (denoted.Attribute (denoted_first d.known) (prefix_of d.known) at a) d.part h0 in
    (made1.0, omega (arith, made1.1))))

z-bound_by : (which : Tally) (modular : Bool) (first : ℕ) (k : Kind) (z : ℤ) → Holds (with-part which) 0 (if modular then scalar first k None (limit_of first z) else static first k z part.Nothing)
z-bound_by which true first k z =
    let made1 = z-limit_of which first z in
    let made2 = z-scalar which first k None (limit_of first z) made1.0 in
    (made2.0, omega (arith, made2.1, made1.1))
z-bound_by which false first k z =
    let made1 = z-static which first k z part.Nothing tt in
    (made1.0, omega (arith, made1.1))

z-bound_found : (which : Tally) (x0 : ℕ) (x1 : Kind) (x2 : ℤ) → Holds (with-part which) 0 (bound_found x0 x1 x2)
z-bound_found which first k z = z-bound_by which (is_modular k) first k z

pub s-scalar_bound : (which : Tally) (x0 : ℕ) (x1 : Scalar) (x2 : Attribute) → Spends which (maybe-known which) 0 (scalar_bound x0 x1 x2)
s-scalar_bound which first s attribute'.First =
    s-some which (with-part which) _ (value_denoted (bound_found first s.kind s.low)) (let made1 = z-bound_found which first s.kind s.low in
    let made2 = z-value_denoted which (bound_found first s.kind s.low) made1.0 in
    (made2.0, omega (arith, made2.1, made1.1)))
s-scalar_bound which first s attribute'.Last =
    s-some which (with-part which) _ (value_denoted (bound_found first s.kind s.high)) (let made1 = z-bound_found which first s.kind s.high in
    let made2 = z-value_denoted which (bound_found first s.kind s.high) made1.0 in
    (made2.0, omega (arith, made2.1, made1.1)))
s-scalar_bound which first s a = s-fault which (with-part which) _ first WrongType

pub s-dimension_bound : (which : Tally) (x0 : ℕ) (x1 : TypedPart) (x2 : Attribute) (x3 : Dimension) → (part-measure which).Whole x1 → Spends which (maybe-known which) (part-size which x1) (dimension_bound x0 x1 x2 x3)
s-dimension_bound which first ms attribute'.First d h1 =
    s-some which (with-part which) _ (value_denoted (static first d.kind d.low ms)) (let made1 = z-static which first d.kind d.low ms h1 in
    let made2 = z-value_denoted which (static first d.kind d.low ms) made1.0 in
    (made2.0, omega (arith, made2.1, made1.1)))
s-dimension_bound which first ms attribute'.Last d h1 =
    s-some which (with-part which) _ (value_denoted (static first d.kind d.high ms)) (let made1 = z-static which first d.kind d.high ms h1 in
    let made2 = z-value_denoted which (static first d.kind d.high ms) made1.0 in
    (made2.0, omega (arith, made2.1, made1.1)))
s-dimension_bound which first ms attribute'.Length d h1 =
    s-some which (with-part which) _ (value_denoted (universal first (pos (extent d)) false ms)) (let made1 = z-universal which first (pos (extent d)) false ms h1 in
    let made2 = z-value_denoted which (universal first (pos (extent d)) false ms) made1.0 in
    (made2.0, omega (arith, made2.1, made1.1)))
s-dimension_bound which first ms attribute'.Range d h1 =
    s-some which (with-part which) _ (denote (denoted.Range first d) ms) (let made1 = z-denote which (denoted.Range first d) ms h1 in
    (made1.0, omega (arith, made1.1)))
s-dimension_bound which first ms a d h1 = s-fault which (with-part which) _ first WrongType

pub z-mentioned : (which : Tally) (x0 : Prefix) (x1 : TypedPart) → (part-measure which).Whole x1 → Holds (part-measure which) (part-size which x1) (mentioned x0 x1)
z-mentioned which (prefix.Object p) x h1 = (w-indexes_in which (selections_of x), omega (arith, n-indexes_in which (selections_of x), n-selections_of which x h1))
z-mentioned which any1 x h1 = (tt, omega arith)

pub s-bound_in : (which : Tally) (x0 : ℕ) (x1 : TypedPart) (x2 : Attribute) (x3 : Option Dimension) → (part-measure which).Whole x1 → Spends which (maybe-known which) (part-size which x1) (bound_in x0 x1 x2 x3)
s-bound_in which first ms a None h1 = s-fault which (with-part which) _ first WrongType
s-bound_in which first ms a (Some d) h1 = s-le which (maybe-known which) _ _ _ (s-dimension_bound which first ms a d h1) (omega arith)

pub s-bound_alone : (which : Tally) (x0 : ℕ) (x1 : Prefix) (x2 : TypedPart) (x3 : Attribute) → (part-measure which).Whole x2 → Spends which (maybe-known which) (part-size which x2) (bound_alone x0 x1 x2 x3)
s-bound_alone which first (prefix.Type (subtype.Scalar s)) x a h2 = s-le which (maybe-known which) _ _ _ (s-scalar_bound which first s a) (omega arith)
s-bound_alone which first p x a h2 =
    s-then which (maybe-known which) _ (read (λ log. slice_get (dimensions_in log (prefix_subtype p)) 0)) _ (k-read leaving (λ log. slice_get (dimensions_in log (prefix_subtype p)) 0)) (λ out.
    let made2 = z-mentioned which p x h2 in
    s-le which (maybe-known which) _ _ _ (s-bound_in which first (mentioned p x) a out made2.0) (omega (arith, made2.1)))

pub s-dimension_at : (which : Tally) (x0 : ℕ) (x1 : TypedPart) (x2 : Attribute) (x3 : List Dimension) (x4 : ℕ) (x5 : ℤ) → (part-measure which).Whole x1 → Spends which (maybe-known which) (part-size which x1) (dimension_at x0 x1 x2 x3 x4 x5)
s-dimension_at which first ms a ds at z h1 =
    s-if which (maybe-known which) _ (int_le (pos 1) z && int_le z (pos (length ds))) (bound_in first ms a (slice_get ds (unsigned_abs z - 1))) (fault at StaticRange)
    (s-le which (maybe-known which) _ _ _ (s-bound_in which first ms a (slice_get ds (unsigned_abs z - 1)) h1) (omega arith))
    (s-fault which (with-part which) _ at StaticRange)

pub s-dimension_given : (which : Tally) (x0 : ℕ) (x1 : TypedPart) (x2 : Attribute) (x3 : List Dimension) (x4 : Found) → (part-measure which).Whole x1 → (with-part which).Whole x4 → Spends which (maybe-known which) (part-size which x1 + part-size which x4.part) (dimension_given x0 x1 x2 x3 x4)
s-dimension_given which first ms a ds f h1 h4 =
    s-if which (maybe-known which) _ (is_number f.known) ((static_of_kind (own_kind f.known) f) >>= λ v. given v (dimension_at first (also_all ms (mentions_of f)) a ds (first_of f.known))) (fault (first_of f.known) WrongType)
    (s-then which (maybe-known which) _ (static_of_kind (own_kind f.known) f) _ (k-static_of_kind leaving (own_kind f.known) f) (λ v.
    s-given-any which (with-part which) _ v _ (λ item.
    let made3 = z-mentions_of which f h4 in
    s-le which (maybe-known which) _ _ _ (s-dimension_at which first (also_all ms (mentions_of f)) a ds (first_of f.known) item (w-also_all which ms (mentions_of f) h1 made3.0)) (omega (arith, n-also_all which ms (mentions_of f), made3.1)))))
    (s-fault which (with-part which) _ (first_of f.known) WrongType)

pub s-one_dimension : (which : Tally) (x0 : ℕ) (x1 : ℕ) (x2 : TypedPart) (x3 : Attribute) (x4 : List Dimension) (x5 : List (Option ℕ)) (x6 : List Found) → (part-measure which).Whole x2 → (list-of (with-part which)).Whole x6 → Spends which (maybe-known which) (part-size which x2 + (list-of (with-part which)).size x6) (one_dimension x0 x1 x2 x3 x4 x5 x6)
s-one_dimension which first bracket ms a ds (None ∷ []) (f ∷ []) h2 h6 = s-le which (maybe-known which) _ _ _ (s-dimension_given which first ms a ds f h2 h6.0) (omega arith)
s-one_dimension which first bracket ms a ds (Some name ∷ []) fs h2 h6 = s-fault which (with-part which) _ name WrongType
s-one_dimension which first bracket ms a ds ns fs h2 h6 = s-fault which (with-part which) _ bracket WrongType

pub s-bound_with : (which : Tally) (x0 : Names) (x1 : Inside) (x2 : Context) (x3 : ℕ) (x4 : TypedPart) (x5 : Attribute) (x6 : ℕ) (x7 : Args) (x8 : List Dimension) → SpendsInside which x1 → (part-measure which).Whole x4 → Spends which (maybe-known which) (part-size which x4) (bound_with x0 x1 x2 x3 x4 x5 x6 x7 x8)
s-bound_with which names inside here first ms a bracket as' [] h1 h4 = s-fault which (with-part which) _ first WrongType
s-bound_with which names inside here first ms a bracket as' (d ∷ ds) h1 h4 =
    s-where_clean which (option-of (list-of (with-part which))) (with-part which) 0 (part-size which ms) _ (operands names inside here (Some []) as') _ (s-le which (option-of (list-of (with-part which))) _ _ _ (s-operands which names inside here (Some []) as' h1 tt) (omega arith)) (omega arith) (λ fs held1.
    s-given which (list-of (with-part which)) (with-part which) (part-size which ms) _ fs _ held1 (omega arith) (λ item held2.
    s-le which (maybe-known which) _ _ _ (s-one_dimension which first bracket ms a (d ∷ ds) (arg_names as') item h4 held2) (omega arith)))

pub s-one_given : (which : Tally) (x0 : Kind) (x1 : TypedExpr → Denoted) (x2 : Found) → ((x : TypedExpr) → Holds (with-part which) (in_expr which x) (x1 x)) → (with-part which).Whole x2 → Spends which (maybe-known which) (part-size which x2.part) (one_given x0 x1 x2)
s-one_given which k make f h1 h2 =
    s-bind which (maybe-part which) (maybe-known which) (part-size which f.part) 0 _ (asked k f) _ (s-le which (maybe-part which) _ _ _ (s-asked which k f h2) (omega arith)) (omega arith) (λ e held1.
    s-pure which (maybe-known which) _ (option_map (λ x. make (as_expr x)) e) (let made3 = h-map (part-measure which) (with-part which) 0 (λ x. make (as_expr x)) e held1 (λ x held2. ((h1 (as_expr x)).0, omega (arith, (h1 (as_expr x)).1, n-expr which x))) in
    (made3.0, omega (arith, made3.1))))

pub s-two_given : (which : Tally) (x0 : Kind) (x1 : TypedExpr → TypedExpr → Denoted) (x2 : Found) (x3 : Found) → ((x : TypedExpr) (y : TypedExpr) → Holds (with-part which) (in_expr which x + in_expr which y) (x1 x y)) → (with-part which).Whole x2 → (with-part which).Whole x3 → Spends which (maybe-known which) (part-size which x2.part + part-size which x3.part) (two_given x0 x1 x2 x3)
s-two_given which k make f g h1 h2 h3 =
    s-bind which (maybe-part which) (maybe-known which) (part-size which f.part) (part-size which g.part) _ (asked k f) _ (s-le which (maybe-part which) _ _ _ (s-asked which k f h2) (omega arith)) (omega arith) (λ x held1.
    s-bind which (maybe-part which) (maybe-known which) (part-size which g.part) ((maybe-part which).size x) _ (asked k g) _ (s-le which (maybe-part which) _ _ _ (s-asked which k g h3) (omega arith)) (omega arith) (λ y held2.
    s-pure which (maybe-known which) _ (joined (λ d e. make (as_expr d) (as_expr e)) x y) (let made5 = h-joined (part-measure which) (part-measure which) (with-part which) 0 (λ d e. make (as_expr d) (as_expr e)) x y held1 held2 (λ d held3 e held4. ((h1 (as_expr d) (as_expr e)).0, omega (arith, (h1 (as_expr d) (as_expr e)).1, n-expr which d, n-expr which e))) in
    (made5.0, omega (arith, made5.1)))))

pub s-one_named : (which : Tally) (x0 : ℕ) (x1 : Kind) (x2 : TypedExpr → Denoted) (x3 : Option ℕ) (x4 : List Found) → ((x : TypedExpr) → Holds (with-part which) (in_expr which x) (x2 x)) → (list-of (with-part which)).Whole x4 → Spends which (maybe-known which) ((list-of (with-part which)).size x4) (one_named x0 x1 x2 x3 x4)
s-one_named which bracket k make (Some name) fs h2 h4 = s-fault which (with-part which) _ name Unknown
s-one_named which bracket k make None (f ∷ []) h2 h4 = s-le which (maybe-known which) _ _ _ (s-one_given which k make f (λ item. ((h2 item).0, omega (arith, (h2 item).1))) h4.0) (omega arith)
s-one_named which bracket k make None fs h2 h4 = s-fault which (with-part which) _ bracket WrongType

pub s-two_named : (which : Tally) (x0 : ℕ) (x1 : Kind) (x2 : TypedExpr → TypedExpr → Denoted) (x3 : Option ℕ) (x4 : List Found) → ((x : TypedExpr) (y : TypedExpr) → Holds (with-part which) (in_expr which x + in_expr which y) (x2 x y)) → (list-of (with-part which)).Whole x4 → Spends which (maybe-known which) ((list-of (with-part which)).size x4) (two_named x0 x1 x2 x3 x4)
s-two_named which bracket k make (Some name) fs h2 h4 = s-fault which (with-part which) _ name Unknown
s-two_named which bracket k make None (f ∷ g ∷ []) h2 h4 = s-le which (maybe-known which) _ _ _ (s-two_given which k make f g (λ item item2. ((h2 item item2).0, omega (arith, (h2 item item2).1))) h4.0 h4.1.0) (omega arith)
s-two_named which bracket k make None fs h2 h4 = s-fault which (with-part which) _ bracket WrongType

pub s-one_argument : (which : Tally) (x0 : Names) (x1 : Inside) (x2 : Context) (x3 : ℕ) (x4 : Kind) (x5 : TypedExpr → Denoted) (x6 : Args) → SpendsInside which x1 → ((x : TypedExpr) → Holds (with-part which) (in_expr which x) (x5 x)) → Spends which (maybe-known which) 0 (one_argument x0 x1 x2 x3 x4 x5 x6)
unfolding one_argument
s-one_argument which names inside here bracket k make as' h1 h5 =
    s-where_clean which (option-of (list-of (with-part which))) (with-part which) 0 0 _ (operands names inside here (Some []) as') _ (s-le which (option-of (list-of (with-part which))) _ _ _ (s-operands which names inside here (Some []) as' h1 tt) (omega arith)) (omega arith) (λ fs held1.
    s-given which (list-of (with-part which)) (with-part which) 0 _ fs _ held1 (omega arith) (λ item held2.
    s-le which (maybe-known which) _ _ _ (s-one_named which bracket k make (first_named (arg_names as')) item (λ item'. ((h5 item').0, omega (arith, (h5 item').1))) held2) (omega arith)))

pub s-two_arguments_of : (which : Tally) (x0 : Names) (x1 : Inside) (x2 : Context) (x3 : ℕ) (x4 : Kind) (x5 : TypedExpr → TypedExpr → Denoted) (x6 : Args) → SpendsInside which x1 → ((x : TypedExpr) (y : TypedExpr) → Holds (with-part which) (in_expr which x + in_expr which y) (x5 x y)) → Spends which (maybe-known which) 0 (two_arguments_of x0 x1 x2 x3 x4 x5 x6)
unfolding two_arguments_of
s-two_arguments_of which names inside here bracket k make as' h1 h5 =
    s-where_clean which (option-of (list-of (with-part which))) (with-part which) 0 0 _ (operands names inside here (Some []) as') _ (s-le which (option-of (list-of (with-part which))) _ _ _ (s-operands which names inside here (Some []) as' h1 tt) (omega arith)) (omega arith) (λ fs held1.
    s-given which (list-of (with-part which)) (with-part which) 0 _ fs _ held1 (omega arith) (λ item held2.
    s-le which (maybe-known which) _ _ _ (s-two_named which bracket k make (first_named (arg_names as')) item (λ item' item2. ((h5 item' item2).0, omega (arith, (h5 item' item2).1))) held2) (omega arith)))

pub z-image_text : (which : Tally) (x0 : ℕ) (x1 : Kind) (x2 : TypedExpr) → (counted-by (λ x. in_expr which x)).Whole x2 → Holds (with-part which) (in_expr which x2) (image_text x0 x1 x2)
z-image_text which first k e h2 =
    let made1 = z-text_found which first (also part.Nothing (part.APiece (typed.Image (class_of k) e))) ((λ r. omega arith), tt) in
    let made2 = z-value_denoted which (text_found first (also part.Nothing (part.APiece (typed.Image (class_of k) e)))) made1.0 in
    (made2.0, omega (arith, made2.1, made1.1))

pub z-extreme : (which : Tally) (x0 : ℕ) (x1 : Kind) (x2 : Op) (x3 : TypedExpr) (x4 : TypedExpr) → (counted-by (λ x. in_expr which x)).Whole x3 → (counted-by (λ x. in_expr which x)).Whole x4 → Holds (with-part which) (in_expr which x3 + in_expr which x4) (extreme x0 x1 x2 x3 x4)
z-extreme which first k o x y h3 h4 =
    let made1 = z-scalar which first k None (typed.Binary first o (class_of k) x y) tt in
    let made2 = z-value_denoted which (scalar first k None (typed.Binary first o (class_of k) x y)) made1.0 in
    (made2.0, omega (arith, made2.1, made1.1))

pub z-step : (which : Tally) (x0 : ℕ) (x1 : Kind) (x2 : Op) (x3 : TypedExpr) → (counted-by (λ x. in_expr which x)).Whole x3 → Holds (with-part which) (in_expr which x3) (step x0 x1 x2 x3)
z-step which first k o x h3 =
    let made1 = z-limit_of which first (pos 1) in
    let made2 = z-extreme which first k o x (limit_of first (pos 1)) h3 made1.0 in
    (made2.0, omega (arith, made2.1, made1.1))

pub s-stepped : (which : Tally) (x0 : Names) (x1 : Inside) (x2 : Context) (x3 : ℕ) (x4 : Scalar) (x5 : Op) (x6 : ℕ) (x7 : Args) → SpendsInside which x1 → Spends which (maybe-known which) 0 (stepped x0 x1 x2 x3 x4 x5 x6 x7)
s-stepped which names inside here first s o bracket as' h1 =
    s-if which (maybe-known which) _ (is_integer s.kind) (one_argument names inside here bracket s.kind (step first s.kind o) as') (fault first WrongType)
    (s-le which (maybe-known which) _ _ _ (s-one_argument which names inside here bracket s.kind (step first s.kind o) as' h1 (λ item. let made1 = z-step which first s.kind o item tt in
    (made1.0, omega (arith, made1.1)))) (omega arith))
    (s-fault which (with-part which) _ first WrongType)

pub s-scalar_with : (which : Tally) (x0 : Names) (x1 : Inside) (x2 : Context) (x3 : ℕ) (x4 : Scalar) (x5 : Attribute) (x6 : ℕ) (x7 : Args) → SpendsInside which x1 → Spends which (maybe-known which) 0 (scalar_with x0 x1 x2 x3 x4 x5 x6 x7)
s-scalar_with which names inside here first s attribute'.Image bracket as' h1 =
    s-le which (maybe-known which) _ _ _ (s-one_argument which names inside here bracket s.kind (image_text first s.kind) as' h1 (λ item. let made1 = z-image_text which first s.kind item tt in
    (made1.0, omega (arith, made1.1)))) (omega arith)
s-scalar_with which names inside here first s attribute'.Max bracket as' h1 =
    s-le which (maybe-known which) _ _ _ (s-two_arguments_of which names inside here bracket s.kind (extreme first s.kind op.Max) as' h1 (λ item item2. let made1 = z-extreme which first s.kind op.Max item item2 tt tt in
    (made1.0, omega (arith, made1.1)))) (omega arith)
s-scalar_with which names inside here first s attribute'.Min bracket as' h1 =
    s-le which (maybe-known which) _ _ _ (s-two_arguments_of which names inside here bracket s.kind (extreme first s.kind op.Min) as' h1 (λ item item2. let made1 = z-extreme which first s.kind op.Min item item2 tt tt in
    (made1.0, omega (arith, made1.1)))) (omega arith)
s-scalar_with which names inside here first s attribute'.Succ bracket as' h1 = s-le which (maybe-known which) _ _ _ (s-stepped which names inside here first s op.Add bracket as' h1) (omega arith)
s-scalar_with which names inside here first s attribute'.Pred bracket as' h1 = s-le which (maybe-known which) _ _ _ (s-stepped which names inside here first s op.Sub bracket as' h1) (omega arith)
s-scalar_with which names inside here first s a bracket as' h1 =
    s-then which (maybe-known which) _ (scalar_bound first s a) _ (k-scalar_bound leaving first s a) (λ d.
    s-given-any which (with-part which) _ d _ (λ x.
    s-le which (maybe-known which) _ _ _ (s-wrong_call which names inside here first as' h1) (omega arith)))

pub s-object_image : (which : Tally) (x0 : ℕ) (x1 : ObjectName) (x2 : TypedPart) (x3 : Subtype) → (part-measure which).Whole x2 → Spends which (maybe-known which) (part-size which x2) (object_image x0 x1 x2 x3)
s-object_image which first p x (subtype.Scalar s) h2 =
    s-le which (maybe-known which) _ _ _ (s-one_given which s.kind (image_text first s.kind) (record { known = known.Object p; part = x }) (λ item. let made1 = z-image_text which first s.kind item tt in
    (made1.0, omega (arith, made1.1))) h2) (omega arith)
s-object_image which first p x (subtype.Composite n) h2 = s-fault which (with-part which) _ first WrongType

pub s-reduced_alone : (which : Tally) (x0 : ℕ) (x1 : ℕ) (x2 : Bool) → Spends which (maybe-known which) 0 (reduced_alone x0 x1 x2)
s-reduced_alone which first at true = s-fault which (with-part which) _ first WrongType
s-reduced_alone which first at false = s-fault which (with-part which) _ at ReduceRule

pub s-alone : (which : Tally) (x0 : ℕ) (x1 : Prefix) (x2 : TypedPart) (x3 : ℕ) (x4 : Attribute) → (part-measure which).Whole x2 → Spends which (maybe-known which) (part-size which x2) (alone x0 x1 x2 x3 x4)
s-alone which first (prefix.Object p) x at attribute'.Image h2 = s-le which (maybe-known which) _ _ _ (s-object_image which first p x p.subtype h2) (omega arith)
s-alone which first (prefix.Parameter s) x at attribute'.Image h2 =
    let made2 = z-parameter_found which first s x h2 in
    s-le which (maybe-known which) _ _ _ (s-one_given which s.kind (image_text first s.kind) (parameter_found first s x) (λ item. let made1 = z-image_text which first s.kind item tt in
    (made1.0, omega (arith, made1.1))) made2.0) (omega (arith, made2.1))
s-alone which first p x at a h2 =
    s-if which (maybe-known which) _ (is_bound a) (bound_alone first p x a) (if is_reduction a then (read (λ log. is_array_object log p)) >>= (reduced_alone first at) else fault first WrongType)
    (s-le which (maybe-known which) _ _ _ (s-bound_alone which first p x a h2) (omega arith))
    (s-if which (maybe-known which) _ (is_reduction a) ((read (λ log. is_array_object log p)) >>= (reduced_alone first at)) (fault first WrongType)
    (s-then which (maybe-known which) _ (read (λ log. is_array_object log p)) _ (k-read leaving (λ log. is_array_object log p)) (λ out.
    s-le which (maybe-known which) _ _ _ (s-reduced_alone which first at out) (omega arith)))
    (s-fault which (with-part which) _ first WrongType))

pub s-settled_form : (which : Tally) (x0 : KnownDenoted) (x1 : TypedPart) → (part-measure which).Whole x1 → Spends which (maybe-known which) (part-size which x1) (settled_form x0 x1)
s-settled_form which (denoted.Attribute first p at a) x h1 = s-le which (maybe-known which) _ _ _ (s-alone which first p x at a h1) (omega arith)
s-settled_form which d x h1 =
    s-some which (with-part which) _ (denote d x) (let made1 = z-denote which d x h1 in
    (made1.0, omega (arith, made1.1)))

pub s-settled_attribute : (which : Tally) (x0 : Denoted) → (with-part which).Whole x0 → Spends which (maybe-known which) (part-size which x0.part) (settled_attribute x0)
unfolding settled_attribute
s-settled_attribute which d h0 = s-le which (maybe-known which) _ _ _ (s-settled_form which d.known d.part h0) (omega arith)
