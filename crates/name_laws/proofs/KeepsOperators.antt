-- What holds of each line of the log holds of what Operators judges.
use Rattle.ada_base.specs.declared.operation.Op.TheVariants as op
use Rattle.ada_base.specs.declared.operation.Op.{Op}
use Rattle.name_rules.specs.Found.{Found, scalar, static, text_found, universal}
use Rattle.name_rules.specs.Types.{class_of, in_base, same, is_modular}
use Rattle.name_rules.specs.Values.{asked, exact, first_of, fitting, is_number, is_scalar, kind_of, suits, value_of}
use Rattle.name_rules.specs.declared.found.Found.TheVariants as known
use Rattle.name_rules.specs.declared.found.Found.{Found as Known}
use Rattle.name_rules.specs.declared.log.Rule.TheVariants.{StaticRange, WrongType}
use Rattle.name_rules.specs.declared.types.Kind.TheVariants as kind
use Rattle.name_rules.specs.declared.types.Kind.{Kind}
use Rattle.name_rules.specs.declared.types.Scalar.{Scalar}
use Rattle.typed_tree.specs.Syntax as typed
use Rattle.typed_tree.specs.declared.expressions.Sign.TheVariants as unary'
use Rattle.typed_tree.specs.declared.expressions.Sign.{Sign as Unary}
use Rattle.typed_tree.specs.declared.scalars.Class.TheVariants as class
use Rattle.ada_base.specs.declared.operation.Comparison.{Comparison}
use Rattle.std.specs.Prelude.{Bool, None, Option, Some, false, if◌then◌else◌, not, option_map, ℕ, ℤ, ◌&&◌}
use Rattle.name_rules.specs.TypedParts.{also_all}
use Rattle.typed_tree.specs.Decoded.{TypedPart, as_expr}
use Rattle.name_rules.specs.Judging.{◌>>=◌, both, fault, given, pure, some}
use Rattle.name_rules.specs.Operators.{static_of, static_universal, both_mentions, static_operation, operation_on, operation_by, typed_operation, open_of, open_plain, open_binary, universal_by, universal_operation, by_kinds, operand_blamed, operation, binary, open_power, universal_power, static_power, universal_to, power_to, power, signed, static_unary, unary_typed, open_unary, unary_open, unary_by, unary, plain_typed, plain_open, plain_by, plain, negation, not_of, joined_texts, joined_text, logical, compared_at, common_kind, compared_by, compared, member, within_bounds, first_kind, member_of, membership, limit_of, of_subtype, complement, not_by, logical_by, is_logical_kind}
use Rattle.name_laws.proofs.Walk.{Walk, Keeps, k-pure, k-some, k-bind, k-fault, k-if, k-given, k-both}
use Rattle.name_laws.proofs.KeepsValues.{k-asked, k-fitting}

pub k-static_of : (walk : Walk) (x0 : ℕ) (x1 : Kind) (x2 : TypedPart) (x3 : Option ℤ) → Keeps walk (static_of x0 x1 x2 x3)
unfolding static_of
k-static_of walk first k ms None = k-fault walk first StaticRange
k-static_of walk first k ms (Some z) = k-if walk (in_base k z) (some (static first k z ms)) (fault first StaticRange) (k-some walk (static first k z ms)) (k-fault walk first StaticRange)

pub k-static_universal : (walk : Walk) (x0 : ℕ) (x1 : TypedPart) (x2 : Option ℤ) → Keeps walk (static_universal x0 x1 x2)
unfolding static_universal
k-static_universal walk first ms None = k-fault walk first StaticRange
k-static_universal walk first ms (Some z) = k-some walk (universal first z false ms)

pub k-static_operation : (walk : Walk) (x0 : Op) (x1 : Kind) (x2 : Kind) (x3 : Found) (x4 : ℤ) (x5 : Found) (x6 : ℤ) → Keeps walk (static_operation x0 x1 x2 x3 x4 x5 x6)
unfolding static_operation
k-static_operation walk o k j a u b v = record {
  at = λ log.
      let out1 = fitting k (first_of a.known) u log in
      let x = out1.0 in
      let out2 = fitting j (first_of b.known) v out1.1 in
      let y = out2.0 in
      walk.joins _ _ _ ((k-fitting walk k (first_of a.known) u).at log)
      (walk.joins _ _ _ ((k-fitting walk j (first_of b.known) v).at out1.1)
      ((k-if walk (x && y) (static_of (first_of a.known) k (both_mentions a b) (exact o u v)) (pure None) (k-static_of walk (first_of a.known) k (both_mentions a b) (exact o u v)) (k-pure walk None)).at out2.1));
}

pub k-operation_on : (walk : Walk) (x0 : Op) (x1 : ℕ) (x2 : Kind) (x3 : Kind) (x4 : Found) (x5 : Found) → Keeps walk (operation_on x0 x1 x2 x3 x4 x5)
unfolding operation_on
k-operation_on walk o at k j a b = record {
  at = λ log.
      let out1 = asked k a log in
      let x = out1.0 in
      let out2 = asked j b out1.1 in
      let y = out2.0 in
      walk.joins _ _ _ ((k-asked walk k a).at log)
      (walk.joins _ _ _ ((k-asked walk j b).at out1.1)
      ((k-both walk x y (λ m n. some (scalar (first_of a.known) k None (typed.Binary at o (class_of k) (as_expr m) (as_expr n)))) (λ m n. k-some walk (scalar (first_of a.known) k None (typed.Binary at o (class_of k) (as_expr m) (as_expr n))))).at out2.1));
}

pub k-operation_by : (walk : Walk) (x0 : Op) (x1 : ℕ) (x2 : Kind) (x3 : Kind) (x4 : Found) (x5 : Found) (x6 : Option ℤ) (x7 : Option ℤ) → Keeps walk (operation_by x0 x1 x2 x3 x4 x5 x6 x7)
k-operation_by walk o at k j a b (Some u) (Some v) = k-static_operation walk o k j a u b v
k-operation_by walk o at k j a b _ _ = k-operation_on walk o at k j a b

pub k-typed_operation : (walk : Walk) (x0 : Op) (x1 : ℕ) (x2 : Kind) (x3 : Kind) (x4 : Found) (x5 : Found) → Keeps walk (typed_operation x0 x1 x2 x3 x4 x5)
unfolding typed_operation
k-typed_operation walk o at k j a b = k-operation_by walk o at k j a b (value_of a.known) (value_of b.known)

pub k-universal_by : (walk : Walk) (x0 : Op) (x1 : ℕ) (x2 : Found) (x3 : Found) (x4 : Option ℤ) (x5 : Option ℤ) → Keeps walk (universal_by x0 x1 x2 x3 x4 x5)
k-universal_by walk o at a b (Some u) (Some v) = k-static_universal walk (first_of a.known) (both_mentions a b) (exact o u v)
k-universal_by walk o at a b _ _ = k-pure walk (open_binary o at a b)

pub k-universal_operation : (walk : Walk) (x0 : Op) (x1 : ℕ) (x2 : Found) (x3 : Found) → Keeps walk (universal_operation x0 x1 x2 x3)
unfolding universal_operation
k-universal_operation walk o at a b = k-universal_by walk o at a b (value_of a.known) (value_of b.known)

pub k-by_kinds : (walk : Walk) (x0 : Op) (x1 : ℕ) (x2 : Found) (x3 : Found) (x4 : Option Kind) (x5 : Option Kind) → Keeps walk (by_kinds x0 x1 x2 x3 x4 x5)
k-by_kinds walk o at a b None None = k-universal_operation walk o at a b
k-by_kinds walk o at a b None (Some k) = k-typed_operation walk o at k k a b
k-by_kinds walk o at a b (Some k) None = k-typed_operation walk o at k k a b
k-by_kinds walk o at a b (Some j) (Some k) = k-if walk (same j k) (typed_operation o at k k a b) (fault at WrongType) (k-typed_operation walk o at k k a b) (k-fault walk at WrongType)

pub k-operation : (walk : Walk) (x0 : Op) (x1 : ℕ) (x2 : Found) (x3 : Found) → Keeps walk (operation x0 x1 x2 x3)
unfolding operation
k-operation walk o at a b = k-if walk (is_number a.known && is_number b.known) (by_kinds o at a b (kind_of a.known) (kind_of b.known)) (fault (operand_blamed a.known at) WrongType) (k-by_kinds walk o at a b (kind_of a.known) (kind_of b.known)) (k-fault walk (operand_blamed a.known at) WrongType)

pub k-binary : (walk : Walk) (x0 : Op) (x1 : ℕ) (x2 : Option Found) (x3 : Option Found) → Keeps walk (binary x0 x1 x2 x3)
unfolding binary
k-binary walk o at x y = k-both walk x y (operation o at) (λ z1 z2. k-operation walk o at z1 z2)

pub k-universal_power : (walk : Walk) (x0 : ℕ) (x1 : Found) (x2 : Found) → Keeps walk (universal_power x0 x1 x2)
unfolding universal_power
k-universal_power walk at a b = k-bind walk ((asked kind.Integer b)) (λ y. given y (λ n. pure (option_map (open_power at (first_of a.known) n) (open_of a)))) (k-asked walk kind.Integer b) (λ y. k-given walk y (λ n. pure (option_map (open_power at (first_of a.known) n) (open_of a))) (λ n. k-pure walk (option_map (open_power at (first_of a.known) n) (open_of a))))

pub k-static_power : (walk : Walk) (x0 : Found) (x1 : ℤ) (x2 : Found) (x3 : ℤ) → Keeps walk (static_power x0 x1 x2 x3)
unfolding static_power
k-static_power walk a u b v = k-bind walk ((fitting kind.Integer (first_of b.known) v)) (λ y. if y then static_universal (first_of a.known) (both_mentions a b) (exact op.Pow u v) else pure None) (k-fitting walk kind.Integer (first_of b.known) v) (λ y. k-if walk (y) (static_universal (first_of a.known) (both_mentions a b) (exact op.Pow u v)) (pure None) (k-static_universal walk (first_of a.known) (both_mentions a b) (exact op.Pow u v)) (k-pure walk None))

pub k-universal_to : (walk : Walk) (x0 : ℕ) (x1 : Found) (x2 : Found) (x3 : Option ℤ) (x4 : Option ℤ) → Keeps walk (universal_to x0 x1 x2 x3 x4)
k-universal_to walk at a b (Some u) (Some v) = k-static_power walk a u b v
k-universal_to walk at a b _ _ = k-universal_power walk at a b

pub k-power_to : (walk : Walk) (x0 : ℕ) (x1 : Found) (x2 : Found) (x3 : Option Kind) → Keeps walk (power_to x0 x1 x2 x3)
k-power_to walk at a b (Some k) = k-typed_operation walk op.Pow at k kind.Integer a b
k-power_to walk at a b None = k-universal_to walk at a b (value_of a.known) (value_of b.known)

pub k-power : (walk : Walk) (x0 : ℕ) (x1 : Option Found) (x2 : Option Found) → Keeps walk (power x0 x1 x2)
unfolding power
k-power walk at x y = k-both walk x y (λ a b. if is_number a.known && suits kind.Integer b.known then power_to at a b (kind_of a.known) else fault at WrongType) (λ a b. k-if walk (is_number a.known && suits kind.Integer b.known) (power_to at a b (kind_of a.known)) (fault at WrongType) (k-power_to walk at a b (kind_of a.known)) (k-fault walk at WrongType))

pub k-static_unary : (walk : Walk) (x0 : Unary) (x1 : ℕ) (x2 : Kind) (x3 : Found) (x4 : ℤ) → Keeps walk (static_unary x0 x1 x2 x3 x4)
k-static_unary walk s at k a z = k-bind walk (fitting k (first_of a.known) z) (λ x. if x then static_of at k a.part (signed s z) else pure None) (k-fitting walk k (first_of a.known) z) (λ x. k-if walk (x) (static_of at k a.part (signed s z)) (pure None) (k-static_of walk at k a.part (signed s z)) (k-pure walk None))

pub k-unary_typed : (walk : Walk) (x0 : Unary) (x1 : ℕ) (x2 : Kind) (x3 : Found) (x4 : Option ℤ) → Keeps walk (unary_typed x0 x1 x2 x3 x4)
k-unary_typed walk s at k a (Some z) = k-static_unary walk s at k a z
k-unary_typed walk s at k a None = k-bind walk (asked k a) (λ x. given x (λ n. some (scalar at k None (typed.Unary at s (class_of k) (as_expr n))))) (k-asked walk k a) (λ x. k-given walk x (λ n. some (scalar at k None (typed.Unary at s (class_of k) (as_expr n)))) (λ n. k-some walk (scalar at k None (typed.Unary at s (class_of k) (as_expr n)))))

pub k-unary_open : (walk : Walk) (x0 : Unary) (x1 : ℕ) (x2 : Found) (x3 : Option ℤ) → Keeps walk (unary_open x0 x1 x2 x3)
k-unary_open walk s at a (Some z) = k-static_universal walk at a.part (signed s z)
k-unary_open walk s at a None = k-pure walk (option_map (open_unary s at) (open_of a))

pub k-unary_by : (walk : Walk) (x0 : Unary) (x1 : ℕ) (x2 : Found) (x3 : Option Kind) → Keeps walk (unary_by x0 x1 x2 x3)
k-unary_by walk s at a (Some k) = k-unary_typed walk s at k a (value_of a.known)
k-unary_by walk s at a None = k-unary_open walk s at a (value_of a.known)

pub k-unary : (walk : Walk) (x0 : Unary) (x1 : ℕ) (x2 : Option Found) → Keeps walk (unary x0 x1 x2)
unfolding unary
k-unary walk s at x = k-given walk x (λ a. if is_number a.known then unary_by s at a (kind_of a.known) else fault at WrongType) (λ a. k-if walk (is_number a.known) (unary_by s at a (kind_of a.known)) (fault at WrongType) (k-unary_by walk s at a (kind_of a.known)) (k-fault walk at WrongType))

pub k-plain_typed : (walk : Walk) (x0 : ℕ) (x1 : Kind) (x2 : Found) (x3 : Option ℤ) → Keeps walk (plain_typed x0 x1 x2 x3)
k-plain_typed walk at k a (Some z) = k-static_of walk at k a.part (Some z)
k-plain_typed walk at k a None = k-bind walk (asked k a) (λ x. given x (λ n. some (scalar at k None (typed.Group (as_expr n))))) (k-asked walk k a) (λ x. k-given walk x (λ n. some (scalar at k None (typed.Group (as_expr n)))) (λ n. k-some walk (scalar at k None (typed.Group (as_expr n)))))

pub k-plain_open : (walk : Walk) (x0 : ℕ) (x1 : Found) (x2 : Option ℤ) → Keeps walk (plain_open x0 x1 x2)
k-plain_open walk at a (Some z) = k-some walk (universal at z false a.part)
k-plain_open walk at a None = k-pure walk (option_map (open_plain at) (open_of a))

pub k-plain_by : (walk : Walk) (x0 : ℕ) (x1 : Found) (x2 : Option Kind) → Keeps walk (plain_by x0 x1 x2)
k-plain_by walk at a (Some k) = k-plain_typed walk at k a (value_of a.known)
k-plain_by walk at a None = k-plain_open walk at a (value_of a.known)

pub k-plain : (walk : Walk) (x0 : ℕ) (x1 : Option Found) → Keeps walk (plain x0 x1)
unfolding plain
k-plain walk at x = k-given walk x (λ a. if is_number a.known then plain_by at a (kind_of a.known) else fault at WrongType) (λ a. k-if walk (is_number a.known) (plain_by at a (kind_of a.known)) (fault at WrongType) (k-plain_by walk at a (kind_of a.known)) (k-fault walk at WrongType))

pub k-negation : (walk : Walk) (x0 : ℕ) (x1 : Found) → Keeps walk (negation x0 x1)
k-negation walk at a = k-bind walk (asked kind.Boolean a) (λ x. given x (λ e. some (scalar at kind.Boolean None (typed.Unary at unary'.Not class.Boolean (as_expr e))))) (k-asked walk kind.Boolean a) (λ x. k-given walk x (λ e. some (scalar at kind.Boolean None (typed.Unary at unary'.Not class.Boolean (as_expr e)))) (λ e. k-some walk (scalar at kind.Boolean None (typed.Unary at unary'.Not class.Boolean (as_expr e)))))

k-complement : (walk : Walk) (at : ℕ) (a : Found) (k : Kind) → Keeps walk (complement at a k)
k-complement walk at a k = k-bind walk (asked k a) (λ x. given x (λ e. some (scalar at k None (typed.Unary at unary'.Not (class_of k) (as_expr e))))) (k-asked walk k a) (λ x. k-given walk x (λ e. some (scalar at k None (typed.Unary at unary'.Not (class_of k) (as_expr e)))) (λ e. k-some walk (scalar at k None (typed.Unary at unary'.Not (class_of k) (as_expr e)))))

k-not_by : (walk : Walk) (at : ℕ) (a : Found) (k : Option Kind) → Keeps walk (not_by at a k)
k-not_by walk at a None = k-fault walk at WrongType
k-not_by walk at a (Some k) = k-if walk (same k kind.Boolean) (negation at a) (if is_modular k then complement at a k else fault at WrongType) (k-negation walk at a) (k-if walk (is_modular k) (complement at a k) (fault at WrongType) (k-complement walk at a k) (k-fault walk at WrongType))

pub k-not_of : (walk : Walk) (x0 : ℕ) (x1 : Option Found) → Keeps walk (not_of x0 x1)
unfolding not_of
k-not_of walk at x = k-given walk x (λ a. not_by at a (kind_of a.known)) (λ a. k-not_by walk at a (kind_of a.known))

pub k-joined_texts : (walk : Walk) (x0 : ℕ) (x1 : Known) (x2 : TypedPart) (x3 : Known) (x4 : TypedPart) → Keeps walk (joined_texts x0 x1 x2 x3 x4)
k-joined_texts walk at (known.Text first) ps (known.Text second) qs = k-some walk (text_found first (also_all ps qs))
k-joined_texts walk at _ ps _ qs = k-fault walk at WrongType

pub k-joined_text : (walk : Walk) (x0 : ℕ) (x1 : Option Found) (x2 : Option Found) → Keeps walk (joined_text x0 x1 x2)
unfolding joined_text
k-joined_text walk at x y = k-both walk x y (λ a b. joined_texts at a.known a.part b.known b.part) (λ a b. k-joined_texts walk at a.known a.part b.known b.part)

k-logical_by : (walk : Walk) (o : Op) (at : ℕ) (a b : Found) (k : Kind) → Keeps walk (logical_by o at a b k)
k-logical_by walk o at a b k = k-if walk (is_logical_kind k && (suits k a.known && suits k b.known)) (operation_on o at k k a b) (fault at WrongType) (k-operation_on walk o at k k a b) (k-fault walk at WrongType)

pub k-logical : (walk : Walk) (x0 : Op) (x1 : ℕ) (x2 : Option Found) (x3 : Option Found) → Keeps walk (logical x0 x1 x2 x3)
unfolding logical
k-logical walk o at x y = k-both walk x y (λ a b. logical_by o at a b (common_kind (kind_of a.known) (kind_of b.known))) (λ a b. k-logical_by walk o at a b (common_kind (kind_of a.known) (kind_of b.known)))

pub k-compared_at : (walk : Walk) (x0 : Kind) (x1 : Comparison) (x2 : Found) (x3 : Found) → Keeps walk (compared_at x0 x1 x2 x3)
unfolding compared_at
k-compared_at walk k c a b = record {
  at = λ log.
      let out1 = asked k a log in
      let x = out1.0 in
      let out2 = asked k b out1.1 in
      let y = out2.0 in
      walk.joins _ _ _ ((k-asked walk k a).at log)
      (walk.joins _ _ _ ((k-asked walk k b).at out1.1)
      ((k-both walk x y (λ e f. some (scalar (first_of a.known) kind.Boolean None (typed.Relation (class_of k) c (as_expr e) (as_expr f)))) (λ e f. k-some walk (scalar (first_of a.known) kind.Boolean None (typed.Relation (class_of k) c (as_expr e) (as_expr f))))).at out2.1));
}

pub k-compared_by : (walk : Walk) (x0 : Comparison) (x1 : ℕ) (x2 : Found) (x3 : Found) (x4 : Kind) → Keeps walk (compared_by x0 x1 x2 x3 x4)
k-compared_by walk c at a b k = k-if walk (suits k a.known && suits k b.known) (compared_at k c a b) (fault at WrongType) (k-compared_at walk k c a b) (k-fault walk at WrongType)

pub k-compared : (walk : Walk) (x0 : Comparison) (x1 : ℕ) (x2 : Option Found) (x3 : Option Found) → Keeps walk (compared x0 x1 x2 x3)
unfolding compared
k-compared walk c at x y = k-both walk x y (λ a b. compared_by c at a b (common_kind (kind_of a.known) (kind_of b.known))) (λ a b. k-compared_by walk c at a b (common_kind (kind_of a.known) (kind_of b.known)))

pub k-within_bounds : (walk : Walk) (x0 : ℕ) (x1 : Bool) (x2 : Kind) (x3 : Found) (x4 : Found) (x5 : Found) → Keeps walk (within_bounds x0 x1 x2 x3 x4 x5)
k-within_bounds walk at negated k x low high = k-if walk (not (suits k x.known)) (fault at WrongType) ((asked k x >>= λ e. asked k low >>= λ l. asked k high >>= λ h. given e (λ u. both l h (λ v w. some (member (first_of x.known) negated k (as_expr u) (as_expr v) (as_expr w)))))) (k-fault walk at WrongType) (record { at = λ log. let out1 = asked k x log in let e = out1.0 in let out2 = asked k low out1.1 in let l = out2.0 in let out3 = asked k high out2.1 in let h = out3.0 in walk.joins _ _ _ ((k-asked walk k x).at log) (walk.joins _ _ _ ((k-asked walk k low).at out1.1) (walk.joins _ _ _ ((k-asked walk k high).at out2.1) ((k-given walk e (λ u. both l h (λ v w. some (member (first_of x.known) negated k (as_expr u) (as_expr v) (as_expr w)))) (λ u. k-both walk l h (λ v w. some (member (first_of x.known) negated k (as_expr u) (as_expr v) (as_expr w))) (λ v w. k-some walk (member (first_of x.known) negated k (as_expr u) (as_expr v) (as_expr w))))).at out3.1))) })

pub k-member_of : (walk : Walk) (x0 : ℕ) (x1 : Bool) (x2 : Found) (x3 : Found) (x4 : Found) → Keeps walk (member_of x0 x1 x2 x3 x4)
k-member_of walk at negated a l h = k-if walk (not (is_scalar a.known)) (fault at WrongType) (if not (is_scalar l.known) then fault (first_of l.known) WrongType else if not (is_scalar h.known) then fault (first_of h.known) WrongType else within_bounds at negated (common_kind (first_kind (kind_of a.known) (kind_of l.known)) (kind_of h.known)) a l h) (k-fault walk at WrongType) (k-if walk (not (is_scalar l.known)) (fault (first_of l.known) WrongType) (if not (is_scalar h.known) then fault (first_of h.known) WrongType else within_bounds at negated (common_kind (first_kind (kind_of a.known) (kind_of l.known)) (kind_of h.known)) a l h) (k-fault walk (first_of l.known) WrongType) (k-if walk (not (is_scalar h.known)) (fault (first_of h.known) WrongType) (within_bounds at negated (common_kind (first_kind (kind_of a.known) (kind_of l.known)) (kind_of h.known)) a l h) (k-fault walk (first_of h.known) WrongType) (k-within_bounds walk at negated (common_kind (first_kind (kind_of a.known) (kind_of l.known)) (kind_of h.known)) a l h)))

pub k-membership : (walk : Walk) (x0 : ℕ) (x1 : Bool) (x2 : Option Found) (x3 : Option Found) (x4 : Option Found) → Keeps walk (membership x0 x1 x2 x3 x4)
unfolding membership
k-membership walk at negated x low high = k-given walk x (λ a. both low high (member_of at negated a)) (λ a. k-both walk low high (member_of at negated a) (λ z1 z2. k-member_of walk at negated a z1 z2))

pub k-of_subtype : (walk : Walk) (x0 : ℕ) (x1 : Bool) (x2 : ℕ) (x3 : Option Found) (x4 : Option Scalar) → Keeps walk (of_subtype x0 x1 x2 x3 x4)
unfolding of_subtype
k-of_subtype walk at negated mark x s = k-both walk x s (λ a t. if suits t.kind a.known then (asked t.kind a >>= λ e. given e (λ u. some (member (first_of a.known) negated t.kind (as_expr u) (limit_of mark t.low) (limit_of mark t.high)))) else fault at WrongType) (λ a t. k-if walk (suits t.kind a.known) ((asked t.kind a >>= λ e. given e (λ u. some (member (first_of a.known) negated t.kind (as_expr u) (limit_of mark t.low) (limit_of mark t.high))))) (fault at WrongType) (k-bind walk (asked t.kind a) (λ e. given e (λ u. some (member (first_of a.known) negated t.kind (as_expr u) (limit_of mark t.low) (limit_of mark t.high)))) (k-asked walk t.kind a) (λ e. k-given walk e (λ u. some (member (first_of a.known) negated t.kind (as_expr u) (limit_of mark t.low) (limit_of mark t.high))) (λ u. k-some walk (member (first_of a.known) negated t.kind (as_expr u) (limit_of mark t.low) (limit_of mark t.high))))) (k-fault walk at WrongType))
