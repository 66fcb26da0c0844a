-- What is found is formed: operators.
use Rattle.std.proofs.Common.{◌≡◌, refl, ℕ, ℤ, Option, Some, None, Bool, false, option_map, ◌&&◌}
use Rattle.std.specs.Prelude.{not}
use Rattle.ada_base.specs.declared.operation.Op.{Op}
use Rattle.ada_base.specs.declared.operation.Op.TheVariants as op
use Rattle.typed_tree.specs.Decoded.{TypedPart, as_expr}
use Rattle.typed_tree.specs.Syntax as typed
use Rattle.typed_tree.specs.declared.expressions.Sign.TheVariants as unary'
use Rattle.typed_tree.specs.declared.expressions.Sign.{Sign}
use Rattle.typed_tree.specs.declared.scalars.Class.TheVariants as class
use Rattle.ada_base.specs.declared.operation.Comparison.{Comparison}
use Rattle.name_rules.specs.Found.{Found, scalar, static, text_found, universal}
use Rattle.name_rules.specs.Judging.{fault, pure, some}
use Rattle.name_rules.specs.Operators.{binary, both_mentions, by_kinds, common_kind, compared, compared_at, compared_by, first_kind, joined_text, joined_texts, leaf, limit_of, logical, member, member_of, membership, negation, not_of, of_subtype, open_binary, open_form, open_of, open_plain, open_power, open_two, open_unary, operand_blamed, operation, operation_by, operation_on, plain, plain_by, plain_open, plain_typed, power, power_to, signed, static_of, static_operation, static_power, static_unary, static_universal, typed_operation, unary, unary_by, unary_open, unary_typed, universal_by, universal_operation, universal_power, universal_to, within_bounds, complement, not_by, is_logical_kind, logical_by}
use Rattle.name_rules.specs.TypedParts.{also_all}
use Rattle.name_rules.specs.Types.{class_of, in_base, same, is_modular}
use Rattle.name_rules.specs.Values.{asked, exact, first_of, fitting, is_number, is_scalar, kind_of, mentions_of, suits, value_of}
use Rattle.name_rules.specs.declared.found.Found.TheVariants as known
use Rattle.name_rules.specs.declared.found.Found.{Found as Known}
use Rattle.name_rules.specs.declared.found.Limits.{Limits}
use Rattle.name_rules.specs.declared.log.Rule.TheVariants.{StaticRange, WrongType}
use Rattle.name_rules.specs.declared.types.Kind.{Kind}
use Rattle.name_rules.specs.declared.types.Kind.TheVariants as kind
use Rattle.name_rules.specs.declared.types.Scalar.{Scalar}
use Rattle.name_formed.proofs.Forms.{Any, Forms, Maybe, Sight, World, any, f-bind, f-both, f-fault, f-given, f-if, f-none, f-pure, f-some, joint, mapped}
use Rattle.name_formed.proofs.FormsFound.{ExprOf, FoundOf, IsPiece, KnownOf, MentionsOf, OpenOf, each-all}
use Rattle.name_formed.proofs.FormsValues.{class-settled, exprs-formed, f-asked, f-fitting, formed-class, is-settled, static-mentions, static-part}

module _ (W : World) (V : Sight) where
  -- ---- static results

  f-static_of : (first : ℕ) (k : Kind) (ms : TypedPart) (z : Option ℤ) → MentionsOf W V ms → Forms W V (Maybe (FoundOf W V)) (static_of first k ms z)
  unfolding static_of
  f-static_of first k ms None h = f-fault W V (FoundOf W V) first StaticRange
  f-static_of first k ms (Some z) h = f-if W V (Maybe (FoundOf W V)) (in_base k z) (some (static first k z ms)) (fault first StaticRange) (f-some W V (FoundOf W V) (static first k z ms) h) (f-fault W V (FoundOf W V) first StaticRange)

  f-static_universal : (first : ℕ) (ms : TypedPart) (z : Option ℤ) → MentionsOf W V ms → Forms W V (Maybe (FoundOf W V)) (static_universal first ms z)
  unfolding static_universal
  f-static_universal first ms None h = f-fault W V (FoundOf W V) first StaticRange
  f-static_universal first ms (Some z) h = f-some W V (FoundOf W V) (universal first z false ms) h

  pub both-mentions : (a b : Found) (u v : ℤ) → FoundOf W V a → FoundOf W V b → value_of a.known ≡ Some u → value_of b.known ≡ Some v → MentionsOf W V (both_mentions a b)
  both-mentions a b u v g h d e = each-all (ExprOf W V) (mentions_of a) (mentions_of b) (static-mentions W V a.known a.part u g d) (static-mentions W V b.known b.part v h e)

  f-static_operation : (o : Op) (k j : Kind) (a : Found) (u : ℤ) (b : Found) (v : ℤ) → MentionsOf W V (both_mentions a b) → Forms W V (Maybe (FoundOf W V)) (static_operation o k j a u b v)
  unfolding static_operation
  f-static_operation o k j a u b v m =
      f-bind W V Any (Maybe (FoundOf W V)) (fitting k (first_of a.known) u) _ (f-fitting W V k (first_of a.known) u) (λ x p.
      f-bind W V Any (Maybe (FoundOf W V)) (fitting j (first_of b.known) v) _ (f-fitting W V j (first_of b.known) v) (λ y q.
      f-if W V (Maybe (FoundOf W V)) (x && y) (static_of (first_of a.known) k (both_mentions a b) (exact o u v)) (pure None) (f-static_of (first_of a.known) k (both_mentions a b) (exact o u v) m) (f-none W V (FoundOf W V))))

  -- ---- binary operators on values of a type

  f-operation_on : (o : Op) (at : ℕ) (k j : Kind) (a b : Found) → FoundOf W V a → FoundOf W V b → Forms W V (Maybe (FoundOf W V)) (operation_on o at k j a b)
  unfolding operation_on
  f-operation_on o at k j a b g h =
      f-bind W V (Maybe (ExprOf W V)) (Maybe (FoundOf W V)) (asked k a) _ (f-asked W V k a g) (λ x q.
      f-bind W V (Maybe (ExprOf W V)) (Maybe (FoundOf W V)) (asked j b) _ (f-asked W V j b h) (λ y r.
      f-both W V (ExprOf W V) (ExprOf W V) (FoundOf W V) x y _ q r (λ m n s t.
      f-some W V (FoundOf W V) (scalar (first_of a.known) k None (typed.Binary at o (class_of k) (as_expr m) (as_expr n))) (is-settled k, s, t))))

  f-operation_by : (o : Op) (at : ℕ) (k j : Kind) (a b : Found) (x y : Option ℤ) → value_of a.known ≡ x → value_of b.known ≡ y → FoundOf W V a → FoundOf W V b → Forms W V (Maybe (FoundOf W V)) (operation_by o at k j a b x y)
  f-operation_by o at k j a b (Some u) (Some v) d e g h = f-static_operation o k j a u b v (both-mentions a b u v g h d e)
  f-operation_by o at k j a b (Some u) None d e g h = f-operation_on o at k j a b g h
  f-operation_by o at k j a b None y d e g h = f-operation_on o at k j a b g h

  f-typed_operation : (o : Op) (at : ℕ) (k j : Kind) (a b : Found) → FoundOf W V a → FoundOf W V b → Forms W V (Maybe (FoundOf W V)) (typed_operation o at k j a b)
  unfolding typed_operation
  f-typed_operation o at k j a b g h = f-operation_by o at k j a b (value_of a.known) (value_of b.known) refl refl g h

  -- ---- on universal values

  -- a part that waits for its type
  abbrev pub WaitsOf : Limits × TypedPart → Type 0
  WaitsOf x = OpenOf W V (as_expr x.1)

  leaf-open : (first : ℕ) (z : ℤ) (x : TypedPart) → MentionsOf W V x → OpenOf W V (leaf first z x)
  leaf-open first z x h c i = exprs-formed W V x h

  open-form : (f : Known) (x : TypedPart) → KnownOf W V f x → Maybe WaitsOf (open_form f x)
  open-form (known.Universal first z alone) x h = leaf-open first z x h
  open-form (known.Open first l) x h = h
  open-form f x h = tt

  pub open-found : (f : Found) → FoundOf W V f → Maybe WaitsOf (open_of f)
  unfolding open_of
  open-found f h = open-form f.known f.part h

  open-two : (o : Op) (at first : ℕ) (x y : Limits × TypedPart) → WaitsOf x → WaitsOf y → FoundOf W V (open_two o at first x y)
  open-two o at first x y g h c i = (class-settled c class.Universal i, g c i, h c i)

  f-open_binary : (o : Op) (at : ℕ) (a b : Found) → FoundOf W V a → FoundOf W V b → Maybe (FoundOf W V) (open_binary o at a b)
  unfolding open_binary
  f-open_binary o at a b g h = joint WaitsOf WaitsOf (FoundOf W V) (open_two o at (first_of a.known)) (open_of a) (open_of b) (open-found a g) (open-found b h) (λ x y p q. open-two o at (first_of a.known) x y p q)

  f-universal_by : (o : Op) (at : ℕ) (a b : Found) (x y : Option ℤ) → value_of a.known ≡ x → value_of b.known ≡ y → FoundOf W V a → FoundOf W V b → Forms W V (Maybe (FoundOf W V)) (universal_by o at a b x y)
  f-universal_by o at a b (Some u) (Some v) d e g h = f-static_universal (first_of a.known) (both_mentions a b) (exact o u v) (both-mentions a b u v g h d e)
  f-universal_by o at a b (Some u) None d e g h = f-pure W V (Maybe (FoundOf W V)) (open_binary o at a b) (f-open_binary o at a b g h)
  f-universal_by o at a b None y d e g h = f-pure W V (Maybe (FoundOf W V)) (open_binary o at a b) (f-open_binary o at a b g h)

  f-universal_operation : (o : Op) (at : ℕ) (a b : Found) → FoundOf W V a → FoundOf W V b → Forms W V (Maybe (FoundOf W V)) (universal_operation o at a b)
  unfolding universal_operation
  f-universal_operation o at a b g h = f-universal_by o at a b (value_of a.known) (value_of b.known) refl refl g h

  f-by_kinds : (o : Op) (at : ℕ) (a b : Found) (x y : Option Kind) → FoundOf W V a → FoundOf W V b → Forms W V (Maybe (FoundOf W V)) (by_kinds o at a b x y)
  f-by_kinds o at a b None None g h = f-universal_operation o at a b g h
  f-by_kinds o at a b None (Some k) g h = f-typed_operation o at k k a b g h
  f-by_kinds o at a b (Some k) None g h = f-typed_operation o at k k a b g h
  f-by_kinds o at a b (Some j) (Some k) g h = f-if W V (Maybe (FoundOf W V)) (same j k) (typed_operation o at k k a b) (fault at WrongType) (f-typed_operation o at k k a b g h) (f-fault W V (FoundOf W V) at WrongType)

  f-operation : (o : Op) (at : ℕ) (a b : Found) → FoundOf W V a → FoundOf W V b → Forms W V (Maybe (FoundOf W V)) (operation o at a b)
  unfolding operation
  f-operation o at a b g h =
      f-if W V (Maybe (FoundOf W V)) (is_number a.known && is_number b.known) (by_kinds o at a b (kind_of a.known) (kind_of b.known)) (fault (operand_blamed a.known at) WrongType)
      (f-by_kinds o at a b (kind_of a.known) (kind_of b.known) g h) (f-fault W V (FoundOf W V) (operand_blamed a.known at) WrongType)

  pub f-binary : (o : Op) (at : ℕ) (x y : Option Found) → Maybe (FoundOf W V) x → Maybe (FoundOf W V) y → Forms W V (Maybe (FoundOf W V)) (binary o at x y)
  unfolding binary
  f-binary o at x y g h = f-both W V (FoundOf W V) (FoundOf W V) (FoundOf W V) x y (operation o at) g h (λ a b p q. f-operation o at a b p q)

  -- ---- powers

  open-power : (at first : ℕ) (n : TypedPart) (x : Limits × TypedPart) → ExprOf W V n → WaitsOf x → FoundOf W V (open_power at first n x)
  open-power at first n x g h c i = (class-settled c class.Universal i, h c i, formed-class W V c (as_expr n) g)

  f-universal_power : (at : ℕ) (a b : Found) → FoundOf W V a → FoundOf W V b → Forms W V (Maybe (FoundOf W V)) (universal_power at a b)
  unfolding universal_power
  f-universal_power at a b g h =
      f-bind W V (Maybe (ExprOf W V)) (Maybe (FoundOf W V)) (asked kind.Integer b) _ (f-asked W V kind.Integer b h) (λ y q.
      f-given W V (ExprOf W V) (FoundOf W V) y _ q (λ n r.
      f-pure W V (Maybe (FoundOf W V)) (option_map (open_power at (first_of a.known) n) (open_of a)) (mapped WaitsOf (FoundOf W V) (open_power at (first_of a.known) n) (open_of a) (open-found a g) (λ x p. open-power at (first_of a.known) n x r p))))

  f-static_power : (a : Found) (u : ℤ) (b : Found) (v : ℤ) → MentionsOf W V (both_mentions a b) → Forms W V (Maybe (FoundOf W V)) (static_power a u b v)
  unfolding static_power
  f-static_power a u b v m =
      f-bind W V Any (Maybe (FoundOf W V)) (fitting kind.Integer (first_of b.known) v) _ (f-fitting W V kind.Integer (first_of b.known) v) (λ y q.
      f-if W V (Maybe (FoundOf W V)) y (static_universal (first_of a.known) (both_mentions a b) (exact op.Pow u v)) (pure None) (f-static_universal (first_of a.known) (both_mentions a b) (exact op.Pow u v) m) (f-none W V (FoundOf W V)))

  f-universal_to : (at : ℕ) (a b : Found) (x y : Option ℤ) → value_of a.known ≡ x → value_of b.known ≡ y → FoundOf W V a → FoundOf W V b → Forms W V (Maybe (FoundOf W V)) (universal_to at a b x y)
  f-universal_to at a b (Some u) (Some v) d e g h = f-static_power a u b v (both-mentions a b u v g h d e)
  f-universal_to at a b (Some u) None d e g h = f-universal_power at a b g h
  f-universal_to at a b None y d e g h = f-universal_power at a b g h

  f-power_to : (at : ℕ) (a b : Found) (k : Option Kind) → FoundOf W V a → FoundOf W V b → Forms W V (Maybe (FoundOf W V)) (power_to at a b k)
  f-power_to at a b (Some k) g h = f-typed_operation op.Pow at k kind.Integer a b g h
  f-power_to at a b None g h = f-universal_to at a b (value_of a.known) (value_of b.known) refl refl g h

  pub f-power : (at : ℕ) (x y : Option Found) → Maybe (FoundOf W V) x → Maybe (FoundOf W V) y → Forms W V (Maybe (FoundOf W V)) (power at x y)
  unfolding power
  f-power at x y g h = f-both W V (FoundOf W V) (FoundOf W V) (FoundOf W V) x y _ g h (λ a b p q.
      f-if W V (Maybe (FoundOf W V)) (is_number a.known && suits kind.Integer b.known) (power_to at a b (kind_of a.known)) (fault at WrongType) (f-power_to at a b (kind_of a.known) p q) (f-fault W V (FoundOf W V) at WrongType))

  -- ---- unary operators

  f-static_unary : (s : Sign) (at : ℕ) (k : Kind) (a : Found) (z : ℤ) → MentionsOf W V a.part → Forms W V (Maybe (FoundOf W V)) (static_unary s at k a z)
  f-static_unary s at k a z m =
      f-bind W V Any (Maybe (FoundOf W V)) (fitting k (first_of a.known) z) _ (f-fitting W V k (first_of a.known) z) (λ x q.
      f-if W V (Maybe (FoundOf W V)) x (static_of at k a.part (signed s z)) (pure None) (f-static_of at k a.part (signed s z) m) (f-none W V (FoundOf W V)))

  f-unary_typed : (s : Sign) (at : ℕ) (k : Kind) (a : Found) (z : Option ℤ) → value_of a.known ≡ z → FoundOf W V a → Forms W V (Maybe (FoundOf W V)) (unary_typed s at k a z)
  f-unary_typed s at k a (Some z) e g = f-static_unary s at k a z (static-part W V a.known a.part z g e)
  f-unary_typed s at k a None d g =
      f-bind W V (Maybe (ExprOf W V)) (Maybe (FoundOf W V)) (asked k a) _ (f-asked W V k a g) (λ x q.
      f-given W V (ExprOf W V) (FoundOf W V) x _ q (λ n r. f-some W V (FoundOf W V) (scalar at k None (typed.Unary at s (class_of k) (as_expr n))) (is-settled k, r)))

  f-unary_open : (s : Sign) (at : ℕ) (a : Found) (z : Option ℤ) → value_of a.known ≡ z → FoundOf W V a → Forms W V (Maybe (FoundOf W V)) (unary_open s at a z)
  f-unary_open s at a (Some z) e g = f-static_universal at a.part (signed s z) (static-part W V a.known a.part z g e)
  f-unary_open s at a None d g = f-pure W V (Maybe (FoundOf W V)) (option_map (open_unary s at) (open_of a)) (mapped WaitsOf (FoundOf W V) (open_unary s at) (open_of a) (open-found a g) (λ x p c i. (class-settled c class.Universal i, p c i)))

  f-unary_by : (s : Sign) (at : ℕ) (a : Found) (k : Option Kind) → FoundOf W V a → Forms W V (Maybe (FoundOf W V)) (unary_by s at a k)
  f-unary_by s at a (Some k) g = f-unary_typed s at k a (value_of a.known) refl g
  f-unary_by s at a None g = f-unary_open s at a (value_of a.known) refl g

  pub f-unary : (s : Sign) (at : ℕ) (x : Option Found) → Maybe (FoundOf W V) x → Forms W V (Maybe (FoundOf W V)) (unary s at x)
  unfolding unary
  f-unary s at x g = f-given W V (FoundOf W V) (FoundOf W V) x _ g (λ a p.
      f-if W V (Maybe (FoundOf W V)) (is_number a.known) (unary_by s at a (kind_of a.known)) (fault at WrongType) (f-unary_by s at a (kind_of a.known) p) (f-fault W V (FoundOf W V) at WrongType))

  f-plain_typed : (at : ℕ) (k : Kind) (a : Found) (z : Option ℤ) → value_of a.known ≡ z → FoundOf W V a → Forms W V (Maybe (FoundOf W V)) (plain_typed at k a z)
  f-plain_typed at k a (Some z) e g = f-static_of at k a.part (Some z) (static-part W V a.known a.part z g e)
  f-plain_typed at k a None d g =
      f-bind W V (Maybe (ExprOf W V)) (Maybe (FoundOf W V)) (asked k a) _ (f-asked W V k a g) (λ x q.
      f-given W V (ExprOf W V) (FoundOf W V) x _ q (λ n r. f-some W V (FoundOf W V) (scalar at k None (typed.Group (as_expr n))) r))

  f-plain_open : (at : ℕ) (a : Found) (z : Option ℤ) → value_of a.known ≡ z → FoundOf W V a → Forms W V (Maybe (FoundOf W V)) (plain_open at a z)
  f-plain_open at a (Some z) e g = f-some W V (FoundOf W V) (universal at z false a.part) (static-part W V a.known a.part z g e)
  f-plain_open at a None d g = f-pure W V (Maybe (FoundOf W V)) _ (mapped WaitsOf (FoundOf W V) (open_plain at) (open_of a) (open-found a g) (λ x p. p))

  f-plain_by : (at : ℕ) (a : Found) (k : Option Kind) → FoundOf W V a → Forms W V (Maybe (FoundOf W V)) (plain_by at a k)
  f-plain_by at a (Some k) g = f-plain_typed at k a (value_of a.known) refl g
  f-plain_by at a None g = f-plain_open at a (value_of a.known) refl g

  pub f-plain : (at : ℕ) (x : Option Found) → Maybe (FoundOf W V) x → Forms W V (Maybe (FoundOf W V)) (plain at x)
  unfolding plain
  f-plain at x g = f-given W V (FoundOf W V) (FoundOf W V) x _ g (λ a p.
      f-if W V (Maybe (FoundOf W V)) (is_number a.known) (plain_by at a (kind_of a.known)) (fault at WrongType) (f-plain_by at a (kind_of a.known) p) (f-fault W V (FoundOf W V) at WrongType))

  f-negation : (at : ℕ) (a : Found) → FoundOf W V a → Forms W V (Maybe (FoundOf W V)) (negation at a)
  f-negation at a g =
      f-bind W V (Maybe (ExprOf W V)) (Maybe (FoundOf W V)) (asked kind.Boolean a) _ (f-asked W V kind.Boolean a g) (λ x q.
      f-given W V (ExprOf W V) (FoundOf W V) x _ q (λ e r. f-some W V (FoundOf W V) (scalar at kind.Boolean None (typed.Unary at unary'.Not class.Boolean (as_expr e))) (tt, r)))

  f-complement : (at : ℕ) (a : Found) (k : Kind) → FoundOf W V a → Forms W V (Maybe (FoundOf W V)) (complement at a k)
  f-complement at a k g =
      f-bind W V (Maybe (ExprOf W V)) (Maybe (FoundOf W V)) (asked k a) _ (f-asked W V k a g) (λ x q.
      f-given W V (ExprOf W V) (FoundOf W V) x _ q (λ e r. f-some W V (FoundOf W V) (scalar at k None (typed.Unary at unary'.Not (class_of k) (as_expr e))) (is-settled k, r)))

  f-not_by : (at : ℕ) (a : Found) (k : Option Kind) → FoundOf W V a → Forms W V (Maybe (FoundOf W V)) (not_by at a k)
  f-not_by at a None g = f-fault W V (FoundOf W V) at WrongType
  f-not_by at a (Some k) g =
      f-if W V (Maybe (FoundOf W V)) (same k kind.Boolean) (negation at a) _ (f-negation at a g)
      (f-if W V (Maybe (FoundOf W V)) (is_modular k) (complement at a k) (fault at WrongType) (f-complement at a k g) (f-fault W V (FoundOf W V) at WrongType))

  pub f-not_of : (at : ℕ) (x : Option Found) → Maybe (FoundOf W V) x → Forms W V (Maybe (FoundOf W V)) (not_of at x)
  unfolding not_of
  f-not_of at x g = f-given W V (FoundOf W V) (FoundOf W V) x _ g (λ a p. f-not_by at a (kind_of a.known) p)

  -- ---- strings, logical operators, relations, membership

  f-joined_texts : (at : ℕ) (j : Known) (ps : TypedPart) (k : Known) (qs : TypedPart) → KnownOf W V j ps → KnownOf W V k qs → Forms W V (Maybe (FoundOf W V)) (joined_texts at j ps k qs)
  f-joined_texts at (known.Text first) ps (known.Text second) qs g h = f-some W V (FoundOf W V) (text_found first (also_all ps qs)) (each-all (IsPiece W V) ps qs g h)
  f-joined_texts at j ps k qs g h = f-fault W V (FoundOf W V) at WrongType

  pub f-joined_text : (at : ℕ) (x y : Option Found) → Maybe (FoundOf W V) x → Maybe (FoundOf W V) y → Forms W V (Maybe (FoundOf W V)) (joined_text at x y)
  unfolding joined_text
  f-joined_text at x y g h = f-both W V (FoundOf W V) (FoundOf W V) (FoundOf W V) x y _ g h (λ a b p q. f-joined_texts at a.known a.part b.known b.part p q)

  f-logical_by : (o : Op) (at : ℕ) (a b : Found) (k : Kind) → FoundOf W V a → FoundOf W V b → Forms W V (Maybe (FoundOf W V)) (logical_by o at a b k)
  f-logical_by o at a b k p q =
      f-if W V (Maybe (FoundOf W V)) (is_logical_kind k && (suits k a.known && suits k b.known)) (operation_on o at k k a b) (fault at WrongType)
      (f-operation_on o at k k a b p q) (f-fault W V (FoundOf W V) at WrongType)

  pub f-logical : (o : Op) (at : ℕ) (x y : Option Found) → Maybe (FoundOf W V) x → Maybe (FoundOf W V) y → Forms W V (Maybe (FoundOf W V)) (logical o at x y)
  unfolding logical
  f-logical o at x y g h = f-both W V (FoundOf W V) (FoundOf W V) (FoundOf W V) x y _ g h (λ a b p q. f-logical_by o at a b (common_kind (kind_of a.known) (kind_of b.known)) p q)

  f-compared_at : (k : Kind) (c : Comparison) (a b : Found) → FoundOf W V a → FoundOf W V b → Forms W V (Maybe (FoundOf W V)) (compared_at k c a b)
  unfolding compared_at
  f-compared_at k c a b g h =
      f-bind W V (Maybe (ExprOf W V)) (Maybe (FoundOf W V)) (asked k a) _ (f-asked W V k a g) (λ x q.
      f-bind W V (Maybe (ExprOf W V)) (Maybe (FoundOf W V)) (asked k b) _ (f-asked W V k b h) (λ y r.
      f-both W V (ExprOf W V) (ExprOf W V) (FoundOf W V) x y _ q r (λ e f s t. f-some W V (FoundOf W V) (scalar (first_of a.known) kind.Boolean None (typed.Relation (class_of k) c (as_expr e) (as_expr f))) (is-settled k, s, t))))

  f-compared_by : (c : Comparison) (at : ℕ) (a b : Found) (k : Kind) → FoundOf W V a → FoundOf W V b → Forms W V (Maybe (FoundOf W V)) (compared_by c at a b k)
  f-compared_by c at a b k g h = f-if W V (Maybe (FoundOf W V)) (suits k a.known && suits k b.known) (compared_at k c a b) (fault at WrongType) (f-compared_at k c a b g h) (f-fault W V (FoundOf W V) at WrongType)

  pub f-compared : (c : Comparison) (at : ℕ) (x y : Option Found) → Maybe (FoundOf W V) x → Maybe (FoundOf W V) y → Forms W V (Maybe (FoundOf W V)) (compared c at x y)
  unfolding compared
  f-compared c at x y g h = f-both W V (FoundOf W V) (FoundOf W V) (FoundOf W V) x y _ g h (λ a b p q. f-compared_by c at a b (common_kind (kind_of a.known) (kind_of b.known)) p q)

  f-within_bounds : (at : ℕ) (negated : Bool) (k : Kind) (x low high : Found) → FoundOf W V x → FoundOf W V low → FoundOf W V high → Forms W V (Maybe (FoundOf W V)) (within_bounds at negated k x low high)
  f-within_bounds at negated k x low high f g h =
      f-if W V (Maybe (FoundOf W V)) (not (suits k x.known)) (fault at WrongType) _ (f-fault W V (FoundOf W V) at WrongType)
      (f-bind W V (Maybe (ExprOf W V)) (Maybe (FoundOf W V)) (asked k x) _ (f-asked W V k x f) (λ e p.
      f-bind W V (Maybe (ExprOf W V)) (Maybe (FoundOf W V)) (asked k low) _ (f-asked W V k low g) (λ l q.
      f-bind W V (Maybe (ExprOf W V)) (Maybe (FoundOf W V)) (asked k high) _ (f-asked W V k high h) (λ m r.
      f-given W V (ExprOf W V) (FoundOf W V) e _ p (λ u s. f-both W V (ExprOf W V) (ExprOf W V) (FoundOf W V) l m _ q r (λ v w t i.
      f-some W V (FoundOf W V) (member (first_of x.known) negated k (as_expr u) (as_expr v) (as_expr w)) (is-settled k, s, t, i)))))))

  f-member_of : (at : ℕ) (negated : Bool) (a l h : Found) → FoundOf W V a → FoundOf W V l → FoundOf W V h → Forms W V (Maybe (FoundOf W V)) (member_of at negated a l h)
  f-member_of at negated a l h p q r =
      f-if W V (Maybe (FoundOf W V)) (not (is_scalar a.known)) (fault at WrongType) _ (f-fault W V (FoundOf W V) at WrongType)
      (f-if W V (Maybe (FoundOf W V)) (not (is_scalar l.known)) (fault (first_of l.known) WrongType) _ (f-fault W V (FoundOf W V) (first_of l.known) WrongType)
      (f-if W V (Maybe (FoundOf W V)) (not (is_scalar h.known)) (fault (first_of h.known) WrongType) _ (f-fault W V (FoundOf W V) (first_of h.known) WrongType)
      (f-within_bounds at negated (common_kind (first_kind (kind_of a.known) (kind_of l.known)) (kind_of h.known)) a l h p q r)))

  pub f-membership : (at : ℕ) (negated : Bool) (x low high : Option Found) → Maybe (FoundOf W V) x → Maybe (FoundOf W V) low → Maybe (FoundOf W V) high → Forms W V (Maybe (FoundOf W V)) (membership at negated x low high)
  unfolding membership
  f-membership at negated x low high f g h = f-given W V (FoundOf W V) (FoundOf W V) x _ f (λ a p. f-both W V (FoundOf W V) (FoundOf W V) (FoundOf W V) low high (member_of at negated a) g h (λ l m q r. f-member_of at negated a l m p q r))

  pub f-of_subtype : (at : ℕ) (negated : Bool) (mark : ℕ) (x : Option Found) (s : Option Scalar) → Maybe (FoundOf W V) x → Forms W V (Maybe (FoundOf W V)) (of_subtype at negated mark x s)
  unfolding of_subtype
  f-of_subtype at negated mark x s g = f-both W V (FoundOf W V) Any (FoundOf W V) x s _ g (any s) (λ a t p q.
      f-if W V (Maybe (FoundOf W V)) (suits t.kind a.known) _ (fault at WrongType)
      (f-bind W V (Maybe (ExprOf W V)) (Maybe (FoundOf W V)) (asked t.kind a) _ (f-asked W V t.kind a p) (λ e r.
      f-given W V (ExprOf W V) (FoundOf W V) e _ r (λ u i.
      f-some W V (FoundOf W V) (member (first_of a.known) negated t.kind (as_expr u) (limit_of mark t.low) (limit_of mark t.high)) (is-settled t.kind, i, tt, tt))))
      (f-fault W V (FoundOf W V) at WrongType))
