-- The value of a static expression (4.9), by recursion on its text: the exact one over all integers. None where the
-- expression isn't static or has no value. Of Boolean expressions True, False and the bounds of a subtype alone are static here.
use Rattle.ada_base.specs.Operation.{unbounded}
use Rattle.ada_base.specs.declared.operation.Op.TheVariants as op
use Rattle.ada_base.specs.declared.operation.Op.{Op}
use Rattle.name_rules.specs.Attributes.{attribute_at}
use Rattle.name_rules.specs.Expressions.{multiplying_op}
use Rattle.name_rules.specs.Scope.{bit, lookup}
use Rattle.name_rules.specs.Symbols.{number, symbol}
use Rattle.name_rules.specs.Types.{component_of, dimensions_of, extent, fields_of, is_modular, kept}
use Rattle.name_rules.specs.declared.found.Attribute.TheVariants as attribute'
use Rattle.name_rules.specs.declared.found.Attribute.{Attribute}
use Rattle.name_rules.specs.declared.log.Dimension.{Dimension}
use Rattle.name_rules.specs.declared.log.Field.{Field}
use Rattle.name_rules.specs.declared.log.Shape.{Shape}
use Rattle.name_rules.specs.declared.scope.Entry.{Entry}
use Rattle.name_rules.specs.declared.scope.Names.{Names}
use Rattle.name_rules.specs.declared.scope.What.TheVariants as what
use Rattle.name_rules.specs.declared.scope.What.{What}
use Rattle.name_rules.specs.declared.types.Scalar.{Scalar}
use Rattle.name_rules.specs.declared.types.Subtype.TheVariants as subtype
use Rattle.name_rules.specs.declared.types.Subtype.{Subtype}
use Rattle.syntax_tree.specs.Syntax as syntax
use Rattle.syntax_tree.specs.Syntax.{Addings, Expr, Factor, Multiplyings, Name, NamePart, NameParts, Primary, Rel, Simple, Term}
use Rattle.syntax_tree.specs.declared.operators.Additive.TheVariants as additive
use Rattle.syntax_tree.specs.declared.operators.Sign.TheVariants as sign
use Rattle.syntax_tree.specs.declared.operators.Sign.{Sign}
use Rattle.std.specs.Prelude.{List, None, Option, Some, [], if◌then◌else◌, int_le, neg_ℤ, option_map, pos, slice_get, unsigned_abs, ℕ, ℤ, ◌-◌, ◌==◌, ◌∷◌}
use Rattle.name_rules.specs.declared.types.Kind.{Kind}

-- what is declared around an expression: what identifiers stand for, with the values of constants and the bounds of scalar
-- subtypes, and the arrays and records there are
pub record Around : Type 0 where
  pub names : Names
  pub scope : List Entry
  pub shapes : List Shape

-- ---- operators (4.5)

-- an operator on two values has one where both are there and it is defined
abbrev pub computed : Op → Option ℤ → Option ℤ → Option ℤ
computed o (Some u) (Some v) = unbounded o u v
computed o u v = None

abbrev pub opposite : Option ℤ → Option ℤ
opposite v = option_map (λ z. neg_ℤ z) v

abbrev pub absolute : Option ℤ → Option ℤ
absolute v = option_map (λ z. pos (unsigned_abs z)) v

abbrev pub with_sign : Option Sign → Option ℤ → Option ℤ
with_sign None v = v
with_sign (Some (sign.Plus at)) v = v
with_sign (Some (sign.Minus at)) v = opposite v

-- ---- names (4.1)

-- what the first parts of a name stand for: a value, if it is static, an object or a part of one, a subtype, or an
-- attribute of one of these, behind which a dimension may stand
pub data Standing : Type 0 where
  Value : Option ℤ → Standing
  Object : Subtype → Option ℤ → Standing
  ASubtype : Subtype → Standing
  OfObject : Attribute → Subtype → Standing
  OfType : Attribute → Subtype → Standing

abbrev pub declared : Option What → Standing
declared (Some (what.Object n s v z)) = Object s z
declared (Some (what.Item n s v)) = Object s None
declared (Some (what.Number z)) = Value (Some z)
declared (Some (what.Boolean b)) = Value (Some (bit b))
declared (Some (what.Type s)) = ASubtype s
declared w = Value None

-- a component of a record or an array (4.1.1, 4.1.3), which is no constant
abbrev pub component : Option Subtype → Standing
component None = Value None
component (Some s) = Object s None

abbrev pub field_named : ℕ → List Field → Option Subtype
field_named name [] = None
field_named name (f ∷ fs) = if f.symbol == name then Some f.subtype else field_named name fs

abbrev pub dimensions : List Shape → Subtype → List Dimension
dimensions shapes (subtype.Scalar s) = []
dimensions shapes (subtype.Composite n) = dimensions_of (slice_get shapes n)

-- First and Last of a scalar subtype (3.5); no expression of a modular type is static
abbrev pub scalar_bound : Attribute → Scalar → Option ℤ
scalar_bound attribute'.First s = if is_modular s.kind then None else Some s.low
scalar_bound attribute'.Last s = if is_modular s.kind then None else Some s.high
scalar_bound a s = None

-- First and Last of a modular subtype, as a cell keeps them
abbrev pub modular_bound : Attribute → Scalar → Option ℤ
modular_bound attribute'.First s = if is_modular s.kind then Some s.low else None
modular_bound attribute'.Last s = if is_modular s.kind then Some s.high else None
modular_bound a s = None

-- First, Last and Length of a dimension (3.6.2)
abbrev pub bound : Attribute → Option Dimension → Option ℤ
bound attribute'.First (Some d) = Some d.low
bound attribute'.Last (Some d) = Some d.high
bound attribute'.Length (Some d) = Some (pos (extent d))
bound a d = None

-- the dimension of a number, counted from 1
abbrev pub dimension : List Dimension → Option ℤ → Option Dimension
dimension ds None = None
dimension ds (Some z) = if int_le (pos 1) z then slice_get ds (unsigned_abs z - 1) else None

-- an attribute without a dimension is that of the first one
abbrev pub alone : List Shape → Standing → Standing
alone shapes (OfObject a t) = Value (bound a (slice_get (dimensions shapes t) 0))
alone shapes (OfType a (subtype.Scalar s)) = Value (scalar_bound a s)
alone shapes (OfType a (subtype.Composite n)) = Value (bound a (slice_get (dimensions shapes (subtype.Composite n)) 0))
alone shapes s = s

abbrev pub after_point : Around → ℕ → Standing → Standing
after_point a at (Object (subtype.Composite n) v) = component (field_named (symbol a.names at) (fields_of (slice_get a.shapes n)))
after_point a at s = Value None

abbrev pub after_tick : Option Attribute → Standing → Standing
after_tick (Some by) (Object t v) = OfObject by t
after_tick (Some by) (ASubtype t) = OfType by t
after_tick by s = Value None

-- a bracket holds indexes, which needn't be static, or the number of a dimension, which is the value that is given
abbrev pub after_bracket : Around → Option ℤ → Standing → Standing
after_bracket a v (Object (subtype.Composite n) z) = component (component_of (slice_get a.shapes n))
after_bracket a v (OfObject by t) = Value (bound by (dimension (dimensions a.shapes t) v))
after_bracket a v (OfType by (subtype.Composite n)) = Value (bound by (dimension (dimensions a.shapes (subtype.Composite n)) v))
after_bracket a v s = Value None

abbrev pub value_in : Standing → Option ℤ
value_in (Value v) = v
value_in (Object t v) = v
value_in s = None

abbrev pub modular_in : Standing → Option ℤ
modular_in (OfType by (subtype.Scalar s)) = modular_bound by s
modular_in s = None

-- ---- static expressions

abbrev mutual
  pub expr_value : Around → Expr → Option ℤ
  expr_value a (syntax.Single r) = rel_value a r
  expr_value a e = None

  pub rel_value : Around → Rel → Option ℤ
  rel_value a (syntax.Alone s) = simple_value a s
  rel_value a r = None

  pub simple_value : Around → Simple → Option ℤ
  simple_value a (syntax.Sum s t as') = added_value a (with_sign s (term_value a t)) as'

  -- a value with what is added to it and subtracted from it, from left to right
  pub added_value : Around → Option ℤ → Addings → Option ℤ
  added_value a v syntax.NoAdding = v
  added_value a v (syntax.AlsoAdding (syntax.adding additive.Plus at t) as') = added_value a (computed op.Add v (term_value a t)) as'
  added_value a v (syntax.AlsoAdding (syntax.adding additive.Minus at t) as') = added_value a (computed op.Sub v (term_value a t)) as'
  added_value a v (syntax.AlsoAdding (syntax.adding additive.Joined at t) as') = added_value a None as'

  pub term_value : Around → Term → Option ℤ
  term_value a (syntax.Product f ms) = multiplied_value a (factor_value a f) ms

  pub multiplied_value : Around → Option ℤ → Multiplyings → Option ℤ
  multiplied_value a v syntax.NoMultiplying = v
  multiplied_value a v (syntax.AlsoMultiplying (syntax.multiplying by at f) ms) = multiplied_value a (computed (multiplying_op by) v (factor_value a f)) ms

  pub factor_value : Around → Factor → Option ℤ
  factor_value a (syntax.Operand p) = primary_value a p
  factor_value a (syntax.Power b at e) = computed op.Pow (primary_value a b) (primary_value a e)
  factor_value a (syntax.Abs at p) = absolute (primary_value a p)
  factor_value a (syntax.Not at p) = None

  pub primary_value : Around → Primary → Option ℤ
  primary_value a (syntax.Number at) = Some (number a.names at)
  primary_value a (syntax.Named n) = name_value a n
  primary_value a (syntax.Group bracket e) = expr_value a e
  primary_value a p = None

  pub name_value : Around → Name → Option ℤ
  name_value a (syntax.name first ps) = value_in (alone a.shapes (after_parts a (declared (lookup (symbol a.names first) a.scope)) ps))

  pub after_parts : Around → Standing → NameParts → Standing
  after_parts a s syntax.NoPart = s
  after_parts a s (syntax.AlsoPart p ps) = after_parts a (after_part a s p) ps

  pub after_part : Around → Standing → NamePart → Standing
  after_part a s (syntax.Field at) = after_point a at s
  after_part a s (syntax.Call bracket (syntax.arg None e) syntax.NoArg) = after_bracket a (expr_value a e) s
  after_part a s (syntax.Call bracket e es) = after_bracket a None s
  after_part a s (syntax.Attribute at) = after_tick (attribute_at (symbol a.names at)) s
  after_part a s (syntax.RangeAttribute at) = after_tick (Some attribute'.Range) s

-- ---- the bound of a modular subtype that an expression is: First or Last alone, without brackets and operators

abbrev pub name_bound : Around → Name → Option ℤ
name_bound a (syntax.name first ps) = modular_in (after_parts a (declared (lookup (symbol a.names first) a.scope)) ps)

abbrev pub primary_bound : Around → Primary → Option ℤ
primary_bound a (syntax.Named n) = name_bound a n
primary_bound a p = None

abbrev pub factor_bound : Around → Factor → Option ℤ
factor_bound a (syntax.Operand p) = primary_bound a p
factor_bound a x = None

abbrev pub term_bound : Around → Term → Option ℤ
term_bound a (syntax.Product f syntax.NoMultiplying) = factor_bound a f
term_bound a t = None

abbrev pub simple_bound : Around → Simple → Option ℤ
simple_bound a (syntax.Sum None t syntax.NoAdding) = term_bound a t
simple_bound a s = None

abbrev pub rel_bound : Around → Rel → Option ℤ
rel_bound a (syntax.Alone s) = simple_bound a s
rel_bound a r = None

abbrev pub expr_bound : Around → Expr → Option ℤ
expr_bound a (syntax.Single r) = rel_bound a r
expr_bound a e = None

-- what stands in a place of a type: a static value as a cell of the type keeps it, else a bound of a modular subtype
abbrev pub left_value : Kind → Option ℤ → Option ℤ → Option ℤ
left_value k None b = b
left_value k (Some z) b = Some (kept k z)
