-- What holds of each line of the log holds of what Declarations judges.
use Rattle.ada_base.specs.declared.reason.Reason.TheVariants as reason
use Rattle.name_rules.specs.Expressions.{Inside, expr, judged_alone, simple}
use Rattle.syntax_tree.specs.FirstTokens as first_token
use Rattle.name_rules.specs.Found.{Found}
use Rattle.name_rules.specs.Ranges.{both_static, static_range, two_bounds}
use Rattle.name_rules.specs.Scope.{as_scalar, declared, free, hidden_where, subtype_named}
use Rattle.name_rules.specs.Types.{array_cells, cells_in, in_base, lies_in, number_of, wanted_of, written_shape, kept, base_of}
use Rattle.name_rules.specs.Values.{first_of, stored, mentions_of}
use Rattle.name_rules.specs.Limits.{most_dimensions}
use Rattle.name_rules.specs.declared.log.Bound.TheVariants as bound
use Rattle.name_rules.specs.declared.log.Dimension.{Dimension}
use Rattle.name_rules.specs.declared.log.Field.{Field}
use Rattle.name_rules.specs.declared.log.Rule.TheVariants.{Limit, StaticRange, WrongType}
use Rattle.name_rules.specs.declared.log.Shape.TheVariants as shape
use Rattle.name_rules.specs.declared.scope.Context.{Context}
use Rattle.name_rules.specs.declared.scope.Names.{Names}
use Rattle.name_rules.specs.declared.scope.What.TheVariants as what
use Rattle.name_rules.specs.declared.types.Kind.TheVariants as kind
use Rattle.name_rules.specs.declared.types.Scalar.{Scalar}
use Rattle.name_rules.specs.declared.types.Subtype.TheVariants as subtype
use Rattle.name_rules.specs.declared.types.Subtype.{Subtype}
use Rattle.name_rules.specs.declared.types.Wanted.TheVariants as wanted
use Rattle.syntax_tree.specs.Syntax as syntax
use Rattle.syntax_tree.specs.Syntax.{Array, Comp, Decl, Definition, Expr, Ids, Indic, ObjectType, Range}
use Rattle.typed_tree.specs.Decoded as part
use Rattle.std.specs.Prelude.{Bool, List, None, Option, Some, [], false, if◌then◌else◌, int_le, is_some, length, nat_le, option_map, true, ℕ, ℤ, ◌&&◌, ◌++◌, ◌∷◌}
use Rattle.name_rules.specs.TypedParts.{also_all}
use Rattle.typed_tree.specs.Decoded.{TypedPart}
use Rattle.name_rules.specs.Judging.{◌>>=◌, both, fault, given, joined, pure, read, some, unless}
use Rattle.name_rules.specs.declared.log.Log.{Log}
use Rattle.name_laws.proofs.Fitting.{Fits, IsNumber, is_number, fits_constant}
use Rattle.name_rules.specs.Declarations.{all_ids, begun_names, ended_name, indic_range, Indicated, indicated, indic_bounds, indic, Dimensions, also_dimension, dimensions_from, array_written, array_given, array, Building, without_fields, with_field, with_fields, indicated_mentions, component, components, record_written, record_of, own_type, first_or, static_number, own_type_of, defined, cells_counted, object_written, new_object, Initial, no_initial, initial, valued_constant, constant_value, object_ended, one_object, typed_object, each_object, objects, numbers, new_exception, each_exception, declaration, declarations, modular_by, modular_type, exponent_from}
use Rattle.name_laws.proofs.Walk.{Walk, Wide, Keeps, k-pure, k-some, k-bind, k-fault, k-breaks, k-unless, k-read, k-if, k-given, k-both}
use Rattle.name_laws.proofs.Walked.{KeepsInside}
use Rattle.name_laws.proofs.KeepsExpressions.{k-expr, k-judged_alone, k-simple}
use Rattle.name_laws.proofs.KeepsRanges.{k-both_static, k-static_range, k-two_bounds}
use Rattle.name_laws.proofs.KeepsScope.{k-as_scalar, k-free, k-subtype_named}
use Rattle.name_laws.proofs.KeepsTypes.{k-number_of, k-written_shape}
use Rattle.name_laws.proofs.KeepsValues.{k-static_integer, k-stored}

pub k-begun_names : (walk : Walk) (x0 : Names) (x1 : ℕ) (x2 : Context) (x3 : List (Option ℕ)) (x4 : List ℕ) → walk.Takes x0 → Keeps walk (begun_names x0 x1 x2 x3 x4)
k-begun_names walk names start here made [] keeps1 = k-pure walk (here, made)
k-begun_names walk names start here made (t ∷ ts) keeps1 = k-bind walk (free names start here t) (λ f. begun_names names start (hidden_where names here t f) (made ++ f ∷ []) ts) (k-free walk names start here t keeps1) (λ f. k-begun_names walk names start (hidden_where names here t f) (made ++ f ∷ []) ts keeps1)

pub k-indic_range : (walk : Walk) (x0 : Scalar) (x1 : ℕ) (x2 : ℕ) (x3 : ℤ × ℤ) → Keeps walk (indic_range x0 x1 x2 x3)
k-indic_range walk s first last r = record {
  at = λ log.
      let out1 = unless (lies_in s r.0) first StaticRange log in
      let out2 = unless (lies_in s r.1) last StaticRange out1.1 in
      let out3 = unless (int_le r.0 r.1) first StaticRange out2.1 in
      walk.joins _ _ _ ((k-unless walk (lies_in s r.0) first StaticRange).at log)
      (walk.joins _ _ _ ((k-unless walk (lies_in s r.1) last StaticRange).at out1.1)
      (walk.joins _ _ _ ((k-unless walk (int_le r.0 r.1) first StaticRange).at out2.1)
      ((k-if walk (lies_in s r.0 && lies_in s r.1 && int_le r.0 r.1) (some (subtype.Scalar (record { kind = s.kind; low = kept s.kind r.0; high = kept s.kind r.1 }))) (pure None) (k-some walk (subtype.Scalar (record { kind = s.kind; low = kept s.kind r.0; high = kept s.kind r.1 }))) (k-pure walk None)).at out3.1)));
}

pub k-indic_bounds : (walk : Walk) (x0 : Scalar) (x1 : Found) (x2 : Found) → Keeps walk (indic_bounds x0 x1 x2)
k-indic_bounds walk s a z = record {
  at = λ log.
      let out1 = both_static s.kind a z log in
      let v = out1.0 in
      walk.joins _ _ _ ((k-both_static walk s.kind a z).at log)
      ((k-given walk v (indic_range s (first_of a.known) (first_of z.known)) (λ z2. k-indic_range walk s (first_of a.known) (first_of z.known) z2)).at out1.1);
}

pub k-indic : (walk : Walk) (x0 : Names) (x1 : Inside) (x2 : Context) (x3 : Indic) → walk.Takes x0 → KeepsInside walk x1 → Keeps walk (indic x0 x1 x2 x3)
unfolding indic
k-indic walk names level here (syntax.Mark mark) keeps1 keeps2 = k-bind walk (subtype_named names here mark) (λ s. pure (option_map (indicated part.Nothing) s)) (k-subtype_named walk names here mark keeps1) (λ s. k-pure walk (option_map (indicated part.Nothing) s))
k-indic walk names level here (syntax.RangeMark mark low high) keeps1 keeps2 = record {
  at = λ log.
      let out1 = subtype_named names here mark log in
      let s = out1.0 in
      let out3 = given s (as_scalar mark) out1.1 in
      let t = out3.0 in
      let out4 = two_bounds level here low high out3.1 in
      let r = out4.0 in
      walk.joins _ _ _ ((k-subtype_named walk names here mark keeps1).at log)
      (walk.joins _ _ _ ((k-given walk s (as_scalar mark) (λ z2. k-as_scalar walk mark z2)).at out1.1)
      (walk.joins _ _ _ ((k-two_bounds walk level here low high keeps2).at out3.1)
      ((k-given walk t (λ x. both r.0 r.1 (indic_bounds x)) (λ x. k-both walk r.0 r.1 (indic_bounds x) (λ z5 z6. k-indic_bounds walk x z5 z6))).at out4.1)));
}

pub k-dimensions_from : (walk : Walk) (x0 : Inside) (x1 : Context) (x2 : Option Dimensions) (x3 : List Range) → KeepsInside walk x0 → Keeps walk (dimensions_from x0 x1 x2 x3)
k-dimensions_from walk level here made [] keeps1 = k-pure walk made
k-dimensions_from walk level here made (r ∷ rs) keeps1 = k-bind walk (static_range level here true None r) (λ d. dimensions_from level here (joined also_dimension made d) rs) (k-static_range walk level here true None r keeps1) (λ d. k-dimensions_from walk level here (joined also_dimension made d) rs keeps1)

pub k-array_written : (wide : Wide) (x0 : List Dimension) (x1 : Subtype) → Keeps wide.walk (array_written x0 x1)
k-array_written wide ds s = record {
  at = λ log.
      let out1 = number_of s log in
      let m = out1.0 in
      let out2 = read (λ log. array_cells ds (cells_in log s)) out1.1 in
      let cells = out2.0 in
      wide.walk.joins _ _ _ ((k-number_of wide.walk s).at log)
      (wide.walk.joins _ _ _ ((k-read wide.walk (λ log. array_cells ds (cells_in log s))).at out1.1)
      ((k-written_shape wide (shape.Array ds s m cells)).at out2.1));
}

pub k-array_given : (wide : Wide) (x0 : ℕ) (x1 : Dimensions) (x2 : Indicated) → Keeps wide.walk (array_given x0 x1 x2)
k-array_given wide at ds s = k-if wide.walk (nat_le (length ds.dimensions) most_dimensions) ((array_written ds.dimensions s.known >>= λ t. pure (option_map (indicated (also_all ds.mentions s.part)) t))) (fault at (Limit bound.Dimensions)) (k-bind wide.walk (array_written ds.dimensions s.known) (λ t. pure (option_map (indicated (also_all ds.mentions s.part)) t)) (k-array_written wide ds.dimensions s.known) (λ t. k-pure wide.walk (option_map (indicated (also_all ds.mentions s.part)) t))) (k-fault wide.walk at (Limit bound.Dimensions))

pub k-array : (wide : Wide) (x0 : Names) (x1 : Inside) (x2 : Context) (x3 : Array) → wide.walk.Takes x0 → KeepsInside wide.walk x1 → Keeps wide.walk (array x0 x1 x2 x3)
unfolding array
k-array wide names level here a keeps1 keeps2 = record {
  at = λ log.
      let out1 = dimensions_from level here (Some (record { dimensions = []; mentions = part.Nothing })) (a.first ∷ a.more) log in
      let ds = out1.0 in
      let out2 = indic names level here a.component out1.1 in
      let s = out2.0 in
      wide.walk.joins _ _ _ ((k-dimensions_from wide.walk level here (Some (record { dimensions = []; mentions = part.Nothing })) (a.first ∷ a.more) keeps2).at log)
      (wide.walk.joins _ _ _ ((k-indic wide.walk names level here a.component keeps1 keeps2).at out1.1)
      ((k-both wide.walk ds s (array_given a.at) (λ z3 z4. k-array_given wide a.at z3 z4)).at out2.1));
}

pub k-with_field : (walk : Walk) (x0 : Names) (x1 : Building) (x2 : Option ℕ) (x3 : ℕ) (x4 : Option Indicated) → walk.Takes x0 → Keeps walk (with_field x0 x1 x2 x3 x4)
k-with_field walk names b None token s keeps1 = k-pure walk (without_fields b b.here)
k-with_field walk names b (Some t) token None keeps1 = k-pure walk (without_fields b (declared names b.here token (Some what.Broken)))
k-with_field walk names b (Some t) token (Some s) keeps1 = record {
  at = λ log.
      let out1 = number_of s.known log in
      let n = out1.0 in
      walk.joins _ _ _ ((k-number_of walk s.known).at log)
      ((k-read walk (λ log. cells_in log s.known)).at out1.1);
}

pub k-with_fields : (walk : Walk) (x0 : Names) (x1 : Building) (x2 : Option Indicated) (x3 : List ℕ) (x4 : List (Option ℕ)) → walk.Takes x0 → Keeps walk (with_fields x0 x1 x2 x3 x4)
k-with_fields walk names b s (t ∷ ts) (f ∷ fs) keeps1 = k-bind walk (with_field names b f t s) (λ c. with_fields names c s ts fs) (k-with_field walk names b f t s keeps1) (λ c. k-with_fields walk names c s ts fs keeps1)
k-with_fields walk names b s _ _ keeps1 = k-pure walk b

pub k-component : (walk : Walk) (x0 : Names) (x1 : Inside) (x2 : ℕ) (x3 : Building) (x4 : Comp) → walk.Takes x0 → KeepsInside walk x1 → Keeps walk (component x0 x1 x2 x3 x4)
k-component walk names level start b c keeps1 keeps2 = record {
  at = λ log.
      let out1 = begun_names names start b.here [] (all_ids c.names) log in
      let r = out1.0 in
      let out2 = indic names level r.0 c.component out1.1 in
      let s = out2.0 in
      walk.joins _ _ _ ((k-begun_names walk names start b.here [] (all_ids c.names) keeps1).at log)
      (walk.joins _ _ _ ((k-indic walk names level r.0 c.component keeps1 keeps2).at out1.1)
      ((k-with_fields walk names (record { here = r.0; fields = b.fields; offset = b.offset; mentions = also_all b.mentions (indicated_mentions s) }) s (all_ids c.names) r.1 keeps1).at out2.1));
}

pub k-components : (walk : Walk) (x0 : Names) (x1 : Inside) (x2 : ℕ) (x3 : Building) (x4 : List Comp) → walk.Takes x0 → KeepsInside walk x1 → Keeps walk (components x0 x1 x2 x3 x4)
k-components walk names level start b [] keeps1 keeps2 = k-pure walk b
k-components walk names level start b (c ∷ cs) keeps1 keeps2 = k-bind walk (component names level start b c) (λ d. components names level start d cs) (k-component walk names level start b c keeps1 keeps2) (λ d. k-components walk names level start d cs keeps1 keeps2)

pub k-record_written : (wide : Wide) (x0 : ℕ) (x1 : TypedPart) (x2 : List Field) → Keeps wide.walk (record_written x0 x1 x2)
k-record_written wide cells ms fs = k-bind wide.walk (written_shape (shape.Record fs cells)) (λ n. some (indicated ms (subtype.Composite n))) (k-written_shape wide (shape.Record fs cells)) (λ n. k-some wide.walk (indicated ms (subtype.Composite n)))

pub k-record_of : (wide : Wide) (x0 : Names) (x1 : Inside) (x2 : Context) (x3 : List Comp) → wide.walk.Takes x0 → KeepsInside wide.walk x1 → Keeps wide.walk (record_of x0 x1 x2 x3)
unfolding record_of
k-record_of wide names level here cs keeps1 keeps2 = k-bind wide.walk (components names level (length here.scope) (record { here = here; fields = Some []; offset = 0; mentions = part.Nothing }) cs) (λ b. given b.fields (record_written b.offset b.mentions)) (k-components wide.walk names level (length here.scope) (record { here = here; fields = Some []; offset = 0; mentions = part.Nothing }) cs keeps1 keeps2) (λ b. k-given wide.walk b.fields (record_written b.offset b.mentions) (λ z1. k-record_written wide b.offset b.mentions z1))

pub k-own_type : (walk : Walk) (x0 : ℕ) (x1 : ℕ) (x2 : ℕ) (x3 : ℤ) (x4 : ℤ) → Keeps walk (own_type x0 x1 x2 x3 x4)
k-own_type walk token first last a z = record {
  at = λ log.
      let out1 = unless (in_base (kind.Own token) a) first StaticRange log in
      let out2 = unless (in_base (kind.Own token) z) last StaticRange out1.1 in
      let out3 = unless (int_le a z) first StaticRange out2.1 in
      walk.joins _ _ _ ((k-unless walk (in_base (kind.Own token) a) first StaticRange).at log)
      (walk.joins _ _ _ ((k-unless walk (in_base (kind.Own token) z) last StaticRange).at out1.1)
      (walk.joins _ _ _ ((k-unless walk (int_le a z) first StaticRange).at out2.1)
      ((k-if walk (in_base (kind.Own token) a && in_base (kind.Own token) z && int_le a z) (some (subtype.Scalar (record { kind = kind.Own token; low = a; high = z }))) (pure None) (k-some walk (subtype.Scalar (record { kind = kind.Own token; low = a; high = z }))) (k-pure walk None)).at out3.1)));
}

pub k-static_number : (walk : Walk) (x0 : Found) → Keeps walk (static_number x0)
k-static_number walk f = k-static_integer walk f.known

pub k-own_type_of : (walk : Walk) (x0 : ℕ) (x1 : Option Found × Option Found) → Keeps walk (own_type_of x0 x1)
k-own_type_of walk token r = record {
  at = λ log.
      let out2 = given r.0 static_number log in
      let a = out2.0 in
      let out4 = given r.1 static_number out2.1 in
      let z = out4.0 in
      walk.joins _ _ _ ((k-given walk r.0 (static_number) (λ z1. k-static_number walk z1)).at log)
      (walk.joins _ _ _ ((k-given walk r.1 (static_number) (λ z3. k-static_number walk z3)).at out2.1)
      ((k-both walk a z (own_type token (first_or r.0) (first_or r.1)) (λ z5 z6. k-own_type walk token (first_or r.0) (first_or r.1) z5 z6)).at out4.1));
}

pub k-modular_by : (walk : Walk) (token first : ℕ) (k : Option ℕ) → Keeps walk (modular_by token first k)
k-modular_by walk token first None = k-fault walk first StaticRange
k-modular_by walk token first (Some k) = k-some walk (subtype.Scalar (base_of (kind.Modular token k)))

pub k-modular_type : (walk : Walk) (token : ℕ) (f : Found) → Keeps walk (modular_type token f)
k-modular_type walk token f =
    let found = static_number f >>= λ m. given m (λ z. modular_by token (first_of f.known) (exponent_from 64 1 z)) in
    k-bind walk found (λ t. pure (option_map (indicated (mentions_of f)) t))
    (k-bind walk (static_number f) (λ m. given m (λ z. modular_by token (first_of f.known) (exponent_from 64 1 z))) (k-static_number walk f) (λ m. k-given walk m (λ z. modular_by token (first_of f.known) (exponent_from 64 1 z)) (λ z. k-modular_by walk token (first_of f.known) (exponent_from 64 1 z))))
    (λ t. k-pure walk (option_map (indicated (mentions_of f)) t))

pub k-defined : (wide : Wide) (x0 : Names) (x1 : Inside) (x2 : Context) (x3 : ℕ) (x4 : Definition) → wide.walk.Takes x0 → KeepsInside wide.walk x1 → Keeps wide.walk (defined x0 x1 x2 x3 x4)
unfolding defined
k-defined wide names level here token (syntax.RangeType low high) keeps1 keeps2 = k-bind wide.walk (two_bounds level here low high) (own_type_of token) (k-two_bounds wide.walk level here low high keeps2) (λ z2. k-own_type_of wide.walk token z2)
k-defined wide names level here token (syntax.ModularType m) keeps1 keeps2 = k-bind wide.walk (simple level here wanted.Other m) (λ x. given x (modular_type token)) (k-simple wide.walk level here wanted.Other m keeps2) (λ x. k-given wide.walk x (modular_type token) (λ f. k-modular_type wide.walk token f))
k-defined wide names level here token (syntax.ArrayType a) keeps1 keeps2 = k-array wide names level here a keeps1 keeps2
k-defined wide names level here token (syntax.RecordType c cs) keeps1 keeps2 = k-record_of wide names level here (c ∷ cs) keeps1 keeps2

pub k-cells_counted : (walk : Walk) (token cells : ℕ) → Keeps walk (cells_counted token cells)
k-cells_counted walk token cells = record { at = walk.counted token cells }

new-where : (wide : Wide) (names : Names) (here : Context) (token : ℕ) (s : Subtype) (n cells : ℕ) (constant : Bool) (value : Option ℤ) → wide.walk.Takes names → Fits s constant value
    → (log : Log) → IsNumber s n log → (fits : Bool) → wide.walk.R log ((if fits then (object_written names here token n cells constant value >>= λ m. some m) else pure None) log).1
new-where wide names here token s n cells constant value t f log i true = wide.object names here token s n cells constant value t f log i
new-where wide names here token s n cells constant value t f log i false = wide.walk.stays log

pub k-new_object : (wide : Wide) (names : Names) (here : Context) (token : ℕ) (s : Subtype) (constant : Bool) (value : Option ℤ) → wide.walk.Takes names → Fits s constant value
    → Keeps wide.walk (new_object names here token s constant value)
unfolding new_object
k-new_object wide names here token s constant value t f = record {
  at = λ log.
      let cells = cells_in log s in
      let c = cells_counted token cells log in
      let r = number_of s c.1 in
      wide.walk.joins log c.1 (new_object names here token s constant value log).1 (wide.walk.counted token cells log)
      (wide.walk.joins c.1 r.1 (new_object names here token s constant value log).1 ((k-number_of wide.walk s).at c.1)
      (new-where wide names here token s r.0 cells constant value t f r.1 (is_number s c.1) c.0));
}

pub k-initial : (walk : Walk) (x0 : Names) (x1 : Inside) (x2 : Context) (x3 : Option Indicated) (x4 : Option Expr) → walk.Takes x0 → KeepsInside walk x1 → Keeps walk (initial x0 x1 x2 x3 x4)
unfolding initial
k-initial walk names level here s None keeps1 keeps2 = k-some walk no_initial
k-initial walk names level here None (Some e) keeps1 keeps2 = k-bind walk (judged_alone names level here e) (λ u. pure None) (k-judged_alone walk names level here e keeps1 keeps2) (λ u. k-pure walk None)
k-initial walk names level here (Some s) (Some e) keeps1 keeps2 = record {
  at = λ log.
      let out1 = expr names level here (wanted_of s.known) e log in
      let x = out1.0 in
      walk.joins _ _ _ ((k-expr walk names level here (wanted_of s.known) e keeps1 keeps2).at log)
      ((k-given walk x (stored s.known (first_token.of_expr e)) (λ z2. k-stored walk s.known (first_token.of_expr e) z2)).at out1.1);
}

pub k-valued_constant : (walk : Walk) (x0 : ℕ) (x1 : Bool) (x2 : Option Indicated) (x3 : Option Expr) → Keeps walk (valued_constant x0 x1 x2 x3)
k-valued_constant walk first true (Some s) None = k-breaks walk first WrongType
k-valued_constant walk first constant s e = k-pure walk tt

pub k-one_object : (wide : Wide) (x0 : Names) (x1 : Context) (x2 : ℕ) (x3 : Option ℕ) (x4 : Bool) (x5 : Option TypedPart) (x6 : Option Indicated) (x7 : Option Initial) → wide.walk.Takes x0 → Keeps wide.walk (one_object x0 x1 x2 x3 x4 x5 x6 x7)
k-one_object wide names here token f constant made (Some s) (Some v) keeps1 = k-bind wide.walk (new_object names here token s.known constant (constant_value constant s.known v)) (λ n. pure (object_ended names here token f constant s v made n)) (k-new_object wide names here token s.known constant (constant_value constant s.known v) keeps1 (fits_constant constant s.known v)) (λ n. k-pure wide.walk (object_ended names here token f constant s v made n))
k-one_object wide names here token f constant ds s v keeps1 = k-bind wide.walk (cells_counted token 0) (λ b. pure (ended_name names here f None, None)) (k-cells_counted wide.walk token 0) (λ b. k-pure wide.walk (ended_name names here f None, None))

pub k-typed_object : (wide : Wide) (x0 : Names) (x1 : Inside) (x2 : Context) (x3 : ObjectType) → wide.walk.Takes x0 → KeepsInside wide.walk x1 → Keeps wide.walk (typed_object x0 x1 x2 x3)
k-typed_object wide names level here (syntax.Indicated i) keeps1 keeps2 = k-indic wide.walk names level here i keeps1 keeps2
k-typed_object wide names level here (syntax.Anonymous a) keeps1 keeps2 = k-array wide names level here a keeps1 keeps2

pub k-each_object : (wide : Wide) (x0 : Names) (x1 : Inside) (x2 : Context) (x3 : Context) (x4 : Bool) (x5 : ℕ) (x6 : ObjectType) (x7 : Option Expr) (x8 : Option TypedPart) (x9 : List ℕ) (x10 : List (Option ℕ)) → wide.walk.Takes x0 → KeepsInside wide.walk x1 → Keeps wide.walk (each_object x0 x1 x2 x3 x4 x5 x6 x7 x8 x9 x10)
k-each_object wide names level inner here constant first t e made (i ∷ is) (f ∷ fs) keeps1 keeps2 = record {
  at = λ log.
      let out1 = typed_object names level inner t log in
      let s = out1.0 in
      let out2 = initial names level inner s e out1.1 in
      let v = out2.0 in
      let out3 = valued_constant first constant s e out2.1 in
      let out4 = one_object names here i f constant made s v out3.1 in
      let r = out4.0 in
      wide.walk.joins _ _ _ ((k-typed_object wide names level inner t keeps1 keeps2).at log)
      (wide.walk.joins _ _ _ ((k-initial wide.walk names level inner s e keeps1 keeps2).at out1.1)
      (wide.walk.joins _ _ _ ((k-valued_constant wide.walk first constant s e).at out2.1)
      (wide.walk.joins _ _ _ ((k-one_object wide names here i f constant made s v keeps1).at out3.1)
      ((k-each_object wide names level inner r.0 constant first t e r.1 is fs keeps1 keeps2).at out4.1))));
}
k-each_object wide names level inner here constant first t e made _ _ keeps1 keeps2 = k-pure wide.walk (here, made)

pub k-objects : (wide : Wide) (x0 : Names) (x1 : Inside) (x2 : ℕ) (x3 : Context) (x4 : Option TypedPart) (x5 : Ids) (x6 : Bool) (x7 : ObjectType) (x8 : Option Expr) → wide.walk.Takes x0 → KeepsInside wide.walk x1 → Keeps wide.walk (objects x0 x1 x2 x3 x4 x5 x6 x7 x8)
unfolding objects
k-objects wide names level start here made is constant t e keeps1 keeps2 = k-bind wide.walk ((begun_names names start here [] (all_ids is))) (λ r. each_object names level r.0 r.0 constant is.first t e made (all_ids is) r.1) (k-begun_names wide.walk names start here [] (all_ids is) keeps1) (λ r. k-each_object wide names level r.0 r.0 constant is.first t e made (all_ids is) r.1 keeps1 keeps2)

pub k-numbers : (walk : Walk) (x0 : Names) (x1 : Inside) (x2 : ℕ) (x3 : Context) (x4 : Option TypedPart) (x5 : Ids) (x6 : Expr) → walk.Takes x0 → KeepsInside walk x1 → Keeps walk (numbers x0 x1 x2 x3 x4 x5 x6)
unfolding numbers
k-numbers walk names level start here made is e keeps1 keeps2 = record {
  at = λ log.
      let out1 = begun_names names start here [] (all_ids is) log in
      let r = out1.0 in
      let out2 = expr names level r.0 wanted.Other e out1.1 in
      let x = out2.0 in
      walk.joins _ _ _ ((k-begun_names walk names start here [] (all_ids is) keeps1).at log)
      (walk.joins _ _ _ ((k-expr walk names level r.0 wanted.Other e keeps1 keeps2).at out1.1)
      ((k-given walk x (static_number) (λ z3. k-static_number walk z3)).at out2.1));
}

pub k-new_exception : (walk : Walk) (token : ℕ) → Keeps walk (new_exception token)
k-new_exception walk token = record { at = walk.exception token }

pub k-each_exception : (walk : Walk) (x0 : Names) (x1 : Context) (x2 : List ℕ) (x3 : List (Option ℕ)) → walk.Takes x0 → Keeps walk (each_exception x0 x1 x2 x3)
k-each_exception walk names here (t ∷ ts) (f ∷ fs) keeps1 = k-bind walk (new_exception t) (λ n. each_exception names (ended_name names here f (Some (what.Exception (reason.Declared n)))) ts fs) (k-new_exception walk t) (λ n. k-each_exception walk names (ended_name names here f (Some (what.Exception (reason.Declared n)))) ts fs keeps1)
k-each_exception walk names here _ _ keeps1 = k-pure walk here

pub k-declaration : (wide : Wide) (x0 : Names) (x1 : Inside) (x2 : ℕ) (x3 : Context) (x4 : Option TypedPart) (x5 : Decl) → wide.walk.Takes x0 → KeepsInside wide.walk x1 → Keeps wide.walk (declaration x0 x1 x2 x3 x4 x5)
unfolding declaration
k-declaration wide names level start here made (syntax.ObjectDecl is constant t e) keeps1 keeps2 = k-objects wide names level start here made is (is_some constant) t e keeps1 keeps2
k-declaration wide names level start here made (syntax.NumberDecl is at e) keeps1 keeps2 = k-numbers wide.walk names level start here made is e keeps1 keeps2
k-declaration wide names level start here made (syntax.ExceptionDecl is) keeps1 keeps2 = record {
  at = λ log.
      let out1 = begun_names names start here [] (all_ids is) log in
      let r = out1.0 in
      wide.walk.joins _ _ _ ((k-begun_names wide.walk names start here [] (all_ids is) keeps1).at log)
      ((k-each_exception wide.walk names r.0 (all_ids is) r.1 keeps1).at out1.1);
}
k-declaration wide names level start here made (syntax.TypeDecl at token d) keeps1 keeps2 = record {
  at = λ log.
      let out1 = free names start here token log in
      let f = out1.0 in
      wide.walk.joins _ _ _ ((k-free wide.walk names start here token keeps1).at log)
      ((k-defined wide names level (hidden_where names here token f) token d keeps1 keeps2).at out1.1);
}
k-declaration wide names level start here made (syntax.SubtypeDecl at token i) keeps1 keeps2 = record {
  at = λ log.
      let out1 = free names start here token log in
      let f = out1.0 in
      wide.walk.joins _ _ _ ((k-free wide.walk names start here token keeps1).at log)
      ((k-indic wide.walk names level (hidden_where names here token f) i keeps1 keeps2).at out1.1);
}

pub k-declarations : (wide : Wide) (x0 : Names) (x1 : Inside) (x2 : ℕ) (x3 : Context) (x4 : Option TypedPart) (x5 : List Decl) → wide.walk.Takes x0 → KeepsInside wide.walk x1 → Keeps wide.walk (declarations x0 x1 x2 x3 x4 x5)
k-declarations wide names level start here made [] keeps1 keeps2 = k-pure wide.walk (here, made)
k-declarations wide names level start here made (d ∷ ds) keeps1 keeps2 = k-bind wide.walk (declaration names level start here made d) (λ r. declarations names level start r.0 r.1 ds) (k-declaration wide names level start here made d keeps1 keeps2) (λ r. k-declarations wide names level start r.0 r.1 ds keeps1 keeps2)
