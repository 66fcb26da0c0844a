-- The rules of declarations (3.1 to 3.8, 11.1).
use Rattle.ada_base.specs.declared.reason.Reason.TheVariants as reason
use Rattle.name_rules.specs.Expressions.{Inside, expr, judged_alone, simple}
use Rattle.std.specs.Ordering.{int_eq}
use Rattle.syntax_tree.specs.FirstTokens as first_token
use Rattle.name_rules.specs.Found.{Found, With}
use Rattle.name_rules.specs.Judging.{Judging, both, breaks, fault, given, joined, pure, read, some, unless, ◌>>=◌}
use Rattle.name_rules.specs.Operators.{both_mentions}
use Rattle.name_rules.specs.Ranges.{Static, both_static, static_range, two_bounds}
use Rattle.name_rules.specs.Scope.{as_scalar, declared, free, hidden_where, subtype_named}
use Rattle.name_rules.specs.Symbols.{symbol}
use Rattle.name_rules.specs.Types.{array_cells, base_of, cells_in, in_base, is_integer, is_modular, kept, lies_in, number_of, saturated, wanted_of, written_shape}
use Rattle.name_rules.specs.Values.{first_of, mentions_of, static_integer, stored, value_of}
use Rattle.name_rules.specs.declared.found.Found.{Found as Known}
use Rattle.name_rules.specs.Limits.{most_cells, most_dimensions, most_objects}
use Rattle.name_rules.specs.declared.log.Bound.TheVariants as bound
use Rattle.name_rules.specs.declared.log.Dimension.{Dimension}
use Rattle.name_rules.specs.declared.log.Field.{Field}
use Rattle.name_rules.specs.declared.log.Rule.TheVariants.{Limit, StaticRange, WrongType}
use Rattle.name_rules.specs.declared.log.Shape.TheVariants as shape
use Rattle.name_rules.specs.declared.scope.Context.{Context}
use Rattle.name_rules.specs.declared.scope.Names.{Names}
use Rattle.name_rules.specs.declared.scope.What.TheVariants as what
use Rattle.name_rules.specs.declared.scope.What.{What}
use Rattle.name_rules.specs.declared.types.Kind.TheVariants as kind
use Rattle.name_rules.specs.declared.types.Scalar.{Scalar}
use Rattle.name_rules.specs.declared.types.Subtype.TheVariants as subtype
use Rattle.name_rules.specs.declared.types.Subtype.{Subtype}
use Rattle.name_rules.specs.declared.types.Wanted.TheVariants as wanted
use Rattle.syntax_tree.specs.Syntax as syntax
use Rattle.syntax_tree.specs.Syntax.{Array, Comp, Decl, Definition, Expr, Ids, Indic, ObjectType, Range}
use Rattle.typed_tree.specs.Decoded as part
use Rattle.typed_tree.specs.Syntax as typed
use Rattle.typed_tree.specs.declared.program.Object.{Object}
use Rattle.std.specs.Prelude.{Bool, List, None, Option, Some, [], false, if◌then◌else◌, int_le, is_some, length, nat_le, nat_lt, not, option_map, pos, suc, zero, true, ℕ, ℤ, ◌^◌, ◌&&◌, ◌++◌, ◌+◌, ◌==◌, ◌||◌, ◌∷◌}
use Rattle.name_rules.specs.TypedParts.{also, also_all, exprs_of}
use Rattle.typed_tree.specs.Decoded.{TypedPart}

abbrev pub all_ids : Ids → List ℕ
all_ids i = i.first ∷ i.more

-- ---- several names of one declaration

-- each that is free in the region, or None; all are hidden from the declaration's beginning on
abbrev pub begun_names : Names → ℕ → Context → List (Option ℕ) → List ℕ → Judging (Context × List (Option ℕ))
begun_names names start here done [] = pure (here, done)
begun_names names start here done (t ∷ ts) = free names start here t >>= λ f. begun_names names start (hidden_where names here t f) (done ++ f ∷ []) ts

-- one of several whose name is taken declares nothing
abbrev pub ended_name : Names → Context → Option ℕ → Option What → Context
ended_name names here None w = here
ended_name names here (Some token) w = declared names here token w

-- ---- subtype indications (3.2.2)

-- E07 StaticRange: a range that is empty or has a bound outside the subtype that is named, at the bound
abbrev pub indic_range : Scalar → ℕ → ℕ → ℤ × ℤ → Judging (Option Subtype)
indic_range s first last r = do
  u ← unless (lies_in s r.0) first StaticRange
  v ← unless (lies_in s r.1) last StaticRange
  w ← unless (int_le r.0 r.1) first StaticRange
  if lies_in s r.0 && lies_in s r.1 && int_le r.0 r.1 then some (subtype.Scalar (record { kind = s.kind; low = kept s.kind r.0; high = kept s.kind r.1 })) else pure None

-- a subtype, with what its bounds mention
abbrev pub Indicated : Type 0
Indicated = With Subtype

abbrev pub indicated : TypedPart → Subtype → Indicated
indicated x s = record { known = s; part = x }

abbrev pub indic_bounds : Scalar → Found → Found → Judging (Option Indicated)
indic_bounds s a z = both_static s.kind a z >>= λ v. given v (indic_range s (first_of a.known) (first_of z.known)) >>= λ t. pure (option_map (indicated (both_mentions a z)) t)

-- E06: a range of a subtype that isn't scalar, at the subtype's name
unfoldable pub indic : Names → Inside → Context → Indic → Judging (Option Indicated)
indic names level here (syntax.Mark mark) = subtype_named names here mark >>= λ s. pure (option_map (indicated part.Nothing) s)
indic names level here (syntax.RangeMark mark low high) = do
  s ← subtype_named names here mark
  t ← given s (as_scalar mark)
  r ← two_bounds level here low high
  given t (λ x. both r.0 r.1 (indic_bounds x))

-- ---- arrays (3.6)

-- the dimensions so far, with what they mention
pub record Dimensions : Type 0 where
  pub dimensions : List Dimension
  pub mentions : TypedPart

abbrev pub also_dimension : Dimensions → Static → Dimensions
also_dimension ds d = record { dimensions = ds.dimensions ++ d.known ∷ []; mentions = also_all ds.mentions d.part }

abbrev pub dimensions_from : Inside → Context → Option Dimensions → List Range → Judging (Option Dimensions)
dimensions_from level here done [] = pure done
dimensions_from level here done (r ∷ rs) = static_range level here true None r >>= λ d. dimensions_from level here (joined also_dimension done d) rs

abbrev pub array_written : List Dimension → Subtype → Judging (Option Subtype)
array_written ds s = do
  m ← number_of s
  cells ← read (λ log. array_cells ds (cells_in log s))
  n ← written_shape (shape.Array ds s m cells)
  some (subtype.Composite n)

-- E12: more than four dimensions, at the word `array`
abbrev pub array_given : ℕ → Dimensions → Indicated → Judging (Option Indicated)
array_given at ds s =
    if nat_le (length ds.dimensions) most_dimensions then (array_written ds.dimensions s.known >>= λ t. pure (option_map (indicated (also_all ds.mentions s.part)) t))
    else fault at (Limit bound.Dimensions)

unfoldable pub array : Names → Inside → Context → Array → Judging (Option Indicated)
array names level here a = do
  ds ← dimensions_from level here (Some (record { dimensions = []; mentions = part.Nothing })) (a.first ∷ a.more)
  s ← indic names level here a.component
  both ds s (array_given a.at)

-- ---- records (3.8): their components are a region of their own

-- what was found of a record so far
pub record Building : Type 0 where
  pub here : Context
  pub fields : Option (List Field)
  pub offset : ℕ
  pub mentions : TypedPart

abbrev pub also_field : Field → List Field → List Field
also_field f fs = fs ++ f ∷ []

abbrev pub without_fields : Building → Context → Building
without_fields b here = record { here = here; fields = None; offset = b.offset; mentions = b.mentions }

-- E05 NotVisible: within its record the name of a component hides outer ones and stands for nothing, since a component is
-- named behind a point (4.1.3, 8.3)
abbrev pub with_field : Names → Building → Option ℕ → ℕ → Option Indicated → Judging Building
with_field names b None token s = pure (without_fields b b.here)
with_field names b (Some t) token None = pure (without_fields b (declared names b.here token (Some what.Broken)))
with_field names b (Some t) token (Some s) = do
  n ← number_of s.known
  cells ← read (λ log. cells_in log s.known)
  pure (record {
    here = declared names b.here token (Some what.Hidden);
    fields = option_map (also_field (record { symbol = symbol names token; name = token; subtype = s.known; number = n; offset = b.offset })) b.fields;
    offset = saturated (b.offset + cells);
    mentions = b.mentions;
  })

abbrev pub with_fields : Names → Building → Option Indicated → List ℕ → List (Option ℕ) → Judging Building
with_fields names b s (t ∷ ts) (f ∷ fs) = with_field names b f t s >>= λ c. with_fields names c s ts fs
with_fields names b s _ _ = pure b

abbrev pub indicated_mentions : Option Indicated → TypedPart
indicated_mentions None = part.Nothing
indicated_mentions (Some s) = s.part

-- E05 Twice: a second component of a name in one record
abbrev pub component : Names → Inside → ℕ → Building → Comp → Judging Building
component names level start b c = do
  r ← begun_names names start b.here [] (all_ids c.names)
  s ← indic names level r.0 c.component
  with_fields names (record { here = r.0; fields = b.fields; offset = b.offset; mentions = also_all b.mentions (indicated_mentions s) }) s (all_ids c.names) r.1

abbrev pub components : Names → Inside → ℕ → Building → List Comp → Judging Building
components names level start b [] = pure b
components names level start b (c ∷ cs) = component names level start b c >>= λ d. components names level start d cs

abbrev pub record_written : ℕ → TypedPart → List Field → Judging (Option Indicated)
record_written cells ms fs = written_shape (shape.Record fs cells) >>= λ n. some (indicated ms (subtype.Composite n))

unfoldable pub record_of : Names → Inside → Context → List Comp → Judging (Option Indicated)
record_of names level here cs =
    components names level (length here.scope) (record { here = here; fields = Some []; offset = 0; mentions = part.Nothing }) cs >>= λ b. given b.fields (record_written b.offset b.mentions)

-- ---- types (3.2.1, 3.5.4)

-- E07 StaticRange: a range outside 64 bits, at the bound, or empty, at its first bound
abbrev pub own_type : ℕ → ℕ → ℕ → ℤ → ℤ → Judging (Option Subtype)
own_type token first last a z = do
  u ← unless (in_base (kind.Own token) a) first StaticRange
  v ← unless (in_base (kind.Own token) z) last StaticRange
  w ← unless (int_le a z) first StaticRange
  if in_base (kind.Own token) a && in_base (kind.Own token) z && int_le a z then some (subtype.Scalar (record { kind = kind.Own token; low = a; high = z })) else pure None

abbrev pub first_or : Option Found → ℕ
first_or None = 0
first_or (Some f) = first_of f.known

abbrev pub static_number : Found → Judging (Option ℤ)
static_number f = static_integer f.known

abbrev pub found_mentions : Option Found → TypedPart
found_mentions None = part.Nothing
found_mentions (Some f) = mentions_of f

-- E07 NotStatic: a bound of a type
abbrev pub own_type_of : ℕ → Option Found × Option Found → Judging (Option Indicated)
own_type_of token r = do
  a ← given r.0 static_number
  z ← given r.1 static_number
  t ← both a z (own_type token (first_or r.0) (first_or r.1))
  pure (option_map (indicated (also_all (found_mentions r.0) (found_mentions r.1))) t)

-- the exponent of a power of two, from one number on
abbrev pub exponent_from : (left k : ℕ) → ℤ → Option ℕ
exponent_from zero k z = None
exponent_from (suc n) k z = if int_eq z (pos (2 ^ k)) then Some k else exponent_from n (suc k) z

-- E07 StaticRange: a modulus that is no power of two from 2 to 2^64, at its first token
abbrev pub modular_by : ℕ → ℕ → Option ℕ → Judging (Option Subtype)
modular_by token first None = fault first StaticRange
modular_by token first (Some k) = some (subtype.Scalar (base_of (kind.Modular token k)))

-- E07 NotStatic: a modulus
abbrev pub modular_type : ℕ → Found → Judging (Option Indicated)
modular_type token f = static_number f >>= λ m. given m (λ z. modular_by token (first_of f.known) (exponent_from 64 1 z)) >>= λ t. pure (option_map (indicated (mentions_of f)) t)

unfoldable pub defined : Names → Inside → Context → ℕ → Definition → Judging (Option Indicated)
defined names level here token (syntax.ModularType m) = simple level here wanted.Other m >>= λ x. given x (modular_type token)
defined names level here token (syntax.RangeType low high) = two_bounds level here low high >>= own_type_of token
defined names level here token (syntax.ArrayType a) = array names level here a
defined names level here token (syntax.RecordType c cs) = record_of names level here (c ∷ cs)

-- ---- objects (3.3.1)

-- where an object's cells begin among its owner's; the first four of a thread's body are the thread's
abbrev pub room : ℕ → ℕ → List Object → ℕ
room first owner [] = first
room first owner (o ∷ os) = if o.owner == owner then room (first + o.cells) owner os else room first owner os

abbrev pub first_room : Names → ℕ → ℕ
first_room names owner = if nat_lt names.subs owner then 4 else 0

-- E12: more objects, or more cells of all, than there may be, at the identifier that passes the limit
abbrev pub cells_counted : ℕ → ℕ → Judging Bool
cells_counted token cells = λ log.
    let all = saturated (log.cells + cells) in
    (unless (not (log.declared == most_objects)) token (Limit bound.Objects) >>= λ u.
    unless (nat_lt most_cells log.cells || nat_le all most_cells) token (Limit bound.Cells) >>= λ v.
    pure (nat_lt log.declared most_objects && nat_le all most_cells)) (record log { declared = log.declared + 1; cells = all })

abbrev pub object_written : Names → Context → ℕ → ℕ → ℕ → Bool → Option ℤ → Judging ℕ
object_written names here token n cells constant value = λ log.
    (length log.objects, record log { objects = log.objects ++ record { name = token; subtype = n; constant = constant; owner = here.owner; offset = room (first_room names here.owner) here.owner log.objects; cells = cells; value = value } ∷ [] })

-- an object of a subtype, with its number, where no limit is passed
unfoldable pub new_object : Names → Context → ℕ → Subtype → Bool → Option ℤ → Judging (Option ℕ)
new_object names here token s constant value = do
  cells ← read (λ log. cells_in log s)
  fits ← cells_counted token cells
  n ← number_of s
  if fits then (object_written names here token n cells constant value >>= λ m. some m) else pure None

-- an integer constant, but for modular types, whose initial value is static and lies in its subtype is static (4.9)
abbrev pub static_in : Subtype → Option ℤ → Option ℤ
static_in (subtype.Scalar s) (Some z) = if is_integer s.kind && not (is_modular s.kind) && lies_in s z then Some z else None
static_in _ _ = None

-- an initial value: what is stored, with its static value
pub record Initial : Type 0 where
  pub stored : Option TypedPart
  pub value : Option ℤ

abbrev pub static_value_of : Known → Option ℤ
static_value_of f = value_of f

abbrev pub initial_value : TypedPart → Found → Initial
initial_value v f = record { stored = Some v; value = static_value_of f.known }

abbrev pub no_initial : Initial
no_initial = record { stored = None; value = None }

unfoldable pub initial : Names → Inside → Context → Option Indicated → Option Expr → Judging (Option Initial)
initial names level here s None = some no_initial
initial names level here None (Some e) = judged_alone names level here e >>= λ u. pure None
initial names level here (Some s) (Some e) = do
  x ← expr names level here (wanted_of s.known) e
  v ← given x (stored s.known (first_token.of_expr e))
  pure (joined initial_value v x)

-- E06: a constant without a value, at the declaration's first identifier
abbrev pub valued_constant : ℕ → Bool → Option Indicated → Option Expr → Judging (Unit {0})
valued_constant first true (Some s) None = breaks first WrongType
valued_constant first constant s e = pure tt

-- what is elaborated: with the subtype's mentions before it
abbrev pub with_mentions : TypedPart → TypedPart → TypedPart
with_mentions done part.Nothing = done
with_mentions done ms = also done (part.ADecl (typed.Mentions (exprs_of ms)))

abbrev pub with_object : TypedPart → Bool → ℕ → Option TypedPart → TypedPart
with_object done true n (Some v) = also done (part.ADecl (typed.DeclareConstant n (part.as_value v)))
with_object done true n None = done
with_object done false n None = also done (part.ADecl (typed.DeclareDefault n))
with_object done false n (Some v) = also done (part.ADecl (typed.DeclareVariable n (part.as_value v)))

abbrev pub constant_value : Bool → Subtype → Initial → Option ℤ
constant_value true s v = static_in s v.value
constant_value false s v = None

-- what a declaration leaves: what is around those behind it, and what is elaborated
abbrev pub Declaring : Type 0
Declaring = Judging (Context × Option TypedPart)

abbrev pub object_ended : Names → Context → ℕ → Option ℕ → Bool → Indicated → Initial → Option TypedPart → Option ℕ → Context × Option TypedPart
object_ended names here token f constant s v ds None = (ended_name names here f None, None)
object_ended names here token f constant s v done (Some n) = (
  ended_name names here f (Some (what.Object n s.known (not constant) (constant_value constant s.known v))),
  option_map (λ ds. with_object (with_mentions ds s.part) constant n v.stored) done,
)

abbrev pub one_object : Names → Context → ℕ → Option ℕ → Bool → Option TypedPart → Option Indicated → Option Initial → Declaring
one_object names here token f constant done (Some s) (Some v) = new_object names here token s.known constant (constant_value constant s.known v) >>= λ n. pure (object_ended names here token f constant s v done n)
one_object names here token f constant ds s v = cells_counted token 0 >>= λ b. pure (ended_name names here f None, None)

-- the type and the value are judged for each name: each of several has an anonymous array type of its own
abbrev pub typed_object : Names → Inside → Context → ObjectType → Judging (Option Indicated)
typed_object names level here (syntax.Indicated i) = indic names level here i
typed_object names level here (syntax.Anonymous a) = array names level here a

abbrev pub each_object : Names → Inside → Context → Context → Bool → ℕ → ObjectType → Option Expr → Option TypedPart → List ℕ → List (Option ℕ) → Declaring
each_object names level inner here constant first t e done (i ∷ is) (f ∷ fs) = do
  s ← typed_object names level inner t
  v ← initial names level inner s e
  u ← valued_constant first constant s e
  r ← one_object names here i f constant done s v
  each_object names level inner r.0 constant first t e r.1 is fs
each_object names level inner here constant first t e done _ _ = pure (here, done)

unfoldable pub objects : Names → Inside → ℕ → Context → Option TypedPart → Ids → Bool → ObjectType → Option Expr → Declaring
objects names level start here done is constant t e = do
  r ← begun_names names start here [] (all_ids is)
  each_object names level r.0 r.0 constant is.first t e done (all_ids is) r.1

-- ---- named numbers (3.3.2) and exceptions (11.1)

abbrev pub all_ended : Names → Context → Option What → List (Option ℕ) → Context
all_ended names here w [] = here
all_ended names here w (f ∷ fs) = all_ended names (ended_name names here f w) w fs

abbrev pub and_mentions : TypedPart → TypedPart → ℤ → TypedPart
and_mentions ms done z = with_mentions done ms

-- E07 NotStatic: a named number
unfoldable pub numbers : Names → Inside → ℕ → Context → Option TypedPart → Ids → Expr → Declaring
numbers names level start here done is e = do
  r ← begun_names names start here [] (all_ids is)
  x ← expr names level r.0 wanted.Other e
  v ← given x static_number
  pure (all_ended names r.0 (option_map what.Number v) r.1, joined (and_mentions (found_mentions x)) done v)

abbrev pub new_exception : ℕ → Judging ℕ
new_exception token = λ log. (length log.exceptions, record log { exceptions = log.exceptions ++ record { name = token } ∷ [] })

abbrev pub each_exception : Names → Context → List ℕ → List (Option ℕ) → Judging Context
each_exception names here (t ∷ ts) (f ∷ fs) = new_exception t >>= λ n. each_exception names (ended_name names here f (Some (what.Exception (reason.Declared n)))) ts fs
each_exception names here _ _ = pure here

-- ---- declarations

abbrev pub and_type : TypedPart → Indicated → TypedPart
and_type done s = with_mentions done s.part

abbrev pub one_type : Names → Context → Option TypedPart → Option ℕ → Option Indicated → Context × Option TypedPart
one_type names here done f s = (ended_name names here f (option_map (λ t. what.Type t.known) s), joined and_type done s)

unfoldable pub declaration : Names → Inside → ℕ → Context → Option TypedPart → Decl → Declaring
declaration names level start here done (syntax.ObjectDecl is constant t e) = objects names level start here done is (is_some constant) t e
declaration names level start here done (syntax.NumberDecl is at e) = numbers names level start here done is e
declaration names level start here done (syntax.ExceptionDecl is) = do
  r ← begun_names names start here [] (all_ids is)
  c ← each_exception names r.0 (all_ids is) r.1
  pure (c, done)
declaration names level start here done (syntax.TypeDecl at token d) = do
  f ← free names start here token
  s ← defined names level (hidden_where names here token f) token d
  pure (one_type names (hidden_where names here token f) done f s)
declaration names level start here done (syntax.SubtypeDecl at token i) = do
  f ← free names start here token
  s ← indic names level (hidden_where names here token f) i
  pure (one_type names (hidden_where names here token f) done f s)

abbrev pub declarations : Names → Inside → ℕ → Context → Option TypedPart → List Decl → Declaring
declarations names level start here done [] = pure (here, done)
declarations names level start here done (d ∷ ds) = declaration names level start here done d >>= λ r. declarations names level start r.0 r.1 ds
