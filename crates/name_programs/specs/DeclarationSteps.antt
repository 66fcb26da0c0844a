-- One step of what is judged item by item, and what is judged of one kind of declaration.
use Rattle.syntax_tree.specs.Syntax.{Definition, Ids, Indic, Range}
use Rattle.typed_tree.specs.Decoded.{TypedPart}
use Rattle.typed_tree.specs.declared.program.Object.{Object}
use Rattle.name_rules.specs.Declarations.{Declaring, Dimensions, Indicated, all_ids, also_dimension, begun_names, cells_counted, defined, each_exception, ended_name, exponent_from, indic, indicated, modular_by, one_type, static_number}
use Rattle.name_rules.specs.Expressions.{Inside}
use Rattle.name_rules.specs.Found.{Found}
use Rattle.name_rules.specs.Judging.{Judging, given, joined, pure, some, ◌>>=◌}
use Rattle.name_rules.specs.Ranges.{static_range}
use Rattle.name_rules.specs.Scope.{free, hidden_where}
use Rattle.name_rules.specs.Types.{kept, lies_in}
use Rattle.name_rules.specs.Values.{first_of, mentions_of}
use Rattle.name_rules.specs.declared.scope.Context.{Context}
use Rattle.name_rules.specs.declared.scope.Names.{Names}
use Rattle.name_rules.specs.declared.types.Kind.{Kind}
use Rattle.name_rules.specs.declared.types.Scalar.{Scalar}
use Rattle.name_rules.specs.declared.types.Subtype.TheVariants as subtype
use Rattle.name_rules.specs.declared.types.Subtype.{Subtype}
use Rattle.std.specs.Prelude.{Bool, None, Option, [], if◌then◌else◌, int_le, option_map, pos, true, ℕ, ℤ, ◌&&◌, ◌+◌, ◌-◌, ◌==◌, ◌^◌, ◌≡◌, ◌≤◌}

-- one more dimension of an array
abbrev pub dimension : Inside → Context → Option Dimensions → Range → Judging (Option Dimensions)
dimension level here done r = static_range level here true None r >>= λ d. pure (joined also_dimension done d)

-- whether a range is one of another subtype and isn't empty
abbrev pub is_within : Scalar → ℤ × ℤ → Bool
is_within s r = lies_in s r.0 && lies_in s r.1 && int_le r.0 r.1

abbrev pub scalar_of : Kind → ℤ × ℤ → Scalar
scalar_of k r = record { kind = k; low = kept k r.0; high = kept k r.1 }

-- the subtype of a range, if it is one of another subtype and isn't empty
abbrev pub range_within : Scalar → ℤ × ℤ → Judging (Option Subtype)
range_within s r = if is_within s r then some (subtype.Scalar (scalar_of s.kind r)) else pure None

-- the exponent of a power of two, from 2 to 2^64
unfoldable pub exponent : ℤ → Option ℕ
exponent z = exponent_from 64 1 z

-- what is known of a number where its exponent is sought from one on
abbrev pub Reached : ℕ → ℕ → ℕ → Type 0
Reached m k p = (exponent (pos m) ≡ exponent_from (65 - k) k (pos m)) × (p ≡ 2 ^ k) × (k ≤ 65)

-- the type of a modulus
abbrev pub modular_type : ℕ → Found → Judging (Option Indicated)
modular_type token f = static_number f >>= λ m. given m (λ z. modular_by token (first_of f.known) (exponent z)) >>= λ t. pure (option_map (indicated (mentions_of f)) t)

-- the place behind an object's cells, if it is one of the owner's
abbrev pub room_behind : ℕ → ℕ → Object → ℕ
room_behind first owner o = if o.owner == owner then first + o.cells else first

-- an object whose subtype or initial value has a fault
abbrev pub no_object : Names → Context → ℕ → Option ℕ → Declaring
no_object names here token f = cells_counted token 0 >>= λ b. pure (ended_name names here f None, None)

abbrev pub exceptions : Names → ℕ → Context → Option TypedPart → Ids → Declaring
exceptions names start here done is = do
  r ← begun_names names start here [] (all_ids is)
  c ← each_exception names r.0 (all_ids is) r.1
  pure (c, done)

abbrev pub declared_type : Names → Inside → ℕ → Context → Option TypedPart → ℕ → Definition → Declaring
declared_type names level start here done token d = do
  f ← free names start here token
  s ← defined names level (hidden_where names here token f) token d
  pure (one_type names (hidden_where names here token f) done f s)

abbrev pub declared_subtype : Names → Inside → ℕ → Context → Option TypedPart → ℕ → Indic → Declaring
declared_subtype names level start here done token i = do
  f ← free names start here token
  s ← indic names level (hidden_where names here token f) i
  pure (one_type names (hidden_where names here token f) done f s)
