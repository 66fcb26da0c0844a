-- What names and expressions were found to be (4.1, 4.4): what is known of them, with their parts.
use Rattle.name_rules.specs.declared.found.Bounded.{Bounded as KnownBounded}
use Rattle.name_rules.specs.declared.found.Common.{Common as KnownCommon}
use Rattle.name_rules.specs.declared.found.Denoted.TheVariants as denoted
use Rattle.name_rules.specs.declared.found.Denoted.{Denoted as KnownDenoted}
use Rattle.name_rules.specs.declared.found.Found.TheVariants as known
use Rattle.name_rules.specs.declared.found.Found.{Found as Known}
use Rattle.name_rules.specs.declared.found.Limits.{Limits}
use Rattle.name_rules.specs.declared.types.Kind.{Kind}
use Rattle.name_rules.specs.declared.types.Scalar.{Scalar}
use Rattle.typed_tree.specs.Decoded as part
use Rattle.typed_tree.specs.Syntax.{Composite, Expr as TypedExpr}
use Rattle.std.specs.Prelude.{Bool, Option, Some, ℕ, ℤ}
use Rattle.typed_tree.specs.Decoded.{TypedPart}

-- what is known of something, and its part of the typed program
pub record With (K : Type 0) : Type 0 where
  pub known : K
  pub part : TypedPart

abbrev pub Found : Type 0
Found = With Known

abbrev pub Denoted : Type 0
Denoted = With KnownDenoted

abbrev pub Bounded : Type 0
Bounded = With KnownBounded

abbrev pub Common : Type 0
Common = With KnownCommon

abbrev pub with_part_of : {K L : Type 0} → L → With K → With L
with_part_of l x = record { known = l; part = x.part }

abbrev pub universal : ℕ → ℤ → Bool → TypedPart → Found
universal first z alone ms = record { known = known.Universal first z alone; part = ms }

abbrev pub static : ℕ → Kind → ℤ → TypedPart → Found
static first k z ms = record { known = known.Static first k z; part = ms }

abbrev pub opened : ℕ → Limits → TypedExpr → Found
opened first l e = record { known = known.Open first l; part = part.AnExpr e }

abbrev pub scalar : ℕ → Kind → Option Scalar → TypedExpr → Found
scalar first k n e = record { known = known.Scalar first k n; part = part.AnExpr e }

abbrev pub composite : ℕ → ℕ → Composite → Found
composite first n c = record { known = known.Composite first n; part = part.AComposite c }

abbrev pub rest : ℕ → Composite → Found
rest first c = record { known = known.Rest first; part = part.AComposite c }

-- a string expression: its pieces are a list that grows
abbrev pub text_found : ℕ → TypedPart → Found
text_found first ps = record { known = known.Text first; part = ps }

abbrev pub denote : KnownDenoted → TypedPart → Denoted
denote d p = record { known = d; part = p }

-- the value of a parameter of a loop, a chunk or an association (5.5)
abbrev pub parameter_found : ℕ → Scalar → TypedPart → Found
parameter_found first s x = record { known = known.Scalar first s.kind (Some s); part = x }

-- a name's value
abbrev pub value_denoted : Found → Denoted
value_denoted f = record { known = denoted.Value f.known; part = f.part }
