-- Judging that gives out sites: what is found.
use Rattle.name_rules.specs.declared.found.Denoted.{Denoted as KnownDenoted}
use Rattle.name_rules.specs.declared.found.Limits.{Limits}
use Rattle.name_rules.specs.declared.types.Kind.{Kind}
use Rattle.name_rules.specs.declared.types.Scalar.{Scalar}
use Rattle.typed_tree.specs.Syntax.{Composite, Expr as TypedExpr}
use Rattle.std.specs.Prelude.{Bool, Option, ℕ, ℤ}
use Rattle.typed_tree.specs.Decoded.{TypedPart}
use Rattle.name_rules.specs.Found.{Found, composite, denote, opened, parameter_found, rest, scalar, static, text_found, universal, value_denoted}
use Rattle.std.proofs.Common.{arith}
use Rattle.name_sites.proofs.Measures.{counted-by, part-measure, part-size, with-part}
use Rattle.name_sites.proofs.Spends.{Holds}
use Rattle.name_sites.proofs.Counts.{in_composite, in_expr}

pub z-universal : (which : ℕ) (x0 : ℕ) (x1 : ℤ) (x2 : Bool) (x3 : TypedPart) → (part-measure which).Whole x3 → Holds (with-part which) (part-size which x3) (universal x0 x1 x2 x3)
z-universal which first z alone ms h3 = (h3, omega arith)

pub z-static : (which : ℕ) (x0 : ℕ) (x1 : Kind) (x2 : ℤ) (x3 : TypedPart) → (part-measure which).Whole x3 → Holds (with-part which) (part-size which x3) (static x0 x1 x2 x3)
z-static which first k z ms h3 = (h3, omega arith)

pub z-opened : (which : ℕ) (x0 : ℕ) (x1 : Limits) (x2 : TypedExpr) → (counted-by (λ x. in_expr which x)).Whole x2 → Holds (with-part which) (in_expr which x2) (opened x0 x1 x2)
z-opened which first l e h2 = (tt, omega arith)

pub z-scalar : (which : ℕ) (x0 : ℕ) (x1 : Kind) (x2 : Option Scalar) (x3 : TypedExpr) → (counted-by (λ x. in_expr which x)).Whole x3 → Holds (with-part which) (in_expr which x3) (scalar x0 x1 x2 x3)
z-scalar which first k n e h3 = (tt, omega arith)

pub z-composite : (which : ℕ) (x0 : ℕ) (x1 : ℕ) (x2 : Composite) → (counted-by (λ x. in_composite which x)).Whole x2 → Holds (with-part which) (in_composite which x2) (composite x0 x1 x2)
z-composite which first n c h2 = (tt, omega arith)

pub z-rest : (which : ℕ) (x0 : ℕ) (x1 : Composite) → (counted-by (λ x. in_composite which x)).Whole x1 → Holds (with-part which) (in_composite which x1) (rest x0 x1)
z-rest which first c h1 = (tt, omega arith)

pub z-text_found : (which : ℕ) (x0 : ℕ) (x1 : TypedPart) → (part-measure which).Whole x1 → Holds (with-part which) (part-size which x1) (text_found x0 x1)
z-text_found which first ps h1 = (h1, omega arith)

pub z-denote : (which : ℕ) (x0 : KnownDenoted) (x1 : TypedPart) → (part-measure which).Whole x1 → Holds (with-part which) (part-size which x1) (denote x0 x1)
z-denote which d p h1 = (h1, omega arith)

pub z-parameter_found : (which : ℕ) (x0 : ℕ) (x1 : Scalar) (x2 : TypedPart) → (part-measure which).Whole x2 → Holds (with-part which) (part-size which x2) (parameter_found x0 x1 x2)
z-parameter_found which first s x h2 = (h2, omega arith)

pub z-value_denoted : (which : ℕ) (x0 : Found) → (with-part which).Whole x0 → Holds (with-part which) (part-size which x0.part) (value_denoted x0)
z-value_denoted which f h0 = (h0, omega arith)
