-- What is kept of a kept number is the number.
use Rattle.std.proofs.Common.{◌≡◌, refl, ℤ}
use Rattle.ada_base.proofs.Turning.{turned_twice}
use Rattle.name_rules.specs.Types.{kept}
use Rattle.name_rules.specs.declared.types.Kind.TheVariants as kind
use Rattle.name_rules.specs.declared.types.Kind.{Kind}

pub kept_twice : (k : Kind) (z : ℤ) → kept k (kept k z) ≡ z
kept_twice kind.Boolean z = refl
kept_twice kind.Integer z = refl
kept_twice (kind.Own n) z = refl
kept_twice (kind.Modular n k) z = turned_twice z
