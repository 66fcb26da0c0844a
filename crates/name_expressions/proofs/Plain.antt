-- Numbers of a type that isn't modular are what cells keep.
use Rattle.std.proofs.Common.{◌≡◌, refl, false, ℤ, true≢false}
use Rattle.name_rules.specs.Types.{is_modular, kept}
use Rattle.name_rules.specs.declared.types.Kind.TheVariants as kind
use Rattle.name_rules.specs.declared.types.Kind.{Kind}

pub plain_kept : (k : Kind) (z : ℤ) → is_modular k ≡ false → kept k z ≡ z
plain_kept kind.Boolean z h = refl
plain_kept kind.Integer z h = refl
plain_kept (kind.Own n) z h = refl
plain_kept (kind.Modular n j) z h = absurd (true≢false h)
