-- Relations of numbers of modular types, as they are kept.
use Rattle.std.proofs.Common.{◌≡◌, ℕ, ℤ, pos, Bool, FitsSigned, w64, ap₂, ◌∙◌}
use Rattle.ada_base.specs.Operation.{digits, turned}
use Rattle.ada_base.proofs.Turning.{number_of}
use Rattle.stack_code.specs.declared.operators.Relation.{Relation}
use Rattle.stack_code.specs.Deeds.{is_related}

pub related_as : (r : Relation) (x y : ℤ) (m n : ℕ) (b : Bool) → FitsSigned w64 x → FitsSigned w64 y → m ≡ digits x → n ≡ digits y → b ≡ is_related r (pos m) (pos n) → b ≡ is_related r (turned x) (turned y)
related_as r x y m n b f g d e h = h ∙ ap₂ (λ (m n : ℕ). is_related r (pos m) (pos n)) d e ∙ ap₂ (λ (u v : ℤ). is_related r u v) (number_of x f) (number_of y g)
