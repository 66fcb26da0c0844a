-- A quotient by 0.
use Rattle.std.proofs.Common.{◌≡◌, ℕ, ◌/◌}
use Rattle.std.proofs.Math.Nat.{div-zero}

pub div_none : (n : ℕ) → n / 0 ≡ 0
div_none n = div-zero n
