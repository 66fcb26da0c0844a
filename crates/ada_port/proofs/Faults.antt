-- Counts of faults over several calls.
use Rattle.std.proofs.Common.{◌≡◌, ℕ, arith}
use Rattle.ada_port.specs.Counts.{Risen}

-- a rise, and an answer without a fault before it
pub Risen-after_same : {a b c : ℕ} → b ≡ a → Risen b c → Risen a c
Risen-after_same e h = record { later = omega (arith, e, h.later); higher = omega (arith, e, h.higher) }
