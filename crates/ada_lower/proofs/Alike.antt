-- Paths of which the same is asked, with as many calls.
use Rattle.std.proofs.Common.{refl}
use Rattle.ada_lower.specs.Driven.{Fixed, Alike}

abbrev pub alike : (f : Fixed) → Alike f f
alike f = (refl, refl)
