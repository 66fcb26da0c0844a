use Rattle.std.proofs.Common.{◌≡◌, drop}
use Rattle.check_clashes.specs.Breaches.{least_touched}
use Rattle.check_clashes.specs.Touching.{touches_of}
use Rattle.check_clashes.proofs.breaches.least_touched.Given as goal

abbrev pub invariant-loop-effect : goal.invariant-loop-effect
invariant-loop-effect l = least_touched l.block (touches_of (drop l.effect-index l.effects)) l.all ≡ least_touched l.block (touches_of l.effects) l.fn.found
