use Rattle.std.proofs.Common.{◌≡◌, drop}
use Rattle.check_clashes.specs.Breaches.{least_with}
use Rattle.check_clashes.specs.Touching.{touch_of, touches_of}
use Rattle.check_clashes.proofs.breaches.least_with.Given as goal

abbrev pub invariant-loop-effect : goal.invariant-loop-effect
invariant-loop-effect l = least_with l.block (touch_of l.write) (touches_of (drop l.effect-index l.effects)) l.all ≡ least_with l.block (touch_of l.write) (touches_of l.effects) l.fn.found
