use Rattle.std.proofs.Common.{◌≡◌, drop}
use Rattle.check_clashes.specs.Breaches.{least_clash}
use Rattle.check_clashes.specs.Touching.{touches_of}
use Rattle.check_clashes.proofs.breaches.least_clash.Given as goal

abbrev pub invariant-loop-effect : goal.invariant-loop-effect
invariant-loop-effect l = least_clash l.block (touches_of l.effects) (touches_of (drop l.effect-index l.effects)) l.all ≡ least_clash l.block (touches_of l.effects) (touches_of l.effects) l.fn.found
