use Rattle.std.proofs.Common.{◌≡◌, drop}
use Rattle.check_clashes.specs.Granted.{written}
use Rattle.check_clashes.specs.Touching.{touches_of}
use Rattle.check_clashes.proofs.granted.written_by.Given as goal

abbrev pub invariant-loop-effect : goal.invariant-loop-effect
invariant-loop-effect l = written l.site (touches_of (drop l.effect-index l.effects)) l.found ≡ written l.site (touches_of l.effects) l.fn.found
