use Rattle.std.proofs.Common.{◌-◌}
use Rattle.name_programs.specs.DeclarationSteps.{Reached}
use Rattle.name_programs.proofs.subtypes.exponent_of.Given as goal

abbrev pub invariant-exponents : goal.invariant-exponents
invariant-exponents l = Reached l.modulus l.k l.power

abbrev pub decreases-exponents : goal.decreases-exponents
decreases-exponents l = 65 - l.k
