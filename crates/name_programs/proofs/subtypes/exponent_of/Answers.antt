use Rattle.std.proofs.Common.{arith}
use Rattle.name_programs.proofs.Exponents.{at_first, at_none, at_this, reached, small_power}
use Rattle.name_programs.proofs.subtypes.exponent_of.Goals as goal

pub returns-then-modulus-power : goal.returns-then-modulus-power
returns-then-modulus-power c = at_this c.args.modulus c.exponents.k c.exponents.power c.exponents.invariant c.exponents-test.true c.if-modulus-power.true

pub overflow_add-power : goal.overflow_add-power
overflow_add-power c = let h = c.exponents.invariant in omega (arith, h.1, small_power c.exponents.k c.exponents-test.true)

pub exponents-preserved : goal.exponents-preserved
exponents-preserved c = reached c.args.modulus c.exponents.k c.exponents.power c.exponents.invariant c.exponents-test.true c.if-modulus-power.false

pub returns : goal.returns
returns c = at_none c.args.modulus c.exponents.k c.exponents.power c.exponents.invariant c.exponents-test.false

pub exponents-init : goal.exponents-init
exponents-init c = at_first c.args.modulus
