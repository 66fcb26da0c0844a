use Rattle.std.proofs.Common.{◌≡◌, take}
use Rattle.driver.specs.Compiled.{exception_names}
use Rattle.driver.proofs.units.exceptions.Given as goal

abbrev pub invariant-loop-exception : goal.invariant-loop-exception
invariant-loop-exception l = l.names ≡ exception_names l.tokens (take l.exception-index l.declared)
