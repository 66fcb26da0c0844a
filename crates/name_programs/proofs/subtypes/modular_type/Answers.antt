use Rattle.name_programs.specs.DeclarationSteps.{exponent}
use Rattle.name_programs.proofs.subtypes.modular_type.Goals as goal

pub returns-in-Some : goal.returns-in-Some
unfolding exponent
returns-in-Some c = rw c.in-Some.is c.modular_found.ensures
