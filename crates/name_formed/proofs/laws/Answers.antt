use Rattle.name_formed.proofs.FormsPrograms.{formed_programs_law}
use Rattle.name_formed.proofs.laws.Goals as goal

pub returns : goal.returns
returns c = record { formed = formed_programs_law }
