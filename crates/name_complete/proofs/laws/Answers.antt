use Rattle.name_complete.proofs.SoundPrograms.{typed_or_faulty_law}
use Rattle.name_complete.proofs.laws.Goals as goal

pub returns : goal.returns
returns c = record { complete = typed_or_faulty_law }
