use Rattle.lower_quiet.proofs.Hushing.{quiet_law}
use Rattle.lower_quiet.proofs.laws.Goals as goal

pub returns : goal.returns
returns c = record { quiet = quiet_law }
