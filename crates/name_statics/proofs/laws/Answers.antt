use Rattle.name_statics.proofs.StaticValues.{static_values_law}
use Rattle.name_statics.proofs.laws.Goals as goal

pub returns : goal.returns
returns c = record { statics = static_values_law }
