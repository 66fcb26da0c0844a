use Rattle.run_loaded.proofs.Loading.{accepted_law, loaded_law}
use Rattle.run_loaded.proofs.laws.Goals as goal

pub returns : goal.returns
returns c = record { loaded = loaded_law; accepted = accepted_law }
