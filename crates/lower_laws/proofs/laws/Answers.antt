use Rattle.lower_laws.proofs.Codes.{lowered_law, ready_law, surrounded_law}
use Rattle.lower_laws.proofs.Leases.{granted_law}
use Rattle.lower_laws.proofs.Programs.{lent_law}
use Rattle.lower_laws.proofs.SeenWrites.{seen_law}
use Rattle.lower_laws.proofs.Told.{leased_law, names_law}
use Rattle.lower_laws.proofs.Deep.{fit_law}
use Rattle.lower_laws.proofs.laws.Goals as goal

pub returns : goal.returns
returns c = record { lowered = lowered_law; ready = ready_law; surrounded = surrounded_law; granted = granted_law; lent = lent_law; names = names_law; leased = leased_law; fit = fit_law; seen = seen_law }
