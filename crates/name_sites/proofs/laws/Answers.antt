use Rattle.name_sites.proofs.Distinct.{sites_law}
use Rattle.name_sites.proofs.laws.Goals as goal

pub returns : goal.returns
returns c = record { sites = sites_law }
