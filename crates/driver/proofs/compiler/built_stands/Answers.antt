use Rattle.driver.proofs.Standing.{stands_by}
use Rattle.driver.proofs.compiler.built_stands.Goals as goal

pub returns : goal.returns
returns c = stands_by c.laws-2.ensures.named c.laws.ensures.accepted c.laws-3.ensures.tells
