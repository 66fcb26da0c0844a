use Rattle.syntax_laws.proofs.Units.{right}
use Rattle.syntax_laws.proofs.exact_readers.Goals as goal

pub returns : goal.returns
returns c = right
