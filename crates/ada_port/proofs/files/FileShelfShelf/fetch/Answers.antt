use Rattle.std.proofs.Common.{rules}
use Rattle.ada_port.proofs.files.FileShelfShelf.fetch.Goals as goal

pub returns-then-matches-clause-fetches : goal.returns-then-matches-clause-fetches
returns-then-matches-clause-fetches g c = search rules
