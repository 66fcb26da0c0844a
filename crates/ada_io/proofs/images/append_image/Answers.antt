use Rattle.std.proofs.Common.{rules}
use Rattle.ada_io.proofs.images.append_image.Goals as goal

pub returns-clause-ok : goal.returns-clause-ok
returns-clause-ok c = search rules
