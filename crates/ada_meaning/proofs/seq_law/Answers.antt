use Rattle.typed_tree.specs.Programs.{program}
use Rattle.ada_meaning.proofs.Law.{sequential_law}
use Rattle.ada_meaning.proofs.seq_law.Goals as goal

pub returns : goal.returns
returns c = sequential_law (program c.args.typed.now)
