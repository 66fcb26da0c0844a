use Rattle.ada_meaning.proofs.blocked_rows.Goals as goal
use Rattle.ada_meaning.proofs.BlocksComputed as blocks

pub returns : goal.returns
returns c = blocks.blocked_rows
