use Rattle.ada_meaning.proofs.look_rows.Goals as goal
use Rattle.ada_meaning.proofs.LooksComputed as looks

pub returns : goal.returns
returns c = looks.look_rows
