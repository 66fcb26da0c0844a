use Rattle.check_effects.proofs.rows.Goals as goal
use Rattle.check_effects.proofs.ClashesComputed.{clash_rows, touched_rows}
use Rattle.check_effects.proofs.DisjointComputed.{disjoint_rows, chunks_accepted, one_clash}
use Rattle.check_effects.proofs.EffectComputed.{formed_row, free_row, accepted_row}

pub returns-clause-formed : goal.returns-clause-formed
returns-clause-formed c = formed_row

pub returns-clause-free : goal.returns-clause-free
returns-clause-free c = free_row

pub returns-clause-accepted : goal.returns-clause-accepted
returns-clause-accepted c = accepted_row

pub returns-clause-clashes : goal.returns-clause-clashes
returns-clause-clashes c = clash_rows

pub returns-clause-touched : goal.returns-clause-touched
returns-clause-touched c = touched_rows

pub returns-clause-disjoint : goal.returns-clause-disjoint
returns-clause-disjoint c = disjoint_rows

pub returns-clause-chunks_accepted : goal.returns-clause-chunks_accepted
returns-clause-chunks_accepted c = chunks_accepted

pub returns-clause-one_clash : goal.returns-clause-one_clash
returns-clause-one_clash c = one_clash
