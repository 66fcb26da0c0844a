use Rattle.ada_meaning.proofs.stored.laws.Goals as goal
use Rattle.ada_meaning.proofs.Chained.{join_law}
use Rattle.ada_meaning.proofs.Framed.{frame_law}
use Rattle.ada_meaning.proofs.TeamsApart.{apart_law}
use Rattle.ada_meaning.proofs.Plain.{plain_law}
use Rattle.ada_meaning.proofs.Recorded.{done_law}
use Rattle.ada_meaning.proofs.Views.{view_law}
use Rattle.ada_meaning.proofs.StoredProof.{stored_law, noted_law, stopped_law, noted_stopped_law, journal_law, some_law, stored_sequential_law}

pub returns-clause-stored : goal.returns-clause-stored
returns-clause-stored c = stored_law

pub returns-clause-noted : goal.returns-clause-noted
returns-clause-noted c = noted_law

pub returns-clause-stopped : goal.returns-clause-stopped
returns-clause-stopped c = stopped_law

pub returns-clause-noted_stopped : goal.returns-clause-noted_stopped
returns-clause-noted_stopped c = noted_stopped_law

pub returns-clause-frame : goal.returns-clause-frame
returns-clause-frame c = frame_law

pub returns-clause-apart : goal.returns-clause-apart
returns-clause-apart c = apart_law

pub returns-clause-join : goal.returns-clause-join
returns-clause-join c = join_law

pub returns-clause-view : goal.returns-clause-view
returns-clause-view c = view_law

pub returns-clause-plain : goal.returns-clause-plain
returns-clause-plain c = plain_law

pub returns-clause-done : goal.returns-clause-done
returns-clause-done c = done_law

pub returns-clause-journal : goal.returns-clause-journal
returns-clause-journal c = journal_law

pub returns-clause-some : goal.returns-clause-some
returns-clause-some c = some_law

pub returns-clause-stored_sequential : goal.returns-clause-stored_sequential
returns-clause-stored_sequential c = stored_sequential_law
