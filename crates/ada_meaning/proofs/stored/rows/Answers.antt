use Rattle.ada_meaning.proofs.stored.rows.Goals as goal
use Rattle.ada_meaning.proofs.StoredComputed.{stored_rows, noted_rows, chosen_rows, cut_rows, deeds_row, teams_row, soaks}
use Rattle.ada_meaning.proofs.StoredFault.{fault_of_input, fault_of_output}

pub returns-clause-stored : goal.returns-clause-stored
returns-clause-stored c = stored_rows

pub returns-clause-noted : goal.returns-clause-noted
returns-clause-noted c = noted_rows

pub returns-clause-chosen : goal.returns-clause-chosen
returns-clause-chosen c = chosen_rows

pub returns-clause-cut : goal.returns-clause-cut
returns-clause-cut c = cut_rows

pub returns-clause-deeds : goal.returns-clause-deeds
returns-clause-deeds c = deeds_row

pub returns-clause-teams : goal.returns-clause-teams
returns-clause-teams c = teams_row

pub returns-clause-fault : goal.returns-clause-fault
returns-clause-fault c = fault_of_input

pub returns-clause-write_fault : goal.returns-clause-write_fault
returns-clause-write_fault c = fault_of_output

pub returns-clause-soaks : goal.returns-clause-soaks
returns-clause-soaks c = soaks
