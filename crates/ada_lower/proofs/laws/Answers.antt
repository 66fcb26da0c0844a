use Rattle.ada_lower.proofs.laws.Goals as goal
use Rattle.ada_lower.proofs.Computed.{shares, parts, deals, marks, reaches, nests, ways}
use Rattle.ada_lower.proofs.Housed.{homes_law}
use Rattle.ada_lower.proofs.Local.{local_law}
use Rattle.ada_lower.proofs.WholeLaws.{whole_law, value_law, forward_law, valid_law, tables_law}
use Rattle.ada_lower.proofs.WholeSafe.{view_law}

pub returns-clause-whole : goal.returns-clause-whole
returns-clause-whole c = whole_law

pub returns-clause-value : goal.returns-clause-value
returns-clause-value c = value_law

pub returns-clause-view : goal.returns-clause-view
returns-clause-view c = view_law

pub returns-clause-forward : goal.returns-clause-forward
returns-clause-forward c = forward_law

pub returns-clause-valid : goal.returns-clause-valid
returns-clause-valid c = valid_law

pub returns-clause-tables : goal.returns-clause-tables
returns-clause-tables c = tables_law

pub returns-clause-leases : goal.returns-clause-leases
returns-clause-leases c = (shares, parts, deals, marks, reaches, nests, ways)

pub returns-clause-homes : goal.returns-clause-homes
returns-clause-homes c = homes_law

pub returns-clause-local : goal.returns-clause-local
returns-clause-local c = local_law
