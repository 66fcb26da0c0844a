use Rattle.typed_tree.proofs.Objects.{layout}
use Rattle.typed_tree.proofs.RowMajor.{row_major}
use Rattle.typed_tree.proofs.WrittenRead.{kept_law, written_law}
use Rattle.typed_tree.proofs.laws.Goals as goal

pub returns-clause-kept : goal.returns-clause-kept
returns-clause-kept c = kept_law

pub returns-clause-written : goal.returns-clause-written
returns-clause-written c = written_law

pub returns-clause-layout : goal.returns-clause-layout
returns-clause-layout c = layout

pub returns-clause-row_major : goal.returns-clause-row_major
returns-clause-row_major c = row_major
