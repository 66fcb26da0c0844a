use Rattle.std.proofs.Common.{refl}
use Rattle.std.specs.Fmt.{digits}
use Rattle.run_reports.proofs.vars.rows.Goals as goal

pub returns-clause-three_cells : goal.returns-clause-three_cells
unfolding digits
returns-clause-three_cells c = refl

pub returns-clause-two_lines : goal.returns-clause-two_lines
unfolding digits
returns-clause-two_lines c = refl

pub returns-clause-greatest_digits : goal.returns-clause-greatest_digits
unfolding digits
returns-clause-greatest_digits c = refl
