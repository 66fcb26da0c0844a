use Rattle.std.proofs.Common.{rules, Ok}
use Rattle.run_parts.proofs.Copying.{back_step, back_ends}
use Rattle.run_parts.proofs.copies.+back_cells_behind.Goals as goal

pub returns-in_err-cells-in-Some : goal.returns-in_err-cells-in-Some
returns-in_err-cells-in-Some g t c = back_ends c.args.work.now c.in-Some.first.now c.in-Some.rest.now c.args.passed.now (search rules) c.args.out c.args.store.now c.in_err-cells-in-Some.field-0.0 _ (search rules) c.in_err-cells-in-Some.ensures

pub returns-in_err-all-in-Some : goal.returns-in_err-all-in-Some
returns-in_err-all-in-Some g t c = back_step c.args.work.now c.in-Some.first.now c.in-Some.rest.now c.args.passed.now (search rules) c.args.out c.args.store.now c.in_ok-cells-in-Some.cells c.in_ok-more-in-Some.more _ c.in_ok-cells-in-Some.ensures (search rules) (search rules)

pub returns-in_ok-all-in-Some : goal.returns-in_ok-all-in-Some
returns-in_ok-all-in-Some g t c = back_step c.args.work.now c.in-Some.first.now c.in-Some.rest.now c.args.passed.now (search rules) c.args.out c.args.store.now c.in_ok-cells-in-Some.cells c.in_ok-more-in-Some.more (Ok c.in_ok-all-in-Some.all) c.in_ok-cells-in-Some.ensures (search rules) c.in_ok-all-in-Some.ensures
