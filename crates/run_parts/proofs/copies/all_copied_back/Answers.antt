use Rattle.std.proofs.Common.{sym}
use Rattle.run_parts.proofs.Copying.{copied_from}
use Rattle.run_parts.proofs.copies.all_copied_back.Goals as goal

pub returns : goal.returns
returns g c = copied_from c.args.work.now c.args.calls c.cells.inside.before c.args.passed.now c.behind-rest.result.now c.cells.inside.lists c.as_slice.result.now c.args.cells.now c.copied_behind.result c.args.store.now c.copied_behind.new.store c.behind-rest.ensures c.as_slice.ensures (sym c.cells.view_is) c.copied_behind.ensures
