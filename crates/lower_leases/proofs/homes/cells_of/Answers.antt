use Rattle.lower_leases.proofs.Sizes.{cells_are}
use Rattle.lower_leases.proofs.homes.cells_of.Goals as goal

pub returns : goal.returns
returns c = cells_are c.args.typed.now c.len.result c.args.subtype c.opened.result c.part_size.result c.len.ensures c.opened.ensures.shape c.part_size.ensures
