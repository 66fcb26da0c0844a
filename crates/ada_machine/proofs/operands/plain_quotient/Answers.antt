use Rattle.std.proofs.Common.{w64}
use Rattle.std.proofs.lemmas.Int.{to_z-of_z}
use Rattle.ada_machine.proofs.Divisions.{quotient_is}
use Rattle.ada_machine.proofs.operands.plain_quotient.Goals as goal

pub returns : goal.returns
returns c = quotient_is c.args.base c.args.x c.args.y c.divided.result c.within.result (simp (to_z-of_z w64 c.args.x c.ranges.x, to_z-of_z w64 c.args.y c.ranges.y) at c.divided.ensures) c.within.ensures
