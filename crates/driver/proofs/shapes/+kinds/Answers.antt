use Rattle.std.proofs.Common.{arith}
use Rattle.typed_tree.specs.Programs.{program}
use Rattle.ada_meaning.specs.Values.{layout_within}
use Rattle.driver.proofs.CellKinds.{kinds_more}
use Rattle.driver.proofs.shapes.+kinds.Goals as goal

pub repeated_kinds-loop-k-preserved : goal.repeated_kinds-loop-k-preserved
repeated_kinds-loop-k-preserved t c =
    kinds_more c.loop-k.out c.kinds_within.new.out _ c.args.times c.loop-k._k (layout_within (program c.args.typed.now).subtypes c.args.levels c.args.component) (omega arith) c.loop-k.invariant c.in_ok-kinds_within.ensures
