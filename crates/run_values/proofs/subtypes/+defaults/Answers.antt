use Rattle.std.proofs.Common.{arith}
use Rattle.typed_tree.specs.Programs.{program}
use Rattle.ada_meaning.specs.Values.{layout_within}
use Rattle.run_values.proofs.Layouts.{repeated_more}
use Rattle.run_values.proofs.subtypes.+defaults.Goals as goal

pub repeated_within-loop-k-preserved : goal.repeated_within-loop-k-preserved
repeated_within-loop-k-preserved t c =
    repeated_more c.loop-k.out c.defaults_within.new.out _ c.args.times c.loop-k._k (layout_within (program c.args.typed.now).subtypes c.args.levels c.args.component) (omega arith) c.loop-k.invariant c.in_ok-defaults_within.ensures
