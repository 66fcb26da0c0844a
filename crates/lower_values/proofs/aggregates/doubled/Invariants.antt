use Rattle.std.proofs.Common.{◌≡◌}
use Rattle.std.specs.Prelude.{IsTrue}
use Rattle.lower_emission.specs.Emits.{written}
use Rattle.lower_emission.specs.Emission.{doubled}
use Rattle.lower_values.specs.Words.{env_of}
use Rattle.lower_values.proofs.aggregates.doubled.Given as goal

abbrev pub invariant-loop-left : goal.invariant-loop-left
invariant-loop-left l =
    IsTrue l.out.whole → IsTrue l.fn.out.whole
    × (written (doubled (env_of l.env) l.h l.first l.all.size l.left l.done l.all.count) l.out.code
    ≡ written (doubled (env_of l.env) l.h l.first l.all.size l.all.count 1 l.all.count) l.fn.out.code)

abbrev pub decreases-loop-left : goal.decreases-loop-left
decreases-loop-left l = l.left
