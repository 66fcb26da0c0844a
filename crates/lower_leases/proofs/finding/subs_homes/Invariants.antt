use Rattle.std.proofs.Common.{◌≡◌, map, length}
use Rattle.typed_tree.specs.Programs.{program, sub_of}
use Rattle.std.specs.Prelude.{IsTrue}
use Rattle.ada_lower.specs.Homes as spec
use Rattle.lower_leases.proofs.finding.subs_homes.Given as goal

abbrev pub invariant-loop-sub : goal.invariant-loop-sub
invariant-loop-sub l = IsTrue l.out.whole → IsTrue l.fn.out.whole × (spec.subs_homes (program l.typed) (map (sub_of l.typed.nodes) l.rest) l.out.found ≡ spec.subs_homes (program l.typed) (program l.typed).subs l.fn.out.found)

abbrev pub decreases-loop-sub : goal.decreases-loop-sub
decreases-loop-sub l = length l.rest
