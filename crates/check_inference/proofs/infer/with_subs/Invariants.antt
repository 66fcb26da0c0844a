use Rattle.std.proofs.Common.{◌≡◌, map, length}
use Rattle.typed_tree.specs.Programs.{program, sub_of}
use Rattle.check_inference.specs.Program as spec
use Rattle.check_inference.proofs.infer.with_subs.Given as goal

abbrev pub invariant-loop-sub : goal.invariant-loop-sub
invariant-loop-sub l = spec.with_subs l.objects (map (sub_of l.source.typed.now.nodes) l.rest) l.all ≡ spec.with_subs l.objects (program l.source.typed.now).subs l.fn.found

abbrev pub decreases-loop-sub : goal.decreases-loop-sub
decreases-loop-sub l = length l.rest
