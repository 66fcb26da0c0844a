use Rattle.check_inference.specs.Program as spec
use Rattle.check_inference.proofs.Kept.{kept_next}
use Rattle.check_inference.proofs.infer.kept.Goals as goal

pub loop-touch-preserved : goal.loop-touch-preserved
loop-touch-preserved c = kept_next c.args.objects.now c.loop-touch.rest c.pop.new.self c.loop-touch.found c.keep.new.found (spec.kept c.args.objects.now c.args.touches) c.in-Some.touch c.in-Some.ensures c.in_ok-keep.ensures c.loop-touch.invariant
