use Rattle.std.proofs.Common.{◌≡◌, ◌<◌, get_or, arith}
use Rattle.ada_threads.proofs.Sizes.{kept_on, kept_still}
use Rattle.ada_threads.proofs.cutting.filled.Goals as goal

pub loop-size-preserved : goal.loop-size-preserved
loop-size-preserved c =
    let some : 0 < get_or c.args.sizes.now c.loop-size.size-index 0 = omega (arith, c.if-size-eq0.false) in
    kept_on c.args.sizes.now c.loop-size.kept c.push.new.self c.loop-size.size-index c.loop-size-test.true some c.loop-size.invariant c.in_ok-push.ensures.ok

pub loop-size-preserved-then-size-eq0 : goal.loop-size-preserved-then-size-eq0
loop-size-preserved-then-size-eq0 c =
    let none : get_or c.args.sizes.now c.loop-size.size-index 0 ≡ 0 = omega (arith, c.if-size-eq0.true) in
    kept_still c.args.sizes.now c.loop-size.kept c.loop-size.size-index c.loop-size-test.true none c.loop-size.invariant
