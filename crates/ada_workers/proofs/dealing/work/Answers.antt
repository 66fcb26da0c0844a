use Rattle.std.proofs.Common.{sym, subst, arith}
use Rattle.ada_workers.proofs.Sharing.{none_done, one_done}
use Rattle.ada_workers.proofs.dealing.work.Goals as goal

pub loop-k-init : goal.loop-k-init
loop-k-init g c = none_done g.T.Duty.ran c.args.tasks.now

pub run-requires : goal.run-requires
run-requires g c =
    let x = c.index-tasks-k.result in
    subst g.T.Duty.ready (sym (c.loop-k.invariant.0 c.loop-k.k x (omega arith))) (c.requires.ready c.loop-k.k x c.loop-k-test.true)

pub loop-k-preserved : goal.loop-k-preserved
loop-k-preserved g c = one_done g.T.Duty.ran c.loop-k.k c.args.tasks.now c.loop-k.tasks c.index-tasks-k.result c.run.new.self c.loop-k-test.true c.loop-k.auto.tasks c.loop-k.invariant c.run.ensures

pub returns : goal.returns
returns g c k d lt = c.loop-k.invariant.1 k d (omega (arith, c.loop-k-test.false))
