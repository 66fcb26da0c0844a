use Rattle.ada_threads.proofs.LeaseCells.{cells_on}
use Rattle.ada_threads.proofs.regions.add_regions.Goals as goal

pub loop-comb-preserved : goal.loop-comb-preserved
loop-comb-preserved c = cells_on c.args.run c.args.many c.args.combs.now c.loop-comb.comb-index _ c.args.regions.now.items c.loop-comb.regions.items c.push.new.self.items c.in_ok-region.region c.loop-comb-test.true c.loop-comb.invariant c.in_ok-region.ensures c.in_ok-push.ensures.items
