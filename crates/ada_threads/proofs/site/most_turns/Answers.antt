use Rattle.std.proofs.Common.{sym}
use Rattle.ada_threads.proofs.Overs.{turns_step, turns_done, most_within}
use Rattle.machine_paths.specs.Noting.{turns_of}
use Rattle.ada_threads.proofs.site.most_turns.Goals as goal

pub loop-over-preserved : goal.loop-over-preserved
loop-over-preserved c =
    let os = c.args.overs.now in
    let i = c.loop-over.over-index in
    let o = c.over-item.result in
    record {
      most = turns_step os i o c.loop-over-test.true c.over-item.is (turns_of c.args.from os) c.loop-over.most c.turns_by-most.result c.loop-over.invariant.most c.turns_by-most.ensures.most;
      within = λ p all le. most_within p os all i o c.loop-over-test.true c.over-item.is c.loop-over.most c.turns_by-most.result (c.loop-over.invariant.within p all le) c.turns_by-most.ensures.within c.turns_by-most.ensures.most;
    }

pub returns-clause-most : goal.returns-clause-most
returns-clause-most c = sym (turns_done c.args.overs.now c.loop-over.over-index c.loop-over-test.false (turns_of c.args.from c.args.overs.now) c.loop-over.most c.loop-over.invariant.most)

pub returns-clause-within : goal.returns-clause-within
returns-clause-within c = c.loop-over.invariant.within
