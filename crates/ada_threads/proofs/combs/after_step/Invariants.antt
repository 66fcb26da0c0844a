use Rattle.std.proofs.Common.{take}
use Rattle.ada_threads.specs.Reaching.{Onward}
use Rattle.ada_threads.proofs.combs.after_step.Given as goal

abbrev pub invariant-loop-comb : goal.invariant-loop-comb
invariant-loop-comb l = Onward l.chunk l.step (take l.comb-index l.before) l.combs
