use Rattle.std.proofs.Common.{take}
use Rattle.ada_threads.specs.Areas.{AddsCells}
use Rattle.ada_threads.proofs.regions.add_regions.Given as goal

abbrev pub invariant-loop-comb : goal.invariant-loop-comb
invariant-loop-comb l = AddsCells l.run l.many (take l.comb-index l.combs) l.fn.regions.items l.regions.items
