use Rattle.std.proofs.Common.{take}
use Rattle.ada_threads.specs.Shares.{share_of}
use Rattle.ada_threads.proofs.LeaseCells.{Covers}
use Rattle.ada_threads.proofs.regions.regions_of.Given as goal

abbrev pub invariant-loop-lease : goal.invariant-loop-lease
invariant-loop-lease l = Covers l.lender.site.now l.lender.asked l.lender.sees.now l.lender.many (share_of l.part) (take l.lease-index l.lender.site.now.leases) l.regions.items
