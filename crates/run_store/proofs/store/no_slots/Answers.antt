use Rattle.std.proofs.Common.{arith}
use Rattle.ada_meaning.specs.Stored.{no_slot}
use Rattle.run_store.proofs.Slots.{slots_more}
use Rattle.run_store.proofs.store.no_slots.Goals as goal

pub loop-k-preserved : goal.loop-k-preserved
loop-k-preserved c = slots_more no_slot c.loop-k.slots c.push.new.self c.args.count c.loop-k._k (omega arith) c.loop-k.invariant c.in_ok-push.ensures.ok
