use Rattle.std.proofs.Common.{rules}
use Rattle.run_parts.proofs.Copying.{kept_more}
use Rattle.run_parts.proofs.copies.kept_in_front.Goals as goal

pub loop-first-preserved : goal.loop-first-preserved
loop-first-preserved c = kept_more c.args.passed.now c.loop-first.kept c.in-Some.first.now _ (search rules) c.in-Some.ensures.lookup.1 (search rules) c.loop-first.invariant
