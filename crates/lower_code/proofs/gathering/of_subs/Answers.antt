use Rattle.lower_code.proofs.Gathered.{subs_next}
use Rattle.lower_code.proofs.gathering.of_subs.Goals as goal

-- a subprogram's texts are gathered
pub loop-sub-preserved : goal.loop-sub-preserved
loop-sub-preserved c = λ h. (
  (c.loop-sub.invariant (c.of_body.ensures (c.next-number.ensures.counts h).0).0).0,
  subs_next c.args.typed.now c.loop-sub.number c.next-number.result c.in-Some.sub c.loop-sub.out.texts c.of_body.new.out.texts c.next-number.new.out.texts _
      c.in-Some.ensures (c.next-number.ensures.counts h).1 (c.of_body.ensures (c.next-number.ensures.counts h).0).1 (c.loop-sub.invariant (c.of_body.ensures (c.next-number.ensures.counts h).0).0).1,
)
