use Rattle.std.proofs.Common.{◌≡◌, false, [], drop, ap, sym, ◌∙◌, subst}
use Rattle.machine_paths.specs.Noting.{spent_after, values_after, spent_by, values_by}
use Rattle.ada_threads.proofs.Overs.{spent_step, values_step, own_spent, own_values}
use Rattle.ada_threads.proofs.site.own_ends.Goals as goal

pub loop-over-preserved : goal.loop-over-preserved
loop-over-preserved c =
    let os = c.args.overs.now in
    let i = c.loop-over.over-index in
    let o = c.over-item.result in
    record {
      spent = spent_step os i o c.loop-over-test.true c.over-item.is (spent_after false os) c.loop-over.spent c.in-Ok.now c.loop-over.invariant.spent (c.in-Ok.ensures.spent ∙ ap (spent_by c.loop-over.spent) (sym c.how.ensures.how));
      values = values_step os i o c.loop-over-test.true c.over-item.is (values_after [] os) c.loop-over.values c.count.new.values c.loop-over.invariant.values (c.in-Ok.ensures.values ∙ ap (values_by c.loop-over.values) (sym c.how.ensures.how));
    }

pub returns-then-spent-clause-ends : goal.returns-then-spent-clause-ends
returns-then-spent-clause-ends c = λ how a.
    let os = c.args.overs.now in
    own_spent os c.loop-over.over-index c.loop-over-test.false (subst (λ b. spent_after false os ≡ spent_after b (drop c.loop-over.over-index os)) c.if-spent.true c.loop-over.invariant.spent) how a

pub returns-else-spent-clause-ends : goal.returns-else-spent-clause-ends
returns-else-spent-clause-ends c = λ how a.
    let os = c.args.overs.now in
    own_values os c.loop-over.over-index c.loop-over-test.false c.loop-over.values (subst (λ b. spent_after false os ≡ spent_after b (drop c.loop-over.over-index os)) c.if-spent.false c.loop-over.invariant.spent) c.loop-over.invariant.values how a
