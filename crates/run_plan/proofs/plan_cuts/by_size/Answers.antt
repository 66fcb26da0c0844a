use Rattle.std.proofs.Common.{ap, ◌∙◌}
use Rattle.std.proofs.lemmas.Result.{IfOk-weaker}
use Rattle.ada_base.specs.Cuts.{chunked}
use Rattle.run_plan.proofs.Cutting.{cut-all, cut-more, chunked-last, chunked-more, chunked-stops, some-left}
use Rattle.run_plan.proofs.plan_cuts.by_size.Goals as goal
use Rattle.run_plan.proofs.plan_cuts.by_size.Goals.{then-loop-left-test+else-rest-size, else-loop-left-test}

pub loop-left-preserved : goal.loop-left-preserved
loop-left-preserved c =
    record {
      some = some-left c.loop-left.left c.loop-left-test.true;
      cut = cut-more c.loop-left.sizes _ _ _ _ c.from-size.result c.in_ok-push.ensures.ok (chunked-more c.from-size.result c.loop-left.left c.loop-left.rest c.loop-left-test.true c.if-rest-size.true) c.loop-left.invariant.cut;
    }

pub returns : goal.returns
returns c =
    IfOk-weaker c.with_rest.result _ _ (λ whole h.
    cut-all c.loop-left.sizes _ _ _ _ h
    (elim c.loop-left-test.branch [
      | then-loop-left-test+else-rest-size w ↦ chunked-stops c.from-size.result c.loop-left.left c.loop-left.rest w.if-rest-size.false
      | else-loop-left-test w ↦ chunked-last c.from-size.result c.loop-left.left c.loop-left.rest w.loop-left-test.false
    ])
    c.loop-left.invariant.cut
    ∙ ap (λ size. chunked size c.args.most c.args.n) c.from-size.ensures) c.with_rest.ensures
