use Rattle.std.proofs.lemmas.Result.{IfOk-weaker}
use Rattle.run_plan.proofs.Cutting.{above-one, cut-all, cut-more, listed-last, listed-more, listed-none, listed-stops, some-left}
use Rattle.run_plan.proofs.plan_cuts.by_list.Goals as goal
use Rattle.run_plan.proofs.plan_cuts.by_list.Goals.{else-loop-size-test, then-loop-size-test+then-left-eq1, then-left-eq1-via-then-left-eq1, then-left-eq1-via-else-left-eq1+then-rest-size}

pub loop-size-preserved : goal.loop-size-preserved
loop-size-preserved c =
    let more = above-one c.loop-size.left c.loop-size.invariant.some c.if-left-eq1.false in
    record {
      some = some-left c.loop-size.left more;
      cut = cut-more c.loop-size.sizes _ _ _ _ c.from-size.result c.in_ok-push.ensures.ok (listed-more c.args.given.now c.loop-size.size-index c.loop-size.left c.loop-size.rest c.from-size.result c.loop-size-test.true c.from-size.ensures more c.if-rest-size.false) c.loop-size.invariant.cut;
    }

pub returns : goal.returns
returns c =
    IfOk-weaker c.with_rest.result _ _ (λ whole h.
    cut-all c.loop-size.sizes _ _ _ _ h
    (elim c.loop-size-test.branch [
      | else-loop-size-test w ↦ listed-none c.args.given.now c.loop-size.size-index c.loop-size.left c.loop-size.rest w.loop-size-test.false
      | then-loop-size-test+then-left-eq1 w ↦
          elim w.then-left-eq1.branch [
            | then-left-eq1-via-then-left-eq1 w' ↦ listed-last _ c.loop-size.left c.loop-size.rest w'.if-left-eq1.true
            | then-left-eq1-via-else-left-eq1+then-rest-size w' ↦
                listed-stops c.args.given.now c.loop-size.size-index c.loop-size.left c.loop-size.rest w.from-size.result w.loop-size-test.true w.from-size.ensures w'.if-rest-size.true
          ]
    ])
    c.loop-size.invariant.cut) c.with_rest.ensures
