use Rattle.std.proofs.Common.{◌++◌, ap, sym, ◌∙◌}
use Rattle.std.proofs.lemmas.List.{append-nil}
use Rattle.run_plan.proofs.Cutting.{rest-some, rest-none}
use Rattle.run_plan.proofs.plan_cuts.with_rest.Goals as goal
use Rattle.run_plan.proofs.plan_cuts.with_rest.Goals.{then-rest-gt0+in_ok-push, else-rest-gt0}

pub returns : goal.returns
returns c =
    elim c.if-rest-gt0.branch [
      | then-rest-gt0+in_ok-push w ↦ w.sizes-is ∙ w.in_ok-push.ensures.ok ∙ ap (λ r. c.args.sizes ++ r) (sym (rest-some c.args.rest w.if-rest-gt0.true))
      | else-rest-gt0 w ↦ w.sizes-is ∙ sym (append-nil c.args.sizes) ∙ ap (λ r. c.args.sizes ++ r) (sym (rest-none c.args.rest w.if-rest-gt0.false))
    ]
