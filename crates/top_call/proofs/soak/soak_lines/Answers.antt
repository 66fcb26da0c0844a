use Rattle.std.proofs.Common.{◌∙◌, ap}
use Rattle.top_call.specs.Soak.{soak_lines}
use Rattle.top_call.proofs.Soaking.{joined}
use Rattle.top_call.proofs.soak.soak_lines.Goals as goal

pub returns : goal.returns
returns c =
    joined _ _ _ _ _ _ _ _ _ _ _ c.new-lines.ensures c.in_ok-push_count.ensures c.in_ok-push_count-2.ensures c.in_ok-push_count-3.ensures c.in_ok-extend.ensures.ok c.in_ok-extend-2.ensures.ok
    ∙ ap (λ n. soak_lines n c.args.bytes c.args.output.now) c.from-statements.ensures
