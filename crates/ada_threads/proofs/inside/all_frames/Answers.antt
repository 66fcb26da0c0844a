use Rattle.std.proofs.Common.{[], ◌∷◌, ◌++◌, ◌∙◌, ap}
use Rattle.ada_threads.proofs.inside.all_frames.Goals as goal

pub returns : goal.returns
returns c =
    let pushed = c.in_ok-push.ensures.items ∙ ap (λ l. l ++ c.args.base ∷ []) c.new-frames.ensures.items in
    let given = c.as_slice.ensures.value ∙ c.in_ok-seen.ensures [] in
    c.in_ok-extend_from_slice.ensures.items ∙ ap (λ l. l ++ c.as_slice.result.now) pushed ∙ ap (λ l. c.args.base ∷ l) given
