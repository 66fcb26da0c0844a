use Rattle.std.proofs.Common.{◌∙◌, ap₂}
use Rattle.clap.specs.Simple.{with_rule}
use Rattle.command_words.proofs.words.command.Goals as goal

pub returns : goal.returns
returns c =
    c.in_ok-command.ensures.shape c.flag-vars.ensures.1 ∙ ap₂ with_rule
    (c.in_ok-arg-5.ensures.shape c.option-turns.ensures.1 ∙ ap₂ with_rule
    (c.in_ok-arg-4.ensures.shape c.option-chunks.ensures.1 ∙ ap₂ with_rule
    (c.in_ok-arg-3.ensures.shape c.option-workers.ensures.1 ∙ ap₂ with_rule
    (c.in_ok-arg-2.ensures.shape c.positional-file.ensures.1 ∙ ap₂ with_rule
    (c.in_ok-arg.ensures.shape c.positional-mode.ensures.1 ∙ ap₂ with_rule c.bare.ensures c.positional-mode.ensures.0)
    c.positional-file.ensures.0) c.option-workers.ensures.0) c.option-chunks.ensures.0) c.option-turns.ensures.0) c.flag-vars.ensures.0
