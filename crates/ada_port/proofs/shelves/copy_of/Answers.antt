use Rattle.std.proofs.Common.{take, ap, ◌∙◌}
use Rattle.std.proofs.lemmas.List.{take_min}
use Rattle.ada_port.proofs.shelves.copy_of.Goals as goal

pub returns-clause-bytes : goal.returns-clause-bytes
returns-clause-bytes c =
    c.in_ok-from_slice.ensures.items ∙ ap (λ k. take k c.args.text.now) c.min-most.ensures ∙ take_min 1048577 c.args.text.now
