use Rattle.std.proofs.Common.{ap, ◌∙◌, w64}
use Rattle.std.proofs.lemmas.Int.{to_z-of_z}
use Rattle.std.specs.Int.{cast_unsigned}
use Rattle.ada_base.proofs.Turning.{digits_of}
use Rattle.ada_base.proofs.operation.digits.Goals as goal

pub returns : goal.returns
returns c = c.cast_unsigned.ensures ∙ ap (λ z. cast_unsigned w64 z) (to_z-of_z w64 c.args.kept c.ranges.kept) ∙ digits_of c.args.kept c.ranges.kept
