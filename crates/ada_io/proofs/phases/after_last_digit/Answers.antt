use Rattle.std.proofs.Common.{rules, sym, ◌∙◌}
use Rattle.ada_io.proofs.Steps.{underscore_asks}
use Rattle.ada_io.proofs.phases.after_last_digit.Goals as goal

pub returns-then-is_byte : goal.returns-then-is_byte
returns-then-is_byte c = underscore_asks c.args.negative c.args.magnitude c.args.symbol c.requires (sym c.is_byte.ensures ∙ c.if-is_byte.true)

pub returns-then-not-is_in_base : goal.returns-then-not-is_in_base
returns-then-not-is_in_base c = search rules

pub returns-else-not-is_in_base : goal.returns-else-not-is_in_base
returns-else-not-is_in_base c = search rules
