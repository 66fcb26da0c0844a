use Rattle.std.proofs.Common.{rules, neg_ℤ, nat_abs, pos}
use Rattle.ada_meaning.specs.Values.{base_of}
use Rattle.ada_meaning.specs.Operations.{OverflowCheck}
use Rattle.run_values.proofs.Signs.{checked_comes}
use Rattle.run_values.proofs.values.plain_unary.Goals as goal

pub returns-in-Minus : goal.returns-in-Minus
returns-in-Minus c = rw (c.in-Minus.is) (checked_comes OverflowCheck (base_of c.args.class) (neg_ℤ c.args.value) c.negated.result (search rules))

pub returns-in-Abs : goal.returns-in-Abs
returns-in-Abs c = rw (c.in-Abs.is) (checked_comes OverflowCheck (base_of c.args.class) (pos (nat_abs c.args.value)) c.magnitude.result (search rules))
