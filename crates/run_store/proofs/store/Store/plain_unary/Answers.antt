use Rattle.std.proofs.Common.{rules, neg_ℤ, nat_abs, pos}
use Rattle.ada_meaning.specs.Values.{base_of}
use Rattle.ada_meaning.specs.Operations.{OverflowCheck}
use Rattle.run_store.proofs.Signs.{checked_shows}
use Rattle.run_store.proofs.store.Store.plain_unary.Goals as goal

pub returns-in-Some : goal.returns-in-Some
returns-in-Some g c = rw (c.in-Minus.is) (checked_shows OverflowCheck c.args.at (base_of c.args.class) (neg_ℤ c.args.value) _ c.args.self.now (search rules))

pub returns-in-Some-magnitude : goal.returns-in-Some-magnitude
returns-in-Some-magnitude g c = rw (c.in-Abs.is) (checked_shows OverflowCheck c.args.at (base_of c.args.class) (pos (nat_abs c.args.value)) _ c.args.self.now (search rules))
