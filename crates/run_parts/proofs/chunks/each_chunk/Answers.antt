use Rattle.std.proofs.Common.{rules}
use Rattle.run_parts.proofs.Dealt.{each_not, each_none, each_some, each_many}
use Rattle.run_parts.proofs.chunks.each_chunk.Goals as goal

pub returns-then-not-bounds_hold : goal.returns-then-not-bounds_hold
returns-then-not-bounds_hold g c = each_not c.args.work.now c.args.parameter c.args.check c.args.range.low c.args.range.high c.args.store.now (search rules)

pub returns-else-ordered : goal.returns-else-ordered
returns-else-ordered g c = each_none c.args.work.now c.args.parameter c.args.check c.args.range.low c.args.range.high c.args.store.now (search rules) (search rules)

pub returns-in-Some : goal.returns-in-Some
returns-in-Some g c = each_some c.args.work.now c.args.parameter c.args.check c.args.range.low c.args.range.high c.args.store.now (search rules) (search rules) c.in-Some.ensures.0 _ c.in-Some.chunks (search rules) c.in-Some.ensures.1

pub returns-in-None : goal.returns-in-None
returns-in-None g c = each_many c.args.work.now c.args.parameter c.args.check c.args.range.low c.args.range.high c.args.store.now (search rules) (search rules) c.in-None.ensures
