use Rattle.std.proofs.Common.{rules}
use Rattle.run_parts.proofs.Reducing.{both_passed}
use Rattle.run_parts.proofs.reducers.reduced_by.Goals as goal

pub returns : goal.returns
returns c =
    both_passed c.args.work.now c.args.sub c.args.a c.args.b _ _ c.in_ok-first.first c.in_ok-second.second c.in_ok-alone.alone c.in_ok-both.both c.formal_of.result c.formal_of-2.result c.formal_of.ensures c.formal_of-2.ensures c.in_ok-first.ensures c.in_ok-second.ensures (search rules) (search rules) (search rules)
    c.in_ok-both.ensures
