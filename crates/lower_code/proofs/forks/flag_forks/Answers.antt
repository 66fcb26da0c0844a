use Rattle.std.proofs.Common.{◌∙◌, sym}
use Rattle.std.proofs.lemmas.List.{drop_more}
use Rattle.lower_code.proofs.ForkFlags.{flags_kept, flags_end}
use Rattle.lower_code.proofs.forks.flag_forks.Goals as goal

pub loop-placed-preserved : goal.loop-placed-preserved
loop-placed-preserved c =
    let k = c.loop-placed.placed-index in
    flags_kept c.args.code.now k _ c.loop-placed.flags c.flag_fork.new.flags _ (drop_more c.args.code.now k _ c.loop-placed-test.true) c.flag_fork.ensures c.loop-placed.invariant

pub returns : goal.returns
returns c = sym (flags_end c.args.code.now c.loop-placed.placed-index c.loop-placed.flags c.loop-placed-test.false) ∙ c.loop-placed.invariant
