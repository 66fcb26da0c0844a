use Rattle.std.proofs.Common.{◌∙◌, sym}
use Rattle.std.proofs.lemmas.List.{drop_more}
use Rattle.lower_code.proofs.Grown.{subs_kept, subs_end}
use Rattle.lower_code.proofs.body_tables.raise_subs.Goals as goal

pub loop-placed-preserved : goal.loop-placed-preserved
loop-placed-preserved c =
    let k = c.loop-placed.placed-index in
    subs_kept c.args.code.now k _ c.loop-placed.subs c.raise_sub.new.subs _ (drop_more c.args.code.now k _ c.loop-placed-test.true) c.raise_sub.ensures c.loop-placed.invariant

pub returns : goal.returns
returns c = sym (subs_end c.args.code.now c.loop-placed.placed-index c.loop-placed.subs c.loop-placed-test.false) ∙ c.loop-placed.invariant
