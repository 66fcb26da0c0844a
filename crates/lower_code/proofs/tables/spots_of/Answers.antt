use Rattle.std.proofs.Common.{refl}
use Rattle.std.proofs.lemmas.List.{drop_more}
use Rattle.lower_emission.specs.Tables as spec
use Rattle.lower_code.proofs.TableSteps.{spots_kept, ended}
use Rattle.lower_code.proofs.tables.spots_of.Goals as goal

pub loop-placed-preserved : goal.loop-placed-preserved
loop-placed-preserved c =
    let k = c.loop-placed.placed-index in
    let n = rw c.in_ok-begun.ensures.ok_part at c.begun_by.ensures.is in
    spots_kept c.args.code.now c.loop-placed.before c.loop-placed.begun c.in_ok-begun.begun k _ _ _ _ _ (drop_more c.args.code.now k _ c.loop-placed-test.true) n c.spot_of.ensures c.in_ok-push.ensures.ok c.loop-placed.invariant

pub returns : goal.returns
returns c = ended (spec.spots_from c.loop-placed.before c.loop-placed.begun) c.args.code.now c.loop-placed.placed-index _ _ refl c.loop-placed-test.false c.loop-placed.invariant
