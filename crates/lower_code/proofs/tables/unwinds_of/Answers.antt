use Rattle.std.proofs.Common.{◌≡◌, refl, length}
use Rattle.std.specs.Prelude.{slice_get, Some}
use Rattle.std.proofs.lemmas.Option.{slice_get_read}
use Rattle.lower_emission.specs.Tables as spec
use Rattle.lower_code.proofs.TableSteps.{unwinds_kept, ended}
use Rattle.lower_code.proofs.tables.unwinds_of.Goals as goal

pub loop-placed-preserved : goal.loop-placed-preserved
loop-placed-preserved c =
    let code = c.args.code.now in
    let at = c.loop-placed.at in
    let h = c.in-Some.ensures.lookup in
    let e : slice_get code at ≡ Some c.in-Some.placed.now = slice_get_read code (length code) at c.in-Some.placed.now refl h.3.0 h.1 in
    let n = rw c.in_ok-at.ensures.ok_part at c.checked_add.ensures in
    unwinds_kept code c.loop-placed.before at c.in_ok-at.at c.in-Some.placed.now _ _ _ e n.1 c.in_ok-push_begun.ensures c.loop-placed.invariant

pub returns : goal.returns
returns c = ended (spec.unwinds_from c.args.code.now c.loop-placed.before c.loop-placed.at) c.args.code.now c.loop-placed.at _ _ refl c.in_default.ensures.lookup.3 c.loop-placed.invariant
