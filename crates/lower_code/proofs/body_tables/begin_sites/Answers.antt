use Rattle.std.proofs.Common.{◌≡◌, ◌∙◌, sym, refl, length}
use Rattle.std.specs.Prelude.{slice_get, Some}
use Rattle.std.proofs.lemmas.Option.{slice_get_read}
use Rattle.lower_code.proofs.Grown.{sites_kept, sites_end}
use Rattle.lower_code.proofs.body_tables.begin_sites.Goals as goal

pub loop-placed-preserved : goal.loop-placed-preserved
loop-placed-preserved c =
    let h = c.in-Some.ensures.lookup in
    let e : slice_get c.args.code.now c.loop-placed.at ≡ Some c.in-Some.placed.now = slice_get_read c.args.code.now (length c.args.code.now) c.loop-placed.at c.in-Some.placed.now refl h.3.0 h.1 in
    let n = rw c.in_ok-at.ensures.ok_part at c.checked_add.ensures in
    sites_kept c.args.code.now c.loop-placed.at c.in_ok-at.at c.in-Some.placed.now c.loop-placed.sites c.raise_site.new.sites c.begin_site.new.sites _ e n.1 c.raise_site.ensures c.begin_site.ensures c.loop-placed.invariant

pub returns : goal.returns
returns c = sym (sites_end c.args.code.now c.loop-placed.at c.loop-placed.sites c.in_default.ensures.lookup.3) ∙ c.loop-placed.invariant
