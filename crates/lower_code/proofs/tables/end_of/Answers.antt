use Rattle.std.proofs.Common.{◌≡◌, ◌∙◌, refl, sym, length}
use Rattle.std.specs.Prelude.{slice_get, Some}
use Rattle.std.proofs.lemmas.Option.{slice_get_read}
use Rattle.lower_code.proofs.TableSteps.{stretch_goes, stretch_stops, stretch_end}
use Rattle.lower_code.proofs.tables.end_of.Goals as goal

pub loop-placed-preserved : goal.loop-placed-preserved
loop-placed-preserved c =
    let code = c.args.code.now in
    let to = c.loop-placed.to in
    let h = c.in-Some.ensures.lookup in
    let e : slice_get code to ≡ Some c.in-Some.placed.now = slice_get_read code (length code) to c.in-Some.placed.now refl h.3.0 h.1 in
    c.loop-placed.invariant ∙ stretch_goes code c.args.label to c.in_ok-to.to c.in-Some.placed.now e (sym c.is_entry.ensures ∙ c.if-not-is_entry.false) c.in_ok-to.ensures.1

pub returns-then-not-is_entry : goal.returns-then-not-is_entry
returns-then-not-is_entry c =
    let code = c.args.code.now in
    let to = c.loop-placed.to in
    let h = c.in-Some.ensures.lookup in
    let e : slice_get code to ≡ Some c.in-Some.placed.now = slice_get_read code (length code) to c.in-Some.placed.now refl h.3.0 h.1 in
    sym (c.loop-placed.invariant ∙ stretch_stops code c.args.label to c.in-Some.placed.now e (sym c.is_entry.ensures ∙ c.if-not-is_entry.true))

pub returns : goal.returns
returns c = sym (c.loop-placed.invariant ∙ stretch_end c.args.code.now c.args.label c.loop-placed.to c.in_default.ensures.lookup.3)
