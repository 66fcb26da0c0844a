use Rattle.std.proofs.Common.{◌≡◌, ◌∙◌, refl, sym, ap, length}
use Rattle.std.specs.Prelude.{slice_get, Some}
use Rattle.std.proofs.lemmas.Option.{slice_get_read, slice_get_past}
use Rattle.lower_emission.specs.Tables as spec
use Rattle.lower_code.proofs.TableSteps.{led_by, led_other}
use Rattle.lower_code.proofs.tables.landmark.Goals as goal

pub returns-in-None : goal.returns-in-None
returns-in-None c = sym (ap (λ o. spec.landmark o c.args.at) (slice_get_past c.args.code.now c.args.at c.in-None.ensures.lookup.3))

pub returns-in-Jump : goal.returns-in-Jump
returns-in-Jump c =
    let code = c.args.code.now in
    let h = c.in-Some.ensures.lookup in
    let e : slice_get code c.args.at ≡ Some c.in-Some.placed.now = slice_get_read code (length code) c.args.at c.in-Some.placed.now refl h.3.0 h.1 in
    sym (ap (λ o. spec.landmark o c.args.at) e ∙ led_by c.in-Some.placed.now.instr c.args.at c.in-Jump.to c.in-Jump.is)

pub returns-in_default : goal.returns-in_default
returns-in_default c =
    let code = c.args.code.now in
    let h = c.in-Some.ensures.lookup in
    let e : slice_get code c.args.at ≡ Some c.in-Some.placed.now = slice_get_read code (length code) c.args.at c.in-Some.placed.now refl h.3.0 h.1 in
    sym (ap (λ o. spec.landmark o c.args.at) e ∙ led_other c.in-Some.placed.now.instr c.args.at c.in_default.not-Jump)
