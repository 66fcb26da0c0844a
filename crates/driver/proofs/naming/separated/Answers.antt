use Rattle.std.proofs.Common.{refl}
use Rattle.ada_meaning.specs.Formed.{IsFormed}
use Rattle.check_effects.proofs.Forming.{formed_law}
use Rattle.check_effects.specs.Backwards.{CallsBackwards}
use Rattle.typed_tree.specs.Programs.{program}
use Rattle.typed_tree.specs.Syntax.{Program}
use Rattle.driver.proofs.Steps.{keeps_apart, refuses_touched, refuses_clash}
use Rattle.driver.proofs.naming.separated.Goals as goal

backwards : (p : Program) → IsFormed p → CallsBackwards p
backwards p formed = (formed_law p formed).1

pub returns-in-Ok-accept-clause-granted : goal.returns-in-Ok-accept-clause-granted
returns-in-Ok-accept-clause-granted c = (c.in-Ok-accept.ensures c.in-Ok.ensures.1 (backwards (program c.args.typed.now) c.requires)).grants

pub returns-in-Ok-accept-clause-apart : goal.returns-in-Ok-accept-clause-apart
returns-in-Ok-accept-clause-apart c = (keeps_apart (program c.args.typed.now) _ (c.in-Ok-accept.ensures c.in-Ok.ensures.1 (backwards (program c.args.typed.now) c.requires)), refl)

pub returns-in-Err-GlobalTouched-clause-apart : goal.returns-in-Err-GlobalTouched-clause-apart
returns-in-Err-GlobalTouched-clause-apart c =
    let told = c.in-Err-GlobalTouched.ensures c.in-Ok.ensures.1 (backwards (program c.args.typed.now) c.requires) in
    refuses_touched c.args.tokens.now (program c.args.typed.now) c.in-Err-GlobalTouched.at c.in-Err-GlobalTouched.field-0-1 c.refused.result (rw c.in-Err-GlobalTouched.field-0-is at told) c.refused.ensures

pub returns-in-Err-Clash-clause-apart : goal.returns-in-Err-Clash-clause-apart
returns-in-Err-Clash-clause-apart c =
    let told = c.in-Err-Clash.ensures c.in-Ok.ensures.1 (backwards (program c.args.typed.now) c.requires) in
    refuses_clash c.args.tokens.now (program c.args.typed.now) c.in-Err-Clash.at c.in-Err-Clash.other c.clash.result (rw c.in-Err-Clash.field-0-is at told) (rw (← c.place.ensures, ← c.place-in-Err-Clash.ensures) c.clash.ensures)
