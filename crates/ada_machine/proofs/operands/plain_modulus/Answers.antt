use Rattle.std.proofs.Common.{Some, ap, ◌∙◌, w64, SFits, rules}
use Rattle.std.proofs.lemmas.Int.{to_z-of_z}
use Rattle.ada_machine.proofs.Divisions.{modulus_some}
use Rattle.ada_machine.proofs.operands.plain_modulus.Goals as goal

pub returns-in-Some : goal.returns-in-Some
returns-in-Some c =
    let fr : SFits w64 c.in-Some.r = search rules in
    let fv : SFits w64 c.aligned.result = record { sfits = c.aligned.type_inv } in
    let fw : SFits w64 c.value_or_zero.result = record { sfits = c.value_or_zero.type_inv } in
    let x = to_z-of_z w64 c.args.x c.ranges.x in
    let y = to_z-of_z w64 c.args.y c.ranges.y in
    let r = to_z-of_z w64 c.in-Some.r fr in
    let v = to_z-of_z w64 c.aligned.result fv in
    ap Some (to_z-of_z w64 c.value_or_zero.result fw)
    ∙ modulus_some c.args.base c.args.x c.args.y c.in-Some.r c.aligned.result c.value_or_zero.result c.within.result
    (simp (x, y) at c.in-Some.ensures) (simp (r, y) at c.aligned.ensures) (simp v at c.within.ensures) c.value_or_zero.ensures
