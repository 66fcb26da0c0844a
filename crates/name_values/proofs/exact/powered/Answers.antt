use Rattle.std.specs.Int.{w128}
use Rattle.std.proofs.lemmas.Int.{to_z-of_z}
use Rattle.name_values.proofs.Powers.{checked-power}
use Rattle.name_values.proofs.exact.powered.Goals as goal

pub returns-else-b-lt0 : goal.returns-else-b-lt0
returns-else-b-lt0 c =
    let a_is = to_z-of_z w128 c.args.a c.ranges.a in
    let b_is = to_z-of_z w128 c.args.b c.ranges.b in
    let size = simp b_is at c.unsigned_abs.ensures.value in
    checked-power c.checked_pow.result c.args.a c.args.b c.short_exponent.result
    (simp b_is at c.if-b-lt0.false) (simp size at c.short_exponent.ensures) (simp a_is at c.checked_pow.ensures)
