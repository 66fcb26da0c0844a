use Rattle.std.proofs.Common.{w64, sym}
use Rattle.std.proofs.lemmas.Int.{to_z-of_z}
use Rattle.ada_base.proofs.Turning.{power_is}
use Rattle.ada_base.proofs.operation.modular_power.Goals as goal

pub returns-else-b-lt0 : goal.returns-else-b-lt0
returns-else-b-lt0 c =
    let b_is = to_z-of_z w64 c.args.b c.ranges.b in
    power_is c.args.k c.args.a c.args.b c.remainder_of.result c.wrapping_pow.result
    (sym (simp b_is at c.if-is_in_base.ensures)) (simp b_is at c.if-b-lt0.false) (simp b_is at c.wrapping_pow.ensures) c.remainder_of.ensures
