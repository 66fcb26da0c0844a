use Rattle.std.specs.Int.{w128}
use Rattle.std.proofs.lemmas.Int.{to_z-of_z}
use Rattle.name_programs.proofs.Exponents.{no_negative, of_absolute}
use Rattle.name_programs.proofs.subtypes.exponent.Goals as goal

pub returns-then-modulus-lt0 : goal.returns-then-modulus-lt0
returns-then-modulus-lt0 c =
    let m_is = to_z-of_z w128 c.args.modulus c.ranges.modulus in
    no_negative c.args.modulus (simp m_is at c.if-modulus-lt0.true)

pub returns : goal.returns
returns c =
    let m_is = to_z-of_z w128 c.args.modulus c.ranges.modulus in
    of_absolute c.args.modulus c.unsigned_abs.result c.exponent_of.result (simp m_is at c.if-modulus-lt0.false) (simp m_is at c.unsigned_abs.ensures.value) c.exponent_of.ensures
