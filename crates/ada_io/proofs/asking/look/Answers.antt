use Rattle.std.proofs.Common.{Some, None, refl}
use Rattle.ada_io.proofs.Looking.{looked}
use Rattle.ada_io.proofs.asking.look.Goals as goal

pub returns-in-Ok-Some : goal.returns-in-Ok-Some
returns-in-Ok-Some g c =
    looked _ _ _ _ _ _ _ _ _ (Some c.in-Ok-Some.byte) c.in_default.is c.requires.turns c.if-took-turns_left.false c.with.ensures c.in-Ok-Some.field-0-is c.in-Ok-Some.ensures

pub returns-in-Ok-None : goal.returns-in-Ok-None
returns-in-Ok-None g c =
    looked _ _ _ _ _ _ _ _ _ None c.in_default.is c.requires.turns c.if-took-turns_left.false refl c.in-Ok-None.field-0-is c.in-Ok-None.ensures
