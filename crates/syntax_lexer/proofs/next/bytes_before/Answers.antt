use Rattle.std.proofs.Common.{◌-◌, length, arith}
use Rattle.syntax_lexer.proofs.Spots.{bytes_take}
use Rattle.syntax_lexer.proofs.next.bytes_before.Goals as goal

pub byte_length-requires : goal.byte_length-requires
byte_length-requires c = omega (arith, bytes_take (length c.args.characters.now - length c.args.rest.now) c.args.characters.now)
