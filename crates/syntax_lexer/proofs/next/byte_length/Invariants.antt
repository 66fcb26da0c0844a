use Rattle.std.proofs.Common.{◌≡◌, ◌+◌, length, drop}
use Rattle.std.specs.Prelude.{encode_utf8_all}
use Rattle.syntax_lexer.proofs.next.byte_length.Given as goal

abbrev pub invariant-loop-c : goal.invariant-loop-c
invariant-loop-c l = l.total + length (encode_utf8_all (drop l.c-index l.characters)) ≡ length (encode_utf8_all l.characters)
