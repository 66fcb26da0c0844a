use Rattle.std.proofs.Common.{◌≡◌, string_bytes, map, take}
use Rattle.std.specs.List.{join_with_byte}
use Rattle.syntax_print.specs.Canonical.{space, written_in}
use Rattle.syntax_print.proofs.joined.Given as goal

abbrev pub invariant-loop-number : goal.invariant-loop-number
invariant-loop-number l = string_bytes l.text ≡ join_with_byte space (map (written_in l.tokens.text) (take l.number l.tokens.items))
