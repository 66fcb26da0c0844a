use Rattle.std.proofs.Common.{◌+◌, ◌-◌, ◌≤◌, length}
use Rattle.std.specs.Prelude.{encode_utf8_all}
use Rattle.syntax_tree.specs.Faults.{Reaches, byte_limit}
use Rattle.syntax_lexer.specs.Stop.{spot_at}
use Rattle.syntax_lexer.proofs.tokens.tokens_in.Given as goal

abbrev pub invariant-loop-found : goal.invariant-loop-found
invariant-loop-found l = Reaches l.characters l.tokens.items (spot_at l.before l.at l.rest) × (l.at + length (encode_utf8_all l.rest) ≤ byte_limit)

abbrev pub decreases-loop-found : goal.decreases-loop-found
decreases-loop-found l = 200001 - length l.tokens.items
