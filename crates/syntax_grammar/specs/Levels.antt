-- The readers of what opens a bracket, by how many levels may still open.
use Rattle.std.specs.Prelude.{ℕ, zero, suc, [], ◌∷◌}
use Rattle.syntax_readers.specs.Readers.{too_deep}
use Rattle.ada_base.specs.Kinds as kind
use Rattle.syntax_grammar.specs.Opened.{Opened}
use Rattle.syntax_grammar.specs.Brackets.{round, square, call, chunk}

unfoldable pub levels : ℕ → Opened
levels zero = record {
  round = too_deep (kind.open_round ∷ []);
  square = too_deep (kind.open_square ∷ []);
  call = too_deep (kind.open_round ∷ []);
  chunk = λ at. too_deep (kind.open_round ∷ []);
}
levels (suc n) = record { round = round (levels n); square = square (levels n); call = call (levels n); chunk = chunk (levels n) }
