use Rattle.std.proofs.Common.{◌≡◌, sym, ap, subst, ◌∙◌, ℕ, ◌++◌, ◌∷◌, [], List, take, arith}
use Rattle.name_numbering.proofs.Places.{language_count, language_taken}
use Rattle.name_symbols.specs.Naming.{language}
use Rattle.name_numbering.specs.Words.{Listed}
use Rattle.name_numbering.proofs.symbols.known_words.Goals as goal

pub known-preserved : goal.known-preserved
known-preserved c = (
  subst (λ (ws : List (List ℕ)). Listed c.noted.new.seen ws)
      (ap (λ (w : List ℕ). take c.known.i language ++ w ∷ []) c.in_ok-word.ensures ∙ sym (language_taken c.known.i c.known_text.result.now c.known_text.ensures))
      (c.in_ok-noted.ensures (take c.known.i language) c.known.invariant.0 (language_count c.known.i c.known.invariant.1)),
  omega (arith, c.known-test.true),
)
