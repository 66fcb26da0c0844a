use Rattle.name_expressions.proofs.Folds.{folds_off, folds_on}
use Rattle.name_expressions.proofs.operator_symbols.folds_to.Goals as goal

pub returns-then-folded_character-from : goal.returns-then-folded_character-from
returns-then-folded_character-from c =
    folds_off c.args.text.now c.args.word.now c.characters.at c.in-Some.found.next c.characters.i c.in-Some.found.character c.in-Some-byte_at.letter _ _ _ c.characters.invariant c.in-Some.ensures.0 c.in-Some-byte_at.ensures.0 c.folded_character.ensures c.from.ensures c.if-folded_character-from.true

pub characters-preserved : goal.characters-preserved
characters-preserved c =
    folds_on c.args.text.now c.args.word.now c.characters.at c.in-Some.found.next c.characters.i c.in-Some.found.character c.in-Some-byte_at.letter _ _ _ c.characters.invariant c.in-Some.ensures.0 c.in-Some-byte_at.ensures.0 c.folded_character.ensures c.from.ensures c.if-folded_character-from.false
