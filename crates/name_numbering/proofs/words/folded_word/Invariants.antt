use Rattle.std.proofs.Common.{◌≡◌, ◌++◌, length}
use Rattle.std.specs.Str.{IsUtf8}
use Rattle.std.specs.Str.Iter.{chars_rest}
use Rattle.ada_base.specs.Folding.{folded}
use Rattle.name_numbering.proofs.words.folded_word.Given as goal

abbrev pub invariant-chars : goal.invariant-chars
invariant-chars l = (IsUtf8 (chars_rest l.left)) × (l.all.items ++ folded (chars_rest l.left) ≡ folded l.word)

abbrev pub decreases-chars : goal.decreases-chars
decreases-chars l = length (chars_rest l.left)
