use Rattle.std.proofs.Common.{◌≡◌, ◌-◌, length, drop, map}
use Rattle.std.specs.Prelude.{bytes_eq}
use Rattle.std.specs.Str.{chars}
use Rattle.ada_base.specs.Folding.{folded}
use Rattle.unicode.specs.CaseFolding.{simple_fold}
use Rattle.name_expressions.proofs.operator_symbols.folds_to.Given as goal

abbrev pub invariant-characters : goal.invariant-characters
invariant-characters l = (bytes_eq (folded l.text) l.word ≡ bytes_eq (map simple_fold (chars (drop l.at l.text))) (drop l.i l.word))

abbrev pub decreases-characters : goal.decreases-characters
decreases-characters l = length l.text - l.at
