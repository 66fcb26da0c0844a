-- Which letters are taken for the same.
use Rattle.std.specs.Prelude.{ℕ}
use Rattle.std.specs.Char.{to_ascii_lowercase}
use Rattle.unicode.specs.CaseFolding.{simple_fold}
use Rattle.syntax_lexer.specs.declared.name.Case.{Case}
use Rattle.syntax_lexer.specs.declared.name.Case.TheVariants.{Ascii, Folded}

abbrev pub change_of : Case → ℕ → ℕ
change_of Ascii = to_ascii_lowercase
change_of Folded = simple_fold
