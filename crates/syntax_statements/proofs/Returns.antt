-- What is read as a return statement.
use Rattle.std.proofs.Common.{◌≡◌, refl, ℕ, List}
use Rattle.ada_base.specs.Symbols.{Symbol}
use Rattle.syntax_readers.specs.Readers.{symbol, ◌>>=◌}
use Rattle.ada_base.specs.Kinds as kind
use Rattle.syntax_grammar.specs.Statements as statements

pub return_is : (n : ℕ) (ts : List Symbol) → statements.return n ts ≡ (symbol kind.return_word >>= statements.return_from n) ts
unfolding statements.return
return_is n ts = refl
