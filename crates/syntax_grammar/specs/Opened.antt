-- What opens a level of nesting, read one level down.
use Rattle.std.specs.Prelude.{ℕ}
use Rattle.syntax_readers.specs.Readers.{Reader}
use Rattle.syntax_tree.specs.Syntax.{Primary, NamePart, Parallel}

pub record Opened : Type 0 where
  -- a primary that begins with a round bracket, and one that begins with a square bracket
  pub round : Reader Primary
  pub square : Reader Primary
  -- the round brackets of a call, an index or a conversion
  pub call : Reader NamePart
  -- a chunk specification in its brackets, after the token of `parallel`
  pub chunk : ℕ → Reader Parallel
