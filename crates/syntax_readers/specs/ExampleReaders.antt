-- The readers of lists of ranges, where so many brackets may still open.
use Rattle.std.specs.Prelude.{ℕ, zero, suc, ◌+◌, List, [], ◌∷◌, ◌++◌}
use Rattle.syntax_readers.specs.Readers.{Reader, ◌>>=◌, ◌>>◌, ◌<$>◌, pure, symbol, by_next, too_deep}
use Rattle.syntax_readers.specs.Loops.{chain}
use Rattle.syntax_readers.specs.Example as kind
use Rattle.syntax_readers.specs.declared.example.Value.{Value}
use Rattle.syntax_readers.specs.declared.example.Range.{Range}
use Rattle.syntax_readers.specs.declared.example.Range.TheVariants.{One, Between}

-- a number alone, and a value in one bracket more
abbrev pub alone : ℕ → Value
alone n = record { brackets = 0; number = n }

abbrev pub deeper : Value → Value
deeper v = record { brackets = v.brackets + 1; number = v.number }

-- a value, from a reader of one that begins with a bracket
unfoldable pub value_of : Reader Value → Reader Value
value_of bracket = by_next (kind.open_bracket ∷ []) bracket (alone <$> symbol kind.number)

-- one that begins with a bracket, from a reader of what stands in it
unfoldable pub bracket_of : Reader Value → Reader Value
bracket_of inner = symbol kind.open_bracket >> (inner >>= (λ v. (λ _. deeper v) <$> symbol kind.close_bracket))

unfoldable pub bracket : ℕ → Reader Value
bracket zero = too_deep (kind.open_bracket ∷ [])
bracket (suc levels) = bracket_of (value_of (bracket levels))

abbrev pub value : ℕ → Reader Value
value levels = value_of (bracket levels)

unfoldable pub range : ℕ → Reader Range
range levels = value levels >>= (λ v. by_next (kind.dots ∷ []) (symbol kind.dots >> Between v <$> value levels) (pure (One v)))

unfoldable pub more_range : ℕ → Reader Range
more_range levels = symbol kind.comma >> range levels

-- one more range, behind those that were read
abbrev pub also_range : ℕ → List Range → Reader (List Range)
also_range levels rs = (λ r. rs ++ r ∷ []) <$> more_range levels

unfoldable pub ranges : ℕ → Reader (List Range)
ranges levels = range levels >>= (λ r. chain (kind.comma ∷ []) (also_range levels) (r ∷ []))
