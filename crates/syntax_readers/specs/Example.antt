-- A grammar of lists of ranges: where `number` is a number,
--     ranges = range {"," range} .
--     range  = value [".." value] .
--     value  = number | "(" value ")" .
-- The depth at a token is the number of brackets that are open there, itself included.
use Rattle.std.specs.Prelude.{ℕ, zero, suc, List, [], ◌∷◌}
use Rattle.ada_base.specs.Languages.{Language, ◌⋅◌, Leaf, Quoted, Many}
use Rattle.ada_base.specs.Kinds as token_kind
use Rattle.ada_base.specs.Kinds.{numeral, open_round, close_round}
use Rattle.syntax_readers.specs.declared.example.Value.{Value}
use Rattle.syntax_readers.specs.declared.example.Range.{Range}
use Rattle.syntax_readers.specs.declared.example.Range.TheVariants.{One, Between}

-- ---- kinds

abbrev pub number : ℕ
number = numeral

abbrev pub open_bracket : ℕ
open_bracket = open_round

abbrev pub close_bracket : ℕ
close_bracket = close_round

abbrev pub dots : ℕ
dots = token_kind.dots

abbrev pub comma : ℕ
comma = token_kind.comma

-- ---- what derives what

-- a number in brackets
abbrev pub bracketed : ℕ → ℕ → ℕ → Language
bracketed depth zero n = Leaf depth number n
bracketed depth (suc brackets) n = Quoted (suc depth) open_bracket ⋅ bracketed (suc depth) brackets n ⋅ Quoted (suc depth) close_bracket

abbrev pub value : ℕ → Value → Language
value depth v = bracketed depth v.brackets v.number

abbrev pub range : ℕ → Range → Language
range depth (One v) = value depth v
range depth (Between v w) = value depth v ⋅ Quoted depth dots ⋅ value depth w

abbrev pub more_range : ℕ → Range → Language
more_range depth r = Quoted depth comma ⋅ range depth r

abbrev pub ranges : List Range → Language
ranges [] w = ⊥
ranges (r ∷ rs) w = (range 0 r ⋅ Many (more_range 0) rs) w
