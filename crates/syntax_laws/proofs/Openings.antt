-- What opens a bracket: its words, and that what reads it one level down is exact. The sets of each rule of
-- expressions.
use Rattle.std.proofs.Common.{◌≡◌, ℕ, List, [], ◌∷◌, ◌++◌, true, false}
use Rattle.ada_base.specs.Languages.{Language}
use Rattle.syntax_readers.specs.Sets.{Sets, one_kind}
use Rattle.syntax_readers.specs.Exact.{Rule}
use Rattle.ada_base.specs.Kinds as kind
use Rattle.syntax_tree.specs.Syntax.{Primary, Group, If, Round, Square, OneValue, Reduction, NamePart, Call, Parallel, Counted, Chunked}
use Rattle.syntax_tree.specs.Patterns.{words_of, free, ◌then◌}
use Rattle.syntax_tree.specs.Productions as spell
use Rattle.syntax_grammar.specs.Opened.{Opened}
use Rattle.syntax_grammar.specs.Expressions.{part_kinds, multiplying_kinds, adding_kinds, comparison_kinds}
use Rattle.syntax_laws.proofs.Words.{Words}

abbrev pub CallWords : ℕ → NamePart → Language
CallWords depth (Call b first more) = Words spell.part depth (Call b first more)
CallWords depth _ = λ w. ⊥

abbrev pub RoundWords : ℕ → Primary → Language
RoundWords depth (Group b e) = Words spell.primary depth (Group b e)
RoundWords depth (If b at c v m o) = Words spell.primary depth (If b at c v m o)
RoundWords depth (Round b m) = Words spell.primary depth (Round b m)
RoundWords depth _ = λ w. ⊥

abbrev pub SquareWords : ℕ → Primary → Language
SquareWords depth (Square b m) = Words spell.primary depth (Square b m)
SquareWords depth (OneValue b e) = Words spell.primary depth (OneValue b e)
SquareWords depth (Reduction b p at i v a f g) = Words spell.primary depth (Reduction b p at i v a f g)
SquareWords depth _ = λ w. ⊥

-- the brackets of a chunk specification, after the token of `parallel`
abbrev pub ChunkWords : ℕ → ℕ → Parallel → Language
ChunkWords depth at (Counted n count) w = (n ≡ at) × words_of (spell.in_round (spell.simple count) depth) w
ChunkWords depth at (Chunked n index range) w = (n ≡ at) × words_of (spell.in_round (spell.identifier index then free kind.in_word then spell.range range) depth) w
ChunkWords depth at _ w = ⊥

abbrev pub round_sets : Sets
round_sets = one_kind kind.open_round

abbrev pub square_sets : Sets
square_sets = record { first = kind.open_square ∷ []; nullable = false; follow_last = kind.tick ∷ [] }

pub record Opening (limit depth : ℕ) (inner : Opened) : Type 0 where
  pub round : Rule limit round_sets (RoundWords depth) inner.round
  pub square : Rule limit square_sets (SquareWords depth) inner.square
  pub call : Rule limit round_sets (CallWords depth) inner.call
  pub chunk : (at : ℕ) → Rule limit round_sets (ChunkWords depth at) (inner.chunk at)

-- ---- sets

abbrev pub part_sets : Sets
part_sets = record { first = part_kinds; nullable = false; follow_last = [] }

abbrev pub name_sets : Sets
name_sets = record { first = kind.identifier ∷ []; nullable = false; follow_last = part_kinds }

abbrev pub primary_kinds : List ℕ
primary_kinds = kind.numeral ∷ kind.string ∷ kind.target ∷ kind.identifier ∷ kind.open_round ∷ kind.open_square ∷ []

abbrev pub primary_sets : Sets
primary_sets = record { first = primary_kinds; nullable = false; follow_last = part_kinds }

abbrev pub factor_kinds : List ℕ
factor_kinds = kind.abs_word ∷ kind.not_word ∷ primary_kinds

abbrev pub factor_sets : Sets
factor_sets = record { first = factor_kinds; nullable = false; follow_last = kind.double_star ∷ part_kinds }

abbrev pub multiplying_sets : Sets
multiplying_sets = record { first = multiplying_kinds; nullable = false; follow_last = factor_sets.follow_last }

abbrev pub term_sets : Sets
term_sets = record { first = factor_kinds; nullable = false; follow_last = multiplying_kinds ++ factor_sets.follow_last }

abbrev pub adding_sets : Sets
adding_sets = record { first = adding_kinds; nullable = false; follow_last = term_sets.follow_last }

abbrev pub simple_sets : Sets
simple_sets = record { first = kind.plus ∷ kind.minus ∷ factor_kinds; nullable = false; follow_last = adding_kinds ++ term_sets.follow_last }

abbrev pub upper_sets : Sets
upper_sets = record { first = kind.dots ∷ []; nullable = false; follow_last = simple_sets.follow_last }

abbrev pub rel_kinds : List ℕ
rel_kinds = kind.in_word ∷ kind.not_word ∷ comparison_kinds

-- a relation goes on with dots after `in`
abbrev pub rel_sets : Sets
rel_sets = record { first = simple_sets.first; nullable = false; follow_last = kind.dots ∷ rel_kinds ++ simple_sets.follow_last }

abbrev pub logical_kinds : List ℕ
logical_kinds = kind.and_word ∷ kind.or_word ∷ kind.xor_word ∷ []

abbrev pub expr_sets : Sets
expr_sets = record { first = simple_sets.first; nullable = false; follow_last = logical_kinds ++ rel_sets.follow_last }

-- ---- after the first sum, and after the first relation

abbrev pub rel_from_sets : Sets
rel_from_sets = record { first = comparison_kinds ++ kind.in_word ∷ kind.not_word ∷ []; nullable = true; follow_last = rel_sets.follow_last }

abbrev pub expr_from_sets : Sets
expr_from_sets = record { first = logical_kinds; nullable = true; follow_last = expr_sets.follow_last }
