-- What ties the number of a part's first token to what the part spells.
use Rattle.std.specs.Prelude.{◌≡◌, ℕ, ◌∷◌}
use Rattle.ada_base.specs.Symbols.{Nested, Word}
use Rattle.syntax_tree.specs.Patterns.{Spelling, words_of}
use Rattle.syntax_tree.specs.Syntax.{Expr, Name, Range, Choice, Assoc, Decl, Stmt, Sub, Unit', Program}
use Rattle.syntax_tree.specs.FirstTokens as first
use Rattle.syntax_tree.specs.Productions as spelled

-- the word begins with the token of this number
pub record BeginsWith (number : ℕ) (word : Word) : Type 0 where
  pub first : Nested
  pub rest : Word
  pub whole : word ≡ first ∷ rest
  pub numbered : first.symbol.number ≡ number

-- whatever is spelled, at whatever depth, begins with the token of this number
abbrev pub SpellsFirst : Spelling → ℕ → Type 0
SpellsFirst spelling number = (depth : ℕ) (word : Word) → words_of (spelling depth) word → BeginsWith number word

-- a part spells first the token that is told of it
pub record FirstTokenLaw : Type 0 where
  pub expr : (part : Expr) → SpellsFirst (spelled.expr part) (first.of_expr part)
  pub name : (part : Name) → SpellsFirst (spelled.name' part) (first.of_name part)
  pub range : (part : Range) → SpellsFirst (spelled.range part) (first.of_range part)
  pub choice : (part : Choice) → SpellsFirst (spelled.choice part) (first.of_choice part)
  pub assoc : (part : Assoc) → SpellsFirst (spelled.assoc part) (first.of_assoc part)
  pub decl : (part : Decl) → SpellsFirst (spelled.decl part) (first.of_decl part)
  pub stmt : (part : Stmt) → SpellsFirst (spelled.stmt part) (first.of_stmt part)
  pub sub : (part : Sub) → SpellsFirst (spelled.sub part) (first.of_sub part)
  pub unit : (part : Unit') → SpellsFirst (spelled.unit part) (first.of_unit part)
  pub program : (part : Program) → SpellsFirst (spelled.program part) (first.of_program part)
