-- Identifiers by numbers (2.3).
use Rattle.ada_base.specs.Tokens.{AreSame, Tokenized, kind_at}
use Rattle.ada_base.specs.declared.token.Kind.TheVariants as kind
use Rattle.syntax_tree.specs.Syntax.{Program}
use Rattle.name_rules.specs.Symbols.{symbol}
use Rattle.name_symbols.specs.Naming.{names_of}
use Rattle.std.specs.Prelude.{length, ℕ, ◌<◌, ◌↔◌, ◌≡◌}

-- Two identifiers of a text have one symbol exactly where they are spelled alike but for the case of letters.
abbrev pub SymbolLaw : Type 0
SymbolLaw = (t : Tokenized) (text : Program) (a b : ℕ) → a < length t.items → b < length t.items
    → kind_at t.items a ≡ kind.Ident → kind_at t.items b ≡ kind.Ident → (symbol (names_of t text) a ≡ symbol (names_of t text) b) ↔ AreSame t a b
