-- The numbers of identifiers so far, where those that aren't the language's are known by the tokens at which each stands
-- first.
use Rattle.ada_base.specs.Folding.{folded}
use Rattle.ada_base.specs.Tokens.{Tokenized, slice_at}
use Rattle.name_symbols.specs.Naming.{Symbols, language}
use Rattle.name_numbering.specs.Words.{Listed}
use Rattle.name_numbering.specs.declared.symbols.Numbered.{Numbered}
use Rattle.std.specs.HashMap.{HashMap}
use Rattle.std.specs.Prelude.{List, Vec, map, ℕ, ◌++◌}

abbrev pub spelling : Tokenized → ℕ → List ℕ
spelling t k = folded (slice_at t k)

abbrev pub spelled : Tokenized → List ℕ → List (List ℕ)
spelled t ks = map (spelling t) ks

abbrev pub symbols : Tokenized → Numbered → Symbols
symbols t s = record { numbers = s.numbers; spellings = spelled t s.firsts }

-- the words that stood before have their places behind those of the language
abbrev pub AllListed : {Z S : Type 0} → Tokenized → HashMap (Vec ℕ Z) ℕ S → Numbered → Type 0
AllListed t seen s = Listed seen (language ++ spelled t s.firsts)
