use Rattle.std.proofs.Common.{◌-◌, ◌≤◌, take}
use Rattle.name_symbols.specs.Naming.{language}
use Rattle.name_numbering.specs.Words.{Listed}
use Rattle.name_numbering.proofs.symbols.known_words.Given as goal

abbrev pub invariant-known : goal.invariant-known
invariant-known l = Listed l.seen (take l.i language) × (l.i ≤ 34)

abbrev pub decreases-known : goal.decreases-known
decreases-known l = 34 - l.i
