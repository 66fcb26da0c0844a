use Rattle.std.proofs.Common.{◌≡◌, ◌-◌, drop, length}
use Rattle.name_symbols.specs.Naming.{no_symbols, symbols_from}
use Rattle.name_numbering.specs.Spelled.{AllListed, symbols}
use Rattle.name_numbering.proofs.symbols.symbols_of.Given as goal

abbrev pub invariant-text : goal.invariant-text
invariant-text l = (l.count ≡ length l.tokens.items) × (symbols_from l.tokens no_symbols 0 l.tokens.items ≡ symbols_from l.tokens (symbols l.tokens l.so_far) l.token (drop l.token l.tokens.items)) × AllListed l.tokens l.seen l.so_far

abbrev pub decreases-text : goal.decreases-text
decreases-text l = length l.tokens.items - l.token
