use Rattle.std.proofs.Common.{◌≡◌, ◌-◌, [], drop, length}
use Rattle.name_symbols.specs.Naming.{texts_from}
use Rattle.name_numbering.proofs.texts.texts_of.Given as goal

abbrev pub invariant-text : goal.invariant-text
invariant-text l = (l.count ≡ length l.tokens.items) × (texts_from l.tokens [] 0 l.tokens.items ≡ texts_from l.tokens l.all l.token (drop l.token l.tokens.items))

abbrev pub decreases-text : goal.decreases-text
decreases-text l = length l.tokens.items - l.token
