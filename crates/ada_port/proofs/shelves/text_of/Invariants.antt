use Rattle.std.proofs.Common.{◌≡◌, length, map}
use Rattle.ada_port.specs.Shelves.{named_text, text_of}
use Rattle.ada_port.proofs.shelves.text_of.Given as goal

abbrev pub invariant-loop-text : goal.invariant-loop-text
invariant-loop-text l = text_of (map named_text l.rest) l.name ≡ text_of (map named_text l.texts) l.name

abbrev pub decreases-loop-text : goal.decreases-loop-text
decreases-loop-text l = length l.rest
