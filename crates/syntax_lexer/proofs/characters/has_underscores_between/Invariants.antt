use Rattle.std.proofs.Common.{◌≡◌, length}
use Rattle.syntax_tree.specs.Numbers.{underscores_between}
use Rattle.syntax_lexer.proofs.characters.has_underscores_between.Given as goal

abbrev pub invariant-loop-left : goal.invariant-loop-left
invariant-loop-left l = underscores_between l.left ≡ underscores_between l.fn.characters

abbrev pub decreases-loop-left : goal.decreases-loop-left
decreases-loop-left l = length l.left
