use Rattle.std.proofs.Common.{sym}
use Rattle.syntax_nodes.proofs.Reading.{read_number, none_number, zero_number}
use Rattle.syntax_nodes.proofs.rooting.node.Goals as goal

pub returns-in-Some-clause-is : goal.returns-in-Some-clause-is
returns-in-Some-clause-is c = (read_number _ _ _ c.requires.ordered c.if-number-eq0.false (sym c.in-Some.ensures.item)).0

pub returns-in-Some-clause-below : goal.returns-in-Some-clause-below
returns-in-Some-clause-below c = (read_number _ _ _ c.requires.ordered c.if-number-eq0.false (sym c.in-Some.ensures.item)).1

pub returns-in-None-clause-is : goal.returns-in-None-clause-is
returns-in-None-clause-is c = none_number _ _ c.if-number-eq0.false (sym c.in-None.ensures.item)

pub returns-then-number-eq0-clause-is : goal.returns-then-number-eq0-clause-is
returns-then-number-eq0-clause-is c = zero_number _ _ c.if-number-eq0.true
