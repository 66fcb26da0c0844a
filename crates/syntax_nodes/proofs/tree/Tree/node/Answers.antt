use Rattle.std.proofs.Common.{◌≡◌, ◌-◌, sym, None, Some}
use Rattle.std.specs.Prelude.{slice_get}
use Rattle.syntax_nodes.proofs.Reading.{read_number, none_number, zero_number}
use Rattle.syntax_nodes.proofs.tree.Tree.node.Goals as goal

pub returns-in-Some-clause-is : goal.returns-in-Some-clause-is
returns-in-Some-clause-is c =
    let e : slice_get c.self.inside.nodes (c.args.number - 1) ≡ Some c.in-Some.node.now = sym c.in-Some.ensures.item in
    rw (← c.self.view_is) (read_number _ _ _ c.self.invariant c.if-number-eq0.false e).0

pub returns-in-Some-clause-below : goal.returns-in-Some-clause-below
returns-in-Some-clause-below c =
    let e : slice_get c.self.inside.nodes (c.args.number - 1) ≡ Some c.in-Some.node.now = sym c.in-Some.ensures.item in
    (read_number _ _ _ c.self.invariant c.if-number-eq0.false e).1

pub returns-in-None-clause-is : goal.returns-in-None-clause-is
returns-in-None-clause-is c =
    let e : slice_get c.self.inside.nodes (c.args.number - 1) ≡ None = sym c.in-None.ensures.item in
    rw (← c.self.view_is) (none_number _ _ c.if-number-eq0.false e)

pub returns-then-number-eq0-clause-is : goal.returns-then-number-eq0-clause-is
returns-then-number-eq0-clause-is c = zero_number _ _ c.if-number-eq0.true
