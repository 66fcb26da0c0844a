use Rattle.std.proofs.Common.{◌≡◌, sym, None, Some}
use Rattle.std.specs.Prelude.{slice_get}
use Rattle.typed_tree.proofs.Reading.{part_read, part_below, part_none}
use Rattle.typed_tree.proofs.nodes.Nodes.node.Goals as goal

pub returns-in-Some-clause-is : goal.returns-in-Some-clause-is
returns-in-Some-clause-is c =
    let e : slice_get c.self.inside.list c.args.id ≡ Some c.in-Some.node.now = sym c.in-Some.ensures.item in
    rw (← c.self.view_is) (part_read _ _ _ c.self.invariant e)

pub returns-in-Some-clause-below : goal.returns-in-Some-clause-below
returns-in-Some-clause-below c =
    let e : slice_get c.self.inside.list c.args.id ≡ Some c.in-Some.node.now = sym c.in-Some.ensures.item in
    part_below _ _ _ c.self.invariant e

pub returns-in-None-clause-is : goal.returns-in-None-clause-is
returns-in-None-clause-is c =
    let e : slice_get c.self.inside.list c.args.id ≡ None = sym c.in-None.ensures.item in
    rw (← c.self.view_is) (part_none _ _ e)
