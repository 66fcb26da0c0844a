use Rattle.typed_parts.proofs.Stacks.{turn_cell, turn_leaf}
use Rattle.typed_parts.proofs.parts.Parts.turn_cell.Goals as goal

pub returns-in_ok-done-in-Cell : goal.returns-in_ok-done-in-Cell
returns-in_ok-done-in-Cell c =
    let d = c.in_ok-done-in-Cell in
    let e = c.in-Cell.ensures in
    let t = turn_cell _ _ _ c.args.here.at c.in-Cell.first c.in-Cell.rest c.args.here.done d.done d.ensures.3 c.requires.at e.1.1 e.0 d.ensures.0 in
    (t.0, e.1.1, t.1, d.ensures.1, d.ensures.2)

pub returns-in_ok-done-in-Leaf : goal.returns-in_ok-done-in-Leaf
returns-in_ok-done-in-Leaf c =
    let d = c.in_ok-done-in-Leaf in
    let e = c.in-Leaf.ensures in
    let t = turn_leaf _ _ _ c.args.here.at c.in-Leaf.rest c.args.here.done d.done c.in-Leaf.leaf d.ensures.3 c.requires.at e.1 e.0 d.ensures.0 in
    (t.0, e.1, t.1, d.ensures.1, d.ensures.2)
