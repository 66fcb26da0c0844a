use Rattle.std.proofs.Common.{◌≡◌, ◌≤◌, length, arith}
use Rattle.syntax_nodes.specs.declared.nodes.Node.{Node}
use Rattle.syntax_nodes.specs.declared.nodes.Node.TheVariants as node
use Rattle.syntax_nodes.specs.Parts.{list_number}
use Rattle.syntax_nodes.proofs.Closings.{closes-item, longer}
use Rattle.syntax_nodes.proofs.listing.close_item.Goals as goal

pub returns-in_ok-closed-in-Also-clause-ok : goal.returns-in_ok-closed-in-Also-clause-ok
returns-in_ok-closed-in-Also-clause-ok c =
    let d = c.in_ok-closed-in-Also in
    let n : Node = node.Cell c.in-Also.item c.args.here.closed in
    let lt : c.in-Also.before ≤ length c.args.nodes.now = omega (arith, c.in-Also.ensures.below.0, c.requires.growing) in
    let k : list_number c.args.kind ≡ list_number c.in-Also.of = cc in
    (closes-item c.args.kind c.in-Also.of c.args.nodes.now c.add.new.nodes n c.args.here.grown c.in-Also.before c.in-Also.item c.args.here.closed _ d.ensures.grown lt k c.in-Also.ensures.is d.ensures.ok.0, c.in-Also.ensures.below.0, longer _ _ n _ d.ensures.grown lt, d.ensures.ok.1)
