use Rattle.std.proofs.Common.{sym}
use Rattle.name_tables.proofs.Taking.{taken_all, taken_further}
use Rattle.name_tables.specs.Shapes.{rest_of, with_parts}
use Rattle.typed_parts.specs.Stack.{parts_in}
use Rattle.name_tables.proofs.subtypes.subtypes_taken.Goals as goal

pub all-preserved : goal.all-preserved
all-preserved c =
    let was = c.args.finished.now in
    let now = c.all.finished in
    let next = c.take.new.self in
    let taken = c.in-Some-take.ensures in
    taken_further c.args.shapes.now c.all.i c.in-Some.shape.now now.nodes next.nodes c.all.all c.push.new.self c.numbered.result c.in-Some-take.list
    (parts_in now.nodes now.roots) (parts_in next.nodes next.roots) (with_parts c.args.shapes.now (parts_in was.nodes was.roots)) (rest_of c.args.shapes.now (parts_in was.nodes was.roots)) was.nodes
    (sym c.in-Some.ensures.item) taken.0 taken.1 c.numbered.ensures c.in_ok-push.ensures.ok c.all.invariant.0 c.all.invariant.1 c.all.invariant.2

pub returns : goal.returns
returns c =
    let was = c.args.finished.now in
    let now = c.all.finished in
    taken_all c.args.shapes.now c.all.i now.nodes c.all.all (parts_in now.nodes now.roots) (with_parts c.args.shapes.now (parts_in was.nodes was.roots)) (rest_of c.args.shapes.now (parts_in was.nodes was.roots)) was.nodes
    (sym c.in_default.ensures.item) c.all.invariant.0 c.all.invariant.1 c.all.invariant.2
