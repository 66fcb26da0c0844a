use Rattle.std.proofs.Common.{refl}
use Rattle.name_tables.proofs.Whole.{typed_by_steps}
use Rattle.typed_parts.specs.Stack.{parts, parts_in}
use Rattle.name_tables.proofs.tables.typed.Goals as goal

pub returns : goal.returns
returns c =
    let lists = c.in_ok-shape_parts.ensures in
    let taken = c.in_ok-subtypes.ensures in
    let body = c.in-Some.ensures in
    let subs = c.in_ok-subs.ensures in
    let ended = c.finish-finished.result in
    let typed = c.subtypes_taken.new.finished in
    let left = c.take.new.self in
    let last = c.subs_taken.new.finished in
    typed_by_steps
    (record {
      nodes = last.nodes;
      subtypes = c.in_ok-subtypes.subtypes;
      objects = c.args.log.objects;
      subs = c.in_ok-subs.subs;
      sites = c.args.log.sites;
      exceptions = c.args.log.exceptions;
      body = c.in-Some.body;
      nonblocking = c.args.nonblocking;
      strict = c.args.strict;
    })
    c.args.log c.args.heads (parts c.args.out) (parts c.shape_parts.new.out) (parts_in ended.nodes ended.roots) (parts_in typed.nodes typed.roots) (parts_in left.nodes left.roots) typed.nodes left.nodes
    lists.0 lists.1 c.finish-finished.ensures taken.0 taken.1 body.1 body.0 subs.0 subs.1 refl refl refl
