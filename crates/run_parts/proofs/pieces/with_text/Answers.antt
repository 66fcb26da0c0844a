use Rattle.std.proofs.Common.{rules, arith, ◌++◌}
use Rattle.typed_tree.specs.Decoded.{bytes_in, leaves_at}
use Rattle.run_parts.specs.Words.{nodes_of}
use Rattle.run_parts.proofs.Texts.{text_more, text_done}
use Rattle.run_parts.proofs.pieces.with_text.Goals as goal

pub loop-cell-preserved : goal.loop-cell-preserved
loop-cell-preserved c = record {
  below = omega (arith, c.in-Some.ensures.below);
  same = text_more c.loop-cell.text c.push_leaf.new.text (c.args.out ++ bytes_in (leaves_at (nodes_of c.args.work.now) c.args.id)) c.in-Some.cell.leaf (leaves_at (nodes_of c.args.work.now) c.loop-cell.at) (leaves_at (nodes_of c.args.work.now) c.in-Some.cell.rest) (search rules) c.in_ok-push_leaf.ensures c.loop-cell.invariant.same;
}

pub returns : goal.returns
returns c = text_done c.loop-cell.text (c.args.out ++ bytes_in (leaves_at (nodes_of c.args.work.now) c.args.id)) (leaves_at (nodes_of c.args.work.now) c.loop-cell.at) (search rules) c.loop-cell.invariant.same
