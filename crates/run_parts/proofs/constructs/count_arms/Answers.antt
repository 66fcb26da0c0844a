use Rattle.std.proofs.Common.{rules, arith}
use Rattle.typed_tree.specs.Decoded.{arms_at, stmts_at}
use Rattle.ada_meaning.specs.Meaning.{arms_of}
use Rattle.run_parts.specs.Words.{nodes_of}
use Rattle.run_parts.proofs.Dealt.{count_more, count_done}
use Rattle.run_parts.proofs.constructs.count_arms.Goals as goal

pub loop-cell-preserved : goal.loop-cell-preserved
loop-cell-preserved c = record {
  below = omega (arith, c.in-Some.ensures.below.1);
  same = count_more c.loop-cell.count c.in_ok-count.count (arms_of (arms_at (nodes_of c.args.work.now) c.args.id)) (arms_at (nodes_of c.args.work.now) c.loop-cell.at) (arms_at (nodes_of c.args.work.now) c.in-Some.cell.rest) (stmts_at (nodes_of c.args.work.now) c.in-Some.cell.first) (search rules) c.in_ok-count.ensures c.loop-cell.invariant.same;
}

pub returns : goal.returns
returns c = count_done c.loop-cell.count (arms_of (arms_at (nodes_of c.args.work.now) c.args.id)) (arms_at (nodes_of c.args.work.now) c.loop-cell.at) (search rules) c.loop-cell.invariant.same
