use Rattle.std.proofs.Common.{arith}
use Rattle.typed_tree.specs.Decoded.{part_at}
use Rattle.typed_parts.proofs.DigitLinks.{goes_on}
use Rattle.typed_parts.proofs.parts.Parts.+beyond.Goals as goal

pub beyond-next-preserved : goal.beyond-next-preserved
beyond-next-preserved t c = record {
  is = goes_on (part_at c.args.self.now.nodes) c.args.id c.next.last c.in-Some.next c.args.size c.next.before c.next.behind c.beyond_before.result c.beyond_behind.result c.sooner-before.result c.sooner-behind.result c.next.invariant.is c.in-Some.ensures.1 c.beyond_before.ensures c.sooner-before.ensures c.beyond_behind.ensures c.sooner-behind.ensures;
  within = omega (arith, c.next.invariant.within, c.in-Some.ensures.0);
}
