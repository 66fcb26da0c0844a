use Rattle.std.proofs.Common.{arith}
use Rattle.std.proofs.lemmas.Str.{IsCharBoundary-start}
use Rattle.ada_base.proofs.tokens.front.Goals as goal

pub returns-clause-lies : goal.returns-clause-lies
returns-clause-lies c = record {
  ordered = omega arith;
  starts = IsCharBoundary-start c.args.text.now c.utf8.text;
  ends = IsCharBoundary-start c.args.text.now c.utf8.text;
}
