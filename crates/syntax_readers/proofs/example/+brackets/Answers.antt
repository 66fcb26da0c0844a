use Rattle.std.proofs.Common.{arith}
use Rattle.syntax_readers.specs.ExampleReaders.{bracket}
use Rattle.syntax_readers.proofs.RightVerdicts.{level_below}
use Rattle.syntax_readers.proofs.example.+brackets.Goals as goal

pub read_bracket-returns-clause-reads : goal.read_bracket-returns-clause-reads
unfolding bracket
read_bracket-returns-clause-reads t c = rw (level_below (λ n. bracket n c.args.tokens.now) c.args.levels (omega arith)) c.read_inside.ensures.reads
