use Rattle.std.proofs.Common.{subst}
use Rattle.syntax_readers.specs.Ahead.{kinds}
use Rattle.syntax_readers.specs.Example as spec
use Rattle.syntax_readers.specs.ExampleReaders as reader
use Rattle.ada_base.specs.Symbols.{numbered}
use Rattle.syntax_readers.specs.Computes.{Computes}
use Rattle.syntax_readers.proofs.RightVerdicts.{judged}
use Rattle.syntax_readers.proofs.Fits.{right}
use Rattle.syntax_readers.proofs.example.parse.Goals as goal

pub returns : goal.returns
returns c =
    rw c.verdict.ensures
    (judged c.args.limit spec.ranges (kinds c.args.all.now) (reader.ranges c.args.limit (numbered 0 (kinds c.args.all.now))) c.read_ranges-found.result c.read_ranges-found.new.tokens
    (right c.args.limit (kinds c.args.all.now))
    (subst (λ ts. Computes (reader.ranges c.args.limit ts) c.read_ranges-found.result c.read_ranges-found.new.tokens) c.new-tokens.ensures c.read_ranges-found.ensures))
