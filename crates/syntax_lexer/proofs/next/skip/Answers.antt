use Rattle.syntax_lexer.proofs.Spots.{shorter_gap, skipped}
use Rattle.syntax_lexer.proofs.next.skip.Goals as goal

pub bytes_before-bytes-requires-clause-shorter : goal.bytes_before-bytes-requires-clause-shorter
bytes_before-bytes-requires-clause-shorter c = shorter_gap _ _ c.beyond_gap-here.ensures

pub returns : goal.returns
returns c = skipped _ _ _ c.beyond_gap-here.ensures c.bytes_before-bytes.ensures
