use Rattle.syntax_lexer.proofs.Spots.{wide_next}
use Rattle.syntax_lexer.proofs.next.next.Goals as goal

pub returns-in-Some-None-default-default : goal.returns-in-Some-None-default-default
returns-in-Some-None-default-default c = wide_next _ _ _ _ _ _ _ _ c.in-Some-None-default-default.field-0-0-is c.skip-skipped.ensures c.in-Some-None-default-default.ensures
