use Rattle.syntax_lexer.proofs.Spots.{shorter_token, taken, none_taken, told_read}
use Rattle.syntax_lexer.proofs.next.take.Goals as goal

pub returns-in_default : goal.returns-in_default
returns-in_default c = none_taken c.args.before c.args.characters.now (told_read _ c.args.before _ _ c.admits_letter.ensures c.in_default.ensures)

pub bytes_before-bytes-requires-clause-shorter : goal.bytes_before-bytes-requires-clause-shorter
bytes_before-bytes-requires-clause-shorter c = shorter_token c.args.before c.args.characters.now _ _ (told_read _ c.args.before _ _ c.admits_letter.ensures c.in-Some.ensures)

pub returns : goal.returns
returns c = taken c.args.before c.args.characters.now _ _ _ _ (told_read _ c.args.before _ _ c.admits_letter.ensures c.in-Some.ensures) c.kept.ensures c.bytes_before-bytes.ensures
