use Rattle.std.proofs.Common.{sym, ◌∙◌}
use Rattle.name_numbering.proofs.Seen.{listed_known, listed_new}
use Rattle.name_numbering.proofs.words.noted.Goals as goal

pub returns-then-contains_key : goal.returns-then-contains_key
returns-then-contains_key c = λ all h n. listed_known c.args.seen.now c.args.word all (sym c.contains_key.ensures ∙ c.if-contains_key.true) h

pub returns : goal.returns
returns c = λ all h n. listed_new c.args.seen.now c.insert.new.self c.args.word c.args.number all (sym c.contains_key.ensures ∙ c.if-contains_key.false) c.in_ok-insert.ensures.updates n h
