use Rattle.std.proofs.lemmas.Str.{IsUtf8-past_char}
use Rattle.ada_base.proofs.Foldings.{folded-past_char}
use Rattle.name_numbering.proofs.words.next_folded.Goals as goal

pub returns-clause-utf8 : goal.returns-clause-utf8
returns-clause-utf8 c = IsUtf8-past_char _ _ c.in_ok-c.c c.requires c.in_ok-c.ensures.steps.0

pub returns-clause-first : goal.returns-clause-first
returns-clause-first c =
    let first = folded-past_char _ _ c.in_ok-c.c c.requires c.in_ok-c.ensures.steps.0 in
    cc
