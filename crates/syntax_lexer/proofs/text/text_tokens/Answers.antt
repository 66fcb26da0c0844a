use Rattle.std.proofs.Common.{◌∙◌}
use Rattle.std.proofs.lemmas.Str.{encodes-chars}
use Rattle.syntax_lexer.proofs.Edges.{are_whole, are_lexed}
use Rattle.syntax_lexer.proofs.text.text_tokens.Goals as goal

pub fault_at-requires-clause-stops : goal.fault_at-requires-clause-stops
fault_at-requires-clause-stops c = rw (c.deref.ensures.value ∙ c.in-Ok.ensures) at c.in-Err.ensures

pub new-requires : goal.new-requires
new-requires c =
    let t = rw (c.deref.ensures.value ∙ c.in-Ok.ensures) at c.in-Ok-tokens_in.ensures in
    rw c.in-Ok-from_str.ensures.ok (are_whole _ _ c.requires c.utf8.text t.0 t.1)

pub returns-in-Ok-from_str : goal.returns-in-Ok-from_str
returns-in-Ok-from_str c =
    let t = rw (c.deref.ensures.value ∙ c.in-Ok.ensures) at c.in-Ok-tokens_in.ensures in
    are_lexed _ _ _ _ c.requires c.utf8.text t.0 t.1 c.in-Ok-from_str.ensures.ok c.new.ensures.text c.new.ensures.items

pub tokens_in-requires : goal.tokens_in-requires
tokens_in-requires c = rw (c.deref.ensures.value ∙ c.in-Ok.ensures, encodes-chars c.args.text.now c.utf8.text) c.requires
