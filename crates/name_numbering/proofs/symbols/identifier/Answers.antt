use Rattle.std.proofs.Common.{ap, ◌∙◌, ℕ, List}
use Rattle.ada_base.specs.Folding.{folded}
use Rattle.name_numbering.proofs.Seen.{known_shows, new_shows}
use Rattle.name_numbering.proofs.symbols.identifier.Goals as goal

pub returns-in_ok-push-in-Some : goal.returns-in_ok-push-in-Some
returns-in_ok-push-in-Some c = known_shows c.args.tokens.now c.args.seen.now c.args.so_far.now c.args.token c.in_ok-word.word.items _ c.in-Some.number c.number_of.result
    (c.in_ok-word.ensures ∙ ap (λ (s : List ℕ). folded s) c.slice.ensures) c.in-Some.is c.number_of.ensures c.in_ok-push-in-Some.ensures.ok

pub returns-in_ok-noted-in-None : goal.returns-in_ok-noted-in-None
returns-in_ok-noted-in-None c = new_shows c.args.tokens.now c.args.seen.now c.noted.new.seen c.args.so_far.now c.args.token c.in_ok-word.word.items _ _ c.in_ok-number-in-None.number c.len.result c.number_of.result
    (c.in_ok-word.ensures ∙ ap (λ (s : List ℕ). folded s) c.slice.ensures) c.in-None.is c.number_of.ensures c.len.ensures c.in_ok-number-in-None.ensures
    c.in_ok-push-in-None.ensures.ok c.in_ok-push-in-None-2.ensures.ok c.in_ok-noted-in-None.ensures
