use Rattle.std.proofs.Common.{rules, sym, ap, ◌∙◌, ◌≡◌, ◌∷◌}
use Rattle.std.proofs.lemmas.Int.{to_z-of_z}
use mir.Syntax.{w64}
use mir.Val.{SFits}
use Rattle.ada_lower.specs.Driven.{onto_by}
use Rattle.ada_threads.proofs.Onto.{combined_ok}
use Rattle.ada_threads.proofs.combining.combined.Goals as goal

pub returns-in-Some-by : goal.returns-in-Some-by
returns-in-Some-by c =
    let is : c.args.parts ≡ c.in-Some.first.now ∷ c.in-Some.rest.now = search rules in
    let fits : SFits w64 c.in-Some.first.now = search rules in
    combined_ok c.one_or_raise.result c.in-Some-by.by c.args.by c.in-Some.first.now c.args.initial c.in-Some.rest.now c.args.parts c.onto.result c.in-Some-by.is is
    (λ k. ap (λ s. onto_by k c.in-Some-by.by s c.in-Some.rest.now) (sym (to_z-of_z w64 c.in-Some.first.now fits)) ∙ c.onto.ensures k) c.one_or_raise.ensures
