use Rattle.std.proofs.Common.{pos, rules, sym, ap, ◌∙◌, get_or, Some, [], ◌∷◌}
use Rattle.std.proofs.lemmas.Int.{to_z-of_z}
use Rattle.std.proofs.Math.ListN.{drop_of_length-le}
use mir.Syntax.{w64}
use mir.Val.{SFits, to_z}
use Rattle.stack_code.specs.declared.path.Gave.TheVariants as gave
use Rattle.ada_lower.specs.Driven.{combine_by, onto_by, raised_or}
use Rattle.ada_threads.proofs.Onto.{onto_on, onto_off}
use Rattle.ada_threads.proofs.combining.onto.Goals as goal

pub loop-part-preserved : goal.loop-part-preserved
loop-part-preserved c k =
    let fits : SFits w64 (get_or c.args.rest.now c.loop-part.part-index (pos 0)) = search rules in
    let new : SFits w64 c.in_ok-so_far.so_far = search rules in
    let is = to_z-of_z w64 c.in_ok-so_far.so_far new in
    c.loop-part.invariant k
    ∙ onto_on k c.args.by (to_z w64 c.loop-part.so_far-bits) c.args.rest.now c.loop-part.part-index (pos 0) c.loop-part-test.true _
    (ap Some is ∙ sym c.in_ok-so_far.was ∙ c.combine_two.ensures k ∙ ap (λ v. combine_by k c.args.by (to_z w64 c.loop-part.so_far-bits) v) (to_z-of_z w64 _ fits))

pub returns-in_err-so_far : goal.returns-in_err-so_far
returns-in_err-so_far c k =
    let fits : SFits w64 (get_or c.args.rest.now c.loop-part.part-index (pos 0)) = search rules in
    ap (λ s. onto_by k c.args.by s c.args.rest.now) (sym (to_z-of_z w64 c.args.first c.ranges.first)) ∙ c.loop-part.invariant k
    ∙ onto_off k c.args.by (to_z w64 c.loop-part.so_far-bits) c.args.rest.now c.loop-part.part-index (pos 0) c.loop-part-test.true
    (sym c.in_err-so_far.was ∙ c.combine_two.ensures k ∙ ap (λ v. combine_by k c.args.by (to_z w64 c.loop-part.so_far-bits) v) (to_z-of_z w64 _ fits))
    ∙ ap (λ o. raised_or k o (λ v. gave.Numbers (v ∷ []))) (sym c.from_residual.ensures)

pub returns : goal.returns
returns c k =
    ap (λ s. onto_by k c.args.by s c.args.rest.now) (sym (to_z-of_z w64 c.args.first c.ranges.first)) ∙ c.loop-part.invariant k
    ∙ ap (λ l. onto_by k c.args.by (to_z w64 c.loop-part.so_far-bits) l) (drop_of_length-le c.args.rest.now c.loop-part-test.false)
