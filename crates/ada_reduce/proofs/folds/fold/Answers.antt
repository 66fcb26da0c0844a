use Rattle.std.proofs.Common.{pos, rules, sym, ap, subst, ◌∙◌, get_or, Some}
use Rattle.std.proofs.lemmas.Int.{to_z-of_z}
use mir.Syntax.{w64}
use mir.Val.{SFits, to_z}
use Rattle.ada_base.specs.Operation.{result_of}
use Rattle.ada_reduce.specs.Folds.{fold_of, IsTaken}
use Rattle.ada_reduce.proofs.Folding.{taken_at, taken_on, fold_on, fold_off}
use Rattle.ada_reduce.proofs.folds.fold.Goals as goal

pub step-requires : goal.step-requires
step-requires c =
    let fits : SFits w64 (get_or c.args.values.now c.loop-value.value-index (pos 0)) = search rules in
    (c.loop-value.invariant.0, subst (IsTaken c.args.op c.args.base) (sym (to_z-of_z w64 _ fits)) (taken_at c.args.op c.args.base c.args.values.now c.loop-value.value-index (pos 0) c.requires.values c.loop-value-test.true))

pub returns-in_err-so_far : goal.returns-in_err-so_far
returns-in_err-so_far c =
    let fits : SFits w64 (get_or c.args.values.now c.loop-value.value-index (pos 0)) = search rules in
    c.from_residual.ensures ∙ sym (
    ap (λ s. fold_of c.args.op c.args.base s c.args.values.now) (sym (to_z-of_z w64 c.args.start c.ranges.start)) ∙ c.loop-value.invariant.1
    ∙ fold_off c.args.op c.args.base _ c.args.values.now c.loop-value.value-index (pos 0) c.loop-value-test.true
    (ap (λ v. result_of c.args.op c.args.base (to_z w64 c.loop-value.so_far-bits) v) (sym (to_z-of_z w64 _ fits)) ∙ sym c.step.ensures ∙ c.in_err-so_far.was))

pub loop-value-preserved : goal.loop-value-preserved
loop-value-preserved c =
    let fits : SFits w64 (get_or c.args.values.now c.loop-value.value-index (pos 0)) = search rules in
    let new : SFits w64 c.in_ok-so_far.so_far = search rules in
    let is = to_z-of_z w64 c.in_ok-so_far.so_far new in
    let step = ap (λ v. result_of c.args.op c.args.base (to_z w64 c.loop-value.so_far-bits) v) (sym (to_z-of_z w64 _ fits)) ∙ sym c.step.ensures ∙ c.in_ok-so_far.was in (
      subst (IsTaken c.args.op c.args.base) (sym is) (taken_on c.args.op c.args.base _ _ _ c.loop-value.invariant.0 (taken_at c.args.op c.args.base c.args.values.now c.loop-value.value-index (pos 0) c.requires.values c.loop-value-test.true) step),
      c.loop-value.invariant.1 ∙ fold_on c.args.op c.args.base _ _ c.args.values.now c.loop-value.value-index (pos 0) c.loop-value-test.true (step ∙ ap Some (sym is)),
    )
