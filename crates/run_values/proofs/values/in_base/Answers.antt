use Rattle.std.proofs.Common.{sym, ◌∙◌, rules, FitsSigned, w64}
use Rattle.std.proofs.lemmas.Int.{to_z-of_z}
use Rattle.ada_base.specs.Operation.{unbounded}
use Rattle.ada_base.proofs.Ranges.{within-inside, within-none, within-outside}
use Rattle.run_values.proofs.values.in_base.Goals as goal

pub returns-then-is_in_base : goal.returns-then-is_in_base
returns-then-is_in_base c =
    let fits : FitsSigned w64 c.in_ok-value.value = search rules in
    let gives = simp (to_z-of_z w64 c.args.x c.ranges.x, to_z-of_z w64 c.args.y c.ranges.y) at c.apply.ensures in
    let test = simp to_z-of_z at c.is_in_base.ensures in
    simp to_z-of_z (within-inside c.args.base (unbounded c.args.op c.args.x c.args.y) c.in_ok-value.value
    (sym gives ∙ c.in_ok-value.was) (sym test ∙ c.if-is_in_base.true))

pub returns-else-is_in_base : goal.returns-else-is_in_base
returns-else-is_in_base c =
    let fits : FitsSigned w64 c.in_ok-value.value = search rules in
    let gives = simp (to_z-of_z w64 c.args.x c.ranges.x, to_z-of_z w64 c.args.y c.ranges.y) at c.apply.ensures in
    let test = simp to_z-of_z at c.is_in_base.ensures in
    within-outside c.args.base (unbounded c.args.op c.args.x c.args.y) c.in_ok-value.value
    (sym gives ∙ c.in_ok-value.was) (sym test ∙ c.if-is_in_base.false)

pub returns-in_err-value : goal.returns-in_err-value
returns-in_err-value c =
    let gives = simp (to_z-of_z w64 c.args.x c.ranges.x, to_z-of_z w64 c.args.y c.ranges.y) at c.apply.ensures in
    c.from_residual.ensures ∙ within-none c.args.base (unbounded c.args.op c.args.x c.args.y) (sym gives ∙ c.in_err-value.was)
