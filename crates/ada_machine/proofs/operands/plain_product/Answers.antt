use Rattle.std.proofs.Common.{◌*ℤ◌, sym, ◌∙◌, w64}
use Rattle.std.proofs.lemmas.Int.{to_z-of_z}
use Rattle.ada_machine.proofs.Narrows.{narrow_product, product_within}
use Rattle.ada_machine.proofs.operands.plain_product.Goals as goal

pub overflow_mul-near : goal.overflow_mul-near
overflow_mul-near c =
    let x = to_z-of_z w64 c.args.x c.ranges.x in
    let y = to_z-of_z w64 c.args.y c.ranges.y in
    simp (x, y) (narrow_product c.args.x c.args.y (sym (simp x at c.is_narrow.ensures) ∙ c.if-is_narrow.true) (sym (simp y at c.is_narrow-then-is_narrow.ensures) ∙ c.if-is_narrow-2.true))

pub returns-then-is_narrow-2 : goal.returns-then-is_narrow-2
returns-then-is_narrow-2 c =
    let x = to_z-of_z w64 c.args.x c.ranges.x in
    let y = to_z-of_z w64 c.args.y c.ranges.y in
    let fits = narrow_product c.args.x c.args.y (sym (simp x at c.is_narrow.ensures) ∙ c.if-is_narrow.true) (sym (simp y at c.is_narrow-then-is_narrow.ensures) ∙ c.if-is_narrow-2.true) in
    simp (x, y, to_z-of_z w64 (c.args.x *ℤ c.args.y) fits) at c.within.ensures

pub returns-else-is_narrow : goal.returns-else-is_narrow
returns-else-is_narrow c =
    let x = to_z-of_z w64 c.args.x c.ranges.x in
    let y = to_z-of_z w64 c.args.y c.ranges.y in
    c.within-else-is_narrow.ensures ∙ product_within c.args.base (c.args.x *ℤ c.args.y) c.checked_mul.result (simp (x, y) at c.checked_mul.ensures)
