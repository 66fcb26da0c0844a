use Rattle.std.proofs.Common.{◌≡◌, ◌-◌, ◌+◌, suc, Some, Option, sym, ap, ◌∙◌, arith, ℕ}
use Rattle.stack_code.specs.declared.code.Around.{Around}
use Rattle.stack_code.specs.Valid.{outward, step_out}
use Rattle.code_validity.proofs.bodies.outward.Goals as goal

pub loop-done-preserved : goal.loop-done-preserved
loop-done-preserved c =
    let less : c.args.steps - c.loop-done.done ≡ suc (c.args.steps - (c.loop-done.done + 1)) = omega arith in
    let next : Some c.in-Some.next ≡ step_out c.args.code.now c.loop-done.reached = sym c.in-Some.is ∙ c.step_out.ensures in
    ap (λ (o : Option Around). outward c.args.code.now o (c.args.steps - (c.loop-done.done + 1))) next ∙ (ap (λ (n : ℕ). outward c.args.code.now (Some c.loop-done.reached) n) (sym less) ∙ c.loop-done.invariant)
