use Rattle.std.proofs.Common.{w64, SFits}
use Rattle.std.proofs.lemmas.Int.{to_z-of_z}
use Rattle.ada_base.specs.declared.operation.Op as op
use Rattle.stack_code.specs.Deeds.{applied}
use Rattle.ada_machine.proofs.Classes.{unary_by}
use Rattle.ada_machine.proofs.operands.multiply_by_constant.Goals as goal

pub returns-clause-deed : goal.returns-clause-deed
returns-clause-deed c =
    let fx : SFits w64 c.top-x.result = record { sfits = c.top-x.type_inv } in
    let x = to_z-of_z w64 c.top-x.result fx in
    let y = to_z-of_z w64 c.args.value c.ranges.value in
    unary_by c.args.pc c.args.stack.now.items c.settle.new.stack.items c.top-x.result (λ x. applied op.Op.Mul c.args.base x c.args.value) c.product.result c.settle.result c.top-x.ensures (simp (x, y) at c.product.ensures) c.settle.ensures.deed
