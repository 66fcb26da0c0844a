use Rattle.std.proofs.Common.{w64, SFits}
use Rattle.std.proofs.lemmas.Int.{to_z-of_z}
use Rattle.ada_base.specs.declared.operation.Op as op
use Rattle.stack_code.specs.Deeds.{applied}
use Rattle.ada_machine.proofs.Classes.{binary_by}
use Rattle.ada_machine.proofs.operands.subtract.Goals as goal

pub returns-clause-deed : goal.returns-clause-deed
returns-clause-deed c =
    let fx : SFits w64 c.top-x.result = record { sfits = c.top-x.type_inv } in
    let fy : SFits w64 c.take-y.result = record { sfits = c.take-y.type_inv } in
    let x = to_z-of_z w64 c.top-x.result fx in
    let y = to_z-of_z w64 c.take-y.result fy in
    binary_by c.args.pc c.args.stack.now.items c.take-y.new.stack.items c.settle.new.stack.items c.top-x.result c.take-y.result (λ x y. applied op.Op.Sub c.args.base x y) c.difference.result c.settle.result c.take-y.ensures.top c.top-x.ensures (simp (x, y) at c.difference.ensures) c.settle.ensures.deed
