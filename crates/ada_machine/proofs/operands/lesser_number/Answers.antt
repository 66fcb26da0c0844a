use Rattle.std.proofs.Common.{w64, SFits}
use Rattle.std.proofs.lemmas.Int.{to_z-of_z}
use Rattle.ada_base.specs.declared.operation.Op as op
use Rattle.ada_base.specs.declared.operation.Base as base
use Rattle.ada_base.specs.Operation.{result_of}
use Rattle.ada_machine.proofs.Classes.{binary_by}
use Rattle.ada_machine.proofs.operands.lesser_number.Goals as goal

pub returns-clause-deed : goal.returns-clause-deed
returns-clause-deed c =
    let fx : SFits w64 c.top-x.result = record { sfits = c.top-x.type_inv } in
    let fy : SFits w64 c.take-y.result = record { sfits = c.take-y.type_inv } in
    let x = to_z-of_z w64 c.top-x.result fx in
    let y = to_z-of_z w64 c.take-y.result fy in
    binary_by c.args.pc c.args.stack.now.items c.take-y.new.stack.items c.settle.new.stack.items c.top-x.result c.take-y.result (λ x y. result_of op.Op.Min (base.Base.Modulo 64) x y) c.number_of.result c.settle.result c.take-y.ensures.top c.top-x.ensures (simp (x, y) at c.number_of.ensures) c.settle.ensures.deed
