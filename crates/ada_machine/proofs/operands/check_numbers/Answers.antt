use Rattle.std.proofs.Common.{w64, SFits}
use Rattle.std.proofs.lemmas.Int.{to_z-of_z}
use Rattle.stack_code.specs.Deeds.{if_among}
use Rattle.ada_machine.proofs.Classes.{unary_by}
use Rattle.ada_machine.proofs.operands.check_numbers.Goals as goal

pub returns-clause-deed : goal.returns-clause-deed
returns-clause-deed c =
    let fx : SFits w64 c.top-x.result = record { sfits = c.top-x.type_inv } in
    let x = to_z-of_z w64 c.top-x.result fx in
    let l = to_z-of_z w64 c.args.low c.ranges.low in
    let h = to_z-of_z w64 c.args.high c.ranges.high in
    unary_by c.args.pc c.args.stack.now.items c.settle.new.stack.items c.top-x.result (λ x. if_among c.args.low c.args.high x) c.if_among.result c.settle.result c.top-x.ensures (simp (x, l, h) at c.if_among.ensures) c.settle.ensures.deed
