use Rattle.std.proofs.Common.{w64, SFits}
use Rattle.std.proofs.lemmas.Int.{to_z-of_z}
use Rattle.stack_code.specs.Deeds.{negated}
use Rattle.ada_machine.proofs.Classes.{unary_by}
use Rattle.ada_machine.proofs.operands.negate.Goals as goal

pub returns-clause-deed : goal.returns-clause-deed
returns-clause-deed c =
    let fx : SFits w64 c.top-x.result = record { sfits = c.top-x.type_inv } in
    unary_by c.args.pc c.args.stack.now.items c.settle.new.stack.items c.top-x.result (λ x. negated c.args.base x) c.negated.result c.settle.result c.top-x.ensures (simp (to_z-of_z w64 c.top-x.result fx) at c.negated.ensures) c.settle.ensures.deed
