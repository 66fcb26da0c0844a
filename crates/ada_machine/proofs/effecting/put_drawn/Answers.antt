use Rattle.std.proofs.Common.{◌∷◌, ◌+◌, length, reverse, ap, ◌∙◌, arith, w64}
use Rattle.std.proofs.lemmas.Int.{to_z-of_z}
use Rattle.std.proofs.lemmas.List.{length-reverse}
use Rattle.ada_machine.specs.States.{state_of}
use Rattle.ada_machine.proofs.effecting.put_drawn.Goals as goal

pub put-requires-2 : goal.put-requires-2
put-requires-2 c = omega (arith, c.requires.room, length-reverse c.put.new.stack.items, length-reverse c.args.m.now.stack.items, ap length c.put.ensures.top)

pub returns-clause-state : goal.returns-clause-state
returns-clause-state c = λ cells. ap (λ xs. record (state_of c.args.m.now cells) { pc = c.args.m.now.pc + 1; stack = xs })
    (c.put-2.ensures.top ∙ ap (λ z. z ∷ reverse c.put.new.stack.items) (to_z-of_z w64 c.args.flag c.ranges.flag)
    ∙ ap (λ xs. c.args.flag ∷ xs) (c.put.ensures.top ∙ ap (λ z. z ∷ reverse c.args.m.now.stack.items) (to_z-of_z w64 c.args.part c.ranges.part)))
