use Rattle.std.proofs.Common.{◌≡◌, ◌∷◌, [], pos, reverse, refl, ap, ◌∙◌, arith, SFits, w64}
use Rattle.std.proofs.lemmas.Int.{to_z-of_z}
use Rattle.stack_code.specs.declared.instr.Instr.TheVariants as instr
use Rattle.stack_code.specs.Machine.{drawing, on}
use Rattle.ada_machine.specs.States.{state_of}
use Rattle.ada_machine.proofs.Doings as doings
use Rattle.ada_machine.proofs.Doings.{fine_at}
use Rattle.ada_machine.proofs.effecting.draw.Goals as goal

pub put_drawn-requires-clause-room : goal.put_drawn-requires-clause-room
put_drawn-requires-clause-room c = let f = fine_at c.args.code.now c.args.m.now c.requires.ready.0 instr.Part c.requires.ready.1 c.requires.calm c.requires.at in omega (arith, f.room)

pub returns-then-len-eq0-clause-steps : goal.returns-then-len-eq0-clause-steps
returns-then-len-eq0-clause-steps c = λ cells r.
    let m = c.args.m.now in
    let none : reverse m.kept.items ≡ [] = doings.empty m.kept.items (omega arith) in
    doings.writes c.args.limit c.args.code.now m c.put_drawn.new.m cells cells r c.requires.within c.requires.calm instr.Part _ c.requires.at
    (ap (λ ps. drawing c.args.limit ps (state_of m cells)) none) (c.put_drawn.ensures.state cells) refl refl refl c.requires.calm c.put_drawn.ensures.room

pub put_drawn-requires-2-clause-room : goal.put_drawn-requires-2-clause-room
put_drawn-requires-2-clause-room c = let f = fine_at c.args.code.now c.args.m.now c.requires.ready.0 instr.Part c.requires.ready.1 c.requires.calm c.requires.at in omega (arith, f.room)

pub returns-clause-steps : goal.returns-clause-steps
returns-clause-steps c = λ cells r.
    let m = c.args.m.now in
    let part = c.take_last-part.result in
    let fits : SFits w64 c.take_last-part.result = record { sfits = c.take_last-part.type_inv } in
    let q = doings.last_first m.kept.items c.take_last-part.new.self.items part c.take_last-part.ensures.items in
    doings.writes c.args.limit c.args.code.now m c.put_drawn-2.new.m cells cells r c.requires.within c.requires.calm instr.Part _ c.requires.at
    (ap (λ ps. drawing c.args.limit ps (state_of m cells)) q)
    (c.put_drawn-2.ensures.state cells ∙ ap (λ z. on (pos 1 ∷ z ∷ reverse m.stack.items) (record (state_of m cells) { kept = reverse c.take_last-part.new.self.items })) (to_z-of_z w64 c.take_last-part.result fits))
    refl refl refl c.requires.calm c.put_drawn-2.ensures.room
