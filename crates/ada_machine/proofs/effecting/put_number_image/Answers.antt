use Rattle.stack_code.specs.declared.instr.Instr.TheVariants as instr
use Rattle.stack_code.specs.Deeds.{deed_of}
use Rattle.stack_code.specs.Machine.{done}
use Rattle.std.proofs.Common.{refl, ap, arith}
use Rattle.ada_machine.specs.States.{state_of}
use Rattle.ada_machine.proofs.Doings as doings
use Rattle.ada_machine.proofs.Doings.{fine_at}
use Rattle.ada_machine.proofs.effecting.put_number_image.Goals as goal

pub add_number_image-requires-clause-one : goal.add_number_image-requires-clause-one
add_number_image-requires-clause-one c = let f = fine_at c.args.code.now c.args.m.now c.requires.ready.0 (instr.UImg) c.requires.ready.1 c.requires.calm c.requires.at in omega (arith, f.operands)

pub add_number_image-requires-clause-room : goal.add_number_image-requires-clause-room
add_number_image-requires-clause-room c = let f = fine_at c.args.code.now c.args.m.now c.requires.ready.0 (instr.UImg) c.requires.ready.1 c.requires.calm c.requires.at in omega (arith, f.height)

pub returns-in-Ok-clause-steps : goal.returns-in-Ok-clause-steps
returns-in-Ok-clause-steps c = λ cells r.
    let f = fine_at c.args.code.now c.args.m.now cells (instr.UImg) r c.requires.calm c.requires.at in
    let b = doings.top c.args.m.now.stack.items f.operands in
    doings.writes c.args.limit c.args.code.now c.args.m.now c.add_number_image.new.m cells cells r c.requires.within c.requires.calm (instr.UImg) _ c.requires.at
    (ap (λ st. done c.args.limit (deed_of c.args.code.now c.args.m.now.pc st c.args.m.now.base c.args.m.now.outward.items (instr.UImg)) (state_of c.args.m.now cells)) b.2)
    (c.in-Ok.ensures.ok cells b.0 b.1 b.2) refl refl refl c.requires.calm c.add_number_image.ensures.room

pub returns-in-Err-clause-steps : goal.returns-in-Err-clause-steps
returns-in-Err-clause-steps c = λ cells r. doings.still c.args.limit c.args.code.now c.args.m.now c.add_number_image.new.m cells cells r c.requires.within c.requires.calm (instr.UImg) c.requires.at tt (c.in-Err.ensures.err cells) (omega (arith, c.add_number_image.ensures.room))
