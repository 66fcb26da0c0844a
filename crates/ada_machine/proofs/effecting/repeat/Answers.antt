use Rattle.std.proofs.Common.{refl, arith}
use Rattle.stack_code.specs.declared.instr.Instr.TheVariants as instr
use Rattle.ada_machine.proofs.Doings as doings
use Rattle.ada_machine.proofs.effecting.repeat.Goals as goal

pub returns-in-Ok-clause-steps : goal.returns-in-Ok-clause-steps
returns-in-Ok-clause-steps c = λ cells r. doings.writes c.args.limit c.args.code.now c.args.m.now c.begin_part.new.m cells cells r c.requires.within c.requires.calm (instr.Repeat c.args.count) _ c.requires.at
    refl (c.in-Ok.ensures.ok cells) refl refl refl c.requires.calm c.begin_part.ensures.room

pub returns-in-Err-clause-steps : goal.returns-in-Err-clause-steps
returns-in-Err-clause-steps c = λ cells r. doings.still c.args.limit c.args.code.now c.args.m.now c.begin_part.new.m cells cells r c.requires.within c.requires.calm (instr.Repeat c.args.count) c.requires.at tt (c.in-Err.ensures.err cells) (omega (arith, c.begin_part.ensures.room))
