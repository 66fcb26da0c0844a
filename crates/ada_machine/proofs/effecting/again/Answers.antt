use Rattle.std.proofs.Common.{refl, ap, ◌∙◌}
use Rattle.stack_code.specs.declared.instr.Instr.TheVariants as instr
use Rattle.ada_machine.specs.States.{state_of, frames_of}
use Rattle.ada_machine.proofs.Doings as doings
use Rattle.ada_machine.proofs.effecting.again.Goals as goal

pub returns-clause-steps : goal.returns-clause-steps
returns-clause-steps c = λ cells r.
    let e = c.end_round.ensures in
    doings.writes c.args.limit c.args.code.now c.args.m.now c.end_round.new.m cells cells r c.requires.within c.requires.calm (instr.Again c.args.to) (state_of c.end_round.new.m cells) c.requires.at
    (e.state c.args.limit cells) refl e.same.1 (ap (λ ws. frames_of ws.items) e.same.2) (ap (λ fs. fs.items) e.same.3) (e.calm ∙ c.requires.calm) e.same.0
