use Rattle.std.proofs.Common.{rules, ◌≡◌, [], ◌∷◌, sym, subst}
use Rattle.std.specs.Prelude.{◌+◌, slice_get}
use Rattle.stack_code.specs.declared.path.Gave.TheVariants as gave
use Rattle.stack_code.specs.Answers.{IsAnswer}
use Rattle.run_machine.proofs.Answered.{awaits_turned, number, raise}
use Rattle.run_machine.proofs.asking.get.Goals as goal

pub resume_after-requires-clause-waits : goal.resume_after-requires-clause-waits
resume_after-requires-clause-waits g c = awaits_turned c.args.team.now.code.now c.args.machine.now (c.args.machine.now.turns + c.get-got.result.took) c.requires.awaits

pub resume_after-requires-in-Raise-clause-waits : goal.resume_after-requires-in-Raise-clause-waits
resume_after-requires-in-Raise-clause-waits g c = awaits_turned c.args.team.now.code.now c.args.machine.now (c.args.machine.now.turns + c.get-got.result.took) c.requires.awaits

pub resume_after-requires-clause-answer : goal.resume_after-requires-clause-answer
resume_after-requires-clause-answer g c =
    let one : c.set.new.self ≡ c.in-Number.value ∷ [] = search rules in
    subst (λ ns. IsAnswer c.args.team.now.code.now (slice_get c.args.team.now.code.now.instrs c.args.machine.now.pc) (gave.Numbers ns)) (sym one)
    (number c.args.team.now.code.now c.in-Number.value (slice_get c.args.team.now.code.now.instrs c.args.machine.now.pc) c.requires.gets)

pub resume_after-requires-in-Raise-clause-answer : goal.resume_after-requires-in-Raise-clause-answer
resume_after-requires-in-Raise-clause-answer g c = raise c.args.team.now.code.now c.in-Raise.reason (slice_get c.args.team.now.code.now.instrs c.args.machine.now.pc) c.requires.gets
