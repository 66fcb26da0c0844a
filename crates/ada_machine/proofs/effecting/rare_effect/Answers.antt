use Rattle.std.proofs.Common.{◌≡◌, Some, None, refl, ap, ◌∙◌}
use Rattle.stack_code.specs.declared.instr.Instr.{Instr}
use Rattle.stack_code.specs.declared.instr.Instr.TheVariants as instr
use Rattle.stack_code.specs.declared.path.Io.TheVariants as io
use Rattle.stack_code.specs.declared.path.Leave.TheVariants as leave
use Rattle.ada_machine.specs.declared.machine.Stop.TheVariants as stop
use Rattle.ada_machine.specs.declared.machine.Went.TheVariants as went
use Rattle.ada_machine.specs.States.{state_of}
use Rattle.ada_machine.specs.Strides.{IsRare}
use Rattle.ada_machine.proofs.Doings as doings
use Rattle.ada_machine.proofs.Steps.{step_is, steps_stopped}
use Rattle.ada_machine.proofs.Looking.{quiet_looks, same_looks, call_looks, return_looks, combine_looks}
use Rattle.ada_machine.proofs.Heeding.{quiet_heeds}
use Rattle.ada_machine.proofs.effecting.rare_effect.Goals as goal

pub returns-in-LeaveV-clause-steps : goal.returns-in-LeaveV-clause-steps
returns-in-LeaveV-clause-steps g c = c.leave_with.ensures.steps (g.C.Cells.cells c.args.view.now) c.requires.ready

pub returns-in-Fork-clause-steps : goal.returns-in-Fork-clause-steps
returns-in-Fork-clause-steps g c = c.fork.ensures.steps (g.C.Cells.cells c.args.view.now) c.requires.ready

pub returns-in-Nest-clause-steps : goal.returns-in-Nest-clause-steps
returns-in-Nest-clause-steps g c = c.nest.ensures.steps (g.C.Cells.cells c.args.view.now) c.requires.ready

pub returns-in-Unnest-clause-steps : goal.returns-in-Unnest-clause-steps
returns-in-Unnest-clause-steps g c = c.unnest.ensures.steps (g.C.Cells.cells c.args.view.now) c.requires.ready

pub returns-in-Words-clause-steps : goal.returns-in-Words-clause-steps
returns-in-Words-clause-steps g c = c.words.ensures.steps (g.C.Cells.cells c.args.view.now) c.requires.ready

pub returns-in-Img-clause-steps : goal.returns-in-Img-clause-steps
returns-in-Img-clause-steps g c = c.put_image.ensures.steps (g.C.Cells.cells c.args.view.now) c.requires.ready

pub returns-in-UImg-clause-steps : goal.returns-in-UImg-clause-steps
returns-in-UImg-clause-steps g c = c.put_number_image.ensures.steps (g.C.Cells.cells c.args.view.now) c.requires.ready

pub returns-in-Bool-clause-steps : goal.returns-in-Bool-clause-steps
returns-in-Bool-clause-steps g c = c.put_truth.ensures.steps (g.C.Cells.cells c.args.view.now) c.requires.ready

pub returns-in-Wide-clause-steps : goal.returns-in-Wide-clause-steps
returns-in-Wide-clause-steps g c = c.put_padded.ensures.steps (g.C.Cells.cells c.args.view.now) c.requires.ready

pub returns-in-Send-clause-steps : goal.returns-in-Send-clause-steps
returns-in-Send-clause-steps g c = c.send.ensures.steps (g.C.Cells.cells c.args.view.now) c.requires.ready

pub returns-in-SendLn-clause-steps : goal.returns-in-SendLn-clause-steps
returns-in-SendLn-clause-steps g c = c.send_line.ensures.steps (g.C.Cells.cells c.args.view.now) c.requires.ready

pub returns-in-EndV-clause-steps : goal.returns-in-EndV-clause-steps
returns-in-EndV-clause-steps g c = c.end_with.ensures.steps (g.C.Cells.cells c.args.view.now) c.requires.ready

pub returns-in-LeaveV-clause-looks : goal.returns-in-LeaveV-clause-looks
returns-in-LeaveV-clause-looks g c = quiet_looks c.args.code.now (state_of c.args.m.now (g.C.Cells.cells c.args.view.now)) (instr.LeaveV) c.leave_with.result _ _ c.requires.calm (c.requires.at ∙ ap Some c.in-LeaveV.is) tt c.leave_with.ensures.looks

pub returns-in-Fork-clause-looks : goal.returns-in-Fork-clause-looks
returns-in-Fork-clause-looks g c = quiet_looks c.args.code.now (state_of c.args.m.now (g.C.Cells.cells c.args.view.now)) (instr.Fork c.in-Fork.site) c.fork.result _ _ c.requires.calm (c.requires.at ∙ ap Some c.in-Fork.is) tt c.fork.ensures.looks

pub returns-in-Unnest-clause-looks : goal.returns-in-Unnest-clause-looks
returns-in-Unnest-clause-looks g c = quiet_looks c.args.code.now (state_of c.args.m.now (g.C.Cells.cells c.args.view.now)) (instr.Unnest) c.unnest.result _ _ c.requires.calm (c.requires.at ∙ ap Some c.in-Unnest.is) tt c.unnest.ensures.looks

pub returns-in-Words-clause-looks : goal.returns-in-Words-clause-looks
returns-in-Words-clause-looks g c = quiet_looks c.args.code.now (state_of c.args.m.now (g.C.Cells.cells c.args.view.now)) (instr.Words c.in-Words.number) c.words.result _ _ c.requires.calm (c.requires.at ∙ ap Some c.in-Words.is) tt c.words.ensures.looks

pub returns-in-Img-clause-looks : goal.returns-in-Img-clause-looks
returns-in-Img-clause-looks g c = quiet_looks c.args.code.now (state_of c.args.m.now (g.C.Cells.cells c.args.view.now)) (instr.Img) c.put_image.result _ _ c.requires.calm (c.requires.at ∙ ap Some c.in-Img.is) tt c.put_image.ensures.looks

pub returns-in-UImg-clause-looks : goal.returns-in-UImg-clause-looks
returns-in-UImg-clause-looks g c = quiet_looks c.args.code.now (state_of c.args.m.now (g.C.Cells.cells c.args.view.now)) (instr.UImg) c.put_number_image.result _ _ c.requires.calm (c.requires.at ∙ ap Some c.in-UImg.is) tt c.put_number_image.ensures.looks

pub returns-in-Bool-clause-looks : goal.returns-in-Bool-clause-looks
returns-in-Bool-clause-looks g c = quiet_looks c.args.code.now (state_of c.args.m.now (g.C.Cells.cells c.args.view.now)) (instr.Bool) c.put_truth.result _ _ c.requires.calm (c.requires.at ∙ ap Some c.in-Bool.is) tt c.put_truth.ensures.looks

pub returns-in-Wide-clause-looks : goal.returns-in-Wide-clause-looks
returns-in-Wide-clause-looks g c = quiet_looks c.args.code.now (state_of c.args.m.now (g.C.Cells.cells c.args.view.now)) (instr.Wide c.in-Wide.width) c.put_padded.result _ _ c.requires.calm (c.requires.at ∙ ap Some c.in-Wide.is) tt c.put_padded.ensures.looks

pub returns-in-Send-clause-looks : goal.returns-in-Send-clause-looks
returns-in-Send-clause-looks g c = quiet_looks c.args.code.now (state_of c.args.m.now (g.C.Cells.cells c.args.view.now)) (instr.Send) c.send.result _ _ c.requires.calm (c.requires.at ∙ ap Some c.in-Send.is) tt c.send.ensures.looks

pub returns-in-SendLn-clause-looks : goal.returns-in-SendLn-clause-looks
returns-in-SendLn-clause-looks g c = quiet_looks c.args.code.now (state_of c.args.m.now (g.C.Cells.cells c.args.view.now)) (instr.SendLn) c.send_line.result _ _ c.requires.calm (c.requires.at ∙ ap Some c.in-SendLn.is) tt c.send_line.ensures.looks

pub returns-in-EndV-clause-looks : goal.returns-in-EndV-clause-looks
returns-in-EndV-clause-looks g c = quiet_looks c.args.code.now (state_of c.args.m.now (g.C.Cells.cells c.args.view.now)) (instr.EndV) c.end_with.result _ _ c.requires.calm (c.requires.at ∙ ap Some c.in-EndV.is) tt c.end_with.ensures.looks

pub returns-in-Exit-clause-looks : goal.returns-in-Exit-clause-looks
returns-in-Exit-clause-looks g c = quiet_looks c.args.code.now (state_of c.args.m.now (g.C.Cells.cells c.args.view.now)) (instr.Exit c.in-Exit.number) (went.Stopped (stop.Left (leave.Exit c.in-Exit.number))) c.args.m.now.looks c.args.m.now.looks c.requires.calm (c.requires.at ∙ ap Some c.in-Exit.is) tt refl

pub returns-in-Leave-clause-looks : goal.returns-in-Leave-clause-looks
returns-in-Leave-clause-looks g c = quiet_looks c.args.code.now (state_of c.args.m.now (g.C.Cells.cells c.args.view.now)) (instr.Leave) (went.Stopped (stop.Left (leave.Return None))) c.args.m.now.looks c.args.m.now.looks c.requires.calm (c.requires.at ∙ ap Some c.in-Leave.is) tt refl

pub returns-in-Get-clause-looks : goal.returns-in-Get-clause-looks
returns-in-Get-clause-looks g c = quiet_looks c.args.code.now (state_of c.args.m.now (g.C.Cells.cells c.args.view.now)) (instr.Get) (went.Stopped (stop.Ask io.Take)) c.args.m.now.looks c.args.m.now.looks c.requires.calm (c.requires.at ∙ ap Some c.in-Get.is) tt refl

pub returns-in-End-clause-looks : goal.returns-in-End-clause-looks
returns-in-End-clause-looks g c = quiet_looks c.args.code.now (state_of c.args.m.now (g.C.Cells.cells c.args.view.now)) (instr.End) (went.Stopped (stop.Done None)) c.args.m.now.looks c.args.m.now.looks c.requires.calm (c.requires.at ∙ ap Some c.in-End.is) tt refl

pub returns-in-Halt-clause-looks : goal.returns-in-Halt-clause-looks
returns-in-Halt-clause-looks g c = quiet_looks c.args.code.now (state_of c.args.m.now (g.C.Cells.cells c.args.view.now)) (instr.Halt) (went.Stopped (stop.Done None)) c.args.m.now.looks c.args.m.now.looks c.requires.calm (c.requires.at ∙ ap Some c.in-Halt.is) tt refl

pub returns-in-Nest-clause-looks : goal.returns-in-Nest-clause-looks
returns-in-Nest-clause-looks g c = same_looks c.args.code.now (state_of c.args.m.now (g.C.Cells.cells c.args.view.now)) instr.Nest c.nest.result _ _ 1 c.requires.calm (c.requires.at ∙ ap Some c.in-Nest.is) refl c.nest.ensures.looks

pub returns-in-Call-clause-looks : goal.returns-in-Call-clause-looks
returns-in-Call-clause-looks g c = same_looks c.args.code.now (state_of c.args.m.now (g.C.Cells.cells c.args.view.now)) (instr.Call c.in-Call.number) c.call.result _ _ 1 c.requires.calm (c.requires.at ∙ ap Some c.in-Call.is) (call_looks c.args.code.now c.args.m.now (g.C.Cells.cells c.args.view.now) c.requires.ready c.requires.calm c.in-Call.number (c.requires.at ∙ ap Some c.in-Call.is)) c.call.ensures.looks

pub returns-in-CallTo-clause-looks : goal.returns-in-CallTo-clause-looks
returns-in-CallTo-clause-looks g c = same_looks c.args.code.now (state_of c.args.m.now (g.C.Cells.cells c.args.view.now)) (instr.CallTo c.in-CallTo.sub c.in-CallTo.cell c.in-CallTo.to) c.call_to.result _ _ 1 c.requires.calm (c.requires.at ∙ ap Some c.in-CallTo.is) (return_looks c.args.code.now c.args.m.now (g.C.Cells.cells c.args.view.now) c.requires.ready c.requires.calm c.in-CallTo.sub c.in-CallTo.cell c.in-CallTo.to (c.requires.at ∙ ap Some c.in-CallTo.is)) c.call_to.ensures.looks

pub returns-in-Part-clause-steps : goal.returns-in-Part-clause-steps
returns-in-Part-clause-steps g c = c.draw.ensures.steps (g.C.Cells.cells c.args.view.now) c.requires.ready

pub returns-in-Part-clause-looks : goal.returns-in-Part-clause-looks
returns-in-Part-clause-looks g c = quiet_looks c.args.code.now (state_of c.args.m.now (g.C.Cells.cells c.args.view.now)) (instr.Part) c.draw.result _ _ c.requires.calm (c.requires.at ∙ ap Some c.in-Part.is) tt c.draw.ensures.looks

pub returns-in-Combine-clause-looks : goal.returns-in-Combine-clause-looks
returns-in-Combine-clause-looks g c = same_looks c.args.code.now (state_of c.args.m.now (g.C.Cells.cells c.args.view.now)) (instr.Combine c.in-Combine.number) c.combine.result _ _ _ c.requires.calm (c.requires.at ∙ ap Some c.in-Combine.is) (combine_looks c.args.code.now c.args.m.now (g.C.Cells.cells c.args.view.now) c.requires.ready c.requires.calm c.in-Combine.number (c.requires.at ∙ ap Some c.in-Combine.is)) c.combine.ensures.looks

pub returns-in-Repeat-clause-steps : goal.returns-in-Repeat-clause-steps
returns-in-Repeat-clause-steps g c = c.repeat.ensures.steps (g.C.Cells.cells c.args.view.now) c.requires.ready

pub returns-in-Repeat-clause-looks : goal.returns-in-Repeat-clause-looks
returns-in-Repeat-clause-looks g c = quiet_looks c.args.code.now (state_of c.args.m.now (g.C.Cells.cells c.args.view.now)) (instr.Repeat c.in-Repeat.count) c.repeat.result _ _ c.requires.calm (c.requires.at ∙ ap Some c.in-Repeat.is) tt c.repeat.ensures.looks

pub returns-in-Again-clause-steps : goal.returns-in-Again-clause-steps
returns-in-Again-clause-steps g c = c.again.ensures.steps (g.C.Cells.cells c.args.view.now) c.requires.ready

pub returns-in-Again-clause-looks : goal.returns-in-Again-clause-looks
returns-in-Again-clause-looks g c = quiet_looks c.args.code.now (state_of c.args.m.now (g.C.Cells.cells c.args.view.now)) (instr.Again c.in-Again.to) c.again.result _ _ c.requires.calm (c.requires.at ∙ ap Some c.in-Again.is) tt c.again.ensures.looks

pub returns-in-Call-clause-heeds : goal.returns-in-Call-clause-heeds
returns-in-Call-clause-heeds g c = c.call.ensures.heeds

pub returns-in-CallTo-clause-heeds : goal.returns-in-CallTo-clause-heeds
returns-in-CallTo-clause-heeds g c = c.call_to.ensures.heeds

pub returns-in-Nest-clause-heeds : goal.returns-in-Nest-clause-heeds
returns-in-Nest-clause-heeds g c = c.nest.ensures.heeds

pub returns-in-Combine-clause-heeds : goal.returns-in-Combine-clause-heeds
returns-in-Combine-clause-heeds g c = c.combine.ensures.heeds

pub returns-in-Part-clause-heeds : goal.returns-in-Part-clause-heeds
returns-in-Part-clause-heeds g c = quiet_heeds c.draw.result _ _ _ c.draw.ensures.looks

pub returns-in-Repeat-clause-heeds : goal.returns-in-Repeat-clause-heeds
returns-in-Repeat-clause-heeds g c = quiet_heeds c.repeat.result _ _ _ c.repeat.ensures.looks

pub returns-in-Again-clause-heeds : goal.returns-in-Again-clause-heeds
returns-in-Again-clause-heeds g c = quiet_heeds c.again.result _ _ _ c.again.ensures.looks

pub returns-in-LeaveV-clause-heeds : goal.returns-in-LeaveV-clause-heeds
returns-in-LeaveV-clause-heeds g c = quiet_heeds c.leave_with.result _ _ _ c.leave_with.ensures.looks

pub returns-in-Fork-clause-heeds : goal.returns-in-Fork-clause-heeds
returns-in-Fork-clause-heeds g c = quiet_heeds c.fork.result _ _ _ c.fork.ensures.looks

pub returns-in-Unnest-clause-heeds : goal.returns-in-Unnest-clause-heeds
returns-in-Unnest-clause-heeds g c = quiet_heeds c.unnest.result _ _ _ c.unnest.ensures.looks

pub returns-in-Words-clause-heeds : goal.returns-in-Words-clause-heeds
returns-in-Words-clause-heeds g c = quiet_heeds c.words.result _ _ _ c.words.ensures.looks

pub returns-in-Img-clause-heeds : goal.returns-in-Img-clause-heeds
returns-in-Img-clause-heeds g c = quiet_heeds c.put_image.result _ _ _ c.put_image.ensures.looks

pub returns-in-UImg-clause-heeds : goal.returns-in-UImg-clause-heeds
returns-in-UImg-clause-heeds g c = quiet_heeds c.put_number_image.result _ _ _ c.put_number_image.ensures.looks

pub returns-in-Bool-clause-heeds : goal.returns-in-Bool-clause-heeds
returns-in-Bool-clause-heeds g c = quiet_heeds c.put_truth.result _ _ _ c.put_truth.ensures.looks

pub returns-in-Wide-clause-heeds : goal.returns-in-Wide-clause-heeds
returns-in-Wide-clause-heeds g c = quiet_heeds c.put_padded.result _ _ _ c.put_padded.ensures.looks

pub returns-in-Send-clause-heeds : goal.returns-in-Send-clause-heeds
returns-in-Send-clause-heeds g c = quiet_heeds c.send.result _ _ _ c.send.ensures.looks

pub returns-in-SendLn-clause-heeds : goal.returns-in-SendLn-clause-heeds
returns-in-SendLn-clause-heeds g c = quiet_heeds c.send_line.result _ _ _ c.send_line.ensures.looks

pub returns-in-EndV-clause-heeds : goal.returns-in-EndV-clause-heeds
returns-in-EndV-clause-heeds g c = quiet_heeds c.end_with.result _ _ _ c.end_with.ensures.looks

pub returns-in-Exit-clause-heeds : goal.returns-in-Exit-clause-heeds
returns-in-Exit-clause-heeds g c = λ t. (t, refl)

pub returns-in-Leave-clause-heeds : goal.returns-in-Leave-clause-heeds
returns-in-Leave-clause-heeds g c = λ t. (t, refl)

pub returns-in-Get-clause-heeds : goal.returns-in-Get-clause-heeds
returns-in-Get-clause-heeds g c = λ t. (t, refl)

pub returns-in-End-clause-heeds : goal.returns-in-End-clause-heeds
returns-in-End-clause-heeds g c = λ t. (t, refl)

pub returns-in-Halt-clause-heeds : goal.returns-in-Halt-clause-heeds
returns-in-Halt-clause-heeds g c = λ t. (t, refl)

pub leave_with-requires-clause-ready : goal.leave_with-requires-clause-ready
leave_with-requires-clause-ready g c = (g.C.Cells.cells c.args.view.now, c.requires.ready)

pub leave_with-requires-clause-at : goal.leave_with-requires-clause-at
leave_with-requires-clause-at g c = c.requires.at ∙ ap Some c.in-LeaveV.is

pub returns-in-LeaveV-clause-paused : goal.returns-in-LeaveV-clause-paused
returns-in-LeaveV-clause-paused g c = λ e. absurd (c.leave_with.ensures.paused e)

pub returns-in-LeaveV-clause-halts : goal.returns-in-LeaveV-clause-halts
returns-in-LeaveV-clause-halts g c = (refl, λ t. t)

pub returns-in-LeaveV-clause-stays : goal.returns-in-LeaveV-clause-stays
returns-in-LeaveV-clause-stays g c = (refl, λ w. w, refl)

pub end_with-requires-clause-ready : goal.end_with-requires-clause-ready
end_with-requires-clause-ready g c = (g.C.Cells.cells c.args.view.now, c.requires.ready)

pub end_with-requires-clause-at : goal.end_with-requires-clause-at
end_with-requires-clause-at g c = c.requires.at ∙ ap Some c.in-EndV.is

pub returns-in-EndV-clause-paused : goal.returns-in-EndV-clause-paused
returns-in-EndV-clause-paused g c = λ e. absurd (c.end_with.ensures.paused e)

pub returns-in-EndV-clause-halts : goal.returns-in-EndV-clause-halts
returns-in-EndV-clause-halts g c = (refl, λ t. t)

pub returns-in-EndV-clause-stays : goal.returns-in-EndV-clause-stays
returns-in-EndV-clause-stays g c = (refl, λ w. w, refl)

pub fork-requires-clause-ready : goal.fork-requires-clause-ready
fork-requires-clause-ready g c = (g.C.Cells.cells c.args.view.now, c.requires.ready)

pub fork-requires-clause-at : goal.fork-requires-clause-at
fork-requires-clause-at g c = c.requires.at ∙ ap Some c.in-Fork.is

pub returns-in-Fork-clause-paused : goal.returns-in-Fork-clause-paused
returns-in-Fork-clause-paused g c = λ e. absurd (c.fork.ensures.paused e)

pub returns-in-Fork-clause-halts : goal.returns-in-Fork-clause-halts
returns-in-Fork-clause-halts g c = (refl, λ t. t)

pub returns-in-Fork-clause-stays : goal.returns-in-Fork-clause-stays
returns-in-Fork-clause-stays g c = (refl, λ w. w, refl)

pub unnest-requires-clause-ready : goal.unnest-requires-clause-ready
unnest-requires-clause-ready g c = (g.C.Cells.cells c.args.view.now, c.requires.ready)

pub unnest-requires-clause-at : goal.unnest-requires-clause-at
unnest-requires-clause-at g c = c.requires.at ∙ ap Some c.in-Unnest.is

pub returns-in-Unnest-clause-paused : goal.returns-in-Unnest-clause-paused
returns-in-Unnest-clause-paused g c = λ e. absurd (c.unnest.ensures.paused e)

pub returns-in-Unnest-clause-halts : goal.returns-in-Unnest-clause-halts
returns-in-Unnest-clause-halts g c = (refl, λ t. t)

pub returns-in-Unnest-clause-stays : goal.returns-in-Unnest-clause-stays
returns-in-Unnest-clause-stays g c = (refl, λ w. w, refl)

pub words-requires-clause-ready : goal.words-requires-clause-ready
words-requires-clause-ready g c = (g.C.Cells.cells c.args.view.now, c.requires.ready)

pub words-requires-clause-at : goal.words-requires-clause-at
words-requires-clause-at g c = c.requires.at ∙ ap Some c.in-Words.is

pub returns-in-Words-clause-paused : goal.returns-in-Words-clause-paused
returns-in-Words-clause-paused g c = λ e. absurd (c.words.ensures.paused e)

pub returns-in-Words-clause-halts : goal.returns-in-Words-clause-halts
returns-in-Words-clause-halts g c = (refl, λ t. t)

pub returns-in-Words-clause-stays : goal.returns-in-Words-clause-stays
returns-in-Words-clause-stays g c = (refl, λ w. w, refl)

pub put_image-requires-clause-ready : goal.put_image-requires-clause-ready
put_image-requires-clause-ready g c = (g.C.Cells.cells c.args.view.now, c.requires.ready)

pub put_number_image-requires-clause-ready : goal.put_number_image-requires-clause-ready
put_number_image-requires-clause-ready g c = (g.C.Cells.cells c.args.view.now, c.requires.ready)

pub put_image-requires-clause-at : goal.put_image-requires-clause-at
put_image-requires-clause-at g c = c.requires.at ∙ ap Some c.in-Img.is

pub put_number_image-requires-clause-at : goal.put_number_image-requires-clause-at
put_number_image-requires-clause-at g c = c.requires.at ∙ ap Some c.in-UImg.is

pub returns-in-Img-clause-paused : goal.returns-in-Img-clause-paused
returns-in-Img-clause-paused g c = λ e. absurd (c.put_image.ensures.paused e)

pub returns-in-UImg-clause-paused : goal.returns-in-UImg-clause-paused
returns-in-UImg-clause-paused g c = λ e. absurd (c.put_number_image.ensures.paused e)

pub returns-in-Img-clause-halts : goal.returns-in-Img-clause-halts
returns-in-Img-clause-halts g c = (refl, λ t. t)

pub returns-in-UImg-clause-halts : goal.returns-in-UImg-clause-halts
returns-in-UImg-clause-halts g c = (refl, λ t. t)

pub returns-in-Img-clause-stays : goal.returns-in-Img-clause-stays
returns-in-Img-clause-stays g c = (refl, λ w. w, refl)

pub returns-in-UImg-clause-stays : goal.returns-in-UImg-clause-stays
returns-in-UImg-clause-stays g c = (refl, λ w. w, refl)

pub put_truth-requires-clause-ready : goal.put_truth-requires-clause-ready
put_truth-requires-clause-ready g c = (g.C.Cells.cells c.args.view.now, c.requires.ready)

pub put_truth-requires-clause-at : goal.put_truth-requires-clause-at
put_truth-requires-clause-at g c = c.requires.at ∙ ap Some c.in-Bool.is

pub returns-in-Bool-clause-paused : goal.returns-in-Bool-clause-paused
returns-in-Bool-clause-paused g c = λ e. absurd (c.put_truth.ensures.paused e)

pub returns-in-Bool-clause-halts : goal.returns-in-Bool-clause-halts
returns-in-Bool-clause-halts g c = (refl, λ t. t)

pub returns-in-Bool-clause-stays : goal.returns-in-Bool-clause-stays
returns-in-Bool-clause-stays g c = (refl, λ w. w, refl)

pub put_padded-requires-clause-ready : goal.put_padded-requires-clause-ready
put_padded-requires-clause-ready g c = (g.C.Cells.cells c.args.view.now, c.requires.ready)

pub put_padded-requires-clause-at : goal.put_padded-requires-clause-at
put_padded-requires-clause-at g c = c.requires.at ∙ ap Some c.in-Wide.is

pub returns-in-Wide-clause-paused : goal.returns-in-Wide-clause-paused
returns-in-Wide-clause-paused g c = λ e. absurd (c.put_padded.ensures.paused e)

pub returns-in-Wide-clause-halts : goal.returns-in-Wide-clause-halts
returns-in-Wide-clause-halts g c = (refl, λ t. t)

pub returns-in-Wide-clause-stays : goal.returns-in-Wide-clause-stays
returns-in-Wide-clause-stays g c = (refl, λ w. w, refl)

pub send-requires-clause-ready : goal.send-requires-clause-ready
send-requires-clause-ready g c = (g.C.Cells.cells c.args.view.now, c.requires.ready)

pub send-requires-clause-at : goal.send-requires-clause-at
send-requires-clause-at g c = c.requires.at ∙ ap Some c.in-Send.is

pub returns-in-Send-clause-paused : goal.returns-in-Send-clause-paused
returns-in-Send-clause-paused g c = λ e. absurd (c.send.ensures.paused e)

pub returns-in-Send-clause-halts : goal.returns-in-Send-clause-halts
returns-in-Send-clause-halts g c = (refl, λ t. t)

pub returns-in-Send-clause-stays : goal.returns-in-Send-clause-stays
returns-in-Send-clause-stays g c = (refl, λ w. w, refl)

pub send_line-requires-clause-ready : goal.send_line-requires-clause-ready
send_line-requires-clause-ready g c = (g.C.Cells.cells c.args.view.now, c.requires.ready)

pub send_line-requires-clause-at : goal.send_line-requires-clause-at
send_line-requires-clause-at g c = c.requires.at ∙ ap Some c.in-SendLn.is

pub returns-in-SendLn-clause-paused : goal.returns-in-SendLn-clause-paused
returns-in-SendLn-clause-paused g c = λ e. absurd (c.send_line.ensures.paused e)

pub returns-in-SendLn-clause-halts : goal.returns-in-SendLn-clause-halts
returns-in-SendLn-clause-halts g c = (refl, λ t. t)

pub returns-in-SendLn-clause-stays : goal.returns-in-SendLn-clause-stays
returns-in-SendLn-clause-stays g c = (refl, λ w. w, refl)

pub draw-requires-clause-ready : goal.draw-requires-clause-ready
draw-requires-clause-ready g c = (g.C.Cells.cells c.args.view.now, c.requires.ready)

pub draw-requires-clause-at : goal.draw-requires-clause-at
draw-requires-clause-at g c = c.requires.at ∙ ap Some c.in-Part.is

pub returns-in-Part-clause-paused : goal.returns-in-Part-clause-paused
returns-in-Part-clause-paused g c = λ e. absurd (c.draw.ensures.paused e)

pub returns-in-Part-clause-halts : goal.returns-in-Part-clause-halts
returns-in-Part-clause-halts g c = (refl, λ t. t)

pub returns-in-Part-clause-stays : goal.returns-in-Part-clause-stays
returns-in-Part-clause-stays g c = (refl, λ w. w, refl)

pub repeat-requires-clause-ready : goal.repeat-requires-clause-ready
repeat-requires-clause-ready g c = (g.C.Cells.cells c.args.view.now, c.requires.ready)

pub repeat-requires-clause-at : goal.repeat-requires-clause-at
repeat-requires-clause-at g c = c.requires.at ∙ ap Some c.in-Repeat.is

pub returns-in-Repeat-clause-paused : goal.returns-in-Repeat-clause-paused
returns-in-Repeat-clause-paused g c = λ e. absurd (c.repeat.ensures.paused e)

pub returns-in-Repeat-clause-halts : goal.returns-in-Repeat-clause-halts
returns-in-Repeat-clause-halts g c = (refl, λ t. t)

pub returns-in-Repeat-clause-stays : goal.returns-in-Repeat-clause-stays
returns-in-Repeat-clause-stays g c = (refl, λ w. w, refl)

pub again-requires-clause-ready : goal.again-requires-clause-ready
again-requires-clause-ready g c = (g.C.Cells.cells c.args.view.now, c.requires.ready)

pub again-requires-clause-at : goal.again-requires-clause-at
again-requires-clause-at g c = c.requires.at ∙ ap Some c.in-Again.is

pub returns-in-Again-clause-paused : goal.returns-in-Again-clause-paused
returns-in-Again-clause-paused g c = λ e. absurd (c.again.ensures.paused e)

pub returns-in-Again-clause-halts : goal.returns-in-Again-clause-halts
returns-in-Again-clause-halts g c = (refl, λ t. t)

pub returns-in-Again-clause-stays : goal.returns-in-Again-clause-stays
returns-in-Again-clause-stays g c = (refl, λ w. w, refl)

pub nest-requires-clause-ready : goal.nest-requires-clause-ready
nest-requires-clause-ready g c = (g.C.Cells.cells c.args.view.now, c.requires.ready)

pub nest-requires-clause-at : goal.nest-requires-clause-at
nest-requires-clause-at g c = c.requires.at ∙ ap Some c.in-Nest.is

pub returns-in-Nest-clause-paused : goal.returns-in-Nest-clause-paused
returns-in-Nest-clause-paused g c = c.nest.ensures.paused

pub returns-in-Nest-clause-halts : goal.returns-in-Nest-clause-halts
returns-in-Nest-clause-halts g c = c.nest.ensures.halts

pub returns-in-Nest-clause-stays : goal.returns-in-Nest-clause-stays
returns-in-Nest-clause-stays g c = (refl, λ w. w, refl)

pub call-requires-clause-ready : goal.call-requires-clause-ready
call-requires-clause-ready g c = c.requires.ready

pub call-requires-clause-at : goal.call-requires-clause-at
call-requires-clause-at g c = c.requires.at ∙ ap Some c.in-Call.is

pub returns-in-Call-clause-paused : goal.returns-in-Call-clause-paused
returns-in-Call-clause-paused g c = c.call.ensures.paused

pub returns-in-Call-clause-halts : goal.returns-in-Call-clause-halts
returns-in-Call-clause-halts g c = c.call.ensures.halts

pub returns-in-Call-clause-stays : goal.returns-in-Call-clause-stays
returns-in-Call-clause-stays g c = c.call.ensures.stays

pub call_to-requires-clause-ready : goal.call_to-requires-clause-ready
call_to-requires-clause-ready g c = c.requires.ready

pub call_to-requires-clause-at : goal.call_to-requires-clause-at
call_to-requires-clause-at g c = c.requires.at ∙ ap Some c.in-CallTo.is

pub returns-in-CallTo-clause-paused : goal.returns-in-CallTo-clause-paused
returns-in-CallTo-clause-paused g c = c.call_to.ensures.paused

pub returns-in-CallTo-clause-halts : goal.returns-in-CallTo-clause-halts
returns-in-CallTo-clause-halts g c = c.call_to.ensures.halts

pub returns-in-CallTo-clause-stays : goal.returns-in-CallTo-clause-stays
returns-in-CallTo-clause-stays g c = c.call_to.ensures.stays

pub combine-requires-clause-ready : goal.combine-requires-clause-ready
combine-requires-clause-ready g c = c.requires.ready

pub combine-requires-clause-at : goal.combine-requires-clause-at
combine-requires-clause-at g c = c.requires.at ∙ ap Some c.in-Combine.is

pub returns-in-Combine-clause-paused : goal.returns-in-Combine-clause-paused
returns-in-Combine-clause-paused g c = c.combine.ensures.paused

pub returns-in-Combine-clause-halts : goal.returns-in-Combine-clause-halts
returns-in-Combine-clause-halts g c = c.combine.ensures.halts

pub returns-in-Combine-clause-stays : goal.returns-in-Combine-clause-stays
returns-in-Combine-clause-stays g c = c.combine.ensures.stays

pub returns-in-Exit-clause-halts : goal.returns-in-Exit-clause-halts
returns-in-Exit-clause-halts g c = (refl, λ t. t)

pub returns-in-Exit-clause-stays : goal.returns-in-Exit-clause-stays
returns-in-Exit-clause-stays g c = (refl, λ w. w, refl)

pub returns-in-Leave-clause-halts : goal.returns-in-Leave-clause-halts
returns-in-Leave-clause-halts g c = (refl, λ t. t)

pub returns-in-Leave-clause-stays : goal.returns-in-Leave-clause-stays
returns-in-Leave-clause-stays g c = (refl, λ w. w, refl)

pub returns-in-Get-clause-halts : goal.returns-in-Get-clause-halts
returns-in-Get-clause-halts g c = (refl, λ t. t)

pub returns-in-Get-clause-stays : goal.returns-in-Get-clause-stays
returns-in-Get-clause-stays g c = (refl, λ w. w, refl)

pub returns-in-End-clause-halts : goal.returns-in-End-clause-halts
returns-in-End-clause-halts g c = (refl, λ t. t)

pub returns-in-End-clause-stays : goal.returns-in-End-clause-stays
returns-in-End-clause-stays g c = (refl, λ w. w, refl)

pub returns-in-Halt-clause-halts : goal.returns-in-Halt-clause-halts
returns-in-Halt-clause-halts g c = (refl, λ t. t)

pub returns-in-Halt-clause-stays : goal.returns-in-Halt-clause-stays
returns-in-Halt-clause-stays g c = (refl, λ w. w, refl)

pub returns-in-Call-clause-steps : goal.returns-in-Call-clause-steps
returns-in-Call-clause-steps g c = c.call.ensures.steps

pub returns-in-CallTo-clause-steps : goal.returns-in-CallTo-clause-steps
returns-in-CallTo-clause-steps g c = c.call_to.ensures.steps

pub returns-in-Combine-clause-steps : goal.returns-in-Combine-clause-steps
returns-in-Combine-clause-steps g c = c.combine.ensures.steps

pub returns-in-End-clause-steps : goal.returns-in-End-clause-steps
returns-in-End-clause-steps g c =
    let m = c.args.m.now in
    let cells = g.C.Cells.cells c.args.view.now in
    steps_stopped c.args.limit c.args.code.now m cells c.requires.ready c.requires.within m cells (stop.Done None) (step_is c.args.limit c.args.code.now (state_of m cells) (instr.End) c.requires.calm (c.requires.at ∙ ap Some c.in-End.is)) tt c.requires.within

pub returns-in-Halt-clause-steps : goal.returns-in-Halt-clause-steps
returns-in-Halt-clause-steps g c =
    let m = c.args.m.now in
    let cells = g.C.Cells.cells c.args.view.now in
    steps_stopped c.args.limit c.args.code.now m cells c.requires.ready c.requires.within m cells (stop.Done None) (step_is c.args.limit c.args.code.now (state_of m cells) (instr.Halt) c.requires.calm (c.requires.at ∙ ap Some c.in-Halt.is)) tt c.requires.within

pub returns-in-Exit-clause-steps : goal.returns-in-Exit-clause-steps
returns-in-Exit-clause-steps g c =
    let m = c.args.m.now in
    let cells = g.C.Cells.cells c.args.view.now in
    steps_stopped c.args.limit c.args.code.now m cells c.requires.ready c.requires.within m cells (stop.Left (leave.Exit c.in-Exit.number)) (step_is c.args.limit c.args.code.now (state_of m cells) (instr.Exit c.in-Exit.number) c.requires.calm (c.requires.at ∙ ap Some c.in-Exit.is)) tt c.requires.within

pub returns-in-Leave-clause-steps : goal.returns-in-Leave-clause-steps
returns-in-Leave-clause-steps g c =
    let m = c.args.m.now in
    let cells = g.C.Cells.cells c.args.view.now in
    steps_stopped c.args.limit c.args.code.now m cells c.requires.ready c.requires.within m cells (stop.Left (leave.Return None)) (step_is c.args.limit c.args.code.now (state_of m cells) (instr.Leave) c.requires.calm (c.requires.at ∙ ap Some c.in-Leave.is)) tt c.requires.within

pub returns-in-Get-clause-steps : goal.returns-in-Get-clause-steps
returns-in-Get-clause-steps g c =
    let m = c.args.m.now in
    let cells = g.C.Cells.cells c.args.view.now in
    steps_stopped c.args.limit c.args.code.now m cells c.requires.ready c.requires.within m cells (stop.Ask io.Take) (step_is c.args.limit c.args.code.now (state_of m cells) (instr.Get) c.requires.calm (c.requires.at ∙ ap Some c.in-Get.is)) (doings.awaits_get c.args.limit c.args.code.now m m cells cells c.requires.ready c.requires.within c.requires.calm (c.requires.at ∙ ap Some c.in-Get.is)) c.requires.within

pub returns-in_default : goal.returns-in_default
returns-in_default g c = absurd (none c.args.instr refl c.requires.more)
  where
    none : (i : Instr) → c.args.instr ≡ i → IsRare i → ⊥
    none (instr.Call x) e h = c.in_default.not-Call x e
    none (instr.CallTo x y z) e h = c.in_default.not-CallTo x y z e
    none instr.Part e h = c.in_default.not-Part e
    none (instr.Repeat x) e h = c.in_default.not-Repeat x e
    none (instr.Again x) e h = c.in_default.not-Again x e
    none (instr.Exit x) e h = c.in_default.not-Exit x e
    none instr.Leave e h = c.in_default.not-Leave e
    none instr.LeaveV e h = c.in_default.not-LeaveV e
    none (instr.Fork x) e h = c.in_default.not-Fork x e
    none instr.Nest e h = c.in_default.not-Nest e
    none instr.Unnest e h = c.in_default.not-Unnest e
    none (instr.Words x) e h = c.in_default.not-Words x e
    none instr.Img e h = c.in_default.not-Img e
    none instr.UImg e h = c.in_default.not-UImg e
    none instr.Bool e h = c.in_default.not-Bool e
    none (instr.Wide x) e h = c.in_default.not-Wide x e
    none instr.Send e h = c.in_default.not-Send e
    none instr.SendLn e h = c.in_default.not-SendLn e
    none instr.Get e h = c.in_default.not-Get e
    none instr.End e h = c.in_default.not-End e
    none instr.EndV e h = c.in_default.not-EndV e
    none instr.Halt e h = c.in_default.not-Halt e
    none (instr.Combine x) e h = c.in_default.not-Combine x e
    none i e h = h
