use Rattle.std.proofs.Common.{Some, refl, ap, ◌∙◌}
use Rattle.stack_code.specs.declared.instr.Instr.TheVariants as instr
use Rattle.ada_machine.specs.declared.machine.Went.TheVariants as went
use Rattle.ada_machine.specs.States.{state_of}
use Rattle.ada_machine.proofs.Looking.{quiet_looks, same_looks, window_looks}
use Rattle.ada_machine.proofs.Heeding.{quiet_heeds}
use Rattle.ada_machine.proofs.Unmoved.{rarely}
use Rattle.ada_machine.proofs.effecting.effect.Goals as goal

pub returns-in-Ret-clause-looks : goal.returns-in-Ret-clause-looks
returns-in-Ret-clause-looks g c = quiet_looks c.args.code.now (state_of c.args.m.now (g.C.Cells.cells c.args.view.now)) (instr.Ret) went.On _ _ c.requires.calm (c.requires.at ∙ ap Some c.in-Ret.is) tt c.return_plain.ensures.looks

pub returns-in-RetV-clause-looks : goal.returns-in-RetV-clause-looks
returns-in-RetV-clause-looks g c = quiet_looks c.args.code.now (state_of c.args.m.now (g.C.Cells.cells c.args.view.now)) (instr.RetV) went.On _ _ c.requires.calm (c.requires.at ∙ ap Some c.in-RetV.is) tt c.return_value.ensures.looks

pub returns-in-CallAt-clause-looks : goal.returns-in-CallAt-clause-looks
returns-in-CallAt-clause-looks g c = same_looks c.args.code.now (state_of c.args.m.now (g.C.Cells.cells c.args.view.now)) (instr.CallAt c.in-CallAt.sub c.in-CallAt.cell) c.call_at.result _ _ 1 c.requires.calm (c.requires.at ∙ ap Some c.in-CallAt.is) (window_looks c.args.code.now c.args.m.now (g.C.Cells.cells c.args.view.now) c.requires.ready c.requires.calm c.in-CallAt.sub c.in-CallAt.cell (c.requires.at ∙ ap Some c.in-CallAt.is)) c.call_at.ensures.looks

pub returns-in-CallAt-clause-heeds : goal.returns-in-CallAt-clause-heeds
returns-in-CallAt-clause-heeds g c = c.call_at.ensures.heeds

pub returns-in-Ret-clause-heeds : goal.returns-in-Ret-clause-heeds
returns-in-Ret-clause-heeds g c = quiet_heeds went.On _ _ _ c.return_plain.ensures.looks

pub returns-in-RetV-clause-heeds : goal.returns-in-RetV-clause-heeds
returns-in-RetV-clause-heeds g c = quiet_heeds went.On _ _ _ c.return_value.ensures.looks

pub return_plain-requires-clause-ready : goal.return_plain-requires-clause-ready
return_plain-requires-clause-ready g c = c.requires.ready

pub return_plain-requires-clause-at : goal.return_plain-requires-clause-at
return_plain-requires-clause-at g c = c.requires.at ∙ ap Some c.in-Ret.is

pub returns-in-Ret-clause-paused : goal.returns-in-Ret-clause-paused
returns-in-Ret-clause-paused g c = λ e. cc

pub returns-in-Ret-clause-halts : goal.returns-in-Ret-clause-halts
returns-in-Ret-clause-halts g c = (refl, λ t. t)

pub returns-in-Ret-clause-stays : goal.returns-in-Ret-clause-stays
returns-in-Ret-clause-stays g c = c.return_plain.ensures.stays

pub return_value-requires-clause-ready : goal.return_value-requires-clause-ready
return_value-requires-clause-ready g c = c.requires.ready

pub return_value-requires-clause-at : goal.return_value-requires-clause-at
return_value-requires-clause-at g c = c.requires.at ∙ ap Some c.in-RetV.is

pub returns-in-RetV-clause-paused : goal.returns-in-RetV-clause-paused
returns-in-RetV-clause-paused g c = λ e. cc

pub returns-in-RetV-clause-halts : goal.returns-in-RetV-clause-halts
returns-in-RetV-clause-halts g c = (refl, λ t. t)

pub returns-in-RetV-clause-stays : goal.returns-in-RetV-clause-stays
returns-in-RetV-clause-stays g c = c.return_value.ensures.stays

pub call_at-requires-clause-ready : goal.call_at-requires-clause-ready
call_at-requires-clause-ready g c = c.requires.ready

pub call_at-requires-clause-at : goal.call_at-requires-clause-at
call_at-requires-clause-at g c = c.requires.at ∙ ap Some c.in-CallAt.is

pub returns-in-CallAt-clause-paused : goal.returns-in-CallAt-clause-paused
returns-in-CallAt-clause-paused g c = c.call_at.ensures.paused

pub returns-in-CallAt-clause-halts : goal.returns-in-CallAt-clause-halts
returns-in-CallAt-clause-halts g c = c.call_at.ensures.halts

pub returns-in-CallAt-clause-stays : goal.returns-in-CallAt-clause-stays
returns-in-CallAt-clause-stays g c = c.call_at.ensures.stays

pub returns-in-Ret-clause-steps : goal.returns-in-Ret-clause-steps
returns-in-Ret-clause-steps g c = c.return_plain.ensures.steps

pub returns-in-RetV-clause-steps : goal.returns-in-RetV-clause-steps
returns-in-RetV-clause-steps g c = c.return_value.ensures.steps

pub returns-in-CallAt-clause-steps : goal.returns-in-CallAt-clause-steps
returns-in-CallAt-clause-steps g c = c.call_at.ensures.steps

pub rare_effect-requires-clause-ready : goal.rare_effect-requires-clause-ready
rare_effect-requires-clause-ready g c = c.requires.ready

pub rare_effect-requires-clause-at : goal.rare_effect-requires-clause-at
rare_effect-requires-clause-at g c = c.requires.at

pub rare_effect-requires-clause-more : goal.rare_effect-requires-clause-more
rare_effect-requires-clause-more g c = rarely c.args.instr.now c.requires.more c.in_default.not-CallAt c.in_default.not-Ret c.in_default.not-RetV

pub returns-in_default-clause-steps : goal.returns-in_default-clause-steps
returns-in_default-clause-steps g c = c.rare_effect.ensures.steps

pub returns-in_default-clause-paused : goal.returns-in_default-clause-paused
returns-in_default-clause-paused g c = c.rare_effect.ensures.paused

pub returns-in_default-clause-halts : goal.returns-in_default-clause-halts
returns-in_default-clause-halts g c = c.rare_effect.ensures.halts

pub returns-in_default-clause-heeds : goal.returns-in_default-clause-heeds
returns-in_default-clause-heeds g c = c.rare_effect.ensures.heeds

pub returns-in_default-clause-stays : goal.returns-in_default-clause-stays
returns-in_default-clause-stays g c = c.rare_effect.ensures.stays

pub returns-in_default-clause-looks : goal.returns-in_default-clause-looks
returns-in_default-clause-looks g c = c.rare_effect.ensures.looks
