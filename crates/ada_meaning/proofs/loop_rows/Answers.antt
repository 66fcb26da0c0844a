use Rattle.ada_meaning.proofs.loop_rows.Goals as goal
use Rattle.ada_meaning.proofs.LoopsComputed

pub returns-clause-cuts : goal.returns-clause-cuts
returns-clause-cuts c = LoopsComputed.cuts

pub returns-clause-hundred : goal.returns-clause-hundred
returns-clause-hundred c = LoopsComputed.hundred

pub returns-clause-arms : goal.returns-clause-arms
returns-clause-arms c = LoopsComputed.arms

pub returns-clause-squares : goal.returns-clause-squares
returns-clause-squares c = LoopsComputed.squares

pub returns-clause-multiplies : goal.returns-clause-multiplies
returns-clause-multiplies c = LoopsComputed.multiplies

pub returns-clause-bounded : goal.returns-clause-bounded
returns-clause-bounded c = LoopsComputed.bounded

pub returns-clause-joined : goal.returns-clause-joined
returns-clause-joined c = LoopsComputed.joined

pub returns-clause-cases : goal.returns-clause-cases
returns-clause-cases c = LoopsComputed.cases

pub returns-clause-columns : goal.returns-clause-columns
returns-clause-columns c = LoopsComputed.columns

pub returns-clause-shifts : goal.returns-clause-shifts
returns-clause-shifts c = LoopsComputed.shifts

pub returns-clause-planned_adds : goal.returns-clause-planned_adds
returns-clause-planned_adds c = LoopsComputed.planned_adds

pub returns-clause-all_raise : goal.returns-clause-all_raise
returns-clause-all_raise c = LoopsComputed.all_raise

pub returns-clause-filled : goal.returns-clause-filled
returns-clause-filled c = LoopsComputed.filled
