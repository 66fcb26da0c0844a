use Rattle.ada_meaning.proofs.laws.Goals as goal
use Rattle.ada_meaning.proofs.Law.{stops_law, alone_law, at_once_law, silent_law, only_law, one_law, sequential_law, one_sequential_law, subtype_law, more_workers_law}
use Rattle.ada_meaning.proofs.Between.{prefix_law}
use Rattle.ada_meaning.proofs.Operators.{operator_law}
use Rattle.ada_meaning.proofs.Unblocked.{blocked_law}
use Rattle.ada_meaning.proofs.Shapes.{shape_law}
use Rattle.ada_meaning.proofs.Sizes.{size_law}

pub returns-clause-stops : goal.returns-clause-stops
returns-clause-stops c = stops_law

pub returns-clause-fronts : goal.returns-clause-fronts
returns-clause-fronts c = prefix_law

pub returns-clause-alone : goal.returns-clause-alone
returns-clause-alone c = alone_law

pub returns-clause-at_once : goal.returns-clause-at_once
returns-clause-at_once c = at_once_law

pub returns-clause-silent : goal.returns-clause-silent
returns-clause-silent c = silent_law

pub returns-clause-only : goal.returns-clause-only
returns-clause-only c = only_law

pub returns-clause-one : goal.returns-clause-one
returns-clause-one c = one_law

pub returns-clause-sequential : goal.returns-clause-sequential
returns-clause-sequential c = sequential_law

pub returns-clause-operators : goal.returns-clause-operators
returns-clause-operators c = operator_law

pub returns-clause-subtypes : goal.returns-clause-subtypes
returns-clause-subtypes c = subtype_law

pub returns-clause-one_sequential : goal.returns-clause-one_sequential
returns-clause-one_sequential c = one_sequential_law

pub returns-clause-blocked : goal.returns-clause-blocked
returns-clause-blocked c = blocked_law

pub returns-clause-shapes : goal.returns-clause-shapes
returns-clause-shapes c = shape_law

pub returns-clause-sizes : goal.returns-clause-sizes
returns-clause-sizes c = size_law

pub returns-clause-more_workers : goal.returns-clause-more_workers
returns-clause-more_workers c = more_workers_law
