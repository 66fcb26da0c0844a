use Rattle.run_machine_laws.proofs.laws.Goals as goal
use Rattle.run_machine_laws.proofs.SameEnds.{same_moves, same_stop, same_fork, one_off}
use Rattle.run_machine_laws.proofs.ReadGet.{path_gets}
use Rattle.run_machine_laws.proofs.Fronts.{front_law}
use Rattle.run_machine_laws.proofs.Ends.{end_law}
use Rattle.run_machine_laws.proofs.Calm.{calm_law, only_permitted}
use Rattle.run_machine_laws.proofs.Telling.{tell_law}
use Rattle.run_machine_laws.proofs.Looping.{loop_law}

pub returns-clause-moves : goal.returns-clause-moves
returns-clause-moves c = same_moves

pub returns-clause-stops : goal.returns-clause-stops
returns-clause-stops c = same_stop

pub returns-clause-forks : goal.returns-clause-forks
returns-clause-forks c = same_fork

pub returns-clause-one_end : goal.returns-clause-one_end
returns-clause-one_end c = one_off

pub returns-clause-gets : goal.returns-clause-gets
returns-clause-gets c = path_gets

pub returns-clause-fronts : goal.returns-clause-fronts
returns-clause-fronts c = front_law

pub returns-clause-ends : goal.returns-clause-ends
returns-clause-ends c = end_law

pub returns-clause-calm : goal.returns-clause-calm
returns-clause-calm c = calm_law

pub returns-clause-tells : goal.returns-clause-tells
returns-clause-tells c = tell_law

pub returns-clause-steps : goal.returns-clause-steps
returns-clause-steps c = loop_law

pub returns-clause-only : goal.returns-clause-only
returns-clause-only c = only_permitted
