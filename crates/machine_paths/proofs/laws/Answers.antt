use Rattle.machine_paths.proofs.laws.Goals as goal
use Rattle.machine_paths.proofs.Constructs.{joined_comes, joined_forks, ordered_forks}
use Rattle.machine_paths.proofs.Framed.{machine_frames}
use Rattle.machine_paths.proofs.Leading.{comes_goes, comes_stops, leads_goes, leads_stops, asks_nothing, went_by}
use Rattle.machine_paths.proofs.Ordered.{joined_by_note, joined_in_order}
use Rattle.machine_paths.proofs.Sums.{step_law, world_law, start_law, nested_law, enough_law, leave_law}
use Rattle.machine_paths.proofs.Hushes.{answer_kind}
use Rattle.machine_paths.proofs.Touching.{machine_touching}

pub returns-clause-frames : goal.returns-clause-frames
returns-clause-frames c = (machine_frames, machine_touching)

pub returns-clause-steps : goal.returns-clause-steps
returns-clause-steps c = step_law

pub returns-clause-worlds : goal.returns-clause-worlds
returns-clause-worlds c = world_law

pub returns-clause-ends : goal.returns-clause-ends
returns-clause-ends c = went_by

pub returns-clause-moves : goal.returns-clause-moves
returns-clause-moves c = λ limit c p q w h. (comes_goes limit c p q w h, leads_goes limit c p q w h)

pub returns-clause-stops : goal.returns-clause-stops
returns-clause-stops c = λ limit c p x q w h. (comes_stops limit c p x q w h, λ a. leads_stops limit c p x q w a h)

pub returns-clause-asks : goal.returns-clause-asks
returns-clause-asks c = λ limit c p i q w e h r. asks_nothing limit c p i q w e h r

pub returns-clause-starts : goal.returns-clause-starts
returns-clause-starts c = start_law

pub returns-clause-notes : goal.returns-clause-notes
returns-clause-notes c = joined_by_note

pub returns-clause-orders : goal.returns-clause-orders
returns-clause-orders c = joined_in_order

pub returns-clause-constructs : goal.returns-clause-constructs
returns-clause-constructs c = joined_comes

pub returns-clause-nested : goal.returns-clause-nested
returns-clause-nested c = nested_law

pub returns-clause-forks : goal.returns-clause-forks
returns-clause-forks c = λ limit c plan q p site at left planned chosen os ds. ((λ joined. joined_forks limit c plan q p site at left planned chosen os ds joined), λ notes fine is. ordered_forks limit c plan q p site at left planned notes chosen os ds fine is)

pub returns-clause-enough : goal.returns-clause-enough
returns-clause-enough c = enough_law

pub returns-clause-leaves : goal.returns-clause-leaves
returns-clause-leaves c = leave_law

pub returns-clause-answers : goal.returns-clause-answers
returns-clause-answers c = answer_kind
