use Rattle.ada_workers.proofs.Lending.{all_boards}
use Rattle.ada_workers.proofs.construct.make_rooms.Goals as goal

pub close-requires-clause-boards : goal.close-requires-clause-boards
close-requires-clause-boards g c = let b = c.in_ok-board in all_boards b.board.name b.seats.items b.ensures.2

pub close-requires-in_default-with_capacity-clause-boards : goal.close-requires-in_default-with_capacity-clause-boards
close-requires-in_default-with_capacity-clause-boards g c = let b = c.in_ok-board in all_boards b.board.name b.seats.items b.ensures.2
