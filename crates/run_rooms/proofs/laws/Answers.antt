use Rattle.run_rooms.proofs.Rooms.{room_law}
use Rattle.run_rooms.proofs.laws.Goals as goal

pub returns : goal.returns
returns c = record { room = room_law }
