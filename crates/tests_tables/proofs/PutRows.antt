-- Puts to a sink in memory that has room for six bytes, one after the other: the piece, what the sink holds then, and the
-- number of faults, which is greater where the put fails.
use Rattle.std.proofs.Common.{◌≡◌, ℕ, List, [], ◌∷◌, Ok, Err, cond, refl}
use Rattle.ada_port.specs.Sinks.{SinkState, put_fails, after_put}
use Rattle.ada_port.specs.declared.ports.Failed.{Failed}

data Row : Type 0 where
  row : (piece held : List ℕ) → (faults : ℕ) → Row

abbrev after : Failed → SinkState → List ℕ → SinkState
after fault s piece = cond (put_fails s piece) (after_put s piece (Err fault)) (after_put s piece (Ok tt))

abbrev found : Failed → SinkState → List Row → List Row
found fault s [] = []
found fault s (row piece held faults ∷ rows) =
    let next = after fault s piece in row piece next.held next.faults ∷ found fault next rows

-- the second call fails and passes one byte, since of two entries for it the first counts; the sixth and the ninth are listed too
abbrev start : SinkState
start = record {
  held = [];
  room = 6;
  fails = record { call = 1; pass = 1 } ∷ record { call = 1; pass = 2 } ∷ record { call = 5; pass = 9 } ∷ record { call = 8; pass = 1 } ∷ [];
  calls = 0;
  faults = 0;
}

abbrev rows : List Row
rows =
    row (97 ∷ 98 ∷ []) (97 ∷ 98 ∷ []) 0 ∷
    row (99 ∷ 100 ∷ []) (97 ∷ 98 ∷ 99 ∷ []) 1 ∷
    row (100 ∷ 101 ∷ []) (97 ∷ 98 ∷ 99 ∷ 100 ∷ 101 ∷ []) 1 ∷
    row (102 ∷ 103 ∷ []) (97 ∷ 98 ∷ 99 ∷ 100 ∷ 101 ∷ []) 2 ∷
    row [] (97 ∷ 98 ∷ 99 ∷ 100 ∷ 101 ∷ []) 2 ∷
    row (102 ∷ []) (97 ∷ 98 ∷ 99 ∷ 100 ∷ 101 ∷ 102 ∷ []) 3 ∷
    row (103 ∷ []) (97 ∷ 98 ∷ 99 ∷ 100 ∷ 101 ∷ 102 ∷ []) 4 ∷
    row [] (97 ∷ 98 ∷ 99 ∷ 100 ∷ 101 ∷ 102 ∷ []) 4 ∷
    row (103 ∷ 104 ∷ []) (97 ∷ 98 ∷ 99 ∷ 100 ∷ 101 ∷ 102 ∷ []) 5 ∷ []

each_put : (fault : Failed) → found fault start rows ≡ rows
each_put fault = refl
