-- The rows of loops, parallel constructs, arrays and records, computed.
use Rattle.std.proofs.Common.{refl}
use Rattle.std.specs.Fmt.{digits}
use Rattle.ada_meaning.specs.LoopRows.{Cuts, Hundred, Arms, Squares, Multiplies, Bounded, Joined, Cases, Columns, Shifts, PlannedAdds, AllRaise, Filled}

pub cuts : Cuts
unfolding digits
cuts = (refl, refl, refl, refl, refl, refl)

pub hundred : Hundred
unfolding digits
hundred = (refl, refl, refl)

pub arms : Arms
unfolding digits
arms = refl

pub squares : Squares
unfolding digits
squares = refl

pub multiplies : Multiplies
unfolding digits
multiplies = refl

pub bounded : Bounded
unfolding digits
bounded = refl

pub joined : Joined
unfolding digits
joined = refl

pub cases : Cases
unfolding digits
cases = refl

pub columns : Columns
unfolding digits
columns = (refl, refl)

pub shifts : Shifts
unfolding digits
shifts = (refl, refl)

pub planned_adds : PlannedAdds
unfolding digits
planned_adds = refl

pub all_raise : AllRaise
unfolding digits
all_raise = refl

pub filled : Filled
unfolding digits
filled = (refl, refl, refl, refl, refl)
