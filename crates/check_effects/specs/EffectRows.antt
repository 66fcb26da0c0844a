-- Programs written by hand, and what is said of their effects.
use Rattle.ada_meaning.specs.Formed.{IsFormed}
use Rattle.ada_meaning.specs.Nonblocking.{KeepsRule}
use Rattle.ada_meaning.specs.Law.{IsRaceFree}
use Rattle.ada_meaning.specs.Rows.{adds, dealt, doubled, keeps}
use Rattle.check_effects.specs.Accepted.{IsAccepted}
use Rattle.check_effects.specs.Conflicts.{IsDisjoint}

-- names, items, selections and calls of programs are formed
abbrev pub FormedRow : Type 0
FormedRow = IsFormed adds × IsFormed dealt × IsFormed doubled × IsFormed keeps

-- A : array (1 .. 3) of Integer; parallel for X of A loop X := @ * 2; end loop; has no race
abbrev pub FreeRow : Type 0
FreeRow = KeepsRule doubled × IsDisjoint doubled × IsRaceFree doubled

-- it is accepted
abbrev pub AcceptedRow : Type 0
AcceptedRow = IsAccepted doubled
