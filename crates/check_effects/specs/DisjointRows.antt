-- Programs written by hand whose effects are disjoint, and one with a single clash.
use Rattle.std.specs.Prelude.{◌≡◌, ℕ}
use Rattle.ada_meaning.specs.Rows.{dealt, keeps}
use Rattle.ada_meaning.specs.LoopRows.{columns}
use Rattle.check_effects.specs.Effects.{Construct, Holds}
use Rattle.check_effects.specs.Conflicts.{Clashes, IsDisjoint, InProgram}
use Rattle.check_effects.specs.Accepted.{IsAccepted}
use Rattle.check_effects.specs.ClashRows.{transposes, two_arms, copies, shifts, smooths}

-- P (C) with C the chunk parameter; M (I, J) with J the loop parameter; two arms that write two variables; A (I) beside
-- B (1), which is only read; a reduction with a declared function; B (I + 1) beside A (I); B (I) beside A (I - 1) and
-- A (I + 1)
abbrev pub DisjointRows : Type 0
DisjointRows = IsDisjoint dealt × IsDisjoint columns × IsDisjoint two_arms × IsDisjoint copies × IsDisjoint keeps × IsDisjoint shifts × IsDisjoint smooths

-- the first of them is accepted
abbrev pub ChunksAccepted : Type 0
ChunksAccepted = IsAccepted dealt

-- A (I, J) and A (J, I) are the one clash there
abbrev pub OneClash : Type 0
OneClash = (k : Construct) → InProgram transposes (Holds k) → (at other : ℕ) → Clashes transposes k at other → (at ≡ 52) × (other ≡ 64)
