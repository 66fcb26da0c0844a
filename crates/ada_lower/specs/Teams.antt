-- What is asked of the teams of threads that a part of a run begins: what they touch lies under the effects of their texts,
-- the texts of no construct clash, and where they begin a place is of one cell of one object.
use Rattle.std.specs.Prelude.{◌≡◌, ℕ, List, Option, Some, None}
use Rattle.behaviours.specs.Paths.{Entity}
use Rattle.typed_tree.specs.Syntax.{Program}
use Rattle.ada_meaning.specs.Stored.{Address, Team, Visit}
use Rattle.ada_meaning.specs.Touched.{EachTeam}
use Rattle.check_effects.specs.Conflicts.{AllClean}
use Rattle.check_effects.specs.Touching.{LiesAt, IsTeamCovered}

abbrev pub OnePlace : Team → Type 0
OnePlace t = (x y : Entity) (m n : ℕ) (a : Address) → LiesAt t.begun x m a → LiesAt t.begun y n a → (x ≡ y) × (m ≡ n)

abbrev pub IsSound : Program → Team → Type 0
IsSound program t = AllClean program × OnePlace t × IsTeamCovered program t

-- where it is asked
abbrev pub AreSound : Option Program → List Visit → Type 0
AreSound None vs = Unit {0}
AreSound (Some program) vs = EachTeam (IsSound program) vs
