-- The leases that are computed of the paths that are granted are those of what threads may write.
use Rattle.std.specs.Prelude.{ℕ, List, Option, Bool}
use Rattle.behaviours.specs.Paths.{Entity}
use Rattle.typed_tree.specs.Syntax.{Program}
use Rattle.typed_sites.specs.Sites.{SitesAreDistinct}
use Rattle.typed_scopes.specs.Scopes.{IsScoped, behind, outset}
use Rattle.check_effects.specs.Conflicts.{EffectPath}
use Rattle.check_clashes.specs.declared.granted.Grants.{Grants}
use Rattle.check_conflicts.specs.Answer.{AreGrants}
use Rattle.stack_code.specs.declared.code.Code.{Code}
use Rattle.lower_emission.specs.declared.types.Named.{Named}
use Rattle.lower_emission.specs.Programs.{behind_main, code_of}
use Rattle.ada_lower.specs.Leases.{leases_of}
use Rattle.ada_lower.specs.Places.{leases_at, names_of, ranges_of}
use Rattle.ada_lower.specs.FittedForks.{unleased}
use Rattle.ada_lower.specs.HasTables.{LeasesFit}
use Rattle.ada_lower.specs.Law.{IsLoweredBy}
use Rattle.ada_lower.specs.Leased.{leased}
use Rattle.lower_laws.specs.CodeLaw.{OfNames}
use Rattle.lower_laws.specs.Rooms.{seen_names}
use Rattle.ada_lower.specs.HomesLaw.{FormalsAreLocal, HomesAreDistinct}
use Rattle.lower_laws.specs.Granted.{AreGranted, granted_by, seen, told}

-- What the rules on conflicts answer of a program are the paths of its sites.
abbrev pub GrantedLaw : Type 0
GrantedLaw = (program : Program) (grants : Grants) → AreGrants program grants → AreGranted program (granted_by grants)

-- Of each program whose names are in scope and whose constructs have numbers of their own: where the code fits it, with what its
-- threads may write in scope, where the names say, the leases of the granted paths are those of what the threads of each
-- construct may write, by the position of an item where it goes through an array.
abbrev pub LentLaw : Type 0
LentLaw = (program : Program) (shown : ℕ → Entity → Bool) (names : ℕ → Entity → Option Named) (ranges : ℕ → Bool) (granted : ℕ → List (ℕ × EffectPath)) (text : List ℕ → ℕ) (frames : ℕ → ℕ) (frame depth : ℕ)
    → SitesAreDistinct program → IsScoped program shown → AreGranted program granted
    → let c = code_of program (leases_of program names ranges granted) in
    let globals = seen_names shown (behind_main program text).object in
    let mains = (behind outset program.body.decls).taken in
    IsLoweredBy (told program names ranges) program c globals mains c.texts text frames frame depth → IsLoweredBy (leased program) program c globals mains c.texts text frames frame depth

-- The names and ranges that are listed of a program's variables and constructs tell where these are in its code: what is in
-- scope where a construct stands lies where they say.
abbrev pub NamesLaw : Type 0
NamesLaw = (program : Program) (shown : ℕ → Entity → Bool) (c : Code) (text : List ℕ → ℕ) (frames : ℕ → ℕ) (frame depth : ℕ)
    → HomesAreDistinct program → SitesAreDistinct program → IsScoped program shown
    → let globals = seen_names shown (behind_main program text).object in
    let mains = (behind outset program.body.decls).taken in
    IsLoweredBy (seen program) program c globals mains c.texts text frames frame depth → IsLoweredBy (told program (names_of program) (ranges_of program)) program c globals mains c.texts text frames frame depth

-- So in the code with the leases of all granted paths, these are those of what the threads of each construct may write, where
-- that is in scope.
abbrev pub LeasedLaw : Type 0
LeasedLaw = (program : Program) (shown : ℕ → Entity → Bool) (granted : ℕ → List (ℕ × EffectPath)) (text : List ℕ → ℕ) (frames : ℕ → ℕ) (frame depth : ℕ)
    → HomesAreDistinct program → SitesAreDistinct program → IsScoped program shown → AreGranted program granted
    → let c = code_of program (leases_at program granted) in
    let globals = seen_names shown (behind_main program text).object in
    let mains = (behind outset program.body.decls).taken in
    IsLoweredBy (seen program) program c globals mains c.texts text frames frame depth → IsLoweredBy (leased program) program c globals mains c.texts text frames frame depth

-- What the threads of each construct may write, themselves or by calls, is in scope where it stands: so it is in code that fits a
-- program whose names are in scope, and no formal parameter of which has the number of one of the main procedure's objects.
abbrev pub SeenLaw : Type 0
SeenLaw = (program : Program) (shown : ℕ → Entity → Bool) (c : Code) (text : List ℕ → ℕ) (frames : ℕ → ℕ) (frame depth : ℕ)
    → FormalsAreLocal program → SitesAreDistinct program → IsScoped program shown
    → let globals = seen_names shown (behind_main program text).object in
    let mains = (behind outset program.body.decls).taken in
    IsLoweredBy unleased program c globals mains c.texts text frames frame depth → IsLoweredBy (seen program) program c globals mains c.texts text frames frame depth

-- The leases of each construct are of frames that its fork sees.
abbrev pub FitLaw : Type 0
FitLaw = (program : Program) (shown : ℕ → Entity → Bool) (granted : ℕ → List (ℕ × EffectPath))
    → OfNames program shown (LeasesFit program (leases_at program granted))
