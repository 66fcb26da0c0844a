-- Every program that is formed and in scope fits its code.
use Rattle.std.specs.Prelude.{◌≡◌, ℕ, ◌+◌, List, Bool}
use Rattle.behaviours.specs.Paths.{Entity}
use Rattle.typed_tree.specs.Syntax.{Program}
use Rattle.typed_sites.specs.Nesting.{SitesAreNested}
use Rattle.typed_sites.specs.Sites.{SitesAreDistinct, SitesAreListed}
use Rattle.ada_meaning.specs.Formed.{IsFormed}
use Rattle.stack_code.specs.declared.code.Around.{Around}
use Rattle.stack_code.specs.declared.code.Around.TheVariants.{Sub, Site}
use Rattle.stack_code.specs.declared.code.Lease.{Lease}
use Rattle.lower_emission.specs.declared.types.Need.{Need}
use Rattle.lower_emission.specs.Programs.{at_least, behind_main, code_of, needed, placed_code, text_in}
use Rattle.ada_lower.specs.Defaults.{Filled, NoneEmpty}
use Rattle.ada_lower.specs.Ready.{IsReady}
use Rattle.typed_scopes.specs.Outs.{StaysIn}
use Rattle.ada_lower.specs.Law.{IsLowered, IsLoweredBy}
use Rattle.ada_lower.specs.Sights.{Sight}
use Rattle.stack_code.specs.declared.code.CodeSite.{CodeSite}
use Rattle.typed_scopes.specs.Scopes.{IsScoped, behind, outset}
use Rattle.lower_laws.specs.Rooms.{frames_of, seen_names}

-- what a body's instructions need of its frame; the first four cells of a thread's are given
abbrev pub least_need : Around → Need
least_need (Sub k) = at_least 0
least_need (Site n) = at_least 4

abbrev pub frame_of : Program → Around → ℕ
frame_of program b = (needed b (least_need b) (placed_code program)).cells + 1

-- what holds of each program that names have formed and put in scope, no exit of which leaves a body, none of whose arrays is
-- empty, and whose parallel constructs have numbers of their own, from the outside in
abbrev pub OfNames : (program : Program) (shown : ℕ → Entity → Bool) → Type 0 → Type 0
OfNames program shown A = IsFormed program → NoneEmpty program.subtypes → IsScoped program shown → StaysIn program → SitesAreDistinct program → SitesAreListed program → SitesAreNested program → A

-- The code of each such program fits it, with constructs that stand in one another to some depth: so the laws of code hold of
-- it.
abbrev pub LoweredLaw : Type 0
LoweredLaw = (program : Program) (shown : ℕ → Entity → Bool) (leases : ℕ → List Lease)
    → OfNames program shown ((depth : ℕ) × IsLowered program (code_of program leases) (seen_names shown (behind_main program (text_in program)).object) (behind outset program.body.decls).taken
    (code_of program leases).texts (text_in program) (frames_of (frame_of program)) (frame_of program (Sub 0)) depth)

-- Such programs are ready for their code: their calls name subprograms that are there, and their values have their cells among
-- those of what they go to (4.3, 6.4). Each object may be declared without an initial value (3.3.1).
abbrev pub ReadyLaw : Type 0
ReadyLaw = (program : Program) (shown : ℕ → Entity → Bool) → IsFormed program → NoneEmpty program.subtypes → IsScoped program shown → IsReady program × ((x : ℕ) → Filled program x)

-- a construct's row tells the body in which it stands
abbrev pub surrounded : (items : Bool) → Sight → ℕ → CodeSite → Type 0
surrounded items s site cs = cs.around ≡ s.scope.body

-- So it does with rows of constructs that tell this.
abbrev pub SurroundedLaw : Type 0
SurroundedLaw = (program : Program) (shown : ℕ → Entity → Bool) (leases : ℕ → List Lease)
    → OfNames program shown ((depth : ℕ) × IsLoweredBy surrounded program (code_of program leases) (seen_names shown (behind_main program (text_in program)).object) (behind outset program.body.decls).taken
    (code_of program leases).texts (text_in program) (frames_of (frame_of program)) (frame_of program (Sub 0)) depth)
