-- What is said of the code of whole programs.
use Rattle.std.specs.Prelude.{◌≡◌, ℕ, ◌+◌, ◌<◌, ℤ, pos, List, [], length, replicate, slice_get, Some, None, Ok, Err, Bool, true, Option}
use Rattle.ada_base.specs.Cells.{Mine}
use Rattle.ada_base.specs.Cuts.{cuts_of}
use Rattle.ada_base.specs.Notes.{Schedule, InOrder}
use Rattle.ada_meaning.specs.Programs.{Setting}
use Rattle.check_effects.specs.Accepted.{IsAccepted}
use Rattle.behaviours.specs.Paths.{Entity}
use Rattle.typed_tree.specs.Syntax.{Program}
use Rattle.ada_meaning.specs.Meaning
use Rattle.ada_meaning.specs.Stored as stored
use Rattle.ada_meaning.specs.declared.slots.Variable.{Variable}
use Rattle.stack_code.specs.declared.code.Code.{Code}
use Rattle.stack_code.specs.declared.code.Lease.{Lease}
use Rattle.stack_code.specs.declared.code.CodeSite.{CodeSite}
use Rattle.ada_lower.specs.Sights.{Sight}
use Rattle.stack_code.specs.Machine.{Done, begun}
use Rattle.stack_code.specs.Stands.{IsForward}
use Rattle.ada_lower.specs.Sights.{Named}
use Rattle.stack_code.specs.Valid.{IsCountable, IsValid}
use Rattle.lower_emission.specs.Programs.{text_in, code_of}
use Rattle.ada_lower.specs.Homes.{main_variables}
use Rattle.ada_lower.specs.Driven.{Dyn, Finally, On, Safe, on, off}
use Rattle.ada_lower.specs.Fits.{Ghost, Lands}
use Rattle.ada_lower.specs.FittedForks.{FittedForks, FittedReductions, Within, unleased}
use Rattle.ada_lower.specs.Leased.{leased}
use Rattle.ada_lower.specs.Bodies.{main_scope, MainFitted}
use Rattle.ada_lower.specs.ProgramCode.{AreNamed, IsCodeOf, AllFit}
use Rattle.typed_scopes.specs.Outs.{AllClosed}
use Rattle.ada_lower.specs.Defaults.{Filled}
use Rattle.ada_lower.specs.Ready.{IsReady}
use Rattle.typed_sites.specs.Nesting.{SitesAreNested}
use Rattle.typed_sites.specs.Sites.{SitesAreDistinct, SitesAreListed}
use Rattle.ada_lower.specs.HasTables.{HasTables, LeasesFit}
use Rattle.ada_lower.specs.Outset.{outermost, first_dyn, main_ends}

-- A program and its code: no exit leaves a body, the code is what is listed for the program, and its subprograms and its
-- main procedure fit the code: names are in scope with enough cells, frames have room, and sites are those of their
-- constructs, which stand in one another to that depth in the text. In a subprogram those of the main procedure's objects are
-- visible that were declared before it.
pub record IsLoweredBy (lent : Bool → Sight → ℕ → CodeSite → Type 0) (program : Program) (c : Code) (globals : ℕ → Entity → Option Named) (mains : Entity → Bool) (texts : List (List ℕ)) (text : List ℕ → ℕ) (frames : ℕ → ℕ) (frame depth : ℕ) : Type 0 where
  pub closed : AllClosed program
  pub same_texts : texts ≡ c.texts
  pub code : IsCodeOf program text c
  pub named : AreNamed program text globals
  pub subs : AllFit program text globals mains texts frames (FittedReductions program globals mains lent c depth) (FittedForks program globals mains lent c depth) c
  pub main : MainFitted program globals mains texts text frames (FittedReductions program globals mains lent c depth) (FittedForks program globals mains lent c depth) (main_scope program globals mains texts text frames frame)

-- where nothing is asked of leases
abbrev pub IsLowered : (program : Program) (c : Code) (globals : ℕ → Entity → Option Named) (mains : Entity → Bool) (texts : List (List ℕ)) (text : List ℕ → ℕ) (frames : ℕ → ℕ) (frame depth : ℕ) → Type 0
IsLowered program c globals mains texts text frames frame depth = IsLoweredBy unleased program c globals mains texts text frames frame depth

-- The machine on the code lands where the program's run by notes ends: where that gives a value, is left by an exception,
-- has spent its turns, is cut or doesn't fit its notes. Here and below no part of the code is repeated so often that the numbers
-- of its rounds aren't in 64 bits.
abbrev pub WholeLaw : Type 0
WholeLaw = (limit : ℕ) (cuts : ℕ → ℕ → List ℕ) → Within cuts
    → (program : Program) (c : Code) (globals : ℕ → Entity → Option Named) (mains : Entity → Bool) (texts : List (List ℕ)) (text : List ℕ → ℕ) (frames : ℕ → ℕ) (slots frame depth : ℕ) → IsLowered program c globals mains texts text frames frame depth → IsCountable c.instrs
    → (input before : List ℕ) (notes : Schedule) → let r = (Meaning.main (stored.noted_operations limit cuts) limit program).does (stored.noted_outset slots input before notes) in
    (h : Ghost) × Lands limit c (outermost None) main_ends (λ u. Unit {0}) h (on (outermost None) 0 [] (first_dyn notes cuts frame input before)) 0 (λ u d. off (Done None) d) r.state r.end

-- a variable stands in the machine's cells from its address there on, with the values that the run left
pub record IsFinal (t : stored.State) (d : Dyn) (v m : Variable) : Type 0 where
  pub object : v.object ≡ m.object
  pub cells : v.cells ≡ m.cells
  pub values : (i : ℕ) → i < v.cells → (u : ℤ) × (slice_get t.kept (v.address + i) ≡ Some u) × (slice_get d.cells (m.address + i) ≡ Some (Mine u))

-- the variables that were declared are these, in order
pub record AreFinals (ms : List Variable) (t : stored.State) (d : Dyn) : Type 0 where
  pub all : length t.declared ≡ length ms
  pub each : (k : ℕ) (v : Variable) → slice_get t.declared k ≡ Some v → (m : Variable) × (slice_get ms k ≡ Some m) × IsFinal t d v m

-- Where the run gives a value, the machine is done, with the same output, the same turns and the same variables.
abbrev pub ValueLaw : Type 0
ValueLaw = (limit : ℕ) (cuts : ℕ → ℕ → List ℕ) → Within cuts
    → (program : Program) (c : Code) (globals : ℕ → Entity → Option Named) (mains : Entity → Bool) (texts : List (List ℕ)) (text : List ℕ → ℕ) (frames : ℕ → ℕ) (slots frame depth : ℕ) → IsLowered program c globals mains texts text frames frame depth → IsCountable c.instrs
    → (input before : List ℕ) (notes : Schedule) → let r = (Meaning.main (stored.noted_operations limit cuts) limit program).does (stored.noted_outset slots input before notes) in r.end ≡ Ok tt
    → (d : Dyn) × Finally limit c (On (record { state = begun 0 0 [] 0 0 0 None (replicate frame (Mine (pos 0))); world = (first_dyn notes cuts frame input before).world })) (record { how = Done None; dyn = d })
    × (d.world.output ≡ r.state.output) × (d.turns ≡ r.state.turns)
    × AreFinals (main_variables program 0 program.body.decls) r.state d

-- On the code of an accepted program, by whatever notes, each outermost fork is fine: whoever of those threads that are lent
-- a cell by the site's leases has it, each thread goes well on its view. The leases of sites are of what the threads of their
-- constructs may write, by the position of an item where those go through an array, and the run's tables of slots have room.
abbrev pub ViewLaw : Type 0
ViewLaw = (program : Program) (set : Setting) → IsAccepted program → Within (cuts_of set.plan)
    → (c : Code) (globals : ℕ → Entity → Option Named) (mains : Entity → Bool) (texts : List (List ℕ)) (text : List ℕ → ℕ) (frames : ℕ → ℕ) (slots frame depth : ℕ) → IsLoweredBy (leased program) program c globals mains texts text frames frame depth → IsCountable c.instrs
    → (input before : List ℕ) (notes : Schedule) → (set.one ≡ true → notes ≡ InOrder) → (((stored.noted program set).does (stored.noted_outset slots input before notes)).end ≡ Err stored.NoRoom → ⊥)
    → Safe set.limit c true (on (outermost (Some program)) 0 [] (first_dyn notes (cuts_of set.plan) frame input before))

-- The code of every program is forward, so the machine on it comes to an end.
abbrev pub ForwardLaw : Type 0
ForwardLaw = (program : Program) (text : List ℕ → ℕ) (c : Code) → IsCodeOf program text c → IsForward c

-- The code of every program is valid, with tables that have what its instructions need: where its calls and values are ready
-- for it, and objects may be declared without an initial value.
abbrev pub ValidLaw : Type 0
ValidLaw = (program : Program) (text : List ℕ → ℕ) (c : Code) → IsCodeOf program text c → HasTables program text c → IsReady program → ((x : ℕ) → Filled program x) → IsValid c

-- The whole code of a program, by its definition, is its code and has those tables, where the numbers of constructs are
-- distinct, those of lines of the program's table, and greater within the threads of others, and leases are of frames that the
-- forks see.
abbrev pub TablesLaw : Type 0
TablesLaw = (program : Program) (leases : ℕ → List Lease) → SitesAreDistinct program → SitesAreListed program → SitesAreNested program → LeasesFit program leases
    → IsCodeOf program (text_in program) (code_of program leases) × HasTables program (text_in program) (code_of program leases)
