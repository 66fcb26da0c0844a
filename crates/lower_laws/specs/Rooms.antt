-- The frames of bodies have room for what their code keeps, and the code's table has the rows of its forks.
use Rattle.std.specs.Prelude.{◌≡◌, ℕ, ◌+◌, ◌≤◌, List, slice_get, Option, Some, None, Bool, cond}
use Rattle.behaviours.specs.Paths.{Entity}
use Rattle.typed_tree.specs.Syntax.{Block, NoDecl, Sub, Program}
use Rattle.ada_meaning.specs.Meaning.{sub_at}
use Rattle.stack_code.specs.declared.code.Around.TheVariants.{Sub as OfSub, Site}
use Rattle.stack_code.specs.declared.code.Code.{Code}
use Rattle.stack_code.specs.declared.code.CodeSub.{CodeSub}
use Rattle.stack_code.specs.declared.code.Around.{Around}
use Rattle.stack_code.specs.declared.code.SiteKind.{SiteKind}
use Rattle.stack_code.specs.declared.instr.Instr.TheVariants as i
use Rattle.lower_emission.specs.declared.types.Mark.{Mark}
use Rattle.lower_emission.specs.declared.types.Named.{Named}
use Rattle.lower_emission.specs.Bodies as code
use Rattle.lower_emission.specs.Programs.{behind_main}
use Rattle.lower_emission.specs.Statements.{stmt}
use Rattle.lower_emission.specs.Emits.{Emit, Nothing, One, Seq, Choose, When, Looped, Guarded, Aside, From}

-- what an instruction's scope uses of its body's frame is there
abbrev pub Fits : (Around → ℕ) → Mark → Type 0
Fits room m = m.cells ≤ room m.body

-- wherever the code stands; and the construct of each fork has its row
abbrev pub Roomy : (ℕ → SiteKind → Around → Type 0) → (Around → ℕ) → Emit → Type 0
Roomy rows room Nothing = Unit {0}
Roomy rows room (One m h (i.Fork site)) = Fits room m × rows site m.kind m.body
Roomy rows room (One m h j) = Fits room m
Roomy rows room (Seq a b) = Roomy rows room a × Roomy rows room b
Roomy rows room (Choose m h k a b) = Fits room m × Roomy rows room a × Roomy rows room b
Roomy rows room (When m h a) = Fits room m × Roomy rows room a
Roomy rows room (Looped m h at_body exit head) = Fits room m × ((q : ℕ) → Roomy rows room (exit q)) × ((q : ℕ) → Roomy rows room (head q))
Roomy rows room (Guarded m handlers body) = Fits room m × Roomy rows room handlers × ((q : ℕ) → Roomy rows room (body q))
Roomy rows room (Aside m h a) = Fits room m × Roomy rows room a
Roomy rows room (From a) = (q : ℕ) → Roomy rows room (a q)

-- ---- the frames of a program's code

-- those of threads
abbrev pub frames_of : (Around → ℕ) → ℕ → ℕ
frames_of room n = room (Site n)

-- the main procedure's objects that a subprogram sees, with their cells
abbrev pub seen_names : (shown : ℕ → Entity → Bool) → (Entity → Option Named) → ℕ → Entity → Option Named
seen_names shown names k y = cond (shown k y) (names y) None

-- the frames of a program's bodies have room for their code, and its constructs have their rows
pub record HasRoom (program : Program) (text : List ℕ → ℕ) (globals : ℕ → Entity → Option Named) (rows : ℕ → SiteKind → Around → Type 0) (room : Around → ℕ) : Type 0 where
  pub main : Roomy rows room (code.main_declared program (code.main_scope text) program.body.decls (λ t. stmt program t (Block NoDecl program.body.stmts program.body.handlers)))
  pub subs : (k : ℕ) (unit : Sub) → sub_at program.subs k ≡ Some unit → Roomy rows room (code.sub_code program (code.sub_scope program (record (behind_main program text) { object = globals k }) k unit) unit)

-- the frames of subprograms have it
pub record AreFrames (c : Code) (room : Around → ℕ) (frame : ℕ) : Type 0 where
  pub main : room (OfSub 0) ≤ frame
  pub subs : (k : ℕ) (is : CodeSub) → slice_get c.subs (k + 1) ≡ Some is → room (OfSub (k + 1)) ≤ is.frame
