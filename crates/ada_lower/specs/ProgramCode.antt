-- What the code of a program has: the instructions that are listed, and its tables.
use Rattle.std.specs.Prelude.{◌≡◌, ℕ, ◌+◌, ◌≤◌, List, slice_get, Option, Some, None, Bool}
use Rattle.behaviours.specs.Paths.{Entity}
use Rattle.typed_tree.specs.Syntax.{Expr, Block, Stmt, Sub, Program}
use Rattle.ada_meaning.specs.Meaning.{sub_at}
use Rattle.stack_code.specs.declared.code.Code.{Code}
use Rattle.stack_code.specs.declared.code.CodeSub.{CodeSub}
use Rattle.lower_emission.specs.Emits.{Emit, listed}
use Rattle.lower_emission.specs.Bodies as code
use Rattle.lower_emission.specs.Tables.{instrs_from, unwinds_from}
pub use Rattle.lower_emission.specs.Programs.{behind, main_halts, main_end, sub_place, behind_main, sub_entry, whole_code}
use Rattle.ada_lower.specs.Sights.{Named, Sight}
use Rattle.ada_lower.specs.Emission.{shapes, shapes_cells}
use Rattle.ada_lower.specs.Fitted.{FittedStmt}
use Rattle.ada_lower.specs.Bodies.{AreFresh, AreBack, outer_scope, sub_scope}

-- code is the instructions and handlers of what is listed
pub record Lists (c : Code) (a : Emit) : Type 0 where
  pub instrs : c.instrs ≡ instrs_from (listed a 0) 0 (listed a 0)
  pub unwind : c.unwind ≡ unwinds_from (listed a 0) None 0 (listed a 0)

module _ (program : Program) where
  module _ (text : List ℕ → ℕ) where
    -- the names that are visible in every subprogram
    abbrev pub main_names : ℕ → Entity → Option Named
    main_names sub = (behind_main program text).object

    -- the code of a program; a subprogram begins where its code is listed, and its frame has its formals' cells
    pub record IsCodeOf (c : Code) : Type 0 where
      pub lists : Lists c (whole_code program text)
      pub subs : (k : ℕ) (unit : Sub) → sub_at program.subs k ≡ Some unit → (is : CodeSub) × (slice_get c.subs (k + 1) ≡ Some is) × (is.entry ≡ sub_entry program text k) × (shapes_cells (shapes program unit.formals) ≤ is.frame)

    -- the names that are visible in a subprogram are some of them, and with these alone its code is the same (8.3)
    pub record AreNamed (globals : ℕ → Entity → Option Named) : Type 0 where
      pub same : (k : ℕ) (unit : Sub) → sub_at program.subs k ≡ Some unit → (q : ℕ)
          → listed (code.sub_code program (code.sub_scope program (behind_main program text) k unit) unit) q ≡ listed (code.sub_code program (code.sub_scope program (record (behind_main program text) { object = globals k }) k unit) unit) q

    -- what a subprogram owes to names: its formals are new, and what it does fits
    module _ (globals : ℕ → Entity → Option Named) (mains : Entity → Bool) (texts : List (List ℕ)) (frames : ℕ → ℕ) (epar : Sight → Expr → Type 0) (par : Sight → Stmt → Type 0) (c : Code) where
      pub record SubFits (k : ℕ) (unit : Sub) (frame : ℕ) : Type 0 where
        pub fresh : (cells : ℕ) → AreFresh (shapes program unit.formals) 0 (outer_scope program globals mains texts text frames k unit cells)
        pub backs : (cells : ℕ) → AreBack (shapes program unit.formals) 0 (sub_scope program globals mains texts text frames k unit cells)
        pub fitted : (cells : ℕ) → frame ≤ cells → FittedStmt program globals mains epar par (sub_scope program globals mains texts text frames k unit cells) (Block unit.body.decls unit.body.stmts unit.body.handlers)

      abbrev pub AllFit : Type 0
      AllFit = (k : ℕ) (unit : Sub) (is : CodeSub) → sub_at program.subs k ≡ Some unit → slice_get c.subs (k + 1) ≡ Some is → SubFits k unit is.frame
