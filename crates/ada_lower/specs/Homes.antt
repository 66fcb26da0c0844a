-- Where the variables of a program lie in the frames of its code (3.3, 6.4), by the scopes in which they are declared. What is
-- found of a part stands behind what was found before. `d` says how many constructs' threads stand around a text in its body,
-- and `n` is the first cell of the frame that is free.
use Rattle.std.specs.Prelude.{ℕ, ◌+◌, List, [], ◌∷◌, ◌++◌, length, Bool, true, false}
use Rattle.behaviours.specs.Paths.{Entity, VariableOf, ConstantOf}
use Rattle.typed_tree.specs.Syntax.{Iteration, Range, Components, Decls, NoDecl, DeclareDefault, DeclareVariable, DeclareConstant, Mentions, Stmt, IfThen, Case, Loop, For, ParallelFor, Parallel, Block, Stmts, End, Then, Alternatives, NoAlternative, Alternative, Arms, NoArm, Arm, Handlers, NoHandler, Handler, Body, Sub, Program}
use Rattle.ada_meaning.specs.Meaning.{object_layout}
use Rattle.ada_meaning.specs.declared.slots.Variable.{Variable}
use Rattle.lower_emission.specs.Emission.{Shape, lead, shapes, shapes_cells, width}
use Rattle.ada_lower.specs.declared.types.Home.{Home}

abbrev pub with_home : (main : Bool) → (d n x cells : ℕ) → List Home → List Home
with_home main d n x cells found = found ++ record { object = x; main = main; depth = d; cell = n; cells = cells } ∷ []

-- the cells that a turn takes (5.5)
abbrev pub turn_cells : Iteration → ℕ
turn_cells (Range k reverse low high check filter) = 2
turn_cells (Components k constant at from selections count stride dimensions filter) = 3

-- formal parameters; constants have cells too (6.1)
abbrev pub formal_home : ℕ → Entity → ℕ → List Home → List Home
formal_home n (VariableOf x) cells found = with_home false 0 n x cells found
formal_home n (ConstantOf x) cells found = found

abbrev pub formal_homes : ℕ → List Shape → List Home → List Home
formal_homes n [] found = found
formal_homes n (h ∷ hs) found = formal_homes (n + lead h.back + h.cells) hs (formal_home (n + lead h.back) h.formal h.cells found)

module _ (program : Program) where
  -- the first cell that is free behind declarations
  abbrev pub behind : ℕ → Decls → ℕ
  behind n NoDecl = n
  behind n (DeclareDefault x more) = behind (n + length (object_layout program x)) more
  behind n (DeclareVariable x initial more) = behind (n + width program initial) more
  behind n (DeclareConstant x initial more) = behind (n + width program initial) more
  behind n (Mentions es more) = behind n more

  abbrev pub decl_homes : (main : Bool) → (d n : ℕ) → Decls → List Home → List Home
  decl_homes main d n NoDecl found = found
  decl_homes main d n (DeclareDefault x more) found = decl_homes main d (n + length (object_layout program x)) more (with_home main d n x (length (object_layout program x)) found)
  decl_homes main d n (DeclareVariable x initial more) found = decl_homes main d (n + width program initial) more (with_home main d n x (width program initial) found)
  decl_homes main d n (DeclareConstant x initial more) found = decl_homes main d (n + width program initial) more found
  decl_homes main d n (Mentions es more) found = decl_homes main d n more found

  unfoldable mutual
    pub stmt_homes : (d n : ℕ) → Stmt → List Home → List Home
    stmt_homes d n (IfThen condition stmts otherwise) found = stmts_homes d n otherwise (stmts_homes d n stmts found)
    stmt_homes d n (Case e alternatives) found = case_homes d (n + 1) alternatives found
    stmt_homes d n (Loop number condition stmts) found = stmts_homes d n stmts found
    stmt_homes d n (For number iteration stmts) found = stmts_homes d (n + turn_cells iteration) stmts found
    stmt_homes d n (ParallelFor number site chunk iteration stmts) found = stmts_homes (d + 1) (2 + turn_cells iteration) stmts found
    stmt_homes d n (Parallel site count arms) found = arm_homes (d + 1) 4 arms found
    stmt_homes d n (Block decls stmts handlers) found = handler_homes d (behind n decls + 1) handlers (stmts_homes d (behind n decls) stmts (decl_homes false d n decls found))
    stmt_homes d n _ found = found

    pub stmts_homes : (d n : ℕ) → Stmts → List Home → List Home
    stmts_homes d n End found = found
    stmts_homes d n (Then first more) found = stmts_homes d n more (stmt_homes d n first found)

    pub case_homes : (d n : ℕ) → Alternatives → List Home → List Home
    case_homes d n NoAlternative found = found
    case_homes d n (Alternative others choices mentions stmts rest) found = case_homes d n rest (stmts_homes d n stmts found)

    pub arm_homes : (d n : ℕ) → Arms → List Home → List Home
    arm_homes d n NoArm found = found
    arm_homes d n (Arm stmts rest) found = arm_homes d n rest (stmts_homes d n stmts found)

    pub handler_homes : (d n : ℕ) → Handlers → List Home → List Home
    handler_homes d n NoHandler found = found
    handler_homes d n (Handler handled stmts rest) found = handler_homes d n rest (stmts_homes d n stmts found)

  abbrev pub block_homes : (d n : ℕ) → Decls → Stmts → Handlers → List Home → List Home
  block_homes d n decls stmts handlers found = handler_homes d (behind n decls + 1) handlers (stmts_homes d (behind n decls) stmts (decl_homes false d n decls found))

  abbrev pub body_homes : (d n : ℕ) → Body → List Home → List Home
  body_homes d n b found = block_homes d n b.decls b.stmts b.handlers found

  -- a subprogram, whose formals have the first cells of its frame
  abbrev pub sub_homes : Sub → List Home → List Home
  sub_homes unit found = body_homes 0 (shapes_cells (shapes program unit.formals)) unit.body (formal_homes 0 (shapes program unit.formals) found)

  abbrev pub subs_homes : List Sub → List Home → List Home
  subs_homes [] found = found
  subs_homes (unit ∷ more) found = subs_homes more (sub_homes unit found)

  -- the main procedure's own declarations are in the main frame
  abbrev pub main_homes : List Home → List Home
  main_homes found = block_homes 0 (behind 0 program.body.decls) NoDecl program.body.stmts program.body.handlers (decl_homes true 0 0 program.body.decls found)

  -- all of them
  abbrev pub homes_of : List Home
  homes_of = subs_homes program.subs (main_homes [])

  -- the variables that the main procedure declares, in order, with the first of each one's cells in the main frame
  abbrev pub main_variables : ℕ → Decls → List Variable
  main_variables n NoDecl = []
  main_variables n (DeclareDefault x more) = record { object = x; address = n; cells = length (object_layout program x) } ∷ main_variables (n + length (object_layout program x)) more
  main_variables n (DeclareVariable x initial more) = record { object = x; address = n; cells = width program initial } ∷ main_variables (n + width program initial) more
  main_variables n (DeclareConstant x initial more) = main_variables (n + width program initial) more
  main_variables n (Mentions es more) = main_variables n more
