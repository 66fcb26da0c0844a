-- The numbers of the objects that a typed program declares, in the order of the text: of variables and constants, where they
-- are declared (3.3.1), and of formal parameters (6.1). The main procedure's declarations stand before the subprograms among
-- them. Parameters of loops and items have numbers of their own.
use Rattle.typed_tree.specs.declared.program.Formal.{Formal}
use Rattle.typed_tree.specs.Syntax.{Alternative, Alternatives, Arm, Arms, Block, Case, DeclareConstant, DeclareDefault, DeclareVariable, Decls, End, For, Handler, Handlers, IfThen, Loop, Mentions, NoAlternative, NoArm, NoDecl, NoHandler, Parallel, ParallelFor, Program, Stmt, Stmts, Sub, Then}
use Rattle.std.specs.Prelude.{List, [], if◌then◌else◌, ℕ, ◌++◌, ◌+◌, ◌==◌, ◌∷◌, ◌≤◌}

abbrev pub decl_objects : Decls → List ℕ
decl_objects NoDecl = []
decl_objects (DeclareDefault x more) = x ∷ decl_objects more
decl_objects (DeclareVariable x initial more) = x ∷ decl_objects more
decl_objects (DeclareConstant x initial more) = x ∷ decl_objects more
decl_objects (Mentions es more) = decl_objects more

abbrev mutual
  pub stmt_objects : Stmt → List ℕ
  stmt_objects (IfThen condition stmts otherwise) = stmts_objects stmts ++ stmts_objects otherwise
  stmt_objects (Case e alternatives) = case_objects alternatives
  stmt_objects (Loop number condition stmts) = stmts_objects stmts
  stmt_objects (For number iteration stmts) = stmts_objects stmts
  stmt_objects (ParallelFor number site chunk iteration stmts) = stmts_objects stmts
  stmt_objects (Parallel site count arms) = arm_objects arms
  stmt_objects (Block decls stmts handlers) = decl_objects decls ++ (stmts_objects stmts ++ handler_objects handlers)
  stmt_objects _ = []

  pub stmts_objects : Stmts → List ℕ
  stmts_objects End = []
  stmts_objects (Then first more) = stmt_objects first ++ stmts_objects more

  pub case_objects : Alternatives → List ℕ
  case_objects NoAlternative = []
  case_objects (Alternative others choices mentions stmts rest) = stmts_objects stmts ++ case_objects rest

  pub arm_objects : Arms → List ℕ
  arm_objects NoArm = []
  arm_objects (Arm stmts rest) = stmts_objects stmts ++ arm_objects rest

  pub handler_objects : Handlers → List ℕ
  handler_objects NoHandler = []
  handler_objects (Handler handled stmts rest) = stmts_objects stmts ++ handler_objects rest

abbrev pub block_objects : Decls → Stmts → Handlers → List ℕ
block_objects decls stmts handlers = decl_objects decls ++ (stmts_objects stmts ++ handler_objects handlers)

abbrev pub formal_objects : List Formal → List ℕ
formal_objects [] = []
formal_objects (f ∷ fs) = f.object ∷ formal_objects fs

abbrev pub sub_objects : Sub → List ℕ
sub_objects unit = formal_objects unit.formals ++ block_objects unit.body.decls unit.body.stmts unit.body.handlers

abbrev pub subs_objects : List Sub → List ℕ
subs_objects [] = []
subs_objects (unit ∷ more) = sub_objects unit ++ subs_objects more

-- all of them
abbrev pub objects_of : Program → List ℕ
objects_of p = decl_objects p.body.decls ++ (subs_objects p.subs ++ (stmts_objects p.body.stmts ++ handler_objects p.body.handlers))

-- how often a number stands in a list
abbrev pub times : ℕ → List ℕ → ℕ
times x [] = 0
times x (y ∷ ys) = (if y == x then 1 else 0) + times x ys

-- no two declarations of a program are of one object
abbrev pub ObjectsAreDistinct : Program → Type 0
ObjectsAreDistinct p = (x : ℕ) → times x (objects_of p) ≤ 1
