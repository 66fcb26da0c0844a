-- The loops around a text that its exits name.
use Rattle.std.specs.Prelude.{◌≡◌, ℕ, Some, ◌⊎◌}
use Rattle.behaviours.specs.Paths.{Leave, Exits, Returns, Raises}
use Rattle.typed_tree.specs.Syntax.{Stmt, Exit, IfThen, Case, Loop, For, ParallelFor, Parallel, Block, Stmts, End, Then, Alternatives, NoAlternative, Alternative, Arms, NoArm, Arm, Handlers, NoHandler, Handler, Sub, Program}
use Rattle.ada_meaning.specs.Meaning.{sub_at}

-- raises, returns, and exits of such loops
abbrev pub Out : (ℕ → Type 0) → Leave → Type 0
Out may (Exits n) = may n
Out may (Returns v) = Unit {0}
Out may (Raises r) = Unit {0}

abbrev mutual
  pub OutStmt : (ℕ → Type 0) → Stmt → Type 0
  OutStmt may (Exit loop condition) = may loop
  OutStmt may (IfThen condition stmts otherwise) = OutAll may stmts × OutAll may otherwise
  OutStmt may (Case e alternatives) = OutCases may alternatives
  OutStmt may (Loop number condition stmts) = OutAll (λ n. (n ≡ number) ⊎ may n) stmts
  OutStmt may (For number iteration stmts) = OutAll (λ n. (n ≡ number) ⊎ may n) stmts
  OutStmt may (ParallelFor number site chunk iteration stmts) = OutAll (λ n. (n ≡ number) ⊎ may n) stmts
  OutStmt may (Parallel site count arms) = OutArms may arms
  OutStmt may (Block decls stmts handlers) = OutAll may stmts × OutHandlers may handlers
  OutStmt may _ = Unit {0}

  pub OutAll : (ℕ → Type 0) → Stmts → Type 0
  OutAll may End = Unit {0}
  OutAll may (Then first more) = OutStmt may first × OutAll may more

  pub OutCases : (ℕ → Type 0) → Alternatives → Type 0
  OutCases may NoAlternative = Unit {0}
  OutCases may (Alternative others choices mentions stmts rest) = OutAll may stmts × OutCases may rest

  pub OutArms : (ℕ → Type 0) → Arms → Type 0
  OutArms may NoArm = Unit {0}
  OutArms may (Arm stmts rest) = OutAll may stmts × OutArms may rest

  pub OutHandlers : (ℕ → Type 0) → Handlers → Type 0
  OutHandlers may NoHandler = Unit {0}
  OutHandlers may (Handler handled stmts rest) = OutAll may stmts × OutHandlers may rest

-- no exit leaves a body
abbrev pub AllClosed : Program → Type 0
AllClosed program = (s : ℕ) (sub : Sub) → sub_at program.subs s ≡ Some sub → OutAll (λ n. ⊥) sub.body.stmts × OutHandlers (λ n. ⊥) sub.body.handlers

-- no exit leaves a body, that of the main procedure included
abbrev pub StaysIn : Program → Type 0
StaysIn program = AllClosed program × OutAll (λ n. ⊥) program.body.stmts × OutHandlers (λ n. ⊥) program.body.handlers
