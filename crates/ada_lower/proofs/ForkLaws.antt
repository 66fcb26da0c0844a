-- What parallel constructs and parallel reductions do.
use Rattle.std.proofs.Common.{ℕ, List, Option, Bool}
use Rattle.behaviours.specs.Paths.{Entity}
use Rattle.typed_tree.specs.Syntax.{Expr, Stmt, Program}
use Rattle.ada_meaning.specs.Stored.{Stored}
use Rattle.ada_meaning.specs.Meaning.{Passed, Returned}
use Rattle.stack_code.specs.declared.code.Code.{Code}
use Rattle.stack_code.specs.declared.path.Round.{Round}
use Rattle.ada_lower.specs.Driven.{Fixed}
use Rattle.ada_lower.specs.Sights.{Named, Sight}
use Rattle.ada_lower.proofs.Calls.{CallsDo}
use Rattle.ada_lower.proofs.Rounds.{with_rounds}
use Rattle.ada_lower.proofs.Inner.{ExprsDo}
use Rattle.ada_lower.proofs.Statements.{ParDoes}

pub record ForksDo (limit : ℕ) (cuts : ℕ → ℕ → List ℕ) (program : Program) (globals : ℕ → Entity → Option Named) (mains : Entity → Bool) (epar : Sight → Expr → Type 0) (par : Sight → Stmt → Type 0) (c : Code) (f : Fixed) (calls : ℕ → ℕ → Stored (Unit {0}) → List Passed → Stored Returned) (calls_do : (rs : List Round) → CallsDo limit cuts program globals mains c (with_rounds rs f) calls) : Type 0 where
  pub forked : (rs : List Round) → ExprsDo limit cuts program c (with_rounds rs f) calls epar
  pub parallel : ParDoes limit cuts program c f calls globals mains epar (record { called = calls_do; forked = forked }) par
