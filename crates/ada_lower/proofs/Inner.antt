-- What is done within the parts of a program: calls, and parallel reductions.
use Rattle.std.proofs.Common.{◌≡◌, ℕ, ℤ, List, ◌∷◌, Option, Bool}
use Rattle.behaviours.specs.Paths.{Entity}
use Rattle.typed_tree.specs.Syntax.{Expr, Program}
use Rattle.ada_meaning.specs.Stored as stored
use Rattle.ada_meaning.specs.Stored.{Stored}
use Rattle.ada_meaning.specs.Meaning
use Rattle.ada_meaning.specs.Meaning.{Env, Passed, Returned}
use Rattle.stack_code.specs.declared.code.Code.{Code}
use Rattle.stack_code.specs.declared.path.Round.{Round}
use Rattle.ada_lower.specs.Driven.{Fixed, on}
use Rattle.ada_lower.specs.Sights.{Named, Sight, Stands}
use Rattle.ada_lower.specs.Emission.{emit}
use Rattle.ada_lower.specs.Fits.{Ghost, Ends, Knows}
use Rattle.ada_lower.proofs.Framework.{any}
use Rattle.ada_lower.proofs.Parts.{Runs}
use Rattle.ada_lower.proofs.Calls.{CallsDo}
use Rattle.ada_lower.proofs.Rounds.{with_rounds}

-- the code of expressions of which that is asked does what they do, wherever it stands
abbrev pub ExprsDo : (limit : ℕ) (cuts : ℕ → ℕ → List ℕ) (program : Program) (c : Code) (f : Fixed) (calls : ℕ → ℕ → Stored (Unit {0}) → List Passed → Stored Returned) → (Sight → Expr → Type 0) → Type 0
ExprsDo limit cuts program c f calls epar = (e : Expr) (from to : ℕ) (g : Ghost) (env : Env) (x : Ends) (s : Sight) (h : ℕ) (st : List ℤ) → Knows limit cuts g f s env → s.scope.entry ≡ x.entry → epar s e → Stands c (emit program s.scope h e) from to
    → Runs limit c f x g any (Meaning.eval (stored.noted_operations limit cuts) limit program calls e env) (λ d. on f from st d) (λ v d. on f to (v ∷ st) d)

-- in whatever parts that are repeated
pub record InnerDo (limit : ℕ) (cuts : ℕ → ℕ → List ℕ) (program : Program) (globals : ℕ → Entity → Option Named) (mains : Entity → Bool) (epar : Sight → Expr → Type 0) (c : Code) (f : Fixed) (calls : ℕ → ℕ → Stored (Unit {0}) → List Passed → Stored Returned) : Type 0 where
  pub called : (rs : List Round) → CallsDo limit cuts program globals mains c (with_rounds rs f) calls
  pub forked : (rs : List Round) → ExprsDo limit cuts program c (with_rounds rs f) calls epar

-- the same where other parts are repeated
pub inner_rounds : {limit : ℕ} {cuts : ℕ → ℕ → List ℕ} {program : Program} {globals : ℕ → Entity → Option Named} {mains : Entity → Bool} {epar : Sight → Expr → Type 0} {c : Code} {f : Fixed} {calls : ℕ → ℕ → Stored (Unit {0}) → List Passed → Stored Returned} (rs : List Round)
    → InnerDo limit cuts program globals mains epar c f calls → InnerDo limit cuts program globals mains epar c (with_rounds rs f) calls
inner_rounds rs calls_do = record { called = calls_do.called; forked = calls_do.forked }
