-- Plans as code holds them, and what each division into chunks keeps.
use Rattle.std.specs.Prelude.{◌≡◌, ℕ, ◌<◌, ◌≤◌, List, length, sum, All}
use Rattle.ada_base.specs.Cuts as cuts
use Rattle.run_plan.specs.declared.plan.Plan.{Plan}
use Rattle.run_plan.specs.declared.plan.Plan.TheVariants as plan

abbrev pub plan_of : Plan → cuts.Plan
plan_of plan.One = cuts.One
plan_of (plan.Even chunks) = cuts.Even chunks
plan_of (plan.Sized size) = cuts.Chunked size
plan_of (plan.Listed sizes) = cuts.Listed sizes

-- each number in a plan is at least 1
abbrev pub HasNoZero : Plan → Type 0
HasNoZero plan.One = Unit {0}
HasNoZero (plan.Even chunks) = 0 < chunks
HasNoZero (plan.Sized size) = 0 < size
HasNoZero (plan.Listed sizes) = All (λ size. 0 < size) sizes

-- so many iterations in no more than so many chunks, none of which is empty
pub record IsCut (sizes : List ℕ) (n most : ℕ) : Type 0 where
  pub whole : sum sizes ≡ n
  pub filled : All (λ size. 0 < size) sizes
  pub few : length sizes ≤ most
