-- A machine's thread as a path.
use Rattle.std.specs.Prelude.{◌≡◌, ℕ, ◌-◌, ◌<◌, ◌≤◌, ◌^◌, ◌⊎◌, length, drop, slice_get, slice_index, EachIndex, Option, Some, None}
use Rattle.ada_workers.specs.declared.path.Stop.{Stop as PathStop}
use Rattle.ada_workers.specs.declared.path.Stop.TheVariants as path
use Rattle.run_plan.specs.Plans.{HasNoZero, plan_of}
use Rattle.stack_code.specs.declared.code.Around.TheVariants.{Site}
use Rattle.stack_code.specs.declared.code.CodeSite.{CodeSite}
use Rattle.stack_code.specs.Operands.{is_reduction}
use Rattle.ada_threads.specs.Came.{WayWell}
use Rattle.stack_code.specs.Machine.{Stop, Done, Left, Spent, Cut, Stuck}
use Rattle.stack_code.specs.Stands.{IsForward, Sees}
use Rattle.stack_code.specs.Valid.{Has, IsValid}
use Rattle.machine_paths.specs.Threads.{ThreadPath}
use Rattle.ada_threads.specs.declared.thread.MachineThread.TheInside.{Inside}
use Rattle.ada_threads.specs.declared.way.Way.{Way}
use Rattle.ada_threads.specs.declared.way.Way.TheVariants as way

-- what it came to; for want of memory to nothing
abbrev pub stop_of : Way → Stop
stop_of (way.Done v) = Done v
stop_of (way.Left e) = Left e
stop_of way.Spent = Spent
stop_of way.Paused = Cut
stop_of way.NoMemory = Stuck

abbrev pub how_by : Option Way → Option Stop
how_by None = None
how_by (Some w) = Some (stop_of w)

abbrev pub path_of : Inside → ThreadPath
path_of t = record {
  limit = t.team.limit;
  code = t.team.code.now;
  plan = plan_of t.team.plan.now;
  entry = t.entry;
  base = slice_index t.frames.items 0;
  outward = drop 1 t.frames.items;
  turns = t.counts.turns;
  calls = t.counts.calls;
  nested = t.counts.nested;
  how = how_by t.how;
}

-- it begins a body of valid code
pub record IsThread (t : Inside) : Type 0 where
  pub valid : IsValid t.team.code.now
  pub forward : IsForward t.team.code.now
  pub planned : HasNoZero t.team.plan.now
  pub body : Has t.team.code.now.sites t.site (λ s. s.entry ≡ t.entry)
  pub own : 0 < length t.frames.items
  pub sees : Sees t.team.code.now (Site t.site) (drop 1 t.frames.items)
  pub near : EachIndex t.frames.items (λ k. slice_index t.frames.items k ≤ 2 ^ 62)
  pub within : t.counts.turns ≤ t.team.limit
  -- of a reduction it left by a raise, if it left
  pub well : (w : Way) (site : CodeSite) → t.how ≡ Some w → slice_get t.team.code.now.sites t.site ≡ Some site → WayWell (is_reduction site.kind) w

-- the path once it ran
abbrev pub path_after : ThreadPath → Way → ℕ → ThreadPath
path_after p w turns = record p { turns = turns; how = Some (stop_of w) }

-- how workers are told; a pause after more looks than are counted is want of memory
abbrev pub TellsWay : Way → (looks : ℕ) → PathStop → Type 0
TellsWay (way.Done v) looks s = s ≡ path.Ended
TellsWay (way.Left e) looks s = s ≡ path.Gone
TellsWay way.Spent looks s = s ≡ path.Spent
TellsWay way.Paused looks s = ((s ≡ path.Paused looks) × (looks < 2 ^ 64 - 1)) ⊎ (s ≡ path.NoMemory)
TellsWay way.NoMemory looks s = s ≡ path.NoMemory
