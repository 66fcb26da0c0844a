-- A machine's thread as a path of workers.
use Rattle.std.proofs.Common.{◌≡◌, ℕ, zero, suc, ◌+◌, ◌<◌, inl, inr, List, Option, Some, None, arith, refl, sym, ◌∙◌, subst}
use Rattle.std.specs.Prelude.{min, ◌^◌, ◌-◌}
use Rattle.ada_base.specs.Cells.{Cell}
use Rattle.ada_workers.specs.Paths.{Fine, Went}
use Rattle.ada_workers.specs.declared.path.Stop.{Stop}
use Rattle.ada_workers.specs.declared.path.Stop.TheVariants as stop
use Rattle.stack_code.specs.Machine.{Done, Left, Spent, Cut}
use Rattle.ada_lower.specs.Driven.{Final, On}
use Rattle.ada_machine.specs.States.{more}
use Rattle.machine_paths.specs.Threads.{ThreadPath, starts, outcome_of, enough, ran, runs}
use Rattle.machine_paths.proofs.Framed.{machine_frames}
use Rattle.machine_paths.proofs.Leading.{went_by}
use Rattle.ada_threads.specs.Came.{CameTo, BodyRan}
use Rattle.ada_threads.specs.Going.{final, IsFine}
use Rattle.ada_threads.specs.ThreadPaths.{TellsWay, path_after}
use Rattle.ada_threads.specs.declared.way.Ran.{Ran}
use Rattle.ada_threads.specs.declared.way.Way.{Way}
use Rattle.ada_threads.specs.declared.way.Way.TheVariants as way

pub fine_body : (p : ThreadPath) (cs : List Cell) → Fine (runs p None cs).end → IsFine p.limit p.code (On (starts p None cs))
fine_body p cs f = by_run (ran p None cs) refl f where
  by_run : (o : Option Final) → ran p None cs ≡ o → Fine (outcome_of p o).end → IsFine p.limit p.code (On (starts p None cs))
  by_run None is g = absurd g
  by_run (Some e) is g = (e, (enough p.limit p.code, is), g)

-- a count that stands below the greatest is exact
exact : (n k : ℕ) → n ≡ more 0 k → n < 2 ^ 64 - 1 → n ≡ k
exact n zero e lt = e
exact n (suc k) e lt = (let z : min (0 + suc k) (2 ^ 64 - 1) < 2 ^ 64 - 1 → min (0 + suc k) (2 ^ 64 - 1) ≡ suc k = (λ h. omega (arith, h)) in e ∙ z (subst (λ m. m < 2 ^ 64 - 1) e lt))

module _ (p : ThreadPath) (cs ds : List Cell) (fine : Fine (runs p None cs).end) where
  by_way : (w : Way) (looks turns k : ℕ) → looks ≡ more 0 k → CameTo p.limit p.code p.plan (λ l. On (starts p l cs)) w k ds turns → (s : Stop) → TellsWay w looks s → Went runs p cs s (path_after p w turns) ds
  by_way (way.Done v) looks turns k e to s is = subst (λ s. Went runs p cs s (path_after p (way.Done v) turns) ds) (sym is) (went_by p None cs (final p.plan (Done v) ds turns None) fine (to None))
  by_way (way.Left l) looks turns k e to s is = subst (λ s. Went runs p cs s (path_after p (way.Left l) turns) ds) (sym is) (went_by p None cs (final p.plan (Left l) ds turns None) fine (to None))
  by_way way.Spent looks turns k e to s is = subst (λ s. Went runs p cs s (path_after p way.Spent turns) ds) (sym is) (went_by p None cs (final p.plan Spent ds turns None) fine (to None))
  by_way way.Paused looks turns k e to s (inl is) = subst (λ s. Went runs p cs s (path_after p way.Paused turns) ds) (sym is.0)
      (subst (λ n. runs p (Some n) cs ≡ outcome_of p (Some (final p.plan Cut ds turns (Some 0)))) (sym (exact looks k e is.1)) (went_by p (Some k) cs (final p.plan Cut ds turns (Some 0)) (machine_frames.begins p k cs fine) to))
  by_way way.Paused looks turns k e to s (inr is) = subst (λ s. Went runs p cs s (path_after p way.Paused turns) ds) (sym is) tt
  by_way way.NoMemory looks turns k e to s is = subst (λ s. Went runs p cs s (path_after p way.NoMemory turns) ds) (sym is) tt

  pub went_so : (r : Ran) → BodyRan p r cs ds → (s : Stop) → TellsWay r.way r.looks s → (q : ThreadPath) → q ≡ path_after p r.way r.turns → Went runs p cs s q ds
  went_so r ran s tells q is = subst (λ q. Went runs p cs s q ds) (sym is) (by_way r.way r.looks r.turns ran.looks ran.counted ran.to s tells)

-- what it was told, it came to
pub paused_way : (w : Way) (looks n : ℕ) (s : Stop) → TellsWay w looks s → s ≡ stop.Paused n → w ≡ way.Paused
paused_way (way.Done v) looks n s is e = cc
paused_way (way.Left l) looks n s is e = cc
paused_way way.Spent looks n s is e = cc
paused_way way.Paused looks n s is e = refl
paused_way way.NoMemory looks n s is e = cc
