-- A thread's path of the machine that goes well on a memory, and touches no more of it than its view lets it, goes well on its view.
use Rattle.std.proofs.Common.{ℕ, pos, negsuc, List, [], ◌∷◌, Option, Some, None, refl, subst}
use Rattle.ada_base.specs.Cells.{Cell}
use Rattle.ada_workers.specs.Paths.{Fine}
use Rattle.ada_workers.specs.Iterated.{AllAllowed}
use Rattle.ada_workers.specs.Threads.{Touching}
use Rattle.ada_lower.specs.Driven.{Final, On}
use Rattle.machine_paths.specs.Touched as machine
use Rattle.machine_paths.specs.Nesting.{FinalAlike}
use Rattle.machine_paths.specs.Touching.{silent_touches, FinalWell}
use Rattle.machine_paths.proofs.Nested.{path_on_memory}
use Rattle.machine_paths.proofs.NestedBack.{path_on_view}
use Rattle.machine_paths.specs.Threads.{ThreadPath, starts, outcome_of, enough, ran, runs, by_number, touched}
use Rattle.machine_paths.proofs.Framed.{not_stuck}

allowed_from : (b : ℕ) (vs : List Cell) (ts : List machine.Touch) → AllAllowed b vs (by_number ts) → machine.AllAllowed b vs ts
allowed_from b vs [] a = tt
allowed_from b vs (machine.Reads (pos n) ∷ ts) a = (a.0, allowed_from b vs ts a.1)
allowed_from b vs (machine.Reads (negsuc n) ∷ ts) a = (tt, allowed_from b vs ts a)
allowed_from b vs (machine.Sets (pos n) ∷ ts) a = (a.0, allowed_from b vs ts a.1)
allowed_from b vs (machine.Sets (negsuc n) ∷ ts) a = (tt, allowed_from b vs ts a)

well_of : (p : ThreadPath) (z : Option Final) → Fine (outcome_of p z).end → FinalWell z
well_of p None f = tt
well_of p (Some e) f = not_stuck e.how f

-- what the view's run comes to, the memory's does
fine_back : (p : ThreadPath) (b : ℕ) (vs ms : List Cell) (z y : Option Final) → FinalAlike b vs ms z y → FinalWell z → Fine (outcome_of p y).end → Fine (outcome_of p z).end
fine_back p b vs ms None y h w f = subst (λ x. Fine (outcome_of p x).end) h f
fine_back p b vs ms (Some e) y h w f = subst (λ x. Fine (outcome_of p x).end) (h w).1 f

pub machine_touching : Touching runs touched
machine_touching b p vs ms le c o f a =
    let x = ran p None vs in
    let y = ran p None ms in
    fine_back p b vs ms x y (path_on_memory p.limit p.code (enough p.limit p.code) b (starts p None vs) ms le c tt refl)
    (path_on_view p.limit p.code (enough p.limit p.code) b (starts p None vs) ms le c tt refl o
    (allowed_from b vs (silent_touches p.limit p.code (enough p.limit p.code) (On (starts p None ms))) a) (well_of p y f)) f
