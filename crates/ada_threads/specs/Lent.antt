-- Each thread of an outermost construct goes well on the view that workers give it.
use Rattle.std.specs.Prelude.{◌≡◌, ℕ, suc, ◌<◌, ◌≤◌, Bool, true, cond, List, [], ◌∷◌, length, get_or, slice_get, Option, Some, None}
use Rattle.ada_base.specs.Cells.{Gone}
use Rattle.ada_base.specs.Cuts.{Plan, cuts_of}
use Rattle.ada_workers.specs.Orders.{AllFine, all_out}
use Rattle.behaviours.specs.Joins.{Share}
use Rattle.cell_memory.specs.Sight.{is_mine}
use Rattle.cell_strip.specs.declared.region.Region.{Region}
use Rattle.cell_strip.specs.Regions.{covered}
use Rattle.stack_code.specs.declared.code.Around.{Around}
use Rattle.stack_code.specs.declared.code.Code.{Code}
use Rattle.stack_code.specs.declared.code.CodeSite.{CodeSite}
use Rattle.stack_code.specs.declared.path.Asked.{Asked}
use Rattle.stack_code.specs.Stands.{IsForward, Forked}
use Rattle.stack_code.specs.Valid.{IsValid}
use Rattle.ada_lower.specs.Driven.{Path, RunsWell}
use Rattle.ada_lower.specs.Lending.{Among}
use Rattle.machine_paths.specs.Constructing.{shares_of, starts_at}
use Rattle.machine_paths.specs.Hushed.{IsHushed, BeginsLater}
use Rattle.machine_paths.specs.Threads.{runs}

-- of threads from number k on with these regions, the first that has the cell
abbrev pub owner_from : ℕ → List (List Region) → ℕ → Option ℕ
owner_from k [] x = None
owner_from k (rs ∷ rss) x = cond (covered rs x) (Some k) (owner_from (suc k) rss x)

-- where each thread of hushed code goes well on the view of its owner, workers' threads touch no more than they are lent
abbrev pub FineLaw : Type 0
FineLaw = (limit : ℕ) (c : Code) (told : ℕ → Bool) → IsValid c → IsForward c → BeginsLater c → IsHushed c told
    → (plan : Plan) (site : CodeSite) (q : Asked) (low : Around) (p : Path) → slice_get c.sites q.site ≡ Some site → Forked c low q.site p.state → p.state.turns ≤ limit → p.world.plan ≡ cuts_of plan
    → ((x : ℕ) → x < length p.state.cells → is_mine (get_or p.state.cells x Gone) ≡ true)
    → (areas : List (List Region)) → ((j : Share) → Among j (shares_of plan site q) → RunsWell limit c site q p (owner_from 0 areas) j)
    → AllFine runs (all_out p.state.cells areas) p.state.cells (starts_at limit c plan site q p.state) areas
