-- How a machine's threads begin.
use Rattle.std.specs.Prelude.{ℕ, zero, suc, ◌-◌, ℤ, pos, ◌+ℤ◌, List, [], ◌∷◌, replicate, None}
use Rattle.ada_base.specs.Cuts.{Plan}
use Rattle.ada_workers.specs.Orders.{Start}
use Rattle.behaviours.specs.Joins.{Share}
use Rattle.stack_code.specs.declared.code.Code.{Code}
use Rattle.stack_code.specs.declared.code.CodeSite.{CodeSite}
use Rattle.stack_code.specs.declared.path.Asked.{Asked}
use Rattle.stack_code.specs.Machine.{State, sees}
use Rattle.machine_paths.specs.Threads.{ThreadPath}

abbrev pub span_values : ℤ → ℕ → List ℤ → List ℤ
span_values first zero rest = pos 1 ∷ pos 0 ∷ rest
span_values first (suc n) rest = first ∷ (first +ℤ pos n) ∷ rest

-- a thread's own cells
abbrev pub thread_values : (frame : ℕ) → Asked → Share → List ℤ
thread_values frame q j = (q.chunk +ℤ pos j.number) ∷ q.initial ∷ span_values (q.first +ℤ pos j.first) j.size (replicate (frame - 4) (pos 0))

-- thread j of a construct at which the path p stands, as it begins with so many turns
module _ (limit : ℕ) (c : Code) (plan : Plan) (site : CodeSite) (q : Asked) (p : State) (top from : ℕ) where
  abbrev pub thread_start : Share → Start ThreadPath
  thread_start j = record {
    path = record { limit = limit; code = c; plan = plan; entry = site.entry; base = top; outward = sees p; turns = from; calls = p.calls; nested = p.nested; how = None };
    own = thread_values site.frame q j;
  }

  abbrev pub thread_starts : List Share → List (Start ThreadPath)
  thread_starts [] = []
  thread_starts (j ∷ js) = thread_start j ∷ thread_starts js
