-- A thread begins as the machine's threads do.
use Rattle.std.proofs.Common.{◌≡◌, ℕ, zero, suc, ◌+◌, ◌-◌, ℤ, pos, List, [], ◌∷◌, ◌++◌, map, Option, Some, None, refl, sym, ◌∙◌, ap, subst}
use Rattle.std.specs.Prelude.{◌+ℤ◌, replicate}
use Rattle.ada_base.specs.Cells.{Cell, Mine}
use Rattle.ada_base.specs.Cuts.{Plan, cuts_of}
use Rattle.behaviours.specs.Joins.{Share, deal}
use Rattle.stack_code.specs.declared.code.Code.{Code}
use Rattle.stack_code.specs.declared.code.CodeSite.{CodeSite}
use Rattle.stack_code.specs.declared.path.Asked.{Asked}
use Rattle.ada_base.specs.Cells.{zeros}
use Rattle.ada_workers.specs.Paths.{Fine}
use Rattle.ada_workers.specs.Orders.{Start}
use Rattle.ada_lower.specs.Driven.{World, Path, Final, Step, On, span_cells, thread_cells, thread_at}
use Rattle.machine_paths.specs.Threads.{ThreadPath, inside, quiet, starts, outcome_of, enough}
use Rattle.machine_paths.specs.Noting.{first, AsThread, AsThreads}
use Rattle.machine_paths.specs.Silent.{silently}
use Rattle.machine_paths.proofs.Looking.{path_left, FinalBound}
use Rattle.machine_paths.proofs.NestedBounds.{path_bounded}
use Rattle.machine_paths.proofs.Worlds.{in_final, in_step, silently_in}
use Rattle.machine_paths.specs.Starting.{span_values, thread_values, thread_start, thread_starts}

zeros_own : (n : ℕ) → map Mine (replicate n (pos 0)) ≡ zeros n
zeros_own zero = refl
zeros_own (suc n) = ap (λ l. Mine (pos 0) ∷ l) (zeros_own n)

span_own : (first : ℤ) (n : ℕ) (vs : List ℤ) (us : List Cell) → map Mine vs ≡ us → map Mine (span_values first n vs) ≡ span_cells first n us
span_own first zero vs us e = ap (λ l. Mine (pos 1) ∷ Mine (pos 0) ∷ l) e
span_own first (suc n) vs us e = ap (λ l. Mine first ∷ Mine (first +ℤ pos n) ∷ l) e

pub own_cells : (frame : ℕ) (q : Asked) (j : Share) → map Mine (thread_values frame q j) ≡ thread_cells frame q j
own_cells frame q j =
    ap (λ l. Mine (q.chunk +ℤ pos j.number) ∷ Mine q.initial ∷ l) (span_own (q.first +ℤ pos j.first) j.size (replicate (frame - 4) (pos 0)) (zeros (frame - 4)) (zeros_own (frame - 4)))

-- looks without a bound stay so
left_none : (z y : Option Final) (e : Final) → FinalBound z y → z ≡ Some e → e.dyn.left ≡ None
left_none None y e h q = absurd (no q) where
  no : ◌≡◌ {A = Option Final} None (Some e) → ⊥
  no e = cc
left_none (Some f) y e h q = sym (ap (λ (f : Final). f.dyn.left) (is f e q)) ∙ h.1 where
  is : (x y : Final) → Some x ≡ Some y → x ≡ y
  is x y e = cc

module _ (limit : ℕ) (c : Code) (plan : Plan) (site : CodeSite) (q : Asked) (p : Path) (top from : ℕ) (w : World) (planned : w.plan ≡ cuts_of plan) where
  -- by what comes to all that the threads' paths come to
  module _ (run : Step → Option Final) (more : (x : Step) (e : Final) → silently limit c (enough limit c) x ≡ Some e → run x ≡ Some e) where
    module _ (j : Share) (n : Option ℕ) (cs : List Cell) where
      abbrev s : Start ThreadPath
      s = thread_start limit c plan site q p.state top from j

      abbrev x : Step
      x = On (starts s.path n (cs ++ map Mine s.own))

      abbrev z : Step
      z = first run (thread_at c top site q p) from w n cs j

      same : in_step (inside w) x ≡ z
      same = ap (λ l. in_step (inside w) (On (starts s.path n (cs ++ l)))) (own_cells site.frame q j)

      uncounted : (e : Final) → silently limit c (enough limit c) x ≡ Some e → n ≡ None → e.dyn.left ≡ None
      uncounted e is none = left_none (silently limit c (enough limit c) x) (silently limit c (enough limit c) (On (path_left (starts s.path n (cs ++ map Mine s.own)) (Some 0)))) e
          (path_bounded limit c (enough limit c) 0 (starts s.path n (cs ++ map Mine s.own)) none refl) is

      by_end : (o : Option Final) → silently limit c (enough limit c) x ≡ o → Fine (outcome_of s.path o).end →
          (e : Final) × (run z ≡ Some e) × (outcome_of s.path (silently limit c (enough limit c) x) ≡ outcome_of s.path (Some e)) × (e.dyn.world ≡ inside w) × (n ≡ None → e.dyn.left ≡ None)
      by_end None is f = absurd f
      by_end (Some e) is f = (
        in_final (inside w) e,
        subst (λ y. run y ≡ Some (in_final (inside w) e)) same (more (in_step (inside w) x) (in_final (inside w) e) (silently_in limit c (quiet plan) (inside w) refl refl planned (enough limit c) x e refl is)),
        ap (outcome_of s.path) is,
        refl,
        λ none. uncounted e is none,
      )

    as_thread : (j : Share) → AsThread run (thread_at c top site q p) from w j (thread_start limit c plan site q p.state top from j)
    as_thread j n cs fine = by_end j n cs (silently limit c (enough limit c) (x j n cs)) refl fine

    pub as_threads : (k before : ℕ) (sizes : List ℕ) → AsThreads run (thread_at c top site q p) from w k (deal k before sizes) (thread_starts limit c plan site q p.state top from (deal k before sizes))
    as_threads k before [] = tt
    as_threads k before (n ∷ ns) = (refl, as_thread (record { number = k; first = before; size = n }), as_threads (suc k) (before + n) ns)
