-- The threads of a fork, as workers are given them.
use Rattle.std.proofs.Common.{◌≡◌, ℕ, List, [], length, Some, sym, subst}
use Rattle.std.specs.Prelude.{slice_get}
use Rattle.ada_base.specs.Cells.{Cell}
use Rattle.ada_base.specs.Cuts.{Plan}
use Rattle.ada_workers.specs.Orders.{AllFine, all_out}
use Rattle.ada_workers.specs.Threads.{areas_of, begins_of}
use Rattle.ada_workers.specs.declared.threads.Thread.{Thread}
use Rattle.stack_code.specs.declared.code.Around.{Around}
use Rattle.stack_code.specs.declared.code.Code.{Code}
use Rattle.stack_code.specs.declared.code.CodeSite.{CodeSite}
use Rattle.stack_code.specs.declared.path.Asked.{Asked}
use Rattle.stack_code.specs.Machine.{sees}
use Rattle.stack_code.specs.Stands.{Forked}
use Rattle.stack_code.specs.Valid.{IsValid}
use Rattle.ada_lower.specs.Lending.{Owns}
use Rattle.ada_machine.specs.States.{state_of}
use Rattle.ada_machine.specs.declared.machine.Machine.{Machine}
use Rattle.machine_paths.specs.Constructing.{shares_of, starts_at}
use Rattle.machine_paths.specs.Threads.{ThreadPath, runs}
use Rattle.ada_threads.specs.Lent.{owner_from}
use Rattle.ada_threads.proofs.Inner.{site_here}
use Rattle.run_machine.specs.Asked.{IsFineFork}

module _ (limit : ℕ) (c : Code) (plan : Plan) (q : Asked) (m : Machine) (cells : List Cell) (many : ℕ) (long : many ≡ length cells) (low : Around) (valid : IsValid c) (here : Forked c low q.site (state_of m []))
    (ts : List (Thread ThreadPath))
    (begins : (site : CodeSite) (cells : List Cell) → slice_get c.sites q.site ≡ Some site → length cells ≡ many → begins_of ts ≡ starts_at limit c plan site q (state_of m cells)) where
  pub starts_there : (site : CodeSite) × (slice_get c.sites q.site ≡ Some site) × (begins_of ts ≡ starts_at limit c plan site q (state_of m cells))
  starts_there = let s = site_here c m low q.site valid here in (s.0, s.1, begins s.0 cells s.1 (sym long))

  pub fine_there : ((site : CodeSite) → slice_get c.sites q.site ≡ Some site → Owns site q (sees (state_of m [])) (shares_of plan site q) (owner_from 0 (areas_of ts)))
      → IsFineFork limit c plan q (state_of m cells) → AllFine runs (all_out cells (areas_of ts)) cells (begins_of ts) (areas_of ts)
  fine_there lent fine =
      let s = starts_there in
      subst (λ ss. AllFine runs (all_out cells (areas_of ts)) cells ss (areas_of ts)) (sym s.2) (fine s.0 s.1 (areas_of ts) (lent s.0 s.1))
