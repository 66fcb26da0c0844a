-- The threads of a construct, as they are dealt.
use Rattle.std.specs.Prelude.{◌≡◌, ◌↔◌, ℕ, ◌+◌, ◌<◌, ◌^◌, true, List, [], ◌∷◌, Some, slice_get}
use Rattle.ada_base.specs.Cuts.{Plan}
use Rattle.behaviours.specs.Joins.{Share}
use Rattle.cell_strip.specs.Regions.{covered}
use Rattle.stack_code.specs.declared.code.Code.{Code}
use Rattle.stack_code.specs.declared.code.CodeSite.{CodeSite}
use Rattle.stack_code.specs.declared.path.Asked.{Asked}
use Rattle.stack_code.specs.Machine.{State, sees}
use Rattle.ada_lower.specs.Lending.{IsLent}
use Rattle.ada_workers.specs.Threads.{begin_of}
use Rattle.ada_workers.specs.declared.threads.Thread.{Thread}
use Rattle.machine_paths.specs.Starting.{thread_start}
use Rattle.machine_paths.specs.Threads.{ThreadPath}
use Rattle.ada_threads.specs.declared.regions.Lender.{Lender}

-- the lender is of the construct that was asked for, and sees what the path sees
pub record LendsAt (c : Code) (s : State) (l : Lender) : Type 0 where
  pub site : slice_get c.sites l.asked.site ≡ Some l.site.now
  pub sees : l.sees.now ≡ sees s

module _ (limit : ℕ) (c : Code) (plan : Plan) (site : CodeSite) (q : Asked) (s : State) (many : ℕ) where
  -- a thread with its share: it begins as the machine's thread does, with the cells that it is lent
  pub record IsDealt (j : Share) (t : Thread ThreadPath) : Type 0 where
    pub begin : begin_of t ≡ thread_start limit c plan site q s many s.turns j
    pub fits : t.frame.more + 4 < 2 ^ 32
    pub lent : (x : ℕ) → (covered t.regions.items x ≡ true) ↔ IsLent site q (sees s) j x
    pub inside : (x : ℕ) → covered t.regions.items x ≡ true → x < many

  abbrev pub AllDealt : List Share → List (Thread ThreadPath) → Type 0
  AllDealt [] [] = Unit {0}
  AllDealt [] (t ∷ ts) = ⊥
  AllDealt (j ∷ js) [] = ⊥
  AllDealt (j ∷ js) (t ∷ ts) = IsDealt j t × AllDealt js ts
