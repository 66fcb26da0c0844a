-- Which cells a path reads and writes that runs the constructs in it in order.
use Rattle.std.specs.Prelude.{ℕ, zero, suc, List, [], ◌∷◌, ◌++◌, length, Option, Some, None, slice_get}
use Rattle.behaviours.specs.Joins.{Share, deal}
use Rattle.ada_base.specs.Notes.{Schedule, InOrder, ByNotes}
use Rattle.stack_code.specs.declared.code.Code.{Code}
use Rattle.stack_code.specs.declared.code.CodeSite.{CodeSite}
use Rattle.stack_code.specs.declared.path.Asked.{Asked}
use Rattle.stack_code.specs.Machine.{Stop, Done, Left, Spent, Cut, Asks, Constructs, Stuck, Astray, Went, Stops, step}
use Rattle.ada_lower.specs.Driven.{World, Dyn, Path, Final, Step, On, Off, Forks, Forked, cut_to, raw_of, sizes_for, with_turns, thread_at, fork, fork_ended, driven}
use Rattle.machine_paths.specs.Silent.{silently}
use Rattle.machine_paths.specs.Alike.{NotStuck}
use Rattle.machine_paths.specs.Nesting.{HowNotStuck}
use Rattle.machine_paths.specs.Touched.{Touch, step_touches, Own}

module _ (run : Step → Option Final) (touches : Step → List Touch) where
  abbrev pub stop_touches : (Dyn → List Touch) → Stop → Dyn → List Touch
  stop_touches k (Done v) d = k d
  stop_touches k Spent d = k d
  stop_touches k (Left l) d = []
  stop_touches k Cut d = []
  stop_touches k (Asks q) d = []
  stop_touches k (Constructs q) d = []
  stop_touches k Stuck d = []
  stop_touches k Astray d = []

  abbrev pub next_touches : (top : ℕ) → (Dyn → List Touch) → Option Final → List Touch
  next_touches top k None = []
  next_touches top k (Some e) = stop_touches k e.how (cut_to top e.dyn)

  abbrev pub order_touches : (start : Dyn → Share → Path) → (top from : ℕ) → List Share → Dyn → List Touch
  order_touches start top from [] d = []
  order_touches start top from (j ∷ js) d =
      let x = On (start (with_turns from d) j) in
      touches x ++ next_touches top (λ d. order_touches start top from js d) (run x)

  abbrev pub noted_touches : (start : Dyn → Share → Path) → (top : ℕ) → Schedule → List Share → Dyn → List Touch
  noted_touches start top InOrder js d = order_touches start top d.turns js d
  noted_touches start top (ByNotes ns) js d = []

  abbrev pub site_touches : Code → Option CodeSite → Asked → Path → List Touch
  site_touches c None q p = []
  site_touches c (Some site) q p =
      noted_touches (thread_at c (length p.state.cells) site q p) (length p.state.cells) p.world.notes (deal 0 0 (sizes_for p.world.plan site.kind q)) (raw_of p.state p.world)

  abbrev pub after_touches : Code → Option Forked → Path → List Touch
  after_touches c None p = []
  after_touches c (Some e) p = touches (fork_ended c e p)

module _ (limit : ℕ) (c : Code) where
  abbrev pub unasked_touches : (Step → List Touch) → Went → World → List Touch
  unasked_touches touches (Stops (Asks q) s) w = []
  unasked_touches touches x w = touches (driven limit c x w)

  abbrev pub silent_touches : ℕ → Step → List Touch
  silent_touches zero x = []
  silent_touches (suc n) (Off e) = []
  silent_touches (suc n) (On p) = step_touches limit c p.state ++ unasked_touches (λ x. silent_touches n x) (step limit c p.state) p.world
  silent_touches (suc n) (Forks q p) =
      site_touches (silently limit c n) (λ x. silent_touches n x) c (slice_get c.sites q.site) q p ++ after_touches (silently limit c n) (λ x. silent_touches n x) c (fork c (silently limit c n) q p) p

abbrev pub FinalWell : Option Final → Type 0
FinalWell None = Unit {0}
FinalWell (Some e) = NotStuck e.how

-- and what is above the first b cells is to write
abbrev pub FinalOwn : ℕ → Option Final → Type 0
FinalOwn b None = Unit {0}
FinalOwn b (Some e) = NotStuck e.how × Own b e.dyn.cells

abbrev pub ForkedWell : Option Forked → Type 0
ForkedWell None = Unit {0}
ForkedWell (Some e) = HowNotStuck e.how

abbrev pub ForkedOwn : ℕ → Option Forked → Type 0
ForkedOwn b None = Unit {0}
ForkedOwn b (Some e) = HowNotStuck e.how × Own b e.dyn.cells

abbrev pub StepOwn : ℕ → Step → Type 0
StepOwn b (On p) = Own b p.state.cells
StepOwn b (Forks q p) = Own b p.state.cells
StepOwn b (Off e) = NotStuck e.how × Own b e.dyn.cells
