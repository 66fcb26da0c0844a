-- A machine's thread at its entry, and once it ran.
use Rattle.std.proofs.Common.{◌≡◌, ℕ, List, [], drop, slice_get, Option, Some, None, Result, Ok, Err, sym, ◌∙◌, ap, subst}
use Rattle.std.specs.Prelude.{IfOk, IsSomeAnd, slice_index}
use Rattle.ada_base.specs.Cells.{Cell}
use Rattle.stack_code.specs.declared.code.Around.{Around}
use Rattle.stack_code.specs.declared.code.Around.TheVariants.{Site}
use Rattle.stack_code.specs.declared.code.Code.{Code}
use Rattle.stack_code.specs.declared.code.CodeSite.{CodeSite}
use Rattle.stack_code.specs.declared.code.Spot.{Spot}
use Rattle.stack_code.specs.Machine.{begun}
use Rattle.stack_code.specs.Operands.{is_reduction}
use Rattle.stack_code.specs.Stands.{Stands}
use Rattle.stack_code.specs.Valid.{Has, HasStack}
use Rattle.stack_code.proofs.Standing.{has_fact, has_one}
use Rattle.ada_machine.specs.States.{state_of, IsEntry}
use Rattle.ada_machine.specs.declared.machine.Machine.{Machine}
use Rattle.machine_paths.specs.Threads.{ThreadPath, starts}
use Rattle.ada_threads.specs.Came.{OfBody, WayWell}
use Rattle.ada_threads.specs.ThreadPaths.{IsThread, path_of}
use Rattle.ada_threads.specs.declared.thread.MachineThread.TheInside.{Inside}
use Rattle.ada_threads.specs.declared.way.Way.{Way}
use Rattle.ada_threads.proofs.Bodies.{entry_stands}

is_there : {A : Type 0} (o : Option A) (P : A → Type 0) → IsSomeAnd o P → IsSomeAnd o (λ s. Unit {0})
is_there None P h = absurd h
is_there (Some x) P h = tt

-- a body with an entry is there
pub has_stack : (c : Code) (k entry : ℕ) → Has c.sites k (λ s. s.entry ≡ entry) → HasStack c (Site k) (λ most. Unit {0})
has_stack c k entry h = is_there (slice_get c.sites k) (λ (s : CodeSite). s.entry ≡ entry) h

-- it has one
pub entry_one : (c : Code) (k entry pc : ℕ) → Has c.sites k (λ s. s.entry ≡ entry) → Has c.sites k (λ s. s.entry ≡ pc) → pc ≡ entry
entry_one c k entry pc h g =
    let s = has_one (slice_get c.sites k) (λ (s : CodeSite). s.entry ≡ entry) h in
    sym (has_fact (slice_get c.sites k) (λ (s : CodeSite). s.entry ≡ pc) s.0 g s.1) ∙ s.2

module _ (t : Inside) (is : IsThread t) (p : ThreadPath) (e : path_of t ≡ p) (frames : List ℕ) (f : frames ≡ t.frames.items) where
  -- a machine that was begun there
  pub machine_begun : {E : Type 0} → (r : Result Machine E) → IfOk r (λ m. IsEntry t.team.code.now (Site t.site) m.pc)
      → IfOk r (λ m. (cells : List Cell) → state_of m cells ≡ begun m.pc (slice_index frames 0) (drop 1 frames) t.counts.turns t.counts.calls t.counts.nested None cells) → IfOk r (λ m. (cells : List Cell) → state_of m cells ≡ (starts p None cells).state)
  machine_begun (Err x) h g = tt
  machine_begun (Ok m) h g = λ cells.
      let pc = entry_one t.team.code.now t.site t.entry m.pc is.body h in
      g cells ∙ (λ i. begun (pc i) (slice_index (f i) 0) (drop 1 (f i)) t.counts.turns t.counts.calls t.counts.nested None cells) ∙ ap (λ (p : ThreadPath). (starts p None cells).state) e

same_spot : (s t : Spot) → ◌≡◌ {A = Option Spot} (Some s) (Some t) → s ≡ t
same_spot s t e = cc

same_site : (k n : ℕ) → ◌≡◌ {A = Around} (Site k) (Site n) → k ≡ n
same_site k n e = cc

same_way : (w v : Way) → ◌≡◌ {A = Option Way} (Some w) (Some v) → w ≡ v
same_way w v e = cc

module _ (t : Inside) (is : IsThread t) where
  -- the only construct in which it can begin
  only : (k : ℕ) → Stands t.team.code.now (Site k) (begun t.entry (slice_index t.frames.items 0) (drop 1 t.frames.items) t.counts.turns t.counts.calls t.counts.nested None []) → t.site ≡ k
  only k s =
      let c = t.team.code.now in
      let b = has_one (slice_get c.sites t.site) (λ (s : CodeSite). s.entry ≡ t.entry) is.body in
      let q = has_one (slice_get c.spots b.0.entry) _ (is.valid.sites t.site b.0 b.1).entry in
      let same : q.0 ≡ s.spot = same_spot q.0 s.spot (sym q.1 ∙ ap (λ n. slice_get c.spots n) b.2 ∙ s.at) in
      same_site t.site k (sym q.2.0 ∙ ap (λ (p : Spot). p.body) same ∙ s.chain.0)

  pub how_well : (w : Way) → t.how ≡ Some w → OfBody (path_of t) (λ b. WayWell b w)
  how_well w how k site at s = is.well w site how (subst (λ n. slice_get t.team.code.now.sites n ≡ Some site) (sym (only k s)) at)

  stands : (site : CodeSite) → slice_get t.team.code.now.sites t.site ≡ Some site → Stands t.team.code.now (Site t.site) (begun t.entry (slice_index t.frames.items 0) (drop 1 t.frames.items) t.counts.turns t.counts.calls t.counts.nested None [])
  stands site at =
      let c = t.team.code.now in
      subst (λ n. Stands c (Site t.site) (begun n (slice_index t.frames.items 0) (drop 1 t.frames.items) t.counts.turns t.counts.calls t.counts.nested None [])) (has_fact (slice_get c.sites t.site) (λ (s : CodeSite). s.entry ≡ t.entry) site is.body at)
      (entry_stands c is.valid t.site site at (slice_index t.frames.items 0) (drop 1 t.frames.items) t.counts.turns t.counts.calls t.counts.nested None [] is.sees)

  pub came_well : (w : Way) → OfBody (path_of t) (λ b. WayWell b w) → (v : Way) (site : CodeSite) → ◌≡◌ {A = Option Way} (Some w) (Some v) → slice_get t.team.code.now.sites t.site ≡ Some site → WayWell (is_reduction site.kind) v
  came_well w h v site e at = subst (WayWell (is_reduction site.kind)) (same_way w v e) (h t.site site at (stands site at))
