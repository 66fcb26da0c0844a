-- A thread on its view and on the whole memory comes to the same, as both come to what the stored run's thread does.
use Rattle.std.proofs.Common.{◌≡◌, ℕ, ℤ, List, slice_get, Option, Some, cond, sym, ap, ap₂, ◌∙◌, subst}
use Rattle.ada_base.specs.Notes.{InOrder}
use Rattle.behaviours.specs.Joins.{Share}
use Rattle.behaviours.specs.Paths as paths
use Rattle.ada_meaning.specs.Stored as stored
use Rattle.ada_meaning.specs.Stored.{Stored, Address}
use Rattle.ada_meaning.proofs.Cells.{some_same}
use Rattle.stack_code.specs.declared.code.Code.{Code}
use Rattle.stack_code.specs.declared.code.CodeSite.{CodeSite}
use Rattle.stack_code.specs.declared.path.Asked.{Asked}
use Rattle.ada_base.specs.Cells.{Mine}
use Rattle.stack_code.specs.Machine.{Stop}
use Rattle.ada_lower.specs.Driven.{Dyn, Fixed, cut_to}
use Rattle.ada_lower.specs.Fits.{What, Access, Full, Ghost, Fit, Right, Allows, Stands as StandsFor}
use Rattle.ada_lower.specs.Teams.{AreSound}
use Rattle.ada_lower.proofs.Forks.{ThreadDoes}
use Rattle.ada_lower.proofs.ForkViews.{access_by, view_what, view_of, view_ghost, TouchesFit, Apart}
use Rattle.ada_lower.proofs.Memory.{at_same}
use Rattle.ada_lower.proofs.ForkThreads.{Ending, Endings, thread_ends_so}
use Rattle.ada_lower.proofs.ForkSights.{fit_view, allows_view}

module _ (limit : ℕ) (c : Code) (f : Fixed) (g : Ghost) (cs : CodeSite) (q : Asked) (pc : ℕ) (st : List ℤ) (d0 : Dyn) (may : paths.Leave → Type 0) {A : Type 0} (value : A → Option ℤ) (owner : ℕ → Option ℕ) (j : Share) (m : Stored A) where
  abbrev seen : Ghost
  seen = view_ghost owner j.number g

  -- on its view a thread ends as that of the stored run; so it isn't stuck
  pub view_ends_so : ThreadDoes limit c may seen f cs q value j m → (apart : Apart g owner) → (s : stored.State) (d : Dyn) → s.notes ≡ InOrder → Fit g s d → Allows g (m.touches s) → TouchesFit g owner j.number (m.touches s) → AreSound f.asked (m.visits s)
      → {lim : ℕ} {planned : ℕ → ℕ → List ℕ} {sc : _} {env : _} → Rattle.ada_lower.specs.Fits.Knows lim planned g f sc env
      → (let r = m.does s in Endings limit c f seen cs q pc st d0 may value (view_of owner j.number d) j s.turns r.state r.end)
  view_ends_so w apart s d order fit al touches sound k = thread_ends_so limit c f seen cs q pc st d0 may value j m w s (view_of owner j.number d) order (fit_view owner j.number fit) (allows_view owner j.number k apart (m.touches s) al touches, sound)

  -- where both end, they do so alike, with the same counts, and with the same numbers in its own cells
  module _ {d e : Dyn} {turns : ℕ} {t : stored.State} {how : Stop} (x : Ending limit c f g cs q pc st d0 d j turns t how) (y : Ending limit c f seen cs q pc st d0 e j turns t how) where
    pub turns_alike : x.dyn.turns ≡ y.dyn.turns
    turns_alike = x.fit.agrees.turns ∙ sym y.fit.agrees.turns

    pub looks_alike : x.dyn.left ≡ y.dyn.left
    looks_alike = x.fit.agrees.left ∙ sym y.fit.agrees.left

    pub cells_alike : (a : ℕ) (p : Address) → g.what a ≡ StandsFor Full p → owner a ≡ Some j.number → slice_get (cut_to g.top x.dyn).cells a ≡ slice_get (cut_to g.top y.dyn).cells a
    cells_alike a p is own =
        let (v, cell, z) = subst (λ w. Right w t (slice_get (cut_to g.top x.dyn).cells a)) is (x.fit.cells a) in
        let same : seen.what a ≡ StandsFor Full p = ap₂ (λ o w. view_what (access_by o j.number) w) own is ∙ ap (λ b. view_what (cond b Full Rattle.ada_lower.specs.Fits.Barred) (StandsFor Full p)) (at_same j.number) in
        let (v', cell', z') = subst (λ w. Right w t (slice_get (cut_to g.top y.dyn).cells a)) same (y.fit.cells a) in
        z ∙ ap (λ v. Some (Mine v)) (some_same v v' (sym cell ∙ cell')) ∙ sym z'
