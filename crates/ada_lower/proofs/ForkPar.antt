-- The threads of a construct, in order or by the next note.
use Rattle.std.proofs.Common.{◌≡◌, ℕ, ℤ, List, [], ◌∷◌, Option, Some, None, Result, Ok, Err, true, false, refl, sym, ap, ◌∙◌, subst, le_refl}
use Rattle.behaviours.specs.Joins.{Site, Share}
use Rattle.behaviours.specs.Paths as paths
use Rattle.ada_meaning.specs.Stored as stored
use Rattle.ada_base.specs.Notes.{ThreadNote, ConstructNote, Schedule, InOrder, ByNotes}
use Rattle.ada_meaning.specs.Stored.{Stored, Cause, OutOfTurns, NoRoom, CutOff, Misnoted, Team, Visit, ThreadOf, TeamOf, teams}
use Rattle.typed_tree.specs.Syntax.{Program}
use Rattle.ada_lower.specs.Teams.{AreSound}
use Rattle.stack_code.specs.declared.code.Code.{Code}
use Rattle.stack_code.specs.declared.code.CodeSite.{CodeSite}
use Rattle.stack_code.specs.declared.path.Asked.{Asked}
use Rattle.stack_code.specs.Machine.{Astray}
use Rattle.ada_lower.specs.Driven
use Rattle.ada_lower.specs.Driven.{Dyn, Fixed, Path, Final, Step, Forked, goes, with_notes, gathered}
use Rattle.ada_lower.specs.Fits.{Ghost, Fit, Asks}
use Rattle.ada_lower.proofs.Forks.{ThreadDoes, Reaches}
use Rattle.ada_lower.proofs.Memory.{right_same}
use Rattle.ada_lower.proofs.ForkThreads.{start, AllDo, in_order_reaches, reaches_by}
use Rattle.ada_lower.proofs.ForkNotes.{chosen_reaches}

by_notes_not : (ns : List ConstructNote) → ByNotes ns ≡ InOrder → ⊥
by_notes_not ns e = cc

-- the notes alone
pub fit_noted : {g : Ghost} {s : stored.State} {d : Dyn} (ns : Schedule) → (g.ordered ≡ true → ns ≡ InOrder) → Fit g s d → Fit g (record s { notes = ns }) (with_notes ns d)
fit_noted {g} {s} {d} ns order w = record {
  here = w.here;
  everywhere = w.everywhere;
  declared = w.declared;
  frame = w.frame;
  top = w.top;
  least = w.least;
  most = w.most;
  agrees = record { turns = w.agrees.turns; left = w.agrees.left; taken = w.agrees.taken; held = w.agrees.held; input = w.agrees.input; output = w.agrees.output; notes = refl; done = w.agrees.done };
  plan = w.plan;
  order = order;
  cells = λ a. right_same (g.what a) s (record s { notes = ns }) _ refl refl (w.cells a);
}

module _ (limit : ℕ) (c : Code) (f : Fixed) (g : Ghost) (site : CodeSite) (q : Asked) (pc : ℕ) (st : List ℤ) (d0 : Dyn) (may : paths.Leave → Type 0) {A : Type 0} (value : A → Option ℤ)
    {B : Type 0} (shows : B → List ℤ → Type 0) (fold : B → A → B) (folds : (b : B) (vs : List ℤ) (a : A) → shows b vs → shows (fold b a) (gathered vs (value a))) (body : Share → Stored A) where
  abbrev pub machine_by : Schedule → List Share → Dyn → ℕ → Option Forked
  machine_by notes js d m = Driven.by_notes (λ x. goes limit c m x) (start limit c f g site q pc st d0) g.top notes js d

  module _ (ns : List ConstructNote) (js : List Share) (ws : AllDo limit c f g site q pc st d0 may value body js) (s : stored.State) (d : Dyn) (b : B) (next : ConstructNote) (by : s.notes ≡ ByNotes (next ∷ ns)) (fit : Fit g s d) (sh : shows b []) where
    abbrev t : stored.State
    t = record s { notes = ByNotes ns }

    unordered : g.ordered ≡ true → ByNotes ns ≡ InOrder
    unordered o = absurd (by_notes_not (next ∷ ns) (sym by ∙ fit.order o))

    abbrev e : Dyn
    e = with_notes (ByNotes ns) d

    fit_e : Fit g t e
    fit_e = fit_noted (ByNotes ns) unordered fit

    abbrev so : Option ℕ → List ThreadNote → ConstructNote
    so chosen notes = record { chosen = chosen; threads = notes }

    abbrev whole : (m : ℕ) → Option Forked
    whole m = Driven.in_order (λ x. goes limit c m x) (start limit c f g site q pc st d0) g.top s.turns js (with_notes InOrder e) s.turns false []

    unleft_reaches : (u : stored.State) (x : Result B Cause) → Reaches may shows g whole s.turns u x
        → Reaches may shows g (λ m. Driven.none_left (λ x. goes limit c m x) (start limit c f g site q pc st d0) g.top (ByNotes ns) (whole m)) s.turns (record u { notes = ByNotes ns }) (stored.fits_none x)
    unleft_reaches u (Ok b) r = record {
      forked = record { dyn = with_notes (ByNotes ns) r.forked.dyn; how = Driven.unleft (λ x. goes limit c 0 x) (start limit c f g site q pc st d0) g.top r.forked.how };
      steps = r.steps;
      is = λ m le. ap (λ o. Driven.none_left (λ x. goes limit c m x) (start limit c f g site q pc st d0) g.top (ByNotes ns) o) (r.is m le);
      told = (r.told.0, ap (λ h. Driven.unleft (λ x. goes limit c 0 x) (start limit c f g site q pc st d0) g.top h) r.told.1, r.told.2);
      fit = fit_noted (ByNotes ns) unordered r.fit;
      grows = r.grows;
    }
    unleft_reaches u (Err (stored.Left l)) r = (
      by_notes_not ns,
      record {
        forked = record { dyn = with_notes (ByNotes ns) r.forked.dyn; how = Driven.unleft (λ x. goes limit c 0 x) (start limit c f g site q pc st d0) g.top r.forked.how };
        steps = r.steps;
        is = λ m le. ap (λ o. Driven.none_left (λ x. goes limit c m x) (start limit c f g site q pc st d0) g.top (ByNotes ns) o) (r.is m le);
        told = ap (λ h. Driven.unleft (λ x. goes limit c 0 x) (start limit c f g site q pc st d0) g.top h) r.told.0;
        fit = fit_noted (ByNotes ns) unordered r.fit;
        grows = r.grows;
      },
    )
    unleft_reaches u (Err OutOfTurns) r = record {
      forked = record { dyn = with_notes (ByNotes ns) r.forked.dyn; how = Driven.unleft (λ x. goes limit c 0 x) (start limit c f g site q pc st d0) g.top r.forked.how };
      steps = r.steps;
      is = λ m le. ap (λ o. Driven.none_left (λ x. goes limit c m x) (start limit c f g site q pc st d0) g.top (ByNotes ns) o) (r.is m le);
      told = ap (λ h. Driven.unleft (λ x. goes limit c 0 x) (start limit c f g site q pc st d0) g.top h) r.told;
      fit = fit_noted (ByNotes ns) unordered r.fit;
      grows = r.grows;
    }
    unleft_reaches u (Err CutOff) r = record {
      forked = record { dyn = with_notes (ByNotes ns) r.forked.dyn; how = Driven.unleft (λ x. goes limit c 0 x) (start limit c f g site q pc st d0) g.top r.forked.how };
      steps = r.steps;
      is = λ m le. ap (λ o. Driven.none_left (λ x. goes limit c m x) (start limit c f g site q pc st d0) g.top (ByNotes ns) o) (r.is m le);
      told = ap (λ h. Driven.unleft (λ x. goes limit c 0 x) (start limit c f g site q pc st d0) g.top h) r.told;
      fit = fit_noted (ByNotes ns) unordered r.fit;
      grows = r.grows;
    }
    unleft_reaches u (Err NoRoom) r = tt
    unleft_reaches u (Err Misnoted) (un, r) = (
      by_notes_not ns,
      record {
        forked = record { dyn = with_notes (ByNotes ns) r.forked.dyn; how = Driven.unleft (λ x. goes limit c 0 x) (start limit c f g site q pc st d0) g.top r.forked.how };
        steps = r.steps;
        is = λ m le. ap (λ o. Driven.none_left (λ x. goes limit c m x) (start limit c f g site q pc st d0) g.top (ByNotes ns) o) (r.is m le);
        told = ap (λ h. Driven.unleft (λ x. goes limit c 0 x) (start limit c f g site q pc st d0) g.top h) r.told;
        fit = fit_noted (ByNotes ns) unordered r.fit;
        grows = r.grows;
      },
    )

    turns_at : (m : ℕ) (chosen : Option ℕ) (notes : List ThreadNote) → Driven.by_note (λ x. goes limit c m x) (start limit c f g site q pc st d0) g.top (so chosen notes) js e
        ≡ elim chosen as (λ _. Option Forked) [
          | None ↦ Driven.none_left (λ x. goes limit c m x) (start limit c f g site q pc st d0) g.top (ByNotes ns) (whole m)
          | Some k ↦ Driven.chosen_threads (λ x. goes limit c m x) (start limit c f g site q pc st d0) g.top s.turns k js notes e None
        ]
    turns_at m None notes = ap (λ n. Driven.none_left (λ x. goes limit c m x) (start limit c f g site q pc st d0) g.top (ByNotes ns) (Driven.in_order (λ x. goes limit c m x) (start limit c f g site q pc st d0) g.top n js (with_notes InOrder e) n false [])) fit.agrees.turns
    turns_at m (Some k) notes = ap (λ n. Driven.chosen_threads (λ x. goes limit c m x) (start limit c f g site q pc st d0) g.top n k js notes e None) fit.agrees.turns

    noted_by : (chosen : Option ℕ) (notes : List ThreadNote) → Asks f g ((stored.by_note fold b js body chosen notes).touches t) ((stored.by_note fold b js body chosen notes).visits t)
        → (let r = (stored.by_note fold b js body chosen notes).does t in Reaches may shows g (λ m. Driven.by_note (λ x. goes limit c m x) (start limit c f g site q pc st d0) g.top (so chosen notes) js e) s.turns r.state r.end)
    unfolding stored.par stored.none_chosen stored.renotes stored.bind
    noted_by None notes al =
        let inner = in_order_reaches limit c f g site q pc st d0 may value shows fold folds body s.turns fit.least fit.most js ws (record t { notes = InOrder }) (with_notes InOrder e) s.turns false b [] refl (fit_noted InOrder (λ o. refl) fit_e) (le_refl s.turns) fit.most sh al in
        reaches_by may shows g (λ m. Driven.none_left (λ x. goes limit c m x) (start limit c f g site q pc st d0) g.top (ByNotes ns) (whole m)) _ s.turns 0 _ _
        (λ m le. turns_at m None notes) (unleft_reaches _ _ inner)
    noted_by (Some k) notes al =
        reaches_by may shows g (λ m. Driven.chosen_threads (λ x. goes limit c m x) (start limit c f g site q pc st d0) g.top s.turns k js notes e None) _ s.turns 0 _ _
        (λ m le. turns_at m (Some k) notes)
        (chosen_reaches limit c f g site q pc st d0 may value shows body s.turns fit.least fit.most k js notes ws t e None tt (by_notes_not ns) fit_e (le_refl s.turns) al)

  par_by : (ns : Schedule) (js : List Share) → AllDo limit c f g site q pc st d0 may value body js → (s : stored.State) (d : Dyn) (b : B) → s.notes ≡ ns → Fit g s d → shows b [] → Asks f g ((stored.by_notes fold b js body ns).touches s) ((stored.by_notes fold b js body ns).visits s)
      → (let r = (stored.by_notes fold b js body ns).does s in Reaches may shows g (machine_by ns js d) s.turns r.state r.end)
  unfolding stored.par stored.none_chosen stored.renotes stored.bind stored.misnoted
  par_by InOrder js ws s d b is fit sh al =
      reaches_by may shows g (λ m. Driven.in_order (λ x. goes limit c m x) (start limit c f g site q pc st d0) g.top s.turns js d s.turns false []) (machine_by InOrder js d) s.turns 0 _ _
      (λ m le. ap (λ n. Driven.in_order (λ x. goes limit c m x) (start limit c f g site q pc st d0) g.top n js d n false []) fit.agrees.turns)
      (in_order_reaches limit c f g site q pc st d0 may value shows fold folds body s.turns fit.least fit.most js ws s d s.turns false b [] is fit (le_refl s.turns) fit.most sh al)
  par_by (ByNotes []) js ws s d b is fit sh al = ((λ o. by_notes_not [] (sym is ∙ o)), record { forked = record { dyn = d; how = Err Astray }; steps = 0; is = λ m le. refl; told = refl; fit = fit; grows = le_refl s.turns })
  par_by (ByNotes (n ∷ ns)) js ws s d b is fit sh al = noted_by ns js ws s d b n is fit sh n.chosen n.threads al

  pub par_reaches : (js : List Share) → AllDo limit c f g site q pc st d0 may value body js → (s : stored.State) (d : Dyn) (b : B) → Fit g s d → shows b [] → Asks f g ((stored.noted_par fold b js body).touches s) ((stored.noted_par fold b js body).visits s)
      → (let r = (stored.noted_par fold b js body).does s in Reaches may shows g (machine_by d.world.notes js d) s.turns r.state r.end)
  unfolding stored.noted_par
  par_reaches js ws s d b fit sh al =
      let r = (stored.noted_par fold b js body).does s in
      subst (λ ns. Reaches may shows g (machine_by ns js d) s.turns r.state r.end) (sym fit.agrees.notes) (par_by s.notes js ws s d b refl fit sh al)

-- the same, where threads are told of
module _ (limit : ℕ) (c : Code) (f : Fixed) (g : Ghost) (site : CodeSite) (q : Asked) (pc : ℕ) (st : List ℤ) (d0 : Dyn) (may : paths.Leave → Type 0) {A : Type 0} (value : A → Option ℤ)
    {B : Type 0} (shows : B → List ℤ → Type 0) (fold : B → A → B) (folds : (b : B) (vs : List ℤ) (a : A) → shows b vs → shows (fold b a) (gathered vs (value a))) (body : Share → Stored A) where
  unthread : (o : Option Program) (t : stored.Thread) (vs : List Visit) → AreSound o (ThreadOf t ∷ vs) → AreSound o vs
  unthread None t vs k = tt
  unthread (Some p) t vs k = k

  visited_does : (j : Share) (m : Stored A) → ThreadDoes limit c may g f site q value j m → ThreadDoes limit c may g f site q value j (stored.visited j m)
  visited_does j m w = record { ghost = w.ghost; enters = w.enters; after = w.after; ordered = w.ordered; leaves = w.leaves; allows = w.allows; does = record { by = λ s d fit al. w.does.by s d fit (al.0, unthread f.asked _ (m.visits s) al.1) }; may_leave = w.may_leave }

  all_visited : (js : List Share) → AllDo limit c f g site q pc st d0 may value body js → AllDo limit c f g site q pc st d0 may value (λ j. stored.visited j (body j)) js
  all_visited [] ws = tt
  all_visited (j ∷ js) (w, ws) = (visited_does j (body j) w, all_visited js ws)

  -- the teams within
  of_teams : (p : Program) (vs : List Visit) → AreSound (Some p) (teams vs) → AreSound (Some p) vs
  of_teams p [] k = tt
  of_teams p (ThreadOf t ∷ vs) k = of_teams p vs k
  of_teams p (TeamOf t ∷ vs) k = (k.0, of_teams p vs k.1)

  within_team : (o : Option Program) (t : Team) (vs : List Visit) → AreSound o (TeamOf t ∷ teams vs) → AreSound o vs
  within_team None t vs k = tt
  within_team (Some p) t vs k = of_teams p vs k.1

  pub team_reaches : (team : Site) (js : List Share) → AllDo limit c f g site q pc st d0 may value body js → (s : stored.State) (d : Dyn) (b : B) → Fit g s d → shows b [] → Asks f g ((stored.noted_team team fold b js body).touches s) ((stored.noted_team team fold b js body).visits s)
      → (let r = (stored.noted_team team fold b js body).does s in Reaches may shows g (machine_by limit c f g site q pc st d0 may value shows fold folds body d.world.notes js d) s.turns r.state r.end)
  unfolding stored.noted_team
  team_reaches team js ws s d b fit sh al = par_reaches limit c f g site q pc st d0 may value shows fold folds (λ j. stored.visited j (body j)) js (all_visited js ws) s d b fit sh (al.0, within_team f.asked _ ((stored.noted_par fold b js (λ j. stored.visited j (body j))).visits s) al.1)
