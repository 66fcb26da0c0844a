-- At an outermost fork each thread goes well on its view, as the stored run's thread does.
use Rattle.std.proofs.Common.{◌≡◌, ℕ, ℤ, List, [], ◌∷◌, nat_eq, Option, Some, None, Result, Ok, Err, inl, inr, max, Bool, true, false, cond, refl, sym, ap, ◌∙◌, subst}
use Rattle.ada_base.specs.Notes.{ThreadNote, Whole, NotBegun, CutAfter, ConstructNote, Schedule, InOrder, ByNotes}
use Rattle.behaviours.specs.Joins.{Site, Share}
use Rattle.behaviours.specs.Paths as paths
use Rattle.typed_tree.specs.Syntax.{Program}
use Rattle.ada_meaning.specs.Stored as stored
use Rattle.ada_meaning.specs.Stored.{Stored, Cause, OutOfTurns, NoRoom, CutOff, Misnoted, Thread, Team, Visit, ThreadOf, TeamOf, loose}
use Rattle.ada_meaning.specs.Touched.{IsAmong}
use Rattle.ada_meaning.proofs.Cells.{some_same}
use Rattle.stack_code.specs.declared.code.Code.{Code}
use Rattle.stack_code.specs.declared.code.CodeSite.{CodeSite}
use Rattle.stack_code.specs.declared.path.Asked.{Asked}
use Rattle.stack_code.specs.Machine.{outward_of}
use Rattle.ada_lower.specs.Driven.{Dyn, Fixed, Final, On, at, alone, Finally, WentWell, RunsWell, IsFine, thread_at, sizes_for}
use Rattle.ada_lower.specs.Lending.{Among, Owns}
use Rattle.ada_lower.specs.Teams.{AreSound, IsSound}
use Rattle.ada_lower.specs.Fits.{Ghost, Allows, Fit, Knows}
use Rattle.ada_lower.proofs.Forks.{ThreadDoes, thread_ends}
use Rattle.ada_lower.proofs.ForkViews.{view_of, view_ghost, TouchesFit, Apart}
use Rattle.ada_lower.proofs.Framework.{sound_split, allows_split}
use Rattle.ada_lower.proofs.ForkThreads.{moved, dyn_moved, fit_moved, Endings}
use Rattle.ada_lower.proofs.ForkApart.{view_ends_so}

-- ---- the thread that is chosen alone, in the stored run

module _ (limit : ℕ) (c : Code) (f : Fixed) {A : Type 0} (B : Type 0) (body : Share → Stored A) (from : ℕ) where
  unthreaded : (o : Option Program) (t : Thread) (vs : List Visit) → AreSound o (ThreadOf t ∷ vs) → AreSound o vs
  unthreaded None t vs k = tt
  unthreaded (Some p) t vs k = k

  abbrev begins : stored.State → stored.State
  begins s = moved from None InOrder s

  abbrev thread : Share → stored.State → Thread
  thread j s = record { share = j; begun = begins s; ended = ((body j).does (begins s)).state; touches = (body j).touches (begins s) }

  -- it is among the threads of the team; where it has no room the construct has none; and what it begins is begun
  abbrev Begins : Stored B → Share → stored.State → Type 0
  Begins m j s = IsAmong (thread j s) (loose (m.visits s)) × (((body j).does (begins s)).end ≡ Err NoRoom → (m.does s).end ≡ Err NoRoom) × ((o : Option Program) → AreSound o (m.visits s) → AreSound o ((body j).visits (begins s))) × ((g : Ghost) → Allows g (m.touches s) → Allows g ((body j).touches (begins s)))

  abbrev chosen_ones : ℕ → List Share → List ThreadNote → Option paths.Leave → Stored B
  chosen_ones chosen js ns how = stored.chosen_threads {B = B} (λ j. stored.visited j (body j)) from chosen js ns how

  begins_now : (j : Share) (s : stored.State) (k : Option paths.Leave → Stored B) → Begins (stored.bind (stored.noted_thread from None stored.fits_chosen (stored.visited j (body j))) k) j s
  unfolding stored.bind stored.noted_thread
  begins_now j s k =
      let r = (body j).does (begins s) in
      let t : stored.State = record r.state { turns = max s.turns r.state.turns; left = s.left; notes = s.notes } in (
        inl refl,
        (λ e. ap (λ z. (stored.next t (stored.fits_chosen z) k).end) e),
        (λ o sound. unthreaded o (thread j s) ((body j).visits (begins s)) (sound_split limit c f thread_ends o (ThreadOf (thread j s) ∷ (body j).visits (begins s)) _ sound).0),
        (λ g al. (allows_split limit c f thread_ends g ((body j).touches (begins s)) _ al).0),
      )

  begins_later : (s : stored.State) (j : Share) (m : Stored A) (k : Option paths.Leave → Stored B) → Begins (k None) j s → Begins (stored.bind (stored.by_thread_note false NotBegun from m) k) j s
  unfolding stored.bind stored.ret
  begins_later s j m k b = b

  first_begins : (chosen : ℕ) (js : List Share) (ns : List ThreadNote) (how : Option paths.Leave) (j : Share) (s : stored.State) → alone chosen js ns ≡ Some j → Begins (chosen_ones chosen js ns how) j s × Among j js
  first_begins chosen [] ns how j s e = absurd (let z : ◌≡◌ {A = Option Share} None (Some j) = e in cc)
  first_begins chosen (i ∷ js) [] how j s e = absurd (let z : ◌≡◌ {A = Option Share} None (Some j) = e in cc)
  first_begins chosen (i ∷ js) (CutAfter n ∷ ns) how j s e = absurd (let z : ◌≡◌ {A = Option Share} None (Some j) = e in cc)
  first_begins chosen (i ∷ js) (Whole ∷ ns) how j s e = go (nat_eq i.number chosen) e
    where
      go : (b : Bool) → cond b (Some i) None ≡ Some j → Begins (stored.bind (stored.by_thread_note b Whole from (stored.visited i (body i))) (λ x. chosen_ones chosen js ns (stored.or_else x how))) j s × Among j (i ∷ js)
      go true e = subst (λ j. Begins (stored.bind (stored.noted_thread from None stored.fits_chosen (stored.visited i (body i))) (λ x. chosen_ones chosen js ns (stored.or_else x how))) j s × Among j (i ∷ js)) (some_same i j e)
          (begins_now i s (λ x. chosen_ones chosen js ns (stored.or_else x how)), inl refl)
      go false e = absurd (let z : ◌≡◌ {A = Option Share} None (Some j) = e in cc)
  first_begins chosen (i ∷ js) (NotBegun ∷ ns) how j s e = go (λ z. first_begins chosen js ns how j s z) (nat_eq i.number chosen) e
    where
      go : (alone chosen js ns ≡ Some j → Begins (chosen_ones chosen js ns how) j s × Among j js) → (b : Bool) → cond b None (alone chosen js ns) ≡ Some j → Begins (stored.bind (stored.by_thread_note b NotBegun from (stored.visited i (body i))) (λ x. chosen_ones chosen js ns (stored.or_else x how))) j s × Among j (i ∷ js)
      go ih true e = absurd (let z : ◌≡◌ {A = Option Share} None (Some j) = e in cc)
      go ih false e = let (b, a) = ih e in (begins_later s j (stored.visited i (body i)) (λ x. chosen_ones chosen js ns (stored.or_else x how)) b, inr a)

-- ---- on its view

-- whoever of those that are lent a cell has it, no thread of the team touches a cell that another one has
abbrev pub Lends : (f : Fixed) (g : Ghost) (cs : CodeSite) (q : Asked) (team : Site) (shares : List Share) → Type 0
Lends f g cs q team shares = (owner : ℕ → Option ℕ) → Owns cs q (f.base ∷ outward_of f.waiting f.outward) shares owner → (p : Program) → f.asked ≡ Some p → (s : stored.State) (d : Dyn) → Fit g s d
    → Apart g owner × ((t : Team) (b : Thread) → t.site ≡ team → t.begun ≡ s → IsSound p t → IsAmong b t.threads → Among b.share shares → TouchesFit g owner b.share.number b.touches)

module _ (limit : ℕ) (c : Code) (f : Fixed) (g : Ghost) (cs : CodeSite) (q : Asked) (pc : ℕ) (st : List ℤ) (d0 : Dyn) (may : paths.Leave → Type 0) {A : Type 0} (value : A → Option ℤ)
    {B : Type 0} (fold : B → A → B) (body : Share → Stored A) (team : Site) (shares : List Share) where
  -- what is known of views: whoever of those that are lent a cell has it, threads do on their views what those of the stored
  -- run do, and touch no cell that another one has
  abbrev pub Views : Type 0
  Views = (owner : ℕ → Option ℕ) → Owns cs q (f.base ∷ outward_of f.waiting f.outward) shares owner → (p : Program) → f.asked ≡ Some p → (s : stored.State) (d : Dyn) → Fit g s d
      → Apart g owner × ((j : Share) → Among j shares → ThreadDoes limit c may (view_ghost owner j.number g) f cs q value j (body j))
      × ((t : Team) (b : Thread) → t.site ≡ team → t.begun ≡ s → IsSound p t → IsAmong b t.threads → Among b.share shares → TouchesFit g owner b.share.number b.touches)

  pub views_of : Lends f g cs q team shares → ((owner : ℕ → Option ℕ) → Apart g owner → (j : Share) → Among j shares → ThreadDoes limit c may (view_ghost owner j.number g) f cs q value j (body j)) → Views
  views_of lends seen owner owns p asked s d fit = let (apart, fits) = lends owner owns p asked s d fit in (apart, seen owner apart, fits)

  -- a thread that ends as the stored one does went well
  well_of : (owner : ℕ → Option ℕ) (j : Share) (d : Dyn) (turns : ℕ) (t : stored.State) (e : Result A Cause) → (e ≡ Err NoRoom → ⊥) → Endings limit c f (view_ghost owner j.number g) cs q pc st d0 may value d j turns t e
      → (z : Final) × Finally limit c (On (thread_at c g.top cs q (at f pc st d0) d j)) z × WentWell limit c z.how
  well_of owner j d turns t (Ok a) room x = (record { how = _; dyn = x.dyn }, (x.steps, x.is), tt)
  well_of owner j d turns t (Err (stored.Left l)) room x = (record { how = _; dyn = x.0.dyn }, (x.0.steps, x.0.is), tt)
  well_of owner j d turns t (Err OutOfTurns) room x = (record { how = _; dyn = x.dyn }, (x.steps, x.is), tt)
  well_of owner j d turns t (Err CutOff) room x = (record { how = _; dyn = x.dyn }, (x.steps, x.is), tt)
  well_of owner j d turns t (Err NoRoom) room x = absurd (room refl)
  well_of owner j d turns t (Err Misnoted) room x = absurd x

  module _ {lim : ℕ} {planned : ℕ → ℕ → List ℕ} {sc : _} {env : _} (kn : Knows lim planned g f sc env) (views : Views) (p : Program) (asked : f.asked ≡ Some p) (s : stored.State) (fit : Fit g s d0) (dealt : shares ≡ Rattle.behaviours.specs.Joins.deal 0 0 (sizes_for d0.world.plan cs.kind q)) where
    -- the one that is chosen alone by the next note
    by_next : (b : B) (n : ConstructNote) (ns : List ConstructNote) (chosen : ℕ) (j : Share) → n.chosen ≡ Some chosen → alone chosen shares n.threads ≡ Some j
        → (let m = stored.by_notes fold b shares (λ j. stored.visited j (body j)) (ByNotes (n ∷ ns)) in (t : Team) → t.site ≡ team → t.begun ≡ s → IsSound p t → t.threads ≡ loose (m.visits s) → AreSound f.asked (m.visits s) → Allows g (m.touches s) → ((m.does s).end ≡ Err NoRoom → ⊥)
        → (owner : ℕ → Option ℕ) → Owns cs q (f.base ∷ outward_of f.waiting f.outward) shares owner → RunsWell limit c cs q (at f pc st d0) owner j)
    unfolding stored.bind stored.renotes
    by_next b n ns chosen j is e t site at_s sound threads within al room owner owns =
        let s0 : stored.State = record s { notes = ByNotes ns } in
        let here : stored.State = moved s.turns None InOrder s in
        let ((amid, full, more, few), among) = first_begins limit c f B body s.turns chosen shares n.threads None j s0 e in
        let same : (λ (o : Option ℕ). stored.by_note fold b shares (λ j. stored.visited j (body j)) o n.threads) n.chosen ≡ stored.by_note fold b shares (λ j. stored.visited j (body j)) (Some chosen) n.threads = ap (λ o. stored.by_note fold b shares (λ j. stored.visited j (body j)) o n.threads) is in
        let (apart, does, fits) = views owner owns p asked s d0 fit in
        let in_team : IsAmong (thread limit c f B body s.turns j s0) t.threads = subst (λ ts. IsAmong (thread limit c f B body s.turns j s0) ts) (sym threads) (subst (λ m. IsAmong (thread limit c f B body s.turns j s0) (loose (m.visits s0))) (sym same) amid) in
        let touches = fits t (thread limit c f B body s.turns j s0) site at_s sound in_team among in
        let begun : AreSound f.asked ((body j).visits here) = more f.asked (subst (λ m. AreSound f.asked (m.visits s0)) same within) in
        let ends = view_ends_so limit c f g cs q pc st d0 may value owner j (body j) (does j among) apart here (dyn_moved s.turns None InOrder d0) refl (fit_moved s.turns None InOrder (λ o. refl) fit.least fit.most fit) (few g (subst (λ m. Allows g (m.touches s0)) same al)) touches begun kn in
        let went = well_of owner j (view_of owner j.number (dyn_moved s.turns None InOrder d0)) s.turns ((body j).does here).state ((body j).does here).end (λ z. room (ap (λ m. (m.does s0).end) same ∙ full z)) ends in
        subst (λ top. (z : Final) × Finally limit c (On (thread_at c top cs q (at f pc st d0) (Rattle.ada_lower.specs.Driven.seen_at limit c cs q (at f pc st d0) owner j) j)) z × WentWell limit c z.how) (sym fit.top)
        (subst (λ n. (z : Final) × Finally limit c (On (thread_at c g.top cs q (at f pc st d0) (view_of owner j.number (dyn_moved n None InOrder d0)) j)) z × WentWell limit c z.how) (sym fit.agrees.turns) went)

    -- so the fork is fine
    pub is_fine : (b : B) (notes : Schedule) → d0.world.notes ≡ notes
        → (let m = stored.noted_team team fold b shares body in AreSound f.asked (m.visits s) → Allows g (m.touches s) → ((m.does s).end ≡ Err NoRoom → ⊥) → IsFine limit c cs q (at f pc st d0) notes)
    unfolding stored.noted_team stored.noted_par
    is_fine b InOrder by sound al room = tt
    is_fine b (ByNotes []) by sound al room = tt
    is_fine b (ByNotes (n ∷ ns)) by sound al room = λ chosen j is e owner owns.
        let told : s.notes ≡ ByNotes (n ∷ ns) = sym fit.agrees.notes ∙ by in
        let vis : ◌≡◌ {A = List Visit} ((stored.by_notes fold b shares (λ j. stored.visited j (body j)) s.notes).visits s) ((stored.by_notes fold b shares (λ j. stored.visited j (body j)) (ByNotes (n ∷ ns))).visits s) = ap (λ ns. (stored.by_notes fold b shares (λ j. stored.visited j (body j)) ns).visits s) told in
        let t : Team = record { site = team; begun = s; ended = ((stored.noted_par fold b shares (λ j. stored.visited j (body j))).does s).state; threads = loose ((stored.by_notes fold b shares (λ j. stored.visited j (body j)) s.notes).visits s) } in
        let (team_sound, inner) = parted f.asked p asked t ((stored.by_notes fold b shares (λ j. stored.visited j (body j)) s.notes).visits s) sound in
        by_next b n ns chosen j is (subst (λ js. alone chosen js n.threads ≡ Some j) (sym dealt) e) t refl refl team_sound (ap loose vis) (subst (λ vs. AreSound f.asked vs) vis inner) (subst (λ ns. Allows g ((stored.by_notes fold b shares (λ j. stored.visited j (body j)) ns).touches s)) told al)
        (λ z. room (ap (λ ns. ((stored.by_notes fold b shares (λ j. stored.visited j (body j)) ns).does s).end) told ∙ z)) owner (subst (λ js. Owns cs q (f.base ∷ outward_of f.waiting f.outward) js owner) (sym dealt) owns)
      where
        of_teams : (p : Program) (vs : List Visit) → AreSound (Some p) (stored.teams vs) → AreSound (Some p) vs
        of_teams p [] k = tt
        of_teams p (ThreadOf t ∷ vs) k = of_teams p vs k
        of_teams p (TeamOf t ∷ vs) k = (k.0, of_teams p vs k.1)

        parted : (o : Option Program) (p : Program) → o ≡ Some p → (t : Team) (vs : List Visit) → AreSound o (TeamOf t ∷ stored.teams vs) → IsSound p t × AreSound o vs
        parted o p e t vs k = subst (λ o. AreSound o (TeamOf t ∷ stored.teams vs) → IsSound p t × AreSound o vs) (sym e) (λ k. (k.0, of_teams p vs k.1)) k
