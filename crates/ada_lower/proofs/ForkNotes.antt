-- Threads by notes come to what those of the stored run come to.
use Rattle.std.proofs.Common.{◌≡◌, ℕ, ◌≤◌, max, ℤ, List, [], ◌∷◌, nat_eq, Option, Some, None, Result, Ok, Err, Bool, true, false, refl, sym, ap, ap₂, ◌∙◌, subst, arith}
use Rattle.behaviours.specs.Joins.{Share}
use Rattle.behaviours.specs.Paths as paths
use Rattle.ada_meaning.specs.Stored as stored
use Rattle.ada_base.specs.Notes.{ThreadNote, Whole, NotBegun, CutAfter, InOrder}
use Rattle.ada_meaning.specs.Stored.{Stored, Cause, OutOfTurns, NoRoom, CutOff, Misnoted, Touch}
use Rattle.stack_code.specs.declared.code.Code.{Code}
use Rattle.stack_code.specs.declared.code.CodeSite.{CodeSite}
use Rattle.stack_code.specs.declared.path.Asked.{Asked}
use Rattle.stack_code.specs.declared.path.Gave.TheVariants as gave
use Rattle.stack_code.specs.declared.path.Leave.{Leave}
use Rattle.stack_code.specs.Machine.{Stop, Done, Left, Spent, Cut, Astray}
use Rattle.ada_lower.specs.Driven
use Rattle.ada_lower.specs.Driven.{Dyn, Fixed, Path, Final, Step, On, Off, Forked, at, goes, noted_went, noted_thread, cut_to, with_turns, with_left, with_notes}
use Rattle.ada_lower.specs.Fits.{Ghost, Fit, Asks}
use Rattle.ada_lower.proofs.Forks.{thread_ends, machine_leave, ThreadDoes, Reaches}
use Rattle.ada_lower.proofs.Framework.{asks_split}
use Rattle.ada_lower.proofs.ForkFuel.{goes_by}
use Rattle.ada_lower.proofs.ForkThreads.{moved, dyn_moved, fit_moved, reaches_by, start, Ending, Endings, thread_ends_so, AllDo}

abbrev pub machine_leaves : Option paths.Leave → Option Leave
machine_leaves None = None
machine_leaves (Some x) = Some (machine_leave x)

abbrev pub MayAll : (paths.Leave → Type 0) → Option paths.Leave → Type 0
MayAll may None = Unit {0}
MayAll may (Some x) = may x

-- the note of a thread's end is the same to both
abbrev FitsSo : (paths.Leave → Type 0) → Result (Option paths.Leave) Cause → Result (Option Leave) Stop → Type 0
FitsSo may (Ok x) y = (y ≡ Ok (machine_leaves x)) × MayAll may x
FitsSo may (Err (stored.Left l)) y = ⊥
FitsSo may (Err OutOfTurns) y = ⊥
FitsSo may (Err CutOff) y = y ≡ Err Cut
FitsSo may (Err NoRoom) y = Unit {0}
FitsSo may (Err Misnoted) y = y ≡ Err Astray

module _ (limit : ℕ) (c : Code) (f : Fixed) (g : Ghost) (site : CodeSite) (q : Asked) (pc : ℕ) (st : List ℤ) (d0 : Dyn) (may : paths.Leave → Type 0) {A : Type 0} (value : A → Option ℤ) where
  module _ {B : Type 0} (shows : B → List ℤ → Type 0) (body : Share → Stored A) (from : ℕ) (low : g.least ≤ from) (high : from ≤ g.most) where
    abbrev chosen_machine : ℕ → List Share → List ThreadNote → Dyn → Option Leave → ℕ → Option Forked
    chosen_machine chosen js ns d how m = Driven.chosen_threads (λ x. goes limit c m x) (start limit c f g site q pc st d0) g.top from chosen js ns d how

    abbrev GoesOnNoted : ℕ → List Share → List ThreadNote → Type 0
    GoesOnNoted chosen js ns = (s : stored.State) (d : Dyn) (how : Option paths.Leave) → MayAll may how → (s.notes ≡ InOrder → ⊥) → Fit g s d → from ≤ s.turns
        → Asks f g ((stored.chosen_threads {B = B} body from chosen js ns how).touches s) ((stored.chosen_threads {B = B} body from chosen js ns how).visits s)
        → (let r = (stored.chosen_threads {B = B} body from chosen js ns how).does s in Reaches may shows g (chosen_machine chosen js ns d (machine_leaves how)) from r.state r.end)

    -- a thread that is begun, and then the others
    module _ (chosen : ℕ) (js : List Share) (ns : List ThreadNote) (ih : GoesOnNoted chosen js ns) (j : Share) (w : ThreadDoes limit c may g f site q value j (body j))
        (left : Option ℕ) (fits : Result A Cause → Result (Option paths.Leave) Cause) (mfits : Stop → Result (Option Leave) Stop)
        (ok : (a : A) → FitsSo may (fits (Ok a)) (mfits (Done (value a)))) (lf : (l : paths.Leave) → may l → FitsSo may (fits (Err (stored.Left l))) (mfits (Left (machine_leave l))))
        (sp : FitsSo may (fits (Err OutOfTurns)) (mfits Spent)) (ct : FitsSo may (fits (Err CutOff)) (mfits Cut)) (room : fits (Err NoRoom) ≡ Err NoRoom)
        (s : stored.State) (d : Dyn) (how : Option paths.Leave) (mh : MayAll may how) (un : s.notes ≡ InOrder → ⊥) (fit : Fit g s d) (lo : from ≤ s.turns) where
      abbrev k : Option paths.Leave → Stored B
      k x = stored.chosen_threads body from chosen js ns (stored.or_else x how)

      abbrev km : ℕ → Dyn → Option Leave → Option Forked
      km m d x = Driven.chosen_threads (λ x. goes limit c m x) (start limit c f g site q pc st d0) g.top from chosen js ns d (Driven.or_else (λ x. goes limit c m x) (start limit c f g site q pc st d0) g.top x (machine_leaves how))

      abbrev went : ℕ → Option Forked
      went m = noted_thread (λ x. goes limit c m x) (start limit c f g site q pc st d0) g.top from left mfits (km m) d j

      or_else_same : (x : Option paths.Leave) (m : ℕ) → Driven.or_else (λ x. goes limit c m x) (start limit c f g site q pc st d0) g.top (machine_leaves x) (machine_leaves how) ≡ machine_leaves (stored.or_else x how)
      or_else_same None m = refl
      or_else_same (Some x) m = refl

      may_else : (x : Option paths.Leave) → MayAll may x → MayAll may (stored.or_else x how)
      may_else None m = mh
      may_else (Some x) m = m

      -- the state after it, in both
      abbrev after : stored.State → stored.State
      after t = moved (max s.turns t.turns) s.left s.notes t

      abbrev dyn_after : Dyn → Dyn
      dyn_after e = record (cut_to g.top e) { turns = max d.turns e.turns; left = d.left; world = record e.world { notes = d.world.notes } }

      fit_after : (t : stored.State) (e : Dyn) → Fit g t (cut_to g.top e) → Fit g (after t) (dyn_after e)
      fit_after t e z =
          let base : Fit g (after t) (dyn_moved (max s.turns t.turns) s.left s.notes (cut_to g.top e)) = fit_moved (max s.turns t.turns) s.left s.notes fit.order (let l = fit.least in omega (arith, l)) (let l = fit.most in let h = z.most in omega (arith, l, h)) z in
          subst (λ n. Fit g (after t) (record (cut_to g.top e) { turns = n; left = d.left; world = record e.world { notes = d.world.notes } })) (sym (ap₂ max fit.agrees.turns z.agrees.turns))
          (subst (λ l. Fit g (after t) (record (cut_to g.top e) { turns = max s.turns t.turns; left = l; world = record e.world { notes = d.world.notes } })) (sym fit.agrees.left)
          (subst (λ l. Fit g (after t) (record (cut_to g.top e) { turns = max s.turns t.turns; left = s.left; world = record e.world { notes = l } })) (sym fit.agrees.notes) base))

      went_is : {h : Stop} {t : stored.State} (z : Ending limit c f g site q pc st d0 (dyn_moved from left InOrder d) j from t h) (y : Result (Option Leave) Stop) → mfits h ≡ y → (m : ℕ) → z.steps ≤ m
          → went m ≡ Driven.noted_ended (λ x. goes limit c m x) (start limit c f g site q pc st d0) g.top (km m) (dyn_after z.dyn) y
      went_is {h} z y is m le =
          ap (λ o. noted_went (λ x. goes limit c m x) (start limit c f g site q pc st d0) g.top (km m) mfits d o) (goes_by limit c z.steps m (On (start limit c f g site q pc st d0 (dyn_moved from left InOrder d) j)) _ le z.is)
          ∙ ap (λ y. Driven.noted_ended (λ x. goes limit c m x) (start limit c f g site q pc st d0) g.top (km m) (dyn_after z.dyn) y) is

      by_fits : {h : Stop} (t : stored.State) → Ending limit c f g site q pc st d0 (dyn_moved from left InOrder d) j from t h → (y : Result (Option paths.Leave) Cause) → FitsSo may y (mfits h) → Asks f g (stored.next_touches (after t) y k) (stored.next_visits (after t) y k)
          → (let r = stored.next (after t) y k in Reaches may shows g went from r.state r.end)
      by_fits t z (Ok x) same al =
          reaches_by may shows g (chosen_machine chosen js ns (dyn_after z.dyn) (machine_leaves (stored.or_else x how))) went from z.steps _ _
          (λ m le. went_is z (Ok (machine_leaves x)) same.0 m le ∙ ap (λ o. chosen_machine chosen js ns (dyn_after z.dyn) o m) (or_else_same x m))
          (ih (after t) (dyn_after z.dyn) (stored.or_else x how) (may_else x same.1) un (fit_after t z.dyn z.fit) (omega (arith, lo)) al)
      by_fits t z (Err (stored.Left l)) same al = absurd same
      by_fits t z (Err OutOfTurns) same al = absurd same
      by_fits t z (Err CutOff) same al = record {
        forked = record { dyn = dyn_after z.dyn; how = Err Cut };
        steps = z.steps;
        is = λ m le. went_is z (Err Cut) same m le;
        told = refl;
        fit = fit_after t z.dyn z.fit;
        grows = omega (arith, lo);
      }
      by_fits t z (Err NoRoom) same al = tt
      by_fits t z (Err Misnoted) same al = (
        un,
        record {
          forked = record { dyn = dyn_after z.dyn; how = Err Astray };
          steps = z.steps;
          is = λ m le. went_is z (Err Astray) same m le;
          told = refl;
          fit = fit_after t z.dyn z.fit;
          grows = omega (arith, lo);
        },
      )

      by_end : (t : stored.State) (e : Result A Cause) → Endings limit c f g site q pc st d0 may value (dyn_moved from left InOrder d) j from t e → Asks f g (stored.next_touches (after t) (fits e) k) (stored.next_visits (after t) (fits e) k)
          → (let r = stored.next (after t) (fits e) k in Reaches may shows g went from r.state r.end)
      by_end t (Ok a) z al = by_fits t z (fits (Ok a)) (ok a) al
      by_end t (Err (stored.Left l)) z al = by_fits t z.0 (fits (Err (stored.Left l))) (lf l z.1) al
      by_end t (Err OutOfTurns) z al = by_fits t z (fits (Err OutOfTurns)) sp al
      by_end t (Err CutOff) z al = by_fits t z (fits (Err CutOff)) ct al
      by_end t (Err NoRoom) z al = subst (λ y. let r = stored.next (after t) y k in Reaches may shows g went from r.state r.end) (sym room) tt
      by_end t (Err Misnoted) z al = absurd z

      pub noted_reaches : Asks f g ((stored.bind (stored.noted_thread from left fits (body j)) k).touches s) ((stored.bind (stored.noted_thread from left fits (body j)) k).visits s)
          → (let r = (stored.bind (stored.noted_thread from left fits (body j)) k).does s in Reaches may shows g went from r.state r.end)
      unfolding stored.bind stored.noted_thread
      noted_reaches al =
          let (a1, a2) = asks_split limit c f thread_ends g ((body j).touches (moved from left InOrder s)) _ ((body j).visits (moved from left InOrder s)) _ al in
          by_end ((body j).does (moved from left InOrder s)).state ((body j).does (moved from left InOrder s)).end
          (thread_ends_so limit c f g site q pc st d0 may value j (body j) w (moved from left InOrder s) (dyn_moved from left InOrder d) refl (fit_moved from left InOrder (λ o. refl) low high fit) a1) a2

    -- a note that doesn't fit
    astray_reaches : (s : stored.State) (d : Dyn) → (s.notes ≡ InOrder → ⊥) → Fit g s d → from ≤ s.turns → {F : ℕ → Option Forked} → ((m : ℕ) → F m ≡ Some (record { dyn = d; how = Err Astray })) → Reaches may shows g F from s (Err Misnoted)
    astray_reaches s d un fit lo is = (un, record { forked = record { dyn = d; how = Err Astray }; steps = 0; is = λ m le. is m; told = refl; fit = fit; grows = lo })

    by_note_reaches : (chosen : ℕ) (js : List Share) (ns : List ThreadNote) → GoesOnNoted chosen js ns → (j : Share) → ThreadDoes limit c may g f site q value j (body j) → (b : Bool) (n : ThreadNote)
        → (s : stored.State) (d : Dyn) (how : Option paths.Leave) → MayAll may how → (s.notes ≡ InOrder → ⊥) → Fit g s d → from ≤ s.turns
        → (let k : Option paths.Leave → Stored B = λ x. stored.chosen_threads {B = B} body from chosen js ns (stored.or_else x how) in let r = (stored.bind (stored.by_thread_note b n from (body j)) k).does s in
        Asks f g ((stored.bind (stored.by_thread_note b n from (body j)) k).touches s) ((stored.bind (stored.by_thread_note b n from (body j)) k).visits s)
        → Reaches may shows g (λ m. Driven.by_thread_note (λ x. goes limit c m x) (start limit c f g site q pc st d0) g.top b n from
        (λ d x. Driven.chosen_threads (λ x. goes limit c m x) (start limit c f g site q pc st d0) g.top from chosen js ns d (Driven.or_else (λ x. goes limit c m x) (start limit c f g site q pc st d0) g.top x (machine_leaves how))) d j) from r.state r.end)
    unfolding stored.bind stored.misnoted stored.ret
    by_note_reaches chosen js ns ih j w true Whole s d how mh un fit lo =
        noted_reaches chosen js ns ih j w None stored.fits_chosen (Driven.fits_chosen (λ x. goes limit c 0 x) (start limit c f g site q pc st d0) g.top) (λ a. refl) (λ l m. (refl, m)) refl refl refl s d how mh un fit lo
    by_note_reaches chosen js ns ih j w true NotBegun s d how mh un fit lo = λ al. astray_reaches s d un fit lo (λ m. refl)
    by_note_reaches chosen js ns ih j w true (CutAfter n) s d how mh un fit lo = λ al. astray_reaches s d un fit lo (λ m. refl)
    by_note_reaches chosen js ns ih j w false Whole s d how mh un fit lo =
        noted_reaches chosen js ns ih j w None stored.fits_whole (Driven.fits_whole (λ x. goes limit c 0 x) (start limit c f g site q pc st d0) g.top) (λ a. (refl, tt)) (λ l m. (refl, tt)) (refl, tt) refl refl s d how mh un fit lo
    by_note_reaches chosen js ns ih j w false NotBegun s d how mh un fit lo = λ al. ih s d how mh un fit lo al
    by_note_reaches chosen js ns ih j w false (CutAfter n) s d how mh un fit lo =
        noted_reaches chosen js ns ih j w (Some n) stored.fits_cut (Driven.fits_cut (λ x. goes limit c 0 x) (start limit c f g site q pc st d0) g.top) (λ a. refl) (λ l m. refl) refl (refl, tt) refl s d how mh un fit lo

    pub chosen_reaches : (chosen : ℕ) (js : List Share) (ns : List ThreadNote) → AllDo limit c f g site q pc st d0 may value body js
        → (s : stored.State) (d : Dyn) (how : Option paths.Leave) → MayAll may how → (s.notes ≡ InOrder → ⊥) → Fit g s d → from ≤ s.turns
        → Asks f g ((stored.chosen_threads {B = B} body from chosen js ns how).touches s) ((stored.chosen_threads {B = B} body from chosen js ns how).visits s)
        → (let r = (stored.chosen_threads {B = B} body from chosen js ns how).does s in Reaches may shows g (chosen_machine chosen js ns d (machine_leaves how)) from r.state r.end)
    unfolding stored.misnoted stored.leaves
    chosen_reaches chosen [] [] ws s d None mh un fit lo al = astray_reaches s d un fit lo (λ m. refl)
    chosen_reaches chosen [] [] ws s d (Some x) mh un fit lo al = record { forked = record { dyn = d; how = Ok (gave.Left (machine_leave x)) }; steps = 0; is = λ m le. refl; told = (refl, mh); fit = fit; grows = lo }
    chosen_reaches chosen [] (n ∷ ns) ws s d how mh un fit lo al = astray_reaches s d un fit lo (λ m. refl)
    chosen_reaches chosen (j ∷ js) [] ws s d how mh un fit lo al = astray_reaches s d un fit lo (λ m. refl)
    chosen_reaches chosen (j ∷ js) (n ∷ ns) (w, ws) s d how mh un fit lo al = by_note_reaches chosen js ns (chosen_reaches chosen js ns ws) j w (nat_eq j.number chosen) n s d how mh un fit lo al
