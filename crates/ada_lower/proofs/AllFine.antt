-- The machine reads no notes between forks; so where all its forks are fine by any further notes, at an outermost fork each
-- thread goes well on its view.
use Rattle.std.proofs.Common.{◌≡◌, ℕ, suc, ◌+◌, ◌≤◌, ℤ, List, [], ◌∷◌, nat_eq, slice_get, Option, Some, None, Result, Ok, Err, Bool, true, false, cond, refl, sym, ap, ◌∙◌, subst, arith, le_refl, inl, inr}
use Rattle.std.proofs.lemmas.Bool.{ne_eqb, eq-eqb}
use Rattle.ada_base.specs.Notes.{ThreadNote, Whole, NotBegun, ConstructNote, Schedule, ByNotes}
use Rattle.ada_base.specs.declared.reason.Reason.{Reason}
use Rattle.behaviours.specs.Joins.{Share, deal}
use Rattle.stack_code.specs.declared.code.Code.{Code}
use Rattle.stack_code.specs.declared.code.CodeSite.{CodeSite}
use Rattle.stack_code.specs.declared.path.Asked.{Asked}
use Rattle.stack_code.specs.declared.path.Io.TheVariants as io
use Rattle.stack_code.specs.Machine.{Frame, State, Stop, Done, Left, Spent, Cut, Asks, Constructs, Stuck, Astray, Went, Goes, Stops, sees, step}
use Rattle.ada_lower.specs.Asking.{Reads, got}
use Rattle.ada_lower.specs.Driven.{World, Dyn, Path, Step, On, Off, Forks, Forked, clip, cut_to, drive, driven, answered, read_into, given_got, alone, sizes_for, shares_at, RunsWell, Safe, with_notes, fork, fork_ended, goes}
use Rattle.ada_lower.specs.Lending.{Among, Owns}
use Rattle.ada_lower.proofs.ForkFuel.{safe_drives, safe_forks, safe_forked}

-- ---- notes aside

abbrev pub noted : Schedule → Path → Path
noted ns p = record p { world = record p.world { notes = ns } }

abbrev pub noted_step : Schedule → Step → Step
noted_step ns (On p) = On (noted ns p)
noted_step ns (Off e) = Off (record { how = e.how; dyn = with_notes ns e.dyn })
noted_step ns (Forks q p) = Forks q (noted ns p)

clip_noted : (ns : Schedule) (ws : List Frame) (d : Dyn) → clip ws (with_notes ns d) ≡ with_notes ns (clip ws d)
clip_noted ns [] d = refl
clip_noted ns (w ∷ ws) d = clip_noted ns ws (cut_to w.top d)

module _ (limit : ℕ) (c : Code) where
  off_noted : (ns : Schedule) (x : Stop) (s : State) (w : World) → Off (record { how = x; dyn = clip s.waiting (record { cells = s.cells; turns = s.turns; left = s.left; world = record w { notes = ns } }) }) ≡ noted_step ns (Off (record { how = x; dyn = clip s.waiting (record { cells = s.cells; turns = s.turns; left = s.left; world = w }) }))
  off_noted ns x s w = ap (λ d. Off (record { how = x; dyn = d })) (clip_noted ns s.waiting (record { cells = s.cells; turns = s.turns; left = s.left; world = w }))

  got_noted : (ns : Schedule) (r : Reads) (e : Result ℤ (Option Reason)) (s : State) (w : World) → given_got limit c r e s (record w { notes = ns }) ≡ noted_step ns (given_got limit c r e s w)
  got_noted ns r (Ok v) s w = refl
  got_noted ns r (Err (Some q)) s w = refl
  got_noted ns r (Err None) s w = off_noted ns Spent (record s { turns = r.turns }) (read_into limit c r w)

  answered_noted : (ns : Schedule) (x : Stop) (s : State) (w : World) → answered limit c x s (record w { notes = ns }) ≡ noted_step ns (answered limit c x s w)
  answered_noted ns (Done v) s w = off_noted ns (Done v) s w
  answered_noted ns (Left l) s w = off_noted ns (Left l) s w
  answered_noted ns Spent s w = off_noted ns Spent s w
  answered_noted ns Cut s w = off_noted ns Cut s w
  answered_noted ns (Asks (io.Write bytes)) s w = refl
  answered_noted ns (Asks io.Take) s w = let r = got limit (record { turns = s.turns; taken = w.taken; held = w.held; input = w.input; done = w.done }) in got_noted ns r.state r.end s w
  answered_noted ns (Constructs q) s w = refl
  answered_noted ns Stuck s w = off_noted ns Stuck s w
  answered_noted ns Astray s w = off_noted ns Astray s w

  driven_noted : (ns : Schedule) (x : Went) (w : World) → driven limit c x (record w { notes = ns }) ≡ noted_step ns (driven limit c x w)
  driven_noted ns (Goes s) w = refl
  driven_noted ns (Stops x s) w = answered_noted ns x s w

  -- a step of a path is the same by all notes
  pub drive_noted : (ns : Schedule) (p : Path) → drive limit c (noted ns p) ≡ noted_step ns (drive limit c p)
  drive_noted ns p = driven_noted ns (step limit c p.state) p.world

  -- by whatever further notes, its forks are fine
  abbrev pub AllSafe : Step → Type 0
  AllSafe x = (rest : List ConstructNote) → Safe limit c true (noted_step (ByNotes rest) x)

  -- that stays so from step to step
  pub all_drives : (p : Path) → AllSafe (On p) → AllSafe (drive limit c p)
  all_drives p s rest = subst (λ x. Safe limit c true x) (drive_noted (ByNotes rest) p) (safe_drives limit c true (noted (ByNotes rest) p) (s rest))

  -- and over a fork whose threads come to this by a note, whatever the notes behind it
  pub all_forks : (q : Asked) (p : Path) (n : ConstructNote) (r : Forked) → ((rest : List ConstructNote) → (m : ℕ) × (fork c (λ x. goes limit c m x) q (noted (ByNotes (n ∷ rest)) p) ≡ Some (record r { dyn = with_notes (ByNotes rest) r.dyn })))
      → ((rest : List ConstructNote) → fork_ended c (record r { dyn = with_notes (ByNotes rest) r.dyn }) p ≡ noted_step (ByNotes rest) (fork_ended c r p)) → AllSafe (Forks q p) → AllSafe (fork_ended c r p)
  all_forks q p n r by same s rest =
      let (m, is) = by rest in
      subst (λ x. Safe limit c true x) (same rest) (safe_forked limit c true m q (noted (ByNotes (n ∷ rest)) p) (record r { dyn = with_notes (ByNotes rest) r.dyn }) is (s (n ∷ rest)))

-- ---- a note that chooses one thread alone

abbrev pub not_begun : List Share → List ThreadNote
not_begun [] = []
not_begun (j ∷ js) = NotBegun ∷ not_begun js

abbrev pub notes_for : ℕ → List Share → List ThreadNote
notes_for k [] = []
notes_for k (j ∷ js) = cond (nat_eq j.number k) (Whole ∷ not_begun js) (NotBegun ∷ notes_for k js)

number_from : (n first : ℕ) (sizes : List ℕ) (j : Share) → Among j (deal n first sizes) → n ≤ j.number
number_from n first [] j a = absurd a
number_from n first (m ∷ ms) j (inl e) = subst (λ i. n ≤ i.number) (sym e) (le_refl n)
number_from n first (m ∷ ms) j (inr a) = let le = number_from (suc n) (first + m) ms j a in omega (arith, le)

alone_at : (n first : ℕ) (sizes : List ℕ) (j : Share) → Among j (deal n first sizes) → alone j.number (deal n first sizes) (notes_for j.number (deal n first sizes)) ≡ Some j
alone_at n first [] j a = absurd a
alone_at n first (m ∷ ms) j (inl e) =
    let i : Share = record { number = n; first = first; size = m } in
    subst (λ j. alone j.number (i ∷ deal (suc n) (first + m) ms) (notes_for j.number (i ∷ deal (suc n) (first + m) ms)) ≡ Some j) (sym e) (here (nat_eq n n) (eq-eqb n n refl))
  where
    here : (b : Bool) → b ≡ true → alone n (record { number = n; first = first; size = m } ∷ deal (suc n) (first + m) ms) (cond b (Whole ∷ not_begun (deal (suc n) (first + m) ms)) (NotBegun ∷ notes_for n (deal (suc n) (first + m) ms))) ≡ Some (record { number = n; first = first; size = m })
    here true e = ap (λ b. cond b (Some (record { number = n; first = first; size = m })) None) (eq-eqb n n refl)
    here false e = absurd (let z : false ≡ true = e in cc)
alone_at n first (m ∷ ms) j (inr a) =
    let le = number_from (suc n) (first + m) ms j a in
    let off_ : nat_eq n j.number ≡ false = ne_eqb n j.number (λ e. omega (arith, e, le)) in
    ap (λ b. alone j.number (record { number = n; first = first; size = m } ∷ deal (suc n) (first + m) ms) (cond b (Whole ∷ not_begun (deal (suc n) (first + m) ms)) (NotBegun ∷ notes_for j.number (deal (suc n) (first + m) ms)))) off_
    ∙ ap (λ b. cond b None (alone j.number (deal (suc n) (first + m) ms) (notes_for j.number (deal (suc n) (first + m) ms)))) off_ ∙ alone_at (suc n) (first + m) ms j a

module _ (limit : ℕ) (c : Code) where
  -- at an outermost fork that is come to so, each thread goes well on its view, whoever of those that are lent a cell has it
  pub all_fine : (q : Asked) (p : Path) → AllSafe limit c (Forks q p) → (site : CodeSite) → slice_get c.sites q.site ≡ Some site → (owner : ℕ → Option ℕ) → Owns site q (sees p.state) (shares_at limit c site q p) owner → (j : Share) → Among j (shares_at limit c site q p) → RunsWell limit c site q p owner j
  all_fine q p safe site at_ owner owns j among =
      let n : ConstructNote = record { chosen = Some j.number; threads = notes_for j.number (shares_at limit c site q p) } in
      safe_forks limit c q (noted (ByNotes (n ∷ [])) p) (safe (n ∷ [])) site at_ j.number j refl (alone_at 0 0 (sizes_for p.world.plan site.kind q) j among) owner owns
