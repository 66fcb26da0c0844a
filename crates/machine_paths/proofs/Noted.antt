-- What run_threads answers when the construct was left is what the machine does by notes.
use Rattle.std.proofs.Common.{◌≡◌, ℕ, suc, ◌<◌, ◌≤◌, inl, inr, true, false, List, [], ◌∷◌, ◌++◌, map, take, length, length-append, Option, Some, None, Result, Ok, arith, refl, sym, ◌∙◌, ap, subst}
use Rattle.std.specs.Prelude.{max, nat_eq}
use Rattle.std.proofs.lemmas.Bool.{eq-eqb, ne_eqb}
use Rattle.ada_base.specs.Cells.{Cell, Mine}
use Rattle.ada_base.specs.Notes.{ThreadNote, Whole, NotBegun, CutAfter}
use Rattle.ada_workers.specs.Paths.{Ending, AtEnd, Left as Leaves, Spent as Overspent, Cut as IsCut, Stuck as IsStuck, Outcome, Fine}
use Rattle.ada_workers.specs.Orders.{Start, memory_after, ends_of, in_turn}
use Rattle.ada_workers.specs.Joins.{Tells, Reports, Fits}
use Rattle.ada_workers.specs.declared.construct.Over.{Over}
use Rattle.ada_workers.specs.declared.tasks.State.{State as Told}
use Rattle.ada_workers.specs.declared.tasks.State.TheVariants as state
use Rattle.ada_workers.specs.declared.path.Stop.TheVariants as stop
use Rattle.behaviours.specs.Joins.{Share}
use Rattle.stack_code.specs.declared.path.Gave.{Gave}
use Rattle.stack_code.specs.declared.path.Gave.TheVariants as gave
use Rattle.stack_code.specs.declared.path.Leave.{Leave}
use Rattle.stack_code.specs.Machine.{Stop, Done, Left, Spent, Cut, Asks, Constructs, Stuck, Astray}
use Rattle.ada_lower.specs.Driven.{World, Dyn, Path, Final, Step, Forked, fits_chosen, fits_whole, fits_cut, or_else, noted_ended, noted_went, by_thread_note, left_by, chosen_threads}
use Rattle.machine_paths.proofs.Frames.{take_long}
use Rattle.machine_paths.specs.Threads.{ThreadPath, inside, ending, final_path, runs}
use Rattle.machine_paths.specs.Noting.{turns_by, turns_of, LeftBy, AsThread, AsThreads}
use Rattle.machine_paths.proofs.Framed.{cut_only, machine_frames}

pub front : (xs ys : List Cell) → take (length xs) (xs ++ ys) ≡ xs
front [] ys = refl
front (x ∷ xs) ys = ap (λ l. x ∷ l) (front xs ys)

gone_not_ended : ◌≡◌ {A = Told} (state.Stopped stop.Ended) (state.Stopped stop.Gone) → ⊥
gone_not_ended e = cc

gone_not_spent : ◌≡◌ {A = Told} (state.Stopped stop.Spent) (state.Stopped stop.Gone) → ⊥
gone_not_spent e = cc

gone_not_paused : (n : ℕ) → ◌≡◌ {A = Told} (state.Stopped (stop.Paused n)) (state.Stopped stop.Gone) → ⊥
gone_not_paused n e = cc

gone_not_begun : ◌≡◌ {A = Told} state.NotBegun (state.Stopped stop.Gone) → ⊥
gone_not_begun e = cc

same_number : (n : ℕ) → nat_eq n n ≡ true
same_number n = eq-eqb n n refl

other_number : (m n : ℕ) → (m ≡ n → ⊥) → nat_eq m n ≡ false
other_number m n h = ne_eqb m n h

-- ---- how ends are told
pub tells_fine : (e : Ending) (st : Told) → Tells Whole e st → Fine e
tells_fine AtEnd st h = tt
tells_fine Leaves st h = tt
tells_fine Overspent st h = tt
tells_fine IsCut st h = tt
tells_fine IsStuck st h = h

pub cut_fine : (e : Ending) → e ≡ IsCut → Fine e
cut_fine e h = subst Fine (sym h) tt

-- a thread that was begun counts its turns
pub whole_turns : (e : Ending) (st : Told) (m n : ℕ) → Tells Whole e st → turns_by m st n ≡ max m n
whole_turns AtEnd st m n h = ap (λ x. turns_by m x n) h
whole_turns Leaves st m n h = ap (λ x. turns_by m x n) h
whole_turns Overspent st m n h = ap (λ x. turns_by m x n) h
whole_turns IsCut st m n h = absurd h
whole_turns IsStuck st m n h = absurd h

module _ (run : Step → Option Final) (start : Dyn → Share → Path) (top from : ℕ) (w : World) (left : Option ℕ) where
  abbrev dyn : List Cell → ℕ → Dyn
  dyn cs m = record { cells = cs; turns = m; left = left; world = w }

  -- a run's end fits a note, and by that it was left
  noted_thread : (fits : Stop → Result (Option Leave) Stop) (r : Option Leave) (k : Dyn → Option Leave → Option Forked) (sp path : ThreadPath) (cs : List Cell) (m : ℕ) (e : Final) → fits e.how ≡ Ok r → path ≡ final_path sp e → e.dyn.world ≡ inside w →
      noted_went run start top k fits (dyn cs m) (Some e) ≡ k (dyn (take top e.dyn.cells) (max m path.turns)) r
  noted_thread fits r k sp path cs m e f p q =
      let turns : e.dyn.turns ≡ path.turns = sym (ap (λ (x : ThreadPath). x.turns) p) in
      (λ i. noted_ended run start top k (record { cells = take top e.dyn.cells; turns = max m (turns i); left = left; world = record (q i) { notes = w.notes } }) (f i))

  tells_whole : (x : Stop) (st : Told) → Tells Whole (ending x) st → fits_whole run start top x ≡ Ok None
  tells_whole (Done v) st e = refl
  tells_whole (Left l) st e = refl
  tells_whole Spent st e = refl
  tells_whole Cut st e = absurd e
  tells_whole (Asks q) st e = absurd e
  tells_whole (Constructs q) st e = absurd e
  tells_whole Stuck st e = absurd e
  tells_whole Astray st e = absurd e

  tells_chosen : (x : Stop) (st : Told) → Tells Whole (ending x) st → st ≡ state.Stopped stop.Gone → (l : Leave) × (fits_chosen run start top x ≡ Ok (Some l)) × (x ≡ Left l)
  tells_chosen (Done v) st e g = absurd (gone_not_ended (sym e ∙ g))
  tells_chosen (Left l) st e g = (l, refl, refl)
  tells_chosen Spent st e g = absurd (gone_not_spent (sym e ∙ g))
  tells_chosen Cut st e g = absurd e
  tells_chosen (Asks q) st e g = absurd e
  tells_chosen (Constructs q) st e g = absurd e
  tells_chosen Stuck st e g = absurd e
  tells_chosen Astray st e g = absurd e

  abbrev goes_on : ℕ → List Share → List ThreadNote → Option Leave → Dyn → Option Leave → Option Forked
  goes_on t js ns how d x = chosen_threads run start top from t js ns d (or_else run start top x how)

  -- a thread that isn't the chosen one
  other_thread : (t : ℕ) (j : Share) (s : Start ThreadPath) (n : ThreadNote) (o : Over ThreadPath) (cs : List Cell) (m : ℕ) (k : Dyn → Option Leave → Option Forked) → top ≡ length cs → (j.number ≡ t → ⊥) → AsThread run start from w j s →
      o.path ≡ (in_turn runs s n cs).path → Tells n (in_turn runs s n cs).end o.state →
      by_thread_note run start top (nat_eq j.number t) n from k (dyn cs m) j ≡ k (dyn (take top (in_turn runs s n cs).cells) (turns_by m o.state o.path.turns)) None
  other_thread t j s Whole o cs m k len ne like p e =
      let own = cs ++ map Mine s.own in
      let a = like None cs (tells_fine (runs s.path None own).end o.state e) in
      ap (λ y. by_thread_note run start top y Whole from k (dyn cs m) j) (other_number j.number t ne)
      ∙ ap (noted_went run start top k (fits_whole run start top) (dyn cs m)) a.1
      ∙ noted_thread (fits_whole run start top) None k s.path o.path cs m a.0 (tells_whole a.0.how o.state (subst (λ (x : Outcome ThreadPath). Tells Whole x.end o.state) a.2 e)) (p ∙ ap (λ (x : Outcome ThreadPath). x.path) a.2) a.3
      ∙ (λ i. k (dyn (take top (sym a.2 i).cells) (sym (whole_turns (runs s.path None own).end o.state m o.path.turns e) i)) None)
  other_thread t j s NotBegun o cs m k len ne like p e =
      ap (λ y. by_thread_note run start top y NotBegun from k (dyn cs m) j) (other_number j.number t ne)
      ∙ (λ i. k (dyn (sym (ap (λ i. take i (cs ++ map Mine s.own)) len ∙ front cs (map Mine s.own)) i) (turns_by m (sym e i) o.path.turns)) None)
  other_thread t j s (CutAfter n) o cs m k len ne like p e =
      let a = like (Some n) cs (cut_fine (runs s.path (Some n) (cs ++ map Mine s.own)).end e.0) in
      let is : a.0.how ≡ Cut = cut_only a.0.how (sym (ap (λ (x : Outcome ThreadPath). x.end) a.2) ∙ e.0) in
      ap (λ y. by_thread_note run start top y (CutAfter n) from k (dyn cs m) j) (other_number j.number t ne)
      ∙ ap (noted_went run start top k (fits_cut run start top) (dyn cs m)) a.1
      ∙ noted_thread (fits_cut run start top) None k s.path o.path cs m a.0 (ap (fits_cut run start top) is) (p ∙ ap (λ (x : Outcome ThreadPath). x.path) a.2) a.3
      ∙ (λ i. k (dyn (take top (sym a.2 i).cells) (turns_by m (sym e.1 i) o.path.turns)) None)

  -- ---- the memory has as many cells after a thread
  enough : (s : Start ThreadPath) (n : ThreadNote) (cs : List Cell) (st : Told) → Tells n (in_turn runs s n cs).end st → length cs ≤ length (in_turn runs s n cs).cells
  enough s Whole cs st e = let k = machine_frames.keeps s.path None (cs ++ map Mine s.own) (tells_fine (runs s.path None (cs ++ map Mine s.own)).end st e) in omega (arith, k.long, length-append cs (map Mine s.own))
  enough s NotBegun cs st e = omega (arith, length-append cs (map Mine s.own))
  enough s (CutAfter n) cs st e = let k = machine_frames.keeps s.path (Some n) (cs ++ map Mine s.own) (subst Fine (sym e.0) tt) in omega (arith, k.long, length-append cs (map Mine s.own))

  abbrev pub after : Start ThreadPath → ThreadNote → List Cell → List Cell
  after s n cs = take (length cs) (in_turn runs s n cs).cells

  pub long_after : (s : Start ThreadPath) (n : ThreadNote) (cs : List Cell) (st : Told) → top ≡ length cs → Tells n (in_turn runs s n cs).end st → top ≡ length (after s n cs)
  long_after s n cs st len e = len ∙ sym ((take_long 0 [] [] (length cs) (in_turn runs s n cs).cells).0 (enough s n cs st e))

  abbrev comes : List (Start ThreadPath) → List ThreadNote → List (Over ThreadPath) → List Cell → ℕ → Result Gave Stop → Option Forked
  comes ss ns os cs m r = Some (record { dyn = dyn (memory_after runs ss ns cs) (turns_of m os); how = r })

  -- the threads after the chosen one
  rest_noted : (t k : ℕ) (js : List Share) (ss : List (Start ThreadPath)) (ns : List ThreadNote) (os : List (Over ThreadPath)) (cs : List Cell) (m : ℕ) (how : Option Leave) → t < k → top ≡ length cs → AsThreads run start from w k js ss → length ns ≡ length ss →
      Reports (ends_of runs ss ns cs) ns os → chosen_threads run start top from t js ns (dyn cs m) how ≡ comes ss ns os cs m (left_by run start top how)
  rest_noted t k [] [] [] [] cs m how lt len like many r = refl
  rest_noted t k [] [] [] (o ∷ os) cs m how lt len like many r = absurd r
  rest_noted t k [] [] (n ∷ ns) os cs m how lt len like many r = absurd (omega (arith, many))
  rest_noted t k [] (s ∷ ss) ns os cs m how lt len like many r = absurd like
  rest_noted t k (j ∷ js) [] ns os cs m how lt len like many r = absurd like
  rest_noted t k (j ∷ js) (s ∷ ss) [] os cs m how lt len like many r = absurd (omega (arith, many))
  rest_noted t k (j ∷ js) (s ∷ ss) (n ∷ ns) [] cs m how lt len like many r = absurd r
  rest_noted t k (j ∷ js) (s ∷ ss) (n ∷ ns) (o ∷ os) cs m how lt len like many r =
      other_thread t j s n o cs m (goes_on t js ns how) len (λ e. absurd (omega (arith, lt, e, like.0))) like.1 r.0 r.1
      ∙ ap (λ i. chosen_threads run start top from t js ns (dyn (take i (in_turn runs s n cs).cells) (turns_by m o.state o.path.turns)) how) len
      ∙ rest_noted t (suc k) js ss ns os (after s n cs) (turns_by m o.state o.path.turns) how (omega (arith, lt)) (long_after s n cs o.state len r.1) like.2 (omega (arith, many)) r.2

  -- the chosen one
  chosen_thread : (t : ℕ) (j : Share) (s : Start ThreadPath) (n : ThreadNote) (o : Over ThreadPath) (cs : List Cell) (m : ℕ) (k : Dyn → Option Leave → Option Forked) → j.number ≡ t → AsThread run start from w j s →
      o.path ≡ (in_turn runs s n cs).path → Tells n (in_turn runs s n cs).end o.state → o.state ≡ state.Stopped stop.Gone →
      (l : Leave) × (o.path.how ≡ Some (Left l)) × (by_thread_note run start top (nat_eq j.number t) n from k (dyn cs m) j ≡ k (dyn (take top (in_turn runs s n cs).cells) (turns_by m o.state o.path.turns)) (Some l))
  chosen_thread t j s NotBegun o cs m k is like p e g = absurd (gone_not_begun (sym e ∙ g))
  chosen_thread t j s (CutAfter n) o cs m k is like p e g = absurd (gone_not_paused n (sym e.1 ∙ g))
  chosen_thread t j s Whole o cs m k is like p e g =
      let own = cs ++ map Mine s.own in
      let a = like None cs (tells_fine (runs s.path None own).end o.state e) in
      let c = tells_chosen a.0.how o.state (subst (λ (x : Outcome ThreadPath). Tells Whole x.end o.state) a.2 e) g in
      let b = p ∙ ap (λ (x : Outcome ThreadPath). x.path) a.2 in (
        c.0,
        ap (λ (x : ThreadPath). x.how) b ∙ ap Some c.2,
        ap (λ y. by_thread_note run start top y Whole from k (dyn cs m) j) (ap (λ y. nat_eq j.number y) (sym is) ∙ same_number j.number)
            ∙ ap (noted_went run start top k (fits_chosen run start top) (dyn cs m)) a.1
            ∙ noted_thread (fits_chosen run start top) (Some c.0) k s.path o.path cs m a.0 c.1 b a.3
            ∙ (λ i. k (dyn (take top (sym a.2 i).cells) (sym (whole_turns (runs s.path None own).end o.state m o.path.turns e) i)) (Some c.0)),
      )

  fits_from : (t k : ℕ) (os : List (Over ThreadPath)) → Fits (Some t) k os → k ≤ t
  fits_from t k [] f = absurd f
  fits_from t k (o ∷ os) (inl f) = omega (arith, f.0)
  fits_from t k (o ∷ os) (inr f) = let h = fits_from t (suc k) os f in omega (arith, h)

  -- a construct that was left: by the notes the machine comes to the cells and the leave that run_threads answered
  pub noted : (t k : ℕ) (js : List Share) (ss : List (Start ThreadPath)) (ns : List ThreadNote) (os : List (Over ThreadPath)) (cs : List Cell) (m : ℕ) → top ≡ length cs → AsThreads run start from w k js ss → length ns ≡ length ss →
      Reports (ends_of runs ss ns cs) ns os → Fits (Some t) k os → (l : Leave) × LeftBy t k os l × (chosen_threads run start top from t js ns (dyn cs m) None ≡ comes ss ns os cs m (Ok (gave.Left l)))
  noted t k js ss ns [] cs m len like many r f = absurd f
  noted t k [] [] [] (o ∷ os) cs m len like many r f = absurd r
  noted t k [] [] (n ∷ ns) (o ∷ os) cs m len like many r f = absurd r
  noted t k [] (s ∷ ss) ns (o ∷ os) cs m len like many r f = absurd like
  noted t k (j ∷ js) [] ns (o ∷ os) cs m len like many r f = absurd like
  noted t k (j ∷ js) (s ∷ ss) [] (o ∷ os) cs m len like many r f = absurd r
  noted t k (j ∷ js) (s ∷ ss) (n ∷ ns) (o ∷ os) cs m len like many r (inl f) =
      let c = chosen_thread t j s n o cs m (goes_on t js ns None) (like.0 ∙ sym f.0) like.1 r.0 r.1 f.1 in (
        c.0,
        inl (f.0, c.1),
        c.2
            ∙ ap (λ i. chosen_threads run start top from t js ns (dyn (take i (in_turn runs s n cs).cells) (turns_by m o.state o.path.turns)) (Some c.0)) len
            ∙ rest_noted t (suc k) js ss ns os (after s n cs) (turns_by m o.state o.path.turns) (Some c.0) (omega (arith, f.0)) (long_after s n cs o.state len r.1) like.2 (omega (arith, many)) r.2,
      )
  noted t k (j ∷ js) (s ∷ ss) (n ∷ ns) (o ∷ os) cs m len like many r (inr f) =
      let le = fits_from t (suc k) os f in
      let c = noted t (suc k) js ss ns os (after s n cs) (turns_by m o.state o.path.turns) (long_after s n cs o.state len r.1) like.2 (omega (arith, many)) r.2 f in (
        c.0,
        inr c.1,
        other_thread t j s n o cs m (goes_on t js ns None) len (λ e. absurd (omega (arith, le, e, like.0))) like.1 r.0 r.1
            ∙ ap (λ i. chosen_threads run start top from t js ns (dyn (take i (in_turn runs s n cs).cells) (turns_by m o.state o.path.turns)) None) len
            ∙ c.2,
      )
