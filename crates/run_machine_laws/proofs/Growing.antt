-- What was done outside is never taken back.
use Rattle.std.proofs.Common.{◌≡◌, ℕ, zero, suc, ℤ, Bool, true, false, List, [], ◌∷◌, length, slice_get, nat_eq, Option, Some, None, Result, Ok, Err, refl, sym, ap}
use Rattle.std.specs.Prelude.{max}
use Rattle.ada_base.specs.Notes.{ThreadNote, Whole, NotBegun, CutAfter, Schedule, InOrder, ByNotes}
use Rattle.ada_base.specs.declared.reason.Reason.{Reason}
use Rattle.ada_meaning.specs.Deeds.{Deed, PutOut}
use Rattle.behaviours.specs.Joins.{Share, deal}
use Rattle.stack_code.specs.declared.code.Code.{Code}
use Rattle.stack_code.specs.declared.code.CodeSite.{CodeSite}
use Rattle.stack_code.specs.declared.path.Asked.{Asked}
use Rattle.stack_code.specs.declared.path.Gave.{Gave}
use Rattle.stack_code.specs.declared.path.Io.TheVariants as io
use Rattle.stack_code.specs.declared.path.Leave.{Leave}
use Rattle.stack_code.specs.Machine.{Frame, State, Stop, Done, Left, Spent, Cut, Asks, Constructs, Stuck, Astray, Went, Goes, Stops, step}
use Rattle.ada_lower.specs.Asking.{Reads}
use Rattle.ada_lower.specs.Driven.{World, Dyn, Path, Final, Step, On, Off, Forks, Forked, clip, cut_to, dyn_of, raw_of, sizes_for, with_turns, with_left, with_notes, thread_ended, thread_went, in_order, none_left, noted_ended, noted_went, noted_thread, fits_chosen, fits_whole, fits_cut, by_thread_note, chosen_threads, by_note, by_notes, or_else, gathered, thread_at, answer_of, answering, at_site, fork, fork_end, fork_ended, given_got, answered, driven, after_fork, goes}
use Rattle.run_machine_laws.specs.Standing.{done_by}
use Rattle.run_machine_laws.specs.Reading.{Further}
use Rattle.run_machine_laws.proofs.ReadGet.{further_refl, further_then, further_same, further_done, got_further}

none_some : {A : Type 0} {a : A} → ◌≡◌ {A = Option A} None (Some a) → ⊥
none_some e = cc

some_is : {A : Type 0} {a b : A} → ◌≡◌ {A = Option A} (Some a) (Some b) → a ≡ b
some_is e = cc

clip_done : (fs : List Frame) (d : Dyn) → (clip fs d).world.done ≡ d.world.done
clip_done [] d = refl
clip_done (f ∷ fs) d = clip_done fs (cut_to f.top d)

-- ---- the threads of a fork
module _ (run : Step → Option Final) (grows : (x : Step) (e : Final) → run x ≡ Some e → Further (done_by x) e.dyn.world.done) (start : Dyn → Share → Path) (top : ℕ) (begins : (d : Dyn) (j : Share) → (start d j).world ≡ d.world) where
  ran : (d : Dyn) (j : Share) (e : Final) → run (On (start d j)) ≡ Some e → Further d.world.done e.dyn.world.done
  ran d j e is = further_then _ _ _ (further_same _ _ (sym (ap (λ (w : World). w.done) (begins d j)))) (grows (On (start d j)) e is)

  came : (d : Dyn) (h : Result Gave Stop) (r : Forked) → Some (record { dyn = d; how = h }) ≡ Some r → Further d.world.done r.dyn.world.done
  came d h r e = further_same _ _ (ap (λ (r : Forked). r.dyn.world.done) (some_is e))

  -- ---- in order
  abbrev Rest : (Dyn → ℕ → Bool → List ℤ → Option Forked) → Type 0
  Rest k = (d : Dyn) (most : ℕ) (over : Bool) (vs : List ℤ) (r : Forked) → k d most over vs ≡ Some r → Further d.world.done r.dyn.world.done

  ended_further : (k : Dyn → ℕ → Bool → List ℤ → Option Forked) → Rest k → (most : ℕ) (over : Bool) (vs : List ℤ) (x : Stop) (d : Dyn) (r : Forked) → thread_ended run start top k most over vs x d ≡ Some r → Further d.world.done r.dyn.world.done
  ended_further k rest most over vs (Done v) d r e = rest d (max most d.turns) over (gathered vs v) r e
  ended_further k rest most over vs Spent d r e = rest d (max most d.turns) true vs r e
  ended_further k rest most over vs (Left l) d r e = came _ _ r e
  ended_further k rest most over vs Cut d r e = came _ _ r e
  ended_further k rest most over vs (Asks a) d r e = came _ _ r e
  ended_further k rest most over vs (Constructs a) d r e = came _ _ r e
  ended_further k rest most over vs Stuck d r e = came _ _ r e
  ended_further k rest most over vs Astray d r e = came _ _ r e

  went_further : (k : Dyn → ℕ → Bool → List ℤ → Option Forked) → Rest k → (most : ℕ) (over : Bool) (vs : List ℤ) (d : Dyn) (o : Option Final) → ((f : Final) → o ≡ Some f → Further d.world.done f.dyn.world.done) → (r : Forked) → thread_went run start top k most over vs o ≡ Some r → Further d.world.done r.dyn.world.done
  went_further k rest most over vs d None h r e = absurd (none_some e)
  went_further k rest most over vs d (Some f) h r e = further_then _ _ _ (h f refl) (ended_further k rest most over vs f.how (cut_to top f.dyn) r e)

  order_further : (from : ℕ) (js : List Share) → Rest (λ d most over vs. in_order run start top from js d most over vs)
  order_further from [] d most over vs r e = came _ _ r e
  order_further from (j ∷ js) d most over vs r e =
      went_further (λ d most over vs. in_order run start top from js d most over vs) (λ d m b us s z. order_further from js d m b us s z) most over vs d (run (On (start (with_turns from d) j))) (λ f is. ran (with_turns from d) j f is) r e

  -- ---- by notes
  abbrev Next : (Dyn → Option Leave → Option Forked) → Type 0
  Next k = (d : Dyn) (x : Option Leave) (r : Forked) → k d x ≡ Some r → Further d.world.done r.dyn.world.done

  noted_ended_further : (k : Dyn → Option Leave → Option Forked) → Next k → (d : Dyn) (y : Result (Option Leave) Stop) (r : Forked) → noted_ended run start top k d y ≡ Some r → Further d.world.done r.dyn.world.done
  noted_ended_further k next d (Ok x) r e = next d x r e
  noted_ended_further k next d (Err x) r e = came _ _ r e

  noted_went_further : (k : Dyn → Option Leave → Option Forked) → Next k → (fits : Stop → Result (Option Leave) Stop) (d : Dyn) (o : Option Final) → ((f : Final) → o ≡ Some f → Further d.world.done f.dyn.world.done) → (r : Forked) → noted_went run start top k fits d o ≡ Some r → Further d.world.done r.dyn.world.done
  noted_went_further k next fits d None h r e = absurd (none_some e)
  noted_went_further k next fits d (Some f) h r e = further_then _ _ _ (h f refl) (noted_ended_further k next _ (fits f.how) r e)

  thread_further : (k : Dyn → Option Leave → Option Forked) → Next k → (from : ℕ) (left : Option ℕ) (fits : Stop → Result (Option Leave) Stop) (d : Dyn) (j : Share) (r : Forked) → noted_thread run start top from left fits k d j ≡ Some r → Further d.world.done r.dyn.world.done
  thread_further k next from left fits d j r e =
      noted_went_further k next fits d (run (On (start (with_notes InOrder (with_left left (with_turns from d))) j))) (λ f is. ran (with_notes InOrder (with_left left (with_turns from d))) j f is) r e

  note_further : (k : Dyn → Option Leave → Option Forked) → Next k → (b : Bool) (n : ThreadNote) (from : ℕ) (d : Dyn) (j : Share) (r : Forked) → by_thread_note run start top b n from k d j ≡ Some r → Further d.world.done r.dyn.world.done
  note_further k next true Whole from d j r e = thread_further k next from None (fits_chosen run start top) d j r e
  note_further k next true NotBegun from d j r e = came _ _ r e
  note_further k next true (CutAfter n) from d j r e = came _ _ r e
  note_further k next false Whole from d j r e = thread_further k next from None (fits_whole run start top) d j r e
  note_further k next false NotBegun from d j r e = next d None r e
  note_further k next false (CutAfter n) from d j r e = thread_further k next from (Some n) (fits_cut run start top) d j r e

  chosen_further : (from chosen : ℕ) (js : List Share) (ns : List ThreadNote) → Next (λ d how. chosen_threads run start top from chosen js ns d how)
  chosen_further from chosen [] [] d how r e = came _ _ r e
  chosen_further from chosen [] (n ∷ ns) d how r e = came _ _ r e
  chosen_further from chosen (j ∷ js) [] d how r e = came _ _ r e
  chosen_further from chosen (j ∷ js) (n ∷ ns) d how r e =
      note_further (λ d x. chosen_threads run start top from chosen js ns d (or_else run start top x how)) (λ d x s z. chosen_further from chosen js ns d (or_else run start top x how) s z) (nat_eq j.number chosen) n from d j r e

  none_further : (notes : Schedule) (d : Dyn) (o : Option Forked) → ((s : Forked) → o ≡ Some s → Further d.world.done s.dyn.world.done) → (r : Forked) → none_left run start top notes o ≡ Some r → Further d.world.done r.dyn.world.done
  none_further notes d None h r e = absurd (none_some e)
  none_further notes d (Some s) h r e = further_then _ _ _ (h s refl) (came _ _ r e)

  notes_further : (notes : Schedule) (js : List Share) (d : Dyn) (r : Forked) → by_notes run start top notes js d ≡ Some r → Further d.world.done r.dyn.world.done
  notes_further InOrder js d r e = order_further d.turns js d d.turns false [] r e
  notes_further (ByNotes []) js d r e = came _ _ r e
  notes_further (ByNotes (n ∷ ns)) js d r e = go n.chosen n.threads e
    where
      go : (chosen : Option ℕ) (ts : List ThreadNote) → by_note run start top (record { chosen = chosen; threads = ts }) js (with_notes (ByNotes ns) d) ≡ Some r → Further d.world.done r.dyn.world.done
      go None ts e = none_further (ByNotes ns) d (in_order run start top d.turns js (with_notes InOrder (with_notes (ByNotes ns) d)) d.turns false []) (λ s is. order_further d.turns js (with_notes InOrder (with_notes (ByNotes ns) d)) d.turns false [] s is) r e
      go (Some k) ts e = chosen_further d.turns k js ts (with_notes (ByNotes ns) d) None r e

module _ (limit : ℕ) (c : Code) where
  answering_further : (f : Gave → Gave) (d : Option (List Deed)) (o : Option Forked) → ((s : Forked) → o ≡ Some s → Further d s.dyn.world.done) → (r : Forked) → answering c f o ≡ Some r → Further d r.dyn.world.done
  answering_further f d None h r e = absurd (none_some e)
  answering_further f d (Some s) h r e = further_then _ _ _ (h s refl) (further_same _ _ (ap (λ (r : Forked). r.dyn.world.done) (some_is e)))

  module _ (run : Step → Option Final) (grows : (x : Step) (e : Final) → run x ≡ Some e → Further (done_by x) e.dyn.world.done) where
    site_further : (o : Option CodeSite) (q : Asked) (p : Path) (r : Forked) → at_site c o run q p ≡ Some r → Further p.world.done r.dyn.world.done
    site_further None q p r e = further_same _ _ (ap (λ (r : Forked). r.dyn.world.done) (some_is e))
    site_further (Some site) q p r e =
        answering_further (answer_of c site.kind q) p.world.done (by_notes run (thread_at c (length p.state.cells) site q p) (length p.state.cells) p.world.notes (deal 0 0 (sizes_for p.world.plan site.kind q)) (raw_of p.state p.world))
        (λ s is. notes_further run grows (thread_at c (length p.state.cells) site q p) (length p.state.cells) (λ d j. refl) p.world.notes (deal 0 0 (sizes_for p.world.plan site.kind q)) (raw_of p.state p.world) s is) r e

  -- ---- one step
  end_done : (h : Result Gave Stop) (d : Dyn) (s : State) → done_by (fork_end c h d s) ≡ d.world.done
  end_done (Ok g) d s = refl
  end_done (Err x) d s = clip_done s.waiting d

  off_done : (x : Stop) (s : State) (w : World) → (dyn_of s w).world.done ≡ w.done
  off_done x s w = clip_done s.waiting _

  pub got_done : (r : Reads) (e : Result ℤ (Option Reason)) (s : State) (w : World) → done_by (given_got limit c r e s w) ≡ r.done
  got_done r (Ok v) s w = refl
  got_done r (Err (Some q)) s w = refl
  got_done r (Err None) s w = clip_done s.waiting _

  answered_further : (x : Stop) (s : State) (w : World) → Further w.done (done_by (answered limit c x s w))
  answered_further (Done v) s w = further_same _ _ (sym (off_done (Done v) s w))
  answered_further (Left l) s w = further_same _ _ (sym (off_done (Left l) s w))
  answered_further Spent s w = further_same _ _ (sym (off_done Spent s w))
  answered_further Cut s w = further_same _ _ (sym (off_done Cut s w))
  answered_further (Asks (io.Write bytes)) s w = further_done (PutOut bytes) w.done
  answered_further (Asks io.Take) s w =
      let r : Reads = record { turns = s.turns; taken = w.taken; held = w.held; input = w.input; done = w.done } in
      further_then _ _ _ (got_further limit r) (further_same _ _ (sym (got_done _ _ s w)))
  answered_further (Constructs q) s w = further_refl w.done
  answered_further Stuck s w = further_same _ _ (sym (off_done Stuck s w))
  answered_further Astray s w = further_same _ _ (sym (off_done Astray s w))

  driven_further : (t : Went) (w : World) → Further w.done (done_by (driven limit c t w))
  driven_further (Goes s) w = further_refl w.done
  driven_further (Stops x s) w = answered_further x s w

  -- ---- a whole run
  pub goes_further : (n : ℕ) (x : Step) (e : Final) → goes limit c n x ≡ Some e → Further (done_by x) e.dyn.world.done
  goes_further zero (On p) e is = absurd (none_some is)
  goes_further zero (Off f) e is = further_same _ _ (ap (λ (e : Final). e.dyn.world.done) (some_is is))
  goes_further zero (Forks q p) e is = absurd (none_some is)
  goes_further (suc n) (On p) e is = further_then _ _ _ (driven_further (step limit c p.state) p.world) (goes_further n (driven limit c (step limit c p.state) p.world) e is)
  goes_further (suc n) (Off f) e is = further_same _ _ (ap (λ (e : Final). e.dyn.world.done) (some_is is))
  goes_further (suc n) (Forks q p) e is = forked n (fork c (goes limit c n) q p) refl (λ x e z. goes_further n x e z) is
    where
      forked : (n : ℕ) (o : Option Forked) → fork c (goes limit c n) q p ≡ o → ((x : Step) (e : Final) → goes limit c n x ≡ Some e → Further (done_by x) e.dyn.world.done) → after_fork limit c o p (goes limit c n) ≡ Some e → Further p.world.done e.dyn.world.done
      forked n None came grows is = absurd (none_some is)
      forked n (Some r) came grows is =
          further_then _ _ _ (site_further (goes limit c n) grows (slice_get c.sites q.site) q p r came)
          (further_then _ _ _ (further_same _ _ (sym (end_done r.how r.dyn p.state))) (grows (fork_ended c r p) e is))
