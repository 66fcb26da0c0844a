-- With more steps a path comes to no other end.
use Rattle.std.proofs.Common.{◌≡◌, ℕ, zero, suc, ◌+◌, ◌-◌, ◌≤◌, ℤ, List, [], ◌∷◌, length, slice_get, nat_eq, Option, Some, None, Result, Ok, Err, Bool, true, false, refl, sym, ap, ◌∙◌, subst, arith}
use Rattle.behaviours.specs.Joins.{Share}
use Rattle.ada_base.specs.Notes.{ThreadNote, Whole, NotBegun, CutAfter, Schedule, InOrder, ByNotes}
use Rattle.stack_code.specs.declared.code.Code.{Code}
use Rattle.stack_code.specs.declared.code.CodeSite.{CodeSite}
use Rattle.stack_code.specs.declared.path.Asked.{Asked}
use Rattle.stack_code.specs.declared.path.Gave.{Gave}
use Rattle.stack_code.specs.declared.path.Leave.{Leave}
use Rattle.stack_code.specs.Machine.{Stop, Done, Left, Spent, Cut, Asks, Constructs, Stuck, Astray}
use Rattle.ada_lower.specs.Driven.{Dyn, Path, Final, Step, On, Off, Forks, Forked, thread_ended, thread_went, in_order, none_left, noted_ended, noted_went, by_thread_note, chosen_threads, by_note, by_notes, fits_chosen, fits_whole, fits_cut, or_else, with_turns, with_left, with_notes, cut_to, thread_at, answer_of, answering, at_site, fork, fork_ended, after_fork, halted, onward, goes, drive, Finally, Fine, Along, Safe, Comes}

none_some : {A : Type 0} {a : A} → ◌≡◌ {A = Option A} None (Some a) → ⊥
none_some e = cc

module _ (run run' : Step → Option Final) (more : (x : Step) (e : Final) → run x ≡ Some e → run' x ≡ Some e) (start : Dyn → Share → Path) (top : ℕ) where
  ended_more : (k k' : Dyn → ℕ → Bool → List ℤ → Option Forked) → ((d : Dyn) (m : ℕ) (b : Bool) (vs : List ℤ) (r : Forked) → k d m b vs ≡ Some r → k' d m b vs ≡ Some r)
      → (most : ℕ) (over : Bool) (vs : List ℤ) (x : Stop) (d : Dyn) (r : Forked) → thread_ended run start top k most over vs x d ≡ Some r → thread_ended run' start top k' most over vs x d ≡ Some r
  ended_more k k' h most over vs (Done v) d r e = h d _ over _ r e
  ended_more k k' h most over vs Spent d r e = h d _ true vs r e
  ended_more k k' h most over vs (Left l) d r e = e
  ended_more k k' h most over vs Cut d r e = e
  ended_more k k' h most over vs (Asks io) d r e = e
  ended_more k k' h most over vs (Constructs q) d r e = e
  ended_more k k' h most over vs Stuck d r e = e
  ended_more k k' h most over vs Astray d r e = e

  went_more : (k k' : Dyn → ℕ → Bool → List ℤ → Option Forked) → ((d : Dyn) (m : ℕ) (b : Bool) (vs : List ℤ) (r : Forked) → k d m b vs ≡ Some r → k' d m b vs ≡ Some r)
      → (most : ℕ) (over : Bool) (vs : List ℤ) (x : Step) (o : Option Final) → run x ≡ o → (r : Forked) → thread_went run start top k most over vs o ≡ Some r → thread_went run' start top k' most over vs (run' x) ≡ Some r
  went_more k k' h most over vs x None is r e = absurd (none_some e)
  went_more k k' h most over vs x (Some f) is r e =
      subst (λ o. thread_went run' start top k' most over vs o ≡ Some r) (sym (more x f is)) (ended_more k k' h most over vs f.how (cut_to top f.dyn) r e)

  pub in_order_more : (from : ℕ) (js : List Share) (d : Dyn) (most : ℕ) (over : Bool) (vs : List ℤ) (r : Forked) → in_order run start top from js d most over vs ≡ Some r → in_order run' start top from js d most over vs ≡ Some r
  in_order_more from [] d most over vs r e = e
  in_order_more from (j ∷ js) d most over vs r e =
      went_more (λ d most over vs. in_order run start top from js d most over vs) (λ d most over vs. in_order run' start top from js d most over vs) (λ d m b vs r e. in_order_more from js d m b vs r e)
      most over vs (On (start (with_turns from d) j)) (run (On (start (with_turns from d) j))) refl r e

  noted_ended_more : (k k' : Dyn → Option Leave → Option Forked) → ((d : Dyn) (x : Option Leave) (r : Forked) → k d x ≡ Some r → k' d x ≡ Some r)
      → (d : Dyn) (y : Result (Option Leave) Stop) (r : Forked) → noted_ended run start top k d y ≡ Some r → noted_ended run' start top k' d y ≡ Some r
  noted_ended_more k k' h d (Ok x) r e = h d x r e
  noted_ended_more k k' h d (Err x) r e = e

  noted_went_more : (k k' : Dyn → Option Leave → Option Forked) → ((d : Dyn) (x : Option Leave) (r : Forked) → k d x ≡ Some r → k' d x ≡ Some r)
      → (fits : Stop → Result (Option Leave) Stop) (d : Dyn) (x : Step) (o : Option Final) → run x ≡ o → (r : Forked) → noted_went run start top k fits d o ≡ Some r → noted_went run' start top k' fits d (run' x) ≡ Some r
  noted_went_more k k' h fits d x None is r e = absurd (none_some e)
  noted_went_more k k' h fits d x (Some f) is r e =
      subst (λ o. noted_went run' start top k' fits d o ≡ Some r) (sym (more x f is)) (noted_ended_more k k' h _ (fits f.how) r e)

  note_more : (k k' : Dyn → Option Leave → Option Forked) → ((d : Dyn) (x : Option Leave) (r : Forked) → k d x ≡ Some r → k' d x ≡ Some r)
      → (b : Bool) (n : ThreadNote) (from : ℕ) (d : Dyn) (j : Share) (r : Forked) → by_thread_note run start top b n from k d j ≡ Some r → by_thread_note run' start top b n from k' d j ≡ Some r
  note_more k k' h true Whole from d j r e = noted_went_more k k' h (fits_chosen run start top) d _ (run (On (start (with_notes InOrder (with_left None (with_turns from d))) j))) refl r e
  note_more k k' h true NotBegun from d j r e = e
  note_more k k' h true (CutAfter n) from d j r e = e
  note_more k k' h false Whole from d j r e = noted_went_more k k' h (fits_whole run start top) d _ (run (On (start (with_notes InOrder (with_left None (with_turns from d))) j))) refl r e
  note_more k k' h false NotBegun from d j r e = h d None r e
  note_more k k' h false (CutAfter n) from d j r e = noted_went_more k k' h (fits_cut run start top) d _ (run (On (start (with_notes InOrder (with_left (Some n) (with_turns from d))) j))) refl r e

  chosen_more : (from chosen : ℕ) (js : List Share) (ns : List ThreadNote) (d : Dyn) (how : Option Leave) (r : Forked) → chosen_threads run start top from chosen js ns d how ≡ Some r → chosen_threads run' start top from chosen js ns d how ≡ Some r
  chosen_more from chosen [] [] d how r e = e
  chosen_more from chosen [] (n ∷ ns) d how r e = e
  chosen_more from chosen (j ∷ js) [] d how r e = e
  chosen_more from chosen (j ∷ js) (n ∷ ns) d how r e =
      note_more (λ d x. chosen_threads run start top from chosen js ns d (or_else run start top x how)) (λ d x. chosen_threads run' start top from chosen js ns d (or_else run' start top x how))
      (λ d x r e. chosen_more from chosen js ns d (or_else run start top x how) r e) (nat_eq j.number chosen) n from d j r e

  none_more : (notes : Schedule) (o o' : Option Forked) → ((r : Forked) → o ≡ Some r → o' ≡ Some r) → (r : Forked) → none_left run start top notes o ≡ Some r → none_left run' start top notes o' ≡ Some r
  none_more notes None o' h r e = absurd (none_some e)
  none_more notes (Some f) o' h r e = subst (λ o. none_left run' start top notes o ≡ Some r) (sym (h f refl)) e

  pub by_notes_more : (notes : Schedule) (js : List Share) (d : Dyn) (r : Forked) → by_notes run start top notes js d ≡ Some r → by_notes run' start top notes js d ≡ Some r
  by_notes_more InOrder js d r e = in_order_more d.turns js d d.turns false [] r e
  by_notes_more (ByNotes []) js d r e = e
  by_notes_more (ByNotes (n ∷ ns)) js d r e = go n.chosen n.threads (with_notes (ByNotes ns) d) e
    where
      go : (c : Option ℕ) (ts : List ThreadNote) (d : Dyn) → by_note run start top (record { chosen = c; threads = ts }) js d ≡ Some r → by_note run' start top (record { chosen = c; threads = ts }) js d ≡ Some r
      go None ts d e = none_more d.world.notes _ _ (λ r e. in_order_more d.turns js (with_notes InOrder d) d.turns false [] r e) r e
      go (Some chosen) ts d e = chosen_more d.turns chosen js ts d None r e

module _ (limit : ℕ) (c : Code) where
  answering_more : (f : Gave → Gave) (o o' : Option Forked) → ((r : Forked) → o ≡ Some r → o' ≡ Some r) → (r : Forked) → answering c f o ≡ Some r → answering c f o' ≡ Some r
  answering_more f None o' h r e = absurd (none_some e)
  answering_more f (Some x) o' h r e = subst (λ o. answering c f o ≡ Some r) (sym (h x refl)) e

  site_more : (run run' : Step → Option Final) → ((x : Step) (e : Final) → run x ≡ Some e → run' x ≡ Some e) → (o : Option CodeSite) (q : Asked) (p : Path) (r : Forked) → at_site c o run q p ≡ Some r → at_site c o run' q p ≡ Some r
  site_more run run' more None q p r e = e
  site_more run run' more (Some site) q p r e =
      answering_more (answer_of c site.kind q) _ _ (λ r e. by_notes_more run run' more (thread_at c (length p.state.cells) site q p) (length p.state.cells) p.world.notes _ _ r e) r e

  after_more : (run run' : Step → Option Final) → ((x : Step) (e : Final) → run x ≡ Some e → run' x ≡ Some e) → (o o' : Option Forked) → ((r : Forked) → o ≡ Some r → o' ≡ Some r) → (p : Path) (e : Final) → after_fork limit c o p run ≡ Some e → after_fork limit c o' p run' ≡ Some e
  after_more run run' more None o' h p e is = absurd (none_some is)
  after_more run run' more (Some x) o' h p e is = subst (λ o. after_fork limit c o p run' ≡ Some e) (sym (h x refl)) (more _ e is)

  onward_more : (run run' : Step → Option Final) → ((x : Step) (e : Final) → run x ≡ Some e → run' x ≡ Some e) → (x : Step) (e : Final) → onward limit c run x ≡ Some e → onward limit c run' x ≡ Some e
  onward_more run run' more (On p) e is = more _ e is
  onward_more run run' more (Off f) e is = is
  onward_more run run' more (Forks q p) e is = after_more run run' more (fork c run q p) _ (λ r z. site_more run run' more (slice_get c.sites q.site) q p r z) p e is

  halted_more : (x : Step) (e : Final) → halted limit c x ≡ Some e → onward limit c (halted limit c) x ≡ Some e
  halted_more (On p) e is = absurd (none_some is)
  halted_more (Off f) e is = is
  halted_more (Forks q p) e is = absurd (none_some is)

  goes_suc : (n : ℕ) (x : Step) (e : Final) → goes limit c n x ≡ Some e → goes limit c (suc n) x ≡ Some e
  goes_suc zero x e is = go x is
    where
      go : (x : Step) → halted limit c x ≡ Some e → onward limit c (goes limit c zero) x ≡ Some e
      go (On p) is = absurd (none_some is)
      go (Off f) is = is
      go (Forks q p) is = absurd (none_some is)
  goes_suc (suc n) x e is = onward_more (goes limit c n) (goes limit c (suc n)) (λ x e z. goes_suc n x e z) x e is

  pub goes_more : (n k : ℕ) (x : Step) (e : Final) → goes limit c n x ≡ Some e → goes limit c (n + k) x ≡ Some e
  goes_more n zero x e is = subst (λ m. goes limit c m x ≡ Some e) (let z : n ≡ n + 0 = omega arith in z) is
  goes_more n (suc k) x e is = subst (λ m. goes limit c m x ≡ Some e) (let z : suc (n + k) ≡ n + suc k = omega arith in z) (goes_suc (n + k) x e (goes_more n k x e is))

  pub goes_by : (n m : ℕ) (x : Step) (e : Final) → n ≤ m → goes limit c n x ≡ Some e → goes limit c m x ≡ Some e
  goes_by n m x e le is = subst (λ m. goes limit c m x ≡ Some e) (let z : n + (m - n) ≡ m = omega (arith, le) in z) (goes_more n (m - n) x e is)

  -- an end is one
  pub off_ends : (e : Final) → Finally limit c (Off e) e
  off_ends e = (0, refl)

  some_is : {A : Type 0} {a b : A} → ◌≡◌ {A = Option A} (Some a) (Some b) → a ≡ b
  some_is e = cc

  -- what the threads of a fork come to is one
  pub fork_once : (n m : ℕ) (q : Asked) (p : Path) (r r' : Forked) → ((m : ℕ) → n ≤ m → fork c (λ x. goes limit c m x) q p ≡ Some r) → fork c (λ x. goes limit c m x) q p ≡ Some r' → r ≡ r'
  fork_once n m q p r r' is e =
      some_is (sym (is (n + m) (omega arith)) ∙ site_more (λ x. goes limit c m x) (λ x. goes limit c (n + m) x) (λ x f z. goes_by m (n + m) x f (omega arith) z) (slice_get c.sites q.site) q p r' e)

  -- a fork that is fine, of which the threads came to this with so many steps
  pub comes_fork : (n : ℕ) (q : Asked) (p : Path) (r : Forked) (asked : Bool) → (asked ≡ true → Fine limit c q p) → ((m : ℕ) → n ≤ m → fork c (λ x. goes limit c m x) q p ≡ Some r) → Comes limit c asked (Forks q p) (fork_ended c r p)
  comes_fork n q p r asked fine is = record {
    to = λ e (m, ends). (suc (n + m), ap (λ o. after_fork limit c o p (λ x. goes limit c (n + m) x)) (is (n + m) (omega arith)) ∙ goes_by m (n + m) _ e (omega arith) ends);
    safe = safe;
  }
    where
      safe : Safe limit c asked (fork_ended c r p) → (k : ℕ) → Along limit c asked k (Forks q p)
      safe s zero = tt
      safe s (suc k) = (fine, λ m r' e. subst (λ r. Along limit c asked k (fork_ended c r p)) (fork_once n m q p r r' is e) (s k))

  -- where the forks of a path are fine, so are those of what it goes on as
  pub safe_drives : (asked : Bool) (p : Path) → Safe limit c asked (On p) → Safe limit c asked (drive limit c p)
  safe_drives asked p s n = s (suc n)

  pub safe_forks : (q : Asked) (p : Path) → Safe limit c true (Forks q p) → Fine limit c q p
  safe_forks q p s = (s 1).0 refl

  pub safe_forked : (asked : Bool) (m : ℕ) (q : Asked) (p : Path) (r : Forked) → fork c (λ x. goes limit c m x) q p ≡ Some r → Safe limit c asked (Forks q p) → Safe limit c asked (fork_ended c r p)
  safe_forked asked m q p r is s n = (s (suc n)).1 m r is

  pub safe_off : (asked : Bool) (e : Final) → Safe limit c asked (Off e)
  safe_off asked e zero = tt
  safe_off asked e (suc n) = tt
