-- From a path that comes to an end, what it comes to on the way does too.
use Rattle.std.proofs.Common.{◌≡◌, ℕ, zero, suc, ℤ, Bool, false, List, [], ◌∷◌, length, slice_get, Option, Some, None, Result, Ok, Err, refl, sym, subst}
use Rattle.behaviours.specs.Joins.{Share, deal}
use Rattle.ada_base.specs.Cuts.{Plan}
use Rattle.ada_workers.specs.Paths.{Fine}
use Rattle.stack_code.specs.declared.code.Code.{Code}
use Rattle.stack_code.specs.declared.code.CodeSite.{CodeSite}
use Rattle.stack_code.specs.declared.path.Asked.{Asked}
use Rattle.stack_code.specs.declared.path.Gave.{Gave}
use Rattle.stack_code.specs.Machine.{State, Stop, Done, Left, Spent, Cut, Asks, Constructs, Stuck, Astray, Went, Goes, Stops, step, going, run}
use Rattle.stack_code.specs.Machine as machine
use Rattle.ada_lower.specs.Driven.{World, Dyn, Path, Final, On, Off, Forks, Forked, cut_to, raw_of, sizes_for, with_turns, thread_ended, thread_went, in_order, thread_at, answer_of, with_answer, answering, at_site, fork_ended, driven, answered, after_fork}
use Rattle.machine_paths.specs.Silent.{unasked, silently, Quietly, AsksNothing, Orders}
use Rattle.machine_paths.specs.Threads.{quiet, ending}
use Rattle.ada_threads.specs.Going.{FineHow}

none_some : {A : Type 0} {a : A} → ◌≡◌ {A = Option A} None (Some a) → ⊥
none_some e = cc

some_is : {A : Type 0} (x y : A) → ◌≡◌ {A = Option A} (Some x) (Some y) → x ≡ y
some_is x y e = cc

goes_stops : (s t : State) (x : Stop) → Goes s ≡ Stops x t → ⊥
goes_stops s t x e = cc

module _ (limit : ℕ) (c : Code) where
  abbrev path_at : State → World → Path
  path_at s w = record { state = s; world = w }

  asked_not : (t : Went) (w : World) (f : Final) (n : ℕ) → AsksNothing t → unasked limit c (silently limit c n) t w ≡ Some f → silently limit c n (driven limit c t w) ≡ Some f
  asked_not (Goes s) w f n a e = e
  asked_not (Stops (Asks i) s) w f n a e = absurd a
  asked_not (Stops (Constructs q) s) w f n a e = e
  asked_not (Stops (Done v) s) w f n a e = e
  asked_not (Stops (Left l) s) w f n a e = e
  asked_not (Stops Spent s) w f n a e = e
  asked_not (Stops Cut s) w f n a e = e
  asked_not (Stops Stuck s) w f n a e = e
  asked_not (Stops Astray s) w f n a e = e

  onward : (n m : ℕ) (p : State) (x : Stop) (q : State) (w : World) (e : Final) → AsksNothing (Stops x q) → run limit c n p ≡ Stops x q → silently limit c m (On (path_at p w)) ≡ Some e → Quietly limit c (answered limit c x q w) e
  onward zero m p x q w e a is f = absurd (goes_stops p q x is)
  onward (suc n) zero p x q w e a is f = absurd (none_some f)
  onward (suc n) (suc m) p x q w e a is f = by_step (step limit c p) (λ s g h. onward n m s x q w e a g h) is f where
    by_step : (t : Went) → ((s : State) → run limit c n s ≡ Stops x q → silently limit c m (On (path_at s w)) ≡ Some e → Quietly limit c (answered limit c x q w) e)
        → going limit c t (λ s. run limit c n s) ≡ Stops x q → unasked limit c (silently limit c m) t w ≡ Some e → Quietly limit c (answered limit c x q w) e
    by_step (Goes s) rest g h = rest s g h
    by_step (Stops y s) rest g h = (m, asked_not (Stops x q) w e m a (subst (λ t. unasked limit c (silently limit c m) t w ≡ Some e) g h))

  -- where the machine stops
  pub onward_stops : (p : State) (x : Stop) (q : State) (w : World) (e : Final) → AsksNothing (Stops x q) → machine.Comes_to limit c p x q → Quietly limit c (On (path_at p w)) e → Quietly limit c (answered limit c x q w) e
  onward_stops p x q w e a h f = onward h.steps f.0 p x q w e a h.leads f.1

  module _ (plan : Plan) (q : Asked) (s : State) (site : CodeSite) where
    abbrev forker : Path
    forker = path_at s (quiet plan)

    abbrev shares : List Share
    shares = deal 0 0 (sizes_for (quiet plan).plan site.kind q)

    abbrev begins : Dyn → Share → Path
    begins = thread_at c (length s.cells) site q forker

    abbrev pub Forking : Final → Type 0
    Forking e =
        (r : Forked) × Orders limit c begins (length s.cells) s.turns shares (raw_of s (quiet plan)) s.turns false [] r
        × Quietly limit c (fork_ended c (record { dyn = r.dyn; how = with_answer c (answer_of c site.kind q) r.how }) forker) e

    by_order : (m : ℕ) (e : Final) (o : Option Forked) → in_order (silently limit c m) begins (length s.cells) s.turns shares (raw_of s (quiet plan)) s.turns false [] ≡ o
        → after_fork limit c (answering c (answer_of c site.kind q) o) forker (silently limit c m) ≡ Some e → Forking e
    by_order m e None is g = absurd (none_some g)
    by_order m e (Some r) is g = (r, (m, is), (m, g))

    -- the threads of a construct, and what follows it
    pub onward_fork : (e : Final) → slice_get c.sites q.site ≡ Some site → Quietly limit c (Forks q forker) e → Forking e
    onward_fork e at (zero, h) = absurd (none_some h)
    onward_fork e at (suc m, h) = by_order m e (in_order (silently limit c m) begins (length s.cells) s.turns shares (raw_of s (quiet plan)) s.turns false []) refl
        (subst (λ k. after_fork limit c (at_site c k (silently limit c m) q forker) forker (silently limit c m) ≡ Some e) at h)

  module _ (start : Dyn → Share → Path) (top from : ℕ) where
    -- the threads behind one that ended so come to r
    abbrev pub Behind : List Share → ℕ → Bool → List ℤ → Final → Forked → Type 0
    Behind js most over us f r = (n : ℕ) × (thread_ended (silently limit c n) start top (λ d m o us. in_order (silently limit c n) start top from js d m o us) most over us f.how (cut_to top f.dyn) ≡ Some r)

    -- the first of threads, and those behind it
    pub onward_thread : (j : Share) (js : List Share) (d : Dyn) (most : ℕ) (over : Bool) (us : List ℤ) (r : Forked) → Orders limit c start top from (j ∷ js) d most over us r →
        (f : Final) × Quietly limit c (On (start (with_turns from d) j)) f × Behind js most over us f r
    onward_thread j js d most over us r (n, h) = by_run (silently limit c n (On (start (with_turns from d) j))) refl h where
      by_run : (o : Option Final) → silently limit c n (On (start (with_turns from d) j)) ≡ o → thread_went (silently limit c n) start top (λ d m o us. in_order (silently limit c n) start top from js d m o us) most over us o ≡ Some r →
          (f : Final) × Quietly limit c (On (start (with_turns from d) j)) f × Behind js most over us f r
      by_run None is g = absurd (none_some g)
      by_run (Some f) is g = (f, (n, is), (n, g))

    how_of : (d : Dyn) (x : Stop) (r : Forked) → FineHow r.how → Some (record { dyn = d; how = Err x }) ≡ Some r → Fine (ending x)
    how_of d x r fine e = subst (λ (r : Forked). FineHow r.how) (sym (some_is (record { dyn = d; how = Err x }) r e)) fine

    pub fine_first : (js : List Share) (most : ℕ) (over : Bool) (us : List ℤ) (x : Stop) (d : Dyn) (r : Forked) → FineHow r.how → Behind js most over us (record { how = x; dyn = d }) r → Fine (ending x)
    fine_first js most over us (Done v) d r fine h = tt
    fine_first js most over us (Left l) d r fine h = tt
    fine_first js most over us Spent d r fine h = tt
    fine_first js most over us Cut d r fine h = tt
    fine_first js most over us (Asks i) d r fine h = how_of _ (Asks i) r fine h.1
    fine_first js most over us (Constructs q) d r fine h = how_of _ (Constructs q) r fine h.1
    fine_first js most over us Stuck d r fine h = how_of _ Stuck r fine h.1
    fine_first js most over us Astray d r fine h = how_of _ Astray r fine h.1

  off_is : (n : ℕ) (f e : Final) → silently limit c n (Off f) ≡ Some e → f ≡ e
  off_is zero f e h = some_is f e h
  off_is (suc n) f e h = some_is f e h

  pub ended_is : (f e : Final) → Quietly limit c (Off f) e → f ≡ e
  ended_is f e h = off_is h.0 f e h.1

  -- what threads come to isn't stuck, where what follows isn't
  pub fine_how : (how : Result Gave Stop) (g : Gave → Gave) (d : Dyn) (p : Path) (e : Final) → Fine (ending e.how) → Quietly limit c (fork_ended c (record { dyn = d; how = with_answer c g how }) p) e → FineHow how
  fine_how (Ok v) g d p e fine h = tt
  fine_how (Err x) g d p e fine h = subst (λ (f : Final). Fine (ending f.how)) (sym (ended_is _ e h)) fine
