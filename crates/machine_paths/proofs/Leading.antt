-- What a loop that calls the machine goes by: runs of the machine as steps of a path, of a thread's too.
use Rattle.std.proofs.Common.{◌≡◌, ℕ, zero, suc, ◌+◌, ◌≤◌, ℤ, Bool, true, false, cond, List, [], ◌∷◌, length, slice_get, Option, Some, None, Ok, Err, arith, refl, sym, ◌∙◌, ap, subst}
use Rattle.std.specs.Prelude.{max}
use Rattle.behaviours.specs.Joins.{Share, deal}
use Rattle.ada_base.specs.Notes.{Schedule, InOrder}
use Rattle.ada_base.specs.Cells.{Cell}
use Rattle.ada_workers.specs.Paths.{Fine}
use Rattle.stack_code.specs.declared.code.Code.{Code}
use Rattle.stack_code.specs.declared.code.CodeSite.{CodeSite}
use Rattle.stack_code.specs.declared.path.Asked.{Asked}
use Rattle.stack_code.specs.declared.path.Io.{Io}
use Rattle.stack_code.specs.declared.path.Gave.TheVariants as gave
use Rattle.stack_code.specs.declared.path.Leave.{Leave}
use Rattle.stack_code.specs.Machine.{State, Stop, Done, Left, Spent, Cut, Asks, Constructs, Stuck, Astray, Went, Goes, Stops, step, going, run}
use Rattle.stack_code.specs.Machine as machine
use Rattle.ada_lower.specs.Driven.{World, Dyn, Path, Final, Step, On, Off, Forks, Forked, cut_to, raw_of, sizes_for, with_turns, thread_ended, thread_went, in_order, by_notes, gathered, thread_at, answer_of, with_answer, answering, at_site, fork_ended, driven, answered, after_fork, goes}
use Rattle.machine_paths.specs.Silent.{unasked, silently, Quietly, Leads, Reaches, AsksNothing, Orders}
use Rattle.ada_lower.proofs.ForkFuel.{in_order_more}
use Rattle.machine_paths.specs.Threads.{ThreadPath, starts, outcome_of, enough, ran, runs}
use Rattle.machine_paths.proofs.Worlds.{silently_by}

none_some : {A : Type 0} {a : A} → ◌≡◌ {A = Option A} None (Some a) → ⊥
none_some e = cc

goes_is : (s t : State) → Goes s ≡ Goes t → s ≡ t
goes_is s t e = cc

goes_stops : (s t : State) (x : Stop) → Goes s ≡ Stops x t → ⊥
goes_stops s t x e = cc

module _ (limit : ℕ) (c : Code) where
  abbrev path_at : State → World → Path
  path_at s w = record { state = s; world = w }

  -- ---- Driven's path
  comes_by : (s : State) (w : World) (t : Went) → step limit c s ≡ t → Reaches limit c (On (path_at s w)) (driven limit c t w)
  comes_by s w t e = λ f r. (suc r.0, ap (λ t. goes limit c r.0 (driven limit c t w)) e ∙ r.1)

  comes_then : {x y z : Step} → Reaches limit c x y → Reaches limit c y z → Reaches limit c x z
  comes_then a b = λ e r. a e (b e r)

  goes_on : (n : ℕ) (p q : State) (w : World) → run limit c n p ≡ Goes q → Reaches limit c (On (path_at p w)) (On (path_at q w))
  goes_on zero p q w e = subst (λ q. Reaches limit c (On (path_at p w)) (On (path_at q w))) (goes_is p q e) (λ f r. r)
  goes_on (suc n) p q w e = by_step (step limit c p) refl (λ s g. goes_on n s q w g) e where
    by_step : (t : Went) → step limit c p ≡ t → ((s : State) → run limit c n s ≡ Goes q → Reaches limit c (On (path_at s w)) (On (path_at q w))) → going limit c t (λ s. run limit c n s) ≡ Goes q → Reaches limit c (On (path_at p w)) (On (path_at q w))
    by_step (Goes s) is rest g = comes_then (comes_by p w (Goes s) is) (rest s g)
    by_step (Stops x s) is rest g = absurd (goes_stops q s x (sym g))

  stops_is : (x y : Stop) (s t : State) (w : World) → Stops x s ≡ Stops y t → answered limit c x s w ≡ answered limit c y t w
  stops_is x y s t w e = ap (λ v. driven limit c v w) e

  stops_on : (n : ℕ) (p : State) (x : Stop) (q : State) (w : World) → run limit c n p ≡ Stops x q → Reaches limit c (On (path_at p w)) (answered limit c x q w)
  stops_on zero p x q w e = absurd (goes_stops p q x e)
  stops_on (suc n) p x q w e = by_step (step limit c p) refl (λ s g. stops_on n s x q w g) e where
    by_step : (t : Went) → step limit c p ≡ t → ((s : State) → run limit c n s ≡ Stops x q → Reaches limit c (On (path_at s w)) (answered limit c x q w)) → going limit c t (λ s. run limit c n s) ≡ Stops x q → Reaches limit c (On (path_at p w)) (answered limit c x q w)
    by_step (Goes s) is rest g = comes_then (comes_by p w (Goes s) is) (rest s g)
    by_step (Stops y s) is rest g = subst (λ z. Reaches limit c (On (path_at p w)) z) (stops_is y x s q w g) (comes_by p w (Stops y s) is)

  pub comes_goes : (p q : State) (w : World) → machine.Comes limit c p q → Reaches limit c (On (path_at p w)) (On (path_at q w))
  comes_goes p q w h = goes_on h.steps p q w h.leads

  pub comes_stops : (p : State) (x : Stop) (q : State) (w : World) → machine.Comes_to limit c p x q → Reaches limit c (On (path_at p w)) (answered limit c x q w)
  comes_stops p x q w h = stops_on h.steps p x q w h.leads

  -- ---- a thread's path
  leads_then : {x y z : Step} → Leads limit c x y → Leads limit c y z → Leads limit c x z
  leads_then a b = λ e r. a e (b e r)

  asks_not : (t : Went) (w : World) (f : Final) (n : ℕ) → AsksNothing t → silently limit c n (driven limit c t w) ≡ Some f → unasked limit c (silently limit c n) t w ≡ Some f
  asks_not (Goes s) w f n a e = e
  asks_not (Stops (Asks i) s) w f n a e = absurd a
  asks_not (Stops (Constructs q) s) w f n a e = e
  asks_not (Stops (Done v) s) w f n a e = e
  asks_not (Stops (Left l) s) w f n a e = e
  asks_not (Stops Spent s) w f n a e = e
  asks_not (Stops Cut s) w f n a e = e
  asks_not (Stops Stuck s) w f n a e = e
  asks_not (Stops Astray s) w f n a e = e

  leads_by : (s : State) (w : World) (t : Went) → AsksNothing t → step limit c s ≡ t → Leads limit c (On (path_at s w)) (driven limit c t w)
  leads_by s w t a e = λ f r. (suc r.0, ap (λ t. unasked limit c (silently limit c r.0) t w) e ∙ asks_not t w f r.0 a r.1)

  quiet_on : (n : ℕ) (p q : State) (w : World) → run limit c n p ≡ Goes q → Leads limit c (On (path_at p w)) (On (path_at q w))
  quiet_on zero p q w e = subst (λ q. Leads limit c (On (path_at p w)) (On (path_at q w))) (goes_is p q e) (λ f r. r)
  quiet_on (suc n) p q w e = by_step (step limit c p) refl (λ s g. quiet_on n s q w g) e where
    by_step : (t : Went) → step limit c p ≡ t → ((s : State) → run limit c n s ≡ Goes q → Leads limit c (On (path_at s w)) (On (path_at q w))) → going limit c t (λ s. run limit c n s) ≡ Goes q → Leads limit c (On (path_at p w)) (On (path_at q w))
    by_step (Goes s) is rest g = leads_then (leads_by p w (Goes s) tt is) (rest s g)
    by_step (Stops x s) is rest g = absurd (goes_stops q s x (sym g))

  quiet_stops : (n : ℕ) (p : State) (x : Stop) (q : State) (w : World) → AsksNothing (Stops x q) → run limit c n p ≡ Stops x q → Leads limit c (On (path_at p w)) (answered limit c x q w)
  quiet_stops zero p x q w a e = absurd (goes_stops p q x e)
  quiet_stops (suc n) p x q w a e = by_step (step limit c p) refl (λ s g. quiet_stops n s x q w a g) e where
    by_step : (t : Went) → step limit c p ≡ t → ((s : State) → run limit c n s ≡ Stops x q → Leads limit c (On (path_at s w)) (answered limit c x q w)) → going limit c t (λ s. run limit c n s) ≡ Stops x q → Leads limit c (On (path_at p w)) (answered limit c x q w)
    by_step (Goes s) is rest g = leads_then (leads_by p w (Goes s) tt is) (rest s g)
    by_step (Stops y s) is rest g = subst (λ z. Leads limit c (On (path_at p w)) z) (stops_is y x s q w g) (leads_by p w (Stops y s) (subst AsksNothing (sym g) a) is)

  pub leads_goes : (p q : State) (w : World) → machine.Comes limit c p q → Leads limit c (On (path_at p w)) (On (path_at q w))
  leads_goes p q w h = quiet_on h.steps p q w h.leads

  pub leads_stops : (p : State) (x : Stop) (q : State) (w : World) → AsksNothing (Stops x q) → machine.Comes_to limit c p x q → Leads limit c (On (path_at p w)) (answered limit c x q w)
  leads_stops p x q w a h = quiet_stops h.steps p x q w a h.leads

  -- one that asks comes to nothing
  asks_none : (n m : ℕ) (p : State) (i : Io) (q : State) (w : World) (e : Final) → run limit c n p ≡ Stops (Asks i) q → silently limit c m (On (path_at p w)) ≡ Some e → ⊥
  asks_none zero m p i q w e is f = goes_stops p q (Asks i) is
  asks_none (suc n) zero p i q w e is f = none_some f
  asks_none (suc n) (suc m) p i q w e is f = by_step (step limit c p) (λ s g h. asks_none n m s i q w e g h) is f where
    by_step : (t : Went) → ((s : State) → run limit c n s ≡ Stops (Asks i) q → silently limit c m (On (path_at s w)) ≡ Some e → ⊥) → going limit c t (λ s. run limit c n s) ≡ Stops (Asks i) q → unasked limit c (silently limit c m) t w ≡ Some e → ⊥
    by_step (Goes s) rest g h = rest s g h
    by_step (Stops y s) rest g h = none_some (subst (λ t. unasked limit c (silently limit c m) t w ≡ Some e) g h)

  pub asks_nothing : (p : State) (i : Io) (q : State) (w : World) (e : Final) → machine.Comes_to limit c p (Asks i) q → Quietly limit c (On (path_at p w)) e → ⊥
  asks_nothing p i q w e h r = asks_none h.steps r.0 p i q w e h.leads r.1

  -- ---- ends
  some_is : (x y : Final) → Some x ≡ Some y → x ≡ y
  some_is x y e = cc

  -- an end is one
  pub same_end : (x : Step) (e f : Final) → Quietly limit c x e → Quietly limit c x f → e ≡ f
  same_end x e f h g =
      let n = h.0 + g.0 in
      some_is e f (sym (silently_by limit c h.0 n x e (omega arith) h.1) ∙ silently_by limit c g.0 n x f (omega arith) g.1)

  -- a path that stops there has come to its end
  pub ends_here : (e : Final) → Quietly limit c (Off e) e
  ends_here e = (0, refl)

  -- ---- threads in order
  module _ (start : Dyn → Share → Path) (top from : ℕ) where
    abbrev goes_by : ℕ → List Share → Dyn → ℕ → Bool → List ℤ → Option Forked
    goes_by n js d most over us = in_order (silently limit c n) start top from js d most over us

    abbrev ends_by : ℕ → List Share → ℕ → Bool → List ℤ → Stop → Dyn → Option Forked
    ends_by n js most over us x d = thread_ended (silently limit c n) start top (λ d m o us. goes_by n js d m o us) most over us x d

    orders_more : (n m : ℕ) → n ≤ m → (js : List Share) (d : Dyn) (most : ℕ) (over : Bool) (us : List ℤ) (r : Forked) → goes_by n js d most over us ≡ Some r → goes_by m js d most over us ≡ Some r
    orders_more n m le js d most over us r e = in_order_more (silently limit c n) (silently limit c m) (λ x f h. silently_by limit c n m x f le h) start top from js d most over us r e

    ended_more : (n m : ℕ) → n ≤ m → (js : List Share) (most : ℕ) (over : Bool) (us : List ℤ) (x : Stop) (d : Dyn) (r : Forked) → ends_by n js most over us x d ≡ Some r → ends_by m js most over us x d ≡ Some r
    ended_more n m le js most over us (Done v) d r e = orders_more n m le js d (max most d.turns) over (gathered us v) r e
    ended_more n m le js most over us Spent d r e = orders_more n m le js d (max most d.turns) true us r e
    ended_more n m le js most over us (Left l) d r e = e
    ended_more n m le js most over us Cut d r e = e
    ended_more n m le js most over us (Asks i) d r e = e
    ended_more n m le js most over us (Constructs q) d r e = e
    ended_more n m le js most over us Stuck d r e = e
    ended_more n m le js most over us Astray d r e = e

    -- a thread came to its end, and from there on they come to r
    orders_one : (j : Share) (js : List Share) (d : Dyn) (most : ℕ) (over : Bool) (us : List ℤ) (f : Final) (r : Forked) → Quietly limit c (On (start (with_turns from d) j)) f →
        ((n : ℕ) × (ends_by n js most over us f.how (cut_to top f.dyn) ≡ Some r)) → Orders limit c start top from (j ∷ js) d most over us r
    orders_one j js d most over us f r q h =
        let x = On (start (with_turns from d) j) in let n = q.0 + h.0 in (
          n,
          ap (λ z. thread_went (silently limit c n) start top (λ d m o us. goes_by n js d m o us) most over us z) (silently_by limit c q.0 n x f (omega arith) q.1)
              ∙ ended_more h.0 n (omega arith) js most over us f.how (cut_to top f.dyn) r h.1,
        )

    pub orders_none : (d : Dyn) (most : ℕ) (over : Bool) (us : List ℤ) → Orders limit c start top from [] d most over us (record { dyn = with_turns most d; how = cond over (Err Spent) (Ok (gave.Numbers us)) })
    orders_none d most over us = (0, refl)

    pub orders_done : (j : Share) (js : List Share) (d : Dyn) (most : ℕ) (over : Bool) (us : List ℤ) (v : Option ℤ) (f : Dyn) (r : Forked) → Quietly limit c (On (start (with_turns from d) j)) (record { how = Done v; dyn = f }) →
        Orders limit c start top from js (cut_to top f) (max most f.turns) over (gathered us v) r → Orders limit c start top from (j ∷ js) d most over us r
    orders_done j js d most over us v f r q h = orders_one j js d most over us (record { how = Done v; dyn = f }) r q h

    pub orders_spent : (j : Share) (js : List Share) (d : Dyn) (most : ℕ) (over : Bool) (us : List ℤ) (f : Dyn) (r : Forked) → Quietly limit c (On (start (with_turns from d) j)) (record { how = Spent; dyn = f }) →
        Orders limit c start top from js (cut_to top f) (max most f.turns) true us r → Orders limit c start top from (j ∷ js) d most over us r
    orders_spent j js d most over us f r q h = orders_one j js d most over us (record { how = Spent; dyn = f }) r q h

    pub orders_left : (j : Share) (js : List Share) (d : Dyn) (most : ℕ) (over : Bool) (us : List ℤ) (l : Leave) (f : Dyn) → Quietly limit c (On (start (with_turns from d) j)) (record { how = Left l; dyn = f }) →
        Orders limit c start top from (j ∷ js) d most over us (record { dyn = with_turns (max most f.turns) (cut_to top f); how = Ok (gave.Left l) })
    orders_left j js d most over us l f q = orders_one j js d most over us (record { how = Left l; dyn = f }) _ q (0, refl)

    pub orders_cut : (j : Share) (js : List Share) (d : Dyn) (most : ℕ) (over : Bool) (us : List ℤ) (f : Dyn) → Quietly limit c (On (start (with_turns from d) j)) (record { how = Cut; dyn = f }) →
        Orders limit c start top from (j ∷ js) d most over us (record { dyn = with_turns (max most f.turns) (cut_to top f); how = Err Cut })
    orders_cut j js d most over us f q = orders_one j js d most over us (record { how = Cut; dyn = f }) _ q (0, refl)

  -- ---- a construct inside a thread
  in_notes : (n : ℕ) (start : Dyn → Share → Path) (top : ℕ) (notes : Schedule) (js : List Share) (d : Dyn) → notes ≡ InOrder → by_notes (silently limit c n) start top notes js d ≡ in_order (silently limit c n) start top d.turns js d d.turns false []
  in_notes n start top notes js d e = ap (λ s. by_notes (silently limit c n) start top s js d) e

  -- its threads come to r, and the path goes on with the answer
  pub fork_leads : (q : Asked) (p : Path) (site : CodeSite) (r : Forked) → slice_get c.sites q.site ≡ Some site → p.world.notes ≡ InOrder →
      Orders limit c (thread_at c (length p.state.cells) site q p) (length p.state.cells) p.state.turns (deal 0 0 (sizes_for p.world.plan site.kind q)) (raw_of p.state p.world) p.state.turns false [] r →
      Leads limit c (Forks q p) (fork_ended c (record { dyn = r.dyn; how = with_answer c (answer_of c site.kind q) r.how }) p)
  fork_leads q p site r at o h f g =
      let n = h.0 + g.0 in let top = length p.state.cells in let js = deal 0 0 (sizes_for p.world.plan site.kind q) in let e : Forked = record { dyn = r.dyn; how = with_answer c (answer_of c site.kind q) r.how } in (
        suc n,
        ap (λ s. after_fork limit c (at_site c s (silently limit c n) q p) p (silently limit c n)) at
            ∙ ap (λ z. after_fork limit c (answering c (answer_of c site.kind q) z) p (silently limit c n))
            (in_notes n (thread_at c top site q p) top p.world.notes js (raw_of p.state p.world) o ∙ orders_more (thread_at c top site q p) top p.state.turns h.0 n (omega arith) js (raw_of p.state p.world) p.state.turns false [] r h.1)
            ∙ silently_by limit c g.0 n (fork_ended c e p) f (omega arith) g.1,
      )

-- ---- what workers are told
pub went_by : (p : ThreadPath) (n : Option ℕ) (cs : List Cell) (e : Final) → Fine (runs p n cs).end → Quietly p.limit p.code (On (starts p n cs)) e → runs p n cs ≡ outcome_of p (Some e)
went_by p n cs e f q = by_run (ran p n cs) refl f where
  by_run : (z : Option Final) → ran p n cs ≡ z → Fine (outcome_of p z).end → outcome_of p (ran p n cs) ≡ outcome_of p (Some e)
  by_run None is g = absurd g
  by_run (Some x) is g = ap (outcome_of p) (is ∙ ap Some (same_end p.limit p.code (On (starts p n cs)) x e (enough p.limit p.code, is) q))
