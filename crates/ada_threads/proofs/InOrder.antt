-- Threads one after the other.
use Rattle.std.proofs.Common.{◌≡◌, ℕ, suc, ◌+◌, ◌<◌, ◌≤◌, ℤ, Bool, true, false, cond, List, [], ◌∷◌, length, take, drop, get_or, Option, Some, None, Ok, Err, arith, refl, sym, ◌∙◌, ap, subst}
use Rattle.std.specs.Prelude.{max, min, ◌^◌, ◌-◌}
use Rattle.std.proofs.Math.Nat.{max-le}
use Rattle.std.proofs.Math.Seq.{drop-cons}
use Rattle.ada_base.specs.Cells.{Cell}
use Rattle.behaviours.specs.Joins.{Share, deal}
use Rattle.stack_code.specs.declared.path.Asked.{Asked}
use Rattle.stack_code.specs.declared.path.Gave.TheVariants as gave
use Rattle.stack_code.specs.Machine.{Done, Spent, Cut}
use Rattle.ada_lower.specs.Driven.{Dyn, Path, Final, Forked, gathered}
use Rattle.ada_machine.specs.States.{more}
use Rattle.ada_machine.proofs.Looking.{more_on}
use Rattle.machine_paths.specs.Silent.{Quietly}
use Rattle.machine_paths.specs.Threads.{ThreadPath}
use Rattle.machine_paths.proofs.Leading.{same_end, orders_none, orders_done, orders_spent, orders_left, orders_cut}
use Rattle.ada_threads.specs.Came.{CameTo, WayWell, begins, dyn, joined, EndTo, EndWell, OfBody, thread, ThreadRan, Order, OrderRan, IsFineOrder, OrderLed}
use Rattle.ada_threads.specs.Going.{ahead, final, IsFine}
use Rattle.ada_threads.specs.Tallies.{GoesOn, EndsBy, Adds, end_of}
use Rattle.ada_threads.specs.declared.tally.Tally.{Tally}
use Rattle.ada_threads.specs.declared.way.End.{End}
use Rattle.ada_threads.specs.declared.way.End.TheVariants as end
use Rattle.ada_threads.specs.declared.way.Joined.{Joined}
use Rattle.ada_threads.specs.declared.way.Ran.{Ran}
use Rattle.ada_threads.specs.declared.way.Way.{Way}
use Rattle.ada_threads.specs.declared.way.Way.TheVariants as way
use Rattle.ada_threads.proofs.Forking.{sat}
use Rattle.ada_threads.proofs.Onward.{Behind, onward_thread, fine_first}
use Rattle.ada_threads.proofs.Stopping.{ahead_twice}

pub add_one : (i : ℕ) → suc i ≡ i + 1
add_one i = omega arith

-- the next size
pub next_led : (p : ThreadPath) (frame : ℕ) (q : Asked) (sizes : List ℕ) (cells0 : List Cell) (i : ℕ) → i < length sizes → (t : Tally) (cells : List Cell) → OrderLed p frame q sizes cells0 (drop i sizes) t cells → OrderLed p frame q sizes cells0 (get_or sizes i 0 ∷ drop (suc i) sizes) t cells
next_led p frame q sizes cells0 i lt t cells led = subst (λ l. OrderLed p frame q sizes cells0 l t cells) (drop-cons sizes i 0 lt) led

pub paused_by : (w : Way) (e : End) → EndsBy w e → e ≡ end.Paused → w ≡ way.Paused
paused_by (way.Done v) e h is = cc
paused_by (way.Left l) e h is = cc
paused_by way.Spent e h is = cc
paused_by way.Paused e h is = refl
paused_by way.NoMemory e h is = cc

over_not : (b : Bool) (vs : List ℤ) → cond b end.Spent (end.Values vs) ≡ end.Paused → ⊥
over_not true vs e = cc
over_not false vs e = cc

pub not_paused : (t : Tally) → end_of t ≡ end.Paused → ⊥
not_paused t e = over_not t.over t.values e

module _ (p : ThreadPath) (frame : ℕ) (q : Asked) where
  abbrev start : Dyn → Share → Path
  start = begins p frame q

  abbrev order : List Share → Dyn → ℕ → Bool → List ℤ → Forked → Type 0
  order js d most over us r = Order p frame q js d most over us r

  -- ---- the first of some threads
  module _ (j : Share) (js : List Share) (cells : List Cell) (turns most : ℕ) (over : Bool) (us : List ℤ) where
    abbrev fine_all : Type 0
    fine_all = IsFineOrder p frame q (j ∷ js) (dyn p.plan cells turns None) most over us

    first_of : (h : fine_all) → (f : Final) × Quietly p.limit p.code (thread p frame q j cells None) f × Behind p.limit p.code start p.base p.turns js most over us f h.0
    first_of h = onward_thread p.limit p.code start p.base p.turns j js (dyn p.plan cells turns None) most over us h.0 h.1

    pub thread_fine : fine_all → IsFine p.limit p.code (thread p frame q j cells None)
    thread_fine h = let f = first_of h in (f.0, f.1, fine_first p.limit p.code start p.base p.turns js most over us f.0.how f.0.dyn h.0 h.2 f.2)

    -- behind one that came to its end
    behind_done : (v : Option ℤ) (left : List Cell) (n : ℕ) → fine_all → Quietly p.limit p.code (thread p frame q j cells None) (final p.plan (Done v) left n None) → IsFineOrder p frame q js (dyn p.plan (take p.base left) n None) (max most n) over (gathered us v)
    behind_done v left n h to =
        let f = first_of h in
        (h.0, subst (λ (e : Final). Behind p.limit p.code start p.base p.turns js most over us e h.0) (same_end p.limit p.code (thread p frame q j cells None) f.0 (final p.plan (Done v) left n None) f.1 to) f.2, h.2)

    behind_spent : (left : List Cell) (n : ℕ) → fine_all → Quietly p.limit p.code (thread p frame q j cells None) (final p.plan Spent left n None) → IsFineOrder p frame q js (dyn p.plan (take p.base left) n None) (max most n) true us
    behind_spent left n h to =
        let f = first_of h in
        (h.0, subst (λ (e : Final). Behind p.limit p.code start p.base p.turns js most over us e h.0) (same_end p.limit p.code (thread p frame q j cells None) f.0 (final p.plan Spent left n None) f.1 to) f.2, h.2)

  -- ---- one more, and no more
  module _ (sizes : List ℕ) (cells0 : List Cell) (base : p.base ≡ length cells0) where
    abbrev Led : List ℕ → Tally → List Cell → Type 0
    Led rest t cells = OrderLed p frame q sizes cells0 rest t cells

    pub led_none : (t : Tally) → t ≡ record { number = 0; first = 0; turns = p.turns; over = false; values = []; looks = 0 } → p.turns ≤ p.limit → IsFineOrder p frame q (deal 0 0 sizes) (dyn p.plan cells0 p.turns None) p.turns false [] → Led sizes t cells0
    led_none t is le fine = subst (λ t. Led sizes t cells0) (sym is) (record { looks = 0; counted = refl; turns = p.turns; leads = λ l r h. subst (λ m. order (deal 0 0 sizes) (dyn p.plan cells0 p.turns m) p.turns false [] r) (no_more l) h; fine = fine; within = le; long = refl }) where
      no_more : (l : Option ℕ) → l ≡ ahead 0 l
      no_more None = refl
      no_more (Some k) = ap Some (let z : k ≡ 0 + k = omega arith in z)

    module _ (size : ℕ) (rest : List ℕ) (t : Tally) (cells : List Cell) (led : Led (size ∷ rest) t cells) where
      abbrev j : Share
      j = record { number = t.number; first = t.first; size = size }

      abbrev js : List Share
      js = deal (suc t.number) (t.first + size) rest

      pub share_fine : IsFine p.limit p.code (thread p frame q j cells None)
      share_fine = thread_fine j js cells led.turns t.turns t.over t.values led.fine

      module _ (r : Ran) (cells' : List Cell) (ran : ThreadRan p frame q j r cells cells') where
        abbrev k : ℕ
        k = led.looks + ran.looks

        abbrev most : ℕ
        most = max t.turns r.turns

        abbrev cells1 : List Cell
        cells1 = take p.base ran.left

        cells_is : cells1 ≡ cells'
        cells_is = ap (λ n. take n ran.left) (base ∙ sym led.long) ∙ sym ran.cut

        looks_on : t.looks < 2 ^ 64 → min (t.looks + r.looks) (2 ^ 64 - 1) ≡ more 0 k
        looks_on small = more_on 0 t.looks (min (t.looks + r.looks) (2 ^ 64 - 1)) led.looks ran.looks led.counted (sat t.looks r.looks ran.looks small ran.counted)

        leads_on : (n l : Option ℕ) → ahead led.looks n ≡ l → (x : Forked) → order (j ∷ js) (dyn p.plan cells led.turns n) t.turns t.over t.values x → order (deal 0 0 sizes) (dyn p.plan cells0 p.turns l) p.turns false [] x
        leads_on n l e x h = subst (λ m. order (deal 0 0 sizes) (dyn p.plan cells0 p.turns m) p.turns false [] x) e (led.leads n x h)

        -- another one follows
        abbrev next : Bool → List ℤ → Tally
        next over us = record { number = suc t.number; first = t.first + size; turns = most; over = over; values = us; looks = min (t.looks + r.looks) (2 ^ 64 - 1) }

        led_next : t.looks < 2 ^ 64 → (over : Bool) (us : List ℤ) → ((l : Option ℕ) (x : Forked) → order js (dyn p.plan cells1 r.turns l) most over us x → order (j ∷ js) (dyn p.plan cells led.turns (ahead ran.looks l)) t.turns t.over t.values x)
            → IsFineOrder p frame q js (dyn p.plan cells1 r.turns None) most over us → Led rest (next over us) cells'
        led_next small over us leads fine = subst (λ cs. Led rest (next over us) cs) cells_is (record {
          looks = k;
          counted = looks_on small;
          turns = r.turns;
          leads = λ l x h. leads_on (ahead ran.looks l) (ahead k l) (ahead_twice led.looks ran.looks l) x (leads l x h);
          fine = fine;
          within = max-le led.within ran.within;
          long = ap length cells_is ∙ ran.long ∙ led.long;
        })

        by_way : t.looks < 2 ^ 64 → (w : Way) → CameTo p.limit p.code p.plan (thread p frame q j cells) w ran.looks ran.left r.turns → (u : Tally) → GoesOn w t u → (b : Bool) × (us : List ℤ) × (u.over ≡ b) × (u.values ≡ us) × Led rest (next b us) cells'
        by_way small (way.Done v) to u g = (
          t.over,
          gathered t.values v,
          g.1,
          g.0,
          led_next small t.over (gathered t.values v)
              (λ l x h. orders_done p.limit p.code start p.base p.turns j js (dyn p.plan cells led.turns (ahead ran.looks l)) t.turns t.over t.values v (dyn p.plan ran.left r.turns l) x (to l) h)
              (behind_done j js cells led.turns t.turns t.over t.values v ran.left r.turns led.fine (to None)),
        )
        by_way small way.Spent to u g = (
          true,
          t.values,
          g.1,
          g.0,
          led_next small true t.values
              (λ l x h. orders_spent p.limit p.code start p.base p.turns j js (dyn p.plan cells led.turns (ahead ran.looks l)) t.turns t.over t.values (dyn p.plan ran.left r.turns l) x (to l) h)
              (behind_spent j js cells led.turns t.turns t.over t.values ran.left r.turns led.fine (to None)),
        )
        by_way small (way.Left e) to u g = absurd g
        by_way small way.Paused to u g = absurd g
        by_way small way.NoMemory to u g = absurd g

        pub led_on : t.looks < 2 ^ 64 → (u : Tally) → Adds t r size None u → Led rest u cells'
        led_on small u a =
            let b = by_way small r.way ran.to u a.3 in
            let number : u.number ≡ suc t.number = a.1 ∙ (let z : t.number + 1 ≡ suc t.number = omega arith in z) in
            subst (λ u. Led rest u cells') (λ i. record { number = sym number i; first = sym a.2 i; turns = sym a.0.0 i; over = sym b.2 i; values = sym b.3 i; looks = sym a.0.1 i }) b.4

        -- no further one is begun
        ends_by : (w : Way) → CameTo p.limit p.code p.plan (thread p frame q j cells) w ran.looks ran.left r.turns → (e : End) → EndsBy w e → EndTo p.plan (λ l x. order (deal 0 0 sizes) (dyn p.plan cells0 p.turns l) p.turns false [] x) e k cells1 most
        ends_by (way.Left x) to e h = subst (λ e. EndTo p.plan (λ l x. order (deal 0 0 sizes) (dyn p.plan cells0 p.turns l) p.turns false [] x) e k cells1 most) (sym h)
            (λ l. leads_on (ahead ran.looks l) (ahead k l) (ahead_twice led.looks ran.looks l) (joined p.plan cells1 most (Ok (gave.Left x)) l)
            (orders_left p.limit p.code start p.base p.turns j js (dyn p.plan cells led.turns (ahead ran.looks l)) t.turns t.over t.values x (dyn p.plan ran.left r.turns l) (to l)))
        ends_by way.Paused to e h = subst (λ e. EndTo p.plan (λ l x. order (deal 0 0 sizes) (dyn p.plan cells0 p.turns l) p.turns false [] x) e k cells1 most) (sym h)
            (leads_on (Some ran.looks) (Some k) refl (joined p.plan cells1 most (Err Cut) (Some 0))
            (orders_cut p.limit p.code start p.base p.turns j js (dyn p.plan cells led.turns (Some ran.looks)) t.turns t.over t.values (dyn p.plan ran.left r.turns (Some 0)) to))
        ends_by (way.Done v) to e h = subst (λ e. EndTo p.plan (λ l x. order (deal 0 0 sizes) (dyn p.plan cells0 p.turns l) p.turns false [] x) e k cells1 most) (sym h) tt
        ends_by way.Spent to e h = subst (λ e. EndTo p.plan (λ l x. order (deal 0 0 sizes) (dyn p.plan cells0 p.turns l) p.turns false [] x) e k cells1 most) (sym h) tt
        ends_by way.NoMemory to e h = subst (λ e. EndTo p.plan (λ l x. order (deal 0 0 sizes) (dyn p.plan cells0 p.turns l) p.turns false [] x) e k cells1 most) (sym h) tt

        well_by : (w : Way) → OfBody p (λ b. WayWell b w) → (e : End) → EndsBy w e → OfBody p (λ b. EndWell b e)
        well_by (way.Left x) h e is = subst (λ e. OfBody p (λ b. EndWell b e)) (sym is) h
        well_by way.Paused h e is = subst (λ e. OfBody p (λ b. EndWell b e)) (sym is) (λ k site at s. tt)
        well_by (way.Done v) h e is = subst (λ e. OfBody p (λ b. EndWell b e)) (sym is) (λ k site at s. tt)
        well_by way.Spent h e is = subst (λ e. OfBody p (λ b. EndWell b e)) (sym is) (λ k site at s. tt)
        well_by way.NoMemory h e is = subst (λ e. OfBody p (λ b. EndWell b e)) (sym is) (λ k site at s. tt)

        pub ended : t.looks < 2 ^ 64 → (u : Tally) (e : End) → Adds t r size (Some e) u → OrderRan p frame q (deal 0 0 sizes) (record { end = e; turns = u.turns; looks = u.looks }) cells0 cells'
        ended small u e a =
            subst (λ (x : Joined). OrderRan p frame q (deal 0 0 sizes) x cells0 cells') (λ i. record { end = e; turns = sym a.0.0 i; looks = sym a.0.1 i })
            (subst (λ cs. OrderRan p frame q (deal 0 0 sizes) (record { end = e; turns = most; looks = min (t.looks + r.looks) (2 ^ 64 - 1) }) cells0 cs) cells_is (record {
              looks = k;
              counted = looks_on small;
              to = ends_by r.way ran.to e a.1;
              well = well_by r.way ran.well e a.1;
              within = max-le led.within ran.within;
              long = ap length cells_is ∙ ran.long ∙ led.long;
            }))

    -- all came to their ends
    by_over : (X : Option ℕ → Forked → Type 0) (k : ℕ) (cells : List Cell) (turns : ℕ) (us : List ℤ) (b : Bool) → ((l : Option ℕ) → X (ahead k l) (joined p.plan cells turns (cond b (Err Spent) (Ok (gave.Numbers us))) l)) → EndTo p.plan X (cond b end.Spent (end.Values us)) k cells turns
    by_over X k cells turns us true h = h
    by_over X k cells turns us false h = h

    well_over : (us : List ℤ) (b : Bool) → OfBody p (λ r. EndWell r (cond b end.Spent (end.Values us)))
    well_over us true = λ k site at s. tt
    well_over us false = λ k site at s. tt

    pub all_ended : (t : Tally) (cells : List Cell) → Led [] t cells → OrderRan p frame q (deal 0 0 sizes) (record { end = end_of t; turns = t.turns; looks = t.looks }) cells0 cells
    all_ended t cells led = record {
      looks = led.looks;
      counted = led.counted;
      to = by_over (λ l x. order (deal 0 0 sizes) (dyn p.plan cells0 p.turns l) p.turns false [] x) led.looks cells t.turns t.values t.over
          (λ l. led.leads l (joined p.plan cells t.turns (cond t.over (Err Spent) (Ok (gave.Numbers t.values))) l) (orders_none p.limit p.code start p.base p.turns (dyn p.plan cells led.turns l) t.turns t.over t.values));
      well = well_over t.values t.over;
      within = led.within;
      long = led.long;
    }
