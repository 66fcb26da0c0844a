-- The loop that takes a machine to its end.
use Rattle.std.proofs.Common.{◌≡◌, ℕ, ◌+◌, ◌≤◌, arith, Bool, List, length, slice_get, Option, Some, None, Ok, Err, refl, sym, ◌∙◌, ap, subst}
use Rattle.ada_base.specs.Cells.{Cell}
use Rattle.ada_base.specs.Cuts.{Plan}
use Rattle.ada_workers.specs.Paths.{Fine}
use Rattle.stack_code.specs.declared.code.Around.{Around}
use Rattle.stack_code.specs.declared.code.Around.TheVariants.{Site}
use Rattle.stack_code.specs.declared.code.Code.{Code}
use Rattle.stack_code.specs.declared.code.CodeSite.{CodeSite}
use Rattle.stack_code.specs.declared.path.Asked.{Asked}
use Rattle.stack_code.specs.declared.path.Gave.{Gave}
use Rattle.stack_code.specs.declared.path.Io.{Io}
use Rattle.stack_code.specs.Answers.{IsAnswer}
use Rattle.stack_code.specs.Looks.{Looks_to}
use Rattle.stack_code.specs.Machine.{State, Done, Left, Spent, Cut, Asks, Constructs, Stuck, resumed}
use Rattle.stack_code.specs.Machine as machine
use Rattle.stack_code.specs.Operands.{is_reduction}
use Rattle.stack_code.specs.Runs.{NeverStuck}
use Rattle.stack_code.specs.Stands.{Stands, Keeps, Forked}
use Rattle.stack_code.specs.Tops.{AreTops, IsTopped}
use Rattle.stack_code.proofs.Answering.{fork_stands}
use Rattle.ada_lower.specs.Driven.{Final, Step, On, dyn_of}
use Rattle.ada_machine.specs.States.{state_of, frames_of, Ready, StopsAt, CountsTo, TookLooks}
use Rattle.ada_machine.specs.declared.machine.Machine.{Machine}
use Rattle.ada_machine.specs.declared.machine.Stop as stops
use Rattle.ada_machine.specs.declared.machine.Stop.TheVariants as stop
use Rattle.ada_machine.proofs.Keeping.{topped_stops}
use Rattle.ada_machine.proofs.Looking.{more_on}
use Rattle.machine_paths.specs.Silent.{Quietly, Leads}
use Rattle.machine_paths.specs.Threads.{quiet, ending}
use Rattle.machine_paths.proofs.Leading.{asks_nothing}
use Rattle.ada_threads.specs.Going.{ahead, stands, final, clipped, IsFine}
use Rattle.ada_threads.specs.Came.{CameTo, WayWell, NotLeft, IsSet, Led, Came, at_fork, ForkRan}
use Rattle.ada_threads.specs.declared.way.Way.{Way}
use Rattle.ada_threads.specs.declared.way.Way.TheVariants as way
use Rattle.ada_threads.proofs.Onward.{onward_stops, ended_is}
use Rattle.ada_threads.proofs.Resuming.{resumed_same, keep_run, left_run, forked_on}
use Rattle.ada_threads.proofs.Stopping.{ahead_twice, stop_leads, ends_ahead, cut_ahead}

-- what comes after so many looks
pub came_after : (limit : ℕ) (c : Code) (plan : Plan) (x y : Option ℕ → Step) (k n : ℕ) → ((l : Option ℕ) → Leads limit c (x (ahead k l)) (y l)) → (w : Way) (ds : List Cell) (t : ℕ) → CameTo limit c plan y w n ds t → CameTo limit c plan x w (k + n) ds t
came_after limit c plan x y k n f (way.Done v) ds t h = λ l. subst (λ m. Quietly limit c (x m) (final plan (Done v) ds t l)) (ahead_twice k n l) (f (ahead n l) (final plan (Done v) ds t l) (h l))
came_after limit c plan x y k n f (way.Left e) ds t h = λ l. subst (λ m. Quietly limit c (x m) (final plan (Left e) ds t l)) (ahead_twice k n l) (f (ahead n l) (final plan (Left e) ds t l) (h l))
came_after limit c plan x y k n f way.Spent ds t h = λ l. subst (λ m. Quietly limit c (x m) (final plan Spent ds t l)) (ahead_twice k n l) (f (ahead n l) (final plan Spent ds t l) (h l))
came_after limit c plan x y k n f way.Paused ds t h = f (Some n) (final plan Cut ds t (Some 0)) h
came_after limit c plan x y k n f way.NoMemory ds t h = tt

pub leads_after : (limit : ℕ) (c : Code) (x y z : Option ℕ → Step) (k n : ℕ) → ((l : Option ℕ) → Leads limit c (x (ahead k l)) (y l)) → ((l : Option ℕ) → Leads limit c (y (ahead n l)) (z l)) → (l : Option ℕ) → Leads limit c (x (ahead (k + n) l)) (z l)
leads_after limit c x y z k n f g l = λ e h. subst (λ m. Quietly limit c (x m) e) (ahead_twice k n l) (f (ahead n l) e (g l e h))

-- it is where it began
pub led_here : (limit : ℕ) (c : Code) (plan : Plan) (m : Machine) (cells : List Cell) → Led limit c plan m cells m cells
led_here limit c plan m cells = record {
  looks = 0;
  counted = refl;
  leads = λ l e h. subst (λ n. Quietly limit c (On (stands plan (state_of m cells) n)) e) (no_more l) h;
  follows = record { tops = λ low t. t; body = λ k b. b };
} where
  no_more : (l : Option ℕ) → l ≡ ahead 0 l
  no_more None = refl
  no_more (Some k) = ap Some (let z : k ≡ 0 + k = omega arith in z)

-- it came to nothing that is told
pub came_short : (limit : ℕ) (c : Code) (plan : Plan) (m0 m : Machine) (cells0 cells : List Cell) → Led limit c plan m0 cells0 m cells → m.turns ≤ limit → Came limit c plan way.NoMemory m0 cells0 m cells
came_short limit c plan m0 m cells0 cells led within = record { looks = led.looks; counted = led.counted; to = tt; tops = led.follows.tops; well = λ k site at b. tt; within = within }

abbrev pub IsPaused : Way → Type 0
IsPaused (way.Done v) = ⊥
IsPaused (way.Left e) = ⊥
IsPaused way.Spent = ⊥
IsPaused way.Paused = Unit {0}
IsPaused way.NoMemory = ⊥

pub is_paused : (w : Way) → w ≡ way.Paused → IsPaused w
is_paused w e = subst IsPaused (sym e) tt

-- how it came to its end, where that is told by the machine
abbrev pub way_of : stops.Stop → Way
way_of (stop.Done v) = way.Done v
way_of (stop.Left e) = way.Left e
way_of stop.Spent = way.Spent
way_of stop.Paused = way.Paused
way_of stop.NoMemory = way.NoMemory
way_of (stop.Construct q) = way.NoMemory
way_of (stop.Ask i) = way.NoMemory

module _ (limit : ℕ) (c : Code) (plan : Plan) where
  abbrev path_at : Machine → List Cell → Option ℕ → Step
  path_at m cells = λ l. On (stands plan (state_of m cells) l)

  module _ (m : Machine) (cells : List Cell) (set : IsSet limit c plan m cells) where
    abbrev p : State
    p = state_of m cells

    pub clear : NeverStuck limit c p
    clear q h = let f = set.fine in subst (λ (e : Final). Fine (ending e.how)) (sym (ended_is limit c (record { how = Stuck; dyn = dyn_of q (quiet plan) }) f.0 (onward_stops limit c p Stuck q (quiet plan) f.0 tt h f.1))) f.2

    pub never_asks : (i : Io) (q : State) → machine.Comes_to limit c p (Asks i) q → ⊥
    never_asks i q h = asks_nothing limit c p i q (quiet plan) set.fine.0 h set.fine.1

    module _ (q : Asked) (m' : Machine) (cells' : List Cell) (to : machine.Comes_to limit c p (Constructs q) (state_of m' cells')) where
      pub fork_fine : IsFine limit c (at_fork plan q (state_of m' cells') None)
      fork_fine = let f = set.fine in (f.0, onward_stops limit c p (Constructs q) (state_of m' cells') (quiet plan) f.0 tt to f.1, f.2)

      pub fork_body : (low : Around) → Stands c low p → Forked c low q.site (state_of m' cells')
      fork_body low s = subst (Keeps c low) to.leads (keep_run limit c set.ready.valid low to.steps p s)

      pub fork_here : (low : Around) × Forked c low q.site (state_of m' cells')
      fork_here = (set.ready.low, fork_body set.ready.low set.ready.stands)

      pub fork_led : (n : ℕ) → Looks_to limit c n p (Constructs q) (state_of m' cells') → (l : Option ℕ) → Leads limit c (path_at m cells (ahead n l)) (at_fork plan q (state_of m' cells') l)
      fork_led n counted l = stop_leads limit c plan m m' cells cells' n (Constructs q) tt to counted l

    -- it stopped by itself
    came_to : (m' : Machine) (cells' : List Cell) (n : ℕ) (s : stops.Stop) → StopsAt limit c s p (state_of m' cells') → CountsTo limit c s n p (state_of m' cells') → CameTo limit c plan (path_at m cells) (way_of s) n (clipped (frames_of m'.waiting.items) cells') m'.turns
    came_to m' cells' n (stop.Done v) to counted = ends_ahead limit c plan m m' cells cells' n (Done v) tt to counted
    came_to m' cells' n (stop.Left e) to counted = ends_ahead limit c plan m m' cells cells' n (Left e) tt to counted
    came_to m' cells' n stop.Spent to counted = ends_ahead limit c plan m m' cells cells' n Spent tt to counted
    came_to m' cells' n stop.Paused to counted = cut_ahead limit c plan m m' cells cells' n counted.1
    came_to m' cells' n stop.NoMemory to counted = tt
    came_to m' cells' n (stop.Construct q) to counted = tt
    came_to m' cells' n (stop.Ask i) to counted = tt

    left_well : (m' : Machine) (cells' : List Cell) (s : stops.Stop) → StopsAt limit c s p (state_of m' cells') → (k : ℕ) (site : CodeSite) → slice_get c.sites k ≡ Some site → Stands c (Site k) p → WayWell (is_reduction site.kind) (way_of s)
    left_well m' cells' (stop.Left e) to k site at b = left_run limit c set.ready.valid k site at to.steps p e (state_of m' cells') b to.leads
    left_well m' cells' (stop.Done v) to k site at b = tt
    left_well m' cells' stop.Spent to k site at b = tt
    left_well m' cells' stop.Paused to k site at b = tt
    left_well m' cells' stop.NoMemory to k site at b = tt
    left_well m' cells' (stop.Construct q) to k site at b = tt
    left_well m' cells' (stop.Ask i) to k site at b = tt

    module _ (m0 : Machine) (cells0 : List Cell) (led : Led limit c plan m0 cells0 m cells) where
      -- by itself, or where what follows isn't told
      pub came : (m' : Machine) (cells' : List Cell) (s : stops.Stop) → StopsAt limit c s p (state_of m' cells') → TookLooks limit c s m.looks m'.looks p (state_of m' cells') → m'.turns ≤ limit → Came limit c plan (way_of s) m0 cells0 m' cells'
      came m' cells' s to took within = record {
        looks = led.looks + took.0;
        counted = more_on m0.looks m.looks m'.looks led.looks took.0 led.counted took.1;
        to = came_after limit c plan (path_at m0 cells0) (path_at m cells) led.looks took.0 led.leads (way_of s) (clipped (frames_of m'.waiting.items) cells') m'.turns (came_to m' cells' took.0 s to took.2);
        tops = λ low t. topped_stops limit c low low refl p (state_of m' cells') s to (led.follows.tops low t);
        well = λ k site at b. left_well m' cells' s to k site at (led.follows.body k b);
        within = within;
      }

      module _ (q : Asked) (m1 : Machine) (cells1 : List Cell) (to : machine.Comes_to limit c p (Constructs q) (state_of m1 cells1)) (took : TookLooks limit c (stop.Construct q) m.looks m1.looks p (state_of m1 cells1)) (m2 : Machine) (cells2 : List Cell) where
        tops_on : m2 ≡ record m1 { turns = m2.turns; looks = m2.looks } → length cells2 ≡ length cells1 → (low : ℕ) → IsTopped low (state_of m0 cells0) → IsTopped low (state_of m2 cells2)
        tops_on same long low t =
            let a : IsTopped low (state_of m1 cells1) = topped_stops limit c low low refl p (state_of m1 cells1) (stop.Construct q) to (led.follows.tops low t) in
            subst (λ m. IsTopped low (state_of m cells2)) (sym same) (subst (λ n. AreTops low (frames_of m1.waiting.items) n) (sym long) a)

        -- inside a construct
        pub came_inside : (w : Way) → ForkRan limit c plan q (Err w) m1 cells1 m2 cells2 → Came limit c plan w m0 cells0 m2 cells2
        came_inside w ran = let ends = clipped (frames_of m2.waiting.items) cells2 in record {
          looks = led.looks + (took.0 + ran.looks);
          counted = more_on m0.looks m.looks m2.looks led.looks (took.0 + ran.looks) led.counted (more_on m.looks m1.looks m2.looks took.0 ran.looks took.1 ran.counted);
          to = came_after limit c plan (path_at m0 cells0) (path_at m cells) led.looks (took.0 + ran.looks) led.leads w ends m2.turns
              (came_after limit c plan (path_at m cells) (at_fork plan q (state_of m1 cells1)) took.0 ran.looks (fork_led q m1 cells1 to took.0 took.2) w ends m2.turns ran.to.1);
          tops = tops_on ran.machine ran.long;
          well = λ k site at b. not_left w ran.to.0 (is_reduction site.kind);
          within = ran.within;
        } where
          not_left : (w : Way) → NotLeft w → (b : Bool) → WayWell b w
          not_left (way.Left e) n b = absurd n
          not_left (way.Done v) n b = tt
          not_left way.Spent n b = tt
          not_left way.Paused n b = tt
          not_left way.NoMemory n b = tt

        -- behind a construct
        module _ (g : Gave) (ran : ForkRan limit c plan q (Ok g) m1 cells1 m2 cells2) (m3 : Machine) (looked : m3.looks ≡ m2.looks) (state : (cells : List Cell) → state_of m3 cells ≡ resumed c g (state_of m2 cells)) where
          abbrev same : State
          same = resumed c g (state_of m2 cells2)

          pub led_on : Led limit c plan m0 cells0 m3 cells2
          led_on = record {
            looks = led.looks + (took.0 + ran.looks);
            counted = looked ∙ more_on m0.looks m.looks m2.looks led.looks (took.0 + ran.looks) led.counted (more_on m.looks m1.looks m2.looks took.0 ran.looks took.1 ran.counted);
            leads = leads_after limit c (path_at m0 cells0) (path_at m cells) (path_at m3 cells2) led.looks (took.0 + ran.looks) led.leads
                (leads_after limit c (path_at m cells) (at_fork plan q (state_of m1 cells1)) (path_at m3 cells2) took.0 ran.looks (fork_led q m1 cells1 to took.0 took.2)
                (λ l. subst (λ s. Leads limit c (at_fork plan q (state_of m1 cells1) (ahead ran.looks l)) (On (stands plan s l))) (sym (state cells2)) (ran.to.0 l)));
            follows = record {
              tops = λ low t. subst (λ s. IsTopped low s) (sym (state cells2)) (tops_resumed low t);
              body = λ k b. subst (λ s. Stands c (Site k) s) (sym (state cells2))
                  (fork_stands c (Site k) set.ready.valid q.site (state_of m2 cells2) g (forked_on c m1 m2 ran.machine (Site k) q.site cells1 cells2 (fork_body q m1 cells1 to (Site k) (led.follows.body k b)))
                  (subst (λ (m : Machine). IsAnswer c (slice_get c.instrs m.pc) g) (sym ran.machine) ran.to.2));
            };
          } where
            tops_resumed : (low : ℕ) → IsTopped low (state_of m0 cells0) → IsTopped low same
            tops_resumed low t = let k = resumed_same c g None (state_of m2 cells2) in
                subst (λ fs. AreTops low fs (length same.cells)) (sym k.2) (subst (λ cs. AreTops low (state_of m2 cells2).waiting (length cs)) (sym k.3) (tops_on ran.machine ran.long low t))

          pub set_on : Ready c m3 cells2 → IsSet limit c plan m3 cells2
          set_on ready = record {
            ready = ready;
            within = subst (λ n. n ≤ limit) (sym (ap (λ (s : State). s.turns) (state cells2) ∙ (resumed_same c g None (state_of m2 cells2)).1)) ran.within;
            fine = subst (λ s. IsFine limit c (On (stands plan s None))) (sym (state cells2)) ran.to.1;
          }
