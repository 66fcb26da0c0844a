-- The loop, from stop to stop.
use Rattle.std.proofs.Common.{◌≡◌, ℕ, zero, suc, ◌+◌, ◌-◌, ◌≤◌, ℤ, Bool, true, false, List, [], ◌∷◌, ◌++◌, length, slice_get, Option, Some, None, Result, Ok, Err, arith, refl, sym, ◌∙◌, ap, subst}
use Rattle.std.specs.Prelude.{OnOk}
use Rattle.ada_base.specs.Cells.{Cell}
use Rattle.ada_base.specs.Cuts.{cuts_of}
use Rattle.ada_base.specs.Notes.{InOrder, ByNotes}
use Rattle.ada_base.specs.declared.reason.Reason.{Reason}
use Rattle.ada_io.specs.declared.input.GetEnd.{GetEnd}
use Rattle.ada_io.specs.declared.input.GetEnd.TheVariants as end
use Rattle.ada_io.specs.declared.input.Got.{Got}
use Rattle.ada_meaning.specs.Deeds.{PutOut}
use Rattle.ada_meaning.specs.Programs.{Setting}
use Rattle.ada_port.specs.declared.ports.Failed.{Failed}
use Rattle.ada_workers.specs.Threads.{StaysOn}
use Rattle.cell_memory.specs.Sight.{Sight, OwnThere, cell_at, is_gone, is_mine, lower_length}
use Rattle.stack_code.specs.declared.code.Around.{Around}
use Rattle.stack_code.specs.declared.code.Code.{Code}
use Rattle.stack_code.specs.declared.instr.Instr.{Instr}
use Rattle.stack_code.specs.declared.instr.Instr.TheVariants as instr
use Rattle.stack_code.specs.declared.path.Asked.{Asked}
use Rattle.stack_code.specs.declared.path.Gave.{Gave}
use Rattle.stack_code.specs.declared.path.Gave.TheVariants as gave
use Rattle.stack_code.specs.declared.path.Io.{Io}
use Rattle.stack_code.specs.declared.path.Io.TheVariants as io
use Rattle.stack_code.specs.declared.path.Leave.{Leave}
use Rattle.stack_code.specs.declared.path.Leave.TheVariants.{Exit, Return, Raise}
use Rattle.stack_code.specs.Machine.{State, Stop, Done, Left, Asks, Constructs, Went, Goes, Stops, after, going, resumed, run, step, Comes_to}
use Rattle.stack_code.specs.Runs.{NeverStuck}
use Rattle.stack_code.specs.Stands.{Forked, Keeps, Stands}
use Rattle.stack_code.specs.Tops.{AreTops, IsTopped}
use Rattle.stack_code.specs.Valid.{IsValid}
use Rattle.stack_code.proofs.Standing.{keeps}
use Rattle.ada_lower.specs.Driven.{World, Path}
use Rattle.ada_machine.specs.States.{Ready, frames_of, state_of}
use Rattle.ada_machine.specs.declared.machine.Machine.{Machine}
use Rattle.machine_paths.specs.Constructing.{ForksTo, with_schedule}
use Rattle.ada_threads.specs.Lent.{FineLaw}
use Rattle.ada_threads.specs.Sites.{Behind, SiteRan, note_of, forked as forked_to}
use Rattle.ada_threads.specs.declared.site.Told.{Told}
use Rattle.run_outside.specs.Outside.{GetCauses, HasGot, HasPut, MayBe, Outside}
use Rattle.run_outside.proofs.Getting.{some_input}
use Rattle.run_machine_laws.specs.Law.{GetLaw, StopLaw, ending_by}
use Rattle.run_machine_laws.specs.Looping.{LoopLaw}
use Rattle.run_machine_laws.specs.Reading.{askings}
use Rattle.run_machine.specs.Asked.{BuiltSo, HasAnswered, IsFineFork, ReadTo, ReadBy, with_turns}
use Rattle.run_machine.specs.Loops.{Answers, Ends, GotSo, IsMain, IsOn, Kept, Reads, StopsSo, WroteSo}
use Rattle.run_machine.specs.Running.{Causes, Running, ending_of, world_of}
use Rattle.run_machine.specs.declared.ends.How.{How}
use Rattle.run_machine.specs.declared.ends.How.TheVariants as how
use Rattle.run_machine.proofs.Endings.{clear, no_exit, no_return, no_value}
use Rattle.run_machine.proofs.Onward.{ended, wanted, put_out, put_failed, fork_safe, built, spent, read_number, read_raise, read_spent, read_failed}
use Rattle.run_machine.proofs.Safety.{fine_fork, safe_fine}

-- ---- an answer changes no more than where a path stands
abbrev Same : State → State → Type 0
Same s t = (t.turns ≡ s.turns) × (t.waiting ≡ s.waiting) × (t.cells ≡ s.cells)

after_same : (i : Option Instr) (g : Gave) (s : State) → Same s (after i g s)
after_same (Some (instr.Fork site)) gave.Nothing s = (refl, refl, refl)
after_same (Some (instr.Fork site)) (gave.Numbers []) s = (refl, refl, refl)
after_same (Some (instr.Fork site)) (gave.Numbers (v ∷ vs)) s = (refl, refl, refl)
after_same (Some (instr.Fork site)) (gave.Left (Raise r)) s = (refl, refl, refl)
after_same (Some (instr.Fork site)) (gave.Left (Exit n)) s = (refl, refl, refl)
after_same (Some (instr.Fork site)) (gave.Left (Return None)) s = (refl, refl, refl)
after_same (Some (instr.Fork site)) (gave.Left (Return (Some v))) s = (refl, refl, refl)
after_same (Some instr.Get) gave.Nothing s = (refl, refl, refl)
after_same (Some instr.Get) (gave.Numbers []) s = (refl, refl, refl)
after_same (Some instr.Get) (gave.Numbers (v ∷ [])) s = (refl, refl, refl)
after_same (Some instr.Get) (gave.Numbers (v ∷ w ∷ vs)) s = (refl, refl, refl)
after_same (Some instr.Get) (gave.Left (Raise r)) s = (refl, refl, refl)
after_same (Some instr.Get) (gave.Left (Exit n)) s = (refl, refl, refl)
after_same (Some instr.Get) (gave.Left (Return v)) s = (refl, refl, refl)
after_same _ g s = (refl, refl, refl)

-- a machine that is there with an answer
module _ (c : Code) (g : Gave) (m : Machine) (v : Sight) (m' : Machine) (v' : Sight) (is : state_of m' v'.cells ≡ resumed c g (state_of m v'.cells)) where
  same_turns : m'.turns ≡ m.turns
  same_turns = ap (λ (s : State). s.turns) is ∙ (after_same (slice_get c.instrs m.pc) g (state_of m v'.cells)).0

  -- its bodies' cells end where they did
  same_tops : length v'.cells ≡ length v.cells → lower_length v' ≡ lower_length v → IsTopped (lower_length v) (state_of m v.cells) → IsTopped (lower_length v') (state_of m' v'.cells)
  same_tops many low t =
      let waits : frames_of m'.waiting.items ≡ frames_of m.waiting.items = ap (λ (s : State). s.waiting) is ∙ (after_same (slice_get c.instrs m.pc) g (state_of m v'.cells)).1 in
      subst (λ n. AreTops n (frames_of m'.waiting.items) (length v'.cells)) (sym low)
      (subst (λ fs. AreTops (lower_length v) fs (length v'.cells)) (sym waits)
      (subst (λ n. AreTops (lower_length v) (frames_of m.waiting.items) n) (sym many) t))

-- ---- forks
run_keeps : (limit : ℕ) (c : Code) (low : Around) → IsValid c → (n : ℕ) (p : State) → Stands c low p → Keeps c low (run limit c n p)
run_keeps limit c low valid zero p s = s
run_keeps limit c low valid (suc n) p s = by_step (step limit c p) (λ t k. run_keeps limit c low valid n t k) (keeps c low valid p limit s)
  where
    by_step : (t : Went) → ((u : State) → Stands c low u → Keeps c low (run limit c n u)) → Keeps c low t → Keeps c low (going limit c t (λ u. run limit c n u))
    by_step (Goes t) rest k = rest t k
    by_step (Stops x t) rest k = k

-- which cells there are is nothing to a fork
forked_by : (c : Code) (low : Around) (site : ℕ) (m : Machine) (cells : List Cell) → Forked c low site (state_of m cells) → Forked c low site (state_of m [])
forked_by c low site m cells f = record { spot = f.spot; at = f.at; here = f.here; height = f.height; calm = f.calm; nest = f.nest; within = f.within; chain = f.chain }

not_both : (b : Bool) → b ≡ false → b ≡ true → ⊥
not_both b e f = cc

module _ (InTells : Type 0) (set : Setting) (c : Code) (frame : ℕ) (before : List ℕ) where
  abbrev IsThere : Machine → Sight → Outside → Type 0
  IsThere m v o = IsOn InTells set c frame before m v o

  abbrev EndsSo : How → Outside → Outside → Sight → Type 0
  EndsSo how o o' v = Ends InTells set c frame before how o o' v

  abbrev StopsAs : Result (Unit {0}) How → Machine → Sight → Outside → Outside → Type 0
  StopsAs r m v o o' = StopsSo InTells set c frame before r m v o o'

  pub kept_none : (o : Outside) → Kept InTells o o
  kept_none o = (record { back = λ w k. k }, refl)

  pub kept_on : (o o' o'' : Outside) → Kept InTells o o' → Kept InTells o' o'' → Kept InTells o o''
  kept_on o o' o'' k l = (record { back = λ w h. k.0.back w (l.0.back w h) }, l.1 ∙ k.1)

  pub since : (x : How) (o o' o'' : Outside) (v : Sight) → Kept InTells o o' → EndsSo x o' o'' v → EndsSo x o o'' v
  since x o o' o'' v k e = record { cause = subst (λ f. Causes x f o''.faults) k.1 e.cause; back = record { back = λ w h. k.0.back w (e.back.back w h) }; over = e.over; main = e.main }

  module _ (law_is : LoopLaw) (m : Machine) (v : Sight) (o : Outside) (on : IsThere m v o) where
    abbrev s : State
    s = state_of m v.cells

    -- ---- it stops by itself, or memory is wanting
    module _ (stops : StopLaw) where
      pub never_stuck : NeverStuck set.limit c s
      never_stuck = let w = some_input InTells o in
          clear stops on.program set c frame on.slots on.loaded w.0 before on.told on.front s (world_of InTells set c frame before o w.0 on.front) (on.runs.at w.0 w.1)

      pub gives_none : (z : ℤ) (q : State) → Comes_to set.limit c s (Done (Some z)) q → ⊥
      gives_none z q to = let w = some_input InTells o in
          no_value stops on.program set c frame on.slots on.loaded w.0 before on.told on.front s (world_of InTells set c frame before o w.0 on.front) (on.runs.at w.0 w.1) z q to

      pub leaves_by : (l : Leave) (q : State) → Comes_to set.limit c s (Left l) q → (r : Reason) × (l ≡ Raise r)
      leaves_by (Raise r) q to = (r, refl)
      leaves_by (Exit n) q to = let w = some_input InTells o in
          absurd (no_exit stops on.program set c frame on.slots on.loaded w.0 before on.told on.front s (world_of InTells set c frame before o w.0 on.front) (on.runs.at w.0 w.1) n q to)
      leaves_by (Return z) q to = let w = some_input InTells o in
          absurd (no_return stops on.program set c frame on.slots on.loaded w.0 before on.told on.front s (world_of InTells set c frame before o w.0 on.front) (on.runs.at w.0 w.1) z q to)

    pub ends_itself : (x : Stop) (h : How) (m1 : Machine) (v1 : Sight) → Comes_to set.limit c s x (state_of m1 v1.cells) → ending_by x ≡ Some (ending_of h) → Causes h o.faults o.faults → IsMain v1 → EndsSo h o o v1
    ends_itself x h m1 v1 to is cause main = record { cause = cause; back = record { back = λ w k. k }; over = ended InTells law_is set c frame before on.told on.front s (state_of m1 v1.cells) o x h on.runs to is; main = main }

    pub ends_raised : (l : Leave) (r : Reason) (h : How) (m1 : Machine) (v1 : Sight) → Comes_to set.limit c s (Left l) (state_of m1 v1.cells) → l ≡ Raise r → h ≡ how.Raised r → IsMain v1 → EndsSo h o o v1
    ends_raised l r h m1 v1 to is e main = subst (λ h. EndsSo h o o v1) (sym e) (ends_itself (Left (Raise r)) (how.Raised r) m1 v1 (subst (λ l. Comes_to set.limit c s (Left l) (state_of m1 v1.cells)) is to) refl refl main)

    -- of the main procedure, which gives no value
    pub ends_done : StopLaw → (z : Option ℤ) (m1 : Machine) (v1 : Sight) → Comes_to set.limit c s (Done z) (state_of m1 v1.cells) → IsMain v1 → EndsSo how.Ended o o v1
    ends_done stops None m1 v1 to main = ends_itself (Done None) how.Ended m1 v1 to refl refl main
    ends_done stops (Some z) m1 v1 to main = absurd (gives_none stops z (state_of m1 v1.cells) to)

    pub ends_short : (v1 : Sight) → IsMain v1 → EndsSo how.NoMemory o o v1
    ends_short v1 main = record { cause = refl; back = record { back = λ w k. k }; over = wanted InTells law_is set c frame before on.told on.front s o v1.cells on.runs; main = main }

    -- ---- a construct
    module _ (asked : Asked) (m1 : Machine) (v1 : Sight) (to : Comes_to set.limit c s (Constructs asked) (state_of m1 v1.cells)) where
      forked : Forked c on.ready.low asked.site (state_of m1 v1.cells)
      forked = subst (Keeps c on.ready.low) to.leads (run_keeps set.limit c on.ready.low on.ready.valid to.steps s on.ready.stands)

      pub fork_here : (low : Around) × Forked c low asked.site (state_of m1 [])
      fork_here = (on.ready.low, forked_by c on.ready.low asked.site m1 v1.cells forked)

      pub fork_fine : FineLaw → m1.turns ≤ set.limit → OwnThere v1 → v1.own ≡ length v1.cells → ((x : ℕ) → is_gone (cell_at v1 x) ≡ false → is_mine (cell_at v1 x) ≡ true) → IsFineFork set.limit c set.plan asked (state_of m1 v1.cells)
      fork_fine fine within there flat main =
          let w = some_input InTells o in
          let p : Path = record { state = state_of m1 v1.cells; world = world_of InTells set c frame before o w.0 on.front } in
          fine_fork fine set.limit c on.loaded.quiet on.loaded.valid on.ready.forward on.loaded.later on.loaded.hushed set.plan asked on.ready.low p forked within refl
          (λ x lt. main x (there x (omega (arith, flat)) lt))
          (λ ns. safe_fine set.limit c asked (with_schedule (ByNotes ns) p) (fork_safe InTells law_is set c frame before on.told on.front s (state_of m1 v1.cells) o asked on.runs to w.0 w.1 ns))

      module _ (workers : ℕ) (one_is : set.one ≡ true → workers ≡ 1) (t : Told) (m2 : Machine) (v2 : Sight) (ran : SiteRan set.limit c set.plan asked workers t m1 v1.cells m2 v2.cells) where
        order : set.one ≡ true → (w : World) → w.plan ≡ cuts_of set.plan → w.notes ≡ InOrder → ForksTo set.limit c asked (record { state = state_of m1 v1.cells; world = w }) (forked_to w v2.cells m2.turns ran.how)
        order one w planned ordered = ran.in_order (one_is one) w planned ordered

        pub goes_on : t.spent ≡ false → Ready c m2 v2.cells → m2.turns ≤ set.limit → StaysOn v1 v2 → v1.held ≡ None → IsTopped (lower_length v1) (state_of m1 v1.cells) → IsThere m2 v2 o
        goes_on goes ready within stays main tops = by_how ran.how refl ran.behind
          where
            by_how : (h : Result Gave Stop) → ran.how ≡ h → Behind c t m1 m2 v2.cells h → IsThere m2 v2 o
            by_how (Ok g) e b = record {
              program = on.program;
              slots = on.slots;
              loaded = on.loaded;
              plan = on.plan;
              ready = ready;
              within = within;
              main = stays.held ∙ main;
              there = stays.there;
              tops = same_tops c g (record m1 { turns = m2.turns }) v1 m2 v2 b.1 stays.many (let e : lower_length v2 ≡ lower_length v1 = omega (arith, stays.many, stays.own) in e) tops;
              told = on.told ++ (note_of t ∷ []);
              front = on.front;
              runs = subst (λ (z : State). Running InTells set c frame before (on.told ++ (note_of t ∷ [])) on.front z o) (sym b.1)
                  (built InTells law_is set c frame before on.told on.front s (state_of m1 v1.cells) o asked on.runs to (note_of t) v2.cells m2.turns ran.how ran.noted order g e);
            }
            by_how (Err x) e b = absurd (not_both t.spent goes b.0)

        pub ends_spent : t.spent ≡ true → IsMain v2 → EndsSo how.TurnsSpent o o v2
        ends_spent over main = by_how ran.how refl ran.behind
          where
            by_how : (h : Result Gave Stop) → ran.how ≡ h → Behind c t m1 m2 v2.cells h → EndsSo how.TurnsSpent o o v2
            by_how (Ok g) e b = absurd (not_both t.spent b.0 over)
            by_how (Err x) e b = record {
              cause = refl;
              back = record { back = λ w k. k };
              over = spent InTells law_is set c frame before on.told on.front s (state_of m1 v1.cells) o asked on.runs to (note_of t) v2.cells m2.turns ran.how ran.noted order (e ∙ ap Err b.1) v2.cells;
              main = main;
            }

      -- the threads of the construct came to that
      pub built_on : (workers : ℕ) → (set.one ≡ true → workers ≡ 1) → (m2 : Machine) (v2 : Sight) → BuiltSo set.limit c set.plan asked workers (Ok tt) m1 v1.cells m2 v2.cells
          → Ready c m2 v2.cells → m2.turns ≤ set.limit → StaysOn v1 v2 → v1.held ≡ None → IsTopped (lower_length v1) (state_of m1 v1.cells) → IsThere m2 v2 o
      built_on workers one_is m2 v2 b ready within stays main tops = goes_on workers one_is b.0 m2 v2 b.2 b.1 ready within stays main tops

      pub built_ends : (workers : ℕ) → (set.one ≡ true → workers ≡ 1) → (x : How) (m2 : Machine) (v2 : Sight) → BuiltSo set.limit c set.plan asked workers (Err x) m1 v1.cells m2 v2.cells → IsMain v2 → EndsSo x o o v2
      built_ends workers one_is how.TurnsSpent m2 v2 b main = ends_spent workers one_is b.0 m2 v2 b.2 b.1 main
      built_ends workers one_is how.NoMemory m2 v2 b main = ends_short v2 main
      built_ends workers one_is how.Ended m2 v2 b main = absurd b
      built_ends workers one_is (how.Raised r) m2 v2 b main = absurd b
      built_ends workers one_is how.ReadFault m2 v2 b main = absurd b
      built_ends workers one_is how.WriteFault m2 v2 b main = absurd b

      -- the construct came to that
      pub built_so : (workers : ℕ) → (set.one ≡ true → workers ≡ 1) → (r : Result (Unit {0}) How) (m2 : Machine) (v2 : Sight) → BuiltSo set.limit c set.plan asked workers r m1 v1.cells m2 v2.cells
          → OnOk r (Ready c m2 v2.cells) → OnOk r (m2.turns ≤ set.limit) → StaysOn v1 v2 → v1.held ≡ None → IsTopped (lower_length v1) (state_of m1 v1.cells) → StopsAs r m2 v2 o o
      built_so workers one_is (Ok u) m2 v2 b ready within stays main tops = (built_on workers one_is m2 v2 b ready within stays main tops, kept_none o)
      built_so workers one_is (Err x) m2 v2 b ready within stays main tops = built_ends workers one_is x m2 v2 b (stays.held ∙ main, stays.there)

    -- ---- output and input
    module _ (m1 m2 : Machine) (v1 : Sight) (o' : Outside) (within : m1.turns ≤ set.limit) where
      pub wrote_on : (piece : List ℕ) → Comes_to set.limit c s (Asks (io.Write piece)) (state_of m1 v1.cells) → v1.held ≡ None → OwnThere v1 → IsTopped (lower_length v1) (state_of m1 v1.cells)
          → (r : Result (Unit {0}) Failed) → HasPut (MayBe InTells) piece r o o' → WroteSo (Ok tt) r c m1 m2 → IsThere m2 v1 o' × Kept InTells o o'
      wrote_on piece to main there tops (Ok u) put has = (
        record {
          program = on.program;
          slots = on.slots;
          loaded = on.loaded;
          plan = on.plan;
          ready = has.ready v1.cells;
          within = subst (λ n. n ≤ set.limit) (sym (same_turns c gave.Nothing m1 v1 m2 v1 (has.state v1.cells))) within;
          main = main;
          there = there;
          tops = same_tops c gave.Nothing m1 v1 m2 v1 (has.state v1.cells) refl refl tops;
          told = on.told;
          front = on.front ++ (PutOut piece ∷ []);
          runs = subst (λ (z : State). Running InTells set c frame before on.told (on.front ++ (PutOut piece ∷ [])) z o') (sym (has.state v1.cells))
              (put_out InTells law_is set c frame before on.told on.front s (state_of m1 v1.cells) o o' piece on.runs to put.2 put.3 put.5 put.1);
        },
        (put.1, put.0),
      )
      wrote_on piece to main there tops (Err f) put has = absurd has

      pub write_failed : (piece : List ℕ) → Comes_to set.limit c s (Asks (io.Write piece)) (state_of m1 v1.cells) → (x : How) (r : Result (Unit {0}) Failed) → HasPut (MayBe InTells) piece r o o' → WroteSo (Err x) r c m1 m2 → IsMain v1 → EndsSo x o o' v1
      write_failed piece to how.WriteFault (Err f) put has main = record {
        cause = put.0;
        back = put.1;
        over = put_failed InTells law_is set c frame before on.told on.front s (state_of m1 v1.cells) o o' piece on.runs to put.5.0 put.5.1 v1.cells put.5.2 put.3 put.5.3 put.1;
        main = main;
      }
      write_failed piece to how.WriteFault (Ok u) put has main = absurd has
      write_failed piece to how.Ended r put has main = absurd has
      write_failed piece to (how.Raised q) r put has main = absurd has
      write_failed piece to how.TurnsSpent r put has main = absurd has
      write_failed piece to how.ReadFault r put has main = absurd has
      write_failed piece to how.NoMemory r put has main = absurd has

      module _ (get_law : GetLaw) (to : Comes_to set.limit c s (Asks io.Take) (state_of m1 v1.cells)) (got : Got) (has : HasGot (MayBe InTells) (set.limit - m1.turns) got o o') where
        left_over : m1.turns + (set.limit - m1.turns) ≡ set.limit
        left_over = omega (arith, within)

        fewer : m1.turns + got.took ≤ set.limit
        fewer = let z = has.within in omega (arith, within, z)

        -- it goes on with that
        goes : v1.held ≡ None → OwnThere v1 → IsTopped (lower_length v1) (state_of m1 v1.cells) → (g : Gave) → HasAnswered c g (with_turns (m1.turns + got.took) m1) m2
            → Running InTells set c frame before on.told (on.front ++ askings got.took) (resumed c g (record (state_of m1 v1.cells) { turns = m1.turns + got.took })) o' → IsThere m2 v1 o'
        goes main there tops g a runs = record {
          program = on.program;
          slots = on.slots;
          loaded = on.loaded;
          plan = on.plan;
          ready = a.ready v1.cells;
          within = subst (λ n. n ≤ set.limit) (sym (same_turns c g (with_turns (m1.turns + got.took) m1) v1 m2 v1 (a.state v1.cells))) fewer;
          main = main;
          there = there;
          tops = same_tops c g (with_turns (m1.turns + got.took) m1) v1 m2 v1 (a.state v1.cells) refl refl tops;
          told = on.told;
          front = on.front ++ askings got.took;
          runs = subst (λ (z : State). Running InTells set c frame before on.told (on.front ++ askings got.took) z o') (sym (a.state v1.cells)) runs;
        }

        same_faults : (e : GetEnd) → got.end ≡ e → GetCauses e o.faults o'.faults
        same_faults e is = subst (λ e. GetCauses e o.faults o'.faults) is has.cause

        pub read_on : v1.held ≡ None → OwnThere v1 → IsTopped (lower_length v1) (state_of m1 v1.cells) → ReadTo c got m1 m2 → GotSo (Ok tt) got.end → IsThere m2 v1 o' × Kept InTells o o'
        read_on main there tops read so = by_end got.end refl read so
          where
            by_end : (e : GetEnd) → got.end ≡ e → ReadBy c e (with_turns (m1.turns + got.took) m1) m2 → GotSo (Ok tt) e → IsThere m2 v1 o' × Kept InTells o o'
            by_end (end.Number z) is a u = (goes main there tops (gave.Numbers (z ∷ [])) a (read_number InTells law_is set c frame before get_law on.told on.front s (state_of m1 v1.cells) o o' on.runs to (set.limit - m1.turns) got left_over has z is), (has.keeps, same_faults (end.Number z) is))
            by_end (end.Raise r) is a u = (goes main there tops (gave.Left (Raise r)) a (read_raise InTells law_is set c frame before get_law on.told on.front s (state_of m1 v1.cells) o o' on.runs to (set.limit - m1.turns) got left_over has r is), (has.keeps, same_faults (end.Raise r) is))
            by_end end.Spent is a u = absurd u
            by_end end.ReadFault is a u = absurd u

        pub read_ends : (x : How) → GotSo (Err x) got.end → IsMain v1 → EndsSo x o o' v1
        read_ends x so main = by_end x got.end refl so
          where
            by_end : (x : How) (e : GetEnd) → got.end ≡ e → GotSo (Err x) e → EndsSo x o o' v1
            by_end how.TurnsSpent end.Spent is u = record { cause = same_faults end.Spent is; back = has.keeps; over = read_spent InTells law_is set c frame before get_law on.told on.front s (state_of m1 v1.cells) o o' on.runs to (set.limit - m1.turns) got left_over has is v1.cells; main = main }
            by_end how.ReadFault end.ReadFault is u = record { cause = same_faults end.ReadFault is; back = has.keeps; over = read_failed InTells law_is set c frame before get_law on.told on.front s (state_of m1 v1.cells) o o' on.runs to (set.limit - m1.turns) got left_over has is v1.cells; main = main }
            by_end how.TurnsSpent (end.Number z) is u = absurd u
            by_end how.TurnsSpent (end.Raise r) is u = absurd u
            by_end how.TurnsSpent end.ReadFault is u = absurd u
            by_end how.ReadFault (end.Number z) is u = absurd u
            by_end how.ReadFault (end.Raise r) is u = absurd u
            by_end how.ReadFault end.Spent is u = absurd u
            by_end how.Ended e is u = absurd u
            by_end (how.Raised r) e is u = absurd u
            by_end how.WriteFault e is u = absurd u
            by_end how.NoMemory e is u = absurd u

      -- what it asked for was done
      pub answered_on : GetLaw → (i : Io) → Comes_to set.limit c s (Asks i) (state_of m1 v1.cells) → v1.held ≡ None → OwnThere v1 → IsTopped (lower_length v1) (state_of m1 v1.cells)
          → Answers InTells set.limit c i (Ok tt) m1 m2 o o' → IsThere m2 v1 o' × Kept InTells o o'
      answered_on get_law (io.Write piece) to main there tops a = wrote_on piece to main there tops a.0 a.1 a.2
      answered_on get_law io.Take to main there tops a = read_on get_law to a.0 a.1 main there tops a.2 a.3

      pub answer_ends : GetLaw → (i : Io) → Comes_to set.limit c s (Asks i) (state_of m1 v1.cells) → (x : How) → Answers InTells set.limit c i (Err x) m1 m2 o o' → IsMain v1 → EndsSo x o o' v1
      answer_ends get_law (io.Write piece) to x a main = write_failed piece to x a.0 a.1 a.2 main
      answer_ends get_law io.Take to x a main = by_how x a
        where
          by_how : (x : How) → Reads InTells set.limit c (Err x) m1 m2 o o' → EndsSo x o o' v1
          by_how how.NoMemory a = subst (λ p. EndsSo how.NoMemory o p v1) (sym a) (ends_short v1 main)
          by_how how.TurnsSpent a = read_ends get_law to a.0 a.1 how.TurnsSpent a.3 main
          by_how how.ReadFault a = read_ends get_law to a.0 a.1 how.ReadFault a.3 main
          by_how how.Ended a = read_ends get_law to a.0 a.1 how.Ended a.3 main
          by_how (how.Raised r) a = read_ends get_law to a.0 a.1 (how.Raised r) a.3 main
          by_how how.WriteFault a = read_ends get_law to a.0 a.1 how.WriteFault a.3 main

      -- so did what was asked for
      pub answered_so : GetLaw → (i : Io) → Comes_to set.limit c s (Asks i) (state_of m1 v1.cells) → v1.held ≡ None → OwnThere v1 → IsTopped (lower_length v1) (state_of m1 v1.cells)
          → (r : Result (Unit {0}) How) → Answers InTells set.limit c i r m1 m2 o o' → StopsAs r m2 v1 o o'
      answered_so get_law i to main there tops (Ok u) a = answered_on get_law i to main there tops a
      answered_so get_law i to main there tops (Err x) a = answer_ends get_law i to x a (main, there)
