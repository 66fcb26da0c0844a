-- A run from the outset.
use Rattle.std.proofs.Common.{◌≡◌, ℕ, zero, suc, ◌≤◌, ◌<◌, pos, true, false, List, [], ◌∷◌, length, drop, replicate, slice_get, Option, Some, None, arith, refl, sym, ◌∙◌, ap, subst}
use Rattle.std.specs.Prelude.{All, IsSome, IsSomeAnd}
use Rattle.ada_base.specs.Cells.{Mine}
use Rattle.ada_base.specs.Cuts.{cuts_of}
use Rattle.ada_base.specs.Input.{Held, Nothing}
use Rattle.ada_base.specs.Notes.{ConstructNote, InOrder, ByNotes}
use Rattle.ada_meaning.specs.Law.{EachPositive, IsPlan}
use Rattle.ada_meaning.specs.Programs.{Setting}
use Rattle.typed_tree.specs.Syntax.{Program}
use Rattle.cell_memory.specs.Sight.{Sight, OwnThere, lower_length}
use Rattle.run_plan.specs.Plans.{HasNoZero, plan_of}
use Rattle.run_plan.specs.declared.plan.Plan.{Plan as PlanGiven}
use Rattle.run_plan.specs.declared.plan.Plan.TheVariants as plan
use Rattle.stack_code.specs.declared.code.Around.TheVariants.{Sub}
use Rattle.stack_code.specs.declared.code.Code.{Code}
use Rattle.stack_code.specs.declared.code.CodeSub.{CodeSub}
use Rattle.stack_code.specs.Machine.{State, begun}
use Rattle.stack_code.specs.Stands.{IsForward, Sees}
use Rattle.stack_code.specs.Tops.{IsTopped}
use Rattle.stack_code.specs.Valid.{HasStack, outward}
use Rattle.ada_lower.specs.Driven.{World, On, Safe}
use Rattle.ada_lower.specs.Law.{ViewLaw}
use Rattle.ada_lower.specs.Outset.{first_dyn}
use Rattle.ada_lower.proofs.ForkDeals.{plan_within}
use Rattle.ada_lower.proofs.WholeLaws.{forward_law}
use Rattle.ada_machine.specs.States.{IsEntry, Ready, state_of}
use Rattle.ada_machine.specs.declared.machine.Machine.{Machine}
use Rattle.machine_paths.specs.Constructing.{with_schedule}
use Rattle.run_outside.specs.Outside.{Outside}
use Rattle.run_machine_laws.specs.Looping.{At, LoopLaw}
use Rattle.run_machine_laws.specs.Programs.{IsLoaded}
use Rattle.run_machine_laws.specs.Telling.{TellLaw}
use Rattle.run_machine.specs.Loops.{Ends, IsMain, IsOn}
use Rattle.run_machine.specs.Running.{Running, Runs, ending_of, world_of}
use Rattle.run_machine.specs.declared.ends.How.{How}
use Rattle.run_machine.specs.declared.ends.How.TheVariants as how
use Rattle.run_machine.proofs.Onward.{wanted}

-- a plan without a zero
each_positive : (sizes : List ℕ) → All (λ (size : ℕ). 0 < size) sizes → EachPositive sizes
each_positive [] h = tt
each_positive (n ∷ ns) h = (h 0 0 (omega arith), each_positive ns (λ k d less. h (suc k) d (omega (arith, less))))

pub plan_is : (p : PlanGiven) → HasNoZero p → IsPlan (plan_of p)
plan_is plan.One h = tt
plan_is (plan.Even chunks) h = h
plan_is (plan.Sized size) h = h
plan_is (plan.Listed sizes) h = each_positive sizes h

-- ---- loaded code
module _ (program : Program) (c : Code) (frame slots : ℕ) (is : IsLoaded program c frame slots) where
  pub forward : IsForward c
  forward = forward_law program is.text c is.lowered.code

  pub main_stack : HasStack c (Sub 0) (λ most. Unit {0})
  main_stack = there (slice_get c.subs 0) is.begins
    where
      there : (o : Option CodeSub) → IsSomeAnd o (λ s. s.entry ≡ 0) → IsSomeAnd o (λ s. Unit {0})
      there None h = h
      there (Some s) h = tt

  pub first_instr : (pc : ℕ) → IsEntry c (Sub 0) pc → pc ≡ 0
  first_instr pc at = same (slice_get c.subs 0) is.begins at
    where
      same : (o : Option CodeSub) → IsSomeAnd o (λ s. s.entry ≡ 0) → IsSomeAnd o (λ s. s.entry ≡ pc) → pc ≡ 0
      same None h g = absurd h
      same (Some s) h g = sym g ∙ h

-- the main procedure has no frame around it
pub sees_none : (c : Code) → Sees c (Sub 0) []
sees_none c zero h = omega arith
sees_none c (suc k) h = absurd (none k h)
  where
    none : (k : ℕ) → IsSome (outward c None k) → ⊥
    none k h = cc

-- ---- the run stands at its first instruction
module _ (InTells : Type 0) (law_is : LoopLaw) (views : ViewLaw) (set : Setting) (planned : IsPlan set.plan) (program : Program) (c : Code) (frame slots : ℕ) (is : IsLoaded program c frame slots) (o : Outside) (came : o.came ≡ []) (held : o.held ≡ Nothing) where
  abbrev first_state : State
  first_state = begun 0 0 [] 0 0 0 None (replicate frame (Mine (pos 0)))

  abbrev first_world : List ℕ → World
  first_world w = (first_dyn InOrder (cuts_of set.plan) frame w o.put).world

  world_is : (w : List ℕ) → first_world w ≡ world_of InTells set c frame o.put o w []
  world_is w =
      sym (ap (λ (h : Held). record (world_of InTells set c frame o.put o w []) { held = h }) held
      ∙ ap (λ (bs : List ℕ). record (first_world w) { taken = length bs; input = drop (length bs) w }) came)

  stands : (w : List ℕ) → At set c frame w o.put [] [] first_state (first_world w)
  stands w = let b = (law_is set c frame w o.put).0 in record { ends = b.ends; planned = b.planned; done = b.done; output = b.output; taken = b.taken; rest = b.rest }

  false_true : false ≡ true → ⊥
  false_true e = cc

  safe_first : (w : List ℕ) (ns : List ConstructNote) → Safe set.limit c true (On (with_schedule (ByNotes ns) (record { state = first_state; world = first_world w })))
  safe_first w ns = views program (record set { one = false }) is.accepted (plan_within set.plan) c is.globals is.mains is.texts is.text is.frames slots frame is.depth is.leased is.countable w o.put (ByNotes ns) (λ e. absurd (false_true e)) (is.room (record set { one = false }) w o.put (ByNotes ns))

  runs_first : Running InTells set c frame o.put [] [] first_state o
  runs_first = record {
    at = λ w k. subst (λ z. At set c frame w o.put [] [] first_state z) (world_is w) (stands w);
    safe = λ w k ns. subst (λ (z : World). Safe set.limit c true (On (with_schedule (ByNotes ns) (record { state = first_state; world = z })))) (world_is w) (safe_first w ns);
  }

  -- a machine stands there
  pub is_on : (m : Machine) (v : Sight) → Ready c m v.cells → state_of m v.cells ≡ begun m.pc 0 [] 0 0 0 None v.cells → IsEntry c (Sub 0) m.pc → v.cells ≡ replicate frame (Mine (pos 0)) → v.held ≡ None → OwnThere v → IsOn InTells set c frame o.put m v o
  is_on m v ready start at zeroed main there = record {
    program = program;
    slots = slots;
    loaded = is;
    plan = planned;
    ready = ready;
    within = let z : m.turns ≡ 0 = ap (λ (s : State). s.turns) start in omega (arith, z);
    main = main;
    there = there;
    tops = subst (λ (s : State). IsTopped (lower_length v) s) (sym start) (let z : lower_length v ≤ length v.cells = omega arith in z);
    told = [];
    front = [];
    runs = subst (λ (s : State). Running InTells set c frame o.put [] [] s o) (sym state_is) runs_first;
  }
    where
      state_is : state_of m v.cells ≡ first_state
      state_is = start ∙ ap (λ pc. begun pc 0 [] 0 0 0 None v.cells) (first_instr program c frame slots is m.pc at) ∙ ap (λ cs. begun 0 0 [] 0 0 0 None cs) zeroed

  -- ---- the whole run
  pub whole_run : TellLaw → (h : How) (o' : Outside) (v : Sight) → Ends InTells set c frame o.put h o o' v → Runs InTells set c frame o.put h o o' v.cells
  whole_run tell h o' v e = record {
    cause = e.cause;
    back = e.back;
    over = e.over;
    tells = λ program slots is w k. tell program set c frame slots is planned w o.put e.over.told (ending_of h) e.over.output (length o'.came) v.cells (e.over.ends w k);
  }

  -- memory was wanting at once
  pub short_run : TellLaw → (v : Sight) → IsMain v → Runs InTells set c frame o.put how.NoMemory o o v.cells
  short_run tell v main = whole_run tell how.NoMemory o v (record { cause = refl; back = record { back = λ w k. k }; over = wanted InTells law_is set c frame o.put [] [] first_state o v.cells runs_first; main = main })
