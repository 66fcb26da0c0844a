use Rattle.std.proofs.Common.{rules, ◌≡◌, suc, ◌+◌, ◌-◌, ◌*◌, ◌<◌, ◌≤◌, false, [], length, take, drop, get_or, slice_get, None, Err, arith, refl, sym, ◌∙◌, ap, subst}
use Rattle.std.proofs.lemmas.Int.{to_z-of_z}
use mir.Syntax.{w64}
use mir.Val.{SFits}
use Rattle.std.proofs.Math.ListN.{drop_of_length-le}
use Rattle.behaviours.specs.Joins.{deal}
use Rattle.cell_memory.specs.Sight.{lower_length}
use Rattle.run_plan.specs.Plans.{plan_of}
use Rattle.stack_code.specs.Answers.{IsAnswer}
use Rattle.stack_code.specs.Tops.{IsTopped}
use Rattle.ada_machine.specs.States.{state_of}
use Rattle.ada_machine.specs.declared.machine.Machine.{Machine}
use Rattle.ada_machine.specs.declared.machine.Stop.TheVariants as stop
use Rattle.machine_paths.specs.Threads.{ThreadPath}
use Rattle.ada_threads.specs.Answers.{Answers}
use Rattle.ada_threads.specs.Came.{Came, thread, BodyRan, ThreadRan, OrderRan, OrderLed}
use Rattle.ada_threads.specs.Going.{IsFine}
use Rattle.ada_threads.specs.Shares.{share_of}
use Rattle.ada_threads.specs.Tallies.{Adds}
use Rattle.ada_threads.specs.ThreadPaths.{path_of}
use Rattle.ada_threads.specs.declared.way.Joined.{Joined}
use Rattle.ada_threads.specs.declared.way.Way.TheVariants as way
use Rattle.ada_threads.proofs.Pursued.{led_here, came_short, is_paused, clear, never_asks, fork_here, fork_fine, came, came_inside, led_on, set_on}
use Rattle.ada_threads.proofs.Resuming.{awaits_on, forked_on}
use Rattle.ada_threads.proofs.Inner.{below}
use Rattle.ada_threads.proofs.Forking.{path_at, order_fine_so, fork_short, fork_ran, paused_end}
use Rattle.ada_threads.proofs.InOrder.{add_one, led_none, next_led, share_fine, led_on as led_on_next, ended, all_ended, paused_by, not_paused}
use Rattle.ada_threads.proofs.Bodies.{body_short, body_tops, body_ran, set_thread, thread_short, thread_ran, entered_fine, entered_stays, leaves_so, leave_stays, stays_after, same_stays}
use Rattle.ada_threads.proofs.pursuing.+paths.Goals as goal

pub pursue-loop-init : goal.pursue-loop-init
pursue-loop-init g t c =
    record { set = c.requires.set; led = led_here c.args.team.now.limit c.args.team.now.code.now (plan_of c.args.team.now.plan.now) c.args.machine.now c.args.view.now.cells; stays = (refl, λ w. w, refl); tops = c.requires.tops; halts = (refl, λ h. h) }

pub pursue-go-requires-clause-ready : goal.pursue-go-requires-clause-ready
pursue-go-requires-clause-ready g t c =
    c.loop.invariant.set.ready

pub pursue-go-requires-clause-clear : goal.pursue-go-requires-clause-clear
pursue-go-requires-clause-clear g t c =
    clear c.args.team.now.limit c.args.team.now.code.now (plan_of c.args.team.now.plan.now) c.loop.machine c.loop.view.cells c.loop.invariant.set

pub pursue-go-requires-clause-within : goal.pursue-go-requires-clause-within
pursue-go-requires-clause-within g t c =
    c.loop.invariant.set.within

pub pursue-go-requires-clause-whole : goal.pursue-go-requires-clause-whole
pursue-go-requires-clause-whole g t c =
    c.loop.invariant.stays.1 c.requires.there

pub pursue-go-requires-clause-tops : goal.pursue-go-requires-clause-tops
pursue-go-requires-clause-tops g t c =
    c.loop.invariant.tops

pub pursue-returns-then-levels-eq0-clause-came : goal.pursue-returns-then-levels-eq0-clause-came
pursue-returns-then-levels-eq0-clause-came g t c =
    came c.args.team.now.limit c.args.team.now.code.now (plan_of c.args.team.now.plan.now) c.loop.machine c.loop.view.cells c.loop.invariant.set c.args.machine.now c.args.view.now.cells c.loop.invariant.led c.go.new.m c.go.new.view.cells (stop.Construct c.in-Construct.asked) c.in-Construct.ensures.stops c.in-Construct.ensures.looks c.go.ensures.within

pub pursue-returns-then-levels-eq0-clause-stays : goal.pursue-returns-then-levels-eq0-clause-stays
pursue-returns-then-levels-eq0-clause-stays g t c =
    stays_after c.args.view.now c.loop.view c.go.new.view c.loop.invariant.stays c.go.ensures.stays

pub pursue-returns-then-levels-eq0-clause-halts : goal.pursue-returns-then-levels-eq0-clause-halts
pursue-returns-then-levels-eq0-clause-halts g t c =
    (c.go.ensures.halts.0 ∙ c.loop.invariant.halts.0, λ h. c.go.ensures.halts.1 (c.loop.invariant.halts.1 h))

pub pursue-returns-then-levels-eq0-clause-paused : goal.pursue-returns-then-levels-eq0-clause-paused
pursue-returns-then-levels-eq0-clause-paused g t c =
    λ e. absurd (is_paused way.NoMemory e)

pub pursue-run_fork-requires : goal.pursue-run_fork-requires
pursue-run_fork-requires g t c κs within =
    let awaits = c.in-Construct.ensures.ready in
    let here = fork_here c.args.team.now.limit c.args.team.now.code.now (plan_of c.args.team.now.plan.now) c.loop.machine c.loop.view.cells c.loop.invariant.set c.in-Construct.asked c.go.new.m c.go.new.view.cells c.in-Construct.ensures.stops in
    let fine = fork_fine c.args.team.now.limit c.args.team.now.code.now (plan_of c.args.team.now.plan.now) c.loop.machine c.loop.view.cells c.loop.invariant.set c.in-Construct.asked c.go.new.m c.go.new.view.cells c.in-Construct.ensures.stops in
    let there = c.go.ensures.stays.1 (c.loop.invariant.stays.1 c.requires.there) in
    let less : 5 * (c.args.levels - 1) + 4 < 5 * c.args.levels = omega (arith, c.if-levels-eq0.false) in
    search rules

pub pursue-resume_after-requires-clause-waits : goal.pursue-resume_after-requires-clause-waits
pursue-resume_after-requires-clause-waits g t c =
    awaits_on c.args.team.now.code.now c.go.new.m c.run_fork.new.machine c.in-Ok.ensures.ran.machine c.in-Construct.ensures.ready

pub pursue-resume_after-requires-clause-answer : goal.pursue-resume_after-requires-clause-answer
pursue-resume_after-requires-clause-answer g t c =
    subst (λ (m : Machine). IsAnswer c.args.team.now.code.now (slice_get c.args.team.now.code.now.instrs m.pc) c.in-Ok.gave) (sym c.in-Ok.ensures.ran.machine) c.in-Ok.ensures.ran.to.2

pub pursue-returns-in-Err-clause-came : goal.pursue-returns-in-Err-clause-came
pursue-returns-in-Err-clause-came g t c =
    came_inside c.args.team.now.limit c.args.team.now.code.now (plan_of c.args.team.now.plan.now) c.loop.machine c.loop.view.cells c.loop.invariant.set c.args.machine.now c.args.view.now.cells c.loop.invariant.led c.in-Construct.asked c.go.new.m c.go.new.view.cells c.in-Construct.ensures.stops c.in-Construct.ensures.looks c.run_fork.new.machine c.run_fork.new.view.cells c.in-Err.way c.in-Err.ensures.ran

pub pursue-returns-in-Err-clause-stays : goal.pursue-returns-in-Err-clause-stays
pursue-returns-in-Err-clause-stays g t c =
    stays_after c.args.view.now c.go.new.view c.run_fork.new.view (stays_after c.args.view.now c.loop.view c.go.new.view c.loop.invariant.stays c.go.ensures.stays) c.run_fork.ensures.stays

pub pursue-returns-in-Err-clause-halts : goal.pursue-returns-in-Err-clause-halts
pursue-returns-in-Err-clause-halts g t c =
    (c.run_fork.ensures.halts.0 ∙ (c.go.ensures.halts.0 ∙ c.loop.invariant.halts.0), λ h. c.run_fork.ensures.halts.1 (c.go.ensures.halts.1 (c.loop.invariant.halts.1 h)))

pub pursue-returns-in-Err-clause-paused : goal.pursue-returns-in-Err-clause-paused
pursue-returns-in-Err-clause-paused g t c =
    λ e. c.in-Err.ensures.paused (ap (λ w. Err w) e)

pub pursue-returns-in-Done-clause-came : goal.pursue-returns-in-Done-clause-came
pursue-returns-in-Done-clause-came g t c =
    came c.args.team.now.limit c.args.team.now.code.now (plan_of c.args.team.now.plan.now) c.loop.machine c.loop.view.cells c.loop.invariant.set c.args.machine.now c.args.view.now.cells c.loop.invariant.led c.go.new.m c.go.new.view.cells (stop.Done c.in-Done.value) c.in-Done.ensures.stops c.in-Done.ensures.looks c.go.ensures.within

pub pursue-returns-in-Done-clause-stays : goal.pursue-returns-in-Done-clause-stays
pursue-returns-in-Done-clause-stays g t c =
    stays_after c.args.view.now c.loop.view c.go.new.view c.loop.invariant.stays c.go.ensures.stays

pub pursue-returns-in-Done-clause-halts : goal.pursue-returns-in-Done-clause-halts
pursue-returns-in-Done-clause-halts g t c =
    (c.go.ensures.halts.0 ∙ c.loop.invariant.halts.0, λ h. c.go.ensures.halts.1 (c.loop.invariant.halts.1 h))

pub pursue-returns-in-Done-clause-paused : goal.pursue-returns-in-Done-clause-paused
pursue-returns-in-Done-clause-paused g t c =
    λ e. absurd (is_paused (way.Done c.in-Done.value) e)

pub pursue-returns-in-Left-clause-came : goal.pursue-returns-in-Left-clause-came
pursue-returns-in-Left-clause-came g t c =
    came c.args.team.now.limit c.args.team.now.code.now (plan_of c.args.team.now.plan.now) c.loop.machine c.loop.view.cells c.loop.invariant.set c.args.machine.now c.args.view.now.cells c.loop.invariant.led c.go.new.m c.go.new.view.cells (stop.Left c.in-Left.leave) c.in-Left.ensures.stops c.in-Left.ensures.looks c.go.ensures.within

pub pursue-returns-in-Left-clause-stays : goal.pursue-returns-in-Left-clause-stays
pursue-returns-in-Left-clause-stays g t c =
    stays_after c.args.view.now c.loop.view c.go.new.view c.loop.invariant.stays c.go.ensures.stays

pub pursue-returns-in-Left-clause-halts : goal.pursue-returns-in-Left-clause-halts
pursue-returns-in-Left-clause-halts g t c =
    (c.go.ensures.halts.0 ∙ c.loop.invariant.halts.0, λ h. c.go.ensures.halts.1 (c.loop.invariant.halts.1 h))

pub pursue-returns-in-Left-clause-paused : goal.pursue-returns-in-Left-clause-paused
pursue-returns-in-Left-clause-paused g t c =
    λ e. absurd (is_paused (way.Left c.in-Left.leave) e)

pub pursue-returns-in-Spent-clause-came : goal.pursue-returns-in-Spent-clause-came
pursue-returns-in-Spent-clause-came g t c =
    came c.args.team.now.limit c.args.team.now.code.now (plan_of c.args.team.now.plan.now) c.loop.machine c.loop.view.cells c.loop.invariant.set c.args.machine.now c.args.view.now.cells c.loop.invariant.led c.go.new.m c.go.new.view.cells stop.Spent c.in-Spent.ensures.stops c.in-Spent.ensures.looks c.go.ensures.within

pub pursue-returns-in-Spent-clause-stays : goal.pursue-returns-in-Spent-clause-stays
pursue-returns-in-Spent-clause-stays g t c =
    stays_after c.args.view.now c.loop.view c.go.new.view c.loop.invariant.stays c.go.ensures.stays

pub pursue-returns-in-Spent-clause-halts : goal.pursue-returns-in-Spent-clause-halts
pursue-returns-in-Spent-clause-halts g t c =
    (c.go.ensures.halts.0 ∙ c.loop.invariant.halts.0, λ h. c.go.ensures.halts.1 (c.loop.invariant.halts.1 h))

pub pursue-returns-in-Spent-clause-paused : goal.pursue-returns-in-Spent-clause-paused
pursue-returns-in-Spent-clause-paused g t c =
    λ e. absurd (is_paused (way.Spent) e)

pub pursue-returns-in-Paused-clause-came : goal.pursue-returns-in-Paused-clause-came
pursue-returns-in-Paused-clause-came g t c =
    came c.args.team.now.limit c.args.team.now.code.now (plan_of c.args.team.now.plan.now) c.loop.machine c.loop.view.cells c.loop.invariant.set c.args.machine.now c.args.view.now.cells c.loop.invariant.led c.go.new.m c.go.new.view.cells stop.Paused c.in-Paused.ensures.stops c.in-Paused.ensures.looks c.go.ensures.within

pub pursue-returns-in-Paused-clause-stays : goal.pursue-returns-in-Paused-clause-stays
pursue-returns-in-Paused-clause-stays g t c =
    stays_after c.args.view.now c.loop.view c.go.new.view c.loop.invariant.stays c.go.ensures.stays

pub pursue-returns-in-Paused-clause-halts : goal.pursue-returns-in-Paused-clause-halts
pursue-returns-in-Paused-clause-halts g t c =
    (c.go.ensures.halts.0 ∙ c.loop.invariant.halts.0, λ h. c.go.ensures.halts.1 (c.loop.invariant.halts.1 h))

pub pursue-returns-in-Paused-clause-paused : goal.pursue-returns-in-Paused-clause-paused
pursue-returns-in-Paused-clause-paused g t c =
    λ e. c.in-Paused.ensures.paused refl

pub pursue-returns-in-NoMemory-clause-came : goal.pursue-returns-in-NoMemory-clause-came
pursue-returns-in-NoMemory-clause-came g t c =
    came c.args.team.now.limit c.args.team.now.code.now (plan_of c.args.team.now.plan.now) c.loop.machine c.loop.view.cells c.loop.invariant.set c.args.machine.now c.args.view.now.cells c.loop.invariant.led c.go.new.m c.go.new.view.cells stop.NoMemory c.in-NoMemory.ensures.stops c.in-NoMemory.ensures.looks c.go.ensures.within

pub pursue-returns-in-NoMemory-clause-stays : goal.pursue-returns-in-NoMemory-clause-stays
pursue-returns-in-NoMemory-clause-stays g t c =
    stays_after c.args.view.now c.loop.view c.go.new.view c.loop.invariant.stays c.go.ensures.stays

pub pursue-returns-in-NoMemory-clause-halts : goal.pursue-returns-in-NoMemory-clause-halts
pursue-returns-in-NoMemory-clause-halts g t c =
    (c.go.ensures.halts.0 ∙ c.loop.invariant.halts.0, λ h. c.go.ensures.halts.1 (c.loop.invariant.halts.1 h))

pub pursue-returns-in-NoMemory-clause-paused : goal.pursue-returns-in-NoMemory-clause-paused
pursue-returns-in-NoMemory-clause-paused g t c =
    λ e. absurd (is_paused (way.NoMemory) e)

pub pursue-unreachable-requires : goal.pursue-unreachable-requires
pursue-unreachable-requires g t c =
    absurd (never_asks c.args.team.now.limit c.args.team.now.code.now (plan_of c.args.team.now.plan.now) c.loop.machine c.loop.view.cells c.loop.invariant.set c.in-Ask.field-0 (state_of c.go.new.m c.go.new.view.cells) c.in-Ask.ensures.stops)

pub pursue-unreachable-unreachable : goal.pursue-unreachable-unreachable
pursue-unreachable-unreachable g t c =
    absurd (never_asks c.args.team.now.limit c.args.team.now.code.now (plan_of c.args.team.now.plan.now) c.loop.machine c.loop.view.cells c.loop.invariant.set c.in-Ask.field-0 (state_of c.go.new.m c.go.new.view.cells) c.in-Ask.ensures.stops)

pub pursue-loop-preserved : goal.pursue-loop-preserved
pursue-loop-preserved g t c =
    record {
      set = set_on c.args.team.now.limit c.args.team.now.code.now (plan_of c.args.team.now.plan.now) c.loop.machine c.loop.view.cells c.loop.invariant.set c.args.machine.now c.args.view.now.cells c.loop.invariant.led c.in-Construct.asked c.go.new.m c.go.new.view.cells c.in-Construct.ensures.stops c.in-Construct.ensures.looks c.run_fork.new.machine c.run_fork.new.view.cells c.in-Ok.gave c.in-Ok.ensures.ran c.resume_after.new.self c.resume_after.ensures.looks c.resume_after.ensures.state (c.resume_after.ensures.ready c.run_fork.new.view.cells);
      led = led_on c.args.team.now.limit c.args.team.now.code.now (plan_of c.args.team.now.plan.now) c.loop.machine c.loop.view.cells c.loop.invariant.set c.args.machine.now c.args.view.now.cells c.loop.invariant.led c.in-Construct.asked c.go.new.m c.go.new.view.cells c.in-Construct.ensures.stops c.in-Construct.ensures.looks c.run_fork.new.machine c.run_fork.new.view.cells c.in-Ok.gave c.in-Ok.ensures.ran c.resume_after.new.self c.resume_after.ensures.looks c.resume_after.ensures.state;
      stays = stays_after c.args.view.now c.go.new.view c.run_fork.new.view (stays_after c.args.view.now c.loop.view c.go.new.view c.loop.invariant.stays c.go.ensures.stays) c.run_fork.ensures.stays;
      tops = (led_on c.args.team.now.limit c.args.team.now.code.now (plan_of c.args.team.now.plan.now) c.loop.machine c.loop.view.cells c.loop.invariant.set c.args.machine.now c.args.view.now.cells c.loop.invariant.led c.in-Construct.asked c.go.new.m c.go.new.view.cells c.in-Construct.ensures.stops c.in-Construct.ensures.looks c.run_fork.new.machine c.run_fork.new.view.cells c.in-Ok.gave c.in-Ok.ensures.ran c.resume_after.new.self c.resume_after.ensures.looks c.resume_after.ensures.state).follows.tops (lower_length c.run_fork.new.view) (subst (λ low. IsTopped low (state_of c.args.machine.now c.args.view.now.cells)) (sym (stays_after c.args.view.now c.go.new.view c.run_fork.new.view (stays_after c.args.view.now c.loop.view c.go.new.view c.loop.invariant.stays c.go.ensures.stays) c.run_fork.ensures.stays).0) c.requires.tops);
      halts = (c.run_fork.ensures.halts.0 ∙ (c.go.ensures.halts.0 ∙ c.loop.invariant.halts.0), λ h. c.run_fork.ensures.halts.1 (c.go.ensures.halts.1 (c.loop.invariant.halts.1 h)));
    }

pub pursue-returns-clause-came : goal.pursue-returns-clause-came
pursue-returns-clause-came g t c =
    came_short c.args.team.now.limit c.args.team.now.code.now (plan_of c.args.team.now.plan.now) c.args.machine.now c.loop.machine c.args.view.now.cells c.loop.view.cells c.loop.invariant.led c.loop.invariant.set.within

pub pursue-returns-clause-stays : goal.pursue-returns-clause-stays
pursue-returns-clause-stays g t c =
    c.loop.invariant.stays

pub pursue-returns-clause-halts : goal.pursue-returns-clause-halts
pursue-returns-clause-halts g t c =
    c.loop.invariant.halts

pub pursue-returns-clause-paused : goal.pursue-returns-clause-paused
pursue-returns-clause-paused g t c =
    λ e. absurd (is_paused way.NoMemory e)

pub run_fork-inner-requires-clause-here : goal.run_fork-inner-requires-clause-here
run_fork-inner-requires-clause-here g t c =
    (c.requires.here.0, forked_on c.args.team.now.code.now c.args.machine.now c.args.machine.now refl c.requires.here.0 c.args.asked.site c.args.view.now.cells [] c.requires.here.1)

pub run_fork-inner-requires-clause-near : goal.run_fork-inner-requires-clause-near
run_fork-inner-requires-clause-near g t c =
    let small = c.len.ensures.small in omega (arith, small.1, c.len.ensures.many)

pub run_fork-bounds-as_slice-asked : goal.run_fork-bounds-as_slice-asked
run_fork-bounds-as_slice-asked g t c =
    below c.args.team.now.code.now.sites c.as_slice.result.now c.args.asked.site c.in-Some.ensures.0 c.in-Some.ensures.1 c.as_slice.ensures

pub run_fork-returns-in_default-clause-ran : goal.run_fork-returns-in_default-clause-ran
run_fork-returns-in_default-clause-ran g t c =
    fork_short c.args.team.now.limit c.args.team.now.code.now (plan_of c.args.team.now.plan.now) c.args.asked c.args.machine.now c.args.view.now.cells c.requires.within

pub run_fork-returns-in_default-sizes_of-clause-ran : goal.run_fork-returns-in_default-sizes_of-clause-ran
run_fork-returns-in_default-sizes_of-clause-ran g t c =
    fork_short c.args.team.now.limit c.args.team.now.code.now (plan_of c.args.team.now.plan.now) c.args.asked c.args.machine.now c.args.view.now.cells c.requires.within

pub run_fork-run_order-joined-requires : goal.run_fork-run_order-joined-requires
run_fork-run_order-joined-requires g t c κs within =
    let w = path_at c.args.team.now.limit c.args.team.now.code.now (plan_of c.args.team.now.plan.now) c.len.result (length c.args.view.now.cells) c.args.asked.site (state_of c.args.machine.now []) c.in-Some.path c.in-Some.ensures c.len.ensures.many c.as_slice.result.now c.as_slice.ensures c.index-as_slice-asked.result c.index-as_slice-asked.is in
    let base : c.in-Some.path.base ≡ length c.args.view.now.cells = ap (λ (p : ThreadPath). p.base) w.1 in
    let fine = order_fine_so c.args.team.now.limit c.args.team.now.code.now (plan_of c.args.team.now.plan.now) c.args.asked c.args.machine.now c.args.view.now.cells c.index-as_slice-asked.result w.0 c.requires.fine c.in-Some.path w.1 c.as_slice-2.result.now (c.as_slice-2.ensures ∙ c.in-Ok.ensures) in
    search rules

pub run_fork-returns-clause-ran : goal.run_fork-returns-clause-ran
run_fork-returns-clause-ran g t c =
    let w = path_at c.args.team.now.limit c.args.team.now.code.now (plan_of c.args.team.now.plan.now) c.len.result (length c.args.view.now.cells) c.args.asked.site (state_of c.args.machine.now []) c.in-Some.path c.in-Some.ensures c.len.ensures.many c.as_slice.result.now c.as_slice.ensures c.index-as_slice-asked.result c.index-as_slice-asked.is in
    fork_ran c.args.team.now.limit c.args.team.now.code.now (plan_of c.args.team.now.plan.now) c.args.asked c.args.machine.now _ c.args.view.now.cells c.run_order-joined.new.view.cells c.index-as_slice-asked.result w.0 c.requires.awaits.valid c.requires.here.0 c.requires.here.1
    c.requires.fine c.in-Some.path w.1 c.as_slice-2.result.now (c.as_slice-2.ensures ∙ c.in-Ok.ensures) c.run_order-joined.result c.run_order-joined.ensures.ran c.answered.result (let fits : SFits w64 c.args.asked.initial = search rules in subst (λ z. Answers c.index-as_slice-asked.result.kind z c.run_order-joined.result.end c.answered.result) (to_z-of_z w64 c.args.asked.initial fits) c.answered.ensures) c.looks_after-machine.ensures.small
    (ap (λ n. record c.args.machine.now { turns = c.run_order-joined.result.turns; looks = n }) c.looks_after-machine.ensures.sum)

pub run_fork-returns-clause-paused : goal.run_fork-returns-clause-paused
run_fork-returns-clause-paused g t c =
    λ e. c.run_order-joined.ensures.paused (paused_end c.index-as_slice-asked.result.kind c.args.asked.initial c.run_order-joined.result.end (subst (λ r. Answers c.index-as_slice-asked.result.kind c.args.asked.initial c.run_order-joined.result.end r) e (let fits : SFits w64 c.args.asked.initial = search rules in subst (λ z. Answers c.index-as_slice-asked.result.kind z c.run_order-joined.result.end c.answered.result) (to_z-of_z w64 c.args.asked.initial fits) c.answered.ensures)))

pub run_order-loop-size-init : goal.run_order-loop-size-init
run_order-loop-size-init g t c =
    record {
      led = led_none c.args.path.now c.args.fork.frame c.args.fork.asked c.args.sizes.now c.args.view.now.cells c.requires.base c.new-tally.result
          (c.new-tally.ensures ∙ ap (λ (p : ThreadPath). record { number = 0; first = 0; turns = p.turns; over = false; values = []; looks = 0 }) c.path.view_is)
          (subst (λ (p : ThreadPath). p.turns ≤ p.limit) c.path.view_is c.path.invariant.within) c.requires.fine;
      stays = (refl, λ w. w, refl);
      halts = (refl, λ h. h);
    }

pub run_order-run_thread-ran-requires : goal.run_order-run_thread-ran-requires
run_order-run_thread-ran-requires g t c κs within =
    let there = c.loop-size.invariant.stays.1 c.requires.there in
    let fine = subst (λ j. IsFine c.args.path.now.limit c.args.path.now.code (thread c.args.path.now c.args.fork.frame c.args.fork.asked j c.loop-size.view.cells None)) (sym (ap share_of c.share.ensures)) (share_fine c.args.path.now c.args.fork.frame c.args.fork.asked c.args.sizes.now c.args.view.now.cells c.requires.base (get_or c.args.sizes.now c.loop-size.size-index 0) (drop (suc c.loop-size.size-index) c.args.sizes.now) c.loop-size.tally c.loop-size.view.cells (next_led c.args.path.now c.args.fork.frame c.args.fork.asked c.args.sizes.now c.args.view.now.cells c.loop-size.size-index c.loop-size-test.true c.loop-size.tally c.loop-size.view.cells c.loop-size.invariant.led)) in
    search rules

pub run_order-returns-in-Some-clause-ran : goal.run_order-returns-in-Some-clause-ran
run_order-returns-in-Some-clause-ran g t c =
    subst (λ r. OrderRan c.args.path.now c.args.fork.frame c.args.fork.asked (deal 0 0 c.args.sizes.now) r c.args.view.now.cells c.run_thread-ran.new.view.cells) (sym c.ended.ensures) (ended c.args.path.now c.args.fork.frame c.args.fork.asked c.args.sizes.now c.args.view.now.cells c.requires.base (get_or c.args.sizes.now c.loop-size.size-index 0) (drop (suc c.loop-size.size-index) c.args.sizes.now) c.loop-size.tally c.loop-size.view.cells (next_led c.args.path.now c.args.fork.frame c.args.fork.asked c.args.sizes.now c.args.view.now.cells c.loop-size.size-index c.loop-size-test.true c.loop-size.tally c.loop-size.view.cells c.loop-size.invariant.led) c.run_thread-ran.result c.run_thread-ran.new.view.cells (subst (λ j. ThreadRan c.args.path.now c.args.fork.frame c.args.fork.asked j c.run_thread-ran.result c.loop-size.view.cells c.run_thread-ran.new.view.cells) (ap share_of c.share.ensures) c.run_thread-ran.ensures.ran) c.add.ensures.small c.add.new.self c.in-Some.end (subst (λ o. Adds c.loop-size.tally c.run_thread-ran.result (get_or c.args.sizes.now c.loop-size.size-index 0) o c.add.new.self) c.in-Some.is c.add.ensures.adds))

pub run_order-returns-in-Some-clause-stays : goal.run_order-returns-in-Some-clause-stays
run_order-returns-in-Some-clause-stays g t c =
    stays_after c.args.view.now c.loop-size.view c.run_thread-ran.new.view c.loop-size.invariant.stays c.run_thread-ran.ensures.stays

pub run_order-returns-in-Some-clause-halts : goal.run_order-returns-in-Some-clause-halts
run_order-returns-in-Some-clause-halts g t c =
    (c.run_thread-ran.ensures.halts.0 ∙ c.loop-size.invariant.halts.0, λ h. c.run_thread-ran.ensures.halts.1 (c.loop-size.invariant.halts.1 h))

pub run_order-returns-in-Some-clause-paused : goal.run_order-returns-in-Some-clause-paused
run_order-returns-in-Some-clause-paused g t c =
    λ e. c.run_thread-ran.ensures.paused (paused_by c.run_thread-ran.result.way c.in-Some.end ((subst (λ o. Adds c.loop-size.tally c.run_thread-ran.result (get_or c.args.sizes.now c.loop-size.size-index 0) o c.add.new.self) c.in-Some.is c.add.ensures.adds)).1 (sym (ap (λ (j : Joined). j.end) c.ended.ensures) ∙ e))

pub run_order-loop-size-preserved : goal.run_order-loop-size-preserved
run_order-loop-size-preserved g t c =
    record {
      led = subst (λ n. OrderLed c.args.path.now c.args.fork.frame c.args.fork.asked c.args.sizes.now c.args.view.now.cells (drop n c.args.sizes.now) c.add.new.self c.run_thread-ran.new.view.cells) (add_one c.loop-size.size-index) (led_on_next c.args.path.now c.args.fork.frame c.args.fork.asked c.args.sizes.now c.args.view.now.cells c.requires.base (get_or c.args.sizes.now c.loop-size.size-index 0) (drop (suc c.loop-size.size-index) c.args.sizes.now) c.loop-size.tally c.loop-size.view.cells (next_led c.args.path.now c.args.fork.frame c.args.fork.asked c.args.sizes.now c.args.view.now.cells c.loop-size.size-index c.loop-size-test.true c.loop-size.tally c.loop-size.view.cells c.loop-size.invariant.led) c.run_thread-ran.result c.run_thread-ran.new.view.cells (subst (λ j. ThreadRan c.args.path.now c.args.fork.frame c.args.fork.asked j c.run_thread-ran.result c.loop-size.view.cells c.run_thread-ran.new.view.cells) (ap share_of c.share.ensures) c.run_thread-ran.ensures.ran) c.add.ensures.small c.add.new.self (subst (λ o. Adds c.loop-size.tally c.run_thread-ran.result (get_or c.args.sizes.now c.loop-size.size-index 0) o c.add.new.self) c.in_default.is c.add.ensures.adds));
      stays = stays_after c.args.view.now c.loop-size.view c.run_thread-ran.new.view c.loop-size.invariant.stays c.run_thread-ran.ensures.stays;
      halts = (c.run_thread-ran.ensures.halts.0 ∙ c.loop-size.invariant.halts.0, λ h. c.run_thread-ran.ensures.halts.1 (c.loop-size.invariant.halts.1 h));
    }

pub run_order-returns-clause-ran : goal.run_order-returns-clause-ran
run_order-returns-clause-ran g t c =
    subst (λ r. OrderRan c.args.path.now c.args.fork.frame c.args.fork.asked (deal 0 0 c.args.sizes.now) r c.args.view.now.cells c.loop-size.view.cells) (sym c.joined.ensures) (all_ended c.args.path.now c.args.fork.frame c.args.fork.asked c.args.sizes.now c.args.view.now.cells c.requires.base c.loop-size.tally c.loop-size.view.cells (subst (λ l. OrderLed c.args.path.now c.args.fork.frame c.args.fork.asked c.args.sizes.now c.args.view.now.cells l c.loop-size.tally c.loop-size.view.cells) (drop_of_length-le c.args.sizes.now c.loop-size-test.false) c.loop-size.invariant.led))

pub run_order-returns-clause-stays : goal.run_order-returns-clause-stays
run_order-returns-clause-stays g t c =
    c.loop-size.invariant.stays

pub run_order-returns-clause-halts : goal.run_order-returns-clause-halts
run_order-returns-clause-halts g t c =
    c.loop-size.invariant.halts

pub run_order-returns-clause-paused : goal.run_order-returns-clause-paused
run_order-returns-clause-paused g t c =
    λ e. absurd (not_paused c.loop-size.tally (sym (ap (λ (j : Joined). j.end) c.joined.ensures) ∙ e))

pub run_thread-returns-in_default-clause-ran : goal.run_thread-returns-in_default-clause-ran
run_thread-returns-in_default-clause-ran g t c =
    subst (λ r. ThreadRan c.args.path.now c.args.fork.frame c.args.fork.asked (share_of c.args.share) r c.args.view.now.cells c.args.view.now.cells) (sym c.short.ensures.value) (thread_short c.args.path.now c.args.fork.frame c.args.fork.asked (share_of c.args.share) c.args.view.now.cells c.args.view.now.cells refl c.short.ensures.within)

pub run_thread-returns-in-Err-clause-ran : goal.run_thread-returns-in-Err-clause-ran
run_thread-returns-in-Err-clause-ran g t c =
    subst (λ r. ThreadRan c.args.path.now c.args.fork.frame c.args.fork.asked (share_of c.args.share) r c.args.view.now.cells c.enter.new.view.cells) (sym c.short-in-Err.ensures.value) (thread_short c.args.path.now c.args.fork.frame c.args.fork.asked (share_of c.args.share) c.args.view.now.cells c.enter.new.view.cells c.in-Err.ensures.err.cells c.short-in-Err.ensures.within)

pub run_thread-returns-in-Err-clause-stays : goal.run_thread-returns-in-Err-clause-stays
run_thread-returns-in-Err-clause-stays g t c =
    same_stays c.args.view.now c.enter.new.view c.in-Err.ensures.err

pub run_thread-run_body-ran-requires : goal.run_thread-run_body-ran-requires
run_thread-run_body-ran-requires g t c κs within =
    let there = c.in-Ok.ensures.ok.there in
    let fine = entered_fine c.args.path.now c.args.fork.frame c.args.fork.asked (share_of c.args.share) c.in-Some.frame c.in-Some.ensures.values c.args.view.now.cells c.enter.new.view.cells c.in-Ok.ensures.ok.cells c.requires.fine in
    search rules

pub run_thread-leave-requires : goal.run_thread-leave-requires
run_thread-leave-requires g t c =
    (leaves_so c.args.view.now c.enter.new.view c.run_body-ran.new.view c.in-Some.frame c.in-Ok.ensures.ok c.len-many.ensures.own c.run_body-ran.ensures.stays c.run_body-ran.ensures.ran.long c.len-many.result c.len-many.ensures.many)

pub run_thread-returns-clause-ran : goal.run_thread-returns-clause-ran
run_thread-returns-clause-ran g t c =
    thread_ran c.args.path.now c.args.fork.frame c.args.fork.asked (share_of c.args.share) c.in-Some.frame c.in-Some.ensures.values c.run_body-ran.result c.args.view.now.cells c.enter.new.view.cells c.run_body-ran.new.view.cells c.leave.new.view.cells c.in-Ok.ensures.ok.cells c.run_body-ran.ensures.ran (c.leave.ensures.cells ∙ ap (λ n. take n c.run_body-ran.new.view.cells) c.len-many.ensures.many)

pub run_thread-returns-clause-stays : goal.run_thread-returns-clause-stays
run_thread-returns-clause-stays g t c =
    stays_after c.args.view.now c.run_body-ran.new.view c.leave.new.view (stays_after c.args.view.now c.enter.new.view c.run_body-ran.new.view (entered_stays c.args.view.now c.enter.new.view c.in-Some.frame c.in-Ok.ensures.ok c.len-many.ensures.own) c.run_body-ran.ensures.stays) (leave_stays c.run_body-ran.new.view c.leave.new.view c.len-many.result (leaves_so c.args.view.now c.enter.new.view c.run_body-ran.new.view c.in-Some.frame c.in-Ok.ensures.ok c.len-many.ensures.own c.run_body-ran.ensures.stays c.run_body-ran.ensures.ran.long c.len-many.result c.len-many.ensures.many) c.leave.ensures)

pub run_body-returns-in_default-clause-ran : goal.run_body-returns-in_default-clause-ran
run_body-returns-in_default-clause-ran g t c =
    subst (λ r. BodyRan c.args.path.now r c.args.view.now.cells c.args.view.now.cells) (sym c.short.ensures.value) (body_short c.args.path.now c.args.view.now.cells c.short.ensures.within)

pub run_body-pursue-way-requires : goal.run_body-pursue-way-requires
run_body-pursue-way-requires g t c κs within =
    let planned = c.path.invariant.planned in
    let set = set_thread (path_of c.path.inside) c.args.path.now c.path.view_is c.in-Ok.machine c.args.view.now.cells c.in-Ok.ensures.ready c.in-Ok.ensures.begun c.machine.ensures.within c.requires.fine in
    let there = c.requires.there in
    let tops = body_tops c.args.path.now c.in-Ok.machine c.args.view.now.cells (c.in-Ok.ensures.begun c.args.view.now.cells) (lower_length c.args.view.now) (omega arith) in
    search rules

pub run_body-settle-requires-clause-whole : goal.run_body-settle-requires-clause-whole
run_body-settle-requires-clause-whole g t c =
    c.pursue-way.ensures.stays.1 c.requires.there

pub run_body-settle-requires-clause-tops : goal.run_body-settle-requires-clause-tops
run_body-settle-requires-clause-tops g t c =
    let low = c.pursue-way.ensures.stays.0 in c.pursue-way.ensures.came.tops (lower_length c.pursue-way.new.view) (body_tops c.args.path.now c.in-Ok.machine c.args.view.now.cells (c.in-Ok.ensures.begun c.args.view.now.cells) (lower_length c.pursue-way.new.view) (omega (arith, low)))

pub run_body-returns-clause-ran : goal.run_body-returns-clause-ran
run_body-returns-clause-ran g t c =
    body_ran c.args.path.now c.in-Ok.machine c.args.view.now.cells c.in-Ok.ensures.begun c.pursue-way.new.machine c.pursue-way.new.view.cells c.settle.new.view.cells (record { way = c.pursue-way.result; turns = c.pursue-way.new.machine.turns; looks = c.pursue-way.new.machine.looks }) c.in-Ok.ensures.looks
    (subst (λ (p : ThreadPath). Came p.limit p.code p.plan c.pursue-way.result c.in-Ok.machine c.args.view.now.cells c.pursue-way.new.machine c.pursue-way.new.view.cells) c.path.view_is c.pursue-way.ensures.came) c.settle.ensures.cells refl refl

pub run_body-returns-clause-stays : goal.run_body-returns-clause-stays
run_body-returns-clause-stays g t c =
    stays_after c.args.view.now c.pursue-way.new.view c.settle.new.view c.pursue-way.ensures.stays c.settle.ensures.stays
