use Rattle.std.proofs.Common.{rules, ◌≡◌, true, false, map, Ok, Err, Result, refl, sym, ◌∙◌, ap, subst}
use Rattle.std.proofs.lemmas.Int.{to_z-of_z}
use mir.Syntax.{w64}
use mir.Val.{SFits}
use Rattle.run_plan.specs.Plans.{plan_of}
use Rattle.ada_workers.specs.Joins.{Joined, notes_of}
use Rattle.ada_workers.specs.Noted.{told_note}
use Rattle.ada_workers.specs.Threads.{FineInOrder, IsOrdered}
use Rattle.stack_code.specs.declared.path.Gave.{Gave}
use Rattle.stack_code.specs.Machine.{Stop}
use Rattle.ada_machine.specs.States.{state_of}
use Rattle.machine_paths.specs.Constructing.{starts_at}
use Rattle.machine_paths.specs.Noting.{AnswerOf, turns_of}
use Rattle.machine_paths.specs.Threads.{ThreadPath, runs}
use Rattle.ada_threads.specs.Answers.{Answers}
use Rattle.ada_threads.specs.Sites.{AllRan}
use Rattle.ada_threads.specs.declared.way.Way.TheVariants as way
use Rattle.ada_threads.proofs.Inner.{at_element}
use Rattle.ada_threads.proofs.Sited.{answer_fits, answer_there, element_is, fine_order, site_off, site_on}
use Rattle.ada_threads.proofs.site.run_site.Goals as goal

pub end_of-end-requires : goal.end_of-end-requires
end_of-end-requires g c =
    let site = c.requires.starts.0 in
    let at = at_element c.args.team.now.code.now.sites c.args.asked.site site c.index-as_slice-asked.result c.requires.starts.1 c.as_slice.result.now c.as_slice.ensures c.index-as_slice-asked.is in
    let is = element_is c.args.team.now.code.now.sites c.args.asked.site site c.index-as_slice-asked.result c.requires.starts.1 c.as_slice.result.now c.as_slice.ensures c.index-as_slice-asked.is in
    let begins = c.requires.starts.2 ∙ ap (λ y. starts_at c.args.team.now.limit c.args.team.now.code.now (plan_of c.args.team.now.plan.now) y c.args.asked (state_of c.args.machine.now c.args.view.now.cells)) (sym is) in
    let joined = subst (λ ss. Joined runs ss c.args.view.now.cells c.in-Ok.finished.chosen c.in-Ok.finished.overs.items c.run_threads.new.view.cells) begins c.in-Ok.ensures.ok in
    let h = answer_there c.args.team.now.limit c.args.team.now.code.now (plan_of c.args.team.now.plan.now) c.args.asked c.args.machine.now c.args.view.now.cells c.index-as_slice-asked.result at c.in-Ok.finished.chosen c.in-Ok.finished.overs.items c.run_threads.new.view.cells joined in
    (h.0, subst (λ os. AnswerOf c.in-Ok.finished.chosen os h.0) (sym c.as_slice-3.ensures.value) h.1)

pub resume_after-requires-clause-answer : goal.resume_after-requires-clause-answer
resume_after-requires-clause-answer g c =
    let site = c.requires.starts.0 in
    let at = at_element c.args.team.now.code.now.sites c.args.asked.site site c.index-as_slice-asked.result c.requires.starts.1 c.as_slice.result.now c.as_slice.ensures c.index-as_slice-asked.is in
    let is = element_is c.args.team.now.code.now.sites c.args.asked.site site c.index-as_slice-asked.result c.requires.starts.1 c.as_slice.result.now c.as_slice.ensures c.index-as_slice-asked.is in
    let begins = c.requires.starts.2 ∙ ap (λ y. starts_at c.args.team.now.limit c.args.team.now.code.now (plan_of c.args.team.now.plan.now) y c.args.asked (state_of c.args.machine.now c.args.view.now.cells)) (sym is) in
    let joined = subst (λ ss. Joined runs ss c.args.view.now.cells c.in-Ok.finished.chosen c.in-Ok.finished.overs.items c.run_threads.new.view.cells) begins c.in-Ok.ensures.ok in
    answer_fits c.args.team.now.limit c.args.team.now.code.now (plan_of c.args.team.now.plan.now) c.args.asked c.args.machine.now c.args.view.now.cells c.index-as_slice-asked.result at c.in-Ok.finished.chosen c.in-Ok.finished.overs.items c.run_threads.new.view.cells joined c.requires.awaits.valid c.requires.here.0 c.requires.here.1 c.end_of-end.result (λ p all. c.end_of-end.ensures.well p (subst (AllRan p) (sym c.as_slice-3.ensures.value) all)) c.in-Ok-answered.gave (let fits : SFits w64 c.args.asked.initial = search rules in subst (λ z. Answers c.index-as_slice-asked.result.kind z c.end_of-end.result (Ok c.in-Ok-answered.gave)) (to_z-of_z w64 c.args.asked.initial fits) c.in-Ok-answered.ensures)

pub returns-in-Ok-answered-clause-ok : goal.returns-in-Ok-answered-clause-ok
returns-in-Ok-answered-clause-ok g c =
    let site = c.requires.starts.0 in
    let at = at_element c.args.team.now.code.now.sites c.args.asked.site site c.index-as_slice-asked.result c.requires.starts.1 c.as_slice.result.now c.as_slice.ensures c.index-as_slice-asked.is in
    let is = element_is c.args.team.now.code.now.sites c.args.asked.site site c.index-as_slice-asked.result c.requires.starts.1 c.as_slice.result.now c.as_slice.ensures c.index-as_slice-asked.is in
    let begins = c.requires.starts.2 ∙ ap (λ y. starts_at c.args.team.now.limit c.args.team.now.code.now (plan_of c.args.team.now.plan.now) y c.args.asked (state_of c.args.machine.now c.args.view.now.cells)) (sym is) in
    let joined = subst (λ ss. Joined runs ss c.args.view.now.cells c.in-Ok.finished.chosen c.in-Ok.finished.overs.items c.run_threads.new.view.cells) begins c.in-Ok.ensures.ok in
    let told : map told_note c.in-Ok-told_of.notes.items ≡ notes_of c.in-Ok.finished.overs.items = c.in-Ok-told_of.ensures ∙ ap notes_of c.as_slice-2.ensures.value in
    let ends = λ (how : Result Gave Stop) (a : AnswerOf c.in-Ok.finished.chosen c.in-Ok.finished.overs.items how). c.end_of-end.ensures.ends how (subst (λ os. AnswerOf c.in-Ok.finished.chosen os how) (sym c.as_slice-3.ensures.value) a) in
    let most = c.most_turns-machine.ensures.most ∙ ap (turns_of c.args.machine.now.turns) c.as_slice-4.ensures.value in
    let least = λ (p : ThreadPath) (all : AllRan p c.in-Ok.finished.overs.items). c.most_turns-machine.ensures.within p (subst (AllRan p) (sym c.as_slice-4.ensures.value) all) in
    site_on c.args.team.now.limit c.args.team.now.code.now (plan_of c.args.team.now.plan.now) c.args.asked c.args.machine.now c.args.view.now.cells c.index-as_slice-asked.result at c.in-Ok.finished.chosen c.in-Ok.finished.overs.items c.run_threads.new.view.cells joined c.args.crew.now.workers (λ one. (subst (λ ss. FineInOrder runs ss c.args.view.now.cells) begins (fine_order c.args.threads.items c.args.view.now c.requires.there (c.len-many.ensures.flat c.requires.main) (c.len-many.ensures.main c.requires.main) c.requires.fine), subst (λ ss. IsOrdered runs ss c.args.view.now.cells c.in-Ok.finished.chosen c.in-Ok.finished.overs.items c.run_threads.new.view.cells) begins (c.in-Ok.ensures.order one))) (record { chosen = c.in-Ok.finished.chosen; threads = c.in-Ok-told_of.notes; spent = false }) (ap (λ ns. record { chosen = c.in-Ok.finished.chosen; threads = ns }) told) c.end_of-end.result ends c.resume_after.new.self c.most_turns-machine.result most least c.requires.within c.in-Ok-answered.gave (let fits : SFits w64 c.args.asked.initial = search rules in subst (λ z. Answers c.index-as_slice-asked.result.kind z c.end_of-end.result (Ok c.in-Ok-answered.gave)) (to_z-of_z w64 c.args.asked.initial fits) c.in-Ok-answered.ensures) refl (c.resume_after.ensures.state c.run_threads.new.view.cells)

pub returns-in-Err-Spent-clause-ok : goal.returns-in-Err-Spent-clause-ok
returns-in-Err-Spent-clause-ok g c =
    let site = c.requires.starts.0 in
    let at = at_element c.args.team.now.code.now.sites c.args.asked.site site c.index-as_slice-asked.result c.requires.starts.1 c.as_slice.result.now c.as_slice.ensures c.index-as_slice-asked.is in
    let is = element_is c.args.team.now.code.now.sites c.args.asked.site site c.index-as_slice-asked.result c.requires.starts.1 c.as_slice.result.now c.as_slice.ensures c.index-as_slice-asked.is in
    let begins = c.requires.starts.2 ∙ ap (λ y. starts_at c.args.team.now.limit c.args.team.now.code.now (plan_of c.args.team.now.plan.now) y c.args.asked (state_of c.args.machine.now c.args.view.now.cells)) (sym is) in
    let joined = subst (λ ss. Joined runs ss c.args.view.now.cells c.in-Ok.finished.chosen c.in-Ok.finished.overs.items c.run_threads.new.view.cells) begins c.in-Ok.ensures.ok in
    let told : map told_note c.in-Ok-told_of.notes.items ≡ notes_of c.in-Ok.finished.overs.items = c.in-Ok-told_of.ensures ∙ ap notes_of c.as_slice-2.ensures.value in
    let ends = λ (how : Result Gave Stop) (a : AnswerOf c.in-Ok.finished.chosen c.in-Ok.finished.overs.items how). c.end_of-end.ensures.ends how (subst (λ os. AnswerOf c.in-Ok.finished.chosen os how) (sym c.as_slice-3.ensures.value) a) in
    let most = c.most_turns-machine.ensures.most ∙ ap (turns_of c.args.machine.now.turns) c.as_slice-4.ensures.value in
    let least = λ (p : ThreadPath) (all : AllRan p c.in-Ok.finished.overs.items). c.most_turns-machine.ensures.within p (subst (AllRan p) (sym c.as_slice-4.ensures.value) all) in
    site_off c.args.team.now.limit c.args.team.now.code.now (plan_of c.args.team.now.plan.now) c.args.asked c.args.machine.now c.args.view.now.cells c.index-as_slice-asked.result at c.in-Ok.finished.chosen c.in-Ok.finished.overs.items c.run_threads.new.view.cells joined c.args.crew.now.workers (λ one. (subst (λ ss. FineInOrder runs ss c.args.view.now.cells) begins (fine_order c.args.threads.items c.args.view.now c.requires.there (c.len-many.ensures.flat c.requires.main) (c.len-many.ensures.main c.requires.main) c.requires.fine), subst (λ ss. IsOrdered runs ss c.args.view.now.cells c.in-Ok.finished.chosen c.in-Ok.finished.overs.items c.run_threads.new.view.cells) begins (c.in-Ok.ensures.order one))) (record { chosen = c.in-Ok.finished.chosen; threads = c.in-Ok-told_of.notes; spent = true }) (ap (λ ns. record { chosen = c.in-Ok.finished.chosen; threads = ns }) told) c.end_of-end.result ends (record c.args.machine.now { turns = c.most_turns-machine.result }) c.most_turns-machine.result most least c.requires.within (let fits : SFits w64 c.args.asked.initial = search rules in subst (λ z. Answers c.index-as_slice-asked.result.kind z c.end_of-end.result (Err way.Spent)) (to_z-of_z w64 c.args.asked.initial fits) (search rules)) refl refl
