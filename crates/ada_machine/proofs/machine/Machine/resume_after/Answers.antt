use Rattle.std.proofs.Common.{◌≡◌, ◌+◌, ℤ, List, [], length, reverse, Some, refl, sym, ap, ◌∙◌, arith}
use Rattle.std.specs.Prelude.{vec_capacity, slice_get}
use Rattle.stack_code.specs.declared.instr.Instr.TheVariants.{Fork, Get}
use Rattle.stack_code.specs.Machine.{after, after_fork}
use Rattle.ada_machine.specs.States.{state_of}
use Rattle.ada_machine.proofs.Answered.{answers_fork, answers_get, answers_send, ready_answered, at_length, fork_frames, get_frames}
use Rattle.ada_machine.proofs.machine.Machine.resume_after.Goals as goal

pub answer_fork-requires-clause-room : goal.answer_fork-requires-clause-room
answer_fork-requires-clause-room c = at_length c.args.gave _ (length c.args.self.now.stack.items) (vec_capacity c.args.self.now.stack) (omega arith) (answers_fork c.args.code.now c.args.self.now c.requires.waits c.in-Fork.field-0 c.args.gave (c.fetch.ensures.instr ∙ ap Some c.in-Fork.is) c.requires.answer).1

pub answer_get-requires-clause-room : goal.answer_get-requires-clause-room
answer_get-requires-clause-room c = at_length c.args.gave _ (length c.args.self.now.stack.items) (vec_capacity c.args.self.now.stack) (omega arith) (answers_get c.args.code.now c.args.self.now c.requires.waits c.args.gave (c.fetch.ensures.instr ∙ ap Some c.in-Get.is) c.requires.answer).1

pub returns-in-Fork-clause-ready : goal.returns-in-Fork-clause-ready
returns-in-Fork-clause-ready c = λ cells.
    let g = c.args.gave in
    let m = c.args.self.now in
    let here : slice_get c.args.code.now.instrs m.pc ≡ Some (Fork c.in-Fork.field-0) = c.fetch.ensures.instr ∙ ap Some c.in-Fork.is in
    let kept : state_of c.answer_fork.new.m [] ≡ after_fork g (record (state_of m []) { kept = [] }) = c.answer_fork.ensures.state [] ∙ ap (λ (ks : List ℤ). after_fork g (record (state_of m []) { kept = reverse ks })) c.clear.ensures.items in
    let f = fork_frames g (record (state_of m []) { kept = [] }) in
    ready_answered c.args.code.now c.args.self.now c.requires.waits c.answer_fork.new.m g cells c.requires.answer (kept ∙ ap (λ o. after o g (state_of m [])) (sym here)) c.answer_fork.ensures.room
    (ap (λ s. s.base) kept ∙ f.0) (ap (λ s. s.waiting) kept ∙ f.1) (ap (λ s. s.outward) kept ∙ f.2)

pub returns-in-Get-clause-ready : goal.returns-in-Get-clause-ready
returns-in-Get-clause-ready c = λ cells.
    let g = c.args.gave in
    let m = c.args.self.now in
    let here : slice_get c.args.code.now.instrs m.pc ≡ Some Get = c.fetch.ensures.instr ∙ ap Some c.in-Get.is in
    let e = c.answer_get.ensures.state [] in
    let f = get_frames g (state_of m []) in
    ready_answered c.args.code.now c.args.self.now c.requires.waits c.answer_get.new.m g cells c.requires.answer (e ∙ ap (λ o. after o g (state_of m [])) (sym here)) c.answer_get.ensures.room
    (ap (λ s. s.base) e ∙ f.0) (ap (λ s. s.waiting) e ∙ f.1) (ap (λ s. s.outward) e ∙ f.2)

pub returns-in_default : goal.returns-in_default
returns-in_default c =
    let g = c.args.gave in
    let m = c.args.self.now in
    record {
      state = λ cells. sym (ap (λ o. after o g (state_of m cells)) c.fetch.ensures.instr ∙ answers_send c.args.code.now c.args.self.now c.requires.waits c.fetch.result g (state_of m cells) c.fetch.ensures.instr c.in_default.not-Fork c.in_default.not-Get);
      ready = λ cells. ready_answered c.args.code.now c.args.self.now c.requires.waits (record m { pc = m.pc + 1 }) g cells c.requires.answer
          (sym (ap (λ o. after o g (state_of m [])) c.fetch.ensures.instr ∙ answers_send c.args.code.now c.args.self.now c.requires.waits c.fetch.result g (state_of m []) c.fetch.ensures.instr c.in_default.not-Fork c.in_default.not-Get)) refl refl refl refl;
      looks = refl;
      waiting = refl;
    }

pub returns-in-Fork-clause-waiting : goal.returns-in-Fork-clause-waiting
returns-in-Fork-clause-waiting c =
    let g = c.args.gave in
    let m = c.args.self.now in
    let kept : state_of c.answer_fork.new.m [] ≡ after_fork g (record (state_of m []) { kept = [] }) = c.answer_fork.ensures.state [] ∙ ap (λ (ks : List ℤ). after_fork g (record (state_of m []) { kept = reverse ks })) c.clear.ensures.items in
    ap (λ s. s.waiting) kept ∙ (fork_frames g (record (state_of m []) { kept = [] })).1

pub returns-in-Get-clause-waiting : goal.returns-in-Get-clause-waiting
returns-in-Get-clause-waiting c = ap (λ s. s.waiting) (c.answer_get.ensures.state []) ∙ (get_frames c.args.gave (state_of c.args.self.now [])).1
