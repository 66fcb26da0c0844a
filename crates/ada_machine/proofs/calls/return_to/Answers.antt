use Rattle.std.proofs.Common.{◌≡◌, ℤ, List, ◌∷◌, reverse, Some, None, refl, ap, ◌∙◌, rules, SFits, w64}
use Rattle.std.proofs.lemmas.Int.{to_z-of_z}
use Rattle.stack_code.specs.Machine.{State, cut, ending}
use Rattle.ada_machine.specs.States.{state_of, frames_of}
use Rattle.ada_machine.proofs.Callers.{ending_by, frames_last, none_of, tops_last}
use Rattle.ada_machine.proofs.calls.return_to.Goals as goal

pub leave_frame-requires-clause-own : goal.leave_frame-requires-clause-own
leave_frame-requires-clause-own g c =
    (tops_last (g.C.Cells.floor c.args.view.now) (state_of c.args.m.now (g.C.Cells.cells c.args.view.now)) c.take_last-caller.result c.take_last-caller.new.self.items c.args.m.now.waiting.items (frames_last c.args.m.now.waiting.items c.take_last-caller.new.self.items c.take_last-caller.result c.take_last-caller.ensures.items) refl c.requires.tops).0

pub leave_frame-requires-clause-there : goal.leave_frame-requires-clause-there
leave_frame-requires-clause-there g c =
    (tops_last (g.C.Cells.floor c.args.view.now) (state_of c.args.m.now (g.C.Cells.cells c.args.view.now)) c.take_last-caller.result c.take_last-caller.new.self.items c.args.m.now.waiting.items (frames_last c.args.m.now.waiting.items c.take_last-caller.new.self.items c.take_last-caller.result c.take_last-caller.ensures.items) refl c.requires.tops).1

pub returns-in-Some-clause-state : goal.returns-in-Some-clause-state
returns-in-Some-clause-state g c =
    let m = c.args.m.now in
    let s : State = state_of m (g.C.Cells.cells c.args.view.now) in
    let ws = c.take_last-caller.new.self.items in
    let v : ℤ = c.in-Some.v in
    let fits : SFits w64 v = search rules in
    let rest : reverse c.leave_frame.new.m.stack.items ≡ cut m.floor (reverse m.stack.items) = ap (λ (t : State). t.stack) c.leave_frame.ensures.state in
    let all : reverse c.put.new.stack.items ≡ v ∷ cut m.floor (reverse m.stack.items) = c.put.ensures.top ∙ ap (λ z. z ∷ reverse c.leave_frame.new.m.stack.items) (to_z-of_z w64 v fits) ∙ ap (λ (xs : List ℤ). v ∷ xs) rest in
    ap (λ o. ending 0 o (reverse m.stack.items) (frames_of m.waiting.items) s) c.in-Some.is
    ∙ ending_by s (state_of c.leave_frame.new.m (g.C.Cells.cells c.leave_frame.new.view)) c.take_last-caller.result ws m.waiting.items (Some v) (reverse m.stack.items) (reverse c.put.new.stack.items)
    (frames_last m.waiting.items ws c.take_last-caller.result c.take_last-caller.ensures.items) c.leave_frame.ensures.state all

pub returns-in_default-clause-state : goal.returns-in_default-clause-state
returns-in_default-clause-state g c =
    let m = c.args.m.now in
    let s : State = state_of m (g.C.Cells.cells c.args.view.now) in
    ap (λ o. ending 0 o (reverse m.stack.items) (frames_of m.waiting.items) s) (none_of c.args.value c.in_default.not-Some)
    ∙ ending_by s (state_of c.leave_frame.new.m (g.C.Cells.cells c.leave_frame.new.view)) c.take_last-caller.result c.take_last-caller.new.self.items m.waiting.items None (reverse m.stack.items) (reverse c.leave_frame.new.m.stack.items)
    (frames_last m.waiting.items c.take_last-caller.new.self.items c.take_last-caller.result c.take_last-caller.ensures.items) c.leave_frame.ensures.state (ap (λ (t : State). t.stack) c.leave_frame.ensures.state)
