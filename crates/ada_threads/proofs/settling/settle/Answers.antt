use Rattle.std.proofs.Common.{◌≡◌, slice_get, Some, ap, ◌∙◌}
use Rattle.cell_memory.specs.Sight.{lower_length}
use Rattle.ada_threads.proofs.Clipping.{head_is, lowest_there, lowest_clips}
use Rattle.ada_threads.proofs.settling.settle.Goals as goal

pub pop_frame-requires-clause-own : goal.pop_frame-requires-clause-own
pop_frame-requires-clause-own c =
    let found : Some c.in-Some.lowest.now ≡ slice_get c.args.machine.now.waiting.items 0 = c.in-Some.ensures.value ∙ ap (λ l. slice_get l 0) c.as_slice.ensures.value in
    let h = head_is c.args.machine.now.waiting.items c.in-Some.lowest.now found in
    (lowest_there (lower_length c.args.view.now) c.in-Some.lowest.now h.0 c.args.machine.now.waiting.items c.args.view.now.cells h.1 c.requires.tops).0

pub pop_frame-requires-clause-there : goal.pop_frame-requires-clause-there
pop_frame-requires-clause-there c =
    let found : Some c.in-Some.lowest.now ≡ slice_get c.args.machine.now.waiting.items 0 = c.in-Some.ensures.value ∙ ap (λ l. slice_get l 0) c.as_slice.ensures.value in
    let h = head_is c.args.machine.now.waiting.items c.in-Some.lowest.now found in
    (lowest_there (lower_length c.args.view.now) c.in-Some.lowest.now h.0 c.args.machine.now.waiting.items c.args.view.now.cells h.1 c.requires.tops).1

pub returns-in-Some-clause-cells : goal.returns-in-Some-clause-cells
returns-in-Some-clause-cells c =
    let found : Some c.in-Some.lowest.now ≡ slice_get c.args.machine.now.waiting.items 0 = c.in-Some.ensures.value ∙ ap (λ l. slice_get l 0) c.as_slice.ensures.value in
    let h = head_is c.args.machine.now.waiting.items c.in-Some.lowest.now found in
    c.pop_frame.ensures.cells ∙ lowest_clips (lower_length c.args.view.now) c.in-Some.lowest.now h.0 c.args.machine.now.waiting.items c.args.view.now.cells h.1 c.requires.tops
