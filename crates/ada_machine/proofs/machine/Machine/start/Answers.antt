use Rattle.std.proofs.Common.{◌≡◌, ◌≤◌, ◌++◌, ◌-◌, take, length, drop, refl, sym, ap, ◌∙◌, subst}
use Rattle.std.specs.Prelude.{◌^◌, slice_index, EachIndex}
use Rattle.stack_code.specs.Stands.{Sees}
use Rattle.ada_machine.proofs.Readies.{ready_begun, near_rest, rest_whole}
use Rattle.ada_machine.proofs.machine.Machine.start.Goals as goal

pub returns-clause-ready : goal.returns-clause-ready
returns-clause-ready c = λ cells.
    let e : c.extend_from_slice.new.self.items ≡ drop 1 c.args.frames.now = c.in_ok-extend_from_slice.ensures.items ∙ ap (λ l. l ++ take (length c.args.frames.now - 1) (drop 1 c.args.frames.now)) c.new-outward.ensures.items ∙ rest_whole c.args.frames.now in
    ready_begun c.args.code.now c.requires.valid c.requires.forward c.args.body c.begin_of-begin.result _ cells c.requires.outer (subst (Sees c.args.code.now c.args.body) (sym e) c.requires.sees) c.begin_of-begin.ensures
    c.in_ok-stack.ensures.capacity refl c.in_ok-stack.ensures.items refl refl c.new-3.ensures.items refl (c.requires.near 0 c.requires.own) (subst (λ fs. EachIndex fs (λ k. slice_index fs k ≤ 2 ^ 62)) (sym e) (near_rest c.args.frames.now c.requires.near))
