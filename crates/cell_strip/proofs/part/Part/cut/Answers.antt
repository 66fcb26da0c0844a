use Rattle.std.proofs.Common.{ℕ, Bool, ◌+◌, not, ap, ◌∙◌}
use Rattle.cell_strip.specs.Ownership.{kept}
use Rattle.cell_strip.specs.Regions.{has}
use Rattle.cell_strip.proofs.Slots.{lifted, kept_whole, kept_seen, seen_with, stays, from_zero}
use Rattle.cell_strip.proofs.part.Part.cut.Goals as goal

pub invariant_of-self : goal.invariant_of-self
invariant_of-self c =
    let e = lifted c.self.inside c.args.self.now c.self.invariant c.self.view_is in let f : ℕ → Bool = λ x. not (has c.args.region (c.args.start + x)) in let y = c.has-first.result in
    kept_whole c.self.inside.base.ptr c.self.inside.many c.self.inside.alloc c.self.inside.deed c.self.inside.cells.at c.self.inside.cells.slots c.args.self.now.cells e c.self.invariant
    f (not y) (ap not (c.has-first.ensures.0 ∙ ap (λ k. has c.args.region k) (from_zero c.args.start))) c.split-cells.new.self.at c.take_deed-deed.new.deed c.split-cells.new.self.slots
    c.split-cells.ensures.from.0 (c.take_deed-deed.ensures.1 ∙ stays y c.self.inside.deed) c.split-cells.ensures.from.2

pub invariant_of-result : goal.invariant_of-result
invariant_of-result c =
    let e = lifted c.self.inside c.args.self.now c.self.invariant c.self.view_is in
    kept_whole c.self.inside.base.ptr c.self.inside.many c.self.inside.alloc c.self.inside.deed c.self.inside.cells.at c.self.inside.cells.slots c.args.self.now.cells e c.self.invariant
    (λ x. has c.args.region (c.args.start + x)) c.has-first.result (c.has-first.ensures.0 ∙ ap (λ k. has c.args.region k) (from_zero c.args.start)) c.split-cells.result.at c.take_deed-deed.result c.split-cells.result.slots
    c.split-cells.ensures.out.0 c.take_deed-deed.ensures.0 c.split-cells.ensures.out.2

pub returns-clause-taken : goal.returns-clause-taken
returns-clause-taken c =
    let e = lifted c.self.inside c.args.self.now c.self.invariant c.self.view_is in let f : ℕ → Bool = λ x. has c.args.region (c.args.start + x) in
    seen_with c.self.inside c.args.self.now c.split-cells.result.at c.split-cells.result.name c.split-cells.result.slots (kept f 0 c.args.self.now.cells) c.self.view_is
    c.split-cells.ensures.out.0 c.split-cells.ensures.out.1 (kept_seen c.self.inside.cells.slots c.split-cells.result.slots c.args.self.now.cells f e c.split-cells.ensures.out.2)

pub returns-clause-left : goal.returns-clause-left
returns-clause-left c =
    let e = lifted c.self.inside c.args.self.now c.self.invariant c.self.view_is in let f : ℕ → Bool = λ x. not (has c.args.region (c.args.start + x)) in let new = c.split-cells.new.self in
    seen_with c.self.inside c.args.self.now new.at new.name new.slots (kept f 0 c.args.self.now.cells) c.self.view_is
    c.split-cells.ensures.from.0 c.split-cells.ensures.from.1 (kept_seen c.self.inside.cells.slots new.slots c.args.self.now.cells f e c.split-cells.ensures.from.2)
