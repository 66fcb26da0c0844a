use Rattle.std.proofs.Common.{◌≡◌, ◌∙◌, ap, sym, Some, None, rules, w64, to_z, of_z, pos, ◌+ℤ◌, ◌++◌}
use Rattle.std.proofs.lemmas.Int.{to_z-of_z}
use mir.Syntax.{w128}
use mir.Val.{SFits}
use Rattle.name_expressions.proofs.OpenRanges.{open_above, open_below, open_end, open_further}
use Rattle.name_expressions.proofs.Widths.{next_value}
use Rattle.name_expressions.specs.Gaps.{gap_before}
use Rattle.name_values.proofs.Lists.{drop_less}
use Rattle.name_expressions.proofs.coverage.left_open.Goals as goal

pub returns-then-range-start : goal.returns-then-range-start
returns-then-range-start c =
    let p : SFits w128 c.in-Some.range.0 = search rules in
    let f = rw (to_z-of_z w128 c.in-Some.range.0 p) at c.if-range-start.true in
    sym (c.spans.invariant ∙ open_below c.args.ranges.now c.spans.i c.in-Some.range c.spans.gaps (to_z w128 c.spans.start-bits) (to_z w128 (of_z w128 c.from-end.result)) (sym c.range_at.ensures ∙ c.in-Some.is) f)

pub spans-smaller : goal.spans-smaller
spans-smaller c = drop_less c.args.ranges.now c.spans.i c.in-Some.range (sym c.range_at.ensures ∙ c.in-Some.is)

pub returns : goal.returns
returns c =
    let none : c.range_at.result ≡ None = search rules in
    sym (c.spans.invariant ∙ open_end c.args.ranges.now c.spans.i c.spans.gaps (to_z w128 c.spans.start-bits) (to_z w128 (of_z w128 c.from-end.result)) (sym c.range_at.ensures ∙ none) ∙ ap Some (sym c.in_ok-open_behind.ensures))

pub returns-then-end-range : goal.returns-then-end-range
returns-then-end-range c =
    let p : SFits w128 c.in-Some.range.0 = search rules in
    let q : SFits w128 c.in-Some.range.1 = search rules in
    let f = rw (to_z-of_z w128 c.in-Some.range.0 p) at c.if-range-start.false in
    let g = rw (to_z-of_z w128 c.in-Some.range.1 q) at c.if-end-range.true in
    sym (c.spans.invariant ∙ open_above c.args.ranges.now c.spans.i c.in-Some.range c.spans.gaps (to_z w128 c.spans.start-bits) (to_z w128 (of_z w128 c.from-end.result)) (sym c.range_at.ensures ∙ c.in-Some.is) f g)

pub spans-preserved : goal.spans-preserved
spans-preserved c =
    let p : SFits w128 c.in-Some.range.0 = search rules in
    let q : SFits w128 c.in-Some.range.1 = search rules in
    let f = rw (to_z-of_z w128 c.in-Some.range.0 p) at c.if-range-start.false in
    let g = rw (to_z-of_z w128 c.in-Some.range.1 q) at c.if-end-range.false in
    let h : SFits w64 c.args.dimension.high = search rules in
    let next : to_z w128 (of_z w128 (to_z w128 (of_z w128 c.in-Some.range.1) +ℤ pos 1)) ≡ c.in-Some.range.1 +ℤ pos 1 = next_value c.from-end.result c.args.dimension.high c.in-Some.range.1 h q c.from-end.ensures g in
    let more : c.open_before.new.gaps ≡ c.spans.gaps ++ gap_before (to_z w128 c.spans.start-bits) c.in-Some.range.0 = rw (to_z-of_z w128 c.in-Some.range.0 p) at c.in_ok-open_before.ensures in
    c.spans.invariant ∙ open_further c.args.ranges.now c.spans.i c.in-Some.range c.spans.gaps c.open_before.new.gaps (to_z w128 c.spans.start-bits) (to_z w128 (of_z w128 c.from-end.result)) (to_z w128 (of_z w128 (to_z w128 (of_z w128 c.in-Some.range.1) +ℤ pos 1))) (sym c.range_at.ensures ∙ c.in-Some.is) f g more next
