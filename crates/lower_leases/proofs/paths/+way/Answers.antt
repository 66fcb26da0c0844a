use mir.Syntax.{w128}
use mir.Val.{SFits}
use Rattle.std.proofs.Common.{rules, map, w64, Option, sym, ap, ◌∙◌}
use Rattle.std.proofs.lemmas.Int.{to_z-of_z}
use Rattle.check_inference.specs.Exact.{plain}
use Rattle.lower_leases.specs.Paths.{path_found}
use Rattle.lower_leases.specs.declared.paths.End.{End}
use Rattle.lower_leases.proofs.Ways.{any_none, any_some, chunk_is, inside_is, range_is}
use Rattle.lower_leases.proofs.paths.+way.Goals as goal

pub by_any-returns-in-None : goal.by_any-returns-in-None
by_any-returns-in-None t c = λ h.
    let w = c.way.ensures h in
    let s = c.with_step.ensures w.0 in
    let b = c.step_of_item.ensures s.0 in
    let m = c.measured-found.ensures b.0 in (
      m.0,
      any_none c.args.through.typed.now c.args.through.ranges _ c.args.at.items c.args.dimension c.args.at.cell (map plain c.args.rest.now) _ _ c.measured-found.result.places c.measured-found.result.size c.entered.result s.1 c.entered.ensures
          (sym (ap (λ (r : Option End). path_found r c.way.new.out.steps) c.in-None.is) ∙ w.1),
    )

pub by_any-returns-in-Some : goal.by_any-returns-in-Some
by_any-returns-in-Some t c = λ h.
    let j = c.joined.ensures h in
    let w = c.way.ensures j.0 in
    let s = c.with_step.ensures w.0 in
    let b = c.step_of_item.ensures s.0 in
    let m = c.measured-found.ensures b.0 in (
      m.0,
      any_some c.args.through.typed.now c.args.through.ranges _ c.args.at.items c.args.dimension c.args.at.cell (map plain c.args.rest.now) _ _ _ c.measured-found.result.places c.measured-found.result.size c.len-before.result c.entered.result _ _
          m.1.0 m.1.1.0 m.1.1.1 b.1 c.len-before.ensures s.1 c.entered.ensures (sym (ap (λ (r : Option End). path_found r c.way.new.out.steps) c.in-Some.is) ∙ w.1) j.1,
    )

pub by_chunk-returns : goal.by_chunk-returns
by_chunk-returns t c = λ h.
    let w = c.way.ensures h in
    let s = c.with_step.ensures w.0 in
    let b = c.step_of_item.ensures s.0 in
    let m = c.measured-found.ensures b.0 in
    let start = simp (to_z-of_z w64 c.args.distance c.ranges.distance) at c.start.ensures in
    let fits : SFits w128 c.start.result = search rules in
    let step = simp (to_z-of_z w128 c.start.result fits) at s.1 in (
      m.0,
      chunk_is c.args.through.typed.now c.args.through.ranges _ c.args.at.items c.args.dimension c.args.at.cell (map plain c.args.rest.now) c.args.distance c.start.result _ _ _ c.measured-found.result.places c.measured-found.result.size c.entered.result _
          start m.1.0 m.1.1.0 m.1.1.1 b.1 step c.entered.ensures w.1,
    )

pub by_range-returns : goal.by_range-returns
by_range-returns t c = λ h.
    let w = c.way.ensures h in
    let s = c.with_step.ensures w.0 in
    let m = c.measured-found.ensures s.0 in
    let start = simp (to_z-of_z w64 c.args.distance c.ranges.distance) at c.start.ensures in
    let fits : SFits w128 c.start.result = search rules in
    let step = simp (to_z-of_z w128 c.start.result fits) at s.1 in (
      m.0,
      range_is c.args.through.typed.now c.args.through.ranges _ c.args.at.items c.args.dimension c.args.at.cell (map plain c.args.rest.now) c.args.distance c.start.result _ _ c.measured-found.result.places c.measured-found.result.size c.entered.result _
          start m.1.0 m.1.1.0 m.1.1.1 step c.entered.ensures w.1,
    )

pub inside-returns : goal.inside-returns
inside-returns t c = λ h.
    let w = c.way.ensures h in
    let v = c.moved-cell.ensures w.0 in
    let b = c.step_of_item.ensures v.0 in
    let m = c.measured-found.ensures b.0 in
    let next = simp (to_z-of_z w64 c.args.value c.ranges.value) at v.1.1 in (
      m.0,
      inside_is c.args.through.typed.now c.args.through.ranges _ c.args.at.items c.args.dimension c.args.at.cell (map plain c.args.rest.now) c.args.value _ _ _ c.measured-found.result.places c.measured-found.result.size c.moved-cell.result _
          m.1.0 m.1.1.0 m.1.1.1 b.1 v.1.0 next w.1,
    )
