use Rattle.std.proofs.Common.{◌≡◌, refl, ◌∙◌, ap, to_z, of_z, to_z-of_z, SFits, w64, true, false, int_lt, Some, length, rules}
use Rattle.std.proofs.lemmas.Option.{slice_get_read}
use Rattle.std.specs.Int.{w128}
use Rattle.std.specs.Prelude.{slice_get}
use Rattle.name_rules.specs.Cases.{int_max}
use Rattle.name_values.proofs.Open.{shows_before, goes_behind, wide, wide_next}
use Rattle.name_values.proofs.coverage.leaves_open.Goals as goal

pub returns-then-from : goal.returns-then-from
returns-then-from c =
    let e = c.in-Some.ensures.lookup in
    let r = c.in-Some.range.now in
    let m : slice_get c.args.ranges.now c.each.i ≡ Some r = slice_get_read c.args.ranges.now (length c.args.ranges.now) c.each.i r refl e.3.0 e.1 in
    let a : SFits w64 r.0 = search rules in
    let b : SFits w128 c.from.result = search rules in
    let w : to_z w128 (of_z w128 c.from.result) ≡ r.0 = wide r.0 c.from.result a b c.from.ensures in
    let lt : int_lt (to_z w128 c.each.from-bits) r.0 ≡ true = rw w at c.if-from.true in
    shows_before c.args.low c.args.high (to_z w128 (of_z w128 c.args.low)) (to_z w128 (of_z w128 c.args.high)) (to_z w128 c.each.from-bits) c.args.ranges.now c.each.i r
    (to_z-of_z c.ranges.low) (to_z-of_z c.ranges.high) c.each.invariant m lt

pub each-preserved : goal.each-preserved
each-preserved c =
    let e = c.in-Some.ensures.lookup in
    let r = c.in-Some.range.now in
    let m : slice_get c.args.ranges.now c.each.i ≡ Some r = slice_get_read c.args.ranges.now (length c.args.ranges.now) c.each.i r refl e.3.0 e.1 in
    let a : SFits w64 r.0 = search rules in
    let b : SFits w128 c.from.result = search rules in
    let w : to_z w128 (of_z w128 c.from.result) ≡ r.0 = wide r.0 c.from.result a b c.from.ensures in
    let ge : int_lt (to_z w128 c.each.from-bits) r.0 ≡ false = rw w at c.if-from.false in
    let p : SFits w64 r.1 = search rules in
    let q : SFits w128 c.from-in-Some.result = search rules in
    let t : SFits w128 c.later-from.result = search rules in
    let n = wide_next r.1 c.from-in-Some.result p q c.from-in-Some.ensures in
    goes_behind (to_z w128 (of_z w128 c.args.low)) (to_z w128 (of_z w128 c.args.high)) (to_z w128 c.each.from-bits) (to_z w128 (of_z w128 c.later-from.result)) c.args.ranges.now c.each.i r
    c.each.invariant m ge (to_z-of_z t ∙ (c.later-from.ensures ∙ ap (int_max (to_z w128 c.each.from-bits)) n))
