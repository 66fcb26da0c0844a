use Rattle.std.proofs.Common.{◌∙◌, reverse, to_z, of_z, SFits, w64, rules}
use Rattle.std.specs.Int.{w128}
use Rattle.name_rules.specs.Aggregates.{sorted}
use Rattle.name_values.proofs.Covered.{open_sorted}
use Rattle.name_values.proofs.Open.{same_open, wide}
use Rattle.name_values.proofs.coverage.is_open.Goals as goal

pub returns : goal.returns
returns c =
    let scalar = c.args.scalar in
    let s = c.sort_unstable.ensures in
    let p : SFits w64 scalar.low = search rules in
    let q : SFits w64 scalar.high = search rules in
    let low : SFits w128 c.from.result = search rules in
    let high : SFits w128 c.from-2.result = search rules in
    let o = open_sorted scalar.low scalar.high c.into_vec-ranges.result.items c.sort_unstable.new.self.items s.permutation s.sorted in
    c.leaves_open.ensures
    ∙ same_open scalar.low scalar.high (to_z w128 (of_z w128 c.from.result)) (to_z w128 (of_z w128 c.from-2.result)) (sorted (reverse c.args.ranges)) c.sort_unstable.new.self.items c.as_slice.result.now
    (wide scalar.low c.from.result p low c.from.ensures) (wide scalar.high c.from-2.result q high c.from-2.ensures) c.as_slice.ensures.value
    (rw c.into_vec-ranges.ensures at o)
