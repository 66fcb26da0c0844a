use Rattle.std.proofs.Common.{◌≡◌, ◌+◌, ◌-◌, ◌*◌, ◌++◌}
use Rattle.typed_tree.specs.Programs.{program}
use Rattle.ada_meaning.specs.Values.{repeated, layout_within}
use Rattle.driver.specs.Compiled.{kinds_of}
use Rattle.driver.proofs.shapes.+kinds.Given as goal

abbrev pub decreases-kinds_within : goal.decreases-kinds_within
decreases-kinds_within l = 8589934592 * l.levels

abbrev pub decreases-kinds_beside : goal.decreases-kinds_beside
decreases-kinds_beside l = 8589934592 * l.levels + 4294967298

abbrev pub decreases-field_kinds : goal.decreases-field_kinds
decreases-field_kinds l = 8589934592 * l.levels + 1 + l.id

abbrev pub decreases-repeated_kinds : goal.decreases-repeated_kinds
decreases-repeated_kinds l = 8589934592 * l.levels + 1

-- what is there, and what is still to come
abbrev pub invariant-repeated_kinds-loop-k : goal.invariant-repeated_kinds-loop-k
invariant-repeated_kinds-loop-k l =
    l.out ++ kinds_of (repeated (l.times - l._k) (layout_within (program l.typed).subtypes l.levels l.component)) ≡ l.fn.out ++ kinds_of (repeated l.times (layout_within (program l.typed).subtypes l.levels l.component))
