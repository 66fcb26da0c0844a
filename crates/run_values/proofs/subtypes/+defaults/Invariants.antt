use Rattle.std.proofs.Common.{◌≡◌, ◌+◌, ◌-◌, ◌*◌, ◌++◌}
use Rattle.typed_tree.specs.Programs.{program}
use Rattle.ada_meaning.specs.Values.{defaults, repeated, layout_within}
use Rattle.run_values.proofs.subtypes.+defaults.Given as goal

abbrev pub decreases-defaults_within : goal.decreases-defaults_within
decreases-defaults_within l = 8589934592 * l.levels

abbrev pub decreases-defaults_beside : goal.decreases-defaults_beside
decreases-defaults_beside l = 8589934592 * l.levels + 4294967298

abbrev pub decreases-field_defaults : goal.decreases-field_defaults
decreases-field_defaults l = 8589934592 * l.levels + 1 + l.id

abbrev pub decreases-repeated_within : goal.decreases-repeated_within
decreases-repeated_within l = 8589934592 * l.levels + 1

-- what is there, and what is still to come
abbrev pub invariant-repeated_within-loop-k : goal.invariant-repeated_within-loop-k
invariant-repeated_within-loop-k l =
    l.out ++ defaults (repeated (l.times - l._k) (layout_within (program l.typed).subtypes l.levels l.component)) ≡ l.fn.out ++ defaults (repeated l.times (layout_within (program l.typed).subtypes l.levels l.component))
