use Rattle.std.proofs.Common.{◌≡◌, ◌-◌, length, drop}
use Rattle.name_rules.specs.Names as spec
use Rattle.name_rules.specs.Types.{fields_of, shape_in}
use Rattle.typed_tree.specs.Latest.{top}
use Rattle.typed_parts.specs.Stack.{parts}
use Rattle.name_values.proofs.names.field_from.Given as goal

abbrev pub invariant-fields : goal.invariant-fields
invariant-fields l =
    (spec.field_from l.names l.place (top (parts l.fn.judge.out)) l.at 0 (fields_of (shape_in l.fn.judge.log l.number)) l.fn.judge.log ≡ spec.field_from l.names l.place (top (parts l.fn.judge.out)) l.at l.i (drop l.i (fields_of (shape_in l.judge.log l.number))) l.judge.log)
    × (parts l.judge.out ≡ parts l.fn.judge.out)

abbrev pub decreases-fields : goal.decreases-fields
decreases-fields l = length (fields_of (shape_in l.judge.log l.number)) - l.i
