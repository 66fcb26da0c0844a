use Rattle.std.proofs.Common.{◌≡◌, ◌-◌, length, drop}
use Rattle.name_programs.specs.Declares.{building}
use Rattle.name_rules.specs.Declarations as spec
use Rattle.name_rules.specs.Judges.{found_of}
use Rattle.name_rules.specs.TypedParts.{also_all}
use Rattle.typed_tree.specs.Latest.{second, top}
use Rattle.typed_parts.specs.Stack.{parts}
use Rattle.name_programs.proofs.records.with_fields.Given as goal

abbrev pub invariant-fields : goal.invariant-fields
invariant-fields l = spec.with_fields l.names (building l.fn.growing (also_all (second (parts l.out)) (spec.indicated_mentions (found_of l.subtype (top (parts l.out)))))) (found_of l.subtype (top (parts l.out))) l.ids l.free l.fn.log ≡ spec.with_fields l.names (building l.growing (also_all (second (parts l.out)) (spec.indicated_mentions (found_of l.subtype (top (parts l.out)))))) (found_of l.subtype (top (parts l.out))) (drop l.i l.ids) (drop l.i l.free) l.log

abbrev pub decreases-fields : goal.decreases-fields
decreases-fields l = length l.ids - l.i
