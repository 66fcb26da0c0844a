use Rattle.std.proofs.Common.{◌≡◌, drop}
use Rattle.std.specs.Prelude.{map}
use Rattle.typed_tree.specs.Decoded.{as_formals}
use Rattle.typed_tree.specs.Latest.{pop, top}
use Rattle.name_rules.specs.Programs.{typed_formal}
use Rattle.typed_parts.specs.Stack.{parts}
use Rattle.name_programs.proofs.subprograms.formals_part.Given as goal

abbrev pub invariant-formals : goal.invariant-formals
invariant-formals l = (as_formals (top (parts l.out)) ≡ map typed_formal (drop l.i l.takes)) × (pop (parts l.out) ≡ parts l.fn.out)

abbrev pub decreases-formals : goal.decreases-formals
decreases-formals l = l.i
