use Rattle.std.proofs.Common.{◌≡◌}
use Rattle.name_rules.specs.TypedParts.{nested_stmts}
use Rattle.name_programs.specs.Nested.{items_in}
use Rattle.typed_tree.specs.Latest.{pop, second, top}
use Rattle.typed_parts.specs.Stack.{parts}
use Rattle.name_programs.proofs.statement_lists.nested.Given as goal

abbrev pub invariant-arms : goal.invariant-arms
invariant-arms l = (nested_stmts (top (parts l.out)) (second (parts l.out)) ≡ nested_stmts (second (parts l.fn.out)) (top (parts l.fn.out))) × (pop (pop (parts l.out)) ≡ pop (pop (parts l.fn.out)))

abbrev pub decreases-arms : goal.decreases-arms
decreases-arms l = items_in (top (parts l.out))
