use Rattle.std.proofs.Common.{◌≡◌, ◌++◌}
use Rattle.typed_tree.specs.Decoded.{decls_at}
use Rattle.typed_tree.specs.Programs.{program}
use Rattle.ada_lower.specs.Homes.{main_variables}
use Rattle.lower_leases.proofs.variables.all_variables.Given as goal

abbrev pub invariant-loop-cell : goal.invariant-loop-cell
invariant-loop-cell l = l.all ++ main_variables (program l.typed) l.free (decls_at l.typed.nodes l.next) ≡ main_variables (program l.typed) 0 (decls_at l.typed.nodes l.id)

abbrev pub decreases-loop-cell : goal.decreases-loop-cell
decreases-loop-cell l = l.next
