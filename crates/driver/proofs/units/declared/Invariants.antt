use Rattle.std.proofs.Common.{◌≡◌, []}
use Rattle.typed_tree.specs.Decoded.{decls_at}
use Rattle.typed_tree.specs.Programs.{program}
use Rattle.driver.specs.Compiled.{finals_behind}
use Rattle.driver.proofs.units.declared.Given as goal

abbrev pub invariant-loop-cell : goal.invariant-loop-cell
invariant-loop-cell l = finals_behind l.tokens (program l.typed) l.finals (decls_at l.typed.nodes l.next) ≡ finals_behind l.tokens (program l.typed) [] (decls_at l.typed.nodes l.decls)

abbrev pub decreases-loop-cell : goal.decreases-loop-cell
decreases-loop-cell l = l.next
