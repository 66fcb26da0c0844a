use Rattle.std.proofs.Common.{◌≡◌}
use Rattle.typed_tree.specs.Decoded.{decls_at}
use Rattle.std.specs.Prelude.{IsTrue}
use Rattle.ada_lower.specs.Standings.{decls_standings}
use Rattle.lower_leases.proofs.texts.decls.Given as goal

abbrev pub invariant-loop-cell : goal.invariant-loop-cell
invariant-loop-cell l = IsTrue l.out.whole → IsTrue l.fn.out.whole × (decls_standings l.depth (decls_at l.nodes l.at) l.out.found ≡ decls_standings l.depth (decls_at l.nodes l.id) l.fn.out.found)

abbrev pub decreases-loop-cell : goal.decreases-loop-cell
decreases-loop-cell l = l.at
