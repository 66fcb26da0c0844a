use Rattle.std.proofs.Common.{◌≡◌}
use Rattle.std.specs.Prelude.{IsTrue}
use Rattle.typed_tree.specs.Decoded.{decls_at}
use Rattle.typed_tree.specs.Programs.{program}
use Rattle.ada_lower.specs.Homes.{behind, decl_homes}
use Rattle.lower_leases.proofs.homes.decls.Given as goal

abbrev pub invariant-loop-cell : goal.invariant-loop-cell
invariant-loop-cell l = IsTrue l.out.whole → IsTrue l.fn.out.whole × (
    (decl_homes (program l.typed) l.main l.at.depth l.free (decls_at l.typed.nodes l.next) l.out.found ≡ decl_homes (program l.typed) l.main l.at.depth l.at.free (decls_at l.typed.nodes l.id) l.fn.out.found)
    × (behind (program l.typed) l.free (decls_at l.typed.nodes l.next) ≡ behind (program l.typed) l.at.free (decls_at l.typed.nodes l.id)))

abbrev pub decreases-loop-cell : goal.decreases-loop-cell
decreases-loop-cell l = l.next
