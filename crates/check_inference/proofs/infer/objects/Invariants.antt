use Rattle.std.proofs.Common.{◌≡◌, []}
use Rattle.typed_tree.specs.Decoded.{decls_at}
use Rattle.check_inference.specs.Program.{objects_with}
use Rattle.check_inference.proofs.infer.objects.Given as goal

abbrev pub invariant-loop-cell : goal.invariant-loop-cell
invariant-loop-cell l = objects_with (decls_at l.source.typed.now.nodes l.at) l.found ≡ objects_with (decls_at l.source.typed.now.nodes l.id) []

abbrev pub decreases-loop-cell : goal.decreases-loop-cell
decreases-loop-cell l = l.at
