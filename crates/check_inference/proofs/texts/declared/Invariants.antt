use Rattle.std.proofs.Common.{◌≡◌}
use Rattle.typed_tree.specs.Decoded.{decls_at}
use Rattle.check_inference.specs.Gather.{gather_decls, hidden_with}
use Rattle.check_inference.specs.Paths.{place_of}
use Rattle.check_inference.proofs.texts.declared.Given as goal

abbrev pub invariant-loop-cell : goal.invariant-loop-cell
invariant-loop-cell l = record {
  hides : hidden_with (decls_at l.source.typed.now.nodes l.at) l.hidden ≡ hidden_with (decls_at l.source.typed.now.nodes l.id) l.fn.hidden;
  same : gather_decls (record (place_of l.env) { hidden = l.hidden }) (decls_at l.source.typed.now.nodes l.at) l.out ≡ gather_decls (record (place_of l.env) { hidden = l.fn.hidden }) (decls_at l.source.typed.now.nodes l.id) l.fn.out;
}

abbrev pub decreases-loop-cell : goal.decreases-loop-cell
decreases-loop-cell l = l.at
