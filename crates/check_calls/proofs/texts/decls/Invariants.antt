use Rattle.std.proofs.Common.{◌≡◌}
use Rattle.typed_tree.specs.Decoded.{decls_at}
use Rattle.check_calls.specs.First.{first_decls}
use Rattle.check_calls.specs.Words.{rule_of}
use Rattle.check_calls.proofs.texts.decls.Given as goal

abbrev pub invariant-loop-cell : goal.invariant-loop-cell
invariant-loop-cell l = first_decls (rule_of l.typed) (decls_at l.typed.nodes l.at) l.blocking l.all ≡ first_decls (rule_of l.typed) (decls_at l.typed.nodes l.id) l.blocking l.fn.found

abbrev pub decreases-loop-cell : goal.decreases-loop-cell
decreases-loop-cell l = l.at
