use Rattle.std.proofs.Common.{◌≡◌, [], length}
use Rattle.std.specs.Prelude.{map, reverse}
use Rattle.typed_tree.specs.Programs.{sub_of}
use Rattle.name_tables.specs.Heads.{subs_back}
use Rattle.typed_parts.specs.Stack.{parts_in}
use Rattle.name_tables.proofs.heads.subs_taken.Given as goal

abbrev pub invariant-each : goal.invariant-each
invariant-each l = (subs_back (reverse l.fn.heads) (parts_in l.fn.finished.nodes l.fn.finished.roots) [] ≡ subs_back (reverse l.left) (parts_in l.finished.nodes l.finished.roots) (map (sub_of l.finished.nodes) (reverse l.backwards))) × (l.finished.nodes ≡ l.fn.finished.nodes)

abbrev pub decreases-each : goal.decreases-each
decreases-each l = length l.left
