-- What is written is read, also when more stands after it.
use Rattle.std.specs.Prelude.{◌≡◌, List, ◌++◌, map}
use Rattle.std.proofs.Common.{ap, ◌∙◌}
use Rattle.typed_tree.specs.declared.node.Node.{Node}
use Rattle.typed_tree.specs.declared.node.Leaf.TheVariants as leaf
use Rattle.typed_tree.specs.Decoded.{part_at, as_expr, as_body, as_bounds, as_fields, as_formals}
use Rattle.typed_tree.specs.Laws.{KeptLaw, WrittenLaw}
use Rattle.typed_tree.specs.Written.{last}
use Rattle.typed_tree.proofs.Growing.{Grown, under_last, grown_body, grown_expr, grown_leaves}
use Rattle.typed_tree.proofs.Law.{read_body, read_bounds, read_expr, read_fields, read_formals}
use Rattle.typed_tree.proofs.Order.{ordered_body, ordered_expr, ordered_leaves}
use Rattle.typed_tree.proofs.Reading.{part_stable}

pub kept_law : KeptLaw
kept_law = part_stable

-- what the last node stands for, with more nodes after it
last_stays : {ns ms : List Node} (more : List Node) → Grown ns ms → part_at (ms ++ more) (last ms) ≡ part_at ms (last ms)
last_stays {ns} {ms} more g = part_stable ms more (last ms) (under_last g)

pub written_law : WrittenLaw
written_law = record {
  expr = λ x ns more o. (ordered_expr x ns o, ap as_expr (last_stays more (grown_expr x ns)) ∙ ap as_expr (read_expr x ns));
  body = λ x ns more o. (ordered_body x ns o, ap as_body (last_stays more (grown_body x ns)) ∙ read_body x ns);
  formals = λ xs ns more o. (ordered_leaves (map leaf.Formal xs) ns o, ap as_formals (last_stays more (grown_leaves (map leaf.Formal xs) ns)) ∙ read_formals xs ns);
  bounds = λ xs ns more o. (ordered_leaves (map leaf.Bounds xs) ns o, ap as_bounds (last_stays more (grown_leaves (map leaf.Bounds xs) ns)) ∙ read_bounds xs ns);
  fields = λ xs ns more o. (ordered_leaves (map leaf.Field xs) ns o, ap as_fields (last_stays more (grown_leaves (map leaf.Field xs) ns)) ∙ read_fields xs ns);
}
