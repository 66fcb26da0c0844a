use Rattle.std.proofs.Common.{rules, ◌∙◌, ap}
use Rattle.name_rules.specs.Aggregates.{sorted}
use Rattle.std.proofs.lemmas.List.Sorted.{answers_always}
use Rattle.name_values.proofs.Ordered.{is_sorted}
use Rattle.name_values.proofs.order.in_order.Goals as goal

-- the sort is by the lower bounds, and stable
pub returns : goal.returns
returns c =
    let by_key = answers_always _ _ _ (λ f a r g called. search rules) in
    c.from_vec.ensures ∙ is_sorted _ _ (c.in_ok-sort_by_key.ensures.sorted (λ r. r.0) by_key) (c.in_ok-sort_by_key.ensures.stable (λ r. r.0) by_key) ∙ ap sorted c.into_vec-all.ensures
