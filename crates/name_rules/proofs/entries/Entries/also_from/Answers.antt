use Rattle.std.proofs.Common.{◌∙◌}
use Rattle.name_rules.proofs.Heads.{both_parts}
use Rattle.name_rules.proofs.entries.Entries.also_from.Goals as goal

pub returns : goal.returns
returns c = both_parts _ _ _ _ _ _ _ _ _ _ (c.entries-below.ensures ∙ c.as_ref.ensures) c.more.view_is c.len.ensures c.past.ensures c.in_ok-with_more.ensures c.in_ok-with_more-2.ensures
