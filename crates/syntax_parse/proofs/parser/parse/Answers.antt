use Rattle.std.proofs.Common.{subst}
use Rattle.syntax_parse.specs.Parsed.{Parsed}
use Rattle.syntax_parse.proofs.Verdicts.{gives_tree, gives_fault, gives_deep}
use Rattle.syntax_parse.proofs.parser.parse.Goals as goal

pub returns-clause-all_trees : goal.returns-clause-all_trees
returns-clause-all_trees c = gives_tree _ _ (subst (λ items. Parsed items c.parse_items.result) c.items.ensures.value c.parse_items.ensures)

pub returns-clause-all_faults : goal.returns-clause-all_faults
returns-clause-all_faults c = gives_fault _ _ (subst (λ items. Parsed items c.parse_items.result) c.items.ensures.value c.parse_items.ensures)

pub returns-clause-all_depths : goal.returns-clause-all_depths
returns-clause-all_depths c = gives_deep _ _ (subst (λ items. Parsed items c.parse_items.result) c.items.ensures.value c.parse_items.ensures)
