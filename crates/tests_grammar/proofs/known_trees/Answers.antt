use Rattle.tests_grammar.proofs.Answers.{examples_derived, examples_missed}
use Rattle.tests_grammar.proofs.known_trees.Goals as goal

pub returns-clause-derived : goal.returns-clause-derived
returns-clause-derived c = examples_derived

pub returns-clause-missed : goal.returns-clause-missed
returns-clause-missed c = examples_missed
