use Rattle.tests_grammar.proofs.Answers.{too_deep, read_within}
use Rattle.tests_grammar.proofs.known_depths.Goals as goal

pub returns-clause-deep : goal.returns-clause-deep
returns-clause-deep c = too_deep

pub returns-clause-read : goal.returns-clause-read
returns-clause-read c = read_within
