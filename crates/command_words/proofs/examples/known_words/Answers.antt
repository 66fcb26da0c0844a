use Rattle.command_words.proofs.Rows.{forms_are, numbers_are, plans_are}
use Rattle.command_words.proofs.examples.known_words.Goals as goal

pub returns-clause-forms : goal.returns-clause-forms
returns-clause-forms c = forms_are

pub returns-clause-numbers : goal.returns-clause-numbers
returns-clause-numbers c = numbers_are

pub returns-clause-plans : goal.returns-clause-plans
returns-clause-plans c = plans_are
