use Rattle.name_scopes.proofs.Named.{named_law}
use Rattle.name_scopes.proofs.Scoped.{scoped_law}
use Rattle.name_scopes.proofs.laws.Goals as goal

pub returns-clause-scoped : goal.returns-clause-scoped
returns-clause-scoped c = scoped_law

pub returns-clause-named : goal.returns-clause-named
returns-clause-named c = named_law
