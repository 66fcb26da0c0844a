-- Reducers that are named.
use Rattle.std.specs.Prelude.{ℕ, Option}
use Rattle.ada_base.specs.declared.operation.Op.{Op}
use Rattle.name_rules.specs.Judging.{Judging, given, ◌>>=◌}
use Rattle.name_rules.specs.Reducers.{extreme_of, function_of}
use Rattle.name_rules.specs.Scope.{stands_for}
use Rattle.name_rules.specs.declared.found.Folding.{Folding}
use Rattle.name_rules.specs.declared.scope.Context.{Context}
use Rattle.name_rules.specs.declared.scope.Names.{Names}

abbrev pub extreme_named : Names → Context → ℕ → Op → Judging (Option Folding)
extreme_named names here first o = stands_for names here first >>= λ d. given d (λ x. extreme_of first o x.known)

abbrev pub function_named : Names → Context → ℕ → Judging (Option Folding)
function_named names here first = stands_for names here first >>= λ d. given d (λ x. function_of first x.known)
