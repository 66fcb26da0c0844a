-- Whatever an expression is found to be has its static value in its base range, where what is declared around it has.
use Rattle.std.proofs.Common.{◌≡◌, ℕ, Some, subst}
use Rattle.syntax_tree.specs.Syntax.{Expr}
use Rattle.name_rules.specs.Expressions.{expr}
use Rattle.name_rules.specs.Found.{Found}
use Rattle.name_rules.specs.Primaries.{inside}
use Rattle.name_rules.specs.declared.log.Log.{Log}
use Rattle.name_rules.specs.declared.scope.Context.{Context}
use Rattle.name_rules.specs.declared.scope.Names.{Names}
use Rattle.name_rules.specs.declared.types.Wanted.{Wanted}
use Rattle.name_laws.proofs.MakesExpressions.{Finding, m-expr}
use Rattle.name_laws.proofs.MakesPrimaries.{based-value, inside-fits}
use Rattle.name_laws.proofs.Statics.{static_law}
use Rattle.name_laws.specs.Based.{BasedLaw, IsBasedAt}
use Rattle.name_laws.specs.Statics.{InBase}

found-based : (names : Names) (n : ℕ) (here : Context) (want : Wanted) (e : Expr) (log : Log) (f : Found) → IsBasedAt here log → (expr names (inside names n) here want e log).0 ≡ Some f → InBase f.known
found-based names n here want e log f h g k z p q =
    based-value f.known f.part k z (subst Finding g ((m-expr names (inside names n) here want e (inside-fits names n) h.scope).at log h.arrays).1) p q

pub based_law : BasedLaw
based_law = record {
  found = found-based;
  kept = λ names n here want e log mid f k z x h g v a. static_law.places k f x z mid (found-based names n here want e log f h g) v a;
}
