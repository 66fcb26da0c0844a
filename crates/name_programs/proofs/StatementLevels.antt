-- A statement in a number of levels is judged by its form, and what stands in it in one less.
use Rattle.std.proofs.Common.{◌≡◌, refl, sym, subst, ℕ, suc, ◌-◌, ◌<◌, arith}
use Rattle.syntax_tree.specs.Syntax.{Stmt}
use Rattle.name_rules.specs.Primaries.{inside}
use Rattle.name_rules.specs.Statements.{stmt, stmt_form}
use Rattle.name_rules.specs.declared.log.Log.{Log}
use Rattle.name_rules.specs.declared.scope.Context.{Context}
use Rattle.name_rules.specs.declared.scope.Names.{Names}
use Rattle.name_programs.specs.Around.{in_levels}

stmt_more : (names : Names) (n : ℕ) (here : Context) (s : Stmt) (log : Log) → stmt names (suc n) here s log ≡ stmt_form (in_levels names (suc n) n) here s log
unfolding stmt inside
stmt_more names n here s log = refl

pub stmt_below : (names : Names) (levels : ℕ) (here : Context) (s : Stmt) (log : Log) → 0 < levels → stmt names levels here s log ≡ stmt_form (in_levels names levels (levels - 1)) here s log
stmt_below names levels here s log some =
    let e : levels ≡ suc (levels - 1) = omega (arith, some) in
    subst (λ k. stmt names k here s log ≡ stmt_form (in_levels names k (levels - 1)) here s log) (sym e) (stmt_more names (levels - 1) here s log)
