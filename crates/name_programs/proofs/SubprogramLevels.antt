-- One level of statements and brackets more.
use Rattle.std.proofs.Common.{◌≡◌, refl, ℕ, suc, ◌+◌}
use Rattle.std.proofs.Math.Numerals.{add-one}
use Rattle.name_rules.specs.Primaries.{inside}
use Rattle.name_rules.specs.Programs.{level_of}
use Rattle.name_rules.specs.Statements.{around, stmt}
use Rattle.name_rules.specs.declared.scope.Names.{Names}
use Rattle.name_programs.specs.Around.{in_levels}

pub level_up : (names : Names) (n : ℕ) → inside names (n + 1) ≡ level_of names n
unfolding inside
level_up names n = rw (add-one n) refl

pub around_up : (names : Names) (n : ℕ) → in_levels names (n + 1) n ≡ around names n (stmt names n)
unfolding inside
around_up names n = rw (add-one n) refl
