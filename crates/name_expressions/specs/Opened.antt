-- The rules that are opened where the functions of a module are proved.
use Rattle.std.specs.Prelude.{⊤}
use Rattle.name_rules.specs.Expressions.{adding, condition, expr, factor, judged_alone, multiplying, rel, simple, term, value_for}
use Rattle.name_rules.specs.Ranges.{bounds_of, checked_range, own_bounds, range, two_bounds}

-- of expressions (4.4)
unfoldable pub expressions : ⊤
unfolding adding condition expr factor judged_alone multiplying rel simple term value_for
expressions = tt

-- of ranges (3.5)
unfoldable pub ranges : ⊤
unfolding bounds_of checked_range own_bounds range two_bounds
ranges = tt
