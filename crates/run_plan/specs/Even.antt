-- Even division, part by part (5.5).
use Rattle.std.specs.Prelude.{ℕ, sum, take, slice_index}
use Rattle.ada_base.specs.Cuts.{evens}
use Rattle.run_plan.specs.declared.even_division.Range.{Range}

-- the iterations of part i of k: it begins behind all those of the parts before it
abbrev pub even_of : ℕ → ℕ → ℕ → Range
even_of n k i = record { first = sum (take i (evens n k)); len = slice_index (evens n k) i }
