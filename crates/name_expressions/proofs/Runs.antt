-- Runs of ranges, from the last one on.
use Rattle.std.proofs.Common.{◌≡◌, refl, ap, ℕ, ℤ, List, [], ◌∷◌, ◌++◌, Option, Some}
use Rattle.typed_tree.specs.declared.expressions.Run.{Run}
use Rattle.name_rules.specs.Aggregates.{runs_of, with_run}
use Rattle.name_rules.specs.declared.log.Dimension.{Dimension}

-- the runs of ranges before these runs
abbrev pub runs_before : Dimension → ℕ → List (ℤ × ℤ) → Option (List Run) → Option (List Run)
runs_before d apart [] rs = rs
runs_before d apart (x ∷ xs) rs = with_run d apart x (runs_before d apart xs rs)

pub runs_whole : (d : Dimension) (apart : ℕ) (xs : List (ℤ × ℤ)) → runs_before d apart xs (Some []) ≡ runs_of d apart xs
runs_whole d apart [] = refl
runs_whole d apart (x ∷ xs) = ap (with_run d apart x) (runs_whole d apart xs)

pub runs_last : (d : Dimension) (apart : ℕ) (xs : List (ℤ × ℤ)) (x : ℤ × ℤ) (rs : Option (List Run)) → runs_before d apart (xs ++ x ∷ []) rs ≡ runs_before d apart xs (with_run d apart x rs)
runs_last d apart [] x rs = refl
runs_last d apart (y ∷ xs) x rs = ap (with_run d apart y) (runs_last d apart xs x rs)
