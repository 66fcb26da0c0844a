-- The least of a list of faults, one fault further.
use Rattle.std.proofs.Common.{◌≡◌, refl, ℕ, ◌+◌, ◌≤◌, List, [], ◌∷◌, length, Some, None, drop}
use Rattle.std.specs.Prelude.{slice_get}
use Rattle.name_faults.proofs.Lists.{drop_get, drop_none, drop_past}
use Rattle.name_faults.specs.Least.{better, least_from, least_of}
use Rattle.name_rules.specs.declared.log.Fault.{Fault}

pub least_empty : (fs : List Fault) → slice_get fs 0 ≡ None → least_of fs ≡ None
least_empty [] e = refl
least_empty (f ∷ fs) e = absurd (cc)

pub least_first : (fs : List Fault) (f : Fault) → slice_get fs 0 ≡ Some f → least_of fs ≡ Some (least_from f (drop 1 fs))
least_first [] f e = absurd (cc)
least_first (g ∷ fs) f e = cc

pub least_step : (fs : List Fault) (best : Fault) (i : ℕ) (f : Fault) → slice_get fs i ≡ Some f → least_from best (drop i fs) ≡ least_from (better best f) (drop (i + 1) fs)
least_step fs best i f e = rw (drop_get fs i f e) refl

pub least_end : (fs : List Fault) (best : Fault) (i : ℕ) → length fs ≤ i → least_from best (drop i fs) ≡ best
least_end fs best i h = rw (drop_past fs i h) refl

pub least_stop : (fs : List Fault) (best : Fault) (i : ℕ) → slice_get fs i ≡ None → least_from best (drop i fs) ≡ best
least_stop fs best i e = rw (drop_none fs i e) refl
