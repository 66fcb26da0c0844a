-- Ranges in order, from a place on.
use Rattle.std.proofs.Common.{◌≡◌, refl, ap, sym, ◌∙◌, ℕ, ◌+◌, ℤ, pos, ◌+ℤ◌, ◌-ℤ◌, int_le, int_lt, Bool, true, false, cond, ◌||◌, List, [], ◌∷◌, ◌++◌, Option, Some, None, option_map, drop, slice_get}
use Rattle.std.proofs.lemmas.List.{append_assoc, append-nil}
use Rattle.name_expressions.specs.Gaps.{gap_before, gap_behind}
use Rattle.name_rules.specs.Aggregates.{left_open}
use Rattle.name_values.proofs.Lists.{drop_get, drop_none}

-- what is open of these ranges, behind what is open before them
abbrev pub behind : List (ℤ × ℤ) → Option (List (ℤ × ℤ)) → Option (List (ℤ × ℤ))
behind os None = None
behind os (Some xs) = Some (os ++ xs)

behind_one : (os : List (ℤ × ℤ)) (g : ℤ × ℤ) (xs : Option (List (ℤ × ℤ))) → behind os (option_map (λ ys. g ∷ ys) xs) ≡ behind (os ++ g ∷ []) xs
behind_one os g None = refl
behind_one os g (Some xs) = ap Some (sym (append_assoc os (g ∷ []) xs))

behind_nil : (os : List (ℤ × ℤ)) (xs : Option (List (ℤ × ℤ))) → behind os xs ≡ behind (os ++ []) xs
behind_nil os xs = ap (λ zs. behind zs xs) (sym (append-nil os))

pub open_next : (rs : List (ℤ × ℤ)) (i : ℕ) (r : ℤ × ℤ) (os : List (ℤ × ℤ)) (low high : ℤ) → slice_get rs i ≡ Some r → int_lt r.0 low ≡ false → int_lt high r.1 ≡ false → behind os (left_open low high (drop i rs)) ≡ behind (os ++ gap_before low r.0) (left_open (r.1 +ℤ pos 1) high (drop (i + 1) rs))
open_next rs i r os low high e f g =
    ap (λ xs. behind os (left_open low high xs)) (drop_get rs i r e)
    ∙ ap (λ t. behind os (cond t None (cond (int_le r.0 low) (left_open (r.1 +ℤ pos 1) high (drop (i + 1) rs)) (option_map (λ xs. (low, r.0 -ℤ pos 1) ∷ xs) (left_open (r.1 +ℤ pos 1) high (drop (i + 1) rs)))))) (ap (λ t. t || int_lt high r.1) f ∙ g)
    ∙ by (int_le r.0 low) (left_open (r.1 +ℤ pos 1) high (drop (i + 1) rs))
  where
    by : (t : Bool) (xs : Option (List (ℤ × ℤ))) → behind os (cond t xs (option_map (λ ys. (low, r.0 -ℤ pos 1) ∷ ys) xs)) ≡ behind (os ++ cond t [] ((low, r.0 -ℤ pos 1) ∷ [])) xs
    by true xs = behind_nil os xs
    by false xs = behind_one os (low, r.0 -ℤ pos 1) xs

pub open_further : (rs : List (ℤ × ℤ)) (i : ℕ) (r : ℤ × ℤ) (os ps : List (ℤ × ℤ)) (low high next : ℤ) → slice_get rs i ≡ Some r → int_lt r.0 low ≡ false → int_lt high r.1 ≡ false → ps ≡ os ++ gap_before low r.0 → next ≡ r.1 +ℤ pos 1 → behind os (left_open low high (drop i rs)) ≡ behind ps (left_open next high (drop (i + 1) rs))
open_further rs i r os ps low high next e f g o n =
    open_next rs i r os low high e f g
    ∙ ap (λ xs. behind xs (left_open (r.1 +ℤ pos 1) high (drop (i + 1) rs))) (sym o)
    ∙ ap (λ z. behind ps (left_open z high (drop (i + 1) rs))) (sym n)

pub open_below : (rs : List (ℤ × ℤ)) (i : ℕ) (r : ℤ × ℤ) (os : List (ℤ × ℤ)) (low high : ℤ) → slice_get rs i ≡ Some r → int_lt r.0 low ≡ true → behind os (left_open low high (drop i rs)) ≡ None
open_below rs i r os low high e f = ap (λ xs. behind os (left_open low high xs)) (drop_get rs i r e) ∙ rw f refl

pub open_above : (rs : List (ℤ × ℤ)) (i : ℕ) (r : ℤ × ℤ) (os : List (ℤ × ℤ)) (low high : ℤ) → slice_get rs i ≡ Some r → int_lt r.0 low ≡ false → int_lt high r.1 ≡ true → behind os (left_open low high (drop i rs)) ≡ None
open_above rs i r os low high e f g = ap (λ xs. behind os (left_open low high xs)) (drop_get rs i r e) ∙ rw (f, g) refl

pub open_end : (rs : List (ℤ × ℤ)) (i : ℕ) (os : List (ℤ × ℤ)) (low high : ℤ) → slice_get rs i ≡ None → behind os (left_open low high (drop i rs)) ≡ Some (os ++ gap_behind low high)
open_end rs i os low high e = ap (λ xs. behind os (left_open low high xs)) (drop_none rs i e) ∙ by (int_le low high)
  where
    by : (t : Bool) → behind os (cond t (Some ((low, high) ∷ [])) (Some [])) ≡ Some (os ++ cond t ((low, high) ∷ []) [])
    by true = refl
    by false = refl
