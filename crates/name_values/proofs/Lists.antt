-- A list from a place on.
use Rattle.std.proofs.Common.{add-one, ◌≡◌, refl, ℕ, zero, suc, ◌+◌, ◌-◌, ◌<◌, ◌≤◌, List, [], ◌∷◌, length, Some, None, drop, arith}
use Rattle.std.specs.Prelude.{slice_get}
use Rattle.name_rules.specs.Types.{array_cells, stride}
use Rattle.name_rules.specs.declared.log.Dimension.{Dimension}
use Rattle.std.proofs.lemmas.Option.{slice_get_within}

drop_some : {A : Type 0} (xs : List A) (i : ℕ) (x : A) → slice_get xs i ≡ Some x → drop i xs ≡ x ∷ drop (suc i) xs
drop_some [] i x e = absurd (cc)
drop_some (y ∷ xs) zero x e = cc
drop_some (y ∷ xs) (suc i) x e = drop_some xs i x e

pub drop_get : {A : Type 0} (xs : List A) (i : ℕ) (x : A) → slice_get xs i ≡ Some x → drop i xs ≡ x ∷ drop (i + 1) xs
drop_get xs i x e = rw (add-one i) (drop_some xs i x e)

pub drop_none : {A : Type 0} (xs : List A) (i : ℕ) → slice_get xs i ≡ None → drop i xs ≡ []
drop_none [] zero e = refl
drop_none [] (suc i) e = refl
drop_none (y ∷ xs) zero e = absurd (cc)
drop_none (y ∷ xs) (suc i) e = drop_none xs i e

pub drop_less : {A : Type 0} (xs : List A) (i : ℕ) (x : A) → slice_get xs i ≡ Some x → length xs - (i + 1) < length xs - i
drop_less xs i x e = omega (arith, slice_get_within xs i x e)

drop_one : {A : Type 0} (xs : List A) (i : ℕ) → drop 1 (drop i xs) ≡ drop (suc i) xs
drop_one [] zero = refl
drop_one [] (suc i) = refl
drop_one (y ∷ xs) zero = refl
drop_one (y ∷ xs) (suc i) = drop_one xs i

pub drop_step : {A : Type 0} (xs : List A) (i : ℕ) → drop 1 (drop i xs) ≡ drop (i + 1) xs
drop_step xs i = rw (add-one i) (drop_one xs i)

pub get_drop : {A : Type 0} (xs : List A) (i : ℕ) → slice_get (drop i xs) 0 ≡ slice_get xs i
get_drop [] zero = refl
get_drop [] (suc i) = refl
get_drop (y ∷ xs) zero = refl
get_drop (y ∷ xs) (suc i) = get_drop xs i

pub drop_past : {A : Type 0} (xs : List A) (i : ℕ) → length xs ≤ i → drop i xs ≡ []
drop_past [] zero h = refl
drop_past [] (suc i) h = refl
drop_past (y ∷ xs) zero h = absurd (omega (arith, h))
drop_past (y ∷ xs) (suc i) h = drop_past xs i (omega (arith, h))

stride_some : (ds : List Dimension) (i c : ℕ) → i < length ds → stride (drop i ds) c ≡ array_cells (drop (suc i) ds) c
stride_some [] i c h = absurd (omega (arith, h))
stride_some (d ∷ ds) zero c h = refl
stride_some (d ∷ ds) (suc i) c h = stride_some ds i c (omega (arith, h))

pub stride_in : (ds : List Dimension) (i c : ℕ) → i < length ds → stride (drop i ds) c ≡ array_cells (drop (i + 1) ds) c
stride_in ds i c h = rw (add-one i) (stride_some ds i c h)

pub stride_past : (ds : List Dimension) (i c : ℕ) → length ds ≤ i → stride (drop i ds) c ≡ c
stride_past ds i c h = rw (drop_past ds i h) refl
