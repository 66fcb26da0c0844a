-- Lists from a place on.
use Rattle.std.proofs.Common.{inl, inr, ◌≡◌, ◌+◌, ◌∙◌, ℕ, List, [], ◌∷◌, drop, sym, ap}
use Rattle.std.specs.Prelude.{slice_get, Some, None}
use Rattle.std.proofs.lemmas.List.{drop_more}
use Rattle.std.proofs.lemmas.Option.{slice_get_within, slice_get_cases, get_or_from_slice_get}
use Rattle.std.proofs.Math.ListN.{drop_of_length-le}

pub drop_at : {X : Type 0} (xs : List X) (k : ℕ) (x : X) → slice_get xs k ≡ Some x → drop k xs ≡ x ∷ drop (k + 1) xs
drop_at xs k x e = drop_more xs k x (slice_get_within xs k x e) ∙ ap (λ z. z ∷ drop (k + 1) xs) (get_or_from_slice_get xs k x x e)

pub none_past : {X : Type 0} (xs : List X) (k : ℕ) → slice_get xs k ≡ None → drop k xs ≡ []
none_past xs k e = elim (slice_get_cases xs k).1 [ inl (x, l, f, g) ↦ absurd (some_none (sym f ∙ e)) | inr (l, f) ↦ drop_of_length-le xs l ]
  where
    some_none : {X : Type 0} {x : X} → Some x ≡ None → ⊥
    some_none e = cc
