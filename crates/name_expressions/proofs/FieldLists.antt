-- Components of a record, from a place on.
use Rattle.std.proofs.Common.{◌≡◌, refl, ap, sym, ◌∙◌, ℕ, zero, suc, ◌+◌, ◌<◌, Bool, true, false, cond, eqb-true, ◌==◌, List, [], ◌∷◌, ◌++◌, length, Some, None, drop, slice_get, arith}
use Rattle.std.specs.List.{find}
use Rattle.std.proofs.lemmas.List.{append_assoc, append-nil}
use Rattle.name_rules.specs.Aggregates.{one_field, without}
use Rattle.name_rules.specs.declared.log.Field.{Field}
use Rattle.name_values.proofs.Lists.{drop_get, drop_none}

without_cons : (name : ℕ) (f : Field) (fs : List Field) → without name (f ∷ fs) ≡ without name (f ∷ []) ++ without name fs
without_cons name f fs = by (f.symbol == name)
  where
    by : (t : Bool) → cond t (without name fs) (f ∷ without name fs) ≡ cond t [] (f ∷ []) ++ without name fs
    by true = refl
    by false = refl

pub without_next : (name : ℕ) (fs : List Field) (i : ℕ) (f : Field) (others : List Field) → slice_get fs i ≡ Some f → others ++ without name (drop i fs) ≡ (others ++ without name (f ∷ [])) ++ without name (drop (i + 1) fs)
without_next name fs i f others e =
    ap (λ xs. others ++ without name xs) (drop_get fs i f e)
    ∙ ap (λ xs. others ++ xs) (without_cons name f (drop (i + 1) fs))
    ∙ sym (append_assoc others (without name (f ∷ [])) (without name (drop (i + 1) fs)))

pub without_end : (name : ℕ) (fs : List Field) (i : ℕ) (others : List Field) → slice_get fs i ≡ None → others ++ without name (drop i fs) ≡ others
without_end name fs i others e = ap (λ xs. others ++ without name xs) (drop_none fs i e) ∙ append-nil others

by_cases : {P : Type 0} (b : Bool) → (b ≡ true → P) → (b ≡ false → P) → P
by_cases true f g = f refl
by_cases false f g = g refl

pub some_left : {A : Type 0} (xs : List A) (i : ℕ) → i < length xs → (length (drop i xs) == 0) ≡ false
some_left [] i h = absurd (omega (arith, h))
some_left (x ∷ xs) zero h = by_cases (length (x ∷ xs) == 0) (λ e. absurd (omega (arith, eqb-true (length (x ∷ xs)) 0 e))) (λ e. e)
some_left (x ∷ xs) (suc i) h = some_left xs i (omega (arith, h))

pub one_found : (name : ℕ) (fs : List Field) (f : Field) → find (λ g. g.symbol == name) fs ≡ Some f → one_field name fs ≡ f ∷ []
one_found name [] f e = absurd (cc)
one_found name (g ∷ gs) f e = by (g.symbol == name) e (one_found name gs f)
  where
    by : (t : Bool) → cond t (Some g) (find (λ h. h.symbol == name) gs) ≡ Some f → (find (λ h. h.symbol == name) gs ≡ Some f → one_field name gs ≡ f ∷ []) → cond t (g ∷ []) (one_field name gs) ≡ f ∷ []
    by true e later = cc
    by false e later = later e

pub one_none : (name : ℕ) (fs : List Field) → find (λ g. g.symbol == name) fs ≡ None → one_field name fs ≡ []
one_none name [] e = refl
one_none name (g ∷ gs) e = by (g.symbol == name) e (one_none name gs)
  where
    by : (t : Bool) → cond t (Some g) (find (λ h. h.symbol == name) gs) ≡ None → (find (λ h. h.symbol == name) gs ≡ None → one_field name gs ≡ []) → cond t (g ∷ []) (one_field name gs) ≡ []
    by true e later = absurd (cc)
    by false e later = later e

pub none_taken : (name : ℕ) (fs taken : List Field) → find (λ g. g.symbol == name) fs ≡ None → taken ≡ taken ++ one_field name fs
none_taken name fs taken e = sym (ap (λ xs. taken ++ xs) (one_none name fs e) ∙ append-nil taken)
