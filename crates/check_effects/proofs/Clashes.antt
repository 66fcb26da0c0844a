-- IsThreadEffect are disjoint exactly where no two of them clash: whether paths are separated is decided.
use Rattle.std.proofs.Common.{◌≡◌, ℕ, ℤ, nat_eq, List, [], ◌∷◌, ◌⊎◌, inl, inr, ⊎_elim, Bool, true, false, refl, sym, ◌∙◌, true≢false, eqb-true, eq-eqb}
use Rattle.std.specs.Ordering.{int_eq}
use Rattle.std.proofs.lemmas.Bool.Decides.{Decides-int_eq}
use Rattle.check_effects.specs.Effects.{Selector, At, Fixed, LoopIndex, ChunkIndex, Any, Access}
use Rattle.check_effects.specs.Conflicts.{path, Differ, SomeDiffer, AreSeparated, ClashLaw}

abbrev Known : Type 0 → Type 0
Known p = p ⊎ (p → ⊥)

same_number : (x y : ℕ) → Known (x ≡ y)
same_number x y = go (nat_eq x y) refl
  where
    go : (b : Bool) → nat_eq x y ≡ b → Known (x ≡ y)
    go true e = inl (eqb-true x y e)
    go false e = inr (λ s. true≢false (sym (eq-eqb x y s) ∙ e))

same_integer : (x y : ℤ) → Known (x ≡ y)
same_integer x y = go (int_eq x y) refl
  where
    go : (b : Bool) → int_eq x y ≡ b → Known (x ≡ y)
    go true e = inl ((Decides-int_eq x y).0 e)
    go false e = inr (λ s. true≢false (sym ((Decides-int_eq x y).1 s) ∙ e))

unlike_one : {p : Type 0} → Known p → Known (p → ⊥)
unlike_one k = ⊎_elim (λ h. inr (λ n. n h)) (λ n. inl n) k

either_one : {p q : Type 0} → Known p → Known q → Known (p ⊎ q)
either_one (inl h) k = inl (inl h)
either_one (inr n) (inl h) = inl (inr h)
either_one (inr n) (inr m) = inr (λ h. ⊎_elim n m h)

differs : (s t : Selector) → Known (Differ s t)
differs (At j) (At k) = unlike_one (same_number j k)
differs (At j) (Fixed k) = inr (λ h. h)
differs (At j) (LoopIndex k) = inr (λ h. h)
differs (At j) (ChunkIndex k) = inr (λ h. h)
differs (At j) Any = inr (λ h. h)
differs (Fixed j) (At k) = inr (λ h. h)
differs (Fixed j) (Fixed k) = unlike_one (same_integer j k)
differs (Fixed j) (LoopIndex k) = inr (λ h. h)
differs (Fixed j) (ChunkIndex k) = inr (λ h. h)
differs (Fixed j) Any = inr (λ h. h)
differs (LoopIndex j) (At k) = inr (λ h. h)
differs (LoopIndex j) (Fixed k) = inr (λ h. h)
differs (LoopIndex j) (LoopIndex k) = same_integer j k
differs (LoopIndex j) (ChunkIndex k) = inr (λ h. h)
differs (LoopIndex j) Any = inr (λ h. h)
differs (ChunkIndex j) (At k) = inr (λ h. h)
differs (ChunkIndex j) (Fixed k) = inr (λ h. h)
differs (ChunkIndex j) (LoopIndex k) = inr (λ h. h)
differs (ChunkIndex j) (ChunkIndex k) = same_integer j k
differs (ChunkIndex j) Any = inr (λ h. h)
differs Any (At k) = inr (λ h. h)
differs Any (Fixed k) = inr (λ h. h)
differs Any (LoopIndex k) = inr (λ h. h)
differs Any (ChunkIndex k) = inr (λ h. h)
differs Any Any = inr (λ h. h)

some_differ : (ss ts : List Selector) → Known (SomeDiffer ss ts)
some_differ [] [] = inr (λ h. h)
some_differ [] (t ∷ ts) = inr (λ h. h)
some_differ (s ∷ ss) [] = inr (λ h. h)
some_differ (s ∷ ss) (t ∷ ts) = either_one (differs s t) (some_differ ss ts)

pub separated : (a b : Access) → Known (AreSeparated a b)
separated a b = either_one (unlike_one (same_number a.object b.object)) (some_differ (path a.steps) (path b.steps))

pub clash_law : ClashLaw
clash_law program k = (
  (λ disjoint at other c. c.together (disjoint c.arm c.other_arm c.compared at other c.access c.other_access c.effect c.other_effect c.writes)),
  λ none i j compared at other a b e f w. ⊎_elim (λ h. h) (λ n. absurd (none at other (record { arm = i; other_arm = j; compared = compared; access = a; other_access = b; effect = e; other_effect = f; writes = w; together = n }))) (separated a b),
)
