-- The places of formals in the frame of a call, of which each actual parameter takes one.
use Rattle.std.proofs.Common.{ℕ, ◌+◌, ◌≤◌, List, [], ◌∷◌, sym, subst, arith, ◌⊎◌, inl, inr, ⊎_elim}
use Rattle.typed_scopes.specs.Scopes.{Without}
use Rattle.ada_lower.specs.Emission.{Shape, lead, shapes_cells}
use Rattle.ada_lower.specs.Fitted.{Spot, spots}

abbrev pub Each : (Spot → Type 0) → List Spot → Type 0
Each P [] = Unit {0}
Each P (k ∷ ks) = P k × Each P ks

-- of so many cells from one on none is the formal's
abbrev pub IsOff : ℕ → ℕ → Spot → Type 0
IsOff e n k = (e + n ≤ k.at) ⊎ (k.at + (lead k.shape.back + k.shape.cells) ≤ e)

-- no cell is that of two
abbrev pub AreApart : List Spot → Type 0
AreApart [] = Unit {0}
AreApart (k ∷ ks) = Each (IsOff k.at (lead k.shape.back + k.shape.cells)) ks × AreApart ks

abbrev pub IsWithin : ℕ → Spot → Type 0
IsWithin m k = k.at + (lead k.shape.back + k.shape.cells) ≤ m

pub each_map : (P Q : Spot → Type 0) (ks : List Spot) → ((k : Spot) → P k → Q k) → Each P ks → Each Q ks
each_map P Q [] f e = tt
each_map P Q (k ∷ ks) f (e, es) = (f k e, each_map P Q ks f es)

-- one, and the others
pub each_without : (P : Spot → Type 0) (k : Spot) (ks zs : List Spot) → Without k ks zs → Each P ks → P k × Each P zs
each_without P k [] zs wo e = absurd wo
each_without P k (y ∷ ys) zs (inl (is, rest)) (e, es) = (subst P is e, subst (λ zs. Each P zs) (sym rest) es)
each_without P k (y ∷ ys) zs (inr (ws, is, wo)) (e, es) = let (a, b) = each_without P k ys ws wo es in (a, subst (λ zs. Each P zs) (sym is) (e, b))

pub apart_without : (k : Spot) (ks zs : List Spot) → Without k ks zs → AreApart ks → Each (IsOff k.at (lead k.shape.back + k.shape.cells)) zs × AreApart zs
apart_without k [] zs wo e = absurd wo
apart_without k (y ∷ ys) zs (inl (is, rest)) (e, es) = (subst (λ zs. Each (IsOff k.at (lead k.shape.back + k.shape.cells)) zs) (sym rest) (subst (λ y. Each (IsOff y.at (lead y.shape.back + y.shape.cells)) ys) is e), subst (λ zs. AreApart zs) (sym rest) es)
apart_without k (y ∷ ys) zs (inr (ws, is, wo)) (e, es) =
    let (here, e') = each_without (IsOff y.at (lead y.shape.back + y.shape.cells)) k ys ws wo e in
    let (off, es') = apart_without k ys ws wo es in
    (subst (λ zs. Each (IsOff k.at (lead k.shape.back + k.shape.cells)) zs) (sym is) (⊎_elim (λ l. inr l) (λ l. inl l) here, off), subst (λ zs. AreApart zs) (sym is) (e', es'))

-- ---- those that are one behind the other

spots_lie : (i : ℕ) (hs : List Shape) → Each (λ k. (i ≤ k.at) × (k.at + (lead k.shape.back + k.shape.cells) ≤ i + shapes_cells hs)) (spots i hs)
spots_lie i [] = tt
spots_lie i (h ∷ hs) = (
  (omega arith, omega arith),
  each_map (λ k. (i + lead h.back + h.cells ≤ k.at) × (k.at + (lead k.shape.back + k.shape.cells) ≤ i + lead h.back + h.cells + shapes_cells hs)) (λ k. (i ≤ k.at) × (k.at + (lead k.shape.back + k.shape.cells) ≤ i + (lead h.back + h.cells + shapes_cells hs))) (spots (i + lead h.back + h.cells) hs)
      (λ k r. (let l = r.0 in omega (arith, l), let l = r.1 in omega (arith, l))) (spots_lie (i + lead h.back + h.cells) hs),
)

pub spots_within : (hs : List Shape) → Each (IsWithin (shapes_cells hs)) (spots 0 hs)
spots_within hs = each_map (λ k. (0 ≤ k.at) × (k.at + (lead k.shape.back + k.shape.cells) ≤ 0 + shapes_cells hs)) (IsWithin (shapes_cells hs)) (spots 0 hs) (λ k r. let l = r.1 in omega (arith, l)) (spots_lie 0 hs)

pub spots_apart : (i : ℕ) (hs : List Shape) → AreApart (spots i hs)
spots_apart i [] = tt
spots_apart i (h ∷ hs) = (
  each_map (λ k. (i + lead h.back + h.cells ≤ k.at) × (k.at + (lead k.shape.back + k.shape.cells) ≤ i + lead h.back + h.cells + shapes_cells hs)) (IsOff i (lead h.back + h.cells)) (spots (i + lead h.back + h.cells) hs)
      (λ k r. let l = r.0 in inl (omega (arith, l))) (spots_lie (i + lead h.back + h.cells) hs),
  spots_apart (i + lead h.back + h.cells) hs,
)
