-- Where the steps of a lease lead in the iterations of a comb.
use Rattle.std.specs.Prelude.{◌≡◌, ◌⊎◌, ◌↔◌, ℕ, ◌+◌, ◌-◌, ◌*◌, ◌^◌, ◌<◌, min, ℤ, pos, ◌+ℤ◌, List, [], ◌∷◌, ◌++◌, Option, Some, None}
use Rattle.stack_code.specs.declared.code.Step.{Step}
use Rattle.ada_lower.specs.Lending.{StepsTo}
use Rattle.ada_threads.specs.declared.combs.Comb.{Comb}

-- so far apart, as far as 64 bits hold it
abbrev pub IsApart : ℤ → ℤ → ℕ → Type 0
IsApart from to d = (n : ℕ) × (to ≡ from +ℤ pos n) × (d ≡ min n (2 ^ 64 - 1))

-- of one of the list this holds
abbrev pub Any : {A : Type 0} → (A → Type 0) → List A → Type 0
Any P [] = ⊥
Any P (y ∷ ys) = P y ⊎ Any P ys

abbrev pub with_some : {A : Type 0} → List A → Option A → List A
with_some xs None = xs
with_some xs (Some y) = xs ++ y ∷ []

-- in one of the iterations the steps lead there
abbrev pub Reaches : ℤ → List Step → ℕ → Comb → Type 0
Reaches chunk steps o b = (a : ℕ) × (a < b.count) × StepsTo (b.value +ℤ pos a) chunk steps (b.at + a * b.stride) o

-- combs that are added lead there by the further steps where the comb does by all
abbrev pub AddsTo : ℤ → Step → Comb → List Comb → List Comb → Type 0
AddsTo chunk step b old new = (steps : List Step) (o : ℕ) → Any (Reaches chunk steps o) new ↔ (Any (Reaches chunk steps o) old ⊎ Reaches chunk (step ∷ steps) o b)

abbrev pub GoesOn : ℤ → Step → Comb → Option Comb → Type 0
GoesOn chunk step b more = (old : List Comb) → AddsTo chunk step b old (with_some old more)

abbrev pub Onward : ℤ → Step → List Comb → List Comb → Type 0
Onward chunk step old new = (steps : List Step) (o : ℕ) → Any (Reaches chunk steps o) new ↔ Any (Reaches chunk (step ∷ steps) o) old

abbrev pub LedTo : ℤ → List Step → Comb → List Comb → Type 0
LedTo chunk steps b new = (o : ℕ) → Any (Reaches chunk [] o) new ↔ Reaches chunk steps o b
