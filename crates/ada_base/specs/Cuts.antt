-- Plans, and how iterations are cut into chunks (5.5, 5.6.1).
use Rattle.std.specs.Prelude.{ℕ, zero, suc, ◌-◌, ◌/◌, ◌%◌, min, max, nat_le, List, [], ◌∷◌, cond}

-- ---- even division

-- so many numbers, of which the first ones are one more
abbrev pub shares : ℕ → ℕ → ℕ → List ℕ
shares least zero more = []
shares least (suc k) zero = least ∷ shares least k zero
shares least (suc k) (suc more) = suc least ∷ shares least k more

-- n cut into k parts that are as equal as can be, the greater ones first
abbrev pub evens : ℕ → ℕ → List ℕ
evens n k = shares (n / k) k (n % k)

-- ---- plans

-- one chunk; so many that are as equal as can be; chunks of a size and a last smaller one; these sizes and what is left
pub data Plan : Type 0 where
  One : Plan
  Even : (chunks : ℕ) → Plan
  Chunked : (size : ℕ) → Plan
  Listed : (sizes : List ℕ) → Plan

-- one chunk of all that is left, none where nothing is
abbrev pub rest_of : ℕ → List ℕ
rest_of zero = []
rest_of (suc n) = suc n ∷ []

-- chunks of a size, in no more than so many; the last that there may be takes all that remains
abbrev pub chunked : ℕ → ℕ → ℕ → List ℕ
chunked size zero n = rest_of n
chunked size (suc zero) n = rest_of n
chunked size (suc (suc more)) n = cond (nat_le n size) (rest_of n) (size ∷ chunked size (suc more) (n - size))

-- chunks of these sizes in order, a size above the rest taking the rest, and one more for what is left
abbrev pub listed : List ℕ → ℕ → ℕ → List ℕ
listed sizes zero n = rest_of n
listed [] (suc more) n = rest_of n
listed (s ∷ ss) (suc zero) n = rest_of n
listed (s ∷ ss) (suc (suc more)) n = cond (nat_le n s) (rest_of n) (s ∷ listed ss (suc more) (n - s))

-- the sizes of the chunks of n iterations, no more than so many, which is at least one
abbrev pub cuts_of : Plan → ℕ → ℕ → List ℕ
cuts_of One most n = rest_of n
cuts_of (Even k) most n = evens n (min k (min n (max 1 most)))
cuts_of (Chunked s) most n = chunked s most n
cuts_of (Listed ss) most n = listed ss most n
