-- Parts of a run, one after the other.
use Rattle.std.specs.Prelude.{ℕ, zero, suc, ℤ, List, [], ◌∷◌, Option, Some, None}

-- doing one thing and then another
pub record Doings {ℓ} : Type (ℓ + 1) where
  pub Doing : Type 0 → Type ℓ
  infixl 10 ◌>>=◌
  pub ret : {A : Type 0} → A → Doing A
  pub ◌>>=◌ : {A B : Type 0} → Doing A → (A → Doing B) → Doing B

module _ {ℓ} (d : Doings {ℓ}) where
  open d use {Doing, ret, ◌>>=◌}

  infixl 10 ◌>>=◌
  -- from a value on, through so many numbers from the first
  abbrev pub through : {A : Type 0} → ℕ → ℕ → A → (ℕ → A → Doing A) → Doing A
  through first zero a f = ret a
  through first (suc size) a f = f first a >>= λ b. through (suc first) size b f

  -- the second and later values onto the first
  abbrev pub onto : ℤ → List ℤ → (ℤ → ℤ → Doing ℤ) → Doing ℤ
  onto a [] f = ret a
  onto a (b ∷ bs) f = f a b >>= λ c. onto c bs f

  -- a value, where there is one, onto what is folded so far
  abbrev pub folded : (ℤ → ℤ → Doing ℤ) → ℤ → Option ℤ → Doing ℤ
  folded f a None = ret a
  folded f a (Some v) = f a v
