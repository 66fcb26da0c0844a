-- What a Get of an integer does (A.10.8), byte by byte, over any operations. What it looks at is a byte, or the end of the
-- input.
use Rattle.std.specs.Prelude.{ℕ, zero, suc, ◌+◌, ◌-◌, ◌*◌, nat_eq, nat_le, Option, Some, None, Bool, true, false, not, ◌&&◌, ◌||◌, cond, ℤ, pos, neg_ℤ}
use Rattle.ada_base.specs.declared.operation.Base.TheVariants.{Narrow}
use Rattle.ada_base.specs.declared.reason.Reason.{Reason}
use Rattle.ada_base.specs.declared.reason.Reason.TheVariants as reason
use Rattle.ada_base.specs.Operation.{is_in_base}

-- what a Get left for the next one: nothing, or what was looked at last
pub data Held : Type 0 where
  Nothing : Held
  Symbol : Option ℕ → Held

-- a tab, line feed, form feed, carriage return or space
abbrev pub is_blank : Option ℕ → Bool
is_blank None = false
is_blank (Some b) = nat_eq b 9 || nat_eq b 10 || nat_eq b 12 || nat_eq b 13 || nat_eq b 32

abbrev pub is_byte : ℕ → Option ℕ → Bool
is_byte n None = false
is_byte n (Some b) = nat_eq b n

abbrev pub is_digit : Option ℕ → Bool
is_digit None = false
is_digit (Some b) = nat_le 48 b && nat_le b 57

abbrev pub digit_of : Option ℕ → ℕ
digit_of None = 0
digit_of (Some b) = b - 48

-- `#`, `E` or `e`, which would make the number a based or exponent form
abbrev pub is_based : Option ℕ → Bool
is_based s = is_byte 35 s || is_byte 69 s || is_byte 101 s

abbrev pub signed : Bool → ℕ → ℤ
signed true n = neg_ℤ (pos n)
signed false n = pos n

-- whether a number is a value of Integer
abbrev pub is_integer : ℤ → Bool
is_integer z = is_in_base Narrow z

-- the operations that a Get is made of: a value, one thing after another, asking for the next byte, which takes a turn,
-- what is held for the next Get, an exception, and that the turns are spent
pub record Reading {ℓ} : Type (ℓ + 1) where
  pub Doing : Type 0 → Type ℓ
  infixl 10 ◌>>=◌
  pub ret : {A : Type 0} → A → Doing A
  pub ◌>>=◌ : {A B : Type 0} → Doing A → (A → Doing B) → Doing B
  pub asks : Doing (Option ℕ)
  pub recalls : Doing Held
  pub keeps : Held → Doing (Unit {0})
  pub raises : {A : Type 0} → Reason → Doing A
  pub spent : {A : Type 0} → Doing A

module _ {ℓ} (reading : Reading {ℓ}) where
  open reading use {Doing, ret, ◌>>=◌, asks, recalls, keeps, raises, spent}

  infixl 10 ◌>>=◌
  abbrev pub first_symbol : Held → Doing (Option ℕ)
  first_symbol Nothing = asks
  first_symbol (Symbol s) = ret s

  abbrev pub skip_blanks : ℕ → Option ℕ → Doing (Option ℕ)
  skip_blanks zero s = spent
  skip_blanks (suc more) s = cond (is_blank s) (asks >>= λ t. skip_blanks more t) (ret s)

  -- the byte or end that is looked at is held for the next Get
  abbrev pub fails_at : {A : Type 0} → Option ℕ → Reason → Doing A
  fails_at s r = keeps (Symbol s) >>= λ _. raises r

  abbrev pub number_ends : Bool → ℕ → Option ℕ → Doing ℤ
  number_ends negative n s =
      cond (is_based s || not (is_integer (signed negative n))) (fails_at s reason.DataError) (keeps (Symbol s) >>= λ _. ret (signed negative n))

  -- the digits from one on, with single underscores between them
  abbrev pub digits : ℕ → Bool → ℕ → Option ℕ → Doing ℤ
  digits zero negative n s = spent
  digits (suc more) negative n s = do
    let m = n * 10 + digit_of s
    t ← asks
    cond (is_digit t) (digits more negative m t)
        (cond (is_byte 95 t) (asks >>= λ u. cond (is_digit u) (digits more negative m u) (fails_at u reason.DataError))
        (number_ends negative m t))

  abbrev pub number_from : ℕ → Bool → Option ℕ → Doing ℤ
  number_from more negative s = cond (is_digit s) (digits more negative 0 s) (fails_at s reason.DataError)

  abbrev pub unsigned_number : ℕ → Option ℕ → Doing ℤ
  unsigned_number more None = fails_at None reason.EndError
  unsigned_number more (Some b) = number_from more false (Some b)

  abbrev pub number_read : ℕ → Option ℕ → Doing ℤ
  number_read more s =
      cond (is_byte 45 s) (asks >>= λ t. number_from more true t)
      (cond (is_byte 43 s) (asks >>= λ t. number_from more false t)
      (unsigned_number more s))

  -- a whole Get, where so many turns may be taken in all
  abbrev pub got : ℕ → Doing ℤ
  got limit = do
    h ← recalls
    s ← first_symbol h
    t ← skip_blanks (suc limit) s
    number_read (suc limit) t
