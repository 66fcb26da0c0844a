-- Numeric literals (2.4), each with its value.
use Rattle.std.specs.Prelude.{◌≡◌, ◌≤◌, ℕ, ◌+◌, ◌*◌, ◌^◌, Bool, true, false, ◌&&◌, ◌||◌, not, ◌==◌, List, [], ◌∷◌, ◌++◌, if◌then◌else◌}
use Rattle.std.specs.List.{list_all}
use Rattle.std.specs.Char.{digit_value}
use Rattle.syntax_tree.specs.Characters.{is_digit, is_underscore, number_sign, plus_sign, hyphen, point}

-- no two underscores stand in a row, and the last character isn't one
abbrev pub underscores_between : List ℕ → Bool
underscores_between [] = true
underscores_between (c ∷ []) = not (is_underscore c)
underscores_between (c ∷ d ∷ s) = not (is_underscore c && is_underscore d) && underscores_between (d ∷ s)

abbrev pub is_digit_or_underscore : ℕ → ℕ → Bool
is_digit_or_underscore base c = is_digit base c || is_underscore c

abbrev pub begins_with_digit : ℕ → List ℕ → Bool
begins_with_digit base [] = false
begins_with_digit base (c ∷ s) = is_digit base c

-- digits, with single underscores between them
pub record IsNumeral (base : ℕ) (s : List ℕ) : Type 0 where
  pub first : begins_with_digit base s ≡ true
  pub each : list_all (is_digit_or_underscore base) s ≡ true
  pub between : underscores_between s ≡ true

-- the number after further digits
abbrev pub value_after : ℕ → ℕ → List ℕ → ℕ
value_after base n [] = n
value_after base n (c ∷ s) =
    if is_underscore c then value_after base n s else value_after base (n * base + digit_value c) s

abbrev pub value_of : ℕ → List ℕ → ℕ
value_of base s = value_after base 0 s

abbrev pub is_exponent_letter : ℕ → Bool
is_exponent_letter c = (c == 69) || (c == 101)

-- the sign of an exponent: none, a plus, or, where it may be, a minus
pub data IsSign : Bool → List ℕ → Type 0 where
  NoSign : {minus : Bool} → IsSign minus []
  Plus : {minus : Bool} → IsSign minus (plus_sign ∷ [])
  Minus : IsSign true (hyphen ∷ [])

-- an exponent and its size, or none, which is 0
pub data IsExponent : Bool → List ℕ → ℕ → Type 0 where
  NoExponent : {minus : Bool} → IsExponent minus [] 0
  Exponent : {minus : Bool} → (letter : ℕ) (sign digits : List ℕ) → is_exponent_letter letter ≡ true
      → IsSign minus sign → IsNumeral 10 digits
      → IsExponent minus (letter ∷ (sign ++ digits)) (value_of 10 digits)

-- an integer literal and its value: a decimal one (2.4.1), or a based one (2.4.2), whose base is 2 to 16
pub data IsInteger : List ℕ → ℕ → Type 0 where
  Decimal : (digits tail : List ℕ) (e : ℕ) → IsNumeral 10 digits → IsExponent false tail e
      → IsInteger (digits ++ tail) (value_of 10 digits * 10 ^ e)
  Based : (base digits tail : List ℕ) (e : ℕ) → IsNumeral 10 base
      → 2 ≤ value_of 10 base → value_of 10 base ≤ 16
      → IsNumeral (value_of 10 base) digits → IsExponent false tail e
      → IsInteger
      (base ++ number_sign ∷ (digits ++ number_sign ∷ tail))
      (value_of (value_of 10 base) digits * value_of 10 base ^ e)

-- a real literal (2.4.1). A based one is left out of the language
pub data IsReal : List ℕ → Type 0 where
  RealLiteral : (whole fraction tail : List ℕ) (e : ℕ)
      → IsNumeral 10 whole → IsNumeral 10 fraction → IsExponent true tail e
      → IsReal (whole ++ point ∷ (fraction ++ tail))
