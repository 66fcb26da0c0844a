-- The characters of numeric literals, and the decimal numeral of a number.
use Rattle.std.proofs.Common.{◌≡◌, ℕ, ◌+◌, ◌*◌, ◌^◌, ◌<◌, ◌≤◌, Bool, true, false, ◌==◌, List, [], ◌∷◌, ◌++◌, length, refl, sym, ap, ◌∙◌, subst, arith, lit≤, ⊎_elim}
use Rattle.std.specs.Prelude.{decimal}
use Rattle.std.specs.List.{list_all}
use Rattle.std.specs.Char.{digit_value}
use Rattle.std.specs.Str.Parse.{digits_value_after, AllDigits}
use Rattle.std.proofs.lemmas.List.{append-nil}
use Rattle.std.proofs.lemmas.List.Folds.{list_all-append}
use Rattle.std.proofs.lemmas.Fmt.{decimal_is_IsNumeral_wide}
use Rattle.std.proofs.lemmas.Bool.{eqb-true, and_parts, and_from, or_cases, or_left, or_right, true≢false, ltb-true, lt-ltb, false_from_ne_true}
use Rattle.syntax_tree.specs.Characters.{is_digit, is_underscore}
use Rattle.syntax_tree.specs.Numbers.{IsNumeral, IsSign, IsExponent, IsInteger, IsReal, is_digit_or_underscore, is_exponent_letter, begins_with_digit, value_after, value_of}
use Rattle.syntax_tree.specs.Numbers.IsSign.{NoSign, Plus, Minus}
use Rattle.syntax_tree.specs.Numbers.IsExponent.{NoExponent, Exponent}
use Rattle.syntax_tree.specs.Numbers.IsInteger.{Decimal, Based}
use Rattle.syntax_tree.specs.Numbers.IsReal.{RealLiteral}
use Rattle.syntax_print.proofs.Breaks.{is_of_number, all_by, is_small, digit_small}
use Rattle.syntax_print.proofs.Tables.{none_between}

both : (a b : List ℕ) → list_all is_of_number a ≡ true → list_all is_of_number b ≡ true → list_all is_of_number (a ++ b) ≡ true
both a b h k = list_all-append is_of_number a b ∙ and_from _ _ h k

digit_of_number : (base c : ℕ) → base ≤ 16 → is_digit_or_underscore base c ≡ true → is_of_number c ≡ true
digit_of_number base c high h = ⊎_elim digit (λ e. or_left _ _ (or_right _ _ e)) (or_cases (is_digit base c) (is_underscore c) h) where
  digit : is_digit base c ≡ true → is_of_number c ≡ true
  digit d = let low = ltb-true (digit_value c) base d in or_left _ _ (or_left _ _ (lt-ltb (digit_value c) 16 (omega (arith, low))))

numeral_all : (base : ℕ) (s : List ℕ) → base ≤ 16 → IsNumeral base s → list_all is_of_number s ≡ true
numeral_all base s high n = all_by (is_digit_or_underscore base) is_of_number (λ c. digit_of_number base c high) s n.each

letter_all : (c : ℕ) → is_exponent_letter c ≡ true → is_of_number c ≡ true
letter_all c h = ⊎_elim (λ e. ap is_of_number (eqb-true c 69 e)) (λ e. ap is_of_number (eqb-true c 101 e)) (or_cases (c == 69) (c == 101) h)

sign_all : {minus : Bool} {s : List ℕ} → IsSign minus s → list_all is_of_number s ≡ true
sign_all NoSign = refl
sign_all Plus = refl
sign_all Minus = refl

exponent_all : {minus : Bool} {s : List ℕ} {e : ℕ} → IsExponent minus s e → list_all is_of_number s ≡ true
exponent_all NoExponent = refl
exponent_all (Exponent letter sign digits l s n) =
    and_from _ _ (letter_all letter l) (both sign digits (sign_all s) (numeral_all 10 digits (lit≤ tt) n))

pub integer_all : {s : List ℕ} {v : ℕ} → IsInteger s v → list_all is_of_number s ≡ true
integer_all (Decimal digits tail e n x) = both digits tail (numeral_all 10 digits (lit≤ tt) n) (exponent_all x)
integer_all (Based base digits tail e n low high m x) =
    both base (35 ∷ (digits ++ 35 ∷ tail)) (numeral_all 10 base (lit≤ tt) n) (both digits (35 ∷ tail) (numeral_all (value_of 10 base) digits high m) (exponent_all x))

pub real_all : {s : List ℕ} → IsReal s → list_all is_of_number s ≡ true
real_all (RealLiteral whole fraction tail e n m x) =
    both whole (46 ∷ (fraction ++ tail)) (numeral_all 10 whole (lit≤ tt) n) (both fraction tail (numeral_all 10 fraction (lit≤ tt) m) (exponent_all x))

-- an integer literal begins with a digit
digit_first : (s more : List ℕ) → IsNumeral 10 s → begins_with_digit 10 (s ++ more) ≡ true
digit_first [] more n = absurd (true≢false (sym n.first))
digit_first (d ∷ s) more n = n.first

pub integer_first : {s : List ℕ} {v : ℕ} → IsInteger s v → begins_with_digit 10 s ≡ true
integer_first (Decimal digits tail e n x) = digit_first digits tail n
integer_first (Based base digits tail e n low high m x) = digit_first base (35 ∷ (digits ++ 35 ∷ tail)) n

-- ---- decimal numerals

all_digits : (s : List ℕ) → AllDigits 10 s → list_all (is_digit 10) s ≡ true
all_digits [] h = refl
all_digits (c ∷ s) h = and_from _ _ (lt-ltb (digit_value c) 10 h.0) (all_digits s h.1)

first_digit : (s : List ℕ) → 0 < length s → list_all (is_digit 10) s ≡ true → begins_with_digit 10 s ≡ true
first_digit [] h all = absurd (omega (arith, h))
first_digit (c ∷ s) h all = (and_parts (is_digit 10 c) _ all).0

digit_plain : (c : ℕ) → is_digit 10 c ≡ true → is_underscore c ≡ false
digit_plain c h = false_from_ne_true _ (λ e. true≢false (sym h ∙ ap (is_digit 10) (eqb-true c 95 e)))

same_value : (n : ℕ) (s : List ℕ) → list_all (is_digit 10) s ≡ true → value_after 10 n s ≡ digits_value_after 10 n s
same_value n [] h = refl
same_value n (c ∷ s) h = let parts = and_parts (is_digit 10 c) _ h in rw (digit_plain c parts.0) (same_value (n * 10 + digit_value c) s parts.1)

pub record IsDecimal (n : ℕ) (s : List ℕ) : Type 0 where
  pub integer : IsInteger s n
  pub small : list_all is_small s ≡ true

as_integer : (s : List ℕ) (v : ℕ) → IsNumeral 10 s → value_of 10 s ≡ v → IsInteger s v
as_integer s v n e =
    let whole : IsInteger (s ++ []) (value_of 10 s * 10 ^ 0) = Decimal s [] 0 n NoExponent in
    let value : value_of 10 s * 10 ^ 0 ≡ v = omega (arith, e) in
    subst (λ t. IsInteger t v) (append-nil s) (subst (IsInteger (s ++ [])) value whole)

pub decimal_is : (n : ℕ) → n < 2 ^ 127 → IsDecimal n (decimal n)
decimal_is n h =
    let p = decimal_is_IsNumeral_wide n (omega arith) in
    let all = all_digits (decimal n) p.0.1 in
    let numeral : IsNumeral 10 (decimal n) = record {
      first = first_digit (decimal n) p.0.0 all;
      each = all_by (is_digit 10) (is_digit_or_underscore 10) (λ c d. or_left _ _ d) (decimal n) all;
      between = none_between (is_digit 10) digit_plain (decimal n) all;
    } in
    record {
      integer = as_integer (decimal n) n numeral (same_value 0 (decimal n) all ∙ p.1);
      small = all_by (is_digit 10) is_small digit_small (decimal n) all;
    }
