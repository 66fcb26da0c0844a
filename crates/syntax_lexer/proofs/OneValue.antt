-- A numeric literal has one value.
use Rattle.std.proofs.Common.{◌≡◌, ℕ, ◌*◌, ◌^◌, Bool, false, List, [], ◌∷◌, ◌++◌, refl, sym, ap, ◌∙◌, subst}
use Rattle.std.proofs.lemmas.List.{append-nil}
use Rattle.std.proofs.lemmas.Bool.{true≢false}
use Rattle.syntax_tree.specs.Numbers.{IsNumeral, IsSign, IsExponent, IsInteger, is_digit_or_underscore, is_exponent_letter, value_of}
use Rattle.syntax_tree.specs.Numbers.IsExponent.{NoExponent, Exponent}
use Rattle.syntax_tree.specs.Numbers.IsInteger.{Decimal, Based}
use Rattle.syntax_lexer.proofs.NumberLaw.{hash_ends}
use Rattle.syntax_lexer.proofs.Numerals.{goes_on, run_after, run_stop_here, beyond_after, beyond_stop_here, beyond_sign_digits, exponent_letter}
use Rattle.syntax_lexer.specs.Reading.{run, beyond, beyond_sign}

run_whole : (base : ℕ) (d r : List ℕ) → IsNumeral base d → goes_on (is_digit_or_underscore base) r ≡ false → run (is_digit_or_underscore base) (d ++ r) ≡ d
run_whole base d r n ends = run_after _ d r n.each ∙ (ap (λ x. d ++ x) (run_stop_here _ r ends) ∙ append-nil d)

beyond_whole : (base : ℕ) (d r : List ℕ) → IsNumeral base d → goes_on (is_digit_or_underscore base) r ≡ false → beyond (is_digit_or_underscore base) (d ++ r) ≡ r
beyond_whole base d r n ends = beyond_after _ d r n.each ∙ beyond_stop_here _ r ends

-- a numeral and what follows it are told apart in one way
one_numeral : (base : ℕ) (d e r q : List ℕ) → IsNumeral base d → IsNumeral base e → goes_on (is_digit_or_underscore base) r ≡ false → goes_on (is_digit_or_underscore base) q ≡ false → d ++ r ≡ e ++ q → (d ≡ e) × (r ≡ q)
one_numeral base d e r q n m hr hq p = (
  sym (run_whole base d r n hr) ∙ (ap (run (is_digit_or_underscore base)) p ∙ run_whole base e q m hq),
  sym (beyond_whole base d r n hr) ∙ (ap (beyond (is_digit_or_underscore base)) p ∙ beyond_whole base e q m hq),
)

tail_begins : {minus : Bool} {tail : List ℕ} {e : ℕ} → IsExponent minus tail e → goes_on (is_digit_or_underscore 10) tail ≡ false
tail_begins NoExponent = refl
tail_begins (Exponent letter sign digits h s n) = exponent_letter letter h

no_hash : {tail : List ℕ} {e : ℕ} (more : List ℕ) → IsExponent false tail e → tail ≡ 35 ∷ more → ⊥
no_hash more NoExponent p = cc
no_hash more (Exponent letter sign digits h s n) p =
    let first : letter ≡ 35 = cc in
    true≢false (sym h ∙ ap is_exponent_letter first)

digits_of : {minus : Bool} {sign : List ℕ} (digits : List ℕ) → IsSign minus sign → IsNumeral 10 digits → beyond_sign minus (sign ++ digits) ≡ digits
digits_of {minus} {sign} digits s n = ap (λ x. beyond_sign minus (sign ++ x)) (sym (append-nil digits)) ∙ (beyond_sign_digits digits [] s n.first ∙ append-nil digits)

one_exponent : {minus : Bool} {t u : List ℕ} {e f : ℕ} → IsExponent minus t e → IsExponent minus u f → t ≡ u → e ≡ f
one_exponent NoExponent NoExponent p = refl
one_exponent NoExponent (Exponent letter sign digits h s n) p = cc
one_exponent (Exponent letter sign digits h s n) NoExponent p = cc
one_exponent {minus} (Exponent letter sign digits h s n) (Exponent other mark ds h' s' m) p =
    let tails : sign ++ digits ≡ mark ++ ds = cc in
    ap (value_of 10) (sym (digits_of digits s n) ∙ (ap (beyond_sign minus) tails ∙ digits_of ds s' m))

pub one_value : {s t : List ℕ} {v w : ℕ} → IsInteger s v → IsInteger t w → s ≡ t → v ≡ w
one_value (Decimal d tail e n x) (Decimal c rest f m y) p =
    let same = one_numeral 10 d c tail rest n m (tail_begins x) (tail_begins y) p in
    ap (λ z. value_of 10 z * 10 ^ e) same.0 ∙ ap (λ z. value_of 10 c * 10 ^ z) (one_exponent x y same.1)
one_value (Decimal d tail e n x) (Based base ds rest f m low high k y) p =
    absurd (no_hash _ x (one_numeral 10 d base tail (35 ∷ (ds ++ 35 ∷ rest)) n m (tail_begins x) refl p).1)
one_value (Based base ds rest f m low high k y) (Decimal d tail e n x) p =
    absurd (no_hash _ x (sym (one_numeral 10 base d (35 ∷ (ds ++ 35 ∷ rest)) tail m n refl (tail_begins x) p).1))
one_value (Based base ds rest f m low high k y) (Based other es tail g l low' high' j z) p =
    let bases = one_numeral 10 base other (35 ∷ (ds ++ 35 ∷ rest)) (35 ∷ (es ++ 35 ∷ tail)) m l refl refl p in
    let value : value_of 10 base ≡ value_of 10 other = ap (value_of 10) bases.0 in
    let inner : ds ++ 35 ∷ rest ≡ es ++ 35 ∷ tail = (let q = bases.1 in cc) in
    let numeral : IsNumeral (value_of 10 other) ds = subst (λ b. IsNumeral b ds) value k in
    let parts = one_numeral (value_of 10 other) ds es (35 ∷ rest) (35 ∷ tail) numeral j (hash_ends (value_of 10 other) high') (hash_ends (value_of 10 other) high') inner in
    let tails : rest ≡ tail = (let q = parts.1 in cc) in
    ap (λ b. value_of b ds * b ^ f) value ∙ (ap (λ d. value_of (value_of 10 other) d * value_of 10 other ^ f) parts.0 ∙ ap (λ x. value_of (value_of 10 other) es * value_of 10 other ^ x) (one_exponent y z tails))
