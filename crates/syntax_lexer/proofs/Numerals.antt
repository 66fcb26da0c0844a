-- Numerals and exponents are read as they are spelled.
use Rattle.std.proofs.Common.{◌≡◌, ℕ, suc, ◌≤◌, Bool, true, false, cond, ◌&&◌, ◌||◌, ◌==◌, List, [], ◌∷◌, ◌++◌, length, Option, Some, None, refl, sym, ap, ◌∙◌, append_assoc, arith, length-append, lit≤, ⊎_elim}
use Rattle.std.specs.List.{list_all}
use Rattle.std.proofs.lemmas.Bool.{eqb-true, and_parts, or_parts, or_cases, and_right, false_from_ne_true, true≢false}
use Rattle.syntax_tree.specs.Characters.{is_digit}
use Rattle.syntax_tree.specs.Numbers.{IsNumeral, IsSign, IsExponent, is_digit_or_underscore, begins_with_digit, underscores_between, value_of, is_exponent_letter}
use Rattle.syntax_tree.specs.Numbers.IsSign.{NoSign, Plus, Minus}
use Rattle.syntax_tree.specs.Numbers.IsExponent.{NoExponent, Exponent}
use Rattle.std.proofs.lemmas.List.{append-nil}
use Rattle.syntax_lexer.proofs.Values.{number_of}
use Rattle.syntax_lexer.specs.Reading.{run, beyond, limited, number_after, numeral_at, beyond_sign, exponent_at}

-- the first character passes
abbrev pub goes_on : (ℕ → Bool) → List ℕ → Bool
goes_on p [] = false
goes_on p (c ∷ cs) = p c

pub run-beyond : (p : ℕ → Bool) (cs : List ℕ) → cs ≡ run p cs ++ beyond p cs
run-beyond p [] = refl
run-beyond p (c ∷ cs) = go (p c) (run-beyond p cs) where
  go : (b : Bool) → cs ≡ run p cs ++ beyond p cs → c ∷ cs ≡ cond b (c ∷ run p cs) [] ++ cond b (beyond p cs) (c ∷ cs)
  go true h = ap (λ r. c ∷ r) h
  go false h = refl

pub run_all : (p : ℕ → Bool) (cs : List ℕ) → list_all p (run p cs) ≡ true
run_all p [] = refl
run_all p (c ∷ cs) = go (p c) refl (run_all p cs) where
  go : (b : Bool) → p c ≡ b → list_all p (run p cs) ≡ true → list_all p (cond b (c ∷ run p cs) []) ≡ true
  go true e h = rw e h
  go false e h = refl

pub beyond_stops : (p : ℕ → Bool) (cs : List ℕ) → goes_on p (beyond p cs) ≡ false
beyond_stops p [] = refl
beyond_stops p (c ∷ cs) = go (p c) refl (beyond_stops p cs) where
  go : (b : Bool) → p c ≡ b → goes_on p (beyond p cs) ≡ false → goes_on p (cond b (beyond p cs) (c ∷ cs)) ≡ false
  go true e h = h
  go false e h = e

pub beyond_after : (p : ℕ → Bool) (s r : List ℕ) → list_all p s ≡ true → beyond p (s ++ r) ≡ beyond p r
beyond_after p [] r h = refl
beyond_after p (c ∷ s) r h = let both = and_parts (p c) _ h in rw both.0 (beyond_after p s r both.1)

pub run_after : (p : ℕ → Bool) (s r : List ℕ) → list_all p s ≡ true → run p (s ++ r) ≡ s ++ run p r
run_after p [] r h = refl
run_after p (c ∷ s) r h = let both = and_parts (p c) _ h in rw both.0 (ap (λ x. c ∷ x) (run_after p s r both.1))

pub beyond_stop_here : (p : ℕ → Bool) (r : List ℕ) → goes_on p r ≡ false → beyond p r ≡ r
beyond_stop_here p [] h = refl
beyond_stop_here p (c ∷ r) h = rw h refl

pub run_stop_here : (p : ℕ → Bool) (r : List ℕ) → goes_on p r ≡ false → run p r ≡ []
run_stop_here p [] h = refl
run_stop_here p (c ∷ r) h = rw h refl

pub length_beyond : (p : ℕ → Bool) (cs : List ℕ) → length (beyond p cs) ≤ length cs
length_beyond p [] = omega arith
length_beyond p (c ∷ cs) = go (p c) (length_beyond p cs) where
  go : (b : Bool) → length (beyond p cs) ≤ length cs → length (cond b (beyond p cs) (c ∷ cs)) ≤ suc (length cs)
  go true h = omega arith
  go false h = omega arith

pub some_pair : {A B : Type 0} {a c : A} {b d : B} → ◌≡◌ {A = Option (A × B)} (Some (a, b)) (Some (c, d)) → (a ≡ c) × (b ≡ d)
some_pair {A} {B} {a} {c} {b} {d} h = let p : ◌≡◌ {A = A × B} (a, b) (c, d) = cc in (ap (λ x. x.0) p, ap (λ x. x.1) p)

-- what is read as a numeral in a base is spelled so, as far as digits and underscores go
pub record ReadsNumeral (base value : ℕ) (cs rest : List ℕ) : Type 0 where
  pub digits : List ℕ
  pub parts : cs ≡ digits ++ rest
  pub numeral : IsNumeral base digits
  pub value_is : value ≡ limited (value_of base digits)
  pub rest_is : beyond (is_digit_or_underscore base) cs ≡ rest

module _ (base : ℕ) (one : 1 ≤ base) where
  pub numeral_found : (cs : List ℕ) (value : ℕ) (rest : List ℕ) → numeral_at base cs ≡ Some (value, rest) → ReadsNumeral base value cs rest
  unfolding numeral_at
  numeral_found cs value rest h = go (begins_with_digit base digits && underscores_between digits) refl h where
    digits : List ℕ
    digits = run (is_digit_or_underscore base) cs

    go : (b : Bool) → (begins_with_digit base digits && underscores_between digits) ≡ b → cond {A = Option (ℕ × List ℕ)} b (Some (number_after base 0 digits, beyond (is_digit_or_underscore base) cs)) None ≡ Some (value, rest) → ReadsNumeral base value cs rest
    go true test e =
        let both = and_parts (begins_with_digit base digits) (underscores_between digits) test in
        let p = some_pair e in
        let tail = p.1 in
        record {
          digits = digits;
          parts = run-beyond _ cs ∙ ap (λ r. digits ++ r) tail;
          numeral = record { first = both.0; each = run_all _ cs; between = both.1 };
          value_is = sym p.0 ∙ number_of base digits one;
          rest_is = tail;
        }
    go false test e = cc

  -- a numeral that is spelled is read, if no digit or underscore follows it
  pub numeral_read : (digits rest : List ℕ) → IsNumeral base digits → goes_on (is_digit_or_underscore base) rest ≡ false → numeral_at base (digits ++ rest) ≡ Some (limited (value_of base digits), rest)
  unfolding numeral_at
  numeral_read digits rest h ends =
      let front : run (is_digit_or_underscore base) (digits ++ rest) ≡ digits = run_after _ digits rest h.each ∙ (ap (λ r. digits ++ r) (run_stop_here _ rest ends) ∙ append-nil digits) in
      let tail : beyond (is_digit_or_underscore base) (digits ++ rest) ≡ rest = beyond_after _ digits rest h.each ∙ beyond_stop_here _ rest ends in
      rw (front, tail, h.first, h.between) (ap (λ v. Some (v, rest)) (number_of base digits one))

  -- what is read where a numeral begins ends no earlier than it
  pub numeral_longest : (digits more : List ℕ) (value : ℕ) (rest : List ℕ) → IsNumeral base digits → numeral_at base (digits ++ more) ≡ Some (value, rest) → length rest ≤ length more
  numeral_longest digits more value rest h found =
      let tail = (numeral_found (digits ++ more) value rest found).rest_is in
      let same : rest ≡ beyond (is_digit_or_underscore base) more = sym tail ∙ beyond_after _ digits more h.each in
      rw same (length_beyond (is_digit_or_underscore base) more)

pub record ReadsExponent (minus : Bool) (value : ℕ) (cs rest : List ℕ) : Type 0 where
  pub tail : List ℕ
  pub size : ℕ
  pub parts : cs ≡ tail ++ rest
  pub exponent : IsExponent minus tail size
  pub value_is : value ≡ limited size

-- a sign, or none, and what follows it
sign_of : (minus : Bool) (cs : List ℕ) → (sign : List ℕ) × IsSign minus sign × (cs ≡ sign ++ beyond_sign minus cs)
sign_of minus [] = ([], NoSign, refl)
sign_of minus (c ∷ cs) = go minus (c == 43) (c == 45) refl refl where
  go : (m p q : Bool) → (c == 43) ≡ p → (c == 45) ≡ q → (sign : List ℕ) × IsSign m sign × (c ∷ cs ≡ sign ++ cond (p || (m && q)) cs (c ∷ cs))
  go m true q hp hq = (43 ∷ [], Plus, ap (λ d. d ∷ cs) (eqb-true c 43 hp))
  go true false true hp hq = (45 ∷ [], Minus, ap (λ d. d ∷ cs) (eqb-true c 45 hq))
  go true false false hp hq = ([], NoSign, refl)
  go false false q hp hq = ([], NoSign, refl)

no_exponent : (minus : Bool) (cs : List ℕ) (value : ℕ) (rest : List ℕ) → ◌≡◌ {A = Option (ℕ × List ℕ)} (Some (0, cs)) (Some (value, rest)) → ReadsExponent minus value cs rest
no_exponent minus cs value rest h =
    let p = some_pair h in
    record { tail = []; size = 0; parts = p.1; exponent = NoExponent; value_is = sym p.0 }

pub exponent_found : (minus : Bool) (cs : List ℕ) (value : ℕ) (rest : List ℕ) → exponent_at minus cs ≡ Some (value, rest) → ReadsExponent minus value cs rest
unfolding exponent_at
exponent_found minus [] value rest h = no_exponent minus [] value rest h
exponent_found minus (c ∷ cs) value rest h = go (is_exponent_letter c) refl h where
  go : (b : Bool) → is_exponent_letter c ≡ b → cond {A = Option (ℕ × List ℕ)} b (numeral_at 10 (beyond_sign minus cs)) (Some (0, c ∷ cs)) ≡ Some (value, rest) → ReadsExponent minus value (c ∷ cs) rest
  go false letter e = no_exponent minus (c ∷ cs) value rest e
  go true letter e =
      let n = numeral_found 10 (lit≤ tt) (beyond_sign minus cs) value rest e in
      let s = sign_of minus cs in
      record {
        tail = c ∷ (s.0 ++ n.digits);
        size = value_of 10 n.digits;
        parts = ap (λ r. c ∷ r) (s.2 ∙ (ap (λ r. s.0 ++ r) n.parts ∙ sym (append_assoc s.0 n.digits rest)));
        exponent = Exponent c s.0 n.digits letter s.1 n.numeral;
        value_is = n.value_is;
      }

-- a sign is skipped where a digit follows it
pub beyond_sign_digits : {minus : Bool} {sign : List ℕ} (digits rest : List ℕ) → IsSign minus sign → begins_with_digit 10 digits ≡ true → beyond_sign minus (sign ++ (digits ++ rest)) ≡ digits ++ rest
beyond_sign_digits digits rest Plus h = refl
beyond_sign_digits digits rest Minus h = refl
beyond_sign_digits {minus} [] rest NoSign h = cc
beyond_sign_digits {minus} (d ∷ digits) rest NoSign h =
    let plus : (d == 43) ≡ false = false_from_ne_true _ (λ e. true≢false (sym h ∙ ap (is_digit 10) (eqb-true d 43 e))) in
    let hyphen : (d == 45) ≡ false = false_from_ne_true _ (λ e. true≢false (sym h ∙ ap (is_digit 10) (eqb-true d 45 e))) in
    rw (plus, hyphen, and_right minus false refl) refl

-- what can't follow an exponent, or a numeral in its place
abbrev pub continues : ℕ → Bool
continues c = is_digit_or_underscore 10 c || is_exponent_letter c

pub continues_parts : (rest : List ℕ) → goes_on continues rest ≡ false → (goes_on (is_digit_or_underscore 10) rest ≡ false) × (goes_on is_exponent_letter rest ≡ false)
continues_parts [] h = (refl, refl)
continues_parts (c ∷ rest) h = or_parts (is_digit_or_underscore 10 c) (is_exponent_letter c) h

pub exponent_read : {minus : Bool} {tail : List ℕ} {size : ℕ} (rest : List ℕ) → IsExponent minus tail size → goes_on continues rest ≡ false → exponent_at minus (tail ++ rest) ≡ Some (limited size, rest)
unfolding exponent_at
exponent_read [] NoExponent ends = refl
exponent_read (c ∷ rest) NoExponent ends = rw (continues_parts (c ∷ rest) ends).1 refl
exponent_read {minus} rest (Exponent letter sign digits h s n) ends =
    rw (h, append_assoc sign digits rest, beyond_sign_digits digits rest s n.first) (numeral_read 10 (lit≤ tt) digits rest n (continues_parts rest ends).0)

pub exponent_longest : {minus : Bool} {tail : List ℕ} {size : ℕ} (more : List ℕ) (value : ℕ) (rest : List ℕ) → IsExponent minus tail size → exponent_at minus (tail ++ more) ≡ Some (value, rest) → length rest ≤ length more
unfolding exponent_at
exponent_longest {minus} more value rest NoExponent found =
    let e = exponent_found minus more value rest found in
    omega (arith, ap length e.parts, length-append e.tail rest)
exponent_longest {minus} more value rest (Exponent letter sign digits h s n) found =
    numeral_longest 10 (lit≤ tt) digits more value rest n (rw (h, append_assoc sign digits more, beyond_sign_digits digits more s n.first) at found)

-- the letter of an exponent is no decimal digit and no underscore
pub exponent_letter : (c : ℕ) → is_exponent_letter c ≡ true → is_digit_or_underscore 10 c ≡ false
exponent_letter c h = ⊎_elim (λ e. rw (eqb-true c 69 e) refl) (λ e. rw (eqb-true c 101 e) refl) (or_cases (c == 69) (c == 101) h)
