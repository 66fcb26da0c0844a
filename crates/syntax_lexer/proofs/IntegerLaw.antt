-- A number at the front is found as it is spelled.
use Rattle.std.proofs.Common.{◌≡◌, ℕ, pos, suc, ◌*◌, ◌^◌, ◌≤◌, Bool, true, false, cond, ◌&&◌, ◌==◌, List, [], ◌∷◌, ◌++◌, length, Option, Some, None, refl, sym, ap, ◌∙◌, subst, append_assoc, arith, length-append, lit≤, ⊎_elim}
use Rattle.std.proofs.lemmas.List.{append-nil}
use Rattle.std.proofs.lemmas.Bool.{eqb-true, and_parts, or_cases, and_right, true≢false, false_from_ne_true}
use Rattle.ada_base.specs.declared.token.Kind.{Kind}
use Rattle.ada_base.specs.declared.token.Kind.TheVariants.{Number, Real}
use Rattle.syntax_lexer.specs.declared.found.Found.{Found}
use Rattle.syntax_lexer.specs.declared.found.Found.TheVariants.{Other}
use Rattle.syntax_tree.specs.Numbers.{IsNumeral, IsExponent, IsInteger, IsReal, is_exponent_letter, begins_with_digit, value_of}
use Rattle.syntax_tree.specs.Numbers.IsExponent.{NoExponent, Exponent}
use Rattle.syntax_tree.specs.Numbers.IsInteger.{Decimal, Based}
use Rattle.syntax_tree.specs.Numbers.IsReal.{RealLiteral}
use Rattle.syntax_tree.specs.Characters.{is_digit}
use Rattle.syntax_lexer.proofs.NumberLaw.{scaled_found, scaled_read, scaled_longest, based_found, based_read, based_longest, real_found, real_read, real_longest}
use Rattle.syntax_lexer.proofs.Numerals.{goes_on, continues, continues_parts, exponent_letter, numeral_found, numeral_read, numeral_longest}
use Rattle.syntax_lexer.proofs.Sound.{Sound}
use Rattle.syntax_lexer.specs.Reading.{limited, numeral_at, scaled_at, based_at, real_at, after_numeral, number_at, ◌>>=◌}

-- regrouping of what has a character in the middle, by what follows
regroup_two : (a : List ℕ) (c : ℕ) (b r : List ℕ) → (a ++ c ∷ b) ++ r ≡ a ++ c ∷ (b ++ r)
regroup_two a c b r = append_assoc a (c ∷ b) r

regroup_based : (a b t r : List ℕ) → (a ++ 35 ∷ (b ++ 35 ∷ t)) ++ r ≡ a ++ 35 ∷ (b ++ 35 ∷ (t ++ r))
regroup_based a b t r = append_assoc a (35 ∷ (b ++ 35 ∷ t)) r ∙ ap (λ s. a ++ 35 ∷ s) (append_assoc b (35 ∷ t) r)

regroup_real : (a b t r : List ℕ) → (a ++ 46 ∷ (b ++ t)) ++ r ≡ a ++ 46 ∷ (b ++ (t ++ r))
regroup_real a b t r = append_assoc a (46 ∷ (b ++ t)) r ∙ ap (λ s. a ++ 46 ∷ s) (append_assoc b t r)

module _ (before : Option Kind) (found : Found) (digits rest : List ℕ) (n : IsNumeral 10 digits) where
  decimal : (r : List ℕ) → scaled_at 10 (limited (value_of 10 digits)) r ≡ Some (found, rest) → Sound before found (digits ++ r) rest
  decimal r h =
      let x = scaled_found 10 (value_of 10 digits) (lit≤ tt) r found rest h in
      record {
        kind = Number (pos (value_of 10 digits * 10 ^ x.size));
        slice = digits ++ x.tail;
        parts = ap (λ s. digits ++ s) x.parts ∙ sym (append_assoc digits x.tail rest);
        spelled = (value_of 10 digits * 10 ^ x.size, Decimal digits x.tail x.size n x.exponent, refl);
        found_is = x.found_is;
      }

  based : (r : List ℕ) → based_at (limited (value_of 10 digits)) r ≡ Some (found, rest) → Sound before found (digits ++ 35 ∷ r) rest
  based r h =
      let x = based_found (value_of 10 digits) r found rest h in
      record {
        kind = Number (pos (value_of (value_of 10 digits) x.digits * value_of 10 digits ^ x.size));
        slice = digits ++ 35 ∷ (x.digits ++ 35 ∷ x.tail);
        parts = ap (λ s. digits ++ 35 ∷ s) x.parts ∙ sym (regroup_based digits x.digits x.tail rest);
        spelled = (value_of (value_of 10 digits) x.digits * value_of 10 digits ^ x.size, Based digits x.digits x.tail x.size n x.low x.high x.numeral x.exponent, refl);
        found_is = x.found_is;
      }

  real : (r : List ℕ) → real_at r ≡ Some (found, rest) → Sound before found (digits ++ 46 ∷ r) rest
  real r h =
      let x = real_found r found rest h in
      record {
        kind = Real;
        slice = digits ++ 46 ∷ (x.fraction ++ x.tail);
        parts = ap (λ s. digits ++ 46 ∷ s) x.parts ∙ sym (regroup_real digits x.fraction x.tail rest);
        spelled = RealLiteral digits x.fraction x.tail x.size n x.numeral x.exponent;
        found_is = x.found_is;
      }

  after_found : (r : List ℕ) → after_numeral (limited (value_of 10 digits)) r ≡ Some (found, rest) → Sound before found (digits ++ r) rest
  unfolding after_numeral
  after_found [] h = decimal [] h
  after_found (c ∷ r) h = go (c == 35) ((c == 46) && begins_with_digit 10 r) refl refl h where
    go : (p q : Bool) → (c == 35) ≡ p → ((c == 46) && begins_with_digit 10 r) ≡ q → cond p (based_at (limited (value_of 10 digits)) r) (cond q (real_at r) (scaled_at 10 (limited (value_of 10 digits)) (c ∷ r))) ≡ Some (found, rest) → Sound before found (digits ++ c ∷ r) rest
    go true q hp hq e = rw (eqb-true c 35 hp) (based r e)
    go false true hp hq e = rw (eqb-true c 46 (and_parts (c == 46) _ hq).0) (real r e)
    go false false hp hq e = decimal (c ∷ r) e

pub number_found : (before : Option Kind) (cs : List ℕ) (found : Found) (rest : List ℕ) → number_at cs ≡ Some (found, rest) → Sound before found cs rest
unfolding number_at
number_found before cs found rest h = go (numeral_at 10 cs) refl h where
  go : (x : Option (ℕ × List ℕ)) → numeral_at 10 cs ≡ x → (x >>= λ x. after_numeral x.0 x.1) ≡ Some (found, rest) → Sound before found cs rest
  go None e h = cc
  go (Some (v, r)) e h =
      let n = numeral_found 10 (lit≤ tt) cs v r e in
      subst (λ s. Sound before found s rest) (sym n.parts) (after_found before found n.digits rest n.numeral r (rw n.value_is at h))

-- what follows what is read is no longer than what it was read from
scaled_shorter : (n : ℕ) (r : List ℕ) (found : Found) (rest : List ℕ) → scaled_at 10 (limited n) r ≡ Some (found, rest) → length rest ≤ length r
scaled_shorter n r found rest h = let x = scaled_found 10 n (lit≤ tt) r found rest h in omega (arith, ap length x.parts, length-append x.tail rest)

based_shorter : (n : ℕ) (r : List ℕ) (found : Found) (rest : List ℕ) → based_at (limited n) r ≡ Some (found, rest) → length rest ≤ length r
based_shorter n r found rest h =
    let x = based_found n r found rest h in
    omega (arith, ap length x.parts, length-append x.digits (35 ∷ (x.tail ++ rest)), length-append x.tail rest)

real_shorter : (r : List ℕ) (found : Found) (rest : List ℕ) → real_at r ≡ Some (found, rest) → length rest ≤ length r
real_shorter r found rest h =
    let x = real_found r found rest h in
    omega (arith, ap length x.parts, length-append x.fraction (x.tail ++ rest), length-append x.tail rest)

after_shorter : (n : ℕ) (r : List ℕ) (found : Found) (rest : List ℕ) → after_numeral (limited n) r ≡ Some (found, rest) → length rest ≤ length r
unfolding after_numeral
after_shorter n [] found rest h = scaled_shorter n [] found rest h
after_shorter n (c ∷ r) found rest h = go (c == 35) ((c == 46) && begins_with_digit 10 r) h where
  go : (p q : Bool) → cond p (based_at (limited n) r) (cond q (real_at r) (scaled_at 10 (limited n) (c ∷ r))) ≡ Some (found, rest) → length rest ≤ suc (length r)
  go true q e = let k = based_shorter n r found rest e in omega arith
  go false true e = let k = real_shorter r found rest e in omega arith
  go false false e = scaled_shorter n (c ∷ r) found rest e

-- the letter of an exponent is neither # nor a point
letter_apart : (c : ℕ) → is_exponent_letter c ≡ true → ((c == 35) ≡ false) × ((c == 46) ≡ false)
letter_apart c h = ⊎_elim (λ e. rw (eqb-true c 69 e) (refl, refl)) (λ e. rw (eqb-true c 101 e) (refl, refl)) (or_cases (c == 69) (c == 101) h)

decimal_longest : (digits more : List ℕ) (found : Found) (rest : List ℕ) → IsNumeral 10 digits → number_at (digits ++ more) ≡ Some (found, rest) → length rest ≤ length more
unfolding number_at
decimal_longest digits more found rest n h = go (numeral_at 10 (digits ++ more)) refl h where
  go : (x : Option (ℕ × List ℕ)) → numeral_at 10 (digits ++ more) ≡ x → (x >>= λ x. after_numeral x.0 x.1) ≡ Some (found, rest) → length rest ≤ length more
  go None e h = cc
  go (Some (v, r)) e h =
      let m = numeral_found 10 (lit≤ tt) (digits ++ more) v r e in
      let k = numeral_longest 10 (lit≤ tt) digits more v r n e in
      let l = after_shorter (value_of 10 m.digits) r found rest (rw m.value_is at h) in
      omega arith

pub integer_longest : {s : List ℕ} {v : ℕ} (more : List ℕ) (found : Found) (rest : List ℕ) → IsInteger s v → number_at (s ++ more) ≡ Some (found, rest) → length rest ≤ length more
unfolding number_at after_numeral
integer_longest more found rest (Decimal digits tail e n NoExponent) h =
    decimal_longest digits more found rest n (rw append-nil at h)
integer_longest more found rest (Decimal digits tail e n (Exponent letter sign ds l s m)) h =
    let apart = letter_apart letter l in
    let x : IsExponent false (letter ∷ (sign ++ ds)) (value_of 10 ds) = Exponent letter sign ds l s m in
    scaled_longest 10 (value_of 10 digits) (lit≤ tt) more found rest x
    (rw (append_assoc digits (letter ∷ (sign ++ ds)) more, numeral_read 10 (lit≤ tt) digits ((letter ∷ (sign ++ ds)) ++ more) n (exponent_letter letter l), apart.0, apart.1) at h)
integer_longest more found rest (Based base digits tail e n low high m x) h =
    based_longest (value_of 10 base) digits more found rest low high m x
    (rw (regroup_based base digits tail more, numeral_read 10 (lit≤ tt) base (35 ∷ (digits ++ 35 ∷ (tail ++ more))) n refl) at h)

digit_first : (digits more : List ℕ) → IsNumeral 10 digits → begins_with_digit 10 (digits ++ more) ≡ true
digit_first [] more n = absurd (true≢false (sym n.first))
digit_first (d ∷ digits) more n = n.first

pub real_spelled_longest : {s : List ℕ} (more : List ℕ) (found : Found) (rest : List ℕ) → IsReal s → number_at (s ++ more) ≡ Some (found, rest) → length rest ≤ length more
unfolding number_at after_numeral
real_spelled_longest more found rest (RealLiteral whole fraction tail e n m x) h =
    real_longest fraction more found rest m x
    (rw (regroup_real whole fraction tail more, numeral_read 10 (lit≤ tt) whole (46 ∷ (fraction ++ (tail ++ more))) n refl, digit_first fraction (tail ++ more) m) at h)

-- what follows is a point and a digit
abbrev pub begins_fraction : List ℕ → Bool
begins_fraction [] = false
begins_fraction (c ∷ r) = (c == 46) && begins_with_digit 10 r

decimal_ends : (digits rest : List ℕ) → IsNumeral 10 digits → goes_on continues rest ≡ false → goes_on (λ c. c == 35) rest ≡ false → begins_fraction rest ≡ false → number_at (digits ++ rest) ≡ Some (Found.Number (limited (value_of 10 digits * 10 ^ 0)), rest)
unfolding number_at after_numeral
decimal_ends digits [] n ends hash fraction =
    rw (numeral_read 10 (lit≤ tt) digits [] n refl) (scaled_read 10 (value_of 10 digits) (lit≤ tt) [] NoExponent refl)
decimal_ends digits (c ∷ r) n ends hash fraction =
    rw (numeral_read 10 (lit≤ tt) digits (c ∷ r) n (continues_parts (c ∷ r) ends).0, hash, fraction) (scaled_read 10 (value_of 10 digits) (lit≤ tt) (c ∷ r) NoExponent ends)

one_digit : (d : ℕ) → is_digit 10 d ≡ true → IsNumeral 10 (d ∷ [])
one_digit d h =
    let apart : (d == 95) ≡ false = false_from_ne_true _ (λ e. true≢false (sym h ∙ ap (is_digit 10) (eqb-true d 95 e))) in
    record { first = h; each = rw h refl; between = rw apart refl }

-- where no real literal that begins here is longer, no fraction follows a numeral
no_fraction : (digits rest : List ℕ) → IsNumeral 10 digits → ((t r : List ℕ) → digits ++ rest ≡ t ++ r → IsReal t → length t ≤ length digits) → begins_fraction rest ≡ false
no_fraction digits [] n longest = refl
no_fraction digits (c ∷ []) n longest = and_right (c == 46) false refl
no_fraction digits (c ∷ d ∷ r) n longest = false_from_ne_true _ (λ e. impossible (and_parts (c == 46) (is_digit 10 d) e)) where
  impossible : ((c == 46) ≡ true) × (is_digit 10 d ≡ true) → ⊥
  impossible (point, digit) =
      let literal : IsReal (digits ++ 46 ∷ ((d ∷ []) ++ [])) = RealLiteral digits (d ∷ []) [] 0 n (one_digit d digit) NoExponent in
      let k = longest (digits ++ 46 ∷ d ∷ []) r (ap (λ x. digits ++ x ∷ d ∷ r) (eqb-true c 46 point) ∙ sym (append_assoc digits (46 ∷ d ∷ []) r)) literal in
      absurd (omega (arith, k, length-append digits (46 ∷ d ∷ [])))

pub integer_read : {s : List ℕ} {v : ℕ} (rest : List ℕ) → IsInteger s v → goes_on continues rest ≡ false → goes_on (λ c. c == 35) rest ≡ false → ((t r : List ℕ) → s ++ rest ≡ t ++ r → IsReal t → length t ≤ length s) → number_at (s ++ rest) ≡ Some (Found.Number (limited v), rest)
unfolding number_at after_numeral
integer_read rest (Decimal digits tail e n NoExponent) ends hash longest =
    rw append-nil (decimal_ends digits rest n ends hash (no_fraction digits rest n (λ t r p k. rw (sym (append-nil digits)) (longest t r (ap (λ s. s ++ rest) (append-nil digits) ∙ p) k))))
integer_read rest (Decimal digits tail e n (Exponent letter sign ds l s m)) ends hash longest =
    let apart = letter_apart letter l in
    let x : IsExponent false (letter ∷ (sign ++ ds)) (value_of 10 ds) = Exponent letter sign ds l s m in
    rw (append_assoc digits (letter ∷ (sign ++ ds)) rest, numeral_read 10 (lit≤ tt) digits ((letter ∷ (sign ++ ds)) ++ rest) n (exponent_letter letter l), apart.0, apart.1)
    (scaled_read 10 (value_of 10 digits) (lit≤ tt) rest x ends)
integer_read rest (Based base digits tail e n low high m x) ends hash longest =
    rw (regroup_based base digits tail rest, numeral_read 10 (lit≤ tt) base (35 ∷ (digits ++ 35 ∷ (tail ++ rest))) n refl)
    (based_read (value_of 10 base) digits rest low high m x ends)

pub real_spelled_read : {s : List ℕ} (rest : List ℕ) → IsReal s → goes_on continues rest ≡ false → number_at (s ++ rest) ≡ Some (Other Real, rest)
unfolding number_at after_numeral
real_spelled_read rest (RealLiteral whole fraction tail e n m x) ends =
    rw (regroup_real whole fraction tail rest, numeral_read 10 (lit≤ tt) whole (46 ∷ (fraction ++ (tail ++ rest))) n refl, digit_first fraction (tail ++ rest) m)
    (real_read fraction rest m x ends)
