-- Numeric literals are read as they are spelled.
use Rattle.std.proofs.Common.{◌≡◌, ℕ, ◌*◌, ◌^◌, ◌≤◌, Bool, true, false, cond, ◌&&◌, ◌==◌, nat_le, List, [], ◌∷◌, ◌++◌, length, Option, Some, None, refl, sym, ap, ◌∙◌, subst, arith, length-append, lit≤}
use Rattle.std.proofs.lemmas.Bool.{eqb-true, and_parts, leb-true, and_from, le-leb, le-ltb, or_from, true≢false}
use Rattle.ada_base.specs.declared.token.Kind.TheVariants.{Real}
use Rattle.syntax_lexer.specs.declared.found.Found.{Found}
use Rattle.syntax_lexer.specs.declared.found.Found.TheVariants.{Other}
use Rattle.syntax_tree.specs.Numbers.{IsNumeral, IsExponent, is_digit_or_underscore, value_of}
use Rattle.syntax_tree.specs.Numbers.IsExponent.{NoExponent, Exponent}
use Rattle.syntax_lexer.proofs.Numerals.{some_pair, continues_parts, exponent_letter, goes_on, continues, numeral_found, numeral_read, numeral_longest, exponent_found, exponent_read, exponent_longest}
use Rattle.syntax_lexer.proofs.Values.{scaled-limited}
use Rattle.syntax_lexer.specs.Reading.{limited, numeral_at, exponent_at, scaled, with_power, as_real, scaled_at, beyond_one, based_at, real_at, ◌>>=◌}

pub record ReadsScaled (base n : ℕ) (found : Found) (cs rest : List ℕ) : Type 0 where
  pub tail : List ℕ
  pub size : ℕ
  pub parts : cs ≡ tail ++ rest
  pub exponent : IsExponent false tail size
  pub found_is : found ≡ Found.Number (limited (n * base ^ size))

module _ (base n : ℕ) (two : 2 ≤ base) where
  pub scaled_found : (cs : List ℕ) (found : Found) (rest : List ℕ) → scaled_at base (limited n) cs ≡ Some (found, rest) → ReadsScaled base n found cs rest
  unfolding scaled_at
  scaled_found cs found rest h = go (exponent_at false cs) refl h where
    go : (x : Option (ℕ × List ℕ)) → exponent_at false cs ≡ x → (x >>= with_power base (limited n)) ≡ Some (found, rest) → ReadsScaled base n found cs rest
    go None e h = cc
    go (Some (v, r)) e h =
        let p = some_pair h in
        let x = exponent_found false cs v r e in
        record {
          tail = x.tail;
          size = x.size;
          parts = x.parts ∙ ap (λ s. x.tail ++ s) p.1;
          exponent = x.exponent;
          found_is = sym p.0 ∙ ap Found.Number (ap (scaled base (limited n)) x.value_is ∙ scaled-limited base n x.size two);
        }

  pub scaled_read : {tail : List ℕ} {size : ℕ} (rest : List ℕ) → IsExponent false tail size → goes_on continues rest ≡ false → scaled_at base (limited n) (tail ++ rest) ≡ Some (Found.Number (limited (n * base ^ size)), rest)
  unfolding scaled_at
  scaled_read {tail} {size} rest x ends = rw (exponent_read rest x ends) (ap (λ v. Some (Found.Number v, rest)) (scaled-limited base n size two))

  pub scaled_longest : {tail : List ℕ} {size : ℕ} (more : List ℕ) (found : Found) (rest : List ℕ) → IsExponent false tail size → scaled_at base (limited n) (tail ++ more) ≡ Some (found, rest) → length rest ≤ length more
  unfolding scaled_at
  scaled_longest {tail} {size} more found rest x h = go (exponent_at false (tail ++ more)) refl h where
    go : (x : Option (ℕ × List ℕ)) → exponent_at false (tail ++ more) ≡ x → (x >>= with_power base (limited n)) ≡ Some (found, rest) → length rest ≤ length more
    go None e h = cc
    go (Some (v, r)) e h = let p = some_pair h in let l = exponent_longest more v r x e in omega (arith, ap length p.1)

-- a based literal after its base
pub record ReadsBased (base : ℕ) (found : Found) (cs rest : List ℕ) : Type 0 where
  pub digits : List ℕ
  pub tail : List ℕ
  pub size : ℕ
  pub parts : cs ≡ digits ++ 35 ∷ (tail ++ rest)
  pub low : 2 ≤ base
  pub high : base ≤ 16
  pub numeral : IsNumeral base digits
  pub exponent : IsExponent false tail size
  pub found_is : found ≡ Found.Number (limited (value_of base digits * base ^ size))

based_bounds : (base : ℕ) (cs : List ℕ) (x : Found × List ℕ) → based_at base cs ≡ Some x → (2 ≤ base) × (base ≤ 16)
unfolding based_at
based_bounds base cs x h = go (nat_le 2 base && nat_le base 16) refl h where
  go : (b : Bool) → (nat_le 2 base && nat_le base 16) ≡ b → cond b (numeral_at base cs >>= λ x. beyond_one 35 x.1 >>= λ rest. scaled_at base x.0 rest) None ≡ Some x → (2 ≤ base) × (base ≤ 16)
  go false test e = cc
  go true test e = let both = and_parts (nat_le 2 base) (nat_le base 16) test in (leb-true 2 base both.0, leb-true base 16 both.1)

based_test : (base : ℕ) → 2 ≤ base → base ≤ 16 → (nat_le 2 base && nat_le base 16) ≡ true
based_test base low high = and_from _ _ (le-leb 2 base low) (le-leb base 16 high)

based_scaled : (base : ℕ) (found : Found) (cs rest digits r : List ℕ) (v : ℕ) → 2 ≤ base → base ≤ 16 → cs ≡ digits ++ r → IsNumeral base digits → v ≡ limited (value_of base digits) → (beyond_one 35 r >>= λ rest. scaled_at base v rest) ≡ Some (found, rest) → ReadsBased base found cs rest
based_scaled base found cs rest digits [] v low high parts numeral value h = cc
based_scaled base found cs rest digits (c ∷ r) v low high parts numeral value h = go (c == 35) refl h where
  go : (b : Bool) → (c == 35) ≡ b → (cond b (Some r) None >>= λ rest. scaled_at base v rest) ≡ Some (found, rest) → ReadsBased base found cs rest
  go false test e = cc
  go true test e =
      let x = scaled_found base (value_of base digits) low r found rest (rw value at e) in
      record {
        digits = digits;
        tail = x.tail;
        size = x.size;
        parts = parts ∙ (ap (λ d. digits ++ d ∷ r) (eqb-true c 35 test) ∙ ap (λ s. digits ++ 35 ∷ s) x.parts);
        low = low;
        high = high;
        numeral = numeral;
        exponent = x.exponent;
        found_is = x.found_is;
      }

based_within : (base : ℕ) (cs : List ℕ) (found : Found) (rest : List ℕ) → 2 ≤ base → base ≤ 16 → based_at base cs ≡ Some (found, rest) → ReadsBased base found cs rest
unfolding based_at
based_within base cs found rest low high h = go (numeral_at base cs) refl (rw (based_test base low high) at h) where
  go : (x : Option (ℕ × List ℕ)) → numeral_at base cs ≡ x → (x >>= λ x. beyond_one 35 x.1 >>= λ rest. scaled_at base x.0 rest) ≡ Some (found, rest) → ReadsBased base found cs rest
  go None e h = cc
  go (Some (v, r)) e h =
      let n = numeral_found base (omega arith) cs v r e in
      based_scaled base found cs rest n.digits r v low high n.parts n.numeral n.value_is h

small_base : (base : ℕ) → limited base ≤ 16 → limited base ≡ base
small_base base h = omega arith

pub based_found : (base : ℕ) (cs : List ℕ) (found : Found) (rest : List ℕ) → based_at (limited base) cs ≡ Some (found, rest) → ReadsBased base found cs rest
based_found base cs found rest h =
    let bounds = based_bounds (limited base) cs (found, rest) h in
    let same = small_base base bounds.1 in
    subst (λ b. ReadsBased b found cs rest) same (based_within (limited base) cs found rest bounds.0 bounds.1 h)

-- a # is no digit of a base up to 16, and no underscore
pub hash_ends : (base : ℕ) → base ≤ 16 → is_digit_or_underscore base 35 ≡ false
hash_ends base high = or_from _ _ (le-ltb 36 base (omega arith)) refl

pub based_read : (base : ℕ) {tail : List ℕ} {size : ℕ} (digits rest : List ℕ) → 2 ≤ base → base ≤ 16 → IsNumeral base digits → IsExponent false tail size → goes_on continues rest ≡ false → based_at (limited base) (digits ++ 35 ∷ (tail ++ rest)) ≡ Some (Found.Number (limited (value_of base digits * base ^ size)), rest)
unfolding based_at
based_read base {tail} {size} digits rest low high n x ends =
    let same : limited base ≡ base = omega arith in
    rw (same, based_test base low high, numeral_read base (omega arith) digits (35 ∷ (tail ++ rest)) n (hash_ends base high)) (scaled_read base (value_of base digits) low rest x ends)

pub based_longest : (base : ℕ) {tail : List ℕ} {size : ℕ} (digits more : List ℕ) (found : Found) (rest : List ℕ) → 2 ≤ base → base ≤ 16 → IsNumeral base digits → IsExponent false tail size → based_at (limited base) (digits ++ 35 ∷ (tail ++ more)) ≡ Some (found, rest) → length rest ≤ length more
unfolding based_at
based_longest base {tail} {size} digits more found rest low high n x h =
    let same : limited base ≡ base = omega arith in
    scaled_longest base (value_of base digits) low more found rest x (rw (same, based_test base low high, numeral_read base (omega arith) digits (35 ∷ (tail ++ more)) n (hash_ends base high)) at h)

digit_any : IsNumeral 10 [] → ⊥
digit_any n = true≢false (sym n.first)

-- a real literal after its point
pub record ReadsReal (found : Found) (cs rest : List ℕ) : Type 0 where
  pub fraction : List ℕ
  pub tail : List ℕ
  pub size : ℕ
  pub parts : cs ≡ fraction ++ (tail ++ rest)
  pub numeral : IsNumeral 10 fraction
  pub exponent : IsExponent true tail size
  pub found_is : found ≡ Other Real

real_tail : (cs : List ℕ) (found : Found) (rest fraction r : List ℕ) → cs ≡ fraction ++ r → IsNumeral 10 fraction → (x : Option (ℕ × List ℕ)) → exponent_at true r ≡ x → (x >>= as_real) ≡ Some (found, rest) → ReadsReal found cs rest
real_tail cs found rest fraction r parts n None e h = cc
real_tail cs found rest fraction r parts n (Some (v, q)) e h =
    let p = some_pair h in
    let x = exponent_found true r v q e in
    record {
      fraction = fraction;
      tail = x.tail;
      size = x.size;
      parts = parts ∙ (ap (λ s. fraction ++ s) (x.parts ∙ ap (λ s. x.tail ++ s) p.1));
      numeral = n;
      exponent = x.exponent;
      found_is = sym p.0;
    }

pub real_found : (cs : List ℕ) (found : Found) (rest : List ℕ) → real_at cs ≡ Some (found, rest) → ReadsReal found cs rest
unfolding real_at
real_found cs found rest h = go (numeral_at 10 cs) refl h where
  go : (x : Option (ℕ × List ℕ)) → numeral_at 10 cs ≡ x → (x >>= λ x. exponent_at true x.1 >>= as_real) ≡ Some (found, rest) → ReadsReal found cs rest
  go None e h = cc
  go (Some (v, r)) e h =
      let n = numeral_found 10 (lit≤ tt) cs v r e in
      real_tail cs found rest n.digits r n.parts n.numeral (exponent_at true r) refl h

-- an exponent begins with no digit and no underscore
tail_ends : {minus : Bool} {tail : List ℕ} {size : ℕ} (rest : List ℕ) → IsExponent minus tail size → goes_on continues rest ≡ false → goes_on (is_digit_or_underscore 10) (tail ++ rest) ≡ false
tail_ends rest NoExponent ends = (continues_parts rest ends).0
tail_ends rest (Exponent letter sign digits h s n) ends = exponent_letter letter h

pub real_read : {tail : List ℕ} {size : ℕ} (fraction rest : List ℕ) → IsNumeral 10 fraction → IsExponent true tail size → goes_on continues rest ≡ false → real_at (fraction ++ (tail ++ rest)) ≡ Some (Other Real, rest)
unfolding real_at
real_read {tail} {size} fraction rest n x ends =
    rw (numeral_read 10 (lit≤ tt) fraction (tail ++ rest) n (tail_ends rest x ends), exponent_read rest x ends) refl

real_tail_longest : (more : List ℕ) (r rest : List ℕ) (found : Found) → length r ≤ length more → (x : Option (ℕ × List ℕ)) → exponent_at true r ≡ x → (x >>= as_real) ≡ Some (found, rest) → length rest ≤ length more
real_tail_longest more r rest found short None e h = cc
real_tail_longest more r rest found short (Some (v, q)) e h =
    let p = some_pair h in
    let x = exponent_found true r v q e in
    omega (arith, ap length x.parts, length-append x.tail q, ap length p.1)

pub real_longest : {tail : List ℕ} {size : ℕ} (fraction more : List ℕ) (found : Found) (rest : List ℕ) → IsNumeral 10 fraction → IsExponent true tail size → real_at (fraction ++ (tail ++ more)) ≡ Some (found, rest) → length rest ≤ length more
unfolding real_at
real_longest fraction more found rest n NoExponent h = go (numeral_at 10 (fraction ++ more)) refl h where
  go : (x : Option (ℕ × List ℕ)) → numeral_at 10 (fraction ++ more) ≡ x → (x >>= λ x. exponent_at true x.1 >>= as_real) ≡ Some (found, rest) → length rest ≤ length more
  go None e h = cc
  go (Some (v, r)) e h = real_tail_longest more r rest found (numeral_longest 10 (lit≤ tt) fraction more v r n e) (exponent_at true r) refl h
real_longest {tail} {size} fraction more found rest n (Exponent letter sign digits l s m) h = go (exponent_at true (tail ++ more)) refl (rw (numeral_read 10 (lit≤ tt) fraction (tail ++ more) n (exponent_letter letter l)) at h) where
  go : (x : Option (ℕ × List ℕ)) → exponent_at true (tail ++ more) ≡ x → (x >>= as_real) ≡ Some (found, rest) → length rest ≤ length more
  go None e h = cc
  go (Some (v, q)) e h = let p = some_pair h in let k = exponent_longest more v q (Exponent letter sign digits l s m) e in omega (arith, ap length p.1)
