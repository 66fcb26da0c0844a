-- Character literals are read as they are spelled, and what the first characters of tokens are.
use Rattle.std.proofs.Common.{◌≡◌, ℕ, suc, ◌<◌, ◌≤◌, Bool, true, false, cond, not, ◌&&◌, ◌||◌, ◌==◌, List, [], ◌∷◌, length, Option, Some, refl, sym, ap, ◌∙◌, arith, ⊎_elim}
use Rattle.std.specs.Char.{is_ascii_alphabetic, is_ascii_alphanumeric}
use Rattle.std.proofs.lemmas.Bool.{eqb-true, and_parts, or_cases, or_left, true≢false, le-ltb, not-true, cases_lt, false_from_ne_true, agree_below, agree_below_at}
use Rattle.unicode_ident.specs.Ident.{is_xid_start}
use Rattle.unicode_ident.proofs.IdentLemmas.{is_xid_continue-ascii, is_xid_start-ascii}
use Rattle.ada_base.specs.declared.token.Kind.{Kind}
use Rattle.ada_base.specs.declared.token.Kind.TheVariants.{Letter, Mark}
use Rattle.syntax_lexer.specs.declared.found.Found.{Found}
use Rattle.syntax_lexer.specs.declared.found.Found.TheVariants.{Other}
use Rattle.syntax_tree.specs.Characters.{is_control, is_digit, is_of_word, is_underscore}
use Rattle.syntax_tree.specs.Numbers.{is_digit_or_underscore, is_exponent_letter}
use Rattle.syntax_tree.specs.Spelling.{admits_letter}
use Rattle.syntax_lexer.proofs.MarkLaw.{tick_mark}
use Rattle.syntax_lexer.proofs.Numerals.{some_pair, continues}
use Rattle.syntax_lexer.proofs.Sound.{Sound}
use Rattle.syntax_lexer.specs.Reading.{letter_at}

digit_below : (c : ℕ) → is_digit 10 c ≡ true → c < 128
digit_below c h = ⊎_elim (λ below. below) above (cases_lt c 128) where
  above : 128 ≤ c → c < 128
  above le =
      let none = rw (le-ltb c 48 (omega arith), le-ltb c 58 (omega arith), le-ltb c 65 (omega arith), le-ltb c 91 (omega arith), le-ltb c 97 (omega arith), le-ltb c 123 (omega arith)) at h in
      absurd (true≢false (sym none))

-- a decimal digit begins no identifier
pub digit_no_letter : (c : ℕ) → is_digit 10 c ≡ true → is_xid_start c ≡ false
digit_no_letter c h =
    let below = digit_below c h in
    let test = agree_below_at (λ x. not (is_digit 10 x) || not (is_ascii_alphabetic x)) (λ x. true) 128 c refl below in
    is_xid_start-ascii c below ∙ ⊎_elim (λ no. absurd (true≢false (sym h ∙ not-true _ no))) (λ plain. not-true _ plain) (or_cases _ _ test)

-- what continues a number may stand in an identifier
continue_of_word : agree_below (λ x. not (continues x) || (is_ascii_alphanumeric x || (x == 95))) (λ x. true) 128 ≡ true
continue_of_word = refl

continues_below : (c : ℕ) → continues c ≡ true → c < 128
continues_below c h = ⊎_elim (λ d. ⊎_elim (digit_below c) (λ e. let same : c ≡ 95 = eqb-true c 95 e in omega arith) (or_cases (is_digit 10 c) (is_underscore c) d)) letter (or_cases (is_digit_or_underscore 10 c) (is_exponent_letter c) h) where
  letter : is_exponent_letter c ≡ true → c < 128
  letter e = ⊎_elim (λ f. let same : c ≡ 69 = eqb-true c 69 f in omega arith) (λ f. let same : c ≡ 101 = eqb-true c 101 f in omega arith) (or_cases (c == 69) (c == 101) e)

continues_word : (c : ℕ) → continues c ≡ true → is_of_word c ≡ true
continues_word c h =
    let below = continues_below c h in
    let test = agree_below_at (λ x. not (continues x) || (is_ascii_alphanumeric x || (x == 95))) (λ x. true) 128 c continue_of_word below in
    or_left _ _ (is_xid_continue-ascii c below ∙ ⊎_elim (λ no. absurd (true≢false (sym h ∙ not-true _ no))) (λ is. is) (or_cases _ _ test))

-- what can't follow a number doesn't continue it
pub number_ends : (c : ℕ) → is_of_word c ≡ false → continues c ≡ false
number_ends c other = false_from_ne_true _ (λ on. true≢false (sym (continues_word c on) ∙ other))

tick_sound : (before : Option Kind) (cs : List ℕ) (found : Found) (rest : List ℕ) → ◌≡◌ {A = Option (Found × List ℕ)} (Some (Other (Mark 11), cs)) (Some (found, rest)) → Sound before found (39 ∷ cs) rest
tick_sound before cs found rest h =
    let p = some_pair h in
    record { kind = Mark 11; slice = 39 ∷ []; parts = ap (λ r. 39 ∷ r) p.1; spelled = tick_mark; found_is = sym p.0 }

pub letter_found : (before : Option Kind) (cs : List ℕ) (found : Found) (rest : List ℕ) → letter_at (admits_letter before) cs ≡ Some (found, rest) → Sound before found (39 ∷ cs) rest
letter_found before [] found rest h = tick_sound before [] found rest h
letter_found before (c ∷ []) found rest h = tick_sound before (c ∷ []) found rest h
letter_found before (c ∷ d ∷ cs) found rest h = go (admits_letter before && ((d == 39) && not (is_control c))) refl h where
  go : (b : Bool) → (admits_letter before && ((d == 39) && not (is_control c))) ≡ b → cond {A = Option (Found × List ℕ)} b (Some (Other Letter, cs)) (Some (Other (Mark 11), c ∷ d ∷ cs)) ≡ Some (found, rest) → Sound before found (39 ∷ c ∷ d ∷ cs) rest
  go false test e = tick_sound before (c ∷ d ∷ cs) found rest e
  go true test e =
      let p = some_pair e in
      let admitted = and_parts (admits_letter before) _ test in
      let both = and_parts (d == 39) _ admitted.1 in
      record {
        kind = Letter;
        slice = 39 ∷ c ∷ 39 ∷ [];
        parts = ap (λ x. 39 ∷ c ∷ x ∷ cs) (eqb-true d 39 both.0) ∙ ap (λ r. 39 ∷ c ∷ 39 ∷ r) p.1;
        spelled = (admitted.0, (c, not-true _ both.1, refl));
        found_is = sym p.0;
      }

pub letter_read : (admitted : Bool) (c : ℕ) (rest : List ℕ) → admitted ≡ true → is_control c ≡ false → letter_at admitted (c ∷ 39 ∷ rest) ≡ Some (Other Letter, rest)
letter_read admitted c rest a plain = rw (a, plain) refl

-- an apostrophe alone, where no character literal begins with it
pub tick_read : (before : Option Kind) (rest : List ℕ) → ((c : ℕ) (r : List ℕ) → rest ≡ c ∷ 39 ∷ r → admits_letter before ≡ true → is_control c ≡ false → ⊥) → letter_at (admits_letter before) rest ≡ Some (Other (Mark 11), rest)
tick_read before [] none = refl
tick_read before (c ∷ []) none = refl
tick_read before (c ∷ d ∷ r) none = rw test refl where
  test : (admits_letter before && ((d == 39) && not (is_control c))) ≡ false
  test = false_from_ne_true _ (λ e. found (and_parts (admits_letter before) _ e)) where
    found : (admits_letter before ≡ true) × (((d == 39) && not (is_control c)) ≡ true) → ⊥
    found (a, both) =
        let parts = and_parts (d == 39) _ both in
        none c r (ap (λ x. c ∷ x ∷ r) (eqb-true d 39 parts.0)) a (not-true _ parts.1)

pub letter_shorter : (admitted : Bool) (cs : List ℕ) (found : Found) (rest : List ℕ) → letter_at admitted cs ≡ Some (found, rest) → length rest ≤ length cs
letter_shorter admitted [] found rest h = omega (arith, ap length (some_pair h).1)
letter_shorter admitted (c ∷ []) found rest h = omega (arith, ap length (some_pair h).1)
letter_shorter admitted (c ∷ d ∷ cs) found rest h = go (admitted && ((d == 39) && not (is_control c))) h where
  go : (b : Bool) → cond {A = Option (Found × List ℕ)} b (Some (Other Letter, cs)) (Some (Other (Mark 11), c ∷ d ∷ cs)) ≡ Some (found, rest) → length rest ≤ suc (suc (length cs))
  go true e = omega (arith, ap length (some_pair e).1)
  go false e = omega (arith, ap length (some_pair e).1)
