-- A token is found exactly where one stands.
use Rattle.std.proofs.Common.{◌≡◌, ℕ, pos, negsuc, ◌≤◌, Bool, true, false, cond, ◌||◌, ◌==◌, List, [], ◌∷◌, ◌++◌, length, Option, Some, None, slice_get, refl, sym, ap, ◌∙◌, append_assoc, arith, length-append, lit<}
use Rattle.std.proofs.lemmas.Bool.{eqb-true, or_parts, true≢false, not-true}
use Rattle.unicode_ident.specs.Ident.{is_xid_start}
use Rattle.unicode_ident.proofs.IdentLemmas.{is_xid_start-ascii}
use Rattle.ada_base.specs.declared.token.Kind.{Kind}
use Rattle.ada_base.specs.declared.token.Kind.TheVariants.{Ident, Word, Number, Text, Letter, Real, Mark, End}
use Rattle.syntax_lexer.specs.declared.found.Found.{Found}
use Rattle.syntax_lexer.specs.declared.found.Found.TheVariants.{Other}
use Rattle.syntax_tree.specs.Characters.{is_control, is_digit, is_of_word}
use Rattle.syntax_tree.specs.Numbers.{IsInteger, IsReal, IsNumeral, begins_with_digit}
use Rattle.syntax_tree.specs.Numbers.IsInteger.{Decimal, Based}
use Rattle.syntax_tree.specs.Numbers.IsReal.{RealLiteral}
use Rattle.syntax_tree.specs.Spelling.{IsSpelling, IsTokenAt, admits_letter, runs_on, can_follow}
use Rattle.syntax_tree.specs.Words.{marks}
use Rattle.syntax_lexer.proofs.IntegerLaw.{number_found, integer_longest, integer_read, real_spelled_longest, real_spelled_read}
use Rattle.syntax_lexer.proofs.LetterLaw.{digit_no_letter, number_ends, letter_found, letter_read, letter_shorter, tick_read}
use Rattle.syntax_lexer.proofs.MarkLaw.{BeginsMark, mark_found, mark_longest, mark_read, begins_mark, no_empty_mark, tick_number}
use Rattle.syntax_lexer.proofs.NameLaw.{name_found, name_longest, identifier_read, word_read}
use Rattle.syntax_lexer.proofs.Numerals.{some_pair, goes_on, continues}
use Rattle.syntax_lexer.proofs.QuotedLaw.{text_found, text_longest, text_read}
use Rattle.syntax_lexer.proofs.Sound.{found_of, Sound}
use Rattle.syntax_lexer.specs.Reading.{limited, name_at, number_at, beyond_quoted, text_or_none, letter_at, mark_at, candidate_at, kind_found, unless_run_on, token_at, ◌>>=◌}

-- which reader is asked, by the first character
module _ (admitted : Bool) (c : ℕ) (cs : List ℕ) where
  at_name : is_xid_start c ≡ true → candidate_at admitted (c ∷ cs) ≡ name_at (c ∷ cs)
  unfolding candidate_at
  at_name letter = rw letter refl

  at_number : is_digit 10 c ≡ true → candidate_at admitted (c ∷ cs) ≡ number_at (c ∷ cs)
  unfolding candidate_at
  at_number digit = rw (digit_no_letter c digit, digit) refl

  at_mark : is_xid_start c ≡ false → is_digit 10 c ≡ false → (c == 34) ≡ false → (c == 39) ≡ false → candidate_at admitted (c ∷ cs) ≡ mark_at (c ∷ cs)
  unfolding candidate_at
  at_mark letter digit quote tick = rw (letter, digit, quote, tick) refl

quote_no_letter : is_xid_start 34 ≡ false
quote_no_letter = is_xid_start-ascii 34 (lit< tt)

tick_no_letter : is_xid_start 39 ≡ false
tick_no_letter = is_xid_start-ascii 39 (lit< tt)

at_text : (admitted : Bool) (cs : List ℕ) → candidate_at admitted (34 ∷ cs) ≡ text_or_none (beyond_quoted false cs)
unfolding candidate_at
at_text admitted cs = rw quote_no_letter refl

at_tick : (admitted : Bool) (cs : List ℕ) → candidate_at admitted (39 ∷ cs) ≡ letter_at admitted cs
unfolding candidate_at
at_tick admitted cs = rw tick_no_letter refl

-- what is found is spelled so
text_sound : (before : Option Kind) (cs : List ℕ) (found : Found) (rest : List ℕ) (x : Option (List ℕ)) → beyond_quoted false cs ≡ x → text_or_none x ≡ Some (found, rest) → Sound before found (34 ∷ cs) rest
text_sound before cs found rest None e h = cc
text_sound before cs found rest (Some r) e h =
    let p = some_pair h in
    let q = text_found cs r e in
    record {
      kind = Text;
      slice = 34 ∷ (q.quoted ++ 34 ∷ []);
      parts = ap (λ s. 34 ∷ s) (q.parts ∙ (ap (λ s. q.quoted ++ 34 ∷ s) p.1 ∙ sym (append_assoc q.quoted (34 ∷ []) rest)));
      spelled = (q.quoted, q.is_quoted, refl);
      found_is = sym p.0;
    }

pub candidate_found : (before : Option Kind) (cs : List ℕ) (found : Found) (rest : List ℕ) → candidate_at (admits_letter before) cs ≡ Some (found, rest) → Sound before found cs rest
unfolding candidate_at
candidate_found before [] found rest h = let p = some_pair h in record { kind = End; slice = []; parts = p.1; spelled = refl; found_is = sym p.0 }
candidate_found before (c ∷ cs) found rest h = go (is_xid_start c) (is_digit 10 c) (c == 34) (c == 39) refl refl refl refl h where
  go : (l d q t : Bool) → is_xid_start c ≡ l → is_digit 10 c ≡ d → (c == 34) ≡ q → (c == 39) ≡ t → cond l (name_at (c ∷ cs)) (cond d (number_at (c ∷ cs)) (cond q (text_or_none (beyond_quoted false cs)) (cond t (letter_at (admits_letter before) cs) (mark_at (c ∷ cs))))) ≡ Some (found, rest) → Sound before found (c ∷ cs) rest
  go true d q t hl hd hq ht e = name_found before (c ∷ cs) found rest hl e
  go false true q t hl hd hq ht e = number_found before (c ∷ cs) found rest e
  go false false true t hl hd hq ht e = rw (eqb-true c 34 hq) (text_sound before cs found rest (beyond_quoted false cs) refl e)
  go false false false true hl hd hq ht e = rw (eqb-true c 39 ht) (letter_found before cs found rest e)
  go false false false false hl hd hq ht e = mark_found before (c ∷ cs) found rest e

pub shorter : (before : Option Kind) (cs : List ℕ) (found : Found) (rest : List ℕ) → candidate_at (admits_letter before) cs ≡ Some (found, rest) → length rest ≤ length cs
shorter before cs found rest h = let s = candidate_found before cs found rest h in omega (arith, ap length s.parts, length-append s.slice rest)

-- numeric literals begin with a digit
digit_first : (s more : List ℕ) → IsNumeral 10 s → begins_with_digit 10 (s ++ more) ≡ true
digit_first [] more n = absurd (true≢false (sym n.first))
digit_first (d ∷ s) more n = n.first

integer_first : {s : List ℕ} {v : ℕ} → IsInteger s v → begins_with_digit 10 s ≡ true
integer_first (Decimal digits tail e n x) = digit_first digits tail n
integer_first (Based base digits tail e n low high m x) = digit_first base (35 ∷ (digits ++ 35 ∷ tail)) n

real_first : {s : List ℕ} → IsReal s → begins_with_digit 10 s ≡ true
real_first (RealLiteral whole fraction tail e n m x) = digit_first whole (46 ∷ (fraction ++ tail)) n

-- no spelling that begins at the front is longer than what is found there
tick_longest : (before : Option Kind) (c : ℕ) (r : List ℕ) (found : Found) (rest : List ℕ) → admits_letter before ≡ true → is_control c ≡ false → candidate_at (admits_letter before) (39 ∷ c ∷ 39 ∷ r) ≡ Some (found, rest) → length rest ≤ length r
tick_longest before c r found rest a plain h =
    let p = some_pair (sym (letter_read (admits_letter before) c r a plain) ∙ (sym (at_tick (admits_letter before) (c ∷ 39 ∷ r)) ∙ h)) in
    omega (arith, ap length p.1)

text_or_none_same : (x : Option (List ℕ)) (found : Found) (rest : List ℕ) → text_or_none x ≡ Some (found, rest) → x ≡ Some rest
text_or_none_same None found rest h = cc
text_or_none_same (Some r) found rest h = ap Some (some_pair h).1

longest_from : (before : Option Kind) (c : ℕ) (s r : List ℕ) (found : Found) (rest : List ℕ) → candidate_at (admits_letter before) (c ∷ (s ++ r)) ≡ Some (found, rest) → (kind : Kind) → IsSpelling before kind (c ∷ s) → length rest ≤ length r
longest_from before c s r found rest h Ident (shape, ascii, folded) = name_longest (c ∷ s) r found rest shape (sym (at_name _ c (s ++ r) shape.first) ∙ h)
longest_from before c s r found rest h (Word n) (shape, at) = name_longest (c ∷ s) r found rest shape (sym (at_name _ c (s ++ r) shape.first) ∙ h)
longest_from before c s r found rest h (Number z) (v, number, e) = integer_longest r found rest number (sym (at_number _ c (s ++ r) (integer_first number)) ∙ h)
longest_from before c s r found rest h Real number = real_spelled_longest r found rest number (sym (at_number _ c (s ++ r) (real_first number)) ∙ h)
longest_from before c s r found rest h Text (quoted, q, e) =
    let whole : c ∷ (s ++ r) ≡ 34 ∷ (quoted ++ 34 ∷ r) = ap (λ t. t ++ r) e ∙ ap (λ t. 34 ∷ t) (append_assoc quoted (34 ∷ []) r) in
    let read : text_or_none (beyond_quoted false (quoted ++ 34 ∷ r)) ≡ Some (found, rest) = sym (at_text (admits_letter before) (quoted ++ 34 ∷ r)) ∙ (ap (candidate_at (admits_letter before)) (sym whole) ∙ h) in
    text_longest r rest q (text_or_none_same _ found rest read)
longest_from before c s r found rest h Letter (a, (d, plain, e)) =
    tick_longest before d r found rest a plain (ap (λ t. candidate_at (admits_letter before) (t ++ r)) (sym e) ∙ h)
longest_from before c s r found rest h (Mark n) at = go (c == 39) refl where
  first : BeginsMark c s
  first = begins_mark n c s at

  go : (t : Bool) → (c == 39) ≡ t → length rest ≤ length r
  go true tick =
      let there : c ≡ 39 = eqb-true c 39 tick in
      let none : s ≡ [] = first.alone tick in
      let read : letter_at (admits_letter before) (s ++ r) ≡ Some (found, rest) = sym (at_tick (admits_letter before) (s ++ r)) ∙ (ap (λ d. candidate_at (admits_letter before) (d ∷ (s ++ r))) (sym there) ∙ h) in
      let short = letter_shorter (admits_letter before) (s ++ r) found rest read in
      omega (arith, length-append s r, ap length none)
  go false tick = mark_longest (c ∷ (s ++ r)) found rest (sym (at_mark _ c (s ++ r) first.no_letter first.no_digit first.no_quote tick) ∙ h) n (c ∷ s) r at refl
longest_from before c s r found rest h End e = cc

pub candidate_longest : (before : Option Kind) (cs : List ℕ) (found : Found) (rest : List ℕ) → candidate_at (admits_letter before) cs ≡ Some (found, rest) → (kind : Kind) (s r : List ℕ) → cs ≡ s ++ r → IsSpelling before kind s → length rest ≤ length r
candidate_longest before cs found rest h kind [] r e spelled = let k = shorter before cs found rest h in omega (arith, ap length e)
candidate_longest before cs found rest h kind (c ∷ s) r e spelled = longest_from before c s r found rest (ap (candidate_at (admits_letter before)) (sym e) ∙ h) kind spelled

-- a token that stands there is found
follows : (kind : Kind) (rest : List ℕ) → can_follow kind rest ≡ true → goes_on (runs_on kind) rest ≡ false
follows kind [] h = refl
follows kind (c ∷ rest) h = not-true _ h

number_continues : (rest : List ℕ) → goes_on (λ c. is_of_word c || (c == 35)) rest ≡ false → (goes_on continues rest ≡ false) × (goes_on (λ c. c == 35) rest ≡ false)
number_continues [] h = (refl, refl)
number_continues (c ∷ rest) h =
    let both = or_parts (is_of_word c) (c == 35) h in
    (number_ends c both.0, both.1)

tick_from : (before : Option Kind) (n c : ℕ) (s rest : List ℕ) → IsTokenAt before (Mark n) (c ∷ s) rest → slice_get marks n ≡ Some (c ∷ s) → c ≡ 39 → s ≡ [] → candidate_at (admits_letter before) (c ∷ (s ++ rest)) ≡ Some (Other (Mark n), rest)
tick_from before n c s rest t at there none =
    let number : n ≡ 11 = tick_number n s (at ∙ ap (λ d. Some (d ∷ s)) there) in
    let whole : c ∷ (s ++ rest) ≡ 39 ∷ rest = ap (λ d. d ∷ (s ++ rest)) there ∙ ap (λ x. 39 ∷ (x ++ rest)) none in
    let alone = tick_read before rest (λ d r e a plain. absurd (longer d r e a plain (t.longest Letter (39 ∷ d ∷ 39 ∷ []) r (whole ∙ ap (λ x. 39 ∷ x) e) (a, (d, plain, refl))))) in
    ap (candidate_at (admits_letter before)) whole ∙ (at_tick (admits_letter before) rest ∙ (alone ∙ ap (λ m. Some (Other (Mark m), rest)) (sym number)))
  where
    longer : (d : ℕ) (r : List ℕ) → rest ≡ d ∷ 39 ∷ r → admits_letter before ≡ true → is_control d ≡ false → 3 ≤ length (c ∷ s) → ⊥
    longer d r e a plain h = absurd (omega (arith, ap length none))

read_from : (before : Option Kind) (c : ℕ) (s rest : List ℕ) (kind : Kind) → IsTokenAt before kind (c ∷ s) rest → IsSpelling before kind (c ∷ s) → goes_on (runs_on kind) rest ≡ false → candidate_at (admits_letter before) (c ∷ (s ++ rest)) ≡ Some (found_of kind, rest)
read_from before c s rest Ident t spelled ends = at_name _ c (s ++ rest) spelled.0.first ∙ identifier_read before (c ∷ s) rest spelled ends
read_from before c s rest (Word n) t spelled ends = at_name _ c (s ++ rest) spelled.0.first ∙ word_read before n (c ∷ s) rest spelled ends
read_from before c s rest (Number z) t (v, number, e) ends =
    let free = number_continues rest ends in
    let read = integer_read rest number free.0 free.1 (λ l r p real. t.longest Real l r p real) in
    let kind_is : found_of (Number z) ≡ Found.Number (limited v) = ap (λ x. found_of (Number x)) e in
    at_number _ c (s ++ rest) (integer_first number) ∙ (read ∙ ap (λ f. Some (f, rest)) (sym kind_is))
read_from before c s rest Real t number ends = at_number _ c (s ++ rest) (real_first number) ∙ real_spelled_read rest number (number_continues rest ends).0
read_from before c s rest Text t (quoted, q, e) ends =
    let whole : c ∷ (s ++ rest) ≡ 34 ∷ (quoted ++ 34 ∷ rest) = ap (λ x. x ++ rest) e ∙ ap (λ x. 34 ∷ x) (append_assoc quoted (34 ∷ []) rest) in
    ap (candidate_at (admits_letter before)) whole ∙ (at_text (admits_letter before) (quoted ++ 34 ∷ rest) ∙ ap text_or_none (text_read rest q ends))
read_from before c s rest Letter t (a, (d, plain, e)) ends =
    ap (λ x. candidate_at (admits_letter before) (x ++ rest)) e ∙ (at_tick (admits_letter before) (d ∷ 39 ∷ rest) ∙ letter_read (admits_letter before) d rest a plain)
read_from before c s rest (Mark n) t at ends = go (c == 39) refl where
  first : BeginsMark c s
  first = begins_mark n c s at

  go : (b : Bool) → (c == 39) ≡ b → candidate_at (admits_letter before) (c ∷ (s ++ rest)) ≡ Some (Other (Mark n), rest)
  go true tick = tick_from before n c s rest t at (eqb-true c 39 tick) (first.alone tick)
  go false tick = at_mark _ c (s ++ rest) first.no_letter first.no_digit first.no_quote tick ∙ mark_read n (c ∷ s) rest at (λ m l r other p. t.longest (Mark m) l r p other)
read_from before c s rest End t e ends = cc

only_at_end : (rest : List ℕ) → goes_on (runs_on End) rest ≡ false → rest ≡ []
only_at_end [] h = refl
only_at_end (c ∷ rest) h = cc

integer_not_empty : {s : List ℕ} {v : ℕ} → IsInteger s v → s ≡ [] → ⊥
integer_not_empty i e = true≢false (sym (integer_first i) ∙ ap (begins_with_digit 10) e)

real_not_empty : {s : List ℕ} → IsReal s → s ≡ [] → ⊥
real_not_empty i e = true≢false (sym (real_first i) ∙ ap (begins_with_digit 10) e)

read_nothing : (before : Option Kind) (rest : List ℕ) (kind : Kind) → IsSpelling before kind [] → goes_on (runs_on kind) rest ≡ false → candidate_at (admits_letter before) rest ≡ Some (found_of kind, rest)
unfolding candidate_at
read_nothing before rest Ident spelled ends = absurd (true≢false (sym spelled.0.first))
read_nothing before rest (Word n) spelled ends = absurd (true≢false (sym spelled.0.first))
read_nothing before rest (Number z) (v, number, e) ends = absurd (integer_not_empty number refl)
read_nothing before rest Real number ends = absurd (real_not_empty number refl)
read_nothing before rest Text (quoted, q, e) ends = cc
read_nothing before rest Letter (a, (d, plain, e)) ends = cc
read_nothing before rest (Mark n) at ends = absurd (no_empty_mark n at)
read_nothing before rest End e ends = rw (only_at_end rest ends) refl

candidate_read : (before : Option Kind) (kind : Kind) (slice rest : List ℕ) → IsTokenAt before kind slice rest → candidate_at (admits_letter before) (slice ++ rest) ≡ Some (found_of kind, rest)
candidate_read before kind [] rest t = read_nothing before rest kind t.spelled (follows kind rest t.ends)
candidate_read before kind (c ∷ s) rest t = read_from before c s rest kind t t.spelled (follows kind rest t.ends)

-- what may follow doesn't depend on a number's value
follow_found : (kind : Kind) (rest : List ℕ) → can_follow (kind_found (found_of kind)) rest ≡ can_follow kind rest
follow_found Ident rest = refl
follow_found (Word n) rest = refl
follow_found (Number (pos n)) [] = refl
follow_found (Number (pos n)) (c ∷ rest) = refl
follow_found (Number (negsuc n)) [] = refl
follow_found (Number (negsuc n)) (c ∷ rest) = refl
follow_found Text rest = refl
follow_found Letter rest = refl
follow_found Real rest = refl
follow_found (Mark n) rest = refl
follow_found End rest = refl

-- what is found is a token
pub record FoundToken (before : Option Kind) (found : Found) (cs rest : List ℕ) : Type 0 where
  pub kind : Kind
  pub slice : List ℕ
  pub parts : cs ≡ slice ++ rest
  pub token : IsTokenAt before kind slice rest
  pub found_is : found ≡ found_of kind

unless_same : (f : Found) (r : List ℕ) (found : Found) (rest : List ℕ) → unless_run_on (f, r) ≡ Some (found, rest) → (can_follow (kind_found f) r ≡ true) × (f ≡ found) × (r ≡ rest)
unless_same f r found rest h = go (can_follow (kind_found f) r) refl h where
  go : (b : Bool) → can_follow (kind_found f) r ≡ b → cond {A = Option (Found × List ℕ)} b (Some (f, r)) None ≡ Some (found, rest) → (can_follow (kind_found f) r ≡ true) × (f ≡ found) × (r ≡ rest)
  go true e h = let p = some_pair h in (e, p.0, p.1)
  go false e h = cc

pub token_found : (before : Option Kind) (cs : List ℕ) (found : Found) (rest : List ℕ) → token_at (admits_letter before) cs ≡ Some (found, rest) → FoundToken before found cs rest
unfolding token_at
token_found before cs found rest h = go (candidate_at (admits_letter before) cs) refl h where
  go : (x : Option (Found × List ℕ)) → candidate_at (admits_letter before) cs ≡ x → (x >>= unless_run_on) ≡ Some (found, rest) → FoundToken before found cs rest
  go None e h = cc
  go (Some (f, r)) e h =
      let u = unless_same f r found rest h in
      let read : candidate_at (admits_letter before) cs ≡ Some (found, rest) = e ∙ (ap (λ x. Some (x, r)) u.1 ∙ ap (λ x. Some (found, x)) u.2) in
      let s = candidate_found before cs found rest read in
      let ends : can_follow s.kind rest ≡ true = sym (follow_found s.kind rest) ∙ (ap (λ x. can_follow (kind_found x) rest) (sym (u.1 ∙ s.found_is)) ∙ (ap (can_follow (kind_found f)) (sym u.2) ∙ u.0)) in
      record {
        kind = s.kind;
        slice = s.slice;
        parts = s.parts;
        token = record {
          spelled = s.spelled;
          ends = ends;
          longest = λ other t more p spelled.
              let short = candidate_longest before cs found rest read other t more (s.parts ∙ p) spelled in
              omega (arith, ap length p, length-append s.slice rest, length-append t more);
        };
        found_is = s.found_is;
      }

pub token_read : (before : Option Kind) (kind : Kind) (slice rest : List ℕ) → IsTokenAt before kind slice rest → token_at (admits_letter before) (slice ++ rest) ≡ Some (found_of kind, rest)
unfolding token_at
token_read before kind slice rest t = rw (candidate_read before kind slice rest t, follow_found kind rest, t.ends) refl
