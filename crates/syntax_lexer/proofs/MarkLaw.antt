-- Marks and character literals are read as they are spelled.
use Rattle.std.proofs.Common.{◌≡◌, ℕ, zero, suc, ◌+◌, ◌≤◌, Bool, true, false, cond, not, ◌&&◌, ◌||◌, ◌==◌, nat_lt, nat_le, List, [], ◌∷◌, ◌++◌, length, Option, Some, None, slice_get, refl, sym, ap, ◌∙◌, arith, length-append, add-zero, zero-add, ⊎_elim}
use Rattle.std.specs.List.{list_all}
use Rattle.std.specs.Char.{is_ascii_alphabetic}
use Rattle.std.proofs.lemmas.List.{nil_from_length}
use Rattle.std.proofs.lemmas.Bool.{eqb-true, eq-eqb, and_parts, or_cases, true≢false, leb-true, ltb-true, not-true}
use Rattle.unicode_ident.specs.Ident.{is_xid_start}
use Rattle.unicode_ident.proofs.IdentLemmas.{is_xid_start-ascii}
use Rattle.ada_base.specs.declared.token.Kind.{Kind}
use Rattle.ada_base.specs.declared.token.Kind.TheVariants.{Mark}
use Rattle.syntax_lexer.specs.declared.found.Found.{Found}
use Rattle.syntax_lexer.specs.declared.found.Found.TheVariants.{Other}
use Rattle.syntax_tree.specs.Characters.{is_digit}
use Rattle.syntax_tree.specs.Words.{marks}
use Rattle.syntax_lexer.proofs.NameLaw.{one_place, distinct}
use Rattle.syntax_lexer.proofs.Numerals.{some_pair}
use Rattle.syntax_lexer.proofs.Sound.{Sound}
use Rattle.syntax_lexer.specs.Reading.{beyond_text, mark_or, mark_from, mark_at}

some_list : {a b : List ℕ} → ◌≡◌ {A = Option (List ℕ)} (Some a) (Some b) → a ≡ b
some_list h = cc

text_found : (m cs rest : List ℕ) → beyond_text m cs ≡ Some rest → cs ≡ m ++ rest
text_found [] cs rest h = some_list h
text_found (d ∷ m) [] rest h = cc
text_found (d ∷ m) (c ∷ cs) rest h = go (d == c) refl h (text_found m cs rest) where
  go : (b : Bool) → (d == c) ≡ b → cond b (beyond_text m cs) None ≡ Some rest → (beyond_text m cs ≡ Some rest → cs ≡ m ++ rest) → c ∷ cs ≡ d ∷ (m ++ rest)
  go true same e later = let first : d ≡ c = eqb-true d c same in let others = later e in cc
  go false same e later = cc

text_read : (m rest : List ℕ) → beyond_text m (m ++ rest) ≡ Some rest
text_read [] rest = refl
text_read (d ∷ m) rest = rw (eq-eqb d d refl) (text_read m rest)

-- no text of a table is longer than one before it
unfoldable falling : List (List ℕ) → Bool
falling [] = true
falling (m ∷ ms) = list_all (λ later. nat_le (length later) (length m)) ms && falling ms

passes_at : (p : List ℕ → Bool) (ms : List (List ℕ)) (i : ℕ) (m : List ℕ) → list_all p ms ≡ true → slice_get ms i ≡ Some m → p m ≡ true
passes_at p [] i m h at = cc
passes_at p (w ∷ ms) zero m h at = rw (sym (some_list at)) (and_parts (p w) _ h).0
passes_at p (w ∷ ms) (suc i) m h at = passes_at p ms i m (and_parts (p w) _ h).1 at

record FoundMark (cs : List ℕ) (k : ℕ) (ms : List (List ℕ)) (found : Found) (rest : List ℕ) : Type 0 where
  index : ℕ
  mark : List ℕ
  here : slice_get ms index ≡ Some mark
  found_is : found ≡ Other (Mark (k + index))
  parts : cs ≡ mark ++ rest
  longest : (j : ℕ) (m r : List ℕ) → slice_get ms j ≡ Some m → cs ≡ m ++ r → length rest ≤ length r

mark_first : (cs : List ℕ) (k : ℕ) (m : List ℕ) (ms : List (List ℕ)) (found : Found) (rest : List ℕ) → list_all (λ later. nat_le (length later) (length m)) ms ≡ true → cs ≡ m ++ rest → found ≡ Other (Mark k) → FoundMark cs k (m ∷ ms) found rest
mark_first cs k m ms found rest longest parts same =
    record { index = 0; mark = m; here = refl; found_is = same ∙ ap (λ n. Other (Mark n)) (sym (add-zero k)); parts = parts; longest = others } where
      others : (j : ℕ) (l r : List ℕ) → slice_get (m ∷ ms) j ≡ Some l → cs ≡ l ++ r → length rest ≤ length r
      others zero l r at e =
          let same : length m ≡ length l = ap length (some_list at) in
          omega (arith, ap length parts, ap length e, length-append m rest, length-append l r)
      others (suc j) l r at e =
          let short : length l ≤ length m = leb-true _ _ (passes_at (λ later. nat_le (length later) (length m)) ms j l longest at) in
          omega (arith, ap length parts, ap length e, length-append m rest, length-append l r)

mark_later : (cs : List ℕ) (k : ℕ) (m : List ℕ) (ms : List (List ℕ)) (found : Found) (rest : List ℕ) → beyond_text m cs ≡ None → FoundMark cs (k + 1) ms found rest → FoundMark cs k (m ∷ ms) found rest
mark_later cs k m ms found rest none f =
    record { index = suc f.index; mark = f.mark; here = f.here; found_is = f.found_is ∙ ap (λ n. Other (Mark n)) (omega arith); parts = f.parts; longest = others } where
      others : (j : ℕ) (l r : List ℕ) → slice_get (m ∷ ms) j ≡ Some l → cs ≡ l ++ r → length rest ≤ length r
      others zero l r at e =
          let here : beyond_text m cs ≡ Some r = rw (e, sym (some_list at)) (text_read m r) in
          absurd (let no : None ≡ Some r = sym none ∙ here in cc)
      others (suc j) l r at e = f.longest j l r at e

mark_from_found : (cs : List ℕ) (k : ℕ) (ms : List (List ℕ)) (found : Found) (rest : List ℕ) → falling ms ≡ true → mark_from cs k ms ≡ Some (found, rest) → FoundMark cs k ms found rest
unfolding falling
mark_from_found cs k [] found rest f h = cc
mark_from_found cs k (m ∷ ms) found rest f h = go (beyond_text m cs) refl h (mark_from_found cs (k + 1) ms found rest (and_parts _ (falling ms) f).1) where
  go : (x : Option (List ℕ)) → beyond_text m cs ≡ x → mark_or (mark_from cs (k + 1) ms) k x ≡ Some (found, rest) → (mark_from cs (k + 1) ms ≡ Some (found, rest) → FoundMark cs (k + 1) ms found rest) → FoundMark cs k (m ∷ ms) found rest
  go None e h later = mark_later cs k m ms found rest e (later h)
  go (Some r) e h later =
      let p = some_pair h in
      mark_first cs k m ms found rest (and_parts _ (falling ms) f).0 (text_found m cs r e ∙ ap (λ s. m ++ s) p.1) (sym p.0)

mark_from_none : (cs : List ℕ) (k : ℕ) (ms : List (List ℕ)) → mark_from cs k ms ≡ None → (j : ℕ) (m r : List ℕ) → slice_get ms j ≡ Some m → cs ≡ m ++ r → ⊥
mark_from_none cs k [] h j m r at e = cc
mark_from_none cs k (w ∷ ms) h j m r at parts = go (beyond_text w cs) refl h j at (mark_from_none cs (k + 1) ms) where
  go : (x : Option (List ℕ)) → beyond_text w cs ≡ x → mark_or (mark_from cs (k + 1) ms) k x ≡ None → (j : ℕ) → slice_get (w ∷ ms) j ≡ Some m → (mark_from cs (k + 1) ms ≡ None → (j : ℕ) (m r : List ℕ) → slice_get ms j ≡ Some m → cs ≡ m ++ r → ⊥) → ⊥
  go (Some q) t e j at later = cc
  go None t e zero at later =
      let here : beyond_text w cs ≡ Some r = rw (parts, sym (some_list at)) (text_read w r) in
      let no : ◌≡◌ {A = Option (List ℕ)} None (Some r) = sym t ∙ here in cc
  go None t e (suc j) at later = later e j m r at parts

falling_marks : falling marks ≡ true
unfolding falling marks
falling_marks = refl

distinct_marks : distinct marks ≡ true
unfolding distinct marks
distinct_marks = refl

-- two fronts of one length of the same list are one
pub same_front : (a b r t : List ℕ) → length a ≡ length b → a ++ r ≡ b ++ t → (a ≡ b) × (r ≡ t)
same_front [] [] r t l e = (refl, e)
same_front [] (y ∷ b) r t l e = absurd (omega (arith, l))
same_front (x ∷ a) [] r t l e = absurd (omega (arith, l))
same_front (x ∷ a) (y ∷ b) r t l e =
    let first : x ≡ y = cc in
    let others = same_front a b r t (omega (arith, l)) (cc) in
    let same = others.0 in
    (cc, others.1)

pub mark_found : (before : Option Kind) (cs : List ℕ) (found : Found) (rest : List ℕ) → mark_at cs ≡ Some (found, rest) → Sound before found cs rest
unfolding mark_at
mark_found before cs found rest h =
    let f = mark_from_found cs 0 marks found rest falling_marks h in
    record { kind = Mark f.index; slice = f.mark; parts = f.parts; spelled = f.here; found_is = f.found_is ∙ ap (λ n. Other (Mark n)) (zero-add f.index) }

pub mark_longest : (cs : List ℕ) (found : Found) (rest : List ℕ) → mark_at cs ≡ Some (found, rest) → (n : ℕ) (s r : List ℕ) → slice_get marks n ≡ Some s → cs ≡ s ++ r → length rest ≤ length r
unfolding mark_at
mark_longest cs found rest h n s r at parts = (mark_from_found cs 0 marks found rest falling_marks h).longest n s r at parts

pub mark_read : (n : ℕ) (s rest : List ℕ) → slice_get marks n ≡ Some s → ((m : ℕ) (t r : List ℕ) → slice_get marks m ≡ Some t → s ++ rest ≡ t ++ r → length t ≤ length s) → mark_at (s ++ rest) ≡ Some (Other (Mark n), rest)
unfolding mark_at
mark_read n s rest at longest = go (mark_from (s ++ rest) 0 marks) refl where
  go : (x : Option (Found × List ℕ)) → mark_from (s ++ rest) 0 marks ≡ x → x ≡ Some (Other (Mark n), rest)
  go None e = absurd (mark_from_none (s ++ rest) 0 marks e n s rest at refl)
  go (Some (found, r)) e =
      let f = mark_from_found (s ++ rest) 0 marks found r falling_marks e in
      let short = f.longest n s rest at refl in
      let long = longest f.index f.mark r f.here f.parts in
      let lengths = ap length f.parts in
      let same = same_front s f.mark rest r (omega (arith, lengths, length-append s rest, length-append f.mark r)) f.parts in
      let index : f.index ≡ n = one_place marks s f.index n distinct_marks (f.here ∙ ap Some (sym same.0)) at in
      let found_is : found ≡ Other (Mark n) = f.found_is ∙ ap (λ m. Other (Mark m)) (zero-add f.index ∙ index) in
      let rest_is = same.1 in
      cc

-- a mark begins with no letter, digit or quotation mark, and one that begins with an apostrophe is it alone
unfoldable is_mark : List ℕ → Bool
is_mark [] = false
is_mark (c ∷ t) = (nat_lt c 128 && not (is_ascii_alphabetic c)) && ((not (is_digit 10 c) && not (c == 34)) && (not (c == 39) || (length t == 0)))

all_marks : list_all is_mark marks ≡ true
unfolding is_mark marks
all_marks = refl

pub record BeginsMark (c : ℕ) (t : List ℕ) : Type 0 where
  pub no_letter : is_xid_start c ≡ false
  pub no_digit : is_digit 10 c ≡ false
  pub no_quote : (c == 34) ≡ false
  pub alone : (c == 39) ≡ true → t ≡ []

pub begins_mark : (n c : ℕ) (t : List ℕ) → slice_get marks n ≡ Some (c ∷ t) → BeginsMark c t
unfolding is_mark
begins_mark n c t at =
    let test = passes_at is_mark marks n (c ∷ t) all_marks at in
    let parts = and_parts _ _ test in
    let letters = and_parts _ _ parts.0 in
    let others = and_parts _ _ parts.1 in
    let plain = and_parts _ _ others.0 in
    record {
      no_letter = is_xid_start-ascii c (ltb-true c 128 letters.0) ∙ not-true _ letters.1;
      no_digit = not-true _ plain.0;
      no_quote = not-true _ plain.1;
      alone = λ tick. ⊎_elim (λ no. absurd (true≢false (sym tick ∙ not-true _ no))) (λ empty. nil_from_length t (eqb-true _ 0 empty)) (or_cases _ _ others.1);
    }

pub no_empty_mark : (n : ℕ) → slice_get marks n ≡ Some [] → ⊥
unfolding is_mark
no_empty_mark n at = true≢false (sym (passes_at is_mark marks n [] all_marks at))

pub tick_mark : slice_get marks 11 ≡ Some (39 ∷ [])
unfolding marks
tick_mark = refl

pub tick_number : (n : ℕ) (t : List ℕ) → slice_get marks n ≡ Some (39 ∷ t) → n ≡ 11
tick_number n t at =
    let alone = (begins_mark n 39 t at).alone refl in
    one_place marks (39 ∷ []) n 11 distinct_marks (at ∙ ap (λ s. Some (39 ∷ s)) alone) tick_mark
