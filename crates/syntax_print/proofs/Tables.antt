-- The texts of reserved words and of marks.
use Rattle.std.proofs.Common.{◌≡◌, ℕ, zero, suc, ◌+◌, ◌<◌, Bool, true, false, not, ◌&&◌, ◌||◌, ◌==◌, nat_le, List, [], ◌∷◌, map, length, Some, slice_get, refl, sym, ap, ◌∙◌, arith, add-zero, ⊎_elim}
use Rattle.std.specs.List.{list_all}
use Rattle.std.specs.Char.{is_ascii_alphabetic, to_ascii_lowercase}
use Rattle.std.proofs.lemmas.Bool.{eqb-true, and_parts, or_cases, true≢false, not-true, ltb-true}
use Rattle.std.proofs.lemmas.List.{nil_from_length}
use Rattle.unicode_ident.specs.Ident.{is_xid_start, is_xid_continue}
use Rattle.unicode_ident.proofs.IdentLemmas.{is_xid_start-ascii, is_xid_start-is_xid_continue}
use Rattle.syntax_tree.specs.Characters.{is_white, is_underscore}
use Rattle.syntax_tree.specs.Numbers.{underscores_between}
use Rattle.syntax_tree.specs.Spelling.{IsIdentifier}
use Rattle.syntax_tree.specs.Words.{words, marks}
use Rattle.syntax_print.proofs.Breaks.{implied, all_by, is_small}

some_same : {a b : List ℕ} → Some a ≡ Some b → a ≡ b
some_same h = cc

passes_at : (p : List ℕ → Bool) (texts : List (List ℕ)) (i : ℕ) (s : List ℕ) → list_all p texts ≡ true → slice_get texts i ≡ Some s → p s ≡ true
passes_at p [] i s h at = cc
passes_at p (w ∷ texts) zero s h at = ap p (sym (some_same at)) ∙ (and_parts (p w) _ h).0
passes_at p (w ∷ texts) (suc i) s h at = passes_at p texts i s (and_parts (p w) _ h).1 at

-- ---- reserved words

abbrev is_lower : ℕ → Bool
is_lower c = nat_le 97 c && nat_le c 122

unfoldable is_lower_name : List ℕ → Bool
is_lower_name s = not (length s == 0) && list_all (λ c. is_small c && is_lower c) s

all_words : list_all is_lower_name words ≡ true
unfolding is_lower_name words
all_words = refl

module _ (c : ℕ) (h : (is_small c && is_lower c) ≡ true) where
  below : c < 128
  below = ltb-true c 128 (and_parts _ _ h).0

  lower_start : is_xid_start c ≡ true
  lower_start = is_xid_start-ascii c below ∙ implied is_lower is_ascii_alphabetic refl c below (and_parts _ _ h).1

  lower_continue : is_xid_continue c ≡ true
  lower_continue = is_xid_start-is_xid_continue c lower_start

  lower_plain : is_underscore c ≡ false
  lower_plain = not-true _ (implied is_lower (λ x. not (is_underscore x)) refl c below (and_parts _ _ h).1)

  lower_stays : to_ascii_lowercase c ≡ c
  lower_stays = eqb-true _ c (implied is_lower (λ x. to_ascii_lowercase x == x) refl c below (and_parts _ _ h).1)

-- no underscore stands where none of the characters is one
pub none_between : (p : ℕ → Bool) → ((c : ℕ) → p c ≡ true → is_underscore c ≡ false) → (s : List ℕ) → list_all p s ≡ true → underscores_between s ≡ true
none_between p plain [] h = refl
none_between p plain (c ∷ []) h = rw (plain c (and_parts (p c) _ h).0) refl
none_between p plain (c ∷ d ∷ s) h = let parts = and_parts (p c) _ h in rw (plain c parts.0) (none_between p plain (d ∷ s) parts.1)

lower_same : (s : List ℕ) → list_all (λ c. is_small c && is_lower c) s ≡ true → map to_ascii_lowercase s ≡ s
lower_same [] h = refl
lower_same (c ∷ s) h =
    let parts = and_parts (is_small c && is_lower c) _ h in
    let first = lower_stays c parts.0 in
    let others = lower_same s parts.1 in
    cc

pub record IsWordText (s : List ℕ) : Type 0 where
  pub shape : IsIdentifier s
  pub lower : map to_ascii_lowercase s ≡ s
  pub small : list_all is_small s ≡ true

lower_name : (s : List ℕ) → is_lower_name s ≡ true → IsWordText s
unfolding is_lower_name
lower_name [] h = absurd (true≢false (sym h))
lower_name (c ∷ s) h =
    let each = (and_parts _ _ h).1 in
    record {
      shape = record {
        first = lower_start c (and_parts (is_small c && is_lower c) _ each).0;
        each = all_by _ is_xid_continue lower_continue (c ∷ s) each;
        between = none_between _ lower_plain (c ∷ s) each;
      };
      lower = lower_same (c ∷ s) each;
      small = all_by (λ d. is_small d && is_lower d) is_small (λ d both. (and_parts (is_small d) (is_lower d) both).0) (c ∷ s) each;
    }

pub word_at : (n : ℕ) (s : List ℕ) → slice_get words n ≡ Some s → IsWordText s
word_at n s at = lower_name s (passes_at is_lower_name words n s all_words at)

-- ---- marks

-- characters of ASCII without white space; a hyphen and an apostrophe stand first only alone, and a quotation mark never
unfoldable is_mark : List ℕ → Bool
is_mark [] = false
is_mark (c ∷ t) = list_all (λ d. is_small d && not (is_white d)) (c ∷ t) && (not (c == 34) && (not (c == 45) || (length t == 0)))

all_marks : list_all is_mark marks ≡ true
unfolding is_mark marks
all_marks = refl

pub record IsMarkText (s : List ℕ) : Type 0 where
  pub first : ℕ
  pub others : List ℕ
  pub parts : s ≡ first ∷ others
  pub plain : list_all (λ d. not (is_white d)) s ≡ true
  pub small : list_all is_small s ≡ true
  pub no_quote : (first == 34) ≡ false
  pub alone : (first == 45) ≡ true → others ≡ []

mark_text : (s : List ℕ) → is_mark s ≡ true → IsMarkText s
unfolding is_mark
mark_text [] h = absurd (true≢false (sym h))
mark_text (c ∷ t) h =
    let parts = and_parts (list_all (λ d. is_small d && not (is_white d)) (c ∷ t)) _ h in
    let rest = and_parts (not (c == 34)) _ parts.1 in
    record {
      first = c;
      others = t;
      parts = refl;
      plain = all_by (λ d. is_small d && not (is_white d)) (λ d. not (is_white d)) (λ d both. (and_parts (is_small d) (not (is_white d)) both).1) (c ∷ t) parts.0;
      small = all_by (λ d. is_small d && not (is_white d)) is_small (λ d both. (and_parts (is_small d) (not (is_white d)) both).0) (c ∷ t) parts.0;
      no_quote = not-true _ rest.0;
      alone = λ hyphen. ⊎_elim (λ no. absurd (true≢false (sym hyphen ∙ not-true _ no))) (λ empty. nil_from_length t (eqb-true _ 0 empty)) (or_cases _ _ rest.1);
    }

pub mark_at : (n : ℕ) (s : List ℕ) → slice_get marks n ≡ Some s → IsMarkText s
mark_at n s at = mark_text s (passes_at is_mark marks n s all_marks at)

-- one mark alone begins with an apostrophe
abbrev begins_tick : List ℕ → Bool
begins_tick [] = false
begins_tick (c ∷ s) = c == 39

unfoldable tick_alone : ℕ → List (List ℕ) → Bool
tick_alone k [] = true
tick_alone k (m ∷ ms) = (not (begins_tick m) || (k == 11)) && tick_alone (k + 1) ms

all_ticks : tick_alone 0 marks ≡ true
unfolding tick_alone marks
all_ticks = refl

tick_place : (k : ℕ) (ms : List (List ℕ)) (i : ℕ) (s : List ℕ) → tick_alone k ms ≡ true → slice_get ms i ≡ Some s → begins_tick s ≡ true → k + i ≡ 11
unfolding tick_alone
tick_place k [] i s h at tick = cc
tick_place k (m ∷ ms) zero s h at tick =
    let here : begins_tick m ≡ true = ap begins_tick (some_same at) ∙ tick in
    ⊎_elim (λ no. absurd (true≢false (sym here ∙ not-true _ no))) (λ e. add-zero k ∙ eqb-true k 11 e) (or_cases _ _ (and_parts _ _ h).0)
tick_place k (m ∷ ms) (suc i) s h at tick = let later : k + 1 + i ≡ 11 = tick_place (k + 1) ms i s (and_parts (not (begins_tick m) || (k == 11)) (tick_alone (k + 1) ms) h).1 at tick in omega arith

pub tick_number : (n c : ℕ) (s : List ℕ) → slice_get marks n ≡ Some (c ∷ s) → (c == 39) ≡ true → n ≡ 11
tick_number n c s at tick = let e = tick_place 0 marks n (c ∷ s) all_ticks at tick in omega (arith, e)
