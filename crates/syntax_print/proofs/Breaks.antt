-- The two characters that stand between tokens, and what tokens begin with.
use Rattle.std.proofs.Common.{◌≡◌, ℕ, ◌<◌, ◌≤◌, Bool, true, false, not, ◌&&◌, ◌||◌, ◌==◌, List, [], ◌∷◌, ◌++◌, refl, sym, ap, ◌∙◌, arith, lit<, ⊎_elim}
use Rattle.std.specs.List.{list_all}
use Rattle.std.specs.Char.{is_ascii_alphabetic}
use Rattle.std.specs.Prelude.{encode_utf8_all, nat_lt, nat_le}
use Rattle.std.proofs.Math.Utf8.{scalar, scalars}
use Rattle.std.proofs.lemmas.Str.{encode_ascii}
use Rattle.std.proofs.lemmas.List.Folds.{list_all-append}
use Rattle.std.proofs.lemmas.Bool.{eqb-true, and_parts, and_from, or_cases, or_from, true≢false, leb-true, ltb-true, not-true, false_from_ne_true, le-ltb, cases_lt, agree_below, agree_below_at}
use Rattle.unicode_ident.specs.Ident.{is_xid_start, is_xid_continue}
use Rattle.unicode_ident.proofs.IdentLemmas.{is_xid_start-ascii, is_xid_continue-ascii}
use Rattle.ucd_category.proofs.Computing.{ucd_category}
use Rattle.ucd_category.specs.declared.GeneralCategoryGroup.TheVariants.{Letter}
use Rattle.unicode.specs.GeneralCategory.{general_category}
use Rattle.unicode.specs.GeneralCategoryGroup.{in_group}
use Rattle.syntax_tree.specs.Characters.{is_white, is_digit, is_of_word}
use Rattle.syntax_tree.specs.Numbers.{is_digit_or_underscore}

-- the characters of numeric literals: the digits up to base 16, which the letter of an exponent is one of, and marks
abbrev pub is_of_number : ℕ → Bool
is_of_number c = is_digit_or_underscore 16 c || ((c == 35) || ((c == 43) || ((c == 45) || (c == 46))))

-- what is known of a space and of a line feed
pub record IsBreak (c : ℕ) : Type 0 where
  pub white : is_white c ≡ true
  pub no_name : is_xid_continue c ≡ false
  pub no_word : is_of_word c ≡ false
  pub no_number : is_of_number c ≡ false
  pub no_number_sign : (c == 35) ≡ false
  pub no_quote : (c == 34) ≡ false
  pub no_tick : (c == 39) ≡ false
  pub no_hyphen : (c == 45) ≡ false

space_no_name : is_xid_continue 32 ≡ false
space_no_name = is_xid_continue-ascii 32 (lit< tt)

line_no_name : is_xid_continue 10 ≡ false
line_no_name = is_xid_continue-ascii 10 (lit< tt)

space_no_letter : in_group Letter (general_category 32) ≡ false
unfolding ucd_category
space_no_letter = refl

line_no_letter : in_group Letter (general_category 10) ≡ false
unfolding ucd_category
line_no_letter = refl

pub space_breaks : IsBreak 32
space_breaks =
    record {
      white = refl;
      no_name = space_no_name;
      no_word = or_from _ _ space_no_name space_no_letter;
      no_number = refl;
      no_number_sign = refl;
      no_quote = refl;
      no_tick = refl;
      no_hyphen = refl;
    }

pub line_breaks : IsBreak 10
line_breaks =
    record {
      white = refl;
      no_name = line_no_name;
      no_word = or_from _ _ line_no_name line_no_letter;
      no_number = refl;
      no_number_sign = refl;
      no_quote = refl;
      no_tick = refl;
      no_hyphen = refl;
    }

-- a test that follows from another on the characters of ASCII
pub implied : (p q : ℕ → Bool) → agree_below (λ x. not (p x) || q x) (λ x. true) 128 ≡ true → (c : ℕ) → c < 128 → p c ≡ true → q c ≡ true
implied p q all c below h =
    let test = agree_below_at (λ x. not (p x) || q x) (λ x. true) 128 c all below in
    ⊎_elim (λ no. absurd (true≢false (sym h ∙ not-true _ no))) (λ is. is) (or_cases (not (p c)) (q c) test)

-- white space, a hyphen, a quotation mark and an apostrophe
abbrev pub is_edge : ℕ → Bool
is_edge c = is_white c || ((c == 45) || ((c == 34) || (c == 39)))

module _ (c : ℕ) where
  equal_below : (n : ℕ) → n < 128 → (c == n) ≡ true → c < 128
  equal_below n small e = let same : c ≡ n = eqb-true c n e in omega arith

  range_below : (nat_le 9 c && nat_le c 13) ≡ true → c < 128
  range_below h = let high : c ≤ 13 = leb-true c 13 (and_parts (nat_le 9 c) (nat_le c 13) h).1 in omega arith

  white_below : is_white c ≡ true → c < 128
  white_below h = ⊎_elim range_below (equal_below 32 (lit< tt)) (or_cases _ _ h)

  quote_below : ((c == 34) || (c == 39)) ≡ true → c < 128
  quote_below h = ⊎_elim (equal_below 34 (lit< tt)) (equal_below 39 (lit< tt)) (or_cases _ _ h)

  mark_below : ((c == 45) || ((c == 34) || (c == 39))) ≡ true → c < 128
  mark_below h = ⊎_elim (equal_below 45 (lit< tt)) quote_below (or_cases _ _ h)

  edge_below : is_edge c ≡ true → c < 128
  edge_below h = ⊎_elim white_below mark_below (or_cases _ _ h)

no_edge : (p : ℕ → Bool) → agree_below (λ x. not (p x) || not (is_edge x)) (λ x. true) 128 ≡ true → (c : ℕ) → (c < 128 → p c ≡ true) → is_edge c ≡ false
no_edge p all c h = false_from_ne_true _ (λ edge. let below = edge_below c edge in true≢false (sym edge ∙ not-true _ (implied p (λ x. not (is_edge x)) all c below (h below))))

-- the first characters of names and of numbers
pub start_no_edge : (c : ℕ) → is_xid_start c ≡ true → is_edge c ≡ false
start_no_edge c h = no_edge is_ascii_alphabetic refl c (λ below. sym (is_xid_start-ascii c below) ∙ h)

pub digit_no_edge : (c : ℕ) → is_digit 10 c ≡ true → is_edge c ≡ false
digit_no_edge c h = no_edge (is_digit 10) refl c (λ below. h)

-- a list with a character that fails a test
pub breaks_none : (p : ℕ → Bool) (a m : List ℕ) (c : ℕ) → list_all p (a ++ c ∷ m) ≡ true → p c ≡ false → ⊥
breaks_none p a m c h fails = true≢false (sym (and_parts (p c) _ (and_parts (list_all p a) _ (sym (list_all-append p a (c ∷ m)) ∙ h)).1).0 ∙ fails)

pub all_by : (p q : ℕ → Bool) → ((c : ℕ) → p c ≡ true → q c ≡ true) → (s : List ℕ) → list_all p s ≡ true → list_all q s ≡ true
all_by p q step [] h = refl
all_by p q step (c ∷ s) h = let parts = and_parts (p c) _ h in and_from _ _ (step c parts.0) (all_by p q step s parts.1)

-- characters of ASCII are their own bytes
abbrev pub is_small : ℕ → Bool
is_small c = nat_lt c 128

pub small_bytes : (s : List ℕ) → list_all is_small s ≡ true → encode_utf8_all s ≡ s
small_bytes [] h = refl
small_bytes (c ∷ s) h =
    let parts = and_parts (is_small c) _ h in
    ap (λ e. e ++ encode_utf8_all s) (encode_ascii c (ltb-true c 128 parts.0)) ∙ ap (λ t. c ∷ t) (small_bytes s parts.1)

pub small_scalars : (s : List ℕ) → list_all is_small s ≡ true → scalars s ≡ true
small_scalars [] h = refl
small_scalars (c ∷ s) h =
    let parts = and_parts (is_small c) _ h in
    and_from (scalar c) _ (agree_below_at scalar (λ x. true) 128 c refl (ltb-true c 128 parts.0)) (small_scalars s parts.1)

-- a decimal digit is a character of ASCII
pub digit_small : (c : ℕ) → is_digit 10 c ≡ true → is_small c ≡ true
digit_small c h = ⊎_elim (λ below. agree_below_at is_small (λ x. true) 128 c refl below) above (cases_lt c 128) where
  above : 128 ≤ c → is_small c ≡ true
  above le =
      let none = rw (le-ltb c 48 (omega arith), le-ltb c 58 (omega arith), le-ltb c 65 (omega arith), le-ltb c 91 (omega arith), le-ltb c 97 (omega arith), le-ltb c 123 (omega arith)) at h in
      absurd (true≢false (sym none))
