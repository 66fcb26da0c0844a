-- Tokens as the canonical text has them, and that each is the longest spelling where it stands.
use Rattle.std.proofs.Common.{◌≡◌, ◌⊎◌, inl, inr, ℕ, suc, ◌≤◌, Bool, true, false, not, ◌==◌, List, [], ◌∷◌, ◌++◌, length, Option, Some, None, refl, sym, ap, ◌∙◌, subst, append_assoc, arith, length-append, ⊎_elim}
use Rattle.std.specs.Prelude.{encode_utf8_all}
use Rattle.std.specs.List.{list_all}
use Rattle.std.proofs.Math.Utf8.{scalars}
use Rattle.std.proofs.lemmas.Bool.{eq-eqb, and_parts, and_left, and_right, or_parts, or_from, true≢false, not-true, not_from_true, not_from_false, false_from_ne_true}
use Rattle.ada_base.specs.declared.token.Kind.{Kind}
use Rattle.ada_base.specs.declared.token.Kind.TheVariants.{Ident, Word, Number, Text, Letter, Real, Mark, End}
use Rattle.unicode_ident.specs.Ident.{is_xid_continue}
use Rattle.syntax_tree.specs.Characters.{is_white}
use Rattle.syntax_tree.specs.Faults.{IsNarrow}
use Rattle.syntax_tree.specs.Gaps.{begins_gap}
use Rattle.ada_base.specs.Kinds.{tick}
use Rattle.syntax_tree.specs.Numbers.{begins_with_digit}
use Rattle.syntax_tree.specs.Spelling.{IsQuoted, IsSpelling, IsTokenAt, can_follow}
use Rattle.syntax_tree.specs.Spelling.IsQuoted.{NothingQuoted, Character, Doubled}
use Rattle.ada_base.specs.TokenKinds.{kind_number}
use Rattle.syntax_print.specs.Canonical.{written}
use Rattle.syntax_print.proofs.Breaks.{IsBreak, is_edge, is_of_number, start_no_edge, digit_no_edge, breaks_none}
use Rattle.syntax_print.proofs.Numbers.{integer_all, integer_first, real_all}
use Rattle.syntax_print.proofs.Tables.{mark_at, tick_number}

pub record Piece : Type 0 where
  pub kind : Kind
  pub slice : List ℕ

-- the kinds that the canonical text of a program has
abbrev pub is_plain : Kind → Bool
is_plain Ident = true
is_plain (Word n) = true
is_plain (Number z) = true
is_plain Text = true
is_plain Letter = false
is_plain Real = false
is_plain (Mark n) = true
is_plain End = false

pub record IsPiece (p : Piece) : Type 0 where
  pub spelled : (before : Option Kind) → IsSpelling before p.kind p.slice
  pub plain : is_plain p.kind ≡ true
  pub narrow : IsNarrow p.kind
  pub are_scalars : scalars p.slice ≡ true
  pub stays : written p.kind (encode_utf8_all p.slice) ≡ encode_utf8_all p.slice

-- ---- what a piece begins with

pub record Begins (kind : Kind) (slice : List ℕ) : Type 0 where
  pub first : ℕ
  pub others : List ℕ
  pub parts : slice ≡ first ∷ others
  pub no_white : is_white first ≡ false
  pub alone : (first == 45) ≡ true → others ≡ []
  pub quote : (first == 34) ≡ true → kind ≡ Text
  pub is_tick : (first == 39) ≡ true → kind_number kind ≡ tick

plain_begins : (kind : Kind) (c : ℕ) (s : List ℕ) → is_edge c ≡ false → Begins kind (c ∷ s)
plain_begins kind c s h =
    let a = or_parts (is_white c) _ h in
    let b = or_parts (c == 45) _ a.1 in
    let d = or_parts (c == 34) (c == 39) b.1 in
    record {
      first = c;
      others = s;
      parts = refl;
      no_white = a.0;
      alone = λ e. absurd (true≢false (sym e ∙ b.0));
      quote = λ e. absurd (true≢false (sym e ∙ d.0));
      is_tick = λ e. absurd (true≢false (sym e ∙ d.1));
    }

number_begins : (kind : Kind) (s : List ℕ) → begins_with_digit 10 s ≡ true → Begins kind s
number_begins kind [] h = absurd (true≢false (sym h))
number_begins kind (c ∷ s) h = plain_begins kind c s (digit_no_edge c h)

begins : (kind : Kind) (slice : List ℕ) → IsSpelling None kind slice → is_plain kind ≡ true → Begins kind slice
begins Ident [] (shape, a, b) p = absurd (true≢false (sym shape.first))
begins Ident (c ∷ s) (shape, a, b) p = plain_begins Ident c s (start_no_edge c shape.first)
begins (Word n) [] (shape, at) p = absurd (true≢false (sym shape.first))
begins (Word n) (c ∷ s) (shape, at) p = plain_begins (Word n) c s (start_no_edge c shape.first)
begins (Number z) slice (v, i, e) p = number_begins (Number z) slice (integer_first i)
begins Text slice (quoted, q, e) p =
    record {
      first = 34;
      others = quoted ++ 34 ∷ [];
      parts = e;
      no_white = refl;
      alone = λ h. absurd (true≢false (sym h));
      quote = λ h. refl;
      is_tick = λ h. absurd (true≢false (sym h));
    }
begins Letter slice spelled p = absurd (true≢false (sym p))
begins Real slice spelled p = absurd (true≢false (sym p))
begins (Mark n) slice at p =
    let m = mark_at n slice at in
    record {
      first = m.first;
      others = m.others;
      parts = m.parts;
      no_white = not-true _ (and_parts _ _ (ap (list_all (λ d. not (is_white d))) (sym m.parts) ∙ m.plain)).0;
      alone = m.alone;
      quote = λ e. absurd (true≢false (sym e ∙ m.no_quote));
      is_tick = λ e. ap (λ k. kind_number (Mark k)) (tick_number n m.first m.others (at ∙ ap Some m.parts) e);
    }
begins End slice spelled p = absurd (true≢false (sym p))

pub piece_begins : (p : Piece) → IsPiece p → Begins p.kind p.slice
piece_begins p is = begins p.kind p.slice (is.spelled None) is.plain

-- no gap begins at a piece
no_gap_at : (c : ℕ) (s : List ℕ) (w : ℕ) (r : List ℕ) → IsBreak w → is_white c ≡ false → ((c == 45) ≡ true → s ≡ []) → begins_gap (c ∷ (s ++ w ∷ r)) ≡ false
no_gap_at c [] w r b white alone = or_from _ _ white (and_right (c == 45) (w == 45) b.no_hyphen)
no_gap_at c (d ∷ s) w r b white alone =
    or_from _ _ white (and_left (c == 45) (d == 45) (false_from_ne_true _ (λ e. let no : d ∷ s ≡ [] = alone e in cc)))

pub no_gap : (p : Piece) (w : ℕ) (r : List ℕ) → IsPiece p → IsBreak w → begins_gap (p.slice ++ w ∷ r) ≡ false
no_gap p w r is b =
    let g = piece_begins p is in
    ap (λ s. begins_gap (s ++ w ∷ r)) g.parts ∙ no_gap_at g.first g.others w r b g.no_white g.alone

-- ---- the longest spelling

follows : (kind : Kind) (w : ℕ) (r : List ℕ) → is_plain kind ≡ true → IsBreak w → can_follow kind (w ∷ r) ≡ true
follows Ident w r p b = not_from_false _ b.no_name
follows (Word n) w r p b = not_from_false _ b.no_name
follows (Number z) w r p b = not_from_false _ (or_from _ _ b.no_word b.no_number_sign)
follows Text w r p b = not_from_false _ b.no_quote
follows Letter w r p b = absurd (true≢false (sym p))
follows Real w r p b = absurd (true≢false (sym p))
follows (Mark n) w r p b = refl
follows End w r p b = absurd (true≢false (sym p))

-- a list that goes beyond another contains what follows that
split : (a b : List ℕ) (w : ℕ) (r q : List ℕ) → a ++ w ∷ r ≡ b ++ q → (length b ≤ length a) ⊎ ((m : List ℕ) × (b ≡ a ++ w ∷ m))
split a [] w r q e = inl (omega arith)
split [] (x ∷ b) w r q e = inr (b, (let h : w ≡ x = cc in cc))
split (y ∷ a) (x ∷ b) w r q e = ⊎_elim (λ short. inl (omega (arith, short))) longer (split a b w r q (cc)) where
  longer : ((m : List ℕ) × (b ≡ a ++ w ∷ m)) → (length (x ∷ b) ≤ length (y ∷ a)) ⊎ ((m : List ℕ) × (x ∷ b ≡ (y ∷ a) ++ w ∷ m))
  longer (m, h) = inr (m, (let first : y ≡ x = cc in cc))

without : (p : ℕ → Bool) (slice : List ℕ) (w : ℕ) (r s q : List ℕ) → list_all p s ≡ true → p w ≡ false → slice ++ w ∷ r ≡ s ++ q → length s ≤ length slice
without p slice w r s q all fails e = ⊎_elim (λ short. short) longer (split slice s w r q e) where
  longer : ((m : List ℕ) × (s ≡ slice ++ w ∷ m)) → length s ≤ length slice
  longer (m, h) = absurd (breaks_none p slice m w (ap (list_all p) (sym h) ∙ all) fails)

quoted_longest : {a b : List ℕ} → IsQuoted a → IsQuoted b → (w : ℕ) (r q : List ℕ) → (w == 34) ≡ false → a ++ 34 ∷ w ∷ r ≡ b ++ 34 ∷ q → length b ≤ length a
quoted_longest NothingQuoted NothingQuoted w r q plain_w e = omega arith
quoted_longest NothingQuoted (Character d t plain allowed y) w r q plain_w e = let h : 34 ≡ d = cc in absurd (true≢false (sym (eq-eqb d 34 (sym h)) ∙ plain))
quoted_longest NothingQuoted (Doubled t y) w r q plain_w e = let h : w ≡ 34 = cc in absurd (true≢false (sym (eq-eqb w 34 h) ∙ plain_w))
quoted_longest (Character c s plain allowed x) NothingQuoted w r q plain_w e = omega arith
quoted_longest (Character c s plain allowed x) (Character d t plain' allowed' y) w r q plain_w e =
    let others : s ++ 34 ∷ w ∷ r ≡ t ++ 34 ∷ q = cc in
    let k = quoted_longest x y w r q plain_w others in
    omega (arith, k)
quoted_longest (Character c s plain allowed x) (Doubled t y) w r q plain_w e = let h : c ≡ 34 = cc in absurd (true≢false (sym (eq-eqb c 34 h) ∙ plain))
quoted_longest (Doubled s x) NothingQuoted w r q plain_w e = omega arith
quoted_longest (Doubled s x) (Character d t plain allowed y) w r q plain_w e = let h : 34 ≡ d = cc in absurd (true≢false (sym (eq-eqb d 34 (sym h)) ∙ plain))
quoted_longest (Doubled s x) (Doubled t y) w r q plain_w e =
    let others : s ++ 34 ∷ w ∷ r ≡ t ++ 34 ∷ q = cc in
    let k = quoted_longest x y w r q plain_w others in
    omega (arith, k)

abbrev pub begins_tick : List ℕ → Bool
begins_tick [] = false
begins_tick (c ∷ s) = c == 39

module _ (p : Piece) (w : ℕ) (r : List ℕ) (is : IsPiece p) (b : IsBreak w) where
  text_longest : (s q quoted : List ℕ) → p.slice ++ w ∷ r ≡ s ++ q → IsQuoted quoted → s ≡ 34 ∷ (quoted ++ 34 ∷ []) → length s ≤ length p.slice
  text_longest s q quoted e y there =
      let g = piece_begins p is in
      let whole : g.first ∷ (g.others ++ w ∷ r) ≡ 34 ∷ ((quoted ++ 34 ∷ []) ++ q) = ap (λ x. x ++ w ∷ r) (sym g.parts) ∙ (e ∙ ap (λ x. x ++ q) there) in
      let first : g.first ≡ 34 = cc in
      let mine : IsSpelling None Text p.slice = subst (λ k. IsSpelling None k p.slice) (g.quote (eq-eqb g.first 34 first)) (is.spelled None) in
      same mine
    where
      same : IsSpelling None Text p.slice → length s ≤ length p.slice
      same (own, x, here) =
          let both : 34 ∷ ((own ++ 34 ∷ []) ++ w ∷ r) ≡ 34 ∷ ((quoted ++ 34 ∷ []) ++ q) = ap (λ x. x ++ w ∷ r) (sym here) ∙ (e ∙ ap (λ x. x ++ q) there) in
          let tails : (own ++ 34 ∷ []) ++ w ∷ r ≡ (quoted ++ 34 ∷ []) ++ q = cc in
          let k = quoted_longest x y w r q b.no_quote (sym (append_assoc own (34 ∷ []) (w ∷ r)) ∙ (tails ∙ append_assoc quoted (34 ∷ []) q)) in
          omega (arith, k, ap length here, ap length there, length-append own (34 ∷ []), length-append quoted (34 ∷ []))

  letter_longest : (kind_number p.kind ≡ tick → begins_tick r ≡ false) → (s q : List ℕ) (d : ℕ) → p.slice ++ w ∷ r ≡ s ++ q → s ≡ 39 ∷ d ∷ 39 ∷ [] → length s ≤ length p.slice
  letter_longest apart s q d e there =
      let g = piece_begins p is in
      let whole : g.first ∷ (g.others ++ w ∷ r) ≡ 39 ∷ d ∷ 39 ∷ q = ap (λ x. x ++ w ∷ r) (sym g.parts) ∙ (e ∙ ap (λ x. x ++ q) there) in
      let first : g.first ≡ 39 = cc in
      let k : 3 ≤ suc (length g.others) = go g.others (cc) (apart (g.is_tick (eq-eqb g.first 39 first))) in
      omega (arith, k, ap length g.parts, ap length there)
    where
      go : (o : List ℕ) → o ++ w ∷ r ≡ d ∷ 39 ∷ q → begins_tick r ≡ false → 3 ≤ suc (length o)
      go [] h none = let tail : r ≡ 39 ∷ q = cc in absurd (true≢false (sym (ap begins_tick tail) ∙ none))
      go (x ∷ []) h none = let tick : w ≡ 39 = cc in absurd (true≢false (sym (eq-eqb w 39 tick) ∙ b.no_tick))
      go (x ∷ y ∷ o) h none = omega arith

  longest : (before : Option Kind) → (kind_number p.kind ≡ tick → begins_tick r ≡ false) → (other : Kind) (s q : List ℕ) → p.slice ++ w ∷ r ≡ s ++ q → IsSpelling before other s → length s ≤ length p.slice
  longest before apart Ident s q e (shape, x, y) = without is_xid_continue p.slice w r s q shape.each b.no_name e
  longest before apart (Word n) s q e (shape, at) = without is_xid_continue p.slice w r s q shape.each b.no_name e
  longest before apart (Number z) s q e (v, i, is) = without is_of_number p.slice w r s q (integer_all i) b.no_number e
  longest before apart Text s q e (quoted, y, there) = text_longest s q quoted e y there
  longest before apart Letter s q e (a, (d, plain, there)) = letter_longest apart s q d e there
  longest before apart Real s q e i = without is_of_number p.slice w r s q (real_all i) b.no_number e
  longest before apart (Mark n) s q e at = without (λ d. not (is_white d)) p.slice w r s q (mark_at n s at).plain (not_from_true _ b.white) e
  longest before apart End s q e none = omega (arith, ap length none)

  pub token_there : (before : Option Kind) → (kind_number p.kind ≡ tick → begins_tick r ≡ false) → IsTokenAt before p.kind p.slice (w ∷ r)
  token_there before apart =
      record { spelled = is.spelled before; ends = follows p.kind w r is.plain b; longest = longest before apart }
