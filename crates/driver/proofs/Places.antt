-- The tokens of a text stand at places that rise, so that a place has one token at most.
use Rattle.std.proofs.Common.{◌≡◌, ◌≢◌, ◌⊎◌, inl, inr, ℕ, zero, suc, ◌+◌, ◌-◌, ◌<◌, ◌≤◌, Bool, true, false, not, cond, List, [], ◌∷◌, ◌++◌, length, take, drop, Option, refl, sym, ap, ◌∙◌, subst, append_assoc, take-add, arith, true≢false, ⊎_elim}
use Rattle.std.specs.Prelude.{All, count_by, encode_utf8_all, slice_index_or}
use Rattle.std.specs.List.{after_last, prefix_len, suffix_len}
use Rattle.std.specs.Str.{chars, IsUtf8, IsCharBoundary}
use Rattle.std.proofs.lemmas.Bool.{cases_lt}
use Rattle.std.proofs.lemmas.List.{length-drop, reverse-append, length-take-le}
use Rattle.std.proofs.lemmas.List.Elements.{All-head, All-tail}
use Rattle.std.proofs.lemmas.List.Sums.{sum_by_push, suffix_len-le-length}
use Rattle.std.proofs.lemmas.Str.{IsUtf8-take, IsUtf8-between, chars-append, encodes-chars, length-le-encodes}
use Rattle.ada_base.specs.Place.{is_line_end, place_after, place_at}
use Rattle.ada_base.specs.Tokens.{Tokenized, LiesIn, place_of_token, span_at}
use Rattle.ada_base.specs.declared.place.Place.{Place}
use Rattle.ada_base.specs.declared.token.Kind.{Kind}
use Rattle.ada_base.specs.declared.token.Kind.TheVariants.{Ident, Word, Number, Text, Letter, Real, Mark, End}
use Rattle.ada_base.specs.declared.token.Token.{Token}
use Rattle.syntax_lexer.proofs.Edges.{are_whole}
use Rattle.syntax_lexer.proofs.MarkLaw.{no_empty_mark}
use Rattle.syntax_lexer.specs.Lexed.{AreLexed}
use Rattle.driver.specs.Lines.{Precedes, StandInOrder}
use Rattle.syntax_tree.specs.Characters.{number_sign, point}
use Rattle.syntax_tree.specs.Numbers.{IsNumeral, IsInteger, IsReal}
use Rattle.syntax_tree.specs.Numbers.IsInteger.{Decimal, Based}
use Rattle.syntax_tree.specs.Numbers.IsReal.{RealLiteral}
use Rattle.syntax_tree.specs.Spelling.{IsSpelling}
use Rattle.syntax_tree.specs.Tokens.{Spot, start_of, after, IsNext, AreNext, AreTokens}

-- a character more: another line, or the next column

columns : (a : List ℕ) → length (after_last is_line_end a) ≡ suffix_len (λ c. not (is_line_end c)) a
columns a = omega (arith, length-drop (length a - suffix_len (λ c. not (is_line_end c)) a) a, suffix_len-le-length (λ c. not (is_line_end c)) a)

pushed : (a : List ℕ) (x : ℕ) → Precedes (place_after a) (place_after (a ++ x ∷ []))
pushed a x = go (is_line_end x) refl where
  lines_of : (b : Bool) → is_line_end x ≡ b → count_by is_line_end (a ++ x ∷ []) ≡ count_by is_line_end a + cond b 1 0
  lines_of b e = sum_by_push (λ y. cond (is_line_end y) 1 0) a x ∙ ap (λ z. count_by is_line_end a + cond z 1 0) e

  columns_of : (b : Bool) → is_line_end x ≡ b → suffix_len (λ c. not (is_line_end c)) (a ++ x ∷ []) ≡ cond (not b) (1 + suffix_len (λ c. not (is_line_end c)) a) 0
  columns_of b e = ap (prefix_len (λ c. not (is_line_end c))) (reverse-append a (x ∷ [])) ∙ ap (λ z. cond (not z) (1 + suffix_len (λ c. not (is_line_end c)) a) 0) e

  go : (b : Bool) → is_line_end x ≡ b → Precedes (place_after a) (place_after (a ++ x ∷ []))
  go true e = inl (omega (arith, lines_of true e))
  go false e = inr (omega (arith, lines_of false e), omega (arith, columns_of false e, columns a, columns (a ++ x ∷ [])))

then_precedes : (p q r : Place) → Precedes p q → Precedes q r → Precedes p r
then_precedes p q r (inl h) (inl k) = inl (omega (arith, h, k))
then_precedes p q r (inl h) (inr (e, k)) = inl (omega (arith, h, e))
then_precedes p q r (inr (e, h)) (inl k) = inl (omega (arith, e, k))
then_precedes p q r (inr (e, h)) (inr (e', k)) = inr (omega (arith, e, e'), omega (arith, h, k))

-- the place after a longer front is a later one
front_precedes : (a : List ℕ) (x : ℕ) (b : List ℕ) → Precedes (place_after a) (place_after (a ++ x ∷ b))
front_precedes a x [] = pushed a x
front_precedes a x (y ∷ b) =
    let more = subst (λ l. Precedes (place_after (a ++ x ∷ [])) (place_after l)) (append_assoc a (x ∷ []) (y ∷ b)) (front_precedes (a ++ x ∷ []) y b) in
    then_precedes (place_after a) (place_after (a ++ x ∷ [])) (place_after (a ++ x ∷ y ∷ b)) (pushed a x) more

byte_precedes : (text : List ℕ) (m n : ℕ) → IsUtf8 text → IsCharBoundary text m → IsCharBoundary text n → m < n → Precedes (place_at text m) (place_at text n)
byte_precedes text m n u starts ends less = go (chars more) refl where
  front : List ℕ
  front = take m text

  more : List ℕ
  more = take (n - m) (drop m text)

  parts : take n text ≡ front ++ more
  parts = let on : n ≡ m + (n - m) = omega (arith, less) in ap (λ k. take k text) on ∙ take-add m (n - m) text

  whole : chars (take n text) ≡ chars front ++ chars more
  whole = ap chars parts ∙ chars-append front more (IsUtf8-take text m u starts)

  some : 0 < length more
  some = omega (arith, length-take-le (n - m) (drop m text) (omega (arith, length-drop m text, ends.0)), less)

  go : (cs : List ℕ) → chars more ≡ cs → Precedes (place_at text m) (place_at text n)
  go [] e = absurd (omega (arith, some, ap length (sym (encodes-chars more (IsUtf8-between text m n u (omega (arith, less)) starts ends)) ∙ ap encode_utf8_all e)))
  go (x ∷ cs) e = subst (λ l. Precedes (place_at text m) (place_after l)) (sym (whole ∙ ap (λ l. chars front ++ l) e)) (front_precedes (chars front) x cs)

-- a token is spelled by some characters, the End apart
no_digits : (base : ℕ) (digits tail : List ℕ) → IsNumeral base digits → digits ++ tail ≡ [] → ⊥
no_digits base [] tail n e = true≢false (sym n.first)
no_digits base (d ∷ digits) tail n e = cc

no_integer : {s : List ℕ} {v : ℕ} → IsInteger s v → s ≡ [] → ⊥
no_integer (Decimal digits tail e n x) h = no_digits 10 digits tail n h
no_integer (Based base digits tail e n l m d x) h = no_digits 10 base (number_sign ∷ (digits ++ number_sign ∷ tail)) n h

no_real : {s : List ℕ} → IsReal s → s ≡ [] → ⊥
no_real (RealLiteral digits fraction tail e n f x) h = no_digits 10 digits (point ∷ (fraction ++ tail)) n h

not_empty : (before : Option Kind) (kind : Kind) → kind ≢ End → IsSpelling before kind [] → ⊥
not_empty before Ident more spelled = true≢false (sym spelled.0.first)
not_empty before (Word n) more spelled = true≢false (sym spelled.0.first)
not_empty before (Number z) more (v, number, e) = no_integer number refl
not_empty before Text more (quoted, q, e) = cc
not_empty before Letter more (a, (d, plain, e)) = cc
not_empty before Real more number = no_real number refl
not_empty before (Mark n) more at = no_empty_mark n at
not_empty before End more spelled = more refl

some_bytes : (before : Option Kind) (kind : Kind) (slice : List ℕ) → kind ≢ End → IsSpelling before kind slice → 0 < length (encode_utf8_all slice)
some_bytes before kind [] more spelled = absurd (not_empty before kind more spelled)
some_bytes before kind (c ∷ s) more spelled = omega (arith, length-le-encodes (c ∷ s))

-- tokens after a place start there or later
later : (spot : Spot) (tokens : List Token) (last : Spot) (final : Token) (rest : List ℕ) → AreNext spot tokens last → IsNext last final rest → (k : ℕ) (d : Token) → k < length (tokens ++ final ∷ []) → spot.at ≤ (slice_index_or (tokens ++ final ∷ []) k d).span.start
later spot [] last final rest e f zero d h = omega (arith, f.start, ap (λ (s : Spot). s.at) e)
later spot [] last final rest e f (suc k) d h = absurd (omega (arith, h))
later spot (t ∷ tokens) last final rest (r, n, more, l) f zero d h = omega (arith, n.start)
later spot (t ∷ tokens) last final rest (r, n, more, l) f (suc k) d h =
    let past : t.span.end ≤ (slice_index_or (tokens ++ final ∷ []) k d).span.start = later (after t r) tokens last final rest l f k d (omega (arith, h)) in
    omega (arith, n.start, n.end, past)

starts_rise : (spot : Spot) (tokens : List Token) (last : Spot) (final : Token) (rest : List ℕ) → AreNext spot tokens last → IsNext last final rest → (a b : ℕ) (d : Token) → a < b → b < length (tokens ++ final ∷ []) → (slice_index_or (tokens ++ final ∷ []) a d).span.start < (slice_index_or (tokens ++ final ∷ []) b d).span.start
starts_rise spot [] last final rest e f a b d less h = absurd (omega (arith, less, h))
starts_rise spot (t ∷ tokens) last final rest (r, n, more, l) f a zero d less h = absurd (omega (arith, less))
starts_rise spot (t ∷ tokens) last final rest (r, n, more, l) f zero (suc b) d less h =
    let past : t.span.end ≤ (slice_index_or (tokens ++ final ∷ []) b d).span.start = later (after t r) tokens last final rest l f b d (omega (arith, h)) in
    omega (arith, n.end, some_bytes spot.before t.kind n.slice more n.token_there.spelled, past)
starts_rise spot (t ∷ tokens) last final rest (r, n, more, l) f (suc a) (suc b) d less h =
    starts_rise (after t r) tokens last final rest l f a b d (omega (arith, less)) (omega (arith, h))

tokens_rise : (characters : List ℕ) (items : List Token) (a b : ℕ) (d : Token) → AreTokens characters items → a < b → b < length items → (slice_index_or items a d).span.start < (slice_index_or items b d).span.start
tokens_rise characters items a b d t less h =
    let P : List Token → Type 0 = λ l. b < length l → (slice_index_or l a d).span.start < (slice_index_or l b d).span.start in
    subst P (sym t.parts) (starts_rise (start_of characters) t.others t.spot t.last [] t.next t.final a b d less) h

lie_at : (text : List ℕ) (items : List Token) (k : ℕ) (d : Token) → All (λ t. LiesIn text t.span) items → k < length items → LiesIn text (slice_index_or items k d).span
lie_at text [] k d all h = absurd (omega (arith, h))
lie_at text (t ∷ items) zero d all h = All-head (λ x. LiesIn text x.span) t items all
lie_at text (t ∷ items) (suc k) d all h = lie_at text items k d (All-tail (λ x. LiesIn text x.span) t items all) (omega (arith, h))

-- each token of a text stands before those after it
pub stand_in_order : (text : List ℕ) (t : Tokenized) → AreLexed text t → StandInOrder t
stand_in_order text t lexed a b less h =
    let whole = are_whole text t.items lexed.readable.short lexed.readable.utf8 lexed.tokens_of lexed.limits in
    let rise = tokens_rise (chars text) t.items a b _ lexed.tokens_of less h in
    let first = (lie_at text t.items a _ whole.spans (omega (arith, less, h))).starts in
    let second = (lie_at text t.items b _ whole.spans h).starts in
    let P : List ℕ → Type 0 = λ l. Precedes (place_at l (span_at t.items a).start) (place_at l (span_at t.items b).start) in
    subst P (sym lexed.text_is) (byte_precedes text (span_at t.items a).start (span_at t.items b).start lexed.readable.utf8 first second rise)

never_precedes : (p : Place) → Precedes p p → ⊥
never_precedes p (inl h) = omega (arith, h)
never_precedes p (inr (e, h)) = omega (arith, h)

-- on which side of a token the one at a place stands
module _ (t : Tokenized) (at : Place) (ordered : StandInOrder t) (middle token : ℕ) (inside : token < length t.items) (here : place_of_token t token ≡ at) where
  pub comes_after : middle < length t.items → Precedes (place_of_token t middle) at → middle < token
  comes_after within before = ⊎_elim (λ less. less) (λ past. absurd (go past (cases_lt token middle))) (cases_lt middle token) where
    go : token ≤ middle → (token < middle) ⊎ (middle ≤ token) → ⊥
    go past (inl less) =
        let earlier = subst (λ p. Precedes p (place_of_token t middle)) here (ordered token middle less within) in
        never_precedes at (then_precedes at (place_of_token t middle) at earlier before)
    go past (inr most) =
        let same : middle ≡ token = omega (arith, past, most) in
        never_precedes at (subst (λ p. Precedes p at) (ap (place_of_token t) same ∙ here) before)

  pub comes_by : (Precedes (place_of_token t middle) at → ⊥) → token ≤ middle
  comes_by not_before = ⊎_elim (λ less. absurd (not_before (subst (Precedes (place_of_token t middle)) here (ordered middle token less inside)))) (λ past. past) (cases_lt middle token)
