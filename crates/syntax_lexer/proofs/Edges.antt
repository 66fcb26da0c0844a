-- Tokens and faults stand at edges of characters.
use Rattle.std.proofs.Common.{◌≡◌, ◌↔◌, ℕ, zero, suc, ◌+◌, ◌<◌, ◌≤◌, true, List, [], ◌∷◌, ◌++◌, length, take, drop, refl, sym, ap, ◌∙◌, subst, append_assoc, arith, length-append}
use Rattle.std.specs.Prelude.{encode_utf8, encode_utf8_all, All, slice_index_or}
use Rattle.std.specs.Str.{chars, IsUtf8, IsCharBoundary, IsValidUpTo, StartsWithNoChar}
use Rattle.std.proofs.Math.Utf8.{scalars}
use Rattle.std.proofs.Math.Seq.{take-append_seam}
use Rattle.std.proofs.lemmas.Bool.{and_parts}
use Rattle.std.proofs.lemmas.List.{take-append-drop, length-take-le}
use Rattle.std.proofs.lemmas.List.Elements.{All-nil, All-cons, All-append}
use Rattle.std.proofs.lemmas.Str.{encodes-append, encodes-chars, scalars-chars, IsCharBoundary-at_seam, length-encode, len_utf8_bounds, IsUtf8-append, IsUtf8-encode}
use Rattle.ada_base.specs.declared.token.Kind.TheVariants.{End}
use Rattle.ada_base.specs.declared.token.Token.{Token}
use Rattle.ada_base.specs.Tokens.{Tokenized, LiesIn, IsWhole}
use Rattle.syntax_tree.specs.Faults.{KeepLimits, BeginsNoCharacter, IsBadToken, IsWideLiteral, IsTooLong, byte_limit}
use Rattle.syntax_lexer.specs.Lexed.{AreLexed}
use Rattle.syntax_tree.specs.Tokens.{Spot, start_of, after, IsNext, AreNext, AreTokens}

-- these characters of the text are ahead at the byte `at`
pub record StandsAt (text : List ℕ) (at : ℕ) (ahead : List ℕ) : Type 0 where
  pub front : List ℕ
  pub parts : text ≡ front ++ encode_utf8_all ahead
  pub at_is : at ≡ length front
  pub are_scalars : scalars ahead ≡ true

scalars_after : (a b : List ℕ) → scalars (a ++ b) ≡ true → scalars b ≡ true
scalars_after [] b h = h
scalars_after (c ∷ a) b h = scalars_after a b (and_parts _ (scalars (a ++ b)) h).1

at_start : (text : List ℕ) → IsUtf8 text → StandsAt text 0 (chars text)
at_start text u = record { front = []; parts = sym (encodes-chars text u); at_is = refl; are_scalars = scalars-chars text u }

moved : (text : List ℕ) (at : ℕ) (ahead gap more : List ℕ) → StandsAt text at ahead → ahead ≡ gap ++ more → StandsAt text (at + length (encode_utf8_all gap)) more
moved text at ahead gap more s e =
    record {
      front = s.front ++ encode_utf8_all gap;
      parts = s.parts ∙ (ap (λ x. s.front ++ encode_utf8_all x) e ∙ (ap (λ x. s.front ++ x) (encodes-append gap more) ∙ sym (append_assoc s.front (encode_utf8_all gap) (encode_utf8_all more))));
      at_is = ap (λ n. n + length (encode_utf8_all gap)) s.at_is ∙ sym (length-append s.front (encode_utf8_all gap));
      are_scalars = scalars_after gap more (ap scalars (sym e) ∙ s.are_scalars);
    }

edge : (text : List ℕ) (at : ℕ) (ahead : List ℕ) → StandsAt text at ahead → IsCharBoundary text at
edge text at ahead s = rw s.at_is (IsCharBoundary-at_seam text s.front (encode_utf8_all ahead) s.parts (ahead, (s.are_scalars, refl)))

-- where a token begins, and where it ends
begins : (text : List ℕ) (spot : Spot) (token : Token) (rest : List ℕ) → StandsAt text spot.at spot.ahead → (n : IsNext spot token rest) → StandsAt text token.span.start (n.slice ++ rest)
begins text spot token rest s n = subst (λ at. StandsAt text at (n.slice ++ rest)) (sym n.start) (moved text spot.at spot.ahead n.gap (n.slice ++ rest) s n.parts)

ends : (text : List ℕ) (spot : Spot) (token : Token) (rest : List ℕ) → StandsAt text spot.at spot.ahead → IsNext spot token rest → StandsAt text token.span.end rest
ends text spot token rest s n = subst (λ at. StandsAt text at rest) (sym n.end) (moved text token.span.start (n.slice ++ rest) n.slice rest (begins text spot token rest s n) refl)

lies : (text : List ℕ) (spot : Spot) (token : Token) (rest : List ℕ) → StandsAt text spot.at spot.ahead → IsNext spot token rest → LiesIn text token.span
lies text spot token rest s n =
    record { ordered = omega (arith, n.end); starts = edge text _ _ (begins text spot token rest s n); ends = edge text _ rest (ends text spot token rest s n) }

-- after tokens
reached : (text : List ℕ) (spot : Spot) (tokens : List Token) (last : Spot) → StandsAt text spot.at spot.ahead → AreNext spot tokens last → StandsAt text last.at last.ahead
reached text spot [] last s e = subst (λ x. StandsAt text x.at x.ahead) e s
reached text spot (t ∷ tokens) last s (rest, n, more, later) = reached text (after t rest) tokens last (ends text spot t rest s n) later

all_lie : (text : List ℕ) (spot : Spot) (tokens : List Token) (last : Spot) → StandsAt text spot.at spot.ahead → AreNext spot tokens last → All (λ t. LiesIn text t.span) tokens
all_lie text spot [] last s e = All-nil (λ t. LiesIn text t.span)
all_lie text spot (t ∷ tokens) last s (rest, n, more, later) =
    All-cons (λ x. LiesIn text x.span) t tokens (lies text spot t rest s n) (all_lie text (after t rest) tokens last (ends text spot t rest s n) later)

-- the last token and no other is the End
end_is_last : (spot : Spot) (others : List Token) (before : Spot) (last : Token) → AreNext spot others before → last.kind ≡ End → (k : ℕ) (d : Token) → k < length (others ++ last ∷ []) → ((slice_index_or (others ++ last ∷ []) k d).kind ≡ End) ↔ (k + 1 ≡ length (others ++ last ∷ []))
end_is_last spot [] before last e is_end zero d h = (λ _. refl, λ _. is_end)
end_is_last spot [] before last e is_end (suc k) d h = absurd (omega (arith, h))
end_is_last spot (t ∷ others) before last (rest, n, more, later) is_end zero d h =
    (λ here. absurd (more here), λ short. absurd (omega (arith, short, length-append others (last ∷ []))))
end_is_last spot (t ∷ others) before last (rest, n, more, later) is_end (suc k) d h =
    let same = end_is_last (after t rest) others before last later is_end k d (omega (arith, h)) in
    (λ here. let e = same.0 here in omega (arith, e), λ e. same.1 (omega (arith, e)))

pub are_whole : (text : List ℕ) (items : List Token) → length text ≤ byte_limit → IsUtf8 text → AreTokens (chars text) items → KeepLimits items → IsWhole text items
are_whole text items short u t k =
    let there = reached text (start_of (chars text)) t.others t.spot (at_start text u) t.next in
    record {
      spans = rw t.parts (All-append (λ x. LiesIn text x.span) t.others (t.last ∷ []) (all_lie text (start_of (chars text)) t.others t.spot (at_start text u) t.next) (All-cons (λ x. LiesIn text x.span) t.last [] (lies text t.spot t.last [] there t.final) (All-nil (λ x. LiesIn text x.span))));
      ends_once = rw t.parts record { not_empty = omega (arith, length-append t.others (t.last ∷ [])); end_is_last = end_is_last (start_of (chars text)) t.others t.spot t.last t.next t.is_end };
      countable_items = omega (arith, k.few);
      countable_text = omega (arith, short);
    }

pub bad_edge : (text : List ℕ) (at : ℕ) → IsUtf8 text → IsBadToken (chars text) at → IsCharBoundary text at
bad_edge text at u b =
    let there = reached text (start_of (chars text)) b.tokens b.spot (at_start text u) b.reaches.next in
    rw b.start (edge text _ b.no_next.rest (moved text b.spot.at b.spot.ahead b.gap b.no_next.rest there b.no_next.parts))

pub wide_edge : (text : List ℕ) (at : ℕ) → IsUtf8 text → IsWideLiteral (chars text) at → IsCharBoundary text at
wide_edge text at u b =
    let there = reached text (start_of (chars text)) b.tokens b.spot (at_start text u) b.reaches.next in
    rw b.start (edge text _ _ (begins text b.spot b.token b.rest there b.next))

pub long_edge : (text : List ℕ) (at : ℕ) → IsUtf8 text → IsTooLong (chars text) at → IsCharBoundary text at
long_edge text at u b =
    let there = reached text (start_of (chars text)) b.tokens b.spot (at_start text u) b.reaches.next in
    rw b.start (edge text _ _ (begins text b.spot b.token b.rest there b.next))

-- where no front is UTF-8 that is longer, no character begins
pub begins_none : (bytes : List ℕ) (n : ℕ) → IsValidUpTo bytes n → BeginsNoCharacter bytes n
begins_none bytes n v = record { inside = v.short; front = v.front; nothing = none } where
  none : StartsWithNoChar (drop n bytes)
  none c rest scalar e =
      let whole : bytes ≡ (take n bytes ++ encode_utf8 c) ++ rest = sym (take-append-drop n bytes) ∙ (ap (λ s. take n bytes ++ s) e ∙ sym (append_assoc (take n bytes) (encode_utf8 c) rest)) in
      let size : length (take n bytes ++ encode_utf8 c) ≡ n + length (encode_utf8 c) = length-append (take n bytes) (encode_utf8 c) ∙ ap (λ k. k + length (encode_utf8 c)) (length-take-le n bytes (omega (arith, v.short))) in
      let front : take (n + length (encode_utf8 c)) bytes ≡ take n bytes ++ encode_utf8 c = ap (λ k. take k bytes) (sym size) ∙ (ap (take (length (take n bytes ++ encode_utf8 c))) whole ∙ take-append_seam (take n bytes ++ encode_utf8 c) rest) in
      let some : 1 ≤ length (encode_utf8 c) = omega (arith, length-encode c, (len_utf8_bounds c).0) in
      v.longest (n + length (encode_utf8 c)) (omega (arith, some)) (subst IsUtf8 (sym front) (IsUtf8-append (take n bytes) (encode_utf8 c) v.front (IsUtf8-encode c scalar)))

pub are_lexed : (text : List ℕ) (tokens : Tokenized) (bytes : List ℕ) (items : List Token) → length text ≤ byte_limit → IsUtf8 text → AreTokens (chars text) items → KeepLimits items → bytes ≡ text → tokens.text ≡ bytes → tokens.items ≡ items → AreLexed text tokens
are_lexed text tokens bytes items short u t k same text_is items_is =
    record {
      text_is = text_is ∙ same;
      readable = record { short = short; utf8 = u };
      tokens_of = subst (AreTokens (chars text)) (sym items_is) t;
      limits = subst KeepLimits (sym items_is) k;
    }
