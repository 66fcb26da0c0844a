-- Each text has tokens within the limits, or a first fault.
use Rattle.std.proofs.Common.{◌≡◌, ◌≢◌, ◌⊎◌, inl, inr, ⊎_elim, ℕ, zero, suc, pos, negsuc, ◌+◌, ◌-◌, ◌<◌, ◌≤◌, ◌^◌, Bool, true, false, List, [], ◌∷◌, ◌++◌, length, take, Option, Some, None, refl, sym, ap, ◌∙◌, subst, arith, true≢false, length-append}
use Rattle.std.specs.Prelude.{encode_utf8_all}
use Rattle.std.specs.Str.{IsUtf8, IsValidUpTo, is_utf8, chars}
use Rattle.std.proofs.Math.Seq.{take_all}
use Rattle.std.proofs.lemmas.Bool.{cases_lt, cases_order}
use Rattle.std.proofs.lemmas.Int.{ints}
use Rattle.std.proofs.lemmas.List.Elements.{All-nil}
use Rattle.std.proofs.lemmas.Str.{IsUtf8-nil, IsUtf8-from_is_utf8, is_utf8-from_IsUtf8}
use Rattle.ada_base.specs.declared.token.Kind.{Kind}
use Rattle.ada_base.specs.declared.token.Kind.TheVariants.{Ident, Word, Number, Text, Letter, Real, Mark, End}
use Rattle.ada_base.specs.declared.token.Token.{Token}
use Rattle.ada_base.specs.Place.{place_at}
use Rattle.syntax_tree.specs.Faults.{IsNarrow, IsReadable, KeepLimits, Reaches, HasNoNext, IsBadToken, IsWideLiteral, IsTooLong, byte_limit, token_limit}
use Rattle.syntax_tree.specs.Faults.LexicalFault.{TooManyBytes, NoCharacter, NoToken, TooWide, TooManyTokens}
use Rattle.syntax_tree.specs.Gaps.{IsGap}
use Rattle.syntax_tree.specs.Spelling.{admits_letter}
use Rattle.syntax_tree.specs.Tokens.{Spot, start_of, after, IsNext, AreTokens}
use Rattle.syntax_lexer.proofs.Blank.{blank}
use Rattle.syntax_lexer.proofs.Edges.{begins_none}
use Rattle.syntax_lexer.proofs.Reaching.{reaches_more, all_tokens}
use Rattle.syntax_lexer.proofs.Spots.{none_taken}
use Rattle.syntax_lexer.proofs.TokenLaw.{token_found}
use Rattle.syntax_lexer.specs.declared.found.Found.{Found}
use Rattle.syntax_lexer.specs.Lexed.{HasAnswer}
use Rattle.syntax_lexer.specs.Reading.{beyond_gap, token_at}
use Rattle.syntax_lexer.specs.Stop.{spot_at}

-- the longest front that is UTF-8, from a length on down
record LongestFront (bytes : List ℕ) (most : ℕ) : Type 0 where
  size : ℕ
  within : size ≤ most
  front : IsUtf8 (take size bytes)
  longest : (m : ℕ) → size < m → IsUtf8 (take m bytes) → ⊥

longer_front : (bytes : List ℕ) (k : ℕ) → ((m : ℕ) → suc k < m → IsUtf8 (take m bytes) → ⊥) → (((m : ℕ) → k < m → IsUtf8 (take m bytes) → ⊥) → LongestFront bytes k) → (b : Bool) → is_utf8 (take (suc k) bytes) ≡ b → LongestFront bytes (suc k)
longer_front bytes k longer less true e = record { size = suc k; within = omega arith; front = IsUtf8-from_is_utf8 _ e; longest = longer }
longer_front bytes k longer less false e =
    let here : IsUtf8 (take (suc k) bytes) → ⊥ = λ u. true≢false (sym (is_utf8-from_IsUtf8 _ u) ∙ e) in
    let shorter = less (λ m more u. ⊎_elim (λ same. here (subst (λ n. IsUtf8 (take n bytes)) same u)) (⊎_elim (λ below. absurd (omega (arith, below, more))) (λ above. longer m above u)) (cases_order m (suc k))) in
    record { size = shorter.size; within = omega (arith, shorter.within); front = shorter.front; longest = shorter.longest }

longest_front : (bytes : List ℕ) (most : ℕ) → ((m : ℕ) → most < m → IsUtf8 (take m bytes) → ⊥) → LongestFront bytes most
longest_front bytes zero longer = record { size = 0; within = omega arith; front = IsUtf8-nil; longest = longer }
longest_front bytes (suc k) longer = longer_front bytes k longer (longest_front bytes k) (is_utf8 (take (suc k) bytes)) refl

-- text that isn't UTF-8 is so up to a byte at which it stops
valid_up_to : (bytes : List ℕ) → is_utf8 bytes ≡ false → (n : ℕ) × IsValidUpTo bytes n
valid_up_to [] e = absurd (true≢false (sym (is_utf8-from_IsUtf8 [] IsUtf8-nil) ∙ e))
valid_up_to (b ∷ bs) e =
    let whole : IsUtf8 (b ∷ bs) → ⊥ = λ u. true≢false (sym (is_utf8-from_IsUtf8 _ u) ∙ e) in
    let l = longest_front (b ∷ bs) (length bs) (λ m more u. whole (subst IsUtf8 (take_all m (b ∷ bs) (omega (arith, more))) u)) in
    (l.size, record { short = omega (arith, l.within); front = l.front; longest = l.longest })

-- a token stands next after a place, or none does
data Next (spot : Spot) : Type 0 where
  Nothing : (gap : List ℕ) → HasNoNext spot gap → Next spot
  There : (token : Token) (rest : List ℕ) → IsNext spot token rest → Next spot

next : (before : Option Kind) (at : ℕ) (cs : List ℕ) → Next (spot_at before at cs)
next before at cs = read (token_at (admits_letter before) (beyond_gap false cs)) refl where
  read : (x : Option (Found × List ℕ)) → token_at (admits_letter before) (beyond_gap false cs) ≡ x → Next (spot_at before at cs)
  read None h =
      let b = blank cs in
      Nothing b.gap record { rest = beyond_gap false cs; parts = b.parts; between = b.between; nothing = none_taken before _ h }
  read (Some (found, rest)) h =
      let b = blank cs in
      let t = token_found before (beyond_gap false cs) found rest h in
      let start : ℕ = at + length (encode_utf8_all b.gap) in
      There (record { kind = t.kind; span = record { start = start; end = start + length (encode_utf8_all t.slice) } }) rest record {
        gap = b.gap;
        slice = t.slice;
        parts = b.parts ∙ ap (λ s. b.gap ++ s) t.parts;
        between = subst (IsGap b.gap) t.parts b.between;
        token_there = t.token;
        start = refl;
        end = refl;
      }

narrow_or_wide : (kind : Kind) → IsNarrow kind ⊎ (IsNarrow kind → ⊥)
narrow_or_wide Ident = inl tt
narrow_or_wide (Word n) = inl tt
narrow_or_wide (Number (pos n)) = ⊎_elim (λ less. inl (omega (arith, ints, less))) (λ more. inr (λ less. absurd (omega (arith, ints, less, more)))) (cases_lt n (2 ^ 127))
narrow_or_wide (Number (negsuc n)) = inl (omega (arith, ints))
narrow_or_wide Text = inl tt
narrow_or_wide Letter = inl tt
narrow_or_wide Real = inl tt
narrow_or_wide (Mark n) = inl tt
narrow_or_wide End = inl tt

end_or_not : (kind : Kind) → (kind ≡ End) ⊎ (kind ≢ End)
end_or_not Ident = inr (λ e. cc)
end_or_not (Word n) = inr (λ e. cc)
end_or_not (Number z) = inr (λ e. cc)
end_or_not Text = inr (λ e. cc)
end_or_not Letter = inr (λ e. cc)
end_or_not Real = inr (λ e. cc)
end_or_not (Mark n) = inr (λ e. cc)
end_or_not End = inl refl

-- what characters come to, token by token
data Come (characters : List ℕ) : Type 0 where
  Whole : (items : List Token) → AreTokens characters items → KeepLimits items → Come characters
  Bad : (at : ℕ) → IsBadToken characters at → Come characters
  Wide : (at : ℕ) → IsWideLiteral characters at → Come characters
  Long : (at : ℕ) → IsTooLong characters at → Come characters

judged : (characters : List ℕ) (tokens : List Token) (spot : Spot) → Reaches characters tokens spot → Next spot → ((token : Token) (rest : List ℕ) → IsNext spot token rest → IsNarrow token.kind → token.kind ≢ End → Come characters) → Come characters
judged characters tokens spot r (Nothing gap none) more = Bad (spot.at + length (encode_utf8_all gap)) record { tokens = tokens; spot = spot; reaches = r; gap = gap; no_next = none; start = refl }
judged characters tokens spot r (There token rest there) more = ⊎_elim narrow wide (narrow_or_wide token.kind) where
  narrow : IsNarrow token.kind → Come characters
  narrow n =
      ⊎_elim
      (λ e. let w = all_tokens characters tokens (tokens ++ token ∷ []) spot token rest r there n e refl in Whole (tokens ++ token ∷ []) w.0 w.1)
      (λ goes_on. more token rest there n goes_on)
      (end_or_not token.kind)

  wide : (IsNarrow token.kind → ⊥) → Come characters
  wide w = Wide token.span.start record { tokens = tokens; spot = spot; reaches = r; token = token; rest = rest; next = there; wide = w; start = refl }

come : (room : ℕ) (characters : List ℕ) (tokens : List Token) (spot : Spot) → Reaches characters tokens spot → length tokens + room ≡ token_limit → Come characters
come zero characters tokens spot r e =
    judged characters tokens spot r (next spot.before spot.at spot.ahead) (λ token rest there narrow more. Long token.span.start record {
      tokens = tokens;
      spot = spot;
      reaches = r;
      full = omega (arith, e);
      token = token;
      rest = rest;
      next = there;
      narrow = narrow;
      more = more;
      start = refl;
    })
come (suc room) characters tokens spot r e =
    judged characters tokens spot r (next spot.before spot.at spot.ahead) (λ token rest there narrow more.
    come room characters (tokens ++ token ∷ []) (after token rest)
    (reaches_more characters tokens (tokens ++ token ∷ []) spot.before spot.at spot.ahead token rest r there narrow more (λ full. absurd (omega (arith, full, e))) refl)
    (omega (arith, e, length-append tokens (token ∷ []))))

readable : (text : List ℕ) → IsReadable text → Come (chars text) → HasAnswer text
readable text r (Whole items t k) = inl record { readable = r; items = items; tokens_of = t; limits = k }
readable text r (Bad at h) = inr record { fault = NoToken (place_at text at); first = (r, at, h, refl) }
readable text r (Wide at h) = inr record { fault = TooWide (place_at text at); first = (r, at, h, refl) }
readable text r (Long at h) = inr record { fault = TooManyTokens (token_limit + 1) (place_at text at); first = (r, at, h, refl, refl) }

short : (text : List ℕ) → length text ≤ byte_limit → (b : Bool) → is_utf8 text ≡ b → HasAnswer text
short text within true e =
    let first : Reaches (chars text) [] (start_of (chars text)) = record { next = refl; few = omega arith; narrow = All-nil (λ (t : Token). IsNarrow t.kind) } in
    readable text (record { short = within; utf8 = IsUtf8-from_is_utf8 text e }) (come token_limit (chars text) [] (start_of (chars text)) first refl)
short text within false e = let v = valid_up_to text e in inr record { fault = NoCharacter v.0; first = (within, begins_none text v.0 v.1) }

pub has_answer : (text : List ℕ) → HasAnswer text
has_answer text =
    ⊎_elim
    (λ big. inr record { fault = TooManyBytes (length text); first = (big, refl) })
    (λ within. short text within (is_utf8 text) refl)
    (cases_lt byte_limit (length text))
