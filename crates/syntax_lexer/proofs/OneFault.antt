-- A text has one first fault at most, and none if it has tokens within the limits.
use Rattle.std.proofs.Common.{◌≡◌, ⊎_elim, ℕ, ◌+◌, ◌-◌, ◌<◌, ◌≤◌, true, List, [], ◌∷◌, ◌++◌, length, take, drop, sym, ap, ◌∙◌, subst, arith, length-drop, append_assoc}
use Rattle.std.specs.Prelude.{encode_utf8, encode_utf8_all}
use Rattle.std.specs.Char.{IsScalar}
use Rattle.std.specs.Str.{IsUtf8, chars}
use Rattle.std.proofs.Math.Utf8.{scalars}
use Rattle.std.proofs.Math.Seq.{take-add, take-append_seam}
use Rattle.std.proofs.lemmas.Bool.{and_parts, cases_order}
use Rattle.std.proofs.lemmas.List.{take-append-drop, drop-take, length-take-le}
use Rattle.std.proofs.lemmas.Str.{IsCharBoundary-from_take, IsUtf8-drop}
use Rattle.ada_base.specs.declared.token.Token.{Token}
use Rattle.ada_base.specs.Place.{place_at}
use Rattle.syntax_tree.specs.Faults.{LexicalFault, IsFirstFault, IsReadable, BeginsNoCharacter, KeepLimits}
use Rattle.syntax_tree.specs.Faults.LexicalFault.{TooManyBytes, NoCharacter, NoToken, TooWide, TooManyTokens}
use Rattle.syntax_tree.specs.Tokens.{AreTokensOf}
use Rattle.syntax_lexer.proofs.OneList.{one_bad, one_wide, one_long, bad_or_wide, bad_or_long, wide_or_long, tokens_or_bad, tokens_or_wide, tokens_or_long}

record BeginsCharacter (bytes : List ℕ) : Type 0 where
  character : ℕ
  rest : List ℕ
  scalar : IsScalar character
  parts : bytes ≡ encode_utf8 character ++ rest

-- UTF-8 that isn't empty begins with a character
begins : (bytes cs : List ℕ) → scalars cs ≡ true → encode_utf8_all cs ≡ bytes → 0 < length bytes → BeginsCharacter bytes
begins bytes [] s e some = absurd (omega (arith, some, ap length e))
begins bytes (c ∷ cs) s e some = record { character = c; rest = encode_utf8_all cs; scalar = (and_parts _ (scalars cs) s).0; parts = sym e }

-- after characters a text of UTF-8 goes on with a character
goes_on : (text : List ℕ) (at : ℕ) → IsUtf8 text → IsUtf8 (take at text) → at < length text → BeginsCharacter (drop at text)
goes_on text at whole front below =
    let tail = IsUtf8-drop text at whole (IsCharBoundary-from_take text at whole (omega (arith, below)) front) in
    begins (drop at text) tail.0 tail.1.0 tail.1.1 (omega (arith, length-drop at text, below))

readable : (text : List ℕ) (at : ℕ) → IsUtf8 text → BeginsNoCharacter text at → ⊥
readable text at whole none =
    let c = goes_on text at whole none.front none.inside in
    none.nothing c.character c.rest c.scalar c.parts

take_front : (bytes : List ℕ) (n k : ℕ) → n ≤ length bytes → take n (take (n + k) bytes) ≡ take n bytes
take_front bytes n k short =
    let size : length (take n bytes) ≡ n = length-take-le n bytes short in
    ap (take n) (take-add n k bytes) ∙ seam (take n bytes) (take k (drop n bytes)) n size
  where
    seam : (xs ys : List ℕ) (m : ℕ) → length xs ≡ m → take m (xs ++ ys) ≡ xs
    seam xs ys m e = ap (λ j. take j (xs ++ ys)) (sym e) ∙ take-append_seam xs ys

begins_before : (bytes : List ℕ) (k c : ℕ) (rest : List ℕ) → take k bytes ≡ encode_utf8 c ++ rest → bytes ≡ encode_utf8 c ++ (rest ++ drop k bytes)
begins_before bytes k c rest e = sym (take-append-drop k bytes) ∙ (ap (λ s. s ++ drop k bytes) e ∙ append_assoc (encode_utf8 c) rest (drop k bytes))

-- a later byte can't be the first
after_first : (text : List ℕ) (at k : ℕ) → 0 < k → BeginsNoCharacter text at → BeginsNoCharacter text (at + k) → ⊥
after_first text at k some none other =
    let front : IsUtf8 (take at (take (at + k) text)) = subst IsUtf8 (sym (take_front text at k (omega (arith, none.inside)))) none.front in
    let long : length (take (at + k) text) ≡ at + k = length-take-le (at + k) text (omega (arith, other.inside)) in
    let c = goes_on (take (at + k) text) at other.front front (omega (arith, long, some)) in
    let tail = begins_before (drop at text) k c.character c.rest (sym (drop-take at k text) ∙ c.parts) in
    none.nothing c.character (c.rest ++ drop k (drop at text)) c.scalar tail

earlier : (text : List ℕ) (at later : ℕ) → at < later → BeginsNoCharacter text at → BeginsNoCharacter text later → ⊥
earlier text at later below none other =
    let step : later ≡ at + (later - at) = omega (arith, below) in
    after_first text at (later - at) (omega (arith, below)) none (subst (BeginsNoCharacter text) step other)

one_character : (text : List ℕ) (m n : ℕ) → BeginsNoCharacter text m → BeginsNoCharacter text n → m ≡ n
one_character text m n b d = ⊎_elim (λ e. e) (⊎_elim (λ less. absurd (earlier text m n less b d)) (λ more. absurd (earlier text n m more d b))) (cases_order m n)

pub one_fault : (text : List ℕ) (f g : LexicalFault) → IsFirstFault text f → IsFirstFault text g → f ≡ g
one_fault text (TooManyBytes m) (TooManyBytes n) h k = ap TooManyBytes (h.1 ∙ sym k.1)
one_fault text (TooManyBytes m) (NoCharacter n) h k = absurd (omega (arith, h.0, k.0))
one_fault text (TooManyBytes m) (NoToken n) h k = absurd (omega (arith, h.0, k.0.short))
one_fault text (TooManyBytes m) (TooWide n) h k = absurd (omega (arith, h.0, k.0.short))
one_fault text (TooManyBytes m) (TooManyTokens c n) h k = absurd (omega (arith, h.0, k.0.short))
one_fault text (NoCharacter m) (TooManyBytes n) h k = absurd (omega (arith, h.0, k.0))
one_fault text (NoCharacter m) (NoCharacter n) h k = ap NoCharacter (one_character text m n h.1 k.1)
one_fault text (NoCharacter m) (NoToken n) h k = absurd (readable text m k.0.utf8 h.1)
one_fault text (NoCharacter m) (TooWide n) h k = absurd (readable text m k.0.utf8 h.1)
one_fault text (NoCharacter m) (TooManyTokens c n) h k = absurd (readable text m k.0.utf8 h.1)
one_fault text (NoToken m) (TooManyBytes n) h k = absurd (omega (arith, k.0, h.0.short))
one_fault text (NoToken m) (NoCharacter n) h k = absurd (readable text n h.0.utf8 k.1)
one_fault text (NoToken m) (NoToken n) h k = ap NoToken (h.3 ∙ (ap (place_at text) (one_bad (chars text) h.1 k.1 h.2 k.2) ∙ sym k.3))
one_fault text (NoToken m) (TooWide n) h k = absurd (bad_or_wide (chars text) h.1 k.1 h.2 k.2)
one_fault text (NoToken m) (TooManyTokens c n) h k = absurd (bad_or_long (chars text) h.1 k.1 h.2 k.2)
one_fault text (TooWide m) (TooManyBytes n) h k = absurd (omega (arith, k.0, h.0.short))
one_fault text (TooWide m) (NoCharacter n) h k = absurd (readable text n h.0.utf8 k.1)
one_fault text (TooWide m) (NoToken n) h k = absurd (bad_or_wide (chars text) k.1 h.1 k.2 h.2)
one_fault text (TooWide m) (TooWide n) h k = ap TooWide (h.3 ∙ (ap (place_at text) (one_wide (chars text) h.1 k.1 h.2 k.2) ∙ sym k.3))
one_fault text (TooWide m) (TooManyTokens c n) h k = absurd (wide_or_long (chars text) h.1 k.1 h.2 k.2)
one_fault text (TooManyTokens c m) (TooManyBytes n) h k = absurd (omega (arith, k.0, h.0.short))
one_fault text (TooManyTokens c m) (NoCharacter n) h k = absurd (readable text n h.0.utf8 k.1)
one_fault text (TooManyTokens c m) (NoToken n) h k = absurd (bad_or_long (chars text) k.1 h.1 k.2 h.2)
one_fault text (TooManyTokens c m) (TooWide n) h k = absurd (wide_or_long (chars text) k.1 h.1 k.2 h.2)
one_fault text (TooManyTokens c m) (TooManyTokens d n) h k =
    let places : m ≡ n = h.4 ∙ (ap (place_at text) (one_long (chars text) h.1 k.1 h.2 k.2) ∙ sym k.4) in
    ap (λ x. TooManyTokens x m) (h.3 ∙ sym k.3) ∙ ap (TooManyTokens d) places

pub no_fault : (text : List ℕ) (items : List Token) (f : LexicalFault) → IsReadable text → AreTokensOf text items → KeepLimits items → IsFirstFault text f → ⊥
no_fault text items (TooManyBytes m) r t k h = absurd (omega (arith, h.0, r.short))
no_fault text items (NoCharacter m) r t k h = readable text m r.utf8 h.1
no_fault text items (NoToken m) r t k h = tokens_or_bad (chars text) items t k h.1 h.2
no_fault text items (TooWide m) r t k h = tokens_or_wide (chars text) items t k h.1 h.2
no_fault text items (TooManyTokens c m) r t k h = tokens_or_long (chars text) items t k h.1 h.2
