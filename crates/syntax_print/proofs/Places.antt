-- Characters of a text by the bytes before them.
use Rattle.std.proofs.Common.{◌≡◌, ℕ, ◌+◌, ◌-◌, true, List, [], ◌∷◌, ◌++◌, length, take, drop, refl, sym, ap, ◌∙◌, append_assoc, arith, length-append}
use Rattle.std.specs.Prelude.{encode_utf8_all, slice_range}
use Rattle.std.specs.Str.{chars, IsUtf8}
use Rattle.std.proofs.Math.Utf8.{scalar, scalars}
use Rattle.std.proofs.Math.Seq.{take-append_seam, drop-append_seam}
use Rattle.std.proofs.lemmas.Bool.{and_parts, and_from}
use Rattle.std.proofs.lemmas.Str.{encodes-append, encodes-chars, scalars-chars}

-- these characters of the text are ahead at the byte `at`
pub record StandsAt (text : List ℕ) (at : ℕ) (ahead : List ℕ) : Type 0 where
  pub front : List ℕ
  pub parts : text ≡ front ++ encode_utf8_all ahead
  pub at_is : at ≡ length front
  pub are_scalars : scalars ahead ≡ true

pub scalars_parts : (a b : List ℕ) → scalars (a ++ b) ≡ true → (scalars a ≡ true) × (scalars b ≡ true)
scalars_parts [] b h = (refl, h)
scalars_parts (c ∷ a) b h = let first = and_parts (scalar c) _ h in let others = scalars_parts a b first.1 in (and_from _ _ first.0 others.0, others.1)

pub at_start : (text : List ℕ) → IsUtf8 text → StandsAt text 0 (chars text)
at_start text u = record { front = []; parts = sym (encodes-chars text u); at_is = refl; are_scalars = scalars-chars text u }

pub moved : (text : List ℕ) (at : ℕ) (ahead front more : List ℕ) → StandsAt text at ahead → ahead ≡ front ++ more → StandsAt text (at + length (encode_utf8_all front)) more
moved text at ahead front more s e =
    record {
      front = s.front ++ encode_utf8_all front;
      parts = s.parts ∙ (ap (λ x. s.front ++ encode_utf8_all x) e ∙ (ap (λ x. s.front ++ x) (encodes-append front more) ∙ sym (append_assoc s.front (encode_utf8_all front) (encode_utf8_all more))));
      at_is = ap (λ n. n + length (encode_utf8_all front)) s.at_is ∙ sym (length-append s.front (encode_utf8_all front));
      are_scalars = (scalars_parts front more (ap scalars (sym e) ∙ s.are_scalars)).1;
    }

pub cut : (text : List ℕ) (at : ℕ) (slice rest : List ℕ) → StandsAt text at (slice ++ rest) → slice_range text at (at + length (encode_utf8_all slice)) ≡ encode_utf8_all slice
cut text at slice rest s =
    let whole : text ≡ s.front ++ (encode_utf8_all slice ++ encode_utf8_all rest) = s.parts ∙ ap (λ x. s.front ++ x) (encodes-append slice rest) in
    let count : at + length (encode_utf8_all slice) - at ≡ length (encode_utf8_all slice) = omega arith in
    ap (λ n. take n (drop at text)) count
    ∙ (ap (λ n. take (length (encode_utf8_all slice)) (drop n text)) s.at_is
    ∙ (ap (λ x. take (length (encode_utf8_all slice)) (drop (length s.front) x)) whole
    ∙ (ap (take (length (encode_utf8_all slice))) (drop-append_seam s.front (encode_utf8_all slice ++ encode_utf8_all rest))
    ∙ take-append_seam (encode_utf8_all slice) (encode_utf8_all rest))))
