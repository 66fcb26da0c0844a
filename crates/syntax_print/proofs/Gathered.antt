-- The pieces that the canonical text has for the tokens of a text.
use Rattle.std.proofs.Common.{◌≡◌, ◌≢◌, ℕ, pos, ◌^◌, ◌<◌, true, List, [], ◌∷◌, ◌++◌, map, Option, Some, slice_get, refl, sym, ap, ◌∙◌, subst, arith}
use Rattle.std.specs.Prelude.{encode_utf8_all, decimal, All, unwrap_or, slice_range, ◌<ℤ◌}
use Rattle.std.specs.Fmt.{signed_decimal}
use Rattle.std.specs.Char.{to_ascii_lowercase}
use Rattle.std.specs.List.{list_all}
use Rattle.std.proofs.Math.Utf8.{scalars}
use Rattle.std.proofs.lemmas.Bool.{and_parts, true≢false}
use Rattle.std.proofs.lemmas.Int.{ints}
use Rattle.std.proofs.lemmas.List.Elements.{All-head, All-tail}
use Rattle.ada_base.specs.declared.token.Kind.{Kind}
use Rattle.ada_base.specs.declared.token.Kind.TheVariants.{Ident, Word, Number, Text, Letter, Real, Mark, End}
use Rattle.ada_base.specs.declared.token.Token.{Token}
use Rattle.syntax_tree.specs.Faults.{IsNarrow}
use Rattle.syntax_tree.specs.Spelling.{IsSpelling}
use Rattle.ada_base.specs.TokenKinds.{kind_number}
use Rattle.syntax_tree.specs.Tokens.{Spot, after, AreNext}
use Rattle.syntax_tree.specs.Words.{words, marks}
use Rattle.syntax_print.specs.Canonical.{entry, written, written_in}
use Rattle.syntax_print.specs.Spoken.{is_spoken}
use Rattle.syntax_print.proofs.Breaks.{small_bytes, small_scalars}
use Rattle.syntax_print.proofs.Built.{AllPieces, kinds, bytes_of}
use Rattle.syntax_print.proofs.Numbers.{decimal_is}
use Rattle.syntax_print.proofs.Pieces.{Piece, IsPiece}
use Rattle.syntax_print.proofs.Places.{StandsAt, scalars_parts, moved, cut}
use Rattle.syntax_print.proofs.Tables.{word_at, mark_at}

entry_at : (texts : List (List ℕ)) (n : ℕ) (s : List ℕ) → slice_get texts n ≡ Some s → entry texts n ≡ s
entry_at texts n s at = ap (λ o. unwrap_or o []) at

-- the piece of a token with this kind and this slice
record PieceOf (kind : Kind) (slice : List ℕ) : Type 0 where
  own : List ℕ
  is : IsPiece (record { kind = kind; slice = own })
  bytes : encode_utf8_all own ≡ written kind (encode_utf8_all slice)

narrow_value : (z : _) (v : ℕ) → z ≡ pos v → z <ℤ pos (2 ^ 127) → v < 2 ^ 127
narrow_value z v e h = let less : pos v <ℤ pos (2 ^ 127) = subst (λ x. x <ℤ pos (2 ^ 127)) e h in omega (arith, ints, less)

piece_of : (before : Option Kind) (kind : Kind) (slice : List ℕ) → IsSpelling before kind slice → is_spoken (kind_number kind) ≡ true → kind ≢ End → IsNarrow kind → scalars slice ≡ true → PieceOf kind slice
piece_of before Ident slice spelled spoken more narrow s =
    record { own = slice; is = record { spelled = λ b. spelled; plain = refl; narrow = tt; are_scalars = s; stays = refl }; bytes = refl }
piece_of before (Word n) slice (shape, at) spoken more narrow s =
    let w = word_at n (map to_ascii_lowercase slice) at in
    let same : encode_utf8_all (map to_ascii_lowercase slice) ≡ entry words n = small_bytes (map to_ascii_lowercase slice) w.small ∙ sym (entry_at words n (map to_ascii_lowercase slice) at) in
    record {
      own = map to_ascii_lowercase slice;
      is = record { spelled = λ b. (w.shape, at ∙ ap Some (sym w.lower)); plain = refl; narrow = tt; are_scalars = small_scalars (map to_ascii_lowercase slice) w.small; stays = sym same };
      bytes = same;
    }
piece_of before (Number z) slice (v, i, e) spoken more narrow s =
    let d = decimal_is v (narrow_value z v e narrow) in
    let same : encode_utf8_all (decimal v) ≡ signed_decimal z = small_bytes (decimal v) d.small ∙ sym (ap signed_decimal e) in
    record {
      own = decimal v;
      is = record { spelled = λ b. (v, d.integer, e); plain = refl; narrow = narrow; are_scalars = small_scalars (decimal v) d.small; stays = sym same };
      bytes = same;
    }
piece_of before Text slice spelled spoken more narrow s =
    record { own = slice; is = record { spelled = λ b. spelled; plain = refl; narrow = tt; are_scalars = s; stays = refl }; bytes = refl }
piece_of before Letter slice spelled spoken more narrow s = absurd (true≢false (sym spoken))
piece_of before Real slice spelled spoken more narrow s = absurd (true≢false (sym spoken))
piece_of before (Mark n) slice at spoken more narrow s =
    let m = mark_at n slice at in
    let same : encode_utf8_all slice ≡ entry marks n = small_bytes slice m.small ∙ sym (entry_at marks n slice at) in
    record {
      own = slice;
      is = record { spelled = λ b. at; plain = refl; narrow = tt; are_scalars = s; stays = sym same };
      bytes = same;
    }
piece_of before End slice spelled spoken more narrow s = absurd (more refl)

-- ---- along the text

pub record Gathered (text : List ℕ) (tokens : List Token) : Type 0 where
  pub pieces : List Piece
  pub are : AllPieces pieces
  pub kinds_are : kinds pieces ≡ map (λ (t : Token). kind_number t.kind) tokens
  pub same : map (λ (p : Piece). p.kind) pieces ≡ map (λ (t : Token). t.kind) tokens
  pub bytes_are : map bytes_of pieces ≡ map (written_in text) tokens

pub gather : (text : List ℕ) (spot : Spot) (tokens : List Token) (last : Spot) → StandsAt text spot.at spot.ahead → AreNext spot tokens last → All (λ t. IsNarrow t.kind) tokens → list_all is_spoken (map (λ (t : Token). kind_number t.kind) tokens) ≡ true → Gathered text tokens
gather text spot [] last s e narrow spoken = record { pieces = []; are = tt; kinds_are = refl; same = refl; bytes_are = refl }
gather text spot (t ∷ tokens) last s (rest, n, more, later) narrow spoken =
    let P : Token → Type 0 = λ x. IsNarrow x.kind in
    let told = and_parts (is_spoken (kind_number t.kind)) _ spoken in
    let begin : StandsAt text t.span.start (n.slice ++ rest) = subst (λ at. StandsAt text at (n.slice ++ rest)) (sym n.start) (moved text spot.at spot.ahead n.gap (n.slice ++ rest) s n.parts) in
    let end : StandsAt text t.span.end rest = subst (λ at. StandsAt text at rest) (sym n.end) (moved text t.span.start (n.slice ++ rest) n.slice rest begin refl) in
    let own = piece_of spot.before t.kind n.slice n.token_there.spelled told.0 more (All-head P t tokens narrow) (scalars_parts n.slice rest begin.are_scalars).0 in
    let here : slice_range text t.span.start t.span.end ≡ encode_utf8_all n.slice = ap (slice_range text t.span.start) n.end ∙ cut text t.span.start n.slice rest begin in
    let first : encode_utf8_all own.own ≡ written_in text t = own.bytes ∙ ap (written t.kind) (sym here) in
    let g = gather text (after t rest) tokens last end later (All-tail P t tokens narrow) told.1 in
    record {
      pieces = record { kind = t.kind; slice = own.own } ∷ g.pieces;
      are = (own.is, g.are);
      kinds_are = ap (λ ks. kind_number t.kind ∷ ks) g.kinds_are;
      same = ap (λ ks. t.kind ∷ ks) g.same;
      bytes_are = ap (λ b. b ∷ map bytes_of g.pieces) first ∙ ap (λ bs. written_in text t ∷ bs) g.bytes_are;
    }
