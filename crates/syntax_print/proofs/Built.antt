-- The tokens of a canonical text.
use Rattle.std.proofs.Common.{◌≡◌, ℕ, ◌+◌, true, false, ◌==◌, List, [], ◌∷◌, ◌++◌, map, length, Option, Some, None, refl, sym, ap, subst, ◌∙◌, append_assoc, arith, lit<, length-append}
use Rattle.std.specs.Prelude.{encode_utf8_all, All, slice_range}
use Rattle.std.specs.List.{join_with_byte}
use Rattle.std.proofs.Math.Utf8.{scalar, scalars}
use Rattle.std.proofs.lemmas.Bool.{eq-eqb, and_parts, and_from, true≢false, not-true, false_from_ne_true}
use Rattle.std.proofs.lemmas.List.Elements.{All-nil, All-cons}
use Rattle.std.proofs.lemmas.Str.{encodes-append, encode_ascii}
use Rattle.ada_base.specs.declared.token.Kind.{Kind}
use Rattle.ada_base.specs.declared.token.Kind.TheVariants.{End}
use Rattle.ada_base.specs.declared.token.Token.{Token}
use Rattle.syntax_tree.specs.Faults.{IsNarrow}
use Rattle.syntax_tree.specs.Gaps.{IsGap, begins_gap}
use Rattle.syntax_tree.specs.Gaps.IsGap.{Nothing, White}
use Rattle.ada_base.specs.Kinds.{tick}
use Rattle.syntax_tree.specs.Spelling.{IsTokenAt}
use Rattle.ada_base.specs.TokenKinds.{kind_number}
use Rattle.syntax_tree.specs.Tokens.{Spot, start_of, IsNext, AreNext}
use Rattle.syntax_print.specs.Canonical.{written, written_in}
use Rattle.syntax_print.specs.Spoken.{ticks_followed}
use Rattle.syntax_print.proofs.Breaks.{space_breaks, line_breaks, small_bytes}
use Rattle.syntax_print.proofs.Places.{StandsAt, moved, cut}
use Rattle.syntax_print.proofs.Pieces.{Piece, IsPiece, is_plain, piece_begins, no_gap, begins_tick, token_there}

abbrev pub AllPieces : List Piece → Type 0
AllPieces [] = Unit {0}
AllPieces (p ∷ ps) = IsPiece p × AllPieces ps

abbrev pub kinds : List Piece → List ℕ
kinds [] = []
kinds (p ∷ ps) = kind_number p.kind ∷ kinds ps

-- what follows a piece
abbrev pub after_piece : List Piece → List ℕ
after_piece [] = 10 ∷ []
after_piece (p ∷ ps) = 32 ∷ (p.slice ++ after_piece ps)

-- all characters of the text
abbrev pub whole : List Piece → List ℕ
whole [] = 10 ∷ []
whole (p ∷ ps) = p.slice ++ after_piece ps

followed : (before : Option Kind) (p : Piece) (ps : List Piece) → IsPiece p → AllPieces ps → ticks_followed (kinds (p ∷ ps)) ≡ true → IsTokenAt before p.kind p.slice (after_piece ps)
followed before p [] is others ticks = token_there p 10 [] is line_breaks before (λ h. refl)
followed before p (q ∷ ps) is (next, others) ticks = token_there p 32 (q.slice ++ after_piece ps) is space_breaks before apart where
  apart : kind_number p.kind ≡ tick → begins_tick (q.slice ++ after_piece ps) ≡ false
  apart h =
      let g = piece_begins q next in
      let alone = not-true _ (and_parts _ _ ticks).0 in
      ap (λ s. begins_tick (s ++ after_piece ps)) g.parts
      ∙ false_from_ne_true (g.first == 39) (λ e. true≢false (sym (and_from _ _ (eq-eqb (kind_number p.kind) tick h) (eq-eqb (kind_number q.kind) tick (g.is_tick e))) ∙ alone))

gap_none : (p : Piece) (ps : List Piece) → IsPiece p → begins_gap (p.slice ++ after_piece ps) ≡ false
gap_none p [] is = no_gap p 10 [] is line_breaks
gap_none p (q ∷ ps) is = no_gap p 32 (q.slice ++ after_piece ps) is space_breaks

ticks_after : (p : Piece) (ps : List Piece) → ticks_followed (kinds (p ∷ ps)) ≡ true → ticks_followed (kinds ps) ≡ true
ticks_after p [] h = refl
ticks_after p (q ∷ ps) h = (and_parts _ _ h).1

abbrev pub bytes_of : Piece → List ℕ
bytes_of p = encode_utf8_all p.slice

-- tokens of these pieces from a place on, the End after them
pub record Built (spot : Spot) (ps : List Piece) : Type 0 where
  pub tokens : List Token
  pub last : Token
  pub end : Spot
  pub next : AreNext spot tokens end
  pub final : IsNext end last []
  pub is_end : last.kind ≡ End
  pub kinds_are : map (λ (t : Token). kind_number t.kind) tokens ≡ kinds ps
  pub same : map (λ (t : Token). t.kind) tokens ≡ map (λ (p : Piece). p.kind) ps
  pub bytes_are : (text : List ℕ) → StandsAt text spot.at spot.ahead → map (written_in text) tokens ≡ map bytes_of ps
  pub narrow : All (λ t. IsNarrow t.kind) (tokens ++ last ∷ [])

end_there : (before : Option Kind) → IsTokenAt before End [] []
end_there before = record { spelled = refl; ends = refl; longest = λ other s r e spelled. omega (arith, ap length e, length-append s r) }

finish : (before : Option Kind) (at : ℕ) → Built (record { before = before; at = at; ahead = 10 ∷ [] }) []
finish before at =
    let start : ℕ = at + length (encode_utf8_all (10 ∷ [])) in
    let last : Token = record { kind = End; span = record { start = start; end = start + length (encode_utf8_all []) } } in
    record {
      tokens = [];
      last = last;
      end = record { before = before; at = at; ahead = 10 ∷ [] };
      next = refl;
      final = record {
        gap = 10 ∷ [];
        slice = [];
        parts = refl;
        between = White 10 [] [] refl (Nothing [] refl);
        token_there = end_there before;
        start = refl;
        end = refl;
      };
      is_end = refl;
      kinds_are = refl;
      same = refl;
      bytes_are = λ text s. refl;
      narrow = All-cons (λ (t : Token). IsNarrow t.kind) last [] tt (All-nil (λ (t : Token). IsNarrow t.kind));
    }

placed : (spot : Spot) (gap : List ℕ) (p : Piece) (ps : List Piece) → spot.ahead ≡ gap ++ (p.slice ++ after_piece ps) → IsGap gap (p.slice ++ after_piece ps) → IsTokenAt spot.before p.kind p.slice (after_piece ps) → IsPiece p → ((at : ℕ) → Built (record { before = Some p.kind; at = at; ahead = after_piece ps }) ps) → Built spot (p ∷ ps)
placed spot gap p ps parts between there is later =
    let start : ℕ = spot.at + length (encode_utf8_all gap) in
    let token : Token = record { kind = p.kind; span = record { start = start; end = start + length (encode_utf8_all p.slice) } } in
    let b = later token.span.end in
    record {
      tokens = token ∷ b.tokens;
      last = b.last;
      end = b.end;
      next = (
        after_piece ps,
        record { gap = gap; slice = p.slice; parts = parts; between = between; token_there = there; start = refl; end = refl },
        (λ e. true≢false (sym is.plain ∙ ap is_plain e)),
        b.next,
      );
      final = b.final;
      is_end = b.is_end;
      kinds_are = ap (λ ks. kind_number p.kind ∷ ks) b.kinds_are;
      same = ap (λ ks. p.kind ∷ ks) b.same;
      bytes_are = bytes token b.tokens b.bytes_are refl refl refl;
      narrow = All-cons (λ (t : Token). IsNarrow t.kind) token (b.tokens ++ b.last ∷ []) is.narrow b.narrow;
    }
  where
    bytes : (token : Token) (tokens : List Token) → ((text : List ℕ) → StandsAt text token.span.end (after_piece ps) → map (written_in text) tokens ≡ map bytes_of ps) → token.kind ≡ p.kind → token.span.start ≡ spot.at + length (encode_utf8_all gap) → token.span.end ≡ token.span.start + length (encode_utf8_all p.slice) → (text : List ℕ) → StandsAt text spot.at spot.ahead → map (written_in text) (token ∷ tokens) ≡ map bytes_of (p ∷ ps)
    bytes token tokens others kind_is start_is end_is text s =
        let begin : StandsAt text token.span.start (p.slice ++ after_piece ps) = subst (λ at. StandsAt text at (p.slice ++ after_piece ps)) (sym start_is) (moved text spot.at spot.ahead gap (p.slice ++ after_piece ps) s parts) in
        let end : StandsAt text token.span.end (after_piece ps) = subst (λ at. StandsAt text at (after_piece ps)) (sym end_is) (moved text token.span.start (p.slice ++ after_piece ps) p.slice (after_piece ps) begin refl) in
        let here : slice_range text token.span.start token.span.end ≡ bytes_of p = ap (slice_range text token.span.start) end_is ∙ cut text token.span.start p.slice (after_piece ps) begin in
        let first : written_in text token ≡ bytes_of p = ap (λ k. written k (slice_range text token.span.start token.span.end)) kind_is ∙ (ap (written p.kind) here ∙ is.stays) in
        ap (λ b. b ∷ map (written_in text) tokens) first ∙ ap (λ bs. bytes_of p ∷ bs) (others text end)

build : (ps : List Piece) (before : Option Kind) (at : ℕ) → AllPieces ps → ticks_followed (kinds ps) ≡ true → Built (record { before = before; at = at; ahead = after_piece ps }) ps
build [] before at all ticks = finish before at
build (p ∷ ps) before at (is, others) ticks =
    placed (record { before = before; at = at; ahead = after_piece (p ∷ ps) }) (32 ∷ []) p ps refl
    (White 32 [] (p.slice ++ after_piece ps) refl (Nothing (p.slice ++ after_piece ps) (gap_none p ps is)))
    (followed before p ps is others ticks) is
    (λ n. build ps (Some p.kind) n others (ticks_after p ps ticks))

pub build_whole : (ps : List Piece) → AllPieces ps → ticks_followed (kinds ps) ≡ true → Built (start_of (whole ps)) ps
build_whole [] all ticks = finish None 0
build_whole (p ∷ ps) (is, others) ticks =
    placed (start_of (whole (p ∷ ps))) [] p ps refl (Nothing (p.slice ++ after_piece ps) (gap_none p ps is))
    (followed None p ps is others ticks) is
    (λ n. build ps (Some p.kind) n others (ticks_after p ps ticks))

-- ---- characters and bytes

scalars_join : (a b : List ℕ) → scalars a ≡ true → scalars b ≡ true → scalars (a ++ b) ≡ true
scalars_join [] b h k = k
scalars_join (c ∷ a) b h k = let parts = and_parts (scalar c) _ h in and_from _ _ parts.0 (scalars_join a b parts.1 k)

after_scalars : (ps : List Piece) → AllPieces ps → scalars (after_piece ps) ≡ true
after_scalars [] all = refl
after_scalars (p ∷ ps) (is, others) = scalars_join p.slice (after_piece ps) is.are_scalars (after_scalars ps others)

pub whole_scalars : (ps : List Piece) → AllPieces ps → scalars (whole ps) ≡ true
whole_scalars [] all = refl
whole_scalars (p ∷ ps) (is, others) = scalars_join p.slice (after_piece ps) is.are_scalars (after_scalars ps others)

piece_bytes : (p : Piece) (ps : List Piece) → encode_utf8_all (p.slice ++ after_piece ps) ≡ join_with_byte 32 (map bytes_of (p ∷ ps)) ++ 10 ∷ []
piece_bytes p [] = encodes-append p.slice (10 ∷ []) ∙ ap (λ s. bytes_of p ++ s) (small_bytes (10 ∷ []) refl)
piece_bytes p (q ∷ ps) =
    let rest : List ℕ = q.slice ++ after_piece ps in
    let space : encode_utf8_all (32 ∷ rest) ≡ 32 ∷ encode_utf8_all rest = ap (λ s. s ++ encode_utf8_all rest) (encode_ascii 32 (lit< tt)) in
    encodes-append p.slice (32 ∷ rest)
    ∙ (ap (λ s. bytes_of p ++ s) (space ∙ ap (λ s. 32 ∷ s) (piece_bytes q ps))
    ∙ sym (append_assoc (bytes_of p) (32 ∷ join_with_byte 32 (map bytes_of (q ∷ ps))) (10 ∷ [])))

pub whole_bytes : (ps : List Piece) → encode_utf8_all (whole ps) ≡ join_with_byte 32 (map bytes_of ps) ++ 10 ∷ []
whole_bytes [] = small_bytes (10 ∷ []) refl
whole_bytes (p ∷ ps) = piece_bytes p ps
