-- The canonical text has the tokens again.
use Rattle.std.proofs.Common.{◌≡◌, ◌≤◌, List, [], ◌∷◌, ◌++◌, map, length, refl, sym, ap, ◌∙◌, subst, arith, length-append}
use Rattle.std.specs.Prelude.{encode_utf8_all, All}
use Rattle.std.specs.List.{list_all, join_with_byte}
use Rattle.std.specs.Str.{chars}
use Rattle.std.proofs.lemmas.List.{length-map, map-append}
use Rattle.std.proofs.lemmas.List.Elements.{All-nil, All-cons, All-head, All-tail}
use Rattle.std.proofs.lemmas.Str.{chars-encodes}
use Rattle.ada_base.specs.declared.token.Kind.{Kind}
use Rattle.ada_base.specs.declared.token.Token.{Token}
use Rattle.ada_base.specs.Tokens.{Tokenized}
use Rattle.syntax_tree.specs.Faults.{IsNarrow, IsReadable, KeepLimits, byte_limit}
use Rattle.ada_base.specs.TokenKinds.{kind_number, kinds_of}
use Rattle.syntax_tree.specs.Tokens.{start_of, AreTokens, AreTokensOf}
use Rattle.syntax_print.specs.Canonical.{canonical, written_in, before_end, IsTokenizedAgain}
use Rattle.syntax_print.specs.Spoken.{is_spoken, ticks_followed, AreSpoken}
use Rattle.syntax_print.proofs.Built.{whole, Built, build_whole, whole_bytes, whole_scalars}
use Rattle.syntax_print.proofs.Gathered.{Gathered, gather}
use Rattle.syntax_print.proofs.Places.{StandsAt, at_start}
use Rattle.syntax_print.proofs.Joins.{before_last}

kinds_before : (tokens : List Token) (last : Token) → kinds_of (tokens ++ last ∷ []) ≡ map (λ (t : Token). kind_number t.kind) tokens
kinds_before [] last = refl
kinds_before (t ∷ []) last = refl
kinds_before (t ∷ u ∷ tokens) last = ap (λ ks. kind_number t.kind ∷ ks) (kinds_before (u ∷ tokens) last)

All-front : (P : Token → Type 0) (xs ys : List Token) → All P (xs ++ ys) → All P xs
All-front P [] ys h = All-nil P
All-front P (x ∷ xs) ys h = All-cons P x xs (All-head P x (xs ++ ys) h) (All-front P xs ys (All-tail P x (xs ++ ys) h))

abbrev kind_of : Token → Kind
kind_of token = token.kind

-- as many tokens as before
same_count : (tokens others : List Token) (last end : Token) → map (λ (t : Token). kind_number t.kind) tokens ≡ map (λ (t : Token). kind_number t.kind) others → length (tokens ++ last ∷ []) ≡ length (others ++ end ∷ [])
same_count tokens others last end e =
    omega (arith, ap length e, length-map tokens (λ (t : Token). kind_number t.kind), length-map others (λ (t : Token). kind_number t.kind), length-append tokens (last ∷ []), length-append others (end ∷ []))

module _ (t : Tokenized) (readable : IsReadable t.text) (a : AreTokensOf t.text t.items) (limits : KeepLimits t.items) (spoken : AreSpoken (kinds_of t.items)) where
  kinds_are : kinds_of t.items ≡ map (λ (x : Token). kind_number x.kind) a.others
  kinds_are = ap kinds_of a.parts ∙ kinds_before a.others a.last

  gathered : Gathered t.text a.others
  gathered =
      gather t.text (start_of (chars t.text)) a.others a.spot (at_start t.text readable.utf8) a.next
      (All-front (λ x. IsNarrow x.kind) a.others (a.last ∷ []) (subst (All (λ x. IsNarrow x.kind)) a.parts limits.narrow))
      (ap (list_all is_spoken) (sym kinds_are) ∙ spoken.each)

  bytes : (g : Gathered t.text a.others) → encode_utf8_all (whole g.pieces) ≡ canonical t
  bytes g =
      whole_bytes g.pieces
      ∙ (ap (λ bs. join_with_byte 32 bs ++ 10 ∷ []) g.bytes_are
      ∙ ap (λ xs. join_with_byte 32 (map (written_in t.text) xs) ++ 10 ∷ []) (sym (ap before_end a.parts ∙ before_last a.others a.last)))

  from_built : (g : Gathered t.text a.others) → Built (start_of (whole g.pieces)) g.pieces → length (canonical t) ≤ byte_limit → IsTokenizedAgain t
  from_built g b short =
      let scalars_are = whole_scalars g.pieces g.are in
      let characters : whole g.pieces ≡ chars (canonical t) = sym (chars-encodes (whole g.pieces) scalars_are) ∙ ap chars (bytes g) in
      let same : map (λ (x : Token). kind_number x.kind) b.tokens ≡ map (λ (x : Token). kind_number x.kind) a.others = b.kinds_are ∙ g.kinds_are in
      let start : StandsAt (canonical t) 0 (whole g.pieces) = record { front = []; parts = sym (bytes g); at_is = refl; are_scalars = scalars_are } in
      let again : AreTokens (whole g.pieces) (b.tokens ++ b.last ∷ []) =
      record { others = b.tokens; last = b.last; spot = b.end; parts = refl; next = b.next; final = b.final; is_end = b.is_end } in
      record {
        items = b.tokens ++ b.last ∷ [];
        readable = record { short = short; utf8 = (whole g.pieces, (scalars_are, bytes g)) };
        tokens = subst (λ cs. AreTokens cs (b.tokens ++ b.last ∷ [])) characters again;
        limits = record { few = omega (arith, limits.few, ap length a.parts, same_count b.tokens a.others b.last a.last same); narrow = b.narrow };
        same =
            map-append kind_of b.tokens (b.last ∷ [])
            ∙ (ap (λ ks. ks ++ b.last.kind ∷ []) (b.same ∙ g.same)
            ∙ (ap (λ k. map kind_of a.others ++ k ∷ []) (b.is_end ∙ sym a.is_end)
            ∙ (sym (map-append kind_of a.others (a.last ∷ [])) ∙ ap (map kind_of) (sym a.parts))));
        kinds_are = kinds_before b.tokens b.last ∙ (same ∙ sym kinds_are);
        stays =
            ap (λ xs. join_with_byte 32 (map (written_in (canonical t)) xs) ++ 10 ∷ []) (before_last b.tokens b.last)
            ∙ (ap (λ bs. join_with_byte 32 bs ++ 10 ∷ []) (b.bytes_are (canonical t) start) ∙ (sym (whole_bytes g.pieces) ∙ bytes g));
      }

  pub tokenized_again : length (canonical t) ≤ byte_limit → IsTokenizedAgain t
  tokenized_again short =
      let g = gathered in
      from_built g (build_whole g.pieces g.are (ap ticks_followed (g.kinds_are ∙ sym kinds_are) ∙ spoken.ticks)) short
