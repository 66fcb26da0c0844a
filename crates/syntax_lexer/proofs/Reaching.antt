-- Tokens one after another.
use Rattle.std.proofs.Common.{◌≡◌, ◌≢◌, ℕ, ◌+◌, true, List, [], ◌∷◌, ◌++◌, length, Option, Some, refl, sym, ap, ◌∙◌, subst, arith, length-append, true≢false}
use Rattle.std.specs.Prelude.{encode_utf8_all}
use Rattle.std.proofs.lemmas.List.Elements.{All-push}
use Rattle.ada_base.specs.declared.token.Kind.{Kind}
use Rattle.ada_base.specs.declared.token.Kind.TheVariants.{End}
use Rattle.ada_base.specs.declared.token.Token.{Token}
use Rattle.syntax_tree.specs.Faults.{IsNarrow, KeepLimits, Reaches, token_limit}
use Rattle.syntax_tree.specs.Spelling.{can_follow}
use Rattle.syntax_tree.specs.Tokens.{Spot, start_of, after, IsNext, AreNext, AreTokens}
use Rattle.syntax_lexer.proofs.Spots.{bytes_parts}
use Rattle.syntax_lexer.specs.Stop.{spot_at}

pub AreNext-push : (spot : Spot) (tokens : List Token) (last : Spot) (token : Token) (rest : List ℕ) → AreNext spot tokens last → IsNext last token rest → token.kind ≢ End → AreNext spot (tokens ++ token ∷ []) (after token rest)
AreNext-push spot [] last token rest e next more = (rest, subst (λ s. IsNext s token rest) (sym e) next, more, refl)
AreNext-push spot (t ∷ tokens) last token rest (r, here, no_end, later) next more = (r, here, no_end, AreNext-push (after t r) tokens last token rest later next more)

pub reaches_more : (characters : List ℕ) (tokens new : List Token) (before : Option Kind) (at : ℕ) (ahead : List ℕ) (token : Token) (rest : List ℕ) → Reaches characters tokens (spot_at before at ahead) → IsNext (spot_at before at ahead) token rest → IsNarrow token.kind → token.kind ≢ End → length tokens ≢ token_limit → new ≡ tokens ++ token ∷ [] → Reaches characters new (spot_at (Some token.kind) token.span.end rest)
reaches_more characters tokens new before at ahead token rest r next narrow more room e =
    rw e record {
      next = AreNext-push (start_of characters) tokens (spot_at before at ahead) token rest r.next next more;
      few = omega (arith, r.few, room, length-append tokens (token ∷ []));
      narrow = All-push (λ t. IsNarrow t.kind) tokens token r.narrow narrow;
    }

-- the bytes of what is ahead are those of the gap, of the token and of the rest
pub bytes_next : (spot : Spot) (token : Token) (rest : List ℕ) → IsNext spot token rest → token.span.end + length (encode_utf8_all rest) ≡ spot.at + length (encode_utf8_all spot.ahead)
bytes_next spot token rest next =
    omega (arith, next.start, next.end, bytes_parts next.gap (next.slice ++ rest) spot.ahead next.parts, bytes_parts next.slice rest (next.slice ++ rest) refl)

-- nothing follows the End
nothing_follows : (kind : Kind) (rest : List ℕ) → kind ≡ End → can_follow kind rest ≡ true → rest ≡ []
nothing_follows kind [] e h = refl
nothing_follows kind (c ∷ rest) e h = absurd (true≢false (sym h ∙ ap (λ k. can_follow k (c ∷ rest)) e))

pub all_tokens : (characters : List ℕ) (tokens new : List Token) (spot : Spot) (token : Token) (rest : List ℕ) → Reaches characters tokens spot → IsNext spot token rest → IsNarrow token.kind → token.kind ≡ End → new ≡ tokens ++ token ∷ [] → AreTokens characters new × KeepLimits new
all_tokens characters tokens new spot token rest r next narrow is_end e =
    let none : rest ≡ [] = nothing_follows token.kind rest is_end next.token_there.ends in (
      record { others = tokens; last = token; spot = spot; parts = e; next = r.next; final = subst (IsNext spot token) none next; is_end = is_end },
      rw e record { few = omega (arith, r.few, length-append tokens (token ∷ [])); narrow = All-push (λ t. IsNarrow t.kind) tokens token r.narrow narrow },
    )
