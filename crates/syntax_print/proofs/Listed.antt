-- The words and marks of a text's tokens stand in their lists.
use Rattle.std.proofs.Common.{◌≡◌, ℕ, zero, suc, ◌<◌, List, [], ◌∷◌, length, Some, slice_get, refl, sym, arith, subst}
use Rattle.std.specs.Prelude.{All, Option}
use Rattle.std.proofs.lemmas.List.Elements.{All-nil, All-cons, All-append}
use Rattle.ada_base.specs.declared.token.Kind.{Kind}
use Rattle.ada_base.specs.declared.token.Kind.TheVariants.{Ident, Word, Number, Text, Letter, Real, Mark, End}
use Rattle.ada_base.specs.declared.token.Token.{Token}
use Rattle.syntax_tree.specs.Spelling.{IsSpelling}
use Rattle.syntax_tree.specs.Tokens.{Spot, start_of, after, IsNext, AreNext, AreTokens}
use Rattle.syntax_tree.specs.Words.{words, marks}
use Rattle.syntax_print.specs.Canonical.{IsListed}

in_list : (texts : List (List ℕ)) (n : ℕ) (text : List ℕ) → slice_get texts n ≡ Some text → n < length texts
in_list [] n text h = cc
in_list (x ∷ texts) zero text h = omega arith
in_list (x ∷ texts) (suc n) text h = let below = in_list texts n text h in omega arith

words_length : length words ≡ 74
unfolding words
words_length = refl

marks_length : length marks ≡ 29
unfolding marks
marks_length = refl

listed : (before : Option Kind) (kind : Kind) (slice : List ℕ) → IsSpelling before kind slice → IsListed kind
listed before Ident slice h = tt
listed before (Word n) slice h = let below = in_list words n _ h.1 in omega (arith, words_length)
listed before (Number z) slice h = tt
listed before Text slice h = tt
listed before Letter slice h = tt
listed before Real slice h = tt
listed before (Mark n) slice h = let below = in_list marks n slice h in omega (arith, marks_length)
listed before End slice h = tt

next_listed : (spot : Spot) (token : Token) (rest : List ℕ) → IsNext spot token rest → IsListed token.kind
next_listed spot token rest n = listed spot.before token.kind n.slice n.token_there.spelled

before_listed : (spot : Spot) (tokens : List Token) (last : Spot) → AreNext spot tokens last → All (λ t. IsListed t.kind) tokens
before_listed spot [] last e = All-nil (λ t. IsListed t.kind)
before_listed spot (t ∷ tokens) last (rest, n, more, later) =
    All-cons (λ x. IsListed x.kind) t tokens (next_listed spot t rest n) (before_listed (after t rest) tokens last later)

pub all_listed : (characters : List ℕ) (items : List Token) → AreTokens characters items → All (λ t. IsListed t.kind) items
all_listed characters items t =
    let P : Token → Type 0 = λ x. IsListed x.kind in
    subst (All P) (sym t.parts) (All-append P t.others (t.last ∷ []) (before_listed (start_of characters) t.others t.spot t.next) (All-cons P t.last [] (next_listed t.spot t.last [] t.final) (All-nil P)))
