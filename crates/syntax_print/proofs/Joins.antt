-- Texts joined one after another.
use Rattle.std.proofs.Common.{◌≡◌, ◌⊎◌, inl, inr, ℕ, zero, suc, ◌+◌, ◌-◌, ◌<◌, List, [], ◌∷◌, ◌++◌, length, take, get_or, map, refl, sym, ap, ◌∙◌, append_assoc, arith, length-append}
use Rattle.std.specs.List.{join_with_byte, slice_range}
use Rattle.std.proofs.Math.Seq.{take-append_seam}
use Rattle.std.proofs.lemmas.List.{length-map, map-append, take_more, length-take-le}
use Rattle.ada_base.specs.declared.token.Token.{Token}
use Rattle.ada_base.specs.Tokens.{Tokenized, slice_at}
use Rattle.syntax_print.specs.Canonical.{space, written, written_in, before_end}

join_last : (c : ℕ) (xs : List (List ℕ)) (y : List ℕ) → 0 < length xs → join_with_byte c (xs ++ y ∷ []) ≡ join_with_byte c xs ++ c ∷ y
join_last c [] y h = absurd (omega (arith, h))
join_last c (x ∷ []) y h = refl
join_last c (x ∷ z ∷ xs) y h =
    ap (λ s. x ++ c ∷ s) (join_last c (z ∷ xs) y (omega arith)) ∙ sym (append_assoc x (c ∷ join_with_byte c (z ∷ xs)) (c ∷ y))

-- one text more
pub join_next : (f : Token → List ℕ) (items : List Token) (k : ℕ) (d : Token) → 0 < k → k < length items → join_with_byte 32 (map f (take (k + 1) items)) ≡ join_with_byte 32 (map f (take k items)) ++ 32 ∷ f (get_or items k d)
join_next f items k d positive below =
    let more : map f (take (k + 1) items) ≡ map f (take k items) ++ f (get_or items k d) ∷ [] = ap (map f) (take_more items k d below) ∙ map-append f (take k items) (get_or items k d ∷ []) in
    let long : 0 < length (map f (take k items)) = omega (arith, length-map (take k items) f, length-take-le k items (omega arith)) in
    ap (join_with_byte 32) more ∙ join_last 32 (map f (take k items)) (f (get_or items k d)) long

pub join_first : (f : Token → List ℕ) (items : List Token) (d : Token) → 0 < length items → join_with_byte 32 (map f (take 1 items)) ≡ f (get_or items 0 d)
join_first f [] d h = absurd (omega (arith, h))
join_first f (x ∷ items) d h = refl

-- the tokens before the End
pub before_last : (others : List Token) (last : Token) → before_end (others ++ last ∷ []) ≡ others
before_last others last =
    let count : length (others ++ last ∷ []) - 1 ≡ length others = omega (arith, length-append others (last ∷ [])) in
    ap (λ n. take n (others ++ last ∷ [])) count ∙ take-append_seam others (last ∷ [])

get_or_same : (items : List Token) (k : ℕ) (d e : Token) → k < length items → get_or items k d ≡ get_or items k e
get_or_same [] k d e h = absurd (omega (arith, h))
get_or_same (t ∷ items) zero d e h = refl
get_or_same (t ∷ items) (suc k) d e h = get_or_same items k d e (omega (arith, h))

-- the text before a token: a space more, but for the first
abbrev pub Separated : ℕ → List ℕ → List ℕ → Type 0
Separated k old new = ((0 < k) × (new ≡ old ++ space ∷ [])) ⊎ ((k ≡ 0) × (new ≡ old))

pub join_more : (f : Token → List ℕ) (items : List Token) (k : ℕ) (d : Token) (old new : List ℕ) → k < length items → old ≡ join_with_byte space (map f (take k items)) → Separated k old new → new ++ f (get_or items k d) ≡ join_with_byte space (map f (take (k + 1) items))
join_more f items k d old new below e (inl (positive, more)) =
    ap (λ s. s ++ f (get_or items k d)) (more ∙ ap (λ s. s ++ space ∷ []) e) ∙ (append_assoc (join_with_byte space (map f (take k items))) (space ∷ []) (f (get_or items k d)) ∙ sym (join_next f items k d positive below))
join_more f items k d old new below e (inr (first, same)) =
    let none : new ≡ [] = same ∙ (e ∙ ap (λ n. join_with_byte space (map f (take n items))) first) in
    let one : 0 < length items = omega (arith, below) in
    ap (λ s. s ++ f (get_or items k d)) none ∙ (ap (λ n. f (get_or items n d)) first ∙ (sym (join_first f items d one) ∙ ap (λ n. join_with_byte space (map f (take (n + 1) items))) (sym first)))

-- a token of a text, with either default
pub written_at : (t : Tokenized) (k : ℕ) (d : Token) → k < length t.items → written (get_or t.items k d).kind (slice_at t k) ≡ written_in t.text (get_or t.items k d)
written_at t k d below = ap (λ (x : Token). written (get_or t.items k d).kind (slice_range t.text x.span.start x.span.end)) (get_or_same t.items k _ d below)
