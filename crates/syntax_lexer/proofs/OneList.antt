-- A text has one token list at most, and one first fault at most, and not both.
use Rattle.std.proofs.Common.{◌≡◌, ◌≢◌, ◌⊎◌, inl, inr, ℕ, pos, ◌+◌, ◌<◌, ◌≤◌, Bool, true, false, List, [], ◌∷◌, ◌++◌, length, Option, Some, refl, sym, ap, ◌∙◌, subst, arith, length-append}
use Rattle.std.specs.Prelude.{encode_utf8_all, All}
use Rattle.std.proofs.lemmas.List.Elements.{All-nil, All-cons, All-head, All-tail}
use Rattle.ada_base.specs.declared.token.Kind.{Kind}
use Rattle.ada_base.specs.declared.token.Kind.TheVariants.{Ident, Word, Number, Text, Letter, Real, Mark, End}
use Rattle.ada_base.specs.declared.token.Token.{Token}
use Rattle.syntax_lexer.specs.declared.found.Found.{Found}
use Rattle.syntax_lexer.specs.declared.found.Found.TheVariants.{Other}
use Rattle.syntax_tree.specs.Faults.{IsNarrow, KeepLimits, Reaches, HasNoNext, IsBadToken, IsWideLiteral, IsTooLong, token_limit}
use Rattle.syntax_tree.specs.Gaps.{IsGap}
use Rattle.syntax_tree.specs.Numbers.{IsInteger}
use Rattle.syntax_tree.specs.Spelling.{IsSpelling, admits_letter}
use Rattle.syntax_tree.specs.Tokens.{Spot, start_of, after, IsNext, AreNext, AreTokens}
use Rattle.syntax_lexer.proofs.Blank.{skips}
use Rattle.syntax_lexer.proofs.MarkLaw.{same_front}
use Rattle.syntax_lexer.proofs.Numerals.{some_pair}
use Rattle.syntax_lexer.proofs.OneValue.{one_value}
use Rattle.syntax_lexer.proofs.Sound.{found_of}
use Rattle.syntax_lexer.proofs.TokenLaw.{token_read}
use Rattle.syntax_lexer.specs.Reading.{beyond_gap, token_at, limited}

abbrev is_number : Kind → Bool
is_number Ident = false
is_number (Word n) = false
is_number (Number z) = true
is_number Text = false
is_number Letter = false
is_number Real = false
is_number (Mark n) = false
is_number End = false

other_found : (kind : Kind) → is_number kind ≡ false → found_of kind ≡ Other kind
other_found Ident h = refl
other_found (Word n) h = refl
other_found (Number z) h = cc
other_found Text h = refl
other_found Letter h = refl
other_found Real h = refl
other_found (Mark n) h = refl
other_found End h = refl

record IsValued (kind : Kind) (slice : List ℕ) : Type 0 where
  value : ℕ
  integer : IsInteger slice value
  kind_is : kind ≡ Number (pos value)

valued : (before : Option Kind) (kind : Kind) (slice : List ℕ) → is_number kind ≡ true → IsSpelling before kind slice → IsValued kind slice
valued before Ident slice h spelled = cc
valued before (Word n) slice h spelled = cc
valued before (Number z) slice h (v, integer, e) = record { value = v; integer = integer; kind_is = ap Number e }
valued before Text slice h spelled = cc
valued before Letter slice h spelled = cc
valued before Real slice h spelled = cc
valued before (Mark n) slice h spelled = cc
valued before End slice h spelled = cc

apart : (kind other : Kind) (value : ℕ) → found_of kind ≡ found_of other → kind ≡ Number (pos value) → found_of other ≡ Other other → ⊥
apart kind other value same number plain =
    let no : Found.Number (limited value) ≡ Other other = ap found_of (sym number) ∙ (same ∙ plain) in
    cc

-- a slice is of one kind
one_kind : (before : Option Kind) (kind other : Kind) (s t : List ℕ) → found_of kind ≡ found_of other → IsSpelling before kind s → IsSpelling before other t → s ≡ t → kind ≡ other
one_kind before kind other s t same spelled spelt e = go (is_number kind) (is_number other) refl refl where
  go : (a b : Bool) → is_number kind ≡ a → is_number other ≡ b → kind ≡ other
  go true true ha hb =
      let v = valued before kind s ha spelled in
      let w = valued before other t hb spelt in
      v.kind_is ∙ (ap (λ n. Number (pos n)) (one_value v.integer w.integer e) ∙ sym w.kind_is)
  go true false ha hb = absurd (apart kind other (valued before kind s ha spelled).value same (valued before kind s ha spelled).kind_is (other_found other hb))
  go false true ha hb = absurd (apart other kind (valued before other t hb spelt).value (sym same) (valued before other t hb spelt).kind_is (other_found kind ha))
  go false false ha hb =
      let plain : Other kind ≡ Other other = sym (other_found kind ha) ∙ (same ∙ other_found other hb) in
      cc

token_same : (t u : Token) → t.kind ≡ u.kind → t.span.start ≡ u.span.start → t.span.end ≡ u.span.end → t ≡ u
token_same t u k s e =
    let kinds : t ≡ record { kind = u.kind; span = record { start = t.span.start; end = t.span.end } } = ap (λ x. record { kind = x; span = record { start = t.span.start; end = t.span.end } }) k in
    let starts : ◌≡◌ {A = Token} (record { kind = u.kind; span = record { start = t.span.start; end = t.span.end } }) (record { kind = u.kind; span = record { start = u.span.start; end = t.span.end } }) = ap (λ x. record { kind = u.kind; span = record { start = x; end = t.span.end } }) s in
    let ends : ◌≡◌ {A = Token} (record { kind = u.kind; span = record { start = u.span.start; end = t.span.end } }) u = ap (λ x. record { kind = u.kind; span = record { start = u.span.start; end = x } }) e in
    kinds ∙ (starts ∙ ends)

-- what follows a gap begins in one place
one_gap : (ahead a b r q : List ℕ) → ahead ≡ a ++ r → ahead ≡ b ++ q → IsGap a r → IsGap b q → (a ≡ b) × (r ≡ q)
one_gap ahead a b r q p p' g g' =
    let same : r ≡ q = sym (skips g) ∙ (ap (beyond_gap false) (sym p ∙ p') ∙ skips g') in
    let front = same_front a b r q (omega (arith, ap length p, ap length p', length-append a r, length-append b q, ap length same)) (sym p ∙ p') in
    front

record SameToken (t u : Token) (r q : List ℕ) : Type 0 where
  token : t ≡ u
  rest : r ≡ q

one_token : (spot : Spot) (t u : Token) (r q : List ℕ) → IsNext spot t r → IsNext spot u q → SameToken t u r q
one_token spot t u r q n m =
    let gaps = one_gap spot.ahead n.gap m.gap (n.slice ++ r) (m.slice ++ q) n.parts m.parts n.between m.between in
    let read : ◌≡◌ {A = Option (Found × List ℕ)} (Some (found_of t.kind, r)) (Some (found_of u.kind, q)) =
    sym (token_read spot.before t.kind n.slice r n.token_there) ∙ (ap (token_at (admits_letter spot.before)) gaps.1 ∙ token_read spot.before u.kind m.slice q m.token_there) in
    let pair : (found_of t.kind ≡ found_of u.kind) × (r ≡ q) = some_pair read in
    let slices = same_front n.slice m.slice r q (omega (arith, ap length gaps.1, length-append n.slice r, length-append m.slice q, ap length pair.1)) gaps.1 in
    let kinds = one_kind spot.before t.kind u.kind n.slice m.slice pair.0 n.token_there.spelled m.token_there.spelled slices.0 in
    let starts : t.span.start ≡ u.span.start = n.start ∙ (ap (λ g. spot.at + length (encode_utf8_all g)) gaps.0 ∙ sym m.start) in
    let ends : t.span.end ≡ u.span.end = n.end ∙ (ap (λ k. k + length (encode_utf8_all n.slice)) starts ∙ (ap (λ s. u.span.start + length (encode_utf8_all s)) slices.0 ∙ sym m.end)) in
    record { token = token_same t u kinds starts ends; rest = pair.1 }

no_token : (spot : Spot) (gap : List ℕ) (t : Token) (r : List ℕ) → HasNoNext spot gap → IsNext spot t r → ⊥
no_token spot gap t r none n =
    let gaps = one_gap spot.ahead gap n.gap none.rest (n.slice ++ r) none.parts n.parts none.between n.between in
    none.nothing t.kind n.slice r gaps.1 n.token_there

-- tokens that go on after others
record GoesOn (spot : Spot) (tokens others : List Token) : Type 0 where
  token : Token
  rest : List ℕ
  more : List Token
  parts : others ≡ tokens ++ token ∷ more
  next : IsNext spot token rest
  not_end : token.kind ≢ End

-- two lists of next tokens are one, or one goes on after the other
abbrev Compared : Spot → List Token → Spot → List Token → Type 0
Compared a ts b us = ((ts ≡ us) × (a ≡ b)) ⊎ (GoesOn a ts us ⊎ GoesOn b us ts)

goes_on_more : (t : Token) (spot : Spot) (tokens others : List Token) → GoesOn spot tokens others → GoesOn spot (t ∷ tokens) (t ∷ others)
goes_on_more t spot tokens others g =
    record { token = g.token; rest = g.rest; more = g.more; parts = ap (λ ts. t ∷ ts) g.parts; next = g.next; not_end = g.not_end }

compared_more : (t : Token) (a : Spot) (ts : List Token) (b : Spot) (us : List Token) → Compared a ts b us → Compared a (t ∷ ts) b (t ∷ us)
compared_more t a ts b us (inl (e, s)) = inl (ap (λ xs. t ∷ xs) e, s)
compared_more t a ts b us (inr (inl g)) = inr (inl (goes_on_more t a ts us g))
compared_more t a ts b us (inr (inr g)) = inr (inr (goes_on_more t b us ts g))

compare : (spot a b : Spot) (ts us : List Token) → AreNext spot ts a → AreNext spot us b → Compared a ts b us
compare spot a b [] [] h k = inl (refl, sym h ∙ k)
compare spot a b [] (u ∷ us) h (q, m, more, later) =
    inr (inl (record { token = u; rest = q; more = us; parts = refl; next = subst (λ s. IsNext s u q) h m; not_end = more }))
compare spot a b (t ∷ ts) [] (r, n, more, later) k =
    inr (inr (record { token = t; rest = r; more = ts; parts = refl; next = subst (λ s. IsNext s t r) k n; not_end = more }))
compare spot a b (t ∷ ts) (u ∷ us) (r, n, no_end, later) (q, m, no_end', later') =
    let same = one_token spot t u r q n m in
    let there : AreNext (after t r) us b = subst (λ x. AreNext (after t x) us b) (sym same.rest) (subst (λ x. AreNext (after x q) us b) (sym same.token) later') in
    subst (λ x. Compared a (t ∷ ts) b (x ∷ us)) same.token (compared_more t a ts b us (compare (after t r) a b ts us later there))

-- at such a place no token follows that keeps the limits
abbrev pub Halts : List Token → Spot → Type 0
Halts tokens spot = (token : Token) (rest : List ℕ) → IsNext spot token rest → IsNarrow token.kind → token.kind ≢ End → length tokens < token_limit → ⊥

halted : (tokens others : List Token) (spot : Spot) → Halts tokens spot → GoesOn spot tokens others → length others ≤ token_limit → All (λ t. IsNarrow t.kind) others → ⊥
halted tokens others spot halts g few narrow =
    halts g.token g.rest g.next
    (All-middle tokens g.token g.more (subst (All (λ t. IsNarrow t.kind)) g.parts narrow))
    g.not_end
    (omega (arith, few, ap length g.parts, length-append tokens (g.token ∷ g.more)))
  where
    All-middle : (ts : List Token) (t : Token) (more : List Token) → All (λ x. IsNarrow x.kind) (ts ++ t ∷ more) → IsNarrow t.kind
    All-middle [] t more h = All-head (λ x. IsNarrow x.kind) t more h
    All-middle (u ∷ ts) t more h = All-middle ts t more (All-tail (λ x. IsNarrow x.kind) u (ts ++ t ∷ more) h)

record SameReach (ts us : List Token) (a b : Spot) : Type 0 where
  tokens : ts ≡ us
  spot : a ≡ b

one_reach : (characters : List ℕ) (ts us : List Token) (a b : Spot) → Reaches characters ts a → Reaches characters us b → Halts ts a → Halts us b → SameReach ts us a b
one_reach characters ts us a b r q ha hb = go (compare (start_of characters) a b ts us r.next q.next) where
  go : Compared a ts b us → SameReach ts us a b
  go (inl (e, s)) = record { tokens = e; spot = s }
  go (inr (inl g)) = absurd (halted ts us a ha g q.few q.narrow)
  go (inr (inr g)) = absurd (halted us ts b hb g r.few r.narrow)

bad_halts : (tokens : List Token) (spot : Spot) (gap : List ℕ) → HasNoNext spot gap → Halts tokens spot
bad_halts tokens spot gap none token rest n narrow more few = no_token spot gap token rest none n

wide_halts : (tokens : List Token) (spot : Spot) (t : Token) (r : List ℕ) → IsNext spot t r → (IsNarrow t.kind → ⊥) → Halts tokens spot
wide_halts tokens spot t r n wide token rest m narrow more few =
    wide (subst (λ (x : Token). IsNarrow x.kind) (sym (one_token spot t token r rest n m).token) narrow)

long_halts : (tokens : List Token) (spot : Spot) → length tokens ≡ token_limit → Halts tokens spot
long_halts tokens spot full token rest n narrow more few = omega (arith, full, few)

end_halts : (tokens : List Token) (spot : Spot) (t : Token) (r : List ℕ) → IsNext spot t r → t.kind ≡ End → Halts tokens spot
end_halts tokens spot t r n is_end token rest m narrow more few =
    more (ap (λ (x : Token). x.kind) (sym (one_token spot t token r rest n m).token) ∙ is_end)

ended : (ts us : List Token) (a : Spot) (last : Token) → IsNext a last [] → last.kind ≡ End → GoesOn a ts us → ⊥
ended ts us a last n is_end g = g.not_end (ap (λ (x : Token). x.kind) (sym (one_token a last g.token [] g.rest n g.next).token) ∙ is_end)

pub one_list : (characters : List ℕ) (ts us : List Token) → AreTokens characters ts → AreTokens characters us → ts ≡ us
one_list characters ts us t u = go (compare (start_of characters) t.spot u.spot t.others u.others t.next u.next) where
  go : Compared t.spot t.others u.spot u.others → ts ≡ us
  go (inl (e, s)) =
      let last = (one_token t.spot t.last u.last [] [] t.final (subst (λ x. IsNext x u.last []) (sym s) u.final)).token in
      t.parts ∙ (ap (λ xs. xs ++ t.last ∷ []) e ∙ (ap (λ x. u.others ++ x ∷ []) last ∙ sym u.parts))
  go (inr (inl g)) = absurd (ended t.others u.others t.spot t.last t.final t.is_end g)
  go (inr (inr g)) = absurd (ended u.others t.others u.spot u.last u.final u.is_end g)

-- the tokens before the End
reaches_of : (characters : List ℕ) (ts : List Token) (t : AreTokens characters ts) → KeepLimits ts → Reaches characters t.others t.spot
reaches_of characters ts t k =
    let length_is = ap length t.parts in
    record {
      next = t.next;
      few = omega (arith, k.few, length_is, length-append t.others (t.last ∷ []));
      narrow = All-front (λ x. IsNarrow x.kind) t.others (t.last ∷ []) (subst (All (λ x. IsNarrow x.kind)) t.parts k.narrow);
    }
  where
    All-front : (P : Token → Type 0) (xs ys : List Token) → All P (xs ++ ys) → All P xs
    All-front P [] ys h = All-nil P
    All-front P (x ∷ xs) ys h = All-cons P x xs (All-head P x (xs ++ ys) h) (All-front P xs ys (All-tail P x (xs ++ ys) h))

module _ (characters : List ℕ) where
  pub one_bad : (m n : ℕ) → IsBadToken characters m → IsBadToken characters n → m ≡ n
  one_bad m n b d =
      let s = one_reach characters b.tokens d.tokens b.spot d.spot b.reaches d.reaches (bad_halts b.tokens b.spot b.gap b.no_next) (bad_halts d.tokens d.spot d.gap d.no_next) in
      let there : HasNoNext b.spot d.gap = subst (λ x. HasNoNext x d.gap) (sym s.spot) d.no_next in
      let gaps = one_gap b.spot.ahead b.gap d.gap b.no_next.rest there.rest b.no_next.parts there.parts b.no_next.between there.between in
      b.start ∙ (ap (λ g. b.spot.at + length (encode_utf8_all g)) gaps.0 ∙ (ap (λ (x : Spot). x.at + length (encode_utf8_all d.gap)) s.spot ∙ sym d.start))

  pub one_wide : (m n : ℕ) → IsWideLiteral characters m → IsWideLiteral characters n → m ≡ n
  one_wide m n b d =
      let s = one_reach characters b.tokens d.tokens b.spot d.spot b.reaches d.reaches (wide_halts b.tokens b.spot b.token b.rest b.next b.wide) (wide_halts d.tokens d.spot d.token d.rest d.next d.wide) in
      let t = one_token b.spot b.token d.token b.rest d.rest b.next (subst (λ x. IsNext x d.token d.rest) (sym s.spot) d.next) in
      b.start ∙ (ap (λ (x : Token). x.span.start) t.token ∙ sym d.start)

  pub one_long : (m n : ℕ) → IsTooLong characters m → IsTooLong characters n → m ≡ n
  one_long m n b d =
      let s = one_reach characters b.tokens d.tokens b.spot d.spot b.reaches d.reaches (long_halts b.tokens b.spot b.full) (long_halts d.tokens d.spot d.full) in
      let t = one_token b.spot b.token d.token b.rest d.rest b.next (subst (λ x. IsNext x d.token d.rest) (sym s.spot) d.next) in
      b.start ∙ (ap (λ (x : Token). x.span.start) t.token ∙ sym d.start)

  pub bad_or_wide : (m n : ℕ) → IsBadToken characters m → IsWideLiteral characters n → ⊥
  bad_or_wide m n b d =
      let s = one_reach characters b.tokens d.tokens b.spot d.spot b.reaches d.reaches (bad_halts b.tokens b.spot b.gap b.no_next) (wide_halts d.tokens d.spot d.token d.rest d.next d.wide) in
      no_token b.spot b.gap d.token d.rest b.no_next (subst (λ x. IsNext x d.token d.rest) (sym s.spot) d.next)

  pub bad_or_long : (m n : ℕ) → IsBadToken characters m → IsTooLong characters n → ⊥
  bad_or_long m n b d =
      let s = one_reach characters b.tokens d.tokens b.spot d.spot b.reaches d.reaches (bad_halts b.tokens b.spot b.gap b.no_next) (long_halts d.tokens d.spot d.full) in
      no_token b.spot b.gap d.token d.rest b.no_next (subst (λ x. IsNext x d.token d.rest) (sym s.spot) d.next)

  pub wide_or_long : (m n : ℕ) → IsWideLiteral characters m → IsTooLong characters n → ⊥
  wide_or_long m n b d =
      let s = one_reach characters b.tokens d.tokens b.spot d.spot b.reaches d.reaches (wide_halts b.tokens b.spot b.token b.rest b.next b.wide) (long_halts d.tokens d.spot d.full) in
      let t = one_token b.spot b.token d.token b.rest d.rest b.next (subst (λ x. IsNext x d.token d.rest) (sym s.spot) d.next) in
      b.wide (subst (λ (x : Token). IsNarrow x.kind) (sym t.token) d.narrow)

  module _ (ts : List Token) (t : AreTokens characters ts) (k : KeepLimits ts) where
    pub tokens_or_bad : (n : ℕ) → IsBadToken characters n → ⊥
    tokens_or_bad n b =
        let s = one_reach characters b.tokens t.others b.spot t.spot b.reaches (reaches_of characters ts t k) (bad_halts b.tokens b.spot b.gap b.no_next) (end_halts t.others t.spot t.last [] t.final t.is_end) in
        no_token b.spot b.gap t.last [] b.no_next (subst (λ x. IsNext x t.last []) (sym s.spot) t.final)

    end_is_narrow : IsNarrow t.last.kind
    end_is_narrow = subst IsNarrow (sym t.is_end) tt

    pub tokens_or_wide : (n : ℕ) → IsWideLiteral characters n → ⊥
    tokens_or_wide n b =
        let s = one_reach characters b.tokens t.others b.spot t.spot b.reaches (reaches_of characters ts t k) (wide_halts b.tokens b.spot b.token b.rest b.next b.wide) (end_halts t.others t.spot t.last [] t.final t.is_end) in
        let e = one_token b.spot b.token t.last b.rest [] b.next (subst (λ x. IsNext x t.last []) (sym s.spot) t.final) in
        b.wide (subst (λ (x : Token). IsNarrow x.kind) (sym e.token) end_is_narrow)

    pub tokens_or_long : (n : ℕ) → IsTooLong characters n → ⊥
    tokens_or_long n b =
        let s = one_reach characters b.tokens t.others b.spot t.spot b.reaches (reaches_of characters ts t k) (long_halts b.tokens b.spot b.full) (end_halts t.others t.spot t.last [] t.final t.is_end) in
        let e = one_token b.spot b.token t.last b.rest [] b.next (subst (λ x. IsNext x t.last []) (sym s.spot) t.final) in
        b.more (ap (λ (x : Token). x.kind) e.token ∙ t.is_end)
