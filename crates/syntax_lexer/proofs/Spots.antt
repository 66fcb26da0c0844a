-- Bytes before and between tokens.
use Rattle.std.proofs.Common.{◌≡◌, ℕ, pos, ◌^◌, ◌+◌, ◌<◌, ◌≤◌, Bool, false, List, ◌++◌, length, take, drop, Option, Some, None, refl, sym, ap, ◌∙◌, subst, arith, length-append, ⊎_elim}
use Rattle.std.specs.Prelude.{encode_utf8_all, MatchOption, ◌<ℤ◌}
use Rattle.std.proofs.lemmas.List.{take-append-drop}
use Rattle.std.proofs.lemmas.Str.{encodes-append}
use Rattle.std.proofs.Math.Nat.{min-eq_left, min-eq_right}
use Rattle.std.proofs.lemmas.Int.{ints}
use Rattle.std.proofs.lemmas.Bool.{lt-ltb, cases_lt}
use Rattle.ada_base.specs.declared.token.Kind.{Kind}
use Rattle.ada_base.specs.declared.token.Kind.TheVariants.{Ident, Word, Number, Text, Letter, Real, Mark, End}
use Rattle.syntax_lexer.specs.declared.found.Found.{Found}
use Rattle.ada_base.specs.declared.token.Token.{Token}
use Rattle.syntax_tree.specs.Faults.{IsNarrow}
use Rattle.syntax_tree.specs.Tokens.{IsNext}
use Rattle.syntax_tree.specs.Gaps.{IsGap}
use Rattle.syntax_tree.specs.Spelling.{IsSpelling, IsTokenAt, admits_letter}
use Rattle.syntax_lexer.proofs.Blank.{blank}
use Rattle.syntax_lexer.proofs.Sound.{found_of}
use Rattle.syntax_lexer.proofs.TokenLaw.{token_found, token_read}
use Rattle.syntax_lexer.specs.Reading.{beyond_gap, token_at, kept, limited, wide}
use Rattle.syntax_lexer.specs.Stop.{SkipsGap, TakesToken, spot_at}

pub bytes_take : (n : ℕ) (cs : List ℕ) → length (encode_utf8_all (take n cs)) ≤ length (encode_utf8_all cs)
bytes_take n cs =
    let whole : encode_utf8_all cs ≡ encode_utf8_all (take n cs) ++ encode_utf8_all (drop n cs) = ap encode_utf8_all (sym (take-append-drop n cs)) ∙ encodes-append (take n cs) (drop n cs) in
    omega (arith, ap length whole, length-append (encode_utf8_all (take n cs)) (encode_utf8_all (drop n cs)))

pub bytes_parts : (front rest cs : List ℕ) → cs ≡ front ++ rest → length (encode_utf8_all front) + length (encode_utf8_all rest) ≡ length (encode_utf8_all cs)
bytes_parts front rest cs e =
    let whole = ap (λ s. length (encode_utf8_all s)) e ∙ ap length (encodes-append front rest) in
    omega (arith, whole, length-append (encode_utf8_all front) (encode_utf8_all rest))

pub shorter_gap : (cs here : List ℕ) → here ≡ beyond_gap false cs → length here ≤ length cs
shorter_gap cs here e = let b = blank cs in omega (arith, ap length b.parts, length-append b.gap (beyond_gap false cs), ap length e)

pub skipped : (cs here : List ℕ) (bytes : ℕ) → here ≡ beyond_gap false cs → ((front : List ℕ) → cs ≡ front ++ here → bytes ≡ length (encode_utf8_all front)) → SkipsGap cs here bytes
skipped cs here bytes e count =
    let b = blank cs in
    let parts : cs ≡ b.gap ++ here = rw e b.parts in
    let bytes_is = count b.gap parts in
    record {
      gap = b.gap;
      parts = parts;
      between = rw e b.between;
      bytes_is = bytes_is;
      whole = rw bytes_is (bytes_parts b.gap here cs parts);
    }

-- a value is told exactly where it is narrow
narrow_cases : (v : ℕ) → MatchOption (kept (found_of (Number (pos v)))) (IsNarrow (Number (pos v)) → ⊥) (λ k. (k ≡ Number (pos v)) × IsNarrow (Number (pos v)))
narrow_cases v = ⊎_elim below above (cases_lt v wide) where
  below : v < wide → MatchOption (kept (found_of (Number (pos v)))) (IsNarrow (Number (pos v)) → ⊥) (λ k. (k ≡ Number (pos v)) × IsNarrow (Number (pos v)))
  below h =
      let same : limited v ≡ v = min-eq_left (omega arith) in
      let less : pos v <ℤ pos (2 ^ 127) = omega (arith, ints) in
      rw (same, lt-ltb v wide h) (refl, less)

  above : wide ≤ v → MatchOption (kept (found_of (Number (pos v)))) (IsNarrow (Number (pos v)) → ⊥) (λ k. (k ≡ Number (pos v)) × IsNarrow (Number (pos v)))
  above h =
      let most : limited v ≡ wide = min-eq_right h in
      rw most (λ less. absurd (omega (arith, ints, less)))

told : (before : Option Kind) (kind : Kind) (slice : List ℕ) → IsSpelling before kind slice → MatchOption (kept (found_of kind)) (IsNarrow kind → ⊥) (λ k. (k ≡ kind) × IsNarrow kind)
told before Ident slice h = (refl, tt)
told before (Word n) slice h = (refl, tt)
told before (Number z) slice (v, number, e) = rw e (narrow_cases v)
told before Text slice h = (refl, tt)
told before Letter slice h = (refl, tt)
told before Real slice h = (refl, tt)
told before (Mark n) slice h = (refl, tt)
told before End slice h = (refl, tt)

pub shorter_token : (before : Option Kind) (cs : List ℕ) (found : Found) (rest : List ℕ) → token_at (admits_letter before) cs ≡ Some (found, rest) → length rest ≤ length cs
shorter_token before cs found rest h = let t = token_found before cs found rest h in omega (arith, ap length t.parts, length-append t.slice rest)

pub taken : (before : Option Kind) (cs : List ℕ) (found : Found) (rest : List ℕ) (kind : Option Kind) (bytes : ℕ) → token_at (admits_letter before) cs ≡ Some (found, rest) → kind ≡ kept found → ((front : List ℕ) → cs ≡ front ++ rest → bytes ≡ length (encode_utf8_all front)) → TakesToken before cs kind bytes rest
taken before cs found rest kind bytes h kind_is count =
    let t = token_found before cs found rest h in
    let bytes_is = count t.slice t.parts in
    record {
      kind = t.kind;
      slice = t.slice;
      parts = t.parts;
      token = t.token;
      told_is = kind_told t.kind (kind_is ∙ ap kept t.found_is) (told before t.kind t.slice t.token.spelled);
      bytes_is = bytes_is;
      whole = rw bytes_is (bytes_parts t.slice rest cs t.parts);
    }
  where
    kind_told : (k : Kind) → kind ≡ kept (found_of k) → MatchOption (kept (found_of k)) (IsNarrow k → ⊥) (λ j. (j ≡ k) × IsNarrow k) → MatchOption kind (IsNarrow k → ⊥) (λ j. (j ≡ k) × IsNarrow k)
    kind_told k e h = subst (λ (o : Option Kind). MatchOption o (IsNarrow k → ⊥) (λ j. (j ≡ k) × IsNarrow k)) (sym e) h

pub none_taken : (before : Option Kind) (cs : List ℕ) → token_at (admits_letter before) cs ≡ None → (kind : Kind) (slice rest : List ℕ) → cs ≡ slice ++ rest → IsTokenAt before kind slice rest → ⊥
none_taken before cs h kind slice rest parts t =
    let there : token_at (admits_letter before) cs ≡ Some (found_of kind, rest) = rw parts (token_read before kind slice rest t) in
    let no : ◌≡◌ {A = Option (Found × List ℕ)} None (Some (found_of kind, rest)) = sym h ∙ there in
    cc

not_narrow : (told : Option Kind) → told ≡ None → (kind : Kind) → MatchOption told (IsNarrow kind → ⊥) (λ k. (k ≡ kind) × IsNarrow kind) → IsNarrow kind → ⊥
not_narrow None e kind h = h
not_narrow (Some k) e kind h = cc

-- a literal that is too wide stands next
pub wide_next : (before : Option Kind) (at : ℕ) (cs here : List ℕ) (gap bytes : ℕ) (rest : List ℕ) (told : Option Kind) → told ≡ None → SkipsGap cs here gap → TakesToken before here told bytes rest → (token : Token) × (rest : List ℕ) × IsNext (spot_at before at cs) token rest × (IsNarrow token.kind → ⊥) × (at + gap ≡ token.span.start)
wide_next before at cs here gap bytes rest told none g t = (
  record { kind = t.kind; span = record { start = at + gap; end = at + gap + bytes } },
  rest,
  record {
    gap = g.gap;
    slice = t.slice;
    parts = g.parts ∙ ap (λ s. g.gap ++ s) t.parts;
    between = subst (IsGap g.gap) t.parts g.between;
    token_there = t.token;
    start = ap (λ n. at + n) g.bytes_is;
    end = ap (λ n. at + gap + n) t.bytes_is;
  },
  not_narrow told none t.kind t.told_is,
  refl,
)

-- what is read, where a character literal may stand or not after the token before
pub told_read : (admitted : Bool) (before : Option Kind) (cs : List ℕ) (x : Option (Found × List ℕ)) → admitted ≡ admits_letter before → token_at admitted cs ≡ x → token_at (admits_letter before) cs ≡ x
told_read admitted before cs x e h = ap (λ a. token_at a cs) (sym e) ∙ h
