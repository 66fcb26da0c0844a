-- The reader that stops at what would be too deep.
use Rattle.std.proofs.Common.{◌≡◌, ℕ, ◌<◌, List, [], ◌∷◌, ◌++◌, Bool, true, false, if◌then◌else◌, inl, inr, refl, sym, ap, ◌∙◌}
use Rattle.ada_base.specs.Symbols.{Symbol, Nested, Word, symbols_of, is_member, next_kind}
use Rattle.syntax_readers.specs.Readers.{Answer, Found, Refused, TooDeep, too_deep}
use Rattle.ada_base.specs.Languages.{Language, Begins}
use Rattle.syntax_readers.specs.Sets.{Sets}
use Rattle.syntax_readers.specs.Exact.{RefusesWell, SinksWell, Exact}
use Rattle.syntax_readers.proofs.Answers.{refused_found, deep_found, deep_refused, same_rest}
use Rattle.syntax_readers.proofs.Words.{no_growth}

-- what is answered at what would be too deep, or isn't
abbrev answer_at : {A : Type 0} → Bool → List Symbol → Answer A × List Symbol
answer_at b ts = if b then (TooDeep, ts) else (Refused, ts)

-- each word begins with a symbol that is too deep
abbrev pub BeginsTooDeep : ℕ → List ℕ → Language
BeginsTooDeep limit firsts w = (c : Nested) × (v : Word) × (w ≡ c ∷ v) × (limit < c.depth) × (is_member firsts c.symbol.kind ≡ true)

module _ {limit : ℕ} {A : Type 0} (s : Sets) (L : A → Language)
    (first : (a : A) (w : Word) → L a w → BeginsTooDeep limit s.first w)
    (begins : (t : Symbol) → is_member s.first t.kind ≡ true → Begins L (t ∷ []))
    (no_end : is_member s.first 0 ≡ false) where
  suffix : (ts : List Symbol) (b : Bool) → (front : List Symbol) × (ts ≡ front ++ (answer_at {A = A} b ts).1)
  suffix ts true = ([], refl)
  suffix ts false = ([], refl)

  local : (xs r r' : List Symbol) (o : Answer A) (y : Symbol) (ys : List Symbol) → too_deep s.first (xs ++ r) ≡ (o, (y ∷ ys) ++ r) → too_deep s.first (xs ++ r') ≡ (o, (y ∷ ys) ++ r')
  local [] r r' o y ys e = let f = suffix r (is_member s.first (next_kind r)) in absurd (no_growth r f.0 y ys (f.1 ∙ ap (λ z. f.0 ++ z.1) e))
  local (t ∷ xs) r r' o y ys e = at (is_member s.first t.kind) e where
    at : (b : Bool) → answer_at b (t ∷ (xs ++ r)) ≡ (o, (y ∷ ys) ++ r) → answer_at b (t ∷ (xs ++ r')) ≡ (o, (y ∷ ys) ++ r')
    at true e = same_rest TooDeep (t ∷ xs) r r' o y ys e
    at false e = same_rest Refused (t ∷ xs) r r' o y ys e

  sound : (ts : List Symbol) (a : A) (rest : List Symbol) (b : Bool) → answer_at b ts ≡ (Found a, rest) → (w : Word) × L a w × (ts ≡ symbols_of w ++ rest)
  sound ts a rest true e = absurd (deep_found a (ap (λ z. z.0) e))
  sound ts a rest false e = absurd (refused_found a (ap (λ z. z.0) e))

  refused : (ts back : List Symbol) (b : Bool) → answer_at {A = A} b ts ≡ (Refused, back) → RefusesWell L ts back
  refused ts back true e = absurd (deep_refused (ap (λ z. z.0) e))
  refused ts back false e = ([], ap (λ z. z.1) e, inl refl)

  deep : (ts back : List Symbol) → too_deep {A = A} s.first ts ≡ (TooDeep, back) → SinksWell L ts back
  deep [] back e = absurd (deep_refused (sym (ap (λ z. z.0) (ap (λ b. answer_at {A = A} b []) (sym no_end) ∙ e))))
  deep (t ∷ ts) back e = at (is_member s.first t.kind) (begins t) e where
    at : (b : Bool) → (b ≡ true → Begins L (t ∷ [])) → answer_at {A = A} b (t ∷ ts) ≡ (TooDeep, back) → SinksWell L (t ∷ ts) back
    at true f e = ([], t, ts, ap (λ z. z.1) e, sym (ap (λ z. z.1) e), f refl)
    at false f e = absurd (deep_refused (sym (ap (λ z. z.0) e)))

  -- the reader that stops is exact for words that all begin too deep
  pub exact_too_deep : Exact limit s L (too_deep s.first)
  exact_too_deep = record {
    steady = record {
      suffix = λ ts. suffix ts (is_member s.first (next_kind ts));
      local = local;
      sound = λ ts a rest e. sound ts a rest (is_member s.first (next_kind ts)) e;
      refused = λ ts back e. refused ts back (is_member s.first (next_kind ts)) e;
      deep = deep;
    };
    starts = λ a w l. let (c, v, e, over, m) = first a w l in inl (c, v, e, m);
    whole = λ a w rest l st. let (c, v, e, over, m) = first a w l in
        inr ([], c, v, e, tt, over, ap (λ z. too_deep s.first (symbols_of z ++ rest)) e ∙ ap (λ b. answer_at b (c.symbol ∷ (symbols_of v ++ rest))) m);
  }
