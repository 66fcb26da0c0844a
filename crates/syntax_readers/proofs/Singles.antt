-- The readers of nothing and of one symbol.
use Rattle.std.proofs.Common.{◌≡◌, ℕ, ◌≤◌, List, [], ◌∷◌, ◌++◌, Bool, true, false, if◌then◌else◌, ◌==◌, ◌||◌, Option, Some, None, inl, inr, refl, sym, ap, ◌∙◌, subst}
use Rattle.std.proofs.lemmas.Bool.Decides.{Decides-eqb}
use Rattle.ada_base.specs.Symbols.{Symbol, Word, symbols_of}
use Rattle.syntax_readers.specs.Readers.{Answer, Found, Refused, TooDeep, Reader, pure, refuse, symbol, given}
use Rattle.ada_base.specs.Languages.{Language, Leaf, Pure, Given, Inhabited}
use Rattle.syntax_readers.specs.Sets.{Sets, one_kind, no_kind}
use Rattle.ada_base.specs.Derivations.{AllWithin}
use Rattle.syntax_readers.specs.Exact.{RefusesWell, Steady, Exact}
use Rattle.syntax_readers.proofs.Answers.{refused_found, deep_found, deep_refused, found_is, same_rest}
use Rattle.syntax_readers.proofs.Words.{no_growth}

pub steady_pure : {A : Type 0} (c : A) → Steady (Pure c) (pure c)
steady_pure c = record {
  suffix = λ ts. ([], refl);
  local = λ xs r r' o y ys e. same_rest (Found c) xs r r' o y ys e;
  sound = λ ts a rest e. ([], (sym (found_is c a (ap (λ z. z.0) e)), refl), ap (λ z. z.1) e);
  refused = λ ts back e. absurd (refused_found c (sym (ap (λ z. z.0) e)));
  deep = λ ts back e. absurd (deep_found c (sym (ap (λ z. z.0) e)));
}

pub exact_pure : {limit : ℕ} {A : Type 0} (c : A) → Exact limit no_kind (Pure c) (pure c)
exact_pure {limit} {A} c = record {
  steady = steady_pure c;
  starts = λ a w l. inr (l.1, refl);
  whole = λ a w rest l st. inl (subst (AllWithin limit) (sym l.1) tt, ap (λ (z : A). (Found z, symbols_of w ++ rest)) (sym l.0) ∙ ap (λ (z : Word). (Found a, symbols_of z ++ rest)) l.1);
}

-- the empty word is a word of nothing
pub inhabited_pure : {A : Type 0} (a : A) → Inhabited (Pure a)
inhabited_pure a next = (a, [], [], (refl, refl), refl)

-- no word at all
pub exact_refuse : {limit : ℕ} {A : Type 0} (s : Sets) → Exact limit {A = A} s (λ _ _. ⊥) refuse
exact_refuse {limit} {A} s = record {
  steady = record {
    suffix = λ ts. ([], refl);
    local = λ xs r r' o y ys e. same_rest Refused xs r r' o y ys e;
    sound = λ ts a rest e. absurd (refused_found a (ap (λ z. z.0) e));
    refused = λ ts back e. ([], ap (λ z. z.1) e, inl refl);
    deep = λ ts back e. absurd (deep_refused (sym (ap (λ z. z.0) e)));
  };
  starts = λ a w l. absurd l;
  whole = λ a w rest l st. absurd l;
}

pub exact_given : {limit : ℕ} {A B : Type 0} {s : Sets} {M : A → B → Language} {q : A → Reader B} (o : Option A) → ((a : A) → Exact limit s (M a) (q a)) → Exact limit s (Given o M) (given o q)
exact_given {limit} {A} {B} {s} None h = exact_refuse s
exact_given (Some a) h = h a

pub inhabited_leaf : (d k : ℕ) → Inhabited (Leaf d k)
inhabited_leaf d k next = (next, record { symbol = record { number = next; kind = k }; depth = d } ∷ [], k ∷ [], refl, refl)

-- what is answered at a symbol that is of the kind, or isn't
abbrev answer_at : Bool → Symbol → List Symbol → Answer ℕ × List Symbol
answer_at b t ts = if b then (Found t.number, ts) else (Refused, t ∷ ts)

symbol_is : (k : ℕ) (t : Symbol) (ts : List Symbol) → t.kind ≡ k → symbol k (t ∷ ts) ≡ (Found t.number, ts)
symbol_is k t ts e = ap (λ b. answer_at b t ts) ((Decides-eqb t.kind k).1 e)

module _ (limit d : ℕ) (within : d ≤ limit) (k : ℕ) where
  symbol_suffix : (ts : List Symbol) → (front : List Symbol) × (ts ≡ front ++ (symbol k ts).1)
  symbol_suffix [] = ([], refl)
  symbol_suffix (t ∷ ts) = at (t.kind == k) where
    at : (b : Bool) → (front : List Symbol) × (t ∷ ts ≡ front ++ (answer_at b t ts).1)
    at true = (t ∷ [], refl)
    at false = ([], refl)

  symbol_local : (xs r r' : List Symbol) (o : Answer ℕ) (y : Symbol) (ys : List Symbol) → symbol k (xs ++ r) ≡ (o, (y ∷ ys) ++ r) → symbol k (xs ++ r') ≡ (o, (y ∷ ys) ++ r')
  symbol_local [] r r' o y ys e = let s = symbol_suffix r in absurd (no_growth r s.0 y ys (s.1 ∙ ap (λ z. s.0 ++ z.1) e))
  symbol_local (t ∷ xs) r r' o y ys e = at (t.kind == k) e where
    at : (b : Bool) → answer_at b t (xs ++ r) ≡ (o, (y ∷ ys) ++ r) → answer_at b t (xs ++ r') ≡ (o, (y ∷ ys) ++ r')
    at true e = same_rest (Found t.number) xs r r' o y ys e
    at false e = same_rest Refused (t ∷ xs) r r' o y ys e

  symbol_sound : (ts : List Symbol) (a : ℕ) (rest : List Symbol) → symbol k ts ≡ (Found a, rest) → (w : Word) × Leaf d k a w × (ts ≡ symbols_of w ++ rest)
  symbol_sound [] a rest e = absurd (refused_found a (ap (λ z. z.0) e))
  symbol_sound (t ∷ ts) a rest e = at (t.kind == k) ((Decides-eqb t.kind k).0) e where
    at : (b : Bool) → (b ≡ true → t.kind ≡ k) → answer_at b t ts ≡ (Found a, rest) → (w : Word) × Leaf d k a w × (t ∷ ts ≡ symbols_of w ++ rest)
    at true f e =
        let number_is = found_is t.number a (ap (λ z. z.0) e) in (
          record { symbol = t; depth = d } ∷ [],
          ap (λ (z : ℕ). record { symbol = record { number = z; kind = t.kind }; depth = d } ∷ []) number_is
              ∙ ap (λ (z : ℕ). record { symbol = record { number = a; kind = z }; depth = d } ∷ []) (f refl),
          ap (λ z. t ∷ z.1) e,
        )
    at false f e = absurd (refused_found a (ap (λ z. z.0) e))

  symbol_refused : (ts back : List Symbol) → symbol k ts ≡ (Refused, back) → RefusesWell (Leaf d k) ts back
  symbol_refused [] back e = ([], ap (λ z. z.1) e, inl refl)
  symbol_refused (t ∷ ts) back e = at (t.kind == k) e where
    at : (b : Bool) → answer_at b t ts ≡ (Refused, back) → RefusesWell (Leaf d k) (t ∷ ts) back
    at true e = absurd (refused_found t.number (sym (ap (λ z. z.0) e)))
    at false e = ([], ap (λ z. z.1) e, inl refl)

  symbol_deep : (ts back : List Symbol) → symbol k ts ≡ (TooDeep, back) → ⊥
  symbol_deep [] back e = deep_refused (sym (ap (λ z. z.0) e))
  symbol_deep (t ∷ ts) back e = at (t.kind == k) e where
    at : (b : Bool) → answer_at b t ts ≡ (TooDeep, back) → ⊥
    at true e = deep_found t.number (sym (ap (λ z. z.0) e))
    at false e = deep_refused (sym (ap (λ z. z.0) e))

  pub exact_symbol : Exact limit (one_kind k) (Leaf d k) (symbol k)
  exact_symbol = record {
    steady = record { suffix = symbol_suffix; local = symbol_local; sound = symbol_sound; refused = symbol_refused; deep = λ ts back e. absurd (symbol_deep ts back e) };
    starts = λ a w l. inl (record { symbol = record { number = a; kind = k }; depth = d }, [], l, ap (λ z. z || false) itself);
    whole = λ a w rest l st. inl (subst (AllWithin limit) (sym l) (within, tt), ap (λ (z : Word). symbol k (symbols_of z ++ rest)) l ∙ symbol_is k (record { number = a; kind = k }) rest refl);
  } where
    itself : (k == k) ≡ true
    itself = (Decides-eqb k k).1 refl
