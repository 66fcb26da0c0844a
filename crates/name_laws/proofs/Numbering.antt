-- Each identifier's number is the place of its spelling.
use Rattle.std.proofs.Common.{◌≡◌, ℕ, zero, suc, ◌+◌, ◌<◌, ◌≤◌, List, [], ◌∷◌, ◌++◌, length, length-append, Option, Some, None, Bool, true, false, refl, sym, ap, subst, ◌∙◌, arith, ◌==◌, eqb-true, eq-eqb, slice_get, true≢false, ◌⊎◌, inl, inr}
use Rattle.std.proofs.lemmas.Bool.{and_from, and_parts, false≢true}
use Rattle.std.specs.Prelude.{unwrap_or}
use Rattle.ada_base.specs.Folding.{folded}
use Rattle.ada_base.specs.Tokens.{Tokenized, kind_at, slice_at}
use Rattle.ada_base.specs.declared.token.Kind.{Kind}
use Rattle.ada_base.specs.declared.token.Kind.TheVariants as kind
use Rattle.ada_base.specs.declared.token.Token.{Token}
use Rattle.name_symbols.specs.Naming.{Symbols, alike, language, names_of, next_symbol, no_symbols, numbered, or_else, place, symbol_of_kind, symbols_from, with_symbol}
use Rattle.name_laws.specs.Alike.{SymbolLaw}

-- ---- lists that are alike are the same

alike-same : (s : List ℕ) → alike s s ≡ true
alike-same [] = refl
alike-same (c ∷ s) = and_from (c == c) (alike s s) (eq-eqb c c refl) (alike-same s)

alike-eq : (s t : List ℕ) → alike s t ≡ true → s ≡ t
alike-eq [] [] e = refl
alike-eq [] (d ∷ t) e = absurd (false≢true e)
alike-eq (c ∷ s) [] e = absurd (false≢true e)
alike-eq (c ∷ s) (d ∷ t) e =
    let p = and_parts (c == d) (alike s t) e in
    let head : c ≡ d = eqb-true c d p.0 in
    let rest : s ≡ t = alike-eq s t p.1 in
    ap (λ x. x ∷ s) head ∙ ap (λ x. d ∷ x) rest

-- ---- places

here : (w x : List ℕ) (xs : List (List ℕ)) (n : ℕ) → alike w x ≡ true → place w (x ∷ xs) n ≡ Some n
here w x xs n e = rw e

later : (w x : List ℕ) (xs : List (List ℕ)) (n : ℕ) → alike w x ≡ false → place w (x ∷ xs) n ≡ place w xs (n + 1)
later w x xs n e = rw e

some-same : (m n : ℕ) → Some m ≡ Some n → m ≡ n
some-same m n e = cc

none-some : {P : Type 0} (m : ℕ) → None ≡ Some m → P
none-some m e = absurd cc

place-above : (w : List ℕ) (xs : List (List ℕ)) (n m : ℕ) → place w xs n ≡ Some m → n ≤ m
place-above w [] n m e = none-some m e
place-above w (x ∷ xs) n m e = by (alike w x) refl (λ f. place-above w xs (n + 1) m f)
  where
    by : (b : Bool) → alike w x ≡ b → (place w xs (n + 1) ≡ Some m → n + 1 ≤ m) → n ≤ m
    by true a k = omega (arith, some-same n m (sym (here w x xs n a) ∙ e))
    by false a k = omega (arith, k (sym (later w x xs n a) ∙ e))

place-below : (w : List ℕ) (xs : List (List ℕ)) (n m : ℕ) → place w xs n ≡ Some m → m < n + length xs
place-below w [] n m e = none-some m e
place-below w (x ∷ xs) n m e = by (alike w x) refl (λ f. place-below w xs (n + 1) m f)
  where
    by : (b : Bool) → alike w x ≡ b → (place w xs (n + 1) ≡ Some m → m < n + 1 + length xs) → m < n + length (x ∷ xs)
    by true a k = omega (arith, some-same n m (sym (here w x xs n a) ∙ e))
    by false a k = omega (arith, k (sym (later w x xs n a) ∙ e))

-- one place has one spelling
place-same : (w v : List ℕ) (xs : List (List ℕ)) (n m : ℕ) → place w xs n ≡ Some m → place v xs n ≡ Some m → w ≡ v
place-same w v [] n m e f = none-some m e
place-same w v (x ∷ xs) n m e f = by (alike w x) (alike v x) refl refl (λ p q. place-same w v xs (n + 1) m p q)
  where
    by : (b c : Bool) → alike w x ≡ b → alike v x ≡ c → (place w xs (n + 1) ≡ Some m → place v xs (n + 1) ≡ Some m → w ≡ v) → w ≡ v
    by true true a z k = alike-eq w x a ∙ sym (alike-eq v x z)
    by true false a z k = absurd (omega (arith, some-same n m (sym (here w x xs n a) ∙ e), place-above v xs (n + 1) m (sym (later v x xs n z) ∙ f)))
    by false true a z k = absurd (omega (arith, some-same n m (sym (here v x xs n z) ∙ f), place-above w xs (n + 1) m (sym (later w x xs n a) ∙ e)))
    by false false a z k = k (sym (later w x xs n a) ∙ e) (sym (later v x xs n z) ∙ f)

-- spellings that come later change no place
place-kept : (w : List ℕ) (xs ys : List (List ℕ)) (n m : ℕ) → place w xs n ≡ Some m → place w (xs ++ ys) n ≡ Some m
place-kept w [] ys n m e = none-some m e
place-kept w (x ∷ xs) ys n m e = by (alike w x) refl (λ f. place-kept w xs ys (n + 1) m f)
  where
    by : (b : Bool) → alike w x ≡ b → (place w xs (n + 1) ≡ Some m → place w (xs ++ ys) (n + 1) ≡ Some m) → place w (x ∷ (xs ++ ys)) n ≡ Some m
    by true a k = here w x (xs ++ ys) n a ∙ sym (here w x xs n a) ∙ e
    by false a k = later w x (xs ++ ys) n a ∙ k (sym (later w x xs n a) ∙ e)

place-new : (w : List ℕ) (xs : List (List ℕ)) (n : ℕ) → place w xs n ≡ None → place w (xs ++ w ∷ []) n ≡ Some (n + length xs)
place-new w [] n e = here w w [] n (alike-same w) ∙ ap Some (omega arith)
place-new w (x ∷ xs) n e = by (alike w x) refl (λ f. place-new w xs (n + 1) f)
  where
    by : (b : Bool) → alike w x ≡ b → (place w xs (n + 1) ≡ None → place w (xs ++ w ∷ []) (n + 1) ≡ Some (n + 1 + length xs)) → place w (x ∷ (xs ++ w ∷ [])) n ≡ Some (n + length (x ∷ xs))
    by true a k = none-some n (sym e ∙ here w x xs n a)
    by false a k = later w x (xs ++ w ∷ []) n a ∙ k (sym (later w x xs n a) ∙ e) ∙ ap Some (omega arith)

-- ---- numbers

below-34 : (k : ℕ) → k < 0 + length language → k < 34
below-34 k h = h

-- one number has one spelling: those of the language are below 34, the others not
numbered-same : (w v : List ℕ) (ws : List (List ℕ)) (n : ℕ) → numbered w ws ≡ Some n → numbered v ws ≡ Some n → w ≡ v
numbered-same w v ws n e f = by (place w language 0) (place v language 0) refl refl
  where
    by : (x y : Option ℕ) → place w language 0 ≡ x → place v language 0 ≡ y → w ≡ v
    by (Some i) (Some j) a z = place-same w v language 0 n (a ∙ sym (ap (λ o. or_else o (place w ws 34)) a) ∙ e) (z ∙ sym (ap (λ o. or_else o (place v ws 34)) z) ∙ f)
    by (Some i) None a z =
        let small : n < 0 + length language = place-below w language 0 n (a ∙ sym (ap (λ o. or_else o (place w ws 34)) a) ∙ e) in
        let large : 34 ≤ n = place-above v ws 34 n (sym (ap (λ o. or_else o (place v ws 34)) z) ∙ f) in
        absurd (omega (arith, below-34 n small, large))
    by None (Some j) a z =
        let small : n < 0 + length language = place-below v language 0 n (z ∙ sym (ap (λ o. or_else o (place v ws 34)) z) ∙ f) in
        let large : 34 ≤ n = place-above w ws 34 n (sym (ap (λ o. or_else o (place w ws 34)) a) ∙ e) in
        absurd (omega (arith, below-34 n small, large))
    by None None a z = place-same w v ws 34 n (sym (ap (λ o. or_else o (place w ws 34)) a) ∙ e) (sym (ap (λ o. or_else o (place v ws 34)) z) ∙ f)

numbered-kept : (w : List ℕ) (ws more : List (List ℕ)) (n : ℕ) → numbered w ws ≡ Some n → numbered w (ws ++ more) ≡ Some n
numbered-kept w ws more n e = by (place w language 0) refl
  where
    by : (x : Option ℕ) → place w language 0 ≡ x → numbered w (ws ++ more) ≡ Some n
    by (Some i) a = ap (λ o. or_else o (place w (ws ++ more) 34)) a ∙ sym (ap (λ o. or_else o (place w ws 34)) a) ∙ e
    by None a = ap (λ o. or_else o (place w (ws ++ more) 34)) a ∙ place-kept w ws more 34 n (sym (ap (λ o. or_else o (place w ws 34)) a) ∙ e)

numbered-new : (w : List ℕ) (ws : List (List ℕ)) → numbered w ws ≡ None → numbered w (ws ++ w ∷ []) ≡ Some (34 + length ws)
numbered-new w ws e = by (place w language 0) refl
  where
    by : (x : Option ℕ) → place w language 0 ≡ x → numbered w (ws ++ w ∷ []) ≡ Some (34 + length ws)
    by (Some i) a = none-some i (sym e ∙ ap (λ o. or_else o (place w ws 34)) a)
    by None a = ap (λ o. or_else o (place w (ws ++ w ∷ []) 34)) a ∙ place-new w ws 34 (sym (ap (λ o. or_else o (place w ws 34)) a) ∙ e)

-- ---- the numbers of tokens

get-before : (xs : List ℕ) (x i : ℕ) → i < length xs → slice_get (xs ++ x ∷ []) i ≡ slice_get xs i
get-before [] x i h = absurd (omega (arith, h))
get-before (y ∷ xs) x zero h = refl
get-before (y ∷ xs) x (suc i) h = get-before xs x i (omega (arith, h))

get-last : (xs : List ℕ) (x : ℕ) → slice_get (xs ++ x ∷ []) (length xs) ≡ Some x
get-last [] x = refl
get-last (y ∷ xs) x = get-last xs x

-- what a next token leaves of the numbers before it
pub record Next (s : Symbols) (w : List ℕ) (k : Kind) (r : Symbols) : Type 0 where
  pub one : length r.numbers ≡ length s.numbers + 1
  pub before : (i : ℕ) → i < length s.numbers → slice_get r.numbers i ≡ slice_get s.numbers i
  pub kept : (v : List ℕ) (n : ℕ) → numbered v s.spellings ≡ Some n → numbered v r.spellings ≡ Some n
  pub own : k ≡ kind.Ident → (n : ℕ) × (slice_get r.numbers (length s.numbers) ≡ Some n) × (numbered w r.spellings ≡ Some n)

with-next : (w : List ℕ) (s : Symbols) (x : Option ℕ) → numbered w s.spellings ≡ x → Next s w kind.Ident (with_symbol w s x)
with-next w s (Some n) e = record {
  one = length-append s.numbers (n ∷ []);
  before = λ i h. get-before s.numbers n i h;
  kept = λ v m h. h;
  own = λ h. (n, get-last s.numbers n, e);
}
with-next w s None e = record {
  one = length-append s.numbers ((34 + length s.spellings) ∷ []);
  before = λ i h. get-before s.numbers (34 + length s.spellings) i h;
  kept = λ v m h. numbered-kept v s.spellings (w ∷ []) m h;
  own = λ h. (34 + length s.spellings, get-last s.numbers (34 + length s.spellings), numbered-new w s.spellings e);
}

other : (w : List ℕ) (s : Symbols) (k : Kind) → (k ≡ kind.Ident → ⊥) → Next s w k (record { numbers = s.numbers ++ 0 ∷ []; spellings = s.spellings })
other w s k n = record {
  one = length-append s.numbers (0 ∷ []);
  before = λ i h. get-before s.numbers 0 i h;
  kept = λ v m h. h;
  own = λ h. absurd (n h);
}

next : (w : List ℕ) (s : Symbols) (k : Kind) → Next s w k (symbol_of_kind w s k)
next w s kind.Ident = with-next w s (numbered w s.spellings) refl
next w s (kind.Word c) = other w s (kind.Word c) (λ e. absurd cc)
next w s (kind.Number z) = other w s (kind.Number z) (λ e. absurd cc)
next w s kind.Text = other w s kind.Text (λ e. absurd cc)
next w s kind.Letter = other w s kind.Letter (λ e. absurd cc)
next w s kind.Real = other w s kind.Real (λ e. absurd cc)
next w s (kind.Mark c) = other w s (kind.Mark c) (λ e. absurd cc)
next w s kind.End = other w s kind.End (λ e. absurd cc)

-- each identifier so far has the number of its spelling
pub record Numbers (t : Tokenized) (s : Symbols) (k : ℕ) : Type 0 where
  pub many : length s.numbers ≡ k
  pub each : (i : ℕ) → i < k → kind_at t.items i ≡ kind.Ident
      → (n : ℕ) × (slice_get s.numbers i ≡ Some n) × (numbered (folded (slice_at t i)) s.spellings ≡ Some n)

at-or-below : (i k : ℕ) → i < k + 1 → (i ≡ k) ⊎ (i < k)
at-or-below i k h = by (i == k) refl
  where
    by : (b : Bool) → (i == k) ≡ b → (i ≡ k) ⊎ (i < k)
    by true e = inl (eqb-true i k e)
    by false e = inr (omega (arith, h, λ (q : i ≡ k). true≢false (sym (eq-eqb i k q) ∙ e)))

each-next : (t : Tokenized) (s r : Symbols) (k : ℕ) → Numbers t s k → Next s (folded (slice_at t k)) (kind_at t.items k) r → (i : ℕ) → i < k + 1 → kind_at t.items i ≡ kind.Ident
    → (i ≡ k) ⊎ (i < k) → (n : ℕ) × (slice_get r.numbers i ≡ Some n) × (numbered (folded (slice_at t i)) r.spellings ≡ Some n)
each-next t s r k h x i less e (inl same) =
    let o = x.own (ap (kind_at t.items) (sym same) ∙ e) in
    let at : length s.numbers ≡ i = h.many ∙ sym same in
    (o.0, ap (slice_get r.numbers) (sym at) ∙ o.1, ap (λ j. numbered (folded (slice_at t j)) r.spellings) same ∙ o.2)
each-next t s r k h x i less e (inr lower) =
    let o = h.each i lower e in
    (o.0, x.before i (subst (λ m. i < m) (sym h.many) lower) ∙ o.1, x.kept (folded (slice_at t i)) o.0 o.2)

numbers-next : (t : Tokenized) (s : Symbols) (k : ℕ) → Numbers t s k → Numbers t (next_symbol t s k) (k + 1)
numbers-next t s k h =
    let x = next (folded (slice_at t k)) s (kind_at t.items k) in
    record { many = x.one ∙ ap (λ n. n + 1) h.many; each = λ i less e. each-next t s (next_symbol t s k) k h x i less e (at-or-below i k less) }

numbers-from : (t : Tokenized) (s : Symbols) (k : ℕ) (xs : List Token) → Numbers t s k → Numbers t (symbols_from t s k xs) (k + length xs)
numbers-from t s k [] h = subst (Numbers t s) (omega arith) h
numbers-from t s k (x ∷ xs) h = subst (Numbers t (symbols_from t (next_symbol t s k) (k + 1) xs)) (omega arith) (numbers-from t (next_symbol t s k) (k + 1) xs (numbers-next t s k h))

nothing : (t : Tokenized) → Numbers t no_symbols 0
nothing t = record { many = refl; each = λ i h e. absurd (omega (arith, h)) }

all-numbers : (t : Tokenized) → Numbers t (symbols_from t no_symbols 0 t.items) (length t.items)
all-numbers t = subst (Numbers t (symbols_from t no_symbols 0 t.items)) (omega arith) (numbers-from t no_symbols 0 t.items (nothing t))

or-zero : Option ℕ → ℕ
or-zero o = unwrap_or o 0

pub symbol_law : SymbolLaw
unfolding names_of or-zero
symbol_law t text a b la lb ea eb =
    let s = symbols_from t no_symbols 0 t.items in
    let x = (all-numbers t).each a la ea in
    let y = (all-numbers t).each b lb eb in (
      λ e. let m : x.0 ≡ y.0 = ap or-zero (sym x.1) ∙ e ∙ ap or-zero y.1 in
          numbered-same (folded (slice_at t a)) (folded (slice_at t b)) s.spellings x.0 x.2 (y.2 ∙ ap Some (sym m)),
      λ e. let m : Some x.0 ≡ Some y.0 = sym x.2 ∙ ap (λ w. numbered w s.spellings) e ∙ y.2 in
          ap or-zero x.1 ∙ some-same x.0 y.0 m ∙ sym (ap or-zero y.1),
    )
