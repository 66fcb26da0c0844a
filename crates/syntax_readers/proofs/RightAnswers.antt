-- An exact reader gives the right verdict on a list of kinds.
use Rattle.std.proofs.Common.{◌≡◌, ℕ, suc, ◌+◌, ◌<◌, List, [], ◌∷◌, ◌++◌, length, false, ◌⊎◌, inl, inr, refl, sym, ap, ◌∙◌, subst, append_assoc, append-nil, arith}
use Rattle.std.proofs.lemmas.List.{append_cancel_right}
use Rattle.ada_base.specs.Symbols.{Symbol, numbered, Nested, Word, symbols_of, is_member}
use Rattle.syntax_readers.specs.Readers.{Answer, Found, Refused, TooDeep, Reader}
use Rattle.ada_base.specs.Languages.{Language, Begins}
use Rattle.syntax_readers.specs.Sets.{Sets}
use Rattle.ada_base.specs.Derivations.{AllWithin}
use Rattle.syntax_readers.specs.Exact.{Reads, Rule}
use Rattle.ada_base.specs.Derivations.{IsBeginning, IsFirstFault, SinksAt, IsFirstTooDeep}
use Rattle.syntax_readers.specs.Verdicts.{RightAnswer}
use Rattle.syntax_readers.proofs.Answers.{refused_found, deep_found, deep_refused}
use Rattle.syntax_readers.proofs.Words.{symbols_of-append, length-symbols_of, numbered-append, length-numbered, numbered-split, head_is, not_within}

-- the symbol of a kind after a front of kinds
abbrev after : List ℕ → ℕ → Symbol
after front kind = record { number = length front; kind = kind }

zero_plus : (n : ℕ) → 0 + n ≡ n
zero_plus n = omega arith

numbered-front : (xs ys : List ℕ) → numbered 0 (xs ++ ys) ≡ numbered 0 xs ++ numbered (length xs) ys
numbered-front xs ys = numbered-append 0 xs ys ∙ ap (λ n. numbered 0 xs ++ numbered n ys) (zero_plus (length xs))

-- where numbered kinds are split before a symbol
split_before : (ks : List ℕ) (front : List Symbol) (t : Symbol) (back : List Symbol) → numbered 0 ks ≡ front ++ t ∷ back
    → (xs : List ℕ) × (k : ℕ) × (ys : List ℕ) × (ks ≡ xs ++ k ∷ ys) × (front ≡ numbered 0 xs) × (t ≡ after xs k)
split_before ks front t back e = let (xs, ys, split, fronts, backs) = numbered-split 0 ks front (t ∷ back) e in at xs ys split fronts backs where
  no_more : t ∷ back ≡ [] → ⊥
  no_more q = cc

  at : (xs ys : List ℕ) → ks ≡ xs ++ ys → front ≡ numbered 0 xs → t ∷ back ≡ numbered (0 + length xs) ys
      → (xs : List ℕ) × (k : ℕ) × (ys : List ℕ) × (ks ≡ xs ++ k ∷ ys) × (front ≡ numbered 0 xs) × (t ≡ after xs k)
  at xs [] split fronts backs = absurd (no_more backs)
  at xs (k ∷ ys) split fronts backs =
      let first = (head_is t (record { number = 0 + length xs; kind = k }) back (numbered (suc (0 + length xs)) ys) backs).0 in
      (xs, k, ys, split, fronts, first ∙ ap (λ n. record { number = n; kind = k }) (zero_plus (length xs)))

-- lists that are one, split at one length
same_split : {A : Type 0} (xs ys zs ws : List A) → length xs ≡ length ys → xs ++ zs ≡ ys ++ ws → (xs ≡ ys) × (zs ≡ ws)
same_split [] [] zs ws n e = (refl, e)
same_split [] (y ∷ ys) zs ws n e = absurd (omega (arith, n))
same_split (x ∷ xs) [] zs ws n e = absurd (omega (arith, n))
same_split (x ∷ xs) (y ∷ ys) zs ws n e =
    let (h, t) = head_is x y (xs ++ zs) (ys ++ ws) e in
    let (f, b) = same_split xs ys zs ws (omega (arith, n)) t in
    (ap (λ z. z ∷ xs) h ∙ ap (λ z. y ∷ z) f, b)

-- a word has one first symbol that is too deep
one_deep : (limit : ℕ) (f f' : Word) (c c' : Nested) (b b' : Word) → f ++ c ∷ b ≡ f' ++ c' ∷ b' → AllWithin limit f → AllWithin limit f'
    → limit < c.depth → limit < c'.depth → length f ≡ length f'
one_deep limit [] [] c c' b b' e w w' over over' = refl
one_deep limit [] (x ∷ f') c c' b b' e w w' over over' =
    let h = (head_is c x b (f' ++ c' ∷ b') e).0 in absurd (omega (arith, subst (λ (z : Nested). limit < z.depth) h over, w'.0))
one_deep limit (x ∷ f) [] c c' b b' e w w' over over' =
    let h = (head_is x c' (f ++ c ∷ b) b' e).0 in absurd (omega (arith, subst (λ (z : Nested). limit < z.depth) (sym h) over', w.0))
one_deep limit (x ∷ f) (y ∷ f') c c' b b' e w w' over over' =
    ap suc (one_deep limit f f' c c' b b' (head_is x y (f ++ c ∷ b) (f' ++ c' ∷ b') e).1 w.1 w'.1 over over')

pub begins_kinds : {A : Type 0} (L : A → Language) (ks : List ℕ) → Begins L (numbered 0 ks) → IsBeginning L ks
begins_kinds L ks begins = let (a, w, more, l, e) = begins (length ks) in (a, more, (w, l, e ∙ sym (numbered-front ks more)))

module _ {limit : ℕ} {A : Type 0} {s : Sets} {L : A → Language} {p : Reader A} (h : Rule limit s L p) (no_end : is_member s.follow_last 0 ≡ false) where
  -- what comes after the symbol where a reader stops changes nothing
  same_end : (front : List Symbol) (t : Symbol) (back rest : List Symbol) (o : Answer A) → p (front ++ t ∷ back) ≡ (o, t ∷ back) → p (front ++ t ∷ rest) ≡ (o, t ∷ rest)
  same_end front t back rest o e =
      ap p (sym (append_assoc front (t ∷ []) rest))
      ∙ h.exact.steady.local (front ++ t ∷ []) back rest o t [] (ap p (append_assoc front (t ∷ []) back) ∙ e)

  pub on_word : (a : A) (w : Word) → L a w → Reads limit a w [] (p (symbols_of w))
  on_word a w l = subst (λ z. Reads limit a w [] (p z)) (append-nil (symbols_of w)) (h.exact.whole a w [] l no_end)

  -- no word has the symbol before which the reader refused, or found a value
  none_refused : (front : List Symbol) (t : Symbol) (back : List Symbol) → p (front ++ t ∷ back) ≡ (Refused, t ∷ back)
      → (a : A) (w : Word) (rest : List Symbol) → L a w → symbols_of w ≡ front ++ t ∷ rest → ⊥
  none_refused front t back e a w rest l eq = at (on_word a w l) where
    here : p (symbols_of w) ≡ (Refused, t ∷ rest)
    here = ap p eq ∙ same_end front t back rest Refused e

    at : Reads limit a w [] (p (symbols_of w)) → ⊥
    at (inl (within, k)) = refused_found a (ap (λ z. z.0) (sym here ∙ k))
    at (inr (f, c, b, ew, within, over, k)) = deep_refused (ap (λ z. z.0) (sym k ∙ here))

  none_left : (front : List Symbol) (t : Symbol) (back : List Symbol) (x : A) → p (front ++ t ∷ back) ≡ (Found x, t ∷ back)
      → (a : A) (w : Word) (rest : List Symbol) → L a w → symbols_of w ≡ front ++ t ∷ rest → ⊥
  none_left front t back x e a w rest l eq = at (on_word a w l) where
    here : p (symbols_of w) ≡ (Found x, t ∷ rest)
    here = ap p eq ∙ same_end front t back rest (Found x) e

    no_more : t ∷ rest ≡ [] → ⊥
    no_more q = cc

    at : Reads limit a w [] (p (symbols_of w)) → ⊥
    at (inl (within, k)) = no_more (ap (λ z. z.1) (sym here ∙ k))
    at (inr (f, c, b, ew, within, over, k)) = deep_found x (ap (λ z. z.0) (sym k ∙ here))

  none_ends : (ts : List Symbol) → p ts ≡ (Refused, []) → (a : A) (w : Word) → L a w → symbols_of w ≡ ts → ⊥
  none_ends ts e a w l eq = at (on_word a w l) where
    at : Reads limit a w [] (p (symbols_of w)) → ⊥
    at (inl (within, k)) = refused_found a (ap (λ z. z.0) (sym (ap p eq ∙ e) ∙ k))
    at (inr (f, c, b, ew, within, over, k)) = deep_refused (ap (λ z. z.0) (sym k ∙ (ap p eq ∙ e)))

  -- each word that has the symbol at which the reader went too deep is too deep there first
  deep_there : (front : List Symbol) (t : Symbol) (back : List Symbol) → p (front ++ t ∷ back) ≡ (TooDeep, t ∷ back)
      → (a : A) (w : Word) (rest : List Symbol) → L a w → symbols_of w ≡ front ++ t ∷ rest → SinksAt limit w (length front)
  deep_there front t back e a w rest l eq = at (on_word a w l) where
    here : p (symbols_of w) ≡ (TooDeep, t ∷ rest)
    here = ap p eq ∙ same_end front t back rest TooDeep e

    at : Reads limit a w [] (p (symbols_of w)) → SinksAt limit w (length front)
    at (inl (within, k)) = absurd (deep_found a (ap (λ z. z.0) (sym here ∙ k)))
    at (inr (f, c, b, ew, within, over, k)) =
        let q : c.symbol ∷ (symbols_of b ++ []) ≡ t ∷ rest = ap (λ z. z.1) (sym k ∙ here) in
        let whole : symbols_of f ++ (t ∷ rest) ≡ front ++ (t ∷ rest) =
        ap (λ z. symbols_of f ++ z) (sym q) ∙ ap (λ z. symbols_of f ++ (c.symbol ∷ z)) (append-nil (symbols_of b)) ∙ sym (symbols_of-append f (c ∷ b)) ∙ ap symbols_of (sym ew) ∙ eq in
        (f, c, b, ew, sym (length-symbols_of f) ∙ ap length (append_cancel_right (symbols_of f) front (t ∷ rest) whole), within, over)

  begins : (front : List Symbol) → ((front ≡ []) ⊎ Begins L front) → Begins L front
  begins front (inl e) = subst (Begins L) (sym e) h.sample
  begins front (inr o) = o

  -- where a list is too deep first, the reader stops there
  pub sinks : (ks : List ℕ) (place : ℕ) → IsFirstTooDeep limit L ks place → (rest : List Symbol) × (p (numbered 0 ks) ≡ (TooDeep, rest))
  sinks ks place deep = at (on_word a w l) where
    front : List Symbol
    front = numbered 0 deep.front

    t : Symbol
    t = after deep.front deep.kind

    a : A
    a = deep.begins.0

    more : List ℕ
    more = deep.begins.1

    w : Word
    w = deep.begins.2.0

    l : L a w
    l = deep.begins.2.1

    spelled : symbols_of w ≡ numbered 0 (deep.front ++ deep.kind ∷ more)
    spelled = deep.begins.2.2 ∙ ap (numbered 0) (append_assoc deep.front (deep.kind ∷ []) more)

    later : List Symbol
    later = numbered (suc (length deep.front)) more

    back : List Symbol
    back = numbered (suc (length deep.front)) deep.rest

    there : SinksAt limit w place
    there = deep.sinks a w more l spelled

    at : Reads limit a w [] (p (symbols_of w)) → (rest : List Symbol) × (p (numbered 0 ks) ≡ (TooDeep, rest))
    at (inl (within, k)) = absurd (not_within limit w there.0 there.1 there.2 there.3 within there.6)
    at (inr (f, c, b, ew, within, over, k)) =
        let same = one_deep limit f there.0 c there.1 b there.2 (sym ew ∙ there.3) within there.5 over there.6 in
        let long : length (symbols_of f) ≡ length front = length-symbols_of f ∙ same ∙ there.4 ∙ sym deep.at ∙ sym (length-numbered 0 deep.front) in
        let (fronts, backs) = same_split (symbols_of f) front (c.symbol ∷ symbols_of b) (t ∷ later) long
        (sym (symbols_of-append f (c ∷ b)) ∙ ap symbols_of (sym ew) ∙ spelled ∙ numbered-front deep.front (deep.kind ∷ more)) in
        let here : p (front ++ t ∷ later) ≡ (TooDeep, t ∷ later) =
        ap p (sym (spelled ∙ numbered-front deep.front (deep.kind ∷ more))) ∙ k ∙ ap (λ z. (TooDeep, c.symbol ∷ z)) (append-nil (symbols_of b)) ∙ ap (λ z. (TooDeep, z)) backs in
        (t ∷ back, ap p (ap (numbered 0) deep.split ∙ numbered-front deep.front (deep.kind ∷ deep.rest)) ∙ same_end front t later back TooDeep here)

  -- the reader's verdict is never that a list is too deep where it answers something else
  not_deep : (ks : List ℕ) (x : Answer A × List Symbol) → p (numbered 0 ks) ≡ x → ((back : List Symbol) → x ≡ (TooDeep, back) → ⊥)
      → (place : ℕ) → IsFirstTooDeep limit L ks place → ⊥
  not_deep ks x e other place deep = let (back, k) = sinks ks place deep in other back (sym e ∙ k)

  found_not_deep : (a : A) (rest back : List Symbol) → ◌≡◌ {A = Answer A × List Symbol} (Found a, rest) (TooDeep, back) → ⊥
  found_not_deep a rest back e = deep_found a (sym (ap (λ z. z.0) e))

  refused_not_deep : (rest back : List Symbol) → ◌≡◌ {A = Answer A × List Symbol} (Refused, rest) (TooDeep, back) → ⊥
  refused_not_deep rest back e = deep_refused (sym (ap (λ z. z.0) e))

  -- a reader that stopped before a symbol, where no word has it, is at the first fault
  fault_before : (ks : List ℕ) (front : List Symbol) (t : Symbol) (back : List Symbol) → numbered 0 ks ≡ front ++ t ∷ back → Begins L front
      → ((a : A) (w : Word) (rest : List Symbol) → L a w → symbols_of w ≡ front ++ t ∷ rest → ⊥) → IsFirstFault L ks t.number
  fault_before ks front t back split begun none = let (xs, k, ys, is, fronts, here) = split_before ks front t back split in record {
    front = xs;
    rest = k ∷ ys;
    split = is;
    at = sym (ap (λ (z : Symbol). z.number) here);
    begins = begins_kinds L xs (subst (Begins L) fronts begun);
    ends = λ (a, more, (w, l, e)). none a w (numbered (suc (length xs)) more) l
        (e ∙ ap (numbered 0) (append_assoc xs (k ∷ []) more) ∙ numbered-front xs (k ∷ more) ∙ ap (λ z. z ++ after xs k ∷ numbered (suc (length xs)) more) (sym fronts)
        ∙ ap (λ z. front ++ z ∷ numbered (suc (length xs)) more) (sym here));
  }

  fault_at_end : (ks : List ℕ) → p (numbered 0 ks) ≡ (Refused, []) → IsFirstFault L ks (length ks)
  fault_at_end ks e = let (front, split, begun) = h.exact.steady.refused (numbered 0 ks) [] e in record {
    front = ks;
    rest = [];
    split = sym (append-nil ks);
    at = refl;
    begins = begins_kinds L ks (subst (Begins L) (sym (split ∙ append-nil front)) (begins front begun));
    ends = λ a (w, l, spelled). none_ends (numbered 0 ks) e a w l spelled;
  }

  deep_at : (ks : List ℕ) (t : Symbol) (back : List Symbol) → p (numbered 0 ks) ≡ (TooDeep, t ∷ back) → IsFirstTooDeep limit L ks t.number
  deep_at ks t back e =
      let (front, t', rest, split, is, begun) = h.exact.steady.deep (numbered 0 ks) (t ∷ back) e in
      let same = head_is t t' back rest is in
      let (xs, k, ys, kinds, fronts, here) = split_before ks front t back split in
      let place : length xs ≡ t.number = sym (ap (λ (z : Symbol). z.number) here) in
      record {
        front = xs;
        kind = k;
        rest = ys;
        split = kinds;
        at = place;
        begins = begins_kinds L (xs ++ k ∷ [])
            (subst (Begins L) (ap (λ z. front ++ z ∷ []) (sym same.0 ∙ here) ∙ ap (λ z. z ++ after xs k ∷ []) fronts ∙ sym (numbered-front xs (k ∷ []))) begun);
        sinks = λ a w more l spelled.
            subst (SinksAt limit w) (ap length fronts ∙ length-numbered 0 xs ∙ place)
            (deep_there front t back (ap p (sym split) ∙ e) a w (numbered (suc (length xs)) more) l
            (spelled ∙ numbered-front xs (k ∷ more) ∙ ap (λ z. z ++ after xs k ∷ numbered (suc (length xs)) more) (sym fronts)
            ∙ ap (λ z. front ++ z ∷ numbered (suc (length xs)) more) (sym here)));
      }

  within : (a : A) (w : Word) → L a w → p (symbols_of w) ≡ (Found a, []) → AllWithin limit w
  within a w l e = at (on_word a w l) where
    at : Reads limit a w [] (p (symbols_of w)) → AllWithin limit w
    at (inl (within, k)) = within
    at (inr (f, c, b, ew, within, over, k)) = absurd (deep_found a (ap (λ z. z.0) (sym k ∙ e)))

  verdict_of : (ks : List ℕ) (x : Answer A × List Symbol) → p (numbered 0 ks) ≡ x → RightAnswer limit L ks x
  verdict_of ks (Found a, []) e =
      let (w, l, split) = h.exact.steady.sound (numbered 0 ks) a [] e in
      let all : numbered 0 ks ≡ symbols_of w = split ∙ append-nil (symbols_of w) in
      (w, l, sym all, within a w l (ap p (sym all) ∙ e))
  verdict_of ks (Found a, t ∷ back) e =
      let (w, l, split) = h.exact.steady.sound (numbered 0 ks) a (t ∷ back) e in
      record {
        fault = fault_before ks (symbols_of w) t back split (λ next. (a, w, [], l, sym (append-nil (symbols_of w)))) (none_left (symbols_of w) t back a (ap p (sym split) ∙ e));
        within = not_deep ks (Found a, t ∷ back) e (found_not_deep a (t ∷ back));
      }
  verdict_of ks (Refused, []) e = record { fault = fault_at_end ks e; within = not_deep ks (Refused, []) e (refused_not_deep []) }
  verdict_of ks (Refused, t ∷ back) e =
      let (front, split, begun) = h.exact.steady.refused (numbered 0 ks) (t ∷ back) e in
      record {
        fault = fault_before ks front t back split (begins front begun) (none_refused front t back (ap p (sym split) ∙ e));
        within = not_deep ks (Refused, t ∷ back) e (refused_not_deep (t ∷ back));
      }
  verdict_of ks (TooDeep, []) e = let (front, t, rest, split, is, begun) = h.exact.steady.deep (numbered 0 ks) [] e in no_more t rest is where
    no_more : (t : Symbol) (rest : List Symbol) → [] ≡ t ∷ rest → ⊥
    no_more t rest q = cc
  verdict_of ks (TooDeep, t ∷ back) e = deep_at ks t back e

  -- what the reader answers is right
  pub right_answer : (ks : List ℕ) → RightAnswer limit L ks (p (numbered 0 ks))
  right_answer ks = verdict_of ks (p (numbered 0 ks)) refl
