-- One of two readers, by the next kind.
use Rattle.std.proofs.Common.{◌≡◌, ℕ, List, [], ◌∷◌, ◌++◌, Bool, true, false, if◌then◌else◌, inl, inr, sym, ap, ◌∙◌, subst}
use Rattle.ada_base.specs.Symbols.{Symbol, Word, symbols_of, is_member, next_kind}
use Rattle.syntax_readers.specs.Readers.{Answer, Found, Refused, TooDeep, Reader, by_next}
use Rattle.ada_base.specs.Languages.{Language, Or}
use Rattle.syntax_readers.specs.Sets.{Sets, Starts, Stops, are_disjoint, is_subset, when, or_sets}
use Rattle.syntax_readers.specs.Exact.{RefusesWell, SinksWell, Reads, Steady, Exact}
use Rattle.syntax_readers.proofs.KindSets.{true_false, is_member-left, is_member-right, is_member-append, is_subset-is_member, are_disjoint-is_member}
use Rattle.syntax_readers.proofs.Words.{no_growth}
use Rattle.syntax_readers.proofs.Renamings.{refuses_as, sinks_as}

module _ {A : Type 0} {L M : A → Language} {p q : Reader A} (ks : List ℕ) (hp : Steady L p) (hq : Steady M q) where
  suffix_or : (ts : List Symbol) (b : Bool) → (front : List Symbol) × (ts ≡ front ++ (if b then p ts else q ts).1)
  suffix_or ts true = hp.suffix ts
  suffix_or ts false = hq.suffix ts

  local_or : (xs r r' : List Symbol) (o : Answer A) (y : Symbol) (ys : List Symbol) → by_next ks p q (xs ++ r) ≡ (o, (y ∷ ys) ++ r) → by_next ks p q (xs ++ r') ≡ (o, (y ∷ ys) ++ r')
  local_or [] r r' o y ys e = let f = suffix_or r (is_member ks (next_kind r)) in absurd (no_growth r f.0 y ys (f.1 ∙ ap (λ z. f.0 ++ z.1) e))
  local_or (c ∷ xs) r r' o y ys e = at (is_member ks c.kind) e where
    at : (b : Bool) → (if b then p (c ∷ (xs ++ r)) else q (c ∷ (xs ++ r))) ≡ (o, (y ∷ ys) ++ r) → (if b then p (c ∷ (xs ++ r')) else q (c ∷ (xs ++ r'))) ≡ (o, (y ∷ ys) ++ r')
    at true e = hp.local (c ∷ xs) r r' o y ys e
    at false e = hq.local (c ∷ xs) r r' o y ys e

  sound_or : (ts : List Symbol) (a : A) (rest : List Symbol) (b : Bool) → (if b then p ts else q ts) ≡ (Found a, rest) → (w : Word) × Or L M a w × (ts ≡ symbols_of w ++ rest)
  sound_or ts a rest true e = let (w, l, split) = hp.sound ts a rest e in (w, inl l, split)
  sound_or ts a rest false e = let (w, l, split) = hq.sound ts a rest e in (w, inr l, split)

  refused_or : (ts back : List Symbol) (b : Bool) → (if b then p ts else q ts) ≡ (Refused, back) → RefusesWell (Or L M) ts back
  refused_or ts back true e = refuses_as (λ a w l. inl l) ts back (hp.refused ts back e)
  refused_or ts back false e = refuses_as (λ a w l. inr l) ts back (hq.refused ts back e)

  deep_or : (ts back : List Symbol) (b : Bool) → (if b then p ts else q ts) ≡ (TooDeep, back) → SinksWell (Or L M) ts back
  deep_or ts back true e = sinks_as (λ a w l. inl l) ts back (hp.deep ts back e)
  deep_or ts back false e = sinks_as (λ a w l. inr l) ts back (hq.deep ts back e)

  pub steady_or : Steady (Or L M) (by_next ks p q)
  steady_or = record {
    suffix = λ ts. suffix_or ts (is_member ks (next_kind ts));
    local = local_or;
    sound = λ ts a rest e. sound_or ts a rest (is_member ks (next_kind ts)) e;
    refused = λ ts back e. refused_or ts back (is_member ks (next_kind ts)) e;
    deep = λ ts back e. deep_or ts back (is_member ks (next_kind ts)) e;
  }

module _ {limit : ℕ} {A : Type 0} {s t : Sets} {L M : A → Language} {p q : Reader A} (ks : List ℕ) (hp : Exact limit s L p) (hq : Exact limit t M q) where
  starts_or : (a : A) (w : Word) → s.nullable ≡ false → Or L M a w → Starts (or_sets ks s t) w
  starts_or a w n (inl l) = at (hp.starts a w l) where
    at : Starts s w → Starts (or_sets ks s t) w
    at (inl (c, v, e, h)) = inl (c, v, e, is_member-left s.first t.first c.symbol.kind h)
    at (inr (e, h)) = true_false (sym h ∙ n)
  starts_or a w n (inr m) = at (hq.starts a w m) where
    at : Starts t w → Starts (or_sets ks s t) w
    at (inl (c, v, e, h)) = inl (c, v, e, is_member-right s.first t.first c.symbol.kind h)
    at (inr h) = inr h

  taken : (w : Word) (rest : List Symbol) → s.nullable ≡ false → is_subset s.first ks ≡ true → Starts s w → is_member ks (next_kind (symbols_of w ++ rest)) ≡ true
  taken w rest n sub (inl (c, v, e, h)) = subst (λ z. is_member ks (next_kind (symbols_of z ++ rest)) ≡ true) (sym e) (is_subset-is_member s.first ks c.symbol.kind sub h)
  taken w rest n sub (inr (e, h)) = true_false (sym h ∙ n)

  passed : (w : Word) (rest : List Symbol) → are_disjoint ks t.first ≡ true → Starts t w → is_member (when t.nullable ks) (next_kind rest) ≡ false → is_member ks (next_kind (symbols_of w ++ rest)) ≡ false
  passed w rest d (inl (c, v, e, h)) st = subst (λ z. is_member ks (next_kind (symbols_of z ++ rest)) ≡ false) (sym e) (are_disjoint-is_member ks t.first c.symbol.kind d h)
  passed w rest d (inr (e, n)) st = subst (λ z. is_member ks (next_kind (symbols_of z ++ rest)) ≡ false) (sym e) (subst (λ b. is_member (when b ks) (next_kind rest) ≡ false) n st)

  whole_or : (a : A) (w : Word) (rest : List Symbol) → s.nullable ≡ false → is_subset s.first ks ≡ true → are_disjoint ks t.first ≡ true → Or L M a w → Stops (or_sets ks s t) rest → Reads limit a w rest (by_next ks p q (symbols_of w ++ rest))
  whole_or a w rest n sub d (inl l) st =
      let k = is_member-append (s.follow_last ++ t.follow_last) (when t.nullable ks) (next_kind rest) st in
      subst (λ b. Reads limit a w rest (if b then p (symbols_of w ++ rest) else q (symbols_of w ++ rest))) (sym (taken w rest n sub (hp.starts a w l)))
      (hp.whole a w rest l (is_member-append s.follow_last t.follow_last (next_kind rest) k.0).0)
  whole_or a w rest n sub d (inr m) st =
      let k = is_member-append (s.follow_last ++ t.follow_last) (when t.nullable ks) (next_kind rest) st in
      subst (λ b. Reads limit a w rest (if b then p (symbols_of w ++ rest) else q (symbols_of w ++ rest))) (sym (passed w rest d (hq.starts a w m) k.1))
      (hq.whole a w rest m (is_member-append s.follow_last t.follow_last (next_kind rest) k.0).1)

  -- a choice is read exactly where the next kind tells which part it is
  pub exact_or : s.nullable ≡ false → is_subset s.first ks ≡ true → are_disjoint ks t.first ≡ true → Exact limit (or_sets ks s t) (Or L M) (by_next ks p q)
  exact_or n sub d = record {
    steady = steady_or ks hp.steady hq.steady;
    starts = λ a w l. starts_or a w n l;
    whole = λ a w rest l st. whole_or a w rest n sub d l st;
  }
