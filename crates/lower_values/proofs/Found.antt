-- Texts by a map of their places.
use Rattle.std.proofs.Common.{◌≡◌, refl, sym, ap, ◌∙◌, ℕ, suc, ◌+◌, Bool, true, false, List, [], ◌∷◌, ◌++◌, length, Option, Some, None, cond, arith, eqb-true}
use Rattle.std.proofs.lemmas.Bool.{and_parts, false≢true}
use Rattle.std.specs.Cmp.Lexicographic.{pointwise}
use Rattle.std.specs.HashMap.{HashMap, IsEmpty, Updates}
use Rattle.std.specs.Prelude.{Vec, is_some, nat_eq, option_map}
use Rattle.lower_emission.specs.Texts.{is_among, noted, place}
use Rattle.lower_values.specs.Texts.{found, Listed, same_bytes}

same_eq : (s t : List ℕ) → pointwise nat_eq s t ≡ true → s ≡ t
same_eq [] [] e = refl
same_eq [] (d ∷ t) e = absurd (false≢true e)
same_eq (c ∷ s) [] e = absurd (false≢true e)
same_eq (c ∷ s) (d ∷ t) e = let p = and_parts (nat_eq c d) (pointwise nat_eq s t) e in joined (eqb-true c d p.0) (same_eq s t p.1)
  where
    joined : c ≡ d → s ≡ t → (c ∷ s) ≡ (d ∷ t)
    joined e f = cc

-- where one is among them, or which number one more would have

abbrev either : Option ℕ → Bool → ℕ → Option ℕ
either None b n = cond b (Some n) None
either (Some k) b n = Some k

either_next : (o : Option ℕ) (b : Bool) (n : ℕ) → option_map (λ k. k + 1) (either o b n) ≡ either (option_map (λ k. k + 1) o) b (n + 1)
either_next None true n = refl
either_next None false n = refl
either_next (Some k) b n = refl

either_first : (a : Bool) (o : Option ℕ) (b : Bool) (n : ℕ) → cond a (Some 0) (either o b n) ≡ either (cond a (Some 0) o) b n
either_first true o b n = refl
either_first false o b n = refl

counted : (n : ℕ) → n + 1 ≡ suc n
counted n = omega arith

found_last : (ts : List (List ℕ)) (w q : List ℕ) → found (ts ++ w ∷ []) q ≡ either (found ts q) (pointwise nat_eq w q) (length ts)
found_last [] w q = one (pointwise nat_eq w q)
  where
    one : (b : Bool) → cond b (Some 0) (option_map (λ k. k + 1) None) ≡ either None b 0
    one true = refl
    one false = refl
found_last (t ∷ ts) w q =
    ap (λ o. cond (pointwise nat_eq t q) (Some 0) (option_map (λ k. k + 1) o)) (found_last ts w q)
    ∙ (ap (λ o. cond (pointwise nat_eq t q) (Some 0) o) (either_next (found ts q) (pointwise nat_eq w q) (length ts))
    ∙ (either_first (pointwise nat_eq t q) (option_map (λ k. k + 1) (found ts q)) (pointwise nat_eq w q) (length ts + 1)
    ∙ ap (λ n. either (found (t ∷ ts) q) (pointwise nat_eq w q) n) (counted (length ts))))

some_next : (o : Option ℕ) → is_some (option_map (λ (k : ℕ). k + 1) o) ≡ is_some o
some_next None = refl
some_next (Some k) = refl

pub among_found : (ts : List (List ℕ)) (q : List ℕ) → is_among ts q ≡ is_some (found ts q)
among_found [] q = refl
among_found (t ∷ ts) q = by (among_found ts q) (pointwise nat_eq t q)
  where
    by : is_among ts q ≡ is_some (found ts q) → (b : Bool) → cond b true (is_among ts q) ≡ is_some (cond b (Some 0) (option_map (λ k. k + 1) (found ts q)))
    by rest true = refl
    by rest false = rest ∙ sym (some_next (found ts q))

-- the place of one by what was found

abbrev or_length : Option ℕ → ℕ → ℕ
or_length None n = n
or_length (Some k) n = k

place_found : (ts : List (List ℕ)) (q : List ℕ) → place ts q ≡ or_length (found ts q) (length ts)
place_found [] q = refl
place_found (t ∷ ts) q = by (place_found ts q) (pointwise nat_eq t q)
  where
    next : (o : Option ℕ) (n : ℕ) → or_length o n + 1 ≡ or_length (option_map (λ k. k + 1) o) (suc n)
    next None n = omega arith
    next (Some k) n = refl

    by : place ts q ≡ or_length (found ts q) (length ts) → (b : Bool) → cond b 0 (place ts q + 1) ≡ or_length (cond b (Some 0) (option_map (λ k. k + 1) (found ts q))) (suc (length ts))
    by rest true = refl
    by rest false = ap (λ n. n + 1) rest ∙ next (found ts q) (length ts)

pub place_some : (ts : List (List ℕ)) (q : List ℕ) (n : ℕ) → found ts q ≡ Some n → place ts q ≡ n
place_some ts q n e = place_found ts q ∙ ap (λ o. or_length o (length ts)) e

pub place_none : (ts : List (List ℕ)) (q : List ℕ) → found ts q ≡ None → place ts q ≡ length ts
place_none ts q e = place_found ts q ∙ ap (λ o. or_length o (length ts)) e

-- ---- one more is noted

pub noted_known : (ts : List (List ℕ)) (w : List ℕ) → is_some (found ts w) ≡ true → ts ≡ noted ts w
noted_known ts w e = sym (ap (λ b. cond b ts (ts ++ w ∷ [])) (among_found ts w ∙ e))

pub noted_new : (ts : List (List ℕ)) (w : List ℕ) → is_some (found ts w) ≡ false → ts ++ w ∷ [] ≡ noted ts w
noted_new ts w e = sym (ap (λ b. cond b ts (ts ++ w ∷ [])) (among_found ts w ∙ e))

none_of : (o : Option ℕ) → is_some o ≡ false → o ≡ None
none_of None e = refl
none_of (Some n) e = absurd (cc)

module _ {Z S : Type 0} where
  pub listed_none : (seen : HashMap (Vec ℕ Z) ℕ S) → IsEmpty seen → Listed seen []
  listed_none seen e = λ q. rw e refl

  pub listed_new : (old new : HashMap (Vec ℕ Z) ℕ S) (word : Vec ℕ Z) (number : ℕ) (ts : List (List ℕ)) → is_some (found ts word.items) ≡ false
      → Updates same_bytes old new word (Some number) → number ≡ length ts → Listed old ts → Listed new (ts ++ word.items ∷ [])
  listed_new old new word number ts e u n h = λ q.
      u.0 q ∙ (ap (λ o. cond (pointwise nat_eq word.items q.items) (Some number) o) (h q)
      ∙ (ap (λ m. cond (pointwise nat_eq word.items q.items) (Some m) (found ts q.items)) n
      ∙ (by (pointwise nat_eq word.items q.items) q.items refl ∙ sym (found_last ts word.items q.items))))
    where
      by : (b : Bool) (q : List ℕ) → pointwise nat_eq word.items q ≡ b → cond b (Some (length ts)) (found ts q) ≡ either (found ts q) b (length ts)
      by true q f = sym (ap (λ o. either o true (length ts)) (ap (found ts) (sym (same_eq word.items q f)) ∙ none_of (found ts word.items) e))
      by false q f = other (found ts q)
        where
          other : (o : Option ℕ) → o ≡ either o false (length ts)
          other None = refl
          other (Some k) = refl
