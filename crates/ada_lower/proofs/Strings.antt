-- Each string of a program stands in its table of texts, at its number.
use Rattle.std.proofs.Common.{◌≡◌, ℕ, zero, suc, ◌+◌, nat_eq, List, [], ◌∷◌, ◌++◌, slice_get, Some, Bool, true, false, cond, ◌&&◌, ◌⊎◌, inl, inr, refl, sym, ap, ap₂, ◌∙◌, subst, arith, eq-eqb}
use Rattle.std.specs.Cmp.Lexicographic.{pointwise, same_text}
use Rattle.typed_tree.specs.Syntax.{Sub, Program}
use Rattle.ada_meaning.specs.Meaning.{sub_at}
use Rattle.ada_meaning.proofs.Cells.{some_same}
use Rattle.std.proofs.lemmas.Option.{none-some}
use Rattle.lower_emission.specs.Texts.{body_texts, gathered, is_among, place, subs_texts, texts_of}

-- ---- texts among texts

same_refl : (xs : List ℕ) → pointwise nat_eq xs xs ≡ true
same_refl [] = refl
same_refl (x ∷ xs) = ap₂ (λ a b. a && b) (eq-eqb x x refl) (same_refl xs)

found : (ts : List (List ℕ)) (bytes : List ℕ) → is_among ts bytes ≡ true → slice_get ts (place ts bytes) ≡ Some bytes
found [] bytes e = absurd (let z : false ≡ true = e in cc)
found (t ∷ ts) bytes e = go (pointwise nat_eq t bytes) refl e (found ts bytes)
  where
    go : (b : Bool) → pointwise nat_eq t bytes ≡ b → cond b true (is_among ts bytes) ≡ true → (is_among ts bytes ≡ true → slice_get ts (place ts bytes) ≡ Some bytes) → slice_get (t ∷ ts) (cond b 0 (place ts bytes + 1)) ≡ Some bytes
    go true same e more = ap Some (same_text t bytes (sym same))
    go false other e more = (let z : place ts bytes + 1 ≡ suc (place ts bytes) = omega arith in ap (λ k. slice_get (t ∷ ts) k) z) ∙ more e

among_both : (there ts : List (List ℕ)) (bytes : List ℕ) → is_among there bytes ≡ true → is_among (there ++ ts) bytes ≡ true
among_both [] ts bytes e = absurd (let z : false ≡ true = e in cc)
among_both (t ∷ there) ts bytes e = go (pointwise nat_eq t bytes) e (among_both there ts bytes)
  where
    go : (b : Bool) → cond b true (is_among there bytes) ≡ true → (is_among there bytes ≡ true → is_among (there ++ ts) bytes ≡ true) → cond b true (is_among (there ++ ts) bytes) ≡ true
    go true e more = refl
    go false e more = more e

among_last : (there : List (List ℕ)) (bytes : List ℕ) → is_among (there ++ bytes ∷ []) bytes ≡ true
among_last [] bytes = ap (λ b. cond b true false) (same_refl bytes)
among_last (t ∷ there) bytes = go (pointwise nat_eq t bytes) (among_last there bytes)
  where
    go : (b : Bool) → is_among (there ++ bytes ∷ []) bytes ≡ true → cond b true (is_among (there ++ bytes ∷ []) bytes) ≡ true
    go true e = refl
    go false e = e

-- it is one of these
abbrev pub IsOne : List ℕ → List (List ℕ) → Type 0
IsOne bytes [] = ⊥
IsOne bytes (t ∷ ts) = (t ≡ bytes) ⊎ IsOne bytes ts

pub one_left : (bytes : List ℕ) (ss ts : List (List ℕ)) → IsOne bytes ss → IsOne bytes (ss ++ ts)
one_left bytes [] ts h = absurd h
one_left bytes (s ∷ ss) ts (inl e) = inl e
one_left bytes (s ∷ ss) ts (inr h) = inr (one_left bytes ss ts h)

pub one_right : (bytes : List ℕ) (ss ts : List (List ℕ)) → IsOne bytes ts → IsOne bytes (ss ++ ts)
one_right bytes [] ts h = h
one_right bytes (s ∷ ss) ts h = inr (one_right bytes ss ts h)

stays : (there ts : List (List ℕ)) (bytes : List ℕ) → is_among there bytes ≡ true → is_among (gathered there ts) bytes ≡ true
stays there [] bytes e = e
stays there (t ∷ ts) bytes e = go (is_among there t) (stays there ts bytes e) (stays (there ++ t ∷ []) ts bytes (among_both there (t ∷ []) bytes e))
  where
    go : (b : Bool) → is_among (gathered there ts) bytes ≡ true → is_among (gathered (there ++ t ∷ []) ts) bytes ≡ true → is_among (gathered (cond b there (there ++ t ∷ [])) ts) bytes ≡ true
    go true f g = f
    go false f g = g

comes : (there ts : List (List ℕ)) (bytes : List ℕ) → IsOne bytes ts → is_among (gathered there ts) bytes ≡ true
comes there [] bytes h = absurd h
comes there (t ∷ ts) bytes (inl e) = go (is_among there t) refl
  where
    go : (b : Bool) → is_among there t ≡ b → is_among (gathered (cond b there (there ++ t ∷ [])) ts) bytes ≡ true
    go true is = stays there ts bytes (ap (λ s. is_among there s) (sym e) ∙ is)
    go false is = stays (there ++ t ∷ []) ts bytes (ap (λ s. is_among (there ++ t ∷ []) s) (sym e) ∙ among_last there t)
comes there (t ∷ ts) bytes (inr h) = go (is_among there t) (comes there ts bytes h) (comes (there ++ t ∷ []) ts bytes h)
  where
    go : (b : Bool) → is_among (gathered there ts) bytes ≡ true → is_among (gathered (there ++ t ∷ []) ts) bytes ≡ true → is_among (gathered (cond b there (there ++ t ∷ [])) ts) bytes ≡ true
    go true f g = f
    go false f g = g

module _ (program : Program) where
  abbrev pub Stands : List ℕ → Type 0
  Stands bytes = slice_get (texts_of program) (place (texts_of program) bytes) ≡ Some bytes

  pub among_stands : (bytes : List ℕ) → IsOne bytes (body_texts program.body ++ subs_texts program.subs) → Stands bytes
  among_stands bytes h = found (texts_of program) bytes (comes [] (body_texts program.body ++ subs_texts program.subs) bytes h)

  pub main_stands : (bytes : List ℕ) → IsOne bytes (body_texts program.body) → Stands bytes
  main_stands bytes h = among_stands bytes (one_left bytes (body_texts program.body) (subs_texts program.subs) h)

  in_sub : (subs : List Sub) (k : ℕ) (unit : Sub) (bytes : List ℕ) → sub_at subs k ≡ Some unit → IsOne bytes (body_texts unit.body) → IsOne bytes (subs_texts subs)
  in_sub [] k unit bytes e h = absurd (none-some unit e)
  in_sub (u ∷ more) zero unit bytes e h = one_left bytes (body_texts u.body) (subs_texts more) (subst (λ u. IsOne bytes (body_texts u.body)) (sym (some_same u unit e)) h)
  in_sub (u ∷ more) (suc k) unit bytes e h = one_right bytes (body_texts u.body) (subs_texts more) (in_sub more k unit bytes e h)

  pub sub_stands : (k : ℕ) (unit : Sub) (bytes : List ℕ) → sub_at program.subs k ≡ Some unit → IsOne bytes (body_texts unit.body) → Stands bytes
  sub_stands k unit bytes e h = among_stands bytes (one_right bytes (body_texts program.body) (subs_texts program.subs) (in_sub program.subs k unit bytes e h))
