-- Where steps lead in the iterations of combs.
use Rattle.std.proofs.Common.{◌≡◌, ◌⊎◌, inl, inr, ℕ, zero, suc, ◌+◌, ◌-◌, ◌*◌, ◌<◌, ◌≤◌, ℤ, pos, ◌+ℤ◌, List, [], ◌∷◌, ◌++◌, length, get_or, take, drop, Some, None, Result, Ok, Err, arith, refl, sym, ◌∙◌, ap, subst}
use Rattle.std.proofs.lemmas.Int.{ints, int_max_is}
use Rattle.std.specs.Int.{int_max}
use Rattle.std.specs.Prelude.{◌↔◌, min, ◌<ℤ◌, IfOk}
use Rattle.std.proofs.Math.Nat.{add-mul, mul-add}
use Rattle.std.proofs.Math.Seq.{take-suc, drop-cons}
use Rattle.stack_code.specs.declared.code.Step.{Step}
use Rattle.stack_code.specs.declared.code.Step.TheVariants as step
use Rattle.ada_lower.specs.Lending.{StepsTo}
use Rattle.ada_threads.specs.declared.combs.Comb.{Comb}
use Rattle.ada_threads.specs.Reaching.{Any, AddsTo, GoesOn, Onward, Reaches}

less_or_same : (i k : ℕ) → i ≤ k → (i < k) ⊎ (i ≡ k)
less_or_same zero zero h = inr refl
less_or_same zero (suc k) h = inl (omega arith)
less_or_same (suc i) zero h = absurd (omega (arith, h))
less_or_same (suc i) (suc k) h = elim (less_or_same i k (omega (arith, h))) [ inl q ↦ inl (omega (arith, q)) | inr q ↦ inr (ap suc q) ]

-- ---- lists
any_more : {A : Type 0} (P : A → Type 0) (xs ys : List A) (x y : A) → Any P ys ↔ (Any P xs ⊎ P y) → (P x ⊎ Any P ys) ↔ ((P x ⊎ Any P xs) ⊎ P y)
any_more P xs ys x y h = (to, from)
  where
    to : P x ⊎ Any P ys → (P x ⊎ Any P xs) ⊎ P y
    to (inl p) = inl (inl p)
    to (inr r) = elim (h.0 r) [ inl q ↦ inl (inr q) | inr q ↦ inr q ]

    from : (P x ⊎ Any P xs) ⊎ P y → P x ⊎ Any P ys
    from (inl (inl p)) = inl p
    from (inl (inr q)) = inr (h.1 (inl q))
    from (inr q) = inr (h.1 (inr q))

pub any_end : {A : Type 0} (P : A → Type 0) (xs : List A) (y : A) → Any P (xs ++ y ∷ []) ↔ (Any P xs ⊎ P y)
any_end P [] y = (to, from)
  where
    to : P y ⊎ ⊥ → ⊥ ⊎ P y
    to (inl p) = inr p
    to (inr n) = absurd n

    from : ⊥ ⊎ P y → P y ⊎ ⊥
    from (inl n) = absurd n
    from (inr p) = inl p
any_end P (x ∷ xs) y = any_more P xs (xs ++ y ∷ []) x y (any_end P xs y)

-- ---- one step of one comb
-- a comb of which none goes on
pub none_on : (chunk : ℤ) (s : Step) (b : Comb) → ((steps : List Step) (o : ℕ) → Reaches chunk (s ∷ steps) o b → ⊥) → GoesOn chunk s b None
none_on chunk s b none old steps o = ((λ h. inl h), from)
  where
    from : Any (Reaches chunk steps o) old ⊎ Reaches chunk (s ∷ steps) o b → Any (Reaches chunk steps o) old
    from (inl h) = h
    from (inr h) = absurd (none steps o h)

pub some_on : (chunk : ℤ) (s : Step) (b d : Comb) → ((steps : List Step) (o : ℕ) → Reaches chunk steps o d ↔ Reaches chunk (s ∷ steps) o b) → GoesOn chunk s b (Some d)
some_on chunk s b d same old steps o = (to, from)
  where
    to : Any (Reaches chunk steps o) (old ++ d ∷ []) → Any (Reaches chunk steps o) old ⊎ Reaches chunk (s ∷ steps) o b
    to h = elim ((any_end (Reaches chunk steps o) old d).0 h) [ inl q ↦ inl q | inr q ↦ inr ((same steps o).0 q) ]

    from : Any (Reaches chunk steps o) old ⊎ Reaches chunk (s ∷ steps) o b → Any (Reaches chunk steps o) (old ++ d ∷ [])
    from (inl h) = (any_end (Reaches chunk steps o) old d).1 (inl h)
    from (inr h) = (any_end (Reaches chunk steps o) old d).1 (inr ((same steps o).1 h))

-- the cell of an iteration further on
cell_on : (at skip stride place size a : ℕ) → at + skip * stride + place * size + a * (stride + size) ≡ at + (skip + a) * stride + (place + a) * size
cell_on at skip stride place size a = omega (arith, mul-add a stride size, add-mul skip a stride, add-mul place a size)

steps_same : (chunk : ℤ) (steps : List Step) (v w : ℤ) (n m o : ℕ) → v ≡ w → n ≡ m → StepsTo v chunk steps n o → StepsTo w chunk steps m o
steps_same chunk steps v w n m o e f s = subst (λ v. StepsTo v chunk steps m o) e (subst (λ n. StepsTo v chunk steps n o) f s)

module _ (chunk low : ℤ) (count size : ℕ) (b : Comb) (v : ℤ) (skip place : ℕ) (far : v ≡ b.value +ℤ pos skip) (there : v ≡ low +ℤ pos place) (one : (skip ≡ 0) ⊎ (place ≡ 0)) where
  abbrev loop : Step
  loop = step.Loop low count size

  pub looped_none : (b.count ≤ skip) ⊎ (count ≤ place) → (steps : List Step) (o : ℕ) → Reaches chunk (loop ∷ steps) o b → ⊥
  looped_none over steps o (a, lt, (i, small, same, rest)) = go over one
    where
      go : (b.count ≤ skip) ⊎ (count ≤ place) → (skip ≡ 0) ⊎ (place ≡ 0) → ⊥
      go (inl h) (inl e) = omega (arith, ints, h, e, lt, far, there, same)
      go (inl h) (inr e) = omega (arith, ints, h, e, lt, far, there, same)
      go (inr h) (inl e) = omega (arith, ints, h, e, lt, small, far, there, same)
      go (inr h) (inr e) = omega (arith, ints, h, e, lt, small, far, there, same)

  module _ (d : Comb) (value : d.value ≡ v) (many : d.count ≡ min (b.count - skip) (count - place)) (at : d.at ≡ b.at + skip * b.stride + place * size) (stride : d.stride ≡ b.stride + size) where
    cell : (a : ℕ) → d.at + a * d.stride ≡ b.at + (skip + a) * b.stride + (place + a) * size
    cell a = ap (λ n. n + a * d.stride) at ∙ ap (λ n. b.at + skip * b.stride + place * size + a * n) stride ∙ cell_on b.at skip b.stride place size a

    pub looped_some : (steps : List Step) (o : ℕ) → Reaches chunk steps o d ↔ Reaches chunk (loop ∷ steps) o b
    looped_some steps o = (to, from)
      where
        to : Reaches chunk steps o d → Reaches chunk (loop ∷ steps) o b
        to (a, lt, s) = (
          skip + a,
          omega (arith, lt, many),
          (
            place + a,
            omega (arith, lt, many),
            omega (arith, ints, far, there),
            steps_same chunk steps (d.value +ℤ pos a) (b.value +ℤ pos (skip + a)) (d.at + a * d.stride) (b.at + (skip + a) * b.stride + (place + a) * size) o (omega (arith, ints, far, value)) (cell a) s,
          ),
        )

        go : (a i : ℕ) → a < b.count → i < count → b.value +ℤ pos a ≡ low +ℤ pos i → StepsTo (b.value +ℤ pos a) chunk steps (b.at + a * b.stride + i * size) o → (skip ≡ 0) ⊎ (place ≡ 0) → Reaches chunk steps o d
        go a i lt small same s (inl e) = (
          a,
          omega (arith, ints, lt, small, many, e, far, there, same),
          steps_same chunk steps (b.value +ℤ pos a) (d.value +ℤ pos a) (b.at + a * b.stride + i * size) (d.at + a * d.stride) o (omega (arith, ints, far, value, e))
              (let f : skip + a ≡ a = omega (arith, e) in let g : place + a ≡ i = omega (arith, ints, e, far, there, same) in sym (cell a ∙ ap (λ n. b.at + n * b.stride + (place + a) * size) f ∙ ap (λ n. b.at + a * b.stride + n * size) g)) s,
        )
        go a i lt small same s (inr e) = (
          i,
          omega (arith, ints, lt, small, many, e, far, there, same),
          steps_same chunk steps (b.value +ℤ pos a) (d.value +ℤ pos i) (b.at + a * b.stride + i * size) (d.at + i * d.stride) o (omega (arith, ints, far, there, value, e, same))
              (let f : skip + i ≡ a = omega (arith, ints, e, far, there, same) in let g : place + i ≡ i = omega (arith, e) in sym (cell i ∙ ap (λ n. b.at + n * b.stride + (place + i) * size) f ∙ ap (λ n. b.at + a * b.stride + n * size) g)) s,
        )

        from : Reaches chunk (loop ∷ steps) o b → Reaches chunk steps o d
        from (a, lt, (i, small, same, rest)) = go a i lt small same rest one

module _ (chunk low : ℤ) (count size : ℕ) (b : Comb) where
  abbrev pick : Step
  pick = step.Chunk low count size

  pub chunk_before : chunk <ℤ low → (steps : List Step) (o : ℕ) → Reaches chunk (pick ∷ steps) o b → ⊥
  chunk_before less steps o (a, lt, (i, small, same, rest)) = omega (arith, ints, less, same)

  module _ (place : ℕ) (there : chunk ≡ low +ℤ pos place) where
    pub chunk_over : count ≤ place → (steps : List Step) (o : ℕ) → Reaches chunk (pick ∷ steps) o b → ⊥
    chunk_over over steps o (a, lt, (i, small, same, rest)) = omega (arith, ints, over, small, there, same)

    pub chunk_some : place < count → (at : ℕ) → at ≡ b.at + place * size → (steps : List Step) (o : ℕ) → Reaches chunk steps o (record b { at = at }) ↔ Reaches chunk (pick ∷ steps) o b
    chunk_some within at is steps o = (to, from)
      where
        cell : (a : ℕ) → at + a * b.stride ≡ b.at + a * b.stride + place * size
        cell a = ap (λ n. n + a * b.stride) is ∙ omega arith

        to : Reaches chunk steps o (record b { at = at }) → Reaches chunk (pick ∷ steps) o b
        to (a, lt, s) = (a, lt, (place, within, there, steps_same chunk steps (b.value +ℤ pos a) (b.value +ℤ pos a) (at + a * b.stride) (b.at + a * b.stride + place * size) o refl (cell a) s))

        from : Reaches chunk (pick ∷ steps) o b → Reaches chunk steps o (record b { at = at })
        from (a, lt, (i, small, same, s)) =
            let e : i ≡ place = omega (arith, ints, there, same) in
            (a, lt, steps_same chunk steps (b.value +ℤ pos a) (b.value +ℤ pos a) (b.at + a * b.stride + i * size) (at + a * b.stride) o refl (ap (λ n. b.at + a * b.stride + n * size) e ∙ sym (cell a)) s)

-- ---- places of all
module _ (chunk : ℤ) (size : ℕ) (b : Comb) where
  pub places_none : (old : List Comb) → AddsTo chunk (step.All 0 size) b old old
  places_none old steps o = ((λ h. inl h), from)
    where
      from : Any (Reaches chunk steps o) old ⊎ Reaches chunk (step.All 0 size ∷ steps) o b → Any (Reaches chunk steps o) old
      from (inl h) = h
      from (inr (a, lt, (i, small, s))) = absurd (omega (arith, small))

  pub places_on : (k : ℕ) (old now next : List Comb) (at : ℕ) → AddsTo chunk (step.All k size) b old now → at ≡ b.at + k * size → next ≡ now ++ record b { at = at } ∷ [] → AddsTo chunk (step.All (k + 1) size) b old next
  places_on k old now next at so is e = subst (λ l. AddsTo chunk (step.All (k + 1) size) b old l) (sym e) all
    where
      all : AddsTo chunk (step.All (k + 1) size) b old (now ++ record b { at = at } ∷ [])
      all steps o = (to, from)
        where
          cell : (a : ℕ) → at + a * b.stride ≡ b.at + a * b.stride + k * size
          cell a = ap (λ n. n + a * b.stride) is ∙ omega arith

          last : Reaches chunk steps o (record b { at = at }) → Reaches chunk (step.All (k + 1) size ∷ steps) o b
          last (a, lt, s) = (a, lt, (k, omega arith, steps_same chunk steps (b.value +ℤ pos a) (b.value +ℤ pos a) (at + a * b.stride) (b.at + a * b.stride + k * size) o refl (cell a) s))

          more : Reaches chunk (step.All k size ∷ steps) o b → Reaches chunk (step.All (k + 1) size ∷ steps) o b
          more (a, lt, (i, small, s)) = (a, lt, (i, omega (arith, small), s))

          to : Any (Reaches chunk steps o) (now ++ record b { at = at } ∷ []) → Any (Reaches chunk steps o) old ⊎ Reaches chunk (step.All (k + 1) size ∷ steps) o b
          to h = elim ((any_end (Reaches chunk steps o) now (record b { at = at })).0 h) [
            | inl q ↦ elim ((so steps o).0 q) [ inl r ↦ inl r | inr r ↦ inr (more r) ]
            | inr q ↦ inr (last q)
          ]

          by_place : (a i : ℕ) → a < b.count → i < k + 1 → StepsTo (b.value +ℤ pos a) chunk steps (b.at + a * b.stride + i * size) o → (i < k) ⊎ (i ≡ k) → Any (Reaches chunk steps o) (now ++ record b { at = at } ∷ [])
          by_place a i lt small s (inl less) = (any_end (Reaches chunk steps o) now (record b { at = at })).1 (inl ((so steps o).1 (inr (a, lt, (i, less, s)))))
          by_place a i lt small s (inr same) =
              (any_end (Reaches chunk steps o) now (record b { at = at })).1
              (inr (a, lt, steps_same chunk steps (b.value +ℤ pos a) (b.value +ℤ pos a) (b.at + a * b.stride + i * size) (at + a * b.stride) o refl (ap (λ n. b.at + a * b.stride + n * size) same ∙ sym (cell a)) s))

          from : Any (Reaches chunk steps o) old ⊎ Reaches chunk (step.All (k + 1) size ∷ steps) o b → Any (Reaches chunk steps o) (now ++ record b { at = at } ∷ [])
          from (inl h) = (any_end (Reaches chunk steps o) now (record b { at = at })).1 (inl ((so steps o).1 (inl h)))
          from (inr (a, lt, (i, small, s))) = by_place a i lt small s (less_or_same i k (omega (arith, small)))

-- ---- a step of all combs, and steps one after the other
pub all_none : (chunk : ℤ) (s : Step) → Onward chunk s [] []
all_none chunk s steps o = ((λ h. h), λ h. h)

pub all_on : (chunk : ℤ) (s : Step) (bs now next : List Comb) (k : ℕ) (d : Comb) → k < length bs → Onward chunk s (take k bs) now → AddsTo chunk s (get_or bs k d) now next → Onward chunk s (take (k + 1) bs) next
all_on chunk s bs now next k d lt so adds = subst (λ l. Onward chunk s l next) (sym (ap (λ n. take n bs) (let e : k + 1 ≡ suc k = omega arith in e) ∙ take-suc bs k d lt)) all
  where
    all : Onward chunk s (take k bs ++ get_or bs k d ∷ []) next
    all steps o = (to, from)
      where
        to : Any (Reaches chunk steps o) next → Any (Reaches chunk (s ∷ steps) o) (take k bs ++ get_or bs k d ∷ [])
        to h = (any_end (Reaches chunk (s ∷ steps) o) (take k bs) (get_or bs k d)).1 (elim ((adds steps o).0 h) [ inl q ↦ inl ((so steps o).0 q) | inr q ↦ inr q ])

        from : Any (Reaches chunk (s ∷ steps) o) (take k bs ++ get_or bs k d ∷ []) → Any (Reaches chunk steps o) next
        from h = (adds steps o).1 (elim ((any_end (Reaches chunk (s ∷ steps) o) (take k bs) (get_or bs k d)).0 h) [ inl q ↦ inl ((so steps o).1 q) | inr q ↦ inr q ])

-- so far the combs lead where the first one does by all steps
abbrev pub Along : ℤ → List Step → Comb → (rest : List Step) → List Comb → Type 0
Along chunk steps b rest now = (o : ℕ) → Any (Reaches chunk rest o) now ↔ Reaches chunk steps o b

pub along_first : (chunk : ℤ) (steps : List Step) (b : Comb) (now : List Comb) → now ≡ b ∷ [] → Along chunk steps b steps now
along_first chunk steps b now e = subst (λ l. Along chunk steps b steps l) (sym e) first
  where
    first : Along chunk steps b steps (b ∷ [])
    first o = (to, λ h. inl h)
      where
        to : Reaches chunk steps o b ⊎ ⊥ → Reaches chunk steps o b
        to (inl h) = h
        to (inr n) = absurd n

pub along_on : (chunk : ℤ) (steps : List Step) (b : Comb) (k : ℕ) (d : Step) (now next : List Comb) → k < length steps → Along chunk steps b (drop k steps) now → Onward chunk (get_or steps k d) now next → Along chunk steps b (drop (k + 1) steps) next
along_on chunk steps b k d now next lt so on = subst (λ l. Along chunk steps b l next) (ap (λ n. drop n steps) (let e : suc k ≡ k + 1 = omega arith in e)) next_so
  where
    here : Along chunk steps b (get_or steps k d ∷ drop (suc k) steps) now
    here = subst (λ l. Along chunk steps b l now) (drop-cons steps k d lt) so

    next_so : Along chunk steps b (drop (suc k) steps) next
    next_so o = ((λ h. (here o).0 ((on (drop (suc k) steps) o).0 h)), λ h. (on (drop (suc k) steps) o).1 ((here o).1 h))

-- what holds where a call succeeds
pub ok_map : {A F : Type 0} (r : Result A F) (P Q : A → Type 0) → ((a : A) → P a → Q a) → IfOk r P → IfOk r Q
ok_map (Ok a) P Q f h = f a h
ok_map (Err e) P Q f h = tt

-- one of both is no further than the greater of them
pub one_none : (a b v : ℤ) (n m : ℕ) → v ≡ int_max a b → v ≡ a +ℤ pos n → v ≡ b +ℤ pos m → (n ≡ 0) ⊎ (m ≡ 0)
one_none a b v zero m e far there = inl refl
one_none a b v (suc n) zero e far there = inr refl
one_none a b v (suc n) (suc m) e far there = absurd (omega (arith, ints, int_max_is, e, far, there))
