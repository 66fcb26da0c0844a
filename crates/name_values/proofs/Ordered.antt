-- A stable sort by lower bounds is the definition's.
use Rattle.std.proofs.Common.{◌≡◌, refl, sym, ◌∙◌, ap, ap₂, subst, ℕ, suc, ◌+◌, ◌<◌, Bool, true, false, cond, not, ◌&&◌, List, [], ◌∷◌, length, ℤ, int_le, int_lt, slice_index_or, filter, arith}
use Rattle.std.proofs.lemmas.Int.{ints}
use Rattle.std.specs.Ordering.{int_cmp, is_lt}
use Rattle.std.specs.declared.cmp.Ordering.TheVariants.{Less, Equal, Greater}
use Rattle.std.specs.List.Sorted.{IsSortedByKey, IsStableByKey, ties}
use Rattle.name_rules.specs.Aggregates.{insert, sorted}

by_cases : {P : Type 0} (b : Bool) → (b ≡ true → P) → (b ≡ false → P) → P
by_cases true f g = f refl
by_cases false f g = g refl

less : ℤ → ℤ → Bool
less a b = is_lt (int_cmp a b)

less_is : (a b : ℤ) → is_lt (int_cmp a b) ≡ int_lt a b
less_is a b = by (int_lt a b) (int_lt b a)
  where
    by : (s t : Bool) → is_lt (cond s Less (cond t Greater Equal)) ≡ s
    by true t = refl
    by false true = refl
    by false false = refl

-- neither is below the other
abbrev tie : ℤ → ℤ × ℤ → Bool
tie z r = not (int_lt z r.0) && not (int_lt r.0 z)

ties_are : (z : ℤ) (r : ℤ × ℤ) → ties (λ x y. is_lt (int_cmp x.0 y.0)) (z, z) r ≡ tie z r
ties_are z r = rw (less_is z r.0, less_is r.0 z) refl

-- the first is below none, and so on
abbrev Above : ℤ → List (ℤ × ℤ) → Type 0
Above z [] = Unit {0}
Above z (r ∷ rs) = (int_lt r.0 z ≡ false) × Above z rs

abbrev Rises : List (ℤ × ℤ) → Type 0
Rises [] = Unit {0}
Rises (r ∷ rs) = Above r.0 rs × Rises rs

above_lower : (y z : ℤ) (rs : List (ℤ × ℤ)) → int_lt z y ≡ false → Above z rs → Above y rs
above_lower y z [] l a = tt
above_lower y z (r ∷ rs) l a = (not_below, above_lower y z rs l a.1)
  where
    not_below : int_lt r.0 y ≡ false
    not_below = by_cases (int_lt r.0 y) (λ e. absurd (omega (arith, ints, e, l, a.0))) (λ e. e)

below_all : (z y : ℤ) (rs : List (ℤ × ℤ)) → int_lt z y ≡ true → Above y rs → filter (tie z) rs ≡ []
below_all z y [] l a = refl
below_all z y (r ∷ rs) l a = rw (untied) (below_all z y rs l a.1)
  where
    untied : tie z r ≡ false
    untied = by_cases (int_lt z r.0) (λ e. rw e refl) (λ e. absurd (omega (arith, ints, e, l, a.0)))

tie_self : (r : ℤ × ℤ) → tie r.0 r ≡ true
tie_self r = by_cases (int_lt r.0 r.0) (λ e. absurd (omega (arith, ints, e))) (λ e. rw e refl)

tie_both : (y z : ℤ × ℤ) → int_lt y.0 z.0 ≡ false → int_lt z.0 y.0 ≡ false → tie y.0 z ≡ true
tie_both y z e f = rw (e, f) refl

cons_same : {A : Type 0} {x y : A} {xs ys : List A} → x ∷ xs ≡ y ∷ ys → (x ≡ y) × (xs ≡ ys)
cons_same e = (cc e, cc e)

same_head : (y z : ℤ × ℤ) (ys zs : List (ℤ × ℤ)) → int_lt y.0 z.0 ≡ false → int_lt z.0 y.0 ≡ false → filter (tie y.0) (y ∷ ys) ≡ filter (tie y.0) (z ∷ zs) → y ≡ z
same_head y z ys zs e f g =
    let first : filter (tie y.0) (y ∷ ys) ≡ y ∷ filter (tie y.0) ys = rw (tie_self y) refl in
    let second : filter (tie y.0) (z ∷ zs) ≡ z ∷ filter (tie y.0) zs = rw (tie_both y z e f) refl in
    (cons_same (sym first ∙ g ∙ second)).0

same_tails : (k : ℤ) (y z : ℤ × ℤ) (ys zs : List (ℤ × ℤ)) → y ≡ z → filter (tie k) (y ∷ ys) ≡ filter (tie k) (z ∷ zs) → filter (tie k) ys ≡ filter (tie k) zs
same_tails k y z ys zs e f = by (tie k z) (subst (λ x. filter (tie k) (x ∷ ys) ≡ filter (tie k) (z ∷ zs)) e f)
  where
    by : (t : Bool) → cond t (z ∷ filter (tie k) ys) (filter (tie k) ys) ≡ cond t (z ∷ filter (tie k) zs) (filter (tie k) zs) → filter (tie k) ys ≡ filter (tie k) zs
    by true g = (cons_same g).1
    by false g = g

insert_above : (z : ℤ) (r : ℤ × ℤ) (rs : List (ℤ × ℤ)) → int_lt r.0 z ≡ false → Above z rs → Above z (insert r rs)
insert_above z r [] h a = (h, tt)
insert_above z r (s ∷ ss) h a = by (int_le r.0 s.0) (insert_above z r ss h a.1)
  where
    by : (t : Bool) → Above z (insert r ss) → Above z (cond t (r ∷ s ∷ ss) (s ∷ insert r ss))
    by true b = (h, a)
    by false b = (a.0, b)

insert_rises : (r : ℤ × ℤ) (rs : List (ℤ × ℤ)) → Rises rs → Rises (insert r rs)
insert_rises r [] a = (tt, tt)
insert_rises r (s ∷ ss) a = by (int_le r.0 s.0) refl (insert_rises r ss a.1)
  where
    by : (t : Bool) → int_le r.0 s.0 ≡ t → Rises (insert r ss) → Rises (cond t (r ∷ s ∷ ss) (s ∷ insert r ss))
    by true e b =
        let step : int_lt s.0 r.0 ≡ false = by_cases (int_lt s.0 r.0) (λ f. absurd (omega (arith, ints, e, f))) (λ f. f) in
        ((step, above_lower r.0 s.0 ss step a.0), a)
    by false e b =
        let step : int_lt r.0 s.0 ≡ false = by_cases (int_lt r.0 s.0) (λ f. absurd (omega (arith, ints, e, f))) (λ f. f) in
        (insert_above s.0 r ss step a.0, b)

not_both : (z : ℤ) (r s : ℤ × ℤ) → int_le r.0 s.0 ≡ false → tie z r ≡ true → tie z s ≡ false
not_both z r s e f =
    by_cases (int_lt z s.0) (λ g. rw g refl) (λ g.
    by_cases (int_lt s.0 z) (λ h. rw (g, h) refl) (λ h.
    by_cases (int_lt z r.0) (λ i. absurd (cc (f, i))) (λ i.
    by_cases (int_lt r.0 z) (λ j. absurd (cc (f, i, j))) (λ j. absurd (omega (arith, ints, e, g, h, i, j))))))

insert_ties : (z : ℤ) (r : ℤ × ℤ) (rs : List (ℤ × ℤ)) → filter (tie z) (insert r rs) ≡ cond (tie z r) (r ∷ filter (tie z) rs) (filter (tie z) rs)
insert_ties z r [] = refl
insert_ties z r (s ∷ ss) = by (int_le r.0 s.0) refl (insert_ties z r ss)
  where
    over : (t u : Bool) → tie z r ≡ t → tie z s ≡ u → int_le r.0 s.0 ≡ false → cond u (s ∷ cond t (r ∷ filter (tie z) ss) (filter (tie z) ss)) (cond t (r ∷ filter (tie z) ss) (filter (tie z) ss)) ≡ cond t (r ∷ cond u (s ∷ filter (tie z) ss) (filter (tie z) ss)) (cond u (s ∷ filter (tie z) ss) (filter (tie z) ss))
    over true true f g e = absurd (cc (not_both z r s e f, g))
    over true false f g e = refl
    over false u f g e = refl

    by : (t : Bool) → int_le r.0 s.0 ≡ t → filter (tie z) (insert r ss) ≡ cond (tie z r) (r ∷ filter (tie z) ss) (filter (tie z) ss) → filter (tie z) (cond t (r ∷ s ∷ ss) (s ∷ insert r ss)) ≡ cond (tie z r) (r ∷ filter (tie z) (s ∷ ss)) (filter (tie z) (s ∷ ss))
    by true e b = refl
    by false e b = ap (λ xs. cond (tie z s) (s ∷ xs) xs) b ∙ over (tie z r) (tie z s) refl refl e

-- one list of those that rise has these values, tied as they are
heads_tie : (y z : ℤ × ℤ) (ys zs : List (ℤ × ℤ)) → Above z.0 zs → filter (tie y.0) (y ∷ ys) ≡ filter (tie y.0) (z ∷ zs) → int_lt y.0 z.0 ≡ false
heads_tie y z ys zs a f = by_cases (int_lt y.0 z.0) (λ e. absurd (impossible e)) (λ e. e)
  where
    tied : tie y.0 y ≡ true
    tied = tie_self y

    impossible : int_lt y.0 z.0 ≡ true → ⊥
    impossible e =
        let none : filter (tie y.0) (z ∷ zs) ≡ [] = rw (e) (below_all y.0 z.0 zs e a) in
        let some : filter (tie y.0) (y ∷ ys) ≡ y ∷ filter (tie y.0) ys = rw (tied) refl in
        cc (none, some, f)

pub only_one : (ys zs : List (ℤ × ℤ)) → Rises ys → Rises zs → ((z : ℤ) → filter (tie z) ys ≡ filter (tie z) zs) → ys ≡ zs
only_one [] [] a b f = refl
only_one [] (z ∷ zs) a b f =
    let tied : tie z.0 z ≡ true = tie_self z in
    let some : filter (tie z.0) (z ∷ zs) ≡ z ∷ filter (tie z.0) zs = rw (tied) refl in
    absurd (cc (some, f z.0))
only_one (y ∷ ys) [] a b f =
    let tied : tie y.0 y ≡ true = tie_self y in
    let some : filter (tie y.0) (y ∷ ys) ≡ y ∷ filter (tie y.0) ys = rw (tied) refl in
    absurd (cc (some, f y.0))
only_one (y ∷ ys) (z ∷ zs) a b f =
    let up : int_lt y.0 z.0 ≡ false = heads_tie y z ys zs b.0 (f y.0) in
    let down : int_lt z.0 y.0 ≡ false = heads_tie z y zs ys a.0 (sym (f z.0)) in
    let same : y ≡ z = same_head y z ys zs up down (f y.0) in
    ap₂ (λ x xs. x ∷ xs) same (only_one ys zs a.1 b.1 (λ k. same_tails k y z ys zs same (f k)))

pub sorted_rises : (rs : List (ℤ × ℤ)) → Rises (sorted rs)
sorted_rises [] = tt
sorted_rises (r ∷ rs) = insert_rises r (sorted rs) (sorted_rises rs)

pub sorted_ties : (z : ℤ) (rs : List (ℤ × ℤ)) → filter (tie z) (sorted rs) ≡ filter (tie z) rs
sorted_ties z [] = refl
sorted_ties z (r ∷ rs) = insert_ties z r (sorted rs) ∙ ap (λ xs. cond (tie z r) (r ∷ xs) xs) (sorted_ties z rs)

pub adjacent_rises : (y : ℤ × ℤ) (ys : List (ℤ × ℤ)) → ((k : ℕ) (d : ℤ × ℤ) → suc k < length (y ∷ ys) → is_lt (int_cmp (slice_index_or (y ∷ ys) (suc k) d).0 (slice_index_or (y ∷ ys) k d).0) ≡ false) → Rises (y ∷ ys)
adjacent_rises y [] f = (tt, tt)
adjacent_rises y (w ∷ ws) f =
    let rest : Rises (w ∷ ws) = adjacent_rises w ws (λ k d h. f (suc k) d (omega (arith, h))) in
    let step : int_lt w.0 y.0 ≡ false = sym (less_is w.0 y.0) ∙ f 0 y (omega arith) in
    ((step, above_lower y.0 w.0 ws step rest.0), rest)

pub is_sorted : (xs ys : List (ℤ × ℤ)) → IsSortedByKey (λ r. r.0) int_cmp ys → IsStableByKey (λ r. r.0) int_cmp xs ys → ys ≡ sorted xs
is_sorted xs ys s t = only_one ys (sorted xs) (rises ys s) (sorted_rises xs) (λ z. ties_in z ys ∙ t (z, z) ∙ sym (ties_in z xs) ∙ sym (sorted_ties z xs))
  where
    rises : (zs : List (ℤ × ℤ)) → IsSortedByKey (λ r. r.0) int_cmp zs → Rises zs
    rises [] s = tt
    rises (z ∷ zs) s = adjacent_rises z zs (λ k d h.
        let e : k + 1 ≡ suc k = omega arith in
        subst (λ n. is_lt (int_cmp (slice_index_or (z ∷ zs) n d).0 (slice_index_or (z ∷ zs) k d).0) ≡ false) e (s k d (omega arith) (omega (arith, h))))

    ties_in : (z : ℤ) (zs : List (ℤ × ℤ)) → filter (tie z) zs ≡ filter (ties (λ x y. is_lt (int_cmp x.0 y.0)) (z, z)) zs
    ties_in z [] = refl
    ties_in z (r ∷ rs) = rw (ties_are z r, ties_in z rs) refl
