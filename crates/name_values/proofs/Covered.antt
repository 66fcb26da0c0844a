-- Which values lists of ranges leave open: it doesn't matter in which order they came.
use Rattle.std.proofs.Common.{Ordering, ◌≡◌, refl, sym, ◌∙◌, subst, true≢false, suc, ◌+◌, ℤ, pos, ◌+ℤ◌, int_le, int_lt, Bool, true, false, ◌&&◌, ◌||◌, if◌then◌else◌, List, [], ◌∷◌, ◌++◌, reverse, arith}
use Rattle.std.specs.List.{list_any}
use Rattle.std.specs.List.Sorted.{IsPermutation, IsSorted}
use Rattle.std.specs.Ordering.{int_cmp, is_lt, ordering_then}
use Rattle.std.specs.Prelude.{slice_index_or}
use Rattle.std.proofs.lemmas.Bool.Decides.{nat_tests}
use Rattle.std.proofs.lemmas.Int.{ints}
use Rattle.std.proofs.lemmas.List.{append_assoc, reverse-append}
use Rattle.std.proofs.lemmas.List.Sorted.{IsPermutation-reverse, list_any-IsPermutation}
use Rattle.name_rules.specs.Aggregates.{insert, sorted}
use Rattle.name_rules.specs.Cases as cases

-- ---- lists in the other order

pub any_reverse : {A : Type 0} (p : A → Bool) (xs : List A) → list_any p (reverse xs) ≡ list_any p xs
any_reverse p xs = sym (list_any-IsPermutation p xs (reverse xs) (IsPermutation-reverse xs))

pub reverse_push : {A : Type 0} (xs : List A) (x : A) → reverse (xs ++ x ∷ []) ≡ x ∷ reverse xs
reverse_push xs x = reverse-append xs (x ∷ [])

-- the last of a list before another one
pub one_further : {A : Type 0} (xs : List A) (x : A) (ys : List A) → (xs ++ x ∷ []) ++ ys ≡ xs ++ x ∷ ys
one_further xs x ys = append_assoc xs (x ∷ []) ys

-- ---- the values that ranges hold

abbrev holds : ℤ → ℤ × ℤ → Bool
holds z r = int_le r.0 z && int_le z r.1

abbrev covers : ℤ → List (ℤ × ℤ) → Bool
covers z rs = list_any (holds z) rs

-- ---- ranges whose first values rise

abbrev Rising : ℤ → List (ℤ × ℤ) → Type 0
Rising z [] = Unit {0}
Rising z (r ∷ rs) = (int_le z r.0 ≡ true) × Rising r.0 rs

le-trans : (a b c : ℤ) → int_le a b ≡ true → int_le b c ≡ true → int_le a c ≡ true
le-trans a b c h k = grind (arith, ints, nat_tests)

lower : (y z : ℤ) (rs : List (ℤ × ℤ)) → int_le y z ≡ true → Rising z rs → Rising y rs
lower y z [] h s = tt
lower y z (r ∷ rs) h s = (le-trans y z r.0 h s.0, s.1)

-- a value below the first ones is in none
below : (low z : ℤ) (rs : List (ℤ × ℤ)) → int_lt low z ≡ true → Rising z rs → covers low rs ≡ false
below low z [] h s = refl
below low z (r ∷ rs) h s =
    let out : int_le r.0 low ≡ false = grind (arith, ints, nat_tests, s.0) in
    let more : int_lt low r.0 ≡ true = grind (arith, ints, nat_tests, s.0) in
    rw (out, below low r.0 rs more s.1) refl

-- ---- what is open is a value that is in none

record Open (low high : ℤ) (rs : List (ℤ × ℤ)) : Type 0 where
  value : ℤ
  from : int_le low value ≡ true
  to : int_le value high ≡ true
  none : covers value rs ≡ false

le-refl : (a : ℤ) → int_le a a ≡ true
le-refl a = grind (arith, ints, nat_tests)

past : (low next z : ℤ) → int_le (cases.int_max low next) z ≡ true → (int_le low z ≡ true) × (int_le next z ≡ true)
past low next z h = by (int_le low next) refl h
  where
    by : (t : Bool) → int_le low next ≡ t → int_le (if t then next else low) z ≡ true → (int_le low z ≡ true) × (int_le next z ≡ true)
    by true e h = (le-trans low next z e h, h)
    by false e h = (h, grind (arith, ints, nat_tests))

above : (high z : ℤ) → int_le (high +ℤ pos 1) z ≡ true → int_le z high ≡ false
above high z h = grind (arith, ints, nat_tests)

both-false : (a b : Bool) → b ≡ false → (a && b) ≡ false
both-false true b e = e
both-false false b e = refl

some-open : (low high z : ℤ) (rs : List (ℤ × ℤ)) → Rising z rs → cases.is_open low high rs ≡ true → Open low high rs
some-open low high z [] s e = record { value = low; from = le-refl low; to = e; none = refl }
some-open low high z (r ∷ rs) s e = by (int_lt low r.0) refl (some-open (cases.int_max low (r.1 +ℤ pos 1)) high r.0 rs s.1) e
  where
    further : Open (cases.int_max low (r.1 +ℤ pos 1)) high rs → Open low high (r ∷ rs)
    further o =
        let p = past low (r.1 +ℤ pos 1) o.value o.from in
        record { value = o.value; from = p.0; to = o.to; none = rw (both-false (int_le r.0 o.value) (int_le o.value r.1) (above r.1 o.value p.1)) o.none }

    by : (t : Bool) → int_lt low r.0 ≡ t → (cases.is_open (cases.int_max low (r.1 +ℤ pos 1)) high rs ≡ true → Open (cases.int_max low (r.1 +ℤ pos 1)) high rs)
        → (if t then int_le low high else cases.is_open (cases.int_max low (r.1 +ℤ pos 1)) high rs) ≡ true → Open low high (r ∷ rs)
    by true f more e =
        let out : int_le r.0 low ≡ false = grind (arith, ints, nat_tests) in
        record { value = low; from = le-refl low; to = e; none = rw (out, below low r.0 rs f s.1) refl }
    by false f more e = further (more e)

-- ---- what isn't is covered

upto : (low next z : ℤ) → int_le low z ≡ true → int_le next z ≡ true → int_le (cases.int_max low next) z ≡ true
upto low next z h k = by (int_le low next)
  where
    by : (t : Bool) → int_le (if t then next else low) z ≡ true
    by true = k
    by false = h

all-covered : (low high : ℤ) (rs : List (ℤ × ℤ)) → cases.is_open low high rs ≡ false → (z : ℤ) → int_le low z ≡ true → int_le z high ≡ true → covers z rs ≡ true
all-covered low high [] e z h k = absurd (true≢false (sym (le-trans low z high h k) ∙ e))
all-covered low high (r ∷ rs) e z h k = by (int_lt low r.0) refl (all-covered (cases.int_max low (r.1 +ℤ pos 1)) high rs) e
  where
    within : (t : Bool) → int_lt low r.0 ≡ false → int_le z r.1 ≡ t → (cases.is_open (cases.int_max low (r.1 +ℤ pos 1)) high rs ≡ false → (v : ℤ) → int_le (cases.int_max low (r.1 +ℤ pos 1)) v ≡ true → int_le v high ≡ true → covers v rs ≡ true) → cases.is_open (cases.int_max low (r.1 +ℤ pos 1)) high rs ≡ false → covers z (r ∷ rs) ≡ true
    within true f g more e =
        let from : int_le r.0 z ≡ true = grind (arith, ints, nat_tests) in
        rw (from, g) refl
    within false f g more e =
        let next : int_le (r.1 +ℤ pos 1) z ≡ true = grind (arith, ints, nat_tests) in
        let rest = more e z (upto low (r.1 +ℤ pos 1) z h next) k in
        rw (g, both-false (int_le r.0 z) false refl) rest

    by : (t : Bool) → int_lt low r.0 ≡ t → (cases.is_open (cases.int_max low (r.1 +ℤ pos 1)) high rs ≡ false → (v : ℤ) → int_le (cases.int_max low (r.1 +ℤ pos 1)) v ≡ true → int_le v high ≡ true → covers v rs ≡ true) → (if t then int_le low high else cases.is_open (cases.int_max low (r.1 +ℤ pos 1)) high rs) ≡ false → covers z (r ∷ rs) ≡ true
    by true f more e = absurd (true≢false (sym (le-trans low z high h k) ∙ e))
    by false f more e = within (int_le z r.1) f refl more e

-- ---- lists that hold the same values, both in order, leave the same open

same-open : (low high y z : ℤ) (rs ss : List (ℤ × ℤ)) → Rising y rs → Rising z ss → ((v : ℤ) → covers v rs ≡ covers v ss)
    → cases.is_open low high rs ≡ cases.is_open low high ss
same-open low high y z rs ss p q same = by (cases.is_open low high rs) (cases.is_open low high ss) refl refl
  where
    by : (a b : Bool) → cases.is_open low high rs ≡ a → cases.is_open low high ss ≡ b → a ≡ b
    by true true e f = refl
    by false false e f = refl
    by true false e f =
        let o = some-open low high y rs p e in
        absurd (true≢false (sym (all-covered low high ss f o.value o.from o.to) ∙ sym (same o.value) ∙ o.none))
    by false true e f =
        let o = some-open low high z ss q f in
        absurd (true≢false (sym (all-covered low high rs e o.value o.from o.to) ∙ same o.value ∙ o.none))

-- ---- inserting

record Starts (rs : List (ℤ × ℤ)) : Type 0 where
  value : ℤ
  rising : Rising value rs

rising-insert : (z : ℤ) (r : ℤ × ℤ) (rs : List (ℤ × ℤ)) → int_le z r.0 ≡ true → Rising z rs → Rising z (insert r rs)
rising-insert z r [] h s = (h, tt)
rising-insert z r (q ∷ qs) h s = by (int_le r.0 q.0) refl (rising-insert q.0 r qs)
  where
    by : (t : Bool) → int_le r.0 q.0 ≡ t → (int_le q.0 r.0 ≡ true → Rising q.0 qs → Rising q.0 (insert r qs)) → Rising z (if t then r ∷ q ∷ qs else q ∷ insert r qs)
    by true e more = (h, (e, s.1))
    by false e more = (s.0, more (grind (arith, ints, nat_tests)) s.1)

starts-insert : (r : ℤ × ℤ) (rs : List (ℤ × ℤ)) → Starts rs → Starts (insert r rs)
starts-insert r rs s = by (int_le s.value r.0) refl
  where
    by : (t : Bool) → int_le s.value r.0 ≡ t → Starts (insert r rs)
    by true e = record { value = s.value; rising = rising-insert s.value r rs e s.rising }
    by false e = record { value = r.0; rising = rising-insert r.0 r rs (le-refl r.0) (lower r.0 s.value rs (grind (arith, ints, nat_tests)) s.rising) }

starts-sorted : (rs : List (ℤ × ℤ)) → Starts (sorted rs)
starts-sorted [] = record { value = pos 0; rising = tt }
starts-sorted (r ∷ rs) = starts-insert r (sorted rs) (starts-sorted rs)

or-swap : (a b c : Bool) → (b || (a || c)) ≡ (a || (b || c))
or-swap true true c = refl
or-swap true false c = refl
or-swap false b c = refl

covers-insert : (z : ℤ) (r : ℤ × ℤ) (rs : List (ℤ × ℤ)) → covers z (insert r rs) ≡ (holds z r || covers z rs)
covers-insert z r [] = refl
covers-insert z r (q ∷ qs) = by (int_le r.0 q.0) (covers-insert z r qs)
  where
    by : (t : Bool) → (covers z (insert r qs) ≡ (holds z r || covers z qs)) → covers z (if t then r ∷ q ∷ qs else q ∷ insert r qs) ≡ (holds z r || (holds z q || covers z qs))
    by true more = refl
    by false more = rw more (or-swap (holds z r) (holds z q) (covers z qs))

covers-sorted : (z : ℤ) (rs : List (ℤ × ℤ)) → covers z (sorted rs) ≡ covers z rs
covers-sorted z [] = refl
covers-sorted z (r ∷ rs) = rw (covers-insert z r (sorted rs), covers-sorted z rs) refl

-- ---- what a sort of pairs ensures

abbrev by_pairs : ℤ × ℤ → ℤ × ℤ → Ordering
by_pairs x y = ordering_then (int_cmp x.0 y.0) (int_cmp x.1 y.1)

not-less : (x y : ℤ × ℤ) → is_lt (by_pairs y x) ≡ false → int_le x.0 y.0 ≡ true
not-less x y e = by (int_lt y.0 x.0) refl
  where
    by : (t : Bool) → int_lt y.0 x.0 ≡ t → int_le x.0 y.0 ≡ true
    by true f = absurd (true≢false (sym (rw f refl) ∙ e))
    by false f = grind (arith, ints, nat_tests)

rising-rest : (r : ℤ × ℤ) (rs : List (ℤ × ℤ)) → IsSorted by_pairs (r ∷ rs) → Rising r.0 rs
rising-rest r [] s = tt
rising-rest r (q ∷ qs) s = (
  not-less r q (s 0 r (omega arith) (omega arith)),
  rising-rest q qs (λ k d a b. let e : k + 1 ≡ suc k = omega arith in let f : k + 1 + 1 ≡ suc (k + 1) = omega arith in
      subst (λ n. is_lt (by_pairs (slice_index_or (r ∷ q ∷ qs) n d) (slice_index_or (q ∷ qs) k d)) ≡ false) f
      (subst (λ n. is_lt (by_pairs (slice_index_or (r ∷ q ∷ qs) (k + 1 + 1) d) (slice_index_or (r ∷ q ∷ qs) n d)) ≡ false) e (s (k + 1) d (omega arith) (omega arith)))),
)

starts-order : (rs : List (ℤ × ℤ)) → IsSorted by_pairs rs → Starts rs
starts-order [] s = record { value = pos 0; rising = tt }
starts-order (r ∷ rs) s = record { value = r.0; rising = (le-refl r.0, rising-rest r rs s) }

pub open_sorted : (low high : ℤ) (rs ss : List (ℤ × ℤ)) → IsPermutation rs ss → IsSorted by_pairs ss
    → cases.is_open low high ss ≡ cases.is_open low high (sorted (reverse rs))
open_sorted low high rs ss p s =
    let a = starts-order ss s in
    let b = starts-sorted (reverse rs) in
    same-open low high a.value b.value ss (sorted (reverse rs)) a.rising b.rising
    (λ v. sym (list_any-IsPermutation (holds v) rs ss p) ∙ sym (any_reverse (holds v) rs) ∙ sym (covers-sorted v (reverse rs)))
