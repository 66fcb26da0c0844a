-- What ranges leave open of a dimension lies within it, and so do the ranges.
use Rattle.std.proofs.Common.{◌≡◌, refl, sym, subst, ℕ, ℤ, pos, ◌+ℤ◌, ◌-ℤ◌, int_le, int_lt, Bool, true, false, true≢false, ◌||◌, not, if◌then◌else◌, List, [], ◌∷◌, ◌++◌, Option, Some, None, option_map, arith}
use Rattle.std.proofs.lemmas.Bool.Decides.{nat_tests}
use Rattle.std.proofs.lemmas.Bool.{and_from, and_parts}
use Rattle.std.proofs.lemmas.Int.{ints}
use Rattle.std.specs.List.{list_all}
use Rattle.name_rules.specs.Aggregates.{gaps_of, insert, is_within, left_open, not_empty, runs_of, sorted, span_run, with_run}
use Rattle.typed_tree.specs.declared.expressions.Run.{Run}
use Rattle.name_rules.specs.declared.log.Dimension.{Dimension}
use Rattle.name_complete.proofs.Explains.{Any, Is, mapped}

abbrev pub Each : (ℤ × ℤ → Type 0) → List (ℤ × ℤ) → Type 0
Each P [] = Unit {0}
Each P (r ∷ rs) = P r × Each P rs

pub each-both : (P : ℤ × ℤ → Type 0) (a b : List (ℤ × ℤ)) → Each P (a ++ b) → Each P a × Each P b
each-both P [] b h = (tt, h)
each-both P (r ∷ a) b h = let x = each-both P a b h.1 in ((h.0, x.0), x.1)

-- ---- in order

inserted-to : (P : ℤ × ℤ → Type 0) (r : ℤ × ℤ) (ss : List (ℤ × ℤ)) → P r → Each P ss → Each P (insert r ss)
inserted-to P r [] h k = (h, tt)
inserted-to P r (s ∷ ss) h k = by (int_le r.0 s.0) (inserted-to P r ss h k.1)
  where
    by : (b : Bool) → Each P (insert r ss) → Each P (if b then r ∷ s ∷ ss else s ∷ insert r ss)
    by true i = (h, k)
    by false i = (k.0, i)

inserted-from : (P : ℤ × ℤ → Type 0) (r : ℤ × ℤ) (ss : List (ℤ × ℤ)) → Each P (insert r ss) → P r × Each P ss
inserted-from P r [] h = h
inserted-from P r (s ∷ ss) h = by (int_le r.0 s.0) (λ i. inserted-from P r ss i) h
  where
    by : (b : Bool) → (Each P (insert r ss) → P r × Each P ss) → Each P (if b then r ∷ s ∷ ss else s ∷ insert r ss) → P r × Each P (s ∷ ss)
    by true f i = i
    by false f i = let x = f i.1 in (x.0, (i.0, x.1))

sorted-to : (P : ℤ × ℤ → Type 0) (rs : List (ℤ × ℤ)) → Each P rs → Each P (sorted rs)
sorted-to P [] h = tt
sorted-to P (r ∷ rs) h = inserted-to P r (sorted rs) h.0 (sorted-to P rs h.1)

sorted-from : (P : ℤ × ℤ → Type 0) (rs : List (ℤ × ℤ)) → Each P (sorted rs) → Each P rs
sorted-from P [] h = tt
sorted-from P (r ∷ rs) h = let x = inserted-from P r (sorted rs) h in (x.0, sorted-from P rs x.1)

-- ---- within a dimension

abbrev Inside : ℤ → ℤ → ℤ × ℤ → Type 0
Inside low high r = (int_le low r.0 ≡ true) × (int_le r.1 high ≡ true)

abbrev Filled : ℤ × ℤ → Type 0
Filled r = not_empty r ≡ true

abbrev Gaps : ℤ → ℤ → List (ℤ × ℤ) → List (ℤ × ℤ) → Type 0
Gaps low high rs os = Each (Inside low high) rs × Each (Inside low high) os

le-trans : (a b c : ℤ) → int_le a b ≡ true → int_le b c ≡ true → int_le a c ≡ true
le-trans a b c h k = grind (arith, ints, nat_tests)

le-itself : (a : ℤ) → int_le a a ≡ true
le-itself a = grind (arith, ints, nat_tests)

not-below : (a b : ℤ) → int_lt a b ≡ false → int_le b a ≡ true
not-below a b h = grind (arith, ints, nat_tests)

before : (a b : ℤ) → int_le b a ≡ false → int_le a (b -ℤ pos 1) ≡ true
before a b h = grind (arith, ints, nat_tests)

one-less : (a b c : ℤ) → int_le a b ≡ true → int_le b c ≡ true → int_le (a -ℤ pos 1) c ≡ true
one-less a b c h k = grind (arith, ints, nat_tests)

further : (a b c : ℤ) → int_le a b ≡ true → int_le b c ≡ true → int_le a (c +ℤ pos 1) ≡ true
further a b c h k = grind (arith, ints, nat_tests)

neither : (a b : Bool) → (a || b) ≡ false → (a ≡ false) × (b ≡ false)
neither false b e = (refl, e)
neither true b e = absurd (true≢false e)

-- what is open, where anything is, and the ranges
abbrev GapsIn : ℤ → ℤ → List (ℤ × ℤ) → Option (List (ℤ × ℤ)) → Type 0
GapsIn low high rs None = Unit {0}
GapsIn low high rs (Some os) = Gaps low high rs os

also-range : (low high : ℤ) (r : ℤ × ℤ) (rs : List (ℤ × ℤ)) (x : Option (List (ℤ × ℤ))) → Inside low high r → GapsIn low high rs x → GapsIn low high (r ∷ rs) x
also-range low high r rs None i g = tt
also-range low high r rs (Some os) i g = ((i, g.0), g.1)

also-gap : (low high : ℤ) (r o : ℤ × ℤ) (rs : List (ℤ × ℤ)) (x : Option (List (ℤ × ℤ))) → Inside low high r → Inside low high o → GapsIn low high rs x → GapsIn low high (r ∷ rs) (option_map (λ os. o ∷ os) x)
also-gap low high r o rs None i j g = tt
also-gap low high r o rs (Some os) i j g = ((i, g.0), (j, g.1))

-- from any place within the dimension on
left-inside : (low at high : ℤ) (rs : List (ℤ × ℤ)) → int_le low at ≡ true → Each Filled rs → GapsIn low high rs (left_open at high rs)
left-inside low at high [] l f = by (int_le at high)
  where
    by : (b : Bool) → GapsIn low high [] (if b then Some ((at, high) ∷ []) else Some [])
    by true = (tt, ((l, le-itself high), tt))
    by false = (tt, tt)
left-inside low at high (r ∷ rs) l f = first (int_lt r.0 at || int_lt high r.1) refl (λ x. left-inside low (r.1 +ℤ pos 1) high rs x f.1)
  where
    second : (b : Bool) (x : Option (List (ℤ × ℤ))) → int_le at r.0 ≡ true → int_le r.1 high ≡ true → GapsIn low high rs x → GapsIn low high (r ∷ rs) (if b then x else option_map (λ os. (at, r.0 -ℤ pos 1) ∷ os) x)
    second true x i j g = also-range low high r rs x (le-trans low at r.0 l i, j) g
    second false x i j g = also-gap low high r (at, r.0 -ℤ pos 1) rs x (le-trans low at r.0 l i, j) (l, one-less r.0 r.1 high f.0 j) g

    first : (b : Bool) → (int_lt r.0 at || int_lt high r.1) ≡ b → (int_le low (r.1 +ℤ pos 1) ≡ true → GapsIn low high rs (left_open (r.1 +ℤ pos 1) high rs))
        → GapsIn low high (r ∷ rs) (if b then None else (if int_le r.0 at then left_open (r.1 +ℤ pos 1) high rs else option_map (λ os. (at, r.0 -ℤ pos 1) ∷ os) (left_open (r.1 +ℤ pos 1) high rs)))
    first true i g = tt
    first false i g =
        let x = neither (int_lt r.0 at) (int_lt high r.1) i in
        let from = not-below r.0 at x.0 in
        second (int_le r.0 at) (left_open (r.1 +ℤ pos 1) high rs) from (not-below high r.1 x.1) (g (further low r.0 r.1 (le-trans low at r.0 l from) f.0))

all-filled : (rs : List (ℤ × ℤ)) → list_all not_empty rs ≡ true → Each Filled rs
all-filled [] e = tt
all-filled (r ∷ rs) e = let x = and_parts (not_empty r) (list_all not_empty rs) e in (x.0, all-filled rs x.1)

-- ---- runs

abbrev pub AllWithin : Dimension → List (ℤ × ℤ) → Type 0
AllWithin d rs = Each (Inside d.low d.high) rs

back-in-order : (low high : ℤ) (rs : List (ℤ × ℤ)) (x : Option (List (ℤ × ℤ))) → GapsIn low high (sorted rs) x → GapsIn low high rs x
back-in-order low high rs None g = tt
back-in-order low high rs (Some os) g = (sorted-from (Inside low high) rs g.0, g.1)

gaps-in : (low high : ℤ) (rs : List (ℤ × ℤ)) → GapsIn low high rs (gaps_of low high rs)
gaps-in low high rs = by (list_all not_empty rs) refl
  where
    by : (b : Bool) → list_all not_empty rs ≡ b → GapsIn low high rs (if b then left_open low high (sorted rs) else None)
    by true e = back-in-order low high rs (left_open low high (sorted rs)) (left-inside low low high (sorted rs) (le-itself low) (sorted-to Filled rs (all-filled rs e)))
    by false e = tt

-- what fits in a dimension is within it, and what it leaves open is
pub gaps-within : (d : Dimension) (rs os : List (ℤ × ℤ)) → gaps_of d.low d.high rs ≡ Some os → AllWithin d rs × AllWithin d os
gaps-within d rs os e = subst (GapsIn d.low d.high rs) e (gaps-in d.low d.high rs)

one-run : (d : Dimension) (apart : ℕ) (r : ℤ × ℤ) (rest : Option (List Run)) → Inside d.low d.high r → Is Any rest → Is Any (with_run d apart r rest)
one-run d apart r rest i h = by (not (not_empty r)) (is_within d r) (and_from (int_le d.low r.0) (int_le r.1 d.high) i.0 i.1)
  where
    by : (a b : Bool) → b ≡ true → Is Any (if a then rest else if b then option_map (λ xs. span_run d apart r ∷ xs) rest else None)
    by true b e = h
    by false true e = mapped Any Any (λ xs. span_run d apart r ∷ xs) rest h (λ x k. tt)
    by false false e = absurd (true≢false (sym e))

pub runs-there : (d : Dimension) (apart : ℕ) (rs : List (ℤ × ℤ)) → AllWithin d rs → Is Any (runs_of d apart rs)
runs-there d apart [] h = tt
runs-there d apart (r ∷ rs) h = one-run d apart r (runs_of d apart rs) h.0 (runs-there d apart rs h.1)
