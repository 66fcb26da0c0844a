-- The rows of a region, and the test of its cells.
use Rattle.std.proofs.Common.{◌≡◌, ℕ, zero, suc, ◌+◌, ◌-◌, ◌*◌, ◌<◌, ◌≤◌, ◌⊎◌, inl, inr, Bool, true, false, ◌&&◌, ◌||◌, IsTrue, nat_lt, refl, sym, ap, subst, ◌∙◌, arith}
use Rattle.std.proofs.lemmas.Bool.{cases_lt, lt-ltb, ltb-true, le-leb, leb-true}
use Rattle.std.proofs.Math.Nat.{mul-le-mul_right}
use lib.Dec.{leb, ltb}
use Rattle.cell_strip.specs.Regions.{IsIn, in_row, in_rows, has, IsLastRow}
use Rattle.cell_strip.specs.declared.region.Region.{Region}

both_true : (a b : Bool) → (a && b) ≡ true → (a ≡ true) × (b ≡ true)
both_true true true e = (refl, refl)
both_true true false e = (refl, e)
both_true false b e = (e, absurd (cc e))

one_true : (a b : Bool) → (a || b) ≡ true → (a ≡ true) ⊎ (b ≡ true)
one_true true b e = inl refl
one_true false b e = inr e

or_right : (a b : Bool) → b ≡ true → (a || b) ≡ true
or_right true b e = refl
or_right false b e = e

or_left : (a b : Bool) → a ≡ true → (a || b) ≡ true
or_left a b e = ap (λ c. c || b) e

-- a cell of one of the first rows
found : (n : ℕ) (r : Region) (x : ℕ) → in_rows n r x ≡ true → (a : ℕ) × (b : ℕ) × (a < n) × (b < r.run) × (x ≡ r.base + a * r.stride + b)
found zero r x e = absurd (cc e)
found (suc n) r x e = elim (one_true (in_rows n r x) (in_row (r.base + n * r.stride) r.run x) e) [
  | inl f ↦ let p = found n r x f in (p.0, p.1, omega (arith, p.2), p.3, p.4)
  | inr f ↦
      let p = both_true (leb (r.base + n * r.stride) x) (ltb x (r.base + n * r.stride + r.run)) f in
      let le = leb-true (r.base + n * r.stride) x p.0 in
      let lt = ltb-true x (r.base + n * r.stride + r.run) p.1 in
      (n, x - (r.base + n * r.stride), omega arith, omega (arith, le, lt), omega (arith, le))
]

finds : (n : ℕ) (r : Region) (x a b : ℕ) → a < n → b < r.run → x ≡ r.base + a * r.stride + b → in_rows n r x ≡ true
finds zero r x a b lt l e = absurd (omega arith)
finds (suc n) r x a b lt l e = elim (cases_lt a n) [
  | inl h ↦ or_left _ _ (finds n r x a b h l e)
  | inr h ↦ let same : a ≡ n = omega arith in or_right (in_rows n r x) _ (subst (λ m. in_row (r.base + m * r.stride) r.run x ≡ true) same (row (r.base + a * r.stride) r.run x b l e))
] where
  row : (first run x b : ℕ) → b < run → x ≡ first + b → in_row first run x ≡ true
  row first run x b l e = ap (λ c. c && ltb x (first + run)) (le-leb first x (omega arith)) ∙ lt-ltb x (first + run) (omega arith)

pub in_has : (r : Region) (x : ℕ) → IsIn r x → has r x ≡ true
unfolding has
in_has r x i = finds r.count r x i.0 i.1 i.2 i.3 i.4

pub has_in : (r : Region) (x : ℕ) → has r x ≡ true → IsIn r x
unfolding has
has_in r x e = found r.count r x e

-- a cell of the region lies in the last row that begins no further
row_of : (r : Region) (x a : ℕ) → r.base ≤ x → IsLastRow r (x - r.base) a → IsIn r x → x - r.base - a * r.stride < r.run
row_of r x a le l i =
    let k = i.0 in let b = i.1 in let e = i.4 in
    let m = mul-le-mul_right {m = k} {n = a} r.stride (l.2 k i.2 (omega arith)) in
    let s = i.3 in
    omega arith

in_by_row : (r : Region) (x a : ℕ) → r.base ≤ x → IsLastRow r (x - r.base) a → x - r.base - a * r.stride < r.run → IsIn r x
in_by_row r x a le l lt = let h = l.1 in (a, x - r.base - a * r.stride, l.0, lt, omega arith)

-- a test that is true where x is a cell, and nowhere else
tests : (r : Region) (x : ℕ) (b : Bool) → (b ≡ true → IsIn r x) → (IsIn r x → b ≡ true) → (b ≡ has r x) × ((IsTrue b → IsIn r x) × (IsIn r x → IsTrue b))
tests r x b f g = (same b (has r x) (λ e. in_has r x (f e)) (λ e. g (has_in r x e)), (f, g)) where
  same : (b c : Bool) → (b ≡ true → c ≡ true) → (c ≡ true → b ≡ true) → b ≡ c
  same true c f g = sym (f refl)
  same false true f g = g refl
  same false false f g = refl

pub below : (r : Region) (x : ℕ) → x < r.base → (false ≡ has r x) × ((IsTrue false → IsIn r x) × (IsIn r x → IsTrue false))
below r x lt = tests r x false (λ e. absurd (cc e)) (λ i. absurd (let e = i.4 in omega arith))

pub without_row : (r : Region) (x : ℕ) → r.count ≡ 0 → (false ≡ has r x) × ((IsTrue false → IsIn r x) × (IsIn r x → IsTrue false))
without_row r x e = tests r x false (λ f. absurd (cc f)) (λ i. absurd (let lt = i.2 in omega arith))

-- of numbers that were widened first
pub by_row : (r : Region) (x a stride run : ℕ) → r.base ≤ x → stride ≡ r.stride → run ≡ r.run → IsLastRow r (x - r.base) a
    → (nat_lt (x - r.base - a * stride) run ≡ has r x) × ((IsTrue (nat_lt (x - r.base - a * stride) run) → IsIn r x) × (IsIn r x → IsTrue (nat_lt (x - r.base - a * stride) run)))
by_row r x a stride run le es er l = rw (es, er) (tests r x (nat_lt (x - r.base - a * r.stride) r.run) (λ e. in_by_row r x a le l (ltb-true _ _ e)) (λ i. lt-ltb _ _ (row_of r x a le l i)))
