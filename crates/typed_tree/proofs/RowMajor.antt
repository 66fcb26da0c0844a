-- Components of an array stand in row-major order (3.6.2).
use Rattle.std.specs.Prelude.{◌≡◌, ℕ, ◌+◌, ◌*◌, ◌<◌, ℤ, pos, negsuc, ◌+ℤ◌, ◌-ℤ◌, ◌<ℤ◌, ◌≤ℤ◌, List, [], ◌∷◌}
use Rattle.std.proofs.Common.{refl, ap, ap₂, arith, inl, inr}
use Rattle.std.proofs.lemmas.Int.{ints}
use Rattle.std.proofs.lemmas.Nat.{mul-add-lt}
use Rattle.typed_tree.specs.declared.program.Bounds.{Bounds}
use Rattle.typed_tree.specs.Layout.{to_nat, count, components, AreIndexes, place, Precede}
use Rattle.typed_tree.specs.Laws.{RowMajorLaw}

natural : (z : ℤ) → pos 0 ≤ℤ z → pos (to_nat z) ≡ z
natural (pos n) h = refl
natural (negsuc n) h = absurd (omega (arith, ints, h))

position : (low i : ℤ) → low ≤ℤ i → pos (to_nat (i -ℤ low)) ≡ i -ℤ low
position low i h = natural (i -ℤ low) (omega (arith, ints, h))

position_less : (low i j : ℤ) → low ≤ℤ i → i <ℤ j → to_nat (i -ℤ low) < to_nat (j -ℤ low)
position_less low i j h k = omega (arith, ints, position low i h, position low j (omega (arith, ints, h, k)), k)

position_within : (low i high : ℤ) → low ≤ℤ i → i ≤ℤ high → to_nat (i -ℤ low) < to_nat (high +ℤ pos 1 -ℤ low)
position_within low i high h k = position_less low i (high +ℤ pos 1) h (omega (arith, ints, k))

position_same : (low i j : ℤ) → low ≤ℤ i → low ≤ℤ j → to_nat (i -ℤ low) ≡ to_nat (j -ℤ low) → i ≡ j
position_same low i j h k e = omega (arith, ints, position low i h, position low j k, e)

within : (bs : List Bounds) (is : List ℤ) → AreIndexes bs is → place bs is < components bs
within [] is h = omega arith
within (b ∷ bs) [] h = absurd h
within (b ∷ bs) (i ∷ is) h =
    omega (arith, mul-add-lt (to_nat (i -ℤ b.low)) (components bs) (place bs is) (count b) (position_within b.low i b.high h.0 h.1) (within bs is h.2))

-- a component of a row before another row
rows : (p q c r s : ℕ) → p < q → r < c → p * c + r < q * c + s
rows p q c r s h k = omega (arith, mul-add-lt p c r q h k)

order : (bs : List Bounds) (is js : List ℤ) → AreIndexes bs is → AreIndexes bs js → Precede is js → place bs is < place bs js
order [] [] js h k p = absurd p
order [] (i ∷ is) js h k p = absurd h
order (b ∷ bs) [] js h k p = absurd h
order (b ∷ bs) (i ∷ is) [] h k p = absurd k
order (b ∷ bs) (i ∷ is) (j ∷ js) h k (inl lt) = rows _ _ (components bs) (place bs is) (place bs js) (position_less b.low i j h.0 lt) (within bs is h.2)
order (b ∷ bs) (i ∷ is) (j ∷ js) h k (inr (e, p)) =
    omega (arith, order bs is js h.2 k.2 p, ap (λ x. to_nat (x -ℤ b.low) * components bs) e)

-- two components of one place have one row
same_row : (p q c r s : ℕ) → r < c → s < c → p * c + r ≡ q * c + s → p ≡ q
same_row p q c r s h k e =
    let not_before : p < q → ⊥ = λ lt. omega (arith, rows p q c r s lt h, e) in
    let not_after : q < p → ⊥ = λ lt. omega (arith, rows q p c s r lt k, e) in
    omega (arith, not_before, not_after)

apart : (bs : List Bounds) (is js : List ℤ) → AreIndexes bs is → AreIndexes bs js → place bs is ≡ place bs js → is ≡ js
apart [] [] [] h k e = refl
apart [] [] (j ∷ js) h k e = absurd k
apart [] (i ∷ is) js h k e = absurd h
apart (b ∷ bs) [] js h k e = absurd h
apart (b ∷ bs) (i ∷ is) [] h k e = absurd k
apart (b ∷ bs) (i ∷ is) (j ∷ js) h k e =
    let row = same_row (to_nat (i -ℤ b.low)) (to_nat (j -ℤ b.low)) (components bs) (place bs is) (place bs js) (within bs is h.2) (within bs js k.2) e in
    let rest : place bs is ≡ place bs js = omega (arith, e, ap (λ p. p * components bs) row) in
    ap₂ (λ x xs. x ∷ xs) (position_same b.low i j h.0 k.0 row) (apart bs is js h.2 k.2 rest)

pub row_major : RowMajorLaw
row_major = record { within = within; order = order; apart = apart }
