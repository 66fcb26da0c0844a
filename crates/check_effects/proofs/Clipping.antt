-- One run of indexes.
use Rattle.std.proofs.Common.{◌≡◌, ℕ, suc, ◌+◌, ◌-◌, ◌<◌, ◌≤◌, ℤ, pos, negsuc, ◌+ℤ◌, ◌-ℤ◌, int_le, Bool, true, false, ◌&&◌, refl, sym, ap, subst, ◌∙◌, true≢false, arith}
use Rattle.std.proofs.lemmas.Int.{ints, clamps}
use Rattle.std.specs.Int.{int_min, int_max}
use Rattle.ada_meaning.specs.Values.{between, to_nat, count}
use Rattle.check_effects.specs.Clipped.{first_reached, last_reached, reached, ClipLaw}

-- as numbers
both : (a b : Bool) → (a && b) ≡ true → (a ≡ true) × (b ≡ true)
both true b e = (refl, e)
both false b e = absurd (true≢false (sym e))

joined : (a b : Bool) → a ≡ true → b ≡ true → (a && b) ≡ true
joined true b e f = f
joined false b e f = absurd (true≢false (sym e))

below : (a b : ℤ) (k : ℕ) → int_le a b ≡ true → (k' : ℕ) × (b ≡ a +ℤ pos k')
below a b k e = go (b -ℤ a) refl
  where
    go : (d : ℤ) → b -ℤ a ≡ d → (k' : ℕ) × (b ≡ a +ℤ pos k')
    go (pos n) f = (n, omega (arith, ints))
    go (negsuc n) f = absurd (grind (arith, ints))

at_least : (a : ℤ) (k : ℕ) → int_le a (a +ℤ pos k) ≡ true
at_least a k = grind (arith, ints)

-- how many there are from one to another
of_count : (a b : ℤ) (k : ℕ) → k < count a b → (j : ℕ) × (b ≡ (a +ℤ pos k) +ℤ pos j)
of_count a b k h = go (b +ℤ pos 1 -ℤ a) refl
  where
    go : (d : ℤ) → b +ℤ pos 1 -ℤ a ≡ d → (j : ℕ) × (b ≡ (a +ℤ pos k) +ℤ pos j)
    go (pos n) e = let l : k < n = subst (λ z. k < to_nat z) e h in (n - suc k, omega (arith, ints))
    go (negsuc n) e = let l : k < 0 = subst (λ z. k < to_nat z) e h in absurd (omega arith)

to_count : (a b : ℤ) (k j : ℕ) → b ≡ (a +ℤ pos k) +ℤ pos j → k < count a b
to_count a b k j e = subst (λ z. k < to_nat z) (sym there) (omega arith)
  where
    there : b +ℤ pos 1 -ℤ a ≡ pos (suc (k + j))
    there = omega (arith, ints)

pub clip_law : ClipLaw
clip_law low high distance start v size = (forth, back)
  where
    forth : between low v high ≡ true → (i : ℕ) → i < size → v ≡ (start +ℤ pos i) +ℤ distance → (k : ℕ) × (k < reached low high distance start size) × (v ≡ first_reached low distance start +ℤ pos k)
    forth e i h f =
        let p = both (int_le low v) (int_le v high) e in
        let x = below low v 0 p.0 in let y = below v high 0 p.1 in
        let xe = x.1 in let ye = y.1 in
        let a = first_reached low distance start in let z = last_reached high distance start size in
        let m : (k : ℕ) × (v ≡ a +ℤ pos k) = below a v 0 (grind (arith, ints, clamps)) in
        let n : (j : ℕ) × (z ≡ v +ℤ pos j) = below v z 0 (grind (arith, ints, clamps)) in
        let me = m.1 in let ne = n.1 in
        (m.0, to_count a z m.0 n.0 (ne ∙ ap (λ w. w +ℤ pos n.0) me), m.1)

    back : (k : ℕ) → k < reached low high distance start size → v ≡ first_reached low distance start +ℤ pos k → (between low v high ≡ true) × ((i : ℕ) × (i < size) × (v ≡ (start +ℤ pos i) +ℤ distance))
    back k h f =
        let a = first_reached low distance start in let z = last_reached high distance start size in
        let j = of_count a z k h in let je = j.1 in
        let one : int_le low v ≡ true = grind (arith, ints, clamps) in
        let two : int_le v high ≡ true = grind (arith, ints, clamps) in
        let i = below (start +ℤ distance) v 0 (grind (arith, ints, clamps)) in let ie = i.1 in
        (joined (int_le low v) (int_le v high) one two, (i.0, omega (arith, ints, clamps), omega (arith, ints)))
