-- The lease that is computed of a path has the path's cells.
use Rattle.std.proofs.Common.{◌≡◌, ℕ, zero, suc, ◌+◌, ◌*◌, ◌/◌, ◌%◌, ◌<◌, ◌≤◌, nat_le, ℤ, pos, ◌+ℤ◌, ◌-ℤ◌, List, [], ◌∷◌, Option, Some, None, Bool, true, false, not, cond, refl, sym, ap, ◌∙◌, subst, true≢false, arith, leb-true, leb-false}
use Rattle.std.proofs.lemmas.Int.{ints}
use native.Mathlib.Nat.{add-mul, mul-le-mul_left, mul_comm, mul_assoc, mul-zero, mod-add-div, mod-lt}
use Rattle.ada_meaning.specs.Values.{between, to_nat, count}
use Rattle.ada_meaning.specs.Shapes.{Shape, Shapes, Single, Record, Dimension, NoShape, AlsoShape, size, FieldAt}
use Rattle.check_effects.specs.Effects.{Selector, At, Fixed, LoopIndex, ChunkIndex, Any}
use Rattle.check_effects.proofs.Coordinates.{back, near, spot, under_product}
use Rattle.stack_code.specs.declared.code.Lease as code
use Rattle.ada_lower.specs.Leases.{Place, All, Loop, ByChunk, InPlaces, Way, also, at_any, is_row, field_from, in_field, steps_of, way_of}
use Rattle.ada_lower.specs.Lending.{StepsTo}
use Rattle.ada_lower.proofs.LeaseRuns.{row_is}
use Rattle.ada_lower.specs.Leased.{IndexIs, InLease, LiesBy}

module _ (v ch : ℤ) where
  -- ---- places

  abbrev place_size : Place → ℕ
  place_size (All count size) = size
  place_size (Loop low count size) = size
  place_size (ByChunk low count size) = size

  -- it is that of the number
  abbrev PlaceIs : Place → ℕ → Type 0
  PlaceIs (All count size) i = i < count
  PlaceIs (Loop low count size) i = (i < count) × (v ≡ low +ℤ pos i)
  PlaceIs (ByChunk low count size) i = (i < count) × (ch ≡ low +ℤ pos i)

  first_place : (p : Place) (ps : List Place) (n o : ℕ) → InPlaces v ch (p ∷ ps) n o → (i : ℕ) × PlaceIs p i × InPlaces v ch ps (n + i * place_size p) o
  first_place (All count size) ps n o (i, lt, h) = (i, lt, h)
  first_place (Loop low count size) ps n o (i, lt, e, h) = (i, (lt, e), h)
  first_place (ByChunk low count size) ps n o (i, lt, e, h) = (i, (lt, e), h)

  with_first : (p : Place) (ps : List Place) (n o i : ℕ) → PlaceIs p i → InPlaces v ch ps (n + i * place_size p) o → InPlaces v ch (p ∷ ps) n o
  with_first (All count size) ps n o i lt h = (i, lt, h)
  with_first (Loop low count size) ps n o i (lt, e) h = (i, lt, e, h)
  with_first (ByChunk low count size) ps n o i (lt, e) h = (i, lt, e, h)

  swap : (n x y : ℕ) → n + x + y ≡ n + y + x
  swap n x y = omega arith

  places_up : (ps : List Place) (n x o : ℕ) → InPlaces v ch ps n o → InPlaces v ch ps (n + x) (o + x)
  places_up [] n x o e = ap (λ z. z + x) e
  places_up (p ∷ ps) n x o h =
      let (i, is, k) = first_place p ps n o h in
      with_first p ps (n + x) (o + x) i is (subst (λ z. InPlaces v ch ps z (o + x)) (swap n (i * place_size p) x) (places_up ps (n + i * place_size p) x o k))

  places_down : (ps : List Place) (n x o : ℕ) → InPlaces v ch ps (n + x) o → (q : ℕ) × (o ≡ q + x) × InPlaces v ch ps n q
  places_down [] n x o e = (n, e, refl)
  places_down (p ∷ ps) n x o h =
      let (i, is, k) = first_place p ps (n + x) o h in
      let (q, e, k') = places_down ps (n + i * place_size p) x o (subst (λ z. InPlaces v ch ps z o) (swap n x (i * place_size p)) k) in
      (q, e, with_first p ps n q i is k')

  -- ---- ways

  abbrev pub InWay : Way → ℕ → Type 0
  InWay w c = (o : ℕ) × (m : ℕ) × InPlaces v ch w.places w.base o × (m < w.run) × (c ≡ o + m)

  -- from so many cells on the way has those cells
  abbrev pub Tied : ℕ → (ℕ → Type 0) → Option Way → Type 0
  Tied b P None = (n : ℕ) → P n → ⊥
  Tied b P (Some w) = ((c : ℕ) → InWay w c → (n : ℕ) × (c ≡ b + n) × P n) × ((n : ℕ) → P n → InWay w (b + n))

  tied_by : (b d : ℕ) (P Q : ℕ → Type 0) (o : Option Way) → ((m : ℕ) → Q m → P (d + m)) → ((n : ℕ) → P n → (m : ℕ) × (n ≡ d + m) × Q m) → Tied (b + d) Q o → Tied b P o
  tied_by b d P Q None to from t = λ n p. let (m, e, q) = from n p in t m q
  tied_by b d P Q (Some w) to from t = (
    (λ c h. let (m, e, q) = t.0 c h in (d + m, (let z : b + d + m ≡ b + (d + m) = omega arith in e ∙ z), to m q)),
    (λ n p. let (m, e, q) = from n p in subst (λ z. InWay w z) (let z : b + d + m ≡ b + n = omega (arith, e) in z) (t.1 m q)),
  )

  tied_also : (p : Place) (b : ℕ) (P Q : ℕ → Type 0) (o : Option Way) → ((i m : ℕ) → PlaceIs p i → Q m → P (i * place_size p + m)) → ((n : ℕ) → P n → (i : ℕ) × (m : ℕ) × PlaceIs p i × (n ≡ i * place_size p + m) × Q m)
      → Tied b Q o → Tied b P (also p o)
  tied_also p b P Q None to from t = λ n h. let (i, m, is, e, q) = from n h in t m q
  tied_also p b P Q (Some w) to from t = (
    (λ c (o, m, h, lt, e).
        let (i, is, k) = first_place p w.places w.base o h in
        let (o', e', k') = places_down w.places w.base (i * place_size p) o k in
        let (n, e'', q) = t.0 (o' + m) (o', m, k', lt, refl) in
        let x : ℕ = i * place_size p in
        let f : o ≡ o' + x = e' in
        (i * place_size p + n, (let z : c ≡ b + (x + n) = omega (arith, e, f, e'') in z), to i n is q)),
    (λ n h.
        let (i, m, is, e, q) = from n h in
        let (o, r, k, lt, e') = t.1 m q in
        let x : ℕ = i * place_size p in
        let f : n ≡ x + m = e in
        (o + i * place_size p, r, with_first p w.places w.base (o + i * place_size p) i is (places_up w.places w.base (i * place_size p) o k), lt, (let z : b + n ≡ o + x + r = omega (arith, f, e') in z))),
  )

  -- ---- fields

  abbrev InFieldOf : Shapes → ℕ → (Shape → ℕ → Type 0) → ℕ → Type 0
  InFieldOf us k Q n = (offset : ℕ) × (m : ℕ) × (u : Shape) × FieldAt us k offset u × (n ≡ offset + m) × Q u m

  tied_field : (us : Shapes) (k b : ℕ) (K : ℕ → Shape → Option Way) (Q : Shape → ℕ → Type 0) → ((m : ℕ) (u : Shape) → Tied m (Q u) (K m u)) → Tied b (InFieldOf us k Q) (in_field (field_from b us k) K)
  tied_field NoShape k b K Q t = λ n (offset, m, u, f, e, q). f
  tied_field (AlsoShape u us) zero b K Q t =
      tied_by b 0 (InFieldOf (AlsoShape u us) zero Q) (Q u) (K b u) (λ m q. (0, m, u, (refl, refl), refl, q))
      (λ n (offset, m, u', f, e, q). let z = f.0 in (m, omega (arith, e, z), subst (λ u. Q u m) f.1 q))
      (subst (λ z. Tied z (Q u) (K b u)) (let z : b ≡ b + 0 = omega arith in z) (t b u))
  tied_field (AlsoShape u us) (suc k) b K Q t =
      tied_by b (size u) (InFieldOf (AlsoShape u us) (suc k) Q) (InFieldOf us k Q) (in_field (field_from (b + size u) us k) K)
      (λ n (offset, m, u', f, e, q). (size u + offset, m, u', (offset, refl, f), omega (arith, e), q))
      (λ n (offset, m, u', f, e, q). let z = f.1 in (f.0 + m, omega (arith, e, z), (f.0, m, u', f.2, refl, q)))
      (tied_field us k (b + size u) K Q t)

  -- ---- indexes

  abbrev InDimension : (low high : ℤ) → Shape → Selector → (ℕ → Type 0) → ℕ → Type 0
  InDimension low high u s Q n = (w : ℤ) × (m : ℕ) × (between low w high ≡ true) × IndexIs v ch s w × (n ≡ to_nat (w -ℤ low) * size u + m) × Q m

  -- the places of an index
  tied_index : (low high : ℤ) (u : Shape) (s : Selector) (p : Place) (b : ℕ) (Q : ℕ → Type 0) (o : Option Way) → place_size p ≡ size u
      → ((i : ℕ) → PlaceIs p i → (i < count low high) × IndexIs v ch s (low +ℤ pos i)) → ((w : ℤ) → between low w high ≡ true → IndexIs v ch s w → PlaceIs p (to_nat (w -ℤ low))) → Tied b Q o → Tied b (InDimension low high u s Q) (also p o)
  tied_index low high u s p b Q o same to from t = tied_also p b (InDimension low high u s Q) Q o
      (λ i m is q.
      let (lt, at) = to i is in
      (low +ℤ pos i, m, near low high i lt, at, ap (λ z. z + m) (ap (λ z. i * z) same ∙ ap (λ z. z * size u) (sym (ap to_nat (back low i)))), q))
      (λ n (w, m, between', at, e, q). (to_nat (w -ℤ low), m, from w between' at, e ∙ ap (λ z. to_nat (w -ℤ low) * z + m) (sym same), q)) t

  fixed : (low high : ℤ) (u : Shape) (i : ℤ) (b : ℕ) (Q : ℕ → Type 0) (o : Option Way) (z : Bool) → between low i high ≡ z → Tied (b + to_nat (i -ℤ low) * size u) Q o → Tied b (InDimension low high u (Fixed i) Q) (cond z o None)
  fixed low high u i b Q o true e t =
      tied_by b (to_nat (i -ℤ low) * size u) (InDimension low high u (Fixed i) Q) Q o (λ m q. (i, m, e, refl, refl, q))
      (λ n (w, m, between', at, f, q). (m, f ∙ ap (λ w. to_nat (w -ℤ low) * size u + m) at, q)) t
  fixed low high u i b Q o false e t = λ n (w, m, between', at, f, q). true≢false (sym between' ∙ ap (λ w. between low w high) at ∙ e)

  below : (low high w : ℤ) → between low w high ≡ true → to_nat (w -ℤ low) < count low high
  below low high w b = (spot low w high b).1

  is_spot : (low high w : ℤ) → between low w high ≡ true → w ≡ low +ℤ pos (to_nat (w -ℤ low))
  is_spot low high w b = (spot low w high b).0

  to_index : (low d x : ℤ) (i : ℕ) → x ≡ low -ℤ d +ℤ pos i → low +ℤ pos i ≡ x +ℤ d
  to_index low d x i e = omega (arith, ints, e)

  from_index : (low d x w : ℤ) (i : ℕ) → w ≡ low +ℤ pos i → w ≡ x +ℤ d → x ≡ low -ℤ d +ℤ pos i
  from_index low d x w i e f = omega (arith, ints, e, f)

  first_position : (j c : ℕ) → j % c + c * (j / c) ≡ j → j / c * c + j % c ≡ j
  first_position j c e = let z = mul_comm (j / c) c in omega (arith, e, z)

  positive : (j c places : ℕ) → j < places * c → 0 < c
  positive j zero places lt = let z : places * 0 ≡ 0 = mul-zero places in absurd (omega (arith, z, lt))
  positive j (suc c) places lt = omega arith

  quotient_below : (j c places : ℕ) → j < places * c → j % c + c * (j / c) ≡ j → j / c < places
  quotient_below j c places lt e = go (nat_le places (j / c)) refl
    where
      go : (b : Bool) → nat_le places (j / c) ≡ b → j / c < places
      go true f = let h : c * places ≤ c * (j / c) = mul-le-mul_left c (leb-true places (j / c) f) in let z = mul_comm c places in absurd (omega (arith, h, z, lt, e))
      go false f = leb-false places (j / c) f

  -- ---- any place

  -- the cells of places that lie side by side
  row_in : (base count size c : ℕ) → InWay (record { base = base; places = All count size ∷ []; run = size }) c → InWay (record { base = base; places = []; run = count * size }) c
  row_in base count size c (o, m, (i, lt, at), less, e) =
      let h = under_product i count size lt in
      (base, i * size + m, refl, omega (arith, h, less), omega (arith, e, at))

  in_row : (base count size c : ℕ) → InWay (record { base = base; places = []; run = count * size }) c → InWay (record { base = base; places = All count size ∷ []; run = size }) c
  in_row base count size c (o, m, at, lt, e) =
      let some : 0 < size = positive m size count lt in
      let i : ℕ = m / size in let k : ℕ = m % size in
      let split : k + size * i ≡ m = mod-add-div m size in
      let whole : i * size + k ≡ m = first_position m size split in
      let less : k < size = mod-lt m some in
      (base + i * size, k, (i, quotient_below m size count lt split, refl), less, omega (arith, e, at, whole))

  tied_row : (count size b : ℕ) (P : ℕ → Type 0) (w : Way) (z : Bool) → is_row size w ≡ z → Tied b P (also (All count size) (Some w)) → Tied b P (cond z (Some (record { base = w.base; places = []; run = count * size })) (also (All count size) (Some w)))
  tied_row count size b P w false e t = t
  tied_row count size b P w true e t =
      let is = row_is size w e in
      let same : w ≡ record { base = w.base; places = []; run = size } = ap (λ (ps : List Place). record { base = w.base; places = ps; run = w.run }) is.0 ∙ ap (λ (r : ℕ). record { base = w.base; places = []; run = r }) is.1 in
      let t' : Tied b P (also (All count size) (Some (record { base = w.base; places = []; run = size }))) = subst (λ (w : Way). Tied b P (also (All count size) (Some w))) same t in
      ((λ c h. t'.0 c (in_row w.base count size c h)), (λ n p. row_in w.base count size (b + n) (t'.1 n p)))

  tied_any : (low high : ℤ) (u : Shape) (b : ℕ) (Q : ℕ → Type 0) (o : Option Way) → Tied b Q o → Tied b (InDimension low high u Any Q) (at_any (count low high) (size u) o)
  tied_any low high u b Q o t = joins o (tied_index low high u Any (All (count low high) (size u)) b Q o refl (λ i is. (is, tt)) (λ w between' at. below low high w between') t)
    where
      joins : (o : Option Way) → Tied b (InDimension low high u Any Q) (also (All (count low high) (size u)) o) → Tied b (InDimension low high u Any Q) (at_any (count low high) (size u) o)
      joins None t = t
      joins (Some w) t = tied_row (count low high) (size u) b (InDimension low high u Any Q) w (is_row (size u) w) refl t

  with_none : (b : ℕ) (P : ℕ → Type 0) (o : Option Way) → Tied b P o → Tied b (λ n. Unit {0} × P n) o
  with_none b P None t = λ n p. t n p.1
  with_none b P (Some w) t = ((λ c h. let (n, e, p) = t.0 c h in (n, e, (tt, p))), (λ n p. t.1 n p.1))

  -- where a construct goes through a range or is a block
  pub way_tied : (t : Shape) (ss : List Selector) (b : ℕ) → Tied b (λ n. LiesBy false v ch None t ss n) (way_of true None t ss b)
  way_tied Single [] b = whole b 1
    where
      whole : (b r : ℕ) → Tied b (λ n. Unit {0} × (n < r)) (Some (record { base = b; places = []; run = r }))
      whole b r = ((λ c (o, m, h, lt, e). (m, e ∙ ap (λ z. z + m) h, (tt, lt))), (λ n p. (b, n, refl, p.1, refl)))
  way_tied (Record us) [] b = ((λ c (o, m, h, lt, e). (m, e ∙ ap (λ z. z + m) h, (tt, lt))), (λ n p. (b, n, refl, p.1, refl)))
  way_tied (Dimension low high u) [] b = ((λ c (o, m, h, lt, e). (m, e ∙ ap (λ z. z + m) h, (tt, lt))), (λ n p. (b, n, refl, p.1, refl)))
  way_tied Single (s ∷ ss) b = λ n h. h
  way_tied (Record us) (At k ∷ ss) b =
      with_none b (InFieldOf us k (λ u m. LiesBy false v ch None u ss m)) (in_field (field_from b us k) (λ m u. way_of true None u ss m))
      (tied_field us k b (λ m u. way_of true None u ss m) (λ u m. LiesBy false v ch None u ss m) (λ m u. way_tied u ss m))
  way_tied (Record us) (Fixed i ∷ ss) b = λ n h. h
  way_tied (Record us) (LoopIndex d ∷ ss) b = λ n h. h
  way_tied (Record us) (ChunkIndex d ∷ ss) b = λ n h. h
  way_tied (Record us) (Any ∷ ss) b = λ n h. h
  way_tied (Dimension low high u) (At k ∷ ss) b = λ n h. h
  way_tied (Dimension low high u) (Fixed i ∷ ss) b =
      with_none b (InDimension low high u (Fixed i) (λ m. LiesBy false v ch None u ss m)) (cond (between low i high) (way_of true None u ss (b + to_nat (i -ℤ low) * size u)) None)
      (fixed low high u i b (λ m. LiesBy false v ch None u ss m) (way_of true None u ss (b + to_nat (i -ℤ low) * size u)) (between low i high) refl (way_tied u ss (b + to_nat (i -ℤ low) * size u)))
  way_tied (Dimension low high u) (LoopIndex d ∷ ss) b =
      with_none b (InDimension low high u (LoopIndex d) (λ m. LiesBy false v ch None u ss m)) (also (Loop (low -ℤ d) (count low high) (size u)) (way_of true None u ss b))
      (tied_index low high u (LoopIndex d) (Loop (low -ℤ d) (count low high) (size u)) b (λ m. LiesBy false v ch None u ss m) (way_of true None u ss b) refl
      (λ i is. (is.0, to_index low d v i is.1)) (λ w between' at. (below low high w between', from_index low d v w (to_nat (w -ℤ low)) (is_spot low high w between') at)) (way_tied u ss b))
  way_tied (Dimension low high u) (ChunkIndex d ∷ ss) b =
      with_none b (InDimension low high u (ChunkIndex d) (λ m. LiesBy false v ch None u ss m)) (also (ByChunk (low -ℤ d) (count low high) (size u)) (way_of true None u ss b))
      (tied_index low high u (ChunkIndex d) (ByChunk (low -ℤ d) (count low high) (size u)) b (λ m. LiesBy false v ch None u ss m) (way_of true None u ss b) refl
      (λ i is. (is.0, to_index low d ch i is.1)) (λ w between' at. (below low high w between', from_index low d ch w (to_nat (w -ℤ low)) (is_spot low high w between') at)) (way_tied u ss b))
  way_tied (Dimension low high u) (Any ∷ ss) b =
      with_none b (InDimension low high u Any (λ m. LiesBy false v ch None u ss m)) (at_any (count low high) (size u) (way_of true None u ss b))
      (tied_any low high u b (λ m. LiesBy false v ch None u ss m) (way_of true None u ss b) (way_tied u ss b))

  -- ---- where a construct goes through an array: the indexes by its parameter are together a position

  -- beside the position the cells are those of the part
  abbrev AtPositions : (places : ℕ) → Shape → (ℕ → ℕ → Type 0) → ℕ → Type 0
  AtPositions places t P n = (i : ℕ) × (m : ℕ) × (i < places) × (n ≡ i * size t + m) × P i m

  tied_item : (places : ℕ) (t : Shape) (b : ℕ) (R : ℕ → Type 0) (o : Option Way) → Tied b R o → Tied b (AtPositions places t (λ i m. (v ≡ pos 1 +ℤ pos i) × R m)) (also (Loop (pos 1) places (size t)) o)
  tied_item places t b R o tied =
      tied_also (Loop (pos 1) places (size t)) b (AtPositions places t (λ i m. (v ≡ pos 1 +ℤ pos i) × R m)) R o (λ i m is r. (i, m, is.0, refl, (is.1, r))) (λ n (i, m, lt, e, at). (i, m, (lt, at.0), e, at.1)) tied

  -- a position in further dimensions
  position_below : (i c k places : ℕ) → i < places → k < c → i * c + k < places * c
  position_below i c k places lt less = let h = under_product i places c lt in omega (arith, h, less)

  position_cell : (i c k s m : ℕ) → i * (c * s) + (k * s + m) ≡ (i * c + k) * s + m
  position_cell i c k s m = let a = add-mul (i * c) k s in let b = mul_assoc i c s in omega (arith, a, b)

  -- a part's own cells
  plain : (b r : ℕ) → Tied b (λ m. m < r) (Some (record { base = b; places = []; run = r }))
  plain b r = ((λ c (o, m, h, lt, e). (m, e ∙ ap (λ z. z + m) h, lt)), (λ n p. (b, n, refl, p, refl)))

  mutual
    pub items_tied : (t : Shape) (ss : List Selector) (b : ℕ) → Tied b (λ n. LiesBy true v ch None t ss n) (way_of false None t ss b)
    items_tied Single [] b = ((λ c (o, m, h, lt, e). (m, e ∙ ap (λ z. z + m) h, (tt, lt))), (λ n p. (b, n, refl, p.1, refl)))
    items_tied (Record us) [] b = ((λ c (o, m, h, lt, e). (m, e ∙ ap (λ z. z + m) h, (tt, lt))), (λ n p. (b, n, refl, p.1, refl)))
    items_tied (Dimension low high u) [] b = ((λ c (o, m, h, lt, e). (m, e ∙ ap (λ z. z + m) h, (tt, lt))), (λ n p. (b, n, refl, p.1, refl)))
    items_tied Single (s ∷ ss) b = λ n h. h
    items_tied (Record us) (At k ∷ ss) b =
        with_none b (InFieldOf us k (λ u m. LiesBy true v ch None u ss m)) (in_field (field_from b us k) (λ m u. way_of false None u ss m))
        (tied_field us k b (λ m u. way_of false None u ss m) (λ u m. LiesBy true v ch None u ss m) (λ m u. items_tied u ss m))
    items_tied (Record us) (Fixed i ∷ ss) b = λ n h. h
    items_tied (Record us) (LoopIndex d ∷ ss) b = λ n h. h
    items_tied (Record us) (ChunkIndex d ∷ ss) b = λ n h. h
    items_tied (Record us) (Any ∷ ss) b = λ n h. h
    items_tied (Dimension low high u) (At k ∷ ss) b = λ n h. h
    items_tied (Dimension low high u) (Fixed i ∷ ss) b =
        with_none b (InDimension low high u (Fixed i) (λ m. LiesBy true v ch None u ss m)) (cond (between low i high) (way_of false None u ss (b + to_nat (i -ℤ low) * size u)) None)
        (fixed low high u i b (λ m. LiesBy true v ch None u ss m) (way_of false None u ss (b + to_nat (i -ℤ low) * size u)) (between low i high) refl (items_tied u ss (b + to_nat (i -ℤ low) * size u)))
    items_tied (Dimension low high u) (LoopIndex d ∷ ss) b =
        tied_by b 0 (λ n. LiesBy true v ch None (Dimension low high u) (LoopIndex d ∷ ss) n) (AtPositions (count low high) u (λ i m. LiesBy true v ch (Some i) u ss m)) (way_of false (Some (count low high)) u ss b)
        (λ n (i, m, lt, e, h). let far : to_nat (low +ℤ pos i -ℤ low) ≡ i = ap to_nat (back low i) in (low +ℤ pos i, m, near low high i lt, (let z : 0 + n ≡ n = omega arith in z ∙ e ∙ ap (λ k. k * size u + m) (sym far)), subst (λ k. LiesBy true v ch (Some k) u ss m) (sym far) h))
        (λ n (w, m, between', e, h). (n, (let z : n ≡ 0 + n = omega arith in z), (to_nat (w -ℤ low), m, below low high w between', e, h)))
        (subst (λ z. Tied z (AtPositions (count low high) u (λ i m. LiesBy true v ch (Some i) u ss m)) (way_of false (Some (count low high)) u ss b)) (let z : b ≡ b + 0 = omega arith in z) (positions_tied (count low high) u ss b))
    items_tied (Dimension low high u) (ChunkIndex d ∷ ss) b =
        with_none b (InDimension low high u (ChunkIndex d) (λ m. LiesBy true v ch None u ss m)) (also (ByChunk (low -ℤ d) (count low high) (size u)) (way_of false None u ss b))
        (tied_index low high u (ChunkIndex d) (ByChunk (low -ℤ d) (count low high) (size u)) b (λ m. LiesBy true v ch None u ss m) (way_of false None u ss b) refl
        (λ i is. (is.0, to_index low d ch i is.1)) (λ w between' at. (below low high w between', from_index low d ch w (to_nat (w -ℤ low)) (is_spot low high w between') at)) (items_tied u ss b))
    items_tied (Dimension low high u) (Any ∷ ss) b =
        with_none b (InDimension low high u Any (λ m. LiesBy true v ch None u ss m)) (at_any (count low high) (size u) (way_of false None u ss b))
        (tied_any low high u b (λ m. LiesBy true v ch None u ss m) (way_of false None u ss b) (items_tied u ss b))

    -- so many positions along
    positions_tied : (places : ℕ) (t : Shape) (ss : List Selector) (b : ℕ) → Tied b (AtPositions places t (λ i m. LiesBy true v ch (Some i) t ss m)) (way_of false (Some places) t ss b)
    positions_tied places Single [] b = tied_item places Single b (λ m. m < 1) (Some (record { base = b; places = []; run = 1 })) (plain b 1)
    positions_tied places (Record us) [] b = tied_item places (Record us) b (λ m. m < size (Record us)) (Some (record { base = b; places = []; run = size (Record us) })) (plain b (size (Record us)))
    positions_tied places (Dimension low high u) [] b = tied_item places (Dimension low high u) b (λ m. m < size (Dimension low high u)) (Some (record { base = b; places = []; run = size (Dimension low high u) })) (plain b (size (Dimension low high u)))
    positions_tied places Single (s ∷ ss) b = λ n (i, m, lt, e, h). h
    positions_tied places (Record us) (At k ∷ ss) b =
        tied_item places (Record us) b (InFieldOf us k (λ u m. LiesBy true v ch None u ss m)) (in_field (field_from b us k) (λ m u. way_of false None u ss m))
        (tied_field us k b (λ m u. way_of false None u ss m) (λ u m. LiesBy true v ch None u ss m) (λ m u. items_tied u ss m))
    positions_tied places (Record us) (Fixed i ∷ ss) b = λ n (j, m, lt, e, h). h
    positions_tied places (Record us) (LoopIndex d ∷ ss) b = λ n (j, m, lt, e, h). h
    positions_tied places (Record us) (ChunkIndex d ∷ ss) b = λ n (j, m, lt, e, h). h
    positions_tied places (Record us) (Any ∷ ss) b = λ n (j, m, lt, e, h). h
    positions_tied places (Dimension low high u) (At k ∷ ss) b = λ n (j, m, lt, e, h). h
    positions_tied places (Dimension low high u) (Fixed i ∷ ss) b =
        tied_item places (Dimension low high u) b (InDimension low high u (Fixed i) (λ m. LiesBy true v ch None u ss m)) (cond (between low i high) (way_of false None u ss (b + to_nat (i -ℤ low) * size u)) None)
        (fixed low high u i b (λ m. LiesBy true v ch None u ss m) (way_of false None u ss (b + to_nat (i -ℤ low) * size u)) (between low i high) refl (items_tied u ss (b + to_nat (i -ℤ low) * size u)))
    positions_tied places (Dimension low high u) (LoopIndex d ∷ ss) b =
        tied_by b 0 (AtPositions places (Dimension low high u) (λ i m. LiesBy true v ch (Some i) (Dimension low high u) (LoopIndex d ∷ ss) m)) (AtPositions (places * count low high) u (λ i m. LiesBy true v ch (Some i) u ss m)) (way_of false (Some (places * count low high)) u ss b)
        (λ n (j, m, lt, e, h). one_way n j m lt e h) (λ n (i, r, lt, e, h). other_way n i r lt e h)
        (subst (λ z. Tied z (AtPositions (places * count low high) u (λ i m. LiesBy true v ch (Some i) u ss m)) (way_of false (Some (places * count low high)) u ss b)) (let z : b ≡ b + 0 = omega arith in z) (positions_tied (places * count low high) u ss b))
      where
        one_way : (n j m : ℕ) → j < places * count low high → n ≡ j * size u + m → LiesBy true v ch (Some j) u ss m → AtPositions places (Dimension low high u) (λ i m. LiesBy true v ch (Some i) (Dimension low high u) (LoopIndex d ∷ ss) m) (0 + n)
        one_way n j m lt e h =
            let c : ℕ = count low high in
            let some : 0 < c = positive j c places lt in
            let i : ℕ = j / c in let k : ℕ = j % c in
            let split : k + c * i ≡ j = mod-add-div j c in
            let whole : i * c + k ≡ j = first_position j c split in
            let less : k < c = mod-lt j some in
            let far : to_nat (low +ℤ pos k -ℤ low) ≡ k = ap to_nat (back low k) in
            let cell : n ≡ i * (c * size u) + (k * size u + m) = e ∙ ap (λ z. z * size u + m) (sym whole) ∙ sym (position_cell i c k (size u) m) in (
              i,
              k * size u + m,
              quotient_below j c places lt split,
              (let z : 0 + n ≡ n = omega arith in z ∙ cell),
              (low +ℤ pos k, m, near low high k less, ap (λ z. z * size u + m) (sym far), subst (λ z. LiesBy true v ch (Some z) u ss m) (sym (ap (λ z. i * c + z) far ∙ whole)) h),
            )

        other_way : (n i r : ℕ) → i < places → n ≡ i * size (Dimension low high u) + r → LiesBy true v ch (Some i) (Dimension low high u) (LoopIndex d ∷ ss) r → (q : ℕ) × (n ≡ 0 + q) × AtPositions (places * count low high) u (λ i m. LiesBy true v ch (Some i) u ss m) q
        other_way n i r lt e (w, m, between', f, h) =
            let c : ℕ = count low high in
            let k : ℕ = to_nat (w -ℤ low) in (
              n,
              (let z : n ≡ 0 + n = omega arith in z),
              (i * c + k, m, position_below i c k places lt (below low high w between'), e ∙ ap (λ z. i * (c * size u) + z) f ∙ position_cell i c k (size u) m, h),
            )
    positions_tied places (Dimension low high u) (ChunkIndex d ∷ ss) b =
        tied_item places (Dimension low high u) b (InDimension low high u (ChunkIndex d) (λ m. LiesBy true v ch None u ss m)) (also (ByChunk (low -ℤ d) (count low high) (size u)) (way_of false None u ss b))
        (tied_index low high u (ChunkIndex d) (ByChunk (low -ℤ d) (count low high) (size u)) b (λ m. LiesBy true v ch None u ss m) (way_of false None u ss b) refl
        (λ i is. (is.0, to_index low d ch i is.1)) (λ w between' at. (below low high w between', from_index low d ch w (to_nat (w -ℤ low)) (is_spot low high w between') at)) (items_tied u ss b))
    positions_tied places (Dimension low high u) (Any ∷ ss) b =
        tied_item places (Dimension low high u) b (InDimension low high u Any (λ m. LiesBy true v ch None u ss m)) (at_any (count low high) (size u) (way_of false None u ss b))
        (tied_any low high u b (λ m. LiesBy true v ch None u ss m) (way_of false None u ss b) (items_tied u ss b))

  -- where it goes through either
  pub either_tied : (items : Bool) (t : Shape) (ss : List Selector) (b : ℕ) → Tied b (λ n. LiesBy items v ch None t ss n) (way_of (not items) None t ss b)
  either_tied true t ss b = items_tied t ss b
  either_tied false t ss b = way_tied t ss b

  -- ---- the lease of a way, from a cell of a frame on

  steps_in : (ps : List Place) (n o : ℕ) → StepsTo v ch (steps_of ps) n o → InPlaces v ch ps n o
  steps_in [] n o h = h
  steps_in (All count size ∷ ps) n o (i, lt, h) = (i, lt, steps_in ps (n + i * size) o h)
  steps_in (Loop low count size ∷ ps) n o (i, lt, e, h) = (i, lt, e, steps_in ps (n + i * size) o h)
  steps_in (ByChunk low count size ∷ ps) n o (i, lt, e, h) = (i, lt, e, steps_in ps (n + i * size) o h)

  in_steps : (ps : List Place) (n o : ℕ) → InPlaces v ch ps n o → StepsTo v ch (steps_of ps) n o
  in_steps [] n o h = h
  in_steps (All count size ∷ ps) n o (i, lt, h) = (i, lt, in_steps ps (n + i * size) o h)
  in_steps (Loop low count size ∷ ps) n o (i, lt, e, h) = (i, lt, e, in_steps ps (n + i * size) o h)
  in_steps (ByChunk low count size ∷ ps) n o (i, lt, e, h) = (i, lt, e, in_steps ps (n + i * size) o h)

  turned : (a b : ℕ) → a + b ≡ b + a
  turned a b = omega arith

  pub lease_in : (l : code.Lease) (cell : ℕ) (w : Way) → l.base ≡ cell + w.base → l.steps ≡ steps_of w.places → l.run ≡ w.run → (c : ℕ) → InLease v ch l c → (c' : ℕ) × (c ≡ cell + c') × InWay w c'
  lease_in l cell w base steps run c (o, m, h, lt, e) =
      let h1 : StepsTo v ch (steps_of w.places) (w.base + cell) o = subst (λ b. StepsTo v ch (steps_of w.places) b o) (base ∙ turned cell w.base) (subst (λ ss. StepsTo v ch ss l.base o) steps h) in
      let (o', e', k) = places_down w.places w.base cell o (steps_in w.places (w.base + cell) o h1) in
      (o' + m, omega (arith, e, e'), (o', m, k, subst (λ r. m < r) run lt, refl))

  pub in_lease : (l : code.Lease) (cell : ℕ) (w : Way) → l.base ≡ cell + w.base → l.steps ≡ steps_of w.places → l.run ≡ w.run → (c : ℕ) → InWay w c → InLease v ch l (cell + c)
  in_lease l cell w base steps run c (o, m, k, lt, e) =
      let h : StepsTo v ch l.steps l.base (o + cell) =
      subst (λ ss. StepsTo v ch ss l.base (o + cell)) (sym steps) (subst (λ b. StepsTo v ch (steps_of w.places) b (o + cell)) (sym (base ∙ turned cell w.base)) (in_steps w.places (w.base + cell) (o + cell) (places_up w.places w.base cell o k))) in
      (o + cell, m, h, subst (λ r. m < r) (sym run) lt, omega (arith, e))
