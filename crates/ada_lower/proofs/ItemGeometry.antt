-- Where a construct goes through an array, the cells of a path are those at the item's position.
use Rattle.std.proofs.Common.{◌≡◌, ℕ, zero, suc, ◌+◌, ◌*◌, ◌/◌, ◌%◌, ◌<◌, ◌≤◌, nat_le, ℤ, pos, ◌+ℤ◌, ◌-ℤ◌, List, [], ◌∷◌, ◌++◌, replicate, inl, inr, ⊎_elim, Option, Some, None, Bool, true, false, refl, sym, ap, ◌∙◌, subst, arith, true≢false, leb-true, leb-false}
use native.Mathlib.Nat.{add-mul, mul-le-mul_left, mul_comm, mul_assoc, mul-one, mul-zero, mod-add-div, mod-lt}
use Rattle.behaviours.specs.Joins.{Now}
use Rattle.ada_meaning.specs.Values.{between, to_nat, count}
use Rattle.ada_meaning.specs.Shapes.{Shape, Single, Record, Dimension, size, ComponentAt}
use Rattle.check_effects.specs.Effects.{Selector, At, Fixed, LoopIndex, ChunkIndex, Any, Step, FieldStep, IndexStep, ItemStep, Named}
use Rattle.check_effects.specs.Conflicts.{Fits, Follows, Leads, SomeDiffer, path}
use Rattle.check_effects.specs.Covered.{Items}
use Rattle.check_effects.proofs.Coordinates.{HasLoop, LeadsIn, back, component_size, converts, digits_same, enters_item, fields_same, in_shape, loop_somewhere, near, unlike}
use Rattle.check_effects.proofs.ItemPaths.{ByItem, NotLoop, Plain, path_append, plain_path}
use Rattle.ada_lower.specs.Leased.{IsPosition, LiesBy, inner}

-- where the loop has no value
abbrev pub nowhere : ℤ → Now
nowhere ch = record { loop = None; chunk = ch; first = 0; size = 0 }

-- ---- cells at a position, whatever that is

pub loose_by : (v ch : ℤ) (along : Option ℕ) (t : Shape) (ss : List Selector) (n : ℕ) → LiesBy true v ch along t ss n → LeadsIn (nowhere ch) t ss n
loose_by v ch along t [] n h = h.1
loose_by v ch along Single (s ∷ ss) n h = absurd h
loose_by v ch along (Record us) (At k ∷ ss) n (z, (offset, m, u, f, e, h)) = (offset, m, u, f, e, loose_by v ch None u ss m h)
loose_by v ch along (Record us) (Fixed i ∷ ss) n h = absurd h
loose_by v ch along (Record us) (LoopIndex d ∷ ss) n h = absurd h
loose_by v ch along (Record us) (ChunkIndex d ∷ ss) n h = absurd h
loose_by v ch along (Record us) (Any ∷ ss) n h = absurd h
loose_by v ch along (Dimension low high u) (At k ∷ ss) n h = absurd h
loose_by v ch along (Dimension low high u) (Fixed i ∷ ss) n (z, (w, m, b, f, e, h)) = (w, m, b, f, e, loose_by v ch None u ss m h)
loose_by v ch along (Dimension low high u) (LoopIndex d ∷ ss) n (w, m, b, e, h) = (w, m, b, tt, e, loose_by v ch (Some (inner along (count low high) (to_nat (w -ℤ low)))) u ss m h)
loose_by v ch along (Dimension low high u) (ChunkIndex d ∷ ss) n (z, (w, m, b, f, e, h)) = (w, m, b, f, e, loose_by v ch None u ss m h)
loose_by v ch along (Dimension low high u) (Any ∷ ss) n (z, (w, m, b, f, e, h)) = (w, m, b, tt, e, loose_by v ch None u ss m h)

pub small_by : (v ch : ℤ) (along : Option ℕ) (t : Shape) (ss : List Selector) (n : ℕ) → LiesBy true v ch along t ss n → n < size t
small_by v ch along t ss n h = in_shape (nowhere ch) t ss n (loose_by v ch along t ss n h)

-- behind the item's dimensions it is at its position
closed : (v ch : ℤ) (along : Option ℕ) → IsPosition along v → (t : Shape) (ss : List Selector) (n : ℕ) → (HasLoop ss → ⊥) → LiesBy true v ch None t ss n → LiesBy true v ch along t ss n
closed v ch along p t [] n un h = (p, h.1)
closed v ch along p Single (s ∷ ss) n un h = absurd h
closed v ch along p (Record us) (At k ∷ ss) n un h = (p, h.1)
closed v ch along p (Record us) (Fixed i ∷ ss) n un h = absurd h
closed v ch along p (Record us) (LoopIndex d ∷ ss) n un h = absurd h
closed v ch along p (Record us) (ChunkIndex d ∷ ss) n un h = absurd h
closed v ch along p (Record us) (Any ∷ ss) n un h = absurd h
closed v ch along p (Dimension low high u) (At k ∷ ss) n un h = absurd h
closed v ch along p (Dimension low high u) (Fixed i ∷ ss) n un h = (p, h.1)
closed v ch along p (Dimension low high u) (LoopIndex d ∷ ss) n un h = absurd (un tt)
closed v ch along p (Dimension low high u) (ChunkIndex d ∷ ss) n un h = (p, h.1)
closed v ch along p (Dimension low high u) (Any ∷ ss) n un h = (p, h.1)

positioned : (v ch : ℤ) (along : Option ℕ) (t : Shape) (ss : List Selector) (n : ℕ) → (HasLoop ss → ⊥) → LiesBy true v ch along t ss n → IsPosition along v
positioned v ch along t [] n un h = h.0
positioned v ch along Single (s ∷ ss) n un h = absurd h
positioned v ch along (Record us) (At k ∷ ss) n un h = h.0
positioned v ch along (Record us) (Fixed i ∷ ss) n un h = absurd h
positioned v ch along (Record us) (LoopIndex d ∷ ss) n un h = absurd h
positioned v ch along (Record us) (ChunkIndex d ∷ ss) n un h = absurd h
positioned v ch along (Record us) (Any ∷ ss) n un h = absurd h
positioned v ch along (Dimension low high u) (At k ∷ ss) n un h = absurd h
positioned v ch along (Dimension low high u) (Fixed i ∷ ss) n un h = h.0
positioned v ch along (Dimension low high u) (LoopIndex d ∷ ss) n un h = absurd (un tt)
positioned v ch along (Dimension low high u) (ChunkIndex d ∷ ss) n un h = h.0
positioned v ch along (Dimension low high u) (Any ∷ ss) n un h = h.0

-- ---- the component of a number

-- the number in the first dimension, and in those below
record Digits (c more i : ℕ) : Type 0 where
  first : ℕ
  rest : ℕ
  below : first < c
  less : rest < more
  whole : i ≡ first * more + rest

digits : (c more i : ℕ) → i < c * more → Digits c more i
digits c more i lt =
    let some : 0 < more = positive more lt in
    let split : i % more + more * (i / more) ≡ i = mod-add-div i more in
    record { first = i / more; rest = i % more; below = quotient (i / more) (i % more) split lt; less = mod-lt i some; whole = (let z = mul_comm more (i / more) in omega (arith, z, split)) }
  where
    positive : (more : ℕ) → i < c * more → 0 < more
    positive zero lt = let z : c * 0 ≡ 0 = mul-zero c in absurd (omega (arith, z, lt))
    positive (suc more) lt = omega arith

    quotient : (q r : ℕ) → r + more * q ≡ i → i < c * more → q < c
    quotient q r split lt = go (nat_le c q) refl
      where
        go : (b : Bool) → nat_le c q ≡ b → q < c
        go true f = let h : more * c ≤ more * q = mul-le-mul_left more (leb-true c q f) in let z = mul_comm more c in absurd (omega (arith, h, z, split, lt))
        go false f = leb-false c q f

none_left : (i c m n : ℕ) → n ≡ 1 → i < n → m ≡ i * c + m
none_left i c m n e lt = let none : i ≡ 0 = omega (arith, e, lt) in let z : i * c ≡ 0 * c = ap (λ z. z * c) none in omega (arith, z)

cell_is : (i q r more s sw m far : ℕ) → i ≡ q * more + r → sw ≡ more * s → far ≡ q → i * s + m ≡ far * sw + (r * s + m)
cell_is i q r more s sw m far whole cells e =
    let a : i * s ≡ (q * more + r) * s = ap (λ z. z * s) whole in
    let b = add-mul (q * more) r s in let c = mul_assoc q more s in
    let g : far * sw ≡ q * (more * s) = ap (λ z. z * sw) e ∙ ap (λ z. q * z) cells in
    omega (arith, a, b, c, g)

position_is : (along : Option ℕ) (n c more i q r far : ℕ) → n ≡ c * more → i ≡ q * more + r → far ≡ q → inner along n i ≡ inner along c far * more + r
position_is None n c more i q r far e whole f = whole ∙ ap (λ z. z * more + r) (sym f)
position_is (Some k) n c more i q r far e whole f =
    let a : k * n ≡ k * (c * more) = ap (λ z. k * z) e in let b = mul_assoc k c more in let g = add-mul (k * c) q more in
    let h : (k * c + far) * more ≡ (k * c + q) * more = ap (λ z. (k * c + z) * more) f in
    omega (arith, a, b, g, h, whole)

module _ (v ch : ℤ) where
  -- any component
  any_by : (t : Shape) (d n : ℕ) (u : Shape) → ComponentAt t d n u → (ss : List Selector) (i m : ℕ) → i < n → LiesBy true v ch None u ss m → LiesBy true v ch None t (replicate d Any ++ ss) (i * size u + m)
  any_by t zero n u h ss i m lt k = subst (λ w. LiesBy true v ch None w ss (i * size u + m)) h.1 (subst (λ z. LiesBy true v ch None u ss z) (none_left i (size u) m n h.0 lt) k)
  any_by Single (suc d) n u h ss i m lt k = absurd h
  any_by (Record us) (suc d) n u h ss i m lt k = absurd h
  any_by (Dimension low high w) (suc d) n u (more, e, h) ss i m lt k =
      let g = digits (count low high) more i (subst (λ z. i < z) e lt) in
      let far : to_nat (low +ℤ pos g.first -ℤ low) ≡ g.first = ap to_nat (back low g.first) in
      (tt, (low +ℤ pos g.first, g.rest * size u + m, near low high g.first g.below, tt, cell_is i g.first g.rest more (size u) (size w) m (to_nat (low +ℤ pos g.first -ℤ low)) g.whole (component_size w d more u h) far, any_by w d more u h ss g.rest m g.less k))

  -- that at the position
  item_by : (along : Option ℕ) (t : Shape) (d n : ℕ) (u : Shape) → ComponentAt t d n u → (ss : List Selector) (i m : ℕ) → i < n → (HasLoop ss → ⊥) → IsPosition (Some (inner along n i)) v → LiesBy true v ch None u ss m
      → LiesBy true v ch along t (replicate d (LoopIndex (pos 0)) ++ ss) (i * size u + m)
  item_by along t zero n u h ss i m lt un at k =
      subst (λ w. LiesBy true v ch along w ss (i * size u + m)) h.1 (subst (λ z. LiesBy true v ch along u ss z) (none_left i (size u) m n h.0 lt) (closed v ch along (at_end along at) u ss m un k))
    where
      at_end : (along : Option ℕ) → IsPosition (Some (inner along n i)) v → IsPosition along v
      at_end None at = tt
      at_end (Some j) at = let e : j * n ≡ j * 1 = ap (λ z. j * z) h.0 in let o = mul-one j in let z : j * n + i ≡ j = (let one : n ≡ 1 = h.0 in omega (arith, e, o, lt, one)) in at ∙ ap (λ z. pos 1 +ℤ pos z) z
  item_by along Single (suc d) n u h ss i m lt un at k = absurd h
  item_by along (Record us) (suc d) n u h ss i m lt un at k = absurd h
  item_by along (Dimension low high w) (suc d) n u (more, e, h) ss i m lt un at k =
      let g = digits (count low high) more i (subst (λ z. i < z) e lt) in
      let x : ℤ = low +ℤ pos g.first in
      let far : to_nat (x -ℤ low) ≡ g.first = ap to_nat (back low g.first) in
      let on : Option ℕ = Some (inner along (count low high) (to_nat (x -ℤ low))) in
      let at' : v ≡ pos 1 +ℤ pos (inner along (count low high) (to_nat (x -ℤ low)) * more + g.rest) = at ∙ ap (λ z. pos 1 +ℤ pos z) (position_is along n (count low high) more i g.first g.rest (to_nat (x -ℤ low)) e g.whole far) in
      (x, g.rest * size u + m, near low high g.first g.below, cell_is i g.first g.rest more (size u) (size w) m (to_nat (x -ℤ low)) g.whole (component_size w d more u h) far, item_by on w d more u h ss g.rest m g.less un at' k)

module _ (now : Now) (v ch : ℤ) (chunk : now.chunk ≡ ch) where
  -- ---- where no step is by the item

  pub plain_by : (t : Shape) (ss : List Selector) (n : ℕ) → (HasLoop ss → ⊥) → LeadsIn now t ss n → LiesBy true v ch None t ss n
  plain_by t [] n un h = (tt, h)
  plain_by Single (s ∷ ss) n un h = absurd h
  plain_by (Record us) (At k ∷ ss) n un (offset, m, u, f, e, h) = (tt, (offset, m, u, f, e, plain_by u ss m un h))
  plain_by (Record us) (Fixed i ∷ ss) n un h = absurd h
  plain_by (Record us) (LoopIndex d ∷ ss) n un h = absurd h
  plain_by (Record us) (ChunkIndex d ∷ ss) n un h = absurd h
  plain_by (Record us) (Any ∷ ss) n un h = absurd h
  plain_by (Dimension low high u) (At k ∷ ss) n un (w, m, b, f, e, h) = absurd f
  plain_by (Dimension low high u) (Fixed i ∷ ss) n un (w, m, b, f, e, h) = (tt, (w, m, b, f, e, plain_by u ss m un h))
  plain_by (Dimension low high u) (LoopIndex d ∷ ss) n un h = absurd (un tt)
  plain_by (Dimension low high u) (ChunkIndex d ∷ ss) n un (w, m, b, f, e, h) = (tt, (w, m, b, f ∙ ap (λ z. z +ℤ d) chunk, e, plain_by u ss m un h))
  plain_by (Dimension low high u) (Any ∷ ss) n un (w, m, b, f, e, h) = (tt, (w, m, b, tt, e, plain_by u ss m un h))

  -- ---- where a path goes on to the item of an array

  index_by : (low high : ℤ) (u : Shape) (s : Selector) (ss : List Selector) (x : ℤ) (m : ℕ) → NotLoop s → between low x high ≡ true → Fits now s x → LiesBy true v ch None u ss m → LiesBy true v ch None (Dimension low high u) (s ∷ ss) (to_nat (x -ℤ low) * size u + m)
  index_by low high u (At k) ss x m un b f h = absurd f
  index_by low high u (Fixed i) ss x m un b f h = (tt, (x, m, b, f, refl, h))
  index_by low high u (LoopIndex d) ss x m un b f h = absurd un
  index_by low high u (ChunkIndex d) ss x m un b f h = (tt, (x, m, b, f ∙ ap (λ z. z +ℤ d) chunk, refl, h))
  index_by low high u Any ss x m un b f h = (tt, (x, m, b, tt, refl, h))

  module _ (rest : List Step) (cells c : ℕ) where
    -- a cell, from where an array begins
    abbrev Within : Shape → List Step → ℕ → Type 0
    Within t ss f = (k : ℕ) × (c ≡ f + k) × LiesBy true v ch None t (path ss) k

    steps_by : (t : Shape) (ss : List Step) (f o : ℕ) → Plain ss → Follows t (ss ++ rest) cells → Leads now f ss o → ((u : Shape) → Follows u rest cells → Within u rest o) → Within t (ss ++ rest) f
    steps_by t [] f o p follows leads inside = subst (λ z. Within t rest z) leads (inside t follows)
    steps_by Single (FieldStep k x ∷ ss) f o p (u, e, follows) leads inside = absurd e
    steps_by (Record us) (FieldStep k x ∷ ss) f o p (u, e, follows) leads inside =
        let (m, q, h) = steps_by u ss (f + x) o p follows leads inside in (x + m, omega (arith, q), (tt, (x, m, u, e, refl, h)))
    steps_by (Dimension low high w) (FieldStep k x ∷ ss) f o p (u, e, follows) leads inside = absurd e
    steps_by Single (IndexStep s l h stride ∷ ss) f o p (u, e, follows) leads inside = absurd e
    steps_by (Record us) (IndexStep s l h stride ∷ ss) f o p (u, e, follows) leads inside = absurd e
    steps_by (Dimension low high w) (IndexStep s l h stride ∷ ss) f o p (u, (el, eh, es, eu), follows) (x, b, fit, leads) inside =
        let (m, q, h') = steps_by u ss (f + to_nat (x -ℤ l) * stride) o p.1 follows leads inside in
        let far : to_nat (x -ℤ l) * stride ≡ to_nat (x -ℤ low) * size w = ap (λ a. to_nat (x -ℤ a) * stride) el ∙ ap (λ z. to_nat (x -ℤ low) * z) es in
        let b' : between low x high ≡ true = ap (λ a. between a x high) (sym el) ∙ ap (λ z. between l x z) (sym eh) ∙ b in
        (to_nat (x -ℤ low) * size w + m, omega (arith, q, far), index_by low high w s (path (ss ++ rest)) x m p.0 b' fit (subst (λ z. LiesBy true v ch None z (path (ss ++ rest)) m) eu h'))
    steps_by t (ItemStep true n stride d ∷ ss) f o p follows leads inside = absurd (true≢false p.0)
    steps_by t (ItemStep false n stride d ∷ ss) f o p (u, e, follows) (i, few, item, leads) inside =
        let (m, q, h) = steps_by u ss (f + i * stride) o p.1 follows leads inside in
        let (at, es) = enters_item t false n stride d u e in
        let far : i * stride ≡ i * size u = ap (λ z. i * z) es in
        (i * size u + m, omega (arith, q, far), any_by v ch t d n u at (path (ss ++ rest)) i m few h)

  -- the item's own cells, and those of its parts
  pub through_by : (t : Shape) (ss post : List Step) (n stride d cells o o' m i : ℕ) → Plain ss → Plain post → Follows t (ss ++ (ItemStep true n stride d ∷ post)) cells → Leads now 0 ss o → i < n → Leads now (o + i * stride) post o' → m < cells → v ≡ pos 1 +ℤ pos i
      → LiesBy true v ch None t (path (ss ++ (ItemStep true n stride d ∷ post))) (o' + m)
  through_by t ss post n stride d cells o o' m i p q follows leads few on lt at =
      let (k, e, h) = steps_by (ItemStep true n stride d ∷ post) cells (o' + m) t ss 0 o p follows leads inside in
      let same : k ≡ o' + m = (let z : o' + m ≡ 0 + k = e in omega (arith, z)) in subst (λ z. LiesBy true v ch None t (path (ss ++ (ItemStep true n stride d ∷ post))) z) same h
    where
      inside : (u : Shape) → Follows u (ItemStep true n stride d ∷ post) cells → Within (ItemStep true n stride d ∷ post) cells (o' + m) u (ItemStep true n stride d ∷ post) o
      inside u (w, e, more) =
          let (k, f, h) = converts now w post cells (o + i * stride) o' m more on lt in
          let (c, es) = enters_item u true n stride d w e in
          let far : i * stride ≡ i * size w = ap (λ z. i * z) es in
          let part = plain_by w (path post) k (λ l. plain_path post q l) h in
          (i * size w + k, omega (arith, f, far), item_by v ch None u d n w c (path post) i k few (λ l. plain_path post q l) at part)

-- ---- one cell has one position

module _ (v w ch dh : ℤ) where
  abbrev AtIndex : (low high : ℤ) → Shape → (ℤ → Type 0) → (ℕ → Type 0) → ℕ → Type 0
  AtIndex low high u F Q n = (x : ℤ) × (m : ℕ) × (between low x high ≡ true) × F x × (n ≡ to_nat (x -ℤ low) * size u + m) × Q m

  -- behind an index
  other_index : (low high : ℤ) (u : Shape) (A B : List Selector) (F G : ℤ → Type 0) (n : ℕ) → AtIndex low high u F (λ m. LiesBy true v ch None u A m) n → AtIndex low high u G (λ m. LiesBy true w dh None u B m) n
      → (m : ℕ) × LiesBy true v ch None u A m × LiesBy true w dh None u B m
  other_index low high u A B F G n (x, m, q, f, e, a) (x', m', q', f', e', b) =
      let same = digits_same (to_nat (x -ℤ low)) (to_nat (x' -ℤ low)) (size u) m m' (small_by v ch None u A m a) (small_by w dh None u B m' b) (sym e ∙ e') in
      (m, a, subst (λ z. LiesBy true w dh None u B z) (sym same.1) b)

  -- behind one of the item
  item_index : (along : Option ℕ) (low high : ℤ) (u : Shape) (A B : List Selector) (n : ℕ) → LiesBy true v ch along (Dimension low high u) (LoopIndex (pos 0) ∷ A) n → LiesBy true w dh along (Dimension low high u) (LoopIndex (pos 0) ∷ B) n
      → (k : ℕ) × (m : ℕ) × LiesBy true v ch (Some k) u A m × LiesBy true w dh (Some k) u B m
  item_index along low high u A B n (x, m, q, e, a) (x', m', q', e', b) =
      let on : ℤ → Option ℕ = λ x. Some (inner along (count low high) (to_nat (x -ℤ low))) in
      let same = digits_same (to_nat (x -ℤ low)) (to_nat (x' -ℤ low)) (size u) m m' (small_by v ch (on x) u A m a) (small_by w dh (on x') u B m' b) (sym e ∙ e') in
      (inner along (count low high) (to_nat (x -ℤ low)), m, a, subst (λ z. LiesBy true w dh (Some (inner along (count low high) z)) u B m) (sym same.0) (subst (λ z. LiesBy true w dh (on x') u B z) (sym same.1) b))

  in_run : (k d : ℕ) (R S : List Selector) (t : Shape) (n : ℕ) → (HasLoop R → ⊥) → (HasLoop S → ⊥) → LiesBy true v ch (Some k) t (replicate d (LoopIndex (pos 0)) ++ R) n → LiesBy true w dh (Some k) t (replicate d (LoopIndex (pos 0)) ++ S) n → v ≡ w
  in_run k zero R S t n r s a b = positioned v ch (Some k) t R n r a ∙ sym (positioned w dh (Some k) t S n s b)
  in_run k (suc d) R S Single n r s a b = absurd a
  in_run k (suc d) R S (Record us) n r s a b = absurd a
  in_run k (suc d) R S (Dimension low high u) n r s a b =
      let (k', m, a', b') = item_index (Some k) low high u (replicate d (LoopIndex (pos 0)) ++ R) (replicate d (LoopIndex (pos 0)) ++ S) n a b in in_run k' d R S u m r s a' b'

  same_position : (P : List Selector) (d : ℕ) (R S : List Selector) (t : Shape) (n : ℕ) → (HasLoop P → ⊥) → (HasLoop R → ⊥) → (HasLoop S → ⊥)
      → LiesBy true v ch None t (P ++ (replicate (suc d) (LoopIndex (pos 0)) ++ R)) n → LiesBy true w dh None t (P ++ (replicate (suc d) (LoopIndex (pos 0)) ++ S)) n → v ≡ w
  same_position [] d R S Single n p r s a b = absurd a
  same_position [] d R S (Record us) n p r s a b = absurd a
  same_position [] d R S (Dimension low high u) n p r s a b =
      let (k, m, a', b') = item_index None low high u (replicate d (LoopIndex (pos 0)) ++ R) (replicate d (LoopIndex (pos 0)) ++ S) n a b in in_run k d R S u m r s a' b'
  same_position (x ∷ P) d R S Single n p r s a b = absurd a
  same_position (At k ∷ P) d R S (Record us) n p r s (z, (o, m, u, f, e, a)) (z', (o', m', u', f', e', b)) =
      let A : List Selector = P ++ (replicate (suc d) (LoopIndex (pos 0)) ++ R) in
      let B : List Selector = P ++ (replicate (suc d) (LoopIndex (pos 0)) ++ S) in
      let same = fields_same us k k o o' u u' f f' m m' (small_by v ch None u A m a) (small_by w dh None u' B m' b) (sym e ∙ e') in
      same_position P d R S u m p r s a (subst (λ z. LiesBy true w dh None u B z) (sym same.2) (subst (λ z. LiesBy true w dh None z B m') (sym same.1) b))
  same_position (Fixed i ∷ P) d R S (Record us) n p r s a b = absurd a
  same_position (LoopIndex i ∷ P) d R S (Record us) n p r s a b = absurd a
  same_position (ChunkIndex i ∷ P) d R S (Record us) n p r s a b = absurd a
  same_position (Any ∷ P) d R S (Record us) n p r s a b = absurd a
  same_position (At k ∷ P) d R S (Dimension low high u) n p r s a b = absurd a
  same_position (Fixed i ∷ P) d R S (Dimension low high u) n p r s a b =
      let (m, a', b') = other_index low high u (P ++ (replicate (suc d) (LoopIndex (pos 0)) ++ R)) (P ++ (replicate (suc d) (LoopIndex (pos 0)) ++ S)) _ _ n a.1 b.1 in same_position P d R S u m p r s a' b'
  same_position (LoopIndex i ∷ P) d R S (Dimension low high u) n p r s a b = absurd (p tt)
  same_position (ChunkIndex i ∷ P) d R S (Dimension low high u) n p r s a b =
      let (m, a', b') = other_index low high u (P ++ (replicate (suc d) (LoopIndex (pos 0)) ++ R)) (P ++ (replicate (suc d) (LoopIndex (pos 0)) ++ S)) _ _ n a.1 b.1 in same_position P d R S u m p r s a' b'
  same_position (Any ∷ P) d R S (Dimension low high u) n p r s a b =
      let (m, a', b') = other_index low high u (P ++ (replicate (suc d) (LoopIndex (pos 0)) ++ R)) (P ++ (replicate (suc d) (LoopIndex (pos 0)) ++ S)) _ _ n a.1 b.1 in same_position P d R S u m p r s a' b'

  -- ---- parts of items at different positions are apart, and so are cells of separated paths

  module _ (chunks : ch ≡ dh → ⊥) (values : v ≡ w → ⊥) (o : Option Items) (array : (t : Items) → o ≡ Some t → Plain t.array.steps) (t : Shape) (n : ℕ) where
    one_item : (i : Items) → Plain i.array.steps → (post more : List Step) → Plain post → Plain more → let item : List Step → List Step = λ ss. i.array.steps ++ (ItemStep true i.count i.stride i.dimensions ∷ ss) in
        LiesBy true v ch None t (path (item post)) n → LiesBy true w dh None t (path (item more)) n → HasLoop (path (item post)) → ⊥
    one_item i pre post more p q a b h =
        go i.dimensions (subst (λ z. LiesBy true v ch None t z n) (path_append i.array.steps (ItemStep true i.count i.stride i.dimensions ∷ post)) a)
        (subst (λ z. LiesBy true w dh None t z n) (path_append i.array.steps (ItemStep true i.count i.stride i.dimensions ∷ more)) b)
        (subst (λ z. HasLoop z) (path_append i.array.steps (ItemStep true i.count i.stride i.dimensions ∷ post)) h)
      where
        go : (d : ℕ) → LiesBy true v ch None t (path i.array.steps ++ (replicate d (LoopIndex (pos 0)) ++ path post)) n → LiesBy true w dh None t (path i.array.steps ++ (replicate d (LoopIndex (pos 0)) ++ path more)) n
            → HasLoop (path i.array.steps ++ (replicate d (LoopIndex (pos 0)) ++ path post)) → ⊥
        go zero a b h = ⊎_elim (λ h. plain_path i.array.steps pre h) (λ h. plain_path post p h) (loop_somewhere (path i.array.steps) (path post) h)
        go (suc d) a b h = values (same_position (path i.array.steps) d (path post) (path more) t n (λ h. plain_path i.array.steps pre h) (λ h. plain_path post p h) (λ h. plain_path more q h) a b)

    no_item : (x y : Named) → ByItem o x → ByItem o y → LiesBy true v ch None t (path x.steps) n → LiesBy true w dh None t (path y.steps) n → HasLoop (path x.steps) → HasLoop (path y.steps) → ⊥
    no_item x y f g a b h k = go o refl f g
      where
        go : (o' : Option Items) → o ≡ o' → ByItem o' x → ByItem o' y → ⊥
        go None e f g = plain_path x.steps f h
        go (Some i) e (inl f) g = plain_path x.steps f h
        go (Some i) e (inr f) (inl g) = plain_path y.steps g k
        go (Some i) e (inr (at, post, p, es)) (inr (at', more, q, es')) =
            one_item i (array i e) post more p q (subst (λ z. LiesBy true v ch None t (path z) n) es a) (subst (λ z. LiesBy true w dh None t (path z) n) es' b) (subst (λ z. HasLoop (path z)) es h)

    pub items_apart : (x y : Named) → ByItem o x → ByItem o y → SomeDiffer (path x.steps) (path y.steps) → LiesBy true v ch None t (path x.steps) n → LiesBy true w dh None t (path y.steps) n → ⊥
    items_apart x y f g some a b =
        unlike (nowhere ch) (nowhere dh) chunks (λ d v w f g e. (refl, refl)) (path x.steps) (path y.steps) t n (loose_by v ch None t (path x.steps) n a) (loose_by w dh None t (path y.steps) n b) some
        (λ none none' h k. no_item x y f g a b h k)
