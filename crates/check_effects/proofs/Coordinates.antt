-- Each cell of an object has its own coordinates.
use Rattle.std.proofs.Common.{◌≡◌, ℕ, zero, suc, ◌+◌, ◌*◌, ◌-◌, ◌/◌, ◌%◌, ◌<◌, ◌≤◌, ℤ, pos, negsuc, neg_ℤ, ◌+ℤ◌, ◌-ℤ◌, int_le, List, [], ◌∷◌, ◌++◌, replicate, ◌⊎◌, inl, inr, ⊎_elim, Option, Some, None, Bool, true, false, ◌&&◌, sym, subst, ap, ap₂, ◌∙◌, refl, true≢false, arith, leb-true, leb-false, le-leb, nat_le}
use Rattle.ada_meaning.specs.Shapes.{Shape, Single, Record, Dimension, Shapes, NoShape, AlsoShape, size, sizes, FieldAt, ComponentAt}
use Rattle.std.proofs.Math.IntN.{neg_ℤ-neg_ℤ, neg_ℤ-+ℤ, +ℤ_assoc, +ℤ_invl, +ℤ_idl, +ℤ-neg_ℤ_cancel, -ℤ-+ℤ_cancel, +ℤ_comm, pos-+ℤ-pos}
use native.Mathlib.Nat.{mul-add, add-mul, mul-le-mul_left, mul_comm, mul_assoc, mul-one, mul-zero, mod-add-div, mod-lt}
use Rattle.ada_meaning.specs.Values.{between, to_nat, count}
use Rattle.check_effects.specs.Effects.{Selector, At, Fixed, LoopIndex, ChunkIndex, Any, Step, FieldStep, IndexStep, ItemStep}
use Rattle.behaviours.specs.Joins.{Now}
use Rattle.check_effects.specs.Conflicts.{Fits, LoopFits, IsItem, Leads, path, item_selector, Enters, Follows, Differ, SomeDiffer}

-- integers

suc_plus : (b k : ℕ) → suc (b + k) ≡ suc b + k
suc_plus b k = omega arith

le_ex : (a b : ℤ) → int_le a b ≡ true → (k : ℕ) × (b ≡ a +ℤ pos k)
le_ex (pos a) (pos b) e = let l = leb-true a b e in (b - a, ap pos (sum_of a b l) ∙ sym (pos-+ℤ-pos a (b - a)))
  where
    sum_of : (a b : ℕ) → a ≤ b → b ≡ a + (b - a)
    sum_of a b l = omega arith
le_ex (pos a) (negsuc b) e = absurd (true≢false (sym e))
le_ex (negsuc a) (pos b) e = (suc a + b, sym (ap (λ z. negsuc a +ℤ z) (sym (pos-+ℤ-pos (suc a) b)) ∙ sym (+ℤ_assoc (negsuc a) (pos (suc a)) (pos b)) ∙ ap (λ z. z +ℤ pos b) (+ℤ_invl (pos (suc a))) ∙ +ℤ_idl (pos b)))
le_ex (negsuc a) (negsuc b) e = let l = leb-true b a e in (a - b, sym (ap (λ z. negsuc z +ℤ pos (a - b)) (sum_of a b l) ∙ ap (λ z. neg_ℤ (pos z) +ℤ pos (a - b)) (suc_plus b (a - b)) ∙ ap (λ z. neg_ℤ z +ℤ pos (a - b)) (sym (pos-+ℤ-pos (suc b) (a - b))) ∙ ap (λ z. z +ℤ pos (a - b)) (neg_ℤ-+ℤ (pos (suc b)) (pos (a - b))) ∙ -ℤ-+ℤ_cancel (negsuc b) (pos (a - b))))
  where
    sum_of : (a b : ℕ) → b ≤ a → a ≡ b + (a - b)
    sum_of a b l = omega arith

pos_same : {m n : ℕ} → pos m ≡ pos n → m ≡ n
pos_same e = cc

le_up : (a : ℤ) (k : ℕ) → int_le a (a +ℤ pos k) ≡ true
le_up (pos a) k = ap (int_le (pos a)) (pos-+ℤ-pos a k) ∙ le-leb a (a + k) (omega arith)
le_up (negsuc a) k = go (negsuc a +ℤ pos k) refl
  where
    go : (b : ℤ) → negsuc a +ℤ pos k ≡ b → int_le (negsuc a) b ≡ true
    go (pos n) e = refl
    go (negsuc n) e =
        let q : pos (suc n + k) ≡ pos (suc a) = sym (pos-+ℤ-pos (suc n) k) ∙ ap (λ z. pos (suc n) +ℤ z) (sym (neg_ℤ-neg_ℤ (pos k))) ∙ sym (neg_ℤ-+ℤ (negsuc n) (neg_ℤ (pos k))) ∙ ap neg_ℤ (ap (λ z. z -ℤ pos k) (sym e) ∙ +ℤ-neg_ℤ_cancel (negsuc a) (pos k)) in
        let r : suc n + k ≡ suc a = pos_same q in le-leb n a (omega arith)

pub back : (l : ℤ) (n : ℕ) → l +ℤ pos n -ℤ l ≡ pos n
back l n = ap (λ z. z -ℤ l) (+ℤ_comm l (pos n)) ∙ +ℤ-neg_ℤ_cancel (pos n) l

both_true : (a b : Bool) → a && b ≡ true → (a ≡ true) × (b ≡ true)
both_true true b e = (refl, e)
both_true false b e = absurd (true≢false (sym e))

-- a value between two others is so far from the first, and nearer than their count
pub spot : (low v high : ℤ) → between low v high ≡ true → (v ≡ low +ℤ pos (to_nat (v -ℤ low))) × (to_nat (v -ℤ low) < count low high)
spot low v high e =
    let t = both_true (int_le low v) (int_le v high) e in
    let a = le_ex low v t.0 in let b = le_ex v high t.1 in
    let far : to_nat (v -ℤ low) ≡ a.0 = ap (λ z. to_nat (z -ℤ low)) a.1 ∙ ap to_nat (back low a.0) in
    let all : high +ℤ pos 1 ≡ low +ℤ pos (a.0 + b.0 + 1) =
    ap (λ z. z +ℤ pos 1) (b.1 ∙ ap (λ z. z +ℤ pos b.0) a.1 ∙ +ℤ_assoc low (pos a.0) (pos b.0) ∙ ap (λ z. low +ℤ z) (pos-+ℤ-pos a.0 b.0))
    ∙ +ℤ_assoc low (pos (a.0 + b.0)) (pos 1) ∙ ap (λ z. low +ℤ z) (pos-+ℤ-pos (a.0 + b.0) 1) in
    let many : count low high ≡ a.0 + b.0 + 1 = ap (λ z. to_nat (z -ℤ low)) all ∙ ap to_nat (back low (a.0 + b.0 + 1)) in
    (a.1 ∙ ap (λ z. low +ℤ pos z) (sym far), omega arith)

-- a number below their count is such a distance
pub near : (low high : ℤ) (q : ℕ) → q < count low high → between low (low +ℤ pos q) high ≡ true
near low high q lt = go (high +ℤ pos 1 -ℤ low) refl lt
  where
    go : (x : ℤ) → high +ℤ pos 1 -ℤ low ≡ x → q < to_nat x → between low (low +ℤ pos q) high ≡ true
    go (negsuc c) e l = absurd (omega arith)
    go (pos c) e l =
        let d = c - q - 1 in
        let split : c ≡ q + d + 1 = omega arith in
        let next : high +ℤ pos 1 ≡ low +ℤ pos (q + d + 1) = sym (-ℤ-+ℤ_cancel (high +ℤ pos 1) low) ∙ ap (λ z. z +ℤ low) (e ∙ ap pos split) ∙ +ℤ_comm (pos (q + d + 1)) low in
        let high_is : high ≡ low +ℤ pos q +ℤ pos d =
        sym (+ℤ-neg_ℤ_cancel high (pos 1)) ∙ ap (λ z. z -ℤ pos 1) (next ∙ ap (λ z. low +ℤ z) (sym (pos-+ℤ-pos (q + d) 1)) ∙ sym (+ℤ_assoc low (pos (q + d)) (pos 1))) ∙ +ℤ-neg_ℤ_cancel (low +ℤ pos (q + d)) (pos 1)
        ∙ ap (λ z. low +ℤ z) (sym (pos-+ℤ-pos q d)) ∙ sym (+ℤ_assoc low (pos q) (pos d)) in
        ap₂ (λ a b. a && b) (le_up low q) (subst (λ z. int_le (low +ℤ pos q) z ≡ true) (sym high_is) (le_up (low +ℤ pos q) d))

-- products

pub under_product : (q c s : ℕ) → q < c → q * s + s ≤ c * s
under_product q c s lt = let h : s * (q + 1) ≤ s * c = mul-le-mul_left s (omega arith) in let e = mul-add s q 1 in let a = mul_comm s q in let b = mul_comm s c in let o = mul-one s in omega arith

one_way : (a b s m n : ℕ) → m < s → a * s + m ≡ b * s + n → a < b → ⊥
one_way a b s m n lt e l = let h = under_product a b s l in omega arith

pub digits_same : (a b s m n : ℕ) → m < s → n < s → a * s + m ≡ b * s + n → (a ≡ b) × (m ≡ n)
digits_same a b s m n lm ln e = let same = go (nat_le a b) (nat_le b a) refl refl in (same, rest same)
  where
    go : (p q : Bool) → nat_le a b ≡ p → nat_le b a ≡ q → a ≡ b
    go true true f g = let x = leb-true a b f in let y = leb-true b a g in omega arith
    go true false f g = let l = leb-false b a g in absurd (one_way a b s m n lm e (omega arith))
    go false q f g = let l = leb-false a b f in absurd (one_way b a s n m ln (sym e) (omega arith))

    rest : a ≡ b → m ≡ n
    rest same = let h : a * s ≡ b * s = ap (λ z. z * s) same in omega arith

-- coordinates

abbrev pub Loose : Option ℤ → ℤ → ℤ → Type 0
Loose None distance v = Unit {0}
Loose (Some i) distance v = v ≡ i +ℤ distance

abbrev pub LooseFits : Now → Selector → ℤ → Type 0
LooseFits now (At k) v = ⊥
LooseFits now (Fixed i) v = v ≡ i
LooseFits now (LoopIndex distance) v = Loose now.loop distance v
LooseFits now (ChunkIndex distance) v = v ≡ now.chunk +ℤ distance
LooseFits now Any v = Unit {0}

loosely : (o : Option ℤ) (d v : ℤ) → LoopFits o d v → Loose o d v
loosely None d v h = tt
loosely (Some i) d v h = h

fits_loose : (now : Now) (s : Selector) (v : ℤ) → Fits now s v → LooseFits now s v
fits_loose now (At k) v h = h
fits_loose now (Fixed i) v h = h
fits_loose now (LoopIndex d) v h = loosely now.loop d v h
fits_loose now (ChunkIndex d) v h = h
fits_loose now Any v h = tt

abbrev pub InField : Shapes → Selector → ℕ → (Shape → ℕ → Type 0) → Type 0
InField us (At k) n f = (offset : ℕ) × (m : ℕ) × (u : Shape) × FieldAt us k offset u × (n ≡ offset + m) × f u m
InField us s n f = ⊥

abbrev pub Down : Now → Shape → Selector → ℕ → (Shape → ℕ → Type 0) → Type 0
Down now Single s n f = ⊥
Down now (Record us) s n f = InField us s n f
Down now (Dimension low high u) s n f = (v : ℤ) × (m : ℕ) × (between low v high ≡ true) × LooseFits now s v × (n ≡ to_nat (v -ℤ low) * size u + m) × f u m

abbrev pub LeadsIn : Now → Shape → List Selector → ℕ → Type 0
LeadsIn now t [] n = n < size t
LeadsIn now t (s ∷ ss) n = Down now t s n (λ u m. LeadsIn now u ss m)

field_within : (ts : Shapes) (k offset : ℕ) (u : Shape) → FieldAt ts k offset u → offset + size u ≤ sizes ts
field_within NoShape k offset u h = absurd h
field_within (AlsoShape v us) zero offset u h = let e = ap size h.1 in let z = h.0 in omega arith
field_within (AlsoShape v us) (suc k) offset u h = let r = field_within us k h.0 u h.2 in let e = h.1 in omega arith

pub fields_same : (ts : Shapes) (j k o p : ℕ) (u w : Shape) → FieldAt ts j o u → FieldAt ts k p w → (m n : ℕ) → m < size u → n < size w → o + m ≡ p + n → (j ≡ k) × (u ≡ w) × (m ≡ n)
fields_same NoShape j k o p u w h g m n lm ln e = absurd h
fields_same (AlsoShape v us) zero zero o p u w h g m n lm ln e = let a = h.0 in let b = g.0 in (refl, h.1 ∙ sym g.1, omega arith)
fields_same (AlsoShape v us) zero (suc k) o p u w h g m n lm ln e = let a = h.0 in let b = g.1 in let c = ap size h.1 in absurd (omega arith)
fields_same (AlsoShape v us) (suc j) zero o p u w h g m n lm ln e = let a = h.1 in let b = g.0 in let c = ap size g.1 in absurd (omega arith)
fields_same (AlsoShape v us) (suc j) (suc k) o p u w h g m n lm ln e = let a = h.1 in let b = g.1 in let r = fields_same us j k h.0 g.0 u w h.2 g.2 m n lm ln (omega arith) in (ap suc r.0, r.1, r.2)

pub in_shape : (now : Now) (t : Shape) (ss : List Selector) (n : ℕ) → LeadsIn now t ss n → n < size t
in_shape now t [] n h = h
in_shape now Single (s ∷ ss) n h = absurd h
in_shape now (Record us) (At k ∷ ss) n (o, m, u, f, e, h) = let l = in_shape now u ss m h in let w = field_within us k o u f in omega arith
in_shape now (Record us) (Fixed i ∷ ss) n h = absurd h
in_shape now (Record us) (LoopIndex i ∷ ss) n h = absurd h
in_shape now (Record us) (ChunkIndex i ∷ ss) n h = absurd h
in_shape now (Record us) (Any ∷ ss) n h = absurd h
in_shape now (Dimension low high u) (s ∷ ss) n (v, m, b, f, e, h) = let l = in_shape now u ss m h in let p = under_product (to_nat (v -ℤ low)) (count low high) (size u) (spot low v high b).1 in omega arith

-- from steps to coordinates

pub component_size : (t : Shape) (d n : ℕ) (u : Shape) → ComponentAt t d n u → size t ≡ n * size u
component_size t zero n u h = ap size (sym h.1) ∙ sym (mul_comm n (size u) ∙ ap (λ z. size u * z) h.0 ∙ mul-one (size u))
component_size Single (suc d) n u h = absurd h
component_size (Record us) (suc d) n u h = absurd h
component_size (Dimension low high w) (suc d) n u h = ap (λ z. count low high * z) (component_size w d h.0 u h.2) ∙ sym (mul_assoc (count low high) h.0 (size u)) ∙ ap (λ z. z * size u) (sym h.1)

-- the component of a number has an index in each dimension
decode : (now : Now) (t : Shape) (d n : ℕ) (u : Shape) → ComponentAt t d n u → (s : Selector) → ((v : ℤ) → LooseFits now s v) → (rest : List Selector) (i m : ℕ) → i < n → LeadsIn now u rest m → LeadsIn now t (replicate d s ++ rest) (i * size u + m)
decode now t zero n u h s any rest i m lt k =
    let e = h.0 in let none : i ≡ 0 = omega arith in let z = mul_comm i (size u) in
    subst (λ (w : Shape). LeadsIn now w rest (i * size u + m)) h.1 (subst (λ z. LeadsIn now u rest z) (none_left i (size u) m none) k)
  where
    none_left : (i c m : ℕ) → i ≡ 0 → m ≡ i * c + m
    none_left i c m e = let z : i * c ≡ 0 * c = ap (λ z. z * c) e in omega arith
decode now Single (suc d) n u h s any rest i m lt k = absurd h
decode now (Record us) (suc d) n u h s any rest i m lt k = absurd h
decode now (Dimension low high w) (suc d) n u (more, e, h) s any rest i m lt k =
    let c = count low high in
    let q = i / more in let r = i % more in
    let split : r + more * q ≡ i = mod-add-div i more in
    let some : 0 < more = positive c more i n lt e in
    let less : r < more = mod-lt i some in
    let few : q < c = quotient_less c more i q r n split lt e in
    let far : to_nat (low +ℤ pos q -ℤ low) ≡ q = ap to_nat (back low q) in
    let ws : size w ≡ more * size u = component_size w d more u h in
    (low +ℤ pos q, r * size u + m, near low high q few, any (low +ℤ pos q), total i q r more (size u) (size w) m (to_nat (low +ℤ pos q -ℤ low)) split ws far, decode now w d more u h s any rest r m less k)
  where
    positive : (c more i n : ℕ) → i < n → n ≡ c * more → 0 < more
    positive c zero i n lt e = let z : c * 0 ≡ 0 = mul-zero c in absurd (omega arith)
    positive c (suc more) i n lt e = omega arith

    quotient_less : (c more i q r n : ℕ) → r + more * q ≡ i → i < n → n ≡ c * more → q < c
    quotient_less c more i q r n split lt e = go (nat_le c q) refl
      where
        go : (b : Bool) → nat_le c q ≡ b → q < c
        go true f = let h : more * c ≤ more * q = mul-le-mul_left more (leb-true c q f) in let z = mul_comm more c in absurd (omega arith)
        go false f = leb-false c q f

    total : (i q r more c sw m far : ℕ) → r + more * q ≡ i → sw ≡ more * c → far ≡ q → i * c + m ≡ far * sw + (r * c + m)
    total i q r more c sw m far split e f =
        let a : i * c ≡ (r + more * q) * c = ap (λ z. z * c) (sym split) in
        let b : (r + more * q) * c ≡ r * c + more * q * c = add-mul r (more * q) c in
        let d : far * sw ≡ q * (more * c) = ap₂ (λ x y. x * y) f e in
        let g : q * (more * c) ≡ q * more * c = sym (mul_assoc q more c) in
        let k : q * more * c ≡ more * q * c = ap (λ z. z * c) (mul_comm q more) in
        omega arith

item_fits : (now : Now) (judged : Bool) (f t : ℕ) → IsItem now judged f t → (v : ℤ) → LooseFits now (item_selector judged) v
item_fits now false f t h v = tt
item_fits now true f t h v = subst (λ z. Loose z (pos 0) v) (sym h.0) tt

pub enters_item : (t : Shape) (judged : Bool) (n stride d : ℕ) (u : Shape) → Enters t (ItemStep judged n stride d) u → ComponentAt t d n u × (stride ≡ size u)
enters_item Single judged n stride d u e = e
enters_item (Record us) judged n stride d u e = e
enters_item (Dimension low high w) judged n stride d u e = e

through_item : (now : Now) (t : Shape) (judged : Bool) (n stride d : ℕ) (ss : List Step) (f o m : ℕ) (u : Shape) → Enters t (ItemStep judged n stride d) u → (i : ℕ) → i < n → IsItem now judged (f + i * stride) stride
    → (k : ℕ) × (o + m ≡ f + i * stride + k) × LeadsIn now u (path ss) k → (k : ℕ) × (o + m ≡ f + k) × LeadsIn now t (path (ItemStep judged n stride d ∷ ss)) k
through_item now t judged n stride d ss f o m u e i few item (k, q, h) =
    let c = enters_item t judged n stride d u e in
    let far : i * stride ≡ i * size u = ap (λ z. i * z) c.1 in
    (i * size u + k, omega arith, decode now t d n u c.0 (item_selector judged) (item_fits now judged (f + i * stride) stride item) (path ss) i k few h)

-- a cell that steps lead to lies at the coordinates of their path
pub converts : (now : Now) (t : Shape) (ss : List Step) (cells f o m : ℕ) → Follows t ss cells → Leads now f ss o → m < cells → (n : ℕ) × (o + m ≡ f + n) × LeadsIn now t (path ss) n
converts now t [] cells f o m follows leads lt = (m, ap (λ z. z + m) leads, (let l = follows in omega arith))
converts now Single (FieldStep k x ∷ ss) cells f o m (u, e, follows) leads lt = absurd e
converts now (Record us) (FieldStep k x ∷ ss) cells f o m (u, e, follows) leads lt =
    let r = converts now u ss cells (f + x) o m follows leads lt in let q = r.1 in (x + r.0, omega arith, (x, r.0, u, e, refl, r.2))
converts now (Dimension low high w) (FieldStep k x ∷ ss) cells f o m (u, e, follows) leads lt = absurd e
converts now Single (IndexStep s l h stride ∷ ss) cells f o m (u, e, follows) leads lt = absurd e
converts now (Record us) (IndexStep s l h stride ∷ ss) cells f o m (u, e, follows) leads lt = absurd e
converts now (Dimension low high w) (IndexStep s l h stride ∷ ss) cells f o m (u, (el, eh, es, eu), follows) (v, b, fit, leads) lt =
    let r = converts now u ss cells (f + to_nat (v -ℤ l) * stride) o m follows leads lt in
    let q = r.1 in
    let far : to_nat (v -ℤ l) * stride ≡ to_nat (v -ℤ low) * size w = ap₂ (λ a c. to_nat (v -ℤ a) * c) el es in
    (to_nat (v -ℤ low) * size w + r.0, omega arith, (v, r.0, ap₂ (λ a c. between a v c) (sym el) (sym eh) ∙ b, fits_loose now s v fit, refl, subst (λ z. LeadsIn now z (path ss) r.0) eu r.2))
converts now Single (ItemStep judged count stride d ∷ ss) cells f o m (u, e, follows) (i, few, item, leads) lt = through_item now Single judged count stride d ss f o m u e i few item (converts now u ss cells (f + i * stride) o m follows leads lt)
converts now (Record us) (ItemStep judged count stride d ∷ ss) cells f o m (u, e, follows) (i, few, item, leads) lt = through_item now (Record us) judged count stride d ss f o m u e i few item (converts now u ss cells (f + i * stride) o m follows leads lt)
converts now (Dimension low high w) (ItemStep judged count stride d ∷ ss) cells f o m (u, e, follows) (i, few, item, leads) lt = through_item now (Dimension low high w) judged count stride d ss f o m u e i few item (converts now u ss cells (f + i * stride) o m follows leads lt)

-- an index that is the parameter of an iteration over an array
abbrev pub HasLoop : List Selector → Type 0
HasLoop [] = ⊥
HasLoop (LoopIndex d ∷ ss) = Unit {0}
HasLoop (s ∷ ss) = HasLoop ss

pub loop_somewhere : (ss ts : List Selector) → HasLoop (ss ++ ts) → HasLoop ss ⊎ HasLoop ts
loop_somewhere [] ts h = inr h
loop_somewhere (LoopIndex d ∷ ss) ts h = inl tt
loop_somewhere (At k ∷ ss) ts h = loop_somewhere ss ts h
loop_somewhere (Fixed k ∷ ss) ts h = loop_somewhere ss ts h
loop_somewhere (ChunkIndex k ∷ ss) ts h = loop_somewhere ss ts h
loop_somewhere (Any ∷ ss) ts h = loop_somewhere ss ts h

pub no_loop : (d : ℕ) → HasLoop (replicate d Any) → ⊥
no_loop zero h = h
no_loop (suc d) h = no_loop d h

-- it lies in the component of the iteration
pub in_item : (now : Now) (t : Shape) (ss : List Step) (cells f o m : ℕ) → now.loop ≡ None → HasLoop (path ss) → Follows t ss cells → Leads now f ss o → m < cells → (now.first ≤ o + m) × (o + m < now.first + now.size)
in_item now t [] cells f o m none h follows leads lt = absurd h
in_item now t (FieldStep k x ∷ ss) cells f o m none h (u, e, follows) leads lt = in_item now u ss cells (f + x) o m none h follows leads lt
in_item now t (IndexStep (LoopIndex d) l r stride ∷ ss) cells f o m none h (u, e, follows) (v, b, fit, leads) lt = absurd (subst (λ z. LoopFits z d v) none fit)
in_item now t (IndexStep (At d) l r stride ∷ ss) cells f o m none h (u, e, follows) (v, b, fit, leads) lt = absurd fit
in_item now t (IndexStep (Fixed d) l r stride ∷ ss) cells f o m none h (u, e, follows) (v, b, fit, leads) lt = in_item now u ss cells (f + to_nat (v -ℤ l) * stride) o m none h follows leads lt
in_item now t (IndexStep (ChunkIndex d) l r stride ∷ ss) cells f o m none h (u, e, follows) (v, b, fit, leads) lt = in_item now u ss cells (f + to_nat (v -ℤ l) * stride) o m none h follows leads lt
in_item now t (IndexStep Any l r stride ∷ ss) cells f o m none h (u, e, follows) (v, b, fit, leads) lt = in_item now u ss cells (f + to_nat (v -ℤ l) * stride) o m none h follows leads lt
in_item now t (ItemStep false count stride d ∷ ss) cells f o m none h (u, e, follows) (i, few, item, leads) lt =
    ⊎_elim (λ g. absurd (no_loop d g)) (λ g. in_item now u ss cells (f + i * stride) o m none g follows leads lt) (loop_somewhere (replicate d Any) (path ss) h)
in_item now t (ItemStep true count stride d ∷ ss) cells f o m none h (u, e, follows) (i, few, item, leads) lt =
    let r = converts now u ss cells (f + i * stride) o m follows leads lt in
    let q = r.1 in let l = in_shape now u (path ss) r.0 r.2 in let a = item.1 in let b = item.2 in let c = (enters_item t true count stride d u e).1 in (omega arith, omega arith)

-- where two positions differ the cells do
module _ (now then : Now) (chunk : now.chunk ≡ then.chunk → ⊥) (loops : (d v w : ℤ) → Loose now.loop d v → Loose then.loop d w → v ≡ w → (now.loop ≡ None) × (then.loop ≡ None)) where
  abbrev Handler : List Selector → List Selector → Type 0
  Handler ss ts = now.loop ≡ None → then.loop ≡ None → HasLoop ss → HasLoop ts → ⊥

  same_start : (x y c : ℤ) → x +ℤ c ≡ y +ℤ c → x ≡ y
  same_start x y c e = sym (+ℤ-neg_ℤ_cancel x c) ∙ ap (λ z. z -ℤ c) e ∙ +ℤ-neg_ℤ_cancel y c

  later : (s r : Selector) (ss ts : List Selector) → Handler (s ∷ ss) (r ∷ ts) → Handler ss ts
  later s r ss ts h n n' a b = h n n' (also s ss a) (also r ts b)
    where
      also : (s : Selector) (ss : List Selector) → HasLoop ss → HasLoop (s ∷ ss)
      also (At k) ss a = a
      also (Fixed k) ss a = a
      also (LoopIndex k) ss a = tt
      also (ChunkIndex k) ss a = a
      also Any ss a = a

  one_value : (s r : Selector) (ss ts : List Selector) (v w : ℤ) → v ≡ w → LooseFits now s v → LooseFits then r w → Differ s r → Handler (s ∷ ss) (r ∷ ts) → ⊥
  one_value (Fixed i) (Fixed j) ss ts v w e f g d h = d (sym f ∙ e ∙ g)
  one_value (LoopIndex i) (LoopIndex j) ss ts v w e f g d h = let n = loops i v w f (subst (λ z. Loose then.loop z w) (sym d) g) e in h n.0 n.1 tt tt
  one_value (ChunkIndex i) (ChunkIndex j) ss ts v w e f g d h = chunk (same_start now.chunk then.chunk i (sym f ∙ e ∙ g ∙ ap (λ z. then.chunk +ℤ z) (sym d)))
  one_value (At i) r ss ts v w e f g d h = f
  one_value (Fixed i) (At j) ss ts v w e f g d h = g
  one_value (Fixed i) (LoopIndex j) ss ts v w e f g d h = d
  one_value (Fixed i) (ChunkIndex j) ss ts v w e f g d h = d
  one_value (Fixed i) Any ss ts v w e f g d h = d
  one_value (LoopIndex i) (At j) ss ts v w e f g d h = g
  one_value (LoopIndex i) (Fixed j) ss ts v w e f g d h = d
  one_value (LoopIndex i) (ChunkIndex j) ss ts v w e f g d h = d
  one_value (LoopIndex i) Any ss ts v w e f g d h = d
  one_value (ChunkIndex i) (At j) ss ts v w e f g d h = g
  one_value (ChunkIndex i) (Fixed j) ss ts v w e f g d h = d
  one_value (ChunkIndex i) (LoopIndex j) ss ts v w e f g d h = d
  one_value (ChunkIndex i) Any ss ts v w e f g d h = d
  one_value Any (At j) ss ts v w e f g d h = g
  one_value Any (Fixed j) ss ts v w e f g d h = d
  one_value Any (LoopIndex j) ss ts v w e f g d h = d
  one_value Any (ChunkIndex j) ss ts v w e f g d h = d
  one_value Any Any ss ts v w e f g d h = d

  pub unlike : (ss ts : List Selector) (t : Shape) (n : ℕ) → LeadsIn now t ss n → LeadsIn then t ts n → SomeDiffer ss ts → Handler ss ts → ⊥
  unlike [] ts t n a b d h = d
  unlike (s ∷ ss) [] t n a b d h = d
  unlike (s ∷ ss) (r ∷ ts) Single n a b d h = a
  unlike (At j ∷ ss) (At k ∷ ts) (Record us) n (o, m, u, f, e, a) (o', m', u', f', e', b) d h =
      let same = fields_same us j k o o' u u' f f' m m' (in_shape now u ss m a) (in_shape then u' ts m' b) (sym e ∙ e') in
      ⊎_elim (λ q. q same.0) (λ q. unlike ss ts u m a (subst (λ z. LeadsIn then u ts z) (sym same.2) (subst (λ z. LeadsIn then z ts m') (sym same.1) b)) q (later (At j) (At k) ss ts h)) d
  unlike (At j ∷ ss) (Fixed k ∷ ts) (Record us) n a b d h = b
  unlike (At j ∷ ss) (LoopIndex k ∷ ts) (Record us) n a b d h = b
  unlike (At j ∷ ss) (ChunkIndex k ∷ ts) (Record us) n a b d h = b
  unlike (At j ∷ ss) (Any ∷ ts) (Record us) n a b d h = b
  unlike (Fixed j ∷ ss) (r ∷ ts) (Record us) n a b d h = a
  unlike (LoopIndex j ∷ ss) (r ∷ ts) (Record us) n a b d h = a
  unlike (ChunkIndex j ∷ ss) (r ∷ ts) (Record us) n a b d h = a
  unlike (Any ∷ ss) (r ∷ ts) (Record us) n a b d h = a
  unlike (s ∷ ss) (r ∷ ts) (Dimension low high u) n (v, m, q, f, e, a) (v', m', q', f', e', b) d h =
      let same = digits_same (to_nat (v -ℤ low)) (to_nat (v' -ℤ low)) (size u) m m' (in_shape now u ss m a) (in_shape then u ts m' b) (sym e ∙ e') in
      let one : v ≡ v' = (spot low v high q).0 ∙ ap (λ z. low +ℤ pos z) same.0 ∙ sym (spot low v' high q').0 in
      ⊎_elim (λ x. one_value s r ss ts v v' one f f' x h) (λ x. unlike ss ts u m a (subst (λ z. LeadsIn then u ts z) (sym same.1) b) x (later s r ss ts h)) d
