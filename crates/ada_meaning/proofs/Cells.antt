-- Lists of cells and slots, and what a memory has after writes.
use Rattle.std.proofs.Common.{◌≡◌, ℕ, zero, suc, ◌+◌, ◌<◌, ◌≤◌, ℤ, pos, nat_eq, List, [], ◌∷◌, ◌++◌, length, take, drop, set, get_or, slice_get, Option, Some, ◌⊎◌, inl, inr, ⊎_elim, Bool, true, false, cond, ◌&&◌, refl, sym, ap, ap₂, ◌∙◌, true≢false, arith, eq-eqb, eqb-true, ltb, ltb-true, ltb-false, length-take, get_or-take, get_or-drop}
use Rattle.std.proofs.lemmas.Bool.{eqb-false}
use Rattle.std.proofs.lemmas.List.{get_or_past}
use Rattle.std.proofs.lemmas.Option.{get_or_from_slice_get, none-some}
use Rattle.behaviours.specs.Paths.{Entity, VariableOf, ConstantOf, Instance, instance_eq, name_eq, entity_eq}
use Rattle.behaviours.specs.Memory.{Memory, put, put_all}
use Rattle.ada_meaning.specs.Programs.{values}
use Rattle.ada_meaning.specs.declared.slots.Slot.{Slot}
use Rattle.ada_meaning.specs.Stored.{slot_at, key, filled}
use Rattle.behaviours.proofs.Shuffle.{instance_same}

-- slots

pub slot_bound : (slots : List Slot) (k : ℕ) (x : Slot) → k < length slots → slot_at (set slots k x) k ≡ x
slot_bound [] k x lt = absurd (omega arith)
slot_bound (y ∷ slots) zero x lt = refl
slot_bound (y ∷ slots) (suc k) x lt = slot_bound slots k x (omega arith)

pub slot_other : (slots : List Slot) (k j : ℕ) (x : Slot) → (k ≡ j → ⊥) → slot_at (set slots k x) j ≡ slot_at slots j
slot_other [] k j x ne = refl
slot_other (y ∷ slots) zero zero x ne = absurd (ne refl)
slot_other (y ∷ slots) zero (suc j) x ne = refl
slot_other (y ∷ slots) (suc k) zero x ne = refl
slot_other (y ∷ slots) (suc k) (suc j) x ne = slot_other slots k j x (λ e. ne (ap suc e))

-- keys

pub entity_same : (x y : Entity) → entity_eq x y ≡ true → x ≡ y
entity_same (VariableOf x) (VariableOf y) e = ap VariableOf (eqb-true x y e)
entity_same (VariableOf x) (ConstantOf y) e = absurd (true≢false (sym e))
entity_same (ConstantOf x) (VariableOf y) e = absurd (true≢false (sym e))
entity_same (ConstantOf x) (ConstantOf y) e = ap ConstantOf (eqb-true x y e)

pub key_other : (x y : Entity) → entity_eq x y ≡ false → key x ≡ key y → ⊥
key_other (VariableOf x) (VariableOf y) e k = eqb-false x y e (omega arith)
key_other (VariableOf x) (ConstantOf y) e k = omega arith
key_other (ConstantOf x) (VariableOf y) e k = omega arith
key_other (ConstantOf x) (ConstantOf y) e k = eqb-false x y e (omega arith)

-- lists

pub some_same : {A : Type 0} (x y : A) → ◌≡◌ {A = Option A} (Some x) (Some y) → x ≡ y
some_same x y e = cc

pub get_left : {A : Type 0} (xs ys : List A) (a : ℕ) (v : A) → slice_get xs a ≡ Some v → slice_get (xs ++ ys) a ≡ Some v
get_left [] ys a v e = absurd (none-some v e)
get_left (x ∷ xs) ys zero v e = e
get_left (x ∷ xs) ys (suc a) v e = get_left xs ys a v e

pub get_right : {A : Type 0} (xs ys : List A) (i : ℕ) → slice_get (xs ++ ys) (length xs + i) ≡ slice_get ys i
get_right [] ys i = ap (slice_get ys) (let h : 0 + i ≡ i = omega arith in h)
get_right (x ∷ xs) ys i = ap (slice_get (x ∷ (xs ++ ys))) (let h : suc (length xs) + i ≡ suc (length xs + i) = omega arith in h) ∙ get_right xs ys i

pub get_take : {A : Type 0} (n : ℕ) (xs : List A) (a : ℕ) → a < n → slice_get (take n xs) a ≡ slice_get xs a
get_take zero xs a lt = absurd (omega arith)
get_take (suc n) [] a lt = refl
get_take (suc n) (x ∷ xs) zero lt = refl
get_take (suc n) (x ∷ xs) (suc a) lt = get_take n xs a (omega arith)

pub get_set_same : {A : Type 0} (xs : List A) (a : ℕ) (v w : A) → slice_get xs a ≡ Some w → slice_get (set xs a v) a ≡ Some v
get_set_same [] a v w e = absurd (none-some w e)
get_set_same (x ∷ xs) zero v w e = refl
get_set_same (x ∷ xs) (suc a) v w e = get_set_same xs a v w e

pub get_set_other : {A : Type 0} (xs : List A) (a b : ℕ) (v : A) → (a ≡ b → ⊥) → slice_get (set xs a v) b ≡ slice_get xs b
get_set_other [] a b v ne = refl
get_set_other (x ∷ xs) zero zero v ne = absurd (ne refl)
get_set_other (x ∷ xs) zero (suc b) v ne = refl
get_set_other (x ∷ xs) (suc a) zero v ne = refl
get_set_other (x ∷ xs) (suc a) (suc b) v ne = get_set_other xs a b v (λ e. ne (ap suc e))

pub get_within : {A : Type 0} (xs : List A) (i : ℕ) → i < length xs → (v : A) × (slice_get xs i ≡ Some v)
get_within [] i lt = absurd (omega arith)
get_within (x ∷ xs) zero lt = (x, refl)
get_within (x ∷ xs) (suc i) lt = get_within xs i (omega arith)

-- memories

name_refl : (n : List ℕ) → name_eq n n ≡ true
name_refl [] = refl
name_refl (i ∷ n) = ap₂ (λ a b. a && b) (eq-eqb i i refl) (name_refl n)

entity_refl : (x : Entity) → entity_eq x x ≡ true
entity_refl (VariableOf k) = eq-eqb k k refl
entity_refl (ConstantOf k) = eq-eqb k k refl

pub instance_refl : (x : Instance) → instance_eq x x ≡ true
instance_refl x = ap₂ (λ a b. a && b) (ap₂ (λ a b. a && b) (eq-eqb x.number x.number refl) (entity_refl x.object)) (name_refl x.thread)

pub put_same : (m : Memory) (x : Instance) (i : ℕ) (v : ℤ) → (put m x i v).cells x i ≡ v
put_same m x i v = ap₂ (λ a b. cond (a && b) v (m.cells x i)) (eq-eqb i i refl) (instance_refl x)

pub put_elsewhere : (m : Memory) (x y : Instance) (i j : ℕ) (v : ℤ) → (i ≡ j → x ≡ y → ⊥) → (put m x i v).cells y j ≡ m.cells y j
put_elsewhere m x y i j v ne = go (nat_eq i j) (instance_eq x y) refl refl
  where
    go : (a b : Bool) → nat_eq i j ≡ a → instance_eq x y ≡ b → cond (nat_eq i j && instance_eq x y) v (m.cells y j) ≡ m.cells y j
    go true true e f = absurd (ne (eqb-true i j e) (instance_same x y f))
    go true false e f = ap₂ (λ a b. cond (a && b) v (m.cells y j)) e f
    go false b e f = ap₂ (λ a b. cond (a && b) v (m.cells y j)) e f

pub put_all_out : (vs : List ℤ) (m : Memory) (x : Instance) (j i : ℕ) → (i < j) ⊎ (j + length vs ≤ i) → (put_all m x j vs).cells x i ≡ m.cells x i
put_all_out [] m x j i out = refl
put_all_out (v ∷ vs) m x j i out =
    put_all_out vs (put m x j v) x (suc j) i (⊎_elim (λ h. inl (omega arith)) (λ h. inr (omega arith)) out)
    ∙ put_elsewhere m x x j i v (λ e f. ⊎_elim (λ h. omega arith) (λ h. omega arith) out)

pub put_all_in : (vs : List ℤ) (m : Memory) (x : Instance) (j i : ℕ) (v : ℤ) → slice_get vs i ≡ Some v → (put_all m x j vs).cells x (j + i) ≡ v
put_all_in [] m x j i v e = absurd (none-some v e)
put_all_in (w ∷ vs) m x j zero v e =
    ap ((put_all (put m x j w) x (suc j) vs).cells x) (let h : j + 0 ≡ j = omega arith in h)
    ∙ put_all_out vs (put m x j w) x (suc j) j (inl (omega arith)) ∙ put_same m x j w ∙ some_same w v e
put_all_in (w ∷ vs) m x j (suc i) v e =
    ap ((put_all (put m x j w) x (suc j) vs).cells x) (let h : j + suc i ≡ suc j + i = omega arith in h)
    ∙ put_all_in vs (put m x j w) x (suc j) i v e

-- values of a variable at the end

pub filled_values : (n : ℕ) (vs : List ℤ) (m : Memory) (x : Instance) (j : ℕ) → ((i : ℕ) → get_or vs i (pos 0) ≡ m.cells x (j + i)) → filled n vs ≡ values m x j n
filled_values zero vs m x j h = refl
filled_values (suc n) [] m x j h =
    ap₂ (λ v ws. v ∷ ws) (h 0 ∙ ap (m.cells x) (let e : j + 0 ≡ j = omega arith in e))
    (filled_values n [] m x (suc j) (λ i. h (suc i) ∙ ap (m.cells x) (let e : j + suc i ≡ suc j + i = omega arith in e)))
filled_values (suc n) (v ∷ vs) m x j h =
    ap₂ (λ v ws. v ∷ ws) (h 0 ∙ ap (m.cells x) (let e : j + 0 ≡ j = omega arith in e))
    (filled_values n vs m x (suc j) (λ i. h (suc i) ∙ ap (m.cells x) (let e : j + suc i ≡ suc j + i = omega arith in e)))

-- a part of a list, and zeros where it has no more
pub part_values : (n a : ℕ) (kept : List ℤ) (m : Memory) (x : Instance) → ((i : ℕ) → i < n → slice_get kept (a + i) ≡ Some (m.cells x i)) → ((i : ℕ) → n ≤ i → m.cells x i ≡ pos 0)
    → (i : ℕ) → get_or (take n (drop a kept)) i (pos 0) ≡ m.cells x i
part_values n a kept m x right zeros i = go (ltb i n) refl
  where
    go : (c : Bool) → ltb i n ≡ c → get_or (take n (drop a kept)) i (pos 0) ≡ m.cells x i
    go true e = let lt = ltb-true i n e in get_or-take n (drop a kept) i (pos 0) lt ∙ get_or-drop a kept i (pos 0) ∙ get_or_from_slice_get kept (a + i) (m.cells x i) (pos 0) (right i lt)
    go false e = let le = ltb-false i n e in get_or_past (take n (drop a kept)) i (pos 0) (let h = length-take n (drop a kept) in omega arith) ∙ sym (zeros i le)
