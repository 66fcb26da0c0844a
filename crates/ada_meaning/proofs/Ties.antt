-- Two deterministic runs that name the instances of threads in different ways: which of the one and the other are those of
-- one object. What the outermost path elaborates has the same name in both.
use Rattle.std.proofs.Common.{◌≡◌, ℕ, suc, ◌+◌, ◌<◌, ◌≤◌, ℤ, nat_eq, List, [], ◌∷◌, ◌++◌, ◌⊎◌, inl, inr, ⊎_elim, Bool, true, false, ◌&&◌, cond, refl, sym, subst, ap, ap₂, ◌∙◌, true≢false, arith, le_refl, append_assoc, length, length-append, eq-eqb, ltb, ltb-true, ltb-false}
use Rattle.std.proofs.lemmas.Bool.{eqb-false}
use Rattle.behaviours.specs.Paths.{Entity, VariableOf, ConstantOf, Region, Everywhere, Here, ThreadName, Instance, Path, instance_eq, name_eq, entity_eq, one_elaboration, enter, joined}
use Rattle.behaviours.specs.Memory.{Memory, put, put_all}
use Rattle.ada_meaning.specs.Planned.{here}
use Rattle.behaviours.proofs.Shuffle.{instance_same}

pub record Pair : Type 0 where
  pub left : Instance
  pub right : Instance
  pub cells : ℕ

abbrev pub Ties : Type 0
Ties = List Pair

-- the cells at this offset are those of one object
abbrev pub TiedAt : Ties → Instance → Instance → ℕ → Type 0
TiedAt [] x y i = (x ≡ y) × (x.thread ≡ [])
TiedAt (c ∷ w) x y i = ((c.left ≡ x) × (c.right ≡ y) × (i < c.cells)) ⊎ TiedAt w x y i

pub tied_outer : (w : Ties) (x y : Instance) (i : ℕ) → x ≡ y → x.thread ≡ [] → TiedAt w x y i
tied_outer [] x y i e o = (e, o)
tied_outer (c ∷ w) x y i e o = inr (tied_outer w x y i e o)

-- the instances that a path may still make: its own and those of the threads of its constructs
abbrev pub Future : Path Instance → Instance → Type 0
Future p x = ((x.thread ≡ p.name) × (p.elaborations ≤ x.number)) ⊎ ((inner : ThreadName) × (c : ℕ) × (p.constructs ≤ c) × (x.thread ≡ inner ++ (c ∷ p.name)))

abbrev pub Goes : Path Instance → Path Instance → Type 0
Goes p p' = (x : Instance) → Future p' x → Future p x

pub goes_one : (region : Region) (l : Instance) (p : Path Instance) → Goes p (one_elaboration region l p)
goes_one Everywhere l p x (inl (e, le)) = inl (e, omega arith)
goes_one Everywhere l p x (inr f) = inr f
goes_one Here l p x (inl (e, le)) = inl (e, omega arith)
goes_one Here l p x (inr f) = inr f

pub goes_enter : (i : ℕ) (p : Path Instance) → Goes p (enter i p)
goes_enter i p x (inl (e, le)) = inr (i ∷ [], p.constructs, le_refl p.constructs, e)
goes_enter i p x (inr (inner, c, le, e)) = inr (inner ++ (c ∷ i ∷ []), p.constructs, le_refl p.constructs, e ∙ sym (append_assoc inner (c ∷ i ∷ []) (p.constructs ∷ p.name)))

pub goes_joined : (p : Path Instance) (turns : ℕ) → Goes p (joined p turns)
goes_joined p turns x (inl f) = inl f
goes_joined p turns x (inr (inner, c, le, e)) = inr (inner, c, omega arith, e)

-- an instance that a path has just made it doesn't make again
pub fresh : (x : Entity) (region : Region) (l : Instance) (p : Path Instance) → Future (one_elaboration region l p) (here x p) → ⊥
fresh x Everywhere l p (inl (e, le)) = let h : suc p.elaborations ≤ p.elaborations = le in omega arith
fresh x Here l p (inl (e, le)) = let h : suc p.elaborations ≤ p.elaborations = le in omega arith
fresh x Everywhere l p (inr (inner, c, k, e)) = longer p.name inner c e
  where
    longer : (n inner : ThreadName) (c : ℕ) → n ≡ inner ++ (c ∷ n) → ⊥
    longer n inner c e = let same : length n ≡ length (inner ++ (c ∷ n)) = ap length e in let total : length (inner ++ (c ∷ n)) ≡ length inner + length (c ∷ n) = length-append inner (c ∷ n) in omega arith
fresh x Here l p (inr (inner, c, k, e)) = longer p.name inner c e
  where
    longer : (n inner : ThreadName) (c : ℕ) → n ≡ inner ++ (c ∷ n) → ⊥
    longer n inner c e = let same : length n ≡ length (inner ++ (c ∷ n)) = ap length e in let total : length (inner ++ (c ∷ n)) ≡ length inner + length (c ∷ n) = length-append inner (c ∷ n) in omega arith

pub now : (x : Entity) (p : Path Instance) (l : Instance) → l ≡ here x p → Future p l
now x p l e = inl (ap (λ (z : Instance). z.thread) e, subst (λ (z : Instance). p.elaborations ≤ z.number) (sym e) (le_refl p.elaborations))

-- ties are one to one, and what is tied and isn't the outermost path's isn't made later
pub record Fair (w : Ties) (p q : Path Instance) : Type 0 where
  pub forth : (x y x' y' : Instance) (i j : ℕ) → TiedAt w x y i → TiedAt w x' y' j → x ≡ x' → y ≡ y'
  pub back : (x y x' y' : Instance) (i j : ℕ) → TiedAt w x y i → TiedAt w x' y' j → y ≡ y' → x ≡ x'
  pub left : (x y : Instance) (i : ℕ) → TiedAt w x y i → (x.thread ≡ [] → ⊥) → Future p x → ⊥
  pub right : (x y : Instance) (i : ℕ) → TiedAt w x y i → (y.thread ≡ [] → ⊥) → Future q y → ⊥

pub fair_goes : (w : Ties) (p q p' q' : Path Instance) → Goes p p' → Goes q q' → Fair w p q → Fair w p' q'
fair_goes w p q p' q' g h f = record { forth = f.forth; back = f.back; left = λ x y i t o k. f.left x y i t o (g x k); right = λ x y i t o k. f.right x y i t o (h y k) }

pub fair_start : (p q : Path Instance) → Fair [] p q
fair_start p q = record {
  forth = λ x y x' y' i j t t' e. sym t.0 ∙ e ∙ t'.0;
  back = λ x y x' y' i j t t' e. t.0 ∙ e ∙ sym t'.0;
  left = λ x y i t o k. o t.1;
  right = λ x y i t o k. o (subst (λ (z : Instance). z.thread ≡ []) t.0 t.1);
}

-- fewer ties
pub fair_less : (c : Pair) (w : Ties) (p q : Path Instance) → Fair (c ∷ w) p q → Fair w p q
fair_less c w p q f = record {
  forth = λ x y x' y' i j t t' e. f.forth x y x' y' i j (inr t) (inr t') e;
  back = λ x y x' y' i j t t' e. f.back x y x' y' i j (inr t) (inr t') e;
  left = λ x y i t o k. f.left x y i (inr t) o k;
  right = λ x y i t o k. f.right x y i (inr t) o k;
}

-- a new pair of what two threads make
abbrev pub with_new : Ties → Instance → Instance → ℕ → Ties
with_new w x y n = record { left = x; right = y; cells = n } ∷ w

module _ (x : Entity) (n : ℕ) (w : Ties) (p q : Path Instance) (f : Fair w p q) (pin : p.name ≡ [] → ⊥) (qin : q.name ≡ [] → ⊥) where
  -- what is tied already isn't what is made now
  pub not_left : (a b : Instance) (i : ℕ) → TiedAt w a b i → here x p ≡ a → ⊥
  not_left a b i t e = f.left a b i t (λ o. pin (ap (λ (z : Instance). z.thread) e ∙ o)) (now x p a (sym e))

  pub not_right : (a b : Instance) (i : ℕ) → TiedAt w a b i → here x q ≡ b → ⊥
  not_right a b i t e = f.right a b i t (λ o. qin (ap (λ (z : Instance). z.thread) e ∙ o)) (now x q b (sym e))

  pub fair_new : (region : Region) → Fair (with_new w (here x p) (here x q) n) (one_elaboration region (here x p) p) (one_elaboration region (here x q) q)
  fair_new region = record {
    forth = λ a b a' b' i j t t' e. ⊎_elim
        (λ h. ⊎_elim (λ k. sym h.1 ∙ k.1) (λ k. absurd (not_left a' b' j k (h.0 ∙ e))) t')
        (λ h. ⊎_elim (λ k. absurd (not_left a b i h (k.0 ∙ sym e))) (λ k. f.forth a b a' b' i j h k e) t') t;
    back = λ a b a' b' i j t t' e. ⊎_elim
        (λ h. ⊎_elim (λ k. sym h.0 ∙ k.0) (λ k. absurd (not_right a' b' j k (h.1 ∙ e))) t')
        (λ h. ⊎_elim (λ k. absurd (not_right a b i h (k.1 ∙ sym e))) (λ k. f.back a b a' b' i j h k e) t') t;
    left = λ a b i t o k. ⊎_elim
        (λ h. fresh x region (here x p) p (subst (λ z. Future (one_elaboration region (here x p) p) z) (sym h.0) k))
        (λ h. f.left a b i h o (goes_one region (here x p) p a k)) t;
    right = λ a b i t o k. ⊎_elim
        (λ h. fresh x region (here x q) q (subst (λ z. Future (one_elaboration region (here x q) q) z) (sym h.1) k))
        (λ h. f.right a b i h o (goes_one region (here x q) q b k)) t;
  }

-- memories

abbrev pub Agree : Ties → Memory → Memory → Type 0
Agree w m n = (x y : Instance) (i : ℕ) → TiedAt w x y i → m.cells x i ≡ n.cells y i

name_refl : (n : ThreadName) → name_eq n n ≡ true
name_refl [] = refl
name_refl (i ∷ n) = ap₂ (λ a b. a && b) (eq-eqb i i refl) (name_refl n)

entity_refl : (x : Entity) → entity_eq x x ≡ true
entity_refl (VariableOf k) = eq-eqb k k refl
entity_refl (ConstantOf k) = eq-eqb k k refl

instance_refl : (x : Instance) → instance_eq x x ≡ true
instance_refl x = ap₂ (λ a b. a && b) (ap₂ (λ a b. a && b) (eq-eqb x.number x.number refl) (entity_refl x.object)) (name_refl x.thread)

same_instance : (x y : Instance) → x ≡ y → instance_eq x y ≡ true
same_instance x y e = subst (λ z. instance_eq x z ≡ true) e (instance_refl x)

-- one test on each side
same_test : (x y x' y' : Instance) → (x ≡ x' → y ≡ y') → (y ≡ y' → x ≡ x') → instance_eq x x' ≡ instance_eq y y'
same_test x y x' y' f g = go (instance_eq x x') (instance_eq y y') refl refl
  where
    go : (a b : Bool) → instance_eq x x' ≡ a → instance_eq y y' ≡ b → instance_eq x x' ≡ instance_eq y y'
    go true b e h = e ∙ sym (same_instance y y' (f (instance_same x x' e)))
    go false true e h = absurd (true≢false (sym (same_instance x x' (g (instance_same y y' h))) ∙ e))
    go false false e h = e ∙ sym h

cond_both : {A : Type 0} (a b : Bool) (v c d : A) → a ≡ b → c ≡ d → cond a v c ≡ cond b v d
cond_both a b v c d e f = ap₂ (λ z w. cond z v w) e f

cond_true : {A : Type 0} (a b : Bool) (v c : A) → a ≡ true → b ≡ true → cond (a && b) v c ≡ v
cond_true a b v c e f = ap₂ (λ y z. cond (y && z) v c) e f

cond_false : {A : Type 0} (a b : Bool) (v c : A) → a ≡ false → cond (a && b) v c ≡ c
cond_false a b v c e = ap (λ y. cond (y && b) v c) e

other : {A : Type 0} (a b : Bool) (v c : A) → b ≡ false → cond (a && b) v c ≡ c
other true b v c e = ap (λ y. cond y v c) e
other false b v c e = refl

pub put_tied : (w : Ties) (p q : Path Instance) (m n : Memory) (v : ℤ) (x y : Instance) (i : ℕ) → Fair w p q → TiedAt w x y i → Agree w m n → Agree w (put m x i v) (put n y i v)
put_tied w p q m n v x y i f t h x' y' j t' =
    cond_both (nat_eq i j && instance_eq x x') (nat_eq i j && instance_eq y y') v (m.cells x' j) (n.cells y' j)
    (ap (λ z. nat_eq i j && z) (same_test x y x' y' (f.forth x y x' y' i j t t') (f.back x y x' y' i j t t'))) (h x' y' j t')

pub put_all_tied : (w : Ties) (p q : Path Instance) (m n : Memory) (vs : List ℤ) (x y : Instance) (i : ℕ) → Fair w p q → ((j : ℕ) → TiedAt w x y j) → Agree w m n → Agree w (put_all m x i vs) (put_all n y i vs)
put_all_tied w p q m n [] x y i f t h = h
put_all_tied w p q m n (v ∷ vs) x y i f t h = put_all_tied w p q (put m x i v) (put n y i v) vs x y (suc i) f t (put_tied w p q m n v x y i f (t i) h)

pub not_below : (i : ℕ) → i < 0 → ⊥
not_below i h = omega arith

-- the first cells of two new instances
pub put_all_new : (vs : List ℤ) (m n : Memory) (x y : Instance) (j i : ℕ) → i < j + length vs → (i < j → m.cells x i ≡ n.cells y i) → (put_all m x j vs).cells x i ≡ (put_all n y j vs).cells y i
put_all_new [] m n x y j i lt h = h (omega arith)
put_all_new (v ∷ vs) m n x y j i lt h = put_all_new vs (put m x j v) (put n y j v) x y (suc j) i (omega arith) (λ k. go (nat_eq j i) refl k)
  where
    go : (c : Bool) → nat_eq j i ≡ c → i < suc j → cond (nat_eq j i && instance_eq x x) v (m.cells x i) ≡ cond (nat_eq j i && instance_eq y y) v (n.cells y i)
    go true e k = cond_true (nat_eq j i) (instance_eq x x) v (m.cells x i) e (instance_refl x) ∙ sym (cond_true (nat_eq j i) (instance_eq y y) v (n.cells y i) e (instance_refl y))
    go false e k = cond_false (nat_eq j i) (instance_eq x x) v (m.cells x i) e ∙ h (below e k) ∙ sym (cond_false (nat_eq j i) (instance_eq y y) v (n.cells y i) e)
      where
        below : nat_eq j i ≡ false → i < suc j → i < j
        below e k = near (ltb i j) refl
          where
            near : (d : Bool) → ltb i j ≡ d → i < j
            near true d = ltb-true i j d
            near false d = let le = ltb-false i j d in absurd (eqb-false j i e (omega arith))

-- the cells of another instance stay
pub put_all_other : (vs : List ℤ) (m : Memory) (x y : Instance) (j i : ℕ) → (x ≡ y → ⊥) → (put_all m x j vs).cells y i ≡ m.cells y i
put_all_other [] m x y j i ne = refl
put_all_other (v ∷ vs) m x y j i ne = put_all_other vs (put m x j v) x y (suc j) i ne ∙ go (instance_eq x y) refl
  where
    go : (c : Bool) → instance_eq x y ≡ c → cond (nat_eq j i && instance_eq x y) v (m.cells y i) ≡ m.cells y i
    go true e = absurd (ne (instance_same x y e))
    go false e = other (nat_eq j i) (instance_eq x y) v (m.cells y i) e
