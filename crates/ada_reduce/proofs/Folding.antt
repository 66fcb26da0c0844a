-- Values that an operation takes, and what is folded of them.
use Rattle.std.proofs.Common.{◌≡◌, ℕ, zero, suc, ◌+◌, ◌<◌, ℤ, pos, List, [], ◌∷◌, length, get_or, drop, Option, Some, None, Bool, true, false, refl, sym, ap, subst, ◌∙◌, inl, inr, arith}
use Rattle.std.specs.Prelude.{if◌then◌else◌, ◌-ℤ◌}
use Rattle.std.specs.Int.{int_min, int_max}
use Rattle.std.proofs.Math.Seq.{drop-cons}
use Rattle.ada_base.specs.declared.operation.Base.{Base}
use Rattle.ada_base.specs.declared.operation.Base.TheVariants.{Narrow, Wide, Modulo}
use Rattle.ada_base.specs.declared.operation.Op.{Op}
use Rattle.ada_base.specs.declared.operation.Op.TheVariants as op
use Rattle.ada_base.specs.Operation.{is_in_base, within, unbounded, result_of, IsBit, IsOperand}
use Rattle.ada_reduce.specs.Folds.{where_some, fold_of, IsTaken, AreTaken}

some_is : {A : Type 0} (z w : A) → ◌≡◌ {A = Option A} (Some z) (Some w) → z ≡ w
some_is z w e = cc

none_is : {A : Type 0} (w : A) → ◌≡◌ {A = Option A} None (Some w) → ⊥
none_is w e = cc

none_some : {A P : Type 0} (w : A) → ◌≡◌ {A = Option A} None (Some w) → P
none_some w e = absurd (none_is w e)

-- what has a result within the base range
in_if : (base : Base) (c : Bool) (z w : ℤ) → is_in_base base z ≡ c → (if c then Some z else None) ≡ Some w → (w ≡ z) × (is_in_base base w ≡ true)
in_if base true z w h e = let is = some_is z w e in (sym is, subst (λ k. is_in_base base k ≡ true) is h)
in_if base false z w h e = none_some w e

within_in : (base : Base) (o : Option ℤ) (w : ℤ) → within base o ≡ Some w → is_in_base base w ≡ true
within_in base None w e = none_some w e
within_in base (Some z) w e = (in_if base (is_in_base base z) z w refl e).1

within_is : (base : Base) (z w : ℤ) → within base (Some z) ≡ Some w → w ≡ z
within_is base z w e = (in_if base (is_in_base base z) z w refl e).0

pub within_some : (base : Base) (z : ℤ) → is_in_base base z ≡ true → within base (Some z) ≡ Some z
within_some base z h = ap (λ c. if c then Some z else None) h

pub bits_to : (P : ℤ → ℤ → Type 0) → P (pos 0) (pos 0) → P (pos 0) (pos 1) → P (pos 1) (pos 0) → P (pos 1) (pos 1) → (a b : ℤ) → IsBit a → IsBit b → P a b
bits_to P p q r s a b (inl x) (inl y) = subst (λ z. P z b) (sym x) (subst (λ z. P (pos 0) z) (sym y) p)
bits_to P p q r s a b (inl x) (inr y) = subst (λ z. P z b) (sym x) (subst (λ z. P (pos 0) z) (sym y) q)
bits_to P p q r s a b (inr x) (inl y) = subst (λ z. P z b) (sym x) (subst (λ z. P (pos 1) z) (sym y) r)
bits_to P p q r s a b (inr x) (inr y) = subst (λ z. P z b) (sym x) (subst (λ z. P (pos 1) z) (sym y) s)

bit_of : (o : Op) (base : Base) (f : ℤ → ℤ → ℤ) → IsBit (f (pos 0) (pos 0)) → IsBit (f (pos 0) (pos 1)) → IsBit (f (pos 1) (pos 0)) → IsBit (f (pos 1) (pos 1))
    → (a b w : ℤ) → IsBit a → IsBit b → within base (Some (f a b)) ≡ Some w → IsBit w
bit_of o base f p q r s a b w x y e = subst IsBit (sym (within_is base (f a b) w e)) (bits_to (λ a b. IsBit (f a b)) p q r s a b x y)

operand_kept : (o : Op) (base : Base) (a b w : ℤ) → IsOperand o a → IsOperand o b → within base (unbounded o a b) ≡ Some w → IsOperand o w
operand_kept op.And base a b w x y e = bit_of op.And base int_min (inl refl) (inl refl) (inl refl) (inr refl) a b w x y e
operand_kept op.Or base a b w x y e = bit_of op.Or base int_max (inl refl) (inr refl) (inr refl) (inr refl) a b w x y e
operand_kept op.Xor base a b w x y e = bit_of op.Xor base (λ a b. int_max a b -ℤ int_min a b) (inl refl) (inr refl) (inr refl) (inl refl) a b w x y e
operand_kept op.Add base a b w x y e = tt
operand_kept op.Sub base a b w x y e = tt
operand_kept op.Mul base a b w x y e = tt
operand_kept op.Div base a b w x y e = tt
operand_kept op.Mod base a b w x y e = tt
operand_kept op.Rem base a b w x y e = tt
operand_kept op.Pow base a b w x y e = tt
operand_kept op.Max base a b w x y e = tt
operand_kept op.Min base a b w x y e = tt

-- a result is taken again
pub taken_on : (o : Op) (base : Base) (a b w : ℤ) → IsTaken o base a → IsTaken o base b → result_of o base a b ≡ Some w → IsTaken o base w
taken_on o Narrow a b w s t e = record { in_base = within_in Narrow (unbounded o a b) w e; operand = operand_kept o Narrow a b w s.operand t.operand e }
taken_on o Wide a b w s t e = record { in_base = within_in Wide (unbounded o a b) w e; operand = operand_kept o Wide a b w s.operand t.operand e }
taken_on o (Modulo k) a b w s t e = record { in_base = tt; operand = tt }

pub taken_at : (o : Op) (base : Base) (vs : List ℤ) (i : ℕ) (d : ℤ) → AreTaken o base vs → i < length vs → IsTaken o base (get_or vs i d)
taken_at o base [] i d t lt = absurd (omega (arith, lt))
taken_at o base (v ∷ vs) zero d t lt = t.0
taken_at o base (v ∷ vs) (suc i) d t lt = taken_at o base vs i d t.1 (omega (arith, lt))

-- one value more
pub fold_on : (o : Op) (base : Base) (a w : ℤ) (vs : List ℤ) (i : ℕ) (d : ℤ) → i < length vs → result_of o base a (get_or vs i d) ≡ Some w → fold_of o base a (drop i vs) ≡ fold_of o base w (drop (i + 1) vs)
fold_on o base a w vs i d lt e =
    let next : suc i ≡ i + 1 = omega arith in
    ap (λ l. fold_of o base a l) (drop-cons vs i d lt) ∙ ap (λ r. where_some r (λ b. fold_of o base b (drop (suc i) vs))) e ∙ ap (λ k. fold_of o base w (drop k vs)) next

pub fold_off : (o : Op) (base : Base) (a : ℤ) (vs : List ℤ) (i : ℕ) (d : ℤ) → i < length vs → result_of o base a (get_or vs i d) ≡ None → fold_of o base a (drop i vs) ≡ None
fold_off o base a vs i d lt e = ap (λ l. fold_of o base a l) (drop-cons vs i d lt) ∙ ap (λ r. where_some r (λ b. fold_of o base b (drop (suc i) vs))) e
