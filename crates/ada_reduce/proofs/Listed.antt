-- The listed operators: what makes their folds the same however values are cut.
use Rattle.std.proofs.Common.{◌≡◌, ℕ, ◌+◌, ◌-◌, ◌*◌, ◌%◌, ◌<◌, max, min, int_le, ℤ, pos, ◌+ℤ◌, ◌*ℤ◌, List, [], ◌∷◌, ◌++◌, Some, cond, Bool, true, false, refl, sym, subst, ap, ◌∙◌, arith}
use Rattle.std.specs.Prelude.{◌-ℤ◌, int_lt}
use Rattle.std.proofs.Math.IntN.{+ℤ_assoc, +ℤ_comm, +ℤ_idl, +ℤ_idr, *ℤ_comm, *ℤ-one, one}
use Rattle.std.proofs.Math.Nat.{mul_comm, mod-eq_of_lt, zero-mod}
use Rattle.std.proofs.lemmas.Bool.{leb-true}
use Rattle.std.proofs.lemmas.Nat.{and_assoc, and_comm, or_comm, xor_comm}
use Rattle.std.specs.Int.Bits.{and_self, or_self, xor_assoc}
use Rattle.std.specs.Int.RustNames.{bit_and, bit_or, bit_xor}
use Rattle.std.proofs.lemmas.Int.{ints, clamps}
use Rattle.std.specs.Int.{int_min, int_max}
use Rattle.ada_base.specs.declared.operation.Base.{Base}
use Rattle.ada_base.specs.declared.operation.Base.TheVariants.{Narrow, Wide, Modulo}
use Rattle.ada_base.specs.declared.operation.Op.{Op}
use Rattle.ada_base.specs.declared.operation.Op.TheVariants as op
use Rattle.ada_base.specs.Operation.{is_in_base, within, turned, digits, modulus, unbounded, result_of, IsBit}
use Rattle.typed_tree.specs.declared.scalars.Class.{Class}
use Rattle.typed_tree.specs.declared.scalars.Class.TheVariants as class
use Rattle.typed_tree.specs.declared.expressions.Reducer.TheVariants.{Operator}
use Rattle.ada_meaning.specs.Values.{base_of, binary_digits, truth, bit, differ}
use Rattle.ada_meaning.specs.Sequential.{IsListed, HasNoPartialOverflow, EachSegment, total, product}
use Rattle.ada_meaning.proofs.Digits.{or_assoc, sum_assoc, product_assoc, kept_again, digits_kept}
use Rattle.ada_meaning.proofs.Folds.{over}
use Rattle.ada_reduce.specs.Folds.{IsTaken}
use Rattle.ada_reduce.proofs.Products.{times_assoc}
use Rattle.ada_reduce.proofs.Folding.{within_some, bits_to}

-- what a step puts together, and whether that fits
pub record Listed (o : Op) (class : Class) (initial : ℤ) : Type 0 where
  pub put : ℤ → ℤ → ℤ
  pub fits : ℤ → Bool
  pub assoc : (a b c : ℤ) → put (put a b) c ≡ put a (put b c)
  pub comm : (a b : ℤ) → put a b ≡ put b a
  pub idle : put initial initial ≡ initial
  pub step : (a v : ℤ) → IsTaken o (base_of class) a → IsTaken o (base_of class) v → fits (put a v) ≡ true → result_of o (base_of class) a v ≡ Some (put a v)
  pub segments : (at : ℕ) (values : List ℤ) → HasNoPartialOverflow (Operator at o class) values → (before part after : List ℤ) → values ≡ before ++ (part ++ after) → fits (over put initial part) ≡ true

over_total : (a : ℤ) (vs : List ℤ) → over (λ x y. x +ℤ y) a vs ≡ a +ℤ total vs
over_total a [] = sym (+ℤ_idr a)
over_total a (v ∷ vs) = over_total (a +ℤ v) vs ∙ +ℤ_assoc a v (total vs)

times_one : (m : ℤ) → m *ℤ pos 1 ≡ m
unfolding one
times_one m = *ℤ-one m

over_product : (a : ℤ) (vs : List ℤ) → over (λ x y. x *ℤ y) a vs ≡ a *ℤ product vs
over_product a [] = sym (times_one a)
over_product a (v ∷ vs) = over_product (a *ℤ v) vs ∙ times_assoc a v (product vs)

max_assoc : (a b c : ℤ) → int_max (int_max a b) c ≡ int_max a (int_max b c)
max_assoc a b c = omega (arith, ints, clamps)

max_comm : (a b : ℤ) → int_max a b ≡ int_max b a
max_comm a b = omega (arith, ints, clamps)

max_idle : (a : ℤ) → int_max a a ≡ a
max_idle a = omega (arith, ints, clamps)

min_assoc : (a b c : ℤ) → int_min (int_min a b) c ≡ int_min a (int_min b c)
min_assoc a b c = omega (arith, ints, clamps)

min_comm : (a b : ℤ) → int_min a b ≡ int_min b a
min_comm a b = omega (arith, ints, clamps)

min_idle : (a : ℤ) → int_min a a ≡ a
min_idle a = omega (arith, ints, clamps)

-- the greater and the lesser of two numbers are one of them
either_in : (base : Base) (t : Bool) (x y : ℤ) → is_in_base base x ≡ true → is_in_base base y ≡ true → is_in_base base (cond t x y) ≡ true
either_in base true x y h k = h
either_in base false x y h k = k

max_in : (base : Base) (x y : ℤ) → is_in_base base x ≡ true → is_in_base base y ≡ true → is_in_base base (int_max x y) ≡ true
max_in base x y h k = either_in base (int_lt y x) x y h k

min_in : (base : Base) (x y : ℤ) → is_in_base base x ≡ true → is_in_base base y ≡ true → is_in_base base (int_min x y) ≡ true
min_in base x y h k = either_in base (int_lt y x) y x k h

abbrev differs : ℤ → ℤ → ℤ
differs a b = bit (differ (truth a) (truth b))

differs_assoc : (a b c : ℤ) → differs (differs a b) c ≡ differs a (differs b c)
differs_assoc a b c = go (truth a) (truth b) (truth c)
  where
    go : (x y z : Bool) → bit (differ (truth (bit (differ x y))) z) ≡ bit (differ x (truth (bit (differ y z))))
    go true true true = refl
    go true true false = refl
    go true false true = refl
    go true false false = refl
    go false true true = refl
    go false true false = refl
    go false false true = refl
    go false false false = refl

differs_comm : (a b : ℤ) → differs a b ≡ differs b a
differs_comm a b = go (truth a) (truth b)
  where
    go : (x y : Bool) → bit (differ x y) ≡ bit (differ y x)
    go true true = refl
    go true false = refl
    go false true = refl
    go false false = refl

differ_narrow : (a b : ℤ) → IsBit a → IsBit b → within Narrow (Some (int_max a b -ℤ int_min a b)) ≡ Some (differs a b)
differ_narrow a b x y = bits_to (λ a b. within Narrow (Some (int_max a b -ℤ int_min a b)) ≡ Some (differs a b)) refl refl refl refl a b x y

differ_wide : (a b : ℤ) → IsBit a → IsBit b → within Wide (Some (int_max a b -ℤ int_min a b)) ≡ Some (differs a b)
differ_wide a b x y = bits_to (λ a b. within Wide (Some (int_max a b -ℤ int_min a b)) ≡ Some (differs a b)) refl refl refl refl a b x y

-- a class that isn't modular
record Plain (class : Class) : Type 0 where
  pub same : (o : Op) (a v : ℤ) → result_of o (base_of class) a v ≡ within (base_of class) (unbounded o a v)
  pub totals : (at : ℕ) (vs : List ℤ) → HasNoPartialOverflow (Operator at op.Add class) vs → EachSegment total (base_of class) vs
  pub products : (at : ℕ) (vs : List ℤ) → HasNoPartialOverflow (Operator at op.Mul class) vs → EachSegment product (base_of class) vs
  pub bits : (a b : ℤ) → IsTaken op.Xor (base_of class) a → IsTaken op.Xor (base_of class) b → within (base_of class) (Some (int_max a b -ℤ int_min a b)) ≡ Some (differs a b)
  pub inside : (o : Op) (z : ℤ) → IsTaken o (base_of class) z → is_in_base (base_of class) z ≡ true

plain_listed : (at : ℕ) (o : Op) (class : Class) (initial : ℤ) → Plain class → IsListed (Operator at o class) initial → Listed o class initial
plain_listed at op.Add class initial p e = record {
  put = λ a b. a +ℤ b;
  fits = λ z. is_in_base (base_of class) z;
  assoc = +ℤ_assoc;
  comm = +ℤ_comm;
  idle = subst (λ z. z +ℤ z ≡ z) (sym e) refl;
  step = λ a v s t h. p.same op.Add a v ∙ within_some (base_of class) (a +ℤ v) h;
  segments = λ k values h before part after eq. ap (λ z. is_in_base (base_of class) z) (ap (λ z. over (λ x y. x +ℤ y) z part) e ∙ over_total (pos 0) part ∙ +ℤ_idl (total part)) ∙ p.totals k values h before part after eq;
}
plain_listed at op.Mul class initial p e = record {
  put = λ a b. a *ℤ b;
  fits = λ z. is_in_base (base_of class) z;
  assoc = times_assoc;
  comm = *ℤ_comm;
  idle = subst (λ z. z *ℤ z ≡ z) (sym e.0) refl;
  step = λ a v s t h. p.same op.Mul a v ∙ within_some (base_of class) (a *ℤ v) h;
  segments = λ k values h before part after eq. ap (λ z. is_in_base (base_of class) z) (ap (λ z. over (λ x y. x *ℤ y) z part) e.0 ∙ over_product (pos 1) part ∙ *ℤ_comm (pos 1) (product part) ∙ times_one (product part)) ∙ p.products k values h before part after eq;
}
plain_listed at op.Xor class initial p e = record {
  put = differs;
  fits = λ z. true;
  assoc = differs_assoc;
  comm = differs_comm;
  idle = subst (λ z. differs z z ≡ z) (sym e) refl;
  step = λ a v s t h. p.same op.Xor a v ∙ p.bits a v s t;
  segments = λ k values u before part after eq. refl;
}
plain_listed at op.And class initial p e = record {
  put = int_min;
  fits = λ z. true;
  assoc = min_assoc;
  comm = min_comm;
  idle = min_idle initial;
  step = λ a v s t h. p.same op.And a v ∙ within_some (base_of class) (int_min a v) (min_in (base_of class) a v (p.inside op.And a s) (p.inside op.And v t));
  segments = λ k values u before part after eq. refl;
}
plain_listed at op.Or class initial p e = record {
  put = int_max;
  fits = λ z. true;
  assoc = max_assoc;
  comm = max_comm;
  idle = max_idle initial;
  step = λ a v s t h. p.same op.Or a v ∙ within_some (base_of class) (int_max a v) (max_in (base_of class) a v (p.inside op.Or a s) (p.inside op.Or v t));
  segments = λ k values u before part after eq. refl;
}
plain_listed at op.Max class initial p e = record {
  put = int_max;
  fits = λ z. true;
  assoc = max_assoc;
  comm = max_comm;
  idle = max_idle initial;
  step = λ a v s t h. p.same op.Max a v ∙ within_some (base_of class) (int_max a v) (max_in (base_of class) a v (p.inside op.Max a s) (p.inside op.Max v t));
  segments = λ k values u before part after eq. refl;
}
plain_listed at op.Min class initial p e = record {
  put = int_min;
  fits = λ z. true;
  assoc = min_assoc;
  comm = min_comm;
  idle = min_idle initial;
  step = λ a v s t h. p.same op.Min a v ∙ within_some (base_of class) (int_min a v) (min_in (base_of class) a v (p.inside op.Min a s) (p.inside op.Min v t));
  segments = λ k values u before part after eq. refl;
}
plain_listed at op.Sub class initial p e = absurd e
plain_listed at op.Div class initial p e = absurd e
plain_listed at op.Mod class initial p e = absurd e
plain_listed at op.Rem class initial p e = absurd e
plain_listed at op.Pow class initial p e = absurd e

-- the steps of a modular type, by numbers: none overflows
by_numbers : (o : Op) (k : ℕ) (initial : ℤ) (f : ℕ → ℕ → ℕ) → ((a b c : ℕ) → f (f a b) c ≡ f a (f b c)) → ((a b : ℕ) → f a b ≡ f b a)
    → f (digits initial) (digits initial) ≡ digits initial → turned (pos (digits initial)) ≡ initial
    → ((a v : ℤ) → result_of o (Modulo (binary_digits k)) a v ≡ Some (turned (pos (f (digits a) (digits v))))) → Listed o (class.Integer (Modulo k)) initial
by_numbers o k initial f assoc comm idle kept step = record {
  put = λ a b. turned (pos (f (digits a) (digits b)));
  fits = λ z. true;
  assoc = λ a b c. ap (λ n. turned (pos n)) (ap (λ n. f n (digits c)) (digits_kept (f (digits a) (digits b))) ∙ assoc (digits a) (digits b) (digits c) ∙ sym (ap (f (digits a)) (digits_kept (f (digits b) (digits c)))));
  comm = λ a b. ap (λ n. turned (pos n)) (comm (digits a) (digits b));
  idle = ap (λ n. turned (pos n)) idle ∙ kept;
  step = λ a v s t h. step a v;
  segments = λ k values u before part after eq. refl;
}

zero_digits : (z : ℤ) → z ≡ pos 0 → digits z ≡ 0
zero_digits z e = ap digits e

zero_kept : (z : ℤ) → z ≡ pos 0 → turned (pos (digits z)) ≡ z
zero_kept z e = subst (λ x. turned (pos (digits x)) ≡ x) (sym e) refl

one_fits : (k : ℕ) → is_in_base (Modulo k) (pos 1) ≡ true → 1 < modulus k
one_fits k h = go (modulus k) h
  where
    go : (m : ℕ) → int_le (pos 1) (pos (m - 1)) ≡ true → 1 < m
    go m e = let l = leb-true 1 (m - 1) e in omega arith

greater : (m n : ℕ) → int_max (pos m) (pos n) ≡ pos (max m n)
greater m n = omega (arith, ints, clamps)

lesser : (m n : ℕ) → int_min (pos m) (pos n) ≡ pos (min m n)
lesser m n = omega (arith, ints, clamps)

modular_listed : (at : ℕ) (o : Op) (k : ℕ) (initial : ℤ) → IsListed (Operator at o (class.Integer (Modulo k))) initial → Listed o (class.Integer (Modulo k)) initial
modular_listed at op.Add k initial h = let m : ℕ = modulus (binary_digits k) in
    by_numbers op.Add k initial (λ a b. (a + b) % m) (sum_assoc m) (λ a b. ap (λ n. n % m) (omega arith)) (ap (λ n. (n + n) % m) (zero_digits initial h) ∙ zero-mod m ∙ sym (zero_digits initial h)) (zero_kept initial h) (λ a v. refl)
modular_listed at op.Mul k initial h = let m : ℕ = modulus (binary_digits k) in
    by_numbers op.Mul k initial (λ a b. (a * b) % m) (product_assoc m) (λ a b. ap (λ n. n % m) (mul_comm a b))
    (subst (λ z. (digits z * digits z) % m ≡ digits z) (sym h.0) (mod-eq_of_lt (one_fits (binary_digits k) (subst (λ z. is_in_base (Modulo (binary_digits k)) z ≡ true) h.0 h.1)))) (kept_again (binary_digits k) initial h.1) (λ a v. refl)
modular_listed at op.Xor k initial h = by_numbers op.Xor k initial bit_xor xor_assoc xor_comm (ap (λ n. bit_xor n n) (zero_digits initial h) ∙ sym (zero_digits initial h)) (zero_kept initial h) (λ a v. refl)
modular_listed at op.And k initial h = by_numbers op.And k initial bit_and (λ a b c. and_assoc c a b) and_comm (and_self (digits initial)) (kept_again (binary_digits k) initial h) (λ a v. refl)
modular_listed at op.Or k initial h = by_numbers op.Or k initial bit_or (λ a b c. or_assoc c a b) or_comm (or_self (digits initial)) (kept_again (binary_digits k) initial h) (λ a v. refl)
modular_listed at op.Max k initial h = by_numbers op.Max k initial max (λ a b c. omega arith) (λ a b. omega arith) (omega arith) (kept_again (binary_digits k) initial h) (λ a v. ap (λ z. Some (turned z)) (greater (digits a) (digits v)))
modular_listed at op.Min k initial h = by_numbers op.Min k initial min (λ a b c. omega arith) (λ a b. omega arith) (omega arith) (kept_again (binary_digits k) initial h) (λ a v. ap (λ z. Some (turned z)) (lesser (digits a) (digits v)))
modular_listed at op.Sub k initial h = absurd h
modular_listed at op.Div k initial h = absurd h
modular_listed at op.Mod k initial h = absurd h
modular_listed at op.Rem k initial h = absurd h
modular_listed at op.Pow k initial h = absurd h

pub listed : (at : ℕ) (o : Op) (d : Class) (initial : ℤ) → IsListed (Operator at o d) initial → Listed o d initial
listed at o (class.Integer (Modulo k)) initial h = modular_listed at o k initial h
listed at o (class.Integer Narrow) initial h =
    plain_listed at o (class.Integer Narrow) initial (record { same = λ o a v. refl; totals = λ at vs e. e; products = λ at vs e. e; bits = λ a b s t. differ_narrow a b s.operand t.operand; inside = λ o z t. t.in_base }) h
listed at o (class.Integer Wide) initial h =
    plain_listed at o (class.Integer Wide) initial (record { same = λ o a v. refl; totals = λ at vs e. e; products = λ at vs e. e; bits = λ a b s t. differ_wide a b s.operand t.operand; inside = λ o z t. t.in_base }) h
listed at o class.Boolean initial h = plain_listed at o class.Boolean initial (record { same = λ o a v. refl; totals = λ at vs e. e; products = λ at vs e. e; bits = λ a b s t. differ_narrow a b s.operand t.operand; inside = λ o z t. t.in_base }) h
listed at o class.Universal initial h = plain_listed at o class.Universal initial (record { same = λ o a v. refl; totals = λ at vs e. e; products = λ at vs e. e; bits = λ a b s t. differ_wide a b s.operand t.operand; inside = λ o z t. t.in_base }) h
