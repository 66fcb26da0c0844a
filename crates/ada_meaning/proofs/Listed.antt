-- The reducers of the list: folds of parts, put together, are the fold of the whole.
use Rattle.std.proofs.Common.{◌≡◌, ℕ, zero, suc, ◌+◌, ◌-◌, ◌*◌, ◌%◌, ◌<◌, max, min, ℤ, pos, negsuc, neg_ℤ, ◌+ℤ◌, ◌*ℤ◌, int_le, Option, List, [], ◌∷◌, ◌++◌, Some, None, is_some, if◌then◌else◌, Bool, true, false, refl, sym, subst, ap, ap₂, ◌∙◌, arith, append_assoc, append-nil, mul-zero}
use Rattle.std.proofs.Math.Nat.{mul_assoc, mul_comm, mod-eq_of_lt, zero-mod}
use Rattle.std.proofs.lemmas.Bool.{leb-true}
use Rattle.std.proofs.lemmas.Nat.{and_assoc, and_comm, or_comm, xor_comm}
use Rattle.std.specs.Int.Bits.{and_self, or_self, xor_assoc}
use Rattle.std.specs.Int.RustNames.{bit_and, bit_or, bit_xor}
use Rattle.std.proofs.Math.IntN.{+ℤ_assoc, +ℤ_comm, +ℤ_idl, +ℤ_idr, *ℤ_comm, *ℤ-one, one}
use Rattle.std.proofs.lemmas.Int.{ints, clamps}
use Rattle.std.specs.Int.{int_min, int_max}
use Rattle.ada_base.specs.declared.reason.Reason.TheVariants as reason
use Rattle.ada_base.specs.declared.operation.Op.{Op}
use Rattle.ada_base.specs.declared.operation.Op.TheVariants as op
use Rattle.ada_base.specs.declared.operation.Base.TheVariants.{Narrow, Wide, Modulo}
use Rattle.ada_base.specs.Operation.{is_in_base, within, turned, digits, modulus}
use Rattle.typed_tree.specs.declared.scalars.Class.{Class}
use Rattle.typed_tree.specs.declared.scalars.Class.TheVariants as class
use Rattle.typed_tree.specs.declared.expressions.Reducer.{Reducer}
use Rattle.typed_tree.specs.declared.expressions.Reducer.TheVariants.{Operator, Function}
use Rattle.behaviours.specs.Doings.{onto}
use Rattle.behaviours.specs.Paths.{Raises, Instance, End, Gives, Leaves, Path, Scope}
use Rattle.behaviours.specs.Memory.{Memory}
use Rattle.ada_meaning.specs.Values.{base_of, binary_digits, result, value_or_zero, truth, bit, differ}
use Rattle.ada_meaning.specs.Operations.{OverflowCheck, reduce}
use Rattle.ada_meaning.specs.Planned
use Rattle.ada_meaning.specs.Planned.{Planned, plain, next, doings, ◌>>=◌}
use Rattle.ada_meaning.specs.Sequential.{IsListed, HasNoPartialOverflow, EachSegment, total, product}
use Rattle.ada_meaning.proofs.Digits.{or_assoc, sum_assoc, product_assoc, kept_again, digits_kept}
use Rattle.ada_meaning.proofs.Folds.{over, over_append, concat}

-- a step of a fold: its result, or the failed check
abbrev pub stepped : Bool → ℤ → End ℤ
stepped true z = Gives z
stepped false z = Leaves (Raises reason.ConstraintError)

-- a reducer of the list with its initial value
pub record Listed (by : Reducer) (at : ℕ) (initial : ℤ) : Type 0 where
  pub put : ℤ → ℤ → ℤ
  pub fits : ℤ → Bool
  pub assoc : (a b c : ℤ) → put (put a b) c ≡ put a (put b c)
  pub comm : (a b : ℤ) → put a b ≡ put b a
  pub idle : put initial initial ≡ initial
  pub step : (call : ℤ → ℤ → Planned ℤ) (a v : ℤ) (s : Scope Instance) (p : Path Instance) (m : Memory) → reduce doings Planned.checks by at call a v s p m ≡ plain p m (stepped (fits (put a v)) (put a v))
  pub segments : (values : List ℤ) → HasNoPartialOverflow by values → (before part after : List ℤ) → values ≡ before ++ (part ++ after) → fits (over put initial part) ≡ true

-- products

abbrev signed : Bool → ℕ → ℤ
signed true m = pos m
signed false m = neg_ℤ (pos m)

abbrev same : Bool → Bool → Bool
same true b = b
same false true = false
same false false = true

neg_zero : (k : ℕ) → k ≡ 0 → pos k ≡ neg_ℤ (pos k)
neg_zero k e = subst (λ z. pos z ≡ neg_ℤ (pos z)) (sym e) refl

pub zero_times : (n : ℕ) → 0 * n ≡ 0
zero_times n = mul_comm 0 n ∙ mul-zero n

signed_mul : (s t : Bool) (m n : ℕ) → signed s m *ℤ signed t n ≡ signed (same s t) (m * n)
signed_mul true true m n = refl
signed_mul true false m zero = neg_zero (m * 0) (mul-zero m)
signed_mul true false m (suc n) = refl
signed_mul false true zero n = neg_zero (0 * n) (zero_times n)
signed_mul false true (suc m) n = refl
signed_mul false false zero zero = refl
signed_mul false false zero (suc n) = ap neg_ℤ (ap pos (zero_times (suc n))) ∙ ap pos (sym (zero_times (suc n)))
signed_mul false false (suc m) zero = sym (neg_zero (suc m * 0) (mul-zero (suc m)))
signed_mul false false (suc m) (suc n) = refl

same_assoc : (s t u : Bool) → same (same s t) u ≡ same s (same t u)
same_assoc true t u = refl
same_assoc false true u = refl
same_assoc false false true = refl
same_assoc false false false = refl

parts_of : (z : ℤ) → (s : Bool) × (m : ℕ) × (z ≡ signed s m)
parts_of (pos m) = (true, m, refl)
parts_of (negsuc m) = (false, suc m, refl)

signed_assoc : (s t u : Bool) (a b c : ℕ) → (signed s a *ℤ signed t b) *ℤ signed u c ≡ signed s a *ℤ (signed t b *ℤ signed u c)
signed_assoc s t u a b c =
    ap (λ z. z *ℤ signed u c) (signed_mul s t a b) ∙ signed_mul (same s t) u (a * b) c
    ∙ ap₂ signed (same_assoc s t u) (mul_assoc a b c)
    ∙ sym (signed_mul s (same t u) a (b * c)) ∙ ap (λ z. signed s a *ℤ z) (sym (signed_mul t u b c))

times_assoc : (a b c : ℤ) → (a *ℤ b) *ℤ c ≡ a *ℤ (b *ℤ c)
times_assoc a b c =
    let x = parts_of a in let y = parts_of b in let z = parts_of c in
    ap (λ k. (k *ℤ b) *ℤ c) x.2 ∙ ap (λ k. (signed x.0 x.1 *ℤ k) *ℤ c) y.2 ∙ ap (λ k. (signed x.0 x.1 *ℤ signed y.0 y.1) *ℤ k) z.2
    ∙ signed_assoc x.0 y.0 z.0 x.1 y.1 z.1
    ∙ ap (λ k. signed x.0 x.1 *ℤ (signed y.0 y.1 *ℤ k)) (sym z.2) ∙ ap (λ k. signed x.0 x.1 *ℤ (k *ℤ c)) (sym y.2) ∙ ap (λ k. k *ℤ (b *ℤ c)) (sym x.2)

-- the greatest and the least

max_assoc : (a b c : ℤ) → int_max (int_max a b) c ≡ int_max a (int_max b c)
max_assoc a b c = omega (arith, ints, clamps)

max_comm : (a b : ℤ) → int_max a b ≡ int_max b a
max_comm a b = omega (arith, ints, clamps)

max_idle : (a : ℤ) → int_max a a ≡ a
max_idle a = omega (arith, ints, clamps)

min_assoc : (a b c : ℤ) → int_min (int_min a b) c ≡ int_min a (int_min b c)
min_assoc a b c = omega (arith, ints, clamps)

min_comm : (a b : ℤ) → int_min a b ≡ int_min b a
min_comm a b = omega (arith, ints, clamps)

min_idle : (a : ℤ) → int_min a a ≡ a
min_idle a = omega (arith, ints, clamps)

-- truth values

abbrev differs : ℤ → ℤ → ℤ
differs a b = bit (differ (truth a) (truth b))

differs_assoc : (a b c : ℤ) → differs (differs a b) c ≡ differs a (differs b c)
differs_assoc a b c = go (truth a) (truth b) (truth c)
  where
    go : (x y z : Bool) → bit (differ (truth (bit (differ x y))) z) ≡ bit (differ x (truth (bit (differ y z))))
    go true true true = refl
    go true true false = refl
    go true false true = refl
    go true false false = refl
    go false true true = refl
    go false true false = refl
    go false false true = refl
    go false false false = refl

differs_comm : (a b : ℤ) → differs a b ≡ differs b a
differs_comm a b = go (truth a) (truth b)
  where
    go : (x y : Bool) → bit (differ x y) ≡ bit (differ y x)
    go true true = refl
    go true false = refl
    go false true = refl
    go false false = refl

-- sums and products of values

over_total : (a : ℤ) (vs : List ℤ) → over (λ x y. x +ℤ y) a vs ≡ a +ℤ total vs
over_total a [] = sym (+ℤ_idr a)
over_total a (v ∷ vs) = over_total (a +ℤ v) vs ∙ +ℤ_assoc a v (total vs)

times_one : (m : ℤ) → m *ℤ pos 1 ≡ m
unfolding one
times_one m = *ℤ-one m

over_product : (a : ℤ) (vs : List ℤ) → over (λ x y. x *ℤ y) a vs ≡ a *ℤ product vs
over_product a [] = sym (times_one a)
over_product a (v ∷ vs) = over_product (a *ℤ v) vs ∙ times_assoc a v (product vs)

-- a step by its result
abbrev operated : Option ℤ → ℕ → Planned ℤ
operated z at = ◌>>=◌ (Planned.ret {A = Unit {0}} tt) (λ _. ◌>>=◌ (Planned.checks OverflowCheck at (is_some z)) (λ _. Planned.ret (value_or_zero z)))

-- a step with a check
checked_step : (c : Bool) (z : ℤ) (at : ℕ) (s : Scope Instance) (p : Path Instance) (m : Memory)
    → ◌>>=◌ (Planned.ret {A = Unit {0}} tt) (λ _. ◌>>=◌ (Planned.checks OverflowCheck at (is_some (if c then Some z else None))) (λ _. Planned.ret (value_or_zero (if c then Some z else None)))) s p m ≡ plain p m (stepped c z)
checked_step true z at s p m = refl
checked_step false z at s p m = refl

-- the steps of a type that isn't modular
adds_up : (t at : ℕ) (class : Class) (initial : ℤ) → ((a v : ℤ) → result op.Add class a v ≡ within (base_of class) (Some (a +ℤ v))) → ((vs : List ℤ) → HasNoPartialOverflow (Operator t op.Add class) vs → EachSegment total (base_of class) vs)
    → initial ≡ pos 0 → Listed (Operator t op.Add class) at initial
adds_up t at class initial same each e = record {
  put = λ a b. a +ℤ b;
  fits = λ z. is_in_base (base_of class) z;
  assoc = +ℤ_assoc;
  comm = +ℤ_comm;
  idle = subst (λ z. z +ℤ z ≡ z) (sym e) refl;
  step = λ call a v s p m. ap (λ z. operated z at s p m) (same a v) ∙ checked_step (is_in_base (base_of class) (a +ℤ v)) (a +ℤ v) at s p m;
  segments = λ values h before part after eq. ap (λ z. is_in_base (base_of class) z) (ap (λ z. over (λ x y. x +ℤ y) z part) e ∙ over_total (pos 0) part ∙ +ℤ_idl (total part)) ∙ each values h before part after eq;
}

multiplies : (t at : ℕ) (class : Class) (initial : ℤ) → ((a v : ℤ) → result op.Mul class a v ≡ within (base_of class) (Some (a *ℤ v))) → ((vs : List ℤ) → HasNoPartialOverflow (Operator t op.Mul class) vs → EachSegment product (base_of class) vs)
    → initial ≡ pos 1 → Listed (Operator t op.Mul class) at initial
multiplies t at class initial same each e = record {
  put = λ a b. a *ℤ b;
  fits = λ z. is_in_base (base_of class) z;
  assoc = times_assoc;
  comm = *ℤ_comm;
  idle = subst (λ z. z *ℤ z ≡ z) (sym e) refl;
  step = λ call a v s p m. ap (λ z. operated z at s p m) (same a v) ∙ checked_step (is_in_base (base_of class) (a *ℤ v)) (a *ℤ v) at s p m;
  segments = λ values h before part after eq. ap (λ z. is_in_base (base_of class) z) (ap (λ z. over (λ x y. x *ℤ y) z part) e ∙ over_product (pos 1) part ∙ *ℤ_comm (pos 1) (product part) ∙ times_one (product part)) ∙ each values h before part after eq;
}

-- those that have no check
unchecked : (by : Reducer) (at : ℕ) (initial : ℤ) (put : ℤ → ℤ → ℤ) → ((a b c : ℤ) → put (put a b) c ≡ put a (put b c)) → ((a b : ℤ) → put a b ≡ put b a) → put initial initial ≡ initial
    → ((call : ℤ → ℤ → Planned ℤ) (a v : ℤ) (s : Scope Instance) (p : Path Instance) (m : Memory) → reduce doings Planned.checks by at call a v s p m ≡ plain p m (Gives (put a v))) → Listed by at initial
unchecked by at initial put assoc comm idle step = record { put = put; fits = λ z. true; assoc = assoc; comm = comm; idle = idle; step = step; segments = λ values u before part after eq. refl }

-- those of a modular type, by numbers
by_numbers : (by : Reducer) (at : ℕ) (initial : ℤ) (f : ℕ → ℕ → ℕ) → ((a b c : ℕ) → f (f a b) c ≡ f a (f b c)) → ((a b : ℕ) → f a b ≡ f b a) → f (digits initial) (digits initial) ≡ digits initial → turned (pos (digits initial)) ≡ initial
    → ((call : ℤ → ℤ → Planned ℤ) (a v : ℤ) (s : Scope Instance) (p : Path Instance) (m : Memory) → reduce doings Planned.checks by at call a v s p m ≡ plain p m (Gives (turned (pos (f (digits a) (digits v)))))) → Listed by at initial
by_numbers by at initial f assoc comm idle kept step = unchecked by at initial (λ a b. turned (pos (f (digits a) (digits b))))
    (λ a b c. ap (λ n. turned (pos n)) (ap (λ n. f n (digits c)) (digits_kept (f (digits a) (digits b))) ∙ assoc (digits a) (digits b) (digits c) ∙ sym (ap (f (digits a)) (digits_kept (f (digits b) (digits c))))))
    (λ a b. ap (λ n. turned (pos n)) (comm (digits a) (digits b)))
    (ap (λ n. turned (pos n)) idle ∙ kept)
    step

zero_digits : (z : ℤ) → z ≡ pos 0 → digits z ≡ 0
zero_digits z e = ap digits e

zero_kept : (z : ℤ) → z ≡ pos 0 → turned (pos (digits z)) ≡ z
zero_kept z e = subst (λ x. turned (pos (digits x)) ≡ x) (sym e) refl

one_fits : (k : ℕ) → is_in_base (Modulo k) (pos 1) ≡ true → 1 < modulus k
one_fits k h = go (modulus k) h
  where
    go : (m : ℕ) → int_le (pos 1) (pos (m - 1)) ≡ true → 1 < m
    go m e = let l = leb-true 1 (m - 1) e in omega arith

greater : (m n : ℕ) → int_max (pos m) (pos n) ≡ pos (max m n)
greater m n = omega (arith, ints, clamps)

lesser : (m n : ℕ) → int_min (pos m) (pos n) ≡ pos (min m n)
lesser m n = omega (arith, ints, clamps)

modular_listed : (t : ℕ) (o : Op) (k at : ℕ) (initial : ℤ) → IsListed (Operator t o (class.Integer (Modulo k))) initial → Listed (Operator t o (class.Integer (Modulo k))) at initial
modular_listed t op.Add k at initial h = by_numbers _ at initial (λ a b. (a + b) % modulus (binary_digits k)) (sum_assoc (modulus (binary_digits k))) (λ a b. ap (λ n. n % modulus (binary_digits k)) (omega arith))
    (ap (λ n. (n + n) % modulus (binary_digits k)) (zero_digits initial h) ∙ zero-mod (modulus (binary_digits k)) ∙ sym (zero_digits initial h)) (zero_kept initial h) (λ call a v s p m. refl)
modular_listed t op.Mul k at initial h = by_numbers _ at initial (λ a b. (a * b) % modulus (binary_digits k)) (product_assoc (modulus (binary_digits k))) (λ a b. ap (λ n. n % modulus (binary_digits k)) (mul_comm a b))
    (subst (λ z. (digits z * digits z) % modulus (binary_digits k) ≡ digits z) (sym h.0) (mod-eq_of_lt (one_fits (binary_digits k) (subst (λ z. is_in_base (Modulo (binary_digits k)) z ≡ true) h.0 h.1)))) (kept_again (binary_digits k) initial h.1) (λ call a v s p m. refl)
modular_listed t op.Xor k at initial h = by_numbers _ at initial bit_xor xor_assoc xor_comm (ap (λ n. bit_xor n n) (zero_digits initial h) ∙ sym (zero_digits initial h)) (zero_kept initial h) (λ call a v s p m. refl)
modular_listed t op.And k at initial h = by_numbers _ at initial bit_and (λ a b c. and_assoc c a b) and_comm (and_self (digits initial)) (kept_again (binary_digits k) initial h) (λ call a v s p m. refl)
modular_listed t op.Or k at initial h = by_numbers _ at initial bit_or (λ a b c. or_assoc c a b) or_comm (or_self (digits initial)) (kept_again (binary_digits k) initial h) (λ call a v s p m. refl)
modular_listed t op.Max k at initial h = by_numbers _ at initial max (λ a b c. omega arith) (λ a b. omega arith) (omega arith) (kept_again (binary_digits k) initial h) (λ call a v s p m. ap (λ z. plain p m (Gives (turned z))) (greater (digits a) (digits v)))
modular_listed t op.Min k at initial h = by_numbers _ at initial min (λ a b c. omega arith) (λ a b. omega arith) (omega arith) (kept_again (binary_digits k) initial h) (λ call a v s p m. ap (λ z. plain p m (Gives (turned z))) (lesser (digits a) (digits v)))
modular_listed t op.Sub k at initial h = absurd h
modular_listed t op.Div k at initial h = absurd h
modular_listed t op.Mod k at initial h = absurd h
modular_listed t op.Rem k at initial h = absurd h
modular_listed t op.Pow k at initial h = absurd h

plain_listed : (t : ℕ) (class : Class) (o : Op) (at : ℕ) (initial : ℤ) → IsListed (Operator t o class) initial → Listed (Operator t o class) at initial
plain_listed t (class.Integer (Modulo k)) o at initial h = modular_listed t o k at initial h
plain_listed t class.Boolean op.Add at initial h = adds_up t at class.Boolean initial (λ a v. refl) (λ vs each. each) h
plain_listed t class.Boolean op.Mul at initial h = multiplies t at class.Boolean initial (λ a v. refl) (λ vs each. each) h.0
plain_listed t class.Boolean op.Xor at initial h = unchecked _ at initial differs differs_assoc differs_comm (subst (λ z. differs z z ≡ z) (sym h) refl) (λ call a v s p m. refl)
plain_listed t class.Boolean op.And at initial h = unchecked _ at initial int_min min_assoc min_comm (min_idle initial) (λ call a v s p m. refl)
plain_listed t class.Boolean op.Or at initial h = unchecked _ at initial int_max max_assoc max_comm (max_idle initial) (λ call a v s p m. refl)
plain_listed t class.Boolean op.Max at initial h = unchecked _ at initial int_max max_assoc max_comm (max_idle initial) (λ call a v s p m. refl)
plain_listed t class.Boolean op.Min at initial h = unchecked _ at initial int_min min_assoc min_comm (min_idle initial) (λ call a v s p m. refl)
plain_listed t class.Boolean op.Sub at initial h = absurd h
plain_listed t class.Boolean op.Div at initial h = absurd h
plain_listed t class.Boolean op.Mod at initial h = absurd h
plain_listed t class.Boolean op.Rem at initial h = absurd h
plain_listed t class.Boolean op.Pow at initial h = absurd h
plain_listed t (class.Integer Narrow) op.Add at initial h = adds_up t at (class.Integer Narrow) initial (λ a v. refl) (λ vs each. each) h
plain_listed t (class.Integer Narrow) op.Mul at initial h = multiplies t at (class.Integer Narrow) initial (λ a v. refl) (λ vs each. each) h.0
plain_listed t (class.Integer Narrow) op.Xor at initial h = unchecked _ at initial differs differs_assoc differs_comm (subst (λ z. differs z z ≡ z) (sym h) refl) (λ call a v s p m. refl)
plain_listed t (class.Integer Narrow) op.And at initial h = unchecked _ at initial int_min min_assoc min_comm (min_idle initial) (λ call a v s p m. refl)
plain_listed t (class.Integer Narrow) op.Or at initial h = unchecked _ at initial int_max max_assoc max_comm (max_idle initial) (λ call a v s p m. refl)
plain_listed t (class.Integer Narrow) op.Max at initial h = unchecked _ at initial int_max max_assoc max_comm (max_idle initial) (λ call a v s p m. refl)
plain_listed t (class.Integer Narrow) op.Min at initial h = unchecked _ at initial int_min min_assoc min_comm (min_idle initial) (λ call a v s p m. refl)
plain_listed t (class.Integer Narrow) op.Sub at initial h = absurd h
plain_listed t (class.Integer Narrow) op.Div at initial h = absurd h
plain_listed t (class.Integer Narrow) op.Mod at initial h = absurd h
plain_listed t (class.Integer Narrow) op.Rem at initial h = absurd h
plain_listed t (class.Integer Narrow) op.Pow at initial h = absurd h
plain_listed t (class.Integer Wide) op.Add at initial h = adds_up t at (class.Integer Wide) initial (λ a v. refl) (λ vs each. each) h
plain_listed t (class.Integer Wide) op.Mul at initial h = multiplies t at (class.Integer Wide) initial (λ a v. refl) (λ vs each. each) h.0
plain_listed t (class.Integer Wide) op.Xor at initial h = unchecked _ at initial differs differs_assoc differs_comm (subst (λ z. differs z z ≡ z) (sym h) refl) (λ call a v s p m. refl)
plain_listed t (class.Integer Wide) op.And at initial h = unchecked _ at initial int_min min_assoc min_comm (min_idle initial) (λ call a v s p m. refl)
plain_listed t (class.Integer Wide) op.Or at initial h = unchecked _ at initial int_max max_assoc max_comm (max_idle initial) (λ call a v s p m. refl)
plain_listed t (class.Integer Wide) op.Max at initial h = unchecked _ at initial int_max max_assoc max_comm (max_idle initial) (λ call a v s p m. refl)
plain_listed t (class.Integer Wide) op.Min at initial h = unchecked _ at initial int_min min_assoc min_comm (min_idle initial) (λ call a v s p m. refl)
plain_listed t (class.Integer Wide) op.Sub at initial h = absurd h
plain_listed t (class.Integer Wide) op.Div at initial h = absurd h
plain_listed t (class.Integer Wide) op.Mod at initial h = absurd h
plain_listed t (class.Integer Wide) op.Rem at initial h = absurd h
plain_listed t (class.Integer Wide) op.Pow at initial h = absurd h
plain_listed t class.Universal op.Add at initial h = adds_up t at class.Universal initial (λ a v. refl) (λ vs each. each) h
plain_listed t class.Universal op.Mul at initial h = multiplies t at class.Universal initial (λ a v. refl) (λ vs each. each) h.0
plain_listed t class.Universal op.Xor at initial h = unchecked _ at initial differs differs_assoc differs_comm (subst (λ z. differs z z ≡ z) (sym h) refl) (λ call a v s p m. refl)
plain_listed t class.Universal op.And at initial h = unchecked _ at initial int_min min_assoc min_comm (min_idle initial) (λ call a v s p m. refl)
plain_listed t class.Universal op.Or at initial h = unchecked _ at initial int_max max_assoc max_comm (max_idle initial) (λ call a v s p m. refl)
plain_listed t class.Universal op.Max at initial h = unchecked _ at initial int_max max_assoc max_comm (max_idle initial) (λ call a v s p m. refl)
plain_listed t class.Universal op.Min at initial h = unchecked _ at initial int_min min_assoc min_comm (min_idle initial) (λ call a v s p m. refl)
plain_listed t class.Universal op.Sub at initial h = absurd h
plain_listed t class.Universal op.Div at initial h = absurd h
plain_listed t class.Universal op.Mod at initial h = absurd h
plain_listed t class.Universal op.Rem at initial h = absurd h
plain_listed t class.Universal op.Pow at initial h = absurd h

pub listed : (by : Reducer) (at : ℕ) (initial : ℤ) → IsListed by initial → Listed by at initial
listed (Operator t o class) at initial h = plain_listed t class o at initial h
listed (Function t sub x y) at initial h = absurd h

-- parts put together

module _ (by : Reducer) (at : ℕ) (initial : ℤ) (l : Listed by at initial) where
  over_onto : (a b : ℤ) (vs : List ℤ) → l.put a (over l.put b vs) ≡ over l.put (l.put a b) vs
  over_onto a b [] = refl
  over_onto a b (v ∷ vs) = over_onto a (l.put b v) vs ∙ ap (λ z. over l.put z vs) (sym (l.assoc a b v))

  -- the initial value once more changes nothing
  again : (a : ℤ) (vs : List ℤ) → l.put a initial ≡ a → l.put (over l.put a vs) initial ≡ over l.put a vs
  again a [] e = e
  again a (v ∷ vs) e = again (l.put a v) vs (l.assoc a v initial ∙ ap (l.put a) (l.comm v initial) ∙ sym (l.assoc a initial v) ∙ ap (λ z. l.put z v) e)

  pub join : (vs ws : List ℤ) → l.put (over l.put initial vs) (over l.put initial ws) ≡ over l.put initial (vs ++ ws)
  join vs ws =
      over_onto (over l.put initial vs) initial ws
      ∙ ap (λ z. over l.put z ws) (again initial vs l.idle)
      ∙ sym (over_append l.put initial vs ws)

  abbrev pub folds : List (List ℤ) → List ℤ
  folds [] = []
  folds (vs ∷ vss) = over l.put initial vs ∷ folds vss

  module _ (values : List ℤ) (none : HasNoPartialOverflow by values) (call : ℤ → ℤ → Planned ℤ) where
    pub step_fits : (a v : ℤ) (s : Scope Instance) (p : Path Instance) (m : Memory) → l.fits (l.put a v) ≡ true → reduce doings Planned.checks by at call a v s p m ≡ plain p m (Gives (l.put a v))
    step_fits a v s p m h = l.step call a v s p m ∙ ap (λ z. plain p m (stepped z (l.put a v))) h

    onto_folds : (before : List ℤ) (vss : List (List ℤ)) (s : Scope Instance) (p : Path Instance) (m : Memory) → values ≡ before ++ concat vss
        → onto doings (over l.put initial before) (folds vss) (reduce doings Planned.checks by at call) s p m ≡ plain p m (Gives (over l.put initial values))
    onto_folds before [] s p m e = ap (λ z. plain p m (Gives (over l.put initial z))) (sym (append-nil before) ∙ sym e)
    onto_folds before (vs ∷ vss) s p m e =
        let a = over l.put initial before in
        let b = over l.put initial vs in
        let e' : values ≡ (before ++ vs) ++ concat vss = e ∙ sym (append_assoc before vs (concat vss)) in
        let ok : l.fits (l.put a b) ≡ true = ap l.fits (join before vs) ∙ l.segments values none [] (before ++ vs) (concat vss) e' in
        let rest = λ (z : ℤ). onto doings z (folds vss) (reduce doings Planned.checks by at call) in
        ap (λ z. next s z z.end (λ c. rest c)) (step_fits a b s p m ok)
        ∙ ap (λ z. rest z s p m) (join before vs)
        ∙ onto_folds (before ++ vs) vss s p m e'

    pub combined_folds : (limit : ℕ) (cuts : ℕ → ℕ → List ℕ) (vss : List (List ℤ)) (s : Scope Instance) (p : Path Instance) (m : Memory) → values ≡ concat vss
        → Planned.combined limit cuts initial (folds vss) (reduce doings Planned.checks by at call) s p m ≡ plain p m (Gives (over l.put initial values))
    combined_folds limit cuts [] s p m e = ap (λ z. plain p m (Gives (over l.put initial z))) (sym e)
    combined_folds limit cuts (vs ∷ vss) s p m e = onto_folds vs vss s p m e
