-- Code that does parts: instructions that push, tests, jumps, cells that are taken.
use Rattle.std.proofs.Common.{◌≡◌, ℕ, zero, suc, ◌+◌, ◌<◌, ℤ, pos, negsuc, List, [], ◌∷◌, ◌++◌, set, slice_get, Option, Some, None, Result, Ok, Err, Bool, true, false, not, cond, is_some, option_map, unsigned_abs, arith, refl, sym, ap, ap₂, ◌∙◌, subst, le_refl, ◌⊎◌, inl, ⊎_elim}
use Rattle.ada_base.specs.declared.operation.Base.{Base}
use Rattle.ada_base.specs.declared.operation.Base.TheVariants.{Narrow, Wide, Modulo}
use Rattle.ada_base.specs.declared.operation.Op.{Op}
use Rattle.ada_base.specs.declared.operation.Op.TheVariants as op
use Rattle.ada_base.specs.declared.reason.Reason.TheVariants as reason
use Rattle.ada_base.specs.Operation.{digits, turned, unbounded, unless_zero, within, result_of}
use Rattle.std.proofs.lemmas.Bool.Decides.{nat_tests}
use Rattle.ada_base.proofs.Turning.{turned_twice}
use Rattle.std.proofs.lemmas.Option.{none-some}
use Rattle.ada_meaning.proofs.Cells.{some_same}
use Rattle.behaviours.specs.Paths.{Raises}
use Rattle.typed_tree.specs.declared.scalars.Class.{Class}
use Rattle.typed_tree.specs.declared.scalars.Class.TheVariants as class
use Rattle.typed_tree.specs.declared.scalars.Scalar.{Scalar}
use Rattle.ada_meaning.specs.Values
use Rattle.ada_meaning.specs.Values.{truth, bit, between, binary_digits, modular_digits, number_by, base_of, plain_result, result_by, result, value_or_zero, compares, differ}
use Rattle.ada_meaning.specs.Operations.{CheckKind, ZeroCheck, OverflowCheck, operate}
use Rattle.ada_meaning.specs.Stored as stored
use Rattle.ada_meaning.specs.Stored.{Stored, Cause, Left, OutOfTurns, NoRoom, CutOff, Misnoted, Touch}
use Rattle.stack_code.specs.declared.code.Code.{Code}
use Rattle.stack_code.specs.declared.instr.Instr.{Instr}
use Rattle.stack_code.specs.declared.instr.Instr.TheVariants as i
use Rattle.ada_base.specs.Cells.{Mine, where_mine}
use Rattle.stack_code.specs.Deeds
use Rattle.stack_code.specs.Deeds.{Deed, GoesOn, Fails, Stores, deed_of, pushed}
use Rattle.stack_code.specs.Machine.{done}
use Rattle.stack_code.specs.Machine
use Rattle.ada_lower.specs.Driven.{Dyn, Fixed, Step, on, state_of, driven, At, plain_applied, op_applied}
use Rattle.ada_lower.specs.Emission.{binary_instr, check_instr, fixed_instr, set_instr}
use Rattle.ada_lower.specs.Fits.{Keeps, Stands as StandsFor, allows, Ghost, Allows, Fit, Ends, left_by, Lands}
use Rattle.ada_lower.proofs.Framework.{any, To, Doing, comes_here, comes_as, comes_goes, comes_fails, does_before, does_seq, lands_from, leads_on}
use Rattle.ada_lower.proofs.Memory.{set_what, IsOwn, fit_set, what_other, what_same, at_or_not}

-- ---- numbers

pub bit_same : (b : Bool) → Deeds.bit b ≡ bit b
bit_same true = refl
bit_same false = refl

pub truth_same : (z : ℤ) → Deeds.truth z ≡ truth z
truth_same (pos zero) = refl
truth_same (pos (suc n)) = refl
truth_same (negsuc n) = refl

differ_same : (a b : Bool) → Deeds.differ a b ≡ differ a b
differ_same true b = refl
differ_same false b = refl

abbrev pub outcome : Option ℤ → Result ℤ Cause
outcome (Some v) = Ok v
outcome None = Err (Left (Raises reason.ConstraintError))

-- what the operators come to: a divisor is tested, and then the result, and where neither is, there is one
abbrev pub checked : Bool → Option ℤ → Option ℤ
checked true z = z
checked false z = Some (value_or_zero z)

abbrev pub staged : Bool → Bool → Bool → Option ℤ → Option ℤ
staged true overflows false z = None
staged true overflows true z = checked overflows z
staged false overflows nonzero z = checked overflows z

stages : (a b : CheckKind) (token : ℕ) (divides overflows nonzero : Bool) (z : Option ℤ) (s : stored.State)
    → (stored.bind (cond divides (stored.checks a token nonzero) (stored.ret tt)) (λ _. stored.bind (cond overflows (stored.checks b token (is_some z)) (stored.ret tt)) (λ _. stored.ret (value_or_zero z)))).does s
    ≡ stored.at s (outcome (staged divides overflows nonzero z))
unfolding stored.bind stored.ret stored.leaves
stages a b token true true true (Some v) s = refl
stages a b token true true true None s = refl
stages a b token true true false z s = refl
stages a b token true false true z s = refl
stages a b token true false false z s = refl
stages a b token false true nonzero (Some v) s = refl
stages a b token false true nonzero None s = refl
stages a b token false false nonzero z s = refl

-- what the machine's instruction makes of two numbers
abbrev pub made : Op → Class → ℤ → ℤ → Option ℤ
made o class x y = staged (Values.divides o) (Values.overflows o) (not (Values.is_zero y)) (result o class x y)

not_not : (b : Bool) → not (not b) ≡ b
not_not true = refl
not_not false = refl

-- the results of a class that is of no modular type, and those on its base range
result_plain : (class : Class) → modular_digits class ≡ None → (o : Op) (x y : ℤ) → plain_result o class x y ≡ result o class x y
result_plain class e o x y = ap (λ d. result_by d o class x y) (sym e)

range_plain : (class : Class) → modular_digits class ≡ None → (o : Op) (x y : ℤ) → Deeds.applied o (base_of class) x y ≡ Deeds.on_range o (base_of class) x y
range_plain class.Boolean e o x y = refl
range_plain (class.Integer Narrow) e o x y = refl
range_plain (class.Integer Wide) e o x y = refl
range_plain (class.Integer (Modulo k)) e o x y = absurd (none-some (binary_digits k) (sym e))
range_plain class.Universal e o x y = refl

-- what the stages make of a result
abbrev staging : Op → ℤ → Option ℤ → Option ℤ
staging o y z = staged (Values.divides o) (Values.overflows o) (not (Values.is_zero y)) z

remainder_staged : (y : ℤ) (z : Option ℤ) → Deeds.unless_divisor_zero (Deeds.truth y) z ≡ staged true false (not (Values.is_zero y)) z
remainder_staged (pos zero) z = refl
remainder_staged (pos (suc n)) z = refl
remainder_staged (negsuc n) z = refl

quotient_staged : (b : Base) (x y : ℤ) → within b (unbounded op.Div x y) ≡ staged true true (not (Values.is_zero y)) (within b (unbounded op.Div x y))
quotient_staged b x (pos zero) = refl
quotient_staged b x (pos (suc n)) = refl
quotient_staged b x (negsuc n) = refl

plain_made : (c : Code) (o : Op) (class : Class) (x y : ℤ) → modular_digits class ≡ None → plain_applied c o (base_of class) x y ≡ made o class x y
plain_made c o class x y e = here o ∙ ap (λ z. staging o y z) (result_plain class e o x y)
  where
    here : (o : Op) → plain_applied c o (base_of class) x y ≡ staging o y (plain_result o class x y)
    here op.Add = refl
    here op.Sub = refl
    here op.Mul = refl
    here op.Pow = refl
    here op.Div = quotient_staged (base_of class) x y
    here op.Mod = remainder_staged y (within (base_of class) (unbounded op.Mod x y))
    here op.Rem = remainder_staged y (within (base_of class) (unbounded op.Rem x y))
    here op.And = refl
    here op.Or = refl
    here op.Max = refl
    here op.Min = refl
    here op.Xor = ap (λ b. Some b) (bit_same _ ∙ ap bit (differ_same (Deeds.truth x) (Deeds.truth y) ∙ ap₂ differ (truth_same x) (truth_same y)))

-- a number that isn't zero has a binary digit, so there is a remainder
zero_of_digits : (y : ℤ) → digits y ≡ 0 → y ≡ pos 0
zero_of_digits y e = sym (turned_twice y) ∙ ap turned (zero_abs (turned y) e)
  where
    zero_abs : (z : ℤ) → unsigned_abs z ≡ 0 → z ≡ pos 0
    zero_abs (pos n) e = ap pos e
    zero_abs (negsuc n) e = absurd (omega (arith, e))

never_zero : (n : ℕ) (w : ℤ) → unless_zero (pos (suc n)) w ≡ Some w
never_zero n w = let g : 0 < suc n = omega arith in grind (arith, nat_tests)

found_value : (y : ℤ) → (y ≡ pos 0 → ⊥) → (w : ℤ) → option_map turned (unless_zero (pos (digits y)) w) ≡ Some (value_or_zero (option_map turned (unless_zero (pos (digits y)) w)))
found_value y ne w = go (digits y) (λ e. ne (zero_of_digits y e))
  where
    go : (n : ℕ) → (n ≡ 0 → ⊥) → option_map turned (unless_zero (pos n) w) ≡ Some (value_or_zero (option_map turned (unless_zero (pos n) w)))
    go zero ne = absurd (ne refl)
    go (suc n) ne = subst (λ u. option_map turned u ≡ Some (value_or_zero (option_map turned u))) (sym (never_zero n w)) refl

modular_made : (o : Op) (k : ℕ) (x y : ℤ) → Deeds.applied o (Modulo (binary_digits k)) x y ≡ made o (class.Integer (Modulo k)) x y
modular_made op.Add k x y = refl
modular_made op.Sub k x y = refl
modular_made op.Mul k x y = refl
modular_made op.Pow k x y = refl
modular_made op.And k x y = refl
modular_made op.Or k x y = refl
modular_made op.Xor k x y = refl
modular_made op.Max k x y = refl
modular_made op.Min k x y = refl
modular_made op.Div k x (pos zero) = refl
modular_made op.Div k x (pos (suc n)) = refl
modular_made op.Div k x (negsuc n) = refl
modular_made op.Mod k x (pos zero) = refl
modular_made op.Mod k x (pos (suc n)) = found_value (pos (suc n)) (λ e. absurd (let z = e in cc)) _
modular_made op.Mod k x (negsuc n) = found_value (negsuc n) (λ e. absurd (let z = e in cc)) _
modular_made op.Rem k x (pos zero) = refl
modular_made op.Rem k x (pos (suc n)) = found_value (pos (suc n)) (λ e. absurd (let z = e in cc)) _
modular_made op.Rem k x (negsuc n) = found_value (negsuc n) (λ e. absurd (let z = e in cc)) _

-- an operation in place of its instruction
pub applied_made : (c : Code) (o : Op) (class : Class) (x y : ℤ) → op_applied c o (base_of class) x y ≡ made o class x y
applied_made c o class.Boolean x y = plain_made c o class.Boolean x y refl
applied_made c o (class.Integer Narrow) x y = plain_made c o (class.Integer Narrow) x y refl
applied_made c o (class.Integer Wide) x y = plain_made c o (class.Integer Wide) x y refl
applied_made c o (class.Integer (Modulo k)) x y = modular_made o k x y
applied_made c o class.Universal x y = plain_made c o class.Universal x y refl

plain_deed : (c : Code) (q base : ℕ) (outward : List ℕ) (st : List ℤ) (o : Op) (class : Class) (x y : ℤ) → modular_digits class ≡ None → deed_of c q (y ∷ x ∷ st) base outward (binary_instr o class) ≡ pushed q (plain_applied c o (base_of class) x y) st
plain_deed c q base outward st op.Add class x y e = ap (λ z. pushed q z st) (range_plain class e op.Add x y)
plain_deed c q base outward st op.Sub class x y e = ap (λ z. pushed q z st) (range_plain class e op.Sub x y)
plain_deed c q base outward st op.Mul class x y e = ap (λ z. pushed q z st) (range_plain class e op.Mul x y)
plain_deed c q base outward st op.Div class x y e = ap (λ z. pushed q z st) (range_plain class e op.Div x y)
plain_deed c q base outward st op.Mod class x y e = ap (λ z. pushed q z st) (range_plain class e op.Mod x y)
plain_deed c q base outward st op.Rem class x y e = ap (λ z. pushed q z st) (range_plain class e op.Rem x y)
plain_deed c q base outward st op.Pow class x y e = ap (λ z. pushed q z st) (range_plain class e op.Pow x y)
plain_deed c q base outward st op.And class x y e = ap (λ d. deed_of c q (y ∷ x ∷ st) base outward (cond (is_some d) i.And i.Min)) e
plain_deed c q base outward st op.Or class x y e = ap (λ d. deed_of c q (y ∷ x ∷ st) base outward (cond (is_some d) i.Or i.Max)) e
plain_deed c q base outward st op.Xor class x y e = ap (λ d. deed_of c q (y ∷ x ∷ st) base outward (cond (is_some d) i.Xor i.Differ)) e
plain_deed c q base outward st op.Max class x y e = ap (λ d. deed_of c q (y ∷ x ∷ st) base outward (cond (is_some d) i.UMax i.Max)) e
plain_deed c q base outward st op.Min class x y e = ap (λ d. deed_of c q (y ∷ x ∷ st) base outward (cond (is_some d) i.UMin i.Min)) e

modular_deed : (c : Code) (q base : ℕ) (outward : List ℕ) (st : List ℤ) (o : Op) (k : ℕ) (x y : ℤ) → deed_of c q (y ∷ x ∷ st) base outward (binary_instr o (class.Integer (Modulo k))) ≡ pushed q (Deeds.applied o (Modulo (binary_digits k)) x y) st
modular_deed c q base outward st op.Add k x y = refl
modular_deed c q base outward st op.Sub k x y = refl
modular_deed c q base outward st op.Mul k x y = refl
modular_deed c q base outward st op.Div k x y = refl
modular_deed c q base outward st op.Mod k x y = refl
modular_deed c q base outward st op.Rem k x y = refl
modular_deed c q base outward st op.Pow k x y = refl
modular_deed c q base outward st op.And k x y = refl
modular_deed c q base outward st op.Or k x y = refl
modular_deed c q base outward st op.Xor k x y = refl
modular_deed c q base outward st op.Max k x y = refl
modular_deed c q base outward st op.Min k x y = refl

binary_made : (c : Code) (q base : ℕ) (outward : List ℕ) (st : List ℤ) (o : Op) (d : Class) (x y : ℤ) → deed_of c q (y ∷ x ∷ st) base outward (binary_instr o d) ≡ pushed q (made o d x y) st
binary_made c q base outward st o d x y = go d ∙ ap (λ z. pushed q z st) (applied_made c o d x y)
  where
    go : (d : Class) → deed_of c q (y ∷ x ∷ st) base outward (binary_instr o d) ≡ pushed q (op_applied c o (base_of d) x y) st
    go class.Boolean = plain_deed c q base outward st o class.Boolean x y refl
    go (class.Integer Narrow) = plain_deed c q base outward st o (class.Integer Narrow) x y refl
    go (class.Integer Wide) = plain_deed c q base outward st o (class.Integer Wide) x y refl
    go (class.Integer (Modulo k)) = modular_deed c q base outward st o k x y
    go class.Universal = plain_deed c q base outward st o class.Universal x y refl

-- where the right operand stands in the instruction, it makes the same of the left one
fixed_made : (c : Code) (q base : ℕ) (outward : List ℕ) (st : List ℤ) (o : Op) (class : Class) (x y : ℤ) (j : Instr) → fixed_instr o class y ≡ Some j → deed_of c q (x ∷ st) base outward j ≡ pushed q (made o class x y) st
fixed_made c q base outward st op.Add class x y j is = subst (λ j. deed_of c q (x ∷ st) base outward j ≡ pushed q (made op.Add class x y) st) (some_same (i.AddI y (base_of class)) j is) (binary_made c q base outward st op.Add class x y)
fixed_made c q base outward st op.Sub class x y j is = subst (λ j. deed_of c q (x ∷ st) base outward j ≡ pushed q (made op.Sub class x y) st) (some_same (i.SubI y (base_of class)) j is) (binary_made c q base outward st op.Sub class x y)
fixed_made c q base outward st op.Mul class x y j is = subst (λ j. deed_of c q (x ∷ st) base outward j ≡ pushed q (made op.Mul class x y) st) (some_same (i.MulI y (base_of class)) j is) (binary_made c q base outward st op.Mul class x y)
fixed_made c q base outward st op.Mod class x y j is = subst (λ j. deed_of c q (x ∷ st) base outward j ≡ pushed q (made op.Mod class x y) st) (some_same (i.ModI y (base_of class)) j is) (binary_made c q base outward st op.Mod class x y)
fixed_made c q base outward st o class x y j is = absurd (none-some j is)

pub operate_is : (o : Op) (token : ℕ) (class : Class) (x y : ℤ) (s : stored.State) → (operate stored.doings stored.checks o token class x y).does s ≡ stored.at s (outcome (made o class x y))
operate_is o token class x y s = stages ZeroCheck OverflowCheck token (Values.divides o) (Values.overflows o) (not (Values.is_zero y)) (result o class x y) s

-- a check, and then a value
pub check_is : (kind : CheckKind) (token : ℕ) (b : Bool) (s : stored.State) → (stored.checks kind token b).does s ≡ stored.at s (cond b (Ok tt) (Err (Left (Raises reason.ConstraintError))))
unfolding stored.ret stored.leaves
check_is kind token true s = refl
check_is kind token false s = refl

module _ (limit : ℕ) (c : Code) (f : Fixed) (x : Ends) where
  abbrev pub Runs : {A : Type 0} → Ghost → (A → Type 0) → Stored A → (Dyn → Step) → (A → Dyn → Step) → Type 0
  Runs g q m from to = Doing limit c f x g g q m from to

  -- what is known at once
  abbrev pub Comes_so : {A : Type 0} → (A → Type 0) → (Dyn → Step) → (A → Dyn → Step) → Result A Cause → Type 0
  Comes_so q from to (Ok a) = q a × ((d : Dyn) → To limit c (from d) (to a d))
  Comes_so q from to (Err (Left l)) = (d : Dyn) → To limit c (from d) (left_by f x l d)
  Comes_so q from to (Err y) = ⊥

  pub does_is : {A : Type 0} {g : Ghost} {q : A → Type 0} {m : Stored A} {from : Dyn → Step} {to : A → Dyn → Step} (e : Result A Cause) → ((s : stored.State) → m.does s ≡ stored.at s e) → Comes_so q from to e → Runs g q m from to
  does_is {A} {g} {q} {m} {from} {to} e is k = record { by = λ s d fit al. subst (λ r. Lands limit c f x q g (from d) s.turns to r.state r.end) (sym (is s)) (go e k s d fit) }
    where
      go : (e : Result A Cause) → Comes_so q from to e → (s : stored.State) (d : Dyn) → Fit g s d → Lands limit c f x q g (from d) s.turns to s e
      go (Ok a) k s d fit = (k.0, record { dyn = d; fit = fit; comes = k.1 d _; grows = le_refl s.turns })
      go (Err (Left l)) k s d fit = record { dyn = d; fit = fit; comes = k d _; grows = le_refl s.turns }
      go (Err OutOfTurns) k s d fit = absurd k
      go (Err CutOff) k s d fit = absurd k
      go (Err NoRoom) k s d fit = absurd k
      go (Err Misnoted) k s d fit = absurd k

  pub does_pushed : {g : Ghost} {m : Stored ℤ} {q : ℕ} {j : Instr} (o : Option ℤ) (st rest : List ℤ) → ((s : stored.State) → m.does s ≡ stored.at s (outcome o)) → At c q j x.entry
      → deed_of c q (st ++ f.below) f.base f.outward j ≡ pushed q o (rest ++ f.below) → Runs g any m (λ d. on f q st d) (λ v d. on f (q + 1) (v ∷ rest) d)
  does_pushed {q = q} (Some v) st rest is a deed = does_is (Ok v) is (tt, λ d. comes_goes limit c f st (q + 1) (v ∷ rest) d a deed)
  does_pushed None st rest is a deed = does_is (Err (Left (Raises reason.ConstraintError))) is (λ d. comes_fails limit c f st rest reason.ConstraintError d a deed)

  pub does_operate : {g : Ghost} {q : ℕ} (o : Op) (token : ℕ) (class : Class) (u v : ℤ) (st : List ℤ) → At c q (binary_instr o class) x.entry
      → Runs g any (operate stored.doings stored.checks o token class u v) (λ d. on f q (v ∷ u ∷ st) d) (λ z d. on f (q + 1) (z ∷ st) d)
  does_operate {q = q} o token class u v st a = does_pushed (made o class u v) (v ∷ u ∷ st) st (operate_is o token class u v) a (binary_made c q f.base f.outward (st ++ f.below) o class u v)

  -- its right operand stands in the instruction
  pub does_fixed : {g : Ghost} {q : ℕ} (o : Op) (token : ℕ) (class : Class) (u v : ℤ) (j : Instr) (st : List ℤ) → fixed_instr o class v ≡ Some j → At c q j x.entry
      → Runs g any (operate stored.doings stored.checks o token class u v) (λ d. on f q (u ∷ st) d) (λ z d. on f (q + 1) (z ∷ st) d)
  does_fixed {q = q} o token class u v j st is a = does_pushed (made o class u v) (u ∷ st) st (operate_is o token class u v) a (fixed_made c q f.base f.outward (st ++ f.below) o class u v j is)

  -- what the instructions of a check come to
  pub check_deed : (q : ℕ) (k : Scalar) (v : ℤ) (st : List ℤ) (b : Bool) → Values.is_in k v ≡ b → deed_of c q (v ∷ st) f.base f.outward (check_instr k) ≡ pushed q (cond b (Some v) None) st
  check_deed q k v st b e = go (modular_digits k.class) e
    where
      go : (d : Option ℕ) → between (number_by d k.low) (number_by d v) (number_by d k.high) ≡ b → deed_of c q (v ∷ st) f.base f.outward (cond (is_some d) (i.URange k.low k.high) (i.Range k.low k.high)) ≡ pushed q (cond b (Some v) None) st
      go None e = ap (λ b. pushed q (cond b (Some v) None) st) e
      go (Some n) e = ap (λ b. pushed q (cond b (Some v) None) st) e

  pub set_deed : (q n : ℕ) (k : Scalar) (v : ℤ) (st : List ℤ) (b : Bool) → Values.is_in k v ≡ b → deed_of c q (v ∷ st) f.base f.outward (set_instr k n) ≡ Deeds.stored q (pos (f.base + n)) (cond b (Some v) None) st
  set_deed q n k v st b e = go (modular_digits k.class) e
    where
      go : (d : Option ℕ) → between (number_by d k.low) (number_by d v) (number_by d k.high) ≡ b → deed_of c q (v ∷ st) f.base f.outward (cond (is_some d) (i.USetL n k.low k.high) (i.SetL n k.low k.high)) ≡ Deeds.stored q (pos (f.base + n)) (cond b (Some v) None) st
      go None e = ap (λ b. Deeds.stored q (pos (f.base + n)) (cond b (Some v) None) st) e
      go (Some m) e = ap (λ b. Deeds.stored q (pos (f.base + n)) (cond b (Some v) None) st) e

  -- the number on the stack is checked and stays
  pub does_check : {g : Ghost} {q : ℕ} (kind : CheckKind) (token : ℕ) (k : Scalar) (v : ℤ) (b : Bool) (st : List ℤ) → Values.is_in k v ≡ b → At c q (check_instr k) x.entry
      → Runs g (λ _. b ≡ true) (stored.checks kind token b) (λ d. on f q (v ∷ st) d) (λ _ d. on f (q + 1) (v ∷ st) d)
  does_check {q = q} kind token k v true st e a =
      does_is (Ok tt) (check_is kind token true) (refl, λ d. comes_goes limit c f (v ∷ st) (q + 1) (v ∷ st) d a (check_deed q k v (st ++ f.below) true e))
  does_check {q = q} kind token k v false st e a =
      does_is (Err (Left (Raises reason.ConstraintError))) (check_is kind token false) (λ d. comes_fails limit c f (v ∷ st) st reason.ConstraintError d a (check_deed q k v (st ++ f.below) false e))

  -- the number on the stack is checked by the instruction that then stores it
  pub does_within : {g : Ghost} {q : ℕ} (kind : CheckKind) (token n : ℕ) (k : Scalar) (v : ℤ) (b : Bool) (st : List ℤ) → Values.is_in k v ≡ b → At c q (set_instr k n) x.entry
      → Runs g (λ _. b ≡ true) (stored.checks kind token b) (λ d. on f q (v ∷ st) d) (λ _ d. on f q (v ∷ st) d)
  does_within {q = q} kind token n k v true st e a = does_is (Ok tt) (check_is kind token true) (refl, λ d. comes_here limit c (on f q (v ∷ st) d))
  does_within {q = q} kind token n k v false st e a =
      does_is (Err (Left (Raises reason.ConstraintError))) (check_is kind token false) (λ d. comes_fails limit c f (v ∷ st) st reason.ConstraintError d a (set_deed q n k v (st ++ f.below) false e))

  -- the value goes on to another place
  pub does_to : {A : Type 0} {g h : Ghost} {q : A → Type 0} {m : Stored A} {from : Dyn → Step} {to : A → Dyn → Step} (to' : A → Dyn → Step) → ((a : A) (d : Dyn) → q a → To limit c (to a d) (to' a d)) → Doing limit c f x g h q m from to → Doing limit c f x g h q m from to'
  does_to {A} {g} {h} {q} {m} {from} {to} to' k j = record { by = λ s d fit al. go s.turns (from d) (m.does s).state (m.does s).end (j.by s d fit al) }
    where
      go : (n : ℕ) (p : Step) (t : stored.State) (e : Result A Cause) → Lands limit c f x q h p n to t e → Lands limit c f x q h p n to' t e
      go n p t (Ok a) l = (l.0, record { dyn = l.1.dyn; fit = l.1.fit; comes = leads_on limit c l.1.comes (k a l.1.dyn l.0 _); grows = l.1.grows })
      go n p t (Err (Left y)) l = l
      go n p t (Err OutOfTurns) l = l
      go n p t (Err CutOff) l = l
      go n p t (Err NoRoom) l = tt
      go n p t (Err Misnoted) l = l

  -- less is asked of what fits in the end
  pub does_weak : {A : Type 0} {g h h' : Ghost} {q : A → Type 0} {m : Stored A} {from : Dyn → Step} {to : A → Dyn → Step} → ((s : stored.State) (d : Dyn) → Fit h s d → Fit h' s d) → Doing limit c f x g h q m from to → Doing limit c f x g h' q m from to
  does_weak {A} {g} {h} {h'} {q} {m} {from} {to} w j = record { by = λ s d fit al. lands_from limit c f x q to _ _ (comes_here limit c (from d) _) (le_refl s.turns) w (j.by s d fit al) }

  -- the same values, of which something else is told
  pub does_tell : {A : Type 0} {g h : Ghost} {p q : A → Type 0} {m : Stored A} {from : Dyn → Step} {to : A → Dyn → Step} → ((a : A) → p a → q a) → Doing limit c f x g h p m from to → Doing limit c f x g h q m from to
  does_tell {A} {g} {h} {p} {q} {m} {from} {to} k j = record { by = λ s d fit al. go s.turns (from d) (m.does s).state (m.does s).end (j.by s d fit al) }
    where
      go : (n : ℕ) (o : Step) (t : stored.State) (e : Result A Cause) → Lands limit c f x p h o n to t e → Lands limit c f x q h o n to t e
      go n o t (Ok a) l = (k a l.0, l.1)
      go n o t (Err (Left y)) l = l
      go n o t (Err OutOfTurns) l = l
      go n o t (Err CutOff) l = l
      go n o t (Err NoRoom) l = tt
      go n o t (Err Misnoted) l = l

  -- what stands for cells of the stored run did so before
  abbrev pub Fewer : Ghost → Ghost → Type 0
  Fewer g h = (a : ℕ) (y : _) (p : _) → h.what a ≡ StandsFor y p → (g.what a ≡ StandsFor y p) ⊎ ((b : Bool) → allows y b ≡ true)

  pub allows_fewer : (g h : Ghost) (ts : List Touch) → Fewer g h → Allows g ts → Allows h ts
  allows_fewer g h [] k al = tt
  allows_fewer g h (t ∷ ts) k al = (λ a y e. ⊎_elim (λ o. al.0 a y o) (λ o. o t.writes) (k a y t.place e), allows_fewer g h ts k al.1)

  -- machine steps before a part, by which more is known
  pub does_first : {A : Type 0} {g g' h : Ghost} {q : A → Type 0} {m : Stored A} {from from' : Dyn → Step} {to : A → Dyn → Step} → Fewer g g'
      → ((s : stored.State) (d : Dyn) → Fit g s d → (d' : Dyn) × Fit g' s d' × To limit c (from d) (from' d')) → Doing limit c f x g' h q m from' to → Doing limit c f x g h q m from to
  does_first {A} {g} {g'} {h} {q} {m} {from} {from'} {to} few k j = record {
    by = λ s d fit al.
        let (d', fit', comes) = k s d fit in
        lands_from limit c f x q to _ _ (comes _) (le_refl s.turns) (λ s d fit. fit) (j.by s d' fit' (allows_fewer g g' (m.touches s) few al.0, al.1));
  }

  pub fewer_keeps : (g : Ghost) (a : ℕ) (v : ℤ) → Fewer g (set_what a (Keeps v) g)
  fewer_keeps g a v b y p e = inl (⊎_elim
      (λ z. absurd (no_keep (sym (what_same g a (Keeps v)) ∙ ap (set_what a (Keeps v) g).what z ∙ e)))
      (λ ne. sym (what_other g a b (Keeps v) ne) ∙ e)
      (at_or_not a b))
    where
      no_keep : Keeps v ≡ StandsFor y p → ⊥
      no_keep e = cc

  -- the number on the stack goes to an own cell, by any instruction that writes it there
  writes_own : {A : Type 0} {g h : Ghost} {q : A → Type 0} {m : Stored A} {to : A → Dyn → Step} {k : Instr} (at_ n : ℕ) (v : ℤ) (st : List ℤ) → IsOwn (g.what (f.base + n)) → At c at_ k x.entry → deed_of c at_ (v ∷ st ++ f.below) f.base f.outward k ≡ Stores (pos (f.base + n)) v (GoesOn (at_ + 1) (st ++ f.below))
      → Doing limit c f x (set_what (f.base + n) (Keeps v) g) h q m (λ d. on f (at_ + 1) st d) to → Doing limit c f x g h q m (λ d. on f at_ (v ∷ st) d) to
  writes_own {A} {g} {h} {q} {m} {to} at_ n v st own a deed j = does_first (fewer_keeps g (f.base + n) v) (λ s d fit.
      let (u, is) = own s (slice_get d.cells (f.base + n)) (fit.cells (f.base + n)) in (
        record d { cells = set d.cells (f.base + n) (Mine v) },
        fit_set (f.base + n) v own fit,
        comes_as limit c f (v ∷ st) d a
            (ap (λ w. driven limit c (done limit w (state_of f at_ (v ∷ st) [] None d)) d.world) deed
            ∙ ap (λ o. driven limit c (Rattle.stack_code.specs.Machine.with_cells (where_mine o (set d.cells (f.base + n) (Mine v))) (state_of f at_ (v ∷ st) [] None d) (λ s. done limit (GoesOn (at_ + 1) (st ++ f.below)) s)) d.world) is),
      )) j

  pub does_keep : {A : Type 0} {g h : Ghost} {q : A → Type 0} {m : Stored A} {to : A → Dyn → Step} (at_ n : ℕ) (v : ℤ) (st : List ℤ) → IsOwn (g.what (f.base + n)) → At c at_ (i.StoreL n) x.entry
      → Doing limit c f x (set_what (f.base + n) (Keeps v) g) h q m (λ d. on f (at_ + 1) st d) to → Doing limit c f x g h q m (λ d. on f at_ (v ∷ st) d) to
  does_keep at_ n v st own a j = writes_own at_ n v st own a refl j

  -- it is checked, and goes to an own cell
  pub does_set : {A : Type 0} {g h : Ghost} {q : A → Type 0} {to : A → Dyn → Step} (m : Unit {0} → Stored A) (kind : CheckKind) (token at_ n : ℕ) (k : Scalar) (v : ℤ) (st : List ℤ) → ((s : stored.State) (d : Dyn) → Fit g s d → Fit h s d) → IsOwn (g.what (f.base + n)) → At c at_ (set_instr k n) x.entry
      → Doing limit c f x (set_what (f.base + n) (Keeps v) g) h q (m tt) (λ d. on f (at_ + 1) st d) to → Doing limit c f x g h q (stored.bind (stored.checks kind token (Values.is_in k v)) m) (λ d. on f at_ (v ∷ st) d) to
  does_set m kind token at_ n k v st weak own a j = does_seq limit c f x weak (λ ts al. al) (does_within kind token n k v (Values.is_in k v) st refl a) (λ _ is. writes_own at_ n v st own a (set_deed at_ n k v (st ++ f.below) true is) j)

  -- a test by the number on the stack
  pub does_choice : {A : Type 0} {g h : Ghost} {q : A → Type 0} {m n : Stored A} {at_ other : ℕ} {to : A → Dyn → Step} (v : ℤ) (st : List ℤ) → At c at_ (i.JFalse other) x.entry
      → (truth v ≡ true → Doing limit c f x g h q m (λ d. on f (at_ + 1) st d) to) → (truth v ≡ false → Doing limit c f x g h q n (λ d. on f other st d) to)
      → Doing limit c f x g h q (cond (truth v) m n) (λ d. on f at_ (v ∷ st) d) to
  does_choice {A} {g} {h} {q} {m} {n} {at_} {other} {to} v st a yes' no' = go (truth v) refl
    where
      go : (b : Bool) → truth v ≡ b → Doing limit c f x g h q (cond b m n) (λ d. on f at_ (v ∷ st) d) to
      go true e = does_before limit c f x (λ d. comes_goes limit c f (v ∷ st) (at_ + 1) st d a (ap (λ b. GoesOn (cond b (at_ + 1) other) (st ++ f.below)) (truth_same v ∙ e))) (yes' e)
      go false e = does_before limit c f x (λ d. comes_goes limit c f (v ∷ st) other st d a (ap (λ b. GoesOn (cond b (at_ + 1) other) (st ++ f.below)) (truth_same v ∙ e))) (no' e)
