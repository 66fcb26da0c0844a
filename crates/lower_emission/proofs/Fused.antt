-- What holds of an instruction that does the work of several, and of those several, holds of the code of an operation with a
-- static operand, and of that of a component of what is named.
use Rattle.std.proofs.Common.{◌≡◌, ℕ, ◌+◌, ℤ, Option, Some, None, Bool, true, false, cond, refl, arith}
use Rattle.ada_base.specs.declared.operation.Base.TheVariants.{Narrow, Wide, Modulo}
use Rattle.ada_base.specs.declared.operation.Comparison.TheVariants as comparison
use Rattle.ada_base.specs.declared.operation.Op.{Op}
use Rattle.ada_base.specs.declared.operation.Op.TheVariants as op
use Rattle.typed_tree.specs.declared.scalars.Class.{Class}
use Rattle.typed_tree.specs.declared.scalars.Class.TheVariants as class
use Rattle.typed_tree.specs.declared.scalars.Scalar.{Scalar}
use Rattle.typed_tree.specs.declared.expressions.Sign.TheVariants as sign
use Rattle.typed_tree.specs.declared.expressions.Reducer.{Reducer}
use Rattle.typed_tree.specs.declared.expressions.Reducer.TheVariants.{Operator, Function}
use Rattle.typed_tree.specs.Syntax.{Expr, Static, Chunk, NoChunk, Count, Each}
use Rattle.ada_meaning.specs.Values.{base_of, binary_digits, is_modular}
use Rattle.stack_code.specs.Valid.{AreDigits, FoldFits, IsRange}
use Rattle.stack_code.specs.declared.instr.Instr.{Instr}
use Rattle.stack_code.specs.declared.instr.Instr.TheVariants as i
use Rattle.lower_emission.specs.declared.types.Named.{Named}
use Rattle.lower_emission.specs.Emits.{Emit}
use Rattle.lower_emission.specs.Scope.{Scope, one, set_instr, ◌⨟◌}
use Rattle.lower_emission.specs.Emission.{loop_kind, reduction_kind, check_instr, compare_instr, unary_instr, address, component_address, component_value, fixed_instr, indexed_by, item_by, operated_by, static_instr}

of_fixed : (C : Emit → Type 0) (s : Scope) (h : ℕ) (o : Op) (class : Class) (value : ℤ) (operates : Instr) (right : Emit)
    → ((v : ℤ) → C (one s h (i.AddI v (base_of class)))) → ((v : ℤ) → C (one s h (i.SubI v (base_of class)))) → ((v : ℤ) → C (one s h (i.MulI v (base_of class)))) → ((v : ℤ) → C (one s h (i.ModI v (base_of class))))
    → C (right ⨟ one s (h + 1) operates) → C (operated_by s h (fixed_instr o class value) operates right)
of_fixed C s h op.Add class value operates right adds subs muls mods all = adds value
of_fixed C s h op.Sub class value operates right adds subs muls mods all = subs value
of_fixed C s h op.Mul class value operates right adds subs muls mods all = muls value
of_fixed C s h op.Mod class value operates right adds subs muls mods all = mods value
of_fixed C s h o class value operates right adds subs muls mods all = all

pub of_operated : (C : Emit → Type 0) (s : Scope) (h : ℕ) (o : Op) (class : Class) (f : Expr) (operates : Instr) (right : Emit)
    → ((v : ℤ) → C (one s h (i.AddI v (base_of class)))) → ((v : ℤ) → C (one s h (i.SubI v (base_of class)))) → ((v : ℤ) → C (one s h (i.MulI v (base_of class)))) → ((v : ℤ) → C (one s h (i.ModI v (base_of class))))
    → C (right ⨟ one s (h + 1) operates) → C (operated_by s h (static_instr o class f) operates right)
of_operated C s h o class (Static at value literal mentions) operates right adds subs muls mods all = of_fixed C s h o class value operates right adds subs muls mods all
of_operated C s h o class f operates right adds subs muls mods all = all

pub of_component_address : (C : Emit → Type 0) (s : Scope) (h : ℕ) (n : Option Named) (first own : Option ℕ) (low high : ℤ) (stride : ℕ) (index : Emit) → ((g k : ℕ) → first ≡ Some g → own ≡ Some k → C (one s h (i.IndexG g low high stride k)))
    → C (address s h n ⨟ indexed_by s (h + 1) own low high stride index) → C (component_address s h n first own low high stride index)
of_component_address C s h n None own low high stride index fused all = all
of_component_address C s h n (Some g) None low high stride index fused all = all
of_component_address C s h n (Some g) (Some k) low high stride index fused all = fused g k refl refl

pub of_component_value : (C : Emit → Type 0) (s : Scope) (h : ℕ) (n : Option Named) (first own : Option ℕ) (low high : ℤ) (stride : ℕ) (index : Emit) → ((g k : ℕ) → first ≡ Some g → own ≡ Some k → C (one s h (i.ItemG g low high stride k)))
    → C (address s h n ⨟ item_by s (h + 1) own low high stride index) → C (component_value s h n first own low high stride index)
of_component_value C s h n None own low high stride index fused all = all
of_component_value C s h n (Some g) None low high stride index fused all = all
of_component_value C s h n (Some g) (Some k) low high stride index fused all = fused g k refl refl

-- what holds of an instruction and of its counterpart on numbers of a modular type holds of the one that a class has

pub of_either : (C : Instr → Type 0) (b : Bool) (x y : Instr) → C x → C y → C (cond b x y)
of_either C true x y p q = p
of_either C false x y p q = q

pub of_check : (C : Instr → Type 0) (k : Scalar) → C (i.URange k.low k.high) → C (i.Range k.low k.high) → C (check_instr k)
of_check C k p q = of_either C (is_modular k.class) (i.URange k.low k.high) (i.Range k.low k.high) p q

pub of_set : (C : Instr → Type 0) (k : Scalar) (n : ℕ) → C (i.USetL n k.low k.high) → C (i.SetL n k.low k.high) → C (set_instr k n)
of_set C k n p q = of_either C (is_modular k.class) (i.USetL n k.low k.high) (i.SetL n k.low k.high) p q

pub of_at_least : (C : Instr → Type 0) (class : Class) → C i.UGe → C i.Ge → C (compare_instr comparison.AtLeast class)
of_at_least C class p q = of_either C (is_modular class) i.UGe i.Ge p q

pub of_at_most : (C : Instr → Type 0) (class : Class) → C i.ULe → C i.Le → C (compare_instr comparison.AtMost class)
of_at_most C class p q = of_either C (is_modular class) i.ULe i.Le p q

-- a base range that code has
are_digits : (k : ℕ) → AreDigits (binary_digits k)
are_digits k = (omega arith, omega arith)

pub base_is_range : (class : Class) → IsRange (base_of class)
base_is_range class.Boolean = tt
base_is_range (class.Integer Narrow) = tt
base_is_range (class.Integer Wide) = tt
base_is_range (class.Integer (Modulo k)) = are_digits k
base_is_range class.Universal = tt

pub of_not : (C : Instr → Type 0) (class : Class) → C i.Flip → ((k : ℕ) → AreDigits k → C (i.BNot k)) → C (unary_instr sign.Not class)
of_not C class.Boolean p q = p
of_not C (class.Integer Narrow) p q = p
of_not C (class.Integer Wide) p q = p
of_not C (class.Integer (Modulo k)) p q = q (binary_digits k) (are_digits k)
of_not C class.Universal p q = p

-- the kinds of constructs that code has
pub loop_fits : (chunk : Chunk) → FoldFits (loop_kind chunk)
loop_fits NoChunk = tt
loop_fits (Count e) = tt
loop_fits (Each k low high check) = tt

pub reduction_fits : (by : Reducer) (chunk : Chunk) → FoldFits (reduction_kind by chunk)
reduction_fits (Operator at o class) NoChunk = base_is_range class
reduction_fits (Operator at o class) (Count e) = base_is_range class
reduction_fits (Operator at o class) (Each k low high check) = base_is_range class
reduction_fits (Function at sub accumulator value) NoChunk = tt
reduction_fits (Function at sub accumulator value) (Count e) = tt
reduction_fits (Function at sub accumulator value) (Each k low high check) = tt
