-- What a sum or a difference gives that raises nothing.
use Rattle.std.proofs.Common.{◌≡◌, ℕ, ℤ, Option, Some, None, Bool, true, false, ◌+ℤ◌, ◌-ℤ◌, is_some, if◌then◌else◌, refl, sym, ap, ◌∙◌, true≢false}
use Rattle.ada_base.specs.declared.operation.Base.{Base}
use Rattle.ada_base.specs.Operation.{is_in_base, within}
use Rattle.ada_base.specs.declared.operation.Op.TheVariants as op
use Rattle.typed_tree.specs.declared.scalars.Class.{Class}
use Rattle.ada_meaning.specs.Values.{base_of, is_modular, modular_digits, result, result_by, value_or_zero}

-- a result of the base range
pub there : (base : Base) (z : ℤ) → is_some (within base (Some z)) ≡ true → value_or_zero (within base (Some z)) ≡ z
there base z = go (is_in_base base z)
  where
    go : (b : Bool) → is_some (if b then Some z else None) ≡ true → value_or_zero (if b then Some z else None) ≡ z
    go true e = refl
    go false e = absurd (true≢false (sym e))

-- the sum and the difference of a class that isn't modular
none_there : (o : Option ℕ) → is_some o ≡ false → o ≡ None
none_there None e = refl
none_there (Some k) e = absurd (true≢false e)

pub sum_is : (c : Class) (x y : ℤ) → is_modular c ≡ false → result op.Add c x y ≡ within (base_of c) (Some (x +ℤ y))
sum_is c x y e = ap (λ o. result_by o op.Add c x y) (none_there (modular_digits c) e)

pub difference_is : (c : Class) (x y : ℤ) → is_modular c ≡ false → result op.Sub c x y ≡ within (base_of c) (Some (x -ℤ y))
difference_is c x y e = ap (λ o. result_by o op.Sub c x y) (none_there (modular_digits c) e)
