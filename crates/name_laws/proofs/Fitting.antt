-- What is known of the static value of an object that is written: it lies in the object's subtype.
use Rattle.std.proofs.Common.{◌≡◌, ℕ, ℤ, List, [], ◌∷◌, ◌++◌, length, Option, Some, None, Bool, true, false, ◌&&◌, not, if◌then◌else◌, refl, slice_get}
use Rattle.name_rules.specs.Declarations.{Initial, constant_value, static_in}
use Rattle.name_rules.specs.Types.{is_integer, is_modular, lies_in, number_of}
use Rattle.name_rules.specs.declared.log.Log.{Log}
use Rattle.name_rules.specs.declared.log.Shape.TheVariants as shape
use Rattle.name_rules.specs.declared.types.Scalar.{Scalar}
use Rattle.name_rules.specs.declared.types.Subtype.{Subtype}
use Rattle.name_rules.specs.declared.types.Subtype.TheVariants as subtype

-- a static value is an integer constant's that isn't of a modular type, and lies in its subtype
abbrev pub Fits : Subtype → Bool → Option ℤ → Type 0
Fits s constant None = Unit {0}
Fits (subtype.Composite n) constant (Some z) = ⊥
Fits (subtype.Scalar s) constant (Some z) = (constant ≡ true) × ((is_integer s.kind ≡ true) × (is_modular s.kind ≡ false)) × (lies_in s z ≡ true)

-- a scalar subtype stands at its number
abbrev pub IsNumber : Subtype → ℕ → Log → Type 0
IsNumber (subtype.Scalar s) n log = slice_get log.shapes n ≡ Some (shape.Scalar s)
IsNumber (subtype.Composite m) n log = n ≡ m

pub get-last : {A : Type 0} (xs : List A) (x : A) → slice_get (xs ++ x ∷ []) (length xs) ≡ Some x
get-last [] x = refl
get-last (y ∷ xs) x = get-last xs x

pub is_number : (s : Subtype) (log : Log) → IsNumber s (number_of s log).0 (number_of s log).1
unfolding number_of
is_number (subtype.Scalar s) log = get-last log.shapes (shape.Scalar s)
is_number (subtype.Composite n) log = refl

in-where : (s : Scalar) (z : ℤ) (a m b : Bool) → is_integer s.kind ≡ a → is_modular s.kind ≡ m → lies_in s z ≡ b → Fits (subtype.Scalar s) true (if a && not m && b then Some z else None)
in-where s z true false true e g f = (refl, (e, g), f)
in-where s z true false false e g f = tt
in-where s z true true b e g f = tt
in-where s z false m b e g f = tt

fits-static : (s : Subtype) (z : Option ℤ) → Fits s true (static_in s z)
fits-static (subtype.Scalar s) (Some z) = in-where s z (is_integer s.kind) (is_modular s.kind) (lies_in s z) refl refl refl
fits-static (subtype.Scalar s) None = tt
fits-static (subtype.Composite n) z = tt

pub fits_constant : (constant : Bool) (s : Subtype) (v : Initial) → Fits s constant (constant_value constant s v)
fits_constant true s v = fits-static s v.value
fits_constant false s v = tt
