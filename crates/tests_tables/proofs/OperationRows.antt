-- Operations on integers (4.5): the operator, the operands and the result; None is Constraint_Error.
use Rattle.std.proofs.Common.{◌≡◌, List, [], ◌∷◌, Option, Some, None, ℤ, pos, negsuc, refl, map}
use Rattle.ada_base.specs.declared.operation.Base.{Base}
use Rattle.ada_base.specs.declared.operation.Base.TheVariants.{Narrow, Wide, Modulo}
use Rattle.ada_base.specs.declared.operation.Op.{Op}
use Rattle.ada_base.specs.declared.operation.Op.TheVariants as op
use Rattle.ada_base.specs.Operation.{result_of}

data Row : Type 0 where
  row : Op → (a b : ℤ) → Option ℤ → Row

abbrev wanted : Row → Option ℤ
wanted (row op a b want) = want

abbrev found : Base → Row → Option ℤ
found base (row op a b want) = result_of op base a b

abbrev wide : List Row
wide =
    row op.Add (pos 2) (pos 3) (Some (pos 5)) ∷
    row op.Add (pos 9223372036854775807) (pos 1) None ∷
    row op.Add (pos 9223372036854775807) (negsuc 0) (Some (pos 9223372036854775806)) ∷
    row op.Sub (pos 2) (pos 3) (Some (negsuc 0)) ∷
    row op.Sub (negsuc 9223372036854775807) (pos 1) None ∷
    row op.Sub (pos 0) (negsuc 9223372036854775807) None ∷
    row op.Mul (negsuc 3) (pos 5) (Some (negsuc 19)) ∷
    row op.Mul (negsuc 9223372036854775807) (negsuc 0) None ∷
    row op.Mul (pos 4294967296) (pos 2147483648) None ∷
    row op.Mul (pos 4294967296) (negsuc 2147483647) (Some (negsuc 9223372036854775807)) ∷
    row op.Div (negsuc 6) (pos 2) (Some (negsuc 2)) ∷
    row op.Div (pos 7) (negsuc 1) (Some (negsuc 2)) ∷
    row op.Div (pos 7) (pos 0) None ∷
    row op.Div (negsuc 9223372036854775807) (negsuc 0) None ∷
    row op.Rem (negsuc 6) (pos 2) (Some (negsuc 0)) ∷
    row op.Rem (pos 7) (negsuc 1) (Some (pos 1)) ∷
    row op.Rem (pos 7) (pos 0) None ∷
    row op.Rem (negsuc 9223372036854775807) (negsuc 0) (Some (pos 0)) ∷
    row op.Mod (negsuc 6) (pos 2) (Some (pos 1)) ∷
    row op.Mod (pos 7) (negsuc 1) (Some (negsuc 0)) ∷
    row op.Mod (negsuc 7) (pos 2) (Some (pos 0)) ∷
    row op.Mod (negsuc 6) (negsuc 3) (Some (negsuc 2)) ∷
    row op.Mod (pos 7) (pos 0) None ∷
    row op.Mod (negsuc 9223372036854775807) (negsuc 0) (Some (pos 0)) ∷
    row op.Mod (negsuc 9223372036854775807) (pos 9223372036854775807) (Some (pos 9223372036854775806)) ∷
    row op.Pow (pos 0) (pos 0) (Some (pos 1)) ∷
    row op.Pow (pos 3) (pos 4) (Some (pos 81)) ∷
    row op.Pow (pos 3) (negsuc 0) None ∷
    row op.Pow (pos 1) (negsuc 0) None ∷
    row op.Pow (pos 2) (pos 62) (Some (pos 4611686018427387904)) ∷
    row op.Pow (pos 2) (pos 63) None ∷
    row op.Pow (negsuc 1) (pos 63) (Some (negsuc 9223372036854775807)) ∷
    row op.Pow (pos 2) (pos 64) None ∷
    row op.And (pos 1) (pos 1) (Some (pos 1)) ∷
    row op.And (pos 1) (pos 0) (Some (pos 0)) ∷
    row op.Or (pos 0) (pos 1) (Some (pos 1)) ∷
    row op.Or (pos 0) (pos 0) (Some (pos 0)) ∷
    row op.Xor (pos 0) (pos 1) (Some (pos 1)) ∷
    row op.Xor (pos 1) (pos 1) (Some (pos 0)) ∷
    row op.Max (negsuc 2) (pos 2) (Some (pos 2)) ∷
    row op.Max (negsuc 9223372036854775807) (negsuc 9223372036854775807) (Some (negsuc 9223372036854775807)) ∷
    row op.Min (negsuc 2) (pos 2) (Some (negsuc 2)) ∷
    row op.Min (negsuc 9223372036854775807) (pos 9223372036854775807) (Some (negsuc 9223372036854775807)) ∷ []

wide_results : map (found Wide) wide ≡ map wanted wide
wide_results = refl

abbrev narrow : List Row
narrow =
    row op.Add (pos 2147483646) (pos 1) (Some (pos 2147483647)) ∷
    row op.Add (pos 2147483647) (pos 1) None ∷
    row op.Sub (negsuc 2147483646) (pos 1) (Some (negsuc 2147483647)) ∷
    row op.Sub (negsuc 2147483647) (pos 1) None ∷
    row op.Mul (pos 65536) (pos 32768) None ∷
    row op.Mul (negsuc 65535) (pos 32768) (Some (negsuc 2147483647)) ∷
    row op.Div (negsuc 2147483647) (negsuc 0) None ∷
    row op.Rem (negsuc 2147483647) (negsuc 0) (Some (pos 0)) ∷
    row op.Mod (negsuc 2147483647) (negsuc 0) (Some (pos 0)) ∷
    row op.Pow (pos 2) (pos 30) (Some (pos 1073741824)) ∷
    row op.Pow (pos 2) (pos 31) None ∷
    row op.Pow (negsuc 1) (pos 31) (Some (negsuc 2147483647)) ∷
    row op.Max (negsuc 2147483647) (pos 2147483647) (Some (pos 2147483647)) ∷ []

narrow_results : map (found Narrow) narrow ≡ map wanted narrow
narrow_results = refl

-- results of modular types wrap (4.5.3, 4.5.5, 4.5.6), and logical operators act on each binary digit (4.5.1)
abbrev byte : List Row
byte =
    row op.Add (pos 250) (pos 10) (Some (pos 4)) ∷
    row op.Add (pos 127) (pos 128) (Some (pos 255)) ∷
    row op.Sub (pos 0) (pos 1) (Some (pos 255)) ∷
    row op.Sub (pos 5) (pos 3) (Some (pos 2)) ∷
    row op.Mul (pos 16) (pos 16) (Some (pos 0)) ∷
    row op.Mul (pos 15) (pos 18) (Some (pos 14)) ∷
    row op.Div (pos 255) (pos 2) (Some (pos 127)) ∷
    row op.Div (pos 5) (pos 0) None ∷
    row op.Mod (pos 255) (pos 16) (Some (pos 15)) ∷
    row op.Mod (pos 5) (pos 0) None ∷
    row op.Rem (pos 255) (pos 16) (Some (pos 15)) ∷
    row op.Rem (pos 5) (pos 0) None ∷
    row op.Pow (pos 3) (pos 6) (Some (pos 217)) ∷
    row op.Pow (pos 2) (pos 8) (Some (pos 0)) ∷
    row op.Pow (pos 0) (pos 0) (Some (pos 1)) ∷
    row op.Pow (pos 2) (negsuc 0) None ∷
    row op.And (pos 12) (pos 10) (Some (pos 8)) ∷
    row op.Or (pos 12) (pos 10) (Some (pos 14)) ∷
    row op.Xor (pos 12) (pos 10) (Some (pos 6)) ∷
    row op.Max (pos 200) (pos 100) (Some (pos 200)) ∷
    row op.Min (pos 200) (pos 100) (Some (pos 100)) ∷ []

byte_results : map (found (Modulo 8)) byte ≡ map wanted byte
byte_results = refl

-- a number of 2 ** 63 or more is kept less 2 ** 64
abbrev longest : List Row
longest =
    row op.Add (negsuc 0) (pos 1) (Some (pos 0)) ∷
    row op.Add (pos 9223372036854775807) (pos 1) (Some (negsuc 9223372036854775807)) ∷
    row op.Sub (pos 0) (pos 1) (Some (negsuc 0)) ∷
    row op.Mul (negsuc 0) (negsuc 0) (Some (pos 1)) ∷
    row op.Mul (pos 4294967296) (pos 4294967296) (Some (pos 0)) ∷
    row op.Div (negsuc 0) (pos 2) (Some (pos 9223372036854775807)) ∷
    row op.Div (pos 1) (negsuc 0) (Some (pos 0)) ∷
    row op.Mod (negsuc 0) (pos 10) (Some (pos 5)) ∷
    row op.Pow (pos 2) (pos 63) (Some (negsuc 9223372036854775807)) ∷
    row op.Pow (pos 2) (pos 64) (Some (pos 0)) ∷
    row op.And (negsuc 0) (pos 255) (Some (pos 255)) ∷
    row op.Or (negsuc 9223372036854775807) (pos 1) (Some (negsuc 9223372036854775806)) ∷
    row op.Xor (negsuc 0) (pos 1) (Some (negsuc 1)) ∷
    row op.Max (negsuc 0) (pos 1) (Some (negsuc 0)) ∷
    row op.Min (negsuc 0) (pos 1) (Some (pos 1)) ∷ []

longest_results : map (found (Modulo 64)) longest ≡ map wanted longest
longest_results = refl
