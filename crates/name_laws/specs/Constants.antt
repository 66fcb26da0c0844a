-- Static constants (4.9): integer constants whose initial value is static.
use Rattle.syntax_tree.specs.Syntax.{Program}
use Rattle.typed_tree.specs.Syntax as typed
use Rattle.typed_tree.specs.declared.program.Object.{Object}
use Rattle.typed_tree.specs.declared.scalars.Class.TheVariants as class
use Rattle.typed_tree.specs.declared.scalars.Scalar.{Scalar}
use Rattle.name_rules.specs.Resolved.{TypedOf}
use Rattle.name_rules.specs.declared.scope.Names.{Names}
use Rattle.std.specs.Prelude.{IsTrue, Some, int_le, slice_get, true, ℕ, ℤ, ◌≡◌}

-- an object is a constant of an integer subtype in which the value lies
pub record IsConstantIn (program : typed.Program) (o : Object) (z : ℤ) : Type 0 where
  pub constant : o.constant ≡ true
  pub scalar : Scalar
  pub subtype : slice_get program.subtypes o.subtype ≡ Some (typed.OfScalar scalar)
  pub integer : scalar.class ≡ class.Boolean → ⊥
  pub low : IsTrue (int_le scalar.low z)
  pub high : IsTrue (int_le z scalar.high)

-- An object that has a static value is a constant of an integer subtype, and the value lies in it.
abbrev pub ConstantsLaw : Type 0
ConstantsLaw = (names : Names) (text : Program) (program : typed.Program) → TypedOf names text ≡ Some program
    → (i : ℕ) (o : Object) (z : ℤ) → slice_get program.objects i ≡ Some o → o.value ≡ Some z → IsConstantIn program o z
