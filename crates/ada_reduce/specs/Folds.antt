-- Folds by an operator, of which each step may raise Constraint_Error (4.5.10).
use Rattle.std.specs.Prelude.{ℤ, List, [], ◌∷◌, Option, Some, None, IsTrue}
use Rattle.ada_base.specs.declared.operation.Base.{Base}
use Rattle.ada_base.specs.declared.operation.Base.TheVariants.{Modulo}
use Rattle.ada_base.specs.declared.operation.Op.{Op}
use Rattle.ada_base.specs.Operation.{is_in_base, result_of, IsOperandOn}

abbrev pub where_some : Option ℤ → (ℤ → Option ℤ) → Option ℤ
where_some None k = None
where_some (Some z) k = k z

-- the values onto a number, from the left
abbrev pub fold_of : Op → Base → ℤ → List ℤ → Option ℤ
fold_of op base a [] = Some a
fold_of op base a (v ∷ vs) = where_some (result_of op base a v) (λ b. fold_of op base b vs)

-- accumulators, the second and later ones onto the first; without any the initial value
abbrev pub combined : Op → Base → ℤ → List ℤ → Option ℤ
combined op base initial [] = Some initial
combined op base initial (v ∷ vs) = fold_of op base v vs

-- an operation of a modular type takes any number
abbrev pub IsInside : Base → ℤ → Type 0
IsInside (Modulo k) z = Unit {0}
IsInside base z = IsTrue (is_in_base base z)

-- a number that the operation takes
pub record IsTaken (op : Op) (base : Base) (z : ℤ) : Type 0 where
  pub in_base : IsInside base z
  pub operand : IsOperandOn base op z

abbrev pub AreTaken : Op → Base → List ℤ → Type 0
AreTaken op base [] = Unit {0}
AreTaken op base (v ∷ vs) = IsTaken op base v × AreTaken op base vs
