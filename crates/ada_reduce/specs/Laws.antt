-- The law of re-association (4.5.10).
use Rattle.std.specs.Prelude.{◌≡◌, ℕ, ℤ, List, [], ◌∷◌, ◌++◌, Some}
use Rattle.ada_base.specs.declared.operation.Base.{Base}
use Rattle.ada_base.specs.declared.operation.Op.{Op}
use Rattle.typed_tree.specs.declared.scalars.Class.{Class}
use Rattle.typed_tree.specs.declared.expressions.Reducer.TheVariants.{Operator}
use Rattle.ada_meaning.specs.Values.{base_of}
use Rattle.ada_meaning.specs.Sequential.{IsListed, HasNoPartialOverflow}
use Rattle.ada_reduce.specs.Folds.{fold_of, combined, IsTaken, AreTaken}

-- chunks of values, one after the other
abbrev pub whole : List (List ℤ) → List ℤ
whole [] = []
whole (vs ∷ vss) = vs ++ whole vss

-- the accumulators of chunks, each of which starts at the initial value
abbrev pub AreFolds : Op → Base → ℤ → List (List ℤ) → List ℤ → Type 0
AreFolds op base initial [] [] = Unit {0}
AreFolds op base initial [] (p ∷ ps) = ⊥
AreFolds op base initial (vs ∷ vss) [] = ⊥
AreFolds op base initial (vs ∷ vss) (p ∷ ps) = (fold_of op base initial vs ≡ Some p) × AreFolds op base initial vss ps

-- what the accumulators of the chunks come to when they are combined is what one fold over all values comes to
pub record Reassociates (op : Op) (base : Base) (initial : ℤ) (chunks : List (List ℤ)) : Type 0 where
  pub parts : List ℤ
  pub are : AreFolds op base initial chunks parts
  pub taken : AreTaken op base parts
  pub result : ℤ
  pub by_chunks : combined op base initial parts ≡ Some result
  pub by_one : fold_of op base initial (whole chunks) ≡ Some result

-- for each listed operator with its initial value, values without partial overflow, and chunks of them
abbrev pub ReassociationLaw : Type 0
ReassociationLaw = (at : ℕ) (op : Op) (class : Class) (initial : ℤ) (chunks : List (List ℤ)) →
    IsListed (Operator at op class) initial → HasNoPartialOverflow (Operator at op class) (whole chunks) →
    IsTaken op (base_of class) initial → AreTaken op (base_of class) (whole chunks) → Reassociates op (base_of class) initial chunks
