-- What is said of values that code computes.
use Rattle.std.specs.Prelude.{◌≡◌, ℕ, ℤ, Result, Ok, Err}
use Rattle.typed_tree.specs.declared.scalars.Class.{Class}
use Rattle.typed_tree.specs.declared.expressions.Sign.{Sign}
use Rattle.ada_base.specs.Cuts.{One, cuts_of}
use Rattle.ada_meaning.specs.Values.{plain_unary, unary}
use Rattle.ada_meaning.specs.Meaning as meaning
use Rattle.ada_meaning.specs.Stored.{State, Stored, at, operations, bind, ret}
use Rattle.run_values.specs.declared.ends.End.{End}
use Rattle.run_values.specs.declared.ends.End.TheVariants as end

-- nothing but want of memory is in the way
abbrev pub OrNoMemory : {A : Type 0} → (A → Type 0) → Result A End → Type 0
OrNoMemory P (Ok a) = P a
OrNoMemory P (Err end.NoMemory) = Unit {0}
OrNoMemory P (Err _) = ⊥

-- from each state a part comes to a value, and leaves the state as it is
abbrev pub ComesTo : {A : Type 0} → Stored A → A → Type 0
ComesTo m v = (s : State) → m.does s ≡ at s (Ok v)

-- a unary operator: its check, and its value
abbrev pub unary_then : Sign → ℕ → Class → ℤ → Stored ℤ
unary_then s at class v = bind (meaning.unary_checked (operations 0 (cuts_of One)) s at class (unary s class v)) (λ _. ret (unary s class v))

-- of a type that isn't modular
abbrev pub plain_then : Sign → ℕ → Class → ℤ → Stored ℤ
plain_then s at class v = bind (meaning.sign_checked (operations 0 (cuts_of One)) s at class (plain_unary s v)) (λ _. ret (plain_unary s v))
