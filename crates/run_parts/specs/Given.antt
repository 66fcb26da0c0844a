-- Scalars that a call is given, and what it returns then: nothing is copied back.
use Rattle.std.specs.Prelude.{ℤ, List, [], map}
use Rattle.ada_meaning.specs.Meaning as meaning
use Rattle.run_parts.specs.declared.scalars.InScalar.{InScalar}
use Rattle.run_parts.specs.Passing.{value_passed}

abbrev pub in_passed : InScalar → meaning.Passed
in_passed p = value_passed p.formal p.value

abbrev pub in_list : List InScalar → List meaning.Passed
in_list ps = map in_passed ps

abbrev pub value_returned : List InScalar → ℤ → meaning.Returned
value_returned ps v = record { value = v; cells = map (λ _. []) ps }
