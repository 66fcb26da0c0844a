-- The law of what is written.
use Rattle.std.specs.Prelude.{◌≡◌, List, ◌++◌, length}
use Rattle.lower_emission.specs.declared.types.Placed.{Placed}
use Rattle.lower_emission.specs.Emits.{Emit, written, listed}

-- what is written behind other code is what stands there
abbrev pub WrittenLaw : Type 0
WrittenLaw = (e : Emit) (c : List Placed) → written e c ≡ c ++ listed e (length c)
