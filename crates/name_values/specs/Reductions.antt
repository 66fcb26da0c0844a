-- What a function's profile gives a reduction.
use Rattle.std.specs.Prelude.{List, [], ◌∷◌, Option, Some, None}
use Rattle.name_rules.specs.declared.log.Taken.{Taken}

-- two parameters, where there are no more
abbrev pub two_of : List Taken → Option (Taken × Taken)
two_of (a ∷ b ∷ []) = Some (a, b)
two_of _ = None
