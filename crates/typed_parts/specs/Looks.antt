-- What a part is.
use Rattle.std.specs.Prelude.{Bool, true, false}
use Rattle.typed_tree.specs.Decoded.{TypedPart, Nothing}

-- nothing, which is also a list without items
abbrev pub is_nothing : TypedPart → Bool
is_nothing Nothing = true
is_nothing p = false
