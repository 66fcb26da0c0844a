-- Whether a part is a list that has an item.
use Rattle.std.specs.Prelude.{Bool, true, false}
use Rattle.typed_tree.specs.Decoded.{TypedPart, Cons}

abbrev pub has_item : TypedPart → Bool
has_item (Cons p q) = true
has_item p = false
