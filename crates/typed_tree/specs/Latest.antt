-- Parts that are being joined, the latest first, and a list that grows item by item.
use Rattle.std.specs.Prelude.{List, [], ◌∷◌}
use Rattle.typed_tree.specs.Decoded.{TypedPart, Nothing, Cons, LeafCons}

abbrev pub top : List TypedPart → TypedPart
top [] = Nothing
top (p ∷ ps) = p

abbrev pub pop : List TypedPart → List TypedPart
pop [] = []
pop (p ∷ ps) = ps

abbrev pub second : List TypedPart → TypedPart
second ps = top (pop ps)

abbrev pub third : List TypedPart → TypedPart
third ps = top (pop (pop ps))

abbrev pub fourth : List TypedPart → TypedPart
fourth ps = top (pop (pop (pop ps)))

abbrev pub fifth : List TypedPart → TypedPart
fifth ps = top (pop (pop (pop (pop ps))))

-- a list in the other order, before what is there; a part that is no list is an empty one
abbrev pub onto : TypedPart → TypedPart → TypedPart
onto (Cons p q) rest = onto q (Cons p rest)
onto (LeafCons l q) rest = onto q (LeafCons l rest)
onto p rest = rest

-- a list that was joined item by item, the latest first, in the order of the items
unfoldable pub turned : TypedPart → TypedPart
turned p = onto p Nothing

-- the first part of a pair, and the second
abbrev pub first_of : TypedPart → TypedPart
first_of (Cons p q) = p
first_of p = Nothing

abbrev pub rest_of : TypedPart → TypedPart
rest_of (Cons p q) = q
rest_of p = Nothing
