-- What the numbers of a table stand for, from left to right, and that each node's parts stand before it.
use Rattle.std.specs.Prelude.{ℕ, ◌+◌, ◌<◌, List, [], ◌∷◌, ◌++◌}
use Rattle.std.proofs.Math.ListN.{get_or}
use Rattle.syntax_nodes.specs.Parts.{TreePart, Nothing, Open, Closed, AlsoItem, items_of, open_items}
use Rattle.syntax_nodes.specs.Values.{value_leaf, value_one, value_two, value_three, value_four}
use Rattle.syntax_nodes.specs.declared.lists.ListKind.{ListKind}
use Rattle.syntax_nodes.specs.declared.nodes.Node.{Node}
use Rattle.syntax_nodes.specs.declared.nodes.Node.TheVariants as node

-- a list with an item behind it
abbrev pub also_value : ListKind → TreePart → TreePart → TreePart
also_value k b a = Open k (AlsoItem a (open_items k b))

-- a list with an item before it
abbrev pub cell_value : TreePart → TreePart → TreePart
cell_value a rest = Closed (AlsoItem a (items_of rest))

-- what a node stands for, where the numbers of its parts stand for these
abbrev pub of_node : (ℕ → TreePart) → Node → TreePart
of_node at node.Nothing = Nothing
of_node at (node.Leaf f) = value_leaf f
of_node at (node.One f a) = value_one f (at a)
of_node at (node.Two f b a) = value_two f (at b) (at a)
of_node at (node.Three f c b a) = value_three f (at c) (at b) (at a)
of_node at (node.Four f d c b a) = value_four f (at d) (at c) (at b) (at a)
of_node at (node.Also k b a) = also_value k (at b) (at a)
of_node at (node.Cell a rest) = cell_value (at a) (at rest)

abbrev pub among : List TreePart → ℕ → TreePart
among ps k = get_or ps k Nothing

abbrev pub parts_from : List TreePart → List Node → List TreePart
parts_from ps [] = ps
parts_from ps (n ∷ ns) = parts_from (ps ++ of_node (among ps) n ∷ []) ns

-- what a number stands for: the nodes count from 1, and 0 is nothing
unfoldable pub part_at : List Node → ℕ → TreePart
part_at ns k = among (parts_from (Nothing ∷ []) ns) k

-- the parts of a node have smaller numbers than k
abbrev pub NodeBelow : ℕ → Node → Type 0
NodeBelow k node.Nothing = Unit {0}
NodeBelow k (node.Leaf f) = Unit {0}
NodeBelow k (node.One f a) = a < k
NodeBelow k (node.Two f b a) = (b < k) × (a < k)
NodeBelow k (node.Three f c b a) = (c < k) × (b < k) × (a < k)
NodeBelow k (node.Four f d c b a) = (d < k) × (c < k) × (b < k) × (a < k)
NodeBelow k (node.Also l b a) = (b < k) × (a < k)
NodeBelow k (node.Cell a rest) = (a < k) × (rest < k)

abbrev pub OrderedFrom : ℕ → List Node → Type 0
OrderedFrom k [] = Unit {0}
OrderedFrom k (n ∷ ns) = NodeBelow k n × OrderedFrom (k + 1) ns

-- the parts of each node have smaller numbers than it has
unfoldable pub IsOrdered : List Node → Type 0
IsOrdered ns = OrderedFrom 1 ns
