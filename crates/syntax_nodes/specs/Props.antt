-- What is known of a table has one proof at most.
use Rattle.std.specs.Prelude.{ℕ, ◌+◌, List, [], ◌∷◌, length}
use mathlib.Core.HLevel.{Unit-prop, ×_prop}
use denote.Struct.Props as logic
use Rattle.syntax_nodes.specs.Tables.{NodeBelow, OrderedFrom, IsOrdered}
use Rattle.syntax_nodes.specs.Rooted.{AllBelow, Fit}
use Rattle.syntax_nodes.specs.declared.nodes.Node.{Node}
use Rattle.syntax_nodes.specs.declared.nodes.Node.TheVariants as node

NodeBelow-prop : (k : ℕ) (n : Node) → IsProp (NodeBelow k n)
NodeBelow-prop k node.Nothing = Unit-prop
NodeBelow-prop k (node.Leaf f) = Unit-prop
NodeBelow-prop k (node.One f a) = Prim.hlevel logic.props
NodeBelow-prop k (node.Two f b a) = Prim.hlevel logic.props
NodeBelow-prop k (node.Three f c b a) = Prim.hlevel logic.props
NodeBelow-prop k (node.Four f d c b a) = Prim.hlevel logic.props
NodeBelow-prop k (node.Also l b a) = Prim.hlevel logic.props
NodeBelow-prop k (node.Cell a rest) = Prim.hlevel logic.props

OrderedFrom-prop : (k : ℕ) (ns : List Node) → IsProp (OrderedFrom k ns)
OrderedFrom-prop k [] = Unit-prop
OrderedFrom-prop k (n ∷ ns) = ×_prop (NodeBelow-prop k n) (OrderedFrom-prop (k + 1) ns)

pub IsOrdered-prop : (ns : List Node) → IsProp (IsOrdered ns)
unfolding IsOrdered
IsOrdered-prop ns = OrderedFrom-prop 1 ns

AllBelow-prop : (n : ℕ) (rs : List ℕ) → IsProp (AllBelow n rs)
AllBelow-prop n [] = Unit-prop
AllBelow-prop n (r ∷ rs) = ×_prop (Prim.hlevel logic.props) (AllBelow-prop n rs)

pub Fit-prop : (ns : List Node) (rs : List ℕ) → IsProp (Fit ns rs)
Fit-prop ns rs a b = λ i. record {
  ordered = IsOrdered-prop ns a.ordered b.ordered i;
  below = AllBelow-prop (length ns) rs a.below b.below i;
}

pub ruleset fit_props = (Fit-prop, logic.props)
