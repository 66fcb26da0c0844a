-- The parts that are being joined, the latest first, and what is known of the table that they stand in.
use Rattle.std.specs.Prelude.{ℕ, ◌≤◌, List, [], ◌∷◌, length}
use Rattle.syntax_nodes.specs.Parts.{TreePart, Nothing}
use Rattle.syntax_nodes.specs.Tables.{part_at, IsOrdered}
use Rattle.syntax_nodes.specs.declared.nodes.Node.{Node}

abbrev pub top : List TreePart → TreePart
top [] = Nothing
top (p ∷ ps) = p

abbrev pub pop : List TreePart → List TreePart
pop [] = []
pop (p ∷ ps) = ps

abbrev pub second : List TreePart → TreePart
second ps = top (pop ps)

abbrev pub third : List TreePart → TreePart
third ps = top (pop (pop ps))

abbrev pub fourth : List TreePart → TreePart
fourth ps = top (pop (pop (pop ps)))

abbrev pub stacked : (ℕ → TreePart) → List ℕ → List TreePart → List TreePart
stacked at [] s = s
stacked at (r ∷ rs) s = stacked at rs (at r ∷ s)

-- what these numbers stand for, the last first
unfoldable pub stack : List Node → List ℕ → List TreePart
stack ns rs = stacked (part_at ns) rs []

abbrev pub AllBelow : ℕ → List ℕ → Type 0
AllBelow n [] = Unit {0}
AllBelow n (r ∷ rs) = (r ≤ n) × AllBelow n rs

-- each node has its parts before it, and each root is a node or 0
pub record Fit (ns : List Node) (rs : List ℕ) : Type 0 where
  pub ordered : IsOrdered ns
  pub below : AllBelow (length ns) rs
