-- The parts that are being joined, the latest first, and what is known of the table that they stand in.
use Rattle.std.specs.Prelude.{ℕ, ◌≡◌, ◌<◌, ◌≤◌, List, [], ◌∷◌, ◌++◌, length, slice_get, Some}
use Rattle.typed_tree.specs.declared.node.Node.TheVariants as node
use Rattle.typed_tree.specs.declared.node.Node.{Node}
use Rattle.typed_tree.specs.Decoded.{TypedPart, part_at}
use Rattle.typed_tree.specs.Ordered.{IsOrdered}

-- a table of nodes, and the numbers of the parts that are being joined, the latest last
pub record Table : Type 0 where
  pub nodes : List Node
  pub roots : List ℕ

abbrev pub stacked : (ℕ → TypedPart) → List ℕ → List TypedPart → List TypedPart
stacked at [] s = s
stacked at (r ∷ rs) s = stacked at rs (at r ∷ s)

-- what the parts of these numbers are, the latest first
unfoldable pub parts_in : List Node → List ℕ → List TypedPart
parts_in nodes roots = stacked (part_at nodes) roots []

-- the parts that are being joined, the latest first
abbrev pub parts : Table → List TypedPart
parts t = parts_in t.nodes t.roots

-- the last of some numbers, with those before it, or 0 where there is none
abbrev pub IsLatest : List ℕ → List ℕ → ℕ → Type 0
IsLatest [] rest last = (rest ≡ []) × (last ≡ 0)
IsLatest (r ∷ rs) rest last = (r ∷ rs) ≡ rest ++ last ∷ []

abbrev pub AllBelow : ℕ → List ℕ → Type 0
AllBelow n [] = Unit {0}
AllBelow n (r ∷ rs) = (r < n) × AllBelow n rs

-- number 0 is nothing, each node has its parts before it, and each root is a node
pub record Fit (ns : List Node) (rs : List ℕ) : Type 0 where
  pub starts : slice_get ns 0 ≡ Some node.End
  pub ordered : IsOrdered ns
  pub below : AllBelow (length ns) rs

-- what stood in a table stands for the same, and there may be more
pub record Stays (ns ms : List Node) : Type 0 where
  pub more : length ns ≤ length ms
  pub same : (k : ℕ) → k < length ns → part_at ms k ≡ part_at ns k
