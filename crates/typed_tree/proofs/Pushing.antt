-- One more node.
use Rattle.std.specs.Prelude.{◌≡◌, ℕ, List, [], ◌∷◌, ◌++◌, length}
use Rattle.std.proofs.Common.{ap, arith}
use Rattle.std.proofs.lemmas.List.{length-append}
use Rattle.typed_tree.specs.declared.node.Node.{Node}
use Rattle.typed_tree.specs.Written.{put, last}

pub pushed : (n : Node) (old new : List Node) (k : ℕ) → new ≡ old ++ n ∷ [] → k ≡ length old → (new ≡ put n old) × (k ≡ last new)
unfolding put last
pushed n old new k e z = (e, omega (arith, z, ap length e, length-append old (n ∷ [])))
