-- The last item of a vector is the innermost part that is repeated.
use Rattle.std.proofs.Common.{◌≡◌, List, [], ◌∷◌, ◌++◌, reverse, ap, ◌∙◌}
use Rattle.std.proofs.lemmas.List.{reverse-append}
use Rattle.stack_code.specs.declared.path.Round.{Round}

pub begun : (xs ys rest : List Round) (r : Round) → xs ≡ ys ++ r ∷ [] → ys ≡ rest → reverse xs ≡ r ∷ reverse rest
begun xs ys rest r e f = ap reverse e ∙ reverse-append ys (r ∷ []) ∙ ap (λ l. r ∷ reverse l) f
