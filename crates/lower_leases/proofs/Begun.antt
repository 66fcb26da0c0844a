-- Lists that grow by one item after another.
use Rattle.std.proofs.Common.{◌≡◌, List, [], ◌∷◌, ◌++◌, ap, ◌∙◌, append_assoc}

pub behind_one : {A : Type 0} (old new more : List A) (x : A) → new ≡ old ++ x ∷ [] → new ++ more ≡ old ++ x ∷ more
behind_one old new more x e = ap (λ xs. xs ++ more) e ∙ append_assoc old (x ∷ []) more
