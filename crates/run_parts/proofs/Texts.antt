-- The bytes of a text, one after the other.
use Rattle.std.proofs.Common.{◌≡◌, ℕ, List, [], ◌∷◌, ◌++◌, refl, sym, ap, ◌∙◌, append_assoc}
use Rattle.std.proofs.lemmas.List.{append-nil}
use Rattle.typed_tree.specs.declared.node.Leaf.{Leaf}
use Rattle.typed_tree.specs.declared.node.Leaf.TheVariants as leaf
use Rattle.typed_tree.specs.Decoded.{bytes_in}
use Rattle.run_parts.specs.Words.{text_with}

with_leaf : (text : List ℕ) (l : Leaf) (rest : List Leaf) → text_with text l ++ bytes_in rest ≡ text ++ bytes_in (l ∷ rest)
with_leaf text (leaf.Byte b) rest = append_assoc text (b ∷ []) (bytes_in rest)
with_leaf text (leaf.Run r) rest = refl
with_leaf text (leaf.Span s) rest = refl
with_leaf text (leaf.Reason r) rest = refl
with_leaf text (leaf.Bounds b) rest = refl
with_leaf text (leaf.Field f) rest = refl
with_leaf text (leaf.Formal f) rest = refl

pub text_more : (text more whole : List ℕ) (l : Leaf) (ls rest : List Leaf) → ls ≡ l ∷ rest → more ≡ text_with text l → text ++ bytes_in ls ≡ whole → more ++ bytes_in rest ≡ whole
text_more text more whole l ls rest e f g = ap (λ t. t ++ bytes_in rest) f ∙ with_leaf text l rest ∙ ap (λ k. text ++ bytes_in k) (sym e) ∙ g

pub text_done : (text whole : List ℕ) (ls : List Leaf) → ls ≡ [] → text ++ bytes_in ls ≡ whole → text ≡ whole
text_done text whole ls e g = sym (append-nil text) ∙ ap (λ k. text ++ bytes_in k) (sym e) ∙ g
