-- Touches that are kept, from the last to the first.
use Rattle.std.proofs.Common.{◌≡◌, ℕ, List, [], ◌∷◌, ◌++◌, cond, sym, ap, ◌∙◌, append_assoc}
use Rattle.std.proofs.lemmas.List.{append-nil}
use Rattle.check_clashes.specs.declared.effects.Touch.{Touch}
use Rattle.check_inference.specs.Paths.{is_hidden}
use Rattle.check_inference.specs.Program.{kept}

kept_last : (objects : List ℕ) (ts : List Touch) (t : Touch) → kept objects (ts ++ t ∷ []) ≡ cond (is_hidden objects t.path.object) (t ∷ []) [] ++ kept objects ts
unfolding kept
kept_last objects [] t = sym (append-nil (cond (is_hidden objects t.path.object) (t ∷ []) []))
kept_last objects (s ∷ ts) t =
    ap (λ (xs : List Touch). xs ++ cond (is_hidden objects s.path.object) (s ∷ []) []) (kept_last objects ts t)
    ∙ append_assoc (cond (is_hidden objects t.path.object) (t ∷ []) []) (kept objects ts) (cond (is_hidden objects s.path.object) (s ∷ []) [])

-- one more touch is taken off the end
pub kept_next : (objects : List ℕ) (before left found more all : List Touch) (t : Touch)
    → before ≡ left ++ t ∷ []
    → more ≡ found ++ cond (is_hidden objects t.path.object) (t ∷ []) []
    → found ++ kept objects before ≡ all
    → more ++ kept objects left ≡ all
kept_next objects before left found more all t e f h =
    ap (λ (xs : List Touch). xs ++ kept objects left) f
    ∙ append_assoc found (cond (is_hidden objects t.path.object) (t ∷ []) []) (kept objects left)
    ∙ ap (λ (xs : List Touch). found ++ xs) (sym (kept_last objects left t) ∙ ap (kept objects) (sym e))
    ∙ h
