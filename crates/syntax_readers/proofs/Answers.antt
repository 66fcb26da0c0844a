-- No two answers are one.
use Rattle.std.proofs.Common.{◌≡◌, List, ◌∷◌, ◌++◌, ap, ◌∙◌}
use Rattle.std.proofs.lemmas.List.{append_cancel_right}
use Rattle.ada_base.specs.Symbols.{Symbol}
use Rattle.syntax_readers.specs.Readers.{Answer, Found, Refused, TooDeep}

pub refused_found : {A : Type 0} (a : A) → Refused ≡ Found a → ⊥
refused_found a e = cc

pub deep_found : {A : Type 0} (a : A) → TooDeep ≡ Found a → ⊥
deep_found a e = cc

pub deep_refused : {A : Type 0} → ◌≡◌ {A = Answer A} TooDeep Refused → ⊥
deep_refused e = cc

pub found_is : {A : Type 0} (a b : A) → ◌≡◌ {A = Answer A} (Found a) (Found b) → a ≡ b
found_is a b e = cc

-- an answer that leaves what it was given is the same before any rest
pub same_rest : {A : Type 0} (a : Answer A) (xs r r' : List Symbol) (o : Answer A) (y : Symbol) (ys : List Symbol) → ◌≡◌ {A = Answer A × List Symbol} (a, xs ++ r) (o, (y ∷ ys) ++ r) → ◌≡◌ {A = Answer A × List Symbol} (a, xs ++ r') (o, (y ∷ ys) ++ r')
same_rest {A} a xs r r' o y ys e = ap (λ (z : Answer A). (z, xs ++ r')) (ap (λ z. z.0) e) ∙ ap (λ (z : List Symbol). (o, z ++ r')) (append_cancel_right xs (y ∷ ys) r (ap (λ z. z.1) e))
