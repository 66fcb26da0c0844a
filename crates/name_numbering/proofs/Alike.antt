-- Two lists are alike if they are the same.
use Rattle.std.proofs.Common.{◌≡◌, refl, sym, subst, ℕ, Bool, true, false, List, [], ◌∷◌, eqb-true, eq-eqb}
use Rattle.std.proofs.lemmas.Bool.{and_from, and_parts, false_from_ne_true, false≢true}
use Rattle.std.specs.Prelude.{◌==◌, ◌↔◌, IsTrue}
use Rattle.name_symbols.specs.Naming.{alike}

alike_same : (s : List ℕ) → alike s s ≡ true
alike_same [] = refl
alike_same (c ∷ s) = and_from (c == c) (alike s s) (eq-eqb c c refl) (alike_same s)

alike_from : (s t : List ℕ) → s ≡ t → alike s t ≡ true
alike_from s t e = subst (λ u. alike s u ≡ true) e (alike_same s)

cons_eq : (c d : ℕ) (s t : List ℕ) → c ≡ d → s ≡ t → (c ∷ s) ≡ (d ∷ t)
cons_eq c d s t e f = cc

pub alike_eq : (s t : List ℕ) → alike s t ≡ true → s ≡ t
alike_eq [] [] e = refl
alike_eq [] (d ∷ t) e = absurd (false≢true e)
alike_eq (c ∷ s) [] e = absurd (false≢true e)
alike_eq (c ∷ s) (d ∷ t) e =
    let p = and_parts (c == d) (alike s t) e in cons_eq c d s t (eqb-true c d p.0) (alike_eq s t p.1)

pub alike_by : (r : Bool) (s t : List ℕ) → (IsTrue r ↔ (s ≡ t)) → r ≡ alike s t
alike_by true s t e = sym (alike_from s t (e.0 refl))
alike_by false s t e = sym (false_from_ne_true (alike s t) (λ a. false≢true (e.1 (alike_eq s t a))))
