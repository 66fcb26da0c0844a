-- Sizes that aren't 0.
use Rattle.std.proofs.Common.{◌≡◌, ℕ, zero, suc, ◌+◌, ◌<◌, List, [], ◌∷◌, ◌++◌, length, get_or, take, arith, refl, sym, ◌∙◌, ap, append-nil}
use Rattle.std.proofs.Math.Seq.{take-suc}
use Rattle.ada_meaning.specs.Values.{without_zeros}

front : (xs ys : List ℕ) → without_zeros (xs ++ ys) ≡ without_zeros xs ++ without_zeros ys
front [] ys = refl
front (zero ∷ xs) ys = front xs ys
front (suc n ∷ xs) ys = ap (λ l. suc n ∷ l) (front xs ys)

keep_one : (n : ℕ) → (0 < n) → without_zeros (n ∷ []) ≡ n ∷ []
keep_one zero lt = absurd (omega (arith, lt))
keep_one (suc n) lt = refl

next : (ns : List ℕ) (i : ℕ) → i < length ns → without_zeros (take (i + 1) ns) ≡ without_zeros (take i ns) ++ without_zeros (get_or ns i 0 ∷ [])
next ns i lt =
    let e : i + 1 ≡ suc i = omega arith in
    ap (λ k. without_zeros (take k ns)) e ∙ ap without_zeros (take-suc ns i 0 lt) ∙ front (take i ns) (get_or ns i 0 ∷ [])

pub kept_on : (ns ks ls : List ℕ) (i : ℕ) → i < length ns → 0 < get_or ns i 0 → ks ≡ without_zeros (take i ns) → ls ≡ ks ++ get_or ns i 0 ∷ [] → ls ≡ without_zeros (take (i + 1) ns)
kept_on ns ks ls i lt some k l = l ∙ ap (λ m. m ++ get_or ns i 0 ∷ []) k ∙ ap (λ m. without_zeros (take i ns) ++ m) (sym (keep_one (get_or ns i 0) some)) ∙ sym (next ns i lt)

pub kept_still : (ns ks : List ℕ) (i : ℕ) → i < length ns → get_or ns i 0 ≡ 0 → ks ≡ without_zeros (take i ns) → ks ≡ without_zeros (take (i + 1) ns)
kept_still ns ks i lt none k = k ∙ sym (next ns i lt ∙ ap (λ n. without_zeros (take i ns) ++ without_zeros (n ∷ [])) none ∙ append-nil (without_zeros (take i ns)))
