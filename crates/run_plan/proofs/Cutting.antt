-- One chunk after another, and what is left.
use Rattle.std.proofs.Common.{◌≡◌, ℕ, zero, suc, ◌+◌, ◌-◌, ◌<◌, ◌≤◌, List, [], ◌∷◌, ◌++◌, length, get_or, drop, append_assoc, refl, sym, ap, ◌∙◌, arith, add-one, drop-cons}
use Rattle.std.proofs.lemmas.Bool.{le-leb, lt-leb}
use Rattle.ada_base.specs.Cuts.{rest_of, chunked, listed}

-- a chunk that is no longer to come
pub cut-more : (sizes new cut rest whole : List ℕ) (size : ℕ) → new ≡ sizes ++ size ∷ [] → cut ≡ size ∷ rest → sizes ++ cut ≡ whole → new ++ rest ≡ whole
cut-more sizes new cut rest whole size grown first all =
    ap (λ x. x ++ rest) grown ∙ append_assoc sizes (size ∷ []) rest ∙ ap (λ x. sizes ++ x) (sym first) ∙ all

-- where more than one may come, one may come after the next
pub some-left : (left : ℕ) → 1 < left → 1 ≤ left - 1
some-left left h = omega arith

pub above-one : (left : ℕ) → 1 ≤ left → (left ≡ 1 → ⊥) → 1 < left
above-one left some more = omega arith

pub chunked-more : (size left rest : ℕ) → 1 < left → size < rest → chunked size left rest ≡ size ∷ chunked size (left - 1) (rest - size)
chunked-more size zero rest l h = absurd (omega arith)
chunked-more size (suc zero) rest l h = absurd (omega arith)
chunked-more size (suc (suc more)) rest l h =
    let e : suc (suc more) - 1 ≡ suc more = omega arith in
    rw (lt-leb rest size h, e) refl

pub listed-more : (given : List ℕ) (k left rest size : ℕ) → k < length given → size ≡ get_or given k 0 → 1 < left → size < rest → listed (drop k given) left rest ≡ size ∷ listed (drop (k + 1) given) (left - 1) (rest - size)
listed-more given k zero rest size i s l h = absurd (omega arith)
listed-more given k (suc zero) rest size i s l h = absurd (omega arith)
listed-more given k (suc (suc more)) rest size i s l h =
    let e : suc (suc more) - 1 ≡ suc more = omega arith in
    rw (drop-cons given k 0, ← s, lt-leb rest size h, e, add-one) refl

-- no further chunk is begun
pub chunked-last : (size left rest : ℕ) → left ≤ 1 → chunked size left rest ≡ rest_of rest
chunked-last size zero rest l = refl
chunked-last size (suc zero) rest l = refl
chunked-last size (suc (suc more)) rest l = absurd (omega arith)

pub chunked-stops : (size left rest : ℕ) → rest ≤ size → chunked size left rest ≡ rest_of rest
chunked-stops size zero rest h = refl
chunked-stops size (suc zero) rest h = refl
chunked-stops size (suc (suc more)) rest h = rw (le-leb rest size h) refl

pub listed-last : (given : List ℕ) (left rest : ℕ) → left ≡ 1 → listed given left rest ≡ rest_of rest
listed-last [] left rest l = rw l refl
listed-last (s ∷ ss) left rest l = rw l refl

pub listed-none : (given : List ℕ) (k left rest : ℕ) → length given ≤ k → listed (drop k given) left rest ≡ rest_of rest
listed-none given k zero rest l = refl
listed-none [] zero (suc left) rest l = refl
listed-none [] (suc k) (suc left) rest l = refl
listed-none (s ∷ ss) zero (suc left) rest l = absurd (omega arith)
listed-none (s ∷ ss) (suc k) (suc left) rest l = listed-none ss k (suc left) rest (omega arith)

pub listed-stops : (given : List ℕ) (k left rest size : ℕ) → k < length given → size ≡ get_or given k 0 → rest ≤ size → listed (drop k given) left rest ≡ rest_of rest
listed-stops given k zero rest size i s h = refl
listed-stops given k (suc zero) rest size i s h = rw (drop-cons given k 0) refl
listed-stops given k (suc (suc more)) rest size i s h = rw (drop-cons given k 0, ← s, le-leb rest size h) refl

-- what is left is one chunk, or none
pub rest-some : (rest : ℕ) → 0 < rest → rest_of rest ≡ rest ∷ []
rest-some zero h = absurd (omega arith)
rest-some (suc rest) h = refl

pub rest-none : (rest : ℕ) → rest ≤ 0 → rest_of rest ≡ []
rest-none zero h = refl
rest-none (suc rest) h = absurd (omega arith)

-- what is left goes behind the chunks before
pub cut-all : (sizes cut whole left new : List ℕ) → new ≡ sizes ++ left → cut ≡ left → sizes ++ cut ≡ whole → new ≡ whole
cut-all sizes cut whole left new e f g = cc
