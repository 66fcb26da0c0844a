-- The parts of an even division, and what stands before each.
use Rattle.std.proofs.Common.{◌≡◌, ℕ, zero, suc, ◌+◌, ◌-◌, ◌*◌, ◌/◌, ◌%◌, ◌<◌, ◌≤◌, min, List, [], ◌∷◌, ◌++◌, length, get_or, take, sum, All, refl, sym, ap, ◌∙◌, arith}
use Rattle.std.proofs.Math.Nat.{mul-suc, mul_comm, div-add-mod, mod-lt}
use Rattle.std.proofs.lemmas.List.{take_all, take_more}
use Rattle.std.proofs.lemmas.List.Sums.{sum_by-cons}
use Rattle.std.proofs.lemmas.List.Elements.{All-nil, All-cons}
use Rattle.ada_base.specs.Cuts.{shares, evens}

pub length-shares : (least k more : ℕ) → length (shares least k more) ≡ k
length-shares least zero more = refl
length-shares least (suc k) zero = ap suc (length-shares least k zero)
length-shares least (suc k) (suc more) = ap suc (length-shares least k more)

pub shares-part : (least k more i : ℕ) → i < k → get_or (shares least k more) i 0 ≡ least + min 1 (more - i)
shares-part least zero more i h = absurd (omega arith)
shares-part least (suc k) zero zero h = omega arith
shares-part least (suc k) zero (suc i) h = let r = shares-part least k zero i (omega arith) in omega arith
shares-part least (suc k) (suc more) zero h = omega arith
shares-part least (suc k) (suc more) (suc i) h = let r = shares-part least k more i (omega arith) in omega arith

pub shares-before : (least k more i : ℕ) → i ≤ k → sum (take i (shares least k more)) ≡ least * i + min more i
shares-before least k more zero h = omega arith
shares-before least zero more (suc i) h = absurd (omega arith)
shares-before least (suc k) zero (suc i) h =
    let r = shares-before least k zero i (omega arith) in
    let s = sum_by-cons (λ x. x) least (take i (shares least k zero)) in
    let m = mul-suc least i in
    omega arith
shares-before least (suc k) (suc more) (suc i) h =
    let r = shares-before least k more i (omega arith) in
    let s = sum_by-cons (λ x. x) (suc least) (take i (shares least k more)) in
    let m = mul-suc least i in
    omega arith

pub shares-filled : (least k more : ℕ) → 0 < least → All (λ size. 0 < size) (shares least k more)
shares-filled least zero more h = All-nil (λ size. 0 < size)
shares-filled least (suc k) zero h = All-cons (λ size. 0 < size) least (shares least k zero) h (shares-filled least k zero h)
shares-filled least (suc k) (suc more) h = All-cons (λ size. 0 < size) (suc least) (shares least k more) (omega arith) (shares-filled least k more h)

pub length-evens : (n k : ℕ) → length (evens n k) ≡ k
length-evens n k = length-shares (n / k) k (n % k)

pub evens-before : (n k i : ℕ) → i ≤ k → sum (take i (evens n k)) ≡ (n / k) * i + min (n % k) i
evens-before n k i h = shares-before (n / k) k (n % k) i h

pub evens-part : (n k i : ℕ) → i < k → get_or (evens n k) i 0 ≡ n / k + min 1 (n % k - i)
evens-part n k i h = shares-part (n / k) k (n % k) i h

pub evens-whole : (n k : ℕ) → 0 < k → sum (evens n k) ≡ n
evens-whole n k pos =
    let all : take k (evens n k) ≡ evens n k = take_all k (evens n k) (omega (arith, length-evens n k)) in
    let before = evens-before n k k (omega arith) in
    let less = mod-lt n pos in
    let parts = div-add-mod n k in
    let same = mul_comm (n / k) k in
    ap sum (sym all) ∙ before ∙ omega arith

pub evens-more : (n k i len : ℕ) (sizes new : List ℕ) → i < k → sizes ≡ take i (evens n k) → len ≡ get_or (evens n k) i 0 → new ≡ sizes ++ len ∷ [] → new ≡ take (i + 1) (evens n k)
evens-more n k i len sizes new h s l e = let more = take_more (evens n k) i 0 (omega (arith, length-evens n k)) in cc

pub evens-all : (n k i : ℕ) (sizes : List ℕ) → k ≤ i → sizes ≡ take i (evens n k) → sizes ≡ evens n k
evens-all n k i sizes h s = s ∙ take_all i (evens n k) (omega (arith, length-evens n k))
