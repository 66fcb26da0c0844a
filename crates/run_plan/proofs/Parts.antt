-- A part as it is computed.
use Rattle.std.proofs.Common.{◌≡◌, ℕ, ◌+◌, ◌-◌, ◌*◌, ◌/◌, ◌%◌, ◌<◌, ◌≤◌, min, get_or, take, sum, ap, sym, ◌∙◌, arith}
use Rattle.std.proofs.Math.Nat.{div-add-mod, mul_comm, mul-le-mul_left}
use Rattle.std.proofs.lemmas.List.{take_all}
use Rattle.std.proofs.lemmas.List.Sums.{sum_by_more, sum_by-take-le}
use Rattle.ada_base.specs.Cuts.{evens}
use Rattle.run_plan.specs.Even.{even_of}
use Rattle.run_plan.specs.declared.even_division.Range.{Range}
use Rattle.run_plan.proofs.Evens.{length-evens, evens-before, evens-part, evens-whole}

-- the greater parts come first
pub greater-part : (least more i : ℕ) → i < more → least + 1 ≡ least + min 1 (more - i)
greater-part least more i h = omega arith

pub least-part : (least more i : ℕ) → more ≤ i → least ≡ least + min 1 (more - i)
least-part least more i h = omega arith

-- no part, and nothing before one, is more than all
pub part-fits : (n k i : ℕ) → i < n % k → i < k → n / k + 1 ≤ n
part-fits n k i m h =
    let once = mul-le-mul_left {m = 1} {n = k} (n / k) (omega arith) in
    let whole = div-add-mod n k in
    let same = mul_comm (n / k) k in
    omega (arith, once, whole, same)

pub before-fits : (n k i : ℕ) → i < k → n / k * i + min (n % k) i ≤ n
before-fits n k i h =
    let all = mul-le-mul_left {m = i} {n = k} (n / k) (omega arith) in
    let whole = div-add-mod n k in
    let same = mul_comm (n / k) k in
    omega (arith, all, whole, same)

-- of numbers that were widened first
pub part-is : (n k i wide_k wide_i before len : ℕ) → wide_k ≡ k → wide_i ≡ i → before ≡ min (n % wide_k) wide_i → len ≡ n / wide_k + min 1 (n % wide_k - wide_i) → i < k → (n / wide_k * wide_i + before ≡ sum (take i (evens n k))) × (len ≡ get_or (evens n k) i 0)
part-is n k i wide_k wide_i before len ek ei eb el h =
    let b = evens-before n k i (omega arith) in
    let p = evens-part n k i h in
    (rw (eb, ek, ei) (sym b), el ∙ rw (ek, ei) (sym p))

pub range-is : (n k i : ℕ) (first len : ℕ) → (first ≡ sum (take i (evens n k))) × (len ≡ get_or (evens n k) i 0) → ◌≡◌ {A = Range} (record { first = first; len = len }) (even_of n k i)
range-is n k i first len e = cc (e.0, e.1)

pub range-meets : (n k i : ℕ) (first len : ℕ) → i < k → (first ≡ sum (take i (evens n k))) × (len ≡ get_or (evens n k) i 0) → sum (take (i + 1) (evens n k)) ≡ first + len
range-meets n k i first len h e =
    let more = sum_by_more (λ x. x) (evens n k) i 0 (omega (arith, length-evens n k)) in
    omega (arith, e.0, e.1, more)

pub range-within : (n k i : ℕ) (first len : ℕ) → i < k → (first ≡ sum (take i (evens n k))) × (len ≡ get_or (evens n k) i 0) → first + len ≤ n
range-within n k i first len h e =
    let meets = range-meets n k i first len h e in
    let below = sum_by-take-le (λ x. x) (evens n k) (i + 1) in
    let whole = evens-whole n k (omega arith) in
    omega (arith, meets, below, whole)

pub range-ends : (n k i : ℕ) (first len : ℕ) → i < k → (first ≡ sum (take i (evens n k))) × (len ≡ get_or (evens n k) i 0) → i + 1 ≡ k → first + len ≡ n
range-ends n k i first len h e last =
    let meets = range-meets n k i first len h e in
    let all : take (i + 1) (evens n k) ≡ evens n k = take_all (i + 1) (evens n k) (omega (arith, length-evens n k)) in
    sym meets ∙ ap sum all ∙ evens-whole n k (omega arith)
