-- The chunks of a plan have all iterations.
use Rattle.std.proofs.Common.{◌≡◌, ℕ, zero, suc, ◌+◌, ◌*◌, ◌-◌, ◌/◌, ◌%◌, ◌<◌, ◌≤◌, min, max, nat_le, List, [], ◌∷◌, Bool, true, false, cond, refl, ap, ◌∙◌, arith}
use Rattle.std.proofs.Math.Nat.{suc-mul, div-add-mod, mod-lt}
use Rattle.std.proofs.lemmas.Bool.{leb-false}
use Rattle.ada_base.specs.Cuts.{evens, shares, Plan, One, Even, Chunked, Listed, rest_of, chunked, listed, cuts_of}
use Rattle.ada_meaning.specs.Law.{IsPlan}
use Rattle.ada_meaning.proofs.Folds.{adds}
use Rattle.ada_meaning.proofs.Listed.{zero_times}

rest_whole : (n : ℕ) → adds (rest_of n) ≡ n
rest_whole zero = refl
rest_whole (suc n) = omega arith

shares_whole : (least k more : ℕ) → more ≤ k → adds (shares least k more) ≡ k * least + more
shares_whole least zero more le = let e = zero_times least in omega arith
shares_whole least (suc k) zero le = let e = suc-mul k least in let h = shares_whole least k zero (omega arith) in omega arith
shares_whole least (suc k) (suc more) le = let e = suc-mul k least in let h = shares_whole least k more (omega arith) in omega arith

evens_whole : (n k : ℕ) → 0 < k → adds (evens n k) ≡ n
evens_whole n k pos = let less = mod-lt n pos in shares_whole (n / k) k (n % k) (omega arith) ∙ div-add-mod n k

cond_whole : (c : Bool) (n size : ℕ) (ns : List ℕ) → (c ≡ false → adds (size ∷ ns) ≡ n) → adds (cond c (rest_of n) (size ∷ ns)) ≡ n
cond_whole true n size ns h = rest_whole n
cond_whole false n size ns h = h refl

chunked_whole : (size most n : ℕ) → adds (chunked size most n) ≡ n
chunked_whole size zero n = rest_whole n
chunked_whole size (suc zero) n = rest_whole n
chunked_whole size (suc (suc more)) n =
    let h = chunked_whole size (suc more) (n - size) in
    cond_whole (nat_le n size) n size (chunked size (suc more) (n - size)) (λ e. let lt = leb-false n size e in omega arith)

listed_whole : (sizes : List ℕ) (most n : ℕ) → adds (listed sizes most n) ≡ n
listed_whole sizes zero n = rest_whole n
listed_whole [] (suc more) n = rest_whole n
listed_whole (s ∷ ss) (suc zero) n = rest_whole n
listed_whole (s ∷ ss) (suc (suc more)) n =
    let h = listed_whole ss (suc more) (n - s) in
    cond_whole (nat_le n s) n s (listed ss (suc more) (n - s)) (λ e. let lt = leb-false n s e in omega arith)

pub cuts_whole : (plan : Plan) → IsPlan plan → (most n : ℕ) → adds (cuts_of plan most n) ≡ n
cuts_whole One h most n = rest_whole n
cuts_whole (Even k) h most zero = let e : min k (min 0 (max 1 most)) ≡ 0 = omega arith in ap (λ c. adds (evens 0 c)) e
cuts_whole (Even k) h most (suc n) = evens_whole (suc n) (min k (min (suc n) (max 1 most))) (omega arith)
cuts_whole (Chunked s) h most n = chunked_whole s most n
cuts_whole (Listed ss) h most n = listed_whole ss most n
