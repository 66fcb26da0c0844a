-- Shares that are dealt lie within what there is to deal.
use Rattle.std.proofs.Common.{◌≡◌, ℕ, zero, suc, ◌+◌, ◌*◌, ◌/◌, ◌%◌, ◌≤◌, ◌-◌, nat_le, max, leb-false, Bool, true, false, cond, List, [], ◌∷◌, sum, min, refl, sym, ap, ◌∙◌, subst, arith, suc-mul}
use Rattle.std.proofs.Math.Nat.{mul_comm, div-add-mod}
use Rattle.std.proofs.lemmas.List.Sums.{sum_by-cons}
use Rattle.ada_base.specs.Cuts.{shares, evens, rest_of, chunked, listed, Plan, One, Even, Chunked, Listed, cuts_of}
use Rattle.behaviours.specs.Joins.{deal}
use Rattle.typed_tree.specs.declared.expressions.Reducer.{Reducer}
use Rattle.typed_tree.specs.Syntax.{Chunk, NoChunk, Count, Each}
use Rattle.ada_meaning.specs.Values.{without_zeros}
use Rattle.stack_code.specs.declared.path.Asked.{Asked}
use Rattle.ada_lower.specs.Driven.{sizes_for}
use Rattle.ada_lower.specs.Emission.{loop_kind, reduction_kind}
use Rattle.ada_lower.specs.FittedForks.{Within}
use Rattle.ada_lower.proofs.ForkFor.{Every}

sum_cons : (n : ℕ) (ns : List ℕ) → sum (n ∷ ns) ≡ n + sum ns
sum_cons n ns = sum_by-cons (λ x. x) n ns

shares_within : (least k more : ℕ) → sum (shares least k more) ≤ k * least + more
shares_within least zero more = omega arith
shares_within least (suc k) zero = let h = shares_within least k zero in omega (arith, h, sum_cons least (shares least k zero), suc-mul k least)
shares_within least (suc k) (suc more) = let h = shares_within least k more in omega (arith, h, sum_cons (suc least) (shares least k more), suc-mul k least)

pub evens_within : (n k : ℕ) → sum (evens n k) ≤ n
evens_within n zero = omega arith
evens_within n (suc k) = let h = shares_within (n / suc k) (suc k) (n % suc k) in let parts = div-add-mod n (suc k) in let same = mul_comm (n / suc k) (suc k) in omega (arith, h, parts, same)

without_within : (ns : List ℕ) → sum (without_zeros ns) ≡ sum ns
without_within [] = refl
without_within (zero ∷ ns) = without_within ns ∙ (let z = sum_cons 0 ns in omega (arith, z))
without_within (suc n ∷ ns) = sum_cons (suc n) (without_zeros ns) ∙ ap (λ m. suc n + m) (without_within ns) ∙ sym (sum_cons (suc n) ns)

pub every_within : (bound number first : ℕ) (sizes : List ℕ) → first + sum sizes ≤ bound → Every (λ j. j.first + j.size ≤ bound) (deal number first sizes)
every_within bound number first [] le = tt
every_within bound number first (n ∷ ns) le = (omega (arith, le, sum_cons n ns), every_within bound (suc number) (first + n) ns (omega (arith, le, sum_cons n ns)))

loop_within : (cuts : ℕ → ℕ → List ℕ) → Within cuts → (chunk : Chunk) (q : Asked) → sum (sizes_for cuts (loop_kind chunk) q) ≤ q.count
loop_within cuts w NoChunk q = w q.most q.count
loop_within cuts w (Count e) q = w q.most q.count
loop_within cuts w (Each k low high check) q = evens_within q.count q.most

fold_within : (cuts : ℕ → ℕ → List ℕ) → Within cuts → (by : Reducer) (chunk : Chunk) (q : Asked) → sum (sizes_for cuts (reduction_kind by chunk) q) ≤ q.count
fold_within cuts w by NoChunk q = w q.most q.count
fold_within cuts w by (Count e) q = w q.most q.count
fold_within cuts w by (Each k low high check) q = omega (arith, without_within (evens q.count q.most), evens_within q.count q.most)

-- the shares of a loop's threads, and of a reduction's
pub loop_shares : (cuts plan : ℕ → ℕ → List ℕ) → Within cuts → plan ≡ cuts → (chunk : Chunk) (q : Asked) (kind : _) → kind ≡ loop_kind chunk → Every (λ j. j.first + j.size ≤ q.count) (deal 0 0 (sizes_for plan kind q))
loop_shares cuts plan w same chunk q kind is = every_within q.count 0 0 (sizes_for plan kind q)
    (subst (λ p. 0 + sum (sizes_for p kind q) ≤ q.count) (sym same) (subst (λ k. 0 + sum (sizes_for cuts k q) ≤ q.count) (sym is) (let h = loop_within cuts w chunk q in omega (arith, h))))

pub fold_shares : (cuts plan : ℕ → ℕ → List ℕ) → Within cuts → plan ≡ cuts → (by : Reducer) (chunk : Chunk) (q : Asked) (kind : _) → kind ≡ reduction_kind by chunk → Every (λ j. j.first + j.size ≤ q.count) (deal 0 0 (sizes_for plan kind q))
fold_shares cuts plan w same by chunk q kind is = every_within q.count 0 0 (sizes_for plan kind q)
    (subst (λ p. 0 + sum (sizes_for p kind q) ≤ q.count) (sym same) (subst (λ k. 0 + sum (sizes_for cuts k q) ≤ q.count) (sym is) (let h = fold_within cuts w by chunk q in omega (arith, h))))

-- ---- each plan does so

rest_within : (n : ℕ) → sum (rest_of n) ≤ n
rest_within zero = omega arith
rest_within (suc n) = omega arith

chunked_within : (size most n : ℕ) → sum (chunked size most n) ≤ n
chunked_within size zero n = rest_within n
chunked_within size (suc zero) n = rest_within n
chunked_within size (suc (suc more)) n = go (chunked_within size (suc more) (n - size)) (nat_le n size) refl
  where
    go : sum (chunked size (suc more) (n - size)) ≤ n - size → (b : Bool) → nat_le n size ≡ b → sum (cond b (rest_of n) (size ∷ chunked size (suc more) (n - size))) ≤ n
    go h true e = rest_within n
    go h false e = let lt = leb-false n size e in omega (arith, h, lt, sum_cons size (chunked size (suc more) (n - size)))

listed_within : (sizes : List ℕ) (most n : ℕ) → sum (listed sizes most n) ≤ n
listed_within sizes zero n = rest_within n
listed_within [] (suc more) n = rest_within n
listed_within (s ∷ ss) (suc zero) n = rest_within n
listed_within (s ∷ ss) (suc (suc more)) n = go (listed_within ss (suc more) (n - s)) (nat_le n s) refl
  where
    go : sum (listed ss (suc more) (n - s)) ≤ n - s → (b : Bool) → nat_le n s ≡ b → sum (cond b (rest_of n) (s ∷ listed ss (suc more) (n - s))) ≤ n
    go h true e = rest_within n
    go h false e = let lt = leb-false n s e in omega (arith, h, lt, sum_cons s (listed ss (suc more) (n - s)))

pub plan_within : (plan : Plan) → Within (cuts_of plan)
plan_within One most n = rest_within n
plan_within (Even k) most n = evens_within n (min k (min n (max 1 most)))
plan_within (Chunked s) most n = chunked_within s most n
plan_within (Listed ss) most n = listed_within ss most n
