-- What each division into chunks keeps: all iterations, no empty chunk, no more chunks than there may be.
use Rattle.std.proofs.Common.{◌≡◌, ℕ, zero, suc, ◌+◌, ◌-◌, ◌/◌, ◌%◌, ◌<◌, ◌≤◌, min, max, nat_le, List, [], ◌∷◌, All, Bool, true, false, cond, refl, ap, ◌∙◌, arith}
use Rattle.std.proofs.lemmas.Bool.{leb-false}
use Rattle.std.proofs.lemmas.Nat.{le-div}
use Rattle.std.proofs.lemmas.List.Sums.{sum_by-cons}
use Rattle.std.proofs.lemmas.List.Elements.{All-nil, All-cons, All-head, All-tail}
use Rattle.ada_base.specs.Cuts.{rest_of, chunked, listed, evens, cuts_of}
use Rattle.run_plan.specs.Plans.{HasNoZero, IsCut, plan_of}
use Rattle.run_plan.specs.declared.plan.Plan.{Plan}
use Rattle.run_plan.specs.declared.plan.Plan.TheVariants as plan
use Rattle.run_plan.proofs.Evens.{length-evens, evens-whole, shares-filled}

positive : ℕ → Type 0
positive size = 0 < size

rest-sound : (n most : ℕ) → 1 ≤ most → IsCut (rest_of n) n most
unfolding positive
rest-sound zero most h = record { whole = refl; filled = All-nil positive; few = omega arith }
rest-sound (suc n) most h =
    record { whole = omega arith; filled = All-cons positive (suc n) [] (omega arith) (All-nil positive); few = omega arith }

-- one chunk before others, unless the rest is no longer than it
begun-sound : (c : Bool) (size n most : ℕ) (sizes : List ℕ) → (c ≡ false → size < n) → 0 < size → IsCut sizes (n - size) (suc most) → IsCut (cond c (rest_of n) (size ∷ sizes)) n (suc (suc most))
unfolding positive
begun-sound true size n most sizes less some s = rest-sound n (suc (suc most)) (omega arith)
begun-sound false size n most sizes less some s =
    let h = less refl in
    record {
      whole = sum_by-cons (λ x. x) size sizes ∙ ap (λ x. size + x) s.whole ∙ omega arith;
      filled = All-cons positive size sizes some s.filled;
      few = omega (arith, s.few);
    }

chunked-sound : (size most n : ℕ) → 0 < size → 1 ≤ most → IsCut (chunked size most n) n most
chunked-sound size zero n some h = absurd (omega arith)
chunked-sound size (suc zero) n some h = rest-sound n 1 (omega arith)
chunked-sound size (suc (suc more)) n some h =
    begun-sound (nat_le n size) size n more (chunked size (suc more) (n - size)) (leb-false n size) some (chunked-sound size (suc more) (n - size) some (omega arith))

listed-sound : (sizes : List ℕ) (most n : ℕ) → All positive sizes → 1 ≤ most → IsCut (listed sizes most n) n most
unfolding positive
listed-sound sizes zero n some h = absurd (omega arith)
listed-sound [] (suc more) n some h = rest-sound n (suc more) (omega arith)
listed-sound (s ∷ ss) (suc zero) n some h = rest-sound n 1 (omega arith)
listed-sound (s ∷ ss) (suc (suc more)) n some h =
    begun-sound (nat_le n s) s n more (listed ss (suc more) (n - s)) (leb-false n s) (All-head positive s ss some) (listed-sound ss (suc more) (n - s) (All-tail positive s ss some) (omega arith))

evens-sound : (n k most : ℕ) → 0 < k → k ≤ n → k ≤ most → IsCut (evens n k) n most
unfolding positive
evens-sound n k most some less few =
    record {
      whole = evens-whole n k some;
      filled = shares-filled (n / k) k (n % k) (le-div 1 n k some (omega arith));
      few = omega (arith, length-evens n k);
    }

evenly-sound : (n k most : ℕ) → 0 < k → 1 ≤ most → IsCut (evens n (min k (min n (max 1 most)))) n most
evenly-sound zero k most some h =
    let e : min k (min 0 (max 1 most)) ≡ 0 = omega arith in rw e (record { whole = refl; filled = All-nil (λ size. 0 < size); few = omega arith })
evenly-sound (suc n) k most some h =
    evens-sound (suc n) (min k (min (suc n) (max 1 most))) most (omega arith) (omega arith) (omega arith)

pub cuts-sound : (p : Plan) (n most : ℕ) → HasNoZero p → 1 ≤ most → IsCut (cuts_of (plan_of p) most n) n most
unfolding positive
cuts-sound plan.One n most some h = rest-sound n most h
cuts-sound (plan.Even chunks) n most some h = evenly-sound n chunks most some h
cuts-sound (plan.Sized size) n most some h = chunked-sound size most n some h
cuts-sound (plan.Listed sizes) n most some h = listed-sound sizes most n some h
