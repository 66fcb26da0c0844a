-- Duties that are dealt evenly, in two parts.
use Rattle.std.proofs.Common.{◌≡◌, ℕ, zero, suc, ◌+◌, ◌-◌, ◌/◌, ◌<◌, ◌≤◌, min, inl, inr, List, [], ◌∷◌, ◌++◌, length, get_or, set, take, sum, arith, refl, sym, ◌∙◌, ap, subst, length-append}
use Rattle.std.proofs.lemmas.List.{get_or_append_left, get_or-append_right, get_or-set_same, get_or-set_other, get_or_default, take_all}
use Rattle.std.proofs.lemmas.Bool.{cases_lt, cases_eq}
use Rattle.std.proofs.lemmas.List.Sums.{sum_by-cons}
use Rattle.ada_base.specs.Cuts.{evens}
use Rattle.run_plan.specs.Even.{even_of}
use Rattle.run_plan.specs.declared.even_division.Range.{Range}
use Rattle.run_plan.proofs.Evens.{length-evens, evens-whole}
use Rattle.ada_workers.specs.Deals.{AllReady, AllRan, AreNumbered, IsShare, AreDealt}
use Rattle.ada_workers.specs.declared.dealing.Deal.{Deal}

sums : (xs : List ℕ) (i j : ℕ) → i ≤ j → sum (take i xs) ≤ sum (take j xs)
sums xs zero j le = omega arith
sums [] (suc i) zero le = absurd (omega (arith, le))
sums [] (suc i) (suc j) le = omega arith
sums (x ∷ xs) (suc i) zero le = absurd (omega (arith, le))
sums (x ∷ xs) (suc i) (suc j) le =
    let a : sum (x ∷ take i xs) ≡ x + sum (take i xs) = sum_by-cons (λ n. n) x (take i xs) in
    let b : sum (x ∷ take j xs) ≡ x + sum (take j xs) = sum_by-cons (λ n. n) x (take j xs) in
    omega (arith, a, b, sums xs i j (omega (arith, le)))

first_le : (n k i j : ℕ) → i ≤ j → (even_of n k i).first ≤ (even_of n k j).first
first_le n k i j le = sums (evens n k) i j le

first_last : (n k : ℕ) → 0 < k → (even_of n k k).first ≡ n
first_last n k lt = ap sum (take_all k (evens n k) (omega (arith, length-evens n k))) ∙ evens-whole n k lt

module _ {T : Type 0} where
  module _ (number : T → ℕ) where
    -- what the one worker of a deal has is its share
    pub one_share : (d : Deal) (ts : List T) (r : Range) → AreDealt number d ts → d.to - d.from ≡ 1 → r ≡ even_of d.duties d.workers d.from → (even_of d.duties d.workers (d.from + 1)).first ≡ r.first + r.len → IsShare number r ts
    one_share d ts r a one is meets =
        let next : d.to ≡ d.from + 1 = omega (arith, a.some) in
        let first = ap (λ (s : Range). s.first) is in
        let end = ap (λ k. (even_of d.duties d.workers k).first) next in (
          omega (arith, a.long, meets, first, end),
          λ k e lt. a.first k e lt ∙ ap (λ n. n + k) (sym first),
        )

    pub all_dealt : (ts : List T) (n workers : ℕ) → AreNumbered number 0 ts → 0 < workers → n ≡ length ts → AreDealt number (record { duties = n; workers = workers; from = 0; to = workers }) ts
    all_dealt ts n workers a lt e = record { some = lt; most = omega arith; first = a; long = omega (arith, first_last n workers lt, e) }

    -- the deal is cut behind so many of its workers
    module _ (d : Deal) (ts : List T) (a : AreDealt number d ts) (part : ℕ) (some : 0 < part) (few : part < d.to - d.from) (share up : Range) (is : share ≡ even_of d.duties d.workers d.from) (is-up : up ≡ even_of d.duties d.workers (d.from + part)) where
      abbrev middle : ℕ
      middle = d.from + part

      low : d.from < middle
      low = omega (arith, some)

      high : middle < d.to
      high = omega (arith, few)

      begin : share.first ≡ (even_of d.duties d.workers d.from).first
      begin = ap (λ (s : Range). s.first) is

      behind : up.first ≡ (even_of d.duties d.workers middle).first
      behind = ap (λ (s : Range). s.first) is-up

      pub up_le : share.first ≤ up.first
      up_le = omega (arith, begin, behind, first_le d.duties d.workers d.from middle (omega (arith, low)))

      pub within : up.first - share.first ≤ length ts
      within = omega (arith, begin, behind, a.long, first_le d.duties d.workers middle d.to (omega (arith, high)))

      module _ (xs ys : List T) (e : ts ≡ xs ++ ys) (n : length xs ≡ up.first - share.first) where
        long : length ts ≡ length xs + length ys
        long = ap length e ∙ length-append xs ys

        at_low : (k : ℕ) (z : T) → k < length xs → get_or ts k z ≡ get_or xs k z
        at_low k z lt = ap (λ l. get_or l k z) e ∙ get_or_append_left xs ys z k lt

        at_high : (k : ℕ) (z : T) → get_or ts (length xs + k) z ≡ get_or ys k z
        at_high k z = ap (λ l. get_or l (length xs + k) z) e ∙ get_or-append_right xs ys (length xs) (length xs + k) z refl (omega arith) ∙ (let f : length xs + k - length xs ≡ k = omega arith in ap (λ j. get_or ys j z) f)

        pub low_dealt : (ready : T → Type 0) → AllReady ready ts → AreDealt number (record { duties = d.duties; workers = d.workers; from = d.from; to = middle }) xs × AllReady ready xs
        low_dealt ready r = (
          record {
            some = low;
            most = omega (arith, a.most, high);
            first = λ k z lt. ap number (sym (at_low k z lt)) ∙ a.first k z (omega (arith, long));
            long = omega (arith, n, begin, behind, up_le);
          },
          λ k z lt. subst ready (at_low k z lt) (r k z (omega (arith, long))),
        )

        pub high_dealt : (ready : T → Type 0) → AllReady ready ts → AreDealt number (record { duties = d.duties; workers = d.workers; from = middle; to = d.to }) ys × AllReady ready ys
        high_dealt ready r = (
          record {
            some = high;
            most = a.most;
            first = λ k z lt. ap number (sym (at_high k z)) ∙ a.first (length xs + k) z (omega (arith, long)) ∙ omega (arith, n, begin, behind, up_le);
            long = omega (arith, n, begin, behind, up_le, long, a.long);
          },
          λ k z lt. subst ready (at_high k z) (r (length xs + k) z (omega (arith, long))),
        )

  module _ (ran : T → T → Type 0) where
    pub both_ran : (ts xs ys us vs : List T) → ts ≡ xs ++ ys → length us ≡ length xs → AllRan ran xs us → AllRan ran ys vs → AllRan ran ts (us ++ vs)
    both_ran ts xs ys us vs e n f g k d lt =
        subst (λ l. ran (get_or l k d) (get_or (us ++ vs) k d)) (sym e) (elim (cases_lt k (length xs)) as (λ _. ran (get_or (xs ++ ys) k d) (get_or (us ++ vs) k d)) [
          | inl l ↦ subst (λ x. ran x (get_or (us ++ vs) k d)) (sym (get_or_append_left xs ys d k l)) (subst (λ y. ran (get_or xs k d) y) (sym (get_or_append_left us vs d k (omega (arith, n)))) (f k d l))
          | inr le ↦
              let m : k - length xs < length ys = omega (arith, ap length e, length-append xs ys) in
              subst (λ x. ran x (get_or (us ++ vs) k d)) (sym (get_or-append_right xs ys (length xs) k d refl le)) (subst (λ y. ran (get_or ys (k - length xs) d) y) (sym (get_or-append_right us vs (length xs) k d n le)) (g (k - length xs) d m))
        ])

    -- those before k are done, and the others as they were
    abbrev pub DoneTo : ℕ → List T → List T → Type 0
    DoneTo k ts us = ((j : ℕ) (d : T) → k ≤ j → get_or us j d ≡ get_or ts j d) × ((j : ℕ) (d : T) → j < k → ran (get_or ts j d) (get_or us j d))

    pub none_done : (ts : List T) → DoneTo 0 ts ts
    none_done ts = (λ j d le. refl, λ j d lt. absurd (omega (arith, lt)))

    pub one_done : (k : ℕ) (ts us : List T) (x y : T) → k < length ts → length us ≡ length ts → DoneTo k ts us → ran (get_or us k x) y → DoneTo (k + 1) ts (set us k y)
    one_done k ts us x y lt n h r = (
      λ j d le. get_or-set_other us k j y d (λ e. omega (arith, e, le)) ∙ h.0 j d (omega (arith, le)),
      λ j d l. elim (cases_eq j k) as (λ _. ran (get_or ts j d) (get_or (set us k y) j d)) [
        | inl e ↦
            subst (λ i. ran (get_or ts i d) (get_or (set us k y) i d)) (sym e)
            (subst (ran (get_or ts k d)) (sym (get_or-set_same us k y d (omega (arith, n)))) (subst (λ w. ran w y) (get_or_default us k x d (omega (arith, n)) ∙ h.0 k d (omega arith)) r))
        | inr ne ↦ subst (ran (get_or ts j d)) (sym (get_or-set_other us k j y d ne)) (h.1 j d (different j k l ne))
      ],
    ) where
      different : (j k : ℕ) → j < k + 1 → (j ≡ k → ⊥) → j < k
      different j k l ne = elim (cases_lt j k) [ inl lt ↦ lt | inr le ↦ absurd (ne (omega (arith, l, le))) ]

pub some_left : (workers n k : ℕ) → 0 < workers → (n ≡ 0 → ⊥) → k ≡ min workers n → 0 < k
some_left workers zero k lt ne e = absurd (ne refl)
some_left workers (suc n) k lt ne e = omega (arith, e)
