-- Numbers of cells and iterations, and the cells that are copied back.
use Rattle.std.proofs.Common.{◌≡◌, ℕ, zero, suc, ◌+◌, ◌*◌, ◌<◌, ◌≤◌, max, ℤ, List, [], ◌∷◌, ◌++◌, length, Option, Some, None, true, ap, refl, arith, ◌/◌, ◌%◌}
use native.Mathlib.Nat.{mul-add, mul_comm, mul-one, mod-add-div}
use Rattle.ada_base.specs.Cuts.{evens, shares}
use Rattle.ada_meaning.specs.Values.{without_zeros, laid, zeros}
use Rattle.ada_meaning.specs.Meaning.{Back, Passed}
use Rattle.check_effects.proofs.Good.{Allowed}
use Rattle.check_effects.proofs.Teams.{sum}

pub plus_zero : (n : ℕ) → n + 0 ≡ n
plus_zero n = omega arith

pub plus_suc : (n m : ℕ) → n + suc m ≡ (n + 1) + m
plus_suc n m = omega arith

pub sum_shares : (least k more : ℕ) → sum (shares least k more) ≤ least * k + more
sum_shares least zero more = omega arith
sum_shares least (suc k) zero = let h = sum_shares least k zero in let e = mul-add least k 1 in let o = mul-one least in omega arith
sum_shares least (suc k) (suc more) = let h = sum_shares least k more in let e = mul-add least k 1 in let o = mul-one least in omega arith

pub sum_evens : (n k : ℕ) → sum (evens n k) ≤ n
sum_evens n k = let h = sum_shares (n / k) k (n % k) in let e = mod-add-div n k in let c = mul_comm (n / k) k in omega arith

pub sum_without_zeros : (ns : List ℕ) → sum (without_zeros ns) ≤ sum ns
sum_without_zeros [] = omega arith
sum_without_zeros (zero ∷ ns) = let h = sum_without_zeros ns in omega arith
sum_without_zeros (suc n ∷ ns) = let h = sum_without_zeros ns in omega arith

-- where parameters are copied back, and how many cells
abbrev pub BackFine : Allowed → Option Back → Type 0
BackFine E None = Unit {0}
BackFine E (Some b) = (m : ℕ) → m < length b.cells → E.at true b.part.object (b.part.offset + m)

abbrev pub AllBack : Allowed → List Passed → Type 0
AllBack E [] = Unit {0}
AllBack E (p ∷ ps) = BackFine E p.back × AllBack E ps

abbrev pub Fitted : Option Back → List ℤ → Type 0
Fitted None vs = Unit {0}
Fitted (Some b) vs = length vs ≤ length b.cells

abbrev pub AllFitted : List Passed → List (List ℤ) → Type 0
AllFitted [] vss = Unit {0}
AllFitted (p ∷ ps) [] = Unit {0}
AllFitted (p ∷ ps) (vs ∷ vss) = Fitted p.back vs × AllFitted ps vss

pub length_laid : (cs : List ℤ) (first : ℕ) (over : List ℤ) → length (laid cs first over) ≡ length cs
length_laid [] first over = refl
length_laid (c ∷ cs) zero [] = refl
length_laid (c ∷ cs) zero (o ∷ os) = ap suc (length_laid cs zero os)
length_laid (c ∷ cs) (suc first) over = ap suc (length_laid cs first over)

pub length_zeros : (n : ℕ) → length (zeros n) ≡ n
length_zeros zero = refl
length_zeros (suc n) = ap suc (length_zeros n)

pub all_back : (E : Allowed) (qs : List Passed) (p : Passed) → AllBack E qs → BackFine E p.back → AllBack E (qs ++ (p ∷ []))
all_back E [] p h b = (b, tt)
all_back E (q ∷ qs) p h b = (h.0, all_back E qs p h.1 b)

pub one_more : (qs : List Passed) (p : Passed) (ps : List Passed) → (qs ++ (p ∷ [])) ++ ps ≡ qs ++ (p ∷ ps)
one_more [] p ps = refl
one_more (q ∷ qs) p ps = ap (λ z. q ∷ z) (one_more qs p ps)

-- those that were read so far fit, as many as there are
abbrev pub FitSoFar : List Passed → List (List ℤ) → Type 0
FitSoFar [] [] = Unit {0}
FitSoFar [] (vs ∷ vss) = ⊥
FitSoFar (p ∷ ps) [] = ⊥
FitSoFar (p ∷ ps) (vs ∷ vss) = Fitted p.back vs × FitSoFar ps vss

pub fit_more : (qs : List Passed) (so_far : List (List ℤ)) (p : Passed) (vs : List ℤ) → FitSoFar qs so_far → Fitted p.back vs → FitSoFar (qs ++ (p ∷ [])) (so_far ++ (vs ∷ []))
fit_more [] [] p vs h f = (f, tt)
fit_more [] (ws ∷ vss) p vs h f = absurd h
fit_more (q ∷ qs) [] p vs h f = absurd h
fit_more (q ∷ qs) (ws ∷ vss) p vs h f = (h.0, fit_more qs vss p vs h.1 f)

pub fit_all : (qs : List Passed) (vss : List (List ℤ)) → FitSoFar qs vss → AllFitted (qs ++ []) vss
fit_all [] vss h = tt
fit_all (q ∷ qs) [] h = tt
fit_all (q ∷ qs) (vs ∷ vss) h = (h.0, fit_all qs vss h.1)

-- no more cells than the width
pub le_left : (a b n : ℕ) → n ≤ a → n ≤ max a b
le_left a b n h = omega arith

pub le_right : (a b n : ℕ) → n ≤ b → n ≤ max a b
le_right a b n h = omega arith

pub no_more : (a b : ℕ) → a ≡ b → a ≤ b
no_more a b e = omega arith
