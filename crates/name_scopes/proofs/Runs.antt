-- The runs of ranges of indexes lie among the components of a dimension (4.3.3).
use Rattle.std.proofs.Common.{◌≡◌, refl, sym, ap, subst, ◌∙◌, ℕ, suc, ◌+◌, ◌*◌, ◌-◌, ◌<◌, ◌≤◌, ℤ, pos, negsuc, neg_ℤ, ◌+ℤ◌, ◌-ℤ◌, int_le, List, [], ◌∷◌, Option, Some, None, Bool, true, false, if◌then◌else◌, option_map, leb-true, true≢false, ◌&&◌, arith}
use Rattle.std.proofs.Math.IntN.{neg_ℤ-+ℤ, +ℤ_assoc, +ℤ_invl, +ℤ_idl, +ℤ-neg_ℤ_cancel, -ℤ-+ℤ_cancel, +ℤ_comm, pos-+ℤ-pos}
use Rattle.std.proofs.Math.Nat.{add-mul, mul-le-mul_right, suc-mul}
use Rattle.std.specs.List.{list_all}
use Rattle.std.specs.Prelude.{not, unsigned_abs}
use Rattle.typed_scopes.specs.Scopes.{IsGiven, LieWithin}
use Rattle.typed_tree.specs.declared.expressions.Iterated.{Iterated}
use Rattle.typed_tree.specs.declared.expressions.Run.{Run}
use Rattle.name_rules.specs.Aggregates.{count_of, gaps_of, is_within, left_open, not_empty, runs_of, sorted, span_run}
use Rattle.name_rules.specs.Types.{extent}
use Rattle.name_rules.specs.declared.log.Dimension.{Dimension}

-- ---- how far one number is behind another

suc-plus : (b k : ℕ) → suc (b + k) ≡ suc b + k
suc-plus b k = omega arith

le-ex : (a b : ℤ) → int_le a b ≡ true → (k : ℕ) × (b ≡ a +ℤ pos k)
le-ex (pos a) (pos b) e = let l = leb-true a b e in (b - a, ap pos (sum_of a b l) ∙ sym (pos-+ℤ-pos a (b - a)))
  where
    sum_of : (a b : ℕ) → a ≤ b → b ≡ a + (b - a)
    sum_of a b l = omega arith
le-ex (pos a) (negsuc b) e = absurd (true≢false (sym e))
le-ex (negsuc a) (pos b) e = (suc a + b, sym (ap (λ z. negsuc a +ℤ z) (sym (pos-+ℤ-pos (suc a) b)) ∙ sym (+ℤ_assoc (negsuc a) (pos (suc a)) (pos b)) ∙ ap (λ z. z +ℤ pos b) (+ℤ_invl (pos (suc a))) ∙ +ℤ_idl (pos b)))
le-ex (negsuc a) (negsuc b) e = let l = leb-true b a e in (a - b, sym (ap (λ z. negsuc z +ℤ pos (a - b)) (sum_of a b l) ∙ ap (λ z. neg_ℤ (pos z) +ℤ pos (a - b)) (suc-plus b (a - b)) ∙ ap (λ z. neg_ℤ z +ℤ pos (a - b)) (sym (pos-+ℤ-pos (suc b) (a - b))) ∙ ap (λ z. z +ℤ pos (a - b)) (neg_ℤ-+ℤ (pos (suc b)) (pos (a - b))) ∙ -ℤ-+ℤ_cancel (negsuc b) (pos (a - b))))
  where
    sum_of : (a b : ℕ) → b ≤ a → a ≡ b + (a - b)
    sum_of a b l = omega arith

back : (l : ℤ) (n : ℕ) → l +ℤ pos n -ℤ l ≡ pos n
back l n = ap (λ z. z -ℤ l) (+ℤ_comm l (pos n)) ∙ +ℤ-neg_ℤ_cancel (pos n) l

far : (l h : ℤ) (n : ℕ) → h ≡ l +ℤ pos n → unsigned_abs (h -ℤ l) ≡ n
far l h n e = ap unsigned_abs (ap (λ z. z -ℤ l) e ∙ back l n)

along : (l m h : ℤ) (a b : ℕ) → m ≡ l +ℤ pos a → h ≡ m +ℤ pos b → h ≡ l +ℤ pos (a + b)
along l m h a b e f = f ∙ ap (λ z. z +ℤ pos b) e ∙ +ℤ_assoc l (pos a) (pos b) ∙ ap (λ z. l +ℤ z) (pos-+ℤ-pos a b)

-- ---- runs

rows : (a k e m : ℕ) → a + k < e → a * m + k * m + m ≤ e * m
rows a k e m h = let l : suc (a + k) * m ≤ e * m = mul-le-mul_right m h in omega (arith, l, suc-mul (a + k) m, add-mul a k m)

abbrev Lie : Dimension → ℕ → List Run → Type 0
Lie d apart rs = LieWithin (extent d * apart) apart rs

both-parts : (a b : Bool) → a && b ≡ true → (a ≡ true) × (b ≡ true)
both-parts true b h = (refl, h)
both-parts false b h = absurd (true≢false (sym h))

span-lies : (d : Dimension) (apart : ℕ) (r : ℤ × ℤ) (ys : List Run) → not_empty r ≡ true → is_within d r ≡ true → Lie d apart ys → Lie d apart (span_run d apart r ∷ ys)
span-lies d apart r ys h w l =
    let b = both-parts (int_le d.low r.0) (int_le r.1 d.high) w in
    let x = le-ex d.low r.0 b.0 in
    let y = le-ex r.0 r.1 h in
    let z = le-ex r.1 d.high b.1 in
    let first : unsigned_abs (r.0 -ℤ d.low) ≡ x.0 = far d.low r.0 x.0 x.1 in
    let many : count_of r ≡ y.0 + 1 = ap (λ c. if c then unsigned_abs (r.1 -ℤ r.0) + 1 else 0) h ∙ ap (λ n. n + 1) (far r.0 r.1 y.0 y.1) in
    let all : extent d ≡ x.0 + y.0 + z.0 + 1 = ap (λ n. n + 1) (far d.low d.high (x.0 + y.0 + z.0) (along d.low r.1 d.high (x.0 + y.0) z.0 (along d.low r.0 r.1 x.0 y.0 x.1 y.1) z.1)) in (
      omega (arith, many),
      (λ k m. subst (λ n. n * apart + k * apart + apart ≤ extent d * apart) (sym first) (rows x.0 k (extent d) apart (omega (arith, all, many, m)))),
      l,
    )

no-some : {A : Type 0} {x : A} → ◌≡◌ {A = Option A} None (Some x) → ⊥
no-some e = cc

run-step : (d : Dimension) (apart : ℕ) (r : ℤ × ℤ) (b c : Bool) (o : Option (List Run)) (xs : List Run) → not_empty r ≡ b → is_within d r ≡ c → ((ys : List Run) → o ≡ Some ys → Lie d apart ys)
    → (if not b then o else if c then option_map (λ ys. span_run d apart r ∷ ys) o else None) ≡ Some xs → Lie d apart xs
run-step d apart r false c o xs f g h e = h xs e
run-step d apart r true true (Some ys) xs f g h e = let same : span_run d apart r ∷ ys ≡ xs = cc in subst (Lie d apart) same (span-lies d apart r ys f g (h ys refl))
run-step d apart r true true None xs f g h e = absurd (no-some e)
run-step d apart r true false o xs f g h e = absurd (no-some e)

pub runs-lie : (d : Dimension) (apart : ℕ) (rs : List (ℤ × ℤ)) (xs : List Run) → runs_of d apart rs ≡ Some xs → LieWithin (extent d * apart) apart xs
runs-lie d apart [] [] e = tt
runs-lie d apart [] (x ∷ xs) e = absurd (no e)
  where
    no : ◌≡◌ {A = Option (List Run)} (Some []) (Some (x ∷ xs)) → ⊥
    no e = let z : ◌≡◌ {A = List Run} [] (x ∷ xs) = cc in cc
runs-lie d apart (r ∷ rs) xs e = run-step d apart r (not_empty r) (is_within d r) (runs_of d apart rs) xs refl refl (λ ys g. runs-lie d apart rs ys g) e

-- a range with a value has a run
given-step : (d : Dimension) (apart : ℕ) (i : Iterated) (r : ℤ × ℤ) (b c : Bool) (xs : List Run) → b ≡ true → (if not b then Some [] else if c then Some (span_run d apart r ∷ []) else None) ≡ Some xs → IsGiven (Some i) xs
given-step d apart i r true true xs f e = let same : span_run d apart r ∷ [] ≡ xs = cc in subst (IsGiven (Some i)) same tt
given-step d apart i r true false xs f e = absurd (no-some e)
given-step d apart i r false c xs f e = absurd (true≢false (sym f))

pub runs-given : (d : Dimension) (apart : ℕ) (i : Iterated) (r : ℤ × ℤ) (xs : List Run) → not_empty r ≡ true → runs_of d apart (r ∷ []) ≡ Some xs → IsGiven (Some i) xs
runs-given d apart i r xs h e = given-step d apart i r (not_empty r) (is_within d r) xs h e

-- what leaves gaps or none has a value in each range
pub gaps-whole : (low high : ℤ) (rs : List (ℤ × ℤ)) (os : List (ℤ × ℤ)) → gaps_of low high rs ≡ Some os → list_all not_empty rs ≡ true
gaps-whole low high rs os e = by (list_all not_empty rs) refl e
  where
    by : (b : Bool) → list_all not_empty rs ≡ b → (if b then left_open low high (sorted rs) else None) ≡ Some os → list_all not_empty rs ≡ true
    by true f e = f
    by false f e = absurd (no-some e)
